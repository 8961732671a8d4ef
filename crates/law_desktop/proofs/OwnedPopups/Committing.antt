-- A commit comes to what the shell answers, and a popup is placed and configured so.
use Rattle.std.proofs.Common.{◌≡◌, ℕ, List, [], ◌∷◌, ◌++◌, Bool, true, false, Option, Some, None, Result, refl, ap, subst, sym, ◌∙◌, eq-eqb}
use Rattle.std.specs.Prelude.{ℤ, IfSome, Err, Ok, if◌then◌else◌}
use Rattle.std.specs.Option.{option_and_then, option_map}
use Rattle.wl_geom.specs.declared.rect.Rect.{Rect}
use Rattle.spec_desktop.specs.Told.{Said}
use Rattle.wl_links.specs.Family.{Tied}
use Rattle.wl_surface.specs.Slots.{Slots}
use Rattle.wl_shell.specs.declared.acts.ShellAct.{ShellAct}
use Rattle.wl_shell.specs.declared.acts.ShellAct.TheVariants.{Configure, Map, Unmap}
use Rattle.wl_shell.specs.declared.error.ShellError.{ShellError}
use Rattle.wl_shell.specs.declared.error.ShellError.TheVariants.{TooMany}
use Rattle.wl_shell.specs.Kept.{Kept, changing, commit_answer, effect_answer, kept_after, placement_in, popup_placed}
use Rattle.wl_shell.specs.Popups.{effect_in, in_force, kind_popup, popup_in, waiting_in, with_popup, with_popup_role}
use Rattle.wl_shell.specs.Positioner.{Placed, place}
use Rattle.wl_shell.specs.Shell.{Configure as Waits, Effect, Stays, Configures, Maps, Unmaps, IsPopup, Kind, Popup, RoleObject, Toplevel, Waiting, XdgSurface}
use Rattle.wl_shell.specs.Shell.{at_stage, is_full, xdg_of}
use Rattle.spec_desktop.specs.Popups.{parent_corner}
use Rattle.spec_desktop.specs.Changing.{output_rect, placement_now}
use Rattle.spec_desktop.specs.Desktop.{Desktop, Resident}
use Rattle.spec_desktop.specs.Replies.{commit_told, configure_told, popup_told, role_told as role_answered}
use Rattle.spec_desktop.specs.Step.{xdg_configured}
use Rattle.spec_desktop.specs.WlSurface.{will_show}
use Rattle.law_desktop.specs.Owning.{IsOwned, Names, effect_by}
use Rattle.law_desktop.specs.OwnedPopups.{CommitTold, Committed, IsAtParent, PopupsCommit, act_told, corner_of, object_told, popup_of_surface, role_told}
use Rattle.law_desktop.proofs.Keeping.OwningAsks.{answered-effect, owned-placed}
use Rattle.law_desktop.proofs.Keeping.OwningXdg.{xdg-of}

-- ---- where it is placed

pub place-now : (at : ℤ × ℤ) (c : ℕ) (r : Resident) (d : Desktop) (bounds : Rect) (popup : Popup) → bounds ≡ output_rect d.output
    → at ≡ corner_of (parent_corner d.standing c r.owned popup.parent) → placement_now c r d popup ≡ place popup.positioner bounds at
place-now at c r d bounds popup within there =
    ap (λ (b : Rect). place popup.positioner b (corner_of (parent_corner d.standing c r.owned popup.parent))) (sym within) ∙ ap (place popup.positioner bounds) (sym there)

places : (at : ℤ × ℤ) (c : ℕ) (r : Resident) (d : Desktop) (bounds : Rect) (o : Option Popup) → bounds ≡ output_rect d.output
    → IfSome o (λ popup. at ≡ corner_of (parent_corner d.standing c r.owned popup.parent)) → IfSome o (λ popup. placement_now c r d popup ≡ place popup.positioner bounds at)
places at c r d bounds None within there = tt
places at c r d bounds (Some popup) within there = place-now at c r d bounds popup within there

committed : Committed
committed names slots tied kept r c id number bounds at act d new tying after is once apart roots named makes within there answer keeps =
    owned-placed names slots tied kept r is (placement_now c r d) id number (will_show r id) bounds at act new tying after
    (places at c r d bounds (popup_of_surface id r.owned.shell) within there) once apart roots named makes answer keeps

-- ---- what is told of it

-- it is placed where the shell answers
answered-place : (placed by waiting : Option Placed) (effect : Effect) (configures : List Waits) → effect_answer by waiting effect configures ≡ Ok (Configure placed) → by ≡ placed
answered-place placed by None Stays configures e = absurd (cc)
answered-place placed by waiting Configures configures e = at (is_full configures) e
  where
    at : (b : Bool) → ◌≡◌ {A = Result ShellAct ShellError} (if b then Err TooMany else Ok (Configure by)) (Ok (Configure placed)) → by ≡ placed
    at true e = absurd (cc)
    at false e = cc
answered-place placed by waiting effect configures e = absurd (cc)

-- the configure of a role object that was placed
told-so : (at : ℤ × ℤ) (c : ℕ) (r : Resident) (d : Desktop) (bounds : Rect) (placed : Option Placed) (xdg : ℕ) (o : Option RoleObject) → bounds ≡ output_rect d.output
    → IfSome (popup_in o) (λ popup. at ≡ corner_of (parent_corner d.standing c r.owned popup.parent)) → placement_in bounds at o ≡ placed
    → configure_told c r d xdg o ≡ object_told placed r.peer.serial xdg (option_map (with_popup_role (in_force placed)) (option_map (at_stage Waiting) o))
told-so at c r d bounds placed xdg None within there same = refl
told-so at c r d bounds placed xdg (Some object) within there same =
    ap (λ (es : List Said). es ++ xdg_configured xdg r.peer.serial ∷ []) (kinds object.kind there same)
  where
    kinds : (k : Kind) → IfSome (kind_popup k) (λ popup. at ≡ corner_of (parent_corner d.standing c r.owned popup.parent)) → popup_placed bounds at (kind_popup k) ≡ placed
        → role_answered c r d object.id k ≡ role_told placed object.id (with_popup (in_force placed) k)
    kinds Toplevel there same = refl
    kinds (IsPopup popup) there same = ap (popup_told object.id) (place-now at c r d bounds popup within there ∙ same)

one-kept : (shows : Bool) (bounds : Rect) (at : ℤ × ℤ) (o : Option Kept) (placed : Option Placed) → commit_answer shows bounds at o ≡ Ok (Configure placed) → (k : Kept) × (o ≡ Some k)
one-kept shows bounds at None placed e = absurd (cc)
one-kept shows bounds at (Some k) placed e = (k, refl)

mapped-told : (c : ℕ) (o : Option XdgSurface) (r : Resident) (d : Desktop) → commit_told c Maps o r d ≡ []
mapped-told c None r d = refl
mapped-told c (Some x) r d = refl

unmapped-told : (c : ℕ) (o : Option XdgSurface) (r : Resident) (d : Desktop) → commit_told c Unmaps o r d ≡ []
unmapped-told c None r d = refl
unmapped-told c (Some x) r d = refl

still-told : (c : ℕ) (o : Option XdgSurface) (r : Resident) (d : Desktop) → commit_told c Stays o r d ≡ []
still-told c None r d = refl
still-told c (Some x) r d = refl

module _ (names : Names) (slots : Slots) (tied : Tied) (kept : ℕ → Option Kept) (r : Resident) (is : IsOwned names slots tied kept r.owned) (c id number : ℕ)
    (named : names.surfaces id ≡ Some number) (bounds : Rect) (at : ℤ × ℤ) (d : Desktop) (within : bounds ≡ output_rect d.output) (there : IsAtParent at c id r d) where
  configure-so : (placed : Option Placed) → commit_answer (will_show r id) bounds at (kept number) ≡ Ok (Configure placed)
      → commit_told c Configures (xdg_of id r.owned.shell) r d
      ≡ act_told (Configure placed) r.peer.serial (changing number (kept_after r.peer.serial (Configure placed)) kept number)
  configure-so placed answer =
      let has = one-kept (will_show r id) bounds at (kept number) placed answer in
      let k = has.0 in
      let xdg = xdg-of names slots tied kept r.owned is id number k named has.1 in
      let x = xdg.0 in
      let stands = xdg.2.stands in
      let change = kept_after r.peer.serial (Configure placed) in
      let now : changing number change kept number ≡ Some (change k) =
      ap (λ (b : Bool). if b then option_map change (kept number) else kept number) (eq-eqb number number refl) ∙ ap (option_map change) has.1 in
      let by : placement_in bounds at k.role ≡ placed =
      answered-place placed (placement_in bounds at k.role) (waiting_in k.role) (effect_in (will_show r id) k.role) k.configures (ap (commit_answer (will_show r id) bounds at) (sym has.1) ∙ answer) in
      let its = subst (λ (o : Option XdgSurface). IfSome (option_and_then (λ x. popup_in x.role) o)
      (λ popup. at ≡ corner_of (parent_corner d.standing c r.owned popup.parent))) xdg.3 there in
      ap (λ (o : Option XdgSurface). commit_told c Configures o r d) xdg.3
      ∙ told-so at c r d bounds placed x.id x.role within its (ap (placement_in bounds at) (sym stands.role) ∙ by)
      ∙ ap (λ (i : ℕ). object_told placed r.peer.serial i (option_map (with_popup_role (in_force placed)) (option_map (at_stage Waiting) x.role))) (sym stands.id)
      ∙ ap (λ (o : Option RoleObject). object_told placed r.peer.serial k.id (option_map (with_popup_role (in_force placed)) (option_map (at_stage Waiting) o))) (sym stands.role)
      ∙ sym (ap (act_told (Configure placed) r.peer.serial) now)

  by-act : (act : ShellAct) → commit_answer (will_show r id) bounds at (kept number) ≡ Ok act
      → commit_told c (effect_by act) (xdg_of id r.owned.shell) r d ≡ act_told act r.peer.serial (changing number (kept_after r.peer.serial act) kept number)
  by-act (Configure placed) answer = configure-so placed answer
  by-act Map answer = mapped-told c (xdg_of id r.owned.shell) r d
  by-act Unmap answer = unmapped-told c (xdg_of id r.owned.shell) r d
  by-act act answer = still-told c (xdg_of id r.owned.shell) r d

told : CommitTold
told names slots tied kept r c id number bounds at act d windows after is named within there answer keeps =
    ap (λ (effect : Effect). commit_told c effect (xdg_of id r.owned.shell) r d)
    (answered-effect names slots tied kept r is id number (will_show r id) bounds at act named answer)
    ∙ by-act names slots tied kept r is c id number named bounds at d within there act answer
    ∙ ap (λ (ks : ℕ → Option Kept). act_told act r.peer.serial (ks number)) (sym keeps)

pub popups-commit : PopupsCommit
popups-commit = record { committed = committed; told = told }
