-- A popup is placed anew: what is demanded is done and told (xdg-shell.xml, xdg_popup.reposition).
use Rattle.std.proofs.Common.{Bool, List, None, Option, Result, Some, ap, append-nil, false, inr, refl, subst, sym, true, ℕ, ◌++◌, ◌∙◌, ◌≡◌, ◌≤◌}
use Rattle.std.specs.Prelude.{ℤ, ◌&&◌, Ok, Err, if◌then◌else◌, is_some}
use Rattle.std.specs.Option.{option_and_then, option_map}
use Rattle.wl_proto.specs.declared.interface.Interface.TheVariants.{XdgPopup}
use Rattle.wl_table.specs.declared.entry.Entry.{Entry}
use Rattle.wl_client.specs.Agreement.{IsPeer}
use Rattle.wl_geom.specs.declared.rect.Rect.{Rect}
use Rattle.spec_desktop.specs.declared.refusals.Refusal.{Refusal}
use Rattle.spec_desktop.specs.Objects.{Objects, is_of, object_of}
use Rattle.spec_desktop.specs.Peer.{Errs, Peer, Queues, counted}
use Rattle.spec_desktop.specs.Told.{Said}
use Rattle.wl_surface.specs.State.{History}
use Rattle.wl_shell.specs.declared.error.ShellError.{ShellError}
use Rattle.wl_shell.specs.declared.error.ShellError.TheVariants as failed
use Rattle.wl_shell.specs.Kept.{Kept as KeptXdg, changing, is_configured_in, kept_of, kept_repositioning, placed_anew, reposition_answer, reposition_by}
use Rattle.wl_shell.specs.Popups.{Popped, is_configured, kind_popup, popup_at, popup_in}
use Rattle.wl_shell.specs.Positioner.{Placed, Positioner, is_complete, place}
use Rattle.wl_shell.specs.Shell.{Configure, Popup, XdgSurface as Xdg, is_full, xdg_with}
use Rattle.spec_desktop.specs.Changing.{Placing as WhereTo, changed_for, drawing, placement_now, popup_repositioned}
use Rattle.spec_desktop.specs.Demand.{Demand, Reposition}
use Rattle.spec_desktop.specs.Desktop.{Desktop, Resident, unpointed}
use Rattle.spec_desktop.specs.Replies.{own_answers}
use Rattle.spec_desktop.specs.Stacked.{all_windows}
use Rattle.spec_desktop.specs.Step.{with_peer, xdg_changed}
use Rattle.law_desktop.proofs.KeptRecords.Toplevels.Releases.{still-released}
use Rattle.law_desktop.specs.Ordered.{OwnsOrdered}
use Rattle.law_desktop.specs.Owning.{IsXdg, kept_base, shell_refusal}
use Rattle.law_desktop.specs.OwnedPopups.{IsAtParentOf, anew_told, popup_with}
use Rattle.law_desktop.specs.RoleNames.{names_of}
use Rattle.law_desktop.proofs.Keeping.OwningXdg.{toplevel-named}
use Rattle.law_desktop.proofs.OwnedPopups.Grabbing.{popped}
use Rattle.law_desktop.proofs.OwnedPopups.Knowing.{roles-known}
use Rattle.law_desktop.proofs.OwnedPopups.Naming.{roles-named}
use Rattle.law_desktop.proofs.OwnedPopups.Repositioning.{popups-anew}
use Rattle.wl_requests.specs.declared.residents.Placing.{Placing}
use Rattle.wl_requests.specs.declared.residents.Resident.{Resident as Kept}
use Rattle.wl_requests.specs.Placing.{IsPlacing}
use Rattle.wl_requests.specs.Residents.{AnswersSo, IsPopup, IsResident, MeetsSo, drawn_if}
use Rattle.wl_requests.proofs.Framing.{one-more}
use Rattle.wl_requests.proofs.Meeting.{meets-so, told_for}
use Rattle.wl_requests.proofs.PopupsGrabbed.{left-still}
use Rattle.wl_requests.proofs.Shelling.{entry-named, refused-whole}

-- ---- the object is a popup, and it is placed so

pub placed-there : {A : Type 0} (old new : Kept A) (object number : ℕ) (placing : Placing) (judged : Option Xdg → Result Demand Refusal) (c : ℕ) (d : Desktop) (r : Resident) → IsResident old r
    → OwnsOrdered r → IsPopup old object number → IsPlacing placing c (popup_with object r.owned.shell) r d
    → ((k : KeptXdg) (x : Xdg) (h : History) (p : Popped) → IsXdg (names_of old.client.objects) (kept_of old.owned.shell) r.owned number k x h → popup_at x.id r.owned.shell ≡ Some p
    → p.object.id ≡ object → IsPlacing placing c (Some p.popup) r d → AnswersSo (judged (Some x)) c r d old new)
    → AnswersSo (judged (xdg_with object r.owned.shell)) c r d old new
placed-there old new object number placing judged c d r is ordered named placed answers =
    let names = names_of old.client.objects in
    let kept = kept_of old.owned.shell in
    let one = toplevel-named names old.owned.surfaces.states old.owned.surfaces.family kept r.owned is.owns object number (roles-named.popup old.client.objects object number named) in
    let entry = entry-named XdgPopup old.client.objects object number named in
    let there : is_of XdgPopup (r.peer.objects object) ≡ true =
    ap (λ (o : Objects). is_of XdgPopup (o object)) (sym is.peer.objects) ∙ ap (λ (e : Option Entry). is_of XdgPopup (option_map object_of e)) entry.1 ∙ entry.2 in
    let known = roles-known.popup r object one.1 ordered.order there one.4 in
    let its = popped names kept r.owned number one.0 one.1 one.2 one.3 known.0 known.1 in
    let same : popup_with object r.owned.shell ≡ Some known.0.popup =
    ap (option_and_then (λ (x : Xdg). popup_in x.role)) one.4 ∙ ap popup_in its.role ∙ ap kind_popup its.kind in
    subst (λ (o : Option Xdg). AnswersSo (judged o) c r d old new) (sym one.4)
    (answers one.0 one.1 one.2 known.0 one.3 known.1 known.2
    (record { bounds = placed.bounds; parent = subst (λ (o : Option Popup). IsAtParentOf o placing.parent_at c r d) same placed.parent }))

-- ---- what changes of the client

still-surfaces : (b : Bool) (xdg : ℕ) (step : Xdg → Xdg) (r : Resident) → (drawing b (xdg_changed xdg step r)).owned.surfaces ≡ r.owned.surfaces
still-surfaces true xdg step r = refl
still-surfaces false xdg step r = refl

still-callbacks : (b : Bool) (xdg : ℕ) (step : Xdg → Xdg) (r : Resident) → (drawing b (xdg_changed xdg step r)).callbacks ≡ r.callbacks
still-callbacks true xdg step r = refl
still-callbacks false xdg step r = refl

still-subsurfaces : (b : Bool) (xdg : ℕ) (step : Xdg → Xdg) (r : Resident) → (drawing b (xdg_changed xdg step r)).subsurfaces ≡ r.subsurfaces
still-subsurfaces true xdg step r = refl
still-subsurfaces false xdg step r = refl

module _ (where_to : WhereTo) (positioner : Positioner) where
  anew-surfaces : (o : Option Popped) (r : Resident) → (popup_repositioned where_to positioner o r).owned.surfaces ≡ r.owned.surfaces
  anew-surfaces None r = refl
  anew-surfaces (Some p) r = still-surfaces (is_configured p) p.xdg.id _ r

  anew-callbacks : (o : Option Popped) (r : Resident) → (popup_repositioned where_to positioner o r).callbacks ≡ r.callbacks
  anew-callbacks None r = refl
  anew-callbacks (Some p) r = still-callbacks (is_configured p) p.xdg.id _ r

  anew-subsurfaces : (o : Option Popped) (r : Resident) → (popup_repositioned where_to positioner o r).subsurfaces ≡ r.subsurfaces
  anew-subsurfaces None r = refl
  anew-subsurfaces (Some p) r = still-subsurfaces (is_configured p) p.xdg.id _ r

drawn-same : (b : Bool) (r : Resident) → (drawing b r).peer ≡ drawn_if b r.peer
drawn-same true r = refl
drawn-same false r = refl

drawn-requests : (b : Bool) (p : Peer) → (drawn_if b p).requests ≡ p.requests
drawn-requests true p = refl
drawn-requests false p = refl

-- ---- it is done, and told

module _ {A : Type 0} (old new : Kept A) (c : ℕ) (r : Resident) (d : Desktop) (number token : ℕ) (positioner : Positioner) (placing : Placing) (k : KeptXdg) (x : Xdg) (h : History) (p : Popped)
    (is : IsResident old r) (one : IsXdg (names_of old.client.objects) (kept_of old.owned.shell) r.owned number k x h) (here : popup_at x.id r.owned.shell ≡ Some p)
    (its : IsPlacing placing c (Some p.popup) r d) where
  abbrev counted_one : Resident
  counted_one = with_peer (counted r.peer) r

  abbrev demand : Demand
  demand = Reposition x.id token positioner

  abbrev after : Resident
  after = changed_for c demand counted_one (unpointed d)

  pub anew-done : (placed : Option Placed) → reposition_answer positioner placing.bounds placing.parent_at (kept_of old.owned.shell number) ≡ Ok placed
      → kept_of new.owned.shell ≡ changing number (kept_repositioning placed r.peer.serial positioner) (kept_of old.owned.shell) → new.owned.surfaces ≡ old.owned.surfaces
      → new.subsurfaces ≡ old.subsurfaces → (new.client.ended ≡ None → names_of new.client.objects ≡ names_of old.client.objects)
      → (q : Peer) × Queues (anew_told placed token r.peer.serial p.object.id x.id) (drawn_if (is_some placed) (counted r.peer)) q × IsPeer new.client q
      → MeetsSo c demand counted_one d old new
  anew-done placed answer keeps linked kept table queued =
      let names = names_of old.client.objects in
      let before = kept_of old.owned.shell in
      let both = popups-anew.told names before counted_one number k x h c token p positioner placing.bounds placing.parent_at placed (unpointed d) (all_windows d) one here its.bounds its.parent
      answer in
      let o = popup_at x.id r.owned.shell in
      let where_to = placement_now c counted_one (unpointed d) in
      let surfaces : after.owned.surfaces ≡ r.owned.surfaces = anew-surfaces where_to positioner o counted_one in
      let peer : after.peer ≡ drawn_if (is_some placed) (counted r.peer) = both.1 ∙ drawn-same (is_some placed) counted_one in
      let requests : after.peer.requests ≡ (counted r.peer).requests = ap (λ (q : Peer). q.requests) peer ∙ drawn-requests (is_some placed) (counted r.peer) in
      let own = own_answers c demand counted_one (all_windows d) (unpointed d) in
      let events : told_for c demand counted_one d ≡ anew_told placed token r.peer.serial p.object.id x.id =
      ap (λ (es : List Said). own ++ es) (still-released counted_one after surfaces) ∙ append-nil own ∙ both.0 in
      let queues : Queues (told_for c demand counted_one d) after.peer queued.0 =
      subst (λ (q : Peer). Queues (told_for c demand counted_one d) q queued.0) (sym peer)
      (subst (λ (es : List Said). Queues es (drawn_if (is_some placed) (counted r.peer)) queued.0) (sym events) queued.1) in
      meets-so old new c d demand counted_one refl (
        queued.0,
        inr queues,
        left-still old new r after queued.0 is queued.2 (anew-callbacks where_to positioner o counted_one) (subst (λ (n : ℕ). r.peer.requests ≤ n) (sym requests) (one-more r.peer.requests)) surfaces
            (anew-subsurfaces where_to positioner o counted_one) linked kept table
            (λ alive. popups-anew.repositioned names old.owned.surfaces.states old.owned.surfaces.family before counted_one number k x h c token p positioner placing.bounds placing.parent_at placed
            (unpointed d) (kept_of new.owned.shell) is.owns one here its.bounds its.parent answer keeps),
      )

-- ---- it is refused, as a limit is, or with the xdg_wm_base

refused-by : (b : Bool) (positioner : Positioner) (now : Option Placed) (configures : List Configure) (base xdg object : ℕ) (error : ShellError) → reposition_by b positioner now configures ≡ Err error
    → shell_refusal base xdg object error ≡ shell_refusal base object object error
refused-by b positioner now configures base xdg object error = at (b && is_full configures) (is_complete positioner)
  where
    many : ◌≡◌ {A = Result (Option Placed) ShellError} (Err failed.TooMany) (Err error) → shell_refusal base xdg object error ≡ shell_refusal base object object error
    many e = let same : failed.TooMany ≡ error = cc in subst (λ (f : ShellError). shell_refusal base xdg object f ≡ shell_refusal base object object f) same refl

    bare : ◌≡◌ {A = Result (Option Placed) ShellError} (Err failed.InvalidPositioner) (Err error) → shell_refusal base xdg object error ≡ shell_refusal base object object error
    bare e = let same : failed.InvalidPositioner ≡ error = cc in subst (λ (f : ShellError). shell_refusal base xdg object f ≡ shell_refusal base object object f) same refl

    at : (f g : Bool) → ◌≡◌ {A = Result (Option Placed) ShellError} (if f then Err failed.TooMany else (if g then Ok (placed_anew b now) else Err failed.InvalidPositioner)) (Err error)
        → shell_refusal base xdg object error ≡ shell_refusal base object object error
    at true g e = many e
    at false true e = absurd (cc)
    at false false e = bare e

by-kept : (positioner : Positioner) (bounds : Rect) (at : ℤ × ℤ) (k : KeptXdg) (base xdg object : ℕ) (error : ShellError) → reposition_answer positioner bounds at (Some k) ≡ Err error
    → shell_refusal base xdg object error ≡ shell_refusal base object object error
by-kept positioner bounds place_at k base xdg object error = at (is_some (popup_in k.role))
  where
    at : (b : Bool) → ◌≡◌ {A = Result (Option Placed) ShellError}
        (if b then reposition_by (is_configured_in k.role) positioner (place positioner bounds place_at) k.configures else Ok None) (Err error)
        → shell_refusal base xdg object error ≡ shell_refusal base object object error
    at true e = refused-by (is_configured_in k.role) positioner (place positioner bounds place_at) k.configures base xdg object error e
    at false e = absurd (cc)

pub anew-refused : {A : Type 0} (old new : Kept A) (mid : ℕ → Option KeptXdg) (c : ℕ) (r : Resident) (d : Desktop) (object number : ℕ) (k : KeptXdg) (x : Xdg) (h : History) (positioner : Positioner)
    (bounds : Rect) (at : ℤ × ℤ) (error : ShellError) (judged : Result Demand Refusal) → IsXdg (names_of old.client.objects) (kept_of old.owned.shell) r.owned number k x h
    → reposition_answer positioner bounds at (kept_of old.owned.shell number) ≡ Err error → judged ≡ Err (shell_refusal x.base x.id object error) → mid ≡ kept_of old.owned.shell
    → is_some new.client.ended ≡ true
    → (q : Peer) × Errs (shell_refusal (kept_base (mid number)) object object error) r.peer q × IsPeer new.client q → AnswersSo judged c r d old new
anew-refused old new mid c r d object number k x h positioner bounds at error judged one answer e still ended errs =
    let base : kept_base (mid number) ≡ x.base = ap (λ (o : ℕ → Option KeptXdg). kept_base (o number)) still ∙ ap kept_base one.here ∙ one.stands.base in
    let told : shell_refusal x.base x.id object error ≡ shell_refusal (kept_base (mid number)) object object error =
    by-kept positioner bounds at k x.base x.id object error (ap (reposition_answer positioner bounds at) (sym one.here) ∙ answer)
    ∙ sym (ap (λ (b : ℕ). shell_refusal b object object error) base) in
    refused-whole old new c r d judged (shell_refusal (kept_base (mid number)) object object error) (e ∙ ap (λ (f : Refusal). Err f) told) ended errs
