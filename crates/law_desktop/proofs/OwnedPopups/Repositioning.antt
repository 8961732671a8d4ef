-- What is asked where a popup is placed anew, what comes of it, and what is told of it, is what the shell answers and does.
use Rattle.std.proofs.Common.{◌≡◌, ℕ, List, [], ◌∷◌, ◌++◌, Bool, true, false, Option, Some, None, Result, refl, ap, subst, sym, ◌∙◌}
use Rattle.std.specs.Prelude.{ℤ, ◌&&◌, Ok, Err, if◌then◌else◌, is_some}
use Rattle.std.specs.Option.{option_and_then}
use Rattle.wl_wire.specs.Wire.{Word}
use Rattle.wl_proto.specs.declared.interface.Interface.TheVariants.{XdgPopup}
use Rattle.wl_proto.specs.Messages.{says}
use Rattle.wl_geom.specs.declared.rect.Rect.{Rect}
use Rattle.spec_desktop.specs.declared.refusals.ErrorCode.TheVariants as error
use Rattle.spec_desktop.specs.Told.{Said, said}
use Rattle.wl_surface.specs.State.{History}
use Rattle.wl_shell.specs.declared.error.ShellError.{ShellError}
use Rattle.wl_shell.specs.declared.error.ShellError.TheVariants as failed
use Rattle.wl_shell.specs.Kept.{Kept, changing, kept_repositioning, placed_anew, reposition_answer, reposition_by}
use Rattle.wl_shell.specs.Popups.{Popped, copying, first_of, is_configured, popped_of, popup_at, repositioning}
use Rattle.wl_shell.specs.Positioner.{Placed, Positioner, is_complete, place}
use Rattle.wl_shell.specs.Shell.{Configure, XdgSurface, is_full}
use Rattle.wl_shell.proofs.Standing.{changes_stand}
use Rattle.spec_desktop.specs.Stacking.{Owned}
use Rattle.spec_desktop.specs.Changing.{changed_for, drawing, placement_now, popup_repositioned}
use Rattle.spec_desktop.specs.Demand.{Reposition}
use Rattle.spec_desktop.specs.Desktop.{Resident}
use Rattle.spec_desktop.specs.Replies.{popup_told, reposition_told}
use Rattle.spec_desktop.specs.Step.{xdg_changed, xdg_configured}
use Rattle.spec_desktop.specs.WlSubsurface.{past_limit, refuses}
use Rattle.spec_desktop.specs.XdgPopup.{repositioned_by}
use Rattle.law_desktop.specs.Owning.{IsOwned, IsXdg, KeepsRole, Names, asks_by, shell_refusal}
use Rattle.law_desktop.specs.OwnedPopups.{PopupsAnew, RepositionAsked, RepositionTold, Repositioned, anew_told}
use Rattle.law_desktop.proofs.OwnedPopups.Committing.{place-now}
use Rattle.law_desktop.proofs.OwnedPopups.Grabbing.{popped}
use Rattle.law_desktop.proofs.OwnedPopups.Stepping.{popup-keeps, shell-stepped}
use Rattle.law_desktop.proofs.Runs.Following.{drawing-owned}

repositioning-keeps : (b : Bool) (serial : ℕ) (placement : Option Placed) (positioner : Positioner) → KeepsRole (repositioning b serial placement positioner)
repositioning-keeps false serial placement positioner = popup-keeps (copying positioner)
repositioning-keeps true serial placement positioner = record {
  id = λ x. refl;
  surface = λ x. refl;
  role = λ object x. (popup-keeps (copying positioner)).role object x;
}

-- a place is answered, or nothing is, by whether the popup was configured before
placed-so : (b : Bool) (positioner : Positioner) (now placed : Option Placed) (configures : List Configure) → reposition_by b positioner now configures ≡ Ok placed → placed_anew b now ≡ placed
placed-so b positioner now placed configures = at (b && is_full configures) (is_complete positioner)
  where
    at : (f g : Bool) → ◌≡◌ {A = Result (Option Placed) ShellError} (if f then Err failed.TooMany else (if g then Ok (placed_anew b now) else Err failed.InvalidPositioner)) (Ok placed)
        → placed_anew b now ≡ placed
    at true g e = absurd (cc)
    at false true e = cc
    at false false e = absurd (cc)

told-so : (b : Bool) (now placed : Option Placed) (token serial popup xdg : ℕ) → placed_anew b now ≡ placed → is_some placed ≡ b
    → ◌≡◌ {A = List Said} (if b then said popup (says XdgPopup 2 (Word token ∷ [])) ∷ popup_told popup now ++ xdg_configured xdg serial ∷ [] else []) (anew_told placed token serial popup xdg)
told-so false now None token serial popup xdg e is = refl
told-so false now (Some placed) token serial popup xdg e is = absurd (cc)
told-so true now None token serial popup xdg e is = absurd (cc)
told-so true now (Some placed) token serial popup xdg e is =
    ap (λ (o : Option Placed). said popup (says XdgPopup 2 (Word token ∷ [])) ∷ popup_told popup o ++ xdg_configured xdg serial ∷ []) e

drawn-peer : (b : Bool) (xdg : ℕ) (step : XdgSurface → XdgSurface) (r : Resident) → (drawing b (xdg_changed xdg step r)).peer ≡ (drawing b r).peer
drawn-peer true xdg step r = refl
drawn-peer false xdg step r = refl

module _ (names : Names) (kept : ℕ → Option Kept) (o : Owned) (number : ℕ) (k : Kept) (x : XdgSurface) (h : History) (one : IsXdg names kept o number k x h) (p : Popped)
    (here : popup_at x.id o.shell ≡ Some p) where
  first : first_of (popped_of x) ≡ Some p
  first = sym (ap (option_and_then (λ (x : XdgSurface). first_of (popped_of x))) one.at_id) ∙ here

  answered : (positioner : Positioner) (bounds : Rect) (at : ℤ × ℤ)
      → reposition_answer positioner bounds at (kept number) ≡ reposition_by (is_configured p) positioner (place positioner bounds at) x.configures
  answered positioner bounds at = ap (reposition_answer positioner bounds at) one.here ∙ changes_stand.answered positioner bounds at k x h p first one.stands

reposition-asked : RepositionAsked
reposition-asked names kept o number k x h object token p positioner bounds place_at one here =
    ap (repositioned_by x token positioner) here
    ∙ at (is_configured p && is_full x.configures) (is_complete positioner)
    ∙ ap (asks_by (λ (placed : Option Placed). Reposition x.id token positioner) (shell_refusal x.base x.id object))
    (sym (answered names kept o number k x h one p here positioner bounds place_at))
  where
    at : (f g : Bool) → (if f then past_limit else (if g then Ok (Reposition x.id token positioner) else refuses x.base error.InvalidPositioner))
        ≡ asks_by (λ (placed : Option Placed). Reposition x.id token positioner) (shell_refusal x.base x.id object)
        (if f then Err failed.TooMany else (if g then Ok (placed_anew (is_configured p) (place positioner bounds place_at)) else Err failed.InvalidPositioner))
    at true g = refl
    at false true = refl
    at false false = refl

repositioned : Repositioned
repositioned names slots tied kept r number k x h c token p positioner bounds at placed d after is one here within there answer keeps =
    let where_to = placement_now c r d in
    let serial = r.peer.serial in
    let b = is_configured p in
    let place = where_to (copying positioner p.popup) in
    let step = repositioning b serial place positioner in
    let stands = changes_stand.reposition positioner bounds at serial where_to placed k x h p (ap (reposition_answer positioner bounds at) (sym one.here) ∙ answer)
    (first names kept r.owned number k x h one p here) (place-now at c r d bounds (copying positioner p.popup) within there) one.stands in
    let stepped = shell-stepped names slots tied kept r.owned is number k x h one (kept_repositioning placed serial positioner) step (repositioning-keeps b serial place positioner) stands.1 in
    let by_x : IsOwned names slots tied (changing number (kept_repositioning placed serial positioner) kept) (drawing b (xdg_changed p.xdg.id step r)).owned =
    subst (λ (i : ℕ). IsOwned names slots tied (changing number (kept_repositioning placed serial positioner) kept) (drawing b (xdg_changed i step r)).owned)
    (ap (λ (y : XdgSurface). y.id) (sym (popped names kept r.owned number k x h one p here).xdg))
    (subst (λ (o : Owned). IsOwned names slots tied (changing number (kept_repositioning placed serial positioner) kept) o) (sym (drawing-owned b (xdg_changed x.id step r))) stepped) in
    subst (λ (ks : ℕ → Option Kept). IsOwned names slots tied ks (changed_for c (Reposition x.id token positioner) r d).owned) (sym keeps)
    (subst (λ (o : Option Popped). IsOwned names slots tied (changing number (kept_repositioning placed serial positioner) kept) (popup_repositioned where_to positioner o r).owned) (sym here) by_x)

told : RepositionTold
told names kept r number k x h c token p positioner bounds at placed d windows one here within there answer =
    let where_to = placement_now c r d in
    let b = is_configured p in
    let now = where_to (copying positioner p.popup) in
    let its : now ≡ place positioner bounds at = place-now at c r d bounds (copying positioner p.popup) within there in
    let kept_answer = ap (reposition_answer positioner bounds at) (sym one.here) ∙ answer in
    let stands = changes_stand.reposition positioner bounds at r.peer.serial where_to placed k x h p kept_answer (first names kept r.owned number k x h one p here) its one.stands in
    let placed_by : placed_anew b now ≡ placed = ap (placed_anew b) its
    ∙ placed-so b positioner (place positioner bounds at) placed x.configures (sym (answered names kept r.owned number k x h one p here positioner bounds at) ∙ answer) in (
      ap (reposition_told c r d token positioner) here
          ∙ told-so b now placed token r.peer.serial p.object.id p.xdg.id placed_by stands.0
          ∙ ap (λ (y : XdgSurface). anew_told placed token r.peer.serial p.object.id y.id) (popped names kept r.owned number k x h one p here).xdg,
      ap (λ (o : Option Popped). (popup_repositioned where_to positioner o r).peer) here
          ∙ drawn-peer b p.xdg.id (repositioning b r.peer.serial now positioner) r
          ∙ ap (λ (b : Bool). (drawing b r).peer) (sym stands.0),
    )

pub popups-anew : PopupsAnew
popups-anew = record { asked = reposition-asked; repositioned = repositioned; told = told }
