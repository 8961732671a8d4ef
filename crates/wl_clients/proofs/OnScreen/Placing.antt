-- What a popup is placed by where its surface is committed, or where it is placed anew, by what is kept, is what it is placed by on the
-- desktop.
use Rattle.std.proofs.Common.{◌≡◌, ℕ, true, Option, Some, None, List, [], ◌∷◌, ap, ap₂, sym, subst, ◌∙◌}
use Rattle.std.specs.Prelude.{ℤ, ◌==◌, IfSome, pos}
use Rattle.std.proofs.lemmas.Bool.{and_from, or_left, or_right}
use Rattle.std.specs.List.{list_any}
use Rattle.std.specs.Option.{option_and_then}
use Rattle.law_desktop.proofs.Marks.Stacks.{equal-numbers, same-number}
use Rattle.law_desktop.specs.Renaming.{has_surface}
use Rattle.law_desktop.specs.NamedPopups.{AreStandingAs}
use Rattle.law_desktop.proofs.PopupsByNames.Rooted.{corners-named, standing-named}
use Rattle.law_desktop.specs.Owning.{target_as}
use Rattle.law_desktop.specs.OwnedPopups.{corner_of, popup_of_surface, popup_with}
use Rattle.law_desktop.specs.RoleNames.{names_of, roles_in}
use Rattle.law_desktop.proofs.Keeping.OwningTies.{number-of-name}
use Rattle.law_desktop.proofs.Keeping.OwningXdg.{toplevel-named}
use Rattle.law_desktop.proofs.OwnedPopups.Naming.{roles-named}
use Rattle.spec_desktop.specs.Objects.{ById}
use Rattle.spec_desktop.specs.Desktop.{Desktop, Resident}
use Rattle.wl_client.specs.First.{Passes}
use Rattle.wl_proto.specs.declared.interface.Interface.{Interface}
use Rattle.wl_proto.specs.declared.interface.Interface.TheVariants.{WlSurface, XdgPopup}
use Rattle.wl_proto.specs.Messages.{Message}
use Rattle.wl_proto.specs.declared.wl_surface.WlSurfaceRequest.TheVariants as surface
use Rattle.wl_proto.specs.declared.xdg_popup.XdgPopupRequest.TheVariants as popups
use Rattle.wl_requests.specs.declared.messages.Asked.{Asked}
use Rattle.wl_requests.specs.declared.messages.Asked.TheVariants as asked
use Rattle.wl_requests.specs.declared.messages.Kind.{Kind}
use Rattle.wl_requests.specs.declared.messages.Kind.TheVariants as kind
use Rattle.wl_requests.specs.declared.residents.Placing.{Placing}
use Rattle.wl_requests.specs.declared.residents.Resident.{Resident as Kept}
use Rattle.wl_requests.specs.Messages.{IsAsked, IsKind}
use Rattle.wl_requests.specs.Placing.{IsPlacing, IsPlacingFor, IsPlacingOf}
use Rattle.spec_desktop.specs.Popups.{parent_corner}
use Rattle.spec_desktop.specs.Stacking.{Owned, Standing, is_of}
use Rattle.spec_desktop.specs.Windows.{Place}
use Rattle.law_desktop.specs.Changes.{HasTrees}
use Rattle.wl_shell.specs.Kept.{Kept as KeptXdg, kept_of}
use Rattle.wl_shell.specs.Popups.{popup_in}
use Rattle.wl_shell.specs.Shell.{Popup, XdgSurface}
use Rattle.wl_clients.specs.declared.screen.screens.Screen.{Screen}
use Rattle.wl_clients.specs.Agreement.{IsStack}
use Rattle.wl_clients.specs.Finding.{IsCornerOf, IsPlacedBy, popup_in_shell}
use Rattle.wl_clients.specs.Seats.{IsSeated}
use Rattle.wl_clients.specs.View.{pile_of}
use Rattle.wl_clients.proofs.OnScreen.After.{toplevel-there}
use Rattle.wl_clients.proofs.OnScreen.Lookup.{kept-popup}
use Rattle.wl_clients.proofs.OnScreen.Numbers as seat
use Rattle.wl_clients.proofs.OnScreen.Sitting.{numbers}

-- the toplevels that are kept stand where those of the desktop do, those of the client by its numbers
standing-as : (nums : ℕ → ById ℕ) (c : ℕ) (f : ℕ → ℕ) (o : Owned) → ((surface number : ℕ) → nums c surface ≡ Some number → number ≡ f surface) → (ks ss : List Standing)
    → ((surface : ℕ) → list_any (is_of c surface) ss ≡ true → has_surface surface o.surfaces ≡ true) → IsStack nums ks ss → AreStandingAs f c o ss ks
standing-as nums c f o named [] [] there is = tt
standing-as nums c f o named [] (s ∷ ss) there is = absurd is
standing-as nums c f o named (k ∷ ks) [] there is = absurd is
standing-as nums c f o named (k ∷ ks) (s ∷ ss) there is = (
  record {
    client = is.0.client;
    place = is.0.place;
    surface = λ own. (
      named s.surface k.surface (subst (λ (n : ℕ). nums n s.surface ≡ Some k.surface) own is.0.surface),
      there s.surface
          (or_left (is_of c s.surface s) (list_any (is_of c s.surface) ss) (and_from (s.client == c) (s.surface == s.surface) (equal-numbers s.client c own) (same-number s.surface))),
    );
  },
  standing-as nums c f o named ks ss (λ surface has. there surface (or_right (is_of c surface s) (list_any (is_of c surface) ss) has)) is.1,
)

at-parent : (at : ℤ × ℤ) (place : Place) → record { x = at.0; y = at.1 } ≡ place → at ≡ corner_of place
at-parent at place e = ap corner_of e

module _ {A : Type 0} (c : ℕ) (others : ℕ → ById ℕ) (base d : Desktop) (r : Resident) (old : Kept A) (was : Screen A) (before : IsSeated c others base old (pile_of was) d r) (trees : HasTrees d) where
  abbrev f : ℕ → ℕ
  f = seat.named_by old

  abbrev nums : ℕ → ById ℕ
  nums = seat.nums c others base d r old (pile_of was) before

  own-name : (surface number : ℕ) → nums c surface ≡ Some number → number ≡ f surface
  own-name surface number named =
      sym (number-of-name (numbers old) surface number (ap (λ (n : ById ℕ). n surface) (sym (seat.nums-own c others base d r old (pile_of was) before)) ∙ named))

  -- where the window geometry of a popup's parent stands
  corner-same : (parent : Option ℕ) → parent_corner was.scene.standing c (seat.its c others base d r old (pile_of was) before) parent ≡ parent_corner d.standing c r.owned parent
  corner-same parent =
      corners-named f c r.owned d.standing was.scene.standing (seat.renames c others base d r old (pile_of was) before)
      (standing-named f c r.owned d.standing was.scene.standing (seat.renames c others base d r old (pile_of was) before)
      (standing-as nums c f r.owned own-name was.scene.standing d.standing
      (λ surface stands. subst (λ (o : Owned). has_surface surface o.surfaces ≡ true) (seat.owned-here c others base d r old (pile_of was) before) (toplevel-there c surface d trees stands))
      before.scene.standing)) parent

  parent-same : (at : ℤ × ℤ) (o : Option Popup) → IfSome o (λ popup. IsCornerOf was.scene.standing c old at popup)
      → IfSome o (λ popup. at ≡ corner_of (parent_corner d.standing c r.owned popup.parent))
  parent-same at None is = tt
  parent-same at (Some popup) is =
      at-parent at (parent_corner d.standing c r.owned popup.parent)
      (is (seat.its c others base d r old (pile_of was) before) (seat.held c others base d r old (pile_of was) before) ∙ corner-same popup.parent)

  module _ (placing : Placing) (width : was.damage.width ≡ d.output.width) (height : was.damage.height ≡ d.output.height) where
    -- what it is placed by, whichever popup it is
    abbrev IsPlacedAt : Option Popup → Type 0
    IsPlacedAt popup =
        (placing.bounds ≡ record { x = pos 0; y = pos 0; w = pos was.damage.width; h = pos was.damage.height })
        × IfSome popup (λ popup. IsCornerOf was.scene.standing c old placing.parent_at popup)

    popup-placing : (kept popup : Option Popup) → kept ≡ popup → IsPlacedAt kept → IsPlacing placing c popup r d
    popup-placing kept popup same placed = record {
      bounds = placed.0 ∙ ap₂ (λ (w h : ℕ). record { x = pos 0; y = pos 0; w = pos w; h = pos h }) width height;
      parent =
          subst (λ (o : Option Popup). IfSome o (λ popup. placing.parent_at ≡ corner_of (parent_corner d.standing c r.owned popup.parent))) same
          (parent-same placing.parent_at kept placed.1);
    }

    -- that of a surface
    committed-placing : (object target : ℕ) → numbers old object ≡ Some target → IsPlacedAt (popup_in_shell old.owned.shell target)
        → IsPlacing placing c (popup_of_surface object r.owned.shell) r d
    committed-placing object target named =
        popup-placing (popup_in_shell old.owned.shell target) (popup_of_surface object r.owned.shell)
        (kept-popup c others base d r old (pile_of was) before trees object target (ap (λ (n : ById ℕ). n object) (seat.nums-own c others base d r old (pile_of was) before) ∙ named))

    -- that of an xdg_popup
    anew-placing : (object target : ℕ) → roles_in old.client.objects object ≡ Some target → IsPlacedAt (popup_in_shell old.owned.shell target)
        → IsPlacing placing c (popup_with object r.owned.shell) r d
    anew-placing object target named =
        let its = toplevel-named (names_of old.client.objects) old.owned.surfaces.states old.owned.surfaces.family (kept_of old.owned.shell) r.owned before.seat.owns object target named in
        popup-placing (popup_in_shell old.owned.shell target) (popup_with object r.owned.shell)
        (ap (option_and_then (λ (k : KeptXdg). popup_in k.role)) its.3.here
        ∙ (ap popup_in its.3.stands.role ∙ sym (ap (option_and_then (λ (x : XdgSurface). popup_in x.role)) its.4)))

    placing-for : (k : Kind) (object version size target : ℕ) (m : Message) → Passes old.client object version size target m → IsKind k m
        → IsPlacedBy was c old (asked.Request object version size target k) placing → IsPlacingFor placing object k c r d
    placing-for (kind.Surface surface.Commit) object version size target m passes is placed =
        committed-placing object target
        (ap (option_and_then (target_as WlSurface)) passes.entry
        ∙ ap (λ (n : Interface). target_as WlSurface (record { interface = n; version = version; target = target })) (ap (λ (n : Message). n.interface) is)) (placed.bounds, placed.parent)
    placing-for (kind.Popup (popups.Reposition positioner token)) object version size target m passes is placed =
        anew-placing object target
        (roles-named.popup old.client.objects object target
        (ap (option_and_then (target_as XdgPopup)) passes.entry
        ∙ ap (λ (n : Message). target_as XdgPopup (record { interface = n.interface; version = version; target = target })) is)) (placed.bounds, placed.parent)
    placing-for k object version size target m passes is placed = tt

    -- It is what a popup is placed by on the desktop.
    pub placed-so : (a : Asked) → IsAsked old.client a → IsPlacedBy was c old a placing → IsPlacingOf placing a c r d
    placed-so (asked.Request object version size target k) (m, passes, is) placed = placing-for k object version size target m passes is placed
    placed-so a asks placed = tt
