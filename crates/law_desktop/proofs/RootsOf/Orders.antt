-- A desktop in order, where just the mapped toplevels stand, has trees.
use Rattle.std.proofs.Common.{◌≡◌, ℕ, Bool, true, false, cond, List, Option, Some, None, [], ◌∷◌, map, ap, sym, subst, ◌∙◌, refl}
use Rattle.std.proofs.lemmas.Option.{none-some}
use Rattle.std.specs.Prelude.{◌==◌, ◌&&◌, is_some, not}
use Rattle.std.specs.Option.{option_map_or}
use Rattle.spec_desktop.specs.declared.cause.Cause.{Cause}
use Rattle.wl_surface.specs.Surfaces.{history_in, no_surfaces}
use Rattle.wl_surface.specs.Hanging.{AreNumbered, AreTied}
use Rattle.wl_surface.specs.TreeLaws.{AreOnceLinked}
use Rattle.wl_shell.specs.declared.stage.Stage.{Stage}
use Rattle.wl_shell.specs.declared.stage.Stage.TheVariants as stage
use Rattle.wl_shell.specs.Popups.{Popped, is_mapped_stage, is_popup_mapped, is_toplevel, is_toplevel_kind, popped_kind, popped_role, popups_of}
use Rattle.wl_shell.specs.Shell.{IsPopup, Kind, Mapped, RoleObject, Toplevel, XdgSurface, xdg_of}
use Rattle.spec_desktop.specs.Popups.{stacked_popup}
use Rattle.spec_desktop.specs.Stacking.{Owned, Standing, nothing_owned, shows_buffer}
use Rattle.spec_desktop.specs.Windows.{StackedPopup}
use Rattle.spec_desktop.specs.Desktop.{Desktop, Resident, client_at, owned_in, owned_of, toplevels_of}
use Rattle.law_desktop.specs.Apart.{AreApartBy}
use Rattle.law_desktop.specs.Soundness.{IsNoChild}
use Rattle.law_desktop.specs.InOrder.{InOrderAt, InOrderBy}
use Rattle.law_desktop.specs.Shown.{AreShown, heeded_stage, is_dismissed_kind, is_mapped_now, is_mapped_toplevel}
use Rattle.law_desktop.specs.Standing.{HasMappedToplevel, IsMappedToplevel, is_mapped_at}
use Rattle.law_desktop.proofs.InOrder.Sound.{in_order_is_sound}
use Rattle.law_desktop.specs.OrderLaws.{InOrderHasTrees}
use Rattle.law_desktop.proofs.RootsOf.Popped.{IsPopped, all-popped, first_or}
use Rattle.law_desktop.proofs.RootsOf.Staying.{each-all}
use Rattle.law_desktop.proofs.Truth.{and-left, and-right, differ}
use Rattle.law_desktop.proofs.Lists.Each.{Each}

-- ---- a client, whether it is there and lives or not

record HangsSo (o : Owned) : Type 0 where
  once : AreOnceLinked o.surfaces.links
  numbered : AreNumbered o.surfaces.links
  tied : AreTied o.surfaces
  xdg_apart : AreApartBy (λ surface x. x.surface == surface) o.shell
  ids_apart : AreApartBy (λ id x. x.id == id) o.shell
  xdg_roots : (surface : ℕ) → is_some (xdg_of surface o.shell) ≡ true → IsNoChild surface o.surfaces

nothing-tied : AreTied no_surfaces
nothing-tied = record {
  once = tt;
  apart = tt;
  cuts = λ surface h here. absurd (none-some h here);
  named = λ surface link h here gone. absurd (none-some h here);
  placed = λ surface link h here gone. absurd (none-some h here);
  parents = λ surface number h link here there lives child. absurd (none-some h here);
  listed = λ number link here lives. absurd (none-some link here);
}

nothing-hangs : HangsSo nothing_owned
nothing-hangs = record {
  once = tt;
  numbered = tt;
  tied = nothing-tied;
  xdg_apart = tt;
  ids_apart = tt;
  xdg_roots = λ surface there. absurd (differ there);
}

hangs-by : (s : Option Cause) (r : Resident) (tops : List Standing) → InOrderBy s r tops → HangsSo r.owned
hangs-by None r tops owns = record {
  once = owns.0.once;
  numbered = owns.0.numbered;
  tied = owns.0.tied;
  xdg_apart = owns.0.xdg_apart;
  ids_apart = owns.0.xdg_surfaces.0;
  xdg_roots = owns.0.roots;
}
hangs-by (Some cause) r tops owns = subst (λ (q : Resident). HangsSo q.owned) (sym owns.0) nothing-hangs

hangs-at : (o : Option Resident) (tops : List Standing) → InOrderAt o tops → HangsSo (owned_of o)
hangs-at None tops owns = nothing-hangs
hangs-at (Some r) tops owns = hangs-by r.peer.status r tops owns

-- ---- what is mapped

-- a toplevel that is mapped
role-mapped : (o : Option RoleObject) → (option_map_or (λ (object : RoleObject). is_toplevel_kind object.kind) o false && is_mapped_at (heeded_stage o)) ≡ true → IsMappedToplevel o
role-mapped None e = absurd (differ e)
role-mapped (Some object) e = kind object.kind refl e
  where
    at-stage : (s : Stage) → object.stage ≡ s → is_mapped_at (Some s) ≡ true → object.stage ≡ Mapped
    at-stage stage.Mapped is e = is
    at-stage s is e = absurd (differ e)

    kind : (k : Kind) → object.kind ≡ k → (is_toplevel_kind k && is_mapped_at (cond (is_dismissed_kind k) None (Some object.stage))) ≡ true → IsMappedToplevel (Some object)
    kind Toplevel is e = (is, at-stage object.stage refl e)
    kind (IsPopup popup) is e = absurd (differ e)

mapped-toplevel : (o : Option XdgSurface) → is_mapped_toplevel o ≡ true → HasMappedToplevel o
mapped-toplevel None e = absurd (differ e)
mapped-toplevel (Some x) e = role-mapped x.role e

-- a popup that is mapped
stage-mapped : (s : Stage) → is_mapped_stage s ≡ true → is_mapped_at (Some s) ≡ true
stage-mapped stage.Fresh e = e
stage-mapped s e = e

heeded-mapped : (s : Stage) (b : Bool) → (is_mapped_stage s && not b) ≡ true → is_mapped_at (cond b None (Some s)) ≡ true
heeded-mapped s true e = absurd (differ (and-right (is_mapped_stage s) false e))
heeded-mapped s false e = stage-mapped s (and-left (is_mapped_stage s) true e)

kind-mapped : (x : XdgSurface) (p : Popped) → is_popup_mapped p ≡ true → (object : RoleObject) (k : Kind) → popped_kind x object k ≡ p ∷ []
    → is_mapped_at (cond (is_dismissed_kind k) None (Some object.stage)) ≡ true
kind-mapped x p is object Toplevel e = absurd (cc)
kind-mapped x p is object (IsPopup popup) e = heeded-mapped object.stage popup.is_dismissed (ap (λ ps. is_popup_mapped (first_or p ps)) e ∙ is)

popup-mapped : (x : XdgSurface) (p : Popped) → is_popup_mapped p ≡ true → (o : Option RoleObject) → popped_role x o ≡ p ∷ [] → is_mapped_at (heeded_stage o) ≡ true
popup-mapped x p is None e = absurd (cc)
popup-mapped x p is (Some object) e = kind-mapped x p is object object.kind e

module _ (c : ℕ) (d : Desktop) (shown : AreShown c (owned_in d c) d.standing) where
  abbrev PopupShows : StackedPopup → Type 0
  PopupShows p = p.is_mapped ≡ true → shows_buffer (history_in p.surface (owned_in d c).surfaces) ≡ true

  one-shows : (p : Popped) → IsPopped (owned_in d c).shell p → PopupShows (stacked_popup (owned_in d c) p)
  one-shows p popped is =
      shown.shows p.xdg.surface (ap is_mapped_now popped.there.by_surface ∙ popup-mapped p.xdg p is p.xdg.role popped.its)

  popups-show : (ps : List Popped) → Each (IsPopped (owned_in d c).shell) ps → Each PopupShows (map (stacked_popup (owned_in d c)) ps)
  popups-show [] each = tt
  popups-show (p ∷ ps) each = (one-shows p each.0, popups-show ps each.1)

pub in-order-has-trees : InOrderHasTrees
in-order-has-trees d order shown = record {
  sound = in_order_is_sound d order;
  once = λ c. (hangs c).once;
  numbered = λ c. (hangs c).numbered;
  tied = λ c. (hangs c).tied;
  xdg_apart = λ c. (hangs c).xdg_apart;
  ids_apart = λ c. (hangs c).ids_apart;
  xdg_roots = λ c. (hangs c).xdg_roots;
  mapped = λ c surface stands. mapped-toplevel (xdg_of surface (owned_in d c).shell) (sym ((shown.each c).stands surface) ∙ stands);
  toplevels_show = λ c surface stands.
      (shown.each c).shows surface
      (and-right (is_toplevel (xdg_of surface (owned_in d c).shell)) (is_mapped_now (xdg_of surface (owned_in d c).shell)) (sym ((shown.each c).stands surface) ∙ stands));
  popups_show = λ c.
      each-all (λ p. p.is_mapped ≡ true → shows_buffer (history_in p.surface (owned_in d c).surfaces) ≡ true) (map (stacked_popup (owned_in d c)) (popups_of (owned_in d c).shell))
      (popups-show c d (shown.each c) (popups_of (owned_in d c).shell) (all-popped (owned_in d c).shell (hangs c).ids_apart (hangs c).xdg_apart));
}
  where
    hangs : (c : ℕ) → HangsSo (owned_in d c)
    hangs c = hangs-at (client_at c d) (toplevels_of c d) (order.each c)
