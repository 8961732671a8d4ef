-- What an accepted message demands is made as the protocol has it.
use Rattle.std.proofs.Common.{◌≡◌, ℕ, Bool, true, false, Option, Some, None, refl, ap, sym, subst, ◌∙◌}
use Rattle.std.specs.Prelude.{◌==◌, not}
use Rattle.std.specs.Option.{option_map_or}
use Rattle.std.proofs.lemmas.Bool.{and_from, eqb-true}
use Rattle.std.proofs.lemmas.Option.{same_Some}
use Rattle.wl_proto.specs.declared.interface.Interface.TheVariants.{XdgPopup, XdgToplevel}
use Rattle.spec_desktop.specs.Objects.{Object, interface_number, is_of}
use Rattle.wl_shell.specs.Popups.{is_toplevel_kind}
use Rattle.wl_shell.specs.Shell.{RoleObject, XdgSurface, is_role, xdg_at, xdg_with}
use Rattle.spec_desktop.specs.Ask.{DestroyXdgSurface, GetToplevel}
use Rattle.spec_desktop.specs.Demand.{Asks, Demand, EndToplevel, GetPopup, Grab}
use Rattle.spec_desktop.specs.Desktop.{Resident}
use Rattle.law_desktop.proofs.Lists.Keys.{found-any, found-by, found-passes}
use Rattle.law_desktop.proofs.Marks.Stacks.{equal-numbers}
use Rattle.law_desktop.proofs.Soundness.Allowed.{allowed}
use Rattle.law_desktop.proofs.Soundness.Orderly.{HasId, HasNoRole as IsBare, IsAllowed, IsOn}
use Rattle.law_desktop.specs.InOrder.{OwnsInOrder, is_popup_with}
use Rattle.law_desktop.specs.Done.{HasToplevel, IsMeant}
use Rattle.law_desktop.specs.OrderLaws.{JudgedIsMeant}
use Rattle.law_desktop.proofs.RootsOf.Grabbing.{IsBefore, grabs-before}
use Rattle.law_desktop.proofs.Truth.{differ}

bare : (o : Option XdgSurface) → IsBare o → (x : XdgSurface) → o ≡ Some x → x.role ≡ None
bare None is x e = absurd is
bare (Some y) is x e = subst (λ (z : XdgSurface). z.role ≡ None) (same_Some y x e) is

-- an object is of one interface
one-interface : (o : Option Object) → is_of XdgToplevel o ≡ true → is_of XdgPopup o ≡ true → ⊥
one-interface None e f = differ e
one-interface (Some object) e f =
    differ
    (equal-numbers (interface_number XdgToplevel) (interface_number XdgPopup)
    (sym (eqb-true (interface_number object.interface) (interface_number XdgToplevel) e) ∙ eqb-true (interface_number object.interface) (interface_number XdgPopup) f))

module _ (id xdg surface : ℕ) (r : Resident) (owns : OwnsInOrder r) (live : is_of XdgToplevel (r.peer.objects id) ≡ true) where
  no-popup : (x : XdgSurface) → xdg_with id r.owned.shell ≡ Some x → is_popup_with id x.role ≡ true → ⊥
  no-popup x found is =
      one-interface (r.peer.objects id) live
      (owns.popups.1 id (found-any (λ x. is_role id x.role) (λ x. is_popup_with id x.role) r.owned.shell x found is))

  its-kind : (x : XdgSurface) → xdg_with id r.owned.shell ≡ Some x → (o : Option RoleObject) → x.role ≡ o → is_role id o ≡ true
      → option_map_or (λ (object : RoleObject). is_toplevel_kind object.kind) o false ≡ true
  its-kind x found None is e = absurd (differ e)
  its-kind x found (Some object) is e = at (is_toplevel_kind object.kind) refl
    where
      at : (b : Bool) → is_toplevel_kind object.kind ≡ b → is_toplevel_kind object.kind ≡ true
      at true f = f
      at false f = absurd (no-popup x found (ap (is_popup_with id) is ∙ and_from (object.id == id) (not (is_toplevel_kind object.kind)) e (ap not f)))

  of-xdg : (o : Option XdgSurface) → xdg_with id r.owned.shell ≡ o → HasId xdg o → IsOn surface o → HasToplevel xdg surface r.owned.shell
  of-xdg None found has on = absurd has
  of-xdg (Some x) found has on = record {
    it = x;
    here = found-by (λ id x. x.id == id) (λ x. is_role id x.role) xdg r.owned.shell x owns.xdg_surfaces.0 found (equal-numbers x.id xdg has);
    own = on;
    role = its-kind x found x.role refl (found-passes (λ x. is_role id x.role) r.owned.shell x found);
  }

meant-by : (demand : Demand) (r : Resident) → OwnsInOrder r → IsAllowed r demand → IsBefore r demand → IsMeant demand r
meant-by (EndToplevel id xdg surface) r owns is before = of-xdg id xdg surface r owns is.0 (xdg_with id r.owned.shell) refl is.1 is.2
meant-by (Grab xdg serial) r owns is before = before
meant-by (Asks (DestroyXdgSurface id)) r owns is before = bare (xdg_at id r.owned.shell) is.1
meant-by (Asks (GetToplevel id version xdg)) r owns is before = bare (xdg_at xdg r.owned.shell) is.1
meant-by (GetPopup id version xdg parent positioner) r owns is before = bare (xdg_at xdg r.owned.shell) is.1
meant-by demand r owns is before = tt

pub judged-is-meant : JudgedIsMeant
judged-is-meant r object opcode body demand owns judged =
    meant-by demand r owns (allowed r object opcode body demand judged) (grabs-before r object opcode body demand judged)
