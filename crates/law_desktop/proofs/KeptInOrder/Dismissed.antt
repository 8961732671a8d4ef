-- Popups that are dismissed leave what a client owns in order.
use Rattle.std.proofs.Common.{◌≡◌, ℕ, List, Bool, true, false, Option, Some, None, cond, refl, sym, ◌∙◌}
use Rattle.std.specs.Option.{option_map}
use Rattle.spec_desktop.specs.Stacking.{Standing}
use Rattle.wl_shell.specs.Popups.{Popped, dismiss, dismissed_among, dismissed_with, dismissing, is_among, popup_changed, with_popup, with_popup_role}
use Rattle.wl_shell.specs.Shell.{IsPopup, Kind, RoleObject, Toplevel, XdgSurface as Xdg}
use Rattle.spec_desktop.specs.Desktop.{Resident}
use Rattle.spec_desktop.specs.Step.{with_shell}
use Rattle.law_desktop.proofs.Soundness.Objects.{objects-dismissed}
use Rattle.law_desktop.proofs.Soundness.ObjectsKeys.{any-less, apart-less}
use Rattle.law_desktop.proofs.Soundness.Roles.{roles-dismissed, shell-dismissed}
use Rattle.law_desktop.proofs.Soundness.Standing.{standing-dismissed}
use Rattle.law_desktop.specs.InOrder.{OwnsInOrder, OwnsKnown, is_kind_numbered, is_popup_numbered}
use Rattle.law_desktop.specs.Standing.{AreMappedOnce}
use Rattle.law_desktop.proofs.InOrder.Numbers.{has_number}
use Rattle.law_desktop.proofs.InOrder.Whole.{IsWhole, of-stands, of-whole, to-stands, to-whole}
use Rattle.law_desktop.specs.Ordered.{OwnsOrdered}
use Rattle.law_desktop.proofs.KeptInOrder.Each.{each-released, released-each}
use Rattle.law_desktop.proofs.KeptInOrder.Owning.{IsThere, few-of}
use Rattle.law_desktop.proofs.KeptInOrder.Shells.{AreFine, fine-dismissed}
use Rattle.law_desktop.proofs.KeptInOrder.Younger.{are-younger}

-- ---- numbers

-- a popup that is dismissed keeps its number
numbered : (number : ℕ) (b : Bool) (x : Xdg) → is_popup_numbered number (cond b (popup_changed dismiss x) x).role ≡ is_popup_numbered number x.role
numbered number true x = role x.role
  where
    kind : (k : Kind) → is_kind_numbered number (with_popup dismiss k) ≡ is_kind_numbered number k
    kind Toplevel = refl
    kind (IsPopup popup) = refl

    role : (o : Option RoleObject) → is_popup_numbered number (option_map (with_popup_role dismiss) o) ≡ is_popup_numbered number o
    role None = refl
    role (Some object) = kind object.kind
numbered number false x = refl

-- ---- a client

module _ (is : Popped → Bool) (r : Resident) where
  abbrev pub left_after : Resident
  left_after = with_shell (dismissing is r.owned.shell) r

  brings-none : (number : ℕ) (x : Xdg) → has_number number (dismissed_among (dismissed_with is r.owned.shell) x) ≡ true → has_number number x ≡ true
  brings-none number x here = sym (numbered number (is_among x.id (dismissed_with is r.owned.shell)) x) ∙ here

  dismissed-whole : IsWhole r → IsWhole left_after
  dismissed-whole w = record {
    objects = objects-dismissed is r w.objects;
    forest = w.forest;
    hanging = roles-dismissed is r w.hanging;
    tied = w.tied;
    own = w.own;
    buffers = w.buffers;
    known = known w.known;
    subsurfaces = record {
      roles = w.subsurfaces.roles;
      bare = λ surface has. (shell-dismissed is r.owned.shell).none surface (w.subsurfaces.bare surface has);
    };
    apart = apart-less has_number (dismissed_among (dismissed_with is r.owned.shell)) r.owned.shell brings-none w.apart;
    early = λ number any.
        w.early number (any-less (has_number number) (dismissed_among (dismissed_with is r.owned.shell)) r.owned.shell (brings-none number) any);
  }
    where
      known : OwnsKnown r → OwnsKnown left_after
      known k = record { apart = k.apart; known = k.known; subsurfaces = k.subsurfaces; children = k.children; callbacks = k.callbacks }

  pub dismissed-order : OwnsInOrder r → OwnsInOrder left_after
  dismissed-order order = of-whole left_after (dismissed-whole (to-whole r order))

  pub dismissed-stands : (tops : List Standing) → AreMappedOnce r.owned.shell tops → AreMappedOnce left_after.owned.shell tops
  dismissed-stands tops mapped =
      of-stands left_after.owned.shell tops (standing-dismissed is r.owned.shell tops (to-stands r.owned.shell tops mapped))

  pub dismissed-ordered : OwnsOrdered r → OwnsOrdered left_after
  dismissed-ordered owns = record {
    order = order;
    younger = are-younger left_after order fine.elders;
    released = each-released left_after.owned.shell fine.released;
    few = few-of left_after order fine.surfaces owns.surfaces;
    parents = fine.elders;
    placed = fine.surfaces;
    surfaces = owns.surfaces;
  }
    where
      order : OwnsInOrder left_after
      order = dismissed-order owns.order

      fine : AreFine (IsThere r.owned.surfaces) left_after.owned.shell
      fine =
          fine-dismissed (IsThere r.owned.surfaces) is r.owned.shell
          (record { elders = owns.parents; released = released-each r.owned.shell owns.released; surfaces = owns.placed })
