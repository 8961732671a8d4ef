-- The windows of a toplevel that stands are told after those that were told before.
use Rattle.std.proofs.Common.{◌≡◌, ◌+◌, ◌≤◌, ℕ, Option, Some, Result, Ok, Err, List, ◌++◌, map, ap, sym, subst, ◌∙◌}
use Rattle.std.specs.Prelude.{IsOk, OnOk, find, is_some, length}
use Rattle.wl_surface.specs.Linked.{Stand}
use Rattle.wl_requests.specs.declared.residents.Resident.{Resident as Kept}
use Rattle.wl_scene.specs.declared.roots.RootPlace.{RootPlace}
use Rattle.wl_scene.specs.Roots.{HasRole, IsHeld, standing_at, told_root}
use Rattle.wl_shell.specs.InOrder.{AreRising}
use Rattle.wl_scene.specs.Told.{told_trees}
use Rattle.spec_desktop.specs.Popups.{stacked_popups}
use Rattle.spec_desktop.specs.Stacking.{Owned, Standing, is_of, root_of}
use Rattle.spec_desktop.specs.Windows.{Owner, roots_of}
use Rattle.wl_surface.specs.Surfaces.{Surfaces}
use Rattle.wl_scene.specs.declared.tree_window.TreeWindow.{TreeWindow}
use Rattle.wl_shell.specs.Popups.{popups_of}
use Rattle.wl_clients.specs.Screens.{IsRunHeld, IsRunHeldIf, roots_at, run_on}

so : {X Y : Type 0} (r : Result X Y) (P : Type 0) → OnOk r P → IsOk r → P
so (Ok x) P on is = on
so (Err e) P on is = absurd (cc)

-- By what is known of the toplevel that stands, of its roots, and of their trees.
pub run-added : {A X Y : Type 0} (v : Kept A) (c surface : ℕ) (toplevel : Option ℕ) (t : Standing) (standing : List Standing) (places : List RootPlace) (result : Result X Y) (was is : List TreeWindow)
    (count capacity : ℕ) → toplevel ≡ Some surface → Some t ≡ find (is_of c surface) standing
    → ((o : Owned) (client : ℕ) → IsHeld v.owned.surfaces.states v.owned.surfaces.family v.owned.shell o → AreRising (popups_of o.shell) → HasRole v.owned.shell surface → length o.shell ≤ 256
    → places ≡ map told_root (roots_of o.surfaces (root_of (λ _. o) (standing_at client surface t.place.x t.place.y)) (stacked_popups o)))
    → OnOk result ((all : Surfaces) (owner : Owner) → Stand v.owned.surfaces.states v.owned.surfaces.family all → is ≡ was ++ told_trees owner all places)
    → ((all : Surfaces) (owner : Owner) → Stand v.owned.surfaces.states v.owned.surfaces.family all → count + length (told_trees owner all places) ≤ capacity → IsOk result)
    → (o : Owned) (owner : Owner) → IsRunHeldIf c v toplevel standing o → count + length (run_on c owner o toplevel standing) ≤ capacity
    → is ≡ was ++ run_on c owner o toplevel standing
run-added v c surface toplevel t standing places result was is count capacity there stands finds ok succeeds o owner held fits =
    so result _ ok (succeeds o.surfaces owner held-so.held.surfaces (subst (λ (ws : List TreeWindow). count + length ws ≤ capacity) (sym same) fits)) o.surfaces owner held-so.held.surfaces
    ∙ ap (λ (ws : List TreeWindow). was ++ ws) same
  where
    held-so : IsRunHeld c v surface standing o
    held-so = subst (λ (x : Option ℕ). IsRunHeldIf c v x standing o) there held

    placed : places ≡ roots_at c o surface (find (is_of c surface) standing)
    placed =
        finds o c held-so.held held-so.rising (held-so.role (ap (λ (x : Option Standing). is_some x) (sym stands))) held-so.few ∙ ap (roots_at c o surface) stands

    same : told_trees owner o.surfaces places ≡ run_on c owner o toplevel standing
    same = ap (λ (rs : List RootPlace). told_trees owner o.surfaces rs) placed ∙ ap (λ (x : Option ℕ). run_on c owner o x standing) (sym there)
