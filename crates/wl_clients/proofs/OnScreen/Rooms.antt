-- What there is room for: a toplevel has no more roots than its client has xdg_surfaces, and one.
use Rattle.std.proofs.Common.{◌≡◌, ◌≤◌, ◌+◌, suc, List, [], ◌∷◌, Bool, true, false, Option, Some, None, length, refl, ap, arith}
use Rattle.std.specs.Prelude.{◌&&◌, cond, flat_map, fold, if◌then◌else◌, nat_lt}
use Rattle.std.proofs.lemmas.List.{length-append, length-map}
use Rattle.spec_desktop.specs.Popups.{stacked_popup, stacked_popups}
use Rattle.spec_desktop.specs.Stacking.{Owned}
use Rattle.spec_desktop.specs.Windows.{Root, StackedPopup, has_parent, root_on, roots_of, stacked, stacked_on}
use Rattle.wl_surface.specs.Surfaces.{Surfaces}
use Rattle.wl_shell.specs.Popups.{Popped, by_number, popped_kind, popped_of, popped_role, popups_of}
use Rattle.wl_shell.specs.Shell.{IsPopup, Kind, RoleObject, Shell, Toplevel, XdgSurface}

-- ---- popups

length-by-number : (p : Popped) (ps : List Popped) → length (by_number p ps) ≡ suc (length ps)
length-by-number p [] = refl
length-by-number p (q ∷ qs) = at (nat_lt p.popup.number q.popup.number) (length-by-number p qs)
  where
    at : (b : Bool) → length (by_number p qs) ≡ suc (length qs) → length (if b then p ∷ q ∷ qs else q ∷ by_number p qs) ≡ suc (suc (length qs))
    at true e = refl
    at false e = ap suc e

length-ordered : (acc ps : List Popped) → length (fold (λ rs p. by_number p rs) acc ps) ≡ length acc + length ps
length-ordered acc [] = omega arith
length-ordered acc (p ∷ ps) = let rest = length-ordered (by_number p acc) ps in let one = length-by-number p acc in omega (arith, rest, one)

length-role : (x : XdgSurface) (o : Option RoleObject) → length (popped_role x o) ≤ 1
length-role x None = omega arith
length-role x (Some object) = kind object.kind
  where
    kind : (k : Kind) → length (popped_kind x object k) ≤ 1
    kind Toplevel = omega arith
    kind (IsPopup popup) = omega arith

length-flat : (xs : Shell) → length (flat_map popped_of xs) ≤ length xs
length-flat [] = omega arith
length-flat (x ∷ xs) =
    let one = length-role x x.role in let rest = length-flat xs in let both = length-append (popped_of x) (flat_map popped_of xs) in omega (arith, one, rest, both)

few-popups : (shell : Shell) → length (popups_of shell) ≤ length shell
few-popups shell = let all = length-ordered [] (flat_map popped_of shell) in let flat = length-flat shell in omega (arith, all, flat)

-- ---- roots

one-more : (all : Surfaces) (p : StackedPopup) (rs : List Root) → length (stacked_on all p rs) ≤ 1
one-more all p [] = omega arith
one-more all p (r ∷ rs) = at (p.is_mapped && has_parent r.surface p) (one-more all p rs)
  where
    at : (b : Bool) → length (stacked_on all p rs) ≤ 1 → length (cond b (root_on all r p ∷ []) (stacked_on all p rs)) ≤ 1
    at true rest = omega arith
    at false rest = rest

more-roots : (all : Surfaces) (ps : List StackedPopup) (rs : List Root) → length (fold (stacked all) rs ps) ≤ length rs + length ps
more-roots all [] rs = omega arith
more-roots all (p ∷ ps) rs =
    let rest = more-roots all ps (stacked all rs p) in
    let both = length-append rs (stacked_on all p rs) in
    let one = one-more all p rs in
    omega (arith, rest, both, one)

-- where there are 256 xdg_surfaces at most
pub few-roots : (o : Owned) (r : Root) → length o.shell ≤ 256 → length (roots_of o.surfaces r (stacked_popups o)) ≤ 257
few-roots o r few =
    let more = more-roots o.surfaces (stacked_popups o) (r ∷ []) in
    let popups = length-map (popups_of o.shell) (stacked_popup o) in
    let shell = few-popups o.shell in
    omega (arith, more, popups, shell, few)
