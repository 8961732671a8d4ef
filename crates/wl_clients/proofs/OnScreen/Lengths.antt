-- Wherever a toplevel stands, as many windows are stacked with it: those of its popups, whose places go by its own, too.
use Rattle.std.proofs.Common.{◌≡◌, ◌+◌, ℕ, Bool, true, false, cond, Option, Some, None, List, [], ◌∷◌, ◌++◌, length, refl, ap, ap₂, subst, sym, ◌∙◌}
use Rattle.std.specs.Prelude.{◌&&◌, find, flat_map, fold}
use Rattle.std.specs.Option.{option_map}
use Rattle.std.proofs.lemmas.List.{length-append}
use Rattle.wl_scene.proofs.Moved.{moved-trees-are-as-long}
use Rattle.wl_paint.specs.Damage.{Damaged}
use Rattle.spec_desktop.specs.Desktop.{Desktop, owned_in}
use Rattle.law_windows.specs.Runs.Moves.{shifted}
use Rattle.spec_desktop.specs.Popups.{stacked_popups}
use Rattle.spec_desktop.specs.Stacking.{Standing, is_of, moved_to, root_of}
use Rattle.spec_desktop.specs.Windows.{Place, Root, StackedPopup, Window, has_parent, owner_of, root_on, roots_of, stacked, stacked_on, tree}
use Rattle.wl_surface.specs.Surfaces.{Surfaces}
use Rattle.law_desktop.specs.Toplevel.{windows_with, windows_with_standing}
use Rattle.wl_scene.specs.declared.tree_window.TreeWindow.{TreeWindow}
use Rattle.wl_clients.specs.Runs.{MarksRuns}
use Rattle.law_desktop.proofs.Truth.{differ}

-- ---- roots

-- Both are of one surface, and of the tree of one toplevel, wherever they are placed.
record IsAlike (r q : Root) : Type 0 where
  client : q.client ≡ r.client
  surface : q.surface ≡ r.surface
  toplevel : q.toplevel ≡ r.toplevel

abbrev AreAlike : List Root → List Root → Type 0
AreAlike [] [] = Unit {0}
AreAlike (r ∷ rs) (q ∷ qs) = IsAlike r q × AreAlike rs qs
AreAlike [] (q ∷ qs) = ⊥
AreAlike (r ∷ rs) [] = ⊥

both-alike : (rs qs us vs : List Root) → AreAlike rs qs → AreAlike us vs → AreAlike (rs ++ us) (qs ++ vs)
both-alike [] [] us vs first later = later
both-alike [] (q ∷ qs) us vs first later = absurd first
both-alike (r ∷ rs) [] us vs first later = absurd first
both-alike (r ∷ rs) (q ∷ qs) us vs first later = (first.0, both-alike rs qs us vs first.1 later)

on-alike : (all : Surfaces) (p : StackedPopup) (rs qs : List Root) → AreAlike rs qs → AreAlike (stacked_on all p rs) (stacked_on all p qs)
on-alike all p [] [] alike = tt
on-alike all p [] (q ∷ qs) alike = absurd alike
on-alike all p (r ∷ rs) [] alike = absurd alike
on-alike all p (r ∷ rs) (q ∷ qs) alike =
    at (p.is_mapped && has_parent r.surface p) (p.is_mapped && has_parent q.surface p) (ap (λ n. p.is_mapped && has_parent n p) (sym alike.0.surface)) (on-alike all p rs qs alike.1)
  where
    at : (a b : Bool) → a ≡ b → AreAlike (stacked_on all p rs) (stacked_on all p qs)
        → AreAlike (cond a (root_on all r p ∷ []) (stacked_on all p rs)) (cond b (root_on all q p ∷ []) (stacked_on all p qs))
    at true true e rest = (record { client = alike.0.client; surface = refl; toplevel = alike.0.toplevel }, tt)
    at false false e rest = rest
    at true false e rest = absurd (differ (sym e))
    at false true e rest = absurd (differ e)

roots-alike : (all : Surfaces) (ps : List StackedPopup) (rs qs : List Root) → AreAlike rs qs → AreAlike (fold (stacked all) rs ps) (fold (stacked all) qs ps)
roots-alike all [] rs qs alike = alike
roots-alike all (p ∷ ps) rs qs alike =
    roots-alike all ps (stacked all rs p) (stacked all qs p) (both-alike rs qs (stacked_on all p rs) (stacked_on all p qs) alike (on-alike all p rs qs alike))

-- ---- windows

module _ (all : ℕ → Surfaces) where
  abbrev root_windows : Root → List Window
  root_windows r = tree 17 (owner_of r) (all r.client) r.surface r.place

  abbrev long_at : Place → ℕ → ℕ → ℕ → ℕ
  long_at place client surface toplevel = length (tree 17 (record { client = client; root = surface; toplevel = toplevel }) (all client) surface place)

  root-long : (r q : Root) → IsAlike r q → length (root_windows r) ≡ length (root_windows q)
  root-long r q alike =
      moved-trees-are-as-long 17 (owner_of r) (all r.client) r.surface r.place q.place
      ∙ (ap (λ n. long_at q.place n r.surface r.toplevel) (sym alike.client)
      ∙ (ap (λ n. long_at q.place q.client n r.toplevel) (sym alike.surface) ∙ ap (λ n. long_at q.place q.client q.surface n) (sym alike.toplevel)))

  roots-long : (rs qs : List Root) → AreAlike rs qs → length (flat_map root_windows rs) ≡ length (flat_map root_windows qs)
  roots-long [] [] alike = refl
  roots-long [] (q ∷ qs) alike = absurd alike
  roots-long (r ∷ rs) [] alike = absurd alike
  roots-long (r ∷ rs) (q ∷ qs) alike =
      length-append (root_windows r) (flat_map root_windows rs)
      ∙ (ap₂ (λ m n. m + n) (root-long r q alike.0) (roots-long rs qs alike.1) ∙ sym (length-append (root_windows q) (flat_map root_windows qs)))

-- ---- the toplevel

-- what is found of it is at its new place
pub found-shifted : (c t : ℕ) (place : Place) (ss : List Standing)
    → find (is_of c t) (moved_to c t place ss) ≡ option_map (λ (s : Standing). record s { place = place }) (find (is_of c t) ss)
found-shifted c t place [] = refl
found-shifted c t place (s ∷ ss) = at (is_of c t s) refl (found-shifted c t place ss)
  where
    at : (b : Bool) → is_of c t s ≡ b → find (is_of c t) (moved_to c t place ss) ≡ option_map (λ (s : Standing). record s { place = place }) (find (is_of c t) ss)
        → find (is_of c t) (cond b (record s { place = place } ∷ ss) (s ∷ moved_to c t place ss))
        ≡ option_map (λ (s : Standing). record s { place = place }) (cond b (Some s) (find (is_of c t) ss))
    at true its rest = ap (λ b. cond b (Some (record s { place = place })) (find (is_of c t) ss)) its
    at false other rest = ap (λ b. cond b (Some s) (find (is_of c t) (moved_to c t place ss))) other ∙ rest

-- as many windows as before
pub run-as-long : (c t : ℕ) (place : Place) (d : Desktop) → length (windows_with c t (shifted c t place d)) ≡ length (windows_with c t d)
run-as-long c t place d =
    ap (λ (o : Option Standing). length (windows_with_standing (shifted c t place d) o)) (found-shifted c t place d.standing) ∙ at (find (is_of c t) d.standing)
  where
    at : (o : Option Standing)
        → length (windows_with_standing (shifted c t place d) (option_map (λ (s : Standing). record s { place = place }) o)) ≡ length (windows_with_standing d o)
    at None = refl
    at (Some s) =
        let there : Root = root_of (owned_in d) (record s { place = place }) in
        let here : Root = root_of (owned_in d) s in
        let popups = stacked_popups (owned_in d s.client) in
        let all = (owned_in d s.client).surfaces in
        roots-long (λ n. (owned_in d n).surfaces) (roots_of all there popups) (roots_of all here popups)
        (roots-alike all popups (there ∷ []) (here ∷ []) (record { client = refl; surface = refl; toplevel = refl }, tt))

-- ---- what is marked

-- by windows that are the same
pub marked-so : (A : Type 0) (old new : Damaged) (ws vs us xs : List TreeWindow) → ws ≡ vs → us ≡ xs → MarksRuns A ws us old new → MarksRuns A vs xs old new
marked-so A old new ws vs us xs was is marks =
    subst (λ (rs : List TreeWindow). MarksRuns A rs xs old new) was (subst (λ (rs : List TreeWindow). MarksRuns A ws rs old new) is marks)
