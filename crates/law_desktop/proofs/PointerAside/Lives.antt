-- The surface that has the focus, and the window that the pointer hits, are of clients that live.
use Rattle.std.proofs.Common.{◌≡◌, ℕ, List, [], ◌∷◌, Bool, true, false, Option, Some, None, refl, ap, ap₂, subst, sym, ◌∙◌}
use Rattle.std.specs.List.{list_any}
use Rattle.std.proofs.lemmas.Bool.{and_from, eqb-true}
use Rattle.std.proofs.lemmas.Option.{none-some, same_Some}
use Rattle.std.specs.Prelude.{ℤ, ◌==◌, ◌&&◌, ◌||◌, if◌then◌else◌, flat_map, fold, is_some, map}
use Rattle.spec_desktop.specs.declared.cause.Cause.{Cause}
use Rattle.wl_surface.specs.Surfaces.{Surfaces, history_in}
use Rattle.spec_desktop.specs.Pointer.{Pointer, Target, hit_now, is_stacked, kept_focus, settled, settled_focus, target_of}
use Rattle.spec_desktop.specs.Popups.{stacked_popups}
use Rattle.spec_desktop.specs.Stacking.{Owned, Standing, is_of, nothing_owned, root_of}
use Rattle.spec_desktop.specs.Windows.{Place, Root, StackedPopup, Window, has_parent, hit_after, is_hit, owner_of, root_on, roots_of, stacked, stacked_on, tree}
use Rattle.spec_desktop.specs.Desktop.{Desktop, Resident, client_at, owned_in, owned_of}
use Rattle.spec_desktop.specs.Stacked.{all_windows}
use Rattle.law_desktop.specs.Focus.{EndedAreBare}
use Rattle.law_desktop.proofs.Marks.ShownWindows.{IsShown, all-shown}
use Rattle.law_desktop.proofs.Marks.Stacks.{equal-numbers, same-number}
use Rattle.law_desktop.proofs.Soundness.Trees.{each-flat}
use Rattle.law_desktop.proofs.TreeSteps.Owners.{tree-owned}
use Rattle.law_desktop.proofs.Truth.{differ}
use Rattle.law_desktop.proofs.Lists.Each.{Each, each-append, each-map}
use Rattle.law_desktop.specs.Pointed.Lives.{FocusLives, HitLives}
use Rattle.law_desktop.specs.Pointed.Rounds.{Lives}

-- ---- who owns something lives

owner-lives : (c : ℕ) (d : Desktop) → EndedAreBare d → (owned_in d c ≡ nothing_owned → ⊥) → Lives c d
owner-lives c d bare owns = at (client_at c d) refl
  where
    by : (s : Option Cause) (r : Resident) → client_at c d ≡ Some r → r.peer.status ≡ s → Lives c d
    by None r there is = (r, there, is)
    by (Some why) r there is = absurd (owns (ap owned_of there ∙ bare c r there (ap (λ (s : Option Cause). is_some s) is)))

    at : (o : Option Resident) → client_at c d ≡ o → Lives c d
    at None there = absurd (owns (ap owned_of there))
    at (Some r) there = by r.peer.status r there refl

shown-lives : (d : Desktop) → EndedAreBare d → (w : Window) → IsShown (owned_in d) w → Lives w.owner.client d
shown-lives d bare w shown =
    owner-lives w.owner.client d bare
    (λ nothing. none-some shown.0 (sym (ap (λ (o : Owned). history_in w.surface o.surfaces) nothing) ∙ shown.1))

-- ---- a window is stacked with a toplevel that stands

-- each root of a toplevel is its client's, and stacked with it
record IsRoot (s : Standing) (r : Root) : Type 0 where
  client : r.client ≡ s.client
  toplevel : r.toplevel ≡ s.surface

on-roots : (s : Standing) (surfaces : Surfaces) (p : StackedPopup) (rs : List Root) → Each (IsRoot s) rs → Each (IsRoot s) (stacked_on surfaces p rs)
on-roots s surfaces p [] each = tt
on-roots s surfaces p (r ∷ rs) each = at (p.is_mapped && has_parent r.surface p) (on-roots s surfaces p rs each.1)
  where
    at : (b : Bool) → Each (IsRoot s) (stacked_on surfaces p rs) → Each (IsRoot s) (if b then root_on surfaces r p ∷ [] else stacked_on surfaces p rs)
    at true later = (record { client = each.0.client; toplevel = each.0.toplevel }, tt)
    at false later = later

all-roots : (s : Standing) (surfaces : Surfaces) (rs : List Root) (ps : List StackedPopup) → Each (IsRoot s) rs → Each (IsRoot s) (fold (stacked surfaces) rs ps)
all-roots s surfaces rs [] each = each
all-roots s surfaces rs (p ∷ ps) each =
    all-roots s surfaces (stacked surfaces rs p) ps (each-append (IsRoot s) rs (stacked_on surfaces p rs) each (on-roots s surfaces p rs each))

-- so is each of its windows
abbrev IsWith : Standing → Window → Type 0
IsWith s w = (w.owner.client ≡ s.client) × (w.owner.toplevel ≡ s.surface)

module _ (owned : ℕ → Owned) where
  abbrev tree_of : Root → List Window
  tree_of r = tree 17 (owner_of r) (owned r.client).surfaces r.surface r.place

  abbrev roots_by : Standing → List Root
  roots_by s = roots_of (owned s.client).surfaces (root_of owned s) (stacked_popups (owned s.client))

  abbrev shown_by : Standing → List Window
  shown_by s = flat_map tree_of (roots_by s)

  abbrev shown_of : List Standing → List Window
  shown_of ss = flat_map (λ (t : Root). flat_map tree_of (roots_of (owned t.client).surfaces t (stacked_popups (owned t.client)))) (map (root_of owned) ss)

  are-with : (s : Standing) → Each (IsWith s) (shown_by s)
  are-with s =
      each-flat (IsWith s) tree_of (roots_by s)
      (each-map (IsRoot s) (λ r. Each (IsWith s) (tree_of r))
      (λ r is.
      each-map (λ (w : Window). w.owner ≡ owner_of r) (IsWith s)
      (λ w own. (ap (λ o. o.client) own ∙ is.client, ap (λ o. o.toplevel) own ∙ is.toplevel))
      (tree_of r) (tree-owned 17 (owner_of r) (owned r.client).surfaces r.surface r.place))
      (roots_by s)
      (all-roots s (owned s.client).surfaces (root_of owned s ∷ []) (stacked_popups (owned s.client)) (record { client = refl; toplevel = refl }, tt)))

  -- the toplevel stands among these
  abbrev StandsIn : List Standing → Window → Type 0
  StandsIn ss w = list_any (is_of w.owner.client w.owner.toplevel) ss ≡ true

  first-in : (s : Standing) (ss : List Standing) (w : Window) → IsWith s w → StandsIn (s ∷ ss) w
  first-in s ss w is =
      ap (λ (b : Bool). b || list_any (is_of w.owner.client w.owner.toplevel) ss)
      (and_from (s.client == w.owner.client) (s.surface == w.owner.toplevel) (equal-numbers s.client w.owner.client (sym is.0)) (equal-numbers s.surface w.owner.toplevel (sym is.1)))

  or-later : (a b : Bool) → b ≡ true → (a || b) ≡ true
  or-later true b e = refl
  or-later false b e = e

  all-in : (ss : List Standing) → Each (StandsIn ss) (shown_of ss)
  all-in [] = tt
  all-in (s ∷ ss) =
      each-append (StandsIn (s ∷ ss)) (shown_by s) (shown_of ss)
      (each-map (IsWith s) (StandsIn (s ∷ ss)) (first-in s ss) (shown_by s) (are-with s))
      (each-map (StandsIn ss) (StandsIn (s ∷ ss))
      (λ w stands. or-later (is_of w.owner.client w.owner.toplevel s) (list_any (is_of w.owner.client w.owner.toplevel) ss) stands)
      (shown_of ss) (all-in ss))

-- ---- what is so of each window is so of one that is hit, or stacked

hit-each : (P : Window → Type 0) (x y : ℤ) (ws : List Window) (found : Option Window) → Each P ws → ((w : Window) → found ≡ Some w → P w)
    → (w : Window) → fold (hit_after x y) found ws ≡ Some w → P w
hit-each P x y [] found each is w e = is w e
hit-each P x y (v ∷ vs) found each is w e = hit-each P x y vs (hit_after x y found v) each.1 (λ u. at (is_hit x y v) u) w e
  where
    at : (b : Bool) (u : Window) → (if b then Some v else found) ≡ Some u → P u
    at true u e = subst P (same_Some v u e) each.0
    at false u e = is u e

by-hit : (P : Window → Type 0) (at : Option Place) (ws : List Window) → Each P ws → (w : Window) → hit_now at ws ≡ Some w → P w
by-hit P None ws each w e = absurd (none-some w e)
by-hit P (Some at) ws each w e = hit-each P at.x at.y ws None each (λ u none. absurd (none-some u none)) w e

abbrev named : Window → Target
named w = record { client = w.owner.client; surface = w.surface }

-- each is among them
itself-stacked : (w : Window) (ws : List Window) → is_stacked (named w) (w ∷ ws) ≡ true
itself-stacked w ws =
    ap (λ (b : Bool). b || is_stacked (named w) ws) (and_from (w.owner.client == w.owner.client) (w.surface == w.surface) (same-number w.owner.client) (same-number w.surface))

more-stacked : (t : Target) (v : Window) (ws : List Window) → is_stacked t ws ≡ true → is_stacked t (v ∷ ws) ≡ true
more-stacked t v ws e = at ((v.owner.client == t.client) && (v.surface == t.surface)) e
  where
    at : (b : Bool) → is_stacked t ws ≡ true → (b || is_stacked t ws) ≡ true
    at true e = refl
    at false e = e

each-stacked : (ws : List Window) → Each (λ w. is_stacked (named w) ws ≡ true) ws
each-stacked [] = tt
each-stacked (w ∷ ws) = (
  itself-stacked w ws,
  each-map (λ v. is_stacked (named v) ws ≡ true) (λ v. is_stacked (named v) (w ∷ ws) ≡ true) (λ v e. more-stacked (named v) w ws e) ws (each-stacked ws),
)

-- one of them is of the surface
by-stacked : (P : Window → Type 0) (t : Target) (ws : List Window) → Each P ws → is_stacked t ws ≡ true → (w : Window) × (t ≡ named w) × P w
by-stacked P t [] each e = absurd (differ e)
by-stacked P t (w ∷ ws) each e = at (w.owner.client == t.client) refl (w.surface == t.surface) refl (by-stacked P t ws each.1) e
  where
    at : (a : Bool) → (w.owner.client == t.client) ≡ a → (b : Bool) → (w.surface == t.surface) ≡ b → (is_stacked t ws ≡ true → (v : Window) × (t ≡ named v) × P v)
        → ((a && b) || is_stacked t ws) ≡ true → (v : Window) × (t ≡ named v) × P v
    at true client true surface later e =
        (w, ap₂ (λ (c surface : ℕ). record { client = c; surface = surface }) (sym (eqb-true w.owner.client t.client client)) (sym (eqb-true w.surface t.surface surface)), each.0)
    at true client false surface later e = later e
    at false client b surface later e = later e

-- ---- the focus and the hit

windows-live : (d : Desktop) → EndedAreBare d → Each (λ w. Lives w.owner.client d) (all_windows d)
windows-live d bare = each-map (IsShown (owned_in d)) (λ w. Lives w.owner.client d) (shown-lives d bare) (all_windows d) (all-shown d)

-- what the focus settles to is stacked
settled-stacked : (p : Pointer) (ws : List Window) (t : Target) → settled p ws ≡ Some t → is_stacked t ws ≡ true
settled-stacked p ws t e = at p.buttons e
  where
    hits : (o : Option Window) → hit_now p.place ws ≡ o → target_of o ≡ Some t → is_stacked t ws ≡ true
    hits None is e = absurd (none-some t e)
    hits (Some w) is e =
        subst (λ (u : Target). is_stacked u ws ≡ true) (same_Some (named w) t e) (by-hit (λ v. is_stacked (named v) ws ≡ true) p.place ws (each-stacked ws) w is)

    kept : (u : Target) (b : Bool) → is_stacked u ws ≡ b → (if b then Some u else None) ≡ Some t → is_stacked t ws ≡ true
    kept u true is e = subst (λ (v : Target). is_stacked v ws ≡ true) (same_Some u t e) is
    kept u false is e = absurd (none-some t e)

    keeps : (o : Option Target) → kept_focus o ws ≡ Some t → is_stacked t ws ≡ true
    keeps None e = absurd (none-some t e)
    keeps (Some u) e = kept u (is_stacked u ws) refl e

    at : (buttons : List ℕ) → settled_focus buttons p ws ≡ Some t → is_stacked t ws ≡ true
    at [] e = hits (hit_now p.place ws) refl e
    at (button ∷ buttons) e = keeps p.focus e

pub focus-lives : FocusLives
focus-lives d t bare is has =
    let stacked = settled-stacked d.pointer (all_windows d) t (sym is ∙ has) in
    let found = by-stacked (λ w. Lives w.owner.client d) t (all_windows d) (windows-live d bare) stacked in
    (subst (λ (u : Target). Lives u.client d) (sym found.1) found.2, stacked)

pub hit-lives : HitLives
hit-lives d w bare is = (
  by-hit (λ v. Lives v.owner.client d) d.pointer.place (all_windows d) (windows-live d bare) w is,
  by-hit (λ v. is_stacked (named v) (all_windows d) ≡ true) d.pointer.place (all_windows d) (each-stacked (all_windows d)) w is,
  by-hit (λ v. list_any (is_of v.owner.client v.owner.toplevel) d.standing ≡ true) d.pointer.place (all_windows d) (all-in (owned_in d) d.standing) w is,
)
