-- Where a client ends its windows go from among those of the others, whatever these have, and what is kept of them too.
use Rattle.std.proofs.Common.{◌≡◌, ◌≢◌, ℕ, List, [], ◌∷◌, ◌++◌, Bool, true, false, cond, Some, refl, ap, ap₂, sym, ◌∙◌, map}
use Rattle.std.specs.Prelude.{◌==◌, ◌&&◌, filter, flat_map, fold, not}
use Rattle.std.proofs.lemmas.Bool.{eqb-false}
use Rattle.std.proofs.lemmas.List.Elements.{All-from_recursion, filter-append}
use Rattle.spec_desktop.specs.declared.cause.Cause.{Cause}
use Rattle.spec_desktop.specs.Objects.{ById}
use Rattle.spec_desktop.specs.Peer.{Peer}
use Rattle.wl_surface.specs.Surfaces.{Surfaces}
use Rattle.spec_desktop.specs.Stacking.{Owned, Standing, root_of, without_client}
use Rattle.spec_desktop.specs.Windows.{Root, StackedPopup, Window, has_parent, owner_of, root_on, roots_of, stacked, stacked_on, tree, windows, windows_of}
use Rattle.spec_desktop.specs.Desktop.{Desktop, Resident, become_by, owned_in, owned_of, resident_of}
use Rattle.spec_desktop.specs.Popups.{stacked_popups}
use Rattle.spec_desktop.specs.Stacked.{all_windows}
use Rattle.law_desktop.proofs.Marks.Painted.{each-kept}
use Rattle.law_desktop.proofs.Runs.Places.{number-other}
use Rattle.law_desktop.proofs.Soundness.Trees.{each-flat}
use Rattle.law_desktop.proofs.TreeSteps.Owners.{tree-owned}
use Rattle.law_desktop.proofs.Lists.Tests.{any-none, filter-all, filter-none}
use Rattle.law_desktop.proofs.Truth.{differ}
use Rattle.law_desktop.proofs.Lists.Each.{Each, each-append, each-map, each-of}
use Rattle.wl_scene.specs.declared.stacked.Stacked.{Stacked}
use Rattle.wl_scene.specs.Stacked.{without_client as without_client_of}
use Rattle.wl_scene.specs.StackedAgreement.{AreStacked}
use Rattle.wl_scene.proofs.Standing.{stacked-client-gone, stacked-renumbered}
use Rattle.wl_clients.specs.Agreement.{with_numbers}

-- the window is of another client
abbrev is_of_other : ℕ → Window → Bool
is_of_other c w = not (w.owner.client == c)

-- ---- a toplevel with its popups

-- each of them is of its client
stacked-of : (n : ℕ) (surfaces : Surfaces) (p : StackedPopup) (rs : List Root) → Each (λ r. r.client ≡ n) rs → Each (λ r. r.client ≡ n) (stacked_on surfaces p rs)
stacked-of n surfaces p [] each = tt
stacked-of n surfaces p (r ∷ rs) each = at (p.is_mapped && has_parent r.surface p) (stacked-of n surfaces p rs each.1)
  where
    at : (b : Bool) → Each (λ r. r.client ≡ n) (stacked_on surfaces p rs) → Each (λ r. r.client ≡ n) (cond b (root_on surfaces r p ∷ []) (stacked_on surfaces p rs))
    at true rest = (each.0, tt)
    at false rest = rest

roots-of : (n : ℕ) (surfaces : Surfaces) (rs : List Root) (ps : List StackedPopup) → Each (λ r. r.client ≡ n) rs → Each (λ r. r.client ≡ n) (fold (stacked surfaces) rs ps)
roots-of n surfaces rs [] each = each
roots-of n surfaces rs (p ∷ ps) each =
    roots-of n surfaces (stacked surfaces rs p) ps (each-append (λ r. r.client ≡ n) rs (stacked_on surfaces p rs) each (stacked-of n surfaces p rs each))

-- its windows, by what its client owns
abbrev shown_by : Owned → Root → List Window
shown_by owned t =
    flat_map (λ (r : Root). tree 17 (owner_of r) owned.surfaces r.surface r.place) (roots_of owned.surfaces t (stacked_popups owned))

trees-by : (owned : ℕ → Owned) (n : ℕ) (rs : List Root) → Each (λ r. r.client ≡ n) rs
    → flat_map (λ (r : Root). tree 17 (owner_of r) (owned r.client).surfaces r.surface r.place) rs
    ≡ flat_map (λ (r : Root). tree 17 (owner_of r) (owned n).surfaces r.surface r.place) rs
trees-by owned n [] each = refl
trees-by owned n (r ∷ rs) each =
    ap₂ (λ (ws vs : List Window). ws ++ vs) (ap (λ k. tree 17 (owner_of r) (owned k).surfaces r.surface r.place) each.0) (trees-by owned n rs each.1)

abbrev shown_of : (ℕ → Owned) → Root → List Window
shown_of owned t = windows_of (λ c. (owned c).surfaces) (λ c. stacked_popups (owned c)) t

shown-by : (owned : ℕ → Owned) (t : Root) → shown_of owned t ≡ shown_by (owned t.client) t
shown-by owned t =
    trees-by owned t.client (roots_of (owned t.client).surfaces t (stacked_popups (owned t.client)))
    (roots-of t.client (owned t.client).surfaces (t ∷ []) (stacked_popups (owned t.client)) (refl, tt))

-- they are that client's
shown-own : (owned : Owned) (t : Root) → Each (λ w. w.owner.client ≡ t.client) (shown_by owned t)
shown-own owned t =
    each-flat (λ w. w.owner.client ≡ t.client) (λ (r : Root). tree 17 (owner_of r) owned.surfaces r.surface r.place) (roots_of owned.surfaces t (stacked_popups owned))
    (each-map (λ r. r.client ≡ t.client) (λ r. Each (λ w. w.owner.client ≡ t.client) (tree 17 (owner_of r) owned.surfaces r.surface r.place))
    (λ r own. each-map (λ (w : Window). w.owner ≡ owner_of r) (λ w. w.owner.client ≡ t.client) (λ w is. ap (λ o. o.client) is ∙ own)
    (tree 17 (owner_of r) owned.surfaces r.surface r.place) (tree-owned 17 (owner_of r) owned.surfaces r.surface r.place))
    (roots_of owned.surfaces t (stacked_popups owned)) (roots-of t.client owned.surfaces (t ∷ []) (stacked_popups owned) (refl, tt)))

-- ---- the windows of the others

abbrev windows_by : (ℕ → Owned) → List Standing → List Window
windows_by owned standing = windows (λ c. (owned c).surfaces) (λ c. stacked_popups (owned c)) (map (root_of owned) standing)

module _ (c : ℕ) (owned new : ℕ → Owned) (others : (other : ℕ) → other ≢ c → new other ≡ owned other) where
  -- of each toplevel
  own-filtered : (s : Standing) (b : Bool) → (s.client == c) ≡ b → cond (not b) (shown_of new (root_of new s)) [] ≡ filter (is_of_other c) (shown_of owned (root_of owned s))
  own-filtered s true is =
      sym (ap (filter (is_of_other c)) (shown-by owned (root_of owned s))
      ∙ filter-none (is_of_other c) (shown_by (owned s.client) (root_of owned s))
      (any-none (is_of_other c) (shown_by (owned s.client) (root_of owned s))
      (each-map (λ (w : Window). w.owner.client ≡ s.client) (λ w. is_of_other c w ≡ false) (λ w own. ap (λ n. not (n == c)) own ∙ ap (λ b. not b) is)
      (shown_by (owned s.client) (root_of owned s)) (shown-own (owned s.client) (root_of owned s)))))
  own-filtered s false other =
      shown-by new (root_of new s)
      ∙ ap (λ (o : Owned). shown_by o (root_of (λ n. o) s)) (others s.client (eqb-false s.client c other))
      ∙ sym (ap (filter (is_of_other c)) (shown-by owned (root_of owned s))
      ∙ filter-all (is_of_other c) (shown_by (owned s.client) (root_of owned s))
      (each-map (λ (w : Window). w.owner.client ≡ s.client) (λ w. is_of_other c w ≡ true) (λ w own. ap (λ n. not (n == c)) own ∙ ap (λ b. not b) other)
      (shown_by (owned s.client) (root_of owned s)) (shown-own (owned s.client) (root_of owned s))))

  first-filtered : (s : Standing) (ss : List Standing) (b : Bool) → windows_by new (cond (not b) (s ∷ ss) ss) ≡ cond (not b) (shown_of new (root_of new s)) [] ++ windows_by new ss
  first-filtered s ss true = refl
  first-filtered s ss false = refl

  windows-left : (ss : List Standing) → windows_by new (without_client c ss) ≡ filter (is_of_other c) (windows_by owned ss)
  windows-left [] = refl
  windows-left (s ∷ ss) =
      first-filtered s (without_client c ss) (s.client == c)
      ∙ ap₂ (λ (ws vs : List Window). ws ++ vs) (own-filtered s (s.client == c) refl) (windows-left ss)
      ∙ sym (filter-append (is_of_other c) (shown_of owned (root_of owned s)) (windows_by owned ss))

-- they are left where a client ended
pub left-windows : (cause : Cause) (c : ℕ) (x : Resident) (q : Peer) (d : Desktop) → all_windows (become_by (Some cause) c x q d) ≡ filter (λ w. not (w.owner.client == c)) (all_windows d)
left-windows cause c x q d =
    windows-left c (owned_in d) (owned_in (become_by (Some cause) c x q d)) (λ other apart. ap owned_of (number-other d.clients c other (Some (resident_of q)) (λ same. apart (sym same)))) d.standing

-- ---- what is kept of them

-- the others' numbers are as they were
others-numbered : (c : ℕ) (old new : ById ℕ) (others : ℕ → ById ℕ) (w : Window) (id : ℕ) → is_of_other c w ≡ true
    → with_numbers c new others w.owner.client id ≡ with_numbers c old others w.owner.client id
others-numbered c old new others w id other = at (w.owner.client == c) other
  where
    at : (b : Bool) → not b ≡ true → cond b new (others w.owner.client) id ≡ cond b old (others w.owner.client) id
    at false other = refl
    at true other = absurd (differ other)

pub left-stacked : (c : ℕ) (old new : ById ℕ) (others : ℕ → ById ℕ) (all : List Stacked) (ws : List Window) → AreStacked (with_numbers c old others) all ws
    → AreStacked (with_numbers c new others) (without_client_of c all) (filter (λ w. not (w.owner.client == c)) ws)
left-stacked c old new others all ws are =
    let left = filter (is_of_other c) ws in
    let each = each-kept (is_of_other c) (λ w. Unit {0}) ws (each-of (λ w. Unit {0}) (λ w. tt) ws) in
    stacked-renumbered (with_numbers c old others) (with_numbers c new others) (without_client_of c all) left
    (All-from_recursion (λ w. with_numbers c new others w.owner.client w.owner.toplevel ≡ with_numbers c old others w.owner.client w.owner.toplevel) left
    (each-map (λ w. (is_of_other c w ≡ true) × Unit {0}) (λ w. with_numbers c new others w.owner.client w.owner.toplevel ≡ with_numbers c old others w.owner.client w.owner.toplevel)
    (λ w is. others-numbered c old new others w w.owner.toplevel is.0) left each))
    (All-from_recursion (λ w. with_numbers c new others w.owner.client w.owner.root ≡ with_numbers c old others w.owner.client w.owner.root) left
    (each-map (λ w. (is_of_other c w ≡ true) × Unit {0}) (λ w. with_numbers c new others w.owner.client w.owner.root ≡ with_numbers c old others w.owner.client w.owner.root)
    (λ w is. others-numbered c old new others w w.owner.root is.0) left each))
    (All-from_recursion (λ w. with_numbers c new others w.owner.client w.surface ≡ with_numbers c old others w.owner.client w.surface) left
    (each-map (λ w. (is_of_other c w ≡ true) × Unit {0}) (λ w. with_numbers c new others w.owner.client w.surface ≡ with_numbers c old others w.owner.client w.surface)
    (λ w is. others-numbered c old new others w w.surface is.0) left each))
    (stacked-client-gone (with_numbers c old others) all ws c are)
