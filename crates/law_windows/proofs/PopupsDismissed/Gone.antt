-- The windows that go where popups of a client are dismissed, and those that stay.
use Rattle.std.proofs.Common.{◌≡◌, ◌≢◌, ℕ, Bool, true, false, cond, List, Some, [], ◌∷◌, ◌++◌, refl, ap, ap₂, sym, subst, ◌∙◌}
use Rattle.std.specs.Prelude.{◌==◌, ◌&&◌, filter, find, flat_map, not}
use Rattle.std.specs.List.{list_any}
use Rattle.std.proofs.lemmas.Bool.{eqb-false, eqb-true}
use Rattle.std.proofs.lemmas.List.Elements.{filter-append}
use Rattle.wl_surface.specs.Surfaces.{Surfaces}
use Rattle.wl_shell.specs.Popups.{Popped}
use Rattle.spec_desktop.specs.Stacking.{Standing, is_of}
use Rattle.spec_desktop.specs.Windows.{Owner, Root, Window, owner_of, tree}
use Rattle.spec_desktop.specs.Desktop.{Desktop, owned_in}
use Rattle.spec_desktop.specs.Stacked.{all_windows}
use Rattle.law_desktop.proofs.Marks.Stacks.{equal-numbers}
use Rattle.law_desktop.proofs.TreeSteps.Owners.{tree-owned}
use Rattle.law_desktop.specs.Changes.{HasTrees}
use Rattle.law_desktop.specs.StackedWith.{stacked_roots}
use Rattle.law_desktop.proofs.RootsOf.Kept.{IsRoot, IsShownBy, are-roots, are-shown, foreign-kept, kept-shown, shown, shown_of, surfaces_in, tree_in}
use Rattle.law_desktop.proofs.RootsOf.Stacked.{all-found, found-any}
use Rattle.law_desktop.proofs.Lists.Each.{Each, each-map}
use Rattle.law_desktop.proofs.Lists.Left.{filter-none-each}
use Rattle.law_desktop.proofs.Lists.Tests.{filter-all}
use Rattle.law_windows.specs.Grabs.Dismissed.{Dismisses, is_dismissed_at, is_of_others}
use Rattle.law_windows.specs.Grabs.Windows.{DismissedWindowsGo}
use Rattle.law_windows.proofs.PopupsDismissed.Roots.{roots-go}

module _ (is : Popped → Bool) (c : ℕ) (d e : Desktop) (goes : Dismisses is c d e) where
  abbrev keep : Root → Bool
  keep r = not (is_dismissed_at r.surface (owned_in e c).shell)

  abbrev stays : Window → Bool
  stays w = is_of_others c e w

  -- ---- a toplevel of another client

  other-shown : (s : Standing) → s.client ≢ c → shown e s ≡ shown d s
  other-shown s other = kept-shown d e s (foreign-kept d e s (goes.others s.client other))

  other-stays : (s : Standing) → (s.client == c) ≡ false → filter stays (shown d s) ≡ shown d s
  other-stays s other =
      filter-all stays (shown d s)
      (each-map (IsShownBy s) (λ w. stays w ≡ true)
      (λ w is. ap (λ n. not ((n == c) && is_dismissed_at w.owner.root (owned_in e c).shell)) is.client
      ∙ ap (λ b. not (b && is_dismissed_at w.owner.root (owned_in e c).shell)) other) (shown d s) (are-shown d s))

  module _ (had : HasTrees d) where
    -- ---- a toplevel of the client

    -- the windows of each root
    root-stays : (r : Root) → r.client ≡ c → tree_in e r ≡ tree_in d r
    root-stays r own = ap (λ (all : Surfaces). tree 17 (owner_of r) all r.surface r.place) (subst (λ n. surfaces_in e n ≡ surfaces_in d n) (sym own) goes.surfaces)

    root-windows : (r : Root) → r.client ≡ c → (b : Bool) → keep r ≡ b → Each (λ w. stays w ≡ b) (tree_in d r)
    root-windows r own b f =
        each-map (λ w. w.owner ≡ owner_of r) (λ w. stays w ≡ b)
        (λ w of. ap (λ (o : Owner). not ((o.client == c) && is_dismissed_at o.root (owned_in e c).shell)) of
        ∙ (ap (λ b. not (b && is_dismissed_at r.surface (owned_in e c).shell)) (equal-numbers r.client c own) ∙ f))
        (tree_in d r) (tree-owned 17 (owner_of r) (surfaces_in d r.client) r.surface r.place)

    roots-shown : (s : Standing) → s.client ≡ c → (rs : List Root) → Each (IsRoot s) rs → flat_map (tree_in e) (filter keep rs) ≡ filter stays (flat_map (tree_in d) rs)
    roots-shown s own [] each = refl
    roots-shown s own (r ∷ rs) each =
        at (keep r) refl (roots-shown s own rs each.1) ∙ sym (filter-append stays (tree_in d r) (flat_map (tree_in d) rs))
      where
        its : r.client ≡ c
        its = each.0.client ∙ own

        at : (b : Bool) → keep r ≡ b → flat_map (tree_in e) (filter keep rs) ≡ filter stays (flat_map (tree_in d) rs)
            → flat_map (tree_in e) (cond b (r ∷ filter keep rs) (filter keep rs)) ≡ filter stays (tree_in d r) ++ filter stays (flat_map (tree_in d) rs)
        at true f more =
            ap₂ (λ (ws vs : List Window). ws ++ vs) (root-stays r its ∙ sym (filter-all stays (tree_in d r) (root-windows r its true f))) more
        at false f more =
            more ∙ ap (λ ws. ws ++ filter stays (flat_map (tree_in d) rs)) (sym (filter-none-each stays (tree_in d r) (root-windows r its false f)))

    own-shown : (s : Standing) → list_any (is_of s.client s.surface) d.standing ≡ true → s.client ≡ c → shown e s ≡ filter stays (shown d s)
    own-shown s stands own =
        ap (flat_map (tree_in e)) (roots-go is c d e had goes s (subst (λ n. list_any (is_of n s.surface) d.standing ≡ true) own stands) own)
        ∙ roots-shown s own (stacked_roots d s) (are-roots d s)

    pub shown-go : (s : Standing) → list_any (is_of s.client s.surface) d.standing ≡ true → shown e s ≡ filter stays (shown d s)
    shown-go s stands = at (s.client == c) refl
      where
        at : (b : Bool) → (s.client == c) ≡ b → shown e s ≡ filter stays (shown d s)
        at true f = own-shown s stands (eqb-true s.client c f)
        at false f = other-shown s (eqb-false s.client c f) ∙ sym (other-stays s f)

    -- ---- all of them

    all-go : (ss : List Standing) → Each (λ s. list_any (is_of s.client s.surface) d.standing ≡ true) ss → shown_of e ss ≡ filter stays (shown_of d ss)
    all-go [] stand = refl
    all-go (s ∷ ss) stand =
        ap₂ (λ (ws vs : List Window). ws ++ vs) (shown-go s stand.0) (all-go ss stand.1) ∙ sym (filter-append stays (shown d s) (shown_of d ss))

    pub windows-go : all_windows e ≡ filter stays (all_windows d)
    windows-go =
        ap (shown_of e) goes.standing
        ∙ all-go d.standing
        (each-map (λ s. find (is_of s.client s.surface) d.standing ≡ Some s) (λ s. list_any (is_of s.client s.surface) d.standing ≡ true)
        (λ s found. found-any (is_of s.client s.surface) d.standing s found) d.standing (all-found d.standing had.sound.apart))

pub dismissed-windows-go : DismissedWindowsGo
dismissed-windows-go is c d e had goes = windows-go is c d e goes had
