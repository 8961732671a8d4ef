-- What changes of xdg_surfaces without a role object, and a popup that comes, change no window.
use Rattle.std.proofs.Common.{◌≡◌, ℕ, Bool, true, false, cond, List, Option, Some, None, [], ◌∷◌, ◌++◌, map, refl, ap, ap₂, sym, subst, ◌∙◌, inl, inr}
use Rattle.std.specs.Prelude.{◌==◌, ◌&&◌, ◌||◌, ◌⊎◌, ◌≢◌, filter, find, flat_map, fold, not}
use Rattle.std.specs.List.{list_any}
use Rattle.std.specs.Option.{option_and_then, option_map}
use Rattle.std.proofs.lemmas.Bool.{and_right, eqb-true, false_from_ne_true, or_from}
use Rattle.wl_geom.specs.declared.rect.Rect.{Rect}
use Rattle.wl_shell.specs.Popups.{Popped, by_number, is_popup_mapped, popped_of, popped_role, popups_of}
use Rattle.wl_shell.specs.Shell.{RoleObject, Shell, XdgSurface, without_xdg, xdg_at, xdg_of}
use Rattle.spec_desktop.specs.Popups.{placement_of, stacked_popup, surface_at_xdg}
use Rattle.spec_desktop.specs.Stacking.{Owned, Standing, is_of, root_of}
use Rattle.spec_desktop.specs.Windows.{Root, StackedPopup}
use Rattle.spec_desktop.specs.Desktop.{Desktop, owned_in}
use Rattle.law_desktop.specs.Apart.{AreApartBy}
use Rattle.law_desktop.specs.Soundness.{has_surface}
use Rattle.law_desktop.proofs.Lists.Keys.{found-by, found-map, gone, new-elsewhere, new-here}
use Rattle.law_desktop.proofs.Marks.Stacks.{equal-numbers}
use Rattle.law_desktop.proofs.Soundness.Windows.{In}
use Rattle.law_desktop.specs.Standing.{HasMappedToplevel, IsMappedToplevel}
use Rattle.law_desktop.specs.TreeStepsLaws.{KeepsAll}
use Rattle.law_desktop.specs.Changes.{HasTrees, StaysPainted}
use Rattle.law_desktop.specs.ToplevelRoots.{has_parent_in, is_on_one}
use Rattle.law_desktop.specs.StackedWith.{stacked_roots}
use Rattle.law_desktop.proofs.RootsOf.Away.{IsOnRoot, root-or-popup}
use Rattle.law_desktop.proofs.RootsOf.Kept.{popups_in, surfaces_in}
use Rattle.law_desktop.proofs.RootsOf.Ordered.{all-left}
use Rattle.law_desktop.proofs.RootsOf.Painted.{painted}
use Rattle.law_desktop.proofs.RootsOf.Popped.{IsPopped, IsThere, all-there}
use Rattle.law_desktop.proofs.RootsOf.Shells.{all-popped-of, found-there, geometry-counted, geometry-in-counted}
use Rattle.law_desktop.proofs.RootsOf.Stacked.{found-any}
use Rattle.law_desktop.proofs.RootsOf.Staying.{in_parent}
use Rattle.law_desktop.proofs.RootsOf.Trees.{any-tree}
use Rattle.law_desktop.proofs.Truth.{differ}
use Rattle.law_desktop.proofs.Lists.Each.{Each}
use Rattle.law_desktop.proofs.Lists.Left.{filter-append}

-- ---- roots have role objects

abbrev pub role_in : Option XdgSurface → Option RoleObject
role_in o = option_and_then (λ (x : XdgSurface). x.role) o

unmapped-role : (o : Option XdgSurface) → role_in o ≡ None → HasMappedToplevel o → ⊥
unmapped-role None e mapped = mapped
unmapped-role (Some x) e mapped = subst (λ (o : Option RoleObject). IsMappedToplevel o) e mapped

none-popped : (x : XdgSurface) (p : Popped) → x.role ≡ None → popped_of x ≡ p ∷ [] → ⊥
none-popped x p e its = never (sym (ap (popped_role x) e) ∙ its)
  where
    never : [] ≡ p ∷ [] → ⊥
    never f = absurd (cc)

module _ (c : ℕ) (d : Desktop) (had : HasTrees d) where
  unpopped : (surface : ℕ) → role_in (xdg_of surface (owned_in d c).shell) ≡ None → list_any (has_surface surface) (popups_in d c) ≡ false
  unpopped surface bare = by (popups_of (owned_in d c).shell) (all-popped-of c d had)
    where
      other : (p : Popped) → IsPopped (owned_in d c).shell p → (p.xdg.surface == surface) ≡ false
      other p popped =
          false_from_ne_true (p.xdg.surface == surface)
          (λ e. none-popped p.xdg p
          (sym (ap role_in popped.there.by_surface) ∙ (ap (λ n. role_in (xdg_of n (owned_in d c).shell)) (eqb-true p.xdg.surface surface e) ∙ bare)) popped.its)

      by : (ps : List Popped) → Each (IsPopped (owned_in d c).shell) ps → list_any (has_surface surface) (map (stacked_popup (owned_in d c)) ps) ≡ false
      by [] each = refl
      by (p ∷ ps) each =
          or_from (p.xdg.surface == surface) (list_any (has_surface surface) (map (stacked_popup (owned_in d c)) ps)) (other p each.0) (by ps each.1)

  -- a surface whose xdg_surface has none, or that has no xdg_surface, is no root
  pub no-root : (s : Standing) → list_any (is_of s.client s.surface) d.standing ≡ true → s.client ≡ c → (surface : ℕ) → role_in (xdg_of surface (owned_in d c).shell) ≡ None
      → In surface (stacked_roots d s) ≡ false
  no-root s stands is surface bare =
      false_from_ne_true (In surface (stacked_roots d s)) (λ there. at (root-or-popup (surfaces_in d s.client) surface (root_of (owned_in d) s ∷ []) (popups_in d s.client) there))
    where
      first : (a : Bool) → (a || false) ≡ true → a ≡ true
      first true g = refl
      first false g = g

      at : (In surface (root_of (owned_in d) s ∷ []) ≡ true) ⊎ IsOnRoot (stacked_roots d s) (popups_in d s.client) surface → ⊥
      at (inl own) =
          unmapped-role (xdg_of s.surface (owned_in d c).shell)
          (ap (λ n. role_in (xdg_of n (owned_in d c).shell)) (eqb-true s.surface surface (first (s.surface == surface) own)) ∙ bare)
          (had.mapped c s.surface (subst (λ n. list_any (is_of n s.surface) d.standing ≡ true) is stands))
      at (inr on) = differ (sym (unpopped surface bare) ∙ subst (λ n. list_any (has_surface surface) (popups_in d n) ≡ true) is on.there)

-- ---- those popups stay that are mapped

no-parent : (rs : List Root) → in_parent None rs ≡ false
no-parent [] = refl
no-parent (r ∷ rs) = no-parent rs

-- the parent of a popup is the same surface, or on none of these roots
abbrev pub IsLeftParent : List Root → Option ℕ → Option ℕ → Type 0
IsLeftParent rs old new = (new ≡ old) ⊎ ((in_parent old rs ≡ false) × (in_parent new rs ≡ false))

module _ {X : Type 0} (is : X → Bool) where
  filtered : (on : StackedPopup → Bool) (a : X → StackedPopup) → ((x : X) → is x ≡ false → on (a x) ≡ false) → (xs : List X) → filter on (map a (filter is xs)) ≡ filter on (map a xs)
  filtered on a out [] = refl
  filtered on a out (x ∷ xs) = by (is x) refl (filtered on a out xs)
    where
      by : (b : Bool) → is x ≡ b → filter on (map a (filter is xs)) ≡ filter on (map a xs)
          → filter on (map a (cond b (x ∷ filter is xs) (filter is xs))) ≡ cond (on (a x)) (a x ∷ filter on (map a xs)) (filter on (map a xs))
      by true e rest = ap (λ qs. cond (on (a x)) (a x ∷ qs) qs) rest
      by false e rest = rest ∙ sym (ap (λ b. cond b (a x ∷ filter on (map a xs)) (filter on (map a xs))) (out x e))

abbrev AreSameOrOut : (StackedPopup → Bool) → StackedPopup → StackedPopup → Type 0
AreSameOrOut on old new = (new ≡ old) ⊎ ((on old ≡ false) × (on new ≡ false))

filter-same : {X : Type 0} (on : StackedPopup → Bool) (a b : X → StackedPopup) → ((x : X) → AreSameOrOut on (a x) (b x)) → (xs : List X) → filter on (map b xs) ≡ filter on (map a xs)
filter-same on a b same [] = refl
filter-same on a b same (x ∷ xs) = by (same x) (filter-same on a b same xs)
  where
    by : AreSameOrOut on (a x) (b x) → filter on (map b xs) ≡ filter on (map a xs)
        → cond (on (b x)) (b x ∷ filter on (map b xs)) (filter on (map b xs)) ≡ cond (on (a x)) (a x ∷ filter on (map a xs)) (filter on (map a xs))
    by (inl e) rest = ap₂ (λ (q : StackedPopup) (qs : List StackedPopup). cond (on q) (q ∷ qs) qs) e rest
    by (inr e) rest =
        ap (λ q. cond q (b x ∷ filter on (map b xs)) (filter on (map b xs))) e.1
        ∙ (rest ∙ sym (ap (λ q. cond q (a x ∷ filter on (map a xs)) (filter on (map a xs))) e.0))

-- the popups that are mapped
abbrev pub mapped_of : Shell → List Popped
mapped_of shell = filter is_popup_mapped (flat_map popped_of shell)

module _ (c : ℕ) (d e : Desktop) (had : HasTrees d) (others : (other : ℕ) → other ≢ c → owned_in e other ≡ owned_in d other) (stack : e.standing ≡ d.standing)
    (keeps : KeepsAll (surfaces_in d c) (surfaces_in e c)) (mapped : mapped_of (owned_in e c).shell ≡ mapped_of (owned_in d c).shell) where
  in-order : filter is_popup_mapped (popups_of (owned_in e c).shell) ≡ filter is_popup_mapped (popups_of (owned_in d c).shell)
  in-order =
      all-left is_popup_mapped (flat_map popped_of (owned_in e c).shell)
      ∙ (ap (fold (λ ps p. by_number p ps) []) mapped ∙ sym (all-left is_popup_mapped (flat_map popped_of (owned_in d c).shell)))

  module _ (rs : List Root) (parents : (id : ℕ) → IsLeftParent rs (surface_at_xdg id (owned_in d c).shell) (surface_at_xdg id (owned_in e c).shell)) where
    parent-left : (o : Option ℕ)
        → IsLeftParent rs (option_and_then (λ id. surface_at_xdg id (owned_in d c).shell) o) (option_and_then (λ id. surface_at_xdg id (owned_in e c).shell) o)
    parent-left None = inl refl
    parent-left (Some id) = parents id

    as-left : (p : Popped) → AreSameOrOut (is_on_one rs) (stacked_popup (owned_in d c) p) (stacked_popup (owned_in e c) p)
    as-left p = by (parent-left p.popup.parent)
      where
        at : Option ℕ → Option Rect → StackedPopup
        at parent geometry = record {
          surface = p.xdg.surface;
          parent = parent;
          placement = placement_of p.popup.placement;
          geometry = geometry;
          is_mapped = is_popup_mapped p;
        }

        by : IsLeftParent rs (stacked_popup (owned_in d c) p).parent (stacked_popup (owned_in e c) p).parent
            → AreSameOrOut (is_on_one rs) (stacked_popup (owned_in d c) p) (stacked_popup (owned_in e c) p)
        by (inl same) = inl (ap₂ at same (geometry-counted (owned_in d c) (owned_in e c) p.xdg (keeps.counts p.xdg.surface)))
        by (inr out) = inr (
          and_right (is_popup_mapped p) (in_parent (stacked_popup (owned_in d c) p).parent rs) out.0,
          and_right (is_popup_mapped p) (in_parent (stacked_popup (owned_in e c) p).parent rs) out.1,
        )

    unmapped-out : (own : Owned) (p : Popped) → is_popup_mapped p ≡ false → is_on_one rs (stacked_popup own p) ≡ false
    unmapped-out own p out = ap (λ b. b && has_parent_in rs (stacked_popup own p)) out

    pub same-on : filter (is_on_one rs) (popups_in e c) ≡ filter (is_on_one rs) (popups_in d c)
    same-on =
        sym (filtered is_popup_mapped (is_on_one rs) (stacked_popup (owned_in e c)) (unmapped-out (owned_in e c)) (popups_of (owned_in e c).shell))
        ∙ (ap (λ ps. filter (is_on_one rs) (map (stacked_popup (owned_in e c)) ps)) in-order
        ∙ (filter-same (is_on_one rs) (stacked_popup (owned_in d c)) (stacked_popup (owned_in e c)) as-left (filter is_popup_mapped (popups_of (owned_in d c).shell))
        ∙ filtered is_popup_mapped (is_on_one rs) (stacked_popup (owned_in d c)) (unmapped-out (owned_in d c)) (popups_of (owned_in d c).shell)))

  -- no window changes where the xdg_surfaces of toplevels stay, and each id's surface, or it is no root
  pub unroled-painted : ((surface : ℕ) (x : XdgSurface) → xdg_of surface (owned_in d c).shell ≡ Some x → HasMappedToplevel (Some x) → xdg_of surface (owned_in e c).shell ≡ Some x)
      → ((rs : List Root) → ((surface : ℕ) → role_in (xdg_of surface (owned_in d c).shell) ≡ None → In surface rs ≡ false) → (id : ℕ)
      → IsLeftParent rs (surface_at_xdg id (owned_in d c).shell) (surface_at_xdg id (owned_in e c).shell)) → StaysPainted d e
  unroled-painted toplevels parents =
      painted c d e had others (λ x shows. any-tree c d e had keeps x) stack
      (λ s found is.
      geometry-in-counted (owned_in d c) (owned_in e c) s.surface (same s found is (xdg_of s.surface (owned_in d c).shell) refl) (keeps.counts s.surface))
      (λ s found is. same-on (stacked_roots d s) (parents (stacked_roots d s) (no-root c d had s (found-any (is_of s.client s.surface) d.standing s found) is)))
    where
      same : (s : Standing) → find (is_of s.client s.surface) d.standing ≡ Some s → s.client ≡ c → (o : Option XdgSurface) → xdg_of s.surface (owned_in d c).shell ≡ o
          → xdg_of s.surface (owned_in e c).shell ≡ xdg_of s.surface (owned_in d c).shell
      same s found is o there = by o there
          (subst HasMappedToplevel there (had.mapped c s.surface (subst (λ n. list_any (is_of n s.surface) d.standing ≡ true) is (found-any (is_of s.client s.surface) d.standing s found))))
        where
          by : (o : Option XdgSurface) → xdg_of s.surface (owned_in d c).shell ≡ o → HasMappedToplevel o → xdg_of s.surface (owned_in e c).shell ≡ xdg_of s.surface (owned_in d c).shell
          by None there mapped = absurd mapped
          by (Some x) there mapped = toplevels s.surface x there mapped ∙ sym there

-- ---- one changes that has no role object

module _ (c id : ℕ) (d e : Desktop) (had : HasTrees d) (others : (other : ℕ) → other ≢ c → owned_in e other ≡ owned_in d other) (stack : e.standing ≡ d.standing)
    (keeps : KeepsAll (surfaces_in d c) (surfaces_in e c)) (bare : (x : XdgSurface) → xdg_at id (owned_in d c).shell ≡ Some x → x.role ≡ None) where
  abbrev sh : Shell
  sh = (owned_in d c).shell

  bare-there : (x : XdgSurface) → IsThere sh x → (x.id == id) ≡ true → x.role ≡ None
  bare-there x there e = bare x (ap (λ n. xdg_at n sh) (sym (eqb-true x.id id e)) ∙ there.by_id)

  -- a toplevel isn't that
  toplevel-apart : (surface : ℕ) (x : XdgSurface) → xdg_of surface sh ≡ Some x → HasMappedToplevel (Some x) → (x.id == id) ≡ false
  toplevel-apart surface x found mapped =
      false_from_ne_true (x.id == id) (λ e. unmapped-role (Some x) (bare-there x (found-there c d had surface x found) e) mapped)

  module _ (change : XdgSurface → XdgSurface) (ids : (x : XdgSurface) → (change x).id ≡ x.id) (surfaces : (x : XdgSurface) → (change x).surface ≡ x.surface)
      (none : (x : XdgSurface) → filter is_popup_mapped (popped_of (change x)) ≡ []) (shell : (owned_in e c).shell ≡ map (λ x. cond (x.id == id) (change x) x) (owned_in d c).shell) where
    abbrev changed : XdgSurface → XdgSurface
    changed x = cond (x.id == id) (change x) x

    one-mapped : (x : XdgSurface) → IsThere sh x → filter is_popup_mapped (popped_of (changed x)) ≡ filter is_popup_mapped (popped_of x)
    one-mapped x there = at (x.id == id) refl
      where
        at : (b : Bool) → (x.id == id) ≡ b → filter is_popup_mapped (popped_of (cond b (change x) x)) ≡ filter is_popup_mapped (popped_of x)
        at true e = none x ∙ sym (ap (λ o. filter is_popup_mapped (popped_role x o)) (bare-there x there e))
        at false e = refl

    all-mapped : (xs : Shell) → Each (IsThere sh) xs → mapped_of (map changed xs) ≡ mapped_of xs
    all-mapped [] each = refl
    all-mapped (x ∷ xs) each =
        filter-append is_popup_mapped (popped_of (changed x)) (flat_map popped_of (map changed xs))
        ∙ (ap₂ (λ (ps qs : List Popped). ps ++ qs) (one-mapped x each.0) (all-mapped xs each.1) ∙ sym (filter-append is_popup_mapped (popped_of x) (flat_map popped_of xs)))

    same-id : (x : XdgSurface) (b : Bool) → (cond b (change x) x).id ≡ x.id
    same-id x true = ids x
    same-id x false = refl

    same-surface : (x : XdgSurface) (b : Bool) → (cond b (change x) x).surface ≡ x.surface
    same-surface x true = surfaces x
    same-surface x false = refl

    pub changed-painted : StaysPainted d e
    changed-painted =
        unroled-painted c d e had others stack keeps (ap mapped_of shell ∙ all-mapped sh (all-there sh (had.ids_apart c) (had.xdg_apart c)))
        (λ surface x found mapped.
        ap (xdg_of surface) shell
        ∙ (found-map (λ x. x.surface == surface) changed sh (λ x. ap (λ n. n == surface) (same-surface x (x.id == id)))
        ∙ (ap (option_map changed) found ∙ ap (λ b. Some (cond b (change x) x)) (toplevel-apart surface x found mapped))))
        (λ rs out n.
        inl
        (ap (surface_at_xdg n) shell
        ∙ (ap (option_map (λ (x : XdgSurface). x.surface)) (found-map (λ x. x.id == n) changed sh (λ x. ap (λ m. m == n) (same-id x (x.id == id)))) ∙ kept (xdg_at n sh))))
      where
        kept : (o : Option XdgSurface) → option_map (λ (x : XdgSurface). x.surface) (option_map changed o) ≡ option_map (λ (x : XdgSurface). x.surface) o
        kept None = refl
        kept (Some x) = ap (λ n. Some n) (same-surface x (x.id == id))

  -- or it goes
  module _ (shell : (owned_in e c).shell ≡ without_xdg id (owned_in d c).shell) where
    left-mapped : (xs : Shell) → Each (IsThere sh) xs → mapped_of (without_xdg id xs) ≡ mapped_of xs
    left-mapped [] each = refl
    left-mapped (x ∷ xs) each = at (x.id == id) refl (left-mapped xs each.1)
      where
        at : (b : Bool) → (x.id == id) ≡ b → mapped_of (without_xdg id xs) ≡ mapped_of xs → mapped_of (cond (not b) (x ∷ without_xdg id xs) (without_xdg id xs)) ≡ mapped_of (x ∷ xs)
        at true e rest =
            rest ∙ sym (ap (λ (ps : List Popped). filter is_popup_mapped (ps ++ flat_map popped_of xs)) (ap (popped_role x) (bare-there x each.0 e)))
        at false e rest =
            filter-append is_popup_mapped (popped_of x) (flat_map popped_of (without_xdg id xs))
            ∙ (ap (λ (ps : List Popped). filter is_popup_mapped (popped_of x) ++ ps) rest ∙ sym (filter-append is_popup_mapped (popped_of x) (flat_map popped_of xs)))

    found-left : (p : XdgSurface → Bool) (xs : Shell) → ((x : XdgSurface) → p x ≡ true → find p xs ≡ Some x → (x.id == id) ≡ false) → find p (without_xdg id xs) ≡ find p xs
    found-left p [] stays = refl
    found-left p (x ∷ xs) stays =
        at (p x) (x.id == id) refl refl (λ is. found-left p xs (λ y passes found. stays y passes (ap (λ a. cond a (Some x) (find p xs)) is ∙ found)))
      where
        at : (a b : Bool) → p x ≡ a → (x.id == id) ≡ b → (p x ≡ false → find p (without_xdg id xs) ≡ find p xs)
            → find p (cond (not b) (x ∷ without_xdg id xs) (without_xdg id xs)) ≡ cond a (Some x) (find p xs)
        at true true is e later = absurd (differ (sym (stays x is (ap (λ a. cond a (Some x) (find p xs)) is)) ∙ e))
        at true false is e later = ap (λ a. cond a (Some x) (find p (without_xdg id xs))) is
        at false true is e later = later is
        at false false is e later = ap (λ a. cond a (Some x) (find p (without_xdg id xs))) is ∙ later is

    pub gone-painted : StaysPainted d e
    gone-painted =
        unroled-painted c d e had others stack keeps (ap mapped_of shell ∙ left-mapped sh (all-there sh (had.ids_apart c) (had.xdg_apart c)))
        (λ surface x found mapped.
        ap (xdg_of surface) shell
        ∙ (found-left (λ x. x.surface == surface) sh
        (λ y passes there. subst (λ (y : XdgSurface). (y.id == id) ≡ false) (some-is x y (sym found ∙ there)) (toplevel-apart surface x found mapped)) ∙ found))
        (λ rs out n. at rs out n (n == id) refl (xdg_at n sh) refl)
      where
        some-is : (x y : XdgSurface) → Some x ≡ Some y → x ≡ y
        some-is x y e = cc

        at : (rs : List Root) → ((surface : ℕ) → role_in (xdg_of surface sh) ≡ None → In surface rs ≡ false) → (n : ℕ) → (b : Bool) → (n == id) ≡ b → (o : Option XdgSurface)
            → xdg_at n sh ≡ o → IsLeftParent rs (surface_at_xdg n sh) (surface_at_xdg n (owned_in e c).shell)
        at rs out n false f o found =
            inl
            (ap (surface_at_xdg n) shell
            ∙ ap (option_map (λ (x : XdgSurface). x.surface))
            (found-left (λ x. x.id == n) sh (λ x passes there. ap (λ m. m == id) (eqb-true x.id n passes) ∙ f)))
        at rs out n true f o found =
            inr (ap (λ o. in_parent (option_map (λ (x : XdgSurface). x.surface) o) rs) found ∙ by o found, ap (λ o. in_parent o rs) no_more ∙ no-parent rs)
          where
            no_more : surface_at_xdg n (owned_in e c).shell ≡ None
            no_more =
                ap (surface_at_xdg n) shell
                ∙ (ap (λ m. surface_at_xdg n (without_xdg m sh)) (sym (eqb-true n id f)) ∙ ap (option_map (λ (x : XdgSurface). x.surface)) (gone (λ x. x.id == n) sh))

            by : (o : Option XdgSurface) → xdg_at n sh ≡ o → in_parent (option_map (λ (x : XdgSurface). x.surface) o) rs ≡ false
            by None found = no-parent rs
            by (Some x) found =
                out x.surface
                (ap role_in
                (found-by (λ surface x. x.surface == surface) (λ x. x.id == n) x.surface sh x (had.xdg_apart c) found (equal-numbers x.surface x.surface refl))
                ∙ bare x (ap (λ m. xdg_at m sh) (sym (eqb-true n id f)) ∙ found))

-- ---- one comes

last-apart : (has : ℕ → XdgSurface → Bool) (xs : Shell) (x : XdgSurface) (key : ℕ) → AreApartBy has (xs ++ x ∷ []) → has key x ≡ true → find (has key) xs ≡ None
last-apart has [] x key apart is = refl
last-apart has (y ∷ ys) x key apart is = at (last-apart has ys x key apart.1 is)
  where
    never : None ≡ Some x → ⊥
    never e = absurd (cc)

    at : find (has key) ys ≡ None → find (has key) (y ∷ ys) ≡ None
    at rest =
        ap (λ b. cond b (Some y) (find (has key) ys)) (false_from_ne_true (has key y) (λ f. never (sym (apart.0 key f) ∙ new-here (has key) ys x rest is))) ∙ rest

module _ (c : ℕ) (x : XdgSurface) (d e : Desktop) (had : HasTrees d) (has : HasTrees e) (others : (other : ℕ) → other ≢ c → owned_in e other ≡ owned_in d other)
    (stack : e.standing ≡ d.standing) (keeps : KeepsAll (surfaces_in d c) (surfaces_in e c)) (bare : x.role ≡ None) (shell : (owned_in e c).shell ≡ (owned_in d c).shell ++ x ∷ []) where
  abbrev own : Shell
  own = (owned_in d c).shell

  new-id : xdg_at x.id own ≡ None
  new-id =
      last-apart (λ id x. x.id == id) own x x.id (subst (λ (s : Shell). AreApartBy (λ id x. x.id == id) s) shell (has.ids_apart c)) (equal-numbers x.id x.id refl)

  new-surface : xdg_of x.surface own ≡ None
  new-surface =
      last-apart (λ surface x. x.surface == surface) own x x.surface (subst (λ (s : Shell). AreApartBy (λ surface x. x.surface == surface) s) shell (has.xdg_apart c))
      (equal-numbers x.surface x.surface refl)

  flat-new : (xs : Shell) → flat_map popped_of (xs ++ x ∷ []) ≡ flat_map popped_of xs
  flat-new [] = ap (λ (ps : List Popped). ps ++ []) (ap (popped_role x) bare)
  flat-new (y ∷ ys) = ap (λ (ps : List Popped). popped_of y ++ ps) (flat-new ys)

  pub new-painted : StaysPainted d e
  new-painted =
      unroled-painted c d e had others stack keeps (ap mapped_of shell ∙ ap (filter is_popup_mapped) (flat-new own))
      (λ surface y found mapped.
      ap (xdg_of surface) shell
      ∙ (new-elsewhere (λ x. x.surface == surface) own x
      (false_from_ne_true (x.surface == surface) (λ e. never (sym new-surface ∙ (ap (λ n. xdg_of n own) (eqb-true x.surface surface e) ∙ found)))) ∙ found))
      (λ rs out n. at rs out n (x.id == n) refl)
    where
      never : {y : XdgSurface} → None ≡ Some y → ⊥
      never e = absurd (cc)

      at : (rs : List Root) → ((surface : ℕ) → role_in (xdg_of surface own) ≡ None → In surface rs ≡ false) → (n : ℕ) → (b : Bool) → (x.id == n) ≡ b
          → IsLeftParent rs (surface_at_xdg n own) (surface_at_xdg n (owned_in e c).shell)
      at rs out n false f =
          inl (ap (surface_at_xdg n) shell ∙ ap (option_map (λ (x : XdgSurface). x.surface)) (new-elsewhere (λ x. x.id == n) own x f))
      at rs out n true f =
          inr (
            ap (λ o. in_parent (option_map (λ (x : XdgSurface). x.surface) o) rs) none ∙ no-parent rs,
            ap (λ o. in_parent o rs) (ap (surface_at_xdg n) shell ∙ ap (option_map (λ (x : XdgSurface). x.surface)) (new-here (λ x. x.id == n) own x none f))
                ∙ out x.surface (ap role_in new-surface),
          )
        where
          none : xdg_at n own ≡ None
          none = ap (λ m. xdg_at m own) (sym (eqb-true x.id n f)) ∙ new-id
