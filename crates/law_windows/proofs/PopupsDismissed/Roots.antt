-- The roots that are stacked with a toplevel where popups of its client are dismissed.
use Rattle.std.proofs.Common.{◌≡◌, ℕ, Bool, true, false, cond, List, Option, Some, None, [], ◌∷◌, ◌++◌, map, refl, ap, ap₂, sym, subst, ◌∙◌}
use Rattle.std.specs.Prelude.{◌==◌, ◌&&◌, ◌||◌, filter, fold, not}
use Rattle.std.specs.List.{list_any}
use Rattle.std.specs.Option.{option_and_then, option_map, option_map_or}
use Rattle.std.proofs.lemmas.Bool.{eqb-true, false_from_ne_true}
use Rattle.std.proofs.lemmas.List.Elements.{filter-append}
use Rattle.std.proofs.lemmas.Option.{same_Some}
use Rattle.wl_geom.specs.declared.rect.Rect.{Rect}
use Rattle.wl_surface.specs.Surfaces.{Surfaces, history_in}
use Rattle.wl_shell.specs.Popups.{Popped, dismiss, dismissed_after, dismissed_among, dismissed_with, is_among, is_dismissed_in, is_mapped_stage, is_parent_of, is_popup_mapped}
use Rattle.wl_shell.specs.Popups.{kind_popup, popped_kind, popped_of, popped_role, popup_changed, popups_of, with_popup, with_popup_role}
use Rattle.wl_shell.specs.Shell.{IsPopup, Kind, RoleObject, Shell, Toplevel, XdgSurface, xdg_at, xdg_of}
use Rattle.spec_desktop.specs.Popups.{placement_of, stacked_popup, surface_at_xdg}
use Rattle.spec_desktop.specs.Stacking.{Owned, Standing, geometry_in, geometry_since, is_of}
use Rattle.spec_desktop.specs.Windows.{Root, StackedPopup, has_parent, root_on, roots_of, stacked, stacked_on}
use Rattle.spec_desktop.specs.Desktop.{Desktop, owned_in}
use Rattle.law_desktop.specs.Soundness.{AreOnce}
use Rattle.law_desktop.proofs.Lists.Keys.{found-by, found-passes}
use Rattle.law_desktop.proofs.Marks.Stacks.{equal-numbers}
use Rattle.law_desktop.proofs.Soundness.Windows.{same_popup}
use Rattle.law_desktop.specs.Standing.{HasMappedToplevel, IsMappedToplevel}
use Rattle.law_desktop.specs.Changes.{HasTrees}
use Rattle.law_desktop.specs.StackedWith.{stacked_roots}
use Rattle.law_desktop.proofs.RootsOf.Dismissed.{numbered-by, numbered-role}
use Rattle.law_desktop.proofs.RootsOf.Kept.{popups_in, surfaces_in}
use Rattle.law_desktop.proofs.RootsOf.Left.{since-geometry}
use Rattle.law_desktop.proofs.RootsOf.Popped.{AreNumberedAlike, IsPopped, IsThrough, KeepsNumbers, all-through, first_or, popups-through, surface-through, through, xdg-through}
use Rattle.law_desktop.proofs.RootsOf.Shells.{all-popped-of}
use Rattle.law_desktop.proofs.Truth.{and-false, differ, or-left, or-right}
use Rattle.law_desktop.proofs.Lists.Each.{Each, each-append, each-both, each-map}
use Rattle.law_desktop.proofs.Lists.Tests.{any-more, filter-all}
use Rattle.law_desktop.proofs.Lists.Left.{filter-none-each}
use Rattle.law_windows.specs.Grabs.Dismissed.{Dismisses, is_dismissed_at}

-- ---- roots on others

-- a popup has the same root where those are left out that are not its parent
on-kept : (keep : Root → Bool) (all : Surfaces) (q : StackedPopup) (rs : List Root) → Each (λ r. has_parent r.surface q ≡ true → keep r ≡ true) rs
    → stacked_on all q (filter keep rs) ≡ stacked_on all q rs
on-kept keep all q [] each = refl
on-kept keep all q (r ∷ rs) each = at (keep r) refl (on-kept keep all q rs each.1)
  where
    at : (b : Bool) → keep r ≡ b → stacked_on all q (filter keep rs) ≡ stacked_on all q rs
        → stacked_on all q (cond b (r ∷ filter keep rs) (filter keep rs)) ≡ stacked_on all q (r ∷ rs)
    at true f more = ap (λ (qs : List Root). cond (q.is_mapped && has_parent r.surface q) (root_on all r q ∷ []) qs) more
    at false f more =
        more
        ∙ sym (ap (λ b. cond (q.is_mapped && b) (root_on all r q ∷ []) (stacked_on all q rs)) (false_from_ne_true (has_parent r.surface q) (λ g. differ (sym f ∙ each.0 g)))
        ∙ ap (λ b. cond b (root_on all r q ∷ []) (stacked_on all q rs)) (and-false q.is_mapped))

-- one that isn't mapped has none
unmapped-on : (all : Surfaces) (q : StackedPopup) (rs : List Root) → q.is_mapped ≡ false → stacked_on all q rs ≡ []
unmapped-on all q [] off = refl
unmapped-on all q (r ∷ rs) off =
    ap (λ b. cond (b && has_parent r.surface q) (root_on all r q ∷ []) (stacked_on all q rs)) off ∙ unmapped-on all q rs off

-- it is of its surface
on-surface : (P : ℕ → Type 0) (all : Surfaces) (q : StackedPopup) (rs : List Root) → P q.surface → Each (λ r. P r.surface) (stacked_on all q rs)
on-surface P all q [] own = tt
on-surface P all q (r ∷ rs) own = at (q.is_mapped && has_parent r.surface q) (on-surface P all q rs own)
  where
    at : (b : Bool) → Each (λ r. P r.surface) (stacked_on all q rs) → Each (λ r. P r.surface) (cond b (root_on all r q ∷ []) (stacked_on all q rs))
    at true more = (own, tt)
    at false more = more

-- ---- role objects that are dismissed

-- the popup of an xdg_surface is its role object
dismissed-role : (y : XdgSurface) (p : Popped) (o : Option RoleObject) → popped_role y o ≡ p ∷ [] → is_dismissed_in o ≡ p.popup.is_dismissed
dismissed-role y p None e = absurd (cc)
dismissed-role y p (Some object) e = kind object.kind e
  where
    first : List Popped → Bool
    first [] = p.popup.is_dismissed
    first (q ∷ qs) = q.popup.is_dismissed

    kind : (k : Kind) → popped_kind y object k ≡ p ∷ [] → option_map_or (λ popup. popup.is_dismissed) (kind_popup k) false ≡ p.popup.is_dismissed
    kind Toplevel e = absurd (cc)
    kind (IsPopup popup) e = ap first e

dismissed-then : (y : XdgSurface) (p : Popped) (o : Option RoleObject) → popped_role y o ≡ p ∷ [] → is_dismissed_in (option_map (with_popup_role dismiss) o) ≡ true
dismissed-then y p None e = absurd (cc)
dismissed-then y p (Some object) e = kind object.kind e
  where
    kind : (k : Kind) → popped_kind y object k ≡ p ∷ [] → option_map_or (λ popup. popup.is_dismissed) (kind_popup (with_popup dismiss k)) false ≡ true
    kind Toplevel e = absurd (cc)
    kind (IsPopup popup) e = refl

-- a toplevel never is
toplevel-stays : (b : Bool) (x : XdgSurface) (o : Option RoleObject) → x.role ≡ o → IsMappedToplevel o
    → is_dismissed_in (cond b (popup_changed dismiss x) x).role ≡ false
toplevel-stays b x None e top = absurd top
toplevel-stays true x (Some object) e top =
    ap (λ o. is_dismissed_in (option_map (with_popup_role dismiss) o)) e
    ∙ ap (λ (k : Kind). option_map_or (λ popup. popup.is_dismissed) (kind_popup (with_popup dismiss k)) false) top.0
toplevel-stays false x (Some object) e top =
    ap is_dismissed_in e ∙ ap (λ (k : Kind). option_map_or (λ popup. popup.is_dismissed) (kind_popup k) false) top.0

-- a popup that is dismissed isn't mapped
abbrev first_mapped : List Popped → Bool
first_mapped [] = false
first_mapped (q ∷ qs) = is_popup_mapped q

unmapped-kind : (y : XdgSurface) (object : RoleObject) (k : Kind) → first_mapped (popped_kind y object (with_popup dismiss k)) ≡ false
unmapped-kind y object Toplevel = refl
unmapped-kind y object (IsPopup popup) = and-false (is_mapped_stage object.stage)

unmapped-role : (y : XdgSurface) (o : Option RoleObject) → first_mapped (popped_role y (option_map (with_popup_role dismiss) o)) ≡ false
unmapped-role y None = refl
unmapped-role y (Some object) = unmapped-kind y (with_popup_role dismiss object) object.kind

-- ---- ids of dismissed popups

module _ (is : Popped → Bool) where
  -- those that are among them stay so
  once-among : (id : ℕ) (so : List ℕ) (p : Popped) → is_among id so ≡ true → is_among id (dismissed_after is so p) ≡ true
  once-among id so p e = at (is p || list_any (λ n. is_parent_of n p.popup) so)
    where
      later : (a : Bool) → (a || is_among id so) ≡ true
      later true = refl
      later false = e

      at : (b : Bool) → is_among id (cond b (p.xdg.id ∷ so) so) ≡ true
      at true = later (p.xdg.id == id)
      at false = e

  among-stays : (id : ℕ) (so : List ℕ) (ps : List Popped) → is_among id so ≡ true → is_among id (fold (dismissed_after is) so ps) ≡ true
  among-stays id so [] e = e
  among-stays id so (p ∷ ps) e = among-stays id (dismissed_after is so p) ps (once-among id so p e)

  -- those that come are of these popups
  among-before : (id : ℕ) (so : List ℕ) (ps : List Popped) → Each (λ q. (q.xdg.id == id) ≡ false) ps → is_among id (fold (dismissed_after is) so ps) ≡ true → is_among id so ≡ true
  among-before id so [] others e = e
  among-before id so (q ∷ qs) others e = at (is q || list_any (λ n. is_parent_of n q.popup) so) (among-before id (dismissed_after is so q) qs others.1 e)
    where
      at : (b : Bool) → is_among id (cond b (q.xdg.id ∷ so) so) ≡ true → is_among id so ≡ true
      at true f = sym (ap (λ b. b || is_among id so) others.0) ∙ f
      at false f = f

  -- one whose parent is among them comes
  child-comes : (n : ℕ) (so : List ℕ) (p : Popped) → p.popup.parent ≡ Some n → is_among n so ≡ true → is_among p.xdg.id (dismissed_after is so p) ≡ true
  child-comes n so p parent among = at (is p)
    where
      any : list_any (λ id. is_parent_of id p.popup) so ≡ true
      any =
          any-more (λ id. id == n) (λ id. is_parent_of id p.popup) (λ id e. ap (λ o. option_map_or (λ parent. parent == id) o false) parent ∙ equal-numbers n id (sym (eqb-true id n e)))
          so among

      own : (b : Bool) → b ≡ true → is_among p.xdg.id (cond b (p.xdg.id ∷ so) so) ≡ true
      own true e = ap (λ b. b || is_among p.xdg.id so) (equal-numbers p.xdg.id p.xdg.id refl)
      own false e = absurd (differ e)

      at : (a : Bool) → is_among p.xdg.id (cond (a || list_any (λ id. is_parent_of id p.popup) so) (p.xdg.id ∷ so) so) ≡ true
      at true = own true refl
      at false = own (list_any (λ id. is_parent_of id p.popup) so) any

-- ---- popups before and after

-- a popup keeps its surface, and where it is mapped it stays as it is
pub record BecomesSo (p q : StackedPopup) : Type 0 where
  pub surface : q.surface ≡ p.surface
  pub mapped : q.is_mapped ≡ true → q ≡ p

abbrev pub BecomeSo : List StackedPopup → List StackedPopup → Type 0
BecomeSo [] [] = Unit {0}
BecomeSo (p ∷ ps) (q ∷ qs) = BecomesSo p q × BecomeSo ps qs
BecomeSo [] (q ∷ qs) = ⊥
BecomeSo (p ∷ ps) [] = ⊥

-- ---- popups of a client are dismissed

module _ (is : Popped → Bool) (c : ℕ) (d e : Desktop) (had : HasTrees d) (goes : Dismisses is c d e) where
  abbrev own : Owned
  own = owned_in d c

  abbrev now : Owned
  now = owned_in e c

  abbrev pub ids : List ℕ
  ids = dismissed_with is (owned_in d c).shell

  abbrev pub gone : XdgSurface → XdgSurface
  gone x = dismissed_among (dismissed_with is (owned_in d c).shell) x

  abbrev out : ℕ → Bool
  out surface = is_dismissed_at surface (owned_in e c).shell

  abbrev keep : Root → Bool
  keep r = not (is_dismissed_at r.surface (owned_in e c).shell)

  pub gone-numbers : KeepsNumbers gone (owned_in d c).shell
  gone-numbers = record {
    ids = λ x. same-id x (is_among x.id ids);
    surfaces = λ x. same-surface x (is_among x.id ids);
    alike = each (owned_in d c).shell;
  }
    where
      same-id : (x : XdgSurface) (b : Bool) → (cond b (popup_changed dismiss x) x).id ≡ x.id
      same-id x true = refl
      same-id x false = refl

      same-surface : (x : XdgSurface) (b : Bool) → (cond b (popup_changed dismiss x) x).surface ≡ x.surface
      same-surface x true = refl
      same-surface x false = refl

      alike : (x : XdgSurface) (b : Bool) → AreNumberedAlike (popped_of x) (popped_of (cond b (popup_changed dismiss x) x))
      alike x true = numbered-by x (popup_changed dismiss x) dismiss (λ p. refl) x.role
      alike x false = numbered-role x x x.role

      each : (xs : Shell) → Each (λ x. AreNumberedAlike (popped_of x) (popped_of (gone x))) xs
      each [] = tt
      each (x ∷ xs) = (alike x (is_among x.id ids), each xs)

  same-since : (x : XdgSurface) → (gone x).since ≡ x.since
  same-since x = at (is_among x.id ids)
    where
      at : (b : Bool) → (cond b (popup_changed dismiss x) x).since ≡ x.since
      at true = refl
      at false = refl

  -- ---- which surfaces are those of dismissed popups

  out-of : (surface : ℕ) (x : XdgSurface) → xdg_of surface own.shell ≡ Some x → out surface ≡ is_dismissed_in (gone x).role
  out-of surface x found =
      ap (λ (s : Shell). is_dismissed_at surface s) goes.shell
      ∙ ap (λ o. is_dismissed_in (option_and_then (λ (x : XdgSurface). x.role) o)) (xdg-through gone own.shell gone-numbers surface ∙ ap (option_map gone) found)

  among-out : (p : Popped) → IsPopped own.shell p → is_among p.xdg.id ids ≡ true → out p.xdg.surface ≡ true
  among-out p popped f =
      out-of p.xdg.surface p.xdg popped.there.by_surface
      ∙ (ap (λ b. is_dismissed_in (cond b (popup_changed dismiss p.xdg) p.xdg).role) f ∙ dismissed-then p.xdg p p.xdg.role popped.its)

  other-out : (p : Popped) → IsPopped own.shell p → is_among p.xdg.id ids ≡ false → out p.xdg.surface ≡ p.popup.is_dismissed
  other-out p popped f =
      out-of p.xdg.surface p.xdg popped.there.by_surface
      ∙ (ap (λ b. is_dismissed_in (cond b (popup_changed dismiss p.xdg) p.xdg).role) f ∙ dismissed-role p.xdg p p.xdg.role popped.its)

  pub toplevel-kept : (surface : ℕ) → list_any (is_of c surface) d.standing ≡ true → is_dismissed_at surface (owned_in e c).shell ≡ false
  toplevel-kept surface stands = at (xdg_of surface own.shell) refl (had.mapped c surface stands)
    where
      at : (o : Option XdgSurface) → xdg_of surface own.shell ≡ o → HasMappedToplevel o → out surface ≡ false
      at None found top = absurd top
      at (Some x) found top = out-of surface x found ∙ toplevel-stays (is_among x.id ids) x x.role refl top

  -- ---- what becomes of the popups

  abbrev as_stacked : Popped → StackedPopup
  as_stacked p = stacked_popup (owned_in d c) p

  abbrev became : Popped → StackedPopup
  became p = stacked_popup (owned_in e c) (through gone p)

  record IsKnown (p : Popped) : Type 0 where
    popped : IsPopped (owned_in d c).shell p
    becomes : IsThrough gone p

  all-known : Each IsKnown (popups_of own.shell)
  all-known =
      each-both (IsPopped own.shell) (IsThrough gone) IsKnown (λ p popped becomes. record { popped = popped; becomes = becomes }) (popups_of own.shell) (all-popped-of c d had)
      (all-through gone own.shell gone-numbers)

  same-stacked : (p : Popped) → IsKnown p → is_among p.xdg.id ids ≡ false → became p ≡ as_stacked p
  same-stacked p known f =
      ap (stacked_popup now) (ap (λ x. first_or p (popped_of x)) (ap (λ b. cond b (popup_changed dismiss p.xdg) p.xdg) f) ∙ ap (first_or p) known.popped.its)
      ∙ ap₂ at (parent p.popup.parent) (ap (λ (all : Surfaces). option_and_then (λ h. geometry_since h p.xdg) (history_in p.xdg.surface all)) goes.surfaces)
    where
      at : Option ℕ → Option Rect → StackedPopup
      at parent geometry = record {
        surface = p.xdg.surface;
        parent = parent;
        placement = placement_of p.popup.placement;
        geometry = geometry;
        is_mapped = is_popup_mapped p;
      }

      parent : (o : Option ℕ) → option_and_then (λ xdg. surface_at_xdg xdg now.shell) o ≡ option_and_then (λ xdg. surface_at_xdg xdg own.shell) o
      parent None = refl
      parent (Some id) = ap (surface_at_xdg id) goes.shell ∙ surface-through gone own.shell gone-numbers id

  gone-unmapped : (p : Popped) → IsKnown p → is_among p.xdg.id ids ≡ true → (became p).is_mapped ≡ false
  gone-unmapped p known f =
      ap first_mapped (sym known.becomes.all)
      ∙ (ap (λ b. first_mapped (popped_of (cond b (popup_changed dismiss p.xdg) p.xdg))) f ∙ unmapped-role (popup_changed dismiss p.xdg) p.xdg.role)

  -- ---- one popup after another

  abbrev all : Surfaces
  all = (owned_in d c).surfaces

  -- where the surface is that of a dismissed popup, this is among those so far
  abbrev IsEarlierAt : List ℕ → ℕ → Type 0
  IsEarlierAt so surface = is_dismissed_at surface (owned_in e c).shell ≡ true → (x : XdgSurface) → xdg_of surface (owned_in d c).shell ≡ Some x → is_among x.id so ≡ true

  abbrev IsEarlier : List ℕ → Root → Type 0
  IsEarlier so r = IsEarlierAt so r.surface

  other-ids : (p : Popped) → IsKnown p → (ps : List Popped) → Each IsKnown ps → list_any (same_popup (as_stacked p)) (map as_stacked ps) ≡ false → Each (λ q. (q.xdg.id == p.xdg.id) ≡ false) ps
  other-ids p known [] others none = tt
  other-ids p known (q ∷ qs) others none = (
    false_from_ne_true (q.xdg.id == p.xdg.id)
        (λ f. differ (sym (or-left (same_popup (as_stacked p) (as_stacked q)) (list_any (same_popup (as_stacked p)) (map as_stacked qs)) none)
        ∙ equal-numbers q.xdg.surface p.xdg.surface
        (ap (λ (x : XdgSurface). x.surface)
        (same_Some q.xdg p.xdg (sym others.0.popped.there.by_id ∙ (ap (λ n. xdg_at n own.shell) (eqb-true q.xdg.id p.xdg.id f) ∙ known.popped.there.by_id)))))),
    other-ids p known qs others.1 (or-right (same_popup (as_stacked p) (as_stacked q)) (list_any (same_popup (as_stacked p)) (map as_stacked qs)) none),
  )

  module _ (p : Popped) (known : IsKnown p) (ps : List Popped) (so : List ℕ) (last : fold (dismissed_after is) so (p ∷ ps) ≡ dismissed_with is (owned_in d c).shell) (rs : List Root)
      (earlier : Each (IsEarlier so) rs) where
    abbrev longer : List ℕ
    longer = dismissed_after is so p

    -- no root that goes is the parent of a popup that stays
    parent-kept : is_among p.xdg.id ids ≡ false → (r : Root) → IsEarlier so r → has_parent r.surface (as_stacked p) ≡ true → keep r ≡ true
    parent-kept stays r before parent =
        ap not
        (false_from_ne_true (out r.surface)
        (λ f. at f p.popup.parent refl parent))
      where
        found : out r.surface ≡ true → (n : ℕ) → p.popup.parent ≡ Some n → (o : Option XdgSurface) → xdg_at n own.shell ≡ o
            → option_map_or (λ parent. r.surface == parent) (option_map (λ (x : XdgSurface). x.surface) o) false ≡ true → ⊥
        found f n named None here g = differ g
        found f n named (Some x) here g =
            let its : r.surface ≡ x.surface = eqb-true r.surface x.surface g in
            let by_surface : xdg_of x.surface own.shell ≡ Some x =
            found-by (λ surface x. x.surface == surface) (λ x. x.id == n) x.surface own.shell x (had.xdg_apart c) here (equal-numbers x.surface x.surface refl) in
            let among : is_among x.id so ≡ true = before f x (ap (λ m. xdg_of m own.shell) its ∙ by_surface) in
            let id : x.id ≡ n = eqb-true x.id n (found-passes (λ x. x.id == n) own.shell x here) in
            differ
            (sym stays
            ∙ (ap (is_among p.xdg.id) (sym last)
            ∙ among-stays is p.xdg.id (dismissed_after is so p) ps (child-comes is n so p named (ap (λ m. is_among m so) (sym id) ∙ among))))

        at : out r.surface ≡ true → (o : Option ℕ) → p.popup.parent ≡ o
            → option_map_or (λ parent. r.surface == parent) (option_and_then (λ xdg. surface_at_xdg xdg own.shell) o) false ≡ true → ⊥
        at f None named g = differ g
        at f (Some n) named g = found f n named (xdg_at n own.shell) refl g

    abbrev new : List Root
    new = stacked_on (owned_in d c).surfaces (stacked_popup (owned_in d c) p) rs

    mapped-lives : is_popup_mapped p ≡ true → p.popup.is_dismissed ≡ false
    mapped-lives f = false_from_ne_true p.popup.is_dismissed (λ g. differ (sym (ap (λ b. is_mapped_stage p.object.stage && not b) g ∙ and-false (is_mapped_stage p.object.stage)) ∙ f))

    -- what is so of its surface, if it is mapped, is so of the roots that it has
    new-each : (P : ℕ → Type 0) → (is_popup_mapped p ≡ true → P p.xdg.surface) → Each (λ r. P r.surface) new
    new-each P own = at (is_popup_mapped p) refl
      where
        at : (b : Bool) → is_popup_mapped p ≡ b → Each (λ r. P r.surface) new
        at true f = on-surface P all (as_stacked p) rs (own f)
        at false f = subst (λ (qs : List Root). Each (λ r. P r.surface) qs) (sym (unmapped-on all (as_stacked p) rs f)) tt

    step : stacked all (filter keep rs) (became p) ≡ filter keep (stacked all rs (as_stacked p))
    step = at (is_among p.xdg.id ids) refl
      where
        at : (b : Bool) → is_among p.xdg.id ids ≡ b → stacked all (filter keep rs) (became p) ≡ filter keep (stacked all rs (as_stacked p))
        at true f =
            ap (λ qs. filter keep rs ++ qs)
            (unmapped-on all (became p) (filter keep rs) (gone-unmapped p known f)
            ∙ sym (filter-none-each keep new (new-each (λ n. not (is_dismissed_at n now.shell) ≡ false) (λ mapped. ap not (among-out p known.popped f)))))
            ∙ sym (filter-append keep rs new)
        at false f =
            ap (stacked all (filter keep rs)) (same-stacked p known f)
            ∙ (ap (λ qs. filter keep rs ++ qs)
            (on-kept keep all (as_stacked p) rs (each-map (IsEarlier so) (λ r. has_parent r.surface (as_stacked p) ≡ true → keep r ≡ true) (parent-kept f) rs earlier)
            ∙ sym (filter-all keep new
            (new-each (λ n. not (is_dismissed_at n now.shell) ≡ true) (λ mapped. ap not (other-out p known.popped f ∙ mapped-lives mapped)))))
            ∙ sym (filter-append keep rs new))

    longer-earlier : Each (λ q. (q.xdg.id == p.xdg.id) ≡ false) ps → Each (IsEarlier longer) (rs ++ new)
    longer-earlier others =
        each-append (IsEarlier longer) rs new
        (each-map (IsEarlier so) (IsEarlier longer) (λ r before f x here. once-among is x.id so p (before f x here)) rs earlier)
        (new-each (IsEarlierAt longer) own-earlier)
      where
        own-earlier : is_popup_mapped p ≡ true → IsEarlierAt longer p.xdg.surface
        own-earlier mapped f x here =
            subst (λ (y : XdgSurface). is_among y.id longer ≡ true) (same_Some p.xdg x (sym known.popped.there.by_surface ∙ here))
            (at (is_among p.xdg.id ids) refl)
          where
            at : (b : Bool) → is_among p.xdg.id ids ≡ b → is_among p.xdg.id longer ≡ true
            at true g = among-before is p.xdg.id longer ps others (ap (is_among p.xdg.id) last ∙ g)
            at false g = absurd (differ (sym (other-out p known.popped g ∙ mapped-lives mapped) ∙ f))

  follow : (ps : List Popped) → Each IsKnown ps → AreOnce same_popup (map as_stacked ps) → (so : List ℕ) → fold (dismissed_after is) so ps ≡ ids → (rs : List Root) → Each (IsEarlier so) rs
      → fold (stacked all) (filter keep rs) (map became ps) ≡ filter keep (fold (stacked all) rs (map as_stacked ps))
  follow [] known once so last rs earlier = refl
  follow (p ∷ ps) known once so last rs earlier =
      ap (λ qs. fold (stacked all) qs (map became ps)) (step p known.0 ps so last rs earlier)
      ∙ follow ps known.1 once.1 (dismissed_after is so p) last (stacked all rs (as_stacked p))
      (longer-earlier p known.0 ps so last rs earlier (other-ids p known.0 ps known.1 once.0))

  became-all : popups_in e c ≡ map became (popups_of own.shell)
  became-all = ap (λ (s : Shell). map (stacked_popup now) (popups_of s)) goes.shell
      ∙ (ap (map (stacked_popup now)) (popups-through gone own.shell gone-numbers) ∙ twice (popups_of own.shell))
    where
      twice : (ps : List Popped) → map (stacked_popup now) (map (through gone) ps) ≡ map became ps
      twice [] = refl
      twice (p ∷ ps) = ap (λ qs. became p ∷ qs) (twice ps)

  pub popups-become : BecomeSo (popups_in d c) (popups_in e c)
  popups-become = subst (λ (qs : List StackedPopup). BecomeSo (popups_in d c) qs) (sym became-all) (each (popups_of own.shell) all-known)
    where
      at : (p : Popped) → IsKnown p → (b : Bool) → is_among p.xdg.id ids ≡ b → (became p).is_mapped ≡ true → became p ≡ as_stacked p
      at p known true f mapped = absurd (differ (sym (gone-unmapped p known f) ∙ mapped))
      at p known false f mapped = same-stacked p known f

      each : (ps : List Popped) → Each IsKnown ps → BecomeSo (map as_stacked ps) (map became ps)
      each [] known = tt
      each (p ∷ ps) known = (
        record {
          surface = ap (λ (x : XdgSurface). x.surface) known.0.becomes.xdg ∙ gone-numbers.surfaces p.xdg;
          mapped = at p known.0 (is_among p.xdg.id ids) refl;
        },
        each ps known.1,
      )

  module _ (s : Standing) (stands : list_any (is_of c s.surface) d.standing ≡ true) where
    abbrev top : ℕ → Option Rect → Root
    top n geometry = record { client = n; surface = s.surface; toplevel = s.surface; geometry = geometry; place = s.place }

    abbrev roots_by : ℕ → Desktop → List Root
    roots_by n f = roots_of (surfaces_in f n) (top n (geometry_in (owned_in f n) s.surface)) (popups_in f n)

    roots-by : roots_by c e ≡ filter keep (roots_by c d)
    roots-by =
        ap (λ (all : Surfaces). roots_of all (top c (geometry_in now s.surface)) (popups_in e c)) goes.surfaces
        ∙ (ap (λ geometry. roots_of all (top c geometry) (popups_in e c)) (since-geometry c d e had gone gone-numbers goes.shell goes.surfaces same-since s.surface)
        ∙ (ap (roots_of all (top c (geometry_in own s.surface))) became-all
        ∙ (ap (λ b. fold (stacked all) (cond (not b) (top c (geometry_in own s.surface) ∷ []) []) (map became (popups_of own.shell))) (sym (toplevel-kept s.surface stands))
        ∙ follow (popups_of own.shell) all-known (had.sound.popups c) [] refl (top c (geometry_in own s.surface) ∷ [])
        ((λ f x here. absurd (differ (sym (toplevel-kept s.surface stands) ∙ f))), tt))))

    pub roots-go : s.client ≡ c → stacked_roots e s ≡ filter keep (stacked_roots d s)
    roots-go own = ap (λ n. roots_by n e) own ∙ (roots-by ∙ ap (λ n. filter keep (roots_by n d)) (sym own))
