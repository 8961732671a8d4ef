-- No surface has two windows where no toplevel stands twice and no surface is linked.
use Rattle.std.proofs.Common.{◌≡◌, ℕ, suc, Bool, true, false, List, [], ◌∷◌, ◌++◌, Option, Some, None, refl, ap, sym, subst, ◌∙◌}
use Rattle.std.specs.Prelude.{◌==◌, ◌&&◌, ◌||◌}
use Rattle.std.specs.List.{list_any}
use Rattle.std.proofs.lemmas.List.{append-nil}
use Rattle.std.proofs.lemmas.Bool.{eqb-true, false_from_ne_true}
use Rattle.wl_surface.specs.Request.{Buffer}
use Rattle.wl_surface.specs.State.{History, applied, counting}
use Rattle.wl_surface.specs.Surfaces.{Surfaces, history_in}
use Rattle.spec_desktop.proofs.Lone.{no-child, order-once}
use Rattle.spec_desktop.specs.Stacking.{Owned, Standing, is_of, root_of, windows_on}
use Rattle.spec_desktop.specs.Windows.{Owner, Place, Window, corner_at, member_windows, owner_of, shown_windows, surface_windows, tree, window_of, window_showing, window_with}
use Rattle.spec_desktop.specs.Desktop.{owned_in}
use Rattle.law_desktop.specs.Laws.{AreApart, WindowsAreDistinct}
use Rattle.spec_desktop.specs.Marks.{AreDistinct, is_same_surface}
use Rattle.law_desktop.proofs.Marks.Stacks.{equal-numbers}
use Rattle.law_desktop.proofs.Truth.{and-left, and-right, differ}
use Rattle.law_desktop.proofs.Lists.Each.{Each, each-map}

-- the window of a surface, if it shows a buffer
own : Owner → ℕ → Place → Option History → List Window
own owner surface place None = []
own owner surface place (Some h) = window_of owner surface (corner_at place h) h

shown-own : (next : ℕ → Place → List Window) (owner : Owner) (surfaces : Surfaces) (surface : ℕ) (h : History) (corner : Place) (buffer : Option Buffer) → surfaces.links ≡ []
    → (applied h).buffer ≡ buffer → shown_windows next owner surfaces surface h corner buffer ≡ window_with owner surface corner (applied h) buffer
shown-own next owner surfaces surface h corner None unlinked e = refl
shown-own next owner surfaces surface h corner (Some buffer) unlinked e =
    order-once (member_windows next owner surfaces surface h corner) (no-child next owner surfaces surface h corner unlinked) (counting h)
    ∙ ap (λ (b : Option Buffer). window_with owner surface corner (applied h) b) e

surface-own : (next : ℕ → Place → List Window) (owner : Owner) (surfaces : Surfaces) (surface : ℕ) (place : Place) (h : Option History) → surfaces.links ≡ []
    → surface_windows next owner surfaces surface place h ≡ own owner surface place h
unfolding own
surface-own next owner surfaces surface place None unlinked = refl
surface-own next owner surfaces surface place (Some h) unlinked = shown-own next owner surfaces surface h (corner_at place h) (applied h).buffer unlinked refl

tree-own : (levels : ℕ) (owner : Owner) (surfaces : Surfaces) (surface : ℕ) (place : Place) → surfaces.links ≡ []
    → tree (suc levels) owner surfaces surface place ≡ own owner surface place (history_in surface surfaces)
unfolding tree
tree-own levels owner surfaces surface place unlinked = surface-own (λ child at. tree levels owner surfaces child at) owner surfaces surface place (history_in surface surfaces) unlinked

-- the windows of these toplevels, one after another
owned-windows : (ℕ → Owned) → List Standing → List Window
owned-windows owned [] = []
owned-windows owned (s ∷ ss) = own (owner_of (root_of owned s)) s.surface s.place (history_in s.surface (owned s.client).surfaces) ++ owned-windows owned ss

windows-own : (owned : ℕ → Owned) (standing : List Standing) → ((c : ℕ) → (owned c).surfaces.links ≡ []) → windows_on owned standing ≡ owned-windows owned standing
unfolding owned-windows
windows-own owned [] unlinked = refl
windows-own owned (s ∷ ss) unlinked =
    ap (λ ws. ws ++ windows_on owned ss) (append-nil _ ∙ tree-own 16 (owner_of (root_of owned s)) (owned s.client).surfaces s.surface s.place (unlinked s.client))
    ∙ ap (λ ws. own (owner_of (root_of owned s)) s.surface s.place (history_in s.surface (owned s.client).surfaces) ++ ws) (windows-own owned ss unlinked)

-- a window of one of these toplevels
stands : List Standing → Window → Bool
stands ss w = list_any (is_of w.owner.client w.surface) ss

-- what a surface shows is one window of it, or none
own-first : (owner : Owner) (surface : ℕ) (place : Place) (h : Option History) (ws : List Window) → AreDistinct ws → ((w : Window) → w.owner.client ≡ owner.client → w.surface ≡ surface
    → list_any (is_same_surface w) ws ≡ false) → AreDistinct (own owner surface place h ++ ws)
unfolding own
own-first owner surface place None ws apart new = apart
own-first owner surface place (Some h) ws apart new = go (applied h).buffer where
  go : (buffer : Option Buffer) → AreDistinct (window_with owner surface (corner_at place h) (applied h) buffer ++ ws)
  go None = apart
  go (Some buffer) = (new (window_showing owner surface (corner_at place h) (applied h) buffer) refl refl, apart)

each-own : (P : Window → Type 0) (owner : Owner) (surface : ℕ) (place : Place) (h : Option History) (ws : List Window) → Each P ws → ((w : Window) → w.owner.client ≡ owner.client → w.surface ≡ surface
    → P w) → Each P (own owner surface place h ++ ws)
unfolding own
each-own P owner surface place None ws e f = e
each-own P owner surface place (Some h) ws e f = go (applied h).buffer where
  go : (buffer : Option Buffer) → Each P (window_with owner surface (corner_at place h) (applied h) buffer ++ ws)
  go None = e
  go (Some buffer) = (f (window_showing owner surface (corner_at place h) (applied h) buffer) refl refl, e)

is-it : (w : Window) (s : Standing) → w.owner.client ≡ s.client → w.surface ≡ s.surface → is_of w.owner.client w.surface s ≡ true
is-it w s c e = both (s.client == w.owner.client) (s.surface == w.surface) (equal-numbers s.client w.owner.client (sym c)) (equal-numbers s.surface w.surface (sym e)) where
  both : (a b : Bool) → a ≡ true → b ≡ true → (a && b) ≡ true
  both true b f g = g
  both false b f g = f

all-stand : (owned : ℕ → Owned) (standing : List Standing) → Each (λ w. stands standing w ≡ true) (owned-windows owned standing)
unfolding owned-windows stands
all-stand owned [] = tt
all-stand owned (s ∷ ss) =
    each-own (λ w. (is_of w.owner.client w.surface s || list_any (is_of w.owner.client w.surface) ss) ≡ true) (owner_of (root_of owned s)) s.surface s.place
    (history_in s.surface (owned s.client).surfaces) (owned-windows owned ss)
    (each-map (λ w. list_any (is_of w.owner.client w.surface) ss ≡ true) (λ w. (is_of w.owner.client w.surface s || list_any (is_of w.owner.client w.surface) ss) ≡ true)
    (λ w e. more (is_of w.owner.client w.surface s) (list_any (is_of w.owner.client w.surface) ss) e) (owned-windows owned ss) (all-stand owned ss))
    (λ w c e. first (is_of w.owner.client w.surface s) (list_any (is_of w.owner.client w.surface) ss) (is-it w s c e)) where
      more : (a b : Bool) → b ≡ true → (a || b) ≡ true
      more true b e = refl
      more false b e = e

      first : (a b : Bool) → a ≡ true → (a || b) ≡ true
      first true b e = refl
      first false b e = absurd (differ e)

-- a toplevel that stands once has no window among the others'
no-other : (owned : ℕ → Owned) (ss : List Standing) (client surface : ℕ) → list_any (is_of client surface) ss ≡ false → (w : Window) → w.owner.client ≡ client → w.surface ≡ surface
    → (ws : List Window) → Each (λ v. stands ss v ≡ true) ws → list_any (is_same_surface w) ws ≡ false
unfolding stands
no-other owned ss client surface once w c e [] all = refl
no-other owned ss client surface once w c e (v ∷ vs) all = none (is_same_surface w v) (false_from_ne_true (is_same_surface w v) (λ f. differ (sym once ∙ there f)))
    (no-other owned ss client surface once w c e vs all.1) where
      none : (a : Bool) → a ≡ false → list_any (is_same_surface w) vs ≡ false → (a || list_any (is_same_surface w) vs) ≡ false
      none true f g = absurd (differ (sym f))
      none false f g = g

      there : is_same_surface w v ≡ true → list_any (is_of client surface) ss ≡ true
      there f =
          let client-is = sym (eqb-true w.owner.client v.owner.client (and-left (w.owner.client == v.owner.client) _ f)) ∙ c in
          let surface-is = sym (eqb-true w.surface v.surface (and-right (w.owner.client == v.owner.client) _ f)) ∙ e in
          subst (λ n. list_any (is_of n surface) ss ≡ true) client-is (subst (λ n. list_any (is_of v.owner.client n) ss ≡ true) surface-is all.0)

distinct : (owned : ℕ → Owned) (standing : List Standing) → AreApart standing → AreDistinct (owned-windows owned standing)
unfolding owned-windows
distinct owned [] apart = tt
distinct owned (s ∷ ss) apart =
    own-first (owner_of (root_of owned s)) s.surface s.place (history_in s.surface (owned s.client).surfaces) (owned-windows owned ss) (distinct owned ss apart.1)
    (λ w c e. no-other owned ss s.client s.surface apart.0 w c e (owned-windows owned ss) (all-stand owned ss))

pub windows_are_distinct : WindowsAreDistinct
windows_are_distinct d unlinked apart = subst (λ (ws : List Window). AreDistinct ws) (sym (windows-own (owned_in d) d.standing unlinked)) (distinct (owned_in d) d.standing apart)
