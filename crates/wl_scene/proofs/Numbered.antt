-- The focus by the numbers of surfaces is the focus by their ids.
use Rattle.std.proofs.Common.{◌≡◌, ℕ, ◌==◌, Bool, true, false, List, [], ◌∷◌, Option, Some, None, refl, ap, ap₂, sym, subst, ◌∙◌, cond, inl, inr, eqb-true, ℤ}
use Rattle.std.specs.Prelude.{◌&&◌, ◌||◌, ◌⊎◌, fold}
use Rattle.spec_desktop.specs.Objects.{ById}
use Rattle.spec_desktop.specs.Pointer.{Pointer, Target, hit_by, is_same, is_stacked, kept_focus, settled, settled_focus, target_of}
use Rattle.spec_desktop.specs.Windows.{Place, Window, hit, hit_after, is_hit}
use Rattle.wl_scene.specs.declared.stacked.Stacked.{Stacked}
use Rattle.wl_scene.specs.ByNumbers.{HitsByNumbers, IsGone, IsNamed, IsNumbered, IsNumberedOrNone, SettlesByNumbers, by_numbers, numbered, numbered_or_none}
use Rattle.wl_scene.specs.Hit.{IsStackedOrNone}
use Rattle.wl_scene.specs.StackedAgreement.{AreNumberedOnce, AreStacked, IsStacked}
use Rattle.wl_scene.proofs.Truth.{differ, same-equal, some-same}

and-same : (a b c d : Bool) → a ≡ c → (c ≡ true → b ≡ d) → (a && b) ≡ (c && d)
and-same true b true d e f = f refl
and-same false b false d e f = refl
and-same true b false d e f = absurd (differ (sym e))
and-same false b true d e f = absurd (differ e)

-- ---- what is hit

-- a window by numbers is that of one that is kept, for the window of the desktop
abbrev IsFound : (ℕ → ById ℕ) → Option Window → Option Window → Type 0
IsFound numbers None None = Unit {0}
IsFound numbers (Some v) (Some w) = (s : Stacked) × (v ≡ numbered s w) × IsStacked numbers s w
IsFound numbers None (Some w) = ⊥
IsFound numbers (Some v) None = ⊥

hit-found : (numbers : ℕ → ById ℕ) (x y : ℤ) (ss : List Stacked) (ws : List Window) → AreStacked numbers ss ws → (named found : Option Window) → IsFound numbers named found
    → IsFound numbers (fold (hit_after x y) named (by_numbers ss ws)) (fold (hit_after x y) found ws)
hit-found numbers x y [] [] are named found is = is
hit-found numbers x y [] (w ∷ ws) are named found is = absurd are
hit-found numbers x y (s ∷ ss) [] are named found is = absurd are
hit-found numbers x y (s ∷ ss) (w ∷ ws) are named found is =
    hit-found numbers x y ss ws are.1 (hit_after x y named (numbered s w)) (hit_after x y found w) (at (is_hit x y w))
  where
    at : (b : Bool) → IsFound numbers (cond b (Some (numbered s w)) named) (cond b (Some w) found)
    at true = (s, refl, are.0)
    at false = is

-- what stands for a window goes by the same numbers
same-numbered : (numbers : ℕ → ById ℕ) (s t : Stacked) (w : Window) → IsStacked numbers s w → IsStacked numbers t w → numbered s w ≡ numbered t w
same-numbered numbers s t w is other =
    let client : s.client ≡ t.client = is.client ∙ sym other.client in
    let toplevel : s.toplevel ≡ t.toplevel = some-same s.toplevel t.toplevel (sym is.toplevel ∙ ap (λ (c : ℕ). numbers c w.owner.toplevel) client ∙ other.toplevel) in
    let root : s.window.root ≡ t.window.root = some-same s.window.root t.window.root (sym is.root ∙ ap (λ (c : ℕ). numbers c w.owner.root) client ∙ other.root) in
    let surface : s.window.surface ≡ t.window.surface =
    some-same s.window.surface t.window.surface (sym is.surface ∙ ap (λ (c : ℕ). numbers c w.surface) client ∙ other.surface) in
    rw (client, toplevel, root, surface) refl

pub hits-by-numbers : HitsByNumbers
hits-by-numbers numbers ss ws x y found are is = at found (hit x y (by_numbers ss ws)) (hit x y ws) (hit-found numbers x y ss ws are None None tt) is
  where
    at : (found : Option Stacked) (named shown : Option Window) → IsFound numbers named shown → IsStackedOrNone numbers found shown → named ≡ numbered_or_none found shown
    at None None None one other = refl
    at (Some s) (Some v) (Some w) one other = ap Some (one.1 ∙ same-numbered numbers one.0 s w one.2 other)
    at found None (Some w) one other = absurd one
    at found (Some v) None one other = absurd one
    at None (Some v) (Some w) one other = absurd other
    at (Some s) None None one other = absurd other

module _ (numbers : ℕ → ById ℕ) (once : (c : ℕ) → AreNumberedOnce (numbers c)) where
  -- ---- two surfaces are the same by numbers where they are by ids

  -- one that has a number is named so where it is the other
  module _ (n t m u : Target) (other : IsNumbered numbers m u) (own : t.client ≡ u.client) where
    there : numbers t.client u.surface ≡ Some m.surface
    there = ap (λ (c : ℕ). numbers c u.surface) own ∙ other.surface

    to-ids : (IsNumbered numbers n t ⊎ IsGone numbers n t) → n.surface ≡ m.surface → t.surface ≡ u.surface
    to-ids (inl is) e = once t.client t.surface u.surface m.surface (is.surface ∙ ap Some e) there
    to-ids (inr is) e = absurd (is.other u.surface (there ∙ ap Some (sym e)))

    to-numbers : (IsNumbered numbers n t ⊎ IsGone numbers n t) → t.surface ≡ u.surface → n.surface ≡ m.surface
    to-numbers (inl is) e = some-same n.surface m.surface (sym is.surface ∙ ap (numbers t.client) e ∙ there)
    to-numbers (inr is) e = absurd (none m.surface (sym is.surface ∙ ap (numbers t.client) e ∙ there))
      where
        none : (k : ℕ) → None ≡ Some k → ⊥
        none k e = cc

  own-client : (n t : Target) → (IsNumbered numbers n t ⊎ IsGone numbers n t) → n.client ≡ t.client
  own-client n t (inl is) = is.client
  own-client n t (inr is) = is.client

  module _ (n t m u : Target) (is : IsNumbered numbers n t ⊎ IsGone numbers n t) (other : IsNumbered numbers m u) where
    agree : ((n.client == m.client) && (n.surface == m.surface)) ≡ ((t.client == u.client) && (t.surface == u.surface))
    agree =
        and-same (n.client == m.client) (n.surface == m.surface) (t.client == u.client) (t.surface == u.surface)
        (ap₂ (λ (a b : ℕ). a == b) (own-client n t is) other.client)
        (λ e. let own = eqb-true t.client u.client e in same-equal n.surface m.surface t.surface u.surface (to-ids n t m u other own is) (to-numbers n t m u other own is))

    agree-back : ((m.client == n.client) && (m.surface == n.surface)) ≡ ((u.client == t.client) && (u.surface == t.surface))
    agree-back =
        and-same (m.client == n.client) (m.surface == n.surface) (u.client == t.client) (u.surface == t.surface)
        (ap₂ (λ (a b : ℕ). a == b) other.client (own-client n t is))
        (λ e.
        let own = sym (eqb-true u.client t.client e) in
        same-equal m.surface n.surface u.surface t.surface (λ f. sym (to-ids n t m u other own is (sym f))) (λ f. sym (to-numbers n t m u other own is (sym f))))

  same-named : (n t m u : Option Target) → IsNamed numbers n t → IsNumberedOrNone numbers m u → is_same n m ≡ is_same t u
  same-named None None None None is other = refl
  same-named None None (Some m) (Some u) is other = refl
  same-named (Some n) (Some t) None None is other = refl
  same-named (Some n) (Some t) (Some m) (Some u) is other = agree n t m u is other
  same-named None (Some t) m u is other = absurd is
  same-named (Some n) None m u is other = absurd is
  same-named None None None (Some u) is other = absurd other
  same-named None None (Some m) None is other = absurd other
  same-named (Some n) (Some t) None (Some u) is other = absurd other
  same-named (Some n) (Some t) (Some m) None is other = absurd other

  -- ---- windows

  abbrev kept_at : Stacked → Target
  kept_at s = record { client = s.client; surface = s.window.surface }

  abbrev shown_at : Window → Target
  shown_at w = record { client = w.owner.client; surface = w.surface }

  of-window : (s : Stacked) (w : Window) → IsStacked numbers s w → IsNumbered numbers (kept_at s) (shown_at w)
  of-window s w is = record { client = is.client; surface = ap (λ (c : ℕ). numbers c w.surface) (sym is.client) ∙ is.surface }

  stacked-named : (n t : Target) → (IsNumbered numbers n t ⊎ IsGone numbers n t) → (ss : List Stacked) (ws : List Window) → AreStacked numbers ss ws
      → is_stacked n (by_numbers ss ws) ≡ is_stacked t ws
  stacked-named n t is [] [] are = refl
  stacked-named n t is [] (w ∷ ws) are = absurd are
  stacked-named n t is (s ∷ ss) [] are = absurd are
  stacked-named n t is (s ∷ ss) (w ∷ ws) are =
      ap₂ (λ (a b : Bool). a || b) (agree-back n t (kept_at s) (shown_at w) is (of-window s w are.0)) (stacked-named n t is ss ws are.1)

  -- a surface that is gone has no window
  gone-unstacked : (n t : Target) → IsGone numbers n t → (ss : List Stacked) (ws : List Window) → AreStacked numbers ss ws → is_stacked t ws ≡ false
  gone-unstacked n t is [] [] are = refl
  gone-unstacked n t is [] (w ∷ ws) are = absurd are
  gone-unstacked n t is (s ∷ ss) [] are = absurd are
  gone-unstacked n t is (s ∷ ss) (w ∷ ws) are = ap₂ (λ (a b : Bool). a || b) (apart (w.owner.client == t.client) refl) (gone-unstacked n t is ss ws are.1)
    where
      none : (k : ℕ) → None ≡ Some k → ⊥
      none k e = cc

      other : w.owner.client ≡ t.client → (b : Bool) → (w.surface == t.surface) ≡ b → b ≡ false
      other own false e = refl
      other own true e =
          let number = of-window s w are.0 in
          absurd (none s.window.surface (sym is.surface ∙ ap (numbers t.client) (sym (eqb-true w.surface t.surface e)) ∙ ap (λ (c : ℕ). numbers c w.surface) (sym own) ∙ number.surface))

      apart : (b : Bool) → (w.owner.client == t.client) ≡ b → (b && (w.surface == t.surface)) ≡ false
      apart false e = refl
      apart true e = other (eqb-true w.owner.client t.client e) (w.surface == t.surface) refl

  kept-named : (n t : Option Target) → IsNamed numbers n t → (ss : List Stacked) (ws : List Window) → AreStacked numbers ss ws
      → IsNumberedOrNone numbers (kept_focus n (by_numbers ss ws)) (kept_focus t ws)
  kept-named None None is ss ws are = tt
  kept-named None (Some t) is ss ws are = absurd is
  kept-named (Some n) None is ss ws are = absurd is
  kept-named (Some n) (Some t) is ss ws are = at is (is_stacked n (by_numbers ss ws)) (is_stacked t ws) (stacked-named n t is ss ws are) refl
    where
      at : (IsNumbered numbers n t ⊎ IsGone numbers n t) → (a b : Bool) → a ≡ b → is_stacked t ws ≡ b → IsNumberedOrNone numbers (cond a (Some n) None) (cond b (Some t) None)
      at is false false e f = tt
      at is false true e f = absurd (differ e)
      at is true false e f = absurd (differ (sym e))
      at (inl is) true true e f = is
      at (inr is) true true e f = absurd (differ (sym (gone-unstacked n t is ss ws are) ∙ f))

  now-named : (place : Option Place) (ss : List Stacked) (ws : List Window) → AreStacked numbers ss ws
      → IsNumberedOrNone numbers (hit_by place (by_numbers ss ws)) (hit_by place ws)
  now-named None ss ws are = tt
  now-named (Some at) ss ws are = of-found (hit at.x at.y (by_numbers ss ws)) (hit at.x at.y ws) (hit-found numbers at.x at.y ss ws are None None tt)
    where
      of-found : (named found : Option Window) → IsFound numbers named found → IsNumberedOrNone numbers (target_of named) (target_of found)
      of-found None None is = tt
      of-found (Some v) (Some w) is = subst (λ (z : Window). IsNumbered numbers (shown_at z) (shown_at w)) (sym is.1) (of-window is.0 w is.2)
      of-found None (Some w) is = absurd is
      of-found (Some v) None is = absurd is

  -- ---- the focus

  focus-named : (buttons : List ℕ) (named p : Pointer) → named.place ≡ p.place → IsNamed numbers named.focus p.focus
      → (ss : List Stacked) (ws : List Window) → AreStacked numbers ss ws
      → IsNumberedOrNone numbers (settled_focus buttons named (by_numbers ss ws)) (settled_focus buttons p ws)
  focus-named [] named p same is ss ws are =
      subst (λ (place : Option Place). IsNumberedOrNone numbers (hit_by place (by_numbers ss ws)) (hit_by p.place ws)) (sym same) (now-named p.place ss ws are)
  focus-named (button ∷ buttons) named p same is ss ws are = kept-named named.focus p.focus is ss ws are

pub settles-by-numbers : SettlesByNumbers
settles-by-numbers numbers ss ws named p once are is =
    let focus =
    subst (λ (buttons : List ℕ). IsNumberedOrNone numbers (settled_focus buttons named (by_numbers ss ws)) (settled p ws)) (sym is.buttons)
    (focus-named numbers once p.buttons named p is.place is.focus ss ws are) in
    (focus, same-named numbers once named.focus p.focus (settled named (by_numbers ss ws)) (settled p ws) is.focus focus)
