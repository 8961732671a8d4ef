-- Where the pointer is in a surface, and what it hits.
use Rattle.std.proofs.Common.{◌≡◌, ◌≢◌, ℕ, List, [], ◌∷◌, ◌++◌, Bool, true, false, Option, Some, None, refl, ap, ap₂, subst, sym, ◌∙◌, inl, inr}
use Rattle.std.specs.Prelude.{ℤ, ◌==◌, ◌&&◌, ◌||◌, ◌⊎◌, cond, fold, if◌then◌else◌}
use Rattle.std.proofs.lemmas.Bool.{and_from, eqb-true}
use Rattle.std.proofs.lemmas.Option.{none-some, same_Some}
use Rattle.spec_desktop.specs.Pointer.{Pointer, Target, fixed_from, hit_by, is_same, is_stacked, kept_focus, settled, settled_focus, target_of}
use Rattle.spec_desktop.specs.PointerActions.{PointerAction, Settle, actions, enter_of, leave_of}
use Rattle.spec_desktop.specs.Windows.{Place, Window, hit, hit_after, is_hit}
use Rattle.spec_desktop.specs.Replies.{focus_window}
use Rattle.law_desktop.proofs.Lists.Keys.{found-passes}
use Rattle.law_desktop.proofs.Marks.Stacks.{same-number}
use Rattle.law_desktop.proofs.Truth.{and-right}
use Rattle.law_desktop.proofs.Lists.Each.{Each}
use Rattle.wl_desk.specs.Doing.{IsTellable}
use Rattle.wl_desk.specs.Points.{point_told}

-- a window is that of this surface
abbrev pub is_window : Target → Window → Bool
is_window t w = (w.owner.client == t.client) && (w.surface == t.surface)

-- ---- the point in a surface

-- The pointer is at a place, a surface has a window, and this is the point in it.
pub record IsAt (number : ℕ) (x y : ℤ) (at : Option Place) (w : Option Window) : Type 0 where
  pub place : Place
  pub window : Window
  pub is_place : at ≡ Some place
  pub is_window : w ≡ Some window
  pub surface : window.surface ≡ number
  pub across : x ≡ fixed_from place.x window.corner.x
  pub down : y ≡ fixed_from place.y window.corner.y

pub is-at : (number : ℕ) (x y : ℤ) (at : Option Place) (w : Option Window) → ((v : Window) → w ≡ Some v → v.surface ≡ number) → Some (x, y) ≡ point_told at w → IsAt number x y at w
is-at number x y None w of e = absurd (cc)
is-at number x y (Some p) None of e = absurd (cc)
is-at number x y (Some p) (Some v) of e =
    let both : (x, y) ≡ (fixed_from p.x v.corner.x, fixed_from p.y v.corner.y) = same_Some (x, y) (fixed_from p.x v.corner.x, fixed_from p.y v.corner.y) e in
    record {
      place = p;
      window = v;
      is_place = refl;
      is_window = refl;
      surface = of v refl;
      across = ap (λ (both : ℤ × ℤ). both.0) both;
      down = ap (λ (both : ℤ × ℤ). both.1) both;
    }

pub point-at : (t : Target) (ws : List Window) (at : Option Place) (x y : ℤ) → Some (x, y) ≡ point_told at (focus_window (Some t) ws) → IsAt t.surface x y at (focus_window (Some t) ws)
point-at t ws at x y e =
    is-at t.surface x y at (focus_window (Some t) ws)
    (λ v found. eqb-true v.surface t.surface (and-right (v.owner.client == t.client) (v.surface == t.surface) (found-passes (is_window t) ws v found))) e

any-found : (t : Target) (ws : List Window) → is_stacked t ws ≡ true → focus_window (Some t) ws ≢ None
any-found t [] e = absurd (cc)
any-found t (w ∷ ws) e = at (is_window t w) e (any-found t ws)
  where
    at : (b : Bool) → (b || is_stacked t ws) ≡ true → (is_stacked t ws ≡ true → focus_window (Some t) ws ≢ None) → cond b (Some w) (focus_window (Some t) ws) ≢ None
    at true e more = λ none. absurd (cc)
    at false e more = more e

point-none : (at : Option Place) (w : Option Window) → None ≡ point_told at w → at ≢ None → w ≢ None → ⊥
point-none None w e some there = some refl
point-none (Some p) None e some there = there refl
point-none (Some p) (Some v) e some there = absurd (cc)

-- a surface with a window is told of the pointer where it is anywhere
pub point-there : (t : Target) (ws : List Window) (at : Option Place) → is_stacked t ws ≡ true → at ≢ None → None ≡ point_told at (focus_window (Some t) ws) → ⊥
point-there t ws at stacked some e = point-none at (focus_window (Some t) ws) e some (any-found t ws stacked)

-- ---- what it hits

or-first : (a b : Bool) → a ≡ true → (a || b) ≡ true
or-first true b e = refl
or-first false b e = absurd (cc)

or-later : (a b : Bool) → b ≡ true → (a || b) ≡ true
or-later true b e = refl
or-later false b e = e

abbrev Named : Window → Target
Named w = record { client = w.owner.client; surface = w.surface }

hit-among : (x y : ℤ) (found : Option Window) (ws : List Window) (w : Window) → fold (hit_after x y) found ws ≡ Some w → (found ≡ Some w) ⊎ (is_stacked (Named w) ws ≡ true)
hit-among x y found [] w e = inl e
hit-among x y found (v ∷ ws) w e = later (hit-among x y (hit_after x y found v) ws w e)
  where
    now : (b : Bool) → (if b then Some v else found) ≡ Some w → (found ≡ Some w) ⊎ (is_stacked (Named w) (v ∷ ws) ≡ true)
    now false e = inl e
    now true e =
        let same : v ≡ w = same_Some v w e in
        inr (or-first (is_window (Named w) v) (is_stacked (Named w) ws)
        (subst (λ (u : Window). is_window (Named w) u ≡ true) (sym same)
        (and_from (w.owner.client == w.owner.client) (w.surface == w.surface) (same-number w.owner.client) (same-number w.surface))))

    later : (hit_after x y found v ≡ Some w) ⊎ (is_stacked (Named w) ws ≡ true) → (found ≡ Some w) ⊎ (is_stacked (Named w) (v ∷ ws) ≡ true)
    later (inl e) = now (is_hit x y v) e
    later (inr e) = inr (or-later (is_window (Named w) v) (is_stacked (Named w) ws) e)

none-not : {X : Type 0} (w : Window) → None ≡ Some w → X
none-not w e = absurd (cc)

-- what is hit has a window
hit-stacked : (at : Option Place) (ws : List Window) (t : Target) → hit_by at ws ≡ Some t → is_stacked t ws ≡ true
hit-stacked None ws t e = absurd (cc)
hit-stacked (Some p) ws t e = by (hit p.x p.y ws) refl e
  where
    by : (o : Option Window) → hit p.x p.y ws ≡ o → target_of o ≡ Some t → is_stacked t ws ≡ true
    by None found e = absurd (cc)
    by (Some w) found e = subst (λ (u : Target). is_stacked u ws ≡ true) (same_Some (Named w) t e) (of (hit-among p.x p.y None ws w found))
      where
        of : (None ≡ Some w) ⊎ (is_stacked (Named w) ws ≡ true) → is_stacked (Named w) ws ≡ true
        of (inl e) = none-not w e
        of (inr e) = e

-- ---- the focus is settled

-- where no button is down, the focus settles to what is hit
pub settled-hit : (p : Pointer) (ws : List Window) → p.buttons ≡ [] → settled p ws ≡ hit_by p.place ws
settled-hit p ws free = ap (λ (buttons : List ℕ). settled_focus buttons p ws) free

-- a surface that keeps the focus has a window
kept-stacked : (f : Option Target) (ws : List Window) (t : Target) → kept_focus f ws ≡ Some t → is_stacked t ws ≡ true
kept-stacked None ws t e = absurd (cc)
kept-stacked (Some s) ws t e = at (is_stacked s ws) refl e
  where
    at : (b : Bool) → is_stacked s ws ≡ b → (if b then Some s else None) ≡ Some t → is_stacked t ws ≡ true
    at true is e = subst (λ (u : Target). is_stacked u ws ≡ true) (same_Some s t e) is
    at false is e = absurd (cc)

-- so has one to which it settles
pub settled-stacked : (p : Pointer) (ws : List Window) (t : Target) → settled p ws ≡ Some t → is_stacked t ws ≡ true
settled-stacked p ws t e = at p.buttons e
  where
    at : (buttons : List ℕ) → settled_focus buttons p ws ≡ Some t → is_stacked t ws ≡ true
    at [] e = hit-stacked p.place ws t e
    at (b ∷ bs) e = kept-stacked p.focus ws t e

-- where the pointer isn't anywhere, and nothing has the focus, nothing gets it
pub settled-nowhere : (p : Pointer) (ws : List Window) → p.place ≡ None → p.focus ≡ None → settled p ws ≡ None
settled-nowhere p ws nowhere none = at p.buttons
  where
    at : (buttons : List ℕ) → settled_focus buttons p ws ≡ None
    at [] = ap (λ (place : Option Place). hit_by place ws) nowhere
    at (b ∷ bs) = ap (λ (f : Option Target). kept_focus f ws) none

each-turn : (P : PointerAction → Type 0) (s t : Option Target) → ((u : Target) → s ≡ Some u → Each P (leave_of (Some u))) → ((u : Target) → t ≡ Some u → Each P (enter_of (Some u)))
    → Each P (leave_of s ++ enter_of t)
each-turn P None None left entered = tt
each-turn P None (Some t) left entered = entered t refl
each-turn P (Some s) None left entered = ((left s refl).0, tt)
each-turn P (Some s) (Some t) left entered = ((left s refl).0, entered t refl)

each-unless : (P : PointerAction → Type 0) (b : Bool) (xs : List PointerAction) → Each P xs → Each P (if b then [] else xs)
each-unless P true xs all = tt
each-unless P false xs all = all

-- what the settling does is to leave a surface, and to enter one that has a window
pub settles-each : (P : PointerAction → Type 0) (p : Pointer) (ws : List Window) → ((t : Target) → Each P (leave_of (Some t)))
    → ((t : Target) → is_stacked t ws ≡ true → Each P (enter_of (Some t))) → Each P (actions Settle p ws)
settles-each P p ws left entered =
    each-unless P (is_same p.focus (settled p ws)) (leave_of p.focus ++ enter_of (settled p ws))
    (each-turn P p.focus (settled p ws) (λ u e. left u) (λ u e. entered u (settled-stacked p ws u e)))

-- Each of that can be told: where the pointer isn't anywhere and nothing has the focus, none of it is done.
pub settles-tellable : (p : Pointer) (ws : List Window) → (p.place ≡ None → p.focus ≡ None) → Each (IsTellable p.place ws) (actions Settle p ws)
settles-tellable p ws known = at p.place refl
  where
    at : (place : Option Place) → p.place ≡ place → Each (IsTellable p.place ws) (actions Settle p ws)
    at None nowhere =
        subst (λ (xs : List PointerAction). Each (IsTellable p.place ws) xs)
        (sym (ap₂ (λ (s t : Option Target). if is_same s t then [] else leave_of s ++ enter_of t) (known nowhere) (settled-nowhere p ws nowhere (known nowhere)))) tt
    at (Some there) somewhere =
        settles-each (IsTellable p.place ws) p ws (λ t. (tt, tt)) (λ t stacked. ((λ none. none-some there (sym none ∙ somewhere), stacked), tt))
