-- Toplevels by the numbers of their surfaces: the one that is hit, and the one that is moved; and what is kept where one is raised or moved.
use Rattle.std.proofs.Common.{◌≡◌, ◌≢◌, ℕ, List, [], ◌∷◌, Bool, true, false, Option, Some, None, refl, ap, ap₂, subst, sym, ◌∙◌}
use Rattle.std.specs.Prelude.{ℤ, ◌==◌, ◌||◌, if◌then◌else◌, is_some, map, pos, slice_get}
use Rattle.std.specs.List.{list_any}
use Rattle.std.proofs.lemmas.Bool.{eqb-true}
use Rattle.std.proofs.lemmas.Option.{none-some}
use Rattle.wl_paint.specs.Damage.{Damaged, has}
use Rattle.spec_desktop.specs.Objects.{ById}
use Rattle.spec_desktop.specs.Pointer.{Target, hit_now}
use Rattle.spec_desktop.specs.Stacking.{Standing, is_of}
use Rattle.spec_desktop.specs.Windows.{Place, Window, hit}
use Rattle.wl_scene.specs.declared.stacked.Stacked.{Stacked}
use Rattle.wl_scene.specs.Focus.{action_of, place_of, toplevel_of}
use Rattle.wl_scene.specs.declared.actions.Action.{Action}
use Rattle.wl_scene.specs.declared.actions.Action.TheVariants as does
use Rattle.wl_scene.specs.declared.actions.Target.{Target as Named}
use Rattle.wl_scene.specs.declared.focus.Point.{Point}
use Rattle.spec_desktop.specs.Changing.{kept_move}
use Rattle.spec_desktop.specs.Desktop.{Desktop, unpointed}
use Rattle.spec_desktop.specs.Marks.{AreDistinct}
use Rattle.spec_desktop.specs.Moments.{marks_at_least_of, marks_at_most_of}
use Rattle.spec_desktop.specs.Pointing.{moved_standing}
use Rattle.spec_desktop.specs.Settling.{Midstep, unstruck, with_standing}
use Rattle.spec_desktop.specs.Stacked.{all_windows}
use Rattle.wl_scene.specs.Hit.{IsStackedOrNone}
use Rattle.wl_scene.specs.StackedAgreement.{AreNumberedOnce}
use Rattle.law_desktop.proofs.PointerAside.Marking.{settling-marks-nothing}
use Rattle.law_desktop.proofs.PointerAside.Rounds.{settles-idly}
use Rattle.law_desktop.proofs.Truth.{and-left, and-right, differ}
use Rattle.wl_clients.specs.Agreement.{IsStack, numbers_in}
use Rattle.wl_clients.specs.Midway.{IsMid, opened_desk}
use Rattle.wl_clients.specs.View.{DeskView as ClientsView}
use Rattle.wl_clients.proofs.Agreed.{agrees-apart}
use Rattle.wl_clients.proofs.Midway.{mid_is_numbered_once}
use Rattle.wl_clients.specs.declared.grabs.Latest.{Latest}
use Rattle.wl_desk.specs.Agreeing.{Agrees, AreLatest, AreSeats}
use Rattle.wl_desk.specs.Midway.{IsTelling, unpointed_mid}
use Rattle.wl_clients.specs.Raising.{MarksChange}
use Rattle.wl_desk.specs.Restacking.{HasNumber, dragged, first_dragged, first_moved, moved_of}
use Rattle.wl_desk.specs.View.{DeskView}

-- ---- the toplevel that is hit

none-of : (numbers : ℕ → ById ℕ) (w : Option Window) → IsStackedOrNone numbers None w → w ≡ None
none-of numbers None is = refl
none-of numbers (Some w) is = absurd is

hit-at : (x y : ℤ) (p : Point) (at : Option Place) (ws : List Window) → x ≡ p.x → y ≡ p.y → Some (place_of p) ≡ at → hit x y ws ≡ hit_now at ws
hit-at x y p at ws across down there = ap₂ (λ (a b : ℤ). hit a b ws) across down ∙ ap (λ (a : Option Place). hit_now a ws) there

pub no-toplevel : (numbers : ℕ → ById ℕ) (x y : ℤ) (p : Point) (at : Option Place) (ws : List Window) → x ≡ p.x → y ≡ p.y → Some (place_of p) ≡ at
    → IsStackedOrNone numbers None (hit x y ws) → toplevel_of (hit_now at ws) ≡ None
no-toplevel numbers x y p at ws across down there is = ap toplevel_of (sym (hit-at x y p at ws across down there) ∙ none-of numbers (hit x y ws) is)

number-has : (numbers : ℕ → ById ℕ) (s : Stacked) (w : Option Window) → IsStackedOrNone numbers (Some s) w → ((id : ℕ) → numbers s.client id ≢ Some s.toplevel) → ⊥
number-has numbers s None is none = is
number-has numbers s (Some w) is none = none w.owner.toplevel is.toplevel

-- it has a number
pub toplevel-has : {X : Type 0} (numbers : ℕ → ById ℕ) (s : Stacked) (w : Option Window) → IsStackedOrNone numbers (Some s) w → ((id : ℕ) → numbers s.client id ≢ Some s.toplevel) → X
toplevel-has numbers s w is none = absurd (number-has numbers s w is none)

named-toplevel : (numbers : ℕ → ById ℕ) (once : (c : ℕ) → AreNumberedOnce (numbers c)) (s : Stacked) (w : Option Window) (id : ℕ)
    → IsStackedOrNone numbers (Some s) w → numbers s.client id ≡ Some s.toplevel → toplevel_of w ≡ Some (record { client = s.client; surface = id })
named-toplevel numbers once s None id is named = absurd is
named-toplevel numbers once s (Some w) id is named =
    ap₂ (λ (c surface : ℕ). Some (record { client = c; surface = surface })) (sym is.client) (once s.client w.owner.toplevel id s.toplevel is.toplevel named)

pub toplevel-named : (v : ClientsView) (m : Midstep) (x y : ℤ) (p : Point) (at : Option Place) (s : Stacked) (id : ℕ) → IsMid v m → x ≡ p.x → y ≡ p.y → Some (place_of p) ≡ at
    → IsStackedOrNone (numbers_in v.clients) (Some s) (hit x y (all_windows m.desktop)) → numbers_in v.clients s.client id ≡ Some s.toplevel
    → toplevel_of (hit_now at (all_windows m.desktop)) ≡ Some (record { client = s.client; surface = id })
toplevel-named v m x y p at s id mid across down there is named =
    ap toplevel_of (sym (hit-at x y p at (all_windows m.desktop) across down there))
    ∙ named-toplevel (numbers_in v.clients) (mid_is_numbered_once v m mid) s (hit x y (all_windows m.desktop)) id is named

pub some-number : (o : Option ℕ) (k : ℕ) → o ≡ Some k → is_some o ≡ true
some-number o k e = ap is_some e

pub no-number : {X : Type 0} (o : Option ℕ) → None ≡ o → is_some o ≡ true → X
no-number o none some = absurd (differ (ap is_some none ∙ some))

-- ---- the toplevel that is moved

module _ (numbers : ℕ → ById ℕ) (c surface : ℕ) where
  standing-number : (ks ss : List Standing) → IsStack numbers ks ss → list_any (is_of c surface) ss ≡ true → is_some (numbers c surface) ≡ true
  standing-number [] [] are there = absurd (differ there)
  standing-number [] (s ∷ ss) are there = absurd are
  standing-number (k ∷ ks) [] are there = absurd are
  standing-number (k ∷ ks) (s ∷ ss) are there = at (is_of c surface s) refl (standing-number ks ss are.1) there
    where
      at : (b : Bool) → is_of c surface s ≡ b → (list_any (is_of c surface) ss ≡ true → is_some (numbers c surface) ≡ true) → (b || list_any (is_of c surface) ss) ≡ true
          → is_some (numbers c surface) ≡ true
      at true is later there =
          let client : s.client ≡ c = eqb-true s.client c (and-left (s.client == c) (s.surface == surface) is) in
          let own : s.surface ≡ surface = eqb-true s.surface surface (and-right (s.client == c) (s.surface == surface) is) in
          some-number (numbers c surface) k.surface (sym (ap₂ (λ (n id : ℕ). numbers n id) client own) ∙ are.0.surface)
      at false is later there = later there

kept-there : (t : Target) (standing : List Standing) → kept_move (Some t) standing ≡ Some t → list_any (is_of t.client t.surface) standing ≡ true
kept-there t standing e = at (list_any (is_of t.client t.surface) standing) refl e
  where
    at : (b : Bool) → list_any (is_of t.client t.surface) standing ≡ b → (if b then Some t else None) ≡ Some t → list_any (is_of t.client t.surface) standing ≡ true
    at true is e = is
    at false is e = absurd (none-some t e)

-- it has a number, since it stands
pub moved-number : (v : DeskView) (d : Desktop) → Agrees v d → HasNumber v d.pointer.move
moved-number v d a = at d.pointer.move a.placed.moved
  where
    at : (t : Option Target) → kept_move t d.standing ≡ t → HasNumber v t
    at None e = tt
    at (Some t) e =
        standing-number (numbers_in v.kept.clients) t.client t.surface v.kept.pile.scene.standing d.standing a.kept.matches.scene.standing (kept-there t d.standing e)

-- ---- what is kept

-- where other toplevels stand
pub telling-stack : (v w : DeskView) (standing : List Standing) (m : Midstep) → w.seats ≡ v.seats → w.latest ≡ v.latest → w.pointer.place ≡ v.pointer.place → IsTelling v m
    → IsMid w.kept (with_standing standing (unpointed_mid m)) → IsTelling w (with_standing standing m)
telling-stack v w standing m seats latest place telling kept =
    record {
      kept = kept;
      place = place ∙ telling.place;
      seats = subst (λ (ss : List (List ℕ)). AreSeats ss m.desktop) (sym seats) telling.seats;
      latest = subst (λ (l : List Latest). AreLatest l m) (sym latest) telling.latest;
    }

-- no surface has two windows
pub telling-apart : (v : DeskView) (m : Midstep) → IsTelling v m → AreDistinct (all_windows m.desktop)
telling-apart v m telling = agrees-apart (opened_desk v.kept) (unpointed m.desktop) telling.kept.agrees

-- where nothing changes, nothing is marked
pub still-marks : (d : Desktop) (x y : ℤ) → AreDistinct (all_windows d) → (marks_at_least_of all_windows d d x y ≡ false) × (marks_at_most_of all_windows d d None x y ≡ false)
still-marks d x y apart =
    settling-marks-nothing (unstruck (unpointed d)) (unstruck (unpointed d)) x y apart (settles-idly (unstruck (unpointed d)) refl).0

or-first : (a b : Bool) → a ≡ true → (a || b) ≡ true
or-first true b e = refl
or-first false b e = absurd (differ e)

pub change-none : (raised : Option (ℕ × ℕ)) (d : Desktop) (old : Damaged) → AreDistinct (all_windows d) → MarksChange raised d d old old
change-none raised d old apart = (
  λ x y wide high none. (none, (still-marks d (pos x) (pos y) apart).0),
  λ x y wide high some. or-first (has old x y) (marks_at_most_of all_windows d d raised (pos x) (pos y)) some,
)

-- ---- a toplevel is moved

module _ (t : Target) (x y i j : ℤ) (across : i ≡ x) (down : j ≡ y) where
  pub moved-telling : (v w : DeskView) (m : Midstep) → w.seats ≡ v.seats → w.latest ≡ v.latest → w.pointer.place ≡ v.pointer.place → IsTelling v m
      → IsMid w.kept (with_standing (moved_standing t i j m.desktop.standing) (unpointed_mid m)) → IsTelling w (with_standing (moved_standing t x y m.desktop.standing) m)
  moved-telling v w m seats latest place telling kept =
      subst (λ (z : ℤ). IsTelling w (with_standing (moved_standing t x z m.desktop.standing) m)) down
      (subst (λ (z : ℤ). IsTelling w (with_standing (moved_standing t z j m.desktop.standing) m)) across
      (telling-stack v w (moved_standing t i j m.desktop.standing) m seats latest place telling kept))

  pub moved-change : (d : Desktop) (old new : Damaged) → MarksChange None d (record d { standing = moved_standing t i j d.standing }) old new
      → MarksChange None d (record d { standing = moved_standing t x y d.standing }) old new
  moved-change d old new change =
      subst (λ (z : ℤ). MarksChange None d (record d { standing = moved_standing t x z d.standing }) old new) down
      (subst (λ (z : ℤ). MarksChange None d (record d { standing = moved_standing t z j d.standing }) old new) across change)

-- what the pointer does else moves none
pub not-moved : (a : Action) → ((t : Named) (x y : ℤ) → a ≡ does.MoveWindow t x y → ⊥) → (standing : List Standing) → dragged (action_of a) standing ≡ standing
not-moved (does.MoveWindow t x y) none standing = absurd (none t x y refl)
not-moved a none standing = refl

-- the first thing that it does
pub none-dragged : (xs : List Action) → None ≡ slice_get xs 0 → (standing : List Standing) → first_dragged (map action_of xs) standing ≡ standing
none-dragged [] none standing = refl
none-dragged (x ∷ xs) none standing = absurd (cc)

some-same-action : (a b : Action) → Some a ≡ Some b → a ≡ b
some-same-action a b e = cc

pub some-dragged : (xs : List Action) (a : Action) → Some a ≡ slice_get xs 0
    → ((standing : List Standing) → dragged (action_of a) standing ≡ first_dragged (map action_of xs) standing) × (moved_of (action_of a) ≡ first_moved (map action_of xs))
some-dragged [] a is = absurd (cc)
some-dragged (x ∷ xs) a is =
    let same : a ≡ x = some-same-action a x is in
    (λ standing. ap (λ (b : Action). dragged (action_of b) standing) same, ap (λ (b : Action). moved_of (action_of b)) same)

-- where none is moved, nothing is marked
pub change-still : (v : DeskView) (m : Midstep) (standing : List Standing) (old : Damaged) → IsTelling v m → standing ≡ m.desktop.standing
    → MarksChange None m.desktop (with_standing standing m).desktop old old
change-still v m standing old telling same =
    subst (λ (ss : List Standing). MarksChange None m.desktop (with_standing ss m).desktop old old) (sym same) (change-none None m.desktop old (telling-apart v m telling))

pub telling-still : (v : DeskView) (m : Midstep) (standing : List Standing) → IsTelling v m → standing ≡ m.desktop.standing → IsTelling v (with_standing standing m)
telling-still v m standing telling same = subst (λ (ss : List Standing). IsTelling v (with_standing ss m)) (sym same) telling
