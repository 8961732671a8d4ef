-- A client that ended: what is marked are the windows that it had, and those that a message gave it for a moment.
use Rattle.std.proofs.Common.{◌≡◌, ℕ, ◌<◌, Bool, true, false, List, [], ◌∷◌, map, refl, ap, sym, ◌∙◌, inl, inr, ◌⊎◌}
use Rattle.std.specs.Prelude.{ℤ, None, pos, ◌==◌, ◌&&◌, ◌||◌}
use Rattle.std.specs.List.{list_any}
use Rattle.std.proofs.Math.Bool.{or_assoc}
use Rattle.std.proofs.lemmas.Bool.{false_from_ne_true, or_left}
use Rattle.wl_paint.specs.Damage.{Damaged, has}
use Rattle.spec_desktop.specs.Objects.{ById}
use Rattle.spec_desktop.specs.Windows.{Window, contains}
use Rattle.spec_desktop.specs.Desktop.{Desktop, Resident}
use Rattle.spec_desktop.specs.Marks.{in_output}
use Rattle.spec_desktop.specs.Moments.{marks_at_least, marks_at_least_through, marks_at_most_through}
use Rattle.spec_desktop.specs.Stacked.{all_windows}
use Rattle.wl_scene.specs.StackedAgreement.{AreStacked, IsStacked, told_by}
use Rattle.law_desktop.specs.Touching.{any_window_at, has_window_at}
use Rattle.law_desktop.specs.TreeMarksLaws.{is_in_any}
use Rattle.law_desktop.proofs.Truth.{differ, either-of, or-left, or-right, or-second}
use Rattle.wl_scene.specs.Repaint.{window_has}
use Rattle.law_windows.proofs.OneToplevel.Demanded.{nothing-is-marked}
use Rattle.wl_scene.specs.declared.stacked.Stacked.{Stacked}
use Rattle.law_desktop.specs.Changes.{HasTrees, StaysPainted}
use Rattle.law_desktop.specs.Marked.{MarksByTreesBetween}
use Rattle.law_desktop.specs.Toplevel.{ChangesToplevel}
use Rattle.law_desktop.specs.Ways.{IsGone, Struck}
use Rattle.law_desktop.specs.WaysLaws.{EndedIsGone, GoneMarksLeast, GoneMarksMost, GoneWindows, MessagesLeadSo, StruckMarks, TwiceMarks}
use Rattle.wl_scene.specs.declared.tree_window.TreeWindow.{TreeWindow}
use Rattle.wl_clients.specs.Marking.{MarksAtLeast, MarksThrough}
use Rattle.wl_clients.specs.Screens.{has_own, is_own_at}
use Rattle.wl_clients.proofs.OnScreen.Windows.{is_own_in, run-after, run-before, told-has}

-- the laws of the ways on which a message leads, and of what is marked where it changes the windows of a toplevel
pub record WayLaws : Type 0 where
  pub lead : MessagesLeadSo
  pub ended : EndedIsGone
  pub windows : GoneWindows
  pub least : GoneMarksLeast
  pub most : GoneMarksMost
  pub twice : TwiceMarks
  pub struck : StruckMarks
  pub between : MarksByTreesBetween

-- ---- the windows of a client, as they are kept

-- A window that is kept is of the client that the desktop's is of, and has its points.
own-same : (numbers : ℕ → ById ℕ) (c : ℕ) (s : Stacked) (w : Window) → IsStacked numbers s w → (x y : ℤ) → is_own_at c x y s ≡ ((w.owner.client == c) && contains w x y)
own-same numbers c s w is x y =
    ap (λ (n : ℕ). (n == c) && window_has x y s.window) is.client ∙ ap (λ (v : TreeWindow). (w.owner.client == c) && window_has x y v) is.told

own-among : (numbers : ℕ → ById ℕ) (c : ℕ) (all : List Stacked) (ws : List Window) → AreStacked numbers all ws → (x y : ℤ)
    → has_own c x y all ≡ any_window_at (λ client surface. client == c) x y ws
own-among numbers c [] [] are x y = refl
own-among numbers c (s ∷ ss) (w ∷ ws) are x y =
    ap (λ b. b || has_own c x y ss) (own-same numbers c s w are.0 x y) ∙ ap (λ b. ((w.owner.client == c) && contains w x y) || b) (own-among numbers c ss ws are.1 x y)
own-among numbers c [] (w ∷ ws) are x y = absurd are
own-among numbers c (s ∷ ss) [] are x y = absurd are

-- What is kept of a client's windows has the points that they have on the desktop.
pub own-has : (numbers : ℕ → ById ℕ) (c : ℕ) (all : List Stacked) (d : Desktop) → AreStacked numbers all (all_windows d) → (x y : ℤ)
    → has_own c x y all ≡ has_window_at c x y d
own-has numbers c all d are x y = own-among numbers c all (all_windows d) are x y

-- There the windows are those that were, and none is told; or those stacked with one toplevel of the client differ, and are told.
abbrev pub IsTurned : ℕ → Desktop → (ℕ → ℕ) → List TreeWindow → Desktop → Type 0
IsTurned c d f is o = (StaysPainted d o × (is ≡ [])) ⊎ ((toplevel : ℕ) × (t : ChangesToplevel c toplevel d o) × (is ≡ map (told_by f) t.is))

-- ---- a client that ended

module _ (laws : WayLaws) (c : ℕ) (numbers : ℕ → ById ℕ) (kept : List Stacked) (d e : Desktop) (are : AreStacked numbers kept (all_windows d)) (trees : HasTrees d) (after : HasTrees e)
    (is : List TreeWindow) (d0 d2 : Damaged) (points : (x y : ℕ) → x < d0.width → y < d0.height
    → has d2 x y ≡ ((has d0 x y || has_own c (pos x) (pos y) kept) || list_any (window_has (pos x) (pos y)) is)) where
  -- ---- the points that were marked

  -- the client had a window there, or one is told
  abbrev here : ℤ → ℤ → Bool
  here x y = has_window_at c x y d || list_any (window_has x y) is

  pointed : (x y : ℕ) → x < d0.width → y < d0.height → has d2 x y ≡ (has d0 x y || here (pos x) (pos y))
  pointed x y wide high =
      points x y wide high
      ∙ (or_assoc (has d0 x y) (has_own c (pos x) (pos y) kept) (list_any (window_has (pos x) (pos y)) is)
      ∙ ap (λ b. has d0 x y || (b || list_any (window_has (pos x) (pos y)) is)) (own-has numbers c kept d are (pos x) (pos y)))

  here-had : is ≡ [] → (x y : ℤ) → here x y ≡ true → has_window_at c x y d ≡ true
  here-had none x y there =
      either-of (has_window_at c x y d ≡ true) (has_window_at c x y d) (list_any (window_has x y) is) there (λ had. had)
      (λ told. absurd (differ (sym (ap (list_any (window_has x y)) none) ∙ told)))

  -- What is marked is all that has to be.
  pub gone-least : IsGone c d e → MarksAtLeast d e d0 d2
  gone-least gone x y wide high clean =
      let free = sym (pointed x y wide high) ∙ clean in (
        or-left (has d0 x y) (here (pos x) (pos y)) free,
        false_from_ne_true (marks_at_least d e (pos x) (pos y))
            (λ marked. differ (sym (or-right (has d0 x y) (here (pos x) (pos y)) free)
            ∙ or_left (has_window_at c (pos x) (pos y) d) _ (laws.least c d e trees gone (pos x) (pos y) marked))),
      )

  abbrev Inside : Type 0
  Inside = (x y : ℕ) → x < d0.width → y < d0.height → in_output d.output.width d.output.height (pos x) (pos y) ≡ true

  through : (path : List Desktop) → ((x y : ℤ) → marks_at_least_through all_windows d path x y ≡ true → here x y ≡ true)
      → ((x y : ℤ) → in_output d.output.width d.output.height x y ≡ true → here x y ≡ true → marks_at_most_through all_windows None d path x y ≡ true) → Inside
      → MarksThrough d path d0 d2
  through path least most inside x y wide high = (
    λ clean.
        let free = sym (pointed x y wide high) ∙ clean in (
          or-left (has d0 x y) (here (pos x) (pos y)) free,
          false_from_ne_true (marks_at_least_through all_windows d path (pos x) (pos y))
              (λ marked. differ (sym (or-right (has d0 x y) (here (pos x) (pos y)) free) ∙ least (pos x) (pos y) marked)),
        ),
    λ marked. at (has d0 x y) refl (sym (pointed x y wide high) ∙ marked),
  )
    where
      at : (b : Bool) → has d0 x y ≡ b → (has d0 x y || here (pos x) (pos y)) ≡ true
          → (has d0 x y || marks_at_most_through all_windows None d path (pos x) (pos y)) ≡ true
      at true was either = or_left (has d0 x y) _ was
      at false clean either = or-second-so (has d0 x y) (most (pos x) (pos y) (inside x y wide high) (or-second (has d0 x y) (here (pos x) (pos y)) either clean))
        where
          or-second-so : (a : Bool) → marks_at_most_through all_windows None d path (pos x) (pos y) ≡ true
              → (a || marks_at_most_through all_windows None d path (pos x) (pos y)) ≡ true
          or-second-so true marks = refl
          or-second-so false marks = marks

  -- ---- at once

  pub twice-through : (path : List Desktop) → path ≡ e ∷ e ∷ [] → IsGone c d e → is ≡ [] → Inside → MarksThrough d path d0 d2
  twice-through path twice gone none =
      through path
      (λ x y marked. or_left (has_window_at c x y d) _ (laws.least c d e trees gone x y ((laws.twice d e path twice after x y).0 marked)))
      (λ x y inside there. (laws.twice d e path twice after x y).1 (laws.most c d e gone x y inside (here-had none x y there)))

  -- ---- by a desktop on which the client lived

  pub struck-through : (r : Resident) (f : ℕ → ℕ) (path : List Desktop) (s : Struck c r d path e) → IsTurned c d f is s.own → Inside → MarksThrough d path d0 d2
  struck-through r f path s (inl h) = through path least most
    where
      same : (x y : ℤ) → has_window_at c x y s.own ≡ has_window_at c x y d
      same x y = ap (is_own_in c x y) h.0.windows

      had : (x y : ℤ) → (marks_at_least d s.own x y ≡ true) ⊎ (has_window_at c x y s.own ≡ true) → here x y ≡ true
      had x y (inl marked) = absurd (differ (sym (nothing-is-marked d s.own h.0 x y) ∙ marked))
      had x y (inr there) = or_left (has_window_at c x y d) _ (sym (same x y) ∙ there)

      least : (x y : ℤ) → marks_at_least_through all_windows d path x y ≡ true → here x y ≡ true
      least x y marked = had x y ((laws.struck c r d path e s after x y).0 marked)

      most : (x y : ℤ) → in_output d.output.width d.output.height x y ≡ true → here x y ≡ true → marks_at_most_through all_windows None d path x y ≡ true
      most x y inside there = (laws.struck c r d path e s after x y).1 inside (inr (same x y ∙ here-had h.1 x y there))
  struck-through r f path s (inr h) = through path least most
    where
      same : (x y : ℤ) → here x y ≡ (has_window_at c x y d || is_in_any x y h.1.is)
      same x y = ap (λ b. has_window_at c x y d || b) (ap (list_any (window_has x y)) h.2 ∙ told-has f h.1.is x y)

      least : (x y : ℤ) → marks_at_least_through all_windows d path x y ≡ true → here x y ≡ true
      least x y marked = same x y ∙ run-before laws.between c h.0 d s.own h.1 x y ((laws.struck c r d path e s after x y).0 marked)

      most : (x y : ℤ) → in_output d.output.width d.output.height x y ≡ true → here x y ≡ true → marks_at_most_through all_windows None d path x y ≡ true
      most x y inside there = (laws.struck c r d path e s after x y).1 inside (run-after laws.between c h.0 d s.own h.1 x y inside (sym (same x y) ∙ there))
