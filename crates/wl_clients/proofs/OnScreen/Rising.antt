-- A toplevel comes to the top with its windows, those of its popups too: what is kept agrees with that, and what is marked is what has to be and may be.
use Rattle.std.proofs.Common.{◌≡◌, ℕ, zero, suc, ◌<◌, ◌==◌, Bool, true, false, cond, Some, List, [], ◌∷◌, ◌++◌, length, map, refl, ap, sym, subst, ◌∙◌, arith}
use Rattle.std.specs.Prelude.{ℤ, pos, slice_index_or, ◌||◌, filter, not}
use Rattle.std.specs.List.{list_any}
use Rattle.std.proofs.lemmas.Bool.{and_from, eqb-true, false_from_ne_true, or_left, or_right}
use Rattle.std.proofs.lemmas.Int.{ints}
use Rattle.wl_proto.specs.declared.interface.Interface.TheVariants.{WlSurface}
use Rattle.law_desktop.specs.Laws.{AreApart}
use Rattle.law_desktop.proofs.Lists.Standings.{of-client, of-surface}
use Rattle.law_desktop.proofs.Marks.Stacks.{equal-numbers}
use Rattle.law_desktop.proofs.Soundness.Windows.{sound_is_distinct}
use Rattle.wl_paint.specs.Damage.{Damaged, has}
use Rattle.spec_desktop.specs.Objects.{ById}
use Rattle.spec_desktop.specs.Stacking.{Standing, is_of, raised}
use Rattle.spec_desktop.specs.Windows.{Window, contains}
use Rattle.wl_scene.specs.declared.stacked.Stacked.{Stacked}
use Rattle.wl_scene.specs.Stacked.{raised as raised_windows, run_of}
use Rattle.wl_scene.specs.StackedAgreement.{AreNumberedOnce, AreStacked, IsStacked, has_toplevel}
use Rattle.wl_scene.proofs.Standing.{run-is-stacked}
use Rattle.spec_desktop.specs.Desktop.{Desktop, Resident}
use Rattle.spec_desktop.specs.Marks.{at_least, at_most, in_output, is_raised}
use Rattle.spec_desktop.specs.Moments.{applied_between, marks_at_least, marks_at_most}
use Rattle.spec_desktop.specs.Stacked.{all_windows}
use Rattle.spec_desktop.specs.Through.{is_topmost}
use Rattle.law_desktop.specs.TreeMarksLaws.{is_in_any}
use Rattle.law_desktop.proofs.Truth.{and-left, and-right, differ, or-left, or-right}
use Rattle.law_desktop.proofs.Lists.Each.{each-of}
use Rattle.law_desktop.specs.Ordered.{Ordered}
use Rattle.law_windows.specs.Runs.Moves.{IsWhole}
use Rattle.law_windows.proofs.OneToplevel.Shifted.{raises-lift-runs, stays-whole}
use Rattle.law_windows.proofs.OneToplevel.Turned.{run-rises}
use Rattle.law_desktop.specs.Owning.{targets_in}
use Rattle.wl_scene.specs.Repaint.{window_has}
use Rattle.wl_scene.specs.Kept.{standing_of}
use Rattle.wl_scene.specs.declared.scene.Toplevel.{Toplevel}
use Rattle.wl_requests.specs.declared.residents.Resident.{Resident as Kept}
use Rattle.wl_clients.specs.Agreement.{IsStack, with_numbers}
use Rattle.wl_clients.specs.Marking.{MarksAtLeast, MarksMostBy}
use Rattle.wl_clients.specs.Raising.{with_raised}
use Rattle.wl_clients.specs.Screens.{run_kept}
use Rattle.wl_clients.specs.Seats.{IsSeated}
use Rattle.wl_clients.specs.View.{Pile}
use Rattle.wl_clients.proofs.OnScreen.Raised.{least-passing, most-passing}
use Rattle.wl_clients.proofs.OnScreen.Scenes.{AreOnce, number-is, numbers-same, stack-more}
use Rattle.wl_clients.proofs.OnScreen.Standings.{based-still, seated-same, undamaged-still, unmarked-same, whole-so}

-- ---- the toplevels

-- the topmost stands
topmost-there : (c surface : ℕ) (ss : List Standing) → is_topmost c surface ss ≡ true → list_any (is_of c surface) ss ≡ true
topmost-there c surface [] e = e
topmost-there c surface (s ∷ []) e = or_left (is_of c surface s) false e
topmost-there c surface (s ∷ (t ∷ ts)) e = or_right (is_of c surface s) (list_any (is_of c surface) (t ∷ ts)) (topmost-there c surface (t ∷ ts) e)

-- raised, it stands where it did
pub raised-topmost : (c surface : ℕ) (ss : List Standing) → AreApart ss → is_topmost c surface ss ≡ true → raised c surface ss ≡ ss
raised-topmost c surface [] apart e = refl
raised-topmost c surface (s ∷ []) apart e = at (is_of c surface s)
  where
    at : (b : Bool) → cond b (s ∷ []) (s ∷ []) ≡ s ∷ []
    at true = refl
    at false = refl
raised-topmost c surface (s ∷ (t ∷ ts)) apart e = at (is_of c surface s) refl (raised-topmost c surface (t ∷ ts) apart.1 e)
  where
    at : (b : Bool) → is_of c surface s ≡ b → raised c surface (t ∷ ts) ≡ t ∷ ts → cond b ((t ∷ ts) ++ s ∷ []) (s ∷ raised c surface (t ∷ ts)) ≡ s ∷ (t ∷ ts)
    at true its rest =
        absurd
        (differ
        (sym apart.0
        ∙ subst (λ n. list_any (is_of n s.surface) (t ∷ ts) ≡ true) (sym (of-client c surface s its))
        (subst (λ n. list_any (is_of c n) (t ∷ ts) ≡ true) (sym (of-surface c surface s its)) (topmost-there c surface (t ∷ ts) e))))
    at false other rest = ap (λ xs. s ∷ xs) rest

-- what is kept of them says so too
pub topmost-kept : (numbers : ℕ → ById ℕ) (c surface n : ℕ) → AreOnce (numbers c) → numbers c surface ≡ Some n → (ks ss : List Standing) → IsStack numbers ks ss
    → is_topmost c n ks ≡ is_topmost c surface ss
topmost-kept numbers c surface n once named [] [] is = refl
topmost-kept numbers c surface n once named [] (s ∷ ss) is = absurd is
topmost-kept numbers c surface n once named (k ∷ ks) [] is = absurd is
topmost-kept numbers c surface n once named (k ∷ []) (s ∷ []) is = number-is numbers c surface n k s once named is.0
topmost-kept numbers c surface n once named (k ∷ []) (s ∷ (t ∷ ts)) is = absurd is.1
topmost-kept numbers c surface n once named (k ∷ (l ∷ ls)) (s ∷ []) is = absurd is.1
topmost-kept numbers c surface n once named (k ∷ (l ∷ ls)) (s ∷ (t ∷ ts)) is = topmost-kept numbers c surface n once named (l ∷ ls) (t ∷ ts) is.1

stack-raised : (numbers : ℕ → ById ℕ) (c surface n : ℕ) → AreOnce (numbers c) → numbers c surface ≡ Some n → (ks ss : List Standing) → IsStack numbers ks ss
    → IsStack numbers (raised c n ks) (raised c surface ss)
stack-raised numbers c surface n once named [] [] is = tt
stack-raised numbers c surface n once named [] (s ∷ ss) is = absurd is
stack-raised numbers c surface n once named (k ∷ ks) [] is = absurd is
stack-raised numbers c surface n once named (k ∷ ks) (s ∷ ss) is =
    at (is_of c n k) (is_of c surface s) (number-is numbers c surface n k s once named is.0) (stack-raised numbers c surface n once named ks ss is.1)
  where
    at : (a b : Bool) → a ≡ b → IsStack numbers (raised c n ks) (raised c surface ss)
        → IsStack numbers (cond a (ks ++ k ∷ []) (k ∷ raised c n ks)) (cond b (ss ++ s ∷ []) (s ∷ raised c surface ss))
    at true true e rest = stack-more numbers ks ss k s is.0 is.1
    at false false e rest = (is.0, rest)
    at true false e rest = absurd (differ (sym e))
    at false true e rest = absurd (differ e)

-- the last of those that are kept is the topmost
pub topmost-last : (c surface : ℕ) (ts : List Toplevel) (d : Toplevel) (n : ℕ) → suc n ≡ length ts
    → is_of c surface (standing_of (slice_index_or ts n d)) ≡ is_topmost c surface (map standing_of ts)
topmost-last c surface [] d n e = absurd (omega (arith, e))
topmost-last c surface (t ∷ []) d zero e = refl
topmost-last c surface (t ∷ []) d (suc n) e = absurd (omega (arith, e))
topmost-last c surface (t ∷ (u ∷ us)) d zero e = absurd (omega (arith, e))
topmost-last c surface (t ∷ (u ∷ us)) d (suc n) e = topmost-last c surface (u ∷ us) d n (omega (arith, e))

-- ---- the windows

-- what is kept of windows has the points that they have
kept-has : (numbers : ℕ → ById ℕ) (all : List Stacked) (ws : List Window) → AreStacked numbers all ws → (x y : ℤ)
    → list_any (window_has x y) (map (λ s. s.window) all) ≡ is_in_any x y ws
kept-has numbers [] [] are x y = refl
kept-has numbers [] (w ∷ ws) are x y = absurd are
kept-has numbers (s ∷ ss) [] are x y = absurd are
kept-has numbers (s ∷ ss) (w ∷ ws) are x y =
    ap (λ b. b || list_any (window_has x y) (map (λ s. s.window) ss)) (one are.0) ∙ ap (λ b. contains w x y || b) (kept-has numbers ss ws are.1 x y)
  where
    one : IsStacked numbers s w → window_has x y s.window ≡ contains w x y
    one is = ap (λ t. window_has x y t) is.told

-- those stacked with a toplevel
pub tree-has : (numbers : ℕ → ById ℕ) (all : List Stacked) (ws : List Window) (c root k : ℕ) → AreStacked numbers all ws → numbers c root ≡ Some k → AreNumberedOnce (numbers c) → (x y : ℤ)
    → list_any (window_has x y) (run_kept c (Some k) all) ≡ is_in_any x y (filter (λ w. has_toplevel c root w) ws)
tree-has numbers all ws c root k are named once x y =
    kept-has numbers (run_of c k all) (filter (λ w. has_toplevel c root w) ws) (run-is-stacked numbers all ws c root k are named once) x y

-- a point of what is to be painted is of the output
pub within-output : (width height x y : ℕ) → x < width → y < height → in_output width height (pos x) (pos y) ≡ true
within-output width height x y w h = grind (arith, ints)

pub inside-so : (d : Desktop) (damage : Damaged) → damage.width ≡ d.output.width → damage.height ≡ d.output.height → (x y : ℕ) → x < damage.width → y < damage.height
    → in_output d.output.width d.output.height (pos x) (pos y) ≡ true
inside-so d damage width height x y wide high =
    subst (λ w. in_output w d.output.height (pos x) (pos y) ≡ true) width
    (subst (λ h. in_output damage.width h (pos x) (pos y) ≡ true) height (within-output damage.width damage.height x y wide high))

-- ---- at its seat

module _ {A : Type 0} (c : ℕ) (others : ℕ → ById ℕ) (base d : Desktop) (r : Resident) (v : Kept A) (pile : Pile) (before : IsSeated c others base v pile d r) (ordered : Ordered d)
    (surface k : ℕ) (named : targets_in WlSurface v.client.objects surface ≡ Some k) where
  abbrev pub nums : ℕ → ById ℕ
  nums = with_numbers c (targets_in WlSurface v.client.objects) others

  nums-own : nums c ≡ targets_in WlSurface v.client.objects
  nums-own = numbers-same c (targets_in WlSurface v.client.objects) others

  pub nums-named : nums c surface ≡ Some k
  nums-named = ap (λ (n : ById ℕ). n surface) nums-own ∙ named

  pub once-own : AreOnce (nums c)
  once-own = subst (λ (n : ById ℕ). AreOnce n) (sym nums-own) before.seat.owns.surfaces.once

  pub whole : IsWhole d
  whole = whole-so d ordered before.mapped

  -- ---- where it is topmost

  pub topmost-same : is_topmost c k pile.scene.standing ≡ is_topmost c surface d.standing
  topmost-same = topmost-kept nums c surface k once-own nums-named pile.scene.standing d.standing before.scene.standing

  module _ (top : is_topmost c k pile.scene.standing ≡ true) where
    stays : raised c surface d.standing ≡ d.standing
    stays = raised-topmost c surface d.standing before.mapped.apart (sym topmost-same ∙ top)

    pub seated-still : IsSeated c others base v pile (with_raised c surface d) r
    seated-still = seated-same c others base d r v pile (raised c surface d.standing) stays before

    pub unmarked-least : (damage : Damaged) → MarksAtLeast d (with_raised c surface d) damage damage
    unmarked-least damage = unmarked-same d (raised c surface d.standing) stays whole.trees damage

  -- ---- where it isn't

  abbrev e : Desktop
  e = with_raised c surface d

  -- What is kept agrees once the toplevel and its windows have come to the top.
  pub seated-raised : (is : Pile) → is.scene.standing ≡ raised c k pile.scene.standing → is.scene.next ≡ pile.scene.next → is.windows ≡ raised_windows c k pile.windows
      → IsSeated c others base v is e r
  seated-raised is stands next windows =
      record {
        based = based-still c base d r (raised c surface d.standing) before.based;
        seat = before.seat;
        scene = record {
          standing = subst (λ (ks : List Standing). IsStack nums ks (raised c surface d.standing)) (sym stands)
              (stack-raised nums c surface k once-own nums-named pile.scene.standing d.standing before.scene.standing);
          next = next ∙ before.scene.next;
        };
        windows = subst (λ (all : List Stacked). AreStacked nums all (all_windows e)) (sym windows)
            (run-rises nums pile.windows c surface k d whole.trees before.windows nums-named once-own);
        mapped = (stays-whole c surface (record { x = pos 0; y = pos 0 }) d whole).0.shown;
      }

  -- ---- what is marked

  abbrev its : Window → Bool
  its w = has_toplevel c surface w

  parts : all_windows e ≡ filter (λ w. not (its w)) (all_windows d) ++ filter its (all_windows d)
  parts = raises-lift-runs c surface d whole.trees

  its-raised : (w : Window) → its w ≡ true → is_raised (Some (c, surface)) w ≡ true
  its-raised w is =
      and_from (w.owner.client == c) (w.owner.toplevel == surface)
      (equal-numbers w.owner.client c (sym (eqb-true c w.owner.client (and-left (c == w.owner.client) (surface == w.owner.toplevel) is))))
      (equal-numbers w.owner.toplevel surface (sym (eqb-true surface w.owner.toplevel (and-right (c == w.owner.client) (surface == w.owner.toplevel) is))))

  held : (x y : ℤ) → list_any (window_has x y) (run_kept c (Some k) pile.windows) ≡ is_in_any x y (filter its (all_windows d))
  held x y = tree-has nums pile.windows (all_windows d) c surface k before.windows nums-named once-own x y

  module _ (d0 d2 : Damaged) (points : (x y : ℕ) → x < d0.width → y < d0.height
      → has d2 x y ≡ (has d0 x y || list_any (window_has (pos x) (pos y)) (run_kept c (Some k) pile.windows))) where
    -- What has to be marked is.
    pub raised-least : MarksAtLeast d e d0 d2
    raised-least x y wide high clean =
        let free = sym (points x y wide high) ∙ clean in (
          or-left (has d0 x y) _ free,
          false_from_ne_true (marks_at_least d e (pos x) (pos y))
              (λ marked.
              differ
              (sym (or-right (has d0 x y) _ free)
              ∙ (held (pos x) (pos y)
              ∙ least-passing its (all_windows d) (pos x) (pos y) (sound_is_distinct d whole.trees.sound) (applied_between d e) (undamaged-still d (raised c surface d.standing) (all_windows d))
              d.output.width d.output.height
              (sym (ap (λ (ws : List Window). at_least d.output.width d.output.height (applied_between d e) (all_windows d) ws (pos x) (pos y)) parts) ∙ marked)))),
        )

    -- No more is than may be.
    pub raised-most : ((x y : ℕ) → x < d0.width → y < d0.height → in_output d.output.width d.output.height (pos x) (pos y) ≡ true) → MarksMostBy (Some (c, surface)) d e d0 d2
    raised-most inside x y wide high marked = at (has d0 x y) refl
      where
        at : (b : Bool) → has d0 x y ≡ b → (has d0 x y || marks_at_most d e (Some (c, surface)) (pos x) (pos y)) ≡ true
        at true was = or_left (has d0 x y) _ was
        at false clean =
            or_right (has d0 x y) _
            (ap (λ (ws : List Window). at_most d.output.width d.output.height (applied_between d e) (Some (c, surface)) (all_windows d) ws (pos x) (pos y)) parts
            ∙ most-passing its (all_windows d) (pos x) (pos y) (Some (c, surface)) (each-of (λ w. its w ≡ true → is_raised (Some (c, surface)) w ≡ true) its-raised (all_windows d))
            (applied_between d e) d.output.width d.output.height (inside x y wide high)
            (sym (held (pos x) (pos y))
            ∙ (sym (ap (λ b. b || list_any (window_has (pos x) (pos y)) (run_kept c (Some k) pile.windows)) clean) ∙ (sym (points x y wide high) ∙ marked))))
