-- A frame is told to the clients one after another.
use Rattle.std.proofs.Common.{◌≡◌, ◌≢◌, ℕ, suc, ◌+◌, ◌<◌, List, Bool, true, false, Option, Some, None, set, refl, ap, subst, sym, ◌∙◌, arith, ◌⊎◌, inl, inr}
use Rattle.std.proofs.lemmas.Bool.{or_left}
use Rattle.std.specs.Prelude.{pos, ◌==◌, ◌&&◌, ◌||◌, is_some}
use Rattle.spec_desktop.specs.declared.cause.Cause.{Cause}
use Rattle.spec_desktop.specs.Told.{Output as Sides}
use Rattle.wl_client.specs.declared.outputs.Output.{Output}
use Rattle.wl_paint.specs.Damage.{Damaged, has}
use Rattle.spec_desktop.specs.Windows.{contains}
use Rattle.spec_desktop.specs.Desktop.{Desktop, Resident, client_at, status_in, status_of}
use Rattle.spec_desktop.specs.Framing.{FramesTold, FramesToldAt}
use Rattle.spec_desktop.specs.Moments.{marks_at_most}
use Rattle.law_desktop.proofs.Marks.Through.{unmarked-on}
use Rattle.law_desktop.proofs.Runs.Fates.{same-or}
use Rattle.law_desktop.specs.Touching.{has_window_at}
use Rattle.law_desktop.proofs.KeptRecords.Marks.Framing.{told-more}
use Rattle.law_desktop.specs.Ordered.{Ordered}
use Rattle.law_desktop.proofs.KeptInOrder.Laws.{frames_keep_ordered}
use Rattle.law_desktop.specs.Ways.{IsGone}
use Rattle.law_desktop.proofs.MessageWays.Ends.{untold_is_gone}
use Rattle.law_desktop.proofs.Truth.{differ}
use Rattle.wl_scene.specs.Marking.{IsAsLarge}
use Rattle.wl_requests.specs.declared.residents.Resident.{Resident as Kept}
use Rattle.wl_clients.specs.Agreement.{Matches, numbers_in}
use Rattle.wl_clients.specs.Marking.{MarksAtLeast, MarksMost, MarksOwnIf}
use Rattle.wl_clients.specs.Seats.{IsSeated}
use Rattle.wl_clients.specs.View.{DeskView, MarkedDesk, Pile}
use Rattle.wl_clients.specs.Agreeing.{Agrees}
use Rattle.wl_clients.specs.Framing.{MarksIfEnds, WasTold}
use Rattle.wl_clients.specs.Residents.{client_views}
use Rattle.wl_clients.proofs.Agreed.{agrees-apart}
use Rattle.wl_clients.proofs.Calls.{back, out}
use Rattle.wl_clients.proofs.Marks.{IsSized, away-most, fate-marks, or-none, sized as sized-by, still-marks}
use Rattle.wl_clients.proofs.Seats.{IsHere, IsMissing, marked, view_of}
use Rattle.wl_clients.proofs.Still.{IsStill, same-still}
use Rattle.wl_clients.proofs.Telling.{HasNoNew, fate-output, fate-owns, fate-windows, over-told, told-fate, told-others, told-over, told-still}

-- ---- nobody is told

-- nothing changes, and the same is to be painted
pub nothing-told : (time c : ℕ) (old new : MarkedDesk) (d : Desktop) → FramesToldAt time c (client_at c d) d d → Agrees old.desk d → Agrees new.desk d → new.damage ≡ old.damage → IsSized old d
    → WasTold time c old new d d
nothing-told time c old new d told a b same sized =
    record {
      told = told;
      sized = sized;
      agrees = b;
      marks = subst (λ (w : Damaged). MarksAtLeast d d old.damage w) (sym same) (still-marks old.desk d d old.damage a (same-still d d refl));
      within = λ x y wide high marked. inl (ap (λ (w : Damaged). has w x y) (sym same) ∙ marked);
      quiet = λ stays x y wide high. ap (λ (w : Damaged). has w x y) same;
    }

pub nobody-told : (time c : ℕ) (old new : MarkedDesk) (d : Desktop) → client_at c d ≡ None → Agrees old.desk d → Agrees new.desk d → new.damage ≡ old.damage → IsSized old d
    → WasTold time c old new d d
nobody-told time c old new d nobody a b same sized = nothing-told time c old new d (subst (λ (o : Option Resident). FramesToldAt time c o d d) (sym nobody) refl) a b same sized

-- ---- one client is told

-- its windows are to be painted where it ended, and nothing more else
abbrev AddsIf : Option Cause → ℕ → Desktop → Damaged → Damaged → Type 0
AddsIf ended c d old new = (x y : ℕ) → x < old.width → y < old.height → has new x y ≡ (has old x y || (is_some ended && has_window_at c (pos x) (pos y) d))

marks-told : (time c : ℕ) (v : DeskView) (d e : Desktop) (ended : Option Cause) (old new : Damaged) → Agrees v d → FramesToldAt time c (client_at c d) d e → status_in c e ≡ ended
    → AddsIf ended c d old new → MarksAtLeast d e old new
marks-told time c v d e (Some cause) old new a told status adds =
    let gone : IsGone c d e = untold_is_gone time c d e a.ordered.in_order told (ap (λ (s : Option Cause). is_some s) status) in
    fate-marks c v d e old new a (inr gone) adds
marks-told time c v d e None old new a told status adds = λ x y wide high clean.
    (still-marks v d e old a (told-still time c d e told status)) x y wide high (or-none (has old x y) ∙ sym (adds x y wide high) ∙ clean)

-- a client that lives is told
pub one-told : (time c : ℕ) (r : Resident) (old new : MarkedDesk) (d e : Desktop) (ended : Option Cause) → client_at c d ≡ Some r → r.peer.status ≡ None → Agrees old.desk d → Matches new.desk e
    → FramesToldAt time c (Some r) d e → status_in c e ≡ ended
    → AddsIf ended c d old.damage new.damage → IsSized old d → WasTold time c old new d e
one-told time c r old new d e ended there alive a b told status marks sized =
    let at : FramesToldAt time c (client_at c d) d e = subst (λ (o : Option Resident). FramesToldAt time c o d e) (sym there) told in
    let later : Ordered e = frames_keep_ordered time c d e a.ordered at in
    record {
      told = at;
      sized = sized;
      agrees = record { matches = b; ordered = later };
      marks = marks-told time c old.desk d e ended old.damage new.damage a at status marks;
      within = λ x y wide high marked. own-or (has old.damage x y) (is_some ended) (has_window_at c (pos x) (pos y) d) (ap (λ (o : Option Cause). is_some o) status) (sym (marks x y wide high)
          ∙ marked);
      quiet = λ stays x y wide high.
          let lives : ended ≡ None = sym status ∙ stays ∙ ap status_of there ∙ alive in
          subst (λ s. AddsIf s c d old.damage new.damage) lives marks x y wide high ∙ sym (or-none (has old.damage x y));
    }
  where
    own-or : (a b f : Bool) → is_some (status_in c e) ≡ b → (a || (b && f)) ≡ true → (a ≡ true) ⊎ ((is_some (status_in c e) ≡ true) × (f ≡ true))
    own-or true b f over h = inl refl
    own-or false true f over h = inr (over, h)
    own-or false false f over h = absurd (differ h)

-- ---- several are told

-- What is to be painted was before, or lies in a window that a client had that ended.
abbrev WithinEnds : Desktop → Desktop → Damaged → Damaged → Type 0
WithinEnds d e old new =
    (x y : ℕ) → x < old.width → y < old.height → has new x y ≡ true
    → (has old x y ≡ true) ⊎ ((c : ℕ) × (is_some (status_in c e) ≡ true) × (has_window_at c (pos x) (pos y) d ≡ true))

-- n clients were told
pub record HasTold (time n : ℕ) (old new : MarkedDesk) (d mid : Desktop) : Type 0 where
  pub told : FramesTold time n 1 d mid
  pub sized : (n ≡ 0) ⊎ IsSized old d
  pub output : mid.output ≡ d.output
  pub agrees : Agrees new.desk mid
  pub marks : MarksAtLeast d mid old.damage new.damage
  pub within : WithinEnds d mid old.damage new.damage
  pub windows : HasNoNew d mid
  pub quiet : MarksIfEnds d mid old.damage new.damage
  pub others : (k : ℕ) → n < k → client_at k mid ≡ client_at k d

pub none-told : (time : ℕ) (old : MarkedDesk) (d : Desktop) → Agrees old.desk d → HasTold time 0 old old d d
none-told time old d a =
    record {
      told = refl;
      sized = inl refl;
      output = refl;
      agrees = a;
      marks = still-marks old.desk d d old.damage a (same-still d d refl);
      within = λ x y wide high marked. inl marked;
      windows = λ p there. there;
      quiet = λ stays x y wide high. refl;
      others = λ k past. refl;
    }

pub more-told : (time n : ℕ) (old mid new : MarkedDesk) (d m e : Desktop) → IsAsLarge old.damage mid.damage → Agrees old.desk d → HasTold time n old mid d m → WasTold time (n + 1) mid new m e
    → HasTold time (n + 1) old new d e
more-told time n old mid new d m e large a before here =
    let next : suc n ≡ n + 1 = omega arith in
    let number : n + 1 ≡ 1 + n = omega arith in
    let fate : IsStill m e ⊎ IsGone (n + 1) m e = told-fate time (n + 1) m e before.agrees.ordered here.told in
    let others = told-others time (n + 1) (client_at (n + 1) m) m e here.told in
    record {
      told = subst (λ k. FramesTold time k 1 d e) next (told-more time n 1 d m e before.told (subst (λ k. FramesToldAt time k (client_at k m) m e) number here.told));
      sized = inr (sym large.width ∙ here.sized.0 ∙ ap (λ (o : Sides). o.width) before.output, sym large.height ∙ here.sized.1 ∙ ap (λ (o : Sides). o.height) before.output);
      output = fate-output (n + 1) m e fate ∙ before.output;
      agrees = here.agrees;
      marks = λ x y wide high clean.
          let second = here.marks x y (rw large.width wide) (rw large.height high) clean in
          let first = before.marks x y wide high second.0 in
          (first.0, unmarked-on d m e (pos x) (pos y) (agrees-apart old.desk d a) before.output (fate-owns (n + 1) m e fate) first.1 second.1);
      within = λ x y wide high marked. within-on x y wide high (here.within x y (rw large.width wide) (rw large.height high) marked);
      windows = λ p there. before.windows p (fate-windows (n + 1) m e fate p there);
      quiet = λ stays x y wide high.
          let was : (c : ℕ) → status_in c m ≡ status_in c d = λ c. at c (same-or (n + 1) c) stays others in
          let one : status_in (n + 1) e ≡ status_in (n + 1) m = stays (n + 1) ∙ sym (was (n + 1)) in
          here.quiet one x y (rw large.width wide) (rw large.height high) ∙ before.quiet was x y wide high;
      others = λ k past. others k (λ same. let e : n + 1 ≡ k = same in omega (arith, past, e)) ∙ before.others k (omega (arith, past));
    }
  where
    within-on : (x y : ℕ) → x < old.damage.width → y < old.damage.height
        → (has mid.damage x y ≡ true) ⊎ ((is_some (status_in (n + 1) e) ≡ true) × (has_window_at (n + 1) (pos x) (pos y) m ≡ true))
        → (has old.damage x y ≡ true) ⊎ ((c : ℕ) × (is_some (status_in c e) ≡ true) × (has_window_at c (pos x) (pos y) d ≡ true))
    within-on x y wide high (inr (over, there)) =
        inr (n + 1, over, before.windows (λ w. (w.owner.client == (n + 1)) && contains w (pos x) (pos y)) there)
    within-on x y wide high (inl marked) = earlier (before.within x y wide high marked)
      where
        earlier : (has old.damage x y ≡ true) ⊎ ((c : ℕ) × (is_some (status_in c m) ≡ true) × (has_window_at c (pos x) (pos y) d ≡ true))
            → (has old.damage x y ≡ true) ⊎ ((c : ℕ) × (is_some (status_in c e) ≡ true) × (has_window_at c (pos x) (pos y) d ≡ true))
        earlier (inl marked) = inl marked
        earlier (inr (c, over, there)) = inr (c, told-over time (n + 1) c m e here.told over, there)

    at : (c : ℕ) → ((n + 1) ≡ c) ⊎ ((n + 1) ≢ c) → ((c : ℕ) → status_in c e ≡ status_in c d) → ((k : ℕ) → (n + 1) ≢ k → client_at k e ≡ client_at k m) → status_in c m ≡ status_in c d
    at c (inl same) stays others = ap status_of (before.others c (omega (arith, same)))
    at c (inr apart) stays others = sym (ap status_of (others c apart)) ∙ stays c

-- what all of them mark is no more than a step may
pub told-most : (time n : ℕ) (old new : MarkedDesk) (d e : Desktop) → Agrees old.desk d → HasTold time (suc n) old new d e → MarksMost d e old.damage new.damage
told-most time n old new d e a told x y wide high marked = sized told.sized
  where
    by : IsSized old d → (has old.damage x y ≡ true) ⊎ ((c : ℕ) × (is_some (status_in c e) ≡ true) × (has_window_at c (pos x) (pos y) d ≡ true))
        → (has old.damage x y || marks_at_most d e None (pos x) (pos y)) ≡ true
    by sides (inl was) = or_left (has old.damage x y) _ was
    by sides (inr (c, over, there)) = away-most c old d e told.agrees.ordered sides (inr over) x y wide high there

    sized : (suc n ≡ 0) ⊎ IsSized old d → (has old.damage x y || marks_at_most d e None (pos x) (pos y)) ≡ true
    sized (inl none) = absurd (cc)
    sized (inr sides) = by sides (told.within x y wide high marked)

-- ---- a client of the desk

-- nobody is
pub tells-nobody : (time c : ℕ) (v new old : MarkedDesk) → IsMissing c old → v ≡ old → new ≡ old → (v.damage.width ≡ v.desk.output.width) × (v.damage.height ≡ v.desk.output.height)
    → (d : Desktop) → Agrees old.desk d → (e : Desktop) × WasTold time c old new d e
tells-nobody time c v new old miss view same sides d a =
    (d, subst (λ (w : MarkedDesk). WasTold time c old w d d) (sym same) (nobody-told time c old old d (miss d a.matches) a a refl (sized-by v old d view sides a)))

-- a client is told, and its windows are marked where it ends by that
module _ {A : Type 0} (time : ℕ) (output : Output) (rs : List (Option (Kept A))) (pile : Pile) (c k : ℕ) (v : Kept A) (is : IsHere rs c k v) (d : Desktop) (damage : Damaged)
    (sides : (damage.width ≡ output.width) × (damage.height ≡ output.height)) (a : Agrees (view_of output rs pile) d) where
  sized : IsSized (record { desk = view_of output rs pile; damage = damage }) d
  sized = (sides.0 ∙ ap (λ (o : Sides). o.width) a.matches.output, sides.1 ∙ ap (λ (o : Sides). o.height) a.matches.output)

  pub here-told : (new : Kept A) (now : Pile) (after : Damaged)
      → ((r : Resident) → IsSeated c (numbers_in (client_views rs)) d v pile d r → Ordered d
      → (e : Desktop) × (s : Resident) × FramesToldAt time c (Some r) d e × IsSeated c (numbers_in (client_views rs)) d new now e s)
      → (v.client.ended ≡ None → MarksOwnIf (is_some new.client.ended) c v pile damage after) → (is_some v.client.ended ≡ true → (new ≡ v) × (now ≡ pile) × (after ≡ damage))
      → (e : Desktop) × WasTold time c (marked (view_of output rs pile) damage) (marked (view_of output (set rs k (Some new)) now) after) d e
  here-told new now after tells marks idle =
      let s = out output rs pile c k v is d a.matches in
      let n = tells s.0 s.2 a.ordered in
      let matches = back output rs pile c k v is d a.matches new now n.0 n.1 n.3 in
      (n.0, at s.0 n.0 n.1 (view_of output (set rs k (Some new)) now) s.1 s.2 n.2 n.3 matches v.client.ended refl)
    where
      at : (r : Resident) (x : Desktop) (q : Resident) (later : DeskView) → client_at c d ≡ Some r → IsSeated c (numbers_in (client_views rs)) d v pile d r → FramesToldAt time c (Some r) d x
          → IsSeated c (numbers_in (client_views rs)) d new now x q → Matches later x
          → (o : Option Cause) → v.client.ended ≡ o → WasTold time c (marked (view_of output rs pile) damage) (marked later after) d x
      at r x q later there seated told seated_after matches None ended =
          one-told time c r (marked (view_of output rs pile) damage) (marked later after) d x new.client.ended there (sym seated.seat.peer.status ∙ ended) a matches told
          (ap status_of seated_after.based.there ∙ sym seated_after.seat.peer.status) ((marks ended).1 (numbers_in (client_views rs)) d d r seated a.ordered) sized
      at r x q later there seated told seated_after matches (Some cause) ended =
          let same = over-told time c r d x told (ap (λ (o : Option Cause). is_some o) (sym seated.seat.peer.status ∙ ended)) in
          let here : FramesToldAt time c (Some r) d d = subst (λ (y : Desktop). FramesToldAt time c (Some r) d y) same told in
          subst (λ (y : Desktop). WasTold time c (marked (view_of output rs pile) damage) (marked later after) d y) (sym same)
          (nothing-told time c (marked (view_of output rs pile) damage) (marked later after) d (subst (λ (o : Option Resident). FramesToldAt time c o d d) (sym there) here) a
          (record { matches = subst (λ (y : Desktop). Matches later y) same matches; ordered = a.ordered }) (idle (ap (λ (o : Option Cause). is_some o) ended)).2 sized)
