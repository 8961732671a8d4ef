-- From one turn to the next, by what its parts answer.
use Rattle.std.proofs.Common.{◌≡◌, ◌≤◌, ◌<◌, ◌+◌, ℕ, List, [], None, Option, Some, refl, inl, inr, subst, sym, arith}
use Rattle.std.proofs.KnownBytes.{Appends-nil}
use Rattle.wl_recording.specs.Side.{Files}
use Rattle.wl_server.specs.Acting.{InTurn, Stretch, Takes, Then}
use Rattle.wl_server.specs.Recorded.{RecordedView}
use Rattle.wl_server.specs.Course.{moment}
use Rattle.wl_server.specs.Phases.{IsTurn, StartsTurn}
use Rattle.wl_server.specs.Sharing.{IsSharedTurn, IsSharedViewedTurn, StartsSharedTurn}
use Rattle.wl_server.specs.ShortTurns.{IsShortTurn, IsShortViewedTurn, StartsShortTurn}
use Rattle.wl_server.specs.Telling.{Tells}
use Rattle.wl_server.specs.Viewed.{IsViewedTurn, Stage as Stand}
use Rattle.wl_server.specs.Ways.{Serving, Ways}
use Rattle.wl_server.proofs.Taking.{InTurn-more, InTurn-zero, Takes-both, Takes-weaker, went-none}
use Rattle.wl_server.proofs.Telling.{Tells-weaker}
use Rattle.wl_server.proofs.Turning.{Tells-both}
use Rattle.wl_program.specs.Steps.{AreShortTurns, AreShortViewedTurns, BeginsShortTurns, IsStep, IsViewedStep, StartsStep}
use Rattle.wl_program.specs.declared.rate.Rate as paced

-- ---- one after another, and what is told of it

pub tells-zero : {W : Type 0} {Writer : Type 0} {contents : Writer → Option (List ℕ)} (Own : ℕ → W → W → Stretch) (from : W) (v : RecordedView Writer) (report images : Option (List ℕ)) → Tells contents (InTurn Own 0 from from) v v report report images images
tells-zero Own from v report images = λ d agrees. ([], went-none v v d refl agrees, InTurn-zero Own from (moment d v.session), (Appends-nil report, Appends-nil images))

pub tells-turn : {W : Type 0} {Writer : Type 0} {contents : Writer → Option (List ℕ)} (Own : ℕ → W → W → Stretch) (n : ℕ) (from between to : W) (old mid new : RecordedView Writer) (x y z i j k : Option (List ℕ))
    → Tells contents (InTurn Own n from between) old mid x y i j → Tells contents (Own (n + 1) between to) mid new y z j k → Tells contents (InTurn Own (n + 1) from to) old new x z i k
tells-turn Own n from between to old mid new x y z i j k first own =
    Tells-weaker (Then (InTurn Own n) (Own (n + 1)) from to) (InTurn Own (n + 1) from to) old new x z i k
    (Tells-both (InTurn Own n) (Own (n + 1)) from between to old mid new x y z i j k first own)
    (λ d e a es ad ae runs then. InTurn-more Own n from to (moment d old.session) a es (moment e new.session) then)

pub takes-tells : {Writer : Type 0} {contents : Writer → Option (List ℕ)} (P : Stretch) (old new : RecordedView Writer) (x y i j : Option (List ℕ)) → Tells contents P old new x y i j → Takes contents P old new
takes-tells P old new x y i j tells = λ d agrees. let s = tells d agrees in (s.0, s.1, s.2)

-- ---- short turns

abbrev pub Short : {H C S : Type 0} → Ways H C → Files S → ℕ → Serving H C S → Serving H C S → Stretch
Short w files n = IsShortTurn w files

pub shorts-all : {H C S : Type 0} {Writer : Type 0} {contents : Writer → Option (List ℕ)} (w : Ways H C) (files : Files S) (n : ℕ) (from to : Serving H C S) (old new : RecordedView Writer) (x y i j : Option (List ℕ)) → n ≤ 1000000
    → Tells contents (InTurn (Short w files) n from to) old new x y i j → Tells contents (AreShortTurns w files from to) old new x y i j
shorts-all w files n from to old new x y i j few tells =
    Tells-weaker (InTurn (Short w files) n from to) (AreShortTurns w files from to) old new x y i j tells (λ d e a es ad ae runs p. (n, few, p))

pub shorts-begun : {H C S : Type 0} {Writer : Type 0} {contents : Writer → Option (List ℕ)} (w : Ways H C) (files : Files S) (n : ℕ) (from between to : Serving H C S) (old mid new : RecordedView Writer) (x y i j : Option (List ℕ)) → n ≤ 1000000
    → Tells contents (InTurn (Short w files) n from between) old mid x y i j → Takes contents (StartsShortTurn w files between to) mid new → Takes contents (BeginsShortTurns w files from to) old new
shorts-begun w files n from between to old mid new x y i j few tells starts =
    Takes-both (AreShortTurns w files) (StartsShortTurn w files) from between to old mid new
    (takes-tells (AreShortTurns w files from between) old mid x y i j (shorts-all w files n from between old mid x y i j few tells)) starts

-- ---- the step

pub step-alone : {H C S : Type 0} {Writer : Type 0} {contents : Writer → Option (List ℕ)} (w : Ways H C) (files : Files S) (rate : Option paced.Rate) (time : ℕ) (from to : Serving H C S) (old new : RecordedView Writer) (x y i j : Option (List ℕ)) → rate ≡ None
    → Tells contents (IsTurn w files time from to) old new x y i j → Tells contents (IsStep w files rate time from to) old new x y i j
step-alone {H} {C} {S} {Writer} {contents} w files rate time from to old new x y i j none tells =
    subst (λ (r : Option paced.Rate). Tells contents (IsStep w files r time from to) old new x y i j) (sym none) tells

pub step-paced : {H C S : Type 0} {Writer : Type 0} {contents : Writer → Option (List ℕ)} (w : Ways H C) (files : Files S) (rate : Option paced.Rate) (at : paced.Rate) (time : ℕ) (from mid to : Serving H C S) (v0 v1 v2 : RecordedView Writer) (x y z i j k : Option (List ℕ)) → rate ≡ Some at
    → Tells contents (AreShortTurns w files from mid) v0 v1 x y i j → Tells contents (IsSharedTurn w files time mid to) v1 v2 y z j k → Tells contents (IsStep w files rate time from to) v0 v2 x z i k
step-paced {H} {C} {S} {Writer} {contents} w files rate at time from mid to v0 v1 v2 x y z i j k some shorts turn =
    subst (λ (r : Option paced.Rate). Tells contents (IsStep w files r time from to) v0 v2 x z i k) (sym some)
    (Tells-both (AreShortTurns w files) (IsSharedTurn w files time) from mid to v0 v1 v2 x y z i j k shorts turn)

pub starts-alone : {H C S : Type 0} {Writer : Type 0} {contents : Writer → Option (List ℕ)} (w : Ways H C) (files : Files S) (rate : Option paced.Rate) (time : ℕ) (from to : Serving H C S) (old new : RecordedView Writer) → rate ≡ None
    → Takes contents (StartsTurn w files time from to) old new → Takes contents (StartsStep w files rate time from to) old new
starts-alone {H} {C} {S} {Writer} {contents} w files rate time from to old new none takes = subst (λ (r : Option paced.Rate). Takes contents (StartsStep w files r time from to) old new) (sym none) takes

pub starts-short : {H C S : Type 0} {Writer : Type 0} {contents : Writer → Option (List ℕ)} (w : Ways H C) (files : Files S) (rate : Option paced.Rate) (at : paced.Rate) (time : ℕ) (from to : Serving H C S) (old new : RecordedView Writer) → rate ≡ Some at
    → Takes contents (BeginsShortTurns w files from to) old new → Takes contents (StartsStep w files rate time from to) old new
starts-short {H} {C} {S} {Writer} {contents} w files rate at time from to old new some takes =
    subst (λ (r : Option paced.Rate). Takes contents (StartsStep w files r time from to) old new) (sym some)
    (Takes-weaker (BeginsShortTurns w files from to) (StartsStep w files (Some at) time from to) old new takes (λ d e a es ad ae runs p. inl p))

pub starts-paced : {H C S : Type 0} {Writer : Type 0} {contents : Writer → Option (List ℕ)} (w : Ways H C) (files : Files S) (rate : Option paced.Rate) (at : paced.Rate) (time : ℕ) (from mid to : Serving H C S) (v0 v1 v2 : RecordedView Writer) (x y i j : Option (List ℕ)) → rate ≡ Some at
    → Tells contents (AreShortTurns w files from mid) v0 v1 x y i j → Takes contents (StartsSharedTurn w files time mid to) v1 v2 → Takes contents (StartsStep w files rate time from to) v0 v2
starts-paced {H} {C} {S} {Writer} {contents} w files rate at time from mid to v0 v1 v2 x y i j some shorts starts =
    subst (λ (r : Option paced.Rate). Takes contents (StartsStep w files r time from to) v0 v2) (sym some)
    (Takes-weaker (Then (AreShortTurns w files) (StartsSharedTurn w files time) from to) (StartsStep w files (Some at) time from to) v0 v2
    (Takes-both (AreShortTurns w files) (StartsSharedTurn w files time) from mid to v0 v1 v2 (takes-tells (AreShortTurns w files from mid) v0 v1 x y i j shorts) starts)
    (λ d e a es ad ae runs p. inr p))

-- ---- with a viewer

abbrev pub ShortViewed : {H C S V D : Type 0} → Ways H C → Ways V D → Files S → ℕ → ℕ → ℕ → ℕ → Stand H C S V D → Stand H C S V D → Stretch
ShortViewed w v files time width height n = IsShortViewedTurn w v files time width height

pub viewed-shorts-more : {H C S V D : Type 0} {Writer : Type 0} {contents : Writer → Option (List ℕ)} (w : Ways H C) (v : Ways V D) (files : Files S) (time width height across down n : ℕ) (from between to : Stand H C S V D) (old mid new : RecordedView Writer) (x y z i j k : Option (List ℕ))
    → across ≡ width → down ≡ height → Tells contents (InTurn (ShortViewed w v files time width height) n from between) old mid x y i j
    → Tells contents (IsShortViewedTurn w v files time across down between to) mid new y z j k → Tells contents (InTurn (ShortViewed w v files time width height) (n + 1) from to) old new x z i k
viewed-shorts-more {H} {C} {S} {V} {D} {Writer} {contents} w v files time width height across down n from between to old mid new x y z i j k wide high first next =
    tells-turn (ShortViewed w v files time width height) n from between to old mid new x y z i j k first
    (subst (λ (s : ℕ). Tells contents (IsShortViewedTurn w v files time width s between to) mid new y z j k) high
    (subst (λ (s : ℕ). Tells contents (IsShortViewedTurn w v files time s down between to) mid new y z j k) wide next))

pub viewed-shorts-all : {H C S V D : Type 0} {Writer : Type 0} {contents : Writer → Option (List ℕ)} (w : Ways H C) (v : Ways V D) (files : Files S) (time width height n : ℕ) (from to : Stand H C S V D) (old new : RecordedView Writer) (x y i j : Option (List ℕ)) → n ≤ 1000000
    → Tells contents (InTurn (ShortViewed w v files time width height) n from to) old new x y i j → Tells contents (AreShortViewedTurns w v files time width height from to) old new x y i j
viewed-shorts-all w v files time width height n from to old new x y i j few tells =
    Tells-weaker (InTurn (ShortViewed w v files time width height) n from to) (AreShortViewedTurns w v files time width height from to) old new x y i j tells (λ d e a es ad ae runs p. (n, few, p))

pub viewed-alone : {H C S V D : Type 0} {Writer : Type 0} {contents : Writer → Option (List ℕ)} (w : Ways H C) (v : Ways V D) (files : Files S) (rate : Option paced.Rate) (time width height : ℕ) (from to : Stand H C S V D) (old new : RecordedView Writer) (x y i j : Option (List ℕ)) → rate ≡ None
    → Tells contents (IsViewedTurn w v files time width height from to) old new x y i j → Tells contents (IsViewedStep w v files rate time width height from to) old new x y i j
viewed-alone {H} {C} {S} {V} {D} {Writer} {contents} w v files rate time width height from to old new x y i j none tells =
    subst (λ (r : Option paced.Rate). Tells contents (IsViewedStep w v files r time width height from to) old new x y i j) (sym none) tells

pub viewed-paced : {H C S V D : Type 0} {Writer : Type 0} {contents : Writer → Option (List ℕ)} (w : Ways H C) (v : Ways V D) (files : Files S) (rate : Option paced.Rate) (at : paced.Rate) (time width height across down : ℕ) (from mid to : Stand H C S V D) (v0 v1 v2 : RecordedView Writer) (x y z i j k : Option (List ℕ))
    → rate ≡ Some at → across ≡ width → down ≡ height
    → Tells contents (AreShortViewedTurns w v files time width height from mid) v0 v1 x y i j → Tells contents (IsSharedViewedTurn w v files time across down mid to) v1 v2 y z j k
    → Tells contents (IsViewedStep w v files rate time width height from to) v0 v2 x z i k
viewed-paced {H} {C} {S} {V} {D} {Writer} {contents} w v files rate at time width height across down from mid to v0 v1 v2 x y z i j k some wide high shorts turn =
    subst (λ (r : Option paced.Rate). Tells contents (IsViewedStep w v files r time width height from to) v0 v2 x z i k) (sym some)
    (Tells-both (AreShortViewedTurns w v files time width height) (IsSharedViewedTurn w v files time width height) from mid to v0 v1 v2 x y z i j k shorts
    (subst (λ (s : ℕ). Tells contents (IsSharedViewedTurn w v files time width s mid to) v1 v2 y z j k) high
    (subst (λ (s : ℕ). Tells contents (IsSharedViewedTurn w v files time s down mid to) v1 v2 y z j k) wide turn)))
