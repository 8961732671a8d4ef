-- Lines of the pointer, taken one after another.
use Rattle.std.proofs.Common.{Option, ◌≡◌, ℕ, suc, ℤ, ◌+◌, Bool, true, List, [], ◌∷◌, ◌++◌, refl, ap, sym, subst, ◌∙◌, arith, append-nil, append_assoc, take-append-drop}
use Rattle.std.specs.Prelude.{if◌then◌else◌, drop, take}
use Rattle.std.specs.List.{prefix_len}
use Rattle.spec_desktop.specs.Act as act
use Rattle.spec_desktop.specs.Act.{Act}
use Rattle.spec_desktop.specs.declared.answers.Done.TheVariants as gave
use Rattle.wl_recording.specs.declared.pointer.PointerLine.{PointerLine}
use Rattle.wl_recording.specs.declared.pointer.PointerLine.TheVariants.{Motion, Button, Skip, Bad}
use Rattle.wl_server.specs.Acting.{Stretch, Takes}
use Rattle.wl_server.specs.Recorded.{RecordedView}
use Rattle.wl_server.specs.Due.{due_at, is_due, left_at, asked_of}
use Rattle.wl_server.specs.Phases.{Points}
use Rattle.wl_server.proofs.Taking.{TakesNoted, Takes-none, Takes-one, Takes-then, Takes-weaker}

-- ---- which lines are due

take-more : (n : ℕ) (line : PointerLine) (lines : List PointerLine) → take (1 + n) (line ∷ lines) ≡ line ∷ take n lines
take-more n line lines =
    let one : 1 + n ≡ suc n = omega arith in
    ap (λ (k : ℕ). take k (line ∷ lines)) one

drop-more : (n : ℕ) (line : PointerLine) (lines : List PointerLine) → drop (1 + n) (line ∷ lines) ≡ drop n lines
drop-more n line lines =
    let one : 1 + n ≡ suc n = omega arith in
    ap (λ (k : ℕ). drop k (line ∷ lines)) one

due-more : (time : ℕ) (line : PointerLine) (lines : List PointerLine) → is_due time line ≡ true → due_at time (line ∷ lines) ≡ line ∷ due_at time lines
due-more time line lines due =
    let n = prefix_len (is_due time) lines in
    ap (λ (b : Bool). take (if b then 1 + n else 0) (line ∷ lines)) due ∙ take-more n line lines

pub left-more : (time : ℕ) (line : PointerLine) (lines : List PointerLine) → is_due time line ≡ true → left_at time (line ∷ lines) ≡ left_at time lines
left-more time line lines due =
    let n = prefix_len (is_due time) lines in
    ap (λ (b : Bool). drop (if b then 1 + n else 0) (line ∷ lines)) due ∙ drop-more n line lines

pub left-none : (time : ℕ) (lines : List PointerLine) → due_at time lines ≡ [] → left_at time lines ≡ lines
left-none time lines none =
    let n = prefix_len (is_due time) lines in
    sym (ap (λ (front : List PointerLine). front ++ drop n lines) none) ∙ take-append-drop n lines

-- ---- what lines ask

asked-then : (first next : List PointerLine) → asked_of (first ++ next) ≡ asked_of first ++ asked_of next
asked-then [] next = refl
asked-then (Motion time x y ∷ first) next = ap (λ (acts : List Act). act.Motion time x y ∷ acts) (asked-then first next)
asked-then (Button time code pressed ∷ first) next = ap (λ (acts : List Act). act.Button time code pressed ∷ acts) (asked-then first next)
asked-then (Skip ∷ first) next = asked-then first next
asked-then (Bad ∷ first) next = asked-then first next

-- ---- line after line

-- of the lines that are due at this time those before these were taken
abbrev pub PointedTo : ℕ → List PointerLine → List PointerLine → Stretch
PointedTo time from left start acts events end =
    (lines : List PointerLine) × (due_at time from ≡ lines ++ due_at time left) × Points lines start acts events end

pub pointed-none : {Writer : Type 0} {contents : Writer → Option (List ℕ)} (time : ℕ) (lines : List PointerLine) (v : RecordedView Writer) → Takes contents (PointedTo time lines lines) v v
pointed-none time lines v = Takes-none (PointedTo time lines lines) v v refl (λ d agrees. ([], refl, refl))

pub pointed-more : {Writer : Type 0} {contents : Writer → Option (List ℕ)} (time : ℕ) (from mid to : List PointerLine) (line : PointerLine) (old between new : RecordedView Writer) → mid ≡ line ∷ to → is_due time line ≡ true
    → Takes contents (PointedTo time from mid) old between → Takes contents (Points (line ∷ [])) between new → Takes contents (PointedTo time from to) old new
pointed-more time from mid to line old between new is due first next =
    Takes-then (PointedTo time from mid) (Points (line ∷ [])) (PointedTo time from to) old between new first next
    (λ start d e a b es fs ad ae leads goes p q. (
      p.0 ++ line ∷ [],
      p.1 ∙ (ap (λ (lines : List PointerLine). p.0 ++ due_at time lines) is ∙ (ap (λ (lines : List PointerLine). p.0 ++ lines) (due-more time line to due)
          ∙ sym (append_assoc p.0 (line ∷ []) (due_at time to)))),
      ap (λ (front : List Act). front ++ b) p.2 ∙ (ap (λ (back : List Act). asked_of p.0 ++ back) q ∙ sym (asked-then p.0 (line ∷ []))),
    ))

pub pointed-all : {Writer : Type 0} {contents : Writer → Option (List ℕ)} (time : ℕ) (from to : List PointerLine) (old new : RecordedView Writer) → due_at time to ≡ [] → Takes contents (PointedTo time from to) old new → Takes contents (Points (due_at time from)) old new
pointed-all time from to old new none takes =
    Takes-weaker (PointedTo time from to) (Points (due_at time from)) old new takes
    (λ d e a es ad ae runs p.
    let all : due_at time from ≡ p.0 = p.1 ∙ (ap (λ (lines : List PointerLine). p.0 ++ lines) none ∙ append-nil p.0) in
    p.2 ∙ ap asked_of (sym all))

-- ---- one line

-- a motion, whose coordinates are those that were kept
pub motion-noted : {Writer : Type 0} (contents : Writer → Option (List ℕ)) (time : ℕ) (x y kept_x kept_y : ℤ) → kept_x ≡ x → kept_y ≡ y → (old new : RecordedView Writer)
    → TakesNoted contents (act.Motion time kept_x kept_y) gave.Motion old new → TakesNoted contents (act.Motion time x y) gave.Motion old new
motion-noted contents time x y kept_x kept_y is_x is_y old new takes =
    subst (λ (u : ℤ). TakesNoted contents (act.Motion time u y) gave.Motion old new) is_x
    (subst (λ (v : ℤ). TakesNoted contents (act.Motion time kept_x v) gave.Motion old new) is_y takes)

pub point-motion : {Writer : Type 0} {contents : Writer → Option (List ℕ)} (line : PointerLine) (time : ℕ) (x y : ℤ) (old new : RecordedView Writer) → line ≡ Motion time x y → TakesNoted contents (act.Motion time x y) gave.Motion old new
    → Takes contents (Points (line ∷ [])) old new
point-motion line time x y old new is course =
    Takes-one (Points (line ∷ [])) (act.Motion time x y) gave.Motion old new course
    (λ d e events agrees parts. ap (λ (l : PointerLine). asked_of (l ∷ [])) (sym is))

pub point-button : {Writer : Type 0} {contents : Writer → Option (List ℕ)} (line : PointerLine) (time code : ℕ) (pressed : Bool) (old new : RecordedView Writer) → line ≡ Button time code pressed
    → TakesNoted contents (act.Button time code pressed) gave.Button old new → Takes contents (Points (line ∷ [])) old new
point-button line time code pressed old new is course =
    Takes-one (Points (line ∷ [])) (act.Button time code pressed) gave.Button old new course
    (λ d e events agrees parts. ap (λ (l : PointerLine). asked_of (l ∷ [])) (sym is))
