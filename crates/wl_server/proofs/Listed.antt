-- A list of ranges that is read, and ranges that are put into stores one after another.
use Rattle.std.proofs.Common.{◌≡◌, ◌<◌, ◌-◌, ◌⊎◌, ℕ, suc, List, [], ◌∷◌, ◌++◌, length, take, drop, Option, Some, None, refl, ap, sym, subst, inl, inr, ◌∙◌, arith, append-nil, append_assoc}
use Rattle.std.specs.Prelude.{min}
use Rattle.std.specs.List.{concat}
use Rattle.wl_recording.specs.Ranges.{first_range, ranges_in, ranges_of}
use Rattle.wl_recording.specs.Side.{Files}
use Rattle.wl_recording.specs.declared.range.StoreRange.{StoreRange}
use Rattle.wl_recording.proofs.Ranged.{ranges-end, ranges-next}
use Rattle.wl_session.specs.Course.{moment}
use Rattle.wl_server.specs.Acting.{Takes}
use Rattle.wl_server.specs.Recorded.{RecordedView}
use Rattle.wl_server.specs.Faults.{Rose}
use Rattle.wl_server.specs.Filling.{Gave, IsPiece, PutsPart}
use Rattle.wl_server.specs.Ranges.{FillsListed, GivesOnce, GivesText, PutsRange, PutsRangeIn, PutsRanges}
use Rattle.wl_server.proofs.Pieces.{HasSize}
use Rattle.wl_server.proofs.Taking.{Takes-both, Takes-none, Takes-weaker, idle}

-- ---- the text of a list

concat-more : (pieces : List (List ℕ)) (piece : List ℕ) → concat (pieces ++ piece ∷ []) ≡ concat pieces ++ piece
concat-more [] piece = append-nil piece
concat-more (p ∷ pieces) piece = ap (λ (more : List ℕ). p ++ more) (concat-more pieces piece) ∙ sym (append_assoc p (concat pieces) piece)

-- reads of the open file gave this text so far
abbrev pub GivenTo : {S : Type 0} → Files S → List ℕ → S → S → Type 0
GivenTo files text from to = (pieces : List (List ℕ)) × Gave files from pieces to × (text ≡ concat pieces)

pub given-none : {S : Type 0} (files : Files S) (text : List ℕ) (from : S) → text ≡ [] → GivenTo files text from from
given-none files text from empty = ([], Gave.none, empty)

pub given-more : {S : Type 0} (files : Files S) (text piece next : List ℕ) (from mid to : S) → GivenTo files text from mid → IsPiece piece → files.gives mid piece to
    → next ≡ text ++ piece → GivenTo files next from to
given-more files text piece next from mid to given is gives longer =
    (given.0 ++ piece ∷ [], Gave.more piece given.1 is gives, longer ∙ (ap (λ (t : List ℕ). t ++ piece) given.2 ∙ sym (concat-more given.0 piece)))

pub given-stopped : {S : Type 0} (files : Files S) (text : List ℕ) (from mid to : S) → length text < 147456 → GivenTo files text from mid
    → (files.gives mid [] to ⊎ Rose (files.faults mid) (files.faults to)) → GivesText files text from to
given-stopped files text from mid to few given ends = record {
  pieces = given.0;
  mid = mid;
  gave = given.1;
  text_is = given.2;
  ends = inr (few, ends);
}

-- one read more gave some bytes, or none
pub given-read : {S : Type 0} (files : Files S) (text piece next : List ℕ) (count : ℕ) (from mid to : S) → GivenTo files text from mid → GivesOnce files piece mid to
    → length piece ≡ count → 0 < count → next ≡ text ++ piece → GivenTo files next from to
given-read files text piece next count from mid to given (inl none) long some longer =
    let empty : length piece ≡ 0 = ap length none.0 in
    absurd (omega (arith, empty, long, some))
given-read files text piece next count from mid to given (inr one) long some longer = given-more files text piece next from mid to given one.0 one.1 longer

pub given-ended : {S : Type 0} (files : Files S) (text piece next : List ℕ) (count : ℕ) (from mid to : S) → length text < 147456 → GivenTo files text from mid
    → GivesOnce files piece mid to → length piece ≡ count → count ≡ 0 → next ≡ text ++ piece → GivesText files next from to
given-ended files text piece next count from mid to few given (inl none) long zero longer =
    let same : next ≡ text = longer ∙ (ap (λ (p : List ℕ). text ++ p) none.0 ∙ append-nil text) in
    subst (λ (t : List ℕ). GivesText files t from to) (sym same) (given-stopped files text from mid to few given none.1)
given-ended files text piece next count from mid to few given (inr one) long zero longer = absurd (omega (arith, one.0.0, long, zero))

pub given-full : {S : Type 0} (files : Files S) (text : List ℕ) (from to : S) → length text ≡ 147456 → GivenTo files text from to → GivesText files text from to
given-full files text from to full given = record {
  pieces = given.0;
  mid = to;
  gave = given.1;
  text_is = given.2;
  ends = inl (full, refl);
}

-- ---- a range

range-sized : {S : Type 0} {Writer : Type 0} {contents : Writer → Option (List ℕ)} (files : Files S) (c number : ℕ) (range : StoreRange) (size : Option ℕ) (from to : S) (old new : RecordedView Writer) → HasSize c range.store size old.session
    → Takes contents (PutsRangeIn files c number range size from to) old new → Takes contents (PutsRange files c number range from to) old new
range-sized files c number range size from to old new sized takes =
    Takes-weaker (PutsRangeIn files c number range size from to) (PutsRange files c number range from to) old new takes
    (λ d e a es ad ae runs p. subst (λ (s : Option ℕ). PutsRangeIn files c number range s from to (moment d old.session) a es (moment e new.session)) (sized d ad) p)

pub range-nowhere : {S : Type 0} {Writer : Type 0} {contents : Writer → Option (List ℕ)} (files : Files S) (c number : ℕ) (range : StoreRange) (from : S) (v : RecordedView Writer) → HasSize c range.store None v.session
    → Takes contents (PutsRange files c number range from from) v v
range-nowhere files c number range from v sized =
    range-sized files c number range None from from v v sized
    (Takes-none (PutsRangeIn files c number range None from from) v v refl (λ d agrees. idle from (moment d v.session)))

pub range-put : {S : Type 0} {Writer : Type 0} {contents : Writer → Option (List ℕ)} (files : Files S) (c number : ℕ) (range : StoreRange) (size most : ℕ) (from to : S) (old new : RecordedView Writer) → HasSize c range.store (Some size) old.session
    → most ≡ min range.len (size - range.at) → Takes contents (PutsPart files c number range.store range.from range.at most from to) old new
    → Takes contents (PutsRange files c number range from to) old new
range-put {S} {Writer} {contents} files c number range size most from to old new sized cut takes =
    range-sized files c number range (Some size) from to old new sized
    (subst (λ (n : ℕ). Takes contents (PutsPart files c number range.store range.from range.at n from to) old new) cut takes)

-- ---- range after range

-- What is said of these ranges, put from here on, is said of all.
abbrev pub PutsRest : {S : Type 0} → {Writer : Type 0} → (Writer → Option (List ℕ)) → Files S → ℕ → ℕ → List StoreRange → List StoreRange → S → S → RecordedView Writer → RecordedView Writer → Type 0
PutsRest {S} {Writer} contents files c number all rest from here old mid =
    (to : S) (new : RecordedView Writer) → Takes contents (PutsRanges files c number rest here to) mid new → Takes contents (PutsRanges files c number all from to) old new

pub rest-all : {S : Type 0} {Writer : Type 0} {contents : Writer → Option (List ℕ)} (files : Files S) (c number : ℕ) (ranges : List StoreRange) (from : S) (v : RecordedView Writer) → PutsRest contents files c number ranges ranges from from v v
rest-all files c number ranges from v = λ to new takes. takes

pub rest-next : {S : Type 0} {Writer : Type 0} {contents : Writer → Option (List ℕ)} (files : Files S) (c number m n : ℕ) (all : List StoreRange) (before : Option StoreRange) (range : StoreRange) (lines next : List (List ℕ)) (from here there : S)
    (old mid after : RecordedView Writer) → m ≡ suc n → Some range ≡ first_range before lines → next ≡ drop 1 lines → PutsRest contents files c number all (ranges_in before (take m lines)) from here old mid
    → Takes contents (PutsRange files c number range here there) mid after → PutsRest contents files c number all (ranges_in (Some range) (take n next)) from there old after
rest-next {S} {Writer} {contents} files c number m n all before range lines next from here there old mid after less first shorter rest puts = λ to new takes.
    let more = ranges_in (Some range) (take n next) in
    let same : ranges_in before (take m lines) ≡ range ∷ more =
    ap (λ (k : ℕ). ranges_in before (take k lines)) less ∙ ranges-next before n lines range (sym first) ∙ ap (λ (ls : List (List ℕ)). range ∷ ranges_in (Some range) (take n ls)) (sym shorter) in
    rest to new (subst (λ (rs : List StoreRange). Takes contents (PutsRanges files c number rs here to) mid new) (sym same)
    (Takes-both (PutsRange files c number range) (PutsRanges files c number more) here there to mid after new puts takes))

rest-none : {S : Type 0} {Writer : Type 0} {contents : Writer → Option (List ℕ)} (files : Files S) (c number : ℕ) (all rest : List StoreRange) (from here : S) (old mid : RecordedView Writer) → rest ≡ []
    → PutsRest contents files c number all rest from here old mid → Takes contents (PutsRanges files c number all from here) old mid
rest-none {S} {Writer} {contents} files c number all rest from here old mid none rests =
    rests here mid (subst (λ (rs : List StoreRange). Takes contents (PutsRanges files c number rs here here) mid mid) (sym none)
    (Takes-none (PutsRanges files c number [] here here) mid mid refl (λ d agrees. idle here (moment d mid.session))))

pub rest-end : {S : Type 0} {Writer : Type 0} {contents : Writer → Option (List ℕ)} (files : Files S) (c number n : ℕ) (all : List StoreRange) (before : Option StoreRange) (lines : List (List ℕ)) (from here : S) (old mid : RecordedView Writer)
    → None ≡ first_range before lines → PutsRest contents files c number all (ranges_in before (take n lines)) from here old mid → Takes contents (PutsRanges files c number all from here) old mid
rest-end files c number n all before lines from here old mid first rest =
    rest-none files c number all (ranges_in before (take n lines)) from here old mid (ranges-end before n lines (sym first)) rest

-- no line is left
pub rest-over : {S : Type 0} {Writer : Type 0} {contents : Writer → Option (List ℕ)} (files : Files S) (c number n : ℕ) (all : List StoreRange) (before : Option StoreRange) (lines : List (List ℕ)) (from here : S) (old mid : RecordedView Writer)
    → n ≡ 0 → PutsRest contents files c number all (ranges_in before (take n lines)) from here old mid → Takes contents (PutsRanges files c number all from here) old mid
rest-over files c number n all before lines from here old mid over rest =
    rest-none files c number all (ranges_in before (take n lines)) from here old mid (ap (λ (k : ℕ). ranges_in before (take k lines)) over) rest

-- ---- those of a list

pub listed : {S : Type 0} {Writer : Type 0} {contents : Writer → Option (List ℕ)} (files : Files S) (c number : ℕ) (text said : List ℕ) (from read to : S) (old new : RecordedView Writer) → GivesText files text from read → said ≡ text
    → Takes contents (PutsRanges files c number (ranges_of said) read to) old new → Takes contents (FillsListed files c number from to) old new
listed {S} {Writer} {contents} files c number text said from read to old new gives same takes =
    Takes-weaker (PutsRanges files c number (ranges_of text) read to) (FillsListed files c number from to) old new
    (subst (λ (t : List ℕ). Takes contents (PutsRanges files c number (ranges_of t) read to) old new) same takes)
    (λ d e a es ad ae runs p. (text, read, gives, p))
