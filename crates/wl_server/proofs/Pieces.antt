-- Pieces that are put into a store, and stores one after another.
use Rattle.std.proofs.Common.{◌≡◌, ◌<◌, ◌+◌, ◌⊎◌, ℕ, Bool, true, false, List, [], ◌∷◌, ◌++◌, length, Option, Some, None, refl, ap, sym, subst, inl, inr, ◌∙◌, arith, append-nil, add-zero, get_or}
use Rattle.wl_server.specs.Faults.{Rose}
use Rattle.spec_desktop.specs.Act.{Act, Store, peer_at, store_size_of}
use Rattle.wl_session.specs.NextStore.{next_store_of}
use Rattle.spec_desktop.specs.Desktop.{Desktop}
use Rattle.spec_desktop.specs.declared.answers.Done.{Done}
use Rattle.wl_recording.specs.Side.{Files}
use Rattle.wl_session.specs.Agreeing.{Agrees}
use Rattle.wl_session.specs.Course.{moment}
use Rattle.wl_session.specs.Events.{Event, Moment}
use Rattle.wl_session.specs.View.{SessionView}
use Rattle.wl_server.specs.Acting.{InTurn, Stretch, Takes}
use Rattle.wl_server.specs.Recorded.{RecordedView}
use Rattle.wl_server.specs.Seats.{seat_of}
use Rattle.wl_server.specs.declared.seat.Seat.{Seat}
use Rattle.wl_server.specs.Filling.{Gave, IsPiece, Opens, PutsFile, PutsOnce, PutsPart, puts_from, side_name, total}
use Rattle.wl_server.specs.Phases.{Fills, FillsAs, FillsClient, FillsIf, FillsSeat, FillsStores, FillsUpTo, Puts, PutsSized}
use Rattle.wl_server.specs.Ranges.{list_name}
use Rattle.wl_server.proofs.Taking.{TakesNoted, Takes-none, Takes-one, Takes-then, Takes-turn, Takes-weaker, idle}
use Rattle.wl_server.proofs.Places.{same-place}

-- ---- pieces of a file

total-more : (pieces : List (List ℕ)) (piece : List ℕ) → total (pieces ++ piece ∷ []) ≡ total pieces + length piece
total-more [] piece = omega arith
total-more (p ∷ pieces) piece = omega (arith, total-more pieces piece)

puts-append : (c store at : ℕ) (pieces : List (List ℕ)) (piece : List ℕ)
    → puts_from c store at (pieces ++ piece ∷ []) ≡ puts_from c store at pieces ++ Store c store (at + total pieces) piece ∷ []
puts-append c store at [] piece = ap (λ (n : ℕ). Store c store n piece ∷ []) (sym (add-zero at))
puts-append c store at (p ∷ pieces) piece =
    let place : (at + length p) + total pieces ≡ at + (length p + total pieces) = omega arith in
    ap (λ (acts : List Act). Store c store at p ∷ acts)
    (puts-append c store (at + length p) pieces piece ∙ ap (λ (n : ℕ). puts_from c store (at + length p) pieces ++ Store c store n piece ∷ []) place)

-- so many bytes of the open file were put into the store from this byte on
abbrev pub PutTo : {S : Type 0} → Files S → ℕ → ℕ → ℕ → ℕ → S → S → Stretch
PutTo files c store at count from to start acts events end =
    (pieces : List (List ℕ)) × Gave files from pieces to × (acts ≡ puts_from c store at pieces) × (total pieces ≡ count)

pub put-none : {S : Type 0} {Writer : Type 0} {contents : Writer → Option (List ℕ)} (files : Files S) (c store at : ℕ) (from : S) (v : RecordedView Writer) → Takes contents (PutTo files c store at 0 from from) v v
put-none files c store at from v = Takes-none (PutTo files c store at 0 from from) v v refl (λ d agrees. ([], Gave.none, refl, refl))

pub put-one : {S : Type 0} {Writer : Type 0} {contents : Writer → Option (List ℕ)} (files : Files S) (c store at count : ℕ) (piece : List ℕ) (done : Done) (from to : S) (old new : RecordedView Writer) → length piece ≡ count → IsPiece piece
    → files.gives from piece to → TakesNoted contents (Store c store at piece) done old new → Takes contents (PutsOnce files c store at count from to) old new
put-one files c store at count piece done from to old new long is gives course =
    Takes-one (PutsOnce files c store at count from to) (Store c store at piece) done old new course (λ d e es agrees parts. inr (piece, long, is, gives, refl))

pub put-end : {S : Type 0} {Writer : Type 0} {contents : Writer → Option (List ℕ)} (files : Files S) (c store at : ℕ) (from to : S) (v : RecordedView Writer) → (files.gives from [] to ⊎ Rose (files.faults from) (files.faults to))
    → Takes contents (PutsOnce files c store at 0 from to) v v
put-end files c store at from to v ends = Takes-none (PutsOnce files c store at 0 from to) v v refl (λ d agrees. inl (refl, refl, ends))

put-piece : {S : Type 0} (files : Files S) (c store at before count : ℕ) (from mid to : S) (start moment end : Moment) (a b : List Act) (es fs gs : List Event) → 0 < count
    → PutTo files c store at before from mid start a es moment → PutsOnce files c store (at + before) count mid to moment b fs end
    → PutTo files c store at (before + count) from to start (a ++ b) gs end
put-piece files c store at before count from mid to start moment end a b es fs gs some put (inl none) = absurd (omega (arith, some, none.0))
put-piece files c store at before count from mid to start moment end a b es fs gs some put (inr one) =
    let pieces = put.0 ++ one.0 ∷ [] in
    let here : Store c store (at + total put.0) one.0 ∷ [] ≡ b = ap (λ (n : ℕ). Store c store (at + n) one.0 ∷ []) put.3 ∙ sym one.4 in
    let acts : a ++ b ≡ puts_from c store at pieces =
    ap (λ (front : List Act). front ++ b) put.2 ∙ ap (λ (back : List Act). puts_from c store at put.0 ++ back) (sym here) ∙ sym (puts-append c store at put.0 one.0) in
    (pieces, Gave.more one.0 put.1 one.2 one.3, acts, total-more put.0 one.0 ∙ omega (arith, put.3, one.1))

pub put-more : {S : Type 0} {Writer : Type 0} {contents : Writer → Option (List ℕ)} (files : Files S) (c store at before count : ℕ) (from mid to : S) (old between new : RecordedView Writer) → 0 < count
    → Takes contents (PutTo files c store at before from mid) old between → Takes contents (PutsOnce files c store (at + before) count mid to) between new
    → Takes contents (PutTo files c store at (before + count) from to) old new
put-more files c store at before count from mid to old between new some put once =
    Takes-then (PutTo files c store at before from mid) (PutsOnce files c store (at + before) count mid to) (PutTo files c store at (before + count) from to) old between new put once
    (λ start d e a b es fs ad ae leads goes p q.
    put-piece files c store at before count from mid to start (moment d between.session) (moment e new.session) a b es fs (es ++ fs) some p q)

put-stopped : {S : Type 0} (files : Files S) (c store at most before : ℕ) (from mid to : S) (start moment end : Moment) (a b : List Act) (es fs gs : List Event) → before < most
    → PutTo files c store at before from mid start a es moment → PutsOnce files c store (at + before) 0 mid to moment b fs end
    → PutsFile files c store at most from to start (a ++ b) gs end
put-stopped files c store at most before from mid to start moment end a b es fs gs few put (inr one) = absurd (omega (arith, one.1, one.2.0))
put-stopped files c store at most before from mid to start moment end a b es fs gs few put (inl none) = record {
  pieces = put.0;
  mid = mid;
  gave = put.1;
  within = omega (arith, few, put.3);
  ends = inr (omega (arith, few, put.3), none.2);
  acts_are = ap (λ (back : List Act). a ++ back) none.1 ∙ append-nil a ∙ put.2;
}

pub put-last : {S : Type 0} {Writer : Type 0} {contents : Writer → Option (List ℕ)} (files : Files S) (c store at most before : ℕ) (from mid to : S) (old between new : RecordedView Writer) → before < most
    → Takes contents (PutTo files c store at before from mid) old between → Takes contents (PutsOnce files c store (at + before) 0 mid to) between new
    → Takes contents (PutsFile files c store at most from to) old new
put-last files c store at most before from mid to old between new few put once =
    Takes-then (PutTo files c store at before from mid) (PutsOnce files c store (at + before) 0 mid to) (PutsFile files c store at most from to) old between new put once
    (λ start d e a b es fs ad ae leads goes p q.
    put-stopped files c store at most before from mid to start (moment d between.session) (moment e new.session) a b es fs (es ++ fs) few p q)

pub put-all : {S : Type 0} {Writer : Type 0} {contents : Writer → Option (List ℕ)} (files : Files S) (c store at most count : ℕ) (from to : S) (old new : RecordedView Writer) → count ≡ most → Takes contents (PutTo files c store at count from to) old new
    → Takes contents (PutsFile files c store at most from to) old new
put-all files c store at most count from to old new full put =
    Takes-weaker (PutTo files c store at count from to) (PutsFile files c store at most from to) old new put
    (λ d e a es ad ae runs p. record {
      pieces = p.0;
      mid = to;
      gave = p.1;
      within = omega (arith, full, p.3);
      ends = inl (p.3 ∙ full, refl);
      acts_are = p.2;
    })

-- ---- a part of a file

pub part-unopened : {S : Type 0} {Writer : Type 0} {contents : Writer → Option (List ℕ)} (files : Files S) (c number store first at most : ℕ) (from to : S) (v : RecordedView Writer)
    → Opens files (side_name number store) first false from to → Takes contents (PutsPart files c number store first at most from to) v v
part-unopened files c number store first at most from to v opens =
    Takes-none (PutsPart files c number store first at most from to) v v refl (λ d agrees. (false, to, opens, idle to (moment d v.session)))

pub part-opened : {S : Type 0} {Writer : Type 0} {contents : Writer → Option (List ℕ)} (files : Files S) (c number store first at most : ℕ) (from opened to : S) (old new : RecordedView Writer)
    → Opens files (side_name number store) first true from opened → Takes contents (PutsFile files c store at most opened to) old new
    → Takes contents (PutsPart files c number store first at most from to) old new
part-opened files c number store first at most from opened to old new opens takes =
    Takes-weaker (PutsFile files c store at most opened to) (PutsPart files c number store first at most from to) old new takes
    (λ d e a es ad ae runs p. (true, opened, opens, p))

-- ---- a store

abbrev pub HasSize : ℕ → ℕ → Option ℕ → SessionView → Type 0
HasSize c store size v = (d : Desktop) → Agrees v.desk d → size ≡ store_size_of store (peer_at c d)

pub put-sized : {S : Type 0} {Writer : Type 0} {contents : Writer → Option (List ℕ)} (files : Files S) (c number store : ℕ) (size : Option ℕ) (from to : S) (old new : RecordedView Writer) → HasSize c store size old.session
    → Takes contents (PutsSized files c number store size from to) old new → Takes contents (Puts files c number store from to) old new
put-sized files c number store size from to old new sized takes =
    Takes-weaker (PutsSized files c number store size from to) (Puts files c number store from to) old new takes
    (λ d e a es ad ae runs p. subst (λ (s : Option ℕ). PutsSized files c number store s from to (moment d old.session) a es (moment e new.session)) (sized d ad) p)

pub put-nowhere : {S : Type 0} {Writer : Type 0} {contents : Writer → Option (List ℕ)} (files : Files S) (c number store : ℕ) (from : S) (v : RecordedView Writer) → HasSize c store None v.session → Takes contents (Puts files c number store from from) v v
put-nowhere files c number store from v sized =
    put-sized files c number store None from from v v sized
    (Takes-none (PutsSized files c number store None from from) v v refl (λ d agrees. idle from (moment d v.session)))

pub put-whole : {S : Type 0} {Writer : Type 0} {contents : Writer → Option (List ℕ)} (files : Files S) (c number store size : ℕ) (from to : S) (old new : RecordedView Writer) → HasSize c store (Some size) old.session
    → Takes contents (PutsPart files c number store 0 0 size from to) old new → Takes contents (Puts files c number store from to) old new
put-whole files c number store size from to old new sized takes = put-sized files c number store (Some size) from to old new sized takes

-- ---- store after store

abbrev pub IsNext : ℕ → ℕ → Option ℕ → SessionView → Type 0
IsNext c before next v = (d : Desktop) → Agrees v.desk d → next ≡ next_store_of before (peer_at c d)

abbrev pub FilledTo : {S : Type 0} → Files S → ℕ → ℕ → ℕ → S → S → Stretch
FilledTo files c number last from to start acts events end = FillsUpTo files c number from start last to acts events end

pub filled-none : {S : Type 0} {Writer : Type 0} {contents : Writer → Option (List ℕ)} (files : Files S) (c number : ℕ) (from : S) (v : RecordedView Writer) → Takes contents (FilledTo files c number 0 from from) v v
filled-none files c number from v = Takes-none (FilledTo files c number 0 from from) v v refl (λ d agrees. FillsUpTo.none)

pub filled-more : {S : Type 0} {Writer : Type 0} {contents : Writer → Option (List ℕ)} (files : Files S) (c number before store : ℕ) (from mid to : S) (old between new : RecordedView Writer) → IsNext c before (Some store) between.session
    → Takes contents (FilledTo files c number before from mid) old between → Takes contents (Puts files c number store mid to) between new → Takes contents (FilledTo files c number store from to) old new
filled-more files c number before store from mid to old between new next filled puts =
    Takes-then (FilledTo files c number before from mid) (Puts files c number store mid to) (FilledTo files c number store from to) old between new filled puts
    (λ start d e a b es fs ad ae leads goes p q.
    FillsUpTo.more before mid to (moment d between.session) (moment e new.session) a b es fs store p (sym (next d ad)) leads goes q)

pub filled-all : {S : Type 0} {Writer : Type 0} {contents : Writer → Option (List ℕ)} (files : Files S) (c number last : ℕ) (from to : S) (old new : RecordedView Writer) → IsNext c last None new.session → Takes contents (FilledTo files c number last from to) old new
    → Takes contents (FillsStores files c number from to) old new
filled-all files c number last from to old new next filled =
    Takes-weaker (FilledTo files c number last from to) (FillsStores files c number from to) old new filled
    (λ d e a es ad ae runs p. (last, p, sym (next e ae)))

-- ---- those of a client, by its list or whole

pub client-filled : {S : Type 0} {Writer : Type 0} {contents : Writer → Option (List ℕ)} (files : Files S) (c number : ℕ) (is_listed : Bool) (from opened to : S) (old new : RecordedView Writer)
    → Opens files (list_name number) 0 is_listed from opened → Takes contents (FillsAs is_listed files c number opened to) old new → Takes contents (FillsClient files c number from to) old new
client-filled files c number is_listed from opened to old new opens takes =
    Takes-weaker (FillsAs is_listed files c number opened to) (FillsClient files c number from to) old new takes
    (λ d e a es ad ae runs p. (is_listed, opened, opens, p))

-- ---- those of a client that sent bytes

pub fill-none : {C S : Type 0} {Writer : Type 0} {contents : Writer → Option (List ℕ)} (files : Files S) (c : ℕ) (slot : Option (Seat C)) (from : S) (v : RecordedView Writer) → slot ≡ None → Takes contents (FillsSeat files c slot from from) v v
fill-none {C} {S} {Writer} {contents} files c slot from v is =
    subst (λ (s : Option (Seat C)). Takes contents (FillsSeat files c s from from) v v) (sym is)
    (Takes-none (FillsSeat {C = C} files c None from from) v v refl (λ d agrees. idle from (moment d v.session)))

pub fill-idle : {C S : Type 0} {Writer : Type 0} {contents : Writer → Option (List ℕ)} (files : Files S) (c : ℕ) (slot : Option (Seat C)) (seat : Seat C) (from : S) (v : RecordedView Writer) → slot ≡ Some seat → seat.has_sent ≡ false
    → Takes contents (FillsSeat files c slot from from) v v
fill-idle {C} {S} {Writer} {contents} files c slot seat from v is quiet =
    subst (λ (s : Option (Seat C)). Takes contents (FillsSeat files c s from from) v v) (sym is)
    (Takes-none (FillsSeat files c (Some seat) from from) v v refl
    (λ d agrees. subst (λ (b : Bool). FillsIf b files c seat.number from from (moment d v.session) [] [] (moment d v.session)) (sym quiet) (idle from (moment d v.session))))

pub fill-sent : {C S : Type 0} {Writer : Type 0} {contents : Writer → Option (List ℕ)} (files : Files S) (c : ℕ) (slot : Option (Seat C)) (seat : Seat C) (from to : S) (old new : RecordedView Writer) → slot ≡ Some seat → seat.has_sent ≡ true
    → Takes contents (FillsClient files c seat.number from to) old new → Takes contents (FillsSeat files c slot from to) old new
fill-sent {C} {S} {Writer} {contents} files c slot seat from to old new is sent takes =
    subst (λ (s : Option (Seat C)). Takes contents (FillsSeat files c s from to) old new) (sym is)
    (Takes-weaker (FillsClient files c seat.number from to) (FillsSeat files c (Some seat) from to) old new takes
    (λ d e a es ad ae runs p. subst (λ (b : Bool). FillsIf b files c seat.number from to (moment d old.session) a es (moment e new.session)) (sym sent) p))

pub fill-next : {C S : Type 0} {Writer : Type 0} {contents : Writer → Option (List ℕ)} (files : Files S) (seats : List (Option (Seat C))) (k : ℕ) (first from to : S) (seat : Option (Seat C)) (old mid new : RecordedView Writer) → seat ≡ get_or seats k None
    → Takes contents (InTurn (Fills files seats) k first from) old mid → Takes contents (FillsSeat files (k + 1) seat from to) mid new → Takes contents (InTurn (Fills files seats) (k + 1) first to) old new
fill-next {C} {S} {Writer} {contents} files seats k first from to seat old mid new is before own =
    let here : seat ≡ seat_of (k + 1) seats = is ∙ ap (λ (j : ℕ). get_or seats j None) (same-place k) in
    Takes-turn (Fills files seats) k first from to old mid new before
    (subst (λ (s : Option (Seat C)). Takes contents (FillsSeat files (k + 1) s from to) mid new) here own)

-- what is said of an opening is said of a value that is known
pub opens-as : {S : Type 0} (files : Files S) (name : List ℕ) (first : ℕ) (there is : Bool) (from to : S) → there ≡ is → Opens files name first there from to
    → Opens files name first is from to
opens-as files name first there is from to same opens = subst (λ (b : Bool). Opens files name first b from to) same opens

-- and of a file by the name that it has
pub opens-named : {S : Type 0} (files : Files S) (said name : List ℕ) (first : ℕ) (there is : Bool) (from to : S) → said ≡ name → there ≡ is
    → Opens files said first there from to → Opens files name first is from to
opens-named files said name first there is from to named same opens =
    subst (λ (n : List ℕ). Opens files n first is from to) named (opens-as files said first there is from to same opens)
