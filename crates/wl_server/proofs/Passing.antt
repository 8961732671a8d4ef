-- The viewer's phases are of motions and buttons alone, of which nothing is told.
use Rattle.std.proofs.Common.{◌≡◌, ℕ, Bool, true, false, List, [], ◌∷◌, None, Some, refl, subst, sym, inl, inr}
use Rattle.std.specs.List.{AllPass}
use Rattle.std.proofs.lemmas.List.Elements.{All-append, All-cons, All-nil}
use Rattle.spec_desktop.specs.Act as act
use Rattle.spec_desktop.specs.Act.{Act}
use Rattle.wl_viewer.specs.Hearing.{asks}
use Rattle.wl_viewer.specs.declared.asked.Asked.{Asked}
use Rattle.wl_viewer.specs.declared.asked.Asked.TheVariants as asked
use Rattle.wl_server.specs.Acting.{InTurn, Stretch, Then}
use Rattle.wl_server.specs.Viewed.{AttendsIf, Hears, Welcomes}
use Rattle.wl_server.specs.Watching.{Answering, Attends, Dismisses, DismissesIf, IfWatched, Link, Place, Reads, StopsTaking, TakesPiece, TellsOf, Watching, Writing, act_of, acts_of, releases}
use Rattle.wl_server.specs.Ways.{Ways}
use Rattle.wl_server.proofs.Telling.{PassesAll, both-pass, has_no_line, in-turn-pass, none-pass, one-pass}

pub then-pass : {W : Type 0} (quiet : Act → Bool) (P Q : W → W → Stretch) → ((from to : W) → PassesAll quiet (P from to)) → ((from to : W) → PassesAll quiet (Q from to))
    → (from to : W) → PassesAll quiet (Then P Q from to)
then-pass quiet P Q first next from to start end acts events both =
    both-pass quiet acts both.first both.next both.acts_are (first from both.mid start both.moment both.first both.early both.does)
    (next both.mid to both.moment end both.next both.late both.follows)

act-pass : (time : ℕ) (one : Asked) → AllPass has_no_line (act_of time one)
unfolding has_no_line
act-pass time (asked.Motion x y) = one-pass has_no_line (act.Motion time x y) refl
act-pass time (asked.Button code pressed) = one-pass has_no_line (act.Button time code pressed) refl
act-pass time (asked.Sync number) = All-nil (λ a. has_no_line a ≡ true)
act-pass time asked.Windows = All-nil (λ a. has_no_line a ≡ true)
act-pass time asked.Nothing = All-nil (λ a. has_no_line a ≡ true)
act-pass time asked.Bad = All-nil (λ a. has_no_line a ≡ true)

acts-pass : (time : ℕ) (some : List Asked) → AllPass has_no_line (acts_of time some)
acts-pass time [] = All-nil (λ a. has_no_line a ≡ true)
acts-pass time (one ∷ more) = All-append (λ a. has_no_line a ≡ true) (act_of time one) (acts_of time more) (act-pass time one) (acts-pass time more)

releases-pass : (time : ℕ) (buttons : List ℕ) → AllPass has_no_line (releases time buttons)
unfolding has_no_line
releases-pass time [] = All-nil (λ a. has_no_line a ≡ true)
releases-pass time (code ∷ more) = All-cons (λ a. has_no_line a ≡ true) (act.Button time code false) (releases time more) refl (releases-pass time more)

writing-pass : {V D : Type 0} (v : Ways V D) (from to : Link V D) → PassesAll has_no_line (Writing v from to)
writing-pass v from to start end acts events p = none-pass has_no_line acts p.0.0

piece-pass : {V D : Type 0} (v : Ways V D) (time k : ℕ) (from to : Link V D) → PassesAll has_no_line (TakesPiece v time from to)
piece-pass v time k from to start end acts events p = subst (AllPass has_no_line) (sym p.acts_are) (acts-pass time (asks from.1.viewer.heard p.piece))

stops-pass : {V D : Type 0} (v : Ways V D) (n : ℕ) (from to : Link V D) → PassesAll has_no_line (StopsTaking v n from to)
stops-pass v n from to start end acts events (inl all) = none-pass has_no_line acts all.1.acts_are
stops-pass v n from to start end acts events (inr none) = none-pass has_no_line acts none.1.0

reads-pass : {V D : Type 0} (v : Ways V D) (time : ℕ) (from to : Link V D) → PassesAll has_no_line (Reads v time from to)
reads-pass v time from to start end acts events p =
    then-pass has_no_line (InTurn (λ k. TakesPiece v time) p.0) (StopsTaking v p.0) (in-turn-pass has_no_line (λ k. TakesPiece v time) (piece-pass v time) p.0) (stops-pass v p.0) from to start
    end acts events p.2

watched-pass : {V D : Type 0} (P : Link V D → Link V D → Stretch) → ((from to : Link V D) → PassesAll has_no_line (P from to))
    → (from to : Place V D) → PassesAll has_no_line (IfWatched P from to)
watched-pass P each (hub, None) to start end acts events none = none-pass has_no_line acts none.acts_are
watched-pass P each (hub, Some watching) to start end acts events some = each (hub, watching) (to.0, some.0) start end acts events some.1

dismissed-pass : {V D : Type 0} (b : Bool) (v : Ways V D) (time : ℕ) (hub : V) (watching : Watching D) (to : Place V D) → PassesAll has_no_line (DismissesIf b v time hub watching to)
dismissed-pass true v time hub watching to start end acts events p = subst (AllPass has_no_line) (sym p.0) (releases-pass time watching.viewer.heard.held)
dismissed-pass false v time hub watching to start end acts events p = none-pass has_no_line acts p.acts_are

dismisses-pass : {V D : Type 0} (v : Ways V D) (time : ℕ) (from to : Place V D) → PassesAll has_no_line (Dismisses v time from to)
dismisses-pass v time (hub, None) to start end acts events none = none-pass has_no_line acts none.acts_are
dismisses-pass v time (hub, Some watching) to start end acts events p = dismissed-pass _ v time hub watching to start end acts events p

attends-pass : {V D : Type 0} (v : Ways V D) (time : ℕ) (from to : Place V D) → PassesAll has_no_line (Attends v time from to)
attends-pass v time =
    then-pass has_no_line (IfWatched (Then (Writing v) (Reads v time))) (Dismisses v time)
    (watched-pass (Then (Writing v) (Reads v time)) (then-pass has_no_line (Writing v) (Reads v time) (writing-pass v) (reads-pass v time))) (dismisses-pass v time)

attends-if-pass : {V D : Type 0} (b : Bool) (v : Ways V D) (time : ℕ) (from to : Place V D) → PassesAll has_no_line (AttendsIf b v time from to)
attends-if-pass true v time from to start end acts events p = attends-pass v time from to start end acts events p
attends-if-pass false v time from to start end acts events p = none-pass has_no_line acts p.acts_are

welcomes-pass : {V D : Type 0} (v : Ways V D) (width height : ℕ) (is_new : Bool) (from to : Place V D) → PassesAll has_no_line (Welcomes v width height is_new from to)
welcomes-pass v width height is_new from to start end acts events p = none-pass has_no_line acts p.0.0

pub hears-pass : {V D : Type 0} (v : Ways V D) (time width height : ℕ) (is_new : Bool) (from to : Place V D) → PassesAll has_no_line (Hears v time width height is_new from to)
hears-pass v time width height is_new =
    then-pass has_no_line (Attends v time) (Then (Welcomes v width height is_new) (AttendsIf is_new v time)) (attends-pass v time)
    (then-pass has_no_line (Welcomes v width height is_new) (AttendsIf is_new v time) (welcomes-pass v width height is_new) (attends-if-pass is_new v time))

answering-pass : {V D : Type 0} (time : ℕ) (from to : Link V D) → PassesAll has_no_line (Answering time from to)
answering-pass time from to start end acts events p = none-pass has_no_line acts p.0.0

pub tells-pass : {V D : Type 0} (v : Ways V D) (time : ℕ) (from to : Place V D) → PassesAll has_no_line (TellsOf v time from to)
tells-pass v time =
    then-pass has_no_line (IfWatched (Then (Answering time) (Writing v))) (Dismisses v time)
    (watched-pass (Then (Answering time) (Writing v)) (then-pass has_no_line (Answering time) (Writing v) (answering-pass time) (writing-pass v))) (dismisses-pass v time)
