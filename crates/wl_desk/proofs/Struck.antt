-- Those end that a step's own change struck, one after another.
use Rattle.std.proofs.Common.{◌≡◌, ℕ, zero, suc, ◌+◌, ◌<◌, ◌≤◌, List, [], ◌∷◌, ◌++◌, Option, Some, None, refl, ap, subst, sym, ◌∙◌, length, arith, append_assoc, inl, inr}
use Rattle.std.specs.Prelude.{◌⊎◌}
use Rattle.std.proofs.lemmas.List.{append-nil}
use Rattle.wl_client.specs.View.{ClientView}
use Rattle.wl_scene.specs.Marking.{IsAsLarge}
use Rattle.spec_desktop.specs.declared.cause.Cause.{Cause}
use Rattle.spec_desktop.specs.Desktop.{Desktop}
use Rattle.spec_desktop.specs.Settling.{Midstep, Strike, ended_all, ended_by, unstruck}
use Rattle.spec_desktop.specs.Through.{ends_through}
use Rattle.law_desktop.specs.Pointed.Marking.{last_of}
use Rattle.wl_clients.specs.Marking.{MarksThrough}
use Rattle.wl_clients.specs.Midway.{first_struck, strike_for, strikes_from}
use Rattle.wl_clients.proofs.Strikes.{of-refused, refused_in}
use Rattle.wl_desk.specs.Midway.{IsAmid, IsMidway, IsTelling}
use Rattle.wl_desk.specs.View.{DeskView, MarkedDesk}
use Rattle.wl_desk.specs.Ways.{AreEnded, EndsAllFrom}
use Rattle.wl_desk.proofs.Ended.{first-of, none-first}
use Rattle.wl_desk.proofs.Onward.{last-at, marks-then}
use Rattle.wl_desk.proofs.Rests.{IsLeft, left-all}
use Rattle.wl_desk.proofs.Rounds.{marks-none}

-- ---- there are as few as there are clients

none-few : (n : ℕ) → 0 ≤ n
none-few n = omega arith

few-still : (a b : ℕ) → a ≤ b → a ≤ suc b
few-still a b less = omega (arith, less)

one-more : (a b : ℕ) → a ≤ b → suc a ≤ suc b
one-more a b less = omega (arith, less)

strikes-few : (start : ℕ) (vs : List (Option ClientView)) → length (strikes_from start vs) ≤ length vs
strikes-few start [] = none-few 0
strikes-few start (v ∷ vs) =
    subst (λ (ts : List Strike). length (ts ++ strikes_from (suc start) vs) ≤ suc (length vs)) (sym (of-refused start v)) (by (refused_in v) (strikes-few (suc start) vs))
  where
    by : (o : Option Cause) → length (strikes_from (suc start) vs) ≤ length vs → length (strike_for start o ++ strikes_from (suc start) vs) ≤ suc (length vs)
    by None less = few-still (length (strikes_from (suc start) vs)) (length vs) less
    by (Some cause) less = one-more (length (strikes_from (suc start) vs)) (length vs) less

struck-few : (v : DeskView) (m : Midstep) → IsMidway v m → length v.kept.clients ≡ 32 → length m.struck ≤ 32
struck-few v m midway count =
    let few = strikes-few 1 v.kept.clients in
    let same : length (strikes_from 1 v.kept.clients) ≡ length m.struck = ap (λ (ss : List Strike). length ss) midway.telling.kept.struck in
    omega (arith, few, same, count)

-- ---- the loop

-- So many ended; these are left.
pub record AreEnding (k : ℕ) (old now : MarkedDesk) (m : Midstep) : Type 0 where
  pub mid : Midstep
  pub before : List Desktop
  pub amid : IsAmid now mid
  pub last : last_of m.desktop before ≡ mid.desktop
  pub all : ended_all mid.struck mid.desktop ≡ ended_all m.struck m.desktop
  pub through : before ++ ends_through mid.struck mid.desktop ≡ ends_through m.struck m.desktop
  pub marks : MarksThrough m.desktop before old.damage now.damage
  pub many : k + length mid.struck ≡ length m.struck
  pub few : (k ≡ 0) ⊎ (length m.struck ≤ 32)

-- So it is whatever the middle of the step.
pub record AreOver (k : ℕ) (old now : MarkedDesk) : Type 0 where
  pub done : (m : Midstep) → IsAmid old m → AreEnding k old now m
  pub sides : IsAsLarge old.damage now.damage
  pub rests : IsLeft old.desk.kept now.desk.kept
  pub output : now.desk.kept.output ≡ old.desk.kept.output

plus-none : (n : ℕ) → 0 + n ≡ n
plus-none n = omega arith

pub none-over : (old : MarkedDesk) → AreOver 0 old old
none-over old = record {
  done = λ m amid.
      record { mid = m; before = []; amid = amid; last = refl; all = refl; through = refl; marks = marks-none m.desktop old.damage; many = plus-none (length m.struck); few = inl refl };
  sides = record { width = refl; height = refl };
  rests = left-all old.desk.kept;
  output = refl;
}

module _ (k : ℕ) (old now : MarkedDesk) (over : AreOver k old now) where
  -- nobody is to end any more
  pub over-last : ((m : Midstep) → IsTelling now.desk m → None ≡ first_struck m.struck) → EndsAllFrom old now
  over-last none m amid =
      let e = over.done m amid in
      let free : e.mid.struck ≡ [] = none-first e.mid.struck (none e.mid e.amid.midway.telling) in
      let left : ended_all e.mid.struck e.mid.desktop ≡ e.mid.desktop = ap (λ (ss : List Strike). ended_all ss e.mid.desktop) free in
      let same : e.mid ≡ unstruck (ended_all m.struck m.desktop) =
      ap (λ (ss : List Strike). record { desktop = e.mid.desktop; struck = ss }) free ∙ ap (λ (d : Desktop). unstruck d) (sym left ∙ e.all) in
      let way : e.before ≡ ends_through m.struck m.desktop =
      sym (append-nil e.before) ∙ ap (λ (ss : List Strike). e.before ++ ends_through ss e.mid.desktop) (sym free) ∙ e.through in
      record {
        amid = subst (λ (x : Midstep). IsAmid now x) same e.amid;
        marks = subst (λ (ds : List Desktop). MarksThrough m.desktop ds old.damage now.damage) way e.marks;
        sides = over.sides;
      }

  -- or the first does
  module _ (client : ℕ) (first : (m : Midstep) → IsTelling now.desk m → Some client ≡ first_struck m.struck) (count : length now.desk.kept.clients ≡ 32) (new : MarkedDesk)
      (ends : (s : Strike) (ss : List Strike) (m : Midstep) → s.client ≡ client → m.struck ≡ s ∷ ss → IsMidway now.desk m
      → IsAmid new (record { desktop = ended_by s m.desktop; struck = ss }))
      (marks : (s : Strike) (ss : List Strike) (m : Midstep) → s.client ≡ client → m.struck ≡ s ∷ ss → IsMidway now.desk m
      → MarksThrough m.desktop (ended_by s m.desktop ∷ []) now.damage new.damage) where
    pub over-next : (n : ℕ) → n ≡ suc k → (m : Midstep) → IsAmid old m → AreEnding n old new m
    over-next n next m amid =
        let e = over.done m amid in
        let it = first-of e.mid.struck client (first e.mid e.amid.midway.telling) in
        let s : Strike = it.0 in
        let then : Midstep = record { desktop = ended_by s e.mid.desktop; struck = it.1 } in
        record {
          mid = then;
          before = e.before ++ ended_by s e.mid.desktop ∷ [];
          amid = ends s it.1 e.mid it.3 it.2 e.amid.midway;
          last = last-at m.desktop (ended_by s e.mid.desktop) e.before;
          all = ap (λ (ss : List Strike). ended_all ss e.mid.desktop) (sym it.2) ∙ e.all;
          through = append_assoc e.before (ended_by s e.mid.desktop ∷ []) (ends_through it.1 (ended_by s e.mid.desktop))
              ∙ ap (λ (ss : List Strike). e.before ++ ends_through ss e.mid.desktop) (sym it.2) ∙ e.through;
          marks = marks-then m.desktop e.mid.desktop e.before (ended_by s e.mid.desktop ∷ []) old.damage now.damage new.damage over.sides e.last e.marks
              (marks s it.1 e.mid it.3 it.2 e.amid.midway);
          many = one-less e n next it.1 it.2;
          few = inr (by e (struck-few now.desk e.mid e.amid.midway count));
        }
      where
        one-less : (e : AreEnding k old now m) (n : ℕ) → n ≡ suc k → {s : Strike} (rest : List Strike) → e.mid.struck ≡ s ∷ rest → n + length rest ≡ length m.struck
        one-less e n next {s} rest is =
            let all = e.many in
            let one : length e.mid.struck ≡ suc (length rest) = ap (λ (ss : List Strike). length ss) is in
            omega (arith, next, all, one)

        by : (e : AreEnding k old now m) → length e.mid.struck ≤ 32 → length m.struck ≤ 32
        by e less = at e.few
          where
            at : (k ≡ 0) ⊎ (length m.struck ≤ 32) → length m.struck ≤ 32
            at (inl none) = let many = e.many in omega (arith, many, none, less)
            at (inr few) = few

  -- the loop never comes to its end
  pub over-never : 32 < k → (new : MarkedDesk) → EndsAllFrom old new
  over-never past new m amid = by (over.done m amid)
    where
      by : AreEnding k old now m → AreEnded old new m
      by e = at e.few
        where
          at : (k ≡ 0) ⊎ (length m.struck ≤ 32) → AreEnded old new m
          at (inl none) = absurd (omega (arith, none, past))
          at (inr few) = let many = e.many in absurd (omega (arith, many, few, past))
