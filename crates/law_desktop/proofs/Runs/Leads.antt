-- From the middle of a step, to what does it lead? To one thing, where memory doesn't run out.
use Rattle.std.proofs.Common.{◌≡◌, ℕ, Some, subst, sym, ◌∙◌, inl, inr}
use Rattle.std.specs.Prelude.{◌⊎◌}
use Rattle.spec_desktop.specs.declared.cause.Cause.TheVariants.{Memory}
use Rattle.spec_desktop.specs.Settling.{Midstep}
use Rattle.law_desktop.proofs.Runs.Fates.{Follows, fate, follows-on, AreStruck}

abbrev pub Sound : Midstep → Type 0
Sound m = AreStruck m.struck m.desktop.clients

abbrev pub After : Midstep → Midstep → Type 0
After old new = Follows old.struck old.desktop.clients new.struck new.desktop.clients

-- no client ends, or is to end, as out of memory that wasn't before
abbrev pub Spares : Midstep → Midstep → Type 0
Spares old new = (c : ℕ) → fate c new.struck new.desktop.clients ≡ Some Memory → fate c old.struck old.desktop.clients ≡ Some Memory

-- what comes of a moment, which is another moment or makes one
pub record Leads (X : Type 0) (to : X → Midstep) (old : Midstep) (P : X → Type 0) : Type 0 where
  pub follows : (new : X) → P new → After old (to new)
  pub once : (new end : X) → P new → P end → Spares old (to new) → Spares old (to end) → new ≡ end

abbrev pub moving : Midstep → Midstep
moving m = m

-- the first part of a way spares whom the whole spares, and so does the rest
pub spares-first : (old mid new : Midstep) → After mid new → Spares old new → Spares old mid
spares-first old mid new later fine c e = fine c (later.keeps c Memory e)

pub spares-rest : (old mid new : Midstep) → After old mid → Spares old new → Spares mid new
spares-rest old mid new before fine c e = before.keeps c Memory (fine c e)

-- to one thing alone
pub only : (X : Type 0) (to : X → Midstep) (old : Midstep) (x : X) → After old (to x) → Leads X to old (λ new. new ≡ x)
only X to old x after =
    record {
      follows = λ new e. subst (λ y. After old (to y)) (sym e) after;
      once = λ new end e f fine well. e ∙ sym f;
    }

-- a choice, and what comes then
pub chained : (Y X : Type 0) (by : Y → Midstep) (to : X → Midstep) (old : Midstep) (P : Y → Type 0) (Q : Y → X → Type 0) → Leads Y by old P → ((y : Y) → P y → Leads X to (by y) (Q y))
    → Leads X to old (λ new. (y : Y) × P y × Q y new)
chained Y X by to old P Q first next =
    record {
      follows = λ new h. follows-on (first.follows h.0 h.1) ((next h.0 h.1).follows new h.2);
      once = λ new end h k fine well.
          let same : h.0 ≡ k.0 =
          first.once h.0 k.0 h.1 k.1 (spares-first old (by h.0) (to new) ((next h.0 h.1).follows new h.2) fine)
          (spares-first old (by k.0) (to end) ((next k.0 k.1).follows end k.2) well) in
          let before = first.follows k.0 k.1 in
          (next k.0 k.1).once new end (subst (λ y. Q y new) same h.2) k.2 (spares-rest old (by k.0) (to new) before fine) (spares-rest old (by k.0) (to end) before well);
    }

-- what comes of a later moment
pub from : (X : Type 0) (to : X → Midstep) (old mid : Midstep) (P : X → Type 0) → After old mid → Leads X to mid P → Leads X to old P
from X to old mid P before leads =
    record {
      follows = λ new h. follows-on before (leads.follows new h);
      once = λ new end h k fine well. leads.once new end h k (spares-rest old mid (to new) before fine) (spares-rest old mid (to end) before well);
    }

-- the same in other words
pub worded : (X : Type 0) (to : X → Midstep) (old : Midstep) (P Q : X → Type 0) → ((new : X) → Q new → P new) → Leads X to old P → Leads X to old Q
worded X to old P Q turn leads =
    record {
      follows = λ new h. leads.follows new (turn new h);
      once = λ new end h k fine well. leads.once new end (turn new h) (turn end k) fine well;
    }

-- to nothing at all
pub nowhere : (X : Type 0) (to : X → Midstep) (old : Midstep) → Leads X to old (λ new. ⊥)
nowhere X to old = record { follows = λ new h. absurd h; once = λ new end h k fine well. absurd h }

-- where something holds
pub given : (X : Type 0) (to : X → Midstep) (old : Midstep) (A : Type 0) (P : X → Type 0) → (A → Leads X to old P) → Leads X to old (λ new. A × P new)
given X to old A P leads =
    record {
      follows = λ new h. (leads h.0).follows new h.1;
      once = λ new end h k fine well. (leads h.0).once new end h.1 k.1 fine well;
    }

-- what isn't spared, or else
pub unless : (X : Type 0) (to : X → Midstep) (old : Midstep) (P Q : X → Type 0) → Leads X to old P → ((new : X) → P new → Spares old (to new) → ⊥) → Leads X to old Q
    → Leads X to old (λ new. P new ⊎ Q new)
unless X to old P Q first never second = record { follows = after; once = alike }
  where
    after : (new : X) → P new ⊎ Q new → After old (to new)
    after new (inl h) = first.follows new h
    after new (inr h) = second.follows new h

    alike : (new end : X) → P new ⊎ Q new → P end ⊎ Q end → Spares old (to new) → Spares old (to end) → new ≡ end
    alike new end (inl h) k fine well = absurd (never new h fine)
    alike new end (inr h) (inl k) fine well = absurd (never end k well)
    alike new end (inr h) (inr k) fine well = second.once new end h k fine well
