-- The clients up to a number, one after another.
use Rattle.std.proofs.Common.{◌≡◌, ℕ, suc, ◌+◌, List, [], ◌∷◌, ◌++◌, Option, Some, length, refl, sym, subst, add-one}
use Rattle.spec_desktop.specs.declared.answers.Done.{Done}
use Rattle.spec_desktop.specs.Act.{Send}
use Rattle.wl_replay.specs.Told.{Stage, Steps}
use Rattle.wl_replay.specs.Clients.{Sends, TellsClient, TellsFirst}
use Rattle.wl_recording.specs.Text.{to_line}

pub TellsFirst-none : (d : Stage) → TellsFirst 0 d [] d
unfolding TellsFirst
TellsFirst-none d = (refl, refl)

TellsFirst-suc : (n : ℕ) (d mid e : Stage) (front last : List ℕ) → TellsFirst n d front mid → TellsClient (suc n) mid last e → TellsFirst (suc n) d (front ++ last) e
unfolding TellsFirst
TellsFirst-suc n d mid e front last first next = (mid, front, last, first, next, refl)

pub TellsFirst-more : (n : ℕ) (d mid e : Stage) (front last : List ℕ) → TellsFirst n d front mid → TellsClient (n + 1) mid last e → TellsFirst (n + 1) d (front ++ last) e
TellsFirst-more n d mid e front last first next =
    subst (λ (k : ℕ). TellsFirst k d (front ++ last) e) (sym (add-one n))
    (TellsFirst-suc n d mid e front last first (subst (λ (k : ℕ). TellsClient k mid last e) (add-one n) next))

-- what waits for a client is sent
sends-bytes : (client : ℕ) (d e : Stage) (bytes : List ℕ) (done : Done) → (length bytes ≡ 0 → ⊥) → Steps (Send client (length bytes)) done d e → Sends client (Some bytes) d (to_line client bytes) e
sends-bytes client d e [] done some step = absurd (some refl)
sends-bytes client d e (b ∷ bytes) done some step = (done, step, refl)

pub sends-so : (client : ℕ) (d e : Stage) (bytes : List ℕ) (waits : Option (List ℕ)) (done : Done) → Some bytes ≡ waits → (length bytes ≡ 0 → ⊥) → Steps (Send client (length bytes)) done d e
    → Sends client waits d (to_line client bytes) e
sends-so client d e bytes waits done is some step = subst (λ (o : Option (List ℕ)). Sends client o d (to_line client bytes) e) is (sends-bytes client d e bytes done some step)
