-- A desk without clients, and a client that connects.
use Rattle.std.proofs.Common.{◌≡◌, ◌≢◌, ℕ, zero, suc, ◌+◌, List, [], ◌∷◌, Option, Some, None, refl, ap, subst, sym, ◌∙◌, arith, inl, inr}
use Rattle.std.specs.Option.{option_map_or}
use Rattle.std.specs.Prelude.{◌⊎◌, Result, Ok, Err, replicate}
use Rattle.spec_desktop.specs.Told.{Output}
use Rattle.spec_desktop.specs.Pointer.{first_pointer}
use Rattle.spec_desktop.specs.declared.answers.ConnectError.{ConnectError}
use Rattle.spec_desktop.specs.declared.answers.Done.{Done}
use Rattle.spec_desktop.specs.declared.answers.Done.TheVariants as gave
use Rattle.spec_desktop.specs.Act.{Connect, lowest, next_of}
use Rattle.spec_desktop.specs.Desktop.{Desktop, Resident, client_at, empty, place, unpointed}
use Rattle.spec_desktop.specs.Happenings.{Leads, Single}
use Rattle.spec_desktop.specs.Happens.{ConnectsThen}
use Rattle.spec_desktop.specs.Settling.{unstruck}
use Rattle.spec_desktop.specs.Through.{ending_through}
use Rattle.law_desktop.proofs.Runs.Fates.{same-or}
use Rattle.law_desktop.specs.Pointed.Seats.{CameWithoutSerials, HadSerials, HasPointersAfter}
use Rattle.law_desktop.proofs.PointerAside.Pointing.{pointers-stay}
use Rattle.law_desktop.proofs.PointerAside.Serials.{serials-stay}
use Rattle.wl_clients.specs.Agreeing.{Agrees as KeptAgrees}
use Rattle.wl_clients.specs.Leading.{Led}
use Rattle.wl_clients.specs.Pointing.{IsLatest}
use Rattle.wl_clients.specs.declared.grabs.Latest.{Latest}
use Rattle.wl_desk.specs.Agreeing.{Agrees, AreLatest, AreSeats}
use Rattle.wl_desk.specs.View.{DeskView, MarkedDesk, latest_of, no_latest, seat_of}
use Rattle.wl_desk.proofs.Quiet.{quiet-leads}
use Rattle.wl_desk.proofs.LatestStay.{fails-keep, latest-as, latest-stay}
use Rattle.wl_desk.proofs.SeatsStay.{KeepsSeats, seats-stay}

-- ---- no client

none-there : (n k : ℕ) → place (replicate n None) k ≡ None
none-there zero k = refl
none-there (suc n) zero = refl
none-there (suc n) (suc k) = none-there n k

nobody : (output : Output) (c : ℕ) → client_at c (empty output) ≡ None
nobody output zero = refl
nobody output (suc k) = none-there 32 k

some-none : {X : Type 0} (x : X) → Some x ≡ None → ⊥
some-none x e = absurd (cc)

pub begins-empty : (v : DeskView) (output : Output) → KeptAgrees v.kept (empty output) → v.pointer ≡ first_pointer → Agrees v (empty output)
begins-empty v output kept pointer = record {
  kept = kept;
  pointer = pointer;
  placed = record { nowhere = λ none. refl; moved = refl };
  seats = λ c r there lives. absurd (some-none r (sym there ∙ nobody output c));
  latest = λ c r there lives free. absurd (some-none r (sym there ∙ nobody output c));
  settled = refl;
}

-- ---- one comes

one-more : (k : ℕ) → k + 1 ≡ suc k
one-more k = omega arith

some-is : (i j : ℕ) → Some i ≡ Some j → i ≡ j
some-is i j e = ap (λ (o : Option ℕ). option_map_or (λ n. n) o i) e

free-place : (xs : List (Option Resident)) (k : ℕ) → lowest xs ≡ Some k → place xs k ≡ None
free-place [] k e = refl
free-place (None ∷ xs) zero e = refl
free-place (None ∷ xs) (suc k) e = absurd (cc)
free-place (Some x ∷ xs) k e = at (lowest xs) (free-place xs) e
  where
    at : (o : Option ℕ) → ((j : ℕ) → o ≡ Some j → place xs j ≡ None) → next_of o ≡ Some k → place (Some x ∷ xs) k ≡ None
    at None later e = absurd (cc)
    at (Some j) later e = subst (λ (n : ℕ). place (Some x ∷ xs) n ≡ None) (sym (one-more j) ∙ some-is (j + 1) k e) (later j refl)

came : ℕ → Done → ℕ
came c (gave.Connect (Ok k)) = k
came c done = c

-- nobody had its number
free-before : (c : ℕ) (d : Desktop) (path : List Desktop) (e : Desktop) → Leads (Single Connect (gave.Connect (Ok c))) d path e → client_at c d ≡ None
unfolding came
free-before c d path e leads = at (lowest d.clients) refl leads
  where
    at : (o : Option ℕ) → lowest d.clients ≡ o → ConnectsThen o d (gave.Connect (Ok c)) (ending_through path e) → client_at c d ≡ None
    at None first h = absurd (cc)
    at (Some k) first (inl h) = absurd (cc)
    at (Some k) first (inr h) =
        subst (λ (n : ℕ). client_at n d ≡ None) (sym (ap (came c) h.0 ∙ one-more k)) (free-place d.clients k first)

same-number : (c k : ℕ) → Single Connect (gave.Connect (Ok c)) ≡ Single Connect (gave.Connect (Ok k)) → c ≡ k
same-number c k e = cc

-- it has no wl_pointers yet, and the others have those that they had
came-seats : (old new : List (List ℕ)) (c : ℕ) (d : Desktop) (path : List Desktop) (e : Desktop) → seat_of new c ≡ [] → ((k : ℕ) → k ≢ c → seat_of new k ≡ seat_of old k) → AreSeats old d
    → Leads (Single Connect (gave.Connect (Ok c))) (unpointed d) path e → AreSeats new e
came-seats old new c d path e cleared others are leads k q there lives = at (pointers-stay (Single Connect (gave.Connect (Ok c))) (unpointed d) path e k q leads there lives)
  where
    had : (r : Resident) → client_at k d ≡ Some r → r.peer.status ≡ None → q.pointers ≡ r.pointers → (c ≡ k) ⊎ (c ≢ k) → seat_of new k ≡ q.pointers
    had r is alive same (inl here) =
        absurd (some-none r (sym is ∙ subst (λ (n : ℕ). client_at n d ≡ None) here (free-before c (unpointed d) path e leads)))
    had r is alive same (inr differ) = others k (λ e. differ (sym e)) ∙ are k r is alive ∙ sym same

    at : HasPointersAfter (Single Connect (gave.Connect (Ok c))) (unpointed d) k q → seat_of new k ≡ q.pointers
    at (inl h) = had h.0 h.1 h.2 h.3 (same-or c k)
    at (inr (inl asked)) = absurd (cc)
    at (inr (inr h)) =
        let here : c ≡ k = same-number c k h.0 in
        subst (λ (n : ℕ). seat_of new n ≡ []) here cleared ∙ sym h.1

-- it was told of no button yet, and the others keep their serials
came-latest : (old new : List Latest) (c : ℕ) (d : Desktop) (path : List Desktop) (e : Desktop) → latest_of new c ≡ no_latest → ((k : ℕ) → k ≢ c → latest_of new k ≡ latest_of old k)
    → AreLatest old (unstruck d) → Leads (Single Connect (gave.Connect (Ok c))) (unpointed d) path e → AreLatest new (unstruck e)
came-latest old new c d path e none others are leads k q there lives free =
    at (serials-stay (Single Connect (gave.Connect (Ok c))) (unpointed d) path e k q (λ time button pressed done e. absurd (cc)) leads there lives)
  where
    had : (r : Resident) → client_at k d ≡ Some r → r.peer.status ≡ None → q.press ≡ r.press → q.release ≡ r.release → (c ≡ k) ⊎ (c ≢ k) → IsLatest (latest_of new k) (Some q)
    had r is alive press release (inl here) =
        absurd (some-none r (sym is ∙ subst (λ (n : ℕ). client_at n d ≡ None) here (free-before c (unpointed d) path e leads)))
    had r is alive press release (inr differ) =
        latest-as (latest_of old k) (latest_of new k) r q (others k (λ e. differ (sym e))) press release (are k r is alive refl)

    at : HadSerials (unpointed d) k q ⊎ CameWithoutSerials (Single Connect (gave.Connect (Ok c))) k q → IsLatest (latest_of new k) (Some q)
    at (inl h) = had h.0 h.1 h.2 h.3 h.4 (same-or c k)
    at (inr h) =
        let here : c ≡ k = same-number c k h.0 in
        let is : latest_of new k ≡ no_latest = subst (λ (n : ℕ). latest_of new n ≡ no_latest) here none in
        (ap (λ (l : Latest). l.press) is ∙ sym h.1, ap (λ (l : Latest). l.release) is ∙ sym h.2)

-- what is kept of a client that came: no wl_pointers, and no serials
pub record HasCome (c : ℕ) (was now : List (List ℕ)) (before after : List Latest) : Type 0 where
  pub cleared : seat_of now c ≡ []
  pub others : (k : ℕ) → k ≢ c → seat_of now k ≡ seat_of was k
  pub none : latest_of after c ≡ no_latest
  pub kept : (k : ℕ) → k ≢ c → latest_of after k ≡ latest_of before k

pub connects-lead : (result : Result ℕ ConnectError) (d : Desktop) (old new : MarkedDesk) → Agrees old.desk d
    → (led : Led (KeptAgrees new.desk.kept) (Single Connect (gave.Connect result)) old.damage new.damage (unpointed d))
    → new.desk.pointer ≡ old.desk.pointer → ((c : ℕ) → result ≡ Ok c → HasCome c old.desk.seats new.desk.seats old.desk.latest new.desk.latest)
    → ((why : ConnectError) → result ≡ Err why → (new.desk.seats ≡ old.desk.seats) × (new.desk.latest ≡ old.desk.latest)) → Led (Agrees new.desk) (Single Connect (gave.Connect result)) old.damage new.damage d
connects-lead (Ok c) d old new a led pointer comes fails =
    let at = comes c refl in
    quiet-leads (Single Connect (gave.Connect (Ok c))) d old new refl a led pointer (came-seats old.desk.seats new.desk.seats c d led.path led.desktop at.cleared at.others a.seats led.leads)
    (came-latest old.desk.latest new.desk.latest c d led.path led.desktop at.none at.kept a.latest led.leads)
connects-lead (Err why) d old new a led pointer comes fails =
    quiet-leads (Single Connect (gave.Connect (Err why))) d old new refl a led pointer
    (subst (λ (s : List (List ℕ)). AreSeats s led.desktop) (sym (fails why refl).0) (seats-stay old.desk.seats (Single Connect (gave.Connect (Err why))) d led.path led.desktop keeps a.seats led.leads))
    (subst (λ (l : List Latest). AreLatest l (unstruck led.desktop)) (sym (fails why refl).1)
    (latest-stay old.desk.latest (Single Connect (gave.Connect (Err why))) d led.path led.desktop (fails-keep why) a.latest led.leads))
  where
    keeps : KeepsSeats (Single Connect (gave.Connect (Err why)))
    keeps c = (λ e. absurd (cc), λ e. absurd (cc))
