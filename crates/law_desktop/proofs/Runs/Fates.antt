-- In the middle of a step: why a client ended or is to end, and that this stays.
use Rattle.std.proofs.Common.{◌≡◌, ◌≢◌, ℕ, zero, suc, ◌≤◌, List, [], ◌∷◌, length, Bool, true, false, Option, Some, None, refl, ap, subst, sym, ◌∙◌, arith, inl, inr, eq-eqb}
use Rattle.std.specs.Prelude.{◌==◌, ◌||◌, if◌then◌else◌, nat_lt, ◌⊎◌}
use Rattle.std.proofs.lemmas.Bool.{eqb-false, eqb-true, ne_eqb}
use Rattle.std.proofs.lemmas.Option.{none-some}
use Rattle.spec_desktop.specs.declared.cause.Cause.{Cause}
use Rattle.spec_desktop.specs.Desktop.{Resident, client_in, place, with_number, with_place, status_of}
use Rattle.spec_desktop.specs.Settling.{Strike, in_order, is_struck, struck_by}
use Rattle.law_desktop.proofs.Runs.Places.{number-other, number-same}
use Rattle.law_desktop.proofs.Truth.{or-left, or-right}

-- why a client is to end or, where it isn't, why it ended
abbrev pub fate_in : ℕ → List Strike → Option Cause → Option Cause
fate_in c [] status = status
fate_in c (s ∷ ss) status = if s.client == c then Some s.cause else fate_in c ss status

abbrev pub fate : ℕ → List Strike → List (Option Resident) → Option Cause
fate c strikes clients = fate_in c strikes (status_of (client_in clients c))

-- the client is there and lives
pub record Lives (c : ℕ) (clients : List (Option Resident)) : Type 0 where
  pub there : Resident
  pub is : client_in clients c ≡ Some there
  pub alive : there.peer.status ≡ None

-- those that are to end live, and none is to end twice
abbrev pub AreStruck : List Strike → List (Option Resident) → Type 0
AreStruck [] clients = Unit {0}
AreStruck (s ∷ ss) clients = Lives s.client clients × (is_struck s.client ss ≡ false) × AreStruck ss clients

-- the places where no client ended
abbrev pub one_more : Option Cause → ℕ → ℕ
one_more None n = suc n
one_more (Some cause) n = n

abbrev pub lasting : List (Option Resident) → ℕ
lasting [] = 0
lasting (x ∷ xs) = one_more (status_of x) (lasting xs)

-- Each end, and each strike, stays or becomes an end of the same cause.
pub record Follows (ss : List Strike) (rs : List (Option Resident)) (ts : List Strike) (us : List (Option Resident)) : Type 0 where
  pub sound : AreStruck ts us
  pub keeps : (c : ℕ) (cause : Cause) → fate c ss rs ≡ Some cause → fate c ts us ≡ Some cause
  pub fewer : lasting us ≤ lasting rs
  pub long : length us ≡ length rs

pub still : (ss : List Strike) (rs : List (Option Resident)) → AreStruck ss rs → Follows ss rs ss rs
still ss rs sound = record { sound = sound; keeps = λ c cause e. e; fewer = omega arith; long = refl }

pub follows-on : {ss ts vs : List Strike} {rs us ws : List (Option Resident)} → Follows ss rs ts us → Follows ts us vs ws → Follows ss rs vs ws
follows-on h k = record { sound = k.sound; keeps = λ c cause e. k.keeps c cause (h.keeps c cause e); fewer = omega (arith, h.fewer, k.fewer); long = k.long ∙ h.long }

-- ---- how many are left

pub lasting-within : (rs : List (Option Resident)) → lasting rs ≤ length rs
lasting-within [] = omega arith
lasting-within (x ∷ xs) = at (status_of x) (lasting-within xs)
  where
    at : (s : Option Cause) → lasting xs ≤ length xs → one_more s (lasting xs) ≤ suc (length xs)
    at None h = omega (arith, h)
    at (Some cause) h = omega (arith, h)

more-stays : (s : Option Cause) (n m : ℕ) → n ≤ m → one_more s n ≤ one_more s m
more-stays None n m h = omega (arith, h)
more-stays (Some cause) n m h = h

more-most : (s t : Option Cause) (n : ℕ) → t ≡ None → one_more s n ≤ one_more t n
more-most s None n e = at s
  where
    at : (s : Option Cause) → one_more s n ≤ suc n
    at None = omega arith
    at (Some cause) = omega arith
more-most s (Some cause) n e = absurd (none-some cause (sym e))

place-fewer : (rs : List (Option Resident)) (k : ℕ) (x : Option Resident) → status_of (place rs k) ≡ None → lasting (with_place k x rs) ≤ lasting rs
place-fewer [] k x e = omega arith
place-fewer (r ∷ rs) zero x e = more-most (status_of x) (status_of r) (lasting rs) e
place-fewer (r ∷ rs) (suc k) x e = more-stays (status_of r) (lasting (with_place k x rs)) (lasting rs) (place-fewer rs k x e)

more-ends : (s t : Option Cause) (n : ℕ) (cause : Cause) → s ≡ Some cause → t ≡ None → suc (one_more s n) ≡ one_more t n
more-ends (Some cause) None n why e f = refl
more-ends None t n why e f = absurd (none-some why e)
more-ends (Some cause) (Some other) n why e f = absurd (none-some other (sym f))

more-one : (s : Option Cause) (n m : ℕ) → suc n ≡ m → suc (one_more s n) ≡ one_more s m
more-one None n m e = ap (λ k. suc k) e
more-one (Some cause) n m e = e

place-ends : (rs : List (Option Resident)) (k : ℕ) (x : Option Resident) (r : Resident) (cause : Cause) → place rs k ≡ Some r → r.peer.status ≡ None → status_of x ≡ Some cause
    → suc (lasting (with_place k x rs)) ≡ lasting rs
place-ends [] k x r cause is alive end = absurd (none-some r is)
place-ends (y ∷ rs) zero x r cause is alive end = more-ends (status_of x) (status_of y) (lasting rs) cause end (ap status_of is ∙ alive)
place-ends (y ∷ rs) (suc k) x r cause is alive end = more-one (status_of y) (lasting (with_place k x rs)) (lasting rs) (place-ends rs k x r cause is alive end)

-- an end takes one away
pub number-ends : (rs : List (Option Resident)) (c : ℕ) (x : Option Resident) (cause : Cause) → Lives c rs → status_of x ≡ Some cause → suc (lasting (with_number c x rs)) ≡ lasting rs
number-ends rs zero x cause lives end = absurd (none-some lives.there lives.is)
number-ends rs (suc k) x cause lives end = place-ends rs k x lives.there cause lives.is lives.alive end

place-long : (rs : List (Option Resident)) (k : ℕ) (x : Option Resident) → length (with_place k x rs) ≡ length rs
place-long [] k x = refl
place-long (r ∷ rs) zero x = refl
place-long (r ∷ rs) (suc k) x = ap (λ n. suc n) (place-long rs k x)

pub number-long : (rs : List (Option Resident)) (c : ℕ) (x : Option Resident) → length (with_number c x rs) ≡ length rs
number-long rs zero x = refl
number-long rs (suc k) x = place-long rs k x

-- ---- one client becomes another

pub same-or : (c a : ℕ) → (c ≡ a) ⊎ (c ≢ a)
same-or c a = at (c == a) refl
  where
    at : (b : Bool) → (c == a) ≡ b → (c ≡ a) ⊎ (c ≢ a)
    at true e = inl (eqb-true c a e)
    at false e = inr (λ same. eqb-false c a e same)

module _ (rs : List (Option Resident)) (c : ℕ) (lives : Lives c rs) (x : Option Resident) where
  pub status-lives : status_of (client_in rs c) ≡ None
  status-lives = ap status_of lives.is ∙ lives.alive

  pub status-here : status_of (client_in (with_number c x rs) c) ≡ status_of x
  status-here = ap status_of (number-same rs c x lives.there lives.is)

  pub status-there : (a : ℕ) → c ≢ a → status_of (client_in (with_number c x rs) a) ≡ status_of (client_in rs a)
  status-there a away = ap status_of (number-other rs c a x away)

  number-fewer : lasting (with_number c x rs) ≤ lasting rs
  number-fewer = at c status-lives
    where
      at : (c : ℕ) → status_of (client_in rs c) ≡ None → lasting (with_number c x rs) ≤ lasting rs
      at zero e = omega arith
      at (suc k) e = place-fewer rs k x e

  -- a client that lives may become anything
  pub put-follows : Follows [] rs [] (with_number c x rs)
  put-follows = record { sound = tt; keeps = keeps; fewer = number-fewer; long = number-long rs c x }
    where
      keeps : (a : ℕ) (cause : Cause) → fate a [] rs ≡ Some cause → fate a [] (with_number c x rs) ≡ Some cause
      keeps a cause e = at (same-or c a)
        where
          at : (c ≡ a) ⊎ (c ≢ a) → fate a [] (with_number c x rs) ≡ Some cause
          at (inl same) = absurd (none-some cause (sym (ap (λ n. status_of (client_in rs n)) (sym same) ∙ status-lives) ∙ e))
          at (inr away) = status-there a away ∙ e

-- ---- strikes

fate-struck : (c : ℕ) (cause : Cause) (ss : List Strike) (status : Option Cause) → is_struck c ss ≡ false → fate_in c (in_order (record { client = c; cause = cause }) ss) status ≡ Some cause
fate-struck c cause [] status fresh = ap (λ b. if b then Some cause else status) (eq-eqb c c refl)
fate-struck c cause (t ∷ ts) status fresh = at (nat_lt c t.client) (fate-struck c cause ts status (or-right (t.client == c) (is_struck c ts) fresh))
  where
    at : (b : Bool) → fate_in c (in_order (record { client = c; cause = cause }) ts) status ≡ Some cause
        → fate_in c (if b then record { client = c; cause = cause } ∷ t ∷ ts else t ∷ in_order (record { client = c; cause = cause }) ts) status ≡ Some cause
    at true later = ap (λ b. if b then Some cause else fate_in c (t ∷ ts) status) (eq-eqb c c refl)
    at false later =
        ap (λ b. if b then Some t.cause else fate_in c (in_order (record { client = c; cause = cause }) ts) status) (or-left (t.client == c) (is_struck c ts) fresh)
        ∙ later

fate-else : (s : Strike) (a : ℕ) (ss : List Strike) (status : Option Cause) → (s.client == a) ≡ false → fate_in a (in_order s ss) status ≡ fate_in a ss status
fate-else s a [] status away = ap (λ b. if b then Some s.cause else status) away
fate-else s a (t ∷ ts) status away = at (nat_lt s.client t.client) (fate-else s a ts status away)
  where
    at : (b : Bool) → fate_in a (in_order s ts) status ≡ fate_in a ts status → fate_in a (if b then s ∷ t ∷ ts else t ∷ in_order s ts) status ≡ fate_in a (t ∷ ts) status
    at true later = ap (λ b. if b then Some s.cause else fate_in a (t ∷ ts) status) away
    at false later = ap (λ x. if t.client == a then Some t.cause else x) later

pub fate-unstruck : (c : ℕ) (ss : List Strike) (status : Option Cause) → is_struck c ss ≡ false → fate_in c ss status ≡ status
fate-unstruck c [] status fresh = refl
fate-unstruck c (t ∷ ts) status fresh =
    ap (λ b. if b then Some t.cause else fate_in c ts status) (or-left (t.client == c) (is_struck c ts) fresh)
    ∙ fate-unstruck c ts status (or-right (t.client == c) (is_struck c ts) fresh)

struck-others : (s : Strike) (a : ℕ) (ss : List Strike) → (s.client == a) ≡ false → is_struck a ss ≡ false → is_struck a (in_order s ss) ≡ false
struck-others s a [] away fresh = ap (λ b. b || false) away
struck-others s a (t ∷ ts) away fresh = at (nat_lt s.client t.client) (struck-others s a ts away (or-right (t.client == a) (is_struck a ts) fresh))
  where
    at : (b : Bool) → is_struck a (in_order s ts) ≡ false → is_struck a (if b then s ∷ t ∷ ts else t ∷ in_order s ts) ≡ false
    at true later = ap (λ b. b || is_struck a (t ∷ ts)) away ∙ fresh
    at false later = ap (λ b. b || is_struck a (in_order s ts)) (or-left (t.client == a) (is_struck a ts) fresh) ∙ later

sound-order : (s : Strike) (ss : List Strike) (rs : List (Option Resident)) → Lives s.client rs → is_struck s.client ss ≡ false → AreStruck ss rs → AreStruck (in_order s ss) rs
sound-order s [] rs lives fresh sound = (lives, fresh, tt)
sound-order s (t ∷ ts) rs lives fresh sound =
    at (nat_lt s.client t.client) (sound-order s ts rs lives (or-right (t.client == s.client) (is_struck s.client ts) fresh) sound.2)
  where
    at : (b : Bool) → AreStruck (in_order s ts) rs → AreStruck (if b then s ∷ t ∷ ts else t ∷ in_order s ts) rs
    at true later = (lives, fresh, sound)
    at false later = (
      sound.0,
      struck-others s t.client ts
          (ne_eqb s.client t.client (λ e. eqb-false t.client s.client (or-left (t.client == s.client) (is_struck s.client ts) fresh) (sym e))) sound.1,
      later,
    )

-- a client that lives becomes one that lives
module _ (rs : List (Option Resident)) (c : ℕ) (lives : Lives c rs) (now : Resident) (alive : now.peer.status ≡ None) where
  lives-put : (a : ℕ) → Lives a rs → Lives a (with_number c (Some now) rs)
  lives-put a other = at (same-or c a)
    where
      at : (c ≡ a) ⊎ (c ≢ a) → Lives a (with_number c (Some now) rs)
      at (inl same) =
          subst (λ n. Lives n (with_number c (Some now) rs)) same
          (record { there = now; is = number-same rs c (Some now) lives.there lives.is; alive = alive })
      at (inr away) = record { there = other.there; is = number-other rs c a (Some now) away ∙ other.is; alive = other.alive }

  sound-put : (ss : List Strike) → AreStruck ss rs → AreStruck ss (with_number c (Some now) rs)
  sound-put [] sound = tt
  sound-put (s ∷ ss) sound = (lives-put s.client sound.0, sound.1, sound-put ss sound.2)

  status-put : (a : ℕ) → status_of (client_in (with_number c (Some now) rs) a) ≡ status_of (client_in rs a)
  status-put a = at (same-or c a)
    where
      at : (c ≡ a) ⊎ (c ≢ a) → status_of (client_in (with_number c (Some now) rs) a) ≡ status_of (client_in rs a)
      at (inl same) =
          subst (λ n. status_of (client_in (with_number c (Some now) rs) n) ≡ status_of (client_in rs n)) same
          (status-here rs c lives (Some now) ∙ alive ∙ sym (status-lives rs c lives (Some now)))
      at (inr away) = status-there rs c lives (Some now) a away

  -- it is told something, and may be struck by that
  pub told-follows : (ss : List Strike) (why : Option Cause) → AreStruck ss rs → is_struck c ss ≡ false → Follows ss rs (struck_by c why ss) (with_number c (Some now) rs)
  told-follows ss None sound fresh =
      record {
        sound = sound-put ss sound;
        keeps = λ a cause e. ap (fate_in a ss) (status-put a) ∙ e;
        fewer = number-fewer rs c lives (Some now);
        long = number-long rs c (Some now);
      }
  told-follows ss (Some why) sound fresh =
      record {
        sound = sound-order (record { client = c; cause = why }) ss (with_number c (Some now) rs) (lives-put c lives) fresh (sound-put ss sound);
        keeps = keeps;
        fewer = number-fewer rs c lives (Some now);
        long = number-long rs c (Some now);
      }
    where
      keeps : (a : ℕ) (cause : Cause) → fate a ss rs ≡ Some cause → fate a (struck_by c (Some why) ss) (with_number c (Some now) rs) ≡ Some cause
      keeps a cause e = at (c == a) refl
        where
          at : (b : Bool) → (c == a) ≡ b → fate a (struck_by c (Some why) ss) (with_number c (Some now) rs) ≡ Some cause
          at false away = fate-else (record { client = c; cause = why }) a ss (status_of (client_in (with_number c (Some now) rs) a)) away ∙ ap (fate_in a ss) (status-put a) ∙ e
          at true here =
              absurd (none-some cause (sym (ap (λ n. fate n ss rs) (sym (eqb-true c a here)) ∙ fate-unstruck c ss (status_of (client_in rs c)) fresh ∙ status-lives rs c lives (Some now)) ∙ e))

  -- and why is its fate
  pub told-fate : (ss : List Strike) (cause : Cause) → is_struck c ss ≡ false → fate c (struck_by c (Some cause) ss) (with_number c (Some now) rs) ≡ Some cause
  told-fate ss cause fresh = fate-struck c cause ss (status_of (client_in (with_number c (Some now) rs) c)) fresh

-- ---- an end

sound-end : (ss : List Strike) (rs : List (Option Resident)) (c : ℕ) (x : Option Resident) → is_struck c ss ≡ false → AreStruck ss rs → AreStruck ss (with_number c x rs)
sound-end [] rs c x fresh sound = tt
sound-end (t ∷ ts) rs c x fresh sound = (
  record {
    there = sound.0.there;
    is = number-other rs c t.client x (λ e. eqb-false t.client c (or-left (t.client == c) (is_struck c ts) fresh) (sym e)) ∙ sound.0.is;
    alive = sound.0.alive;
  },
  sound.1,
  sound-end ts rs c x (or-right (t.client == c) (is_struck c ts) fresh) sound.2,
)

pub ended-follows : (s : Strike) (ss : List Strike) (rs : List (Option Resident)) (x : Option Resident) → AreStruck (s ∷ ss) rs → status_of x ≡ Some s.cause
    → Follows (s ∷ ss) rs ss (with_number s.client x rs)
ended-follows s ss rs x sound end =
    record {
      sound = sound-end ss rs s.client x sound.1 sound.2;
      keeps = λ a cause. at a cause (s.client == a) refl;
      fewer = number-fewer rs s.client sound.0 x;
      long = number-long rs s.client x;
    }
  where
    at : (a : ℕ) (cause : Cause) (b : Bool) → (s.client == a) ≡ b → (if b then Some s.cause else fate a ss rs) ≡ Some cause → fate a ss (with_number s.client x rs) ≡ Some cause
    at a cause true here e =
        fate-unstruck a ss (status_of (client_in (with_number s.client x rs) a)) (ap (λ n. is_struck n ss) (sym (eqb-true s.client a here)) ∙ sound.1)
        ∙ ap (λ n. status_of (client_in (with_number s.client x rs) n)) (sym (eqb-true s.client a here)) ∙ status-here rs s.client sound.0 x ∙ end ∙ e
    at a cause false away e = ap (fate_in a ss) (status-there rs s.client sound.0 x a (λ same. eqb-false s.client a away same)) ∙ e
