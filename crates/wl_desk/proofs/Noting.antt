-- The serials of one client among those of all: they are found, forgotten, and noted.
use Rattle.std.proofs.Common.{◌≡◌, ◌≢◌, ℕ, zero, suc, ◌+◌, ◌<◌, ◌≤◌, List, [], ◌∷◌, Bool, true, false, Option, Some, None, length, map, slice_index_or, slice_set, refl, ap, subst, sym, ◌∙◌, arith, inl, inr}
use Rattle.std.proofs.lemmas.Bool.{eqb-true, true≢false}
use Rattle.std.specs.Option.{option_map}
use Rattle.std.specs.Prelude.{◌⊎◌, ◌==◌}
use Rattle.wl_client.specs.Pointers.{has_any}
use Rattle.wl_client.specs.declared.pointers.PointerEvent.TheVariants.{Button}
use Rattle.spec_desktop.specs.declared.cause.Cause.{Cause}
use Rattle.spec_desktop.specs.Told.{Said}
use Rattle.spec_desktop.specs.Stacking.{Standing}
use Rattle.spec_desktop.specs.declared.answers.Fed.{Fed}
use Rattle.spec_desktop.specs.declared.answers.Fed.TheVariants.{Alive}
use Rattle.spec_desktop.specs.Act.{fed_of, peer_at, peer_of, status_of as status_fed}
use Rattle.spec_desktop.specs.Changing.{drawing}
use Rattle.spec_desktop.specs.Desktop.{Desktop, Resident, client_at, toplevels_of}
use Rattle.spec_desktop.specs.Pointing.{button_told, has_pointers}
use Rattle.spec_desktop.specs.Settling.{Midstep, Tells, noted, noted_if, number_of}
use Rattle.law_desktop.specs.InOrder.{InOrderAt, InOrderBy}
use Rattle.wl_clients.specs.Pointing.{IsLatest}
use Rattle.wl_clients.specs.declared.grabs.Latest.{Latest}
use Rattle.wl_clients.proofs.Desktops.{map-length}
use Rattle.wl_desk.specs.Agreeing.{Agrees}
use Rattle.wl_desk.specs.Midway.{IsTelling, IsToldOf}
use Rattle.wl_desk.specs.Serials.{AreNoted, KeepsSerials, changed_at, changed_of, noted_by}
use Rattle.wl_desk.specs.View.{DeskView, latest_of, no_latest, seat_of}
use Rattle.wl_desk.proofs.Buttons.{button-of, has-any}
use Rattle.wl_desk.proofs.LatestStay.{latest-as}
use Rattle.wl_desk.proofs.Seated.{IsPlaced}
use Rattle.wl_desk.proofs.Telling.{telling-same}

-- ---- one of a list

module _ (change : Latest → Latest) where
  at-here : (k : ℕ) (latest : List Latest) → k < length latest → slice_index_or (changed_at change k latest) k no_latest ≡ change (slice_index_or latest k no_latest)
  at-here k [] h = absurd (omega (arith, h))
  at-here zero (l ∷ latest) h = refl
  at-here (suc k) (l ∷ latest) h = at-here k latest (omega (arith, h))

  at-other : (k j : ℕ) (latest : List Latest) → k ≢ j → slice_index_or (changed_at change k latest) j no_latest ≡ slice_index_or latest j no_latest
  at-other k j [] apart = refl
  at-other zero zero (l ∷ latest) apart = absurd (apart refl)
  at-other zero (suc j) (l ∷ latest) apart = refl
  at-other (suc k) zero (l ∷ latest) apart = refl
  at-other (suc k) (suc j) (l ∷ latest) apart = at-other k j latest (λ e. apart (ap suc e))

  pub changed-here : (c : ℕ) (latest : List Latest) → IsPlaced c latest → latest_of (changed_of change c latest) c ≡ change (latest_of latest c)
  changed-here zero latest h = absurd h
  changed-here (suc k) latest h = at-here k latest h

  pub changed-other : (c other : ℕ) (latest : List Latest) → other ≢ c → latest_of (changed_of change c latest) other ≡ latest_of latest other
  changed-other zero other latest apart = refl
  changed-other (suc k) zero latest apart = refl
  changed-other (suc k) (suc j) latest apart = at-other k j latest (λ e. apart (ap suc (sym e)))

  at-set : (k : ℕ) (latest : List Latest) (d l : Latest) → k < length latest → l ≡ change (slice_index_or latest k d) → slice_set latest k l ≡ changed_at change k latest
  at-set k [] d l less is = absurd (omega (arith, less))
  at-set zero (m ∷ latest) d l less is = ap (λ (x : Latest). x ∷ latest) is
  at-set (suc k) (m ∷ latest) d l less is = ap (λ (xs : List Latest). m ∷ xs) (at-set k latest d l (omega (arith, less)) is)

  -- it is put into its place
  pub changed-set : (c k : ℕ) (latest : List Latest) (d l : Latest) → (c ≡ k + 1) × (k < length latest) → l ≡ change (slice_index_or latest k d) → slice_set latest k l ≡ changed_of change c latest
  changed-set c k latest d l place is =
      let number : suc k ≡ c = omega (arith, place.0) in at-set k latest d l place.1 is ∙ ap (λ (n : ℕ). changed_of change n latest) number

  at-beyond : (k : ℕ) (latest : List Latest) → length latest ≤ k → latest ≡ changed_at change k latest
  at-beyond k [] beyond = refl
  at-beyond zero (l ∷ latest) beyond = absurd (omega (arith, beyond))
  at-beyond (suc k) (l ∷ latest) beyond = ap (λ (xs : List Latest). l ∷ xs) (at-beyond k latest (omega (arith, beyond)))

  -- a number that is of no place has none
  pub changed-nowhere : (c : ℕ) (latest : List Latest) → (c ≡ 0) ⊎ (length latest < c) → latest ≡ changed_of change c latest
  changed-nowhere zero latest beyond = refl
  changed-nowhere (suc k) latest (inl e) = absurd (omega (arith, e))
  changed-nowhere (suc k) latest (inr beyond) = at-beyond k latest (omega (arith, beyond))

at-forgotten : (k : ℕ) (latest : List Latest) → slice_index_or (changed_at (λ l. no_latest) k latest) k no_latest ≡ no_latest
at-forgotten k [] = refl
at-forgotten zero (l ∷ latest) = refl
at-forgotten (suc k) (l ∷ latest) = at-forgotten k latest

pub forgotten : (c : ℕ) (latest : List Latest) → latest_of (changed_of (λ l. no_latest) c latest) c ≡ no_latest
forgotten zero latest = refl
forgotten (suc k) latest = at-forgotten k latest

-- ---- a client that has wl_pointers is at a place

seat-within : (seats : List (List ℕ)) (k : ℕ) → has_any (slice_index_or seats k []) ≡ true → k < length seats
seat-within [] k some = absurd (true≢false (sym some))
seat-within (ids ∷ seats) zero some = omega arith
seat-within (ids ∷ seats) (suc k) some = let less = seat-within seats k some in omega (arith, less)

pub seated-placed : (seats : List (List ℕ)) (latest : List Latest) (c : ℕ) → length seats ≡ length latest → has_any (seat_of seats c) ≡ true → IsPlaced c latest
seated-placed seats latest zero same some = absurd (true≢false (sym some))
seated-placed seats latest (suc k) same some = let less = seat-within seats k some in omega (arith, less, same)

-- ---- noted among those of all

pub empty-none : (ps : List ℕ) (empty : Bool) → empty ≡ (length ps == 0) → empty ≡ true → has_any ps ≡ false
empty-none [] empty is none = refl
empty-none (p ∷ ps) empty is none =
    let same : length (p ∷ ps) ≡ 0 = eqb-true (length (p ∷ ps)) 0 (sym is ∙ none) in
    let never : ⊥ = omega (arith, same) in
    absurd never

pub full-some : (ps : List ℕ) (empty : Bool) → empty ≡ (length ps == 0) → empty ≡ false → has_any ps ≡ true
full-some [] empty is none = absurd (true≢false (sym is ∙ none))
full-some (p ∷ ps) empty is none = refl

serial-same : (i j : ℕ) → Some i ≡ Some j → i ≡ j
serial-same i j e = cc

pub noted-here : {V : Type 0} (f : V → List ℕ) (c serial n : ℕ) (pressed : Bool) (vs : List V) (was now : List Latest) → now ≡ changed_of (noted_by pressed serial) c was → length vs ≡ length was
    → has_any (seat_of (map f vs) c) ≡ true → Some serial ≡ Some n → latest_of now c ≡ noted_by pressed n (latest_of was c)
noted-here f c serial n pressed vs was now is long some same =
    ap (λ (l : List Latest). latest_of l c) is ∙ changed-here (noted_by pressed serial) c was (seated-placed (map f vs) was c (map-length f vs ∙ long) some)
    ∙ ap (λ (k : ℕ). noted_by pressed k (latest_of was c)) (serial-same serial n same)

-- ---- serials that are kept while a client is told

pub drawing-keeps : (b : Bool) (r : Resident) → ((drawing b r).press ≡ r.press) × ((drawing b r).release ≡ r.release)
drawing-keeps true r = (refl, refl)
drawing-keeps false r = (refl, refl)

pub nothing-keeps : KeepsSerials (λ r. r)
nothing-keeps r = (refl, refl)

-- ---- a button

noted-latest : (pressed : Bool) (l : Latest) (r : Resident) → IsLatest l (Some r) → IsLatest (noted_by pressed r.peer.serial l) (Some (noted pressed r))
noted-latest true l r is = (refl, is.1)
noted-latest false l r is = (is.0, refl)

drawn-latest : (b : Bool) (l k : Latest) (r : Resident) → k ≡ l → IsLatest l (Some r) → IsLatest k (Some (drawing b r))
drawn-latest b l k r same is = latest-as l k r (drawing b r) same (drawing-keeps b r).0 (drawing-keeps b r).1 is

module _ (c : ℕ) (pressed : Bool) (old told new : DeskView) (serial : Option ℕ)
    (some : has_any (seat_of told.seats c) ≡ true → (n : ℕ) → serial ≡ Some n → latest_of new.latest c ≡ noted_by pressed n (latest_of told.latest c))
    (none : has_any (seat_of told.seats c) ≡ false → new.latest ≡ told.latest)
    (others : (k : ℕ) → k ≢ c → latest_of new.latest k ≡ latest_of told.latest k)
    (seats : told.seats ≡ old.seats) (latest : told.latest ≡ old.latest)
    (m : Midstep) (telling : IsTelling old m) (is : serial ≡ option_map (λ (r : Resident). r.peer.serial) (client_at c m.desktop)) where
  abbrev change : Resident → Resident
  change r = noted_if (has_pointers r) pressed r

  own : (r : Resident) → client_at c m.desktop ≡ Some r → r.peer.status ≡ None → IsLatest (latest_of old.latest c) (Some r) → IsLatest (latest_of new.latest c) (Some (change r))
  own r there lives it = by (has_any r.pointers) refl
    where
      any : has_any (seat_of told.seats c) ≡ has_any r.pointers
      any = ap (λ (ss : List (List ℕ)). has_any (seat_of ss c)) seats ∙ ap has_any (telling.seats c r there lives)

      was : latest_of told.latest c ≡ latest_of old.latest c
      was = ap (λ (l : List Latest). latest_of l c) latest

      by : (b : Bool) → has_any r.pointers ≡ b → IsLatest (latest_of new.latest c) (Some (change r))
      by false e =
          subst (λ (b : Bool). IsLatest (latest_of new.latest c) (Some (noted_if b pressed r))) (sym (has-any r ∙ e))
          (latest-as (latest_of old.latest c) (latest_of new.latest c) r r (ap (λ (l : List Latest). latest_of l c) (none (any ∙ e)) ∙ was) refl refl it)
      by true e =
          let drawn : serial ≡ Some r.peer.serial = is ∙ ap (option_map (λ (r : Resident). r.peer.serial)) there in
          subst (λ (b : Bool). IsLatest (latest_of new.latest c) (Some (noted_if b pressed r))) (sym (has-any r ∙ e))
          (drawn-latest (has_pointers (noted pressed r)) (noted_by pressed r.peer.serial (latest_of old.latest c)) (latest_of new.latest c) (noted pressed r)
          (some (any ∙ e) r.peer.serial drawn ∙ ap (noted_by pressed r.peer.serial) was) (noted-latest pressed (latest_of old.latest c) r it))

  are-noted : AreNoted old.latest new.latest c change (client_at c m.desktop)
  are-noted = record { own = own; others = λ k apart. others k apart ∙ ap (λ (l : List Latest). latest_of l k) latest }

  module _ (time button : ℕ) (kept : new.kept ≡ told.kept) (pointer : new.pointer ≡ told.pointer) (same : new.seats ≡ told.seats)
      (tells : (now : List Latest) (turn : Resident → Resident) (events : Resident → List Said) (m : Midstep) → IsTelling old m
      → IsToldOf (Button time button pressed) turn events (client_at c m.desktop) → AreNoted old.latest now c turn (client_at c m.desktop)
      → (n : Midstep) × Tells turn events c m n × IsTelling (record told { latest = now }) n) where
    pub button-noted : (n : Midstep) × Tells change (button_told time button (number_of pressed)) c m n × IsTelling new n
    button-noted =
        let h = tells new.latest change (button_told time button (number_of pressed)) m telling (button-of time button c pressed m) are-noted in
        (h.0, h.1, telling-same (record told { latest = new.latest }) new h.0 kept (ap (λ p. p.place) pointer) same refl h.2)

-- ---- the serials of a client that takes a message

fed-alive : (s : Option Cause) → Alive ≡ fed_of s → s ≡ None
fed-alive None e = refl
fed-alive (Some why) e = absurd (cc)

module _ (v : DeskView) (d : Desktop) (a : Agrees v d) (c : ℕ) (fed : Fed) (is : fed ≡ status_fed (peer_at c d)) where
  -- it lives
  pub latest-alive : fed ≡ Alive → IsLatest (latest_of v.latest c) (client_at c d)
  latest-alive alive = at (client_at c d) refl (sym alive ∙ is)
    where
      at : (o : Option Resident) → client_at c d ≡ o → Alive ≡ status_fed (peer_of o) → IsLatest (latest_of v.latest c) o
      at None there e = tt
      at (Some r) there e = a.latest c r there (fed-alive r.peer.status e) refl

  -- it ended, or isn't there
  pub latest-none : fed ≢ Alive → IsLatest no_latest (client_at c d)
  latest-none over = at (client_at c d) refl is
    where
      bare : (r : Resident) (s : Option Cause) (tops : List Standing) → InOrderBy s r tops → fed ≡ fed_of s → IsLatest no_latest (Some r)
      bare r None tops h e = absurd (over e)
      bare r (Some why) tops h e = (sym (ap (λ (x : Resident). x.press) h.0), sym (ap (λ (x : Resident). x.release) h.0))

      at : (o : Option Resident) → client_at c d ≡ o → fed ≡ status_fed (peer_of o) → IsLatest no_latest o
      at None there e = tt
      at (Some r) there e =
          bare r r.peer.status (toplevels_of c d) (subst (λ (o : Option Resident). InOrderAt o (toplevels_of c d)) there (a.kept.ordered.in_order.each c)) e
