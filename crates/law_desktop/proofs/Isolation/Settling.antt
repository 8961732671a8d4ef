-- What the settling of the pointer's focus leaves of one client.
use Rattle.std.proofs.Common.{◌≡◌, ◌≢◌, ℕ, zero, suc, List, [], ◌∷◌, Bool, true, false, cond, Option, Some, None, refl, ap, subst, sym, ◌∙◌, inl, inr}
use Rattle.std.specs.Prelude.{◌==◌, ◌||◌, ◌⊎◌, nat_lt, not, filter, is_some}
use Rattle.std.proofs.lemmas.Bool.{eqb-true}
use Rattle.spec_desktop.specs.declared.cause.Cause.{Cause}
use Rattle.spec_desktop.specs.Peer.{ended}
use Rattle.spec_desktop.specs.Told.{Said}
use Rattle.spec_desktop.specs.Pointer.{Target}
use Rattle.spec_desktop.specs.PointerActions.{Leave, Enter}
use Rattle.spec_desktop.specs.Stacking.{Standing, without_client}
use Rattle.spec_desktop.specs.Windows.{Window}
use Rattle.spec_desktop.specs.Desktop.{Desktop, Resident, client_at, client_in, resident_of, with_number, toplevels_of}
use Rattle.spec_desktop.specs.Replies.{focus_window}
use Rattle.spec_desktop.specs.Settling.{Applies, EndsAndSettles, EndsFirst, Midstep, Settles, SettlesAll, SettlesEnds, Strike, Tells, TellsAt, TellsUnless, ended_all, ended_at}
use Rattle.spec_desktop.specs.Settling.{ended_by, in_order, is_struck, struck_by, unstruck}
use Rattle.law_desktop.proofs.Isolation.Others.{left_out, one_client}
use Rattle.law_desktop.proofs.Runs.Focus.{settles-keeps}
use Rattle.law_desktop.proofs.Runs.Places.{number-other, number-same}
use Rattle.law_desktop.proofs.Marks.Stacks.{equal-numbers}
use Rattle.law_desktop.proofs.Isolation.Told.{TellsBy, TellsFocus}
use Rattle.law_desktop.proofs.Truth.{or-left, or-right}

-- What is known of a client and of its toplevels, and of why it is to end: it stays so as the client is told, and as it ends.
pub record Stays (T : Resident → Resident → Option Cause → Type 0) (A : Option Resident → List Standing → Type 0) (P : Resident → Cause → Type 0) : Type 0 where
  pub told : (r q : Resident) (tops : List Standing) (why : Option Cause) → r.peer.status ≡ None → A (Some r) tops → T r q why → A (Some q) tops
  pub untold : (r q : Resident) (tops : List Standing) (cause : Cause) → r.peer.status ≡ None → A (Some r) tops → T r q (Some cause) → P q cause
  pub ends : (r : Resident) (tops : List Standing) (cause : Cause) → A (Some r) tops → P r cause → A (Some (resident_of (ended cause r.peer))) []
  pub again : (r : Resident) (cause other : Cause) → P r cause → P r other → P (resident_of (ended cause r.peer)) other

-- a client lives
lives : (s : Option Cause) → is_some s ≡ false → s ≡ None
lives None e = refl
lives (Some cause) e = absurd (cc)

-- no toplevel of a client is left as that ends
none_of-at : (c : ℕ) (s : Standing) (ss : List Standing) (b : Bool) → (s.client == c) ≡ b → filter (λ s. s.client == c) (without_client c ss) ≡ []
    → filter (λ s. s.client == c) (cond (not b) (s ∷ without_client c ss) (without_client c ss)) ≡ []
none_of-at c s ss true e rest = rest
none_of-at c s ss false e rest = ap (λ (b : Bool). cond b (s ∷ filter (λ s. s.client == c) (without_client c ss)) (filter (λ s. s.client == c) (without_client c ss))) e ∙ rest

pub none_of : (c : ℕ) (ss : List Standing) → filter (λ s. s.client == c) (without_client c ss) ≡ []
none_of c [] = refl
none_of c (s ∷ ss) = none_of-at c s ss (s.client == c) refl (none_of c ss)

-- a number is this one, or another
abbrev IsOrNot : ℕ → ℕ → Type 0
IsOrNot c other = (c ≡ other) ⊎ (c ≢ other)

is-or-not : (c other : ℕ) → IsOrNot c other
is-or-not c other = at (c == other) refl
  where
    at : (b : Bool) → (c == other) ≡ b → IsOrNot c other
    at true e = inl (eqb-true c other e)
    at false e = inr (λ same. unequal (sym e ∙ equal-numbers c other same))
      where
        unequal : false ≡ true → ⊥
        unequal f = absurd (cc)

module _ (other : ℕ) (T : Resident → Resident → Option Cause → Type 0) (focus : TellsFocus T) (A : Option Resident → List Standing → Type 0) (P : Resident → Cause → Type 0) (stays : Stays T A P) where
  -- it is known of the client with the number
  abbrev pub IsIn : Desktop → Type 0
  IsIn d = A (client_at other d) (toplevels_of other d)

  abbrev pub PAt : Option Resident → Cause → Type 0
  PAt None cause = Unit {0}
  PAt (Some r) cause = P r cause

  -- of each strike of its
  abbrev pub AreIn : Option Resident → List Strike → Type 0
  AreIn o [] = Unit {0}
  AreIn o (s ∷ ss) = (s.client ≡ other → PAt o s.cause) × AreIn o ss

  abbrev pub IsWithin : Midstep → Type 0
  IsWithin m = IsIn m.desktop × AreIn (client_at other m.desktop) m.struck

  -- ---- what changes another client

  moved : (o p : Option Resident) (tops now : List Standing) → p ≡ o → now ≡ tops → A o tops → A p now
  moved o p tops now e f known = rw (e, f) known

  are-moved : (o p : Option Resident) (ss : List Strike) → p ≡ o → AreIn o ss → AreIn p ss
  are-moved o p ss e known = rw e known

  pub within-same : (m n : Midstep) → n ≡ m → IsWithin m → IsWithin n
  within-same m n e known = rw e known

  pub in-same : (d e : Desktop) → e ≡ d → IsIn d → IsIn e
  in-same d e same known = rw same known

  -- ---- strikes

  ordered : (o : Option Resident) (s : Strike) (ss : List Strike) → (s.client ≡ other → PAt o s.cause) → AreIn o ss → AreIn o (in_order s ss)
  ordered o s [] known rest = (known, tt)
  ordered o s (t ∷ ts) known rest = at (nat_lt s.client t.client) (ordered o s ts known rest.1)
    where
      at : (b : Bool) → AreIn o (in_order s ts) → AreIn o (cond b (s ∷ t ∷ ts) (t ∷ in_order s ts))
      at true more = (known, rest)
      at false more = (rest.0, more)

  -- a client is struck, or isn't
  pub struck-so : (o : Option Resident) (c : ℕ) (why : Option Cause) (ss : List Strike) → ((cause : Cause) → why ≡ Some cause → c ≡ other → PAt o cause) → AreIn o ss → AreIn o (struck_by c why ss)
  struck-so o c None ss known rest = rest
  struck-so o c (Some cause) ss known rest = ordered o (record { client = c; cause = cause }) ss (known cause refl) rest

  -- where none of these is its, all is known
  unstruck-in : (o : Option Resident) (ss : List Strike) → is_struck other ss ≡ false → AreIn o ss
  unstruck-in o [] e = tt
  unstruck-in o (s ∷ ss) e = (
    λ same. absurd (unequal (sym (equal-numbers s.client other same) ∙ or-left (s.client == other) (is_struck other ss) e)),
    unstruck-in o ss (or-right (s.client == other) (is_struck other ss) e),
  )
    where
      unequal : true ≡ false → ⊥
      unequal f = absurd (cc)

  -- ---- a client is told

  -- the one that is known of is told
  tells-it : (change : Resident → Resident) (events : Resident → List Said) → TellsBy T change events → (r : Resident) (old new : Midstep) → client_at other old.desktop ≡ Some r → r.peer.status ≡ None
      → is_struck other old.struck ≡ false → IsWithin old → TellsUnless false change events other r old new → IsWithin new
  tells-it change events tells r old new there alive unstruck known h =
      let told : Resident = record (change r) { peer = h.0 } in
      let so : T r told h.1 = tells r h.0 h.1 h.2 in
      let found : client_in (with_number other (Some told) old.desktop.clients) other ≡ Some told = number-same old.desktop.clients other (Some told) r there in
      let before : A (Some r) (toplevels_of other old.desktop) = rw there at known.0 in
      within-same _ new h.3 (
        moved (Some told) _ (toplevels_of other old.desktop) _ found refl (stays.told r told (toplevels_of other old.desktop) h.1 alive before so),
        are-moved (Some told) _ (struck_by other h.1 old.struck) found
            (struck-so (Some told) other h.1 old.struck
            (λ cause why same. stays.untold r told (toplevels_of other old.desktop) cause alive before (rw why at so))
            (unstruck-in (Some told) old.struck unstruck)),
      )

  -- another is told
  tells-another : (change : Resident → Resident) (events : Resident → List Said) (c : ℕ) (r : Resident) (old new : Midstep) → c ≢ other → IsWithin old → TellsUnless false change events c r old new
      → IsWithin new
  tells-another change events c r old new differ known h =
      let told : Resident = record (change r) { peer = h.0 } in
      let found : client_in (with_number c (Some told) old.desktop.clients) other ≡ client_at other old.desktop = number-other old.desktop.clients c other (Some told) differ in
      within-same _ new h.3 (
        moved (client_at other old.desktop) _ (toplevels_of other old.desktop) _ found refl known.0,
        are-moved (client_at other old.desktop) _ (struck_by c h.1 old.struck) found
            (struck-so (client_at other old.desktop) c h.1 old.struck (λ cause why same. absurd (differ same)) known.1),
      )

  pub tells-in : (change : Resident → Resident) (events : Resident → List Said) → TellsBy T change events → (c : ℕ) (old new : Midstep) → IsWithin old → Tells change events c old new → IsWithin new
  tells-in change events tells c old new known h = at (client_at c old.desktop) refl h
    where
      it : (r : Resident) → client_at c old.desktop ≡ Some r → (is_some r.peer.status || is_struck c old.struck) ≡ false → TellsUnless false change events c r old new → IsOrNot c other → IsWithin new
      it r there lively k (inr differ) = tells-another change events c r old new differ known k
      it r there lively k (inl same) =
          tells-it change events tells r old new (ap (λ (n : ℕ). client_at n old.desktop) (sym same) ∙ there)
          (lives r.peer.status (or-left (is_some r.peer.status) (is_struck c old.struck) lively))
          (ap (λ (n : ℕ). is_struck n old.struck) (sym same) ∙ or-right (is_some r.peer.status) (is_struck c old.struck) lively)
          known (subst (λ (n : ℕ). TellsUnless false change events n r old new) same k)

      guarded : (r : Resident) → client_at c old.desktop ≡ Some r → (b : Bool) → (is_some r.peer.status || is_struck c old.struck) ≡ b → TellsUnless b change events c r old new → IsWithin new
      guarded r there true e k = within-same old new k known
      guarded r there false e k = it r there e k (is-or-not c other)

      at : (o : Option Resident) → client_at c old.desktop ≡ o → TellsAt change events c o old new → IsWithin new
      at None there k = within-same old new k known
      at (Some r) there k = guarded r there (is_some r.peer.status || is_struck c old.struck) refl k

  -- ---- the focus moves

  pub leaves-in : (windows : List Window) (t : Target) (old new : Midstep) → IsWithin old → Applies windows (Leave t) old new → IsWithin new
  leaves-in windows t old new known h =
      let told : IsWithin h.0 = tells-in _ _ (focus.leave t.surface) t.client old h.0 known h.1 in within-same _ new h.2 told

  pub enters-in : (windows : List Window) (t : Target) (old new : Midstep) → IsWithin old → Applies windows (Enter t) old new → IsWithin new
  enters-in windows t old new known h =
      let told : IsWithin h.0 = tells-in _ _ (focus.enter old.desktop.pointer.place (focus_window (Some t) windows)) t.client old h.0 known h.1 in
      within-same _ new h.2 told

  pub settles-in : (old new : Midstep) → IsWithin old → Settles old new → IsWithin new
  settles-in old new known h = settles-keeps IsWithin leaves-in enters-in old new known h

  -- ---- clients end

  again-in : (r : Resident) (cause : Cause) → P r cause → (ss : List Strike) → AreIn (Some r) ss → AreIn (Some (resident_of (ended cause r.peer))) ss
  again-in r cause known [] rest = tt
  again-in r cause known (s ∷ ss) rest = (λ same. stays.again r cause s.cause known (rest.0 same), again-in r cause known ss rest.1)

  pub ended-in : (c : ℕ) (cause : Cause) (ss : List Strike) (d : Desktop) → IsIn d → (c ≡ other → PAt (client_at other d) cause) → AreIn (client_at other d) ss
      → IsWithin (record { desktop = ended_at c cause (client_at c d) d; struck = ss })
  ended-in c cause ss d known why rest = at (client_at c d) refl
    where
      it : (r : Resident) → client_at c d ≡ Some r → IsOrNot c other → IsWithin (record { desktop = ended_at c cause (Some r) d; struck = ss })
      it r there (inr differ) =
          let found : client_in (with_number c (Some (resident_of (ended cause r.peer))) d.clients) other ≡ client_at other d = number-other d.clients c other _ differ in (
            moved (client_at other d) _ (toplevels_of other d) _ found (left_out (λ s. not (s.client == c)) other (one_client c other differ) d.standing) known,
            are-moved (client_at other d) _ ss found rest,
          )
      it r there (inl same) =
          let gone : Resident = resident_of (ended cause r.peer) in
          let there_too : client_at other d ≡ Some r = ap (λ (n : ℕ). client_at n d) (sym same) ∙ there in
          let found : client_in (with_number c (Some gone) d.clients) other ≡ Some gone =
          ap (λ (n : ℕ). client_in (with_number c (Some gone) d.clients) n) (sym same) ∙ number-same d.clients c (Some gone) r there in
          let none : filter (λ s. s.client == other) (without_client c d.standing) ≡ [] =
          ap (λ (n : ℕ). filter (λ s. s.client == other) (without_client n d.standing)) same ∙ none_of other d.standing in
          let before : A (Some r) (toplevels_of other d) = rw there_too at known in
          let because : P r cause = rw there_too at why same in
          let those : AreIn (Some r) ss = rw there_too at rest in (
            moved (Some gone) _ [] _ found none (stays.ends r (toplevels_of other d) cause before because),
            are-moved (Some gone) _ ss found (again-in r cause because ss those),
          )

      at : (o : Option Resident) → client_at c d ≡ o → IsWithin (record { desktop = ended_at c cause o d; struck = ss })
      at None there = (known, rest)
      at (Some r) there = it r there (is-or-not c other)

  pub ends-in : (Next : Midstep → Desktop → Type 0) → ((m : Midstep) (new : Desktop) → IsWithin m → Next m new → IsIn new) → (ss : List Strike) (d new : Desktop) → IsIn d
      → AreIn (client_at other d) ss → EndsFirst Next ss d new → IsIn new
  ends-in Next then [] d new known rest h = in-same d new h known
  ends-in Next then (s ∷ ss) d new known rest h = then _ new (ended-in s.client s.cause ss d known rest.0 rest.1) h

  pub settles-all : (n : ℕ) (old : Midstep) (new : Desktop) → IsWithin old → SettlesAll n old new → IsIn new
  settles-all zero old new known h = in-same old.desktop new h known.0
  settles-all (suc n) old new known h =
      let settled : IsWithin h.0 = settles-in old h.0 known h.1 in
      ends-in (SettlesAll n) (settles-all n) h.0.struck h.0.desktop new settled.0 settled.1 h.2

  -- those that are to end do, one after another
  pub all-end : (ss : List Strike) (d : Desktop) → IsIn d → AreIn (client_at other d) ss → IsIn (ended_all ss d)
  all-end [] d known rest = known
  all-end (s ∷ ss) d known rest =
      let more : IsWithin (record { desktop = ended_by s d; struck = ss }) = ended-in s.client s.cause ss d known rest.0 rest.1 in
      all-end ss (ended_by s d) more.0 more.1

  -- what comes after a step's own change: all that are to end do, and the focus is settled
  pub settling-in : (mid : Midstep) (new : Desktop) → IsWithin mid → EndsAndSettles mid new → IsIn new
  settling-in mid new known h =
      settles-all 33 (unstruck (ended_all mid.struck mid.desktop)) new (all-end mid.struck mid.desktop known.0 known.1, tt) h

  -- or the focus was settled already
  pub ending-in : (mid : Midstep) (new : Desktop) → IsWithin mid → SettlesEnds mid new → IsIn new
  ending-in mid new known h = ends-in (SettlesAll 32) (settles-all 32) mid.struck mid.desktop new known.0 known.1 h

  -- a message's own change is done, and the focus is settled
  pub settled-in : (d new : Desktop) → IsIn d → EndsAndSettles (unstruck d) new → IsIn new
  settled-in d new known h = settles-all 33 (unstruck d) new (known, tt) h
