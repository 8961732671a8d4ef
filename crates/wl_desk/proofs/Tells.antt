-- What a client is told leaves the desktop otherwise as it was.
use Rattle.std.proofs.Common.{◌≡◌, ◌≢◌, ℕ, List, [], Bool, true, false, Option, Some, None, refl, ap, subst, sym, ◌∙◌, inl, inr}
use Rattle.std.specs.Prelude.{◌⊎◌, ◌||◌, is_some}
use Rattle.spec_desktop.specs.declared.cause.Cause.{Cause}
use Rattle.spec_desktop.specs.Peer.{Peer, QueuesTo}
use Rattle.spec_desktop.specs.Told.{Said}
use Rattle.spec_desktop.specs.Pointer.{Pointer, first_pointer}
use Rattle.spec_desktop.specs.Desktop.{Desktop, Resident, client_at, with_client}
use Rattle.spec_desktop.specs.Settling.{Midstep, Tells, TellsAt, TellsUnless, is_struck}
use Rattle.law_desktop.proofs.Runs.Fates.{same-or}
use Rattle.law_desktop.proofs.Runs.Places.{client-kept, number-other, number-same}
use Rattle.law_desktop.proofs.Runs.Settled.{ShowsSame, put-shows, shows-itself}

-- ---- lists of one

either-false : (a b : Bool) → (a || b) ≡ false → a ≡ false
either-false true b e = e
either-false false b e = refl

pub lives-not : (s : Option Cause) → is_some s ≡ false → s ≡ None
lives-not None e = refl
lives-not (Some cause) e = absurd (cc)

some-is : {X : Type 0} (x y : X) → Some x ≡ Some y → x ≡ y
some-is x y e = cc

-- ---- who isn't told

-- one that ended isn't told, whatever it were told
pub tells-other : (change other : Resident → Resident) (events others : Resident → List Said) (c : ℕ) (m n : Midstep) (r : Resident) → client_at c m.desktop ≡ Some r
    → is_some r.peer.status ≡ true → Tells change events c m n → Tells other others c m n
tells-other change other events others c m n r there over h =
    subst (λ (o : Option Resident). TellsAt other others c o m n) (sym there)
    (by (is_some r.peer.status) over (subst (λ (o : Option Resident). TellsAt change events c o m n) there h))
  where
    by : (b : Bool) → b ≡ true → TellsUnless (b || is_struck c m.struck) change events c r m n → TellsUnless (b || is_struck c m.struck) other others c r m n
    by true e h = h
    by false e h = absurd (cc)

-- where nothing is to be told and nothing changes, nothing does
pub tells-nothing : (change : Resident → Resident) (events : Resident → List Said) (c : ℕ) (m : Midstep)
    → ((r : Resident) → client_at c m.desktop ≡ Some r → r.peer.status ≡ None → (change r ≡ r) × (events r ≡ [])) → Tells change events c m m
tells-nothing change events c m none = at (client_at c m.desktop) refl
  where
    unless : (b : Bool) (r : Resident) → client_at c m.desktop ≡ Some r → (is_some r.peer.status || is_struck c m.struck) ≡ b → TellsUnless b change events c r m m
    unless true r there e = refl
    unless false r there e =
        let is = none r there (lives-not r.peer.status (either-false (is_some r.peer.status) (is_struck c m.struck) e)) in (
          (change r).peer,
          None,
          subst (λ (es : List Said). QueuesTo es (change r).peer (change r).peer None) (sym is.1) (refl, refl),
          sym (ap (λ (x : Option Resident). record { desktop = with_client c x m.desktop; struck = m.struck }) (ap Some is.0 ∙ sym there)
              ∙ ap (λ (d : Desktop). record { desktop = d; struck = m.struck }) (client-kept c m.desktop)),
        )

    at : (o : Option Resident) → client_at c m.desktop ≡ o → TellsAt change events c o m m
    at None there = refl
    at (Some r) there = unless (is_some r.peer.status || is_struck c m.struck) r there refl

-- ---- what stays

pub tells-pointer : (change : Resident → Resident) (events : Resident → List Said) (c : ℕ) (m n : Midstep) → Tells change events c m n → n.desktop.pointer ≡ m.desktop.pointer
tells-pointer change events c m n h = at (client_at c m.desktop) h
  where
    unless : (b : Bool) (r : Resident) → TellsUnless b change events c r m n → n.desktop.pointer ≡ m.desktop.pointer
    unless true r h = ap (λ (x : Midstep). x.desktop.pointer) h
    unless false r h = ap (λ (x : Midstep). x.desktop.pointer) h.3

    at : (o : Option Resident) → TellsAt change events c o m n → n.desktop.pointer ≡ m.desktop.pointer
    at None h = ap (λ (x : Midstep). x.desktop.pointer) h
    at (Some r) h = unless _ r h

-- what is shown stays where the client owns what it did
pub tells-shows : (change : Resident → Resident) (events : Resident → List Said) → ((r : Resident) → (change r).owned ≡ r.owned) → (c : ℕ) (m n : Midstep)
    → Tells change events c m n → ShowsSame m.desktop n.desktop
tells-shows change events same c m n h = at (client_at c m.desktop) refl h
  where
    unless : (b : Bool) (r : Resident) → client_at c m.desktop ≡ Some r → TellsUnless b change events c r m n → ShowsSame m.desktop n.desktop
    unless true r there h = shows-itself m.desktop n.desktop (ap (λ (x : Midstep). x.desktop) h)
    unless false r there h =
        subst (λ (x : Midstep). ShowsSame m.desktop x.desktop) (sym h.3) (put-shows c r (Some (record (change r) { peer = h.0 })) m.desktop there (same r))

    at : (o : Option Resident) → client_at c m.desktop ≡ o → TellsAt change events c o m n → ShowsSame m.desktop n.desktop
    at None there h = shows-itself m.desktop n.desktop (ap (λ (x : Midstep). x.desktop) h)
    at (Some r) there h = unless _ r there h

-- each client that lives has these wl_pointers
abbrev pub Have : (ℕ → List ℕ) → Desktop → Type 0
Have seats d = (c : ℕ) (r : Resident) → client_at c d ≡ Some r → r.peer.status ≡ None → seats c ≡ r.pointers

-- so it stays where the client that is told keeps its own
pub tells-seats : (seats : ℕ → List ℕ) (change : Resident → Resident) (events : Resident → List Said) (c : ℕ) (m n : Midstep)
    → ((r : Resident) → client_at c m.desktop ≡ Some r → r.peer.status ≡ None → (change r).pointers ≡ r.pointers) → Have seats m.desktop → Tells change events c m n → Have seats n.desktop
tells-seats seats change events c m n same have h = at (client_at c m.desktop) refl h
  where
    stays : n ≡ m → Have seats n.desktop
    stays e = subst (λ (x : Midstep). Have seats x.desktop) (sym e) have

    put : (r : Resident) (q : Peer) → client_at c m.desktop ≡ Some r → r.peer.status ≡ None → Have seats (with_client c (Some (record (change r) { peer = q })) m.desktop)
    put r q there lives k x found alive = by (same-or c k)
      where
        by : (c ≡ k) ⊎ (c ≢ k) → seats k ≡ x.pointers
        by (inl e) =
            let own : Some (record (change r) { peer = q }) ≡ Some x =
            sym (number-same m.desktop.clients c (Some (record (change r) { peer = q })) r there)
            ∙ subst (λ (j : ℕ). client_at j (with_client c (Some (record (change r) { peer = q })) m.desktop) ≡ Some x) (sym e) found in
            subst (λ (j : ℕ). seats j ≡ x.pointers) e
            (have c r there lives ∙ sym (same r there lives) ∙ ap (λ (y : Resident). y.pointers) (some-is (record (change r) { peer = q }) x own))
        by (inr differ) = have k x (sym (number-other m.desktop.clients c k (Some (record (change r) { peer = q })) differ) ∙ found) alive

    unless : (b : Bool) (r : Resident) → client_at c m.desktop ≡ Some r → (is_some r.peer.status || is_struck c m.struck) ≡ b → TellsUnless b change events c r m n → Have seats n.desktop
    unless true r there e h = stays h
    unless false r there e h =
        subst (λ (x : Midstep). Have seats x.desktop) (sym h.3)
        (put r h.0 there (lives-not r.peer.status (either-false (is_some r.peer.status) (is_struck c m.struck) e)))

    at : (o : Option Resident) → client_at c m.desktop ≡ o → TellsAt change events c o m n → Have seats n.desktop
    at None there h = stays h
    at (Some r) there h = unless (is_some r.peer.status || is_struck c m.struck) r there refl h

-- ---- the pointer put aside

-- the middle of a step with this pointer
abbrev pub put : Pointer → Midstep → Midstep
put p m = record m { desktop = record m.desktop { pointer = p } }

pub tells-put : (change : Resident → Resident) (events : Resident → List Said) (c : ℕ) (p : Pointer) (m n : Midstep) → Tells change events c m n → Tells change events c (put p m) (put p n)
tells-put change events c p m n h = at (client_at c m.desktop) h
  where
    unless : (b : Bool) (r : Resident) → TellsUnless b change events c r m n → TellsUnless b change events c r (put p m) (put p n)
    unless true r h = ap (put p) h
    unless false r h = (h.0, h.1, h.2, ap (put p) h.3)

    at : (o : Option Resident) → TellsAt change events c o m n → TellsAt change events c o (put p m) (put p n)
    at None h = ap (put p) h
    at (Some r) h = unless _ r h

-- the same where nobody has pointed
pub tells-apart : (change : Resident → Resident) (events : Resident → List Said) (c : ℕ) (m n : Midstep) → Tells change events c (put first_pointer m) n
    → Tells change events c m (put m.desktop.pointer n)
tells-apart change events c m n h = tells-put change events c m.desktop.pointer (put first_pointer m) n h

pub put-back : (p q : Pointer) (n : Midstep) → n.desktop.pointer ≡ q → put q (put p n) ≡ n
put-back p q n e = ap (λ (x : Pointer). put x n) (sym e)
