-- The first client that is to end does, and the pointer leaves it.
use Rattle.std.proofs.Common.{◌≡◌, ◌≢◌, ℕ, zero, suc, ◌+◌, List, [], ◌∷◌, ◌++◌, Bool, true, false, Option, Some, None, refl, ap, ap₂, subst, sym, ◌∙◌, length, arith, inl, inr}
use Rattle.std.proofs.lemmas.Option.{none-some, same_Some}
use Rattle.std.specs.Option.{option_map}
use Rattle.std.specs.Prelude.{◌⊎◌, ◌||◌, pos}
use Rattle.wl_client.specs.View.{ClientView, opened}
use Rattle.wl_paint.specs.Damage.{Damaged, has}
use Rattle.spec_desktop.specs.declared.cause.Cause.{Cause}
use Rattle.spec_desktop.specs.Peer.{ended}
use Rattle.spec_desktop.specs.Pointer.{Pointer, Target}
use Rattle.wl_scene.specs.Focus.{unless_of as scene_unless}
use Rattle.spec_desktop.specs.Desktop.{Desktop, Resident, client_at, resident_of, unpointed}
use Rattle.spec_desktop.specs.Moments.{marks_at_least, marks_at_most}
use Rattle.spec_desktop.specs.Settling.{Midstep, Strike, ended_at, ended_by, pointer_without, unless_of}
use Rattle.law_desktop.proofs.Runs.Fates.{same-or}
use Rattle.law_desktop.proofs.Runs.Places.{number-other, number-same}
use Rattle.law_desktop.specs.Pointed.Rounds.{AreToEnd, Lives}
use Rattle.wl_clients.specs.Agreement.{IsPlace}
use Rattle.wl_clients.specs.Marking.{MarksAtLeast, MarksMost, MarksThrough}
use Rattle.wl_clients.specs.declared.grabs.Latest.{Latest}
use Rattle.wl_clients.specs.View.{DeskView as KeptView, OwnedView}
use Rattle.wl_clients.specs.Midway.{IsMid, RefusedLives, first_struck, opened_desk, strike_for, strikes_from}
use Rattle.wl_clients.proofs.Desktops.{at, at-map, map-length, place-at}
use Rattle.wl_clients.proofs.Strikes.{none-struck, refused_in}
use Rattle.wl_desk.specs.Agreeing.{AreLatest, AreSeats}
use Rattle.wl_desk.specs.Midway.{IsMidway, unpointed_mid}
use Rattle.wl_desk.specs.View.{DeskView, seat_of}
use Rattle.wl_desk.proofs.LatestStay.{ended-latest}
use Rattle.wl_desk.proofs.Placed.{ended-placed}
use Rattle.wl_desk.proofs.Telling.{seen}
use Rattle.wl_desk.proofs.Tells.{Have}

-- ---- who is to end lives

not-none : (o : Option Cause) (cause : Cause) → o ≡ Some cause → o ≢ None
not-none o cause e none = none-some cause (sym none ∙ e)

lives-at : (x : Option ClientView) (o : Option OwnedView) (r : Option Resident) → IsPlace (option_map opened x) o r → RefusedLives x → (cause : Cause) → refused_in x ≡ Some cause
    → (s : Resident) × (r ≡ Some s) × (s.peer.status ≡ None)
lives-at None o r here lives cause refused = absurd (none-some cause refused)
lives-at (Some v) (Some o) (Some r) here lives cause refused = (r, refl, sym here.peer.status ∙ lives (not-none v.refused cause refused))
lives-at (Some v) None r here lives cause refused = absurd here
lives-at (Some v) (Some o) None here lives cause refused = absurd here

to-end : (d : Desktop) (start : ℕ) (vs : List (Option ClientView)) → ((k : ℕ) (cause : Cause) → refused_in (at vs k) ≡ Some cause → Lives (start + k) d) → AreToEnd (strikes_from start vs) d
to-end d start [] all = tt
to-end d start (x ∷ vs) all =
    head x (λ cause e. all zero cause e)
    (to-end d (suc start) vs (λ k cause e. subst (λ (n : ℕ). Lives n d) (let next : start + suc k ≡ suc start + k = omega arith in next) (all (suc k) cause e)))
  where
    by : (o : Option Cause) → ((cause : Cause) → o ≡ Some cause → Lives (start + zero) d) → AreToEnd (strikes_from (suc start) vs) d → AreToEnd (strike_for start o ++ strikes_from (suc start) vs) d
    by None here rest = rest
    by (Some cause) here rest = (
      subst (λ (n : ℕ). Lives n d) (let same : start + zero ≡ start = omega arith in same) (here cause refl),
      none-struck start (suc start) vs (omega arith),
      rest,
    )

    head : (x : Option ClientView) → ((cause : Cause) → refused_in x ≡ Some cause → Lives (start + zero) d) → AreToEnd (strikes_from (suc start) vs) d → AreToEnd (strikes_from start (x ∷ vs)) d
    head None here rest = rest
    head (Some v) here rest = by v.refused here rest

pub mid-to-end : (v : KeptView) (m : Midstep) → IsMid v m → AreToEnd m.struck m.desktop
mid-to-end v m mid =
    subst (λ (ss : List Strike). AreToEnd ss m.desktop) mid.struck
    (to-end m.desktop 1 v.clients (λ k cause e.
    let here : IsPlace (option_map opened (at v.clients k)) (at v.owned k) (client_at (suc k) m.desktop) =
    subst (λ (x : Option ClientView). IsPlace x (at v.owned k) (client_at (suc k) m.desktop)) (at-map opened v.clients k) (place-at (opened_desk v) m.desktop k mid.agrees.matches) in
    subst (λ (n : ℕ). Lives n m.desktop) (let next : suc k ≡ 1 + k = omega arith in next)
    (lives-at (at v.clients k) (at v.owned k) (client_at (suc k) m.desktop) here (mid.alive k) cause e)))

end-apart : (ss : List Strike) (d : Desktop) → AreToEnd ss (unpointed d) → AreToEnd ss d
end-apart [] d all = tt
end-apart (s ∷ ss) d all = (all.0, all.1, end-apart ss d all.2)

pub midway-to-end : (v : DeskView) (m : Midstep) → IsMidway v m → AreToEnd m.struck m.desktop
midway-to-end v m midway = end-apart m.struck m.desktop (mid-to-end v.kept (unpointed_mid m) midway.telling.kept)

-- as many clients are kept as the desktop has
pub mid-long : (v : KeptView) (m : Midstep) → IsMid v m → length v.clients ≡ length m.desktop.clients
mid-long v m mid = sym (map-length (option_map opened) v.clients) ∙ mid.agrees.matches.count

-- the first that is to end
pub first-of : (ss : List Strike) (c : ℕ) → Some c ≡ first_struck ss → (s : Strike) × (rest : List Strike) × (ss ≡ s ∷ rest) × (s.client ≡ c)
first-of [] c e = absurd (none-some c (sym e))
first-of (s ∷ ss) c e = (s, ss, refl, same_Some s.client c (sym e))

pub none-first : (ss : List Strike) → None ≡ first_struck ss → ss ≡ []
none-first [] e = refl
none-first (s ∷ ss) e = absurd (none-some s.client e)

pub some-first : (ss : List Strike) (c : ℕ) → Some c ≡ first_struck ss → ss ≢ []
some-first ss c e none = none-some c (sym (e ∙ ap first_struck none))

-- ---- it ends

pub ended-apart : (s : Strike) (d : Desktop) → ended_by s (unpointed d) ≡ unpointed (ended_by s d)
ended-apart s d = by (client_at s.client d)
  where
    by : (o : Option Resident) → ended_at s.client s.cause o (unpointed d) ≡ unpointed (ended_at s.client s.cause o d)
    by None = refl
    by (Some r) = refl

same-unless : (c : ℕ) (t : Option Target) → scene_unless c t ≡ unless_of c t
same-unless c None = refl
same-unless c (Some t) = refl

-- the pointer leaves it
abbrev pub left_by : ℕ → Pointer → Pointer
left_by c p = record p { focus = scene_unless c p.focus; move = scene_unless c p.move }

left-so : (c : ℕ) (p : Pointer) → left_by c p ≡ pointer_without c p
left-so c p = ap₂ (λ (focus move : Option Target). record p { focus = focus; move = move }) (same-unless c p.focus) (same-unless c p.move)

module _ (s : Strike) (d : Desktop) (r : Resident) (there : client_at s.client d ≡ Some r) where
  pub ended-pointer : (ended_by s d).pointer ≡ pointer_without s.client d.pointer
  ended-pointer = ap (λ (o : Option Resident). (ended_at s.client s.cause o d).pointer) there

  abbrev gone : Resident
  gone = resident_of (ended s.cause r.peer)

  -- one that lives has the wl_pointers that it had
  pub ended-seats : (seats : ℕ → List ℕ) → Have seats d → Have seats (ended_by s d)
  ended-seats seats have = subst (λ (o : Option Resident). Have seats (ended_at s.client s.cause o d)) (sym there) others
    where
      others : Have seats (ended_at s.client s.cause (Some r) d)
      others k x found alive = by (same-or s.client k)
        where
          by : (s.client ≡ k) ⊎ (s.client ≢ k) → seats k ≡ x.pointers
          by (inl e) =
              let own : client_at s.client (ended_at s.client s.cause (Some r) d) ≡ Some x =
              subst (λ (j : ℕ). client_at j (ended_at s.client s.cause (Some r) d) ≡ Some x) (sym e) found in
              let same : gone ≡ x = same_Some gone x (sym (number-same d.clients s.client (Some gone) r there) ∙ own) in
              absurd (none-some s.cause (sym (ap (λ (y : Resident). y.peer.status) same ∙ alive)))
          by (inr differ) = have k x (sym (number-other d.clients s.client k (Some gone) differ) ∙ found) alive

-- what is kept agrees with the step where it ended
pub ended-midway : (old new : DeskView) (s : Strike) (ss : List Strike) (m : Midstep) → m.struck ≡ s ∷ ss → IsMidway old m
    → IsMid new.kept (record { desktop = ended_by s (unpointed m.desktop); struck = ss }) → new.seats ≡ old.seats → new.latest ≡ old.latest
    → new.pointer ≡ left_by s.client old.pointer
    → IsMidway new (record { desktop = ended_by s m.desktop; struck = ss })
ended-midway old new s ss m struck midway kept seats latest pointer =
    let ends : AreToEnd (s ∷ ss) m.desktop = subst (λ (ts : List Strike). AreToEnd ts m.desktop) struck (midway-to-end old m midway) in
    let r : Resident = ends.0.0 in
    let there : client_at s.client m.desktop ≡ Some r = ends.0.1 in
    let after : (ended_by s m.desktop).pointer ≡ pointer_without s.client m.desktop.pointer = ended-pointer s m.desktop r there in
    let so : new.pointer ≡ (ended_by s m.desktop).pointer = pointer ∙ ap (left_by s.client) midway.pointer ∙ left-so s.client m.desktop.pointer ∙ sym after in
    record {
      telling = record {
        kept = subst (λ (d : Desktop). IsMid new.kept (record { desktop = d; struck = ss })) (ended-apart s m.desktop) kept;
        place = ap (λ (p : Pointer). p.place) so;
        seats = subst (λ (qs : List (List ℕ)). AreSeats qs (ended_by s m.desktop)) (sym seats) (ended-seats s m.desktop r there (seat_of old.seats) midway.telling.seats);
        latest = subst (λ (l : List Latest). AreLatest l (record { desktop = ended_by s m.desktop; struck = ss })) (sym latest)
            (ended-latest old.latest s ss m r struck there midway.telling.latest);
      };
      pointer = so;
      placed = ended-placed s m.desktop midway.placed;
    }

-- ---- what it marks

or-none : (b : Bool) → (b || false) ≡ b
or-none true = refl
or-none false = refl

pub ended-marks : (s : Strike) (d : Desktop) (old new : Damaged) → MarksAtLeast (unpointed d) (ended_by s (unpointed d)) old new → MarksMost (unpointed d) (ended_by s (unpointed d)) old new
    → MarksThrough d (ended_by s d ∷ []) old new
ended-marks s d old new least most = λ x y left above. (
  λ none.
      let h = least x y left above none in
      (h.0, or-none (marks_at_least d (ended_by s d) (pos x) (pos y)) ∙ sym (ap (λ (e : Desktop). marks_at_least (unpointed d) e (pos x) (pos y)) (ended-apart s d)) ∙ h.1),
  λ some.
      ap (λ (b : Bool). has old x y || b)
      (or-none (marks_at_most d (ended_by s d) None (pos x) (pos y)) ∙ sym (ap (λ (e : Desktop). marks_at_most (unpointed d) e None (pos x) (pos y)) (ended-apart s d)))
      ∙ most x y left above some,
)

-- ---- by what the clients promise

module _ (kept then : KeptView) (client : ℕ) (old new : Damaged)
    (ends : (s : Strike) (ss : List Strike) (d : Desktop) → s.client ≡ client → IsMid kept (record { desktop = d; struck = s ∷ ss })
    → IsMid then (record { desktop = ended_by s d; struck = ss }))
    (least : (s : Strike) (ss : List Strike) (d : Desktop) → s.client ≡ client → IsMid kept (record { desktop = d; struck = s ∷ ss }) → MarksAtLeast d (ended_by s d) old new)
    (most : (s : Strike) (ss : List Strike) (d : Desktop) → s.client ≡ client → IsMid kept (record { desktop = d; struck = s ∷ ss }) → MarksMost d (ended_by s d) old new)
    (seats : List (List ℕ)) (latest : List Latest) (p : Pointer) (s : Strike) (ss : List Strike) (m : Midstep) (same : s.client ≡ client) (struck : m.struck ≡ s ∷ ss) (midway : IsMidway (seen kept seats latest p) m) where
  begun : IsMid kept (record { desktop = unpointed m.desktop; struck = s ∷ ss })
  begun = subst (λ (ts : List Strike). IsMid kept (record { desktop = unpointed m.desktop; struck = ts })) struck midway.telling.kept

  pub ends-midway : (q : Pointer) → q ≡ left_by client p → IsMidway (seen then seats latest q) (record { desktop = ended_by s m.desktop; struck = ss })
  ends-midway q left =
      ended-midway (seen kept seats latest p) (seen then seats latest q) s ss m struck midway (ends s ss (unpointed m.desktop) same begun) refl refl
      (left ∙ ap (λ (c : ℕ). left_by c p) (sym same))

  pub ends-marked : MarksThrough m.desktop (ended_by s m.desktop ∷ []) old new
  ends-marked = ended-marks s m.desktop old new (least s ss (unpointed m.desktop) same begun) (most s ss (unpointed m.desktop) same begun)
