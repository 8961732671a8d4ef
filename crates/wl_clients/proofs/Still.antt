-- Where each client owns what it did and the same toplevels stand, the windows stay as they are painted, and nothing is marked.
use Rattle.std.proofs.Common.{◌≡◌, ℕ, zero, suc, ◌+◌, List, [], ◌∷◌, Bool, false, true, map, Option, Some, None, refl, ap, ap₂, sym, subst, ◌∙◌, inl, inr}
use Rattle.std.proofs.Math.Path.{fun_ext}
use Rattle.std.proofs.lemmas.Bool.{false_from_ne_true}
use Rattle.std.specs.Prelude.{ℤ, ◌&&◌, is_some}
use Rattle.spec_desktop.specs.declared.cause.Cause.{Cause}
use Rattle.spec_desktop.specs.Peer.{Peer, with_rest}
use Rattle.spec_desktop.specs.Stacking.{Owned as Owns, Standing, nothing_owned, root_of}
use Rattle.spec_desktop.specs.Windows.{Window, contains, windows}
use Rattle.spec_desktop.specs.declared.answers.Done.{Done}
use Rattle.spec_desktop.specs.Act.{Close, IsClosed, IsSent, IsStored, Send, Store, lowest}
use Rattle.spec_desktop.specs.Desktop.{Desktop, Resident, arrival, client_at, client_in, owned_in, owned_of, place, with_client, with_number, with_place}
use Rattle.spec_desktop.specs.Happens.{Happens}
use Rattle.spec_desktop.specs.Marks.{at_least}
use Rattle.spec_desktop.specs.Moments.{applied_between, marks_at_least}
use Rattle.spec_desktop.specs.Popups.{stacked_popups}
use Rattle.spec_desktop.specs.Stacked.{all_windows}
use Rattle.spec_desktop.specs.Step.{with_peer}
use Rattle.law_desktop.proofs.Runs.Forms.{ChangesAt, ConnectsAt}
use Rattle.law_desktop.proofs.Runs.OneRun.{changed-held, held}
use Rattle.law_desktop.proofs.Soundness.Windows.{sound_is_distinct}
use Rattle.law_desktop.specs.Laws.{AreApart}
use Rattle.law_desktop.specs.Shown.{AreShown, ShownStand}
use Rattle.law_desktop.specs.Ordered.{Ordered}
use Rattle.law_desktop.proofs.EachClient.Clients.{comes-at}
use Rattle.law_desktop.proofs.InOrder.Sound.{in_order_is_sound}
use Rattle.law_desktop.proofs.MessageWays.Gone.{same-applied}
use Rattle.law_desktop.proofs.MessageWays.Lists.{any-never, filter-every, is_gone_at, least-gone}
use Rattle.law_desktop.proofs.Truth.{differ}
use Rattle.wl_clients.proofs.Altering.{closed-leaves, ended-bare, leaves-over, sent-leaves, stored-leaves}

-- The output is the same, each client owns what it did, and the same toplevels stand.
pub record IsStill (d e : Desktop) : Type 0 where
  pub output : e.output ≡ d.output
  pub standing : e.standing ≡ d.standing
  pub owned : (c : ℕ) → owned_in e c ≡ owned_in d c

pub same-still : (d e : Desktop) → e ≡ d → IsStill d e
same-still d e same =
    record {
      output = ap (λ (x : Desktop). x.output) same;
      standing = ap (λ (x : Desktop). x.standing) same;
      owned = λ c. ap (λ (x : Desktop). owned_in x c) same;
    }

-- ---- its windows

abbrev windows_by : (ℕ → Owns) → List Standing → List Window
windows_by owned standing = windows (λ c. (owned c).surfaces) (λ c. stacked_popups (owned c)) (map (root_of owned) standing)

pub still-windows : (d e : Desktop) → IsStill d e → all_windows e ≡ all_windows d
still-windows d e still = ap₂ (λ (owned : ℕ → Owns) (standing : List Standing). windows_by owned standing) (fun_ext still.owned) still.standing

-- just those stand that are mapped
pub still-stands : (d e : Desktop) → IsStill d e → ShownStand d → ShownStand e
still-stands d e still stand =
    record {
      apart = subst (λ (ss : List Standing). AreApart ss) (sym still.standing) stand.apart;
      each = λ c. subst (λ (ss : List Standing). AreShown c (owned_in e c) ss) (sym still.standing)
          (subst (λ (o : Owns). AreShown c o d.standing) (sym (still.owned c)) (stand.each c));
    }

-- ---- nothing is marked

and-none : (b : Bool) → (b && false) ≡ false
and-none true = refl
and-none false = refl

pub still-unmarked : (d e : Desktop) → Ordered d → IsStill d e → (x y : ℤ) → marks_at_least d e x y ≡ false
still-unmarked d e ordered still x y =
    false_from_ne_true (marks_at_least d e x y)
    (λ marked. differ (sym (any-never (is_gone_at (λ w. true) (all_windows d) x y) (λ w. and-none (contains w x y)) (all_windows d))
    ∙ least-gone (λ w. true) (all_windows d) x y (applied_between d e) (sound_is_distinct d (in_order_is_sound d ordered.in_order))
    (λ w kept p q. same-applied d e w.owner.client w.surface p q (still.owned w.owner.client)) d.output.width d.output.height
    (subst (λ (ws : List Window). at_least d.output.width d.output.height (applied_between d e) (all_windows d) ws x y ≡ true)
    (still-windows d e still ∙ sym (filter-every (all_windows d))) marked)))

-- ---- one client becomes another, that owns the same

owned-places : (rs : List (Option Resident)) (k j : ℕ) (x : Option Resident) → owned_of x ≡ owned_of (place rs k) → owned_of (place (with_place k x rs) j) ≡ owned_of (place rs j)
owned-places [] k j x same = refl
owned-places (r ∷ rs) zero zero x same = same
owned-places (r ∷ rs) zero (suc j) x same = refl
owned-places (r ∷ rs) (suc k) zero x same = refl
owned-places (r ∷ rs) (suc k) (suc j) x same = owned-places rs k j x same

owned-numbers : (rs : List (Option Resident)) (c other : ℕ) (x : Option Resident) → owned_of x ≡ owned_of (client_in rs c)
    → owned_of (client_in (with_number c x rs) other) ≡ owned_of (client_in rs other)
owned-numbers rs zero other x same = refl
owned-numbers rs (suc k) zero x same = refl
owned-numbers rs (suc k) (suc j) x same = owned-places rs k j x same

pub put-still : (c : ℕ) (x : Option Resident) (d : Desktop) → owned_of x ≡ owned_in d c → IsStill d (with_client c x d)
put-still c x d same = record { output = refl; standing = refl; owned = λ other. owned-numbers d.clients c other x same }

-- ---- a client comes

pub connects-still : (d e : Desktop) (done : Done) → ConnectsAt (lowest d.clients) d done e → IsStill d e
connects-still d e done connects = by (lowest d.clients) refl connects
  where
    by : (o : Option ℕ) → lowest d.clients ≡ o → ConnectsAt o d done e → IsStill d e
    by None found is = same-still d e is.1
    by (Some k) found (inl is) = same-still d e is.1
    by (Some k) found (inr is) =
        let come : Option Resident = Some (arrival d.output) in
        subst (λ (x : Desktop). IsStill d x) (sym is.1) (put-still (k + 1) come d (sym (ap owned_of (comes-at d.clients k come found).0)))

-- ---- a client is told something, and lives on or had ended; or one that ended goes

ended-nothing : (d : Desktop) (c : ℕ) (r : Resident) (s : Option Cause) → Ordered d → client_at c d ≡ Some r → r.peer.status ≡ s → is_some s ≡ true → r.owned ≡ nothing_owned
ended-nothing d c r None ordered is status over = absurd (differ over)
ended-nothing d c r (Some cause) ordered is status over = ap (λ (x : Resident). x.owned) (ended-bare d c r cause ordered is status).0

pub changes-still : (R : Peer → Done → Option Peer → Type 0) → ((p : Peer) (done : Done) → R p done None → is_some p.status ≡ true) → (absent done : Done) (c : ℕ) (d e : Desktop) → Ordered d
    → ChangesAt R absent c (client_at c d) d done e → IsStill d e
changes-still R goes absent done c d e ordered changes = by (client_at c d) refl changes
  where
    left : (r : Resident) (q : Option Peer) → client_at c d ≡ Some r → R r.peer done q → IsStill d (held q c r d)
    left r None is h = put-still c None d (sym (ap owned_of is ∙ ended-nothing d c r r.peer.status ordered is refl (goes r.peer done h)))
    left r (Some x) is h = put-still c (Some (with_peer x r)) d (sym (ap owned_of is))

    by : (o : Option Resident) → client_at c d ≡ o → ChangesAt R absent c o d done e → IsStill d e
    by None is h = same-still d e h.1
    by (Some r) is h =
        let k = changed-held R absent done c r d e h in
        subst (λ (x : Desktop). IsStill d x) (sym k.2) (left r k.0 is k.1)

pub stored-still : (c store at : ℕ) (bytes : List ℕ) (done : Done) (d e : Desktop) → Ordered d → Happens (Store c store at bytes) done d e → IsStill d e
stored-still c store at bytes done d e ordered h =
    changes-still (IsStored store at bytes) (leaves-over (IsStored store at bytes) (stored-leaves store at bytes)) _ done c d e ordered h

pub sent-still : (c n : ℕ) (done : Done) (d e : Desktop) → Ordered d → Happens (Send c n) done d e → IsStill d e
sent-still c n done d e ordered h = changes-still (IsSent n) (leaves-over (IsSent n) (sent-leaves n)) _ done c d e ordered h

pub closed-still : (c : ℕ) (done : Done) (d e : Desktop) → Ordered d → Happens (Close c) done d e → IsStill d e
closed-still c done d e ordered h = changes-still IsClosed (leaves-over IsClosed closed-leaves) _ done c d e ordered h

-- ---- a piece is kept of a client

pub rest-still : (c : ℕ) (r : Resident) (bytes : List ℕ) (d : Desktop) → client_at c d ≡ Some r → IsStill d (with_client c (Some (with_peer (with_rest bytes r.peer) r)) d)
rest-still c r bytes d is = put-still c (Some (with_peer (with_rest bytes r.peer) r)) d (sym (ap owned_of is))
