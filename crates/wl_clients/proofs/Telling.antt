-- What telling one client of a frame leaves of the desktop: the others are as they were, and where it doesn't end so is all that is shown.
use Rattle.std.proofs.Common.{◌≡◌, ◌≢◌, ℕ, Bool, true, List, Option, Some, None, refl, ap, subst, sym, ◌∙◌, inl, inr}
use Rattle.std.specs.List.{list_any}
use Rattle.std.specs.Prelude.{◌⊎◌, ◌==◌, is_some, not}
use Rattle.spec_desktop.specs.declared.cause.Cause.{Cause}
use Rattle.spec_desktop.specs.Windows.{Window}
use Rattle.spec_desktop.specs.Desktop.{Desktop, Resident, become_by, client_at, owned_of, status_in, status_of}
use Rattle.spec_desktop.specs.Framing.{FramesToldAt, FramesToldBy, done_due}
use Rattle.spec_desktop.specs.Stacked.{all_windows}
use Rattle.law_desktop.proofs.Runs.Fates.{same-or}
use Rattle.law_desktop.proofs.Runs.Following.{Owns}
use Rattle.law_desktop.proofs.Runs.Places.{other-become, status-become}
use Rattle.law_desktop.specs.Ordered.{Ordered}
use Rattle.law_desktop.specs.Ways.{IsGone}
use Rattle.law_desktop.proofs.MessageWays.Ends.{untold_is_gone}
use Rattle.law_desktop.proofs.MessageWays.Gone.{gone_windows}
use Rattle.law_desktop.proofs.Truth.{differ}
use Rattle.law_desktop.proofs.Lists.Left.{any-there}
use Rattle.wl_clients.proofs.Still.{IsStill, put-still, same-still, still-windows}

-- ---- the client that is told

-- where it doesn't end, each client owns what it did
pub told-still : (time c : ℕ) (d e : Desktop) → FramesToldAt time c (client_at c d) d e → status_in c e ≡ None → IsStill d e
told-still time c d e told alive = at (client_at c d) refl told
  where
    by : (s : Option Cause) (r : Resident) → client_at c d ≡ Some r → FramesToldBy s time c r d e → IsStill d e
    by (Some cause) r is same = same-still d e same
    by None r is h =
        let status : h.0.status ≡ None = sym (status-become c (done_due r) h.0 d r is) ∙ sym (ap (λ (x : Desktop). status_in c x) h.2) ∙ alive in
        subst (λ (x : Desktop). IsStill d x) (sym (h.2 ∙ ap (λ s. become_by s c (done_due r) h.0 d) status))
        (put-still c (Some (record (done_due r) { peer = h.0 })) d (sym (ap owned_of is)))

    at : (o : Option Resident) → client_at c d ≡ o → FramesToldAt time c o d e → IsStill d e
    at None is same = same-still d e same
    at (Some r) is h = by r.peer.status r is h

-- so it is, or what the client had is gone
pub told-fate : (time c : ℕ) (d e : Desktop) → Ordered d → FramesToldAt time c (client_at c d) d e → IsStill d e ⊎ IsGone c d e
told-fate time c d e ordered told = at (status_in c e) refl
  where
    at : (s : Option Cause) → status_in c e ≡ s → IsStill d e ⊎ IsGone c d e
    at None alive = inl (told-still time c d e told alive)
    at (Some cause) over = inr (untold_is_gone time c d e ordered.in_order told (ap (λ (s : Option Cause). is_some s) over))

-- one that ended is told nothing
pub over-told : (time c : ℕ) (r : Resident) (d e : Desktop) → FramesToldAt time c (Some r) d e → is_some r.peer.status ≡ true → e ≡ d
over-told time c r d e told over = by r.peer.status told over
  where
    by : (s : Option Cause) → FramesToldBy s time c r d e → is_some s ≡ true → e ≡ d
    by None h over = absurd (differ over)
    by (Some cause) h over = h

-- ---- the others

pub told-others : (time c : ℕ) (o : Option Resident) (d e : Desktop) → FramesToldAt time c o d e → (k : ℕ) → c ≢ k → client_at k e ≡ client_at k d
told-others time c None d e h k apart = ap (λ (x : Desktop). client_at k x) h
told-others time c (Some r) d e h k apart = by r.peer.status h
  where
    by : (s : Option Cause) → FramesToldBy s time c r d e → client_at k e ≡ client_at k d
    by (Some cause) h = ap (λ (x : Desktop). client_at k x) h
    by None h = ap (λ (x : Desktop). client_at k x) h.2 ∙ other-become c k (done_due r) h.0 d apart

-- who ended before stays ended
pub told-over : (time c k : ℕ) (d e : Desktop) → FramesToldAt time c (client_at c d) d e → is_some (status_in k d) ≡ true → is_some (status_in k e) ≡ true
told-over time c k d e told over = at (client_at c d) refl told
  where
    same : e ≡ d → is_some (status_in k e) ≡ true
    same h = ap (λ (x : Desktop). is_some (status_in k x)) h ∙ over

    apart : (r : Resident) → client_at c d ≡ Some r → r.peer.status ≡ None → c ≢ k
    apart r is alive same =
        differ (sym (ap (λ (s : Option Cause). is_some s) (sym (ap (λ n. status_in n d) same) ∙ ap status_of is ∙ alive)) ∙ over)

    by : (s : Option Cause) (r : Resident) → client_at c d ≡ Some r → r.peer.status ≡ s → FramesToldBy s time c r d e → is_some (status_in k e) ≡ true
    by (Some cause) r is ended h = same h
    by None r is alive h =
        ap (λ (x : Desktop). is_some (status_in k x)) h.2 ∙ ap (λ (o : Option Resident). is_some (status_of o)) (other-become c k (done_due r) h.0 d (apart r is alive)) ∙ over

    at : (o : Option Resident) → client_at c d ≡ o → FramesToldAt time c o d e → is_some (status_in k e) ≡ true
    at None is h = same h
    at (Some r) is h = by r.peer.status r is refl h

-- ---- what each owns, and the windows

-- each client owns what it did, or nothing any more
pub fate-owns : (c : ℕ) (d e : Desktop) → IsStill d e ⊎ IsGone c d e → (k : ℕ) → Owns k d e
fate-owns c d e (inl still) k = inl (still.owned k)
fate-owns c d e (inr gone) k = at (same-or c k)
  where
    at : (c ≡ k) ⊎ (c ≢ k) → Owns k d e
    at (inl same) = subst (λ n. Owns n d e) same (inr gone.nothing)
    at (inr apart) = inl (gone.others k (λ same. apart (sym same)))

pub fate-output : (c : ℕ) (d e : Desktop) → IsStill d e ⊎ IsGone c d e → e.output ≡ d.output
fate-output c d e (inl still) = still.output
fate-output c d e (inr gone) = gone.output

-- each window of the one desktop is one of the other
abbrev pub HasNoNew : Desktop → Desktop → Type 0
HasNoNew d e = (p : Window → Bool) → list_any p (all_windows e) ≡ true → list_any p (all_windows d) ≡ true

pub fate-windows : (c : ℕ) (d e : Desktop) → IsStill d e ⊎ IsGone c d e → HasNoNew d e
fate-windows c d e (inl still) p there = ap (λ (ws : List Window). list_any p ws) (sym (still-windows d e still)) ∙ there
fate-windows c d e (inr gone) p there =
    any-there p (λ w. not (w.owner.client == c)) (all_windows d)
    (ap (λ (ws : List Window). list_any p ws) (sym (gone_windows c d e gone)) ∙ there)
