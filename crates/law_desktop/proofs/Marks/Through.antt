-- What is marked through the desktops of a happening holds what is marked from the first to the last.
use Rattle.std.proofs.Common.{◌≡◌, ℕ, List, [], ◌∷◌, false, Option, Some, None, refl, ap, subst, sym, ◌∙◌, inl, inr}
use Rattle.std.proofs.lemmas.Option.{none-some}
use Rattle.std.specs.Prelude.{◌-ℤ◌, ℤ, int_le, pos, unsigned_abs, ◌&&◌}
use Rattle.spec_desktop.specs.declared.cause.Cause.TheVariants.{Memory}
use Rattle.spec_desktop.specs.Peer.{ended}
use Rattle.spec_desktop.specs.Told.{Output}
use Rattle.wl_surface.specs.State.{History}
use Rattle.wl_surface.specs.Surfaces.{history_in}
use Rattle.spec_desktop.specs.Desktop.{Desktop, Resident, client_at, owned_in}
use Rattle.spec_desktop.specs.Happenings.{Happening, Leads, Message, Receive, ReceivesAt, Single, Starve, StarvesAt}
use Rattle.law_desktop.specs.Happenings.{MarkedThrough}
use Rattle.spec_desktop.specs.Marks.{AreDistinct, at_least}
use Rattle.spec_desktop.specs.Moments.{applied_between, history_of, is_applied_by, marks_at_least_of, marks_at_least_through}
use Rattle.spec_desktop.specs.Settling.{Midstep, becomes, unstruck}
use Rattle.spec_desktop.specs.Stacked.{all_windows}
use Rattle.spec_desktop.specs.Through.{ending_through, settling_through}
use Rattle.law_desktop.proofs.Runs.Following.{Along, Follow, Owns, ending-follows, settling-follows}
use Rattle.law_desktop.proofs.Soundness.Happenings.{stops}
use Rattle.law_desktop.proofs.Marks.ShownWindows.{IsShown, all-shown}
use Rattle.law_desktop.proofs.Runs.Through.{happened, happens_leads_through, messages_lead_through, served}
use Rattle.law_desktop.proofs.Marks.Together.{unmarked-together}
use Rattle.law_desktop.proofs.Runs.Output.{happens-output, serves-same, stops-same}
use Rattle.law_desktop.proofs.Truth.{or-left, or-right}
use Rattle.law_desktop.proofs.Lists.Each.{each-map}

-- ---- the desktops of a happening

-- a happening's own change leads to one desktop, and ends and settlings on from there
leads-follow : (h : Happening) (d : Desktop) (path : List Desktop) (new : Desktop) → Leads h d path new → Follow path new
leads-follow (Receive c piece) d path new h = at (client_at c d) h
  where
    at : (o : Option Resident) → ReceivesAt c piece o d path new → Follow path new
    at None h = absurd h
    at (Some r) h = (new, [], h.2, refl)
leads-follow (Message c) d path new h =
    (served (settling_through path new) (settling_through path new) (λ (p : Follow path new). λ (mid : Midstep). Unit {0}) (λ (p : Follow path new). λ (mid : Midstep). Unit {0})
    (λ mid k. (settling-follows path new mid k, tt)) (λ mid k. (settling-follows path new mid k, tt)) c (client_at c d) d h).0
leads-follow (Starve c) d path new h = at (client_at c d) h
  where
    at : (o : Option Resident) → StarvesAt c o d path new → Follow path new
    at None h = absurd h
    at (Some r) h = settling-follows path new (unstruck (becomes c r (ended Memory r.peer) d)) h.1
leads-follow (Single act done) d path new h =
    (happened (settling_through path new) (ending_through path new) (λ (p : Follow path new). λ (mid : Midstep). Unit {0}) (λ (p : Follow path new). λ (mid : Midstep). Unit {0})
    (λ mid k. (settling-follows path new mid k, tt)) (λ mid k. (ending-follows path new mid k, tt)) act done d h).0

pub leads-output : (h : Happening) (d : Desktop) (path : List Desktop) (new : Desktop) → Leads h d path new → new.output ≡ d.output
leads-output (Receive c piece) d path new h = at (client_at c d) h
  where
    at : (o : Option Resident) → ReceivesAt c piece o d path new → new.output ≡ d.output
    at None h = absurd h
    at (Some r) h = ap (λ (x : Desktop). x.output) h.1
leads-output (Message c) d path new h = serves-same c (client_at c d) d new ((messages_lead_through c d new).0 path h)
leads-output (Starve c) d path new h = stops-same c (client_at c d) d new (stops c (client_at c d) d path new h)
leads-output (Single act done) d path new h = happens-output act done d new ((happens_leads_through act done d new).0 path h)

along-output : (d : Desktop) (es : List Desktop) (new : Desktop) → Along d es new → new.output ≡ d.output
along-output d [] new h = ap (λ (x : Desktop). x.output) h
along-output d (e ∷ es) new h = along-output e es new h.2 ∙ h.0

-- ---- what is applied

-- a surface that is shown where its client owns what it did, or nothing
same-history : (m p : Desktop) (c surface : ℕ) (h : History) → Owns c m p → history_in surface (owned_in p c).surfaces ≡ Some h → history_of p c surface ≡ history_of m c surface
same-history m p c surface h (inl same) there = ap (λ o. history_in surface o.surfaces) same
same-history m p c surface h (inr none) there = absurd (none-some h (sym (ap (λ o. history_in surface o.surfaces) none) ∙ there))

-- what wasn't applied to it before isn't now
not-applied : (d m p : Desktop) (c surface : ℕ) (x y : ℤ) → history_of p c surface ≡ history_of m c surface → applied_between d m c surface x y ≡ false → applied_between d p c surface x y ≡ false
not-applied d m p c surface x y same none =
    ap (λ (o : Option History). (int_le (pos 0) x && int_le (pos 0) y) && is_applied_by (history_of d c surface) o (unsigned_abs x) (unsigned_abs y)) same ∙ none

-- ---- along the way

-- one end or settling more
pub unmarked-on : (d m p : Desktop) (x y : ℤ) → AreDistinct (all_windows d) → m.output ≡ d.output → ((c : ℕ) → Owns c m p) → marks_at_least_of all_windows d m x y ≡ false
    → marks_at_least_of all_windows m p x y ≡ false → marks_at_least_of all_windows d p x y ≡ false
unmarked-on d m p x y apart sized owns before here =
    unmarked-together d.output.width d.output.height (applied_between d m) (applied_between m p) (applied_between d p) (all_windows d) (all_windows m) (all_windows p) x y apart
    (each-map (IsShown (owned_in p)) _
    (λ w shown. λ none. not-applied d m p w.owner.client w.surface (x -ℤ w.corner.x) (y -ℤ w.corner.y) (same-history m p w.owner.client w.surface shown.0 (owns w.owner.client) shown.1) none)
    (all_windows p) (all-shown p))
    before
    (subst (λ (o : Output). at_least o.width o.height (applied_between m p) (all_windows m) (all_windows p) x y ≡ false) sized here)

unmarked-along : (d m : Desktop) (path : List Desktop) (new : Desktop) (x y : ℤ) → AreDistinct (all_windows d) → m.output ≡ d.output → Along m path new → marks_at_least_of all_windows d m x y ≡ false
    → marks_at_least_through all_windows m path x y ≡ false → marks_at_least_of all_windows d new x y ≡ false
unmarked-along d m [] new x y apart sized h before rest = subst (λ (e : Desktop). marks_at_least_of all_windows d e x y ≡ false) (sym h) before
unmarked-along d m (p ∷ ps) new x y apart sized h before rest =
    unmarked-along d p ps new x y apart (h.0 ∙ sized) h.2
    (unmarked-on d m p x y apart sized h.1 before (or-left (marks_at_least_of all_windows m p x y) _ rest))
    (or-right (marks_at_least_of all_windows m p x y) _ rest)

pub marked_through : MarkedThrough
marked_through h d path new x y apart leads unmarked =
    let f : Follow path new = leads-follow h d path new leads in
    let all : marks_at_least_through all_windows d (f.0 ∷ f.1) x y ≡ false = subst (λ (p : List Desktop). marks_at_least_through all_windows d p x y ≡ false) f.2 unmarked in
    let sized : f.0.output ≡ d.output = sym (along-output f.0 f.1 new f.3) ∙ leads-output h d path new leads in
    unmarked-along d f.0 f.1 new x y apart sized f.3 (or-left (marks_at_least_of all_windows d f.0 x y) _ all) (or-right (marks_at_least_of all_windows d f.0 x y) _ all)
