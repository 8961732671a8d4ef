-- Where windows only go, what is marked by each end in turn is marked from the first desktop to the last.
use Rattle.std.proofs.Common.{◌≡◌, ◌≢◌, ℕ, zero, suc, ◌+◌, List, [], ◌∷◌, ◌++◌, Bool, true, false, cond, Option, Some, None, refl, ap, ap₂, subst, sym, ◌∙◌, inl, inr}
use Rattle.std.proofs.lemmas.Bool.{and_from, eqb-false, false_from_ne_true}
use Rattle.std.proofs.lemmas.List.Elements.{filter-append}
use Rattle.std.specs.List.{list_any}
use Rattle.std.specs.Prelude.{ℤ, ◌==◌, ◌&&◌, ◌||◌, filter, flat_map, fold, if◌then◌else◌, is_some, not}
use Rattle.spec_desktop.specs.declared.cause.Cause.{Cause}
use Rattle.spec_desktop.specs.declared.cause.Cause.TheVariants.{Gone, Memory}
use Rattle.spec_desktop.specs.Peer.{Peer, ended}
use Rattle.wl_surface.specs.Surfaces.{Surfaces}
use Rattle.spec_desktop.specs.Popups.{stacked_popups}
use Rattle.spec_desktop.specs.Stacking.{Owned, Standing, geometry_in, nothing_owned, without_client}
use Rattle.spec_desktop.specs.Windows.{Root, StackedPopup, Window, contains, owner_of, root_on, roots_of, stacked, stacked_on, tree}
use Rattle.spec_desktop.specs.declared.answers.Done.{Done}
use Rattle.spec_desktop.specs.Act.{Act, Connect, Feed, Store, Leave, Tick, Send, Close, Motion, Button, IsClosed, IsSent, IsStored, lowest}
use Rattle.spec_desktop.specs.Changing.{without_callbacks}
use Rattle.spec_desktop.specs.Desktop.{Desktop, Resident, arrival, client_at, owned_in, owned_of, resident_of, with_client}
use Rattle.spec_desktop.specs.Happenings.{Leads, Single, StarvesAt}
use Rattle.spec_desktop.specs.Happens.{ChangesThen, ConnectsThen, LeavesThen, TellsFrames, callbacks_due, frames_told}
use Rattle.spec_desktop.specs.Step.{with_peer}
use Rattle.law_desktop.specs.Focus.{EndedAreBare}
use Rattle.spec_desktop.specs.Marks.{AreDistinct, at_least, in_output}
use Rattle.spec_desktop.specs.Moments.{applied_between, marks_at_least, marks_at_least_through}
use Rattle.spec_desktop.specs.Settling.{Midstep, Settles, Strike, becomes, ended_all, ended_at, ended_by, unstruck}
use Rattle.spec_desktop.specs.Stacked.{all_windows}
use Rattle.spec_desktop.specs.Through.{EndsFirstThrough, SettlesAllThrough, ending_through, ends_through, settling_through}
use Rattle.law_desktop.proofs.Marks.Painted.{distinct-kept}
use Rattle.law_desktop.proofs.Marks.Stacks.{equal-numbers, fields}
use Rattle.law_desktop.proofs.Runs.Output.{settles-still, tells-still}
use Rattle.law_desktop.proofs.Runs.Places.{number-other}
use Rattle.law_desktop.proofs.Runs.Settled.{ShowsSame, closed-none, come-shows, has-settled, never-none, put-shows, same-windows, shows-itself, tells-so, windows_by}
use Rattle.law_desktop.proofs.Soundness.Trees.{each-flat}
use Rattle.law_desktop.specs.Ordered.{Ordered}
use Rattle.law_desktop.proofs.TreeSteps.Owners.{tree-owned}
use Rattle.law_desktop.proofs.MessageWays.Gone.{same-applied}
use Rattle.law_desktop.proofs.MessageWays.Lists.{filter-every, gone-least, least-gone}
use Rattle.law_desktop.proofs.Truth.{and-left, and-right, differ}
use Rattle.law_desktop.proofs.Lists.Each.{Each, each-append, each-map}
use Rattle.law_desktop.proofs.Lists.Tests.{any-more, filter-all}
use Rattle.law_desktop.proofs.Lists.Left.{any-there, filter-none-each}
use Rattle.wl_clients.proofs.Altering.{ended-bare}

-- ---- the windows of the others stay as a client ends

-- of a toplevel and its popups, by what its client owns
roots_for : Owned → Standing → List Root
roots_for o s =
    roots_of o.surfaces (record { client = s.client; surface = s.surface; toplevel = s.surface; geometry = geometry_in o s.surface; place = s.place })
    (stacked_popups o)

-- the roots are all of one client
IsOf : ℕ → Root → Type 0
IsOf c r = r.client ≡ c

on-of : (all : Surfaces) (c : ℕ) (p : StackedPopup) (rs : List Root) → Each (λ (r : Root). r.client ≡ c) rs → Each (λ (r : Root). r.client ≡ c) (stacked_on all p rs)
on-of all c p [] each = tt
on-of all c p (r ∷ rs) each = at _ (on-of all c p rs each.1)
  where
    at : (b : Bool) → Each (λ (r : Root). r.client ≡ c) (stacked_on all p rs) → Each (λ (r : Root). r.client ≡ c) (if b then root_on all r p ∷ [] else stacked_on all p rs)
    at true later = (each.0, tt)
    at false later = later

popups-of : (all : Surfaces) (c : ℕ) (popups : List StackedPopup) (rs : List Root) → Each (λ (r : Root). r.client ≡ c) rs → Each (λ (r : Root). r.client ≡ c) (fold (stacked all) rs popups)
popups-of all c [] rs each = each
popups-of all c (p ∷ ps) rs each = popups-of all c ps (stacked all rs p) (each-append (λ (r : Root). r.client ≡ c) rs (stacked_on all p rs) each (on-of all c p rs each))

roots-of : (o : Owned) (s : Standing) → Each (λ (r : Root). r.client ≡ s.client) (roots_for o s)
unfolding roots_for
roots-of o s = popups-of o.surfaces s.client (stacked_popups o) _ (refl, tt)

-- the windows of a toplevel with its popups
shown_for : (ℕ → Owned) → Standing → List Window
unfolding roots_for
shown_for owned s = flat_map (λ (r : Root). tree 17 (owner_of r) (owned r.client).surfaces r.surface r.place) (roots_for (owned s.client) s)

shown-first : (owned : ℕ → Owned) (s : Standing) (ss : List Standing) → windows_by owned (s ∷ ss) ≡ shown_for owned s ++ windows_by owned ss
unfolding shown_for roots_for
shown-first owned s ss = refl

flat-same : (f g : Root → List Window) (rs : List Root) → Each (λ r. f r ≡ g r) rs → flat_map f rs ≡ flat_map g rs
flat-same f g [] each = refl
flat-same f g (r ∷ rs) each = ap₂ (λ (ws vs : List Window). ws ++ vs) each.0 (flat-same f g rs each.1)

module _ (c : ℕ) (owned new : ℕ → Owned) (others : (other : ℕ) → other ≢ c → new other ≡ owned other) where
  keeps_others : Window → Bool
  keeps_others w = not (w.owner.client == c)

  its-windows : (s : Standing) → Each (λ (w : Window). w.owner.client ≡ s.client) (shown_for owned s)
  unfolding shown_for
  its-windows s =
      each-flat (λ (w : Window). w.owner.client ≡ s.client) (λ (r : Root). tree 17 (owner_of r) (owned r.client).surfaces r.surface r.place) (roots_for (owned s.client) s)
      (each-map (λ (r : Root). r.client ≡ s.client) (λ r. Each (λ (w : Window). w.owner.client ≡ s.client) (tree 17 (owner_of r) (owned r.client).surfaces r.surface r.place))
      (λ r is. each-map (λ (w : Window). w.owner ≡ owner_of r) (λ w. w.owner.client ≡ s.client) (λ w own. ap (λ o. o.client) own ∙ is) _
      (tree-owned 17 (owner_of r) (owned r.client).surfaces r.surface r.place)) (roots_for (owned s.client) s) (roots-of (owned s.client) s))

  same-shown : (s : Standing) → s.client ≢ c → shown_for new s ≡ shown_for owned s
  unfolding shown_for
  same-shown s other =
      flat-same (λ (r : Root). tree 17 (owner_of r) (new r.client).surfaces r.surface r.place)
      (λ (r : Root). tree 17 (owner_of r) (owned r.client).surfaces r.surface r.place) (roots_for (new s.client) s)
      (each-map (λ (r : Root). r.client ≡ s.client) (λ r. tree 17 (owner_of r) (new r.client).surfaces r.surface r.place ≡ tree 17 (owner_of r) (owned r.client).surfaces r.surface r.place)
      (λ r is. ap (λ (o : Owned). tree 17 (owner_of r) o.surfaces r.surface r.place) (others r.client (λ same. other (sym is ∙ same)))) (roots_for (new s.client) s) (roots-of (new s.client) s))
      ∙ ap (λ (o : Owned). flat_map (λ (r : Root). tree 17 (owner_of r) (owned r.client).surfaces r.surface r.place) (roots_for o s)) (others s.client other)

  left-of : (s : Standing) (ss : List Standing) (b : Bool) → (s.client == c) ≡ b → windows_by new (without_client c ss) ≡ filter keeps_others (windows_by owned ss)
      → windows_by new (cond (not b) (s ∷ without_client c ss) (without_client c ss)) ≡ filter keeps_others (shown_for owned s) ++ filter keeps_others (windows_by owned ss)
  unfolding keeps_others
  left-of s ss true is later =
      later
      ∙ ap (λ (ws : List Window). ws ++ filter keeps_others (windows_by owned ss))
      (sym (filter-none-each keeps_others (shown_for owned s) (each-map (λ (w : Window). w.owner.client ≡ s.client) (λ w. keeps_others w ≡ false)
      (λ w own. ap (λ n. not (n == c)) own ∙ ap (λ b. not b) is) (shown_for owned s) (its-windows s))))
  left-of s ss false is later =
      shown-first new s (without_client c ss)
      ∙ ap₂ (λ (ws vs : List Window). ws ++ vs)
      (same-shown s (eqb-false s.client c is)
      ∙ sym (filter-all keeps_others (shown_for owned s) (each-map (λ (w : Window). w.owner.client ≡ s.client) (λ w. keeps_others w ≡ true)
      (λ w own. ap (λ n. not (n == c)) own ∙ ap (λ b. not b) is) (shown_for owned s) (its-windows s)))) later

  windows-left : (ss : List Standing) → windows_by new (without_client c ss) ≡ filter keeps_others (windows_by owned ss)
  windows-left [] = refl
  windows-left (s ∷ ss) =
      left-of s ss (s.client == c) refl (windows-left ss) ∙ sym (filter-append keeps_others (shown_for owned s) (windows_by owned ss))
      ∙ ap (filter keeps_others) (sym (shown-first owned s ss))

-- ---- windows only go

-- Some clients keep their windows and what they own, and the others have no windows any more.
pub record Loses (d e : Desktop) : Type 0 where
  pub keeps : ℕ → Bool
  pub windows : all_windows e ≡ filter (λ w. keeps w.owner.client) (all_windows d)
  pub owned : (c : ℕ) → keeps c ≡ true → owned_in e c ≡ owned_in d c
  pub output : e.output ≡ d.output

-- nothing goes
pub loses-none : (d e : Desktop) → ShowsSame d e → e.output ≡ d.output → Loses d e
loses-none d e same output =
    record { keeps = λ c. true; windows = same-windows d e same ∙ sym (filter-every (all_windows d)); owned = λ c is. same.owned c; output = output }

ended-others : (c : ℕ) (cause : Cause) (r : Resident) (d : Desktop) (other : ℕ) → other ≢ c → owned_in (becomes c r (ended cause r.peer) d) other ≡ owned_in d other
ended-others c cause r d other differs = ap owned_of (number-other d.clients c other (Some (resident_of (ended cause r.peer))) (λ same. differs (sym same)))

-- a client ends
pub loses-client : (c : ℕ) (cause : Cause) (r : Resident) (d : Desktop) → Loses d (becomes c r (ended cause r.peer) d)
unfolding keeps_others
loses-client c cause r d =
    record {
      keeps = λ k. not (k == c);
      windows = windows-left c (owned_in d) (owned_in (becomes c r (ended cause r.peer) d)) (ended-others c cause r d) d.standing;
      owned = λ k kept. ended-others c cause r d k (λ same. differ (sym (ap (λ b. not b) (equal-numbers k c same)) ∙ kept));
      output = refl;
    }

loses-ended : (s : Strike) (d : Desktop) → Loses d (ended_by s d)
loses-ended s d = at (client_at s.client d)
  where
    at : (o : Option Resident) → Loses d (ended_at s.client s.cause o d)
    at None = loses-none d d (record { standing = refl; owned = λ c. refl }) refl
    at (Some r) = loses-client s.client s.cause r d

loses-settled : (old new : Midstep) → Settles old new → Loses old.desktop new.desktop
loses-settled old new h = loses-none old.desktop new.desktop (has-settled old new h).shows (settles-still old new h)

-- ---- one after another

filter-twice : {X : Type 0} (p q : X → Bool) (xs : List X) → filter q (filter p xs) ≡ filter (λ x. p x && q x) xs
filter-twice p q [] = refl
filter-twice {X} p q (x ∷ xs) = at (p x) (filter-twice p q xs)
  where
    both : X → Bool
    both y = p y && q y

    at : (a : Bool) → filter q (filter p xs) ≡ filter (λ y. p y && q y) xs
        → filter q (cond a (x ∷ filter p xs) (filter p xs)) ≡ cond (a && q x) (x ∷ filter (λ y. p y && q y) xs) (filter (λ y. p y && q y) xs)
    at true later = ap (λ ys. cond (q x) (x ∷ ys) ys) later
    at false later = later

loses-on : (d m e : Desktop) → Loses d m → Loses m e → Loses d e
loses-on d m e first second =
    record {
      keeps = λ c. first.keeps c && second.keeps c;
      windows =
          second.windows ∙ ap (filter (λ w. second.keeps w.owner.client)) first.windows
          ∙ filter-twice (λ (w : Window). first.keeps w.owner.client) (λ w. second.keeps w.owner.client) (all_windows d);
      owned = λ c kept. second.owned c (and-right (first.keeps c) (second.keeps c) kept) ∙ first.owned c (and-left (first.keeps c) (second.keeps c) kept);
      output = second.output ∙ first.output;
    }

-- from one desktop through these to the last windows only go
abbrev pub LosesAlong : Desktop → List Desktop → Desktop → Type 0
LosesAlong d [] new = new ≡ d
LosesAlong d (e ∷ es) new = Loses d e × LosesAlong e es new

along-ends : (ss : List Strike) (d : Desktop) (later : List Desktop) (new : Desktop) → LosesAlong (ended_all ss d) later new → LosesAlong d (ends_through ss d ++ later) new
along-ends [] d later new k = k
along-ends (s ∷ ss) d later new k = (loses-ended s d, along-ends ss (ended_by s d) later new k)

along-first : (Next : Midstep → List Desktop → Desktop → Type 0) → ((m : Midstep) (path : List Desktop) (new : Desktop) → Next m path new → LosesAlong m.desktop path new)
    → (ss : List Strike) (d : Desktop) (path : List Desktop) (new : Desktop) → EndsFirstThrough Next ss d path new → LosesAlong d path new
along-first Next next [] d path new h = subst (λ (p : List Desktop). LosesAlong d p new) (sym h.0) h.1
along-first Next next (s ∷ ss) d path new h =
    let it : LosesAlong d (ended_by s d ∷ h.0) new = (loses-ended s d, next (record { desktop = ended_by s d; struck = ss }) h.0 new h.2) in
    subst (λ (p : List Desktop). LosesAlong d p new) (sym h.1) it

along-settles : (n : ℕ) (old : Midstep) (path : List Desktop) (new : Desktop) → SettlesAllThrough n old path new → LosesAlong old.desktop path new
along-settles zero old path new h = subst (λ (p : List Desktop). LosesAlong old.desktop p new) (sym h.0) h.1
along-settles (suc n) old path new h =
    let it : LosesAlong old.desktop (h.0.desktop ∷ h.2) new = (
      loses-settled old h.0 h.1,
      along-first (SettlesAllThrough n) (along-settles n) h.0.struck h.0.desktop h.2 new h.4,
    ) in
    subst (λ (p : List Desktop). LosesAlong old.desktop p new) (sym h.3) it

-- after a change that only takes windows away
pub settling-along : (d : Desktop) (mid : Midstep) (path : List Desktop) (new : Desktop) → Loses d mid.desktop → settling_through path new mid → LosesAlong d path new
settling-along d mid path new own h =
    let it : LosesAlong d (mid.desktop ∷ ends_through mid.struck mid.desktop ++ h.0) new = (
      own,
      along-ends mid.struck mid.desktop h.0 new (along-settles 33 (unstruck (ended_all mid.struck mid.desktop)) h.0 new h.2),
    ) in
    subst (λ (p : List Desktop). LosesAlong d p new) (sym h.1) it

pub ending-along : (d : Desktop) (mid : Midstep) (path : List Desktop) (new : Desktop) → Loses d mid.desktop → ending_through path new mid → LosesAlong d path new
ending-along d mid path new own h =
    let it : LosesAlong d (mid.desktop ∷ h.0) new = (own, along-first (SettlesAllThrough 32) (along-settles 32) mid.struck mid.desktop h.0 new h.2) in
    subst (λ (p : List Desktop). LosesAlong d p new) (sym h.1) it

-- ---- what is marked

module _ (d : Desktop) (x y : ℤ) (apart : AreDistinct (all_windows d)) where
  -- a window of a client that loses them contains the point
  abbrev lost_at : (ℕ → Bool) → Window → Bool
  lost_at keeps w = contains w x y && not (keeps w.owner.client)

  abbrev Inside : Type 0
  Inside = in_output d.output.width d.output.height x y ≡ true

  one-step : (m e : Desktop) (first : Loses d m) (second : Loses m e) → marks_at_least m e x y ≡ true → Inside × (list_any (lost_at second.keeps) (all_windows d) ≡ true)
  one-step m e first second marked = (
    ap (λ o. in_output o.width o.height x y) (sym first.output) ∙ and-left (in_output m.output.width m.output.height x y) _ marked,
    any-there (lost_at second.keeps) (λ w. first.keeps w.owner.client) (all_windows d)
        (subst (λ ws. list_any (lost_at second.keeps) ws ≡ true) first.windows
        (least-gone kept (all_windows m) x y (applied_between m e) (subst AreDistinct (sym first.windows) (distinct-kept (λ w. first.keeps w.owner.client) (all_windows d) apart))
        (λ w keeps p q. same-applied m e w.owner.client w.surface p q (second.owned w.owner.client keeps)) m.output.width m.output.height
        (subst (λ ws. at_least m.output.width m.output.height (applied_between m e) (all_windows m) ws x y ≡ true) second.windows marked))),
  )
    where
      kept : Window → Bool
      kept w = second.keeps w.owner.client

  more-lost : (keeps all : ℕ → Bool) → ((c : ℕ) → all c ≡ true → keeps c ≡ true) → list_any (lost_at keeps) (all_windows d) ≡ true → list_any (lost_at all) (all_windows d) ≡ true
  more-lost keeps all fewer any =
      any-more (lost_at keeps) (lost_at all)
      (λ w f. and_from (contains w x y) (not (all w.owner.client)) (and-left (contains w x y) (not (keeps w.owner.client)) f)
      (ap (λ b. not b) (false_from_ne_true (all w.owner.client)
      (λ kept. differ (sym (ap (λ b. not b) (fewer w.owner.client kept)) ∙ and-right (contains w x y) (not (keeps w.owner.client)) f)))))
      (all_windows d) any

  record Way (m new : Desktop) (path : List Desktop) (first : Loses d m) : Type 0 where
    whole : Loses d new
    fewer : (c : ℕ) → whole.keeps c ≡ true → first.keeps c ≡ true
    lost : marks_at_least_through all_windows m path x y ≡ true → Inside × (list_any (lost_at whole.keeps) (all_windows d) ≡ true)

  on-way : (m new : Desktop) (path : List Desktop) (first : Loses d m) → LosesAlong m path new → Way m new path first
  unfolding loses-on
  on-way m new [] first h =
      record {
        whole = record {
          keeps = first.keeps;
          windows = ap all_windows h ∙ first.windows;
          owned = λ c kept. ap (λ (z : Desktop). owned_in z c) h ∙ first.owned c kept;
          output = ap (λ (z : Desktop). z.output) h ∙ first.output;
        };
        fewer = λ c kept. kept;
        lost = λ marked. absurd (differ marked);
      }
  on-way m new (e ∷ es) first h =
      let next : Loses d e = loses-on d m e first h.0 in
      let rest = on-way e new es next h.1 in
      record {
        whole = rest.whole;
        fewer = λ c kept. and-left (first.keeps c) (h.0.keeps c) (rest.fewer c kept);
        lost = λ marked. at (marks_at_least m e x y) refl rest marked;
      }
    where
      at : (b : Bool) → marks_at_least m e x y ≡ b → (rest : Way e new es (loses-on d m e first h.0)) → (b || marks_at_least_through all_windows e es x y) ≡ true
          → Inside × (list_any (lost_at rest.whole.keeps) (all_windows d) ≡ true)
      at true is rest marked =
          let here = one-step m e first h.0 is in
          (here.0, more-lost h.0.keeps rest.whole.keeps (λ c kept. and-right (first.keeps c) (h.0.keeps c) (rest.fewer c kept)) here.1)
      at false is rest marked = rest.lost marked

  -- it is marked from the first to the last
  pub marked-each : (path : List Desktop) (new : Desktop) → LosesAlong d path new → marks_at_least_through all_windows d path x y ≡ true → marks_at_least d new x y ≡ true
  marked-each path new along marked =
      let way = on-way d new path (loses-none d d (record { standing = refl; owned = λ c. refl }) refl) along in
      let here = way.lost marked in
      subst (λ ws. at_least d.output.width d.output.height (applied_between d new) (all_windows d) ws x y ≡ true) (sym way.whole.windows)
      (gone-least (λ w. way.whole.keeps w.owner.client) (all_windows d) x y (λ w v same. ap way.whole.keeps (fields w v same).client)
      (applied_between d new) d.output.width d.output.height here.0 here.1)

-- ---- what happens but messages, motions and buttons

-- one that ended owns nothing
pub ordered-bare : (d : Desktop) → Ordered d → EndedAreBare d
ordered-bare d ordered c r there over = at r.peer.status refl over
  where
    at : (s : Option Cause) → r.peer.status ≡ s → is_some s ≡ true → r.owned ≡ nothing_owned
    at None is e = absurd (differ e)
    at (Some cause) is e = ap (λ (q : Resident). q.owned) (ended-bare d c r cause ordered there is).0

-- its own change shows no window that wasn't there
abbrev pub is_losing_act : Act → Bool
is_losing_act (Motion time x y) = false
is_losing_act (Button time button pressed) = false
is_losing_act act = true

connects-along : (k : Option ℕ) (d : Desktop) (done : Done) (path : List Desktop) (new : Desktop) → lowest d.clients ≡ k → ConnectsThen k d done (ending_through path new) → LosesAlong d path new
connects-along None d done path new first h = ending-along d (unstruck d) path new (loses-none d d (shows-itself d d refl) refl) h.1
connects-along (Some k) d done path new first (inl h) = ending-along d (unstruck d) path new (loses-none d d (shows-itself d d refl) refl) h.1
connects-along (Some k) d done path new first (inr h) =
    ending-along d (unstruck (with_client (k + 1) (Some (arrival d.output)) d)) path new
    (loses-none d (with_client (k + 1) (Some (arrival d.output)) d) (come-shows k (Some (arrival d.output)) d first refl) refl) h.1

leaves-along : (c : ℕ) (o : Option Resident) (d : Desktop) (done : Done) (path : List Desktop) (new : Desktop) → LeavesThen c o d done (settling_through path new) (ending_through path new)
    → LosesAlong d path new
leaves-along c None d done path new h = ending-along d (unstruck d) path new (loses-none d d (shows-itself d d refl) refl) h.1
leaves-along c (Some r) d done path new h = by r.peer.status refl
  where
    by : (s : Option Cause) → r.peer.status ≡ s → LosesAlong d path new
    by (Some cause) e =
        let there : ending_through path new (unstruck d) = rw e at h.1 in
        ending-along d (unstruck d) path new (loses-none d d (shows-itself d d refl) refl) there
    by None e =
        let gone : Midstep = unstruck (becomes c r (ended Gone r.peer) d) in
        let there : settling_through path new gone = rw e at h.1 in
        settling-along d gone path new (loses-client c Gone r d) there

changes-along : (R : Peer → Done → Option Peer → Type 0) (absent : Done) (c : ℕ) (o : Option Resident) (d : Desktop) (done : Done) (path : List Desktop) (new : Desktop) → client_at c d ≡ o
    → ((r : Resident) (q : Option Peer) → client_at c d ≡ Some r → R r.peer done q → q ≡ None → r.owned ≡ nothing_owned) → ChangesThen R absent c o d done (ending_through path new)
    → LosesAlong d path new
changes-along R absent c None d done path new there none h = ending-along d (unstruck d) path new (loses-none d d (shows-itself d d refl) refl) h.1
changes-along R absent c (Some r) d done path new there none (None, h, e) =
    ending-along d (unstruck (with_client c None d)) path new (loses-none d (with_client c None d) (put-shows c r None d there (sym (none r None there h refl))) refl) e
changes-along R absent c (Some r) d done path new there none (Some q, h, e) =
    ending-along d (unstruck (with_client c (Some (with_peer q r)) d)) path new (loses-none d (with_client c (Some (with_peer q r)) d) (put-shows c r (Some (with_peer q r)) d there refl) refl) e

-- clients are told of a frame, which leaves them what they own
frames-lose : (time n c : ℕ) (old new : Midstep) → TellsFrames time n c old new → Loses old.desktop new.desktop
frames-lose time zero c old new h = loses-none old.desktop new.desktop (shows-itself old.desktop new.desktop (ap (λ (m : Midstep). m.desktop) h)) (ap (λ (m : Midstep). m.desktop.output) h)
frames-lose time (suc n) c old new h =
    loses-on old.desktop h.0.desktop new.desktop
    (loses-none old.desktop h.0.desktop (tells-so (λ r. without_callbacks (callbacks_due r) r) (frames_told time) (λ r. refl) c old h.0 h.1).shows
    (tells-still (λ r. without_callbacks (callbacks_due r) r) (frames_told time) c old h.0 h.1))
    (frames-lose time n (suc c) h.0 new h.2)

pub leads-along : (act : Act) (done : Done) (d : Desktop) (path : List Desktop) (new : Desktop) → is_losing_act act ≡ true → EndedAreBare d → Leads (Single act done) d path new
    → LosesAlong d path new
leads-along Connect done d path new is none h = connects-along (lowest d.clients) d done path new refl h
leads-along (Feed c piece) done d path new is none h = absurd h
leads-along (Store c store at bytes) done d path new is none h =
    changes-along (IsStored store at bytes) _ c (client_at c d) d done path new refl (λ r q there stored gone. never-none q _ stored.0 gone) h
leads-along (Leave c) done d path new is none h = leaves-along c (client_at c d) d done path new h
leads-along (Tick time) done d path new is none h = settling-along d h.1.0 path new (frames-lose time 32 1 (unstruck d) h.1.0 h.1.1) h.1.2
leads-along (Send c n) done d path new is none h =
    changes-along (IsSent n) _ c (client_at c d) d done path new refl (λ r q there sent gone. never-none q _ sent.0 gone) h
leads-along (Close c) done d path new is none h =
    changes-along IsClosed _ c (client_at c d) d done path new refl (λ r q there closed gone. none c r there (closed-none r.peer.status r.peer (sym closed.0 ∙ gone))) h
leads-along (Motion time x y) done d path new is none h = absurd (differ is)
leads-along (Button time button pressed) done d path new is none h = absurd (differ is)

-- what isn't marked from the first desktop to the last isn't marked by any end in turn
pub unmarked-each : (act : Act) (done : Done) (d : Desktop) (path : List Desktop) (new : Desktop) (x y : ℤ) → is_losing_act act ≡ true → EndedAreBare d → AreDistinct (all_windows d)
    → Leads (Single act done) d path new → marks_at_least d new x y ≡ false → marks_at_least_through all_windows d path x y ≡ false
unmarked-each act done d path new x y is none apart leads unmarked =
    false_from_ne_true (marks_at_least_through all_windows d path x y)
    (λ marked. differ (sym unmarked ∙ marked-each d x y apart path new (leads-along act done d path new is none leads) marked))

-- the same where memory runs out before the next message
pub unmarked-starving : (c : ℕ) (o : Option Resident) (d : Desktop) (path : List Desktop) (new : Desktop) (x y : ℤ) → AreDistinct (all_windows d) → StarvesAt c o d path new
    → marks_at_least d new x y ≡ false → marks_at_least_through all_windows d path x y ≡ false
unmarked-starving c None d path new x y apart h unmarked = absurd h
unmarked-starving c (Some r) d path new x y apart h unmarked =
    false_from_ne_true (marks_at_least_through all_windows d path x y)
    (λ marked. differ (sym unmarked
    ∙ marked-each d x y apart path new (settling-along d (unstruck (becomes c r (ended Memory r.peer) d)) path new (loses-client c Memory r d) h.1) marked))

-- and where the only desktop is the last
pub unmarked-one : (d new : Desktop) (path : List Desktop) (x y : ℤ) → path ≡ new ∷ [] → marks_at_least d new x y ≡ false → marks_at_least_through all_windows d path x y ≡ false
unmarked-one d new path x y one unmarked =
    ap (λ (p : List Desktop). marks_at_least_through all_windows d p x y) one ∙ ap (λ b. b || false) unmarked
