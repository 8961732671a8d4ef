-- Whatever happens leaves the focus of the pointer settled.
use Rattle.std.proofs.Common.{◌≡◌, ◌≢◌, ℕ, zero, suc, ◌+◌, ◌≤◌, ◌<◌, drop, List, [], ◌∷◌, ◌++◌, length, map, Bool, true, false, Option, Some, None, Result, refl, ap, ap₂, subst, sym, ◌∙◌, arith, inl, inr}
use Rattle.std.proofs.Math.Path.{fun_ext}
use Rattle.std.proofs.lemmas.Bool.{eqb-true}
use Rattle.std.proofs.lemmas.Option.{none-some, same_Some}
use Rattle.std.specs.Prelude.{◌==◌, ◌&&◌, ◌⊎◌, if◌then◌else◌, is_some, Ok, Err}
use Rattle.wl_wire.specs.declared.header.Split.{Split}
use Rattle.wl_wire.specs.declared.header.Split.TheVariants.{Message, More, Bad}
use Rattle.wl_wire.specs.Wire.{split_of}
use Rattle.spec_desktop.specs.declared.cause.Cause.{Cause}
use Rattle.spec_desktop.specs.declared.cause.Cause.TheVariants.{Gone, Memory}
use Rattle.spec_desktop.specs.declared.refusals.Refusal.{Refusal}
use Rattle.spec_desktop.specs.declared.refusals.ErrorCode.TheVariants.{InvalidMethod}
use Rattle.spec_desktop.specs.Peer.{Errs, LacksMemory, Peer, counted, ended, with_rest}
use Rattle.spec_desktop.specs.Told.{Said, display_error}
use Rattle.spec_desktop.specs.Pointer.{Pointer, Target, hit_now, is_down, is_press, is_same, is_stacked, kept_focus, settled, settled_focus}
use Rattle.spec_desktop.specs.PointerActions.{PointerAction, Leave, Enter, Dismiss, Settle, GoTo, Went, Press, Release, PointerInput, button_of, dismiss_of, enter_of, focus_or, is_hit_of, leave_of, motion_of, move_of, raise_of}
use Rattle.spec_desktop.specs.Popups.{stacked_popups}
use Rattle.spec_desktop.specs.Stacking.{Owned, Standing, nothing_owned, root_of}
use Rattle.spec_desktop.specs.Windows.{Place, Window, windows}
use Rattle.spec_desktop.specs.declared.answers.Done.{Done}
use Rattle.spec_desktop.specs.Act.{Connect, Feed, Store, Leave as Going, Tick, Send, Close, Motion as Moving, Button, IsClosed, IsSent, IsStored, closed_by, lowest, next_of}
use Rattle.spec_desktop.specs.Changing.{changed_for, grab_holder}
use Rattle.spec_desktop.specs.Demand.{Demand}
use Rattle.spec_desktop.specs.Desktop.{Desktop, Resident, arrival, become_by, client_at, owned_in, owned_of, place, with_client, with_place}
use Rattle.spec_desktop.specs.Happens.{AnswersThen, BecomesThen, DoesThen, FeedsAt, IsFedAt, Reaches, ServesThen, StopsAt, TakesThen, WantsOrThen, changed_so, done_for, placed, point_in, settling, wants_memory, with_press, with_release}
use Rattle.spec_desktop.specs.Settling.{Applies, AppliesAll, EndsAndSettles, EndsFirst, Midstep, PointerActs, Settles, SettlesAll, SettlesEnds, Strike, Tells, TellsAt, TellsUnless, after_status, becomes, ended_all, ended_at, ended_by, unstruck, with_focus}
use Rattle.spec_desktop.specs.Stacked.{all_windows}
use Rattle.spec_desktop.specs.Step.{with_peer}
use Rattle.law_desktop.specs.Focus.{ActsAreFew, FocusIsSettled, IsSettled, SettlingShowsNothing}
use Rattle.law_desktop.proofs.Runs.Ends.{acts-lead, ended-after, ended-one}
use Rattle.law_desktop.proofs.Runs.Fates.{AreStruck, Follows, lasting, lasting-within, number-long, same-or}
use Rattle.law_desktop.proofs.Runs.Forms.{Buttons, ChangesAt, ConnectsAt, LeavesAt, MovesTo, PressesIf, ReleasesIf, Shows}
use Rattle.law_desktop.proofs.Runs.Leads.{Sound}
use Rattle.law_desktop.proofs.Runs.Moves.{frames-leads}
use Rattle.law_desktop.proofs.Runs.OneRun.{changed-held, few-of, held}
use Rattle.law_desktop.proofs.Runs.Places.{number-other, number-same}
use Rattle.law_desktop.proofs.Runs.Serves.{done-clients_stay, serves-leads}
use Rattle.law_desktop.proofs.Runs.Following.{drawing-owned}

-- ---- what is shown stays

-- the same toplevels stand, and each client owns what it did
pub record ShowsSame (d e : Desktop) : Type 0 where
  pub standing : e.standing ≡ d.standing
  pub owned : (c : ℕ) → owned_in e c ≡ owned_in d c

abbrev pub windows_by : (ℕ → Owned) → List Standing → List Window
windows_by owned standing = windows (λ c. (owned c).surfaces) (λ c. stacked_popups (owned c)) (map (root_of owned) standing)

pub same-windows : (d e : Desktop) → ShowsSame d e → all_windows e ≡ all_windows d
same-windows d e same = ap₂ (λ (owned : ℕ → Owned) (standing : List Standing). windows_by owned standing) (fun_ext same.owned) same.standing

pub shows-itself : (d e : Desktop) → e ≡ d → ShowsSame d e
shows-itself d e same = record { standing = ap (λ (x : Desktop). x.standing) same; owned = λ c. ap (λ (x : Desktop). owned_in x c) same }

pub shows-on : (d e f : Desktop) → ShowsSame d e → ShowsSame e f → ShowsSame d f
shows-on d e f first second = record { standing = second.standing ∙ first.standing; owned = λ c. second.owned c ∙ first.owned c }

-- a client that is there becomes what owns the same
pub put-shows : (c : ℕ) (r : Resident) (x : Option Resident) (d : Desktop) → client_at c d ≡ Some r → owned_of x ≡ r.owned → ShowsSame d (with_client c x d)
put-shows c r x d there same = record { standing = refl; owned = λ k. at k (same-or c k) }
  where
    own : owned_in (with_client c x d) c ≡ owned_in d c
    own = ap owned_of (number-same d.clients c x r there) ∙ same ∙ sym (ap owned_of there)

    at : (k : ℕ) → (c ≡ k) ⊎ (c ≢ k) → owned_in (with_client c x d) k ≡ owned_in d k
    at k (inl e) = subst (λ (n : ℕ). owned_in (with_client c x d) n ≡ owned_in d n) e own
    at k (inr differ) = ap owned_of (number-other d.clients c k x differ)

-- ---- the pointer after what it does

-- The pointer has this focus, and is otherwise what it was; what is shown stays.
pub record HasFocus (focus : Option Target) (old new : Midstep) : Type 0 where
  pub pointer : new.desktop.pointer ≡ record old.desktop.pointer { focus = focus }
  pub shows : ShowsSame old.desktop new.desktop

stays-so : (focus : Option Target) (old new : Midstep) → new ≡ old → old.desktop.pointer.focus ≡ focus → HasFocus focus old new
stays-so focus old new same is =
    record {
      pointer = ap (λ (m : Midstep). m.desktop.pointer) same ∙ ap (λ (t : Option Target). record old.desktop.pointer { focus = t }) is;
      shows = shows-itself old.desktop new.desktop (ap (λ (m : Midstep). m.desktop) same);
    }

-- a client is told something that leaves it what it owns
pub tells-so : (change : Resident → Resident) (events : Resident → List Said) → ((r : Resident) → (change r).owned ≡ r.owned) → (c : ℕ) (old new : Midstep) → Tells change events c old new
    → HasFocus old.desktop.pointer.focus old new
tells-so change events same c old new h = at (client_at c old.desktop) refl h
  where
    unless : (b : Bool) (r : Resident) → client_at c old.desktop ≡ Some r → TellsUnless b change events c r old new → HasFocus old.desktop.pointer.focus old new
    unless true r there h = stays-so old.desktop.pointer.focus old new h refl
    unless false r there h =
        record {
          pointer = ap (λ (m : Midstep). m.desktop.pointer) h.3;
          shows = subst (λ (m : Midstep). ShowsSame old.desktop m.desktop) (sym h.3) (put-shows c r (Some (record (change r) { peer = h.0 })) old.desktop there (same r));
        }

    at : (o : Option Resident) → client_at c old.desktop ≡ o → TellsAt change events c o old new → HasFocus old.desktop.pointer.focus old new
    at None there h = stays-so old.desktop.pointer.focus old new h refl
    at (Some r) there h = unless _ r there h

focus-then : (was focus : Option Target) (old mid new : Midstep) → HasFocus was old mid → new ≡ with_focus focus mid → HasFocus focus old new
focus-then was focus old mid new has e =
    record {
      pointer = ap (λ (m : Midstep). m.desktop.pointer) e ∙ ap (λ (p : Pointer). record p { focus = focus }) has.pointer;
      shows = subst (λ (m : Midstep). ShowsSame old.desktop m.desktop) (sym e) (record { standing = has.shows.standing; owned = has.shows.owned });
    }

left-so : (windows : List Window) (t : Target) (old new : Midstep) → Applies windows (Leave t) old new → HasFocus None old new
left-so windows t old new h = focus-then old.desktop.pointer.focus None old h.0 new (tells-so _ _ (λ r. drawing-owned _ r) t.client old h.0 h.1) h.2

entered-so : (windows : List Window) (t : Target) (old new : Midstep) → Applies windows (Enter t) old new → HasFocus (Some t) old new
entered-so windows t old new h = focus-then old.desktop.pointer.focus (Some t) old h.0 new (tells-so _ _ (λ r. drawing-owned _ r) t.client old h.0 h.1) h.2

-- one after another
has-on : (was focus : Option Target) (old mid new : Midstep) → HasFocus was old mid → HasFocus focus mid new → HasFocus focus old new
has-on was focus old mid new first second =
    record {
      pointer = second.pointer ∙ ap (λ (p : Pointer). record p { focus = focus }) first.pointer;
      shows = shows-on old.desktop mid.desktop new.desktop first.shows second.shows;
    }

same-still : (focus : Option Target) (old mid new : Midstep) → HasFocus focus old mid → new ≡ mid → HasFocus focus old new
same-still focus old mid new has e = subst (λ (m : Midstep). HasFocus focus old m) (sym e) has

turns-so : (windows : List Window) (s t : Option Target) (old new : Midstep) → old.desktop.pointer.focus ≡ s → AppliesAll windows (leave_of s ++ enter_of t) old new → HasFocus t old new
turns-so windows None None old new is h = stays-so None old new h is
turns-so windows None (Some t) old new is h = same-still (Some t) old h.0 new (entered-so windows t old h.0 h.1) h.2
turns-so windows (Some s) None old new is h = same-still None old h.0 new (left-so windows s old h.0 h.1) h.2
turns-so windows (Some s) (Some t) old new is h =
    same-still (Some t) old h.2.0 new (has-on None (Some t) old h.0 h.2.0 (left-so windows s old h.0 h.1) (entered-so windows t h.0 h.2.0 h.2.1)) h.2.2

-- ---- the focus is settled

pub same-target : (s t : Option Target) → is_same s t ≡ true → s ≡ t
same-target None None e = refl
same-target None (Some t) e = absurd (cc)
same-target (Some s) None e = absurd (cc)
same-target (Some s) (Some t) e =
    ap₂ (λ (c surface : ℕ). Some (record { client = c; surface = surface })) (eqb-true s.client t.client (both-left (s.client == t.client) (s.surface == t.surface) e))
    (eqb-true s.surface t.surface (both-right (s.client == t.client) (s.surface == t.surface) e))
  where
    both-left : (a b : Bool) → (a && b) ≡ true → a ≡ true
    both-left true b e = refl
    both-left false b e = e

    both-right : (a b : Bool) → (a && b) ≡ true → b ≡ true
    both-right true b e = e
    both-right false b e = absurd (cc)

-- what is settled is so when it is settled again
pub settled-again : (p : Pointer) (ws : List Window) → settled (record p { focus = settled p ws }) ws ≡ settled p ws
settled-again p ws = at p.buttons
  where
    kept : (t : Target) (b : Bool) → is_stacked t ws ≡ b → kept_focus (if b then Some t else None) ws ≡ (if b then Some t else None)
    kept t true e = ap (λ (b : Bool). if b then Some t else None) e
    kept t false e = refl

    twice : (o : Option Target) → kept_focus (kept_focus o ws) ws ≡ kept_focus o ws
    twice None = refl
    twice (Some t) = kept t (is_stacked t ws) refl

    at : (buttons : List ℕ) → settled_focus buttons (record p { focus = settled_focus buttons p ws }) ws ≡ settled_focus buttons p ws
    at [] = refl
    at (button ∷ buttons) = twice p.focus

-- the pointer's focus is put to what it settles to
settles-so : (staying : List PointerAction) (old new : Midstep)
    → ((new : Midstep) → AppliesAll (all_windows old.desktop) staying old new → HasFocus old.desktop.pointer.focus old new)
    → AppliesAll (all_windows old.desktop) (focus_or staying old.desktop.pointer (all_windows old.desktop)) old new
    → HasFocus (settled old.desktop.pointer (all_windows old.desktop)) old new
settles-so staying old new stays h = at (is_same p.focus to) refl h
  where
    ws : List Window
    ws = all_windows old.desktop

    p : Pointer
    p = old.desktop.pointer

    to : Option Target
    to = settled p ws

    at : (b : Bool) → is_same p.focus to ≡ b → AppliesAll ws (if b then staying else leave_of p.focus ++ enter_of to) old new → HasFocus to old new
    at true e h = subst (λ (t : Option Target). HasFocus t old new) (same-target p.focus to e) (stays new h)
    at false e h = turns-so ws p.focus to old new refl h

focus-settled : (old new : Midstep) → HasFocus (settled old.desktop.pointer (all_windows old.desktop)) old new → IsSettled new.desktop
focus-settled old new has =
    ap (λ (p : Pointer). p.focus) has.pointer
    ∙ sym (ap₂ (λ (p : Pointer) (ws : List Window). settled p ws) has.pointer (same-windows old.desktop new.desktop has.shows) ∙ settled-again old.desktop.pointer (all_windows old.desktop))

nothing-done : (old new : Midstep) → AppliesAll (all_windows old.desktop) [] old new → HasFocus old.desktop.pointer.focus old new
nothing-done old new h = stays-so old.desktop.pointer.focus old new h refl

pub has-settled : (old new : Midstep) → Settles old new → HasFocus (settled old.desktop.pointer (all_windows old.desktop)) old new
has-settled old new h = settles-so [] old new (nothing-done old) h

pub settles-settled : (old new : Midstep) → Settles old new → IsSettled new.desktop
settles-settled old new h = focus-settled old new (has-settled old new h)

pub settling-shows-nothing : SettlingShowsNothing
settling-shows-nothing old new h =
    let has = has-settled old new h in (same-windows old.desktop new.desktop has.shows, has.shows.standing)

-- it went where it is: the surface that keeps the focus is told, or the focus moves
pub went-settled : (time : ℕ) (old new : Midstep) → PointerActs (Went time) old new → IsSettled new.desktop
went-settled time old new h =
    focus-settled old new (settles-so (motion_of time old.desktop.pointer.move old.desktop.pointer.focus) old new (λ new h. at old.desktop.pointer.move old.desktop.pointer.focus refl new h) h)
  where
    at : (moved focus : Option Target) → old.desktop.pointer.focus ≡ focus → (new : Midstep) → AppliesAll (all_windows old.desktop) (motion_of time moved focus) old new → HasFocus old.desktop.pointer.focus old new
    at moved None is new h = nothing-done old new h
    at None (Some t) is new h = same-still old.desktop.pointer.focus old h.0 new (tells-so (λ r. r) _ (λ r. refl) t.client old h.0 h.1) h.2
    at (Some moved) (Some t) is new h = nothing-done old new h

-- ---- ends

after-settling : (old new : Midstep) → Sound old → Settles old new → Follows old.struck old.desktop.clients new.struck new.desktop.clients
after-settling old new sound h = (acts-lead Settle old sound).follows new h

first-settled : (n : ℕ) → ((m : Midstep) → Sound m → lasting m.desktop.clients < n → (new : Desktop) → SettlesAll n m new → IsSettled new) → (ss : List Strike) (d : Desktop)
    → AreStruck ss d.clients → lasting d.clients ≤ n → IsSettled d → (new : Desktop) → EndsFirst (SettlesAll n) ss d new → IsSettled new
first-settled n next [] d sound few is new h = subst IsSettled (sym h) is
first-settled n next (s ∷ ss) d sound few is new h =
    next (record { desktop = ended_by s d; struck = ss }) (ended-after s ss d sound).sound (omega (arith, ended-one s ss d sound, few)) new h

all-settled : (n : ℕ) (old : Midstep) → Sound old → lasting old.desktop.clients < n → (new : Desktop) → SettlesAll n old new → IsSettled new
all-settled zero old sound few new h = let never : ⊥ = omega (arith, few) in absurd never
all-settled (suc n) old sound few new h =
    let after = after-settling old h.0 sound h.1 in
    first-settled n (all-settled n) h.0.struck h.0.desktop after.sound (omega (arith, after.fewer, few)) (settles-settled old h.0 h.1) new h.2

becomes-long : (c : ℕ) (r : Resident) (q : Peer) (d : Desktop) → length (becomes c r q d).clients ≡ length d.clients
becomes-long c r q d = at q.status
  where
    at : (s : Option Cause) → length (after_status s c (become_by s c r q d)).clients ≡ length d.clients
    at None = number-long d.clients c _
    at (Some cause) = number-long d.clients c _

ended-long : (s : Strike) (d : Desktop) → length (ended_by s d).clients ≡ length d.clients
ended-long s d = at (client_at s.client d)
  where
    at : (o : Option Resident) → length (ended_at s.client s.cause o d).clients ≡ length d.clients
    at None = refl
    at (Some r) = becomes-long s.client r (ended s.cause r.peer) d

all-long : (ss : List Strike) (d : Desktop) → length (ended_all ss d).clients ≡ length d.clients
all-long [] d = refl
all-long (s ∷ ss) d = all-long ss (ended_by s d) ∙ ended-long s d

few-last : (rs : List (Option Resident)) → length rs ≤ 32 → lasting rs ≤ 32
few-last rs short = omega (arith, lasting-within rs, short)

end_all-settled : (mid : Midstep) (new : Desktop) → length mid.desktop.clients ≤ 32 → EndsAndSettles mid new → IsSettled new
end_all-settled mid new short h =
    let ends : Desktop = ended_all mid.struck mid.desktop in
    let few : lasting ends.clients ≤ 32 = few-last ends.clients (subst (λ (n : ℕ). n ≤ 32) (sym (all-long mid.struck mid.desktop)) short) in
    all-settled 33 (unstruck ends) tt (omega (arith, few)) new h

ends-settled : (mid : Midstep) (new : Desktop) → Sound mid → length mid.desktop.clients ≤ 32 → IsSettled mid.desktop → SettlesEnds mid new → IsSettled new
ends-settled mid new sound short is h = first-settled 32 (all-settled 32) mid.struck mid.desktop sound (few-last mid.desktop.clients short) is new h

-- ---- a message

-- What a message does by itself leads to as many clients, and then the focus is settled.
module _ (d new : Desktop) (short : length d.clients ≤ 32) where
  settled-of : (mid : Midstep) → length mid.desktop.clients ≡ length d.clients → EndsAndSettles mid new → IsSettled new
  settled-of mid long h = end_all-settled mid new (subst (λ (n : ℕ). n ≤ 32) (sym long) short) h

  becomes-settled : (Q : Peer → Type 0) (c : ℕ) (r : Resident) → BecomesThen Q c r d (settling new) → IsSettled new
  becomes-settled Q c r h = settled-of (unstruck (becomes c r h.0 d)) (becomes-long c r h.0 d) h.2

  done-settled : (c : ℕ) (demand : Demand) (r : Resident) → DoesThen c demand r d (settling new) → IsSettled new
  done-settled c demand r h =
      settled-of (changed_so c demand r d h.0 h.1)
      (number-long (done_for c demand r d).clients c (Some (with_peer h.0 (changed_for c demand r d))) ∙ ap (λ rs. length rs) (done-clients_stay c demand r d)) h.3

  wants-settled : (b : Bool) (c : ℕ) (demand : Demand) (r : Resident) → WantsOrThen b (DoesThen c demand r d (settling new)) c r d (settling new) → IsSettled new
  wants-settled false c demand r h = done-settled c demand r h
  wants-settled true c demand r (inl h) = becomes-settled (LacksMemory r.peer) c r h
  wants-settled true c demand r (inr h) = done-settled c demand r h

  answered-settled : (judged : Result Demand Refusal) (c : ℕ) (r : Resident) → AnswersThen judged c r d (settling new) → IsSettled new
  answered-settled (Ok demand) c r h = wants-settled (wants_memory demand) c demand (with_peer (counted r.peer) r) h
  answered-settled (Err refusal) c r h = becomes-settled (Errs refusal r.peer) c r h

  taken-settled : (split : Split) (c : ℕ) (r : Resident) → TakesThen split c r d (settling new) → IsSettled new
  taken-settled (Message object opcode size) c r h = answered-settled _ c (with_peer (with_rest (drop size r.peer.rest) r.peer) r) h
  taken-settled Bad c r h = becomes-settled (Errs (display_error InvalidMethod) r.peer) c r h
  taken-settled More c r h = absurd h

  served-settled : (c : ℕ) (o : Option Resident) → ServesThen c o d (settling new) → IsSettled new
  served-settled c None h = absurd h
  served-settled c (Some r) h = taken-settled (split_of r.peer.rest) c r h.1

-- ---- a piece

settled-shown : (d e : Desktop) → ShowsSame d e → e.pointer ≡ d.pointer → IsSettled d → IsSettled e
settled-shown d e same pointer is =
    ap (λ (p : Pointer). p.focus) pointer ∙ is ∙ sym (ap₂ (λ (p : Pointer) (ws : List Window). settled p ws) pointer (same-windows d e same))

settled-same : (d e : Desktop) → e ≡ d → IsSettled d → IsSettled e
settled-same d e same is = subst IsSettled (sym same) is

within-long : (d e : Desktop) → length e.clients ≡ length d.clients → length d.clients ≤ 32 → length e.clients ≤ 32
within-long d e long short = subst (λ (n : ℕ). n ≤ 32) (sym long) short

reached-settled : (c n : ℕ) (d mid : Desktop) → length d.clients ≤ 32 → IsSettled d → Reaches c n d mid → (length mid.clients ≡ length d.clients) × IsSettled mid
reached-settled c zero d mid short is h = (ap (λ (x : Desktop). length x.clients) h, settled-same d mid h is)
reached-settled c (suc n) d mid short is h =
    let before = reached-settled c n d h.0 short is h.1 in
    let few = within-long d h.0 before.0 short in
    ((((serves-leads c h.0 (few-of h.0 few)).follows mid h.2).long ∙ before.0), served-settled h.0 mid few c (client_at c h.0) h.2)

stopped-settled : (c : ℕ) (o : Option Resident) (d new : Desktop) → length d.clients ≤ 32 → IsSettled d → StopsAt c o d new → IsSettled new
stopped-settled c None d new short is h = absurd h
stopped-settled c (Some r) d new short is (inl h) = settled-same d new h.0 is
stopped-settled c (Some r) d new short is (inr h) =
    settled-of d new short (unstruck (becomes c r (ended Memory r.peer) d)) (becomes-long c r (ended Memory r.peer) d) h.1

feeds-settled : (c : ℕ) (piece : List ℕ) (s : Option Cause) (r : Resident) (d new : Desktop) → client_at c d ≡ Some r → length d.clients ≤ 32 → IsSettled d → FeedsAt c piece s r d new
    → IsSettled new
feeds-settled c piece (Some cause) r d new there short is h = settled-same d new h is
feeds-settled c piece None r d new there short is h =
    let come : Resident = with_peer (with_rest (r.peer.rest ++ piece) r.peer) r in
    let start : Desktop = with_client c (Some come) d in
    let begun : IsSettled start = settled-shown d start (put-shows c r (Some come) d there refl) refl is in
    let few : length start.clients ≤ 32 = within-long d start (number-long d.clients c (Some come)) short in
    let there = reached-settled c h.0 start h.1 few begun h.2 in
    stopped-settled c (client_at c h.1) h.1 new (within-long start h.1 there.0 few) there.1 h.3

fed-settled : (c : ℕ) (piece : List ℕ) (o : Option Resident) (d new : Desktop) (done : Done) → client_at c d ≡ o → length d.clients ≤ 32 → IsSettled d → IsFedAt c piece o d done new
    → IsSettled new
fed-settled c piece None d new done there short is h = settled-same d new h.1 is
fed-settled c piece (Some r) d new done there short is h = feeds-settled c piece r.peer.status r d new there short is h.0

-- ---- a client comes, goes, is written to, sent to or closed

one-more : (k : ℕ) → k + 1 ≡ suc k
one-more k = omega arith

free-place : (xs : List (Option Resident)) (k : ℕ) → lowest xs ≡ Some k → place xs k ≡ None
free-place [] k e = refl
free-place (None ∷ xs) zero e = refl
free-place (None ∷ xs) (suc k) e = absurd (cc)
free-place (Some x ∷ xs) k e = at (lowest xs) (free-place xs) e
  where
    at : (o : Option ℕ) → ((j : ℕ) → o ≡ Some j → place xs j ≡ None) → next_of o ≡ Some k → place (Some x ∷ xs) k ≡ None
    at None later e = absurd (cc)
    at (Some j) later e = subst (λ (n : ℕ). place (Some x ∷ xs) n ≡ None) (sym (one-more j) ∙ same_Some (j + 1) k e) (later j refl)

empty-place : (rs : List (Option Resident)) (k : ℕ) (x : Option Resident) → owned_of x ≡ nothing_owned → place rs k ≡ None → owned_of (place (with_place k x rs) k) ≡ nothing_owned
empty-place [] k x none free = refl
empty-place (r ∷ rs) zero x none free = none
empty-place (r ∷ rs) (suc k) x none free = empty-place rs k x none free

-- where there is none, one comes that owns nothing
pub come-shows : (k : ℕ) (x : Option Resident) (d : Desktop) → lowest d.clients ≡ Some k → owned_of x ≡ nothing_owned → ShowsSame d (with_client (k + 1) x d)
come-shows k x d first none = subst (λ (n : ℕ). ShowsSame d (with_client n x d)) (sym (one-more k)) (record { standing = refl; owned = λ j. at j (same-or (suc k) j) })
  where
    free : place d.clients k ≡ None
    free = free-place d.clients k first

    at : (j : ℕ) → (suc k ≡ j) ⊎ (suc k ≢ j) → owned_in (with_client (suc k) x d) j ≡ owned_in d j
    at j (inl e) =
        subst (λ (n : ℕ). owned_in (with_client (suc k) x d) n ≡ owned_in d n) e (empty-place d.clients k x none free ∙ sym (ap owned_of free))
    at j (inr differ) = ap owned_of (number-other d.clients (suc k) j x differ)

connects-settled : (k : Option ℕ) (d new : Desktop) (done : Done) → lowest d.clients ≡ k → IsSettled d → ConnectsAt k d done new → IsSettled new
connects-settled None d new done first is h = settled-same d new h.1 is
connects-settled (Some k) d new done first is (inl h) = settled-same d new h.1 is
connects-settled (Some k) d new done first is (inr h) =
    let come : Option Resident = Some (arrival d.output) in
    settled-same (with_client (k + 1) come d) new h.1 (settled-shown d (with_client (k + 1) come d) (come-shows k come d first refl) refl is)

-- the client with this status
so : Option Cause → Resident → Resident
so s r = record r { peer = record r.peer { status = s } }

left-settled : (c : ℕ) (s : Option Cause) (r : Resident) (d new : Desktop) (done : Done) → length d.clients ≤ 32 → IsSettled d → LeavesAt c (Some (so s r)) d done new → IsSettled new
unfolding so
left-settled c (Some cause) r d new done short is h = settled-same d new h.1 is
left-settled c None r d new done short is h =
    settled-of d new short (unstruck (becomes c (so None r) (ended Gone (so None r).peer) d)) (becomes-long c (so None r) (ended Gone (so None r).peer) d) h.1

leaves-settled : (c : ℕ) (o : Option Resident) (d new : Desktop) (done : Done) → length d.clients ≤ 32 → IsSettled d → LeavesAt c o d done new → IsSettled new
unfolding so
leaves-settled c None d new done short is h = settled-same d new h.1 is
leaves-settled c (Some r) d new done short is h = left-settled c r.peer.status r d new done short is h

-- its peer alone changes, or it isn't there any more, and owned nothing
held-settled : (q : Option Peer) (c : ℕ) (r : Resident) (d : Desktop) → client_at c d ≡ Some r → (q ≡ None → r.owned ≡ nothing_owned) → IsSettled d → IsSettled (held q c r d)
held-settled None c r d there none is = settled-shown d (with_client c None d) (put-shows c r None d there (sym (none refl))) refl is
held-settled (Some q) c r d there none is = settled-shown d (with_client c (Some (with_peer q r)) d) (put-shows c r (Some (with_peer q r)) d there refl) refl is

changes-settled : (R : Peer → Done → Option Peer → Type 0) (absent done : Done) (c : ℕ) (o : Option Resident) (d new : Desktop) → client_at c d ≡ o
    → ((r : Resident) (q : Option Peer) → client_at c d ≡ Some r → R r.peer done q → q ≡ None → r.owned ≡ nothing_owned) → IsSettled d → ChangesAt R absent c o d done new → IsSettled new
changes-settled R absent done c None d new there none is h = settled-same d new h.1 is
changes-settled R absent done c (Some r) d new there none is h =
    let it = changed-held R absent done c r d new h in
    settled-same (held it.0 c r d) new it.2 (held-settled it.0 c r d there (λ gone. none r it.0 there it.1 gone) is)

pub never-none : {A : Type 0} (q : Option Peer) (p : Peer) → q ≡ Some p → q ≡ None → A
never-none q p is none = absurd (none-some p (sym none ∙ is))

pub closed-none : (s : Option Cause) (p : Peer) → closed_by s p ≡ None → is_some s ≡ true
closed-none None p e = absurd (none-some p (sym e))
closed-none (Some cause) p e = refl

-- ---- a frame, a motion and a button

shown-settled : (time : ℕ) (d new : Desktop) → length d.clients ≤ 32 → Shows time d new → IsSettled new
shown-settled time d new short h =
    end_all-settled h.0 new (within-long d h.0.desktop ((frames-leads time 32 1 (unstruck d) tt).follows h.0 h.1).long short) h.2

moved-settled : (time : ℕ) (at : Place) (d new : Desktop) → length d.clients ≤ 32 → MovesTo time at d new → IsSettled new
moved-settled time at d new short h =
    let goes = (acts-lead (GoTo at) (unstruck d) tt).follows h.0 h.1 in
    let went = (acts-lead (Went time) (placed at h.0) goes.sound).follows h.2 h.3 in
    ends-settled h.2 new went.sound (within-long d h.2.desktop (went.long ∙ goes.long) short) (went-settled time (placed at h.0) h.2 h.3) h.4

-- the pointer does something, and then the focus is settled
acts-settled : (input : PointerInput) (start : Desktop) (new : Desktop) → length start.clients ≤ 32
    → ((told : Midstep) × PointerActs input (unstruck start) told × (settled : Midstep) × Settles told settled × SettlesEnds settled new) → IsSettled new
acts-settled input start new short h =
    let acts = (acts-lead input (unstruck start) tt).follows h.0 h.1 in
    let settles = after-settling h.0 h.2 acts.sound h.3 in
    ends-settled h.2 new settles.sound (within-long start h.2.desktop (settles.long ∙ acts.long) short) (settles-settled h.0 h.2 h.3) h.4

presses-settled : (b : Bool) (time button : ℕ) (d new : Desktop) → length d.clients ≤ 32 → IsSettled d → PressesIf b time button d new → IsSettled new
presses-settled true time button d new short is h = acts-settled (Press time button (grab_holder d)) (with_press button d) new short h
presses-settled false time button d new short is h = settled-same d new h is

releases-settled : (b : Bool) (time button : ℕ) (d new : Desktop) → length d.clients ≤ 32 → IsSettled d → ReleasesIf b time button d new → IsSettled new
releases-settled true time button d new short is h = acts-settled (Release time button) (with_release button d) new short h
releases-settled false time button d new short is h = settled-same d new h is

buttons-settled : (pressed : Bool) (time button : ℕ) (d new : Desktop) → length d.clients ≤ 32 → IsSettled d → Buttons pressed time button d new → IsSettled new
buttons-settled true time button d new short is h = presses-settled (is_press button d.pointer.buttons) time button d new short is h
buttons-settled false time button d new short is h = releases-settled (is_down button d.pointer.buttons) time button d new short is h

-- ---- all of them

pub focus-is-settled : FocusIsSettled
focus-is-settled Connect done d new short none is h = connects-settled (lowest d.clients) d new done refl is h
focus-is-settled (Feed c piece) done d new short none is h = fed-settled c piece (client_at c d) d new done refl short is h
focus-is-settled (Store c store at bytes) done d new short none is h =
    changes-settled (IsStored store at bytes) _ done c (client_at c d) d new refl (λ r q there stored gone. never-none q _ stored.0 gone) is h
focus-is-settled (Going c) done d new short none is h = leaves-settled c (client_at c d) d new done short is h
focus-is-settled (Tick time) done d new short none is h = shown-settled time d new short h.1
focus-is-settled (Send c n) done d new short none is h =
    changes-settled (IsSent n) _ done c (client_at c d) d new refl (λ r q there sent gone. never-none q _ sent.0 gone) is h
focus-is-settled (Close c) done d new short none is h =
    changes-settled IsClosed _ done c (client_at c d) d new refl (λ r q there closed gone. none c r there (closed-none r.peer.status r.peer (sym closed.0 ∙ gone))) is h
focus-is-settled (Moving time x y) done d new short none is h = moved-settled time (point_in d.output x y) d new short h.1
focus-is-settled (Button time button pressed) done d new short none is h = buttons-settled pressed time button d new short is h.1

-- ---- the pointer does few things

few-focus : (staying : List PointerAction) (p : Pointer) (ws : List Window) → length staying ≤ 3 → length (focus_or staying p ws) ≤ 3
few-focus staying p ws few = at (is_same p.focus (settled p ws)) p.focus (settled p ws)
  where
    at : (b : Bool) (s t : Option Target) → length (if b then staying else leave_of s ++ enter_of t) ≤ 3
    at true s t = few
    at false None None = omega arith
    at false None (Some t) = omega arith
    at false (Some s) None = omega arith
    at false (Some s) (Some t) = omega arith

pub acts-are-few : ActsAreFew
acts-are-few Settle p ws = few-focus [] p ws (omega arith)
acts-are-few (GoTo to) p ws = at p.place p.move
  where
    at : (from : Option Place) (moved : Option Target) → length (move_of from to moved) ≤ 3
    at None moved = omega arith
    at (Some from) None = omega arith
    at (Some from) (Some t) = omega arith
acts-are-few (Went time) p ws = few-focus (motion_of time p.move p.focus) p ws (at p.move p.focus)
  where
    at : (moved focus : Option Target) → length (motion_of time moved focus) ≤ 3
    at moved None = omega arith
    at None (Some t) = omega arith
    at (Some moved) (Some t) = omega arith
acts-are-few (Press time button holder) p ws = at (hit_now p.place ws) holder p.focus
  where
    dismissed : (b : Bool) (c : ℕ) → length (if b then [] else Dismiss c ∷ []) ≤ 1
    dismissed true c = omega arith
    dismissed false c = omega arith

    told : (xs : List PointerAction) (focus : Option Target) → length xs ≤ 1 → length (xs ++ button_of time button true focus) ≤ 2
    told [] None few = omega arith
    told [] (Some t) few = omega arith
    told (x ∷ []) None few = omega arith
    told (x ∷ []) (Some t) few = omega arith
    told (x ∷ y ∷ xs) focus few = let never : ⊥ = omega (arith, few) in absurd never

    at : (w : Option Window) (holder : Option ℕ) (focus : Option Target) → length (raise_of w ++ dismiss_of holder w ++ button_of time button true focus) ≤ 3
    at None None None = omega arith
    at None None (Some t) = omega arith
    at None (Some c) focus = omega (arith, told (dismiss_of (Some c) None) focus (dismissed (is_hit_of c None) c))
    at (Some w) None None = omega arith
    at (Some w) None (Some t) = omega arith
    at (Some w) (Some c) focus = omega (arith, told (dismiss_of (Some c) (Some w)) focus (dismissed (is_hit_of c (Some w)) c))
acts-are-few (Release time button) p ws = at p.focus
  where
    at : (focus : Option Target) → length (button_of time button false focus) ≤ 3
    at None = omega arith
    at (Some t) = omega arith
