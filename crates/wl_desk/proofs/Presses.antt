-- A button is pressed or released: a press raises what it hits, the focus is told, and then it is settled.
use Rattle.std.proofs.Common.{◌≡◌, ℕ, List, [], ◌∷◌, ◌++◌, Bool, true, false, Option, Some, None, refl, ap, ap₂, subst, sym, ◌∙◌}
use Rattle.std.specs.Prelude.{◌==◌, filter, if◌then◌else◌}
use Rattle.wl_paint.specs.Damage.{Damaged}
use Rattle.wl_scene.specs.Marking.{IsAsLarge}
use Rattle.spec_desktop.specs.Pointer.{Pointer, Target, hit_now, is_down, is_press, without_button}
use Rattle.spec_desktop.specs.PointerActions.{PointerAction, Dismiss, Press, Release, Settle, actions, button_of, dismiss_of, raise_of}
use Rattle.spec_desktop.specs.Stacking.{Standing}
use Rattle.spec_desktop.specs.Windows.{Place, Window}
use Rattle.wl_scene.specs.Focus.{toplevel_of, with_buttons}
use Rattle.spec_desktop.specs.declared.answers.Done.TheVariants as gave
use Rattle.spec_desktop.specs.Act.{Button}
use Rattle.spec_desktop.specs.Changing.{grab_holder, kept_move}
use Rattle.spec_desktop.specs.Desktop.{Desktop, unpointed}
use Rattle.spec_desktop.specs.Happenings.{Happening, Leads, Single}
use Rattle.spec_desktop.specs.Happens.{PressesThen, ReleasesThen, hold_from, released_to, with_press, with_release}
use Rattle.spec_desktop.specs.Marks.{AreDistinct}
use Rattle.spec_desktop.specs.Pointing.{button_told, has_pointers}
use Rattle.spec_desktop.specs.Replies.{popups_done}
use Rattle.spec_desktop.specs.Settling.{AppliesAll, Midstep, PointerActs, Settles, noted_if, number_of, unstruck, with_standing, without_grabs}
use Rattle.spec_desktop.specs.Stacked.{all_windows}
use Rattle.spec_desktop.specs.Through.{ending_through, raised_from, raised_if}
use Rattle.law_desktop.proofs.Runs.Settled.{ShowsSame, has-settled, settles-settled, shows-itself, shows-on}
use Rattle.law_desktop.specs.Pointed.Pointed.{MovedStands}
use Rattle.law_desktop.proofs.Lists.Each.{Each}
use Rattle.wl_clients.specs.declared.grabs.Latest.{Latest}
use Rattle.wl_clients.specs.Leading.{Led, raised_by}
use Rattle.wl_clients.specs.Midway.{IsMid}
use Rattle.wl_clients.specs.Releasing.{MarksJust}
use Rattle.wl_clients.specs.View.{MarkedDesk as KeptDesk}
use Rattle.wl_clients.proofs.Midway.{mid_begins_and_ends}
use Rattle.wl_clients.proofs.OnScreen.Pressed.{released-change}
use Rattle.wl_desk.specs.Agreeing.{Agrees, IsPlaced, LeadsBy}
use Rattle.wl_desk.specs.Doing.{IsTellable, is_told}
use Rattle.wl_desk.specs.Midway.{IsMidway, IsTelling, SettlesDown}
use Rattle.wl_desk.specs.Releasing.{Releases, released_by}
use Rattle.wl_clients.specs.Raising.{MarksChange, moved_up, raised_to}
use Rattle.wl_desk.specs.Restacking.{HasNumber}
use Rattle.wl_desk.specs.View.{DeskView, MarkedDesk}
use Rattle.wl_desk.specs.Ways.{EndsFrom, LeadsOnceEnded}
use Rattle.wl_desk.proofs.Applying.{noted-owned}
use Rattle.wl_desk.proofs.Calls.{desk_with, large-on}
use Rattle.wl_desk.proofs.Once.{ends-settled}
use Rattle.wl_desk.proofs.OwnChange.{all, own-leads, path}
use Rattle.wl_desk.proofs.Placed.{acts-stand}
use Rattle.wl_desk.proofs.Released.{dismissed-so}
use Rattle.wl_desk.proofs.Restacking.{change-none, still-marks, telling-apart}
use Rattle.wl_desk.proofs.Tells.{tells-pointer, tells-shows}

-- ---- the desk begins

-- what agrees with a desktop is told of it, whatever else is pressed
pub begins-telling : (k : KeptDesk) (seats : List (List ℕ)) (latest : List Latest) (p q r : Pointer) (d : Desktop) → Agrees (desk_with k seats latest p).desk d → q.place ≡ r.place
    → IsTelling (desk_with k seats latest q).desk (unstruck (record d { pointer = r }))
begins-telling k seats latest p q r d a place = record { kept = (mid_begins_and_ends k.desk (unpointed d)).0 a.kept; place = place; seats = a.seats; latest = a.latest }

pub number-on : (v w : DeskView) (t : Option Target) → w.kept ≡ v.kept → HasNumber v t → HasNumber w t
number-on v w None same h = tt
number-on v w (Some t) same h = subst (λ k. HasNumber (record v { kept = k }) (Some t)) (sym same) h

-- ---- the focus is told of a button

-- whatever the windows
any-windows : (time button : ℕ) (pressed : Bool) (focus : Option Target) (ws vs : List Window) (m n : Midstep) → AppliesAll vs (button_of time button pressed focus) m n
    → AppliesAll ws (button_of time button pressed focus) m n
any-windows time button pressed None ws vs m n h = h
any-windows time button pressed (Some t) ws vs m n h = h

button-told : (time button : ℕ) (pressed : Bool) (focus : Option Target) → filter is_told (button_of time button pressed focus) ≡ button_of time button pressed focus
button-told time button pressed None = refl
button-told time button pressed (Some t) = refl

button-each : (at : Option Place) (ws : List Window) (time button : ℕ) (pressed : Bool) (focus : Option Target) → Each (IsTellable at ws) (button_of time button pressed focus)
button-each at ws time button pressed None = tt
button-each at ws time button pressed (Some t) = (tt, tt)

-- nothing else changes
button-still : (ws : List Window) (time button : ℕ) (pressed : Bool) (focus : Option Target) (m n : Midstep) → AppliesAll ws (button_of time button pressed focus) m n
    → ShowsSame m.desktop n.desktop × (n.desktop.pointer ≡ m.desktop.pointer)
button-still ws time button pressed None m n h = (
  shows-itself m.desktop n.desktop (ap (λ (x : Midstep). x.desktop) h),
  ap (λ (x : Midstep). x.desktop.pointer) h,
)
button-still ws time button pressed (Some t) m n h = (
  subst (λ (x : Midstep). ShowsSame m.desktop x.desktop) (sym h.2)
      (tells-shows (λ r. noted_if (has_pointers r) pressed r) (button_told time button (number_of pressed)) (λ r. noted-owned (has_pointers r) pressed r) t.client m h.0 h.1),
  ap (λ (x : Midstep). x.desktop.pointer) h.2 ∙ tells-pointer (λ r. noted_if (has_pointers r) pressed r) (button_told time button (number_of pressed)) t.client m h.0 h.1,
)

-- ---- the middle of the step

button-midway : (v : DeskView) (d : Desktop) (old n : Midstep) → IsPlaced d → IsTelling v n → v.pointer ≡ old.desktop.pointer → old.desktop.pointer.place ≡ d.pointer.place
    → old.desktop.pointer.focus ≡ d.pointer.focus → MovedStands n.desktop → n.desktop.pointer ≡ old.desktop.pointer → IsMidway v n
button-midway v d old n placed telling pointer place focus moved same =
    let nowhere : n.desktop.pointer.place ≡ None → d.pointer.focus ≡ None = λ none. placed.nowhere (sym place ∙ sym (ap (λ (p : Pointer). p.place) same) ∙ none) in
    record {
      telling = telling;
      pointer = pointer ∙ sym same;
      placed = record { nowhere = λ none. ap (λ (p : Pointer). p.focus) same ∙ focus ∙ nowhere none; moved = moved };
    }

-- ---- one that doesn't count

apart-now : (k : KeptDesk) (seats : List (List ℕ)) (latest : List Latest) (p : Pointer) (d : Desktop) → Agrees (desk_with k seats latest p).desk d → AreDistinct (all_windows d)
apart-now k seats latest p d a =
    telling-apart (desk_with k seats latest p).desk (unstruck (record d { pointer = d.pointer })) (begins-telling k seats latest p p d.pointer d a (ap (λ (r : Pointer). r.place) a.pointer))

-- nothing is done, and nobody is to end
module _ (k : KeptDesk) (seats : List (List ℕ)) (latest : List Latest) (p : Pointer) (on : Bool) (new : MarkedDesk) (ends : EndsFrom (record (desk_with k seats latest p) { settled = on }) new) (d : Desktop)
    (a : Agrees (desk_with k seats latest p).desk d) where
  still-midway : IsMidway (desk_with k seats latest p).desk (unstruck d)
  still-midway = record { telling = begins-telling k seats latest p p d.pointer d a (ap (λ (r : Pointer). r.place) a.pointer); pointer = a.pointer; placed = a.placed }

  still-down : SettlesDown (record (desk_with k seats latest p) { settled = on }) new (unstruck d)
  still-down = ends (unstruck d) still-midway a.settled

  still-change : MarksChange None d d k.damage k.damage
  still-change = change-none None d k.damage (apart-now k seats latest p d a)

  abbrev still_way : List Desktop
  still_way = path None d d (unstruck d) (shows-itself d d refl) k.damage (record (desk_with k seats latest p) { settled = on }) new (record { width = refl; height = refl }) still-change still-midway still-down

  -- what leads no further leads to where the ends that follow do
  pub still-leads : (h : Happening) → None ≡ raised_by h d → ((way : List Desktop) (e : Desktop) → ending_through way e (unstruck d) → Leads h d way e) → Led (Agrees new.desk) h k.damage new.damage d
  still-leads h none leads =
      own-leads None d d (unstruck d) (shows-itself d d refl) k.damage (record (desk_with k seats latest p) { settled = on }) new (record { width = refl; height = refl }) still-change still-midway still-down h none
      (leads still_way still-down.last.desktop
      (ends-settled (unstruck d) still_way still-down.last.desktop a.settled
      (all None d d (unstruck d) (shows-itself d d refl) k.damage (record (desk_with k seats latest p) { settled = on }) new (record { width = refl; height = refl }) still-change still-midway still-down).0))

pub presses-not : (time button : ℕ) (k : KeptDesk) (seats : List (List ℕ)) (latest : List Latest) (p : Pointer) (on : Bool) → is_press button p.buttons ≡ false
    → LeadsOnceEnded (Single (Button time button true) gave.Button) (record (desk_with k seats latest p) { settled = on }) (record (desk_with k seats latest p) { settled = on })
presses-not time button k seats latest p on not new ends d a =
    let idle : is_press button d.pointer.buttons ≡ false = sym (ap (λ (r : Pointer). is_press button r.buttons) a.pointer) ∙ not in
    still-leads k seats latest p on new ends d a (Single (Button time button true) gave.Button) (ap (λ (b : Bool). raised_if b d) (sym idle))
    (λ way e over. (refl, subst (λ (b : Bool). PressesThen b time button d (ending_through way e)) (sym idle) over))

pub releases-not : (time button : ℕ) (k : KeptDesk) (seats : List (List ℕ)) (latest : List Latest) (p : Pointer) (on : Bool) → is_down button p.buttons ≡ false
    → LeadsOnceEnded (Single (Button time button false) gave.Button) (record (desk_with k seats latest p) { settled = on }) (record (desk_with k seats latest p) { settled = on })
releases-not time button k seats latest p on not new ends d a =
    let idle : is_down button d.pointer.buttons ≡ false = sym (ap (λ (r : Pointer). is_down button r.buttons) a.pointer) ∙ not in
    still-leads k seats latest p on new ends d a (Single (Button time button false) gave.Button) refl
    (λ way e over. (refl, subst (λ (b : Bool). ReleasesThen b time button d (ending_through way e)) (sym idle) over))

-- ---- a press

-- that a toplevel is raised, and that popups are dismissed, is done apart
dismiss-told : (time button : ℕ) (holder : Option ℕ) (w : Option Window) (focus : Option Target)
    → filter is_told (dismiss_of holder w ++ button_of time button true focus) ≡ button_of time button true focus
dismiss-told time button None w focus = button-told time button true focus
dismiss-told time button (Some c) None focus = button-told time button true focus
dismiss-told time button (Some c) (Some w) focus = at (w.owner.client == c)
  where
    at : (b : Bool) → filter is_told ((if b then [] else Dismiss c ∷ []) ++ button_of time button true focus) ≡ button_of time button true focus
    at true = button-told time button true focus
    at false = button-told time button true focus

press-told : (time button : ℕ) (holder : Option ℕ) (w : Option Window) (focus : Option Target)
    → filter is_told (raise_of w ++ dismiss_of holder w ++ button_of time button true focus) ≡ button_of time button true focus
press-told time button holder None focus = dismiss-told time button holder None focus
press-told time button holder (Some w) focus = dismiss-told time button holder (Some w) focus

dismiss-each : (at : Option Place) (ws : List Window) (time button : ℕ) (holder : Option ℕ) (w : Option Window) (focus : Option Target)
    → Each (IsTellable at ws) (dismiss_of holder w ++ button_of time button true focus)
dismiss-each at ws time button None w focus = button-each at ws time button true focus
dismiss-each at ws time button (Some c) None focus = (tt, button-each at ws time button true focus)
dismiss-each at ws time button (Some c) (Some w) focus = by (w.owner.client == c)
  where
    by : (b : Bool) → Each (IsTellable at ws) ((if b then [] else Dismiss c ∷ []) ++ button_of time button true focus)
    by true = button-each at ws time button true focus
    by false = (tt, button-each at ws time button true focus)

press-each : (at : Option Place) (ws : List Window) (time button : ℕ) (holder : Option ℕ) (w : Option Window) (focus : Option Target)
    → Each (IsTellable at ws) (raise_of w ++ dismiss_of holder w ++ button_of time button true focus)
press-each at ws time button holder None focus = dismiss-each at ws time button holder None focus
press-each at ws time button holder (Some w) focus = (tt, dismiss-each at ws time button holder (Some w) focus)

-- after the popups are dismissed the focus is told
dismiss-acts : (time button : ℕ) (holder : Option ℕ) (w : Option Window) (focus : Option Target) (ws vs : List Window) (m r n : Midstep)
    → Releases (released_by holder (toplevel_of w)) m r → AppliesAll vs (button_of time button true focus) r n
    → AppliesAll ws (dismiss_of holder w ++ button_of time button true focus) m n
dismiss-acts time button holder w focus ws vs m r n releases h = by holder w releases
  where
    told : AppliesAll ws (button_of time button true focus) r n
    told = any-windows time button true focus ws vs r n h

    still : r ≡ m → AppliesAll ws (button_of time button true focus) m n
    still same = subst (λ (x : Midstep). AppliesAll ws (button_of time button true focus) x n) same told

    by : (holder : Option ℕ) (w : Option Window) → Releases (released_by holder (toplevel_of w)) m r → AppliesAll ws (dismiss_of holder w ++ button_of time button true focus) m n
    by None w same = still same
    by (Some c) None tells = (r, tells, told)
    by (Some c) (Some w) releases = at (w.owner.client == c) releases
      where
        at : (b : Bool) → Releases (if b then None else Some c) m r → AppliesAll ws ((if b then [] else Dismiss c ∷ []) ++ button_of time button true focus) m n
        at true same = still same
        at false tells = (r, tells, told)

-- after the raise they are
press-acts : (time button : ℕ) (holder : Option ℕ) (w : Option Window) (focus : Option Target) (ws vs : List Window) (m r n : Midstep)
    → Releases (released_by holder (toplevel_of w)) (with_standing (raised_to (toplevel_of w) m.desktop.standing) m) r → AppliesAll vs (button_of time button true focus) r n
    → AppliesAll ws (raise_of w ++ dismiss_of holder w ++ button_of time button true focus) m n
press-acts time button holder None focus ws vs m r n releases h = dismiss-acts time button holder None focus ws vs m r n releases h
press-acts time button holder (Some w) focus ws vs m r n releases h =
    let up : Midstep = with_standing (raised_to (toplevel_of (Some w)) m.desktop.standing) m in
    (up, refl, dismiss-acts time button holder (Some w) focus ws vs up r n releases h)

up-so : (w : Option Window) (standing : List Standing) → moved_up (toplevel_of w) standing ≡ raised_from standing w
up-so None standing = refl
up-so (Some w) standing = refl

-- the pointer stays as it is
releases-pointer : (holder : Option ℕ) (m n : Midstep) → Releases holder m n → n.desktop.pointer ≡ m.desktop.pointer
releases-pointer None m n same = ap (λ (x : Midstep). x.desktop.pointer) same
releases-pointer (Some c) m n tells = tells-pointer without_grabs (λ r. popups_done r (without_grabs r)) c m n tells

-- what is done leads from d
module _ (time button : ℕ) (d : Desktop) (counts : is_press button d.pointer.buttons ≡ true) where
  abbrev pressed : Midstep
  pressed = unstruck (with_press button d)

  pub press-done : (top : Option Target) (holder : Option ℕ) (vs : List Window) (r n : Midstep) → toplevel_of (hit_now d.pointer.place (all_windows d)) ≡ top
      → holder ≡ grab_holder d → Releases (released_by holder top) (with_standing (raised_to top d.standing) pressed) r
      → AppliesAll vs (button_of time button true d.pointer.focus) r n → PointerActs (Press time button (grab_holder d)) pressed n
  press-done top holder vs r n hit holds releases told =
      subst (λ (h : Option ℕ). AppliesAll (all_windows d) (actions (Press time button h) d.pointer (all_windows d)) pressed n) holds
      (press-acts time button holder (hit_now d.pointer.place (all_windows d)) d.pointer.focus (all_windows d) vs pressed r n
      (subst (λ (t : Option Target). Releases (released_by holder t) (with_standing (raised_to t d.standing) pressed) r) (sym hit) releases) told)

  pub press-leads : (n : Midstep) (later : List Desktop) (e : Desktop) → PointerActs (Press time button (grab_holder d)) pressed n
      → ((settled : Midstep) × PointerActs Settle n settled × ending_through later e settled) → Leads (Single (Button time button true) gave.Button) d later e
  press-leads n later e acts ends =
      (refl, subst (λ (b : Bool). PressesThen b time button d (ending_through later e)) (sym counts) (n, acts, ends.0, ends.1, ends.2))

  pub press-raises : (top : Option Target) → toplevel_of (hit_now d.pointer.place (all_windows d)) ≡ top
      → moved_up top d.standing ≡ raised_by (Single (Button time button true) gave.Button) d
  press-raises top hit =
      ap (λ (t : Option Target). moved_up t d.standing) (sym hit) ∙ up-so (hit_now d.pointer.place (all_windows d)) d.standing
      ∙ ap (λ (b : Bool). raised_if b d) (sym counts)

pub presses : (time button : ℕ) (k : KeptDesk) (seats : List (List ℕ)) (latest : List Latest) (p p1 q : Pointer) (top : Option Target) (holder serial : Option ℕ)
    (does : List PointerAction) (raised released told once new : MarkedDesk) → is_press button p.buttons ≡ true
    → ((m : Midstep) → IsTelling (desk_with k seats latest p).desk m → toplevel_of (hit_now m.desktop.pointer.place (all_windows m.desktop)) ≡ top)
    → HasNumber (desk_with k seats latest p).desk top
    → ((d : Desktop) → Agrees (desk_with k seats latest p).desk d → serial ≡ hold_from d.pointer.buttons d.pointer d)
    → ((m : Midstep) → IsMid k.desk m → holder ≡ grab_holder m.desktop)
    → ((ws : List Window) → toplevel_of (hit_now p.place ws) ≡ top → does ≡ actions (Press time button holder) p1 ws)
    → p1 ≡ record p { buttons = p.buttons ++ button ∷ [] } → q ≡ record p1 { hold = serial }
    → ((m : Midstep) → IsTelling (desk_with k seats latest q).desk m → HasNumber (desk_with k seats latest q).desk top
    → IsTelling raised.desk (with_standing (raised_to top m.desktop.standing) m))
    → ((m : Midstep) → IsTelling (desk_with k seats latest q).desk m → HasNumber (desk_with k seats latest q).desk top
    → MarksChange (moved_up top m.desktop.standing) m.desktop (with_standing (raised_to top m.desktop.standing) m).desktop k.damage raised.damage)
    → IsAsLarge k.damage raised.damage → raised.desk.pointer ≡ q
    → ((m : Midstep) → IsTelling raised.desk m
    → (r : Midstep) × Releases (released_by holder top) m r × IsTelling released.desk r × MarksJust m.desktop r.desktop raised.damage released.damage)
    → IsAsLarge raised.damage released.damage → released.desk.pointer ≡ raised.desk.pointer
    → ((m : Midstep) → IsTelling released.desk m → Each (IsTellable m.desktop.pointer.place (all_windows m.desktop)) does
    → (n : Midstep) × AppliesAll (all_windows m.desktop) (filter is_told does) m n × IsTelling told.desk n)
    → told.desk.pointer ≡ released.desk.pointer → told.damage ≡ released.damage
    → ((m : Midstep) → IsMidway told.desk m → (n : Midstep) × Settles m n × IsMidway once.desk n) → once.damage ≡ told.damage → EndsFrom once new
    → LeadsBy (Single (Button time button true) gave.Button) (desk_with k seats latest p) new
presses time button k seats latest p p1 q top holder serial does raised released told once new counts hits number holds grabs acts pressing begun raises marks large same releases as-large goes
    tells stays damage settles quiet ends d a =
    let ws : List Window = all_windows d in
    let w : Option Window = hit_now d.pointer.place ws in
    let focus : Option Target = d.pointer.focus in
    let start : Midstep = unstruck (with_press button d) in
    let counted : is_press button d.pointer.buttons ≡ true = sym (ap (λ (r : Pointer). is_press button r.buttons) a.pointer) ∙ counts in
    let held : holder ≡ grab_holder d = grabs (unstruck (unpointed d)) ((mid_begins_and_ends k.desk (unpointed d)).0 a.kept) in
    let first : q ≡ start.desktop.pointer =
    begun ∙ ap (λ (r : Pointer). record r { hold = serial }) pressing
    ∙ ap₂ (λ (r : Pointer) (s : Option ℕ). record r { buttons = r.buttons ++ button ∷ []; hold = s }) a.pointer (holds d a) in
    let hit : toplevel_of w ≡ top = hits (unstruck d) (begins-telling k seats latest p p d.pointer d a (ap (λ (r : Pointer). r.place) a.pointer)) in
    let telling : IsTelling (desk_with k seats latest q).desk start = begins-telling k seats latest p q start.desktop.pointer d a (ap (λ (r : Pointer). r.place) first) in
    let known : HasNumber (desk_with k seats latest q).desk top = number-on (desk_with k seats latest p).desk (desk_with k seats latest q).desk top refl number in
    let up : Midstep = with_standing (raised_to top d.standing) start in
    let gone = releases up (raises start telling known) in
    let r : Midstep = gone.0 in
    let kept : r.desktop.pointer ≡ start.desktop.pointer = releases-pointer (released_by holder top) up r gone.1 in
    let change : MarksChange (moved_up top d.standing) d r.desktop k.damage once.damage =
    subst (λ (dmg : Damaged). MarksChange (moved_up top d.standing) d r.desktop k.damage dmg) (sym (quiet ∙ damage))
    (released-change still-marks (unpointed d) (unpointed r.desktop) top k.damage raised.damage released.damage telling.kept.agrees.ordered telling.kept.agrees.matches.mapped
    (dismissed-so (released_by holder top) up r gone.1) large (marks start telling known) gone.3) in
    let done : does ≡ raise_of w ++ dismiss_of holder w ++ button_of time button true focus =
    acts ws (ap (λ (r : Pointer). toplevel_of (hit_now r.place ws)) a.pointer ∙ hit) ∙ ap (λ (r : Pointer). actions (Press time button holder) r ws) pressing
    ∙ ap (λ (r : Pointer). actions (Press time button holder) r ws) a.pointer in
    let t = tells r gone.2
    (subst (λ (xs : List PointerAction). Each (IsTellable r.desktop.pointer.place (all_windows r.desktop)) xs) (sym done)
    (press-each r.desktop.pointer.place (all_windows r.desktop) time button holder w focus)) in
    let n : Midstep = t.0 in
    let told-of : AppliesAll (all_windows r.desktop) (button_of time button true focus) r n =
    subst (λ (xs : List PointerAction). AppliesAll (all_windows r.desktop) xs r n) (press-told time button holder w focus)
    (subst (λ (xs : List PointerAction). AppliesAll (all_windows r.desktop) (filter is_told xs) r n) done t.1) in
    let acted : PointerActs (Press time button (grab_holder d)) start n = press-done time button d counted top holder (all_windows r.desktop) r n hit held gone.1 told-of in
    let still = button-still (all_windows r.desktop) time button true focus r n told-of in
    let midway : IsMidway told.desk n =
    button-midway told.desk d start n a.placed t.2 (stays ∙ goes ∙ same ∙ first) refl refl
    (acts-stand (Press time button (grab_holder d)) start n acted a.placed.moved) (still.1 ∙ kept) in
    let turn = settles n midway in
    let shows : ShowsSame r.desktop turn.0.desktop = shows-on r.desktop n.desktop turn.0.desktop still.0 (has-settled n turn.0 turn.1).shows in
    let down : SettlesDown once new turn.0 = ends turn.0 turn.2 (settles-settled n turn.0 turn.1) in
    let size : IsAsLarge k.damage once.damage =
    subst (λ (dmg : Damaged). IsAsLarge k.damage dmg) (sym (quiet ∙ damage)) (large-on k.damage raised.damage released.damage large as-large) in
    let way : List Desktop = path (moved_up top d.standing) d r.desktop turn.0 shows k.damage once new size change turn.2 down in
    own-leads (moved_up top d.standing) d r.desktop turn.0 shows k.damage once new size change turn.2 down (Single (Button time button true) gave.Button)
    (press-raises time button d counted top hit)
    (press-leads time button d counted n way down.last.desktop acted (
      turn.0,
      turn.1,
      ends-settled turn.0 way down.last.desktop (settles-settled n turn.0 turn.1)
          (all (moved_up top d.standing) d r.desktop turn.0 shows k.damage once new size change turn.2 down).0,
    ))

-- ---- a release

released-so : (button : ℕ) (p : Pointer) (d : Desktop) → p ≡ d.pointer → with_buttons (without_button button p.buttons) p ≡ (with_release button d).pointer
released-so button p d same = at (without_button button p.buttons) ∙ ap (λ (r : Pointer). released_to (without_button button r.buttons) r) same
  where
    at : (buttons : List ℕ) → with_buttons buttons p ≡ released_to buttons p
    at [] = refl
    at (b ∷ bs) = refl

released-place : (buttons : List ℕ) (p : Pointer) → ((released_to buttons p).place ≡ p.place) × ((released_to buttons p).focus ≡ p.focus)
released-place [] p = (refl, refl)
released-place (b ∷ bs) p = (refl, refl)

-- after the last release nothing is moved
released-moved : (buttons : List ℕ) (d : Desktop) → MovedStands d → kept_move (released_to buttons d.pointer).move d.standing ≡ (released_to buttons d.pointer).move
released-moved [] d moved = refl
released-moved (b ∷ bs) d moved = moved

release-leads : (time button : ℕ) (d : Desktop) → is_down button d.pointer.buttons ≡ true → (n : Midstep) (later : List Desktop) (e : Desktop)
    → PointerActs (Release time button) (unstruck (with_release button d)) n
    → ((settled : Midstep) × PointerActs Settle n settled × ending_through later e settled) → Leads (Single (Button time button false) gave.Button) d later e
release-leads time button d counts n later e acts ends =
    (refl, subst (λ (b : Bool). ReleasesThen b time button d (ending_through later e)) (sym counts) (n, acts, ends.0, ends.1, ends.2))

pub releases : (time button : ℕ) (k : KeptDesk) (seats : List (List ℕ)) (latest : List Latest) (p q : Pointer) (does : List PointerAction) (told once new : MarkedDesk) → is_down button p.buttons ≡ true
    → ((ws : List Window) → does ≡ actions (Release time button) q ws) → q ≡ with_buttons (without_button button p.buttons) p
    → ((m : Midstep) → IsTelling (desk_with k seats latest q).desk m → Each (IsTellable m.desktop.pointer.place (all_windows m.desktop)) does
    → (n : Midstep) × AppliesAll (all_windows m.desktop) (filter is_told does) m n × IsTelling told.desk n)
    → told.desk.pointer ≡ q → told.damage ≡ k.damage
    → ((m : Midstep) → IsMidway told.desk m → (n : Midstep) × Settles m n × IsMidway once.desk n) → once.damage ≡ told.damage → EndsFrom once new
    → LeadsBy (Single (Button time button false) gave.Button) (desk_with k seats latest p) new
releases time button k seats latest p q does told once new counts acts releasing tells stays damage settles quiet ends d a =
    let ws : List Window = all_windows d in
    let buttons : List ℕ = without_button button d.pointer.buttons in
    let start : Midstep = unstruck (with_release button d) in
    let focus : Option Target = start.desktop.pointer.focus in
    let counted : is_down button d.pointer.buttons ≡ true = sym (ap (λ (r : Pointer). is_down button r.buttons) a.pointer) ∙ counts in
    let first : q ≡ start.desktop.pointer = releasing ∙ released-so button p d a.pointer in
    let telling : IsTelling (desk_with k seats latest q).desk start = begins-telling k seats latest p q start.desktop.pointer d a (ap (λ (r : Pointer). r.place) first) in
    let done : does ≡ button_of time button false focus = acts ws ∙ ap (λ (r : Pointer). button_of time button false r.focus) first in
    let t = tells start telling
    (subst (λ (xs : List PointerAction). Each (IsTellable start.desktop.pointer.place ws) xs) (sym done) (button-each start.desktop.pointer.place ws time button false focus)) in
    let n : Midstep = t.0 in
    let acted : PointerActs (Release time button) start n =
    subst (λ (xs : List PointerAction). AppliesAll ws xs start n) (button-told time button false focus)
    (subst (λ (xs : List PointerAction). AppliesAll ws (filter is_told xs) start n) done t.1) in
    let still = button-still ws time button false focus start n acted in
    let same = released-place buttons d.pointer in
    let midway : IsMidway told.desk n =
    button-midway told.desk d start n a.placed t.2 (stays ∙ first) same.0 same.1
    (acts-stand (Release time button) start n acted (released-moved buttons d a.placed.moved)) still.1 in
    let turn = settles n midway in
    let down : SettlesDown once new turn.0 = ends turn.0 turn.2 (settles-settled n turn.0 turn.1) in
    let change : MarksChange None d d k.damage once.damage =
    subst (λ (dmg : Damaged). MarksChange None d d k.damage dmg) (sym (quiet ∙ damage)) (change-none None d k.damage (apart-now k seats latest p d a)) in
    let size : IsAsLarge k.damage once.damage = subst (λ (dmg : Damaged). IsAsLarge k.damage dmg) (sym (quiet ∙ damage)) (record { width = refl; height = refl }) in
    let shows : ShowsSame d n.desktop = record { standing = still.0.standing; owned = still.0.owned } in
    let shows-then : ShowsSame d turn.0.desktop = shows-on d n.desktop turn.0.desktop shows (has-settled n turn.0 turn.1).shows in
    let way : List Desktop = path None d d turn.0 shows-then k.damage once new size change turn.2 down in
    own-leads None d d turn.0 shows-then k.damage once new size change turn.2 down (Single (Button time button false) gave.Button) refl
    (release-leads time button d counted n way down.last.desktop acted
    (turn.0, turn.1, ends-settled turn.0 way down.last.desktop (settles-settled n turn.0 turn.1) (all None d d turn.0 shows-then k.damage once new size change turn.2 down).0))
