-- Where memory is there, a frame, a motion and a button lead to one desktop.
use Rattle.std.proofs.Common.{◌≡◌, ℕ, zero, suc, ◌≤◌, List, [], ◌∷◌, Bool, true, false, refl, arith}
use Rattle.std.specs.Prelude.{fold}
use Rattle.spec_desktop.specs.Peer.{Peer, removed}
use Rattle.wl_surface.specs.Waiting.{Callback}
use Rattle.spec_desktop.specs.Pointer.{is_down, is_press}
use Rattle.spec_desktop.specs.PointerActions.{PointerInput, Settle, GoTo, Went, Press, Release}
use Rattle.spec_desktop.specs.Windows.{Place}
use Rattle.spec_desktop.specs.Changing.{grab_holder, without_callbacks}
use Rattle.spec_desktop.specs.Desktop.{Desktop, Resident}
use Rattle.spec_desktop.specs.Settling.{EndsAndSettles, Midstep, PointerActs, Settles, SettlesEnds, unstruck}
use Rattle.spec_desktop.specs.Happens.{TellsFrames, callbacks_due, frames_told, placed, with_press, with_release}
use Rattle.law_desktop.proofs.Runs.Forms.{Buttons, MovesTo, PressesIf, ReleasesIf, Shows}
use Rattle.law_desktop.proofs.Runs.Ends.{acts-lead, end_all-leads, ends-leads, tells-leads}
use Rattle.law_desktop.proofs.Runs.Fates.{lasting, still}
use Rattle.law_desktop.proofs.Runs.Leads.{Leads, Sound, chained, from, moving, only, worded}

-- ---- a frame

gone-status : (gone : List Callback) (p : Peer) → (fold (λ p callback. removed callback.id p) p gone).status ≡ p.status
gone-status [] p = refl
gone-status (callback ∷ gone) p = gone-status gone (removed callback.id p)

pub callbacks-status : (gone : List Callback) (r : Resident) → (without_callbacks gone r).peer.status ≡ r.peer.status
callbacks-status gone r = gone-status gone r.peer

pub frames-leads : (time n c : ℕ) (old : Midstep) → Sound old → Leads Midstep moving old (TellsFrames time n c old)
frames-leads time zero c old sound = only Midstep moving old old (still _ _ sound)
frames-leads time (suc n) c old sound =
    let told = tells-leads (λ r. without_callbacks (callbacks_due r) r) (frames_told time) (λ r. callbacks-status (callbacks_due r) r) c old sound in
    chained Midstep Midstep moving moving old _ (λ mid new. TellsFrames time n (suc c) mid new) told
    (λ mid h. frames-leads time n (suc c) mid (told.follows mid h).sound)

pub shows-leads : (time : ℕ) (d : Desktop) → lasting d.clients ≤ 32 → Leads Desktop unstruck (unstruck d) (Shows time d)
shows-leads time d few =
    let frames = frames-leads time 32 1 (unstruck d) tt in
    chained Midstep Desktop moving unstruck (unstruck d) (TellsFrames time 32 1 (unstruck d)) EndsAndSettles frames
    (λ told h. let after = frames.follows told h in end_all-leads told after.sound (omega (arith, few, after.fewer)))

-- ---- a motion

pub moves-leads : (time : ℕ) (at : Place) (d : Desktop) → lasting d.clients ≤ 32 → Leads Desktop unstruck (unstruck d) (MovesTo time at d)
moves-leads time at d few =
    let goes = acts-lead (GoTo at) (unstruck d) tt in
    worded Desktop unstruck (unstruck d)
    (λ new. (gone : Midstep) × PointerActs (GoTo at) (unstruck d) gone × ((told : Midstep) × PointerActs (Went time) (placed at gone) told × SettlesEnds told new)) (MovesTo time at d)
    (λ new h. (h.0, h.1, (h.2, h.3, h.4)))
    (chained Midstep Desktop moving unstruck (unstruck d) (PointerActs (GoTo at) (unstruck d))
    (λ gone new. (told : Midstep) × PointerActs (Went time) (placed at gone) told × SettlesEnds told new) goes
    (λ gone h.
    let first = goes.follows gone h in
    let went = acts-lead (Went time) (placed at gone) first.sound in
    from Desktop unstruck gone (placed at gone) (λ new. (told : Midstep) × PointerActs (Went time) (placed at gone) told × SettlesEnds told new) (still _ _ first.sound)
    (chained Midstep Desktop moving unstruck (placed at gone) (PointerActs (Went time) (placed at gone)) SettlesEnds went
    (λ told k. let second = went.follows told k in ends-leads told second.sound (omega (arith, few, first.fewer, second.fewer))))))

-- ---- a button

settle_ends-leads : (old : Midstep) → Sound old → lasting old.desktop.clients ≤ 32 → Leads Desktop unstruck old (λ new. (settled : Midstep) × Settles old settled × SettlesEnds settled new)
settle_ends-leads old sound few =
    let settles = acts-lead Settle old sound in
    chained Midstep Desktop moving unstruck old (Settles old) SettlesEnds settles
    (λ mid h. let after = settles.follows mid h in ends-leads mid after.sound (omega (arith, few, after.fewer)))

-- the pointer does something, and then the focus is settled
acts_settle-leads : (input : PointerInput) (old : Midstep) → Sound old → lasting old.desktop.clients ≤ 32
    → Leads Desktop unstruck old (λ new. (told : Midstep) × PointerActs input old told × (settled : Midstep) × Settles told settled × SettlesEnds settled new)
acts_settle-leads input old sound few =
    let acts = acts-lead input old sound in
    worded Desktop unstruck old (λ new. (told : Midstep) × PointerActs input old told × ((settled : Midstep) × Settles told settled × SettlesEnds settled new))
    (λ new. (told : Midstep) × PointerActs input old told × (settled : Midstep) × Settles told settled × SettlesEnds settled new)
    (λ new h. (h.0, h.1, (h.2, h.3, h.4)))
    (chained Midstep Desktop moving unstruck old (PointerActs input old) (λ told new. (settled : Midstep) × Settles told settled × SettlesEnds settled new) acts
    (λ told h. let after = acts.follows told h in settle_ends-leads told after.sound (omega (arith, few, after.fewer))))

pressed-leads : (time button : ℕ) (d : Desktop) → lasting d.clients ≤ 32 → Leads Desktop unstruck (unstruck d) (PressesIf true time button d)
pressed-leads time button d few =
    let start = unstruck (with_press button d) in
    from Desktop unstruck (unstruck d) start (PressesIf true time button d) (still [] d.clients tt) (acts_settle-leads (Press time button (grab_holder d)) start tt few)

released-leads : (time button : ℕ) (d : Desktop) → lasting d.clients ≤ 32 → Leads Desktop unstruck (unstruck d) (ReleasesIf true time button d)
released-leads time button d few =
    let start = unstruck (with_release button d) in
    from Desktop unstruck (unstruck d) start (ReleasesIf true time button d) (still [] d.clients tt) (acts_settle-leads (Release time button) start tt few)

pub buttons-leads : (pressed : Bool) (time button : ℕ) (d : Desktop) → lasting d.clients ≤ 32 → Leads Desktop unstruck (unstruck d) (Buttons pressed time button d)
buttons-leads true time button d few = at (is_press button d.pointer.buttons)
  where
    at : (b : Bool) → Leads Desktop unstruck (unstruck d) (PressesIf b time button d)
    at true = pressed-leads time button d few
    at false = only Desktop unstruck (unstruck d) d (still [] d.clients tt)
buttons-leads false time button d few = at (is_down button d.pointer.buttons)
  where
    at : (b : Bool) → Leads Desktop unstruck (unstruck d) (ReleasesIf b time button d)
    at true = released-leads time button d few
    at false = only Desktop unstruck (unstruck d) d (still [] d.clients tt)
