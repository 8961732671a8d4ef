use Rattle.std.proofs.Common.{◌≡◌, ◌==◌, Bool, true, false, map, refl, sym, subst, ◌∙◌}
use Rattle.std.specs.Prelude.{MatchBool}
use Rattle.wl_surface.specs.Kept.{buffer_of}
use Rattle.wl_surface.specs.Applied.{AreFreed}
use Rattle.wl_surface.specs.Slots.{is_whole_at}
use Rattle.wl_surface.specs.Surfaces.{Surfaces, surface_at}
use Rattle.wl_surface.specs.Trees.{descends_from}
use Rattle.wl_surface.specs.Waiting.{AreWaiting}
use Rattle.wl_surface.specs.Linked.{Stand, numbered}
use Rattle.wl_surface.specs.Tree.{is_committed}
use Rattle.wl_surface.proofs.Committing.{commit-held, commit-now, committed-held, committed-now, if-ok, told-held, told-now}
use Rattle.wl_surface.proofs.Refusing.{on-ok}
use Rattle.wl_surface.proofs.Showing.{shown-such}
use Rattle.wl_surface.specs.Whole.{AreWhole}
use Rattle.wl_surface.proofs.surfaces.Surfaces.commit.Goals as goal

at-yes : (b : Bool) (P Q : Type 0) → b ≡ true → P → MatchBool b P Q
at-yes true P Q e p = p
at-yes false P Q e p = absurd (cc)

at-no : (b : Bool) (P Q : Type 0) → b ≡ false → Q → MatchBool b P Q
at-no true P Q e q = absurd (cc)
at-no false P Q e q = q

pub returns-then-behaves_synchronised-clause-ok : goal.returns-then-behaves_synchronised-clause-ok
returns-then-behaves_synchronised-clause-ok g c = on-ok c.hold.result c.hold.ensures.ok (λ stands all stand.
    let v = c.args.self.now in
    subst (λ (a : Surfaces). Stand c.hold.new.self.states c.hold.new.self.family a)
    (sym (commit-held v.states v.family all c.args.surface c.behaves_synchronised.result c.behaves_synchronised.ensures stand c.if-behaves_synchronised.true)) (stands all stand))

pub returns-then-behaves_synchronised-clause-waits : goal.returns-then-behaves_synchronised-clause-waits
returns-then-behaves_synchronised-clause-waits g c = on-ok c.hold.result c.hold.ensures.waits (λ waits all cs stand are.
    let v = c.args.self.now in
    subst (λ (a : Surfaces). AreWaiting c.hold.new.self.states.frames (numbered a) cs)
    (sym (commit-held v.states v.family all c.args.surface c.behaves_synchronised.result c.behaves_synchronised.ensures stand c.if-behaves_synchronised.true)) (waits all cs stand are))

pub returns-then-behaves_synchronised-clause-changes : goal.returns-then-behaves_synchronised-clause-changes
returns-then-behaves_synchronised-clause-changes g c = if-ok c.hold.result c.hold.ensures.changes (λ told are all stand.
    let v = c.args.self.now in
    told-held v.states v.family all c.args.surface c.behaves_synchronised.result c.behaves_synchronised.ensures stand told.changes.items c.if-behaves_synchronised.true are)

pub returns-then-behaves_synchronised-clause-freed : goal.returns-then-behaves_synchronised-clause-freed
returns-then-behaves_synchronised-clause-freed g c = if-ok c.hold.result c.hold.ensures.freed (λ told freed all stand.
    let v = c.args.self.now in
    subst (λ (a : Surfaces). AreFreed told.freed.items (numbered all) (numbered a))
    (sym (commit-held v.states v.family all c.args.surface c.behaves_synchronised.result c.behaves_synchronised.ensures stand c.if-behaves_synchronised.true)) (freed all stand))

pub returns-clause-ok : goal.returns-clause-ok
returns-clause-ok g c = on-ok c.commit_now.result c.commit_now.ensures.ok (λ stands all stand.
    let v = c.args.self.now in
    subst (λ (a : Surfaces). Stand c.commit_now.new.self.states c.commit_now.new.self.family a)
    (sym (commit-now v.states v.family all c.args.surface c.behaves_synchronised.result c.behaves_synchronised.ensures stand c.if-behaves_synchronised.false)) (stands all stand))

pub returns-clause-waits : goal.returns-clause-waits
returns-clause-waits g c = on-ok c.commit_now.result c.commit_now.ensures.waits (λ waits all cs stand are.
    let v = c.args.self.now in
    subst (λ (a : Surfaces). AreWaiting c.commit_now.new.self.states.frames (numbered a) cs)
    (sym (commit-now v.states v.family all c.args.surface c.behaves_synchronised.result c.behaves_synchronised.ensures stand c.if-behaves_synchronised.false)) (waits all cs stand are))

pub returns-clause-changes : goal.returns-clause-changes
returns-clause-changes g c = if-ok c.commit_now.result c.commit_now.ensures.changes (λ told are all stand.
    let v = c.args.self.now in
    told-now v.states v.family all c.args.surface c.behaves_synchronised.result c.behaves_synchronised.ensures stand told.changes.items c.if-behaves_synchronised.false (are all stand))

pub returns-clause-freed : goal.returns-clause-freed
returns-clause-freed g c = if-ok c.commit_now.result c.commit_now.ensures.freed (λ told freed all stand.
    let v = c.args.self.now in
    subst (λ (a : Surfaces). AreFreed told.freed.items (numbered all) (numbered a))
    (sym (commit-now v.states v.family all c.args.surface c.behaves_synchronised.result c.behaves_synchronised.ensures stand c.if-behaves_synchronised.false)) (freed all stand))

pub returns-then-behaves_synchronised-clause-shown : goal.returns-then-behaves_synchronised-clause-shown
returns-then-behaves_synchronised-clause-shown g c = if-ok c.hold.result c.hold.ensures.shown (λ told shown all stand.
    let v = c.args.self.now in
    shown-such (λ n. n == c.args.surface) (is_committed c.args.surface all) all (map buffer_of told.shown.items)
    (committed-held v.states v.family all c.args.surface c.behaves_synchronised.result c.behaves_synchronised.ensures stand c.if-behaves_synchronised.true) (shown all stand))

pub returns-clause-shown : goal.returns-clause-shown
returns-clause-shown g c = if-ok c.commit_now.result c.commit_now.ensures.shown (λ told shown all stand.
    let v = c.args.self.now in
    shown-such (descends_from 16 all c.args.surface) (is_committed c.args.surface all) all (map buffer_of told.shown.items)
    (committed-now v.states v.family all c.args.surface c.behaves_synchronised.result c.behaves_synchronised.ensures stand c.if-behaves_synchronised.false) (shown all stand))

pub returns-then-not-is_whole-clause-cause : goal.returns-then-not-is_whole-clause-cause
returns-then-not-is_whole-clause-cause g c = λ all stand. at-no (is_whole_at (surface_at c.args.surface all)) _ _ (sym (c.is_whole.ensures (numbered all) stand.surfaces) ∙ c.if-not-is_whole.true) refl

pub returns-then-behaves_synchronised-clause-cause : goal.returns-then-behaves_synchronised-clause-cause
returns-then-behaves_synchronised-clause-cause g c = λ all stand.
    at-yes (is_whole_at (surface_at c.args.surface all)) _ _ (sym (c.is_whole.ensures (numbered all) stand.surfaces) ∙ c.if-not-is_whole.false) c.hold.ensures.cause

pub returns-clause-cause : goal.returns-clause-cause
returns-clause-cause g c = λ all stand.
    at-yes (is_whole_at (surface_at c.args.surface all)) _ _ (sym (c.is_whole.ensures (numbered all) stand.surfaces) ∙ c.if-not-is_whole.false) c.commit_now.ensures.cause

pub returns-then-behaves_synchronised-clause-whole : goal.returns-then-behaves_synchronised-clause-whole
returns-then-behaves_synchronised-clause-whole g c = if-ok c.hold.result c.hold.ensures.changes (λ told none all stand. subst (AreWhole all _) (sym none) tt)

pub returns-clause-whole : goal.returns-clause-whole
returns-clause-whole g c = if-ok c.commit_now.result c.commit_now.ensures.whole (λ told whole all stand.
    let v = c.args.self.now in
    subst (λ (a : Surfaces). AreWhole all a told.changes.items)
    (sym (commit-now v.states v.family all c.args.surface c.behaves_synchronised.result c.behaves_synchronised.ensures stand c.if-behaves_synchronised.false)) (whole all stand))
