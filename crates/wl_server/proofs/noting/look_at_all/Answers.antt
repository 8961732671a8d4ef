use Rattle.std.proofs.Common.{◌≡◌, ◌+◌, ℕ, arith, refl, subst}
use Rattle.wl_server.specs.Recorded.{HoldsNotes, looked_up_to}
use Rattle.wl_server.proofs.NotedActs.{up-to-more, up-to-none}
use Rattle.wl_server.proofs.noting.look_at_all.Goals as goal

pub loop-place-init : goal.loop-place-init
loop-place-init g c = λ d agrees first notes holds. up-to-none g.R.Write.contents first d notes c.args.recording.now holds

pub loop-place-preserved : goal.loop-place-preserved
loop-place-preserved g c = λ d agrees first notes holds.
    up-to-more g.R.Write.contents first c.loop-place.place (c.loop-place.place + 1) c.status.result d notes c.look_at.new.recording refl (c.status.ensures d agrees)
    (c.look_at.ensures first (looked_up_to c.loop-place.place d notes) (c.loop-place.invariant d agrees first notes holds))

pub returns : goal.returns
returns g c = λ d agrees first notes holds.
    let all : c.loop-place.place ≡ 32 = omega arith in
    subst (λ (n : ℕ). HoldsNotes g.R.Write.contents first (looked_up_to n d notes) c.loop-place.recording) all (c.loop-place.invariant d agrees first notes holds)
