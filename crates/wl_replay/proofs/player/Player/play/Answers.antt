use Rattle.std.proofs.Common.{◌≡◌, Ok, refl, ap, arith}
use Rattle.std.proofs.lemmas.Result.{err_from_is_err_and}
use Rattle.wl_recording.specs.Images.{images_in}
use Rattle.wl_replay.proofs.Playing.{PlayedTo-none, PlayedTo-more, IsPlayed-end, StopsAs-line, StopsAs-past}
use Rattle.wl_replay.proofs.player.Player.play.Goals as goal

pub loop-lines-init : goal.loop-lines-init
loop-lines-init g c =
    record { played = λ first stands. PlayedTo-none _ first _ _ _ _ _ stands; few_frames = omega arith; few_clients = omega arith }

pub loop-lines-preserved : goal.loop-lines-preserved
loop-lines-preserved g c =
    let one = rw c.in-Some.is at c.in_ok-play_line.ensures.played in
    let small = rw c.in-Some.is at c.in_ok-play_line.ensures.small in
    record {
      played = λ first stands.
          PlayedTo-more _ first _ c.loop-lines.side c.play_line.new.side c.loop-lines.self.session c.play_line.new.self.session
          _ _ _ _ _ _ _ _ _ c.loop-lines.lines c.loop-lines.frames c.loop-lines.clients
          c.in-Some.shown.frames c.in-Some.shown.clients c.loop-lines-test.true (c.loop-lines.invariant.played first stands) one;
      few_frames = omega (arith, small.0);
      few_clients = omega (arith, small.1);
    }

pub returns-in_err-play_line-clause-stopped : goal.returns-in_err-play_line-clause-stopped
returns-in_err-play_line-clause-stopped g c =
    let p = err_from_is_err_and c.from_residual.result c.from_residual.ensures.1 in
    rw (p.1, p.2) (λ first stands.
    StopsAs-line _ _ first _ c.loop-lines.side c.play_line.new.side c.loop-lines.self.session _ _ _ _ _ _ _ _ c.loop-lines.lines c.loop-lines.frames c.loop-lines.clients _ _
    (c.loop-lines.invariant.played first stands) (λ quiet. (ap g.W.Write.contents quiet.0, ap (images_in g.P.Write.contents) quiet.1, quiet.2))
    (λ lacks. (ap g.W.Write.contents lacks.0, ap (images_in g.P.Write.contents) lacks.1, lacks.2))
    c.in_err-play_line.ensures.failed)

pub returns-in-None-clause-played : goal.returns-in-None-clause-played
returns-in-None-clause-played g c = λ first stands.
    let quiet = rw c.in-None.is at c.in_ok-play_line.ensures.played in
    IsPlayed-end _ first _ c.loop-lines.side c.play_line.new.side c.loop-lines.self.session _ _ _ _ _ _ _ _ c.loop-lines.lines c.loop-lines.frames c.loop-lines.clients
    (c.loop-lines.invariant.played first stands)
    quiet.0 (ap g.W.Write.contents quiet.1) (ap (images_in g.P.Write.contents) quiet.2) quiet.3

pub returns-in_err-read_text-clause-stopped : goal.returns-in_err-read_text-clause-stopped
returns-in_err-read_text-clause-stopped g c =
    let p = err_from_is_err_and c.from_residual-in_err-read_text.result c.from_residual-in_err-read_text.ensures.1 in
    let all : c.loop-lines.lines ≡ 1000000 = omega arith in
    rw (p.1, p.2) (λ first stands.
    let played = c.loop-lines.invariant.played first stands in
    StopsAs-line _ _ first _ c.loop-lines.side c.loop-lines.side c.loop-lines.self.session _ _ _ _ _ _ _ _ 1000000 c.loop-lines.frames c.loop-lines.clients _ _ (rw all at played)
    (λ quiet. (refl, refl, refl)) (λ lacks. absurd lacks) c.in_err-read_text.ensures.failed)

pub returns-then-branch-clause-stopped : goal.returns-then-branch-clause-stopped
returns-then-branch-clause-stopped g c = λ first stands.
    let all : c.loop-lines.lines ≡ 1000000 = omega arith in
    let played = c.loop-lines.invariant.played first stands in
    StopsAs-past _ first _ _ _ _ _ _ _ _ _ _ _ c.loop-lines.frames c.loop-lines.clients (rw all at played) (c.in_ok-read_text.ensures.taken (ap Ok c.if-branch.true))

pub returns-clause-played : goal.returns-clause-played
returns-clause-played g c = λ first stands.
    let all : c.loop-lines.lines ≡ 1000000 = omega arith in
    let played = c.loop-lines.invariant.played first stands in
    IsPlayed-end _ first _ c.loop-lines.side c.loop-lines.side c.loop-lines.self.session _ _ _ _ _ _ _ _ 1000000 c.loop-lines.frames c.loop-lines.clients (rw all at played)
    (c.in_ok-read_text.ensures.end (ap Ok c.if-branch.false)) refl refl refl
