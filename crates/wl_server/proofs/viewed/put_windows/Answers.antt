use Rattle.std.proofs.Common.{◌≡◌, ◌≤◌, ◌∙◌, sym, arith, length}
use Rattle.wl_server.specs.Watching.{lines_of}
use Rattle.wl_server.proofs.Windows.{lines-length, told-all, told-more, told-none, unasked}
use Rattle.wl_server.proofs.viewed.put_windows.Goals as goal

pub returns-then-not-wants_windows-clause-told : goal.returns-then-not-wants_windows-clause-told
returns-then-not-wants_windows-clause-told g c d agrees = unasked (lines_of d) c.args.viewer.now c.wants_windows.result c.wants_windows.ensures c.if-not-wants_windows.true

pub loop-k-init : goal.loop-k-init
loop-k-init g c =
    (λ d agrees. told-none (lines_of d) c.window_count-count.result c.args.viewer.now _ c.in_ok-tell_windows.ensures.told, c.in_ok-tell_windows.ensures.held)

pub loop-k-preserved : goal.loop-k-preserved
loop-k-preserved g c = (
  λ d agrees.
      let told = c.in_ok-put_window.ensures.told d agrees in
      told-more (lines_of d) c.window_count-count.result c.loop-k.k told.0 c.args.viewer.now c.loop-k.viewer _ told.1 told.2 (c.loop-k.invariant.0 d agrees),
  c.in_ok-put_window.ensures.held ∙ c.loop-k.invariant.1,
)

pub returns-clause-told : goal.returns-clause-told
returns-clause-told g c d agrees =
    let counted : c.window_count-count.result ≡ length (lines_of d) = c.window_count-count.ensures.windows d agrees ∙ sym (lines-length d) in
    let all : length (lines_of d) ≤ c.loop-k.k = omega (arith, counted) in
    told-all (lines_of d) c.window_count-count.result c.loop-k.k c.args.viewer.now c.loop-k.viewer c.wants_windows.result c.wants_windows.ensures c.if-not-wants_windows.false counted all
    (c.loop-k.invariant.0 d agrees)
