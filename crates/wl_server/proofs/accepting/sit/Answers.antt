use Rattle.std.proofs.Common.{ℕ, Some, ap, arith, set, sym, ◌∙◌}
use Rattle.std.proofs.lemmas.List.{set_past}
use Rattle.wl_server.proofs.accepting.sit.Goals as goal

pub returns-then-place-seats : goal.returns-then-place-seats
returns-then-place-seats g c = ap (λ (k : ℕ). set c.args.seats.now k (Some c.args.seat)) c.saturating_sub-place.ensures

pub returns-else-place-seats : goal.returns-else-place-seats
returns-else-place-seats g c =
    sym (set_past c.args.seats.now c.saturating_sub-place.result (Some c.args.seat) (omega arith)) ∙ ap (λ (k : ℕ). set c.args.seats.now k (Some c.args.seat)) c.saturating_sub-place.ensures
