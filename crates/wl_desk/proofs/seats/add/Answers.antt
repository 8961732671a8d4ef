use Rattle.std.proofs.Common.{ℕ, ap, ◌∙◌}
use Rattle.std.specs.List.{insert, position_or_len}
use Rattle.std.specs.Prelude.{nat_lt}
use Rattle.wl_desk.proofs.Rising.{put-rising}
use Rattle.wl_desk.proofs.seats.add.Goals as goal

pub returns : goal.returns
returns g c =
    c.in-Ok.ensures.items
    ∙ ap (λ (k : ℕ). insert c.args.pointers.now.items k c.args.id) (c.place_for-place.ensures.place ∙ ap (position_or_len (λ x. nat_lt c.args.id x)) c.deref.ensures.value)
    ∙ put-rising c.args.id c.args.pointers.now.items
