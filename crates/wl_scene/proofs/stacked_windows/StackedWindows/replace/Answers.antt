use Rattle.std.proofs.Common.{◌≡◌, ap, arith, length, map}
use Rattle.std.specs.Prelude.{vec_capacity}
use Rattle.std.proofs.lemmas.List.{length-map}
use Rattle.wl_scene.specs.Stacked.{is_of, replaced, stacked}
use Rattle.wl_scene.proofs.Rooms.{either-shorter}
use Rattle.wl_scene.proofs.Written.{placed-shorter}
use Rattle.wl_scene.proofs.stacked_windows.StackedWindows.replace.Goals as goal

pub invariant_of-self-2 : goal.invariant_of-self-2
invariant_of-self-2 g c =
    let base = c.reserve_both.new.all.items in
    let more = map (stacked c.args.client c.args.toplevel) c.args.windows.now in
    let same : base ≡ c.self.inside.windows.items = c.reserve_both.ensures.items in (
      c.replace_in.ensures.together,
      omega (
        arith,
        c.replace_in.new.all.ok.0,
        either-shorter c.replace_in.result base (replaced c.args.client c.args.toplevel c.args.windows.now base) c.replace_in.new.all.items (vec_capacity c.reserve_both.new.spare)
            (omega (arith, c.in_ok-reserve_both.ensures.ok_spare, c.self.inside.windows.ok.0, ap length same))
            (omega (
              arith,
              c.in_ok-reserve_both.ensures.ok_spare,
              c.self.inside.windows.ok.0,
              ap length same,
              placed-shorter (is_of c.args.client c.args.toplevel) more base,
              length-map c.args.windows.now (stacked c.args.client c.args.toplevel),
            ))
            c.replace_in.ensures.ok c.replace_in.ensures.err,
      ),
    )
