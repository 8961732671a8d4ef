use Rattle.std.proofs.Common.{ℕ, ◌≡◌, ◌+◌, ◌-◌, ◌∙◌, ap, arith, drop, sym, take}
use Rattle.wl_scene.specs.Stacked.{is_of}
use Rattle.wl_scene.proofs.Places.{filter-none, run-read}
use Rattle.wl_scene.proofs.runs.run_in.Goals as goal

pub returns-in-Some : goal.returns-in-Some
returns-in-Some c =
    let start = c.in-Some.run'.start in
    let count = c.in-Some.run'.count in
    let so_many : (start + count) - start ≡ count = omega arith in
    ap (λ (n : ℕ). take n (drop start c.args.all.now)) so_many
    ∙ run-read (is_of c.args.client c.args.toplevel) start count c.args.all.now c.in-Some.ensures

pub returns-in-None : goal.returns-in-None
returns-in-None c = sym (filter-none (is_of c.args.client c.args.toplevel) c.args.all.now c.in-None.ensures)
