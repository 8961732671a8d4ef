use Rattle.std.proofs.Common.{◌∙◌, List, ap, length, map, subst, sym}
use Rattle.std.specs.List.{list_any}
use Rattle.std.proofs.lemmas.List.{length-map}
use Rattle.wl_scene.specs.declared.stacked.Stacked.{Stacked}
use Rattle.wl_scene.specs.Stacked.{AreTogether, is_of, stacked}
use Rattle.wl_scene.proofs.Places.{run-written}
use Rattle.wl_scene.proofs.StackedTogether.{place-none}
use Rattle.wl_scene.proofs.Kept.{together-replaced}
use Rattle.wl_scene.proofs.runs.replace_in.Goals as goal

pub returns-in_default-clause-ok : goal.returns-in_default-clause-ok
returns-in_default-clause-ok g c =
    sym (place-none (is_of c.args.client c.args.toplevel) (map (stacked c.args.client c.args.toplevel) c.args.windows.now) c.args.all.now.items
    (ap (λ (xs : List Stacked). list_any (is_of c.args.client c.args.toplevel) xs) (sym c.deref.ensures.value) ∙ c.in_default.ensures))

pub returns-clause-ok : goal.returns-clause-ok
returns-clause-ok g c =
    run-written (is_of c.args.client c.args.toplevel) c.in-Some.run'.start c.in-Some.run'.count (length c.args.windows.now) _
    (map (stacked c.args.client c.args.toplevel) c.args.windows.now) c.args.all.now.items c.deref.result.now c.add_all.new.all.items c.take_out.new.all.items
    c.deref_mut.result.now c.put_below.new.all c.in-Some.ensures c.deref.ensures.value
    (length-map c.args.windows.now (stacked c.args.client c.args.toplevel)) c.in_ok-add_all.ensures.ok c.take_out.ensures c.deref_mut.ensures.value
    c.put_below.ensures.put (c.put_below.ensures.len ∙ c.deref_mut.ensures.len)

pub returns-clause-together : goal.returns-clause-together
returns-clause-together g c =
    let whole =
    run-written (is_of c.args.client c.args.toplevel) c.in-Some.run'.start c.in-Some.run'.count (length c.args.windows.now) c.take_out.new.all.len
    (map (stacked c.args.client c.args.toplevel) c.args.windows.now) c.args.all.now.items c.deref.result.now c.add_all.new.all.items c.take_out.new.all.items
    c.deref_mut.result.now c.put_below.new.all c.in-Some.ensures c.deref.ensures.value
    (length-map c.args.windows.now (stacked c.args.client c.args.toplevel)) c.in_ok-add_all.ensures.ok c.take_out.ensures c.deref_mut.ensures.value
    c.put_below.ensures.put (c.put_below.ensures.len ∙ c.deref_mut.ensures.len) in
    subst (λ (xs : List Stacked). AreTogether xs) (sym whole) (together-replaced c.args.client c.args.toplevel c.args.windows.now c.args.all.now.items c.requires)
