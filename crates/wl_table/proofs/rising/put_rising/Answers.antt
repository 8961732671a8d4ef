use Rattle.std.proofs.Common.{subst, Ok, Err}
use Rattle.std.specs.List.Sorted.{IsBinarySearchResult}
use Rattle.std.specs.Ordering.{nat_cmp}
use Rattle.wl_table.proofs.RisingPlaces.{found-among, put-among, put-rises}
use Rattle.wl_table.proofs.rising.put_rising.Goals as goal

-- the id is there
pub returns-in-Ok-clause-ok : goal.returns-in-Ok-clause-ok
returns-in-Ok-clause-ok g c =
    let found = subst (λ ids. IsBinarySearchResult (λ n. nat_cmp n c.args.id) ids (Ok c.in-Ok.field-0)) c.deref.ensures.value c.in-Ok.ensures.position in
    found-among c.args.ids.now.items c.requires c.args.id c.in-Ok.field-0 found

-- it is put at its place
pub returns-in_ok-insert-in-Err-clause-rising : goal.returns-in_ok-insert-in-Err-clause-rising
returns-in_ok-insert-in-Err-clause-rising g c =
    let absent = subst (λ ids. IsBinarySearchResult (λ n. nat_cmp n c.args.id) ids (Err c.in-Err.place)) c.deref.ensures.value c.in-Err.ensures.position in
    rw c.in_ok-insert-in-Err.ensures.items (put-rises c.args.ids.now.items c.requires c.args.id c.in-Err.place absent)

pub returns-in_ok-insert-in-Err-clause-ok : goal.returns-in_ok-insert-in-Err-clause-ok
returns-in_ok-insert-in-Err-clause-ok g c other = rw c.in_ok-insert-in-Err.ensures.items (put-among c.args.ids.now.items c.in-Err.place c.args.id other)
