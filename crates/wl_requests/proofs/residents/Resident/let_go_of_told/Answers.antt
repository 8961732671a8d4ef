use Rattle.wl_requests.proofs.residents.Resident.let_go_of_told.Goals as goal

pub returns-clause-lets_go : goal.returns-clause-lets_go
returns-clause-lets_go g c =
    record {
      stores = rw (c.deref-2.ensures.value, c.deref-3.ensures.value) at c.let_go_of_freed.ensures.stores;
      only = c.let_go_of_freed.ensures.only;
      rising = c.in-Ok.ensures.rising;
      those = rw c.deref.ensures.value at c.in-Ok.ensures.those;
    }
