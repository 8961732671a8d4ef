use Rattle.std.proofs.Common.{refl, sym, ◌∙◌}
use Rattle.wl_requests.proofs.residents.Resident.let_go_if_over.Goals as goal
use Rattle.wl_requests.proofs.residents.Resident.let_go_if_over.Goals.{else-not-went-via-then-not-went+else-is_over, else-not-went-via-else-not-went}

pub returns-then-is_over-clause-stores : goal.returns-then-is_over-clause-stores
returns-then-is_over-clause-stores g c = λ r numbers is kept.
    let over = sym (c.is_over.ensures r numbers is kept) ∙ c.if-is_over.true in
    rw (c.in-Some.is, c.if-not-went.true, over, c.let_go.ensures) refl

pub returns-else-not-went-clause-stores : goal.returns-else-not-went-clause-stores
returns-else-not-went-clause-stores g c = λ r numbers is kept. elim c.else-not-went.branch [
  | else-not-went-via-then-not-went+else-is_over w ↦
      let over = sym (w.is_over.ensures r numbers is kept) ∙ w.if-is_over.false in
      rw (c.in-Some.is, w.if-not-went.true, over) refl
  | else-not-went-via-else-not-went w ↦ rw (c.in-Some.is, w.if-not-went.false) refl
]
