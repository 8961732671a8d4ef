use Rattle.std.proofs.Common.{ℕ, List, ap, map, subst, sym, ◌∙◌}
use Rattle.std.proofs.lemmas.Result.{err_from_is_err_and}
use Rattle.wl_paint.specs.Damage.{Damaged, has}
use Rattle.wl_scene.specs.Marking.{IsAsLarge}
use Rattle.spec_desktop.specs.Desktop.{unpointed}
use Rattle.wl_clients.specs.View.{DeskView}
use Rattle.wl_clients.specs.declared.grabs.Latest.{Latest}
use Rattle.wl_desk.specs.View.{latest_of, seat_of}
use Rattle.wl_desk.proofs.Calls.{connects, connects-not}
use Rattle.wl_desk.proofs.desks.Desk.connect.Goals as goal

pub returns-in_err-client-clause-leads : goal.returns-in_err-client-clause-leads
returns-in_err-client-clause-leads g c =
    let p = err_from_is_err_and c.from_residual.result c.from_residual.ensures.1 in
    rw (p.1, p.2, ← c.self.view_is) (connects-not c.in_err-client.field-0.0 c.self.inside.clients c.connect.new.self (map (λ s. s.items) c.self.inside.seats.items) c.self.inside.latest.items c.self.inside.pointer
    c.in_err-client.ensures.leads)

pub returns-clause-leads : goal.returns-clause-leads
returns-clause-leads g c =
    rw (← c.self.view_is) (connects c.in_ok-client.client c.self.inside.clients c.connect.new.self (map (λ s. s.items) c.self.inside.seats.items) c.self.inside.latest.items c.self.inside.pointer c.clear_serials.new.self
    c.in_ok-client.ensures.leads (c.clear_serials.ensures.kept ∙ c.clear_seat.ensures.kept) (c.clear_serials.ensures.damage ∙ c.clear_seat.ensures.damage)
    (c.clear_serials.ensures.pointer ∙ c.clear_seat.ensures.pointer)
    (record {
      cleared = ap (λ (seats : List (List ℕ)). seat_of seats c.in_ok-client.client) c.clear_serials.ensures.seats ∙ c.clear_seat.ensures.cleared;
      others = λ k apart. ap (λ (seats : List (List ℕ)). seat_of seats k) c.clear_serials.ensures.seats ∙ c.clear_seat.ensures.others k apart;
      none = c.clear_serials.ensures.none;
      kept = λ k apart. c.clear_serials.ensures.others k apart ∙ ap (λ (latest : List Latest). latest_of latest k) c.clear_seat.ensures.latest;
    }))

pub returns-clause-nothing : goal.returns-clause-nothing
returns-clause-nothing g c =
    rw (← c.self.view_is) (λ d a x y wide high. ap (λ (w : Damaged). has w x y) (c.clear_serials.ensures.damage ∙ c.clear_seat.ensures.damage) ∙ c.in_ok-client.ensures.nothing (unpointed d) a.kept x y wide high)

pub returns-clause-sides : goal.returns-clause-sides
returns-clause-sides g c =
    rw (← c.self.view_is) (subst (λ (w : Damaged). IsAsLarge c.self.inside.clients.damage w) (sym (c.clear_serials.ensures.damage ∙ c.clear_seat.ensures.damage)) c.in_ok-client.ensures.sides)

pub returns-clause-output : goal.returns-clause-output
returns-clause-output g c = rw (← c.self.view_is) (ap (λ (v : DeskView). v.output) (c.clear_serials.ensures.kept ∙ c.clear_seat.ensures.kept) ∙ c.in_ok-client.ensures.output)
