use Rattle.std.proofs.Common.{ap, sym, ◌∙◌, pos}
use Rattle.wl_paint.specs.Damage.{has}
use Rattle.wl_clients.specs.View.{pile_of}
use Rattle.wl_clients.specs.Painting.{IsColor}
use Rattle.wl_clients.proofs.PaintedDesks.{desk-painted, desk-said}
use Rattle.wl_clients.proofs.clients.Clients.paint.Goals as goal

pub paint-requires-clause-wide : goal.paint-requires-clause-wide
paint-requires-clause-wide g c = c.self.invariant.1.0 ∙ (ap (λ w. w.desk.output.width) c.self.view_is ∙ sym c.requires.wide)

pub paint-requires-clause-high : goal.paint-requires-clause-high
paint-requires-clause-high g c = c.self.invariant.1.1 ∙ (ap (λ w. w.desk.output.height) c.self.view_is ∙ sym c.requires.high)

pub returns-clause-painted : goal.returns-clause-painted
returns-clause-painted g c =
    let pile = pile_of c.self.inside.screen in
    λ d a x y wide high marked said.
    let color : IsColor c.args.framebuffer.now.background = record { r = c.paint.ensures.channels.0; g = c.paint.ensures.channels.1; b = c.paint.ensures.channels.2 } in
    c.paint.ensures.damaged x y wide high (ap (λ w. has w.damage x y) c.self.view_is ∙ marked)
    (desk-said c.self.inside.output c.self.inside.residents.items c.deref.result.now pile c.windows.result.now _ c.deref.ensures.value c.windows.ensures.windows d
    (rw (← c.self.view_is) at a) (pos x) (pos y) c.new-nowhere.ensures said)
    ∙ desk-painted c.self.inside.output c.self.inside.residents.items c.deref.result.now pile c.windows.result.now _ c.deref.ensures.value c.windows.ensures.windows d
    (rw (← c.self.view_is) at a) (pos x) (pos y)
    c.args.framebuffer.now.background color

pub returns-clause-kept : goal.returns-clause-kept
returns-clause-kept g c = λ x y wide high clean. c.paint.ensures.kept x y wide high (ap (λ w. has w.damage x y) c.self.view_is ∙ clean)
