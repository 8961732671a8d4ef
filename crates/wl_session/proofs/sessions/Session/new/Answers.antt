use Rattle.std.proofs.Common.{sym, ◌∙◌}
use Rattle.wl_session.proofs.sessions.Session.new.Goals as goal

pub returns-clause-right : goal.returns-clause-right
returns-clause-right g c = record {
  wide = c.in_ok-framebuffer.ensures.width;
  high = c.in_ok-framebuffer.ensures.height;
  damage_wide = c.in_ok-desk.ensures.sides.0;
  damage_high = c.in_ok-desk.ensures.sides.1;
  points = λ x y w h clean clear. c.in_ok-framebuffer.ensures.colors x y w h ∙ sym c.in_ok-framebuffer.ensures.background;
}
