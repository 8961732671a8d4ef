use Rattle.std.proofs.Common.{map, ap, subst, sym, refl, ◌∙◌}
use Rattle.wl_scene.specs.Marking.{IsAsLarge}
use Rattle.wl_paint.specs.Damage.{Damaged}
use Rattle.wl_scene.specs.Focus.{target_or_none}
use Rattle.wl_clients.specs.View.{DeskView}
use Rattle.wl_desk.proofs.Followed.{asked-whole, left-whole, status-at, unasked-whole}
use Rattle.wl_desk.proofs.Rests.{IsLeft, left-all}
use Rattle.wl_desk.proofs.desks.Desk.follow.Goals as goal

pub returns-in-Ended-clause-follows : goal.returns-in-Ended-clause-follows
returns-in-Ended-clause-follows g c =
    left-whole c.args.client c.args.request c.self.inside.clients (map (λ s. s.items) c.self.inside.seats.items) c.self.inside.latest.items c.self.inside.pointer c.forget.new.self _ c.args.self.now c.let_go.new.self c.self.view_is
    c.status.result c.in-Ended.field-0 c.status.ensures c.in-Ended.is c.forget.ensures
    (record { pointer = c.let_go.ensures.pointer; kept = c.let_go.ensures.kept; seats = c.let_go.ensures.seats; latest = c.let_go.ensures.latest; damage = c.let_go.ensures.damage })
    (target_or_none c.args.toplevel)

pub returns-in_default-request : goal.returns-in_default-request
returns-in_default-request g c =
    let go = c.let_go-in_default-request.ensures in
    let kept = go.kept ∙ c.begin_move.ensures.kept in
    record {
      follows = unasked-whole c.args.client c.args.request (target_or_none c.args.toplevel) c.args.self.now c.begin_move.new.self c.let_go-in_default-request.new.self c.status.result
          (status-at c.args.client c.self.inside.clients _ _ c.self.inside.pointer _ c.args.self.now c.status.result c.self.view_is c.status.ensures) c.in_default.not-Ended
          c.in_default-request.not-NewPointer c.begin_move.ensures.pointer c.begin_move.ensures.kept c.begin_move.ensures.seats c.begin_move.ensures.latest c.begin_move.ensures.damage
          (record { pointer = go.pointer; kept = go.kept; seats = go.seats; latest = go.latest; damage = go.damage });
      sides = subst (λ (w : Damaged). IsAsLarge c.args.self.now.damage w) (sym (go.damage ∙ c.begin_move.ensures.damage)) (record { width = refl; height = refl });
      rests = subst (λ (v : DeskView). IsLeft c.args.self.now.desk.kept v) (sym kept) (left-all c.args.self.now.desk.kept);
      output = ap (λ (v : DeskView). v.output) kept;
    }

pub returns : goal.returns
returns g c = record {
  follows = asked-whole c.args.client c.in-NewPointer.id c.args.request c.args.self.now c.tell_new.new.self c.status.result
      (status-at c.args.client c.self.inside.clients _ _ c.self.inside.pointer _ c.args.self.now c.status.result c.self.view_is c.status.ensures) c.in_default.not-Ended
      c.in-NewPointer.is c.tell_new.ensures.tells (target_or_none c.args.toplevel);
  sides = c.tell_new.ensures.sides;
  rests = c.tell_new.ensures.rests;
  output = c.tell_new.ensures.output;
}
