use Rattle.std.proofs.Common.{◌≡◌, ◌∙◌, ◌+ℤ◌, ap, ap₂, rules, sym, to_z, of_z, w32, w64}
use Rattle.std.specs.Option.{option_map}
use Rattle.wl_scene.specs.Kept.{standing_of}
use Rattle.wl_surface.specs.State.{within_bounds}
use Rattle.spec_desktop.specs.Windows.{Place, moved}
use Rattle.wl_clients.specs.Seats.{opened_kept}
use Rattle.wl_clients.specs.View.{pile_of}
use Rattle.wl_clients.proofs.OnScreen.Shifting.{marks-put, most-put, moves-put, nowhere-least, seated-nowhere}
use Rattle.wl_clients.proofs.screen.screens.Screen.move_tree.Goals as goal

-- ---- where the toplevel doesn't stand

pub returns-in_default-clause-moves : goal.returns-in_default-clause-moves
returns-in_default-clause-moves g c = λ others base d r surface before ordered named.
    let v = opened_kept c.args.resident.now in
    let pile = pile_of c.args.self.now in
    seated-nowhere c.moves_are_marked.ensures c.args.client others base d r v pile before ordered surface c.args.toplevel named c.args.x c.args.y
    (sym c.toplevel_of.ensures ∙ ap (option_map standing_of) c.in_default.is)

pub returns-in_default-clause-marks : goal.returns-in_default-clause-marks
returns-in_default-clause-marks g c = λ others base d r surface before ordered named.
    let v = opened_kept c.args.resident.now in
    let pile = pile_of c.args.self.now in
    nowhere-least c.moves_are_marked.ensures c.args.client others base d r v pile before ordered surface c.args.toplevel named c.args.x c.args.y
    (sym c.toplevel_of.ensures ∙ ap (option_map standing_of) c.in_default.is) c.args.self.now.damage

-- ---- where it stands

pub returns-clause-moves : goal.returns-clause-moves
returns-clause-moves g c = λ others base d r surface before ordered named.
    let v = opened_kept c.args.resident.now in
    let pile = pile_of c.args.self.now in
    let at : Place = record { x = to_z w32 (of_z w32 c.moved.result); y = to_z w32 (of_z w32 c.moved-2.result) } in
    let from_x : to_z w32 (of_z w32 c.in-Some.found.x) ≡ c.in-Some.found.x = search rules in
    let from_y : to_z w32 (of_z w32 c.in-Some.found.y) ≡ c.in-Some.found.y = search rules in
    let by_x : to_z w64 (of_z w64 c.args.x) ≡ c.args.x = search rules in
    let by_y : to_z w64 (of_z w64 c.args.y) ≡ c.args.y = search rules in
    let to_x : to_z w32 (of_z w32 c.moved.result) ≡ c.moved.result = search rules in
    let to_y : to_z w32 (of_z w32 c.moved-2.result) ≡ c.moved-2.result = search rules in
    let here : at ≡ moved (standing_of c.in-Some.found).place c.args.x c.args.y =
    ap₂ (λ a b. let p : Place = record { x = a; y = b } in p) (to_x ∙ (c.moved.ensures ∙ ap₂ (λ a b. within_bounds (a +ℤ b)) from_x by_x))
    (to_y ∙ (c.moved-2.ensures ∙ ap₂ (λ a b. within_bounds (a +ℤ b)) from_y by_y)) in
    let kept = sym c.toplevel_of.ensures ∙ ap (option_map standing_of) c.in-Some.is in
    moves-put c.moves_are_marked.ensures c.args.client others base d r v pile before ordered surface c.args.toplevel named c.args.x c.args.y (standing_of c.in-Some.found) kept at here
    (pile_of c.put_run.new.self) c.put_run.ensures.standing c.put_run.ensures.next c.put_run.ensures.windows

pub returns-clause-marks : goal.returns-clause-marks
returns-clause-marks g c = λ others base d r surface before ordered named.
    let v = opened_kept c.args.resident.now in
    let pile = pile_of c.args.self.now in
    let at : Place = record { x = to_z w32 (of_z w32 c.moved.result); y = to_z w32 (of_z w32 c.moved-2.result) } in
    let from_x : to_z w32 (of_z w32 c.in-Some.found.x) ≡ c.in-Some.found.x = search rules in
    let from_y : to_z w32 (of_z w32 c.in-Some.found.y) ≡ c.in-Some.found.y = search rules in
    let by_x : to_z w64 (of_z w64 c.args.x) ≡ c.args.x = search rules in
    let by_y : to_z w64 (of_z w64 c.args.y) ≡ c.args.y = search rules in
    let to_x : to_z w32 (of_z w32 c.moved.result) ≡ c.moved.result = search rules in
    let to_y : to_z w32 (of_z w32 c.moved-2.result) ≡ c.moved-2.result = search rules in
    let here : at ≡ moved (standing_of c.in-Some.found).place c.args.x c.args.y =
    ap₂ (λ a b. let p : Place = record { x = a; y = b } in p) (to_x ∙ (c.moved.ensures ∙ ap₂ (λ a b. within_bounds (a +ℤ b)) from_x by_x))
    (to_y ∙ (c.moved-2.ensures ∙ ap₂ (λ a b. within_bounds (a +ℤ b)) from_y by_y)) in
    let kept = sym c.toplevel_of.ensures ∙ ap (option_map standing_of) c.in-Some.is in
    marks-put c.moves_are_marked.ensures c.args.client others base d r v pile before ordered surface c.args.toplevel named c.args.x c.args.y (standing_of c.in-Some.found) kept at here
    (pile_of c.put_run.new.self) c.put_run.ensures.standing c.put_run.ensures.next c.put_run.ensures.windows c.args.self.now.damage c.put_run.new.self.damage
    c.put_run.ensures.points

pub returns-clause-most : goal.returns-clause-most
returns-clause-most g c = λ others base d r surface width height before ordered named.
    let v = opened_kept c.args.resident.now in
    let pile = pile_of c.args.self.now in
    let at : Place = record { x = to_z w32 (of_z w32 c.moved.result); y = to_z w32 (of_z w32 c.moved-2.result) } in
    let from_x : to_z w32 (of_z w32 c.in-Some.found.x) ≡ c.in-Some.found.x = search rules in
    let from_y : to_z w32 (of_z w32 c.in-Some.found.y) ≡ c.in-Some.found.y = search rules in
    let by_x : to_z w64 (of_z w64 c.args.x) ≡ c.args.x = search rules in
    let by_y : to_z w64 (of_z w64 c.args.y) ≡ c.args.y = search rules in
    let to_x : to_z w32 (of_z w32 c.moved.result) ≡ c.moved.result = search rules in
    let to_y : to_z w32 (of_z w32 c.moved-2.result) ≡ c.moved-2.result = search rules in
    let here : at ≡ moved (standing_of c.in-Some.found).place c.args.x c.args.y =
    ap₂ (λ a b. let p : Place = record { x = a; y = b } in p) (to_x ∙ (c.moved.ensures ∙ ap₂ (λ a b. within_bounds (a +ℤ b)) from_x by_x))
    (to_y ∙ (c.moved-2.ensures ∙ ap₂ (λ a b. within_bounds (a +ℤ b)) from_y by_y)) in
    let kept = sym c.toplevel_of.ensures ∙ ap (option_map standing_of) c.in-Some.is in
    most-put c.moves_are_marked.ensures c.args.client others base d r v pile before ordered surface c.args.toplevel named c.args.x c.args.y (standing_of c.in-Some.found) kept at here
    (pile_of c.put_run.new.self) c.put_run.ensures.standing c.put_run.ensures.next c.put_run.ensures.windows c.args.self.now.damage c.put_run.new.self.damage
    c.put_run.ensures.points width height
