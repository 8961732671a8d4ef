use Rattle.std.proofs.Common.{◌≡◌, ℕ, ◌+◌, ◌-◌, ◌*◌, ◌/◌, ◌<◌, ◌≤◌, List, length, ap, subst, ◌∙◌, arith}
use Rattle.std.specs.Prelude.{slice_index}
use Rattle.wl_store.specs.Layout.{FitsIn, place_of}
use Rattle.wl_store.specs.Picture.{Shown, point_shown, surface_width}
use Rattle.wl_store.specs.declared.transform.Course.TheVariants.{Right, Left, Down, Up}
use Rattle.wl_store.proofs.Points.{filled, filled-within, points-read}
use Rattle.wl_store.proofs.picture.Picture.fill.Goals as goal

pub copy_rising-requires-clause-within : goal.copy_rising-requires-clause-within
copy_rising-requires-clause-within c = λ k h.
    let p = c.args.self.now in
    let bytes : c.self.inside.bytes.now ≡ p.bytes = ap (λ (q : Shown). q.bytes) c.self.view_is in
    let lies = ap (λ (q : Shown). q.layout) c.self.view_is in
    let steps : 4 * c.self.inside.scale.number ≡ 4 * p.scale = ap (λ (q : Shown). 4 * q.scale) c.self.view_is in
    let column : c.args.i + k < surface_width p = omega arith in
    let at = filled Right p c.self.inside.transform c.self.inside.layout c.args.i c.args.j k c.place_in-first.result c.point-x.result
    (ap (λ (q : Shown). q.transform) c.self.view_is) lies c.in-Right.ensures column c.point-x.ensures.point c.place_in-first.ensures in
    let fits = subst (λ (q : Shown). FitsIn (length q.bytes) q.layout) c.self.view_is c.self.invariant.0 in
    let some = subst (λ (q : Shown). 1 ≤ q.scale) c.self.view_is c.self.invariant.1 in
    let within = filled-within p c.args.i c.args.j k fits some column c.requires.row in
    rw (steps, bytes) (omega (arith, at, within))

pub returns-in-Right : goal.returns-in-Right
returns-in-Right c =
    let p = c.args.self.now in
    let bytes : c.self.inside.bytes.now ≡ p.bytes = ap (λ (q : Shown). q.bytes) c.self.view_is in
    let lies = ap (λ (q : Shown). q.layout) c.self.view_is in
    let steps : 4 * c.self.inside.scale.number ≡ 4 * p.scale = ap (λ (q : Shown). 4 * q.scale) c.self.view_is in
    points-read p c.args.i c.args.j (length c.args.run.now / 4) c.copy_rising.new.run (omega (arith, c.copy_rising.auto.run)) (λ k b h small.
    (let column : c.args.i + k < surface_width p = omega arith in
    let at = filled Right p c.self.inside.transform c.self.inside.layout c.args.i c.args.j k c.place_in-first.result c.point-x.result
    (ap (λ (q : Shown). q.transform) c.self.view_is) lies c.in-Right.ensures column c.point-x.ensures.point c.place_in-first.ensures in
    let first = c.place_in-first.result in
    let here : first + k * (4 * c.self.inside.scale.number) ≡ place_of p.layout (point_shown p (c.args.i + k) c.args.j) = ap (λ (u : ℕ). first + k * u) steps ∙ at in
    c.copy_rising.ensures k b (omega arith) small ∙ ap (λ (bs : List ℕ). slice_index bs (first + k * (4 * c.self.inside.scale.number) + b)) bytes
    ∙ ap (λ (n : ℕ). slice_index p.bytes (n + b)) here))

pub copy_falling-requires-clause-above : goal.copy_falling-requires-clause-above
copy_falling-requires-clause-above c = λ k h.
    let p = c.args.self.now in
    let bytes : c.self.inside.bytes.now ≡ p.bytes = ap (λ (q : Shown). q.bytes) c.self.view_is in
    let lies = ap (λ (q : Shown). q.layout) c.self.view_is in
    let steps : 4 * c.self.inside.scale.number ≡ 4 * p.scale = ap (λ (q : Shown). 4 * q.scale) c.self.view_is in
    let column : c.args.i + k < surface_width p = omega arith in
    let at = filled Left p c.self.inside.transform c.self.inside.layout c.args.i c.args.j k c.place_in-first.result c.point-x.result
    (ap (λ (q : Shown). q.transform) c.self.view_is) lies c.in-Left.ensures column c.point-x.ensures.point c.place_in-first.ensures in
    rw steps (omega (arith, at))

pub returns-in-Left : goal.returns-in-Left
returns-in-Left c =
    let p = c.args.self.now in
    let bytes : c.self.inside.bytes.now ≡ p.bytes = ap (λ (q : Shown). q.bytes) c.self.view_is in
    let lies = ap (λ (q : Shown). q.layout) c.self.view_is in
    let steps : 4 * c.self.inside.scale.number ≡ 4 * p.scale = ap (λ (q : Shown). 4 * q.scale) c.self.view_is in
    points-read p c.args.i c.args.j (length c.args.run.now / 4) c.copy_falling.new.run (omega (arith, c.copy_falling.auto.run)) (λ k b h small.
    (let column : c.args.i + k < surface_width p = omega arith in
    let at = filled Left p c.self.inside.transform c.self.inside.layout c.args.i c.args.j k c.place_in-first.result c.point-x.result
    (ap (λ (q : Shown). q.transform) c.self.view_is) lies c.in-Left.ensures column c.point-x.ensures.point c.place_in-first.ensures in
    let first = c.place_in-first.result in
    let there : first - k * (4 * p.scale) ≡ place_of p.layout (point_shown p (c.args.i + k) c.args.j) = omega (arith, at) in
    let here : first - k * (4 * c.self.inside.scale.number) ≡ place_of p.layout (point_shown p (c.args.i + k) c.args.j) = ap (λ (u : ℕ). first - k * u) steps ∙ there in
    c.copy_falling.ensures k b (omega arith) small ∙ ap (λ (bs : List ℕ). slice_index bs (first - k * (4 * c.self.inside.scale.number) + b)) bytes
    ∙ ap (λ (n : ℕ). slice_index p.bytes (n + b)) here))

pub copy_rising-requires-in-Down-clause-within : goal.copy_rising-requires-in-Down-clause-within
copy_rising-requires-in-Down-clause-within c = λ k h.
    let p = c.args.self.now in
    let bytes : c.self.inside.bytes.now ≡ p.bytes = ap (λ (q : Shown). q.bytes) c.self.view_is in
    let lies = ap (λ (q : Shown). q.layout) c.self.view_is in
    let steps : c.self.inside.scale.number * c.self.inside.layout.stride ≡ p.scale * p.layout.stride = ap (λ (q : Shown). q.scale * q.layout.stride) c.self.view_is in
    let column : c.args.i + k < surface_width p = omega arith in
    let at = filled Down p c.self.inside.transform c.self.inside.layout c.args.i c.args.j k c.place_in-first.result c.point-x.result
    (ap (λ (q : Shown). q.transform) c.self.view_is) lies c.in-Down.ensures column c.point-x.ensures.point c.place_in-first.ensures in
    let fits = subst (λ (q : Shown). FitsIn (length q.bytes) q.layout) c.self.view_is c.self.invariant.0 in
    let some = subst (λ (q : Shown). 1 ≤ q.scale) c.self.view_is c.self.invariant.1 in
    let within = filled-within p c.args.i c.args.j k fits some column c.requires.row in
    rw (steps, bytes) (omega (arith, at, within))

pub returns-in-Down : goal.returns-in-Down
returns-in-Down c =
    let p = c.args.self.now in
    let bytes : c.self.inside.bytes.now ≡ p.bytes = ap (λ (q : Shown). q.bytes) c.self.view_is in
    let lies = ap (λ (q : Shown). q.layout) c.self.view_is in
    let steps : c.self.inside.scale.number * c.self.inside.layout.stride ≡ p.scale * p.layout.stride = ap (λ (q : Shown). q.scale * q.layout.stride) c.self.view_is in
    points-read p c.args.i c.args.j (length c.args.run.now / 4) c.copy_rising-in-Down.new.run (omega (arith, c.copy_rising-in-Down.auto.run)) (λ k b h small.
    (let column : c.args.i + k < surface_width p = omega arith in
    let at = filled Down p c.self.inside.transform c.self.inside.layout c.args.i c.args.j k c.place_in-first.result c.point-x.result
    (ap (λ (q : Shown). q.transform) c.self.view_is) lies c.in-Down.ensures column c.point-x.ensures.point c.place_in-first.ensures in
    let first = c.place_in-first.result in
    let here : first + k * (c.self.inside.scale.number * c.self.inside.layout.stride) ≡ place_of p.layout (point_shown p (c.args.i + k) c.args.j) = ap (λ (u : ℕ). first + k * u) steps ∙ at in
    c.copy_rising-in-Down.ensures k b (omega arith) small ∙ ap (λ (bs : List ℕ). slice_index bs (first + k * (c.self.inside.scale.number * c.self.inside.layout.stride) + b)) bytes
    ∙ ap (λ (n : ℕ). slice_index p.bytes (n + b)) here))

pub copy_falling-requires-in-Up-clause-above : goal.copy_falling-requires-in-Up-clause-above
copy_falling-requires-in-Up-clause-above c = λ k h.
    let p = c.args.self.now in
    let bytes : c.self.inside.bytes.now ≡ p.bytes = ap (λ (q : Shown). q.bytes) c.self.view_is in
    let lies = ap (λ (q : Shown). q.layout) c.self.view_is in
    let steps : c.self.inside.scale.number * c.self.inside.layout.stride ≡ p.scale * p.layout.stride = ap (λ (q : Shown). q.scale * q.layout.stride) c.self.view_is in
    let column : c.args.i + k < surface_width p = omega arith in
    let at = filled Up p c.self.inside.transform c.self.inside.layout c.args.i c.args.j k c.place_in-first.result c.point-x.result
    (ap (λ (q : Shown). q.transform) c.self.view_is) lies c.in-Up.ensures column c.point-x.ensures.point c.place_in-first.ensures in
    rw steps (omega (arith, at))

pub returns-in-Up : goal.returns-in-Up
returns-in-Up c =
    let p = c.args.self.now in
    let bytes : c.self.inside.bytes.now ≡ p.bytes = ap (λ (q : Shown). q.bytes) c.self.view_is in
    let lies = ap (λ (q : Shown). q.layout) c.self.view_is in
    let steps : c.self.inside.scale.number * c.self.inside.layout.stride ≡ p.scale * p.layout.stride = ap (λ (q : Shown). q.scale * q.layout.stride) c.self.view_is in
    points-read p c.args.i c.args.j (length c.args.run.now / 4) c.copy_falling-in-Up.new.run (omega (arith, c.copy_falling-in-Up.auto.run)) (λ k b h small.
    (let column : c.args.i + k < surface_width p = omega arith in
    let at = filled Up p c.self.inside.transform c.self.inside.layout c.args.i c.args.j k c.place_in-first.result c.point-x.result
    (ap (λ (q : Shown). q.transform) c.self.view_is) lies c.in-Up.ensures column c.point-x.ensures.point c.place_in-first.ensures in
    let first = c.place_in-first.result in
    let there : first - k * (p.scale * p.layout.stride) ≡ place_of p.layout (point_shown p (c.args.i + k) c.args.j) = omega (arith, at) in
    let here : first - k * (c.self.inside.scale.number * c.self.inside.layout.stride) ≡ place_of p.layout (point_shown p (c.args.i + k) c.args.j) = ap (λ (u : ℕ). first - k * u) steps ∙ there in
    c.copy_falling-in-Up.ensures k b (omega arith) small ∙ ap (λ (bs : List ℕ). slice_index bs (first - k * (c.self.inside.scale.number * c.self.inside.layout.stride) + b)) bytes
    ∙ ap (λ (n : ℕ). slice_index p.bytes (n + b)) here))
