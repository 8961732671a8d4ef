-- What one more change does to what a region holds.
use Rattle.std.proofs.Common.{◌≡◌, ◌+◌, ◌<◌, ℕ, ℤ, Bool, true, false, cond, ◌&&◌, List, [], ◌∷◌, arith, refl, sym, ap, ◌∙◌, map, take, get_or, length}
use Rattle.std.specs.List.{fold}
use Rattle.std.proofs.lemmas.List.Sums.{fold_push}
use Rattle.std.proofs.lemmas.List.{take_more}
use Rattle.wl_geom.specs.declared.edits.Edit.{Edit}
use Rattle.wl_geom.specs.declared.rect.Rect.{Rect}
use Rattle.wl_geom.specs.Edits.{change_of, held_by, is_held}
use Rattle.wl_geom.specs.Rect.{bit, in_rect, is_point}
use Rattle.wl_geom.specs.Region.{held_after}
use Rattle.wl_geom.specs.Region.Change.{Add, Subtract}

held_after-of : (x y : ℤ) (held : Bool) (r : Rect) (adds : Bool) → held_after x y held (cond adds (Add r) (Subtract r)) ≡ cond (in_rect x y r) adds held
held_after-of x y held r true = refl
held_after-of x y held r false = refl

-- the changes that are kept hold what the changes hold that they are
held-from : (x y : ℤ) (held : Bool) (edits : List Edit) → fold (held_after x y) held (map change_of edits) ≡ fold (held_by x y) held edits
held-from x y held [] = refl
held-from x y held (edit ∷ edits) =
    held-from x y (held_after x y held (change_of edit)) edits
    ∙ ap (λ b. fold (held_by x y) b edits) (held_after-of x y held edit.rect edit.adds)

pub held-of : (x y : ℤ) (edits : List Edit) → fold (held_after x y) false (map change_of edits) ≡ is_held x y edits
held-of x y edits = held-from x y false edits

-- one change more
pub is_held-more : (x y : ℤ) (edits : List Edit) (k : ℕ) (d : Edit) → k < length edits
    → is_held x y (take (k + 1) edits) ≡ cond (in_rect x y (get_or edits k d).rect) (get_or edits k d).adds (is_held x y (take k edits))
is_held-more x y edits k d l =
    ap (is_held x y) (take_more edits k d l) ∙ fold_push (held_by x y) false (take k edits) (get_or edits k d)

-- at a point p that the rectangle contains or not, r, and that was counted n times
pub point-added : (adds p r : Bool) (n m k : ℕ) (q : Bool) → adds ≡ true → m ≡ cond r 0 n → q ≡ (p && r) → k ≡ m + bit q → k ≡ cond r (bit (p && adds)) n
point-added adds p true n m k q a e f g = rw (g, e, f, a) (omega arith)
point-added adds true false n m k q a e f g = rw (g, e, f) (omega arith)
point-added adds false false n m k q a e f g = rw (g, e, f) (omega arith)

pub point-taken : (adds p r : Bool) (n m : ℕ) → adds ≡ false → m ≡ cond r 0 n → m ≡ cond r (bit (p && adds)) n
point-taken adds true true n m a e = rw (e, a) refl
point-taken adds false true n m a e = e
point-taken adds p false n m a e = e

-- one change more
by : (p r a h : Bool) → cond r (bit (p && a)) (bit (p && h)) ≡ bit (p && cond r a h)
by p true a h = refl
by p false a h = refl

pub points-more : (x y : ℤ) (edits : List Edit) (k : ℕ) (d : Edit) (n : ℕ) → k < length edits → n ≡ bit (is_point x y && is_held x y (take k edits))
    → cond (in_rect x y (get_or edits k d).rect) (bit (is_point x y && (get_or edits k d).adds)) n ≡ bit (is_point x y && is_held x y (take (k + 1) edits))
points-more x y edits k d n l e =
    ap (λ n. cond (in_rect x y (get_or edits k d).rect) (bit (is_point x y && (get_or edits k d).adds)) n) e
    ∙ by (is_point x y) (in_rect x y (get_or edits k d).rect) (get_or edits k d).adds (is_held x y (take k edits))
    ∙ ap (λ b. bit (is_point x y && b)) (sym (is_held-more x y edits k d l))
