-- Windows of trees that are the same, and their transforms.
use Rattle.std.proofs.Common.{◌≡◌, ℤ, Bool, refl, ap, sym, ◌∙◌, arith}
use Rattle.std.specs.Prelude.{◌==◌, ◌&&◌}
use Rattle.std.specs.Bool.{Decides}
use Rattle.std.proofs.lemmas.Bool.Decides.{Decides-and, Decides-eqb, Decides-like}
use Rattle.std.proofs.lemmas.Int.{ints}
use Rattle.spec_desktop.specs.Marks.{int_eq}
use Rattle.wl_store.specs.Transform.{transform_of}
use Rattle.wl_store.specs.declared.transform.Transform.{Transform}
use Rattle.wl_store.specs.declared.transform.Transform.TheVariants.{Normal, Rotated90, Rotated180, Rotated270, Flipped, Flipped90}
use Rattle.wl_store.specs.declared.transform.Transform.TheVariants.{Flipped180, Flipped270}
use Rattle.wl_scene.specs.Repaint.{is_same_window, number_of}
use Rattle.wl_scene.specs.declared.tree_window.TreeWindow.{TreeWindow}

-- a number tells a transform
counted : (t : Transform) → transform_of (number_of t) ≡ t
counted Normal = refl
counted Rotated90 = refl
counted Rotated180 = refl
counted Rotated270 = refl
counted Flipped = refl
counted Flipped90 = refl
counted Flipped180 = refl
counted Flipped270 = refl

transform-Decides : (s t : Transform) → Decides (number_of s == number_of t) (s ≡ t)
transform-Decides s t =
    Decides-like (number_of s == number_of t) (λ e. sym (counted s) ∙ ap transform_of e ∙ counted t) (λ e. ap number_of e)
    (Decides-eqb (number_of s) (number_of t))

place-Decides : (a b : ℤ) → Decides (int_eq a b) (a ≡ b)
place-Decides a b = (λ e. grind (arith, ints), λ e. grind (arith, ints))

-- windows with the same fields are the same
joined : (w v : TreeWindow) → w.surface ≡ v.surface → w.root ≡ v.root → w.x ≡ v.x → w.y ≡ v.y → w.w ≡ v.w → w.h ≡ v.h → w.transform ≡ v.transform → w.scale ≡ v.scale → w ≡ v
joined w v surface root x y wide high transform scale =
    ap (λ n. record w { surface = n }) surface ∙ ap (λ n. record w { surface = v.surface; root = n }) root
    ∙ ap (λ n. record w { surface = v.surface; root = v.root; x = n }) x
    ∙ ap (λ n. record w { surface = v.surface; root = v.root; x = v.x; y = n }) y
    ∙ ap (λ n. record w { surface = v.surface; root = v.root; x = v.x; y = v.y; w = n }) wide
    ∙ ap (λ n. record v { h = n; transform = w.transform; scale = w.scale }) high ∙ ap (λ t. record v { transform = t; scale = w.scale }) transform
    ∙ ap (λ n. record v { scale = n }) scale

-- a test of all fields, one by one, decides so
pub fields-Decide : (w v : TreeWindow) (surface root x y wide high transform scale : Bool) → Decides surface (w.surface ≡ v.surface) → Decides root (w.root ≡ v.root)
    → Decides x (w.x ≡ v.x) → Decides y (w.y ≡ v.y) → Decides wide (w.w ≡ v.w) → Decides high (w.h ≡ v.h) → Decides transform (w.transform ≡ v.transform)
    → Decides scale (w.scale ≡ v.scale) → Decides (surface && (root && (x && (y && (wide && (high && (transform && scale))))))) (w ≡ v)
fields-Decide w v surface root x y wide high transform scale a r b c d e f g =
    Decides-like (surface && (root && (x && (y && (wide && (high && (transform && scale)))))))
    (λ p. joined w v p.0 p.1.0 p.1.1.0 p.1.1.1.0 p.1.1.1.1.0 p.1.1.1.1.1.0 p.1.1.1.1.1.1.0 p.1.1.1.1.1.1.1)
    (λ e.
    (ap (λ u. u.surface) e, (ap (λ u. u.root) e, (ap (λ u. u.x) e, (ap (λ u. u.y) e, (ap (λ u. u.w) e, (ap (λ u. u.h) e, (ap (λ u. u.transform) e, ap (λ u. u.scale) e))))))))
    (Decides-and _ _ a (Decides-and _ _ r (Decides-and _ _ b (Decides-and _ _ c (Decides-and _ _ d (Decides-and _ _ e (Decides-and _ _ f g)))))))

pub window-Decides : (w v : TreeWindow) → Decides (is_same_window w v) (w ≡ v)
window-Decides w v =
    Decides-like (is_same_window w v) (λ p. joined w v p.0.0 p.0.1 p.1.0.0 p.1.0.1 p.1.1.0.0 p.1.1.0.1 p.1.1.1.0 p.1.1.1.1)
    (λ e. (
      (ap (λ u. u.surface) e, ap (λ u. u.root) e),
      ((ap (λ u. u.x) e, ap (λ u. u.y) e), ((ap (λ u. u.w) e, ap (λ u. u.h) e), (ap (λ u. u.transform) e, ap (λ u. u.scale) e))),
    ))
    (Decides-and _ _ (Decides-and _ _ (Decides-eqb w.surface v.surface) (Decides-eqb w.root v.root)) (Decides-and _ _ (Decides-and _ _ (place-Decides w.x v.x) (place-Decides w.y v.y))
    (Decides-and _ _ (Decides-and _ _ (Decides-eqb w.w v.w) (Decides-eqb w.h v.h)) (Decides-and _ _ (transform-Decides w.transform v.transform) (Decides-eqb w.scale v.scale)))))
