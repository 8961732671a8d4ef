-- Where the pixels of a run lie.
use Rattle.std.proofs.Common.{◌≡◌, ◌<◌, ◌≤◌, ◌+◌, ◌*◌, ℕ, arith}
use Rattle.std.proofs.Math.Nat.{mul-le-mul_right}

-- it ends within the frame
pub within-frame : (x y w width height : ℕ) → x + w ≤ width → y < height → 4 * (y * width + x) + 4 * w ≤ 4 * (width * height)
within-frame x y w width height wide high =
    let rows : (y + 1) * width ≤ height * width = mul-le-mul_right width (omega (arith, high)) in
    let next : (y + 1) * width ≡ y * width + width = grind arith in
    let turned : height * width ≡ width * height = grind arith in
    omega (arith, rows, next, turned, wide)

pub small-area : (width height : ℕ) → width ≤ 4096 → height ≤ 4096 → width * height ≤ 16777216
small-area width height wide high =
    let across : width * height ≤ 4096 * height = mul-le-mul_right height wide in
    omega (arith, across, high)
