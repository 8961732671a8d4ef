-- Four pixels of a run, lane by lane.
use Rattle.std.proofs.Common.{◌≡◌, ℕ, ◌+◌, ◌-◌, ◌*◌, ◌/◌, ◌<◌, ◌≤◌, ap, sym, ◌∙◌, arith}
use Rattle.wl_store.specs.declared.color.Format.{Format}
use Rattle.wl_store.specs.Layout.{alpha_of}
use Rattle.wl_blend.specs.Blend.{blended_channel}

-- one channel of the run, where `under` and `over` are lanes of the run before and of what is laid over it, `laid` what was made of them,
-- and `now` the run after
pub channel_in_four : (was source under over laid now : ℕ → ℕ) (format : Format) (first k c : ℕ) → first ≤ k → k < first + 4 → c < 3
    → ((i : ℕ) → i < 16 → under i ≡ was (4 * first + i))
    → ((i : ℕ) → i < 16 → over i ≡ source (4 * first + i))
    → ((p i : ℕ) → p < 4 → i < 3 → laid (4 * p + i) ≡ blended_channel (under (4 * p + i)) (over (4 * p + i)) (alpha_of format (over (4 * p + 3))))
    → ((i : ℕ) → i < 16 → now (4 * first + i) ≡ laid i)
    → now (4 * k + c) ≡ blended_channel (was (4 * k + c)) (source (4 * k + c)) (alpha_of format (source (4 * k + 3)))
channel_in_four was source under over laid now format first k c from to small unders overs lays puts =
    let p : ℕ = k - first in
    let at : 4 * first + (4 * p + c) ≡ 4 * k + c = omega arith in
    let fourth : 4 * first + (4 * p + 3) ≡ 4 * k + 3 = omega arith in
    let lane : 4 * p + c < 16 = omega arith in
    let e = puts (4 * p + c) lane ∙ lays p c (omega arith) small in
    (rw (unders (4 * p + c) lane, overs (4 * p + c) lane, overs (4 * p + 3) (omega arith), at, fourth) at e)

-- the alphas of four pixels, by the lanes that hold them
pub opaque_in_four : (source four alpha : ℕ → ℕ) (first : ℕ) → ((i : ℕ) → i < 16 → four i ≡ source (4 * first + i))
    → ((i : ℕ) → i < 16 → alpha i ≡ four (4 * (i / 4) + 3)) → ((i : ℕ) → i < 16 → alpha i ≡ 255)
    → (k : ℕ) → first ≤ k → k < first + 4 → source (4 * k + 3) ≡ 255
opaque_in_four source four alpha first lanes alphas all k from to =
    let i : ℕ = 4 * (k - first) in
    let at : 4 * k + 3 ≡ 4 * first + (4 * (i / 4) + 3) = omega arith in
    ap source at ∙ (sym (lanes (4 * (i / 4) + 3) (omega arith)) ∙ (sym (alphas i (omega arith)) ∙ all i (omega arith)))

pub four_opaque : (source four alpha : ℕ → ℕ) (first : ℕ) → ((i : ℕ) → i < 16 → four i ≡ source (4 * first + i))
    → ((i : ℕ) → i < 16 → alpha i ≡ four (4 * (i / 4) + 3)) → ((k : ℕ) → first ≤ k → k < first + 4 → source (4 * k + 3) ≡ 255)
    → (i : ℕ) → i < 16 → alpha i ≡ 255
four_opaque source four alpha first lanes alphas all i h =
    let at : 4 * first + (4 * (i / 4) + 3) ≡ 4 * (first + i / 4) + 3 = omega arith in
    alphas i h ∙ (lanes (4 * (i / 4) + 3) (omega arith) ∙ (ap source at ∙ all (first + i / 4) (omega arith) (omega arith)))
