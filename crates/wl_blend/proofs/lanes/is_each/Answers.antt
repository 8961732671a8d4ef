use Rattle.std.proofs.Common.{w8, not, lit≤}
use Rattle.std.specs.Prelude.{nat_eq}
use Rattle.std.proofs.lemmas.Simd.{bitmask_splat}
use Rattle.wl_blend.proofs.Vectors.{each_by_mask}
use Rattle.wl_blend.proofs.lanes.is_each.Goals as goal

pub returns : goal.returns
returns c =
    each_by_mask c.args.bytes c.args.value _ c.requires
    (bitmask_splat w8 (λ a b. not (nat_eq a b)) c.args.bytes 16 c.args.value c.requires (lit≤ tt))
