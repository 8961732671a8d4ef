-- What was appended is cut off again.
use Rattle.std.proofs.Common.{◌≡◌, ℕ, true, List, length, take, Result, Ok, Err, ap, sym, ◌∙◌}
use Rattle.std.specs.Prelude.{is_err, OnErr}
use Rattle.std.proofs.lemmas.Bool.{false≢true}
use Rattle.std.proofs.lemmas.List.{take_at}
use Rattle.wl_wire.specs.Wire.{IsPrefix}

pub cut_back : {T E : Type 0} (r : Result T E) (old new now : List ℕ) (n : ℕ) → true ≡ is_err r → OnErr r (IsPrefix old new) → length old ≡ n → now ≡ take n new → now ≡ old
cut_back (Ok _) old new now n e p l q = absurd (false≢true (sym e))
cut_back (Err _) old new now n e p l q = q ∙ ap (take n) p.1 ∙ take_at old p.0 n l
