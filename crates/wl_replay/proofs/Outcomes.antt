-- What holds of a result that was only mapped at its error.
use Rattle.std.proofs.Common.{◌≡◌, Result, Ok, Err, sym, ap, ◌∙◌}
use Rattle.std.specs.Prelude.{OnOk, is_ok}
use Rattle.std.proofs.lemmas.Bool.{true≢false}

pub ok_kept : {T E X D : Type 0} (r : Result T E) (s : Result X D) (x : X) (P : Type 0) → OnOk r P → is_ok s ≡ is_ok r → s ≡ Ok x → P
ok_kept (Ok y) s x P holds same is = holds
ok_kept (Err e) s x P holds same is = absurd (true≢false (sym (ap is_ok is) ∙ same))

-- for a result that is returned as it was mapped
pub on_ok_kept : {T E X D : Type 0} (r : Result T E) (s : Result X D) (P : Type 0) → OnOk r P → is_ok s ≡ is_ok r → OnOk s P
on_ok_kept (Ok y) (Ok x) P holds same = holds
on_ok_kept (Err e) (Ok x) P holds same = absurd (true≢false same)
on_ok_kept r (Err e) P holds same = tt
