-- What a commit makes of a list of requests.
use Rattle.std.proofs.Common.{◌≡◌, ℕ, suc, ◌+◌, List, [], ◌∷◌, ◌++◌, length, take, refl, ap, ◌∙◌, arith}
use Rattle.std.proofs.lemmas.List.{take_all, length-append}
use Rattle.std.specs.Prelude.{if◌then◌else◌, fold}
use Rattle.wl_surface.specs.Request.{Request, Commit}
use Rattle.wl_surface.specs.State.{Values, asked, committed, committed_from, first_values, is_commit, values}
use Rattle.wl_surface.specs.StateLaws.{CommitTakesAll}

committed_from-last : (rs : List Request) (at last : ℕ) → committed_from at last (rs ++ Commit ∷ []) ≡ suc (at + length rs)
committed_from-last [] at last = let e : suc at ≡ suc (at + 0) = omega arith in e
committed_from-last (r ∷ rs) at last =
    let e : suc at + length rs ≡ at + suc (length rs) = omega arith in
    committed_from-last rs (suc at) (if is_commit r then suc at else last) ∙ ap suc e

pub committed-last : (rs : List Request) → committed (rs ++ Commit ∷ []) ≡ length (rs ++ Commit ∷ [])
committed-last rs =
    let e : suc (0 + length rs) ≡ length (rs ++ Commit ∷ []) = omega (arith, length-append rs (Commit ∷ [])) in
    committed_from-last rs 0 0 ∙ e

values-last : (v : Values) (rs : List Request) → fold asked v (rs ++ Commit ∷ []) ≡ fold asked v rs
values-last v [] = refl
values-last v (r ∷ rs) = values-last (asked v r) rs

pub commit_takes_all : CommitTakesAll
commit_takes_all requests cut =
    let all = requests ++ Commit ∷ [] in
    let whole : take (committed all) all ≡ all = take_all (committed all) all (let e = committed-last requests in omega (arith, e)) in
    let kept : values (take (committed all) all) ≡ values requests = ap values whole ∙ values-last first_values requests in
    (kept, kept)
