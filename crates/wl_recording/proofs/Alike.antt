-- Lists that are alike at one end, by one place more.
use Rattle.std.proofs.Common.{◌≡◌, ◌+◌, ◌-◌, ◌<◌, ◌≤◌, ℕ, List, [], ◌∷◌, ◌++◌, length, take, drop, get_or, refl, ap, sym, ◌∙◌, arith}
use Rattle.std.proofs.lemmas.List.{drop_more, take_more}

pub alike-more : (xs ys : List ℕ) (i : ℕ) → length ys ≡ length xs → i < length xs → take i xs ≡ take i ys → get_or xs i 0 ≡ get_or ys i 0 → take (i + 1) xs ≡ take (i + 1) ys
alike-more xs ys i long within front one =
    take_more xs i 0 within
    ∙ (ap (λ (t : List ℕ). t ++ get_or xs i 0 ∷ []) front
    ∙ (ap (λ (b : ℕ). take i ys ++ b ∷ []) one ∙ sym (take_more ys i 0 (omega (arith, long, within)))))

pub alike-less : (xs ys : List ℕ) (n : ℕ) → length ys ≡ length xs → 0 < n → n ≤ length xs → drop n xs ≡ drop n ys → get_or xs (n - 1) 0 ≡ get_or ys (n - 1) 0
    → drop (n - 1) xs ≡ drop (n - 1) ys
alike-less xs ys n long some within back one =
    let same : n - 1 + 1 ≡ n = omega (arith, some) in
    drop_more xs (n - 1) 0 (omega (arith, some, within))
    ∙ (ap (λ (k : ℕ). get_or xs (n - 1) 0 ∷ drop k xs) same
    ∙ (ap (λ (t : List ℕ). get_or xs (n - 1) 0 ∷ t) back
    ∙ (ap (λ (b : ℕ). b ∷ drop n ys) one
    ∙ (ap (λ (k : ℕ). get_or ys (n - 1) 0 ∷ drop k ys) (sym same) ∙ sym (drop_more ys (n - 1) 0 (omega (arith, long, some, within)))))))

pub alike-none : (xs ys : List ℕ) → length ys ≡ length xs → drop (length xs) xs ≡ drop (length xs) ys
alike-none [] [] long = refl
alike-none [] (y ∷ ys) long = absurd (omega (arith, long))
alike-none (x ∷ xs) [] long = absurd (omega (arith, long))
alike-none (x ∷ xs) (y ∷ ys) long = alike-none xs ys (omega (arith, long))
