-- Lines that are taken part by part.
use Rattle.std.proofs.Common.{◌≡◌, ℕ, ◌+◌, ◌-◌, ◌<◌, ◌≤◌, false, List, [], ◌∷◌, ◌++◌, Option, Some, None, All, length, take, get_or, eqb-true, refl, ap, sym, subst, ◌∙◌, append_assoc, arith, inl, inr}
use Rattle.std.specs.Prelude.{◌==◌, OnSome, if◌then◌else◌}
use Rattle.std.specs.Io.KnownBytes.{Consumes, IsAtEnd}
use Rattle.std.proofs.lemmas.Bool.{cases_Bool, cases_lt, eqb-false, ne_eqb}
use Rattle.std.proofs.lemmas.List.{get_or-take, length-take-le, take_more}
use Rattle.std.proofs.lemmas.List.Elements.{All-nil, All-more, All-append}
use Rattle.wl_recording.specs.declared.lines.Part.{Part}
use Rattle.wl_recording.specs.declared.lines.Part.TheVariants.{More, LineFeed, End}
use Rattle.wl_recording.specs.Lines.{InLine, IsTaken, IsTooLong, TakesLine, ending_len, part_of}

-- a line whose last part is ended by a line feed
pub took_line : (old mid new : Option (List ℕ)) (line front all : List ℕ) → Consumes old mid line → All InLine line → All InLine front
    → all ≡ line ++ front → Consumes mid new (front ++ 10 ∷ []) → TakesLine old new all
took_line None mid new line front all first plain more is last = tt
took_line (Some xs) None new line front all first plain more is last = absurd first
took_line (Some xs) (Some ys) None line front all first plain more is last = absurd last
took_line (Some xs) (Some ys) (Some zs) line front all first plain more is last = (
  subst (All InLine) (sym is) (All-append InLine line front plain more),
  inl (first ∙ ap (λ (t : List ℕ). line ++ t) (last ∙ append_assoc front (10 ∷ []) zs) ∙ sym (append_assoc line front (10 ∷ zs)) ∙ ap (λ (t : List ℕ). t ++ 10 ∷ zs) (sym is)),
)

-- more bytes of one line than the limit
pub too_long : (limit : ℕ) (old mid new : Option (List ℕ)) (line front all : List ℕ) → Consumes old mid line → All InLine line → All InLine front
    → all ≡ line ++ front → Consumes mid new front → limit < length all → IsTooLong limit old
too_long limit None mid new line front all first plain more is last long = tt
too_long limit (Some xs) None new line front all first plain more is last long = absurd first
too_long limit (Some xs) (Some ys) None line front all first plain more is last long = absurd last
too_long limit (Some xs) (Some ys) (Some zs) line front all first plain more is last long = (
  line ++ front,
  zs,
  first ∙ ap (λ (t : List ℕ). line ++ t) last ∙ sym (append_assoc line front zs),
  All-append InLine line front plain more,
  subst (λ (t : List ℕ). limit < length t) is long,
)

at_end : (old new : Option (List ℕ)) → Consumes old new [] → OnSome old (IsAtEnd new) → IsAtEnd old
at_end None new kept ends = tt
at_end (Some xs) None kept ends = absurd kept
at_end (Some xs) (Some ys) kept ends = kept ∙ ends

-- what was taken of the bytes that were lent, by what ends it
abbrev pub TakenAs : Part → ℕ → Option (List ℕ) → Option (List ℕ) → List ℕ → Type 0
TakenAs part kept old new shown = All InLine (take kept shown) × IsTaken part old new (take kept shown)

taken_none : (old new : Option (List ℕ)) (shown : List ℕ) (kept : ℕ) → kept ≡ 0 → Consumes old new [] → OnSome old (IsAtEnd new) → TakenAs End kept old new shown
taken_none old new shown kept is moved ends = rw is (All-nil InLine, (refl, at_end old new moved ends, moved))

taken_feed : (old new : Option (List ℕ)) (shown : List ℕ) (kept end : ℕ) → end ≡ kept + 1 → end ≤ length shown → get_or shown kept 0 ≡ 10
    → All InLine (take kept shown) → Consumes old new (take end shown) → TakenAs LineFeed kept old new shown
taken_feed old new shown kept end is within feed plain moved =
    (plain, subst (Consumes old new) (ap (λ (n : ℕ). take n shown) is ∙ take_more shown kept 0 (omega arith) ∙ ap (λ (b : ℕ). take kept shown ++ b ∷ []) feed) moved)

taken_more : (old new : Option (List ℕ)) (shown : List ℕ) (kept low : ℕ) → kept ≡ low + 1 → kept ≤ length shown → (get_or shown low 0 ≡ 10 → ⊥)
    → All InLine (take low shown) → Consumes old new (take kept shown) → TakenAs More kept old new shown
taken_more old new shown kept low is within isnt plain moved =
    (rw is (All-more InLine shown low 0 (omega arith) plain isnt), moved)

at_last : (shown : List ℕ) (end : ℕ) → 0 < end → end ≤ length shown → get_or (take end shown) (length (take end shown) - 1) 0 ≡ get_or shown (end - 1) 0
at_last shown end some within =
    ap (λ (n : ℕ). get_or (take end shown) (n - 1) 0) (length-take-le end shown within) ∙ get_or-take end shown (end - 1) 0 (omega arith)

part_of-some : (bytes : List ℕ) → 0 < length bytes → part_of bytes ≡ (if get_or bytes (length bytes - 1) 0 == 10 then LineFeed else More)
part_of-some bytes some = let isnt : (length bytes == 0) ≡ false = ne_eqb (length bytes) 0 (λ e. omega arith) in rw isnt refl

no_bytes : (n end : ℕ) → (0 < n → 0 < end) → end ≡ 0 → n ≡ 0
no_bytes n end some none = elim (cases_lt 0 n) [ inl positive ↦ absurd (omega (arith, some positive)) | inr zero_bytes ↦ omega arith ]

pub taken_by : (part : Part) (old new : Option (List ℕ)) (shown : List ℕ) (end kept : ℕ) → part ≡ part_of (take end shown) → kept ≡ end - ending_len part
    → end ≤ length shown → (0 < length shown → 0 < end) → All InLine (take (end - 1) shown) → Consumes old new (take end shown)
    → (length shown ≡ 0 → OnSome old (IsAtEnd new)) → TakenAs part kept old new shown
taken_by part old new shown end kept is held within some before moved ends =
    elim (cases_lt 0 end) [
      | inl positive ↦
          let long : 0 < length (take end shown) = rw (length-take-le end shown within) positive in
          let low : end ≡ (end - 1) + 1 = omega arith in
          let choice : part ≡ (if get_or shown (end - 1) 0 == 10 then LineFeed else More) =
          is ∙ part_of-some (take end shown) long ∙ ap (λ (b : ℕ). if b == 10 then LineFeed else More) (at_last shown end positive within) in
          elim (cases_Bool (get_or shown (end - 1) 0 == 10)) [
            | inl feed ↦
                (let a : part ≡ LineFeed = choice ∙ rw feed refl in
                let k : kept ≡ end - 1 = held ∙ ap (λ (p : Part). end - ending_len p) a in
                rw (a, k) (taken_feed old new shown (end - 1) end low within (eqb-true (get_or shown (end - 1) 0) 10 feed) before moved))
            | inr more ↦
                (let a : part ≡ More = choice ∙ rw more refl in
                let k : kept ≡ end = held ∙ ap (λ (p : Part). end - ending_len p) a ∙ omega arith in
                rw (a, k) (taken_more old new shown end (end - 1) low within (eqb-false (get_or shown (end - 1) 0) 10 more) before moved))
          ]
      | inr none ↦
          (let zero_end : end ≡ 0 = omega arith in
          let empty : length shown ≡ 0 = no_bytes (length shown) end some zero_end in
          let a : part ≡ End = is ∙ ap (λ (n : ℕ). part_of (take n shown)) zero_end in
          rw a (taken_none old new shown kept (held ∙ omega arith) (subst (λ (n : ℕ). Consumes old new (take n shown)) zero_end moved) (ends empty)))
    ]
