-- Names are texts, places are made of numbers, and motions and buttons of three words.
use Rattle.std.proofs.Common.{rules, ◌≡◌, ◌<◌, ℕ, Bool, true, false, not, List, Option, Some, None, Result, Ok, Err, Bor, get_or, length, refl, inl, inr, arith, ap, sym, ◌∙◌}
use Rattle.std.specs.Prelude.{if◌then◌else◌, ◌==◌, ◌&&◌, nat_le, nat_lt, option_map, MatchResult, slice_index}
use Rattle.std.specs.Result.{result_ok}
use Rattle.std.specs.Str.{IsUtf8}
use Rattle.std.proofs.lemmas.Str.{IsUtf8-from_ascii}
use Rattle.std.proofs.lemmas.Bool.{cases_lt}
use Rattle.std.proofs.lemmas.List.{get_or_past}
use Rattle.std.proofs.lemmas.List.Elements.{All-get_or}
use Rattle.std.proofs.lemmas.List.Sums.{AllPass-from_list_all}
use Rattle.wl_recording.specs.Line.{Asked, after_three, after_word, first_word, is_blank, is_name, is_name_byte, name_in, place_at}

later : (x y : Bool) → (x && y) ≡ true → y ≡ true
later true y is = is
later false y is = absurd (cc)

name_byte_small : (b : ℕ) → is_name_byte b ≡ true → b < 128
name_byte_small b is = search (rules, arith)

name_bytes : (word : List ℕ) → is_name word ≡ true → (i : ℕ) → slice_index word i < 128
name_bytes word is i =
    let bytes = AllPass-from_list_all is_name_byte word (later (not (slice_index word 0 == 46)) _ (later (nat_le (length word) 64) _ (later (nat_lt 0 (length word)) _ is))) in
    elim (cases_lt i (length word)) [
      | inl within ↦ name_byte_small (get_or word i 0) (All-get_or (λ (b : ℕ). is_name_byte b ≡ true) word i 0 within bytes)
      | inr past ↦ omega (arith, get_or_past word i 0 past)
    ]

pub name_is_utf8 : (word : List ℕ) → is_name word ≡ true → IsUtf8 word
name_is_utf8 word is = IsUtf8-from_ascii word (name_bytes word is)

pub utf8_kept : {E : Type 0} (Q : E → Type 0) (r : Result (Bor (List ℕ)) E) (word : List ℕ)
    → MatchResult r (λ s. (s.now ≡ word) × IsUtf8 word) (λ e. (IsUtf8 word → ⊥) × Q e) → IsUtf8 word
    → option_map (λ (s : Bor (List ℕ)). s.now) (result_ok r) ≡ Some word
utf8_kept Q (Ok s) word told is = ap Some told.0
utf8_kept Q (Err e) word told is = absurd (told.0 is)

pub no_store : (client store at : Option ℕ) (c : ℕ) → Some c ≡ client → None ≡ store → None ≡ place_at client store at
no_store client store at c is none = rw (← is, ← none) refl

pub no_byte : (client store at : Option ℕ) (c k : ℕ) → Some c ≡ client → Some k ≡ store → None ≡ at → None ≡ place_at client store at
no_byte client store at c k is kept none = rw (← is, ← kept, ← none) refl

pub all_three : (client store at : Option ℕ) (c k n : ℕ) → Some c ≡ client → Some k ≡ store → Some n ≡ at
    → Some (record { client = c; store = k; at = n }) ≡ place_at client store at
all_three client store at c k n is kept last = rw (← is, ← kept, ← last) refl

pub named : (text word : List ℕ) → word ≡ first_word text → is_blank (after_word text) ≡ true → is_name word ≡ true → Some word ≡ name_in text
named text word same blank fit =
    let fits : is_name (first_word text) ≡ true = ap is_name (sym same) ∙ fit in
    ap Some same ∙ rw (blank, fits) refl

-- what the only three words of a text make
pub all_words : (by : List ℕ → List ℕ → List ℕ → Option Asked) (text a b d : List ℕ) (asked : Option Asked) → a ≡ first_word text → b ≡ first_word (after_word text)
    → d ≡ first_word (after_word (after_word text)) → is_blank (after_three text) ≡ true → asked ≡ by a b d
    → asked ≡ (if is_blank (after_three text) then by (first_word text) (first_word (after_word text)) (first_word (after_word (after_word text))) else None)
all_words by text a b d asked first second third blank is =
    is ∙ (ap (λ (w : List ℕ). by w b d) first
    ∙ (ap (λ (w : List ℕ). by (first_word text) w d) second
    ∙ (ap (λ (w : List ℕ). by (first_word text) (first_word (after_word text)) w) third ∙ rw blank refl)))
