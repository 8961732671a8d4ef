-- Whether a word says how often turns begin, by a look at one word after another.
use Rattle.std.proofs.Common.{◌≡◌, ◌∙◌, ◌<◌, ◌≤◌, ◌+◌, ap, sym, refl, ℕ, Bool, true, false, List, [], ◌∷◌, length, map, take, slice_index_or}
use Rattle.std.specs.Prelude.{◌||◌}
use Rattle.std.specs.List.{list_any}
use Rattle.std.proofs.lemmas.List.Folds.{list_any_at, list_any_more}
use Rattle.std.proofs.lemmas.List.{take_all}
use Rattle.clap.specs.Words.{Text}
use Rattle.wl_program.specs.Command.{is_paced, is_rate_word}

list_any-map : {X : Type 0} (p : Text → Bool) (f : X → Text) (xs : List X) → list_any p (map f xs) ≡ list_any (λ x. p (f x)) xs
list_any-map p f [] = refl
list_any-map p f (x ∷ xs) = ap (λ b. p (f x) || b) (list_any-map p f xs)

module _ {X : Type 0} (text_of : X → Text) (words : List X) where
  abbrev paced : X → Bool
  paced word = is_rate_word (text_of word)

  -- none of the first says it
  abbrev pub AreUnpaced : ℕ → Type 0
  AreUnpaced n = list_any (λ word. is_rate_word (text_of word)) (take n words) ≡ false

  pub unpaced-none : AreUnpaced 0
  unpaced-none = refl

  tested : (word : X) (text : Text) (said answer : Bool) → text ≡ text_of word → said ≡ is_rate_word text → said ≡ answer → is_rate_word (text_of word) ≡ answer
  tested word text said answer is says was = ap is_rate_word (sym is) ∙ (sym says ∙ was)

  pub paced-at : (n : ℕ) (word : X) (text : Text) (said : Bool) → n < length words → word ≡ slice_index_or words n word → text ≡ text_of word → said ≡ is_rate_word text → said ≡ true
      → true ≡ is_paced (map text_of words)
  paced-at n word text said within there is says was =
      sym (list_any-map is_rate_word text_of words ∙ list_any_at paced words n word within (ap paced (sym there) ∙ tested word text said true is says was))

  pub unpaced-more : (n : ℕ) (word : X) (text : Text) (said : Bool) → n < length words → word ≡ slice_index_or words n word → text ≡ text_of word → said ≡ is_rate_word text → said ≡ false
      → AreUnpaced n → AreUnpaced (n + 1)
  unpaced-more n word text said within there is says was before =
      list_any_more paced words n word within ∙ (ap (λ b. b || paced (slice_index_or words n word)) before ∙ (ap paced (sym there) ∙ tested word text said false is says was))

  pub unpaced-all : (n : ℕ) → length words ≤ n → AreUnpaced n → false ≡ is_paced (map text_of words)
  unpaced-all n all none = sym (list_any-map is_rate_word text_of words ∙ (ap (list_any paced) (sym (take_all n words all)) ∙ none))
