-- Links of which another comes, and what leaves them as they are.
use Rattle.std.proofs.Common.{◌≡◌, ℕ, ◌==◌, ◌&&◌, Bool, true, false, cond, Some, None, List, [], ◌∷◌, ◌++◌, refl, ap, sym, ◌∙◌}
use Rattle.std.specs.Prelude.{filter, find, fold, not}
use Rattle.std.specs.List.{list_any}
use Rattle.std.proofs.lemmas.Bool.{and_right, eqb-true, false_from_ne_true}
use Rattle.std.proofs.lemmas.Option.{none-some, same_Some}
use Rattle.wl_surface.specs.Surfaces.{Link, Surfaces, link_at}
use Rattle.wl_surface.specs.Trees.{ended_in, unlinked}
use Rattle.wl_surface.specs.Hanging.{AreNumbered}
use Rattle.law_desktop.proofs.Lists.Keys.{none-first, none-later}
use Rattle.law_desktop.proofs.Marks.Stacks.{equal-numbers}
use Rattle.law_desktop.proofs.Truth.{differ, or-left, or-right}
use Rattle.law_desktop.proofs.Lists.Tests.{find-none}

-- ---- the last one is new

-- where no two links have one number, the last one's is new
pub last-number : (ls : List Link) (k : Link) → AreNumbered (ls ++ k ∷ []) → find (λ (l : Link). l.number == k.number) ls ≡ None
last-number [] k apart = refl
last-number (x ∷ xs) k apart =
    ap (λ b. cond b (Some x) (find (λ (l : Link). l.number == k.number) xs))
    (false_from_ne_true (x.number == k.number) (λ same. differ (sym (last xs apart.0) ∙ equal-numbers k.number x.number (sym (eqb-true x.number k.number same)))))
    ∙ last-number xs k apart.1
  where
    last : (ls : List Link) → list_any (λ (l : Link). l.number == x.number) (ls ++ k ∷ []) ≡ false → (k.number == x.number) ≡ false
    last [] none = or-left (k.number == x.number) false none
    last (l ∷ ls) none = last ls (or-right (l.number == x.number) (list_any (λ (l : Link). l.number == x.number) (ls ++ k ∷ [])) none)

-- ---- a number without a link that lives

abbrev lives_at : ℕ → Link → Bool
lives_at number l = not l.has_ended && l.number == number

filter-none : (number : ℕ) (ls : List Link) → find (λ (l : Link). l.number == number) ls ≡ None → filter (lives_at number) ls ≡ []
filter-none number [] none = refl
filter-none number (x ∷ xs) none =
    ap (λ b. cond b (x ∷ filter (lives_at number) xs) (filter (lives_at number) xs))
    (and_right (not x.has_ended) (x.number == number) (none-first (x.number == number) x (find (λ (l : Link). l.number == number) xs) none))
    ∙ filter-none number xs (none-later (x.number == number) x (find (λ (l : Link). l.number == number) xs) none)

filter-ended : (number : ℕ) (ls : List Link) (l : Link) → AreNumbered ls → find (λ (k : Link). k.number == number) ls ≡ Some l → l.has_ended ≡ true
    → filter (lives_at number) ls ≡ []
filter-ended number [] l apart here ended = absurd (none-some l here)
filter-ended number (x ∷ xs) l apart here ended = at (x.number == number) refl here (λ later. filter-ended number xs l apart.1 later ended)
  where
    gone : x.has_ended ≡ true → (not x.has_ended && true) ≡ false
    gone e = ap (λ b. not b && true) e

    at : (b : Bool) → (x.number == number) ≡ b → cond b (Some x) (find (λ (k : Link). k.number == number) xs) ≡ Some l
        → (find (λ (k : Link). k.number == number) xs ≡ Some l → filter (lives_at number) xs ≡ []) → filter (lives_at number) (x ∷ xs) ≡ []
    at true same first rest =
        ap (λ b. cond (not x.has_ended && b) (x ∷ filter (lives_at number) xs) (filter (lives_at number) xs)) same
        ∙ (ap (λ b. cond b (x ∷ filter (lives_at number) xs) (filter (lives_at number) xs)) (gone (ap (λ (k : Link). k.has_ended) (same_Some x l first) ∙ ended))
        ∙ filter-none number xs
        (find-none (λ (k : Link). k.number == number) xs (ap (λ n. list_any (λ (k : Link). k.number == n) xs) (sym (eqb-true x.number number same)) ∙ apart.0)))
    at false other later rest =
        ap (λ b. cond b (x ∷ filter (lives_at number) xs) (filter (lives_at number) xs)) (and_right (not x.has_ended) (x.number == number) other) ∙ rest later

pub unlinked-none : (number : ℕ) (all : Surfaces) → link_at number all ≡ None → unlinked number all ≡ all
unlinked-none number all none = ap (λ (ls : List Link). fold ended_in all ls) (filter-none number all.links none)

pub unlinked-ended : (number : ℕ) (l : Link) (all : Surfaces) → AreNumbered all.links → link_at number all ≡ Some l → l.has_ended ≡ true → unlinked number all ≡ all
unlinked-ended number l all apart here ended = ap (λ (ls : List Link). fold ended_in all ls) (filter-ended number all.links l apart here ended)
