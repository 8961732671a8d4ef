-- What is told as a link changes: as its child isn't synchronised any more, and as it ends.
use Rattle.std.proofs.Common.{◌≡◌, ℕ, ◌==◌, ◌||◌, Bool, true, false, cond, Option, Some, List, [], ◌∷◌, map, refl, ap, sym, subst, ◌∙◌}
use Rattle.std.specs.Prelude.{◌&&◌, filter, find, fold, not}
use Rattle.std.specs.List.{list_any}
use Rattle.std.proofs.lemmas.Bool.{eqb-true}
use Rattle.wl_surface.specs.Surfaces.{Link, Surfaces}
use Rattle.wl_surface.specs.Trees.{applied_tree, applied_unless, behaves_synchronised, desynchronised_in, ended_in, ending, in_mode, levels, released_in, with_link}
use Rattle.wl_surface.specs.Hanging.{AreNumbered}
use Rattle.wl_surface.specs.TreeLaws.{AreOnceLinked, is_live_of}
use Rattle.wl_surface.proofs.Changing.{KeepsLink, keeps-where, none-live, or-false}
use Rattle.wl_surface.proofs.Linking.{keeps-ending}
use Rattle.wl_surface.proofs.Placing.{numbered as number-found}
use Rattle.law_windows.specs.ToldLaws.{DesyncTellsApplied, LinkEndTellsApplied, TellsApplied, UnlinkTellsApplied}
use Rattle.law_windows.proofs.ToldDamage.Telling.{told-unless, tree-told}
use Rattle.law_desktop.proofs.Truth.{and-false}

-- ---- each child has one link that lives, as it had

lived : (g : Link → Link) → KeepsLink g → (l : Link) (b : Bool) → l.has_ended ≡ b → (g l).has_ended ≡ false → l.has_ended ≡ false
lived g keeps l false e lives = e
lived g keeps l true e lives = absurd (let both = sym (keeps.ended l e) ∙ lives in cc)

once-each : (g : Link → Link) → KeepsLink g → (ls : List Link) → AreOnceLinked ls → AreOnceLinked (map g ls)
once-each g keeps [] once = tt
once-each g keeps (l ∷ ls) once = (
  λ lives. ap (λ c. list_any (is_live_of c) (map g ls)) (keeps.child l) ∙ none-live g keeps l.child ls (once.0 (lived g keeps l l.has_ended refl lives)),
  once-each g keeps ls once.1,
)

once-with : (number : ℕ) (f : Link → Link) → KeepsLink f → (ls : List Link) → AreOnceLinked ls
    → AreOnceLinked (map (λ l. cond (l.number == number) (f l) l) ls)
once-with number f keeps ls once = once-each (λ l. cond (l.number == number) (f l) l) (keeps-where (λ l. l.number == number) f keeps) ls once

keeps-mode : (b : Bool) → KeepsLink (in_mode b)
keeps-mode b = record { number = λ l. refl; child = λ l. refl; parent = λ l. refl; ended = λ l e. e }

-- ---- a mode

pub desync-tells : (A : Type 0) → DesyncTellsApplied A
desync-tells A number child link all changes once is told =
    subst (λ (new : Surfaces). TellsApplied changes all new) (sym released)
    (told-unless (stays child) child unheld changes (once-with number (in_mode false) (keeps-mode false) all.links once) told)
  where
    unheld : Surfaces
    unheld = with_link number (in_mode false) all

    stays : ℕ → Bool
    stays c = not (behaves_synchronised levels all c) || behaves_synchronised levels (with_link number (in_mode false) all) c

    released : desynchronised_in number all ≡ applied_unless (stays child) child unheld
    released =
        ap (λ (o : Option Link). released_in o all (with_link number (in_mode false) all)) is.here
        ∙ ap (λ c. applied_unless (stays c) c unheld) is.of_child

-- ---- the end of a link

pub link-end-tells : (A : Type 0) → LinkEndTellsApplied A
link-end-tells A number child link all changes once is told =
    subst (λ (new : Surfaces). TellsApplied changes all new) (sym ended)
    (tree-told child (with_link number ending all) changes (once-with number ending keeps-ending all.links once) told)
  where
    ended : ended_in all link ≡ applied_tree levels child (with_link number ending all)
    ended =
        ap (λ n. applied_tree levels link.child (with_link n ending all)) (number-found number all.links link is.here)
        ∙ ap (λ c. applied_tree levels c (with_link number ending all)) is.of_child

-- ---- the link that lives under a number is one alone

abbrev lives_as : ℕ → Link → Bool
lives_as number l = not l.has_ended && l.number == number

none-lives : (number : ℕ) (ls : List Link) → list_any (λ l. l.number == number) ls ≡ false → filter (lives_as number) ls ≡ []
none-lives number [] none = refl
none-lives number (l ∷ ls) none =
    let parts = or-false (l.number == number) (list_any (λ l. l.number == number) ls) none in
    let other : lives_as number l ≡ false = ap (λ b. not l.has_ended && b) parts.0 ∙ and-false (not l.has_ended) in
    rw other (none-lives number ls parts.1)

alone : (number : ℕ) (ls : List Link) (link : Link) → AreNumbered ls → find (λ (l : Link). l.number == number) ls ≡ Some link → link.has_ended ≡ false
    → filter (lives_as number) ls ≡ link ∷ []
alone number [] link apart found lives = absurd (cc)
alone number (l ∷ ls) link apart found lives = at (l.number == number) refl found (alone number ls link apart.1)
  where
    at : (b : Bool) → (l.number == number) ≡ b → cond b (Some l) (find (λ (l : Link). l.number == number) ls) ≡ Some link
        → (find (λ (l : Link). l.number == number) ls ≡ Some link → link.has_ended ≡ false → filter (lives_as number) ls ≡ link ∷ [])
        → filter (lives_as number) (l ∷ ls) ≡ link ∷ []
    at true e found next =
        let it : l ≡ link = cc in
        let rest = none-lives number ls (ap (λ n. list_any (λ k. k.number == n) ls) (sym (eqb-true l.number number e)) ∙ apart.0) in
        let here : lives_as number l ≡ true = ap (λ b. not l.has_ended && b) e ∙ ap (λ (k : Link). not k.has_ended && true) it ∙ ap (λ b. not b && true) lives in
        rw here (ap (λ (ks : List Link). l ∷ ks) rest ∙ ap (λ (k : Link). k ∷ []) it)
    at false e found next =
        let other : lives_as number l ≡ false = ap (λ b. not l.has_ended && b) e ∙ and-false (not l.has_ended) in
        rw other (next found lives)

pub unlink-tells : (A : Type 0) → UnlinkTellsApplied A
unlink-tells A number child link all changes once apart is told =
    subst (λ (new : Surfaces). TellsApplied changes all new) (sym (ap (λ (ls : List Link). fold ended_in all ls) (alone number all.links link apart is.here is.lives)))
    (link-end-tells A number child link all changes once is told)
