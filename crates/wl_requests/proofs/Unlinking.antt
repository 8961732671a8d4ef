-- The links that live and have a number: there is one, where no two links have one number.
use Rattle.std.proofs.Common.{◌≡◌, ℕ, List, [], ◌∷◌, Bool, true, false, Option, Some, None, cond, refl, ap, sym, ◌∙◌}
use Rattle.std.specs.Prelude.{◌==◌, ◌&&◌, filter, find, fold, not}
use Rattle.std.specs.List.{list_any}
use Rattle.std.specs.Option.{option_and_then, option_map}
use Rattle.std.proofs.lemmas.Bool.{eqb-true}
use Rattle.std.proofs.lemmas.Option.{same_Some}
use Rattle.wl_surface.specs.Surfaces.{Link, Surfaces, link_at}
use Rattle.wl_surface.specs.Trees.{ended_in, unlinked}
use Rattle.wl_surface.specs.Hanging.{AreNumbered}
use Rattle.spec_desktop.specs.Changing.{link_with_id, unlinked_at}
use Rattle.spec_desktop.specs.Desktop.{Resident, Subsurface}
use Rattle.spec_desktop.specs.WlSubsurface.{link_of_subsurface, living, subsurface_at}
use Rattle.law_desktop.proofs.Lists.Keys.{found-passes}
use Rattle.law_desktop.proofs.ByNames.Linking.{none-living}

-- where none of that number lives, none ends
pub ends-none : (all : Surfaces) (number : ℕ) → AreNumbered all.links → option_and_then living (link_at number all) ≡ None → unlinked number all ≡ all
ends-none all number apart none = ap (fold ended_in all) (none-left all.links apart none)
  where
    ended : (l : Link) (b : Bool) → l.has_ended ≡ b → cond b None (Some l) ≡ None → l.has_ended ≡ true
    ended l true e none = e
    ended l false e none = absurd (cc)

    none-left : (ls : List Link) → AreNumbered ls → option_and_then living (find (λ (l : Link). l.number == number) ls) ≡ None
        → filter (λ l. not l.has_ended && l.number == number) ls ≡ []
    none-left [] apart none = refl
    none-left (l ∷ ls) apart none = at (l.number == number) refl none (λ later. none-left ls apart.1 later)
      where
        without : (b : Bool) → cond (not b && false) (l ∷ filter (λ l. not l.has_ended && l.number == number) ls) (filter (λ l. not l.has_ended && l.number == number) ls)
            ≡ filter (λ l. not l.has_ended && l.number == number) ls
        without true = refl
        without false = refl

        at : (b : Bool) → (l.number == number) ≡ b → option_and_then living (cond b (Some l) (find (λ (l : Link). l.number == number) ls)) ≡ None
            → (option_and_then living (find (λ (l : Link). l.number == number) ls) ≡ None → filter (λ l. not l.has_ended && l.number == number) ls ≡ [])
            → filter (λ l. not l.has_ended && l.number == number) (l ∷ ls) ≡ []
        at true here none next =
            rw (ended l l.has_ended refl none) (none-living number ls (ap (λ n. list_any (λ l. l.number == n) ls) (sym (eqb-true l.number number here)) ∙ apart.0))
        at false here none next = rw here (without l.has_ended ∙ next none)

-- the link of a wl_subsurface is that of its number
pub link-number : (id : ℕ) (r : Resident) (link : Link) → link_of_subsurface id r ≡ Some link → link_with_id id r ≡ Some link.number
link-number id r link found = at (subsurface_at id r) found
  where
    lives : (l : Link) (b : Bool) → cond b None (Some l) ≡ Some link → l ≡ link
    lives l true e = absurd (cc)
    lives l false e = same_Some l link e

    here : (n : ℕ) (o : Option Link) → link_at n r.owned.surfaces ≡ o → option_and_then living o ≡ Some link → n ≡ link.number
    here n None is e = absurd (cc)
    here n (Some l) is e =
        sym (eqb-true l.number n (found-passes (λ (l : Link). l.number == n) r.owned.surfaces.links l is)) ∙ ap (λ (l : Link). l.number) (lives l l.has_ended e)

    at : (o : Option Subsurface) → option_and_then (λ (s : Subsurface). option_and_then living (link_at s.link r.owned.surfaces)) o ≡ Some link
        → option_map (λ (s : Subsurface). s.link) o ≡ Some link.number
    at None e = absurd (cc)
    at (Some s) e = ap (λ (n : ℕ). Some n) (here s.link (link_at s.link r.owned.surfaces) refl e)

-- and where none lives, none ends
pub no-link-ends : (id : ℕ) (r : Resident) → AreNumbered r.owned.surfaces.links → link_of_subsurface id r ≡ None → unlinked_at (link_with_id id r) r.owned.surfaces ≡ r.owned.surfaces
no-link-ends id r apart none = at (subsurface_at id r) none
  where
    at : (o : Option Subsurface) → option_and_then (λ (s : Subsurface). option_and_then living (link_at s.link r.owned.surfaces)) o ≡ None
        → unlinked_at (option_map (λ (s : Subsurface). s.link) o) r.owned.surfaces ≡ r.owned.surfaces
    at None e = refl
    at (Some s) e = ends-none r.owned.surfaces s.link apart e
