-- The laws of reading, of the surfaces that are there.
use Rattle.std.proofs.Common.{◌≡◌, ℕ, ◌==◌, Bool, true, false, cond, not, Option, Some, List, [], ◌∷◌, map, is_some, refl, ap, ap₂, sym, ◌∙◌, eq-eqb}
use Rattle.std.specs.Prelude.{find}
use Rattle.std.specs.List.{AllByRecursion as Each}
use Rattle.std.proofs.lemmas.Bool.{not-true}
use Rattle.std.proofs.lemmas.List.Elements.{recursion_from_All}
use Rattle.wl_surface.specs.Surface.{Surface}
use Rattle.wl_surface.specs.Surfaces.{Link, Surfaces}
use Rattle.law_desktop.specs.RenamingLaws.{FindsLinks, KeepsDescent, KeepsPlaces, KeepsRefusals, NamesThoseThere, ReadsSurfaces, living}
use Rattle.law_desktop.specs.Renaming.{HasEnds, IsRenaming, has_surface, renamed, renamed_link, renamed_surface}
use Rattle.law_desktop.proofs.ByNames.Names.Lists.{each-filtered, each-from, each-weaker, filter-mapped, map-same}
use Rattle.law_desktop.proofs.ByNames.Names.Reading.{Knows, bad-parent-renamed, children-renamed, depth-renamed, descent-renamed, height-renamed, history-renamed, link-renamed}
use Rattle.law_desktop.proofs.ByNames.Names.Reading.{live-renamed, mode-renamed, surface-renamed, too-deep-renamed}

-- each surface of a list is found in it
all-found : (xs : List Surface) → Each (λ (s : Surface). is_some (find (λ (t : Surface). t.id == s.id) xs) ≡ true) xs
all-found [] = tt
all-found (x ∷ xs) = (
  ap (λ b. is_some (cond b (Some x) (find (λ (t : Surface). t.id == x.id) xs))) (eq-eqb x.id x.id refl),
  each-weaker (λ (s : Surface). is_some (find (λ (t : Surface). t.id == s.id) xs) ≡ true) (λ (s : Surface). is_some (find (λ (t : Surface). t.id == s.id) (x ∷ xs)) ≡ true)
      (λ s is. later (x.id == s.id) (find (λ (t : Surface). t.id == s.id) xs) is) xs (all-found xs),
)
  where
    later : (b : Bool) (o : Option Surface) → is_some o ≡ true → is_some (cond b (Some x) o) ≡ true
    later true o is = refl
    later false o is = is

-- the surfaces that are known are those that are there
pub known-there : (f : ℕ → ℕ) (all : Surfaces) → IsRenaming f all → Knows f (λ id. has_surface id all) all
known-there f all is = record {
  apart = is.apart;
  named = all-found all.surfaces;
  there = λ a e. e;
  ends = recursion_from_All (HasEnds all) all.links is.ends;
}

pub reads-surfaces : ReadsSurfaces
reads-surfaces f all is id there =
    let k = known-there f all is in
    record {
      surface = surface-renamed k id there;
      history = history-renamed k id there;
      link = live-renamed k id there;
      children = children-renamed k id there;
    }

pub finds-links : FindsLinks
finds-links f all number = link-renamed f all number

pub keeps-places : KeepsPlaces
keeps-places f all is n id there =
    let k = known-there f all is in record { depth = depth-renamed k n id there; height = height-renamed k n id there; mode = mode-renamed k n id there }

pub keeps-descent : KeepsDescent
keeps-descent f all is n top id above there = descent-renamed (known-there f all is) n top id above there

pub keeps-refusals : KeepsRefusals
keeps-refusals f all is child parent below above =
    let k = known-there f all is in (too-deep-renamed k child parent below above, bad-parent-renamed k child parent below above)

-- ---- other names

-- links that live are so under each name
living-renamed : (f : ℕ → ℕ) (all : Surfaces) → living (renamed f all) ≡ map (renamed_link f) (living all)
living-renamed f all =
    filter-mapped (λ (l : Link). not l.has_ended) (λ (l : Link). not l.has_ended) (renamed_link f) all.links
    (each-from (λ (l : Link). not l.has_ended ≡ not l.has_ended) (λ l. refl) all.links)

pub names-those-there : NamesThoseThere
names-those-there f g all is same = record {
  renaming = record {
    apart = λ a b here there e. is.apart a b here there (sym (same a here) ∙ e ∙ same b there);
    ends = is.ends;
  };
  surfaces =
      map-same (renamed_surface g) (renamed_surface f) all.surfaces
      (each-weaker (λ (s : Surface). has_surface s.id all ≡ true) (λ (s : Surface). renamed_surface g s ≡ renamed_surface f s)
      (λ s there. ap (λ (n : ℕ). record s { id = n }) (same s.id there)) all.surfaces (all-found all.surfaces));
  links =
      living-renamed g all ∙ map-same (renamed_link g) (renamed_link f) (living all)
      (each-weaker (λ (l : Link). HasEnds all l × (not l.has_ended ≡ true)) (λ (l : Link). renamed_link g l ≡ renamed_link f l)
      (λ l both.
      let are = both.0 (not-true l.has_ended both.1) in
      ap₂ (λ (c p : ℕ). record l { child = c; parent = p }) (same l.child are.0) (same l.parent are.1)) (living all)
      (each-filtered (λ (l : Link). not l.has_ended) (HasEnds all) all.links (recursion_from_All (HasEnds all) all.links is.ends)))
      ∙ sym (living-renamed f all);
}
