-- The laws of what is done to surfaces.
use Rattle.std.proofs.Common.{◌≡◌, ℕ, ◌==◌, Bool, true, Option, Some, None, is_some, refl, ap, sym, ◌∙◌, eqb-true}
use Rattle.std.proofs.lemmas.List.Elements.{All-from_recursion}
use Rattle.wl_surface.specs.Surface.{Surface}
use Rattle.wl_surface.specs.Surfaces.{Surfaces, surface_at}
use Rattle.law_desktop.specs.RenamingChanges.{AppliesTree, ChangesSurface, CommitsSurface, CreatesSurface, Desynchronises, DestroysSurface, LinksSurfaces, HeedNoNames, RemovesSurface}
use Rattle.law_desktop.specs.RenamingChanges.{Synchronises, Unlinks}
use Rattle.law_desktop.specs.Renaming.{HasEnds, IsRenamedAs, IsRenaming, has_surface, renamed}
use Rattle.law_desktop.proofs.ByNames.Names.Changing.{change-known, change-renamed, commit-renamed, desynchronised-renamed, destroyed-renamed, linked-renamed, new-renamed, synchronised-renamed}
use Rattle.law_desktop.proofs.ByNames.Names.Changing.{tree-renamed, unlinked-renamed, without-renamed}
use Rattle.law_desktop.proofs.ByNames.Names.Ending.{destroyed-known, gone-known, new-known}
use Rattle.law_desktop.proofs.ByNames.Names.Known.{known-there}
use Rattle.law_desktop.proofs.ByNames.Names.Lists.{each-weaker, found}
use Rattle.law_desktop.proofs.ByNames.Names.Reading.{IsBetween, Knows}

-- those that are there are known
there-known : {f : ℕ → ℕ} {known : ℕ → Bool} {all : Surfaces} → Knows f known all → (id : ℕ) → has_surface id all ≡ true → known id ≡ true
there-known {f} {known} {all} k id is = at (surface_at id all) refl is
  where
    at : (o : Option Surface) → surface_at id all ≡ o → is_some o ≡ true → known id ≡ true
    at None e is = absurd (cc)
    at (Some s) e is =
        let both = found (λ (s : Surface). s.id == id) (λ (s : Surface). known s.id ≡ true) all.surfaces k.named s e in
        ap known (sym (eqb-true s.id id both.1)) ∙ both.0

renaming : {f : ℕ → ℕ} {known : ℕ → Bool} {all : Surfaces} → Knows f known all → IsRenaming f all
renaming {f} {known} {all} k = record {
  apart = λ a b here there same. k.apart a b (there-known k a here) (there-known k b there) same;
  ends =
      All-from_recursion (HasEnds all) all.links
      (each-weaker (IsBetween known) (HasEnds all) (λ l between lives. let are = between lives in (k.there l.child are.0, k.there l.parent are.1)) all.links k.ends);
}

renamed-as : {f : ℕ → ℕ} {known : ℕ → Bool} {here there : Surfaces} → Knows f known here → there ≡ renamed f here → IsRenamedAs f here there
renamed-as k same = record { same = sym same; still = renaming k }

pub changes-surface : ChangesSurface
changes-surface f all is id change heeds there =
    let k = known-there f all is in
    renamed-as (change-known k id change (λ s. (heeds s).0)) (change-renamed k id change (λ s. sym (heeds s).1) there)

pub heed-no-names : HeedNoNames
heed-no-names f request role = (λ s. (refl, refl), λ s. (refl, refl), λ s. (refl, refl))

pub applies-tree : AppliesTree
applies-tree f all is n id there = let done = tree-renamed n id all (known-there f all is) there in renamed-as done.0 done.1

pub commits-surface : CommitsSurface
commits-surface f all is id there = let done = commit-renamed (known-there f all is) id there in renamed-as done.0 done.1

pub links-surfaces : LinksSurfaces
links-surfaces f all is number child parent below above =
    let done = linked-renamed (known-there f all is) number child parent below above in renamed-as done.0 done.1

pub synchronises : Synchronises
synchronises f all is number = let done = synchronised-renamed (known-there f all is) number in renamed-as done.0 done.1

pub desynchronises : Desynchronises
desynchronises f all is number lives = let done = desynchronised-renamed (known-there f all is) number lives in renamed-as done.0 done.1

pub unlinks : Unlinks
unlinks f all is number = let done = unlinked-renamed (known-there f all is) number in renamed-as done.0 done.1

pub creates-surface : CreatesSurface
creates-surface f all is id apart = renamed-as (new-known (known-there f all is) id apart) (new-renamed f all id)

pub removes-surface : RemovesSurface
removes-surface f all is id there = let k = known-there f all is in (sym (without-renamed k id there), λ none. renaming (gone-known k id none))

pub destroys-surface : DestroysSurface
destroys-surface f all is id there =
    let k = known-there f all is in renamed-as (destroyed-known k id there) (destroyed-renamed k id there)
