-- What is told by name of surfaces is told of the windows of their trees.
use Rattle.std.proofs.Common.{◌≡◌, ℕ, pos, true, false, Option, Some, List, [], ◌∷◌, refl, ap, sym, subst, ◌∙◌}
use Rattle.std.specs.List.{AllByRecursion}
use Rattle.std.specs.Option.{option_map}
use Rattle.std.proofs.lemmas.List.Elements.{All-from_recursion}
use Rattle.std.proofs.lemmas.Option.{same_Some}
use Rattle.wl_surface.specs.State.{History, applied as counts, height_of}
use Rattle.wl_surface.specs.declared.applied.Change.{Change}
use Rattle.wl_surface.specs.Surfaces.{Link, Surfaces, history_in, link_at}
use Rattle.wl_surface.specs.Trees.{committed_in, desynchronised_in, destroyed_in, unlinked}
use Rattle.wl_surface.specs.Linked.{IsLink}
use Rattle.spec_desktop.specs.Windows.{Owner, Window, tree}
use Rattle.spec_desktop.specs.Marks.{Applied}
use Rattle.spec_desktop.specs.Moments.{is_applied_by}
use Rattle.law_desktop.proofs.Lists.Each.{Each, each-map}
use Rattle.law_desktop.specs.RenamingChanges.{CommitsSurface, DestroysSurface, Desynchronises, Unlinks}
use Rattle.law_desktop.specs.RenamingLaws.{FindsLinks, KeepsPlaces, ReadsSurfaces}
use Rattle.law_desktop.specs.Renaming.{IsRenamedAs, IsRenaming, has_surface, renamed, renamed_link}
use Rattle.law_windows.specs.ToldLaws.{CommitTellsApplied, DesyncTellsApplied, EndTellsApplied, TellsApplied, UnlinkTellsApplied, is_told_at, is_told_of}
use Rattle.law_windows.specs.ToldWindows.{IsAppliedTo}
use Rattle.law_desktop.specs.TreeStepsLaws.{AppliesNothing}
use Rattle.law_windows.specs.RenamedMarks.{IsAppliedByName}
use Rattle.law_windows.specs.Telling.{CommitToldByName, DesyncToldByName, EndToldByName, NothingToldByName, TellsTrees, UnlinkToldByName}
use Rattle.law_windows.proofs.OneTree.Naming.{commit-there, desync-there, end-there, history-there, numbered-named, once-renamed, shallow-renamed, trees-shallow, unlink-there}
use Rattle.law_windows.proofs.OneTree.Shown.{IsShown, tree-shown}

recursion : {X : Type 0} (P : X → Type 0) (xs : List X) → Each P xs → AllByRecursion P xs
recursion P [] each = tt
recursion P (x ∷ xs) each = (each.0, recursion P xs each.1)

module _ {A : Type 0} (reads : ReadsSurfaces) (f : ℕ → ℕ) (old new there : Surfaces) (changes : List (Change A)) (before : IsRenaming f old) (after : IsRenamedAs f new there)
    (was : (id : ℕ) → has_surface id new ≡ true → has_surface id old ≡ true) (told : TellsApplied changes (renamed f old) there) where
  -- what was told of a surface that is there, by its name
  told-of : (id : ℕ) (h : History) → history_in id new ≡ Some h → (x y : ℕ) → is_applied_by (history_in id old) (history_in id new) x y ≡ is_told_of changes (f id) (Some h) x y
  told-of id h here x y =
      let is = history-there id new h here in
      let read-new : history_in (f id) there ≡ history_in id new = sym (ap (history_in (f id)) after.same) ∙ (reads f new after.still id is).history in
      ap (λ o. is_applied_by o (history_in id new) x y) (sym (reads f old before id (was id is)).history)
      ∙ (ap (λ o. is_applied_by (history_in (f id) (renamed f old)) o x y) (sym read-new)
      ∙ (told (f id) x y
      ∙ ap (λ o. is_told_of changes (f id) o x y) (read-new ∙ here)))

  tells-window : (applied : Applied) (owner : Owner) → IsAppliedTo applied owner.client old new → (w : Window) → IsShown owner new w → IsAppliedByName f changes applied w
  tells-window applied owner applies w is x y =
      ap (λ (o : Owner). applied o.client w.surface (pos x) (pos y)) is.owned
      ∙ (applies w.surface x y
      ∙ (told-of w.surface is.history is.here x y
      ∙ (ap (λ n. is_told_at changes (f w.surface) n (height_of (counts is.history).buffer (counts is.history).transform (counts is.history).scale) x y) (sym is.width)
      ∙ ap (λ n. is_told_at changes (f w.surface) w.width n x y) (sym is.height))))

  tells-trees : TellsTrees f changes old new
  tells-trees applied owner applies root place =
      All-from_recursion (IsAppliedByName f changes applied) (tree 17 owner new root place)
      (recursion (IsAppliedByName f changes applied) (tree 17 owner new root place)
      (each-map (IsShown owner new) (IsAppliedByName f changes applied) (tells-window applied owner applies) (tree 17 owner new root place) (tree-shown owner new 17 root place)))

pub commit-told-by-name : (A : Type 0) → ReadsSurfaces → CommitsSurface → CommitTellsApplied A → CommitToldByName A
commit-told-by-name A reads commits tells f all id changes is once there told =
    tells-trees reads f all (committed_in id all) (committed_in (f id) (renamed f all)) changes is (commits f all is id there) (λ n here. sym (commit-there id n all) ∙ here)
    (tells (f id) (renamed f all) changes (once-renamed f all is once) told)

-- a link that lives does so under the names of its surfaces
named-link : FindsLinks → (f : ℕ → ℕ) (all : Surfaces) (number : ℕ) (link : Link) → link_at number all ≡ Some link → link.has_ended ≡ false
    → IsLink (renamed f all) number (f link.child) (renamed_link f link)
named-link finds f all number link here lives = record {
  here = finds f all number ∙ ap (option_map (renamed_link f)) here;
  lives = lives;
  of_child = refl;
}

some-lives : (o : Option Link) (link : Link) → o ≡ Some link → link.has_ended ≡ false → (l : Link) → o ≡ Some l → l.has_ended ≡ false
some-lives o link here lives l e = subst (λ (k : Link). k.has_ended ≡ false) (same_Some link l (sym here ∙ e)) lives

pub desync-told-by-name : (A : Type 0) → ReadsSurfaces → FindsLinks → Desynchronises → DesyncTellsApplied A → DesyncToldByName A
desync-told-by-name A reads finds desynchronises tells f all number link changes is once here lives told =
    tells-trees reads f all (desynchronised_in number all) (desynchronised_in number (renamed f all)) changes is
    (desynchronises f all is number (some-lives (link_at number all) link here lives)) (λ n there. sym (desync-there number n all) ∙ there)
    (tells number (f link.child) (renamed_link f link) (renamed f all) changes (once-renamed f all is once) (named-link finds f all number link here lives) told)

pub unlink-told-by-name : (A : Type 0) → ReadsSurfaces → FindsLinks → Unlinks → UnlinkTellsApplied A → UnlinkToldByName A
unlink-told-by-name A reads finds unlinks tells f all number link changes is once apart here lives told =
    tells-trees reads f all (unlinked number all) (unlinked number (renamed f all)) changes is (unlinks f all is number) (λ n there. sym (unlink-there number n all) ∙ there)
    (tells number (f link.child) (renamed_link f link) (renamed f all) changes (once-renamed f all is once) (numbered-named f all.links apart)
    (named-link finds f all number link here lives) told)

pub end-told-by-name : (A : Type 0) → ReadsSurfaces → KeepsPlaces → DestroysSurface → EndTellsApplied A → EndToldByName A
end-told-by-name A reads places destroys tells f all id changes is trees once apart there told =
    tells-trees reads f all (destroyed_in id all) (destroyed_in (f id) (renamed f all)) changes is (destroys f all is id there) (λ n left. end-there id n all left)
    (tells (f id) (renamed f all) changes (once-renamed f all is once) (numbered-named f all.links apart) (shallow-renamed f all is places (trees-shallow all trees apart)) told)

pub nothing-told-by-name : (A : Type 0) → AppliesNothing → NothingToldByName A
nothing-told-by-name A nothing f all changes none applied owner applies root place =
    All-from_recursion (IsAppliedByName f changes applied) (tree 17 owner all root place)
    (recursion (IsAppliedByName f changes applied) (tree 17 owner all root place)
    (each-map (IsShown owner all) (IsAppliedByName f changes applied) untold (tree 17 owner all root place) (tree-shown owner all 17 root place)))
  where
    untold : (w : Window) → IsShown owner all w → IsAppliedByName f changes applied w
    untold w is x y =
        ap (λ (o : Owner). applied o.client w.surface (pos x) (pos y)) is.owned
        ∙ (applies w.surface x y
        ∙ (nothing (history_in w.surface all) (history_in w.surface all) refl x y
        ∙ sym (ap (λ (cs : List (Change A)). is_told_at cs (f w.surface) w.width w.height x y) none)))
