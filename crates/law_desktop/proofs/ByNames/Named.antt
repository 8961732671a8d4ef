-- What is kept of surfaces under numbers stands for them by their ids after each call.
use Rattle.std.proofs.Common.{◌≡◌, ℕ, ◌==◌, Bool, true, false, cond, None, is_some, refl, ap, sym, subst, ◌∙◌}
use Rattle.std.specs.Option.{option_map}
use Rattle.wl_links.specs.Stacks.{Stacks}
use Rattle.wl_links.specs.Family.{Tied, stacks_in}
use Rattle.wl_surface.specs.declared.role.Role.{Role}
use Rattle.wl_surface.specs.declared.role.Role.TheVariants.{Subsurface}
use Rattle.wl_surface.specs.Request.{Commit}
use Rattle.wl_surface.specs.Surface.{Surface, asking, with_role}
use Rattle.wl_surface.specs.Slots.{Numbered, Slots, StandForAll, changed_at}
use Rattle.wl_surface.specs.Surfaces.{Surfaces, link_at, surface_at, with_change}
use Rattle.wl_surface.specs.Hanging.{Hang}
use Rattle.wl_surface.proofs.Hanging.{asks-alone, hangs-changed, tied-changed}
use Rattle.wl_surface.specs.Linked.{Stand, numbered}
use Rattle.wl_surface.proofs.Standing.{stand-changed, there-changed}
use Rattle.law_desktop.specs.Renaming.{IsRenamedAs, IsRenaming, has_surface, renamed, renamed_link, renamed_surface}
use Rattle.law_desktop.proofs.ByNames.Names.Done.{changes-surface, commits-surface, heed-no-names, links-surfaces}
use Rattle.law_desktop.proofs.ByNames.Names.Known.{finds-links, reads-surfaces}
use Rattle.law_desktop.proofs.ByNames.Names.Changing.{some-mapped}
use Rattle.law_desktop.specs.Named.{AsksNamed, CommitsNamed, LinksNamed, RolesNamed, StandBy, StaysNamed}

-- ---- what was made by numbers was made by ids

pub named-as : (names : ℕ → ℕ) (new : Slots) (after : Tied) {here there : Surfaces} → IsRenamedAs names here there → Stand new after there → StandBy names new after here
named-as names new after same stands = record { stands = subst (λ (x : Surfaces). Stand new after x) (sym same.same) stands; renaming = same.still }

-- a surface that is there is there under its number
pub there-named : (names : ℕ → ℕ) (all : Surfaces) → IsRenaming names all → (id : ℕ) → has_surface id all ≡ true → has_surface (names id) (renamed names all) ≡ true
there-named names all is id there =
    ap is_some (reads-surfaces names all is id there).surface ∙ (some-mapped (renamed_surface names) (surface_at id all) ∙ there)

pub new-named : (names : ℕ → ℕ) (all : Surfaces) (number : ℕ) → link_at number all ≡ None → link_at number (renamed names all) ≡ None
new-named names all number none = finds-links names all number ∙ ap (option_map (renamed_link names)) none

-- ---- one surface

asks-stands : (slots new : Slots) (tied : Tied) (those : Surfaces) (k : ℕ) (f : Surface → Surface) → ((s : Surface) → (f s).id ≡ s.id)
    → ((all : Numbered) → StandForAll slots all → StandForAll new (changed_at k f all))
    → Hang tied (with_change k f those) → Stand slots tied those → Stand new tied (with_change k f those)
asks-stands slots new tied those k f same changes hang stand = record {
  surfaces = stand-changed new those k f same (changes (numbered those) stand.surfaces);
  hang = hang;
  there = λ n is. there-changed those k f same n ∙ stand.there n is;
}

pub asks-named : AsksNamed
asks-named names slots new tied all id r about none there by changes =
    named-as names new tied (changes-surface names all by.renaming id (asking r) (heed-no-names names r Subsurface).0 there)
    (asks-stands slots new tied (renamed names all) (names id) (asking r) (λ s. refl) changes.stand
    (asks-alone tied (renamed names all) (names id) r about none by.stands.hang) by.stands)

same-either : (b : Bool) (s : Stacks) → s ≡ cond b s s
same-either true s = refl
same-either false s = refl

role-hangs : (tied : Tied) (those : Surfaces) (k : ℕ) (role : Role) → Hang tied those → Hang tied (with_change k (with_role role) those)
role-hangs tied those k role hang = (
  hangs-changed those k (with_role role) (λ h. h) (λ s. refl) (λ s. refl) tied tied (λ s. s) refl (λ n. same-either (n == k) (stacks_in tied n)) refl (λ h there. refl) hang.0,
  tied-changed those k (with_role role) (λ h. h) (λ s. refl) (λ s. refl) (λ h le. le) (λ l h there. refl) (λ l h gone. refl) hang.1,
)

pub roles-named : RolesNamed
roles-named names slots new tied all id role there by changes =
    named-as names new tied (changes-surface names all by.renaming id (with_role role) (heed-no-names names Commit role).2 there)
    (asks-stands slots new tied (renamed names all) (names id) (with_role role) (λ s. refl) changes.stand
    (role-hangs tied (renamed names all) (names id) role by.stands.hang) by.stands)

pub commits-named : CommitsNamed
commits-named names slots new tied after all id there by makes =
    named-as names new after (commits-surface names all by.renaming id there) (makes (renamed names all) by.stands)

-- ---- links

pub links-named : LinksNamed
links-named names slots new tied after all number child parent below above none by makes =
    named-as names new after (links-surfaces names all by.renaming number child parent below above)
    (makes (renamed names all) number by.stands (new-named names all number none) (there-named names all by.renaming child below)
    (there-named names all by.renaming parent above))

pub stays-named : StaysNamed
stays-named names slots new tied after all child parent below above by makes = record {
  stands = makes (renamed names all) by.stands (there-named names all by.renaming child below) (there-named names all by.renaming parent above);
  renaming = by.renaming;
}
