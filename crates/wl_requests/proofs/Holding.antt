-- What is kept stands for what a client owns by the numbers from before a message.
use Rattle.std.proofs.Common.{◌≡◌, ℕ, ◌==◌, Bool, true, false, Option, None, List, Result, is_some, refl, ap, subst, sym, ◌∙◌}
use Rattle.std.specs.Prelude.{if◌then◌else◌, Ok, Err}
use Rattle.std.specs.Option.{option_map_or}
use Rattle.std.proofs.lemmas.List.Elements.{recursion_from_All}
use Rattle.wl_links.specs.Family.{Tied}
use Rattle.wl_proto.specs.declared.interface.Interface.TheVariants.{WlSurface}
use Rattle.law_desktop.specs.Renaming.{has_surface, renamed}
use Rattle.law_desktop.proofs.ByNames.Names.Known.{names-those-there}
use Rattle.law_desktop.proofs.ByNames.Names.Lists.{each-weaker, map-same}
use Rattle.law_desktop.proofs.ByNames.Renaming.{renames-named}
use Rattle.law_desktop.specs.NamedPopups.{RenamesOwned, renamed_owned, renamed_shell, renamed_xdg}
use Rattle.law_desktop.specs.Owning.{IsOwned, Names, number_in, targets_in}
use Rattle.law_desktop.proofs.Twins.{kept-by-numbers}
use Rattle.spec_desktop.specs.Objects.{ById, with_id}
use Rattle.spec_desktop.specs.Peer.{counted}
use Rattle.spec_desktop.specs.declared.refusals.Refusal.{Refusal}
use Rattle.spec_desktop.specs.Changing.{changed_for}
use Rattle.spec_desktop.specs.Demand.{Demand}
use Rattle.spec_desktop.specs.Desktop.{Desktop, Resident, unpointed}
use Rattle.spec_desktop.specs.Step.{with_peer}
use Rattle.wl_requests.specs.Holding.{HoldsBy, HoldsSo, names_before}
use Rattle.wl_requests.specs.declared.residents.Resident.{Resident as Kept}
use Rattle.wl_scene.specs.Roots.{IsHeld}
use Rattle.wl_shell.specs.Agreement.{IsShell}
use Rattle.spec_desktop.specs.Stacking.{Owned}
use Rattle.wl_surface.specs.Surface.{Surface}
use Rattle.wl_surface.specs.Slots.{Slots}
use Rattle.wl_surface.specs.Surfaces.{Surfaces, history_in}
use Rattle.wl_table.specs.Objects.{Held}
use Rattle.wl_shell.specs.Kept.{Book, kept_of}
use Rattle.wl_shell.specs.Shell.{Shell, XdgSurface}

-- ---- other names that give the surfaces that are there the same numbers

module _ (f g : ℕ → ℕ) (o : Owned) (same : (id : ℕ) → has_surface id o.surfaces ≡ true → g id ≡ f id) (renames : RenamesOwned f o) where
  shell-same : renamed_shell g o.shell ≡ renamed_shell f o.shell
  shell-same =
      map-same (renamed_xdg g) (renamed_xdg f) o.shell
      (each-weaker (λ (x : XdgSurface). has_surface x.surface o.surfaces ≡ true) (λ (x : XdgSurface). renamed_xdg g x ≡ renamed_xdg f x)
      (λ x there. ap (λ (n : ℕ). record x { surface = n }) (same x.surface there)) o.shell
      (recursion_from_All (λ (x : XdgSurface). has_surface x.surface o.surfaces ≡ true) o.shell renames.shell))

  pub renames-still : RenamesOwned g o
  renames-still = record { surfaces = (names-those-there f g o.surfaces renames.surfaces same).renaming; shell = renames.shell }

  pub held-still : (slots : Slots) (tied : Tied) (book : Book) → IsHeld slots tied book (renamed_owned f o) → IsHeld slots tied book (renamed_owned g o)
  held-still slots tied book is =
      let lists = (names-those-there f g o.surfaces renames.surfaces same).surfaces in
      record {
        surfaces = (renames-named f g slots tied o.surfaces same (record { stands = is.surfaces; renaming = renames.surfaces })).stands;
        shell =
            subst (λ (xs : Shell). IsShell (kept_of book) (λ number. history_in number (renamed g o.surfaces)) xs) (sym shell-same)
            (subst (λ (xs : List Surface). IsShell (kept_of book) (λ number. history_in number (record { surfaces = xs; links = (renamed f o.surfaces).links })) (renamed_shell f o.shell)) (sym lists)
            is.shell);
      }

-- ---- what is kept by names that agree with the numbers from before

number-there : (numbers others : ById ℕ) → ((id : ℕ) → is_some (numbers id) ≡ true → others id ≡ numbers id) → (all : Surfaces)
    → ((id : ℕ) → is_some (numbers id) ≡ has_surface id all) → (id : ℕ) → has_surface id all ≡ true → number_in others id ≡ number_in numbers id
number-there numbers others agree all numbered id there = ap (λ (n : Option ℕ). option_map_or (λ number. number) n 0) (agree id (numbered id ∙ there))

pub holds-by : {A : Type 0} (old new : Kept A) (names : Names) (o : Owned)
    → ((id : ℕ) → is_some (names.surfaces id) ≡ true → targets_in WlSurface old.client.objects id ≡ names.surfaces id)
    → IsOwned names new.owned.surfaces.states new.owned.surfaces.family (kept_of new.owned.shell) o → HoldsBy old new o
holds-by old new names o agree is =
    let by = kept-by-numbers names new.owned.surfaces.states new.owned.surfaces.family (kept_of new.owned.shell) o is in
    let same = number-there names.surfaces (targets_in WlSurface old.client.objects) agree o.surfaces is.surfaces.numbered in
    record {
      renames = renames-still (number_in names.surfaces) (names_before old) o same by.renames;
      held =
          held-still (number_in names.surfaces) (names_before old) o same by.renames new.owned.surfaces.states new.owned.surfaces.family new.owned.shell
          (record { surfaces = by.surfaces; shell = by.shell });
    }

-- the names of a client's table are those from before
pub holds-same : {A : Type 0} (old new : Kept A) (names : Names) (o : Owned) → targets_in WlSurface old.client.objects ≡ names.surfaces
    → IsOwned names new.owned.surfaces.states new.owned.surfaces.family (kept_of new.owned.shell) o → HoldsBy old new o
holds-same old new names o same is = holds-by old new names o (λ id there. ap (λ (f : ById ℕ). f id) same) is

-- one surface is gone
left-alone : (numbers : ById ℕ) (gone id : ℕ) → is_some (with_id gone None numbers id) ≡ true → numbers id ≡ with_id gone None numbers id
left-alone numbers gone id = at (id == gone)
  where
    at : (b : Bool) → is_some (if b then None else numbers id) ≡ true → numbers id ≡ (if b then None else numbers id)
    at true there = absurd (cc)
    at false there = refl

pub holds-without : {A : Type 0} (old new : Kept A) (names : Names) (gone : ℕ) (o : Owned) → targets_in WlSurface old.client.objects ≡ names.surfaces
    → IsOwned (record names { surfaces = with_id gone None names.surfaces }) new.owned.surfaces.states new.owned.surfaces.family (kept_of new.owned.shell) o → HoldsBy old new o
holds-without old new names gone o same is =
    holds-by old new (record names { surfaces = with_id gone None names.surfaces }) o (λ id there. ap (λ (f : ById ℕ). f id) same ∙ left-alone names.surfaces gone id there) is

-- ---- what was there in between, with the same objects

pub holds-behind : {A : Type 0} (old mid new : Kept A) (o : Owned) → mid.client.objects ≡ old.client.objects → HoldsBy mid new o → HoldsBy old new o
holds-behind old mid new o same is =
    let f = ap (λ (held : Held). number_in (targets_in WlSurface held)) same in
    record {
      renames = subst (λ (f : ℕ → ℕ). RenamesOwned f o) f is.renames;
      held = subst (λ (f : ℕ → ℕ). IsHeld new.owned.surfaces.states new.owned.surfaces.family new.owned.shell (renamed_owned f o)) f is.held;
    }

pub held-so : {A : Type 0} (old mid new : Kept A) (judged : Result Demand Refusal) (c : ℕ) (r : Resident) (d : Desktop) → mid.client.objects ≡ old.client.objects → HoldsSo judged c r d mid new
    → HoldsSo judged c r d old new
held-so old mid new (Ok demand) c r d same is = holds-behind old mid new (changed_for c demand (with_peer (counted r.peer) r) (unpointed d)).owned same is
held-so old mid new (Err refusal) c r d same is = tt
