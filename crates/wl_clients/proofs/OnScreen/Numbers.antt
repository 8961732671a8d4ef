-- A client at its seat, its surfaces by their numbers.
use Rattle.std.proofs.Common.{◌≡◌, ℕ, true, Some, None, ap, sym, subst, ◌∙◌}
use Rattle.spec_desktop.specs.Objects.{ById}
use Rattle.law_desktop.specs.Renaming.{IsRenaming, has_surface}
use Rattle.law_desktop.specs.NamedPopups.{RenamesOwned}
use Rattle.law_desktop.specs.Ordered.{Ordered, OwnsOrdered}
use Rattle.law_desktop.specs.Owning.{number_in}
use Rattle.law_desktop.specs.RoleNames.{names_of}
use Rattle.law_desktop.specs.Twins.{IsKeptByNumbers, by_numbers}
use Rattle.law_desktop.proofs.Keeping.OwningTies.{named-there}
use Rattle.law_desktop.proofs.Twins.{kept-by-numbers}
use Rattle.spec_desktop.specs.Desktop.{Desktop, Resident, owned_in, owned_of}
use Rattle.wl_requests.specs.declared.residents.Resident.{Resident as Kept}
use Rattle.wl_requests.specs.Residents.{IsResident}
use Rattle.wl_scene.specs.Roots.{IsHeld}
use Rattle.spec_desktop.specs.Stacking.{Owned}
use Rattle.wl_shell.specs.Kept.{kept_of}
use Rattle.wl_clients.specs.Agreement.{with_numbers}
use Rattle.wl_clients.specs.Seats.{IsSeated}
use Rattle.wl_clients.specs.View.{Pile}
use Rattle.wl_clients.proofs.OnScreen.Scenes.{AreOnce, numbers-same}
use Rattle.wl_clients.proofs.OnScreen.Sitting.{numbers}

-- the names of the surfaces: their numbers
abbrev pub named_by : {A : Type 0} → Kept A → ℕ → ℕ
named_by v = number_in (numbers v)

module _ {A : Type 0} (c : ℕ) (others : ℕ → ById ℕ) (base d : Desktop) (r : Resident) (old : Kept A) (pile : Pile) (before : IsSeated c others base old pile d r) where
  pub owned-here : owned_in d c ≡ r.owned
  owned-here = ap owned_of before.based.there

  -- a surface that is there has its number
  pub has-number : (id : ℕ) → has_surface id r.owned.surfaces ≡ true → numbers old id ≡ Some (named_by old id)
  has-number id there = named-there (numbers old) r.owned.surfaces before.seat.owns.surfaces.numbered before.seat.owns.surfaces.once id there

  abbrev pub nums : ℕ → ById ℕ
  nums = with_numbers c (numbers old) others

  pub nums-own : nums c ≡ numbers old
  nums-own = numbers-same c (numbers old) others

  pub once-own : AreOnce (nums c)
  once-own = subst (λ (n : ById ℕ). AreOnce n) (sym nums-own) before.seat.owns.surfaces.once

  pub number-before : (surface : ℕ) → has_surface surface (owned_in d c).surfaces ≡ true → nums c surface ≡ Some (named_by old surface)
  number-before surface there =
      ap (λ (n : ById ℕ). n surface) nums-own ∙ has-number surface (subst (λ (o : Owned). has_surface surface o.surfaces ≡ true) owned-here there)

  -- What is kept stands for what the client owns by numbers.
  pub by-numbers : IsKeptByNumbers (names_of old.client.objects) old.owned.surfaces.states old.owned.surfaces.family (kept_of old.owned.shell) r.owned
  by-numbers = kept-by-numbers (names_of old.client.objects) old.owned.surfaces.states old.owned.surfaces.family (kept_of old.owned.shell) r.owned before.seat.owns

  abbrev pub its : Owned
  its = by_numbers (names_of old.client.objects) r.owned

  pub held : IsHeld old.owned.surfaces.states old.owned.surfaces.family old.owned.shell its
  held = record { surfaces = by-numbers.surfaces; shell = by-numbers.shell }

  pub renames : RenamesOwned (named_by old) r.owned
  renames = by-numbers.renames

  pub renaming : IsRenaming (named_by old) r.owned.surfaces
  renaming = by-numbers.renames.surfaces

  -- ---- that lives

  module _ (ordered : Ordered d) (lives : old.client.ended ≡ None) where
    pub resident : IsResident old r
    resident = record { lives = lives; peer = before.seat.peer; owns = before.seat.owns; frames = before.seat.frames; subsurfaces = before.seat.subsurfaces }

    pub alive : r.peer.status ≡ None
    alive = sym before.seat.peer.status ∙ lives

    pub owns : OwnsOrdered r
    owns = ordered.each c r before.based.there alive
