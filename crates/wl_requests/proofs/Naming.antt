-- What is kept of a client's wl_subsurfaces stands for them while the surfaces keep their names.
use Rattle.std.proofs.Common.{◌≡◌, ℕ, List, Option, ap, subst, sym}
use Rattle.wl_proto.specs.declared.interface.Interface.TheVariants.{WlSurface}
use Rattle.spec_desktop.specs.Objects.{ById}
use Rattle.spec_desktop.specs.Desktop.{Subsurface}
use Rattle.wl_table.specs.Objects.{Held}
use Rattle.law_desktop.specs.Owning.{Names, targets_in}
use Rattle.law_desktop.specs.RoleNames.{names_of}
use Rattle.law_desktop.specs.Subsurfaces.{AreOfSurfaces}

module _ (ids : List (Option ℕ)) (ss : List Subsurface) (old new : Held) (are : AreOfSurfaces ids (targets_in WlSurface old) ss) where
  pub subsurfaces-named : targets_in WlSurface new ≡ targets_in WlSurface old → AreOfSurfaces ids (targets_in WlSurface new) ss
  subsurfaces-named same = subst (λ (numbers : ById ℕ). AreOfSurfaces ids numbers ss) (sym same) are

  pub subsurfaces-names : names_of new ≡ names_of old → AreOfSurfaces ids (targets_in WlSurface new) ss
  subsurfaces-names same = subsurfaces-named (ap (λ (names : Names). names.surfaces) same)
