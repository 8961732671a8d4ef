-- Which toplevels stand: those that are mapped (xdg-shell.xml, xdg_surface: the initial commit, and mapping).
use Rattle.std.specs.Prelude.{ℕ, ◌≡◌, ◌==◌, Bool, true, false, Option, Some, None, List, nat_lt}
use Rattle.std.specs.List.{list_all, list_any}
use Rattle.wl_surface.specs.Request.{Request, SetBufferTransform}
use Rattle.wl_surface.specs.State.{History}
use Rattle.wl_surface.specs.Surfaces.{Surfaces, history_in}
use Rattle.wl_shell.specs.Shell.{Mapped, RoleObject, Shell, Toplevel, XdgSurface as Xdg, xdg_of}
use Rattle.wl_shell.specs.declared.stage.Stage.{Stage}
use Rattle.wl_shell.specs.declared.stage.Stage.TheVariants as stage
use Rattle.spec_desktop.specs.Stacking.{Standing}
use Rattle.law_desktop.specs.Laws.{AreApart}

-- ---- stages

-- this is the stage of a role object whose surface is mapped
abbrev pub is_mapped_at : Option Stage → Bool
is_mapped_at None = false
is_mapped_at (Some stage.Fresh) = false
is_mapped_at (Some stage.Waiting) = false
is_mapped_at (Some stage.Ready) = false
is_mapped_at (Some stage.Mapped) = true

-- this is the stage of a role object that was configured and whose surface isn't mapped yet
abbrev pub waits_at : Option Stage → Bool
waits_at None = false
waits_at (Some stage.Fresh) = false
waits_at (Some stage.Waiting) = true
waits_at (Some stage.Ready) = true
waits_at (Some stage.Mapped) = false

-- ---- transforms

-- a request asks for no transform, or for one of the eight (wayland.xml, wl_output.transform)
abbrev pub turns_well : Request → Bool
turns_well (SetBufferTransform number) = nat_lt number 8
turns_well request = true

-- each transform that was asked of these surfaces is one of the eight
abbrev pub AreTurned : Surfaces → Type 0
AreTurned all = (surface : ℕ) (h : History) → history_in surface all ≡ Some h → list_all turns_well h.requests ≡ true

-- ---- the toplevels of a client that stand

abbrev pub IsMappedToplevel : Option RoleObject → Type 0
IsMappedToplevel None = ⊥
IsMappedToplevel (Some object) = (object.kind ≡ Toplevel) × (object.stage ≡ Mapped)

-- the xdg_surface is there, and has a mapped toplevel
abbrev pub HasMappedToplevel : Option Xdg → Type 0
HasMappedToplevel None = ⊥
HasMappedToplevel (Some x) = IsMappedToplevel x.role

-- Each stands once, and is mapped.
pub record AreMappedOnce (shell : Shell) (tops : List Standing) : Type 0 where
  pub apart : AreApart tops
  pub mapped : (surface : ℕ) → list_any (λ s. s.surface == surface) tops ≡ true → HasMappedToplevel (xdg_of surface shell)
