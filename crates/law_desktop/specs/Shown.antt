-- Which toplevels stand and which surfaces show a buffer, with popups too (xdg-shell.xml, xdg_surface: the initial commit, and mapping).
use Rattle.std.specs.Prelude.{ℕ, ◌≡◌, ◌&&◌, Bool, true, false, if◌then◌else◌, Option, Some, None, List}
use Rattle.std.specs.List.{list_any}
use Rattle.wl_surface.specs.Surfaces.{history_in}
use Rattle.wl_shell.specs.Popups.{is_toplevel}
use Rattle.wl_shell.specs.declared.stage.Stage.{Stage}
use Rattle.wl_shell.specs.Shell.{IsPopup, Kind, RoleObject, Toplevel, XdgSurface, xdg_of}
use Rattle.spec_desktop.specs.Stacking.{Owned, Standing, is_of, shows_buffer}
use Rattle.spec_desktop.specs.Desktop.{Desktop, owned_in}
use Rattle.law_desktop.specs.Laws.{AreApart}
use Rattle.law_desktop.specs.Standing.{AreTurned, is_mapped_at, waits_at}

-- a popup that was dismissed
abbrev pub is_dismissed_kind : Kind → Bool
is_dismissed_kind Toplevel = false
is_dismissed_kind (IsPopup popup) = popup.is_dismissed

-- the stage that a commit goes by: there is none where the role object is a popup that was dismissed
abbrev pub heeded_stage : Option RoleObject → Option Stage
heeded_stage None = None
heeded_stage (Some object) = if is_dismissed_kind object.kind then None else Some object.stage

-- the xdg_surface is there, and its surface is mapped: of a toplevel, or of a popup that wasn't dismissed
abbrev pub is_mapped_now : Option XdgSurface → Bool
is_mapped_now None = false
is_mapped_now (Some x) = is_mapped_at (heeded_stage x.role)

-- the xdg_surface is there, was configured, and its surface isn't mapped yet; its role object isn't a popup that was dismissed
abbrev pub waits_now : Option XdgSurface → Bool
waits_now None = false
waits_now (Some x) = waits_at (heeded_stage x.role)

-- the xdg_surface is there, and its surface is a toplevel's that is mapped
abbrev pub is_mapped_toplevel : Option XdgSurface → Bool
is_mapped_toplevel x = is_toplevel x && is_mapped_now x

-- Of a client's surfaces just those of mapped toplevels stand. A surface that is mapped shows a buffer, be it a toplevel's or a popup's;
-- one that waits to be mapped shows none. Each transform that was asked of a surface is one of the eight.
pub record AreShown (c : ℕ) (o : Owned) (standing : List Standing) : Type 0 where
  pub stands : (surface : ℕ) → list_any (is_of c surface) standing ≡ is_mapped_toplevel (xdg_of surface o.shell)
  pub shows : (surface : ℕ) → is_mapped_now (xdg_of surface o.shell) ≡ true → shows_buffer (history_in surface o.surfaces) ≡ true
  pub bare : (surface : ℕ) → waits_now (xdg_of surface o.shell) ≡ true → shows_buffer (history_in surface o.surfaces) ≡ false
  pub turned : AreTurned o.surfaces

-- No toplevel stands twice, and of each client those stand that are mapped. A number without a client has none.
pub record ShownStand (d : Desktop) : Type 0 where
  pub apart : AreApart d.standing
  pub each : (c : ℕ) → AreShown c (owned_in d c) d.standing
