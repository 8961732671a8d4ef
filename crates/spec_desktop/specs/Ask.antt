-- What an accepted message asks that touches no more than its own client.
use Rattle.std.specs.Prelude.{ℕ, Result, Ok, Err}
use Rattle.spec_desktop.specs.declared.actions.Action.{Action}
use Rattle.spec_desktop.specs.declared.refusals.Refusal.{Refusal}
use Rattle.wl_surface.specs.Request.{Request}

pub data Ask : Type 0 where
  -- what is asked of a client's own interfaces
  Own : Action → Ask
  -- a new surface, with its version
  CreateSurface : ℕ → ℕ → Ask
  -- of a surface, what is pending until its next commit
  AskSurface : ℕ → Request → Ask
  -- an object that stands for nothing goes: a wl_subcompositor, or an xdg_wm_base whose xdg_surfaces are gone
  EndObject : ℕ → Ask
  -- a new xdg_surface, with its version, by an xdg_wm_base, of a surface
  GetXdgSurface : ℕ → ℕ → ℕ → ℕ → Ask
  DestroyXdgSurface : ℕ → Ask
  -- a new toplevel, with its version, of an xdg_surface
  GetToplevel : ℕ → ℕ → ℕ → Ask
  -- of an xdg_surface, a serial
  Acknowledge : ℕ → ℕ → Ask
  -- the toplevel of an xdg_surface is configured again
  ConfigureAgain : ℕ → Ask
  -- what has no effect
  Ignore : Ask

abbrev pub owns : Result Action Refusal → Result Ask Refusal
owns (Ok action) = Ok (Own action)
owns (Err refusal) = Err refusal
