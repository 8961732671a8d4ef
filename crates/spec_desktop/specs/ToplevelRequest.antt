-- The requests of xdg_toplevel (xdg-shell.xml), in the order of their opcodes.
use Rattle.std.specs.Prelude.{ℕ, ℤ, List}

-- A title and an application's id are bytes, an object is its id.
pub data ToplevelRequest : Type 0 where
  Destroy : ToplevelRequest
  SetParent : ℕ → ToplevelRequest
  SetTitle : List ℕ → ToplevelRequest
  SetAppId : List ℕ → ToplevelRequest
  ShowWindowMenu : ℕ → ℕ → ℤ → ℤ → ToplevelRequest
  Move : ℕ → ℕ → ToplevelRequest
  Resize : ℕ → ℕ → ℕ → ToplevelRequest
  SetMaxSize : ℤ → ℤ → ToplevelRequest
  SetMinSize : ℤ → ℤ → ToplevelRequest
  SetMaximized : ToplevelRequest
  UnsetMaximized : ToplevelRequest
  SetFullscreen : ℕ → ToplevelRequest
  UnsetFullscreen : ToplevelRequest
  SetMinimized : ToplevelRequest
