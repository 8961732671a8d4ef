-- Which messages ask for a grab (xdg-shell.xml, xdg_popup.grab).
use Rattle.std.specs.Prelude.{Bool, true, false}
use Rattle.wl_proto.specs.declared.xdg_popup.XdgPopupRequest.TheVariants as popup
use Rattle.wl_requests.specs.declared.messages.Asked.{Asked}
use Rattle.wl_requests.specs.declared.messages.Asked.TheVariants as asked
use Rattle.wl_requests.specs.declared.messages.Kind.{Kind}
use Rattle.wl_requests.specs.declared.messages.Kind.TheVariants as kind

abbrev pub is_grab_of : Kind → Bool
is_grab_of (kind.Popup (popup.Grab seat serial)) = true
is_grab_of kind = false

-- a message does that asks this
abbrev pub is_grab : Asked → Bool
is_grab (asked.Request object version size target kind) = is_grab_of kind
is_grab asked = false
