-- What a grab is allowed by (xdg-shell.xml, xdg_popup.grab).
use Rattle.std.specs.Prelude.{ℕ, ◌≡◌}
use Rattle.spec_desktop.specs.Changing.{grab_holder, is_held_elsewhere}
use Rattle.spec_desktop.specs.Desktop.{Desktop, Resident}
use Rattle.wl_proto.specs.declared.xdg_popup.XdgPopupRequest.TheVariants as popup
use Rattle.wl_requests.specs.declared.messages.Asked.{Asked}
use Rattle.wl_requests.specs.declared.messages.Asked.TheVariants as asked
use Rattle.wl_requests.specs.declared.messages.Kind.{Kind}
use Rattle.wl_requests.specs.declared.messages.Kind.TheVariants as kind
use Rattle.wl_requests.specs.declared.residents.Grabbing.{Grabbing}

-- The serials are those of the latest press and of the latest release that the client was told of, and another client holds a grab or none
-- does.
pub record IsGrabbing (g : Grabbing) (c : ℕ) (r : Resident) (d : Desktop) : Type 0 where
  pub press : g.press ≡ r.press
  pub release : g.release ≡ r.release
  pub held : g.held_elsewhere ≡ is_held_elsewhere c (grab_holder d)

-- So it is of a request for a grab; nothing else is allowed by it.
abbrev pub IsGrabbingFor : Grabbing → Kind → ℕ → Resident → Desktop → Type 0
IsGrabbingFor g (kind.Popup (popup.Grab seat serial)) c r d = IsGrabbing g c r d
IsGrabbingFor g kind c r d = Unit {0}

-- of what the first message asks
abbrev pub IsGrabbingOf : Grabbing → Asked → ℕ → Resident → Desktop → Type 0
IsGrabbingOf g (asked.Request object version size target kind) c r d = IsGrabbingFor g kind c r d
IsGrabbingOf g asked c r d = Unit {0}
