-- What is handed in for a grab is what one is allowed by, where one is asked for.
use Rattle.std.proofs.Common.{◌≡◌, ℕ, Bool, true, Some, refl, subst}
use Rattle.spec_desktop.specs.Changing.{grab_holder, is_held_elsewhere}
use Rattle.spec_desktop.specs.Desktop.{Desktop, Resident, client_at}
use Rattle.wl_proto.specs.declared.xdg_popup.XdgPopupRequest.TheVariants as popup
use Rattle.wl_requests.specs.Grabbing.{IsGrabbing, IsGrabbingFor, IsGrabbingOf}
use Rattle.wl_requests.specs.declared.messages.Asked.{Asked}
use Rattle.wl_requests.specs.declared.messages.Asked.TheVariants as asked
use Rattle.wl_requests.specs.declared.messages.Kind.{Kind}
use Rattle.wl_requests.specs.declared.messages.Kind.TheVariants as kind
use Rattle.wl_requests.specs.declared.residents.Grabbing.{Grabbing}
use Rattle.wl_clients.specs.Grabbing.{is_grab, is_grab_of}
use Rattle.wl_clients.specs.Pointing.{IsLatest}
use Rattle.wl_clients.specs.declared.grabs.Latest.{Latest}

allowed-for : (g : Grabbing) (k : Kind) (c : ℕ) (r : Resident) (d : Desktop) → (is_grab_of k ≡ true → IsGrabbing g c r d) → IsGrabbingFor g k c r d
allowed-for g (kind.Popup (popup.Grab seat serial)) c r d h = h refl
allowed-for g k c r d h = tt

allowed-of : (g : Grabbing) (a : Asked) (c : ℕ) (r : Resident) (d : Desktop) → (is_grab a ≡ true → IsGrabbing g c r d) → IsGrabbingOf g a c r d
allowed-of g (asked.Request object version size target k) c r d h = allowed-for g k c r d h
allowed-of g a c r d h = tt

-- by the serials that the client was told, and by who holds a grab where one is asked for
pub grabbing-of : (latest : Latest) (held : Bool) (a : Asked) (c : ℕ) (r : Resident) (d : Desktop) → IsLatest latest (Some r)
    → (is_grab a ≡ true → held ≡ is_held_elsewhere c (grab_holder d))
    → IsGrabbingOf (record { press = latest.press; release = latest.release; held_elsewhere = held }) a c r d
grabbing-of latest held a c r d serials holds =
    allowed-of (record { press = latest.press; release = latest.release; held_elsewhere = held }) a c r d
    (λ asks. record { press = serials.0; release = serials.1; held = holds asks })

-- the client that is there was told of them
pub latest-here : (latest : Latest) (c : ℕ) (r : Resident) (d : Desktop) → client_at c d ≡ Some r → IsLatest latest (client_at c d) → IsLatest latest (Some r)
latest-here latest c r d there serials = subst (IsLatest latest) there serials
