-- A worked dismissal, computed on the definitions: a client has two toplevels, and the toplevel of another client stands between them. On each
-- stands a popup with a grab; on the first of these stands one without, and so does one more on the second toplevel.
use Rattle.std.proofs.Common.{◌≡◌, ℕ, Bool, true, false, List, Some, None, [], ◌∷◌, map, refl}
use Rattle.std.specs.Prelude.{pos}
use Rattle.wl_store.specs.declared.color.Format.TheVariants.{Argb8888}
use Rattle.wl_surface.specs.Request.{Attach, Buffer, Commit}
use Rattle.wl_surface.specs.Surface.{Surface}
use Rattle.wl_shell.specs.declared.stage.Stage.TheVariants.{Mapped}
use Rattle.wl_shell.specs.Positioner.{first_positioner}
use Rattle.wl_shell.specs.Shell.{IsPopup, Kind, Shell, Toplevel, XdgSurface}
use Rattle.spec_desktop.specs.Pointer.{first_pointer}
use Rattle.spec_desktop.specs.Stacking.{Standing}
use Rattle.spec_desktop.specs.Windows.{Window, tree}
use Rattle.spec_desktop.specs.Peer.{newcomer}
use Rattle.spec_desktop.specs.Told.{Output}
use Rattle.spec_desktop.specs.Desktop.{Desktop, Resident, resident_of, with_client}
use Rattle.spec_desktop.specs.Moments.{marks_at_least}
use Rattle.spec_desktop.specs.Settling.{without_grabs}
use Rattle.spec_desktop.specs.Stacked.{all_windows}
use Rattle.law_desktop.specs.Toplevel.{windows_with}

-- ---- two clients

abbrev output : Output
output = record { width = 64; height = 64 }

-- a surface that shows a buffer of 4 by 4
abbrev buffer_of : ℕ → Buffer
buffer_of id = record { number = id; object = 0; store = 0; offset = 0; width = 4; height = 4; stride = 16; format = Argb8888 }

abbrev surface : ℕ → Surface
surface id = record { id = id; history = record { requests = Attach (Some (buffer_of id)) (pos 0) (pos 0) ∷ Commit ∷ []; cut = 2 }; role = None }

abbrev mapped : ℕ → ℕ → Kind → XdgSurface
mapped id its kind =
    record { id = id; base = 0; surface = its; role = Some (record { id = id; kind = kind; stage = Mapped }); configures = []; since = 2 }

-- a popup 8 points to the right of its parent
abbrev popup : ℕ → ℕ → Bool → Kind
popup parent number grabs =
    IsPopup (record {
      parent = Some parent;
      positioner = first_positioner;
      placement = Some (record { x = pos 8; y = pos 0; w = pos 4; h = pos 4 });
      waiting = None;
      is_dismissed = false;
      has_grab = grabs;
      number = number;
    })

abbrev client_with : List Surface → Shell → Resident
client_with surfaces shell =
    record (resident_of (newcomer output)) { owned = record { surfaces = record { surfaces = surfaces; links = [] }; shell = shell } }

abbrev first : Resident
first =
    client_with (surface 1 ∷ surface 2 ∷ surface 3 ∷ surface 4 ∷ surface 5 ∷ surface 6 ∷ [])
    (mapped 11 1 Toplevel ∷ mapped 12 2 (popup 11 1 true) ∷ mapped 13 3 (popup 12 2 false) ∷ mapped 14 4 Toplevel ∷ mapped 15 5 (popup 14 3 true)
    ∷ mapped 16 6 (popup 14 4 false) ∷ [])

abbrev second : Resident
second = client_with (surface 1 ∷ []) (mapped 11 1 Toplevel ∷ [])

abbrev stands : ℕ → ℕ → ℕ → Standing
stands client its y = record { client = client; surface = its; place = record { x = pos 0; y = pos y } }

abbrev before : Desktop
before = record {
  output = output;
  clients = Some first ∷ Some second ∷ [];
  standing = stands 1 1 0 ∷ stands 2 1 8 ∷ stands 1 4 16 ∷ [];
  mappings = 3;
  pointer = first_pointer;
}

-- the popups with a grab are dismissed
abbrev after : Desktop
after = with_client 1 (Some (without_grabs first)) before

abbrev names : List Window → List (ℕ × ℕ)
names ws = map (λ w. (w.owner.client, w.surface)) ws

-- ---- their windows

pub row_before : names (all_windows before) ≡ (1, 1) ∷ (1, 2) ∷ (1, 3) ∷ (2, 1) ∷ (1, 4) ∷ (1, 5) ∷ (1, 6) ∷ []
unfolding tree
row_before = refl

-- both are gone, and the one that descends from them
pub row_after : names (all_windows after) ≡ (1, 1) ∷ (2, 1) ∷ (1, 4) ∷ (1, 6) ∷ []
unfolding tree
row_after = refl

pub row_first : names (windows_with 1 1 after) ≡ (1, 1) ∷ []
unfolding tree
row_first = refl

pub row_second : names (windows_with 1 4 after) ≡ (1, 4) ∷ (1, 6) ∷ []
unfolding tree
row_second = refl

-- ---- what is marked

-- a point of a popup that was dismissed, and one of the other on the same toplevel, which stands over it
pub row_marked : marks_at_least before after (pos 9) (pos 1) ≡ true
unfolding tree
row_marked = refl

pub row_unmarked : marks_at_least before after (pos 1) (pos 17) ≡ false
unfolding tree
row_unmarked = refl
