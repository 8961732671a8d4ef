-- One client of the desk, apart from the others, with the toplevels and their windows.
use Rattle.std.specs.Prelude.{ℕ, ◌≡◌, [], Option, Some, None}
use Rattle.wl_proto.specs.declared.interface.Interface.TheVariants.{WlSurface}
use Rattle.spec_desktop.specs.Objects.{ById}
use Rattle.spec_desktop.specs.Peer.{Peer, ended}
use Rattle.spec_desktop.specs.declared.cause.Cause.{Cause}
use Rattle.wl_client.specs.View.{opened}
use Rattle.wl_surface.specs.Linked.{Stand}
use Rattle.wl_surface.specs.Surfaces.{no_surfaces}
use Rattle.spec_desktop.specs.Stacking.{without_client, without_surface_of}
use Rattle.wl_scene.specs.Kept.{Stack, mapped_on}
use Rattle.wl_scene.specs.declared.owned.Owned.{Owned}
use Rattle.wl_scene.specs.Stacked.{without_client as without_client_of}
use Rattle.wl_scene.specs.StackedAgreement.{AreStacked}
use Rattle.wl_clients.specs.Agreement.{IsScene, IsSeat, with_numbers}
use Rattle.spec_desktop.specs.Desktop.{Desktop, Resident, become, client_at, with_number}
use Rattle.spec_desktop.specs.Stacked.{all_windows}
use Rattle.law_desktop.specs.Owning.{targets_in}
use Rattle.law_desktop.specs.Shown.{ShownStand}
use Rattle.wl_clients.specs.View.{Pile, owned_view}
use Rattle.spec_desktop.specs.declared.answers.Done.{Done}
use Rattle.wl_requests.specs.declared.residents.Resident.{Resident as Kept}
use Rattle.wl_requests.specs.declared.residents.Stacking.{Stacking}
use Rattle.wl_requests.specs.declared.residents.Stacking.TheVariants.{Stays, ToTop, Out}

-- The desktop is the base but for the client c, which is this one, and the toplevels.
pub record IsBased (c : ℕ) (base d : Desktop) (r : Resident) : Type 0 where
  pub there : client_at c d ≡ Some r
  pub output : d.output ≡ base.output
  pub clients : d.clients ≡ with_number c (Some r) base.clients

-- What is kept of client c, of the toplevels and of their windows agrees with such a desktop. The others' numbers are those of the other
-- clients' surfaces.
pub record IsSeated {A : Type 0} (c : ℕ) (others : ℕ → ById ℕ) (base : Desktop) (v : Kept A) (pile : Pile) (d : Desktop)
    (r : Resident) : Type 0 where
  pub based : IsBased c base d r
  pub seat : IsSeat v.client (owned_view v) r
  pub scene : IsScene (with_numbers c (targets_in WlSurface v.client.objects) others) pile.scene d
  pub windows : AreStacked (with_numbers c (targets_in WlSurface v.client.objects) others) pile.windows (all_windows d)
  pub mapped : ShownStand d

-- the same, as if no event for it had been refused
abbrev pub opened_kept : {A : Type 0} → Kept A → Kept A
opened_kept v = record v { client = opened v.client }

-- A call does to what is kept of client c what R does to it on the desktop: its stream, objects and stores change, or it ends.
abbrev pub IsChangedSo : {A : Type 0} → ℕ → (Peer → Done → Option Peer → Type 0) → Done → Kept A → Kept A → Pile → Pile → Type 0
IsChangedSo c R done old new was is =
    (others : ℕ → ById ℕ) (base d : Desktop) (r : Resident) → IsSeated c others base old was d r
    → (q : Peer) × (s : Resident) × R r.peer done (Some q) × IsSeated c others base new is (become c r q d) s

-- a client that is ended by this, where it lives
abbrev pub ended_by : Option Cause → Cause → Peer → Peer
ended_by None cause p = ended cause p
ended_by (Some was) cause p = p

-- What a request asks of the stack is done: a toplevel comes to the top, or is taken out.
abbrev pub IsRestacked : ℕ → Stacking → Stack → Stack → Type 0
IsRestacked c Stays was is = is ≡ was
IsRestacked c (ToTop number) was is = is ≡ mapped_on c number was
IsRestacked c (Out number) was is = (is.standing ≡ without_surface_of c number was.standing) × (is.next ≡ was.next)

-- nothing is kept of surfaces, of links and of the shell, and of wl_subsurfaces
pub record IsBare {A : Type 0} (owned : Owned A) : Type 0 where
  pub surfaces : Stand owned.surfaces.states owned.surfaces.family no_surfaces
  pub frames : owned.surfaces.states.frames ≡ []
  pub shell : owned.shell ≡ []

-- Where the client ended, nothing is left of what it owned, and none of its toplevels stands.
abbrev pub IsClearedBy : {A : Type 0} → Option Cause → ℕ → Kept A → Kept A → Pile → Pile → Type 0
IsClearedBy None c old new was is = (new ≡ old) × (is ≡ was)
IsClearedBy (Some cause) c old new was is =
    (new.client ≡ old.client) × IsBare new.owned × (new.subsurfaces ≡ [])
    × (is.scene.standing ≡ without_client c was.scene.standing) × (is.scene.next ≡ was.scene.next)
    × (is.windows ≡ without_client_of c was.windows)
