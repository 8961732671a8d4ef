-- Laws of the buffers that the surfaces of a client had and showed, where a request changes several of them at once (wayland.xml,
-- wl_subsurface): whose stores go, and which are released.
use Rattle.std.specs.Prelude.{ℕ, ◌≡◌, ◌==◌, ◌&&◌, Bool, true, false, List, [], ◌++◌, filter, flat_map, fold, map}
use Rattle.std.specs.List.{Contains, list_any}
use Rattle.std.specs.List.Sorted.{IsStrictlyIncreasing}
use Rattle.wl_proto.specs.declared.interface.Interface.TheVariants.{WlBuffer}
use Rattle.wl_proto.specs.Messages.{says}
use Rattle.wl_store.specs.Stores.{Stock}
use Rattle.wl_surface.specs.Request.{Buffer}
use Rattle.wl_surface.specs.Surface.{buffers_of}
use Rattle.wl_surface.specs.Surfaces.{Surfaces, is_busy}
use Rattle.wl_shell.specs.Popups.{is_among}
use Rattle.spec_desktop.specs.Peer.{released}
use Rattle.spec_desktop.specs.Told.{said}
use Rattle.spec_desktop.specs.Changing.{after_all}
use Rattle.spec_desktop.specs.Desktop.{Resident}
use Rattle.spec_desktop.specs.Releases.{is_released}
use Rattle.spec_desktop.specs.Replies.{buffers_shown, releases}
use Rattle.spec_desktop.specs.Step.{each_once, is_over, letting_go}

-- ---- stores

-- Two stores have one use less each, whichever comes first.
abbrev pub ReleasesCommute : Type 0
ReleasesCommute = (a b : ℕ) (stores : Stock) → released a (released b stores) ≡ released b (released a stores)

-- the stores of these buffers have one use less for each of them
abbrev pub gone_with : List Buffer → Stock → Stock
gone_with buffers stores = fold (λ stores b. released b.store stores) stores buffers

-- ---- buffers by their numbers

-- a number says which of these buffers it is: of one number they have one store, and are one object's
abbrev pub AreOne : List Buffer → Type 0
AreOne buffers =
    (b c : Buffer) → Contains buffers b → Contains buffers c → b.number ≡ c.number → (b.store ≡ c.store) × (b.object ≡ c.object)

-- one of them has this number
abbrev pub has_number : ℕ → List Buffer → Bool
has_number number buffers = list_any (λ b. b.number == number) buffers

-- one of them has this number, and passes
abbrev pub has_passing : (Buffer → Bool) → ℕ → List Buffer → Bool
has_passing passes number buffers = list_any (λ b. (b.number == number) && passes b) buffers

-- whether a buffer passes is said by its number and its object
abbrev pub IsByNumber : (Buffer → Bool) → Type 0
IsByNumber passes = (b c : Buffer) → b.number ≡ c.number → b.object ≡ c.object → passes b ≡ passes c

-- Of two lists the same stores go where those that pass have the same numbers.
abbrev pub LetsGoAlike : Type 0
LetsGoAlike =
    (passes : Buffer → Bool) (buffers others : List Buffer) (stores : Stock) → IsByNumber passes → AreOne (buffers ++ others)
    → ((number : ℕ) → has_passing passes number buffers ≡ has_passing passes number others)
    → gone_with (filter passes (each_once buffers)) stores ≡ gone_with (filter passes (each_once others)) stores

-- ---- all surfaces, and some

-- the buffers that the surfaces of a client have
abbrev pub had_in : Surfaces → List Buffer
had_in all = flat_map (λ s. buffers_of s.history) all.surfaces

-- the buffers that they show or will show
abbrev pub shown_in : Surfaces → List Buffer
shown_in all = flat_map (λ s. buffers_shown s.history) all.surfaces

-- each of the first is one of the others
abbrev pub AreAmong : List Buffer → List Buffer → Type 0
AreAmong buffers others = (b : Buffer) → Contains buffers b → Contains others b

-- Of the buffers that surfaces had, some alone may be looked at for stores that go: those among which, by its number, is each that is over.
abbrev pub AfterAllIsAfterThese : Type 0
AfterAllIsAfterThese =
    (old new : Resident) (these : List Buffer) → AreOne (had_in old.owned.surfaces) → AreAmong these (had_in old.owned.surfaces)
    → ((b : Buffer) → Contains (had_in old.owned.surfaces) b → is_over new b ≡ true → has_number b.number these ≡ true)
    → after_all old new ≡ letting_go these new

-- the objects of those of these buffers that are released, and no others
abbrev pub AreReleasedOf : Resident → List Buffer → List ℕ → Type 0
AreReleasedOf new buffers objects =
    (object : ℕ) → is_among object objects ≡ list_any (λ b. (b.object == object) && is_released new b) buffers

-- The releases are told in rising order of the wl_buffers of those that were busy, aren't any more, and live (wl_buffer.release). Some of
-- the buffers that were busy may be looked at alone: those among which, by its number, is each that isn't busy any more.
abbrev pub ReleasesRise : Type 0
ReleasesRise =
    (old new : Resident) (these : List Buffer) (objects : List ℕ) → AreOne (shown_in old.owned.surfaces)
    → AreAmong these (shown_in old.owned.surfaces)
    → ((b : Buffer) → Contains (shown_in old.owned.surfaces) b → is_busy b.number new.owned.surfaces ≡ false
    → has_number b.number these ≡ true)
    → IsStrictlyIncreasing objects → AreReleasedOf new these objects
    → releases old new ≡ map (λ object. said object (says WlBuffer 0 [])) objects
