-- Requests of a client's own interfaces, computed on the definitions: its ids and headers, registries and binds, pools and buffers, positioners.
use Rattle.std.proofs.Common.{◌≡◌, ℕ, List, [], ◌∷◌, Option, Some, None, refl, take}
use Rattle.std.specs.Option.{option_map_or}
use Rattle.spec_desktop.specs.declared.cause.Cause.TheVariants.{Protocol, Gone}
use Rattle.spec_desktop.specs.Act.{Leave}
use Rattle.spec_desktop.specs.Desktop.{Desktop, Resident, arrival, client_at, empty, with_client}
use Rattle.spec_desktop.specs.Told.{Output}
use Rattle.spec_desktop.specs.Peer.{no_stores}
use Rattle.wl_store.specs.Stores.{Stock, size_of}
use Rattle.law_desktop.specs.Ample.{fed, happened}
use Rattle.test_definitions.proofs.Steps.{status, unsent}

-- a client that has just connected, of an output of 2 by 1
abbrev fresh : Desktop
fresh =
    let output : Output = record { width = 2; height = 1 } in
    with_client 1 (Some (arrival output)) (empty output)

-- how many live objects it has
abbrev held : Desktop → ℕ
held d = option_map_or (λ (r : Resident). r.peer.held) (client_at 1 d) 0

abbrev stores_of : Desktop → Stock
stores_of d = option_map_or (λ (r : Resident). r.peer.stores) (client_at 1 d) no_stores

-- wl_display.sync with the new callback 2
abbrev sync_2 : List ℕ
sync_2 = 1 ∷ 0 ∷ 0 ∷ 0 ∷ 0 ∷ 0 ∷ 12 ∷ 0 ∷ 2 ∷ 0 ∷ 0 ∷ 0 ∷ []

-- wl_callback.done and wl_display.delete_id for it
abbrev answer_2 : List ℕ
answer_2 = 2 ∷ 0 ∷ 0 ∷ 0 ∷ 0 ∷ 0 ∷ 12 ∷ 0 ∷ 0 ∷ 0 ∷ 0 ∷ 0 ∷ 1 ∷ 0 ∷ 0 ∷ 0 ∷ 1 ∷ 0 ∷ 12 ∷ 0 ∷ 2 ∷ 0 ∷ 0 ∷ 0 ∷ []

-- a sync is answered
pub row_sync : unsent 1 (fed 1 sync_2 fresh) ≡ answer_2
row_sync = refl

pub row_sync-lives : status 1 (fed 1 sync_2 fresh) ≡ None
row_sync-lives = refl

-- the same, cut in two anywhere: here in the middle of its header
pub row_sync-cut : unsent 1 (fed 1 (0 ∷ 12 ∷ 0 ∷ 2 ∷ 0 ∷ 0 ∷ 0 ∷ []) (fed 1 (1 ∷ 0 ∷ 0 ∷ 0 ∷ 0 ∷ []) fresh)) ≡ answer_2
row_sync-cut = refl

-- a header whose size isn't allowed
abbrev short_header : List ℕ
short_header = 1 ∷ 0 ∷ 0 ∷ 0 ∷ 0 ∷ 0 ∷ 4 ∷ 0 ∷ []

-- wl_display.error(1, 1, "invalid_method")
abbrev invalid_method : List ℕ
invalid_method =
    1 ∷ 0 ∷ 0 ∷ 0 ∷ 0 ∷ 0 ∷ 36 ∷ 0 ∷ 1 ∷ 0 ∷ 0 ∷ 0 ∷ 1 ∷ 0 ∷ 0 ∷ 0 ∷ 15 ∷ 0 ∷ 0 ∷ 0 ∷ 105 ∷ 110 ∷ 118 ∷ 97 ∷ 108 ∷ 105 ∷ 100 ∷ 95 ∷ 109 ∷ 101 ∷ 116
    ∷ 104 ∷ 111 ∷ 100 ∷ 0 ∷ 0 ∷ []

pub row_short_header-answer : unsent 1 (fed 1 short_header fresh) ≡ invalid_method
row_short_header-answer = refl

pub row_short_header-end : status 1 (fed 1 short_header fresh) ≡ Some (Protocol 1 1)
row_short_header-end = refl

-- wl_display.error(1, 0, "invalid_object")
abbrev invalid_object : List ℕ
invalid_object =
    1 ∷ 0 ∷ 0 ∷ 0 ∷ 0 ∷ 0 ∷ 36 ∷ 0 ∷ 1 ∷ 0 ∷ 0 ∷ 0 ∷ 0 ∷ 0 ∷ 0 ∷ 0 ∷ 15 ∷ 0 ∷ 0 ∷ 0 ∷ 105 ∷ 110 ∷ 118 ∷ 97 ∷ 108 ∷ 105 ∷ 100 ∷ 95 ∷ 111 ∷ 98 ∷ 106
    ∷ 101 ∷ 99 ∷ 116 ∷ 0 ∷ 0 ∷ []

-- a sync whose new id is in use, and one whose id is not a client's
abbrev sync_of : ℕ → ℕ → List ℕ
sync_of low high = 1 ∷ 0 ∷ 0 ∷ 0 ∷ 0 ∷ 0 ∷ 12 ∷ 0 ∷ low ∷ 0 ∷ 0 ∷ high ∷ []

pub row_id_in_use : unsent 1 (fed 1 (sync_of 1 0) fresh) ≡ invalid_object
row_id_in_use = refl

pub row_id_out_of_range : unsent 1 (fed 1 (sync_of 0 255) fresh) ≡ invalid_object
row_id_out_of_range = refl

-- a client that goes in the middle of a header has ended as gone, with nothing to be sent
pub row_gone : status 1 (happened (Leave 1) (fed 1 (1 ∷ 0 ∷ 0 ∷ 0 ∷ 0 ∷ 0 ∷ []) fresh)) ≡ Some Gone
row_gone = refl

pub row_gone-unsent : unsent 1 (fed 1 (1 ∷ 0 ∷ 0 ∷ 0 ∷ 0 ∷ 0 ∷ []) fresh) ≡ []
row_gone-unsent = refl

-- wl_display.get_registry with the new registry 2
abbrev get_registry : List ℕ
get_registry = 1 ∷ 0 ∷ 0 ∷ 0 ∷ 1 ∷ 0 ∷ 12 ∷ 0 ∷ 2 ∷ 0 ∷ 0 ∷ 0 ∷ []

-- the first global is wl_compositor, at version 4
abbrev global_1 : List ℕ
global_1 =
    2 ∷ 0 ∷ 0 ∷ 0 ∷ 0 ∷ 0 ∷ 36 ∷ 0 ∷ 1 ∷ 0 ∷ 0 ∷ 0 ∷ 14 ∷ 0 ∷ 0 ∷ 0 ∷ 119 ∷ 108 ∷ 95 ∷ 99 ∷ 111 ∷ 109 ∷ 112 ∷ 111 ∷ 115 ∷ 105 ∷ 116 ∷ 111 ∷ 114
    ∷ 0 ∷ 0 ∷ 0 ∷ 4 ∷ 0 ∷ 0 ∷ 0 ∷ []

pub row_global : take 36 (unsent 1 (fed 1 get_registry fresh)) ≡ global_1
row_global = refl

-- wl_registry.bind of the compositor at a version, as object 3
abbrev bind_at : ℕ → List ℕ
bind_at version =
    2 ∷ 0 ∷ 0 ∷ 0 ∷ 0 ∷ 0 ∷ 40 ∷ 0 ∷ 1 ∷ 0 ∷ 0 ∷ 0 ∷ 14 ∷ 0 ∷ 0 ∷ 0 ∷ 119 ∷ 108 ∷ 95 ∷ 99 ∷ 111 ∷ 109 ∷ 112 ∷ 111 ∷ 115 ∷ 105 ∷ 116 ∷ 111 ∷ 114
    ∷ 0 ∷ 0 ∷ 0 ∷ version ∷ 0 ∷ 0 ∷ 0 ∷ 3 ∷ 0 ∷ 0 ∷ 0 ∷ []

-- what a client that has bound at a version is
abbrev bound : ℕ → Desktop
bound version = fed 1 (bind_at version) (fed 1 get_registry fresh)

pub row_bound : held (bound 4) ≡ 3
row_bound = refl

-- no compositor has version 5 or 0
pub row_bound_high : status 1 (bound 5) ≡ Some (Protocol 1 0)
row_bound_high = refl

pub row_bound_low : status 1 (bound 0) ≡ Some (Protocol 1 0)
row_bound_low = refl

-- a sync with a word too many, and a message to an object that isn't there
pub row_long_sync : unsent 1 (fed 1 (1 ∷ 0 ∷ 0 ∷ 0 ∷ 0 ∷ 0 ∷ 16 ∷ 0 ∷ 2 ∷ 0 ∷ 0 ∷ 0 ∷ 0 ∷ 0 ∷ 0 ∷ 0 ∷ []) fresh) ≡ invalid_method
row_long_sync = refl

pub row_unknown : unsent 1 (fed 1 (7 ∷ 0 ∷ 0 ∷ 0 ∷ 0 ∷ 0 ∷ 12 ∷ 0 ∷ 2 ∷ 0 ∷ 0 ∷ 0 ∷ []) fresh) ≡ invalid_object
row_unknown = refl

-- wl_registry.bind of wl_shm, as object 4
abbrev bind_shm : List ℕ
bind_shm =
    2 ∷ 0 ∷ 0 ∷ 0 ∷ 0 ∷ 0 ∷ 32 ∷ 0 ∷ 3 ∷ 0 ∷ 0 ∷ 0 ∷ 7 ∷ 0 ∷ 0 ∷ 0 ∷ 119 ∷ 108 ∷ 95 ∷ 115 ∷ 104 ∷ 109 ∷ 0 ∷ 0 ∷ 1 ∷ 0 ∷ 0 ∷ 0 ∷ 4 ∷ 0 ∷ 0 ∷ 0 ∷ []

-- a client with the wl_shm 4 and a pool 9 of so many bytes
abbrev with_pool : ℕ → ℕ → Desktop
with_pool low high = fed 1 (4 ∷ 0 ∷ 0 ∷ 0 ∷ 0 ∷ 0 ∷ 16 ∷ 0 ∷ 9 ∷ 0 ∷ 0 ∷ 0 ∷ low ∷ high ∷ 0 ∷ 0 ∷ []) (fed 1 bind_shm (fed 1 get_registry fresh))

-- a pool has bytes
pub row_pool_of_no_bytes : status 1 (with_pool 0 0) ≡ Some (Protocol 4 1)
row_pool_of_no_bytes = refl

-- with a buffer 10 of 40 by 40 pixels, whose rows have 160 bytes
abbrev with_buffer : ℕ → ℕ → Desktop
with_buffer low high =
    fed 1 (9 ∷ 0 ∷ 0 ∷ 0 ∷ 0 ∷ 0 ∷ 32 ∷ 0 ∷ 10 ∷ 0 ∷ 0 ∷ 0 ∷ 0 ∷ 0 ∷ 0 ∷ 0 ∷ 40 ∷ 0 ∷ 0 ∷ 0 ∷ 40 ∷ 0 ∷ 0 ∷ 0 ∷ 160 ∷ 0 ∷ 0 ∷ 0 ∷ 1 ∷ 0 ∷ 0 ∷ 0 ∷ [])
    (with_pool low high)

-- it lies in 6,400 bytes, and not in 6,399
pub row_buffer : status 1 (with_buffer 0 25) ≡ None
row_buffer = refl

pub row_buffer_past_its_store : status 1 (with_buffer 255 24) ≡ Some (Protocol 9 1)
row_buffer_past_its_store = refl

-- wl_shm_pool.destroy of 9, and wl_buffer.destroy of 10
abbrev without_pool : Desktop
without_pool = fed 1 (9 ∷ 0 ∷ 0 ∷ 0 ∷ 1 ∷ 0 ∷ 8 ∷ 0 ∷ []) (with_buffer 0 25)

-- the store lives on while the buffer does
pub row_store_lives : size_of 1 (stores_of without_pool) ≡ 6400
row_store_lives = refl

pub row_store_goes : size_of 1 (stores_of (fed 1 (10 ∷ 0 ∷ 0 ∷ 0 ∷ 0 ∷ 0 ∷ 8 ∷ 0 ∷ []) without_pool)) ≡ 0
row_store_goes = refl

-- wl_registry.bind of xdg_wm_base at a version, as object 3, and its positioner 4
abbrev bind_base_at : ℕ → List ℕ
bind_base_at version =
    2 ∷ 0 ∷ 0 ∷ 0 ∷ 0 ∷ 0 ∷ 36 ∷ 0 ∷ 6 ∷ 0 ∷ 0 ∷ 0 ∷ 12 ∷ 0 ∷ 0 ∷ 0 ∷ 120 ∷ 100 ∷ 103 ∷ 95 ∷ 119 ∷ 109 ∷ 95 ∷ 98 ∷ 97 ∷ 115 ∷ 101 ∷ 0 ∷ version ∷ 0 ∷ 0 ∷ 0
    ∷ 3 ∷ 0 ∷ 0 ∷ 0 ∷ []

abbrev positioned : ℕ → Desktop
positioned version = fed 1 (3 ∷ 0 ∷ 0 ∷ 0 ∷ 1 ∷ 0 ∷ 12 ∷ 0 ∷ 4 ∷ 0 ∷ 0 ∷ 0 ∷ []) (fed 1 (bind_base_at version) (fed 1 get_registry fresh))

pub row_positioned : held (positioned 1) ≡ 4
row_positioned = refl

-- xdg_positioner.set_reactive came with version 3: at version 1 there is no such request
abbrev set_reactive : List ℕ
set_reactive = 4 ∷ 0 ∷ 0 ∷ 0 ∷ 7 ∷ 0 ∷ 8 ∷ 0 ∷ []

pub row_reactive_early : status 1 (fed 1 set_reactive (positioned 1)) ≡ Some (Protocol 1 1)
row_reactive_early = refl

pub row_reactive : status 1 (fed 1 set_reactive (positioned 3)) ≡ None
row_reactive = refl
