-- What is kept of a client agrees with a client of the plain desktop.
use Rattle.std.specs.Prelude.{◌≡◌, ℕ, length, min, List, Option, Some, None}
use Rattle.std.specs.Option.{option_map}
use Rattle.wl_geom.specs.Region.{Area, Change, Stands}
use Rattle.wl_client.specs.declared.outputs.Output.{Output as Kept}
use Rattle.spec_desktop.specs.Judgement.{Known}
use Rattle.spec_desktop.specs.Objects.{held_at, objects_in}
use Rattle.spec_desktop.specs.Peer.{Peer}
use Rattle.spec_desktop.specs.Told.{Output}
use Rattle.wl_client.specs.View.{ClientView}

abbrev pub output_of : Kept → Output
output_of output = record { width = output.width; height = output.height }

-- a region that is kept stands for a list of changes
abbrev pub IsRegion : Option Area → Option (List Change) → Type 0
IsRegion None None = Unit {0}
IsRegion (Some area) (Some changes) = Stands area changes
IsRegion None (Some changes) = ⊥
IsRegion (Some area) None = ⊥

-- requests are counted up to the greatest number that 64 bits hold
abbrev pub most_counted : ℕ
most_counted = 18446744073709551615

abbrev pub IsCount : ℕ → ℕ → Type 0
IsCount kept requests = kept ≡ min requests most_counted

-- what is kept of a client are its values, and each refusal of an event was acted upon
pub record IsPeer (v : ClientView) (p : Peer) : Type 0 where
  pub status : v.ended ≡ p.status
  pub «open» : v.refused ≡ None
  pub requests : IsCount v.requests p.requests
  pub objects : objects_in v.objects ≡ p.objects
  pub held : length v.objects ≡ p.held
  pub regions : (id : ℕ) → IsRegion (held_at v.regions id) (p.regions id)
  pub pools : held_at v.pools ≡ p.pools
  pub buffers : held_at v.buffers ≡ p.buffers
  pub positioners : held_at v.positioners ≡ p.positioners
  pub stores : v.stores ≡ p.stores
  pub serial : v.serial ≡ p.serial
  pub unsent : v.unsent ≡ p.unsent
  pub rest : v.rest ≡ p.rest
  pub output : output_of v.output ≡ p.output

-- what a judgement looks at, of what is kept
abbrev pub known_in : ClientView → Known
known_in v =
    record {
      objects = objects_in v.objects;
      held = length v.objects;
      changes = λ id. option_map (λ area. area.changes) (held_at v.regions id);
      pools = held_at v.pools;
      buffers = held_at v.buffers;
      stores = v.stores;
    }
