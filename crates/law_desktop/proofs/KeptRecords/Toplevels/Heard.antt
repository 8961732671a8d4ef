-- The frame callbacks of a client are wl_callbacks of its own, as objects come and go.
use Rattle.std.proofs.Common.{◌≡◌, ℕ, Bool, false, List, ◌∷◌, ◌++◌, Some, refl, ap, sym, ◌∙◌, []}
use Rattle.std.specs.Prelude.{◌==◌, filter}
use Rattle.std.proofs.lemmas.Bool.{eqb-true}
use Rattle.wl_proto.specs.declared.interface.Interface.TheVariants.{WlCallback}
use Rattle.spec_desktop.specs.Objects.{Objects, is_of, with_id}
use Rattle.spec_desktop.specs.Peer.{Peer, object_at_version}
use Rattle.wl_surface.specs.Waiting.{Callback}
use Rattle.law_desktop.specs.Apart.{AreObjects}
use Rattle.law_desktop.proofs.Soundness.ObjectsCalls.{all_removed, is_left, left-apart, removed-others}
use Rattle.law_desktop.proofs.Soundness.ObjectsHas.{has_callback}
use Rattle.law_desktop.proofs.Soundness.ObjectsKeys.{objects-new}
use Rattle.law_desktop.proofs.Lists.Keys.{apart-left}
use Rattle.law_desktop.proofs.Lists.Left.{any-there}

-- each is once there, and a wl_callback
abbrev pub AreHeard : List Callback → Objects → Type 0
AreHeard calls objects = AreObjects WlCallback objects (λ id callback. callback.id == id) calls

-- one more, with a new id
pub heard-more : (calls : List Callback) (objects : Objects) (number id version : ℕ) → is_of WlCallback (objects id) ≡ false → AreHeard calls objects
    → AreHeard (calls ++ record { number = number; id = id } ∷ []) (with_id id (Some (object_at_version WlCallback version)) objects)
heard-more calls objects number id version new heard =
    objects-new WlCallback has_callback objects id (object_at_version WlCallback version) calls (record { number = number; id = id }) new refl (λ key has. sym (eqb-true id key has)) heard

-- some go, with their objects
module _ (calls : List Callback) (peer : Peer) (which : Callback → Bool) (heard : AreHeard calls peer.objects) where
  abbrev pub left_of : Objects
  left_of = (all_removed (filter which calls) peer).objects

  pub heard-left : AreHeard (filter (is_left (filter which calls)) calls) left_of
  heard-left = (
    apart-left has_callback (is_left (filter which calls)) calls heard.0,
    λ id any.
        ap (is_of WlCallback) (removed-others (filter which calls) peer id (left-apart which calls id heard.0 any))
        ∙ heard.1 id (any-there (has_callback id) (is_left (filter which calls)) calls any),
  )
