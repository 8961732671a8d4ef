-- A link that is made leaves what each surface shows, and the frames that were asked of it.
use Rattle.std.proofs.Common.{◌≡◌, ℕ, ◌+◌, ◌≤◌, Bool, true, false, cond, List, length, Option, Some, None, map, arith, refl, ap, sym, subst, ◌∙◌, eq-eqb}
use Rattle.std.specs.Prelude.{◌==◌, ◌||◌, find, is_some, []}
use Rattle.std.specs.Option.{option_map}
use Rattle.wl_proto.specs.declared.interface.Interface.TheVariants.{WlSubsurface}
use Rattle.wl_client.specs.View.{ClientView}
use Rattle.wl_links.specs.Family.{Tied}
use Rattle.law_desktop.proofs.Lists.Keys.{any-found, found-any, found-map, found-passes}
use Rattle.law_desktop.specs.Ordered.{OwnsOrdered}
use Rattle.law_desktop.specs.Owning.{AreKept, by_number}
use Rattle.law_desktop.proofs.Keeping.OwningSurfaces.{surface-read}
use Rattle.spec_desktop.specs.Objects.{ById, is_of}
use Rattle.spec_desktop.specs.Desktop.{Resident, Subsurface}
use Rattle.spec_desktop.specs.Replies.{releases}
use Rattle.spec_desktop.specs.Step.{is_number}
use Rattle.law_desktop.proofs.KeptRecords.Toplevels.Releases.{none-released}
use Rattle.law_desktop.proofs.Truth.{there-some}
use Rattle.wl_surface.specs.Request.{AddChild, Request}
use Rattle.wl_surface.specs.State.{applied, committed, held, values}
use Rattle.wl_surface.specs.Surface.{Surface, asking, names, shows, with_role}
use Rattle.wl_surface.specs.declared.role.Role.TheVariants.{Subsurface as AsSubsurface}
use Rattle.wl_surface.proofs.Records.{applied-kept, held-kept}
use Rattle.wl_surface.proofs.Counting.{asked-still, counts-still}
use Rattle.wl_surface.specs.Slots.{Slots, StandsAt, kept_at}
use Rattle.wl_surface.specs.Surfaces.{Link, Surfaces, is_busy, link_at, surface_at}
use Rattle.wl_surface.specs.Trees.{linked}
use Rattle.wl_surface.specs.Waiting.{counted_at, frames_at}
use Rattle.wl_requests.proofs.Doing.{cut-bounds}

-- ---- of one surface

shows-asked : (number n : ℕ) (s : Surface) → s.history.cut ≤ committed s.history.requests → committed s.history.requests ≤ length s.history.requests
    → shows n (asking (AddChild number) s).history ≡ shows n s.history
shows-asked number n s cut within =
    ap (λ (rs : List Request). names n (values rs).buffer || names n (held (asking (AddChild number) s).history).buffer) (applied-kept s.history (AddChild number) cut within)
    ∙ ap (λ (rs : List Request). names n (applied s.history).buffer || names n (values rs).buffer) (held-kept s.history.requests (AddChild number) refl within)

module _ (number child parent : ℕ) where
  -- the child has its role
  abbrev given : Surface → Surface
  given s = cond (s.id == child) (with_role AsSubsurface s) s

  -- its parent is asked for it
  abbrev asked : Surface → Surface
  asked s = cond (s.id == parent) (asking (AddChild number) s) s

  given-id : (s : Surface) (b : Bool) → (cond b (with_role AsSubsurface s) s).id ≡ s.id
  given-id s true = refl
  given-id s false = refl

  asked-id : (s : Surface) (b : Bool) → (cond b (asking (AddChild number) s) s).id ≡ s.id
  asked-id s true = refl
  asked-id s false = refl

  abbrev made : Bool → Bool → Surface → Surface
  made b c s = cond c (asking (AddChild number) (cond b (with_role AsSubsurface s) s)) (cond b (with_role AsSubsurface s) s)

  made-frames : (s : Surface) (b c : Bool) → frames_at (Some (made b c s)) ≡ frames_at (Some s)
  made-frames s true true = asked-still (AddChild number) refl (Some s)
  made-frames s false true = asked-still (AddChild number) refl (Some s)
  made-frames s true false = refl
  made-frames s false false = refl

  made-shows : (n : ℕ) (s : Surface) → shows n (asking (AddChild number) s).history ≡ shows n s.history → (b c : Bool) → shows n (made b c s).history ≡ shows n s.history
  made-shows n s e true true = e
  made-shows n s e false true = e
  made-shows n s e true false = refl
  made-shows n s e false false = refl

  module _ (numbers : ById ℕ) (slots : Slots) (tied : Tied) (all : Surfaces) (is : AreKept numbers slots tied all) where
    made-counts : (n : ℕ) (s : Surface) → StandsAt (kept_at slots n) (Some s) → (b c : Bool) → counted_at (Some (made b c s)) ≡ counted_at (Some s)
    made-counts n s stands true true = counts-still (AddChild number) refl (kept_at slots n) (Some s) stands
    made-counts n s stands false true = counts-still (AddChild number) refl (kept_at slots n) (Some s) stands
    made-counts n s stands true false = refl
    made-counts n s stands false false = refl

    found-made : (p : ℕ → Bool) → find (λ (s : Surface). p s.id) (linked number child parent all).surfaces ≡ option_map asked (option_map given (find (λ (s : Surface). p s.id) all.surfaces))
    found-made p =
        found-map (λ (s : Surface). p s.id) asked (map given all.surfaces) (λ s. ap p (asked-id s (s.id == parent)))
        ∙ ap (option_map asked) (found-map (λ (s : Surface). p s.id) given all.surfaces (λ s. ap p (given-id s (s.id == child))))

    -- ---- of all surfaces

    pub linked-frames : (n : ℕ) → frames_at (by_number numbers (linked number child parent all) n) ≡ frames_at (by_number numbers all n)
    linked-frames n = ap frames_at (found-made (λ id. is_number n (numbers id))) ∙ at (by_number numbers all n)
      where
        at : (o : Option Surface) → frames_at (option_map asked (option_map given o)) ≡ frames_at o
        at None = refl
        at (Some s) = made-frames s (s.id == child) ((given s).id == parent)

    pub linked-counts : (n : ℕ) → counted_at (by_number numbers (linked number child parent all) n) ≡ counted_at (by_number numbers all n)
    linked-counts n = ap counted_at (found-made (λ id. is_number n (numbers id))) ∙ at (by_number numbers all n) (is.stand n)
      where
        at : (o : Option Surface) → StandsAt (kept_at slots n) o → counted_at (option_map asked (option_map given o)) ≡ counted_at o
        at None stands = refl
        at (Some s) stands = made-counts n s stands (s.id == child) ((given s).id == parent)

    -- each buffer that is busy stays so
    pub linked-busy : (n : ℕ) → is_busy n all ≡ true → is_busy n (linked number child parent all) ≡ true
    linked-busy n busy =
        let found = any-found (λ key (s : Surface). s.id == key) (λ s. shows n s.history) all.surfaces is.apart busy in
        let x = found.0 in
        let there : surface_at x.id all ≡ Some x = found.2 x.id (eq-eqb x.id x.id refl) in
        let its = there-some (numbers x.id) (is.numbered x.id ∙ ap is_some there) in
        let read : by_number numbers all its.0 ≡ Some x = surface-read numbers slots tied all is x.id its.0 its.1 ∙ there in
        let bounds = cut-bounds (kept_at slots its.0) x (subst (λ (o : Option Surface). StandsAt (kept_at slots its.0) o) read (is.stand its.0)) in
        found-any (λ s. s.id == x.id) (λ s. shows n s.history) (linked number child parent all).surfaces (asked (given x))
        (found-made (λ id. id == x.id) ∙ ap (λ o. option_map asked (option_map given o)) there)
        (made-shows n x (shows-asked number n x bounds.0 bounds.1) (x.id == child) ((given x).id == parent) ∙ found.1)

    pub linked-released : (old new : Resident) → old.owned.surfaces ≡ all → new.owned.surfaces ≡ linked number child parent all → releases old new ≡ []
    linked-released old new was now = none-released old new (λ n busy. ap (is_busy n) now ∙ linked-busy n (ap (is_busy n) (sym was) ∙ busy))

-- the request is counted after what left the client as it was
pub counted-only : (old mid new : ClientView) → mid ≡ old → new ≡ record mid { requests = new.requests } → new ≡ record old { requests = new.requests }
counted-only old mid new same only = only ∙ ap (λ (w : ClientView). record w { requests = new.requests }) same

-- ---- of a client whose surfaces are in order

-- the number of a request that comes is that of no link
pub new-number : (r : Resident) → OwnsOrdered r → link_at (r.peer.requests + 1) r.owned.surfaces ≡ None
new-number r orderly = at (link_at (r.peer.requests + 1) r.owned.surfaces) refl
  where
    at : (o : Option Link) → link_at (r.peer.requests + 1) r.owned.surfaces ≡ o → o ≡ None
    at None e = refl
    at (Some l) e = absurd (let early = orderly.order.early (r.peer.requests + 1) l e in omega (arith, early))

-- no wl_subsurface has an id that is free
pub new-subsurface : (r : Resident) → OwnsOrdered r → (id : ℕ) → r.peer.objects id ≡ None → find (λ s. s.id == id) r.subsurfaces ≡ None
new-subsurface r orderly id free = at (find (λ s. s.id == id) r.subsurfaces) refl
  where
    at : (o : Option Subsurface) → find (λ s. s.id == id) r.subsurfaces ≡ o → o ≡ None
    at None e = refl
    at (Some s) e =
        let any = found-any (λ s. s.id == id) (λ s. s.id == id) r.subsurfaces s e (found-passes (λ (s : Subsurface). s.id == id) r.subsurfaces s e) in
        absurd (let live = sym (ap (is_of WlSubsurface) free) ∙ orderly.order.known.subsurfaces.1 id any in cc)
