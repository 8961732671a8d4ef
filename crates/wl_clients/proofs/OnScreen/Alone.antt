-- A message that touches no tree of surfaces is served, from what its parts say.
use Rattle.std.proofs.Common.{◌≡◌, ℕ, ◌<◌, List, Option, None, Some, refl, ap, sym, subst, ◌∙◌, inl, inr}
use Rattle.std.proofs.lemmas.Bool.{true≢false}
use Rattle.std.proofs.lemmas.Option.{none-some}
use Rattle.std.specs.Prelude.{is_some, pos, true, ◌||◌}
use Rattle.wl_wire.specs.Wire.{split_of}
use Rattle.wl_links.specs.declared.link.Link.{Link}
use Rattle.law_desktop.specs.Ordered.{Ordered, OwnsOrdered}
use Rattle.wl_paint.specs.Damage.{has}
use Rattle.spec_desktop.specs.declared.cause.Cause.{Cause}
use Rattle.spec_desktop.specs.Objects.{ById}
use Rattle.spec_desktop.specs.Demand.{Demand}
use Rattle.law_desktop.specs.Subsurfaces.{AreOfSurfaces}
use Rattle.spec_desktop.specs.Desktop.{Desktop, Resident, Subsurface, status_in}
use Rattle.spec_desktop.specs.Happens.{Serves}
use Rattle.spec_desktop.specs.Through.{ServesThrough}
use Rattle.wl_proto.specs.declared.wl_subsurface.WlSubsurfaceRequest.TheVariants as subsurface
use Rattle.wl_proto.specs.declared.wl_surface.WlSurfaceRequest.TheVariants as surface
use Rattle.wl_proto.specs.declared.xdg_popup.XdgPopupRequest.TheVariants as popup
use Rattle.wl_requests.specs.declared.messages.Asked.{Asked}
use Rattle.wl_requests.specs.declared.messages.Asked.TheVariants as asked
use Rattle.wl_requests.specs.declared.messages.Kind.{Kind}
use Rattle.wl_requests.specs.declared.messages.Kind.TheVariants as kind
use Rattle.wl_requests.specs.declared.residents.Placing.{Placing}
use Rattle.wl_requests.specs.declared.residents.Resident.{Resident as Kept}
use Rattle.wl_requests.specs.declared.residents.Stacking.{Stacking}
use Rattle.wl_requests.specs.Linking.{IsChildOf}
use Rattle.wl_requests.specs.Messages.{IsAsked, IsTouchOf, IsTouchOfAsked}
use Rattle.wl_requests.specs.Placing.{IsPlacingOf}
use Rattle.wl_requests.specs.Residents.{IsResident, KeepsNumbers, TakesSo}
use Rattle.wl_requests.specs.Touching.{Touch}
use Rattle.wl_surface.specs.declared.applied.Applied.{Applied}
use Rattle.law_desktop.specs.Done.{touched_by}
use Rattle.law_desktop.specs.Messages.{IsDemanded, MessageChanges}
use Rattle.law_desktop.specs.StackedWith.{ChangesAt}
use Rattle.law_desktop.proofs.RootsOf.Messages.{messages-change}
use Rattle.wl_clients.specs.declared.screen.screens.Screen.{Screen}
use Rattle.wl_clients.specs.Finding.{IsPlacedBy}
use Rattle.wl_clients.specs.Laws.{MessageLaws}
use Rattle.wl_clients.specs.Marking.{MarksAtLeast, MarksMost, MarksThrough}
use Rattle.wl_clients.specs.Screens.{IsTouchedBy, IsTouchedIn, has_own}
use Rattle.wl_clients.specs.Seats.{IsClearedBy, IsRestacked, IsSeated}
use Rattle.wl_clients.specs.Touching.{HitsStay}
use Rattle.wl_clients.specs.View.{pile_of}
use Rattle.wl_clients.proofs.OnScreen.Apart.{settled-least, settled-most, settled-seated, settled-through}
use Rattle.wl_clients.proofs.OnScreen.Assembling.{ways}
use Rattle.wl_clients.proofs.OnScreen.Commits.{asked-touches, untouched-never}
use Rattle.wl_clients.proofs.OnScreen.Ended.{Taken}
use Rattle.wl_clients.proofs.OnScreen.Given.{TakesGiven, TakesGivenAs}
use Rattle.wl_clients.proofs.OnScreen.Hits.{windows-stay}
use Rattle.wl_clients.proofs.OnScreen.Living.{stays-apart}
use Rattle.wl_clients.proofs.OnScreen.Numbers as seat
use Rattle.wl_clients.proofs.OnScreen.Placing.{placed-so}
use Rattle.wl_clients.proofs.OnScreen.Serving.{left-of}
use Rattle.wl_clients.proofs.OnScreen.Sitting.{IsRestackedIf, IsSettled, numbers}
use Rattle.wl_clients.proofs.OnScreen.Standings.{whole-so}
use Rattle.wl_clients.proofs.OnScreen.Taking.{served}
use Rattle.wl_clients.proofs.OnScreen.Touches.{IsTouchNamed, touch-named}

-- ---- nothing is applied

-- of a wl_subsurface whose link is gone there is no such child
childless : {A : Type 0} (v : Kept A) (numbers : ById ℕ) (subsurfaces : List Subsurface) → AreOfSurfaces v.subsurfaces numbers subsurfaces → (object child : ℕ) → IsChildOf v object None
    → IsChildOf v object (Some child) → ⊥
childless v numbers subsurfaces are object child gone there =
    true≢false (sym there.1 ∙ ap (λ (o : Option Link). is_some o) (gone numbers subsurfaces are child there.0))

untouched-kind : {A : Type 0} (v : Kept A) (numbers : ById ℕ) (subsurfaces : List Subsurface) → AreOfSurfaces v.subsurfaces numbers subsurfaces → (k : Kind) (object target : ℕ) (touch : Touch)
    → IsTouchedIn v object target k None → IsTouchOf k object target v touch → ⊥
untouched-kind v numbers subsurfaces are (kind.Surface surface.Commit) object target touch none it = none-some target none
untouched-kind v numbers subsurfaces are (kind.Surface surface.Destroy) object target touch none it = none-some target none
untouched-kind v numbers subsurfaces are (kind.Popup popup.Destroy) object target touch none it = none-some target none
untouched-kind v numbers subsurfaces are (kind.Subsurface subsurface.Destroy) object target touch none it = childless v numbers subsurfaces are object it.0 none it.1.0
untouched-kind v numbers subsurfaces are (kind.Subsurface subsurface.SetDesync) object target touch none it = childless v numbers subsurfaces are object it.0 none it.1.0
untouched-kind v numbers subsurfaces are k object target touch none it = it

never-touched : {A : Type 0} (v : Kept A) (numbers : ById ℕ) (subsurfaces : List Subsurface) → AreOfSurfaces v.subsurfaces numbers subsurfaces → (a : Asked) (touch : Touch) → IsTouchedBy v a None
    → IsTouchOfAsked a v touch → ⊥
never-touched v numbers subsurfaces are (asked.Request object version size target k) touch none it = untouched-kind v numbers subsurfaces are k object target touch none it
never-touched v numbers subsurfaces are a touch none it = it

pub unapplied : {A : Type 0} (v : Kept A) (asked : Asked) (applied : Option (Applied A)) → IsTouchedBy v asked None
    → (((touch : Touch) → IsTouchOfAsked asked v touch → ⊥) → (numbers : ById ℕ) (subsurfaces : List Subsurface) → AreOfSurfaces v.subsurfaces numbers subsurfaces → applied ≡ None)
    → (numbers : ById ℕ) (subsurfaces : List Subsurface) → AreOfSurfaces v.subsurfaces numbers subsurfaces → applied ≡ None
unapplied v asked applied by nothing numbers subsurfaces are = nothing (λ touch it. never-touched v numbers subsurfaces are asked touch by it) numbers subsurfaces are

-- ---- what was done

-- What the message did, and what is left of it where nothing was touched.
pub record Alone {A : Type 0} (c : ℕ) (r : Resident) (d : Desktop) (old mid left : Kept A) (was new : Screen A)
    (asked : Asked) (placing : Placing) (stacking : Stacking) (applied : Option (Applied A)) : Type 0 where
  pub lives : old.client.ended ≡ None
  pub asks : IsAsked old.client asked
  pub by : IsTouchedBy old asked None
  pub placed : IsPlacedBy was c old asked placing
  pub takes : TakesGiven asked placing c r d old mid stacking
  pub decides : (touch : Touch) → IsTouchOfAsked asked old touch → TakesGivenAs (is_some applied) asked placing c r d old mid
  pub none : applied ≡ None
  pub clears : IsClearedBy mid.client.ended c mid left (pile_of was) (pile_of new)
  pub points : is_some mid.client.ended ≡ true → (x y : ℕ) → x < was.damage.width → y < was.damage.height
      → has new.damage x y ≡ (has was.damage x y || has_own c (pos x) (pos y) was.stacked.windows)
  pub same : mid.client.ended ≡ None → (left ≡ mid) × (new ≡ was)

module _ {A : Type 0} (laws : MessageLaws) (c : ℕ) (others : ℕ → ById ℕ) (base d : Desktop) (r : Resident) (old mid left : Kept A) (was new : Screen A)
    (before : IsSeated c others base old (pile_of was) d r)
    (ordered : Ordered d) (asked : Asked) (placing : Placing) (stacking : Stacking) (applied : Option (Applied A)) (a : Alone c r d old mid left was new asked placing stacking applied)
    (width : was.damage.width ≡ d.output.width) (height : was.damage.height ≡ d.output.height) where
  resident : IsResident old r
  resident = seat.resident c others base d r old (pile_of was) before ordered a.lives

  alive : r.peer.status ≡ None
  alive = seat.alive c others base d r old (pile_of was) before ordered a.lives

  owns : OwnsOrdered r
  owns = seat.owns c others base d r old (pile_of was) before ordered a.lives

  placed : IsPlacingOf placing asked c r d
  placed = placed-so c others base d r old was before (whole-so d ordered before.mapped).trees placing width height asked a.asks a.placed

  answers : TakesSo (split_of r.peer.rest) c r d old mid stacking
  answers = a.takes resident owns placed

  untouched : (demand : Demand) → IsDemanded (split_of r.peer.rest) r demand → touched_by demand r ≡ None
  untouched demand demanded = at (touch-named old r asked demand None resident owns a.asks demanded a.by)
    where
      at : IsTouchNamed old r demand None → touched_by demand r ≡ None
      at (inl h) = h.0
      at (inr h) = absurd (none-some h.1 h.3)

  -- no toplevel is stacked otherwise
  stays : mid.client.ended ≡ None → IsRestacked c stacking was.scene new.scene
  stays none =
      subst (λ (s : Stacking). IsRestacked c s was.scene new.scene)
      (sym (stays-apart c r d old mid resident owns asked placing placed applied a.decides none stacking a.takes untouched)) (ap (λ (s : Screen A). s.scene) (a.same none).1)

  stack-kept : IsRestackedIf applied c stacking was.scene was.scene
  stack-kept = subst (λ (o : Option (Applied A)). IsRestackedIf o c stacking was.scene was.scene) (sym a.none) refl

  settled : IsSettled mid.client.ended applied c stacking mid left was.scene new.scene
  settled = at mid.client.ended refl a.clears
    where
      at : (o : Option Cause) → mid.client.ended ≡ o → IsClearedBy o c mid left (pile_of was) (pile_of new) → IsSettled o applied c stacking mid left was.scene new.scene
      at None none clears = (clears.0, stays none)
      at (Some cause) over clears = (was.scene, stack-kept, clears.0, clears.1, clears.2, clears.3, clears.4)

  m : Taken c others base d r left new
  m =
      (served c others base d r asked placing stacking applied old mid left was new before ordered a.lives placed a.takes a.decides (λ none. a.none)
      (asked-touches old (numbers old) r.subsurfaces before.seat.subsurfaces asked)
      (λ none id demanded maps. untouched-never old r asked None resident owns a.asks a.by none id demanded) settled).0

  keeps : mid.client.ended ≡ None → KeepsNumbers old.client.objects mid.client.objects
  keeps none = (left-of (split_of r.peer.rest) c r d old mid stacking answers).2.numbers none

  -- each point hits what it hit
  pub alone-hits : (e : Desktop) → Serves c d e → status_in c e ≡ None → HitsStay d e
  alone-hits e serves status =
      let m : MessageChanges c r d e = messages-change c r d e ordered.in_order before.mapped before.based.there serves status in
      windows-stay d e (subst (λ (id : Option ℕ). ChangesAt id c d e) (untouched m.demand m.demanded) m.changes).windows

  pub alone-seated : (e : Desktop) × (q : Resident) × Serves c d e × IsSeated c others base left (pile_of new) e q
  alone-seated = settled-seated (ways laws) c others base d r old mid left was new before ordered alive untouched a.clears a.points a.same m keeps

  pub alone-least : (e : Desktop) (q : Resident) → Serves c d e → IsSeated c others base left (pile_of new) e q → MarksAtLeast d e was.damage new.damage
  alone-least = settled-least (ways laws) c others base d r old mid left was new before ordered alive untouched a.clears a.points a.same

  pub alone-most : (e : Desktop) (q : Resident) → Serves c d e → IsSeated c others base left (pile_of new) e q → status_in c e ≡ None → MarksMost d e was.damage new.damage
  alone-most = settled-most (ways laws) c others base d r old mid left was new before ordered alive untouched a.clears a.points a.same

  pub alone-through : (e : Desktop) × (q : Resident) × (path : List Desktop) × ServesThrough c d path e × IsSeated c others base left (pile_of new) e q
      × MarksThrough d path was.damage new.damage
  alone-through = settled-through (ways laws) c others base d r old mid left was new before ordered alive untouched a.clears a.points a.same m keeps width height
