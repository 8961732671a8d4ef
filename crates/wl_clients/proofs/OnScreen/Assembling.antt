-- A message that touches a surface is served, from what its parts say.
use Rattle.std.proofs.Common.{◌≡◌, ℕ, ◌<◌, ◌≤◌, Bool, true, false, Option, Some, None, List, [], ◌++◌, refl, ap, sym, subst, ◌∙◌, inl, inr, ◌⊎◌, arith, eqb-true}
use Rattle.std.specs.Prelude.{is_some, length, pos, ◌+◌, ◌==◌, vec_capacity}
use Rattle.std.proofs.lemmas.Bool.{eqb-false}
use Rattle.std.proofs.lemmas.Int.{ints}
use Rattle.wl_wire.specs.Wire.{split_of}
use Rattle.wl_links.specs.Family.{links_in, parents_of, root_by}
use Rattle.wl_scene.specs.Marking.{AddsPoints}
use Rattle.wl_paint.specs.Damage.{Damaged}
use Rattle.spec_desktop.specs.declared.cause.Cause.{Cause}
use Rattle.spec_desktop.specs.Objects.{ById}
use Rattle.wl_scene.specs.Kept.{Stack}
use Rattle.wl_shell.specs.Agreement.{IsShell}
use Rattle.spec_desktop.specs.Stacking.{Owned}
use Rattle.spec_desktop.specs.Windows.{Owner}
use Rattle.wl_surface.specs.State.{History}
use Rattle.wl_surface.specs.Slots.{HasInputApplied, Numbered, StandForAll, count}
use Rattle.wl_surface.specs.declared.applied.Applied.{Applied}
use Rattle.spec_desktop.specs.Desktop.{Desktop, Resident, client_at, owned_in, owned_of, status_of}
use Rattle.spec_desktop.specs.Happens.{Serves}
use Rattle.spec_desktop.specs.Marks.{in_output}
use Rattle.spec_desktop.specs.Stacked.{all_windows}
use Rattle.spec_desktop.specs.Through.{ServesThrough}
use Rattle.wl_scene.specs.Repaint.{same_windows}
use Rattle.wl_scene.specs.StackedAgreement.{AreStacked}
use Rattle.law_desktop.specs.Shown.{ShownStand}
use Rattle.law_desktop.specs.Renaming.{has_surface}
use Rattle.law_desktop.specs.Ordered.{Ordered, OwnsOrdered}
use Rattle.wl_scene.specs.declared.stacked.Stacked.{Stacked}
use Rattle.law_desktop.specs.Changes.{HasTrees}
use Rattle.law_desktop.specs.Done.{IsMeant}
use Rattle.law_desktop.specs.Messages.{MessageChanges}
use Rattle.law_desktop.proofs.RootsOf.Messages.{messages-change}
use Rattle.law_desktop.proofs.RootsOf.Orders.{in-order-has-trees}
use Rattle.law_windows.specs.Runs.Demands.{ChangesNothing}
use Rattle.law_windows.proofs.OneToplevel.Demanded.{no-surface-comes}
use Rattle.wl_scene.specs.declared.tree_window.TreeWindow.{TreeWindow}
use Rattle.wl_shell.specs.Kept.{kept_of}
use Rattle.wl_requests.specs.declared.messages.Asked.{Asked}
use Rattle.wl_requests.specs.declared.residents.Placing.{Placing}
use Rattle.wl_requests.specs.declared.residents.Resident.{Resident as Kept}
use Rattle.wl_requests.specs.declared.residents.Stacking.{Stacking}
use Rattle.wl_requests.specs.declared.residents.Stacking.TheVariants as on
use Rattle.wl_requests.specs.Messages.{IsAsked, IsTouchOfAsked}
use Rattle.wl_requests.specs.Placing.{IsPlacingOf}
use Rattle.wl_requests.specs.Residents.{IsResident, KeepsNumbers, StacksFor, TakesSo}
use Rattle.wl_requests.specs.Touching.{IsTouched, Touch}
use Rattle.wl_clients.specs.declared.screen.screens.Screen.{Screen}
use Rattle.wl_clients.specs.Agreement.{IsSeat, with_numbers}
use Rattle.wl_clients.specs.Finding.{IsPlacedBy, found_by, parent_by, popup_in_shell}
use Rattle.wl_clients.specs.Laws.{MessageLaws}
use Rattle.wl_clients.specs.Marking.{MarksAtLeast, MarksMost, MarksThrough}
use Rattle.wl_clients.specs.Screens.{AreToldIf, FitIf, HasPlace, HasRoom, IsFollowed, IsRunHeldIf, IsSameScreen, IsTouchedBy, changes_in, restacked_if, run_kept, run_on, turned_if}
use Rattle.wl_clients.specs.Seats.{IsRestacked, IsSeated}
use Rattle.wl_clients.specs.Touching.{HitsStay}
use Rattle.wl_clients.specs.View.{Pile, owned_view, pile_of}
use Rattle.wl_clients.proofs.OnScreen.After.{HoldsAs}
use Rattle.wl_clients.proofs.OnScreen.Asked.{told-of}
use Rattle.wl_clients.proofs.OnScreen.Commits.{asked-touches, untouched-never}
use Rattle.wl_clients.proofs.OnScreen.Ended.{Taken}
use Rattle.wl_clients.proofs.OnScreen.Given.{HoldsGiven, TakesGiven, TakesGivenAs}
use Rattle.wl_clients.proofs.OnScreen.Gone.{WayLaws}
use Rattle.wl_clients.proofs.OnScreen.Inputs.{all-steady, done-takes}
use Rattle.wl_clients.proofs.OnScreen.Holding.{OrderLaws, holds-now, names-agree}
use Rattle.wl_clients.proofs.OnScreen.Lived.{led-seated, led-serves, led-through, shown-after, trees-after}
use Rattle.wl_clients.proofs.OnScreen.Living.{some-applied, top-applied}
use Rattle.wl_clients.proofs.OnScreen.Numbers as seat
use Rattle.wl_clients.proofs.OnScreen.Placing.{placed-so}
use Rattle.wl_clients.proofs.OnScreen.Renumbered.{renumbered, renumbered-since}
use Rattle.wl_clients.proofs.OnScreen.Apart.{same-numbers}
use Rattle.wl_clients.proofs.OnScreen.Serving.{IsTold, left-of, meant-of, stacks-of}
use Rattle.wl_clients.proofs.OnScreen.Serving as serving
use Rattle.wl_clients.proofs.OnScreen.Sitting.{IsSettled, numbers}
use Rattle.wl_clients.proofs.OnScreen.Taking.{served}
use Rattle.wl_clients.proofs.OnScreen.Turning.{TurnsRun}

-- ---- laws

pub ways : MessageLaws → WayLaws
ways laws = record {
  lead = laws.lead;
  ended = laws.ended;
  windows = laws.windows;
  least = laws.least;
  most = laws.most;
  twice = laws.twice;
  struck = laws.struck;
  between = laws.between;
}

pub orders : MessageLaws → OrderLaws
orders laws = record { order = laws.order; demands = laws.demands; rising = laws.rising }

-- ---- what is known before a message

-- What was prepared for it, with the toplevel that was found for the tree that it may change, and what it did.
pub record Asks {A : Type 0} (c : ℕ) (r : Resident) (d : Desktop) (old mid : Kept A) (was ready : Screen A) (asked : Asked)
    (placing : Placing) (surface root : ℕ) (found : Option ℕ) (stacking : Stacking) (applied : Option (Applied A)) : Type 0 where
  pub lives : old.client.ended ≡ None
  pub asks : IsAsked old.client asked
  pub by : IsTouchedBy old asked (Some surface)
  pub root_is : root ≡ root_by 16 (parents_of (links_in old.owned.surfaces.family)) surface
  pub top : links_in old.owned.surfaces.family root ≡ None
  pub found_is :
      (o : Owned) (histories : ℕ → Option History) → IsShell (kept_of old.owned.shell) histories o.shell
      → found ≡ found_by c root (parent_by o (popup_in_shell old.owned.shell root)) was.stacked.windows
  pub placed : IsPlacedBy was c old asked placing
  pub takes : TakesGiven asked placing c r d old mid stacking
  pub decides : (touch : Touch) → IsTouchOfAsked asked old touch → TakesGivenAs (is_some applied) asked placing c r d old mid
  pub touched_so : (touch : Touch) → IsTouchOfAsked asked old touch → IsTouched touch old.owned.surfaces mid.owned.surfaces applied
  pub holds : (touch : Touch) → IsTouchOfAsked asked old touch → is_some applied ≡ true → HoldsGiven asked placing c r d old mid
  pub nothing : ((touch : Touch) → IsTouchOfAsked asked old touch → ⊥) → applied ≡ None
  pub same : IsSameScreen was ready
  pub kept : is_some applied ≡ true → ready.spare.was.items ≡ run_kept c found was.stacked.windows
  pub room : is_some applied ≡ true → HasRoom (count old.owned.surfaces.states) ready
  pub empty : ready.spare.is.items ≡ []

within-output : (width height x y : ℕ) → x < width → y < height → in_output width height (pos x) (pos y) ≡ true
within-output width height x y w h = grind (arith, ints)

pub fits-so : (a b c d : ℕ) → a + b ≤ d → c ≤ b → a + c ≤ d
fits-so a b c d e f = omega (arith)

-- ---- a message was served

module _ {A : Type 0} (laws : MessageLaws) (c : ℕ) (others : ℕ → ById ℕ) (base d : Desktop) (r : Resident) (old mid : Kept A) (was ready : Screen A)
    (before : IsSeated c others base old (pile_of was) d r)
    (ordered : Ordered d) (asked : Asked) (placing : Placing) (surface root : ℕ) (found : Option ℕ) (stacking : Stacking) (applied : Option (Applied A))
    (a : Asks c r d old mid was ready asked placing surface root found stacking applied) (width : was.damage.width ≡ d.output.width) (height : was.damage.height ≡ d.output.height) where
  abbrev pile : Pile
  pile = pile_of was

  pub resident : IsResident old r
  resident = seat.resident c others base d r old pile before ordered a.lives

  pub alive : r.peer.status ≡ None
  alive = seat.alive c others base d r old pile before ordered a.lives

  pub owns : OwnsOrdered r
  owns = seat.owns c others base d r old pile before ordered a.lives

  pub trees : HasTrees d
  trees = in-order-has-trees d ordered.in_order before.mapped

  pub placed : IsPlacingOf placing asked c r d
  placed = placed-so c others base d r old was before trees placing width height asked a.asks a.placed

  pub answers : TakesSo (split_of r.peer.rest) c r d old mid stacking
  answers = a.takes resident owns placed

  pub touches : ((touch : Touch) × IsTouchOfAsked asked old touch) ⊎ ((touch : Touch) → IsTouchOfAsked asked old touch → ⊥)
  touches = asked-touches old (numbers old) r.subsurfaces before.seat.subsurfaces asked

  -- the toplevel that is found is that of what the client owns by numbers
  pub is-found : found ≡ found_by c root (parent_by (seat.its c others base d r old pile before) (popup_in_shell old.owned.shell root)) was.stacked.windows
  is-found = a.found_is (seat.its c others base d r old pile before) _ (seat.held c others base d r old pile before).shell

  -- It leads to a desktop with which what is left agrees.
  pub taken : (left : Kept A) (new : Screen A) → IsSettled mid.client.ended applied c stacking mid left was.scene new.scene
      → (m : Taken c others base d r left new) × ((touch : Touch) → IsTouchOfAsked asked old touch → m.was_done ≡ is_some applied)
  taken left new settled =
      served c others base d r asked placing stacking applied old mid left was new before ordered a.lives placed a.takes a.decides a.nothing touches
      (λ none id demanded maps. untouched-never old r asked (Some surface) resident owns a.asks a.by none id demanded) settled

  -- ---- its client lives on

  module _ (lives : mid.client.ended ≡ None) (new : Screen A) (f : IsFollowed c found mid stacking applied ready new) where
    pub is-applied : (touch : Touch) → IsTouchOfAsked asked old touch → is_some applied ≡ true
    is-applied = some-applied c r d old mid resident owns asked placing placed applied a.decides lives

    has-place : HasPlace stacking ready.scene (vec_capacity ready.spare.toplevels)
    has-place = at stacking refl
      where
        at : (s : Stacking) → stacking ≡ s → HasPlace s ready.scene (vec_capacity ready.spare.toplevels)
        at on.Stays e = tt
        at (on.Out n) e = tt
        at (on.ToTop n) e =
            (a.room
            (top-applied c r d old mid resident owns asked placing placed applied a.decides lives touches
            (λ none id demanded maps. untouched-never old r asked (Some surface) resident owns a.asks a.by none id demanded) stacking a.takes n e)).place

    done : IsRestacked c stacking was.scene new.scene
    done = subst (λ (s : Stack). IsRestacked c stacking s new.scene) a.same.scene (f.scene has-place)

    settled : IsSettled mid.client.ended applied c stacking mid mid was.scene new.scene
    settled = subst (λ (o : Option Cause). IsSettled o applied c stacking mid mid was.scene new.scene) (sym lives) (refl, done)

    m : Taken c others base d r mid new
    m = (taken mid new settled).0

    filled : is_some applied ≡ true → (o : Owned) (owner : Owner) → IsRunHeldIf c mid found new.scene.standing o
        → length (run_on c owner o found new.scene.standing) ≤ count old.owned.surfaces.states → new.spare.is.items ≡ run_on c owner o found new.scene.standing
    filled some o owner held fits =
        f.told o owner held (fits-so _ _ _ _ (a.room some).run fits) ∙ ap (λ (ws : List TreeWindow). ws ++ run_on c owner o found new.scene.standing) a.empty

    keeps : KeepsNumbers old.client.objects mid.client.objects
    keeps = (left-of (split_of r.peer.rest) c r d old mid stacking answers).2.numbers lives

    -- ---- any desktop to which it leads

    module _ (e : Desktop) (s : Resident) (serves : Serves c d e) (there : client_at c e ≡ Some s) (seated : IsSeat mid.client (owned_view mid) s) (after : HasTrees e)
        (shown : ShownStand e) where
      status-e : s.peer.status ≡ None
      status-e = sym seated.peer.status ∙ lives

      message : MessageChanges c r d e
      message =
          messages-change c r d e ordered.in_order before.mapped before.based.there serves (ap (λ (o : Option Resident). status_of o) there ∙ status-e)

      stacks : StacksFor old r message.demand stacking
      stacks = stacks-of (split_of r.peer.rest) c r d old mid stacking message.demand answers message.demanded

      meant : IsMeant message.demand r
      meant = meant-of (split_of r.peer.rest) r message.demand owns message.demanded

      told : IsTold c old r d message.demand message.peer surface stacking applied
      told = told-of old mid r message.peer c d resident owns asked a.asks surface a.by message.demand message.demanded stacking stacks applied a.touched_so is-applied

      comes : (id : ℕ) → has_surface id (owned_in e c).surfaces ≡ true → has_surface id (owned_in d c).surfaces ≡ true
      comes = no-surface-comes c told.id r message.peer message.demand d e before.based.there message.done told.touches

      owned-e : owned_in e c ≡ s.owned
      owned-e = ap owned_of there

      order-e : OwnsOrdered s
      order-e = (laws.messages c d e ordered serves).each c s there status-e

      holds : HoldsAs (seat.named_by mid) mid (owned_in e c)
      holds = holds-now (orders laws) c old mid r s d e seated.owns order-e (seat.owned-here c others base d r old pile before) owned-e

      agree : (id : ℕ) → has_surface id (owned_in e c).surfaces ≡ true → seat.named_by mid id ≡ seat.named_by old id
      agree = names-agree (orders laws) c old mid r s d e seated.owns order-e (seat.owned-here c others base d r old pile before) owned-e before.seat.owns keeps comes

      -- ---- what is marked

      points : AreToldIf found stacking ready.spare.was.items new.spare.is.items
          → AddsPoints (turned_if found stacking (run_kept c found was.stacked.windows) ready.spare.was.items new.spare.is.items (changes_in applied)) was.damage new.damage
      points told_so =
          subst (λ (m : Damaged). AddsPoints (turned_if found stacking (run_kept c found was.stacked.windows) ready.spare.was.items new.spare.is.items (changes_in applied)) m new.damage) a.same.damage
          (subst (λ (ws : List Stacked). AddsPoints (turned_if found stacking (run_kept c found ws) ready.spare.was.items new.spare.is.items (changes_in applied)) ready.damage new.damage) a.same.windows
          (f.points told_so))

      pub lives-least : MarksAtLeast d e was.damage new.damage
      lives-least =
          serving.marks-least laws.between c others base d r old mid pile before trees owns message.demand message.peer e meant message.done after shown stacking stacks applied surface root told
          a.root_is a.top (seat.named_by mid) (λ some. holds) agree found is-found new.scene (λ some. done) new.spare.is.items filled ready.spare.was.items a.kept was.damage new.damage points

      pub lives-most : MarksMost d e was.damage new.damage
      lives-most =
          serving.marks-most laws.between c others base d r old mid pile before trees owns message.demand message.peer e meant message.done after shown stacking stacks applied surface root told
          a.root_is a.top (seat.named_by mid) (λ some. holds) agree found is-found new.scene (λ some. done) new.spare.is.items filled ready.spare.was.items a.kept was.damage new.damage points
          (λ x y wide high. within-output d.output.width d.output.height x y (subst (λ (n : ℕ). x < n) width wide) (subst (λ (n : ℕ). y < n) height high))

      -- ---- what points hit

      lives-hits : is_some applied ≡ true → same_windows ready.spare.was.items new.spare.is.items ≡ true
          → ((all : Numbered) → StandForAll old.owned.surfaces.states all → (number : ℕ) → HasInputApplied (all number)) → HitsStay d e
      lives-hits some same fresh =
          serving.hits laws.between c others base d r old mid pile before trees owns message.demand message.peer e meant message.done after shown stacking stacks applied surface root told
          a.root_is a.top (seat.named_by mid) (λ some. holds) agree found is-found new.scene (λ some. done) new.spare.is.items filled ready.spare.was.items a.kept was.damage new.damage points
          some same
          (done-takes c message.demand message.peer r d e told.id told.touches (seat.owned-here c others base d r old pile before) message.done.own
          (all-steady (numbers old) old.owned.surfaces.states old.owned.surfaces.family r.owned.surfaces before.seat.owns.surfaces fresh))

      -- ---- the windows

      abbrev nums : ℕ → ById ℕ
      nums = with_numbers c (numbers old) others

      abbrev news : ℕ → ById ℕ
      news = with_numbers c (numbers mid) others

      same : (n id : ℕ) → has_surface id (owned_in d n).surfaces ≡ true → has_surface id (owned_in e n).surfaces ≡ true → news n id ≡ nums n id
      same = same-numbers c others base d r old mid was before keeps e s there seated

      had : (n id : ℕ) → has_surface id (owned_in e n).surfaces ≡ true → has_surface id (owned_in d n).surfaces ≡ true
      had n id is = at (n == c) refl
        where
          at : (b : Bool) → (n == c) ≡ b → has_surface id (owned_in d n).surfaces ≡ true
          at true here =
              subst (λ (m : ℕ). has_surface id (owned_in d m).surfaces ≡ true) (sym (eqb-true n c here))
              (comes id (subst (λ (m : ℕ). has_surface id (owned_in e m).surfaces ≡ true) (eqb-true n c here) is))
          at false other = subst (λ (o : Owned). has_surface id o.surfaces ≡ true) (message.done.others n (eqb-false n c other)) is

      abbrev Run : Type 0
      Run = TurnsRun c (nums c) (seat.named_by old) told.list
          (serving.own_root laws.between c others base d r old mid pile before trees owns message.demand message.peer e meant message.done after shown stacking stacks applied surface root told
          a.root_is a.top (seat.named_by mid) (λ some. holds) agree found is-found new.scene (λ some. done) new.spare.is.items filled) found d e

      fits : Run → FitIf found stacking (length new.spare.is.items) ready.stacked.room
      fits t = at found stacking refl
        where
          room : ((n : ℕ) → stacking ≡ on.Out n → ⊥) → length new.spare.is.items ≤ ready.stacked.room
          room never =
              serving.told-fit laws.between c others base d r old mid pile before trees owns message.demand message.peer e meant message.done after shown stacking stacks applied surface root told
              a.root_is a.top (seat.named_by mid) (λ some. holds) agree found is-found new.scene (λ some. done) new.spare.is.items filled ready.stacked.room (λ some. (a.room some).stack) never t

          stays-out : (n : ℕ) → on.Stays ≡ on.Out n → ⊥
          stays-out n e = absurd (cc)

          top-out : (k n : ℕ) → on.ToTop k ≡ on.Out n → ⊥
          top-out k n e = absurd (cc)

          at : (o : Option ℕ) (x : Stacking) → stacking ≡ x → FitIf o x (length new.spare.is.items) ready.stacked.room
          at None x is = tt
          at (Some k) (on.Out n) is = tt
          at (Some k) on.Stays is = room (λ n out. stays-out n (sym is ∙ out))
          at (Some k) (on.ToTop top) is = room (λ n out. top-out top n (sym is ∙ out))

      windows-are : FitIf found stacking (length new.spare.is.items) ready.stacked.room → new.stacked.windows ≡ restacked_if c found stacking new.spare.is.items was.stacked.windows
      windows-are fit = f.windows fit ∙ ap (λ (ws : List Stacked). restacked_if c found stacking new.spare.is.items ws) a.same.windows

      lives-windows : AreStacked news new.stacked.windows (all_windows e)
      lives-windows =
          at
          (serving.turned laws.between c others base d r old mid pile before trees owns message.demand message.peer e meant message.done after shown stacking stacks applied surface root told
          a.root_is a.top (seat.named_by mid) (λ some. holds) agree found is-found new.scene (λ some. done) new.spare.is.items filled)
        where
          none-fits : found ≡ None → FitIf found stacking (length new.spare.is.items) ready.stacked.room
          none-fits none = subst (λ (o : Option ℕ). FitIf o stacking (length new.spare.is.items) ready.stacked.room) (sym none) tt

          at : ((found ≡ None) × ChangesNothing d e) ⊎ Run → AreStacked news new.stacked.windows (all_windows e)
          at (inl h) =
              subst (λ (ws : List Stacked). AreStacked news ws (all_windows e))
              (sym (windows-are (none-fits h.0) ∙ ap (λ (o : Option ℕ). restacked_if c o stacking new.spare.is.items was.stacked.windows) h.0))
              (renumbered-since nums news was.stacked.windows d e trees after h.1.stays.windows same before.windows)
          at (inr t) =
              subst (λ (ws : List Stacked). AreStacked news ws (all_windows e)) (sym (windows-are (fits t)))
              (renumbered nums news (restacked_if c found stacking new.spare.is.items was.stacked.windows) e after (λ n id is. same n id (had n id is) is)
              (serving.run-restacked laws.between c others base d r old mid pile before trees owns message.demand message.peer e meant message.done after shown stacking stacks applied surface root
              told a.root_is a.top (seat.named_by mid) (λ some. holds) agree found is-found new.scene (λ some. done) new.spare.is.items filled t))

    -- ---- what the clauses say

    -- where the windows are told to be the same, and each surface has the input region applied that was set last
    pub live-hits : is_some applied ≡ true → same_windows ready.spare.was.items new.spare.is.items ≡ true
        → ((all : Numbered) → StandForAll old.owned.surfaces.states all → (number : ℕ) → HasInputApplied (all number))
        → (e : Desktop) (q : Resident) → Serves c d e → client_at c e ≡ Some q → IsSeat mid.client (owned_view mid) q → HitsStay d e
    live-hits some same fresh e q serves there seated =
        lives-hits e q serves there seated (trees-after (ways laws) c others base d r old mid was new before ordered alive lives e serves)
        (shown-after (ways laws) c others base d r old mid was new before ordered alive lives e serves) some same fresh

    pub live-least : (e : Desktop) (q : Resident) → Serves c d e → IsSeated c others base mid (pile_of new) e q → MarksAtLeast d e was.damage new.damage
    live-least e q serves after =
        lives-least e q serves after.based.there after.seat (trees-after (ways laws) c others base d r old mid was new before ordered alive lives e serves) after.mapped

    pub live-most : (e : Desktop) (q : Resident) → Serves c d e → IsSeated c others base mid (pile_of new) e q → MarksMost d e was.damage new.damage
    live-most e q serves after =
        lives-most e q serves after.based.there after.seat (trees-after (ways laws) c others base d r old mid was new before ordered alive lives e serves) after.mapped

    led : Serves c d m.after
    led = led-serves (ways laws) c others base d r old mid was new before ordered alive lives m

    trees-m : HasTrees m.after
    trees-m = trees-after (ways laws) c others base d r old mid was new before ordered alive lives m.after led

    shown-m : ShownStand m.after
    shown-m = shown-after (ways laws) c others base d r old mid was new before ordered alive lives m.after led

    led-windows : AreStacked (with_numbers c (numbers mid) others) new.stacked.windows (all_windows m.after)
    led-windows = lives-windows m.after m.resident led m.sits.based.there m.sits.seat trees-m shown-m

    pub live-seated : (e : Desktop) × (q : Resident) × Serves c d e × IsSeated c others base mid (pile_of new) e q
    live-seated = led-seated (ways laws) c others base d r old mid was new before ordered alive lives m led-windows

    pub live-through : (e : Desktop) × (q : Resident) × (path : List Desktop) × ServesThrough c d path e × IsSeated c others base mid (pile_of new) e q
        × MarksThrough d path was.damage new.damage
    live-through =
        led-through (ways laws) c others base d r old mid was new before ordered alive lives m led-windows
        (lives-least m.after m.resident led m.sits.based.there m.sits.seat trees-m shown-m) (lives-most m.after m.resident led m.sits.based.there m.sits.seat trees-m shown-m)
