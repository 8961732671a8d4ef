-- A message that touches no tree of surfaces: the toplevels and their windows stay as they are, unless its client ended.
use Rattle.std.proofs.Common.{◌≡◌, ℕ, ◌<◌, Bool, true, false, cond, List, [], Option, None, Some, eqb-true, refl, ap, sym, subst, ◌∙◌, inl}
use Rattle.std.specs.Prelude.{is_some, pos, ◌||◌, ◌==◌}
use Rattle.std.proofs.lemmas.Bool.{or_left, true≢false}
use Rattle.wl_wire.specs.Wire.{split_of}
use Rattle.wl_scene.specs.StackedAgreement.{AreStacked}
use Rattle.law_desktop.specs.Renaming.{has_surface}
use Rattle.wl_paint.specs.Damage.{Damaged, has}
use Rattle.spec_desktop.specs.declared.cause.Cause.{Cause}
use Rattle.spec_desktop.specs.Objects.{ById}
use Rattle.spec_desktop.specs.Demand.{Demand}
use Rattle.spec_desktop.specs.Desktop.{Desktop, Resident, client_at, owned_in, owned_of, status_in}
use Rattle.spec_desktop.specs.Happens.{Serves}
use Rattle.spec_desktop.specs.Stacked.{all_windows}
use Rattle.spec_desktop.specs.Through.{ServesThrough}
use Rattle.law_desktop.specs.Ordered.{Ordered}
use Rattle.wl_requests.specs.Residents.{KeepsNumbers}
use Rattle.wl_requests.specs.declared.residents.Resident.{Resident as Kept}
use Rattle.law_windows.proofs.OneToplevel.Demanded.{nothing-is-marked, touches-nothing}
use Rattle.spec_desktop.specs.Stacking.{Owned}
use Rattle.law_desktop.specs.Changes.{StaysPainted}
use Rattle.law_desktop.specs.Done.{touched_by}
use Rattle.law_desktop.specs.Messages.{IsDemanded, MessageChanges}
use Rattle.law_desktop.specs.StackedWith.{ChangesAt}
use Rattle.law_desktop.proofs.RootsOf.Messages.{messages-change}
use Rattle.law_desktop.specs.Ways.{Struck}
use Rattle.wl_clients.specs.declared.screen.screens.Screen.{Screen}
use Rattle.wl_clients.specs.Agreement.{IsSeat, with_numbers}
use Rattle.wl_clients.specs.Marking.{MarksAtLeast, MarksMost, MarksThrough}
use Rattle.wl_clients.specs.Screens.{has_own}
use Rattle.wl_clients.specs.Seats.{IsClearedBy, IsSeated}
use Rattle.wl_clients.specs.View.{owned_view, pile_of}
use Rattle.wl_clients.proofs.OnScreen.Ended.{Ending, Taken, TellsEnd, ended-least, ended-on, ended-seated, ended-through}
use Rattle.wl_clients.proofs.OnScreen.Gone.{WayLaws}
use Rattle.wl_clients.proofs.OnScreen.Lived.{led-seated, led-serves, led-status, led-through, status-after, trees-after}
use Rattle.wl_clients.proofs.OnScreen.Renumbered.{renumbered-since}
use Rattle.wl_clients.proofs.OnScreen.Sitting.{numbers}
use Rattle.wl_clients.proofs.OnScreen.Standings.{whole-so}

-- ---- a message that changes no windows

untouched-least : (d e : Desktop) → StaysPainted d e → (damage : Damaged) → MarksAtLeast d e damage damage
untouched-least d e stays damage x y wide high clean = (clean, nothing-is-marked d e stays (pos x) (pos y))

untouched-most : (d e : Desktop) (damage : Damaged) → MarksMost d e damage damage
untouched-most d e damage x y wide high marked = or_left (has damage x y) _ marked

-- ---- numbers

-- A surface that was there and is there still has its number, whosever it is.
module _ {A : Type 0} (c : ℕ) (others : ℕ → ById ℕ) (base d : Desktop) (r : Resident) (old mid : Kept A) (was : Screen A) (before : IsSeated c others base old (pile_of was) d r)
    (keeps : KeepsNumbers old.client.objects mid.client.objects) (e : Desktop) (s : Resident) (there : client_at c e ≡ Some s) (seat : IsSeat mid.client (owned_view mid) s) where
  same-number-of : (id : ℕ) → has_surface id (owned_in d c).surfaces ≡ true → has_surface id (owned_in e c).surfaces ≡ true → numbers mid id ≡ numbers old id
  same-number-of id had has = at (numbers mid id) (numbers old id) refl refl
    where
      was-numbered : is_some (numbers old id) ≡ true
      was-numbered = before.seat.owns.surfaces.numbered id ∙ subst (λ (o : Owned). has_surface id o.surfaces ≡ true) (ap owned_of before.based.there) had

      is-numbered : is_some (numbers mid id) ≡ true
      is-numbered = seat.owns.surfaces.numbered id ∙ subst (λ (o : Owned). has_surface id o.surfaces ≡ true) (ap owned_of there) has

      at : (m n : Option ℕ) → numbers mid id ≡ m → numbers old id ≡ n → numbers mid id ≡ numbers old id
      at (Some a) (Some b) is_a is_b = is_a ∙ (ap (λ (n : ℕ). Some n) (sym (keeps id b a is_b is_a)) ∙ sym is_b)
      at None n none is_b = absurd (true≢false (sym is-numbered ∙ ap (λ (o : Option ℕ). is_some o) none))
      at (Some a) None is_a none = absurd (true≢false (sym was-numbered ∙ ap (λ (o : Option ℕ). is_some o) none))

  pub same-numbers : (n id : ℕ) → has_surface id (owned_in d n).surfaces ≡ true → has_surface id (owned_in e n).surfaces ≡ true
      → with_numbers c (numbers mid) others n id ≡ with_numbers c (numbers old) others n id
  same-numbers n id had has = at (n == c) refl
    where
      at : (b : Bool) → (n == c) ≡ b → cond b (numbers mid) (others n) id ≡ cond b (numbers old) (others n) id
      at false e = refl
      at true here =
          same-number-of id (subst (λ (m : ℕ). has_surface id (owned_in d m).surfaces ≡ true) (eqb-true n c here) had)
          (subst (λ (m : ℕ). has_surface id (owned_in e m).surfaces ≡ true) (eqb-true n c here) has)

-- ---- it lives on

module _ {A : Type 0} (laws : WayLaws) (c : ℕ) (others : ℕ → ById ℕ) (base d : Desktop) (r : Resident) (old mid : Kept A) (was : Screen A) (before : IsSeated c others base old (pile_of was) d r)
    (ordered : Ordered d) (alive : r.peer.status ≡ None) (untouched : (demand : Demand) → IsDemanded (split_of r.peer.rest) r demand → touched_by demand r ≡ None)
    (lives : mid.client.ended ≡ None) where
  -- no window changes
  apart-stays : (e : Desktop) → Serves c d e → status_in c e ≡ None → StaysPainted d e
  apart-stays e serves status =
      let m : MessageChanges c r d e = messages-change c r d e ordered.in_order before.mapped before.based.there serves status in
      subst (λ (id : Option ℕ). ChangesAt id c d e) (untouched m.demand m.demanded) m.changes

  -- any desktop to which it leads
  pub apart-least : (e : Desktop) (q : Resident) → Serves c d e → IsSeated c others base mid (pile_of was) e q → MarksAtLeast d e was.damage was.damage
  apart-least e q serves after =
      untouched-least d e (apart-stays e serves (status-after laws c others base d r old mid was was before ordered alive lives e q after)) was.damage

  -- one to which it leads
  module _ (m : Taken c others base d r mid was) (keeps : KeepsNumbers old.client.objects mid.client.objects) where
    apart-serves : Serves c d m.after
    apart-serves = led-serves laws c others base d r old mid was was before ordered alive lives m

    stays : StaysPainted d m.after
    stays = apart-stays m.after apart-serves (led-status laws c others base d r old mid was was before ordered alive lives m)

    windows : AreStacked (with_numbers c (numbers mid) others) was.stacked.windows (all_windows m.after)
    windows =
        renumbered-since (with_numbers c (numbers old) others) (with_numbers c (numbers mid) others) was.stacked.windows d m.after (whole-so d ordered before.mapped).trees
        (trees-after laws c others base d r old mid was was before ordered alive lives m.after apart-serves) stays.windows
        (same-numbers c others base d r old mid was before keeps m.after m.resident m.sits.based.there m.sits.seat) before.windows

    pub apart-seated : (e : Desktop) × (q : Resident) × Serves c d e × IsSeated c others base mid (pile_of was) e q
    apart-seated = led-seated laws c others base d r old mid was was before ordered alive lives m windows

    pub apart-through : (e : Desktop) × (q : Resident) × (path : List Desktop) × ServesThrough c d path e × IsSeated c others base mid (pile_of was) e q
        × MarksThrough d path was.damage was.damage
    apart-through =
        led-through laws c others base d r old mid was was before ordered alive lives m windows (untouched-least d m.after stays was.damage) (untouched-most d m.after was.damage)

-- ---- it lives on or ended

or-none : (b : Bool) → (b || false) ≡ b
or-none true = refl
or-none false = refl

module _ {A : Type 0} (laws : WayLaws) (c : ℕ) (others : ℕ → ById ℕ) (base d : Desktop) (r : Resident) (old mid left : Kept A) (was new : Screen A)
    (before : IsSeated c others base old (pile_of was) d r) (ordered : Ordered d) (alive : r.peer.status ≡ None)
    (untouched : (demand : Demand) → IsDemanded (split_of r.peer.rest) r demand → touched_by demand r ≡ None)
    (clears : IsClearedBy mid.client.ended c mid left (pile_of was) (pile_of new))
    (points : is_some mid.client.ended ≡ true → (x y : ℕ) → x < was.damage.width → y < was.damage.height
    → has new.damage x y ≡ (has was.damage x y || has_own c (pos x) (pos y) was.stacked.windows))
    (lives : mid.client.ended ≡ None → (left ≡ mid) × (new ≡ was)) where
  ending : (cause : Cause) → mid.client.ended ≡ Some cause → Ending c mid left was new
  ending cause over =
      record {
        between = was.scene;
        is = [];
        clears = clears;
        points = λ x y wide high.
            points (ap (λ (o : Option Cause). is_some o) over) x y wide high ∙ sym (or-none (has was.damage x y || has_own c (pos x) (pos y) was.stacked.windows));
      }

  -- nothing is told of windows for a moment
  tells-end : (e : Desktop) (b : Bool) → TellsEnd c r d e (λ n. n) [] b
  tells-end e b = record { undone = λ no. refl; turned = λ done path s. inl (stays path s, refl) }
    where
      stays : (path : List Desktop) (s : Struck c r d path e) → StaysPainted d s.own
      stays path s =
          (touches-nothing c r s.before s.demand d s.own
          (record {
            here = before.based.there;
            meant = s.meant;
            done = s.done;
            trees_before = (whole-so d ordered before.mapped).trees;
            trees_after = s.trees;
            shown_before = before.mapped;
            shown_after = s.shown;
          })
          (untouched s.demand s.demanded)).stays

  same-seated : mid.client.ended ≡ None → (e : Desktop) (q : Resident) → IsSeated c others base left (pile_of new) e q → IsSeated c others base mid (pile_of was) e q
  same-seated none e q after =
      subst (λ (s : Screen A). IsSeated c others base mid (pile_of s) e q) (lives none).1 (subst (λ (k : Kept A). IsSeated c others base k (pile_of new) e q) (lives none).0 after)

  same-taken : mid.client.ended ≡ None → Taken c others base d r left new → Taken c others base d r mid was
  same-taken none m = subst (λ (s : Screen A). Taken c others base d r mid s) (lives none).1 (subst (λ (k : Kept A). Taken c others base d r k new) (lives none).0 m)

  -- ---- any desktop to which it leads

  pub settled-least : (e : Desktop) (q : Resident) → Serves c d e → IsSeated c others base left (pile_of new) e q → MarksAtLeast d e was.damage new.damage
  settled-least e q serves after = at mid.client.ended refl
    where
      at : (o : Option Cause) → mid.client.ended ≡ o → MarksAtLeast d e was.damage new.damage
      at None none =
          subst (λ (s : Screen A). MarksAtLeast d e was.damage s.damage) (sym (lives none).1)
          (apart-least laws c others base d r old mid was before ordered alive untouched none e q serves (same-seated none e q after))
      at (Some cause) over = ended-least laws c others base d r old mid left was new before ordered alive cause over (ending cause over) e q serves after

  pub settled-most : (e : Desktop) (q : Resident) → Serves c d e → IsSeated c others base left (pile_of new) e q → status_in c e ≡ None → MarksMost d e was.damage new.damage
  settled-most e q serves after status = at mid.client.ended refl
    where
      at : (o : Option Cause) → mid.client.ended ≡ o → MarksMost d e was.damage new.damage
      at None none = subst (λ (s : Screen A). MarksMost d e was.damage s.damage) (sym (lives none).1) (untouched-most d e was.damage)
      at (Some cause) over = absurd (ended-on laws c others base d r old mid left was new before ordered alive cause over (ending cause over) e q after status)

  -- ---- one to which it leads

  module _ (m : Taken c others base d r left new) (keeps : mid.client.ended ≡ None → KeepsNumbers old.client.objects mid.client.objects) where
    abbrev Seats : Kept A → Screen A → Type 0
    Seats k s = (e : Desktop) × (q : Resident) × Serves c d e × IsSeated c others base k (pile_of s) e q

    abbrev Leads : Kept A → Screen A → Type 0
    Leads k s =
        (e : Desktop) × (q : Resident) × (path : List Desktop) × ServesThrough c d path e × IsSeated c others base k (pile_of s) e q × MarksThrough d path was.damage s.damage

    pub settled-seated : (e : Desktop) × (q : Resident) × Serves c d e × IsSeated c others base left (pile_of new) e q
    settled-seated = at mid.client.ended refl
      where
        at : (o : Option Cause) → mid.client.ended ≡ o → Seats left new
        at None none =
            subst (λ (s : Screen A). Seats left s) (sym (lives none).1)
            (subst (λ (k : Kept A). Seats k was) (sym (lives none).0)
            (apart-seated laws c others base d r old mid was before ordered alive untouched none (same-taken none m) (keeps none)))
        at (Some cause) over = ended-seated laws c others base d r old mid left was new before ordered alive cause over (ending cause over) m

    pub settled-through : was.damage.width ≡ d.output.width → was.damage.height ≡ d.output.height
        → (e : Desktop) × (q : Resident) × (path : List Desktop) × ServesThrough c d path e × IsSeated c others base left (pile_of new) e q
        × MarksThrough d path was.damage new.damage
    unfolding ending
    settled-through width height = at mid.client.ended refl
      where
        at : (o : Option Cause) → mid.client.ended ≡ o → Leads left new
        at None none =
            subst (λ (s : Screen A). Leads left s) (sym (lives none).1)
            (subst (λ (k : Kept A). Leads k was) (sym (lives none).0)
            (apart-through laws c others base d r old mid was before ordered alive untouched none (same-taken none m) (keeps none)))
        at (Some cause) over =
            ended-through laws c others base d r old mid left was new before ordered alive cause over (ending cause over) m (λ n. n) (tells-end m.after m.was_done) width height
