-- The middle of a step: it begins and ends between steps, clients are told something in it, and the first that is to end does.
use Rattle.std.proofs.Common.{◌≡◌, ℕ, ◌+◌, suc, zero, List, [], ◌∷◌, ◌++◌, Bool, true, Option, Some, None, map, set, refl, ap, subst, sym, ◌∙◌, arith}
use Rattle.std.specs.Option.{option_map}
use Rattle.std.specs.Prelude.{◌||◌, is_none, is_some}
use Rattle.std.proofs.Math.Path.{fun_ext}
use Rattle.std.proofs.lemmas.List.{set-get_or}
use Rattle.wl_proto.specs.declared.interface.Interface.TheVariants.{WlSurface}
use Rattle.law_desktop.specs.Owning.{targets_in}
use Rattle.wl_scene.specs.declared.stacked.Stacked.{Stacked}
use Rattle.wl_surface.specs.Surface.{Surface}
use Rattle.wl_surface.specs.Surfaces.{history_in, surface_at}
use Rattle.wl_client.specs.Agreement.{IsPeer}
use Rattle.wl_client.specs.Pointers.{TellsPointers, pointers_told, serial_after}
use Rattle.wl_client.specs.View.{ClientView, opened}
use Rattle.wl_client.specs.declared.outputs.Output.{Output}
use Rattle.wl_client.specs.declared.pointers.PointerEvent.{PointerEvent}
use Rattle.wl_paint.specs.Damage.{Damaged}
use Rattle.spec_desktop.specs.declared.cause.Cause.{Cause}
use Rattle.spec_desktop.specs.Objects.{ById}
use Rattle.spec_desktop.specs.Peer.{Peer, QueuesTo, ended}
use Rattle.spec_desktop.specs.Told.{Said}
use Rattle.spec_desktop.specs.Desktop.{Desktop, Resident, become, client_at, with_client}
use Rattle.spec_desktop.specs.Settling.{Midstep, Strike, Tells, TellsAt, TellsUnless, ended_at as plain_ended, ended_by, is_struck, struck_by}
use Rattle.law_desktop.specs.Ordered.{Ordered}
use Rattle.law_desktop.proofs.KeptRecords.Toplevels.Serves.{becomes-same}
use Rattle.wl_scene.specs.Hit.{AreKept}
use Rattle.wl_scene.specs.StackedAgreement.{AreNumberedOnce}
use Rattle.wl_requests.specs.declared.residents.Resident.{Resident as Kept}
use Rattle.wl_clients.specs.Agreement.{IsPlace, Matches, numbers_in, numbers_of}
use Rattle.wl_clients.specs.Marking.{MarksAtLeast, MarksMost, MarksOwnIf}
use Rattle.wl_clients.specs.Seats.{IsSeated, ended_by as ended_while, opened_kept}
use Rattle.wl_clients.specs.View.{DeskView, MarkedDesk, OwnedView, Pile}
use Rattle.wl_clients.specs.Agreeing.{Agrees}
use Rattle.wl_clients.specs.Feeding.{Ends}
use Rattle.wl_clients.specs.Midway.{IsMid, MidBeginsAndEnds, MidIsNumberedOnce, MidNamesSurfaces, RefusedLives, opened_desk, strike_for, strikes_from}
use Rattle.wl_clients.specs.Pointing.{IsTold, IsToldAt, IsToldBy}
use Rattle.wl_clients.specs.Lent.{slots_lent}
use Rattle.wl_clients.specs.Residents.{client_views, owned_views, resident_at}
use Rattle.wl_clients.proofs.Calls.{back, ended_at, ended_of, out}
use Rattle.wl_clients.proofs.Desktops.{at, at-map, place-at}
use Rattle.wl_clients.proofs.Lending.{agrees-kept, surfaces-lent}
use Rattle.wl_clients.proofs.Marks.{AddsOwn, adds-within, ends-marked, own-adds, own-most, sized}
use Rattle.wl_clients.proofs.Opened.{desk-open, here-open, numbers-open, open-set, open_all, opened-same}
use Rattle.wl_clients.proofs.Seats.{IsHere, client-here, clients-within, marked, nobody, view_of}
use Rattle.wl_clients.proofs.Steps.{ended-has, ends-away}
use Rattle.wl_clients.proofs.Strikes.{of-refused, refused_in, struck-at, struck-first, struck-more}
use Rattle.wl_clients.proofs.Told.{noting, queues-only, told-ordered, told-seated}

-- ---- a step begins, and ends

place-free : (x : Option ClientView) (o : Option OwnedView) (r : Option Resident) → IsPlace x o r → refused_in x ≡ None
place-free None o r here = refl
place-free (Some v) (Some o) (Some r) here = here.peer.open
place-free (Some v) None r here = absurd here
place-free (Some v) (Some o) None here = absurd here

open-one : (o : Option ClientView) → refused_in o ≡ None → option_map opened o ≡ o
open-one None e = refl
open-one (Some v) e = ap Some (opened-same v e)

open-none : (vs : List (Option ClientView)) → ((k : ℕ) → refused_in (at vs k) ≡ None) → map (option_map opened) vs ≡ vs
open-none [] free = refl
open-none (v ∷ vs) free = ap (λ x. x ∷ map (option_map opened) vs) (open-one v (free zero)) ∙ ap (λ xs. v ∷ xs) (open-none vs (λ k. free (suc k)))

none-strikes : (start : ℕ) (vs : List (Option ClientView)) → ((k : ℕ) → refused_in (at vs k) ≡ None) → strikes_from start vs ≡ []
none-strikes start [] free = refl
none-strikes start (v ∷ vs) free =
    ap (λ (ts : List Strike). ts ++ strikes_from (suc start) vs) (of-refused start v ∙ ap (strike_for start) (free zero)) ∙ none-strikes (suc start) vs (λ k. free (suc k))

no-more : (start : ℕ) (o : Option Cause) (ts : List Strike) → strike_for start o ++ ts ≡ [] → (o ≡ None) × (ts ≡ [])
no-more start None ts e = (refl, e)
no-more start (Some cause) ts e = absurd (cc)

none-refused : (start : ℕ) (vs : List (Option ClientView)) → strikes_from start vs ≡ [] → (k : ℕ) → refused_in (at vs k) ≡ None
none-refused start [] none k = refl
none-refused start (v ∷ vs) none zero =
    (no-more start (refused_in v) (strikes_from (suc start) vs) (ap (λ (ts : List Strike). ts ++ strikes_from (suc start) vs) (sym (of-refused start v)) ∙ none)).0
none-refused start (v ∷ vs) none (suc k) =
    none-refused (suc start) vs
    (no-more start (refused_in v) (strikes_from (suc start) vs) (ap (λ (ts : List Strike). ts ++ strikes_from (suc start) vs) (sym (of-refused start v)) ∙ none)).1 k

free-lives : (o : Option ClientView) → refused_in o ≡ None → RefusedLives o
free-lives None e = tt
free-lives (Some v) e = λ some. absurd (some e)

pub mid_begins_and_ends : MidBeginsAndEnds
mid_begins_and_ends v d = (
  λ a.
      let free = λ (k : ℕ). place-free (at v.clients k) _ _ (a.matches.clients k) in
      record {
        agrees = subst (λ (vs : List (Option ClientView)). Agrees (record v { clients = vs }) d) (sym (open-none v.clients free)) a;
        struck = none-strikes 1 v.clients free;
        alive = λ k. free-lives (at v.clients k) (free k);
      },
  λ mid. subst (λ (vs : List (Option ClientView)). Agrees (record v { clients = vs }) d) (open-none v.clients (none-refused 1 v.clients mid.struck)) mid.agrees,
)

pub mid_is_numbered_once : MidIsNumberedOnce
mid_is_numbered_once v m mid c =
    subst (λ (numbers : ℕ → ById ℕ). AreNumberedOnce (numbers c)) (numbers-open v.clients) (surfaces-lent (opened_desk v) m.desktop mid.agrees.matches c).once

-- the surfaces of a client have numbers
abbrev NamesAt : Option ClientView → Option Resident → ℕ → Type 0
NamesAt x None id = Unit {0}
NamesAt x (Some r) id = is_some (numbers_of x id) ≡ is_some (history_in id r.owned.surfaces)

some-mapped : {X Y : Type 0} (f : X → Y) (o : Option X) → is_some o ≡ is_some (option_map f o)
some-mapped f None = refl
some-mapped f (Some x) = refl

place-names : (x : Option ClientView) (o : Option OwnedView) (r : Option Resident) → IsPlace x o r → (id : ℕ) → NamesAt x r id
place-names None None None here id = tt
place-names (Some v) (Some o) (Some r) here id =
    here.owns.surfaces.numbered id ∙ some-mapped (λ (s : Surface). s.history) (surface_at id r.owned.surfaces)
place-names None None (Some r) here id = absurd here
place-names None (Some o) r here id = absurd here
place-names (Some v) None r here id = absurd here
place-names (Some v) (Some o) None here id = absurd here

pub mid_names_surfaces : MidNamesSurfaces
mid_names_surfaces v m zero id r mid there lives = absurd (cc)
mid_names_surfaces v m (suc k) id r mid there lives =
    let w = opened_desk v in
    subst (λ (numbers : ℕ → ById ℕ). is_some (numbers (suc k) id) ≡ is_some (history_in id r.owned.surfaces)) (numbers-open v.clients)
    (subst (λ (o : Option Resident). NamesAt (at w.clients k) o id) there
    (place-names (at w.clients k) (at w.owned k) (client_at (suc k) m.desktop) (place-at w m.desktop k mid.agrees.matches) id))

-- what is kept stands for the windows, and for the surfaces of each client
pub mid-kept : (v : DeskView) (m : Midstep) → IsMid v m → AreKept (slots_lent v.owned) (numbers_in v.clients) v.pile.windows m.desktop
mid-kept v m mid =
    subst (λ (numbers : ℕ → ById ℕ). AreKept (slots_lent v.owned) numbers v.pile.windows m.desktop) (numbers-open v.clients) (agrees-kept (opened_desk v) m.desktop mid.agrees.matches)

pub hit-kept : {A : Type 0} (output : Output) (rs : List (Option (Kept A))) (pile : Pile) (ws : List (Option (Kept A))) (stacked : List Stacked) → ws ≡ rs → stacked ≡ pile.windows
    → (m : Midstep) → IsMid (view_of output rs pile) m → AreKept (slots_lent (owned_views ws)) (numbers_in (client_views rs)) stacked m.desktop
hit-kept output rs pile ws stacked same windows m mid = rw (same, windows) (mid-kept (view_of output rs pile) m mid)

-- ---- one client

map-put : {X Y : Type 0} (f : X → Y) (xs : List X) (k : ℕ) (x : X) → map f (set xs k x) ≡ set (map f xs) k (f x)
map-put f [] k x = refl
map-put f (y ∷ xs) zero x = refl
map-put f (y ∷ xs) (suc k) x = ap (λ ys. f y ∷ ys) (map-put f xs k x)

lives-put : (vs : List (Option ClientView)) (k : ℕ) (x : Option ClientView) → RefusedLives x → ((j : ℕ) → RefusedLives (at vs j)) → (j : ℕ) → RefusedLives (at (set vs k x) j)
lives-put [] k x here all j = all j
lives-put (v ∷ vs) zero x here all zero = here
lives-put (v ∷ vs) zero x here all (suc j) = all (suc j)
lives-put (v ∷ vs) (suc k) x here all zero = all zero
lives-put (v ∷ vs) (suc k) x here all (suc j) = lives-put vs k x here (λ i. all (suc i)) j

numbers-same : (vs : List (Option ClientView)) (k : ℕ) (x : Option ClientView) → numbers_of x ≡ numbers_of (at vs k) → (c : ℕ) → numbers_in (set vs k x) c ≡ numbers_in vs c
numbers-same vs k x e zero = refl
numbers-same [] k x e (suc j) = refl
numbers-same (v ∷ vs) zero x e (suc zero) = e
numbers-same (v ∷ vs) zero x e (suc (suc j)) = refl
numbers-same (v ∷ vs) (suc k) x e (suc zero) = refl
numbers-same (v ∷ vs) (suc k) x e (suc (suc j)) = numbers-same vs k x e (suc j)

-- nobody is there
pub mid-nobody : {A : Type 0} (output : Output) (rs : List (Option (Kept A))) (pile : Pile) (c : ℕ) (m : Midstep) → resident_at rs c ≡ None → IsMid (view_of output rs pile) m
    → client_at c m.desktop ≡ None
mid-nobody output rs pile zero m none mid = refl
mid-nobody {A} output rs pile (suc k) m none mid =
    nobody output (open_all rs) pile (suc k) m.desktop
    (at-map (λ (r : Kept A). opened_kept r) rs k ∙ ap (λ (o : Option (Kept A)). option_map (λ (r : Kept A). opened_kept r) o) none)
    (subst (λ (w : DeskView). Agrees w m.desktop) (sym (desk-open output rs pile)) mid.agrees).matches

pub nobody-tells : (change : Resident → Resident) (events : Resident → List Said) (c : ℕ) (m : Midstep) → client_at c m.desktop ≡ None → Tells change events c m m
nobody-tells change events c m none = subst (λ (o : Option Resident). TellsAt change events c o m m) (sym none) refl

-- nobody is there, by a look at the place
pub mid-missing : {A : Type 0} (output : Output) (rs : List (Option (Kept A))) (pile : Pile) (damage : Damaged) (ws : List (Option (Kept A))) (w : MarkedDesk) (c : ℕ) → ws ≡ rs
    → resident_at ws c ≡ None → marked (view_of output rs pile) damage ≡ w → (change : Resident → Resident) (events : Resident → List Said) (m : Midstep) → IsMid w.desk m
    → (n : Midstep) × Tells change events c m n × IsMid w.desk n
mid-missing output rs pile damage ws w c same none view change events m mid = (
  m,
  nobody-tells change events c m
      (mid-nobody output rs pile c m (rw (← same) none) (subst (λ (x : MarkedDesk). IsMid x.desk m) (sym view) mid)),
  mid,
)

-- and nothing is put there
pub mid-still : (new old : MarkedDesk) → new ≡ old → (change : Resident → Resident) (events : Resident → List Said) (c : ℕ) (m : Midstep)
    → (n : Midstep) × Tells change events c m n × IsMid old.desk n → (n : Midstep) × Tells change events c m n × IsMid new.desk n
mid-still new old same change events c m h = (h.0, h.1, subst (λ (x : MarkedDesk). IsMid x.desk h.0) (sym same) h.2)

module _ {A : Type 0} (output : Output) (rs : List (Option (Kept A))) (pile : Pile) (c k : ℕ) (v : Kept A) (is : IsHere rs c k v) where
  -- what is kept of the client, in the list of all
  views-put : (x : Kept A) → client_views (set rs k (Some x)) ≡ set (client_views rs) k (Some x.client)
  views-put x = map-put (option_map (λ (r : Kept A). r.client)) rs k (Some x)

  free-here : (o : Option Cause) → v.client.refused ≡ o → refused_in (at (client_views rs) k) ≡ o
  free-here o e = ap refused_in (client-here rs k v is.here) ∙ e

  -- the numbers of surfaces stay
  pub told-numbers : (new : Kept A) → new.client.objects ≡ v.client.objects → numbers_in (client_views (set rs k (Some new))) ≡ numbers_in (client_views rs)
  told-numbers new same =
      ap numbers_in (views-put new)
      ∙ fun_ext (numbers-same (client_views rs) k (Some new.client) (ap (targets_in WlSurface) same ∙ sym (ap numbers_of (client-here rs k v is.here))))

module _ {A : Type 0} (output : Output) (rs : List (Option (Kept A))) (pile : Pile) (c k : ℕ) (v : Kept A) (is : IsHere rs c k v) (m : Midstep)
    (mid : IsMid (view_of output rs pile) m) where
  agreed : Agrees (view_of output (open_all rs) pile) m.desktop
  agreed = subst (λ (w : DeskView). Agrees w m.desktop) (sym (desk-open output rs pile)) mid.agrees

  here : IsHere (open_all rs) c k (opened_kept v)
  here = here-open rs c k v is

  pub seat : (s : Resident) × (client_at c m.desktop ≡ Some s) × IsSeated c (numbers_in (client_views (open_all rs))) m.desktop (opened_kept v) pile m.desktop s
  seat = out output (open_all rs) pile c k (opened_kept v) here m.desktop agreed.matches

  -- another is put at its place
  pub mid-put : (new : Kept A) (now : Pile) (e : Desktop) (s : Resident) (struck : List Strike)
      → IsSeated c (numbers_in (client_views (open_all rs))) m.desktop (opened_kept new) now e s → Ordered e
      → strikes_from 1 (set (client_views rs) k (Some new.client)) ≡ struck → RefusedLives (Some new.client)
      → IsMid (view_of output (set rs k (Some new)) now) (record { desktop = e; struck = struck })
  mid-put new now e s struck seated ordered strikes lives = record {
    agrees = subst (λ (w : DeskView). Agrees w e) (desk-open output (set rs k (Some new)) now) (record {
      matches = subst (λ (xs : List (Option (Kept A))). Matches (view_of output xs now) e) (sym (open-set rs k (Some new)))
          (back output (open_all rs) pile c k (opened_kept v) here m.desktop agreed.matches (opened_kept new) now e s seated);
      ordered = ordered;
    });
    struck = ap (strikes_from 1) (views-put output rs pile c k v is new) ∙ strikes;
    alive = λ j. subst (λ (vs : List (Option ClientView)). RefusedLives (at vs j)) (sym (views-put output rs pile c k v is new)) (lives-put (client_views rs) k (Some new.client) lives mid.alive j);
  }

  pub put-same : set rs k (Some v) ≡ rs
  put-same = ap (λ (o : Option (Kept A)). set rs k o) (sym is.here) ∙ set-get_or rs k None

  -- ---- it is told

  module _ (event : PointerEvent) (pointers : List ℕ) (change : Resident → Resident) (events : Resident → List Said)
      (so : IsToldAt event pointers change events (client_at c m.desktop)) (w : ClientView) where
    abbrev Result : Type 0
    Result = (n : Midstep) × Tells change events c m n × IsMid (view_of output (set rs k (Some (record v { client = w }))) pile) n

    -- one that ended or is to end is told nothing
    untold : w ≡ v.client → (is_some seat.0.peer.status || is_struck c m.struck) ≡ true → Result
    untold same over = (
      m,
      subst (λ (o : Option Resident). TellsAt change events c o m m) (sym seat.1) (subst (λ (b : Bool). TellsUnless b change events c seat.0 m m) (sym over) refl),
      subst (λ (xs : List (Option (Kept A))). IsMid (view_of output xs pile) m)
          (sym (ap (λ (x : ClientView). set rs k (Some (record v { client = x }))) same ∙ put-same)) mid,
    )

    struck-here : is_struck c m.struck ≡ is_some v.client.refused
    struck-here =
        ap (is_struck c) (sym mid.struck) ∙ struck-at c 1 k (client_views rs) (let e = is.number in omega (arith, e))
        ∙ ap is_some (free-here output rs pile c k v is v.client.refused refl)

    -- one that lives and isn't to end is
    module _ (lives : v.client.ended ≡ None) (free : v.client.refused ≡ None)
        (told : ((p : Peer) → IsPeer v.client p → (q : Peer) × TellsPointers event pointers p q w.refused × IsPeer (opened w) q)
        × (w ≡ record v.client { unsent = w.unsent; refused = w.refused; serial = w.serial })) where
      abbrev s : Resident
      s = seat.0

      status : s.peer.status ≡ None
      status = sym seat.2.seat.peer.status ∙ lives

      next : (q : Peer) × TellsPointers event pointers s.peer q w.refused × IsPeer (opened w) q
      next = told.0 s.peer (subst (λ (x : ClientView). IsPeer x s.peer) (opened-same v.client free) seat.2.seat.peer)

      its : IsTold event pointers s (change s) (events s)
      its = subst (λ (o : Option Resident). IsToldAt event pointers change events o) seat.1 so

      only : next.0 ≡ record s.peer { serial = serial_after event pointers s.peer.serial; unsent = next.0.unsent }
      only = queues-only (pointers_told event s.peer.serial pointers) (record s.peer { serial = serial_after event pointers s.peer.serial }) next.0 w.refused next.1

      queues : QueuesTo (events s) (change s).peer next.0 w.refused
      queues =
          subst (λ (r : Resident). QueuesTo (events s) r.peer next.0 w.refused) (sym its.changes)
          (subst (λ (said : List Said). QueuesTo said (record s.peer { serial = serial_after event pointers s.peer.serial }) next.0 w.refused) (sym its.told) next.1)

      becomes-so : record (change s) { peer = next.0 } ≡ noting its.press its.release (record s { peer = next.0 })
      becomes-so = ap (λ (r : Resident). record r { peer = next.0 }) its.changes

      abbrev last : Midstep
      last = record {
        desktop = with_client c (Some (record (change s) { peer = next.0 })) m.desktop;
        struck = struck_by c w.refused m.struck;
      }

      tells-it : Tells change events c m last
      tells-it =
          subst (λ (o : Option Resident). TellsAt change events c o m last) (sym seat.1)
          (subst (λ (b : Bool). TellsUnless b change events c s m last)
          (sym (ap (λ (o : Option Cause). is_some o || is_struck c m.struck) status ∙ struck-here ∙ ap is_some free))
          (next.0, w.refused, queues, refl))

      is-mid : IsMid (view_of output (set rs k (Some (record v { client = w }))) pile) last
      is-mid =
          subst (λ (x : Resident). IsMid (view_of output (set rs k (Some (record v { client = w }))) pile)
          (record { desktop = with_client c (Some x) m.desktop; struck = struck_by c w.refused m.struck })) (sym becomes-so)
          (mid-put (record v { client = w }) pile _ _ (struck_by c w.refused m.struck)
          (told-seated c m.desktop s next.0 its.press its.release seat.1 status _ next.0.unsent only (numbers_in (client_views (open_all rs))) m.desktop (opened_kept v)
          (opened_kept (record v { client = w })) pile seat.2 next.2 refl refl (ap (λ (x : ClientView). x.objects) told.1))
          (told-ordered c m.desktop s next.0 its.press its.release seat.1 status _ next.0.unsent only agreed.ordered)
          (struck-more c 1 k (client_views rs) (Some w) (let e = is.number in omega (arith, e)) (clients-within rs k is.within) (free-here output rs pile c k v is None free) ∙ ap (struck_by c w.refused) mid.struck)
          (λ some. ap (λ (x : ClientView). x.ended) told.1 ∙ lives))

      is-told : Result
      is-told = (last, tells-it, is-mid)

    tells : IsToldBy event pointers v.client.ended v.client.refused v.client w → Result
    tells by = at v.client.ended refl v.client.refused refl by
      where
        at : (e : Option Cause) → v.client.ended ≡ e → (f : Option Cause) → v.client.refused ≡ f → IsToldBy event pointers e f v.client w → Result
        at None e None f told = is-told e f told
        at None e (Some cause) f same =
            untold same (ap (λ (o : Option Cause). is_some o || is_struck c m.struck) (sym seat.2.seat.peer.status ∙ e) ∙ struck-here ∙ ap is_some f)
        at (Some cause) e None f same = untold same (ap (λ (o : Option Cause). is_some o || is_struck c m.struck) (sym seat.2.seat.peer.status ∙ e))
        at (Some cause) e (Some other) f same = untold same (ap (λ (o : Option Cause). is_some o || is_struck c m.struck) (sym seat.2.seat.peer.status ∙ e))

  -- the same of all that is kept of it
  pub tells-kept : (event : PointerEvent) (pointers : List ℕ) (change : Resident → Resident) (events : Resident → List Said) → IsToldAt event pointers change events (client_at c m.desktop)
      → (new : Kept A) → new ≡ record v { client = new.client } → IsToldBy event pointers v.client.ended v.client.refused v.client new.client
      → (n : Midstep) × Tells change events c m n × IsMid (view_of output (set rs k (Some new)) pile) n
  tells-kept event pointers change events so new only by =
      subst (λ (x : Kept A). (n : Midstep) × Tells change events c m n × IsMid (view_of output (set rs k (Some x)) pile) n) (sym only)
      (tells event pointers change events so new.client by)

-- ---- the first that is to end does

module _ {A : Type 0} (output : Output) (rs : List (Option (Kept A))) (pile : Pile) (c k : ℕ) (v : Kept A) (is : IsHere rs c k v) (t : Strike) (ts : List Strike) (d : Desktop)
    (own : t.client ≡ c) (mid : IsMid (view_of output rs pile) (record { desktop = d; struck = t ∷ ts })) where
  abbrev m : Midstep
  m = record { desktop = d; struck = t ∷ ts }

  there : (s : Resident) × (client_at c d ≡ Some s) × IsSeated c (numbers_in (client_views (open_all rs))) d (opened_kept v) pile d s
  there = seat output rs pile c k v is m mid

  agrees-open : Agrees (view_of output (open_all rs) pile) d
  agrees-open = agreed output rs pile c k v is m mid

  placed : t.client ≡ 1 + k
  placed = let e = is.number in omega (arith, own, e)

  -- an event for it wasn't queued for this cause, and it lives
  pub refused : v.client.refused ≡ Some t.cause
  refused = sym (ap refused_in (client-here rs k v is.here)) ∙ (struck-first 1 k (client_views rs) None t ts placed refl mid.struck).0

  pub is-alive : v.client.ended ≡ None
  is-alive =
      subst (λ (o : Option ClientView). RefusedLives o) (client-here rs k v is.here) (mid.alive k) (λ none. some-none t.cause (sym refused ∙ none))
    where
      some-none : (x : Cause) → Some x ≡ None → ⊥
      some-none x e = absurd (cc)

  living : there.0.peer.status ≡ None
  living = sym there.2.seat.peer.status ∙ is-alive

  abbrev after : Desktop
  after = become c there.0 (ended t.cause there.0.peer) d

  ends-after : ended_by t d ≡ after
  ends-after =
      ap (λ (n : ℕ). plain_ended n t.cause (client_at n d) d) own
      ∙ ap (λ (o : Option Resident). plain_ended c t.cause o d) there.1
      ∙ becomes-same c there.0 (ended t.cause there.0.peer) d agrees-open.ordered.in_order.pointer

  after-is : ended_at c t.cause d ≡ after
  after-is = ap (λ (o : Option Resident). ended_of c t.cause o d) there.1 ∙ ap (λ (o : Option Cause). become c there.0 (ended_while o t.cause there.0.peer) d) living

  after-ends : Ends c t.cause d after
  after-ends = subst (λ (e : Desktop). Ends c t.cause d e) after-is (ended-has c t.cause d agrees-open.ordered).1

  after-ordered : Ordered after
  after-ordered = subst Ordered after-is (ended-has c t.cause d agrees-open.ordered).0

  module _ (new : Kept A) (now : Pile)
      (parts : (r : Resident) → IsSeated c (numbers_in (client_views (open_all rs))) d (opened_kept v) pile d r
      → (q : Resident) × IsSeated c (numbers_in (client_views (open_all rs))) d new now (become c r (ended t.cause r.peer) d) q) where
    left : (q : Resident) × IsSeated c (numbers_in (client_views (open_all rs))) d new now after q
    left = parts there.0 there.2

    unrefused : new.client.refused ≡ None
    unrefused = left.1.seat.peer.open

    pub mid-ended : IsMid (view_of output (set rs k (Some new)) now) (record { desktop = ended_by t d; struck = ts })
    mid-ended =
        subst (λ (e : Desktop). IsMid (view_of output (set rs k (Some new)) now) (record { desktop = e; struck = ts })) (sym ends-after)
        (mid-put output rs pile c k v is m mid new now after left.0 ts
        (subst (λ (x : ClientView). IsSeated c (numbers_in (client_views (open_all rs))) d (record new { client = x }) now after left.0) (sym (opened-same new.client unrefused)) left.1)
        after-ordered (struck-first 1 k (client_views rs) (Some new.client) t ts placed unrefused mid.struck).1
        (λ some. absurd (some unrefused)))

    module _ (before damage : Damaged) (marks : MarksOwnIf true c (opened_kept v) pile before damage) where
      adds : (e : Desktop) → Agrees (view_of output (open_all rs) pile) e → AddsOwn c e before damage
      adds e a =
          own-adds output (open_all rs) pile c k (opened_kept v) (here-open rs c k v is) e a before damage
          (subst (λ (o : Option Cause). MarksOwnIf (is_none o) c (opened_kept v) pile before damage) (sym is-alive) marks)

      pub least-ended : MarksAtLeast d (ended_by t d) before damage
      least-ended =
          subst (λ (e : Desktop). MarksAtLeast d e before damage) (sym ends-after)
          (ends-marked c t.cause (view_of output (open_all rs) pile) before damage adds d after agrees-open after-ends)

      pub most-ended : (before.width ≡ output.width) × (before.height ≡ output.height) → MarksMost d (ended_by t d) before damage
      most-ended sides =
          let all = marked (view_of output (open_all rs) pile) before in
          let b = mid-ended in
          subst (λ (e : Desktop). MarksMost d e before damage) (sym ends-after)
          (own-most c all (opened_desk (view_of output (set rs k (Some new)) now)) d after damage agrees-open
          (subst (λ (e : Desktop). Agrees (opened_desk (view_of output (set rs k (Some new)) now)) e) ends-after b.agrees) (sized all all d refl sides agrees-open)
          (ends-away c t.cause d after agrees-open.ordered after-ends) (adds-within c d before damage (adds d agrees-open)))
