-- A popup comes and goes, and so does a toplevel with popups: what is demanded is done and told.
use Rattle.std.proofs.Common.{◌≡◌, ◌≢◌, ℕ, ◌+◌, ◌≤◌, List, [], ◌∷◌, ◌++◌, Bool, true, false, Option, Some, None, Result, arith, map, refl, ap, subst, sym, ◌∙◌, inl, inr}
use Rattle.std.specs.Prelude.{◌==◌, ◌↔◌, IfSome, IsErr, OnOk, Ok, Err, is_some, min}
use Rattle.std.specs.Option.{option_map}
use Rattle.wl_proto.specs.declared.interface.Interface.{Interface}
use Rattle.wl_proto.specs.declared.interface.Interface.TheVariants.{WlSurface, XdgPopup, XdgToplevel}
use Rattle.wl_table.specs.Objects.{Held, HoldsAt, entry_of}
use Rattle.wl_table.specs.declared.entry.Entry.{Entry}
use Rattle.wl_client.specs.Agreement.{IsCount, IsPeer, most_counted}
use Rattle.wl_client.specs.View.{ClientView}
use Rattle.wl_client.proofs.Queueing.{queues-over, queues-then}
use Rattle.spec_desktop.specs.declared.cause.Cause.{Cause}
use Rattle.spec_desktop.specs.declared.refusals.ErrorCode.TheVariants as code
use Rattle.spec_desktop.specs.declared.refusals.Refusal.{Refusal}
use Rattle.spec_desktop.specs.Objects.{Objects, interface_number, is_of, object_of}
use Rattle.spec_desktop.specs.Peer.{Errs, Peer, Queues, WantsOr, counted, made, object_at_version, removed}
use Rattle.spec_desktop.specs.Told.{Said, id_deleted}
use Rattle.wl_links.specs.Family.{Tied}
use Rattle.wl_surface.specs.Linked.{SurfacesView}
use Rattle.wl_surface.specs.Slots.{Changes, Numbered, Slots, StandForAll, role_at}
use Rattle.wl_surface.specs.declared.applied.Applied.{Applied}
use Rattle.wl_surface.specs.declared.error.SurfaceError.{SurfaceError}
use Rattle.wl_surface.specs.State.{History}
use Rattle.wl_surface.specs.Surface.{with_role}
use Rattle.wl_surface.specs.declared.role.Role.{Role}
use Rattle.wl_surface.specs.declared.role.Role.TheVariants.{Popup as AsPopup}
use Rattle.wl_shell.specs.Descent.{has_popup_at}
use Rattle.wl_shell.specs.InOrder.{goes_with, undismissed}
use Rattle.wl_shell.specs.ShellLaws.{orphaned}
use Rattle.wl_shell.specs.PopupsKept.{parent_id, popup_destruction}
use Rattle.wl_shell.specs.declared.error.ShellError.{ShellError}
use Rattle.wl_shell.specs.declared.error.ShellError.TheVariants as failed
use Rattle.wl_shell.specs.Kept.{Book, Kept as KeptXdg, changing, kept_of, kept_popup, kept_without_role, popup_answer}
use Rattle.wl_shell.specs.Popups.{dismissing}
use Rattle.wl_shell.specs.Positioner.{Positioner}
use Rattle.wl_shell.specs.Shell.{XdgSurface as Xdg, is_role, xdg_at, xdg_with}
use Rattle.spec_desktop.specs.Changing.{changed_for, popup_given_to}
use Rattle.spec_desktop.specs.Demand.{Demand, EndPopup, EndToplevel, GetPopup}
use Rattle.spec_desktop.specs.Desktop.{Desktop, Resident, unpointed}
use Rattle.spec_desktop.specs.Replies.{popups_done, releases, replies}
use Rattle.spec_desktop.specs.Stacked.{all_windows}
use Rattle.spec_desktop.specs.Step.{making, with_peer}
use Rattle.spec_desktop.specs.XdgPopup.{is_no_popup}
use Rattle.spec_desktop.specs.XdgShell.{role_of}
use Rattle.law_desktop.proofs.KeptRecords.Toplevels.Releases.{role-released, still-released}
use Rattle.law_desktop.specs.Ordered.{OwnsOrdered}
use Rattle.law_desktop.specs.Owning.{IsOwned, IsXdg, Names, asks_by, by_number, kept_base, number_of, shell_refusal, targets_in, with_toplevel}
use Rattle.law_desktop.specs.OwnedPopups.{done_told}
use Rattle.law_desktop.specs.RoleNames.{is_of_role, names_of}
use Rattle.law_desktop.specs.Subsurfaces.{AreOfSurfaces}
use Rattle.law_desktop.proofs.Keeping.OwningReads.{role-read}
use Rattle.law_desktop.proofs.Keeping.OwningXdg.{toplevel-named}
use Rattle.law_desktop.proofs.OwnedPopups.Coming.{popups-come, role-fits}
use Rattle.law_desktop.proofs.OwnedPopups.Dismissing.{popups-dismissed}
use Rattle.law_desktop.proofs.OwnedPopups.Ending.{toplevels-go}
use Rattle.law_desktop.proofs.OwnedPopups.Going.{popups-go}
use Rattle.law_desktop.proofs.OwnedPopups.Knowing.{roles-known}
use Rattle.law_desktop.proofs.OwnedPopups.Naming.{roles-named}
use Rattle.wl_requests.specs.declared.residents.Resident.{Resident as Kept}
use Rattle.wl_requests.specs.Dismissing.{AreDismissed, DismissesWith, go_with}
use Rattle.wl_requests.specs.Residents.{AnswersAs, AnswersSo, IsLeft, IsPopup, IsResident, IsToplevel, MeetsAs, MeetsSo}
use Rattle.wl_requests.specs.Touching.{Closes, IsTouched, Touch}
use Rattle.wl_requests.proofs.Framing.{IsFramed, framed-kept, framed-role, one-more}
use Rattle.wl_requests.proofs.Meeting.{meets-as, meets-so}
use Rattle.wl_requests.proofs.Naming.{subsurfaces-named}
use Rattle.wl_requests.proofs.Numbers.{keeps-toplevel}
use Rattle.wl_requests.proofs.PopupsDismissed.{has-order}
use Rattle.wl_requests.proofs.Shelling.{entry-named, objects-counted, refused-whole}

-- ---- what is left

-- A role object goes, and nothing else of the client than its shell changes.
left-as : {A : Type 0} (old new : Kept A) (r after : Resident) (q : Peer) (object : ℕ) → IsResident old r → IsPeer new.client q → after.callbacks ≡ r.callbacks
    → r.peer.requests ≤ after.peer.requests → after.owned.surfaces ≡ r.owned.surfaces → after.subsurfaces ≡ r.subsurfaces → new.owned.surfaces ≡ old.owned.surfaces → new.subsurfaces ≡ old.subsurfaces
    → (new.client.ended ≡ None → names_of new.client.objects ≡ with_toplevel object None (names_of old.client.objects))
    → (new.client.ended ≡ None → IsOwned (names_of new.client.objects) old.owned.surfaces.states old.owned.surfaces.family (kept_of new.owned.shell) after.owned)
    → IsLeft old new after q
left-as {A} old new r after q object is peer callbacks more surfaces subsurfaces linked kept table owns = record {
  peer = peer;
  owns = λ alive. subst (λ (l : SurfacesView). IsOwned (names_of new.client.objects) l.states l.family (kept_of new.owned.shell) after.owned) (sym linked) (owns alive);
  frames = λ alive. subst (λ (l : SurfacesView). IsFramed l.states.frames new.client.objects after) (sym linked)
      (framed-kept old.owned.surfaces.states.frames old.client.objects new.client.objects r after callbacks more is.frames (ap (λ (n : Names). n.surfaces) (table alive)) surfaces);
  subsurfaces = λ alive. rw (kept, subsurfaces)
      (subsurfaces-named old.subsurfaces r.subsurfaces old.client.objects new.client.objects is.subsurfaces (ap (λ (n : Names). n.surfaces) (table alive)));
  numbers = λ alive. keeps-toplevel old.client.objects new.client.objects object None (table alive);
}

-- ---- what the shell answered

pub answered-ok : {X Y : Type 0} (judged : Result Y Refusal) (ask : X → Y) (refusal : ShellError → Refusal) (answer told : Result X ShellError) (x : X) → judged ≡ asks_by ask refusal answer
    → told ≡ answer → told ≡ Ok x → judged ≡ Ok (ask x)
answered-ok judged ask refusal answer told x e same ok = e ∙ ap (asks_by ask refusal) (sym same ∙ ok)

pub as-judged : {A : Type 0} (done : Bool) (judged : Result Demand Refusal) (demand : Demand) (c : ℕ) (r : Resident) (d : Desktop) (old new : Kept A) → judged ≡ Ok demand
    → MeetsAs done c demand (with_peer (counted r.peer) r) d old new → AnswersAs done judged c r d old new
as-judged done judged demand c r d old new e meets = subst (λ (j : Result Demand Refusal). AnswersAs done j c r d old new) (sym e) meets

pub so-judged : {A : Type 0} (judged : Result Demand Refusal) (demand : Demand) (c : ℕ) (r : Resident) (d : Desktop) (old new : Kept A) → judged ≡ Ok demand
    → MeetsSo c demand (with_peer (counted r.peer) r) d old new → AnswersSo judged c r d old new
so-judged judged demand c r d old new e meets = subst (λ (j : Result Demand Refusal). AnswersSo j c r d old new) (sym e) meets

-- an error is told with the xdg_wm_base that made the xdg_surface
pub refused-with : {A : Type 0} (old new : Kept A) (mid : ℕ → Option KeptXdg) (c : ℕ) (r : Resident) (d : Desktop) (object number : ℕ) (k : KeptXdg) (x : Xdg) (h : History) (error : ShellError)
    (judged : Result Demand Refusal)
    → IsXdg (names_of old.client.objects) (kept_of old.owned.shell) r.owned number k x h → x.id ≡ object → judged ≡ Err (shell_refusal x.base x.id object error) → mid ≡ kept_of old.owned.shell
    → is_some new.client.ended ≡ true
    → (q : Peer) × Errs (shell_refusal (kept_base (mid number)) object object error) r.peer q × IsPeer new.client q → AnswersSo judged c r d old new
refused-with old new mid c r d object number k x h error judged one same e still ended errs =
    let base : kept_base (mid number) ≡ x.base = ap (λ (o : ℕ → Option KeptXdg). kept_base (o number)) still ∙ ap kept_base one.here ∙ one.stands.base in
    let told : shell_refusal x.base x.id object error ≡ shell_refusal (kept_base (mid number)) object object error =
    ap (λ i. shell_refusal x.base i object error) same ∙ sym (ap (λ b. shell_refusal b object object error) base) in
    refused-whole old new c r d judged (shell_refusal (kept_base (mid number)) object object error) (e ∙ ap (λ (f : Refusal). Err f) told) ended errs

-- ---- objects that go

number-popup : (interface : Interface) → (interface_number interface == interface_number XdgPopup) ≡ true → interface ≡ XdgPopup
number-popup XdgPopup e = refl
number-popup interface e = absurd (cc)

-- after a request more was counted
pub popup-gone : (old mid new : ClientView) (id number : ℕ) → mid ≡ record old { requests = mid.requests } → targets_in XdgPopup old.objects id ≡ Some number → HoldsAt mid.objects new.objects id None
    → names_of new.objects ≡ with_toplevel id None (names_of old.objects)
popup-gone old mid new id number only named holds =
    let entry = entry-named XdgPopup old.objects id number named in
    roles-named.gone old.objects new.objects id entry.0 entry.1 (ap is_of_role (number-popup entry.0.interface entry.2))
    (subst (λ (o : Held). HoldsAt o new.objects id None) (objects-counted old mid only) holds)

-- ---- xdg_popup.destroy

-- the object is a popup
pub popup-answered : {A : Type 0} (done : Bool) (old new : Kept A) (object number : ℕ) (judged : Option Xdg → Result Demand Refusal) (c : ℕ) (d : Desktop) (r : Resident) → IsResident old r
    → IsPopup old object number
    → ((k : KeptXdg) (x : Xdg) (h : History) → IsXdg (names_of old.client.objects) (kept_of old.owned.shell) r.owned number k x h → is_role object x.role ≡ true
    → AnswersAs done (judged (Some x)) c r d old new)
    → AnswersAs done (judged (xdg_with object r.owned.shell)) c r d old new
popup-answered done old new object number judged c d r is named answers =
    let one = toplevel-named (names_of old.client.objects) old.owned.surfaces.states old.owned.surfaces.family (kept_of old.owned.shell) r.owned is.owns object number
    (roles-named.popup old.client.objects object number named) in
    subst (λ (o : Option Xdg). AnswersAs done (judged o) c r d old new) (sym one.4) (answers one.0 one.1 one.2 one.3 one.5)

-- it is refused for one reason
pub topmost : (b : Bool) (told : Result (Unit {0}) ShellError) (error : ShellError) → told ≡ popup_destruction b → told ≡ Err error → error ≡ failed.NotTheTopmostPopup
topmost true told error e err = let both : Err error ≡ Err failed.NotTheTopmostPopup = sym err ∙ e in cc
topmost false told error e err = absurd (let both : Err error ≡ Ok tt = sym err ∙ e in cc)

-- which is told with the xdg_wm_base
pub topmost-told : (base given xdg object : ℕ) (error : ShellError) → error ≡ failed.NotTheTopmostPopup → given ≡ base → shell_refusal base xdg object error ≡ shell_refusal given object object error
topmost-told base given xdg object error is same =
    ap (λ (e : ShellError). shell_refusal base xdg object e) is ∙ ap (λ (b : ℕ). record { object = b; code = code.NotTheTopmostPopup }) (sym same)
    ∙ ap (λ (e : ShellError). shell_refusal given object object e) (sym is)

-- it goes
pub popup-ends : {A : Type 0} (old new : Kept A) (c : ℕ) (r : Resident) (d : Desktop) (object number : ℕ) (k : KeptXdg) (x : Xdg) (h : History) → IsResident old r
    → IsXdg (names_of old.client.objects) (kept_of old.owned.shell) r.owned number k x h → is_role object x.role ≡ true
    → (q : Peer) × Queues (id_deleted object ∷ []) (removed object (counted r.peer)) q × IsPeer new.client q
    → (new.client.ended ≡ None → names_of new.client.objects ≡ with_toplevel object None (names_of old.client.objects))
    → kept_of new.owned.shell ≡ changing number kept_without_role (kept_of old.owned.shell) → new.owned.surfaces ≡ old.owned.surfaces → new.subsurfaces ≡ old.subsurfaces
    → MeetsAs true c (EndPopup object x.id) (with_peer (counted r.peer) r) d old new
popup-ends old new c r d object number k x h is one its gone table keeps linked kept =
    let then : Resident = with_peer (counted r.peer) r in
    let demand : Demand = EndPopup object x.id in
    let after : Resident = changed_for c demand then (unpointed d) in
    meets-as old new c d demand then refl true (
      gone.0,
      subst (λ (es : List Said). Queues (id_deleted object ∷ es) after.peer gone.0) (sym (still-released then after refl)) gone.1,
      left-as old new r after gone.0 object is gone.2 refl (one-more r.peer.requests) refl refl linked kept table
          (λ alive. popups-go.gone (names_of old.client.objects) old.owned.surfaces.states old.owned.surfaces.family (kept_of old.owned.shell) then number k x h c object (unpointed d)
          (kept_of new.owned.shell)
          (names_of new.client.objects) is.owns one its keeps (table alive)),
    )

-- nothing of the surfaces is made of it
pub touched-so : {A : Type 0} (touch : Touch) (number : ℕ) (old new : SurfacesView) (told : Option (Applied A)) → touch ≡ Closes number → new ≡ old
    → IfSome told (λ applied. applied.changes.items ≡ []) → IsTouched touch old new told
touched-so {A} touch number old new told is same none = subst (λ (t : Touch). IsTouched t old new told) (sym is) (at told none)
  where
    at : (o : Option (Applied A)) → IfSome o (λ applied. applied.changes.items ≡ []) → IsTouched (Closes number) old new o
    at None none = tt
    at (Some applied) none = (same, none)

-- ---- xdg_toplevel.destroy

-- the object is a toplevel, and its xdg_surface is known by it
pub toplevel-there : {A : Type 0} (old new : Kept A) (object number : ℕ) (judged : Option Xdg → Result Demand Refusal) (c : ℕ) (d : Desktop) (r : Resident) → IsResident old r
    → IsToplevel old object number
    → ((k : KeptXdg) (x : Xdg) (h : History) → IsXdg (names_of old.client.objects) (kept_of old.owned.shell) r.owned number k x h → xdg_with object r.owned.shell ≡ Some x
    → is_role object x.role ≡ true → AnswersSo (judged (Some x)) c r d old new)
    → AnswersSo (judged (xdg_with object r.owned.shell)) c r d old new
toplevel-there old new object number judged c d r is named answers =
    let one = toplevel-named (names_of old.client.objects) old.owned.surfaces.states old.owned.surfaces.family (kept_of old.owned.shell) r.owned is.owns object number
    (roles-named.toplevel old.client.objects object number named) in
    subst (λ (o : Option Xdg). AnswersSo (judged o) c r d old new) (sym one.4) (answers one.0 one.1 one.2 one.3 one.4 one.5)

module _ {A : Type 0} (old gone : Kept A) (w : ClientView) (shell : Book) (c : ℕ) (r : Resident) (d : Desktop) (object number : ℕ) (k : KeptXdg) (x : Xdg) (h : History) (is : IsResident old r)
    (ordered : OwnsOrdered r) (named : IsToplevel old object number) (one : IsXdg (names_of old.client.objects) (kept_of old.owned.shell) r.owned number k x h)
    (with_it : xdg_with object r.owned.shell ≡ Some x) where
  abbrev names_before : Names
  names_before = names_of old.client.objects

  abbrev counted_one : Resident
  counted_one = with_peer (counted r.peer) r

  abbrev ending : Demand
  ending = EndToplevel object x.id x.surface

  abbrev ended_one : Resident
  ended_one = changed_for c ending counted_one (unpointed d)

  -- the client without it, before it is told of popups
  abbrev without : Peer
  without = removed object (counted r.peer)

  abbrev left_so : Kept A
  left_so = record gone { owned = record gone.owned { shell = shell } }

  no-popup : has_popup_at x.id r.owned.shell ≡ false
  no-popup =
      let entry = entry-named XdgToplevel old.client.objects object number named in
      let there : is_of XdgToplevel (r.peer.objects object) ≡ true =
      ap (λ (o : Objects). is_of XdgToplevel (o object)) (sym is.peer.objects) ∙ ap (λ (e : Option Entry). is_of XdgToplevel (option_map object_of e)) entry.1 ∙ entry.2 in
      roles-known.toplevel r object x ordered.order there with_it

  shell-named : names_before.shell x.id ≡ Some number
  shell-named = is.owns.named x.id ∙ ap (number_of names_before.surfaces) one.at_id ∙ one.surface

  abbrev those_told : List Said
  those_told = map done_told (undismissed (go_with x.id r.owned.shell) r.owned.shell)

  events-are : replies c ending counted_one ended_one (all_windows d) (unpointed d) ≡ id_deleted object ∷ those_told
  events-are =
      ap (λ (es : List Said). id_deleted object ∷ (es ++ popups_done counted_one ended_one)) (still-released counted_one ended_one refl)
      ∙ ap (λ (es : List Said). id_deleted object ∷ es)
      (popups-dismissed.end names_before old.owned.surfaces.states old.owned.surfaces.family (kept_of old.owned.shell) counted_one c object x.id x.surface (unpointed d) is.owns no-popup)
      ∙ ap (λ (b : Bool). id_deleted object ∷ map done_told (undismissed (goes_with b x.id) r.owned.shell)) (sym no-popup)

  module _ (q : Peer) (told : Queues (id_deleted object ∷ []) without q) (peer : IsPeer w q) (dismisses : DismissesWith number (record old { client = w }) gone)
      (over : is_some w.ended ≡ true → gone.client ≡ w) (linked : gone.owned.surfaces ≡ old.owned.surfaces) (kept : gone.subsurfaces ≡ old.subsurfaces)
      (keeps : kept_of shell ≡ changing number kept_without_role (orphaned (kept_of gone.owned.shell number) (kept_of gone.owned.shell)))
      (table : gone.client.ended ≡ None → names_of gone.client.objects ≡ with_toplevel object None names_before) where
    lived : r.peer.status ≡ None
    lived = sym is.peer.status ∙ is.lives

    -- all were dismissed
    owns-so : (p : Peer) → AreDismissed names_before x.id r.owned q p gone → gone.client.ended ≡ None
        → IsOwned (names_of gone.client.objects) old.owned.surfaces.states old.owned.surfaces.family (kept_of shell) ended_one.owned
    owns-so p dismissed alive =
        let slots = old.owned.surfaces.states in
        let tied = old.owned.surfaces.family in
        let was = kept_of gone.owned.shell in
        let all = subst (λ (l : SurfacesView). IsOwned names_before l.states l.family was (record r.owned { shell = dismissing (go_with x.id r.owned.shell) r.owned.shell })) linked
        (dismissed.owns alive) in
        let on = subst (λ (b : Bool). IsOwned names_before slots tied was (record r.owned { shell = dismissing (goes_with b x.id) r.owned.shell })) no-popup all in
        let orphans = toplevels-go.orphaned names_before slots tied was (record r.owned { shell = dismissing (goes_with false x.id) r.owned.shell }) x.id number (orphaned (was number) was) on
        shell-named refl in
        toplevels-go.gone names_before slots tied (orphaned (was number) was) counted_one c object x.id x.surface number (unpointed d) (kept_of shell) (names_of gone.client.objects) orphans
        shell-named (roles-named.toplevel old.client.objects object number named) keeps (table alive)

    meets-with : (p : Peer) → Queues (id_deleted object ∷ those_told) without p → IsPeer gone.client p
        → (gone.client.ended ≡ None → IsOwned (names_of gone.client.objects) old.owned.surfaces.states old.owned.surfaces.family (kept_of shell) ended_one.owned)
        → MeetsSo c ending counted_one d old left_so
    meets-with p all peer owns = (
      p,
      inr (subst (λ (es : List Said). Queues es ended_one.peer p) (sym events-are) all),
      left-as old left_so r ended_one p object is peer refl (one-more r.peer.requests) refl refl linked kept table owns,
    )

    pub toplevel-ends : MeetsSo c ending counted_one d old left_so
    toplevel-ends = at q.status refl
      where
        at : (status : Option Cause) → q.status ≡ status → MeetsSo c ending counted_one d old left_so
        at None alive =
            let dismissed = dismisses names_before r.owned x.id q is.owns (has-order r ordered) shell-named peer alive in
            meets-with dismissed.0 (queues-then (id_deleted object ∷ []) those_told without q dismissed.0 told alive dismissed.1.told) dismissed.1.peer (owns-so dismissed.0 dismissed.1)
        at (Some cause) e =
            let ended : is_some w.ended ≡ true = ap is_some (peer.status ∙ e) in
            let same = over ended in
            meets-with q (queues-over (id_deleted object ∷ []) those_told without q lived told (ap is_some e)) (rw same peer)
            (λ alive. absurd (let clash : true ≡ false = sym ended ∙ ap (λ (v : ClientView). is_some v.ended) (sym same) ∙ ap is_some alive in cc))

-- ---- xdg_surface.get_popup

-- a role that fits is given
pub popup-role : (names : Names) (slots : Slots) (tied : Tied) (kept : ℕ → Option KeptXdg) (r : Resident) → IsOwned names slots tied kept r.owned
    → (id number : ℕ) (had : Option Role) (told : Result (Unit {0}) SurfaceError) (new : Slots) → names.surfaces id ≡ Some number → is_no_popup (role_of r id) ≡ false
    → ((all : Numbered) → StandForAll slots all → had ≡ role_at (all number))
    → ((all : Numbered) → StandForAll slots all → (IsErr told) ↔ ((other : Role) × (role_at (all number) ≡ Some other) × (other ≢ AsPopup)))
    → OnOk told (Changes slots new number (with_role AsPopup)) → Changes slots new number (with_role AsPopup)
popup-role names slots tied kept r is id number had told new named fits reads refuses ok = at told refl ok
  where
    all : Numbered
    all = by_number names.surfaces r.owned.surfaces

    at : (o : Result (Unit {0}) SurfaceError) → told ≡ o → OnOk o (Changes slots new number (with_role AsPopup)) → Changes slots new number (with_role AsPopup)
    at (Ok u) e ok = ok
    at (Err error) e ok =
        let other = (refuses all is.surfaces.stand).0 (rw e refl) in
        absurd (role-fits (role_of r id) fits (other.0, sym (role-read names slots tied kept r is id number had named reads) ∙ reads all is.surfaces.stand ∙ other.1, other.2))

-- what was read is what the definition reads
pub popup-read : (kept : ℕ → Option KeptXdg) (number : ℕ) (read_other other : Bool) (read_parent parent : Option ℕ) (read values : Positioner) (told : Result (Unit {0}) ShellError)
    → told ≡ popup_answer read_other (is_some (parent_id kept read_parent)) read (kept number) → read_other ≡ other → read_parent ≡ parent → read ≡ values
    → told ≡ popup_answer other (is_some (parent_id kept parent)) values (kept number)
popup-read kept number read_other other read_parent parent read values told answer a b e =
    answer ∙ ap (λ (o : Bool). popup_answer o (is_some (parent_id kept read_parent)) read (kept number)) a
    ∙ ap (λ (o : Option ℕ). popup_answer other (is_some (parent_id kept o)) read (kept number)) b
    ∙ ap (λ (p : Positioner). popup_answer other (is_some (parent_id kept parent)) p (kept number)) e

-- the number of its request
pub request-number : (number counting requests : ℕ) → number ≡ min (counting + 1) most_counted → IsCount counting requests → number ≢ most_counted → number ≡ requests + 1
request-number number counting requests is count below = omega (arith, is, count, below)

-- what was found of the parent
pub made-with : (o : Option ℕ) (parent : ℕ) (Made : ℕ → Type 0) → o ≡ Some parent → IfSome o Made → Made parent
made-with None parent Made is made = absurd (cc)
made-with (Some other) parent Made is made = let same : other ≡ parent = cc in subst Made same made

module _ {A : Type 0} (old new : Kept A) (c : ℕ) (r : Resident) (d : Desktop) (id version number parent : ℕ) (positioner : Positioner) (k : KeptXdg) (x : Xdg) (h : History)
    (is : IsResident old r) (ordered : OwnsOrdered r) (one : IsXdg (names_of old.client.objects) (kept_of old.owned.shell) r.owned number k x h) (bare : x.role ≡ None)
    (free : entry_of old.client.objects id ≡ None) where
  abbrev one_more : Resident
  one_more = with_peer (counted r.peer) r

  abbrev asked : Demand
  asked = GetPopup id version x.id parent positioner

  abbrev given : Option Xdg → Resident
  given o = making XdgPopup id version (popup_given_to id x.id parent positioner o one_more)

  found : given (xdg_at x.id r.owned.shell) ≡ given (Some x)
  found = ap given one.at_id

  none-told : releases one_more (given (xdg_at x.id r.owned.shell)) ≡ []
  none-told = ap (releases one_more) found ∙ role-released x.surface AsPopup one_more ordered.order.known.apart

  pub popup-comes : (q : Peer) → WantsOr true (Queues [] (made id (object_at_version XdgPopup version) (counted r.peer)) q) (counted r.peer) q → IsPeer new.client q
      → Changes old.owned.surfaces.states new.owned.surfaces.states number (with_role AsPopup)
      → kept_of new.owned.shell ≡ changing number (kept_popup id parent positioner (r.peer.requests + 1)) (kept_of old.owned.shell)
      → new.owned.surfaces.family ≡ old.owned.surfaces.family → new.owned.surfaces.states.frames ≡ old.owned.surfaces.states.frames → new.subsurfaces ≡ old.subsurfaces
      → (new.client.ended ≡ None → names_of new.client.objects ≡ with_toplevel id (Some number) (names_of old.client.objects))
      → MeetsSo c asked one_more d old new
  popup-comes q wants peer changes keeps tied frames kept table =
      meets-so old new c d asked one_more refl (
        q,
        at wants,
        record {
          peer = peer;
          owns = λ alive. subst (λ (t : Tied). IsOwned (names_of new.client.objects) new.owned.surfaces.states t (kept_of new.owned.shell) (given (xdg_at x.id r.owned.shell)).owned) (sym tied)
              (popups-come.made (names_of old.client.objects) old.owned.surfaces.states old.owned.surfaces.family (kept_of old.owned.shell) one_more number k x h c id version parent positioner
              (unpointed d) new.owned.surfaces.states (kept_of new.owned.shell) (names_of new.client.objects) is.owns one bare (roles-named.free old.client.objects id free) changes keeps (table alive));
          frames = λ alive. subst (λ (m : Resident). IsFramed new.owned.surfaces.states.frames new.client.objects m) (sym found) (rw frames
              (framed-role old.owned.surfaces.states.frames old.client.objects new.client.objects r (given (Some x)) refl (one-more r.peer.requests) is.frames old.owned.surfaces.states
              old.owned.surfaces.family is.owns.surfaces x.surface number AsPopup one.surface (ap (λ (n : Names). n.surfaces) (table alive)) refl));
          subsurfaces = λ alive. subst (λ (m : Resident). AreOfSurfaces new.subsurfaces (targets_in WlSurface new.client.objects) m.subsurfaces) (sym found) (rw kept
              (subsurfaces-named old.subsurfaces r.subsurfaces old.client.objects new.client.objects is.subsurfaces (ap (λ (n : Names). n.surfaces) (table alive))));
          numbers = λ alive. keeps-toplevel old.client.objects new.client.objects id (Some number) (table alive);
        },
      )
    where
      at : WantsOr true (Queues [] (made id (object_at_version XdgPopup version) (counted r.peer)) q) (counted r.peer) q
          → WantsOr true (Queues (releases one_more (given (xdg_at x.id r.owned.shell))) (given (xdg_at x.id r.owned.shell)).peer q) (counted r.peer) q
      at (inl lacks) = inl lacks
      at (inr told) =
          inr (subst (λ (es : List Said). Queues es (given (xdg_at x.id r.owned.shell)).peer q) (sym none-told)
          (subst (λ (m : Resident). q ≡ m.peer) (sym found) told))
