-- A popup is given a grab, or is dismissed: what is demanded is done and told (xdg-shell.xml, xdg_popup.grab).
use Rattle.std.proofs.Common.{◌≡◌, ◌≤◌, ℕ, List, ◌++◌, Bool, true, false, Option, Some, None, Result, map, refl, ap, subst, sym, ◌∙◌, inr}
use Rattle.std.specs.Prelude.{◌&&◌, ◌||◌, Ok, Err, if◌then◌else◌, not}
use Rattle.std.specs.Option.{option_and_then, option_map}
use Rattle.wl_proto.specs.declared.interface.Interface.TheVariants.{XdgPopup}
use Rattle.wl_table.specs.declared.entry.Entry.{Entry}
use Rattle.wl_client.specs.Agreement.{IsPeer}
use Rattle.spec_desktop.specs.declared.refusals.Refusal.{Refusal}
use Rattle.spec_desktop.specs.Objects.{Objects, is_of, object_of}
use Rattle.spec_desktop.specs.Peer.{Peer, Queues, counted}
use Rattle.spec_desktop.specs.Told.{Said}
use Rattle.wl_surface.specs.Linked.{SurfacesView}
use Rattle.wl_surface.specs.State.{History}
use Rattle.wl_shell.specs.Descent.{has_popup_at}
use Rattle.wl_shell.specs.Found.{AreFound}
use Rattle.wl_shell.specs.InOrder.{goes_with, undismissed}
use Rattle.wl_shell.specs.PopupsKept.{parent_allows}
use Rattle.wl_shell.specs.declared.error.ShellError.{ShellError}
use Rattle.wl_shell.specs.declared.error.ShellError.TheVariants as failed
use Rattle.wl_shell.specs.Kept.{Kept as KeptXdg, changing, grab_answer, grab_by, grab_in, kept_grabbing, kept_of}
use Rattle.wl_shell.specs.Popups.{Popped, dismissing, first_of, is_mapped_stage, kind_popup, popped_kind, popped_of, popped_role, popup_at}
use Rattle.wl_shell.specs.Shell.{IsPopup as APopup, Kind as RoleKind, Popup, RoleObject, Toplevel, XdgSurface as Xdg, xdg_with}
use Rattle.spec_desktop.specs.Ask.{Ignore}
use Rattle.spec_desktop.specs.Changing.{changed_for, grab_allowed, grab_holder, grabbed, is_held_elsewhere, is_latest, is_serial}
use Rattle.spec_desktop.specs.Demand.{Demand, Asks, Grab}
use Rattle.spec_desktop.specs.Desktop.{Desktop, Resident, unpointed}
use Rattle.spec_desktop.specs.Replies.{popups_done, replies}
use Rattle.spec_desktop.specs.Stacked.{all_windows}
use Rattle.spec_desktop.specs.Step.{with_peer}
use Rattle.law_desktop.proofs.KeptRecords.Toplevels.Releases.{still-released}
use Rattle.law_desktop.specs.Ordered.{OwnsOrdered}
use Rattle.law_desktop.specs.Owning.{IsOwned, IsXdg, Names, number_of, shell_refusal}
use Rattle.law_desktop.specs.OwnedPopups.{done_told, grab_demand, grab_done}
use Rattle.law_desktop.specs.RoleNames.{names_of}
use Rattle.law_desktop.proofs.Keeping.OwningXdg.{toplevel-named}
use Rattle.law_desktop.proofs.OwnedPopups.Dismissing.{popups-dismissed}
use Rattle.law_desktop.proofs.OwnedPopups.Grabbing.{popups-grab}
use Rattle.law_desktop.proofs.OwnedPopups.Knowing.{roles-known}
use Rattle.law_desktop.proofs.OwnedPopups.Naming.{roles-named}
use Rattle.wl_requests.specs.declared.residents.Grabbing.{Grabbing}
use Rattle.wl_requests.specs.declared.residents.Resident.{Resident as Kept}
use Rattle.wl_requests.specs.Dismissing.{AreDismissed, DismissesWith, go_with}
use Rattle.wl_requests.specs.Grabbing.{IsGrabbing}
use Rattle.wl_requests.specs.Residents.{AnswersSo, IsLeft, IsPopup, IsResident, MeetsSo}
use Rattle.wl_requests.proofs.Framing.{IsFramed, framed-kept, one-more}
use Rattle.wl_requests.proofs.Meeting.{meets-so}
use Rattle.wl_requests.proofs.Naming.{subsurfaces-named}
use Rattle.wl_requests.proofs.Numbers.{keeps-names}
use Rattle.wl_requests.proofs.PopupsDismissed.{has-order}
use Rattle.wl_requests.proofs.Shelling.{changing-same, entry-named}

-- ---- the object is a popup

pub popup-there : {A : Type 0} (old new : Kept A) (object number : ℕ) (judged : Option Xdg → Result Demand Refusal) (c : ℕ) (d : Desktop) (r : Resident) → IsResident old r → OwnsOrdered r
    → IsPopup old object number
    → ((k : KeptXdg) (x : Xdg) (h : History) (p : Popped) → IsXdg (names_of old.client.objects) (kept_of old.owned.shell) r.owned number k x h → popup_at x.id r.owned.shell ≡ Some p
    → AnswersSo (judged (Some x)) c r d old new)
    → AnswersSo (judged (xdg_with object r.owned.shell)) c r d old new
popup-there old new object number judged c d r is ordered named answers =
    let one = toplevel-named (names_of old.client.objects) old.owned.surfaces.states old.owned.surfaces.family (kept_of old.owned.shell) r.owned is.owns object number
    (roles-named.popup old.client.objects object number named) in
    let entry = entry-named XdgPopup old.client.objects object number named in
    let there : is_of XdgPopup (r.peer.objects object) ≡ true =
    ap (λ (o : Objects). is_of XdgPopup (o object)) (sym is.peer.objects) ∙ ap (λ (e : Option Entry). is_of XdgPopup (option_map object_of e)) entry.1 ∙ entry.2 in
    let popped = roles-known.popup r object one.1 ordered.order there one.4 in
    subst (λ (o : Option Xdg). AnswersSo (judged o) c r d old new) (sym one.4) (answers one.0 one.1 one.2 popped.0 one.3 popped.1)

-- ---- what the shell answered

-- it is allowed as the desktop allows it
pub allowed-so : (g : Grabbing) (serial c : ℕ) (r : Resident) (d : Desktop) → IsGrabbing g c r d
    → ((is_serial serial g.press || is_serial serial g.release) && not g.held_elsewhere) ≡ (is_latest serial r && not (is_held_elsewhere c (grab_holder d)))
allowed-so g serial c r d is =
    ap (λ (o : Option ℕ). (is_serial serial o || is_serial serial g.release) && not g.held_elsewhere) is.press
    ∙ ap (λ (o : Option ℕ). (is_serial serial r.press || is_serial serial o) && not g.held_elsewhere) is.release ∙ ap (λ (b : Bool). is_latest serial r && not b) is.held

pub grab-told : {A : Type 0} (old : Kept A) (r : Resident) (number : ℕ) (k : KeptXdg) (x : Xdg) (h : History) (g : Grabbing) (serial c : ℕ) (d : Desktop) (allowed : Bool)
    (told : Result Bool ShellError)
    → AreFound old.owned.shell → IsResident old r → IsXdg (names_of old.client.objects) (kept_of old.owned.shell) r.owned number k x h → IsGrabbing g c r d
    → allowed ≡ ((is_serial serial g.press || is_serial serial g.release) && not g.held_elsewhere)
    → told ≡ grab_answer (parent_allows old.owned.shell (kept_of old.owned.shell number) && allowed) (kept_of old.owned.shell number)
    → told ≡ grab_answer (grab_allowed c x.id serial (with_peer (counted r.peer) r) (unpointed d)) (kept_of old.owned.shell number)
grab-told old r number k x h g serial c d allowed told found is one given allows answer =
    let book = old.owned.shell in
    let its : Resident = with_peer (counted r.peer) r in
    let latest = popups-grab.allowed (names_of old.client.objects) old.owned.surfaces.states old.owned.surfaces.family book its number k x h c serial (unpointed d) found is.owns one in
    answer
    ∙ ap (λ (b : Bool). grab_answer (parent_allows book (kept_of book number) && b) (kept_of book number)) (allows ∙ allowed-so g serial c r d given)
    ∙ ap (λ (b : Bool). grab_answer b (kept_of book number)) latest

-- it is refused for one reason
unmapped : (a b allowed : Bool) (error : ShellError) → ◌≡◌ {A = Result Bool ShellError} (if a then Ok true else (if b then Err failed.InvalidGrab else Ok allowed)) (Err error)
    → error ≡ failed.InvalidGrab
unmapped true b allowed error e = absurd (cc)
unmapped false true allowed error e = let both : Err error ≡ Err failed.InvalidGrab = sym e in cc
unmapped false false allowed error e = absurd (cc)

pub only-mapped : (allowed : Bool) (k : Option KeptXdg) (told : Result Bool ShellError) (error : ShellError) → told ≡ grab_answer allowed k → told ≡ Err error → error ≡ failed.InvalidGrab
only-mapped allowed k told error answer err = at k (sym answer ∙ err)
  where
    popup : (stage : _) (o : Option Popup) → grab_by allowed stage o ≡ Err error → error ≡ failed.InvalidGrab
    popup stage None e = absurd (cc)
    popup stage (Some p) e = unmapped p.is_dismissed (is_mapped_stage stage) allowed error e

    role : (o : Option RoleObject) → grab_in allowed o ≡ Err error → error ≡ failed.InvalidGrab
    role None e = absurd (cc)
    role (Some object) e = popup object.stage (kind_popup object.kind) e

    at : (k : Option KeptXdg) → grab_answer allowed k ≡ Err error → error ≡ failed.InvalidGrab
    at None e = absurd (cc)
    at (Some k) e = role k.role e

-- which is told with the popup
pub mapped-told : (base given xdg object : ℕ) (error : ShellError) → error ≡ failed.InvalidGrab → shell_refusal base xdg object error ≡ shell_refusal given object object error
mapped-told base given xdg object error is =
    ap (λ (e : ShellError). shell_refusal base xdg object e) is ∙ ap (λ (e : ShellError). shell_refusal given object object e) (sym is)

-- where it isn't allowed, and the popup isn't dismissed for it, it was dismissed before
was-dismissed : (x : Xdg) (p : Popped) (o : Option RoleObject) → first_of (popped_role x o) ≡ Some p → grab_in false o ≡ Ok true → p.popup.is_dismissed ≡ true
was-dismissed x p None e told = absurd (cc)
was-dismissed x p (Some object) e told = at object.kind e told
  where
    answered : (a b : Bool) → ◌≡◌ {A = Result Bool ShellError} (if a then Ok true else (if b then Err failed.InvalidGrab else Ok false)) (Ok true) → a ≡ true
    answered true b e = refl
    answered false true e = absurd (cc)
    answered false false e = absurd (cc)

    at : (kind : RoleKind) → first_of (popped_kind x object kind) ≡ Some p → grab_by false object.stage (kind_popup kind) ≡ Ok true → p.popup.is_dismissed ≡ true
    at Toplevel e told = absurd (cc)
    at (APopup popup) e told =
        let same : record { xdg = x; object = object; popup = popup } ≡ p = cc in
        ap (λ (q : Popped). q.popup.is_dismissed) (sym same) ∙ answered popup.is_dismissed (is_mapped_stage object.stage) told

-- ---- what is left

-- nothing else of the client than its shell changes
pub left-still : {A : Type 0} (old new : Kept A) (r after : Resident) (q : Peer) → IsResident old r → IsPeer new.client q → after.callbacks ≡ r.callbacks
    → r.peer.requests ≤ after.peer.requests → after.owned.surfaces ≡ r.owned.surfaces → after.subsurfaces ≡ r.subsurfaces → new.owned.surfaces ≡ old.owned.surfaces → new.subsurfaces ≡ old.subsurfaces
    → (new.client.ended ≡ None → names_of new.client.objects ≡ names_of old.client.objects)
    → (new.client.ended ≡ None → IsOwned (names_of old.client.objects) old.owned.surfaces.states old.owned.surfaces.family (kept_of new.owned.shell) after.owned)
    → IsLeft old new after q
left-still {A} old new r after q is peer callbacks more surfaces subsurfaces linked kept table owns = record {
  peer = peer;
  owns = λ alive. subst (λ (l : SurfacesView). IsOwned (names_of new.client.objects) l.states l.family (kept_of new.owned.shell) after.owned) (sym linked)
      (subst (λ (n : Names). IsOwned n old.owned.surfaces.states old.owned.surfaces.family (kept_of new.owned.shell) after.owned) (sym (table alive)) (owns alive));
  frames = λ alive. subst (λ (l : SurfacesView). IsFramed l.states.frames new.client.objects after) (sym linked)
      (framed-kept old.owned.surfaces.states.frames old.client.objects new.client.objects r after callbacks more is.frames (ap (λ (n : Names). n.surfaces) (table alive)) surfaces);
  subsurfaces = λ alive. rw (kept, subsurfaces)
      (subsurfaces-named old.subsurfaces r.subsurfaces old.client.objects new.client.objects is.subsurfaces (ap (λ (n : Names). n.surfaces) (table alive)));
  numbers = λ alive. keeps-names old.client.objects new.client.objects (table alive);
}

-- what is kept stays so where no grab was taken
none-taken : (number : ℕ) (kept : ℕ → Option KeptXdg) → changing number (kept_grabbing false) kept ≡ kept
none-taken number kept = changing-same number kept

-- ---- what is told

surfaces-stay : (b : Bool) (xdg : ℕ) (r : Resident) → (grabbed b xdg r).owned.surfaces ≡ r.owned.surfaces
surfaces-stay true xdg r = refl
surfaces-stay false xdg r = refl

module _ {A : Type 0} (old new : Kept A) (c : ℕ) (r : Resident) (d : Desktop) (object number serial : ℕ) (k : KeptXdg) (x : Xdg) (h : History) (p : Popped) (is : IsResident old r)
    (ordered : OwnsOrdered r) (one : IsXdg (names_of old.client.objects) (kept_of old.owned.shell) r.owned number k x h) (here : popup_at x.id r.owned.shell ≡ Some p) where
  abbrev names_before : Names
  names_before = names_of old.client.objects

  abbrev counted_one : Resident
  counted_one = with_peer (counted r.peer) r

  abbrev is_allowed : Bool
  is_allowed = grab_allowed c x.id serial counted_one (unpointed d)

  abbrev all_told : Demand → List Said
  all_told demand = replies c demand counted_one (changed_for c demand counted_one (unpointed d)) (all_windows d) (unpointed d)

  events-are : (b : Bool) → is_allowed ≡ b → all_told (Grab x.id serial) ≡ grab_done b x.id r.owned.shell
  events-are b e =
      ap (λ (es : List Said). es ++ popups_done counted_one (changed_for c (Grab x.id serial) counted_one (unpointed d)))
      (still-released counted_one (changed_for c (Grab x.id serial) counted_one (unpointed d)) (surfaces-stay is_allowed x.id counted_one))
      ∙ popups-dismissed.grab names_before old.owned.surfaces.states old.owned.surfaces.family (kept_of old.owned.shell) counted_one c x.id serial (unpointed d) is.owns
      ∙ ap (λ (b : Bool). grab_done b x.id r.owned.shell) e

  -- ---- it is taken, or nothing is done

  module _ (peer : IsPeer new.client (counted r.peer)) (linked : new.owned.surfaces ≡ old.owned.surfaces) (kept : new.subsurfaces ≡ old.subsurfaces)
      (table : names_of new.client.objects ≡ names_before) where
    abbrev OwnedBy : Demand → Type 0
    OwnedBy demand = IsOwned names_before old.owned.surfaces.states old.owned.surfaces.family (kept_of new.owned.shell) (changed_for c demand counted_one (unpointed d)).owned

    nothing-done : OwnedBy (Asks Ignore) → MeetsSo c (Asks Ignore) counted_one d old new
    nothing-done owns =
        meets-so old new c d (Asks Ignore) counted_one refl (
          counted r.peer,
          subst (λ (es : List Said). Queues es counted_one.peer (counted r.peer)) (sym (still-released counted_one counted_one refl)) refl,
          left-still old new r counted_one (counted r.peer) is peer refl (one-more r.peer.requests) refl refl linked kept (λ alive. table) (λ alive. owns),
        )

    grab-given : is_allowed ≡ true → OwnedBy (Grab x.id serial) → MeetsSo c (Grab x.id serial) counted_one d old new
    grab-given allowed owns =
        let after = grabbed true x.id counted_one in
        let same : changed_for c (Grab x.id serial) counted_one (unpointed d) ≡ after = ap (λ (b : Bool). grabbed b x.id counted_one) allowed in (
          counted r.peer,
          inr (subst (λ (es : List Said). Queues es (changed_for c (Grab x.id serial) counted_one (unpointed d)).peer (counted r.peer)) (sym (events-are true allowed))
              (ap (λ (m : Resident). m.peer) (sym same))),
          subst (λ (m : Resident). IsLeft old new m (counted r.peer)) (sym same)
              (left-still old new r after (counted r.peer) is peer refl (one-more r.peer.requests) refl refl linked kept (λ alive. table)
              (λ alive. subst (λ (m : Resident). IsOwned names_before old.owned.surfaces.states old.owned.surfaces.family (kept_of new.owned.shell) m.owned) same owns)),
        )

    answered : (told : Result Bool ShellError) → told ≡ grab_answer is_allowed (kept_of old.owned.shell number) → told ≡ Ok true → grab_answer is_allowed (kept_of old.owned.shell number) ≡ Ok true
    answered told answer ok = sym answer ∙ ok

    here-popped : first_of (popped_role x x.role) ≡ Some p
    here-popped = sym (ap (option_and_then (λ (x : Xdg). first_of (popped_of x))) one.at_id) ∙ here

    clash : is_allowed ≡ false → p.popup.is_dismissed ≡ false → grab_answer is_allowed (kept_of old.owned.shell number) ≡ Ok true → ⊥
    clash never lives ok =
        let told : grab_in false x.role ≡ Ok true =
        sym (ap (λ (b : Bool). grab_answer b (kept_of old.owned.shell number)) never ∙ ap (grab_answer false) one.here ∙ ap (grab_in false) one.stands.role) ∙ ok in
        let gone = was-dismissed x p x.role here-popped told in
        let both : true ≡ false = sym gone ∙ lives in cc

    pub grab-taken : (told : Result Bool ShellError) → told ≡ grab_answer is_allowed (kept_of old.owned.shell number) → told ≡ Ok true
        → kept_of new.owned.shell ≡ changing number (kept_grabbing true) (kept_of old.owned.shell) → MeetsSo c (grab_demand serial x p) counted_one d old new
    grab-taken told answer is_ok keeps =
        let ok = answered told answer is_ok in
        at p.popup.is_dismissed refl ok
        (popups-grab.taken names_before old.owned.surfaces.states old.owned.surfaces.family (kept_of old.owned.shell) counted_one number k x h c serial p (unpointed d) (kept_of new.owned.shell)
        is.owns one here ok keeps)
      where
        given : (b : Bool) → is_allowed ≡ b → p.popup.is_dismissed ≡ false → grab_answer is_allowed (kept_of old.owned.shell number) ≡ Ok true → OwnedBy (Grab x.id serial)
            → MeetsSo c (Grab x.id serial) counted_one d old new
        given true e lives ok owns = grab-given e owns
        given false e lives ok owns = absurd (clash e lives ok)

        at : (b : Bool) → p.popup.is_dismissed ≡ b → grab_answer is_allowed (kept_of old.owned.shell number) ≡ Ok true → OwnedBy (if b then Asks Ignore else Grab x.id serial)
            → MeetsSo c (if b then Asks Ignore else Grab x.id serial) counted_one d old new
        at true e ok owns = nothing-done owns
        at false e ok owns = given is_allowed refl e ok owns

  -- ---- it is refused: the popup is dismissed

  shell-named : names_before.shell x.id ≡ Some number
  shell-named = is.owns.named x.id ∙ ap (number_of names_before.surfaces) one.at_id ∙ one.surface

  module _ (mid : Kept A) (told : Result Bool ShellError) (answer : told ≡ grab_answer is_allowed (kept_of old.owned.shell number)) (not_ok : told ≡ Ok false)
      (peer : IsPeer mid.client (counted r.peer)) (stays : mid.owned.surfaces ≡ old.owned.surfaces)
      (keeps : kept_of mid.owned.shell ≡ changing number (kept_grabbing false) (kept_of old.owned.shell)) (dismisses : DismissesWith number mid new)
      (linked : new.owned.surfaces ≡ old.owned.surfaces) (kept : new.subsurfaces ≡ old.subsurfaces)
      (table : new.client.ended ≡ None → names_of new.client.objects ≡ names_before) where
    refused : (grab_demand serial x p ≡ Grab x.id serial) × (is_allowed ≡ false) × (has_popup_at x.id r.owned.shell ≡ true)
    refused = popups-grab.refused names_before (kept_of old.owned.shell) r.owned number k x h serial p is_allowed one here (sym answer ∙ not_ok)

    owned-still : IsOwned names_before mid.owned.surfaces.states mid.owned.surfaces.family (kept_of mid.owned.shell) r.owned
    owned-still =
        subst (λ (l : SurfacesView). IsOwned names_before l.states l.family (kept_of mid.owned.shell) r.owned) (sym stays)
        (subst (λ (ks : ℕ → Option KeptXdg). IsOwned names_before old.owned.surfaces.states old.owned.surfaces.family ks r.owned)
        (sym (keeps ∙ none-taken number (kept_of old.owned.shell))) is.owns)

    dismissed : (q : Peer) × AreDismissed names_before x.id r.owned (counted r.peer) q new
    dismissed = dismisses names_before r.owned x.id (counted r.peer) owned-still (has-order r ordered) shell-named peer (sym is.peer.status ∙ is.lives)

    meets-with : (q : Peer) → AreDismissed names_before x.id r.owned (counted r.peer) q new → MeetsSo c (Grab x.id serial) counted_one d old new
    meets-with q gone =
        let after = grabbed false x.id counted_one in
        let same : changed_for c (Grab x.id serial) counted_one (unpointed d) ≡ after = ap (λ (b : Bool). grabbed b x.id counted_one) refused.1 in
        let its : all_told (Grab x.id serial) ≡ map done_told (undismissed (go_with x.id r.owned.shell) r.owned.shell) =
        events-are false refused.1 ∙ ap (λ (b : Bool). map done_told (undismissed (goes_with b x.id) r.owned.shell)) (sym refused.2) in (
          q,
          inr (subst (λ (m : Resident). Queues (all_told (Grab x.id serial)) m.peer q) (sym same)
              (subst (λ (es : List Said). Queues es (counted r.peer) q) (sym its) gone.told)),
          subst (λ (m : Resident). IsLeft old new m q) (sym same)
              (left-still old new r after q is gone.peer refl (one-more r.peer.requests) refl refl linked kept table
              (λ alive. subst (λ (l : SurfacesView). IsOwned names_before l.states l.family (kept_of new.owned.shell) after.owned) linked
              (subst
              (λ (b : Bool). IsOwned names_before new.owned.surfaces.states new.owned.surfaces.family (kept_of new.owned.shell)
              (record r.owned { shell = dismissing (goes_with b x.id) r.owned.shell })) refused.2 (gone.owns alive)))),
        )

    pub grab-refused : MeetsSo c (grab_demand serial x p) counted_one d old new
    grab-refused = subst (λ (demand : Demand). MeetsSo c demand counted_one d old new) (sym refused.0) (meets-with dismissed.0 dismissed.1)
