-- What the requests of the shell lead to.
use Rattle.std.proofs.Common.{◌≡◌, ℕ, List, Bool, true, false, Option, Some, None, Result, cond, refl, ap, sym, subst, ◌∙◌, inl, inr}
use Rattle.std.specs.Prelude.{◌&&◌, not, nat_le, IfSome, ◌==◌, ◌≢◌, ◌⊎◌, ◌↔◌, ◌||◌, ◌∷◌, if◌then◌else◌, is_some, IsOkUnless, MatchOption, IsErr, OnOk, Ok, Err, []}
use Rattle.std.specs.Option.{option_map, option_and_then}
use Rattle.std.proofs.Math.Path.{fun_ext}
use Rattle.std.proofs.lemmas.Bool.{eqb-true}
use Rattle.wl_proto.specs.declared.interface.Interface.{Interface}
use Rattle.wl_proto.specs.declared.interface.Interface.TheVariants.{WlSubcompositor, WlSurface, XdgPopup, XdgSurface, XdgToplevel, XdgWmBase}
use Rattle.wl_proto.specs.Messages.{Message}
use Rattle.wl_proto.specs.Objects.{new_id_in}
use Rattle.wl_proto.specs.declared.argument.NewId.{NewId}
use Rattle.spec_desktop.specs.Judgement.{is_free}
use Rattle.wl_table.specs.Objects.{Held, HoldsAt, entry_of}
use Rattle.wl_table.specs.declared.entry.Entry.{Entry}
use Rattle.wl_client.specs.Agreement.{IsPeer}
use Rattle.spec_desktop.specs.Objects.{ById, interface_number, is_of, object_of, objects_in}
use Rattle.spec_desktop.specs.Peer.{Errs, Peer, Queues, WantsOr, counted, made, object_at_version}
use Rattle.spec_desktop.specs.Told.{Said}
use Rattle.wl_client.specs.View.{ClientView}
use Rattle.spec_desktop.specs.declared.refusals.Refusal.{Refusal}
use Rattle.wl_geom.specs.declared.rect.Rect.{Rect}
use Rattle.wl_links.specs.Family.{Tied}
use Rattle.wl_surface.specs.Slots.{Changes, Numbered, Slots, StandForAll, StandsAt, kept_at, role_at}
use Rattle.wl_surface.specs.Request.{Request, SetWindowGeometry}
use Rattle.wl_surface.specs.State.{History, is_commit}
use Rattle.wl_surface.specs.Surface.{Surface, with_role}
use Rattle.wl_surface.specs.declared.role.Role.{Role}
use Rattle.wl_surface.specs.declared.role.Role.TheVariants.{Toplevel as AsToplevel}
use Rattle.wl_surface.specs.declared.error.SurfaceError.{SurfaceError}
use Rattle.wl_shell.specs.Kept.{Kept as KeptXdg, changing, kept_of, making_refused}
use Rattle.wl_shell.specs.Shell.{RoleObject, Shell, XdgSurface as Xdg, is_role, next_serial, xdg_at}
use Rattle.wl_shell.specs.declared.error.ShellError.{ShellError}
use Rattle.wl_shell.specs.declared.error.ShellError.TheVariants as failed
use Rattle.spec_desktop.specs.Stacking.{Owned}
use Rattle.wl_scene.specs.declared.owned.Owned.{Owned as Lent}
use Rattle.wl_requests.specs.declared.residents.Resident.{Resident as Kept}
use Rattle.spec_desktop.specs.Ask.{Ask, AskSurface, GetToplevel}
use Rattle.spec_desktop.specs.Demand.{Demand}
use Rattle.spec_desktop.specs.Desktop.{Desktop, Resident}
use Rattle.law_desktop.specs.Owning.{AreKept, IsOwned, IsXdg, Names, asks_by, by_number, configuring_if, kept_base, shell_refusal, target_as, targets_in}
use Rattle.law_desktop.specs.RoleNames.{names_of}
use Rattle.law_desktop.specs.Owning.{with_toplevel, with_xdg}
use Rattle.law_desktop.specs.Subsurfaces.{AreOfSurfaces}
use Rattle.wl_requests.specs.Residents.{ActsFor, AnswersAs, AnswersSo as AnswersWhole, Does, IsFree, NewIsFree, IsResident, IsXdgSurface, MeetsAs}
use Rattle.spec_desktop.specs.Step.{answers_to, changed_by, configures_told, role_configured, takes_memory, toplevel_configured, toplevel_given, with_peer, xdg_configured}
use Rattle.spec_desktop.specs.Demanding.{xdg_asked, xdg_demand}
use Rattle.spec_desktop.specs.XdgShell.{configured_again, is_no_toplevel, role_of}
use Rattle.wl_proto.specs.declared.xdg_surface.XdgSurfaceRequest.{XdgSurfaceRequest}
use Rattle.wl_requests.proofs.Doing.{cut-bounds, gone}
use Rattle.law_desktop.proofs.Keeping.Letting.{asked-keeps}
use Rattle.wl_requests.proofs.Numbers.{left-from}
use Rattle.wl_requests.proofs.Meeting.{AnswersSo}
use Rattle.wl_requests.proofs.Framing.{IsFramed, framed-names, one-more}
use Rattle.law_desktop.proofs.KeptRecords.Toplevels.Simply.{told_alone}
use Rattle.law_desktop.proofs.KeptRecords.Toplevels.Releases.{requested-still}
use Rattle.law_desktop.proofs.Keeping.OwningSurfaces.{surface-named, surface-read}
use Rattle.wl_requests.proofs.Roles.{names_object, names-other-gone, names-toplevel-gone, names-xdg-gone}
use Rattle.law_desktop.proofs.Keeping.OwningReads.{role-fits, role-read}
use Rattle.law_desktop.proofs.Keeping.OwningXdg.{xdg-named}

-- ---- objects that go

base-names : (interface : Interface) → (interface_number interface == interface_number XdgWmBase) ≡ true → names_object interface ≡ false
base-names WlSurface e = absurd (cc)
base-names XdgSurface e = absurd (cc)
base-names XdgToplevel e = absurd (cc)
base-names XdgPopup e = absurd (cc)
base-names interface e = refl

subcompositor-names : (interface : Interface) → (interface_number interface == interface_number WlSubcompositor) ≡ true → names_object interface ≡ false
subcompositor-names WlSurface e = absurd (cc)
subcompositor-names XdgSurface e = absurd (cc)
subcompositor-names XdgToplevel e = absurd (cc)
subcompositor-names XdgPopup e = absurd (cc)
subcompositor-names interface e = refl

-- with an xdg_wm_base or a wl_subcompositor no number of a surface goes
pub alone-gone : (old new : Held) (id : ℕ) → (is_of XdgWmBase (objects_in old id) ≡ true) ⊎ (is_of WlSubcompositor (objects_in old id) ≡ true)
    → HoldsAt old new id None → names_of new ≡ names_of old
alone-gone old new id either holds = at (entry_of old id) refl either
  where
    at : (o : Option Entry) → entry_of old id ≡ o
        → (is_of XdgWmBase (option_map object_of o) ≡ true) ⊎ (is_of WlSubcompositor (option_map object_of o) ≡ true) → names_of new ≡ names_of old
    at None found (inl is) = absurd (cc)
    at None found (inr is) = absurd (cc)
    at (Some entry) found (inl is) = names-other-gone old new id entry found (base-names entry.interface is) holds
    at (Some entry) found (inr is) = names-other-gone old new id entry found (subcompositor-names entry.interface is) holds

number-xdg : (interface : Interface) → (interface_number interface == interface_number XdgSurface) ≡ true → interface ≡ XdgSurface
number-xdg XdgSurface e = refl
number-xdg interface e = absurd (cc)

number-toplevel : (interface : Interface) → (interface_number interface == interface_number XdgToplevel) ≡ true → interface ≡ XdgToplevel
number-toplevel XdgToplevel e = refl
number-toplevel interface e = absurd (cc)

-- what names a number is an object of the interface
pub entry-named : (interface : Interface) (held : Held) (id number : ℕ) → targets_in interface held id ≡ Some number → (entry : Entry) × (entry_of held id ≡ Some entry)
    × ((interface_number entry.interface == interface_number interface) ≡ true)
entry-named interface held id number named = at (entry_of held id) refl named
  where
    is : (b : Bool) (target : ℕ) → cond b (Some target) None ≡ Some number → b ≡ true
    is true target e = refl
    is false target e = absurd (cc)

    at : (o : Option Entry) → entry_of held id ≡ o → option_and_then (target_as interface) o ≡ Some number → (entry : Entry) × (entry_of held id ≡ Some entry)
        × ((interface_number entry.interface == interface_number interface) ≡ true)
    at None found e = absurd (cc)
    at (Some entry) found e = (entry, found, is (interface_number entry.interface == interface_number interface) entry.target e)

-- a request more is counted
pub objects-counted : (old mid : ClientView) → mid ≡ record old { requests = mid.requests } → mid.objects ≡ old.objects
objects-counted old mid only = ap (λ (w : ClientView). w.objects) only

pub names-counted : (old mid : ClientView) → mid ≡ record old { requests = mid.requests } → names_of mid.objects ≡ names_of old.objects
names-counted old mid only = ap names_of (objects-counted old mid only)

pub xdg-gone : (old mid new : ClientView) (id number : ℕ) → mid ≡ record old { requests = mid.requests } → targets_in XdgSurface old.objects id ≡ Some number → HoldsAt mid.objects new.objects id None
    → names_of new.objects ≡ with_xdg id None (names_of old.objects)
xdg-gone old mid new id number only named holds =
    let entry = entry-named XdgSurface old.objects id number named in
    names-xdg-gone old.objects new.objects id entry.0 entry.1 (number-xdg entry.0.interface entry.2) (subst (λ (o : Held). HoldsAt o new.objects id None) (objects-counted old mid only) holds)

pub toplevel-gone : (old mid new : ClientView) (id number : ℕ) → mid ≡ record old { requests = mid.requests } → targets_in XdgToplevel old.objects id ≡ Some number
    → HoldsAt mid.objects new.objects id None
    → names_of new.objects ≡ with_toplevel id None (names_of old.objects)
toplevel-gone old mid new id number only named holds =
    let entry = entry-named XdgToplevel old.objects id number named in
    names-toplevel-gone old.objects new.objects id entry.0 entry.1 (number-toplevel entry.0.interface entry.2)
    (subst (λ (o : Held). HoldsAt o new.objects id None) (objects-counted old mid only) holds)

-- ---- what is judged

-- it is refused
pub refused : {A : Type 0} (old new : Kept A) (r : Resident) (judged : Result Ask Refusal) (refusal : Refusal) → judged ≡ Err refusal → is_some new.client.ended ≡ true → (q : Peer)
    × Errs refusal r.peer q × IsPeer new.client q → AnswersSo judged r old new
refused old new r judged refusal e ended errs =
    subst (λ (j : Result Ask Refusal). AnswersSo j r old new) (sym e) (
      errs.0,
      errs.1,
      record {
        peer = errs.2;
        owns = λ none. absurd (gone new.client.ended ended none);
        frames = λ none. absurd (gone new.client.ended ended none);
        subsurfaces = λ none. absurd (gone new.client.ended ended none);
        numbers = λ none. absurd (gone new.client.ended ended none);
      },
    )

pub refused-whole : {A : Type 0} (old new : Kept A) (c : ℕ) (r : Resident) (d : Desktop) (judged : Result Demand Refusal) (refusal : Refusal) → judged ≡ Err refusal → is_some new.client.ended ≡ true
    → (q : Peer) × Errs refusal r.peer q × IsPeer new.client q
    → AnswersWhole judged c r d old new
refused-whole old new c r d judged refusal e ended errs =
    subst (λ (j : Result Demand Refusal). AnswersWhole j c r d old new) (sym e) (refused old new r (Err refusal) refusal refl ended errs)

pub refused-as : {A : Type 0} (old new : Kept A) (c : ℕ) (r : Resident) (d : Desktop) (judged : Result Demand Refusal) (refusal : Refusal) → judged ≡ Err refusal → is_some new.client.ended ≡ true
    → (q : Peer) × Errs refusal r.peer q × IsPeer new.client q
    → AnswersAs false judged c r d old new
refused-as old new c r d judged refusal e ended errs =
    subst (λ (j : Result Demand Refusal). AnswersAs false j c r d old new) (sym e) (refused old new r (Err refusal) refusal refl ended errs)

-- What is done of what was there in between, with the same objects, is done of what was before.
pub meets-from : {A : Type 0} (done : Bool) (demand : Demand) (c : ℕ) (r : Resident) (d : Desktop) (old mid new : Kept A) → mid.client.objects ≡ old.client.objects → MeetsAs done c demand r d mid new
    → MeetsAs done c demand r d old new
meets-from true demand c r d old mid new same h = (h.0, h.1, left-from old mid new _ h.0 same h.2)
meets-from false demand c r d old mid new same h = (h.0, h.1, h.2, left-from old mid new _ h.1 same h.3)

-- it is accepted
pub accepted : {A : Type 0} {old : Kept A} (new : Kept A) (r : Resident) (judged : Result Ask Refusal) (ask : Ask) → judged ≡ Ok ask → AnswersSo (Ok ask) r old new → AnswersSo judged r old new
accepted {A} {old} new r judged ask e answers = subst (λ (j : Result Ask Refusal). AnswersSo j r old new) (sym e) answers

-- the object is an xdg_surface
pub xdg-answered : {A : Type 0} (old new : Kept A) (object number version : ℕ) (request : XdgSurfaceRequest) (c : ℕ) (d : Desktop) (r : Resident) → IsResident old r → IsXdgSurface old object number
    → ((k : KeptXdg) (x : Xdg) (h : History) → IsXdg (names_of old.client.objects) (kept_of old.owned.shell) r.owned number k x h → x.id ≡ object
    → AnswersWhole (xdg_asked r (Some x) version request) c r d old new)
    → AnswersWhole (xdg_demand r object version request) c r d old new
xdg-answered old new object number version request c d r is named answers =
    let one = xdg-named (names_of old.client.objects) old.owned.surfaces.states old.owned.surfaces.family (kept_of old.owned.shell) r.owned is.owns object number named in
    subst (λ (o : Option Xdg). AnswersWhole (xdg_asked r o version request) c r d old new) (sym one.4) (answers one.0 one.1 one.2 one.3 one.5)

-- what the shell answered is told
pub told-ok : (judged : Result Ask Refusal) (ask : Ask) (refusal : ShellError → Refusal) (answer told : Result (Unit {0}) ShellError) → judged ≡ asks_by {X = Unit {0}} (λ u. ask) refusal answer
    → told ≡ answer → told ≡ Ok tt → judged ≡ Ok ask
told-ok judged ask refusal answer told e same ok = e ∙ ap (asks_by {X = Unit {0}} (λ u. ask) refusal) (sym same ∙ ok)

pub told-err : {X Y : Type 0} (judged : Result Y Refusal) (ask : X → Y) (refusal : ShellError → Refusal) (answer told : Result X ShellError) (error : ShellError) → judged ≡ asks_by ask refusal answer
    → told ≡ answer → told ≡ Err error → judged ≡ Err (refusal error)
told-err judged ask refusal answer told error e same err = e ∙ ap (asks_by ask refusal) (sym same ∙ err)

-- an error is told with the xdg_wm_base that made the xdg_surface
pub xdg-refused : {A : Type 0} (old new : Kept A) (mid : ℕ
    → Option KeptXdg) (r : Resident) (object number : ℕ) (k : KeptXdg) (x : Xdg) (h : History) (error : ShellError) (judged : Result Ask Refusal)
    → IsXdg (names_of old.client.objects) (kept_of old.owned.shell) r.owned number k x h → x.id ≡ object → judged ≡ Err (shell_refusal x.base x.id object error) → mid ≡ kept_of old.owned.shell
    → is_some new.client.ended ≡ true
    → (q : Peer) × Errs (shell_refusal (kept_base (mid number)) object object error) r.peer q × IsPeer new.client q → AnswersSo judged r old new
xdg-refused old new mid r object number k x h error judged one same e still ended errs =
    let base : kept_base (mid number) ≡ x.base = ap (λ (o : ℕ → Option KeptXdg). kept_base (o number)) still ∙ ap kept_base one.here ∙ one.stands.base in
    let told : shell_refusal x.base x.id object error ≡ shell_refusal (kept_base (mid number)) object object error =
    ap (λ i. shell_refusal x.base i object error) same ∙ sym (ap (λ b. shell_refusal b object object error) base) in
    refused old new r judged (shell_refusal (kept_base (mid number)) object object error) (e ∙ ap (λ (f : Refusal). Err f) told) ended errs

-- a window geometry lets no store go
pub geometry-keeps : (numbers : ById ℕ) (slots : Slots) (tied : Tied) (r : Resident) (id number : ℕ) (rect : Rect) → AreKept numbers slots tied r.owned.surfaces → numbers id ≡ Some number
    → (changed_by (AskSurface id (SetWindowGeometry rect)) r).peer ≡ r.peer
geometry-keeps numbers slots tied r id number rect kept named =
    let there = surface-named numbers slots tied r.owned.surfaces kept id number named in
    let read = surface-read numbers slots tied r.owned.surfaces kept id number named ∙ there.1 in
    let bounds = cut-bounds (kept_at slots number) there.0 (subst (λ (o : Option Surface). StandsAt (kept_at slots number) o) read (kept.stand number)) in
    ap (λ (q : Resident). q.peer) (asked-keeps (SetWindowGeometry rect) refl (λ v. refl) id r there.0 there.1 bounds.0 bounds.1)

pub object-held : (interface : Interface) (old mid : ClientView) (id : ℕ) → mid ≡ record old { requests = mid.requests } → is_of interface (objects_in old.objects id) ≡ true
    → is_of interface (objects_in mid.objects id) ≡ true
object-held interface old mid id only is = subst (λ (o : Held). is_of interface (objects_in o id) ≡ true) (sym (objects-counted old mid only)) is

-- a client of which a request more was counted
pub counted-on : {A : Type 0} (old mid : Kept A) (r : Resident) → IsResident old r → mid.client ≡ record old.client { requests = mid.client.requests } → mid.owned ≡ old.owned
    → mid.subsurfaces ≡ old.subsurfaces → IsPeer mid.client (counted r.peer) → IsResident mid (with_peer (counted r.peer) r)
counted-on {A} old mid r is only same kept peer = record {
  lives = ap (λ (w : ClientView). w.ended) only ∙ is.lives;
  peer = peer;
  owns = subst (λ (n : Names). IsOwned n mid.owned.surfaces.states mid.owned.surfaces.family (kept_of mid.owned.shell) r.owned) (sym (names-counted old.client mid.client only))
      (rw same is.owns);
  frames = subst (λ (o : Lent A). IsFramed o.surfaces.states.frames mid.client.objects (with_peer (counted r.peer) r)) (sym same)
      (framed-names old.owned.surfaces.states.frames old.client.objects mid.client.objects r (with_peer (counted r.peer) r) refl (one-more r.peer.requests) is.frames
      (names-counted old.client mid.client only) refl);
  subsurfaces = subst (λ (n : Names). AreOfSurfaces mid.subsurfaces n.surfaces r.subsurfaces) (sym (names-counted old.client mid.client only)) (rw kept is.subsurfaces);
}

-- it is refused with what was made
pub refused-so : {A : Type 0} (old new : Kept A) (r : Resident) (judged : Result Ask Refusal) (told refusal : Refusal) → judged ≡ Err refusal → told ≡ refusal → is_some new.client.ended ≡ true
    → (q : Peer) × Errs told r.peer q × IsPeer new.client q → AnswersSo judged r old new
refused-so old new r judged told refusal e same ended errs = refused old new r judged told (e ∙ ap (λ (f : Refusal). Err f) (sym same)) ended errs

-- ---- a toplevel that is made

given-peer : (id xdg : ℕ) (o : Option Xdg) (r : Resident) → (toplevel_given id xdg o r).peer ≡ r.peer
given-peer id xdg None r = refl
given-peer id xdg (Some x) r = refl

pub acts-given : (xdg id version : ℕ) (r : Resident) (q : Peer) → WantsOr true (Queues [] (made id (object_at_version XdgToplevel version) (counted r.peer)) q) (counted r.peer) q
    → ActsFor (GetToplevel id version xdg) (with_peer (counted r.peer) r) q
acts-given xdg id version r q (inl lacks) = inl lacks
acts-given xdg id version r q (inr done) =
    let one_more = with_peer (counted r.peer) r in
    inr (done ∙ ap (λ (p : Peer). made id (object_at_version XdgToplevel version) p) (sym (given-peer id xdg (xdg_at xdg r.owned.shell) one_more)))

-- a role that fits is given
pub role-given : (names : Names) (slots : Slots) (tied : Tied) (kept : ℕ → Option KeptXdg) (r : Resident) → IsOwned names slots tied kept r.owned
    → (id number : ℕ) (had : Option Role) (told : Result (Unit {0}) SurfaceError) (new : Slots) → names.surfaces id ≡ Some number → is_no_toplevel (role_of r id) ≡ false
    → ((all : Numbered) → StandForAll slots all → had ≡ role_at (all number))
    → ((all : Numbered) → StandForAll slots all → (IsErr told) ↔ ((other : Role) × (role_at (all number) ≡ Some other) × (other ≢ AsToplevel)))
    → OnOk told (Changes slots new number (with_role AsToplevel)) → Changes slots new number (with_role AsToplevel)
role-given names slots tied kept r is id number had told new named fits reads refuses ok = at told refl ok
  where
    all : Numbered
    all = by_number names.surfaces r.owned.surfaces

    at : (o : Result (Unit {0}) SurfaceError) → told ≡ o → OnOk o (Changes slots new number (with_role AsToplevel)) → Changes slots new number (with_role AsToplevel)
    at (Ok u) e ok = ok
    at (Err error) e ok =
        let other = (refuses all is.surfaces.stand).0 (rw e refl) in
        absurd (role-fits (role_of r id) fits (other.0, sym (role-read names slots tied kept r is id number had named reads) ∙ reads all is.surfaces.stand ∙ other.1, other.2))

-- ---- an xdg_surface that is made

pub making-ok : (m : Option ShellError) (told : Result (Unit {0}) ShellError) → MatchOption m (IsOkUnless told failed.Memory) (λ e. told ≡ Err e) → told ≡ Ok tt → m ≡ None
making-ok None told refuses ok = refl
making-ok (Some e) told refuses ok = absurd (cc)

pub making-memory : (other content : Bool) (k : Option KeptXdg) (told : Result (Unit {0}) ShellError)
    → MatchOption (making_refused other content k) (IsOkUnless told failed.Memory) (λ e. told ≡ Err e)
    → told ≡ Err failed.Memory → making_refused other content k ≡ None
making-memory other content k told refuses memory = at (other || is_some k) content refuses
  where
    at : (b c : Bool) → MatchOption (if b then Some failed.Role else (if c then Some failed.InvalidSurfaceState else None)) (IsOkUnless told failed.Memory) (λ e. told ≡ Err e)
        → (if b then Some failed.Role else (if c then Some failed.InvalidSurfaceState else None)) ≡ None
    at true c refuses = absurd (cc)
    at false true refuses = absurd (cc)
    at false false refuses = refl

pub making-err : (m : Option ShellError) (told : Result (Unit {0}) ShellError) (error : ShellError) → MatchOption m (IsOkUnless told failed.Memory) (λ e. told ≡ Err e) → told ≡ Err error
    → (error ≡ failed.Memory → ⊥) → m ≡ Some error
making-err None told error refuses err other = absurd (other (subst (λ (t : Result (Unit {0}) ShellError). IsOkUnless t failed.Memory) err refuses))
making-err (Some e) told error refuses err other = let same : e ≡ error = cc in ap Some same

-- ---- a toplevel that is configured again

pub told-again : (x : Xdg) (refusal : ShellError → Refusal) (answer told : Result Bool ShellError) (sent b : Bool) → configured_again x ≡ asks_by (λ sent. configuring_if sent x.id) refusal answer
    → told ≡ answer → told ≡ Ok sent → sent ≡ b
    → configured_again x ≡ Ok (configuring_if b x.id)
told-again x refusal answer told sent b e same ok is =
    e ∙ ap (asks_by (λ sent. configuring_if sent x.id) refusal) (sym same ∙ ok) ∙ ap (λ c. Ok (configuring_if c x.id)) is

pub refused-again : (x : Xdg) (refusal : ShellError → Refusal) (answer told : Result Bool ShellError) (error : ShellError)
    → configured_again x ≡ asks_by (λ sent. configuring_if sent x.id) refusal answer → told ≡ answer → told ≡ Err error
    → configured_again x ≡ Err (refusal error)
refused-again x refusal answer told error e same err = told-err _ _ refusal answer told error e same err

-- its serial is drawn
pub drawn : (v w : ClientView) (p : Peer) → IsPeer v p → w ≡ record v { serial = next_serial v.serial } → IsPeer w (record p { serial = next_serial p.serial })
drawn v w p is e = rw e (record {
  status = is.status;
  «open» = is.open;
  requests = is.requests;
  objects = is.objects;
  held = is.held;
  regions = is.regions;
  pools = is.pools;
  buffers = is.buffers;
  positioners = is.positioners;
  stores = is.stores;
  serial = ap next_serial is.serial;
  unsent = is.unsent;
  rest = is.rest;
  output = is.output;
})

-- the two events
pub events-told : (object serial id now : ℕ) (x : Xdg) (shell : Shell) → xdg_at x.id shell ≡ Some x → is_role object x.role ≡ true → id ≡ x.id → now ≡ serial
    → (toplevel_configured object ∷ xdg_configured id now ∷ []) ≡ configures_told serial (xdg_at x.id shell)
events-told object serial id now x shell there its same is =
    ap (λ i. toplevel_configured object ∷ xdg_configured i now ∷ []) same
    ∙ ap (λ n. toplevel_configured object ∷ xdg_configured x.id n ∷ []) is
    ∙ at x.role its
    ∙ ap (configures_told serial) (sym there)
  where
    at : (o : Option RoleObject) → is_role object o ≡ true → (toplevel_configured object ∷ xdg_configured x.id serial ∷ []) ≡ role_configured serial x.id o
    at None its = absurd (cc)
    at (Some role) its = ap (λ i. toplevel_configured i ∷ xdg_configured x.id serial ∷ []) (sym (eqb-true role.id object its))

-- nothing is changed of what is kept
pub changing-same : (number : ℕ) (kept : ℕ → Option KeptXdg) → changing number (λ k. k) kept ≡ kept
changing-same number kept = fun_ext (λ other. at other (other == number) refl)
  where
    itself : (o : Option KeptXdg) → option_map (λ k. k) o ≡ o
    itself None = refl
    itself (Some k) = refl

    at : (other : ℕ) (b : Bool) → (other == number) ≡ b → cond b (option_map (λ k. k) (kept number)) (kept other) ≡ kept other
    at other true e = itself (kept number) ∙ ap kept (sym (eqb-true other number e))
    at other false e = refl

-- what is owned was left as it was
pub owns-told : {A : Type 0} (new : Kept A) (owned : Lent A) (names : Names) (o : Owned) → names_of new.client.objects ≡ names → new.owned ≡ owned
    → IsOwned names owned.surfaces.states owned.surfaces.family (kept_of owned.shell) o → IsOwned (names_of new.client.objects) new.owned.surfaces.states new.owned.surfaces.family
    (kept_of new.owned.shell) o
owns-told new owned names o named same is = rw (named, same) is

-- what was read is what the definition reads
pub making-read : (read_role is_role read_content is_content : Bool) (k : Option KeptXdg) (told : Result (Unit {0}) ShellError) → read_role ≡ is_role → read_content ≡ is_content
    → MatchOption (making_refused read_role read_content k) (IsOkUnless told failed.Memory) (λ e. told ≡ Err e) → MatchOption (making_refused is_role is_content k) (IsOkUnless told failed.Memory)
    (λ e. told ≡ Err e)
making-read read_role is_role read_content is_content k told role content refuses =
    subst (λ b. MatchOption (making_refused is_role b k) (IsOkUnless told failed.Memory) (λ e. told ≡ Err e)) content
    (subst (λ b. MatchOption (making_refused b read_content k) (IsOkUnless told failed.Memory) (λ e. told ≡ Err e)) role refuses)

-- an object was made after a request more was counted
pub holds-counted : (old mid : ClientView) (new : Held) (id : ℕ) (entry : Option Entry) → mid ≡ record old { requests = mid.requests } → HoldsAt mid.objects new id entry
    → HoldsAt old.objects new id entry
holds-counted old mid new id entry only holds = subst (λ (o : Held). HoldsAt o new id entry) (objects-counted old mid only) holds

-- ---- what a table's entry is

-- an id that a new object may have
pub free-entry : {A : Type 0} (v : Kept A) (id : ℕ) → is_free (objects_in v.client.objects) id ≡ true → IsFree v id
free-entry v id free = at (entry_of v.client.objects id) (bounds (nat_le 1 id) (nat_le id 4278190079) free)
  where
    bounds : (a b : Bool) → (a && (b && not (is_some (objects_in v.client.objects id)))) ≡ true → not (is_some (objects_in v.client.objects id)) ≡ true
    bounds true true e = e
    bounds true false e = absurd (cc)
    bounds false b e = absurd (cc)

    at : (o : Option Entry) → not (is_some (option_map object_of o)) ≡ true → o ≡ None
    at None e = refl
    at (Some entry) e = absurd (cc)

pub new-free : {A : Type 0} (v : Kept A) (m : Message) → ((new : NewId) → new_id_in m ≡ Some new → is_free (objects_in v.client.objects) new.id ≡ true) → NewIsFree v m
new-free v m free = at (new_id_in m) refl
  where
    at : (o : Option NewId) → new_id_in m ≡ o → IfSome o (λ new. IsFree v new.id)
    at None e = tt
    at (Some new) e = free-entry v new.id (free new e)

-- the same is told
pub wants-told : (b : Bool) (told answers : List Said) (p after q : Peer) → told ≡ answers → WantsOr b (Queues answers after q) p q → WantsOr b (Queues told after q) p q
wants-told b told answers p after q same h = subst (λ (es : List Said). WantsOr b (Queues es after q) p q) (sym same) h

-- a request of a surface that is no commit releases nothing
pub asked-releases : (numbers : ById ℕ) (slots : Slots) (tied : Tied) (r : Resident) (id number : ℕ) (request : Request) → is_commit request ≡ false → AreKept numbers slots tied r.owned.surfaces
    → numbers id ≡ Some number
    → told_alone (AskSurface id request) r ≡ answers_to (AskSurface id request) r
asked-releases numbers slots tied r id number request plain kept named =
    let there = surface-named numbers slots tied r.owned.surfaces kept id number named in
    let read = surface-read numbers slots tied r.owned.surfaces kept id number named ∙ there.1 in
    let bounds = cut-bounds (kept_at slots number) there.0 (subst (λ (o : Option Surface). StandsAt (kept_at slots number) o) read (kept.stand number)) in
    requested-still id request plain r there.0 kept.apart there.1 bounds.0 bounds.1

-- the request is counted, and done
pub counted-does : {A : Type 0} (old mid new : Kept A) (r : Resident) (ask : Resident → Ask) → IsResident old r → mid.client ≡ record old.client { requests = mid.client.requests }
    → mid.owned ≡ old.owned → mid.subsurfaces ≡ old.subsurfaces → IsPeer mid.client (counted r.peer)
    → told_alone (ask (with_peer (counted r.peer) r)) (with_peer (counted r.peer) r) ≡ answers_to (ask (with_peer (counted r.peer) r)) (with_peer (counted r.peer) r)
    → Does ask mid new → AnswersSo (Ok (ask (with_peer (counted r.peer) r))) r old new
counted-does old mid new r ask is only same kept peer told does =
    let one_more : Resident = with_peer (counted r.peer) r in
    let done = does one_more (counted-on old mid r is only same kept peer) in
    (done.0, wants-told (takes_memory (ask one_more)) _ _ one_more.peer _ done.0 told done.1, left-from old mid new _ done.0 (objects-counted old.client mid.client only) done.2)

pub surface-counted : (old mid : ClientView) (id number : ℕ) → mid ≡ record old { requests = mid.requests } → targets_in WlSurface old.objects id ≡ Some number
    → targets_in WlSurface mid.objects id ≡ Some number
surface-counted old mid id number only named = ap (λ (held : Held). targets_in WlSurface held id) (objects-counted old mid only) ∙ named
