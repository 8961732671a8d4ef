-- Where nobody points nobody does after what leaves the pointer alone.
use Rattle.std.proofs.Common.{◌≡◌, ℕ, List, Bool, true, false, Option, Some, None, refl, ap, sym, subst, ◌∙◌}
use Rattle.spec_desktop.specs.declared.cause.Cause.{Cause}
use Rattle.wl_shell.specs.Shell.{Effect, Stays, XdgSurface as Xdg, xdg_at, xdg_of}
use Rattle.wl_shell.specs.Positioner.{Positioner}
use Rattle.wl_shell.specs.Popups.{Popped, copying, is_configured, popup_at, repositioning}
use Rattle.spec_desktop.specs.Stacking.{Standing}
use Rattle.spec_desktop.specs.Ask.{Ask, GetToplevel}
use Rattle.spec_desktop.specs.Changing.{Placing, changed_for, drawing, effect_placing, grab_allowed, grabbed, has_focus, holds_grab, in_rising_order, mode_set, placement_now, popup_given_to, tree_committed}
use Rattle.spec_desktop.specs.Changing.{popup_repositioned}
use Rattle.spec_desktop.specs.Demand.{Demand, Asks, CommitTree, SetMode, GetPointer, Reposition}
use Rattle.spec_desktop.specs.Demand.{GetPopup, Grab}
use Rattle.spec_desktop.specs.Demanding.{effect_of_commit}
use Rattle.spec_desktop.specs.Desktop.{Desktop, Resident, client_at, toplevels_of}
use Rattle.spec_desktop.specs.Step.{changed_by, toplevel_given, with_peer, xdg_changed}
use Rattle.law_desktop.specs.NobodyPoints.{NobodyPoints}
use Rattle.law_desktop.specs.NobodyPointsLaws.{EmptyIsUnpointed, EndsKeepUnpointed, FramesKeepUnpointed, GrabsAreRefused, GrabsDismiss, MessagesKeepUnpointed, PiecesKeepUnpointed}
use Rattle.law_desktop.specs.NobodyPointsLaws.{UnpointedStays}
use Rattle.law_desktop.proofs.EachClient.Clients.{AllAre, At, IsKept, empty-all, settled-all}
use Rattle.law_desktop.proofs.EachClient.Steps.{DemandsKeep, counted_of, frame-keeps, happens-keeps, piece-keeps, serves-keeps}
use Rattle.law_desktop.proofs.EachPopup.{OfEach}
use Rattle.law_desktop.proofs.NobodyPoints.Grabs.{HasNone, holds-nobody, holds-none, nobody-holds, none-allowed, none-gained, none-holds}

-- ---- a client by itself

-- it was told of no press and of no release, and its popups have no grab
record IsQuiet (r : Resident) : Type 0 where
  press : r.press ≡ None
  release : r.release ≡ None
  grabs : OfEach HasNone r.owned.shell

-- whatever its status is and whatever stands of it
abbrev Quiet : Option Cause → Resident → List Standing → Type 0
Quiet status r tops = IsQuiet r

abbrev Any : List Standing → Type 0
Any tops = Unit {0}

quiet-kept : IsKept Any Quiet
quiet-kept = record {
  nobody = tt;
  arrives = λ output tops any. record { press = refl; release = refl; grabs = tt };
  ends = λ cause q. record { press = refl; release = refl; grabs = tt };
  goes = λ cause r tops quiet. tt;
  keeps = λ s r p tops same quiet. record { press = quiet.press; release = quiet.release; grabs = quiet.grabs };
  framed = λ r tops quiet. record { press = quiet.press; release = quiet.release; grabs = quiet.grabs };
}

-- ---- what is demanded tells of no button

abbrev HeardSo : Resident → Resident → Type 0
HeardSo r q = (q.press ≡ r.press) × (q.release ≡ r.release)

drawn-heard : (b : Bool) (r : Resident) → HeardSo r (drawing b r)
drawn-heard true r = (refl, refl)
drawn-heard false r = (refl, refl)

effect-heard : (where_to : Placing) (id : ℕ) (effect : Effect) (o : Option Xdg) (r : Resident) → HeardSo r (effect_placing where_to id effect o r)
effect-heard where_to id effect None r = (refl, refl)
effect-heard where_to id Stays (Some x) r = (refl, refl)
effect-heard where_to id effect o r = (refl, refl)

toplevel-heard : (id xdg : ℕ) (o : Option Xdg) (r : Resident) → HeardSo r (toplevel_given id xdg o r)
toplevel-heard id xdg None r = (refl, refl)
toplevel-heard id xdg (Some x) r = (refl, refl)

asked-heard : (ask : Ask) (r : Resident) → HeardSo r (changed_by ask r)
asked-heard (GetToplevel id version xdg) r = toplevel-heard id xdg (xdg_at xdg r.owned.shell) r
asked-heard ask r = (refl, refl)

mode-heard : (link : ℕ) (b : Bool) (r : Resident) → HeardSo r (mode_set link b r)
mode-heard link true r = (refl, refl)
mode-heard link false r = (refl, refl)

popup-heard : (id xdg parent : ℕ) (p : Positioner) (o : Option Xdg) (r : Resident) → HeardSo r (popup_given_to id xdg parent p o r)
popup-heard id xdg parent p None r = (refl, refl)
popup-heard id xdg parent p (Some x) r = (refl, refl)

repositioned-heard : (where_to : Placing) (p : Positioner) (o : Option Popped) (r : Resident) → HeardSo r (popup_repositioned where_to p o r)
repositioned-heard where_to p None r = (refl, refl)
repositioned-heard where_to p (Some q) r =
    drawn-heard (is_configured q) (xdg_changed q.xdg.id (repositioning (is_configured q) r.peer.serial (where_to (copying p q.popup)) p) r)

grabbed-heard : (b : Bool) (xdg : ℕ) (r : Resident) → HeardSo r (grabbed b xdg r)
grabbed-heard true xdg r = (refl, refl)
grabbed-heard false xdg r = (refl, refl)

changed-heard : (c : ℕ) (demand : Demand) (r : Resident) (d : Desktop) → HeardSo r (changed_for c demand r d)
changed-heard c (Asks ask) r d = asked-heard ask r
changed-heard c (CommitTree surface) r d = effect-heard (placement_now c r d) surface (effect_of_commit r surface) (xdg_of surface r.owned.shell) (tree_committed surface r)
changed-heard c (SetMode link synchronised) r d = mode-heard link synchronised r
changed-heard c (GetPointer id version) r d = drawn-heard (has_focus c d.pointer.focus) (record r { pointers = in_rising_order id r.pointers })
changed-heard c (GetPopup id version xdg parent p) r d = popup-heard id xdg parent p (xdg_at xdg r.owned.shell) r
changed-heard c (Reposition xdg token p) r d = repositioned-heard (placement_now c r d) p (popup_at xdg r.owned.shell) r
changed-heard c (Grab xdg serial) r d = grabbed-heard (grab_allowed c xdg serial r d) xdg r
changed-heard c demand r d = (refl, refl)

demands-quiet : DemandsKeep Quiet
demands-quiet c r rest object opcode body demand d judged still quiet =
    let now : Resident = counted_of r rest in
    let heard = changed-heard c demand now d in
    record {
      press = heard.0 ∙ quiet.press;
      release = heard.1 ∙ quiet.release;
      grabs = none-gained c demand now d quiet.press quiet.release quiet.grabs;
    }

-- ---- all of them

of-all : (d : Desktop) → AllAre Any Quiet d → NobodyPoints d
of-all d all =
    record { pointer = all.pointer; told = λ c r is. told c r is; grabs = nobody-holds d (λ c. none (client_at c d) (toplevels_of c d) (all.each c)) }
  where
    quiet : (c : ℕ) (r : Resident) → client_at c d ≡ Some r → IsQuiet r
    quiet c r is = subst (λ o. At Any Quiet o (toplevels_of c d)) is (all.each c)

    told : (c : ℕ) (r : Resident) → client_at c d ≡ Some r → (r.press ≡ None) × (r.release ≡ None)
    told c r is = let k = quiet c r is in (k.press, k.release)

    none : (o : Option Resident) (tops : List Standing) → At Any Quiet o tops → holds_grab o ≡ false
    none None tops any = refl
    none (Some r) tops quiet = none-holds r quiet.grabs

to-all : (d : Desktop) → NobodyPoints d → AllAre Any Quiet d
to-all d nobody = record { pointer = nobody.pointer; each = λ c. at c (client_at c d) refl }
  where
    at : (c : ℕ) (o : Option Resident) → client_at c d ≡ o → At Any Quiet o (toplevels_of c d)
    at c None is = tt
    at c (Some r) is = record {
      press = (nobody.told c r is).0;
      release = (nobody.told c r is).1;
      grabs = holds-none r (sym (ap holds_grab is) ∙ holds-nobody d nobody.grabs c);
    }

-- ---- the laws

pub empty_is_unpointed : EmptyIsUnpointed
empty_is_unpointed output = of-all _ (empty-all Any Quiet quiet-kept output)

pub unpointed_stays : UnpointedStays
unpointed_stays act done d e leaves nobody h = of-all e (happens-keeps Any Quiet quiet-kept demands-quiet act done d e leaves (to-all d nobody) h)

pub messages_keep_unpointed : MessagesKeepUnpointed
messages_keep_unpointed c d e nobody h = of-all e (serves-keeps Any Quiet quiet-kept demands-quiet c d e (to-all d nobody) h)

pub pieces_keep_unpointed : PiecesKeepUnpointed
pieces_keep_unpointed c r bytes d nobody is = of-all _ (piece-keeps Any Quiet quiet-kept c r bytes d (to-all d nobody) is)

pub ends_keep_unpointed : EndsKeepUnpointed
ends_keep_unpointed c r cause d e nobody is h = of-all e (settled-all Any Quiet quiet-kept c cause r d e is (to-all d nobody) h)

pub frames_keep_unpointed : FramesKeepUnpointed
frames_keep_unpointed time c d e nobody h = of-all e (frame-keeps Any Quiet quiet-kept time c d e (to-all d nobody) h)

pub grabs_are_refused : GrabsAreRefused
grabs_are_refused c xdg serial r p d nobody is = let told = nobody.told c r is in none-allowed c xdg serial (with_peer p r) d told.0 told.1

pub grabs_dismiss : GrabsDismiss
grabs_dismiss c xdg serial r p d nobody is = ap (λ (b : Bool). grabbed b xdg (with_peer p r)) (grabs_are_refused c xdg serial r p d nobody is)
