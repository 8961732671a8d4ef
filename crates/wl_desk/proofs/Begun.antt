-- Which toplevel is moved after a message.
use Rattle.std.proofs.Common.{◌≡◌, ◌≢◌, ℕ, List, Bool, true, false, Option, Some, None, if◌then◌else◌, refl, ap, ap₂, subst, sym, ◌∙◌}
use Rattle.std.proofs.lemmas.Bool.{true≢false}
use Rattle.std.specs.Prelude.{◌&&◌, is_some}
use Rattle.spec_desktop.specs.declared.cause.Cause.{Cause}
use Rattle.spec_desktop.specs.Objects.{ById}
use Rattle.spec_desktop.specs.Pointer.{Pointer, Target, settled}
use Rattle.spec_desktop.specs.Stacking.{Standing}
use Rattle.spec_desktop.specs.Changing.{is_focus_in, is_serial, kept_move}
use Rattle.spec_desktop.specs.Demand.{Demand, Asks, EndSurface, AskFrame, CommitTree, GetSubsurface, EndSubsurface, SetMode, GetPointer, MakeCursor, Reposition}
use Rattle.spec_desktop.specs.Demand.{GetPopup, Grab, EndPopup, EndToplevel, Move}
use Rattle.spec_desktop.specs.Desktop.{Desktop, status_in, unpointed}
use Rattle.spec_desktop.specs.Settling.{pointer_without, unless_of}
use Rattle.spec_desktop.specs.Stacked.{all_windows}
use Rattle.spec_desktop.specs.Through.{ServesThrough}
use Rattle.wl_scene.specs.Focus.{unless_of as unless_of_scene}
use Rattle.law_desktop.specs.Focus.{IsSettled}
use Rattle.law_desktop.specs.Pointed.Pointed.{MovedStands, asked, keeping, pointed, pointer_after, pointer_asked, pointer_for, pointer_if}
use Rattle.law_desktop.proofs.PointerAside.Pointers.{keeping-stays}
use Rattle.wl_requests.specs.declared.pointer_asked.PointerAsked.{PointerAsked}
use Rattle.wl_clients.specs.Pointing.{AsksOfPointer}
use Rattle.wl_clients.specs.Touching.{HitsStay}
use Rattle.wl_desk.specs.Agreeing.{IsPlaced}
use Rattle.wl_desk.specs.Beginning.{IsMovable, IsToMove, begun, chosen_by, moved_by}
use Rattle.wl_desk.specs.declared.moves.Movable.{Movable}
use Rattle.wl_desk.proofs.Asking.{refused-ends}
use Rattle.wl_desk.specs.Following.{left_of}
use Rattle.wl_desk.proofs.Finished.{get-stands, move-lives}
use Rattle.wl_desk.proofs.Focused.{LooksAs, settled-still}
use Rattle.wl_desk.proofs.Forgetting.{over-left}
use Rattle.wl_desk.proofs.Placed.{after-placed}

-- ---- by what is asked

abbrev pub to_move : Option Demand → ℕ → Desktop → Option Target
to_move None c d = None
to_move (Some demand) c d = moved_by demand c d

-- what is asked begins to move a toplevel, or leaves the pointer as it is
for-begun : (demand : Demand) (c : ℕ) (d : Desktop) → pointer_for demand c d ≡ begun (moved_by demand c d) d.pointer
for-begun (Move surface serial) c d = at (is_serial serial d.pointer.hold && is_focus_in c surface d.pointer.focus (all_windows d))
  where
    at : (b : Bool) → (if b then record d.pointer { move = Some (record { client = c; surface = surface }) } else d.pointer)
        ≡ begun (if b then Some (record { client = c; surface = surface }) else None) d.pointer
    at true = refl
    at false = refl
for-begun demand c d = refl

asked-begun : (o : Option Demand) (c : ℕ) (d : Desktop) → pointer_asked o c d ≡ begun (to_move o c d) d.pointer
asked-begun None c d = refl
asked-begun (Some demand) c d = for-begun demand c d

-- the pointer after a message, by the toplevel that it begins to move, and how its client is then
pub after-begun : (c : ℕ) (d e : Desktop) → pointer_after c d e ≡ keeping e.standing (pointer_if (status_in c e) c (begun (to_move (asked c d) c d) d.pointer))
after-begun c d e = ap (λ (p : Pointer). keeping e.standing (pointer_if (status_in c e) c p)) (asked-begun (asked c d) c d)

-- what it moves stands then
pub back-placed : (c : ℕ) (d e : Desktop) → IsPlaced d → IsPlaced (pointed (pointer_after c d e) e)
back-placed c d e placed =
    subst (λ (p : Pointer). IsPlaced (pointed p e)) (sym (after-begun c d e))
    (after-placed (status_in c e) c (to_move (asked c d) c d) d.pointer e placed.nowhere)

-- ---- where its client ended

-- a message that ends its client doesn't begin to move a toplevel
pub none-begun : (c : ℕ) (d : Desktop) (path : List Desktop) (e : Desktop) → ServesThrough c (unpointed d) path e → is_some (status_in c e) ≡ true
    → to_move (asked c d) c d ≡ None
none-begun c d path e leads over = by (asked c d) refl
  where
    by : (o : Option Demand) → asked c d ≡ o → to_move o c d ≡ None
    by None is = refl
    by (Some (Move surface serial)) is =
        absurd (true≢false (sym over ∙ ap (λ (s : Option Cause). is_some s) (move-lives c surface serial d path e is leads)))
    by (Some demand) is = refl

pub after-end : (c : ℕ) (why : Cause) (d : Desktop) (path : List Desktop) (e : Desktop) → ServesThrough c (unpointed d) path e → status_in c e ≡ Some why
    → pointer_after c d e ≡ keeping e.standing (pointer_without c d.pointer)
after-end c why d path e leads over =
    after-begun c d e
    ∙ ap₂ (λ (s : Option Cause) (t : Option Target). keeping e.standing (pointer_if s c (begun t d.pointer))) over
    (none-begun c d path e leads (ap (λ (s : Option Cause). is_some s) over))

-- ---- where it lives

-- the toplevel that is moved from now on is the one of which this was asked
to-move-is : (o : Option Demand) (c : ℕ) (d : Desktop) (t : Option Target) → o ≢ None → IsToMove o c d t → t ≡ to_move o c d
to-move-is None c d t some is = absurd (some refl)
to-move-is (Some demand) c d t some is = is

pub after-life : (c : ℕ) (d : Desktop) (path : List Desktop) (e : Desktop) (t : Option Target) → ServesThrough c (unpointed d) path e → status_in c e ≡ None
    → IsToMove (asked c d) c d t → pointer_after c d e ≡ keeping e.standing (begun t d.pointer)
after-life c d path e t leads alive is =
    let same : t ≡ to_move (asked c d) c d =
    to-move-is (asked c d) c d t
    (λ none. absurd (true≢false (sym (refused-ends c d path e none leads) ∙ ap (λ (s : Option Cause). is_some s) alive))) is in
    after-begun c d e
    ∙ ap₂ (λ (s : Option Cause) (m : Option Target). keeping e.standing (pointer_if s c (begun m d.pointer))) alive (sym same)

begun-looks : (t : Option Target) (standing : List Standing) (p : Pointer) → LooksAs p (keeping standing (begun t p))
begun-looks None standing p = record { place = refl; buttons = refl; focus = refl }
begun-looks (Some t) standing p = record { place = refl; buttons = refl; focus = refl }

-- the focus is settled still where each point hits what it hit
pub after-settled : (c : ℕ) (d e : Desktop) → status_in c e ≡ None → IsSettled d → HitsStay (unpointed d) e → IsSettled (pointed (pointer_after c d e) e)
after-settled c d e alive is stay =
    let t : Option Target = to_move (asked c d) c d in
    let after : pointer_after c d e ≡ keeping e.standing (begun t d.pointer) =
    after-begun c d e ∙ ap (λ (s : Option Cause). keeping e.standing (pointer_if s c (begun t d.pointer))) alive in
    subst (λ (p : Pointer). p.focus ≡ settled p (all_windows e)) (sym after)
    (settled-still d.pointer (keeping e.standing (begun t d.pointer)) (unpointed d) e (begun-looks t e.standing d.pointer) stay is)

-- a new wl_pointer leaves the pointer as it is
pub after-get : (c id version : ℕ) (d : Desktop) (path : List Desktop) (e : Desktop) → MovedStands d → asked c d ≡ Some (GetPointer id version)
    → ServesThrough c (unpointed d) path e → status_in c e ≡ None → pointer_after c d e ≡ d.pointer
after-get c id version d path e moved asks leads alive =
    let stands : e.standing ≡ d.standing = get-stands c id version d path e asks leads alive in
    after-begun c d e
    ∙ ap₂ (λ (s : Option Cause) (o : Option Demand). keeping e.standing (pointer_if s c (begun (to_move o c d) d.pointer))) alive asks
    ∙ keeping-stays d.pointer e.standing (ap (λ (ss : List Standing). kept_move d.pointer.move ss) stands ∙ moved)

-- ---- the toplevel that may be moved

pub asks-move : (numbers : ById ℕ) (o : Option Demand) (c : ℕ) (d : Desktop) (request : PointerAsked) (movable : Option Movable) → AsksOfPointer numbers o request
    → IsMovable numbers c d movable → IsToMove o c d (chosen_by movable request)
asks-move numbers None c d request movable asks is = tt
asks-move numbers (Some (Move surface serial)) c d request movable asks is =
    ap (chosen_by movable) asks.2 ∙ sym (is surface asks.0 serial asks.1)
asks-move numbers (Some demand) c d request movable asks is = ap (chosen_by movable) asks

-- ---- what the scene forgets of a client

unless-same : (c : ℕ) (t : Option Target) → unless_of_scene c t ≡ unless_of c t
unless-same c None = refl
unless-same c (Some t) = refl

pub forgets : (c : ℕ) (p : Pointer) → record p { focus = unless_of_scene c p.focus; move = unless_of_scene c p.move } ≡ pointer_without c p
forgets c p = ap₂ (λ (focus move : Option Target). record p { focus = focus; move = move }) (unless-same c p.focus) (unless-same c p.move)

pub over-forgets : (t : Target) (e : Desktop) (why : Cause) (p q : Pointer) → q ≡ record p { focus = unless_of_scene t.client p.focus; move = unless_of_scene t.client p.move }
    → status_in t.client e ≡ Some why → q ≡ left_of (Some t) e p
over-forgets t e why p q is over = is ∙ forgets t.client p ∙ over-left t e why p over
