-- What is moved stands, and a pointer that isn't anywhere has no focus: where clients end, and where the focus is settled.
use Rattle.std.proofs.Common.{◌≡◌, ℕ, List, [], ◌∷◌, ◌++◌, map, Bool, true, false, Option, Some, None, if◌then◌else◌, refl, ap, ap₂, subst, sym, ◌∙◌}
use Rattle.std.specs.List.{list_any}
use Rattle.spec_desktop.specs.declared.cause.Cause.{Cause}
use Rattle.spec_desktop.specs.Pointer.{Pointer, Target, settled}
use Rattle.spec_desktop.specs.PointerActions.{PointerInput, Settle}
use Rattle.spec_desktop.specs.Stacking.{Standing, is_of}
use Rattle.spec_desktop.specs.Changing.{kept_move}
use Rattle.spec_desktop.specs.declared.answers.Done.{Done}
use Rattle.spec_desktop.specs.Act.{Tick}
use Rattle.spec_desktop.specs.Desktop.{Desktop, Resident, client_at, unpointed}
use Rattle.spec_desktop.specs.Happenings.{Happening, Leads, Single}
use Rattle.spec_desktop.specs.Settling.{Midstep, PointerActs, Settles, Strike, ended_at, ended_by, pointer_without, unless_of}
use Rattle.spec_desktop.specs.Stacked.{all_windows}
use Rattle.law_desktop.specs.Focus.{IsSettled}
use Rattle.law_desktop.proofs.Runs.Settled.{HasFocus, has-settled}
use Rattle.law_desktop.specs.Pointed.Apart.{SettlesOn}
use Rattle.law_desktop.specs.Pointed.Happenings.{IsEndOf, pointer_left, unless_ended}
use Rattle.law_desktop.specs.Pointed.Pointed.{MovedStands, keeping, pointed, pointer_if}
use Rattle.law_desktop.proofs.PointerAside.Frames.{frames-apart}
use Rattle.law_desktop.proofs.PointerAside.Happenings.{ends-apart}
use Rattle.law_desktop.proofs.PointerAside.Moved.{KeepsMoved, acts-keep, moved-stands-on}
use Rattle.law_desktop.proofs.PointerAside.Pointers.{kept-without}
use Rattle.law_desktop.proofs.PointerAside.Rounds.{settled-at-once}
use Rattle.wl_desk.specs.Agreeing.{IsPlaced}
use Rattle.wl_desk.specs.Beginning.{begun}
use Rattle.wl_desk.proofs.Points.{settled-nowhere}

-- ---- what the pointer does

stands-on : (d e : Desktop) → KeepsMoved d e → MovedStands d → MovedStands e
stands-on d e keeps stands =
    keeps.kept e.pointer.move ∙ ap (λ (t : Option Target). kept_move t d.standing) keeps.move ∙ stands ∙ sym keeps.move

-- whatever it does, what is moved stands
pub acts-stand : (input : PointerInput) (old new : Midstep) → PointerActs input old new → MovedStands old.desktop → MovedStands new.desktop
acts-stand input old new acts stands = stands-on old.desktop new.desktop (acts-keep input old new acts) stands

-- where the focus is settled
pub settled-placed : (m n : Midstep) → Settles m n → IsPlaced m.desktop → IsPlaced n.desktop
settled-placed m n settles placed =
    let has : HasFocus (settled m.desktop.pointer (all_windows m.desktop)) m n = has-settled m n settles in
    record {
      nowhere = λ none.
          let there : m.desktop.pointer.place ≡ None = sym (ap (λ (p : Pointer). p.place) has.pointer) ∙ none in
          ap (λ (p : Pointer). p.focus) has.pointer ∙ settled-nowhere m.desktop.pointer (all_windows m.desktop) there (placed.nowhere there);
      moved = acts-stand Settle m n settles placed.moved;
    }

-- with the same pointer, where the same toplevels stand
pub placed-as : (d e : Desktop) → e.pointer ≡ d.pointer → e.standing ≡ d.standing → IsPlaced d → IsPlaced e
placed-as d e pointer standing placed = record {
  nowhere = subst (λ (p : Pointer). p.place ≡ None → p.focus ≡ None) (sym pointer) placed.nowhere;
  moved = ap₂ (λ (p : Pointer) (ss : List Standing). kept_move p.move ss) pointer standing ∙ placed.moved ∙ sym (ap (λ (p : Pointer). p.move) pointer);
}

-- ---- a client ends

pub ended-placed : (s : Strike) (d : Desktop) → IsPlaced d → IsPlaced (ended_by s d)
ended-placed s d placed = at (client_at s.client d)
  where
    at : (o : Option Resident) → IsPlaced (ended_at s.client s.cause o d)
    at None = placed
    at (Some r) = record {
      nowhere = λ none. ap (unless_of s.client) (placed.nowhere none);
      moved = kept-without s.client d.pointer.move d.standing ∙ ap (unless_of s.client) placed.moved;
    }

-- ---- with the pointer put aside

-- the same, with the pointer nowhere
abbrev nowhere : Desktop → Desktop
nowhere d = pointed (record { place = None; buttons = []; hold = None; focus = None; move = d.pointer.move }) d

-- A step with the pointer put aside, and then put back: nothing is settled where the pointer is nowhere, and what is moved stands.
stands-back : (h : Happening) (d : Desktop) (put : Desktop → Desktop) (path : List Desktop) (e : Desktop) → MovedStands (nowhere d) → IsSettled (put e)
    → SettlesOn put (Leads h (nowhere d)) path e → MovedStands (put e)
stands-back h d put path e stands still on =
    moved-stands-on.1 h (nowhere d) (map put on.0 ++ put e ∷ put e ∷ []) (put e) stands (on.2 (put e ∷ []) (put e) (settled-at-once (put e) still))

-- the pointer leaves a client that ends
pub end-placed : (c : ℕ) (h : Happening) (d : Desktop) (path : List Desktop) (e : Desktop) → IsEndOf c h → Leads h (unpointed d) path e → IsPlaced d
    → IsPlaced (pointed (pointer_without c d.pointer) e)
end-placed c h d path e end leads placed = record {
  nowhere = λ none. ap (unless_of c) (placed.nowhere none);
  moved = stands-back h d (pointed (pointer_without c (nowhere d).pointer)) path e placed.moved refl (ends-apart c h (nowhere d) path e end leads);
}

-- or those that end where a frame is shown
pub frame-placed : (time : ℕ) (done : Done) (d : Desktop) (path : List Desktop) (e : Desktop) → Leads (Single (Tick time) done) (unpointed d) path e → IsPlaced d
    → IsPlaced (pointed (pointer_left d e) e)
frame-placed time done d path e leads placed = record {
  nowhere = λ none. ap (unless_ended d e) (placed.nowhere none);
  moved = stands-back (Single (Tick time) done) d (λ x. pointed (pointer_left (nowhere d) x) x) path e placed.moved refl
      (frames-apart time done (nowhere d) path e leads);
}

-- ---- after a message

-- what is kept is kept again
kept-again : (t : Option Target) (ss : List Standing) → kept_move (kept_move t ss) ss ≡ kept_move t ss
kept-again None ss = refl
kept-again (Some t) ss = at (list_any (is_of t.client t.surface) ss) refl
  where
    at : (b : Bool) → list_any (is_of t.client t.surface) ss ≡ b → kept_move (if b then Some t else None) ss ≡ (if b then Some t else None)
    at true e = ap (λ (b : Bool). if b then Some t else None) e
    at false e = refl

pub after-placed : (s : Option Cause) (c : ℕ) (t : Option Target) (p : Pointer) (e : Desktop) → (p.place ≡ None → p.focus ≡ None)
    → IsPlaced (pointed (keeping e.standing (pointer_if s c (begun t p))) e)
after-placed s c t p e none = record { nowhere = at s t; moved = kept-again (pointer_if s c (begun t p)).move e.standing }
  where
    at : (s : Option Cause) (t : Option Target) → (pointer_if s c (begun t p)).place ≡ None → (pointer_if s c (begun t p)).focus ≡ None
    at None None nowhere = none nowhere
    at None (Some t) nowhere = none nowhere
    at (Some why) None nowhere = ap (unless_of c) (none nowhere)
    at (Some why) (Some t) nowhere = ap (unless_of c) (none nowhere)
