-- A demand that is done changes the windows of one toplevel, or none: which by numbers, and what is marked of them.
use Rattle.std.proofs.Common.{◌≡◌, ℕ, ◌<◌, Option, Some, None, List, refl, ap, sym, ◌∙◌, inl, inr, ◌⊎◌}
use Rattle.std.specs.Prelude.{pos}
use Rattle.std.proofs.lemmas.Bool.{or_left}
use Rattle.wl_paint.specs.Damage.{Damaged, has}
use Rattle.spec_desktop.specs.Objects.{ById}
use Rattle.spec_desktop.specs.Peer.{Peer}
use Rattle.wl_links.specs.Family.{links_in, parents_of, root_by}
use Rattle.wl_surface.specs.declared.applied.Change.{Change}
use Rattle.spec_desktop.specs.Changing.{changed_for}
use Rattle.spec_desktop.specs.Demand.{Demand}
use Rattle.spec_desktop.specs.Desktop.{Desktop, Resident, owned_in}
use Rattle.spec_desktop.specs.Stacked.{all_windows}
use Rattle.spec_desktop.specs.Step.{with_peer}
use Rattle.law_desktop.specs.Shown.{ShownStand}
use Rattle.law_desktop.specs.TreeStepsLaws.{IsRootOf}
use Rattle.law_desktop.specs.Ordered.{OwnsOrdered}
use Rattle.law_windows.specs.Telling.{TellsTrees}
use Rattle.law_windows.proofs.TurnedWindows.Naming.{root-is-named}
use Rattle.law_desktop.specs.Changes.{HasTrees}
use Rattle.law_desktop.specs.Done.{IsDone, IsMeant, touched_by}
use Rattle.law_desktop.specs.StackedWith.{popup_of}
use Rattle.law_desktop.specs.Marked.{MarksByTreesBetween}
use Rattle.law_windows.specs.Runs.Demands.{ChangesFound, ChangesNothing, ChangesRun, WasDone}
use Rattle.law_windows.specs.Runs.Kept.{IsNumbered}
use Rattle.law_windows.specs.Runs.Lookup.{toplevel_found}
use Rattle.law_windows.specs.Runs.Marks.{NoneComes}
use Rattle.law_windows.specs.Runs.Numbers.{IsNumberOf}
use Rattle.law_windows.proofs.OneToplevel.Demanded.{no-surface-comes, touches-found, touches-nothing}
use Rattle.wl_requests.specs.declared.residents.Resident.{Resident as Kept}
use Rattle.wl_clients.specs.Finding.{found_by, parent_by, popup_in_shell}
use Rattle.wl_clients.specs.Marking.{MarksAtLeast, MarksMost}
use Rattle.wl_clients.specs.Seats.{IsSeated}
use Rattle.wl_clients.specs.View.{Pile}
use Rattle.wl_clients.proofs.OnScreen.Lookup.{found-number}
use Rattle.wl_clients.proofs.OnScreen.Numbers as seat
use Rattle.wl_clients.proofs.OnScreen.Sitting.{numbers}

-- Where a toplevel was found, its windows change and are marked tree by tree; k is its number. Else none do.
pub record TurnsRun {A : Type 0} (c : ℕ) (numbers : ById ℕ) (f : ℕ → ℕ) (list : List (Change A)) (root : ℕ) (found : Option ℕ) (d e : Desktop) : Type 0 where
  pub toplevel : ℕ
  pub number : ℕ
  pub is_found : found ≡ Some number
  pub named : numbers toplevel ≡ Some number
  pub is_its : toplevel_found c root (popup_of c root d) (all_windows d) ≡ Some toplevel
  pub changes : ChangesRun c toplevel d e f list

abbrev pub Turns : {A : Type 0} → ℕ → ById ℕ → (ℕ → ℕ) → List (Change A) → ℕ → Option ℕ → Desktop → Desktop → Type 0
Turns c numbers f list root found d e = ((found ≡ None) × ChangesNothing d e) ⊎ TurnsRun c numbers f list root found d e

turns-so : {A : Type 0} (c : ℕ) (numbers : ById ℕ) (f : ℕ → ℕ) (list : List (Change A)) (root : ℕ) (found toplevel : Option ℕ) (d e : Desktop)
    → toplevel_found c root (popup_of c root d) (all_windows d) ≡ toplevel → IsNumberOf numbers found toplevel → ChangesFound toplevel c d e f list → Turns c numbers f list root found d e
turns-so c numbers f list root None None d e its is changes = inl (refl, changes)
turns-so c numbers f list root (Some number) (Some toplevel) d e its is changes = inr (record {
  toplevel = toplevel;
  number = number;
  is_found = refl;
  named = is;
  is_its = its;
  changes = changes;
})
turns-so c numbers f list root None (Some toplevel) d e its is changes = absurd is
turns-so c numbers f list root (Some number) None d e its is changes = absurd is

-- a demand was done, by this peer
abbrev pub WasDid : ℕ → Demand → Peer → Resident → Desktop → Desktop → Type 0
WasDid c demand p r d e = IsDone c demand (with_peer p r) d e

module _ {A : Type 0} (c : ℕ) (others : ℕ → ById ℕ) (base d : Desktop) (r : Resident) (old : Kept A) (pile : Pile) (before : IsSeated c others base old pile d r) (trees : HasTrees d)
    (owns : OwnsOrdered r)
    (demand : Demand) (p : Peer) (e : Desktop) (meant : IsMeant demand r) (done : IsDone c demand (with_peer p r) d e) (after : HasTrees e) (shown : ShownStand e) where
  pub was-done : WasDone c r p demand d e
  was-done = record {
    here = before.based.there;
    meant = meant;
    done = done;
    trees_before = trees;
    trees_after = after;
    shown_before = before.mapped;
    shown_after = shown;
  }

  abbrev f : ℕ → ℕ
  f = seat.named_by old

  abbrev nums : ℕ → ById ℕ
  nums = seat.nums c others base d r old pile before

  -- nothing is touched
  pub changes-nothing : touched_by demand r ≡ None → ChangesNothing d e
  changes-nothing none = touches-nothing c r p demand d e was-done none

  -- a surface
  module _ (id number : ℕ) (touched : touched_by demand r ≡ Some id) (named : numbers old id ≡ Some number)
      (none : links_in old.owned.surfaces.family (root_by 16 (parents_of (links_in old.owned.surfaces.family)) number) ≡ None) where
    abbrev pub k : ℕ
    k = root_by 16 (parents_of (links_in old.owned.surfaces.family)) number

    pub found-root : (root : ℕ) × IsRootOf r.owned.surfaces id root × (numbers old root ≡ Some k)
    found-root =
        root-is-named (numbers old) old.owned.surfaces.states old.owned.surfaces.family r.owned.surfaces before.seat.owns.surfaces owns.order.trees owns.order.numbered id number named none

    abbrev pub root : ℕ
    root = found-root.0

    pub nums-root : nums c root ≡ Some k
    nums-root = ap (λ (n : ById ℕ). n root) (seat.nums-own c others base d r old pile before) ∙ found-root.2

    pub comes : NoneComes (owned_in d c).surfaces (owned_in e c).surfaces
    comes = no-surface-comes c id r p demand d e before.based.there done touched

    -- what is found of its toplevel
    pub turns : MarksByTreesBetween → (list : List (Change A)) → TellsTrees f list r.owned.surfaces (changed_for c demand (with_peer p r) d).owned.surfaces → (found : Option ℕ)
        → found ≡ found_by c k (parent_by (seat.its c others base d r old pile before) (popup_in_shell old.owned.shell k)) pile.windows
        → Turns c (nums c) f list root found d e
    turns between list tells found is =
        turns-so c (nums c) f list root found (toplevel_found c root (popup_of c root d) (all_windows d)) d e refl
        (found-number c others base d r old pile before trees root k nums-root found is)
        (touches-found A between c id root r p demand d e was-done touched found-root.1 f list (seat.renaming c others base d r old pile before) tells)

    -- What is kept stands for the windows that change.
    pub numbered : (toplevel number : ℕ) → nums c toplevel ≡ Some number → IsNumbered nums pile.windows c toplevel number f d e
    numbered toplevel number named_so = record {
      are = before.windows;
      named = named_so;
      once = seat.once-own c others base d r old pile before;
      by = seat.number-before c others base d r old pile before;
      stay = comes;
    }

-- ---- a message that changes no windows

pub untouched-least : (d e : Desktop) → ChangesNothing d e → (d0 d2 : Damaged) → ((x y : ℕ) → x < d0.width → y < d0.height → has d2 x y ≡ has d0 x y) → MarksAtLeast d e d0 d2
untouched-least d e stays d0 d2 points x y wide high clean = (sym (points x y wide high) ∙ clean, stays.unmarked (pos x) (pos y))

pub untouched-most : (d e : Desktop) (d0 d2 : Damaged) → ((x y : ℕ) → x < d0.width → y < d0.height → has d2 x y ≡ has d0 x y) → MarksMost d e d0 d2
untouched-most d e d0 d2 points x y wide high marked = or_left (has d0 x y) _ (sym (points x y wide high) ∙ marked)
