-- What is known before a message that touches a surface, from what was prepared for it.
use Rattle.std.proofs.Common.{◌≡◌, ℕ, Bool, true, false, Option, Some, None, List, [], refl, sym, subst, ◌∙◌}
use Rattle.std.proofs.lemmas.Bool.{true≢false}
use Rattle.std.proofs.lemmas.Option.{none-some, same_Some}
use Rattle.std.specs.Prelude.{Result, Ok, Err, OnOk, is_ok, is_some}
use Rattle.std.specs.declared.alloc.AllocError.{AllocError}
use Rattle.wl_links.specs.Family.{links_in, parents_of, root_by}
use Rattle.spec_desktop.specs.Objects.{ById}
use Rattle.spec_desktop.specs.Desktop.{Desktop, Resident, Subsurface}
use Rattle.law_desktop.specs.Subsurfaces.{AreOfSurfaces}
use Rattle.wl_requests.specs.declared.messages.Asked.{Asked}
use Rattle.wl_requests.specs.declared.messages.Asked.TheVariants as asked
use Rattle.wl_requests.specs.declared.messages.Kind.{Kind}
use Rattle.wl_requests.specs.declared.messages.Kind.TheVariants as kind
use Rattle.wl_requests.specs.declared.pointer_asked.PointerAsked.TheVariants.{NewPointer}
use Rattle.wl_requests.specs.declared.residents.Placing.{Placing}
use Rattle.wl_requests.specs.declared.residents.Resident.{Resident as Kept}
use Rattle.wl_requests.specs.declared.residents.Stacking.{Stacking}
use Rattle.wl_requests.specs.declared.xdg_toplevel.ToplevelAsked.TheVariants.{Move as MoveAsked}
use Rattle.wl_requests.specs.Messages.{IsAsked, IsTouchOfAsked}
use Rattle.wl_requests.specs.PointerAsks.{pointer_asked_by, pointer_in}
use Rattle.wl_requests.specs.Touching.{IsTouched, Touch}
use Rattle.wl_shell.specs.Agreement.{IsShell}
use Rattle.spec_desktop.specs.Stacking.{Owned}
use Rattle.wl_surface.specs.State.{History}
use Rattle.wl_surface.specs.Slots.{count}
use Rattle.wl_surface.specs.declared.applied.Applied.{Applied}
use Rattle.wl_shell.specs.Kept.{kept_of}
use Rattle.wl_clients.specs.declared.screen.screens.Screen.{Screen}
use Rattle.wl_clients.specs.Finding.{IsPlacedBy, found_by, parent_by, popup_in_shell}
use Rattle.wl_clients.specs.Screens.{HasRoom, IsSameScreen, IsTouchedBy, IsTouchedIn, root_in, run_kept}
use Rattle.wl_clients.proofs.OnScreen.Assembling.{Asks}
use Rattle.wl_clients.proofs.OnScreen.Given.{HoldsGiven, TakesGiven, TakesGivenAs}

-- ---- what was prepared

prepared-so : (result : Result (Unit {0}) AllocError) (P : Type 0) → is_ok result ≡ true → OnOk result P → P
prepared-so (Ok u) P ok h = h
prepared-so (Err e) P ok h = absurd (true≢false (sym ok))

pub asks-so : {A : Type 0} (c : ℕ) (r : Resident) (d : Desktop) (v mid : Kept A) (b : Bool) (was ready : Screen A)
    (asked : Asked) (placing : Placing) (surface root : ℕ) (found : Option ℕ) (stacking : Stacking)
    (applied : Option (Applied A)) (result : Result (Unit {0}) AllocError) (surfaces : ℕ)
    → v.client.ended ≡ None → IsAsked v.client asked → IsTouchedBy v asked (Some surface) → root_in v (Some surface) ≡ Some root → links_in v.owned.surfaces.family root ≡ None
    → ((o : Owned) (histories : ℕ → Option History) → IsShell (kept_of v.owned.shell) histories o.shell
    → found ≡ found_by c root (parent_by o (popup_in_shell v.owned.shell root)) was.stacked.windows)
    → IsPlacedBy was c v asked placing → TakesGiven asked placing c r d v mid stacking
    → ((touch : Touch) → IsTouchOfAsked asked v touch → TakesGivenAs (is_some applied) asked placing c r d v mid)
    → ((touch : Touch) → IsTouchOfAsked asked v touch → IsTouched touch v.owned.surfaces mid.owned.surfaces applied)
    → ((touch : Touch) → IsTouchOfAsked asked v touch → is_some applied ≡ true → HoldsGiven asked placing c r d v mid)
    → (((touch : Touch) → IsTouchOfAsked asked v touch → ⊥) → (numbers : ById ℕ) (subsurfaces : List Subsurface) → AreOfSurfaces v.subsurfaces numbers subsurfaces → applied ≡ None)
    → (is_some applied ≡ true → b ≡ true) → b ≡ is_ok result → surfaces ≡ count v.owned.surfaces.states → IsSameScreen was ready
    → OnOk result (ready.spare.was.items ≡ run_kept c found was.stacked.windows) → OnOk result (HasRoom surfaces ready)
    → ready.spare.is.items ≡ [] → (numbers : ById ℕ) (subsurfaces : List Subsurface) → AreOfSurfaces v.subsurfaces numbers subsurfaces
    → Asks c r d v mid was ready asked placing surface root found stacking applied
asks-so c r d v mid b was ready asked placing surface root found stacking applied result surfaces lives asks by root_is top found_is placed takes decides touched_so holds nothing room ok counted same
    kept has_room empty numbers subsurfaces are =
    record {
      lives = lives;
      asks = asks;
      by = by;
      root_is = sym (same_Some (root_by 16 (parents_of (links_in v.owned.surfaces.family)) surface) root root_is);
      top = top;
      found_is = found_is;
      placed = placed;
      takes = takes;
      decides = decides;
      touched_so = touched_so;
      holds = holds;
      nothing = λ never. nothing never numbers subsurfaces are;
      same = same;
      kept = λ some. prepared-so result _ (sym ok ∙ room some) kept;
      room = λ some. subst (λ (n : ℕ). HasRoom n ready) counted (prepared-so result _ (sym ok ∙ room some) has_room);
      empty = empty;
    }

pub ended-so : {X : Type 0} (o : Option X) → is_some o ≡ true → (x : X) × (o ≡ Some x)
ended-so None some = absurd (true≢false (sym some))
ended-so (Some x) some = (x, refl)

pub lives-so : {X : Type 0} (o : Option X) → is_some o ≡ false → o ≡ None
lives-so None none = refl
lives-so (Some x) none = absurd (true≢false none)

-- ---- a wl_pointer is asked for by a message that touches no tree

only-seats : (target : ℕ) (k : Kind) (id : ℕ) → pointer_asked_by target k ≡ NewPointer id → {A : Type 0} (v : Kept A) (object surface : ℕ) → IsTouchedIn v object target k (Some surface) → ⊥
only-seats target (kind.Seat request) id e v object surface there = none-some surface (sym there)
only-seats target (kind.Toplevel (MoveAsked serial)) id e v object surface there = cc
only-seats target k id e v object surface there = cc

pub no-pointer : {A : Type 0} (v : Kept A) (a : Asked) (surface id : ℕ) → IsTouchedBy v a (Some surface) → pointer_in a ≡ NewPointer id → ⊥
no-pointer v (asked.Request object version size target k) surface id there e = only-seats target k id e v object surface there
no-pointer v a surface id there e = cc
