-- A popup is dismissed by a grab that is refused, and by the end of a toplevel, and by nothing else that is demanded.
use Rattle.std.proofs.Common.{◌≡◌, ℕ, List, [], ◌∷◌, ◌++◌, Bool, true, false, cond, Option, Some, None, map, refl, ap, sym, ◌∙◌}
use Rattle.std.proofs.lemmas.Bool.{true≢false}
use Rattle.std.specs.Prelude.{◌==◌, ◌||◌, filter, flat_map, fold, if◌then◌else◌, nat_lt, not}
use Rattle.wl_proto.specs.declared.interface.Interface.TheVariants.{XdgPopup}
use Rattle.wl_proto.specs.Messages.{says}
use Rattle.spec_desktop.specs.Told.{said}
use Rattle.wl_shell.specs.Popups.{Popped, by_number, is_among, is_parent_of, popped_kind, popped_of, popped_role, popups_of}
use Rattle.wl_shell.specs.Shell.{IsPopup, Kind, Popup, RoleObject, Shell, Toplevel, XdgSurface as Xdg}
use Rattle.spec_desktop.specs.Changing.{changed_for}
use Rattle.spec_desktop.specs.Desktop.{Resident}
use Rattle.spec_desktop.specs.Replies.{dismissed_in, newest_first}
use Rattle.law_desktop.proofs.Marks.Stacks.{equal-numbers}
use Rattle.law_desktop.specs.InOrderLaws.{OthersDismissNone}
use Rattle.law_desktop.proofs.EachPopup.{IsSteadyOf, OfEach, OfKind, OfRole, each-stays}

-- the ids of what is dismissed are among these
abbrev IsIn : List ℕ → ℕ → Popup → Type 0
IsIn ids id popup = popup.is_dismissed ≡ true → is_among id ids ≡ true

in-steady : (ids : List ℕ) → IsSteadyOf (IsIn ids)
in-steady ids = record {
  placed = λ positioner placement waiting id p is. is;
  ungrabbed = λ id p is. is;
  orphaned = λ xdg id p is. at (is_parent_of xdg p) p is;
}
  where
    at : {P : Type 0} (b : Bool) (p : Popup) → (p.is_dismissed ≡ true → P) → (if b then record p { parent = None } else p).is_dismissed ≡ true → P
    at true p is = is
    at false p is = is

-- ---- lists

AreIn : List ℕ → List ℕ → Type 0
AreIn ids [] = Unit {0}
AreIn ids (id ∷ more) = (is_among id ids ≡ true) × AreIn ids more

-- each popup of these has its id among them, if it is dismissed
PoppedIn : List ℕ → List Popped → Type 0
PoppedIn ids [] = Unit {0}
PoppedIn ids (p ∷ ps) = IsIn ids p.object.id p.popup × PoppedIn ids ps

in-among : (ids : List ℕ) (p : Popped) (ps : List Popped) → IsIn ids p.object.id p.popup → PoppedIn ids ps → PoppedIn ids (by_number p ps)
unfolding PoppedIn
in-among ids p [] it all = (it, tt)
in-among ids p (q ∷ qs) it all = at (nat_lt p.popup.number q.popup.number) (in-among ids p qs it all.1)
  where
    at : (b : Bool) → PoppedIn ids (by_number p qs) → PoppedIn ids (if b then p ∷ q ∷ qs else q ∷ by_number p qs)
    at true later = (it, all)
    at false later = (all.0, later)

among-in : (ids : List ℕ) (p : Popped) (ps : List Popped) → PoppedIn ids (by_number p ps) → IsIn ids p.object.id p.popup × PoppedIn ids ps
unfolding PoppedIn
among-in ids p [] all = (all.0, tt)
among-in ids p (q ∷ qs) all = at (nat_lt p.popup.number q.popup.number) (among-in ids p qs) all
  where
    at : (b : Bool) → (PoppedIn ids (by_number p qs) → IsIn ids p.object.id p.popup × PoppedIn ids qs) → PoppedIn ids (if b then p ∷ q ∷ qs else q ∷ by_number p qs)
        → IsIn ids p.object.id p.popup × (IsIn ids q.object.id q.popup × PoppedIn ids qs)
    at true later all = (all.0, all.1)
    at false later all = let k = later all.1 in (k.0, (all.0, k.1))

in-ordered : (ids : List ℕ) (acc ps : List Popped) → PoppedIn ids acc → PoppedIn ids ps → PoppedIn ids (fold (λ qs p. by_number p qs) acc ps)
unfolding PoppedIn
in-ordered ids acc [] first all = first
in-ordered ids acc (p ∷ ps) first all = in-ordered ids (by_number p acc) ps (in-among ids p acc all.0 first) all.1

ordered-in : (ids : List ℕ) (acc ps : List Popped) → PoppedIn ids (fold (λ qs p. by_number p qs) acc ps) → PoppedIn ids acc × PoppedIn ids ps
unfolding PoppedIn
ordered-in ids acc [] all = (all, tt)
ordered-in ids acc (p ∷ ps) all =
    let k = ordered-in ids (by_number p acc) ps all in
    let first = among-in ids p acc k.0 in
    (first.1, (first.0, k.1))

none-in : (ids : List ℕ) → PoppedIn ids []
unfolding PoppedIn
none-in ids = tt

nothing-in : (ids : List ℕ) → AreIn ids []
unfolding AreIn
nothing-in ids = tt

-- ---- the xdg_surfaces

in-before : (ids : List ℕ) (x : Xdg) (ps : List Popped) → OfRole (IsIn ids) x.role → PoppedIn ids ps → PoppedIn ids (popped_of x ++ ps)
unfolding PoppedIn
in-before ids x ps it all = at x.role it
  where
    kind : (object : RoleObject) (k : Kind) → OfKind (IsIn ids) object.id k → PoppedIn ids (popped_kind x object k ++ ps)
    kind object Toplevel it = all
    kind object (IsPopup popup) it = (it, all)

    at : (o : Option RoleObject) → OfRole (IsIn ids) o → PoppedIn ids (popped_role x o ++ ps)
    at None it = all
    at (Some object) it = kind object object.kind it

before-in : (ids : List ℕ) (x : Xdg) (ps : List Popped) → PoppedIn ids (popped_of x ++ ps) → OfRole (IsIn ids) x.role × PoppedIn ids ps
unfolding PoppedIn
before-in ids x ps all = at x.role all
  where
    kind : (object : RoleObject) (k : Kind) → PoppedIn ids (popped_kind x object k ++ ps) → OfKind (IsIn ids) object.id k × PoppedIn ids ps
    kind object Toplevel all = (tt, all)
    kind object (IsPopup popup) all = (all.0, all.1)

    at : (o : Option RoleObject) → PoppedIn ids (popped_role x o ++ ps) → OfRole (IsIn ids) o × PoppedIn ids ps
    at None all = (tt, all)
    at (Some object) all = kind object object.kind all

in-popped : (ids : List ℕ) (shell : Shell) → OfEach (IsIn ids) shell → PoppedIn ids (flat_map popped_of shell)
unfolding PoppedIn
in-popped ids [] all = tt
in-popped ids (x ∷ xs) all = in-before ids x (flat_map popped_of xs) all.0 (in-popped ids xs all.1)

popped-in : (ids : List ℕ) (shell : Shell) → PoppedIn ids (flat_map popped_of shell) → OfEach (IsIn ids) shell
unfolding PoppedIn
popped-in ids [] all = tt
popped-in ids (x ∷ xs) all = let k = before-in ids x (flat_map popped_of xs) all in (k.0, popped-in ids xs k.1)

-- ---- those that are dismissed

abbrev dismissed_of : Popped → List ℕ
dismissed_of p = if p.popup.is_dismissed then p.object.id ∷ [] else []

-- they are in themselves, and in what they are added to
self-in : (before : List ℕ) (ps : List Popped) → ((id : ℕ) → is_among id (flat_map dismissed_of ps) ≡ true → is_among id before ≡ true) → PoppedIn before ps
unfolding PoppedIn
self-in before [] all = tt
self-in before (p ∷ ps) all = (first p.popup.is_dismissed all, self-in before ps (λ id is. all id (later p.popup.is_dismissed id is)))
  where
    first : (b : Bool) → ((id : ℕ) → is_among id ((if b then p.object.id ∷ [] else []) ++ flat_map dismissed_of ps) ≡ true → is_among id before ≡ true) → b ≡ true
        → is_among p.object.id before ≡ true
    first true all is = all p.object.id (ap (λ (k : Bool). k || is_among p.object.id (flat_map dismissed_of ps)) (equal-numbers p.object.id p.object.id refl))
    first false all is = absurd (true≢false (sym is))

    later : (b : Bool) (id : ℕ) → is_among id (flat_map dismissed_of ps) ≡ true → is_among id ((if b then p.object.id ∷ [] else []) ++ flat_map dismissed_of ps) ≡ true
    later true id is = or-later (p.object.id == id) is
      where
        or-later : (a : Bool) {b : Bool} → b ≡ true → (a || b) ≡ true
        or-later true e = refl
        or-later false e = e
    later false id is = is

all-in : (ids : List ℕ) (ps : List Popped) → PoppedIn ids ps → AreIn ids (flat_map dismissed_of ps)
unfolding PoppedIn AreIn
all-in ids [] all = tt
all-in ids (p ∷ ps) all = at p.popup.is_dismissed all.0 (all-in ids ps all.1)
  where
    at : (b : Bool) → (b ≡ true → is_among p.object.id ids ≡ true) → AreIn ids (flat_map dismissed_of ps) → AreIn ids ((if b then p.object.id ∷ [] else []) ++ flat_map dismissed_of ps)
    at true it later = (it refl, later)
    at false it later = later

-- the newest first
turned-in : (ids acc more : List ℕ) → AreIn ids acc → AreIn ids more → AreIn ids (fold (λ later id. id ∷ later) acc more)
unfolding AreIn
turned-in ids acc [] first all = first
turned-in ids acc (id ∷ more) first all = turned-in ids (id ∷ acc) more (all.0, first) all.1

none-left : (ids more : List ℕ) → AreIn ids more → filter (λ id. not (is_among id ids)) more ≡ []
unfolding AreIn
none-left ids [] all = refl
none-left ids (id ∷ more) all = at (is_among id ids) all.0 (none-left ids more all.1)
  where
    at : (b : Bool) → b ≡ true → filter (λ id. not (is_among id ids)) more ≡ []
        → cond (not b) (id ∷ filter (λ id. not (is_among id ids)) more) (filter (λ id. not (is_among id ids)) more) ≡ []
    at true is later = later
    at false is later = absurd (true≢false (sym is))

pub others_dismiss_none : OthersDismissNone
others_dismiss_none c demand r d none =
    ap (λ (ids : List ℕ). map (λ id. said id (says XdgPopup 1 [])) ids) (none-left was (newest_first (dismissed_in made.owned.shell)) in-new)
  where
    was : List ℕ
    was = dismissed_in r.owned.shell

    made : Resident
    made = changed_for c demand r d

    before : OfEach (IsIn was) r.owned.shell
    before =
        popped-in was r.owned.shell (ordered-in was [] (flat_map popped_of r.owned.shell) (self-in was (popups_of r.owned.shell) (λ id is. is))).1

    after : OfEach (IsIn was) made.owned.shell
    after =
        each-stays (IsIn was) (in-steady was) c demand r d (λ id parent positioner is. absurd (true≢false (sym is))) (λ xdg serial allowed id p is. is)
        (λ may. absurd (true≢false (sym may ∙ none))) before

    in-new : AreIn was (newest_first (dismissed_in made.owned.shell))
    in-new =
        turned-in was [] (dismissed_in made.owned.shell) nothing
        (all-in was (popups_of made.owned.shell) (in-ordered was [] (flat_map popped_of made.owned.shell) none-yet (in-popped was made.owned.shell after)))
      where
        nothing : AreIn was []
        nothing = nothing-in was

        none-yet : PoppedIn was []
        none-yet = none-in was
