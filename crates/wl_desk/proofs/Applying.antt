-- What is told of what the pointer does is told, one after another.
use Rattle.std.proofs.Common.{◌≡◌, ◌≢◌, ℕ, zero, suc, ◌<◌, ◌≤◌, List, [], ◌∷◌, Bool, true, false, Option, Some, None, refl, ap, subst, sym, ◌∙◌}
use Rattle.std.proofs.Common.{length, map, drop, drop-cons, get_or, arith}
use Rattle.std.specs.Prelude.{filter}
use Rattle.std.proofs.lemmas.List.{drop_all}
use Rattle.spec_desktop.specs.Told.{Said}
use Rattle.spec_desktop.specs.Pointer.{Pointer, Target}
use Rattle.spec_desktop.specs.PointerActions.{PointerAction, Leave, Enter, Motion, Button, Raise, MoveWindow, Dismiss}
use Rattle.spec_desktop.specs.Windows.{Place, Window}
use Rattle.spec_desktop.specs.Changing.{drawing}
use Rattle.spec_desktop.specs.Desktop.{Resident}
use Rattle.spec_desktop.specs.Pointing.{button_told, has_pointers}
use Rattle.spec_desktop.specs.Settling.{Applies, AppliesAll, Midstep, Tells, noted, noted_if, number_of, with_focus}
use Rattle.spec_desktop.specs.Stacked.{all_windows}
use Rattle.law_desktop.proofs.Runs.Settled.{same-windows}
use Rattle.law_desktop.proofs.Lists.Each.{Each}
use Rattle.wl_scene.specs.Focus.{action_of}
use Rattle.wl_scene.specs.declared.actions.Action.{Action}
use Rattle.wl_desk.specs.Doing.{IsTellable, is_told}
use Rattle.wl_desk.specs.Midway.{IsOfFocus, IsTelling}
use Rattle.wl_desk.specs.View.{DeskView}
use Rattle.wl_desk.proofs.Tells.{tells-pointer, tells-shows}

-- ---- one of them

drawing-owned : (b : Bool) (r : Resident) → (drawing b r).owned ≡ r.owned
drawing-owned true r = refl
drawing-owned false r = refl

-- a client that is told of a button owns what it did
pub noted-owned : (b pressed : Bool) (r : Resident) → (noted_if b pressed r).owned ≡ r.owned
noted-owned false pressed r = refl
noted-owned true pressed r = drawing-owned (has_pointers (noted pressed r)) (noted pressed r) ∙ by pressed
  where
    by : (pressed : Bool) → (noted pressed r).owned ≡ r.owned
    by true = refl
    by false = refl

-- the windows stay, and so does the place
pub record StaysThere (m n : Midstep) : Type 0 where
  pub windows : all_windows n.desktop ≡ all_windows m.desktop
  pub place : n.desktop.pointer.place ≡ m.desktop.pointer.place

pub there-on : (l m n : Midstep) → StaysThere l m → StaysThere m n → StaysThere l n
there-on l m n first second = record { windows = second.windows ∙ first.windows; place = second.place ∙ first.place }

pub there-first : (m : Midstep) → StaysThere m m
there-first m = record { windows = refl; place = refl }

there-still : (m n : Midstep) → n ≡ m → StaysThere m n
there-still m n e = subst (λ (x : Midstep). StaysThere m x) (sym e) (there-first m)

tells-there : (change : Resident → Resident) (events : Resident → List Said) → ((r : Resident) → (change r).owned ≡ r.owned) → (c : ℕ) (m n : Midstep) → Tells change events c m n → StaysThere m n
tells-there change events same c m n h =
    record {
      windows = same-windows m.desktop n.desktop (tells-shows change events same c m n h);
      place = ap (λ (p : Pointer). p.place) (tells-pointer change events c m n h);
    }

focused-there : (t : Option Target) (m told n : Midstep) → n ≡ with_focus t told → StaysThere m told → StaysThere m n
focused-there t m told n e there =
    subst (λ (x : Midstep). StaysThere m x) (sym e) (record { windows = there.windows; place = there.place })

pub applies-there : (at : Option Place) (ws : List Window) (action : PointerAction) (m n : Midstep) → IsTellable at ws action
    → AppliesAll ws (filter is_told (action ∷ [])) m n → StaysThere m n
applies-there at ws (Leave t) m n of h =
    there-on m h.0 n (focused-there None m h.1.0 h.0 h.1.2 (tells-there _ _ (λ r. drawing-owned _ r) t.client m h.1.0 h.1.1)) (there-still h.0 n h.2)
applies-there at ws (Enter t) m n of h =
    there-on m h.0 n (focused-there (Some t) m h.1.0 h.0 h.1.2 (tells-there _ _ (λ r. drawing-owned _ r) t.client m h.1.0 h.1.1)) (there-still h.0 n h.2)
applies-there at ws (Motion time t) m n of h = there-on m h.0 n (tells-there (λ r. r) _ (λ r. refl) t.client m h.0 h.1) (there-still h.0 n h.2)
applies-there at ws (Button time button pressed t) m n of h =
    there-on m h.0 n
    (tells-there (λ r. noted_if (has_pointers r) pressed r) (button_told time button (number_of pressed)) (λ r. noted-owned (has_pointers r) pressed r) t.client m h.0 h.1)
    (there-still h.0 n h.2)
applies-there at ws (Raise t) m n of h = there-still m n h
applies-there at ws (MoveWindow t x y) m n of h = there-still m n h
applies-there at ws (Dismiss c) m n of h = there-still m n h

-- what one leads to is done
pub one-applied : (ws : List Window) (action : PointerAction) (new : DeskView) (m : Midstep) → is_told action ≡ true → ((n : Midstep) × Applies ws action m n × IsTelling new n)
    → (n : Midstep) × AppliesAll ws (filter is_told (action ∷ [])) m n × IsTelling new n
one-applied ws (Leave t) new m e h = (h.0, (h.0, h.1, refl), h.2)
one-applied ws (Enter t) new m e h = (h.0, (h.0, h.1, refl), h.2)
one-applied ws (Motion time t) new m e h = (h.0, (h.0, h.1, refl), h.2)
one-applied ws (Button time button pressed t) new m e h = (h.0, (h.0, h.1, refl), h.2)
one-applied ws (Raise t) new m e h = absurd (cc)
one-applied ws (MoveWindow t x y) new m e h = absurd (cc)
one-applied ws (Dismiss c) new m e h = absurd (cc)

-- one, and then the others
then-applied : (ws : List Window) (action : PointerAction) (later : List PointerAction) (m x q : Midstep) → AppliesAll ws (filter is_told (action ∷ [])) m x
    → AppliesAll ws (filter is_told later) x q → AppliesAll ws (filter is_told (action ∷ later)) m q
then-applied ws (Leave t) later m x q h rest = (h.0, h.1, subst (λ (y : Midstep). AppliesAll ws (filter is_told later) y q) h.2 rest)
then-applied ws (Enter t) later m x q h rest = (h.0, h.1, subst (λ (y : Midstep). AppliesAll ws (filter is_told later) y q) h.2 rest)
then-applied ws (Motion time t) later m x q h rest = (h.0, h.1, subst (λ (y : Midstep). AppliesAll ws (filter is_told later) y q) h.2 rest)
then-applied ws (Button time button pressed t) later m x q h rest = (h.0, h.1, subst (λ (y : Midstep). AppliesAll ws (filter is_told later) y q) h.2 rest)
then-applied ws (Raise t) later m x q h rest = subst (λ (y : Midstep). AppliesAll ws (filter is_told later) y q) h rest
then-applied ws (MoveWindow t i j) later m x q h rest = subst (λ (y : Midstep). AppliesAll ws (filter is_told later) y q) h rest
then-applied ws (Dismiss c) later m x q h rest = subst (λ (y : Midstep). AppliesAll ws (filter is_told later) y q) h rest

-- ---- actions, one after another

each-at : (P : PointerAction → Type 0) (actions : List Action) (k : ℕ) (d : Action) → k < length actions → Each P (map action_of actions) → P (action_of (get_or actions k d))
each-at P [] k d less all = absurd (omega (arith, less))
each-at P (x ∷ xs) zero d less all = all.0
each-at P (x ∷ xs) (suc k) d less all = each-at P xs k d (omega (arith, less)) all.1

-- So many of these were told, and what is left leads where all of them lead.
pub record AreApplied (k : ℕ) (actions : List Action) (old now : DeskView) : Type 0 where
  pub told : (m : Midstep) → IsTelling old m → Each (IsTellable m.desktop.pointer.place (all_windows m.desktop)) (map action_of actions)
      → (mid : Midstep) × IsTelling now mid × StaysThere m mid
      × ((q : Midstep) → AppliesAll (all_windows m.desktop) (filter is_told (map action_of (drop k actions))) mid q
      → AppliesAll (all_windows m.desktop) (filter is_told (map action_of actions)) m q)

pub none-applied : (actions : List Action) (old : DeskView) → AreApplied 0 actions old old
none-applied actions old = record { told = λ m telling each. (m, telling, there-first m, λ q h. h) }

pub more-applied : (k n : ℕ) (actions : List Action) (d : Action) (old now new : DeskView) → k < length actions → n ≡ suc k
    → ((ws : List Window) (m : Midstep) → IsTelling now m → ws ≡ all_windows m.desktop → IsTellable m.desktop.pointer.place ws (action_of (get_or actions k d))
    → (x : Midstep) × AppliesAll ws (filter is_told (action_of (get_or actions k d) ∷ [])) m x × IsTelling new x)
    → AreApplied k actions old now → AreApplied n actions old new
more-applied k n actions d old now new less next applies before =
    record {
      told = λ m telling each.
          let ws : List Window = all_windows m.desktop in
          let place : Option Place = m.desktop.pointer.place in
          let action : PointerAction = action_of (get_or actions k d) in
          let at = before.told m telling each in
          let of : IsTellable place ws action = each-at (IsTellable place ws) actions k d less each in
          let here = applies ws at.0 at.1 (sym at.2.windows) (subst (λ (p : Option Place). IsTellable p ws action) (sym at.2.place) of) in (
            here.0,
            here.2,
            there-on m at.0 here.0 at.2 (applies-there place ws action at.0 here.0 of here.1),
            λ q later.
                at.3 q (subst (λ (xs : List Action). AppliesAll ws (filter is_told (map action_of xs)) at.0 q) (sym (drop-cons actions k d less))
                (then-applied ws action (map action_of (drop (suc k) actions)) at.0 here.0 q here.1
                (subst (λ (j : ℕ). AppliesAll ws (filter is_told (map action_of (drop j actions))) here.0 q) next later))),
          );
    }

pub all-applied : (k : ℕ) (actions : List Action) (old now : DeskView) → length actions ≤ k → AreApplied k actions old now
    → (m : Midstep) → IsTelling old m → Each (IsTellable m.desktop.pointer.place (all_windows m.desktop)) (map action_of actions)
    → (n : Midstep) × AppliesAll (all_windows m.desktop) (filter is_told (map action_of actions)) m n × IsTelling now n
all-applied k actions old now past applied m telling each =
    let at = applied.told m telling each in (
      at.0,
      at.3 at.0 (subst (λ (xs : List Action). AppliesAll (all_windows m.desktop) (filter is_told (map action_of xs)) at.0 at.0) (sym (drop_all k actions past)) refl),
      at.1,
    )

-- ---- those of the focus

-- each of them is told
pub focus-told : (ws : List Window) (acts : List PointerAction) → Each (IsOfFocus ws) acts → filter is_told acts ≡ acts
focus-told ws [] each = refl
focus-told ws (Leave t ∷ acts) each = ap (λ (xs : List PointerAction). Leave t ∷ xs) (focus-told ws acts each.1)
focus-told ws (Enter t ∷ acts) each = ap (λ (xs : List PointerAction). Enter t ∷ xs) (focus-told ws acts each.1)
focus-told ws (Motion time t ∷ acts) each = ap (λ (xs : List PointerAction). Motion time t ∷ xs) (focus-told ws acts each.1)
focus-told ws (Button time button pressed t ∷ acts) each = ap (λ (xs : List PointerAction). Button time button pressed t ∷ xs) (focus-told ws acts each.1)
focus-told ws (Raise t ∷ acts) each = absurd each.0
focus-told ws (MoveWindow t x y ∷ acts) each = absurd each.0
focus-told ws (Dismiss c ∷ acts) each = absurd each.0

focus-tellable : (at : Option Place) (ws : List Window) → at ≢ None → (acts : List PointerAction) → Each (IsOfFocus ws) acts → Each (IsTellable at ws) acts
focus-tellable at ws some [] each = tt
focus-tellable at ws some (Leave t ∷ acts) each = (tt, focus-tellable at ws some acts each.1)
focus-tellable at ws some (Enter t ∷ acts) each = ((some, each.0), focus-tellable at ws some acts each.1)
focus-tellable at ws some (Motion time t ∷ acts) each = ((some, each.0), focus-tellable at ws some acts each.1)
focus-tellable at ws some (Button time button pressed t ∷ acts) each = (tt, focus-tellable at ws some acts each.1)
focus-tellable at ws some (Raise t ∷ acts) each = absurd each.0
focus-tellable at ws some (MoveWindow t x y ∷ acts) each = absurd each.0
focus-tellable at ws some (Dismiss c ∷ acts) each = absurd each.0

-- so the focus does what is told
pub focus-applied : (acts : List PointerAction) (old new : DeskView)
    → ((m : Midstep) → IsTelling old m → Each (IsTellable m.desktop.pointer.place (all_windows m.desktop)) acts
    → (n : Midstep) × AppliesAll (all_windows m.desktop) (filter is_told acts) m n × IsTelling new n)
    → (m : Midstep) → IsTelling old m → m.desktop.pointer.place ≢ None → Each (IsOfFocus (all_windows m.desktop)) acts
    → (n : Midstep) × AppliesAll (all_windows m.desktop) acts m n × IsTelling new n
focus-applied acts old new told m telling some each =
    let ws : List Window = all_windows m.desktop in
    let h = told m telling (focus-tellable m.desktop.pointer.place ws some acts each) in
    (h.0, subst (λ (xs : List PointerAction). AppliesAll ws xs m h.0) (focus-told ws acts each) h.1, h.2)
