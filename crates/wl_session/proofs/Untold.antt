-- A client without wl_pointers stays as it is as others take their steps; and as the pointer comes and a button is pressed or released, where
-- nobody points and no client holds a grab.
use Rattle.std.proofs.Common.{◌≡◌, ◌≢◌, ℕ, ◌+◌, List, [], ◌∷◌, Bool, true, false, Option, Some, None, map, refl, ap, subst, sym, ◌∙◌, inl, inr}
use Rattle.std.proofs.lemmas.Bool.{true≢false}
use Rattle.std.proofs.lemmas.Option.{none-some}
use Rattle.std.specs.Prelude.{ℤ, ◌&&◌, ◌||◌, fold, if◌then◌else◌, is_some}
use Rattle.std.specs.List.{list_any}
use Rattle.spec_desktop.specs.declared.cause.Cause.{Cause}
use Rattle.spec_desktop.specs.Peer.{Peer}
use Rattle.spec_desktop.specs.Told.{Said}
use Rattle.wl_surface.specs.Surfaces.{history_in}
use Rattle.wl_shell.specs.Popups.{Popped, dismissed_after, dismissed_among, dismissing, is_among, popups_of}
use Rattle.wl_shell.specs.Shell.{Shell}
use Rattle.spec_desktop.specs.Pointer.{Pointer, first_pointer, hit_now, is_down, is_press}
use Rattle.spec_desktop.specs.PointerActions.{move_of, raise_of}
use Rattle.spec_desktop.specs.Stacking.{Standing}
use Rattle.spec_desktop.specs.Windows.{Place}
use Rattle.spec_desktop.specs.declared.answers.Done.{Done}
use Rattle.spec_desktop.specs.Act.{Act, Connect, Feed, Store, Leave, Tick, Send, Close, Motion, Button, is_tick, lowest}
use Rattle.spec_desktop.specs.Changing.{drawing, grab_holder, holds_grab}
use Rattle.spec_desktop.specs.Demand.{Move}
use Rattle.spec_desktop.specs.Desktop.{Desktop, Resident, client_at, toplevels_of}
use Rattle.spec_desktop.specs.Happens.{Happens, point_in}
use Rattle.spec_desktop.specs.Pointing.{button_told, entered_surface, has_pointers, left_surface, motion_told}
use Rattle.spec_desktop.specs.Replies.{popups_done}
use Rattle.spec_desktop.specs.Settling.{QueuesTo, leave_drawn, noted_if, number_of, told_drawn, without_grabs}
use Rattle.spec_desktop.specs.Stacked.{all_windows}
use Rattle.spec_desktop.specs.Step.{with_shell}
use Rattle.law_desktop.specs.Others.{HasEndedUntold, IsLeftAlone, IsLeftBy, IsLeftLiving, IsLeftSo, client_of}
use Rattle.law_desktop.proofs.Isolation.Kept.{TellsPointer}
use Rattle.law_desktop.proofs.Isolation.LeftAlone.{Is, Never, others_are_left_alone}
use Rattle.law_desktop.proofs.Isolation.Others.{IsLeft, same-left}
use Rattle.law_desktop.proofs.Isolation.Own.{AllShift, moves, pressed-so, released-so}
use Rattle.law_desktop.proofs.Isolation.Settling.{Stays}
use Rattle.law_desktop.proofs.Isolation.Told.{TellsBy, told-nothing}
use Rattle.law_desktop.proofs.Runs.Forms.{Buttons, ConnectsAt, MovesTo, PressesIf, ReleasesIf}
use Rattle.law_desktop.proofs.InOrder.Dismissed.{others_dismiss_none}
use Rattle.law_desktop.proofs.NobodyPoints.Grabs.{holds-nobody}
use Rattle.law_desktop.proofs.Truth.{or-left, or-right}
use Rattle.wl_session.specs.Laws.{HasNoPointers, OthersStay}
use Rattle.wl_session.proofs.Others.{unpointed-stay}

-- ---- another's step

abbrev StaysSo : Option Resident → List Standing → Option Resident → List Standing → Type 0
StaysSo was before now after = (now ≡ was) × (after ≡ before)

none-among : (p : ℕ) (ps : List ℕ) → ps ≡ [] → is_among p ps ≡ true → ⊥
none-among p ps none e = absurd (cc (rw none at e))

lives-so : (r : Resident) (before : List Standing) (now : Option Resident) (after : List Standing) → r.pointers ≡ [] → IsLeftLiving r before now after → StaysSo (Some r) before now after
lives-so r before None after none h = absurd h
lives-so r before (Some q) after none (inl h) = (ap Some (told-nothing r q none h.0), h.1)
lives-so r before (Some q) after none (inr h) =
    let untold : HasEndedUntold r q = h.0 in
    let same = told-nothing r untold.0 none untold.2 in
    absurd (none-among untold.3.2.0 untold.0.pointers (ap (λ (x : Resident). x.pointers) same ∙ none) untold.3.2.1)

left-so : (s : Option Cause) (r : Resident) (before : List Standing) (now : Option Resident) (after : List Standing) → r.pointers ≡ [] → IsLeftBy s r before now after
    → StaysSo (Some r) before now after
left-so (Some cause) r before now after none h = h
left-so None r before now after none h = lives-so r before now after none h

alone-same : (other : ℕ) (old new : Desktop) → HasNoPointers (client_at other old) → IsLeftAlone other old new → IsLeft other old new
alone-same other old new none h = at (client_at other old) none h
  where
    at : (o : Option Resident) → HasNoPointers o → IsLeftSo o (toplevels_of other old) (client_at other new) (toplevels_of other new)
        → StaysSo o (toplevels_of other old) (client_at other new) (toplevels_of other new)
    at None bare h = h
    at (Some r) bare h = left-so r.peer.status r (toplevels_of other old) (client_at other new) (toplevels_of other new) bare h

-- ---- popups without a grab

-- where none of these passes, none is dismissed
none-with : (is : Popped → Bool) (ps : List Popped) → list_any is ps ≡ false → fold (dismissed_after is) [] ps ≡ []
none-with is [] none = refl
none-with is (p ∷ ps) none =
    ap (λ (b : Bool). fold (dismissed_after is) (if b || false then p.xdg.id ∷ [] else []) ps) (or-left (is p) (list_any is ps) none)
    ∙ none-with is ps (or-right (is p) (list_any is ps) none)

none-dismissed : (xs : Shell) → map (dismissed_among []) xs ≡ xs
none-dismissed [] = refl
none-dismissed (x ∷ xs) = ap (λ (ys : Shell). x ∷ ys) (none-dismissed xs)

still-shell : (is : Popped → Bool) (xs : Shell) → list_any is (popups_of xs) ≡ false → dismissing is xs ≡ xs
still-shell is xs none = ap (λ (ids : List ℕ). map (dismissed_among ids) xs) (none-with is (popups_of xs) none) ∙ none-dismissed xs

-- ---- what a client is told

-- one with no grab and no wl_pointers is as it was, and all that it is told is queued
abbrev StaysQuiet : Resident → Resident → Option Cause → Type 0
StaysQuiet r q why = holds_grab (Some r) ≡ false → r.pointers ≡ [] → (q ≡ r) × (why ≡ None)

-- a client without wl_pointers
abbrev bare : Resident → Resident
bare r = record r { pointers = [] }

is-bare : (r : Resident) → r.pointers ≡ [] → bare r ≡ r
is-bare r none = ap (λ ps. record r { pointers = ps }) (sym none)

-- nothing of it changes, and it is told nothing
abbrev IsQuiet : (Resident → Resident) → (Resident → List Said) → Resident → Type 0
IsQuiet change events r = (change r ≡ r) × (events r ≡ [])

quiet : (change : Resident → Resident) (events : Resident → List Said) → ((r : Resident) → holds_grab (Some r) ≡ false → IsQuiet change events (bare r)) → TellsBy StaysQuiet change events
quiet change events none r q why h = λ free no_pointers.
    let k : IsQuiet change events r = subst (IsQuiet change events) (is-bare r no_pointers) (none r free) in
    let told : QueuesTo [] r.peer q why = subst (λ (es : List Said). QueuesTo es r.peer q why) k.1 (subst (λ (x : Resident). QueuesTo (events r) x.peer q why) k.0 h) in
    (ap (λ (x : Resident). record x { peer = q }) k.0 ∙ ap (λ (p : Peer). record r { peer = p }) told.0, told.1)

abbrev nothing : List Said
nothing = []

none-left : (surface : ℕ) (r : Resident) → IsQuiet (leave_drawn surface) (left_surface surface) (bare r)
none-left surface r = at (is_some (history_in surface r.owned.surfaces))
  where
    at : (b : Bool) → (drawing (b && false) (bare r) ≡ bare r) × ((if b then nothing else nothing) ≡ nothing)
    at true = (refl, refl)
    at false = (refl, refl)

module _ (d : Desktop) where
  -- what dismisses nothing is told to nobody
  none-done : (r : Resident) → popups_done r r ≡ []
  none-done r = others_dismiss_none 0 (Move 0 0) r d refl

  none-gone : (r : Resident) → holds_grab (Some r) ≡ false → IsQuiet without_grabs (λ r. popups_done r (without_grabs r)) (bare r)
  none-gone r free =
      let still : without_grabs (bare r) ≡ bare r = ap (λ (s : Shell). with_shell s (bare r)) (still-shell (λ p. p.popup.has_grab) r.owned.shell free) in
      (still, ap (popups_done (bare r)) still ∙ none-done (bare r))

  quiet-all : TellsPointer StaysQuiet
  quiet-all = record {
    focus = record {
      leave = λ surface. quiet (leave_drawn surface) (left_surface surface) (λ r free. none-left surface r);
      enter = λ at w. quiet told_drawn (entered_surface at w) (λ r free. (refl, refl));
    };
    motion = λ time at w. quiet (λ r. r) (motion_told time at w) (λ r free. (refl, refl));
    dismissed = quiet without_grabs (λ r. popups_done r (without_grabs r)) none-gone;
    pressed = λ time button pressed.
        quiet (λ r. noted_if (has_pointers r) pressed r) (button_told time button (number_of pressed)) (λ r free. (refl, refl));
  }

-- ---- the pointer moves, a button is pressed or released

module _ (other : ℕ) (old : Desktop) (nowhere : old.pointer ≡ first_pointer) (free : grab_holder old ≡ None) (none-has : HasNoPointers (client_at other old)) where
  -- the client with the number is as it was, with its toplevels
  abbrev As : Option Resident → List Standing → Type 0
  As = Is (client_at other old) (toplevels_of other old)

  as-stays : Stays StaysQuiet As Never
  as-stays = record {
    told = λ r q tops why alive known so. (ap Some (so (ungrabbed r known.0) (subst HasNoPointers (sym known.0) none-has)).0 ∙ known.0, known.1);
    untold = λ r q tops cause alive known so. none-some cause (sym (so (ungrabbed r known.0) (subst HasNoPointers (sym known.0) none-has)).1);
    ends = λ r tops cause known gone. absurd gone;
    again = λ r cause other gone gone_too. gone;
  }
    where
      ungrabbed : (r : Resident) → Some r ≡ client_at other old → holds_grab (Some r) ≡ false
      ungrabbed r is = ap holds_grab is ∙ holds-nobody old free other

  -- where the pointer isn't anywhere it raises nothing and moves nothing
  moves-same : (time : ℕ) (x y : ℤ) (new : Desktop) → MovesTo time (point_in old.output x y) old new → IsLeft other old new
  moves-same time x y new h =
      let at : Place = point_in old.output x y in
      let none : AllShift other As (move_of old.pointer.place at old.pointer.move) =
      subst (λ (p : Pointer). AllShift other As (move_of p.place at p.move)) (sym nowhere) tt in
      moves other StaysQuiet (quiet-all old) As Never as-stays time at old new none (refl, refl) h

  presses-same : (b : Bool) (time button : ℕ) (new : Desktop) → PressesIf b time button old new → IsLeft other old new
  presses-same false time button new h = same-left other old new h
  presses-same true time button new h =
      let none : AllShift other As (raise_of (hit_now old.pointer.place (all_windows old))) =
      subst (λ (p : Pointer). AllShift other As (raise_of (hit_now p.place (all_windows old)))) (sym nowhere) tt in
      pressed-so other StaysQuiet (quiet-all old) As Never as-stays time button old new none (refl, refl) h

  releases-same : (b : Bool) (time button : ℕ) (new : Desktop) → ReleasesIf b time button old new → IsLeft other old new
  releases-same false time button new h = same-left other old new h
  releases-same true time button new h = released-so other StaysQuiet (quiet-all old) As Never as-stays time button old new (refl, refl) h

  buttons-same : (pressed : Bool) (time button : ℕ) (new : Desktop) → Buttons pressed time button old new → IsLeft other old new
  buttons-same true time button new h = presses-same (is_press button old.pointer.buttons) time button new h
  buttons-same false time button new h = releases-same (is_down button old.pointer.buttons) time button new h

  -- ---- a step

  -- a connect that nobody came by
  nobody : (k : Option ℕ) (new : Desktop) (done : Done) → client_of Connect done ≡ None → ConnectsAt k old done new → new ≡ old
  nobody None new done none h = h.1
  nobody (Some k) new done none (inl h) = h.1
  nobody (Some k) new done none (inr h) = absurd (none-some (k + 1) (sym none ∙ ap (client_of Connect) h.0))

  -- what happens that is no client's step, and no frame, leaves the client as it was
  no-client : (act : Act) (new : Desktop) (done : Done) → is_tick act ≡ false → client_of act done ≡ None → Happens act done old new → IsLeft other old new
  no-client Connect new done untimed none h = same-left other old new (nobody (lowest old.clients) new done none h)
  no-client (Tick time) new done untimed none h = absurd (true≢false untimed)
  no-client (Motion time x y) new done untimed none h = moves-same time x y new h.1
  no-client (Button time button pressed) new done untimed none h = buttons-same pressed time button new h.1
  no-client (Feed c piece) new done untimed none h = absurd (none-some c (sym none))
  no-client (Store c store at bytes) new done untimed none h = absurd (none-some c (sym none))
  no-client (Leave c) new done untimed none h = absurd (none-some c (sym none))
  no-client (Send c n) new done untimed none h = absurd (none-some c (sym none))
  no-client (Close c) new done untimed none h = absurd (none-some c (sym none))

  -- whatever happens
  bare-stays : (act : Act) (done : Done) (new : Desktop) → is_tick act ≡ false → Happens act done old new → client_of act done ≢ Some other → IsLeft other old new
  bare-stays act done new untimed h apart = at (client_of act done) refl
    where
      at : (o : Option ℕ) → client_of act done ≡ o → IsLeft other old new
      at (Some c) e = alone-same other old new none-has (others_are_left_alone act done c other old new e h (λ same. apart (e ∙ ap Some same)))
      at None e = no-client act new done untimed e h

pub others_stay : OthersStay
others_stay act done old new other untimed nowhere (inl leaves) h apart = unpointed-stay act done old new other untimed leaves nowhere h apart
others_stay act done old new other untimed nowhere (inr bare) h apart = bare-stays other old nowhere bare.1 bare.0 act done new untimed h apart
