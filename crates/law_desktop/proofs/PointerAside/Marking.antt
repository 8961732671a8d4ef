-- What is marked where the windows stay, and through the desktops of a step where the pointer is put aside.
use Rattle.std.proofs.Common.{◌≡◌, ℕ, zero, suc, List, [], ◌∷◌, ◌++◌, map, filter, Bool, true, false, Option, None, refl, ap, ap₂, sym, ◌∙◌}
use Rattle.std.proofs.Math.Path.{fun_ext}
use Rattle.std.proofs.lemmas.Bool.{and_right}
use Rattle.std.specs.List.{list_any}
use Rattle.std.specs.Option.{option_map}
use Rattle.std.specs.Prelude.{ℤ, ◌&&◌, ◌||◌, int_le, not, pos, unsigned_abs}
use Rattle.wl_surface.specs.State.{History}
use Rattle.spec_desktop.specs.Pointer.{Pointer}
use Rattle.spec_desktop.specs.Stacking.{Owned, Standing, root_of}
use Rattle.spec_desktop.specs.Popups.{stacked_popups}
use Rattle.spec_desktop.specs.Windows.{Window, contains, windows}
use Rattle.wl_surface.specs.Surfaces.{history_in}
use Rattle.spec_desktop.specs.Changing.{drawing}
use Rattle.spec_desktop.specs.Desktop.{Desktop, unpointed}
use Rattle.spec_desktop.specs.Marks.{Applied, AreDistinct, at_least, at_most, has_changed_tree, in_output, is_allowed_at, is_of_tree}
use Rattle.spec_desktop.specs.Moments.{applied_between, history_of, is_applied_by, marks_at_least_of, marks_at_least_through, marks_at_most_of, marks_at_most_through}
use Rattle.spec_desktop.specs.Settling.{Midstep, ended_by, unstruck}
use Rattle.spec_desktop.specs.Stacked.{all_windows}
use Rattle.law_desktop.proofs.Runs.Settled.{ShowsSame, has-settled, same-windows}
use Rattle.law_desktop.specs.TreeMarksLaws.{AreUndamaged}
use Rattle.law_desktop.proofs.TreeMarks.Damage.{marks-damage-alone}
use Rattle.law_desktop.proofs.Lists.Tests.{any-none}
use Rattle.law_desktop.proofs.TreeMarks.Records.{records-self}
use Rattle.law_desktop.proofs.TreeSteps.Damage.{applies-nothing}
use Rattle.law_desktop.proofs.PointerAside.Rounds.{told-shows}
use Rattle.law_desktop.proofs.Lists.Each.{each-of}
use Rattle.law_desktop.proofs.Truth.{or-assoc, or-false}
use Rattle.law_desktop.specs.Pointed.Entering.{new_entered}
use Rattle.law_desktop.specs.Pointed.Marking.{LastMarksNothing, MarksApart, MarksInParts, RoundsMarkEnds, RoundsMarkInTurn, SettlingMarksNothing, last_of, MarksOwnThenRounds, NewPointerMarks}
use Rattle.law_desktop.specs.Pointed.Pointed.{pointed}
use Rattle.law_desktop.specs.Pointed.Rounds.{AreRounds}

-- ---- where the windows stay

none-applied : (applied : Applied) → ((c surface : ℕ) (x y : ℤ) → applied c surface x y ≡ false) → (ws : List Window) → AreUndamaged applied ws
none-applied applied none ws x y =
    any-none (λ w. applied w.owner.client w.surface x y) ws (each-of (λ w. applied w.owner.client w.surface x y ≡ false) (λ w. none w.owner.client w.surface x y) ws)

least-same : (width height : ℕ) (applied : Applied) (ws : List Window) (x y : ℤ) → AreDistinct ws → ((c surface : ℕ) (x y : ℤ) → applied c surface x y ≡ false)
    → at_least width height applied ws ws x y ≡ false
least-same width height applied ws x y apart none =
    marks-damage-alone [] ws [] [] applied apart (none-applied applied none ws) refl width height x y ∙ and_right (in_output width height x y) false refl

none-allowed : (old ws : List Window) (x y : ℤ) → list_any (is_allowed_at old old None x y) ws ≡ false
none-allowed old ws x y =
    any-none (is_allowed_at old old None x y) ws
    (each-of (λ w. is_allowed_at old old None x y w ≡ false)
    (λ w. and_right (contains w x y) (has_changed_tree old old w || false) (ap (λ (b : Bool). not b || false) (records-self (filter (is_of_tree w) old)))) ws)

most-same : (width height : ℕ) (applied : Applied) (ws : List Window) (x y : ℤ) → AreDistinct ws → ((c surface : ℕ) (x y : ℤ) → applied c surface x y ≡ false)
    → at_most width height applied None ws ws x y ≡ false
most-same width height applied ws x y apart none =
    ap₂ (λ (a b : Bool). a || (in_output width height x y && (b || b))) (least-same width height applied ws x y apart none) (none-allowed ws ws x y)
    ∙ and_right (in_output width height x y) false refl

-- each client owns what it did, so nothing is applied
same-applied : (d e : Desktop) → ShowsSame d e → (c surface : ℕ) (x y : ℤ) → applied_between d e c surface x y ≡ false
same-applied d e same c surface x y =
    and_right (int_le (pos 0) x && int_le (pos 0) y) (is_applied_by (history_of d c surface) (history_of e c surface) (unsigned_abs x) (unsigned_abs y))
    (applies-nothing (history_of d c surface) (history_of e c surface) (ap (λ o. option_map (λ (h : History). h.cut) (history_in surface o.surfaces)) (same.owned c)) (unsigned_abs x) (unsigned_abs y))

least-shown : (d e : Desktop) → ShowsSame d e → AreDistinct (all_windows d) → (x y : ℤ) → marks_at_least_of all_windows d e x y ≡ false
least-shown d e same apart x y =
    ap (λ (ws : List Window). at_least d.output.width d.output.height (applied_between d e) (all_windows d) ws x y) (same-windows d e same)
    ∙ least-same d.output.width d.output.height (applied_between d e) (all_windows d) x y apart (same-applied d e same)

most-shown : (d e : Desktop) → ShowsSame d e → AreDistinct (all_windows d) → (x y : ℤ) → marks_at_most_of all_windows d e None x y ≡ false
most-shown d e same apart x y =
    ap (λ (ws : List Window). at_most d.output.width d.output.height (applied_between d e) None (all_windows d) ws x y) (same-windows d e same)
    ∙ most-same d.output.width d.output.height (applied_between d e) (all_windows d) x y apart (same-applied d e same)

pub settling-marks-nothing : SettlingMarksNothing
settling-marks-nothing old new x y apart h =
    let same : ShowsSame old.desktop new.desktop = (has-settled old new h).shows in
    (least-shown old.desktop new.desktop same apart x y, most-shown old.desktop new.desktop same apart x y)

-- ---- through desktops

least-parts : (d : Desktop) (before later : List Desktop) (x y : ℤ)
    → marks_at_least_through all_windows d (before ++ later) x y
    ≡ (marks_at_least_through all_windows d before x y || marks_at_least_through all_windows (last_of d before) later x y)
least-parts d [] later x y = refl
least-parts d (e ∷ es) later x y =
    ap (λ (b : Bool). marks_at_least_of all_windows d e x y || b) (least-parts e es later x y)
    ∙ or-assoc (marks_at_least_of all_windows d e x y) (marks_at_least_through all_windows e es x y) (marks_at_least_through all_windows (last_of e es) later x y)

most-parts : (d : Desktop) (before later : List Desktop) (x y : ℤ)
    → marks_at_most_through all_windows None d (before ++ later) x y
    ≡ (marks_at_most_through all_windows None d before x y || marks_at_most_through all_windows None (last_of d before) later x y)
most-parts d [] later x y = refl
most-parts d (e ∷ es) later x y =
    ap (λ (b : Bool). marks_at_most_of all_windows d e None x y || b) (most-parts e es later x y)
    ∙ or-assoc (marks_at_most_of all_windows d e None x y) (marks_at_most_through all_windows None e es x y) (marks_at_most_through all_windows None (last_of e es) later x y)

pub marks-in-parts : MarksInParts
marks-in-parts d before later x y = (least-parts d before later x y, most-parts d before later x y)

pub rounds-mark-ends : RoundsMarkEnds
rounds-mark-ends old settled s x y apart h =
    let none = settling-marks-nothing old settled x y apart h in (
      ap (λ (b : Bool). b || (marks_at_least_of all_windows settled.desktop (ended_by s settled.desktop) x y || false)) none.0
          ∙ or-false (marks_at_least_of all_windows settled.desktop (ended_by s settled.desktop) x y),
      ap (λ (b : Bool). b || (marks_at_most_of all_windows settled.desktop (ended_by s settled.desktop) None x y || false)) none.1
          ∙ or-false (marks_at_most_of all_windows settled.desktop (ended_by s settled.desktop) None x y),
    )

last-joined : (d : Desktop) (xs ys : List Desktop) → last_of d (xs ++ ys) ≡ last_of (last_of d xs) ys
last-joined d [] ys = refl
last-joined d (x ∷ xs) ys = last-joined x xs ys

-- rounds lead to the last of their desktops
rounds-last : (n : ℕ) (old new : Midstep) (path : List Desktop) → AreRounds n old path new → last_of old.desktop path ≡ new.desktop
rounds-last zero old new path h = ap (last_of old.desktop) h.0 ∙ ap (λ (m : Midstep). m.desktop) (sym h.1)
rounds-last (suc n) old new path h =
    ap (last_of old.desktop) h.5 ∙ last-joined old.desktop h.0 h.2 ∙ ap (last_of (last_of old.desktop h.0)) h.4.5 ∙ ap (λ (m : Midstep). m.desktop) (sym h.4.6)

-- what is marked through rounds, and then through these
rounds-then : (n : ℕ) (old mid : Midstep) (path later : List Desktop) (x y : ℤ) → AreRounds n old path mid
    → (marks_at_least_through all_windows old.desktop (path ++ later) x y
    ≡ (marks_at_least_through all_windows old.desktop path x y || marks_at_least_through all_windows mid.desktop later x y))
    × (marks_at_most_through all_windows None old.desktop (path ++ later) x y
    ≡ (marks_at_most_through all_windows None old.desktop path x y || marks_at_most_through all_windows None mid.desktop later x y))
rounds-then n old mid path later x y rounds =
    let there : last_of old.desktop path ≡ mid.desktop = rounds-last n old mid path rounds in (
      least-parts old.desktop path later x y
          ∙ ap (λ (d : Desktop). marks_at_least_through all_windows old.desktop path x y || marks_at_least_through all_windows d later x y) there,
      most-parts old.desktop path later x y
          ∙ ap (λ (d : Desktop). marks_at_most_through all_windows None old.desktop path x y || marks_at_most_through all_windows None d later x y) there,
    )

pub rounds-mark-in-turn : RoundsMarkInTurn
rounds-mark-in-turn n old mid new path later x y apart rounds round =
    let now : Desktop = round.0.desktop in
    let parts = rounds-then n old mid path later x y rounds in
    let ends = rounds-mark-ends mid round.0 round.1 x y apart round.3 in
    let least : marks_at_least_through all_windows mid.desktop later x y ≡ marks_at_least_of all_windows now new.desktop x y =
    ap (λ (p : List Desktop). marks_at_least_through all_windows mid.desktop p x y) round.5 ∙ ends.0
    ∙ ap (λ (m : Midstep). marks_at_least_of all_windows now m.desktop x y) (sym round.6) in
    let most : marks_at_most_through all_windows None mid.desktop later x y ≡ marks_at_most_of all_windows now new.desktop None x y =
    ap (λ (p : List Desktop). marks_at_most_through all_windows None mid.desktop p x y) round.5 ∙ ends.1
    ∙ ap (λ (m : Midstep). marks_at_most_of all_windows now m.desktop None x y) (sym round.6) in (
      parts.0 ∙ ap (λ (b : Bool). marks_at_least_through all_windows old.desktop path x y || b) least,
      parts.1 ∙ ap (λ (b : Bool). marks_at_most_through all_windows None old.desktop path x y || b) most,
    )

pub last-marks-nothing : LastMarksNothing
last-marks-nothing n old mid last path x y apart rounds settles =
    let parts = rounds-then n old mid path (last.desktop ∷ []) x y rounds in
    let none = settling-marks-nothing mid last x y apart settles in (
      parts.0 ∙ ap (λ (b : Bool). marks_at_least_through all_windows old.desktop path x y || (b || false)) none.0
          ∙ or-false (marks_at_least_through all_windows old.desktop path x y),
      parts.1 ∙ ap (λ (b : Bool). marks_at_most_through all_windows None old.desktop path x y || (b || false)) none.1
          ∙ or-false (marks_at_most_through all_windows None old.desktop path x y),
    )

-- ---- a step's own change, and the settling after it

windows_by : (ℕ → Owned) → List Standing → List Window
windows_by owned standing = windows (λ c. (owned c).surfaces) (λ c. stacked_popups (owned c)) (map (root_of owned) standing)

applied_by : Desktop → (ℕ → Owned) → Applied
applied_by d owned client surface x y =
    (int_le (pos 0) x && int_le (pos 0) y)
    && is_applied_by (history_of d client surface) (history_in surface (owned client).surfaces) (unsigned_abs x) (unsigned_abs y)

-- what is marked goes by what stands and by what the clients own
pub same-marks : (raised : Option (ℕ × ℕ)) (d told settled : Desktop) (x y : ℤ) → ShowsSame told settled
    → (marks_at_least_of all_windows d settled x y ≡ marks_at_least_of all_windows d told x y)
    × (marks_at_most_of all_windows d settled raised x y ≡ marks_at_most_of all_windows d told raised x y)
unfolding windows_by applied_by
same-marks raised d told settled x y same = (
  ap₂ (λ (owned : ℕ → Owned) (standing : List Standing). at_least d.output.width d.output.height (applied_by d owned) (all_windows d) (windows_by owned standing) x y)
      (fun_ext same.owned) same.standing,
  ap₂ (λ (owned : ℕ → Owned) (standing : List Standing). at_most d.output.width d.output.height (applied_by d owned) raised (all_windows d) (windows_by owned standing) x y)
      (fun_ext same.owned) same.standing,
)

pub marks-own-then-rounds : MarksOwnThenRounds
marks-own-then-rounds raised d told settled later x y apart h =
    let same = same-marks raised d told.desktop settled.desktop x y (has-settled told settled h).shows in
    let none = settling-marks-nothing told settled x y apart h in (
      ap₂ (λ (a b : Bool). a || (b || marks_at_least_through all_windows settled.desktop later x y)) same.0 (sym none.0),
      ap₂ (λ (a b : Bool). a || (b || marks_at_most_through all_windows None settled.desktop later x y)) same.1 (sym none.1),
    )

pub new-pointer-marks : NewPointerMarks
new-pointer-marks id c d e told later x y h =
    let shows : ShowsSame e told.desktop = (told-shows (drawing true) (new_entered id e) (λ r. refl) c (unstruck e) told h).1 in
    let same = same-marks None d e told.desktop x y shows in (
      ap (λ (b : Bool). b || marks_at_least_through all_windows told.desktop later x y) same.0,
      ap (λ (b : Bool). b || marks_at_most_through all_windows None told.desktop later x y) same.1,
    )

-- ---- with the pointer put back

itself : (e : Desktop) → ShowsSame e e
itself e = record { standing = refl; owned = λ c. refl }

-- of two desktops that are the same the second marks nothing
pub same-least : (d : Desktop) → AreDistinct (all_windows d) → (x y : ℤ) → marks_at_least_of all_windows d d x y ≡ false
same-least d apart x y = least-shown d d (itself d) apart x y

pub same-most : (d : Desktop) → AreDistinct (all_windows d) → (x y : ℤ) → marks_at_most_of all_windows d d None x y ≡ false
same-most d apart x y = most-shown d d (itself d) apart x y

twice : (a c none : Bool) → none ≡ false → (a || c) ≡ ((a || (none || false)) || c)
twice a c none e = ap (λ (b : Bool). b || c) (sym (or-false a)) ∙ ap (λ (b : Bool). (a || (b || false)) || c) (sym e)

module _ (p : Desktop → Pointer) (e : Desktop) (later : List Desktop) (x y : ℤ) (apart : AreDistinct (all_windows e)) where
  abbrev put : Desktop → Desktop
  put a = pointed (p a) a

  least-apart : (q : Pointer) (d : Desktop) (before : List Desktop)
      → marks_at_least_through all_windows (pointed q d) (map put before ++ put e ∷ later) x y
      ≡ (marks_at_least_through all_windows d (before ++ e ∷ e ∷ []) x y || marks_at_least_through all_windows (put e) later x y)
  least-apart q d [] =
      twice (marks_at_least_of all_windows d e x y) (marks_at_least_through all_windows (put e) later x y) (marks_at_least_of all_windows e e x y)
      (least-shown e e (itself e) apart x y)
  least-apart q d (a ∷ before) =
      ap (λ (b : Bool). marks_at_least_of all_windows d a x y || b) (least-apart (p a) a before)
      ∙ or-assoc (marks_at_least_of all_windows d a x y) (marks_at_least_through all_windows a (before ++ e ∷ e ∷ []) x y) (marks_at_least_through all_windows (put e) later x y)

  most-apart : (raised : Option (ℕ × ℕ)) (q : Pointer) (d : Desktop) (before : List Desktop)
      → marks_at_most_through all_windows raised (pointed q d) (map put before ++ put e ∷ later) x y
      ≡ (marks_at_most_through all_windows raised d (before ++ e ∷ e ∷ []) x y || marks_at_most_through all_windows None (put e) later x y)
  most-apart raised q d [] =
      twice (marks_at_most_of all_windows d e raised x y) (marks_at_most_through all_windows None (put e) later x y) (marks_at_most_of all_windows e e None x y)
      (most-shown e e (itself e) apart x y)
  most-apart raised q d (a ∷ before) =
      ap (λ (b : Bool). marks_at_most_of all_windows d a raised x y || b) (most-apart None (p a) a before)
      ∙ or-assoc (marks_at_most_of all_windows d a raised x y) (marks_at_most_through all_windows None a (before ++ e ∷ e ∷ []) x y) (marks_at_most_through all_windows None (put e) later x y)

pub marks-apart : MarksApart
marks-apart p raised d e before later x y apart =
    (least-apart p e later x y apart d.pointer (unpointed d) before, most-apart p e later x y apart raised d.pointer (unpointed d) before)
