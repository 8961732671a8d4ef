-- The toplevel that may be moved is the one in whose own tree the surface is that has the focus.
use Rattle.std.proofs.Common.{◌≡◌, ◌≢◌, ℕ, List, [], ◌∷◌, Bool, true, false, Option, Some, None, if◌then◌else◌, refl, ap, ap₂, subst, sym, ◌∙◌}
use Rattle.std.proofs.lemmas.Bool.{and_from, eqb-true, true≢false}
use Rattle.std.proofs.lemmas.Option.{none-some, same_Some}
use Rattle.std.specs.List.{list_any}
use Rattle.std.specs.Prelude.{◌==◌, ◌&&◌, ◌||◌, cond}
use Rattle.spec_desktop.specs.Objects.{ById}
use Rattle.spec_desktop.specs.Pointer.{Pointer, Target}
use Rattle.spec_desktop.specs.Windows.{Window}
use Rattle.wl_scene.specs.declared.stacked.Stacked.{Stacked}
use Rattle.wl_scene.specs.Focus.{target_of}
use Rattle.wl_scene.specs.Hit.{IsStackedOrNone}
use Rattle.wl_scene.specs.StackedAgreement.{AreNumberedOnce, IsStacked}
use Rattle.spec_desktop.specs.Changing.{is_focus_in, is_serial}
use Rattle.spec_desktop.specs.Desktop.{Desktop, unpointed}
use Rattle.spec_desktop.specs.Marks.{AreDistinct, is_same_surface}
use Rattle.spec_desktop.specs.Replies.{focus_window}
use Rattle.spec_desktop.specs.Settling.{unstruck}
use Rattle.spec_desktop.specs.Stacked.{all_windows}
use Rattle.law_desktop.proofs.Lists.Keys.{found-passes}
use Rattle.law_desktop.proofs.Marks.Stacks.{equal-numbers}
use Rattle.law_desktop.proofs.Truth.{and-left, and-right}
use Rattle.wl_clients.specs.Agreement.{numbers_in}
use Rattle.wl_clients.proofs.Agreed.{agrees-apart}
use Rattle.wl_clients.proofs.Midway.{mid_begins_and_ends, mid_is_numbered_once}
use Rattle.wl_desk.specs.Agreeing.{Agrees}
use Rattle.wl_desk.specs.Beginning.{IsMovable, chosen}
use Rattle.wl_desk.specs.Midway.{IsTelling}
use Rattle.wl_desk.specs.View.{DeskView}
use Rattle.wl_desk.specs.declared.moves.Movable.{Movable}
use Rattle.wl_desk.proofs.Points.{is_window}
use Rattle.wl_desk.proofs.Windows.{none-of}

-- what a desk keeps agrees with the middle of a step that begins
pub telling-at : (v : DeskView) (d : Desktop) → Agrees v d → IsTelling v (unstruck d)
telling-at v d a = record {
  kept = (mid_begins_and_ends v.kept (unpointed d)).0 a.kept;
  place = ap (λ p. p.place) a.pointer;
  seats = a.seats;
  latest = a.latest;
}

-- ---- the windows of a surface

-- a window is that of the surface, in the tree of this root
abbrev is_in : ℕ → Target → Window → Bool
is_in surface t w = (w.owner.client == t.client) && ((w.surface == t.surface) && (w.owner.root == surface))

none-implied : (p q : Window → Bool) (ws : List Window) → ((w : Window) → p w ≡ true → q w ≡ true) → list_any q ws ≡ false → list_any p ws ≡ false
none-implied p q [] implies none = refl
none-implied p q (w ∷ ws) implies none = at (p w) (q w) (implies w) none (none-implied p q ws implies)
  where
    at : (a b : Bool) → (a ≡ true → b ≡ true) → (b || list_any q ws) ≡ false → (list_any q ws ≡ false → list_any p ws ≡ false) → (a || list_any p ws) ≡ false
    at true true implies none rest = absurd (true≢false none)
    at true false implies none rest = absurd (true≢false (sym (implies refl)))
    at false true implies none rest = absurd (true≢false none)
    at false false implies none rest = rest none

-- where a surface has no window, it is in no tree
none-in : (surface : ℕ) (t : Target) (ws : List Window) → focus_window (Some t) ws ≡ None → list_any (is_in surface t) ws ≡ false
none-in surface t [] none = refl
none-in surface t (w ∷ ws) none = at (w.owner.client == t.client) (w.surface == t.surface) none (none-in surface t ws)
  where
    at : (a b : Bool) → cond (a && b) (Some w) (focus_window (Some t) ws) ≡ None → (focus_window (Some t) ws ≡ None → list_any (is_in surface t) ws ≡ false)
        → ((a && (b && (w.owner.root == surface))) || list_any (is_in surface t) ws) ≡ false
    at true true none rest = absurd (none-some w (sym none))
    at true false none rest = rest none
    at false b none rest = rest none

-- where it has one, it is in the tree of that one
one-in : (surface : ℕ) (t : Target) (w : Window) (ws : List Window) → AreDistinct ws → focus_window (Some t) ws ≡ Some w → list_any (is_in surface t) ws ≡ (w.owner.root == surface)
one-in surface t w [] apart is = absurd (none-some w is)
one-in surface t w (v ∷ ws) apart is = at (v.owner.client == t.client) (v.surface == t.surface) refl refl is (one-in surface t w ws apart.1)
  where
    others : (v.owner.client == t.client) ≡ true → (v.surface == t.surface) ≡ true → list_any (is_in surface t) ws ≡ false
    others owner named =
        none-implied (is_in surface t) (is_same_surface v) ws
        (λ u within.
        let owned = and-left (u.owner.client == t.client) ((u.surface == t.surface) && (u.owner.root == surface)) within in
        let later = and-right (u.owner.client == t.client) ((u.surface == t.surface) && (u.owner.root == surface)) within in
        let same = and-left (u.surface == t.surface) (u.owner.root == surface) later in
        and_from (v.owner.client == u.owner.client) (v.surface == u.surface)
        (equal-numbers v.owner.client u.owner.client (eqb-true v.owner.client t.client owner ∙ sym (eqb-true u.owner.client t.client owned)))
        (equal-numbers v.surface u.surface (eqb-true v.surface t.surface named ∙ sym (eqb-true u.surface t.surface same)))) apart.0

    last : (b a : Bool) → a ≡ false → (b || a) ≡ b
    last true a none = refl
    last false a none = none

    at : (a b : Bool) → (v.owner.client == t.client) ≡ a → (v.surface == t.surface) ≡ b → cond (a && b) (Some v) (focus_window (Some t) ws) ≡ Some w
        → (focus_window (Some t) ws ≡ Some w → list_any (is_in surface t) ws ≡ (w.owner.root == surface))
        → ((a && (b && (v.owner.root == surface))) || list_any (is_in surface t) ws) ≡ (w.owner.root == surface)
    at true true owner named is rest =
        last (v.owner.root == surface) (list_any (is_in surface t) ws) (others owner named) ∙ ap (λ (u : Window). u.owner.root == surface) (same_Some v w is)
    at true false owner named is rest = rest is
    at false b owner named is rest = rest is

focus-in : (surface : ℕ) (t : Target) (ws : List Window) → is_focus_in t.client surface (Some t) ws ≡ list_any (is_in surface t) ws
focus-in surface t ws = ap (λ (b : Bool). b && list_any (is_in surface t) ws) (equal-numbers t.client t.client refl)

-- ---- none may be moved

module _ (numbers : ById ℕ) (c : ℕ) (d : Desktop) where
  -- no press was sent
  pub unheld-may : None ≡ d.pointer.hold → IsMovable numbers c d None
  unheld-may none surface number serial named =
      ap (λ (hold : Option ℕ). if is_serial serial hold
      && is_focus_in c surface d.pointer.focus (all_windows d) then Some (record { client = c; surface = surface }) else None) (sym none)

  -- or the focus is in no tree of its own
  elsewhere-may : ((surface : ℕ) → is_focus_in c surface d.pointer.focus (all_windows d) ≡ false) → IsMovable numbers c d None
  elsewhere-may none surface number serial named =
      ap (λ (b : Bool). if is_serial serial d.pointer.hold && b then Some (record { client = c; surface = surface }) else None) (none surface)
      ∙ at (is_serial serial d.pointer.hold)
    where
      at : (a : Bool) → (if a && false then Some (record { client = c; surface = surface }) else None) ≡ chosen None number serial
      at true = refl
      at false = refl

  pub unfocused-may : None ≡ d.pointer.focus → IsMovable numbers c d None
  unfocused-may none = elsewhere-may (λ surface. ap (λ (f : Option Target). is_focus_in c surface f (all_windows d)) (sym none))

  pub other-may : (t : Target) → Some t ≡ d.pointer.focus → (t.client == c) ≡ false → IsMovable numbers c d None
  other-may t has other =
      elsewhere-may (λ surface. ap (λ (f : Option Target). is_focus_in c surface f (all_windows d)) (sym has)
      ∙ ap (λ (b : Bool). b && list_any (λ (w : Window). (w.owner.client == c) && ((w.surface == t.surface) && (w.owner.root == surface))) (all_windows d)) other)

  pub windowless-may : (t : Target) → Some t ≡ d.pointer.focus → t.client ≡ c → focus_window (Some t) (all_windows d) ≡ None → IsMovable numbers c d None
  windowless-may t has own none =
      elsewhere-may (λ surface. ap (λ (f : Option Target). is_focus_in c surface f (all_windows d)) (sym has)
      ∙ ap (λ (n : ℕ). is_focus_in n surface (Some t) (all_windows d)) (sym own)
      ∙ focus-in surface t (all_windows d) ∙ none-in surface t (all_windows d) none)

-- ---- one may be

-- a window that is kept has a root with a number
pub stacked-root : (numbers : ℕ → ById ℕ) (s : Stacked) (t : Target) (w : Window) → IsStacked numbers s w → w.owner.client ≡ t.client → numbers t.client w.owner.root ≡ Some s.window.root
stacked-root numbers s t w is own = subst (λ (c : ℕ). numbers c w.owner.root ≡ Some s.window.root) (is.client ∙ own) is.root

-- the window that is found
pub found-one : (numbers : ℕ → ById ℕ) (s : Stacked) (t : Target) (ws : List Window) → IsStackedOrNone numbers (Some s) (focus_window (Some t) ws)
    → (w : Window) × (focus_window (Some t) ws ≡ Some w) × (numbers t.client w.owner.root ≡ Some s.window.root)
found-one numbers s t ws is = at (focus_window (Some t) ws) refl is
  where
    at : (o : Option Window) → focus_window (Some t) ws ≡ o → IsStackedOrNone numbers (Some s) o
        → (w : Window) × (focus_window (Some t) ws ≡ Some w) × (numbers t.client w.owner.root ≡ Some s.window.root)
    at None found is = absurd is
    at (Some w) found is =
        (w, found, stacked-root numbers s t w is (eqb-true w.owner.client t.client (and-left (w.owner.client == t.client) (w.surface == t.surface) (found-passes (is_window t) ws w found))))

module _ (numbers : ℕ → ById ℕ) (once : (c : ℕ) → AreNumberedOnce (numbers c)) (d : Desktop) (apart : AreDistinct (all_windows d)) (t : Target) (has : Some t ≡ d.pointer.focus)
    (s : Stacked) (is : IsStackedOrNone numbers (Some s) (focus_window (Some t) (all_windows d))) where
  -- its root has an id
  pub rootless-may : {X : Type 0} → ((id : ℕ) → numbers t.client id ≢ Some s.window.root) → X
  rootless-may none = let found = found-one numbers s t (all_windows d) is in absurd (none found.0.owner.root found.2)

  pub one-may : (m : Movable) (id : ℕ) → Some m.serial ≡ d.pointer.hold → m.number ≡ s.window.root → target_of m.toplevel ≡ record { client = t.client; surface = id }
      → numbers t.client id ≡ Some s.window.root → IsMovable (numbers t.client) t.client d (Some m)
  one-may m id held number toplevel named surface other serial asked = by (found-one numbers s t (all_windows d) is)
    where
      both : (w : Window) → numbers t.client w.owner.root ≡ Some s.window.root → (a b e : Bool) → (w.owner.root == surface) ≡ b → (m.number == other) ≡ e
          → (if a && b then Some (record { client = t.client; surface = surface }) else None) ≡ (if a && e then Some (target_of m.toplevel) else None)
      both w rooted false b e root it = refl
      both w rooted true false false root it = refl
      both w rooted true true true root it =
          ap (λ (n : ℕ). Some (record { client = t.client; surface = n }))
          (sym (eqb-true w.owner.root surface root) ∙ once t.client w.owner.root id s.window.root rooted named) ∙ ap (λ (x : Target). Some x) (sym toplevel)
      both w rooted true true false root it =
          let same : m.number ≡ other =
          number ∙ same_Some s.window.root other (sym rooted ∙ ap (λ (n : ℕ). numbers t.client n) (eqb-true w.owner.root surface root) ∙ asked) in
          absurd (true≢false (sym (equal-numbers m.number other same) ∙ it))
      both w rooted true false true root it =
          let same : w.owner.root ≡ surface =
          once t.client w.owner.root surface s.window.root rooted (asked ∙ ap (λ (n : ℕ). Some n) (sym (eqb-true m.number other it) ∙ number)) in
          absurd (true≢false (sym (equal-numbers w.owner.root surface same) ∙ root))

      by : (w : Window) × (focus_window (Some t) (all_windows d) ≡ Some w) × (numbers t.client w.owner.root ≡ Some s.window.root)
          → (if is_serial serial d.pointer.hold
          && is_focus_in t.client surface d.pointer.focus (all_windows d) then Some (record { client = t.client; surface = surface }) else None) ≡ chosen (Some m) other serial
      by (w, found, rooted) =
          ap₂ (λ (hold : Option ℕ) (f : Option Target). if is_serial serial hold
          && is_focus_in t.client surface f (all_windows d) then Some (record { client = t.client; surface = surface }) else None) (sym held) (sym has)
          ∙ ap (λ (b : Bool). if (m.serial == serial) && b then Some (record { client = t.client; surface = surface }) else None)
          (focus-in surface t (all_windows d) ∙ one-in surface t w (all_windows d) apart found)
          ∙ both w rooted (m.serial == serial) (w.owner.root == surface) (m.number == other) refl refl

-- ---- by what a desk keeps

module _ (v : DeskView) (d : Desktop) (a : Agrees v d) (c : ℕ) where
  abbrev kept_numbers : ℕ → ById ℕ
  kept_numbers = numbers_in v.kept.clients

  once-at : (n : ℕ) → AreNumberedOnce (kept_numbers n)
  once-at = mid_is_numbered_once v.kept (unstruck (unpointed d)) ((mid_begins_and_ends v.kept (unpointed d)).0 a.kept)

  apart-at : AreDistinct (all_windows d)
  apart-at = agrees-apart v.kept (unpointed d) a.kept

  focus-is : (f : Option Target) → f ≡ v.pointer.focus → f ≡ d.pointer.focus
  focus-is f is = is ∙ ap (λ (p : Pointer). p.focus) a.pointer

  pub unheld-whole : None ≡ v.pointer.hold → IsMovable (kept_numbers c) c d None
  unheld-whole none = unheld-may (kept_numbers c) c d (none ∙ ap (λ (p : Pointer). p.hold) a.pointer)

  pub unfocused-whole : None ≡ v.pointer.focus → IsMovable (kept_numbers c) c d None
  unfocused-whole none = unfocused-may (kept_numbers c) c d (focus-is None none)

  pub other-whole : (t : Target) → Some t ≡ v.pointer.focus → (t.client == c) ≡ false → IsMovable (kept_numbers c) c d None
  other-whole t has other = other-may (kept_numbers c) c d t (focus-is (Some t) has) other

  module _ (t : Target) (has : Some t ≡ v.pointer.focus) (own : t.client ≡ c) where
    pub windowless-whole : IsStackedOrNone kept_numbers None (focus_window (Some t) (all_windows d)) → IsMovable (kept_numbers c) c d None
    windowless-whole is = windowless-may (kept_numbers c) c d t (focus-is (Some t) has) own (none-of kept_numbers (focus_window (Some t) (all_windows d)) is)

    module _ (s : Stacked) (is : IsStackedOrNone kept_numbers (Some s) (focus_window (Some t) (all_windows d))) where
      pub rootless-whole : {X : Type 0} → ((id : ℕ) → kept_numbers c id ≢ Some s.window.root) → X
      rootless-whole none =
          rootless-may kept_numbers once-at d apart-at t (focus-is (Some t) has) s is (subst (λ (n : ℕ). (id : ℕ) → kept_numbers n id ≢ Some s.window.root) (sym own) none)

      pub one-whole : (m : Movable) (id : ℕ) → Some m.serial ≡ v.pointer.hold → m.number ≡ s.window.root → target_of m.toplevel ≡ record { client = c; surface = id }
          → kept_numbers c id ≡ Some s.window.root → IsMovable (kept_numbers c) c d (Some m)
      one-whole m id held number =
          subst (λ (n : ℕ). target_of m.toplevel ≡ record { client = n; surface = id } → kept_numbers n id ≡ Some s.window.root → IsMovable (kept_numbers n) n d (Some m)) own
          (one-may kept_numbers once-at d apart-at t (focus-is (Some t) has) s is m id (held ∙ ap (λ (p : Pointer). p.hold) a.pointer) number)
