-- A point that a step doesn't mark is painted as before, if the windows there show the colours that they did.
use Rattle.std.proofs.Common.{◌≡◌, ℕ, suc, Bool, true, false, List, [], ◌∷◌, Some, refl, ap, sym, ◌∙◌}
use Rattle.std.proofs.lemmas.Bool.{and_from, false_from_ne_true, or_left}
use Rattle.std.specs.Prelude.{ℤ, pos, ◌-ℤ◌, ◌&&◌, ◌||◌, not, filter, fold, cond, slice_get, if◌then◌else◌}
use Rattle.std.specs.List.{list_any}
use Rattle.wl_geom.specs.Rect.{in_rect}
use Rattle.wl_blend.specs.Blend.{blended}
use Rattle.wl_blend.specs.declared.color.Rgb.{Rgb}
use Rattle.spec_desktop.specs.Windows.{Window, contains}
use Rattle.spec_desktop.specs.Desktop.{Desktop, Showing}
use Rattle.law_desktop.specs.Laws.{ColorsStay, ScratchStays}
use Rattle.spec_desktop.specs.Marks.{AreDistinct, has_moved_past, has_same_record, in_output, is_before, is_changed_at, is_damaged_at, is_kept_in, is_restacked_at, is_same_surface, shared_by}
use Rattle.spec_desktop.specs.Moments.{applied_between}
use Rattle.spec_desktop.specs.Scratch.{color_in, over}
use Rattle.law_desktop.proofs.Marks.Stacks.{AreSame, before-cons, fields, same-stack, surface-self}
use Rattle.law_desktop.proofs.Truth.{and-left, and-right, differ, or-left, or-right}
use Rattle.law_desktop.proofs.Lists.Each.{Each, each-both, each-map}
use Rattle.law_desktop.proofs.Lists.Tests.{each-false}
use Rattle.law_desktop.proofs.Lists.Left.{any-there}

-- ---- the windows that hold the point

in-same : (px py : ℤ) (x x' y y' : ℤ) (w w' h h' : ℕ) → x ≡ x' → y ≡ y' → w ≡ w' → h ≡ h' → in_rect px py (record { x = x; y = y; w = pos w; h = pos h }) ≡ in_rect px py
    (record { x = x'; y = y'; w = pos w'; h = pos h' })
in-same px py x x' y y' w w' h h' a b c d = rw (a, b, c, d) refl

pub contains-same : (px py : ℤ) (w v : Window) → has_same_record w v ≡ true → contains w px py ≡ contains v px py
contains-same px py w v e =
    let f = fields w v e in
    in-same px py w.corner.x v.corner.x w.corner.y v.corner.y w.width v.width w.height v.height f.x f.y f.width f.height

each-at : {X : Type 0} (P : X → Type 0) (xs : List X) → ((i : ℕ) (x : X) → slice_get xs i ≡ Some x → P x) → Each P xs
each-at P [] f = tt
each-at P (x ∷ xs) f = (f 0 x refl, each-at P xs (λ i. f (suc i)))

pub each-kept : {X : Type 0} (c : X → Bool) (P : X → Type 0) (xs : List X) → Each P xs → Each (λ x. (c x ≡ true) × P x) (filter c xs)
each-kept c P [] e = tt
each-kept {X} c P (x ∷ xs) e = go (c x) refl (each-kept c P xs e.1) where
  go : (b : Bool) → c x ≡ b → Each (λ z. (c z ≡ true) × P z) (filter c xs) → Each (λ z. (c z ≡ true) × P z) (cond b (x ∷ filter c xs) (filter c xs))
  go true is rest = ((is, e.0), rest)
  go false is rest = rest

any-kept : {X : Type 0} (c p : X → Bool) → ((x : X) → p x ≡ true → c x ≡ true) → (xs : List X) → list_any p xs ≡ true → list_any p (filter c xs) ≡ true
any-kept c p f [] e = e
any-kept c p f (x ∷ xs) e = go (c x) (p x) refl refl e (any-kept c p f xs) where
  go : (b d : Bool) → c x ≡ b → p x ≡ d → (d || list_any p xs) ≡ true → (list_any p xs ≡ true → list_any p (filter c xs) ≡ true) → list_any p (cond b (x ∷ filter c xs) (filter c xs)) ≡ true
  go true true is has g next = rw has refl
  go true false is has g next = rw has (next g)
  go false true is has g next = absurd (differ (sym is ∙ f x has))
  go false false is has g next = next g

pub before-whole : (c : Window → Bool) (w v : Window) (xs : List Window) → is_before w v (filter c xs) ≡ true → is_before w v xs ≡ true
before-whole c w v [] e = e
before-whole c w v (x ∷ xs) e = go (c x) e (before-whole c w v xs) where
  same : (b : Bool) → (if b then list_any (is_same_surface v) (filter c xs) else is_before w v (filter c xs)) ≡ true → (is_before w v (filter c xs) ≡ true → is_before w v xs ≡ true)
      → (if b then list_any (is_same_surface v) xs else is_before w v xs) ≡ true
  same true g next = any-there (is_same_surface v) c xs g
  same false g next = next g

  go : (b : Bool) → is_before w v (cond b (x ∷ filter c xs) (filter c xs)) ≡ true → (is_before w v (filter c xs) ≡ true → is_before w v xs ≡ true) → is_before w v (x ∷ xs) ≡ true
  go true g next = same (is_same_surface w x) g next
  go false g next = before-cons w v x xs (next g)

pub distinct-kept : (c : Window → Bool) (xs : List Window) → AreDistinct xs → AreDistinct (filter c xs)
distinct-kept c [] e = tt
distinct-kept c (x ∷ xs) e = go (c x) (distinct-kept c xs e.1) where
  go : (b : Bool) → AreDistinct (filter c xs) → AreDistinct (cond b (x ∷ filter c xs) (filter c xs))
  go true rest = (false_from_ne_true (list_any (is_same_surface x) (filter c xs)) (λ f. differ (sym e.0 ∙ any-there (is_same_surface x) c xs f)), rest)
  go false rest = rest

-- each of these windows that holds the point is among them
members : (c : Window → Bool) (xs : List Window) → Each (λ w. list_any (λ a. is_same_surface w a && c a) xs ≡ true) (filter c xs)
members c [] = tt
members c (x ∷ xs) = go (c x) refl (members c xs) where
  further : (w : Window) → list_any (λ a. is_same_surface w a && c a) xs ≡ true → ((is_same_surface w x && c x) || list_any (λ a. is_same_surface w a && c a) xs) ≡ true
  further w e = more (is_same_surface w x && c x) (list_any (λ a. is_same_surface w a && c a) xs) e where
    more : (a b : Bool) → b ≡ true → (a || b) ≡ true
    more true b f = refl
    more false b f = f

  go : (b : Bool) → c x ≡ b → Each (λ w. list_any (λ a. is_same_surface w a && c a) xs ≡ true) (filter c xs)
      → Each (λ w. ((is_same_surface w x && c x) || list_any (λ a. is_same_surface w a && c a) xs) ≡ true) (cond b (x ∷ filter c xs) (filter c xs))
  go true is rest = (first (is_same_surface x x && c x) (and_from (is_same_surface x x) (c x) (surface-self x) is), each-map _ _ further (filter c xs) rest) where
    first : (a : Bool) → a ≡ true → (a || list_any (λ b. is_same_surface x b && c b) xs) ≡ true
    first true f = refl
    first false f = absurd (differ f)
  go false is rest = each-map _ _ further (filter c xs) rest

-- ---- the same windows hold the point before and after

-- what changed and holds the point would be marked
kept-ones : (x y : ℤ) (others ws : List Window) → list_any (is_changed_at others x y) ws ≡ false → Each (λ w. list_any (has_same_record w) (filter (λ v. contains v x y) others) ≡ true)
    (filter (λ w. contains w x y) ws)
kept-ones x y others ws e =
    each-map (λ w. (contains w x y ≡ true) × ((contains w x y && not (is_kept_in others w)) ≡ false)) (λ w. list_any (has_same_record w) (filter (λ v. contains v x y) others) ≡ true)
    (λ w h. any-kept (λ v. contains v x y) (has_same_record w) (λ v g. sym (contains-same x y w v g) ∙ h.0) others (is-kept (contains w x y) (is_kept_in others w) h.0 h.1))
    (filter (λ w. contains w x y) ws)
    (each-kept (λ w. contains w x y) (λ w. (contains w x y && not (is_kept_in others w)) ≡ false) ws (each-false (is_changed_at others x y) ws e)) where
      is-kept : (a b : Bool) → a ≡ true → (a && not b) ≡ false → b ≡ true
      is-kept true true e f = refl
      is-kept true false e f = absurd (cc)
      is-kept false b e f = absurd (differ e)

module _ (x y : ℤ) (old new : List Window) where
  abbrev holds-point : Window → Bool
  holds-point w = contains w x y

  abbrev moves : Window → Window → Bool
  moves w v = has_moved_past old new w v && (shared_by old w v x y || shared_by new w v x y)

  abbrev There : Window → Type 0
  There a = list_any (λ z. is_same_surface a z && holds-point z) old ≡ true

  abbrev Stays : Window → Window → Type 0
  Stays a b = (is_before a b (filter holds-point old) && is_before b a (filter holds-point new)) ≡ false

  stays : (a : Window) → There a → (b : Window) → moves a b ≡ false → There b → Stays a b
  stays a at b none there =
      false_from_ne_true (is_before a b (filter holds-point old) && is_before b a (filter holds-point new))
      (λ f. differ (sym none ∙ and_from (has_moved_past old new a b) (shared_by old a b x y || shared_by new a b x y)
      (and_from (is_before a b old) (is_before b a new)
      (before-whole holds-point a b old (and-left (is_before a b (filter holds-point old)) _ f))
      (before-whole holds-point b a new (and-right (is_before a b (filter holds-point old)) _ f)))
      (or_left (shared_by old a b x y) (shared_by new a b x y) (and_from (list_any (λ z. is_same_surface a z && holds-point z) old) _ at there))))

  all-stay : (a : Window) → Each (λ b. moves a b ≡ false) old → There a → Each (Stays a) (filter holds-point old)
  all-stay a none at =
      each-both (λ b. (holds-point b ≡ true) × (moves a b ≡ false)) There (Stays a) (λ b h there. stays a at b h.1 there) (filter holds-point old)
      (each-kept holds-point (λ b. moves a b ≡ false) old none) (members holds-point old)

  unmoved-ones : is_restacked_at old new x y ≡ false → Each (λ a. Each (Stays a) (filter holds-point old)) (filter holds-point old)
  unmoved-ones e =
      each-both (λ a. (holds-point a ≡ true) × Each (λ b. moves a b ≡ false) old) There (λ a. Each (Stays a) (filter holds-point old)) (λ a h at. all-stay a h.1 at) (filter holds-point old)
      (each-kept holds-point (λ a. Each (λ b. moves a b ≡ false) old) old (each-map (λ a. list_any (moves a) old ≡ false) (λ a. Each (λ b. moves a b ≡ false) old) (λ a h. each-false (moves a) old h)
      old (each-false (λ a. list_any (moves a) old) old e)))
      (members holds-point old)

  -- where nothing is marked
  stack-stays : AreDistinct old → AreDistinct new → list_any (is_changed_at new x y) old ≡ false → list_any (is_changed_at old x y) new ≡ false → is_restacked_at old new x y ≡ false
      → AreSame (filter holds-point old) (filter holds-point new)
  stack-stays apart apart' gone came moved =
      same-stack (filter holds-point old) (filter holds-point new) (kept-ones x y new old gone) (kept-ones x y old new came) (unmoved-ones moved) (distinct-kept holds-point old apart)
      (distinct-kept holds-point new apart')

-- ---- painting

fold-kept : (d : Desktop) (x y : ℤ) (background : Rgb) (ws : List Window) → fold (over d x y) background ws ≡ fold (over d x y) background (filter (λ w. contains w x y) ws)
fold-kept d x y background [] = refl
fold-kept d x y background (w ∷ ws) = go (contains w x y) refl (λ start. fold-kept d x y start ws) where
  go : (b : Bool) → contains w x y ≡ b → ((start : Rgb) → fold (over d x y) start ws ≡ fold (over d x y) start (filter (λ v. contains v x y) ws))
      → fold (over d x y) (over d x y background w) ws ≡ fold (over d x y) background (cond b (w ∷ filter (λ v. contains v x y) ws) (filter (λ v. contains v x y) ws))
  go true is next = next (over d x y background w)
  go false is next = next (over d x y background w) ∙ ap (λ start. fold (over d x y) start (filter (λ v. contains v x y) ws)) (rw is refl)

fold-same : (d e : Desktop) (x y : ℤ) (ws vs : List Window) → AreSame ws vs → Each (λ w. Each (λ v. has_same_record w v ≡ true → (under : Rgb) → over d x y under w ≡ over e x y under v) vs) ws
    → (background : Rgb) → fold (over d x y) background ws ≡ fold (over e x y) background vs
fold-same d e x y [] [] same alike background = refl
fold-same d e x y (w ∷ ws) (v ∷ vs) same alike background =
    fold-same d e x y ws vs same.1 (each-map _ (λ a. Each (λ b. has_same_record a b ≡ true → (under : Rgb) → over d x y under a ≡ over e x y under b) vs) (λ a h. h.1) ws alike.1)
    (over d x y background w)
    ∙ ap (λ start. fold (over e x y) start vs) (alike.0.0 same.0 background)
fold-same d e x y [] (v ∷ vs) same alike background = absurd (same)
fold-same d e x y (w ∷ ws) [] same alike background = absurd (same)

pub marked-none : (a b : Bool) → (a && b) ≡ false → a ≡ true → b ≡ false
marked-none true b e f = e
marked-none false b e f = absurd (differ f)

module _ (shown : Showing) (old new : Desktop) (x y : ℤ) where
  abbrev at-point : Window → Bool
  at-point w = contains w x y

  abbrev is_applied : Window → Bool
  is_applied v = applied_between old new v.owner.client v.surface (x -ℤ v.corner.x) (y -ℤ v.corner.y)

  abbrev Alike : Window → Window → Type 0
  Alike w v = has_same_record w v ≡ true → (under : Rgb) → over old x y under w ≡ over new x y under v

  abbrev Colored : Window → Window → Type 0
  Colored w v = has_same_record w v ≡ true → contains v x y ≡ true → is_applied v ≡ false → color_in old w x y ≡ color_in new v x y

  undamaged : (v : Window) → list_any (has_same_record v) (filter at-point (shown old)) ≡ true → (at-point v ≡ true) × (is_damaged_at (applied_between old new) (shown old) x y v ≡ false)
      → is_applied v ≡ false
  undamaged v kept h =
      marked-none (contains v x y) (is_applied v) (marked-none (is_kept_in (shown old) v) (contains v x y && is_applied v) h.1 (any-there (has_same_record v) at-point (shown old) kept)) h.0

  alike : (w v : Window) → at-point w ≡ true → (at-point v ≡ true) × Colored w v → is_applied v ≡ false → Alike w v
  alike w v here h none same under = rw (here, h.0) (ap (blended under) (h.1 same h.0 none))

  all-alike : list_any (is_changed_at (shown old) x y) (shown new) ≡ false → list_any (is_damaged_at (applied_between old new) (shown old) x y) (shown new) ≡ false → ColorsStay shown old new x y
      → Each (λ w. Each (Alike w) (filter at-point (shown new))) (filter at-point (shown old))
  all-alike came damaged colors =
      let unapplied = each-both (λ v. list_any (has_same_record v) (filter at-point (shown old)) ≡ true) (λ v. (at-point v ≡ true)
      × (is_damaged_at (applied_between old new) (shown old) x y v ≡ false)) (λ v. is_applied v ≡ false) undamaged (filter at-point (shown new))
      (kept-ones x y (shown old) (shown new) came)
      (each-kept at-point (λ v. is_damaged_at (applied_between old new) (shown old) x y v ≡ false) (shown new) (each-false (is_damaged_at (applied_between old new) (shown old) x y)
      (shown new) damaged)) in
      each-map (λ w. (at-point w ≡ true) × Each (Colored w) (shown new)) (λ w. Each (Alike w) (filter at-point (shown new)))
      (λ w h. each-both (λ v. (at-point v ≡ true) × Colored w v) (λ v. is_applied v ≡ false) (Alike w) (λ v a b. alike w v h.0 a b) (filter at-point (shown new))
      (each-kept at-point (Colored w) (shown new) h.1) unapplied)
      (filter at-point (shown old))
      (each-kept at-point (λ w. Each (Colored w) (shown new)) (shown old)
      (each-at (λ w. Each (Colored w) (shown new)) (shown old) (λ i w is. each-at (Colored w) (shown new) (λ j v is'. colors i j w v is is'))))

pub scratch_stays : ScratchStays
scratch_stays shown background old new x y apart apart' inside unmarked colors =
    let all = marked-none (in_output old.output.width old.output.height x y) _ unmarked inside in
    let changed = or-left (list_any (is_changed_at (shown new) x y) (shown old) || list_any (is_changed_at (shown old) x y) (shown new)) _ all in
    let others = or-right (list_any (is_changed_at (shown new) x y) (shown old) || list_any (is_changed_at (shown old) x y) (shown new)) _ all in
    let gone = or-left (list_any (is_changed_at (shown new) x y) (shown old)) _ changed in
    let came = or-right (list_any (is_changed_at (shown new) x y) (shown old)) _ changed in
    let damaged = or-left (list_any (is_damaged_at (applied_between old new) (shown old) x y) (shown new)) _ others in
    let moved = or-right (list_any (is_damaged_at (applied_between old new) (shown old) x y) (shown new)) _ others in
    fold-kept old x y background (shown old)
    ∙ fold-same old new x y (filter (at-point shown old new x y) (shown old)) (filter (at-point shown old new x y) (shown new))
    (stack-stays x y (shown old) (shown new) apart apart' gone came moved)
    (all-alike shown old new x y came damaged colors) background
    ∙ sym (fold-kept new x y background (shown new))
