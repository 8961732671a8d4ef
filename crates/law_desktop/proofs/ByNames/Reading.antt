-- What is read of surfaces under their numbers is so of them by their ids.
use Rattle.std.proofs.Common.{◌≡◌, ◌≢◌, ℕ, ◌==◌, ◌||◌, Bool, true, false, cond, Option, Some, None, List, [], ◌∷◌, map, is_some, refl, ap, ap₂, sym, ◌∙◌, eqb-true}
use Rattle.std.specs.Prelude.{find, if◌then◌else◌}
use Rattle.std.specs.List.{AllByRecursion as Each, list_any}
use Rattle.std.specs.Option.{option_map}
use Rattle.std.proofs.lemmas.List.Elements.{recursion_from_All}
use Rattle.wl_surface.specs.State.{History}
use Rattle.wl_surface.specs.Surface.{Surface, has, shows}
use Rattle.wl_surface.specs.declared.error.SurfaceError.TheVariants as error
use Rattle.wl_surface.specs.Slots.{IsAny, Numbered, content_at, had_at, has_at, pending_at, role_at, shows_at}
use Rattle.wl_surface.specs.Surfaces.{Link, Surfaces, is_busy, is_used, surface_at}
use Rattle.wl_surface.specs.Trees.{link_of}
use Rattle.wl_surface.specs.Waiting.{applied_at, frames_at, held_at}
use Rattle.wl_surface.specs.Linked.{is_other_role, numbered}
use Rattle.law_desktop.specs.Renaming.{IsRenaming, has_surface, renamed, renamed_link, renamed_surface}
use Rattle.law_desktop.proofs.ByNames.Names.Known.{keeps-refusals, known-there, reads-surfaces}
use Rattle.law_desktop.specs.Reading.{AreFound, BuffersNamed, FreesNamed, HoldsNamed, NumbersNamed, ReadsNamed, RefusesNamed}

-- ---- one surface

-- what goes by no id is read the same
pub read-by : {X : Type 0} (read : Option Surface → X) → ((s : Surface) (n : ℕ) → read (Some (record s { id = n })) ≡ read (Some s)) → (names : ℕ → ℕ) (all : Surfaces)
    → IsRenaming names all → (id : ℕ) → has_surface id all ≡ true → read (numbered (renamed names all) (names id)) ≡ read (surface_at id all)
read-by read same names all is id there = ap read (reads-surfaces names all is id there).surface ∙ at (surface_at id all)
  where
    at : (o : Option Surface) → read (option_map (renamed_surface names) o) ≡ read o
    at None = refl
    at (Some s) = same s (names s.id)

pub reads-named : ReadsNamed
reads-named names all is id there = record {
  surface = (reads-surfaces names all is id there).surface;
  role = read-by role_at (λ s n. refl) names all is id there;
  pending = read-by pending_at (λ s n. refl) names all is id there;
  had = read-by had_at (λ s n. refl) names all is id there;
  content = read-by content_at (λ s n. refl) names all is id there;
  shows = λ buffer. read-by (shows_at buffer) (λ s n. refl) names all is id there;
  has = λ buffer. read-by (has_at buffer) (λ s n. refl) names all is id there;
  frames = read-by frames_at (λ s n. refl) names all is id there;
  held = read-by held_at (λ s n. refl) names all is id there;
  applied = read-by applied_at (λ s n. refl) names all is id there;
}

-- ---- numbers

found-mapped : (names : ℕ → ℕ) (number : ℕ) (P : Surface → Type 0) (xs : List Surface) → Each P xs → (s : Surface) → find (λ s. s.id == number) (map (renamed_surface names) xs) ≡ Some s
    → (t : Surface) × P t × ((names t.id == number) ≡ true) × (renamed_surface names t ≡ s)
found-mapped names number P [] each s e = absurd (cc)
found-mapped names number P (x ∷ xs) each s e = at (names x.id == number) refl e (found-mapped names number P xs each.1 s)
  where
    at : (b : Bool) → (names x.id == number) ≡ b → cond b (Some (renamed_surface names x)) (find (λ s. s.id == number) (map (renamed_surface names) xs)) ≡ Some s
        → (find (λ s. s.id == number) (map (renamed_surface names) xs) ≡ Some s → (t : Surface) × P t × ((names t.id == number) ≡ true) × (renamed_surface names t ≡ s))
        → (t : Surface) × P t × ((names t.id == number) ≡ true) × (renamed_surface names t ≡ s)
    at true f e later = (x, each.0, f, cc)
    at false f e later = later e

pub numbers-named : NumbersNamed
numbers-named names all is number = (
  λ s e. let it = from s e in (it.0.id, it.1, eqb-true (names it.0.id) number it.2),
  λ none. at (surface_at number (renamed names all)) refl none,
)
  where
    from : (s : Surface) → numbered (renamed names all) number ≡ Some s
        → (t : Surface) × (has_surface t.id all ≡ true) × ((names t.id == number) ≡ true) × (renamed_surface names t ≡ s)
    from s e = found-mapped names number (λ (s : Surface). has_surface s.id all ≡ true) all.surfaces (known-there names all is).named s e

    at : (o : Option Surface) → surface_at number (renamed names all) ≡ o → ((id : ℕ) → has_surface id all ≡ true → names id ≢ number) → o ≡ None
    at None e none = refl
    at (Some s) e none = absurd (let it = from s e in none it.0.id it.1 (eqb-true (names it.0.id) number it.2))

-- ---- buffers

any-renamed : (names : ℕ → ℕ) (p : History → Bool) (xs : List Surface) → list_any (λ s. p s.history) (map (renamed_surface names) xs) ≡ list_any (λ s. p s.history) xs
any-renamed names p [] = refl
any-renamed names p (x ∷ xs) = ap (λ b. p x.history || b) (any-renamed names p xs)

pub buffers-named : BuffersNamed
buffers-named names all buffer = (any-renamed names (shows buffer) all.surfaces, any-renamed names (has buffer) all.surfaces)

-- one of these surfaces is it, and it is as each of them is
any-found : (p : Surface → Bool) (P : Surface → Type 0) (xs : List Surface) → Each P xs → list_any p xs ≡ true → (s : Surface) × P s × (p s ≡ true)
any-found p P [] each e = absurd (cc)
any-found p P (x ∷ xs) each e = at (p x) refl e (any-found p P xs each.1)
  where
    at : (b : Bool) → p x ≡ b → (b || list_any p xs) ≡ true → (list_any p xs ≡ true → (s : Surface) × P s × (p s ≡ true)) → (s : Surface) × P s × (p s ≡ true)
    at true f e later = (x, each.0, f)
    at false f e later = later e

found-any : (p q : Surface → Bool) (xs : List Surface) (s : Surface) → find q xs ≡ Some s → p s ≡ true → list_any p xs ≡ true
found-any p q [] s e is = absurd (cc)
found-any p q (x ∷ xs) s e is = at (q x) e (λ f. found-any p q xs s f is)
  where
    first : x ≡ s → (p x || list_any p xs) ≡ true
    first same = ap (λ b. b || list_any p xs) (ap p same ∙ is)

    or-later : (a b : Bool) → b ≡ true → (a || b) ≡ true
    or-later true b e = refl
    or-later false b e = e

    at : (b : Bool) → cond b (Some x) (find q xs) ≡ Some s → (find q xs ≡ Some s → list_any p xs ≡ true) → (p x || list_any p xs) ≡ true
    at true e later = first (cc)
    at false e later = or-later (p x) (list_any p xs) (later e)

-- whether a surface under some number is so
any-named : (names : ℕ → ℕ) (all : Surfaces) → IsRenaming names all → AreFound all → (p : History → Bool) (at : Option Surface → Bool) → at None ≡ false
    → ((s : Surface) → at (Some s) ≡ p s.history) → IsAny at (numbered (renamed names all)) (list_any (λ s. p s.history) all.surfaces)
any-named names all is own p at none some = either (list_any (λ s. p s.history) all.surfaces) refl
  where
    either : (b : Bool) → list_any (λ s. p s.history) all.surfaces ≡ b → IsAny at (numbered (renamed names all)) b
    either true e =
        let it = any-found (λ s. p s.history) (λ s. surface_at s.id all ≡ Some s) all.surfaces (recursion_from_All (λ (s : Surface). surface_at s.id all ≡ Some s) all.surfaces own) e in
        (names it.0.id, read-by at (λ s n. some (record s { id = n }) ∙ sym (some s)) names all is it.0.id (ap is_some it.1) ∙ (ap at it.1 ∙ (some it.0 ∙ it.2)))
    either false e = λ number. lacks number (surface_at number (renamed names all)) refl
      where
        never : (s : Surface) (number : ℕ) → surface_at number (renamed names all) ≡ Some s → (b : Bool) → p s.history ≡ b → b ≡ false
        never s number f false h = refl
        never s number f true h =
            absurd (let any = found-any (λ s. p s.history) (λ s. s.id == number) (renamed names all).surfaces s f h in
            let both = sym any ∙ (any-renamed names p all.surfaces ∙ e) in cc)

        lacks : (number : ℕ) (o : Option Surface) → surface_at number (renamed names all) ≡ o → at o ≡ false
        lacks number None f = none
        lacks number (Some s) f = some s ∙ never s number f (p s.history) refl

-- there is one answer
any-one : (at : Option Surface → Bool) (all : Numbered) (a b : Bool) → IsAny at all a → IsAny at all b → a ≡ b
any-one at all true true x y = refl
any-one at all false false x y = refl
any-one at all true false x y = absurd (let both = sym x.1 ∙ y x.0 in cc)
any-one at all false true x y = absurd (let both = sym y.1 ∙ x y.0 in cc)

pub busy-named : (names : ℕ → ℕ) (all : Surfaces) → IsRenaming names all → AreFound all → (buffer : ℕ) → IsAny (shows_at buffer) (numbered (renamed names all)) (is_busy buffer all)
busy-named names all is own buffer = any-named names all is own (shows buffer) (shows_at buffer) refl (λ s. refl)

pub used-named : (names : ℕ → ℕ) (all : Surfaces) → IsRenaming names all → AreFound all → (buffer : ℕ) → IsAny (has_at buffer) (numbered (renamed names all)) (is_used buffer all)
used-named names all is own buffer = any-named names all is own (has buffer) (has_at buffer) refl (λ s. refl)

pub holds-named : HoldsNamed
holds-named names all is own buffer b = (
  λ any. any-one (shows_at buffer) (numbered (renamed names all)) (is_busy buffer all) b (busy-named names all is own buffer) any,
  λ any. any-one (has_at buffer) (numbered (renamed names all)) (is_used buffer all) b (used-named names all is own buffer) any,
)

pub frees-named : FreesNamed
frees-named names all after freed is still own left are buffer =
    are buffer (is_busy buffer all) (is_busy buffer after) (busy-named names all is own buffer) (busy-named names after still left buffer)

-- ---- what is refused

some-renamed : (o : Option Link) (names : ℕ → ℕ) → is_some (option_map (renamed_link names) o) ≡ is_some o
some-renamed None names = refl
some-renamed (Some l) names = refl

refusal-same : (a b c d e f : Bool) → a ≡ d → b ≡ e → c ≡ f
    → (if a then Some error.TooDeep else (if b then Some error.Role else (if c then Some error.BadParent else None)))
    ≡ (if d then Some error.TooDeep else (if e then Some error.Role else (if f then Some error.BadParent else None)))
refusal-same a b c d e f p q r = rw (p, q, r) refl

pub refuses-named : RefusesNamed
refuses-named names all is child parent below above =
    let same = keeps-refusals names all is child parent below above in
    refusal-same _ _ _ _ _ _ same.0
    (ap₂ (λ (a b : Bool). a || b) (ap is_other_role (read-by role_at (λ s n. refl) names all is child below))
    (ap is_some (reads-surfaces names all is child below).link ∙ some-renamed (link_of child all) names)) same.1
