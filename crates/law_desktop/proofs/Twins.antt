-- What is kept for what a client owns by ids is kept for it by numbers.
use Rattle.std.proofs.Common.{◌≡◌, ℕ, ◌==◌, Bool, true, false, cond, Option, Some, None, [], ◌∷◌, map, is_some, refl, ap, subst, sym, ◌∙◌}
use Rattle.std.specs.Prelude.{find}
use Rattle.std.specs.List.{AllByRecursion as Each}
use Rattle.std.specs.Option.{option_and_then, option_map, option_map_or}
use Rattle.std.proofs.lemmas.Bool.{eq-eqb, eqb-true, true≢false}
use Rattle.std.proofs.lemmas.List.Elements.{All-from_recursion}
use Rattle.wl_links.specs.Family.{Tied}
use Rattle.law_desktop.specs.Renaming.{has_surface, renamed}
use Rattle.law_desktop.proofs.ByNames.Names.Lists.{each-weaker}
use Rattle.law_desktop.specs.NamedPopups.{RenamesOwned, renamed_shell, renamed_xdg}
use Rattle.law_desktop.proofs.PopupsByNames.Popped.{history-same, xdg-renamed}
use Rattle.law_desktop.proofs.PopupsByNames.Rooted.{of-renamed}
use Rattle.wl_shell.specs.Agreement.{AreApart, IsKept, IsShell}
use Rattle.spec_desktop.specs.Stacking.{Owned}
use Rattle.wl_surface.specs.State.{History}
use Rattle.wl_surface.specs.Surface.{Surface}
use Rattle.wl_surface.specs.Slots.{Slots}
use Rattle.wl_surface.specs.Surfaces.{history_in, surface_at}
use Rattle.wl_shell.specs.Kept.{Kept}
use Rattle.wl_shell.specs.Shell.{Shell, XdgSurface, xdg_of}
use Rattle.law_desktop.specs.Owning.{IsOwned, Names, by_id, number_in}
use Rattle.law_desktop.specs.Twins.{KeptByNumbers}
use Rattle.law_desktop.proofs.Keeping.OwningTies.{stand-by}

-- ---- lists

-- each xdg_surface of a list is found by its surface, if not first
all-found : (xs : Shell) → Each (λ (x : XdgSurface). is_some (xdg_of x.surface xs) ≡ true) xs
all-found [] = tt
all-found (x ∷ xs) = (
  ap (λ b. is_some (cond b (Some x) (xdg_of x.surface xs))) (eq-eqb x.surface x.surface refl),
  each-weaker (λ (y : XdgSurface). is_some (xdg_of y.surface xs) ≡ true) (λ (y : XdgSurface). is_some (xdg_of y.surface (x ∷ xs)) ≡ true)
      (λ y is. later (x.surface == y.surface) (xdg_of y.surface xs) is) xs (all-found xs),
)
  where
    later : (b : Bool) (o : Option XdgSurface) → is_some o ≡ true → is_some (cond b (Some x) o) ≡ true
    later true o is = refl
    later false o is = is

none-passes : (p : XdgSurface → Bool) (g : XdgSurface → XdgSurface) (xs : Shell) → Each (λ (x : XdgSurface). p (g x) ≡ false) xs → find p (map g xs) ≡ None
none-passes p g [] each = refl
none-passes p g (x ∷ xs) each = ap (λ b. cond b (Some (g x)) (find p (map g xs))) each.0 ∙ none-passes p g xs each.1

-- ---- what is kept of one xdg_surface

kept-renamed : (f : ℕ → ℕ) (k : Option Kept) (x : Option XdgSurface) (h : Option History) → IsKept k x h → IsKept k (option_map (renamed_xdg f) x) h
kept-renamed f None None h is = tt
kept-renamed f (Some k) (Some x) (Some h) is = record {
  id = is.id;
  base = is.base;
  role = is.role;
  configures = is.configures;
  pending = is.pending;
  applied = is.applied;
  since_le = is.since_le;
  cut_le = is.cut_le;
}
kept-renamed f k x h is = absurd is

-- where there is an xdg_surface, one is kept, and its surface is there
kept-some : (k : Option Kept) (x : Option XdgSurface) (s : Option Surface) → IsKept k x (option_map (λ (s : Surface). s.history) s) → is_some x ≡ true
    → (is_some k ≡ true) × (is_some s ≡ true)
kept-some None None s is there = absurd (true≢false (sym there))
kept-some (Some k) (Some x) (Some s) is there = (refl, refl)
kept-some k x s is there = absurd is

module _ (names : Names) (slots : Slots) (tied : Tied) (kept : ℕ → Option Kept) (o : Owned) (is : IsOwned names slots tied kept o) where
  abbrev f : ℕ → ℕ
  f = number_in names.surfaces

  abbrev IsThere : XdgSurface → Type 0
  IsThere x = has_surface x.surface o.surfaces ≡ true

  each-there : Each IsThere o.shell
  each-there =
      each-weaker (λ (x : XdgSurface). is_some (xdg_of x.surface o.shell) ≡ true) IsThere
      (λ x found. (kept-some (by_id names.surfaces kept x.surface) (xdg_of x.surface o.shell) (surface_at x.surface o.surfaces) (is.shell.each x.surface) found).1)
      o.shell (all-found o.shell)

  renames : RenamesOwned f o
  renames = record {
    surfaces = (stand-by names.surfaces slots tied o.surfaces is.surfaces).renaming;
    shell = All-from_recursion IsThere o.shell each-there;
  }

  -- no xdg_surface has this number, where nothing is kept under it
  other-number : (number : ℕ) → kept number ≡ None → (x : XdgSurface) → is_some (xdg_of x.surface o.shell) ≡ true → (f x.surface == number) ≡ false
  other-number number none x found =
      at (names.surfaces x.surface) refl
      (kept-some (by_id names.surfaces kept x.surface) (xdg_of x.surface o.shell) (surface_at x.surface o.surfaces) (is.shell.each x.surface) found).0
    where
      same : (m : ℕ) (b : Bool) → (m == number) ≡ b → is_some (kept m) ≡ true → b ≡ false
      same m true e some = absurd (true≢false (sym some ∙ ap is_some (ap kept (eqb-true m number e) ∙ none)))
      same m false e some = refl

      at : (n : Option ℕ) → names.surfaces x.surface ≡ n → is_some (option_and_then kept n) ≡ true → (option_map_or (λ number. number) n 0 == number) ≡ false
      at None e some = absurd (true≢false (sym some))
      at (Some m) e some = same m (m == number) refl some

  none-numbered : (number : ℕ) → kept number ≡ None → xdg_of number (renamed_shell f o.shell) ≡ None
  none-numbered number none =
      none-passes (λ (x : XdgSurface). x.surface == number) (renamed_xdg f) o.shell
      (each-weaker (λ (x : XdgSurface). is_some (xdg_of x.surface o.shell) ≡ true) (λ (x : XdgSurface). (f x.surface == number) ≡ false) (other-number number none) o.shell
      (all-found o.shell))

  kept-named : (id number : ℕ) → names.surfaces id ≡ Some number → IsKept (kept number) (xdg_of number (renamed_shell f o.shell)) (history_in number (renamed f o.surfaces))
  kept-named id number named =
      subst (λ (n : ℕ). IsKept (kept number) (xdg_of n (renamed_shell f o.shell)) (history_in n (renamed f o.surfaces))) own
      (subst (λ (x : Option XdgSurface). IsKept (kept number) x (history_in (f id) (renamed f o.surfaces))) (sym (of-renamed f o renames o.shell each-there id there))
      (subst (λ (h : Option History). IsKept (kept number) (option_map (renamed_xdg f) (xdg_of id o.shell)) h) (sym (history-same f o renames id there))
      (kept-renamed f (kept number) (xdg_of id o.shell) (history_in id o.surfaces)
      (subst (λ (k : Option Kept). IsKept k (xdg_of id o.shell) (history_in id o.surfaces)) (ap (option_and_then kept) named) (is.shell.each id)))))
    where
      own : f id ≡ number
      own = ap (λ (n : Option ℕ). option_map_or (λ number. number) n 0) named

      there : has_surface id o.surfaces ≡ true
      there = sym (is.surfaces.numbered id) ∙ ap is_some named

  each-kept : (number : ℕ) → IsKept (kept number) (xdg_of number (renamed_shell f o.shell)) (history_in number (renamed f o.surfaces))
  each-kept number = at (kept number) refl
    where
      at : (k : Option Kept) → kept number ≡ k → IsKept k (xdg_of number (renamed_shell f o.shell)) (history_in number (renamed f o.surfaces))
      at None e =
          subst (λ (x : Option XdgSurface). IsKept None x (history_in number (renamed f o.surfaces))) (sym (none-numbered number e)) tt
      at (Some k) e =
          let t = is.known number (ap is_some e) in
          subst (λ (k : Option Kept). IsKept k (xdg_of number (renamed_shell f o.shell)) (history_in number (renamed f o.surfaces))) e (kept-named t.0 number t.1)

  apart-renamed : (xs : Shell) → Each IsThere xs → AreApart xs → AreApart (renamed_shell f xs)
  apart-renamed [] each apart = tt
  apart-renamed (x ∷ xs) each apart = (
    xdg-renamed f x.id xs ∙ ap (option_map (renamed_xdg f)) apart.0,
    of-renamed f o renames xs each.1 x.surface each.0 ∙ ap (option_map (renamed_xdg f)) apart.1,
    apart-renamed xs each.1 apart.2,
  )

  pub shell-by-numbers : IsShell kept (λ number. history_in number (renamed f o.surfaces)) (renamed_shell f o.shell)
  shell-by-numbers = record { each = each-kept; apart = apart-renamed o.shell each-there is.shell.apart }

pub kept-by-numbers : KeptByNumbers
kept-by-numbers names slots tied kept o is = record {
  renames = renames names slots tied kept o is;
  surfaces = (stand-by names.surfaces slots tied o.surfaces is.surfaces).stands;
  shell = shell-by-numbers names slots tied kept o is;
}
