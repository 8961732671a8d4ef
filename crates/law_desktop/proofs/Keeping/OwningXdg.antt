-- What is kept of a client's xdg_surfaces, as it is found by the ids of objects.
use Rattle.std.proofs.Common.{◌≡◌, ◌≢◌, ℕ, [], ◌∷◌, Bool, true, false, Option, Some, None, cond, refl, ap, sym, subst, ◌∙◌, eq-eqb}
use Rattle.std.specs.Prelude.{◌==◌, find, is_some}
use Rattle.std.specs.Option.{option_and_then, option_map}
use Rattle.std.proofs.Math.Path.{fun_ext}
use Rattle.std.proofs.lemmas.Bool.{eqb-true, eqb-false, ne_eqb}
use Rattle.std.proofs.lemmas.Option.{none-some, same_Some}
use Rattle.spec_desktop.specs.Objects.{ById}
use Rattle.wl_links.specs.Family.{Tied}
use Rattle.wl_surface.specs.Slots.{Slots}
use Rattle.wl_surface.specs.State.{History}
use Rattle.wl_surface.specs.Surface.{Surface, new_surface}
use Rattle.wl_surface.specs.Surfaces.{Surfaces, history_in, surface_at, with_change, with_new}
use Rattle.wl_shell.specs.Agreement.{AreApart, IsKept, with_history}
use Rattle.wl_shell.specs.Kept.{Kept, Stands, changing, with_kept}
use Rattle.wl_shell.specs.Shell.{Shell, XdgSurface, is_role, xdg_at, xdg_of, xdg_with}
use Rattle.wl_shell.proofs.Agreeing.{found-surface}
use Rattle.spec_desktop.specs.Stacking.{Owned}
use Rattle.law_desktop.specs.Owning.{IsOwned, IsXdg, Names, by_id, number_of}
use Rattle.law_desktop.specs.Apart.{AreApartBy}
use Rattle.law_desktop.proofs.Lists.Keys.{found-by, found-map, found-none, found-passes, new-elsewhere, new-here}
use Rattle.law_desktop.proofs.Lists.Surfaces.{has_id}
use Rattle.law_desktop.proofs.KeptRecords.Keeping.OwningXdg.{has_surface, has_xdg}

abbrev pub has_role : ℕ → XdgSurface → Bool
has_role object x = is_role object x.role

pub ids-apart : (shell : Shell) → AreApart shell → AreApartBy has_xdg shell
ids-apart [] apart = tt
ids-apart (x ∷ xs) apart = (λ id is. ap (λ i. xdg_at i xs) (sym (eqb-true x.id id is)) ∙ apart.0, ids-apart xs apart.2)

pub surfaces-apart : (shell : Shell) → AreApart shell → AreApartBy has_surface shell
surfaces-apart [] apart = tt
surfaces-apart (x ∷ xs) apart = (λ surface is. ap (λ s. xdg_of s xs) (sym (eqb-true x.surface surface is)) ∙ apart.1, surfaces-apart xs apart.2)

-- ---- what is kept by numbers, by ids

pub by_id-with : (numbers : ById ℕ) → ((a b number : ℕ) → numbers a ≡ Some number → numbers b ≡ Some number → a ≡ b) → (id number : ℕ) → numbers id ≡ Some number
    → (k : Option Kept) (kept : ℕ → Option Kept) → by_id numbers (with_kept number k kept) ≡ with_kept id k (by_id numbers kept)
by_id-with numbers once id number named k kept = fun_ext (λ other. at other (other == id) refl)
  where
    away : (other : ℕ) (o : Option ℕ) → numbers other ≡ o → other ≢ id → option_and_then (with_kept number k kept) o ≡ option_and_then kept o
    away other None e apart = refl
    away other (Some m) e apart = ap (λ b. cond b k (kept m)) (ne_eqb m number (λ same. apart (once other id number (e ∙ ap Some same) named)))

    at : (other : ℕ) (b : Bool) → (other == id) ≡ b → by_id numbers (with_kept number k kept) other ≡ cond b k (by_id numbers kept other)
    at other true here = ap (option_and_then (with_kept number k kept)) (ap numbers (eqb-true other id here) ∙ named) ∙ ap (λ b. cond b k (kept number)) (eq-eqb number number refl)
    at other false here = away other (numbers other) refl (eqb-false other id here)

pub by_id-changing : (numbers : ById ℕ) → ((a b number : ℕ) → numbers a ≡ Some number → numbers b ≡ Some number → a ≡ b) → (id number : ℕ) → numbers id ≡ Some number
    → (change : Kept → Kept) (kept : ℕ → Option Kept) → by_id numbers (changing number change kept) ≡ changing id change (by_id numbers kept)
by_id-changing numbers once id number named change kept =
    by_id-with numbers once id number named (option_map change (kept number)) kept
    ∙ ap (λ (o : Option ℕ). with_kept id (option_map change (option_and_then kept o)) (by_id numbers kept)) (sym named)

-- ---- histories

pub histories-same : (id : ℕ) (h : Option History) (histories : ℕ → Option History) → histories id ≡ h → with_history id h histories ≡ histories
histories-same id h histories is = fun_ext (λ other. at other (other == id) refl)
  where
    at : (other : ℕ) (b : Bool) → (other == id) ≡ b → cond b h (histories other) ≡ histories other
    at other true here = sym is ∙ ap histories (sym (eqb-true other id here))
    at other false here = refl

abbrev one_changed : ℕ → (Surface → Surface) → Surface → Surface
one_changed id change x = cond (x.id == id) (change x) x

one-id : (id : ℕ) (change : Surface → Surface) → ((s : Surface) → (change s).id ≡ s.id) → (x : Surface) → (one_changed id change x).id ≡ x.id
one-id id change keeps x = at (x.id == id)
  where
    at : (b : Bool) → (cond b (change x) x).id ≡ x.id
    at true = keeps x
    at false = refl

pub histories-changed : (id : ℕ) (change : Surface → Surface) (all : Surfaces) (s : Surface) → ((s : Surface) → (change s).id ≡ s.id) → surface_at id all ≡ Some s
    → (λ other. history_in other (with_change id change all)) ≡ with_history id (Some (change s).history) (λ other. history_in other all)
histories-changed id change all s keeps found =
    fun_ext (λ other. ap (option_map (λ (x : Surface). x.history)) (found-map (has_id other) (one_changed id change) all.surfaces (λ x. ap (λ i. i == other) (one-id id change keeps x)))
    ∙ at other (surface_at other all) (other == id) refl refl)
  where
    at : (other : ℕ) (o : Option Surface) (b : Bool) → surface_at other all ≡ o → (other == id) ≡ b
        → option_map (λ (x : Surface). x.history) (option_map (one_changed id change) o) ≡ cond b (Some (change s).history) (option_map (λ (x : Surface). x.history) o)
    at other None true e here = absurd (none-some s (sym e ∙ ap (λ i. surface_at i all) (eqb-true other id here) ∙ found))
    at other None false e here = refl
    at other (Some x) true e here =
        let same : x ≡ s = same_Some x s (sym e ∙ ap (λ i. surface_at i all) (eqb-true other id here) ∙ found) in
        ap (λ b. Some (cond b (change x) x).history) (eq-eqb x.id id (eqb-true x.id other (found-passes (has_id other) all.surfaces x e) ∙ eqb-true other id here))
        ∙ ap (λ (y : Surface). Some (change y).history) same
    at other (Some x) false e here =
        ap (λ b. Some (cond b (change x) x).history)
        (ne_eqb x.id id (λ same. eqb-false other id here (sym (eqb-true x.id other (found-passes (has_id other) all.surfaces x e)) ∙ same)))

pub histories-made : (id : ℕ) (all : Surfaces) → surface_at id all ≡ None → (λ other. history_in other (with_new id all)) ≡ with_history id (Some (new_surface id).history)
    (λ other. history_in other all)
histories-made id all none = fun_ext (λ other. at other (other == id) refl)
  where
    at : (other : ℕ) (b : Bool) → (other == id) ≡ b → history_in other (with_new id all) ≡ cond b (Some (new_surface id).history) (history_in other all)
    at other true here =
        let same = eqb-true other id here in
        ap (option_map (λ (x : Surface). x.history)) (new-here (has_id other) all.surfaces (new_surface id) (ap (λ i. surface_at i all) same ∙ none) (eq-eqb id other (sym same)))
    at other false here =
        ap (option_map (λ (x : Surface). x.history)) (new-elsewhere (has_id other) all.surfaces (new_surface id) (ne_eqb id other (λ same. eqb-false other id here (sym same))))

-- ---- an xdg_surface by what names it

-- what is kept of one that is there
kept-some : (k : Option Kept) (x : XdgSurface) (h : Option History) → IsKept k (Some x) h → (y : Kept) × (g : History) × (k ≡ Some y) × (h ≡ Some g) × Stands y x g
kept-some None x h is = absurd is
kept-some (Some k) x None is = absurd is
kept-some (Some k) x (Some h) is = (k, h, refl, refl, is)

kept-there : (k : Kept) (x : Option XdgSurface) (h : Option History) → IsKept (Some k) x h → (y : XdgSurface) × (x ≡ Some y)
kept-there k None h is = absurd is
kept-there k (Some x) h is = (x, refl)

kept-none : (x : Option XdgSurface) (h : Option History) → IsKept None x h → x ≡ None
kept-none None h is = refl
kept-none (Some x) h is = absurd is

-- what is reached through a number
reached : (kept : ℕ → Option Kept) (o : Option ℕ) (k : Kept) → option_and_then kept o ≡ Some k → (number : ℕ) × (o ≡ Some number) × (kept number ≡ Some k)
reached kept None k e = absurd (cc)
reached kept (Some number) k e = (number, refl, e)

numbered-xdg : (numbers : ById ℕ) (o : Option XdgSurface) (number : ℕ) → number_of numbers o ≡ Some number → (x : XdgSurface) × (o ≡ Some x) × (numbers x.surface ≡ Some number)
numbered-xdg numbers None number e = absurd (cc)
numbered-xdg numbers (Some x) number e = (x, refl, e)

module _ (names : Names) (slots : Slots) (tied : Tied) (kept : ℕ → Option Kept) (o : Owned) (is : IsOwned names slots tied kept o) where
  pub xdgs-apart : AreApartBy has_xdg o.shell
  xdgs-apart = ids-apart o.shell is.shell.apart

  -- one that is found
  pub xdg-found : (p : XdgSurface → Bool) (x : XdgSurface) → find p o.shell ≡ Some x → (number : ℕ) × (k : Kept) × (h : History) × IsXdg names kept o number k x h
  xdg-found p x found =
      let of_surface : xdg_of x.surface o.shell ≡ Some x = found-by has_surface p x.surface o.shell x (surfaces-apart o.shell is.shell.apart) found (eq-eqb x.surface x.surface refl) in
      let there = kept-some (by_id names.surfaces kept x.surface) x (history_in x.surface o.surfaces)
      (subst (λ (y : Option XdgSurface). IsKept (by_id names.surfaces kept x.surface) y (history_in x.surface o.surfaces)) of_surface (is.shell.each x.surface)) in
      let number = reached kept (names.surfaces x.surface) there.0 there.2 in (
        number.0,
        there.0,
        there.1,
        record {
          here = number.2;
          surface = number.1;
          of_surface = of_surface;
          at_id = found-by has_xdg p x.id o.shell x xdgs-apart found (eq-eqb x.id x.id refl);
          history = there.3;
          stands = there.4;
        },
      )

  -- one that is found, under the number of its surface
  xdg-numbered : (p : XdgSurface → Bool) (number : ℕ) → number_of names.surfaces (find p o.shell) ≡ Some number → (k : Kept) × (x : XdgSurface) × (h : History) × IsXdg names kept o number k x h
      × (find p o.shell ≡ Some x)
  xdg-numbered p number e =
      let at = numbered-xdg names.surfaces (find p o.shell) number e in
      let one = xdg-found p at.0 at.1 in
      let same : one.0 ≡ number = same_Some one.0 number (sym one.3.surface ∙ at.2) in
      (one.1, at.0, one.2, subst (λ n. IsXdg names kept o n one.1 at.0 one.2) same one.3, at.1)

  xdg-unnumbered : (p : XdgSurface → Bool) → number_of names.surfaces (find p o.shell) ≡ None → find p o.shell ≡ None
  xdg-unnumbered p e = found-none p o.shell (λ x found. none-some (xdg-found p x found).0 (sym e ∙ ap (number_of names.surfaces) found ∙ (xdg-found p x found).3.surface))

  -- by the id of its object
  pub xdg-named : (id number : ℕ) → names.shell id ≡ Some number → (k : Kept) × (x : XdgSurface) × (h : History) × IsXdg names kept o number k x h × (xdg_at id o.shell ≡ Some x) × (x.id ≡ id)
  xdg-named id number named =
      let one = xdg-numbered (has_xdg id) number (sym (is.named id) ∙ named) in
      (one.0, one.1, one.2, one.3, one.4, eqb-true one.1.id id (found-passes (has_xdg id) o.shell one.1 one.4))

  pub xdg-unnamed : (id : ℕ) → names.shell id ≡ None → xdg_at id o.shell ≡ None
  xdg-unnamed id none = xdg-unnumbered (has_xdg id) (sym (is.named id) ∙ none)

  -- by the id of its toplevel
  pub toplevel-named : (id number : ℕ) → names.toplevels id ≡ Some number → (k : Kept) × (x : XdgSurface) × (h : History) × IsXdg names kept o number k x h × (xdg_with id o.shell ≡ Some x)
      × (is_role id x.role ≡ true)
  toplevel-named id number named =
      let one = xdg-numbered (has_role id) number (sym (is.toplevels id) ∙ named) in
      (one.0, one.1, one.2, one.3, one.4, found-passes (has_role id) o.shell one.1 one.4)

  pub toplevel-unnamed : (id : ℕ) → names.toplevels id ≡ None → xdg_with id o.shell ≡ None
  toplevel-unnamed id none = xdg-unnumbered (has_role id) (sym (is.toplevels id) ∙ none)

  -- by its surface
  pub xdg-of : (id number : ℕ) (k : Kept) → names.surfaces id ≡ Some number → kept number ≡ Some k → (x : XdgSurface) × (h : History) × IsXdg names kept o number k x h × (xdg_of id o.shell ≡ Some x)
      × (x.surface ≡ id)
  xdg-of id number k named here =
      let there = kept-there k (xdg_of id o.shell) (history_in id o.surfaces) (subst (λ (y : Option Kept). IsKept y (xdg_of id o.shell) (history_in id o.surfaces)) (ap (option_and_then kept) named
      ∙ here) (is.shell.each id)) in
      let one = xdg-found (has_surface id) there.0 there.1 in
      let surface : there.0.surface ≡ id = found-surface id o.shell there.0 there.1 in
      let same : one.0 ≡ number = same_Some one.0 number (sym one.3.surface ∙ ap names.surfaces surface ∙ named) in
      let kept_is : one.1 ≡ k = same_Some one.1 k (sym one.3.here ∙ ap kept same ∙ here) in
      (there.0, one.2, subst (λ (y : Kept). IsXdg names kept o number y there.0 one.2) kept_is (subst (λ n. IsXdg names kept o n one.1 there.0 one.2) same one.3), there.1, surface)

  pub xdg-of-none : (id number : ℕ) → names.surfaces id ≡ Some number → kept number ≡ None → xdg_of id o.shell ≡ None
  xdg-of-none id number named none =
      kept-none (xdg_of id o.shell) (history_in id o.surfaces) (subst (λ (y : Option Kept). IsKept y (xdg_of id o.shell) (history_in id o.surfaces)) (ap (option_and_then kept) named
      ∙ none) (is.shell.each id))

  -- without a surface there is none
  pub xdg-of-nobody : (id : ℕ) → names.surfaces id ≡ None → xdg_of id o.shell ≡ None
  xdg-of-nobody id none =
      kept-none (xdg_of id o.shell) (history_in id o.surfaces) (subst (λ (y : Option Kept). IsKept y (xdg_of id o.shell) (history_in id o.surfaces)) (ap (option_and_then kept) none)
      (is.shell.each id))

  -- none is kept of a surface that has none
  pub xdg-kept-none : (id number : ℕ) → names.surfaces id ≡ Some number → xdg_of id o.shell ≡ None → kept number ≡ None
  xdg-kept-none id number named none = at (kept number) refl
    where
      at : (k : Option Kept) → kept number ≡ k → k ≡ None
      at None here = refl
      at (Some k) here = let one = xdg-of id number k named here in absurd (none-some one.0 (sym none ∙ one.3))

  -- one is kept where there is one
  pub xdg-there : (id number : ℕ) → names.surfaces id ≡ Some number → is_some (kept number) ≡ is_some (xdg_of id o.shell)
  xdg-there id number named = at (kept number) refl
    where
      at : (k : Option Kept) → kept number ≡ k → is_some k ≡ is_some (xdg_of id o.shell)
      at None here = sym (ap is_some (xdg-of-none id number named here))
      at (Some k) here = sym (ap is_some (xdg-of id number k named here).3)
