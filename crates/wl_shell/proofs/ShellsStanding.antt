-- What is kept stands for the xdg_surfaces of a client.
use Rattle.std.proofs.Common.{◌≡◌, ℕ, [], ◌∷◌, Bool, true, false, Option, Some, None, refl, ap, subst, sym, ◌∙◌}
use Rattle.std.specs.Prelude.{◌==◌, if◌then◌else◌}
use Rattle.std.proofs.lemmas.Bool.{eqb-true}
use Rattle.wl_shell.specs.Agreement.{AreApart, IsKept, IsShell}
use Rattle.wl_shell.proofs.Agreeing.{differ, found-at, found-surface}
use Rattle.wl_surface.specs.State.{History}
use Rattle.wl_shell.specs.Kept.{Kept, Stands}
use Rattle.wl_shell.specs.Shell.{Shell, XdgSurface, xdg_at, xdg_of}

-- An xdg_surface that is kept under the number of its surface: it is found by that and by its id, and its surface has this history.
pub record IsThere (histories : ℕ → Option History) (shell : Shell) (surface : ℕ) (k : Kept) (x : XdgSurface) (h : History) : Type 0 where
  pub found : xdg_of surface shell ≡ Some x
  pub by_id : xdg_at x.id shell ≡ Some x
  pub number : x.surface ≡ surface
  pub history : histories surface ≡ Some h
  pub stands : Stands k x h

some-xdg : (x y : XdgSurface) → Some x ≡ Some y → x ≡ y
some-xdg x y e = cc

-- what is found has the id that is asked for
pub found-id : (id : ℕ) (shell : Shell) (x : XdgSurface) → xdg_at id shell ≡ Some x → x.id ≡ id
found-id id [] x e = absurd (cc)
found-id id (y ∷ ys) x e = at (y.id == id) refl e (found-id id ys x)
  where
    at : (b : Bool) → (y.id == id) ≡ b → (if b then Some y else xdg_at id ys) ≡ Some x → (xdg_at id ys ≡ Some x → x.id ≡ id) → x.id ≡ id
    at true here e rest = ap (λ (z : XdgSurface). z.id) (sym (some-xdg y x e)) ∙ eqb-true y.id id here
    at false here e rest = rest e

-- what is found by its id is found by its surface
pub found-of : (id : ℕ) (shell : Shell) (x : XdgSurface) → AreApart shell → xdg_at id shell ≡ Some x → xdg_of x.surface shell ≡ Some x
found-of id [] x apart e = absurd (cc)
found-of id (y ∷ ys) x apart e = at (y.id == id) (y.surface == x.surface) refl e (found-of id ys x apart.2)
  where
    at : (b c : Bool) → (y.surface == x.surface) ≡ c → (if b then Some y else xdg_at id ys) ≡ Some x → (xdg_at id ys ≡ Some x → xdg_of x.surface ys ≡ Some x)
        → (if c then Some y else xdg_of x.surface ys) ≡ Some x
    at true true here e rest = e
    at true false here e rest = absurd (differ y.surface x.surface here (ap (λ (z : XdgSurface). z.surface) (some-xdg y x e)))
    at false false here e rest = rest e
    at false true here e rest =
        let none : xdg_of x.surface ys ≡ None = ap (λ s. xdg_of s ys) (sym (eqb-true y.surface x.surface here)) ∙ apart.1 in
        absurd (let clash : None ≡ Some x = sym none ∙ rest e in cc)

module _ (kept : ℕ → Option Kept) (histories : ℕ → Option History) (shell : Shell) (is : IsShell kept histories shell) where
  -- what is kept is there
  pub there : (surface : ℕ) (k : Kept) → kept surface ≡ Some k → (x : XdgSurface) × (h : History) × IsThere histories shell surface k x h
  there surface k e =
      at (xdg_of surface shell) (histories surface) refl refl (subst (λ (o : Option Kept). IsKept o (xdg_of surface shell) (histories surface)) e (is.each surface))
    where
      at : (x : Option XdgSurface) (h : Option History) → xdg_of surface shell ≡ x → histories surface ≡ h → IsKept (Some k) x h
          → (x : XdgSurface) × (h : History) × IsThere histories shell surface k x h
      at None h a b s = absurd s
      at (Some x) None a b s = absurd s
      at (Some x) (Some h) a b s = (
        x,
        h,
        record { found = a; by_id = found-at surface shell x is.apart a; number = found-surface surface shell x a; history = b; stands = s },
      )

  -- and what is there is kept
  pub kept-for : (surface : ℕ) (x : XdgSurface) → xdg_of surface shell ≡ Some x → (k : Kept) × (h : History) × (kept surface ≡ Some k) × IsThere histories shell surface k x h
  kept-for surface x e =
      at (kept surface) (histories surface) refl refl (subst (λ (o : Option XdgSurface). IsKept (kept surface) o (histories surface)) e (is.each surface))
    where
      at : (k : Option Kept) (h : Option History) → kept surface ≡ k → histories surface ≡ h → IsKept k (Some x) h
          → (k : Kept) × (h : History) × (kept surface ≡ Some k) × IsThere histories shell surface k x h
      at None h a b s = absurd s
      at (Some k) None a b s = absurd s
      at (Some k) (Some h) a b s = (
        k,
        h,
        a,
        record { found = e; by_id = found-at surface shell x is.apart e; number = found-surface surface shell x e; history = b; stands = s },
      )

  -- both together
  pub both : (surface : ℕ) (k : Kept) (x : XdgSurface) → kept surface ≡ Some k → xdg_of surface shell ≡ Some x → (h : History) × IsThere histories shell surface k x h
  both surface k x e f =
      let t = there surface k e in
      (t.1, subst (λ (y : XdgSurface). IsThere histories shell surface k y t.1) (some-xdg t.0 x (sym t.2.found ∙ f)) t.2)

  -- what isn't kept isn't there
  pub none-for : (surface : ℕ) → kept surface ≡ None → xdg_of surface shell ≡ None
  none-for surface e = at (xdg_of surface shell) (histories surface) (subst (λ (o : Option Kept). IsKept o (xdg_of surface shell) (histories surface)) e (is.each surface))
    where
      at : (x : Option XdgSurface) (h : Option History) → IsKept None x h → x ≡ None
      at None h s = refl
      at (Some x) h s = absurd s
