-- A change of one xdg_surface leaves the others as they are.
use Rattle.std.proofs.Common.{◌≡◌, ◌≢◌, ℕ, [], ◌∷◌, ◌++◌, Bool, true, false, Option, Some, None, refl, ap, sym, ◌∙◌, map, arith}
use Rattle.std.specs.Prelude.{◌==◌, cond, if◌then◌else◌, not, find, filter}
use Rattle.std.specs.Option.{option_map, option_or}
use Rattle.std.proofs.lemmas.Bool.{eqb-true}
use Rattle.std.proofs.lemmas.Bool.Decides.{nat_tests}
use Rattle.std.proofs.lemmas.List.Folds.{find-append}
use Rattle.wl_shell.specs.Agreement.{AreApart}
use Rattle.wl_shell.specs.Shell.{Shell, XdgSurface, with_change, with_new, without_xdg, xdg_at, xdg_of}

pub differ : (a b : ℕ) → (a == b) ≡ false → a ≢ b
differ a b e = λ same. grind (arith, nat_tests)

equal : (a b : ℕ) → a ≡ b → (a == b) ≡ true
equal a b e = grind (arith, nat_tests)

unequal : (a b : ℕ) → a ≢ b → (a == b) ≡ false
unequal a b e = grind (arith, nat_tests)

some-same : (x y : XdgSurface) → Some x ≡ Some y → x ≡ y
some-same x y e = cc

-- the first that passes, of one more
first : (b : Bool) (x y : XdgSurface) (o : Option XdgSurface) → b ≡ true → (if b then Some x else o) ≡ Some y → x ≡ y
first true x y o h e = cc
first false x y o h e = absurd (cc)

later : (b : Bool) (x : XdgSurface) (o p : Option XdgSurface) → b ≡ false → (if b then Some x else o) ≡ p → o ≡ p
later true x o p h e = absurd (cc)
later false x o p h e = e

none-here : (b : Bool) (x : XdgSurface) (o : Option XdgSurface) → (if b then Some x else o) ≡ None → b ≡ false
none-here true x o e = absurd (cc)
none-here false x o e = refl

-- what is found has the surface that is asked for
pub found-surface : (surface : ℕ) (shell : Shell) (x : XdgSurface) → xdg_of surface shell ≡ Some x → x.surface ≡ surface
found-surface surface [] x e = absurd (cc)
found-surface surface (y ∷ ys) x e = at (y.surface == surface) refl e (found-surface surface ys x)
  where
    at : (b : Bool) → (y.surface == surface) ≡ b → (if b then Some y else xdg_of surface ys) ≡ Some x → (xdg_of surface ys ≡ Some x → x.surface ≡ surface) → x.surface ≡ surface
    at true here e rest = ap (λ (z : XdgSurface). z.surface) (sym (some-same y x e)) ∙ eqb-true y.surface surface here
    at false here e rest = rest e

-- what is found by its surface is found by its id
pub found-at : (surface : ℕ) (shell : Shell) (x : XdgSurface) → AreApart shell → xdg_of surface shell ≡ Some x → xdg_at x.id shell ≡ Some x
found-at surface [] x apart e = absurd (cc)
found-at surface (y ∷ ys) x apart e = at (y.surface == surface) (y.id == x.id) refl e (found-at surface ys x apart.2)
  where
    at : (b c : Bool) → (y.id == x.id) ≡ c → (if b then Some y else xdg_of surface ys) ≡ Some x → (xdg_of surface ys ≡ Some x → xdg_at x.id ys ≡ Some x)
        → (if c then Some y else xdg_at x.id ys) ≡ Some x
    at true true here e rest = e
    at true false here e rest = absurd (differ y.id x.id here (ap (λ (z : XdgSurface). z.id) (some-same y x e)))
    at false false here e rest = rest e
    at false true here e rest =
        let none : xdg_at x.id ys ≡ None = ap (λ id. xdg_at id ys) (sym (eqb-true y.id x.id here)) ∙ apart.0 in
        absurd (let clash : None ≡ Some x = sym none ∙ rest e in cc)

-- two that have one id have one surface
pub one-surface : (a b : ℕ) (shell : Shell) (x y : XdgSurface) → AreApart shell → xdg_of a shell ≡ Some x → xdg_of b shell ≡ Some y → x.id ≡ y.id → a ≡ b
one-surface a b shell x y apart first second same =
    let both : Some x ≡ Some y = sym (found-at a shell x apart first) ∙ ap (λ id. xdg_at id shell) same ∙ found-at b shell y apart second in
    sym (found-surface a shell x first) ∙ ap (λ (z : XdgSurface). z.surface) (some-same x y both) ∙ found-surface b shell y second

-- a change that keeps what is tested
pub found-map : (p : XdgSurface → Bool) (f : XdgSurface → XdgSurface) → ((x : XdgSurface) → p (f x) ≡ p x) → (xs : Shell) → find p (map f xs) ≡ option_map f (find p xs)
found-map p f keeps [] = refl
found-map p f keeps (x ∷ xs) = ap (λ b. if b then Some (f x) else find p (map f xs)) (keeps x) ∙ at (p x) (found-map p f keeps xs)
  where
    at : (b : Bool) → find p (map f xs) ≡ option_map f (find p xs) → (if b then Some (f x) else find p (map f xs)) ≡ option_map f (if b then Some x else find p xs)
    at true e = refl
    at false e = e

module _ (id : ℕ) (change : XdgSurface → XdgSurface) (keeps_id : (x : XdgSurface) → (change x).id ≡ x.id) (keeps_surface : (x : XdgSurface) → (change x).surface ≡ x.surface) where
  abbrev pub one : XdgSurface → XdgSurface
  one x = cond (x.id == id) (change x) x

  one-id : (x : XdgSurface) → (one x).id ≡ x.id
  one-id x = at (x.id == id)
    where
      at : (b : Bool) → (cond b (change x) x).id ≡ x.id
      at true = keeps_id x
      at false = refl

  one-surface-stays : (x : XdgSurface) → (one x).surface ≡ x.surface
  one-surface-stays x = at (x.id == id)
    where
      at : (b : Bool) → (cond b (change x) x).surface ≡ x.surface
      at true = keeps_surface x
      at false = refl

  changed-of : (other : ℕ) (shell : Shell) → xdg_of other (with_change id change shell) ≡ option_map one (xdg_of other shell)
  changed-of other shell = found-map (λ x. x.surface == other) one (λ x. ap (λ s. s == other) (one-surface-stays x)) shell

  changed-at : (other : ℕ) (shell : Shell) → xdg_at other (with_change id change shell) ≡ option_map one (xdg_at other shell)
  changed-at other shell = found-map (λ x. x.id == other) one (λ x. ap (λ i. i == other) (one-id x)) shell

  pub changed-apart : (shell : Shell) → AreApart shell → AreApart (with_change id change shell)
  changed-apart [] apart = tt
  changed-apart (x ∷ xs) apart = (
    ap (λ i. xdg_at i (with_change id change xs)) (one-id x) ∙ changed-at x.id xs ∙ ap (option_map one) apart.0,
    ap (λ s. xdg_of s (with_change id change xs)) (one-surface-stays x) ∙ changed-of x.surface xs ∙ ap (option_map one) apart.1,
    changed-apart xs apart.2,
  )

  pub changed-here : (surface : ℕ) (shell : Shell) (x : XdgSurface) → xdg_of surface shell ≡ Some x → x.id ≡ id → xdg_of surface (with_change id change shell) ≡ Some (change x)
  changed-here surface shell x found same = changed-of surface shell ∙ ap (option_map one) found ∙ ap (λ b. Some (cond b (change x) x)) (equal x.id id same)

  pub changed-elsewhere : (surface other : ℕ) (shell : Shell) (x : XdgSurface) → AreApart shell → xdg_of surface shell ≡ Some x → x.id ≡ id → other ≢ surface
      → xdg_of other (with_change id change shell) ≡ xdg_of other shell
  changed-elsewhere surface other shell x apart found same away = changed-of other shell ∙ at (xdg_of other shell) refl
    where
      at : (o : Option XdgSurface) → xdg_of other shell ≡ o → option_map one o ≡ o
      at None e = refl
      at (Some y) e =
          let apart_id : y.id ≢ id = λ h. away (one-surface other surface shell y x apart e found (h ∙ sym same)) in
          ap (λ b. Some (cond b (change y) y)) (unequal y.id id apart_id)

-- a change that is none
pub changed-same : (id : ℕ) (shell : Shell) → with_change id (λ x. x) shell ≡ shell
changed-same id [] = refl
changed-same id (x ∷ xs) = ap (λ y. y ∷ with_change id (λ x. x) xs) (either (x.id == id)) ∙ ap (λ ys. x ∷ ys) (changed-same id xs)
  where
    either : (b : Bool) → cond b x x ≡ x
    either true = refl
    either false = refl

-- the last of all, where none before it passes
appended : (p : XdgSurface → Bool) (shell : Shell) (x : XdgSurface) → find p (shell ++ x ∷ []) ≡ option_or (find p shell) (if p x then Some x else None)
appended p shell x = find-append p shell (x ∷ [])

module _ (id base surface : ℕ) where
  abbrev pub newest : XdgSurface
  newest = record { id = id; base = base; surface = surface; role = None; configures = []; since = 0 }

  pub new-here : (shell : Shell) → xdg_of surface shell ≡ None → xdg_of surface (with_new id base surface shell) ≡ Some newest
  new-here shell none = appended (λ x. x.surface == surface) shell newest ∙ ap (λ o. option_or o (if surface == surface then Some newest else None)) none
      ∙ ap (λ b. if b then Some newest else None) (equal surface surface refl)

  pub new-elsewhere : (other : ℕ) (shell : Shell) → other ≢ surface → xdg_of other (with_new id base surface shell) ≡ xdg_of other shell
  new-elsewhere other shell away =
      appended (λ x. x.surface == other) shell newest ∙ ap (λ b. option_or (xdg_of other shell) (if b then Some newest else None)) (unequal surface other (λ h. away (sym h)))
      ∙ alone (xdg_of other shell)
    where
      alone : (o : Option XdgSurface) → option_or o None ≡ o
      alone None = refl
      alone (Some x) = refl

  pub new-apart : (shell : Shell) → xdg_at id shell ≡ None → xdg_of surface shell ≡ None → AreApart shell → AreApart (with_new id base surface shell)
  new-apart [] none_at none_of apart = (refl, refl, tt)
  new-apart (x ∷ xs) none_at none_of apart =
      let id_differs = none-here (x.id == id) x (xdg_at id xs) none_at in
      let surface_differs = none-here (x.surface == surface) x (xdg_of surface xs) none_of in (
        appended (λ y. y.id == x.id) xs newest ∙ ap (λ o. option_or o (if id == x.id then Some newest else None)) apart.0
            ∙ ap (λ b. if b then Some newest else None) (unequal id x.id (λ h. differ x.id id id_differs (sym h))),
        appended (λ y. y.surface == x.surface) xs newest ∙ ap (λ o. option_or o (if surface == x.surface then Some newest else None)) apart.1
            ∙ ap (λ b. if b then Some newest else None) (unequal surface x.surface (λ h. differ x.surface surface surface_differs (sym h))),
        new-apart xs (later (x.id == id) x (xdg_at id xs) None id_differs none_at) (later (x.surface == surface) x (xdg_of surface xs) None surface_differs none_of) apart.2,
      )

-- none that passes is left where there was none
none-left : (p q : XdgSurface → Bool) (xs : Shell) → find p xs ≡ None → find p (filter q xs) ≡ None
none-left p q [] none = refl
none-left p q (x ∷ xs) none = at (q x) (none-left p q xs (later (p x) x (find p xs) None (none-here (p x) x (find p xs) none) none))
  where
    at : (b : Bool) → find p (filter q xs) ≡ None → find p (cond b (x ∷ filter q xs) (filter q xs)) ≡ None
    at true rest = ap (λ c. if c then Some x else find p (filter q xs)) (none-here (p x) x (find p xs) none) ∙ rest
    at false rest = rest

pub removed-apart : (id : ℕ) (shell : Shell) → AreApart shell → AreApart (without_xdg id shell)
removed-apart id [] apart = tt
removed-apart id (x ∷ xs) apart = at (not (x.id == id)) (removed-apart id xs apart.2)
  where
    at : (b : Bool) → AreApart (without_xdg id xs) → AreApart (cond b (x ∷ without_xdg id xs) (without_xdg id xs))
    at true rest = (none-left (λ y. y.id == x.id) (λ y. not (y.id == id)) xs apart.0, none-left (λ y. y.surface == x.surface) (λ y. not (y.id == id)) xs apart.1, rest)
    at false rest = rest

-- where none has the id all stay
removed-none : (id : ℕ) (xs : Shell) → xdg_at id xs ≡ None → without_xdg id xs ≡ xs
removed-none id [] none = refl
removed-none id (x ∷ xs) none =
    let away = none-here (x.id == id) x (xdg_at id xs) none in
    ap (λ b. cond (not b) (x ∷ without_xdg id xs) (without_xdg id xs)) away ∙ ap (λ ys. x ∷ ys) (removed-none id xs (later (x.id == id) x (xdg_at id xs) None away none))

pub removed-here : (surface : ℕ) (shell : Shell) (x : XdgSurface) → AreApart shell → xdg_of surface shell ≡ Some x → xdg_of surface (without_xdg x.id shell) ≡ None
removed-here surface [] x apart found = refl
removed-here surface (y ∷ ys) x apart found = at (y.surface == surface) refl found (removed-here surface ys x apart.2)
  where
    at : (b : Bool) → (y.surface == surface) ≡ b → (if b then Some y else xdg_of surface ys) ≡ Some x → (xdg_of surface ys ≡ Some x → xdg_of surface (without_xdg x.id ys) ≡ None)
        → xdg_of surface (cond (not (y.id == x.id)) (y ∷ without_xdg x.id ys) (without_xdg x.id ys)) ≡ None
    at true here e rest =
        let same = some-same y x e in
        let none : xdg_at x.id ys ≡ None = ap (λ (z : XdgSurface). xdg_at z.id ys) (sym same) ∙ apart.0 in
        ap (λ b. xdg_of surface (cond (not b) (y ∷ without_xdg x.id ys) (without_xdg x.id ys))) (equal y.id x.id (ap (λ (z : XdgSurface). z.id) same))
        ∙ ap (xdg_of surface) (removed-none x.id ys none)
        ∙ ap (λ s. xdg_of s ys) (sym (eqb-true y.surface surface here))
        ∙ apart.1
    at false here e rest = stays (y.id == x.id)
      where
        stays : (c : Bool) → xdg_of surface (cond (not c) (y ∷ without_xdg x.id ys) (without_xdg x.id ys)) ≡ None
        stays true = rest e
        stays false = ap (λ b. if b then Some y else xdg_of surface (without_xdg x.id ys)) here ∙ rest e

pub removed-elsewhere : (other surface : ℕ) (shell : Shell) (x : XdgSurface) → AreApart shell → xdg_of surface shell ≡ Some x → other ≢ surface
    → xdg_of other (without_xdg x.id shell) ≡ xdg_of other shell
removed-elsewhere other surface shell x apart found away = stay shell (λ y e same. away (one-surface other surface shell y x apart e found same))
  where
    stay : (xs : Shell) → ((y : XdgSurface) → xdg_of other xs ≡ Some y → y.id ≢ x.id) → xdg_of other (without_xdg x.id xs) ≡ xdg_of other xs
    stay [] differs = refl
    stay (y ∷ ys) differs = at (y.surface == other) (y.id == x.id) refl refl (stay ys)
      where
        at : (b c : Bool) → (y.surface == other) ≡ b → (y.id == x.id) ≡ c → (((z : XdgSurface) → xdg_of other ys ≡ Some z → z.id ≢ x.id) → xdg_of other (without_xdg x.id ys) ≡ xdg_of other ys)
            → xdg_of other (cond (not c) (y ∷ without_xdg x.id ys) (without_xdg x.id ys)) ≡ (if b then Some y else xdg_of other ys)
        at true true here same rest = absurd (differs y (ap (λ b. if b then Some y else xdg_of other ys) here) (eqb-true y.id x.id same))
        at true false here same rest = ap (λ b. if b then Some y else xdg_of other (without_xdg x.id ys)) here
        at false true here same rest = rest (λ z e. differs z (ap (λ b. if b then Some y else xdg_of other ys) here ∙ e))
        at false false here same rest = ap (λ b. if b then Some y else xdg_of other (without_xdg x.id ys)) here ∙ rest (λ z e. differs z (ap (λ b. if b then Some y else xdg_of other ys) here ∙ e))
