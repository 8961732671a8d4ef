-- The popups of a client in order of creation have the numbers of those of its xdg_surfaces.
use Rattle.std.proofs.Common.{◌≡◌, ℕ, List, [], ◌∷◌, ◌++◌, Bool, true, false, cond, Option, Some, None, refl, ap, sym, subst, ◌∙◌}
use Rattle.std.specs.Prelude.{◌==◌, find, flat_map, fold, if◌then◌else◌, nat_lt}
use Rattle.std.specs.List.{list_any}
use Rattle.std.proofs.lemmas.Bool.{eqb-true, true≢false}
use Rattle.wl_shell.specs.Popups.{Popped, by_number, popped_kind, popped_of, popped_role, popups_of}
use Rattle.wl_shell.specs.Shell.{IsPopup, Kind, RoleObject, Shell, Toplevel, XdgSurface as Xdg}
use Rattle.law_desktop.specs.Apart.{AreApartBy}
use Rattle.law_desktop.proofs.Lists.Keys.{none-first, none-later}
use Rattle.law_desktop.proofs.Marks.Stacks.{equal-numbers}
use Rattle.law_desktop.proofs.InOrder.Numbers.{AreNumbered, has_number}
use Rattle.law_desktop.proofs.Lists.Tests.{find-none, none-any}

abbrev numbered : ℕ → Popped → Bool
numbered number p = p.popup.number == number

-- none of them has the number
abbrev LacksNumber : ℕ → List Popped → Type 0
LacksNumber number ps = find (numbered number) ps ≡ None

found-first : (b : Bool) (p : Popped) (o : Option Popped) → b ≡ false → o ≡ None → cond b (Some p) o ≡ None
found-first true p o none rest = absurd (true≢false none)
found-first false p o none rest = rest

-- ---- one more in order

none-among : (number : ℕ) (p : Popped) (ps : List Popped) → numbered number p ≡ false → LacksNumber number ps → LacksNumber number (by_number p ps)
none-among number p [] none rest = found-first (numbered number p) p None none refl
none-among number p (q ∷ qs) none rest =
    at (nat_lt p.popup.number q.popup.number) (none-among number p qs none (none-later (numbered number q) q (find (numbered number) qs) rest))
  where
    at : (b : Bool) → LacksNumber number (by_number p qs) → LacksNumber number (if b then p ∷ q ∷ qs else q ∷ by_number p qs)
    at true later = found-first (numbered number p) p (find (numbered number) (q ∷ qs)) none rest
    at false later = found-first (numbered number q) q (find (numbered number) (by_number p qs)) (none-first (numbered number q) q (find (numbered number) qs) rest) later

-- a number that one has another hasn't
other-number : (number : ℕ) (p q : Popped) → numbered number q ≡ true → numbered q.popup.number p ≡ false → numbered number p ≡ false
other-number number p q is other = ap (λ n. numbered n p) (sym (eqb-true q.popup.number number is)) ∙ other

turned : (p q : Popped) → numbered p.popup.number q ≡ false → numbered q.popup.number p ≡ false
turned p q other = at (numbered q.popup.number p) refl
  where
    at : (b : Bool) → numbered q.popup.number p ≡ b → numbered q.popup.number p ≡ false
    at true is = absurd (true≢false (sym (equal-numbers q.popup.number p.popup.number (sym (eqb-true p.popup.number q.popup.number is))) ∙ other))
    at false is = is

apart-among : (p : Popped) (ps : List Popped) → LacksNumber p.popup.number ps → AreApartBy numbered ps → AreApartBy numbered (by_number p ps)
apart-among p [] none apart = (λ key is. refl, tt)
apart-among p (q ∷ qs) none apart =
    at (nat_lt p.popup.number q.popup.number) (apart-among p qs (none-later (numbered p.popup.number q) q (find (numbered p.popup.number) qs) none) apart.1)
  where
    at : (b : Bool) → AreApartBy numbered (by_number p qs) → AreApartBy numbered (if b then p ∷ q ∷ qs else q ∷ by_number p qs)
    at true later = (λ key is. subst (λ n. LacksNumber n (q ∷ qs)) (eqb-true p.popup.number key is) none, apart)
    at false later = (
      λ key is. none-among key p qs (other-number key p q is (turned p q (none-first (numbered p.popup.number q) q (find (numbered p.popup.number) qs) none))) (apart.0 key is),
      later,
    )

-- ---- all of them in order

none-ordered : (number : ℕ) (acc ps : List Popped) → LacksNumber number acc → LacksNumber number ps → LacksNumber number (fold (λ qs p. by_number p qs) acc ps)
none-ordered number acc [] first all = first
none-ordered number acc (p ∷ ps) first all =
    none-ordered number (by_number p acc) ps (none-among number p acc (none-first (numbered number p) p (find (numbered number) ps) all) first)
    (none-later (numbered number p) p (find (numbered number) ps) all)

-- none of these has a number of those
AreElse : List Popped → List Popped → Type 0
AreElse acc [] = Unit {0}
AreElse acc (p ∷ ps) = LacksNumber p.popup.number acc × AreElse acc ps

else-more : (p : Popped) (acc ps : List Popped) → LacksNumber p.popup.number ps → AreElse acc ps → AreElse (by_number p acc) ps
unfolding AreElse
else-more p acc [] none differs = tt
else-more p acc (q ∷ qs) none differs = (
  none-among q.popup.number p acc (turned p q (none-first (numbered p.popup.number q) q (find (numbered p.popup.number) qs) none)) differs.0,
  else-more p acc qs (none-later (numbered p.popup.number q) q (find (numbered p.popup.number) qs) none) differs.1,
)

apart-ordered : (acc ps : List Popped) → AreApartBy numbered acc → AreApartBy numbered ps → AreElse acc ps → AreApartBy numbered (fold (λ qs p. by_number p qs) acc ps)
unfolding AreElse
apart-ordered acc [] apart these differs = apart
apart-ordered acc (p ∷ ps) apart these differs =
    apart-ordered (by_number p acc) ps (apart-among p acc differs.0 apart) these.1 (else-more p acc ps (these.0 p.popup.number (equal-numbers p.popup.number p.popup.number refl)) differs.1)

else-none : (ps : List Popped) → AreElse [] ps
unfolding AreElse
else-none [] = tt
else-none (p ∷ ps) = (refl, else-none ps)

-- ---- those of the xdg_surfaces

none-before : (number : ℕ) (x : Xdg) (ps : List Popped) → has_number number x ≡ false → LacksNumber number ps → LacksNumber number (popped_of x ++ ps)
none-before number x ps none rest = at x.role none
  where
    kind : (object : RoleObject) (k : Kind) → has_number number (record x { role = Some (record object { kind = k }) }) ≡ false → LacksNumber number (popped_kind x object k ++ ps)
    kind object Toplevel none = rest
    kind object (IsPopup popup) none = found-first (popup.number == number) _ (find (numbered number) ps) none rest

    at : (o : Option RoleObject) → has_number number (record x { role = o }) ≡ false → LacksNumber number (popped_role x o ++ ps)
    at None none = rest
    at (Some object) none = kind object object.kind none

none-popped : (number : ℕ) (xs : Shell) → find (has_number number) xs ≡ None → LacksNumber number (flat_map popped_of xs)
none-popped number [] none = refl
none-popped number (x ∷ xs) none =
    none-before number x (flat_map popped_of xs) (none-first (has_number number x) x (find (has_number number) xs) none)
    (none-popped number xs (none-later (has_number number x) x (find (has_number number) xs) none))

apart-before : (x : Xdg) (ps : List Popped) → ((number : ℕ) → has_number number x ≡ true → LacksNumber number ps) → AreApartBy numbered ps → AreApartBy numbered (popped_of x ++ ps)
apart-before x ps none apart = at x.role none
  where
    kind : (object : RoleObject) (k : Kind) → ((number : ℕ) → has_number number (record x { role = Some (record object { kind = k }) }) ≡ true → LacksNumber number ps)
        → AreApartBy numbered (popped_kind x object k ++ ps)
    kind object Toplevel none = apart
    kind object (IsPopup popup) none = (λ key is. none key is, apart)

    at : (o : Option RoleObject) → ((number : ℕ) → has_number number (record x { role = o }) ≡ true → LacksNumber number ps) → AreApartBy numbered (popped_role x o ++ ps)
    at None none = apart
    at (Some object) none = kind object object.kind none

apart-popped : (xs : Shell) → AreNumbered xs → AreApartBy numbered (flat_map popped_of xs)
apart-popped [] apart = tt
apart-popped (x ∷ xs) apart =
    apart-before x (flat_map popped_of xs) (λ number is. none-popped number xs (apart.0 number is)) (apart-popped xs apart.1)

pub numbers-apart : (shell : Shell) → AreNumbered shell → AreApartBy (λ number p. p.popup.number == number) (popups_of shell)
numbers-apart shell apart = apart-ordered [] (flat_map popped_of shell) tt (apart-popped shell apart) (else-none (flat_map popped_of shell))

-- ---- a number that one of them has

pub numbers-early : (number : ℕ) (shell : Shell) → list_any (λ p. p.popup.number == number) (popups_of shell) ≡ true → list_any (has_number number) shell ≡ true
numbers-early number shell any = at (list_any (has_number number) shell) refl
  where
    at : (b : Bool) → list_any (has_number number) shell ≡ b → list_any (has_number number) shell ≡ true
    at true is = is
    at false is =
        absurd (true≢false (sym any
        ∙ none-any (numbered number) (popups_of shell)
        (none-ordered number [] (flat_map popped_of shell) refl (none-popped number shell (find-none (has_number number) shell is)))))
