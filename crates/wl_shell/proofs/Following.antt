-- What `dismiss` and its like find follows the popups in order of creation.
use Rattle.std.proofs.Common.{◌≡◌, ◌≤◌, ◌<◌, ◌+◌, ℕ, suc, List, [], ◌∷◌, ◌++◌, Bool, true, false, Option, Some, None, inl, inr, map, length, refl, ap, ap₂, subst, sym, ◌∙◌, arith}
use Rattle.std.specs.Prelude.{◌==◌, ◌&&◌, ◌||◌, ◌⊎◌, IfSome, IsSomeAnd, cond, filter, flat_map, fold, if◌then◌else◌, nat_lt, not}
use Rattle.std.specs.List.{list_any}
use Rattle.std.specs.Option.{option_map, option_map_or}
use Rattle.std.proofs.lemmas.Bool.{eqb-true}
use Rattle.std.proofs.lemmas.List.{length-append, map-append}
use Rattle.wl_shell.specs.Agreement.{IsShell}
use Rattle.wl_shell.specs.Descent.{AreYounger, has_popup_at, is_of_xdg}
use Rattle.wl_shell.specs.Dismissing.{AreDone, GoesByFamily}
use Rattle.wl_shell.specs.Found.{AreFound}
use Rattle.wl_shell.specs.InOrder.{AfterFound, AreReleased, AreRising, FirstFound, GoesNext, HasOrder, IsNextToGo, IsOnly, NextFound, NextStands, first_surface, goes_with, newest_first, undismissed, with_dismissed}
use Rattle.wl_shell.specs.PopupsKept.{IsFound, IsNewest, IsOldest, dismissible, dismissible_under, has_popup, number_of, reaches}
use Rattle.wl_shell.proofs.Descending.{descents_found, or-first, or-second, same-id}
use Rattle.wl_shell.proofs.Dismissing.{EachAlike, alike-popups, dismissals_end, gone_at, same-after}
use Rattle.wl_shell.proofs.Agreeing.{found-at, found-surface}
use Rattle.wl_shell.proofs.Ordered.{Each, IsAmong, IsIts, IsKeptAs, all-its, among-popups, at-among, each-map, kept-as, popped-as, popup-of}
use Rattle.wl_shell.proofs.Reading.{any-in-order}
use Rattle.wl_shell.proofs.Shells.{changed-still}
use Rattle.wl_shell.proofs.ShellsStanding.{both, kept-for, there}
use Rattle.wl_surface.specs.State.{History}
use Rattle.wl_shell.proofs.Standing.{changes_stand}
use Rattle.wl_shell.specs.Kept.{Book, Kept, kept_changed, kept_of}
use Rattle.wl_shell.specs.Popups.{Popped, by_number, dismiss, dismissed_with, dismissing, is_among, is_parent_of, kind_popup, popped_kind, popped_of, popped_role, popup_changed}
use Rattle.wl_shell.specs.Popups.{popup_in, popups_of, with_popup, with_popup_role}
use Rattle.wl_shell.specs.Shell.{IsPopup, Kind, Popup, RoleObject, Shell, Toplevel, XdgSurface, xdg_at, xdg_of}

-- ---- lists

each-and : (P Q : Popped → Type 0) (ps : List Popped) → Each P ps → Each Q ps → Each (λ p. P p × Q p) ps
each-and P Q [] e f = tt
each-and P Q (p ∷ ps) e f = ((e.0, f.0), each-and P Q ps e.1 f.1)

none-of : (T : Popped → Bool) (ps : List Popped) → Each (λ p. T p ≡ false) ps → filter T ps ≡ []
none-of T [] none = refl
none-of T (p ∷ ps) none = ap (λ (b : Bool). cond b (p ∷ filter T ps) (filter T ps)) none.0 ∙ none-of T ps none.1

pub any-none : (T : Popped → Bool) (ps : List Popped) → Each (λ p. T p ≡ false) ps → list_any T ps ≡ false
any-none T [] none = refl
any-none T (p ∷ ps) none = ap (λ (b : Bool). b || list_any T ps) none.0 ∙ any-none T ps none.1

all-of : (ps : List Popped) → filter (λ p. true) ps ≡ ps
all-of [] = refl
all-of (p ∷ ps) = ap (λ (qs : List Popped). p ∷ qs) (all-of ps)

among-any : (p : Popped) (ps : List Popped) → IsAmong p ps → list_any (is_of_xdg p.xdg.id) ps ≡ true
among-any p [] among = absurd among
among-any p (q ∷ qs) (inl same) =
    or-first (q.xdg.id == p.xdg.id) (list_any (is_of_xdg p.xdg.id) qs) (ap (λ (r : Popped). r.xdg.id == p.xdg.id) same ∙ same-id p.xdg.id)
among-any p (q ∷ qs) (inr after) = or-second (q.xdg.id == p.xdg.id) (list_any (is_of_xdg p.xdg.id) qs) (among-any p qs after)

-- ---- sorted by number

abbrev pub AreSorted : (ℕ → ℕ → Type 0) → List Popped → Type 0
AreSorted Before [] = Unit {0}
AreSorted Before (p ∷ ps) = Each (λ q. Before p.popup.number q.popup.number) ps × AreSorted Before ps

number-each : (P : ℕ → Type 0) (ps : List Popped) → ((number : ℕ) → list_any (λ q. q.popup.number == number) ps ≡ true → P number) → Each (λ q. P q.popup.number) ps
number-each P [] all = tt
number-each P (p ∷ ps) all = (
  all p.popup.number (or-first (p.popup.number == p.popup.number) (list_any (λ q. q.popup.number == p.popup.number) ps) (same-id p.popup.number)),
  number-each P ps (λ n e. all n (or-second (p.popup.number == n) (list_any (λ q. q.popup.number == n) ps) e)),
)

abbrev pub Rises : ℕ → ℕ → Type 0
Rises a b = a < b

abbrev Falls : ℕ → ℕ → Type 0
Falls a b = b < a

rise-clash : (a b : ℕ) → a < b → b ≤ a → ⊥
rise-clash a b less more = omega (arith, less, more)

fall-clash : (a b : ℕ) → b < a → a ≤ b → ⊥
fall-clash a b less more = omega (arith, less, more)

below-none : (a : ℕ) → a < a → ⊥
below-none a less = omega (arith, less)

pub rising-sorted : (ps : List Popped) → AreRising ps → AreSorted Rises ps
rising-sorted [] rising = tt
rising-sorted (p ∷ ps) rising = (number-each (λ n. p.popup.number < n) ps rising.0, rising-sorted ps rising.1)

pub each-newest : (P : Popped → Type 0) (acc ps : List Popped) → Each P acc → Each P ps → Each P (fold (λ later p. p ∷ later) acc ps)
each-newest P acc [] first all = first
each-newest P acc (p ∷ ps) first all = each-newest P (p ∷ acc) ps (all.0, first) all.1

among-later : (q : Popped) (acc ps : List Popped) → IsAmong q acc → IsAmong q (fold (λ later p. p ∷ later) acc ps)
among-later q acc [] e = e
among-later q acc (p ∷ ps) e = among-later q (p ∷ acc) ps (inr e)

among-newest : (q : Popped) (acc ps : List Popped) → IsAmong q ps → IsAmong q (fold (λ later p. p ∷ later) acc ps)
among-newest q acc [] e = absurd e
among-newest q acc (p ∷ ps) (inl e) = among-later q (p ∷ acc) ps (inl e)
among-newest q acc (p ∷ ps) (inr e) = among-newest q (p ∷ acc) ps e

newest-sorted : (acc ps : List Popped) → AreSorted Falls acc → AreSorted Rises ps → Each (λ p. Each (λ q. q.popup.number < p.popup.number) acc) ps
    → AreSorted Falls (fold (λ later p. p ∷ later) acc ps)
newest-sorted acc [] fall rise apart = fall
newest-sorted acc (p ∷ ps) fall rise apart =
    newest-sorted (p ∷ acc) ps (apart.0, fall) rise.1
    (each-and (λ q. p.popup.number < q.popup.number) (λ q. Each (λ r. r.popup.number < q.popup.number) acc) ps rise.0 apart.1)

each-empty : (ps : List Popped) → Each (λ (p : Popped). Each (λ (q : Popped). q.popup.number < p.popup.number) []) ps
each-empty [] = tt
each-empty (p ∷ ps) = (tt, each-empty ps)

falling : (ps : List Popped) → AreRising ps → AreSorted Falls (newest_first ps)
falling ps rising = newest-sorted [] ps tt (rising-sorted ps rising) (each-empty ps)

-- ---- the first that passes

module _ (Before NoBetter : ℕ → ℕ → Type 0) (clash : (a b : ℕ) → Before a b → NoBetter a b → ⊥) (irreflexive : (a : ℕ) → Before a a → ⊥) (T : Popped → Bool) where
  abbrev IsFirst : Popped → List Popped → Type 0
  IsFirst p qs = Each (λ q. T q ≡ true → NoBetter q.popup.number p.popup.number) qs

  first-of : (p : Popped) (qs : List Popped) → AreSorted Before qs → IsAmong p qs → T p ≡ true → IsFirst p qs → (rest : List Popped) × (filter T qs ≡ p ∷ rest)
  first-of p [] sorted among passes best = absurd among
  first-of p (q ∷ qs) sorted among passes best = at (T q) refl among (λ after. first-of p qs sorted.1 after passes best.1)
    where
      at : (b : Bool) → T q ≡ b → (q ≡ p) ⊎ IsAmong p qs → (IsAmong p qs → (rest : List Popped) × (filter T qs ≡ p ∷ rest))
          → (rest : List Popped) × (cond b (q ∷ filter T qs) (filter T qs) ≡ p ∷ rest)
      at true e (inl same) later = (filter T qs, ap (λ (r : Popped). r ∷ filter T qs) same)
      at true e (inr after) later =
          absurd (clash q.popup.number p.popup.number (at-among (λ r. Before q.popup.number r.popup.number) p qs after sorted.0) (best.0 e))
      at false e (inl same) later = absurd (let no : false ≡ true = sym e ∙ ap T same ∙ passes in cc)
      at false e (inr after) later = later after

  module _ (f : Popped → Popped) (id : ℕ) (tested : (q : Popped) → T (f q) ≡ cond (q.xdg.id == id) false (T q)) (kept : (q : Popped) → (q.xdg.id == id) ≡ false → f q ≡ q) where
    hides : (q : Popped) → (q.xdg.id == id) ≡ true → T (f q) ≡ false
    hides q here = tested q ∙ ap (λ (b : Bool). cond b false (T q)) here

    stays-hidden : (q : Popped) → T q ≡ false → T (f q) ≡ false
    stays-hidden q hidden = tested q ∙ ap (λ (b : Bool). cond (q.xdg.id == id) false b) hidden ∙ at (q.xdg.id == id)
      where
        at : (b : Bool) → cond b false false ≡ false
        at true = refl
        at false = refl

    untouched : (qs : List Popped) → Each (λ q. (q.xdg.id == id) ≡ false) qs → map f qs ≡ qs
    untouched [] apart = refl
    untouched (q ∷ qs) apart = ap₂ (λ (r : Popped) (rs : List Popped). r ∷ rs) (kept q apart.0) (untouched qs apart.1)

    -- without the first, the others are left
    others-left : (p : Popped) (qs : List Popped) → (p.xdg.id == id) ≡ true → AreSorted Before qs → IsAmong p qs → T p ≡ true → IsFirst p qs
        → Each (λ q. (q.xdg.id == id) ≡ true → q ≡ p) qs → filter T qs ≡ p ∷ filter T (map f qs)
    others-left p [] here sorted among passes best only = absurd among
    others-left p (q ∷ qs) here sorted among passes best only = at (T q) refl among (λ after. others-left p qs here sorted.1 after passes best.1 only.1)
      where
        none-else : q ≡ p → Each (λ r. (r.xdg.id == id) ≡ false) qs
        none-else same =
            each-map (λ (r : Popped). Before q.popup.number r.popup.number × ((r.xdg.id == id) ≡ true → r ≡ p)) (λ (r : Popped). (r.xdg.id == id) ≡ false)
            (λ r t. apart r (r.xdg.id == id) refl t.0 t.1) qs (each-and (λ r. Before q.popup.number r.popup.number) (λ r. (r.xdg.id == id) ≡ true → r ≡ p) qs sorted.0 only.1)
          where
            apart : (r : Popped) (b : Bool) → (r.xdg.id == id) ≡ b → Before q.popup.number r.popup.number → ((r.xdg.id == id) ≡ true → r ≡ p) → b ≡ false
            apart r true e before its =
                absurd (irreflexive q.popup.number (subst (λ (s : Popped). Before q.popup.number s.popup.number) (its e ∙ sym same) before))
            apart r false e before its = refl

        gone : T (f q) ≡ false → filter T (map f (q ∷ qs)) ≡ filter T (map f qs)
        gone hidden = ap (λ (b : Bool). cond b (f q ∷ filter T (map f qs)) (filter T (map f qs))) hidden

        at : (b : Bool) → T q ≡ b → (q ≡ p) ⊎ IsAmong p qs → (IsAmong p qs → filter T qs ≡ p ∷ filter T (map f qs))
            → cond b (q ∷ filter T qs) (filter T qs) ≡ p ∷ filter T (map f (q ∷ qs))
        at true e (inl same) later =
            ap₂ (λ (r : Popped) (rs : List Popped). r ∷ filter T rs) same (sym (untouched qs (none-else same)))
            ∙ ap (λ (rs : List Popped). p ∷ rs) (sym (gone (hides q (ap (λ (r : Popped). r.xdg.id == id) same ∙ here))))
        at true e (inr after) later =
            absurd (clash q.popup.number p.popup.number (at-among (λ r. Before q.popup.number r.popup.number) p qs after sorted.0) (best.0 e))
        at false e (inl same) later = absurd (let no : false ≡ true = sym e ∙ ap T same ∙ passes in cc)
        at false e (inr after) later =
            later after ∙ ap (λ (rs : List Popped). p ∷ rs) (sym (gone (stays-hidden q e)))

-- ---- what is found among what is kept

module _ (kept : ℕ → Option Kept) (histories : ℕ → Option History) (shell : Shell) (is : IsShell kept histories shell) where
  popup-kept : (surface : ℕ) (k : Kept) (p : Popped) → kept surface ≡ Some k → IsOnly shell surface p → popup_in k.role ≡ Some p.popup
  popup-kept surface k p here only =
      let t = both kept histories shell is surface k p.xdg here only.found in
      ap popup_in t.1.stands.role ∙ popup-of p.xdg p only.its

  id-kept : (surface : ℕ) (k : Kept) (p : Popped) → kept surface ≡ Some k → IsOnly shell surface p → k.id ≡ p.xdg.id
  id-kept surface k p here only = let t = both kept histories shell is surface k p.xdg here only.found in t.1.stands.id

  module _ (passes : Kept → Bool) (T : Popped → Bool) (agree : (surface : ℕ) (k : Kept) (p : Popped) → kept surface ≡ Some k → IsOnly shell surface p → passes k ≡ T p)
      (popupless : (k : Kept) → popup_in k.role ≡ None → passes k ≡ false) (R : ℕ → ℕ → Type 0) where
    none-found : IsFound R passes kept None → Each (λ p. T p ≡ false) (popups_of shell)
    none-found none =
        each-map (IsIts shell) (λ p. T p ≡ false) (λ p its. by p its (kept-as kept histories shell is (λ popup. true) p.xdg.surface p its)) (popups_of shell) (all-its shell is.apart)
      where
        by : (p : Popped) → IsIts shell p → (k : Kept) × IsKeptAs kept (λ popup. true) p.xdg.surface p k → T p ≡ false
        by p its t =
            sym (agree p.xdg.surface t.0 p t.1.here its) ∙ subst (λ (o : Option Kept). IfSome o (λ k. passes k ≡ false)) t.1.here (none p.xdg.surface)

    record IsBest (surface : ℕ) (p : Popped) : Type 0 where
      only : IsOnly shell surface p
      passed : T p ≡ true
      best : Each (λ q. T q ≡ true → R q.popup.number p.popup.number) (popups_of shell)

    abbrev NoneBetter : Kept → Type 0
    NoneBetter k = (other : ℕ) → IfSome (kept other) (λ o. passes o ≡ true → R (number_of o) (number_of k))

    best-of : (k : Kept) (p : Popped) → number_of k ≡ p.popup.number → NoneBetter k → Each (λ q. T q ≡ true → R q.popup.number p.popup.number) (popups_of shell)
    best-of k p same none =
        each-map (IsIts shell) (λ q. T q ≡ true → R q.popup.number p.popup.number)
        (λ q its. by q its (kept-as kept histories shell is (λ popup. true) q.xdg.surface q its)) (popups_of shell) (all-its shell is.apart)
      where
        by : (q : Popped) → IsIts shell q → (l : Kept) × IsKeptAs kept (λ popup. true) q.xdg.surface q l → T q ≡ true → R q.popup.number p.popup.number
        by q its t passed =
            subst (λ (n : ℕ). R n p.popup.number) t.1.number
            (subst (λ (n : ℕ). R (number_of t.0) n) same
            (subst (λ (o : Option Kept). IfSome o (λ o. passes o ≡ true → R (number_of o) (number_of k))) t.1.here (none q.xdg.surface)
            (agree q.xdg.surface t.0 q t.1.here its ∙ passed)))

    some-found : (surface : ℕ) → IsFound R passes kept (Some surface) → (p : Popped) × IsBest surface p
    some-found surface found = at (kept surface) refl found
      where
        popup-found : (k : Kept) → kept surface ≡ Some k → passes k ≡ true → NoneBetter k → (o : Option Popup) → popup_in k.role ≡ o → (p : Popped) × IsBest surface p
        popup-found k here passed none None f = absurd (let no : false ≡ true = sym (popupless k f) ∙ passed in cc)
        popup-found k here passed none (Some popup) f =
            let t = there kept histories shell is surface k here in
            let popped = popped-as t.0 popup (ap popup_in (sym t.2.stands.role) ∙ f) in
            let only : IsOnly shell surface popped.0 =
            record { found = t.2.found ∙ ap (λ (x : XdgSurface). Some x) (sym popped.1.xdg); its = ap popped_of popped.1.xdg ∙ popped.1.its } in
            let number : number_of k ≡ popped.0.popup.number =
            ap (λ (o : Option Popup). option_map_or (λ popup. popup.number) o 0) (f ∙ ap (λ (q : Popup). Some q) (sym popped.1.its_popup)) in (
              popped.0,
              record { only = only; passed = sym (agree surface k popped.0 here only) ∙ passed; best = best-of k popped.0 number none },
            )

        at : (o : Option Kept) → kept surface ≡ o → IsSomeAnd o (λ k. (passes k ≡ true) × NoneBetter k) → (p : Popped) × IsBest surface p
        at None e s = absurd s
        at (Some k) e s = popup-found k e s.0 s.1 (popup_in k.role) refl

  -- ---- by a test of popups

  module _ (test : Popup → Bool) where
    abbrev by-popup : Popped → Bool
    by-popup p = test p.popup

    agreed : (surface : ℕ) (k : Kept) (p : Popped) → kept surface ≡ Some k → IsOnly shell surface p → has_popup test k ≡ by-popup p
    agreed surface k p here only = ap (λ (o : Option Popup). option_map_or test o false) (popup-kept surface k p here only)

    no-popup : (k : Kept) → popup_in k.role ≡ None → has_popup test k ≡ false
    no-popup k none = ap (λ (o : Option Popup). option_map_or test o false) none

    oldest-found : (result : Option ℕ) → AreRising (popups_of shell) → IsOldest (has_popup test) kept result → result ≡ first_surface (filter by-popup (popups_of shell))
    oldest-found None rising none =
        sym (ap first_surface (none-of by-popup (popups_of shell) (none-found (has_popup test) by-popup agreed no-popup (λ other this. this ≤ other) none)))
    oldest-found (Some surface) rising found =
        let p = some-found (has_popup test) by-popup agreed no-popup (λ other this. this ≤ other) surface found in
        let rest = first-of Rises (λ other this. this ≤ other) rise-clash below-none by-popup p.0 (popups_of shell)
        (rising-sorted (popups_of shell) rising) (among-popups shell surface p.0 p.1.only) p.1.passed p.1.best in
        ap (λ (s : ℕ). Some s) (sym (found-surface surface shell p.0.xdg p.1.only.found)) ∙ sym (ap first_surface rest.1)

pub first_found : FirstFound
first_found result kept histories shell is rising found =
    oldest-found kept histories shell is (λ popup. true) result rising found ∙ ap first_surface (all-of (popups_of shell))

pub after_found : AfterFound
after_found number result kept histories shell is rising found = oldest-found kept histories shell is (λ popup. nat_lt number popup.number) result rising found

-- ---- one is dismissed

module _ (id : ℕ) where
  abbrev pub gone_popped : Popped → Popped
  gone_popped p = cond (p.xdg.id == id) (record { xdg = popup_changed dismiss p.xdg; object = with_popup_role dismiss p.object; popup = dismiss p.popup }) p

  number-stays : (p : Popped) → (gone_popped p).popup.number ≡ p.popup.number
  number-stays p = at (p.xdg.id == id)
    where
      at : (b : Bool) → (cond b (record { xdg = popup_changed dismiss p.xdg; object = with_popup_role dismiss p.object; popup = dismiss p.popup }) p).popup.number ≡ p.popup.number
      at true = refl
      at false = refl

  one-gone : (x : XdgSurface) → popped_of (gone_at id x) ≡ map gone_popped (popped_of x)
  one-gone x = at (x.id == id) refl
    where
      kind-gone : (x.id == id) ≡ true → (object : RoleObject) (k : Kind)
          → popped_kind (popup_changed dismiss x) (with_popup_role dismiss object) (with_popup dismiss k) ≡ map gone_popped (popped_kind x object k)
      kind-gone e object Toplevel = refl
      kind-gone e object (IsPopup popup) =
          sym (ap (λ (b : Bool). cond b (record { xdg = popup_changed dismiss x; object = with_popup_role dismiss object; popup = dismiss popup })
          (record { xdg = x; object = object; popup = popup }) ∷ []) e)

      role-gone : (x.id == id) ≡ true → (o : Option RoleObject) → popped_role (popup_changed dismiss x) (option_map (with_popup_role dismiss) o) ≡ map gone_popped (popped_role x o)
      role-gone e None = refl
      role-gone e (Some object) = kind-gone e object object.kind

      kind-kept : (x.id == id) ≡ false → (object : RoleObject) (k : Kind) → popped_kind x object k ≡ map gone_popped (popped_kind x object k)
      kind-kept e object Toplevel = refl
      kind-kept e object (IsPopup popup) =
          sym (ap (λ (b : Bool). cond b (record { xdg = popup_changed dismiss x; object = with_popup_role dismiss object; popup = dismiss popup })
          (record { xdg = x; object = object; popup = popup }) ∷ []) e)

      role-kept : (x.id == id) ≡ false → (o : Option RoleObject) → popped_role x o ≡ map gone_popped (popped_role x o)
      role-kept e None = refl
      role-kept e (Some object) = kind-kept e object object.kind

      at : (b : Bool) → (x.id == id) ≡ b → popped_of (cond b (popup_changed dismiss x) x) ≡ map gone_popped (popped_of x)
      at true e = role-gone e x.role
      at false e = role-kept e x.role

  flat-gone : (xs : Shell) → flat_map popped_of (map (gone_at id) xs) ≡ map gone_popped (flat_map popped_of xs)
  flat-gone [] = refl
  flat-gone (x ∷ xs) =
      ap₂ (λ (ps qs : List Popped). ps ++ qs) (one-gone x) (flat-gone xs) ∙ sym (map-append gone_popped (popped_of x) (flat_map popped_of xs))

  by-number-gone : (p : Popped) (ps : List Popped) → by_number (gone_popped p) (map gone_popped ps) ≡ map gone_popped (by_number p ps)
  by-number-gone p [] = refl
  by-number-gone p (q ∷ qs) =
      ap₂ (λ (m n : ℕ). if nat_lt m n then gone_popped p ∷ gone_popped q ∷ map gone_popped qs else gone_popped q ∷ by_number (gone_popped p) (map gone_popped qs))
      (number-stays p) (number-stays q)
      ∙ at (nat_lt p.popup.number q.popup.number) (by-number-gone p qs)
    where
      at : (b : Bool) → by_number (gone_popped p) (map gone_popped qs) ≡ map gone_popped (by_number p qs)
          → (if b then gone_popped p ∷ gone_popped q ∷ map gone_popped qs else gone_popped q ∷ by_number (gone_popped p) (map gone_popped qs))
          ≡ map gone_popped (if b then p ∷ q ∷ qs else q ∷ by_number p qs)
      at true e = refl
      at false e = ap (λ (rs : List Popped). gone_popped q ∷ rs) e

  ordered-gone : (acc ps : List Popped) → fold (λ rs p. by_number p rs) (map gone_popped acc) (map gone_popped ps) ≡ map gone_popped (fold (λ rs p. by_number p rs) acc ps)
  ordered-gone acc [] = refl
  ordered-gone acc (p ∷ ps) =
      ap (λ (rs : List Popped). fold (λ rs p. by_number p rs) rs (map gone_popped ps)) (by-number-gone p acc) ∙ ordered-gone (by_number p acc) ps

  pub popups-gone : (shell : Shell) → popups_of (with_dismissed id shell) ≡ map gone_popped (popups_of shell)
  popups-gone shell = ap (λ (ps : List Popped). fold (λ rs p. by_number p rs) [] ps) (flat-gone shell) ∙ ordered-gone [] (flat_map popped_of shell)

  newest-gone : (acc ps : List Popped) → fold (λ later p. p ∷ later) (map gone_popped acc) (map gone_popped ps) ≡ map gone_popped (fold (λ later p. p ∷ later) acc ps)
  newest-gone acc [] = refl
  newest-gone acc (p ∷ ps) = newest-gone (p ∷ acc) ps

  newest-first-gone : (shell : Shell) → newest_first (popups_of (with_dismissed id shell)) ≡ map gone_popped (newest_first (popups_of shell))
  newest-first-gone shell = ap newest_first (popups-gone shell) ∙ newest-gone [] (popups_of shell)

  pub gone-kept : (q : Popped) → (q.xdg.id == id) ≡ false → gone_popped q ≡ q
  gone-kept q e = ap (λ (b : Bool). cond b (record { xdg = popup_changed dismiss q.xdg; object = with_popup_role dismiss q.object; popup = dismiss q.popup }) q) e

  gone-tested : (gone : List ℕ) (q : Popped)
      → (is_among (gone_popped q).xdg.id gone && not (gone_popped q).popup.is_dismissed) ≡ cond (q.xdg.id == id) false (is_among q.xdg.id gone && not q.popup.is_dismissed)
  gone-tested gone q = at (q.xdg.id == id)
    where
      no : (b : Bool) → (b && false) ≡ false
      no true = refl
      no false = refl

      at : (b : Bool) → (is_among (cond b (record { xdg = popup_changed dismiss q.xdg; object = with_popup_role dismiss q.object; popup = dismiss q.popup }) q).xdg.id gone
          && not (cond b (record { xdg = popup_changed dismiss q.xdg; object = with_popup_role dismiss q.object; popup = dismiss q.popup }) q).popup.is_dismissed)
          ≡ cond b false (is_among q.xdg.id gone && not q.popup.is_dismissed)
      at true = no (is_among q.xdg.id gone)
      at false = refl

-- ---- what a caller keeps stays

number-alike : (n : ℕ) (ps qs : List Popped) → EachAlike ps qs → list_any (λ q. q.popup.number == n) ps ≡ list_any (λ q. q.popup.number == n) qs
number-alike n [] [] all = refl
number-alike n [] (q ∷ qs) all = absurd all
number-alike n (p ∷ ps) [] all = absurd all
number-alike n (p ∷ ps) (q ∷ qs) all = ap₂ (λ a b. a || b) (ap (λ (m : ℕ). m == n) all.0.2) (number-alike n ps qs all.1)

rising-alike : (ps qs : List Popped) → EachAlike ps qs → AreRising ps → AreRising qs
rising-alike [] [] all rising = tt
rising-alike [] (q ∷ qs) all rising = absurd all
rising-alike (p ∷ ps) [] all rising = absurd all
rising-alike (p ∷ ps) (q ∷ qs) all rising = (
  λ n e. subst (λ (m : ℕ). m < n) all.0.2 (rising.0 n (number-alike n ps qs all.1 ∙ e)),
  rising-alike ps qs all.1 rising.1,
)

parent-alike : (p q : Popped) → p.popup.parent ≡ q.popup.parent → (ps qs : List Popped) → EachAlike ps qs
    → list_any (λ r. is_parent_of r.xdg.id p.popup) ps ≡ list_any (λ r. is_parent_of r.xdg.id q.popup) qs
parent-alike p q same [] [] all = refl
parent-alike p q same [] (s ∷ qs) all = absurd all
parent-alike p q same (r ∷ ps) [] all = absurd all
parent-alike p q same (r ∷ ps) (s ∷ qs) all =
    ap₂ (λ a b. a || b) (ap₂ (λ (o : Option ℕ) (i : ℕ). option_map_or (λ (parent : ℕ). parent == i) o false) same all.0.0) (parent-alike p q same ps qs all.1)

younger-alike : (ps qs : List Popped) → EachAlike ps qs → AreYounger ps → AreYounger qs
younger-alike [] [] all young = tt
younger-alike [] (q ∷ qs) all young = absurd all
younger-alike (p ∷ ps) [] all young = absurd all
younger-alike (p ∷ ps) (q ∷ qs) all young = (sym (parent-alike p q all.0.1 (p ∷ ps) (q ∷ qs) all) ∙ young.0, younger-alike ps qs all.1 young.1)

id-alike : (xdg : ℕ) (ps qs : List Popped) → EachAlike ps qs → list_any (is_of_xdg xdg) ps ≡ list_any (is_of_xdg xdg) qs
id-alike xdg [] [] all = refl
id-alike xdg [] (q ∷ qs) all = absurd all
id-alike xdg (p ∷ ps) [] all = absurd all
id-alike xdg (p ∷ ps) (q ∷ qs) all = ap₂ (λ a b. a || b) (ap (λ (i : ℕ). i == xdg) all.0.0) (id-alike xdg ps qs all.1)

released-gone : (id : ℕ) (xs : Shell) → AreReleased xs → AreReleased (with_dismissed id xs)
released-gone id [] released = tt
released-gone id (x ∷ xs) released = (at (x.id == id), released-gone id xs released.1)
  where
    kind : (k : Kind) → IfSome (kind_popup (with_popup dismiss k)) (λ popup. popup.is_dismissed ≡ true → popup.has_grab ≡ false)
    kind Toplevel = tt
    kind (IsPopup popup) = λ e. refl

    role : (o : Option RoleObject) → IfSome (popup_in (option_map (with_popup_role dismiss) o)) (λ popup. popup.is_dismissed ≡ true → popup.has_grab ≡ false)
    role None = tt
    role (Some object) = kind object.kind

    at : (b : Bool) → IfSome (popup_in (cond b (popup_changed dismiss x) x).role) (λ popup. popup.is_dismissed ≡ true → popup.has_grab ≡ false)
    at true = role x.role
    at false = released.0

as-many : (id : ℕ) (xs : Shell) → length (with_dismissed id xs) ≡ length xs
as-many id [] = refl
as-many id (x ∷ xs) = ap suc (as-many id xs)

pub order-stays : (id : ℕ) (shell : Shell) → HasOrder shell → HasOrder (with_dismissed id shell)
order-stays id shell order =
    let all = alike-popups id shell in
    record {
      rising = rising-alike (popups_of shell) (popups_of (with_dismissed id shell)) all order.rising;
      younger = younger-alike (popups_of shell) (popups_of (with_dismissed id shell)) all order.younger;
      released = released-gone id shell order.released;
      few = subst (λ (n : ℕ). n ≤ 256) (sym (as-many id shell)) order.few;
    }

-- ---- there are no more popups than xdg_surfaces

length-by-number : (p : Popped) (ps : List Popped) → length (by_number p ps) ≡ suc (length ps)
length-by-number p [] = refl
length-by-number p (q ∷ qs) = at (nat_lt p.popup.number q.popup.number) (length-by-number p qs)
  where
    at : (b : Bool) → length (by_number p qs) ≡ suc (length qs) → length (if b then p ∷ q ∷ qs else q ∷ by_number p qs) ≡ suc (suc (length qs))
    at true e = refl
    at false e = ap suc e

length-ordered : (acc ps : List Popped) → length (fold (λ rs p. by_number p rs) acc ps) ≡ length acc + length ps
length-ordered acc [] = omega arith
length-ordered acc (p ∷ ps) = let rest = length-ordered (by_number p acc) ps in let one = length-by-number p acc in omega (arith, rest, one)

length-role : (x : XdgSurface) (o : Option RoleObject) → length (popped_role x o) ≤ 1
length-role x None = omega arith
length-role x (Some object) = kind object.kind
  where
    kind : (k : Kind) → length (popped_kind x object k) ≤ 1
    kind Toplevel = omega arith
    kind (IsPopup popup) = omega arith

length-flat : (xs : Shell) → length (flat_map popped_of xs) ≤ length xs
length-flat [] = omega arith
length-flat (x ∷ xs) =
    let one = length-role x x.role in let rest = length-flat xs in let both = length-append (popped_of x) (flat_map popped_of xs) in omega (arith, one, rest, both)

length-popups : (shell : Shell) → length (popups_of shell) ≡ length (flat_map popped_of shell)
length-popups shell = let all = length-ordered [] (flat_map popped_of shell) in omega (arith, all)

pub few-popups : (shell : Shell) → HasOrder shell → length (popups_of shell) ≤ 256
few-popups shell order = let all = length-popups shell in let flat = length-flat shell in let few = order.few in omega (arith, all, flat, few)

any-second : (T : Popped → Bool) (ps qs : List Popped) → list_any T (ps ++ qs) ≡ false → list_any T qs ≡ false
any-second T [] qs none = none
any-second T (p ∷ ps) qs none = at (T p) none (any-second T ps qs)
  where
    at : (b : Bool) → (b || list_any T (ps ++ qs)) ≡ false → (list_any T (ps ++ qs) ≡ false → list_any T qs ≡ false) → list_any T qs ≡ false
    at true e later = absurd (cc)
    at false e later = later e

-- one of them has none
one-less : (surface : ℕ) (x : XdgSurface) (xs : Shell) → xdg_of surface xs ≡ Some x → list_any (is_of_xdg x.id) (flat_map popped_of xs) ≡ false
    → suc (length (flat_map popped_of xs)) ≤ length xs
one-less surface x [] found none = absurd (cc)
one-less surface x (y ∷ ys) found none =
    at (y.surface == surface) found (λ found. one-less surface x ys found (any-second (is_of_xdg x.id) (popped_of y) (flat_map popped_of ys) none))
  where
    nothing : (z : XdgSurface) (o : Option RoleObject) (qs : List Popped) → list_any (is_of_xdg z.id) (popped_role z o ++ qs) ≡ false → popped_role z o ≡ []
    nothing z None qs e = refl
    nothing z (Some object) qs e = kind object.kind e
      where
        kind : (k : Kind) → list_any (is_of_xdg z.id) (popped_kind z object k ++ qs) ≡ false → popped_kind z object k ≡ []
        kind Toplevel e = refl
        kind (IsPopup popup) e =
            absurd (let clash : true ≡ false = sym (or-first (z.id == z.id) (list_any (is_of_xdg z.id) qs) (same-id z.id)) ∙ e in cc)

    at : (b : Bool) → (if b then Some y else xdg_of surface ys) ≡ Some x → (xdg_of surface ys ≡ Some x → suc (length (flat_map popped_of ys)) ≤ length ys)
        → suc (length (flat_map popped_of (y ∷ ys))) ≤ length (y ∷ ys)
    at true found later =
        let same : y ≡ x = cc in
        let empty : popped_of y ≡ [] = nothing y y.role (flat_map popped_of ys) (ap (λ (z : XdgSurface). list_any (is_of_xdg z.id) (popped_of y ++ flat_map popped_of ys)) same ∙ none) in
        let rest = length-flat ys in
        let both : length (popped_of y ++ flat_map popped_of ys) ≡ length (flat_map popped_of ys) = ap (λ (ps : List Popped). length (ps ++ flat_map popped_of ys)) empty in
        omega (arith, rest, both)
    at false found later =
        let one = length-role y y.role in
        let rest = later found in
        let both = length-append (popped_of y) (flat_map popped_of ys) in
        omega (arith, one, rest, both)

-- ---- all were dismissed

dismissed-so : (a b : Bool) → a ≡ true → (a && not b) ≡ false → b ≡ true
dismissed-so true true e f = refl
dismissed-so true false e f = absurd (cc)
dismissed-so false b e f = absurd (cc)

neither : (a b : Bool) → (a || b) ≡ false → (a ≡ false) × (b ≡ false)
neither true b e = absurd (cc)
neither false b e = (refl, e)

module _ (are : ℕ → Bool) where
  abbrev goes : Popped → Bool
  goes p = are p.xdg.id && not p.popup.is_dismissed

  abbrev IsDoneIn : ℕ → Option RoleObject → Type 0
  IsDoneIn id o = are id ≡ true → IfSome (popup_in o) (λ popup. (popup.is_dismissed ≡ true) × (popup.has_grab ≡ false))

  pub done-role : (x : XdgSurface) (o : Option RoleObject) (qs : List Popped) → list_any goes (popped_role x o ++ qs) ≡ false
      → IfSome (popup_in o) (λ popup. popup.is_dismissed ≡ true → popup.has_grab ≡ false) → IsDoneIn x.id o × (list_any goes qs ≡ false)
  done-role x None qs none released = ((λ among. tt), none)
  done-role x (Some object) qs none released = kind object.kind none released
    where
      kind : (k : Kind) → list_any goes (popped_kind x object k ++ qs) ≡ false → IfSome (kind_popup k) (λ popup. popup.is_dismissed ≡ true → popup.has_grab ≡ false)
          → (are x.id ≡ true → IfSome (kind_popup k) (λ popup. (popup.is_dismissed ≡ true) × (popup.has_grab ≡ false))) × (list_any goes qs ≡ false)
      kind Toplevel none released = ((λ among. tt), none)
      kind (IsPopup popup) none released =
          let both = neither (are x.id && not popup.is_dismissed) (list_any goes qs) none in (
            λ among. let dismissed = dismissed-so (are x.id) popup.is_dismissed among both.0 in (dismissed, released dismissed),
            both.1,
          )

done-each : (gone : List ℕ) (xs : Shell) → list_any (λ p. is_among p.xdg.id gone && not p.popup.is_dismissed) (flat_map popped_of xs) ≡ false → AreReleased xs → AreDone gone xs
done-each gone [] none released = tt
done-each gone (x ∷ xs) none released =
    let one = done-role (λ id. is_among id gone) x x.role (flat_map popped_of xs) none released.0 in (one.0, done-each gone xs one.1 released.1)

-- ---- the next one

and-turned : (a b : Bool) → (a && b) ≡ (b && a)
and-turned true true = refl
and-turned true false = refl
and-turned false true = refl
and-turned false false = refl

pub and-left : (a b : Bool) → (a && b) ≡ true → a ≡ true
and-left true b e = refl
and-left false b e = absurd (cc)

-- one popup of an id
pub only-one : (kept : ℕ → Option Kept) (histories : ℕ → Option History) (shell : Shell) → IsShell kept histories shell → (p : Popped) (other : ℕ) → IsOnly shell other p
    → (q : Popped) → IsIts shell q → (q.xdg.id == p.xdg.id) ≡ true → q ≡ p
only-one kept histories shell agrees p other only q its same =
    let at-q = found-at q.xdg.surface shell q.xdg agrees.apart its.found in
    let at-p = found-at other shell p.xdg agrees.apart only.found in
    let one : Some q.xdg ≡ Some p.xdg = sym at-q ∙ ap (λ (i : ℕ). xdg_at i shell) (eqb-true q.xdg.id p.xdg.id same) ∙ at-p in
    let xdg : q.xdg ≡ p.xdg = cc in
    let list : q ∷ [] ≡ p ∷ [] = sym its.its ∙ ap popped_of xdg ∙ only.its in
    cc

module _ (is : Popped → Bool) (shell : Shell) where
  abbrev pub is_left : Popped → Bool
  is_left p = is_among p.xdg.id (dismissed_with is shell) && not p.popup.is_dismissed

  -- the newest of those that are left
  abbrev pub IsNewestLeft : Popped → Type 0
  IsNewestLeft p = Each (λ q. is_left q ≡ true → q.popup.number ≤ p.popup.number) (popups_of shell)

  -- With it dismissed the same others are left, and to dismiss them all comes to the same.
  pub record LeavesOthers (p : Popped) : Type 0 where
    pub left : filter is_left (newest_first (popups_of (with_dismissed p.xdg.id shell))) ≡ undismissed is (with_dismissed p.xdg.id shell)
    pub rest : dismissing is (with_dismissed p.xdg.id shell) ≡ dismissing is shell

  module _ (book : Book) (histories : ℕ → Option History) (agrees : IsShell (kept_of book) histories shell) (order : HasOrder shell) (reach : ℕ → Bool)
      (reached : (id : ℕ) → has_popup_at id shell ≡ true → reach id ≡ is_among id (dismissed_with is shell))
      (leaves : (other : ℕ) (p : Popped) → IsOnly shell other p → is_left p ≡ true → IsNewestLeft p → LeavesOthers p) where
    abbrev passing : Kept → Bool
    passing k = has_popup (λ popup. not popup.is_dismissed) k && reach k.id

    agreed-here : (other : ℕ) (k : Kept) (p : Popped) → kept_of book other ≡ Some k → IsOnly shell other p → passing k ≡ is_left p
    agreed-here other k p here only =
        ap₂ (λ a b. a && b) (agreed (kept_of book) histories shell agrees (λ popup. not popup.is_dismissed) other k p here only)
        (ap reach (id-kept (kept_of book) histories shell agrees other k p here only)
        ∙ reached p.xdg.id (among-any p (popups_of shell) (among-popups shell other p only)))
        ∙ and-turned (not p.popup.is_dismissed) (is_among p.xdg.id (dismissed_with is shell))

    no-popup-here : (k : Kept) → popup_in k.role ≡ None → passing k ≡ false
    no-popup-here k none = ap (λ (o : Option Popup). option_map_or (λ popup. not popup.is_dismissed) o false && reach k.id) none

    pub next-by : (result : Option ℕ) → IsNewest passing (kept_of book) result → GoesNext is shell result
    next-by None none =
        let nothing = none-found (kept_of book) histories shell agrees passing is_left agreed-here no-popup-here (λ other this. other ≤ this) none in (
          none-of is_left (newest_first (popups_of shell)) (each-newest (λ p. is_left p ≡ false) [] (popups_of shell) tt nothing),
          dismissals_end.all is shell
              (done-each (dismissed_with is shell) shell (sym (any-in-order is_left shell) ∙ any-none is_left (popups_of shell) nothing) order.released),
        )
    next-by (Some other) newest =
        let p = some-found (kept_of book) histories shell agrees passing is_left agreed-here no-popup-here (λ other this. other ≤ this) other newest in
        (p.0, by p.0 p.1.only p.1.passed p.1.best)
      where
        by : (p : Popped) → IsOnly shell other p → is_left p ≡ true → IsNewestLeft p → IsNextToGo is shell other p
        by p only passes best =
            let id = p.xdg.id in
            let all = alike-popups id shell in
            let others = leaves other p only passes best in
            record {
              only = only;
              order = others-left Falls (λ other this. other ≤ this) fall-clash below-none is_left (gone_popped id) id (gone-tested id (dismissed_with is shell)) (gone-kept id) p
                  (newest_first (popups_of shell)) (same-id id) (falling (popups_of shell) order.rising)
                  (among-newest p [] (popups_of shell) (among-popups shell other p only)) passes
                  (each-newest (λ q. is_left q ≡ true → q.popup.number ≤ p.popup.number) [] (popups_of shell) tt best)
                  (each-newest (λ q. (q.xdg.id == id) ≡ true → q ≡ p) [] (popups_of shell) tt
                  (each-map (IsIts shell) (λ q. (q.xdg.id == id) ≡ true → q ≡ p) (only-one (kept_of book) histories shell agrees p other only) (popups_of shell) (all-its shell agrees.apart)))
                  ∙ ap (λ (qs : List Popped). p ∷ filter is_left qs) (sym (newest-first-gone id shell))
                  ∙ ap (λ (qs : List Popped). p ∷ qs) others.left;
              rest = others.rest;
              has_order = order-stays id shell order;
              popups = λ xdg. sym (id-alike xdg (popups_of shell) (popups_of (with_dismissed id shell)) all);
            }

-- ---- with a popup or a toplevel

family-of : (is_popup : Bool) (xdg : ℕ) → GoesByFamily (goes_with is_popup xdg)
family-of true xdg p q id parent = ap (λ (i : ℕ). i == xdg) id
family-of false xdg p q id parent = ap (λ (o : Option ℕ). option_map_or (λ (i : ℕ). i == xdg) o false) parent

module _ (x : XdgSurface) (surface : ℕ) (book : Book) (histories : ℕ → Option History) (shell : Shell) (each : AreFound book) (agrees : IsShell (kept_of book) histories shell)
    (order : HasOrder shell) (found : xdg_of surface shell ≡ Some x) where
  abbrev is : Popped → Bool
  is = goes_with (has_popup_at x.id shell) x.id

  reached : (id : ℕ) → has_popup_at id shell ≡ true → reaches 256 book x.id id ≡ is_among id (dismissed_with is shell)
  reached id there = at (has_popup_at x.id shell) refl
    where
      less : has_popup_at x.id shell ≡ false → length (popups_of shell) ≤ 255
      less none =
          let all = length-popups shell in
          let flat = one-less surface x shell found (sym (any-in-order (is_of_xdg x.id) shell) ∙ none) in
          let few = order.few in
          omega (arith, all, flat, few)

      at : (b : Bool) → has_popup_at x.id shell ≡ b → reaches 256 book x.id id ≡ is_among id (dismissed_with (goes_with b x.id) shell)
      at true e = descents_found.popup x.id id book histories shell each agrees order.younger (few-popups shell order) e there
      at false e = descents_found.toplevel x.id id book histories shell each agrees order.younger (less e) e there

  leaves : (other : ℕ) (p : Popped) → IsOnly shell other p → is_left is shell p ≡ true → IsNewestLeft is shell p → LeavesOthers is shell p
  leaves other p only passes best =
      let id = p.xdg.id in
      let family = family-of (has_popup_at x.id shell) x.id in
      let same : dismissed_with is shell ≡ dismissed_with is (with_dismissed id shell) =
      same-after is family (popups_of shell) (popups_of (with_dismissed id shell)) [] (alike-popups id shell) in
      record {
        left = ap (λ (gone : List ℕ). filter (λ q. is_among q.xdg.id gone && not q.popup.is_dismissed) (newest_first (popups_of (with_dismissed id shell)))) same;
        rest = dismissals_end.one is id shell family (and-left (is_among id (dismissed_with is shell)) (not p.popup.is_dismissed) passes);
      }

  next-of : (result : Option ℕ) → IsNewest (dismissible book x.id) (kept_of book) result → GoesNext is shell result
  next-of result newest = next-by is shell book histories agrees order (reaches 256 book x.id) reached leaves result newest

pub next_found : NextFound
next_found surface x result book histories shell each agrees order found newest =
    let t = kept-for (kept_of book) histories shell agrees surface x found in
    next-of x surface book histories shell each agrees order found result
    (subst (λ (i : ℕ). IsNewest (dismissible book i) (kept_of book) result) t.3.stands.id
    (subst (λ (o : Option Kept). IsNewest (dismissible_under book o) (kept_of book) result) t.2 newest))

pub next_stands : NextStands
next_stands surface x kept histories shell agrees found =
    let t = kept-for kept histories shell agrees surface x found in
    changed-still surface (kept_changed dismiss) (popup_changed dismiss) t.0 x t.1 kept histories shell (λ y. refl) (λ y. refl) agrees t.2 t.3
    (changes_stand.changed dismiss t.0 x t.1 t.3.stands)
