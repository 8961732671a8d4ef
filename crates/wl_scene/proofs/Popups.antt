-- The popups of a client one after another, by what is kept.
use Rattle.std.proofs.Common.{◌≡◌, ◌≤◌, ◌<◌, ℕ, List, [], ◌∷◌, ◌++◌, Bool, true, false, Option, Some, None, inl, inr, refl, ap, ap₂, subst, sym, ◌∙◌, arith}
use Rattle.std.specs.Prelude.{◌⊎◌, IfSome, IsSomeAnd, cond, filter, nat_le, not}
use Rattle.std.specs.Option.{option_map_or}
use Rattle.std.proofs.lemmas.Bool.Decides.{nat_tests}
use Rattle.wl_scene.specs.Roots.{is_done, is_past}
use Rattle.wl_shell.specs.Agreement.{IsShell}
use Rattle.wl_shell.specs.InOrder.{AreRising, IsOnly}
use Rattle.wl_shell.specs.PopupsKept.{IsOldest, has_popup, number_of}
use Rattle.wl_shell.proofs.Ordered.{Each, IsAmong, IsIts, IsKeptAs, above, all-its, each-map, kept-as, kept-by, popped-as, rises}
use Rattle.wl_shell.proofs.ShellsStanding.{there}
use Rattle.wl_surface.specs.State.{History}
use Rattle.wl_shell.specs.Kept.{Kept}
use Rattle.wl_shell.specs.Popups.{Popped, popped_of, popup_in, popups_of}
use Rattle.wl_shell.specs.Shell.{Popup, Shell, XdgSurface}

-- ---- numbers

pub past-done : (last : Option ℕ) (p : Popped) → is_past last p.popup.number ≡ not (is_done last p)
past-done None p = refl
past-done (Some n) p = grind (arith, nat_tests)

not-up-to : (a n : ℕ) → n < a → nat_le a n ≡ false
not-up-to a n less = grind (arith, nat_tests)

-- where one isn't done none after it is
none-up-to : (n : ℕ) (p : Popped) (ps : List Popped) → n < p.popup.number → AreRising (p ∷ ps) → filter (is_done (Some n)) (p ∷ ps) ≡ []
none-up-to n p [] less rising = ap (λ b. cond b (p ∷ []) []) (not-up-to p.popup.number n less)
none-up-to n p (r ∷ rs) less rising =
    let next = rises p r rs rising in
    ap (λ b. cond b (p ∷ filter (is_done (Some n)) (r ∷ rs)) (filter (is_done (Some n)) (r ∷ rs))) (not-up-to p.popup.number n less)
    ∙ none-up-to n r rs (omega (arith, less, next)) rising.1

none-among : (ps : List Popped) → filter (is_done None) ps ≡ []
none-among [] = refl
none-among (p ∷ ps) = none-among ps

not-done : (n a : ℕ) → nat_le a n ≡ false → n < a
not-done n a e = grind (arith, nat_tests)

none-done : (last : Option ℕ) (p : Popped) (ps : List Popped) → is_done last p ≡ false → AreRising (p ∷ ps) → filter (is_done last) (p ∷ ps) ≡ []
none-done None p ps e rising = none-among (p ∷ ps)
none-done (Some n) p ps e rising = none-up-to n p ps (not-done n p.popup.number e) rising

-- none after it is done with it
none-after : (p : Popped) (ps : List Popped) → AreRising (p ∷ ps) → filter (is_done (Some p.popup.number)) ps ≡ []
none-after p [] rising = refl
none-after p (r ∷ rs) rising = none-up-to p.popup.number r rs (rises p r rs rising) rising.1

-- the one that is done next
abbrev pub IsLeast : Option ℕ → Popped → Popped → Type 0
IsLeast last q p = is_past last p.popup.number ≡ true → q.popup.number ≤ p.popup.number

done-before : (last : Option ℕ) (p q : Popped) → is_done last p ≡ true → is_past last q.popup.number ≡ true → is_done (Some q.popup.number) p ≡ true
done-before None p q e past = absurd (cc)
done-before (Some n) p q e past = grind (arith, nat_tests)

never : (b : Bool) → b ≡ true → not b ≡ true → ⊥
never true e f = absurd (cc)
never false e f = absurd (cc)

pub done-next : (last : Option ℕ) (q : Popped) (ps : List Popped) → AreRising ps → IsAmong q ps → is_past last q.popup.number ≡ true → Each (IsLeast last q) ps
    → filter (is_done (Some q.popup.number)) ps ≡ filter (is_done last) ps ++ q ∷ []
done-next last q [] rising among past least = absurd among
done-next last q (p ∷ ps) rising among past least = at (is_done last p) refl among (λ after. done-next last q ps rising.1 after past least.1)
  where
    at : (b : Bool) → is_done last p ≡ b → (p ≡ q) ⊎ IsAmong q ps → (IsAmong q ps → filter (is_done (Some q.popup.number)) ps ≡ filter (is_done last) ps ++ q ∷ [])
        → cond (is_done (Some q.popup.number) p) (p ∷ filter (is_done (Some q.popup.number)) ps) (filter (is_done (Some q.popup.number)) ps)
        ≡ cond b (p ∷ filter (is_done last) ps) (filter (is_done last) ps) ++ q ∷ []
    at true e (inl same) later =
        absurd (never (is_done last p) e (sym (past-done last p) ∙ ap (λ (r : Popped). is_past last r.popup.number) same ∙ past))
    at true e (inr after) later =
        ap (λ b. cond b (p ∷ filter (is_done (Some q.popup.number)) ps) (filter (is_done (Some q.popup.number)) ps)) (done-before last p q e past)
        ∙ ap (λ rs. p ∷ rs) (later after)
    at false e (inl same) later =
        let none : filter (is_done last) ps ≡ [] =
        ap (λ b. cond b (p ∷ filter (is_done last) ps) (filter (is_done last) ps)) (sym e) ∙ none-done last p ps e rising in
        let itself : is_done (Some q.popup.number) p ≡ true = ap (λ (r : Popped). nat_le r.popup.number q.popup.number) same ∙ up-to q.popup.number in
        ap (λ b. cond b (p ∷ filter (is_done (Some q.popup.number)) ps) (filter (is_done (Some q.popup.number)) ps)) itself
        ∙ ap₂ (λ r rs. r ∷ rs) same (ap (λ (r : Popped). filter (is_done (Some r.popup.number)) ps) (sym same) ∙ none-after p ps rising)
        ∙ ap (λ rs. rs ++ q ∷ []) (sym none)
      where
        up-to : (n : ℕ) → nat_le n n ≡ true
        up-to n = grind (arith, nat_tests)
    at false e (inr after) later =
        let higher = above p q ps rising after in
        let lower = least.0 (past-done last p ∙ ap not e) in
        absurd (omega (arith, higher, lower))

-- where none is past all are done
pub done-all : (last : Option ℕ) (ps : List Popped) → Each (λ p. is_past last p.popup.number ≡ false) ps → filter (is_done last) ps ≡ ps
done-all last [] e = refl
done-all last (p ∷ ps) e =
    ap (λ b. cond b (p ∷ filter (is_done last) ps) (filter (is_done last) ps)) (double (is_done last p) (sym (past-done last p) ∙ e.0))
    ∙ ap (λ rs. p ∷ rs) (done-all last ps e.1)
  where
    double : (b : Bool) → not b ≡ false → b ≡ true
    double true f = refl
    double false f = absurd (cc)

-- those that are done, and then the others
pub done-first : (last : Option ℕ) (ps : List Popped) → AreRising ps → (rest : List Popped) × (ps ≡ filter (is_done last) ps ++ rest)
done-first last [] rising = ([], refl)
done-first last (p ∷ ps) rising = at (is_done last p) refl (done-first last ps rising.1)
  where
    at : (b : Bool) → is_done last p ≡ b → (rest : List Popped) × (ps ≡ filter (is_done last) ps ++ rest)
        → (rest : List Popped) × (p ∷ ps ≡ cond b (p ∷ filter (is_done last) ps) (filter (is_done last) ps) ++ rest)
    at true e t = (t.0, ap (λ rs. p ∷ rs) t.1)
    at false e t =
        let none : filter (is_done last) ps ≡ [] =
        ap (λ b. cond b (p ∷ filter (is_done last) ps) (filter (is_done last) ps)) (sym e) ∙ none-done last p ps e rising in
        (p ∷ ps, ap (λ rs. rs ++ p ∷ ps) (sym none))

-- ---- by what is kept

-- The popup of this surface is the next one: its number is past the last one, and none has a lower one that is.
pub record IsNext (kept : ℕ → Option Kept) (shell : Shell) (last : Option ℕ) (surface : ℕ) (p : Popped) : Type 0 where
  pub only : IsOnly shell surface p
  pub number : option_map_or number_of (kept surface) 0 ≡ p.popup.number
  pub past : is_past last p.popup.number ≡ true
  pub least : Each (IsLeast last p) (popups_of shell)

abbrev past_popup : Option ℕ → Popup → Bool
past_popup last = λ popup. is_past last popup.number

-- none that is past the last one has a lower number
abbrev IsLowest : (ℕ → Option Kept) → Option ℕ → Kept → Type 0
IsLowest kept last k = (other : ℕ) → IfSome (kept other) (λ o. has_popup (past_popup last) o ≡ true → number_of k ≤ number_of o)

not-more : (a b c d : ℕ) → a ≤ b → a ≡ c → b ≡ d → c ≤ d
not-more a b c d le first second = omega (arith, le, first, second)

-- its number is past the last one
pub past-number : (kept : ℕ → Option Kept) (last : Option ℕ) (surface : ℕ) → IsOldest (has_popup (past_popup last)) kept (Some surface)
    → is_past last (option_map_or number_of (kept surface) 0) ≡ true
past-number kept last surface oldest = at (kept surface) oldest
  where
    by : (o : Option Popup) → option_map_or (past_popup last) o false ≡ true → is_past last (option_map_or (λ (p : Popup). p.number) o 0) ≡ true
    by None e = absurd (cc)
    by (Some p) e = e

    at : (o : Option Kept) → IsSomeAnd o (λ k. (has_popup (past_popup last) k ≡ true) × IsLowest kept last k) → is_past last (option_map_or number_of o 0) ≡ true
    at None e = absurd e
    at (Some k) e = by (popup_in k.role) e.0

module _ (kept : ℕ → Option Kept) (histories : ℕ → Option History) (shell : Shell) (is : IsShell kept histories shell) where
  -- there is no next one
  pub none-past : (last : Option ℕ) → IsOldest (has_popup (past_popup last)) kept None → Each (λ p. is_past last p.popup.number ≡ false) (popups_of shell)
  none-past last none =
      each-map (IsIts shell) (λ p. is_past last p.popup.number ≡ false) (λ p its. at p (kept-as kept histories shell is (past_popup last) p.xdg.surface p its)) (popups_of shell) (all-its shell is.apart)
    where
      at : (p : Popped) → (k : Kept) × IsKeptAs kept (past_popup last) p.xdg.surface p k → is_past last p.popup.number ≡ false
      at p t = sym t.1.tested ∙ subst (λ (o : Option Kept). IfSome o (λ k. has_popup (past_popup last) k ≡ false)) t.1.here (none p.xdg.surface)

  -- or this is it
  pub some-next : (last : Option ℕ) (surface : ℕ) → IsOldest (has_popup (past_popup last)) kept (Some surface) → (p : Popped) × IsNext kept shell last surface p
  some-next last surface oldest = at (kept surface) refl oldest
    where
      lowest : (k : Kept) (p : Popped) → number_of k ≡ p.popup.number → IsLowest kept last k → Each (IsLeast last p) (popups_of shell)
      lowest k p same low = each-map (IsIts shell) (IsLeast last p) (λ q its. by q (kept-as kept histories shell is (past_popup last) q.xdg.surface q its)) (popups_of shell) (all-its shell is.apart)
        where
          by : (q : Popped) → (l : Kept) × IsKeptAs kept (past_popup last) q.xdg.surface q l → IsLeast last p q
          by q t = λ past.
              let le : number_of k ≤ number_of t.0 =
              subst (λ (o : Option Kept). IfSome o (λ o. has_popup (past_popup last) o ≡ true → number_of k ≤ number_of o)) t.1.here (low q.xdg.surface) (t.1.tested ∙ past) in
              not-more (number_of k) (number_of t.0) p.popup.number q.popup.number le same t.1.number

      found : (k : Kept) → kept surface ≡ Some k → has_popup (past_popup last) k ≡ true → IsLowest kept last k → (o : Option Popup) → popup_in k.role ≡ o
          → option_map_or (past_popup last) o false ≡ true → (p : Popped) × IsNext kept shell last surface p
      found k e passes low None f has = absurd (cc)
      found k e passes low (Some popup) f has =
          let t = there kept histories shell is surface k e in
          let popped = popped-as t.0 popup (ap popup_in (sym t.2.stands.role) ∙ f) in
          let by = kept-by kept (past_popup last) surface popped.0 k e (f ∙ ap (λ (q : Popup). Some q) (sym popped.1.its_popup)) in (
            popped.0,
            record {
              only = record { found = t.2.found ∙ ap (λ (x : XdgSurface). Some x) (sym popped.1.xdg); its = ap popped_of popped.1.xdg ∙ popped.1.its };
              number = ap (λ (o : Option Kept). option_map_or number_of o 0) e ∙ by.number;
              past = sym by.tested ∙ passes;
              least = lowest k popped.0 by.number low;
            },
          )

      at : (o : Option Kept) → kept surface ≡ o → IsSomeAnd o (λ k. (has_popup (past_popup last) k ≡ true) × IsLowest kept last k) → (p : Popped) × IsNext kept shell last surface p
      at None e s = absurd s
      at (Some k) e s = found k e s.0 s.1 (popup_in k.role) refl s.0
