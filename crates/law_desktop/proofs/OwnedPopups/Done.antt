-- Which popups a client is told are done, and in which order: those that go and weren't dismissed, the newest first.
use Rattle.std.proofs.Common.{◌≡◌, ℕ, List, [], ◌∷◌, ◌++◌, Bool, true, false, Option, Some, None, cond, inl, inr, map, refl, ap, ap₂, subst, sym, ◌∙◌, eq-eqb}
use Rattle.std.proofs.lemmas.Bool.{or_parts}
use Rattle.std.specs.Prelude.{◌==◌, ◌&&◌, ◌||◌, filter, flat_map, fold, if◌then◌else◌, nat_lt, not}
use Rattle.std.specs.List.{list_any}
use Rattle.std.specs.Option.{option_map}
use Rattle.wl_proto.specs.declared.interface.Interface.TheVariants.{XdgPopup}
use Rattle.wl_proto.specs.Messages.{says}
use Rattle.spec_desktop.specs.Told.{Said, said}
use Rattle.wl_links.specs.Family.{Tied}
use Rattle.wl_surface.specs.Slots.{Slots}
use Rattle.wl_shell.specs.Descent.{is_of_xdg}
use Rattle.wl_shell.specs.InOrder.{goes_with, newest_first}
use Rattle.wl_shell.proofs.Ordered.{Each, IsAmong, IsIts, all-its, among-popups, each-map, role-of}
use Rattle.wl_shell.proofs.Reading.{any-in-order}
use Rattle.wl_shell.specs.Kept.{Kept}
use Rattle.wl_shell.specs.Popups.{Popped, by_number, dismiss, dismissed_among, dismissed_with, is_among, is_parent_of, orphan, popped_kind, popped_of, popped_role, popup_changed}
use Rattle.wl_shell.specs.Popups.{popups_of, with_grab, with_popup, with_popup_role}
use Rattle.wl_shell.specs.Shell.{IsPopup, Kind, Popup, RoleObject, Shell, Toplevel, XdgSurface, is_role, without_role, xdg_with}
use Rattle.spec_desktop.specs.Changing.{grab_allowed, grabbed, toplevel_ended}
use Rattle.spec_desktop.specs.Desktop.{Resident}
use Rattle.spec_desktop.specs.Replies.{dismissed_in, popups_done}
use Rattle.law_desktop.proofs.Lists.Keys.{found-by}
use Rattle.law_desktop.specs.Owning.{IsOwned, Names}
use Rattle.law_desktop.specs.OwnedPopups.{EndTellsDone, GrabTellsDone, done_told, grab_done}
use Rattle.law_desktop.proofs.Keeping.OwningXdg.{has_role}
use Rattle.law_desktop.proofs.Truth.{and-false, or-false, or-true}
use Rattle.law_desktop.proofs.KeptRecords.Keeping.OwningXdg.{has_surface}

-- ---- tests

abbrev id_if : Popped → List ℕ
id_if p = if p.popup.is_dismissed then p.object.id ∷ [] else []

-- ---- popups that change, of which those that go are dismissed

module _ (goes : Popped → Bool) where
  abbrev IsAfter : Popped → Popped → Type 0
  IsAfter p q = (q.object.id ≡ p.object.id) × (q.popup.is_dismissed ≡ (p.popup.is_dismissed || goes p)) × (p.popup.number ≡ q.popup.number)

  abbrev AreAfter : List Popped → List Popped → Type 0
  AreAfter [] [] = Unit {0}
  AreAfter [] (q ∷ qs) = ⊥
  AreAfter (p ∷ ps) [] = ⊥
  AreAfter (p ∷ ps) (q ∷ qs) = IsAfter p q × AreAfter ps qs

  after-among : (p q : Popped) (ps qs : List Popped) → IsAfter p q → AreAfter ps qs → AreAfter (by_number p ps) (by_number q qs)
  after-among p q [] [] one all = (one, tt)
  after-among p q [] (r ∷ qs) one all = absurd all
  after-among p q (r ∷ ps) [] one all = absurd all
  after-among p q (r ∷ ps) (s ∷ qs) one all =
      at (nat_lt p.popup.number r.popup.number) (nat_lt q.popup.number s.popup.number)
      (ap (λ (n : ℕ). nat_lt n r.popup.number) one.2 ∙ ap (nat_lt q.popup.number) all.0.2) (after-among p q ps qs one all.1)
    where
      at : (b c : Bool) → b ≡ c → AreAfter (by_number p ps) (by_number q qs) → AreAfter (if b then p ∷ r ∷ ps else r ∷ by_number p ps) (if c then q ∷ s ∷ qs else s ∷ by_number q qs)
      at true true same later = (one, all)
      at true false same later = absurd (cc)
      at false true same later = absurd (cc)
      at false false same later = (all.0, later)

  after-ordered : (before was ps qs : List Popped) → AreAfter before was → AreAfter ps qs → AreAfter (fold (λ rs p. by_number p rs) before ps) (fold (λ rs p. by_number p rs) was qs)
  after-ordered before was [] [] first all = first
  after-ordered before was [] (q ∷ qs) first all = absurd all
  after-ordered before was (p ∷ ps) [] first all = absurd all
  after-ordered before was (p ∷ ps) (q ∷ qs) first all = after-ordered (by_number p before) (by_number q was) ps qs (after-among p q before was all.0 first) all.1

  after-newest : (before was ps qs : List Popped) → AreAfter before was → AreAfter ps qs
      → AreAfter (fold (λ (later : List Popped) p. p ∷ later) before ps) (fold (λ (later : List Popped) p. p ∷ later) was qs)
  after-newest before was [] [] first all = first
  after-newest before was [] (q ∷ qs) first all = absurd all
  after-newest before was (p ∷ ps) [] first all = absurd all
  after-newest before was (p ∷ ps) (q ∷ qs) first all = after-newest (p ∷ before) (q ∷ was) ps qs (all.0, first) all.1

  after-joined : (before was ps qs : List Popped) → AreAfter before was → AreAfter ps qs → AreAfter (before ++ ps) (was ++ qs)
  after-joined [] [] ps qs first all = all
  after-joined [] (b ∷ was) ps qs first all = absurd first
  after-joined (a ∷ before) [] ps qs first all = absurd first
  after-joined (a ∷ before) (b ∷ was) ps qs first all = (first.0, after-joined before was ps qs first.1 all)

  module _ (step : XdgSurface → XdgSurface) where
    abbrev IsStepped : XdgSurface → Type 0
    IsStepped x = AreAfter (popped_of x) (popped_of (step x))

    after-flat : (xs : Shell) → Each IsStepped xs → AreAfter (flat_map popped_of xs) (flat_map popped_of (map step xs))
    after-flat [] each = tt
    after-flat (x ∷ xs) each = after-joined (popped_of x) (popped_of (step x)) (flat_map popped_of xs) (flat_map popped_of (map step xs)) each.0 (after-flat xs each.1)

    after-popups : (shell : Shell) → Each IsStepped shell → AreAfter (newest_first (popups_of shell)) (newest_first (popups_of (map step shell)))
    after-popups shell each =
        after-newest [] [] (popups_of shell) (popups_of (map step shell)) tt
        (after-ordered [] [] (flat_map popped_of shell) (flat_map popped_of (map step shell)) tt (after-flat shell each))

  -- one xdg_surface, whose popup changes twice
  by-role : (x y : XdgSurface) (first second : Popup → Popup)
      → ((object : RoleObject) (popup : Popup)
      → IsAfter (record { xdg = x; object = object; popup = popup }) (record { xdg = y; object = with_popup_role second (with_popup_role first object); popup = second (first popup) }))
      → (o : Option RoleObject) → AreAfter (popped_role x o) (popped_role y (option_map (with_popup_role second) (option_map (with_popup_role first) o)))
  by-role x y first second is None = tt
  by-role x y first second is (Some object) = kind object.kind
    where
      kind : (k : Kind) → AreAfter (popped_kind x object k) (popped_kind y (with_popup_role second (with_popup_role first object)) (with_popup second (with_popup first k)))
      kind Toplevel = tt
      kind (IsPopup popup) = (is object popup, tt)

  -- or once
  by-role-once : (x y : XdgSurface) (change : Popup → Popup)
      → ((object : RoleObject) (popup : Popup) → IsAfter (record { xdg = x; object = object; popup = popup }) (record { xdg = y; object = with_popup_role change object; popup = change popup }))
      → (o : Option RoleObject) → AreAfter (popped_role x o) (popped_role y (option_map (with_popup_role change) o))
  by-role-once x y change is None = tt
  by-role-once x y change is (Some object) = kind object.kind
    where
      kind : (k : Kind) → AreAfter (popped_kind x object k) (popped_kind y (with_popup_role change object) (with_popup change k))
      kind Toplevel = tt
      kind (IsPopup popup) = (is object popup, tt)

  -- one whose popup doesn't go stays
  by-role-still : (x : XdgSurface) → ((object : RoleObject) (popup : Popup) → goes (record { xdg = x; object = object; popup = popup }) ≡ false) → (o : Option RoleObject)
      → AreAfter (popped_role x o) (popped_role x o)
  by-role-still x stays None = tt
  by-role-still x stays (Some object) = kind object.kind
    where
      kind : (k : Kind) → AreAfter (popped_kind x object k) (popped_kind x object k)
      kind Toplevel = tt
      kind (IsPopup popup) = ((refl, sym (ap (λ (b : Bool). popup.is_dismissed || b) (stays object popup) ∙ or-false popup.is_dismissed), refl), tt)

  -- ---- what is told of them

  abbrev Falls : Popped → Bool
  Falls p = goes p && not p.popup.is_dismissed

  told : (ids : List ℕ) (ps qs : List Popped) → AreAfter ps qs → Each (λ (p : Popped). is_among p.object.id ids ≡ p.popup.is_dismissed) ps
      → filter (λ id. not (is_among id ids)) (flat_map id_if qs) ≡ map (λ (p : Popped). p.object.id) (filter Falls ps)
  told ids [] [] all each = refl
  told ids [] (q ∷ qs) all each = absurd all
  told ids (p ∷ ps) [] all each = absurd all
  told ids (p ∷ ps) (q ∷ qs) all each =
      ap₂ (λ (b : Bool) (i : ℕ). filter T ((if b then i ∷ [] else []) ++ flat_map id_if qs)) all.0.1 all.0.0
      ∙ at p.popup.is_dismissed (goes p) (ap not each.0) (told ids ps qs all.1 each.1)
    where
      T : ℕ → Bool
      T id = not (is_among id ids)

      rest : List Popped
      rest = filter Falls ps

      at : (gone go : Bool) → T p.object.id ≡ not gone → filter T (flat_map id_if qs) ≡ map (λ (p : Popped). p.object.id) rest
          → filter T ((if gone || go then p.object.id ∷ [] else []) ++ flat_map id_if qs) ≡ map (λ (p : Popped). p.object.id) (cond (go && not gone) (p ∷ rest) rest)
      at true true e later = ap (λ b. cond b (p.object.id ∷ filter T (flat_map id_if qs)) (filter T (flat_map id_if qs))) e ∙ later
      at true false e later = ap (λ b. cond b (p.object.id ∷ filter T (flat_map id_if qs)) (filter T (flat_map id_if qs))) e ∙ later
      at false true e later =
          ap (λ b. cond b (p.object.id ∷ filter T (flat_map id_if qs)) (filter T (flat_map id_if qs))) e ∙ ap (λ (is : List ℕ). p.object.id ∷ is) later
      at false false e later = later

-- ---- ids of those that are dismissed

reversed : (acc ps : List Popped) → fold (λ (later : List ℕ) id. id ∷ later) (flat_map id_if acc) (flat_map id_if ps) ≡ flat_map id_if (fold (λ (later : List Popped) p. p ∷ later) acc ps)
reversed acc [] = refl
reversed acc (p ∷ ps) = at p.popup.is_dismissed ∙ reversed (p ∷ acc) ps
  where
    at : (b : Bool) → fold (λ (later : List ℕ) id. id ∷ later) (flat_map id_if acc) ((if b then p.object.id ∷ [] else []) ++ flat_map id_if ps)
        ≡ fold (λ (later : List ℕ) id. id ∷ later) ((if b then p.object.id ∷ [] else []) ++ flat_map id_if acc) (flat_map id_if ps)
    at true = refl
    at false = refl

among-dismissed : (id : ℕ) (ps : List Popped) → is_among id (flat_map id_if ps) ≡ list_any (λ (q : Popped). q.popup.is_dismissed && (q.object.id == id)) ps
among-dismissed id [] = refl
among-dismissed id (p ∷ ps) = at p.popup.is_dismissed (among-dismissed id ps)
  where
    at : (b : Bool) → is_among id (flat_map id_if ps) ≡ list_any (λ (q : Popped). q.popup.is_dismissed && (q.object.id == id)) ps
        → list_any (λ (other : ℕ). other == id) ((if b then p.object.id ∷ [] else []) ++ flat_map id_if ps)
        ≡ ((b && (p.object.id == id)) || list_any (λ (q : Popped). q.popup.is_dismissed && (q.object.id == id)) ps)
    at true later = ap (λ (b : Bool). (p.object.id == id) || b) later
    at false later = later

pub any-true : (test : Popped → Bool) (p : Popped) (ps : List Popped) → IsAmong p ps → test p ≡ true → list_any test ps ≡ true
any-true test p [] among passes = absurd among
any-true test p (q ∷ ps) (inl e) passes = ap (λ (b : Bool). b || list_any test ps) (ap test e ∙ passes)
any-true test p (q ∷ ps) (inr later) passes = ap (λ (b : Bool). test q || b) (any-true test p ps later passes) ∙ or-true (test q)

any-false : (test : Popped → Bool) (ps : List Popped) → Each (λ q. test q ≡ false) ps → list_any test ps ≡ false
any-false test [] each = refl
any-false test (q ∷ ps) each = ap₂ (λ (a b : Bool). a || b) each.0 (any-false test ps each.1)

-- the id of one is among those that are dismissed where it is dismissed itself
one-told : (p : Popped) (ps : List Popped) → IsAmong p ps → Each (λ q. (q.object.id == p.object.id) ≡ true → q ≡ p) ps
    → list_any (λ (q : Popped). q.popup.is_dismissed && (q.object.id == p.object.id)) ps ≡ p.popup.is_dismissed
one-told p ps among only = at p.popup.is_dismissed refl
  where
    at : (b : Bool) → p.popup.is_dismissed ≡ b → list_any (λ (q : Popped). q.popup.is_dismissed && (q.object.id == p.object.id)) ps ≡ b
    at true gone = any-true (λ (q : Popped). q.popup.is_dismissed && (q.object.id == p.object.id)) p ps among (ap₂ (λ (a b : Bool). a && b) gone (eq-eqb p.object.id p.object.id refl))
    at false stays =
        any-false (λ (q : Popped). q.popup.is_dismissed && (q.object.id == p.object.id)) ps
        (each-map (λ q. (q.object.id == p.object.id) ≡ true → q ≡ p) (λ q. (q.popup.is_dismissed && (q.object.id == p.object.id)) ≡ false)
        (λ q same. none q (q.object.id == p.object.id) same) ps only)
      where
        none : (q : Popped) (b : Bool) → (b ≡ true → q ≡ p) → (q.popup.is_dismissed && b) ≡ false
        none q true same = ap (λ (r : Popped). r.popup.is_dismissed && true) (same refl) ∙ ap (λ (b : Bool). b && true) stays
        none q false same = and-false q.popup.is_dismissed

each-newest : (P : Popped → Type 0) (acc ps : List Popped) → Each P acc → Each P ps → Each P (fold (λ (later : List Popped) p. p ∷ later) acc ps)
each-newest P acc [] first each = first
each-newest P acc (p ∷ ps) first each = each-newest P (p ∷ acc) ps (each.0, first) each.1

told-twice : (ps : List Popped) → map (λ (id : ℕ). said id (says XdgPopup 1 [])) (map (λ (p : Popped). p.object.id) ps) ≡ map done_told ps
told-twice [] = refl
told-twice (p ∷ ps) = ap (λ (es : List Said). done_told p ∷ es) (told-twice ps)

module _ (names : Names) (slots : Slots) (tied : Tied) (kept : ℕ → Option Kept) (r : Resident) (is : IsOwned names slots tied kept r.owned) where
  abbrev shell : Shell
  shell = r.owned.shell

  only-one : (p q : Popped) → IsIts shell p → IsIts shell q → (q.object.id == p.object.id) ≡ true → q ≡ p
  only-one p q its other same =
      let role : is_role p.object.id q.xdg.role ≡ true = ap (is_role p.object.id) (role-of q.xdg q other.its) ∙ same in
      let own : is_role p.object.id p.xdg.role ≡ true = ap (is_role p.object.id) (role-of p.xdg p its.its) ∙ eq-eqb p.object.id p.object.id refl in
      let first : xdg_with p.object.id shell ≡ Some q.xdg = found-by has_role (has_surface q.xdg.surface) p.object.id shell q.xdg is.roles other.found role in
      let second : xdg_with p.object.id shell ≡ Some p.xdg = found-by has_role (has_surface p.xdg.surface) p.object.id shell p.xdg is.roles its.found own in
      let both : Some q.xdg ≡ Some p.xdg = sym first ∙ second in
      let xdg : q.xdg ≡ p.xdg = cc in
      let list : q ∷ [] ≡ p ∷ [] = sym other.its ∙ ap popped_of xdg ∙ its.its in
      cc

  each-told : Each (λ p. is_among p.object.id (dismissed_in shell) ≡ p.popup.is_dismissed) (popups_of shell)
  each-told =
      each-map (IsIts shell) (λ p. is_among p.object.id (dismissed_in shell) ≡ p.popup.is_dismissed)
      (λ p its. among-dismissed p.object.id (popups_of shell)
      ∙ one-told p (popups_of shell) (among-popups shell p.xdg.surface p its)
      (each-map (IsIts shell) (λ q. (q.object.id == p.object.id) ≡ true → q ≡ p) (λ q other. only-one p q its other) (popups_of shell) (all-its shell is.shell.apart)))
      (popups_of shell) (all-its shell is.shell.apart)

  pub done-by : (goes : Popped → Bool) (step : XdgSurface → XdgSurface) (new : Resident) → new.owned.shell ≡ map step shell → Each (IsStepped goes step) shell
      → popups_done r new ≡ map done_told (filter (λ p. goes p && not p.popup.is_dismissed) (newest_first (popups_of shell)))
  done-by goes step new same each =
      ap (λ (s : Shell). map Tell (filter T (fold (λ (later : List ℕ) id. id ∷ later) [] (dismissed_in s)))) same
      ∙ ap (λ (ids : List ℕ). map Tell (filter T ids)) (reversed [] (popups_of (map step shell)))
      ∙ ap (map Tell)
      (told goes (dismissed_in shell) (newest_first (popups_of shell)) (newest_first (popups_of (map step shell))) (after-popups goes step shell each)
      (each-newest (λ p. is_among p.object.id (dismissed_in shell) ≡ p.popup.is_dismissed) [] (popups_of shell) tt each-told))
      ∙ told-twice (filter (λ p. goes p && not p.popup.is_dismissed) (newest_first (popups_of shell)))
    where
      T : ℕ → Bool
      T id = not (is_among id (dismissed_in shell))

      Tell : ℕ → Said
      Tell id = said id (says XdgPopup 1 [])

  -- ---- a grab

  each-of : (P : XdgSurface → Type 0) → ((x : XdgSurface) → P x) → (xs : Shell) → Each P xs
  each-of P all [] = tt
  each-of P all (x ∷ xs) = (all x, each-of P all xs)

  none-fall : (ps : List Popped) → filter (λ (p : Popped). false && not p.popup.is_dismissed) ps ≡ []
  none-fall [] = refl
  none-fall (p ∷ ps) = none-fall ps

  abbrev Goes : List ℕ → Popped → Bool
  Goes ids p = is_among p.xdg.id ids

  taken : (xdg : ℕ) (x : XdgSurface) (b : Bool) → AreAfter (λ p. false) (popped_of x) (popped_of (cond b (popup_changed with_grab x) x))
  taken xdg x true = by-role-once (λ p. false) x (popup_changed with_grab x) with_grab (λ object popup. (refl, sym (or-false popup.is_dismissed), refl)) x.role
  taken xdg x false = by-role-still (λ p. false) x (λ object popup. refl) x.role

  dismissed : (ids : List ℕ) (x : XdgSurface) (b : Bool) → is_among x.id ids ≡ b → AreAfter (Goes ids) (popped_of x) (popped_of (if b then popup_changed dismiss x else x))
  dismissed ids x true e =
      by-role-once (Goes ids) x (popup_changed dismiss x) dismiss
      (λ object popup. (refl, sym (ap (λ (b : Bool). popup.is_dismissed || b) e ∙ or-true popup.is_dismissed), refl)) x.role
  dismissed ids x false e = by-role-still (Goes ids) x (λ object popup. e) x.role

  grab-done : (xdg : ℕ) (b : Bool) → popups_done r (grabbed b xdg r) ≡ grab_done b xdg shell
  grab-done xdg true =
      done-by (λ p. false) (λ x. cond (x.id == xdg) (popup_changed with_grab x) x) (grabbed true xdg r) refl
      (each-of (IsStepped (λ p. false) (λ x. cond (x.id == xdg) (popup_changed with_grab x) x)) (λ x. taken xdg x (x.id == xdg)) shell)
      ∙ ap (map done_told) (none-fall (newest_first (popups_of shell)))
  grab-done xdg false =
      let ids = dismissed_with (goes_with true xdg) shell in
      done-by (Goes ids) (dismissed_among ids) (grabbed false xdg r) refl
      (each-of (IsStepped (Goes ids) (dismissed_among ids)) (λ x. dismissed ids x (is_among x.id ids) refl) shell)

  -- ---- the end of a toplevel

  orphan-dismissed : (xdg : ℕ) (popup : Popup) → (orphan xdg popup).is_dismissed ≡ popup.is_dismissed
  orphan-dismissed xdg popup = at (is_parent_of xdg popup)
    where
      at : (b : Bool) → (if b then record popup { parent = None } else popup).is_dismissed ≡ popup.is_dismissed
      at true = refl
      at false = refl

  orphan-number : (xdg : ℕ) (popup : Popup) → (orphan xdg popup).number ≡ popup.number
  orphan-number xdg popup = at (is_parent_of xdg popup)
    where
      at : (b : Bool) → (if b then record popup { parent = None } else popup).number ≡ popup.number
      at true = refl
      at false = refl

  abbrev ended : ℕ → List ℕ → XdgSurface → XdgSurface
  ended xdg ids x = popup_changed (orphan xdg) (dismissed_among ids x)

  abbrev then_gone : ℕ → XdgSurface → XdgSurface
  then_gone xdg x = cond (x.id == xdg) (without_role x) x

  three : (xdg : ℕ) (ids : List ℕ) (xs : Shell) → map (then_gone xdg) (map (popup_changed (orphan xdg)) (map (dismissed_among ids) xs)) ≡ map (λ x. then_gone xdg (ended xdg ids x)) xs
  three xdg ids [] = refl
  three xdg ids (x ∷ xs) = ap (λ (ys : Shell). then_gone xdg (ended xdg ids x) ∷ ys) (three xdg ids xs)

  bare-after : (goes : Popped → Bool) (xdg : ℕ) (x : XdgSurface) (o : Option RoleObject) → (x.id == xdg) ≡ true → list_any (is_of_xdg xdg) (popped_role x o) ≡ false
      → AreAfter goes (popped_role x o) []
  bare-after goes xdg x None here none = tt
  bare-after goes xdg x (Some object) here none = kind object.kind none
    where
      kind : (k : Kind) → list_any (is_of_xdg xdg) (popped_kind x object k) ≡ false → AreAfter goes (popped_kind x object k) []
      kind Toplevel none = tt
      kind (IsPopup popup) none = absurd (let first = (or_parts (x.id == xdg) false none).0 in cc)

  end-one : (xdg : ℕ) (ids : List ℕ) (x : XdgSurface) → list_any (is_of_xdg xdg) (popped_of x) ≡ false → AreAfter (Goes ids) (popped_of x) (popped_of (then_gone xdg (ended xdg ids x)))
  end-one xdg ids x none = at (is_among x.id ids) (x.id == xdg) refl refl
    where
      at : (a b : Bool) → is_among x.id ids ≡ a → (x.id == xdg) ≡ b
          → AreAfter (Goes ids) (popped_of x) (popped_of (then_gone xdg (popup_changed (orphan xdg) (if a then popup_changed dismiss x else x))))
      at true true e here =
          subst (λ (b : Bool). AreAfter (Goes ids) (popped_of x)
          (popped_of (cond b (without_role (popup_changed (orphan xdg) (popup_changed dismiss x))) (popup_changed (orphan xdg) (popup_changed dismiss x))))) (sym here)
          (bare-after (Goes ids) xdg x x.role here none)
      at true false e here =
          subst (λ (b : Bool). AreAfter (Goes ids) (popped_of x)
          (popped_of (cond b (without_role (popup_changed (orphan xdg) (popup_changed dismiss x))) (popup_changed (orphan xdg) (popup_changed dismiss x))))) (sym here)
          (by-role (Goes ids) x (popup_changed (orphan xdg) (popup_changed dismiss x)) dismiss (orphan xdg)
          (λ object popup. (
            refl,
            orphan-dismissed xdg (dismiss popup) ∙ sym (ap (λ (b : Bool). popup.is_dismissed || b) e ∙ or-true popup.is_dismissed),
            sym (orphan-number xdg (dismiss popup)),
          )) x.role)
      at false true e here =
          subst (λ (b : Bool). AreAfter (Goes ids) (popped_of x)
          (popped_of (cond b (without_role (popup_changed (orphan xdg) x)) (popup_changed (orphan xdg) x)))) (sym here)
          (bare-after (Goes ids) xdg x x.role here none)
      at false false e here =
          subst (λ (b : Bool). AreAfter (Goes ids) (popped_of x)
          (popped_of (cond b (without_role (popup_changed (orphan xdg) x)) (popup_changed (orphan xdg) x)))) (sym here)
          (by-role-once (Goes ids) x (popup_changed (orphan xdg) x) (orphan xdg)
          (λ object popup. (refl, orphan-dismissed xdg popup ∙ sym (ap (λ (b : Bool). popup.is_dismissed || b) e ∙ or-false popup.is_dismissed), sym (orphan-number xdg popup))) x.role)

  none-each : (test : Popped → Bool) (xs : Shell) → list_any test (flat_map popped_of xs) ≡ false → Each (λ x. list_any test (popped_of x) ≡ false) xs
  none-each test [] none = tt
  none-each test (x ∷ xs) none = let both = or_parts (list_any test (popped_of x)) (list_any test (flat_map popped_of xs)) (sym (joined (popped_of x)) ∙ none) in (both.0, none-each test xs both.1)
    where
      joined : (ps : List Popped) → list_any test (ps ++ flat_map popped_of xs) ≡ (list_any test ps || list_any test (flat_map popped_of xs))
      joined [] = refl
      joined (p ∷ ps) = ap (λ (b : Bool). test p || b) (joined ps) ∙ grouped (test p) (list_any test ps) (list_any test (flat_map popped_of xs))
        where
          grouped : (a b c : Bool) → (a || (b || c)) ≡ ((a || b) || c)
          grouped true b c = refl
          grouped false b c = refl

pub grab-tells : GrabTellsDone
grab-tells names slots tied kept r c xdg serial d is = grab-done names slots tied kept r is xdg (grab_allowed c xdg serial r d)

pub end-tells : EndTellsDone
end-tells names slots tied kept r c id xdg surface d is none =
    let ids = dismissed_with (goes_with false xdg) r.owned.shell in
    done-by names slots tied kept r is (Goes names slots tied kept r is ids) (λ x. then_gone names slots tied kept r is xdg (ended names slots tied kept r is xdg ids x))
    (toplevel_ended id xdg r) (three names slots tied kept r is xdg ids r.owned.shell)
    (each-map (λ x. list_any (is_of_xdg xdg) (popped_of x) ≡ false)
    (IsStepped (Goes names slots tied kept r is ids) (λ x. then_gone names slots tied kept r is xdg (ended names slots tied kept r is xdg ids x)))
    (λ x bare. end-one names slots tied kept r is xdg ids x bare) r.owned.shell
    (none-each names slots tied kept r is (is_of_xdg xdg) r.owned.shell (sym (any-in-order (is_of_xdg xdg) r.owned.shell) ∙ none)))
