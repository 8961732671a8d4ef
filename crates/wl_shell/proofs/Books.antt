-- What a change of one xdg_surface makes of all.
use Rattle.std.proofs.Common.{◌≡◌, ◌≢◌, ℕ, suc, map, ◌∷◌, Bool, true, false, Option, Some, None, Result, refl, ap, subst, sym, ◌∙◌, arith, []}
use Rattle.std.specs.Prelude.{find, All, IsSomeAnd, IfSome, OnErr, OnOk, IfOk, Ok, Err, is_some, cond, if◌then◌else◌, ◌==◌, ◌||◌}
use Rattle.std.specs.List.{list_any}
use Rattle.std.specs.Option.{option_map}
use Rattle.std.specs.Map.{lookup, set_value}
use Rattle.std.specs.BTreeMap.{BTreeMap, UpdatesBy, WritesThrough}
use Rattle.std.specs.Ordering.{nat_cmp, is_eq}
use Rattle.std.proofs.Math.Path.{fun_ext}
use Rattle.std.proofs.lemmas.Bool.{eqb-true}
use Rattle.std.proofs.lemmas.Bool.Decides.{nat_tests}
use Rattle.std.proofs.lemmas.Map.Made.{lookup-map_values}
use Rattle.wl_shell.specs.Kept.{Book, Kept, changing, is_of_base, kept_changed, kept_of, with_kept}
use Rattle.wl_shell.specs.Popups.{orphan}
use Rattle.wl_shell.specs.ShellLaws.{each_changed, orphaned}
use Rattle.wl_shell.specs.PopupsKept.{IsSurfaceAt, is_of_id}

another : (surface other : ℕ) → (other == surface) ≡ false → is_eq (nat_cmp surface other) ≡ false
another surface other apart = grind (arith, nat_tests)

-- a map that is updated at a surface
pub updated : (old new : BTreeMap ℕ Kept) (book : Book) (surface : ℕ) (k : Option Kept) → old.entries ≡ book → UpdatesBy nat_cmp (nat_cmp surface) old new k
    → kept_of new.entries ≡ with_kept surface k (kept_of book)
updated old new book surface k same updates = fun_ext (λ other. at other (other == surface) refl)
  where
    at : (other : ℕ) (b : Bool) → (other == surface) ≡ b → kept_of new.entries other ≡ (if b then k else kept_of book other)
    at other true e = ap (kept_of new.entries) (eqb-true other surface e) ∙ updates.1
    at other false e = updates.2 other (another surface other e) ∙ ap (λ (b : Book). kept_of b other) same

module _ (old new : BTreeMap ℕ Kept) (book : Book) (surface : ℕ) (k w : Kept) (same : old.entries ≡ book) (found : Some k ≡ kept_of old.entries surface)
    (written : WritesThrough nat_cmp (nat_cmp surface) old w new) where
  pub changed : (change : Kept → Kept) → w ≡ change k → kept_of new.entries ≡ changing surface change (kept_of book)
  changed change is =
      let here : Some k ≡ kept_of book surface = found ∙ ap (λ (b : Book). kept_of b surface) same in
      let now : Some w ≡ option_map change (kept_of book surface) = ap Some is ∙ ap (option_map change) here in
      updated old new book surface (Some w) same (written.3 (ap is_some (sym found))) ∙ ap (λ (o : Option Kept). with_kept surface o (kept_of book)) now

  rewritten : (es : Book) → lookup (λ key. is_eq (nat_cmp surface key)) es ≡ Some k → set_value (λ key. is_eq (nat_cmp surface key)) es k ≡ es
  rewritten [] e = refl
  rewritten (x ∷ es) e = at (is_eq (nat_cmp surface x.0)) e (rewritten es)
    where
      at : (b : Bool) → cond b (Some x.1) (lookup (λ key. is_eq (nat_cmp surface key)) es) ≡ Some k
          → (lookup (λ key. is_eq (nat_cmp surface key)) es ≡ Some k → set_value (λ key. is_eq (nat_cmp surface key)) es k ≡ es)
          → cond b ((x.0, k) ∷ es) (x ∷ set_value (λ key. is_eq (nat_cmp surface key)) es k) ≡ x ∷ es
      at true e rest = let this : x.1 ≡ k = cc in ap (λ (y : Kept). (x.0, y) ∷ es) (sym this)
      at false e rest = ap (λ (ys : Book). x ∷ ys) (rest e)

  pub stayed : w ≡ k → new.entries ≡ book
  stayed is = written.0 ∙ ap (set_value (λ key. is_eq (nat_cmp surface key)) old.entries) is ∙ rewritten old.entries (sym found) ∙ same

  module _ {X E : Type 0} (result : Result X E) where
    pub changed-ok : (change : X → Kept → Kept) → IfOk result (λ x. w ≡ change x k) → IfOk result (λ x. kept_of new.entries ≡ changing surface (change x) (kept_of book))
    changed-ok change is = at result is
      where
        at : (r : Result X E) → IfOk r (λ x. w ≡ change x k) → IfOk r (λ x. kept_of new.entries ≡ changing surface (change x) (kept_of book))
        at (Ok x) is = changed (change x) is
        at (Err e) is = tt

    pub changed-if : (change : ℕ → Kept → Kept) (o p : Option ℕ) → o ≡ p → OnOk result (IfSome o (λ x. w ≡ change x k))
        → OnOk result (IfSome p (λ x. kept_of new.entries ≡ changing surface (change x) (kept_of book)))
    changed-if change o p same is = at result p (subst (λ (o : Option ℕ). OnOk result (IfSome o (λ x. w ≡ change x k))) same is)
      where
        at : (r : Result X E) (o : Option ℕ) → OnOk r (IfSome o (λ x. w ≡ change x k)) → OnOk r (IfSome o (λ x. kept_of new.entries ≡ changing surface (change x) (kept_of book)))
        at (Ok x) None is = tt
        at (Ok x) (Some id) is = changed (change id) is
        at (Err e) o is = tt

    pub stayed-err : OnErr result (w ≡ k) → OnErr result (new.entries ≡ book)
    stayed-err is = at result is
      where
        at : (r : Result X E) → OnErr r (w ≡ k) → OnErr r (new.entries ≡ book)
        at (Ok x) is = tt
        at (Err e) is = stayed is

-- one of a base is found by its surface
pub made_by : (base : ℕ) (book es : Book) → All (λ e. kept_of book e.0 ≡ Some e.1) es → list_any (is_of_base base) es ≡ true → (surface : ℕ) × IsSomeAnd (kept_of book surface) (λ k. k.base ≡ base)
made_by base book [] found is = absurd (cc)
made_by base book (x ∷ es) found is = at (x.1.base == base) refl is (made_by base book es (λ k d less. found (suc k) d (omega arith)))
  where
    at : (b : Bool) → (x.1.base == base) ≡ b → (b || list_any (is_of_base base) es) ≡ true
        → (list_any (is_of_base base) es ≡ true → (surface : ℕ) × IsSomeAnd (kept_of book surface) (λ k. k.base ≡ base)) → (surface : ℕ) × IsSomeAnd (kept_of book surface) (λ k. k.base ≡ base)
    at true here is rest = (x.0, subst (λ (o : Option Kept). IsSomeAnd o (λ k. k.base ≡ base)) (sym (found 0 x (omega arith))) (eqb-true x.1.base base here))
    at false here is rest = rest is

pub made_by_none : (base : ℕ) (es : Book) (surface : ℕ) → list_any (is_of_base base) es ≡ false → IfSome (kept_of es surface) (λ k. k.base ≢ base)
made_by_none base [] surface none = tt
made_by_none base (x ∷ es) surface none = at (x.1.base == base) (is_eq (nat_cmp surface x.0)) refl none (made_by_none base es surface)
  where
    at : (b c : Bool) → (x.1.base == base) ≡ b → (b || list_any (is_of_base base) es) ≡ false → (list_any (is_of_base base) es ≡ false → IfSome (kept_of es surface) (λ k. k.base ≢ base))
        → IfSome (cond c (Some x.1) (kept_of es surface)) (λ k. k.base ≢ base)
    at true c here none rest = absurd (cc)
    at false true here none rest = λ same. grind (arith, nat_tests)
    at false false here none rest = rest none

-- each is changed
each-written : (change : Kept → Kept) (book : Book) → kept_of (map (λ e. (e.0, change e.1)) book) ≡ each_changed change (kept_of book)
each-written change book = fun_ext (λ (surface : ℕ). lookup-map_values change (λ key. is_eq (nat_cmp surface key)) book)

-- those whose parent has this id have none any more
pub orphans : (old new : BTreeMap ℕ Kept) (book : Book) (surface id : ℕ) (k : Kept) → old.entries ≡ book → Some k ≡ kept_of book surface → id ≡ k.id
    → new.entries ≡ map (λ e. (e.0, kept_changed (orphan id) e.1)) old.entries → kept_of new.entries ≡ orphaned (kept_of book surface) (kept_of book)
orphans old new book surface id k same found is written =
    ap kept_of written
    ∙ each-written (kept_changed (orphan id)) old.entries
    ∙ ap (λ (b : Book). each_changed (kept_changed (orphan id)) (kept_of b)) same
    ∙ ap (λ (i : ℕ). each_changed (kept_changed (orphan i)) (kept_of book)) is
    ∙ ap (λ (o : Option Kept). orphaned o (kept_of book)) found

-- ---- the xdg_surface of an id

found_by : (id : ℕ) (book es : Book) → All (λ e. kept_of book e.0 ≡ Some e.1) es
    → IfSome (option_map (λ (e : ℕ × Kept). e.0) (find (is_of_id id) es)) (λ s. IsSomeAnd (kept_of book s) (λ k. k.id ≡ id))
found_by id book [] each = tt
found_by id book (x ∷ es) each = at (x.1.id == id) refl (found_by id book es (λ k d less. each (suc k) d (omega arith)))
  where
    at : (b : Bool) → (x.1.id == id) ≡ b → IfSome (option_map (λ (e : ℕ × Kept). e.0) (find (is_of_id id) es)) (λ s. IsSomeAnd (kept_of book s) (λ k. k.id ≡ id))
        → IfSome (option_map (λ (e : ℕ × Kept). e.0) (if b then Some x else find (is_of_id id) es)) (λ s. IsSomeAnd (kept_of book s) (λ k. k.id ≡ id))
    at true here rest = subst (λ (o : Option Kept). IsSomeAnd o (λ k. k.id ≡ id)) (sym (each 0 x (omega arith))) (eqb-true x.1.id id here)
    at false here rest = rest

found_by_none : (id : ℕ) (es : Book) (surface : ℕ) → find (is_of_id id) es ≡ None → IfSome (kept_of es surface) (λ k. k.id ≢ id)
found_by_none id [] surface none = tt
found_by_none id (x ∷ es) surface none = at (x.1.id == id) (is_eq (nat_cmp surface x.0)) refl none (found_by_none id es surface)
  where
    at : (b c : Bool) → (x.1.id == id) ≡ b → (if b then Some x else find (is_of_id id) es) ≡ None
        → (find (is_of_id id) es ≡ None → IfSome (kept_of es surface) (λ k. k.id ≢ id)) → IfSome (cond c (Some x.1) (kept_of es surface)) (λ k. k.id ≢ id)
    at true c here none rest = absurd (cc)
    at false true here none rest = λ same. grind (arith, nat_tests)
    at false false here none rest = rest none

pub surface_at : (id : ℕ) (book : Book) (result : Option ℕ) → All (λ e. kept_of book e.0 ≡ Some e.1) book
    → result ≡ option_map (λ (e : ℕ × Kept). e.0) (find (is_of_id id) book) → IsSurfaceAt id (kept_of book) result
surface_at id book result each same = subst (λ (o : Option ℕ). IsSurfaceAt id (kept_of book) o) (sym same) (at (find (is_of_id id) book) refl (found_by id book book each))
  where
    at : (o : Option (ℕ × Kept)) → find (is_of_id id) book ≡ o → IfSome (option_map (λ (e : ℕ × Kept). e.0) o) (λ s. IsSomeAnd (kept_of book s) (λ k. k.id ≡ id))
        → IsSurfaceAt id (kept_of book) (option_map (λ (e : ℕ × Kept). e.0) o)
    at None none found = λ surface. found_by_none id book surface none
    at (Some e) none found = found
