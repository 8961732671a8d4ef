-- What is told as a surface goes.
use Rattle.std.proofs.Common.{◌≡◌, ℕ, zero, suc, ◌≤◌, ◌==◌, ◌||◌, Bool, true, false, cond, Option, Some, None, List, refl, ap, sym, subst, ◌∙◌, arith}
use Rattle.std.specs.Prelude.{◌&&◌}
use Rattle.std.specs.List.{list_any}
use Rattle.std.specs.Option.{option_map}
use Rattle.wl_geom.specs.declared.rect.Rect.{Rect}
use Rattle.wl_surface.specs.State.{History, apply}
use Rattle.wl_surface.specs.Surface.{Surface}
use Rattle.wl_surface.specs.declared.applied.Change.{Change}
use Rattle.wl_surface.specs.Applied.{AreGoneIf, is_shown_at}
use Rattle.wl_surface.specs.Slots.{Numbered}
use Rattle.wl_surface.specs.Surfaces.{Link, Surfaces, history_in, surface_at, without_surface}
use Rattle.wl_surface.specs.Trees.{depth, descends_from, destroyed_in, levels, link_of, of_parent}
use Rattle.wl_surface.specs.TreeLaws.{applied_where, ended_with}
use Rattle.wl_surface.proofs.Coming.{history-applied, history-without}
use Rattle.wl_surface.proofs.TreesEnding.{ends-links}
use Rattle.wl_surface.specs.Linked.{numbered}
use Rattle.wl_surface.specs.Tree.{is_among}
use Rattle.wl_surface.proofs.Destroying.{numbered-left}
use Rattle.spec_desktop.specs.Moments.{is_applied_by}
use Rattle.law_windows.specs.ToldLaws.{EndTellsApplied, is_told_of}
use Rattle.law_windows.proofs.ToldDamage.Telling.{AreSaid, all-said, is_said_by, one-told, said-behind}

-- ---- how deep

-- Where a surface stands no deeper than so many levels, it descends from the same ones within these levels as within one more.
same-within : (n : ℕ) (all : Surfaces) (top surface : ℕ) → depth (suc n) all surface ≤ n → descends_from (suc n) all top surface ≡ descends_from n all top surface
unfolding depth descends_from
same-within zero all top surface shallow = at (link_of surface all) shallow
  where
    or-false : (b : Bool) → (b || false) ≡ b
    or-false true = refl
    or-false false = refl

    at : (o : Option Link) → of_parent 0 (λ parent. suc (depth 0 all parent)) o ≤ 0
        → (surface == top || of_parent false (λ parent. descends_from 0 all top parent) o) ≡ (surface == top)
    at None few = or-false (surface == top)
    at (Some l) few = absurd (omega arith)
same-within (suc n) all top surface shallow = at (link_of surface all) shallow (λ parent. same-within n all top parent)
  where
    at : (o : Option Link) → of_parent 0 (λ parent. suc (depth (suc n) all parent)) o ≤ suc n
        → ((parent : ℕ) → depth (suc n) all parent ≤ n → descends_from (suc n) all top parent ≡ descends_from n all top parent)
        → (surface == top || of_parent false (λ parent. descends_from (suc n) all top parent) o)
        ≡ (surface == top || of_parent false (λ parent. descends_from n all top parent) o)
    at None few next = refl
    at (Some l) few next = ap (λ b. surface == top || b) (next l.parent (omega arith))

-- ---- the surface that goes

turned : (m n : ℕ) → (m == n) ≡ (n == m)
turned m n = grind arith

-- of another surface what is told of it says nothing
own-silent : {A : Type 0} (says : List Rect → Bool) (surface n : ℕ) (b : Bool) (own : List (Change A)) → (n == surface) ≡ false → AreGoneIf b surface own
    → list_any (is_said_by says n) own ≡ false
own-silent {A} says surface n false own other gone = ap (λ (cs : List (Change A)). list_any (is_said_by says n) cs) gone
own-silent {A} says surface n true own other gone =
    ap (λ (cs : List (Change A)). list_any (is_said_by says n) cs) gone.1
    ∙ ap (λ b. (b && says gone.0.rects.items) || false) (ap (λ k. k == n) gone.2 ∙ (turned surface n ∙ other))

-- ---- what is left

none-told : {A : Type 0} (n : ℕ) (changes : List (Change A)) (x y : ℕ) (o : Option History) → is_applied_by o None x y ≡ is_told_of changes n None x y
none-told n changes x y None = refl
none-told n changes x y (Some h) = refl

pub end-tells : (A : Type 0) → EndTellsApplied A
end-tells A surface all changes once apart shallow told n x y =
    subst (λ (o : Option History). is_applied_by (history_in n all) o x y ≡ is_told_of changes n o x y) (sym now) (at (n == surface) refl)
  where
    now : history_in n (destroyed_in surface all) ≡ cond (n == surface) None (option_map (λ h. cond (descends_from levels all surface n) (apply h) h) (history_in n all))
    now =
        ap (λ (a : Surfaces). history_in n a) (ends-links all surface once apart)
        ∙ (history-without n surface (record (applied_where (descends_from levels all surface) all) { links = ended_with surface all.links })
        ∙ ap (λ (o : Option History). cond (n == surface) None o) (history-applied n (descends_from levels all surface) all))

    among : is_among told.numbers n ≡ descends_from levels all surface n
    among = told.those n ∙ sym (same-within 16 all surface n (shallow n))

    left : (n == surface) ≡ false → numbered (without_surface surface all) n ≡ surface_at n all
    left other = ap (λ (named : Numbered). named n) (numbered-left surface all) ∙ ap (λ b. cond b None (surface_at n all)) other

    said : (n == surface) ≡ false → AreSaid n changes (descends_from levels all surface n) (surface_at n all)
    said other =
        subst (λ (cs : List (Change A)). AreSaid n cs (descends_from levels all surface n) (surface_at n all)) (sym told.together)
        (said-behind n told.own told.others (surface_at n all) (descends_from levels all surface n)
        (λ says. own-silent says surface n (is_shown_at (surface_at surface all)) told.own other told.gone)
        (subst (λ (o : Option Surface). AreSaid n told.others (descends_from levels all surface n) o) (left other)
        (subst (λ b. AreSaid n told.others b (numbered (without_surface surface all) n)) among
        (all-said n (numbered (without_surface surface all)) told.numbers told.others told.told))))

    at : (b : Bool) → (n == surface) ≡ b
        → is_applied_by (history_in n all) (cond b None (option_map (λ h. cond (descends_from levels all surface n) (apply h) h) (history_in n all))) x y
        ≡ is_told_of changes n (cond b None (option_map (λ h. cond (descends_from levels all surface n) (apply h) h) (history_in n all))) x y
    at true e = none-told n changes x y (history_in n all)
    at false e = one-told n changes x y (descends_from levels all surface n) (surface_at n all) (said e)
