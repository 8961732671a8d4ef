-- What is told of surfaces that are applied, one by one.
use Rattle.std.proofs.Common.{◌≡◌, ℕ, ◌==◌, ◌||◌, Bool, true, false, cond, Option, Some, None, List, [], ◌∷◌, ◌++◌, refl, ap, sym, subst, ◌∙◌}
use Rattle.std.specs.Prelude.{◌&&◌}
use Rattle.std.specs.List.{list_any}
use Rattle.std.specs.Option.{option_map}
use Rattle.std.proofs.lemmas.Bool.{eq-eqb, eqb-true}
use Rattle.std.proofs.lemmas.List.Folds.{list_any-append}
use Rattle.wl_geom.specs.declared.rect.Rect.{Rect}
use Rattle.wl_surface.specs.State.{History, Values, applied, apply, between, committed, height_of, held, is_damaged, is_damaged_by, width_of}
use Rattle.wl_surface.specs.Surface.{Surface}
use Rattle.wl_surface.specs.declared.applied.Change.{Change}
use Rattle.wl_surface.specs.Applied.{AreApplied}
use Rattle.wl_surface.specs.Slots.{Numbered}
use Rattle.wl_surface.specs.Surfaces.{Surfaces, history_in, surface_at}
use Rattle.wl_surface.specs.Trees.{applied_tree, applied_unless, descends_from, levels}
use Rattle.wl_surface.specs.TreeLaws.{AreOnceLinked}
use Rattle.wl_surface.proofs.TreesApplying.{applies-descendants}
use Rattle.wl_surface.proofs.Coming.{history-applied}
use Rattle.wl_surface.specs.Linked.{numbered}
use Rattle.wl_surface.specs.Tree.{AreTold, IsTold, IsToldUnless, is_among, listed}
use Rattle.spec_desktop.specs.Moments.{is_applied_by}
use Rattle.law_windows.specs.ToldLaws.{TellsApplied, is_told_of}
use Rattle.law_windows.proofs.ToldDamage.Rects.{undamaged}
use Rattle.law_desktop.proofs.Truth.{or-false}

-- ---- what is told of one surface

-- these rectangles damage a surface that shows these values
abbrev pub damage : Values → ℕ → ℕ → List Rect → Bool
damage v x y rects = is_damaged (width_of v.buffer v.transform v.scale) (height_of v.buffer v.transform v.scale) rects x y

-- what rectangles say of a point of the surface, as it is once it is applied, if it is there
abbrev pub says_at : ℕ → ℕ → Option Surface → List Rect → Bool
says_at x y None rects = false
says_at x y (Some s) rects = damage (held s.history) x y rects

-- what was asked of that point since the surface was applied
abbrev pub said_at : ℕ → ℕ → Option Surface → Bool
said_at x y None = false
said_at x y (Some s) = is_damaged_by (held s.history) (between s.history.cut (committed s.history.requests) s.history.requests) x y

-- a change of this surface of which the rectangles say so
abbrev pub is_said_by : {A : Type 0} → (List Rect → Bool) → ℕ → Change A → Bool
is_said_by says n c = (c.surface == n) && says c.rects.items

-- Of a surface that is applied the changes say what was asked of it, and of another they say nothing.
abbrev pub AreSaid : {A : Type 0} → ℕ → List (Change A) → Bool → Option Surface → Type 0
AreSaid n changes true at = (x y : ℕ) → list_any (is_said_by (says_at x y at) n) changes ≡ said_at x y at
AreSaid n changes false at = (says : List Rect → Bool) → list_any (is_said_by says n) changes ≡ false

-- it is told once
one-said : {A : Type 0} (n : ℕ) (at : Option Surface) (one : Option (Change A)) → AreApplied n at one
    → (x y : ℕ) → list_any (is_said_by (says_at x y at) n) (listed one) ≡ said_at x y at
one-said {A} n None one is x y = ap (λ (o : Option (Change A)). list_any (is_said_by (says_at x y None) n) (listed o)) is
one-said {A} n (Some s) one is x y =
    let says = damage (held s.history) x y in
    ap (λ (o : Option (Change A)). list_any (is_said_by says n) (listed o)) is.1
    ∙ (or-false (is_said_by says n is.0)
    ∙ (ap (λ b. b && says is.0.rects.items) (eq-eqb is.0.surface n is.2.surface) ∙ is.2.damage x y))

other-unsaid : {A : Type 0} (m n : ℕ) (at : Option Surface) (one : Option (Change A)) → (m == n) ≡ false → AreApplied m at one
    → (says : List Rect → Bool) → list_any (is_said_by says n) (listed one) ≡ false
other-unsaid {A} m n None one other is says = ap (λ (o : Option (Change A)). list_any (is_said_by says n) (listed o)) is
other-unsaid {A} m n (Some s) one other is says =
    ap (λ (o : Option (Change A)). list_any (is_said_by says n) (listed o)) is.1
    ∙ (or-false (is_said_by says n is.0) ∙ ap (λ b. b && says is.0.rects.items) (ap (λ k. k == n) is.2.surface ∙ other))

-- behind others, which say the same of it or nothing
module _ {A : Type 0} (n : ℕ) (one others : List (Change A)) (at : Option Surface) where
  said-again : (b : Bool) → AreSaid n one true at → AreSaid n others b at → AreSaid n (one ++ others) true at
  said-again true first second = λ x y.
      let says = says_at x y at in
      list_any-append (is_said_by says n) one others
      ∙ (ap (λ c. c || list_any (is_said_by says n) others) (first x y) ∙ (ap (λ c. said_at x y at || c) (second x y) ∙ twice (said_at x y at)))
    where
      twice : (b : Bool) → (b || b) ≡ b
      twice true = refl
      twice false = refl
  said-again false first second = λ x y.
      let says = says_at x y at in
      list_any-append (is_said_by says n) one others
      ∙ (ap (λ c. c || list_any (is_said_by says n) others) (first x y) ∙ (ap (λ c. said_at x y at || c) (second says) ∙ or-false (said_at x y at)))

  pub said-behind : (b : Bool) → AreSaid n one false at → AreSaid n others b at → AreSaid n (one ++ others) b at
  said-behind true first second = λ x y.
      let says = says_at x y at in
      list_any-append (is_said_by says n) one others ∙ (ap (λ c. c || list_any (is_said_by says n) others) (first says) ∙ second x y)
  said-behind false first second = λ says.
      list_any-append (is_said_by says n) one others ∙ (ap (λ c. c || list_any (is_said_by says n) others) (first says) ∙ second says)

-- of one that stands among those that are applied it is what was asked of it since, and of others nothing
pub all-said : {A : Type 0} (n : ℕ) (all : Numbered) (ns : List ℕ) (changes : List (Change A)) → AreTold ns all changes
    → AreSaid n changes (is_among ns n) (all n)
all-said {A} n all [] changes told = λ says. ap (λ (cs : List (Change A)). list_any (is_said_by says n) cs) told
all-said {A} n all (m ∷ ms) changes told =
    subst (λ (cs : List (Change A)). AreSaid n cs ((m == n) || is_among ms n) (all n)) (sym told.4) (at (m == n) refl (all-said n all ms told.1 told.3))
  where
    at : (b : Bool) → (m == n) ≡ b → AreSaid n told.1 (is_among ms n) (all n) → AreSaid n (listed told.0 ++ told.1) (b || is_among ms n) (all n)
    at true e rest =
        said-again n (listed told.0) told.1 (all n) (is_among ms n)
        (one-said n (all n) told.0 (subst (λ k. AreApplied k (all k) told.0) (eqb-true m n e) told.2)) rest
    at false e rest = said-behind n (listed told.0) told.1 (all n) (is_among ms n) (other-unsaid m n (all m) told.0 e told.2) rest

-- ---- the damage of one surface

-- what was asked of a surface, if it is there
abbrev pub asked_at : Option Surface → Option History
asked_at at = option_map (λ s. s.history) at

-- It is told as it is applied, or isn't.
pub one-told : {A : Type 0} (n : ℕ) (changes : List (Change A)) (x y : ℕ) (b : Bool) (at : Option Surface) → AreSaid n changes b at
    → is_applied_by (asked_at at) (option_map (λ h. cond b (apply h) h) (asked_at at)) x y
    ≡ is_told_of changes n (option_map (λ h. cond b (apply h) h) (asked_at at)) x y
one-told n changes x y b None said = refl
one-told n changes x y true (Some s) said = sym (said x y)
one-told n changes x y false (Some s) said =
    undamaged (applied s.history) s.history.cut s.history.requests x y ∙ sym (said (damage (applied s.history) x y))

-- ---- a tree is applied

pub tree-told : {A : Type 0} (surface : ℕ) (all : Surfaces) (changes : List (Change A)) → AreOnceLinked all.links → IsTold surface all changes
    → TellsApplied changes all (applied_tree levels surface all)
tree-told surface all changes once told n x y =
    subst (λ (o : Option History). is_applied_by (history_in n all) o x y ≡ is_told_of changes n o x y) (sym now)
    (one-told n changes x y (descends_from 16 all surface n) (surface_at n all)
    (subst (λ b. AreSaid n changes b (surface_at n all)) (told.those n) (all-said n (numbered all) told.numbers changes told.told)))
  where
    now : history_in n (applied_tree levels surface all) ≡ option_map (λ h. cond (descends_from 16 all surface n) (apply h) h) (history_in n all)
    now = ap (λ (a : Surfaces). history_in n a) (applies-descendants all once 16 surface) ∙ history-applied n (descends_from 16 all surface) all

-- where nothing is applied, nothing is told
pub nothing-told : {A : Type 0} (all : Surfaces) (changes : List (Change A)) → changes ≡ [] → TellsApplied changes all all
nothing-told {A} all changes none n x y = at (history_in n all)
  where
    at : (o : Option History) → is_applied_by o o x y ≡ is_told_of changes n o x y
    at None = refl
    at (Some h) =
        undamaged (applied h) h.cut h.requests x y ∙ sym (ap (λ (cs : List (Change A)). is_told_of cs n (Some h) x y) none)

pub told-unless : {A : Type 0} (b : Bool) (surface : ℕ) (all : Surfaces) (changes : List (Change A)) → AreOnceLinked all.links
    → IsToldUnless b surface all changes → TellsApplied changes all (applied_unless b surface all)
told-unless true surface all changes once told = nothing-told all changes told
told-unless false surface all changes once told = tree-told surface all changes once told

-- ---- what is applied depends on the old cut alone

abbrev pub cut_of : Option History → Option ℕ
cut_of o = option_map (λ h. h.cut) o

same-cut : (o p new : Option History) (x y : ℕ) → cut_of o ≡ cut_of p → is_applied_by o new x y ≡ is_applied_by p new x y
same-cut None None new x y e = refl
same-cut None (Some h) new x y e = absurd (cc)
same-cut (Some g) None new x y e = absurd (cc)
same-cut (Some g) (Some h) None x y e = refl
same-cut (Some g) (Some h) (Some new) x y e =
    let same : g.cut ≡ h.cut = cc in
    ap (λ cut. is_damaged_by (applied new) (between cut new.cut new.requests) x y) same

pub told-from : {A : Type 0} (old mid new : Surfaces) (changes : List (Change A)) → ((n : ℕ) → cut_of (history_in n old) ≡ cut_of (history_in n mid))
    → TellsApplied changes mid new → TellsApplied changes old new
told-from old mid new changes same told n x y = same-cut (history_in n old) (history_in n mid) (history_in n new) x y (same n) ∙ told n x y
