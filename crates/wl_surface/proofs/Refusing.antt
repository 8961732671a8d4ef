-- Which links are refused.
use Rattle.std.proofs.Common.{◌≡◌, ◌≢◌, ℕ, Bool, true, false, Option, Some, None, Result, Ok, Err, refl, ap, sym, subst, ◌∙◌}
use Rattle.std.specs.Prelude.{◌||◌, IfErr, IsErr, IsErrAnd, OnErr, OnOk, if◌then◌else◌, is_some}
use Rattle.std.specs.Option.{option_map}
use Rattle.std.proofs.Math.Path.{fun_ext}
use Rattle.wl_links.specs.Trees.{StandFor, is_under}
use Rattle.wl_links.specs.Family.{HangTogether, IsTooDeep, Links, Tied, links_in, parents_of}
use Rattle.wl_surface.specs.declared.role.Role.{Role}
use Rattle.wl_surface.specs.declared.role.Role.TheVariants as roles
use Rattle.wl_surface.specs.declared.error.SurfaceError.{SurfaceError}
use Rattle.wl_surface.specs.declared.error.SurfaceError.TheVariants as error
use Rattle.wl_surface.specs.Slots.{Slots, role_at}
use Rattle.wl_surface.specs.Surfaces.{Surfaces, surface_at}
use Rattle.wl_surface.specs.Trees.{is_bad_parent, is_too_deep, link_of}
use Rattle.wl_surface.specs.TreeLaws.{links_of}
use Rattle.wl_surface.proofs.Heights.{same-refusals}
use Rattle.wl_surface.specs.Linked.{IsRefused, Stand, is_other_role, is_taken, link_refusal}

same-there : {X Y : Type 0} (f : X → Y) (o : Option X) → is_some (option_map f o) ≡ is_some o
same-there f None = refl
same-there f (Some x) = refl

-- A link is kept exactly if it was asked for.
pub link-there : (slots : Slots) (tied : Tied) (all : Surfaces) (child : ℕ) → Stand slots tied all → is_some (links_in tied child) ≡ is_some (link_of child all)
link-there slots tied all child stand = ap is_some (stand.hang.0.links child) ∙ same-there _ (link_of child all)

-- A surface has another role by what is kept.
pub taken-role : (slots : Slots) (tied : Tied) (all : Surfaces) (child : ℕ) (role : Option Role) → Stand slots tied all → role ≡ role_at (surface_at child all) → is_other_role role ≡ true
    → true ≡ is_taken all child
taken-role slots tied all child role stand e other = sym (ap (λ b. b || is_some (link_of child all)) (ap is_other_role (sym e) ∙ other))

-- It has a link by what is kept.
pub taken-link : (slots : Slots) (tied : Tied) (all : Surfaces) (child : ℕ) (role : Option Role) (has : Bool) → Stand slots tied all → role ≡ role_at (surface_at child all)
    → is_other_role role ≡ false → has ≡ is_some (links_in tied child) → has ≡ is_taken all child
taken-link slots tied all child role has stand e other is =
    is ∙ link-there slots tied all child stand ∙ sym (ap (λ b. b || is_some (link_of child all)) (ap is_other_role (sym e) ∙ other))

-- ---- the refusals in their order

abbrev refused_by : Bool → Bool → Bool → Option SurfaceError
refused_by deep taken bad = if deep then Some error.TooDeep else (if taken then Some error.Role else (if bad then Some error.BadParent else None))

deep-refused : (deep taken bad : Bool) → deep ≡ true → IsRefused {T = Unit {0}} (refused_by deep taken bad) (Err error.TooDeep)
deep-refused true taken bad e = refl
deep-refused false taken bad e = absurd (cc)

role-refused : (deep taken bad : Bool) → deep ≡ false → taken ≡ true → IsRefused {T = Unit {0}} (refused_by deep taken bad) (Err error.Role)
role-refused false true bad e f = refl
role-refused true taken bad e f = absurd (cc)
role-refused false false bad e f = absurd (cc)

parent-refused : (deep taken bad : Bool) → deep ≡ false → taken ≡ false → bad ≡ true → IsRefused {T = Unit {0}} (refused_by deep taken bad) (Err error.BadParent)
parent-refused false false true e f g = refl
parent-refused true taken bad e f g = absurd (cc)
parent-refused false true bad e f g = absurd (cc)
parent-refused false false false e f g = absurd (cc)

memory-refused : {T : Type 0} (deep taken bad : Bool) (r : Result T SurfaceError) → deep ≡ false → taken ≡ false → bad ≡ false → IfErr r (λ e. e ≡ error.Memory)
    → IsRefused (refused_by deep taken bad) r
memory-refused false false false r e f g h = h
memory-refused true taken bad r e f g h = absurd (cc)
memory-refused false true bad r e f g h = absurd (cc)
memory-refused false false true r e f g h = absurd (cc)

module _ (slots : Slots) (tied : Tied) (all : Surfaces) (child parent : ℕ) (hangs : HangTogether tied) (stand : Stand slots tied all) where
  same-links : links_in tied ≡ links_of all
  same-links = fun_ext stand.hang.0.links

  pub both-refuse : ((is : Bool) → IsTooDeep child parent (links_in tied) is → is_too_deep all child parent ≡ is)
      × (is_bad_parent all child parent ≡ is_under 16 (parents_of (links_in tied)) child parent)
  both-refuse =
      same-refusals all tied.places stand.hang.1.once (subst (λ (links : Links). StandFor tied.places (parents_of links)) same-links hangs.trees) hangs.within (links_in tied) same-links child parent

  pub deep-so : (is : Bool) → IsTooDeep child parent (links_in tied) is → is ≡ true → IsRefused {T = Unit {0}} (link_refusal all child parent) (Err error.TooDeep)
  deep-so is deep e = deep-refused (is_too_deep all child parent) (is_taken all child) (is_bad_parent all child parent) (both-refuse.0 is deep ∙ e)

  module _ (is : Bool) (deep : IsTooDeep child parent (links_in tied) is) (shallow : is ≡ false) where
    pub role-so : (taken : Bool) → taken ≡ is_taken all child → taken ≡ true → IsRefused {T = Unit {0}} (link_refusal all child parent) (Err error.Role)
    role-so taken e f = role-refused (is_too_deep all child parent) (is_taken all child) (is_bad_parent all child parent) (both-refuse.0 is deep ∙ shallow) (sym e ∙ f)

    module _ (taken : Bool) (is_so : taken ≡ is_taken all child) (free : taken ≡ false) (under : Bool) (stands_under : under ≡ is_under 16 (parents_of (links_in tied)) child parent) where
      pub parent-so : under ≡ true → IsRefused {T = Unit {0}} (link_refusal all child parent) (Err error.BadParent)
      parent-so e =
          parent-refused (is_too_deep all child parent) (is_taken all child) (is_bad_parent all child parent) (both-refuse.0 is deep ∙ shallow) (sym is_so ∙ free)
          (both-refuse.1 ∙ sym stands_under ∙ e)

      pub memory-so : {T : Type 0} (r : Result T SurfaceError) → under ≡ false → IfErr r (λ e. e ≡ error.Memory) → IsRefused (link_refusal all child parent) r
      memory-so r e h =
          memory-refused (is_too_deep all child parent) (is_taken all child) (is_bad_parent all child parent) r (both-refuse.0 is deep ∙ shallow) (sym is_so ∙ free)
          (both-refuse.1 ∙ sym stands_under ∙ e) h

-- ---- a surface that isn't taken is given its role

abbrev IsOther : Option Role → Type 0
IsOther role = (other : Role) × (role ≡ Some other) × (other ≢ roles.Subsurface)

other-taken : (o : Option Role) → is_other_role o ≡ false → IsOther o → ⊥
other-taken o free is = at is.0 (sym (ap is_other_role is.1) ∙ free) is.2
  where
    at : (r : Role) → is_other_role (Some r) ≡ false → r ≢ roles.Subsurface → ⊥
    at roles.Toplevel f d = absurd (cc)
    at roles.Popup f d = absurd (cc)
    at roles.Subsurface f d = d refl
    at roles.Cursor f d = absurd (cc)

or-false : (a b : Bool) → (a || b) ≡ false → a ≡ false
or-false true b e = e
or-false false b e = refl

pub never-refused : {T : Type 0} (all : Surfaces) (child : ℕ) (taken : Bool) (r : Result T SurfaceError) → taken ≡ is_taken all child → taken ≡ false
    → (IsErr r → IsOther (role_at (surface_at child all))) → IsErr r → ⊥
never-refused all child taken r e free refused is =
    other-taken (role_at (surface_at child all)) (or-false (is_other_role (role_at (surface_at child all))) (is_some (link_of child all)) (sym e ∙ free)) (refused is)

pub given : {T : Type 0} (r : Result T SurfaceError) → (IsErr r → ⊥) → IfErr r (λ e. e ≡ error.Memory)
given (Ok x) never = tt
given (Err e) never = absurd (never refl)

-- Where memory alone is missing, nothing is said of other refusals.
pub memory-leaves : {T : Type 0} (r : Result T SurfaceError) (P : Type 0) → IfErr r (λ e. e ≡ error.Memory) → IfErr r (λ e. e ≢ error.Memory → P)
memory-leaves (Ok x) P h = tt
memory-leaves (Err e) P h = λ other. absurd (other h)

pub on-ok : {T P Q : Type 0} (r : Result T SurfaceError) → OnOk r P → (P → Q) → OnOk r Q
on-ok (Ok x) p to = to p
on-ok (Err e) p to = tt

pub on-err : {T Q : Type 0} (r : Result T SurfaceError) → (IsErr r → Q) → OnErr r Q
on-err (Ok x) to = tt
on-err (Err e) to = to refl

pub of-memory : {T : Type 0} (r : Result T SurfaceError) → IsErrAnd r (λ e. e ≡ error.Memory) → IfErr r (λ e. e ≡ error.Memory)
of-memory (Ok x) h = tt
of-memory (Err e) h = h
