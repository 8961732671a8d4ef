-- Which surfaces keep their numbers.
use Rattle.std.proofs.Common.{◌≡◌, ℕ, Bool, true, false, Option, Some, None, cond, refl, ap, subst, sym, ◌∙◌}
use Rattle.std.specs.Prelude.{◌==◌}
use Rattle.std.proofs.lemmas.Bool.{eqb-true}
use Rattle.spec_desktop.specs.Objects.{ById, with_id}
use Rattle.wl_table.specs.Objects.{Held}
use Rattle.wl_proto.specs.declared.interface.Interface.TheVariants.{WlSurface}
use Rattle.wl_requests.specs.declared.residents.Resident.{Resident as Kept}
use Rattle.spec_desktop.specs.Desktop.{Resident}
use Rattle.spec_desktop.specs.Peer.{Peer}
use Rattle.law_desktop.specs.Owning.{Names, targets_in, with_surface, with_toplevel, with_xdg}
use Rattle.law_desktop.specs.RoleNames.{names_of}
use Rattle.wl_requests.specs.Residents.{IsLeft, KeepsNumbers}

same-number : (o : Option ℕ) (a b : ℕ) → o ≡ Some a → o ≡ Some b → a ≡ b
same-number o a b is named = let e = sym is ∙ named in cc

-- the same numbers are named
keeps-named : (old new : Held) → targets_in WlSurface new ≡ targets_in WlSurface old → KeepsNumbers old new
keeps-named old new same = λ id a b was is. same-number _ a b was (ap (λ (n : ById ℕ). n id) (sym same) ∙ is)

pub keeps-same : (old new : Held) → new ≡ old → KeepsNumbers old new
keeps-same old new same = keeps-named old new (ap (λ (held : Held). targets_in WlSurface held) same)

pub keeps-names : (old new : Held) → names_of new ≡ names_of old → KeepsNumbers old new
keeps-names old new same = keeps-named old new (ap (λ (names : Names). names.surfaces) same)

pub keeps-xdg : (old new : Held) (id : ℕ) (number : Option ℕ) → names_of new ≡ with_xdg id number (names_of old) → KeepsNumbers old new
keeps-xdg old new id number same = keeps-named old new (ap (λ (names : Names). names.surfaces) same)

pub keeps-toplevel : (old new : Held) (id : ℕ) (number : Option ℕ) → names_of new ≡ with_toplevel id number (names_of old) → KeepsNumbers old new
keeps-toplevel old new id number same = keeps-named old new (ap (λ (names : Names). names.surfaces) same)

-- one goes, or is made that wasn't there
keeps-one : (numbers now : ById ℕ) (id : ℕ) (number : Option ℕ) → now ≡ with_id id number numbers → ((a b : ℕ) → numbers id ≡ Some a → number ≡ Some b → a ≡ b) → (other a b : ℕ)
    → numbers other ≡ Some a → now other ≡ Some b → a ≡ b
keeps-one numbers now id number same at other a b was is = by (other == id) refl (ap (λ (n : ById ℕ). n other) (sym same) ∙ is)
  where
    by : (e : Bool) → (other == id) ≡ e → cond e number (numbers other) ≡ Some b → a ≡ b
    by true e is = at a b (ap numbers (sym (eqb-true other id e)) ∙ was) is
    by false e is = same-number _ a b was is

pub keeps-gone : (old new : Held) (id : ℕ) → names_of new ≡ with_surface id None (names_of old) → KeepsNumbers old new
keeps-gone old new id same =
    keeps-one (targets_in WlSurface old) (targets_in WlSurface new) id None (ap (λ (names : Names). names.surfaces) same) (λ a b was is. absurd (cc))

pub keeps-made : (old new : Held) (id number : ℕ) → targets_in WlSurface old id ≡ None → names_of new ≡ with_surface id (Some number) (names_of old) → KeepsNumbers old new
keeps-made old new id number free same =
    keeps-one (targets_in WlSurface old) (targets_in WlSurface new) id (Some number) (ap (λ (names : Names). names.surfaces) same)
    (λ a b was is. absurd (let none = sym free ∙ was in cc))

-- the same, from what had the same objects before
pub left-from : {A : Type 0} (old mid new : Kept A) (r : Resident) (q : Peer) → mid.client.objects ≡ old.client.objects → IsLeft mid new r q → IsLeft old new r q
left-from old mid new r q same left = record {
  peer = left.peer;
  owns = left.owns;
  frames = left.frames;
  subsurfaces = left.subsurfaces;
  numbers = λ alive. subst (λ (held : Held). KeepsNumbers held new.client.objects) same (left.numbers alive);
}
