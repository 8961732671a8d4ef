-- Beside whom a child is placed: its parent, or another child of that, of what is kept and by definition alike.
use Rattle.std.proofs.Common.{◌≡◌, ℕ, Bool, true, false, cond, Option, Some, None, refl, ap, sym, subst, ◌∙◌}
use Rattle.std.specs.Prelude.{◌==◌, ◌&&◌, ◌||◌, is_some, not}
use Rattle.std.specs.Option.{option_map, option_map_or}
use Rattle.wl_links.specs.declared.placed.Member.TheVariants as kept
use Rattle.wl_links.specs.declared.link.Link.{Link as KeptLink}
use Rattle.wl_links.specs.Family.{is_bad_sibling, is_child, links_in, member_of}
use Rattle.wl_proto.specs.declared.interface.Interface.TheVariants.{WlSurface}
use Rattle.law_desktop.proofs.ByNames.Tying.{finds-named, siblings-named}
use Rattle.law_desktop.specs.Owning.{number_in, targets_in}
use Rattle.law_desktop.proofs.Keeping.OwningTies.{number-of-name, stand-by}
use Rattle.spec_desktop.specs.Desktop.{Resident}
use Rattle.spec_desktop.specs.WlSubsurface.{beside, sibling_of}
use Rattle.wl_surface.specs.Request.{Child, Itself, Member}
use Rattle.wl_surface.specs.Surfaces.{Link, Surfaces}
use Rattle.wl_surface.specs.Trees.{link_of}
use Rattle.wl_surface.specs.Hanging.{kids_of}
use Rattle.wl_surface.specs.TreeLaws.{links_of}
use Rattle.wl_surface.specs.Stacks.{IsKept}
use Rattle.wl_requests.specs.declared.residents.Resident.{Resident as Kept}
use Rattle.wl_requests.specs.Residents.{IsResident, IsSurface}
use Rattle.wl_requests.proofs.Linking.{IsLinkOf}

-- whether the sibling is refused, and else who it is
abbrev pub PlacedBy : Bool → Surfaces → Link → ℕ → Type 0
PlacedBy true all l sibling = beside all l sibling ≡ None
PlacedBy false all l sibling = (at : Member) × (beside all l sibling ≡ Some at) × IsKept (kids_of all) at (member_of l.parent sibling)

module _ (all : Surfaces) (l : Link) (sibling : ℕ) (mine : link_of l.child all ≡ Some l)
    (finds : (k : Link) → link_of sibling all ≡ Some k → (k.child ≡ sibling) × (kids_of all k.number ≡ Some sibling)) where
  abbrev made : Link → KeptLink
  made k = record { parent = k.parent; is_synchronised = k.synchronised }

  none-left : (x : Bool) → beside all l sibling ≡ None → PlacedBy (not (not x && false)) all l sibling
  none-left true e = e
  none-left false e = e

  other-placed : (k : Link) → link_of sibling all ≡ Some k → (sibling == l.parent) ≡ false → (p s : Bool) → (k.parent == l.parent) ≡ p → (sibling == l.child) ≡ s
      → PlacedBy (not (not s && p)) all l sibling
  other-placed k f e p s parent child = at p s base
    where
      base : beside all l sibling ≡ cond (p && not s) (Some (Child k.number)) None
      base =
          ap (λ c. cond c (Some Itself) (sibling_of l (link_of sibling all))) e
          ∙ ap (sibling_of l) f
          ∙ ap (λ c. cond (c && not (k.child == l.child)) (Some (Child k.number)) None) parent
          ∙ ap (λ i. cond (p && not (i == l.child)) (Some (Child k.number)) None) (finds k f).0
          ∙ ap (λ c. cond (p && not c) (Some (Child k.number)) None) child

      at : (p s : Bool) → beside all l sibling ≡ cond (p && not s) (Some (Child k.number)) None → PlacedBy (not (not s && p)) all l sibling
      at true true b = b
      at true false b = (Child k.number, b, subst (λ c. IsKept (kids_of all) (Child k.number) (cond c kept.Itself (kept.Child sibling))) (sym e) (finds k f).1)
      at false true b = b
      at false false b = b

  else-placed : (sibling == l.parent) ≡ false → (o : Option Link) → link_of sibling all ≡ o
      → PlacedBy (not (not (sibling == l.child) && option_map_or (λ (k : KeptLink). k.parent == l.parent) (option_map made o) false)) all l sibling
  else-placed e None f = none-left (sibling == l.child) (ap (λ c. cond c (Some Itself) (sibling_of l (link_of sibling all))) e ∙ ap (sibling_of l) f)
  else-placed e (Some k) f = other-placed k f e (k.parent == l.parent) (sibling == l.child) refl refl

  pub placed-by : PlacedBy (is_bad_sibling l.child sibling (links_of all)) all l sibling
  placed-by =
      subst (λ b. PlacedBy b all l sibling)
      (sym (ap (λ (o : Option Link). option_map_or (λ (k : KeptLink). not (sibling == k.parent || (not (sibling == l.child) && is_child k.parent (links_of all) sibling))) (option_map made o) false)
      mine))
      (at (sibling == l.parent) refl)
    where
      at : (b : Bool) → (sibling == l.parent) ≡ b → PlacedBy (not (b || (not (sibling == l.child) && is_child l.parent (links_of all) sibling))) all l sibling
      at true e = (Itself, ap (λ c. cond c (Some Itself) (sibling_of l (link_of sibling all))) e, subst (λ c. IsKept (kids_of all) Itself (cond c kept.Itself (kept.Child sibling))) (sym e) tt)
      at false e = else-placed e (link_of sibling all) refl

-- by what is kept
pub placed-kept : {A : Type 0} (v : Kept A) (r : Resident) (object child sibling other : ℕ) (its : IsLinkOf v r object child) → IsResident v r → IsSurface v sibling other → (bad : Bool)
    → is_bad_sibling child other (links_in v.owned.surfaces.family) ≡ bad → PlacedBy bad r.owned.surfaces its.link sibling
placed-kept v r object child sibling other its is named bad e =
    let numbers = targets_in WlSurface v.client.objects in
    let by = stand-by numbers v.owned.surfaces.states v.owned.surfaces.family r.owned.surfaces is.owns.surfaces in
    let same = siblings-named (number_in numbers) v.owned.surfaces.states v.owned.surfaces.family r.owned.surfaces its.link.child sibling
    (sym (is.owns.surfaces.numbered its.link.child) ∙ ap is_some its.named) (sym (is.owns.surfaces.numbered sibling) ∙ ap is_some named) by in
    subst (λ b. PlacedBy b r.owned.surfaces its.link sibling)
    (sym same ∙ ap (λ n. is_bad_sibling n (number_in numbers sibling) (links_in v.owned.surfaces.family)) (number-of-name numbers its.link.child child its.named)
    ∙ ap (λ n. is_bad_sibling child n (links_in v.owned.surfaces.family)) (number-of-name numbers sibling other named) ∙ e)
    (placed-by r.owned.surfaces its.link sibling its.found (λ k f.
    let found = finds-named (number_in numbers) v.owned.surfaces.states v.owned.surfaces.family r.owned.surfaces sibling k by f in (found.0.of_child, found.1)))
