-- Which messages may change what several surfaces show; and that no other is a commit.
use Rattle.std.proofs.Common.{◌≡◌, ℕ, List, Bool, true, false, Option, Some, None, refl, sym, subst, ◌∙◌, inl, inr, ◌⊎◌}
use Rattle.std.proofs.lemmas.Bool.{true≢false}
use Rattle.std.proofs.lemmas.Option.{none-some}
use Rattle.std.specs.Prelude.{is_some, slice_index_or}
use Rattle.wl_links.specs.Family.{links_in}
use Rattle.law_desktop.specs.Ordered.{OwnsOrdered}
use Rattle.law_desktop.specs.Subsurfaces.{AreOfSurfaces, child_of}
use Rattle.spec_desktop.specs.Objects.{ById}
use Rattle.spec_desktop.specs.Demand.{CommitTree}
use Rattle.spec_desktop.specs.Desktop.{Resident, Subsurface}
use Rattle.wl_proto.specs.declared.wl_subsurface.WlSubsurfaceRequest.TheVariants as subsurface
use Rattle.wl_proto.specs.declared.wl_surface.WlSurfaceRequest.TheVariants as surface
use Rattle.wl_proto.specs.declared.xdg_popup.XdgPopupRequest.TheVariants as popup
use Rattle.wl_requests.proofs.Subsurfaces.{only-number}
use Rattle.wl_requests.specs.declared.messages.Asked.{Asked}
use Rattle.wl_requests.specs.declared.messages.Asked.TheVariants as asked
use Rattle.wl_requests.specs.declared.messages.Kind.{Kind}
use Rattle.wl_requests.specs.declared.messages.Kind.TheVariants as kind
use Rattle.wl_requests.specs.declared.residents.Resident.{Resident as Kept}
use Rattle.wl_requests.specs.Linking.{IsOnlyChild}
use Rattle.wl_requests.specs.Messages.{IsAsked, IsTouchOf, IsTouchOfAsked}
use Rattle.wl_requests.specs.Residents.{IsResident}
use Rattle.wl_requests.specs.Touching.{Touch, Commits, Destroys, Parts, Releases, Closes}
use Rattle.wl_clients.specs.Screens.{IsTouchedBy}
use Rattle.wl_clients.proofs.OnScreen.Touches.{IsTouchIf, IsTouchNamed, touch-is, touch-named}
use Rattle.law_desktop.specs.Messages.{IsDemanded}
use Rattle.wl_wire.specs.Wire.{split_of}

-- ---- whether it may change what several surfaces show

-- there is such a one, or none
abbrev Decided : {X : Type 0} → (X → Type 0) → Type 0
Decided {X} P = ((x : X) × P x) ⊎ ((x : X) → P x → ⊥)

module _ {A : Type 0} (v : Kept A) (numbers : ById ℕ) (subsurfaces : List Subsurface) (are : AreOfSurfaces v.subsurfaces numbers subsurfaces) where
  -- the child of a wl_subsurface while its link lives
  only-child : (object : ℕ) → Decided (λ child. IsOnlyChild v object child)
  only-child object = at (child_of object subsurfaces) refl
    where
      by : (child : ℕ) → slice_index_or v.subsurfaces child None ≡ Some object → ((other : ℕ) → slice_index_or v.subsurfaces other None ≡ Some object → other ≡ child) → (b : Bool)
          → is_some (links_in v.owned.surfaces.family child) ≡ b → Decided (λ child. IsOnlyChild v object child)
      by child there same true lives = inl (child, ((there, lives), same))
      by child there same false ended =
          inr (λ other only. true≢false (sym (subst (λ (n : ℕ). is_some (links_in v.owned.surfaces.family n) ≡ true) (same other only.0.0) only.0.1) ∙ ended))

      at : (o : Option ℕ) → child_of object subsurfaces ≡ o → Decided (λ child. IsOnlyChild v object child)
      at None e = inr (λ child only. let k = are.known child object only.0.0 in none-some k.0 (sym e ∙ k.2))
      at (Some id) e =
          let here = are.named object id e in
          by here.0 here.2 (λ other there. only-number v.subsurfaces numbers subsurfaces object other here.0 are there here.2) (is_some (links_in v.owned.surfaces.family here.0)) refl

  child-touches : (touches : ℕ → Touch) (object : ℕ) → Decided (λ touch. (child : ℕ) × IsOnlyChild v object child × (touch ≡ touches child))
  child-touches touches object = at (only-child object)
    where
      at : Decided (λ child. IsOnlyChild v object child) → Decided (λ touch. (child : ℕ) × IsOnlyChild v object child × (touch ≡ touches child))
      at (inl one) = inl (touches one.0, (one.0, one.1, refl))
      at (inr none) = inr (λ touch is. none is.0 is.1)

  kind-touches : (k : Kind) (object target : ℕ) → Decided (λ touch. IsTouchOf k object target v touch)
  kind-touches (kind.Surface surface.Commit) object target = inl (Commits target, refl)
  kind-touches (kind.Surface surface.Destroy) object target = inl (Destroys target, refl)
  kind-touches (kind.Subsurface subsurface.Destroy) object target = child-touches Parts object
  kind-touches (kind.Subsurface subsurface.SetDesync) object target = child-touches Releases object
  kind-touches (kind.Popup popup.Destroy) object target = inl (Closes target, refl)
  kind-touches k object target = inr (λ touch is. is)

  pub asked-touches : (a : Asked) → ((touch : Touch) × IsTouchOfAsked a v touch) ⊎ ((touch : Touch) → IsTouchOfAsked a v touch → ⊥)
  asked-touches (asked.Request object version size target k) = kind-touches k object target
  asked-touches a = inr (λ touch is. is)

-- ---- what is a commit

-- Where it changes nothing of what several surfaces show, it is none.
pub untouched-never : {A : Type 0} (v : Kept A) (r : Resident) (a : Asked) (touched : Option ℕ) → IsResident v r → OwnsOrdered r → IsAsked v.client a → IsTouchedBy v a touched
    → ((touch : Touch) → IsTouchOfAsked a v touch → ⊥) → (id : ℕ) → IsDemanded (split_of r.peer.rest) r (CommitTree id) → ⊥
untouched-never v r a touched is ordered asks by none id demanded =
    at touched (touch-named v r a (CommitTree id) touched is ordered asks demanded by) (touch-is v r a (CommitTree id) touched is ordered asks demanded by)
  where
    at : (touched : Option ℕ) → IsTouchNamed v r (CommitTree id) touched → IsTouchIf (λ touch. IsTouchOfAsked a v touch) touched (CommitTree id) → ⊥
    at None (inl h) its = none-some id (sym h.0)
    at None (inr h) its = none-some h.1 h.3
    at (Some number) named its = none its.0 its.1
