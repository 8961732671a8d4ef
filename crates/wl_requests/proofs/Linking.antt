-- A wl_subsurface and its link, by what is kept of a client.
use Rattle.std.proofs.Common.{◌≡◌, ℕ, List, [], ◌∷◌, Bool, true, false, cond, Option, Some, None, refl, ap, sym, ◌∙◌, eq-eqb}
use Rattle.std.proofs.lemmas.Option.{none-some, same_Some}
use Rattle.std.specs.Prelude.{◌==◌, ◌&&◌, find, is_some, not}
use Rattle.std.specs.Option.{option_and_then, option_map}
use Rattle.wl_proto.specs.declared.interface.Interface.TheVariants.{WlSurface}
use Rattle.wl_links.specs.Family.{links_in}
use Rattle.law_desktop.proofs.Lists.Keys.{found-by}
use Rattle.law_desktop.specs.Soundness.{IsLive}
use Rattle.law_desktop.specs.InOrder.{OwnsInOrder}
use Rattle.law_desktop.proofs.ByNames.Linking.{ends-there}
use Rattle.law_desktop.proofs.ByNames.Tying.{finds-named, ties-named}
use Rattle.law_desktop.specs.Named.{StandBy}
use Rattle.law_desktop.specs.Reading.{kept_by}
use Rattle.law_desktop.specs.Ordered.{OwnsOrdered}
use Rattle.law_desktop.specs.Owning.{number_in, targets_in}
use Rattle.law_desktop.proofs.Keeping.OwningTies.{number-of-name, renaming-of, stand-by}
use Rattle.law_desktop.proofs.Truth.{there-some}
use Rattle.spec_desktop.specs.Desktop.{Resident, Subsurface}
use Rattle.spec_desktop.specs.WlSubsurface.{is_of_child, link_of_subsurface, living, subsurface_at}
use Rattle.wl_surface.specs.Surfaces.{Link, link_at}
use Rattle.wl_surface.specs.Trees.{link_of}
use Rattle.wl_requests.specs.declared.residents.Resident.{Resident as Kept}
use Rattle.wl_requests.specs.Linking.{IsChildOf}
use Rattle.wl_requests.specs.Residents.{IsResident}

-- the link that lives is found by its child
live-some : (number : ℕ) (l : Link) (ls : List Link) → find (λ k. k.number == number) ls ≡ Some l → l.has_ended ≡ false
    → is_some (find (λ k. not k.has_ended && k.child == l.child) ls) ≡ true
live-some number l [] e lives = absurd (cc)
live-some number l (k ∷ ks) e lives = at (k.number == number) e (λ later. live-some number l ks later lives)
  where
    passes : (k : Link) → k ≡ l → (not k.has_ended && k.child == l.child) ≡ true
    passes k same =
        ap (λ (m : Link). not m.has_ended && m.child == l.child) same ∙ ap (λ b. not b && l.child == l.child) lives ∙ eq-eqb l.child l.child refl

    either : (b : Bool) (o : Option Link) → is_some o ≡ true → is_some (cond b (Some k) o) ≡ true
    either true o e = refl
    either false o e = e

    at : (b : Bool) → cond b (Some k) (find (λ k. k.number == number) ks) ≡ Some l
        → (find (λ k. k.number == number) ks ≡ Some l → is_some (find (λ k. not k.has_ended && k.child == l.child) ks) ≡ true)
        → is_some (cond (not k.has_ended && k.child == l.child) (Some k) (find (λ k. not k.has_ended && k.child == l.child) ks)) ≡ true
    at true e rest = ap (λ b. is_some (cond b (Some k) (find (λ k. not k.has_ended && k.child == l.child) ks))) (passes k (same_Some k l e))
    at false e rest = either (not k.has_ended && k.child == l.child) (find (λ k. not k.has_ended && k.child == l.child) ks) (rest e)

-- the surface that a wl_subsurface has
pub child-by : (o : Option Subsurface) (child : ℕ) → option_and_then (λ (s : Subsurface). s.surface) o ≡ Some child → (s : Subsurface) × (o ≡ Some s) × (s.surface ≡ Some child)
child-by None child e = absurd (cc)
child-by (Some s) child e = (s, refl, e)

-- A wl_subsurface whose link lives is of the link's child.
child-named : (r : Resident) (id : ℕ) (s : Subsurface) (link : Link) → OwnsInOrder r → subsurface_at id r ≡ Some s → IsLive s.link link r.owned.surfaces → s.surface ≡ Some link.child
child-named r id s link owns here live =
    let its = owns.links s.link link live in
    let mine = found-by (λ number (t : Subsurface). t.link == number) (λ t. t.id == id) s.link r.subsurfaces s owns.own.links here (eq-eqb s.link s.link refl) in
    let other = found-by (λ number (t : Subsurface). t.link == number) (λ t. t.id == its.subsurface.id) s.link r.subsurfaces its.subsurface owns.own.links its.here
    (eq-eqb its.subsurface.link s.link its.link) in
    ap (λ (t : Subsurface). t.surface) (same_Some s its.subsurface (sym mine ∙ other)) ∙ its.surface

-- The link of a wl_subsurface that lives, where its child has this number.
pub record IsLinkOf {A : Type 0} (v : Kept A) (r : Resident) (object child : ℕ) : Type 0 where
  pub link : Link
  pub here : link_at link.number r.owned.surfaces ≡ Some link
  pub lives : link.has_ended ≡ false
  pub named : targets_in WlSurface v.client.objects link.child ≡ Some child
  pub above : ℕ
  pub parent : targets_in WlSurface v.client.objects link.parent ≡ Some above
  pub of_object : link_of_subsurface object r ≡ Some link
  pub found : link_of link.child r.owned.surfaces ≡ Some link

module _ {A : Type 0} (v : Kept A) (r : Resident) (is : IsResident v r) (orderly : OwnsOrdered r) (object : ℕ) where
  abbrev numbers : ℕ → Option ℕ
  numbers = targets_in WlSurface v.client.objects

  by-names : StandBy (number_in numbers) v.owned.surfaces.states v.owned.surfaces.family r.owned.surfaces
  by-names = stand-by numbers v.owned.surfaces.states v.owned.surfaces.family r.owned.surfaces is.owns.surfaces

  -- what is kept of a surface's link
  kept-link : (id number : ℕ) → numbers id ≡ Some number → links_in v.owned.surfaces.family number ≡ option_map (kept_by (number_in numbers)) (link_of id r.owned.surfaces)
  kept-link id number named =
      ap (links_in v.owned.surfaces.family) (sym (number-of-name numbers id number named))
      ∙ ties-named (number_in numbers) v.owned.surfaces.states v.owned.surfaces.family r.owned.surfaces id (sym (is.owns.surfaces.numbered id) ∙ ap is_some named) by-names

  linked-there : (o : Option Link) → is_some (option_map (kept_by (number_in numbers)) o) ≡ true → (l : Link) × (o ≡ Some l)
  linked-there None e = absurd (cc)
  linked-there (Some l) e = (l, refl)

  pub link-of-child : (child : ℕ) → IsChildOf v object (Some child) → IsLinkOf v r object child
  link-of-child child of =
      let known = is.subsurfaces.known child object of.0 in
      let one = linked-there (link_of known.0 r.owned.surfaces) (ap is_some (sym (kept-link known.0 child known.1)) ∙ of.1) in
      let finds = (finds-named (number_in numbers) v.owned.surfaces.states v.owned.surfaces.family r.owned.surfaces known.0 one.0 by-names one.1).0 in
      let ends = ends-there (number_in numbers) r.owned.surfaces (renaming-of numbers v.owned.surfaces.states v.owned.surfaces.family r.owned.surfaces is.owns.surfaces) one.0.number one.0 finds.here
      finds.lives in
      let parent = there-some (numbers one.0.parent) (is.owns.surfaces.numbered one.0.parent ∙ ends.1) in
      let mine = child-by (subsurface_at object r) known.0 known.2 in
      let its = orderly.order.links one.0.number one.0 (record { here = finds.here; lives = finds.lives }) in
      let first = found-by (λ surface (s : Subsurface). is_of_child surface s.surface) (λ s. s.id == object) known.0 r.subsurfaces mine.0 orderly.order.own.surfaces mine.1
      (ap (is_of_child known.0) mine.2 ∙ eq-eqb known.0 known.0 refl) in
      let second = found-by (λ surface (s : Subsurface). is_of_child surface s.surface) (λ s. s.id == its.subsurface.id) known.0 r.subsurfaces its.subsurface orderly.order.own.surfaces its.here
      (ap (is_of_child known.0) its.surface ∙ eq-eqb one.0.child known.0 finds.of_child) in
      let same : mine.0 ≡ its.subsurface = same_Some mine.0 its.subsurface (sym first ∙ second) in
      record {
        link = one.0;
        here = finds.here;
        lives = finds.lives;
        named = ap numbers finds.of_child ∙ known.1;
        above = parent.0;
        parent = parent.1;
        of_object =
            ap (option_and_then (λ (s : Subsurface). option_and_then living (link_at s.link r.owned.surfaces))) mine.1
            ∙ ap (λ (s : Subsurface). option_and_then living (link_at s.link r.owned.surfaces)) same
            ∙ ap (λ n. option_and_then living (link_at n r.owned.surfaces)) its.link
            ∙ ap (option_and_then living) finds.here
            ∙ ap (λ b. cond b None (Some one.0)) finds.lives;
        found = ap (λ i. link_of i r.owned.surfaces) finds.of_child ∙ one.1;
      }

  -- where none lives
  pub no-link-of : IsChildOf v object None → link_of_subsurface object r ≡ None
  no-link-of none = at (subsurface_at object r) refl
    where
      never : {P : Type 0} (s : Subsurface) (l : Link) → subsurface_at object r ≡ Some s → link_at s.link r.owned.surfaces ≡ Some l → l.has_ended ≡ false → P
      never s l found here lives =
          let child = child-named r object s l orderly.order found (record { here = here; lives = lives }) in
          let known = is.subsurfaces.named object l.child (ap (option_and_then (λ (s : Subsurface). s.surface)) found ∙ child) in
          let one = there-some (link_of l.child r.owned.surfaces) (live-some s.link l r.owned.surfaces.links here lives) in
          absurd (none-some (kept_by (number_in numbers) one.0) (sym (none _ _ is.subsurfaces known.0 known.2) ∙ kept-link l.child known.0 known.1
          ∙ ap (option_map (kept_by (number_in numbers))) one.1))

      ended : (s : Subsurface) (l : Link) (b : Bool) → subsurface_at object r ≡ Some s → link_at s.link r.owned.surfaces ≡ Some l → l.has_ended ≡ b → cond b None (Some l) ≡ None
      ended s l true found here e = refl
      ended s l false found here e = never s l found here e

      inner : (s : Subsurface) (o : Option Link) → subsurface_at object r ≡ Some s → link_at s.link r.owned.surfaces ≡ o → option_and_then living o ≡ None
      inner s None found here = refl
      inner s (Some l) found here = ended s l l.has_ended found here refl

      at : (o : Option Subsurface) → subsurface_at object r ≡ o → option_and_then (λ (s : Subsurface). option_and_then living (link_at s.link r.owned.surfaces)) o ≡ None
      at None found = refl
      at (Some s) found = inner s (link_at s.link r.owned.surfaces) found refl
