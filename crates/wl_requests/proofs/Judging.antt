-- What is judged of a link that is asked for, by what is kept of a client.
use Rattle.std.proofs.Common.{◌≡◌, ℕ, List, ◌∷◌, ◌++◌, Bool, true, false, Option, Some, None, Result, Ok, Err, refl, ap, ap₂, sym, subst, ◌∙◌, eq-eqb, eqb-true, Bor, []}
use Rattle.std.proofs.lemmas.Option.{same_Some}
use Rattle.std.proofs.lemmas.Bool.{or_left, or_right}
use Rattle.std.specs.Prelude.{◌==◌, ◌||◌, IsErrAnd, find, if◌then◌else◌, is_some, slice_index_or}
use Rattle.std.specs.Option.{option_and_then, option_copied}
use Rattle.wl_links.specs.Family.{HangTogether, IsTooDeep, Tied, links_in}
use Rattle.law_desktop.proofs.Lists.Keys.{any-found, found-any}
use Rattle.wl_surface.specs.Linked.{IsRefused, Stand, is_other_role, is_taken, link_refusal}
use Rattle.wl_surface.proofs.Refusing.{both-refuse}
use Rattle.law_desktop.proofs.ByNames.Reading.{refuses-named}
use Rattle.law_desktop.proofs.ByNames.Tying.{finds-named}
use Rattle.law_desktop.specs.Named.{StandBy}
use Rattle.law_desktop.proofs.InOrder.Whole.{child-there}
use Rattle.law_desktop.specs.Owning.{IsOwned, Names, number_in}
use Rattle.law_desktop.specs.Subsurfaces.{AreOfSurfaces}
use Rattle.law_desktop.proofs.Keeping.OwningLinks.{owned-linked}
use Rattle.law_desktop.proofs.Keeping.OwningTies.{number-of-name, stand-by}
use Rattle.law_desktop.proofs.Keeping.OwningXdg.{xdg-there}
use Rattle.spec_desktop.specs.declared.refusals.ErrorCode.TheVariants.{BadParent, BadSurface}
use Rattle.spec_desktop.specs.declared.refusals.Refusal.{Refusal}
use Rattle.spec_desktop.specs.Demand.{Demand, GetSubsurface}
use Rattle.spec_desktop.specs.Desktop.{Resident, Subsurface}
use Rattle.spec_desktop.specs.WlSubsurface.{has_subsurface, is_no_subsurface, is_of_child, past_limit, refuses, subsurface_made}
use Rattle.spec_desktop.specs.XdgShell.{role_of}
use Rattle.law_desktop.specs.Renaming.{has_surface, renamed}
use Rattle.law_desktop.proofs.ByNames.Names.Known.{keeps-refusals}
use Rattle.wl_shell.specs.Kept.{kept_of}
use Rattle.wl_shell.specs.Shell.{xdg_of}
use Rattle.wl_surface.specs.Surface.{Surface}
use Rattle.wl_surface.specs.declared.role.Role.{Role}
use Rattle.wl_links.specs.Subsurfaces.{IsSetAt}
use Rattle.wl_surface.specs.declared.error.SurfaceError.{SurfaceError}
use Rattle.wl_surface.specs.declared.error.SurfaceError.TheVariants as error
use Rattle.wl_surface.specs.Slots.{Slots, role_at}
use Rattle.wl_surface.specs.Surfaces.{Link, Surfaces, link_at, surface_at}
use Rattle.wl_surface.specs.Trees.{is_bad_parent, is_too_deep, link_of, linked}
use Rattle.wl_requests.specs.declared.residents.Resident.{Resident as Kept}
use Rattle.wl_requests.specs.Linking.{AreTwo, IsJudged, IsJudgedBy, link_refused}
use Rattle.wl_requests.proofs.Subsurfaces.{linked-subsurfaces}
use Rattle.wl_requests.proofs.Linking.{child-by}

-- ---- the refusals in their order

abbrev refused_by : Bool → Bool → Bool → Option SurfaceError
refused_by deep taken bad = if deep then Some error.TooDeep else (if taken then Some error.Role else (if bad then Some error.BadParent else None))

abbrev judged_by : ℕ → Demand → Bool → Bool → Bool → Result Demand Refusal
judged_by object demand deep taken bad =
    if deep then past_limit else (if taken then refuses object BadSurface else (if bad then refuses object BadParent else Ok demand))

judged-so : (object : ℕ) (demand : Demand) (deep taken bad : Bool) (told : Result (Unit {0}) SurfaceError) → IsRefused (refused_by deep taken bad) told
    → IsJudgedBy object told demand (judged_by object demand deep taken bad)
judged-so object demand true taken bad told e = subst (λ (t : Result (Unit {0}) SurfaceError). IsJudgedBy object t demand past_limit) (sym e) refl
judged-so object demand false true bad told e = subst (λ (t : Result (Unit {0}) SurfaceError). IsJudgedBy object t demand (refuses object BadSurface)) (sym e) refl
judged-so object demand false false true told e = subst (λ (t : Result (Unit {0}) SurfaceError). IsJudgedBy object t demand (refuses object BadParent)) (sym e) refl
judged-so object demand false false false (Ok u) e = refl
judged-so object demand false false false (Err f) e = subst (λ (g : SurfaceError). IsJudged (link_refused object g) demand (Ok demand)) (sym e) refl

-- an error is passed on
pub passed : {T : Type 0} (told : Result T SurfaceError) (f : SurfaceError) → IsErrAnd told (λ e. e ≡ f) → told ≡ Err f
passed (Ok x) f e = absurd e
passed (Err g) f e = ap Err e

-- there is no memory for what would have been done
pub lacks-judged : (object : ℕ) (demand : Demand) (judged : Result Demand Refusal) (told : Result (Unit {0}) SurfaceError) → judged ≡ Ok demand → IsErrAnd told (λ e. e ≡ error.Memory)
    → IsJudgedBy object told demand judged
lacks-judged object demand judged (Ok u) done e = absurd e
lacks-judged object demand judged (Err f) done e = subst (λ (g : SurfaceError). IsJudged (link_refused object g) demand judged) (sym e) done

pub copied-there : {X : Type 0} (o : Option (Bor X)) → is_some (option_copied o) ≡ is_some o
copied-there None = refl
copied-there (Some x) = refl

same-role : (o : Option Role) → is_other_role o ≡ is_no_subsurface o
same-role None = refl
same-role o = refl

pub role-same : (o : Option Surface) → role_at o ≡ option_and_then (λ (s : Surface). s.role) o
role-same None = refl
role-same (Some s) = refl

-- a wl_subsurface of this surface
of-child : (o : Option ℕ) (child : ℕ) → is_of_child child o ≡ true → o ≡ Some child
of-child None child e = absurd (cc)
of-child (Some other) child e = ap Some (eqb-true other child e)

-- ---- of two surfaces

module _ {A : Type 0} (v : Kept A) (names : Names) (r : Resident) (child below parent above : ℕ) (two : AreTwo v names r child below parent above) where
  abbrev all : Surfaces
  all = r.owned.surfaces

  abbrev f : ℕ → ℕ
  f = number_in names.surfaces

  by-names : StandBy f v.owned.surfaces.states v.owned.surfaces.family all
  by-names = stand-by names.surfaces v.owned.surfaces.states v.owned.surfaces.family all two.owns.surfaces

  below-there : has_surface child all ≡ true
  below-there = sym (two.owns.surfaces.numbered child) ∙ ap is_some two.child_named

  above-there : has_surface parent all ≡ true
  above-there = sym (two.owns.surfaces.numbered parent) ∙ ap is_some two.parent_named

  below-is : f child ≡ below
  below-is = number-of-name names.surfaces child below two.child_named

  above-is : f parent ≡ above
  above-is = number-of-name names.surfaces parent above two.parent_named

  refusal-is : link_refusal (renamed f all) below above ≡ link_refusal all child parent
  refusal-is = ap₂ (λ (b a : ℕ). link_refusal (renamed f all) b a) (sym below-is) (sym above-is) ∙ refuses-named f all by-names.renaming child parent below-there above-there

  pub deep-is : (is : Bool) → IsTooDeep below above (links_in v.owned.surfaces.family) is → HangTogether v.owned.surfaces.family → is_too_deep all child parent ≡ is
  deep-is is deep hangs =
      sym (keeps-refusals f all by-names.renaming child parent below-there above-there).0
      ∙ ap₂ (λ (b a : ℕ). is_too_deep (renamed f all) b a) below-is above-is
      ∙ (both-refuse v.owned.surfaces.states v.owned.surfaces.family (renamed f all) below above hangs by-names.stands).0 is deep

  -- a surface has a wl_subsurface where one is kept of it
  has-some : (id : ℕ) → slice_index_or v.subsurfaces below None ≡ Some id → has_subsurface child r ≡ true
  has-some id here =
      let known = two.subsurfaces.known below id here in
      let same : known.0 ≡ child = two.owns.surfaces.once known.0 child below known.1 two.child_named in
      let mine = child-by (find (λ s. s.id == id) r.subsurfaces) known.0 known.2 in
      found-any (λ s. s.id == id) (λ s. is_of_child child s.surface) r.subsurfaces mine.0 mine.1
      (ap (is_of_child child) mine.2 ∙ eq-eqb known.0 child same)

  has-none : has_subsurface child r ≡ true → is_some (slice_index_or v.subsurfaces below None) ≡ true
  has-none has =
      let found = any-found (λ id (s : Subsurface). s.id == id) (λ s. is_of_child child s.surface) r.subsurfaces two.orderly.order.own.ids has in
      let named = two.subsurfaces.named found.0.id child
      (ap (option_and_then (λ (s : Subsurface). s.surface)) (found.2 found.0.id (eq-eqb found.0.id found.0.id refl)) ∙ of-child found.0.surface child found.1) in
      let same : named.0 ≡ below = same_Some named.0 below (sym named.1 ∙ two.child_named) in
      ap is_some (ap (λ n. slice_index_or v.subsurfaces n None) (sym same) ∙ named.2)

  has-is : is_some (slice_index_or v.subsurfaces below None) ≡ has_subsurface child r
  has-is = at (slice_index_or v.subsurfaces below None) refl (has_subsurface child r) refl
    where
      at : (o : Option ℕ) → slice_index_or v.subsurfaces below None ≡ o → (b : Bool) → has_subsurface child r ≡ b → is_some o ≡ b
      at (Some id) e b has = sym (has-some id e) ∙ has
      at None e true has = sym (ap is_some e) ∙ has-none has
      at None e false has = refl

  xdg-is : is_some (kept_of v.owned.shell below) ≡ is_some (xdg_of child r.owned.shell)
  xdg-is = xdg-there names v.owned.surfaces.states v.owned.surfaces.family (kept_of v.owned.shell) r.owned two.owns child below two.child_named

  -- a surface that has none is no child
  no-link : has_subsurface child r ≡ false → is_some (link_of child all) ≡ false
  no-link free = at (link_of child all) refl
    where
      at : (o : Option Link) → link_of child all ≡ o → is_some o ≡ false
      at None e = refl
      at (Some l) e =
          let finds = (finds-named f v.owned.surfaces.states v.owned.surfaces.family all child l by-names e).0 in
          let there = child-there r l.number l.child (two.orderly.order.links l.number l (record { here = finds.here; lives = finds.lives })) in
          let its : has_subsurface child r ≡ true = ap (λ i. has_subsurface i r) (sym finds.of_child) ∙ there in
          absurd (let both = sym free ∙ its in cc)

  taken-is : has_subsurface child r ≡ false → is_some (xdg_of child r.owned.shell) ≡ false
      → is_taken all child ≡ (is_no_subsurface (role_of r child) || (has_subsurface child r || is_some (xdg_of child r.owned.shell)))
  taken-is free bare =
      ap (λ b. is_other_role (role_at (surface_at child all)) || b) (no-link free)
      ∙ ap (λ b. b || false) (same-role (role_at (surface_at child all)) ∙ ap is_no_subsurface (role-same (surface_at child all)))
      ∙ ap (λ b. is_no_subsurface (role_of r child) || b) (sym (ap₂ (λ (a b : Bool). a || b) free bare))

  module _ (object version id : ℕ) where
    abbrev judged : Result Demand Refusal
    judged = subsurface_made r object version id child parent

    abbrev demand : Demand
    demand = GetSubsurface id version child parent

    abbrev taken : Bool
    taken = is_no_subsurface (role_of r child) || (has_subsurface child r || is_some (xdg_of child r.owned.shell))

    pub deep-judged : is_too_deep all child parent ≡ true → judged ≡ past_limit
    deep-judged deep = ap (λ b. judged_by object demand b taken (is_bad_parent all child parent)) deep

    taken-judged : is_too_deep all child parent ≡ false → (has_subsurface child r || is_some (xdg_of child r.owned.shell)) ≡ true → judged ≡ refuses object BadSurface
    taken-judged shallow has =
        ap₂ (λ (a b : Bool). judged_by object demand a b (is_bad_parent all child parent)) shallow
        (or_right (is_no_subsurface (role_of r child)) (has_subsurface child r || is_some (xdg_of child r.owned.shell)) has)

    pub one-judged : is_too_deep all child parent ≡ false → is_some (slice_index_or v.subsurfaces below None) ≡ true → judged ≡ refuses object BadSurface
    one-judged shallow has = taken-judged shallow (or_left (has_subsurface child r) (is_some (xdg_of child r.owned.shell)) (sym has-is ∙ has))

    pub xdg-judged : is_too_deep all child parent ≡ false → is_some (kept_of v.owned.shell below) ≡ true → judged ≡ refuses object BadSurface
    xdg-judged shallow has = taken-judged shallow (or_right (has_subsurface child r) (is_some (xdg_of child r.owned.shell)) (sym xdg-is ∙ has))

    -- else it is as the surfaces and links say
    pub linked-judged : is_some (slice_index_or v.subsurfaces below None) ≡ false → is_some (kept_of v.owned.shell below) ≡ false → (told : Result (Unit {0}) SurfaceError)
        → ((those : Surfaces) → Stand v.owned.surfaces.states v.owned.surfaces.family those → IsRefused (link_refusal those below above) told)
        → IsJudgedBy object told demand judged
    linked-judged free bare told refused =
        judged-so object demand (is_too_deep all child parent) taken (is_bad_parent all child parent) told
        (subst (λ b. IsRefused (refused_by (is_too_deep all child parent) b (is_bad_parent all child parent)) told) (taken-is (sym has-is ∙ free) (sym xdg-is ∙ bare))
        (subst (λ (o : Option SurfaceError). IsRefused o told) refusal-is (refused (renamed f all) by-names.stands)))

  -- ---- it is made

  pub made-so : (number id : ℕ) (slots : Slots) (tied : Tied) (left : List (Option ℕ)) → link_at number all ≡ None → find (λ s. s.id == id) r.subsurfaces ≡ None
      → is_some (slice_index_or v.subsurfaces below None) ≡ false
      → ((those : Surfaces) (number : ℕ) → Stand v.owned.surfaces.states v.owned.surfaces.family those → link_at number those ≡ None → has_surface below those ≡ true → has_surface above those ≡ true
      → Stand slots tied (linked number below above those))
      → IsSetAt below (Some id) v.subsurfaces left
      → IsOwned names slots tied (kept_of v.owned.shell) (record r.owned { surfaces = linked number child parent all })
      × AreOfSurfaces left names.surfaces (r.subsurfaces ++ record { id = id; link = number; surface = Some child } ∷ [])
  made-so number id slots tied left none new free makes set = (
    owned-linked names v.owned.surfaces.states v.owned.surfaces.family (kept_of v.owned.shell) r.owned two.owns number child below parent above slots tied two.child_named two.parent_named none makes,
    linked-subsurfaces v.subsurfaces left names.surfaces r.subsurfaces id number child below two.child_named two.owns.surfaces.once (nobody (slice_index_or v.subsurfaces below None) free) new set
        two.subsurfaces,
  )
    where
      nobody : (o : Option ℕ) → is_some o ≡ false → o ≡ None
      nobody None e = refl
      nobody (Some n) e = absurd (cc)
