-- What is kept of a client goes on standing for it, where its surfaces are linked, placed, and parted (wayland.xml, wl_subcompositor and
-- wl_subsurface).
use Rattle.std.proofs.Common.{◌≡◌, ℕ, ℤ, Bool, true, false, cond, Option, Some, None, refl, ap, sym, subst, ◌∙◌}
use Rattle.std.specs.Prelude.{◌==◌, is_some}
use Rattle.std.specs.Option.{option_map}
use Rattle.std.proofs.Math.Path.{fun_ext}
use Rattle.std.proofs.lemmas.Bool.{eqb-true}
use Rattle.wl_geom.specs.declared.rect.Rect.{Rect}
use Rattle.wl_links.specs.declared.placed.Side.{Side}
use Rattle.wl_links.specs.declared.placed.Side.TheVariants.{Above, Below}
use Rattle.wl_links.specs.Family.{Tied, member_of}
use Rattle.wl_surface.specs.Request.{AddChild, Member, Request, SetPosition}
use Rattle.wl_surface.specs.State.{History, geometry_asked}
use Rattle.wl_surface.specs.Surface.{Surface, asking, with_role}
use Rattle.wl_surface.specs.declared.role.Role.TheVariants.{Subsurface}
use Rattle.wl_surface.specs.Slots.{Slots}
use Rattle.wl_surface.specs.Surfaces.{Link, Surfaces, history_in, link_at, with_change}
use Rattle.wl_surface.specs.Trees.{desynchronised_in, ended_in, linked, synchronised_in, unlinked}
use Rattle.wl_surface.specs.Hanging.{AreNumbered, kids_of}
use Rattle.wl_surface.specs.TreeLaws.{AreOnceLinked}
use Rattle.wl_surface.specs.Stacks.{IsKept, place_request}
use Rattle.wl_surface.proofs.Hanging.{history-changed}
use Rattle.law_desktop.proofs.TreeSteps.Ends.{end-keeps-others}
use Rattle.law_desktop.proofs.TreeSteps.Modes.{mode-keeps-others}
use Rattle.wl_surface.specs.Linked.{IsLink, Stand}
use Rattle.law_desktop.specs.Renaming.{has_surface}
use Rattle.law_desktop.specs.Named.{MakesBy, StandBy}
use Rattle.law_desktop.proofs.ByNames.Linking.{desynchronises-named, moves-named, places-named, synchronises-named, unlinks-named}
use Rattle.law_desktop.proofs.ByNames.Named.{links-named}
use Rattle.wl_shell.specs.Agreement.{with_history}
use Rattle.wl_shell.specs.Kept.{Kept}
use Rattle.wl_shell.specs.Laws.{one_more}
use Rattle.wl_shell.specs.Shell.{xdg_of}
use Rattle.wl_shell.proofs.Standing.{changes_stand}
use Rattle.spec_desktop.specs.Stacking.{Owned}
use Rattle.law_desktop.specs.Soundness.{IsNoChild}
use Rattle.law_desktop.specs.Owning.{AreKept, IsOwned, Names, number_in}
use Rattle.law_desktop.proofs.Keeping.Ids.{ids-changed, ids-desynchronised, ids-linked, ids-unlinked}
use Rattle.law_desktop.proofs.Keeping.OwningChanges.{AgreeFor, IsOwned-history, agree-same, renumbered}
use Rattle.law_desktop.proofs.Keeping.OwningSurfaces.{AreKept-then, surface-named}
use Rattle.law_desktop.proofs.Keeping.OwningTies.{number-of-name, stand-by}
use Rattle.law_desktop.proofs.Keeping.Roots.{agree-linked}

-- the history of one surface has a request more
same-else : (b : Bool) (o : Option History) → option_map (λ h. cond b h h) o ≡ o
same-else b None = refl
same-else true (Some h) = refl
same-else false (Some h) = refl

module _ (names : Names) (slots : Slots) (tied : Tied) (kept : ℕ → Option Kept) (o : Owned) (is : IsOwned names slots tied kept o) where
  -- a surface that has a number is there
  pub there-by : (id number : ℕ) → names.surfaces id ≡ Some number → has_surface id o.surfaces ≡ true
  there-by id number named = sym (is.surfaces.numbered id) ∙ ap is_some named

  -- by the numbers themselves
  by-numbers : StandBy (number_in names.surfaces) slots tied o.surfaces
  by-numbers = stand-by names.surfaces slots tied o.surfaces is.surfaces

  history-of : (id number : ℕ) → names.surfaces id ≡ Some number → (h : History) × (history_in id o.surfaces ≡ Some h)
  history-of id number named =
      let one = surface-named names.surfaces slots tied o.surfaces is.surfaces id number named in
      (one.0.history, ap (option_map (λ (s : Surface). s.history)) one.1)

  -- where no surface with an xdg_surface changes, and none comes or goes
  stays-owned : (new : Slots) (after : Tied) (all : Surfaces) → AreKept names.surfaces new after all → AgreeFor o.shell (λ other. history_in other o.surfaces) (λ other. history_in other all)
      → IsOwned names new after kept (record o { surfaces = all })
  stays-owned new after all are histories =
      renumbered names slots tied kept o is names.surfaces new after all are histories refl (λ x some found. refl) is.known

  -- one more request of a surface that is no window geometry, with whatever else
  more-owned : (id number : ℕ) (request : Request) (new : Slots) (after : Tied) (all : Surfaces) → names.surfaces id ≡ Some number → ((asked : Option Rect) → geometry_asked asked request ≡ asked)
      → AreKept names.surfaces new after all
      → ((other : ℕ) → history_in other all ≡ option_map (λ h. cond (other == id) (one_more request h) h) (history_in other o.surfaces))
      → IsOwned names new after kept (record o { surfaces = all })
  more-owned id number request new after all named plain are histories =
      let one = history-of id number named in
      IsOwned-history names slots tied kept o is id one.0 (one_more request one.0) new after all are one.1
      (agree-same o.shell (with_history id (Some (one_more request one.0)) (λ other. history_in other o.surfaces)) (λ other. history_in other all)
      (fun_ext (λ other. histories other ∙ at other (other == id) refl one.0 one.1)))
      (λ k x stands. changes_stand.other request k x one.0 plain stands)
    where
      at : (other : ℕ) (b : Bool) → (other == id) ≡ b → (h : History) → history_in id o.surfaces ≡ Some h
          → option_map (λ h. cond b (one_more request h) h) (history_in other o.surfaces) ≡ cond b (Some (one_more request h)) (history_in other o.surfaces)
      at other true here h found =
          ap (option_map (one_more request)) (ap (λ i. history_in i o.surfaces) (eqb-true other id here) ∙ found)
      at other false here h found = same-else false (history_in other o.surfaces)

  -- ---- a link

  -- wl_subcompositor.get_subsurface
  pub owned-linked : (number child below parent above : ℕ) (new : Slots) (after : Tied) → names.surfaces child ≡ Some below → names.surfaces parent ≡ Some above → link_at number o.surfaces ≡ None
      → ((those : Surfaces) (number : ℕ) → Stand slots tied those → link_at number those ≡ None → has_surface below those ≡ true → has_surface above those ≡ true
      → Stand new after (linked number below above those))
      → IsOwned names new after kept (record o { surfaces = linked number child parent o.surfaces })
  owned-linked number child below parent above new after first second none makes =
      more-owned parent above (AddChild number) new after (linked number child parent o.surfaces) second (λ asked. refl)
      (AreKept-then names.surfaces slots tied o.surfaces is.surfaces new after (linked number child parent o.surfaces) (ids-linked number child parent o.surfaces)
      (links-named (number_in names.surfaces) slots new tied after o.surfaces number child parent (there-by child below first) (there-by parent above second) none by-numbers
      (subst (λ m. (those : Surfaces) (number : ℕ) → Stand slots tied those → link_at number those ≡ None → has_surface m those ≡ true
      → has_surface (number_in names.surfaces parent) those ≡ true → Stand new after (linked number m (number_in names.surfaces parent) those)) (sym (number-of-name names.surfaces child below first))
      (subst (λ n. (those : Surfaces) (number : ℕ) → Stand slots tied those → link_at number those ≡ None → has_surface below those ≡ true → has_surface n those ≡ true
      → Stand new after (linked number below n those)) (sym (number-of-name names.surfaces parent above second)) makes))))
      (λ other. history-changed other parent (asking (AddChild number)) (one_more (AddChild number)) (with_change child (with_role Subsurface) more) (λ s. refl) (λ s. refl)
      ∙ ap (option_map (λ h. cond (other == parent) (one_more (AddChild number) h) h))
      (history-changed other child (with_role Subsurface) (λ h. h) more (λ s. refl) (λ s. refl) ∙ same-else (other == child) (history_in other o.surfaces)))
    where
      more : Surfaces
      more = record o.surfaces { links = (linked number child parent o.surfaces).links }

  -- ---- of a link that lives, by the number of its child

  module _ (number below : ℕ) (link : Link) (here : link_at number o.surfaces ≡ Some link) (lives : link.has_ended ≡ false) (child : names.surfaces link.child ≡ Some below)
      (new : Slots) (after : Tied) where
    named : number_in names.surfaces link.child ≡ below
    named = number-of-name names.surfaces link.child below child

    renamed-by : (change : ℕ → Link → Surfaces → Surfaces) → MakesBy below slots tied new after change → MakesBy (number_in names.surfaces link.child) slots tied new after change
    renamed-by change makes = subst (λ n. MakesBy n slots tied new after change) (sym named) makes

    asked-parent : (above : ℕ) (request : Request) → names.surfaces link.parent ≡ Some above → ((asked : Option Rect) → geometry_asked asked request ≡ asked)
        → StandBy (number_in names.surfaces) new after (with_change link.parent (asking request) o.surfaces)
        → IsOwned names new after kept (record o { surfaces = with_change link.parent (asking request) o.surfaces })
    asked-parent above request parent plain by =
        more-owned link.parent above request new after (with_change link.parent (asking request) o.surfaces) parent plain
        (AreKept-then names.surfaces slots tied o.surfaces is.surfaces new after (with_change link.parent (asking request) o.surfaces)
        (ids-changed link.parent (asking request) (λ s. refl) o.surfaces) by)
        (λ other. history-changed other link.parent (asking request) (one_more request) o.surfaces (λ s. refl) (λ s. refl))

    -- wl_subsurface.set_position
    pub owned-moved : (above : ℕ) (x y : ℤ) → names.surfaces link.parent ≡ Some above
        → MakesBy below slots tied new after (λ number link. with_change link.parent (asking (SetPosition number x y)))
        → IsOwned names new after kept (record o { surfaces = with_change link.parent (asking (SetPosition number x y)) o.surfaces })
    owned-moved above x y parent makes =
        asked-parent above (SetPosition number x y) parent (λ asked. refl)
        (moves-named (number_in names.surfaces) slots new tied after o.surfaces number link x y here lives by-numbers
        (renamed-by (λ number link. with_change link.parent (asking (SetPosition number x y))) makes))

    -- wl_subsurface.place_above and place_below
    abbrev PlacesSo : (ℕ → Member → Request) → ℕ → ℕ → Type 0
    PlacesSo request child sibling =
        (those : Surfaces) (number : ℕ) (l : Link) (at : Member) → IsLink those number child l → IsKept (kids_of those) at (member_of l.parent sibling) → Stand slots tied those
        → Stand new after (with_change l.parent (asking (request number at)) those)

    places-so : (request : ℕ → Member → Request) (sibling beside : ℕ) → names.surfaces sibling ≡ Some beside → PlacesSo request below beside
        → PlacesSo request (number_in names.surfaces link.child) (number_in names.surfaces sibling)
    places-so request sibling beside other makes =
        subst (λ m. PlacesSo request m (number_in names.surfaces sibling)) (sym named)
        (subst (λ n. PlacesSo request below n) (sym (number-of-name names.surfaces sibling beside other)) makes)

    pub owned-placed : (side : Side) (above sibling beside : ℕ) (at : Member) → names.surfaces link.parent ≡ Some above → names.surfaces sibling ≡ Some beside
        → IsKept (kids_of o.surfaces) at (member_of link.parent sibling) → PlacesSo (place_request side) below beside
        → IsOwned names new after kept (record o { surfaces = with_change link.parent (asking (place_request side number at)) o.surfaces })
    owned-placed side above sibling beside at parent other kept_at makes =
        asked-parent above (place_request side number at) parent (no-geometry side)
        (places-named side (number_in names.surfaces) slots new tied after o.surfaces number sibling link at here lives (there-by sibling beside other) kept_at by-numbers
        (places-so (place_request side) sibling beside other makes))
      where
        no-geometry : (side : Side) (asked : Option Rect) → geometry_asked asked (place_request side number at) ≡ asked
        no-geometry Above asked = refl
        no-geometry Below asked = refl

    -- wl_subsurface.set_sync
    pub owned-synchronised : MakesBy below slots tied new after (λ number link. synchronised_in number)
        → IsOwned names new after kept (record o { surfaces = synchronised_in number o.surfaces })
    owned-synchronised makes =
        stays-owned new after (synchronised_in number o.surfaces)
        (AreKept-then names.surfaces slots tied o.surfaces is.surfaces new after (synchronised_in number o.surfaces) refl
        (synchronises-named (number_in names.surfaces) slots new tied after o.surfaces number link here lives by-numbers (renamed-by (λ number link. synchronised_in number) makes)))
        (λ surface has. refl)

    module _ (once : AreOnceLinked o.surfaces.links) (apart : AreNumbered o.surfaces.links) (roots : (surface : ℕ) → is_some (xdg_of surface o.shell) ≡ true → IsNoChild surface o.surfaces) where
      -- wl_subsurface.set_desync
      pub owned-desynchronised : MakesBy below slots tied new after (λ number link. desynchronised_in number)
          → IsOwned names new after kept (record o { surfaces = desynchronised_in number o.surfaces })
      owned-desynchronised makes =
          stays-owned new after (desynchronised_in number o.surfaces)
          (AreKept-then names.surfaces slots tied o.surfaces is.surfaces new after (desynchronised_in number o.surfaces) (ids-desynchronised number o.surfaces)
          (desynchronises-named (number_in names.surfaces) slots new tied after o.surfaces number link here lives by-numbers (renamed-by (λ number link. desynchronised_in number) makes)))
          (agree-linked o.surfaces o.shell once apart roots number link (desynchronised_in number o.surfaces) (record { here = here; lives = lives })
          (mode-keeps-others o.surfaces once number link here))

      -- wl_subsurface.destroy
      pub owned-parted : MakesBy below slots tied new after (λ number link those. ended_in those link)
          → IsOwned names new after kept (record o { surfaces = unlinked number o.surfaces })
      owned-parted makes =
          let ends = unlinks-named (number_in names.surfaces) slots new tied after o.surfaces number link here lives by-numbers
          (renamed-by (λ number link those. ended_in those link) makes) in
          stays-owned new after (unlinked number o.surfaces)
          (AreKept-then names.surfaces slots tied o.surfaces is.surfaces new after (unlinked number o.surfaces) (ids-unlinked (Some number) o.surfaces)
          (subst (λ (x : Surfaces). StandBy (number_in names.surfaces) new after x) (sym ends.1) ends.0))
          (agree-linked o.surfaces o.shell once apart roots number link (unlinked number o.surfaces) (record { here = here; lives = lives })
          (end-keeps-others o.surfaces once apart number link here).0)
