-- Whose the windows of a tree of surfaces are.
use Rattle.std.proofs.Common.{◌≡◌, ℕ, zero, suc, ◌==◌, ◌||◌, Bool, true, false, Option, Some, None, List, [], ◌∷◌, flat_map, is_some, refl, subst, eqb-true}
use Rattle.std.specs.Prelude.{◌+ℤ◌, if◌then◌else◌}
use Rattle.std.specs.List.{AllByRecursion as Each}
use Rattle.std.specs.Option.{option_map}
use Rattle.wl_surface.specs.Request.{Buffer, Child, Itself, Member}
use Rattle.wl_surface.specs.State.{History, Values, applied, counting, order, position}
use Rattle.wl_surface.specs.Surface.{Surface}
use Rattle.wl_surface.specs.Surfaces.{Link, Surfaces, history_in, link_at, surface_at}
use Rattle.spec_desktop.specs.Windows.{Owner, Place, Window, child_windows, corner_at, member_windows, shown_windows, surface_windows, tree, window_with}
use Rattle.law_desktop.specs.Renaming.{has_surface}
use Rattle.law_desktop.proofs.ByNames.Names.Lists.{each-append}
use Rattle.law_windows.specs.RenamedWindows.{ShowsThoseThere, has_window}

flat-each : {X Y : Type 0} (P : Y → Type 0) (g : X → List Y) → ((x : X) → Each P (g x)) → (xs : List X) → Each P (flat_map g xs)
flat-each P g each [] = tt
flat-each P g each (x ∷ xs) = each-append P (g x) (flat_map g xs) (each x) (flat-each P g each xs)

module _ (all : Surfaces) (owner : Owner) where
  -- the window's surface is there
  abbrev IsThere : Window → Type 0
  IsThere w = has_surface w.surface all ≡ true

  own-there : (surface : ℕ) (corner : Place) (v : Values) (o : Option Buffer) → has_surface surface all ≡ true → Each IsThere (window_with owner surface corner v o)
  own-there surface corner v None there = tt
  own-there surface corner v (Some b) there = (there, tt)

  child-there : (next : ℕ → Place → List Window) → ((child : ℕ) (at : Place) → Each IsThere (next child at)) → (parent : History) (corner : Place) (l : ℕ) (o : Option Link)
      → Each IsThere (child_windows next parent corner l o)
  child-there next each parent corner l None = tt
  child-there next each parent corner l (Some link) = by link.has_ended
    where
      place : Place
      place = record { x = corner.x +ℤ (position l (counting parent)).0; y = corner.y +ℤ (position l (counting parent)).1 }

      by : (b : Bool) → Each IsThere (if b then [] else next link.child place)
      by true = tt
      by false = each link.child place

  member-there : (next : ℕ → Place → List Window) → ((child : ℕ) (at : Place) → Each IsThere (next child at)) → (surface : ℕ) (hist : History) (corner : Place)
      → has_surface surface all ≡ true → (m : Member) → Each IsThere (member_windows next owner all surface hist corner m)
  member-there next each surface hist corner there Itself = own-there surface corner (applied hist) (applied hist).buffer there
  member-there next each surface hist corner there (Child l) = child-there next each hist corner l (link_at l all)

  -- a surface with a history is there
  history-there : (o : Option Surface) (hist : History) → option_map (λ (s : Surface). s.history) o ≡ Some hist → is_some o ≡ true
  history-there None hist e = absurd (cc)
  history-there (Some s) hist e = refl

  surface-there : (next : ℕ → Place → List Window) → ((child : ℕ) (at : Place) → Each IsThere (next child at)) → (surface : ℕ) (place : Place) (o : Option History)
      → history_in surface all ≡ o → Each IsThere (surface_windows next owner all surface place o)
  surface-there next each surface place None e = tt
  surface-there next each surface place (Some hist) e = by (applied hist).buffer
    where
      by : (buffer : Option Buffer) → Each IsThere (shown_windows next owner all surface hist (corner_at place hist) buffer)
      by None = tt
      by (Some buffer) =
          flat-each IsThere (member_windows next owner all surface hist (corner_at place hist))
          (member-there next each surface hist (corner_at place hist) (history-there (surface_at surface all) hist e)) (order (counting hist))

  tree-there : (levels surface : ℕ) (place : Place) → Each IsThere (tree levels owner all surface place)
  unfolding tree
  tree-there zero surface place = tt
  tree-there (suc levels) surface place =
      surface-there (λ child at. tree levels owner all child at) (λ child at. tree-there levels child at) surface place (history_in surface all) refl

  any-there : (id : ℕ) (ws : List Window) → Each IsThere ws → has_window id ws ≡ true → has_surface id all ≡ true
  any-there id [] each e = absurd (cc)
  any-there id (w ∷ ws) each e = at (w.surface == id) refl (any-there id ws each.1) e
    where
      at : (b : Bool) → (w.surface == id) ≡ b → (has_window id ws ≡ true → has_surface id all ≡ true) → (b || has_window id ws) ≡ true → has_surface id all ≡ true
      at true same later e = subst (λ (a : ℕ). has_surface a all ≡ true) (eqb-true w.surface id same) each.0
      at false same later e = later e

pub shows-those-there : ShowsThoseThere
shows-those-there all levels owner surface place id e = any-there all owner id (tree levels owner all surface place) (tree-there all owner levels surface place) e
