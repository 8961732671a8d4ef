-- The windows of a tree of surfaces under other names.
use Rattle.std.proofs.Common.{◌≡◌, ℕ, zero, suc, ◌==◌, Bool, true, false, Option, Some, None, List, [], ◌∷◌, ◌++◌, map, flat_map, refl, ap, ap₂, sym, ◌∙◌}
use Rattle.std.specs.Prelude.{◌+ℤ◌, if◌then◌else◌}
use Rattle.std.specs.Option.{option_map}
use Rattle.std.proofs.lemmas.List.{map-append}
use Rattle.std.proofs.lemmas.List.Elements.{recursion_from_All}
use Rattle.wl_surface.specs.Request.{Buffer, Child, Itself, Member}
use Rattle.wl_surface.specs.State.{History, Values, applied, counting, order, position}
use Rattle.wl_surface.specs.Surface.{Surface}
use Rattle.wl_surface.specs.Surfaces.{Link, Surfaces, history_in, link_at, surface_at}
use Rattle.spec_desktop.specs.Windows.{Owner, Place, Window, child_windows, corner_at, member_windows, shown_windows, surface_windows, tree, window_showing, window_with}
use Rattle.wl_scene.specs.TreeWindows.{told_of}
use Rattle.law_desktop.specs.Renaming.{HasEnds, IsRenaming, has_surface, renamed, renamed_link, renamed_surface}
use Rattle.law_desktop.proofs.ByNames.Names.Known.{known-there}
use Rattle.law_desktop.proofs.ByNames.Names.Lists.{each-weaker, find-mapped, found}
use Rattle.law_desktop.proofs.ByNames.Names.Reading.{link-renamed}
use Rattle.law_windows.specs.RenamedWindows.{IsNamedAlone, TellsTreesByName, TreesHeedNoNames, renamed_owner, renamed_window, told_by}
use Rattle.law_windows.proofs.RenamedWindows.Names.{same-name}

-- ---- histories

history-alone : (f : ℕ → ℕ) (all : Surfaces) → IsRenaming f all → (id : ℕ) → IsNamedAlone f all id → history_in (f id) (renamed f all) ≡ history_in id all
history-alone f all is id alone =
    ap (option_map (λ (s : Surface). s.history))
    (find-mapped (λ (s : Surface). s.id == id) (λ (s : Surface). s.id == f id) (renamed_surface f) all.surfaces
    (each-weaker (λ (s : Surface). has_surface s.id all ≡ true) (λ (s : Surface). (f s.id == f id) ≡ (s.id == id))
    (λ s here. same-name f s.id id (alone s.id here)) all.surfaces (known-there f all is).named))
    ∙ at (surface_at id all)
  where
    at : (o : Option Surface) → option_map (λ (s : Surface). s.history) (option_map (renamed_surface f) o) ≡ option_map (λ (s : Surface). s.history) o
    at None = refl
    at (Some s) = refl

-- ---- windows

flat-mapped : {X Y : Type 0} (h : Y → Y) (g k : X → List Y) → ((x : X) → k x ≡ map h (g x)) → (xs : List X) → flat_map k xs ≡ map h (flat_map g xs)
flat-mapped h g k same [] = refl
flat-mapped {Y = Y} h g k same (x ∷ xs) =
    ap₂ (λ (ys zs : List Y). ys ++ zs) (same x) (flat-mapped h g k same xs) ∙ sym (map-append h (g x) (flat_map g xs))

-- A change of windows makes of the window of a surface that of the surface under its other name, with another owner.
module _ (f : ℕ → ℕ) (all : Surfaces) (is : IsRenaming f all) (owner other : Owner) (h : Window → Window)
    (shows : (surface : ℕ) (corner : Place) (v : Values) (b : Buffer) → window_showing other (f surface) corner v b ≡ h (window_showing owner surface corner v b))
  where
    own-mapped : (surface : ℕ) (corner : Place) (v : Values) (o : Option Buffer) → window_with other (f surface) corner v o ≡ map h (window_with owner surface corner v o)
    own-mapped surface corner v None = refl
    own-mapped surface corner v (Some b) = ap (λ w. w ∷ []) (shows surface corner v b)

    -- trees of children that are there change so
    abbrev AreMapped : (ℕ → Place → List Window) → (ℕ → Place → List Window) → Type 0
    AreMapped next after = (child : ℕ) → has_surface child all ≡ true → (at : Place) → after (f child) at ≡ map h (next child at)

    child-mapped : (next after : ℕ → Place → List Window) → AreMapped next after → (parent : History) (corner : Place) (l : ℕ) (o : Option Link)
        → ((link : Link) → o ≡ Some link → HasEnds all link)
        → child_windows after parent corner l (option_map (renamed_link f) o) ≡ map h (child_windows next parent corner l o)
    child-mapped next after mapped parent corner l None ends = refl
    child-mapped next after mapped parent corner l (Some link) ends = by link.has_ended (ends link refl)
      where
        there : Place
        there = record { x = corner.x +ℤ (position l (counting parent)).0; y = corner.y +ℤ (position l (counting parent)).1 }

        by : (b : Bool) → (b ≡ false → (has_surface link.child all ≡ true) × (has_surface link.parent all ≡ true))
            → (if b then [] else after (f link.child) there) ≡ map h (if b then [] else next link.child there)
        by true lives = refl
        by false lives = mapped link.child (lives refl).0 there

    member-mapped : (next after : ℕ → Place → List Window) → AreMapped next after → (surface : ℕ) (hist : History) (corner : Place) (m : Member)
        → member_windows after other (renamed f all) (f surface) hist corner m ≡ map h (member_windows next owner all surface hist corner m)
    member-mapped next after mapped surface hist corner Itself = own-mapped surface corner (applied hist) (applied hist).buffer
    member-mapped next after mapped surface hist corner (Child l) =
        ap (child_windows after hist corner l) (link-renamed f all l)
        ∙ child-mapped next after mapped hist corner l (link_at l all)
        (λ link e. (found (λ (k : Link). k.number == l) (HasEnds all) all.links (recursion_from_All (HasEnds all) all.links is.ends) link e).0)

    surface-mapped : (next after : ℕ → Place → List Window) → AreMapped next after → (surface : ℕ) (place : Place) (o : Option History)
        → surface_windows after other (renamed f all) (f surface) place o ≡ map h (surface_windows next owner all surface place o)
    surface-mapped next after mapped surface place None = refl
    surface-mapped next after mapped surface place (Some hist) = by (applied hist).buffer
      where
        by : (buffer : Option Buffer) → shown_windows after other (renamed f all) (f surface) hist (corner_at place hist) buffer
            ≡ map h (shown_windows next owner all surface hist (corner_at place hist) buffer)
        by None = refl
        by (Some buffer) =
            flat-mapped h (member_windows next owner all surface hist (corner_at place hist))
            (member_windows after other (renamed f all) (f surface) hist (corner_at place hist))
            (member-mapped next after mapped surface hist (corner_at place hist)) (order (counting hist))

    tree-mapped : (levels surface : ℕ) → IsNamedAlone f all surface → (place : Place)
        → tree levels other (renamed f all) (f surface) place ≡ map h (tree levels owner all surface place)
    unfolding tree
    tree-mapped zero surface alone place = refl
    tree-mapped (suc levels) surface alone place =
        ap (surface_windows (λ child at. tree levels other (renamed f all) child at) other (renamed f all) (f surface) place) (history-alone f all is surface alone)
        ∙ surface-mapped (λ child at. tree levels owner all child at) (λ child at. tree levels other (renamed f all) child at)
        (λ child there at. tree-mapped levels child (λ a here same. is.apart a child here there same) at) surface place (history_in surface all)

pub trees-heed-no-names : TreesHeedNoNames
trees-heed-no-names f all is owner surface alone levels place =
    tree-mapped f all is owner (renamed_owner f owner) (renamed_window f) (λ surface corner v b. refl) levels surface alone place

-- ---- what is told

module _ (f : ℕ → ℕ) (other : Owner) where
  abbrev given : Window → Window
  given w = record w { owner = record other { root = f w.owner.root }; surface = f w.surface }

  told-given : (ws : List Window) → map told_of (map given ws) ≡ map (told_by f) ws
  told-given [] = refl
  told-given (w ∷ ws) = ap (λ ts. told_by f w ∷ ts) (told-given ws)

pub tells-trees-by-name : TellsTreesByName
tells-trees-by-name f all is owner other surface alone same levels place =
    ap (map told_of)
    (tree-mapped f all is owner other (given f other) (λ surface corner v b. ap (λ (n : ℕ). window_showing (record other { root = n }) (f surface) corner v b) same)
    levels surface alone place)
    ∙ told-given f other (tree levels owner all surface place)
