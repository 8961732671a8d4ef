-- The windows of a tree that is placed elsewhere.
use Rattle.std.proofs.Common.{◌≡◌, ℕ, zero, suc, Bool, true, false, Option, Some, None, List, [], ◌∷◌, ◌++◌, cond, flat_map, length, refl, ap}
use Rattle.wl_surface.specs.Request.{Buffer, Child, Itself, Member}
use Rattle.wl_surface.specs.State.{History, Values, applied, counting, order}
use Rattle.wl_surface.specs.Surfaces.{Link, Surfaces, history_in, link_at}
use Rattle.spec_desktop.specs.Windows.{Owner, Place, Window, child_windows, corner_at, member_windows}
use Rattle.spec_desktop.specs.Windows.{shown_windows, surface_windows, tree, window_with}
use Rattle.wl_scene.specs.Moved.{AreMoved, MovedTreesAreAsLong, TreesAreMoved}

moved-append : (us vs ws xs : List Window) → AreMoved us vs → AreMoved ws xs → AreMoved (us ++ ws) (vs ++ xs)
moved-append [] [] ws xs first others = others
moved-append [] (v ∷ vs) ws xs first others = absurd first
moved-append (u ∷ us) [] ws xs first others = absurd first
moved-append (u ∷ us) (v ∷ vs) ws xs first others = (first.0, moved-append us vs ws xs first.1 others)

moved-flat : {X : Type 0} (f g : X → List Window) → ((x : X) → AreMoved (f x) (g x)) → (xs : List X) → AreMoved (flat_map f xs) (flat_map g xs)
moved-flat f g each [] = tt
moved-flat f g each (x ∷ xs) = moved-append (f x) (g x) (flat_map f xs) (flat_map g xs) (each x) (moved-flat f g each xs)

moved-unless : (b : Bool) (ws vs : List Window) → AreMoved ws vs → AreMoved (cond b [] ws) (cond b [] vs)
moved-unless true ws vs are = tt
moved-unless false ws vs are = are

own-moved : (owner : Owner) (surface : ℕ) (p q : Place) (v : Values) (buffer : Option Buffer) → AreMoved (window_with owner surface p v buffer) (window_with owner surface q v buffer)
own-moved owner surface p q v None = tt
own-moved owner surface p q v (Some buffer) = (refl, tt)

module _ (next : ℕ → Place → List Window) (owner : Owner) (each : (child : ℕ) (p q : Place) → AreMoved (next child p) (next child q)) (all : Surfaces) where
  child-moved : (h : History) (p q : Place) (l : ℕ) (o : Option Link) → AreMoved (child_windows next h p l o) (child_windows next h q l o)
  child-moved h p q l None = tt
  child-moved h p q l (Some link) = moved-unless link.has_ended _ _ (each link.child _ _)

  member-moved : (surface : ℕ) (h : History) (p q : Place) (m : Member) → AreMoved (member_windows next owner all surface h p m) (member_windows next owner all surface h q m)
  member-moved surface h p q Itself = own-moved owner surface p q (applied h) (applied h).buffer
  member-moved surface h p q (Child l) = child-moved h p q l (link_at l all)

  shown-moved : (surface : ℕ) (h : History) (p q : Place) (buffer : Option Buffer)
      → AreMoved (shown_windows next owner all surface h p buffer) (shown_windows next owner all surface h q buffer)
  shown-moved surface h p q None = tt
  shown-moved surface h p q (Some buffer) =
      moved-flat (member_windows next owner all surface h p) (member_windows next owner all surface h q) (member-moved surface h p q) (order (counting h))

  surface-moved : (surface : ℕ) (p q : Place) (o : Option History) → AreMoved (surface_windows next owner all surface p o) (surface_windows next owner all surface q o)
  surface-moved surface p q None = tt
  surface-moved surface p q (Some h) = shown-moved surface h (corner_at p h) (corner_at q h) (applied h).buffer

pub trees-are-moved : TreesAreMoved
unfolding tree
trees-are-moved zero owner all surface p q = tt
trees-are-moved (suc n) owner all surface p q =
    surface-moved (λ child at. tree n owner all child at) owner (λ child at to. trees-are-moved n owner all child at to) all surface p q (history_in surface all)

moved-as-long : (vs ws : List Window) → AreMoved vs ws → length vs ≡ length ws
moved-as-long [] [] are = refl
moved-as-long [] (w ∷ ws) are = absurd are
moved-as-long (v ∷ vs) [] are = absurd are
moved-as-long (v ∷ vs) (w ∷ ws) are = ap suc (moved-as-long vs ws are.1)

pub moved-trees-are-as-long : MovedTreesAreAsLong
moved-trees-are-as-long levels owner all surface p q =
    moved-as-long (tree levels owner all surface p) (tree levels owner all surface q) (trees-are-moved levels owner all surface p q)
