-- A worked example, computed on the definitions: two trees of a client, and requests of one of them.
use Rattle.std.proofs.Common.{◌≡◌, ℕ, List, [], ◌∷◌, Bool, true, false, None, Some, refl, map}
use Rattle.std.specs.Prelude.{pos}
use Rattle.wl_store.specs.declared.color.Format.TheVariants.{Xrgb8888}
use Rattle.wl_surface.specs.Request.{AddChild, Attach, Buffer, Commit, Request}
use Rattle.wl_surface.specs.Surface.{Surface}
use Rattle.wl_surface.specs.Surfaces.{Surfaces}
use Rattle.wl_surface.specs.Trees.{applied_tree, behaves_synchronised, committed_in, descends_from, desynchronised_in, destroyed_in, levels, unlinked}
use Rattle.spec_desktop.specs.Stacking.{Owned, Standing, windows_on}
use Rattle.spec_desktop.specs.Windows.{Window, tree}

abbrev buffer : ℕ → Buffer
buffer number = record { number = number; object = number; store = 1; offset = 0; width = 4; height = 4; stride = 16; format = Xrgb8888 }

-- a surface of which this was asked, so much of which counts
abbrev surface : ℕ → List Request → ℕ → Surface
surface id requests cut = record { id = id; history = record { requests = requests; cut = cut }; role = None }

-- Surface 1 has the child 2, by a link of this mode, and surface 3 has none. Of the child another buffer is held.
abbrev two_trees : Bool → Surfaces
two_trees synchronised =
    record {
      surfaces =
          surface 1 (AddChild 5 ∷ Attach (Some (buffer 10)) (pos 0) (pos 0) ∷ Commit ∷ []) 3
          ∷ surface 2 (Attach (Some (buffer 20)) (pos 0) (pos 0) ∷ Commit ∷ Attach (Some (buffer 21)) (pos 0) (pos 0) ∷ Commit ∷ []) 2
          ∷ surface 3 (Attach (Some (buffer 30)) (pos 0) (pos 0) ∷ Commit ∷ []) 2 ∷ [];
      links = record { number = 5; child = 2; parent = 1; synchronised = synchronised; has_ended = false } ∷ [];
    }

abbrev standing : ℕ → Standing
standing surface = record { client = 1; surface = surface; place = record { x = pos 0; y = pos 0 } }

abbrev shown : Surfaces → ℕ → List ℕ
shown all root =
    map (λ (w : Window). w.buffer.number)
    (tree 17 (record { client = 1; root = root; toplevel = root }) all root (record { x = pos 0; y = pos 0 }))

-- surface 2 is in the tree of 1 alone
row-descends : map (λ root. descends_from levels (two_trees true) root 2) (1 ∷ 2 ∷ 3 ∷ []) ≡ true ∷ true ∷ false ∷ []
unfolding descends_from
row-descends = refl

row-shown : map (shown (two_trees true)) (1 ∷ 3 ∷ []) ≡ (10 ∷ 20 ∷ []) ∷ (30 ∷ []) ∷ []
unfolding tree
row-shown = refl

-- a commit of the child: synchronised it changes nothing, desynchronised the tree of its root
row-held : map (shown (committed_in 2 (two_trees true))) (1 ∷ 3 ∷ []) ≡ (10 ∷ 20 ∷ []) ∷ (30 ∷ []) ∷ []
unfolding applied_tree behaves_synchronised tree
row-held = refl

row-committed : map (shown (committed_in 2 (two_trees false))) (1 ∷ 3 ∷ []) ≡ (10 ∷ 21 ∷ []) ∷ (30 ∷ []) ∷ []
unfolding applied_tree behaves_synchronised tree
row-committed = refl

-- set_desync: what was held is shown
row-desynchronised : map (shown (desynchronised_in 5 (two_trees true))) (1 ∷ 3 ∷ []) ≡ (10 ∷ 21 ∷ []) ∷ (30 ∷ []) ∷ []
unfolding applied_tree behaves_synchronised tree
row-desynchronised = refl

-- the end of the link, and of the child: it is shown no more
row-unlinked : map (shown (unlinked 5 (two_trees true))) (1 ∷ 2 ∷ 3 ∷ []) ≡ (10 ∷ []) ∷ (21 ∷ []) ∷ (30 ∷ []) ∷ []
unfolding applied_tree tree
row-unlinked = refl

row-destroyed : map (shown (destroyed_in 2 (two_trees true))) (1 ∷ 3 ∷ []) ≡ (10 ∷ []) ∷ (30 ∷ []) ∷ []
unfolding applied_tree tree
row-destroyed = refl

-- the end of the root: its tree is gone, and the other stays
row-root-destroyed : map (shown (destroyed_in 1 (two_trees true))) (1 ∷ 3 ∷ []) ≡ [] ∷ (30 ∷ []) ∷ []
unfolding applied_tree tree
row-root-destroyed = refl

-- Of two toplevels that stand, the one that the child is in shows it, above the other or below it.
abbrev owned : Surfaces → ℕ → Owned
owned all client = record { surfaces = all; shell = [] }

row-standing : map (λ (w : Window). w.buffer.number) (windows_on (owned (committed_in 2 (two_trees false))) (standing 3 ∷ standing 1 ∷ [])) ≡ 30 ∷ 10 ∷ 21 ∷ []
unfolding applied_tree behaves_synchronised tree
row-standing = refl
