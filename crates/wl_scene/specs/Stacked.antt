-- The windows of the output from bottom to top, and what becomes of those that are stacked with one toplevel: its tree, and the trees of its
-- popups (xdg-shell.xml, xdg_surface and xdg_popup; wayland.xml, wl_subsurface).
use Rattle.std.specs.Prelude.{ℕ, suc, ◌-◌, ◌≡◌, ◌==◌, ◌&&◌, not, if◌then◌else◌, List, [], ◌∷◌, ◌++◌}
use Rattle.std.specs.Prelude.{Bool, true, false, Option, drop, filter, find, length, map, min, take}
use Rattle.std.specs.List.{list_all, list_any}
use Rattle.std.specs.Option.{option_map}
use Rattle.wl_scene.specs.declared.tree_window.TreeWindow.{TreeWindow}
use Rattle.wl_scene.specs.declared.stacked.Stacked.{Stacked}

-- the window is stacked with this toplevel
abbrev pub is_of : ℕ → ℕ → Stacked → Bool
is_of client toplevel s = (s.client == client) && (s.toplevel == toplevel)

-- it is of the tree of this root
abbrev pub is_rooted : ℕ → ℕ → Stacked → Bool
is_rooted client root s = (s.client == client) && (s.window.root == root)

-- a window that is stacked with this toplevel
abbrev pub stacked : ℕ → ℕ → TreeWindow → Stacked
stacked client toplevel window = record { client = client; toplevel = toplevel; window = window }

-- the windows stacked with this toplevel
abbrev pub run_of : ℕ → ℕ → List Stacked → List Stacked
run_of client toplevel all = filter (λ s. is_of client toplevel s) all

abbrev pub without_run : ℕ → ℕ → List Stacked → List Stacked
without_run client toplevel all = filter (λ s. not (is_of client toplevel s)) all

-- the toplevel that the lowest window of the tree of this root is stacked with
abbrev pub toplevel_with : ℕ → ℕ → List Stacked → Option ℕ
toplevel_with client root all = option_map (λ s. s.toplevel) (find (λ s. is_rooted client root s) all)

-- those but of the tree of this root
abbrev pub without_tree : ℕ → ℕ → List Stacked → List Stacked
without_tree client root all = filter (λ s. not (is_rooted client root s)) all

-- Those stacked with this toplevel come on top: the others keep their order, and so do they.
abbrev pub raised : ℕ → ℕ → List Stacked → List Stacked
raised client toplevel all = without_run client toplevel all ++ run_of client toplevel all

abbrev pub without_client : ℕ → List Stacked → List Stacked
without_client client all = filter (λ s. not (s.client == client)) all

-- how many windows more fit where so many are kept, and both capacities have to hold them
abbrev pub room_for : ℕ → ℕ → ℕ → ℕ
room_for count capacity spare = min capacity spare - count

-- The windows, and how many more fit without memory.
pub record WindowsKept : Type 0 where
  pub windows : List Stacked
  pub room : ℕ

-- ---- windows that stand together

-- those that pass the test stand at the front, and none behind
abbrev pub are_in_front : {X : Type 0} → (X → Bool) → List X → Bool
are_in_front test [] = true
are_in_front test (x ∷ xs) = if test x then are_in_front test xs else not (list_any test xs)

-- those that pass the test stand one behind another
abbrev pub are_a_run : {X : Type 0} → (X → Bool) → List X → Bool
are_a_run test [] = true
are_a_run test (x ∷ xs) = if test x then are_in_front test xs else are_a_run test xs

-- the windows stacked with each toplevel stand together
abbrev pub AreTogether : List Stacked → Type 0
AreTogether all = (client toplevel : ℕ) → are_a_run (is_of client toplevel) all ≡ true

-- Those that pass the test are `count`, one behind another, and the first of them stands at `start`.
pub record IsRun (test : Stacked → Bool) (start count : ℕ) (all : List Stacked) : Type 0 where
  pub below : List Stacked
  pub first : Stacked
  pub others : List Stacked
  pub above : List Stacked
  pub whole : all ≡ below ++ ((first ∷ others) ++ above)
  pub begins : length below ≡ start
  pub counted : suc (length others) ≡ count
  pub none_below : list_any test below ≡ false
  pub is_first : test first ≡ true
  pub are_others : list_all test others ≡ true
  pub none_above : list_any test above ≡ false

-- ---- others in their place

-- the new ones in the place of the first that passes the test, and none of the old ones that pass it
abbrev pub in_place : {X : Type 0} → (X → Bool) → List X → List X → List X
in_place test new [] = []
in_place test new (x ∷ xs) = if test x then new ++ filter (λ y. not (test y)) xs else x ∷ in_place test new xs

-- These are the windows stacked with this toplevel now, where its windows stood: nothing changes where it had none.
abbrev pub replaced : ℕ → ℕ → List TreeWindow → List Stacked → List Stacked
replaced client toplevel windows all = in_place (is_of client toplevel) (map (stacked client toplevel) windows) all

-- The windows of a toplevel, which stand together, are others now, and what stands below them and above them stays.
abbrev pub ReplacesARun : Type 0
ReplacesARun =
    (client toplevel : ℕ) (windows : List TreeWindow) (below : List Stacked) (first : Stacked) (others above : List Stacked)
    → list_any (is_of client toplevel) below ≡ false → is_of client toplevel first ≡ true → list_all (is_of client toplevel) others ≡ true
    → list_any (is_of client toplevel) above ≡ false
    → replaced client toplevel windows (below ++ ((first ∷ others) ++ above)) ≡ below ++ (map (stacked client toplevel) windows ++ above)

-- Nothing changes where no window of the toplevel is there.
abbrev pub ReplacesNothing : Type 0
ReplacesNothing =
    (client toplevel : ℕ) (windows : List TreeWindow) (all : List Stacked) → list_any (is_of client toplevel) all ≡ false
    → replaced client toplevel windows all ≡ all

-- the last so many before the others
abbrev pub last_first : ℕ → List Stacked → List Stacked
last_first count xs = drop (length xs - count) xs ++ take (length xs - count) xs

-- the first so many behind the others
abbrev pub first_last : ℕ → List Stacked → List Stacked
first_last count xs = drop count xs ++ take count xs
