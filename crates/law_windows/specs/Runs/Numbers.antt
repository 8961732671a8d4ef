-- The toplevel that a tree is stacked with, found among entries that are kept for the windows, by the numbers of surfaces (xdg-shell.xml,
-- xdg_popup).
use Rattle.std.specs.Prelude.{ℕ, ◌≡◌, ◌==◌, ◌&&◌, Option, Some, None, List, [], ◌∷◌, find}
use Rattle.std.specs.Option.{option_and_then, option_map, option_or}
use Rattle.spec_desktop.specs.Objects.{ById}
use Rattle.spec_desktop.specs.Windows.{Owner, StackedPopup, Window}
use Rattle.spec_desktop.specs.Desktop.{Desktop}
use Rattle.spec_desktop.specs.Stacked.{all_windows}
use Rattle.wl_scene.specs.StackedAgreement.{AreNumberedOnce}
use Rattle.law_desktop.specs.StackedWith.{popup_of}
use Rattle.law_windows.specs.Runs.Lookup.{toplevel_found}

-- An entry is kept for a window: both are of one client, and the root of its tree and the toplevel that it is stacked with go by their
-- numbers.
pub record IsKeptFor (numbers : ℕ → ById ℕ) (kept : Owner) (w : Window) : Type 0 where
  pub client : kept.client ≡ w.owner.client
  pub root : numbers kept.client w.owner.root ≡ Some kept.root
  pub toplevel : numbers kept.client w.owner.toplevel ≡ Some kept.toplevel

-- so are all of them, one by one, where this tells whose each is
abbrev pub AreKeptFor : {K : Type 0} → (K → Owner) → (ℕ → ById ℕ) → List K → List Window → Type 0
AreKeptFor owner numbers [] [] = Unit {0}
AreKeptFor owner numbers (k ∷ ks) (w ∷ ws) = IsKeptFor numbers (owner k) w × AreKeptFor owner numbers ks ws
AreKeptFor owner numbers [] (w ∷ ws) = ⊥
AreKeptFor owner numbers (k ∷ ks) [] = ⊥

-- neither is there, or both are, and the one is the number of the other
abbrev pub IsNumberOf : ById ℕ → Option ℕ → Option ℕ → Type 0
IsNumberOf numbers None None = Unit {0}
IsNumberOf numbers (Some number) (Some id) = numbers id ≡ Some number
IsNumberOf numbers None (Some id) = ⊥
IsNumberOf numbers (Some number) None = ⊥

-- What is known of the root of a tree by numbers: that it is no popup, or, of a popup, its parent's surface, if it has one.
abbrev pub IsPopupBy : ById ℕ → Option (Option ℕ) → Option StackedPopup → Type 0
IsPopupBy numbers None None = Unit {0}
IsPopupBy numbers (Some parent) (Some p) = IsNumberOf numbers parent p.parent
IsPopupBy numbers None (Some p) = ⊥
IsPopupBy numbers (Some parent) None = ⊥

-- the toplevel of the lowest entry with this root, if there is one
abbrev pub toplevel_kept : {K : Type 0} → (K → Owner) → ℕ → ℕ → List K → Option ℕ
toplevel_kept owner c root ks = option_map (λ k. (owner k).toplevel) (find (λ k. ((owner k).client == c) && ((owner k).root == root)) ks)

-- without such an entry: that of its popup's parent, or the root, where it is no popup
abbrev pub kept_by_parent : {K : Type 0} → (K → Owner) → ℕ → ℕ → Option (Option ℕ) → List K → Option ℕ
kept_by_parent owner c root None ks = Some root
kept_by_parent owner c root (Some parent) ks = option_and_then (λ surface. toplevel_kept owner c surface ks) parent

abbrev pub kept_found : {K : Type 0} → (K → Owner) → ℕ → ℕ → Option (Option ℕ) → List K → Option ℕ
kept_found owner c root popup ks = option_or (toplevel_kept owner c root ks) (kept_by_parent owner c root popup ks)

-- What is found by numbers is the number of what is found among the windows, where no number is that of two surfaces.
abbrev pub FindsByNumbers : Type 0 → Type 0
FindsByNumbers K =
    (owner : K → Owner) (numbers : ℕ → ById ℕ) (ks : List K) (c root number : ℕ) (popup : Option (Option ℕ)) (d : Desktop)
    → AreKeptFor owner numbers ks (all_windows d) → AreNumberedOnce (numbers c) → numbers c root ≡ Some number
    → IsPopupBy (numbers c) popup (popup_of c root d)
    → IsNumberOf (numbers c) (kept_found owner c number popup ks) (toplevel_found c root (popup_of c root d) (all_windows d))
