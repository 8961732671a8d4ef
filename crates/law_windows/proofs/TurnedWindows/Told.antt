-- Of some windows those that pass a test, and whose they are.
use Rattle.std.proofs.Common.{◌≡◌, ℕ, ◌==◌, Bool, true, false, cond, List, [], ◌∷◌, ◌++◌, refl, ap, sym, ◌∙◌}
use Rattle.std.specs.Prelude.{filter}
use Rattle.std.specs.List.{AllByRecursion as Each, list_all, list_any}
use Rattle.std.proofs.lemmas.List.Folds.{list_any-append}
use Rattle.wl_scene.proofs.Truth.{and-left, and-right, or-left, or-right}
use Rattle.law_desktop.proofs.Marks.Stacks.{same-number}
use Rattle.law_desktop.proofs.Lists.Left.{filter-append}
use Rattle.law_desktop.proofs.Lists.Tests.{filter-none}
use Rattle.std.proofs.lemmas.Bool.{or_left, or_right}
use Rattle.spec_desktop.specs.Windows.{Window}
use Rattle.law_windows.specs.RenamedWindows.{has_window}

-- ---- lists

filter-all : {X : Type 0} (p : X → Bool) (xs : List X) → list_all p xs ≡ true → filter p xs ≡ xs
filter-all p [] all = refl
filter-all p (x ∷ xs) all =
    ap (λ b. cond b (x ∷ filter p xs) (filter p xs)) (and-left (p x) (list_all p xs) all) ∙ ap (λ ys. x ∷ ys) (filter-all p xs (and-right (p x) (list_all p xs) all))

append-none : {X : Type 0} (xs : List X) → xs ++ [] ≡ xs
append-none [] = refl
append-none (x ∷ xs) = ap (λ ys. x ∷ ys) (append-none xs)

-- of windows among others those that pass a test, where they alone do
pub filter-among : {X : Type 0} (p : X → Bool) (below ws above : List X) → list_all p ws ≡ true → list_any p (below ++ above) ≡ false → filter p (below ++ (ws ++ above)) ≡ ws
filter-among p below ws above all none =
    let split = sym (list_any-append p below above) ∙ none in
    filter-append p below (ws ++ above)
    ∙ (ap (λ xs. xs ++ filter p (ws ++ above)) (filter-none p below (or-left (list_any p below) (list_any p above) split))
    ∙ (filter-append p ws above
    ∙ (ap (λ xs. xs ++ filter p above) (filter-all p ws all)
    ∙ (ap (λ xs. ws ++ xs) (filter-none p above (or-right (list_any p below) (list_any p above) split)) ∙ append-none ws))))

-- ---- whose the windows are

-- what holds of each surface that has a window of these holds of the surface of each of them
pub each-surface : (P : ℕ → Type 0) (ws : List Window) → ((id : ℕ) → has_window id ws ≡ true → P id) → Each (λ w. P w.surface) ws
each-surface P [] holds = tt
each-surface P (w ∷ ws) holds =
    (holds w.surface (or_left (w.surface == w.surface) _ (same-number w.surface)), each-surface P ws (λ id has. holds id (or_right (w.surface == id) _ has)))
