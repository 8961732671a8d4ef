-- What the focus goes by: what is hit where no button is down, and whether the surface that has the focus has a window where one is.
use Rattle.std.proofs.Common.{◌≡◌, ◌≢◌, ℕ, List, [], ◌∷◌, Bool, true, false, Option, Some, None, refl, ap, subst, sym, ◌∙◌}
use Rattle.std.proofs.lemmas.Option.{none-some, same_Some}
use Rattle.std.specs.Prelude.{◌||◌, cond, is_some}
use Rattle.spec_desktop.specs.Objects.{ById}
use Rattle.spec_desktop.specs.Pointer.{Pointer, Target, hit_by, is_stacked}
use Rattle.spec_desktop.specs.Windows.{Window}
use Rattle.wl_scene.specs.Focus.{IsSeen}
use Rattle.wl_scene.specs.declared.stacked.Stacked.{Stacked}
use Rattle.wl_scene.specs.Hit.{IsStackedOrNone}
use Rattle.spec_desktop.specs.Replies.{focus_window}
use Rattle.spec_desktop.specs.Settling.{Midstep}
use Rattle.spec_desktop.specs.Stacked.{all_windows}
use Rattle.wl_desk.specs.Midway.{IsMidway, IsTelling}
use Rattle.wl_desk.specs.View.{DeskView}
use Rattle.wl_desk.proofs.Points.{is_window}

-- a surface is stacked where it has a window
pub stacked-some : (t : Target) (ws : List Window) → is_stacked t ws ≡ is_some (focus_window (Some t) ws)
stacked-some t [] = refl
stacked-some t (w ∷ ws) = at (is_window t w) (stacked-some t ws)
  where
    at : (b : Bool) → is_stacked t ws ≡ is_some (focus_window (Some t) ws) → (b || is_stacked t ws) ≡ is_some (cond b (Some w) (focus_window (Some t) ws))
    at true rest = refl
    at false rest = rest

pub both-some : (numbers : ℕ → ById ℕ) (s : Option Stacked) (w : Option Window) → IsStackedOrNone numbers s w → is_some w ≡ is_some s
both-some numbers None None is = refl
both-some numbers (Some s) (Some w) is = refl
both-some numbers None (Some w) is = absurd is
both-some numbers (Some s) None is = absurd is

-- ---- by what is kept

-- no button is down
pub free-seen : (v : DeskView) (hit : Option Target) → v.pointer.buttons ≡ []
    → ((m : Midstep) → IsTelling v m → hit ≡ hit_by m.desktop.pointer.place (all_windows m.desktop)) → (m : Midstep) → IsMidway v m
    → IsSeen hit false m.desktop.pointer (all_windows m.desktop)
free-seen v hit none hits m midway = record {
  free = λ free. sym (hits m midway.telling);
  pressed = λ down t has. absurd (down (ap (λ (p : Pointer). p.buttons) (sym midway.pointer) ∙ none));
}

-- one is, and nothing has the focus
pub none-seen : (v : DeskView) → v.pointer.buttons ≢ [] → None ≡ v.pointer.focus → (m : Midstep) → IsMidway v m
    → IsSeen None false m.desktop.pointer (all_windows m.desktop)
none-seen v down none m midway = record {
  free = λ free. absurd (down (ap (λ (p : Pointer). p.buttons) midway.pointer ∙ free));
  pressed = λ held t has. absurd (none-some t (none ∙ ap (λ (p : Pointer). p.focus) midway.pointer ∙ has));
}

-- or this surface has it
pub held-seen : (v : DeskView) (t : Target) (numbers : ℕ → ById ℕ) (found : Option Stacked) → v.pointer.buttons ≢ [] → Some t ≡ v.pointer.focus
    → ((m : Midstep) → IsTelling v m → IsStackedOrNone numbers found (focus_window (Some t) (all_windows m.desktop))) → (m : Midstep) → IsMidway v m
    → IsSeen None (is_some found) m.desktop.pointer (all_windows m.desktop)
held-seen v t numbers found down has finds m midway = record {
  free = λ free. absurd (down (ap (λ (p : Pointer). p.buttons) midway.pointer ∙ free));
  pressed = λ held u is.
      let same : t ≡ u = same_Some t u (has ∙ ap (λ (p : Pointer). p.focus) midway.pointer ∙ is) in
      subst (λ (x : Target). is_stacked x (all_windows m.desktop) ≡ is_some found) same
      (stacked-some t (all_windows m.desktop) ∙ both-some numbers found (focus_window (Some t) (all_windows m.desktop)) (finds m midway.telling));
}
