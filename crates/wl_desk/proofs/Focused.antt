-- The surface that has the focus has a window.
use Rattle.std.proofs.Common.{◌≡◌, ◌≢◌, ℕ, List, [], ◌∷◌, true, Option, Some, None, refl, ap, sym, ◌∙◌}
use Rattle.std.proofs.lemmas.Option.{none-some}
use Rattle.std.specs.Prelude.{if◌then◌else◌}
use Rattle.spec_desktop.specs.Desktop.{Desktop}
use Rattle.spec_desktop.specs.Pointer.{Pointer, Target, hit_by, is_stacked, kept_focus, settled, settled_focus, target_of}
use Rattle.spec_desktop.specs.Stacked.{all_windows}
use Rattle.spec_desktop.specs.Windows.{Place, Window, hit}
use Rattle.wl_clients.specs.Touching.{HitsStay}
use Rattle.wl_desk.proofs.Points.{settled-stacked}

-- where the focus is settled
pub focus-stacked : (p : Pointer) (ws : List Window) (t : Target) → p.focus ≡ settled p ws → p.focus ≡ Some t → is_stacked t ws ≡ true
focus-stacked p ws t is has = settled-stacked p ws t (sym is ∙ has)

pub focus-placed : (p : Pointer) (t : Target) → (p.place ≡ None → p.focus ≡ None) → p.focus ≡ Some t → p.place ≢ None
focus-placed p t nowhere has = λ none. absurd (none-some t (sym (nowhere none) ∙ has))

-- ---- where it stays settled

-- the pointer is as it was, but for what it moves and holds
pub record LooksAs (p q : Pointer) : Type 0 where
  pub place : q.place ≡ p.place
  pub buttons : q.buttons ≡ p.buttons
  pub focus : q.focus ≡ p.focus

abbrev focus_by : List ℕ → Option Place → Option Target → List Window → Option Target
focus_by [] place focus ws = hit_by place ws
focus_by (button ∷ buttons) place focus ws = kept_focus focus ws

settled-by : (buttons : List ℕ) (p : Pointer) (ws : List Window) → settled_focus buttons p ws ≡ focus_by buttons p.place p.focus ws
settled-by [] p ws = refl
settled-by (button ∷ buttons) p ws = refl

-- what is hit stays too
module _ (d e : Desktop) (stay : HitsStay d e) where
  same-hit : (place : Option Place) → hit_by place (all_windows e) ≡ hit_by place (all_windows d)
  same-hit None = refl
  same-hit (Some at) = stay.hit at.x at.y

  same-kept : (focus : Option Target) → kept_focus focus (all_windows e) ≡ kept_focus focus (all_windows d)
  same-kept None = refl
  same-kept (Some t) = ap (λ b. if b then Some t else None) (stay.stacked t)

  same-by : (buttons : List ℕ) (place : Option Place) (focus : Option Target) → focus_by buttons place focus (all_windows e) ≡ focus_by buttons place focus (all_windows d)
  same-by [] place focus = same-hit place
  same-by (button ∷ buttons) place focus = same-kept focus

-- so the focus is settled still
pub settled-still : (p q : Pointer) (d e : Desktop) → LooksAs p q → HitsStay d e → p.focus ≡ settled p (all_windows d) → q.focus ≡ settled q (all_windows e)
settled-still p q d e looks stay settled =
    looks.focus ∙ settled ∙ settled-by p.buttons p (all_windows d)
    ∙ ap (λ (buttons : List ℕ). focus_by buttons p.place p.focus (all_windows d)) (sym looks.buttons)
    ∙ ap (λ (place : Option Place). focus_by q.buttons place p.focus (all_windows d)) (sym looks.place)
    ∙ ap (λ (focus : Option Target). focus_by q.buttons q.place focus (all_windows d)) (sym looks.focus)
    ∙ sym (same-by d e stay q.buttons q.place q.focus)
    ∙ sym (settled-by q.buttons q (all_windows e))

-- what is hit stays as the windows do
pub hits-on : (d e f : Desktop) → HitsStay d e → all_windows f ≡ all_windows e → HitsStay d f
hits-on d e f stay same = record {
  hit = λ x y. ap (λ (ws : List Window). target_of (hit x y ws)) same ∙ stay.hit x y;
  stacked = λ t. ap (λ (ws : List Window). is_stacked t ws) same ∙ stay.stacked t;
}
