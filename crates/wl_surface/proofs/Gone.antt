-- The frame requests of a surface that goes.
use Rattle.std.proofs.Common.{◌≡◌, ℕ, ◌==◌, List, [], ◌∷◌, Bool, true, false, cond, None, map, refl, ap, sym, subst, ◌∙◌, arith}
use Rattle.std.specs.Prelude.{filter, not}
use Rattle.std.proofs.lemmas.Bool.{eqb-true}
use Rattle.wl_surface.specs.declared.frames.Waiting.{Waiting}
use Rattle.wl_surface.specs.Slots.{Numbered, with_at}
use Rattle.wl_surface.specs.Waiting.{AreWaiting, Callback, IsWaiting, applied_at, callbacks_of, frames_at, held_at, is_in, is_of, without_those_of}

same-either : (m n : ℕ) → (m == n) ≡ (n == m)
same-either m n = grind (arith)

module _ (surface : ℕ) (all : Numbered) where
  of-surface : (w : Waiting) (c : Callback) → IsWaiting w all c → is_of surface w ≡ is_in (frames_at (all surface)) c
  of-surface w c t = same-either w.surface surface ∙ sym (t.asked surface)

  pub callbacks-gone : (ws : List Waiting) (cs : List Callback) → AreWaiting ws all cs → callbacks_of surface ws ≡ map (λ (c : Callback). c.id) (filter (is_in (frames_at (all surface))) cs)
  callbacks-gone [] [] t = refl
  callbacks-gone [] (c ∷ cs) t = absurd t
  callbacks-gone (w ∷ ws) [] t = absurd t
  callbacks-gone (w ∷ ws) (c ∷ cs) t =
      ap (λ b. map (λ (v : Waiting). v.callback) (cond b (w ∷ filter (is_of surface) ws) (filter (is_of surface) ws))) (of-surface w c t.0)
      ∙ by (is_in (frames_at (all surface)) c) (callbacks-gone ws cs t.1)
    where
      by : (b : Bool) → callbacks_of surface ws ≡ map (λ (x : Callback). x.id) (filter (is_in (frames_at (all surface))) cs)
          → map (λ (v : Waiting). v.callback) (cond b (w ∷ filter (is_of surface) ws) (filter (is_of surface) ws))
          ≡ map (λ (x : Callback). x.id) (cond b (c ∷ filter (is_in (frames_at (all surface))) cs) (filter (is_in (frames_at (all surface))) cs))
      by true rest = ap (λ i. i ∷ callbacks_of surface ws) t.0.id ∙ ap (λ is. c.id ∷ is) rest
      by false rest = rest

  waits-left : (w : Waiting) (c : Callback) → is_of surface w ≡ false → IsWaiting w all c → IsWaiting w (with_at surface None all) c
  waits-left w c differs t = record {
    id = t.id;
    asked = λ number. by number (number == surface) refl;
    held = ap (λ b. is_in (held_at (cond b None (all w.surface))) c) differs ∙ t.held;
    applied = ap (λ b. is_in (applied_at (cond b None (all w.surface))) c) differs ∙ t.applied;
  } where
    by : (number : ℕ) (b : Bool) → (number == surface) ≡ b → is_in (frames_at (cond b None (all number))) c ≡ (number == w.surface)
    by number true e = sym (ap (λ k. k == w.surface) (eqb-true number surface e) ∙ same-either surface w.surface ∙ differs)
    by number false e = t.asked number

  pub waiting-gone : (ws : List Waiting) (cs : List Callback) → AreWaiting ws all cs
      → AreWaiting (without_those_of surface ws) (with_at surface None all) (filter (λ c. not (is_in (frames_at (all surface)) c)) cs)
  waiting-gone [] [] t = tt
  waiting-gone [] (c ∷ cs) t = absurd t
  waiting-gone (w ∷ ws) [] t = absurd t
  waiting-gone (w ∷ ws) (c ∷ cs) t =
      subst (λ b. AreWaiting (without_those_of surface (w ∷ ws)) (with_at surface None all)
      (cond (not b) (c ∷ filter (λ x. not (is_in (frames_at (all surface)) x)) cs) (filter (λ x. not (is_in (frames_at (all surface)) x)) cs)))
      (of-surface w c t.0) (by (is_of surface w) refl (waiting-gone ws cs t.1))
    where
      by : (b : Bool) → is_of surface w ≡ b → AreWaiting (without_those_of surface ws) (with_at surface None all) (filter (λ x. not (is_in (frames_at (all surface)) x)) cs)
          → AreWaiting (cond (not b) (w ∷ without_those_of surface ws) (without_those_of surface ws)) (with_at surface None all)
          (cond (not b) (c ∷ filter (λ x. not (is_in (frames_at (all surface)) x)) cs) (filter (λ x. not (is_in (frames_at (all surface)) x)) cs))
      by true e rest = rest
      by false e rest = (waits-left w c e t.0, rest)
