-- One more frame request waits.
use Rattle.std.proofs.Common.{◌≡◌, ℕ, ◌==◌, ◌||◌, List, [], ◌∷◌, ◌++◌, Bool, true, false, cond, Option, Some, None, drop, take, refl, ap, sym, subst, ◌∙◌, arith, take-append-drop}
use Rattle.std.specs.Prelude.{is_some}
use Rattle.std.specs.List.{list_any}
use Rattle.std.specs.Option.{option_map}
use Rattle.std.proofs.lemmas.Bool.{eqb-true}
use Rattle.std.proofs.lemmas.Grind.{flat_map-append}
use Rattle.std.proofs.lemmas.List.Folds.{list_any-append}
use Rattle.wl_surface.specs.declared.frames.Waiting.{Waiting}
use Rattle.wl_surface.specs.FrameRequests.{frames_of}
use Rattle.wl_surface.specs.Kept.{Kept}
use Rattle.wl_surface.specs.Slots.{Numbered, StandForAll, StandsAt, changed_at, place_at}
use Rattle.wl_surface.specs.Request.{Frame, Request}
use Rattle.wl_surface.specs.Surface.{Surface, asking}
use Rattle.wl_surface.specs.Waiting.{AreWaiting, Callback, IsNewNumber, IsWaiting, applied_at, frames_at, held_at, is_in}
use Rattle.wl_surface.proofs.Records.{applied-kept, held-kept}
use Rattle.wl_surface.specs.State.{committed}

frames-last : (rs : List Request) (n : ℕ) → frames_of (rs ++ Frame n ∷ []) ≡ frames_of rs ++ n ∷ []
frames-last rs n = flat_map-append _ rs (Frame n ∷ [])

or-none : (b x : Bool) → x ≡ false → (b || (x || false)) ≡ b
or-none true x e = refl
or-none false x e = ap (λ y. y || false) e

or-here : (b x : Bool) → x ≡ true → (b || (x || false)) ≡ true
or-here true x e = refl
or-here false x e = ap (λ y. y || false) e

same-number : (n : ℕ) → (n == n) ≡ true
same-number n = grind (arith)

-- Another request is asked of the surface.
other-asked : (n : ℕ) (at : Option Surface) (c : Callback) → (n == c.number) ≡ false → is_in (frames_at (option_map (asking (Frame n)) at)) c ≡ is_in (frames_at at) c
other-asked n None c differs = refl
other-asked n (Some s) c differs =
    ap (λ ns. is_in ns c) (frames-last s.history.requests n) ∙ list_any-append (λ m. m == c.number) (frames_of s.history.requests) (n ∷ [])
    ∙ or-none (list_any (λ m. m == c.number) (frames_of s.history.requests)) (n == c.number) differs

-- what is held and what counts stay
counts-still : (n : ℕ) (slot : Option Kept) (at : Option Surface) → StandsAt slot at → applied_at (option_map (asking (Frame n)) at) ≡ applied_at at
counts-still n slot None t = refl
counts-still n None (Some s) t = absurd t
counts-still n (Some k) (Some s) t = ap frames_of (applied-kept s.history (Frame n) t.history.cut_within t.history.commits_within)

holds-still : (n : ℕ) (slot : Option Kept) (at : Option Surface) → StandsAt slot at → held_at (option_map (asking (Frame n)) at) ≡ held_at at
holds-still n slot None t = refl
holds-still n None (Some s) t = absurd t
holds-still n (Some k) (Some s) t = ap frames_of (held-kept s.history.requests (Frame n) refl t.history.commits_within)

or-false-left : (b x : Bool) → (b || x) ≡ false → b ≡ false
or-false-left true x e = e
or-false-left false x e = refl

or-false-right : (b x : Bool) → (b || x) ≡ false → x ≡ false
or-false-right true x e = absurd (cc)
or-false-right false x e = e

-- A request that wasn't asked isn't held, and doesn't count.
unasked : (c : Callback) (cut : ℕ) (rs : List Request) → is_in (frames_of rs) c ≡ false → is_in (frames_of (take cut rs)) c ≡ false
unasked c cut rs e =
    let parts : frames_of rs ≡ frames_of (take cut rs) ++ frames_of (drop cut rs) = ap frames_of (sym (take-append-drop cut rs)) ∙ flat_map-append _ (take cut rs) (drop cut rs) in
    or-false-left (list_any (λ m. m == c.number) (frames_of (take cut rs))) (list_any (λ m. m == c.number) (frames_of (drop cut rs)))
    (sym (list_any-append (λ m. m == c.number) (frames_of (take cut rs)) (frames_of (drop cut rs))) ∙ ap (λ ns. is_in ns c) (sym parts) ∙ e)

pub uncounted : (c : Callback) (at : Option Surface) → is_in (frames_at at) c ≡ false → is_in (applied_at at) c ≡ false
uncounted c None e = refl
uncounted c (Some s) e = unasked c s.history.cut s.history.requests e

unheld : (c : Callback) (at : Option Surface) → is_in (frames_at at) c ≡ false → is_in (held_at at) c ≡ false
unheld c None e = refl
unheld c (Some s) e = unasked c (committed s.history.requests) s.history.requests e

module _ (places : List (Option Kept)) (frames : List Waiting) (all : Numbered) (stand : StandForAll (record { places = places; frames = frames }) all) (surface n : ℕ) where
  still-counting : (number : ℕ) → applied_at (changed_at surface (asking (Frame n)) all number) ≡ applied_at (all number)
  still-counting number = by (number == surface)
    where
      by : (b : Bool) → applied_at (cond b (option_map (asking (Frame n)) (all number)) (all number)) ≡ applied_at (all number)
      by true = counts-still n (place_at places number) (all number) (stand number)
      by false = refl

  still-held : (number : ℕ) → held_at (changed_at surface (asking (Frame n)) all number) ≡ held_at (all number)
  still-held number = by (number == surface)
    where
      by : (b : Bool) → held_at (cond b (option_map (asking (Frame n)) (all number)) (all number)) ≡ held_at (all number)
      by true = holds-still n (place_at places number) (all number) (stand number)
      by false = refl

  waits-still : (w : Waiting) (c : Callback) → (n == c.number) ≡ false → IsWaiting w all c → IsWaiting w (changed_at surface (asking (Frame n)) all) c
  waits-still w c differs t = record {
    id = t.id;
    asked = λ number. by number (number == surface) ∙ t.asked number;
    held = ap (λ ns. is_in ns c) (still-held w.surface) ∙ t.held;
    applied = ap (λ ns. is_in ns c) (still-counting w.surface) ∙ t.applied;
  } where
    by : (number : ℕ) (b : Bool) → is_in (frames_at (cond b (option_map (asking (Frame n)) (all number)) (all number))) c ≡ is_in (frames_at (all number)) c
    by number true = other-asked n (all number) c differs
    by number false = refl

  waits-new : (callback : ℕ) → is_some (all surface) ≡ true → ((number : ℕ) → list_any (λ m. m == n) (frames_at (all number)) ≡ false)
      → IsWaiting (record { surface = surface; callback = callback; is_held = false; is_applied = false }) (changed_at surface (asking (Frame n)) all) (record { number = n; id = callback })
  waits-new callback there new = record {
    id = refl;
    asked = λ number. by number (number == surface) refl;
    held = ap (λ ns. list_any (λ m. m == n) ns) (still-held surface) ∙ unheld (record { number = n; id = callback }) (all surface) (new surface);
    applied = ap (λ ns. list_any (λ m. m == n) ns) (still-counting surface) ∙ uncounted (record { number = n; id = callback }) (all surface) (new surface);
  } where
    found : (at : Option Surface) → is_some at ≡ true → list_any (λ m. m == n) (frames_at (option_map (asking (Frame n)) at)) ≡ true
    found None e = absurd (cc)
    found (Some s) e =
        ap (λ ns. list_any (λ m. m == n) ns) (frames-last s.history.requests n) ∙ list_any-append (λ m. m == n) (frames_of s.history.requests) (n ∷ [])
        ∙ or-here (list_any (λ m. m == n) (frames_of s.history.requests)) (n == n) (same-number n)

    by : (number : ℕ) (b : Bool) → (number == surface) ≡ b → list_any (λ m. m == n) (frames_at (cond b (option_map (asking (Frame n)) (all number)) (all number))) ≡ b
    by number true e = found (all number) (subst (λ k. is_some (all k) ≡ true) (sym (eqb-true number surface e)) there)
    by number false e = new number

  pub waiting-framed : (callback : ℕ) (ws : List Waiting) (cs : List Callback) → is_some (all surface) ≡ true → IsNewNumber n all cs → AreWaiting ws all cs
      → AreWaiting (ws ++ record { surface = surface; callback = callback; is_held = false; is_applied = false } ∷ [])
      (changed_at surface (asking (Frame n)) all) (cs ++ record { number = n; id = callback } ∷ [])
  waiting-framed callback [] [] there new t = (waits-new callback there new.0, tt)
  waiting-framed callback [] (c ∷ cs) there new t = absurd t
  waiting-framed callback (w ∷ ws) [] there new t = absurd t
  waiting-framed callback (w ∷ ws) (c ∷ cs) there new t = (
    waits-still w c (or-false-left (n == c.number) (list_any (λ (x : Callback). n == x.number) cs) new.1) t.0,
    waiting-framed callback ws cs there (new.0, or-false-right (n == c.number) (list_any (λ (x : Callback). n == x.number) cs) new.1) t.1,
  )
