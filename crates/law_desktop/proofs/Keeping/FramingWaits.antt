-- The callbacks that a client keeps stay its callbacks, whatever is asked of its surfaces.
use Rattle.std.proofs.Common.{◌≡◌, ℕ, ◌+◌, ◌<◌, ◌≤◌, List, ◌∷◌, ◌++◌, Bool, true, false, cond, Option, Some, None, refl, ap, sym, ◌∙◌, arith, inl, inr, []}
use Rattle.std.specs.Prelude.{◌==◌, ◌||◌, ◌⊎◌}
use Rattle.std.specs.List.{list_any}
use Rattle.std.specs.Option.{option_map}
use Rattle.std.proofs.lemmas.Bool.{eqb-true, false_from_ne_true, true≢false}
use Rattle.std.proofs.lemmas.Grind.{flat_map-append}
use Rattle.std.proofs.lemmas.List.Folds.{list_any-append}
use Rattle.wl_surface.specs.declared.frames.Waiting.{Waiting}
use Rattle.wl_surface.specs.Slots.{Numbered, changed_at}
use Rattle.wl_surface.specs.FrameRequests.{frames_of}
use Rattle.wl_surface.specs.Request.{Frame, Request}
use Rattle.wl_surface.specs.Surface.{Surface, asking}
use Rattle.wl_surface.specs.Waiting.{AreWaiting, Callback, IsNewNumber, counted_at, frames_at}
use Rattle.wl_surface.proofs.Counting.{waiting-same}
use Rattle.spec_desktop.specs.Framing.{AreFramed}

-- where neither what was asked for nor what is held or counts changes
pub framed-same : (frames : List Waiting) (all now : Numbered) (bound more : ℕ) (cs : List Callback) → ((number : ℕ) → frames_at (now number) ≡ frames_at (all number))
    → ((number : ℕ) → counted_at (now number) ≡ counted_at (all number)) → bound ≤ more
    → AreFramed frames all bound cs → AreFramed frames now more cs
framed-same frames all now bound more cs asked counts le f =
    record {
      waits = waiting-same all now asked counts frames cs f.waits;
      early = λ surface number any. let less = f.early surface number (sym (ap (list_any (λ n. n == number)) (asked surface)) ∙ any) in omega (arith, le, less);
    }

abbrev has : ℕ → List ℕ → Bool
has number ns = list_any (λ n. n == number) ns

-- each callback has a number of a frame request
none-has : (frames : List Waiting) (all : Numbered) (bound n : ℕ) (cs : List Callback) → bound ≤ n → AreFramed frames all bound cs → list_any (λ (c : Callback). n == c.number) cs ≡ false
none-has [] all bound n [] le f = refl
none-has [] all bound n (c ∷ cs) le f = absurd f.waits
none-has (w ∷ ws) all bound n [] le f = absurd f.waits
none-has (w ∷ ws) all bound n (c ∷ cs) le f =
    let less = f.early w.surface c.number (f.waits.0.asked w.surface ∙ here w.surface) in
    ap (λ b. b || list_any (λ (x : Callback). n == x.number) cs) (false_from_ne_true (n == c.number) (λ e. let same = eqb-true n c.number e in omega (arith, le, less, same)))
    ∙ none-has ws all bound n cs le (record { waits = f.waits.1; early = f.early })
  where
    here : (k : ℕ) → (k == k) ≡ true
    here k = grind (arith)

-- a number that isn't below is new
pub is-new : (frames : List Waiting) (all : Numbered) (bound n : ℕ) (cs : List Callback) → bound ≤ n → AreFramed frames all bound cs → IsNewNumber n all cs
is-new frames all bound n cs le f = (
  λ surface. false_from_ne_true (has n (frames_at (all surface))) (λ any. let less = f.early surface n any in omega (arith, le, less)),
  none-has frames all bound n cs le f,
)

either : (a b : Bool) → (a || b) ≡ true → (a ≡ true) ⊎ (b ≡ true)
either true b e = inl refl
either false b e = inr e

right-of : (a b : Bool) → (a || false) ≡ b → a ≡ b
right-of true b e = e
right-of false b e = e

frames-of-last : (n : ℕ) (rs : List Request) → frames_of (rs ++ Frame n ∷ []) ≡ frames_of rs ++ n ∷ []
frames-of-last n rs = flat_map-append _ rs (Frame n ∷ [])

asked-has : (n number : ℕ) (at : Option Surface) → has number (frames_at (option_map (asking (Frame n)) at)) ≡ true → (has number (frames_at at) ≡ true) ⊎ (n ≡ number)
asked-has n number None any = inl any
asked-has n number (Some s) any =
    at (either (has number (frames_of s.history.requests)) (has number (n ∷ []))
    (sym (ap (λ ns. has number ns) (frames-of-last n s.history.requests) ∙ list_any-append (λ m. m == number) (frames_of s.history.requests) (n ∷ [])) ∙ any))
  where
    at : (has number (frames_of s.history.requests) ≡ true) ⊎ (has number (n ∷ []) ≡ true) → (has number (frames_at (Some s)) ≡ true) ⊎ (n ≡ number)
    at (inl e) = inl e
    at (inr e) = inr (eqb-true n number (right-of (n == number) true e))

pub framed-more : (frames new : List Waiting) (all : Numbered) (surface n bound : ℕ) (cs more : List Callback) → bound ≤ n → AreFramed frames all bound cs
    → AreWaiting new (changed_at surface (asking (Frame n)) all) more → AreFramed new (changed_at surface (asking (Frame n)) all) (n + 1) more
framed-more frames new all surface n bound cs more le f waits = record { waits = waits; early = λ other number any. at other number (other == surface) any }
  where
    below : (other number : ℕ) → (has number (frames_at (all other)) ≡ true) ⊎ (n ≡ number) → number < n + 1
    below other number (inl any) = let less = f.early other number any in omega (arith, le, less)
    below other number (inr same) = omega (arith, same)

    at : (other number : ℕ) (b : Bool) → has number (frames_at (cond b (option_map (asking (Frame n)) (all other)) (all other))) ≡ true → number < n + 1
    at other number true any = below other number (asked-has n number (all other) any)
    at other number false any = below other number (inl any)

pub framed-less : (frames new : List Waiting) (all : Numbered) (bound : ℕ) (cs less : List Callback) → AreFramed frames all bound cs → AreWaiting new all less → AreFramed new all bound less
framed-less frames new all bound cs less f waits = record { waits = waits; early = f.early }

pub framed-none : (all : Numbered) (bound : ℕ) → ((number : ℕ) → all number ≡ None) → AreFramed [] all bound []
framed-none all bound none = record { waits = tt; early = λ surface number any. absurd (true≢false (sym any ∙ ap (λ at. has number (frames_at at)) (none surface))) }
