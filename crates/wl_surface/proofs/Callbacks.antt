-- The callbacks of one surface, as the frame requests are walked through.
use Rattle.std.proofs.Common.{◌≡◌, ℕ, ◌+◌, ◌<◌, ◌==◌, map, take, ◌++◌, List, [], ◌∷◌, true, false, length, ap, ◌∙◌, arith, append-nil}
use Rattle.std.specs.Prelude.{filter, slice_index_or}
use Rattle.std.proofs.lemmas.Bool.Decides.{nat_tests}
use Rattle.std.proofs.lemmas.List.{map-append, take_more}
use Rattle.std.proofs.lemmas.List.Elements.{filter-append}
use Rattle.wl_surface.specs.declared.frames.Waiting.{Waiting}
use Rattle.wl_surface.specs.Waiting.{callbacks_of, is_of}

callbacks-next : (surface : ℕ) (frames : List Waiting) (i : ℕ) (d : Waiting) → i < length frames
    → callbacks_of surface (take (i + 1) frames) ≡ callbacks_of surface (take i frames) ++ callbacks_of surface (slice_index_or frames i d ∷ [])
callbacks-next surface frames i d h =
    ap (callbacks_of surface) (take_more frames i d h)
    ∙ ap (map (λ (w : Waiting). w.callback)) (filter-append (is_of surface) (take i frames) (slice_index_or frames i d ∷ []))
    ∙ map-append (λ (w : Waiting). w.callback) (filter (is_of surface) (take i frames)) (filter (is_of surface) (slice_index_or frames i d ∷ []))

same-number : (n m : ℕ) → n ≡ m → (n == m) ≡ true
same-number n m e = grind (arith, nat_tests)

other-number : (n m : ℕ) → (n ≡ m → ⊥) → (n == m) ≡ false
other-number n m e = grind (arith, nat_tests)

pub callbacks-taken : (surface : ℕ) (frames : List Waiting) (i : ℕ) (d : Waiting) (was now : List ℕ) → i < length frames → was ≡ callbacks_of surface (take i frames)
    → (slice_index_or frames i d).surface ≡ surface → now ≡ was ++ (slice_index_or frames i d).callback ∷ [] → now ≡ callbacks_of surface (take (i + 1) frames)
callbacks-taken surface frames i d was now h e of_it is =
    rw (callbacks-next surface frames i d h, same-number (slice_index_or frames i d).surface surface of_it, ← e) is

pub callbacks-passed : (surface : ℕ) (frames : List Waiting) (i : ℕ) (d : Waiting) (was : List ℕ) → i < length frames → was ≡ callbacks_of surface (take i frames)
    → ((slice_index_or frames i d).surface ≡ surface → ⊥) → was ≡ callbacks_of surface (take (i + 1) frames)
callbacks-passed surface frames i d was h e other =
    rw (callbacks-next surface frames i d h, other-number (slice_index_or frames i d).surface surface other, append-nil) e
