-- A piece is written cut into smaller ones, one after another.
use Rattle.std.proofs.Common.{◌≡◌, ◌+◌, ◌-◌, ◌≤◌, ℕ, List, [], ◌∷◌, ◌++◌, Option, Some, length, take, drop, map, refl, ap, sym, ◌∙◌, subst, append_assoc, append-nil, arith}
use Rattle.std.specs.Prelude.{flat_map}
use Rattle.std.proofs.lemmas.List.{drop-take, take-append-drop, take-take, take_all}
use Rattle.std.proofs.lemmas.List.Concat.{flat_map-append}
use Rattle.wl_recording.specs.Line.{Asked, Bytes}
use Rattle.wl_recording.specs.Recording.{Feeds, HoldsTo, Recorded}

-- the bytes before `done` are written, cut somehow
pub record Fed {W : Type 0} (contents : W → Option (List ℕ)) (client : ℕ) (piece : List ℕ) (first : Option (List ℕ)) (asked : List Asked) (done : ℕ) (now : Recorded W) : Type 0 where
  pub pieces : List (List ℕ)
  pub joined : flat_map (λ p. p) pieces ≡ take done piece
  pub holds : HoldsTo 1000000 contents first (asked ++ map (λ p. Bytes client p) pieces) now

pub fed-none : {W : Type 0} (contents : W → Option (List ℕ)) (client : ℕ) (piece : List ℕ) (first : Option (List ℕ)) (asked : List Asked) (now : Recorded W)
    → HoldsTo 1000000 contents first asked now → Fed contents client piece first asked 0 now
fed-none contents client piece first asked now holds =
    record { pieces = []; joined = refl; holds = subst (λ (a : List Asked). HoldsTo 1000000 contents first a now) (sym (append-nil asked)) holds }

up_to : (done end : ℕ) (piece : List ℕ) → done ≤ end → take end piece ≡ take done piece ++ take (end - done) (drop done piece)
up_to done end piece order =
    let all : end ≡ done + (end - done) = omega (arith, order) in
    let back : drop done (take end piece) ≡ take (end - done) (drop done piece) = ap (λ (n : ℕ). drop done (take n piece)) all ∙ drop-take done (end - done) piece in
    sym (take-append-drop done (take end piece))
    ∙ (ap (λ (t : List ℕ). t ++ drop done (take end piece)) (take-take done end piece order) ∙ ap (λ (t : List ℕ). take done piece ++ t) back)

map_more : (client : ℕ) (pieces : List (List ℕ)) (last : List ℕ)
    → map (λ p. Bytes client p) (pieces ++ last ∷ []) ≡ map (λ p. Bytes client p) pieces ++ Bytes client last ∷ []
map_more client [] last = refl
map_more client (p ∷ pieces) last = ap (λ (t : List Asked). Bytes client p ∷ t) (map_more client pieces last)

pub fed-more : {W : Type 0} (contents : W → Option (List ℕ)) (client : ℕ) (piece : List ℕ) (first : Option (List ℕ)) (asked : List Asked) (done end : ℕ) (mid new : Recorded W)
    → done ≤ end → Fed contents client piece first asked done mid
    → ((a : List Asked) → HoldsTo 1000000 contents first a mid → HoldsTo 1000000 contents first (a ++ Bytes client (take (end - done) (drop done piece)) ∷ []) new)
    → Fed contents client piece first asked end new
fed-more contents client piece first asked done end mid new order fed writes =
    let last = take (end - done) (drop done piece) in
    record {
      pieces = fed.pieces ++ last ∷ [];
      joined =
          flat_map-append (λ p. p) fed.pieces (last ∷ [])
          ∙ (ap (λ (t : List ℕ). t ++ (last ++ [])) fed.joined ∙ (ap (λ (t : List ℕ). take done piece ++ t) (append-nil last) ∙ sym (up_to done end piece order)));
      holds = subst (λ (a : List Asked). HoldsTo 1000000 contents first a new)
          (append_assoc asked (map (λ p. Bytes client p) fed.pieces) (Bytes client last ∷ []) ∙ ap (λ (t : List Asked). asked ++ t) (sym (map_more client fed.pieces last)))
          (writes (asked ++ map (λ p. Bytes client p) fed.pieces) fed.holds);
    }

pub fed-all : {W : Type 0} (contents : W → Option (List ℕ)) (client : ℕ) (piece : List ℕ) (first : Option (List ℕ)) (asked : List Asked) (done : ℕ) (now : Recorded W)
    → length piece ≤ done → Fed contents client piece first asked done now
    → (more : List Asked) × Feeds (Some client) piece more × HoldsTo 1000000 contents first (asked ++ more) now
fed-all contents client piece first asked done now long fed =
    (map (λ p. Bytes client p) fed.pieces, (fed.pieces, fed.joined ∙ take_all done piece long, refl), fed.holds)
