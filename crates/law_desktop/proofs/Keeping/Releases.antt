-- The stores of three buffers go one after another, each once.
use Rattle.std.proofs.Common.{◌≡◌, ℕ, zero, suc, slice_index_or, map, List, [], ◌∷◌, ◌++◌, Bool, true, false, Option, Some, None, cond, refl, ap, ◌∙◌}
use Rattle.std.specs.Prelude.{◌==◌, ◌||◌, not, filter, fold}
use Rattle.spec_desktop.specs.Peer.{released}
use Rattle.wl_store.specs.Stores.{Stock}
use Rattle.wl_surface.specs.Request.{Buffer}
use Rattle.std.specs.Option.{option_map}
use Rattle.wl_surface.specs.declared.content.Attached.{Attached}
use Rattle.wl_surface.specs.Kept.{buffer_of}
use Rattle.wl_surface.specs.Slots.{had_at}
use Rattle.wl_surface.specs.State.{held, pending}
use Rattle.wl_surface.specs.Surface.{Surface, listed}
use Rattle.spec_desktop.specs.Releases.{let_if, same_number}
use Rattle.spec_desktop.specs.Step.{buffers_had, each_once, without_buffer}

abbrev going : Stock → List Buffer → Stock
going s bs = fold (λ (stores : Stock) (b : Buffer). released b.store stores) s bs

going-if : (b : Bool) (s : Stock) (x : Buffer) (xs : List Buffer) → going s (cond b (x ∷ xs) xs) ≡ going (cond b (released x.store s) s) xs
going-if true s x xs = refl
going-if false s x xs = refl

-- one of them, unless it goes already
one-goes : (over : Buffer → Bool) (again : Bool) (s : Stock) (x : Buffer) (xs : List Buffer) → going s (filter over (cond (not again) (x ∷ xs) xs)) ≡ going (let_if over again (Some x) s)
    (filter over xs)
one-goes over true s x xs = refl
one-goes over false s x xs = going-if (over x) s x (filter over xs)

last-goes : (over : Buffer → Bool) (x y z : Buffer) (again : Bool) (s : Stock) → going s (filter over (without_buffer x.number (cond (not again) (z ∷ []) []))) ≡ let_if over
    (again || (z.number == x.number)) (Some z) s
last-goes over x y z true s = refl
last-goes over x y z false s = one-goes over (z.number == x.number) s z []

pub three-go : (over : Buffer → Bool) (s : Stock) (a b c : Option Buffer) → going s (filter over (each_once (listed a ++ listed b ++ listed c))) ≡ let_if over (same_number c b || same_number c a) c
    (let_if over (same_number b a) b (let_if over false a s))
three-go over s None None None = refl
three-go over s None None (Some z) = one-goes over false s z []
three-go over s None (Some y) None = one-goes over false s y []
three-go over s None (Some y) (Some z) =
    one-goes over false s y (without_buffer y.number (z ∷ []))
    ∙ one-goes over (z.number == y.number) (let_if over false (Some y) s) z []
    ∙ ap (λ again. let_if over again (Some z) (let_if over false (Some y) s)) (or-none (z.number == y.number))
  where
    or-none : (b : Bool) → b ≡ (b || false)
    or-none true = refl
    or-none false = refl
three-go over s (Some x) None None = one-goes over false s x []
three-go over s (Some x) None (Some z) =
    one-goes over false s x (without_buffer x.number (z ∷ [])) ∙ one-goes over (z.number == x.number) (let_if over false (Some x) s) z []
three-go over s (Some x) (Some y) None =
    one-goes over false s x (without_buffer x.number (y ∷ [])) ∙ one-goes over (y.number == x.number) (let_if over false (Some x) s) y []
three-go over s (Some x) (Some y) (Some z) =
    one-goes over false s x (without_buffer x.number (y ∷ without_buffer y.number (z ∷ [])))
    ∙ one-goes over (y.number == x.number) (let_if over false (Some x) s) y (without_buffer x.number (without_buffer y.number (z ∷ [])))
    ∙ last-goes over x y z (z.number == y.number) (let_if over (y.number == x.number) (Some y) (let_if over false (Some x) s))

-- ---- the three buffers that a surface has

index-map : {X Y : Type 0} (f : X → Y) (xs : List X) (k : ℕ) (d : X) → f (slice_index_or xs k d) ≡ slice_index_or (map f xs) k (f d)
index-map f [] zero d = refl
index-map f [] (suc k) d = refl
index-map f (x ∷ xs) zero d = refl
index-map f (x ∷ xs) (suc k) d = index-map f xs k d

had-three : (at : Option Surface) (x y z : Option Buffer) → x ≡ slice_index_or (had_at at) 0 x → y ≡ slice_index_or (had_at at) 1 y → z ≡ slice_index_or (had_at at) 2 z
    → listed x ++ listed y ++ listed z ≡ buffers_had (option_map (λ (s : Surface). s.history) at)
had-three None x y z a b c = ap (λ o. listed o ++ listed y ++ listed z) a ∙ ap (λ o. listed o ++ listed z) b ∙ ap listed c
had-three (Some s) x y z a b c =
    ap (λ o. listed o ++ listed y ++ listed z) a
    ∙ ap (λ o. listed (pending s.history).buffer ++ listed o ++ listed z) b
    ∙ ap (λ o. listed (pending s.history).buffer ++ listed (held s.history).buffer ++ listed o) c

pub three-had : (had : List (Option Attached)) (x y z : Option Attached) (at : Option Surface) → x ≡ slice_index_or had 0 x → y ≡ slice_index_or had 1 y → z ≡ slice_index_or had 2 z
    → map (option_map buffer_of) had ≡ had_at at
    → listed (option_map buffer_of x) ++ listed (option_map buffer_of y) ++ listed (option_map buffer_of z) ≡ buffers_had (option_map (λ (s : Surface). s.history) at)
three-had had x y z at a b c same = had-three at (option_map buffer_of x) (option_map buffer_of y) (option_map buffer_of z) (read x 0 a) (read y 1 b) (read z 2 c)
  where
    read : (w : Option Attached) (k : ℕ) → w ≡ slice_index_or had k w → option_map buffer_of w ≡ slice_index_or (had_at at) k (option_map buffer_of w)
    read w k e = ap (option_map buffer_of) e ∙ index-map (option_map buffer_of) had k w ∙ ap (λ (os : List (Option Buffer)). slice_index_or os k (option_map buffer_of w)) same
