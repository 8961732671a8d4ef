-- What a call tells of surfaces by the numbers that are kept is so of them by their ids: which buffers are freed, which were shown, and
-- which frame callbacks wait.
use Rattle.std.proofs.Common.{◌≡◌, ℕ, List, Bool, true, false, Option, Some, None, cond, refl, ap, sym, subst, ◌∙◌, arith}
use Rattle.std.specs.Prelude.{◌==◌, ◌&&◌, count_by, find, not}
use Rattle.std.specs.List.{Contains}
use Rattle.std.specs.Option.{option_map}
use Rattle.spec_desktop.specs.Objects.{ById}
use Rattle.wl_links.specs.Family.{Tied}
use Rattle.wl_surface.specs.Request.{Buffer}
use Rattle.wl_surface.specs.Surface.{Surface}
use Rattle.wl_surface.specs.Applied.{AreFreed}
use Rattle.wl_surface.specs.declared.frames.Waiting.{Waiting}
use Rattle.wl_surface.specs.Slots.{IsAny, Numbered, Slots, shows_at}
use Rattle.wl_surface.specs.Surfaces.{Surfaces, is_busy, surface_at}
use Rattle.wl_surface.specs.Waiting.{AreWaiting, Callback, counted_at, frames_at}
use Rattle.wl_surface.proofs.Counting.{waiting-same}
use Rattle.wl_surface.specs.Linked.{numbered}
use Rattle.wl_surface.specs.Tree.{shown_at}
use Rattle.law_desktop.specs.Renaming.{renamed, renamed_surface}
use Rattle.law_desktop.specs.Owning.{AreKept, by_number, number_in}
use Rattle.law_desktop.proofs.Keeping.OwningSurfaces.{busy-is, surface-numbered}
use Rattle.law_desktop.proofs.Keeping.OwningTies.{read-renamed, renaming-of}

-- ---- a surface under another name

any-same : (property : Option Surface → Bool) (one other : Numbered) → ((n : ℕ) → property (one n) ≡ property (other n)) → (b : Bool) → IsAny property one b → IsAny property other b
any-same property one other same true any = (any.0, sym (same any.0) ∙ any.1)
any-same property one other same false any = λ n. sym (same n) ∙ any n

frames-renamed : (f : ℕ → ℕ) (o : Option Surface) → frames_at (option_map (renamed_surface f) o) ≡ frames_at o
frames-renamed f None = refl
frames-renamed f (Some s) = refl

counted-renamed : (f : ℕ → ℕ) (o : Option Surface) → counted_at (option_map (renamed_surface f) o) ≡ counted_at o
counted-renamed f None = refl
counted-renamed f (Some s) = refl

shows-renamed : (f : ℕ → ℕ) (buffer : ℕ) (o : Option Surface) → shows_at buffer (option_map (renamed_surface f) o) ≡ shows_at buffer o
shows-renamed f buffer None = refl
shows-renamed f buffer (Some s) = refl

shown-renamed : (f : ℕ → ℕ) (o : Option Surface) → shown_at (option_map (renamed_surface f) o) ≡ shown_at o
shown-renamed f None = refl
shown-renamed f (Some s) = refl

-- ---- of what is kept, and of what is kept after a call

module _ (numbers : ById ℕ) (slots : Slots) (tied : Tied) (all : Surfaces) (is : AreKept numbers slots tied all) where
  abbrev those : Surfaces
  those = renamed (number_in numbers) all

  -- under its number each is the one of its id, but for its name
  pub read : (n : ℕ) → numbered those n ≡ option_map (renamed_surface (number_in numbers)) (by_number numbers all n)
  read n = read-renamed numbers all is.numbered is.once (renaming-of numbers slots tied all is) n

  pub waits-here : (frames : List Waiting) (cs : List Callback) → AreWaiting frames (by_number numbers all) cs → AreWaiting frames (numbered those) cs
  waits-here frames cs waits =
      waiting-same (by_number numbers all) (numbered those) (λ n. ap frames_at (read n) ∙ frames-renamed (number_in numbers) (by_number numbers all n))
      (λ n. ap counted_at (read n) ∙ counted-renamed (number_in numbers) (by_number numbers all n)) frames cs waits

  pub frames-here : (number : ℕ) → frames_at (surface_at number those) ≡ frames_at (by_number numbers all number)
  frames-here number = ap frames_at (read number) ∙ frames-renamed (number_in numbers) (by_number numbers all number)

  busy-here : (buffer : ℕ) → IsAny (shows_at buffer) (numbered those) (is_busy buffer all)
  busy-here buffer =
      any-same (shows_at buffer) (by_number numbers all) (numbered those)
      (λ n. sym (ap (shows_at buffer) (read n) ∙ shows-renamed (number_in numbers) buffer (by_number numbers all n))) (is_busy buffer all) (busy-is numbers slots tied all is buffer)

  -- what one of those shows is shown by a surface that is there
  pub shown-here : (number : ℕ) (b : Buffer) → Contains (shown_at (surface_at number those)) b → (s : Surface) × (surface_at s.id all ≡ Some s) × Contains (shown_at (Some s)) b
  shown-here number b shown = at (by_number numbers all number) refl (subst (λ bs. Contains bs b) (ap shown_at (read number) ∙ shown-renamed (number_in numbers) (by_number numbers all number)) shown)
    where
      at : (o : Option Surface) → by_number numbers all number ≡ o → Contains (shown_at o) b → (s : Surface) × (surface_at s.id all ≡ Some s) × Contains (shown_at (Some s)) b
      at None found it = let less = it.1 in absurd (omega (arith, less))
      at (Some s) found it = (s, (surface-numbered numbers slots tied all is number s found).1, it)

  module _ (then_numbers : ById ℕ) (new : Slots) (after : Tied) (then : Surfaces) (then_is : AreKept then_numbers new after then) (made : Surfaces)
      (same : (renamed (number_in then_numbers) then).surfaces ≡ made.surfaces) where
    read-then : (n : ℕ) → numbered made n ≡ option_map (renamed_surface (number_in then_numbers)) (by_number then_numbers then n)
    read-then n =
        ap (λ ss. find (λ (s : Surface). s.id == n) ss) (sym same)
        ∙ read-renamed then_numbers then then_is.numbered then_is.once (renaming-of then_numbers new after then then_is) n

    -- which frame callbacks wait
    pub waits-then : (frames : List Waiting) (cs : List Callback) → AreWaiting frames (numbered made) cs → AreWaiting frames (by_number then_numbers then) cs
    waits-then frames cs waits =
        waiting-same (numbered made) (by_number then_numbers then) (λ n. sym (ap frames_at (read-then n) ∙ frames-renamed (number_in then_numbers) (by_number then_numbers then n)))
        (λ n. sym (ap counted_at (read-then n) ∙ counted-renamed (number_in then_numbers) (by_number then_numbers then n))) frames cs waits

    -- which buffers are freed: those that were busy and aren't any more, each once
    pub freed-then : (freed : List ℕ) → AreFreed freed (numbered those) (numbered made) → (buffer : ℕ)
        → count_by (λ n. n == buffer) freed ≡ cond (is_busy buffer all && not (is_busy buffer then)) 1 0
    freed-then freed are buffer =
        are buffer (is_busy buffer all) (is_busy buffer then) (busy-here buffer)
        (any-same (shows_at buffer) (by_number then_numbers then) (numbered made)
        (λ n. sym (ap (shows_at buffer) (read-then n) ∙ shows-renamed (number_in then_numbers) buffer (by_number then_numbers then n))) (is_busy buffer then)
        (busy-is then_numbers new after then then_is buffer))
