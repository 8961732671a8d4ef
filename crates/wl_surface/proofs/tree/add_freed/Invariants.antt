use Rattle.std.proofs.Common.{◌≡◌, ◌≤◌, ◌==◌, ◌&&◌, ℕ, Bool, true, cond, map, not, take}
use Rattle.std.specs.Prelude.{count_by, vec_capacity, vec_len}
use Rattle.wl_surface.specs.Kept.{buffer_of}
use Rattle.wl_surface.specs.Slots.{IsAny, Numbered, StandForAll, shows_at}
use Rattle.wl_surface.specs.Tree.{is_among, numbers_of}
use Rattle.wl_surface.proofs.tree.add_freed.Given as goal

abbrev pub invariant-loop-buffer : goal.invariant-loop-buffer
invariant-loop-buffer g l = record {
  len : vec_len l.freed ≤ l.buffer-index;
  capacity : vec_capacity l.freed ≡ vec_capacity l.initial.freed;
  counted : (all : Numbered) → StandForAll l.surfaces all → (buffer : ℕ) (is : Bool) → IsAny (shows_at buffer) all is
      → count_by (λ n. n == buffer) l.freed.items ≡ cond (is_among (take l.buffer-index (numbers_of (map buffer_of l.shown))) buffer && not is) 1 0;
  among : (number : ℕ) → is_among l.freed.items number ≡ true → is_among (take l.buffer-index (numbers_of (map buffer_of l.shown))) number ≡ true;
}
