use Rattle.std.proofs.Common.{◌≡◌, ◌≤◌, ◌-◌, ◌++◌, List, ℕ, [], length, replicate, ap, refl, sym, true, ◌∙◌}
use Rattle.std.specs.Prelude.{nat_lt}
use Rattle.wl_store.specs.Kept.{Kept}
use Rattle.wl_store.proofs.Writes.{blank-none, grown-is, refilled-is, within-grown, within-room}
use Rattle.wl_store.proofs.store.Store.grow.Goals.{then-not-is_blank+in_ok-resize, else-not-is_blank+then-capacity-count+in_ok-self-inside, else-not-is_blank+else-capacity-count}
use Rattle.wl_store.proofs.store.Store.grow.Goals as goal

pub returns-clause-ok : goal.returns-clause-ok
returns-clause-ok g c =
    let inside = c.self.inside in
    let was = inside.bytes.items in
    let room : length was ≤ inside.size = within-room inside.size inside.bytes.cap was c.self.invariant in
    let seen = ap (λ (k : Kept). k.held) c.self.view_is in
    let within = within-grown inside.number inside.uses inside.size c.args.size was c.args.self.now.held seen room c.requires in
    let padded : List ℕ → List ℕ = λ bytes. bytes ++ replicate (c.args.size - length bytes) 0 in
    let with_bytes = λ (now : List ℕ) (e : padded now ≡ padded was). grown-is inside.number inside.uses inside.size c.args.size was now c.args.self.now.held seen room c.requires e in
    elim c.if-not-is_blank.branch [
      | then-not-is_blank+in_ok-resize w ↦
          rw w.self-inside-is
          (with_bytes w.resize.new.self.items (refilled-is c.args.size inside.bytes.len was was w.resize.new.self.items within refl inside.bytes.ok.0 w.in_ok-resize.ensures.items))
      | else-not-is_blank+then-capacity-count+in_ok-self-inside w ↦
          let view = ap (λ (k : Kept). k.blank) c.self.view_is in
          let blank : nat_lt (length was) inside.size ≡ true = cc (view, c.is_blank.ensures, w.if-not-is_blank.false) in
          let none = blank-none inside.size inside.bytes.cap was c.self.invariant blank in
          rw w.self-inside-is (with_bytes w.in_ok-self-inside.field-0.items (ap padded (w.in_ok-self-inside.ensures.items ∙ sym none)))
      | else-not-is_blank+else-capacity-count w ↦ rw w.self-inside-is (with_bytes was refl)
    ]
