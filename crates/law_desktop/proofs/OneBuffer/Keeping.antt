-- What keeps one buffer of each number.
use Rattle.std.proofs.Common.{◌≡◌, ◌≤◌, ℕ, ◌+◌, Bool, true, false, Some, None, refl, ap, sym, subst, ◌∙◌, inl, inr, arith}
use Rattle.std.specs.Prelude.{◌==◌, ◌⊎◌, if◌then◌else◌}
use Rattle.std.proofs.lemmas.Bool.{eqb-true}
use Rattle.spec_desktop.specs.Buffers.{Buffer as Made, Laid, numbered}
use Rattle.spec_desktop.specs.Objects.{ById, nothing, with_id}
use Rattle.wl_surface.specs.Request.{Buffer}
use Rattle.wl_surface.specs.Surfaces.{Surfaces, no_surfaces}
use Rattle.spec_desktop.specs.WlSurface.{buffer_of}
use Rattle.law_desktop.specs.OneBuffer.{IsAttached, OneBuffer}
use Rattle.law_desktop.proofs.OneBuffer.Attached.{Fewer, FewerOr}

some-made : (a b : Made) → Some a ≡ Some b → a ≡ b
some-made a b e = cc

-- a client without wl_buffers and surfaces
pub nothing-one : (requests : ℕ) → OneBuffer requests nothing no_surfaces
nothing-one requests =
    record {
      attached_once = λ a b h k e. absurd h;
      named = λ id made b e h f. absurd h;
      made_once = λ k l a b e f same. absurd (none-made a e);
      attached_before = λ b h. absurd h;
      made_before = λ id made e. absurd (none-made made e);
    }
  where
    none-made : (a : Made) → None ≡ Some a → ⊥
    none-made a e = absurd (cc)

-- the wl_buffers that are there were so before
abbrev pub FewerMade : ById Made → ById Made → Type 0
FewerMade old new = (id : ℕ) (made : Made) → new id ≡ Some made → old id ≡ Some made

le-more : (k m n : ℕ) → m ≤ n → k ≤ m → k ≤ n
le-more k m n h e = omega (arith, h, e)

pub fewer-one : (m n : ℕ) (buffers now : ById Made) (all new : Surfaces) → m ≤ n → FewerMade buffers now → Fewer all new → OneBuffer m buffers all → OneBuffer n now new
fewer-one m n buffers now all new more fewer left one =
    record {
      attached_once = λ a b h k e. one.attached_once a b (left a h) (left b k) e;
      named = λ id made b e h f. one.named id made b (fewer id made e) (left b h) f;
      made_once = λ k l a b e f same. one.made_once k l a b (fewer k a e) (fewer l b f) same;
      attached_before = λ b h. le-more b.number m n more (one.attached_before b (left b h));
      made_before = λ id made e. le-more made.number m n more (one.made_before id made (fewer id made e));
    }

-- a wl_buffer goes
pub fewer-gone : (id : ℕ) (buffers : ById Made) → FewerMade buffers (with_id id None buffers)
fewer-gone id buffers k made e = at (k == id) e
  where
    at : (b : Bool) → (if b then None else buffers k) ≡ Some made → buffers k ≡ Some made
    at true e = absurd (cc)
    at false e = e

-- ---- a wl_buffer is made, of the next number

never-past : (k l n : ℕ) → k ≡ l → l ≡ n + 1 → k ≤ n → ⊥
never-past k l n e f h = omega (arith, e, f, h)

le-next : (k n : ℕ) → k ≤ n → k ≤ n + 1
le-next k n h = omega (arith, h)

le-same : (k n : ℕ) → k ≡ n → k ≤ n
le-same k n h = omega (arith, h)

module _ (n id : ℕ) (laid : Laid) (buffers : ById Made) (all : Surfaces) (one : OneBuffer n buffers all) where
  abbrev Now : ById Made
  Now = with_id id (Some (numbered (n + 1) laid)) buffers

  -- which one is there
  abbrev IsNewOr : ℕ → Made → Type 0
  IsNewOr k made = ((k ≡ id) × (made.number ≡ n + 1)) ⊎ (buffers k ≡ Some made)

  new-or : (k : ℕ) (made : Made) → Now k ≡ Some made → IsNewOr k made
  new-or k made e = at (k == id) refl e
    where
      at : (b : Bool) → (k == id) ≡ b → (if b then Some (numbered (n + 1) laid) else buffers k) ≡ Some made → IsNewOr k made
      at true is e = inl (eqb-true k id is, ap (λ (m : Made). m.number) (sym (some-made (numbered (n + 1) laid) made e)))
      at false is e = inr e

  named-so : (k : ℕ) (made : Made) (b : Buffer) → IsNewOr k made → IsAttached b all → b.number ≡ made.number → b ≡ buffer_of k made
  named-so k made b (inl is) h e = absurd (never-past b.number made.number n e is.1 (one.attached_before b h))
  named-so k made b (inr is) h e = one.named k made b is h e

  once-so : (k l : ℕ) (a b : Made) → IsNewOr k a → IsNewOr l b → a.number ≡ b.number → k ≡ l
  once-so k l a b (inl is) (inl too) e = is.0 ∙ sym too.0
  once-so k l a b (inl is) (inr too) e = absurd (never-past b.number a.number n (sym e) is.1 (one.made_before l b too))
  once-so k l a b (inr is) (inl too) e = absurd (never-past a.number b.number n e too.1 (one.made_before k a is))
  once-so k l a b (inr is) (inr too) e = one.made_once k l a b is too e

  before-so : (k : ℕ) (made : Made) → IsNewOr k made → made.number ≤ n + 1
  before-so k made (inl is) = le-same made.number (n + 1) is.1
  before-so k made (inr is) = le-next made.number n (one.made_before k made is)

  pub created-one : OneBuffer (n + 1) Now all
  created-one =
      record {
        attached_once = one.attached_once;
        named = λ k made b e h f. named-so k made b (new-or k made e) h f;
        made_once = λ k l a b e f same. once-so k l a b (new-or k a e) (new-or l b f) same;
        attached_before = λ b h. le-next b.number n (one.attached_before b h);
        made_before = λ k made e. before-so k made (new-or k made e);
      }

-- ---- a buffer is attached

-- it is that of a wl_buffer that is there
abbrev pub Lives : ById Made → Buffer → Type 0
Lives buffers b = (id : ℕ) × (made : Made) × (buffers id ≡ Some made) × (b ≡ buffer_of id made)

module _ (n : ℕ) (buffers : ById Made) (all : Surfaces) (one : OneBuffer n buffers all) where
  -- the number of a buffer is that of its wl_buffer
  number-of : (b : Buffer) (l : Lives buffers b) → b.number ≡ l.1.number
  number-of b l = ap (λ (x : Buffer). x.number) l.3

  -- wl_buffers of one number are the same
  same-made : (k l : ℕ) (a b : Made) → buffers k ≡ Some a → buffers l ≡ Some b → a.number ≡ b.number → buffer_of k a ≡ buffer_of l b
  same-made k l a b e f same =
      let id : k ≡ l = one.made_once k l a b e f same in
      let made : a ≡ b = some-made a b (sym e ∙ ap (λ (x : ℕ). buffers x) id ∙ f) in
      ap (λ (x : ℕ). buffer_of x a) id ∙ ap (λ (m : Made). buffer_of l m) made

  named-or : (k : ℕ) (made : Made) (b : Buffer) → buffers k ≡ Some made → IsAttached b all ⊎ Lives buffers b → b.number ≡ made.number → b ≡ buffer_of k made
  named-or k made b e (inl h) same = one.named k made b e h same
  named-or k made b e (inr l) same = l.3 ∙ same-made l.0 k l.1 made l.2 e (sym (number-of b l) ∙ same)

  once-or : (a b : Buffer) → IsAttached a all ⊎ Lives buffers a → IsAttached b all ⊎ Lives buffers b → a.number ≡ b.number → a ≡ b
  once-or a b (inl h) (inl k) e = one.attached_once a b h k e
  once-or a b h (inr l) e = named-or l.0 l.1 a l.2 h (e ∙ number-of b l) ∙ sym l.3
  once-or a b (inr l) k e = l.3 ∙ sym (named-or l.0 l.1 b l.2 k (sym e ∙ number-of a l))

  before-or : (b : Buffer) → IsAttached b all ⊎ Lives buffers b → b.number ≤ n + 1
  before-or b (inl h) = le-next b.number n (one.attached_before b h)
  before-or b (inr l) = le-next b.number n (subst (λ (x : ℕ). x ≤ n) (sym (number-of b l)) (one.made_before l.0 l.1 l.2))

  pub attached-one : (new : Surfaces) → FewerOr (Lives buffers) all new → OneBuffer (n + 1) buffers new
  attached-one new or =
      record {
        attached_once = λ a b h k e. once-or a b (or a h) (or b k) e;
        named = λ id made b e h f. named-or id made b e (or b h) f;
        made_once = one.made_once;
        attached_before = λ b h. before-or b (or b h);
        made_before = λ id made e. le-next made.number n (one.made_before id made e);
      }
