-- Links that change, each on its own.
use Rattle.std.proofs.Common.{◌≡◌, ℕ, ◌||◌, ◌&&◌, ◌==◌, Bool, true, false, cond, Option, Some, None, List, [], ◌∷◌, map, refl, ap, sym, ◌∙◌}
use Rattle.std.specs.Prelude.{find, not}
use Rattle.std.specs.List.{list_any}
use Rattle.std.specs.Option.{option_map}
use Rattle.wl_surface.specs.Surfaces.{Link, Surfaces, history_in, link_at}
use Rattle.wl_surface.specs.Hanging.{AreNumbered, AreTied}
use Rattle.wl_surface.specs.TreeLaws.{AreOnceLinked, is_live_of}

-- A change of a link keeps its child and its parent, and makes no ended link live.
pub record KeepsLink (f : Link → Link) : Type 0 where
  pub number : (l : Link) → (f l).number ≡ l.number
  pub child : (l : Link) → (f l).child ≡ l.child
  pub parent : (l : Link) → (f l).parent ≡ l.parent
  pub ended : (l : Link) → l.has_ended ≡ true → (f l).has_ended ≡ true

pub or-false : (a b : Bool) → (a || b) ≡ false → (a ≡ false) × (b ≡ false)
or-false false b e = (refl, e)
or-false true b e = absurd (cc)

pub both-false : (a b : Bool) → a ≡ false → b ≡ false → (a || b) ≡ false
both-false a b e f = rw (e, f) refl

-- ---- one link changes

pub changed-number : (b : Bool) (f : Link → Link) (l : Link) → (f l).number ≡ l.number → (cond b (f l) l).number ≡ l.number
changed-number true f l same = same
changed-number false f l same = refl

pub changed-child : (b : Bool) (f : Link → Link) (l : Link) → KeepsLink f → (cond b (f l) l).child ≡ l.child
changed-child true f l keeps = keeps.child l
changed-child false f l keeps = refl

changed-parent : (b : Bool) (f : Link → Link) (l : Link) → KeepsLink f → (cond b (f l) l).parent ≡ l.parent
changed-parent true f l keeps = keeps.parent l
changed-parent false f l keeps = refl

changed-ended : (b : Bool) (f : Link → Link) (l : Link) → KeepsLink f → l.has_ended ≡ true → (cond b (f l) l).has_ended ≡ true
changed-ended true f l keeps e = keeps.ended l e
changed-ended false f l keeps e = e

-- Some links change and others stay; each keeps what it has.
pub keeps-where : (which : Link → Bool) (f : Link → Link) → KeepsLink f → KeepsLink (λ l. cond (which l) (f l) l)
keeps-where which f keeps = record {
  number = λ l. changed-number (which l) f l (keeps.number l);
  child = λ l. changed-child (which l) f l keeps;
  parent = λ l. changed-parent (which l) f l keeps;
  ended = λ l e. changed-ended (which l) f l keeps e;
}

-- ---- each link changes

module _ (g : Link → Link) (keeps : KeepsLink g) where
  -- the links by their numbers
  pub at-each : (n : ℕ) (ls : List Link) → find (λ (l : Link). l.number == n) (map g ls) ≡ option_map g (find (λ (l : Link). l.number == n) ls)
  at-each n [] = refl
  at-each n (x ∷ xs) = at (x.number == n) refl (at-each n xs)
    where
      at : (b : Bool) → (x.number == n) ≡ b → find (λ (l : Link). l.number == n) (map g xs) ≡ option_map g (find (λ (l : Link). l.number == n) xs)
          → find (λ (l : Link). l.number == n) (map g (x ∷ xs)) ≡ option_map g (find (λ (l : Link). l.number == n) (x ∷ xs))
      at true e next = let here = ap (λ m. m == n) (keeps.number x) ∙ e in rw (here, e) refl
      at false e next = let here = ap (λ m. m == n) (keeps.number x) ∙ e in rw (here, e) next

  -- numbers stay apart
  numbered-none : (n : ℕ) (ls : List Link) → list_any (λ l. l.number == n) (map g ls) ≡ list_any (λ l. l.number == n) ls
  numbered-none n [] = refl
  numbered-none n (x ∷ xs) = let here = ap (λ m. m == n) (keeps.number x) in rw here (ap (λ b. x.number == n || b) (numbered-none n xs))

  numbered-each : (ls : List Link) → AreNumbered ls → AreNumbered (map g ls)
  numbered-each [] apart = tt
  numbered-each (x ∷ xs) apart = (ap (λ m. list_any (λ l. l.number == m) (map g xs)) (keeps.number x) ∙ (numbered-none x.number xs ∙ apart.0), numbered-each xs apart.1)

  -- No ended link lives again.
  pub none-live : (c : ℕ) (ls : List Link) → list_any (is_live_of c) ls ≡ false → list_any (is_live_of c) (map g ls) ≡ false
  none-live c [] none = refl
  none-live c (x ∷ xs) none =
      let parts = or-false (is_live_of c x) (list_any (is_live_of c) xs) none in
      both-false _ _ (ap (λ m. not (g x).has_ended && m == c) (keeps.child x) ∙ fewer x.has_ended (g x).has_ended (x.child == c) (keeps.ended x) parts.0) (none-live c xs parts.1)
    where
      fewer : (ended new same : Bool) → (ended ≡ true → new ≡ true) → (not ended && same) ≡ false → (not new && same) ≡ false
      fewer true new same ends none = ap (λ b. not b && same) (ends refl)
      fewer false true same ends none = refl
      fewer false false same ends none = none

  -- A link that lives lived before.
  lived : (l : Link) (b : Bool) → l.has_ended ≡ b → (g l).has_ended ≡ false → l.has_ended ≡ false
  lived l false e lives = e
  lived l true e lives = absurd (let both = sym (keeps.ended l e) ∙ lives in cc)

  once-each : (ls : List Link) → AreOnceLinked ls → AreOnceLinked (map g ls)
  once-each [] once = tt
  once-each (x ∷ xs) once = (
    λ lives. ap (λ c. list_any (is_live_of c) (map g xs)) (keeps.child x) ∙ none-live x.child xs (once.0 (lived x x.has_ended refl lives)),
    once-each xs once.1,
  )

  -- A changed link is what it was made from.
  pub record WasLink (o : Option Link) (new : Link) : Type 0 where
    pub old : Link
    pub here : o ≡ Some old
    pub now : g old ≡ new

  pub was-link : (o : Option Link) (new : Link) → option_map g o ≡ Some new → WasLink o new
  was-link None new e = absurd (cc)
  was-link (Some l) new e = record { old = l; here = refl; now = cc }

  gone-link : (o : Option Link) → option_map g o ≡ None → o ≡ None
  gone-link None e = refl
  gone-link (Some l) e = absurd (cc)

  module _ (all : Surfaces) where
    abbrev changed : Surfaces
    changed = record all { links = map g all.links }

    before : (l : ℕ) → link_at l changed ≡ None → link_at l all ≡ None
    before l gone = gone-link (link_at l all) (sym (at-each l all.links) ∙ gone)

    was : (l : ℕ) (new : Link) → link_at l changed ≡ Some new → WasLink (link_at l all) new
    was l new e = was-link (link_at l all) new (sym (at-each l all.links) ∙ e)

    -- all is as it should be
    pub each-tied : AreTied all → AreTied changed
    each-tied tied = record {
      once = once-each all.links tied.once;
      apart = numbered-each all.links tied.apart;
      cuts = tied.cuts;
      named = λ n l h there gone. tied.named n l h there (before l gone);
      placed = λ n l h there gone. tied.placed n l h there (before l gone);
      parents = λ n l h new there e lives has.
          let it = was l new e in
          let lives_too = lived it.old it.old.has_ended refl (ap (λ (l : Link). l.has_ended) it.now ∙ lives) in
          ap (λ (l : Link). l.parent) (sym it.now) ∙ (keeps.parent it.old ∙ tied.parents n l h it.old there it.here lives_too has);
      listed = λ l new e lives.
          let it = was l new e in
          let is = tied.listed l it.old it.here (lived it.old it.old.has_ended refl (ap (λ (l : Link). l.has_ended) it.now ∙ lives)) in
          let same = ap (λ (l : Link). l.parent) (sym it.now) ∙ keeps.parent it.old in
          (is.0, ap (λ p. history_in p all) same ∙ is.1, is.2);
    }
