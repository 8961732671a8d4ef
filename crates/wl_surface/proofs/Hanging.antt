-- What is kept of how surfaces hang together, after each request.
use Rattle.std.proofs.Common.{◌≡◌, ℕ, suc, ◌+◌, ◌≤◌, ◌==◌, Bool, true, false, cond, Option, Some, None, List, [], ◌∷◌, ◌++◌, map, length, take, refl, ap, sym, subst, ◌∙◌, arith}
use Rattle.std.specs.Prelude.{find, if◌then◌else◌}
use Rattle.std.specs.List.{list_any}
use Rattle.std.specs.Option.{option_map}
use Rattle.std.proofs.lemmas.Bool.{eqb-true}
use Rattle.std.proofs.lemmas.List.{length-append, take-append-le, take_all}
use Rattle.wl_links.specs.declared.placed.Placed.{Placed}
use Rattle.wl_links.specs.Stacks.{Stacks}
use Rattle.wl_links.specs.Family.{Tied, applied, changed_at, childless, committed, links_in, stacks_in}
use Rattle.wl_surface.specs.Request.{Child, Commit, Request}
use Rattle.wl_surface.specs.State.{History, apply, committed as committed_at, committed_from, is_commit, is_member, order, position}
use Rattle.wl_surface.specs.Surface.{Surface, applying, asking}
use Rattle.wl_surface.specs.Surfaces.{Surfaces, history_in, link_at, with_change}
use Rattle.wl_surface.proofs.StateCommits.{committed-last}
use Rattle.wl_surface.specs.Hanging.{AppliesStack, AreTied, AsksAlone, CommitsStack, HangsAs, kids_of, stacks_at, stacks_by}
use Rattle.wl_surface.specs.Stacks.{Kids, has_child, is_about_children, stack_by}
use Rattle.wl_surface.proofs.Stacking.{follow-still, order-last, order-still, position-last, position-still}

-- ---- a surface that changes

changed-id : (b : Bool) (f : Surface → Surface) (s : Surface) → (f s).id ≡ s.id → (cond b (f s) s).id ≡ s.id
changed-id true f s same = same
changed-id false f s same = refl

find-changed : (n k : ℕ) (f : Surface → Surface) → ((s : Surface) → (f s).id ≡ s.id) → (xs : List Surface)
    → find (λ s. s.id == n) (map (λ s. cond (s.id == k) (f s) s) xs) ≡ option_map (λ s. cond (n == k) (f s) s) (find (λ s. s.id == n) xs)
find-changed n k f same [] = refl
find-changed n k f same (x ∷ xs) = at (x.id == n) refl (find-changed n k f same xs)
  where
    at : (b : Bool) → (x.id == n) ≡ b
        → find (λ s. s.id == n) (map (λ s. cond (s.id == k) (f s) s) xs) ≡ option_map (λ s. cond (n == k) (f s) s) (find (λ s. s.id == n) xs)
        → find (λ s. s.id == n) (map (λ s. cond (s.id == k) (f s) s) (x ∷ xs)) ≡ option_map (λ s. cond (n == k) (f s) s) (find (λ s. s.id == n) (x ∷ xs))
    at true e next =
        let here = ap (λ m. m == n) (changed-id (x.id == k) f x (same x)) ∙ e in
        rw (here, e) (ap (λ m. Some (cond (m == k) (f x) x)) (eqb-true x.id n e))
    at false e next =
        let here = ap (λ m. m == n) (changed-id (x.id == k) f x (same x)) ∙ e in
        rw (here, e) next

-- what was asked of each surface, where that of one changes
pub history-changed : (n k : ℕ) (f : Surface → Surface) (g : History → History) (all : Surfaces) → ((s : Surface) → (f s).id ≡ s.id) → ((s : Surface) → (f s).history ≡ g s.history)
    → history_in n (with_change k f all) ≡ option_map (λ h. cond (n == k) (g h) h) (history_in n all)
history-changed n k f g all same changes = ap (option_map (λ s. s.history)) (find-changed n k f same all.surfaces) ∙ at (n == k) (find (λ s. s.id == n) all.surfaces)
  where
    at : (b : Bool) (o : Option Surface) → option_map (λ s. s.history) (option_map (λ s. cond b (f s) s) o) ≡ option_map (λ h. cond b (g h) h) (option_map (λ s. s.history) o)
    at b None = refl
    at true (Some s) = ap (λ h. Some h) (changes s)
    at false (Some s) = refl

-- ---- one request more, and what counts

committed-more : (rs : List Request) (at last : ℕ) (r : Request) → is_commit r ≡ false → committed_from at last (rs ++ r ∷ []) ≡ committed_from at last rs
committed-more [] at last r none = ap (λ b. if b then suc at else last) none
committed-more (x ∷ xs) at last r none = committed-more xs (suc at) (if is_commit x then suc at else last) r none

pub committed-same : (rs : List Request) (r : Request) → is_commit r ≡ false → committed_at (rs ++ r ∷ []) ≡ committed_at rs
committed-same rs r none = committed-more rs 0 0 r none

committed-bound : (rs : List Request) (at last : ℕ) → last ≤ at → committed_from at last rs ≤ at + length rs
committed-bound [] at last le = omega (arith, le)
committed-bound (x ∷ xs) at last le =
    let next = committed-bound xs (suc at) (if is_commit x then suc at else last) (choose (is_commit x)) in omega (arith, next)
  where
    choose : (b : Bool) → (if b then suc at else last) ≤ suc at
    choose true = omega arith
    choose false = omega (arith, le)

pub committed-within : (rs : List Request) → committed_at rs ≤ length rs
committed-within rs = let le = committed-bound rs 0 0 (omega arith) in omega (arith, le)

-- the commits of a list, and what counts of it, once a request more is asked that is none
pub take-more : (n : ℕ) (rs : List Request) (r : Request) → n ≤ length rs → take n (rs ++ r ∷ []) ≡ take n rs
take-more n rs r le = take-append-le n rs (r ∷ []) le

abbrev stacks_as : List Placed → List Placed → List Placed → Stacks
stacks_as a b c = record { pending = a; held = b; applied = c }

pub same-stacks : {a b c d e f : List Placed} → a ≡ d → b ≡ e → c ≡ f → stacks_as a b c ≡ stacks_as d e f
same-stacks e f g = rw (e, f, g) refl

-- ---- one surface changes

-- what was asked of a surface before, which now is that
pub record WasAsked (o : Option History) (g : History → History) (b : Bool) (new : History) : Type 0 where
  pub old : History
  pub here : o ≡ Some old
  pub now : cond b (g old) old ≡ new

pub was-asked : (o : Option History) (g : History → History) (b : Bool) (new : History) → option_map (λ h. cond b (g h) h) o ≡ Some new → WasAsked o g b new
was-asked None g b new e = absurd (cc)
was-asked (Some h) g b new e = record { old = h; here = refl; now = cc }

module _ (all : Surfaces) (k : ℕ) (f : Surface → Surface) (g : History → History) (same : (s : Surface) → (f s).id ≡ s.id) (changes : (s : Surface) → (f s).history ≡ g s.history) where
  asked-before : (n : ℕ) (new : History) → history_in n (with_change k f all) ≡ Some new → WasAsked (history_in n all) g (n == k) new
  asked-before n new e = was-asked (history_in n all) g (n == k) new (sym (history-changed n k f g all same changes) ∙ e)

  pub tied-changed : ((h : History) → h.cut ≤ committed_at h.requests → (g h).cut ≤ committed_at (g h).requests)
      → ((l : ℕ) (h : History) → history_in k all ≡ Some h → has_child l (g h).requests ≡ has_child l h.requests)
      → ((l : ℕ) (h : History) → link_at l all ≡ None → position l (g h).requests ≡ position l h.requests)
      → AreTied all → AreTied (with_change k f all)
  tied-changed cuts children places tied = record {
    once = tied.once;
    apart = tied.apart;
    cuts = λ n new e. let was = asked-before n new e in cut n was.old new (n == k) was.now (tied.cuts n was.old was.here);
    named = λ n l new e none. let was = asked-before n new e in sym (child n l was.old new (n == k) refl was.here was.now) ∙ tied.named n l was.old was.here none;
    placed = λ n l new e none. let was = asked-before n new e in sym (place l was.old new (n == k) none was.now) ∙ tied.placed n l was.old was.here none;
    parents = λ n l new link e there lives has.
        let was = asked-before n new e in tied.parents n l was.old link was.here there lives (child n l was.old new (n == k) refl was.here was.now ∙ has);
    listed = λ l link there lives.
        let is = tied.listed l link there lives in
        let now = history-changed link.parent k f g all same changes ∙ ap (option_map (λ h. cond (link.parent == k) (g h) h)) is.1 in
        (cond (link.parent == k) (g is.0) is.0, now, sym (child link.parent l is.0 _ (link.parent == k) refl is.1 refl) ∙ is.2);
  }
    where
      cut : (n : ℕ) (old new : History) (b : Bool) → cond b (g old) old ≡ new → old.cut ≤ committed_at old.requests → new.cut ≤ committed_at new.requests
      cut n old new true is le = subst (λ (h : History). h.cut ≤ committed_at h.requests) is (cuts old le)
      cut n old new false is le = subst (λ (h : History). h.cut ≤ committed_at h.requests) is le

      child : (n l : ℕ) (old new : History) (b : Bool) → (n == k) ≡ b → history_in n all ≡ Some old → cond b (g old) old ≡ new → has_child l old.requests ≡ has_child l new.requests
      child n l old new true here there is =
          sym (children l old (ap (λ m. history_in m all) (sym (eqb-true n k here)) ∙ there)) ∙ ap (λ (h : History). has_child l h.requests) is
      child n l old new false here there is = ap (λ (h : History). has_child l h.requests) is

      place : (l : ℕ) (old new : History) (b : Bool) → link_at l all ≡ None → cond b (g old) old ≡ new → position l old.requests ≡ position l new.requests
      place l old new true none is = sym (places l old none) ∙ ap (λ (h : History). position l h.requests) is
      place l old new false none is = ap (λ (h : History). position l h.requests) is

  pub hangs-changed : (old new : Tied) (change : Stacks → Stacks) → links_in new ≡ links_in old
      → ((n : ℕ) → stacks_in new n ≡ cond (n == k) (change (stacks_in old n)) (stacks_in old n)) → change childless ≡ childless
      → ((h : History) → history_in k all ≡ Some h → stacks_by (kids_of all) (g h) ≡ change (stacks_by (kids_of all) h)) → HangsAs old all → HangsAs new (with_change k f all)
  hangs-changed old new change links stacks none each hang = record {
    links = λ child. ap (λ book. book child) links ∙ hang.links child;
    stacks = λ n.
        stacks n ∙ ap (λ s. cond (n == k) (change s) s) (hang.stacks n) ∙ at n (n == k) refl (history_in n all) refl
        ∙ ap (stacks_at (kids_of all)) (sym (history-changed n k f g all same changes));
  }
    where
      at : (n : ℕ) (b : Bool) → (n == k) ≡ b → (o : Option History) → history_in n all ≡ o
          → cond b (change (stacks_at (kids_of all) o)) (stacks_at (kids_of all) o) ≡ stacks_at (kids_of all) (option_map (λ h. cond b (g h) h) o)
      at n true e None is = none
      at n false e None is = refl
      at n true e (Some h) is = sym (each h (ap (λ m. history_in m all) (sym (eqb-true n k e)) ∙ is))
      at n false e (Some h) is = refl

-- the stacks of one surface change, those of the others stay
pub changed-pointwise : (k : ℕ) (change : Stacks → Stacks) (old new : ℕ → Stacks) → new ≡ changed_at k change old → (n : ℕ) → new n ≡ cond (n == k) (change (old n)) (old n)
changed-pointwise k change old new e n = ap (λ all. all n) e ∙ at (n == k) refl
  where
    at : (b : Bool) → (n == k) ≡ b → (if b then change (old k) else old n) ≡ cond b (change (old n)) (old n)
    at true here = ap (λ m. change (old m)) (sym (eqb-true n k here))
    at false here = refl

-- ---- what is asked of a surface itself

stacks-still : (kids : Kids) (h : History) (r : Request) → is_about_children r ≡ false → is_commit r ≡ false → h.cut ≤ committed_at h.requests
    → stacks_by kids (record h { requests = h.requests ++ r ∷ [] }) ≡ stacks_by kids h
stacks-still kids h r about none le =
    let within = committed-within h.requests in
    same-stacks (follow-still kids h.requests r about)
    (ap (λ n. stack_by kids (take n (h.requests ++ r ∷ []))) (committed-same h.requests r none) ∙ ap (stack_by kids) (take-more (committed_at h.requests) h.requests r within))
    (ap (stack_by kids) (take-more h.cut h.requests r (omega (arith, le, within))))

child-still : (l : ℕ) (rs : List Request) (r : Request) → is_about_children r ≡ false → has_child l (rs ++ r ∷ []) ≡ has_child l rs
child-still l rs r about = ap (list_any (is_member (Child l))) (order-last rs r ∙ order-still (order rs) r about)

place-still : (l : ℕ) (rs : List Request) (r : Request) → is_about_children r ≡ false → position l (rs ++ r ∷ []) ≡ position l rs
place-still l rs r about = position-last l rs r ∙ position-still l (position l rs) r about

abbrev pub with_asked : Request → History → History
with_asked r h = record h { requests = h.requests ++ r ∷ [] }

pub asks-alone : AsksAlone
asks-alone tied all surface r about none hang = (
  hangs-changed all surface (asking r) (with_asked r) (λ s. refl) (λ s. refl) tied tied (λ s. s) refl (λ n. same-either (n == surface) (stacks_in tied n)) refl
      (λ h there. stacks-still (kids_of all) h r about none (hang.1.cuts surface h there)) hang.0,
  tied-changed all surface (asking r) (with_asked r) (λ s. refl) (λ s. refl)
      (λ h le. let is = committed-same h.requests r none in omega (arith, le, is)) (λ l h there. child-still l h.requests r about) (λ l h gone. place-still l h.requests r about) hang.1,
)
  where
    same-either : (b : Bool) (s : Stacks) → s ≡ cond b s s
    same-either true s = refl
    same-either false s = refl

-- ---- what is committed, and what is applied

stacks-committed : (kids : Kids) (h : History) → h.cut ≤ committed_at h.requests → stacks_by kids (with_asked Commit h) ≡ committed (stacks_by kids h)
stacks-committed kids h le =
    let within = committed-within h.requests in
    let still = follow-still kids h.requests Commit refl in
    same-stacks still
    (ap (λ n. stack_by kids (take n (h.requests ++ Commit ∷ []))) (committed-last h.requests)
    ∙ (ap (stack_by kids) (take_all (length (h.requests ++ Commit ∷ [])) (h.requests ++ Commit ∷ []) (omega arith)) ∙ still))
    (ap (stack_by kids) (take-more h.cut h.requests Commit (omega (arith, le, within))))

pub commits-stack : CommitsStack
commits-stack old new all surface links stacks hang = (
  hangs-changed all surface (asking Commit) (with_asked Commit) (λ s. refl) (λ s. refl) old new committed links
      (changed-pointwise surface committed (stacks_in old) (stacks_in new) stacks) refl (λ h there. stacks-committed (kids_of all) h (hang.1.cuts surface h there)) hang.0,
  tied-changed all surface (asking Commit) (with_asked Commit) (λ s. refl) (λ s. refl)
      (λ h le. let within = committed-within h.requests in let last = committed-last h.requests in let longer = length-append h.requests (Commit ∷ []) in omega (arith, le, within, last, longer))
      (λ l h there. child-still l h.requests Commit refl) (λ l h gone. place-still l h.requests Commit refl) hang.1,
)

pub applies-stack : AppliesStack
applies-stack old new all surface links stacks hang = (
  hangs-changed all surface applying apply (λ s. refl) (λ s. refl) old new applied links (changed-pointwise surface applied (stacks_in old) (stacks_in new) stacks) refl (λ h there. refl)
      hang.0,
  tied-changed all surface applying apply (λ s. refl) (λ s. refl) (λ h le. omega arith) (λ l h there. refl) (λ l h gone. refl) hang.1,
)
