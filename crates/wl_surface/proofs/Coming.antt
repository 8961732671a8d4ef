-- What is kept of how surfaces hang together, after trees are applied and surfaces come and go.
use Rattle.std.proofs.Common.{◌≡◌, ℕ, ◌≤◌, ◌⊎◌, inl, inr, ◌==◌, Bool, true, false, cond, Option, Some, None, List, [], ◌∷◌, map, refl, ap, sym, subst, ◌∙◌, arith}
use Rattle.std.specs.Prelude.{pos, filter, find, not, if◌then◌else◌}
use Rattle.std.specs.Option.{option_map, option_or}
use Rattle.std.proofs.lemmas.Bool.{eqb-true}
use Rattle.std.proofs.lemmas.List.Folds.{find-append}
use Rattle.wl_links.specs.Family.{applied, childless, stacks_in}
use Rattle.wl_surface.specs.State.{History, apply, committed as committed_at, position}
use Rattle.wl_surface.specs.Surface.{Surface, applying, new_surface}
use Rattle.wl_surface.specs.Surfaces.{Link, Surfaces, history_in, link_at, surface_at, with_new, without_surface}
use Rattle.wl_surface.specs.Trees.{descends_from}
use Rattle.wl_surface.specs.Hanging.{AppliesTree, AreTied, CreatesSurface, Hang, RemovesSurface, kids_of, stacks_at}
use Rattle.wl_surface.specs.TreeLaws.{applied_where}
use Rattle.wl_surface.specs.Stacks.{Kids, has_child}
use Rattle.wl_surface.proofs.TreesApplying.{applies-descendants}
use Rattle.wl_surface.proofs.Hanging.{WasAsked, was-asked}

-- ---- a tree is applied

find-applied : (n : ℕ) (p : ℕ → Bool) (xs : List Surface)
    → find (λ s. s.id == n) (map (λ s. cond (p s.id) (applying s) s) xs) ≡ option_map (λ s. cond (p n) (applying s) s) (find (λ s. s.id == n) xs)
find-applied n p [] = refl
find-applied n p (x ∷ xs) = at (x.id == n) refl (find-applied n p xs)
  where
    same-id : (b : Bool) → (cond b (applying x) x).id ≡ x.id
    same-id true = refl
    same-id false = refl

    at : (b : Bool) → (x.id == n) ≡ b
        → find (λ s. s.id == n) (map (λ s. cond (p s.id) (applying s) s) xs) ≡ option_map (λ s. cond (p n) (applying s) s) (find (λ s. s.id == n) xs)
        → find (λ s. s.id == n) (map (λ s. cond (p s.id) (applying s) s) (x ∷ xs)) ≡ option_map (λ s. cond (p n) (applying s) s) (find (λ s. s.id == n) (x ∷ xs))
    at true e next =
        let here = ap (λ m. m == n) (same-id (p x.id)) ∙ e in
        rw (here, e) (ap (λ m. Some (cond (p m) (applying x) x)) (eqb-true x.id n e))
    at false e next =
        let here = ap (λ m. m == n) (same-id (p x.id)) ∙ e in
        rw (here, e) next

pub history-applied : (n : ℕ) (p : ℕ → Bool) (all : Surfaces) → history_in n (applied_where p all) ≡ option_map (λ h. cond (p n) (apply h) h) (history_in n all)
history-applied n p all = ap (option_map (λ s. s.history)) (find-applied n p all.surfaces) ∙ at (p n) (find (λ s. s.id == n) all.surfaces)
  where
    at : (b : Bool) (o : Option Surface) → option_map (λ s. s.history) (option_map (λ s. cond b (applying s) s) o) ≡ option_map (λ h. cond b (apply h) h) (option_map (λ s. s.history) o)
    at b None = refl
    at true (Some s) = refl
    at false (Some s) = refl

same-requests : (b : Bool) (h : History) → (cond b (apply h) h).requests ≡ h.requests
same-requests true h = refl
same-requests false h = refl

pub tied-applied : (p : ℕ → Bool) (all : Surfaces) → AreTied all → AreTied (applied_where p all)
tied-applied p all tied = record {
  once = tied.once;
  apart = tied.apart;
  cuts = λ n new e. let was = before n new e in cut (p n) was.old new was.now (tied.cuts n was.old was.here);
  named = λ n l new e gone. let was = before n new e in ap (λ rs. has_child l rs) (requests n was.old new was.now) ∙ tied.named n l was.old was.here gone;
  placed = λ n l new e gone. let was = before n new e in ap (λ rs. position l rs) (requests n was.old new was.now) ∙ tied.placed n l was.old was.here gone;
  parents = λ n l new link e there lives has.
      let was = before n new e in tied.parents n l was.old link was.here there lives (ap (λ rs. has_child l rs) (sym (requests n was.old new was.now)) ∙ has);
  listed = λ l link there lives.
      let is = tied.listed l link there lives in (
        cond (p link.parent) (apply is.0) is.0,
        history-applied link.parent p all ∙ ap (option_map (λ h. cond (p link.parent) (apply h) h)) is.1,
        ap (λ rs. has_child l rs) (same-requests (p link.parent) is.0) ∙ is.2,
      );
}
  where
    before : (n : ℕ) (new : History) → history_in n (applied_where p all) ≡ Some new → WasAsked (history_in n all) apply (p n) new
    before n new e = was-asked (history_in n all) apply (p n) new (sym (history-applied n p all) ∙ e)

    requests : (n : ℕ) (old new : History) → cond (p n) (apply old) old ≡ new → new.requests ≡ old.requests
    requests n old new is = ap (λ (h : History). h.requests) (sym is) ∙ same-requests (p n) old

    cut : (b : Bool) (old new : History) → cond b (apply old) old ≡ new → old.cut ≤ committed_at old.requests → new.cut ≤ committed_at new.requests
    cut true old new is le = subst (λ (h : History). h.cut ≤ committed_at h.requests) is (omega arith)
    cut false old new is le = subst (λ (h : History). h.cut ≤ committed_at h.requests) is le

-- the stacks of a surface that is applied
pub stacks-applied : (kids : Kids) (b : Bool) (o : Option History) → cond b (applied (stacks_at kids o)) (stacks_at kids o) ≡ stacks_at kids (option_map (λ h. cond b (apply h) h) o)
stacks-applied kids true None = refl
stacks-applied kids false None = refl
stacks-applied kids true (Some h) = refl
stacks-applied kids false (Some h) = refl

pub applies-tree : AppliesTree
applies-tree old new all surface links stacks hang =
    let p : ℕ → Bool = descends_from 16 all surface in
    subst (λ (x : Surfaces). Hang new x) (sym (applies-descendants all hang.1.once 16 surface)) (
      record {
        links = λ c. ap (λ book. book c) links ∙ hang.0.links c;
        stacks = λ n.
            stacks n ∙ (ap (λ s. cond (p n) (applied s) s) (hang.0.stacks n) ∙ (stacks-applied (kids_of all) (p n) (history_in n all) ∙ ap (stacks_at (kids_of all)) (sym (history-applied n p all))));
      },
      tied-applied p all hang.1,
    )

-- ---- a surface comes

abbrev nothing_asked : History
nothing_asked = record { requests = []; cut = 0 }

history-new : (n id : ℕ) (all : Surfaces) → history_in n (with_new id all) ≡ option_or (history_in n all) (cond (id == n) (Some nothing_asked) None)
history-new n id all =
    ap (option_map (λ s. s.history)) (find-append (λ s. s.id == n) all.surfaces (new_surface id ∷ [])) ∙ at (surface_at n all) (id == n)
  where
    at : (o : Option Surface) (b : Bool)
        → option_map (λ s. s.history) (option_or o (cond b (Some (new_surface id)) None)) ≡ option_or (option_map (λ s. s.history) o) (cond b (Some nothing_asked) None)
    at (Some s) b = refl
    at None true = refl
    at None false = refl

-- What was asked of a surface is what was asked before, or nothing.
record WasThere (o : Option History) (b : Bool) (new : History) : Type 0 where
  which : (o ≡ Some new) ⊎ (nothing_asked ≡ new)

was-there : (o : Option History) (b : Bool) (new : History) → option_or o (cond b (Some nothing_asked) None) ≡ Some new → WasThere o b new
was-there (Some h) b new e = record { which = inl e }
was-there None true new e = record { which = inr (cc) }
was-there None false new e = absurd (cc)

pub creates-surface : CreatesSurface
creates-surface tied all id none hang = (
  record {
    links = hang.0.links;
    stacks = λ n. hang.0.stacks n ∙ (at (history_in n all) (id == n) ∙ ap (stacks_at (kids_of all)) (sym (history-new n id all)));
  },
  record {
    once = hang.1.once;
    apart = hang.1.apart;
    cuts = λ n h e. cut h (before n h e).which (λ f. hang.1.cuts n h f);
    named = λ n l h e gone. name l h (before n h e).which (λ f. hang.1.named n l h f gone);
    placed = λ n l h e gone. place l h (before n h e).which (λ f. hang.1.placed n l h f gone);
    parents = λ n l h link e there lives has. parent n l h link (before n h e).which has (λ f. hang.1.parents n l h link f there lives has);
    listed = λ l link there lives.
        let is = hang.1.listed l link there lives in
        (is.0, history-new link.parent id all ∙ ap (λ o. option_or o (cond (id == link.parent) (Some nothing_asked) None)) is.1, is.2);
  },
)
  where
    at : (o : Option History) (b : Bool) → stacks_at (kids_of all) o ≡ stacks_at (kids_of all) (option_or o (cond b (Some nothing_asked) None))
    at (Some h) b = refl
    at None true = refl
    at None false = refl

    before : (n : ℕ) (h : History) → history_in n (with_new id all) ≡ Some h → WasThere (history_in n all) (id == n) h
    before n h e = was-there (history_in n all) (id == n) h (sym (history-new n id all) ∙ e)

    cut : {o : Option History} (h : History) → (o ≡ Some h) ⊎ (nothing_asked ≡ h) → (o ≡ Some h → h.cut ≤ committed_at h.requests) → h.cut ≤ committed_at h.requests
    cut h (inl f) old = old f
    cut h (inr f) old = subst (λ (h : History). h.cut ≤ committed_at h.requests) f (omega arith)

    name : {o : Option History} (l : ℕ) (h : History) → (o ≡ Some h) ⊎ (nothing_asked ≡ h) → (o ≡ Some h → has_child l h.requests ≡ false) → has_child l h.requests ≡ false
    name l h (inl f) old = old f
    name l h (inr f) old = ap (λ (h : History). has_child l h.requests) (sym f)

    place : {o : Option History} (l : ℕ) (h : History) → (o ≡ Some h) ⊎ (nothing_asked ≡ h) → (o ≡ Some h → position l h.requests ≡ (pos 0, pos 0)) → position l h.requests ≡ (pos 0, pos 0)
    place l h (inl f) old = old f
    place l h (inr f) old = ap (λ (h : History). position l h.requests) (sym f)

    parent : {o : Option History} (n l : ℕ) (h : History) (link : Link) → (o ≡ Some h) ⊎ (nothing_asked ≡ h) → has_child l h.requests ≡ true → (o ≡ Some h → link.parent ≡ n) → link.parent ≡ n
    parent n l h link (inl f) has old = old f
    parent n l h link (inr f) has old = absurd (let both = sym has ∙ ap (λ (h : History). has_child l h.requests) (sym f) in cc)

-- ---- a surface goes

find-without : (n id : ℕ) (xs : List Surface) → find (λ s. s.id == n) (filter (λ s. not (s.id == id)) xs) ≡ cond (n == id) None (find (λ s. s.id == n) xs)
find-without n id [] = none (n == id)
  where
    nobody : Option Surface
    nobody = None

    none : (b : Bool) → nobody ≡ cond b None nobody
    none true = refl
    none false = refl
find-without n id (x ∷ xs) = at (x.id == id) (x.id == n) refl refl (find-without n id xs)
  where
    at : (a b : Bool) → (x.id == id) ≡ a → (x.id == n) ≡ b
        → find (λ s. s.id == n) (filter (λ s. not (s.id == id)) xs) ≡ cond (n == id) None (find (λ s. s.id == n) xs)
        → find (λ s. s.id == n) (filter (λ s. not (s.id == id)) (x ∷ xs)) ≡ cond (n == id) None (find (λ s. s.id == n) (x ∷ xs))
    at true true e f next =
        let same : (n == id) ≡ true = ap (λ m. m == id) (sym (eqb-true x.id n f)) ∙ e in rw (e, f) (next ∙ rw same refl)
    at true false e f next = rw (e, f) next
    at false true e f next =
        let other : (n == id) ≡ false = ap (λ m. m == id) (sym (eqb-true x.id n f)) ∙ e in rw e (rw (f, other) refl)
    at false false e f next = rw e (rw f next)

pub history-without : (n id : ℕ) (all : Surfaces) → history_in n (without_surface id all) ≡ cond (n == id) None (history_in n all)
history-without n id all = ap (option_map (λ s. s.history)) (find-without n id all.surfaces) ∙ at (n == id) (surface_at n all)
  where
    at : (b : Bool) (o : Option Surface) → option_map (λ s. s.history) (cond b None o) ≡ cond b None (option_map (λ s. s.history) o)
    at true o = refl
    at false o = refl

-- All is as it should be without a surface that is no parent by a living link.
pub tied-without : (all : Surfaces) (id : ℕ) → ((number : ℕ) (link : Link) → link_at number all ≡ Some link → link.has_ended ≡ false → (link.parent == id) ≡ false) → AreTied all
    → AreTied (without_surface id all)
tied-without all id apart tied = record {
  once = tied.once;
  apart = tied.apart;
  cuts = λ n h e. tied.cuts n h (before n h e);
  named = λ n l h e gone. tied.named n l h (before n h e) gone;
  placed = λ n l h e gone. tied.placed n l h (before n h e) gone;
  parents = λ n l h link e there lives has. tied.parents n l h link (before n h e) there lives has;
  listed = λ l link there lives.
      let is = tied.listed l link there lives in
      (is.0, history-without link.parent id all ∙ (ap (λ b. cond b None (history_in link.parent all)) (apart l link there lives) ∙ is.1), is.2);
}
  where
    there : (b : Bool) (o : Option History) (h : History) → cond b None o ≡ Some h → o ≡ Some h
    there true o h e = absurd (cc)
    there false o h e = e

    before : (n : ℕ) (h : History) → history_in n (without_surface id all) ≡ Some h → history_in n all ≡ Some h
    before n h e = there (n == id) (history_in n all) h (sym (history-without n id all) ∙ e)

pub removes-surface : RemovesSurface
removes-surface old new all id apart links stacks hang = (
  record {
    links = λ c. ap (λ book. book c) links ∙ hang.0.links c;
    stacks = λ n. ap (λ all. all n) stacks ∙ (at n (n == id) ∙ ap (stacks_at (kids_of all)) (sym (history-without n id all)));
  },
  tied-without all id apart hang.1,
)
  where
    at : (n : ℕ) (b : Bool) → (if b then childless else stacks_in old n) ≡ stacks_at (kids_of all) (cond b None (history_in n all))
    at n true = refl
    at n false = hang.0.stacks n
