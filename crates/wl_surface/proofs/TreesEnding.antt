-- The end of a surface and its links applies each surface that descends from it.
use Rattle.std.proofs.Common.{◌≡◌, ℕ, ◌⊎◌, inl, inr, ◌||◌, ◌&&◌, ◌==◌, Bool, true, false, cond, Option, Some, None, List, [], ◌∷◌, ◌++◌, map, refl, ap, sym, subst, ◌∙◌, arith, eq-eqb, append_assoc}
use Rattle.std.specs.Prelude.{filter, find, fold, not}
use Rattle.std.specs.List.{list_any}
use Rattle.std.specs.Option.{option_map, option_map_or}
use Rattle.std.proofs.lemmas.Bool.{eqb-true}
use Rattle.std.proofs.lemmas.List.{append-nil, map-id}
use Rattle.std.proofs.lemmas.List.Folds.{list_any-append}
use Rattle.wl_links.specs.declared.link.Link.{Link as Kept}
use Rattle.wl_links.specs.Family.{parents_of}
use Rattle.wl_surface.specs.Surface.{Surface, applying}
use Rattle.wl_surface.specs.Surfaces.{Link, Surfaces, without_surface}
use Rattle.wl_surface.specs.Trees.{applied_tree, descends_from, ended_in, ending, levels, link_of, links_with, of_parent}
use Rattle.wl_links.specs.Trees.{Parents, is_under, without}
use Rattle.wl_surface.specs.Hanging.{AreNumbered, EndsLinks}
use Rattle.wl_surface.specs.TreeLaws.{AreOnceLinked, applied_where, ended_with, is_live_of, links_of}
use Rattle.wl_surface.proofs.TreesApplying.{applied-both, applies-descendants, child-of, is_child, same-id}
use Rattle.wl_surface.proofs.Changing.{both-false, or-false}
use Rattle.wl_surface.proofs.Descending.{AreFewer, under-child, under-fewer, under-more, under-parent}
use Rattle.wl_surface.proofs.Linking.{none-changed, none-found}
use Rattle.wl_surface.proofs.Parents.{same-descent}
use Rattle.wl_surface.proofs.Placing.{kept_of}

-- a link is with a surface, as its child or its parent
abbrev pub touches : ℕ → Link → Bool
touches surface l = l.child == surface || l.parent == surface

abbrev pub end_one : ℕ → Link → Link
end_one surface l = cond (touches surface l) (ending l) l

-- ---- some of the links have ended

end-child : (b : Bool) (l : Link) → (cond b (ending l) l).child ≡ l.child
end-child true l = refl
end-child false l = refl

end-number : (b : Bool) (l : Link) → (cond b (ending l) l).number ≡ l.number
end-number true l = refl
end-number false l = refl

-- No ended link lives again.
end-live : (b : Bool) (c : ℕ) (l : Link) → is_live_of c l ≡ false → is_live_of c (cond b (ending l) l) ≡ false
end-live true c l e = refl
end-live false c l e = e

-- Ending an ended link changes nothing.
end-again : (b : Bool) (l : Link) → l.has_ended ≡ true → cond b (ending l) l ≡ l
end-again true l e = ap (λ (b : Bool). record l { has_ended = b }) (sym e)
end-again false l e = refl

pub live-parts : (ended same : Bool) → (not ended && same) ≡ true → (ended ≡ false) × (same ≡ true)
live-parts false same e = (refl, e)
live-parts true same e = absurd (cc)

among-none : (p : Link → Bool) (ds rest : List Link) (l : Link) → list_any p (ds ++ l ∷ rest) ≡ false → p l ≡ false
among-none p ds rest l none = (or-false (p l) (list_any p rest) (or-false (list_any p ds) _ (sym (list_any-append p ds (l ∷ rest)) ∙ none)).1).0

none-ended : (surface c : ℕ) (ds rest : List Link) → list_any (is_live_of c) (ds ++ rest) ≡ false → list_any (is_live_of c) (ended_with surface ds ++ rest) ≡ false
none-ended surface c [] rest none = none
none-ended surface c (d ∷ ds) rest none =
    let parts = or-false (is_live_of c d) (list_any (is_live_of c) (ds ++ rest)) none in
    both-false _ _ (end-live (touches surface d) c d parts.0) (none-ended surface c ds rest parts.1)

once-ended : (surface : ℕ) (ds rest : List Link) → AreOnceLinked (ds ++ rest) → AreOnceLinked (ended_with surface ds ++ rest)
once-ended surface [] rest once = once
once-ended surface (d ∷ ds) rest once = (
  λ lives.
      ap (λ c. list_any (is_live_of c) (ended_with surface ds ++ rest)) (end-child (touches surface d) d)
      ∙ none-ended surface d.child ds rest (once.0 (lived (touches surface d) lives)),
  once-ended surface ds rest once.1,
)
  where
    lived : (b : Bool) → (cond b (ending d) d).has_ended ≡ false → d.has_ended ≡ false
    lived true lives = absurd (cc)
    lived false lives = lives

-- The link of a child is what it was, or it was with the surface and has ended.
abbrev pub IsLeft : ℕ → ℕ → Option Link → Option Link → Type 0
IsLeft surface c new old = (new ≡ old) ⊎ ((new ≡ None) × (l : Link) × (old ≡ Some l) × (touches surface l ≡ true) × ((l.child == c) ≡ true))

pub found-ended : (surface c : ℕ) (ds rest : List Link) → AreOnceLinked (ds ++ rest)
    → IsLeft surface c (find (is_live_of c) (ended_with surface ds ++ rest)) (find (is_live_of c) (ds ++ rest))
found-ended surface c [] rest once = inl refl
found-ended surface c (d ∷ ds) rest once = at (is_live_of c d) (touches surface d) refl refl (found-ended surface c ds rest once.1)
  where
    at : (lives touched : Bool) → is_live_of c d ≡ lives → touches surface d ≡ touched → IsLeft surface c (find (is_live_of c) (ended_with surface ds ++ rest)) (find (is_live_of c) (ds ++ rest))
        → IsLeft surface c (find (is_live_of c) (ended_with surface (d ∷ ds) ++ rest)) (find (is_live_of c) ((d ∷ ds) ++ rest))
    at true true e f next =
        let parts = live-parts d.has_ended (d.child == c) e in
        let none = ap (λ n. list_any (is_live_of n) (ds ++ rest)) (sym (eqb-true d.child c parts.1)) ∙ once.0 parts.0 in
        rw f (rw e (inr (none-found (is_live_of c) (ended_with surface ds ++ rest) (none-ended surface c ds rest none), d, refl, f, parts.1)))
    at true false e f next = rw f (rw e (inl refl))
    at false touched e f next =
        let here = end-live (touches surface d) c d e in
        rw (here, e) next

-- a living link is that of its child
live-among : (ds rest : List Link) (l : Link) → AreOnceLinked (ds ++ l ∷ rest) → l.has_ended ≡ false → find (is_live_of l.child) (ds ++ l ∷ rest) ≡ Some l
live-among [] rest l once lives = let here : is_live_of l.child l ≡ true = rw lives (eq-eqb l.child l.child refl) in rw here refl
live-among (d ∷ ds) rest l once lives = at (is_live_of l.child d) refl (live-among ds rest l once.1 lives)
  where
    at : (b : Bool) → is_live_of l.child d ≡ b → find (is_live_of l.child) (ds ++ l ∷ rest) ≡ Some l → find (is_live_of l.child) ((d ∷ ds) ++ l ∷ rest) ≡ Some l
    at true e next =
        absurd (let parts = live-parts d.has_ended (d.child == l.child) e in
        let none = among-none (is_live_of d.child) ds rest l (once.0 parts.0) in
        let same : is_live_of d.child l ≡ true = rw (lives, eqb-true d.child l.child parts.1) (eq-eqb l.child l.child refl) in
        let both = sym same ∙ none in cc)
    at false e next = rw e next

-- ---- the parents by the links that are left

abbrev parents_by : List Link → Parents
parents_by ls = parents_of (links_of (record { surfaces = []; links = ls }))

abbrev parent_in : Option Link → Option ℕ
parent_in o = option_map (λ (k : Kept). k.parent) (option_map kept_of o)

parents-fewer : (surface : ℕ) (ds rest : List Link) → AreOnceLinked (ds ++ rest) → AreFewer (parents_by (ended_with surface ds ++ rest)) (parents_by (ds ++ rest))
parents-fewer surface ds rest once c = at (found-ended surface c ds rest once)
  where
    at : {new old : Option Link} → IsLeft surface c new old → (parent_in new ≡ None) ⊎ (parent_in new ≡ parent_in old)
    at (inl e) = inr (ap parent_in e)
    at (inr q) = inl (ap parent_in q.0)

abbrev left_of : ℕ → Bool → Option ℕ → Option ℕ
left_of surface b o = option_map_or (λ parent. cond (parent == surface) None (Some parent)) (cond b None o) None

parents-left : (surface : ℕ) (ds rest : List Link) → AreOnceLinked (ds ++ rest) → AreFewer (without surface (parents_by (ds ++ rest))) (parents_by (ended_with surface ds ++ rest))
parents-left surface ds rest once c = at (found-ended surface c ds rest once)
  where
    below : (parent : ℕ) (b : Bool) → (cond b None (Some parent) ≡ None) ⊎ (cond b None (Some parent) ≡ Some parent)
    below parent true = inl refl
    below parent false = inr refl

    either : (b : Bool) (o : Option ℕ) → (left_of surface b o ≡ None) ⊎ (left_of surface b o ≡ o)
    either true o = inl refl
    either false None = inl refl
    either false (Some parent) = below parent (parent == surface)

    gone : (b : Bool) (parent : ℕ) → (parent == surface) ≡ true → left_of surface b (Some parent) ≡ None
    gone true parent e = refl
    gone false parent e = ap (λ (b : Bool). cond b None (Some parent)) e

    touched : (l : Link) (b : Bool) → (l.child == surface) ≡ b → (b || l.parent == surface) ≡ true → (l.child == c) ≡ true → left_of surface (c == surface) (Some l.parent) ≡ None
    touched l true e f is = ap (λ (b : Bool). left_of surface b (Some l.parent)) (ap (λ n. n == surface) (sym (eqb-true l.child c is)) ∙ e)
    touched l false e f is = gone (c == surface) l.parent f

    at : {new old : Option Link} → IsLeft surface c new old
        → (left_of surface (c == surface) (parent_in old) ≡ None) ⊎ (left_of surface (c == surface) (parent_in old) ≡ parent_in new)
    at {new = new} {old = old} (inl e) =
        subst (λ (o : Option ℕ). (left_of surface (c == surface) (parent_in old) ≡ None) ⊎ (left_of surface (c == surface) (parent_in old) ≡ o)) (sym (ap parent_in e))
        (either (c == surface) (parent_in old))
    at (inr (none, l, is, touches_it, child)) =
        inl (ap (λ o. left_of surface (c == surface) (parent_in o)) is ∙ touched l (l.child == surface) refl touches_it child)

-- ---- one link more ends

others-stay : (surface : ℕ) (ds rest : List Link) (l : Link) → AreNumbered (ds ++ l ∷ rest)
    → map (λ (k : Link). cond (k.number == l.number) (ending k) k) (ended_with surface ds ++ l ∷ rest) ≡ ended_with surface ds ++ ending l ∷ rest
others-stay surface [] rest l apart = rw (eq-eqb l.number l.number refl) (ap (λ (ls : List Link). ending l ∷ ls) (none-changed l.number ending rest apart.0))
others-stay surface (d ∷ ds) rest l apart =
    let other = among-none (λ k. k.number == d.number) ds rest l apart.0 in
    let turned : (d.number == l.number) ≡ false = grind (arith, other) in
    let here = ap (λ n. n == l.number) (end-number (touches surface d) d) ∙ turned in
    rw here (ap (λ (ls : List Link). end_one surface d ∷ ls) (others-stay surface ds rest l apart.1))

one-further : (surface : ℕ) (ds rest : List Link) (l x : Link) → x ≡ end_one surface l → ended_with surface ds ++ x ∷ rest ≡ ended_with surface (ds ++ l ∷ []) ++ rest
one-further surface [] rest l x e = ap (λ (k : Link). k ∷ rest) e
one-further surface (d ∷ ds) rest l x e = ap (λ (ls : List Link). end_one surface d ∷ ls) (one-further surface ds rest l x e)

-- ---- all of them end

module _ (all : Surfaces) (surface : ℕ) (once : AreOnceLinked all.links) (apart : AreNumbered all.links) where
  abbrev parents : Parents
  parents = parents_of (links_of all)

  abbrev state : (ℕ → Bool) → List Link → Surfaces
  state which links = record (applied_where which all) { links = links }

  abbrev lives_with : Link → Bool
  lives_with l = not l.has_ended && touches surface l

  -- The first links have ended, and the rest end. So of these surfaces the state is taken up to the
  -- last commit.
  record AreEnded (ds rest : List Link) (p : ℕ → Bool) : Type 0 where
    which : ℕ → Bool
    is : fold ended_in (state p (ended_with surface ds ++ rest)) (filter lives_with rest) ≡ state which (ended_with surface all.links)
    still : (id : ℕ) → p id ≡ true → which id ≡ true
    below : (id : ℕ) → which id ≡ true → (p id ≡ true) ⊎ (is_under 17 parents surface id ≡ true)
    reached : (child id : ℕ) → list_any (is_child surface child) rest ≡ true → is_under 16 (without surface parents) child id ≡ true → which id ≡ true

  -- what the end of this link applies
  abbrev applied_by : List Link → List Link → Link → (ℕ → Bool) → ℕ → Bool
  applied_by ds rest l p id = descends_from 16 (state p (ended_with surface (ds ++ l ∷ []) ++ rest)) l.child id

  module _ (ds rest : List Link) (l : Link) (whole : ds ++ l ∷ rest ≡ all.links) where
    further : (ds ++ l ∷ []) ++ rest ≡ all.links
    further = append_assoc ds (l ∷ []) rest ∙ whole

    ends-one : (p : ℕ → Bool) → touches surface l ≡ true
        → ended_in (state p (ended_with surface ds ++ l ∷ rest)) l ≡ state (λ id. p id || applied_by ds rest l p id) (ended_with surface (ds ++ l ∷ []) ++ rest)
    ends-one p touched =
        ap (λ (ls : List Link). applied_tree levels l.child (state p ls))
        (others-stay surface ds rest l (subst AreNumbered (sym whole) apart) ∙ one-further surface ds rest l (ending l) (ap (λ (b : Bool). cond b (ending l) l) (sym touched)))
        ∙ (applies-descendants (state p (ended_with surface (ds ++ l ∷ []) ++ rest)) (once-ended surface (ds ++ l ∷ []) rest (subst AreOnceLinked (sym further) once)) 16 l.child
        ∙ ap (λ (xs : List Surface). record { surfaces = xs; links = ended_with surface (ds ++ l ∷ []) ++ rest }) (applied-both p (applied_by ds rest l p) all.surfaces))

    -- by no more links than before
    by-old : (p : ℕ → Bool) (id : ℕ) → applied_by ds rest l p id ≡ true → is_under 16 parents l.child id ≡ true
    by-old p id under =
        under-fewer 16 (parents_by (ended_with surface (ds ++ l ∷ []) ++ rest)) parents l.child id
        (subst (λ (ls : List Link). AreFewer (parents_by (ended_with surface (ds ++ l ∷ []) ++ rest)) (parents_by ls)) further
        (parents-fewer surface (ds ++ l ∷ []) rest (subst AreOnceLinked (sym further) once)))
        (sym (same-descent (state p (ended_with surface (ds ++ l ∷ []) ++ rest)) 16 l.child id) ∙ under)

    -- by no fewer than those without the surface
    by-left : (p : ℕ → Bool) (id : ℕ) → is_under 16 (without surface parents) l.child id ≡ true → applied_by ds rest l p id ≡ true
    by-left p id under =
        same-descent (state p (ended_with surface (ds ++ l ∷ []) ++ rest)) 16 l.child id
        ∙ under-fewer 16 (without surface parents) (parents_by (ended_with surface (ds ++ l ∷ []) ++ rest)) l.child id
        (subst (λ (ls : List Link). AreFewer (without surface (parents_by ls)) (parents_by (ended_with surface (ds ++ l ∷ []) ++ rest))) further
        (parents-left surface (ds ++ l ∷ []) rest (subst AreOnceLinked (sym further) once)))
        under

    below-surface : (p : ℕ → Bool) (id : ℕ) → l.has_ended ≡ false → touches surface l ≡ true → applied_by ds rest l p id ≡ true → is_under 17 parents surface id ≡ true
    below-surface p id lives touched under = at (l.child == surface) refl touched (by-old p id under)
      where
        at : (b : Bool) → (l.child == surface) ≡ b → (b || l.parent == surface) ≡ true → is_under 16 parents l.child id ≡ true → is_under 17 parents surface id ≡ true
        at true e f under = under-more 16 parents surface id (subst (λ n. is_under 16 parents n id ≡ true) (eqb-true l.child surface e) under)
        at false e f under =
            let found = ap (find (is_live_of l.child)) (sym whole) ∙ live-among ds rest l (subst AreOnceLinked (sym whole) once) lives in
            under-parent 16 parents l.child surface id (ap parent_in found ∙ ap (λ n. Some n) (eqb-true l.parent surface f)) under

  ends : (rest ds : List Link) → ds ++ rest ≡ all.links → (p : ℕ → Bool) → AreEnded ds rest p
  ends [] ds whole p = record {
    which = p;
    is = ap (state p) (append-nil (ended_with surface ds) ∙ ap (ended_with surface) (sym (append-nil ds) ∙ whole));
    still = λ id e. e;
    below = λ id e. inl e;
    reached = λ child id there under. absurd (cc);
  }
  ends (l ∷ rest) ds whole p = at (lives_with l) refl (λ q. ends rest (ds ++ l ∷ []) (further ds rest l whole) q)
    where
      not-here : (ended a b : Bool) → (not ended && (a || b)) ≡ false → (not ended && b) ≡ false
      not-here true a b e = refl
      not-here false a b e = (or-false a b e).1

      kept : (ended touched : Bool) → l.has_ended ≡ ended → touches surface l ≡ touched → (not ended && touched) ≡ false → l ≡ end_one surface l
      kept true touched e f none = sym (end-again (touches surface l) l e)
      kept false false e f none = ap (λ (b : Bool). cond b (ending l) l) (sym f)
      kept false true e f none = absurd (cc)

      none-here : (a b c : Bool) → a ≡ false → ((a && b) || c) ≡ true → c ≡ true
      none-here false b c e f = f
      none-here true b c e f = absurd (cc)

      -- The child is that of this link, or of a later one.
      first : (child : ℕ) (a b c : Bool) → (child == l.child) ≡ b → ((a && b) || c) ≡ true → (child ≡ l.child) ⊎ (c ≡ true)
      first child a true c e f = inl (eqb-true child l.child e)
      first child true false c e f = inr f
      first child false false c e f = inr f

      or-either : (a b : Bool) → (a || b) ≡ true → (a ≡ true) ⊎ (b ≡ true)
      or-either true b e = inl refl
      or-either false b e = inr e

      or-right : (a b : Bool) → b ≡ true → (a || b) ≡ true
      or-right true b e = refl
      or-right false b e = e

      at : (b : Bool) → lives_with l ≡ b → ((q : ℕ → Bool) → AreEnded (ds ++ l ∷ []) rest q) → AreEnded ds (l ∷ rest) p
      at false e next =
          let far = next p in
          record {
            which = far.which;
            is = rw e (ap (λ (ls : List Link). fold ended_in (state p ls) (filter lives_with rest)) (one-further surface ds rest l l (kept l.has_ended (touches surface l) refl refl e)) ∙ far.is);
            still = far.still;
            below = far.below;
            reached = λ child id there under.
                far.reached child id (none-here _ (child == l.child) (list_any (is_child surface child) rest) (not-here l.has_ended (l.child == surface) (l.parent == surface) e) there) under;
          }
      at true e next =
          let parts = live-parts l.has_ended (touches surface l) e in
          let far = next (λ id. p id || applied_by ds rest l p id) in
          record {
            which = far.which;
            is = rw e (ap (λ (x : Surfaces). fold ended_in x (filter lives_with rest)) (ends-one ds rest l whole p parts.1) ∙ far.is);
            still = λ id f. far.still id (ap (λ b. b || applied_by ds rest l p id) f);
            below = λ id f. lower id (far.below id f) parts.0 parts.1;
            reached = λ child id there under.
                reach child id far.still (first child (not l.has_ended && l.parent == surface) (child == l.child) (list_any (is_child surface child) rest) refl there) under
                (λ later. far.reached child id later under);
          }
        where
          lower : (id : ℕ) → ((p id || applied_by ds rest l p id) ≡ true) ⊎ (is_under 17 parents surface id ≡ true) → l.has_ended ≡ false → touches surface l ≡ true
              → (p id ≡ true) ⊎ (is_under 17 parents surface id ≡ true)
          lower id (inr f) lives touched = inr f
          lower id (inl f) lives touched = either (or-either (p id) (applied_by ds rest l p id) f)
            where
              either : (p id ≡ true) ⊎ (applied_by ds rest l p id ≡ true) → (p id ≡ true) ⊎ (is_under 17 parents surface id ≡ true)
              either (inl f) = inl f
              either (inr f) = inr (below-surface ds rest l whole p id lives touched f)

          reach : (child id : ℕ) {which : ℕ → Bool} → ((id : ℕ) → (p id || applied_by ds rest l p id) ≡ true → which id ≡ true)
              → (child ≡ l.child) ⊎ (list_any (is_child surface child) rest ≡ true) → is_under 16 (without surface parents) child id ≡ true
              → (list_any (is_child surface child) rest ≡ true → which id ≡ true) → which id ≡ true
          reach child id still (inl same) under later =
              still id (or-right (p id) _ (by-left ds rest l whole p id (subst (λ n. is_under 16 (without surface parents) n id ≡ true) same under)))
          reach child id still (inr there) under later = later there

both-ways : (a b : Bool) → (a ≡ true → b ≡ true) → (b ≡ true → a ≡ true) → a ≡ b
both-ways true true f g = refl
both-ways false false f g = refl
both-ways true false f g = sym (f refl)
both-ways false true f g = g refl

-- the same without the surface
without-same : (surface : ℕ) (p q : ℕ → Bool) → ((id : ℕ) → (id == surface) ≡ false → p id ≡ q id) → (xs : List Surface)
    → filter (λ s. not (s.id == surface)) (map (λ (s : Surface). cond (p s.id) (applying s) s) xs)
    ≡ filter (λ s. not (s.id == surface)) (map (λ (s : Surface). cond (q s.id) (applying s) s) xs)
without-same surface p q same [] = refl
without-same surface p q same (x ∷ xs) = at (x.id == surface) refl (without-same surface p q same xs)
  where
    at : (b : Bool) → (x.id == surface) ≡ b
        → filter (λ s. not (s.id == surface)) (map (λ (s : Surface). cond (p s.id) (applying s) s) xs)
        ≡ filter (λ s. not (s.id == surface)) (map (λ (s : Surface). cond (q s.id) (applying s) s) xs)
        → filter (λ s. not (s.id == surface)) (map (λ (s : Surface). cond (p s.id) (applying s) s) (x ∷ xs))
        ≡ filter (λ s. not (s.id == surface)) (map (λ (s : Surface). cond (q s.id) (applying s) s) (x ∷ xs))
    at true e next =
        let one = ap (λ n. n == surface) (same-id (p x.id) x) ∙ e in
        let other = ap (λ n. n == surface) (same-id (q x.id) x) ∙ e in
        rw (one, other) next
    at false e next =
        let one = ap (λ n. n == surface) (same-id (p x.id) x) ∙ e in
        let other = ap (λ n. n == surface) (same-id (q x.id) x) ∙ e in
        rw (one, other) (rw (same x.id e) (ap (λ (ys : List Surface). cond (q x.id) (applying x) x ∷ ys) next))

pub ends-links : EndsLinks
ends-links all surface once apart =
    ap (without_surface surface) (ap (λ (xs : List Surface). fold ended_in (record { surfaces = xs; links = all.links }) (links_with surface all)) (sym (map-id all.surfaces)) ∙ far.is)
    ∙ ap (λ (xs : List Surface). record { surfaces = xs; links = ended_with surface all.links })
    (without-same surface far.which (descends_from levels all surface) (λ id other. both-ways (far.which id) (descends_from levels all surface id) (lower id) (upper id other)) all.surfaces)
  where
    far : AreEnded all surface once apart [] all.links (λ id. false)
    far = ends all surface once apart all.links [] refl (λ id. false)

    lower : (id : ℕ) → far.which id ≡ true → descends_from levels all surface id ≡ true
    lower id e = at (far.below id e)
      where
        at : (false ≡ true) ⊎ (is_under 17 (parents_of (links_of all)) surface id ≡ true) → descends_from levels all surface id ≡ true
        at (inl e) = absurd (cc)
        at (inr under) = same-descent all levels surface id ∙ under

    upper : (id : ℕ) → (id == surface) ≡ false → descends_from levels all surface id ≡ true → far.which id ≡ true
    upper id other under =
        let by = under-child 16 (parents_of (links_of all)) surface id other (sym (same-descent all levels surface id) ∙ under) in
        far.reached by.child id (listed by.child by.up) by.under
      where
        listed : (child : ℕ) → parents_of (links_of all) child ≡ Some surface → list_any (is_child surface child) all.links ≡ true
        listed child is = child-of surface child all.links once ∙ at (link_of child all) is
          where
            at : (o : Option Link) → parent_in o ≡ Some surface → of_parent false (λ parent. parent == surface) o ≡ true
            at None e = absurd (cc)
            at (Some l) e = eq-eqb l.parent surface (cc)
