-- What is kept of how surfaces hang together, after a child is joined to a parent.
use Rattle.std.proofs.Common.{◌≡◌, ℕ, ◌≤◌, ◌⊎◌, inl, inr, ◌||◌, ◌&&◌, ◌==◌, Bool, true, false, cond, Option, Some, None, List, [], ◌∷◌, ◌++◌, take, refl, ap, sym, subst, ◌∙◌, arith, eq-eqb}
use Rattle.std.specs.Prelude.{pos, find, not, if◌then◌else◌}
use Rattle.std.specs.List.{list_any}
use Rattle.std.specs.Option.{option_map, option_or}
use Rattle.std.proofs.lemmas.Bool.{eqb-true}
use Rattle.std.proofs.lemmas.List.Folds.{find-append, list_any-append}
use Rattle.std.proofs.Math.Path.{fun_ext}
use Rattle.wl_links.specs.Stacks.{added}
use Rattle.wl_links.specs.Family.{links_in, pending_as, stacks_in}
use Rattle.wl_surface.specs.declared.role.Role.TheVariants.{Subsurface}
use Rattle.wl_surface.specs.Request.{AddChild, Child, Request}
use Rattle.wl_surface.specs.State.{History, committed as committed_at, is_member, order, position}
use Rattle.wl_surface.specs.Surface.{asking, with_role}
use Rattle.wl_surface.specs.Surfaces.{Link, Surfaces, history_in, link_at, with_change}
use Rattle.wl_surface.specs.Trees.{link_of, linked}
use Rattle.wl_surface.specs.Hanging.{AreNumbered, AreTied, JoinsChild, kid_of, kids_of, stacks_at, stacks_by}
use Rattle.wl_surface.specs.TreeLaws.{AreOnceLinked, is_live_of}
use Rattle.wl_surface.specs.Stacks.{has_child, stack_by, with_kid}
use Rattle.wl_surface.proofs.Hanging.{WasAsked, changed-pointwise, committed-same, committed-within, history-changed, same-stacks, take-more, was-asked, with_asked}
use Rattle.wl_surface.proofs.Linking.{never-there, stacks-others}
use Rattle.wl_surface.proofs.Placing.{kept_of}
use Rattle.wl_surface.proofs.Stacking.{follow-add, follow-others, order-last, position-last}

-- ---- one link more

once-more : (child : ℕ) (new : Link) (ls : List Link) → new.child ≡ child → find (is_live_of child) ls ≡ None → AreOnceLinked ls → AreOnceLinked (ls ++ new ∷ [])
once-more child new [] is none once = (λ lives. refl, tt)
once-more child new (x ∷ xs) is none once = (
  λ lives.
      list_any-append (is_live_of x.child) xs (new ∷ []) ∙ (ap (λ b. b || list_any (is_live_of x.child) (new ∷ [])) (once.0 lives)
      ∙ other lives (x.child == child) refl),
  once-more child new xs is (later (is_live_of child x) none) once.1,
)
  where
    later : (b : Bool) → cond b (Some x) (find (is_live_of child) xs) ≡ None → find (is_live_of child) xs ≡ None
    later true e = absurd (cc)
    later false e = e

    not-new : (b ended : Bool) → b ≡ false → ((not ended && b) || false) ≡ false
    not-new b true e = refl
    not-new b false e = rw e refl

    other : x.has_ended ≡ false → (b : Bool) → (x.child == child) ≡ b → list_any (is_live_of x.child) (new ∷ []) ≡ false
    other lives true e = absurd (let here : is_live_of child x ≡ true = rw (lives, e) refl in let both = sym none ∙ ap (λ b. cond b (Some x) (find (is_live_of child) xs)) here in cc)
    other lives false e =
        let turned : (child == x.child) ≡ false = grind (arith, e) in
        not-new (new.child == x.child) new.has_ended (ap (λ c. c == x.child) is ∙ turned)

numbered-more : (number : ℕ) (new : Link) (ls : List Link) → new.number ≡ number → find (λ (l : Link). l.number == number) ls ≡ None → AreNumbered ls → AreNumbered (ls ++ new ∷ [])
numbered-more number new [] is none apart = (refl, tt)
numbered-more number new (x ∷ xs) is none apart = (
  list_any-append (λ (k : Link). k.number == x.number) xs (new ∷ []) ∙ (ap (λ b. b || ((new.number == x.number) || false)) apart.0
      ∙ ap (λ b. b || false) (ap (λ n. n == x.number) is ∙ other (x.number == number) refl none)),
  numbered-more number new xs is (later (x.number == number) none) apart.1,
)
  where
    later : (b : Bool) → cond b (Some x) (find (λ (l : Link). l.number == number) xs) ≡ None → find (λ (l : Link). l.number == number) xs ≡ None
    later true e = absurd (cc)
    later false e = e

    other : (b : Bool) → (x.number == number) ≡ b → cond b (Some x) (find (λ (l : Link). l.number == number) xs) ≡ None → (number == x.number) ≡ false
    other true e f = absurd (cc)
    other false e f = grind (arith, e)

-- a link that is found among one more
record FoundMore (o : Option Link) (b : Bool) (new found : Link) : Type 0 where
  which : ((o ≡ Some found) × Unit {0}) ⊎ ((o ≡ None) × (b ≡ true) × (new ≡ found))

found-more : (o : Option Link) (b : Bool) (new found : Link) → option_or o (cond b (Some new) None) ≡ Some found → FoundMore o b new found
found-more (Some l) b new found e = record { which = inl (e, tt) }
found-more None true new found e = record { which = inr (refl, refl, cc) }
found-more None false new found e = absurd (cc)

none-more : (o : Option Link) (b : Bool) (new : Link) → option_or o (cond b (Some new) None) ≡ None → (o ≡ None) × (b ≡ false)
none-more (Some l) b new e = absurd (cc)
none-more None true new e = absurd (cc)
none-more None false new e = (refl, refl)

module _ (all : Surfaces) (number child parent : ℕ) (h : History) (gone : link_at number all ≡ None) (there : history_in parent all ≡ Some h) (tied : AreTied all) where
  abbrev new_link : Link
  new_link = record { number = number; child = child; parent = parent; synchronised = true; has_ended = false }

  abbrev joined_all : Surfaces
  joined_all = linked number child parent all

  abbrev more : History → History
  more h = with_asked (AddChild number) h

  at-more : (l : ℕ) → link_at l joined_all ≡ option_or (link_at l all) (cond (number == l) (Some new_link) None)
  at-more l = find-append (λ (k : Link). k.number == l) all.links (new_link ∷ [])

  live-more : (c : ℕ) → link_of c joined_all ≡ option_or (link_of c all) (cond (child == c) (Some new_link) None)
  live-more c = find-append (is_live_of c) all.links (new_link ∷ [])

  kids-more : kids_of joined_all ≡ with_kid number (Some child) (kids_of all)
  kids-more = fun_ext (λ l. ap kid_of (at-more l) ∙ at l (l == number) refl (link_at l all) refl)
    where
      at : (l : ℕ) (b : Bool) → (l == number) ≡ b → (o : Option Link) → link_at l all ≡ o → kid_of (option_or o (cond (number == l) (Some new_link) None)) ≡ cond b (Some child) (kid_of o)
      at l true e (Some k) f = absurd (let both = sym f ∙ (ap (λ n. link_at n all) (eqb-true l number e) ∙ gone) in cc)
      at l true e None f = let turned : (number == l) ≡ true = grind (arith, e) in rw turned refl
      at l false e (Some k) f = refl
      at l false e None f = let turned : (number == l) ≡ false = grind (arith, e) in rw turned refl

  same-history : (b : Bool) (o : Option History) → option_map (λ h. cond b h h) o ≡ o
  same-history b None = refl
  same-history true (Some h) = refl
  same-history false (Some h) = refl

  history-more : (n : ℕ) → history_in n joined_all ≡ option_map (λ h. cond (n == parent) (more h) h) (history_in n all)
  history-more n =
      let roled = with_change child (with_role Subsurface) (record all { links = all.links ++ new_link ∷ [] }) in
      history-changed n parent (asking (AddChild number)) more roled (λ s. refl) (λ s. refl)
      ∙ ap (option_map (λ h. cond (n == parent) (more h) h))
      (history-changed n child (with_role Subsurface) (λ h. h) (record all { links = all.links ++ new_link ∷ [] }) (λ s. refl) (λ s. refl)
      ∙ same-history (n == child) (history_in n all))

  child-more : (l : ℕ) (rs : List Request) → has_child l (rs ++ AddChild number ∷ []) ≡ (has_child l rs || ((l == number) || false))
  child-more l rs = ap (list_any (is_member (Child l))) (order-last rs (AddChild number)) ∙ list_any-append (is_member (Child l)) (order rs) (Child number ∷ [])

  before : (n : ℕ) (new : History) → history_in n joined_all ≡ Some new → WasAsked (history_in n all) more (n == parent) new
  before n new e = was-asked (history_in n all) more (n == parent) new (sym (history-more n) ∙ e)

  tied-more : link_of child all ≡ None → AreTied joined_all
  tied-more alone = record {
    once = once-more child new_link all.links refl alone tied.once;
    apart = numbered-more number new_link all.links refl gone tied.apart;
    cuts = λ n new e. let was = before n new e in cut (n == parent) was.old new was.now (tied.cuts n was.old was.here);
    named = λ n l new e none.
        let was = before n new e in
        let both = none-more (link_at l all) (number == l) new_link (sym (at-more l) ∙ none) in
        named-more l (n == parent) was.old new was.now both.1 (tied.named n l was.old was.here both.0);
    placed = λ n l new e none.
        let was = before n new e in
        let both = none-more (link_at l all) (number == l) new_link (sym (at-more l) ∙ none) in
        placed-more l (n == parent) was.old new was.now (tied.placed n l was.old was.here both.0);
    parents = λ n l new link e f lives has.
        let was = before n new e in
        let found = found-more (link_at l all) (number == l) new_link link (sym (at-more l) ∙ f) in
        parents-more n l was.old new link was.here was.now found.which lives has;
    listed = λ l link f lives. let found = found-more (link_at l all) (number == l) new_link link (sym (at-more l) ∙ f) in listed-more l link found.which lives;
  }
    where
      cut : (b : Bool) (old new : History) → cond b (more old) old ≡ new → old.cut ≤ committed_at old.requests → new.cut ≤ committed_at new.requests
      cut true old new is le =
          let same = committed-same old.requests (AddChild number) refl in
          subst (λ (h : History). h.cut ≤ committed_at h.requests) is (omega (arith, le, same))
      cut false old new is le = subst (λ (h : History). h.cut ≤ committed_at h.requests) is le

      named-more : (l : ℕ) (b : Bool) (old new : History) → cond b (more old) old ≡ new → (number == l) ≡ false → has_child l old.requests ≡ false → has_child l new.requests ≡ false
      named-more l true old new is other none =
          let turned : (l == number) ≡ false = grind (arith, other) in
          ap (λ (h : History). has_child l h.requests) (sym is) ∙ (child-more l old.requests ∙ rw (none, turned) refl)
      named-more l false old new is other none = ap (λ (h : History). has_child l h.requests) (sym is) ∙ none

      placed-more : (l : ℕ) (b : Bool) (old new : History) → cond b (more old) old ≡ new → position l old.requests ≡ (pos 0, pos 0) → position l new.requests ≡ (pos 0, pos 0)
      placed-more l true old new is at = ap (λ (h : History). position l h.requests) (sym is) ∙ (position-last l old.requests (AddChild number) ∙ at)
      placed-more l false old new is at = ap (λ (h : History). position l h.requests) (sym is) ∙ at

      -- the requests of a surface named it before, or name it now
      child-before : (n l : ℕ) (old new : History) → cond (n == parent) (more old) old ≡ new → has_child l new.requests ≡ true
          → (has_child l old.requests ≡ true) ⊎ (((l == number) ≡ true) × ((n == parent) ≡ true))
      child-before n l old new is has = at (n == parent) refl is
        where
          either : (a b : Bool) → (a || (b || false)) ≡ true → (a ≡ true) ⊎ (b ≡ true)
          either true b e = inl refl
          either false true e = inr refl
          either false false e = absurd (cc)

          with-parent : (n == parent) ≡ true → (has_child l old.requests ≡ true) ⊎ ((l == number) ≡ true) → (has_child l old.requests ≡ true) ⊎ (((l == number) ≡ true) × ((n == parent) ≡ true))
          with-parent e (inl f) = inl f
          with-parent e (inr f) = inr (f, e)

          at : (b : Bool) → (n == parent) ≡ b → cond b (more old) old ≡ new → (has_child l old.requests ≡ true) ⊎ (((l == number) ≡ true) × ((n == parent) ≡ true))
          at true e is =
              with-parent e (either (has_child l old.requests) (l == number) (sym (child-more l old.requests) ∙ (ap (λ (h : History). has_child l h.requests) is ∙ has)))
          at false e is = inl (ap (λ (h : History). has_child l h.requests) is ∙ has)

      parents-more : (n l : ℕ) (old new : History) (link : Link) → history_in n all ≡ Some old → cond (n == parent) (more old) old ≡ new
          → ((link_at l all ≡ Some link) × Unit {0}) ⊎ ((link_at l all ≡ None) × ((number == l) ≡ true) × (new_link ≡ link)) → link.has_ended ≡ false
          → has_child l new.requests ≡ true → link.parent ≡ n
      parents-more n l old new link here is which lives has = at which (child-before n l old new is has)
        where
          at : ((link_at l all ≡ Some link) × Unit {0}) ⊎ ((link_at l all ≡ None) × ((number == l) ≡ true) × (new_link ≡ link))
              → (has_child l old.requests ≡ true) ⊎ (((l == number) ≡ true) × ((n == parent) ≡ true)) → link.parent ≡ n
          at (inl found) (inl has) = tied.parents n l old link here found.0 lives has
          at (inl found) (inr now) = absurd (let both = sym found.0 ∙ (ap (λ k. link_at k all) (eqb-true l number now.0) ∙ gone) in cc)
          at (inr fresh) (inl has) = absurd (let both = sym has ∙ tied.named n l old here fresh.0 in cc)
          at (inr fresh) (inr now) = ap (λ (l : Link). l.parent) (sym fresh.2) ∙ sym (eqb-true n parent now.1)

      listed-more : (l : ℕ) (link : Link) → ((link_at l all ≡ Some link) × Unit {0}) ⊎ ((link_at l all ≡ None) × ((number == l) ≡ true) × (new_link ≡ link)) → link.has_ended ≡ false
          → (h : History) × (history_in link.parent joined_all ≡ Some h) × (has_child l h.requests ≡ true)
      listed-more l link (inl found) lives =
          let is = tied.listed l link found.0 lives in (
            cond (link.parent == parent) (more is.0) is.0,
            history-more link.parent ∙ ap (option_map (λ h. cond (link.parent == parent) (more h) h)) is.1,
            still (link.parent == parent) is.0 is.2,
          )
        where
          still : (b : Bool) (h : History) → has_child l h.requests ≡ true → has_child l (cond b (more h) h).requests ≡ true
          still true h has = child-more l h.requests ∙ ap (λ b. b || ((l == number) || false)) has
          still false h has = has
      listed-more l link (inr fresh) lives =
          let same = ap (λ (l : Link). l.parent) (sym fresh.2) in
          let turned : (l == number) ≡ true = grind (arith, fresh.1) in (
            more h,
            ap (λ n. history_in n joined_all) same ∙ (history-more parent ∙ (ap (option_map (λ h. cond (parent == parent) (more h) h)) there
                ∙ ap (λ b. Some (cond b (more h) h)) (eq-eqb parent parent refl))),
            child-more l h.requests ∙ now (has_child l h.requests) (l == number) turned,
          )
        where
          now : (a b : Bool) → b ≡ true → (a || (b || false)) ≡ true
          now true b e = refl
          now false b e = rw e refl

  -- ---- the stacks

  stacks-parent : (g : History) → history_in parent all ≡ Some g → stacks_by (with_kid number (Some child) (kids_of all)) (more g) ≡ pending_as (added child) (stacks_by (kids_of all) g)
  stacks-parent g here =
      let kids = kids_of all in
      let fresh = tied.named parent number g here gone in
      let within = committed-within g.requests in
      let le = tied.cuts parent g here in
      same-stacks (follow-add kids g.requests number child fresh (tied.placed parent number g here gone))
      (ap (λ n. stack_by (with_kid number (Some child) kids) (take n (g.requests ++ AddChild number ∷ []))) (committed-same g.requests (AddChild number) refl)
      ∙ (ap (stack_by (with_kid number (Some child) kids)) (take-more (committed_at g.requests) g.requests (AddChild number) within)
      ∙ follow-others kids (take (committed_at g.requests) g.requests) number (Some child) (never-there number (committed_at g.requests) g.requests fresh)))
      (ap (stack_by (with_kid number (Some child) kids)) (take-more g.cut g.requests (AddChild number) (omega (arith, le, within)))
      ∙ follow-others kids (take g.cut g.requests) number (Some child) (never-there number g.cut g.requests fresh))

  stack-more : (n : ℕ) (b : Bool) → (n == parent) ≡ b → (o : Option History) → history_in n all ≡ o
      → cond b (pending_as (added child) (stacks_at (kids_of all) o)) (stacks_at (kids_of all) o)
      ≡ stacks_at (with_kid number (Some child) (kids_of all)) (option_map (λ h. cond b (more h) h) o)
  stack-more n true e None is = absurd (let both = sym is ∙ (ap (λ m. history_in m all) (eqb-true n parent e) ∙ there) in cc)
  stack-more n false e None is = refl
  stack-more n true e (Some g) is = sym (stacks-parent g (ap (λ m. history_in m all) (sym (eqb-true n parent e)) ∙ is))
  stack-more n false e (Some g) is = sym (stacks-others (kids_of all) g number (Some child) (tied.named n number g is gone))

none-kept : (o : Option Link) → option_map kept_of o ≡ None → o ≡ None
none-kept None e = refl
none-kept (Some l) e = absurd (cc)

pub joins-child : JoinsChild
joins-child old new all number child parent h gone free there links stacks hang = (
  record {
    links = λ c. ap (λ book. book c) links ∙ (at c (c == child) refl ∙ ap (option_map kept_of) (sym (live-more all number child parent h gone there hang.1 c)));
    stacks = λ n.
        changed-pointwise parent (pending_as (added child)) (stacks_in old) (stacks_in new) stacks n
        ∙ ap (λ s. cond (n == parent) (pending_as (added child) s) s) (hang.0.stacks n)
        ∙ stack-more all number child parent h gone there hang.1 n (n == parent) refl (history_in n all) refl
        ∙ ap (stacks_at (with_kid number (Some child) (kids_of all))) (sym (history-more all number child parent h gone there hang.1 n))
        ∙ ap (λ kids. stacks_at kids (history_in n (linked number child parent all))) (sym (kids-more all number child parent h gone there hang.1));
  },
  tied-more all number child parent h gone there hang.1 alone,
)
  where
    alone : link_of child all ≡ None
    alone = none-kept (link_of child all) (sym (hang.0.links child) ∙ free)

    fresh : Link
    fresh = record { number = number; child = child; parent = parent; synchronised = true; has_ended = false }

    right-none : (o : Option Link) → o ≡ option_or o None
    right-none None = refl
    right-none (Some l) = refl

    at : (c : ℕ) (b : Bool) → (c == child) ≡ b
        → (if b then Some (record { parent = parent; is_synchronised = true }) else links_in old c) ≡ option_map kept_of (option_or (link_of c all) (cond (child == c) (Some fresh) None))
    at c true e =
        let turned : (child == c) ≡ true = grind (arith, e) in
        let none : link_of c all ≡ None = ap (λ c. link_of c all) (eqb-true c child e) ∙ alone in
        rw (none, turned) refl
    at c false e =
        let turned : (child == c) ≡ false = grind (arith, e) in
        rw turned (hang.0.links c ∙ ap (option_map kept_of) (right-none (link_of c all)))
