-- What is kept of how surfaces hang together, after a surface has ended with its links.
use Rattle.std.proofs.Common.{◌≡◌, ℕ, inl, inr, ◌||◌, ◌&&◌, ◌==◌, Bool, true, false, cond, Option, Some, None, List, [], ◌∷◌, ◌++◌, take, refl, ap, sym, subst, ◌∙◌, arith, eq-eqb}
use Rattle.std.specs.Prelude.{pos, filter_map, find, not, if◌then◌else◌}
use Rattle.std.specs.List.{list_any}
use Rattle.std.specs.Option.{option_map}
use Rattle.std.proofs.lemmas.Bool.{eqb-true}
use Rattle.std.proofs.lemmas.List.{append-nil}
use Rattle.std.proofs.Math.Path.{fun_ext}
use Rattle.wl_links.specs.declared.placed.Member.TheVariants as kept
use Rattle.wl_links.specs.declared.placed.Placed.{Placed}
use Rattle.wl_links.specs.Stacks.{Stacks, removed, without as without_kept}
use Rattle.wl_links.specs.declared.link.Link.{Link as KeptLink}
use Rattle.wl_links.specs.Family.{HangTogether, Links, Tied, applied, changed_at, childless, left, links_in, not_below, parents_of, stacks_in}
use Rattle.wl_links.proofs.Depths.{same-below}
use Rattle.wl_surface.specs.Request.{Child, Itself, Member, Request}
use Rattle.wl_surface.specs.State.{History, apply, committed as committed_at, is_member, order, position}
use Rattle.wl_surface.specs.Surfaces.{Link, Surfaces, history_in, link_at, without_surface}
use Rattle.wl_surface.specs.Trees.{descends_from, ending, levels, link_of}
use Rattle.wl_links.specs.Trees.{StandFor}
use Rattle.wl_surface.specs.Hanging.{AreTied, DestroysSurface, Hang, kid_of, kids_of, left_without, stacks_at, stacks_by}
use Rattle.wl_surface.specs.TreeLaws.{AreOnceLinked, applied_where, ended_with, is_live_of, links_of}
use Rattle.wl_surface.specs.Stacks.{Kids, has_child, place_of, stack_by}
use Rattle.wl_surface.proofs.Changing.{KeepsLink, at-each, each-tied, keeps-where, or-false, was-link}
use Rattle.wl_surface.proofs.Coming.{history-applied, history-without, stacks-applied, tied-applied, tied-without}
use Rattle.wl_surface.proofs.TreesEnding.{IsLeft, end_one, ends-links, found-ended, live-parts, touches}
use Rattle.wl_surface.proofs.Hanging.{changed-pointwise, same-stacks}
use Rattle.wl_surface.proofs.Linking.{keeps-ending, live-child, never-there}
use Rattle.wl_surface.proofs.Parents.{same-descent}
use Rattle.wl_surface.proofs.Placing.{kept_of, live-found}

-- ---- the links that are left

keeps-end : (surface : ℕ) → KeepsLink (end_one surface)
keeps-end surface = keeps-where (touches surface) ending keeps-ending

-- A link that still lives isn't with the surface.
end-lives : (surface : ℕ) (l : Link) (b : Bool) → touches surface l ≡ b → (end_one surface l).has_ended ≡ false → (touches surface l ≡ false) × (end_one surface l ≡ l)
end-lives surface l false e lives = (e, ap (λ (b : Bool). cond b (ending l) l) e)
end-lives surface l true e lives = absurd (let ended = ap (λ (b : Bool). (cond b (ending l) l).has_ended) e in let both = sym ended ∙ lives in cc)

found-left : (surface c : ℕ) (ls : List Link) (l : Link) → find (is_live_of c) (ended_with surface ls) ≡ Some l → touches surface l ≡ false
found-left surface c [] l e = absurd (cc)
found-left surface c (x ∷ xs) l e = at (is_live_of c (end_one surface x)) refl e (found-left surface c xs l)
  where
    at : (b : Bool) → is_live_of c (end_one surface x) ≡ b → cond b (Some (end_one surface x)) (find (is_live_of c) (ended_with surface xs)) ≡ Some l
        → (find (is_live_of c) (ended_with surface xs) ≡ Some l → touches surface l ≡ false) → touches surface l ≡ false
    at true f e next =
        let is = end-lives surface x (touches surface x) refl (live-parts (end_one surface x).has_ended ((end_one surface x).child == c) f).0 in
        let it : end_one surface x ≡ l = cc in
        ap (touches surface) (sym it ∙ is.1) ∙ is.0
    at false f e next = next e

-- what is kept of the link of each child
links-left : (surface c : ℕ) (ls : List Link) → AreOnceLinked ls
    → not_below surface (if c == surface then None else option_map kept_of (find (is_live_of c) ls)) ≡ option_map kept_of (find (is_live_of c) (ended_with surface ls))
links-left surface c ls once = at (find (is_live_of c) (ended_with surface ls)) refl (found-left surface c ls) whole
  where
    whole : IsLeft surface c (find (is_live_of c) (ended_with surface ls)) (find (is_live_of c) ls)
    whole =
        subst (λ (xs : List Link). IsLeft surface c (find (is_live_of c) xs) (find (is_live_of c) ls)) (append-nil (ended_with surface ls))
        (subst (λ (xs : List Link). IsLeft surface c (find (is_live_of c) (ended_with surface ls ++ [])) (find (is_live_of c) xs)) (append-nil ls)
        (found-ended surface c ls [] (subst AreOnceLinked (sym (append-nil ls)) once)))

    none : (b : Bool) → not_below surface (if b then None else None) ≡ None
    none true = refl
    none false = refl

    here : (child : ℕ) (l : KeptLink) (b : Bool) → b ≡ true → not_below surface (if b then None else Some l) ≡ None
    here child l true e = refl
    here child l false e = absurd (cc)

    parent : (l : KeptLink) (b : Bool) → (l.parent == surface) ≡ true → not_below surface (if b then None else Some l) ≡ None
    parent l true e = refl
    parent l false e = ap (λ (b : Bool). if b then None else Some l) e

    touched : (l : Link) (b : Bool) → (l.child == surface) ≡ b → (b || l.parent == surface) ≡ true → (l.child == c) ≡ true
        → not_below surface (if c == surface then None else Some (kept_of l)) ≡ None
    touched l true e f is = here c (kept_of l) (c == surface) (ap (λ n. n == surface) (sym (eqb-true l.child c is)) ∙ e)
    touched l false e f is = parent (kept_of l) (c == surface) f

    stays : (l : Link) (b : Bool) → b ≡ false → (l.parent == surface) ≡ false → not_below surface (if b then None else Some (kept_of l)) ≡ Some (kept_of l)
    stays l true e f = absurd (cc)
    stays l false e f = ap (λ (b : Bool). if b then None else Some (kept_of l)) f

    at : (new : Option Link) → find (is_live_of c) (ended_with surface ls) ≡ new → ((l : Link) → find (is_live_of c) (ended_with surface ls) ≡ Some l → touches surface l ≡ false)
        → IsLeft surface c (find (is_live_of c) (ended_with surface ls)) (find (is_live_of c) ls)
        → not_below surface (if c == surface then None else option_map kept_of (find (is_live_of c) ls)) ≡ option_map kept_of (find (is_live_of c) (ended_with surface ls))
    at None e left (inl same) = rw (← same) (rw e (none (c == surface)))
    at (Some l) e left (inl same) =
        let apart = or-false (l.child == surface) (l.parent == surface) (left l e) in
        let child = live-child c ls l (sym same ∙ e) in
        rw (← same) (rw e (stays l (c == surface) (ap (λ n. n == surface) (sym (eqb-true l.child c child)) ∙ apart.0) apart.1))
    at new e left (inr (gone, l, is, with_it, child)) = rw (is, gone) (touched l (l.child == surface) refl with_it child)

-- ---- the kids that are left

-- a child that isn't this surface
abbrev less : ℕ → Option ℕ → Option ℕ
less surface None = None
less surface (Some child) = cond (surface == child) None (Some child)

kid-left : (surface n : ℕ) (o : Option Link) → ((link : Link) → o ≡ Some link → link.has_ended ≡ false → link.parent ≡ n) → (n == surface) ≡ false
    → kid_of (option_map (end_one surface) o) ≡ less surface (kid_of o)
kid-left surface n None parent other = refl
kid-left surface n (Some l) parent other =
    at l.has_ended (l.child == surface) refl refl (λ lives. ap (λ p. p == surface) (parent l refl lives) ∙ other)
  where
    dead : (b : Bool) → l.has_ended ≡ true → kid_of (Some (cond b (ending l) l)) ≡ less surface (kid_of (Some l))
    dead true e = rw e refl
    dead false e = rw e refl

    at : (ended same : Bool) → l.has_ended ≡ ended → (l.child == surface) ≡ same → (l.has_ended ≡ false → (l.parent == surface) ≡ false)
        → kid_of (Some (end_one surface l)) ≡ less surface (kid_of (Some l))
    at true same e f g = dead (touches surface l) e
    at false true e f g =
        let turned : (surface == l.child) ≡ true = grind (arith, f) in
        rw f (rw (e, turned) refl)
    at false false e f g =
        let turned : (surface == l.child) ≡ false = grind (arith, f) in
        let apart = g e in
        rw (f, apart) (rw (e, turned) refl)

-- ---- the stacks that are left

places-named : (kids more : Kids) (rs : List Request) (ms : List Member) → ((k : ℕ) → list_any (is_member (Child k)) ms ≡ true → kids k ≡ more k)
    → filter_map (place_of kids rs) ms ≡ filter_map (place_of more rs) ms
places-named kids more rs [] same = refl
places-named kids more rs (m ∷ ms) same = rw (here m same, places-named kids more rs ms (λ k there. same k (later (is_member (Child k) m) there))) refl
  where
    later : (a : Bool) {b : Bool} → b ≡ true → (a || b) ≡ true
    later true e = refl
    later false e = e

    here : (m : Member) → ((k : ℕ) → list_any (is_member (Child k)) (m ∷ ms) ≡ true → kids k ≡ more k) → place_of kids rs m ≡ place_of more rs m
    here Itself same = refl
    here (Child k) same =
        ap (option_map (λ child. record { member = kept.Child child; x = (position k rs).0; y = (position k rs).1 }))
        (same k (ap (λ b. b || list_any (is_member (Child k)) ms) (eq-eqb k k refl)))

-- A child that stood there still does at the end.
named-later : (k n : ℕ) (rs : List Request) → has_child k (take n rs) ≡ true → has_child k rs ≡ true
named-later k n rs there = at (has_child k rs) refl
  where
    at : (b : Bool) → has_child k rs ≡ b → has_child k rs ≡ true
    at true e = e
    at false e = absurd (let both = sym there ∙ never-there k n rs e in cc)

-- A child that isn't named doesn't matter.
stacks-named : (kids more : Kids) (h : History) → ((k : ℕ) → has_child k h.requests ≡ true → kids k ≡ more k) → stacks_by kids h ≡ stacks_by more h
stacks-named kids more h same = same-stacks (places-named kids more h.requests (order h.requests) same) (part (committed_at h.requests)) (part h.cut)
  where
    part : (n : ℕ) → stack_by kids (take n h.requests) ≡ stack_by more (take n h.requests)
    part n = places-named kids more (take n h.requests) (order (take n h.requests)) (λ k there. same k (named-later k n h.requests there))

stack-less : (surface : ℕ) (kids : Kids) (rs : List Request) (ms : List Member)
    → filter_map (place_of (λ k. less surface (kids k)) rs) ms ≡ without_kept (kept.Child surface) (filter_map (place_of kids rs) ms)
stack-less surface kids rs [] = refl
stack-less surface kids rs (Itself ∷ ms) = ap (λ (ps : List Placed). record { member = kept.Itself; x = pos 0; y = pos 0 } ∷ ps) (stack-less surface kids rs ms)
stack-less surface kids rs (Child k ∷ ms) = at (kids k) refl (stack-less surface kids rs ms)
  where
    one : (child : ℕ) (b : Bool) → kids k ≡ Some child → (surface == child) ≡ b
        → filter_map (place_of (λ k. less surface (kids k)) rs) ms ≡ without_kept (kept.Child surface) (filter_map (place_of kids rs) ms)
        → filter_map (place_of (λ k. less surface (kids k)) rs) (Child k ∷ ms) ≡ without_kept (kept.Child surface) (filter_map (place_of kids rs) (Child k ∷ ms))
    one child true e f next = rw e (rw f next)
    one child false e f next = rw e (rw f (ap (λ (ps : List Placed). record { member = kept.Child child; x = (position k rs).0; y = (position k rs).1 } ∷ ps) next))

    at : (o : Option ℕ) → kids k ≡ o → filter_map (place_of (λ k. less surface (kids k)) rs) ms ≡ without_kept (kept.Child surface) (filter_map (place_of kids rs) ms)
        → filter_map (place_of (λ k. less surface (kids k)) rs) (Child k ∷ ms) ≡ without_kept (kept.Child surface) (filter_map (place_of kids rs) (Child k ∷ ms))
    at None e next = rw e next
    at (Some child) e next = one child (surface == child) e refl next

stacks-less : (surface : ℕ) (kids : Kids) (h : History) → stacks_by (λ k. less surface (kids k)) h ≡ removed surface (stacks_by kids h)
stacks-less surface kids h =
    same-stacks (stack-less surface kids h.requests (order h.requests)) (stack-less surface kids (take (committed_at h.requests) h.requests) (order (take (committed_at h.requests) h.requests)))
    (stack-less surface kids (take h.cut h.requests) (order (take h.cut h.requests)))

-- ---- all together

module _ (old : Tied) (all : Surfaces) (surface : ℕ) (together : HangTogether old) (hang : Hang old all) where
  abbrev below : ℕ → Bool
  below n = descends_from levels all surface n

  abbrev ended : Surfaces
  ended = record (applied_where below all) { links = ended_with surface all.links }

  abbrev kids : Kids
  kids = kids_of all

  abbrev kids_left : Kids
  kids_left = kids_of ended

  -- So many levels are enough.
  below-same : (n : ℕ) → descends_from 16 all surface n ≡ below n
  below-same n =
      same-descent all 16 surface n
      ∙ (sym (same-below (parents_of (links_of all)) old.places
      (subst (λ (ls : Links). StandFor old.places (parents_of ls)) (fun_ext hang.0.links) together.trees) together.within surface n) ∙ sym (same-descent all levels surface n))

  -- No link that still lives is to this surface.
  no-parent : (number : ℕ) (link : Link) → link_at number ended ≡ Some link → link.has_ended ≡ false → (link.parent == surface) ≡ false
  no-parent number link e lives =
      let was = was-link (end_one surface) (keeps-end surface) (link_at number all) link (sym (at-each (end_one surface) (keeps-end surface) number all.links) ∙ e) in
      let is = end-lives surface was.old (touches surface was.old) refl (ap (λ (l : Link). l.has_ended) was.now ∙ lives) in
      ap (λ (l : Link). l.parent == surface) (sym was.now ∙ is.1) ∙ (or-false (was.old.child == surface) (was.old.parent == surface) is.0).1

  tied-left : AreTied (without_surface surface ended)
  tied-left = tied-without ended surface no-parent (each-tied (end_one surface) (keeps-end surface) (applied_where below all) (tied-applied below all hang.1))

  -- Of the links that a surface names, this one's child isn't its child any more.
  kid-named : (n k : ℕ) (h : History) → (n == surface) ≡ false → history_in n all ≡ Some h → has_child k h.requests ≡ true → kids_left k ≡ less surface (kids k)
  kid-named n k h other is named =
      ap kid_of (at-each (end_one surface) (keeps-end surface) k all.links)
      ∙ kid-left surface n (link_at k all) (λ link there lives. hang.1.parents n k h link is there lives named) other

  -- It was a child of its parent alone.
  kid-others : (n k : ℕ) (h : History) → history_in n all ≡ Some h → has_child k h.requests ≡ true
      → ((link : Link) → link_of surface all ≡ Some link → (n == link.parent) ≡ false) → less surface (kids k) ≡ kids k
  kid-others n k h is named apart = at (link_at k all) refl
    where
      it : (link : Link) (b : Bool) → link_at k all ≡ Some link → link.has_ended ≡ false → (surface == link.child) ≡ b → cond b None (Some link.child) ≡ Some link.child
      it link false e lives same = refl
      it link true e lives same =
          absurd (let found = ap (λ c. link_of c all) (eqb-true surface link.child same) ∙ live-found k all.links link hang.1.once e lives in
          let both = sym (eq-eqb n link.parent (sym (hang.1.parents n k h link is e lives named))) ∙ apart link found in cc)

      living : (link : Link) (b : Bool) → link.has_ended ≡ b → link_at k all ≡ Some link → less surface (cond b None (Some link.child)) ≡ cond b None (Some link.child)
      living link true lives e = refl
      living link false lives e = it link (surface == link.child) e lives refl

      at : (o : Option Link) → link_at k all ≡ o → less surface (kid_of (link_at k all)) ≡ kid_of (link_at k all)
      at None e = rw e refl
      at (Some link) e = rw e (living link link.has_ended refl e)

  -- the surface is in none of its parent's stacks
  falls : (n : ℕ) → (n == surface) ≡ false → (o : Option History) → history_in n all ≡ o → removed surface (stacks_at kids o) ≡ stacks_at kids_left o
  falls n other None is = refl
  falls n other (Some h) is = sym (stacks-named kids_left (λ k. less surface (kids k)) h (λ k named. kid-named n k h other is named) ∙ stacks-less surface kids h)

  -- Each other surface keeps its own stacks.
  stays : (n : ℕ) → (n == surface) ≡ false → ((link : Link) → link_of surface all ≡ Some link → (n == link.parent) ≡ false) → (o : Option History) → history_in n all ≡ o
      → stacks_at kids o ≡ stacks_at kids_left o
  stays n other apart None is = refl
  stays n other apart (Some h) is = sym (stacks-named kids_left kids h (λ k named. kid-named n k h other is named ∙ kid-others n k h is named apart))

  stack-left : (n : ℕ) → (n == surface) ≡ false → left surface (links_in old surface) (stacks_in old) n ≡ stacks_at kids_left (history_in n all)
  stack-left n other = ap (λ (o : Option KeptLink). left surface o (stacks_in old) n) (hang.0.links surface) ∙ at (link_of surface all) refl
    where
      parent : (l : Link) (b : Bool) → link_of surface all ≡ Some l → (n == l.parent) ≡ b → cond b (removed surface (stacks_in old n)) (stacks_in old n) ≡ stacks_at kids_left (history_in n all)
      parent l true e f = ap (removed surface) (hang.0.stacks n) ∙ falls n other (history_in n all) refl
      parent l false e f = hang.0.stacks n ∙ stays n other (λ link there. let same : l ≡ link = cc in ap (λ (l : Link). n == l.parent) (sym same) ∙ f) (history_in n all) refl

      at : (o : Option Link) → link_of surface all ≡ o → left surface (option_map kept_of o) (stacks_in old) n ≡ stacks_at kids_left (history_in n all)
      at None e = hang.0.stacks n ∙ stays n other (λ link there. absurd (let both = sym e ∙ there in cc)) (history_in n all) refl
      at (Some l) e =
          changed-pointwise l.parent (removed surface) (stacks_in old) (changed_at l.parent (removed surface) (stacks_in old)) refl n ∙ parent l (n == l.parent) e refl

  stacks-left : (n : ℕ) → cond (descends_from 16 all surface n && not (n == surface)) (applied (left_without surface old n)) (left_without surface old n)
      ≡ stacks_at kids_left (history_in n (without_surface surface ended))
  stacks-left n =
      value (descends_from 16 all surface n) (n == surface) (left surface (links_in old surface) (stacks_in old) n)
      ∙ (at (n == surface) refl ∙ ap (stacks_at kids_left) (sym (history-without n surface ended ∙ ap (cond (n == surface) None) (history-applied n below all))))
    where
      value : (d b : Bool) (s : Stacks) → cond (d && not b) (applied (if b then childless else s)) (if b then childless else s) ≡ (if b then childless else cond d (applied s) s)
      value true true s = refl
      value true false s = refl
      value false true s = refl
      value false false s = refl

      at : (b : Bool) → (n == surface) ≡ b
          → (if b then childless else cond (descends_from 16 all surface n) (applied (left surface (links_in old surface) (stacks_in old) n)) (left surface (links_in old surface) (stacks_in old) n))
          ≡ stacks_at kids_left (cond b None (option_map (λ h. cond (below n) (apply h) h) (history_in n all)))
      at true e = refl
      at false e =
          ap (λ s. cond (descends_from 16 all surface n) (applied s) s) (stack-left n e)
          ∙ (ap (λ b. cond b (applied (stacks_at kids_left (history_in n all))) (stacks_at kids_left (history_in n all))) (below-same n) ∙ stacks-applied kids_left (below n) (history_in n all))

pub destroys-surface : DestroysSurface
destroys-surface old new all surface together links stacks hang =
    subst (λ (x : Surfaces). Hang new x) (sym (ends-links all surface hang.1.once hang.1.apart)) (
      record {
        links = λ c.
            ap (λ book. book c) links ∙ (ap (λ (o : Option KeptLink). not_below surface (if c == surface then None else o)) (hang.0.links c) ∙ links-left surface c all.links hang.1.once);
        stacks = λ n. stacks n ∙ stacks-left old all surface together hang n;
      },
      tied-left old all surface together hang,
    )
