-- What is done to the surfaces of a client is done to them under other names.
use Rattle.std.proofs.Common.{◌≡◌, ℕ, zero, suc, ◌==◌, ◌&&◌, ◌||◌, Bool, true, false, cond, not, Option, Some, None, List, [], ◌∷◌, ◌++◌, map, is_some, refl, ap, ap₂, sym, ◌∙◌}
use Rattle.std.specs.Prelude.{filter, fold}
use Rattle.std.specs.Option.{option_map}
use Rattle.std.proofs.lemmas.List.{map-append}
use Rattle.wl_surface.specs.declared.role.Role.TheVariants.{Subsurface}
use Rattle.wl_surface.specs.Request.{AddChild, Commit}
use Rattle.wl_surface.specs.Surface.{Surface, applying, asking, new_surface, with_role}
use Rattle.wl_surface.specs.Surfaces.{Link, Surfaces, link_at, surface_at, with_change, with_new, without_surface}
use Rattle.wl_surface.specs.Trees.{applied_tree, applied_unless, behaves_synchronised, children_of, committed_in, desynchronised_in, destroyed_in, ended_in, ending}
use Rattle.wl_surface.specs.Trees.{in_mode, levels, linked, links_with, released_in, synchronised_in, unlinked, with_link}
use Rattle.law_desktop.specs.Renaming.{renamed, renamed_link, renamed_surface}
use Rattle.law_desktop.proofs.ByNames.Names.Lists.{each-append, each-filtered, each-from, each-mapped, each-weaker, filter-mapped, find-mapped, fold-mapped, found, map-both}
use Rattle.law_desktop.proofs.ByNames.Names.Reading.{IsBetween, Knows, children-known, children-renamed, if-lives, link-renamed, lives-of, mode-renamed, same-name}

-- ---- who is known stays

pub some-mapped : (h : Surface → Surface) (o : Option Surface) → is_some (option_map h o) ≡ is_some o
some-mapped h None = refl
some-mapped h (Some s) = refl

pub surfaces-kept : {f : ℕ → ℕ} {known : ℕ → Bool} {all : Surfaces} → Knows f known all → (h : Surface → Surface) → ((s : Surface) → (h s).id ≡ s.id)
    → Knows f known (record all { surfaces = map h all.surfaces })
surfaces-kept {f} {known} {all} k h same = record {
  apart = k.apart;
  named =
      each-mapped (λ (s : Surface). known s.id ≡ true) h all.surfaces
      (each-weaker (λ (s : Surface). known s.id ≡ true) (λ (s : Surface). known (h s).id ≡ true) (λ s is. ap known (same s) ∙ is) all.surfaces k.named);
  there = λ a e.
      ap is_some (find-mapped (λ (s : Surface). s.id == a) (λ (s : Surface). s.id == a) h all.surfaces
      (each-from (λ (s : Surface). ((h s).id == a) ≡ (s.id == a)) (λ s. ap (λ m. m == a) (same s)) all.surfaces))
      ∙ (some-mapped h (surface_at a all) ∙ k.there a e);
  ends = k.ends;
}

pub links-kept : {f : ℕ → ℕ} {known : ℕ → Bool} {all : Surfaces} → Knows f known all → (h : Link → Link) → ((l : Link) → IsBetween known l → IsBetween known (h l))
    → Knows f known (record all { links = map h all.links })
links-kept {f} {known} {all} k h keeps = record {
  apart = k.apart;
  named = k.named;
  there = k.there;
  ends = each-mapped (IsBetween known) h all.links (each-weaker (IsBetween known) (λ (l : Link). IsBetween known (h l)) keeps all.links k.ends);
}

changed-id : (b : Bool) (change : Surface → Surface) (s : Surface) → (change s).id ≡ s.id → (cond b (change s) s).id ≡ s.id
changed-id true change s same = same
changed-id false change s same = refl

pub change-known : {f : ℕ → ℕ} {known : ℕ → Bool} {all : Surfaces} → Knows f known all → (id : ℕ) (change : Surface → Surface) → ((s : Surface) → (change s).id ≡ s.id)
    → Knows f known (with_change id change all)
change-known k id change same = surfaces-kept k (λ (s : Surface). cond (s.id == id) (change s) s) (λ s. changed-id (s.id == id) change s (same s))

pub with-link-known : {f : ℕ → ℕ} {known : ℕ → Bool} {all : Surfaces} → Knows f known all → (number : ℕ) (change : Link → Link)
    → ((l : Link) → IsBetween known l → IsBetween known (change l)) → Knows f known (with_link number change all)
with-link-known {f} {known} {all} k number change keeps = links-kept k (λ (l : Link). cond (l.number == number) (change l) l) (λ l between. at l (l.number == number) between)
  where
    at : (l : Link) (b : Bool) → IsBetween known l → IsBetween known (cond b (change l) l)
    at l true between = keeps l between
    at l false between = between

-- ---- one surface, or one link, changes

pub change-renamed : {f : ℕ → ℕ} {known : ℕ → Bool} {all : Surfaces} → Knows f known all → (id : ℕ) (change : Surface → Surface)
    → ((s : Surface) → change (renamed_surface f s) ≡ renamed_surface f (change s)) → known id ≡ true
    → with_change (f id) change (renamed f all) ≡ renamed f (with_change id change all)
change-renamed {f} {known} {all} k id change same there =
    ap (λ (xs : List Surface). record (renamed f all) { surfaces = xs })
    (map-both (renamed_surface f) (λ (s : Surface). cond (s.id == f id) (change s) s) (λ (s : Surface). cond (s.id == id) (change s) s) (renamed_surface f) all.surfaces
    (each-weaker (λ (s : Surface). known s.id ≡ true)
    (λ (s : Surface). cond (f s.id == f id) (change (renamed_surface f s)) (renamed_surface f s) ≡ renamed_surface f (cond (s.id == id) (change s) s))
    (λ s here. at s (s.id == id) (f s.id == f id) (same-name k s.id id here there)) all.surfaces k.named))
  where
    at : (s : Surface) (b c : Bool) → c ≡ b → cond c (change (renamed_surface f s)) (renamed_surface f s) ≡ renamed_surface f (cond b (change s) s)
    at s true c e = rw e (same s)
    at s false c e = rw e refl

pub with-link-renamed : (f : ℕ → ℕ) (all : Surfaces) (number : ℕ) (change : Link → Link) → ((l : Link) → change (renamed_link f l) ≡ renamed_link f (change l))
    → with_link number change (renamed f all) ≡ renamed f (with_link number change all)
with-link-renamed f all number change same =
    ap (λ (ls : List Link). record (renamed f all) { links = ls })
    (map-both (renamed_link f) (λ (l : Link). cond (l.number == number) (change l) l) (λ (l : Link). cond (l.number == number) (change l) l) (renamed_link f) all.links
    (each-from (λ (l : Link). cond (l.number == number) (change (renamed_link f l)) (renamed_link f l) ≡ renamed_link f (cond (l.number == number) (change l) l))
    (λ l. at l (l.number == number)) all.links))
  where
    at : (l : Link) (b : Bool) → cond b (change (renamed_link f l)) (renamed_link f l) ≡ renamed_link f (cond b (change l) l)
    at l true = same l
    at l false = refl

-- ---- trees are applied

pub tree-renamed : {f : ℕ → ℕ} {known : ℕ → Bool} (n id : ℕ) (all : Surfaces) → Knows f known all → known id ≡ true
    → Knows f known (applied_tree n id all) × (applied_tree n (f id) (renamed f all) ≡ renamed f (applied_tree n id all))
unfolding applied_tree
tree-renamed zero id all k there = (k, refl)
tree-renamed {f} {known} (suc n) id all k there =
    let children = fold-mapped (λ (done : Surfaces) (child : ℕ). applied_tree n child done) (λ (done : Surfaces) (child : ℕ). applied_tree n child done) (renamed f) f
    (λ (x : Surfaces). Knows f known x) (λ (c : ℕ). known c ≡ true) (λ done child knows is. tree-renamed n child done knows is)
    (children_of id all) (children-known k id) (with_change id applying all) (change-known k id applying (λ s. refl)) in (
      children.0,
      ap₂ (λ (x : Surfaces) (cs : List ℕ). fold (λ (done : Surfaces) (child : ℕ). applied_tree n child done) x cs)
          (change-renamed k id applying (λ s. refl) there) (children-renamed k id there) ∙ children.1,
    )

pub unless-renamed : {f : ℕ → ℕ} {known : ℕ → Bool} {all : Surfaces} → Knows f known all → (b : Bool) (id : ℕ) → known id ≡ true
    → Knows f known (applied_unless b id all) × (applied_unless b (f id) (renamed f all) ≡ renamed f (applied_unless b id all))
unless-renamed k true id there = (k, refl)
unless-renamed {f} {known} {all} k false id there = tree-renamed levels id all k there

pub commit-renamed : {f : ℕ → ℕ} {known : ℕ → Bool} {all : Surfaces} → Knows f known all → (id : ℕ) → known id ≡ true
    → Knows f known (committed_in id all) × (committed_in (f id) (renamed f all) ≡ renamed f (committed_in id all))
commit-renamed {f} {known} {all} k id there =
    let done = unless-renamed (change-known k id (asking Commit) (λ s. refl)) (behaves_synchronised levels all id) id there in (
      done.0,
      ap₂ (λ (b : Bool) (x : Surfaces). applied_unless b (f id) x) (mode-renamed k levels id there) (change-renamed k id (asking Commit) (λ s. refl) there) ∙ done.1,
    )

-- ---- a link comes

pub linked-renamed : {f : ℕ → ℕ} {known : ℕ → Bool} {all : Surfaces} → Knows f known all → (number child parent : ℕ) → known child ≡ true → known parent ≡ true
    → Knows f known (linked number child parent all) × (linked number (f child) (f parent) (renamed f all) ≡ renamed f (linked number child parent all))
linked-renamed {f} {known} {all} k number child parent below above =
    let roled = change-known grown-known child (with_role Subsurface) (λ s. refl) in (
      change-known roled parent (asking (AddChild number)) (λ s. refl),
      ap (λ (ls : List Link). with_change (f parent) (asking (AddChild number)) (with_change (f child) (with_role Subsurface) (record (renamed f all) { links = ls })))
          (sym (map-append (renamed_link f) all.links (new ∷ [])))
          ∙ (ap (with_change (f parent) (asking (AddChild number))) (change-renamed grown-known child (with_role Subsurface) (λ s. refl) below)
          ∙ change-renamed roled parent (asking (AddChild number)) (λ s. refl) above),
    )
  where
    new : Link
    new = record { number = number; child = child; parent = parent; synchronised = true; has_ended = false }

    grown-known : Knows f known (record all { links = all.links ++ new ∷ [] })
    grown-known = record {
      apart = k.apart;
      named = k.named;
      there = k.there;
      ends = each-append (IsBetween known) all.links (new ∷ []) k.ends ((λ lives. (below, above)), tt);
    }

-- ---- modes

pub synchronised-renamed : {f : ℕ → ℕ} {known : ℕ → Bool} {all : Surfaces} → Knows f known all → (number : ℕ)
    → Knows f known (synchronised_in number all) × (synchronised_in number (renamed f all) ≡ renamed f (synchronised_in number all))
synchronised-renamed {f} {known} {all} k number =
    (with-link-known k number (in_mode true) (λ l between. between), with-link-renamed f all number (in_mode true) (λ l. refl))

pub desynchronised-renamed : {f : ℕ → ℕ} {known : ℕ → Bool} {all : Surfaces} → Knows f known all → (number : ℕ)
    → ((l : Link) → link_at number all ≡ Some l → l.has_ended ≡ false)
    → Knows f known (desynchronised_in number all) × (desynchronised_in number (renamed f all) ≡ renamed f (desynchronised_in number all))
desynchronised-renamed {f} {known} {all} k number lives =
    let done = at (link_at number all) l-known in
    (done.0, ap₂ (λ (o : Option Link) (x : Surfaces). released_in o (renamed f all) x) (link-renamed f all number) (with-link-renamed f all number (in_mode false) (λ l. refl)) ∙ done.1)
  where
    new-known : Knows f known (with_link number (in_mode false) all)
    new-known = with-link-known k number (in_mode false) (λ l between. between)

    l-known : (l : Link) → link_at number all ≡ Some l → known l.child ≡ true
    l-known l e = ((found (λ (l : Link). l.number == number) (IsBetween known) all.links k.ends l e).0 (lives l e)).0

    at : (o : Option Link) → ((l : Link) → o ≡ Some l → known l.child ≡ true)
        → Knows f known (released_in o all (with_link number (in_mode false) all))
        × (released_in (option_map (renamed_link f) o) (renamed f all) (renamed f (with_link number (in_mode false) all))
        ≡ renamed f (released_in o all (with_link number (in_mode false) all)))
    at None there = (new-known, refl)
    at (Some l) there =
        let is = there l refl in
        let done = unless-renamed new-known
        (not (behaves_synchronised levels all l.child) || behaves_synchronised levels (with_link number (in_mode false) all) l.child) l.child is in (
          done.0,
          ap (λ (b : Bool). applied_unless b (f l.child) (renamed f (with_link number (in_mode false) all)))
              (ap₂ (λ (a b : Bool). not a || b) (mode-renamed k levels l.child is) (mode-renamed new-known levels l.child is)) ∙ done.1,
        )

-- ---- links end

ended-renamed : {f : ℕ → ℕ} {known : ℕ → Bool} {all : Surfaces} → Knows f known all → (l : Link) → known l.child ≡ true
    → Knows f known (ended_in all l) × (ended_in (renamed f all) (renamed_link f l) ≡ renamed f (ended_in all l))
ended-renamed {f} {known} {all} k l there =
    let done = tree-renamed levels l.child (with_link l.number ending all) (with-link-known k l.number ending (λ m between e. absurd (cc))) there in
    (done.0, ap (applied_tree levels (f l.child)) (with-link-renamed f all l.number ending (λ m. refl)) ∙ done.1)

-- of the links that live, some end
ends-renamed : {f : ℕ → ℕ} {known : ℕ → Bool} {all : Surfaces} → Knows f known all → (p q : Link → Bool)
    → ((l : Link) → IsBetween known l → (not l.has_ended && q (renamed_link f l)) ≡ (not l.has_ended && p l))
    → Knows f known (fold ended_in all (filter (λ l. not l.has_ended && p l) all.links))
    × (fold ended_in (renamed f all) (filter (λ l. not l.has_ended && q l) (map (renamed_link f) all.links))
    ≡ renamed f (fold ended_in all (filter (λ l. not l.has_ended && p l) all.links)))
ends-renamed {f} {known} {all} k p q same =
    let done = fold-mapped ended_in ended_in (renamed f) (renamed_link f) (λ (x : Surfaces). Knows f known x) (λ (l : Link). known l.child ≡ true)
    (λ x l knows is. ended-renamed knows l is) (filter (λ (l : Link). not l.has_ended && p l) all.links)
    (each-weaker (λ (l : Link). IsBetween known l × ((not l.has_ended && p l) ≡ true)) (λ (l : Link). known l.child ≡ true)
    (λ l both. (both.0 (lives-of l.has_ended (p l) both.1)).0) (filter (λ (l : Link). not l.has_ended && p l) all.links)
    (each-filtered (λ (l : Link). not l.has_ended && p l) (IsBetween known) all.links k.ends)) all k in (
      done.0,
      ap (fold ended_in (renamed f all))
          (filter-mapped (λ (l : Link). not l.has_ended && p l) (λ (l : Link). not l.has_ended && q l) (renamed_link f) all.links
          (each-weaker (IsBetween known) (λ (l : Link). (not l.has_ended && q (renamed_link f l)) ≡ (not l.has_ended && p l)) same all.links k.ends))
          ∙ done.1,
    )

pub unlinked-renamed : {f : ℕ → ℕ} {known : ℕ → Bool} {all : Surfaces} → Knows f known all → (number : ℕ)
    → Knows f known (unlinked number all) × (unlinked number (renamed f all) ≡ renamed f (unlinked number all))
unlinked-renamed k number = ends-renamed k (λ (l : Link). l.number == number) (λ (l : Link). l.number == number) (λ l between. refl)

-- ---- surfaces come and go

pub new-renamed : (f : ℕ → ℕ) (all : Surfaces) (id : ℕ) → with_new (f id) (renamed f all) ≡ renamed f (with_new id all)
new-renamed f all id = ap (λ (xs : List Surface). record (renamed f all) { surfaces = xs }) (sym (map-append (renamed_surface f) all.surfaces (new_surface id ∷ [])))

pub without-renamed : {f : ℕ → ℕ} {known : ℕ → Bool} {all : Surfaces} → Knows f known all → (id : ℕ) → known id ≡ true
    → without_surface (f id) (renamed f all) ≡ renamed f (without_surface id all)
without-renamed {f} {known} {all} k id there =
    ap (λ (xs : List Surface). record (renamed f all) { surfaces = xs })
    (filter-mapped (λ (s : Surface). not (s.id == id)) (λ (s : Surface). not (s.id == f id)) (renamed_surface f) all.surfaces
    (each-weaker (λ (s : Surface). known s.id ≡ true) (λ (s : Surface). not (f s.id == f id) ≡ not (s.id == id)) (λ s here. ap not (same-name k s.id id here there))
    all.surfaces k.named))

pub links-with-renamed : {f : ℕ → ℕ} {known : ℕ → Bool} {all : Surfaces} → Knows f known all → (id : ℕ) → known id ≡ true
    → Knows f known (fold ended_in all (links_with id all))
    × (fold ended_in (renamed f all) (links_with (f id) (renamed f all)) ≡ renamed f (fold ended_in all (links_with id all)))
links-with-renamed {f} {known} {all} k id there =
    ends-renamed k (λ (l : Link). l.child == id || l.parent == id) (λ (l : Link). l.child == f id || l.parent == f id)
    (λ l between. if-lives l.has_ended (f l.child == f id || f l.parent == f id) (l.child == id || l.parent == id)
    (λ lives. let are = between lives in ap₂ (λ (a b : Bool). a || b) (same-name k l.child id are.0 there) (same-name k l.parent id are.1 there)))

pub destroyed-renamed : {f : ℕ → ℕ} {known : ℕ → Bool} {all : Surfaces} → Knows f known all → (id : ℕ) → known id ≡ true
    → destroyed_in (f id) (renamed f all) ≡ renamed f (destroyed_in id all)
destroyed-renamed {f} {known} {all} k id there =
    let done = links-with-renamed k id there in ap (without_surface (f id)) done.1 ∙ without-renamed done.0 id there
