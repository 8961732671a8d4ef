-- The links that are kept under numbers, and those that live, by ids.
use Rattle.std.proofs.Common.{◌≡◌, ℕ, ◌==◌, ◌&&◌, ◌||◌, Bool, true, false, not, Option, Some, None, List, [], ◌∷◌, refl, ap, ◌∙◌, eqb-true}
use Rattle.std.specs.Prelude.{filter_map, take}
use Rattle.std.specs.Option.{option_map, option_map_or}
use Rattle.wl_links.specs.declared.placed.Member.TheVariants as kept
use Rattle.wl_links.specs.declared.placed.Placed.{Placed}
use Rattle.wl_links.specs.declared.link.Link.{Link as Kept}
use Rattle.wl_links.specs.Family.{is_child, links_in}
use Rattle.wl_surface.specs.Request.{Child, Itself, Member, Request}
use Rattle.wl_surface.specs.State.{History, committed as committed_at, counting, order, position}
use Rattle.wl_surface.specs.Surfaces.{Link, history_in}
use Rattle.wl_surface.specs.Trees.{link_of}
use Rattle.wl_surface.specs.Hanging.{kids_of, stacks_at}
use Rattle.wl_surface.specs.TreeLaws.{is_live_of, links_of}
use Rattle.wl_surface.specs.Stacks.{Kids, place_of}
use Rattle.wl_surface.proofs.Hanging.{same-stacks}
use Rattle.wl_surface.proofs.TreesEnding.{live-parts}
use Rattle.wl_surface.proofs.Placing.{kept_of, kid-is}
use Rattle.law_desktop.specs.Renaming.{has_surface, renamed, renamed_link}
use Rattle.law_desktop.proofs.ByNames.Names.Known.{known-there, reads-surfaces}
use Rattle.law_desktop.proofs.ByNames.Names.Lists.{each-from, found}
use Rattle.law_desktop.proofs.ByNames.Names.Reading.{parent-known, same-name}
use Rattle.law_desktop.specs.Reading.{FindsNamed, SiblingsNamed, StacksNamed, TiesNamed, kept_by, member_by, stack_by, stacks_by}
use Rattle.law_desktop.proofs.ByNames.Linking.{kids-named, numbered-named}
use Rattle.law_desktop.proofs.TreeSteps.Descents.{found-number}

pub ties-named : TiesNamed
ties-named names slots tied all id there by =
    by.stands.hang.0.links (names id) ∙ (ap (option_map kept_of) (reads-surfaces names all by.renaming id there).link ∙ at (link_of id all))
  where
    at : (o : Option Link) → option_map kept_of (option_map (renamed_link names) o) ≡ option_map (kept_by names) o
    at None = refl
    at (Some l) = refl

-- ---- a link that lives, by its number

pub finds-named : FindsNamed
finds-named names slots tied all id link by e =
    let here = found-number (is_live_of id) all.links link (numbered-named names all.links by.stands.hang.1.apart) e in
    let is = live-parts link.has_ended (link.child == id)
    (found (is_live_of id) (λ (l : Link). Unit {0}) all.links (each-from (λ (l : Link). Unit {0}) (λ l. tt) all.links) link e).1 in
    let child = eqb-true link.child id is.1 in
    (record { here = here; lives = is.0; of_child = child }, kid-is all link.number link here is.0 ∙ ap (λ n. Some n) child)

-- ---- siblings

pub siblings-named : SiblingsNamed
siblings-named names slots tied all child sibling below beside by = at (link_of child all) refl (ties-named names slots tied all child below by)
  where
    child-same : (parent : ℕ) → has_surface parent all ≡ true → (o : Option Link) → link_of sibling all ≡ o → links_in tied (names sibling) ≡ option_map (kept_by names) o
        → is_child (names parent) (links_in tied) (names sibling) ≡ is_child parent (links_of all) sibling
    child-same parent above None e f = rw (e, f) refl
    child-same parent above (Some k) e f =
        let there = parent-known (known-there names all by.renaming) sibling k e in
        rw (e, f) (same-name (known-there names all by.renaming) k.parent parent there above)

    bad-same : (a b c d e f : Bool) → a ≡ d → b ≡ e → c ≡ f → not (a || (not b && c)) ≡ not (d || (not e && f))
    bad-same a b c d e f p q r = rw (p, q, r) refl

    at : (o : Option Link) → link_of child all ≡ o → links_in tied (names child) ≡ option_map (kept_by names) o
        → option_map_or (λ (l : Kept). not (names sibling == l.parent || (not (names sibling == names child) && is_child l.parent (links_in tied) (names sibling)))) (links_in tied (names child)) false
        ≡ option_map_or (λ (l : Kept). not (sibling == l.parent || (not (sibling == child) && is_child l.parent (links_of all) sibling))) (links_of all child) false
    at None e f = rw (e, f) refl
    at (Some l) e f =
        let k = known-there names all by.renaming in
        let above = parent-known k child l e in
        rw (e, f)
        (bad-same (names sibling == names l.parent) (names sibling == names child) (is_child (names l.parent) (links_in tied) (names sibling)) (sibling == l.parent) (sibling == child)
        (is_child l.parent (links_of all) sibling) (same-name k sibling l.parent beside above) (same-name k sibling child beside below)
        (child-same l.parent above (link_of sibling all) refl (ties-named names slots tied all sibling beside by)))

-- ---- stacks

module _ (names : ℕ → ℕ) (kids more : Kids) (same : (number : ℕ) → more number ≡ option_map names (kids number)) where
  abbrev placed_by : Placed → Placed
  placed_by p = record p { member = member_by names p.member }

  place-named : (rs : List Request) (m : Member) → place_of more rs m ≡ option_map placed_by (place_of kids rs m)
  place-named rs Itself = refl
  place-named rs (Child number) = ap (option_map here) (same number) ∙ at (kids number)
    where
      here : ℕ → Placed
      here child = record { member = kept.Child child; x = (position number rs).0; y = (position number rs).1 }

      at : (o : Option ℕ) → option_map here (option_map names o) ≡ option_map placed_by (option_map here o)
      at None = refl
      at (Some child) = refl

  places-named : (rs : List Request) (ms : List Member) → filter_map (place_of more rs) ms ≡ stack_by names (filter_map (place_of kids rs) ms)
  places-named rs [] = refl
  places-named rs (m ∷ ms) = at (place_of kids rs m) refl (place-named rs m) (places-named rs ms)
    where
      at : (o : Option Placed) → place_of kids rs m ≡ o → place_of more rs m ≡ option_map placed_by (place_of kids rs m)
          → filter_map (place_of more rs) ms ≡ stack_by names (filter_map (place_of kids rs) ms)
          → filter_map (place_of more rs) (m ∷ ms) ≡ stack_by names (filter_map (place_of kids rs) (m ∷ ms))
      at None e both next = let there = both ∙ ap (option_map placed_by) e in rw (there, e) next
      at (Some p) e both next = let there = both ∙ ap (option_map placed_by) e in rw (there, e) (ap (λ (ps : List Placed). placed_by p ∷ ps) next)

  pub stacks-same : (o : Option History) → stacks_at more o ≡ stacks_by names (stacks_at kids o)
  stacks-same None = refl
  stacks-same (Some h) =
      same-stacks (places-named h.requests (order h.requests)) (places-named (take (committed_at h.requests) h.requests) (order (take (committed_at h.requests) h.requests)))
      (places-named (counting h) (order (counting h)))

pub stacks-named : StacksNamed
stacks-named names slots tied all id there by =
    by.stands.hang.0.stacks (names id)
    ∙ (ap (stacks_at (kids_of (renamed names all))) (reads-surfaces names all by.renaming id there).history
    ∙ stacks-same names (kids_of all) (kids_of (renamed names all)) (kids-named names all) (history_in id all))
