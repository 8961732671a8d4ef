-- A tree of which all that its windows are read from stays shows the same windows.
use Rattle.std.proofs.Common.{◌≡◌, ℕ, zero, suc, ◌+◌, ◌≤◌, Bool, true, false, cond, Option, Some, None, refl, ap, sym, ◌∙◌, arith}
use Rattle.std.specs.List.{list_any}
use Rattle.std.specs.Option.{option_map}
use Rattle.wl_surface.specs.Request.{Buffer, Child, Itself, Member}
use Rattle.wl_surface.specs.State.{History, counting, is_member, offset, order, values}
use Rattle.wl_surface.specs.Surfaces.{Link, Surfaces, history_in, link_at}
use Rattle.wl_surface.specs.Trees.{descends_from}
use Rattle.spec_desktop.specs.Windows.{Owner, Place, moved, tree}
use Rattle.wl_surface.specs.Hanging.{kid_of, kids_of}
use Rattle.wl_surface.specs.TreeLaws.{AreOnceLinked}
use Rattle.wl_surface.proofs.Placing.{live-found}
use Rattle.law_desktop.specs.Soundness.{AreTrees, IsLive}
use Rattle.law_desktop.proofs.Soundness.LinkedDepths.{descends-itself}
use Rattle.law_desktop.proofs.Soundness.Trees.{all-there, member-self}
use Rattle.law_desktop.specs.TreeStepsLaws.{AllTreesStay, IsNamed, KeepsTree, TreeStays}
use Rattle.law_desktop.proofs.TreeSteps.Descents.{by-parent, within}
use Rattle.law_desktop.proofs.TreeSteps.Reading.{Next, flat-each, kid_by, member_by, reads-surface, shown_by, surface_by}
use Rattle.law_desktop.proofs.Lists.Each.{each-map}

-- the child of a link that lives is a level below its parent
pub child-under : (all : Surfaces) (number : ℕ) (link : Link) (m top surface : ℕ) → AreOnceLinked all.links → IsLive number link all → link.parent ≡ surface → descends_from m all top surface ≡ true
    → descends_from (suc m) all top link.child ≡ true
child-under all number link m top surface once live is under =
    by-parent m all top link.child link (live-found number all.links link once live.here live.lives) (ap (descends_from m all top) is ∙ under)

module _ (all new : Surfaces) (root : ℕ) (trees : AreTrees all) (once : AreOnceLinked all.links) (keeps : KeepsTree root all new) (owner : Owner) where
  -- the levels below show the same of what descends from the root by one level more
  abbrev AreSame : ℕ → Next → Next → Type 0
  AreSame m next old = (child : ℕ) (place : Place) → descends_from m all root child ≡ true → next child place ≡ old child place

  kid-stays : (m : ℕ) (next old : Next) → suc m ≤ 17 → AreSame (suc m) next old → (surface : ℕ) (h : History) (corner : Place) (l : ℕ) → descends_from m all root surface ≡ true
      → history_in surface all ≡ Some h → list_any (is_member (Child l)) (order (counting h)) ≡ true
      → kid_by next (counting h) corner l (kids_of new l) ≡ kid_by old (counting h) corner l (kids_of all l)
  kid-stays m next old low same surface h corner l under here there = at (link_at l all) refl
    where
      named : IsNamed l all
      named = record { surface = surface; history = h; here = here; there = there }

      none : kids_of all l ≡ None → kid_by next (counting h) corner l (kids_of new l) ≡ kid_by old (counting h) corner l (kids_of all l)
      none e = ap (kid_by next (counting h) corner l) (keeps.gone l named e) ∙ sym (ap (kid_by old (counting h) corner l) e)

      some : (link : Link) → IsLive l link all → kids_of all l ≡ Some link.child → kid_by next (counting h) corner l (kids_of new l) ≡ kid_by old (counting h) corner l (kids_of all l)
      some link live e =
          let below = child-under all l link m root surface once live (trees.parents surface h.cut l h link here there live) under in
          ap (kid_by next (counting h) corner l) (keeps.kids l link.child named e (within (suc m) 17 all root link.child low below))
          ∙ (same link.child _ below ∙ sym (ap (kid_by old (counting h) corner l) e))

      lives : (link : Link) (b : Bool) → link.has_ended ≡ b → link_at l all ≡ Some link → kid_by next (counting h) corner l (kids_of new l) ≡ kid_by old (counting h) corner l (kids_of all l)
      lives link true f e = none (ap kid_of e ∙ ap (λ b. cond b None (Some link.child)) f)
      lives link false f e = some link (record { here = e; lives = f }) (ap kid_of e ∙ ap (λ b. cond b None (Some link.child)) f)

      at : (o : Option Link) → link_at l all ≡ o → kid_by next (counting h) corner l (kids_of new l) ≡ kid_by old (counting h) corner l (kids_of all l)
      at None e = none (ap kid_of e)
      at (Some link) e = lives link link.has_ended refl e

  member-stays : (m : ℕ) (next old : Next) → suc m ≤ 17 → AreSame (suc m) next old → (surface : ℕ) (h : History) (corner : Place) → descends_from m all root surface ≡ true
      → history_in surface all ≡ Some h → (member : Member) → list_any (is_member member) (order (counting h)) ≡ true
      → member_by next owner (kids_of new) surface (counting h) corner member ≡ member_by old owner (kids_of all) surface (counting h) corner member
  member-stays m next old low same surface h corner under here Itself there = refl
  member-stays m next old low same surface h corner under here (Child l) there = kid-stays m next old low same surface h corner l under here there

  shown-stays : (m : ℕ) (next old : Next) → suc m ≤ 17 → AreSame (suc m) next old → (surface : ℕ) (h : History) (corner : Place) → descends_from m all root surface ≡ true
      → history_in surface all ≡ Some h → (buffer : Option Buffer)
      → shown_by next owner (kids_of new) surface (counting h) corner buffer ≡ shown_by old owner (kids_of all) surface (counting h) corner buffer
  shown-stays m next old low same surface h corner under here None = refl
  shown-stays m next old low same surface h corner under here (Some buffer) =
      flat-each (member_by next owner (kids_of new) surface (counting h) corner) (member_by old owner (kids_of all) surface (counting h) corner) (order (counting h))
      (each-map (λ member. list_any (is_member member) (order (counting h)) ≡ true)
      (λ member. member_by next owner (kids_of new) surface (counting h) corner member ≡ member_by old owner (kids_of all) surface (counting h) corner member)
      (member-stays m next old low same surface h corner under here) (order (counting h)) (all-there is_member member-self (order (counting h))))

  surface-stays : (m : ℕ) (next old : Next) → suc m ≤ 17 → AreSame (suc m) next old → (surface : ℕ) (place : Place) → descends_from m all root surface ≡ true → (o : Option History)
      → history_in surface all ≡ o → surface_by next owner (kids_of new) surface place (option_map counting o) ≡ surface_by old owner (kids_of all) surface place (option_map counting o)
  surface-stays m next old low same surface place under None here = refl
  surface-stays m next old low same surface place under (Some h) here =
      shown-stays m next old low same surface h (moved place (offset (counting h)).x (offset (counting h)).y) under here (values (counting h)).buffer

  tree-kept : (n m surface : ℕ) (place : Place) → m + n ≡ 17 → descends_from m all root surface ≡ true → tree n owner new surface place ≡ tree n owner all surface place
  unfolding tree
  tree-kept zero m surface place sum under = refl
  tree-kept (suc n) m surface place sum under =
      reads-surface (λ child at. tree n owner new child at) owner new surface place (history_in surface new)
      ∙ (ap (surface_by (λ child at. tree n owner new child at) owner (kids_of new) surface place) (keeps.counts surface (within m 17 all root surface (omega (arith, sum)) under))
      ∙ (surface-stays m (λ child at. tree n owner new child at) (λ child at. tree n owner all child at) (omega (arith, sum))
      (λ child at below. tree-kept n (suc m) child at (omega (arith, sum)) below) surface place under (history_in surface all) refl
      ∙ sym (reads-surface (λ child at. tree n owner all child at) owner all surface place (history_in surface all))))

pub tree-stays : TreeStays
tree-stays all new root trees once keeps owner place = tree-kept all new root trees once keeps owner 17 0 root place refl (descends-itself 0 all root)

pub all-trees-stay : AllTreesStay
all-trees-stay all new trees once keeps owner root place =
    tree-stays all new root trees once
    (record {
      counts = λ surface under. keeps.counts surface;
      kids = λ number child named is under. keeps.kids number named ∙ is;
      gone = λ number named e. keeps.kids number named ∙ e;
    }) owner place
