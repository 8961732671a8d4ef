-- A toplevel is moved with its popups: what is kept agrees with that, and what is marked is what has to be and may be.
use Rattle.std.proofs.Common.{◌≡◌, ◌≤◌, ◌<◌, ℕ, Bool, true, false, cond, Option, Some, None, List, [], ◌∷◌, length, arith, refl, ap, sym, subst, ◌∙◌}
use Rattle.std.specs.Prelude.{ℤ, pos, ◌==◌, find}
use Rattle.std.specs.List.{list_any}
use Rattle.std.proofs.lemmas.Int.{ints}
use Rattle.wl_proto.specs.declared.interface.Interface.TheVariants.{WlSurface}
use Rattle.law_desktop.specs.InOrder.{InOrderAt, InOrderBy}
use Rattle.law_desktop.proofs.Lists.Keys.{found-any, found-passes}
use Rattle.law_desktop.specs.Ordered.{Ordered, OwnsOrdered}
use Rattle.law_desktop.specs.Owning.{targets_in}
use Rattle.law_desktop.specs.RoleNames.{names_of}
use Rattle.law_desktop.proofs.OwnedPopups.Knowing.{roles-known}
use Rattle.wl_paint.specs.Damage.{Damaged}
use Rattle.spec_desktop.specs.Objects.{ById}
use Rattle.spec_desktop.specs.declared.cause.Cause.{Cause}
use Rattle.spec_desktop.specs.Desktop.{Desktop, Resident, owned_in, owned_of, toplevels_of}
use Rattle.spec_desktop.specs.Marks.{in_output}
use Rattle.wl_requests.specs.declared.residents.Resident.{Resident as Kept}
use Rattle.law_windows.specs.Runs.Moves.{IsWhole, MovesAreMarked, shifted}
use Rattle.law_windows.proofs.OneToplevel.Shifted.{stays-whole}
use Rattle.wl_scene.specs.Roots.{HasRole, IsHeld}
use Rattle.wl_shell.specs.InOrder.{AreRising, HasOrder}
use Rattle.wl_scene.specs.Stacked.{replaced, run_of}
use Rattle.spec_desktop.specs.Popups.{place_or_origin, standing_place}
use Rattle.spec_desktop.specs.Stacking.{Owned, Standing, is_of, moved_to}
use Rattle.spec_desktop.specs.Windows.{Owner, Place, moved}
use Rattle.law_desktop.proofs.Truth.{differ, or-left, or-right}
use Rattle.law_desktop.proofs.Lists.Tests.{none-any}
use Rattle.law_desktop.proofs.Lists.Left.{any-filtered}
use Rattle.wl_shell.specs.Popups.{popups_of}
use Rattle.wl_clients.specs.Agreement.{IsStack, with_numbers}
use Rattle.wl_clients.specs.Marking.{MarksAtLeast, MarksMost}
use Rattle.wl_clients.specs.Moving.{with_moved}
use Rattle.wl_clients.specs.Runs.{MarksRuns, run_told, trees_at}
use Rattle.wl_clients.specs.Seats.{IsSeated}
use Rattle.wl_clients.specs.View.{Pile}
use Rattle.wl_clients.proofs.OnScreen.Scenes.{AreOnce, number-is, numbers-same}
use Rattle.wl_clients.proofs.OnScreen.Shifted as shifting
use Rattle.wl_clients.proofs.OnScreen.Standings.{based-still, seated-same, unmarked-same, whole-so}

-- ---- the toplevels

moved-none : (c surface : ℕ) (place : Place) (ss : List Standing) → list_any (is_of c surface) ss ≡ false → moved_to c surface place ss ≡ ss
moved-none c surface place [] none = refl
moved-none c surface place (s ∷ ss) none =
    ap (λ b. cond b (record s { place = place } ∷ ss) (s ∷ moved_to c surface place ss)) (or-left (is_of c surface s) (list_any (is_of c surface) ss) none)
    ∙ ap (λ xs. s ∷ xs) (moved-none c surface place ss (or-right (is_of c surface s) (list_any (is_of c surface) ss) none))

stack-moved : (numbers : ℕ → ById ℕ) (c surface n : ℕ) (place : Place) → AreOnce (numbers c) → numbers c surface ≡ Some n → (ks ss : List Standing) → IsStack numbers ks ss
    → IsStack numbers (moved_to c n place ks) (moved_to c surface place ss)
stack-moved numbers c surface n place once named [] [] is = tt
stack-moved numbers c surface n place once named [] (s ∷ ss) is = absurd is
stack-moved numbers c surface n place once named (k ∷ ks) [] is = absurd is
stack-moved numbers c surface n place once named (k ∷ ks) (s ∷ ss) is =
    at (is_of c n k) (is_of c surface s) (number-is numbers c surface n k s once named is.0) (stack-moved numbers c surface n place once named ks ss is.1)
  where
    at : (a b : Bool) → a ≡ b → IsStack numbers (moved_to c n place ks) (moved_to c surface place ss)
        → IsStack numbers (cond a (record k { place = place } ∷ ks) (k ∷ moved_to c n place ks)) (cond b (record s { place = place } ∷ ss) (s ∷ moved_to c surface place ss))
    at true true e rest = (record { client = is.0.client; place = refl; surface = is.0.surface }, is.1)
    at false false e rest = (is.0, rest)
    at true false e rest = absurd (differ (sym e))
    at false true e rest = absurd (differ e)

-- What is found of the toplevels that are kept stands where what is found of the desktop's does.
abbrev IsFoundAs : Option Standing → Option Standing → Type 0
IsFoundAs None None = Unit {0}
IsFoundAs (Some t) (Some s) = t.place ≡ s.place
IsFoundAs t s = ⊥

found-as : (numbers : ℕ → ById ℕ) (c surface n : ℕ) → AreOnce (numbers c) → numbers c surface ≡ Some n → (ks ss : List Standing) → IsStack numbers ks ss
    → IsFoundAs (find (is_of c n) ks) (find (is_of c surface) ss)
found-as numbers c surface n once named [] [] is = tt
found-as numbers c surface n once named [] (s ∷ ss) is = absurd is
found-as numbers c surface n once named (k ∷ ks) [] is = absurd is
found-as numbers c surface n once named (k ∷ ks) (s ∷ ss) is =
    at (is_of c n k) (is_of c surface s) (number-is numbers c surface n k s once named is.0) (found-as numbers c surface n once named ks ss is.1)
  where
    at : (a b : Bool) → a ≡ b → IsFoundAs (find (is_of c n) ks) (find (is_of c surface) ss)
        → IsFoundAs (cond a (Some k) (find (is_of c n) ks)) (cond b (Some s) (find (is_of c surface) ss))
    at true true e rest = is.0.place
    at false false e rest = rest
    at true false e rest = absurd (differ (sym e))
    at false true e rest = absurd (differ e)

-- ---- what a client owns

in-order : (r : Resident) → OwnsOrdered r → HasOrder r.owned.shell
in-order r owns = roles-known.order r owns.order owns.younger owns.released owns.few

-- what is to be painted is of the output
within-output : (width height x y : ℕ) → x < width → y < height → in_output width height (pos x) (pos y) ≡ true
within-output width height x y w h = grind (arith, ints)

inside-so : (d : Desktop) (damage : Damaged) → damage.width ≡ d.output.width → damage.height ≡ d.output.height → (x y : ℕ) → x < damage.width → y < damage.height
    → in_output d.output.width d.output.height (pos x) (pos y) ≡ true
inside-so d damage width height x y wide high =
    subst (λ w. in_output w d.output.height (pos x) (pos y) ≡ true) width
    (subst (λ h. in_output damage.width h (pos x) (pos y) ≡ true) height (within-output damage.width damage.height x y wide high))

-- ---- at its seat

module _ {A : Type 0} (marked : MovesAreMarked A) (c : ℕ) (others : ℕ → ById ℕ) (base d : Desktop) (r : Resident) (v : Kept A) (pile : Pile) (before : IsSeated c others base v pile d r)
    (ordered : Ordered d) (surface k : ℕ) (named : targets_in WlSurface v.client.objects surface ≡ Some k) (x y : ℤ) where
  abbrev nums : ℕ → ById ℕ
  nums = with_numbers c (targets_in WlSurface v.client.objects) others

  own : with_numbers c (targets_in WlSurface v.client.objects) others c ≡ targets_in WlSurface v.client.objects
  own = numbers-same c (targets_in WlSurface v.client.objects) others

  once-own : AreOnce (with_numbers c (targets_in WlSurface v.client.objects) others c)
  once-own = subst AreOnce (sym own) before.seat.owns.surfaces.once

  nums-named : with_numbers c (targets_in WlSurface v.client.objects) others c surface ≡ Some k
  nums-named = ap (λ (n : ById ℕ). n surface) own ∙ named

  whole : IsWhole d
  whole = whole-so d ordered before.mapped

  -- where it comes to
  abbrev to : Place
  to = moved (standing_place d.standing c surface) x y

  -- what is kept of the toplevels finds it where it stands
  found-here : IsFoundAs (find (is_of c k) pile.scene.standing) (find (is_of c surface) d.standing)
  found-here = found-as nums c surface k once-own nums-named pile.scene.standing d.standing before.scene.standing

  -- ---- where it doesn't stand

  module _ (none : find (is_of c k) pile.scene.standing ≡ None) where
    nowhere : list_any (is_of c surface) d.standing ≡ false
    nowhere = at (find (is_of c surface) d.standing) refl (subst (λ o. IsFoundAs o (find (is_of c surface) d.standing)) none found-here)
      where
        at : (o : Option Standing) → find (is_of c surface) d.standing ≡ o → IsFoundAs None o → list_any (is_of c surface) d.standing ≡ false
        at None e is = none-any (is_of c surface) d.standing e
        at (Some s) e is = absurd is

    stays : moved_to c surface (moved (standing_place d.standing c surface) x y) d.standing ≡ d.standing
    stays = moved-none c surface to d.standing nowhere

    pub seated-nowhere : IsSeated c others base v pile (with_moved c surface x y d) r
    seated-nowhere = seated-same c others base d r v pile (moved_to c surface to d.standing) stays before

    pub nowhere-least : (damage : Damaged) → MarksAtLeast d (with_moved c surface x y d) damage damage
    nowhere-least damage = unmarked-same d (moved_to c surface to d.standing) stays whole.trees damage

  -- ---- where it stands

  module _ (t : Standing) (kept : find (is_of c k) pile.scene.standing ≡ Some t) where
    there : (s : Standing) × (find (is_of c surface) d.standing ≡ Some s) × (t.place ≡ s.place)
    there = at (find (is_of c surface) d.standing) refl (subst (λ o. IsFoundAs o (find (is_of c surface) d.standing)) kept found-here)
      where
        at : (o : Option Standing) → find (is_of c surface) d.standing ≡ o → IsFoundAs (Some t) o
            → (s : Standing) × (find (is_of c surface) d.standing ≡ Some s) × (t.place ≡ s.place)
        at None e is = absurd is
        at (Some s) e is = (s, e, is)

    -- it comes to where the one that is kept does
    to-is : moved t.place x y ≡ moved (standing_place d.standing c surface) x y
    to-is = ap (λ (p : Place). moved p x y) (there.2 ∙ sym (ap place_or_origin there.1))

    stands : list_any (is_of c surface) d.standing ≡ true
    stands = found-any (is_of c surface) (is_of c surface) d.standing there.0 there.1 (found-passes (is_of c surface) d.standing there.0 there.1)

    -- its client lives
    lives : r.peer.status ≡ None
    lives = at r.peer.status refl (subst (λ (o : Option Resident). InOrderAt o (toplevels_of c d)) before.based.there (ordered.in_order.each c))
      where
        at : (o : Option Cause) → r.peer.status ≡ o → InOrderBy o r (toplevels_of c d) → r.peer.status ≡ None
        at None e is = e
        at (Some cause) e is =
            absurd
            (differ (sym (sym (any-filtered (λ s. s.surface == surface) (λ s. s.client == c) d.standing) ∙ ap (list_any (λ (s : Standing). s.surface == surface)) is.1) ∙ stands))

    owned-here : owned_in d c ≡ r.owned
    owned-here = ap owned_of before.based.there

    owns : OwnsOrdered r
    owns = ordered.each c r before.based.there lives

    -- It is put at this place, which is where it comes to, and so are its windows.
    module _ (at : Place) (here : at ≡ moved t.place x y) (now : Pile) (scene : now.scene.standing ≡ moved_to c k at pile.scene.standing) (next : now.scene.next ≡ pile.scene.next)
        (puts : (o : Owned) (owner : Owner) → IsHeld v.owned.surfaces.states v.owned.surfaces.family v.owned.shell o → AreRising (popups_of o.shell) → HasRole v.owned.shell k
        → length o.shell ≤ 256 → length (trees_at o owner c k at.x at.y) ≡ length (run_of c k pile.windows) → now.windows ≡ replaced c k (trees_at o owner c k at.x at.y) pile.windows) where
      at-is : at ≡ moved (standing_place d.standing c surface) x y
      at-is = here ∙ to-is

      seated-at : IsSeated c others base v now (shifted c surface at d) r
      seated-at = record {
        based = based-still c base d r (moved_to c surface at d.standing) before.based;
        seat = before.seat;
        scene = record {
          standing = subst (λ (ks : List Standing). IsStack nums ks (moved_to c surface at d.standing)) (sym scene)
              (stack-moved nums c surface k at once-own nums-named pile.scene.standing d.standing before.scene.standing);
          next = next ∙ before.scene.next;
        };
        windows = shifting.stacked-put A marked (names_of v.client.objects) v.owned.surfaces.states v.owned.surfaces.family v.owned.shell pile.windows nums c surface k at d r owned-here
            before.seat.owns own named before.windows whole (in-order r owns) owns.surfaces there.0 there.1 now.windows puts;
        mapped = ((stays-whole c surface at d whole).1).shown;
      }

      pub moves-put : IsSeated c others base v now (with_moved c surface x y d) r
      moves-put = subst (λ (p : Place). IsSeated c others base v now (shifted c surface p d) r) at-is seated-at

      module _ (old new : Damaged) (points : length (run_of c k pile.windows) ≤ 256 → length (run_of c k now.windows) ≤ 256
          → MarksRuns A (run_told c k pile.windows) (run_told c k now.windows) old new) where
        pub marks-put : MarksAtLeast d (with_moved c surface x y d) old new
        marks-put =
            subst (λ (p : Place). MarksAtLeast d (shifted c surface p d) old new) at-is
            (shifting.least-put A marked (names_of v.client.objects) v.owned.surfaces.states v.owned.surfaces.family v.owned.shell pile.windows nums c surface k at d r owned-here
            before.seat.owns own named before.windows whole (in-order r owns) owns.surfaces there.0 there.1 now.windows puts old new points)

        pub most-put : old.width ≡ d.output.width → old.height ≡ d.output.height → MarksMost d (with_moved c surface x y d) old new
        most-put width height =
            subst (λ (p : Place). MarksMost d (shifted c surface p d) old new) at-is
            (shifting.most-put A marked (names_of v.client.objects) v.owned.surfaces.states v.owned.surfaces.family v.owned.shell pile.windows nums c surface k at d r owned-here
            before.seat.owns own named before.windows whole (in-order r owns) owns.surfaces there.0 there.1 now.windows puts old new points (inside-so d old width height))
