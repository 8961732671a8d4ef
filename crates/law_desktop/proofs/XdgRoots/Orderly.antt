-- What is known of the links and the wl_subsurfaces of a client in a desktop that is reached.
use Rattle.std.proofs.Common.{◌≡◌, ℕ, ◌+◌, List, [], ◌∷◌, Bool, true, false, cond, Option, Some, None, refl, ap, sym, subst, ◌∙◌}
use Rattle.std.specs.Prelude.{◌==◌, ◌&&◌, find, is_some, not}
use Rattle.std.specs.List.{list_any}
use Rattle.std.proofs.lemmas.Bool.{eqb-true, true≢false}
use Rattle.std.proofs.lemmas.Option.{none-some}
use Rattle.spec_desktop.specs.declared.cause.Cause.{Cause}
use Rattle.wl_surface.specs.Surfaces.{Link, Surfaces}
use Rattle.spec_desktop.specs.Stacking.{Standing}
use Rattle.wl_shell.specs.Shell.{xdg_of}
use Rattle.wl_surface.specs.Hanging.{AreNumbered}
use Rattle.wl_surface.specs.TreeLaws.{AreOnceLinked, is_live_of}
use Rattle.spec_desktop.specs.Desktop.{Desktop, Resident, client_at, empty, owned_of, toplevels_of}
use Rattle.spec_desktop.specs.WlSubsurface.{is_of_child}
use Rattle.law_desktop.specs.Apart.{AreApartBy}
use Rattle.law_desktop.specs.Soundness.{IsNoChild}
use Rattle.law_desktop.proofs.Lists.Keys.{any-found, found-any}
use Rattle.law_desktop.proofs.Marks.Stacks.{equal-numbers}
use Rattle.law_desktop.proofs.Soundness.Orderly.{AreOrderly, IsForest, IsOrderly, IsOrderlyAt, IsOrderlyBy}
use Rattle.law_desktop.proofs.Soundness.Run.{empty-orderly}
use Rattle.law_desktop.proofs.Soundness.RunIsSound.{lasts-keeps}
use Rattle.law_desktop.proofs.Truth.{and-left, and-right}
use Rattle.law_desktop.proofs.Lists.Tests.{none-any}
use Rattle.law_desktop.specs.Roots.{LinksAreApart, LinksHaveSubsurfaces, XdgSurfacesAreRoots}

-- ---- every desktop that is reached is orderly

by-status : (s : Option Cause) (r : Resident) (tops : List Standing) → IsOrderlyBy s r tops → IsOrderly (r.peer.requests + 1) r tops
by-status None r tops known = known
by-status (Some cause) r tops known = known.0

-- a client that is there is
pub client-orderly : (c : ℕ) (d : Desktop) (r : Resident) → AreOrderly d → client_at c d ≡ Some r → IsOrderly (r.peer.requests + 1) r (toplevels_of c d)
client-orderly c d r orderly here = by-status r.peer.status r (toplevels_of c d) (subst (λ (o : Option Resident). IsOrderlyAt o (toplevels_of c d)) here (orderly c))

-- ---- xdg_surfaces

roots-of : (o : Option Resident) (tops : List Standing) → IsOrderlyAt o tops → (surface : ℕ) → is_some (xdg_of surface (owned_of o).shell) ≡ true → IsNoChild surface (owned_of o).surfaces
roots-of None tops known surface has number link live same = absurd (true≢false (sym has))
roots-of (Some r) tops known surface has number link live same =
    let roles = (by-status r.peer.status r tops known).roles in
    true≢false (sym has ∙ ap is_some (ap (λ n. xdg_of n r.owned.shell) (sym same) ∙ roles.bare number link live))

pub xdg-surfaces-are-roots : XdgSurfacesAreRoots
xdg-surfaces-are-roots output acts dones d h c surface has =
    roots-of (client_at c d) (toplevels_of c d) (lasts-keeps acts dones (empty output) d (empty-orderly output) h c) surface has

-- ---- wl_subsurfaces

names : (child : ℕ) (o : Option ℕ) → is_of_child child o ≡ true → o ≡ Some child
names child None is = absurd (true≢false (sym is))
names child (Some k) is = ap (λ n. Some n) (eqb-true k child is)

pub links-have-subsurfaces : LinksHaveSubsurfaces
links-have-subsurfaces output acts dones d h c r here number link live =
    let it = client-orderly c d r (lasts-keeps acts dones (empty output) d (empty-orderly output) h) here in
    let found = any-found (λ id s. s.id == id) (λ s. (s.link == number) && is_of_child link.child s.surface) r.subsurfaces it.objects.subsurfaces.0 (it.roles.named number link live) in
    let at = found.2 found.0.id (equal-numbers found.0.id found.0.id refl) in
    record {
      subsurface = found.0;
      here = at;
      lives = it.objects.subsurfaces.1 found.0.id
          (found-any (λ s. s.id == found.0.id) (λ s. s.id == found.0.id) r.subsurfaces found.0 at (equal-numbers found.0.id found.0.id refl));
      link = eqb-true found.0.link number (and-left (found.0.link == number) (is_of_child link.child found.0.surface) found.1);
      surface = names link.child found.0.surface (and-right (found.0.link == number) (is_of_child link.child found.0.surface) found.1);
    }

-- ---- links

abbrev has_number : ℕ → Link → Bool
has_number number l = l.number == number

numbered : (ls : List Link) → AreApartBy has_number ls → AreNumbered ls
numbered [] apart = tt
numbered (l ∷ ls) apart = (none-any (has_number l.number) ls (apart.0 l.number (equal-numbers l.number l.number refl)), numbered ls apart.1)

abbrev LiveOnce : List Link → Type 0
LiveOnce ls =
    (k l : ℕ) (a b : Link) → find (has_number k) ls ≡ Some a → a.has_ended ≡ false → find (has_number l) ls ≡ Some b → b.has_ended ≡ false
    → a.child ≡ b.child → k ≡ l

-- of links with numbers of their own, one that is found later is found with one more before it
found-later : (k : ℕ) (x a : Link) (xs : List Link) → AreApartBy has_number (x ∷ xs) → find (has_number k) xs ≡ Some a → find (has_number k) (x ∷ xs) ≡ Some a
found-later k x a xs apart found = at (has_number k x) refl
  where
    at : (b : Bool) → has_number k x ≡ b → cond b (Some x) (find (has_number k) xs) ≡ Some a
    at true e = absurd (none-some a (sym (apart.0 k e) ∙ found))
    at false e = found

once-linked : (ls : List Link) → AreApartBy has_number ls → LiveOnce ls → AreOnceLinked ls
once-linked [] apart once = tt
once-linked (x ∷ xs) apart once = (
  λ lives. alone lives (list_any (is_live_of x.child) xs) refl,
  once-linked xs apart.1 (λ k l a b here lives there too. once k l a b (found-later k x a xs apart here) lives (found-later l x b xs apart there) too),
)
  where
    alone : x.has_ended ≡ false → (b : Bool) → list_any (is_live_of x.child) xs ≡ b → b ≡ false
    alone lives false e = refl
    alone lives true e =
        let y = any-found has_number (is_live_of x.child) xs apart.1 e in
        let there = y.2 y.0.number (equal-numbers y.0.number y.0.number refl) in
        let living = not-ended y.0.has_ended (and-left (not y.0.has_ended) (y.0.child == x.child) y.1) in
        let child = eqb-true y.0.child x.child (and-right (not y.0.has_ended) (y.0.child == x.child) y.1) in
        let first = ap (λ b. cond b (Some x) (find (has_number x.number) xs)) (equal-numbers x.number x.number refl) in
        let same = once x.number y.0.number x y.0 first lives (found-later y.0.number x y.0 xs apart there) living (sym child) in
        absurd (none-some y.0 (sym (apart.0 y.0.number (equal-numbers x.number y.0.number same)) ∙ there))
      where
        not-ended : (b : Bool) → not b ≡ true → b ≡ false
        not-ended true f = absurd (true≢false (sym f))
        not-ended false f = refl

pub forest-apart : (bound : ℕ) (all : Surfaces) → IsForest bound all → AreNumbered all.links × AreOnceLinked all.links
forest-apart bound all forest = (
  numbered all.links forest.apart,
  once-linked all.links forest.apart
      (λ k l a b here lives there too. forest.once k l a b (record { here = here; lives = lives }) (record { here = there; lives = too })),
)

links-apart : (o : Option Resident) (tops : List Standing) → IsOrderlyAt o tops → AreNumbered (owned_of o).surfaces.links × AreOnceLinked (owned_of o).surfaces.links
links-apart None tops known = (tt, tt)
links-apart (Some r) tops known = forest-apart (r.peer.requests + 1) r.owned.surfaces (by-status r.peer.status r tops known).forest

pub links-are-apart : LinksAreApart
links-are-apart output acts dones d h c =
    links-apart (client_at c d) (toplevels_of c d) (lasts-keeps acts dones (empty output) d (empty-orderly output) h c)
