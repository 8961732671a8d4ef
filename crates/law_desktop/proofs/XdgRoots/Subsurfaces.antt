-- A client's wl_subsurfaces are told apart by their links and by their surfaces, which are there.
use Rattle.std.proofs.Common.{◌≡◌, ℕ, ◌+◌, ◌<◌, List, [], ◌∷◌, ◌++◌, Bool, true, false, Option, Some, None, cond, map, refl, ap, sym, ◌∙◌, arith, ◌⊎◌, inl, inr}
use Rattle.std.specs.Prelude.{◌==◌, filter, is_some}
use Rattle.std.specs.List.{list_any}
use Rattle.std.specs.Option.{option_map_or}
use Rattle.std.proofs.lemmas.Bool.{eqb-true, false_from_ne_true, or_cases, true≢false}
use Rattle.wl_surface.specs.Surface.{asking, with_role}
use Rattle.wl_surface.specs.Surfaces.{Surfaces, no_surfaces, surface_at}
use Rattle.spec_desktop.specs.Changing.{without_child}
use Rattle.spec_desktop.specs.Desktop.{Subsurface}
use Rattle.spec_desktop.specs.WlSubsurface.{is_of_child}
use Rattle.law_desktop.specs.Apart.{AreApartBy}
use Rattle.law_desktop.proofs.Lists.Keys.{apart-left, apart-map, new-apart}
use Rattle.law_desktop.proofs.Lists.Standings.{any-last}
use Rattle.law_desktop.proofs.Soundness.ObjectsKeys.{any-less, any-map, apart-less}
use Rattle.law_desktop.proofs.Soundness.ObjectsThere.{there-changed, there-committed, there-desynchronised, there-destroyed, there-linked, there-more, there-unlinked}
use Rattle.law_desktop.proofs.XdgRoots.Keeping.{Keeps}
use Rattle.law_desktop.proofs.Lists.Left.{any-there}
use Rattle.law_desktop.proofs.Lists.Tests.{find-none}
use Rattle.law_desktop.proofs.InOrder.Subsurfaces.{none-of}

abbrev pub has_link : ℕ → Subsurface → Bool
has_link number s = s.link == number

abbrev pub is_of : ℕ → Subsurface → Bool
is_of surface s = is_of_child surface s.surface

pub record AreOwn (bound : ℕ) (all : Surfaces) (ss : List Subsurface) : Type 0 where
  pub links : AreApartBy has_link ss
  pub early : (number : ℕ) → list_any (has_link number) ss ≡ true → number < bound
  pub surfaces : AreApartBy is_of ss
  pub there : (surface : ℕ) → list_any (is_of surface) ss ≡ true → is_some (surface_at surface all) ≡ true

pub own-first : (bound : ℕ) → AreOwn bound no_surfaces []
own-first bound = record { links = tt; early = λ number any. absurd (true≢false (sym any)); surfaces = tt; there = λ surface any. absurd (true≢false (sym any)) }

-- the surfaces that were there are
own-grown : (bound : ℕ) (all new : Surfaces) (ss : List Subsurface) → ((id : ℕ) → is_some (surface_at id all) ≡ true → is_some (surface_at id new) ≡ true) → AreOwn bound all ss → AreOwn bound new ss
own-grown bound all new ss grown own = record { links = own.links; early = own.early; surfaces = own.surfaces; there = λ surface any. grown surface (own.there surface any) }

own-later : (bound : ℕ) (all : Surfaces) (ss : List Subsurface) → AreOwn bound all ss → AreOwn (bound + 1) all ss
own-later bound all ss own = record {
  links = own.links;
  early = λ number any. let low = own.early number any in omega (arith, low);
  surfaces = own.surfaces;
  there = own.there;
}

-- one more
module _ (bound id child : ℕ) (all : Surfaces) (ss : List Subsurface) (there : is_some (surface_at child all) ≡ true) (none : list_any (is_of child) ss ≡ false) (own : AreOwn bound all ss) where
  abbrev new : Subsurface
  new = record { id = id; link = bound; surface = Some child }

  fresh : list_any (has_link bound) ss ≡ false
  fresh = false_from_ne_true (list_any (has_link bound) ss) (λ any. let low = own.early bound any in omega (arith, low))

  own-more : AreOwn (bound + 1) all (ss ++ new ∷ [])
  own-more = record {
    links = new-apart has_link ss new (λ key is. find-none (has_link key) ss (ap (λ n. list_any (has_link n) ss) (sym (eqb-true bound key is)) ∙ fresh)) own.links;
    early = λ number any. low number (or_cases (list_any (has_link number) ss) (bound == number) (sym (any-last (has_link number) ss new) ∙ any));
    surfaces = new-apart is_of ss new (λ key is. find-none (is_of key) ss (ap (λ n. list_any (is_of n) ss) (sym (eqb-true child key is)) ∙ none)) own.surfaces;
    there = λ surface any. here surface (or_cases (list_any (is_of surface) ss) (child == surface) (sym (any-last (is_of surface) ss new) ∙ any));
  }
    where
      low : (number : ℕ) → (list_any (has_link number) ss ≡ true) ⊎ ((bound == number) ≡ true) → number < bound + 1
      low number (inl any) = let is = own.early number any in omega (arith, is)
      low number (inr same) = let is = eqb-true bound number same in omega (arith, is)

      here : (surface : ℕ) → (list_any (is_of surface) ss ≡ true) ⊎ ((child == surface) ≡ true) → is_some (surface_at surface all) ≡ true
      here surface (inl any) = own.there surface any
      here surface (inr same) = ap (λ n. is_some (surface_at n all)) (sym (eqb-true child surface same)) ∙ there

-- some go
own-left : (bound : ℕ) (which : Subsurface → Bool) (all : Surfaces) (ss : List Subsurface) → AreOwn bound all ss → AreOwn bound all (filter which ss)
own-left bound which all ss own = record {
  links = apart-left has_link which ss own.links;
  early = λ number any. own.early number (any-there (has_link number) which ss any);
  surfaces = apart-left is_of which ss own.surfaces;
  there = λ surface any. own.there surface (any-there (is_of surface) which ss any);
}

-- ---- a surface goes, and its wl_subsurface is inert

inert-link : (surface : ℕ) (s : Subsurface) → (without_child surface s).link ≡ s.link
inert-link surface s = at (option_map_or (λ child. child == surface) s.surface false)
  where
    at : (b : Bool) → (cond b (record s { surface = None }) s).link ≡ s.link
    at true = refl
    at false = refl

-- each other one is of the same surface, and none of this one
inert-of : (surface key : ℕ) (s : Subsurface) → is_of key (without_child surface s) ≡ true → is_of key s ≡ true
inert-of surface key s = at (option_map_or (λ child. child == surface) s.surface false)
  where
    at : (b : Bool) → is_of key (cond b (record s { surface = None }) s) ≡ true → is_of key s ≡ true
    at true is = absurd (true≢false (sym is))
    at false is = is

inert-none : (surface : ℕ) (s : Subsurface) → is_of surface (without_child surface s) ≡ false
inert-none surface s = at (option_map_or (λ child. child == surface) s.surface false) refl
  where
    never : (o : Option ℕ) → option_map_or (λ child. child == surface) o false ≡ false → is_of_child surface o ≡ false
    never None e = refl
    never (Some child) e = e

    at : (b : Bool) → option_map_or (λ child. child == surface) s.surface false ≡ b → is_of surface (cond b (record s { surface = None }) s) ≡ false
    at true e = refl
    at false e = never s.surface e

own-inert : (bound surface : ℕ) (all now : Surfaces) (ss : List Subsurface)
    → ((id : ℕ) → (id == surface) ≡ false → is_some (surface_at id now) ≡ is_some (surface_at id all))
    → AreOwn bound all ss → AreOwn bound now (map (without_child surface) ss)
own-inert bound surface all now ss others own = record {
  links = apart-map has_link (without_child surface) ss (λ key s. ap (λ n. n == key) (inert-link surface s)) own.links;
  early = λ number any. own.early number (any-less (has_link number) (without_child surface) ss (λ s is. ap (λ n. n == number) (sym (inert-link surface s)) ∙ is) any);
  surfaces = apart-less is_of (without_child surface) ss (λ key s. inert-of surface key s) own.surfaces;
  there = λ key any.
      others key (false_from_ne_true (key == surface) (λ same. true≢false (sym any ∙ ap (λ n. list_any (is_of n) (map (without_child surface) ss)) (eqb-true key surface same)
      ∙ any-map (is_of surface) (without_child surface) ss ∙ none-of (λ s. is_of surface (without_child surface s)) ss (inert-none surface))))
      ∙ own.there key (any-less (is_of key) (without_child surface) ss (λ s is. inert-of surface key s is) any);
}

-- ---- all of it

pub own-keeps : Keeps AreOwn
own-keeps = record {
  later = own-later;
  created = λ b id all ss own. own-grown b all _ ss (λ other is. there-more id other all is) own;
  asked = λ b surface request all ss ok names own. own-grown b all _ ss (λ id is. there-changed surface (asking request) all (λ s. refl) id ∙ is) own;
  role = λ b id role all ss own. own-grown b all _ ss (λ other is. there-changed id (with_role role) all (λ s. refl) other ∙ is) own;
  committed = λ b surface all ss own. own-grown b all _ ss (λ id is. there-committed surface all id ∙ is) own;
  linked_more = λ b id child parent all ss forest there above none free own.
      own-grown (b + 1) all _ _ (λ other is. there-linked b child parent all other ∙ is) (own-more b id child all ss there none own);
  unlinked = λ b id gone all ss own. own-left b _ _ ss (own-grown b all _ ss (λ other is. there-unlinked gone all other ∙ is) own);
  synchronised = λ b link all ss own. own-grown b all _ ss (λ id is. is) own;
  desynchronised = λ b link all ss own. own-grown b all _ ss (λ id is. there-desynchronised link all id ∙ is) own;
  destroyed = λ b surface all ss forest own. own-inert b surface all _ ss (λ id other. there-destroyed surface all id other) own;
}
