-- An orderly desktop is sound.
use Rattle.std.proofs.Common.{◌≡◌, ℕ, List, [], ◌∷◌, ◌++◌, Bool, true, false, cond, Option, Some, None, refl, ap, sym, subst, ◌∙◌}
use Rattle.std.specs.Prelude.{◌+◌, ◌==◌, ◌||◌, nat_lt, if◌then◌else◌, filter, flat_map, fold, map}
use Rattle.std.specs.List.{list_any}
use Rattle.std.proofs.lemmas.Bool.{eqb-true, false_from_ne_true, or_from}
use Rattle.spec_desktop.specs.declared.cause.Cause.{Cause}
use Rattle.wl_surface.specs.Surfaces.{Link, Surfaces}
use Rattle.wl_shell.specs.Popups.{Popped, by_number, popped_kind, popped_of, popped_role, popups_of}
use Rattle.wl_shell.specs.Shell.{Kind, RoleObject, Shell, Toplevel, IsPopup, XdgSurface, xdg_of}
use Rattle.spec_desktop.specs.Stacking.{Owned, Standing, is_of}
use Rattle.spec_desktop.specs.Desktop.{Desktop, Resident, client_at, owned_in, owned_of, toplevels_of}
use Rattle.law_desktop.specs.Laws.{AreApart}
use Rattle.law_desktop.specs.Apart.{AreApartBy}
use Rattle.spec_desktop.specs.Popups.{stacked_popup, stacked_popups}
use Rattle.law_desktop.specs.Soundness.{AreOnce, AreTrees, IsLive, IsNoChild, IsSound, has_surface}
use Rattle.law_desktop.proofs.Soundness.Orderly.{AreOrderly, IsForest, IsMapped, IsMappedRole, IsOrderly, IsOrderlyAt, IsOrderlyBy}
use Rattle.law_desktop.proofs.Soundness.First.{no-trees}
use Rattle.law_desktop.proofs.Marks.Stacks.{equal-numbers}
use Rattle.law_desktop.proofs.Lists.Standings.{any-left, of-client}
use Rattle.law_desktop.proofs.Truth.{differ, or-false, or-left, or-right, or-swapped}
use Rattle.law_desktop.proofs.Lists.Left.{any-filtered}

-- ---- lists

-- what passes of all in order passed before
any-by-number : (test : Popped → Bool) (p : Popped) (ps : List Popped) → list_any test (by_number p ps) ≡ (test p || list_any test ps)
any-by-number test p [] = refl
any-by-number test p (q ∷ qs) = at (nat_lt p.popup.number q.popup.number) (any-by-number test p qs)
  where
    at : (b : Bool) → list_any test (by_number p qs) ≡ (test p || list_any test qs) → list_any test (if b then p ∷ q ∷ qs else q ∷ by_number p qs) ≡ (test p || (test q || list_any test qs))
    at true e = refl
    at false e = ap (λ (b : Bool). test q || b) e ∙ or-swapped (test q) (test p) (list_any test qs)

-- of one surface
abbrev pub popped_on : ℕ → Popped → Bool
popped_on surface p = p.xdg.surface == surface

abbrev same_popped : Popped → Popped → Bool
same_popped p q = popped_on p.xdg.surface q

turned : (p q : Popped) → same_popped p q ≡ false → same_popped q p ≡ false
turned p q e = false_from_ne_true (same_popped q p) (λ f. differ (sym e ∙ equal-numbers q.xdg.surface p.xdg.surface (sym (eqb-true p.xdg.surface q.xdg.surface f))))

-- one more of another surface leaves each surface once
once-by-number : (p : Popped) (ps : List Popped) → AreOnce same_popped ps → list_any (same_popped p) ps ≡ false → AreOnce same_popped (by_number p ps)
once-by-number p [] once new = (refl, tt)
once-by-number p (q ∷ qs) once new = at (nat_lt p.popup.number q.popup.number) (once-by-number p qs once.1 (or-right (same_popped p q) (list_any (same_popped p) qs) new))
  where
    at : (b : Bool) → AreOnce same_popped (by_number p qs) → AreOnce same_popped (if b then p ∷ q ∷ qs else q ∷ by_number p qs)
    at true rest = (new, once)
    at false rest = (
      any-by-number (same_popped q) p qs ∙ or_from (same_popped q p) (list_any (same_popped q) qs) (turned p q (or-left (same_popped p q) (list_any (same_popped p) qs) new)) once.0,
      rest,
    )

-- all of these in order: what passes, and each surface once
any-ordered : (test : Popped → Bool) (acc ps : List Popped) → list_any test (fold (λ ps p. by_number p ps) acc ps) ≡ (list_any test ps || list_any test acc)
any-ordered test acc [] = refl
any-ordered test acc (p ∷ ps) =
    any-ordered test (by_number p acc) ps ∙ ap (λ (b : Bool). list_any test ps || b) (any-by-number test p acc) ∙ assoc (list_any test ps) (test p) (list_any test acc)
  where
    assoc : (a b c : Bool) → (a || (b || c)) ≡ ((b || a) || c)
    assoc true true c = refl
    assoc true false c = refl
    assoc false true c = refl
    assoc false false c = refl

-- none of these is among those
AreApartFrom : List Popped → List Popped → Type 0
AreApartFrom acc [] = Unit {0}
AreApartFrom acc (p ∷ ps) = (list_any (same_popped p) acc ≡ false) × AreApartFrom acc ps

apart-more : (p : Popped) (acc ps : List Popped) → list_any (same_popped p) ps ≡ false → AreApartFrom acc ps → AreApartFrom (by_number p acc) ps
unfolding AreApartFrom
apart-more p acc [] new apart = tt
apart-more p acc (q ∷ qs) new apart = (
  any-by-number (same_popped q) p acc ∙ or_from (same_popped q p) (list_any (same_popped q) acc) (turned p q (or-left (same_popped p q) (list_any (same_popped p) qs) new)) apart.0,
  apart-more p acc qs (or-right (same_popped p q) (list_any (same_popped p) qs) new) apart.1,
)

once-ordered : (acc ps : List Popped) → AreOnce same_popped acc → AreOnce same_popped ps → AreApartFrom acc ps → AreOnce same_popped (fold (λ ps p. by_number p ps) acc ps)
unfolding AreApartFrom
once-ordered acc [] once these apart = once
once-ordered acc (p ∷ ps) once these apart =
    once-ordered (by_number p acc) ps (once-by-number p acc once apart.0) these.1 (apart-more p acc ps these.0 apart.1)

apart-none : (ps : List Popped) → AreApartFrom [] ps
unfolding AreApartFrom
apart-none [] = tt
apart-none (p ∷ ps) = (refl, apart-none ps)

-- ---- the popups of xdg_surfaces

any-append : {X : Type 0} (test : X → Bool) (xs ys : List X) → list_any test (xs ++ ys) ≡ (list_any test xs || list_any test ys)
any-append test [] ys = refl
any-append test (x ∷ xs) ys = ap (λ (b : Bool). test x || b) (any-append test xs ys) ∙ assoc (test x) (list_any test xs) (list_any test ys)
  where
    assoc : (a b c : Bool) → (a || (b || c)) ≡ ((a || b) || c)
    assoc true b c = refl
    assoc false b c = refl

abbrev on_surface : ℕ → XdgSurface → Bool
on_surface surface x = x.surface == surface

-- a popup of an xdg_surface is of its surface
popped-none : (surface : ℕ) (x : XdgSurface) → on_surface surface x ≡ false → list_any (popped_on surface) (popped_of x) ≡ false
popped-none surface x not_it = at x.role
  where
    kind : (object : RoleObject) (k : Kind) → list_any (popped_on surface) (popped_kind x object k) ≡ false
    kind object Toplevel = refl
    kind object (IsPopup popup) = or_from (on_surface surface x) false not_it refl

    at : (o : Option RoleObject) → list_any (popped_on surface) (popped_role x o) ≡ false
    at None = refl
    at (Some object) = kind object object.kind

none-first : (b : Bool) (x : XdgSurface) (o : Option XdgSurface) → cond b (Some x) o ≡ None → (b ≡ false) × (o ≡ None)
none-first true x o e = absurd (cc)
none-first false x o e = (refl, e)

-- a surface without an xdg_surface has no popup
pub unpopped : (surface : ℕ) (shell : Shell) → xdg_of surface shell ≡ None → list_any (popped_on surface) (flat_map popped_of shell) ≡ false
unpopped surface [] none = refl
unpopped surface (x ∷ xs) none =
    let k = none-first (on_surface surface x) x (xdg_of surface xs) none in
    any-append (popped_on surface) (popped_of x) (flat_map popped_of xs)
    ∙ or_from (list_any (popped_on surface) (popped_of x)) (list_any (popped_on surface) (flat_map popped_of xs)) (popped-none surface x k.0) (unpopped surface xs k.1)

abbrev IsApart : Shell → Type 0
IsApart shell = AreApartBy (λ surface x. x.surface == surface) shell

-- before others of other surfaces
popped-before : (x : XdgSurface) (ps : List Popped) → list_any (popped_on x.surface) ps ≡ false → AreOnce same_popped ps → AreOnce same_popped (popped_of x ++ ps)
popped-before x ps new once = at x.role
  where
    kind : (object : RoleObject) (k : Kind) → AreOnce same_popped (popped_kind x object k ++ ps)
    kind object Toplevel = once
    kind object (IsPopup popup) = (new, once)

    at : (o : Option RoleObject) → AreOnce same_popped (popped_role x o ++ ps)
    at None = once
    at (Some object) = kind object object.kind

all-once : (shell : Shell) → IsApart shell → AreOnce same_popped (flat_map popped_of shell)
all-once [] apart = tt
all-once (x ∷ xs) apart =
    popped-before x (flat_map popped_of xs) (unpopped x.surface xs (apart.0 x.surface (equal-numbers x.surface x.surface refl))) (all-once xs apart.1)

-- a surface whose xdg_surface has a toplevel has no popup
is-no-popup : (x : XdgSurface) → IsMappedRole x.role → popped_of x ≡ []
is-no-popup x mapped = at x.role mapped
  where
    kind : (object : RoleObject) (k : Kind) → k ≡ Toplevel → popped_kind x object k ≡ []
    kind object Toplevel e = refl
    kind object (IsPopup popup) e = absurd (cc)

    at : (o : Option RoleObject) → IsMappedRole o → popped_role x o ≡ []
    at None m = absurd m
    at (Some object) m = kind object object.kind m.0

pub unpopped-mapped : (surface : ℕ) (shell : Shell) → IsApart shell → IsMapped (xdg_of surface shell) → list_any (popped_on surface) (flat_map popped_of shell) ≡ false
unpopped-mapped surface [] apart mapped = refl
unpopped-mapped surface (x ∷ xs) apart mapped = at (on_surface surface x) refl mapped (unpopped-mapped surface xs apart.1)
  where
    more : list_any (popped_on surface) (popped_of x) ≡ false → list_any (popped_on surface) (flat_map popped_of xs) ≡ false → list_any (popped_on surface) (flat_map popped_of (x ∷ xs)) ≡ false
    more e f =
        any-append (popped_on surface) (popped_of x) (flat_map popped_of xs)
        ∙ or_from (list_any (popped_on surface) (popped_of x)) (list_any (popped_on surface) (flat_map popped_of xs)) e f

    at : (b : Bool) → on_surface surface x ≡ b → IsMapped (cond b (Some x) (xdg_of surface xs)) → (IsMapped (xdg_of surface xs) → list_any (popped_on surface) (flat_map popped_of xs) ≡ false)
        → list_any (popped_on surface) (flat_map popped_of (x ∷ xs)) ≡ false
    at true here m later =
        more (ap (λ (ps : List Popped). list_any (popped_on surface) ps) (is-no-popup x m)) (unpopped surface xs (apart.0 surface here))
    at false here m later = more (popped-none surface x here) (later m)

-- ---- as they are stacked

any-stacked : (owned : Owned) (surface : ℕ) (ps : List Popped) → list_any (has_surface surface) (map (stacked_popup owned) ps) ≡ list_any (popped_on surface) ps
any-stacked owned surface [] = refl
any-stacked owned surface (p ∷ ps) = ap (λ (b : Bool). popped_on surface p || b) (any-stacked owned surface ps)

once-stacked : (owned : Owned) (ps : List Popped) → AreOnce same_popped ps → AreOnce (λ p. has_surface p.surface) (map (stacked_popup owned) ps)
once-stacked owned [] once = tt
once-stacked owned (p ∷ ps) once = (any-stacked owned p.xdg.surface ps ∙ once.0, once-stacked owned ps once.1)

any-popups : (owned : Owned) (surface : ℕ) → list_any (has_surface surface) (stacked_popups owned) ≡ list_any (popped_on surface) (flat_map popped_of owned.shell)
any-popups owned surface =
    any-stacked owned surface (popups_of owned.shell) ∙ any-ordered (popped_on surface) [] (flat_map popped_of owned.shell)
    ∙ or-false (list_any (popped_on surface) (flat_map popped_of owned.shell))

once-popups : (owned : Owned) → IsApart owned.shell → AreOnce (λ p. has_surface p.surface) (stacked_popups owned)
once-popups owned apart =
    once-stacked owned (popups_of owned.shell)
    (once-ordered [] (flat_map popped_of owned.shell) tt (all-once owned.shell apart) (apart-none (flat_map popped_of owned.shell)))

-- ---- toplevels

-- where no toplevel of one client's stands twice, none does
apart-rest : (c : ℕ) (s : Standing) (ss : List Standing) → AreApart (filter (λ t. t.client == c) (s ∷ ss)) → AreApart (filter (λ t. t.client == c) ss)
apart-rest c s ss apart = at (s.client == c) apart
  where
    at : (b : Bool) → AreApart (cond b (s ∷ filter (λ t. t.client == c) ss) (filter (λ t. t.client == c) ss)) → AreApart (filter (λ t. t.client == c) ss)
    at true apart = apart.1
    at false apart = apart

apart-first : (s : Standing) (ss : List Standing) → AreApart (filter (λ t. t.client == s.client) (s ∷ ss)) → list_any (is_of s.client s.surface) ss ≡ false
apart-first s ss apart =
    sym (any-left (is_of s.client s.surface) (λ t. t.client == s.client) (λ t is. equal-numbers t.client s.client (of-client s.client s.surface t is)) ss)
    ∙ at (s.client == s.client) (equal-numbers s.client s.client refl) apart
  where
    at : (b : Bool) → b ≡ true → AreApart (cond b (s ∷ filter (λ t. t.client == s.client) ss) (filter (λ t. t.client == s.client) ss))
        → list_any (is_of s.client s.surface) (filter (λ t. t.client == s.client) ss) ≡ false
    at true e apart = apart.0
    at false e apart = absurd (cc)

pub all-apart : (ss : List Standing) → ((c : ℕ) → AreApart (filter (λ s. s.client == c) ss)) → AreApart ss
all-apart [] apart = tt
all-apart (s ∷ ss) apart = (apart-first s ss (apart s.client), all-apart ss (λ c. apart-rest c s ss (apart c)))

-- ---- a client

-- a client's toplevel with this surface
abbrev stands : ℕ → List Standing → Bool
stands surface tops = list_any (λ s. s.surface == surface) tops

record IsSoundAt (owned : Owned) (tops : List Standing) : Type 0 where
  apart : AreApart tops
  trees : AreTrees owned.surfaces
  popups : AreOnce (λ p. has_surface p.surface) (stacked_popups owned)
  levels : (surface : ℕ) → stands surface tops ≡ true → list_any (has_surface surface) (stacked_popups owned) ≡ false
  toplevel_roots : (surface : ℕ) → stands surface tops ≡ true → IsNoChild surface owned.surfaces
  popup_roots : (surface : ℕ) → list_any (has_surface surface) (stacked_popups owned) ≡ true → IsNoChild surface owned.surfaces

module _ (forest-trees : (bound : ℕ) (all : Surfaces) → IsForest bound all → AreTrees all) where
  orderly-at : (bound : ℕ) (r : Resident) (tops : List Standing) → IsOrderly bound r tops → IsSoundAt r.owned tops
  orderly-at bound r tops orderly = record {
    apart = orderly.standing.apart;
    trees = forest-trees bound r.owned.surfaces orderly.forest;
    popups = once-popups r.owned orderly.roles.apart;
    levels = λ surface there. any-popups r.owned surface ∙ unpopped-mapped surface r.owned.shell orderly.roles.apart (orderly.standing.mapped surface there);
    toplevel_roots = λ surface there number link live e. unmapped (xdg_of surface r.owned.shell) (bare surface number link live e) (orderly.standing.mapped surface there);
    popup_roots = λ surface there number link live e. differ (sym (any-popups r.owned surface ∙ unpopped surface r.owned.shell (bare surface number link live e)) ∙ there);
  }
    where
      bare : (surface number : ℕ) (link : Link) → IsLive number link r.owned.surfaces → link.child ≡ surface → xdg_of surface r.owned.shell ≡ None
      bare surface number link live e = subst (λ (n : ℕ). xdg_of n r.owned.shell ≡ None) e (orderly.roles.bare number link live)

      unmapped : (o : Option XdgSurface) → o ≡ None → IsMapped o → ⊥
      unmapped None e mapped = mapped
      unmapped (Some x) e mapped = absurd (cc)

  nothing-at : (tops : List Standing) → tops ≡ [] → IsSoundAt (owned_of None) tops
  nothing-at tops none = record {
    apart = subst AreApart (sym none) tt;
    trees = no-trees;
    popups = tt;
    levels = λ surface there. refl;
    toplevel_roots = λ surface there. absurd (differ (sym (ap (stands surface) none) ∙ there));
    popup_roots = λ surface there. absurd (differ there);
  }

  sound-at : (o : Option Resident) (tops : List Standing) → IsOrderlyAt o tops → IsSoundAt (owned_of o) tops
  sound-at None tops known = nothing-at tops known
  sound-at (Some r) tops known = by r.peer.status known
    where
      by : (s : Option Cause) → IsOrderlyBy s r tops → IsSoundAt r.owned tops
      by None known = orderly-at (r.peer.requests + 1) r tops known
      by (Some cause) known = orderly-at (r.peer.requests + 1) r tops known.0

  -- what stands of a client
  stands-of : (c surface : ℕ) (d : Desktop) → list_any (is_of c surface) d.standing ≡ true → stands surface (toplevels_of c d) ≡ true
  stands-of c surface d there = any-filtered (λ s. s.surface == surface) (λ s. s.client == c) d.standing ∙ there

  pub orderly-sound : (d : Desktop) → AreOrderly d → IsSound d
  orderly-sound d orderly = record {
    apart = all-apart d.standing (λ c. (here c).apart);
    trees = λ c. (here c).trees;
    popups = λ c. (here c).popups;
    levels = λ c surface there. (here c).levels surface (stands-of c surface d there);
    toplevel_roots = λ c surface there. (here c).toplevel_roots surface (stands-of c surface d there);
    popup_roots = λ c surface there. (here c).popup_roots surface there;
  }
    where
      here : (c : ℕ) → IsSoundAt (owned_in d c) (toplevels_of c d)
      here c = sound-at (client_at c d) (toplevels_of c d) (orderly c)
