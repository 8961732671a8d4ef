-- What is told of a toplevel's windows by what is kept after a message.
use Rattle.std.proofs.Common.{◌≡◌, ◌==◌, ◌&&◌, ◌||◌, ◌≤◌, ℕ, Bool, true, false, cond, Option, Some, None, List, [], ◌∷◌, ◌++◌, length, map, arith}
use Rattle.std.proofs.Common.{refl, ap, ap₂, sym, subst, ◌∙◌, eq-eqb, eqb-true}
use Rattle.std.specs.Prelude.{IfSome, find, is_some}
use Rattle.std.specs.Cmp.{nat_eq_equiv}
use Rattle.std.specs.List.{AllByRecursion, IsDistinct, list_any}
use Rattle.std.specs.Set.{is_member}
use Rattle.std.specs.Option.{option_map}
use Rattle.std.proofs.lemmas.Bool.{or_left, or_parts, or_right, true≢false}
use Rattle.std.proofs.lemmas.List.{length-map}
use Rattle.std.proofs.lemmas.List.Elements.{recursion_from_All}
use Rattle.std.proofs.lemmas.Map.Made.{length-le_from_is_member}
use Rattle.law_desktop.specs.Standing.{HasMappedToplevel}
use Rattle.law_desktop.specs.Renaming.{has_surface}
use Rattle.law_desktop.specs.NamedPopups.{RenamesOwned, renamed_owned, renamed_shell, renamed_xdg}
use Rattle.law_desktop.proofs.PopupsByNames.Popped.{each-there}
use Rattle.law_desktop.proofs.PopupsByNames.Rooted.{of-renamed}
use Rattle.law_desktop.proofs.Truth.{and-left}
use Rattle.law_desktop.proofs.Lists.Each.{Each}
use Rattle.law_desktop.proofs.Lists.Tests.{each-all}
use Rattle.spec_desktop.specs.Objects.{ById}
use Rattle.spec_desktop.specs.Desktop.{Desktop, owned_in}
use Rattle.spec_desktop.specs.Marks.{AreDistinct, is_same_surface}
use Rattle.wl_requests.specs.declared.residents.Resident.{Resident as Kept}
use Rattle.law_windows.proofs.Lists.{all-second}
use Rattle.law_windows.specs.Runs.Marks.{IsThereIn, NoneComes}
use Rattle.law_windows.proofs.OneToplevel.Marked.{runs-are-there}
use Rattle.wl_scene.specs.Roots.{HasRole, IsHeld}
use Rattle.wl_shell.specs.Agreement.{IsKept}
use Rattle.wl_shell.specs.InOrder.{AreRising}
use Rattle.spec_desktop.specs.Stacking.{Owned, Standing, is_of, shows_buffer}
use Rattle.spec_desktop.specs.Windows.{Owner, Window}
use Rattle.wl_surface.specs.State.{History}
use Rattle.wl_surface.specs.Surface.{Surface}
use Rattle.wl_surface.specs.Surfaces.{Surfaces, history_in, surface_at}
use Rattle.law_desktop.specs.Changes.{HasTrees}
use Rattle.law_desktop.specs.Toplevel.{ChangesToplevel, has_toplevel, windows_with}
use Rattle.law_windows.specs.RenamedWindows.{told_by}
use Rattle.wl_scene.specs.declared.tree_window.TreeWindow.{TreeWindow}
use Rattle.wl_shell.specs.Kept.{Kept as KeptXdg, kept_of}
use Rattle.wl_shell.specs.Popups.{popups_of}
use Rattle.wl_shell.specs.Shell.{RoleObject, XdgSurface, xdg_of}
use Rattle.wl_clients.specs.Agreement.{IsStack}
use Rattle.wl_clients.specs.Screens.{IsRunHeld, run_on}
use Rattle.wl_clients.proofs.OnScreen.Finding.{IsFoundAs, found-as}
use Rattle.wl_clients.proofs.OnScreen.Runs.{found-any, run-told}
use Rattle.wl_clients.proofs.OnScreen.Scenes.{AreOnce}

-- ---- a toplevel that stands

has-history : (id : ℕ) (all : Surfaces) → shows_buffer (history_in id all) ≡ true → has_surface id all ≡ true
has-history id all shows = at (surface_at id all) shows
  where
    at : (o : Option Surface) → shows_buffer (option_map (λ (s : Surface). s.history) o) ≡ true → is_some o ≡ true
    at None e = e
    at (Some s) e = refl

-- its surface is there
pub toplevel-there : (c toplevel : ℕ) (e : Desktop) → HasTrees e → list_any (is_of c toplevel) e.standing ≡ true → has_surface toplevel (owned_in e c).surfaces ≡ true
toplevel-there c toplevel e trees stands = has-history toplevel (owned_in e c).surfaces (trees.toplevels_show c toplevel stands)

-- ---- as it is kept

-- What is kept stands by these names for what a client owns, whose popups are in order.
pub record HoldsAs {A : Type 0} (f : ℕ → ℕ) (v : Kept A) (o : Owned) : Type 0 where
  pub renames : RenamesOwned f o
  pub held : IsHeld v.owned.surfaces.states v.owned.surfaces.family v.owned.shell (renamed_owned f o)
  pub rising : AreRising (popups_of (renamed_shell f o.shell))
  pub few : length o.shell ≤ 256

-- the xdg_surface of a toplevel that stands is kept with its role object
role-kept : (k : Option KeptXdg) (x : Option XdgSurface) (h : Option History) → IsKept k x h → HasMappedToplevel x → IfSome k (λ k. is_some k.role ≡ true)
role-kept None None h is mapped = absurd mapped
role-kept (Some k) (Some x) (Some h) is mapped = ap (λ (o : Option RoleObject). is_some o) is.role ∙ at x.role mapped
  where
    at : (o : Option RoleObject) → HasMappedToplevel (Some (record x { role = o })) → is_some o ≡ true
    at None e = absurd e
    at (Some object) e = refl
role-kept None (Some x) h is mapped = absurd is
role-kept (Some k) None h is mapped = absurd is
role-kept (Some k) (Some x) None is mapped = absurd is

mapped-renamed : (f : ℕ → ℕ) (x : Option XdgSurface) → HasMappedToplevel x → HasMappedToplevel (option_map (renamed_xdg f) x)
mapped-renamed f None is = is
mapped-renamed f (Some x) is = is

found-too : (t s : Option Standing) → IsFoundAs t s → is_some t ≡ true → is_some s ≡ true
found-too None s alike is = absurd (true≢false (sym is))
found-too (Some t) None alike is = absurd alike
found-too (Some t) (Some s) alike is = refl

any-found : (c toplevel : ℕ) (ss : List Standing) → is_some (find (is_of c toplevel) ss) ≡ true → list_any (is_of c toplevel) ss ≡ true
any-found c toplevel ss is = at (find (is_of c toplevel) ss) refl is
  where
    at : (o : Option Standing) → find (is_of c toplevel) ss ≡ o → is_some o ≡ true → list_any (is_of c toplevel) ss ≡ true
    at None e is = absurd (true≢false (sym is))
    at (Some s) e is = found-any c toplevel ss s e

module _ {A : Type 0} (f g : ℕ → ℕ) (c toplevel k : ℕ) (mid : Kept A) (e : Desktop) (trees : HasTrees e) (holds : HoldsAs g mid (owned_in e c))
    (agree : (surface : ℕ) → has_surface surface (owned_in e c).surfaces ≡ true → g surface ≡ f surface) (named : k ≡ f toplevel)
    (nums : ℕ → ById ℕ) (once : AreOnce (nums c)) (numbered : nums c toplevel ≡ Some k) (ks : List Standing) (stack : IsStack nums ks e.standing) where
  by-name : list_any (is_of c toplevel) e.standing ≡ true → (has_surface toplevel (owned_in e c).surfaces ≡ true) × (k ≡ g toplevel)
  by-name stands = let there = toplevel-there c toplevel e trees stands in (there, named ∙ sym (agree toplevel there))

  has-role : is_some (find (is_of c k) ks) ≡ true → HasRole mid.owned.shell k
  has-role is =
      let stands = any-found c toplevel e.standing (found-too (find (is_of c k) ks) (find (is_of c toplevel) e.standing) (found-as nums c toplevel k once numbered ks e.standing stack) is) in
      let known = by-name stands in
      subst (λ (n : ℕ). HasRole mid.owned.shell n) (sym known.1)
      (role-kept (kept_of mid.owned.shell (g toplevel)) (xdg_of (g toplevel) (renamed_shell g (owned_in e c).shell)) (history_in (g toplevel) (renamed_owned g (owned_in e c)).surfaces)
      (holds.held.shell.each (g toplevel))
      (subst (λ (x : Option XdgSurface). HasMappedToplevel x)
      (sym (of-renamed g (owned_in e c) holds.renames (owned_in e c).shell (each-there g (owned_in e c) holds.renames) toplevel known.0))
      (mapped-renamed g (xdg_of toplevel (owned_in e c).shell) (trees.mapped c toplevel stands))))

  -- What is kept stands so that its windows can be told.
  pub run-held : IsRunHeld c mid k ks (renamed_owned g (owned_in e c))
  run-held = record {
    held = holds.held;
    rising = holds.rising;
    role = has-role;
    few = subst (λ (n : ℕ). n ≤ 256) (sym (length-map (owned_in e c).shell (renamed_xdg g))) holds.few;
  }

  told-alike : (ws : List Window) → Each (IsThereIn (owned_in e c).surfaces) ws → map (told_by g) ws ≡ map (told_by f) ws
  told-alike [] each = refl
  told-alike (w ∷ ws) each =
      ap₂ (λ (t : TreeWindow) (ts : List TreeWindow). t ∷ ts)
      (ap₂ (λ (surface root : ℕ). record (told_by f w) { surface = surface; root = root }) (agree w.surface each.0.0) (agree w.owner.root each.0.1)) (told-alike ws each.1)

  -- They tell those that it has.
  pub run-is : (owner : Owner) → run_on c owner (renamed_owned g (owned_in e c)) (Some k) ks ≡ map (told_by f) (windows_with c toplevel e)
  run-is owner =
      run-told g c toplevel k e holds.renames by-name nums ks owner trees once numbered stack
      ∙ told-alike (windows_with c toplevel e) (recursion_from_All (IsThereIn (owned_in e c).surfaces) (windows_with c toplevel e) (runs-are-there c toplevel e))

-- ---- they are no more than the client's surfaces

left-any : {X : Type 0} (p : X → Bool) (xs ys : List X) → list_any p (xs ++ ys) ≡ false → list_any p xs ≡ false
left-any p [] ys none = refl
left-any p (x ∷ xs) ys none =
    let parts = or_parts (p x) (list_any p (xs ++ ys)) none in ap₂ (λ a b. a || b) parts.0 (left-any p xs ys parts.1)

left-distinct : (xs ys : List Window) → AreDistinct (xs ++ ys) → AreDistinct xs
left-distinct [] ys apart = tt
left-distinct (x ∷ xs) ys apart = (left-any (is_same_surface x) xs ys apart.0, left-distinct xs ys apart.1)

right-distinct : (xs ys : List Window) → AreDistinct (xs ++ ys) → AreDistinct ys
right-distinct [] ys apart = apart
right-distinct (x ∷ xs) ys apart = right-distinct xs ys apart.1

abbrev surfaces_of : List Window → List ℕ
surfaces_of ws = map (λ (w : Window). w.surface) ws

-- the window is the client's, of a surface that is there
abbrev IsOwnIn : ℕ → Surfaces → Window → Type 0
IsOwnIn c all w = (w.owner.client ≡ c) × (has_surface w.surface all ≡ true)

module _ (c : ℕ) (all : Surfaces) where
  other-surface : (w v : Window) → IsOwnIn c all w → IsOwnIn c all v → is_same_surface w v ≡ false → (w.surface == v.surface) ≡ false
  other-surface w v own-w own-v other =
      let same : (w.owner.client == v.owner.client) ≡ true = eq-eqb w.owner.client v.owner.client (own-w.0 ∙ sym own-v.0) in
      sym (ap (λ b. b && (w.surface == v.surface)) same) ∙ other

  other-surfaces : (w : Window) (ws : List Window) → IsOwnIn c all w → Each (IsOwnIn c all) ws → list_any (is_same_surface w) ws ≡ false
      → AllByRecursion (λ n. (w.surface == n) ≡ false) (surfaces_of ws)
  other-surfaces w [] is each none = tt
  other-surfaces w (v ∷ vs) is each none =
      let parts = or_parts (is_same_surface w v) (list_any (is_same_surface w) vs) none in
      (other-surface w v is each.0 parts.0, other-surfaces w vs is each.1 parts.1)

  distinct-surfaces : (ws : List Window) → Each (IsOwnIn c all) ws → AreDistinct ws → IsDistinct ◌==◌ (surfaces_of ws)
  unfolding IsDistinct
  distinct-surfaces [] each apart = tt
  distinct-surfaces (w ∷ ws) each apart = (other-surfaces w ws each.0 each.1 apart.0, distinct-surfaces ws each.1 apart.1)

  shown-there : (id : ℕ) (ws : List Window) → Each (IsOwnIn c all) ws → is_member ◌==◌ (surfaces_of ws) id ≡ true → has_surface id all ≡ true
  shown-there id [] each has = absurd (cc)
  shown-there id (w ∷ ws) each has = at (id == w.surface) refl has (shown-there id ws each.1)
    where
      at : (b : Bool) → (id == w.surface) ≡ b → (b || is_member ◌==◌ (surfaces_of ws) id) ≡ true
          → (is_member ◌==◌ (surfaces_of ws) id ≡ true → has_surface id all ≡ true) → has_surface id all ≡ true
      at true is has rest = ap (λ n. has_surface n all) (eqb-true id w.surface is) ∙ each.0.1
      at false is has rest = rest has

id-there : (id : ℕ) (ss : List Surface) → is_some (find (λ (s : Surface). s.id == id) ss) ≡ true → is_member ◌==◌ (map (λ (s : Surface). s.id) ss) id ≡ true
id-there id [] there = absurd (cc)
id-there id (s ∷ ss) there = at (s.id == id) refl there (id-there id ss)
  where
    at : (b : Bool) → (s.id == id) ≡ b → is_some (cond b (Some s) (find (λ (s : Surface). s.id == id) ss)) ≡ true
        → (is_some (find (λ (s : Surface). s.id == id) ss) ≡ true → is_member ◌==◌ (map (λ (s : Surface). s.id) ss) id ≡ true)
        → ((id == s.id) || is_member ◌==◌ (map (λ (s : Surface). s.id) ss) id) ≡ true
    at true is there rest =
        or_left (id == s.id) (is_member ◌==◌ (map (λ (s : Surface). s.id) ss) id) (eq-eqb id s.id (sym (eqb-true s.id id is)))
    at false is there rest = or_right (id == s.id) (is_member ◌==◌ (map (λ (s : Surface). s.id) ss) id) (rest there)

windows-fit : (c : ℕ) (all : Surfaces) (ws : List Window) → Each (IsOwnIn c all) ws → AreDistinct ws → length ws ≤ length all.surfaces
windows-fit c all ws each apart =
    let fits = length-le_from_is_member nat_eq_equiv (surfaces_of ws) (map (λ (s : Surface). s.id) all.surfaces) (distinct-surfaces c all ws each apart)
    (λ id has. id-there id all.surfaces (shown-there c all id ws each has)) in
    omega (arith, fits, length-map ws (λ (w : Window). w.surface), length-map all.surfaces (λ (s : Surface). s.id))

own-each : (c toplevel : ℕ) (now all : Surfaces) → NoneComes all now → (ws : List Window) → Each (λ w. has_toplevel c toplevel w ≡ true) ws → Each (IsThereIn now) ws → Each (IsOwnIn c all) ws
own-each c toplevel now all comes [] own there = tt
own-each c toplevel now all comes (w ∷ ws) own there = (
  (sym (eqb-true c w.owner.client (and-left (c == w.owner.client) (toplevel == w.owner.toplevel) own.0)), comes w.surface there.0.0),
  own-each c toplevel now all comes ws own.1 there.1,
)

-- Afterwards a toplevel has no more windows than its client had surfaces before, of which none comes.
pub run-fits : (c toplevel : ℕ) (d e : Desktop) (step : ChangesToplevel c toplevel d e) → NoneComes (owned_in d c).surfaces (owned_in e c).surfaces
    → length step.is ≤ length (owned_in d c).surfaces.surfaces
run-fits c toplevel d e step comes =
    windows-fit c (owned_in d c).surfaces step.is
    (own-each c toplevel (owned_in e c).surfaces (owned_in d c).surfaces comes step.is
    (each-all (has_toplevel c toplevel) step.is (all-second (has_toplevel c toplevel) step.was step.is step.together))
    (subst (λ (ws : List Window). Each (IsThereIn (owned_in e c).surfaces) ws) (sym step.is_of)
    (recursion_from_All (IsThereIn (owned_in e c).surfaces) (windows_with c toplevel e) (runs-are-there c toplevel e))))
    (left-distinct step.is step.above (right-distinct step.below (step.is ++ step.above) step.distinct_after))
