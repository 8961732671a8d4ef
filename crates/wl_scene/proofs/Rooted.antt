-- The roots of a toplevel and its popups, by what is kept.
use Rattle.std.proofs.Common.{◌≡◌, ◌≤◌, ◌<◌, ◌+◌, ℕ, ℤ, List, [], ◌∷◌, ◌++◌, Bool, true, false, Option, Some, None, refl, ap, ap₂, subst, sym, ◌∙◌, arith, map, length}
use Rattle.std.specs.Prelude.{◌&&◌, ◌-◌, IfSome, filter, find, fold, if◌then◌else◌, is_some, nat_lt, not}
use Rattle.std.specs.Option.{option_and_then, option_map, option_map_or}
use Rattle.std.proofs.lemmas.Bool.Decides.{nat_tests}
use Rattle.std.proofs.lemmas.List.{append_assoc, length-append, length-map, map-append}
use Rattle.wl_links.specs.Family.{Tied}
use Rattle.wl_geom.specs.declared.rect.Rect.{Rect}
use Rattle.wl_scene.specs.declared.roots.RootPlace.{RootPlace}
use Rattle.wl_scene.specs.Roots.{AreAt, Continues, HasRole, IsHeld, IsStackedAs, corner_or, is_done, is_past, is_root_of, kept_geometry, parent_surface, roots_done, shows_popup, standing_at, told_root}
use Rattle.wl_shell.specs.InOrder.{AreRising, IsOnly}
use Rattle.wl_scene.proofs.Geometry.{geometry-kept}
use Rattle.wl_scene.proofs.Popups.{IsNext, done-all, done-first, done-next, none-past, some-next}
use Rattle.wl_shell.proofs.Ordered.{Each, IsIts, all-its, among-popups, each-filter, popup-of, role-of}
use Rattle.wl_shell.proofs.ShellsStanding.{both, kept-for, none-for, there}
use Rattle.wl_shell.specs.PopupsKept.{IsOldest, has_popup, number_of}
use Rattle.spec_desktop.specs.Popups.{geometry_at, placement_of, stacked_popup, stacked_popups}
use Rattle.spec_desktop.specs.Stacking.{Owned, geometry_in, geometry_since, root_of}
use Rattle.spec_desktop.specs.Windows.{Place, Root, StackedPopup, corner_in, geometry_corner, has_parent, popup_place, root_on, roots_of, stacked, stacked_on}
use Rattle.wl_surface.specs.State.{History}
use Rattle.wl_surface.specs.Slots.{Slots}
use Rattle.wl_surface.specs.Surfaces.{Surfaces, history_in}
use Rattle.wl_shell.specs.Kept.{Book, Kept, kept_of}
use Rattle.wl_shell.specs.Popups.{Popped, is_mapped_stage, is_popup_mapped, popup_in, popups_of}
use Rattle.wl_shell.specs.Shell.{Popup, RoleObject, XdgSurface}

-- ---- which popup is stacked on which root

module _ (surfaces : Surfaces) (p : StackedPopup) where
  pub stacked-unmapped : p.is_mapped ≡ false → (rs : List Root) → stacked_on surfaces p rs ≡ []
  stacked-unmapped e [] = refl
  stacked-unmapped e (r ∷ rs) =
      ap (λ b. if b && has_parent r.surface p then root_on surfaces r p ∷ [] else stacked_on surfaces p rs) e ∙ stacked-unmapped e rs

  -- the root that is found is the parent
  pub record IsParent (book : Book) (rs : List Root) (root : RootPlace) (r : Root) : Type 0 where
    pub told : root ≡ told_root r
    pub geometry : r.geometry ≡ kept_geometry book r.surface
    pub stacked : stacked_on surfaces p rs ≡ root_on surfaces r p ∷ []

  abbrev pub IsFoundBy : Book → List Root → Option RootPlace → Type 0
  IsFoundBy book rs None = stacked_on surfaces p rs ≡ []
  IsFoundBy book rs (Some root) = (r : Root) × IsParent book rs root r

  found-on : (book : Book) (r : Root) (rs : List Root) → stacked_on surfaces p (r ∷ rs) ≡ stacked_on surfaces p rs → (o : Option RootPlace) → IsFoundBy book rs o
      → IsFoundBy book (r ∷ rs) o
  found-on book r rs step None e = step ∙ e
  found-on book r rs step (Some root) e = (e.0, record { told = e.1.told; geometry = e.1.geometry; stacked = step ∙ e.1.stacked })

  pub found-parent : (book : Book) → p.is_mapped ≡ true → (rs : List Root) → AreAt book rs → IsFoundBy book rs (find (is_root_of p.parent) (map told_root rs))
  found-parent book mapped [] at = refl
  found-parent book mapped (r ∷ rs) at = by (has_parent r.surface p) refl (found-parent book mapped rs at.1)
    where
      by : (b : Bool) → has_parent r.surface p ≡ b → IsFoundBy book rs (find (is_root_of p.parent) (map told_root rs))
          → IsFoundBy book (r ∷ rs) (if b then Some (told_root r) else find (is_root_of p.parent) (map told_root rs))
      by true e rest = (
        r,
        record {
          told = refl;
          geometry = at.0;
          stacked = ap₂ (λ a b. if a && b then root_on surfaces r p ∷ [] else stacked_on surfaces p rs) mapped e;
        },
      )
      by false e rest =
          found-on book r rs (ap₂ (λ a b. if a && b then root_on surfaces r p ∷ [] else stacked_on surfaces p rs) mapped e)
          (find (is_root_of p.parent) (map told_root rs)) rest

-- where there is no parent none is found
pub find-never : (o : Option ℕ) (rs : List RootPlace) → o ≡ None → find (is_root_of o) rs ≡ None
find-never o rs e = ap (λ (o : Option ℕ). find (is_root_of o) rs) e ∙ never rs
  where
    never : (rs : List RootPlace) → find (is_root_of None) rs ≡ None
    never [] = refl
    never (r ∷ rs) = never rs

-- the root of a popup, as it is told
pub root-told : (surfaces : Surfaces) (p : StackedPopup) (r : Root) (surface : ℕ) (at place : Place) → p.surface ≡ surface → at ≡ geometry_corner (corner_in surfaces r) r.geometry
    → place ≡ popup_place at p → record { surface = surface; x = place.x; y = place.y } ≡ told_root (root_on surfaces r p)
root-told surfaces p r surface at place same corner by =
    ap₂ (λ s (q : Place). record { surface = s; x = q.x; y = q.y }) (sym same) (by ∙ ap (λ (a : Place). popup_place a p) corner)

-- the corner of the window geometry of a root
pub root-at : (surfaces : Surfaces) (r : Root) (root : RootPlace) (corner : Place) (book : Book) (g : Option Rect) → root ≡ told_root r → r.geometry ≡ kept_geometry book r.surface
    → g ≡ kept_geometry book root.surface → corner ≡ geometry_corner (corner_or (record { x = root.x; y = root.y }) (history_in root.surface surfaces)) g
    → corner ≡ geometry_corner (corner_in surfaces r) r.geometry
root-at surfaces r root corner book g told at is by =
    let same : r.geometry ≡ g = at ∙ ap (λ (q : RootPlace). kept_geometry book q.surface) (sym told) ∙ sym is in
    by ∙ ap₂ (λ (q : RootPlace) g. geometry_corner (corner_or (record { x = q.x; y = q.y }) (history_in q.surface surfaces)) g) told (sym same)
    ∙ ap (λ c. geometry_corner c r.geometry) (placed (history_in r.surface surfaces) refl)
  where
    placed : (h : Option History) → history_in r.surface surfaces ≡ h → corner_or r.place (history_in r.surface surfaces) ≡ corner_in surfaces r
    placed None e = rw e refl
    placed (Some h) e = rw e refl

-- ---- roots one after another

fold-append : {X Y : Type 0} (f : Y → X → Y) (acc : Y) (xs ys : List X) → fold f acc (xs ++ ys) ≡ fold f (fold f acc xs) ys
fold-append f acc [] ys = refl
fold-append f acc (x ∷ xs) ys = fold-append f (f acc x) xs ys

at-append : (book : Book) (rs qs : List Root) → AreAt book rs → AreAt book qs → AreAt book (rs ++ qs)
at-append book [] qs e f = f
at-append book (r ∷ rs) qs e f = (e.0, at-append book rs qs e.1 f)

pub fold-longer : (surfaces : Surfaces) (rs : List Root) (ps : List StackedPopup) → length rs ≤ length (fold (stacked surfaces) rs ps)
fold-longer surfaces rs [] = omega arith
fold-longer surfaces rs (p ∷ ps) =
    let more = fold-longer surfaces (stacked surfaces rs p) ps in
    let one = length-append rs (stacked_on surfaces p rs) in
    omega (arith, more, one)

pub done-stacked : (o : Owned) (toplevel : Root) (last : Option ℕ) (n : ℕ) (p : Popped)
    → filter (is_done (Some n)) (popups_of o.shell) ≡ filter (is_done last) (popups_of o.shell) ++ p ∷ []
    → roots_done o toplevel (Some n) ≡ stacked o.surfaces (roots_done o toplevel last) (stacked_popup o p)
done-stacked o toplevel last n p e =
    ap (λ (ps : List Popped). roots_of o.surfaces toplevel (map (stacked_popup o) ps)) e
    ∙ ap (roots_of o.surfaces toplevel) (map-append (stacked_popup o) (filter (is_done last) (popups_of o.shell)) (p ∷ []))
    ∙ fold-append (stacked o.surfaces) (toplevel ∷ []) (map (stacked_popup o) (filter (is_done last) (popups_of o.shell))) (stacked_popup o p ∷ [])

pub done-whole : (o : Owned) (toplevel : Root) (last : Option ℕ) → filter (is_done last) (popups_of o.shell) ≡ popups_of o.shell
    → roots_done o toplevel last ≡ roots_of o.surfaces toplevel (stacked_popups o)
done-whole o toplevel last e = ap (λ (ps : List Popped). roots_of o.surfaces toplevel (map (stacked_popup o) ps)) e

pub done-none : (o : Owned) (toplevel : Root) → roots_done o toplevel None ≡ toplevel ∷ []
done-none o toplevel = ap (λ (ps : List Popped). roots_of o.surfaces toplevel (map (stacked_popup o) ps)) (none (popups_of o.shell))
  where
    none : (ps : List Popped) → filter (is_done None) ps ≡ []
    none [] = refl
    none (p ∷ ps) = none ps

pub done-fits : (o : Owned) (toplevel : Root) (last : Option ℕ) → AreRising (popups_of o.shell)
    → length (roots_done o toplevel last) ≤ length (roots_of o.surfaces toplevel (stacked_popups o))
done-fits o toplevel last rising =
    let t = done-first last (popups_of o.shell) rising in
    let whole : roots_of o.surfaces toplevel (stacked_popups o) ≡ fold (stacked o.surfaces) (roots_done o toplevel last) (map (stacked_popup o) t.0) =
    ap (λ (ps : List Popped). roots_of o.surfaces toplevel (map (stacked_popup o) ps)) t.1
    ∙ ap (roots_of o.surfaces toplevel) (map-append (stacked_popup o) (filter (is_done last) (popups_of o.shell)) t.0)
    ∙ fold-append (stacked o.surfaces) (toplevel ∷ []) (map (stacked_popup o) (filter (is_done last) (popups_of o.shell))) (map (stacked_popup o) t.0) in
    let longer = fold-longer o.surfaces (roots_done o toplevel last) (map (stacked_popup o) t.0) in
    subst (λ (rs : List Root). length (roots_done o toplevel last) ≤ length rs) (sym whole) longer

-- ---- by what is kept

module _ (slots : Slots) (tied : Tied) (book : Book) (o : Owned) (held : IsHeld slots tied book o) where
  popup-geometry : (surface : ℕ) (p : Popped) → IsOnly o.shell surface p → geometry_at o p.xdg ≡ kept_geometry book p.xdg.surface
  popup-geometry surface p only =
      let t = kept-for (kept_of book) (λ number. history_in number o.surfaces) o.shell held.shell surface p.xdg only.found in
      let role : is_some t.0.role ≡ true = ap is_some (t.3.stands.role ∙ role-of p.xdg p only.its) in
      geometry-kept o surface t.0 p.xdg t.1 t.3 role
      ∙ sym (ap (kept_geometry book) t.3.number ∙ ap (option_and_then (λ (k : Kept). k.applied)) t.2)

  pub stacked-at : (surface : ℕ) (p : Popped) → IsOnly o.shell surface p → (rs : List Root) → AreAt book rs → AreAt book (stacked o.surfaces rs (stacked_popup o p))
  stacked-at surface p only rs at = at-append book rs (stacked_on o.surfaces (stacked_popup o p) rs) at (on rs)
    where
      on : (rs : List Root) → AreAt book (stacked_on o.surfaces (stacked_popup o p) rs)
      on [] = tt
      on (r ∷ rs) = by (is_popup_mapped p && has_parent r.surface (stacked_popup o p)) (on rs)
        where
          by : (b : Bool) → AreAt book (stacked_on o.surfaces (stacked_popup o p) rs)
              → AreAt book (if b then root_on o.surfaces r (stacked_popup o p) ∷ [] else stacked_on o.surfaces (stacked_popup o p) rs)
          by true rest = (popup-geometry surface p only, tt)
          by false rest = rest

  fold-at : (rs : List Root) (ps : List Popped) → AreAt book rs → Each (IsIts o.shell) ps → AreAt book (fold (stacked o.surfaces) rs (map (stacked_popup o) ps))
  fold-at rs [] at its = at
  fold-at rs (p ∷ ps) at its = fold-at (stacked o.surfaces rs (stacked_popup o p)) ps (stacked-at p.xdg.surface p its.0 rs at) its.1

  pub done-at : (toplevel : Root) (last : Option ℕ) → AreAt book (toplevel ∷ []) → AreAt book (roots_done o toplevel last)
  done-at toplevel last at =
      fold-at (toplevel ∷ []) (filter (is_done last) (popups_of o.shell)) at
      (each-filter (IsIts o.shell) (is_done last) (popups_of o.shell) (all-its o.shell held.shell.apart))

  -- the toplevel
  pub toplevel-at : (client surface : ℕ) (x y : ℤ) → HasRole book surface → AreAt book (root_of (λ _. o) (standing_at client surface x y) ∷ [])
  toplevel-at client surface x y has = (at (kept_of book surface) refl has, tt)
    where
      nothing : (h : Option History) → option_and_then (λ h. option_and_then (geometry_since h) None) h ≡ None
      nothing None = refl
      nothing (Some h) = refl

      at : (k : Option Kept) → kept_of book surface ≡ k → IfSome k (λ k. is_some k.role ≡ true) → geometry_in o surface ≡ kept_geometry book surface
      at None e role =
          ap (λ (x : Option XdgSurface). option_and_then (λ h. option_and_then (geometry_since h) x) (history_in surface o.surfaces))
          (none-for (kept_of book) (λ number. history_in number o.surfaces) o.shell held.shell surface e)
          ∙ nothing (history_in surface o.surfaces) ∙ sym (ap (option_and_then (λ (k : Kept). k.applied)) e)
      at (Some k) e role =
          let t = there (kept_of book) (λ number. history_in number o.surfaces) o.shell held.shell surface k e in
          ap₂ (λ (x : Option XdgSurface) (h : Option History). option_and_then (λ h. option_and_then (geometry_since h) x) h) t.2.found t.2.history
          ∙ sym (t.2.stands.applied (ap is_some (sym t.2.stands.role) ∙ role)) ∙ sym (ap (option_and_then (λ (k : Kept). k.applied)) e)

  -- a popup is mapped by what is kept of it
  pub mapped-kept : (surface : ℕ) (p : Popped) → IsOnly o.shell surface p → (k : Kept) → kept_of book surface ≡ Some k → shows_popup k ≡ is_popup_mapped p
  mapped-kept surface p only k e =
      let t = there (kept_of book) (λ number. history_in number o.surfaces) o.shell held.shell surface k e in
      let same : Some t.0 ≡ Some p.xdg = sym t.2.found ∙ only.found in
      let role : k.role ≡ Some p.object = t.2.stands.role ∙ ap (λ (x : XdgSurface). x.role) (some-xdg t.0 p.xdg same) ∙ role-of p.xdg p only.its in
      let popup : popup_in k.role ≡ Some p.popup = ap popup_in (t.2.stands.role ∙ ap (λ (x : XdgSurface). x.role) (some-xdg t.0 p.xdg same)) ∙ popup-of p.xdg p only.its in
      ap₂ (λ a b. a && b) (ap (λ (r : Option RoleObject). option_map_or is_mapped_stage (option_map (λ (object : RoleObject). object.stage) r) false) role)
      (ap (λ (q : Option Popup). option_map_or (λ popup. not popup.is_dismissed) q false) popup)
    where
      some-xdg : (x y : XdgSurface) → Some x ≡ Some y → x ≡ y
      some-xdg x y e = cc

  -- the popup that is kept
  pub popup-kept : (surface : ℕ) (p : Popped) → IsOnly o.shell surface p → (k : Kept) → kept_of book surface ≡ Some k → popup_in k.role ≡ Some p.popup
  popup-kept surface p only k e =
      let t = both (kept_of book) (λ number. history_in number o.surfaces) o.shell held.shell surface k p.xdg e only.found in
      ap popup_in t.1.stands.role ∙ popup-of p.xdg p only.its

  -- and how it is stacked
  pub stacked-as : (surface : ℕ) (p : Popped) → IsOnly o.shell surface p → (k : Kept) → kept_of book surface ≡ Some k → (popup : Popup) → popup_in k.role ≡ Some popup
      → shows_popup k ≡ true → IsStackedAs o surface k popup (stacked_popup o p)
  stacked-as surface p only k e popup f shows =
      let t = both (kept_of book) (λ number. history_in number o.surfaces) o.shell held.shell surface k p.xdg e only.found in
      let same : Some p.popup ≡ Some popup = sym (popup-kept surface p only k e) ∙ f in
      let one : p.popup ≡ popup = cc in
      record {
        of_surface = t.1.number;
        parent = ap (parent_surface o) one;
        placement = ap (λ (q : Popup). placement_of q.placement) one;
        geometry = geometry-kept o surface k p.xdg t.0 t.1 (ap is_some (t.1.stands.role ∙ role-of p.xdg p only.its));
        is_mapped = sym (mapped-kept surface p only k e) ∙ shows;
      }

-- ---- what is added

module _ (surfaces : Surfaces) (p : StackedPopup) (rs : List Root) (had old more : List RootPlace) (was : old ≡ had ++ map told_root rs) (is : more ≡ map told_root (stacked_on surfaces p rs)) where
  pub added : (new : List RootPlace) → new ≡ old ++ more → new ≡ had ++ map told_root (stacked surfaces rs p)
  added new now =
      now ∙ ap₂ (λ (xs ys : List RootPlace). xs ++ ys) was is ∙ append_assoc had (map told_root rs) (map told_root (stacked_on surfaces p rs))
      ∙ ap (λ (xs : List RootPlace). had ++ xs) (sym (map-append told_root rs (stacked_on surfaces p rs)))

  pub room : (capacity : ℕ) → length had + length (stacked surfaces rs p) ≤ capacity → length old + length more ≤ capacity
  room capacity fits =
      let a : length old ≡ length had + length rs = ap length was ∙ length-append had (map told_root rs) ∙ ap (λ (n : ℕ). length had + n) (length-map rs told_root) in
      let b : length more ≡ length (stacked_on surfaces p rs) = ap length is ∙ length-map (stacked_on surfaces p rs) told_root in
      let c = length-append rs (stacked_on surfaces p rs) in
      omega (arith, a, b, c, fits)

-- more behind what was behind
pub continues : (xs ys zs : List RootPlace) → Continues xs ys → Continues ys zs → Continues xs zs
continues xs ys zs a b = (a.0 ++ b.0, b.1 ∙ ap (λ (ws : List RootPlace). ws ++ b.0) a.1 ∙ append_assoc xs a.0 b.0)

-- one popup after another
module _ (slots : Slots) (tied : Tied) (book : Book) (o : Owned) (held : IsHeld slots tied book o) (rising : AreRising (popups_of o.shell)) (toplevel : Root) (at : AreAt book (toplevel ∷ []))
    (last : Option ℕ) where
  next-roots : (surface : ℕ) (p : Popped) → IsNext (kept_of book) o.shell last surface p
      → roots_done o toplevel (Some p.popup.number) ≡ stacked o.surfaces (roots_done o toplevel last) (stacked_popup o p)
  next-roots surface p next =
      done-stacked o toplevel last p.popup.number p (done-next last p (popups_of o.shell) rising (among-popups o.shell surface p next.only) next.past next.least)

  -- the next popup of these, and with which roots
  pub record IsStackedNext (surface : ℕ) (p : Popped) : Type 0 where
    pub only : IsOnly o.shell surface p
    pub are_at : AreAt book (roots_done o toplevel last)
    pub number : option_map_or number_of (kept_of book surface) 0 ≡ p.popup.number
    pub past : is_past last p.popup.number ≡ true
    pub roots : roots_done o toplevel (Some (option_map_or number_of (kept_of book surface) 0)) ≡ stacked o.surfaces (roots_done o toplevel last) (stacked_popup o p)
    pub fits : length (stacked o.surfaces (roots_done o toplevel last) (stacked_popup o p)) ≤ length (roots_of o.surfaces toplevel (stacked_popups o))

  pub stacked-next : (surface : ℕ) → IsOldest (has_popup (λ popup. is_past last popup.number)) (kept_of book) (Some surface) → (p : Popped) × IsStackedNext surface p
  stacked-next surface oldest =
      let n = some-next (kept_of book) (λ number. history_in number o.surfaces) o.shell held.shell last surface oldest in
      let roots = next-roots surface n.0 n.1 in (
        n.0,
        record {
          only = n.1.only;
          are_at = done-at slots tied book o held toplevel last at;
          number = n.1.number;
          past = n.1.past;
          roots = ap (λ (i : ℕ). roots_done o toplevel (Some i)) n.1.number ∙ roots;
          fits = subst (λ (rs : List Root). length rs ≤ length (roots_of o.surfaces toplevel (stacked_popups o))) roots (done-fits o toplevel (Some n.0.popup.number) rising);
        },
      )

  -- or there are no more
  pub stacked-all : IsOldest (has_popup (λ popup. is_past last popup.number)) (kept_of book) None → roots_done o toplevel last ≡ roots_of o.surfaces toplevel (stacked_popups o)
  stacked-all none =
      done-whole o toplevel last (done-all last (popups_of o.shell) (none-past (kept_of book) (λ number. history_in number o.surfaces) o.shell held.shell last none))

-- ---- the numbers that are left

pub left : Option ℕ → ℕ
left None = 18446744073709551616
left (Some n) = 18446744073709551615 - n

first-less : (n : ℕ) → 18446744073709551615 - n < 18446744073709551616
first-less n = omega arith

next-less : (m n : ℕ) → nat_lt m n ≡ true → n < 18446744073709551616 → 18446744073709551615 - n < 18446744073709551615 - m
next-less m n e fits = let more : m < n = lower m n e in omega (arith, more, fits)
  where
    lower : (m n : ℕ) → nat_lt m n ≡ true → m < n
    lower m n e = grind (arith, nat_tests)

pub left-less : (last : Option ℕ) (n : ℕ) → is_past last n ≡ true → n < 18446744073709551616 → left (Some n) < left last
unfolding left
left-less None n past fits = first-less n
left-less (Some m) n past fits = next-less m n past fits
