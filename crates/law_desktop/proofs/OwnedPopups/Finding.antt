-- What the shell finds of popups under the numbers of their surfaces is what there is by ids.
use Rattle.std.proofs.Common.{◌≡◌, ℕ, List, [], ◌∷◌, Bool, true, false, Option, Some, None, map, refl, ap, ap₂, subst, sym, ◌∙◌}
use Rattle.std.proofs.lemmas.Option.{none-some, same_Some}
use Rattle.std.specs.Prelude.{Ok, if◌then◌else◌, is_some}
use Rattle.std.specs.List.{list_any, AllByRecursion as Each}
use Rattle.std.specs.Option.{option_and_then, option_map, option_map_or}
use Rattle.spec_desktop.specs.declared.refusals.ErrorCode.TheVariants as error
use Rattle.wl_links.specs.Family.{Tied}
use Rattle.wl_surface.specs.State.{History}
use Rattle.wl_surface.specs.Surface.{Surface}
use Rattle.wl_surface.specs.Slots.{Slots}
use Rattle.wl_surface.specs.Surfaces.{history_in}
use Rattle.law_desktop.specs.Renaming.{has_surface}
use Rattle.law_desktop.specs.NamedPopups.{renamed_popped, renamed_shell, renamed_xdg}
use Rattle.law_desktop.proofs.PopupsByNames.Popped.{IsThere, each-there, popped-renamed, popups-named, xdg-renamed}
use Rattle.law_desktop.proofs.PopupsByNames.Rooted.{of-renamed}
use Rattle.wl_shell.specs.Descent.{has_popup_at}
use Rattle.wl_shell.specs.Found.{AreFound, parent_in}
use Rattle.wl_shell.specs.InOrder.{GoesNext, HasOrder, IsNextToGo, IsOnly, goes_with, undismissed}
use Rattle.wl_shell.specs.PopupsKept.{IsNewest, dismissible_grabbing, has_child, parent_allows, popup_destruction}
use Rattle.wl_shell.proofs.Agreeing.{found-surface}
use Rattle.wl_shell.proofs.InOrder.{popups_follow}
use Rattle.wl_shell.proofs.Ordered.{role-of}
use Rattle.wl_shell.proofs.Reading.{shells_find}
use Rattle.wl_shell.proofs.ShellsStanding.{kept-for}
use Rattle.wl_shell.specs.Kept.{Book, Kept, kept_of}
use Rattle.wl_shell.specs.Popups.{Popped, allows_grab, dismissing, first_of, is_parent, is_parent_of, parent_allows as is_grab_allowed, parent_of, popped_of, popup_at, popups_of}
use Rattle.wl_shell.specs.Shell.{RoleObject, Shell, XdgSurface, xdg_at, xdg_of}
use Rattle.spec_desktop.specs.Stacking.{Owned}
use Rattle.spec_desktop.specs.Demand.{EndPopup}
use Rattle.spec_desktop.specs.WlSubsurface.{refuses}
use Rattle.law_desktop.specs.Owning.{IsOwned, IsXdg, Names, asks_by, by_number, number_in, shell_refusal}
use Rattle.law_desktop.specs.OwnedPopups.{EndAsked, IsNext, NextDismissed, NextIs}
use Rattle.law_desktop.specs.Twins.{IsKeptByNumbers, by_numbers}
use Rattle.law_desktop.proofs.Keeping.OwningSurfaces.{surface-named, surface-read}
use Rattle.law_desktop.proofs.Keeping.OwningTies.{named-there, number-of-name}
use Rattle.law_desktop.proofs.Keeping.OwningXdg.{xdg-named}
use Rattle.law_desktop.proofs.OwnedPopups.Renamed.{any-renamed, dismissing-renamed, has-renamed, next-renamed, order-renamed, undismissed-renamed}
use Rattle.law_desktop.proofs.Twins.{kept-by-numbers}

-- ---- the parent of a popup, under other names of the surfaces

first-renamed : (f : ℕ → ℕ) (ps : List Popped) → first_of (map (renamed_popped f) ps) ≡ option_map (renamed_popped f) (first_of ps)
first-renamed f [] = refl
first-renamed f (p ∷ ps) = refl

popup-renamed : (f : ℕ → ℕ) (xdg : ℕ) (shell : Shell) → popup_at xdg (renamed_shell f shell) ≡ option_map (renamed_popped f) (popup_at xdg shell)
popup-renamed f xdg shell = ap (option_and_then (λ (x : XdgSurface). first_of (popped_of x))) (xdg-renamed f xdg shell) ∙ at (xdg_at xdg shell)
  where
    at : (o : Option XdgSurface)
        → option_and_then (λ (x : XdgSurface). first_of (popped_of x)) (option_map (renamed_xdg f) o) ≡ option_map (renamed_popped f) (option_and_then (λ (x : XdgSurface). first_of (popped_of x)) o)
    at None = refl
    at (Some x) = ap first_of (popped-renamed f x) ∙ first-renamed f (popped_of x)

allows-renamed : (f : ℕ → ℕ) (ps : List Popped) (b : Bool) → allows_grab (map (renamed_popped f) ps) b ≡ allows_grab ps b
allows-renamed f [] b = refl
allows-renamed f (p ∷ ps) b = refl

allowed-renamed : (f : ℕ → ℕ) (o : Option XdgSurface) → is_grab_allowed (option_map (renamed_xdg f) o) ≡ is_grab_allowed o
allowed-renamed f None = refl
allowed-renamed f (Some x) = ap (λ (ps : List Popped). allows_grab ps (is_some x.role)) (popped-renamed f x) ∙ allows-renamed f (popped_of x) (is_some x.role)

parents-renamed : (f : ℕ → ℕ) (shell : Shell) (p : Option Popped)
    → is_grab_allowed (option_and_then (parent_of (renamed_shell f shell)) (option_map (renamed_popped f) p)) ≡ is_grab_allowed (option_and_then (parent_of shell) p)
parents-renamed f shell None = refl
parents-renamed f shell (Some p) = at p.popup.parent
  where
    at : (parent : Option ℕ) → is_grab_allowed (option_and_then (λ parent. xdg_at parent (renamed_shell f shell)) parent) ≡ is_grab_allowed (option_and_then (λ parent. xdg_at parent shell) parent)
    at None = refl
    at (Some id) = ap is_grab_allowed (xdg-renamed f id shell) ∙ allowed-renamed f (xdg_at id shell)

-- ---- what is kept of a client

abbrev pub has_grab : Popped → Bool
has_grab p = p.popup.has_grab

module _ (names : Names) (slots : Slots) (tied : Tied) (book : Book) (o : Owned) (found : AreFound book) (is : IsOwned names slots tied (kept_of book) o) where
  abbrev f : ℕ → ℕ
  f = number_in names.surfaces

  abbrev shell : Shell
  shell = renamed_shell f o.shell

  abbrev histories : ℕ → Option History
  histories number = history_in number (by_numbers names o).surfaces

  twin : IsKeptByNumbers names slots tied (kept_of book) o
  twin = kept-by-numbers names slots tied (kept_of book) o is

  there : (id number : ℕ) → names.surfaces id ≡ Some number → has_surface id o.surfaces ≡ true
  there id number named = sym (is.surfaces.numbered id) ∙ ap is_some named

  numbered : (id number : ℕ) → names.surfaces id ≡ Some number → xdg_of number shell ≡ option_map (renamed_xdg f) (xdg_of id o.shell)
  numbered id number named =
      ap (λ n. xdg_of n shell) (sym (number-of-name names.surfaces id number named))
      ∙ of-renamed f o twin.renames o.shell (each-there f o twin.renames) id (there id number named)

  module _ (number : ℕ) (k : Kept) (x : XdgSurface) (h : History) (one : IsXdg names (kept_of book) o number k x h) where
    here : xdg_of number shell ≡ Some (renamed_xdg f x)
    here = numbered x.surface number one.surface ∙ ap (option_map (renamed_xdg f)) one.of_surface

    -- a living popup has it as its parent
    pub child-found : has_child book (kept_of book number) ≡ is_parent x.id o.shell
    child-found =
        shells_find.children number book histories shell found twin.shell
        ∙ ap (λ (y : Option XdgSurface). option_map_or (λ x. is_parent x.id shell) y false) here
        ∙ ap (λ (ps : List Popped). list_any (λ p. is_parent_of x.id p.popup) ps) (popups-named f o.shell)
        ∙ any-renamed f (λ p. is_parent_of x.id p.popup) (λ p. refl) (popups_of o.shell)

    -- the parent of its popup is a toplevel, or a popup with a grab
    pub allowed-found : parent_allows book (kept_of book number) ≡ is_grab_allowed (option_and_then (parent_of o.shell) (popup_at x.id o.shell))
    allowed-found =
        shells_find.grabbers number book histories shell found twin.shell
        ∙ ap (λ (y : Option XdgSurface). is_grab_allowed (option_and_then (parent_in shell) y)) here
        ∙ ap (λ (p : Option Popped). is_grab_allowed (option_and_then (parent_of shell) p)) (popup-renamed f x.id o.shell)
        ∙ parents-renamed f o.shell (popup_at x.id o.shell)

  -- ---- and back

  abbrev g : ℕ → ℕ
  g number = option_map_or (λ (s : Surface). s.id) (by_number names.surfaces o.surfaces number) 0

  back : (id number : ℕ) → names.surfaces id ≡ Some number → g number ≡ id
  back id number named =
      let one = surface-named names.surfaces slots tied o.surfaces is.surfaces id number named in
      ap (λ (s : Option Surface). option_map_or (λ (s : Surface). s.id) s 0) (surface-read names.surfaces slots tied o.surfaces is.surfaces id number named ∙ one.1) ∙ one.2

  xdg-back : (x : XdgSurface) → has_surface x.surface o.surfaces ≡ true → renamed_xdg g (renamed_xdg f x) ≡ x
  xdg-back x here = ap (λ (s : ℕ). record x { surface = s }) (back x.surface (f x.surface) (named-there names.surfaces o.surfaces is.surfaces.numbered is.surfaces.once x.surface here))

  all-back : (xs : Shell) → Each (IsThere f o twin.renames) xs → map (renamed_xdg g) (map (renamed_xdg f) xs) ≡ xs
  all-back [] each = refl
  all-back (x ∷ xs) each = ap₂ (λ (y : XdgSurface) (ys : Shell). y ∷ ys) (xdg-back x each.0) (all-back xs each.1)

  shell-back : renamed_shell g shell ≡ o.shell
  shell-back = all-back o.shell (each-there f o twin.renames)

  -- ---- the popup that goes next

  some-map : (o : Option XdgSurface) (y : XdgSurface) → option_map (renamed_xdg f) o ≡ Some y → (x : XdgSurface) × (o ≡ Some x) × (renamed_xdg f x ≡ y)
  some-map None y e = absurd (none-some y e)
  some-map (Some x) y e = (x, refl, same_Some (renamed_xdg f x) y e)

  role-known : (k : Option Kept) (k' : Kept) (p : Popped) → k ≡ Some k' → k'.role ≡ Some p.object
      → option_and_then (λ (k : Kept). option_map (λ (object : RoleObject). object.id) k.role) k ≡ Some p.object.id
  role-known k k' p e role =
      ap (option_and_then (λ (k : Kept). option_map (λ (object : RoleObject). object.id) k.role)) e ∙ ap (option_map (λ (object : RoleObject). object.id)) role

  next-by : (goes : Popped → Bool) → ((f : ℕ → ℕ) (p : Popped) → goes (renamed_popped f p) ≡ goes p) → (gone : ℕ) (p : Popped) → IsNextToGo goes shell gone p
      → (q : Popped) × IsNext names (kept_of book) goes o.shell gone q
  next-by goes same_goes gone p next =
      let kept = kept-for (kept_of book) histories shell twin.shell gone p.xdg next.only.found in
      let known = is.known gone (ap is_some kept.2) in
      let id = known.0 in
      let own = some-map (xdg_of id o.shell) p.xdg (sym (numbered id gone known.1) ∙ next.only.found) in
      let x = own.0 in
      let surface : x.surface ≡ id = found-surface id o.shell x own.1 in
      let same : renamed_xdg g p.xdg ≡ x = ap (renamed_xdg g) (sym own.2) ∙ xdg-back x (there x.surface gone (ap names.surfaces surface ∙ known.1)) in
      let q = renamed_popped g p in
      let named : names.surfaces q.xdg.surface ≡ Some gone = ap (λ (y : XdgSurface). names.surfaces y.surface) same ∙ ap names.surfaces surface ∙ known.1 in
      let of : xdg_of q.xdg.surface o.shell ≡ Some q.xdg =
      ap (λ (y : XdgSurface). xdg_of y.surface o.shell) same ∙ ap (λ i. xdg_of i o.shell) surface ∙ own.1 ∙ ap (λ (y : XdgSurface). Some y) (sym same) in
      let only : IsOnly o.shell q.xdg.surface q = record { found = of; its = popped-renamed g p.xdg ∙ ap (map (renamed_popped g)) next.only.its } in (
        q,
        record {
          surface = named;
          object = role-known (kept_of book gone) kept.0 p kept.2 (kept.3.stands.role ∙ role-of p.xdg p next.only.its);
          next =
              subst (λ (s : Shell). IsNextToGo goes s q.xdg.surface q) shell-back
              (next-renamed g goes (same_goes g) shell gone q.xdg.surface p (subst (λ (s : Shell). IsOnly s q.xdg.surface q) (sym shell-back) only) next);
        },
      )

  next-of : (goes : Popped → Bool) → ((f : ℕ → ℕ) (p : Popped) → goes (renamed_popped f p) ≡ goes p) → (result : Option ℕ) → GoesNext goes shell result
      → NextIs names (kept_of book) goes o.shell result
  next-of goes same_goes None next = (
    ap (λ (s : Shell). undismissed goes s) (sym shell-back) ∙ undismissed-renamed g goes (same_goes g) shell ∙ ap (map (renamed_popped g)) next.0,
    ap (λ (s : Shell). dismissing goes s) (sym shell-back) ∙ dismissing-renamed g goes (same_goes g) shell ∙ ap (renamed_shell g) next.1 ∙ shell-back,
  )
  next-of goes same_goes (Some gone) next = next-by goes same_goes gone next.0 next.1

  -- what the shell dismisses next of those with a grab is what goes next
  pub next-grabbing : (result : Option ℕ) → HasOrder o.shell → IsNewest (dismissible_grabbing book) (kept_of book) result → NextIs names (kept_of book) has_grab o.shell result
  next-grabbing result order newest =
      next-of has_grab (λ f p. refl) result (popups_follow.grabbing result book histories shell found twin.shell (order-renamed f o.shell order) newest)

pub end-asked : EndAsked
end-asked names slots tied book r number k x h object found is one =
    at (is_parent x.id r.owned.shell)
    ∙ ap (λ b. asks_by {X = Unit {0}} (λ u. EndPopup object x.id) (shell_refusal x.base x.id object) (popup_destruction b))
    (sym (child-found names slots tied book r.owned found is number k x h one))
  where
    at : (b : Bool) → (if b then refuses x.base error.NotTheTopmostPopup else Ok (EndPopup object x.id))
        ≡ asks_by {X = Unit {0}} (λ u. EndPopup object x.id) (shell_refusal x.base x.id object) (popup_destruction b)
    at true = refl
    at false = refl

pub next-dismissed : NextDismissed
next-dismissed names slots tied book o xdg number result found is order named newest =
    let t = xdg-named names slots tied (kept_of book) o is xdg number named in
    let x = t.1 in
    let f = number_in names.surfaces in
    let shell = renamed_shell f o.shell in
    let goes = popups_follow.next number (renamed_xdg f x) result book (histories names slots tied book o found is) shell found (twin names slots tied book o found is).shell
    (order-renamed f o.shell order)
    (here names slots tied book o found is number t.0 x t.2 t.3) newest in
    next-of names slots tied book o found is (goes_with (has_popup_at xdg o.shell) xdg) (λ f p. refl) result
    (subst (λ (b : Bool). GoesNext (goes_with b xdg) shell result) (has-renamed f xdg o.shell)
    (subst (λ (i : ℕ). GoesNext (goes_with (has_popup_at i shell) i) shell result) t.5 goes))
