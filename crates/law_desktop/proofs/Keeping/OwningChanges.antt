-- What is kept of what a client owns goes on standing for it.
use Rattle.std.proofs.Common.{◌≡◌, ◌≢◌, ℕ, ◌+◌, ◌≤◌, Bool, true, false, Option, Some, None, cond, length, refl, ap, sym, subst, ◌∙◌, arith, eq-eqb}
use Rattle.std.specs.Prelude.{◌==◌, find, is_some, not}
use Rattle.std.specs.Option.{option_and_then, option_map}
use Rattle.std.proofs.Math.Path.{fun_ext}
use Rattle.std.proofs.lemmas.Bool.{eqb-false, eqb-true, ne_eqb, true≢false}
use Rattle.std.proofs.lemmas.Option.{none-some, same_Some}
use Rattle.spec_desktop.specs.Objects.{ById, with_id}
use Rattle.wl_surface.specs.Kept.{Kept as KeptSurface}
use Rattle.wl_links.specs.Family.{Tied}
use Rattle.wl_surface.specs.Slots.{Numbered, Slots, StandForAll, StandsAt, kept_at, with_at, count as count_kept}
use Rattle.wl_surface.specs.State.{History}
use Rattle.wl_surface.specs.Surface.{Surface, new_surface}
use Rattle.wl_surface.specs.Surfaces.{Surfaces, history_in, surface_at, with_new}
use Rattle.wl_shell.specs.Agreement.{IsKept, IsShell, with_history}
use Rattle.wl_shell.specs.Kept.{Kept, Stands, changing, first_kept, with_kept}
use Rattle.wl_shell.specs.Shell.{RoleObject, Shell, XdgSurface, is_role, with_change, without_xdg, xdg_at, xdg_of, xdg_with, with_new as with_new_xdg}
use Rattle.wl_shell.proofs.Agreeing.{newest}
use Rattle.wl_shell.proofs.Shells.{shells_stand}
use Rattle.spec_desktop.specs.Stacking.{Owned}
use Rattle.law_desktop.specs.Owning.{AreKept, IsOwned, IsXdg, KeepsRole, Names, by_id, by_number, number_of, with_surface, with_toplevel, with_xdg}
use Rattle.law_desktop.specs.Apart.{AreApartBy}
use Rattle.law_desktop.proofs.Lists.Keys.{apart-left, apart-map, changed-apart, changed-elsewhere, changed-gone, changed-here, found-map, gone, left-elsewhere, new-apart, new-elsewhere}
use Rattle.law_desktop.proofs.Lists.Keys.{new-here}
use Rattle.law_desktop.proofs.Keeping.OwningNames.{with_id-other}
use Rattle.law_desktop.proofs.Keeping.OwningSurfaces.{AreKept-made, surface-absent, surface-named, surface-read, unnumbered}
use Rattle.law_desktop.proofs.Keeping.OwningXdg.{by_id-changing, by_id-with, has_role, histories-made, toplevel-unnamed, xdg-found, xdg-kept-none, xdg-of-nobody, xdg-unnamed}
use Rattle.law_desktop.proofs.Keeping.OwningXdg.{xdgs-apart}
use Rattle.law_desktop.proofs.KeptRecords.Keeping.OwningXdg.{has_surface, has_xdg}

-- ---- what is kept of nobody stays

pub changing-none : (number : ℕ) (change : Kept → Kept) (kept : ℕ → Option Kept) → kept number ≡ None → changing number change kept ≡ kept
changing-none number change kept none = fun_ext (λ other. at other (other == number) refl)
  where
    at : (other : ℕ) (b : Bool) → (other == number) ≡ b → cond b (option_map change (kept number)) (kept other) ≡ kept other
    at other true here = ap (option_map change) none ∙ sym (ap kept (eqb-true other number here) ∙ none)
    at other false here = refl

-- the same numbers of a surface are read
same-number : (a b : ById ℕ) (o : Option XdgSurface) → ((x : XdgSurface) → o ≡ Some x → a x.surface ≡ b x.surface) → number_of a o ≡ number_of b o
same-number a b None same = refl
same-number a b (Some x) same = same x refl

-- the surface of what changes is the same
pub number-kept : (numbers : ById ℕ) (f : XdgSurface → XdgSurface) (o : Option XdgSurface) → ((x : XdgSurface) → (f x).surface ≡ x.surface) → number_of numbers (option_map f o) ≡ number_of numbers o
number-kept numbers f None keeps = refl
number-kept numbers f (Some x) keeps = ap numbers (keeps x)

-- the cut is within the list
cut-within : (k : Option KeptSurface) (at : Option Surface) (h : History) → StandsAt k at → option_map (λ (s : Surface). s.history) at ≡ Some h → h.cut ≤ length h.requests
cut-within None None h stands there = absurd (cc)
cut-within None (Some s) h stands there = absurd stands
cut-within (Some k) None h stands there = absurd stands
cut-within (Some k) (Some s) h stands there =
    let first = stands.history.cut_within in
    let second = stands.history.commits_within in
    let all : s.history.cut ≤ length s.history.requests = omega (arith, first, second) in
    subst (λ (g : History). g.cut ≤ length g.requests) (same_Some s.history h there) all

-- of each surface that has an xdg_surface both say the same
abbrev pub AgreeFor : Shell → (ℕ → Option History) → (ℕ → Option History) → Type 0
AgreeFor shell histories others = (surface : ℕ) → is_some (xdg_of surface shell) ≡ true → histories surface ≡ others surface

-- what is kept of xdg_surfaces heeds the histories of no other surfaces
pub shell-agrees : (kept : ℕ → Option Kept) (histories others : ℕ → Option History) (shell : Shell) → AgreeFor shell histories others → IsShell kept histories shell → IsShell kept others shell
shell-agrees kept histories others shell agree is = record { each = λ surface. at surface (kept surface) (xdg_of surface shell) refl (is.each surface); apart = is.apart }
  where
    at : (surface : ℕ) (k : Option Kept) (x : Option XdgSurface) → xdg_of surface shell ≡ x → IsKept k x (histories surface) → IsKept k x (others surface)
    at surface None None here t = tt
    at surface (Some k) None here t = absurd t
    at surface None (Some x) here t = absurd t
    at surface (Some k) (Some x) here t = subst (λ (h : Option History). IsKept (Some k) (Some x) h) (agree surface (ap is_some here)) t

pub agree-same : (shell : Shell) (histories others : ℕ → Option History) → others ≡ histories → AgreeFor shell histories others
agree-same shell histories others same = λ surface has. sym (ap (λ (hs : ℕ → Option History). hs surface) same)

module _ (names : Names) (slots : Slots) (tied : Tied) (kept : ℕ → Option Kept) (o : Owned) (is : IsOwned names slots tied kept o) where
  -- ---- surfaces

  -- all is as it was but of a surface without an xdg_surface
  pub agree-but : (id : ℕ) (h : Option History) → xdg_of id o.shell ≡ None → (histories : ℕ → Option History) → histories ≡ with_history id h (λ other. history_in other o.surfaces)
      → AgreeFor o.shell (λ other. history_in other o.surfaces) histories
  agree-but id h none histories same = λ surface has. at surface has (surface == id) refl ∙ sym (ap (λ (hs : ℕ → Option History). hs surface) same)
    where
      at : (surface : ℕ) → is_some (xdg_of surface o.shell) ≡ true → (b : Bool) → (surface == id) ≡ b → history_in surface o.surfaces ≡ cond b h (history_in surface o.surfaces)
      at surface has true here = absurd (true≢false (sym has ∙ ap (λ i. is_some (xdg_of i o.shell)) (eqb-true surface id here) ∙ ap is_some none))
      at surface has false here = refl

  -- other numbers of surfaces, by which what is kept of the xdg_surfaces is the same
  pub renumbered : (numbers : ById ℕ) (new : Slots) (tying : Tied) (all : Surfaces) → AreKept numbers new tying all
      → AgreeFor o.shell (λ other. history_in other o.surfaces) (λ other. history_in other all)
      → by_id numbers kept ≡ by_id names.surfaces kept → ((x : XdgSurface) → names.surfaces x.surface ≢ None → xdg_of x.surface o.shell ≡ Some x → names.surfaces x.surface ≡ numbers x.surface)
      → ((number : ℕ) → is_some (kept number) ≡ true → (id : ℕ) × (numbers id ≡ Some number))
      → IsOwned (record names { surfaces = numbers }) new tying kept (record o { surfaces = all })
  renumbered numbers new tying all are histories same reads known = record {
    surfaces = are;
    shell =
        subst (λ (ks : ℕ → Option Kept). IsShell ks (λ other. history_in other all) o.shell) (sym same)
        (shell-agrees (by_id names.surfaces kept) (λ other. history_in other o.surfaces) (λ other. history_in other all) o.shell histories is.shell);
    known = known;
    named = λ other. is.named other ∙ same-number names.surfaces numbers (xdg_at other o.shell) (reads-by (has_xdg other));
    toplevels = λ other. is.toplevels other ∙ same-number names.surfaces numbers (xdg_with other o.shell) (reads-by (has_role other));
    roles = is.roles;
  }
    where
      reads-by : (p : XdgSurface → Bool) (x : XdgSurface) → find p o.shell ≡ Some x → names.surfaces x.surface ≡ numbers x.surface
      reads-by p x found =
          let one = xdg-found names slots tied kept o is p x found in
          reads x (λ none. none-some one.0 (sym none ∙ one.3.surface)) one.3.of_surface

  -- one comes
  pub IsOwned-made : (id number : ℕ) (new : Slots) → names.surfaces id ≡ None → ((named : Numbered) (id : ℕ) → StandForAll slots named → (named number ≡ None)
      × StandForAll new (with_at number (Some (new_surface id)) named)) → count_kept new ≡ count_kept slots + 1
      → IsOwned (with_surface id (Some number) names) new tied kept (record o { surfaces = with_new id o.surfaces })
  IsOwned-made id number new free created counted =
      renumbered (with_id id (Some number) names.surfaces) new tied (with_new id o.surfaces)
      (AreKept-made names.surfaces slots tied o.surfaces is.surfaces id number free new created counted)
      (agree-but id (Some (new_surface id).history) (xdg-of-nobody names slots tied kept o is id free) (λ other. history_in other (with_new id o.surfaces))
      (histories-made id o.surfaces (surface-absent names.surfaces slots tied o.surfaces is.surfaces id free)))
      (fun_ext (λ other. same other (other == id) refl))
      (λ x there found. sym (with_id-other id x.surface (Some number) names.surfaces (ne_eqb x.surface id (λ e. there (ap names.surfaces e ∙ free)))))
      (λ other some. let was = is.known other some in
      (was.0, with_id-other id was.0 (Some number) names.surfaces (ne_eqb was.0 id (λ e. none-some other (sym free ∙ ap names.surfaces (sym e) ∙ was.1))) ∙ was.1))
    where
      nobody : kept number ≡ None
      nobody = at (kept number) refl
        where
          at : (k : Option Kept) → kept number ≡ k → k ≡ None
          at None e = refl
          at (Some k) e = let was = is.known number (ap is_some e) in absurd (unnumbered names.surfaces slots tied o.surfaces is.surfaces id number free new created was.0 was.1)

      same : (other : ℕ) (b : Bool) → (other == id) ≡ b → option_and_then kept (cond b (Some number) (names.surfaces other)) ≡ option_and_then kept (names.surfaces other)
      same other true here = nobody ∙ sym (ap (option_and_then kept) (ap names.surfaces (eqb-true other id here) ∙ free))
      same other false here = refl

  -- one without an xdg_surface goes
  pub IsOwned-left : (id number : ℕ) (new : Slots) (without : Tied) (all : Surfaces) → names.surfaces id ≡ Some number → xdg_of id o.shell ≡ None
      → AreKept (with_id id None names.surfaces) new without all → AgreeFor o.shell (λ other. history_in other o.surfaces) (λ other. history_in other all)
      → IsOwned (with_surface id None names) new without kept (record o { surfaces = all })
  IsOwned-left id number new without all named none_of are histories =
      renumbered (with_id id None names.surfaces) new without all are histories
      (fun_ext (λ other. same other (other == id) refl))
      (λ x there found. sym (with_id-other id x.surface None names.surfaces (ne_eqb x.surface id (λ e. none-some x (sym none_of ∙ ap (λ i. xdg_of i o.shell) (sym e) ∙ found)))))
      (λ other some. let was = is.known other some in
      (was.0, with_id-other id was.0 None names.surfaces (ne_eqb was.0 id (λ e. away other some (same_Some other number (sym was.1 ∙ ap names.surfaces e ∙ named)))) ∙ was.1))
    where
      nobody : kept number ≡ None
      nobody = xdg-kept-none names slots tied kept o is id number named none_of

      away : (other : ℕ) → is_some (kept other) ≡ true → other ≡ number → ⊥
      away other some same = true≢false (sym some ∙ ap (λ n. is_some (kept n)) same ∙ ap is_some nobody)

      same : (other : ℕ) (b : Bool) → (other == id) ≡ b → option_and_then kept (cond b None (names.surfaces other)) ≡ option_and_then kept (names.surfaces other)
      same other true here = sym (ap (option_and_then kept) (ap names.surfaces (eqb-true other id here) ∙ named) ∙ nobody)
      same other false here = refl

  -- one has another history, which what is kept of its xdg_surface stands for too
  pub IsOwned-history : (id : ℕ) (h g : History) (new : Slots) (tying : Tied) (all : Surfaces) → AreKept names.surfaces new tying all → history_in id o.surfaces ≡ Some h
      → AgreeFor o.shell (with_history id (Some g) (λ other. history_in other o.surfaces)) (λ other. history_in other all)
      → ((k : Kept) (x : XdgSurface) → Stands k x h → Stands k x g) → IsOwned names new tying kept (record o { surfaces = all })
  IsOwned-history id h g new tying all are there histories stands = record {
    surfaces = are;
    shell =
        shell-agrees (by_id names.surfaces kept) (with_history id (Some g) (λ other. history_in other o.surfaces)) (λ other. history_in other all) o.shell histories
        (record { each = λ other. at other (other == id) refl; apart = is.shell.apart });
    known = is.known;
    named = is.named;
    toplevels = is.toplevels;
    roles = is.roles;
  }
    where
      moved : (k : Option Kept) (x : Option XdgSurface) → IsKept k x (Some h) → IsKept k x (Some g)
      moved None None t = tt
      moved None (Some x) t = absurd t
      moved (Some k) None t = absurd t
      moved (Some k) (Some x) t = stands k x t

      at : (other : ℕ) (b : Bool) → (other == id) ≡ b → IsKept (by_id names.surfaces kept other) (xdg_of other o.shell) (cond b (Some g) (history_in other o.surfaces))
      at other true here =
          moved (by_id names.surfaces kept other) (xdg_of other o.shell)
          (subst (λ (x : Option History). IsKept (by_id names.surfaces kept other) (xdg_of other o.shell) x) (ap (λ i. history_in i o.surfaces) (eqb-true other id here)
          ∙ there) (is.shell.each other))
      at other false here = is.shell.each other

  -- ---- an xdg_surface changes

  module _ (number : ℕ) (k : Kept) (x : XdgSurface) (h : History) (one : IsXdg names kept o number k x h) where
    known-after : (change : Kept → Kept) (other : ℕ) → is_some (changing number change kept other) ≡ true → (id : ℕ) × (names.surfaces id ≡ Some other)
    known-after change other some = at (other == number) refl some
      where
        at : (b : Bool) → (other == number) ≡ b → is_some (cond b (option_map change (kept number)) (kept other)) ≡ true → (id : ℕ) × (names.surfaces id ≡ Some other)
        at true here some = (x.surface, one.surface ∙ ap Some (sym (eqb-true other number here)))
        at false here some = is.known other some

    abbrev stepped : (XdgSurface → XdgSurface) → XdgSurface → XdgSurface
    stepped step y = cond (y.id == x.id) (step y) y

    stepped-keeps : {X : Type 0} (f : XdgSurface → X) (step : XdgSurface → XdgSurface) → ((y : XdgSurface) → f (step y) ≡ f y) → (y : XdgSurface) → f (stepped step y) ≡ f y
    stepped-keeps f step keeps y = at (y.id == x.id)
      where
        at : (b : Bool) → f (cond b (step y) y) ≡ f y
        at true = keeps y
        at false = refl

    -- the same surfaces have one
    still-have : (step : XdgSurface → XdgSurface) → ((y : XdgSurface) → (step y).surface ≡ y.surface) → (surface : ℕ)
        → is_some (xdg_of surface (with_change x.id step o.shell)) ≡ is_some (xdg_of surface o.shell)
    still-have step keeps_surface surface =
        ap is_some (found-map (has_surface surface) (stepped step) o.shell (λ y. ap (λ i. i == surface) (stepped-keeps (λ z. z.surface) step keeps_surface y)))
        ∙ at (xdg_of surface o.shell)
      where
        at : (y : Option XdgSurface) → is_some (option_map (stepped step) y) ≡ is_some y
        at None = refl
        at (Some y) = refl

    shell-after : (change : Kept → Kept) (step : XdgSurface → XdgSurface) (g : History) (all : Surfaces) → ((y : XdgSurface) → (step y).id ≡ y.id) → ((y : XdgSurface) → (step y).surface ≡ y.surface)
        → AgreeFor o.shell (with_history x.surface (Some g) (λ other. history_in other o.surfaces)) (λ other. history_in other all) → Stands (change k) (step x) g
        → IsShell (by_id names.surfaces (changing number change kept)) (λ other. history_in other all) (with_change x.id step o.shell)
    shell-after change step g all keeps_id keeps_surface histories stands =
        shell-agrees (by_id names.surfaces (changing number change kept)) (with_history x.surface (Some g) (λ other. history_in other o.surfaces)) (λ other. history_in other all)
        (with_change x.id step o.shell) (λ surface has. histories surface (sym (still-have step keeps_surface surface) ∙ has))
        (subst (λ (ks : ℕ → Option Kept). IsShell ks (with_history x.surface (Some g) (λ other. history_in other o.surfaces)) (with_change x.id step o.shell))
        (sym (by_id-changing names.surfaces is.surfaces.once x.surface number one.surface change kept))
        (shells_stand.changed x.surface change step k x g (by_id names.surfaces kept) (λ other. history_in other o.surfaces) o.shell keeps_id keeps_surface is.shell
        (ap (option_and_then kept) one.surface ∙ one.here) one.of_surface stands))

    named-after : (step : XdgSurface → XdgSurface) → ((y : XdgSurface) → (step y).id ≡ y.id) → ((y : XdgSurface) → (step y).surface ≡ y.surface) → (other : ℕ)
        → names.shell other ≡ number_of names.surfaces (xdg_at other (with_change x.id step o.shell))
    named-after step keeps_id keeps_surface other =
        is.named other
        ∙ sym (ap (number_of names.surfaces) (found-map (has_xdg other) (stepped step) o.shell (λ y. ap (λ i. i == other) (stepped-keeps (λ z. z.id) step keeps_id y)))
        ∙ number-kept names.surfaces (stepped step) (xdg_at other o.shell) (stepped-keeps (λ z. z.surface) step keeps_surface))

    -- its role object stays
    pub IsOwned-stepped : (change : Kept → Kept) (step : XdgSurface → XdgSurface) (g : History) (new : Slots) (tying : Tied) (all : Surfaces) → KeepsRole step → AreKept names.surfaces new tying all
        → AgreeFor o.shell (with_history x.surface (Some g) (λ other. history_in other o.surfaces)) (λ other. history_in other all) → Stands (change k) (step x) g
        → IsOwned names new tying (changing number change kept) (record { surfaces = all; shell = with_change x.id step o.shell })
    IsOwned-stepped change step g new tying all keeps are histories stands = record {
      surfaces = are;
      shell = shell-after change step g all keeps.id keeps.surface histories stands;
      known = known-after change;
      named = named-after step keeps.id keeps.surface;
      toplevels = λ other.
          is.toplevels other
          ∙ sym (ap (number_of names.surfaces) (found-map (has_role other) (stepped step) o.shell (stepped-keeps (has_role other) step (keeps.role other)))
          ∙ number-kept names.surfaces (stepped step) (xdg_with other o.shell) (stepped-keeps (λ z. z.surface) step keeps.surface));
      roles = apart-map has_role (stepped step) o.shell (λ other. stepped-keeps (has_role other) step (keeps.role other)) is.roles;
    }

    -- it gets a toplevel
    pub IsOwned-toplevel : (id : ℕ) (change : Kept → Kept) (step : XdgSurface → XdgSurface) (object : RoleObject) (g : History) (new : Slots) (all : Surfaces) → ((y : XdgSurface)
        → (step y).id ≡ y.id)
        → ((y : XdgSurface) → (step y).surface ≡ y.surface)
        → x.role ≡ None → (step x).role ≡ Some object → object.id ≡ id → names.toplevels id ≡ None → AreKept names.surfaces new tied all
        → AgreeFor o.shell (with_history x.surface (Some g) (λ other. history_in other o.surfaces)) (λ other. history_in other all) → Stands (change k) (step x) g
        → IsOwned (with_toplevel id (Some number) names) new tied (changing number change kept) (record { surfaces = all; shell = with_change x.id step o.shell })
    IsOwned-toplevel id change step object g new all keeps_id keeps_surface was now it free are histories stands = record {
      surfaces = are;
      shell = shell-after change step g all keeps_id keeps_surface histories stands;
      known = known-after change;
      named = named-after step keeps_id keeps_surface;
      toplevels = λ other. at other (other == id) refl;
      roles = changed-apart has_xdg x.id x step has_role o.shell apart one.at_id is.roles
          (λ other here. ap (λ i. xdg_with i o.shell) (sym (eqb-true object.id other (sym (ap (is_role other) now) ∙ here)) ∙ it) ∙ none);
    }
      where
        apart : AreApartBy has_xdg o.shell
        apart = xdgs-apart names slots tied kept o is

        none : xdg_with id o.shell ≡ None
        none = toplevel-unnamed names slots tied kept o is id free

        at : (other : ℕ) (b : Bool) → (other == id) ≡ b → cond b (Some number) (names.toplevels other) ≡ number_of names.surfaces (xdg_with other (with_change x.id step o.shell))
        at other true here =
            let same = eqb-true other id here in
            sym (ap (number_of names.surfaces) (changed-here has_xdg x.id x step (has_role other) o.shell apart one.at_id (ap (λ i. xdg_with i o.shell) same ∙ none) (ap (is_role other) now
            ∙ eq-eqb object.id other (it ∙ sym same)))
            ∙ ap names.surfaces (keeps_surface x) ∙ one.surface)
        at other false here =
            is.toplevels other
            ∙ sym (ap (number_of names.surfaces) (changed-elsewhere has_xdg x.id x step (has_role other) o.shell apart one.at_id (ap (is_role other) was) (ap (is_role other) now
            ∙ ne_eqb object.id other (λ same. eqb-false other id here (sym same ∙ it)))))

    -- its toplevel goes
    pub IsOwned-untoplevel : (id : ℕ) (change : Kept → Kept) (step : XdgSurface → XdgSurface) (g : History) (new : Slots) (all : Surfaces) → ((y : XdgSurface) → (step y).id ≡ y.id)
        → ((y : XdgSurface) → (step y).surface ≡ y.surface)
        → is_role id x.role ≡ true → (step x).role ≡ None → AreKept names.surfaces new tied all
        → AgreeFor o.shell (with_history x.surface (Some g) (λ other. history_in other o.surfaces)) (λ other. history_in other all) → Stands (change k) (step x) g
        → IsOwned (with_toplevel id None names) new tied (changing number change kept) (record { surfaces = all; shell = with_change x.id step o.shell })
    IsOwned-untoplevel id change step g new all keeps_id keeps_surface was now are histories stands = record {
      surfaces = are;
      shell = shell-after change step g all keeps_id keeps_surface histories stands;
      known = known-after change;
      named = named-after step keeps_id keeps_surface;
      toplevels = λ other. at other (other == id) refl;
      roles = changed-apart has_xdg x.id x step has_role o.shell apart one.at_id is.roles (λ other here. absurd (true≢false (sym here ∙ ap (is_role other) now)));
    }
      where
        apart : AreApartBy has_xdg o.shell
        apart = xdgs-apart names slots tied kept o is

        only : (other : ℕ) (object : Option RoleObject) → is_role id object ≡ true → (other == id) ≡ false → is_role other object ≡ false
        only other None it away = refl
        only other (Some object) it away = ne_eqb object.id other (λ same. eqb-false other id away (sym same ∙ eqb-true object.id id it))

        at : (other : ℕ) (b : Bool) → (other == id) ≡ b → cond b None (names.toplevels other) ≡ number_of names.surfaces (xdg_with other (with_change x.id step o.shell))
        at other true here =
            sym (ap (number_of names.surfaces) (changed-gone has_xdg x.id x step has_role other o.shell apart is.roles one.at_id (ap (λ i. is_role i x.role) (eqb-true other id here)
            ∙ was) (ap (is_role other) now)))
        at other false here =
            is.toplevels other ∙ sym (ap (number_of names.surfaces) (changed-elsewhere has_xdg x.id x step (has_role other) o.shell apart one.at_id (only other x.role was here)
            (ap (is_role other) now)))

    -- it goes, without a role object
    pub IsOwned-unshelled : x.role ≡ None → IsOwned (with_xdg x.id None names) slots tied (with_kept number None kept) (record o { shell = without_xdg x.id o.shell })
    IsOwned-unshelled bare = record {
      surfaces = is.surfaces;
      shell =
          subst (λ (ks : ℕ → Option Kept). IsShell ks (λ other. history_in other o.surfaces) (without_xdg x.id o.shell))
          (sym (by_id-with names.surfaces is.surfaces.once x.surface number one.surface None kept))
          (shells_stand.gone x.surface x (by_id names.surfaces kept) (λ other. history_in other o.surfaces) o.shell is.shell one.of_surface);
      known = λ other some. known other (other == number) refl some;
      named = λ other. at other (other == x.id) refl;
      toplevels = λ other. is.toplevels other ∙ sym (ap (number_of names.surfaces) (left-elsewhere has_xdg x.id x (has_role other) o.shell apart one.at_id (ap (is_role other) bare)));
      roles = apart-left has_role (λ y. not (y.id == x.id)) o.shell is.roles;
    }
      where
        apart : AreApartBy has_xdg o.shell
        apart = xdgs-apart names slots tied kept o is

        known : (other : ℕ) (b : Bool) → (other == number) ≡ b → is_some (cond b None (kept other)) ≡ true → (id : ℕ) × (names.surfaces id ≡ Some other)
        known other true here some = absurd (true≢false (sym some))
        known other false here some = is.known other some

        at : (other : ℕ) (b : Bool) → (other == x.id) ≡ b → cond b None (names.shell other) ≡ number_of names.surfaces (xdg_at other (without_xdg x.id o.shell))
        at other true here = sym (ap (number_of names.surfaces) (ap (λ i. xdg_at i (without_xdg x.id o.shell)) (eqb-true other x.id here) ∙ gone (has_xdg x.id) o.shell))
        at other false here =
            is.named other ∙ sym (ap (number_of names.surfaces) (left-elsewhere has_xdg x.id x (has_xdg other) o.shell apart one.at_id
            (ne_eqb x.id other (λ same. eqb-false other x.id here (sym same)))))

  -- ---- an xdg_surface comes

  pub IsOwned-shelled : (id base surface number : ℕ) → names.surfaces surface ≡ Some number → kept number ≡ None → names.shell id ≡ None
      → IsOwned (with_xdg id (Some number) names) slots tied (with_kept number (Some (first_kept id base)) kept) (record o { shell = with_new_xdg id base surface o.shell })
  IsOwned-shelled id base surface number named free unnamed = record {
    surfaces = is.surfaces;
    shell =
        subst (λ (ks : ℕ → Option Kept). IsShell ks (λ other. history_in other o.surfaces) (with_new_xdg id base surface o.shell))
        (sym (by_id-with names.surfaces is.surfaces.once surface number named (Some (first_kept id base)) kept))
        (shells_stand.made id base surface there.0.history (by_id names.surfaces kept) (λ other. history_in other o.surfaces) o.shell is.shell (ap (option_and_then kept) named ∙ free) none history
        (cut-within (kept_at slots number) (by_number names.surfaces o.surfaces number) there.0.history (is.surfaces.stand number)
        (ap (option_map (λ (s : Surface). s.history)) (surface-read names.surfaces slots tied o.surfaces is.surfaces surface number named) ∙ history)));
    known = λ other some. known other (other == number) refl some;
    named = λ other. at other (other == id) refl;
    toplevels = λ other. is.toplevels other ∙ sym (ap (number_of names.surfaces) (new-elsewhere (has_role other) o.shell (newest id base surface) refl));
    roles = new-apart has_role o.shell (newest id base surface) (λ other here. absurd (cc)) is.roles;
  }
    where
      there : (s : Surface) × (surface_at surface o.surfaces ≡ Some s) × (s.id ≡ surface)
      there = surface-named names.surfaces slots tied o.surfaces is.surfaces surface number named

      history : history_in surface o.surfaces ≡ Some there.0.history
      history = ap (option_map (λ (s : Surface). s.history)) there.1

      none : xdg_at id o.shell ≡ None
      none = xdg-unnamed names slots tied kept o is id unnamed

      known : (other : ℕ) (b : Bool) → (other == number) ≡ b → is_some (cond b (Some (first_kept id base)) (kept other)) ≡ true → (i : ℕ) × (names.surfaces i ≡ Some other)
      known other true here some = (surface, named ∙ ap Some (sym (eqb-true other number here)))
      known other false here some = is.known other some

      at : (other : ℕ) (b : Bool) → (other == id) ≡ b → cond b (Some number) (names.shell other) ≡ number_of names.surfaces (xdg_at other (with_new_xdg id base surface o.shell))
      at other true here =
          let same = eqb-true other id here in
          sym (ap (number_of names.surfaces) (new-here (has_xdg other) o.shell (newest id base surface) (ap (λ i. xdg_at i o.shell) same ∙ none) (eq-eqb id other (sym same))) ∙ named)
      at other false here =
          is.named other ∙ sym (ap (number_of names.surfaces) (new-elsewhere (has_xdg other) o.shell (newest id base surface) (ne_eqb id other (λ same. eqb-false other id here (sym same)))))
