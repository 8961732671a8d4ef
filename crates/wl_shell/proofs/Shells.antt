-- What is kept of all xdg_surfaces goes on standing for them.
use Rattle.std.proofs.Common.{◌≡◌, ◌≢◌, ℕ, [], ◌∷◌, map, Bool, true, false, Option, Some, None, refl, ap, subst, sym, ◌∙◌, arith}
use Rattle.std.specs.Prelude.{◌==◌, ◌||◌, IfSome, IsSomeAnd, if◌then◌else◌}
use Rattle.std.specs.List.{list_any}
use Rattle.std.specs.Option.{option_map}
use Rattle.std.proofs.Math.Path.{fun_ext}
use Rattle.std.proofs.lemmas.Bool.{eqb-true}
use Rattle.std.proofs.lemmas.Bool.Decides.{nat_tests}
use Rattle.wl_surface.specs.State.{History}
use Rattle.wl_shell.specs.Agreement.{AreApart, IsKept, IsShell}
use Rattle.wl_shell.specs.Kept.{Kept, Stands, changing, first_kept, kept_changed, kept_repositioning, reposition_answer}
use Rattle.wl_shell.specs.Popups.{dismiss, dismissed_among, is_among, is_configured, orphan, popup_changed, repositioning}
use Rattle.wl_shell.specs.Positioner.{place}
use Rattle.wl_shell.proofs.ShellsStanding.{IsThere, kept-for}
use Rattle.wl_shell.proofs.Standing.{changes_stand}
use Rattle.wl_shell.specs.ShellLaws.{BaseRead, ChangedShell, DismissalStands, GoneShell, ManyChanged, NewShell, OrphaningStands, OtherHistory, RepositionAnswered, RepositionedShell, ShellsStand}
use Rattle.wl_shell.specs.ShellLaws.{kept_dismissed}
use Rattle.wl_shell.specs.Shell.{Shell, XdgSurface, with_change, with_new, without_xdg, xdg_at, xdg_of}
use Rattle.wl_shell.proofs.Agreeing.{changed-apart, changed-elsewhere, changed-here, differ, found-map, new-apart, new-elsewhere, new-here, newest, removed-apart, removed-elsewhere, removed-here}
use Rattle.wl_shell.proofs.Standing.{new_stands}

pub absent : (o : Option XdgSurface) (h : Option History) → IsKept None o h → o ≡ None
absent None h is = refl
absent (Some x) h is = absurd is

not_kept : (k : Option Kept) (h : Option History) → IsKept k None h → k ≡ None
not_kept None h is = refl
not_kept (Some k) h is = absurd is

new_shell : NewShell
new_shell id base surface h kept histories shell is none_kept none_at there within = record {
  each = λ other. at other (other == surface) refl;
  apart = new-apart id base surface shell none_at none_of is.apart;
}
  where
    none_of : xdg_of surface shell ≡ None
    none_of = absent (xdg_of surface shell) (histories surface) (subst (λ (k : Option Kept). IsKept k (xdg_of surface shell) (histories surface)) none_kept (is.each surface))

    here : IsKept (Some (first_kept id base)) (xdg_of surface (with_new id base surface shell)) (histories surface)
    here =
        subst (λ (o : Option XdgSurface). IsKept (Some (first_kept id base)) o (histories surface)) (sym (new-here id base surface shell none_of))
        (subst (λ (o : Option History). IsKept (Some (first_kept id base)) (Some (newest id base surface)) o) (sym there) (new_stands id base surface h within))

    at : (other : ℕ) (b : Bool) → (other == surface) ≡ b → IsKept (if b then Some (first_kept id base) else kept other) (xdg_of other (with_new id base surface shell)) (histories other)
    at other true e = subst (λ (s : ℕ). IsKept (Some (first_kept id base)) (xdg_of s (with_new id base surface shell)) (histories s)) (sym (eqb-true other surface e)) here
    at other false e = subst (λ (o : Option XdgSurface). IsKept (kept other) o (histories other)) (sym (new-elsewhere id base surface other shell (differ other surface e))) (is.each other)

changed_shell : ChangedShell
changed_shell surface change step k x h kept histories shell keeps_id keeps_surface is there found stands = record {
  each = λ other. at other (other == surface) refl;
  apart = changed-apart x.id step keeps_id keeps_surface shell is.apart;
}
  where
    here : IsKept (option_map change (kept surface)) (xdg_of surface (with_change x.id step shell)) (Some h)
    here =
        subst (λ (o : Option Kept). IsKept (option_map change o) (xdg_of surface (with_change x.id step shell)) (Some h)) (sym there)
        (subst (λ (o : Option XdgSurface). IsKept (Some (change k)) o (Some h)) (sym (changed-here x.id step keeps_id keeps_surface surface shell x found refl)) stands)

    at : (other : ℕ) (b : Bool) → (other == surface) ≡ b
        → IsKept (if b then option_map change (kept surface) else kept other) (xdg_of other (with_change x.id step shell)) (if b then Some h else histories other)
    at other true e = subst (λ (s : ℕ). IsKept (option_map change (kept surface)) (xdg_of s (with_change x.id step shell)) (Some h)) (sym (eqb-true other surface e)) here
    at other false e = subst (λ (o : Option XdgSurface). IsKept (kept other) o (histories other))
        (sym (changed-elsewhere x.id step keeps_id keeps_surface surface other shell x is.apart found refl (differ other surface e))) (is.each other)

gone_shell : GoneShell
gone_shell surface x kept histories shell is found = record {
  each = λ other. at other (other == surface) refl;
  apart = removed-apart x.id shell is.apart;
}
  where
    at : (other : ℕ) (b : Bool) → (other == surface) ≡ b → IsKept (if b then None else kept other) (xdg_of other (without_xdg x.id shell)) (histories other)
    at other true e =
        let gone : xdg_of other (without_xdg x.id shell) ≡ None = ap (λ (s : ℕ). xdg_of s (without_xdg x.id shell)) (eqb-true other surface e) ∙ removed-here surface shell x is.apart found in
        subst (λ (o : Option XdgSurface). IsKept None o (histories other)) (sym gone) tt
    at other false e = subst (λ (o : Option XdgSurface). IsKept (kept other) o (histories other)) (sym (removed-elsewhere other surface shell x is.apart found (differ other surface e)))
        (is.each other)

other_history : OtherHistory
other_history surface h kept histories shell is none_of = record { each = λ other. at other (other == surface) refl; apart = is.apart }
  where
    none_kept : kept surface ≡ None
    none_kept = not_kept (kept surface) (histories surface) (subst (λ (o : Option XdgSurface). IsKept (kept surface) o (histories surface)) none_of (is.each surface))

    here : IsKept (kept surface) (xdg_of surface shell) h
    here = subst (λ (o : Option XdgSurface). IsKept (kept surface) o h) (sym none_of) (subst (λ (k : Option Kept). IsKept k None h) (sym none_kept) tt)

    at : (other : ℕ) (b : Bool) → (other == surface) ≡ b → IsKept (kept other) (xdg_of other shell) (if b then h else histories other)
    at other true e = subst (λ (s : ℕ). IsKept (kept s) (xdg_of s shell) h) (sym (eqb-true other surface e)) here
    at other false e = is.each other

-- what is kept has the base of what it stands for
base_of : (base : ℕ) (k : Option Kept) (x : Option XdgSurface) (h : Option History) → IsKept k x h → IsSomeAnd k (λ k. k.base ≡ base) → IsSomeAnd x (λ x. x.base ≡ base)
base_of base (Some k) (Some x) (Some h) is made = sym is.base ∙ made
base_of base (Some k) (Some x) None is made = absurd is
base_of base (Some k) None h is made = absurd is
base_of base None x h is made = absurd made

base_not : (base : ℕ) (k : Option Kept) (x : XdgSurface) (h : Option History) → IsKept k (Some x) h → IfSome k (λ k. k.base ≢ base) → x.base ≢ base
base_not base (Some k) x (Some h) is none = λ same. none (is.base ∙ same)
base_not base (Some k) x None is none = absurd is
base_not base None x h is none = absurd is

any-made : (base surface : ℕ) (xs : Shell) → IsSomeAnd (xdg_of surface xs) (λ x. x.base ≡ base) → list_any (λ x. x.base == base) xs ≡ true
any-made base surface [] made = absurd made
any-made base surface (x ∷ xs) made = at (x.surface == surface) (x.base == base) refl made (any-made base surface xs)
  where
    at : (b c : Bool) → (x.base == base) ≡ c → IsSomeAnd (if b then Some x else xdg_of surface xs) (λ x. x.base ≡ base)
        → (IsSomeAnd (xdg_of surface xs) (λ x. x.base ≡ base) → list_any (λ x. x.base == base) xs ≡ true) → (c || list_any (λ x. x.base == base) xs) ≡ true
    at b true e made rest = refl
    at true false e made rest = absurd (differ x.base base e made)
    at false false e made rest = rest made

none-made : (base : ℕ) (xs : Shell) → AreApart xs → ((x : XdgSurface) → xdg_of x.surface xs ≡ Some x → x.base ≢ base) → list_any (λ x. x.base == base) xs ≡ false
none-made base [] apart none = refl
none-made base (x ∷ xs) apart none = at (x.base == base) refl (none-made base xs apart.2 (λ y found. none y (beside y found)))
  where
    beside : (y : XdgSurface) → xdg_of y.surface xs ≡ Some y → (if x.surface == y.surface then Some x else xdg_of y.surface xs) ≡ Some y
    beside y found = side (x.surface == y.surface) refl
      where
        side : (b : Bool) → (x.surface == y.surface) ≡ b → (if b then Some x else xdg_of y.surface xs) ≡ Some y
        side true e =
            let gone : xdg_of y.surface xs ≡ None = ap (λ (s : ℕ). xdg_of s xs) (sym (eqb-true x.surface y.surface e)) ∙ apart.1 in
            absurd (let clash : None ≡ Some y = sym gone ∙ found in cc)
        side false e = found

    first : (if x.surface == x.surface then Some x else xdg_of x.surface xs) ≡ Some x
    first = let same : (x.surface == x.surface) ≡ true = grind (arith, nat_tests) in ap (λ b. if b then Some x else xdg_of x.surface xs) same

    at : (b : Bool) → (x.base == base) ≡ b → list_any (λ y. y.base == base) xs ≡ false → (b || list_any (λ y. y.base == base) xs) ≡ false
    at true e rest = absurd (none x first (eqb-true x.base base e))
    at false e rest = rest

base_read : BaseRead
base_read base kept histories shell is = (
  λ surface made. any-made base surface shell (base_of base (kept surface) (xdg_of surface shell) (histories surface) (is.each surface) made),
  λ none. none-made base shell is.apart
      (λ x found. base_not base (kept x.surface) x (histories x.surface) (subst (λ (o : Option XdgSurface). IsKept (kept x.surface) o (histories x.surface)) found (is.each x.surface))
      (none x.surface)),
)

-- ---- many at once

module _ (step : XdgSurface → XdgSurface) (keeps_id : (y : XdgSurface) → (step y).id ≡ y.id) (keeps_surface : (y : XdgSurface) → (step y).surface ≡ y.surface) where
  stepped-of : (surface : ℕ) (shell : Shell) → xdg_of surface (map step shell) ≡ option_map step (xdg_of surface shell)
  stepped-of surface shell = found-map (λ x. x.surface == surface) step (λ x. ap (λ s. s == surface) (keeps_surface x)) shell

  stepped-at : (id : ℕ) (shell : Shell) → xdg_at id (map step shell) ≡ option_map step (xdg_at id shell)
  stepped-at id shell = found-map (λ x. x.id == id) step (λ x. ap (λ i. i == id) (keeps_id x)) shell

  stepped-apart : (shell : Shell) → AreApart shell → AreApart (map step shell)
  stepped-apart [] apart = tt
  stepped-apart (x ∷ xs) apart = (
    ap (λ i. xdg_at i (map step xs)) (keeps_id x) ∙ stepped-at x.id xs ∙ ap (option_map step) apart.0,
    ap (λ s. xdg_of s (map step xs)) (keeps_surface x) ∙ stepped-of x.surface xs ∙ ap (option_map step) apart.1,
    stepped-apart xs apart.2,
  )

each-kept : (change : Kept → Kept) (step : XdgSurface → XdgSurface) → ((k : Kept) (x : XdgSurface) (h : History) → Stands k x h → Stands (change k) (step x) h)
    → (k : Option Kept) (x : Option XdgSurface) (h : Option History) → IsKept k x h → IsKept (option_map change k) (option_map step x) h
each-kept change step stands None None h is = tt
each-kept change step stands None (Some x) h is = is
each-kept change step stands (Some k) None h is = is
each-kept change step stands (Some k) (Some x) None is = is
each-kept change step stands (Some k) (Some x) (Some h) is = stands k x h is

many_changed : ManyChanged
many_changed change step kept histories shell keeps_id keeps_surface stands is = record {
  each = λ surface. subst (λ (o : Option XdgSurface). IsKept (option_map change (kept surface)) o (histories surface)) (sym (stepped-of step keeps_id keeps_surface surface shell))
      (each-kept change step stands (kept surface) (xdg_of surface shell) (histories surface) (is.each surface));
  apart = stepped-apart step keeps_id keeps_surface shell is.apart;
}

dismissal_stands : DismissalStands
dismissal_stands ids kept histories shell is =
    many_changed (kept_dismissed ids) (dismissed_among ids) kept histories shell (λ y. at-id y (is_among y.id ids)) (λ y. at-surface y (is_among y.id ids)) stands is
  where
    at-id : (y : XdgSurface) (b : Bool) → (if b then popup_changed dismiss y else y).id ≡ y.id
    at-id y true = refl
    at-id y false = refl

    at-surface : (y : XdgSurface) (b : Bool) → (if b then popup_changed dismiss y else y).surface ≡ y.surface
    at-surface y true = refl
    at-surface y false = refl

    at : (k : Kept) (x : XdgSurface) (h : History) (b : Bool) → Stands k x h → Stands (if b then kept_changed dismiss k else k) (if b then popup_changed dismiss x else x) h
    at k x h true s = changes_stand.changed dismiss k x h s
    at k x h false s = s

    stands : (k : Kept) (x : XdgSurface) (h : History) → Stands k x h → Stands (kept_dismissed ids k) (dismissed_among ids x) h
    stands k x h s = subst (λ i. Stands (if is_among i ids then kept_changed dismiss k else k) (dismissed_among ids x) h) (sym s.id) (at k x h (is_among x.id ids) s)

orphaning_stands : OrphaningStands
orphaning_stands xdg kept histories shell is =
    many_changed (kept_changed (orphan xdg)) (popup_changed (orphan xdg)) kept histories shell (λ y. refl) (λ y. refl) (λ k x h s. changes_stand.changed (orphan xdg) k x h s) is

-- one changes, and its surface's history doesn't
pub changed-still : (surface : ℕ) (change : Kept → Kept) (step : XdgSurface → XdgSurface) (k : Kept) (x : XdgSurface) (h : History) (kept : ℕ → Option Kept) (histories : ℕ → Option History)
    (shell : Shell) → ((y : XdgSurface) → (step y).id ≡ y.id) → ((y : XdgSurface) → (step y).surface ≡ y.surface) → IsShell kept histories shell → kept surface ≡ Some k
    → IsThere histories shell surface k x h → Stands (change k) (step x) h → IsShell (changing surface change kept) histories (with_change x.id step shell)
changed-still surface change step k x h kept histories shell keeps_id keeps_surface is here there stands =
    subst (λ (hs : ℕ → Option History). IsShell (changing surface change kept) hs (with_change x.id step shell)) (fun_ext (λ (other : ℕ). at other (other == surface) refl))
    (changed_shell surface change step k x h kept histories shell keeps_id keeps_surface is here there.found stands)
  where
    at : (other : ℕ) (b : Bool) → (other == surface) ≡ b → (if b then Some h else histories other) ≡ histories other
    at other true same = sym (ap histories (eqb-true other surface same) ∙ there.history)
    at other false same = refl

-- ---- a popup is placed anew

reposition_answered : RepositionAnswered
reposition_answered surface positioner bounds parent_at x p kept histories shell is found its =
    let t = kept-for kept histories shell is surface x found in
    ap (reposition_answer positioner bounds parent_at) t.2 ∙ changes_stand.answered positioner bounds parent_at t.0 x t.1 p its t.3.stands

repositioned_shell : RepositionedShell
repositioned_shell surface positioner bounds parent_at serial placed x p kept histories shell is found its answer =
    let t = kept-for kept histories shell is surface x found in
    let done = changes_stand.reposition positioner bounds parent_at serial (λ _. place positioner bounds parent_at) placed t.0 x t.1 p
    (ap (reposition_answer positioner bounds parent_at) (sym t.2) ∙ answer) its refl t.3.stands in (
      done.0,
      changed-still surface (kept_repositioning placed serial positioner) step t.0 x t.1 kept histories shell (λ y. id-still y (is_configured p)) (λ y. surface-still y (is_configured p))
          is t.2 t.3 done.1,
    )
  where
    step : XdgSurface → XdgSurface
    step = repositioning (is_configured p) serial (place positioner bounds parent_at) positioner

    id-still : (y : XdgSurface) (b : Bool) → (repositioning b serial (place positioner bounds parent_at) positioner y).id ≡ y.id
    id-still y true = refl
    id-still y false = refl

    surface-still : (y : XdgSurface) (b : Bool) → (repositioning b serial (place positioner bounds parent_at) positioner y).surface ≡ y.surface
    surface-still y true = refl
    surface-still y false = refl

pub shells_stand : ShellsStand
shells_stand = record {
  made = new_shell;
  changed = changed_shell;
  gone = gone_shell;
  other = other_history;
  base = base_read;
  many = many_changed;
  dismissal = dismissal_stands;
  orphaning = orphaning_stands;
  answered = reposition_answered;
  repositioned = repositioned_shell;
}
