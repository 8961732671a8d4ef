-- What the pointer becomes as clients end and toplevels go; and where it is nowhere, nothing is settled.
use Rattle.std.proofs.Common.{◌≡◌, ℕ, suc, List, [], ◌∷◌, ◌++◌, map, Bool, true, false, Option, Some, None, refl, ap, ap₂, subst, sym, ◌∙◌}
use Rattle.std.proofs.lemmas.Bool.{eqb-false}
use Rattle.std.specs.List.{list_any}
use Rattle.std.specs.Prelude.{◌==◌, if◌then◌else◌}
use Rattle.spec_desktop.specs.declared.cause.Cause.{Cause}
use Rattle.spec_desktop.specs.Pointer.{Pointer, Target, first_pointer}
use Rattle.spec_desktop.specs.PointerActions.{focus_or}
use Rattle.spec_desktop.specs.Stacking.{Standing, is_of, without_client}
use Rattle.spec_desktop.specs.Changing.{kept_move}
use Rattle.spec_desktop.specs.Desktop.{Desktop, Resident, client_at}
use Rattle.spec_desktop.specs.Settling.{AppliesAll, Midstep, Settles, Strike, ended_all, ended_at, ended_by, pointer_without, unless_of, unstruck}
use Rattle.spec_desktop.specs.Stacked.{all_windows}
use Rattle.spec_desktop.specs.Through.{EndsFirstThrough, SettlesAllThrough, ends_through, settling_through}
use Rattle.law_desktop.proofs.Lists.Standings.{ended-other}
use Rattle.law_desktop.specs.Pointed.Apart.{SettlesOn}
use Rattle.law_desktop.specs.Pointed.Pointed.{keeping, pointed}

-- ---- what is moved stands

-- where a client ended, its toplevels don't stand, and the others do as before
pub kept-without : (c : ℕ) (t : Option Target) (standing : List Standing) → kept_move (unless_of c t) (without_client c standing) ≡ unless_of c (kept_move t standing)
kept-without c None standing = refl
kept-without c (Some t) standing = at (t.client == c) refl
  where
    gone : (t.client == c) ≡ true → (b : Bool) → None ≡ unless_of c (if b then Some t else None)
    gone e true = sym (ap (λ (b : Bool). if b then None else Some t) e)
    gone e false = refl

    stays : (t.client == c) ≡ false → (b : Bool) → (if b then Some t else None) ≡ unless_of c (if b then Some t else None)
    stays e true = sym (ap (λ (b : Bool). if b then None else Some t) e)
    stays e false = refl

    at : (b : Bool) → (t.client == c) ≡ b → kept_move (if b then None else Some t) (without_client c standing) ≡ unless_of c (kept_move (Some t) standing)
    at true e = gone e (list_any (is_of t.client t.surface) standing)
    at false e =
        ap (λ (b : Bool). if b then Some t else None) (ended-other c t.client t.surface standing (λ same. eqb-false t.client c e (sym same)))
        ∙ stays e (list_any (is_of t.client t.surface) standing)

pub keeping-without : (c : ℕ) (p : Pointer) (standing : List Standing) → keeping (without_client c standing) (pointer_without c p) ≡ pointer_without c (keeping standing p)
keeping-without c p standing = ap (λ (m : Option Target). record p { focus = unless_of c p.focus; move = m }) (kept-without c p.move standing)

pub keeping-stays : (p : Pointer) (standing : List Standing) → kept_move p.move standing ≡ p.move → keeping standing p ≡ p
keeping-stays p standing e = ap (λ (m : Option Target). record p { move = m }) e

-- ---- a client ends

-- who ends leaves a pointer that is nowhere where it is
pub ended-nowhere : (s : Strike) (d : Desktop) → d.pointer ≡ first_pointer → (ended_by s d).pointer ≡ first_pointer
ended-nowhere s d still = at (client_at s.client d)
  where
    at : (o : Option Resident) → (ended_at s.client s.cause o d).pointer ≡ first_pointer
    at None = still
    at (Some r) = ap (pointer_without s.client) still

pub all-nowhere : (ss : List Strike) (d : Desktop) → d.pointer ≡ first_pointer → (ended_all ss d).pointer ≡ first_pointer
all-nowhere [] d still = still
all-nowhere (s ∷ ss) d still = all-nowhere ss (ended_by s d) (ended-nowhere s d still)

pub ended-put : (c : ℕ) (cause : Cause) (p : Pointer) (d : Desktop) (r : Resident) → client_at c d ≡ Some r
    → ended_by (record { client = c; cause = cause }) (pointed p d) ≡ pointed (pointer_without c p) (ended_by (record { client = c; cause = cause }) d)
ended-put c cause p d r there =
    ap (λ (o : Option Resident). ended_at c cause o (pointed p d)) there
    ∙ sym (ap (λ (o : Option Resident). pointed (pointer_without c p) (ended_at c cause o d)) there)

-- ---- where the pointer is nowhere

pub settles-nowhere : (old new : Midstep) → old.desktop.pointer ≡ first_pointer → Settles old new → new ≡ old
settles-nowhere old new still h =
    subst (λ (p : Pointer). AppliesAll (all_windows old.desktop) (focus_or [] p (all_windows old.desktop)) old new) still h

-- nobody is to end, so it is over
pub settled-nowhere : (n : ℕ) (d e : Desktop) (path : List Desktop) → d.pointer ≡ first_pointer → SettlesAllThrough (suc n) (unstruck d) path e → (e ≡ d) × (path ≡ e ∷ [])
settled-nowhere n d e path still h =
    let same : h.0 ≡ unstruck d = settles-nowhere (unstruck d) h.0 still h.1 in
    let over : EndsFirstThrough (SettlesAllThrough n) [] d h.2 e = subst (λ (m : Midstep). EndsFirstThrough (SettlesAllThrough n) m.struck m.desktop h.2 e) same h.4 in
    (over.1, h.3 ∙ ap₂ (λ (x : Desktop) (xs : List Desktop). x ∷ xs) (ap (λ (m : Midstep). m.desktop) same ∙ sym over.1) over.0)

-- the desktops of a step's own change and of each end, but for the last of them
before_end : List Strike → Desktop → List Desktop
before_end [] d = []
before_end (s ∷ ss) d = d ∷ before_end ss (ended_by s d)

last-of-all : (ss : List Strike) (d : Desktop) (later : List Desktop) → d ∷ ends_through ss d ++ later ≡ before_end ss d ++ ended_all ss d ∷ later
unfolding before_end
last-of-all [] d later = refl
last-of-all (s ∷ ss) d later = ap (λ (xs : List Desktop). d ∷ xs) (last-of-all ss (ended_by s d) later)

last-put : (put : Desktop → Desktop) (ss : List Strike) (d : Desktop) (later : List Desktop)
    → put d ∷ map put (ends_through ss d) ++ later ≡ map put (before_end ss d) ++ put (ended_all ss d) ∷ later
unfolding before_end
last-put put [] d later = refl
last-put put (s ∷ ss) d later = ap (λ (xs : List Desktop). put d ∷ xs) (last-put put ss (ended_by s d) later)

-- What comes after a step's own change with the pointer put aside comes after it with the pointer put back, and then the focus is settled.
pub settles-on : (put : Desktop → Desktop) (aside back : Midstep) → (ended_all aside.struck aside.desktop).pointer ≡ first_pointer → back.desktop ≡ put aside.desktop
    → ends_through back.struck back.desktop ≡ map put (ends_through aside.struck aside.desktop)
    → ended_all back.struck back.desktop ≡ put (ended_all aside.struck aside.desktop)
    → (path : List Desktop) (e : Desktop) → settling_through path e aside → SettlesOn put (λ path new. settling_through path new back) path e
settles-on put aside back still first ends last path e h =
    let ss : List Strike = aside.struck in
    let d : Desktop = aside.desktop in
    let over = settled-nowhere 32 (ended_all ss d) e h.0 still h.2 in (
      before_end ss d,
      h.1 ∙ ap (λ (later : List Desktop). d ∷ ends_through ss d ++ later) over.1 ∙ last-of-all ss d (e ∷ []) ∙ ap (λ (x : Desktop). before_end ss d ++ x ∷ e ∷ []) (sym over.0),
      λ later new k. (
        later,
        ap (λ (x : Desktop). map put (before_end ss d) ++ put x ∷ later) over.0 ∙ sym (last-put put ss d later)
            ∙ ap₂ (λ (x : Desktop) (xs : List Desktop). x ∷ xs ++ later) (sym first) (sym ends),
        subst (λ (x : Desktop). SettlesAllThrough 33 (unstruck x) later new) (ap put over.0 ∙ sym last) k,
      ),
    )
