-- Which clients a pointer leaves where some ended.
use Rattle.std.proofs.Common.{◌≡◌, ℕ, List, [], ◌∷◌, Bool, true, false, Option, Some, None, refl, ap, ap₂, subst, sym, ◌∙◌}
use Rattle.std.proofs.lemmas.Bool.{eqb-true, true≢false}
use Rattle.std.specs.List.{list_any}
use Rattle.std.specs.Prelude.{◌==◌, ◌&&◌, ◌||◌, cond, if◌then◌else◌, filter, is_none, is_some}
use Rattle.spec_desktop.specs.declared.cause.Cause.{Cause}
use Rattle.wl_surface.specs.Surfaces.{history_in}
use Rattle.spec_desktop.specs.Pointer.{Pointer, Target, is_stacked}
use Rattle.spec_desktop.specs.Stacking.{Owned, Standing, is_of, nothing_owned}
use Rattle.spec_desktop.specs.Windows.{Window}
use Rattle.spec_desktop.specs.declared.answers.Fed.TheVariants.{Ended}
use Rattle.spec_desktop.specs.Act.{fed_of, peer_at, peer_of, status_of as fed_of_peer}
use Rattle.spec_desktop.specs.Changing.{kept_move}
use Rattle.spec_desktop.specs.Desktop.{Desktop, Resident, client_at, owned_in, owned_of, status_in, status_of, toplevels_of, unpointed}
use Rattle.spec_desktop.specs.Settling.{pointer_without, unless_of}
use Rattle.spec_desktop.specs.Stacked.{all_windows}
use Rattle.law_desktop.specs.Focus.{EndedAreBare, IsSettled}
use Rattle.law_desktop.proofs.Marks.ShownWindows.{IsShown, all-shown}
use Rattle.law_desktop.proofs.Marks.Stacks.{same-number}
use Rattle.law_desktop.proofs.Truth.{and-left}
use Rattle.law_desktop.proofs.Lists.Each.{Each}
use Rattle.law_desktop.specs.InOrder.{InOrderAt, InOrderBy}
use Rattle.law_desktop.specs.Ordered.{Ordered}
use Rattle.law_desktop.specs.Pointed.Happenings.{pointer_left, unless_ended}
use Rattle.law_desktop.specs.Pointed.Pointed.{MovedStands, pointer_if}
use Rattle.wl_desk.specs.Agreeing.{Agrees}
use Rattle.wl_desk.specs.Following.{left_of}
use Rattle.wl_desk.specs.View.{DeskView}
use Rattle.wl_desk.proofs.Points.{is_window, settled-stacked}
use Rattle.wl_desk.proofs.Quiet.{ended-bare}

-- ---- the focus is of a client that lives

some-same : {X : Type 0} (a b : X) → Some a ≡ Some b → a ≡ b
some-same a b e = cc

some-none : {X Y : Type 0} (x : X) → Some x ≡ None → Y
some-none x e = absurd (cc)

-- one of these that passes, with what is so of each of them
any-each : (p : Window → Bool) (P : Window → Type 0) (ws : List Window) → Each P ws → list_any p ws ≡ true → (w : Window) × (p w ≡ true) × P w
any-each p P [] each e = absurd (cc)
any-each p P (w ∷ ws) each e = at (p w) refl e (any-each p P ws each.1)
  where
    at : (b : Bool) → p w ≡ b → (b || list_any p ws) ≡ true → (list_any p ws ≡ true → (v : Window) × (p v ≡ true) × P v) → (v : Window) × (p v ≡ true) × P v
    at true is e rest = (w, is, each.0)
    at false is e rest = rest e

-- a surface that has a window is of a client that lives
stacked-lives : (d : Desktop) → EndedAreBare d → (t : Target) → is_stacked t (all_windows d) ≡ true → status_in t.client d ≡ None
stacked-lives d bare t stacked = at (client_at t.client d) refl
  where
    found : (w : Window) × (is_window t w ≡ true) × IsShown (owned_in d) w
    found = any-each (is_window t) (IsShown (owned_in d)) (all_windows d) (all-shown d) stacked

    owner : found.0.owner.client ≡ t.client
    owner = eqb-true found.0.owner.client t.client (and-left (found.0.owner.client == t.client) (found.0.surface == t.surface) found.1)

    owns : nothing_owned ≡ owned_in d t.client → ⊥
    owns none =
        some-none found.2.0
        (sym found.2.1 ∙ ap (λ (c : ℕ). history_in found.0.surface (owned_in d c).surfaces) owner
        ∙ ap (λ (o : Owned). history_in found.0.surface o.surfaces) (sym none))

    by : (s : Option Cause) (r : Resident) → client_at t.client d ≡ Some r → r.peer.status ≡ s → s ≡ None
    by None r there over = refl
    by (Some cause) r there over =
        absurd (owns (sym (ap owned_of there ∙ bare t.client r there (ap (λ (s : Option Cause). is_some s) over))))

    at : (o : Option Resident) → client_at t.client d ≡ o → status_of o ≡ None
    at None there = refl
    at (Some r) there = by r.peer.status r there refl

-- so is the one that has the focus
pub focus-lives : (d : Desktop) → IsSettled d → EndedAreBare d → (t : Target) → d.pointer.focus ≡ Some t → status_in t.client d ≡ None
focus-lives d is bare t has = stacked-lives d bare t (settled-stacked d.pointer (all_windows d) t (sym is ∙ has))

-- ---- what is moved is of a client that lives

none-of : (c surface : ℕ) (ss : List Standing) → filter (λ s. s.client == c) ss ≡ [] → list_any (is_of c surface) ss ≡ false
none-of c surface [] e = refl
none-of c surface (s ∷ ss) e = at (s.client == c) (none-of c surface ss) e
  where
    at : (b : Bool) → (filter (λ s. s.client == c) ss ≡ [] → list_any (is_of c surface) ss ≡ false)
        → cond b (s ∷ filter (λ s. s.client == c) ss) (filter (λ s. s.client == c) ss) ≡ []
        → ((b && (s.surface == surface)) || list_any (is_of c surface) ss) ≡ false
    at true rest e = absurd (cc)
    at false rest e = rest e

kept-stands : (t : Target) (ss : List Standing) → kept_move (Some t) ss ≡ Some t → list_any (is_of t.client t.surface) ss ≡ true
kept-stands t ss e = at (list_any (is_of t.client t.surface) ss) e
  where
    at : (b : Bool) → (if b then Some t else None) ≡ Some t → b ≡ true
    at true e = refl
    at false e = absurd (cc)

pub moved-lives : (d : Desktop) → Ordered (unpointed d) → MovedStands d → (t : Target) → d.pointer.move ≡ Some t → status_in t.client d ≡ None
moved-lives d ordered moved t has = at (client_at t.client d) (ordered.in_order.each t.client)
  where
    standing : list_any (is_of t.client t.surface) d.standing ≡ true
    standing = kept-stands t d.standing (subst (λ (m : Option Target). kept_move m d.standing ≡ m) has moved)

    by : (s : Option Cause) (r : Resident) → InOrderBy s r (toplevels_of t.client d) → s ≡ None
    by None r h = refl
    by (Some cause) r h = absurd (true≢false (sym standing ∙ none-of t.client t.surface d.standing h.1))

    at : (o : Option Resident) → InOrderAt o (toplevels_of t.client d) → status_of o ≡ None
    at None h = refl
    at (Some r) h = by r.peer.status r h

-- ---- how a client is

pub ends-as : (c : ℕ) (e : Desktop) (why : Cause) → fed_of_peer (peer_at c e) ≡ Ended why → status_in c e ≡ Some why
ends-as c e why is = at (client_at c e) is
  where
    by : (s : Option Cause) → fed_of s ≡ Ended why → s ≡ Some why
    by None is = absurd (cc)
    by (Some cause) is = ap Some (same cause why is)
      where
        same : (x y : Cause) → fed_of (Some x) ≡ fed_of (Some y) → x ≡ y
        same x y e = cc

    at : (o : Option Resident) → fed_of_peer (peer_of o) ≡ Ended why → status_of o ≡ Some why
    at None is = absurd (cc)
    at (Some r) is = by r.peer.status is

-- ---- the pointer leaves those that ended

abbrev pub gone_if : Desktop → Option Target → Option Target
gone_if e None = None
gone_if e (Some t) = if is_some (status_in t.client e) then None else Some t

-- of clients that lived, it leaves those that ended
abbrev pub gone_from : Desktop → Pointer → Pointer
gone_from e p = record p { focus = gone_if e p.focus; move = gone_if e p.move }

lived-left : (d e : Desktop) (o : Option Target) → ((t : Target) → o ≡ Some t → status_in t.client d ≡ None) → gone_if e o ≡ unless_ended d e o
lived-left d e None lived = refl
lived-left d e (Some t) lived =
    sym (ap (λ (was : Option Cause). if is_none was && is_some (status_in t.client e) then None else Some t) (lived t refl))

-- who ended is gone anyway
gone-unless : (c : ℕ) (e : Desktop) (o : Option Target) → is_some (status_in c e) ≡ true → gone_if e (unless_of c o) ≡ gone_if e o
gone-unless c e None over = refl
gone-unless c e (Some t) over = at (t.client == c) refl
  where
    at : (b : Bool) → (t.client == c) ≡ b → gone_if e (if b then None else Some t) ≡ gone_if e (Some t)
    at true same =
        sym (ap (λ (b : Bool). if b then None else Some t) (subst (λ (n : ℕ). is_some (status_in n e) ≡ true) (sym (eqb-true t.client c same)) over))
    at false differs = refl

-- what stays of those that don't end stays
still-unless : (c : ℕ) (e : Desktop) (o : Option Target) → gone_if e o ≡ o → gone_if e (unless_of c o) ≡ unless_of c o
still-unless c e None still = refl
still-unless c e (Some t) still = at (t.client == c)
  where
    at : (b : Bool) → gone_if e (if b then None else Some t) ≡ (if b then None else Some t)
    at true = refl
    at false = still

-- of whom it has left one that ended, it leaves the same
gone-again : (o : Option Target) (e : Desktop) (p : Pointer) → gone_from e (left_of o e p) ≡ gone_from e p
gone-again None e p = refl
gone-again (Some t) e p = at (status_in t.client e) refl
  where
    at : (s : Option Cause) → status_in t.client e ≡ s → gone_from e (pointer_if s t.client p) ≡ gone_from e p
    at None is = refl
    at (Some why) is =
        let over : is_some (status_in t.client e) ≡ true = ap (λ (s : Option Cause). is_some s) is in
        ap₂ (λ (f m : Option Target). record p { focus = f; move = m }) (gone-unless t.client e p.focus over) (gone-unless t.client e p.move over)

focus-still : (o : Option Target) (e : Desktop) (p : Pointer) → gone_if e p.focus ≡ p.focus → gone_if e (left_of o e p).focus ≡ (left_of o e p).focus
focus-still None e p still = still
focus-still (Some t) e p still = at (status_in t.client e)
  where
    at : (s : Option Cause) → gone_if e (pointer_if s t.client p).focus ≡ (pointer_if s t.client p).focus
    at None = still
    at (Some why) = still-unless t.client e p.focus still

-- the one that has the focus is left, if its client ended
own-unless : (t : Target) → unless_of t.client (Some t) ≡ None
own-unless t = ap (λ (b : Bool). if b then None else Some t) (same-number t.client)

focus-left : (o : Option Target) (e : Desktop) (p : Pointer) → p.focus ≡ o → gone_if e (left_of o e p).focus ≡ (left_of o e p).focus
focus-left None e p is = ap (gone_if e) is ∙ sym is
focus-left (Some t) e p is = at (status_in t.client e) refl
  where
    at : (s : Option Cause) → status_in t.client e ≡ s → gone_if e (pointer_if s t.client p).focus ≡ (pointer_if s t.client p).focus
    at None alive =
        ap (gone_if e) is ∙ ap (λ (s : Option Cause). if is_some s then None else Some t) alive ∙ sym is
    at (Some why) over = let none = ap (unless_of t.client) is ∙ own-unless t in ap (gone_if e) none ∙ sym none

move-left : (o : Option Target) (e : Desktop) (p : Pointer) → p.move ≡ o → gone_if e (left_of o e p).move ≡ (left_of o e p).move
move-left None e p is = ap (gone_if e) is ∙ sym is
move-left (Some t) e p is = at (status_in t.client e) refl
  where
    at : (s : Option Cause) → status_in t.client e ≡ s → gone_if e (pointer_if s t.client p).move ≡ (pointer_if s t.client p).move
    at None alive =
        ap (gone_if e) is ∙ ap (λ (s : Option Cause). if is_some s then None else Some t) alive ∙ sym is
    at (Some why) over = let none = ap (unless_of t.client) is ∙ own-unless t in ap (gone_if e) none ∙ sym none

-- both are left that ended
pub all-left : (old : DeskView) (d e : Desktop) → Agrees old d → (p q r : Pointer) (f m : Option Target) → p ≡ d.pointer → f ≡ p.focus → q ≡ left_of f e p → m ≡ q.move → r ≡ left_of m e q
    → r ≡ pointer_left d e
all-left old d e a p q r f m same focus first move second =
    let bare : EndedAreBare d = ended-bare (unpointed d) a.kept.ordered in
    let still-focus : gone_if e q.focus ≡ q.focus = subst (λ (x : Pointer). gone_if e x.focus ≡ x.focus) (sym first) (focus-left f e p (sym focus)) in
    let still : gone_from e r ≡ r =
    subst (λ (x : Pointer). gone_from e x ≡ x) (sym second)
    (ap₂ (λ (x y : Option Target). record (left_of m e q) { focus = x; move = y }) (focus-still m e q still-focus) (move-left m e q (sym move))) in
    sym still ∙ ap (gone_from e) second ∙ gone-again m e q ∙ ap (gone_from e) first ∙ gone-again f e p ∙ ap (gone_from e) same
    ∙ ap₂ (λ (x y : Option Target). record d.pointer { focus = x; move = y })
    (lived-left d e d.pointer.focus (focus-lives d a.settled bare)) (lived-left d e d.pointer.move (moved-lives d a.kept.ordered a.placed.moved))

-- one that lives isn't
pub lives-left : (t : Target) (e : Desktop) (p : Pointer) → status_in t.client e ≡ None → p ≡ left_of (Some t) e p
lives-left t e p alive = sym (ap (λ (s : Option Cause). pointer_if s t.client p) alive)

pub over-left : (t : Target) (e : Desktop) (why : Cause) (p : Pointer) → status_in t.client e ≡ Some why → pointer_without t.client p ≡ left_of (Some t) e p
over-left t e why p over = sym (ap (λ (s : Option Cause). pointer_if s t.client p) over)
