-- The popups of a client with a grab are dismissed in the middle of a step: what that leaves of it and of the desktop, and what is marked.
use Rattle.std.proofs.Common.{◌≡◌, ℕ, List, Bool, true, Option, Some, None, length, ◌≤◌, set, refl, ap, subst, sym, ◌∙◌, arith}
use Rattle.std.specs.Prelude.{◌||◌, is_some, pos}
use Rattle.wl_client.specs.View.{ClientView}
use Rattle.wl_client.specs.declared.outputs.Output.{Output}
use Rattle.wl_paint.specs.Damage.{Damaged, has}
use Rattle.spec_desktop.specs.declared.cause.Cause.{Cause}
use Rattle.spec_desktop.specs.Objects.{ById}
use Rattle.spec_desktop.specs.Peer.{Peer}
use Rattle.spec_desktop.specs.Told.{Said}
use Rattle.spec_desktop.specs.Pointer.{Pointer}
use Rattle.spec_desktop.specs.Desktop.{Desktop, Resident, client_at, unpointed}
use Rattle.spec_desktop.specs.Replies.{popups_done}
use Rattle.spec_desktop.specs.Settling.{Midstep, QueuesTo, Tells, TellsAt, TellsUnless, is_struck, struck_by, without_grabs}
use Rattle.spec_desktop.specs.Stacked.{all_windows}
use Rattle.law_desktop.specs.Ordered.{Ordered}
use Rattle.law_desktop.proofs.KeptInOrder.Laws.{presses_keep_ordered}
use Rattle.wl_requests.specs.declared.residents.Resident.{Resident as Kept}
use Rattle.wl_clients.specs.Agreement.{numbers_in}
use Rattle.wl_clients.specs.Releasing.{IsReleased, MarksJust, MarksReleased, released_as, with_released}
use Rattle.wl_clients.specs.Seats.{IsSeated, opened_kept}
use Rattle.wl_clients.specs.View.{MarkedDesk, Pile}
use Rattle.wl_clients.specs.Holders.{IsReleasedBy, MarksReleasedBy}
use Rattle.wl_clients.specs.Midway.{IsMid}
use Rattle.wl_clients.specs.Residents.{client_views, resident_at}
use Rattle.wl_clients.proofs.Marks.{or-none}
use Rattle.wl_clients.proofs.Midway.{mid-nobody, mid-put, nobody-tells, put-same, seat}
use Rattle.wl_clients.proofs.Opened.{open_all, opened-same}
use Rattle.wl_clients.proofs.Restacked.{mid-sized}
use Rattle.wl_clients.proofs.Seats.{IsHere, client-here, clients-within, marked, view_of}
use Rattle.wl_clients.proofs.Still.{same-still, still-unmarked}
use Rattle.wl_clients.proofs.Strikes.{refused_in, struck-at, struck-more}

abbrev done_of : Resident → List Said
done_of r = popups_done r (without_grabs r)

-- From one midstep to another, with what is to be painted: the client's popups with a grab are dismissed, and the client is told.
abbrev Releases : ℕ → Midstep → MarkedDesk → MarkedDesk → Type 0
Releases c m old new = (n : Midstep) × Tells without_grabs done_of c m n × IsMid new.desk n × MarksJust m.desktop n.desktop old.damage new.damage

-- where nothing changes, nothing is marked
still-just : (d : Desktop) (before after : Damaged) → Ordered d → after ≡ before → MarksJust d d before after
still-just d before after ordered same x y wide high =
    ap (λ (damage : Damaged). has damage x y) same
    ∙ (or-none (has before x y) ∙ ap (λ (b : Bool). has before x y || b) (sym (still-unmarked d d ordered (same-still d d refl) (pos x) (pos y))))

-- nobody is there
pub nobody-released : {A : Type 0} (output : Output) (rs : List (Option (Kept A))) (pile : Pile) (damage : Damaged) (ws : List (Option (Kept A))) (w : MarkedDesk) (c : ℕ) → ws ≡ rs
    → resident_at ws c ≡ None → marked (view_of output rs pile) damage ≡ w → (m : Midstep) → IsMid w.desk m → Releases c m w w
nobody-released output rs pile damage ws w c same none view m mid = (
  m,
  nobody-tells without_grabs done_of c m (mid-nobody output rs pile c m (rw (← same) none) (subst (λ (x : MarkedDesk). IsMid x.desk m) (sym view) mid)),
  mid,
  still-just m.desktop w.damage w.damage mid.agrees.ordered refl,
)

-- and nothing is put there
pub unput-released : (new old : MarkedDesk) → new ≡ old → (c : ℕ) (m : Midstep) → Releases c m old old → Releases c m old new
unput-released new old same c m released = subst (λ (x : MarkedDesk). Releases c m old x) (sym same) released

module _ {A : Type 0} (output : Output) (rs : List (Option (Kept A))) (pile : Pile) (c k : ℕ) (v : Kept A) (is : IsHere rs c k v) (m : Midstep)
    (mid : IsMid (view_of output rs pile) m) (new : Kept A) (now : Pile) (before after : Damaged) where
  abbrev numbers : ℕ → ById ℕ
  numbers = numbers_in (client_views (open_all rs))

  here : (s : Resident) × (client_at c m.desktop ≡ Some s) × IsSeated c numbers m.desktop (opened_kept v) pile m.desktop s
  here = seat output rs pile c k v is m mid

  ordered : Ordered m.desktop
  ordered = mid.agrees.ordered

  abbrev Result : Type 0
  Result = Releases c m (marked (view_of output rs pile) before) (marked (view_of output (set rs k (Some new)) now) after)

  struck-here : is_struck c m.struck ≡ is_some v.client.refused
  struck-here =
      ap (is_struck c) (sym mid.struck) ∙ struck-at c 1 k (client_views rs) (let e = is.number in omega (arith, e))
      ∙ ap (λ (o : Option ClientView). is_some (refused_in o)) (client-here rs k v is.here)

  -- one that ended or is to end keeps its popups
  unreleased : (is_some here.0.peer.status || is_struck c m.struck) ≡ true → new ≡ v → now ≡ pile → after ≡ before → Result
  unreleased over same piles clean = (
    m,
    subst (λ (o : Option Resident). TellsAt without_grabs done_of c o m m) (sym here.1)
        (subst (λ (b : Bool). TellsUnless b without_grabs done_of c here.0 m m) (sym over) refl),
    subst (λ (x : Kept A). IsMid (view_of output (set rs k (Some x)) now) m) (sym same)
        (subst (λ (p : Pile). IsMid (view_of output (set rs k (Some v)) p) m) (sym piles)
        (subst (λ (xs : List (Option (Kept A))). IsMid (view_of output xs pile) m) (sym (put-same output rs pile c k v is m mid)) mid)),
    still-just m.desktop before after ordered clean,
  )

  -- one that lives and isn't to end doesn't
  module _ (lives : v.client.ended ≡ None) (free : v.client.refused ≡ None) (releases : IsReleased c v new pile now) (marks : MarksReleased c v pile before after)
      (only : new.client ≡ record v.client { unsent = new.client.unsent; refused = new.client.refused })
      (sides : (before.width ≡ output.width) × (before.height ≡ output.height)) where
    abbrev s : Resident
    s = here.0

    status : s.peer.status ≡ None
    status = sym here.2.seat.peer.status ∙ lives

    seated : IsSeated c numbers m.desktop v pile m.desktop s
    seated = subst (λ (x : ClientView). IsSeated c numbers m.desktop (record v { client = x }) pile m.desktop s) (opened-same v.client free) here.2

    next : (q : Peer) × QueuesTo (done_of s) (without_grabs s).peer q new.client.refused
        × IsSeated c numbers m.desktop (opened_kept new) now (with_released c q s m.desktop) (released_as q s)
    next = releases numbers m.desktop m.desktop s lives free seated ordered

    abbrev last : Midstep
    last = record { desktop = with_released c next.0 s m.desktop; struck = struck_by c new.client.refused m.struck }

    tells-it : Tells without_grabs done_of c m last
    tells-it =
        subst (λ (o : Option Resident). TellsAt without_grabs done_of c o m last) (sym here.1)
        (subst (λ (b : Bool). TellsUnless b without_grabs done_of c s m last)
        (sym (ap (λ (o : Option Cause). is_some o || is_struck c m.struck) status ∙ struck-here ∙ ap is_some free))
        (next.0, new.client.refused, next.1, refl))

    -- the pointer isn't anywhere
    unpoint : (d : Desktop) → d.pointer ≡ m.desktop.pointer → unpointed d ≡ d
    unpoint d same = ap (λ (p : Pointer). record d { pointer = p }) (sym (same ∙ ordered.in_order.pointer))

    later : Ordered last.desktop
    later =
        subst Ordered (unpoint last.desktop refl)
        (presses_keep_ordered (all_windows m.desktop) c m last (subst Ordered (sym (unpoint m.desktop refl)) ordered) tells-it)

    is-mid : IsMid (view_of output (set rs k (Some new)) now) last
    is-mid =
        mid-put output rs pile c k v is m mid new now last.desktop (released_as next.0 s) last.struck next.2 later
        (struck-more c 1 k (client_views rs) (Some new.client) (let e = is.number in omega (arith, e)) (clients-within rs k is.within)
        (ap refused_in (client-here rs k v is.here) ∙ free) ∙ ap (struck_by c new.client.refused) mid.struck)
        (λ some. ap (λ (x : ClientView). x.ended) only ∙ lives)

    just : MarksJust m.desktop last.desktop before after
    just =
        let sized = mid-sized output rs pile m mid before sides in
        marks numbers m.desktop m.desktop s next.0 lives free sized.0 sized.1 seated ordered

    is-released : Result
    is-released = (last, tells-it, is-mid, just)

  pub here-released : IsReleasedBy v.client.ended v.client.refused c v new pile now → MarksReleasedBy v.client.ended v.client.refused c v pile before after
      → new.client ≡ record v.client { unsent = new.client.unsent; refused = new.client.refused } → (before.width ≡ output.width) × (before.height ≡ output.height) → Result
  here-released releases marks only sides = at v.client.ended refl v.client.refused refl releases marks
    where
      ended : (cause : Cause) → v.client.ended ≡ Some cause → (is_some here.0.peer.status || is_struck c m.struck) ≡ true
      ended cause e = ap (λ (o : Option Cause). is_some o || is_struck c m.struck) (sym here.2.seat.peer.status ∙ e)

      at : (e : Option Cause) → v.client.ended ≡ e → (f : Option Cause) → v.client.refused ≡ f → IsReleasedBy e f c v new pile now → MarksReleasedBy e f c v pile before after → Result
      at None e None f released marked = is-released e f released marked only sides
      at None e (Some cause) f same clean =
          unreleased (ap (λ (o : Option Cause). is_some o || is_struck c m.struck) (sym here.2.seat.peer.status ∙ e) ∙ struck-here ∙ ap is_some f) same.0 same.1 clean
      at (Some cause) e None f same clean = unreleased (ended cause e) same.0 same.1 clean
      at (Some cause) e (Some other) f same clean = unreleased (ended cause e) same.0 same.1 clean

-- ---- by whether it ended or is to end

module _ {A : Type 0} (c : ℕ) (v : Kept A) (pile : Pile) (damage : Damaged) where
  -- one that ended stays
  pub ended-stays : (e f : Option Cause) → is_some e ≡ true → IsReleasedBy e f c v v pile pile × MarksReleasedBy e f c v pile damage damage
  ended-stays None f over = absurd (cc)
  ended-stays (Some cause) None over = ((refl, refl), refl)
  ended-stays (Some cause) (Some other) over = ((refl, refl), refl)

  -- so does one that is to end
  pub refused-stays : (e f : Option Cause) → is_some f ≡ true → IsReleasedBy e f c v v pile pile × MarksReleasedBy e f c v pile damage damage
  refused-stays e None over = absurd (cc)
  refused-stays None (Some cause) over = ((refl, refl), refl)
  refused-stays (Some other) (Some cause) over = ((refl, refl), refl)

module _ {A : Type 0} (c : ℕ) (v new : Kept A) (pile now : Pile) (before after : Damaged) where
  pub lives-released : (e f : Option Cause) → e ≡ None → f ≡ None → IsReleased c v new pile now → IsReleasedBy e f c v new pile now
  lives-released e f lives free released =
      subst (λ (o : Option Cause). IsReleasedBy o f c v new pile now) (sym lives) (subst (λ (o : Option Cause). IsReleasedBy None o c v new pile now) (sym free) released)

  pub lives-marks : (e f : Option Cause) → e ≡ None → f ≡ None → MarksReleased c v pile before after → MarksReleasedBy e f c v pile before after
  lives-marks e f lives free marks =
      subst (λ (o : Option Cause). MarksReleasedBy o f c v pile before after) (sym lives) (subst (λ (o : Option Cause). MarksReleasedBy None o c v pile before after) (sym free) marks)

-- what is left to be taken of the client stays
pub rest-released : {A : Type 0} (v new : Kept A) → new.client ≡ record v.client { unsent = new.client.unsent; refused = new.client.refused }
    → length new.client.rest ≤ length v.client.rest
rest-released v new only = rw only (omega arith)
