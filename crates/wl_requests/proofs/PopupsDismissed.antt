-- The popups that go with an xdg_surface are dismissed one after another, and each is told that it is done.
use Rattle.std.proofs.Common.{◌≡◌, ℕ, suc, ◌+◌, ◌≤◌, List, [], ◌∷◌, ◌++◌, Bool, true, false, Option, Some, None, cond, map, length, arith, eq-eqb, refl, ap, subst, sym, ◌∙◌}
use Rattle.std.specs.Prelude.{◌&&◌, not, filter, flat_map, fold, if◌then◌else◌, is_some, nat_lt}
use Rattle.std.specs.Option.{option_map}
use Rattle.std.proofs.lemmas.List.{length-append}
use Rattle.wl_client.proofs.Queueing.{queues-over, queues-then}
use Rattle.wl_client.specs.Agreement.{IsPeer}
use Rattle.wl_proto.specs.declared.interface.Interface.TheVariants.{XdgPopup}
use Rattle.wl_proto.specs.Messages.{says}
use Rattle.spec_desktop.specs.declared.cause.Cause.{Cause}
use Rattle.spec_desktop.specs.Peer.{Peer, Queues}
use Rattle.spec_desktop.specs.Told.{Said, said}
use Rattle.wl_surface.specs.Linked.{SurfacesView}
use Rattle.wl_shell.specs.Found.{AreFound}
use Rattle.wl_shell.specs.InOrder.{HasOrder, goes_with, newest_first, undismissed, with_dismissed}
use Rattle.wl_shell.specs.PopupsKept.{IsNewest, dismissible_under}
use Rattle.spec_desktop.specs.Stacking.{Owned}
use Rattle.wl_shell.specs.Kept.{Book, Kept as KeptXdg, changing, kept_changed, kept_of}
use Rattle.wl_shell.specs.Popups.{Popped, by_number, dismiss, dismissed_with, is_among, popped_kind, popped_of, popped_role, popups_of, with_popup_role}
use Rattle.wl_shell.specs.Shell.{IsPopup, Kind, RoleObject, Shell, Toplevel, XdgSurface}
use Rattle.spec_desktop.specs.Desktop.{Resident}
use Rattle.law_desktop.specs.Ordered.{OwnsOrdered}
use Rattle.law_desktop.specs.Owning.{IsOwned, Names}
use Rattle.law_desktop.specs.OwnedPopups.{NextIs, WereDismissed, done_told}
use Rattle.law_desktop.proofs.OwnedPopups.Dismissing.{popups-dismissed}
use Rattle.law_desktop.proofs.OwnedPopups.Knowing.{roles-known}
use Rattle.wl_requests.specs.declared.residents.Resident.{Resident as Kept}
use Rattle.wl_requests.specs.Dismissing.{AreDismissed, go_with, role_id}
use Rattle.wl_requests.proofs.Letting.{IsToldSo, none-told}

-- ---- the popups of a client in order have the order that the shell asks for

pub has-order : (r : Resident) → OwnsOrdered r → HasOrder r.owned.shell
has-order r is = roles-known.order r is.order is.younger is.released is.few

-- ---- no more go than there are surfaces

length-by-number : (p : Popped) (ps : List Popped) → length (by_number p ps) ≡ suc (length ps)
length-by-number p [] = refl
length-by-number p (q ∷ qs) = at (nat_lt p.popup.number q.popup.number) (length-by-number p qs)
  where
    at : (b : Bool) → length (by_number p qs) ≡ suc (length qs) → length (if b then p ∷ q ∷ qs else q ∷ by_number p qs) ≡ suc (suc (length qs))
    at true e = refl
    at false e = ap suc e

length-ordered : (acc ps : List Popped) → length (fold (λ rs p. by_number p rs) acc ps) ≡ length acc + length ps
length-ordered acc [] = omega arith
length-ordered acc (p ∷ ps) = let rest = length-ordered (by_number p acc) ps in let one = length-by-number p acc in omega (arith, rest, one)

length-role : (x : XdgSurface) (o : Option RoleObject) → length (popped_role x o) ≤ 1
length-role x None = omega arith
length-role x (Some object) = kind object.kind
  where
    kind : (k : Kind) → length (popped_kind x object k) ≤ 1
    kind Toplevel = omega arith
    kind (IsPopup popup) = omega arith

length-flat : (xs : Shell) → length (flat_map popped_of xs) ≤ length xs
length-flat [] = omega arith
length-flat (x ∷ xs) =
    let one = length-role x x.role in let rest = length-flat xs in let both = length-append (popped_of x) (flat_map popped_of xs) in omega (arith, one, rest, both)

length-newest : (acc ps : List Popped) → length (fold (λ (later : List Popped) p. p ∷ later) acc ps) ≡ length acc + length ps
length-newest acc [] = omega arith
length-newest acc (p ∷ ps) = let rest = length-newest (p ∷ acc) ps in omega (arith, rest)

length-filter : (test : Popped → Bool) (ps : List Popped) → length (filter test ps) ≤ length ps
length-filter test [] = omega arith
length-filter test (p ∷ ps) = at (test p) (length-filter test ps)
  where
    at : (b : Bool) → length (filter test ps) ≤ length ps → length (cond b (p ∷ filter test ps) (filter test ps)) ≤ suc (length ps)
    at true le = omega (arith, le)
    at false le = omega (arith, le)

pub few-go : (is : Popped → Bool) (shell : Shell) → length (undismissed is shell) ≤ length shell
few-go is shell =
    let some = length-filter (λ p. is_among p.xdg.id (dismissed_with is shell) && not p.popup.is_dismissed) (newest_first (popups_of shell)) in
    let newest = length-newest [] (popups_of shell) in
    let ordered = length-ordered [] (flat_map popped_of shell) in
    let flat = length-flat shell in
    omega (arith, some, newest, ordered, flat)

-- ---- one after another

-- These went so far, and these xdg_surfaces are left.
pub record IsDismissingSo {A : Type 0} (names : Names) (xdg : ℕ) (o : Owned) (count : ℕ) (p q : Peer) (gone : List Popped) (left : Shell) (now : Kept A) : Type 0 where
  pub peer : IsPeer now.client q
  pub many : length gone ≡ count
  pub were : WereDismissed (go_with xdg o.shell) o.shell gone left
  pub told : IsToldSo (map done_told (undismissed (go_with xdg o.shell) o.shell)) (map done_told (undismissed (go_with xdg o.shell) left)) p q
  pub owns : IsOwned names now.owned.surfaces.states now.owned.surfaces.family (kept_of now.owned.shell) (record o { shell = left })

-- those that went up to this one
abbrev pub IsDismissedTo : {A : Type 0} → Names → ℕ → Owned → ℕ → Peer → Kept A → Type 0
IsDismissedTo names xdg o count p now = (q : Peer) × (gone : List Popped) × (left : Shell) × IsDismissingSo names xdg o count p q gone left now

pub none-dismissed : {A : Type 0} (names : Names) (xdg : ℕ) (o : Owned) (p : Peer) (now : Kept A)
    → IsOwned names now.owned.surfaces.states now.owned.surfaces.family (kept_of now.owned.shell) o → HasOrder o.shell → IsPeer now.client p → p.status ≡ None
    → IsDismissedTo names xdg o 0 p now
none-dismissed names xdg o p now owns order peer lives = (
  p,
  [],
  o.shell,
  record {
    peer = peer;
    many = refl;
    were = popups-dismissed.on.begin (go_with xdg o.shell) o.shell order;
    told = none-told (map done_told (undismissed (go_with xdg o.shell) o.shell)) p lives;
    owns = owns;
  },
)

-- the id of the role object stays
pub id-stays : (k : Option KeptXdg) → role_id (option_map (kept_changed dismiss) k) ≡ role_id k
id-stays None = refl
id-stays (Some k) = at k.role
  where
    at : (o : Option RoleObject) → option_map (λ (object : RoleObject). object.id) (option_map (with_popup_role dismiss) o) ≡ option_map (λ (object : RoleObject). object.id) o
    at None = refl
    at (Some object) = refl

pub changed-here : (went : ℕ) (change : KeptXdg → KeptXdg) (kept : ℕ → Option KeptXdg) → changing went change kept went ≡ option_map change (kept went)
changed-here went change kept = ap (λ (b : Bool). cond b (option_map change (kept went)) (kept went)) (eq-eqb went went refl)

-- one event is told, and those after it are left
told-one : (all more : List Said) (event : Said) (p mid q : Peer) → IsToldSo all (event ∷ more) p mid → mid.status ≡ None → Queues (event ∷ []) mid q → IsToldSo all more p q
told-one all more event p mid q so lives told = record {
  alive = λ alive last h. so.alive lives last (queues-then (event ∷ []) more mid q last told alive h);
  over = λ over. so.alive lives q (queues-over (event ∷ []) more mid q lives told over);
}

module _ {A : Type 0} (names : Names) (xdg : ℕ) (o : Owned) (count : ℕ) (p q : Peer) (gone : List Popped) (left : Shell) (now : Kept A) (surface : ℕ)
    (so : IsDismissingSo names xdg o count p q gone left now) (named : names.shell xdg ≡ Some surface) where
  abbrev is : Popped → Bool
  is = go_with xdg o.shell

  abbrev book : Book
  book = now.owned.shell

  abbrev owned : Owned
  owned = record o { shell = left }

  -- what the shell dismisses next is what goes next
  goes-next : AreFound book → (result : Option ℕ) → IsNewest (dismissible_under book (kept_of book surface)) (kept_of book) result → NextIs names (kept_of book) is left result
  goes-next found result newest =
      subst (λ (b : Bool). NextIs names (kept_of book) (goes_with b xdg) left result) (so.were.popups xdg)
      (popups-dismissed.next names now.owned.surfaces.states now.owned.surfaces.family book owned xdg surface result found so.owns so.were.has_order named newest)

  pub dismissed-on : AreFound book → (new : Kept A) (went : ℕ) (after : ℕ → Option KeptXdg) → now.client.ended ≡ None
      → IsNewest (dismissible_under book (kept_of book surface)) (kept_of book) (Some went)
      → after ≡ changing went (kept_changed dismiss) (kept_of book) → kept_of new.owned.shell ≡ after → new.owned.surfaces ≡ now.owned.surfaces
      → ((popup : ℕ) → role_id (after went) ≡ Some popup → (m : Peer) → IsPeer now.client m → (n : Peer) × Queues (said popup (says XdgPopup 1 []) ∷ []) m n × IsPeer new.client n)
      → IsDismissedTo names xdg o (count + 1) p new
  dismissed-on found new went after lives newest changes keeps linked tells =
      let next = goes-next found (Some went) newest in
      let it = next.0 in
      let id : role_id (after went) ≡ Some it.object.id =
      ap (λ (ks : ℕ → Option KeptXdg). role_id (ks went)) changes ∙ ap role_id (changed-here went (kept_changed dismiss) (kept_of book)) ∙ id-stays (kept_of book went) ∙ next.1.object in
      let told = tells it.object.id id q so.peer in
      let alive : q.status ≡ None = sym so.peer.status ∙ lives in
      let rest = with_dismissed it.xdg.id left in
      let more = subst (λ (ps : List Popped). IsToldSo (map done_told (undismissed is o.shell)) (map done_told ps) p q) next.1.next.order so.told in
      let owns = popups-dismissed.dismissed names now.owned.surfaces.states now.owned.surfaces.family (kept_of book) owned went it (kept_of new.owned.shell) so.owns next.1.next.only next.1.surface
      (keeps ∙ changes) in
      let many : length (gone ++ it ∷ []) ≡ count + 1 = let both = length-append gone (it ∷ []) in let was = so.many in omega (arith, both, was) in (
        told.0,
        gone ++ it ∷ [],
        rest,
        record {
          peer = told.2;
          many = many;
          were = popups-dismissed.on.next is o.shell left gone it.xdg.surface it so.were next.1.next;
          told = told-one (map done_told (undismissed is o.shell)) (map done_told (undismissed is rest)) (done_told it) p q told.0 more alive told.1;
          owns = subst (λ (l : SurfacesView). IsOwned names l.states l.family (kept_of new.owned.shell) (record o { shell = rest })) (sym linked) owns;
        },
      )

  -- all went
  pub all-dismissed : AreFound book → (new : Kept A) → IsNewest (dismissible_under book (kept_of book surface)) (kept_of book) None → new.client ≡ now.client → new.owned.surfaces ≡ now.owned.surfaces
      → new.owned.shell ≡ book → AreDismissed names xdg o p q new
  all-dismissed found new newest client linked shell =
      let none = goes-next found None newest in
      let ends = popups-dismissed.on.end is o.shell left gone so.were none.0 none.1 in
      let all = map done_told (undismissed is o.shell) in
      let rest = subst (λ (ps : List Popped). IsToldSo all (map done_told ps) p q) none.0 so.told in
      record {
        peer = rw client so.peer;
        told = at all rest q.status refl;
        owns = λ alive. rw (linked, shell, ends.1) so.owns;
      }
    where
      at : (all : List Said) → IsToldSo all [] p q → (status : Option Cause) → q.status ≡ status → Queues all p q
      at all rest None e = rest.alive e q refl
      at all rest (Some cause) e = rest.over (ap is_some e)

  -- an event wasn't queued
  pub dismissed-over : is_some now.client.ended ≡ true → AreDismissed names xdg o p q now
  dismissed-over over = record {
    peer = so.peer;
    told = so.told.over (ap is_some (sym so.peer.status) ∙ over);
    owns = λ alive. absurd (let clash : true ≡ false = sym over ∙ ap is_some alive in cc);
  }

  -- there are no more
  pub no-more-go : length o.shell ≤ 256 → 257 ≤ count → ⊥
  no-more-go few past =
      let many = so.many in
      let go = few-go is o.shell in
      let order : length (undismissed is o.shell) ≡ length (gone ++ undismissed is left) = ap length so.were.order in
      let both = length-append gone (undismissed is left) in
      omega (arith, many, go, order, both, few, past)
