-- What a client is told leaves it what it has.
use Rattle.std.proofs.Common.{◌≡◌, ℕ, List, [], ◌∷◌, ◌++◌, Bool, true, false, Option, Some, None, refl, ap, sym, ◌∙◌, inl, inr, append_assoc}
use Rattle.std.specs.Prelude.{◌==◌, ◌⊎◌, fold, if◌then◌else◌, map}
use Rattle.std.specs.List.{list_any}
use Rattle.std.specs.Option.{option_map}
use Rattle.std.proofs.lemmas.Bool.{eqb-true, false_from_ne_true}
use Rattle.spec_desktop.specs.declared.cause.Cause.{Cause}
use Rattle.spec_desktop.specs.declared.cause.Cause.TheVariants.{Memory, Slow}
use Rattle.spec_desktop.specs.Peer.{Peer, has_room, queued, removed}
use Rattle.spec_desktop.specs.Told.{Said, said_bytes}
use Rattle.wl_surface.specs.Frames.{frames_counting}
use Rattle.wl_surface.specs.Waiting.{Callback}
use Rattle.wl_shell.specs.Popups.{dismiss, dismissed_among, dismissed_with, is_among, popup_changed, with_popup, with_popup_role}
use Rattle.wl_shell.specs.Shell.{Kind, Toplevel, IsPopup, RoleObject, Shell, XdgSurface}
use Rattle.spec_desktop.specs.Windows.{Place, Window}
use Rattle.spec_desktop.specs.Changing.{drawing, without_callbacks}
use Rattle.spec_desktop.specs.Desktop.{Resident}
use Rattle.spec_desktop.specs.Pointing.{button_told, entered_surface, has_pointers, left_surface, motion_told}
use Rattle.spec_desktop.specs.Replies.{popups_done}
use Rattle.spec_desktop.specs.Settling.{QueuesFirst, QueuesTo, leave_drawn, noted, noted_if, number_of, told_drawn, without_grabs}
use Rattle.spec_desktop.specs.Happens.{callbacks_due, frames_told, is_counting}
use Rattle.law_desktop.specs.Own.{AreSameOrDismissed, HasItsOwn, IsSameOrDismissed, LivesOn}
use Rattle.law_desktop.proofs.Lists.Standings.{none-left}
use Rattle.law_desktop.proofs.Marks.Stacks.{equal-numbers}
use Rattle.law_desktop.proofs.Isolation.Told.{TellsBy, TellsFocus}
use Rattle.law_desktop.proofs.Truth.{or-left, or-right}

-- ---- its streams and tables

nothing_more : (p : Peer) → (more : List ℕ) × (p.unsent ≡ p.unsent ++ more)
nothing_more p = ([], sym (at p.unsent))
  where
    at : (bytes : List ℕ) → bytes ++ [] ≡ bytes
    at [] = refl
    at (b ∷ bytes) = ap (λ (rest : List ℕ). b ∷ rest) (at bytes)

lives-on : (p : Peer) → LivesOn p p
lives-on p = record { status = refl; requests = refl; regions = refl; pools = refl; buffers = refl; positioners = refl; stores = refl; unsent = nothing_more p; rest = refl; output = refl }

-- ids may go, and serials may be drawn
lives-else : (p q : Peer) → q ≡ record p { objects = q.objects; held = q.held; serial = q.serial } → LivesOn p q
lives-else p q e = record {
  status = ap (λ (x : Peer). x.status) e;
  requests = ap (λ (x : Peer). x.requests) e;
  regions = ap (λ (x : Peer). x.regions) e;
  pools = ap (λ (x : Peer). x.pools) e;
  buffers = ap (λ (x : Peer). x.buffers) e;
  positioners = ap (λ (x : Peer). x.positioners) e;
  stores = ap (λ (x : Peer). x.stores) e;
  unsent = ((nothing_more p).0, ap (λ (x : Peer). x.unsent) e ∙ (nothing_more p).1);
  rest = ap (λ (x : Peer). x.rest) e;
  output = ap (λ (x : Peer). x.output) e;
}

lives-more : (p : Peer) (more : List ℕ) → LivesOn p (record p { unsent = p.unsent ++ more })
lives-more p more = record { status = refl; requests = refl; regions = refl; pools = refl; buffers = refl; positioners = refl; stores = refl; unsent = (more, refl); rest = refl; output = refl }

lives-then : (p q s : Peer) → LivesOn p q → LivesOn q s → LivesOn p s
lives-then p q s h k = record {
  status = k.status ∙ h.status;
  requests = k.requests ∙ h.requests;
  regions = k.regions ∙ h.regions;
  pools = k.pools ∙ h.pools;
  buffers = k.buffers ∙ h.buffers;
  positioners = k.positioners ∙ h.positioners;
  stores = k.stores ∙ h.stores;
  unsent = (h.unsent.0 ++ k.unsent.0, k.unsent.1 ∙ ap (λ (bytes : List ℕ). bytes ++ k.unsent.0) h.unsent.1 ∙ append_assoc p.unsent h.unsent.0 k.unsent.0);
  rest = k.rest ∙ h.rest;
  output = k.output ∙ h.output;
}

-- ---- popups

twice_kind : (k : Kind) → with_popup dismiss (with_popup dismiss k) ≡ with_popup dismiss k
twice_kind Toplevel = refl
twice_kind (IsPopup popup) = refl

twice_role : (o : Option RoleObject) → option_map (with_popup_role dismiss) (option_map (with_popup_role dismiss) o) ≡ option_map (with_popup_role dismiss) o
twice_role None = refl
twice_role (Some object) = ap (λ (k : Kind). Some (record object { kind = k })) (twice_kind object.kind)

-- to be dismissed twice is to be dismissed once
twice : (x : XdgSurface) → popup_changed dismiss (popup_changed dismiss x) ≡ popup_changed dismiss x
twice x = ap (λ (o : Option RoleObject). record x { role = o }) (twice_role x.role)

same-then : (x y z : XdgSurface) → IsSameOrDismissed x y → IsSameOrDismissed y z → IsSameOrDismissed x z
same-then x y z (inl h) (inl k) = inl (k ∙ h)
same-then x y z (inr h) (inl k) = inr (k ∙ h)
same-then x y z (inl h) (inr k) = inr (k ∙ ap (λ (u : XdgSurface). popup_changed dismiss u) h)
same-then x y z (inr h) (inr k) = inr (k ∙ ap (λ (u : XdgSurface). popup_changed dismiss u) h ∙ twice x)

shell-same : (xs : Shell) → AreSameOrDismissed xs xs
shell-same [] = tt
shell-same (x ∷ xs) = (inl refl, shell-same xs)

shell-then : (xs ys zs : Shell) → AreSameOrDismissed xs ys → AreSameOrDismissed ys zs → AreSameOrDismissed xs zs
shell-then [] [] [] h k = tt
shell-then [] [] (z ∷ zs) h k = absurd k
shell-then [] (y ∷ ys) zs h k = absurd h
shell-then (x ∷ xs) [] zs h k = absurd h
shell-then (x ∷ xs) (y ∷ ys) [] h k = absurd k
shell-then (x ∷ xs) (y ∷ ys) (z ∷ zs) h k = (same-then x y z h.0 k.0, shell-then xs ys zs h.1 k.1)

shell-dismissed : (ids : List ℕ) (xs : Shell) → AreSameOrDismissed xs (map (dismissed_among ids) xs)
shell-dismissed ids [] = tt
shell-dismissed ids (x ∷ xs) = (at (is_among x.id ids), shell-dismissed ids xs)
  where
    at : (b : Bool) → IsSameOrDismissed x (if b then popup_changed dismiss x else x)
    at true = inr refl
    at false = inl refl

-- ---- a client

pub own-same : (r : Resident) → HasItsOwn r r
own-same r = record {
  peer = lives-on r.peer;
  objects = λ id none. refl;
  surfaces = refl;
  shell = shell-same r.owned.shell;
  subsurfaces = refl;
  callbacks = λ id none. none;
  pointers = refl;
}

pub own-then : (p q r : Resident) → HasItsOwn p q → HasItsOwn q r → HasItsOwn p r
own-then p q r h k = record {
  peer = lives-then p.peer q.peer r.peer h.peer k.peer;
  objects = λ id none. k.objects id (h.callbacks id none) ∙ h.objects id none;
  surfaces = k.surfaces ∙ h.surfaces;
  shell = shell-then p.owned.shell q.owned.shell r.owned.shell h.shell k.shell;
  subsurfaces = k.subsurfaces ∙ h.subsurfaces;
  callbacks = λ id none. k.callbacks id (h.callbacks id none);
  pointers = k.pointers ∙ h.pointers;
}

pub own-more : (r : Resident) (more : List ℕ) → HasItsOwn r (record r { peer = record r.peer { unsent = r.peer.unsent ++ more } })
own-more r more = record {
  peer = lives-more r.peer more;
  objects = λ id none. refl;
  surfaces = refl;
  shell = shell-same r.owned.shell;
  subsurfaces = refl;
  callbacks = λ id none. none;
  pointers = refl;
}

pub own-drawn : (b : Bool) (r : Resident) → HasItsOwn r (drawing b r)
own-drawn true r = record {
  peer = lives-else r.peer _ refl;
  objects = λ id none. refl;
  surfaces = refl;
  shell = shell-same r.owned.shell;
  subsurfaces = refl;
  callbacks = λ id none. none;
  pointers = refl;
}
own-drawn false r = own-same r

own-noted : (b : Bool) (r : Resident) → HasItsOwn r (noted b r)
own-noted true r = record {
  peer = lives-on r.peer;
  objects = λ id none. refl;
  surfaces = refl;
  shell = shell-same r.owned.shell;
  subsurfaces = refl;
  callbacks = λ id none. none;
  pointers = refl;
}
own-noted false r = record {
  peer = lives-on r.peer;
  objects = λ id none. refl;
  surfaces = refl;
  shell = shell-same r.owned.shell;
  subsurfaces = refl;
  callbacks = λ id none. none;
  pointers = refl;
}

own-noted_if : (b pressed : Bool) (r : Resident) → HasItsOwn r (noted_if b pressed r)
own-noted_if true pressed r = own-then r (noted pressed r) (told_drawn (noted pressed r)) (own-noted pressed r) (own-drawn (has_pointers (noted pressed r)) (noted pressed r))
own-noted_if false pressed r = own-same r

own-dismissed : (r : Resident) → HasItsOwn r (without_grabs r)
own-dismissed r = record {
  peer = lives-on r.peer;
  objects = λ id none. refl;
  surfaces = refl;
  shell = shell-dismissed (dismissed_with (λ p. p.popup.has_grab) r.owned.shell) r.owned.shell;
  subsurfaces = refl;
  callbacks = λ id none. none;
  pointers = refl;
}

-- ---- callbacks are done

gone-peer : (gone : List Callback) (p : Peer) → LivesOn p (fold (λ p callback. removed callback.id p) p gone)
gone-peer [] p = lives-on p
gone-peer (k ∷ ks) p = lives-then p (removed k.id p) _ (lives-else p (removed k.id p) refl) (gone-peer ks (removed k.id p))

unequal : (a b : ℕ) → (a == b) ≡ false → (b == a) ≡ false
unequal a b none = false_from_ne_true (b == a) (λ e. both (sym none ∙ equal-numbers a b (sym (eqb-true b a e))))
  where
    both : false ≡ true → ⊥
    both e = absurd (cc)

gone-objects : (gone : List Callback) (p : Peer) (id : ℕ) → list_any (λ callback. callback.id == id) gone ≡ false → (fold (λ p callback. removed callback.id p) p gone).objects id ≡ p.objects id
gone-objects [] p id none = refl
gone-objects (k ∷ ks) p id none =
    gone-objects ks (removed k.id p) id (or-right (k.id == id) (list_any (λ callback. callback.id == id) ks) none)
    ∙ at (id == k.id) (unequal k.id id (or-left (k.id == id) (list_any (λ callback. callback.id == id) ks) none))
  where
    at : (b : Bool) → b ≡ false → (if b then None else p.objects id) ≡ p.objects id
    at true e = absurd (cc)
    at false e = refl

own-done : (r : Resident) → HasItsOwn r (without_callbacks (callbacks_due r) r)
own-done r = record {
  peer = gone-peer (callbacks_due r) r.peer;
  objects = λ id none. gone-objects (callbacks_due r) r.peer id (none-left (λ callback. callback.id == id) (is_counting (frames_counting r.owned.surfaces)) r.callbacks none);
  surfaces = refl;
  shell = shell-same r.owned.shell;
  subsurfaces = refl;
  callbacks = λ id none. none-left (λ callback. callback.id == id) _ r.callbacks none;
  pointers = refl;
}

-- ---- it is told

-- why it wasn't told all, if it wasn't
abbrev pub IsLimit : Option Cause → Type 0
IsLimit None = Unit {0}
IsLimit (Some cause) = (cause ≡ Slow) ⊎ (cause ≡ Memory)

abbrev pub HasMore : Peer → Peer → Option Cause → Type 0
HasMore p q why = (more : List ℕ) × (q ≡ record p { unsent = p.unsent ++ more }) × IsLimit why

has-same : (p q : Peer) (why other : Option Cause) → q ≡ p → why ≡ other → IsLimit other → HasMore p q why
has-same p q why other e f limit =
    ((nothing_more p).0, e ∙ ap (λ (bytes : List ℕ). record p { unsent = bytes }) (nothing_more p).1, rw f limit)

pub has-more : (events : List Said) (p q : Peer) (why : Option Cause) → QueuesTo events p q why → HasMore p q why
has-more [] p q why h = has-same p q why None h.0 h.1 tt
has-more (event ∷ events) p q why h = at (has_room p.unsent event) (λ k. has-more events (queued event p) q why k) h
  where
    at : (b : Bool) → (QueuesTo events (queued event p) q why → HasMore (queued event p) q why) → QueuesFirst b (QueuesTo events (queued event p) q why) p q why → HasMore p q why
    at false later k = has-same p q why (Some Slow) k.0 k.1 (inl refl)
    at true later (inl k) = has-same p q why (Some Memory) k.0 k.1 (inr refl)
    at true later (inr k) =
        let m = later k in
        (said_bytes event ++ m.0, m.1 ∙ ap (λ (bytes : List ℕ). record p { unsent = bytes }) (append_assoc p.unsent (said_bytes event) m.0), m.2)

-- a client has what it had, and is to end for one of two reasons, if it is to end
abbrev pub StaysOwn : Resident → Resident → Option Cause → Type 0
StaysOwn r q why = HasItsOwn r q × IsLimit why

pub tells-own : (change : Resident → Resident) (events : Resident → List Said) → ((r : Resident) → HasItsOwn r (change r)) → TellsBy StaysOwn change events
tells-own change events own r q why h =
    let more = has-more (events r) (change r).peer q why h in
    let same : record (change r) { peer = q } ≡ record (change r) { peer = record (change r).peer { unsent = (change r).peer.unsent ++ more.0 } } =
    ap (λ (p : Peer). record (change r) { peer = p }) more.1 in
    (own-then r (change r) (record (change r) { peer = q }) (own r) (rw same (own-more (change r) more.0)), more.2)

-- So does all that clients are told: of frames,
abbrev pub TellsDone : (Resident → Resident → Option Cause → Type 0) → Type 0
TellsDone T = (time : ℕ) → TellsBy T (λ r. without_callbacks (callbacks_due r) r) (frames_told time)

-- and of the focus, of motions, of dismissed popups, and of presses and releases.
pub record TellsPointer (T : Resident → Resident → Option Cause → Type 0) : Type 0 where
  pub focus : TellsFocus T
  pub motion : (time : ℕ) (at : Option Place) (w : Option Window) → TellsBy T (λ r. r) (motion_told time at w)
  pub dismissed : TellsBy T without_grabs (λ r. popups_done r (without_grabs r))
  pub pressed : (time button : ℕ) (pressed : Bool) → TellsBy T (λ r. noted_if (has_pointers r) pressed r) (button_told time button (number_of pressed))

pub own-frames : TellsDone StaysOwn
own-frames time = tells-own (λ r. without_callbacks (callbacks_due r) r) (frames_told time) own-done

pub own-all : TellsPointer StaysOwn
own-all = record {
  focus = record {
    leave = λ surface. tells-own (leave_drawn surface) (left_surface surface) (λ r. own-drawn _ r);
    enter = λ at w. tells-own told_drawn (entered_surface at w) (λ r. own-drawn _ r);
  };
  motion = λ time at w. tells-own (λ r. r) (motion_told time at w) own-same;
  dismissed = tells-own without_grabs (λ r. popups_done r (without_grabs r)) own-dismissed;
  pressed = λ time button pressed.
      tells-own (λ r. noted_if (has_pointers r) pressed r) (button_told time button (number_of pressed)) (λ r. own-noted_if (has_pointers r) pressed r);
}
