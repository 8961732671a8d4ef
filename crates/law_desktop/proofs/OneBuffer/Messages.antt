-- An accepted message leaves its client one buffer of each number.
use Rattle.std.proofs.Common.{◌≡◌, ◌≤◌, ℕ, ◌+◌, List, [], ◌∷◌, Bool, true, false, Option, Some, None, refl, ap, sym, subst, ◌∙◌, inl, inr, arith}
use Rattle.std.specs.Prelude.{◌⊎◌, fold}
use Rattle.wl_store.specs.Stores.{Stock}
use Rattle.spec_desktop.specs.declared.actions.Action.{Action}
use Rattle.spec_desktop.specs.declared.actions.Action.TheVariants.{CreateBuffer}
use Rattle.spec_desktop.specs.declared.actions.Action.TheVariants.{DestroyBuffer}
use Rattle.spec_desktop.specs.Buffers.{Buffer as Made, Laid, numbered}
use Rattle.spec_desktop.specs.Objects.{ById, with_id}
use Rattle.spec_desktop.specs.Peer.{Peer, changed, removed}
use Rattle.spec_desktop.specs.Used.{changed_with, has_used, keeps_store}
use Rattle.wl_surface.specs.Request.{Buffer, Request, Frame}
use Rattle.wl_surface.specs.declared.role.Role.{Role}
use Rattle.wl_surface.specs.Surface.{asking, with_role}
use Rattle.wl_surface.specs.Surfaces.{Surfaces, is_used, with_change}
use Rattle.wl_surface.specs.Waiting.{Callback}
use Rattle.wl_shell.specs.Positioner.{Positioner}
use Rattle.wl_shell.specs.Shell.{Effect, Stays, XdgSurface, xdg_at, xdg_of}
use Rattle.wl_shell.specs.Popups.{Popped, copying, is_configured, popup_at, repositioning}
use Rattle.spec_desktop.specs.Ask.{Ask, Own, CreateSurface, AskSurface, GetToplevel}
use Rattle.spec_desktop.specs.Changing.{Placing, callbacks_of, changed_for, drawing, effect_placing, placement_now, grab_allowed, grabbed, has_focus, in_rising_order, link_with_id, mode_set, popup_given_to, tree_committed}
use Rattle.spec_desktop.specs.Changing.{popup_repositioned}
use Rattle.spec_desktop.specs.Demand.{Demand, Asks, EndSurface, AskFrame, CommitTree, GetSubsurface, EndSubsurface, SetMode, GetPointer, MakeCursor, Reposition}
use Rattle.spec_desktop.specs.Demand.{GetPopup, Grab}
use Rattle.spec_desktop.specs.Demanding.{effect_of_commit}
use Rattle.spec_desktop.specs.Desktop.{Desktop, Resident}
use Rattle.spec_desktop.specs.Step.{changed_by, toplevel_given, xdg_changed}
use Rattle.law_desktop.proofs.Soundness.RunSteady.{changed-steady}
use Rattle.law_desktop.specs.OneBuffer.{Attaches, HasOneBuffer, IsAttached, OneBuffer}
use Rattle.law_desktop.proofs.OneBuffer.Attached.{Fewer, fewer-asked, fewer-changed, fewer-committed, fewer-desynchronised, fewer-destroyed, fewer-linked, fewer-new, fewer-unlinked, or-asked}
use Rattle.law_desktop.proofs.OneBuffer.Keeping.{Lives, attached-one, created-one, fewer-gone, fewer-one}
use Rattle.law_desktop.proofs.OneBuffer.Named.{IsFrom, IsRequestFrom, attaches-lives}

-- the wl_buffers stay, and nothing more is attached
abbrev pub Spares : Resident → Resident → Type 0
Spares r q = (q.peer.buffers ≡ r.peer.buffers) × Fewer r.owned.surfaces q.owned.surfaces

spares-all : (r : Resident) → Fewer r.owned.surfaces r.owned.surfaces
spares-all r b h = h

-- a change of a surface that asks nothing
role-fewer : (id : ℕ) (role : Role) (all : Surfaces) → Fewer all (with_change id (with_role role) all)
role-fewer id role all = fewer-changed id (with_role role) (λ s. refl) all

-- ---- what is done beside surfaces

pub callbacks-buffers : (gone : List Callback) (p : Peer) → (fold (λ p callback. removed callback.id p) p gone).buffers ≡ p.buffers
callbacks-buffers [] p = refl
callbacks-buffers (callback ∷ gone) p = callbacks-buffers gone (removed callback.id p)

toplevel-spares : (id xdg : ℕ) (x : Option XdgSurface) (r : Resident) → Spares r (toplevel_given id xdg x r)
toplevel-spares id xdg None r = (refl, spares-all r)
toplevel-spares id xdg (Some x) r = (refl, role-fewer x.surface _ r.owned.surfaces)

popup-spares : (id xdg parent : ℕ) (p : Positioner) (x : Option XdgSurface) (r : Resident) → Spares r (popup_given_to id xdg parent p x r)
popup-spares id xdg parent p None r = (refl, spares-all r)
popup-spares id xdg parent p (Some x) r = (refl, role-fewer x.surface _ r.owned.surfaces)

effect-spares : (where_to : Placing) (surface : ℕ) (effect : Effect) (x : Option XdgSurface) (r : Resident) → Spares r (effect_placing where_to surface effect x r)
effect-spares where_to surface effect None r = (refl, spares-all r)
effect-spares where_to surface Stays (Some x) r = (refl, spares-all r)
effect-spares where_to surface effect x r = (refl, spares-all r)

grab-spares : (b : Bool) (xdg : ℕ) (r : Resident) → Spares r (grabbed b xdg r)
grab-spares true xdg r = (refl, spares-all r)
grab-spares false xdg r = (refl, spares-all r)

drawing-spares : (b : Bool) (r : Resident) → Spares r (drawing b r)
drawing-spares true r = (refl, spares-all r)
drawing-spares false r = (refl, spares-all r)

repositioned-spares : (where_to : Placing) (p : Positioner) (o : Option Popped) (r : Resident) → Spares r (popup_repositioned where_to p o r)
repositioned-spares where_to p None r = (refl, spares-all r)
repositioned-spares where_to p (Some q) r =
    drawing-spares (is_configured q) (xdg_changed q.xdg.id (repositioning (is_configured q) r.peer.serial (where_to (copying p q.popup)) p) r)

mode-spares : (link : ℕ) (b : Bool) (r : Resident) → Spares r (mode_set link b r)
mode-spares link true r = (refl, spares-all r)
mode-spares link false r = (refl, fewer-desynchronised link r.owned.surfaces)

commit-spares : (c surface : ℕ) (r : Resident) (d : Desktop) → Spares r (changed_for c (CommitTree surface) r d)
commit-spares c surface r d =
    let it = effect-spares (placement_now c r d) surface (effect_of_commit r surface) (xdg_of surface r.owned.shell) (tree_committed surface r) in
    (it.0, λ b h. fewer-committed surface r.owned.surfaces b (it.1 b h))

-- ---- what is asked of wl_buffers

module _ (n : ℕ) (r : Resident) (next : r.peer.requests ≡ n + 1) (one : OneBuffer n r.peer.buffers r.owned.surfaces) where
  abbrev Keeps : Resident → Type 0
  Keeps q = OneBuffer (n + 1) q.peer.buffers q.owned.surfaces

  more : n ≤ n + 1
  more = omega arith

  spared : (q : Resident) → Spares r q → Keeps q
  spared q it =
      fewer-one n (n + 1) r.peer.buffers q.peer.buffers r.owned.surfaces q.owned.surfaces more
      (λ id made e. sym (ap (λ (x : ById Made). x id) it.0) ∙ e) it.1 one

  abbrev Own_keeps : Peer → Type 0
  Own_keeps p = OneBuffer (n + 1) p.buffers r.owned.surfaces

  own-same : Own_keeps r.peer
  own-same = spared r (refl, spares-all r)

  gone : (used : Bool) (stores : Stock) (id store : ℕ) → Own_keeps (keeps_store used stores (changed (DestroyBuffer id store) r.peer))
  gone true stores id store = fewer-one n (n + 1) r.peer.buffers _ r.owned.surfaces r.owned.surfaces more (fewer-gone id r.peer.buffers) (spares-all r) one
  gone false stores id store = fewer-one n (n + 1) r.peer.buffers _ r.owned.surfaces r.owned.surfaces more (fewer-gone id r.peer.buffers) (spares-all r) one

  created : (id : ℕ) (laid : Laid) → OneBuffer (n + 1) (with_id id (Some (numbered r.peer.requests laid)) r.peer.buffers) r.owned.surfaces
  created id laid =
      subst (λ (k : ℕ). OneBuffer (n + 1) (with_id id (Some (numbered k laid)) r.peer.buffers) r.owned.surfaces) (sym next)
      (created-one n id laid r.peer.buffers r.owned.surfaces one)

  own-keeps : (used : ℕ → Bool) (action : Action) → Own_keeps (changed_with used action r.peer)
  own-keeps used (CreateBuffer id version laid) = created id laid
  own-keeps used (DestroyBuffer id store) = gone (has_used used (r.peer.buffers id)) r.peer.stores id store
  own-keeps used action = own-same

  asked-keeps : (id : ℕ) (request : Request) → IsRequestFrom r.peer.buffers request
      → OneBuffer (n + 1) r.peer.buffers (with_change id (asking request) r.owned.surfaces)
  asked-keeps id request from =
      attached-one n r.peer.buffers r.owned.surfaces one (with_change id (asking request) r.owned.surfaces) (λ b h. at b (or-asked id request r.owned.surfaces b h))
    where
      at : (b : Buffer) → IsAttached b r.owned.surfaces ⊎ Attaches b request → IsAttached b r.owned.surfaces ⊎ Lives r.peer.buffers b
      at b (inl h) = inl h
      at b (inr e) = inr (attaches-lives r.peer.buffers request b from e)

  ask-keeps : (ask : Ask) → IsFrom r.peer.buffers (Asks ask) → Keeps (changed_by ask r)
  ask-keeps (Own action) from = own-keeps (λ number. is_used number r.owned.surfaces) action
  ask-keeps (CreateSurface id version) from = spared (changed_by (CreateSurface id version) r) (refl, fewer-new id r.owned.surfaces)
  ask-keeps (AskSurface id request) from = asked-keeps id request from
  ask-keeps (GetToplevel id version xdg) from = spared (changed_by (GetToplevel id version xdg) r) (toplevel-spares id xdg (xdg_at xdg r.owned.shell) r)
  ask-keeps ask from = own-same

  demand-keeps : (c : ℕ) (demand : Demand) (d : Desktop) → IsFrom r.peer.buffers demand → Keeps (changed_for c demand r d)
  demand-keeps c (Asks ask) d from = ask-keeps ask from
  demand-keeps c (EndSurface id) d from =
      spared (changed_for c (EndSurface id) r d) (callbacks-buffers (callbacks_of id r) _, fewer-destroyed id r.owned.surfaces)
  demand-keeps c (AskFrame id version surface) d from =
      spared (changed_for c (AskFrame id version surface) r d) (refl, fewer-asked surface (Frame r.peer.requests) r.owned.surfaces (λ b e. e))
  demand-keeps c (CommitTree surface) d from = spared (changed_for c (CommitTree surface) r d) (commit-spares c surface r d)
  demand-keeps c (GetSubsurface id version child parent) d from =
      spared (changed_for c (GetSubsurface id version child parent) r d) (refl, fewer-linked r.peer.requests child parent r.owned.surfaces)
  demand-keeps c (EndSubsurface id) d from =
      spared (changed_for c (EndSubsurface id) r d) (refl, fewer-unlinked (link_with_id id r) r.owned.surfaces)
  demand-keeps c (SetMode link synchronised) d from = spared (mode_set link synchronised r) (mode-spares link synchronised r)
  demand-keeps c (GetPointer id version) d from =
      spared (changed_for c (GetPointer id version) r d)
      (drawing-spares (has_focus c d.pointer.focus) (record r { pointers = in_rising_order id r.pointers }))
  demand-keeps c (MakeCursor surface) d from = spared (changed_for c (MakeCursor surface) r d) (refl, role-fewer surface _ r.owned.surfaces)
  demand-keeps c (GetPopup id version xdg parent p) d from =
      spared (changed_for c (GetPopup id version xdg parent p) r d) (popup-spares id xdg parent p (xdg_at xdg r.owned.shell) r)
  demand-keeps c (Reposition xdg token p) d from =
      spared (changed_for c (Reposition xdg token p) r d) (repositioned-spares (placement_now c r d) p (popup_at xdg r.owned.shell) r)
  demand-keeps c (Grab xdg serial) d from = spared (changed_for c (Grab xdg serial) r d) (grab-spares (grab_allowed c xdg serial r d) xdg r)
  demand-keeps c demand d from = own-same

  pub changed-keeps : (c : ℕ) (demand : Demand) (d : Desktop) → IsFrom r.peer.buffers demand → HasOneBuffer (changed_for c demand r d)
  changed-keeps c demand d from =
      let steady = changed-steady c demand d r in
      let now : Resident = changed_for c demand r d in
      subst (λ (k : ℕ). OneBuffer k now.peer.buffers now.owned.surfaces) (sym (steady.1 ∙ next)) (demand-keeps c demand d from)
