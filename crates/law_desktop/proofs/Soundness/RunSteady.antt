-- What a message changes is neither whether its client lives nor how many requests it made.
use Rattle.std.proofs.Common.{◌≡◌, ℕ, List, [], ◌∷◌, Bool, true, false, Option, Some, None, refl}
use Rattle.std.specs.Prelude.{fold}
use Rattle.wl_store.specs.Stores.{Stock}
use Rattle.spec_desktop.specs.declared.actions.Action.{Action}
use Rattle.spec_desktop.specs.declared.actions.Action.TheVariants.{DestroyBuffer}
use Rattle.spec_desktop.specs.Peer.{Peer, changed, removed}
use Rattle.spec_desktop.specs.Used.{changed_with, has_used, keeps_store}
use Rattle.wl_shell.specs.Positioner.{Positioner}
use Rattle.wl_shell.specs.Shell.{Effect, Stays, XdgSurface, xdg_at, xdg_of}
use Rattle.wl_surface.specs.Surfaces.{is_used}
use Rattle.wl_surface.specs.Waiting.{Callback}
use Rattle.spec_desktop.specs.Ask.{Ask, Own, GetToplevel}
use Rattle.spec_desktop.specs.Changing.{Placing, placement_now, callbacks_of, changed_for, drawing, effect_placing, grab_allowed, grabbed, has_focus, in_rising_order, mode_set, popup_given_to, tree_committed}
use Rattle.spec_desktop.specs.Demand.{Demand, Asks, EndSurface, CommitTree, SetMode, GetPointer}
use Rattle.spec_desktop.specs.Demand.{GetPopup, Grab}
use Rattle.spec_desktop.specs.Demanding.{effect_of_commit}
use Rattle.spec_desktop.specs.Desktop.{Desktop, Resident}
use Rattle.spec_desktop.specs.Step.{changed_by, toplevel_given}
use Rattle.wl_shell.specs.Popups.{Popped, copying, is_configured, popup_at, repositioning}
use Rattle.spec_desktop.specs.Changing.{popup_repositioned}
use Rattle.spec_desktop.specs.Demand.{Reposition}
use Rattle.spec_desktop.specs.Step.{xdg_changed}

abbrev pub IsSteady : Peer → Peer → Type 0
IsSteady p q = (q.status ≡ p.status) × (q.requests ≡ p.requests)

stored-steady : (b : Bool) (stores : Stock) (p : Peer) → IsSteady p (keeps_store b stores p)
stored-steady true stores p = (refl, refl)
stored-steady false stores p = (refl, refl)

own-steady : (used : ℕ → Bool) (action : Action) (p : Peer) → IsSteady p (changed_with used action p)
own-steady used (DestroyBuffer id store) p = stored-steady (has_used used (p.buffers id)) p.stores (changed (DestroyBuffer id store) p)
own-steady used action p = (refl, refl)

toplevel-steady : (id xdg : ℕ) (x : Option XdgSurface) (r : Resident) → IsSteady r.peer (toplevel_given id xdg x r).peer
toplevel-steady id xdg None r = (refl, refl)
toplevel-steady id xdg (Some x) r = (refl, refl)

asked-steady : (ask : Ask) (r : Resident) → IsSteady r.peer (changed_by ask r).peer
asked-steady (Own action) r = own-steady (λ number. is_used number r.owned.surfaces) action r.peer
asked-steady (GetToplevel id version xdg) r = toplevel-steady id xdg (xdg_at xdg r.owned.shell) r
asked-steady ask r = (refl, refl)

pub callbacks-steady : (gone : List Callback) (p : Peer) → IsSteady p (fold (λ p callback. removed callback.id p) p gone)
callbacks-steady [] p = (refl, refl)
callbacks-steady (callback ∷ gone) p = callbacks-steady gone (removed callback.id p)

effect-steady : (where_to : Placing) (surface : ℕ) (effect : Effect) (x : Option XdgSurface) (r : Resident) → IsSteady r.peer (effect_placing where_to surface effect x r).peer
effect-steady where_to surface effect None r = (refl, refl)
effect-steady where_to surface Stays (Some x) r = (refl, refl)
effect-steady where_to surface effect x r = (refl, refl)

mode-steady : (link : ℕ) (b : Bool) (r : Resident) → IsSteady r.peer (mode_set link b r).peer
mode-steady link true r = (refl, refl)
mode-steady link false r = (refl, refl)

popup-steady : (id xdg parent : ℕ) (p : Positioner) (x : Option XdgSurface) (r : Resident) → IsSteady r.peer (popup_given_to id xdg parent p x r).peer
popup-steady id xdg parent p None r = (refl, refl)
popup-steady id xdg parent p (Some x) r = (refl, refl)

grab-steady : (b : Bool) (xdg : ℕ) (r : Resident) → IsSteady r.peer (grabbed b xdg r).peer
grab-steady true xdg r = (refl, refl)
grab-steady false xdg r = (refl, refl)

drawing-steady : (b : Bool) (r : Resident) → IsSteady r.peer (drawing b r).peer
drawing-steady true r = (refl, refl)
drawing-steady false r = (refl, refl)

repositioned-steady : (where_to : Placing) (p : Positioner) (o : Option Popped) (r : Resident) → IsSteady r.peer (popup_repositioned where_to p o r).peer
repositioned-steady where_to p None r = (refl, refl)
repositioned-steady where_to p (Some q) r =
    drawing-steady (is_configured q) (xdg_changed q.xdg.id (repositioning (is_configured q) r.peer.serial (where_to (copying p q.popup)) p) r)

pub changed-steady : (c : ℕ) (demand : Demand) (d : Desktop) (r : Resident) → IsSteady r.peer (changed_for c demand r d).peer
changed-steady c (Asks ask) d r = asked-steady ask r
changed-steady c (EndSurface id) d r = callbacks-steady (callbacks_of id r) _
changed-steady c (CommitTree surface) d r = effect-steady (placement_now c r d) surface (effect_of_commit r surface) (xdg_of surface r.owned.shell) (tree_committed surface r)
changed-steady c (SetMode link synchronised) d r = mode-steady link synchronised r
changed-steady c (GetPointer id version) d r = drawing-steady (has_focus c d.pointer.focus) (record r { pointers = in_rising_order id r.pointers })
changed-steady c (GetPopup id version xdg parent p) d r = popup-steady id xdg parent p (xdg_at xdg r.owned.shell) r
changed-steady c (Reposition xdg token p) d r = repositioned-steady (placement_now c r d) p (popup_at xdg r.owned.shell) r
changed-steady c (Grab xdg serial) d r = grab-steady (grab_allowed c xdg serial r d) xdg r
changed-steady c demand d r = (refl, refl)
