-- What came from a client and wasn't taken yet doesn't change what is done.
use Rattle.std.proofs.Common.{◌≡◌, ℕ, List, Bool, true, false, Option, Some, None, refl, ap, sym, ◌∙◌}
use Rattle.wl_proto.specs.declared.interface.Interface.TheVariants.{XdgToplevel}
use Rattle.wl_store.specs.Stores.{Stock}
use Rattle.spec_desktop.specs.declared.actions.Action.{Action}
use Rattle.spec_desktop.specs.declared.actions.Action.TheVariants.{DestroyBuffer}
use Rattle.spec_desktop.specs.declared.cause.Cause.{Cause}
use Rattle.spec_desktop.specs.Peer.{Peer, changed, with_rest}
use Rattle.wl_shell.specs.Shell.{XdgSurface as Xdg, xdg_at}
use Rattle.spec_desktop.specs.Ask.{Ask, Own, GetToplevel}
use Rattle.spec_desktop.specs.Desktop.{Resident}
use Rattle.spec_desktop.specs.Used.{has_used, keeps_store}
use Rattle.wl_surface.specs.Surfaces.{is_used}
use Rattle.spec_desktop.specs.Step.{answers_to, changed_by, making, own_changed, toplevel_given, with_peer}

-- a client from which this came and wasn't taken yet
abbrev pub with_behind : List ℕ → Resident → Resident
with_behind rest r = with_peer (with_rest rest r.peer) r

-- ---- what it changes

-- a client with another status, and from which this came
abbrev pub with_stream : Option Cause → List ℕ → Resident → Resident
with_stream s rest r = with_peer (record r.peer { status = s; rest = rest }) r

keeps-stream : (b : Bool) (stores : Stock) (p : Peer) (s : Option Cause) (rest : List ℕ) → keeps_store b stores (record p { status = s; rest = rest }) ≡ record (keeps_store b stores p) {
  status = s;
  rest = rest;
}
keeps-stream true stores p s rest = refl
keeps-stream false stores p s rest = refl

own-stream : (action : Action) (r : Resident) (s : Option Cause) (rest : List ℕ) → own_changed action (with_stream s rest r) ≡ with_stream s rest (own_changed action r)
own-stream (DestroyBuffer id store) r s rest =
    ap (λ (p : Peer). record r { peer = p })
    (keeps-stream (has_used (λ number. is_used number r.owned.surfaces) (r.peer.buffers id)) r.peer.stores (changed (DestroyBuffer id store) r.peer) s rest)
own-stream action r s rest = refl

toplevel-stream : (id xdg : ℕ) (x : Option Xdg) (r : Resident) (s : Option Cause) (rest : List ℕ) → toplevel_given id xdg x (with_stream s rest r) ≡ with_stream s rest (toplevel_given id xdg x r)
toplevel-stream id xdg None r s rest = refl
toplevel-stream id xdg (Some x) r s rest = refl

pub ask-stream : (ask : Ask) (r : Resident) (s : Option Cause) (rest : List ℕ) → changed_by ask (with_stream s rest r) ≡ with_stream s rest (changed_by ask r)
ask-stream (Own action) r s rest = own-stream action r s rest
ask-stream (GetToplevel id version xdg) r s rest =
    ap (λ (q : Resident). making XdgToplevel id version q) (toplevel-stream id xdg (xdg_at xdg r.owned.shell) r s rest)
ask-stream ask r s rest = refl

-- what is done is neither whether the client lives nor what came from it
pub ask-status : (ask : Ask) (r : Resident) → (changed_by ask r).peer.status ≡ r.peer.status
ask-status ask r = ap (λ (q : Resident). q.peer.status) (ask-stream ask r r.peer.status r.peer.rest)

pub ask-rest : (ask : Ask) (r : Resident) → (changed_by ask r).peer.rest ≡ r.peer.rest
ask-rest ask r = ap (λ (q : Resident). q.peer.rest) (ask-stream ask r r.peer.status r.peer.rest)

-- and the same is done
pub ask-behind : (ask : Ask) (r : Resident) (rest : List ℕ) → changed_by ask (with_behind rest r) ≡ with_behind rest (changed_by ask r)
ask-behind ask r rest =
    ask-stream ask r r.peer.status rest ∙ ap (λ (s : Option Cause). with_stream s rest (changed_by ask r)) (sym (ask-status ask r))

-- ---- what it is answered with

pub answers-behind : (ask : Ask) (r : Resident) (rest : List ℕ) → answers_to ask (with_behind rest r) ≡ answers_to ask r
answers-behind (Own action) r rest = refl
answers-behind ask r rest = refl
