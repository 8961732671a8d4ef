-- What is known of an accepted message that asks what may be asked where no more than toplevels is served.
use Rattle.std.proofs.Common.{◌≡◌, ℕ, zero, suc, List, [], ◌∷◌, Bool, true, false, Option, Some, None, Result, refl, ap, sym, subst, ◌∙◌, inl}
use Rattle.std.specs.Prelude.{pos, Ok, Err, ◌==◌, ◌&&◌, ◌||◌, if◌then◌else◌, int_lt, is_some, length, nat_le}
use Rattle.std.specs.List.{list_any}
use Rattle.std.specs.Option.{option_map_or}
use Rattle.std.proofs.lemmas.Bool.{eqb-true}
use Rattle.wl_wire.specs.Wire.{Field}
use Rattle.wl_geom.specs.declared.rect.Rect.{Rect}
use Rattle.wl_proto.specs.declared.interface.Interface.{Interface}
use Rattle.wl_proto.specs.declared.interface.Interface.TheVariants.{WlCompositor, WlSurface, XdgWmBase, XdgPositioner, XdgSurface}
use Rattle.wl_proto.specs.Table.{AnObject}
use Rattle.spec_desktop.specs.declared.actions.Action.{Action}
use Rattle.spec_desktop.specs.declared.refusals.Refusal.{Refusal}
use Rattle.spec_desktop.specs.Judgement.{action_of}
use Rattle.spec_desktop.specs.Requests.{number_in, word_in, base_request, compositor_request, request_in, xdg_request, rect}
use Rattle.spec_desktop.specs.Peer.{known_of}
use Rattle.wl_shell.specs.Positioner.{is_complete}
use Rattle.wl_shell.specs.Shell.{XdgSurface as Xdg, answers_states, is_full, is_waiting, stage_of, xdg_at, xdg_of}
use Rattle.spec_desktop.specs.Ask.{Ask, owns}
use Rattle.spec_desktop.specs.Demand.{Demand}
use Rattle.spec_desktop.specs.Demanding.{base_demand, compositor_demand, demands, own_demand, xdg_asked}
use Rattle.spec_desktop.specs.Desktop.{Resident}
use Rattle.spec_desktop.specs.XdgPopup.{is_no_popup, may_be_parent, positioner_of}
use Rattle.spec_desktop.specs.XdgShell.{acknowledged_by, configured_again, geometry_set, has_any, is_foreign, is_no_toplevel, role_of, state_asked}
use Rattle.law_desktop.proofs.Soundness.Orderly.{HasNoRole, IsAllowed, IsObject}
use Rattle.law_desktop.proofs.Soundness.AllowedHeard.{fresh-first}
use Rattle.law_desktop.proofs.Soundness.AllowedOwn.{AllowsOwn, IsHeardBy, own-allowed}
use Rattle.law_desktop.proofs.Lists.Keys.{found-passes}
use Rattle.law_desktop.proofs.Truth.{none-there, or-left, or-right}

-- what a message that is accepted demands is allowed
abbrev pub Allows : Resident → Result Demand Refusal → Type 0
Allows r (Ok demand) = IsAllowed r demand
Allows r (Err refusal) = Unit {0}

pub either : (r : Resident) (b : Bool) (x y : Result Demand Refusal) → (b ≡ true → Allows r x) → (b ≡ false → Allows r y) → Allows r (if b then x else y)
either r true x y f g = f refl
either r false x y f g = g refl

-- and what it asks
abbrev pub AllowsAsk : Resident → Result Ask Refusal → Type 0
AllowsAsk r judged = Allows r (demands judged)

pub ask-either : (r : Resident) (b : Bool) (x y : Result Ask Refusal) → (b ≡ true → AllowsAsk r x) → (b ≡ false → AllowsAsk r y) → AllowsAsk r (if b then x else y)
ask-either r true x y f g = f refl
ask-either r false x y f g = g refl

own-asked : (r : Resident) (judged : Result Action Refusal) → AllowsOwn r judged → AllowsAsk r (owns judged)
own-asked r (Ok action) own = own
own-asked r (Err refusal) own = tt

pub own-allowed-so : (interface : Interface) (r : Resident) (object version opcode : ℕ) (fields : List Field) → IsHeardBy interface r object opcode fields
    → Allows r (own_demand r object version (request_in interface opcode fields))
own-allowed-so interface r object version opcode fields heard =
    own-asked r (action_of (known_of r.peer) object version (request_in interface opcode fields)) (own-allowed interface r object opcode fields heard (known_of r.peer) version)

pub compositor-allowed : (r : Resident) (object version opcode : ℕ) (fields : List Field) → IsHeardBy WlCompositor r object opcode fields
    → Allows r (compositor_demand r object version (compositor_request opcode fields))
compositor-allowed r object version zero fields heard =
    ask-either r (nat_le 256 (length r.owned.surfaces.surfaces)) _ _ (λ f. tt) (λ f. fresh-first r.peer.objects _ [] _ fields heard.kinds heard.fresh)
compositor-allowed r object version (suc zero) fields heard = own-allowed-so WlCompositor r object version 1 fields heard
compositor-allowed r object version (suc (suc opcode)) fields heard = absurd heard.kinds

-- ---- the shell

pub base-allowed : (r : Resident) (object version opcode : ℕ) (fields : List Field) → IsHeardBy XdgWmBase r object opcode fields → Allows r (base_demand r object version (base_request opcode fields))
base-allowed r object version zero fields heard = ask-either r (list_any (λ x. x.base == object) r.owned.shell) _ _ (λ f. tt) (λ f. inl heard.live)
base-allowed r object version (suc zero) fields heard = own-allowed-so XdgWmBase r object version 1 fields heard
base-allowed r object version (suc (suc zero)) fields heard =
    let surface = word_in 1 fields in
    ask-either r (is_foreign (role_of r surface) || is_some (xdg_of surface r.owned.shell)) _ _ (λ f. tt)
    (λ f. ask-either r (has_any r surface) _ _ (λ g. tt)
    (λ g. (
      fresh-first r.peer.objects _ (AnObject WlSurface false ∷ []) _ fields heard.kinds heard.fresh,
      or-left (is_foreign (role_of r surface)) (is_some (xdg_of surface r.owned.shell)) f,
      none-there (xdg_of surface r.owned.shell) (or-right (is_foreign (role_of r surface)) (is_some (xdg_of surface r.owned.shell)) f),
    )))
base-allowed r object version (suc (suc (suc zero))) fields heard = tt
base-allowed r object version (suc (suc (suc (suc opcode)))) fields heard = absurd heard.kinds

-- what an id finds has it
pub at-id : (r : Resident) (object : ℕ) (x : Xdg) → xdg_at object r.owned.shell ≡ Some x → x.id ≡ object
at-id r object x e = eqb-true x.id object (found-passes (λ y. y.id == object) r.owned.shell x e)

-- and is found by its id
pub found-bare : (r : Resident) (object : ℕ) (x : Xdg) → xdg_at object r.owned.shell ≡ Some x → x.role ≡ None → HasNoRole (xdg_at x.id r.owned.shell)
found-bare r object x e bare = subst (λ o. HasNoRole o) (sym e ∙ ap (λ n. xdg_at n r.owned.shell) (sym (at-id r object x e))) bare

geometry-allowed : (r : Resident) (x : Xdg) (rect : Rect) → AllowsAsk r (geometry_set x rect)
geometry-allowed r x rect =
    ask-either r (is_some x.role) _ _ (λ e. ask-either r (int_lt (pos 0) rect.w && int_lt (pos 0) rect.h) _ _ (λ f. tt) (λ f. tt)) (λ e. tt)

acknowledged-allowed : (r : Resident) (x : Xdg) (serial : ℕ) → AllowsAsk r (acknowledged_by x serial)
acknowledged-allowed r x serial = ask-either r (is_some x.role) _ _ (λ e. ask-either r (is_waiting serial x.configures) _ _ (λ f. tt) (λ f. tt)) (λ e. tt)

-- an xdg_surface of that id
pub xdg-allowed : (r : Resident) (object version opcode : ℕ) (fields : List Field) (o : Option Xdg) → xdg_at object r.owned.shell ≡ o → IsHeardBy XdgSurface r object opcode fields
    → Allows r (xdg_asked r o version (xdg_request opcode fields))
xdg-allowed r object version opcode fields None is heard = tt
xdg-allowed r object version zero fields (Some x) is heard =
    ask-either r (is_some x.role) _ _ (λ f. tt)
    (λ f. (subst (λ n. IsObject XdgSurface n r) (sym (at-id r object x is)) heard.live, found-bare r object x is (none-there x.role f)))
xdg-allowed r object version (suc zero) fields (Some x) is heard =
    ask-either r (is_some x.role) _ _ (λ f. tt)
    (λ f. ask-either r (is_no_toplevel (role_of r x.surface)) _ _ (λ g. tt)
    (λ g. (fresh-first r.peer.objects _ [] _ fields heard.kinds heard.fresh, found-bare r object x is (none-there x.role f))))
xdg-allowed r object version (suc (suc zero)) fields (Some x) is heard =
    let p = positioner_of (r.peer.positioners (word_in 2 fields)) in
    either r (is_some x.role) _ _ (λ e. tt)
    (λ e. either r (is_no_popup (role_of r x.surface)) _ _ (λ f. tt)
    (λ f. either r (may_be_parent (xdg_at (word_in 1 fields) r.owned.shell)) _ _
    (λ g. either r (is_complete p) _ _
    (λ h. (
      fresh-first r.peer.objects _ (AnObject XdgSurface true ∷ AnObject XdgPositioner false ∷ []) _ fields heard.kinds heard.fresh,
      found-bare r object x is (none-there x.role e),
    ))
    (λ h. tt))
    (λ g. tt)))
xdg-allowed r object version (suc (suc (suc zero))) fields (Some x) is heard =
    geometry-allowed r x (rect (number_in 0 fields) (number_in 1 fields) (number_in 2 fields) (number_in 3 fields))
xdg-allowed r object version (suc (suc (suc (suc zero)))) fields (Some x) is heard = acknowledged-allowed r x (word_in 0 fields)
xdg-allowed r object version (suc (suc (suc (suc (suc opcode))))) fields (Some x) is heard = absurd heard.kinds

again-allowed : (r : Resident) (x : Xdg) → AllowsAsk r (configured_again x)
again-allowed r x = ask-either r (option_map_or answers_states (stage_of x) false) _ _ (λ e. ask-either r (is_full x.configures) _ _ (λ f. tt) (λ f. tt)) (λ e. tt)

pub state-allowed : (r : Resident) (o : Option Xdg) → AllowsAsk r (state_asked o)
state-allowed r None = tt
state-allowed r (Some x) = again-allowed r x
