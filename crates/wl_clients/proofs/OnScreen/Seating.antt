-- A client whose toplevels stand by surfaces that it has is at its seat.
use Rattle.std.proofs.Common.{◌≡◌, ℕ, List, Option, Some, None, refl, ap, sym, ◌∙◌, true}
use Rattle.std.proofs.lemmas.Bool.{true≢false}
use Rattle.std.specs.Prelude.{is_some}
use Rattle.std.specs.Option.{option_and_then}
use Rattle.wl_scene.specs.StackedAgreement.{AreStacked}
use Rattle.law_desktop.specs.Shown.{ShownStand, is_mapped_toplevel}
use Rattle.spec_desktop.specs.Objects.{ById}
use Rattle.spec_desktop.specs.Desktop.{Desktop, Resident, client_at, owned_of}
use Rattle.spec_desktop.specs.Stacked.{all_windows}
use Rattle.wl_requests.specs.declared.residents.Resident.{Resident as Kept}
use Rattle.wl_clients.specs.Agreement.{IsSeat, with_numbers}
use Rattle.wl_clients.specs.Seats.{IsSeated}
use Rattle.wl_clients.specs.View.{owned_view}
use Rattle.wl_clients.proofs.OnScreen.Sitting.{Known, Sits, numbers}
use Rattle.wl_scene.specs.Kept.{Stack}
use Rattle.wl_shell.specs.Agreement.{IsKept}
use Rattle.wl_scene.specs.declared.stacked.Stacked.{Stacked}
use Rattle.spec_desktop.specs.Stacking.{Owned}
use Rattle.wl_surface.specs.Surfaces.{history_in}
use Rattle.wl_shell.specs.Kept.{kept_of}
use Rattle.wl_shell.specs.Shell.{XdgSurface as Xdg, xdg_of}

-- a surface whose toplevel is mapped has a number
known-by : {N : Type 0} (kept : ℕ → Option N) (n : Option ℕ) (x : Option Xdg) (is_kept : Option N → Option Xdg → Type 0) → is_kept (option_and_then kept n) x → ((y : Xdg) → is_kept None (Some y) → ⊥)
    → is_mapped_toplevel x ≡ true → is_some n ≡ true
known-by kept (Some n) x is_kept h none mapped = refl
known-by kept None None is_kept h none mapped = absurd (true≢false (sym mapped))
known-by kept None (Some y) is_kept h none mapped = absurd (none y h)

-- the toplevels of a client that stand are those of its surfaces
pub known-mapped : {A : Type 0} (c : ℕ) (v : Kept A) (e : Desktop) (s : Resident) → client_at c e ≡ Some s → IsSeat v.client (owned_view v) s → ShownStand e → Known c v e
known-mapped c v e s there seat mapped surface has =
    known-by (kept_of v.owned.shell) (numbers v surface) (xdg_of surface s.owned.shell) (λ k x. IsKept k x (history_in surface s.owned.surfaces)) (seat.owns.shell.each surface) (λ y h. h)
    (ap (λ (o : Owned). is_mapped_toplevel (xdg_of surface o.shell)) (sym (ap (λ (o : Option Resident). owned_of o) there)) ∙ (sym ((mapped.each c).stands surface) ∙ has))

pub sits-seated : {A : Type 0} (c : ℕ) (others : ℕ → ById ℕ) (base : Desktop) (v : Kept A) (stack : Stack) (windows : List Stacked) (e : Desktop) (s : Resident) → Sits c others base v stack e s
    → ShownStand e → AreStacked (with_numbers c (numbers v) others) windows (all_windows e) → IsSeated c others base v (record { scene = stack; windows = windows }) e s
sits-seated c others base v stack windows e s sits mapped stacked =
    record {
      based = sits.based;
      seat = sits.seat;
      scene = sits.scene (known-mapped c v e s sits.based.there sits.seat mapped);
      windows = stacked;
      mapped = mapped;
    }
