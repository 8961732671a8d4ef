-- What is marked of a client's windows, by those that are kept of it, is what the desktop has of it.
use Rattle.std.proofs.Common.{◌≡◌, ℕ, ◌<◌, List, [], ◌∷◌, Bool, true, false, Option, Some, None, refl, ap, ap₂, sym, ◌∙◌, pos}
use Rattle.std.specs.Prelude.{ℤ, ◌==◌, ◌&&◌, ◌||◌, is_none, is_some, not}
use Rattle.std.specs.List.{list_any}
use Rattle.std.proofs.Math.Bool.{or-false}
use Rattle.wl_proto.specs.declared.interface.Interface.TheVariants.{WlSurface}
use Rattle.spec_desktop.specs.declared.cause.Cause.{Cause}
use Rattle.spec_desktop.specs.Objects.{ById}
use Rattle.spec_desktop.specs.Windows.{Window, contains}
use Rattle.wl_paint.specs.Damage.{Damaged, has}
use Rattle.wl_scene.specs.Marking.{IsAsLarge}
use Rattle.wl_scene.specs.Repaint.{window_has}
use Rattle.spec_desktop.specs.Desktop.{Desktop, Resident}
use Rattle.spec_desktop.specs.Stacked.{all_windows}
use Rattle.law_desktop.specs.Touching.{has_window_at}
use Rattle.law_desktop.specs.Ordered.{Ordered}
use Rattle.law_desktop.specs.Owning.{targets_in}
use Rattle.wl_scene.specs.declared.stacked.Stacked.{Stacked}
use Rattle.wl_scene.specs.StackedAgreement.{AreStacked, IsStacked}
use Rattle.wl_requests.specs.declared.residents.Resident.{Resident as Kept}
use Rattle.wl_clients.specs.Agreement.{with_numbers}
use Rattle.wl_clients.specs.Marking.{MarksOwnIf}
use Rattle.wl_clients.specs.Screens.{has_own, is_own_at}
use Rattle.wl_clients.specs.Seats.{IsClearedBy, IsSeated}
use Rattle.wl_clients.specs.View.{Pile, pile_of}
use Rattle.wl_clients.specs.declared.screen.screens.Screen.{Screen}

-- a window of the client contains the point where one that is kept does
own-stacked : (numbers : ℕ → ById ℕ) (c : ℕ) (x y : ℤ) (ss : List Stacked) (ws : List Window) → AreStacked numbers ss ws
    → has_own c x y ss ≡ list_any (λ w. (w.owner.client == c) && contains w x y) ws
own-stacked numbers c x y [] [] are = refl
own-stacked numbers c x y [] (w ∷ ws) are = absurd are
own-stacked numbers c x y (s ∷ ss) [] are = absurd are
own-stacked numbers c x y (s ∷ ss) (w ∷ ws) are = ap₂ (λ a b. a || b) (one s w are.0) (own-stacked numbers c x y ss ws are.1)
  where
    one : (s : Stacked) (w : Window) → IsStacked numbers s w → is_own_at c x y s ≡ ((w.owner.client == c) && contains w x y)
    one s w is = ap₂ (λ a b. a && b) (ap (λ (n : ℕ). n == c) is.client) (ap (λ t. window_has x y t) is.told)

own-windows : {A : Type 0} (c : ℕ) (others : ℕ → ById ℕ) (base d : Desktop) (r : Resident) (kept : Kept A) (pile : Pile) → IsSeated c others base kept pile d r → Ordered d → (x y : ℤ)
    → has_own c x y pile.windows ≡ has_window_at c x y d
own-windows c others base d r kept pile seated ordered x y =
    own-stacked (with_numbers c (targets_in WlSurface kept.client.objects) others) c x y pile.windows (all_windows d) seated.windows

-- they are marked
pub own-marked : {A : Type 0} (c : ℕ) (kept : Kept A) (pile : Pile) (old new : Damaged)
    → ((x y : ℕ) → x < old.width → y < old.height → has new x y ≡ (has old x y || has_own c (pos x) (pos y) pile.windows)) → IsAsLarge old new → MarksOwnIf true c kept pile old new
own-marked c kept pile old new points sides = (
  sides,
  λ others base d r seated ordered x y wide high.
      points x y wide high ∙ ap (λ (b : Bool). has old x y || b) (own-windows c others base d r kept pile seated ordered (pos x) (pos y)),
)

-- nothing is marked
pub own-unmarked : {A : Type 0} (c : ℕ) (kept : Kept A) (pile : Pile) (damage : Damaged) → MarksOwnIf false c kept pile damage damage
own-unmarked c kept pile damage = (record { width = refl; height = refl }, λ others base d r seated ordered x y wide high. sym (or-false (has damage x y)))

-- who hasn't ended lives
pub lives-none : {X : Type 0} (o : Option X) (b : Bool) → b ≡ is_some o → is_none o ≡ not b
lives-none None b e = ap (λ a. not a) (sym e)
lives-none (Some x) b e = ap (λ a. not a) (sym e)

-- the toplevels and their windows stay where both do
pub pile-same : {A : Type 0} (old new : Screen A) → new.scene ≡ old.scene → new.stacked ≡ old.stacked → pile_of new ≡ pile_of old
pile-same old new scene stacked = ap₂ (λ s w. record { scene = s; windows = w.windows }) scene stacked

-- what is left of a client has ended where it had
pub cleared-client : {A : Type 0} (o : Option Cause) (c : ℕ) (old new : Kept A) (was is : Pile) → IsClearedBy o c old new was is → new.client.ended ≡ old.client.ended
cleared-client {A} None c old new was is h = ap (λ (k : Kept A). k.client.ended) h.0
cleared-client (Some cause) c old new was is h = ap (λ v. v.ended) h.0
