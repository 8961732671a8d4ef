-- What a client owns stays in order as its peer changes and as its messages are accepted.
use Rattle.std.proofs.Common.{◌≡◌, ◌≤◌, ℕ, ◌+◌, List, [], ◌∷◌, Bool, true, false, Option, Some, None, length, refl, ap, sym, subst, ◌∙◌, arith}
use Rattle.std.specs.Prelude.{Ok, ◌==◌, ◌||◌, is_some, IfSome, nat_le, fold}
use Rattle.std.specs.List.{list_any}
use Rattle.std.proofs.lemmas.Bool.{eqb-true, true≢false}
use Rattle.std.proofs.lemmas.Bool.Decides.{nat_tests}
use Rattle.spec_desktop.specs.Peer.{Peer}
use Rattle.wl_surface.specs.Surface.{Surface, new_surface}
use Rattle.wl_surface.specs.Surfaces.{Surfaces, surface_at}
use Rattle.wl_surface.specs.Trees.{destroyed_in, ended_in, links_with}
use Rattle.wl_shell.specs.Popups.{kind_popup, popup_in}
use Rattle.wl_shell.specs.Shell.{IsPopup, Kind, RoleObject, Shell, Toplevel, XdgSurface as Xdg}
use Rattle.spec_desktop.specs.Ask.{CreateSurface, GetXdgSurface}
use Rattle.spec_desktop.specs.Changing.{changed_for}
use Rattle.spec_desktop.specs.Demand.{Demand, Asks, EndSurface}
use Rattle.spec_desktop.specs.Demanding.{judge_all}
use Rattle.spec_desktop.specs.Desktop.{Desktop, Resident}
use Rattle.spec_desktop.specs.Step.{with_peer}
use Rattle.law_desktop.specs.Apart.{AreApartBy}
use Rattle.law_desktop.proofs.Lists.Keys.{gone, length-new}
use Rattle.law_desktop.proofs.Marks.Stacks.{equal-numbers}
use Rattle.law_desktop.proofs.Soundness.Allowed.{allowed}
use Rattle.law_desktop.proofs.Soundness.Message.{allowed-counted}
use Rattle.law_desktop.proofs.Soundness.ObjectsThere.{there-destroyed, there-more}
use Rattle.law_desktop.proofs.Soundness.Orderly.{IsAllowed}
use Rattle.law_desktop.specs.InOrder.{OwnsInOrder, is_kind_numbered, is_popup_numbered}
use Rattle.law_desktop.proofs.EachClient.Clients.{IsPeerOf}
use Rattle.law_desktop.proofs.EachClient.Steps.{counted_of}
use Rattle.law_desktop.proofs.InOrder.Kept.{demand-owns, peer-owns}
use Rattle.law_desktop.specs.Ordered.{OfEach, OwnsOrdered}
use Rattle.law_desktop.proofs.KeptInOrder.Each.{AreKeyed, OfPopup, count-keyed, each-both, each-so, each-released, each-unfound, found-keyed, released-each}
use Rattle.law_desktop.proofs.KeptInOrder.Elders.{IsUpTo}
use Rattle.law_desktop.proofs.KeptInOrder.Heard.{IsFit, fits}
use Rattle.law_desktop.proofs.KeptInOrder.Shells.{AreFine, Meets, OfSurfaces, demanded-fine}
use Rattle.law_desktop.proofs.KeptInOrder.Surfaces.{demand-there}
use Rattle.law_desktop.proofs.KeptInOrder.Younger.{are-younger}

-- ---- numbers of popups

-- each has one up to that of the last request
up-to : (n : ℕ) (shell : Shell) → ((number : ℕ) → list_any (λ x. is_popup_numbered number x.role) shell ≡ true → number ≤ n) → OfEach (OfPopup (IsUpTo n)) shell
up-to n [] early = tt
up-to n (x ∷ xs) early = (
  role x.role (λ number is. early number (first (is_popup_numbered number x.role) (list_any (λ y. is_popup_numbered number y.role) xs) is)),
  up-to n xs (λ number any. early number (later (is_popup_numbered number x.role) (list_any (λ y. is_popup_numbered number y.role) xs) any)),
)
  where
    first : (a b : Bool) → a ≡ true → (a || b) ≡ true
    first a b e = ap (λ k. k || b) e

    later : (a b : Bool) → b ≡ true → (a || b) ≡ true
    later true b e = refl
    later false b e = e

    kind : (k : Kind) → ((number : ℕ) → is_kind_numbered number k ≡ true → number ≤ n) → IfSome (kind_popup k) (IsUpTo n)
    kind Toplevel low = tt
    kind (IsPopup popup) low = low popup.number (equal-numbers popup.number popup.number refl)

    role : (o : Option RoleObject) → ((number : ℕ) → is_popup_numbered number o ≡ true → number ≤ n) → IfSome (popup_in o) (IsUpTo n)
    role None low = tt
    role (Some object) low = kind object.kind low

-- ---- surfaces

abbrev pub IsThere : Surfaces → ℕ → Type 0
IsThere all surface = is_some (surface_at surface all) ≡ true

-- the surfaces of xdg_surfaces stay
placed-now : (c : ℕ) (demand : Demand) (r : Resident) (d : Desktop) → IsAllowed r demand → OfSurfaces (IsThere r.owned.surfaces) (changed_for c demand r d).owned.shell
    → OfSurfaces (IsThere (changed_for c demand r d).owned.surfaces) (changed_for c demand r d).owned.shell
placed-now c (EndSurface id) r d ok all =
    each-so (λ x. IsThere r.owned.surfaces x.surface × ((x.surface == id) ≡ false)) (λ x. IsThere (destroyed_in id r.owned.surfaces) x.surface)
    (λ x both. there-destroyed id r.owned.surfaces x.surface both.1 ∙ both.0) r.owned.shell
    (each-both (λ x. IsThere r.owned.surfaces x.surface) (λ x. (x.surface == id) ≡ false) r.owned.shell all (each-unfound (λ x. x.surface == id) r.owned.shell ok.1))
placed-now c (Asks (CreateSurface id version)) r d ok all =
    each-so (λ x. IsThere r.owned.surfaces x.surface) (λ x. IsThere (changed_for c (Asks (CreateSurface id version)) r d).owned.surfaces x.surface)
    (λ x is. there-more id x.surface r.owned.surfaces is) r.owned.shell all
placed-now c demand r d ok all =
    each-so (λ x. IsThere r.owned.surfaces x.surface) (λ x. IsThere (changed_for c demand r d).owned.surfaces x.surface) (λ x is. demand-there c demand r d x.surface ∙ is)
    (changed_for c demand r d).owned.shell all

no-more : (old new : Surfaces) → AreApartBy (λ id s. s.id == id) new.surfaces → ((id : ℕ) → IsThere new id → IsThere old id) → length new.surfaces ≤ length old.surfaces
no-more old new apart so =
    count-keyed (λ (s : Surface). s.id) (λ (s : Surface). s.id) new.surfaces old.surfaces apart (found-keyed (λ (s : Surface). s.id) (λ (s : Surface). s.id) new.surfaces old.surfaces so)

-- one that goes isn't there any more, and no other one comes
destroyed-there : (surface id : ℕ) (all : Surfaces) → IsThere (destroyed_in surface all) id → IsThere all id
destroyed-there surface id all there = at (id == surface) refl
  where
    gone-now : surface_at surface (destroyed_in surface all) ≡ None
    gone-now = gone (λ s. s.id == surface) (fold ended_in all (links_with surface all)).surfaces

    at : (b : Bool) → (id == surface) ≡ b → IsThere all id
    at true same =
        absurd (true≢false (sym there ∙ ap (λ (n : ℕ). is_some (surface_at n (destroyed_in surface all))) (eqb-true id surface same) ∙ ap is_some gone-now))
    at false away = sym (there-destroyed surface all id away) ∙ there

le-trans : (a b n : ℕ) → a ≤ b → b ≤ n → a ≤ n
le-trans a b n less low = omega (arith, less, low)

surfaces-now : (c : ℕ) (demand : Demand) (r : Resident) (d : Desktop) → AreApartBy (λ id s. s.id == id) (changed_for c demand r d).owned.surfaces.surfaces → IsFit r demand
    → length r.owned.surfaces.surfaces ≤ 256 → length (changed_for c demand r d).owned.surfaces.surfaces ≤ 256
surfaces-now c (EndSurface id) r d apart fit few =
    le-trans (length (destroyed_in id r.owned.surfaces).surfaces) (length r.owned.surfaces.surfaces) 256
    (no-more r.owned.surfaces (destroyed_in id r.owned.surfaces) apart (λ key there. destroyed-there id key r.owned.surfaces there)) few
surfaces-now c (Asks (CreateSurface id version)) r d apart fit few =
    subst (λ (n : ℕ). n ≤ 256) (sym (length-new r.owned.surfaces.surfaces (new_surface id))) (room (length r.owned.surfaces.surfaces) fit)
  where
    room : (n : ℕ) → nat_le 256 n ≡ false → n + 1 ≤ 256
    room n e = grind (arith, nat_tests, e)
surfaces-now c demand r d apart fit few =
    le-trans (length (changed_for c demand r d).owned.surfaces.surfaces) (length r.owned.surfaces.surfaces) 256
    (no-more r.owned.surfaces (changed_for c demand r d).owned.surfaces apart (λ key there. sym (demand-there c demand r d key) ∙ there)) few

-- an xdg_surface for each surface at most
keyed : (all : Surfaces) (xs : Shell) → OfSurfaces (IsThere all) xs → AreKeyed (λ (x : Xdg). x.surface) (λ (s : Surface). s.id) all.surfaces xs
keyed all [] placed = tt
keyed all (x ∷ xs) placed = (placed.0, keyed all xs placed.1)

pub few-of : (r : Resident) → OwnsInOrder r → OfSurfaces (IsThere r.owned.surfaces) r.owned.shell → length r.owned.surfaces.surfaces ≤ 256 → length r.owned.shell ≤ 256
few-of r order placed few =
    le-trans (length r.owned.shell) (length r.owned.surfaces.surfaces) 256
    (count-keyed (λ (x : Xdg). x.surface) (λ (s : Surface). s.id) r.owned.shell r.owned.surfaces.surfaces order.xdg_apart (keyed r.owned.surfaces r.owned.shell placed)) few

-- ---- its peer changes

pub peer-ordered : (r : Resident) (p : Peer) → IsPeerOf r p → OwnsOrdered r → OwnsOrdered (with_peer p r)
peer-ordered r p same owns = record {
  order = peer-owns r p same owns.order;
  younger = owns.younger;
  released = owns.released;
  few = owns.few;
  parents = owns.parents;
  placed = owns.placed;
  surfaces = owns.surfaces;
}

-- ---- a message is accepted

-- what is known of it is so once it is counted
fit-counted : (r : Resident) (rest : List ℕ) (demand : Demand) → IsFit r demand → IsFit (counted_of r rest) demand
fit-counted r rest (Asks (CreateSurface id version)) fit = fit
fit-counted r rest demand fit = fit

meets : (r : Resident) (demand : Demand) → OwnsInOrder r → IsFit r demand → Meets (IsThere r.owned.surfaces) demand
meets r (Asks (GetXdgSurface id version base surface)) order fit = order.surfaces surface fit
meets r demand order fit = tt

pub demand-ordered : (c : ℕ) (r : Resident) (rest : List ℕ) (object opcode : ℕ) (body : List ℕ) (demand : Demand) (d : Desktop) → OwnsOrdered r
    → judge_all r object opcode body ≡ Ok demand → OwnsOrdered (changed_for c demand (counted_of r rest) d)
demand-ordered c r rest object opcode body demand d owns judged = record {
  order = order;
  younger = are-younger made order fine.elders;
  released = each-released made.owned.shell fine.released;
  few = few-of made order placed surfaces;
  parents = fine.elders;
  placed = placed;
  surfaces = surfaces;
}
  where
    now : Resident
    now = counted_of r rest

    made : Resident
    made = changed_for c demand now d

    order : OwnsInOrder made
    order = demand-owns c r rest object opcode body demand d judged owns.order

    ok : IsAllowed now demand
    ok = allowed-counted r rest demand (allowed r object opcode body demand judged)

    fit : IsFit now demand
    fit = fit-counted r rest demand (fits r object opcode body demand judged)

    start : AreFine (IsThere r.owned.surfaces) r.owned.shell
    start = record { elders = owns.parents; released = released-each r.owned.shell owns.released; surfaces = owns.placed }

    fine : AreFine (IsThere r.owned.surfaces) made.owned.shell
    fine =
        demanded-fine (IsThere r.owned.surfaces) c r.peer.requests demand now d owns.order.xdg_surfaces.0 ok fit (meets r demand owns.order (fits r object opcode body demand judged)) refl
        (up-to r.peer.requests r.owned.shell owns.order.popups_early) start

    placed : OfSurfaces (IsThere made.owned.surfaces) made.owned.shell
    placed = placed-now c demand now d ok fine.surfaces

    surfaces : length made.owned.surfaces.surfaces ≤ 256
    surfaces = surfaces-now c demand now d order.known.apart fit owns.surfaces
