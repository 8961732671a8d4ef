-- Surfaces, windows and toplevels by their numbers and by the ids of their wl_surfaces.
use Rattle.std.proofs.Common.{◌≡◌, ◌≢◌, ℕ, suc, zero, List, [], ◌∷◌, Bool, true, false, Option, Some, None, map, eqb-true, refl, ap, ap₂, sym, ◌∙◌}
use Rattle.std.specs.List.{list_any}
use Rattle.std.specs.Option.{option_and_then, option_map}
use Rattle.std.specs.Prelude.{◌==◌, ◌&&◌, ◌||◌, IfNone, IfSome, find, if◌then◌else◌, is_some}
use Rattle.wl_proto.specs.declared.interface.Interface.{Interface}
use Rattle.wl_proto.specs.declared.interface.Interface.TheVariants.{WlSurface}
use Rattle.wl_table.specs.Objects.{Finds, Held, StandsFor, entry_of}
use Rattle.wl_table.specs.declared.entry.Entry.{Entry}
use Rattle.spec_desktop.specs.Objects.{ById, interface_number, nothing}
use Rattle.spec_desktop.specs.Pointer.{is_stacked}
use Rattle.spec_desktop.specs.Stacking.{Standing, is_of}
use Rattle.spec_desktop.specs.Windows.{Window}
use Rattle.wl_scene.specs.declared.stacked.Stacked.{Stacked}
use Rattle.wl_scene.specs.ByNumbers.{by_numbers}
use Rattle.wl_scene.specs.Hit.{IsStackedOrNone, is_window_of}
use Rattle.wl_scene.specs.StackedAgreement.{AreNumberedOnce, AreStacked, IsStacked}
use Rattle.wl_scene.proofs.Truth.{same-equal, some-same}
use Rattle.law_desktop.specs.Owning.{target_as, targets_in}
use Rattle.law_desktop.proofs.Keeping.OwningNames.{targets-at}
use Rattle.spec_desktop.specs.Replies.{focus_window}
use Rattle.wl_requests.specs.declared.residents.Resident.{Resident as Kept}
use Rattle.wl_clients.specs.Agreement.{IsStack, numbers_in, numbers_of}
use Rattle.wl_clients.specs.Residents.{client_views, resident_at}
use Rattle.wl_clients.proofs.Desktops.{at-map}
use Rattle.wl_clients.proofs.Seats.{IsHere, client-here}

-- ---- the numbers of a client's surfaces

pub numbers-here : {A : Type 0} (rs : List (Option (Kept A))) (c k : ℕ) (v : Kept A) → IsHere rs c k v → numbers_in (client_views rs) c ≡ targets_in WlSurface v.client.objects
numbers-here rs c k v is = ap (numbers_in (client_views rs)) is.number ∙ ap numbers_of (client-here rs k v is.here)

pub numbers-missing : {A : Type 0} (rs : List (Option (Kept A))) (c : ℕ) → resident_at rs c ≡ None → numbers_in (client_views rs) c ≡ nothing
numbers-missing rs zero none = refl
numbers-missing {A} rs (suc k) none =
    ap numbers_of (at-map (λ (r : Kept A). r.client) rs k ∙ ap (λ (o : Option (Kept A)). option_map (λ (r : Kept A). r.client) o) none)

-- ---- the id that is found by a number

pub found-named : (held : Held) (n : ℕ) (o : Option ℕ) → Finds held WlSurface n o → IfSome o (λ id. targets_in WlSurface held id ≡ Some n)
found-named held n None h = tt
found-named held n (Some id) h = by (entry_of held id) refl h.0
  where
    by : (e : Option Entry) → entry_of held id ≡ e → StandsFor e WlSurface n → targets_in WlSurface held id ≡ Some n
    by None same stands = absurd stands
    by (Some entry) same stands = targets-at WlSurface held id entry same stands.0 ∙ ap Some stands.1

is-surface : (i : Interface) → (interface_number i == interface_number WlSurface) ≡ true → i ≡ WlSurface
is-surface WlSurface e = refl
is-surface i e = absurd (cc)

target-stands : (entry : Entry) (n : ℕ) → target_as WlSurface entry ≡ Some n → StandsFor (Some entry) WlSurface n
target-stands entry n e = by (interface_number entry.interface == interface_number WlSurface) refl e
  where
    by : (b : Bool) → (interface_number entry.interface == interface_number WlSurface) ≡ b → (if b then Some entry.target else None) ≡ Some n → StandsFor (Some entry) WlSurface n
    by true same e = (is-surface entry.interface same, some-same entry.target n e)
    by false same e = absurd (cc)

pub unfound-named : (held : Held) (n : ℕ) → Finds held WlSurface n None → (id : ℕ) → targets_in WlSurface held id ≢ Some n
unfound-named held n none id e = none id (by (entry_of held id) e)
  where
    by : (o : Option Entry) → option_and_then (target_as WlSurface) o ≡ Some n → StandsFor o WlSurface n
    by None e = absurd (cc)
    by (Some entry) e = target-stands entry n e

-- ---- windows

module _ (numbers : ℕ → ById ℕ) (c n id : ℕ) (once : AreNumberedOnce (numbers c)) (named : numbers c id ≡ Some n) where
  pub surface-so : (x y : ℕ) → numbers c y ≡ Some x → (x == n) ≡ (y == id)
  surface-so x y has = same-equal x n y id (λ e. once y id n (has ∙ ap Some e) named) (λ e. some-same x n (sym has ∙ ap (numbers c) e ∙ named))

  by-client : (s : Stacked) (w : Window) → IsStacked numbers s w → (a b : Bool) → (s.client ≡ c → a ≡ b) → ((s.client == c) && a) ≡ ((w.owner.client == c) && b)
  by-client s w is a b same = at-b (s.client == c) refl
    where
      client : (w.owner.client == c) ≡ (s.client == c)
      client = ap (λ (m : ℕ). m == c) (sym is.client)

      at-b : (t : Bool) → (s.client == c) ≡ t → ((s.client == c) && a) ≡ ((w.owner.client == c) && b)
      at-b false e = ap (λ t. t && a) e ∙ sym (ap (λ t. t && b) (client ∙ e))
      at-b true e = ap (λ t. t && a) e ∙ same (eqb-true s.client c e) ∙ sym (ap (λ t. t && b) (client ∙ e))

  window-so : (s : Stacked) (w : Window) → IsStacked numbers s w → is_window_of c n s ≡ ((w.owner.client == c) && (w.surface == id))
  window-so s w is =
      by-client s w is (s.window.surface == n) (w.surface == id)
      (λ own. surface-so s.window.surface w.surface (ap (λ (m : ℕ). numbers m w.surface) (sym own) ∙ is.surface))

  -- the window of the surface
  pub window-found : (ss : List Stacked) (ws : List Window) → AreStacked numbers ss ws
      → IsStackedOrNone numbers (find (is_window_of c n) ss) (focus_window (Some (record { client = c; surface = id })) ws)
  window-found [] [] are = tt
  window-found [] (w ∷ ws) are = absurd are
  window-found (s ∷ ss) [] are = absurd are
  window-found (s ∷ ss) (w ∷ ws) are = by (is_window_of c n s) refl (window-found ss ws are.1)
    where
      q : Window → Bool
      q w = (w.owner.client == c) && (w.surface == id)

      by : (b : Bool) → is_window_of c n s ≡ b → IsStackedOrNone numbers (find (is_window_of c n) ss) (find q ws)
          → IsStackedOrNone numbers (if is_window_of c n s then Some s else find (is_window_of c n) ss) (if q w then Some w else find q ws)
      by true e later = rw (e, sym (window-so s w are.0) ∙ e) are.0
      by false e later = rw (e, sym (window-so s w are.0) ∙ e) later

-- it is among the windows by their numbers where there is one
pub window-numbered : (numbers : ℕ → ById ℕ) (c n : ℕ) (ss : List Stacked) (ws : List Window) → AreStacked numbers ss ws
    → is_some (find (is_window_of c n) ss) ≡ is_stacked (record { client = c; surface = n }) (by_numbers ss ws)
window-numbered numbers c n [] [] are = refl
window-numbered numbers c n [] (w ∷ ws) are = absurd are
window-numbered numbers c n (s ∷ ss) [] are = absurd are
window-numbered numbers c n (s ∷ ss) (w ∷ ws) are = by (is_window_of c n s) ∙ ap (λ b. is_window_of c n s || b) (window-numbered numbers c n ss ws are.1)
  where
    by : (b : Bool) → is_some (if b then Some s else find (is_window_of c n) ss) ≡ (b || is_some (find (is_window_of c n) ss))
    by true = refl
    by false = refl

-- ---- toplevels

pub stands-so : (numbers : ℕ → ById ℕ) (c k top : ℕ) → AreNumberedOnce (numbers c) → numbers c top ≡ Some k → (ks ss : List Standing) → IsStack numbers ks ss
    → list_any (is_of c k) ks ≡ list_any (is_of c top) ss
stands-so numbers c k top once named [] [] are = refl
stands-so numbers c k top once named [] (s ∷ ss) are = absurd are
stands-so numbers c k top once named (x ∷ ks) [] are = absurd are
stands-so numbers c k top once named (x ∷ ks) (s ∷ ss) are = ap₂ (λ a b. a || b) (one (x.client == c) refl) (stands-so numbers c k top once named ks ss are.1)
  where
    client : (s.client == c) ≡ (x.client == c)
    client = ap (λ (m : ℕ). m == c) (sym are.0.client)

    one : (t : Bool) → (x.client == c) ≡ t → is_of c k x ≡ is_of c top s
    one false e = ap (λ b. b && (x.surface == k)) e ∙ sym (ap (λ b. b && (s.surface == top)) (client ∙ e))
    one true e =
        ap (λ b. b && (x.surface == k)) e
        ∙ surface-so numbers c k top once named x.surface s.surface (ap (λ (m : ℕ). numbers m s.surface) (sym (sym are.0.client ∙ eqb-true x.client c e)) ∙ are.0.surface)
        ∙ sym (ap (λ b. b && (s.surface == top)) (client ∙ e))

pub any-mapped : {X Y : Type 0} (f : X → Y) (p : Y → Bool) (xs : List X) → list_any (λ x. p (f x)) xs ≡ list_any p (map f xs)
any-mapped f p [] = refl
any-mapped f p (x ∷ xs) = ap (λ b. p (f x) || b) (any-mapped f p xs)

-- ---- where there is no id

pub unfound-or : (held : Held) (n : ℕ) (o : Option ℕ) → Finds held WlSurface n o → IfNone o ((id : ℕ) → targets_in WlSurface held id ≢ Some n)
unfound-or held n None h = unfound-named held n h
unfound-or held n (Some id) h = tt

pub named-none : {A : Type 0} (rs ws : List (Option (Kept A))) (c n : ℕ) → ws ≡ rs → resident_at ws c ≡ None → (id : ℕ) → numbers_in (client_views rs) c id ≢ Some n
named-none rs ws c n same none id e =
    none-some (sym (ap (λ (ns : ById ℕ). ns id) (numbers-missing rs c (rw (← same) none))) ∙ e)
  where
    none-some : None ≡ Some n → ⊥
    none-some f = absurd (cc)

-- nobody's surfaces have numbers
pub nameless : {A : Type 0} (rs ws : List (Option (Kept A))) (c id : ℕ) → ws ≡ rs → resident_at ws c ≡ None → None ≡ numbers_in (client_views rs) c id
nameless rs ws c id same none = sym (ap (λ (ns : ById ℕ). ns id) (numbers-missing rs c (rw (← same) none)))
