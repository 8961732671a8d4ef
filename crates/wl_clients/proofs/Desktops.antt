-- What a change of one client does to the whole desk.
use Rattle.std.proofs.Common.{◌≡◌, ◌≢◌, ℕ, ◌+◌, suc, zero, ◌<◌, List, [], ◌∷◌, Bool, true, false, length, map, take, Option, Some, None, get_or, set, refl, sym, ◌∙◌, ap, arith, ◌≤◌}
use Rattle.std.specs.Option.{option_map}
use Rattle.std.specs.Prelude.{if◌then◌else◌, is_some, ◌==◌}
use Rattle.std.proofs.lemmas.Bool.{eqb-false, eqb-true}
use Rattle.std.proofs.lemmas.List.{get_or-set_other, get_or-set_same, length-set}
use Rattle.wl_client.specs.View.{ClientView}
use Rattle.spec_desktop.specs.Objects.{ById}
use Rattle.wl_scene.specs.Kept.{Stack}
use Rattle.spec_desktop.specs.Windows.{Window}
use Rattle.wl_scene.specs.declared.stacked.Stacked.{Stacked}
use Rattle.wl_scene.specs.StackedAgreement.{AreStacked}
use Rattle.wl_clients.specs.Agreement.{Matches, IsPlace, IsScene, IsSeat, numbers_in, numbers_of, with_numbers}
use Rattle.spec_desktop.specs.Desktop.{Desktop, Resident, client_at, place, with_number, with_place}
use Rattle.wl_clients.specs.Seats.{IsSeated}
use Rattle.law_desktop.specs.Shown.{ShownStand}
use Rattle.spec_desktop.specs.Act.{lowest, next_of}
use Rattle.spec_desktop.specs.Stacked.{all_windows}
use Rattle.wl_clients.specs.View.{DeskView, OwnedView, Pile, owned_view}
use Rattle.wl_requests.specs.declared.residents.Resident.{Resident as Kept}
use Rattle.law_desktop.proofs.Runs.Places.{number-kept}
use Rattle.wl_clients.proofs.OnScreen.Scenes.{stack-by}

-- ---- lists of places

abbrev pub at : {X : Type 0} → List (Option X) → ℕ → Option X
at xs k = get_or xs k None

pub at-within : {X : Type 0} (xs : List (Option X)) (k : ℕ) (d : Option X) → k < length xs → get_or xs k d ≡ at xs k
at-within [] k d h = absurd (omega arith)
at-within (x ∷ xs) zero d h = refl
at-within (x ∷ xs) (suc k) d h = at-within xs k d (omega arith)

pub at-past : {X : Type 0} (xs : List (Option X)) (k : ℕ) → length xs ≤ k → at xs k ≡ None
at-past [] k h = refl
at-past (x ∷ xs) zero h = absurd (omega arith)
at-past (x ∷ xs) (suc k) h = at-past xs k (omega arith)

pub at-map : {X Y : Type 0} (f : X → Y) (xs : List (Option X)) (k : ℕ) → at (map (option_map f) xs) k ≡ option_map f (at xs k)
at-map f [] k = refl
at-map f (x ∷ xs) zero = refl
at-map f (x ∷ xs) (suc k) = at-map f xs k

pub map-length : {X Y : Type 0} (f : X → Y) (xs : List X) → length (map f xs) ≡ length xs
map-length f [] = refl
map-length f (x ∷ xs) = ap (λ (n : ℕ). suc n) (map-length f xs)

-- one place is this, and the others stay
pub record IsPut {X : Type 0} (k : ℕ) (x : Option X) (old new : List (Option X)) : Type 0 where
  pub here : at new k ≡ x
  pub others : (j : ℕ) → j ≢ k → at new j ≡ at old j
  pub count : length new ≡ length old

pub put-set : {X : Type 0} (k : ℕ) (x : Option X) (xs : List (Option X)) → k < length xs → IsPut k x xs (set xs k x)
put-set k x xs h = record { here = get_or-set_same xs k x None h; others = λ j differ. get_or-set_other xs k j x None differ; count = length-set xs k x }

pub put-map : {X Y : Type 0} (f : X → Y) (k : ℕ) (x : Option X) (old new : List (Option X)) → IsPut k x old new → IsPut k (option_map f x) (map (option_map f) old) (map (option_map f) new)
put-map f k x old new put =
    record {
      here = at-map f new k ∙ ap (λ (o : Option _). option_map f o) put.here;
      others = λ j differ. at-map f new j ∙ (ap (λ (o : Option _). option_map f o) (put.others j differ) ∙ sym (at-map f old j));
      count = map-length (option_map f) new ∙ (put.count ∙ sym (map-length (option_map f) old));
    }

-- ---- places of the desktop

place-here : (rs : List (Option Resident)) (k : ℕ) (r : Option Resident) → k < length rs → place (with_place k r rs) k ≡ r
place-here [] k r h = absurd (omega arith)
place-here (x ∷ rs) zero r h = refl
place-here (x ∷ rs) (suc k) r h = place-here rs k r (omega arith)

place-else : (rs : List (Option Resident)) (k j : ℕ) (r : Option Resident) → j ≢ k → place (with_place k r rs) j ≡ place rs j
place-else [] k j r differ = refl
place-else (x ∷ rs) zero zero r differ = absurd (differ refl)
place-else (x ∷ rs) zero (suc j) r differ = refl
place-else (x ∷ rs) (suc k) zero r differ = refl
place-else (x ∷ rs) (suc k) (suc j) r differ = place-else rs k j r (λ e. differ (ap (λ (n : ℕ). suc n) e))

place-count : (rs : List (Option Resident)) (k : ℕ) (r : Option Resident) → length (with_place k r rs) ≡ length rs
place-count [] k r = refl
place-count (x ∷ rs) zero r = refl
place-count (x ∷ rs) (suc k) r = ap (λ (n : ℕ). suc n) (place-count rs k r)

-- ---- one place of the desk changes

-- the numbers of the surfaces of all but client k + 1
pub numbers-put : (k : ℕ) (x : Option ClientView) (us vs : List (Option ClientView)) (a surface : ℕ) → IsPut k x us vs
    → numbers_in vs a surface ≡ with_numbers (suc k) (numbers_of x) (numbers_in us) a surface
numbers-put k x us vs zero surface put = by (zero == suc k) refl
  where
    by : (b : Bool) → (zero == suc k) ≡ b → None ≡ (if b then numbers_of x else numbers_in us zero) surface
    by true e = absurd (let h = eqb-true zero (suc k) e in omega (arith, h))
    by false e = refl
numbers-put k x us vs (suc j) surface put = by (suc j == suc k) refl
  where
    by : (b : Bool) → (suc j == suc k) ≡ b → numbers_of (at vs j) surface ≡ (if b then numbers_of x else numbers_in us (suc j)) surface
    by true e =
        let same : j ≡ k = let h = eqb-true (suc j) (suc k) e in omega (arith, h) in
        ap (λ (o : Option ClientView). numbers_of o surface) (ap (λ (i : ℕ). at vs i) same ∙ put.here)
    by false e =
        let differ : j ≢ k = λ h. eqb-false (suc j) (suc k) e (ap (λ (n : ℕ). suc n) h) in
        ap (λ (o : Option ClientView). numbers_of o surface) (put.others j differ)

pub scene-put : (k : ℕ) (x : Option ClientView) (us vs : List (Option ClientView)) (stack : Stack) (d : Desktop) → IsPut k x us vs
    → IsScene (with_numbers (suc k) (numbers_of x) (numbers_in us)) stack d → IsScene (numbers_in vs) stack d
scene-put k x us vs stack d put scene =
    record { standing = stack-by _ (numbers_in vs) stack.standing d.standing (λ a surface n has is. numbers-put k x us vs a surface put ∙ is) scene.standing; next = scene.next }

-- the other way: the place is as it is
pub scene-out : (k : ℕ) (x : Option ClientView) (us : List (Option ClientView)) (stack : Stack) (d : Desktop) → at us k ≡ x → IsScene (numbers_in us) stack d
    → IsScene (with_numbers (suc k) (numbers_of x) (numbers_in us)) stack d
scene-out k x us stack d here scene =
    record {
      standing = stack-by (numbers_in us) _ stack.standing d.standing (λ a surface n has is. sym (numbers-put k x us us a surface
          (record { here = here; others = λ j differ. refl; count = refl }))
          ∙ is) scene.standing;
      next = scene.next;
    }

-- what stands for windows by their numbers does by others that are the same where there are those
pub stacked-by : (numbers others : ℕ → ById ℕ) (ss : List Stacked) (ws : List Window) → ((c surface n : ℕ) → numbers c surface ≡ Some n → others c surface ≡ Some n) → AreStacked numbers ss ws
    → AreStacked others ss ws
stacked-by numbers others [] [] same are = tt
stacked-by numbers others [] (w ∷ ws) same are = absurd are
stacked-by numbers others (s ∷ ss) [] same are = absurd are
stacked-by numbers others (s ∷ ss) (w ∷ ws) same are = (
  record {
    client = are.0.client;
    toplevel = same s.client w.owner.toplevel s.toplevel are.0.toplevel;
    root = same s.client w.owner.root s.window.root are.0.root;
    surface = same s.client w.surface s.window.surface are.0.surface;
    told = are.0.told;
  },
  stacked-by numbers others ss ws same are.1,
)

pub windows-put : (k : ℕ) (x : Option ClientView) (us vs : List (Option ClientView)) (ss : List Stacked) (ws : List Window) → IsPut k x us vs
    → AreStacked (with_numbers (suc k) (numbers_of x) (numbers_in us)) ss ws → AreStacked (numbers_in vs) ss ws
windows-put k x us vs ss ws put are = stacked-by _ (numbers_in vs) ss ws (λ a surface n is. numbers-put k x us vs a surface put ∙ is) are

pub windows-out : (k : ℕ) (x : Option ClientView) (us : List (Option ClientView)) (ss : List Stacked) (ws : List Window) → at us k ≡ x → AreStacked (numbers_in us) ss ws
    → AreStacked (with_numbers (suc k) (numbers_of x) (numbers_in us)) ss ws
windows-out k x us ss ws here are =
    stacked-by (numbers_in us) _ ss ws (λ a surface n is. sym (numbers-put k x us us a surface (record { here = here; others = λ j differ. refl; count = refl })) ∙ is) are

-- one place, the toplevels and their windows become others
pub agrees-put : (w : DeskView) (k : ℕ) (x : Option ClientView) (o : Option OwnedView) (r : Option Resident) (us : List (Option ClientView)) (os : List (Option OwnedView)) (pile : Pile)
    (d e : Desktop) → Matches w d → k < length w.clients
    → IsPut k x w.clients us → IsPut k o w.owned os → e.output ≡ d.output → e.clients ≡ with_number (suc k) r d.clients → IsPlace x o r
    → IsScene (with_numbers (suc k) (numbers_of x) (numbers_in w.clients)) pile.scene e
    → AreStacked (with_numbers (suc k) (numbers_of x) (numbers_in w.clients)) pile.windows (all_windows e) → ShownStand e
    → Matches (record { output = w.output; clients = us; owned = os; pile = pile }) e
agrees-put w k x o r us os pile d e a within puts owns output clients is scene windows mapped =
    record {
      output = a.output ∙ sym output;
      count = puts.count ∙ (a.count ∙ (sym (place-count d.clients k r) ∙ ap (λ (rs : List (Option Resident)). length rs) (sym clients)));
      clients = λ j. rw clients (each j (j == k) refl);
      scene = scene-put k x w.clients us pile.scene e puts scene;
      windows = windows-put k x w.clients us pile.windows (all_windows e) puts windows;
      mapped = mapped;
    }
  where
    each : (j : ℕ) (b : Bool) → (j == k) ≡ b → IsPlace (at us j) (at os j) (place (with_place k r d.clients) j)
    each j true e =
        let same = eqb-true j k e in
        rw (same, puts.here, owns.here, place-here d.clients k r (rw (← a.count) within)) is
    each j false e =
        let differ = eqb-false j k e in
        rw (puts.others j differ, owns.others j differ, place-else d.clients k j r differ) (a.clients j)

-- ---- a client is taken out, and put back

-- what is kept of a number's client
pub place-at : (w : DeskView) (d : Desktop) (k : ℕ) → Matches w d → IsPlace (at w.clients k) (at w.owned k) (client_at (suc k) d)
place-at w d k a = a.clients k

seat-of : {A : Type 0} (x : Option ClientView) (o : Option OwnedView) (r : Option Resident) (v : Kept A) → x ≡ Some v.client → o ≡ Some (owned_view v) → IsPlace x o r → (s : Resident)
    × (r ≡ Some s) × IsSeat v.client (owned_view v) s
seat-of x o None v e f is = absurd (rw (e, f) at is)
seat-of x o (Some s) v e f is = (s, refl, rw (e, f) at is)

-- the one who is taken out, with the others' numbers
pub seated-out : {A : Type 0} (w : DeskView) (d : Desktop) (k : ℕ) (v : Kept A) → at w.clients k ≡ Some v.client → at w.owned k ≡ Some (owned_view v) → Matches w d
    → (s : Resident) × (client_at (suc k) d ≡ Some s) × IsSeated (suc k) (numbers_in w.clients) d v w.pile d s
seated-out w d k v x o a =
    let seat = seat-of (at w.clients k) (at w.owned k) (client_at (suc k) d) v x o (place-at w d k a) in (
      seat.0,
      seat.1,
      record {
        based = record { there = seat.1; output = refl; clients = sym (ap (λ (r : Option Resident). with_number (suc k) r d.clients) (sym seat.1) ∙ number-kept d.clients (suc k)) };
        seat = seat.2;
        scene = scene-out k (Some v.client) w.clients w.pile.scene d x a.scene;
        windows = windows-out k (Some v.client) w.clients w.pile.windows (all_windows d) x a.windows;
        mapped = a.mapped;
      },
    )

-- put back as it is now
pub seated-back : {A : Type 0} (w : DeskView) (k : ℕ) (v : Kept A) (s : Resident) (us : List (Option ClientView)) (os : List (Option OwnedView)) (pile : Pile) (d e : Desktop) → Matches w d
    → k < length w.clients
    → IsPut k (Some v.client) w.clients us → IsPut k (Some (owned_view v)) w.owned os → IsSeated (suc k) (numbers_in w.clients) d v pile e s
    → Matches (record { output = w.output; clients = us; owned = os; pile = pile }) e
seated-back w k v s us os pile d e a within puts owns is =
    agrees-put w k (Some v.client) (Some (owned_view v)) (Some s) us os pile d e a within puts owns is.based.output is.based.clients is.seat is.scene is.windows is.mapped

-- ---- free numbers

pub none_of : (o : Option ℕ) → next_of o ≡ None → o ≡ None
none_of None h = refl
none_of (Some k) h = absurd (cc)

pub lowest-found : {X : Type 0} (xs : List (Option X)) (k : ℕ) (d : Option X) → k < length xs → lowest (take k xs) ≡ None → get_or xs k d ≡ None → lowest xs ≡ Some k
lowest-found [] k d h none here = absurd (omega arith)
lowest-found (None ∷ xs) zero d h none here = refl
lowest-found (None ∷ xs) (suc k) d h none here = absurd (cc)
lowest-found (Some x ∷ xs) zero d h none here = absurd (cc)
lowest-found (Some x ∷ xs) (suc k) d h none here = let e : k + 1 ≡ suc k = omega arith in rw (lowest-found xs k d (omega arith) (none_of (lowest (take k xs)) none) here) (ap Some e)

pub lowest-more : {X : Type 0} (xs : List (Option X)) (k : ℕ) (d : Option X) (x : X) → k < length xs → lowest (take k xs) ≡ None → get_or xs k d ≡ Some x → lowest (take (suc k) xs) ≡ None
lowest-more [] k d x h none here = refl
lowest-more (None ∷ xs) zero d x h none here = absurd (cc)
lowest-more (None ∷ xs) (suc k) d x h none here = absurd (cc)
lowest-more (Some y ∷ xs) zero d x h none here = refl
lowest-more (Some y ∷ xs) (suc k) d x h none here = ap (λ (o : Option ℕ). next_of o) (lowest-more xs k d x (omega arith) (none_of (lowest (take k xs)) none) here)

pub lowest-here : {X : Type 0} (xs : List (Option X)) (k : ℕ) (u : Option X) → k < length xs → lowest (take k xs) ≡ None → u ≡ get_or xs k u → is_some u ≡ false → Some k ≡ lowest xs
lowest-here xs k None h none at test = sym (lowest-found xs k None h none (sym at))
lowest-here xs k (Some x) h none at test = absurd (cc)

pub lowest-on : {X : Type 0} (xs : List (Option X)) (k : ℕ) (u : Option X) → k < length xs → lowest (take k xs) ≡ None → u ≡ get_or xs k u → is_some u ≡ true → lowest (take (k + 1) xs) ≡ None
lowest-on xs k None h none at test = absurd (cc)
lowest-on xs k (Some x) h none at test =
    let e : k + 1 ≡ suc k = omega arith in
    rw e (lowest-more xs k (Some x) x h none (sym at))
