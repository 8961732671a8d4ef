-- A message of a client that lives on: what is kept of the windows stands for the desktop to which it leads, and what is marked is what has to
-- be and may be marked.
use Rattle.std.proofs.Common.{arith, ◌≡◌, ℕ, ◌<◌, ◌≤◌, Bool, true, false, Option, Some, None, List, [], map, refl, ap, sym, subst, ◌∙◌, inl, inr, ◌⊎◌}
use Rattle.std.specs.Prelude.{pos, ◌||◌, Result, Ok, Err, is_some, length}
use Rattle.std.specs.List.{list_any}
use Rattle.std.proofs.lemmas.List.{length-map}
use Rattle.std.proofs.lemmas.Bool.{and_from, false_from_ne_true, or_left, or_parts, or_right, true≢false}
use Rattle.wl_wire.specs.declared.header.Split.{Split}
use Rattle.wl_wire.specs.declared.header.Split.TheVariants.{Message as Whole, More, Bad}
use Rattle.spec_desktop.specs.declared.refusals.ErrorCode.TheVariants.{InvalidMethod}
use Rattle.spec_desktop.specs.declared.refusals.Refusal.{Refusal}
use Rattle.spec_desktop.specs.Told.{display_error}
use Rattle.spec_desktop.specs.Objects.{ById}
use Rattle.spec_desktop.specs.Peer.{Peer}
use Rattle.wl_links.specs.Family.{links_in, parents_of, root_by}
use Rattle.wl_scene.specs.Marking.{AddsPoints}
use Rattle.wl_paint.specs.Damage.{Damaged, has}
use Rattle.spec_desktop.specs.Changing.{changed_for}
use Rattle.spec_desktop.specs.Demand.{Demand}
use Rattle.spec_desktop.specs.Desktop.{Desktop, Resident, owned_in}
use Rattle.spec_desktop.specs.Marks.{in_output}
use Rattle.spec_desktop.specs.Moments.{marks_at_least, marks_at_most}
use Rattle.spec_desktop.specs.Stacked.{all_windows}
use Rattle.spec_desktop.specs.Step.{with_peer}
use Rattle.wl_scene.specs.StackedAgreement.{AreStacked}
use Rattle.law_desktop.specs.Renaming.{AreToldApart, has_surface}
use Rattle.law_desktop.specs.NamedPopups.{renamed_owned}
use Rattle.law_desktop.specs.Shown.{ShownStand}
use Rattle.law_desktop.specs.TreeStepsLaws.{IsRootOf}
use Rattle.law_desktop.specs.Ordered.{OwnsOrdered}
use Rattle.law_desktop.proofs.Keeping.OwningTies.{number-of-name}
use Rattle.law_desktop.proofs.Truth.{differ}
use Rattle.wl_scene.specs.Repaint.{AreTogether, same_windows, window_has}
use Rattle.wl_scene.specs.Kept.{Stack}
use Rattle.spec_desktop.specs.Stacking.{Owned, Standing}
use Rattle.spec_desktop.specs.Windows.{Owner}
use Rattle.wl_surface.specs.Slots.{count}
use Rattle.wl_surface.specs.declared.applied.Applied.{Applied}
use Rattle.wl_surface.specs.declared.applied.Change.{Change}
use Rattle.wl_scene.specs.declared.tree_window.TreeWindow.{TreeWindow}
use Rattle.law_windows.specs.RenamedWindows.{told_by}
use Rattle.law_windows.specs.Telling.{TellsTrees}
use Rattle.law_desktop.specs.Changes.{HasTrees, StaysPainted}
use Rattle.law_desktop.specs.Done.{IsMeant, touched_by}
use Rattle.law_desktop.specs.Marked.{MarksByTreesBetween}
use Rattle.law_desktop.specs.Messages.{IsDemanded}
use Rattle.law_desktop.specs.Toplevel.{ChangesToplevel}
use Rattle.law_desktop.proofs.RootsOf.Meant.{judged-is-meant}
use Rattle.law_windows.specs.Runs.Kept.{IsNumbered}
use Rattle.law_windows.specs.Runs.Marks.{AddsRun, IsTold as IsRunTold}
use Rattle.law_windows.proofs.OneToplevel.Gone.{gone-run-adds}
use Rattle.law_windows.proofs.OneToplevel.Marked.{adds-at-least, adds-at-most}
use Rattle.law_windows.proofs.OneToplevel.Turned.{run-was-told}
use Rattle.wl_requests.specs.declared.residents.Resident.{Resident as Kept}
use Rattle.wl_requests.specs.declared.residents.Stacking.{Stacking}
use Rattle.wl_requests.specs.declared.residents.Stacking.TheVariants as on
use Rattle.wl_requests.specs.Residents.{AnswersSo, IsLeft, StacksFor, StacksSo, TakesSo}
use Rattle.wl_clients.specs.Agreement.{IsStack}
use Rattle.wl_clients.specs.Finding.{found_by, parent_by, popup_in_shell}
use Rattle.wl_clients.specs.Marking.{MarksAtLeast, MarksMost}
use Rattle.wl_clients.specs.Screens.{AreToldIf, IsRunHeldIf, changes_in, restacked_if, run_kept, run_on, turned_if}
use Rattle.wl_clients.specs.Seats.{IsRestacked, IsSeated}
use Rattle.wl_clients.specs.Staying.{marks_moved}
use Rattle.wl_clients.specs.Touching.{HitsStay}
use Rattle.wl_clients.specs.View.{Pile}
use Rattle.wl_clients.proofs.OnScreen.After.{HoldsAs, run-fits, run-held, run-is}
use Rattle.wl_clients.proofs.OnScreen.Hits.{run-hits, windows-stay}
use Rattle.wl_clients.proofs.OnScreen.Inputs.{TakeSame}
use Rattle.wl_clients.proofs.OnScreen.Least.{moved-least, run-owned, run-same}
use Rattle.wl_clients.proofs.OnScreen.Numbers as seat
use Rattle.wl_clients.proofs.OnScreen.Restacking.{Moves, moves, out-empty, stack-turned, windows-restacked}
use Rattle.wl_clients.proofs.OnScreen.Sitting.{numbers}
use Rattle.wl_clients.proofs.OnScreen.Stays.{moved-most}
use Rattle.wl_clients.proofs.OnScreen.Turning.{Turns, TurnsRun, untouched-least, untouched-most}
use Rattle.wl_clients.proofs.OnScreen.Turning as turning

pub is-out : (stacking : Stacking) → ((n : ℕ) × (stacking ≡ on.Out n)) ⊎ ((n : ℕ) → stacking ≡ on.Out n → ⊥)
is-out (on.Out n) = inl (n, refl)
is-out on.Stays = inr (λ n e. absurd (cc))
is-out (on.ToTop m) = inr (λ n e. absurd (cc))

through-count : (a b c : ℕ) → a ≤ b → b ≤ c → a ≤ c
through-count a b c e f = omega (arith)

-- ---- what is known of the client that was told

left-in : {A : Type 0} (judged : Result Demand Refusal) (c : ℕ) (r : Resident) (d : Desktop) (old mid : Kept A) → AnswersSo judged c r d old mid → (x : Resident) × (q : Peer) × IsLeft old mid x q
left-in (Ok demand) c r d old mid h = (_, h.0, h.2)
left-in (Err refusal) c r d old mid h = (r, h.0, h.2)

pub left-of : {A : Type 0} (split : Split) (c : ℕ) (r : Resident) (d : Desktop) (old mid : Kept A) (stacking : Stacking) → TakesSo split c r d old mid stacking
    → (x : Resident) × (q : Peer) × IsLeft old mid x q
left-of (Whole object opcode size) c r d old mid stacking h = left-in _ c _ d old mid h.0
left-of Bad c r d old mid stacking h = left-in (Err (display_error InvalidMethod)) c r d old mid h
left-of More c r d old mid stacking h = absurd h

pub stacks-of : {A : Type 0} (split : Split) (c : ℕ) (r : Resident) (d : Desktop) (old mid : Kept A) (stacking : Stacking) (demand : Demand) → TakesSo split c r d old mid stacking
    → IsDemanded split r demand → StacksFor old r demand stacking
stacks-of (Whole object opcode size) c r d old mid stacking demand h told = subst (λ (j : Result Demand Refusal). StacksSo old r j stacking) told h.1
stacks-of Bad c r d old mid stacking demand h told = absurd told
stacks-of More c r d old mid stacking demand h told = absurd told

-- what is demanded is made as the protocol has it
pub meant-of : (split : Split) (r : Resident) (demand : Demand) → OwnsOrdered r → IsDemanded split r demand → IsMeant demand r
meant-of (Whole object opcode size) r demand owns told = judged-is-meant r object opcode _ demand owns.order told
meant-of Bad r demand owns told = absurd told
meant-of More r demand owns told = absurd told

-- ---- what was asked, and what is told of it

-- What a message that touches this surface demands, and the damage that is told of it: the changes that were applied, unless its toplevel goes.
pub record IsTold {A : Type 0} (c : ℕ) (old : Kept A) (r : Resident) (d : Desktop) (demand : Demand) (p : Peer) (surface : ℕ) (stacking : Stacking) (applied : Option (Applied A)) : Type 0 where
  pub id : ℕ
  pub touches : touched_by demand r ≡ Some id
  pub named : numbers old id ≡ Some surface
  pub list : List (Change A)
  pub tells : TellsTrees (seat.named_by old) list r.owned.surfaces (changed_for c demand (with_peer p r) d).owned.surfaces
  pub stays : ((n : ℕ) → stacking ≡ on.Out n → ⊥) → (is_some applied ≡ true) × (list ≡ changes_in applied)

-- ---- a demand that is done

module _ {A : Type 0} (between : MarksByTreesBetween) (c : ℕ) (others : ℕ → ById ℕ) (base d : Desktop) (r : Resident) (old mid : Kept A) (pile : Pile) (before : IsSeated c others base old pile d r)
    (trees : HasTrees d) (owns : OwnsOrdered r) (demand : Demand) (p : Peer) (e : Desktop) (meant : IsMeant demand r) (did : turning.WasDid c demand p r d e) (after : HasTrees e) (shown : ShownStand e)
    (stacking : Stacking) (stacks : StacksFor old r demand stacking) (applied : Option (Applied A)) (surface root : ℕ)
    (told : IsTold c old r d demand p surface stacking applied) (root_is : root ≡ root_by 16 (parents_of (links_in old.owned.surfaces.family)) surface)
    (top : links_in old.owned.surfaces.family root ≡ None) (g : ℕ → ℕ) (holds : is_some applied ≡ true → HoldsAs g mid (owned_in e c))
    (agree : (id : ℕ) → has_surface id (owned_in e c).surfaces ≡ true → g id ≡ seat.named_by old id)
    (found : Option ℕ) (found_is : found ≡ found_by c root (parent_by (seat.its c others base d r old pile before) (popup_in_shell old.owned.shell root)) pile.windows)
    (now : Stack) (done : is_some applied ≡ true → IsRestacked c stacking pile.scene now) (is : List TreeWindow)
    (filled : is_some applied ≡ true → (o : Owned) (owner : Owner) → IsRunHeldIf c mid found now.standing o
    → length (run_on c owner o found now.standing) ≤ count old.owned.surfaces.states → is ≡ run_on c owner o found now.standing) where
  abbrev f : ℕ → ℕ
  f = seat.named_by old

  abbrev nums : ℕ → ById ℕ
  nums = seat.nums c others base d r old pile before

  abbrev k : ℕ
  k = root_by 16 (parents_of (links_in old.owned.surfaces.family)) surface

  pub top-k : links_in old.owned.surfaces.family k ≡ None
  top-k = subst (λ (n : ℕ). links_in old.owned.surfaces.family n ≡ None) root_is top

  abbrev pub own_root : ℕ
  own_root = turning.root c others base d r old pile before trees owns demand p e meant did after shown told.id surface told.touches told.named top-k

  pub turned : Turns c (nums c) f told.list own_root found d e
  turned =
      turning.turns c others base d r old pile before trees owns demand p e meant did after shown told.id surface told.touches told.named top-k between told.list told.tells found
      (found_is ∙ ap (λ (n : ℕ). found_by c n (parent_by (seat.its c others base d r old pile before) (popup_in_shell old.owned.shell n)) pile.windows) root_is)

  rooted : IsRootOf (owned_in d c).surfaces told.id own_root
  rooted =
      subst (λ (o : Owned). IsRootOf o.surfaces told.id own_root) (sym (seat.owned-here c others base d r old pile before))
      (turning.found-root c others base d r old pile before trees owns demand p e meant did after shown told.id surface told.touches told.named top-k).1

  moved : Moves c (numbers old) told.id r d e.standing stacking
  moved =
      subst (λ (ss : List Standing). Moves c (numbers old) told.id r d ss stacking) (sym did.stack)
      (moves c old r p owns d stacking demand told.id meant stacks told.touches)

  -- ---- the windows of a toplevel

  module _ (t : TurnsRun c (nums c) f told.list own_root found d e) where
    abbrev step : ChangesToplevel c t.toplevel d e
    step = t.changes.step

    is-numbered : IsNumbered nums pile.windows c t.toplevel t.number f d e
    is-numbered =
        turning.numbered c others base d r old pile before trees owns demand p e meant did after shown told.id surface told.touches told.named top-k t.toplevel t.number t.named

    stack : is_some applied ≡ true → IsStack nums now.standing e.standing
    stack some =
        stack-turned c (numbers old) others told.id r d e.standing stacking before.seat.owns.surfaces.once moved pile.scene now before.scene (done some)

    abbrev owner : Owner
    owner = record { client = c; root = t.number; toplevel = t.number }

    own-number : numbers old t.toplevel ≡ Some t.number
    own-number = ap (λ (n : ById ℕ). n t.toplevel) (sym (seat.nums-own c others base d r old pile before)) ∙ t.named

    number-is : t.number ≡ f t.toplevel
    number-is = sym (number-of-name (numbers old) t.toplevel t.number own-number)

    once : (a b n : ℕ) → nums c a ≡ Some n → nums c b ≡ Some n → a ≡ b
    once = seat.once-own c others base d r old pile before

    -- What is told of them tells those that it has, where something was applied.
    pub is-told : is_some applied ≡ true → is ≡ map (told_by f) step.is
    is-told some =
        subst (λ (o : Option ℕ). (o' : Owned) (owner : Owner) → IsRunHeldIf c mid o now.standing o' → length (run_on c owner o' o now.standing) ≤ count old.owned.surfaces.states
        → is ≡ run_on c owner o' o now.standing) t.is_found (filled some) (renamed_owned g (owned_in e c)) owner
        (run-held f g c t.toplevel t.number mid e after (holds some) agree number-is nums once t.named now.standing (stack some)) fits
        ∙ tells
      where
        tells : run_on c owner (renamed_owned g (owned_in e c)) (Some t.number) now.standing ≡ map (told_by f) step.is
        tells =
            run-is f g c t.toplevel t.number mid e after (holds some) agree number-is nums once t.named now.standing (stack some) owner ∙ ap (map (told_by f)) (sym step.is_of)

        counted : length (owned_in d c).surfaces.surfaces ≡ count old.owned.surfaces.states
        counted = ap (λ (o : Owned). length o.surfaces.surfaces) (seat.owned-here c others base d r old pile before) ∙ sym before.seat.owns.surfaces.count

        fits : length (run_on c owner (renamed_owned g (owned_in e c)) (Some t.number) now.standing) ≤ count old.owned.surfaces.states
        fits =
            subst (λ (n : ℕ). n ≤ count old.owned.surfaces.states) (sym (ap (λ (ws : List TreeWindow). length ws) tells ∙ length-map step.is (told_by f)))
            (subst (λ (n : ℕ). length step.is ≤ n) counted
            (run-fits c t.toplevel d e step
            (turning.comes c others base d r old pile before trees owns demand p e meant did after shown told.id surface told.touches told.named top-k)))

    -- Where it goes, none is left.
    pub none-left : (n : ℕ) → stacking ≡ on.Out n → step.is ≡ []
    none-left n out =
        out-empty nums c told.id own_root t.toplevel t.number (numbers old) f r d e pile.windows step is-numbered trees shown.apart (seat.owned-here c others base d r old pile before) rooted t.is_its
        stacking moved n out

    -- What is kept of the windows stands for those of the desktop by the numbers from before.
    pub run-restacked : AreStacked nums (restacked_if c found stacking is pile.windows) (all_windows e)
    run-restacked =
        subst (λ (o : Option ℕ). AreStacked nums (restacked_if c o stacking is pile.windows) (all_windows e)) (sym t.is_found)
        (windows-restacked nums c told.id own_root t.toplevel t.number (numbers old) f r d e pile.windows step is-numbered trees shown.apart (seat.owned-here c others base d r old pile before) rooted t.is_its
        stacking moved is (λ never. is-told (told.stays never).0))

    kept-told : run_kept c (Some t.number) pile.windows ≡ map (told_by f) step.was
    kept-told = (run-was-told nums pile.windows c t.toplevel t.number f d e step is-numbered).0

    -- ---- what is marked

    module _ (was : List TreeWindow) (kept : is_some applied ≡ true → was ≡ run_kept c found pile.windows) (d0 d2 : Damaged)
        (points : AreToldIf found stacking was is → AddsPoints (turned_if found stacking (run_kept c found pile.windows) was is (changes_in applied)) d0 d2) where
      abbrev Points : Option ℕ → Stacking → Type 0
      Points o s = AreToldIf o s was is → AddsPoints (turned_if o s (run_kept c o pile.windows) was is (changes_in applied)) d0 d2

      points-of : Points (Some t.number) stacking
      points-of = subst (λ (o : Option ℕ). Points o stacking) t.is_found points

      abbrev Adds : List TreeWindow → List TreeWindow → List (Change A) → Type 0
      Adds before_it after_it list = AreTogether before_it → AreTogether after_it → AddsPoints (marks_moved before_it after_it list) d0 d2

      adds-out : (n : ℕ) → stacking ≡ on.Out n → AddsRun f told.list step.was step.is d0 d2
      adds-out n out =
          gone-run-adds A f told.list step.was step.is d0 d2 (none-left n out)
          (subst (λ (ws : List TreeWindow). AddsPoints (λ x y. list_any (window_has x y) ws) d0 d2) kept-told (subst (Points (Some t.number)) out points-of tt))

      adds-stays : ((n : ℕ) → stacking ≡ on.Out n → ⊥) → Adds (map (told_by f) step.was) (map (told_by f) step.is) told.list
      adds-stays never =
          let so = told.stays never in
          subst (λ (l : List (Change A)). Adds (map (told_by f) step.was) (map (told_by f) step.is) l) (sym so.1)
          (subst (λ (ws : List TreeWindow). Adds (map (told_by f) step.was) ws (changes_in applied)) (is-told so.0)
          (subst (λ (ws : List TreeWindow). Adds ws is (changes_in applied)) (kept so.0 ∙ (ap (λ (o : Option ℕ). run_kept c o pile.windows) t.is_found ∙ kept-told))
          (unless-out stacking refl points-of)))
        where
          unless-out : (s : Stacking) → stacking ≡ s → Points (Some t.number) s → Adds was is (changes_in applied)
          unless-out (on.Out n) out h = absurd (never n out)
          unless-out on.Stays out h = λ a b. h (a, b)
          unless-out (on.ToTop n) out h = λ a b. h (a, b)

      run-told : IsRunTold c d e f told.list
      run-told = record {
        shown_before = before.mapped;
        shown_after = shown;
        apart = subst (λ (o : Owned). AreToldApart f o.surfaces) (sym (seat.owned-here c others base d r old pile before)) (seat.renaming c others base d r old pile before).apart;
        stay = turning.comes c others base d r old pile before trees owns demand p e meant did after shown told.id surface told.touches told.named top-k;
        tells = subst (λ (o : Owned). TellsTrees f told.list o.surfaces (owned_in e c).surfaces) (sym (seat.owned-here c others base d r old pile before))
            (subst (λ (o : Owned). TellsTrees f told.list r.owned.surfaces o.surfaces) (sym did.own) told.tells);
      }

      -- Where they are told to be the same, and take input where they did, each point hits what it hit.
      pub same-hits : is_some applied ≡ true → same_windows was is ≡ true → TakeSame (owned_in d c).surfaces (owned_in e c).surfaces → HitsStay d e
      same-hits some same takes =
          run-hits c d e takes t.toplevel step (run-same c t.toplevel d e step f told.list run-told (pos 0) (pos 0) told-same)
          (run-owned c t.toplevel d e step f told.list run-told (pos 0) (pos 0))
        where
          told-same : same_windows (map (told_by f) step.was) (map (told_by f) step.is) ≡ true
          told-same =
              subst (λ (ws : List TreeWindow). same_windows (map (told_by f) step.was) ws ≡ true) (is-told some)
              (subst (λ (ws : List TreeWindow). same_windows ws is ≡ true) (kept some ∙ (ap (λ (o : Option ℕ). run_kept c o pile.windows) t.is_found ∙ kept-told)) same)

      -- What is marked is all that has to be.
      pub run-least : MarksAtLeast d e d0 d2
      run-least = at (is-out stacking)
        where
          at : ((n : ℕ) × (stacking ≡ on.Out n)) ⊎ ((n : ℕ) → stacking ≡ on.Out n → ⊥) → MarksAtLeast d e d0 d2
          at (inl out) = adds-at-least A d e f told.list step.was step.is t.changes.marks d0 d2 (adds-out out.0 out.1)
          at (inr never) = λ x y wide high clean.
              let both = or_parts (has d0 x y) _ (sym (adds-stays never t.changes.marks.together_before t.changes.marks.together_after x y wide high) ∙ clean) in (
                both.0,
                false_from_ne_true (marks_at_least d e (pos x) (pos y))
                    (λ marked. differ (sym both.1 ∙ moved-least c t.toplevel d e step f told.list run-told (pos x) (pos y) (t.changes.marks.least (pos x) (pos y)) marked)),
              )

      -- And no more than may be.
      pub run-most : ((x y : ℕ) → x < d0.width → y < d0.height → in_output d.output.width d.output.height (pos x) (pos y) ≡ true) → MarksMost d e d0 d2
      run-most inside = at (is-out stacking)
        where
          at : ((n : ℕ) × (stacking ≡ on.Out n)) ⊎ ((n : ℕ) → stacking ≡ on.Out n → ⊥) → MarksMost d e d0 d2
          at (inl out) = adds-at-most A d e f told.list step.was step.is t.changes.marks d0 d2 inside (adds-out out.0 out.1) None
          at (inr never) = λ x y wide high marked. by x y wide high marked (has d0 x y) refl
            where
              by : (x y : ℕ) → x < d0.width → y < d0.height → has d2 x y ≡ true → (b : Bool) → has d0 x y ≡ b → (has d0 x y || marks_at_most d e None (pos x) (pos y)) ≡ true
              by x y wide high marked true was_so = or_left (has d0 x y) _ was_so
              by x y wide high marked false clean =
                  or_right (has d0 x y) _
                  (t.changes.marks.most None (pos x) (pos y)
                  (and_from _ _ (inside x y wide high)
                  (moved-most (map (told_by f) step.was) (map (told_by f) step.is) told.list (pos x) (pos y)
                  (sym (ap (λ b. b || marks_moved (map (told_by f) step.was) (map (told_by f) step.is) told.list (pos x) (pos y)) clean)
                  ∙ (sym (adds-stays never t.changes.marks.together_before t.changes.marks.together_after x y wide high) ∙ marked)))))

  -- ---- whichever is found

  -- the windows that are told have room
  pub told-fit : (space : ℕ) → (is_some applied ≡ true → count old.owned.surfaces.states ≤ space) → ((n : ℕ) → stacking ≡ on.Out n → ⊥) → TurnsRun c (nums c) f told.list own_root found d e
      → length is ≤ space
  told-fit space has_space never t =
      let some = (told.stays never).0 in
      through-count (length is) (count old.owned.surfaces.states) space
      (subst (λ (n : ℕ). n ≤ count old.owned.surfaces.states) (sym (ap (λ (ws : List TreeWindow). length ws) (is-told t some) ∙ length-map t.changes.step.is (told_by f)))
      (subst (λ (n : ℕ). length t.changes.step.is ≤ n)
      (ap (λ (o : Owned). length o.surfaces.surfaces) (seat.owned-here c others base d r old pile before) ∙ sym before.seat.owns.surfaces.count)
      (run-fits c t.toplevel d e t.changes.step
      (turning.comes c others base d r old pile before trees owns demand p e meant did after shown told.id surface told.touches told.named top-k)))) (has_space some)

  module _ (was : List TreeWindow) (kept : is_some applied ≡ true → was ≡ run_kept c found pile.windows) (d0 d2 : Damaged)
      (points : AreToldIf found stacking was is → AddsPoints (turned_if found stacking (run_kept c found pile.windows) was is (changes_in applied)) d0 d2) where
    -- where none is found nothing is marked
    none-marked : found ≡ None → (x y : ℕ) → x < d0.width → y < d0.height → has d2 x y ≡ has d0 x y
    none-marked none x y wide high =
        subst (λ (o : Option ℕ). AreToldIf o stacking was is → AddsPoints (turned_if o stacking (run_kept c o pile.windows) was is (changes_in applied)) d0 d2) none points tt x y wide high ∙ or-none (has d0 x y)
      where
        or-none : (b : Bool) → (b || false) ≡ b
        or-none true = refl
        or-none false = refl

    -- Where the windows are told to be the same, and take input where they did, each point hits what it hit.
    pub hits : is_some applied ≡ true → same_windows was is ≡ true → TakeSame (owned_in d c).surfaces (owned_in e c).surfaces → HitsStay d e
    hits some same takes = at turned
      where
        at : Turns c (nums c) f told.list own_root found d e → HitsStay d e
        at (inl h) = windows-stay d e h.1.stays.windows
        at (inr t) = same-hits t was kept d0 d2 points some same takes

    -- What is marked is all that has to be.
    pub marks-least : MarksAtLeast d e d0 d2
    marks-least = at turned
      where
        at : Turns c (nums c) f told.list own_root found d e → MarksAtLeast d e d0 d2
        at (inl h) = untouched-least d e h.1 d0 d2 (none-marked h.0)
        at (inr t) = run-least t was kept d0 d2 points

    -- And no more than may be.
    pub marks-most : ((x y : ℕ) → x < d0.width → y < d0.height → in_output d.output.width d.output.height (pos x) (pos y) ≡ true) → MarksMost d e d0 d2
    marks-most inside = at turned
      where
        at : Turns c (nums c) f told.list own_root found d e → MarksMost d e d0 d2
        at (inl h) = untouched-most d e d0 d2 (none-marked h.0)
        at (inr t) = run-most t was kept d0 d2 points inside

  -- What is told of windows for a moment: none, where none changes; else those that the toplevel has then.
  pub turned-so : (is_some applied ≡ false → is ≡ []) → (found ≡ None → is ≡ [])
      → (StaysPainted d e × (is ≡ [])) ⊎ ((toplevel : ℕ) × (step : ChangesToplevel c toplevel d e) × (is ≡ map (told_by f) step.is))
  turned-so none_told no_run = at turned
    where
      by : (t : TurnsRun c (nums c) f told.list own_root found d e) (b : Bool) → is_some applied ≡ b → is ≡ map (told_by f) t.changes.step.is
      by t true some = is-told t some
      by t false none =
          none_told none ∙ sym (ap (map (told_by f)) (out (is-out stacking)))
        where
          out : ((n : ℕ) × (stacking ≡ on.Out n)) ⊎ ((n : ℕ) → stacking ≡ on.Out n → ⊥) → t.changes.step.is ≡ []
          out (inl o) = none-left t o.0 o.1
          out (inr never) = absurd (true≢false (sym (told.stays never).0 ∙ none))

      at : Turns c (nums c) f told.list own_root found d e
          → (StaysPainted d e × (is ≡ [])) ⊎ ((toplevel : ℕ) × (step : ChangesToplevel c toplevel d e) × (is ≡ map (told_by f) step.is))
      at (inl h) = inl (h.1.stays, no_run h.0)
      at (inr t) = inr (t.toplevel, t.changes.step, by t (is_some applied) refl)
