-- What a message that is done does to the stack of toplevels, and what is kept of the windows after it.
use Rattle.std.proofs.Common.{arith, ◌≡◌, ℕ, ◌==◌, Bool, true, false, cond, Option, Some, None, List, [], ◌∷◌, ◌++◌, map, refl, ap, sym, subst, ◌∙◌, inl, inr, ◌⊎◌}
use Rattle.std.proofs.lemmas.Bool.{true≢false}
use Rattle.std.specs.Prelude.{find, is_some, not, ◌&&◌, ◌||◌}
use Rattle.std.specs.List.{list_any}
use Rattle.spec_desktop.specs.Objects.{ById}
use Rattle.spec_desktop.specs.Peer.{Peer}
use Rattle.wl_shell.specs.Popups.{is_toplevel, is_toplevel_kind, kind_popup, popup_in}
use Rattle.wl_shell.specs.Shell.{Effect, Stays, Unconfigured, Configures, IsPopup, Kind, Maps, Popup, RoleObject, Toplevel, Unmaps, XdgSurface as Xdg, xdg_of}
use Rattle.spec_desktop.specs.Windows.{StackedPopup, mapping_place}
use Rattle.wl_scene.specs.declared.tree_window.TreeWindow.{TreeWindow}
use Rattle.spec_desktop.specs.Stacking.{Owned, Standing, is_of as is_standing, with_mapped, without_surface_of}
use Rattle.wl_scene.specs.Kept.{Stack, mapped_on}
use Rattle.wl_scene.specs.declared.stacked.Stacked.{Stacked}
use Rattle.wl_scene.specs.Stacked.{replaced, stacked}
use Rattle.spec_desktop.specs.Changing.{stacked_by, stacked_for}
use Rattle.spec_desktop.specs.Demand.{Demand, CommitTree, EndToplevel}
use Rattle.spec_desktop.specs.Demanding.{effect_of_commit}
use Rattle.spec_desktop.specs.Desktop.{Desktop, Resident, owned_in}
use Rattle.spec_desktop.specs.Stacked.{all_windows}
use Rattle.spec_desktop.specs.Step.{with_peer}
use Rattle.law_desktop.proofs.Lists.Keys.{found-by}
use Rattle.law_desktop.proofs.Marks.Stacks.{equal-numbers, same-number}
use Rattle.law_desktop.specs.Laws.{AreApart}
use Rattle.law_desktop.specs.TreeStepsLaws.{IsRootOf}
use Rattle.law_windows.specs.RenamedWindows.{told_by}
use Rattle.law_desktop.proofs.Lists.Tests.{find-none}
use Rattle.law_desktop.proofs.RootsOf.Stacks.{none-lower}
use Rattle.wl_scene.specs.StackedAgreement.{AreStacked}
use Rattle.law_desktop.specs.Ordered.{OwnsOrdered}
use Rattle.law_desktop.specs.Changes.{HasTrees}
use Rattle.law_desktop.specs.Done.{IsMeant, touched_by}
use Rattle.law_desktop.specs.StackedWith.{IsStackedAs, popup_of}
use Rattle.law_desktop.specs.Toplevel.{ChangesToplevel}
use Rattle.law_desktop.proofs.RootsOf.Commits.{own-root}
use Rattle.law_windows.specs.Runs.Kept.{IsNumbered}
use Rattle.law_windows.specs.Runs.Lookup.{toplevel_found}
use Rattle.law_windows.proofs.OneToplevel.Found.{finds-toplevels}
use Rattle.law_windows.proofs.OneToplevel.Turned.{run-comes, run-goes, run-stays}
use Rattle.wl_requests.specs.declared.residents.Resident.{Resident as Kept}
use Rattle.wl_requests.specs.declared.residents.Stacking.{Stacking}
use Rattle.wl_requests.specs.declared.residents.Stacking.TheVariants as on
use Rattle.wl_requests.specs.Residents.{StacksFor, StacksIf}
use Rattle.wl_clients.specs.Agreement.{IsScene, IsStack, with_numbers}
use Rattle.wl_clients.specs.Screens.{restacked}
use Rattle.wl_clients.specs.Seats.{IsRestacked}
use Rattle.wl_clients.proofs.OnScreen.Lookup.{IsStackedOf, popup-stacked, popup_with}
use Rattle.wl_clients.proofs.OnScreen.Scenes.{AreOnce, numbers-same, stack-mapped, stack-out}
use Rattle.wl_clients.proofs.OnScreen.Sitting.{numbers}

both-true : (a b : Bool) → a ≡ true → b ≡ true → (a && b) ≡ true
both-true true b e f = f
both-true false b e f = e

out-stays : (n : ℕ) → on.Stays ≡ on.Out n → ⊥
out-stays n e = absurd (cc)

out-top : (m n : ℕ) → on.ToTop m ≡ on.Out n → ⊥
out-top m n e = absurd (cc)

none-without : (c surface : ℕ) (ss : List Standing) → list_any (is_standing c surface) (without_surface_of c surface ss) ≡ false
none-without c surface [] = refl
none-without c surface (s ∷ ss) = at (is_standing c surface s) refl (none-without c surface ss)
  where
    at : (b : Bool) → is_standing c surface s ≡ b → list_any (is_standing c surface) (without_surface_of c surface ss) ≡ false
        → list_any (is_standing c surface) (cond (not b) (s ∷ without_surface_of c surface ss) (without_surface_of c surface ss)) ≡ false
    at true e rest = rest
    at false e rest = ap (λ b. b || list_any (is_standing c surface) (without_surface_of c surface ss)) e ∙ rest

-- ---- a toplevel is its own

-- the xdg_surface of a toplevel has no popup
unpopped : (x : Option Xdg) → is_toplevel x ≡ true → popup_with x ≡ None
unpopped None is = refl
unpopped (Some x) is = at x.role is
  where
    kind : (k : Kind) → is_toplevel_kind k ≡ true → kind_popup k ≡ None
    kind Toplevel e = refl
    kind (IsPopup popup) e = absurd (true≢false (sym e))

    at : (o : Option RoleObject) → is_toplevel (Some (record x { role = o })) ≡ true → popup_in o ≡ None
    at None e = refl
    at (Some object) e = kind object.kind e

none-of : (o : Owned) (popup : Option Popup) (p : Option StackedPopup) → popup ≡ None → IsStackedOf o popup p → p ≡ None
none-of o None None e is = refl
none-of o None (Some p) e is = absurd is
none-of o (Some popup) p e is = absurd (cc)

-- a tree whose root is no popup is stacked with its own toplevel
its-own : (c root : ℕ) (d : Desktop) (o : Option ℕ) (q : Option StackedPopup) → q ≡ None → IsStackedAs c root d q o → o ≡ Some root
its-own c root d None None e is = absurd is
its-own c root d (Some t) None e is = ap (λ n. Some n) is
its-own c root d o (Some q) e is = absurd (cc)

pub its-toplevel : (c root : ℕ) (d : Desktop) → HasTrees d → is_toplevel (xdg_of root (owned_in d c).shell) ≡ true
    → toplevel_found c root (popup_of c root d) (all_windows d) ≡ Some root
its-toplevel c root d trees is =
    its-own c root d (toplevel_found c root (popup_of c root d) (all_windows d)) (popup_of c root d)
    (none-of (owned_in d c) (popup_with (xdg_of root (owned_in d c).shell)) (popup_of c root d) (unpopped (xdg_of root (owned_in d c).shell) is) (popup-stacked c root d trees))
    (finds-toplevels c root d trees)

some-of : (x : Option Xdg) → is_toplevel x ≡ true → is_some x ≡ true
some-of None is = absurd (true≢false (sym is))
some-of (Some x) is = refl

pub its-root : (c id root : ℕ) (d : Desktop) → HasTrees d → is_toplevel (xdg_of id (owned_in d c).shell) ≡ true → IsRootOf (owned_in d c).surfaces id root → root ≡ id
its-root c id root d trees is its = own-root c d trees id root (trees.xdg_roots c id (some-of (xdg_of id (owned_in d c).shell) is)) its

-- ---- what a request does to the stack

-- It stays, the surface's toplevel goes, or it is mapped.
abbrev pub Moves : ℕ → ById ℕ → ℕ → Resident → Desktop → List Standing → Stacking → Type 0
Moves c old id r d after stacking =
    ((stacking ≡ on.Stays) × (after ≡ d.standing))
    ⊎ (((n : ℕ) × (stacking ≡ on.Out n) × (after ≡ without_surface_of c id d.standing) × (is_toplevel (xdg_of id r.owned.shell) ≡ true) × (old id ≡ Some n))
    ⊎ ((n : ℕ) × (stacking ≡ on.ToTop n) × (after ≡ with_mapped d.mappings c id d.standing) × (is_toplevel (xdg_of id r.owned.shell) ≡ true) × (old id ≡ Some n)))

some-same : (a b : ℕ) → Some a ≡ Some b → a ≡ b
some-same a b e = grind (arith)

module _ {A : Type 0} (c : ℕ) (old : Kept A) (r : Resident) (p : Peer) (owns : OwnsOrdered r) (d : Desktop) (stacking : Stacking) where
  abbrev MovesBy : Demand → ℕ → Type 0
  MovesBy demand id = Moves c (numbers old) id r d (stacked_for c demand (with_peer p r) (all_windows d) d).standing stacking

  commit-moves : (id : ℕ) → StacksIf (is_toplevel (xdg_of id r.owned.shell)) old id (effect_of_commit r id) stacking → MovesBy (CommitTree id) id
  commit-moves id h = at (is_toplevel (xdg_of id r.owned.shell)) refl (effect_of_commit r id) refl h
    where
      comes : (top : Bool) (effect : Effect) → is_toplevel (xdg_of id r.owned.shell) ≡ top → effect_of_commit r id ≡ effect
          → (stacked_for c (CommitTree id) (with_peer p r) (all_windows d) d).standing ≡ (stacked_by effect top c id d).standing
      comes top effect t e = ap (λ (f : Effect). (stacked_by f (is_toplevel (xdg_of id r.owned.shell)) c id d).standing) e ∙ ap (λ (b : Bool). (stacked_by effect b c id d).standing) t

      still : (effect : Effect) → (stacked_by effect false c id d).standing ≡ d.standing
      still Stays = refl
      still effect = refl

      at : (top : Bool) → is_toplevel (xdg_of id r.owned.shell) ≡ top → (effect : Effect) → effect_of_commit r id ≡ effect → StacksIf top old id effect stacking → MovesBy (CommitTree id) id
      at false t effect e h = inl (h, comes false effect t e ∙ still effect)
      at true t Stays e h = inl (h, comes true Stays t e)
      at true t Unconfigured e h = inl (h, comes true Unconfigured t e)
      at true t Configures e h = inl (h, comes true Configures t e)
      at true t Maps e h = inr (inr (h.0, h.2, comes true Maps t e, t, h.1))
      at true t Unmaps e h = inr (inl (h.0, h.2, comes true Unmaps t e, t, h.1))

  -- the xdg_surface with a toplevel that goes is that of its surface
  meant-of : (id xdg surface : ℕ) → IsMeant (EndToplevel id xdg surface) r → is_toplevel (xdg_of surface r.owned.shell) ≡ true
  meant-of id xdg surface meant = ap is_toplevel found ∙ meant.role
    where
      found : xdg_of surface r.owned.shell ≡ Some meant.it
      found =
          found-by (λ surface x. x.surface == surface) (λ x. x.id == xdg) surface r.owned.shell meant.it owns.order.xdg_apart meant.here (equal-numbers meant.it.surface surface meant.own)

  pub moves : (demand : Demand) (id : ℕ) → IsMeant demand r → StacksFor old r demand stacking → touched_by demand r ≡ Some id → MovesBy demand id
  moves (CommitTree i) id meant h touched = subst (λ (n : ℕ). MovesBy (CommitTree i) n) (some-same i id touched) (commit-moves i h)
  moves (EndToplevel i xdg surface) id meant h touched =
      subst (λ (n : ℕ). MovesBy (EndToplevel i xdg surface) n) (some-same surface id touched) (inr (inl (h.0, h.2, refl, meant-of i xdg surface meant, h.1)))
  moves demand id meant h touched = inl (h, refl)

-- The toplevels that are kept stand for those that stand then.
pub stack-turned : (c : ℕ) (old : ById ℕ) (others : ℕ → ById ℕ) (id : ℕ) (r : Resident) (d : Desktop) (after : List Standing) (stacking : Stacking) → AreOnce old
    → Moves c old id r d after stacking → (was between : Stack) → IsScene (with_numbers c old others) was d → IsRestacked c stacking was between
    → IsStack (with_numbers c old others) between.standing after
stack-turned c old others id r d after stacking once moved was between scene done = at moved
  where
    own-number : (n : ℕ) → old id ≡ Some n → with_numbers c old others c id ≡ Some n
    own-number n number = ap (λ (f : ById ℕ). f id) (numbers-same c old others) ∙ number

    own-once : AreOnce (with_numbers c old others c)
    own-once = subst (λ (f : ById ℕ). AreOnce f) (sym (numbers-same c old others)) once

    at : Moves c old id r d after stacking → IsStack (with_numbers c old others) between.standing after
    at (inl h) =
        let same : between ≡ was = subst (λ (s : Stacking). IsRestacked c s was between) h.0 done in
        subst (λ (ss : List Standing). IsStack (with_numbers c old others) between.standing ss) (sym h.1)
        (subst (λ (s : Stack). IsStack (with_numbers c old others) s.standing d.standing) (sym same) scene.standing)
    at (inr (inl h)) =
        let out = subst (λ (s : Stacking). IsRestacked c s was between) h.1 done in
        subst (λ (ss : List Standing). IsStack (with_numbers c old others) between.standing ss) (sym h.2)
        (subst (λ (ks : List Standing). IsStack (with_numbers c old others) ks (without_surface_of c id d.standing)) (sym out.0)
        (stack-out (with_numbers c old others) c id h.0 was.standing d.standing own-once (own-number h.0 h.4) scene.standing))
    at (inr (inr h)) =
        let top : between ≡ mapped_on c h.0 was = subst (λ (s : Stacking). IsRestacked c s was between) h.1 done in
        subst (λ (ss : List Standing). IsStack (with_numbers c old others) between.standing ss) (sym h.2)
        (subst (λ (s : Stack). IsStack (with_numbers c old others) s.standing (with_mapped d.mappings c id d.standing)) (sym top)
        (stack-mapped (with_numbers c old others) c id h.0 was.next d.mappings was.standing d.standing (own-number h.0 h.4) scene.next scene.standing))

-- ---- the windows afterwards

module _ (nums : ℕ → ById ℕ) (c id root toplevel k : ℕ) (old : ById ℕ) (f : ℕ → ℕ) (r : Resident) (d e : Desktop) (all : List Stacked) (step : ChangesToplevel c toplevel d e)
    (is_numbered : IsNumbered nums all c toplevel k f d e) (trees : HasTrees d) (apart : AreApart e.standing) (here : owned_in d c ≡ r.owned)
    (rooted : IsRootOf (owned_in d c).surfaces id root) (its : toplevel_found c root (popup_of c root d) (all_windows d) ≡ Some toplevel)
    (stacking : Stacking) (moved : Moves c old id r d e.standing stacking) where
  -- a toplevel that goes or comes is that of the surface
  own : is_toplevel (xdg_of id r.owned.shell) ≡ true → toplevel ≡ id
  own top =
      let is : is_toplevel (xdg_of id (owned_in d c).shell) ≡ true = ap (λ (o : Owned). is_toplevel (xdg_of id o.shell)) here ∙ top in
      let root-is : root ≡ id = its-root c id root d trees is rooted in
      some-same toplevel id
      (sym its ∙ (its-toplevel c root d trees (subst (λ (n : ℕ). is_toplevel (xdg_of n (owned_in d c).shell) ≡ true) (sym root-is) is) ∙ ap (λ (n : ℕ). Some n) root-is))

  stands-nowhere : (n : ℕ) → e.standing ≡ without_surface_of c id d.standing → toplevel ≡ id → find (is_standing c toplevel) e.standing ≡ None
  stands-nowhere n stands same =
      ap (λ (m : ℕ). find (is_standing c m) e.standing) same
      ∙ (ap (find (is_standing c id)) stands ∙ find-none (is_standing c id) (without_surface_of c id d.standing) (none-without c id d.standing))

  -- What is kept of the windows goes on standing for them.
  pub windows-restacked : (is : List TreeWindow) → (((n : ℕ) → stacking ≡ on.Out n → ⊥) → is ≡ map (told_by f) step.is)
      → AreStacked nums (restacked c k stacking is all) (all_windows e)
  windows-restacked is same = at moved
    where
      is-told : ((n : ℕ) → stacking ≡ on.Out n → ⊥) → (s : Stacking) → AreStacked nums (restacked c k s (map (told_by f) step.is) all) (all_windows e)
          → AreStacked nums (restacked c k s is all) (all_windows e)
      is-told never s are = subst (λ (ws : List TreeWindow). AreStacked nums (restacked c k s ws all) (all_windows e)) (sym (same never)) are

      at : Moves c old id r d e.standing stacking → AreStacked nums (restacked c k stacking is all) (all_windows e)
      at (inl h) =
          subst (λ (s : Stacking). AreStacked nums (restacked c k s is all) (all_windows e)) (sym h.0)
          (is-told (λ n other. out-stays n (sym h.0 ∙ other)) on.Stays
          (run-stays nums all c toplevel k f d e step is_numbered trees (λ nowhere. ap (list_any (is_standing c toplevel)) h.1 ∙ nowhere)))
      at (inr (inl h)) =
          subst (λ (s : Stacking). AreStacked nums (restacked c k s is all) (all_windows e)) (sym h.1)
          (run-goes nums all c toplevel k f d e step is_numbered (stands-nowhere h.0 h.2 (own h.3))).1
      at (inr (inr h)) =
          let same : toplevel ≡ id = own h.3 in
          let s : Standing = record { client = c; surface = id; place = mapping_place d.mappings } in
          let stands : e.standing ≡ d.standing ++ s ∷ [] = h.2 in
          let lower = subst (λ ss. AreApart ss) stands apart in
          let comes =
          run-comes nums all c toplevel k f d e step is_numbered s (both-true (c == c) (id == toplevel) (same-number c) (ap (λ (n : ℕ). id == n) same ∙ same-number id)) stands
          (subst (λ (n : ℕ). list_any (is_standing c n) d.standing ≡ false) (sym same) (none-lower d.standing s lower)) in
          subst (λ (s : Stacking). AreStacked nums (restacked c k s is all) (all_windows e)) (sym h.1)
          (is-told (λ n other. out-top h.0 n (sym h.1 ∙ other)) (on.ToTop h.0)
          (subst (λ (b : Bool). AreStacked nums (cond b (replaced c k (map (told_by f) step.is) all) (all ++ map (stacked c k) (map (told_by f) step.is))) (all_windows e)) (sym comes.0)
          comes.1))

  -- Where it goes, it has no windows afterwards.
  pub out-empty : (n : ℕ) → stacking ≡ on.Out n → step.is ≡ []
  out-empty n out = at moved
    where
      at : Moves c old id r d e.standing stacking → step.is ≡ []
      at (inl h) = absurd (out-stays n (sym h.0 ∙ out))
      at (inr (inl h)) = (run-goes nums all c toplevel k f d e step is_numbered (stands-nowhere h.0 h.2 (own h.3))).0
      at (inr (inr h)) = absurd (out-top h.0 n (sym h.1 ∙ out))
