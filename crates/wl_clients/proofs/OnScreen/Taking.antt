-- A message of a client is served: what becomes of it and of the toplevels that stand.
use Rattle.std.proofs.Common.{◌≡◌, ℕ, ◌+◌, ◌-◌, List, [], ◌∷◌, take, drop, Bool, true, false, cond, Option, Some, None, Result, refl, ap, sym, subst, ◌∙◌, inl, inr, ◌⊎◌}
use Rattle.std.proofs.lemmas.Bool.{true≢false}
use Rattle.std.specs.Prelude.{Ok, Err, is_some, not, ◌==◌, ◌&&◌}
use Rattle.wl_client.specs.Agreement.{IsPeer}
use Rattle.law_desktop.proofs.Runs.Places.{left_by}
use Rattle.law_desktop.proofs.Soundness.RunSteady.{changed-steady}
use Rattle.law_desktop.specs.Ordered.{Ordered, OwnsOrdered}
use Rattle.spec_desktop.specs.declared.cause.Cause.{Cause}
use Rattle.spec_desktop.specs.declared.refusals.ErrorCode.TheVariants.{InvalidMethod}
use Rattle.spec_desktop.specs.declared.refusals.Refusal.{Refusal}
use Rattle.spec_desktop.specs.Objects.{ById}
use Rattle.spec_desktop.specs.Peer.{Errs, LacksMemory, Peer, Queues, WantsOr, counted, with_rest}
use Rattle.spec_desktop.specs.Told.{Said, display_error}
use Rattle.spec_desktop.specs.Changing.{changed_for, moving_from, stacked_by, stacked_for}
use Rattle.spec_desktop.specs.Demand.{Demand, CommitTree, EndToplevel, Move}
use Rattle.spec_desktop.specs.Demanding.{effect_of_commit, judge_all}
use Rattle.spec_desktop.specs.Desktop.{Desktop, Resident, become, become_by, client_in, unpointed}
use Rattle.spec_desktop.specs.Happens.{wants_memory}
use Rattle.spec_desktop.specs.Replies.{replies}
use Rattle.spec_desktop.specs.Stacked.{all_windows}
use Rattle.spec_desktop.specs.Step.{with_peer}
use Rattle.wl_requests.proofs.Framing.{told-requests}
use Rattle.wl_requests.specs.declared.messages.Asked.{Asked}
use Rattle.wl_requests.specs.declared.residents.Placing.{Placing}
use Rattle.wl_requests.specs.declared.residents.Resident.{Resident as Kept}
use Rattle.wl_requests.specs.declared.residents.Stacking.{Stacking}
use Rattle.wl_requests.specs.declared.residents.Stacking.TheVariants as on
use Rattle.wl_requests.specs.Messages.{IsTouchOfAsked}
use Rattle.wl_requests.specs.Placing.{IsPlacingOf}
use Rattle.wl_requests.specs.Residents.{AnswersAs as KeepsAs, AnswersSo as KeepsSo, IsLeft, IsResident, MeetsAs, StacksFor, StacksIf, StacksSo}
use Rattle.wl_requests.specs.Residents.{TakesAs as TakesKeptAs, TakesSo}
use Rattle.wl_requests.specs.Touching.{Touch}
use Rattle.wl_clients.proofs.OnScreen.Ended.{Taken}
use Rattle.wl_clients.proofs.OnScreen.Ends.{errs-over, lacks-over, nameless-over, over-ended, queues-over}
use Rattle.wl_clients.proofs.OnScreen.Scenes.{AreOnce, Has, next-of, numbers-by, numbers-same, stack-by, stack-mapped, stack-out}
use Rattle.wl_clients.proofs.OnScreen.Sitting.{IsEmptied, IsRestackedIf, IsSameBut, IsSettled, Known, Sits, based-at, become-gone, become-lives, itself, none-is, numbers, sits-gone, sits-same, some-is}
use Rattle.wl_clients.specs.declared.screen.screens.Screen.{Screen}
use Rattle.wl_clients.specs.Agreement.{IsScene, IsStack, with_numbers}
use Rattle.wl_clients.specs.Seats.{IsBased, IsRestacked, IsSeated}
use Rattle.wl_clients.specs.View.{pile_of}
use Rattle.spec_desktop.specs.Pointer.{Pointer, first_pointer}
use Rattle.spec_desktop.specs.Stacking.{Standing, with_mapped, without_client, without_surface_of}
use Rattle.wl_scene.specs.Kept.{Stack, mapped_on}
use Rattle.wl_surface.specs.declared.applied.Applied.{Applied}
use Rattle.law_desktop.specs.Messages.{IsDemanded}
use Rattle.law_desktop.specs.Ways.{AnswersAs, Becomes, DoesAlone, TakesAs}
use Rattle.wl_wire.specs.declared.header.Split.{Split}
use Rattle.wl_wire.specs.declared.header.Split.TheVariants.{Message as Whole, More, Bad}
use Rattle.wl_wire.specs.Wire.{split_of}
use Rattle.wl_shell.specs.Popups.{is_toplevel}
use Rattle.wl_shell.specs.Shell.{Effect, Stays, Unconfigured, Configures, Maps, Unmaps, xdg_of}
use Rattle.wl_clients.proofs.OnScreen.Given.{TakesGiven, TakesGivenAs}

-- ---- nobody points

-- Where nobody points the pointer is put aside already.
pub nobody-points : (d : Desktop) → d.pointer ≡ first_pointer → unpointed d ≡ d
nobody-points d pointer = ap (λ (p : Pointer). record d { pointer = p }) (sym pointer)

-- ---- what a request does to the stack

-- it stays, a toplevel goes, or a commit maps one
abbrev pub Stacks : ℕ → ById ℕ → Demand → Resident → Desktop → Desktop → Stacking → Type 0
Stacks c old demand r d after stacking =
    ((stacking ≡ on.Stays) × (after ≡ d))
    ⊎ (((id : ℕ) × (n : ℕ) × (old id ≡ Some n) × (stacking ≡ on.Out n) × (after ≡ record d { standing = without_surface_of c id d.standing }))
    ⊎ ((id : ℕ) × (n : ℕ) × (old id ≡ Some n) × (stacking ≡ on.ToTop n)
    × (after ≡ record d { standing = with_mapped d.mappings c id d.standing; mappings = d.mappings + 1 }) × (demand ≡ CommitTree id) × (effect_of_commit r id ≡ Maps)))

module _ {A : Type 0} (c : ℕ) (old : Kept A) (r : Resident) (p : Peer) (d : Desktop) (pointer : d.pointer ≡ first_pointer) (stacking : Stacking) where
  abbrev StacksHere : Demand → Type 0
  StacksHere demand = Stacks c (numbers old) demand (with_peer p r) d (stacked_for c demand (with_peer p r) (all_windows d) d) stacking

  commit-stacks : (id : ℕ) → StacksIf (is_toplevel (xdg_of id r.owned.shell)) old id (effect_of_commit r id) stacking → StacksHere (CommitTree id)
  commit-stacks id h = at (is_toplevel (xdg_of id r.owned.shell)) refl (effect_of_commit r id) refl h
    where
      comes : (b : Bool) → is_toplevel (xdg_of id r.owned.shell) ≡ b → (effect : Effect) → effect_of_commit r id ≡ effect
          → stacked_for c (CommitTree id) (with_peer p r) (all_windows d) d ≡ stacked_by effect b c id d
      comes b is effect e =
          ap (λ (f : Effect). stacked_by f (is_toplevel (xdg_of id r.owned.shell)) c id d) e ∙ ap (λ (t : Bool). stacked_by effect t c id d) is

      at : (b : Bool) → is_toplevel (xdg_of id r.owned.shell) ≡ b → (effect : Effect) → effect_of_commit r id ≡ effect → StacksIf b old id effect stacking → StacksHere (CommitTree id)
      at true is Stays e h = inl (h, comes true is Stays e)
      at true is Unconfigured e h = inl (h, comes true is Unconfigured e)
      at true is Configures e h = inl (h, comes true is Configures e)
      at true is Maps e h = inr (inr (id, h.0, h.1, h.2, comes true is Maps e, refl, e))
      at true is Unmaps e h = inr (inl (id, h.0, h.1, h.2, comes true is Unmaps e))
      at false is Stays e h = inl (h, comes false is Stays e)
      at false is Unconfigured e h = inl (h, comes false is Unconfigured e)
      at false is Configures e h = inl (h, comes false is Configures e)
      at false is Maps e h = inl (h, comes false is Maps e)
      at false is Unmaps e h = inl (h, comes false is Unmaps e)

  -- where nobody points, no move begins
  move-stays : (surface serial : ℕ) → stacked_for c (Move surface serial) (with_peer p r) (all_windows d) d ≡ d
  move-stays surface serial =
      ap (λ (q : Pointer). record d { pointer = moving_from c surface serial (all_windows d) q }) pointer ∙ nobody-points d pointer

  pub stacks-so : (demand : Demand) → StacksFor old r demand stacking → StacksHere demand
  stacks-so (CommitTree id) h = commit-stacks id h
  stacks-so (EndToplevel id xdg surface) h = inr (inl (surface, h.0, h.1, h.2, refl))
  stacks-so (Move surface serial) h = inl (h, move-stays surface serial)
  stacks-so demand h = inl (h, refl)

-- a client's toplevel goes with the others
without-both : (c surface : ℕ) (ss : List Standing) → without_client c (without_surface_of c surface ss) ≡ without_client c ss
without-both c surface [] = refl
without-both c surface (s ∷ ss) = at (s.client == c) refl (s.surface == surface) (without-both c surface ss)
  where
    at : (a : Bool) → (s.client == c) ≡ a → (b : Bool) → without_client c (without_surface_of c surface ss) ≡ without_client c ss
        → without_client c (cond (not (a && b)) (s ∷ without_surface_of c surface ss) (without_surface_of c surface ss)) ≡ cond (not a) (s ∷ without_client c ss) (without_client c ss)
    at true e true rest = rest
    at true e false rest = rw e rest
    at false e b rest = rw e (ap (λ (xs : List Standing). s ∷ xs) rest)

-- ---- what is demanded, and its client told

-- what is told of it
abbrev pub said_of : ℕ → Demand → Resident → Desktop → List Said
said_of c demand r d = replies c demand r (changed_for c demand r d) (all_windows d) d

-- done and told, or without memory
abbrev Told : Bool → ℕ → Demand → Resident → Desktop → Peer → Type 0
Told true c demand r d q = Queues (said_of c demand r d) (changed_for c demand r d).peer q
Told false c demand r d q = (wants_memory demand ≡ true) × LacksMemory r.peer q

abbrev DoneAs : Bool → Demand → ℕ → Resident → Desktop → Desktop → Type 0
DoneAs true demand c r d e = DoesAlone demand c r d e
DoneAs false demand c r d e = (wants_memory demand ≡ true) × Becomes (LacksMemory r.peer) c r d e

-- the code knows whether it is done, as far as the stack depends on that
record Knows (done applied : Bool) (maps : ℕ → Type 0) : Type 0 where
  pub undone : done ≡ false → applied ≡ false
  pub mapped : (id : ℕ) → maps id → done ≡ applied

-- What a message demands of a client of the desktop, with its request counted, was done and told, or there was no memory for it.
record IsMet {A : Type 0} (c : ℕ) (others : ℕ → ById ℕ) (base d : Desktop) (there r : Resident) (demand : Demand) (done : Bool) (q : Peer) (stacking : Stacking) (applied : Option (Applied A))
    (old mid : Kept A) (was : Stack) : Type 0 where
  pub based : IsBased c base d there
  pub once : AreOnce (numbers old)
  pub scene : IsScene (with_numbers c (numbers old) others) was d
  pub lives : (changed_for c demand r d).peer.status ≡ None
  pub told : Told done c demand r d q
  pub left : IsLeft old mid (changed_for c demand r d) q
  pub stacks : Stacks c (numbers old) demand r d (stacked_for c demand r (all_windows d) d) stacking
  pub knows : Knows done (is_some applied) (λ id. (demand ≡ CommitTree id) × (effect_of_commit r id ≡ Maps))

-- the desk agrees with what that leads to
abbrev Meets : {A : Type 0} → ℕ → (ℕ → ById ℕ) → Desktop → Desktop → Resident → Demand → Bool → Kept A → Stack → Type 0
Meets c others base d r demand done new now = (e : Desktop) × (s : Resident) × DoneAs done demand c r d e × Sits c others base new now e s

lacks-status : (p q : Peer) → LacksMemory p q → q.status ≡ None → true ≡ false
lacks-status p q lacks none = none-is q.status none (over-ended q (lacks-over p q lacks))

-- who lives was told
told-lives : (done : Bool) (c : ℕ) (demand : Demand) (r : Resident) (d : Desktop) (q : Peer) → Told done c demand r d q → q.status ≡ None → (done ≡ true) × Told true c demand r d q
told-lives true c demand r d q h none = (refl, h)
told-lives false c demand r d q h none = absurd (true≢false (lacks-status r.peer q h.1 none))

-- nothing was applied, or something was
unapplied : {A : Type 0} (applied : Option (Applied A)) (c : ℕ) (stacking : Stacking) (was between : Stack) → is_some applied ≡ false → IsRestackedIf applied c stacking was between
    → between ≡ was
unapplied None c stacking was between none h = h
unapplied (Some applied) c stacking was between none h = absurd (true≢false none)

restacked : {A : Type 0} (applied : Option (Applied A)) (c : ℕ) (stacking : Stacking) (was between : Stack) → is_some applied ≡ true → IsRestackedIf applied c stacking was between
    → IsRestacked c stacking was between
restacked None c stacking was between some h = absurd (true≢false (sym some))
restacked (Some applied) c stacking was between some h = h

-- either way the stack stays
stays-if : {A : Type 0} (applied : Option (Applied A)) (c : ℕ) (was between : Stack) → IsRestackedIf applied c on.Stays was between → between ≡ was
stays-if None c was between h = h
stays-if (Some applied) c was between h = h

-- or no other client's toplevel goes
out-if : {A : Type 0} (applied : Option (Applied A)) (c n : ℕ) (was between : Stack) → IsRestackedIf applied c (on.Out n) was between
    → (without_client c between.standing ≡ without_client c was.standing) × (between.next ≡ was.next)
out-if None c n was between h = (ap (λ (k : Stack). without_client c k.standing) h, ap (λ (k : Stack). k.next) h)
out-if (Some applied) c n was between h = (ap (λ (ss : List Standing). without_client c ss) h.0 ∙ without-both c n was.standing, h.1)

module _ {A : Type 0} (c : ℕ) (others : ℕ → ById ℕ) (base d : Desktop) (there r : Resident) (demand : Demand) (done : Bool) (q : Peer) (stacking : Stacking) (applied : Option (Applied A))
    (old mid : Kept A) (was : Stack) (is : IsMet c others base d there r demand done q stacking applied old mid was) where
  abbrev changed : Resident
  changed = changed_for c demand r d

  abbrev after : Desktop
  after = stacked_for c demand r (all_windows d) d

  -- the numbers by which the stack goes
  abbrev named : ℕ → ById ℕ
  named = with_numbers c (numbers old) others

  own-number : (id n : ℕ) → numbers old id ≡ Some n → named c id ≡ Some n
  own-number id n number = ap (λ (f : ById ℕ). f id) (numbers-same c (numbers old) others) ∙ number

  own-once : AreOnce (named c)
  own-once = subst (λ (f : ById ℕ). AreOnce f) (sym (numbers-same c (numbers old) others)) is.once

  -- ---- the stack where what it asks is done

  scene-top : (id n : ℕ) → numbers old id ≡ Some n → IsScene named (mapped_on c n was) (record d { standing = with_mapped d.mappings c id d.standing; mappings = d.mappings + 1 })
  scene-top id n number =
      record {
        standing = stack-mapped named c id n was.next d.mappings was.standing d.standing (own-number id n number) is.scene.next is.scene.standing;
        next = next-of was.next d.mappings is.scene.next;
      }

  scene-out : (id n : ℕ) (between : Stack) → numbers old id ≡ Some n → IsRestacked c (on.Out n) was between
      → IsScene named between (record d { standing = without_surface_of c id d.standing })
  scene-out id n between number h =
      record {
        standing = subst (λ (ks : List Standing). IsStack named ks (without_surface_of c id d.standing)) (sym h.0)
            (stack-out named c id n was.standing d.standing own-once (own-number id n number) is.scene.standing);
        next = h.1 ∙ is.scene.next;
      }

  scene-after : (between : Stack) → IsRestacked c stacking was between → IsScene named between after
  scene-after between h = at is.stacks
    where
      at : Stacks c (numbers old) demand r d after stacking → IsScene named between after
      at (inl k) =
          let same : between ≡ was = subst (λ (s : Stacking). IsRestacked c s was between) k.0 h in
          subst (λ (y : Desktop). IsScene named between y) (sym k.1) (subst (λ (s : Stack). IsScene named s d) (sym same) is.scene)
      at (inr (inl k)) = subst (λ (y : Desktop). IsScene named between y) (sym k.4) (scene-out k.0 k.1 between k.2 (subst (λ (s : Stacking). IsRestacked c s was between) k.3 h))
      at (inr (inr k)) =
          let same : between ≡ mapped_on c k.1 was = subst (λ (s : Stacking). IsRestacked c s was between) k.3 h in
          subst (λ (y : Desktop). IsScene named between y) (sym k.4)
          (subst (λ (s : Stack). IsScene named s (record d { standing = with_mapped d.mappings c k.0 d.standing; mappings = d.mappings + 1 })) (sym same) (scene-top k.0 k.1 k.2))

  -- only the toplevels change, and their count
  after-keeps : (after.clients ≡ d.clients) × (after.output ≡ d.output)
  after-keeps = at is.stacks
    where
      at : Stacks c (numbers old) demand r d after stacking → (after.clients ≡ d.clients) × (after.output ≡ d.output)
      at (inl k) = (ap (λ (y : Desktop). y.clients) k.1, ap (λ (y : Desktop). y.output) k.1)
      at (inr (inl k)) = (ap (λ (y : Desktop). y.clients) k.4, ap (λ (y : Desktop). y.output) k.4)
      at (inr (inr k)) = (ap (λ (y : Desktop). y.clients) k.4, ap (λ (y : Desktop). y.output) k.4)

  -- ---- one that lives

  -- the numbers of the surfaces that are there after are those from before
  numbers-on : mid.client.ended ≡ None → (e : Desktop) → Known c mid e → (surface n : ℕ) → Has e.standing c surface → numbers old surface ≡ Some n → numbers mid surface ≡ Some n
  numbers-on none e known surface n has was_n = at (numbers mid surface) refl (known surface has)
    where
      at : (o : Option ℕ) → numbers mid surface ≡ o → is_some o ≡ true → o ≡ Some n
      at None here some = absurd (true≢false (sym some))
      at (Some m) here some = ap (λ (k : ℕ). Some k) (sym (is.left.numbers none surface n m was_n here))

  scene-on : mid.client.ended ≡ None → (e : Desktop) (stack : Stack) → IsScene named stack e → Known c mid e → IsScene (with_numbers c (numbers mid) others) stack e
  scene-on none e stack scene known =
      record {
        standing = stack-by named (with_numbers c (numbers mid) others) stack.standing e.standing (numbers-by c (numbers old) (numbers mid) others e.standing (numbers-on none e known))
            scene.standing;
        next = scene.next;
      }

  lives-on : mid.client.ended ≡ None → q.status ≡ None → Told true c demand r d q → (stack : Stack) → IsScene named stack after
      → Sits c others base mid stack (become c changed q after) (left_by q.status changed q)
  lives-on none status told stack scene =
      become-lives q.status c others base after changed q mid stack status (record {
        based = based-at None c base d after there changed q is.based after-keeps.0 after-keeps.1;
        seat = record {
          peer = is.left.peer;
          owns = is.left.owns none;
          frames = rw (told-requests (said_of c demand r d) changed.peer q told status) (is.left.frames none);
          subsurfaces = is.left.subsurfaces none;
          ended = λ some. absurd (true≢false (none-is q.status status some));
        };
        scene = λ known. scene-on none (become_by None c changed q after) stack (record { standing = scene.standing; next = scene.next }) known;
      })

  met-lives : mid.client.ended ≡ None → (new : Kept A) (now : Stack) → new ≡ mid → IsRestacked c stacking was now → Meets c others base d r demand done new now
  met-lives none new now same h =
      let status : q.status ≡ None = sym is.left.peer.status ∙ none in
      let told = told-lives done c demand r d q is.told status in
      let sits = sits-same c others base mid new now now _ _ same refl (lives-on none status told.1 now (scene-after now h)) in
      (become c changed q after, left_by q.status changed q, subst (λ (b : Bool). DoneAs b demand c r d (become c changed q after)) (sym told.0) (q, told.1, refl), sits)

  -- ---- one that ended

  emptied-from : (new : Kept A) (between now : Stack) → IsEmptied c mid new between now → without_client c between.standing ≡ without_client c was.standing → between.next ≡ was.next
      → IsEmptied c mid new was now
  emptied-from new between now h standing next =
      record { client = h.client; bare = h.bare; subsurfaces = h.subsurfaces; standing = h.standing ∙ standing; next = h.next ∙ next }

  emptied-same : (new : Kept A) (between now : Stack) → IsEmptied c mid new between now → between ≡ was → IsEmptied c mid new was now
  emptied-same new between now h same = emptied-from new between now h (ap (λ (k : Stack). without_client c k.standing) same) (ap (λ (k : Stack). k.next) same)

  -- it was told of what was done
  module _ (s : Cause) (status : q.status ≡ Some s) (told : Told true c demand r d q) (known : is_some applied ≡ false → (id : ℕ) → demand ≡ CommitTree id → effect_of_commit r id ≡ Maps → ⊥) where
    told-gone : (on : Desktop) → IsBased c base on there → (new : Kept A) (stack now : Stack) → IsSameBut c on after → IsScene named stack on → IsEmptied c mid new stack now
        → Sits c others base new now (become c changed q after) (left_by q.status changed q)
    told-gone on based new stack now same scene left =
        become-gone q.status s c others base after changed q new now status
        (sits-gone s c (numbers old) others base on after there changed q mid new stack now based same scene is.left.peer
        (nameless-over mid.client q is.left.peer (queues-over (said_of c demand r d) changed.peer q is.lives told (some-is q.status s status))) left)

    based-after : IsBased c base after there
    based-after =
        record {
          there = ap (λ (rs : List (Option Resident)). client_in rs c) after-keeps.0 ∙ is.based.there;
          output = after-keeps.1 ∙ is.based.output;
          clients = after-keeps.0 ∙ is.based.clients;
        }

    told-sits : (new : Kept A) (between now : Stack) → IsRestackedIf applied c stacking was between → IsEmptied c mid new between now
        → Sits c others base new now (become c changed q after) (left_by q.status changed q)
    told-sits new between now h left = at is.stacks
      where
        at : Stacks c (numbers old) demand r d after stacking → Sits c others base new now (become c changed q after) (left_by q.status changed q)
        at (inl k) =
            let same = stays-if applied c was between (subst (λ (s : Stacking). IsRestackedIf applied c s was between) k.0 h) in
            told-gone d is.based new was now (subst (λ (y : Desktop). IsSameBut c d y) (sym k.1) (itself c d)) is.scene (emptied-same new between now left same)
        at (inr (inl k)) =
            let out = out-if applied c k.1 was between (subst (λ (s : Stacking). IsRestackedIf applied c s was between) k.3 h) in
            told-gone d is.based new was now
            (subst (λ (y : Desktop). IsSameBut c d y) (sym k.4) (record { clients = refl; output = refl; standing = without-both c k.0 d.standing; mappings = refl })) is.scene
            (emptied-from new between now left out.0 out.1)
        at (inr (inr k)) = by (is_some applied) refl
          where
            by : (b : Bool) → is_some applied ≡ b → Sits c others base new now (become c changed q after) (left_by q.status changed q)
            by true e = told-gone after based-after new between now (itself c after) (scene-after between (restacked applied c stacking was between e h)) left
            by false e = absurd (known e k.0 k.5 k.6)

  -- there was no memory for it
  lacks-sits : (s : Cause) → q.status ≡ Some s → LacksMemory r.peer q → is_some applied ≡ false → (new : Kept A) (between now : Stack) → IsRestackedIf applied c stacking was between
      → IsEmptied c mid new between now → Sits c others base new now (become c r q d) (left_by q.status r q)
  lacks-sits s status lacks none new between now h left =
      become-gone q.status s c others base d r q new now status
      (sits-gone s c (numbers old) others base d d there r q mid new was now is.based (itself c d) is.scene is.left.peer (nameless-over mid.client q is.left.peer (lacks-over r.peer q lacks))
      (emptied-same new between now left (unapplied applied c stacking was between none h)))

  met-gone : (s : Cause) → mid.client.ended ≡ Some s → (new : Kept A) (between now : Stack) → IsRestackedIf applied c stacking was between → IsEmptied c mid new between now
      → Meets c others base d r demand done new now
  met-gone s ended new between now h left = at done is.told is.knows
    where
      status : q.status ≡ Some s
      status = sym is.left.peer.status ∙ ended

      at : (b : Bool) → Told b c demand r d q → Knows b (is_some applied) (λ id. (demand ≡ CommitTree id) × (effect_of_commit r id ≡ Maps)) → Meets c others base d r demand b new now
      at true told knows = (
        become c changed q after,
        left_by q.status changed q,
        (q, told, refl),
        told-sits s status told (λ none id e maps. true≢false (knows.mapped id (e, maps) ∙ none)) new between now h left,
      )
      at false told knows = (
        become c r q d,
        left_by q.status r q,
        (told.0, (q, told.1, refl)),
        lacks-sits s status told.1 (knows.undone refl) new between now h left,
      )

  -- it was settled
  met : (new : Kept A) (now : Stack) → IsSettled mid.client.ended applied c stacking mid new was now → Meets c others base d r demand done new now
  met new now settled = at mid.client.ended refl settled
    where
      at : (o : Option Cause) → mid.client.ended ≡ o → IsSettled o applied c stacking mid new was now → Meets c others base d r demand done new now
      at None e h = met-lives e new now h.0 h.1
      at (Some s) e h = met-gone s e new h.0 now h.1 (record { client = h.2; bare = h.3; subsurfaces = h.4; standing = h.5; next = h.6 })

-- ---- what is answered

-- what is kept has it of the desktop where the pointer is put aside
abbrev MeetsOn : {A : Type 0} → Bool → ℕ → Demand → Resident → Desktop → Desktop → Kept A → Kept A → Type 0
MeetsOn true c demand r d aside old mid =
    (q : Peer) × Queues (replies c demand r (changed_for c demand r aside) (all_windows d) aside) (changed_for c demand r aside).peer q
    × IsLeft old mid (changed_for c demand r aside) q
MeetsOn false c demand r d aside old mid = (wants_memory demand ≡ true) × (q : Peer) × LacksMemory r.peer q × IsLeft old mid (changed_for c demand r aside) q

meets-on : {A : Type 0} (done : Bool) (c : ℕ) (demand : Demand) (r : Resident) (d : Desktop) (old mid : Kept A) → MeetsAs done c demand r d old mid
    → MeetsOn done c demand r d (unpointed d) old mid
meets-on true c demand r d old mid h = h
meets-on false c demand r d old mid h = h

meets-told : {A : Type 0} (done : Bool) (c : ℕ) (demand : Demand) (r : Resident) (d : Desktop) (old mid : Kept A) → MeetsOn done c demand r d d old mid
    → (q : Peer) × Told done c demand r d q × IsLeft old mid (changed_for c demand r d) q
meets-told true c demand r d old mid h = h
meets-told false c demand r d old mid h = (h.1, (h.0, h.2), h.3)

meets-here : {A : Type 0} (done : Bool) (c : ℕ) (demand : Demand) (r : Resident) (d : Desktop) (old mid : Kept A) → d.pointer ≡ first_pointer → MeetsAs done c demand r d old mid
    → (q : Peer) × Told done c demand r d q × IsLeft old mid (changed_for c demand r d) q
meets-here done c demand r d old mid pointer h =
    meets-told done c demand r d old mid
    (subst (λ (aside : Desktop). MeetsOn done c demand r d aside old mid) (nobody-points d pointer) (meets-on done c demand r d old mid h))

-- the same for what the message at the front of what came does to the stack
abbrev StacksIn : {A : Type 0} → Split → Kept A → Resident → Stacking → Type 0
StacksIn (Whole object opcode size) old r stacking = StacksSo old r (judge_all r object opcode (take (size - 8) (drop 8 r.peer.rest))) stacking
StacksIn Bad old r stacking = Unit {0}
StacksIn More old r stacking = Unit {0}

-- what is refused demands nothing
refused-not : (refusal : Refusal) (id : ℕ) → Result.Err refusal ≡ Ok (CommitTree id) → ⊥
refused-not refusal id e = absurd (cc)

done-so : (done : Bool) (demand : Demand) (c : ℕ) (r : Resident) (d e : Desktop) → DoneAs done demand c (with_peer (counted r.peer) r) d e → AnswersAs done (Ok demand) c r d e
done-so true demand c r d e h = h
done-so false demand c r d e h = h

module _ {A : Type 0} (c : ℕ) (others : ℕ → ById ℕ) (base d : Desktop) (there : Resident) (stacking : Stacking) (applied : Option (Applied A)) (old mid new : Kept A) (was now : Stack)
    (based : IsBased c base d there) (once : AreOnce (numbers old)) (scene : IsScene (with_numbers c (numbers old) others) was d)
    (settled : IsSettled mid.client.ended applied c stacking mid new was now) (pointer : d.pointer ≡ first_pointer) where
  -- a refusal was told
  refused-so : (refusal : Refusal) (r : Resident) → is_some applied ≡ false → (q : Peer) → Errs refusal r.peer q → IsPeer mid.client q
      → Sits c others base new now (become c r q d) (left_by q.status r q)
  refused-so refusal r none q errs peer =
      let over = errs-over refusal r.peer q errs in
      let status : q.status ≡ Some over.0 = ap (λ (x : Peer). x.status) over.2 in
      let h : IsSettled (Some over.0) applied c stacking mid new was now = subst (λ (o : Option Cause). IsSettled o applied c stacking mid new was now) (peer.status ∙ status) settled in
      let same = unapplied applied c stacking was h.0 none h.1 in
      become-gone q.status over.0 c others base d r q new now status
      (sits-gone over.0 c (numbers old) others base d d there r q mid new was now based (itself c d) scene peer (nameless-over mid.client q peer over)
      (record { client = h.2; bare = h.3; subsurfaces = h.4; standing = h.5 ∙ ap (λ (k : Stack). without_client c k.standing) same; next = h.6 ∙ ap (λ (k : Stack). k.next) same }))

  kept-meets : (done : Bool) (demand : Demand) (r : Resident) (p : Peer) → KeepsAs done (Ok demand) c (with_peer p r) d old mid → MeetsAs done c demand (with_peer (counted p) r) d old mid
  kept-meets true demand r p h = h
  kept-meets false demand r p h = h

  -- what is judged is answered
  answered : (done : Bool) (judged : Result Demand Refusal) (r : Resident) (p : Peer) → p.status ≡ None
      → KeepsAs done judged c (with_peer p r) d old mid → StacksSo old r judged stacking → Knows done (is_some applied) (λ id. (judged ≡ Ok (CommitTree id)) × (effect_of_commit r id ≡ Maps))
      → (e : Desktop) × (s : Resident) × AnswersAs done judged c (with_peer p r) d e × Sits c others base new now e s
  answered done (Ok demand) r p lives answers stacks knows =
      let one_more = with_peer (counted p) r in
      let meets = meets-here done c demand one_more d old mid pointer (kept-meets done demand r p answers) in
      let m = met c others base d there one_more demand done meets.0 stacking applied old mid was (record {
        based = based;
        once = once;
        scene = scene;
        lives = (changed-steady c demand d one_more).0 ∙ lives;
        told = meets.1;
        left = meets.2;
        stacks = stacks-so c old r (counted p) d pointer stacking demand stacks;
        knows = record { undone = knows.undone; mapped = λ id h. knows.mapped id (ap (λ (a : Demand). Ok a) h.0, h.1) };
      }) new now settled in
      (m.0, m.1, done-so done demand c (with_peer p r) d m.0 m.2, m.3)
  answered true (Err refusal) r p lives answers stacks knows = absurd answers
  answered false (Err refusal) r p lives answers stacks knows =
      let q = answers.0 in (
        become c (with_peer p r) q d,
        left_by q.status (with_peer p r) q,
        (q, answers.1, refl),
        refused-so refusal (with_peer p r) (knows.undone refl) q answers.1 answers.2.peer,
      )

  taken : (done : Bool) (split : Split) (r : Resident) → r.peer.status ≡ None → TakesKeptAs done split c r d old mid → StacksIn split old r stacking
      → Knows done (is_some applied) (λ id. IsDemanded split r (CommitTree id) × (effect_of_commit r id ≡ Maps))
      → (e : Desktop) × (s : Resident) × TakesAs done split c r d e × Sits c others base new now e s
  taken done (Whole object opcode size) r lives takes stacks knows =
      let body = take (size - 8) (drop 8 r.peer.rest) in
      answered done (judge_all r object opcode body) r (with_rest (drop size r.peer.rest) r.peer) lives takes stacks knows
  taken true Bad r lives takes stacks knows = absurd takes
  taken false Bad r lives takes stacks knows =
      answered false (Err (display_error InvalidMethod)) r r.peer lives takes tt (record { undone = knows.undone; mapped = λ id h. absurd (refused-not (display_error InvalidMethod) id h.0) })
  taken done More r lives takes stacks knows = absurd takes

-- ---- whether it is done

-- what is answered is done, or it isn't
meets-so : {A : Type 0} (b : Bool) (c : ℕ) (demand : Demand) (r : Resident) (d : Desktop) (old mid : Kept A) → wants_memory demand ≡ b → (q : Peer)
    → WantsOr b (Queues (replies c demand r (changed_for c demand r (unpointed d)) (all_windows d) (unpointed d)) (changed_for c demand r (unpointed d)).peer q) r.peer q
    → IsLeft old mid (changed_for c demand r (unpointed d)) q
    → (done : Bool) × MeetsAs done c demand r d old mid
meets-so false c demand r d old mid e q h left = (true, (q, h, left))
meets-so true c demand r d old mid e q (inl h) left = (false, (e, q, h, left))
meets-so true c demand r d old mid e q (inr h) left = (true, (q, h, left))

answers-so : {A : Type 0} (judged : Result Demand Refusal) (c : ℕ) (r : Resident) (d : Desktop) (old mid : Kept A) → KeepsSo judged c r d old mid → (done : Bool) × KeepsAs done judged c r d old mid
answers-so (Ok demand) c r d old mid h = meets-so (wants_memory demand) c demand (with_peer (counted r.peer) r) d old mid refl h.0 h.1 h.2
answers-so (Err refusal) c r d old mid h = (false, h)

takes-so : {A : Type 0} (split : Split) (c : ℕ) (r : Resident) (d : Desktop) (old mid : Kept A) (stacking : Stacking) → TakesSo split c r d old mid stacking
    → (done : Bool) × TakesKeptAs done split c r d old mid
takes-so (Whole object opcode size) c r d old mid stacking h =
    answers-so (judge_all r object opcode (take (size - 8) (drop 8 r.peer.rest))) c (with_peer (with_rest (drop size r.peer.rest) r.peer) r) d old mid h.0
takes-so Bad c r d old mid stacking h = (false, h)
takes-so More c r d old mid stacking h = absurd h

pub stacks-in : {A : Type 0} (split : Split) (c : ℕ) (r : Resident) (d : Desktop) (old mid : Kept A) (stacking : Stacking) → TakesSo split c r d old mid stacking → StacksIn split old r stacking
stacks-in (Whole object opcode size) c r d old mid stacking h = h.1
stacks-in Bad c r d old mid stacking h = tt
stacks-in More c r d old mid stacking h = tt

-- ---- a message is served

-- A message of a client that lives was served, and what it left was settled: the desk agrees with a desktop to which it leads, with what it
-- is answered. Where it may change what several surfaces show, it was done where something was applied.
module _ {A : Type 0} (c : ℕ) (others : ℕ → ById ℕ) (base d : Desktop) (r : Resident) (asked : Asked) (placing : Placing) (stacking : Stacking) (applied : Option (Applied A)) (old mid left : Kept A)
    (was new : Screen A) (is : IsSeated c others base old (pile_of was) d r) (ordered : Ordered d) (lives : old.client.ended ≡ None) (placed : IsPlacingOf placing asked c r d)
    (takes : TakesGiven asked placing c r d old mid stacking) (decides : (touch : Touch) → IsTouchOfAsked asked old touch → TakesGivenAs (is_some applied) asked placing c r d old mid)
    (nothing : ((touch : Touch) → IsTouchOfAsked asked old touch → ⊥) → applied ≡ None)
    (touches : ((touch : Touch) × IsTouchOfAsked asked old touch) ⊎ ((touch : Touch) → IsTouchOfAsked asked old touch → ⊥))
    (never : ((touch : Touch) → IsTouchOfAsked asked old touch → ⊥) → (id : ℕ) → IsDemanded (split_of r.peer.rest) r (CommitTree id) → effect_of_commit r id ≡ Maps → ⊥)
    (settled : IsSettled mid.client.ended applied c stacking mid left was.scene new.scene) where
  alive : r.peer.status ≡ None
  alive = sym is.seat.peer.status ∙ lives

  owns : OwnsOrdered r
  owns = ordered.each c r is.based.there alive

  resident : IsResident old r
  resident = record { lives = lives; peer = is.seat.peer; owns = is.seat.owns; frames = is.seat.frames; subsurfaces = is.seat.subsurfaces }

  answers : TakesSo (split_of r.peer.rest) c r d old mid stacking
  answers = takes resident owns placed

  leads : (b : Bool) → TakesKeptAs b (split_of r.peer.rest) c r d old mid
      → Knows b (is_some applied) (λ id. IsDemanded (split_of r.peer.rest) r (CommitTree id) × (effect_of_commit r id ≡ Maps))
      → (e : Desktop) × (s : Resident) × TakesAs b (split_of r.peer.rest) c r d e × Sits c others base left new.scene e s
  leads b kept knows =
      taken c others base d r stacking applied old mid left was.scene new.scene is.based is.seat.owns.surfaces.once is.scene settled ordered.in_order.pointer b (split_of r.peer.rest) r alive kept
      (stacks-in (split_of r.peer.rest) c r d old mid stacking answers) knows

  pub served : (m : Taken c others base d r left new) × ((touch : Touch) → IsTouchOfAsked asked old touch → m.was_done ≡ is_some applied)
  served = by touches
    where
      by : ((touch : Touch) × IsTouchOfAsked asked old touch) ⊎ ((touch : Touch) → IsTouchOfAsked asked old touch → ⊥)
          → (m : Taken c others base d r left new) × ((touch : Touch) → IsTouchOfAsked asked old touch → m.was_done ≡ is_some applied)
      by (inl t) =
          let m = leads (is_some applied) (decides t.0 t.1 resident owns placed) (record { undone = λ e. e; mapped = λ id h. refl }) in
          (record { after = m.0; resident = m.1; was_done = is_some applied; takes = m.2; sits = m.3 }, λ touch touches. refl)
      by (inr none) =
          let kept = takes-so (split_of r.peer.rest) c r d old mid stacking answers in
          let m = leads kept.0 kept.1 (record {
            undone = λ e. ap (λ (o : Option (Applied A)). is_some o) (nothing none);
            mapped = λ id h. absurd (never none id h.0 h.1);
          }) in
          (record { after = m.0; resident = m.1; was_done = kept.0; takes = m.2; sits = m.3 }, λ touch touches. absurd (none touch touches))
