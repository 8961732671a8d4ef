-- A client at its seat, apart from the others, with the toplevels that stand; and what is left of one that ended.
use Rattle.std.proofs.Common.{◌≡◌, ℕ, true, false, List, [], Option, Some, None, refl, ap, sym, subst, ◌∙◌}
use Rattle.std.proofs.lemmas.Bool.{true≢false}
use Rattle.std.specs.Prelude.{◌%◌, is_some}
use Rattle.wl_client.specs.Agreement.{IsPeer}
use Rattle.wl_client.specs.View.{ClientView}
use Rattle.wl_proto.specs.declared.interface.Interface.TheVariants.{WlSurface}
use Rattle.law_desktop.proofs.Runs.Places.{left_by, number-same, number-twice}
use Rattle.law_desktop.specs.Owning.{targets_in}
use Rattle.spec_desktop.specs.declared.cause.Cause.{Cause}
use Rattle.spec_desktop.specs.Objects.{ById}
use Rattle.spec_desktop.specs.Peer.{Peer}
use Rattle.spec_desktop.specs.Desktop.{Desktop, Resident, become_by, client_in, resident_of, with_number}
use Rattle.wl_requests.specs.declared.residents.Resident.{Resident as Kept}
use Rattle.wl_requests.specs.declared.residents.Stacking.{Stacking}
use Rattle.wl_clients.proofs.OnScreen.Ends.{AreNameless, seat-bare}
use Rattle.wl_clients.proofs.OnScreen.Scenes.{Has, none-stands, numbers-by, stack-by, stack-without}
use Rattle.wl_clients.specs.Agreement.{IsScene, IsSeat, IsStack, with_numbers}
use Rattle.wl_clients.specs.Seats.{IsBare, IsBased, IsRestacked}
use Rattle.wl_clients.specs.View.{owned_view}
use Rattle.spec_desktop.specs.Stacking.{Standing, without_client}
use Rattle.wl_scene.specs.Kept.{Stack}
use Rattle.wl_surface.specs.declared.applied.Applied.{Applied}

-- ---- the client's place in the desktop

pub based-at : (s : Option Cause) (c : ℕ) (base d y : Desktop) (r x : Resident) (q : Peer) → IsBased c base d r → y.clients ≡ d.clients → y.output ≡ d.output
    → IsBased c base (become_by s c x q y) (left_by s x q)
based-at None c base d y r x q b clients output =
    record {
      there = number-same y.clients c _ r (ap (λ (rs : List (Option Resident)). client_in rs c) clients ∙ b.there);
      output = output ∙ b.output;
      clients = ap (λ (rs : List (Option Resident)). with_number c (Some (record x { peer = q })) rs) (clients ∙ b.clients) ∙ number-twice base.clients c _ _;
    }
based-at (Some cause) c base d y r x q b clients output =
    record {
      there = number-same y.clients c _ r (ap (λ (rs : List (Option Resident)). client_in rs c) clients ∙ b.there);
      output = output ∙ b.output;
      clients = ap (λ (rs : List (Option Resident)). with_number c (Some (resident_of q)) rs) (clients ∙ b.clients) ∙ number-twice base.clients c _ _;
    }

-- ---- what is sought

abbrev pub numbers : {A : Type 0} → Kept A → ById ℕ
numbers v = targets_in WlSurface v.client.objects

-- each of its toplevels that stand is that of a surface
abbrev pub Known : {A : Type 0} → ℕ → Kept A → Desktop → Type 0
Known c v e = (surface : ℕ) → Has e.standing c surface → is_some (numbers v surface) ≡ true

-- the client agrees, and so do the toplevels where each of its toplevels is that of a surface
pub record Sits {A : Type 0} (c : ℕ) (others : ℕ → ById ℕ) (base : Desktop) (v : Kept A) (stack : Stack) (e : Desktop) (s : Resident) : Type 0 where
  pub based : IsBased c base e s
  pub seat : IsSeat v.client (owned_view v) s
  pub scene : Known c v e → IsScene (with_numbers c (numbers v) others) stack e

pub sits-same : {A : Type 0} (c : ℕ) (others : ℕ → ById ℕ) (base : Desktop) (u v : Kept A) (was is : Stack) (e : Desktop) (s : Resident) → v ≡ u → is ≡ was → Sits c others base u was e s
    → Sits c others base v is e s
sits-same {A} c others base u v was is e s same stays sits =
    subst (λ (k : Kept A). Sits c others base k is e s) (sym same) (subst (λ (k : Stack). Sits c others base u k e s) (sym stays) sits)

-- ---- the steps of the code

-- What was done may have changed the stack.
abbrev pub IsRestackedIf : {A : Type 0} → Option (Applied A) → ℕ → Stacking → Stack → Stack → Type 0
IsRestackedIf None c stacking was between = between ≡ was
IsRestackedIf (Some applied) c stacking was between = IsRestacked c stacking was between

-- After a message a client that lives has what it asks of the stack done. Of one that ended nothing is left, whether that was done before
-- or not.
abbrev pub IsSettled : {A : Type 0} → Option Cause → Option (Applied A) → ℕ → Stacking → Kept A → Kept A → Stack → Stack → Type 0
IsSettled None applied c stacking mid new was now = (new ≡ mid) × IsRestacked c stacking was now
IsSettled (Some cause) applied c stacking mid new was now =
    (between : Stack) × IsRestackedIf applied c stacking was between × (new.client ≡ mid.client) × IsBare new.owned × (new.subsurfaces ≡ [])
    × (now.standing ≡ without_client c between.standing) × (now.next ≡ between.next)

-- ---- an end

pub some-is : {X : Type 0} (o : Option X) (x : X) → o ≡ Some x → is_some o ≡ true
some-is o x h = ap (λ (a : Option _). is_some a) h

pub none-is : {X : Type 0} (o : Option X) → o ≡ None → is_some o ≡ true → true ≡ false
none-is o h some = sym some ∙ ap (λ (a : Option _). is_some a) h

-- none of an ended client's toplevels stands
pub gone-scene : (s : Cause) (c : ℕ) (old : ById ℕ) (others : ℕ → ById ℕ) (new : ById ℕ) (x : Resident) (q : Peer) (d y : Desktop) (was is : Stack) → IsScene (with_numbers c old others) was d
    → without_client c y.standing ≡ without_client c d.standing → y.mappings ≡ d.mappings → is.standing ≡ without_client c was.standing → is.next ≡ was.next
    → IsScene (with_numbers c new others) is (become_by (Some s) c x q y)
gone-scene s c old others new x q d y was is scene same count standing stays =
    record {
      standing = subst (λ (ks : List Standing). IsStack (with_numbers c new others) ks (without_client c y.standing)) (sym standing)
          (subst (λ (ss : List Standing). IsStack (with_numbers c new others) (without_client c was.standing) ss) (sym same)
          (stack-by (with_numbers c old others) (with_numbers c new others) (without_client c was.standing) (without_client c d.standing)
          (numbers-by c old new others (without_client c d.standing) (λ surface n has is. absurd (true≢false (sym has ∙ none-stands c surface d.standing))))
          (stack-without (with_numbers c old others) c was.standing d.standing scene.standing)));
      next = stays ∙ (scene.next ∙ ap (λ (m : ℕ). m % 8) (sym count));
    }

-- from one desktop to another, as far as an ended client is concerned
pub record IsSameBut (c : ℕ) (d y : Desktop) : Type 0 where
  pub clients : y.clients ≡ d.clients
  pub output : y.output ≡ d.output
  pub standing : without_client c y.standing ≡ without_client c d.standing
  pub mappings : y.mappings ≡ d.mappings

pub itself : (c : ℕ) (d : Desktop) → IsSameBut c d d
itself c d = record { clients = refl; output = refl; standing = refl; mappings = refl }

-- nothing is left of what a client owned, and none of its toplevels stands
pub record IsEmptied {A : Type 0} (c : ℕ) (mid new : Kept A) (was is : Stack) : Type 0 where
  pub client : new.client ≡ mid.client
  pub bare : IsBare new.owned
  pub subsurfaces : new.subsurfaces ≡ []
  pub standing : is.standing ≡ without_client c was.standing
  pub next : is.next ≡ was.next

-- what is left of a client that ended
pub sits-gone : {A : Type 0} (s : Cause) (c : ℕ) (old : ById ℕ) (others : ℕ → ById ℕ) (base d y : Desktop) (r x : Resident) (q : Peer) (mid new : Kept A) (was is : Stack)
    → IsBased c base d r → IsSameBut c d y → IsScene (with_numbers c old others) was d → IsPeer mid.client q → AreNameless mid.client.objects → IsEmptied c mid new was is
    → Sits c others base new is (become_by (Some s) c x q y) (resident_of q)
sits-gone s c old others base d y r x q mid new was is based same scene peer none left =
    let told : IsPeer new.client q = subst (λ (v : ClientView). IsPeer v q) (sym left.client) peer in record {
      based = based-at (Some s) c base d y r x q based same.clients same.output;
      seat = seat-bare new q told (subst (λ (v : ClientView). AreNameless v.objects) (sym left.client) none) left.bare left.subsurfaces;
      scene = λ known. gone-scene s c old others (numbers new) x q d y was is scene same.standing same.mappings left.standing left.next;
    }

-- the same, by its status
pub become-gone : {A : Type 0} (o : Option Cause) (s : Cause) (c : ℕ) (others : ℕ → ById ℕ) (base y : Desktop) (x : Resident) (q : Peer) (new : Kept A) (is : Stack) → o ≡ Some s
    → Sits c others base new is (become_by (Some s) c x q y) (resident_of q) → Sits c others base new is (become_by o c x q y) (left_by o x q)
become-gone o s c others base y x q new is e sits = subst (λ (a : Option Cause). Sits c others base new is (become_by a c x q y) (left_by a x q)) (sym e) sits

pub become-lives : {A : Type 0} (o : Option Cause) (c : ℕ) (others : ℕ → ById ℕ) (base y : Desktop) (x : Resident) (q : Peer) (new : Kept A) (is : Stack) → o ≡ None
    → Sits c others base new is (become_by None c x q y) (record x { peer = q }) → Sits c others base new is (become_by o c x q y) (left_by o x q)
become-lives o c others base y x q new is e sits = subst (λ (a : Option Cause). Sits c others base new is (become_by a c x q y) (left_by a x q)) (sym e) sits
