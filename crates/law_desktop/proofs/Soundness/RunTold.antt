-- What a client is told, and how it ends, leaves it orderly.
use Rattle.std.proofs.Common.{◌≡◌, ℕ, ◌+◌, List, [], ◌∷◌, ◌++◌, Bool, true, false, Option, Some, None, refl, ap, sym, subst, ◌∙◌, inl, inr, arith}
use Rattle.std.proofs.lemmas.Option.{none-some}
use Rattle.std.specs.Prelude.{filter}
use Rattle.wl_proto.specs.declared.interface.Interface.TheVariants.{WlSurface}
use Rattle.spec_desktop.specs.declared.cause.Cause.{Cause}
use Rattle.spec_desktop.specs.Objects.{is_of}
use Rattle.spec_desktop.specs.Peer.{Peer, ended}
use Rattle.spec_desktop.specs.Told.{Said}
use Rattle.wl_surface.specs.Frames.{frames_counting}
use Rattle.wl_surface.specs.Surfaces.{no_surfaces}
use Rattle.wl_surface.specs.Waiting.{Callback}
use Rattle.wl_shell.specs.Popups.{Popped, dismissing}
use Rattle.wl_shell.specs.Shell.{Shell}
use Rattle.spec_desktop.specs.Stacking.{Standing}
use Rattle.spec_desktop.specs.Changing.{drawing, without_callbacks}
use Rattle.spec_desktop.specs.Desktop.{Desktop, Resident, client_at, resident_of, toplevels_of}
use Rattle.spec_desktop.specs.Pointing.{button_told, entered_surface, has_pointers, left_surface, motion_told}
use Rattle.spec_desktop.specs.Replies.{popups_done}
use Rattle.spec_desktop.specs.Settling.{EndsAndSettles, Midstep, QueuesTo, Settles, Strike, becomes, ended_by, leave_drawn, noted, noted_if, number_of, told_drawn, unstruck, without_grabs}
use Rattle.spec_desktop.specs.Step.{with_peer, with_shell}
use Rattle.spec_desktop.specs.Happens.{callbacks_due, ending, frames_told, is_counting, settling}
use Rattle.law_desktop.specs.Others.{IsLeftAlone, IsLeftBy, IsLeftLiving, IsLeftSo, IsToldTimes, told_once}
use Rattle.law_desktop.proofs.Soundness.Orderly.{HasObjects, HasRoles, IsForest, IsOrderly, IsOrderlyAt, IsOrderlyBy, StandsSo}
use Rattle.law_desktop.proofs.Soundness.RunSteady.{callbacks-steady}
use Rattle.law_desktop.proofs.Runs.Places.{number-same}
use Rattle.law_desktop.proofs.Isolation.Kept.{TellsDone, TellsPointer, has-more}
use Rattle.law_desktop.proofs.Isolation.Settling.{AreIn, Stays, ended-in, ending-in, none_of, settled-in, settles-in, settling-in}
use Rattle.law_desktop.proofs.Isolation.Told.{TellsBy, ToldSo}
use Rattle.law_desktop.proofs.Truth.{differ}
use Rattle.law_desktop.proofs.Soundness.First.{no-live}

-- What changes a client between its messages leaves what is known of its objects and roles, and of what stands.
pub record Frames : Type 0 where
  pub objects_same :
      (r q : Resident) → q.peer.objects ≡ r.peer.objects → q.owned ≡ r.owned → q.subsurfaces ≡ r.subsurfaces → q.callbacks ≡ r.callbacks → HasObjects r → HasObjects q
  pub objects_callbacks : (which : Callback → Bool) (r : Resident) → HasObjects r → HasObjects (without_callbacks (filter which r.callbacks) r)
  pub objects_dismissed : (is : Popped → Bool) (r : Resident) → HasObjects r → HasObjects (with_shell (dismissing is r.owned.shell) r)
  pub roles_same : (r q : Resident) → q.owned ≡ r.owned → q.subsurfaces ≡ r.subsurfaces → HasRoles r → HasRoles q
  pub roles_dismissed : (is : Popped → Bool) (r : Resident) → HasRoles r → HasRoles (with_shell (dismissing is r.owned.shell) r)
  pub standing_dismissed : (is : Popped → Bool) (shell : Shell) (tops : List Standing) → StandsSo shell tops → StandsSo (dismissing is shell) tops

-- ---- a client that owns nothing

no-forest : (bound : ℕ) → IsForest bound no_surfaces
no-forest bound =
    record {
      apart = tt;
      early = λ number link e. absurd (none-some link e);
      once = λ k l a b live other e. absurd (no-live k a live);
      ordered = λ surface counting h e. absurd (none-some h e);
      members = λ surface counting number h e there. absurd (none-some h e);
      parents = λ surface counting number h link e there live. absurd (no-live number link live);
      rank = λ surface. 0;
      rises = λ number link live. absurd (no-live number link live);
      low = λ surface. omega arith;
    }

pub nothing-orderly : (bound : ℕ) (p : Peer) → ((id : ℕ) → is_of WlSurface (p.objects id) ≡ false) → IsOrderly bound (resident_of p) []
nothing-orderly bound p none =
    record {
      objects = record {
        surfaces = λ id is. absurd (differ (sym (none id) ∙ is));
        subsurfaces = (tt, λ id is. absurd (differ is));
        shell = (tt, λ id is. absurd (differ is));
        toplevels = (tt, λ id is. absurd (differ is));
        popups = (tt, λ id is. absurd (differ is));
        callbacks = (tt, λ id is. absurd (differ is));
      };
      forest = no-forest bound;
      roles = record {
        children = λ number link live. absurd (no-live number link live);
        bare = λ number link live. absurd (no-live number link live);
        named = λ number link live. absurd (no-live number link live);
        apart = tt;
      };
      standing = record { apart = tt; mapped = λ surface there. absurd (differ there) };
    }

pub ended-orderly : (cause : Cause) (p : Peer) → IsOrderlyAt (Some (resident_of (ended cause p))) []
ended-orderly cause p = (nothing-orderly (p.requests + 1) (ended cause p) (λ id. refl), refl)

-- ---- a client of which what is known is the same

-- whatever stands, it is orderly after where it was before
abbrev pub StaysOrderly : Resident → Resident → Type 0
StaysOrderly r q = (tops : List Standing) → IsOrderlyAt (Some r) tops → IsOrderlyAt (Some q) tops

orderly-so : (r q : Resident) → q.peer.status ≡ r.peer.status → ((tops : List Standing) → IsOrderly (r.peer.requests + 1) r tops → IsOrderly (q.peer.requests + 1) q tops) → StaysOrderly r q
orderly-so r q same keeps tops known = subst (λ (s : Option Cause). IsOrderlyBy s q tops) (sym same) (at r.peer.status known)
  where
    at : (s : Option Cause) → IsOrderlyBy s r tops → IsOrderlyBy s q tops
    at None known = keeps tops known
    at (Some cause) known = (keeps tops known.0, known.1)

-- but for what else its peer has
pub record IsAlike (r q : Resident) : Type 0 where
  pub status : q.peer.status ≡ r.peer.status
  pub requests : q.peer.requests ≡ r.peer.requests
  pub objects : q.peer.objects ≡ r.peer.objects
  pub owned : q.owned ≡ r.owned
  pub subsurfaces : q.subsurfaces ≡ r.subsurfaces
  pub callbacks : q.callbacks ≡ r.callbacks

forest-so : (r q : Resident) → q.peer.requests ≡ r.peer.requests → q.owned.surfaces ≡ r.owned.surfaces → IsForest (r.peer.requests + 1) r.owned.surfaces
    → IsForest (q.peer.requests + 1) q.owned.surfaces
forest-so r q e f forest = rw (e, f) forest

abbrev pub ToldOrderly : Resident → Resident → Option Cause → Type 0
ToldOrderly r q why = StaysOrderly r q

-- nothing need be known of why it is to end
abbrev pub Anyhow : Resident → Cause → Type 0
Anyhow r cause = Unit {0}

-- ---- a desktop, of one client

abbrev pub Known : ℕ → Desktop → Type 0
Known c d = IsOrderlyAt (client_at c d) (toplevels_of c d)

pub known-so : (c : ℕ) (d : Desktop) (o : Option Resident) (tops : List Standing) → client_at c d ≡ o → toplevels_of c d ≡ tops → IsOrderlyAt o tops → Known c d
known-so c d o tops e f known = rw (e, f) known

pub known-same : (c : ℕ) (d e : Desktop) → e ≡ d → Known c d → Known c e
known-same c d e same known =
    known-so c e (client_at c d) (toplevels_of c d) (ap (λ (x : Desktop). client_at c x) same) (ap (λ (x : Desktop). toplevels_of c x) same) known

pub becomes-ended : (c : ℕ) (r there : Resident) (cause : Cause) (p : Peer) (d : Desktop) → client_at c d ≡ Some there → Known c (becomes c r (ended cause p) d)
becomes-ended c r there cause p d found =
    known-so c (becomes c r (ended cause p) d) (Some (resident_of (ended cause p))) [] (number-same d.clients c (Some (resident_of (ended cause p))) there found) (none_of c d.standing)
    (ended-orderly cause p)

module _ (frames : Frames) where
  pub alike : (r q : Resident) → IsAlike r q → StaysOrderly r q
  alike r q same =
      orderly-so r q same.status
      (λ tops known.
      record {
        objects = frames.objects_same r q same.objects same.owned same.subsurfaces same.callbacks known.objects;
        forest = forest-so r q same.requests (ap (λ (o : _). o.surfaces) same.owned) known.forest;
        roles = frames.roles_same r q same.owned same.subsurfaces known.roles;
        standing = rw same.owned known.standing;
      })

  done-orderly : (r : Resident) → StaysOrderly r (without_callbacks (callbacks_due r) r)
  done-orderly r =
      let steady = callbacks-steady (callbacks_due r) r.peer in
      orderly-so r (without_callbacks (callbacks_due r) r) steady.0
      (λ tops known.
      record {
        objects = frames.objects_callbacks (is_counting (frames_counting r.owned.surfaces)) r known.objects;
        forest = forest-so r (without_callbacks (callbacks_due r) r) steady.1 refl known.forest;
        roles = frames.roles_same r (without_callbacks (callbacks_due r) r) refl refl known.roles;
        standing = known.standing;
      })

  dismissed-orderly : (r : Resident) → StaysOrderly r (without_grabs r)
  dismissed-orderly r =
      orderly-so r (without_grabs r) refl
      (λ tops known.
      record {
        objects = frames.objects_dismissed (λ p. p.popup.has_grab) r known.objects;
        forest = known.forest;
        roles = frames.roles_dismissed (λ p. p.popup.has_grab) r known.roles;
        standing = frames.standing_dismissed (λ p. p.popup.has_grab) r.owned.shell tops known.standing;
      })

  -- ---- a client is told

  -- whatever waits to be sent
  unsent-alike : (r : Resident) (q : Peer) (more : List ℕ) → q ≡ record r.peer { unsent = r.peer.unsent ++ more } → IsAlike r (with_peer q r)
  unsent-alike r q more e = record {
    status = ap (λ (p : Peer). p.status) e;
    requests = ap (λ (p : Peer). p.requests) e;
    objects = ap (λ (p : Peer). p.objects) e;
    owned = refl;
    subsurfaces = refl;
    callbacks = refl;
  }

  pub queued-orderly : (events : List Said) (r : Resident) (q : Peer) (why : Option Cause) → QueuesTo events r.peer q why → StaysOrderly r (with_peer q r)
  queued-orderly events r q why h =
      let more = has-more events r.peer q why h in
      alike r (with_peer q r) (unsent-alike r q more.0 more.1)

  told-orderly : (change : Resident → Resident) (events : Resident → List Said) → ((r : Resident) → StaysOrderly r (change r)) → TellsBy ToldOrderly change events
  told-orderly change events keeps r q why h tops known = queued-orderly (events r) (change r) q why h tops (keeps r tops known)

  drawn-orderly : (b : Bool) (r : Resident) → StaysOrderly r (drawing b r)
  drawn-orderly true r = alike r (drawing true r) (record { status = refl; requests = refl; objects = refl; owned = refl; subsurfaces = refl; callbacks = refl })
  drawn-orderly false r = λ tops known. known

  noted-orderly : (b : Bool) (r : Resident) → StaysOrderly r (noted b r)
  noted-orderly true r = alike r (noted true r) (record { status = refl; requests = refl; objects = refl; owned = refl; subsurfaces = refl; callbacks = refl })
  noted-orderly false r = alike r (noted false r) (record { status = refl; requests = refl; objects = refl; owned = refl; subsurfaces = refl; callbacks = refl })

  pressed-orderly : (b pressed : Bool) (r : Resident) → StaysOrderly r (noted_if b pressed r)
  pressed-orderly true pressed r = λ tops known. drawn-orderly (has_pointers (noted pressed r)) (noted pressed r) tops (noted-orderly pressed r tops known)
  pressed-orderly false pressed r = λ tops known. known

  pub orderly-frames : TellsDone ToldOrderly
  orderly-frames time = told-orderly (λ r. without_callbacks (callbacks_due r) r) (frames_told time) done-orderly

  pub orderly-all : TellsPointer ToldOrderly
  orderly-all = record {
    focus = record {
      leave = λ surface. told-orderly (leave_drawn surface) (left_surface surface) (λ r. drawn-orderly _ r);
      enter = λ at w. told-orderly told_drawn (entered_surface at w) (λ r. drawn-orderly _ r);
    };
    motion = λ time at w. told-orderly (λ r. r) (motion_told time at w) (λ r tops known. known);
    dismissed = told-orderly without_grabs (λ r. popups_done r (without_grabs r)) dismissed-orderly;
    pressed = λ time button pressed.
        told-orderly (λ r. noted_if (has_pointers r) pressed r) (button_told time button (number_of pressed)) (λ r. pressed-orderly (has_pointers r) pressed r);
  }

  pub orderly-stays : Stays ToldOrderly IsOrderlyAt Anyhow
  orderly-stays = record {
    told = λ r q tops why alive known so. so tops known;
    untold = λ r q tops cause alive known so. tt;
    ends = λ r tops cause known why. ended-orderly cause r.peer;
    again = λ r cause other why why_too. tt;
  }

  -- ---- those that are to end do, and the focus is settled

  -- nothing need be known of those that are to end
  strikes-known : (c : ℕ) (o : Option Resident) (ss : List Strike) → AreIn c ToldOrderly orderly-all.focus IsOrderlyAt Anyhow orderly-stays o ss
  strikes-known c o [] = tt
  strikes-known c None (s ∷ ss) = (λ same. tt, strikes-known c None ss)
  strikes-known c (Some r) (s ∷ ss) = (λ same. tt, strikes-known c (Some r) ss)

  -- one that is to end did
  pub ended-by-known : (c : ℕ) (s : Strike) (d : Desktop) → Known c d → Known c (ended_by s d)
  ended-by-known c s d known =
      let those = strikes-known c (client_at c d) (s ∷ []) in
      (ended-in c ToldOrderly orderly-all.focus IsOrderlyAt Anyhow orderly-stays s.client s.cause [] d known those.0 tt).0

  -- the focus is settled once
  pub settles-known : (c : ℕ) (old new : Midstep) → Known c old.desktop → Settles old new → Known c new.desktop
  settles-known c old new known h =
      let those = strikes-known c (client_at c old.desktop) old.struck in
      (settles-in c ToldOrderly orderly-all.focus IsOrderlyAt Anyhow orderly-stays old new (known, those) h).0

  -- what comes after a step's own change leaves it orderly
  pub settling-known : (c : ℕ) (new : Desktop) (mid : Midstep) → Known c mid.desktop → settling new mid → Known c new
  settling-known c new mid known h =
      let those = strikes-known c (client_at c mid.desktop) mid.struck in
      settling-in c ToldOrderly orderly-all.focus IsOrderlyAt Anyhow orderly-stays mid new (known, those) h

  -- where the focus was settled already, too
  pub ending-known : (c : ℕ) (new : Desktop) (mid : Midstep) → Known c mid.desktop → ending new mid → Known c new
  ending-known c new mid known h =
      let those = strikes-known c (client_at c mid.desktop) mid.struck in
      ending-in c ToldOrderly orderly-all.focus IsOrderlyAt Anyhow orderly-stays mid new (known, those) h

  pub settled : (c : ℕ) (d new : Desktop) → Known c d → EndsAndSettles (unstruck d) new → Known c new
  settled c d new known h = settled-in c ToldOrderly orderly-all.focus IsOrderlyAt Anyhow orderly-stays d new known h

  once : (events : List Said) (r : Resident) → StaysOrderly r (told_once events r)
  once events r = alike r (told_once events r) (record { status = refl; requests = refl; objects = refl; owned = refl; subsurfaces = refl; callbacks = refl })

  -- so does what it is told of the focus
  times-orderly : (times : List (List Said)) (r q : Resident) → IsToldTimes times r q → StaysOrderly r q
  times-orderly [] r q h tops known = rw h known
  times-orderly (events ∷ more) r q h tops known = times-orderly more (told_once events r) q h.2 tops (once events r tops known)

  -- what is told of the focus alone keeps it orderly
  pub focus-stays : Stays ToldSo IsOrderlyAt Anyhow
  focus-stays = record {
    told = λ r q tops why alive known so. times-orderly so.0.0 r q so.0.1 tops known;
    untold = λ r q tops cause alive known so. tt;
    ends = λ r tops cause known why. ended-orderly cause r.peer;
    again = λ r cause other why why_too. tt;
  }

  -- another step leaves it alone
  pub left-orderly : (c : ℕ) (old new : Desktop) → IsLeftAlone c old new → Known c old → Known c new
  left-orderly c old new h known = at (client_at c old) h known
    where
      living : (r : Resident) (now : Option Resident) → IsLeftLiving r (toplevels_of c old) now (toplevels_of c new) → IsOrderlyAt (Some r) (toplevels_of c old) → IsOrderlyAt now (toplevels_of c new)
      living r None h known = absurd h
      living r (Some q) (inl h) known = rw h.1 (times-orderly h.0.0 r q h.0.1 (toplevels_of c old) known)
      living r (Some q) (inr h) known = rw (h.1, h.0.4) (ended-orderly h.0.1 h.0.0.peer)

      by : (r : Resident) (s : Option Cause) → IsLeftBy s r (toplevels_of c old) (client_at c new) (toplevels_of c new) → IsOrderlyAt (Some r) (toplevels_of c old)
          → IsOrderlyAt (client_at c new) (toplevels_of c new)
      by r (Some cause) h known = known-so c new (Some r) (toplevels_of c old) h.0 h.1 known
      by r None h known = living r (client_at c new) h known

      at : (o : Option Resident) → IsLeftSo o (toplevels_of c old) (client_at c new) (toplevels_of c new) → IsOrderlyAt o (toplevels_of c old) → IsOrderlyAt (client_at c new) (toplevels_of c new)
      at None h known = known-so c new None (toplevels_of c old) h.0 h.1 known
      at (Some r) h known = by r r.peer.status h known
