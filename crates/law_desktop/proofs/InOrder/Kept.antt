-- What a client that lives owns stays in order as it comes, as its peer changes, as frames are shown, and as its messages are accepted.
use Rattle.std.proofs.Common.{◌≡◌, ◌≤◌, ℕ, ◌+◌, List, [], refl, ap, sym, subst, ◌∙◌, arith}
use Rattle.std.specs.Prelude.{Ok}
use Rattle.spec_desktop.specs.Objects.{ById}
use Rattle.spec_desktop.specs.Buffers.{Buffer as Made}
use Rattle.spec_desktop.specs.Peer.{Peer, newcomer}
use Rattle.spec_desktop.specs.Told.{Output}
use Rattle.wl_surface.specs.Frames.{frames_counting}
use Rattle.wl_surface.specs.Surfaces.{Surfaces}
use Rattle.wl_shell.specs.Shell.{Shell}
use Rattle.spec_desktop.specs.Stacking.{Standing}
use Rattle.spec_desktop.specs.Changing.{changed_for, stacked_for}
use Rattle.spec_desktop.specs.Demand.{Demand}
use Rattle.spec_desktop.specs.Demanding.{judge_all}
use Rattle.spec_desktop.specs.Desktop.{Desktop, Resident, Subsurface, arrival, toplevels_of}
use Rattle.spec_desktop.specs.Framing.{done_due}
use Rattle.spec_desktop.specs.Happens.{callbacks_due, is_counting}
use Rattle.spec_desktop.specs.Stacked.{all_windows}
use Rattle.spec_desktop.specs.Step.{with_peer}
use Rattle.law_desktop.proofs.Soundness.Allowed.{allowed}
use Rattle.law_desktop.proofs.Soundness.Forest.{forest-later}
use Rattle.law_desktop.proofs.Soundness.Message.{allowed-counted, forest-kept}
use Rattle.law_desktop.proofs.Soundness.Objects.{objects-callbacks, objects-kept, objects-same}
use Rattle.law_desktop.proofs.Soundness.Orderly.{HasObjects, HasRoles, IsAllowed, IsForest, IsOrderly}
use Rattle.law_desktop.proofs.Soundness.Roles.{roles-kept, roles-same}
use Rattle.law_desktop.proofs.Soundness.RunSteady.{callbacks-steady, changed-steady}
use Rattle.law_desktop.proofs.Soundness.RunTold.{nothing-orderly}
use Rattle.law_desktop.proofs.Soundness.Standing.{standing-kept}
use Rattle.law_desktop.specs.InOrder.{OwnsInOrder, OwnsKnown}
use Rattle.law_desktop.specs.Standing.{AreMappedOnce}
use Rattle.law_desktop.specs.OneBuffer.{OneBuffer}
use Rattle.law_desktop.proofs.EachClient.Clients.{IsPeerOf}
use Rattle.law_desktop.proofs.EachClient.Steps.{counted_of}
use Rattle.law_desktop.proofs.InOrder.Known.{demanded-known, peer-known, without-known}
use Rattle.law_desktop.proofs.InOrder.Numbers.{AreEarly, demanded-early, demanded-numbers, none-numbered}
use Rattle.law_desktop.proofs.InOrder.Subsurfaces.{demanded-subsurfaces}
use Rattle.law_desktop.proofs.InOrder.Whole.{IsWhole, Lives, bare-orderly, of-stands, of-whole, to-stands, to-whole}
use Rattle.law_desktop.proofs.OneBuffer.Keeping.{fewer-one}
use Rattle.law_desktop.proofs.OneBuffer.Messages.{callbacks-buffers, changed-keeps}
use Rattle.law_desktop.proofs.OneBuffer.Named.{judged-from}
use Rattle.law_desktop.proofs.OneBuffer.Running.{arrival-has}
use Rattle.law_desktop.proofs.XdgRoots.Keeping.{messages-hold}
use Rattle.law_desktop.proofs.XdgRoots.Subsurfaces.{AreOwn, own-first, own-keeps}
use Rattle.law_desktop.proofs.XdgRoots.Tied.{HangTogether, tied-first, tied-keeps}
use Rattle.law_desktop.proofs.Truth.{differ}
use Rattle.law_desktop.proofs.Soundness.Run.{no-surface}

-- ---- a client comes

pub arrival-knows : (output : Output) → OwnsKnown (arrival output)
arrival-knows output =
    record {
      apart = tt;
      known = λ id there. absurd (differ there);
      subsurfaces = (tt, λ id there. absurd (differ there));
      children = tt;
      callbacks = (tt, λ id there. absurd (differ there));
    }

arrival-whole : (output : Output) → IsWhole (arrival output)
arrival-whole output =
    let nothing : IsOrderly 1 (arrival output) [] = nothing-orderly 1 (newcomer output) (no-surface output) in
    record {
      objects = nothing.objects;
      forest = nothing.forest;
      hanging = nothing.roles;
      tied = tied-first 1;
      own = own-first 1;
      buffers = arrival-has output;
      known = arrival-knows output;
      subsurfaces = record { roles = λ surface has. absurd (differ has); bare = λ surface has. absurd (differ has) };
      apart = tt;
      early = λ number any. absurd (differ any);
    }

pub arrival-lives : (output : Output) → Lives (arrival output) []
arrival-lives output = (of-whole (arrival output) (arrival-whole output), record { apart = tt; mapped = λ surface there. absurd (differ there) })

-- ---- its peer changes

own-more : (m n : ℕ) (all : Surfaces) (ss : List Subsurface) → m ≤ n → AreOwn (m + 1) all ss → AreOwn (n + 1) all ss
own-more m n all ss more own = record {
  links = own.links;
  early = λ number any. let low = own.early number any in omega (arith, low, more);
  surfaces = own.surfaces;
  there = own.there;
}

early-more : (m n : ℕ) (shell : Shell) → m ≤ n → AreEarly m shell → AreEarly n shell
early-more m n shell more early number any = let low = early number any in omega (arith, low, more)

peer-whole : (r : Resident) (p : Peer) → IsPeerOf r p → IsWhole r → IsWhole (with_peer p r)
peer-whole r p same w = record {
  objects = objects-same r (with_peer p r) same.objects refl refl refl w.objects;
  forest = forest-later (r.peer.requests + 1) (p.requests + 1) r.owned.surfaces (later same.requests) w.forest;
  hanging = roles-same r (with_peer p r) refl refl w.hanging;
  tied = w.tied;
  own = own-more r.peer.requests p.requests r.owned.surfaces r.subsurfaces same.requests w.own;
  buffers =
      fewer-one r.peer.requests p.requests r.peer.buffers p.buffers r.owned.surfaces r.owned.surfaces same.requests
      (λ id made e. sym (ap (λ (buffers : ById Made). buffers id) same.buffers) ∙ e) (λ b h. h) w.buffers;
  known = peer-known r p same.objects w.known;
  subsurfaces = record { roles = w.subsurfaces.roles; bare = w.subsurfaces.bare };
  apart = w.apart;
  early = early-more r.peer.requests p.requests r.owned.shell same.requests w.early;
}
  where
    later : r.peer.requests ≤ p.requests → r.peer.requests + 1 ≤ p.requests + 1
    later more = omega (arith, more)

pub peer-owns : (r : Resident) (p : Peer) → IsPeerOf r p → OwnsInOrder r → OwnsInOrder (with_peer p r)
peer-owns r p same owns = of-whole (with_peer p r) (peer-whole r p same (to-whole r owns))

pub peer-lives : (r : Resident) (p : Peer) (tops : List Standing) → IsPeerOf r p → Lives r tops → Lives (with_peer p r) tops
peer-lives r p tops same lives = (peer-owns r p same lives.0, record { apart = lives.1.apart; mapped = lives.1.mapped })

-- ---- a frame is shown

framed-whole : (r : Resident) → IsWhole r → IsWhole (done_due r)
framed-whole r w = record {
  objects = objects-callbacks (is_counting (frames_counting r.owned.surfaces)) r w.objects;
  forest = subst (λ (n : ℕ). IsForest (n + 1) r.owned.surfaces) (sym counts) w.forest;
  hanging = roles-same r (done_due r) refl refl w.hanging;
  tied = w.tied;
  own = subst (λ (n : ℕ). AreOwn (n + 1) r.owned.surfaces r.subsurfaces) (sym counts) w.own;
  buffers =
      subst (λ (n : ℕ). OneBuffer n (done_due r).peer.buffers r.owned.surfaces) (sym counts)
      (subst (λ (buffers : ById Made). OneBuffer r.peer.requests buffers r.owned.surfaces) (sym (callbacks-buffers (callbacks_due r) r.peer)) w.buffers);
  known = without-known (is_counting (frames_counting r.owned.surfaces)) r w.known;
  subsurfaces = record { roles = w.subsurfaces.roles; bare = w.subsurfaces.bare };
  apart = w.apart;
  early = subst (λ (n : ℕ). AreEarly n r.owned.shell) (sym counts) w.early;
}
  where
    counts : (done_due r).peer.requests ≡ r.peer.requests
    counts = (callbacks-steady (callbacks_due r) r.peer).1

pub framed-lives : (r : Resident) (tops : List Standing) → Lives r tops → Lives (done_due r) tops
framed-lives r tops lives = (of-whole (done_due r) (framed-whole r (to-whole r lives.0)), record { apart = lives.1.apart; mapped = lives.1.mapped })

-- ---- a message is accepted

module _ (c : ℕ) (r : Resident) (rest : List ℕ) (object opcode : ℕ) (body : List ℕ) (demand : Demand) (d : Desktop)
    (judged : judge_all r object opcode body ≡ Ok demand) (owns : OwnsInOrder r) where
  abbrev Now : Resident
  Now = counted_of r rest

  abbrev Changed : Resident
  Changed = changed_for c demand Now d

  w : IsWhole r
  w = to-whole r owns

  allows : IsAllowed Now demand
  allows = allowed-counted r rest demand (allowed r object opcode body demand judged)

  counts : Changed.peer.requests ≡ r.peer.requests + 1
  counts = (changed-steady c demand d Now).1

  objects : HasObjects Now
  objects = objects-same r Now refl refl refl refl w.objects

  hanging : HasRoles Now
  hanging = roles-same r Now refl refl w.hanging

  own : AreOwn (r.peer.requests + 1 + 1) Changed.owned.surfaces Changed.subsurfaces
  own = messages-hold AreOwn own-keeps c r rest object opcode body demand [] d judged (bare-orderly r w) w.own

  pub demand-owns : OwnsInOrder Changed
  demand-owns =
      of-whole Changed
      (record {
        objects = objects-kept c demand Now d allows objects;
        forest = subst (λ (n : ℕ). IsForest (n + 1) Changed.owned.surfaces) (sym counts) (forest-kept c demand Now d allows hanging w.forest);
        hanging = roles-kept c demand Now d allows objects w.forest hanging;
        tied = messages-hold HangTogether tied-keeps c r rest object opcode body demand [] d judged (bare-orderly r w) w.tied;
        own = subst (λ (n : ℕ). AreOwn (n + 1) Changed.owned.surfaces Changed.subsurfaces) (sym counts) own;
        buffers = changed-keeps r.peer.requests Now refl w.buffers c demand d (judged-from r object opcode body demand judged);
        known = demanded-known c demand Now d allows (peer-known r Now.peer refl w.known);
        subsurfaces = demanded-subsurfaces c demand Now d w.objects.surfaces allows (record { roles = w.subsurfaces.roles; bare = w.subsurfaces.bare });
        apart = demanded-numbers c demand Now d w.objects.shell.0 (none-numbered Now.peer.requests r.peer.requests r.owned.shell refl w.early) w.apart;
        early = subst (λ (n : ℕ). AreEarly n Changed.owned.shell) (sym counts) (demanded-early c r.peer.requests demand Now d refl w.early);
      })

  -- with its toplevels that stand
  pub demand-stands : AreMappedOnce r.owned.shell (toplevels_of c d) → AreMappedOnce Changed.owned.shell (toplevels_of c (stacked_for c demand Now (all_windows d) d))
  demand-stands mapped =
      of-stands Changed.owned.shell (toplevels_of c (stacked_for c demand Now (all_windows d) d))
      (standing-kept c demand Now (all_windows d) d allows objects hanging (to-stands r.owned.shell (toplevels_of c d) mapped))
