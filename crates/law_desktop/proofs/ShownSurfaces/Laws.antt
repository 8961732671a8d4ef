-- Which toplevels stand and which surfaces show a buffer is kept by each step, and by each message by itself.
use Rattle.std.proofs.Common.{◌≡◌, ◌≤◌, ℕ, ◌+◌, List, [], Option, Some, None, refl, ap, sym, subst, ◌∙◌, arith}
use Rattle.std.proofs.lemmas.Bool.{true≢false}
use Rattle.std.proofs.lemmas.Option.{none-some}
use Rattle.std.specs.Prelude.{Ok, ◌==◌}
use Rattle.std.specs.List.{list_any}
use Rattle.spec_desktop.specs.declared.cause.Cause.{Cause}
use Rattle.spec_desktop.specs.Peer.{Peer, counted, with_rest}
use Rattle.wl_surface.specs.Surfaces.{Link, history_in, link_at}
use Rattle.wl_shell.specs.Shell.{xdg_of}
use Rattle.spec_desktop.specs.Stacking.{Owned, Standing, is_of, nothing_owned, shows_buffer}
use Rattle.spec_desktop.specs.Changing.{changed_for, stacked_for}
use Rattle.spec_desktop.specs.Demand.{Demand}
use Rattle.spec_desktop.specs.Demanding.{judge_all}
use Rattle.spec_desktop.specs.Desktop.{Desktop, Resident, arrival, client_at, owned_of, resident_of, toplevels_of}
use Rattle.spec_desktop.specs.Stacked.{all_windows}
use Rattle.spec_desktop.specs.Step.{with_peer}
use Rattle.law_desktop.specs.Laws.{AreApart}
use Rattle.law_desktop.proofs.Soundness.Allowed.{allowed}
use Rattle.law_desktop.proofs.Soundness.Message.{allowed-counted}
use Rattle.law_desktop.proofs.Soundness.Sound.{all-apart}
use Rattle.law_desktop.specs.InOrder.{InOrder, InOrderAt, InOrderBy, OwnsInOrder}
use Rattle.law_desktop.specs.Shown.{AreShown, ShownStand}
use Rattle.law_desktop.specs.ShownLaws.{EmptyIsShown, EndsKeepShown, FramesKeepShown, MessagesKeepShown, PiecesKeepShown, ShownStays}
use Rattle.law_desktop.specs.Standing.{AreTurned}
use Rattle.law_desktop.proofs.EachClient.Clients.{AllAre, At, IsKept, IsPeerOf, empty-all, settled-all}
use Rattle.law_desktop.proofs.EachClient.Steps.{DemandsKeep, counted_of, frame-keeps, happens-keeps, piece-keeps, serves-keeps}
use Rattle.law_desktop.proofs.InOrder.Kept.{arrival-lives, demand-owns, demand-stands, framed-lives, peer-lives}
use Rattle.law_desktop.proofs.InOrder.Laws.{NoneStands}
use Rattle.law_desktop.proofs.ShownSurfaces.Found.{told-apart}
use Rattle.law_desktop.proofs.ShownSurfaces.Turned.{demand-turned}
use Rattle.law_desktop.proofs.ShownSurfaces.Well.{well, well-counted}
use Rattle.law_desktop.proofs.ShownSurfaces.Demands.{IsRooted, demand-fits}
use Rattle.law_desktop.proofs.ShownSurfaces.Fitting.{AllFit, Fits, fit-of, known, shown-of}
use Rattle.law_desktop.proofs.Lists.Left.{any-filtered}

-- ---- the toplevels of one client

-- each surface stands among these as it should
abbrev TopsFit : Owned → List Standing → Type 0
TopsFit o tops = (surface : ℕ) → Fits (list_any (λ s. s.surface == surface) tops) (known (xdg_of surface o.shell)) (shows_buffer (history_in surface o.surfaces))

tops-any : (c surface : ℕ) (standing : List Standing) (d : Desktop) → d.standing ≡ standing → list_any (λ s. s.surface == surface) (toplevels_of c d) ≡ list_any (is_of c surface) standing
tops-any c surface standing d same = any-filtered (λ s. s.surface == surface) (λ s. s.client == c) d.standing ∙ ap (λ (ss : List Standing). list_any (is_of c surface) ss) same

to-tops : (c : ℕ) (o : Owned) (d : Desktop) → AllFit c o d.standing → TopsFit o (toplevels_of c d)
to-tops c o d fit surface = let f = fit surface in (tops-any c surface d.standing d refl ∙ f.0, f.1, f.2)

of-tops : (c : ℕ) (o : Owned) (d : Desktop) → TopsFit o (toplevels_of c d) → AllFit c o d.standing
of-tops c o d fit surface = let f = fit surface in (sym (tops-any c surface d.standing d refl) ∙ f.0, f.1, f.2)

-- ---- a client that lives

past : (n k : ℕ) → n ≡ k + 1 → n ≤ k → ⊥
past n k e le = absurd (omega (arith, e, le))

-- the number of a request that is counted is no link's yet
none-fresh : (r : Resident) (rest : List ℕ) → OwnsInOrder r → link_at (counted (with_rest rest r.peer)).requests r.owned.surfaces ≡ None
none-fresh r rest owns = at (link_at next r.owned.surfaces) refl
  where
    next : ℕ
    next = (counted (with_rest rest r.peer)).requests

    at : (o : Option Link) → link_at next r.owned.surfaces ≡ o → o ≡ None
    at None here = refl
    at (Some link) here = absurd (past next r.peer.requests refl (owns.early next link here))

is-rooted : (r : Resident) (rest : List ℕ) → OwnsInOrder r → IsRooted (counted_of r rest)
is-rooted r rest owns = record {
  once = owns.once;
  numbered = owns.numbered;
  tied = owns.tied;
  roots = owns.roots;
  fresh = none-fresh r rest owns;
  apart = told-apart r.owned.shell owns.xdg_surfaces.0 owns.xdg_apart;
  toplevels = owns.toplevels;
}

-- What is demanded of a client leaves its toplevels standing as they should.
pub demand-shown : (c : ℕ) (r : Resident) (rest : List ℕ) (object opcode : ℕ) (body : List ℕ) (demand : Demand) (d : Desktop)
    → judge_all r object opcode body ≡ Ok demand → OwnsInOrder r → AllFit c r.owned d.standing → AreTurned r.owned.surfaces
    → AllFit c (changed_for c demand (counted_of r rest) d).owned (stacked_for c demand (counted_of r rest) (all_windows d) d).standing
    × AreTurned (changed_for c demand (counted_of r rest) d).owned.surfaces
demand-shown c r rest object opcode body demand d judged owns fit turned =
    let fits = well-counted r rest demand (well r object opcode body demand judged) in (
      demand-fits c (counted_of r rest) d (is-rooted r rest owns) fit demand (all_windows d)
          (allowed-counted r rest demand (allowed r object opcode body demand judged)) fits,
      demand-turned c demand (counted_of r rest) d turned fits,
    )

-- ---- all clients

abbrev ShownBy : Option Cause → Resident → List Standing → Type 0
ShownBy None r tops = InOrderBy None r tops × TopsFit r.owned tops × AreTurned r.owned.surfaces
ShownBy (Some cause) r tops = (r ≡ resident_of r.peer) × (tops ≡ [])

-- one that owns nothing
nothing-fits : (tops : List Standing) → tops ≡ [] → TopsFit nothing_owned tops
nothing-fits tops none surface =
    (ap (λ (ts : List Standing). list_any (λ s. s.surface == surface) ts) none, λ mapped. absurd (true≢false (sym mapped)), λ waiting. absurd (true≢false (sym waiting)))

nothing-turned : AreTurned nothing_owned.surfaces
nothing-turned surface h there = absurd (none-some h there)

keeps-shown : (s : Option Cause) (r : Resident) (p : Peer) (tops : List Standing) → IsPeerOf r p → ShownBy s r tops → ShownBy s (with_peer p r) tops
keeps-shown None r p tops same lives = (peer-lives r p tops same lives.0, lives.1, lives.2)
keeps-shown (Some cause) r p tops same over = (ap (λ (q : Resident). with_peer p q) over.0, over.1)

shown-kept : IsKept NoneStands ShownBy
shown-kept = record {
  nobody = refl;
  arrives = λ output tops none. (subst (InOrderBy None (arrival output)) (sym none) (arrival-lives output), nothing-fits tops none, nothing-turned);
  ends = λ cause q. (refl, refl);
  goes = λ cause r tops over. over.1;
  keeps = keeps-shown;
  framed = λ r tops lives. (framed-lives r tops lives.0, lives.1, lives.2);
}

demands-shown : DemandsKeep ShownBy
demands-shown c r rest object opcode body demand d judged still lives =
    let now = demand-shown c r rest object opcode body demand d judged lives.0.0 (of-tops c r.owned d lives.1) lives.2 in (
      (
        demand-owns c r rest object opcode body demand d judged lives.0.0,
        demand-stands c r rest object opcode body demand d judged lives.0.0 lives.0.1,
      ),
      to-tops c (changed_for c demand (counted_of r rest) d).owned (stacked_for c demand (counted_of r rest) (all_windows d) d) now.0,
      now.1,
    )

-- ---- as it is said of a desktop

to-by : (s : Option Cause) (c : ℕ) (r : Resident) (d : Desktop) → InOrderBy s r (toplevels_of c d) → AreShown c r.owned d.standing → ShownBy s r (toplevels_of c d)
to-by None c r d lives shown = (lives, to-tops c r.owned d (fit-of c r.owned d.standing shown), shown.turned)
to-by (Some cause) c r d over shown = over

to-all : (d : Desktop) → InOrder d → ShownStand d → AllAre NoneStands ShownBy d
to-all d order stand = record { pointer = order.pointer; each = λ c. at c (client_at c d) (order.each c) (stand.each c) }
  where
    at : (c : ℕ) (o : Option Resident) → InOrderAt o (toplevels_of c d) → AreShown c (owned_of o) d.standing → At NoneStands ShownBy o (toplevels_of c d)
    at c None none shown = none
    at c (Some r) owns shown = to-by r.peer.status c r d owns shown

-- one that owns nothing, of which nothing stands
nothing-shown : (c : ℕ) (d : Desktop) → toplevels_of c d ≡ [] → AreShown c nothing_owned d.standing
nothing-shown c d none = shown-of c nothing_owned d.standing (of-tops c nothing_owned d (nothing-fits (toplevels_of c d) none)) nothing-turned

by-shown : (s : Option Cause) (c : ℕ) (r : Resident) (d : Desktop) → ShownBy s r (toplevels_of c d) → AreShown c r.owned d.standing
by-shown None c r d lives = shown-of c r.owned d.standing (of-tops c r.owned d lives.1) lives.2
by-shown (Some cause) c r d over = subst (λ (q : Resident). AreShown c q.owned d.standing) (sym over.0) (nothing-shown c d over.1)

by-apart : (s : Option Cause) (r : Resident) (tops : List Standing) → ShownBy s r tops → AreApart tops
by-apart None r tops lives = lives.0.1.apart
by-apart (Some cause) r tops over = subst AreApart (sym over.1) tt

of-all : (d : Desktop) → AllAre NoneStands ShownBy d → ShownStand d
of-all d all = record {
  apart = all-apart d.standing (λ c. apart (client_at c d) (toplevels_of c d) (all.each c));
  each = λ c. shown c (client_at c d) (all.each c);
}
  where
    apart : (o : Option Resident) (tops : List Standing) → At NoneStands ShownBy o tops → AreApart tops
    apart None tops none = subst AreApart (sym none) tt
    apart (Some r) tops owns = by-apart r.peer.status r tops owns

    shown : (c : ℕ) (o : Option Resident) → At NoneStands ShownBy o (toplevels_of c d) → AreShown c (owned_of o) d.standing
    shown c None none = nothing-shown c d none
    shown c (Some r) owns = by-shown r.peer.status c r d owns

-- ---- the laws

pub empty_is_shown : EmptyIsShown
empty_is_shown output = of-all _ (empty-all NoneStands ShownBy shown-kept output)

pub shown_stays : ShownStays
shown_stays act done d e leaves order stand h =
    of-all e (happens-keeps NoneStands ShownBy shown-kept demands-shown act done d e leaves (to-all d order stand) h)

pub messages_keep_shown : MessagesKeepShown
messages_keep_shown c d e order stand h = of-all e (serves-keeps NoneStands ShownBy shown-kept demands-shown c d e (to-all d order stand) h)

pub pieces_keep_shown : PiecesKeepShown
pieces_keep_shown c r bytes d order stand is = of-all _ (piece-keeps NoneStands ShownBy shown-kept c r bytes d (to-all d order stand) is)

pub ends_keep_shown : EndsKeepShown
ends_keep_shown c r cause d e order stand is h = of-all e (settled-all NoneStands ShownBy shown-kept c cause r d e is (to-all d order stand) h)

pub frames_keep_shown : FramesKeepShown
frames_keep_shown time c d e order stand h = of-all e (frame-keeps NoneStands ShownBy shown-kept time c d e (to-all d order stand) h)
