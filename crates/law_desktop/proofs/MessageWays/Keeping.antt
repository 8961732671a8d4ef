-- What a message demands leaves a desktop in order, on which just the mapped toplevels stand, whatever its client is told of it then.
use Rattle.std.proofs.Common.{◌≡◌, ◌≢◌, ℕ, List, Bool, true, false, Option, Some, None, refl, ap, sym, subst, ◌∙◌}
use Rattle.std.specs.Prelude.{Ok, ◌==◌}
use Rattle.std.specs.List.{list_any}
use Rattle.std.proofs.lemmas.Bool.{eqb-false, eqb-true}
use Rattle.spec_desktop.specs.declared.cause.Cause.{Cause}
use Rattle.spec_desktop.specs.Peer.{Peer}
use Rattle.spec_desktop.specs.Stacking.{Owned, Standing, is_of}
use Rattle.spec_desktop.specs.Changing.{changed_for, stacked_for}
use Rattle.spec_desktop.specs.Demand.{Demand}
use Rattle.spec_desktop.specs.Demanding.{judge_all}
use Rattle.spec_desktop.specs.Desktop.{Desktop, Resident, arrival, become, become_by, client_at, client_in, owned_in, owned_of, toplevels_of}
use Rattle.spec_desktop.specs.Stacked.{all_windows}
use Rattle.law_desktop.specs.Laws.{AreApart}
use Rattle.law_desktop.proofs.Runs.Places.{client-become, other-become}
use Rattle.law_desktop.proofs.Soundness.Sound.{all-apart}
use Rattle.law_desktop.specs.InOrder.{InOrder, InOrderAt, InOrderBy, OwnsInOrder}
use Rattle.law_desktop.specs.Shown.{AreShown, ShownStand}
use Rattle.law_desktop.proofs.EachClient.Clients.{AllAre, IsKept, IsPeerOf}
use Rattle.law_desktop.proofs.EachClient.Steps.{counted_of, made-keeps, stacked-others}
use Rattle.law_desktop.proofs.InOrder.Kept.{arrival-lives, framed-lives}
use Rattle.law_desktop.proofs.InOrder.Laws.{NoneStands, clients_are_in_order, demands-in-order, keeps-order}
use Rattle.law_desktop.proofs.ShownSurfaces.Fitting.{fit-of, shown-of}
use Rattle.law_desktop.proofs.ShownSurfaces.Laws.{demand-shown}
use Rattle.law_desktop.proofs.MessageWays.Ends.{stacked-leaves}
use Rattle.law_desktop.proofs.Lists.Left.{any-filtered}

-- ---- what each client owns is in order

in-order-kept : IsKept NoneStands InOrderBy
in-order-kept = record {
  nobody = refl;
  arrives = λ output tops none. subst (InOrderBy None (arrival output)) (sym none) (arrival-lives output);
  ends = λ cause q. (refl, refl);
  goes = λ cause r tops over. over.1;
  keeps = keeps-order;
  framed = framed-lives;
}

to-all : (d : Desktop) → InOrder d → AllAre NoneStands InOrderBy d
to-all d order = record { pointer = order.pointer; each = order.each }

of-all : (d : Desktop) → AllAre NoneStands InOrderBy d → InOrder d
of-all d all = record { pointer = all.pointer; each = all.each }

-- ---- no toplevel stands twice

by-apart : (s : Option Cause) (r : Resident) (tops : List Standing) → InOrderBy s r tops → AreApart tops
by-apart None r tops lives = lives.1.apart
by-apart (Some cause) r tops over = subst AreApart (sym over.1) tt

at-apart : (o : Option Resident) (tops : List Standing) → InOrderAt o tops → AreApart tops
at-apart None tops none = subst AreApart (sym none) tt
at-apart (Some r) tops owns = by-apart r.peer.status r tops owns

order-apart : (d : Desktop) → InOrder d → AreApart d.standing
order-apart d order = all-apart d.standing (λ c. at-apart (client_at c d) (toplevels_of c d) (order.each c))

-- ---- what is demanded is done

module _ (c : ℕ) (r : Resident) (d : Desktop) (is : client_at c d ≡ Some r) (alive : r.peer.status ≡ None) (order : InOrder d)
    (rest : List ℕ) (object opcode : ℕ) (body : List ℕ) (demand : Demand) (judged : judge_all r object opcode body ≡ Ok demand) where
  abbrev Now : Resident
  Now = counted_of r rest

  abbrev Made : Resident
  Made = changed_for c demand (counted_of r rest) d

  abbrev On : Desktop
  On = stacked_for c demand (counted_of r rest) (all_windows d) d

  clients : On.clients ≡ d.clients
  clients = (stacked-leaves c demand Now (all_windows d) d).clients

  -- whatever is told to it
  pub made-in-order : (q : Peer) → (q.status ≡ None → IsPeerOf (changed_for c demand (counted_of r rest) d) q)
      → InOrder (become c (changed_for c demand (counted_of r rest) d) q (stacked_for c demand (counted_of r rest) (all_windows d) d))
  made-in-order q same =
      of-all _ (made-keeps NoneStands InOrderBy in-order-kept demands-in-order c r d d is alive (to-all d order) rest object opcode body demand judged q same)

  module _ (stand : ShownStand d) where
    here : AreShown c Made.owned On.standing
    here =
        let was : AreShown c r.owned d.standing = subst (λ o. AreShown c o d.standing) (ap owned_of is) (stand.each c) in
        let owns : OwnsInOrder r = clients_are_in_order d c r order is alive in
        let fits = demand-shown c r rest object opcode body demand d judged owns (fit-of c r.owned d.standing was) was.turned in
        shown-of c Made.owned On.standing fits.0 fits.1

    -- the toplevels of the others stand as before
    stands-as : (other surface : ℕ) → c ≢ other → list_any (is_of other surface) On.standing ≡ list_any (is_of other surface) d.standing
    stands-as other surface differ =
        sym (any-filtered (λ s. s.surface == surface) (λ s. s.client == other) On.standing)
        ∙ ap (λ (tops : List Standing). list_any (λ s. s.surface == surface) tops) (stacked-others c other demand Now (all_windows d) d differ)
        ∙ any-filtered (λ s. s.surface == surface) (λ s. s.client == other) d.standing

    others : (other : ℕ) → c ≢ other → AreShown other (owned_in d other) On.standing
    others other differ =
        let was = stand.each other in
        record { stands = λ surface. stands-as other surface differ ∙ was.stands surface; shows = was.shows; bare = was.bare; turned = was.turned }

    found : client_at c On ≡ Some r
    found = ap (λ (rs : List (Option Resident)). client_in rs c) clients ∙ is

    -- of a client that lives on
    pub made-shown : (q : Peer) → q.status ≡ None → (q.status ≡ None → IsPeerOf (changed_for c demand (counted_of r rest) d) q)
        → ShownStand (become c (changed_for c demand (counted_of r rest) d) q (stacked_for c demand (counted_of r rest) (all_windows d) d))
    made-shown q lives same = record { apart = order-apart new (made-in-order q same); each = each }
      where
        new : Desktop
        new = become c Made q On

        same-stand : new.standing ≡ On.standing
        same-stand = ap (λ s. (become_by s c Made q On).standing) lives

        own-as : owned_in new c ≡ Made.owned
        own-as = ap (λ s. owned_of (client_at c (become_by s c Made q On))) lives ∙ ap owned_of (client-become None c Made q On r found)

        other-as : (other : ℕ) → c ≢ other → owned_in new other ≡ owned_in d other
        other-as other differ =
            ap owned_of (other-become c other Made q On differ ∙ ap (λ (rs : List (Option Resident)). client_in rs other) clients)

        at : (other : ℕ) (b : Bool) → (c == other) ≡ b → AreShown other (owned_in new other) On.standing
        at other true e = subst (λ n. AreShown n (owned_in new n) On.standing) (eqb-true c other e) (subst (λ (o : Owned). AreShown c o On.standing) (sym own-as) here)
        at other false e =
            let differ = eqb-false c other e in
            subst (λ (o : Owned). AreShown other o On.standing) (sym (other-as other differ)) (others other differ)

        each : (other : ℕ) → AreShown other (owned_in new other) new.standing
        each other = subst (λ (ss : List Standing). AreShown other (owned_in new other) ss) (sym same-stand) (at other (c == other) refl)
