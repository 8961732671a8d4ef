-- wl_seat.get_pointer of the client that has the focus, with the pointer put aside, and then put back.
use Rattle.std.proofs.Common.{◌≡◌, ℕ, List, [], ◌∷◌, ◌++◌, filter, map, drop, take, Bool, true, false, Option, Some, None, Result, refl, ap, ap₂, subst, sym, ◌∙◌, inl, inr, eq-eqb}
use Rattle.std.proofs.lemmas.Bool.{or_right}
use Rattle.std.proofs.lemmas.Option.{none-some, same_Some}
use Rattle.std.specs.Prelude.{◌-◌, ◌==◌, ◌||◌, is_some, not, fold, ◌⊎◌, Ok, Err}
use Rattle.wl_wire.specs.Wire.{split_of}
use Rattle.wl_wire.specs.declared.header.Split.{Split}
use Rattle.wl_wire.specs.declared.header.Split.TheVariants.{Message as Whole}
use Rattle.wl_proto.specs.declared.interface.Interface.TheVariants.{WlPointer, XdgPopup}
use Rattle.wl_proto.specs.Messages.{says}
use Rattle.spec_desktop.specs.declared.cause.Cause.{Cause}
use Rattle.spec_desktop.specs.declared.cause.Cause.TheVariants.{Memory}
use Rattle.spec_desktop.specs.declared.refusals.Refusal.{Refusal}
use Rattle.spec_desktop.specs.Peer.{LacksMemory, Peer, counted, with_rest}
use Rattle.spec_desktop.specs.Told.{Said, said}
use Rattle.wl_shell.specs.Popups.{is_among}
use Rattle.spec_desktop.specs.Windows.{Window}
use Rattle.spec_desktop.specs.Changing.{drawing, changed_for, has_focus, in_rising_order}
use Rattle.spec_desktop.specs.Demand.{Demand, GetPointer}
use Rattle.spec_desktop.specs.Demanding.{judge_all}
use Rattle.spec_desktop.specs.Desktop.{Desktop, Resident, become_by, client_at, resident_of, status_of, unpointed, with_client}
use Rattle.spec_desktop.specs.Happens.{AnswersThen, BecomesThen, DoesThen, ServesThen, TakesThen, changed_so, done_for}
use Rattle.spec_desktop.specs.Replies.{dismissed_in, entered_at, focus_window, new_pointer_told, newest_first, popups_done, releases, replies}
use Rattle.spec_desktop.specs.Settling.{Midstep, QueuesTo, Strike, TellsAt, TellsResident, TellsUnless, after_status, becomes, is_struck, struck_by, unstruck}
use Rattle.spec_desktop.specs.Stacked.{all_windows}
use Rattle.spec_desktop.specs.Step.{making, with_peer}
use Rattle.spec_desktop.specs.Through.{settling_through}
use Rattle.law_desktop.proofs.Runs.Places.{client-twice, number-same}
use Rattle.law_desktop.proofs.Runs.Settled.{put-shows, same-windows}
use Rattle.law_desktop.proofs.Runs.Through.{messages_lead_through, settling-with}
use Rattle.law_desktop.proofs.KeptRecords.Toplevels.Releases.{still-released}
use Rattle.law_desktop.specs.Pointed.Entering.{NewPointerApart, NewPointerApartThrough, TellsNew, new_entered}
use Rattle.law_desktop.specs.Pointed.Pointed.{MovedStands, asked, asked_by, asked_first, asked_of, pointer_asked, put_back}
use Rattle.law_desktop.proofs.PointerAside.Messages.{becomes-put, becomes-still, put-is}
use Rattle.law_desktop.proofs.PointerAside.Pointers.{settled-nowhere}
use Rattle.law_desktop.proofs.Lists.Each.{Each, each-map}
use Rattle.law_desktop.proofs.Runs.Serves.{lacking}

-- ---- nothing else is told of it

none-kept : {X : Type 0} (p : X → Bool) (xs : List X) → Each (λ x. p x ≡ false) xs → filter p xs ≡ []
none-kept p [] each = refl
none-kept p (x ∷ xs) each = rw each.0 (none-kept p xs each.1)

-- each of these is among them
abbrev AreAmong : List ℕ → List ℕ → Type 0
AreAmong ids xs = Each (λ id. is_among id ids ≡ true) xs

all-among : (ids : List ℕ) → AreAmong ids ids
all-among [] = tt
all-among (id ∷ ids) = (
  ap (λ (b : Bool). b || is_among id ids) (eq-eqb id id refl),
  each-map (λ x. is_among x ids ≡ true) (λ x. is_among x (id ∷ ids) ≡ true) (λ x h. or_right (id == x) (is_among x ids) h) ids (all-among ids),
)

turned-among : (ids xs ys : List ℕ) → AreAmong ids ys → AreAmong ids xs → AreAmong ids (fold (λ later id. id ∷ later) ys xs)
turned-among ids [] ys there each = there
turned-among ids (x ∷ xs) ys there each = turned-among ids xs (x ∷ ys) (each.0, there) each.1

-- where its shell stays, no popup of a client is dismissed
none-done : (r : Resident) → popups_done r r ≡ []
none-done r =
    let ids : List ℕ = dismissed_in r.owned.shell in
    ap (map (λ id. said id (says XdgPopup 1 [])))
    (none-kept (λ id. not (is_among id ids)) (newest_first ids)
    (each-map (λ id. is_among id ids ≡ true) (λ id. not (is_among id ids) ≡ false) (λ id h. ap (λ (b : Bool). not b) h) (newest_first ids) (turned-among ids ids [] tt (all-among ids))))

more-none : (told : List Said) → told ++ [] ≡ told
more-none [] = refl
more-none (x ∷ xs) = ap (λ (told : List Said). x ∷ told) (more-none xs)

-- a client is told this and nothing else where it owns what it did
pub told-alone : (told : List Said) (old new : Resident) → new.owned ≡ old.owned → told ++ releases old new ++ popups_done old new ≡ told
told-alone told old new same =
    ap₂ (λ (xs ys : List Said). told ++ xs ++ ys) (still-released old new (ap (λ o. o.surfaces) same)) (ap (λ o. popups_done old (record old { owned = o })) same ∙ none-done old)
    ∙ (more-none (told ++ []) ∙ more-none told)

-- the middle of a step, by its parts
abbrev midstep : Desktop → List Strike → Midstep
midstep d struck = record { desktop = d; struck = struck }

-- a client that came to be one is another after it was told
put-twice : (c : ℕ) (q : Peer) (now drawn made : Resident) (d : Desktop) (struck : List Strike) (told : Midstep) → now ≡ drawn
    → told ≡ midstep (with_client c (Some (with_peer q now)) (with_client c (Some made) d)) struck → told ≡ midstep (with_client c (Some (with_peer q drawn)) d) struck
put-twice c q now drawn made d struck told same h =
    let twice : midstep (with_client c (Some (with_peer q now)) (with_client c (Some made) d)) struck ≡ midstep (with_client c (Some (with_peer q now)) d) struck =
    ap (λ (x : Desktop). midstep x struck) (client-twice c (Some (with_peer q now)) (Some made) d) in
    let other : midstep (with_client c (Some (with_peer q now)) d) struck ≡ midstep (with_client c (Some (with_peer q drawn)) d) struck =
    ap (λ (m : Resident). midstep (with_client c (Some (with_peer q m)) d) struck) same in
    h ∙ twice ∙ other

settles-as : (path : List Desktop) (new : Desktop) (m n : Midstep) → m ≡ n → settling_through path new m → settling_through path new n
settles-as path new m n same h = subst (λ (x : Midstep). settling_through path new x) same h

-- ---- it is told of the focus

module _ (c id version : ℕ) (d : Desktop) (path : List Desktop) (e : Desktop) (told : Midstep) (moved : MovedStands d) (asks : asked c d ≡ Some (GetPointer id version))
    (has : has_focus c d.pointer.focus ≡ true) (there : Resident) (is : client_at c d ≡ Some there) (tells : TellsNew id c (put_back c d e) told) where
  demand : Demand
  demand = GetPointer id version

  from : pointer_asked (asked c d) c d ≡ d.pointer
  from = ap (λ (o : Option Demand). pointer_asked o c d) asks

  -- its own change leads to the last desktop, and where what is told leads it leads with the pointer put back
  abbrev Both : (List Desktop → Desktop → Type 0) → Type 0
  Both Step = (path ≡ e ∷ e ∷ []) × ((later : List Desktop) (new : Desktop) → settling_through later new told → Step later new)

  -- one that ended as out of memory isn't told
  lacked : (r : Resident) → BecomesThen (LacksMemory r.peer) c r (unpointed d) (settling_through path e)
      → Both (λ later new. BecomesThen (LacksMemory r.peer) c r d (settling_through later new))
  lacked r h =
      let q : Peer = h.0 in
      let over : Desktop = after_status (Some Memory) c (become_by (Some Memory) c r q d) in
      let ended : q.status ≡ Some Memory = lacking r.peer q h.1 in
      let is-over : becomes c r q d ≡ over = ap (λ (s : Option Cause). after_status s c (become_by s c r q d)) ended in
      let ends = settled-nowhere 32 (becomes c r q (unpointed d)) e h.2.0 (becomes-still q.status c r q d) h.2.2 in
      let here : put_back c d e ≡ over =
      ap (put_back c d) ends.0
      ∙ sym (becomes-put c r there q d is moved from) ∙ is-over in
      let told-so : TellsAt (drawing true) (new_entered id over) c (Some (resident_of q)) (unstruck over) told =
      subst (λ (o : Option Resident). TellsAt (drawing true) (new_entered id over) c o (unstruck over) told) (number-same d.clients c (Some (resident_of q)) there is)
      (subst (λ (x : Desktop). TellsNew id c x told) here tells) in
      let same : told ≡ unstruck over =
      subst (λ (s : Option Cause). TellsUnless (is_some s || is_struck c []) (drawing true) (new_entered id over) c (resident_of q) (unstruck over) told) ended told-so in (
        h.2.1 ∙ ap₂ (λ (a : Desktop) (rest : List Desktop). a ∷ rest) (sym ends.0) ends.1,
        λ later new k. (q, h.1, settles-as later new told (unstruck (becomes c r q d)) (same ∙ ap unstruck (sym is-over)) k),
      )

  did : (r : Resident) → r.peer.status ≡ None → r.owned ≡ there.owned → DoesThen c demand r (unpointed d) (settling_through path e)
      → Both (λ later new. DoesThen c demand r d (settling_through later new))
  unfolding demand
  did r alive owns h =
      let with_pointer : Resident = record r { pointers = in_rising_order id r.pointers } in
      let made : Resident = making WlPointer id version with_pointer in
      let drawn : Resident = changed_for c demand r d in
      let quiet : QueuesTo [] made.peer h.0 h.1 = subst (λ (events : List Said). QueuesTo events made.peer h.0 h.1) (told-alone [] r made refl) h.2 in
      let first : settling_through path e (changed_so c demand r (unpointed d) made.peer None) =
      subst (λ (q : Peer). settling_through path e (changed_so c demand r (unpointed d) q None)) quiet.0
      (subst (λ (why : Option Cause). settling_through path e (changed_so c demand r (unpointed d) h.0 why)) quiet.1 h.3) in
      let start : Desktop = with_client c (Some made) (done_for c demand r (unpointed d)) in
      let x : Desktop = with_client c (Some made) (done_for c demand r d) in
      let found : client_at c x ≡ Some made = number-same d.clients c (Some made) there is in
      let ends = settled-nowhere 32 start e first.0 refl first.2 in
      let here : put_back c d e ≡ x =
      ap (put_back c d) ends.0
      ∙ put-is c d None d.pointer start (ap status_of found ∙ alive) from in
      let told-so : TellsAt (drawing true) (new_entered id x) c (Some made) (unstruck x) told =
      subst (λ (o : Option Resident). TellsAt (drawing true) (new_entered id x) c o (unstruck x) told) found (subst (λ (y : Desktop). TellsNew id c y told) here tells) in
      let t : TellsResident (drawing true) (new_entered id x) c made (unstruck x) told =
      subst (λ (s : Option Cause). TellsUnless (is_some s || is_struck c []) (drawing true) (new_entered id x) c made (unstruck x) told) alive told-so in
      let same : drawn ≡ drawing true made = ap (λ (b : Bool). making WlPointer id version (drawing b with_pointer)) has in
      let windows : all_windows x ≡ all_windows d = same-windows d (with_client c (Some made) d) (put-shows c there (Some made) d is owns) in
      let events : replies c demand r drawn (all_windows d) d ≡ new_entered id x made =
      told-alone (new_pointer_told (has_focus c d.pointer.focus) id r.peer.serial (all_windows d) d) r drawn (ap (λ (m : Resident). m.owned) same)
      ∙ ap (λ (b : Bool). new_pointer_told b id r.peer.serial (all_windows d) d) has
      ∙ ap (λ (ws : List Window). entered_at id r.peer.serial d.pointer.place (focus_window d.pointer.focus ws)) (sym windows) in
      let queued : QueuesTo (replies c demand r drawn (all_windows d) d) drawn.peer t.0 t.1 =
      subst (λ (m : Resident). QueuesTo (replies c demand r drawn (all_windows d) d) m.peer t.0 t.1) (sym same)
      (subst (λ (told : List Said). QueuesTo told (drawing true made).peer t.0 t.1) (sym events) t.2) in
      let last : told ≡ changed_so c demand r d t.0 t.1 =
      put-twice c t.0 (drawing true made) drawn made (done_for c demand r d) (struck_by c t.1 []) told (sym same) t.3 in (
        first.1 ∙ ap₂ (λ (a : Desktop) (rest : List Desktop). a ∷ rest) (sym ends.0) ends.1,
        λ later new k. (t.0, t.1, queued, settles-as later new told (changed_so c demand r d t.0 t.1) last k),
      )

  answered : (judged : Result Demand Refusal) (r : Resident) → asked_of judged ≡ Some demand → r.peer.status ≡ None → r.owned ≡ there.owned
      → AnswersThen judged c r (unpointed d) (settling_through path e) → Both (λ later new. AnswersThen judged c r d (settling_through later new))
  unfolding demand
  answered (Err refusal) r asked-is alive owns h = absurd (none-some demand asked-is)
  answered (Ok other) r asked-is alive owns h =
      let same : other ≡ GetPointer id version = same_Some other demand asked-is in
      subst (λ (x : Demand). Both (λ later new. AnswersThen (Ok x) c r d (settling_through later new))) (sym same)
      (by (with_peer (counted r.peer) r) alive owns (subst (λ (x : Demand). AnswersThen (Ok x) c r (unpointed d) (settling_through path e)) same h))
    where
      by : (now : Resident) → now.peer.status ≡ None → now.owned ≡ there.owned
          → BecomesThen (LacksMemory now.peer) c now (unpointed d) (settling_through path e) ⊎ DoesThen c demand now (unpointed d) (settling_through path e)
          → Both (λ later new. BecomesThen (LacksMemory now.peer) c now d (settling_through later new) ⊎ DoesThen c demand now d (settling_through later new))
      by now alive owns (inl h) = let both = lacked now h in (both.0, λ later new k. inl (both.1 later new k))
      by now alive owns (inr h) = let both = did now alive owns h in (both.0, λ later new k. inr (both.1 later new k))

  took : (split : Split) (r : Resident) → asked_first split r ≡ Some demand → r.peer.status ≡ None → r.owned ≡ there.owned
      → TakesThen split c r (unpointed d) (settling_through path e) → Both (λ later new. TakesThen split c r d (settling_through later new))
  took (Whole object opcode size) r asked-is alive owns h =
      answered (judge_all r object opcode (take (size - 8) (drop 8 r.peer.rest))) (with_peer (with_rest (drop size r.peer.rest) r.peer) r) asked-is alive owns h
  took split r asked-is alive owns h = absurd (none-some demand asked-is)

pub new-pointer-apart-through : NewPointerApartThrough
unfolding demand
new-pointer-apart-through c id version d path e told moved asks has h tells = at (client_at c d) refl h
  where
    at : (o : Option Resident) → client_at c d ≡ o → ServesThen c o (unpointed d) (settling_through path e)
        → (path ≡ e ∷ e ∷ []) × ((later : List Desktop) (new : Desktop) → settling_through later new told → ServesThen c o d (settling_through later new))
    at None is h = absurd h
    at (Some r) is h =
        let both = took c id version d path e told moved asks has r is tells (split_of r.peer.rest) r (sym (ap asked_by is) ∙ asks) h.0 refl h.1 in
        (both.0, λ later new k. (h.0, both.1 later new k))

pub new-pointer-apart : NewPointerApart
new-pointer-apart c id version d e new told moved asks has h tells settles =
    let way = (messages_lead_through c (unpointed d) e).1 h in
    let rest = settling-with new told settles in
    (messages_lead_through c d new).0 rest.0 ((new-pointer-apart-through c id version d way.0 e told moved asks has way.1 tells).1 rest.0 new rest.1)
