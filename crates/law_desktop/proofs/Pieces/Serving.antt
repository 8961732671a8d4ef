-- A client's messages lead with more bytes of its stream behind the others where they lead without, and leave those bytes behind.
use Rattle.std.proofs.Common.{◌≡◌, ℕ, zero, suc, ◌-◌, ◌≤◌, List, ◌++◌, length, take, drop, Bool, true, false, Option, Some, None, Result, refl, ap, subst, sym, ◌∙◌, inl, inr, arith, length-drop}
use Rattle.std.specs.Prelude.{Ok, Err}
use Rattle.std.proofs.lemmas.List.{take-append-le, drop-append-le}
use Rattle.wl_wire.specs.Wire.{split_of}
use Rattle.wl_wire.specs.declared.header.Split.{Split}
use Rattle.wl_wire.specs.declared.header.Split.TheVariants.{Message as Whole, More, Bad}
use Rattle.spec_desktop.specs.declared.cause.Cause.{Cause}
use Rattle.spec_desktop.specs.declared.cause.Cause.TheVariants.{Memory, Protocol, Slow}
use Rattle.spec_desktop.specs.declared.refusals.ErrorCode.TheVariants.{InvalidMethod}
use Rattle.spec_desktop.specs.declared.refusals.Refusal.{Refusal}
use Rattle.spec_desktop.specs.Peer.{Errs, LacksMemory, Peer, QueuesOr, counted, ended, has_room, queued, with_rest}
use Rattle.spec_desktop.specs.Told.{Said, code_number, display_error, error_told}
use Rattle.law_desktop.proofs.Pieces.Splits.{split-append, split-long, split-within}
use Rattle.spec_desktop.specs.Stacking.{without_client}
use Rattle.spec_desktop.specs.Windows.{Window}
use Rattle.spec_desktop.specs.Changing.{changed_for}
use Rattle.spec_desktop.specs.Demand.{Demand}
use Rattle.spec_desktop.specs.Demanding.{judge_all}
use Rattle.spec_desktop.specs.Desktop.{Desktop, Resident, become_by, client_at, client_in, resident_of, with_client}
use Rattle.spec_desktop.specs.Replies.{replies}
use Rattle.spec_desktop.specs.Settling.{EndsAndSettles, QueuesTo, after_status, becomes, pointer_without, unstruck}
use Rattle.spec_desktop.specs.Stacked.{all_windows}
use Rattle.spec_desktop.specs.Step.{with_peer}
use Rattle.spec_desktop.specs.Happens.{Reaches, Serves, done_for, wants_memory}
use Rattle.law_desktop.proofs.Runs.Forms.{Answers, Becomes, Does, ServesAt, Takes, WantsOr, after_why}
use Rattle.law_desktop.proofs.Pieces.Behind.{with_behind}
use Rattle.law_desktop.proofs.Runs.Idling.{change-quiet}
use Rattle.law_desktop.proofs.Runs.Serves.{done-clients_stay}
use Rattle.law_desktop.proofs.Pieces.Changing.{done-behind, judged-behind, replies-behind, stands-behind}
use Rattle.law_desktop.proofs.Pieces.Places.{behind, here-longer, longer_client, longer_in, put-here, windows-longer}
use Rattle.law_desktop.proofs.Pieces.Settling.{behind-same, ended-longer, queues-behind, queues-kept, settled-longer}

-- a client that lives, with more bytes behind
abbrev pub more_behind : List ℕ → Resident → Resident
more_behind more r = with_behind (r.peer.rest ++ more) r

-- ---- a client is refused, or runs out of memory

-- for some cause
abbrev IsEnded : Peer → Type 0
IsEnded q = (cause : Cause) × (q.status ≡ Some cause)

errs-ends : (refusal : Refusal) (p q : Peer) → Errs refusal p q → IsEnded q
errs-ends refusal p q h = at (has_room p.unsent (error_told refusal)) h
  where
    last : Peer
    last = ended (Protocol refusal.object (code_number refusal.code)) (queued (error_told refusal) p)

    at : (b : Bool) → QueuesOr b (q ≡ last) p q → IsEnded q
    at false k = (Slow, ap (λ (x : Peer). x.status) k)
    at true (inl k) = (Memory, ap (λ (x : Peer). x.status) k)
    at true (inr k) = (Protocol refusal.object (code_number refusal.code), ap (λ (x : Peer). x.status) k)

lacks-ends : (p q : Peer) → LacksMemory p q → IsEnded q
lacks-ends p q (inl h) = (Memory, ap (λ (x : Peer). x.status) h)
lacks-ends p q (inr h) = (Memory, ap (λ (x : Peer). x.status) h.1)

-- whatever came of it
errs-behind : (refusal : Refusal) (p q : Peer) (rest : List ℕ) → Errs refusal p q → Errs refusal (with_rest rest p) q
errs-behind refusal p q rest h = at (has_room p.unsent (error_told refusal)) h
  where
    last : Peer
    last = ended (Protocol refusal.object (code_number refusal.code)) (queued (error_told refusal) p)

    at : (b : Bool) → QueuesOr b (q ≡ last) p q → QueuesOr b (q ≡ last) (with_rest rest p) q
    at false k = k
    at true (inl k) = inl k
    at true (inr k) = inr k

module _ (c : ℕ) (more : List ℕ) where
  gone-longer : (q : Peer) (cause : Cause) → q.status ≡ Some cause → longer_client true more (Some (resident_of q)) ≡ Some (resident_of q)
  gone-longer q cause e = ap (λ (s : Option Cause). Some (resident_of (with_rest (behind true s q.rest more) q))) e

  becomes-longer : (q : Peer) (cause : Cause) (r other there : Resident) (d : Desktop) → q.status ≡ Some cause → client_at c d ≡ Some there
      → longer_in c more (becomes c r q d) ≡ becomes c other q (longer_in c more d)
  becomes-longer q cause r other there d e is =
      ap (λ (s : Option Cause). longer_in c more (after_status s c (become_by s c r q d))) e
      ∙ ap (λ (x : Desktop). record x { standing = without_client c d.standing; pointer = pointer_without c d.pointer })
      (put-here c more (resident_of q) there d is ∙ ap (λ (o : Option Resident). with_client c o (longer_in c more d)) (gone-longer q cause e))
      ∙ ap (λ (s : Option Cause). after_status s c (become_by s c other q (longer_in c more d))) (sym e)

  -- what ends a client does so with those bytes too
  becomes-so : (Q Then : Peer → Type 0) → ((q : Peer) → Q q → Then q) → ((q : Peer) → Q q → IsEnded q) → (r other there : Resident) (d new : Desktop) → client_at c d ≡ Some there
      → Becomes Q c r d new → Becomes Then c other (longer_in c more d) (longer_in c more new)
  becomes-so Q Then next ends r other there d new is h =
      let gone = ends h.0 h.1 in (
        h.0,
        next h.0 h.1,
        subst (λ (e : Desktop). EndsAndSettles (unstruck e) (longer_in c more new)) (becomes-longer h.0 gone.0 r other there d gone.1 is)
            (settled-longer c more (becomes c r h.0 d) new h.2),
      )

  errs-longer : (refusal : Refusal) (r there : Resident) (d new : Desktop) → client_at c d ≡ Some there → Becomes (Errs refusal r.peer) c r d new
      → Becomes (Errs refusal (more_behind more r).peer) c (more_behind more r) (longer_in c more d) (longer_in c more new)
  errs-longer refusal r there d new is h =
      becomes-so (Errs refusal r.peer) (Errs refusal (more_behind more r).peer) (λ q errs. errs-behind refusal r.peer q (r.peer.rest ++ more) errs) (λ q errs. errs-ends refusal r.peer q errs)
      r (more_behind more r) there d new is h

  wants-longer : (b : Bool) (Later Then : Type 0) (r there : Resident) (d new : Desktop) → client_at c d ≡ Some there → (Later → Then) → WantsOr b Later c r d new
      → WantsOr b Then c (more_behind more r) (longer_in c more d) (longer_in c more new)
  wants-longer false Later Then r there d new is next h = next h
  wants-longer true Later Then r there d new is next (inr h) = inr (next h)
  wants-longer true Later Then r there d new is next (inl h) =
      inl (becomes-so (LacksMemory r.peer) (LacksMemory (more_behind more r).peer) (λ q lacks. lacks) (λ q lacks. lacks-ends r.peer q lacks) r (more_behind more r) there d new is h)

  -- ---- what is asked is done

  why-longer : (why : Option Cause) (d : Desktop) → longer_in c more (after_why why c d) ≡ after_why why c (longer_in c more d)
  why-longer None d = refl
  why-longer (Some cause) d = ended-longer c more c cause d

  does-longer : (demand : Demand) (r there : Resident) (d new : Desktop) → client_at c d ≡ Some there → r.peer.status ≡ None → Does c demand r d new
      → Does c demand (more_behind more r) (longer_in c more d) (longer_in c more new)
  does-longer demand r there d new is alive h =
      let rest : List ℕ = r.peer.rest ++ more in
      let later : Desktop = longer_in c more d in
      let made : Resident = changed_for c demand r d in
      let on : Desktop = done_for c demand r d in
      let told : List Said = replies c demand r made (all_windows d) d in
      let quiet = change-quiet c demand d r in
      let kept = queues-kept told made.peer h.0 h.1 h.2 in
      let came : behind true h.0.status h.0.rest more ≡ rest =
      behind-same true more r.peer h.0 (kept.0 ∙ quiet.0, kept.1 ∙ quiet.1) ∙ ap (λ (s : Option Cause). behind true s r.peer.rest more) alive in
      let here : client_at c on ≡ Some there = ap (λ (clients : List (Option Resident)). client_in clients c) (done-clients_stay c demand r d) ∙ is in
      let put : longer_in c more (with_client c (Some (with_peer h.0 made)) on) ≡ with_client c (Some (with_peer (with_rest rest h.0) made)) (longer_in c more on) =
      put-here c more (with_peer h.0 made) there on here
      ∙ ap (λ (all : List ℕ). with_client c (Some (with_peer (with_rest all h.0) made)) (longer_in c more on)) came in
      let now : Desktop = after_why h.1 c (with_client c (Some (with_peer h.0 made)) on) in
      let ends = why-longer h.1 (with_client c (Some (with_peer h.0 made)) on) ∙ ap (λ (e : Desktop). after_why h.1 c e) put in
      let settles = subst (λ (e : Desktop). EndsAndSettles (unstruck e) (longer_in c more new)) ends (settled-longer c more now new h.3) in
      let goal = λ (said : List Said) (m : Resident) (e : Desktop).
      (q : Peer) × (why : Option Cause) × QueuesTo said m.peer q why × EndsAndSettles (unstruck (after_why why c (with_client c (Some (with_peer q m)) e))) (longer_in c more new) in
      let does : goal told (with_behind rest made) (longer_in c more on) = (with_rest rest h.0, h.1, queues-behind told made.peer h.0 h.1 rest h.2, settles) in
      let grown : Resident = changed_for c demand (with_behind rest r) later in
      let same : grown ≡ with_behind rest made = done-behind c more demand r d rest in
      let says : replies c demand (with_behind rest r) grown (all_windows later) later ≡ told =
      ap (λ (m : Resident). replies c demand (with_behind rest r) m (all_windows later) later) same
      ∙ ap (λ (windows : List Window). replies c demand (with_behind rest r) (with_behind rest made) windows later) (windows-longer c more d)
      ∙ replies-behind c more demand r made (all_windows d) d rest in
      subst (λ (said : List Said). goal said grown (done_for c demand (with_behind rest r) later)) (sym says)
      (subst (λ (m : Resident). goal told m (done_for c demand (with_behind rest r) later)) (sym same)
      (subst (λ (e : Desktop). goal told (with_behind rest made) e) (sym (stands-behind c more demand r d rest)) does))

  answers-longer : (judged : Result Demand Refusal) (r there : Resident) (d new : Desktop) → client_at c d ≡ Some there → r.peer.status ≡ None → Answers judged c r d new
      → Answers judged c (more_behind more r) (longer_in c more d) (longer_in c more new)
  answers-longer (Ok demand) r there d new is alive h =
      let taken : Resident = with_peer (counted r.peer) r in
      wants-longer (wants_memory demand) (Does c demand taken d new) (Does c demand (more_behind more taken) (longer_in c more d) (longer_in c more new)) taken there d new is
      (λ does. does-longer demand taken there d new is alive does) h
  answers-longer (Err refusal) r there d new is alive h = errs-longer refusal r there d new is h

  -- ---- messages are taken

  takes-longer : (s : Split) (r : Resident) (d new : Desktop) → client_at c d ≡ Some r → r.peer.status ≡ None → split_of r.peer.rest ≡ s → Takes s c r d new
      → Takes s c (more_behind more r) (longer_in c more d) (longer_in c more new)
  takes-longer (Whole object opcode size) r d new is alive e takes =
      let rest = r.peer.rest in
      let within : size ≤ length rest = split-within rest object opcode size e in
      let long : 8 ≤ length rest = split-long rest (λ (y : split_of rest ≡ More). absurd (cc (y, e))) in
      let first : List ℕ = take (size - 8) (drop 8 rest) in
      let body : take (size - 8) (drop 8 (rest ++ more)) ≡ first =
      ap (λ (xs : List ℕ). take (size - 8) xs) (drop-append-le 8 rest more long) ∙ take-append-le (size - 8) (drop 8 rest) more (omega (arith, length-drop 8 rest)) in
      let after : drop size (rest ++ more) ≡ drop size rest ++ more = drop-append-le size rest more within in
      let goal = λ (judged : Result Demand Refusal) (tail : List ℕ). Answers judged c (with_behind tail r) (longer_in c more d) (longer_in c more new) in
      let answers : goal (judge_all r object opcode first) (drop size rest ++ more) =
      answers-longer (judge_all r object opcode first) (with_behind (drop size rest) r) r d new is alive takes in
      let judged : judge_all (more_behind more r) object opcode (take (size - 8) (drop 8 (rest ++ more))) ≡ judge_all r object opcode first =
      judged-behind r object opcode (take (size - 8) (drop 8 (rest ++ more))) (rest ++ more) ∙ ap (λ (b : List ℕ). judge_all r object opcode b) body in
      subst (λ (j : Result Demand Refusal). goal j (drop size (rest ++ more))) (sym judged)
      (subst (λ (tail : List ℕ). goal (judge_all r object opcode first) tail) (sym after) answers)
  takes-longer Bad r d new is alive e takes = errs-longer (display_error InvalidMethod) r r d new is takes
  takes-longer More r d new is alive e takes = absurd takes

  -- the client then has those bytes behind
  pub behind-there : (r : Resident) (d : Desktop) → client_at c d ≡ Some r → r.peer.status ≡ None → client_at c (longer_in c more d) ≡ Some (more_behind more r)
  behind-there r d is alive =
      here-longer c more d.clients ∙ ap (λ (o : Option Resident). longer_client true more o) is
      ∙ ap (λ (s : Option Cause). Some (with_behind (behind true s r.peer.rest more) r)) alive

  serves-longer : (d new : Desktop) → Serves c d new → Serves c (longer_in c more d) (longer_in c more new)
  serves-longer d new h = at (client_at c d) refl h
    where
      at : (o : Option Resident) → client_at c d ≡ o → ServesAt c o d new → Serves c (longer_in c more d) (longer_in c more new)
      at None is k = absurd k
      at (Some r) is k =
          let some = λ (e : split_of r.peer.rest ≡ More). subst (λ (s : Split). Takes s c r d new) e k.1 in
          let takes : Takes (split_of (r.peer.rest ++ more)) c (more_behind more r) (longer_in c more d) (longer_in c more new) =
          subst (λ (s : Split). Takes s c (more_behind more r) (longer_in c more d) (longer_in c more new)) (sym (split-append r.peer.rest more some))
          (takes-longer (split_of r.peer.rest) r d new is k.0 refl k.1) in
          subst (λ (o : Option Resident). ServesAt c o (longer_in c more d) (longer_in c more new)) (sym (behind-there r d is k.0)) (k.0, takes)

  pub reaches-longer : (n : ℕ) (d new : Desktop) → Reaches c n d new → Reaches c n (longer_in c more d) (longer_in c more new)
  reaches-longer zero d new h = ap (λ (e : Desktop). longer_in c more e) h
  reaches-longer (suc n) d new h = (longer_in c more h.0, reaches-longer n d h.0 h.1, serves-longer h.0 new h.2)
