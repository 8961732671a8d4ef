-- A call is counted. Within the limit it is passed on, and past it the answer is `Err`. Assumes `Logic`.
use Rattle.std.proofs.Common.{◌≡◌, ◌⊎◌, ℕ, Bool, true, false, ◌^◌, ◌<◌, List, [], ◌∷◌, refl, sym, ap, subst, w64, Bor}
use lib.Dec.{T}
use seplogic.Ra.Ura.{Ura}
use mir.Syntax.{Ty, Args, Fn, a_type, dnil, dcons}
use mir.Val.{Val, vint, vptr, has_ty, WT}
use mir.MapTy.{inst_fn}
use base.Logic.{SProp, ent, emp, id⊢}
use base.Fml.{Lft, Share, ftrue, flft}
use prog.Memory.{Memory}
use prog.Routine.{Routine}
use prog.Wp.{Env, WpFn, Tables}
use types.Logic.{Logic}
use types.Kit.{Item, ⋆, ‵, raw, ◌⊛◌, some, later, at_ret, ◌$◌, ◌∵◌, !, qed, by, move, keep, use0, use1, use2, split, split3, join, pick, await, feq_l, feq_i, fsplit, fjoin, suffices, done}
use types.Run.{stop, fld, addr, lit, of_opd, no_more, and_then, first, branches, exec, returns, enter}
use types.Part.{agg}
use types.ByLocal.{alloc_all, pass_all, free_all, look_at, get, through, sets, sets_last, lands_as, lands_last, is, env}
use contract.BorrowLft.{◌⊑◌, ⊑_trans}
use contract.Monad.{Fun, fact, fact_i}
use contract.Running.{tables, tables_of}
use sound.WpLaws.{fm_of, WpFn-mono}
use denote.Exit.{yes}
use denote.RattleType.{owns}
use denote.Memory.{hidden_shr}
use denote.Ref.{shr_vals}
use denote.Param.{bounded, layout}
use denote.Plain.{uint_vals, uint_Tells}
use denote.Builtin.{usize, bool, RefOf}
use denote.Signature.{Slot, plain, types_at}
use denote.Steps.{heard, nothing, only}
use denote.Triple.Call.{calls_at, calls_at_last}
use denote.Triple.Clauses.{Ended, Clauses, lasts}
use denote.Triple.Spec.{triple_of}
use denote.Triple.Statement.{Contract, Triple}
use denote.Triple.Table.{entered}
use denote.Triple.Walked.{Stays, stay_dropped, walk_of, ends_at, walked, Goes-dropped, walk_Meets}
use Rattle.std.specs.Allocator.{HasLayout, block_if_ok}
use Rattle.std.proofs.alloc.Calls.{Al, seen, token, Answer, answer_val, Answer-typed, takes_key, Takes, at_takes, Answered, Takes-goes, Takes-gives, answers}
use Rattle.std.proofs.alloc.Resizes.{result_of, result_own}
use Rattle.std.proofs.alloc.Shapes.{after}
use Rattle.test_support.proofs.Handle.{Heap, inner_at, shows_inner}
use Rattle.test_support.specs.contracts.refusing.Refusing.serves_next as N
use Rattle.test_support.proofs.refusing.Refusing.serves_next.Met as n-proof
use Rattle.test_support.specs.contracts.refusing.RefusingAllocator.allocate as F
use Rattle.test_support.specs.contracts.refusing.RefusingAllocator.allocate.Key as key
use Rattle.test_support.proofs.refusing.RefusingAllocator.allocate.Statement as stated
use Rattle.test_support.proofs.refusing.RefusingAllocator.allocate.Code as code

module _ (Z : Al) where
  abbrev args : Args
  args = bounded (a_type ∷ []) (Z.row, tt) (dcons Z.d (dcons Z.drops dnil))

  abbrev here : Fn
  here = inst_fn args code.function

  abbrev heap : Slot 2
  heap = RefOf (0 ∷ []) tt (plain (λ _. Heap Z)) (λ _. tt)

  abbrev number : Slot 2
  number = plain (λ _. usize)

  abbrev ended : Ended
  ended = F.ended Z.row Z.g Z.d Z.drops

  abbrev stayed : Stays ended.signature.params ended.kept
  stayed = (stay_dropped heap yes, (stay_dropped number yes, (stay_dropped number yes, tt)))

module _ (Z : Al) {M : Type 1} {𝓤 : Ura M} (𝓛 : Logic 𝓤) (at_mem : Memory → SProp 𝓤) (run : Routine → Fun 𝓤) (𝓣 : Tables 𝓤 𝓛.H) where
  open 𝓛 use {H}

  abbrev clauses : Clauses 𝓤 (ended Z)
  clauses = F.clauses Z.row Z.g Z.d Z.drops 𝓛 at_mem run

  -- the contract of the call that counts
  abbrev Counts : Contract 𝓤
  Counts = triple_of 𝓛 (N.signature Z.row) (N.spec Z.row Z.g Z.d Z.drops 𝓛 at_mem run)

  module _ (κ ρ : Lft) (q qρ : Share) (nested : κ ⊑ ρ) (r : Bor (Heap Z).Denot) (n a : ℕ) (τ : Ty) where
    abbrev bound : (walk_of 𝓛 (ended Z) (stayed Z) clauses).Ghost
    bound = (((κ, (ρ, tt)), (q, (qρ, tt)), (nested, tt), (r, (n, (a, tt))), (shr_vals r, (vint w64 n ∷ [], (vint w64 a ∷ [], tt)))), τ)

    abbrev Post : Val → SProp 𝓤
    Post = (walk_of 𝓛 (ended Z) (stayed Z) clauses).post bound

    abbrev counted : Counts.Ghost
    counted = (((κ, (ρ, tt)), (q, (qρ, tt)), (nested, tt), (r, tt), (shr_vals r, tt)), tt)

    abbrev Whole : Item 𝓤
    Whole = ‵ (hidden_shr (Heap Z) κ r.now r.ref_ptr.0 r.ref_ptr.1)

    typed : (y : Bool) (b o : ℕ) (v : Val) → v ≡ answer_val y b o → T (has_ty (layout Answer) v) × WT v
    typed y b o v same = subst (λ (u : Val). T (has_ty (layout Answer) u) × WT u) (sym same) (Answer-typed y b o)

    -- the answer, with the block where there is one
    exits : (y : Bool) (b o : ℕ) → ent 𝓤 (⋆ 𝓛 (‵ (block_if_ok (token Z r.now.inner) τ (result_of y b o)) ∷ ‵ (flft κ q) ∷ ‵ (flft ρ qρ) ∷ [])) (Post (answer_val y b o))
    exits y b o =
        qed 𝓛 (‵ (block_if_ok (token Z r.now.inner) τ (result_of y b o)) ∷ ‵ (flft κ q) ∷ ‵ (flft ρ qρ) ∷ []) ∵
        suffices ! _ (ends_at 𝓛 (ended Z) (stayed Z) clauses bound (answer_val y b o) (result_of y b o) (tt, (tt, (tt, tt))) (tt, (tt, (tt, tt)))) $
        use0 𝓛 (‵ (Answer.own_val (result_of y b o) (answer_val y b o ∷ []))) (result_own 𝓛 y b o) $
        -- nothing is left of the three parameters
        nothing ! $ nothing ! $ fjoin ! $ nothing ! $ fjoin ! $ nothing ! $ fjoin ! $ join ! $
        -- [the parameters and the answer; the block; the two tokens]
        nothing ! $ move ! (4 ∷ 0 ∷ []) $ join ! $ move ! (3 ∷ 0 ∷ []) $ join ! $ join ! $ done !

    walk : n < 2 ^ 64 → a < 2 ^ 64 → Triple 𝓤 (𝓣.C (N.Key.name (args Z))) Counts → Triple 𝓤 (𝓣.C (takes_key Z)) (Takes Z 𝓛 at_mem run)
        → ent 𝓤 ((walk_of 𝓛 (ended Z) (stayed Z) clauses).pre bound) (WpFn 𝓤 H 𝓣.C 𝓣.Λ (here Z) (vptr r.ref_ptr.0 r.ref_ptr.1 ∷ vint w64 n ∷ vint w64 a ∷ []) Post)
    walk n_fits a_fits counts takes =
        qed 𝓛 (((‵ (flft κ q) ⊛ ‵ (flft ρ qρ) ⊛ ‵ ftrue) ⊛ ‵ (owns (types_at (ended Z).signature.params bound.0.0) bound.0.3 bound.0.4))
        ∷ (raw (fact 𝓤 (ρ ⊑ Z.row.lives)) ⊛ raw (fact 𝓤 (HasLayout τ n a))) ∷ []) ∵
        move ! (1 ∷ []) $ split ! $ heard ! _ (λ lives. heard ! _ (λ laid_out. split ! $ split3 ! $ move ! (3 ∷ []) $ fsplit ! $ fsplit ! $
        keep ! (1 ∷ 3 ∷ 4 ∷ []) $ use1 𝓛 (‵ (seen Z κ (inner_at Z r.ref_ptr) r.now.inner) ⊛ Whole) (shows_inner Z 𝓛 κ r.now r.ref_ptr) $ split ! $
        -- [the inner allocator; the whole; the two tokens]
        enter ! _ _ _ _ _ $ alloc_all ! (λ l. pass_all ! refl ((tt, tt), ((tt, record { fits = n_fits }), ((tt, record { fits = a_fits }), tt))) $
        let En : Env 𝓤 H = env (here Z).locals l in
        nothing ! $ use0 𝓛 (raw (fact 𝓤 (ρ ⊑ Z.row.lives))) (fact_i 𝓤 (ρ ⊑ Z.row.lives) (emp 𝓤) lives) $ join ! $
        move ! (2 ∷ []) $ feq_i ! (List Val) (shr_vals r) (shr_vals r) refl $ fjoin ! $ nothing ! $ move ! (1 ∷ 0 ∷ []) $ fjoin ! $
        nothing ! $ move ! (5 ∷ 0 ∷ []) $ join ! $ move ! (4 ∷ 0 ∷ []) $ join ! $ join ! $ join ! $ use1 𝓛 (raw (Counts.pre counted)) (id⊢ 𝓤 _) $
        calls_at ! (fm_of 𝓤 H 𝓛.laws 𝓣) Counts counts counted (and_then ! (get ! refl) (no_more !)) (λ u.
        use1 𝓛 (later (some (λ (serves : Bool). ((‵ (flft κ q) ⊛ ‵ (flft ρ qρ) ⊛ ‵ ftrue) ⊛ ‵ (bool.own_val serves (u ∷ [])))
        ⊛ some (λ (ws : Unit {0} × Unit {0}). ‵ (lasts (N.ended Z.row Z.g Z.d Z.drops) counted.0.0 counted.0.3 ws) ⊛ raw (fact 𝓤 (serves ≡ true → (0 < r.now.limit) ⊎ (r.now.once ≡ true))))))) (id⊢ 𝓤 _) $
        await ! tt $ pick ! (λ serves. split ! $ split ! $ split3 ! $ move ! (3 ∷ []) $ feq_l ! (λ is_serves. lands_as ! (ap only is_serves) refl (tt, tt) $
        -- [the two tokens; nothing; what the count says; the inner allocator]
        first ! $ branches ! (get ! refl)
        (λ within.
        let h : Z.row.Denot = r.now.inner in
        let p : ℕ × ℕ = inner_at Z r.ref_ptr in
        sets ! (addr ! (through ! refl (fld ! refl (stop !)))) refl (tt, tt) $ move ! (4 ∷ 0 ∷ []) $
        use2 𝓛 (raw ((Takes Z 𝓛 at_mem run).pre (at_takes Z 𝓛 at_mem run κ q p h n a τ)))
        (Takes-goes Z 𝓛 at_mem run κ q p h (⊑_trans κ ρ Z.row.lives nested lives) n a τ laid_out.0 laid_out.1 n_fits a_fits) $
        calls_at_last ! (fm_of 𝓤 H 𝓛.laws 𝓣) (Takes Z 𝓛 at_mem run) takes (at_takes Z 𝓛 at_mem run κ q p h n a τ)
        (and_then ! (get ! refl) (and_then ! (get ! refl) (and_then ! (get ! refl) (no_more !)))) (λ v.
        use1 𝓛 (later (raw (Answered Z 𝓛 at_mem run h τ v) ⊛ ‵ (flft κ q))) (Takes-gives Z 𝓛 at_mem run κ q p h n a τ v) $ await ! tt $ split ! $
        answers Z ! at_mem run h τ v
        (λ b o is_block. fjoin ! $ lands_last ! refl (typed true b o v is_block) $ exec ! 𝓣.C 𝓣.Λ En (after 2 (here Z).body) (at_ret En Post) $
        sets ! (is ! (of_opd ! (get ! refl)) is_block) refl (Answer-typed true b o) $ returns ! (look_at ! 0 refl) $ free_all ! refl $ keep ! (0 ∷ 1 ∷ 2 ∷ []) $ by ! (exits true b o))
        (λ is_none. nothing ! $ lands_last ! refl (typed false 0 0 v is_none) $ exec ! 𝓣.C 𝓣.Λ En (after 2 (here Z).body) (at_ret En Post) $
        sets ! (is ! (of_opd ! (get ! refl)) is_none) refl (Answer-typed false 0 0) $ returns ! (look_at ! 0 refl) $ free_all ! refl $ keep ! (0 ∷ 1 ∷ 2 ∷ []) $ by ! (exits false 0 0))))
        (λ past. sets ! (agg ! (no_more !)) refl (tt, tt) $ sets_last ! (agg ! (and_then ! (lit ! tt) (and_then ! (get ! refl) (no_more !)))) refl (Answer-typed false 0 0) $
        exec ! 𝓣.C 𝓣.Λ En (after 2 (here Z).body) (at_ret En Post) $ sets ! (of_opd ! (get ! refl)) refl (Answer-typed false 0 0) $
        returns ! (look_at ! 0 refl) $ free_all ! refl $ nothing ! $ keep ! (0 ∷ 1 ∷ 2 ∷ []) $ by ! (exits false 0 0))))))))

pub allocate_spec : {M : Type 1} → stated.statement M
unfolding tables_of
allocate_spec 𝓤 𝓛 𝓜 𝓡 wired Y L g d dd met md =
    let Z : Al = record { row = Y; laws = L; g = g; d = d; drops = dd } in
    let A = 𝓛.A in
    let 𝓣 : Tables 𝓤 𝓛.H = tables_of 𝓤 𝓛.H 𝓜 (tables 𝓤 𝓛.H 𝓜 𝓡 𝓡.env) in
    let runs = WpFn 𝓤 𝓛.H 𝓣.C 𝓣.Λ (here Z) in
    let c = F.clauses Y g d dd 𝓛 𝓜.mem 𝓡.returns in
    let gone = Goes-dropped 𝓛 2 (number Z) yes (λ κs x f. refl) in
    let counts = n-proof.met 𝓤 𝓛 𝓜 𝓡 (code.calls-test_support::refusing::Refusing::serves_next 𝓡.env wired) Y L g d dd met md in
    entered 𝓤 𝓛.H (triple_of 𝓛 (F.signature Y) (F.spec Y g d dd 𝓛 𝓜.mem 𝓡.returns)) 𝓣.C 𝓣.Λ (key.name (args Z)) (here Z) (code.unfolded 𝓤 𝓛.H 𝓜 𝓡 wired (Y, tt) d dd)
    (walk_Meets 𝓛 (ended Z) (stayed Z) (Goes-dropped 𝓛 2 (heap Z) yes (λ κs x f. refl), (gone, (gone, tt))) c runs (WpFn-mono 𝓤 𝓛.H 𝓛.laws 𝓣 (here Z))
    (walked 𝓛 (ended Z) (stayed Z) c runs (λ κs. (shr_vals, (uint_vals w64, (uint_vals w64, tt)))) (λ κs. ((λ r vs same. same.0), (uint_Tells w64, (uint_Tells w64, tt))))
    (λ κs qs bounds a τ are. walk Z 𝓛 𝓜.mem 𝓡.returns 𝓣 κs.0 κs.1.0 qs.0 qs.1.0 bounds.0 a.0 a.1.0 a.1.1.0 τ are.1.0.1 are.1.1.0.1 counts (met.allocate dd))))
