-- The allocator that is refused for, as a `&` to the whole shows it. Assumes `Logic`.
--     Heap           the row of the whole
--     inner_at       where the inner allocator lies in a whole at this place
--     shows_inner    a `&` to the whole is one to the inner allocator too
use Rattle.std.proofs.Common.{ℕ, ◌+◌, [], ◌∷◌}
use seplogic.Ra.Ura.{Ura}
use base.Logic.{ent, sep}
use base.Fml.{Lft}
use prog.Memory.{align, up}
use types.Logic.{Logic, sem}
use types.Kit.{‵, ◌$◌, ◌∵◌, !, qed, keep, fsplit, done}
use denote.RattleType.{RattleType, RowLaws}
use denote.Memory.{hidden_shr}
use denote.Opens.{shr_dup, unhide, hide}
use denote.Param.{param}
use denote.Param.Laws.{param_laws}
use Rattle.std.proofs.alloc.Calls.{Al, α, seen}
use Rattle.test_support.specs.contracts.refusing.Refusing as whole
use Rattle.test_support.proofs.refusing.Refusing.TheLaws as laws

module _ (Z : Al) where
  abbrev pub Heap : RattleType
  Heap = whole.the_row (param 0 Z.row)

  heap_laws : RowLaws Heap
  heap_laws = (laws.the_row_laws (param 0 Z.row) (param_laws 0 Z.row Z.laws)).shr_laws

  abbrev pub inner_at : ℕ × ℕ → ℕ × ℕ
  inner_at p = (p.0, p.1 + up (align (α Z)) 0)

module _ (Z : Al) {M : Type 1} {𝓤 : Ura M} (𝓛 : Logic 𝓤) where
  pub shows_inner : (κ : Lft) (h : (Heap Z).Denot) (p : ℕ × ℕ) → ent 𝓤 (sem 𝓛 (hidden_shr (Heap Z) κ h p.0 p.1))
      (sep 𝓤 (sem 𝓛 (seen Z κ (inner_at Z p) h.inner)) (sem 𝓛 (hidden_shr (Heap Z) κ h p.0 p.1)))
  shows_inner κ h p =
      qed 𝓛 (‵ (hidden_shr (Heap Z) κ h p.0 p.1) ∷ []) ∵ shr_dup ! (Heap Z) (heap_laws Z) h p.0 p.1 κ $ unhide ! $ fsplit ! $
      -- [the fields; what the whole has beside them; the other copy]
      fsplit ! $ hide ! $ keep ! (0 ∷ 3 ∷ []) $ done !
