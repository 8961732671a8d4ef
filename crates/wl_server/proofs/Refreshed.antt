-- A viewer is told of a frame.
use Rattle.std.proofs.Common.{◌≡◌, ℕ, Bool, true, false, Option, None, Some, refl, ap, sym, ◌∙◌, subst, inl, inr}
use Rattle.std.specs.Prelude.{◌&&◌, not}
use Rattle.wl_session.specs.Damage.{Damaged}
use Rattle.wl_session.specs.Frame.{Image}
use Rattle.wl_viewer.specs.Telling.{IsTold, Joins, Update, is_as_large, is_free}
use Rattle.wl_viewer.specs.View.{ViewerView}
use Rattle.wl_server.specs.Watching.{Damages, Refreshes, RefreshesIf, RefreshesPlace, Updates, Watching}

-- it didn't fail, and its output is as large
abbrev pub is_fit : {D : Type 0} → Damaged → Image → Watching D → Bool
is_fit damage frame old = not old.has_failed && is_as_large old.viewer.untold damage frame

fit-refreshes : {D : Type 0} (damage : Damaged) (frame : Image) (time : ℕ) (update : Option Update) (old joined new : Watching D) → is_fit damage frame old ≡ true → Damages damage old joined
    → Updates (is_free joined.viewer) frame time update joined new → Refreshes damage frame time update old new
fit-refreshes damage frame time update old joined new fit joins updates =
    subst (λ (b : Bool). RefreshesIf b damage frame time update old new) (sym fit) (joined, joins, updates)

-- what is known of a viewer to which the damage was added
pub record Joined (damage : Damaged) (old joined : ViewerView) : Type 0 where
  pub joins : Joins old.untold damage joined.untold
  pub heard : joined.heard ≡ old.heard
  pub out : joined.out ≡ old.out
  pub is_over : joined.is_over ≡ old.is_over

joined-damages : {D : Type 0} (damage : Damaged) (old : Watching D) (joined : ViewerView) → Joined damage old.viewer joined → Damages damage old (record old { viewer = joined })
joined-damages damage old joined j = record {
  joins = j.joins;
  heard = j.heard;
  out = j.out;
  is_over = j.is_over;
  conn = refl;
  has_failed = refl;
}

told-updates : {D : Type 0} (damage : Damaged) (frame : Image) (time : ℕ) (old : Watching D) (joined later : ViewerView) (told : Bool) → is_fit damage frame old ≡ true → Joined damage old.viewer joined
    → told ≡ is_free joined → (told ≡ false → later ≡ joined) → (told ≡ true → (update : Option Update) × IsTold frame time update joined later)
    → (update : Option Update) × Refreshes damage frame time update old (record old { viewer = later; is_told = told })
told-updates {D} damage frame time old joined later true fit j free kept all =
    let t = all refl in (
      t.0,
      fit-refreshes damage frame time t.0 old (record old { viewer = joined }) (record old { viewer = later; is_told = true }) fit (joined-damages damage old joined j)
          (subst (λ (b : Bool). Updates b frame time t.0 (record old { viewer = joined }) (record old { viewer = later; is_told = true })) free (inl (t.1, refl))),
    )
told-updates {D} damage frame time old joined later false fit j free kept all = (
  None,
  fit-refreshes damage frame time None old (record old { viewer = joined }) (record old { viewer = later; is_told = false }) fit (joined-damages damage old joined j)
      (subst (λ (b : Bool). Updates b frame time None (record old { viewer = joined }) (record old { viewer = later; is_told = false })) free
      (refl, ap (λ (v : ViewerView). record old { viewer = v; is_told = false }) (kept refl))),
)

-- where the update was made, or none was to be
pub told-refreshes : {D : Type 0} (damage : Damaged) (frame : Image) (time : ℕ) (now old : Watching D) (joined later : ViewerView) (told : Bool) → old ≡ now → is_fit damage frame now ≡ true
    → Joined damage old.viewer joined → told ≡ is_free joined → (told ≡ false → later ≡ joined) → (told ≡ true → (update : Option Update) × IsTold frame time update joined later)
    → (update : Option Update) × Refreshes damage frame time update now (record old { viewer = later; is_told = told })
told-refreshes {D} damage frame time now old joined later told same fit j free kept all =
    subst (λ (v : Watching D). (update : Option Update) × Refreshes damage frame time update v (record old { viewer = later; is_told = told })) same
    (told-updates damage frame time old joined later told (ap (λ (v : Watching D). is_fit damage frame v) same ∙ fit) j free kept all)

-- where memory for it was refused
pub failed-refreshes : {D : Type 0} (damage : Damaged) (frame : Image) (time : ℕ) (now old : Watching D) (joined later : ViewerView) → old ≡ now → is_fit damage frame now ≡ true
    → Joined damage old.viewer joined → is_free joined ≡ true → later.heard ≡ joined.heard
    → (update : Option Update) × Refreshes damage frame time update now (record old { viewer = later; has_failed = true })
failed-refreshes {D} damage frame time now old joined later same fit j free heard =
    subst (λ (v : Watching D). (update : Option Update) × Refreshes damage frame time update v (record old { viewer = later; has_failed = true })) same (
      None,
      fit-refreshes damage frame time None old (record old { viewer = joined }) (record old { viewer = later; has_failed = true }) (ap (λ (v : Watching D). is_fit damage frame v) same ∙ fit)
          (joined-damages damage old joined j)
          (subst (λ (b : Bool). Updates b frame time None (record old { viewer = joined }) (record old { viewer = later; has_failed = true })) (sym free) (inr (refl, refl, refl, heard))),
    )

-- at the place
pub some-refreshes : {D : Type 0} (damage : Damaged) (frame : Image) (time : ℕ) (place : Option (Watching D)) (old new : Watching D) → place ≡ Some old
    → (update : Option Update) × Refreshes damage frame time update old new → (update : Option Update) × RefreshesPlace damage frame time update place (Some new)
some-refreshes {D} damage frame time place old new is told =
    subst (λ (p : Option (Watching D)). (update : Option Update) × RefreshesPlace damage frame time update p (Some new)) (sym is) (told.0, (new, told.1, refl))
