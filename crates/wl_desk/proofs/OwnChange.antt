-- A step of the pointer as a whole: its own change, and then the rounds that follow.
use Rattle.std.proofs.Common.{◌≡◌, ℕ, ◌<◌, List, [], ◌∷◌, ◌++◌, Bool, true, false, Option, None, refl, ap, ap₂, subst, sym, ◌∙◌}
use Rattle.std.proofs.Math.Path.{fun_ext}
use Rattle.std.specs.Prelude.{ℤ, ◌&&◌, ◌||◌, int_le, map, pos, unsigned_abs}
use Rattle.wl_paint.specs.Damage.{Damaged, has}
use Rattle.wl_scene.specs.Marking.{IsAsLarge}
use Rattle.wl_surface.specs.Surfaces.{history_in}
use Rattle.spec_desktop.specs.Popups.{stacked_popups}
use Rattle.spec_desktop.specs.Stacking.{Owned, Standing, root_of}
use Rattle.spec_desktop.specs.Windows.{Window, windows}
use Rattle.spec_desktop.specs.Desktop.{Desktop}
use Rattle.spec_desktop.specs.Happenings.{Happening, Leads}
use Rattle.spec_desktop.specs.Marks.{Applied, at_least, at_most}
use Rattle.spec_desktop.specs.Moments.{history_of, is_applied_by, marks_at_least_of, marks_at_least_through, marks_at_most_of, marks_at_most_through}
use Rattle.spec_desktop.specs.Settling.{Midstep}
use Rattle.spec_desktop.specs.Stacked.{all_windows}
use Rattle.spec_desktop.specs.Through.{SettlesAllThrough}
use Rattle.law_desktop.specs.Focus.{IsSettled}
use Rattle.law_desktop.proofs.Runs.Settled.{ShowsSame}
use Rattle.law_desktop.proofs.PointerAside.Marking.{last-marks-nothing, marks-own-then-rounds}
use Rattle.law_desktop.proofs.PointerAside.Rounds.{rounds-settle}
use Rattle.law_desktop.proofs.Truth.{differ}
use Rattle.wl_clients.specs.Leading.{Led, raised_by}
use Rattle.wl_clients.specs.Marking.{MarksThroughBy}
use Rattle.wl_desk.specs.Agreeing.{Agrees}
use Rattle.wl_desk.specs.Midway.{IsMidway, SettlesDown}
use Rattle.wl_clients.specs.Raising.{MarksChange}
use Rattle.wl_desk.specs.View.{MarkedDesk}
use Rattle.wl_desk.proofs.Leading.{midway-agrees}
use Rattle.wl_desk.proofs.Restacking.{telling-apart}

-- ---- what is marked goes by what stands, and by what the clients own

windows_by : (ℕ → Owned) → List Standing → List Window
windows_by owned standing = windows (λ c. (owned c).surfaces) (λ c. stacked_popups (owned c)) (map (root_of owned) standing)

applied_by : Desktop → (ℕ → Owned) → Applied
applied_by d owned client surface x y =
    (int_le (pos 0) x && int_le (pos 0) y)
    && is_applied_by (history_of d client surface) (history_in surface (owned client).surfaces) (unsigned_abs x) (unsigned_abs y)

same-marks : (raised : Option (ℕ × ℕ)) (d own told : Desktop) (x y : ℤ) → ShowsSame own told
    → (marks_at_least_of all_windows d told x y ≡ marks_at_least_of all_windows d own x y)
    × (marks_at_most_of all_windows d told raised x y ≡ marks_at_most_of all_windows d own raised x y)
unfolding windows_by applied_by
same-marks raised d own told x y same = (
  ap₂ (λ (owned : ℕ → Owned) (standing : List Standing). at_least d.output.width d.output.height (applied_by d owned) (all_windows d) (windows_by owned standing) x y)
      (fun_ext same.owned) same.standing,
  ap₂ (λ (owned : ℕ → Owned) (standing : List Standing). at_most d.output.width d.output.height (applied_by d owned) raised (all_windows d) (windows_by owned standing) x y)
      (fun_ext same.owned) same.standing,
)

-- ---- both in turn

none-or : (a b : Bool) → a ≡ false → b ≡ false → (a || b) ≡ false
none-or a b none none' = ap₂ (λ (x y : Bool). x || y) none none'

any-or : (was mid own later : Bool) → (mid || later) ≡ true → (mid ≡ true → (was || own) ≡ true) → (was || (own || later)) ≡ true
any-or true mid own later h first = refl
any-or false mid true later h first = refl
any-or false false false later h first = h
any-or false true false later h first = absurd (differ (first refl))

-- The step changed d into one where the same is shown as after it was told; then the rounds followed.
module _ (raised : Option (ℕ × ℕ)) (d own : Desktop) (told : Midstep) (shows : ShowsSame own told.desktop) (old : Damaged) (mid new : MarkedDesk) (large : IsAsLarge old mid.damage)
    (change : MarksChange raised d own old mid.damage) (midway : IsMidway mid.desk told) (down : SettlesDown mid new told) where
  abbrev pub path : List Desktop
  path = down.rounds ++ down.last.desktop ∷ []

  pub all : SettlesAllThrough 33 told path down.last.desktop × IsSettled down.last.desktop
  all = rounds-settle down.count 33 told down.mid down.last down.rounds down.few down.each down.settles down.over

  least : (x y : ℤ) → marks_at_least_through all_windows d path x y ≡ (marks_at_least_of all_windows d own x y || marks_at_least_through all_windows told.desktop down.rounds x y)
  least x y =
      ap (λ (ds : List Desktop). marks_at_least_through all_windows d ds x y) all.0.3
      ∙ (marks-own-then-rounds raised d told all.0.0 all.0.2 x y (telling-apart mid.desk told midway.telling) all.0.1).0
      ∙ ap₂ (λ (a b : Bool). a || b) (same-marks raised d own told.desktop x y shows).0
      (sym (ap (λ (ds : List Desktop). marks_at_least_through all_windows told.desktop ds x y) all.0.3)
      ∙ (last-marks-nothing down.count told down.mid down.last down.rounds x y down.distinct down.each down.settles).0)

  most : (x y : ℤ)
      → marks_at_most_through all_windows raised d path x y
      ≡ (marks_at_most_of all_windows d own raised x y || marks_at_most_through all_windows None told.desktop down.rounds x y)
  most x y =
      ap (λ (ds : List Desktop). marks_at_most_through all_windows raised d ds x y) all.0.3
      ∙ (marks-own-then-rounds raised d told all.0.0 all.0.2 x y (telling-apart mid.desk told midway.telling) all.0.1).1
      ∙ ap₂ (λ (a b : Bool). a || b) (same-marks raised d own told.desktop x y shows).1
      (sym (ap (λ (ds : List Desktop). marks_at_most_through all_windows None told.desktop ds x y) all.0.3)
      ∙ (last-marks-nothing down.count told down.mid down.last down.rounds x y down.distinct down.each down.settles).1)

  pub marked : MarksThroughBy raised d path old new.damage
  marked i j wide high =
      let later = down.marks i j (subst (λ (n : ℕ). i < n) (sym large.width) wide) (subst (λ (n : ℕ). j < n) (sym large.height) high) in
      let first = change.0 i j wide high in
      let most-first = change.1 i j wide high in (
        λ clean.
            let then = later.0 clean in
            let before = first then.0 in
            (before.0, least (pos i) (pos j) ∙ none-or _ _ before.1 then.1),
        λ full.
            ap (λ (b : Bool). has old i j || b) (most (pos i) (pos j))
            ∙ any-or (has old i j) (has mid.damage i j) (marks_at_most_of all_windows d own raised (pos i) (pos j))
            (marks_at_most_through all_windows None told.desktop down.rounds (pos i) (pos j)) (later.1 full) most-first,
      )

  -- so it leads to the last of them
  pub own-leads : (h : Happening) → raised ≡ raised_by h d → Leads h d path down.last.desktop → Led (Agrees new.desk) h old new.damage d
  own-leads h up leads = record {
    path = path;
    desktop = down.last.desktop;
    leads = leads;
    agrees = midway-agrees new.desk down.last down.midway down.over all.1;
    marks = subst (λ (up : Option (ℕ × ℕ)). MarksThroughBy up d path old new.damage) up marked;
  }
