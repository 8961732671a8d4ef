-- The pointer goes to a point of the output: what it hits then is told of it, and its focus is settled.
use Rattle.std.proofs.Common.{◌≡◌, ◌≢◌, ℕ, List, [], ◌++◌, Bool, true, false, Option, Some, None, refl, ap, ap₂, subst, sym, ◌∙◌}
use Rattle.std.proofs.lemmas.Bool.{eqb-true}
use Rattle.std.proofs.lemmas.Option.{none-some}
use Rattle.std.specs.Prelude.{ℤ, ◌==◌, if◌then◌else◌}
use Rattle.wl_client.specs.Agreement.{output_of}
use Rattle.wl_client.specs.declared.outputs.Output.{Output as Sides}
use Rattle.spec_desktop.specs.Told.{Output}
use Rattle.spec_desktop.specs.Pointer.{Pointer, Target, is_same, is_stacked, settled}
use Rattle.spec_desktop.specs.PointerActions.{PointerAction, GoTo, Went, actions, enter_of, leave_of, motion_of, move_of}
use Rattle.spec_desktop.specs.Windows.{Place, Window}
use Rattle.wl_scene.specs.Focus.{IsSeen}
use Rattle.wl_paint.specs.Damage.{Damaged}
use Rattle.wl_scene.specs.Marking.{IsAsLarge}
use Rattle.spec_desktop.specs.declared.answers.Done.TheVariants as gave
use Rattle.spec_desktop.specs.Act.{Motion}
use Rattle.spec_desktop.specs.Desktop.{Desktop, unpointed}
use Rattle.spec_desktop.specs.Happenings.{Single}
use Rattle.spec_desktop.specs.Happens.{placed, point_in, within}
use Rattle.spec_desktop.specs.Pointing.{motion_told}
use Rattle.spec_desktop.specs.Replies.{focus_window}
use Rattle.spec_desktop.specs.Settling.{AppliesAll, Midstep, PointerActs, unstruck, with_standing}
use Rattle.spec_desktop.specs.Stacked.{all_windows}
use Rattle.law_desktop.proofs.Runs.Settled.{HasFocus, ShowsSame, has-settled, shows-itself, tells-so, went-settled}
use Rattle.law_desktop.specs.Pointed.Pointed.{MovedStands}
use Rattle.law_desktop.proofs.PointerAside.Rounds.{motions-end}
use Rattle.law_desktop.proofs.Truth.{and-left, and-right, differ}
use Rattle.law_desktop.proofs.Lists.Each.{Each}
use Rattle.wl_clients.specs.Agreeing.{Agrees as KeptAgrees}
use Rattle.wl_clients.specs.Leading.{Led}
use Rattle.wl_clients.specs.declared.grabs.Latest.{Latest}
use Rattle.wl_clients.specs.View.{MarkedDesk as KeptDesk}
use Rattle.wl_desk.specs.Agreeing.{Agrees, LeadsBy}
use Rattle.wl_desk.specs.Midway.{IsMidway, IsOfFocus, IsTelling, SettlesDown}
use Rattle.wl_clients.specs.Raising.{MarksChange}
use Rattle.wl_desk.specs.Restacking.{HasNumber, first_dragged, first_moved}
use Rattle.wl_desk.specs.View.{DeskView, MarkedDesk}
use Rattle.wl_desk.specs.Ways.{EndsFrom}
use Rattle.wl_desk.proofs.Calls.{desk_with}
use Rattle.wl_desk.proofs.OwnChange.{all, own-leads, path}
use Rattle.wl_desk.proofs.Placed.{acts-stand}
use Rattle.wl_desk.proofs.Points.{settled-stacked}
use Rattle.wl_desk.proofs.Presses.{begins-telling, number-on}
use Rattle.wl_desk.proofs.Restacking.{moved-number}
use Rattle.wl_desk.proofs.Telling.{telling-same}

-- ---- the pointer went

same-target : (s t : Option Target) → is_same s t ≡ true → s ≡ t
same-target None None e = refl
same-target None (Some t) e = absurd (differ e)
same-target (Some s) None e = absurd (differ e)
same-target (Some s) (Some t) e =
    ap₂ (λ (c surface : ℕ). Some (record { client = c; surface = surface })) (eqb-true s.client t.client (and-left (s.client == t.client) (s.surface == t.surface) e))
    (eqb-true s.surface t.surface (and-right (s.client == t.client) (s.surface == t.surface) e))

stays-so : (old new : Midstep) → new ≡ old → HasFocus old.desktop.pointer.focus old new
stays-so old new same = record {
  pointer = ap (λ (m : Midstep). m.desktop.pointer) same;
  shows = shows-itself old.desktop new.desktop (ap (λ (m : Midstep). m.desktop) same);
}

-- Its focus is what it settles to, and what is shown stays.
pub has-went : (time : ℕ) (old new : Midstep) → PointerActs (Went time) old new → HasFocus (settled old.desktop.pointer (all_windows old.desktop)) old new
has-went time old new h = at (is_same p.focus to) refl h
  where
    ws : List Window
    ws = all_windows old.desktop

    p : Pointer
    p = old.desktop.pointer

    to : Option Target
    to = settled p ws

    kept : (moved focus : Option Target) → AppliesAll ws (motion_of time moved focus) old new → HasFocus p.focus old new
    kept moved None h = stays-so old new h
    kept (Some moved) (Some t) h = stays-so old new h
    kept None (Some t) h =
        subst (λ (m : Midstep). HasFocus p.focus old m) (sym h.2)
        (tells-so (λ r. r) (motion_told time p.place (focus_window (Some t) ws)) (λ r. refl) t.client old h.0 h.1)

    at : (b : Bool) → is_same p.focus to ≡ b → AppliesAll ws (if b then motion_of time p.move p.focus else leave_of p.focus ++ enter_of to) old new → HasFocus to old new
    at true e h = subst (λ (t : Option Target). HasFocus t old new) (same-target p.focus to e) (kept p.move p.focus h)
    at false e h = has-settled old new (subst (λ (b : Bool). AppliesAll ws (if b then [] else leave_of p.focus ++ enter_of to) old new) (sym e) h)

-- ---- what is told where a pointer went

module _ (time : ℕ) (p : Pointer) (ws : List Window) where
  turns-each : (s t : Option Target) → ((u : Target) → t ≡ Some u → is_stacked u ws ≡ true) → Each (IsOfFocus ws) (leave_of s ++ enter_of t)
  turns-each None None h = tt
  turns-each None (Some t) h = (h t refl, tt)
  turns-each (Some s) None h = (tt, tt)
  turns-each (Some s) (Some t) h = (tt, (h t refl, tt))

  stays-each : (moved focus : Option Target) → ((u : Target) → focus ≡ Some u → is_stacked u ws ≡ true) → Each (IsOfFocus ws) (motion_of time moved focus)
  stays-each moved None h = tt
  stays-each None (Some t) h = (h t refl, tt)
  stays-each (Some moved) (Some t) h = tt

  -- so has one that it is told of
  pub went-each : Each (IsOfFocus ws) (actions (Went time) p ws)
  went-each = at (is_same p.focus (settled p ws)) refl
    where
      at : (b : Bool) → is_same p.focus (settled p ws) ≡ b → Each (IsOfFocus ws) (if b then motion_of time p.move p.focus else leave_of p.focus ++ enter_of (settled p ws))
      at true e = stays-each p.move p.focus (λ u is. settled-stacked p ws u (sym (same-target p.focus (settled p ws) e) ∙ is))
      at false e = turns-each p.focus (settled p ws) (settled-stacked p ws)

-- ---- a toplevel goes along

-- the pointer moves what it has moved
dragged-so : (ws : List Window) (from : Option Place) (to : Place) (moved : Option Target) (m : Midstep)
    → AppliesAll ws (move_of from to moved) m (with_standing (first_dragged (move_of from to moved) m.desktop.standing) m)
dragged-so ws None to moved m = refl
dragged-so ws (Some from) to None m = refl
dragged-so ws (Some from) to (Some t) m = (with_standing (first_dragged (move_of (Some from) to (Some t)) m.desktop.standing) m, refl, refl)

dragged-number : (v : DeskView) (from : Option Place) (to : Place) (moved : Option Target) → HasNumber v moved → HasNumber v (first_moved (move_of from to moved))
dragged-number v None to moved h = tt
dragged-number v (Some from) to None h = tt
dragged-number v (Some from) to (Some t) h = h

-- ---- a motion

module _ (time : ℕ) (x y : ℤ) (d : Desktop) (v : DeskView) (a : Agrees v d) where
  abbrev pub there : Place
  there = point_in d.output x y

  abbrev pub pointer : Pointer
  pointer = record d.pointer { place = Some there }

  -- the pointer is there, and nothing has gone along yet
  abbrev pub begun : Midstep
  begun = unstruck (record d { pointer = pointer })

  -- what is moved has gone along
  abbrev pub gone : Midstep
  gone = with_standing (first_dragged (move_of d.pointer.place there d.pointer.move) d.standing) (unstruck d)

  abbrev pub moved : Midstep
  moved = placed there gone

  abbrev pub ws : List Window
  ws = all_windows moved.desktop

  goes : PointerActs (GoTo there) (unstruck d) gone
  goes = dragged-so (all_windows d) d.pointer.place there d.pointer.move (unstruck d)

  pub is-each : Each (IsOfFocus ws) (actions (Went time) pointer ws)
  is-each = went-each time pointer ws

  -- it is in the middle of the step when nobody has been told yet
  pub moved-midway : (w : DeskView) → IsTelling w moved → w.pointer ≡ pointer → IsMidway w moved
  moved-midway w telling is = record {
    telling = telling;
    pointer = is;
    placed = record { nowhere = λ none. absurd (none-some there (sym none)); moved = acts-stand (GoTo there) (unstruck d) gone goes a.placed.moved };
  }

  -- and when somebody has
  pub is-midway : (w : DeskView) (n : Midstep) → MovedStands moved.desktop → PointerActs (Went time) moved n → IsTelling w n → w.pointer ≡ record pointer { focus = settled pointer ws } → IsMidway w n
  is-midway w n stands acts telling is =
      let has = has-went time moved n acts in
      let place : n.desktop.pointer.place ≡ Some there = ap (λ (p : Pointer). p.place) has.pointer in
      record {
        telling = telling;
        pointer = is ∙ sym has.pointer;
        placed = record { nowhere = λ none. absurd (none-some there (sym none ∙ place)); moved = acts-stand (Went time) moved n acts stands };
      }

  module _ (old : Damaged) (mid new : MarkedDesk) (n : Midstep) (acts : PointerActs (Went time) moved n) (midway : IsMidway mid.desk n) (large : IsAsLarge old mid.damage)
      (change : MarksChange None d moved.desktop old mid.damage) (down : SettlesDown mid new n) where
    shows : ShowsSame moved.desktop n.desktop
    shows = (has-went time moved n acts).shows

    abbrev way : List Desktop
    way = path None d moved.desktop n shows old mid new large change midway down

    pub motion-leads : Led (Agrees new.desk) (Single (Motion time x y) gave.Motion) old new.damage d
    motion-leads =
        own-leads None d moved.desktop n shows old mid new large change midway down (Single (Motion time x y) gave.Motion) refl
        (refl, (gone, goes, n, acts, (motions-end time moved n way down.last.desktop acts (all None d moved.desktop n shows old mid new large change midway down).0).1))

-- ---- a motion of a desk

abbrev pub place_at : ℤ → ℤ → Place
place_at i j = record { x = i; y = j }

-- a point held within the output that is kept is held within that of the desktop
pub point-held : (k : KeptDesk) (o : Sides) (x y i j : ℤ) → o ≡ k.desk.output → i ≡ within o.width x → j ≡ within o.height y → (d : Desktop) → KeptAgrees k.desk d
    → place_at i j ≡ point_in d.output x y
point-held k o x y i j same wide high d a =
    let output : output_of o ≡ d.output = ap (λ (s : Sides). output_of s) same ∙ a.matches.output in
    ap₂ place_at (wide ∙ ap (λ (b : Output). within b.width x) output) (high ∙ ap (λ (b : Output). within b.height y) output)

pub moves : (time : ℕ) (x y : ℤ) (k : KeptDesk) (seats : List (List ℕ)) (latest : List Latest) (p p1 p2 : Pointer) (at : Place) (drags : List PointerAction) (hit : Option Target) (stacked : Bool)
    (does : List PointerAction) (gone-along told new : MarkedDesk)
    → ((d : Desktop) → KeptAgrees k.desk d → at ≡ point_in d.output x y) → p1 ≡ record p { place = Some at } → drags ≡ move_of p.place at p.move
    → ((m : Midstep) → IsTelling (desk_with k seats latest p1).desk m → HasNumber (desk_with k seats latest p1).desk (first_moved drags)
    → IsTelling gone-along.desk (with_standing (first_dragged drags m.desktop.standing) m))
    → ((m : Midstep) → IsTelling (desk_with k seats latest p1).desk m → HasNumber (desk_with k seats latest p1).desk (first_moved drags)
    → MarksChange None m.desktop (with_standing (first_dragged drags m.desktop.standing) m).desktop k.damage gone-along.damage)
    → IsAsLarge k.damage gone-along.damage → gone-along.desk.pointer ≡ p1
    → ((m : Midstep) → IsMidway gone-along.desk m → IsSeen hit stacked m.desktop.pointer (all_windows m.desktop))
    → ((ws : List Window) → IsSeen hit stacked gone-along.desk.pointer ws → does ≡ actions (Went time) gone-along.desk.pointer ws)
    → ((ws : List Window) → IsSeen hit stacked gone-along.desk.pointer ws → p2 ≡ record gone-along.desk.pointer { focus = settled gone-along.desk.pointer ws })
    → ((m : Midstep) → IsTelling (record gone-along.desk { pointer = p2 }) m → m.desktop.pointer.place ≢ None → Each (IsOfFocus (all_windows m.desktop)) does
    → (n : Midstep) × AppliesAll (all_windows m.desktop) does m n × IsTelling told.desk n)
    → told.desk.pointer ≡ p2 → told.damage ≡ gone-along.damage → EndsFrom told new
    → LeadsBy (Single (Motion time x y) gave.Motion) (desk_with k seats latest p) new
moves time x y k seats latest p p1 p2 at drags hit stacked does gone-along told new place goes drag along marks large same seen acts keeps tells stays damage settles d a =
    let v : DeskView = (desk_with k seats latest p).desk in
    let to : Pointer = pointer time x y d v a in
    let windows : List Window = ws time x y d v a in
    let start : Midstep = begun time x y d v a in
    let mid : Midstep = moved time x y d v a in
    let here : at ≡ there time x y d v a = place (unpointed d) a.kept in
    let first : p1 ≡ to = goes ∙ ap₂ (λ (q : Pointer) (b : Place). record q { place = Some b }) a.pointer here in
    let telling : IsTelling (desk_with k seats latest p1).desk start = begins-telling k seats latest p p1 to d a (ap (λ (q : Pointer). q.place) first) in
    let target : Place = there time x y d v a in
    let so : drags ≡ move_of d.pointer.place target d.pointer.move = drag ∙ ap₂ (λ (q : Pointer) (b : Place). move_of q.place b q.move) a.pointer here in
    let number : HasNumber (desk_with k seats latest p1).desk (first_moved drags) =
    subst (λ (xs : List PointerAction). HasNumber (desk_with k seats latest p1).desk (first_moved xs)) (sym so)
    (dragged-number (desk_with k seats latest p1).desk d.pointer.place target d.pointer.move (number-on v (desk_with k seats latest p1).desk d.pointer.move refl (moved-number v d a))) in
    let went : IsTelling gone-along.desk mid =
    subst (λ (xs : List PointerAction). IsTelling gone-along.desk (with_standing (first_dragged xs d.standing) start)) so (along start telling number) in
    let midway : IsMidway gone-along.desk mid = moved-midway time x y d v a gone-along.desk went (same ∙ first) in
    let second : gone-along.desk.pointer ≡ to = same ∙ first in
    let is-seen : IsSeen hit stacked gone-along.desk.pointer windows = subst (λ (q : Pointer). IsSeen hit stacked q windows) (sym second) (seen mid midway) in
    let done : does ≡ actions (Went time) to windows = acts windows is-seen ∙ ap (λ (q : Pointer). actions (Went time) q windows) second in
    let after : p2 ≡ record to { focus = settled to windows } = keeps windows is-seen ∙ ap (λ (q : Pointer). record q { focus = settled q windows }) second in
    let t = tells mid (telling-same gone-along.desk (record gone-along.desk { pointer = p2 }) mid refl (ap (λ (q : Pointer). q.place) after ∙ sym (ap (λ (q : Pointer). q.place) second)) refl refl went)
    (λ none. none-some (there time x y d v a) (sym none)) (subst (λ (xs : List PointerAction). Each (IsOfFocus windows) xs) (sym done) (is-each time x y d v a)) in
    let told-so : PointerActs (Went time) mid t.0 = subst (λ (xs : List PointerAction). AppliesAll windows xs mid t.0) done t.1 in
    let midway-told : IsMidway told.desk t.0 = is-midway time x y d v a told.desk t.0 midway.placed.moved told-so t.2 (stays ∙ after) in
    let size : IsAsLarge k.damage told.damage = subst (λ (dmg : Damaged). IsAsLarge k.damage dmg) (sym damage) large in
    let change : MarksChange None d mid.desktop k.damage told.damage =
    subst (λ (dmg : Damaged). MarksChange None d mid.desktop k.damage dmg) (sym damage)
    (subst (λ (xs : List PointerAction). MarksChange None d (with_standing (first_dragged xs d.standing) start).desktop k.damage gone-along.damage) so
    (marks start telling number)) in
    motion-leads time x y d v a k.damage told new t.0 told-so midway-told size change (settles t.0 midway-told (went-settled time mid t.0 told-so))
