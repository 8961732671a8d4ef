use Rattle.std.proofs.Common.{◌≡◌, ◌++◌, ℕ, List, [], true, false, Some, ap, map, sym, ◌∙◌, arith}
use Rattle.std.proofs.lemmas.List.{append-nil}
use Rattle.wl_scene.specs.Roots.{is_past, roots_done, told_root}
use Rattle.wl_scene.proofs.Popups.{past-number}
use Rattle.wl_scene.proofs.Rooted.{continues, done-none, left-less, stacked-all, stacked-next}
use Rattle.wl_scene.proofs.roots.add_popups.Goals as goal
use Rattle.spec_desktop.specs.Windows.{Root}
use Rattle.wl_shell.specs.Kept.{kept_of}

pub loop-surface-init : goal.loop-surface-init
loop-surface-init g c = record {
  told = λ o toplevel had held rising at len items. items ∙ ap (λ (rs : List Root). had ++ map told_root rs) (sym (done-none o toplevel));
  more = ([], sym (append-nil c.args.roots.now.items));
  capacity = omega arith;
}

pub returns-in_err-add_popup-clause-more : goal.returns-in_err-add_popup-clause-more
returns-in_err-add_popup-clause-more g c =
    continues c.args.roots.now.items c.loop-surface.roots.items c.add_popup.new.roots.items c.loop-surface.invariant.more c.in_err-add_popup.ensures.more

pub returns-in_err-add_popup-clause-succeeds : goal.returns-in_err-add_popup-clause-succeeds
returns-in_err-add_popup-clause-succeeds g c = λ o toplevel had held rising at len items fits.
    let owned = c.args.owned.now in
    let last = c.loop-surface.last in
    let next = stacked-next owned.surfaces.states owned.surfaces.family owned.shell o held rising toplevel at last c.in-Some.surface c.in-Some.ensures in
    let told = c.loop-surface.invariant.told o toplevel had held rising at len items in
    let less = next.1.fits in
    let room = c.loop-surface.invariant.capacity in
    absurd (
    let no : false ≡ true = c.in_err-add_popup.ensures.succeeds o next.0 (roots_done o toplevel last) had held next.1.only next.1.are_at len told (omega (arith, fits, less, room)) in
    cc
    )

pub loop-surface-smaller : goal.loop-surface-smaller
loop-surface-smaller g c =
    let last = c.loop-surface.last in
    let past : is_past last c.number_of.result ≡ true =
    ap (is_past last) c.number_of.ensures ∙ past-number (kept_of c.args.owned.now.shell) last c.in-Some.surface c.in-Some.ensures in
    left-less last c.number_of.result past (omega arith)

pub loop-surface-preserved : goal.loop-surface-preserved
loop-surface-preserved g c = record {
  told = λ o toplevel had held rising at len items.
      let owned = c.args.owned.now in
      let last = c.loop-surface.last in
      let next = stacked-next owned.surfaces.states owned.surfaces.family owned.shell o held rising toplevel at last c.in-Some.surface c.in-Some.ensures in
      let told = c.loop-surface.invariant.told o toplevel had held rising at len items in
      c.in_ok-add_popup.ensures.ok o next.0 (roots_done o toplevel last) had held next.1.only next.1.are_at len told
      ∙ ap (λ (rs : List Root). had ++ map told_root rs) (sym (ap (λ (n : ℕ). roots_done o toplevel (Some n)) c.number_of.ensures ∙ next.1.roots));
  more = continues c.args.roots.now.items c.loop-surface.roots.items c.add_popup.new.roots.items c.loop-surface.invariant.more c.in_ok-add_popup.ensures.more;
  capacity = omega (arith, c.loop-surface.invariant.capacity, c.in_ok-add_popup.ensures.capacity);
}

pub returns-clause-ok : goal.returns-clause-ok
returns-clause-ok g c = λ o toplevel had held rising at len items.
    let owned = c.args.owned.now in
    c.loop-surface.invariant.told o toplevel had held rising at len items
    ∙ ap (λ (rs : List Root). had ++ map told_root rs)
    (stacked-all owned.surfaces.states owned.surfaces.family owned.shell o held rising toplevel at c.loop-surface.last c.in_default.ensures)
