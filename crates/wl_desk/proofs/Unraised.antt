-- Nothing but a press raises a toplevel.
use Rattle.std.proofs.Common.{◌≡◌, ℕ, List, true, Option, None, refl, ap, subst, sym, inl, inr}
use Rattle.std.proofs.lemmas.Bool.{true≢false}
use Rattle.wl_paint.specs.Damage.{Damaged}
use Rattle.spec_desktop.specs.declared.answers.Done.{Done}
use Rattle.spec_desktop.specs.Act.{Act, Connect, Feed, Store, Leave, Tick, Send, Close, Motion, Button}
use Rattle.spec_desktop.specs.Desktop.{Desktop}
use Rattle.spec_desktop.specs.Happenings.{Happening, Message, Receive, Single, Starve}
use Rattle.spec_desktop.specs.Through.{raised_in}
use Rattle.law_desktop.specs.Pointed.Happenings.{IsEndOf, is_quiet, is_quiet_act}
use Rattle.wl_clients.specs.Leading.{raised_by}
use Rattle.wl_clients.specs.Marking.{MarksThrough, MarksThroughBy}

-- a client ends
pub end-unraised : (c : ℕ) (h : Happening) (d : Desktop) → IsEndOf c h → raised_by h d ≡ None
end-unraised c h d (inl is) = ap (λ (x : Happening). raised_by x d) is
end-unraised c h d (inr is) = ap (λ (x : Happening). raised_by x d) is

act-unraised : (act : Act) (done : Done) (d : Desktop) → is_quiet_act act done ≡ true → raised_in act d ≡ None
act-unraised (Button time button pressed) done d quiet = absurd (true≢false (sym quiet))
act-unraised act done d quiet = refl

-- nobody is told and nobody ends
pub quiet-unraised : (h : Happening) (d : Desktop) → is_quiet h ≡ true → raised_by h d ≡ None
quiet-unraised (Single act done) d quiet = act-unraised act done d quiet
quiet-unraised h d quiet = refl

-- where no press raised any, what is marked is so
pub marks-unraised : (raised : Option (ℕ × ℕ)) (d : Desktop) (path : List Desktop) (old new : Damaged) → raised ≡ None → MarksThroughBy raised d path old new → MarksThrough d path old new
marks-unraised raised d path old new none marks = subst (λ (r : Option (ℕ × ℕ)). MarksThroughBy r d path old new) none marks

pub marks-raised : (raised : Option (ℕ × ℕ)) (d : Desktop) (path : List Desktop) (old new : Damaged) → raised ≡ None → MarksThrough d path old new → MarksThroughBy raised d path old new
marks-raised raised d path old new none marks = subst (λ (r : Option (ℕ × ℕ)). MarksThroughBy r d path old new) (sym none) marks
