-- What a press dismisses, as the desk does it.
use Rattle.std.proofs.Common.{ℕ, Option, Some, None, ap, inl}
use Rattle.spec_desktop.specs.Desktop.{unpointed}
use Rattle.spec_desktop.specs.Settling.{Midstep}
use Rattle.wl_clients.proofs.OnScreen.Pressed.{Dismissed, dismissed-told}
use Rattle.wl_desk.specs.Releasing.{Releases}

-- the popups of a client with a grab, or none, whatever the pointer
pub dismissed-so : (holder : Option ℕ) (m n : Midstep) → Releases holder m n → Dismissed (unpointed m.desktop) (unpointed n.desktop)
dismissed-so None m n same = inl (ap (λ (x : Midstep). unpointed x.desktop) same)
dismissed-so (Some c) m n tells = dismissed-told c m n tells
