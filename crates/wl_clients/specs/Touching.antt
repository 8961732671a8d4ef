-- Which messages leave what points hit as it was.
use Rattle.std.specs.Prelude.{ℕ, ℤ, ◌≡◌, List, None}
use Rattle.spec_desktop.specs.Desktop.{Desktop, status_in}
use Rattle.spec_desktop.specs.Happenings.{Leads, Message}
use Rattle.spec_desktop.specs.Pointer.{Target, is_stacked, target_of}
use Rattle.spec_desktop.specs.Stacked.{all_windows}
use Rattle.spec_desktop.specs.Windows.{hit}
use Rattle.wl_clients.specs.Agreeing.{Agrees}
use Rattle.wl_clients.specs.View.{DeskView}

-- Each point hits the same surface on both desktops, and the same surfaces have windows.
pub record HitsStay (d e : Desktop) : Type 0 where
  pub hit : (x y : ℤ) → target_of (hit x y (all_windows e)) ≡ target_of (hit x y (all_windows d))
  pub stacked : (t : Target) → is_stacked t (all_windows e) ≡ is_stacked t (all_windows d)

-- So it is wherever the first message of this client led, if the client lives on there and what is kept agrees with it.
abbrev pub ChangesNoHit : ℕ → DeskView → Desktop → Type 0
ChangesNoHit c new d =
    (path : List Desktop) (e : Desktop) → Leads (Message c) d path e → Agrees new e → status_in c e ≡ None → HitsStay d e
