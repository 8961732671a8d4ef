-- The laws by which a message is served: on which ways it leads, what is marked there, and how what its client owns stays in order.
use Rattle.law_windows.specs.Grabs.Marks.{DismissalMarks}
use Rattle.law_windows.specs.Grabs.Windows.{DismissedStaysShown, DismissedWindowsGo}
use Rattle.law_desktop.specs.NamedPopups.{RisingNamed}
use Rattle.law_desktop.specs.OrderedLaws.{DemandsKeepOrdered, MessagesKeepOrdered, OrderedHasOrder}
use Rattle.law_desktop.specs.Marked.{MarksByTreesBetween}
use Rattle.law_desktop.specs.WaysLaws.{EndedIsGone, GoneMarksLeast, GoneMarksMost, GoneWindows, MessagesLeadSo, StruckMarks, TwiceMarks}

pub record MessageLaws : Type 0 where
  pub lead : MessagesLeadSo
  pub ended : EndedIsGone
  pub windows : GoneWindows
  pub least : GoneMarksLeast
  pub most : GoneMarksMost
  pub twice : TwiceMarks
  pub struck : StruckMarks
  pub between : MarksByTreesBetween
  pub order : OrderedHasOrder
  pub demands : DemandsKeepOrdered
  pub messages : MessagesKeepOrdered
  pub rising : RisingNamed

-- The laws by which popups with a grab are dismissed: which windows go, what is marked of them, and in which order a client's popups are.
pub record ReleaseLaws : Type 0 where
  pub windows : DismissedWindowsGo
  pub shown : DismissedStaysShown
  pub marks : DismissalMarks
  pub order : OrderedHasOrder
