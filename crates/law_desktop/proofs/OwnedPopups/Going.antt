-- A popup goes as the shell answers.
use Rattle.law_desktop.specs.OwnedPopups.{PopupsGo}
use Rattle.law_desktop.proofs.OwnedPopups.Coming.{popup-gone}
use Rattle.law_desktop.proofs.OwnedPopups.Finding.{end-asked}

pub popups-go : PopupsGo
popups-go = record { asked = end-asked; gone = popup-gone }
