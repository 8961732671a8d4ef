-- What is found of popups is what comes next in order of creation.
use Rattle.wl_shell.specs.InOrder.{PopupsFollow}
use Rattle.wl_shell.proofs.Following.{after_found, first_found, next_found, next_stands}
use Rattle.wl_shell.proofs.Grabbing.{grabbing_found}

pub popups_follow : PopupsFollow
popups_follow = record {
  first = first_found;
  after = after_found;
  next = next_found;
  grabbing = grabbing_found;
  stands = next_stands;
}
