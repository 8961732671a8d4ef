use Rattle.wl_server.proofs.sharing.share_all.Goals as goal

pub returns : goal.returns
returns g c = (c.share-share.result.paid, c.share-share.ensures, c.share_each.ensures)
