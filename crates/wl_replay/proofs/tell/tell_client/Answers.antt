use Rattle.std.proofs.Common.{◌++◌, refl}
use Rattle.std.proofs.KnownBytes.{Appends-trans}
use Rattle.std.proofs.lemmas.Result.{on_ok_weaker}
use Rattle.wl_replay.proofs.tell.tell_client.Goals as goal

pub returns : goal.returns
returns g c =
    on_ok_weaker c.close.result
    (λ closed. λ d agrees.
    let sent = c.in_ok-send.ensures d agrees in
    let ends = closed sent.0 sent.3 in
    (ends.0, sent.1 ++ ends.1, (sent.0, sent.1, ends.1, sent.2, ends.2, refl), ends.3, Appends-trans _ _ _ sent.1 ends.1 sent.4 ends.4))
    c.close.ensures
