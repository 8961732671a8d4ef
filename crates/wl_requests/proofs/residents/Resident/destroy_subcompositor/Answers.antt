use Rattle.std.proofs.Common.{inr, refl}
use Rattle.std.specs.Prelude.{Ok}
use Rattle.wl_proto.specs.declared.interface.Interface.TheVariants.{WlSubcompositor}
use Rattle.spec_desktop.specs.Ask.{EndObject}
use Rattle.spec_desktop.specs.Desktop.{Resident}
use Rattle.wl_requests.proofs.Shelling.{counted-does, object-held}
use Rattle.wl_requests.proofs.Meeting.{as-asked}
use Rattle.wl_requests.proofs.residents.Resident.destroy_subcompositor.Goals as goal

pub returns-clause-answers : goal.returns-clause-answers
returns-clause-answers g c = λ here client r on is only.
    as-asked _ _ client on r only (Ok (EndObject c.args.object)) (
    let v = c.args.self.now in
    counted-does v (record v { client = c.count.new.self }) c.end_object.new.self r (λ (q : Resident). EndObject c.args.object) is c.count.ensures.only refl refl
    (c.count.ensures.counts r.peer is.peer)
    refl
    (c.end_object.ensures.does (inr (object-held WlSubcompositor v.client c.count.new.self c.args.object c.count.ensures.only here))))
