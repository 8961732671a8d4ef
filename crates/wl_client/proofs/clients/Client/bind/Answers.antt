use Rattle.std.proofs.Common.{ap, sym, ◌∙◌}
use Rattle.wl_proto.specs.declared.interface.Interface.TheVariants.{WlOutput}
use Rattle.wl_client.specs.Agreement.{output_of}
use Rattle.spec_desktop.specs.Told.{bind_told}
use Rattle.wl_client.proofs.Peers.{WantsOr-told, bind_told-nothing}
use Rattle.wl_client.proofs.clients.Client.bind.Goals as goal

pub returns-in-WlShm-clause-acts : goal.returns-in-WlShm-clause-acts
returns-in-WlShm-clause-acts g c = λ p is.
    let seen = is in
    let next = c.make.ensures.makes p seen in
    let told = c.formats_told.ensures (output_of c.args.self.now.output) ∙ ap (λ i. bind_told (output_of c.args.self.now.output) c.args.id i) (sym c.in-WlShm.is) in
    (next.0, WantsOr-told _ _ p _ next.0 (told ∙ ap (λ o. bind_told o c.args.id c.args.interface) seen.output) next.1, next.2)

pub returns-in-WlSeat-clause-acts : goal.returns-in-WlSeat-clause-acts
returns-in-WlSeat-clause-acts g c = λ p is.
    let seen = is in
    let next = c.make-in-WlSeat.ensures.makes p seen in
    let told = c.capabilities_told.ensures (output_of c.args.self.now.output) ∙ ap (λ i. bind_told (output_of c.args.self.now.output) c.args.id i) (sym c.in-WlSeat.is) in
    (next.0, WantsOr-told _ _ p _ next.0 (told ∙ ap (λ o. bind_told o c.args.id c.args.interface) seen.output) next.1, next.2)

pub returns-in-WlOutput-clause-acts : goal.returns-in-WlOutput-clause-acts
returns-in-WlOutput-clause-acts g c = λ p is.
    let seen = is in
    let next = c.make-in-WlOutput-2.ensures.makes p seen in
    let told = c.output_told.ensures ∙ ap (λ v. bind_told (output_of v.output) c.args.id WlOutput) c.make-in-WlOutput.view_is
    ∙ ap (λ i. bind_told (output_of c.args.self.now.output) c.args.id i) (sym c.in-WlOutput.is) in
    (next.0, WantsOr-told _ _ p _ next.0 (told ∙ ap (λ o. bind_told o c.args.id c.args.interface) seen.output) next.1, next.2)

pub returns-in_default : goal.returns-in_default
returns-in_default g c = record {
  acts = λ p is.
      let seen = is in
      let next = c.make-in_default.ensures.makes p seen in
      let nothing = bind_told-nothing (output_of c.args.self.now.output) c.args.id c.args.interface c.in_default.not-WlShm c.in_default.not-WlSeat c.in_default.not-WlOutput in
      (next.0, WantsOr-told _ _ p _ next.0 ((sym nothing) ∙ ap (λ o. bind_told o c.args.id c.args.interface) seen.output) next.1, next.2);
  table = c.make-in_default.ensures.table;
  rest = c.make-in_default.ensures.rest;
}
