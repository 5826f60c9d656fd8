use Rattle.crossbeam_channel.specs.Claims.{view}
use Rattle.strc_run_links.proofs.Rules.{gets}
use Rattle.strc_run_links.proofs.rx.Rx.take.Goals as goal

pub recv_as-requires-clause-rule : goal.recv_as-requires-clause-rule
recv_as-requires-clause-rule g c =
    let rx = c.args.self.now in
    (gets rx.pass.id (view rx.pass) rx.role, λ _ _ _ _. tt)
