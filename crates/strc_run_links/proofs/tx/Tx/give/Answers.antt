use Rattle.crossbeam_channel.specs.Claims.{view}
use Rattle.crossbeam_channel.specs.Ends.{sends_on, ruled_capacity}
use Rattle.strc_run_links.proofs.Rules.{sends}
use Rattle.strc_run_links.proofs.tx.Tx.give.Goals as goal

pub send_as-requires-clause-rule : goal.send_as-requires-clause-rule
send_as-requires-clause-rule g c =
    let tx = c.args.self.now in (
      sends (ruled_capacity (sends_on tx.end)) tx.pass.id (view tx.pass) c.args.parcel tx.role
          tx.room,
      λ _ _ _ _. tt,
    )
