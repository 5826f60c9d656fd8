use Rattle.std.proofs.Common.{◌++◌, ap}
use Rattle.crossbeam_channel.specs.Claims.{view}
use Rattle.strc_run_links.specs.declared.view.Log.{Log}
use Rattle.strc_run_links.specs.Ends.{sent_by, got_by, room_of}
use Rattle.strc_run_links.proofs.Rules.{merges, gets, totals, drained, few}
use Rattle.strc_run_links.proofs.link_pair.close.Goals as goal

pub absorb-requires-clause-rule : goal.absorb-requires-clause-rule
absorb-requires-clause-rule g c =
    let tx = c.args.tx in
    let rx = c.args.rx in
    merges tx.pass.id (view tx.pass) rx.pass.id (view rx.pass) tx.role rx.role

pub try_recv_as-requires-clause-rule : goal.try_recv_as-requires-clause-rule
try_recv_as-requires-clause-rule g c =
    let pass = c.loop.pass in
    let is = c.loop.invariant.1 in
    let takes = ap (λ (v : Log). v.takes) is in (
      gets pass.id (view pass) takes,
      totals pass.id (view pass) (ap (λ (v : Log). v.sends) is) takes,
    )

pub returns-in-Err-clause-room : goal.returns-in-Err-clause-room
returns-in-Err-clause-room g c =
    let tx = c.args.tx in
    let rx = c.args.rx in
    let left = c.loop.left.items in
    few (view c.absorb.new.pass) (room_of tx) (sent_by tx) (got_by rx) left
    c.reserve.new.self.items c.absorb.ensures.rule c.learn_as.ensures.rule
    (drained (view c.loop.pass) (room_of tx) (sent_by tx) (got_by rx ++ left)
    c.loop.invariant.1 c.in-Err.ensures.rule.1)
    c.reserve.ensures.items
