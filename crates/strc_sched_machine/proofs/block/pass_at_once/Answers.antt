use Rattle.strc_sched_rings.specs.Circuits.{circuit_view}
use Rattle.strc_sched_machine.specs.declared.batches.Kind.TheVariants as kind
use Rattle.strc_sched_machine.proofs.Batching.{known_kind, passed_between}
use Rattle.strc_sched_machine.proofs.block.pass_at_once.Goals as goal

pub pass_between-requires-clause-from : goal.pass_between-requires-clause-from
pass_between-requires-clause-from c =
    let circuit = circuit_view c.args.circuit.now in
    let known = known_kind circuit c.args.batch.now
    (kind.Identity c.in-Identity.from c.in-Identity.to) c.requires.batch c.in-Identity.is in
    c.requires.inputs c.args.batch.now.node 0 c.in-Identity.from known.1

pub pass_between-requires-clause-to : goal.pass_between-requires-clause-to
pass_between-requires-clause-to c =
    let circuit = circuit_view c.args.circuit.now in
    let known = known_kind circuit c.args.batch.now
    (kind.Identity c.in-Identity.from c.in-Identity.to) c.requires.batch c.in-Identity.is in
    c.requires.outputs c.args.batch.now.node 0 c.in-Identity.to known.2

pub pass_between-requires-clause-apart : goal.pass_between-requires-clause-apart
pass_between-requires-clause-apart c =
    let circuit = circuit_view c.args.circuit.now in
    let known = known_kind circuit c.args.batch.now
    (kind.Identity c.in-Identity.from c.in-Identity.to) c.requires.batch c.in-Identity.is in
    known.3

pub deal_at_once-requires-clause-apart : goal.deal_at_once-requires-clause-apart
deal_at_once-requires-clause-apart c =
    known_kind (circuit_view c.args.circuit.now) c.args.batch.now kind.Dealer c.requires.batch
    c.in-Dealer.is

pub returns-in-Identity-clause-passed : goal.returns-in-Identity-clause-passed
returns-in-Identity-clause-passed c =
    let circuit = circuit_view c.args.circuit.now in
    let from = c.in-Identity.from in
    let to = c.in-Identity.to in
    let known = known_kind circuit c.args.batch.now (kind.Identity from to) c.requires.batch
    c.in-Identity.is in
    passed_between circuit c.args.batch.now from to c.args.rings.now
    c.pass_between.new.rings c.pass_between.result c.requires.batch c.in-Identity.is
    (c.requires.inputs c.args.batch.now.node 0 from known.1)
    (c.requires.outputs c.args.batch.now.node 0 to known.2) c.pass_between.ensures.all
    c.pass_between.ensures.none
