use Rattle.std.proofs.Common.{◌∙◌, ap, map}
use Rattle.std.proofs.lemmas.List.{take_all}
use Rattle.strc_sched_rings.specs.Circuits.{source_of}
use Rattle.strc_sched_rings.proofs.CircuitPorts.{map_more}
use Rattle.strc_sched_rings.proofs.circuit.sources_of.Goals as goal

pub loop-channel-init : goal.loop-channel-init
loop-channel-init c = c.in_ok-ends.ensures.items

pub loop-channel-preserved : goal.loop-channel-preserved
loop-channel-preserved c =
    c.in_ok-push.ensures.items
    ∙ map_more source_of c.args.channels.now c.loop-channel.channel-index c.channel-item.result
    c.loop-channel.ends.items c.loop-channel-test.true c.channel-item.is c.loop-channel.invariant

pub returns : goal.returns
returns c =
    c.loop-channel.invariant
    ∙ ap (map source_of)
    (take_all c.loop-channel.channel-index c.args.channels.now c.loop-channel-test.false)
