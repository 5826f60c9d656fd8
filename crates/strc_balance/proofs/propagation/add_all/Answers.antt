use Rattle.std.proofs.Common.{get_or, take, sym, subst, arith}
use Rattle.std.proofs.lemmas.List.{take_more}
use Rattle.strc_balance.specs.Frontiers.{Adds}
use Rattle.strc_balance.proofs.Frontiers.{adds_none, adds_one}
use Rattle.strc_balance.proofs.propagation.add_all.Goals as goal

pub loop-channel-init : goal.loop-channel-init
loop-channel-init c = adds_none c.args.frontier.now

pub loop-channel-preserved : goal.loop-channel-preserved
loop-channel-preserved c =
    let channels = c.args.channels.now in
    let i = c.loop-channel.channel-index in
    let old = c.args.frontier.now in
    let new = c.add.new.self in
    subst (λ l. Adds l old new) (sym (take_more channels i 0 (omega arith)))
    (adds_one (take i channels) old c.loop-channel.frontier new (get_or channels i 0)
    c.loop-channel.invariant c.in_ok-add.ensures)
