use Rattle.std.proofs.Common.{arith}
use Rattle.strc_stage_core.proofs.Loads.{filled_is}
use Rattle.strc_stage_core.proofs.parcel.Parcel.fill_within.Goals as goal

pub returns-then-number-len : goal.returns-then-number-len
returns-then-number-len c =
    let mine = c.self.inside in
    filled_is mine.blocks.items mine.words.items mine.stop mine.last c.args.self.now
    c.self.view_is c.args.number c.index_mut.result.now c.append_most.new.list
    c.args.items.now (omega (arith, c.if-number-len.true, mine.blocks.ok.0))
    c.index_mut.ensures.value c.append_most.ensures.capacity c.append_most.ensures.items
