use Rattle.std.proofs.Common.{◌∙◌, ap}
use Rattle.strc_stage_core.specs.Parcels.{parcel, with_block}
use Rattle.strc_stage_core.proofs.Loads.{block_set}
use Rattle.strc_stage_core.proofs.parcel.Parcel.clear_block.Goals as goal

pub returns-then-number-len : goal.returns-then-number-len
returns-then-number-len c =
    let mine = c.self.inside in
    let now = c.args.self.now in
    block_set mine.blocks.items mine.words.items mine.stop mine.last now c.self.view_is
    c.args.number c.index_mut.result.now c.clear.new.self c.index_mut.ensures.value
    c.clear.ensures.capacity
    ∙ ap (λ items. parcel (with_block now.load c.args.number items) now.stop now.last)
    c.clear.ensures.items
