use Rattle.std.proofs.Common.{◌++◌, ◌∙◌, ap, sym}
use Rattle.strc_stage_core.specs.Parcels.{parcel, with_block}
use Rattle.strc_stage_core.proofs.Loads.{block_set, block_is}
use Rattle.strc_stage_core.proofs.parcel.Parcel.fill.Goals as goal

pub returns : goal.returns
returns c =
    let mine = c.self.inside in
    let now = c.args.self.now in
    let block = c.index_mut.result.now in
    block_set mine.blocks.items mine.words.items mine.stop mine.last now c.self.view_is
    c.args.number block c.append_within.new.list c.index_mut.ensures.value
    c.append_within.ensures.capacity
    ∙ ap (λ items. parcel (with_block now.load c.args.number items) now.stop now.last)
    (c.append_within.ensures.items
    ∙ ap (λ items. items ++ c.args.items.now) (sym (block_is mine.blocks.items mine.words.items
    mine.stop mine.last now c.self.view_is c.args.number block c.requires.number
    c.index_mut.ensures.value)))
