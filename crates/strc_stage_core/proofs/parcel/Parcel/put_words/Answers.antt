use Rattle.strc_stage_core.proofs.Loads.{words_set}
use Rattle.strc_stage_core.proofs.parcel.Parcel.put_words.Goals as goal

pub returns-then-tape-len : goal.returns-then-tape-len
returns-then-tape-len c =
    let mine = c.self.inside in
    words_set mine.blocks.items mine.words.items mine.stop mine.last c.args.self.now
    c.self.view_is c.args.tape c.index_mut.result.now c.args.words c.index_mut.ensures.value
