use Rattle.std.proofs.Common.{◌∙◌, ap}
use Rattle.strc_stage_core.specs.Parcels.{parcel, with_words}
use Rattle.strc_stage_core.proofs.Loads.{words_set}
use Rattle.strc_stage_core.proofs.parcel.Parcel.take_words.Goals as goal

pub returns-then-tape-len-clause-left : goal.returns-then-tape-len-clause-left
returns-then-tape-len-clause-left c =
    let mine = c.self.inside in
    let now = c.args.self.now in
    words_set mine.blocks.items mine.words.items mine.stop mine.last now c.self.view_is
    c.args.tape c.index_mut.result.now c.replace.new.dest c.index_mut.ensures.value
    ∙ ap (λ words. parcel (with_words now.load c.args.tape words) now.stop now.last)
    (ap (λ v. v.items) c.replace.ensures.after ∙ c.new.ensures.items)
