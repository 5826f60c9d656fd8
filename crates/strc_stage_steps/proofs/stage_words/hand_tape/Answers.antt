use Rattle.std.proofs.Common.{◌∙◌, ap}
use Rattle.strc_stage_core.specs.Parcels.{ParcelView, parcel, with_words}
use Rattle.strc_stage_steps.proofs.Words.{words_twice}
use Rattle.strc_stage_steps.proofs.stage_words.hand_tape.Goals as goal

pub returns-clause-sent : goal.returns-clause-sent
returns-clause-sent c =
    let own = c.args.parcel.now in
    let tape = c.args.own.tape in
    let words = c.exchange.result.items in
    c.put_words.ensures
    ∙ ap (λ (p : ParcelView). parcel (with_words p.load tape words) p.stop p.last)
    c.take_words-words.ensures.left
    ∙ ap (λ load. parcel load own.stop own.last) (words_twice own.load tape words)
    ∙ ap (λ w. parcel (with_words own.load tape w) own.stop own.last) c.exchange.ensures.words
