use Rattle.std.proofs.Common.{◌≡◌, ◌∙◌, sym, ap, ◌<◌, List, map, get_or, set, length, arith}
use Rattle.std.proofs.lemmas.List.{get_or-map, length-map, length-set, map-set}
use Rattle.strc_sched_outcome.specs.Tapes.{TapeView, tape_view}
use Rattle.strc_stage.specs.Naming.{renamed_tape}
use Rattle.strc_stage.proofs.Replaced.{read_here, replaced}
use Rattle.strc_stage.proofs.old_names.renamed_tapes.Goals as goal

pub loop-number-preserved : goal.loop-number-preserved
loop-number-preserved c =
    let origins = c.args.origins.now in
    let all = map tape_view c.args.tapes.items in
    let now = c.loop-number.renamed.items in
    let i = c.loop-number.number in
    let own = c.index_mut.result.now in
    let next = c.rename.new.tape in
    let less : i < length all = omega (
      arith,
      c.loop-number-test.true,
      c.len-number-end.ensures,
      c.args.tapes.ok.0,
      length-map c.args.tapes.items tape_view,
    ) in
    let less_now : i < length now = omega (
      arith,
      less,
      c.loop-number.invariant.each,
      length-map c.args.tapes.items tape_view,
    ) in
    let read : tape_view own ≡ get_or all i (tape_view own) =
    ap tape_view c.index_mut.ensures.value
    ∙ sym (get_or-map tape_view now i own (tape_view own) less_now)
    ∙ ap (λ (l : List TapeView). get_or l i (tape_view own)) c.loop-number.invariant.tapes
    ∙ read_here (renamed_tape origins) all i (tape_view own) less in
    record {
      each = length-set now i next ∙ c.loop-number.invariant.each;
      tapes = map-set tape_view now i next
          ∙ ap (λ (l : List TapeView). set l i (tape_view next)) c.loop-number.invariant.tapes
          ∙ ap (set _ i) (c.rename.ensures ∙ ap (renamed_tape origins) read)
          ∙ replaced (renamed_tape origins) all i (tape_view own) less;
    }
