use Rattle.std.proofs.Common.{◌≡◌, ◌<◌, length, get_or, arith, get_or-set_same}
use Rattle.std.proofs.lemmas.List.{get_or_read}
use Rattle.strc_emit_filter.proofs.Ends.{raised_set}
use Rattle.strc_emit_filter.proofs.arrays.end_array.Goals as goal

pub returns : goal.returns
returns c =
    let ends = c.args.ends.now.items in
    let end = c.max-2.result in
    let inside : c.args.from < length ends = omega (arith, c.len.ensures) in
    let read : c.index.result.now ≡ get_or ends c.args.from 0 =
    get_or_read ends c.args.from c.index.result.now inside c.index.ensures 0 in
    let written = get_or-set_same ends c.args.from end 0 inside in
    record {
      raised = raised_set ends c.args.from end inside (omega (arith, read, c.max-2.ensures));
      reaches = λ one fits small. omega (
        arith,
        written,
        c.max-2.ensures,
        c.saturating_add.ensures,
        c.max.ensures,
      );
    }
