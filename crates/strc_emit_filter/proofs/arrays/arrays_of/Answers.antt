use Rattle.std.proofs.Common.{◌≡◌, ◌^◌, ◌<◌, length, arith}
use Rattle.std.proofs.lemmas.List.Elements.{All-weaker}
use Rattle.strc_work_meaning.specs.Filters.{filter_of}
use Rattle.strc_work_code.specs.declared.helper.HelperCode.{HelperCode}
use Rattle.strc_work_code.specs.Code.{code_of}
use Rattle.strc_work_code.specs.Lowering.{slot_count}
use Rattle.strc_emit_filter.specs.Arrays.{OfCode, Reaches}
use Rattle.strc_emit_filter.proofs.Codes.{of_code_on}
use Rattle.strc_emit_filter.proofs.Ends.{raised_then}
use Rattle.strc_emit_filter.proofs.Parts.{all_find}
use Rattle.strc_emit_filter.proofs.arrays.arrays_of.Goals as goal

pub returns : goal.returns
returns c =
    let filter = c.args.code.now in
    let helped = c.end_helpers.new.ends.items in
    let worked = c.end_arrays.new.ends.items in
    let ends = c.end_arrays-2.new.ends.items in
    let work = code_of c.routine.result.now.code in
    let prework = code_of c.routine-2.result.now.code in
    let last = c.end_arrays-2.ensures.raised in
    let later = raised_then helped worked ends c.end_arrays.ensures.raised last in
    let counted : length ends ≡ c.slot_count-slots.result = omega (
      arith,
      last.same,
      c.end_arrays.ensures.raised.same,
      c.end_helpers.ensures.raised.same,
      c.end_fields.ensures,
      c.in_ok-ends.ensures.len,
    ) in
    let count : length ends ≡ slot_count (filter_of filter) =
    omega (arith, counted, c.slot_count-slots.ensures) in
    let small : length ends < 2 ^ 32 = omega (arith, counted, c.in_ok-slot_at.ensures) in
    all_find c.joined.result filter ends c.deref-2.result.now c.deref-2.ensures.value
    c.joined.ensures count small c.helpers.result.now prework work c.helpers.ensures.are
    c.routine-2.ensures.code c.routine.ensures.code
    (All-weaker (λ (helper : HelperCode). OfCode (Reaches helped) (code_of helper.code))
    (λ (helper : HelperCode). OfCode (Reaches ends) (code_of helper.code))
    (λ helper. of_code_on helped ends (code_of helper.code) later) c.helpers.result.now
    c.end_helpers.ensures.reaches)
    c.end_arrays-2.ensures.reaches
    (of_code_on worked ends work last c.end_arrays.ensures.reaches)
