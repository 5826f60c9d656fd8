use Rattle.std.proofs.Common.{rules, ◌≡◌, ◌∙◌}
use Rattle.strc_cli_input.specs.Reading.{ended}
use Rattle.strc_cli_input.specs.ReadAnswers.{reading_of}
use Rattle.strc_cli_input.proofs.InputPieces.{read_more, read_no_more, ended_reads, never_failed}
use Rattle.strc_cli_input.proofs.InputPieces.{word_stops}
use Rattle.strc_cli_input.proofs.input.read_numbers.Goals as goal

pub returns-in-Ok-eq0-clause-numbers : goal.returns-in-Ok-eq0-clause-numbers
returns-in-Ok-eq0-clause-numbers g c =
    let reading = reading_of c.loop-numbers.numbers in
    let bytes = c.in-Ok-eq0.ensures.bytes in
    let none : c.in-Ok-eq0.field-0 ≡ 0 = search rules in
    ended_reads c.reads_ints.ensures (g.I.Source.remaining c.args.input.now)
    (g.I.Source.remaining c.read.new.self)
    reading c.ended.result
    (read_no_more c.reads_in_pieces.ensures _ (g.I.Source.remaining c.loop-numbers.input) _ reading
    c.in-Ok-eq0.field-0 _
    c.loop-numbers.invariant.read bytes.0 none)
    (bytes.1 none (search rules))
    (c.ended.ensures (ended reading) c.finish.ensures)

pub returns-in-Ok-eq0-clause-failed : goal.returns-in-Ok-eq0-clause-failed
returns-in-Ok-eq0-clause-failed g c =
    let reading = reading_of c.loop-numbers.numbers in
    never_failed (ended reading) c.ended.result (c.ended.ensures (ended reading) c.finish.ensures)

pub loop-numbers-preserved : goal.loop-numbers-preserved
loop-numbers-preserved g c = record {
  read = read_more c.reads_in_pieces.ensures (g.I.Source.remaining c.args.input.now)
      (g.I.Source.remaining c.loop-numbers.input) (g.I.Source.remaining c.read.new.self)
      (reading_of c.loop-numbers.numbers) (reading_of c.read-in-Ok.new.self) _
      c.loop-numbers.invariant.read c.in-Ok.ensures.bytes.0 c.in-Ok-read.ensures;
  steady = c.in-Ok.ensures.ok.0 ∙ c.loop-numbers.invariant.steady;
}

pub returns-in-Err-read-clause-numbers : goal.returns-in-Err-read-clause-numbers
returns-in-Err-read-clause-numbers g c =
    word_stops c.reads_in_pieces.ensures c.fails_for_good.ensures
    (g.I.Source.remaining c.args.input.now)
    (g.I.Source.remaining c.loop-numbers.input) (g.I.Source.remaining c.read.new.self)
    (reading_of c.loop-numbers.numbers) (reading_of c.read-in-Ok.new.self) _ c.in-Err-read.error
    c.stop_of.result c.loop-numbers.invariant.read c.in-Ok.ensures.bytes.0 c.in-Err-read.ensures
    c.stop_of.ensures
