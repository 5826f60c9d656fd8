use Rattle.strc_cli_input.specs.ReadAnswers.{reading_of}
use Rattle.strc_cli_input.proofs.Bytes.{refused_on}
use Rattle.strc_cli_input.proofs.numbers.Numbers.read.Goals as goal

pub returns-in-Err : goal.returns-in-Err
returns-in-Err c = refused_on (reading_of c.loop-byte.self) _ (reading_of c.read_byte.new.self)
    c.args.bytes.now c.loop-byte.byte-index 0 c.in-Err.error c.loop-byte-test.true
    c.loop-byte.invariant c.in-Err.ensures
