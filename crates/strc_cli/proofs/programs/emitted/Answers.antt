use Rattle.std.specs.Prelude.{string_bytes}
use Rattle.std.specs.Option.{option_map}
use Rattle.strc_cli.proofs.programs.emitted.Goals as goal

pub returns-in-Ok : goal.returns-in-Ok
returns-in-Ok c = λ text main is.
    c.emitted_texts_answer.ensures text (option_map string_bytes main) c.args.plan.now
    c.in-Ok.program.items c.known.ensures.is is c.in-Ok.ensures
