use Rattle.std.proofs.Common.{rules}
use Rattle.strc_elab.specs.Tasks.{IsReady, program_of, place_of, text_view, totals_of}
use Rattle.strc_elab.specs.Sources.{text_source}
use Rattle.strc_elab.proofs.Levels.{stream_elaborated-level, stream_place-level}
use Rattle.strc_elab.proofs.level.+elaborate_text.Goals as goal

pub text_elaborated-requires : goal.text_elaborated-requires
unfolding IsReady
text_elaborated-requires t c = (c.requires, search rules)

pub returns : goal.returns
returns t c =
    let task = c.args.task in
    record {
      verdict = rw (stream_elaborated-level (program_of task) task.levels (place_of task)
          (text_view task.text) (totals_of task) c.if-task-eq0.false)
          c.text_elaborated.ensures.verdict;
      place = rw (stream_place-level task.declarations.now task.levels (place_of task)
          (text_source task.text) (totals_of task) c.if-task-eq0.false)
          c.text_elaborated.ensures.place;
    }
