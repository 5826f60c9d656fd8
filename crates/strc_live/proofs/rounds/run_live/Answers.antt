use Rattle.strc_cli.specs.Executes.{device_of}
use Rattle.strc_live.proofs.Beginnings.{faulted_at_first, first_read_failed, first_word_is_wrong}
use Rattle.strc_live.proofs.Beginnings.{input_is_short, no_memory_yet}
use Rattle.strc_live.proofs.rounds.run_live.Goals as goal

pub run_begun-requires-clause-feeding : goal.run_begun-requires-clause-feeding
run_begun-requires-clause-feeding g c =
    let begun = c.in-Goes.ensures.begun in record {
      plan = c.args.plan.now;
      first = g.I.Source.remaining c.args.input.now;
      read = begun.items;
      past = begun.past;
      is = begun.fed;
    }

pub returns-in-Goes-clause-goes : goal.returns-in-Goes-clause-goes
returns-in-Goes-clause-goes g c tree one =
    c.run_begun.ensures.goes tree (g.I.Source.remaining c.args.input.now) one
    c.in-Goes.ensures.begun

pub returns-in-Faulted-clause-goes : goal.returns-in-Faulted-clause-goes
returns-in-Faulted-clause-goes g c tree one =
    faulted_at_first tree c.args.plan.now one (g.I.Source.remaining c.args.input.now)
    (g.I.Source.remaining c.begin.new.input) c.args.tape.now.leaves_open c.requires.fresh
    (device_of (g.O.Sink.contents c.args.output.now) (g.O.Sink.has_failed c.args.output.now))
    c.live_feeds_fault_at_first.ensures c.in-Faulted.node c.in-Faulted.firing c.in-Faulted.cause
    c.in-Faulted.ensures.begun

pub returns-in-Short-clause-goes : goal.returns-in-Short-clause-goes
returns-in-Short-clause-goes g c tree one =
    input_is_short tree c.args.plan.now one (g.I.Source.remaining c.args.input.now)
    (g.I.Source.remaining c.begin.new.input) c.args.tape.now.leaves_open c.requires.fresh
    (device_of (g.O.Sink.contents c.args.output.now) (g.O.Sink.has_failed c.args.output.now))
    c.in-Short.need c.in-Short.got c.in-Short.ensures.begun.0 c.in-Short.ensures.begun.1

pub returns-in-Wrong-clause-goes : goal.returns-in-Wrong-clause-goes
returns-in-Wrong-clause-goes g c tree one =
    first_word_is_wrong tree c.args.plan.now one (g.I.Source.remaining c.args.input.now)
    (g.I.Source.remaining c.begin.new.input) c.args.tape.now.leaves_open c.requires.fresh
    (device_of (g.O.Sink.contents c.args.output.now) (g.O.Sink.has_failed c.args.output.now))
    c.in-Wrong.word c.in-Wrong.ensures.begun

pub returns-in-ReadFailed-clause-goes : goal.returns-in-ReadFailed-clause-goes
returns-in-ReadFailed-clause-goes g c tree one =
    first_read_failed tree c.args.plan.now one (g.I.Source.remaining c.args.input.now)
    (g.I.Source.remaining c.begin.new.input) c.args.tape.now.leaves_open c.requires.fresh
    (device_of (g.O.Sink.contents c.args.output.now) (g.O.Sink.has_failed c.args.output.now))
    c.in-ReadFailed.ensures.begun

pub returns-in-NoMemory-clause-goes : goal.returns-in-NoMemory-clause-goes
returns-in-NoMemory-clause-goes g c tree one =
    rw c.no_memory.ensures (no_memory_yet tree c.args.plan.now one
    (g.I.Source.remaining c.args.input.now)
    (g.I.Source.remaining c.begin.new.input) c.args.tape.now.leaves_open c.requires.fresh
    (device_of (g.O.Sink.contents c.args.output.now) (g.O.Sink.has_failed c.args.output.now)))
