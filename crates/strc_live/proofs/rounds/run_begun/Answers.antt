use Rattle.std.proofs.Common.{◌≡◌, true, false, Result, Ok, subst, sym, rules}
use Rattle.strc_cli.specs.Executes.{device_of}
use Rattle.strc_cli.specs.declared.execute.CliError.{CliError}
use Rattle.strc_live.specs.Rounds.{GoesLive}
use Rattle.strc_live.specs.declared.ends.LiveEnd.{LiveEnd}
use Rattle.strc_live.proofs.Beginnings.{no_room, words_written, write_failed}
use Rattle.strc_live.proofs.Reports.{passed_on}
use Rattle.strc_live.proofs.Writing.{same_unwritten, same_written}
use Rattle.strc_live.proofs.rounds.run_begun.Goals as goal

pub returns-in_err-write-clause-goes : goal.returns-in_err-write-clause-goes
returns-in_err-write-clause-goes g c tree first one begun =
    passed_on (λ (r : Result LiveEnd CliError). GoesLive tree c.args.plan.now first
    (g.I.Source.remaining c.args.input.now) r c.write.new.self.leaves_open
    (device_of (g.O.Sink.contents c.args.output.now) (g.O.Sink.has_failed c.args.output.now))
    (device_of (g.O.Sink.contents c.write.new.output) (g.O.Sink.has_failed c.write.new.output)))
    c.from_residual.result c.in_err-write.field-0.0 c.from_residual.ensures.1
    (write_failed tree c.args.plan.now one first
    (g.I.Source.remaining c.args.input.now) c.args.tape.now.leaves_open c.requires.fresh
    (device_of (g.O.Sink.contents c.args.output.now) (g.O.Sink.has_failed c.args.output.now))
    c.live_feeds_write.ensures c.args.feed begun c.write.new.self.leaves_open
    (device_of (g.O.Sink.contents c.write.new.output) (g.O.Sink.has_failed c.write.new.output))
    (g.I.Source.remaining c.args.input.now) c.in_err-write.field-0.0
    (same_unwritten c.words.result.now c.args.feed.words.items c.in_err-write.field-0.0
    c.args.tape.now.leaves_open c.write.new.self.leaves_open
    (device_of (g.O.Sink.contents c.args.output.now) (g.O.Sink.has_failed c.args.output.now))
    (device_of (g.O.Sink.contents c.write.new.output) (g.O.Sink.has_failed c.write.new.output))
    c.words.ensures c.in_err-write.ensures))

pub returns-then-not-branch-clause-goes : goal.returns-then-not-branch-clause-goes
returns-then-not-branch-clause-goes g c tree first one begun =
    let is : c.in_ok-write.field-0 ≡ false = search rules in
    subst (λ (how : LiveEnd). GoesLive tree c.args.plan.now first
    (g.I.Source.remaining c.args.input.now) (Ok how) c.write.new.self.leaves_open
    (device_of (g.O.Sink.contents c.args.output.now) (g.O.Sink.has_failed c.args.output.now))
    (device_of (g.O.Sink.contents c.write.new.output) (g.O.Sink.has_failed c.write.new.output)))
    (sym c.no_memory.ensures)
    (no_room tree c.args.plan.now one first (g.I.Source.remaining c.args.input.now)
    c.args.tape.now.leaves_open c.requires.fresh
    (device_of (g.O.Sink.contents c.args.output.now) (g.O.Sink.has_failed c.args.output.now))
    c.live_feeds_write.ensures c.args.feed begun c.write.new.self.leaves_open
    (device_of (g.O.Sink.contents c.write.new.output) (g.O.Sink.has_failed c.write.new.output))
    (same_written c.words.result.now c.args.feed.words.items
    c.in_ok-write.field-0 false c.args.tape.now.leaves_open c.write.new.self.leaves_open
    (device_of (g.O.Sink.contents c.args.output.now) (g.O.Sink.has_failed c.args.output.now))
    (device_of (g.O.Sink.contents c.write.new.output) (g.O.Sink.has_failed c.write.new.output))
    c.words.ensures is c.in_ok-write.ensures))

pub returns-clause-goes : goal.returns-clause-goes
returns-clause-goes g c tree first one begun =
    let is : c.in_ok-write.field-0 ≡ true = search rules in
    c.run_rounds.ensures.goes tree first
    (device_of (g.O.Sink.contents c.args.output.now) (g.O.Sink.has_failed c.args.output.now)) one
    (words_written tree c.args.plan.now one first (g.I.Source.remaining c.args.input.now)
    c.args.tape.now.leaves_open c.requires.fresh
    (device_of (g.O.Sink.contents c.args.output.now) (g.O.Sink.has_failed c.args.output.now))
    c.live_feeds_write.ensures c.args.feed begun c.write.new.self.leaves_open
    (device_of (g.O.Sink.contents c.write.new.output) (g.O.Sink.has_failed c.write.new.output))
    (same_written c.words.result.now c.args.feed.words.items
    c.in_ok-write.field-0 true c.args.tape.now.leaves_open c.write.new.self.leaves_open
    (device_of (g.O.Sink.contents c.args.output.now) (g.O.Sink.has_failed c.args.output.now))
    (device_of (g.O.Sink.contents c.write.new.output) (g.O.Sink.has_failed c.write.new.output))
    c.words.ensures is c.in_ok-write.ensures))
