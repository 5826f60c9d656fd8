use Rattle.std.proofs.Common.{◌≡◌, true, false, Result, Option, Ok, subst, sym}
use Rattle.std.proofs.Common.{inl, inr, rules}
use Rattle.strc_cli.specs.Executes.{device_of}
use Rattle.strc_cli.specs.declared.execute.CliError.{CliError}
use Rattle.strc_live_feeds.specs.Feeding.{IsFedBy}
use Rattle.strc_live_feeds.specs.declared.live_feed.Fed.{Fed}
use Rattle.strc_live.specs.Rounds.{GoesLive, StepsTo}
use Rattle.strc_live.specs.declared.ends.LiveEnd.{LiveEnd}
use Rattle.strc_live.proofs.Reports.{passed_on}
use Rattle.strc_live.proofs.Steps.{firing_faulted, input_ends, limit_is_far, no_room}
use Rattle.strc_live.proofs.Steps.{out_of_memory, read_failed, word_is_wrong, words_written}
use Rattle.strc_live.proofs.Steps.{write_failed}
use Rattle.strc_live.proofs.Writing.{same_unwritten, same_written}
use Rattle.strc_live.proofs.rounds.step.Goals as goal

pub returns-in_err-write-in-Round-clause-step : goal.returns-in_err-write-in-Round-clause-step
returns-in_err-write-in-Round-clause-step g c tree first before rounds one fewer going =
    let left = g.I.Source.remaining c.args.input.now in
    let later = g.I.Source.remaining c.advance.new.input in
    let device =
    device_of (g.O.Sink.contents c.args.output.now) (g.O.Sink.has_failed c.args.output.now) in
    let end =
    device_of (g.O.Sink.contents c.write.new.output) (g.O.Sink.has_failed c.write.new.output) in
    passed_on (λ (r : Result (Option LiveEnd) CliError). StepsTo tree c.args.plan.now first
    later rounds r c.advance.new.self c.write.new.self.leaves_open before end)
    c.from_residual.result c.in_err-write-in-Round.field-0.0 c.from_residual.ensures.1
    (write_failed c.live_feeds_write.ensures tree c.args.plan.now one first
    left rounds c.args.feed.now c.args.tape.now.leaves_open before device going
    later c.advance.new.self fewer
    (c.in-Round.ensures.fed c.args.plan.now first going.read going.past going.done.fed)
    c.write.new.self.leaves_open end c.in_err-write-in-Round.field-0.0
    (same_unwritten c.words.result.now c.advance.new.self.words.items
    c.in_err-write-in-Round.field-0.0 c.args.tape.now.leaves_open c.write.new.self.leaves_open
    device end c.words.ensures c.in_err-write-in-Round.ensures))

pub returns-then-branch-clause-step : goal.returns-then-branch-clause-step
returns-then-branch-clause-step g c tree first before rounds one fewer going =
    let left = g.I.Source.remaining c.args.input.now in
    let later = g.I.Source.remaining c.advance.new.input in
    let device =
    device_of (g.O.Sink.contents c.args.output.now) (g.O.Sink.has_failed c.args.output.now) in
    let end =
    device_of (g.O.Sink.contents c.write.new.output) (g.O.Sink.has_failed c.write.new.output) in
    let is : c.in_ok-write-in-Round.field-0 ≡ true = search rules in
    words_written c.live_feeds_write.ensures tree c.args.plan.now one first
    left rounds c.args.feed.now c.args.tape.now.leaves_open before device going
    later c.advance.new.self fewer
    (c.in-Round.ensures.fed c.args.plan.now first going.read going.past going.done.fed)
    c.write.new.self.leaves_open end
    (same_written c.words.result.now c.advance.new.self.words.items
    c.in_ok-write-in-Round.field-0 true c.args.tape.now.leaves_open c.write.new.self.leaves_open
    device end c.words.ensures is c.in_ok-write-in-Round.ensures)

pub returns-else-branch-clause-step : goal.returns-else-branch-clause-step
returns-else-branch-clause-step g c tree first before rounds one fewer going =
    let left = g.I.Source.remaining c.args.input.now in
    let later = g.I.Source.remaining c.advance.new.input in
    let device =
    device_of (g.O.Sink.contents c.args.output.now) (g.O.Sink.has_failed c.args.output.now) in
    let end =
    device_of (g.O.Sink.contents c.write.new.output) (g.O.Sink.has_failed c.write.new.output) in
    let is : c.in_ok-write-in-Round.field-0 ≡ false = search rules in
    subst (λ (how : LiveEnd). GoesLive tree c.args.plan.now first
    later (Ok how) c.write.new.self.leaves_open before end)
    (sym c.no_memory.ensures)
    (no_room c.live_feeds_write.ensures tree c.args.plan.now one first
    left rounds c.args.feed.now c.args.tape.now.leaves_open before device going
    later c.advance.new.self fewer
    (c.in-Round.ensures.fed c.args.plan.now first going.read going.past going.done.fed)
    c.write.new.self.leaves_open end
    (same_written c.words.result.now c.advance.new.self.words.items
    c.in_ok-write-in-Round.field-0 false c.args.tape.now.leaves_open c.write.new.self.leaves_open
    device end c.words.ensures is c.in_ok-write-in-Round.ensures))

pub returns-in-Ended-clause-step : goal.returns-in-Ended-clause-step
returns-in-Ended-clause-step g c tree first before rounds one fewer going =
    let left = g.I.Source.remaining c.args.input.now in
    let later = g.I.Source.remaining c.advance.new.input in
    let device =
    device_of (g.O.Sink.contents c.args.output.now) (g.O.Sink.has_failed c.args.output.now) in
    let fed = c.advance.ensures.fed c.args.plan.now first going.read going.past going.done.fed in
    elim c.in-Ended.is [
      | inl is ↦ input_ends c.live_feeds_write.ensures tree c.args.plan.now one first
          left rounds c.args.feed.now c.args.tape.now.leaves_open before device going
          c.live_feeds_end.ensures later c.advance.new.self fewer
          (subst (λ (f : Fed). IsFedBy c.args.plan.now first later going.read going.past
          c.args.feed.now f c.advance.new.self) is fed)
      | inr is ↦ absurd (limit_is_far c.live_feeds_write.ensures tree c.args.plan.now one first
          left rounds c.args.feed.now c.args.tape.now.leaves_open before device going fewer
          (subst (λ (f : Fed). IsFedBy c.args.plan.now first later going.read going.past
          c.args.feed.now f c.advance.new.self) is fed).0)
    ]

pub returns-in-Wrong-clause-step : goal.returns-in-Wrong-clause-step
returns-in-Wrong-clause-step g c tree first before rounds one fewer going =
    let left = g.I.Source.remaining c.args.input.now in
    let later = g.I.Source.remaining c.advance.new.input in
    let device =
    device_of (g.O.Sink.contents c.args.output.now) (g.O.Sink.has_failed c.args.output.now) in
    word_is_wrong c.live_feeds_write.ensures tree c.args.plan.now one first
    left rounds c.args.feed.now c.args.tape.now.leaves_open before device going
    c.live_feeds_end.ensures later c.advance.new.self _ fewer
    (c.in-Wrong.ensures.fed c.args.plan.now first going.read going.past going.done.fed)

pub returns-in-ReadFailed-clause-step : goal.returns-in-ReadFailed-clause-step
returns-in-ReadFailed-clause-step g c tree first before rounds one fewer going =
    let left = g.I.Source.remaining c.args.input.now in
    let later = g.I.Source.remaining c.advance.new.input in
    let device =
    device_of (g.O.Sink.contents c.args.output.now) (g.O.Sink.has_failed c.args.output.now) in
    read_failed c.live_feeds_write.ensures tree c.args.plan.now one first
    left rounds c.args.feed.now c.args.tape.now.leaves_open before device going
    c.live_feeds_are_cut_off.ensures later c.advance.new.self
    (c.in-ReadFailed.ensures.fed c.args.plan.now first going.read going.past going.done.fed)

pub returns-in-Faulted-clause-step : goal.returns-in-Faulted-clause-step
returns-in-Faulted-clause-step g c tree first before rounds one fewer going =
    let left = g.I.Source.remaining c.args.input.now in
    let later = g.I.Source.remaining c.advance.new.input in
    let device =
    device_of (g.O.Sink.contents c.args.output.now) (g.O.Sink.has_failed c.args.output.now) in
    firing_faulted c.live_feeds_write.ensures tree c.args.plan.now one first
    left rounds c.args.feed.now c.args.tape.now.leaves_open before device going
    c.live_feeds_fault.ensures later c.advance.new.self
    c.in-Faulted.node c.in-Faulted.firing c.done-done.result c.in-Faulted.cause c.faulted.result
    fewer (c.in-Faulted.ensures.fed c.args.plan.now first going.read going.past going.done.fed)
    c.done-done.ensures c.faulted.ensures

pub returns-in-NoMemory-clause-step : goal.returns-in-NoMemory-clause-step
returns-in-NoMemory-clause-step g c tree first before rounds one fewer going =
    let left = g.I.Source.remaining c.args.input.now in
    let later = g.I.Source.remaining c.advance.new.input in
    let device =
    device_of (g.O.Sink.contents c.args.output.now) (g.O.Sink.has_failed c.args.output.now) in
    subst (λ (how : LiveEnd). GoesLive tree c.args.plan.now first
    later (Ok how) c.args.tape.now.leaves_open before device)
    (sym c.no_memory-in-NoMemory.ensures)
    (out_of_memory c.live_feeds_write.ensures tree c.args.plan.now one first
    left rounds c.args.feed.now c.args.tape.now.leaves_open before device going later)
