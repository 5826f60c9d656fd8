use Rattle.std.proofs.Common.{◌≡◌, ℕ, List, Option}
use Rattle.strc_elab_dataflow.specs.Streams as trees
use Rattle.strc_elab_graph.specs.Graphs.{NodeCode}
use Rattle.strc_cli.specs.Executes.{Device, device_of}
use Rattle.strc_live_feeds.specs.Feeding.{IsFeeding}
use Rattle.strc_live_answers.specs.Laws.{IsOneTapeOf}
use Rattle.strc_live.specs.Rounds.{IsGoing}
use Rattle.strc_live.proofs.rounds.run_rounds.Given as goal

-- so many rounds are done as there were turns, and their words are written
abbrev pub invariant-loop-round : goal.invariant-loop-round
invariant-loop-round g l = record {
  feeding : IsFeeding (g.I.Source.remaining l.input) l.feed;
  steady : g.I.Source.has_failed l.input ≡ g.I.Source.has_failed l.fn.input;
  going : (tree : trees.Stream NodeCode) (first : Option (List ℕ)) (before : Device)
      → IsOneTapeOf tree l.plan
      → IsGoing l.plan first (g.I.Source.remaining l.fn.input) 0 l.fn.feed
      l.fn.tape.leaves_open before
      (device_of (g.O.Sink.contents l.fn.output) (g.O.Sink.has_failed l.fn.output))
      → IsGoing l.plan first (g.I.Source.remaining l.input) l._round l.feed l.tape.leaves_open
      before (device_of (g.O.Sink.contents l.output) (g.O.Sink.has_failed l.output));
}
