use Rattle.std.proofs.Common.{◌≡◌}
use Rattle.strc_sched.specs.Marks.{IsMarks}
use Rattle.strc_sched_machine.specs.Running.{words_of}
use Rattle.strc_sched.proofs.TapeLists.{AreMarkedBelow}
use Rattle.strc_sched.proofs.tapes.Marks.mark.Given as goal

-- the first tapes are marked
abbrev pub invariant-loop-place : goal.invariant-loop-place
invariant-loop-place l = record {
  marks : IsMarks l.self;
  nodes : l.self.nodes.now ≡ l.fn.self.nodes.now;
  below : AreMarkedBelow l.self.tapes.items l.place l.self.lengths.items (words_of l.words);
}
