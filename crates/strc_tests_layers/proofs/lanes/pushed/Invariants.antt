use Rattle.strc_work_meaning.specs.Filters.{filter_of}
use Rattle.strc_work.specs.States.{IsFrameOf, IsStateOf}
use Rattle.strc_tests_layers.proofs.lanes.pushed.Given as goal

abbrev pub invariant-loop-lane : goal.invariant-loop-lane
invariant-loop-lane l = record {
  state : IsStateOf (filter_of l.code) l.state;
  frame : IsFrameOf (filter_of l.code) l.frame;
}
