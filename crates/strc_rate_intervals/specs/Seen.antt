-- What the code keeps, as the definitions see it.
use Rattle.strc_rate_intervals.specs.declared.loops.First.{First}
use Rattle.strc_rate_intervals.specs.declared.loops.CountedLoop.{CountedLoop}
use Rattle.strc_rate_intervals.specs.Loops as loops

-- a variable and its first value
abbrev pub first_view : First → loops.First
first_view first = record { name = first.name.now; value = first.value }

-- a counted loop
abbrev pub loop_view : CountedLoop → loops.Loop
loop_view found = record {
  name = found.name.now;
  start = found.start;
  move = found.step;
  turns =
      found.turns;
}
