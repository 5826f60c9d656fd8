use Rattle.std.proofs.Common.{◌≡◌, ◌-◌, ◌^◌, min, sum, take}
use Rattle.strc_stage_weights.proofs.step_rounds.total_of.Given as goal

abbrev pub invariant-loop-each : goal.invariant-loop-each
invariant-loop-each l = l.total ≡ min (sum (take l.each-index l.works)) (2 ^ 64 - 1)
