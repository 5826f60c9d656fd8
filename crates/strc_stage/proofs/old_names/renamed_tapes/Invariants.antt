use Rattle.std.proofs.Common.{◌≡◌, ◌++◌, length, map, take, drop}
use Rattle.strc_sched_outcome.specs.Tapes.{tape_view}
use Rattle.strc_stage.specs.Naming.{renamed_tape}
use Rattle.strc_stage.proofs.old_names.renamed_tapes.Given as goal

abbrev pub invariant-loop-number : goal.invariant-loop-number
invariant-loop-number l = record {
  each : length l.renamed.items ≡ length l.fn.tapes.items;
  tapes : map tape_view l.renamed.items
      ≡ map (renamed_tape l.fn.origins) (take l.number (map tape_view l.fn.tapes.items))
      ++ drop l.number (map tape_view l.fn.tapes.items);
}
