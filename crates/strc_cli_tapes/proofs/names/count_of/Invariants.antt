use Rattle.std.proofs.Common.{◌≡◌, ◌+◌, ◌≤◌, drop, map}
use Rattle.std.specs.Prelude.{count_by}
use Rattle.strc_cli_tapes.specs.TapeNames.{has_name}
use Rattle.strc_cli_tapes.proofs.names.count_of.Given as goal

abbrev pub invariant-loop-own : goal.invariant-loop-own
invariant-loop-own l = record {
  counted : l.count + count_by (has_name l.name)
      (map (λ it. (it.node, it.name.now)) (drop l.own-index l.owns))
      ≡ count_by (has_name l.name) (map (λ it. (it.node, it.name.now)) l.owns);
  few : l.count ≤ l.own-index;
}
