use Rattle.std.proofs.Common.{◌≡◌, ◌<◌, ◌≤◌, ◌-◌, take, length, true, false}
use Rattle.strc_cli_statements.specs.Statements.{are_counted}
use Rattle.strc_cli_statements.proofs.count_places.first_uncounted.Given as goal

abbrev pub invariant-loop-most : goal.invariant-loop-most
invariant-loop-most l = record {
  before : are_counted (take l.least l.block) ≡ true;
  with : are_counted (take l.most l.block) ≡ false;
  within : l.most ≤ length l.block;
  apart : l.least < l.most;
}

abbrev pub decreases-loop-most : goal.decreases-loop-most
decreases-loop-most l = l.most - l.least
