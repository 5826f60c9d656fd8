use Rattle.strc_work.proofs.Examples.{expression_rows, number_rows, statement_rows, filter_rows}
use Rattle.strc_work.proofs.laws.rows_hold.Goals as goal

pub returns : goal.returns
returns c = record {
  expressions = expression_rows;
  numbers = number_rows;
  statements = statement_rows;
  filters = filter_rows;
}
