use Rattle.strc_cli_statements.proofs.Lengths.{length-block_places, length-start_places}
use Rattle.strc_cli_statements.proofs.Lengths.{length-helpers_places}
use Rattle.strc_cli_statements.proofs.occurrences.places_are_counted.Goals as goal

pub returns-clause-block : goal.returns-clause-block
returns-clause-block c = length-block_places

pub returns-clause-start : goal.returns-clause-start
returns-clause-start c = length-start_places

pub returns-clause-helpers : goal.returns-clause-helpers
returns-clause-helpers c = length-helpers_places
