use Rattle.strc_fiss.proofs.Pieced.{pieces_before, pieces_after, pieces_own}
use Rattle.strc_fiss.proofs.laws.units_are_pieces.Goals as goal

pub returns : goal.returns
returns c = record { before = pieces_before; after = pieces_after; pieces = pieces_own }
