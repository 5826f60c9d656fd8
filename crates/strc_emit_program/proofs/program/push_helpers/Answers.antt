use Rattle.std.proofs.Common.{List, ℕ, ◌++◌, ap, codes}
use Rattle.strc_emit_text.proofs.Pushing.{same_piece}
use Rattle.strc_emit_program.specs.Programs.{helpers_text}
use Rattle.strc_emit_program.specs.declared.fixed.TheConstants as fixed
use Rattle.strc_emit_program.proofs.program.push_helpers.Goals as goal

pub returns : goal.returns
returns c =
    let around : List ℕ → List ℕ = λ (operators : List ℕ). fixed.STATE.now ++ (operators
    ++ (fixed.MOVES.now ++ (fixed.WORDS.now ++ codes "\n// The items of channels.\n"))) in
    same_piece c.push_pieces.result c.args.text.now.items c.push_pieces.new.text.items
    (around c.operators_text.result.now) helpers_text c.push_pieces.ensures
    (ap around c.operators_text.ensures)
