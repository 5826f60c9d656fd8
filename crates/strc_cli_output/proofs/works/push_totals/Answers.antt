use Rattle.std.proofs.Common.{codes, decimal}
use Rattle.strc_cli_output.specs.Output.{line_end}
use Rattle.strc_cli_output.proofs.Pieces.{in_form, nine_apart}
use Rattle.strc_cli_output.proofs.works.push_totals.Goals as goal

pub returns : goal.returns
returns c =
    in_form c.push_pieces.result c.args.text.now.items c.push_pieces.new.text.items _ _
    (nine_apart (codes "total nodes ") (decimal c.args.nodes) (codes " channels ")
    (decimal c.args.channels) (codes " items ") (decimal c.args.items) (codes " work ")
    (decimal c.args.work) line_end)
    c.push_pieces.ensures
