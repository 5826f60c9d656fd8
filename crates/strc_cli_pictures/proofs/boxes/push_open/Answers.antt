use Rattle.std.proofs.Common.{codes, decimal}
use Rattle.strc_cli_output.proofs.Pieces.{five_apart, in_form}
use Rattle.strc_cli_pictures.proofs.boxes.push_open.Goals as goal

pub returns : goal.returns
returns c =
    in_form c.push_pieces.result c.args.text.now.items c.push_pieces.new.text.items _ _
    (five_apart (codes "  subgraph cluster_") (decimal c.args.number) (codes " {\n  label=\"")
    c.args.label.now (codes "\";\n"))
    c.push_pieces.ensures
