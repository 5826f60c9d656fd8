use Rattle.std.proofs.Common.{◌/◌, ◌%◌, codes, decimal}
use Rattle.strc_cli_output.proofs.Pieces.{in_form, seven_apart}
use Rattle.strc_cli_pictures.proofs.nodes.push_color.Goals as goal

pub returns : goal.returns
returns c =
    let share = c.args.share in
    in_form c.push_pieces.result c.args.text.now.items c.push_pieces.new.text.items _ _
    (seven_apart (codes ", style=filled, fillcolor=\"0.000 ") (decimal (share / 1000)) (codes ".")
    (decimal (share / 100 % 10)) (decimal (share / 10 % 10)) (decimal (share % 10))
    (codes " 1.000\"];\n"))
    c.push_pieces.ensures
