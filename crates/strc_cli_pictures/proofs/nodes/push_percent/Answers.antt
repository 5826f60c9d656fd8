use Rattle.std.proofs.Common.{◌/◌, ◌%◌, codes, decimal}
use Rattle.strc_cli_output.proofs.Pieces.{five_apart, in_form}
use Rattle.strc_cli_pictures.proofs.nodes.push_percent.Goals as goal

pub returns : goal.returns
returns c =
    let share = c.args.share in
    in_form c.push_pieces.result c.args.text.now.items c.push_pieces.new.text.items _ _
    (five_apart (codes "\\n") (decimal (share / 10)) (codes ".") (decimal (share % 10))
    (codes " % of the time\""))
    c.push_pieces.ensures
