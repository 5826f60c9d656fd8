use Rattle.std.proofs.Common.{◌++◌, codes, decimal}
use Rattle.strc_cli_output.proofs.Pushing.{both, last}
use Rattle.strc_cli_output.proofs.output.push_short.Goals as goal

pub returns : goal.returns
returns c =
    let begun = c.args.text.now.items in
    let need = codes "S1 InputShort need " ++ decimal c.args.need in
    last c.push_number-2.result begun c.push_bytes-2.new.text.items
    c.push_number-2.new.text.items (need ++ codes " got ") (decimal c.args.got)
    (both begun c.push_number.new.text.items c.push_bytes-2.new.text.items need (codes " got ")
    (both begun c.push_bytes.new.text.items c.push_number.new.text.items
    (codes "S1 InputShort need ") (decimal c.args.need) c.in_ok-push_bytes.ensures
    c.in_ok-push_number.ensures)
    c.in_ok-push_bytes-2.ensures)
    c.push_number-2.ensures
