use Rattle.std.proofs.Common.{◌++◌, codes, decimal}
use Rattle.strc_cli_output.proofs.Pushing.{both, last}
use Rattle.strc_cli_output.proofs.output.push_mismatch.Goals as goal

pub returns : goal.returns
returns c =
    let begun = c.args.text.now.items in
    let node = codes "E14 RateMismatch node " ++ decimal c.args.node in
    let declared = node ++ codes " declared " ++ decimal c.args.declared in
    last c.push_number-3.result begun c.push_bytes-3.new.text.items
    c.push_number-3.new.text.items (declared ++ codes " counted ") (decimal c.args.counted)
    (both begun c.push_number-2.new.text.items c.push_bytes-3.new.text.items declared
    (codes " counted ")
    (both begun c.push_bytes-2.new.text.items c.push_number-2.new.text.items
    (node ++ codes " declared ") (decimal c.args.declared)
    (both begun c.push_number.new.text.items c.push_bytes-2.new.text.items node
    (codes " declared ")
    (both begun c.push_bytes.new.text.items c.push_number.new.text.items
    (codes "E14 RateMismatch node ") (decimal c.args.node) c.in_ok-push_bytes.ensures
    c.in_ok-push_number.ensures)
    c.in_ok-push_bytes-2.ensures)
    c.in_ok-push_number-2.ensures)
    c.in_ok-push_bytes-3.ensures)
    c.push_number-3.ensures
