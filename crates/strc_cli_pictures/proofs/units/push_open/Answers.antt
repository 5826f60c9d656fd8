use Rattle.std.proofs.Common.{◌++◌, ◌∙◌, ap, codes}
use Rattle.std.specs.Prelude.{decimal}
use Rattle.strc_cli_output.proofs.Texts.{five_more}
use Rattle.strc_cli_pictures.proofs.units.push_open.Goals as goal

pub returns : goal.returns
returns c =
    five_more c.push_bytes-3.result c.args.text.now.items c.push_bytes.new.text.items
    c.push_number.new.text.items c.push_bytes-2.new.text.items c.push_number-2.new.text.items
    c.push_bytes-3.new.text.items
    (codes "  subgraph cluster_unit_") (decimal c.args.first) (codes " {\n  label=\"")
    (decimal c.args.turns) (codes " times\";\n")
    c.in_ok-push_bytes.ensures
    (c.in_ok-push_number.ensures
    ∙ ap (λ n. c.push_bytes.new.text.items ++ decimal n) c.from.ensures)
    c.in_ok-push_bytes-2.ensures
    (c.in_ok-push_number-2.ensures
    ∙ ap (λ n. c.push_bytes-2.new.text.items ++ decimal n) c.from-2.ensures)
    c.push_bytes-3.ensures
