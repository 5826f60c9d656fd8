use Rattle.std.proofs.Common.{◌++◌, ◌∙◌, ap, codes}
use Rattle.std.specs.Prelude.{decimal}
use Rattle.strc_cli_output.proofs.Texts.{four_more}
use Rattle.strc_cli_pictures.proofs.stages.push_batch.Goals as goal

pub returns : goal.returns
returns c =
    four_more c.push_bytes-3.result c.args.text.now.items c.push_bytes.new.text.items
    c.push_bytes-2.new.text.items c.push_number.new.text.items c.push_bytes-3.new.text.items
    (codes "  label=\"") (codes "rounds at a time: at most ") (decimal c.args.batch)
    (codes "\";\n")
    c.in_ok-push_bytes.ensures c.in_ok-push_bytes-2.ensures
    (c.in_ok-push_number.ensures
    ∙ ap (λ n. c.push_bytes-2.new.text.items ++ decimal n) c.from.ensures)
    c.push_bytes-3.ensures
