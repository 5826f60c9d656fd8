use Rattle.std.proofs.Common.{◌++◌, ◌∙◌, ap, codes, length, List, ℤ}
use Rattle.std.specs.Prelude.{decimal}
use Rattle.strc_cli_pictures.specs.Pictures as spec
use Rattle.strc_cli_output.proofs.Texts.{four_more}
use Rattle.strc_cli_pictures.proofs.channels.push_size.Goals as goal

pub returns : goal.returns
returns c =
    four_more c.push_bytes-2.result c.args.text.now.items c.push_bytes.new.text.items
    c.push_number.new.text.items c.push_enqueued.new.text.items c.push_bytes-2.new.text.items
    (codes "\", label=\"size ") (decimal c.args.size)
    (spec.enqueued_words (length c.args.channel.now.enqueued.items)) (codes "\"];\n")
    c.in_ok-push_bytes.ensures (c.in_ok-push_number.ensures
    ∙ ap (λ n. c.push_bytes.new.text.items ++ decimal n) c.from.ensures)
    (c.in_ok-push_enqueued.ensures
    ∙ ap (λ (l : List ℤ). c.push_number.new.text.items ++ spec.enqueued_words (length l))
    c.as_slice.ensures.value)
    c.push_bytes-2.ensures
