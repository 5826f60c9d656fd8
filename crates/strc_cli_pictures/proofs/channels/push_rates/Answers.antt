use Rattle.std.proofs.Common.{◌≡◌, ◌++◌, ◌∙◌, ap, codes, subst, OnOk}
use Rattle.std.specs.Prelude.{decimal}
use Rattle.strc_cli_pictures.specs.Pictures as spec
use Rattle.strc_cli_output.proofs.Texts.{four_more}
use Rattle.strc_cli_pictures.proofs.channels.push_rates.Goals as goal

pub returns : goal.returns
returns c =
    let nodes = c.args.nodes.now in
    let source = c.args.channel.now.source in
    let target = c.args.channel.now.target in
    four_more c.push_number-2.result c.args.text.now.items c.push_bytes.new.text.items
    c.push_number.new.text.items c.push_bytes-2.new.text.items c.push_number-2.new.text.items
    (codes " [taillabel=\"") (decimal (spec.push_rate nodes source.node source.port))
    (codes "\", headlabel=\"") (decimal (spec.pop_rate nodes target.node target.port))
    c.in_ok-push_bytes.ensures
    (c.in_ok-push_number.ensures
    ∙ ap (λ n. c.push_bytes.new.text.items ++ decimal n) c.push_rate.ensures)
    c.in_ok-push_bytes-2.ensures
    (subst (λ n. OnOk c.push_number-2.result (c.push_number-2.new.text.items
    ≡ c.push_bytes-2.new.text.items ++ decimal n)) c.pop_rate.ensures c.push_number-2.ensures)
