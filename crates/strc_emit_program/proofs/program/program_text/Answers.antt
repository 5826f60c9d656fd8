use Rattle.std.proofs.Common.{◌∙◌, ◌++◌, ℕ, List, ap}
use Rattle.strc_emit_program.specs.Programs.{start_text}
use Rattle.strc_emit_program.proofs.Numbering.{program_is}
use Rattle.strc_emit_program.proofs.program.program_text.Goals as goal

pub returns : goal.returns
returns c =
    program_is c.args.network.now c.args.schedule.now c.args.graph.now.nodes
    c.push_start.new.text.items c.push_nodes.new.text.items c.push_end.new.text.items c.requires
    (c.in_ok-push_start.ensures
    ∙ ap (λ (l : List ℕ). l ++ start_text c.args.network.now) c.new-text.ensures.items)
    c.in_ok-push_nodes.ensures c.in_ok-push_end.ensures
