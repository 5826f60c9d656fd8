use Rattle.std.proofs.Common.{◌≡◌, Ok, option_map, rules, subst, sym}
use Rattle.strc_parse_tree.specs.View.{program_view}
use Rattle.strc_elab.specs.Elaboration.{elaborated}
use Rattle.strc_elab.specs.Sound.{IsElaborated}
use Rattle.strc_elab_stream.specs.View.{stream_view}
use Rattle.strc_elab.proofs.Soundness.{elaborated_is_sound}
use Rattle.strc_elab.proofs.elaborate.elaborate_placed.Goals as goal

pub returns-clause-sound : goal.returns-clause-sound
returns-clause-sound c =
    let main = option_map (λ n. n.now) c.args.main in
    let gives : elaborated (program_view c.args.program.now) main
    ≡ Ok (stream_view c.in_ok-elaborated.elaborated.stream) = search rules in
    subst IsElaborated (sym c.in_ok-with_added.ensures)
    (elaborated_is_sound (program_view c.args.program.now) main
    (stream_view c.in_ok-elaborated.elaborated.stream) gives)
