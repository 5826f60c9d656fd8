use Rattle.std.proofs.Common.{◌≡◌, ◌++◌, drop, map}
use Rattle.std.specs.Option.{option_map, option_to_list}
use Rattle.strc_parse_tree.specs.View.{declaration_view}
use Rattle.strc_elab_statements.specs.MainStreams as spec
use Rattle.strc_elab_statements.proofs.main_stream.only_main.Given as goal

-- what was found, with what is found later, is all
abbrev pub invariant-loop-number : goal.invariant-loop-number
invariant-loop-number l =
    option_to_list (option_map (λ f. (f.0, declaration_view f.1.now)) l.found)
    ++ spec.mains_from l.number (map declaration_view (drop l.number l.declarations))
    ≡ spec.mains_from 0 (map declaration_view l.declarations)
