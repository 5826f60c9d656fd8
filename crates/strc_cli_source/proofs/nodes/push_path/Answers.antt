use Rattle.std.proofs.Common.{◌∙◌, ap, refl, sym, ◌++◌, List, ℕ}
use Rattle.std.proofs.lemmas.Option.{slice_get_past, slice_get_read}
use Rattle.std.specs.Prelude.{codes}
use Rattle.strc_cli_diagnostics.specs.Messages.{with_more}
use Rattle.strc_cli_source.proofs.NamedNodes.{in_two, path_found, path_missing}
use Rattle.strc_cli_source.proofs.nodes.push_path.Goals as goal

pub returns-in_ok-add-in-Some-2 : goal.returns-in_ok-add-in-Some-2
returns-in_ok-add-in-Some-2 c =
    let paths = c.args.paths.now in
    in_two _ _ _ _ _ c.in_ok-add-in-Some.ensures
    (c.in_ok-add-in-Some-2.ensures ∙ ap (with_more c.add.new.self) c.deref.ensures.value)
    ∙ ap (with_more c.args.message.now)
    (path_found paths c.args.node c.in-Some.path.now
    (slice_get_read paths _ c.args.node c.in-Some.path.now refl
    c.in-Some.ensures.lookup.3.0 c.in-Some.ensures.lookup.1))

pub returns-in-None : goal.returns-in-None
returns-in-None c =
    path_missing c.args.message.now c.args.paths.now c.args.node
    (slice_get_past c.args.paths.now c.args.node c.in-None.ensures.lookup.3)
