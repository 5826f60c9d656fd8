use Rattle.std.proofs.Common.{◌∙◌, ap, refl, Some, List, ℕ}
use Rattle.std.specs.Prelude.{slice_get}
use Rattle.std.specs.Option.{option_map}
use Rattle.std.proofs.lemmas.Option.{slice_get_past, slice_get_read}
use Rattle.strc_cli_diagnostics.specs.Messages.{with_more}
use Rattle.strc_cli_source.specs.NodeWords.{named_words}
use Rattle.strc_cli_source.proofs.NamedNodes.{node_seen, node_unseen}
use Rattle.strc_cli_source.proofs.preorder.Preorder.push_name.Goals as goal

pub returns-in_ok-push_named-in-Some : goal.returns-in_ok-push_named-in-Some
returns-in_ok-push_named-in-Some c =
    let found = slice_get_read c.deref.result.now _ c.args.node c.in-Some.seen.now refl
    c.in-Some.ensures.lookup.3.0 c.in-Some.ensures.lookup.1 in
    let path = option_map (λ p. p.items) (slice_get c.args.paths.now c.args.node) in
    c.in_ok-push_named-in-Some.ensures
    ∙ ap (λ (name : List ℕ). with_more c.args.message.now (named_words (Some name) path c.args.node))
    c.deref-in-Some.ensures.value
    ∙ ap (with_more c.args.message.now)
    (node_seen c.args.self.now path c.args.node c.in-Some.seen.now
    (rw c.deref.ensures.value at found))

pub returns-in_ok-push_number-in-None : goal.returns-in_ok-push_number-in-None
returns-in_ok-push_number-in-None c =
    let missing = slice_get_past c.deref.result.now c.args.node c.in-None.ensures.lookup.3 in
    let path = option_map (λ p. p.items) (slice_get c.args.paths.now c.args.node) in
    c.in_ok-push_number-in-None.ensures
    ∙ ap (with_more c.args.message.now)
    (node_unseen c.args.self.now path c.args.node (rw c.deref.ensures.value at missing))
