use Rattle.std.proofs.Common.{ap, sym, subst, slice_get, List, ℕ, Option}
use Rattle.std.specs.Option.{option_map}
use Rattle.strc_lex_names.specs.declared.place.Span.{Span}
use Rattle.strc_cli_diagnostics.specs.Messages.{MessageView}
use Rattle.strc_cli_places.specs.Refused.{MarksFaultOf, body_fired}
use Rattle.strc_cli_messages.proofs.Saying.{fault_said}
use Rattle.strc_cli_messages.specs.Sentences.{IsFaultSentence}
use Rattle.strc_cli_messages.proofs.fault.write_fault.Goals as goal

pub returns : goal.returns
returns c =
    let fault = c.args.fault.now in
    let source = c.args.source in
    let nodes = c.args.graph.now.nodes in
    let path : Option (List ℕ) =
    option_map (λ p. p.items) (slice_get c.args.paths.now fault.node) in
    record {
      marks = subst (λ (place : Option Span). MarksFaultOf source.text.now source.tokens.now
          fault.cause (body_fired fault.firing) (slice_get nodes fault.node) place)
          (sym (ap (λ (m : MessageView). m.place) c.about.ensures)) c.in_ok-place.ensures;
      says = subst (λ (m : MessageView). IsFaultSentence nodes path fault.node fault.firing
          fault.round fault.cause m.sentence) (sym c.about.ensures)
          (fault_said nodes path fault.node fault.firing fault.round fault.cause _ _ _ _ _ _
          c.new-message.ensures c.in_ok-push_node.ensures c.in_ok-push_cause.ensures
          c.in_ok-add.ensures c.in_ok-number.ensures c.in_ok-push_round.ensures);
      plain = ap (λ (m : MessageView). m.kind) c.about.ensures;
    }
