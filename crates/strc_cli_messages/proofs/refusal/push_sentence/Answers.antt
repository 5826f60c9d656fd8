use Rattle.std.specs.Option.{option_map}
use Rattle.strc_cli_messages.proofs.Refusing.{channel_said, limit_of, name_said, node_said}
use Rattle.strc_cli_messages.proofs.Refusing.{rates_of, stuck_said, token_said}
use Rattle.strc_cli_messages.proofs.Wording.{on_ok}
use Rattle.strc_cli_messages.proofs.refusal.push_sentence.Goals as goal

pub returns-in-Parse : goal.returns-in-Parse
returns-in-Parse c =
    on_ok _ (token_said c.args.known.source.text.now c.args.known.source.tokens.now
    (option_map (λ m. m.now) c.args.known.source.main)
    (option_map (λ p. p.now) c.args.known.program) (option_map (λ g. g.now) c.args.known.graph)
    c.args.site c.args.place c.args.refusal.now _ _ _ c.in-Parse.is)
    c.push_syntax.ensures

pub returns-in_ok-add-in-UnknownName : goal.returns-in_ok-add-in-UnknownName
returns-in_ok-add-in-UnknownName c =
    name_said c.args.known.source.text.now c.args.known.source.tokens.now
    (option_map (λ m. m.now) c.args.known.source.main)
    (option_map (λ p. p.now) c.args.known.program) (option_map (λ g. g.now) c.args.known.graph)
    c.args.site c.args.place c.args.refusal.now _ _ _ _ _ c.in-UnknownName.is
    c.as_bytes.ensures c.in_ok-quoted-in-UnknownName.ensures c.in_ok-add-in-UnknownName.ensures

pub returns-in_ok-moved_at-in-RateMismatch : goal.returns-in_ok-moved_at-in-RateMismatch
returns-in_ok-moved_at-in-RateMismatch c =
    on_ok _ (rates_of c.args.known.source.text.now c.args.known.source.tokens.now
    (option_map (λ m. m.now) c.args.known.source.main)
    (option_map (λ p. p.now) c.args.known.program) (option_map (λ g. g.now) c.args.known.graph)
    c.args.site c.args.place c.args.refusal.now _ _ _ _ _ _ c.in-RateMismatch.is
    c.in_ok-push_known_node-in-RateMismatch.ensures) c.push_rates.ensures

pub returns-in_ok-moved_at-in-RateLimit : goal.returns-in_ok-moved_at-in-RateLimit
returns-in_ok-moved_at-in-RateLimit c =
    on_ok _ (limit_of c.args.known.source.text.now c.args.known.source.tokens.now
    (option_map (λ m. m.now) c.args.known.source.main)
    (option_map (λ p. p.now) c.args.known.program) (option_map (λ g. g.now) c.args.known.graph)
    c.args.site c.args.place c.args.refusal.now _ _ _ _ c.in-RateLimit.is
    c.in_ok-push_known_node-in-RateLimit.ensures) c.push_limit.ensures

pub returns-in_ok-add-in-BufferLimit : goal.returns-in_ok-add-in-BufferLimit
returns-in_ok-add-in-BufferLimit c =
    channel_said c.args.known.source.text.now c.args.known.source.tokens.now
    (option_map (λ m. m.now) c.args.known.source.main)
    (option_map (λ p. p.now) c.args.known.program) (option_map (λ g. g.now) c.args.known.graph)
    c.args.site c.args.place c.args.refusal.now _ _ _ _ _ c.in-BufferLimit.is
    c.in_ok-push_channel-in-BufferLimit.ensures c.plain_sentence-in-BufferLimit.ensures
    c.in_ok-add-in-BufferLimit.ensures

pub returns-in_ok-push_stuck_loop-in-Deadlock : goal.returns-in_ok-push_stuck_loop-in-Deadlock
returns-in_ok-push_stuck_loop-in-Deadlock c =
    stuck_said c.args.known.source.text.now c.args.known.source.tokens.now
    (option_map (λ m. m.now) c.args.known.source.main)
    (option_map (λ p. p.now) c.args.known.program) (option_map (λ g. g.now) c.args.known.graph)
    c.args.site c.args.place c.args.refusal.now _ _ _ _ _ c.in-Deadlock.is
    c.plain_sentence-in-Deadlock.ensures c.in_ok-add-in-Deadlock.ensures
    c.in_ok-push_stuck_loop-in-Deadlock.ensures

pub returns-in_ok-add-in-RateUnknown : goal.returns-in_ok-add-in-RateUnknown
returns-in_ok-add-in-RateUnknown c =
    node_said c.args.known.source.text.now c.args.known.source.tokens.now
    (option_map (λ m. m.now) c.args.known.source.main)
    (option_map (λ p. p.now) c.args.known.program) (option_map (λ g. g.now) c.args.known.graph)
    c.args.site c.args.place c.args.refusal.now _ _ _ _ _ c.in-RateUnknown.is
    c.in_ok-push_known_node-in-RateUnknown.ensures c.plain_sentence-in-RateUnknown.ensures
    c.in_ok-add-in-RateUnknown.ensures
