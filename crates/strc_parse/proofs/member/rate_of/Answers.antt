use Rattle.std.proofs.Common.{◌∙◌, sym, rules}
use Rattle.strc_parse_grammar.specs.Streams.{rate_of}
use Rattle.strc_parse.proofs.RateViews.{has_rate_view}
use Rattle.strc_parse.proofs.member.rate_of.Goals as goal

pub returns-then-has_rate : goal.returns-then-has_rate
unfolding rate_of
returns-then-has_rate c =
    let has = has_rate_view c.args.kind c.args.so_far.now ∙ sym c.has_rate.ensures
    ∙ c.if-has_rate.true in
    rw has (search rules)

pub returns : goal.returns
unfolding rate_of
returns c =
    let fresh = has_rate_view c.args.kind c.args.so_far.now ∙ sym c.has_rate.ensures
    ∙ c.if-has_rate.false in
    rw fresh (search rules)
