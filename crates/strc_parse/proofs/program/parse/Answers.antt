use Rattle.std.proofs.Common.{arith}
use Rattle.std.proofs.lemmas.List.{length-map}
use Rattle.strc_lex.specs.declared.token.Token.{Token}
use Rattle.strc_parse_grammar.specs.Grammar.{kinds}
use Rattle.strc_parse_grammar.proofs.Exact.{read_parses, parses_read, refused_within}
use Rattle.strc_parse_grammar.proofs.Exact.{refused_has_none}
use Rattle.strc_parse_grammar.proofs.Exact.{nests_long, nests_has_none}
use Rattle.strc_parse.proofs.program.parse.Goals as goal

pub overflow_sub-token : goal.overflow_sub-token
overflow_sub-token c =
    let refused = rw (c.in-Err-Fault-Unexpected.field-0-is, c.in-Err-Fault-Unexpected.field-0-0-is)
    at c.in-Err-Fault-Unexpected.ensures.gives in
    omega (
      arith,
      refused_within (kinds c.args.tokens.now) c.in-Err-Fault-Unexpected.left refused,
      length-map c.args.tokens.now (λ (t : Token). t.kind),
    )

pub returns-in-Ok-clause-ok : goal.returns-in-Ok-clause-ok
returns-in-Ok-clause-ok c = read_parses (kinds c.args.tokens.now) _ c.in-Ok.ensures.gives

pub returns-in-Ok-clause-found : goal.returns-in-Ok-clause-found
returns-in-Ok-clause-found c = λ p parses. let read =
    parses_read (kinds c.args.tokens.now) p parses in
    let given = c.in-Ok.ensures.gives in cc

pub returns-in-Err-Fault-Nesting-clause-refused : goal.returns-in-Err-Fault-Nesting-clause-refused
returns-in-Err-Fault-Nesting-clause-refused c =
    let nests = rw (c.in-Err-Fault-Nesting.field-0-is, c.in-Err-Fault-Nesting.field-0-0-is) at
    c.in-Err-Fault-Nesting.ensures.gives in
    (nests_long (kinds c.args.tokens.now) nests, nests_has_none (kinds c.args.tokens.now) nests)

pub returns-in-Err-Fault-Nesting-clause-found : goal.returns-in-Err-Fault-Nesting-clause-found
returns-in-Err-Fault-Nesting-clause-found c =
    let nests = rw (c.in-Err-Fault-Nesting.field-0-is, c.in-Err-Fault-Nesting.field-0-0-is) at
    c.in-Err-Fault-Nesting.ensures.gives in
    nests_has_none (kinds c.args.tokens.now) nests

pub returns-in-Err-Fault-Unexpected-clause-refused :
    goal.returns-in-Err-Fault-Unexpected-clause-refused
returns-in-Err-Fault-Unexpected-clause-refused c =
    let refused = rw (c.in-Err-Fault-Unexpected.field-0-is, c.in-Err-Fault-Unexpected.field-0-0-is)
    at c.in-Err-Fault-Unexpected.ensures.gives in (
      omega (arith, length-map c.args.tokens.now (λ (t : Token). t.kind)),
      refused_has_none (kinds c.args.tokens.now) c.in-Err-Fault-Unexpected.left refused,
    )

pub returns-in-Err-Fault-Unexpected-clause-found : goal.returns-in-Err-Fault-Unexpected-clause-found
returns-in-Err-Fault-Unexpected-clause-found c =
    let refused = rw (c.in-Err-Fault-Unexpected.field-0-is, c.in-Err-Fault-Unexpected.field-0-0-is)
    at c.in-Err-Fault-Unexpected.ensures.gives in
    λ p parses. refused_has_none (kinds c.args.tokens.now) c.in-Err-Fault-Unexpected.left refused p
    parses.1 parses.0
