use Rattle.std.proofs.Common.{◌≡◌, ◌-◌, ◌<◌, Some, length, refl, arith, rules}
use Rattle.strc_parse_tree.specs.View.{expr_view}
use Rattle.strc_parse_grammar.specs.Grammar.{kinds}
use Rattle.strc_parse_grammar.specs.Reading.{expression, operator}
use Rattle.strc_parse_tree.specs.Tree as tree
use Rattle.std.proofs.lemmas.Result.{err_from_is_err_and}
use Rattle.strc_parse_grammar.proofs.Loops.{chains_on, chain_fails, chain_rises, expression_within}
use Rattle.strc_parse_grammar.proofs.Loops.{past_operator}
use Rattle.strc_parse_grammar.proofs.expression.ExpressionRules.chain.Goals as goal

pub loop-operator-init : goal.loop-operator-init
loop-operator-init g c = record {
  turns = length (kinds c.args.tokens.now);
  enough =
      omega arith;
  same = refl;
}

pub loop-operator-preserved : goal.loop-operator-preserved
loop-operator-preserved g c =
    let operator_is : operator c.args.rank (kinds c.loop-operator.rest.now)
    ≡ Some c.in-Some.operator =
    search rules in
    let read = rw c.tail.ensures at (rw c.in_ok-kept.ensures.1 at c.below.ensures) in
    let less : length (kinds c.in_ok-kept.right.rest.now) < length (kinds c.loop-operator.rest.now)
    =
    omega (arith, past_operator _ _ _ operator_is, expression_within _ _ _ _ _ _ read) in
    let made : expr_view c.in_ok-left.left
    ≡ tree.Binary c.in-Some.operator (expr_view c.loop-operator.left)
    (expr_view c.in_ok-kept.right.value) = search rules in
    rw made (chains_on c.args.self.now.depth (expression (c.args.self.now.depth - 1)) c.args.rank _
    (expr_view c.loop-operator.left) c.loop-operator.height
    (kinds c.loop-operator.rest.now) c.loop-operator.invariant c.in-Some.operator
    (expr_view c.in_ok-kept.right.value) c.in_ok-kept.right.height c.in_ok-parts.higher
    (kinds c.in_ok-kept.right.rest.now) operator_is read (search rules) less)

pub loop-operator-smaller : goal.loop-operator-smaller
loop-operator-smaller g c =
    let operator_is : operator c.args.rank (kinds c.loop-operator.rest.now)
    ≡ Some c.in-Some.operator =
    search rules in
    let read = rw c.tail.ensures at (rw c.in_ok-kept.ensures.1 at c.below.ensures) in
    omega (arith, past_operator _ _ _ operator_is, expression_within _ _ _ _ _ _ read)

pub returns-in_err-kept : goal.returns-in_err-kept
returns-in_err-kept g c =
    let p = err_from_is_err_and c.from_residual.result c.from_residual.ensures.1 in
    let operator_is : operator c.args.rank (kinds c.loop-operator.rest.now)
    ≡ Some c.in-Some.operator =
    search rules in
    rw (p.1, p.2) (chain_fails c.args.self.now.depth
    (expression (c.args.self.now.depth - 1)) c.args.rank _
    (expr_view c.loop-operator.left) c.loop-operator.height
    (kinds c.loop-operator.rest.now) c.loop-operator.invariant c.in_err-kept.field-0.0
    c.in-Some.operator operator_is
    (rw c.tail.ensures at (rw c.in_err-kept.ensures at c.below.ensures)))

pub returns-in_err-parts : goal.returns-in_err-parts
returns-in_err-parts g c =
    let p = err_from_is_err_and c.from_residual-in_err-parts.result
    c.from_residual-in_err-parts.ensures.1 in
    let operator_is : operator c.args.rank (kinds c.loop-operator.rest.now)
    ≡ Some c.in-Some.operator =
    search rules in
    let read = rw c.tail.ensures at (rw c.in_ok-kept.ensures.1 at c.below.ensures) in
    rw (p.1, p.2) (chain_rises c.args.self.now.depth
    (expression (c.args.self.now.depth - 1)) c.args.rank _
    (expr_view c.loop-operator.left) c.loop-operator.height
    (kinds c.loop-operator.rest.now) c.loop-operator.invariant c.in_err-parts.field-0.0
    c.in-Some.operator
    (expr_view c.in_ok-kept.right.value) c.in_ok-kept.right.height
    (kinds c.in_ok-kept.right.rest.now) operator_is read
    (rw c.max.ensures at c.in_err-parts.ensures))
