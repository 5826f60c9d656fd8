-- How the readers that recurse go on, beside the code.
use Rattle.std.proofs.Common.{◌≡◌, ℕ, zero, suc, ◌+◌, ◌-◌, ◌<◌, List, length, Some, Ok, max, refl}
use Rattle.std.proofs.Common.{arith}
use Rattle.strc_lex.specs.declared.token.TokenKind.{TokenKind}
use Rattle.strc_parse_tree.specs.declared.tree.BinaryOperator.{BinaryOperator}
use Rattle.strc_parse_tree.specs.Tree as tree
use Rattle.strc_parse_grammar.specs.Reading.{◌>>=◌, Below, tail, raised, operator, chain, climb}
use Rattle.strc_parse_grammar.specs.Reading.{ranked}
use Rattle.strc_parse_grammar.specs.Reading.{expression}
use Rattle.strc_parse_grammar.specs.Streams.{shallow, statement}

pub expression_at : (depth rank : ℕ) (tokens : List TokenKind) → 0 < depth
    → expression depth rank tokens ≡ ranked depth (expression (depth - 1)) rank tokens
unfolding expression
expression_at zero rank tokens some = absurd (omega arith)
expression_at (suc depth) rank tokens some = let e : suc depth - 1 ≡ depth = omega arith in
    rw e refl

pub climb_at : (depth : ℕ) (below : Below) (rank : ℕ) (tokens : List TokenKind) → 0 < rank
    → climb depth below rank tokens ≡ (climb depth below (rank - 1) tokens >>= λ left.
    chain depth below rank (length left.2) left.0 left.1 left.2)
unfolding climb
climb_at depth below zero tokens some = absurd (omega arith)
climb_at depth below (suc rank) tokens some = let e : suc rank - 1 ≡ rank = omega arith in rw e refl

pub chain_on : (depth : ℕ) (below : Below) (rank n at : ℕ) (left : tree.Expr) (height : ℕ)
    (tokens : List TokenKind) (o : BinaryOperator) (right : tree.Expr) (right_height both : ℕ)
    (after : List TokenKind)
    → at < n → operator rank tokens ≡ Some o
    → below (rank - 1) (tail tokens) ≡ Ok (right, right_height, after)
    → raised depth (max height right_height) ≡ Ok both
    → chain depth below rank (n - at) left height tokens
    ≡ chain depth below rank (n - (at + 1)) (tree.Binary o left right) both after
unfolding chain
chain_on depth below rank n at left height tokens o right right_height both after lt is_operator
    is_right is_both =
    let turn : n - at ≡ suc (n - (at + 1)) = omega arith in
    rw (turn, is_operator, is_right, is_both) refl

pub statement_at : (depth : ℕ) (tokens : List TokenKind) → 0 < depth
    → statement depth tokens ≡ shallow depth (statement (depth - 1)) tokens
unfolding statement
statement_at zero tokens some = absurd (omega arith)
statement_at (suc depth) tokens some = let e : suc depth - 1 ≡ depth = omega arith in rw e refl
