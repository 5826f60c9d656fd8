-- The limits of texts, programs and runs, in numbers. The definitions that they bound cite the
-- code's constants.
use Rattle.std.specs.Prelude.{◌≡◌, pos}
use Rattle.strc_balance.specs.declared.fraction.TheConstants.{COUNT_LIMIT}
use Rattle.strc_elab_graph.specs.declared.graph.TheConstants.{NODE_LIMIT}
use Rattle.strc_elab_statements.specs.declared.weights.TheConstants.{WEIGHT_LIMIT}
use Rattle.strc_lex.specs.declared.lexer.TheConstants.{TEXT_LIMIT}
use Rattle.strc_parse_grammar.specs.declared.height.TheConstants.{HEIGHT_LIMIT}
use Rattle.strc_sched_orders.specs.declared.limit.TheConstants.{SIZE_LIMIT}
use Rattle.strc_work_code.specs.declared.code.TheConstants.{RATE_LIMIT}
use Rattle.strc_work_meaning.specs.declared.fault.TheConstants.{CALL_LIMIT, TURN_LIMIT}
use Rattle.strc_work_rules.specs.declared.type_rules.TheConstants.{LENGTH_LIMIT}

pub record LimitsAre : Type 0 where
  -- the bytes of a text, and the height of a statement's or an expression's tree
  pub text : TEXT_LIMIT ≡ 1048576
  pub height : HEIGHT_LIMIT ≡ 256
  pub nodes : NODE_LIMIT ≡ 4096
  -- turns of loops, and calls inside one another
  pub turns : TURN_LIMIT ≡ 1000000
  pub calls : CALL_LIMIT ≡ 64
  -- a rate, a weight, and the length of an array
  pub rate : RATE_LIMIT ≡ pos 65536
  pub weight : WEIGHT_LIMIT ≡ pos 65536
  pub array : LENGTH_LIMIT ≡ pos 65536
  -- the firings of a node in start-up or in a round, and the items of a buffer
  pub count : COUNT_LIMIT ≡ 1000000
  pub size : SIZE_LIMIT ≡ 16777216
