-- What a call of a helper function is given.
use Rattle.std.specs.Prelude.{ℕ, suc}
use Rattle.strc_parse_tree.specs.Tree as tree

-- how many arguments there are
abbrev pub argument_count : tree.Arguments → ℕ
argument_count tree.NoArgument = 0
argument_count (tree.Argument first rest) = suc (argument_count rest)
