-- A declared `split` as contracts speak of it.
use Rattle.strc_elab_statements.specs.Weights as weights
use Rattle.strc_elab_statements.specs.declared.weights.Split.{Split}
use Rattle.strc_elab_statements.specs.declared.weights.Split.TheVariants as split

-- a `split` whose weights are evaluated
abbrev pub split_view : Split → weights.Split
split_view split.ToEach = weights.ToEach
split_view (split.InTurn written) = weights.InTurn written.items
