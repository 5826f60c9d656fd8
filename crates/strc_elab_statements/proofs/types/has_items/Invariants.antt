use Rattle.std.proofs.Common.{◌≡◌, take, false}
use Rattle.std.specs.List.{list_any}
use Rattle.strc_elab_stream.specs.Types.{is_int}
use Rattle.strc_elab_statements.proofs.types.has_items.Given as goal

abbrev pub invariant-loop-side : goal.invariant-loop-side
invariant-loop-side l = list_any is_int (take l.side-index l.sides) ≡ false
