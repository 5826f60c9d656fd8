-- What a builder has written.
use Rattle.strc_work_lowering.specs.declared.builder.Builder.{Builder}
use Rattle.strc_work_code.specs.Nodes.{Nodes, End}
use Rattle.strc_work_code.specs.Code.{block_before, insts_before}

-- the code of its nodes and of the instructions after them
unfoldable pub written : Builder → Nodes
written builder = block_before builder.nodes.items (insts_before builder.line.items End)
