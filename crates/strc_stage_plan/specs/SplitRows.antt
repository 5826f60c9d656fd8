-- A worked row: a reader, a filter that looks at three items, takes one and gives one, and a
-- writer. The filter is split in two ways: what comes to each port before and after it.
use Rattle.std.specs.Prelude.{◌≡◌, ℕ, []}
use Rattle.strc_elab_dataflow.specs.Flat.{Source, Origin.Port}
use Rattle.strc_elab_graph.specs.FlatGraphs.{program_input}
use Rattle.strc_fiss.specs.Rows as fission
use Rattle.strc_stage_plan.specs.Owners.{Owner, owner}
use Rattle.strc_stage_plan.specs.Sources.{source_at}

-- what a node gives at a port
abbrev pub given : (node port : ℕ) → Source
given node port = record { enqueued = []; origin = Port node port }

-- a part of a node
abbrev pub part : (node part : ℕ) → Owner
part node number = record { node = node; part = number }

pub record SplitRow : Type 0 where
  pub reader : source_at fission.plain 0 0 ≡ program_input
  pub filter : source_at fission.plain 1 0 ≡ given 0 0
  pub writer : source_at fission.plain 2 0 ≡ given 1 0
  -- after it node 1 is the scatter, 2 and 3 are the copies, and 4 is the gather
  pub new_reader : source_at fission.split 0 0 ≡ program_input
  pub scatter : source_at fission.split 1 0 ≡ given 0 0
  pub first_copy : source_at fission.split 2 0 ≡ given 1 0
  pub second_copy : source_at fission.split 3 0 ≡ given 1 1
  pub gather_first : source_at fission.split 4 0 ≡ given 2 0
  pub gather_second : source_at fission.split 4 1 ≡ given 3 0
  pub new_writer : source_at fission.split 5 0 ≡ given 4 0
  -- whose parts these numbers are
  pub first_owner : owner fission.share 0 ≡ part 0 0
  pub copy_owner : owner fission.share 3 ≡ part 1 2
  pub last_owner : owner fission.share 5 ≡ part 2 0
