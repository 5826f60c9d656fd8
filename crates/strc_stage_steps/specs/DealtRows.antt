-- A worked row: a reader, a filter that looks at three items and takes one, and a writer. The
-- reader has fired twice in start-up, so that two items wait at the filter, which is split in two
-- ways.
use Rattle.std.specs.Prelude.{◌≡◌, ℕ, pos, List, [], ◌∷◌, Some}
use Rattle.circular_buffer.specs.Buffer.{buffer}
use Rattle.strc_sched_laws.specs.Machine.{CircuitView, MachineView}
use Rattle.strc_sched_laws.specs.Rings.{ring_at}
use Rattle.strc_sched_machine.specs.Keeping.{Kept, kept_at}
use Rattle.strc_fiss.specs.Numbers.{each_part, origin_of}
use Rattle.strc_fiss.specs.Rows as fission
use Rattle.strc_fiss.specs.declared.split.Origin.{Origin}
use Rattle.strc_stage_steps.specs.Dealt.{IsDealt}

abbrev pub circuit : CircuitView
circuit = record {
  codes = fission.plain.nodes;
  inputs = [] ∷ (Some 0 ∷ []) ∷ (Some 1 ∷ []) ∷ [];
  outputs = (Some 0 ∷ []) ∷ (Some 1 ∷ []) ∷ [] ∷ [];
  input = pos 5 ∷ pos 7 ∷ pos 9 ∷ [];
}

abbrev pub before : MachineView
before = record {
  fields = [] ∷ [] ∷ [] ∷ [];
  fired = 2 ∷ 0 ∷ 0 ∷ [];
  rings = buffer (pos 5 ∷ pos 7 ∷ []) 3 ∷ buffer [] 1 ∷ [];
  words = [] ∷ [] ∷ [] ∷ [];
}

abbrev pub origins : List Origin
origins = each_part fission.share (origin_of fission.share) 3

-- for each channel after fission
abbrev pub sizes : List ℕ
sizes = 6 ∷ 4 ∷ 4 ∷ 2 ∷ 2 ∷ 4 ∷ []

abbrev pub unfired : Kept
unfired = record { fields = []; fired = 0; words = [] }

-- after it node 1 is the scatter, 2 and 3 are the copies, and 4 is the gather
pub record IsRow (after : MachineView) : Type 0 where
  pub reader : kept_at after 0 ≡ record { fields = []; fired = 2; words = [] }
  pub scatter : kept_at after 1 ≡ unfired
  pub first_copy : kept_at after 2 ≡ unfired
  pub second_copy : kept_at after 3 ≡ unfired
  pub gather : kept_at after 4 ≡ unfired
  pub writer : kept_at after 5 ≡ unfired
  pub at_scatter : ring_at after.rings 0 ≡ buffer (pos 5 ∷ pos 7 ∷ []) 6
  pub at_copy : ring_at after.rings 1 ≡ buffer [] 4
  pub at_gather : ring_at after.rings 3 ≡ buffer [] 2
  pub at_writer : ring_at after.rings 5 ≡ buffer [] 4

abbrev pub DealtRow : Type 0
DealtRow = (after : MachineView)
    → IsDealt circuit fission.split origins sizes before after → IsRow after
