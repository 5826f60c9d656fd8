-- The units of a round after fission.
use Rattle.std.specs.Prelude.{ℕ, suc, ◌+◌, ◌*◌, Bool, cond, ◌&&◌, nat_eq, List, [], ◌∷◌, ◌++◌}
use Rattle.std.specs.Prelude.{map}
use Rattle.std.specs.List.{flat_map}
use Rattle.strc_elab_dataflow.specs.FusedUnits.{RoundUnit}
use Rattle.strc_elab_dataflow.specs.Pieces.{unit_of}
use Rattle.strc_elab_graph.specs.declared.graph.Fission.{Fission}
use Rattle.strc_fiss.specs.Numbers.{up_to, is_dealt, base}

-- the units of a scatter of this number, of its copies and of their gather
abbrev pub part_units : (number : ℕ) → Fission → List RoundUnit
part_units number fission = unit_of 1 number
    ∷ (up_to (λ copy. unit_of fission.firings (number + suc copy)) fission.ways
    ++ unit_of 1 (number + suc fission.ways) ∷ [])

-- so many firings are all of a node that is split
abbrev pub are_all : (turns : ℕ) → Fission → Bool
are_all turns fission = is_dealt fission && nat_eq turns (fission.ways * fission.firings)

module _ (share : ℕ → Fission) where
  -- a unit with the nodes' new numbers
  abbrev pub renamed_unit : RoundUnit → RoundUnit
  renamed_unit unit = record { turns = unit.turns; nodes = map (base share) unit.nodes }

  -- a node's scatter, each copy in turn and its gather, each a unit by itself
  abbrev pub units_of_parts : (node : ℕ) → List RoundUnit
  units_of_parts node = part_units (base share node) (share node)

  -- whether so many turns of a node are all firings of one that is split
  abbrev pub is_whole : (turns node : ℕ) → Bool
  is_whole turns node = are_all turns (share node)

  -- so many turns of a list after fission
  abbrev pub split_list : (turns : ℕ) → List ℕ → List RoundUnit
  split_list turns [] = renamed_unit (record { turns = turns; nodes = [] }) ∷ []
  split_list turns (node ∷ []) = cond (is_whole turns node) (units_of_parts node)
      (renamed_unit (record { turns = turns; nodes = node ∷ [] }) ∷ [])
  split_list turns (first ∷ (second ∷ rest)) =
      renamed_unit (record { turns = turns; nodes = first ∷ second ∷ rest }) ∷ []

  -- a unit after fission
  abbrev pub split_unit : RoundUnit → List RoundUnit
  split_unit unit = split_list unit.turns unit.nodes

  abbrev pub split_units : List RoundUnit → List RoundUnit
  split_units units = flat_map split_unit units
