-- Where each node is left whole, the units of a round are as they were.
use Rattle.std.proofs.Common.{◌≡◌, refl, ap, ◌∙◌, ℕ, zero, suc, ◌+◌, Bool, true, false, cond}
use Rattle.std.proofs.Common.{List, [], ◌∷◌, ◌++◌, map, Option, Some, None, arith}
use Rattle.std.specs.Prelude.{◌&&◌, ◌*◌, ◌%◌, nat_eq, nat_lt, slice_get}
use Rattle.strc_elab_dataflow.specs.FusedUnits.{RoundUnit}
use Rattle.strc_elab_graph.specs.Graphs.{Graph, NodeCode, Filter, Identity, FileReader, FileWriter}
use Rattle.strc_elab_graph.specs.Graphs.{Splitter, Joiner, Scatter, Copy, Gather}
use Rattle.strc_elab_graph.specs.declared.graph.Fission.{Fission}
use Rattle.strc_balance.specs.Balance.{count_at}
use Rattle.strc_fiss.specs.Numbers.{base, is_dealt, last_part}
use Rattle.strc_fiss.specs.Units.{split_list, split_unit, split_units, units_of_parts}
use Rattle.strc_fiss.specs.Ways.{can_be_split, dealt, fission_of, ways_of}

-- one copy of a node is the node itself

one_by : (split divides : Bool) (one : ℕ) → cond split (cond divides one one) one ≡ one
one_by true true one = refl
one_by true false one = refl
one_by false divides one = refl

one_way : (graph : Graph) (round : List ℕ) (node : ℕ) → ways_of graph round 1 node ≡ 1
one_way graph round node =
    one_by (can_be_split graph node && nat_lt 0 (count_at round node))
    (nat_eq (count_at round node % 1) 0) 1

dealt_whole : (code : Option NodeCode) (count ways : ℕ) → ways ≡ 1
    → is_dealt (dealt code count ways) ≡ false
dealt_whole None count ways one = refl
dealt_whole (Some (Filter name filter)) count ways one = ap (nat_lt 1) one
dealt_whole (Some Identity) count ways one = ap (nat_lt 1) one
dealt_whole (Some (FileReader text)) count ways one = refl
dealt_whole (Some (FileWriter text)) count ways one = refl
dealt_whole (Some (Splitter splitter)) count ways one = refl
dealt_whole (Some (Joiner weights)) count ways one = refl
dealt_whole (Some (Scatter fission)) count ways one = refl
dealt_whole (Some (Copy copied fission)) count ways one = refl
dealt_whole (Some (Gather fission)) count ways one = refl

pub left_whole : (graph : Graph) (round : List ℕ) (node : ℕ)
    → is_dealt (fission_of graph round 1 node) ≡ false
left_whole graph round node =
    dealt_whole (slice_get graph.nodes node) (count_at round node) (ways_of graph round 1 node)
    (one_way graph round node)

-- so nodes keep their numbers, and units are as they were
module _ (share : ℕ → Fission) (whole : (node : ℕ) → is_dealt (share node) ≡ false) where
  base_same : (node : ℕ) → base share node ≡ node
  base_same zero = refl
  base_same (suc node) =
      let one : last_part share node ≡ 0 =
      ap (λ (t : Bool). cond t (suc (share node).ways) 0) (whole node) in
      let next : base share node + suc (last_part share node) ≡ suc node =
      omega (arith, base_same node, one) in
      next

  renamed_same : (nodes : List ℕ) → map (base share) nodes ≡ nodes
  renamed_same [] = refl
  renamed_same (node ∷ rest) =
      ap (λ (n : ℕ). n ∷ map (base share) rest) (base_same node)
      ∙ ap (λ (l : List ℕ). node ∷ l) (renamed_same rest)

  abbrev unit_with : (turns : ℕ) → List ℕ → List RoundUnit
  unit_with turns nodes = record { turns = turns; nodes = nodes } ∷ []

  list_same : (turns : ℕ) (nodes : List ℕ) → split_list share turns nodes ≡ unit_with turns nodes
  list_same turns [] = refl
  list_same turns (node ∷ []) =
      ap (λ (t : Bool). cond (t && nat_eq turns ((share node).ways * (share node).firings))
      (units_of_parts share node) (unit_with turns (base share node ∷ []))) (whole node)
      ∙ ap (unit_with turns) (renamed_same (node ∷ []))
  list_same turns (first ∷ (second ∷ rest)) =
      ap (unit_with turns) (renamed_same (first ∷ second ∷ rest))

  pub units_same : (units : List RoundUnit) → split_units share units ≡ units
  units_same [] = refl
  units_same (unit ∷ rest) =
      ap (λ (l : List RoundUnit). l ++ split_units share rest) (list_same unit.turns unit.nodes)
      ∙ ap (λ (l : List RoundUnit). unit ∷ l) (units_same rest)
