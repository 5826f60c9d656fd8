-- The round after fission names nodes that are there; and the shares of a graph's nodes.
use Rattle.std.proofs.Common.{◌≡◌, refl, sym, ap, ap₂, ◌∙◌, subst, ℕ, zero, suc, ◌+◌, ◌*◌, ◌/◌}
use Rattle.std.proofs.Common.{◌%◌, ◌<◌, ◌≤◌, arith}
use Rattle.std.proofs.Common.{List, [], ◌∷◌, All, Bool, true, false, cond, ◌&&◌}
use Rattle.std.proofs.Common.{Option, Some, None, nat_lt, eqb, slice_get, inl, inr, ◌⊎◌}
use Rattle.std.proofs.lemmas.Bool.{true≢false}
use Rattle.std.proofs.lemmas.Bool.Decides.{eqb_tells}
use Rattle.std.proofs.Math.Nat.{div-add-mod}
use borrow.Author.Tests.{ltb-true}
use Rattle.strc_elab_graph.specs.Graphs.{Graph, NodeCode, Filter, Identity, FileReader, FileWriter}
use Rattle.strc_elab_graph.specs.Graphs.{Splitter, Joiner, Scatter, Copy, Gather}
use Rattle.strc_elab_graph.specs.declared.graph.Fission.{Fission}
use Rattle.strc_balance.specs.Balance.{count_at}
use Rattle.strc_sched_orders.specs.declared.unit as units
use Rattle.strc_sched_orders.specs.Peaks.{HasNodes}
use Rattle.strc_elab_dataflow.specs.FusedUnits.{RoundUnit}
use Rattle.strc_elab_dataflow.specs.Pieces.{unit_of}
use Rattle.strc_fuse.specs.Units.{round_unit, round_units}
use Rattle.strc_fiss.specs.Numbers.{up_to, is_dealt, last_part, base}
use Rattle.strc_fiss.specs.Units.{renamed_unit, split_list, split_unit, split_units}
use Rattle.strc_fiss.specs.Units.{is_whole, units_of_parts}
use Rattle.strc_fiss.specs.Ways.{greatest_divisor, dealt, ways_of, fission_of, can_be_split}
use Rattle.strc_fiss.proofs.Bases.{base_below}
use Rattle.strc_fiss.proofs.Each.{Each, each_all, all_each, each_append, each_map, map_each}
use Rattle.strc_fiss.proofs.Each.{each_more}
use Rattle.strc_fiss.proofs.Each.{each_up_to}
use Rattle.strc_fiss.proofs.Joining.{both_true}
use Rattle.strc_fiss.proofs.Renaming.{last_dealt}

module _ (share : ℕ → Fission) (size : ℕ) where
  -- each node of a unit is below a number
  abbrev Below : (limit : ℕ) → RoundUnit → Type 0
  Below limit unit = Each (λ node. node < limit) unit.nodes

  number_there : (v k : ℕ) → v < size → k ≤ last_part share v → base share v + k < base share size
  number_there v k less within = omega (arith, within, base_below share v size less)

  renamed_there : (unit : RoundUnit) → Below size unit
      → Below (base share size) (renamed_unit share unit)
  renamed_there unit below =
      each_map (base share) (λ node. node < base share size) unit.nodes
      (each_more (λ node. node < size) (λ node. base share node < base share size) unit.nodes
      (λ node less. let there = number_there node 0 less (omega arith) in omega (arith, there))
      below)

  parts_there : (v : ℕ) → v < size → is_dealt (share v) ≡ true
      → Each (Below (base share size)) (units_of_parts share v)
  parts_there v less is =
      let last = last_dealt (share v) is in
      let first = number_there v 0 less (omega arith) in (
        (omega (arith, first), tt),
        each_append (Below (base share size))
            (up_to (λ copy. unit_of (share v).firings (base share v + suc copy)) (share v).ways)
            (unit_of 1 (base share v + suc (share v).ways) ∷ [])
            (each_up_to (Below (base share size))
            (λ copy. unit_of (share v).firings (base share v + suc copy)) (share v).ways
            (λ copy inside. (number_there v (suc copy) less (omega (arith, last, inside)), tt)))
            ((number_there v (suc (share v).ways) less (omega (arith, last)), tt), tt),
      )

  list_there : (turns : ℕ) (nodes : List ℕ) → Each (λ node. node < size) nodes
      → Each (Below (base share size)) (split_list share turns nodes)
  list_there turns [] below =
      (renamed_there (record { turns = turns; nodes = [] }) below, tt)
  list_there turns (node ∷ []) below = by_test (is_whole share turns node) refl
    where
      by_test : (t : Bool) → is_whole share turns node ≡ t
          → Each (Below (base share size)) (cond t (units_of_parts share node)
          (renamed_unit share (record { turns = turns; nodes = node ∷ [] }) ∷ []))
      by_test true e = parts_there node below.0
          (both_true (is_dealt (share node))
          (eqb turns ((share node).ways * (share node).firings)) e).0
      by_test false e = (renamed_there (record { turns = turns; nodes = node ∷ [] }) below, tt)
  list_there turns (first ∷ (second ∷ rest)) below =
      (renamed_there (record { turns = turns; nodes = first ∷ second ∷ rest }) below, tt)

  units_there : (round : List RoundUnit) → Each (Below size) round
      → Each (Below (base share size)) (split_units share round)
  units_there [] below = tt
  units_there (unit ∷ rest) below =
      each_append (Below (base share size)) (split_unit share unit) (split_units share rest)
      (list_there unit.turns unit.nodes below.0) (units_there rest below.1)

  pub nodes_there : (old new : List units.Unit.Unit) → All (HasNodes size) old
      → round_units new ≡ split_units share (round_units old)
      → All (HasNodes (base share size)) new
  nodes_there old new all is =
      each_all (HasNodes (base share size)) new
      (each_more (λ (unit : units.Unit.Unit). Below (base share size) (round_unit unit))
      (HasNodes (base share size)) new
      (λ unit below. each_all (λ node. node < base share size) unit.nodes.items below)
      (map_each round_unit (Below (base share size)) new
      (subst (Each (Below (base share size))) (sym is)
      (units_there (round_units old)
      (each_map round_unit (Below size) old
      (each_more (HasNodes size) (λ (unit : units.Unit.Unit). Below size (round_unit unit)) old
      (λ unit has. all_each (λ node. node < size) unit.nodes.items has)
      (all_each (HasNodes size) old all)))))))

-- the firings of a node that is split

pub dealt_shares : (code : Option NodeCode) (count ways : ℕ)
    → is_dealt (dealt code count ways) ≡ true
    → ((dealt code count ways).ways ≡ ways) × ((dealt code count ways).firings ≡ count / ways)
dealt_shares (Some (Filter name filter)) count ways is = (refl, refl)
dealt_shares (Some Identity) count ways is = (refl, refl)
dealt_shares (Some (FileReader text)) count ways is = absurd (true≢false (sym is))
dealt_shares (Some (FileWriter text)) count ways is = absurd (true≢false (sym is))
dealt_shares (Some (Splitter splitter)) count ways is = absurd (true≢false (sym is))
dealt_shares (Some (Joiner weights)) count ways is = absurd (true≢false (sym is))
dealt_shares (Some (Scatter fission)) count ways is = absurd (true≢false (sym is))
dealt_shares (Some (Copy copied fission)) count ways is = absurd (true≢false (sym is))
dealt_shares (Some (Gather fission)) count ways is = absurd (true≢false (sym is))
dealt_shares None count ways is = absurd (true≢false (sym is))

pub divides : (count most : ℕ) → count % greatest_divisor count most ≡ 0
divides count zero = omega arith
divides count (suc most) = elim (eqb_tells (count % suc most) 0) [
  | inl even ↦ ap (λ (t : Bool). count % cond t (suc most) (greatest_divisor count most)) even.0
      ∙ even.1
  | inr other ↦ ap (λ (t : Bool). count % cond t (suc most) (greatest_divisor count most)) other.0
      ∙ divides count most
]

-- what a test of two choices tells
pub chosen : (test : Bool) (other : ℕ) → 1 < cond test other 1
    → (test ≡ true) × (cond test other 1 ≡ other)
chosen true other more = (refl, refl)
chosen false other more = absurd (omega (arith, more))

module _ (graph : Graph) (round : List ℕ) (ways node : ℕ)
    (is : is_dealt (fission_of graph round ways node) ≡ true) where
  pub share_ways : (fission_of graph round ways node).ways ≡ ways_of graph round ways node
  share_ways = (dealt_shares (slice_get graph.nodes node) (count_at round node)
      (ways_of graph round ways node) is).0

  pub share_firings : (fission_of graph round ways node).firings
      ≡ count_at round node / ways_of graph round ways node
  share_firings = (dealt_shares (slice_get graph.nodes node) (count_at round node)
      (ways_of graph round ways node) is).1

  pub more_ways : 1 < ways_of graph round ways node
  more_ways =
      let more = ltb-true 1 (fission_of graph round ways node).ways is in
      omega (arith, more, share_ways)

  chosen_ways : ((can_be_split graph node && nat_lt 0 (count_at round node)) ≡ true)
      × (ways_of graph round ways node ≡ greatest_divisor (count_at round node) ways)
  chosen_ways = chosen (can_be_split graph node && nat_lt 0 (count_at round node))
      (greatest_divisor (count_at round node) ways) more_ways

  pub is_possible : can_be_split graph node ≡ true
  is_possible = (both_true (can_be_split graph node)
      (nat_lt 0 (count_at round node)) chosen_ways.0).0

  pub some_count : 0 < count_at round node
  some_count = ltb-true 0 (count_at round node)
      (both_true (can_be_split graph node) (nat_lt 0 (count_at round node)) chosen_ways.0).1

  -- the copies share the firings evenly
  pub all_dealt : (fission_of graph round ways node).ways
      * (fission_of graph round ways node).firings
      ≡ count_at round node
  all_dealt =
      let count = count_at round node in
      let copies = ways_of graph round ways node in
      ap₂ ◌*◌ share_ways share_firings
      ∙ none_left (copies * (count / copies)) (count % copies) count (div-add-mod count copies)
      (ap (λ (d : ℕ). count % d) chosen_ways.1 ∙ divides count ways)
    where
      none_left : (product rest count : ℕ) → product + rest ≡ count → rest ≡ 0 → product ≡ count
      none_left product rest count sum none = omega (arith, sum, none)

  pub some_firings : 0 < (fission_of graph round ways node).firings
  some_firings = elim (cases_zero (fission_of graph round ways node).firings) [
    | inl none ↦ absurd (omega (
      arith,
      all_dealt,
      some_count,
      ap (λ (n : ℕ). (fission_of graph round ways node).ways * n) none,
    ))
    | inr some ↦ some
  ]
    where
      cases_zero : (n : ℕ) → (n ≡ 0) ⊎ (0 < n)
      cases_zero zero = inl refl
      cases_zero (suc n) = inr (omega arith)
