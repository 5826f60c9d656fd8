-- Counts of units, one by one.
use Rattle.std.proofs.Common.{◌≡◌, sym, ap, ap₂, ◌∙◌, ℕ, ◌+◌, ◌-◌, ◌<◌, ◌≤◌, List, [], ◌∷◌, map}
use Rattle.std.proofs.Common.{sum, length, get_or, Bool, cond, arith}
use Rattle.std.proofs.lemmas.List.{get_or-map}
use Rattle.std.specs.List.{range_with_len}
use Rattle.std.proofs.lemmas.List.FromFn.{sum_by-map-range_with_len_more}
use Rattle.strc_elab_dataflow.specs.FusedUnits.{RoundUnit}
use Rattle.strc_elab_graph.specs.Graphs.{NodeCode}
use Rattle.strc_sched_orders.specs.declared.unit as unit_type
use Rattle.strc_fuse.specs.Units.{round_unit, round_units}
use Rattle.strc_batch.specs.Choice.{handing_at, hands_on, least_turns, no_unit}

pub least_few : (units : List RoundUnit) → least_turns units ≤ 64
least_few [] = omega arith
least_few (unit ∷ units) = omega (arith, least_few units)

-- one place more
pub handed_more : (marks : ℕ → ℕ) (place : ℕ) → 1 ≤ place
    → sum (map marks (range_with_len 0 ((place + 1) - 1)))
    ≡ sum (map marks (range_with_len 0 (place - 1))) + marks (place - 1)
handed_more marks place some =
    let more : (place + 1) - 1 ≡ (place - 1) + 1 = omega arith in
    ap (λ (n : ℕ). sum (map marks (range_with_len 0 n))) more
    ∙ sum_by-map-range_with_len_more (λ (x : ℕ). x) marks 0 (place - 1) (place - 1) (omega arith)

-- the unit at a place hands on to the next one, or doesn't
pub mark_is : (codes : List NodeCode) (units : List unit_type.Unit.Unit) (place : ℕ)
    (unit next : unit_type.Unit.Unit) (handed : Bool) → 1 ≤ place → place < length units
    → unit ≡ get_or units (place - 1) unit → next ≡ get_or units place next
    → handed ≡ hands_on codes (round_unit unit) (round_unit next)
    → handing_at codes (round_units units) (place - 1) ≡ cond handed 1 0
mark_is codes units place unit next handed some less is next_is so =
    let same : (place - 1) + 1 ≡ place = omega arith in
    let here : get_or (round_units units) (place - 1) no_unit ≡ round_unit unit =
    get_or-map round_unit units (place - 1) unit no_unit (omega arith)
    ∙ ap round_unit (sym is) in
    let after : get_or (round_units units) ((place - 1) + 1) no_unit ≡ round_unit next =
    ap (λ (n : ℕ). get_or (round_units units) n no_unit) same
    ∙ get_or-map round_unit units place next no_unit less ∙ ap round_unit (sym next_is) in
    ap (λ (t : Bool). cond t 1 0) (ap₂ (hands_on codes) here after ∙ sym so)
