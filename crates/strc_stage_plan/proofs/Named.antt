-- The firings of a round after fission, by the nodes before it, are those of the round before.
use Rattle.std.proofs.Common.{◌≡◌, refl, sym, ap, ◌∙◌, ℕ, zero, suc, ◌+◌, ◌*◌, ◌<◌, ◌≤◌}
use Rattle.std.proofs.Common.{arith, List, [], ◌∷◌, length, Bool, true, false, cond, inl, inr}
use Rattle.std.proofs.Common.{slice_get, Some, Option}
use Rattle.std.proofs.lemmas.Bool.{cases_lt, lt-ltb, le-ltb, true≢false}
use Rattle.std.proofs.lemmas.Option.{slice_get_past}
use Rattle.std.proofs.lemmas.Bool.{eq-eqb}
use Rattle.strc_elab_graph.specs.Graphs.{NodeCode, Graph, Scatter, Copy, Gather, Filter, Identity}
use Rattle.strc_elab_graph.specs.Graphs.{FileReader, FileWriter, Splitter, Joiner}
use Rattle.strc_elab_graph.specs.Rates.{fires_by_rounds}
use Rattle.strc_elab_graph.specs.declared.graph.Fission.{Fission}
use Rattle.strc_balance.specs.Balance.{count_at}
use Rattle.strc_sched_orders.specs.Firings.{turns_of}
use Rattle.strc_sched_orders.specs.Schedules.{ScheduleParts}
use Rattle.strc_sched_laws.specs.Planned.{IsPlanned}
use Rattle.strc_sched_laws.proofs.Orders.{AreNodes}
use Rattle.strc_elab_dataflow.specs.Blocks.{Block, One, All, AreBlocks, times, copies, old_order}
use Rattle.strc_elab_dataflow.specs.Blocks.{new_order}
use Rattle.strc_fiss.specs.Numbers.{is_dealt, last_part, base, parts_after}
use Rattle.strc_fiss.specs.Splitting.{code_at, copied, new_code, part_of}
use Rattle.strc_fiss.specs.Ways.{dealt, fission_of, ways_of}
use Rattle.strc_fiss.proofs.Renaming.{last_dealt}
use Rattle.strc_stage_plan.specs.Named.{old_firings, old_node, passes_on}
use Rattle.strc_stage_plan.proofs.NewNumbers as numbers
use Rattle.strc_stage_plan.proofs.NewNumbers.{IsNumber}

-- each node of an order is one of so many
abbrev pub AreBelow : (size : ℕ) → List ℕ → Type 0
AreBelow size [] = Unit {0}
AreBelow size (node ∷ order) = (node < size) × AreBelow size order

pub nodes_below : (old : Graph) (order : List ℕ) → AreNodes old order
    → AreBelow (length old.nodes) order
nodes_below old [] are = tt
nodes_below old (node ∷ order) are = (
  are node (omega (arith, own)),
  nodes_below old order (λ other some. are other (omega (arith, some))),
)
  where
    own : turns_of 1 node node ≡ 1
    own = ap (λ (t : Bool). cond t 1 0) (eq-eqb node node refl)

below_after : (size n node : ℕ) (later : List ℕ) → AreBelow size (times n node later)
    → AreBelow size later
below_after size zero node later are = are
below_after size (suc n) node later are = below_after size n node later are.1

times_more : (m n node : ℕ) (later : List ℕ)
    → times (m + n) node later ≡ times m node (times n node later)
times_more zero n node later =
    let e : 0 + n ≡ n = omega arith in ap (λ (k : ℕ). times k node later) e
times_more (suc m) n node later =
    let e : suc m + n ≡ suc (m + n) = omega arith in
    ap (λ (k : ℕ). times k node later) e ∙ ap (λ l. node ∷ l) (times_more m n node later)

plain_fires : (code : NodeCode) → fires_by_rounds code ≡ false → passes_on (Some code) ≡ false
plain_fires (Filter name filter) e = refl
plain_fires Identity e = refl
plain_fires (FileReader text) e = refl
plain_fires (FileWriter text) e = refl
plain_fires (Splitter splitter) e = refl
plain_fires (Joiner weights) e = refl
plain_fires (Scatter fission) e = absurd (cc)
plain_fires (Copy copied fission) e = refl
plain_fires (Gather fission) e = absurd (cc)

module _ (old : Graph) (schedule : ScheduleParts) (round : List ℕ) (ways : ℕ)
    (planned : IsPlanned old schedule) (fired : ℕ → ℕ) where
  abbrev share : ℕ → Fission
  share = fission_of old round ways

  abbrev nodes : List NodeCode
  nodes = numbers.nodes share old.nodes planned.unfissioned

  abbrev named : List ℕ → List ℕ
  named = old_firings nodes (numbers.origins share old.nodes planned.unfissioned)

  -- one firing
  module _ (v k : ℕ) (inside : v < length old.nodes) (within : k ≤ last_part share v)
      (later : List ℕ) where
    is : IsNumber share old.nodes planned.unfissioned (base share v + k) v k
    is = record { inside = inside; within = within; at = refl }

    test_is : (passes : Bool) → passes_on (Some (new_code share old.nodes v k)) ≡ passes
        → passes_on (slice_get nodes (base share v + k)) ≡ passes
    test_is passes e =
        ap passes_on (numbers.code_there share old.nodes planned.unfissioned (base share v + k) v k
        is)
        ∙ e

    named_by : Bool → List ℕ
    named_by t = cond t (named later)
        (old_node (numbers.origins share old.nodes planned.unfissioned) (base share v + k)
        ∷ named later)

    skipped : passes_on (Some (new_code share old.nodes v k)) ≡ true
        → named ((base share v + k) ∷ later) ≡ named later
    unfolding named_by
    skipped e = ap named_by (test_is true e)

    told : passes_on (Some (new_code share old.nodes v k)) ≡ false
        → named ((base share v + k) ∷ later) ≡ v ∷ named later
    unfolding named_by
    told e =
        ap named_by (test_is false e)
        ∙ ap (λ (n : ℕ). n ∷ named later)
        (numbers.origin_is share old.nodes planned.unfissioned (base share v + k) v k is)

  -- a node that isn't split
  whole_told : (u : ℕ) → u < length old.nodes → is_dealt (share u) ≡ false → (later : List ℕ)
      → named ((base share u + 0) ∷ later) ≡ u ∷ named later
  whole_told u inside e later =
      told u 0 inside (omega arith) later
      (ap (λ (t : Bool). passes_on (Some (cond t (part_of (code_at old.nodes u) (share u) 0)
      (code_at old.nodes u)))) e
      ∙ plain_fires (code_at old.nodes u)
      (numbers.old_plain share old.nodes planned.unfissioned (base share u + 0) u 0
      (is u 0 inside (omega arith) later)))

  -- a node that is split is there
  pub split_inside : (v : ℕ) → is_dealt (share v) ≡ true → v < length old.nodes
  split_inside v e = elim (cases_lt v (length old.nodes)) [
    | inl within ↦ within
    | inr past ↦ absurd (true≢false (sym e
        ∙ ap (λ (code : Option NodeCode). is_dealt (dealt code (count_at round v)
        (ways_of old round ways v))) (slice_get_past old.nodes v past)))
  ]

  module _ (v : ℕ) (e : is_dealt (share v) ≡ true) where
    last : last_part share v ≡ suc (share v).ways
    last = last_dealt (share v) e

    code_of : (k : ℕ) → new_code share old.nodes v k ≡ part_of (code_at old.nodes v) (share v) k
    code_of k = ap (λ (t : Bool). cond t (part_of (code_at old.nodes v) (share v) k)
        (code_at old.nodes v)) e

    scatter_skipped : (later : List ℕ) → named ((base share v + 0) ∷ later) ≡ named later
    scatter_skipped later = skipped v 0 (split_inside v e) (omega arith) later
        (ap (λ (code : NodeCode). passes_on (Some code)) (code_of 0))

    gather_skipped : (later : List ℕ)
        → named ((base share v + suc (share v).ways) ∷ later) ≡ named later
    gather_skipped later =
        skipped v (suc (share v).ways) (split_inside v e) (omega (arith, last)) later
        (ap (λ (code : NodeCode). passes_on (Some code)) (code_of (suc (share v).ways))
        ∙ ap (λ (t : Bool). passes_on (Some (cond t
        (Copy (copied (code_at old.nodes v)) (share v)) (Gather (share v)))))
        (le-ltb (share v).ways (share v).ways (omega arith)))

    copy_told : (i : ℕ) → i < (share v).ways → (later : List ℕ)
        → named ((base share v + suc i) ∷ later) ≡ v ∷ named later
    copy_told i less later =
        told v (suc i) (split_inside v e) (omega (arith, last, less)) later
        (ap (λ (code : NodeCode). passes_on (Some code)) (code_of (suc i))
        ∙ ap (λ (t : Bool). passes_on (Some (cond t
        (Copy (copied (code_at old.nodes v)) (share v)) (Gather (share v)))))
        (lt-ltb i (share v).ways less))

    copy_times : (i n : ℕ) → i < (share v).ways → (later : List ℕ)
        → named (times n (base share v + suc i) later) ≡ times n v (named later)
    copy_times i zero less later = refl
    copy_times i (suc n) less later =
        copy_told i less (times n (base share v + suc i) later)
        ∙ ap (λ l. v ∷ l) (copy_times i n less later)

    all_copies : (i left : ℕ) → i + left ≡ (share v).ways → (later : List ℕ)
        → named (copies (parts_after share fired) v i left later)
        ≡ times (left * (share v).firings) v (named later)
    all_copies i zero all later =
        let none : 0 * (share v).firings ≡ 0 = omega arith in
        ap (λ (n : ℕ). times n v (named later)) (sym none)
    all_copies i (suc left) all later =
        let firings = (share v).firings in
        let more : suc left * firings ≡ firings + left * firings = omega arith in
        copy_times i firings (omega (arith, all))
        (copies (parts_after share fired) v (suc i) left later)
        ∙ ap (times firings v) (all_copies (suc i) left (omega (arith, all)) later)
        ∙ sym (times_more firings (left * firings) v (named later))
        ∙ ap (λ (n : ℕ). times n v (named later)) (sym more)

  -- all firings of a round
  pub blocks_named : (blocks : List Block) → AreBlocks (parts_after share fired) blocks
      → AreBelow (length old.nodes) (old_order (parts_after share fired) blocks)
      → named (new_order (parts_after share fired) blocks)
      ≡ old_order (parts_after share fired) blocks
  blocks_named [] are below = refl
  blocks_named (One u ∷ rest) are below =
      whole_told u below.0 are.0 (new_order (parts_after share fired) rest)
      ∙ ap (λ l. u ∷ l) (blocks_named rest are.1 below.1)
  blocks_named (All v ∷ rest) are below =
      let later = new_order (parts_after share fired) rest in
      scatter_skipped v are.0 _
      ∙ all_copies v are.0 0 (share v).ways (omega arith) _
      ∙ ap (times ((share v).ways * (share v).firings) v) (gather_skipped v are.0 later
      ∙ blocks_named rest are.1
      (below_after (length old.nodes) ((share v).ways * (share v).firings) v
      (old_order (parts_after share fired) rest) below))
