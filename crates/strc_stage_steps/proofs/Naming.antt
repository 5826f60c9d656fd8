-- What rounds after fission come to is named by the nodes before it.
use Rattle.std.proofs.Common.{◌≡◌, refl, sym, ap, ◌∙◌, ℕ, suc, ◌+◌, ◌*◌, ◌/◌, ◌%◌}
use Rattle.std.proofs.Common.{◌<◌, ◌≤◌, ◌^◌, arith, List, [], ◌∷◌, length, Bool, true, false}
use Rattle.std.proofs.Common.{cond, Option, Some, None, slice_get, eqb, inl, inr, map}
use Rattle.std.proofs.Math.Nat.{mul-add-mod_self_right, mod-eq_of_lt}
use Rattle.std.proofs.lemmas.Nat.{div-mul-add}
use Rattle.std.proofs.lemmas.Bool.{eq-eqb, lt-ltb}
use Rattle.std.proofs.lemmas.Option.{same_Some}
use Rattle.strc_work_meaning.specs.declared.fault.Cause.{Cause}
use Rattle.strc_work_meaning.specs.declared.word.Word.{Word}
use Rattle.strc_elab_dataflow.specs.Answer.{Outcome, Outcome.Done, Outcome.StartupFault}
use Rattle.strc_elab_dataflow.specs.Answer.{Outcome.RoundFault}
use Rattle.strc_elab_dataflow.specs.Histories.{Run}
use Rattle.strc_elab_dataflow.specs.Machine.{Stop, first_fault, stop_at, or_else}
use Rattle.strc_elab_dataflow.specs.Order as orders
use Rattle.strc_elab_graph.specs.Graphs.{NodeCode, Graph, Scatter, Copy, Gather, Filter}
use Rattle.strc_elab_graph.specs.Graphs.{Identity, FileReader, FileWriter, Splitter, Joiner}
use Rattle.strc_elab_graph.specs.Tapes.{tape_nodes}
use Rattle.strc_elab_graph.specs.Rates.{fires_by_rounds}
use Rattle.strc_elab_graph.specs.declared.graph.Fission.{Fission}
use Rattle.strc_balance.specs.Balance.{count_at}
use Rattle.strc_sched_orders.specs.Order.{firing_count}
use Rattle.strc_sched_laws.specs.Laws.{startup_order}
use Rattle.strc_elab_dataflow.specs.Blocks.{IsOldStop}
use Rattle.strc_elab_dataflow.specs.Runs.{AreSameWords, IsSameOutcome}
use Rattle.strc_elab_dataflow.specs.Split.{Parts}
use Rattle.strc_fiss.specs.Numbers.{is_dealt, last_part, base, first_of, origin_of, parts_after}
use Rattle.strc_fiss.specs.Splitting.{code_at, copied, new_code}
use Rattle.strc_fiss.specs.Ways.{fission_of}
use Rattle.strc_fiss.specs.declared.split.Origin.{Origin}
use Rattle.strc_fiss.proofs.Lookup.{part_value}
use Rattle.strc_fiss.proofs.Planned.{all_dealt}
use Rattle.strc_fiss.proofs.Renaming.{last_dealt}
use Rattle.strc_stage_plan.specs.Named.{old_node}
use Rattle.strc_stage_plan.proofs.NewNumbers.{IsNumber, code_there, old_plain, origin_is}
use Rattle.strc_stage_plan.proofs.NewNumbers.{whole_code}
use Rattle.strc_stage_plan.proofs.NewNumbers.{dealt_code}
use Rattle.strc_stage_plan.proofs.Named.{split_inside}
use Rattle.strc_stage_plan.specs.Plans.{PlanParts, IsPlan, graph_of, transformed_of}
use Rattle.strc_stage_steps.specs.Names.{HaveSameTapes, IsNamedSo, IsOldFault, firing_by, origin_at}
use Rattle.strc_stage_steps.specs.Names.{old_firing}
use Rattle.strc_stage_steps.proofs.Plans.{graph_is, origins_are}
use Rattle.strc_stage_steps.proofs.Tapes.{tapes_same}

-- ---- the first fault of an order is one of its firings

module _ {State Cause Word : Type 0} (all : ℕ → Run State Cause Word) where
  pub record IsOfOrder (counts : ℕ → ℕ) (order : List ℕ) (stop : Stop Cause) : Type 0 where
    pub fires : 0 < firing_count order stop.node
    pub firing : stop.firing < counts stop.node + firing_count order stop.node

  stop_here : (node firing fired : ℕ) (fault : Option Cause) (stop : Stop Cause)
      → stop_at node firing fired fault ≡ Some stop → (stop.node ≡ node) × (stop.firing ≡ firing)
  unfolding stop_at
  stop_here node firing fired None stop e = absurd (cc)
  stop_here node firing fired (Some cause) stop e = by_test (eqb fired firing) e
    where
      by_test : (t : Bool)
          → cond t (Some (record { node = node; firing = firing; cause = cause })) None ≡ Some stop
          → (stop.node ≡ node) × (stop.firing ≡ firing)
      by_test true e =
          let same = sym (same_Some _ stop e) in
          (ap (λ (s : Stop Cause). s.node) same, ap (λ (s : Stop Cause). s.firing) same)
      by_test false e = absurd (cc)

  counted_here : (node other : ℕ) (order : List ℕ)
      → firing_count (node ∷ order) other
      ≡ firing_count (node ∷ []) other + firing_count order other
  counted_here node other order = omega arith

  own_count : (node : ℕ) (order : List ℕ)
      → firing_count (node ∷ order) node ≡ suc (firing_count order node)
  own_count node order =
      let own = ap {B = ℕ} (λ (t : Bool). cond t 1 0) (eq-eqb node node refl) in
      omega (arith, own)

  raised_count : (counts : ℕ → ℕ) (node other : ℕ) (order : List ℕ)
      → orders.raised counts node other + firing_count order other
      ≡ counts other + firing_count (node ∷ order) other
  unfolding orders.raised
  raised_count counts node other order = by_test (eqb other node)
    where
      by_test : (t : Bool)
          → cond t (suc (counts other)) (counts other) + firing_count order other
          ≡ counts other + (cond t 1 0 + firing_count order other)
      by_test true = omega arith
      by_test false = omega arith

  pub of_order : (counts : ℕ → ℕ) (order : List ℕ) (stop : Stop Cause)
      → first_fault all counts order ≡ Some stop → IsOfOrder counts order stop
  unfolding first_fault or_else
  of_order counts [] stop e = absurd (cc)
  of_order counts (node ∷ order) stop e =
      by_stop (stop_at node (counts node) (all node).fired (all node).fault) refl e
      (of_order (orders.raised counts node) order stop)
    where
      by_stop : (found : Option (Stop Cause))
          → stop_at node (counts node) (all node).fired (all node).fault ≡ found
          → or_else found (first_fault all (orders.raised counts node) order) ≡ Some stop
          → (first_fault all (orders.raised counts node) order ≡ Some stop
          → IsOfOrder (orders.raised counts node) order stop)
          → IsOfOrder counts (node ∷ order) stop
      by_stop (Some here) own e of_later =
          let at = stop_here node (counts node) (all node).fired (all node).fault stop (own ∙ e) in
          let fires : firing_count (node ∷ order) stop.node
          ≡ suc (firing_count order stop.node) =
          ap (λ (n : ℕ). firing_count (n ∷ order) stop.node) (sym at.0)
          ∙ own_count stop.node order in
          record {
            fires = omega (arith, fires);
            firing = omega (arith, fires, at.1, ap counts at.0);
          }
      by_stop None own e of_later =
          let later = of_later e in
          let more = counted_here node stop.node order in
          record {
            fires = omega (arith, later.fires, more);
            firing = omega (arith, later.firing, raised_count counts node stop.node order);
          }

-- ---- a fault by the node before fission

plain_firing : (code : NodeCode) (startup each first firing : ℕ) → fires_by_rounds code ≡ false
    → firing_by (Some code) startup each first firing ≡ firing
plain_firing (Filter name filter) startup each first firing e = refl
plain_firing Identity startup each first firing e = refl
plain_firing (FileReader text) startup each first firing e = refl
plain_firing (FileWriter text) startup each first firing e = refl
plain_firing (Splitter splitter) startup each first firing e = refl
plain_firing (Joiner weights) startup each first firing e = refl
plain_firing (Scatter fission) startup each first firing e = refl
plain_firing (Copy copied fission) startup each first firing e = absurd (cc)
plain_firing (Gather fission) startup each first firing e = refl

module _ (plan : PlanParts) (is : IsPlan plan) where
  abbrev share : ℕ → Fission
  share = fission_of (graph_of plan) plan.round_counts is.transformation.ways

  abbrev size : ℕ
  size = length (graph_of plan).nodes

  abbrev parts : Parts
  parts = parts_after share (firing_count (startup_order plan.schedule))

  abbrev Number : (number node part : ℕ) → Type 0
  Number = IsNumber share (graph_of plan).nodes is.planned.unfissioned

  module _ (v k : ℕ) (inside : v < size) (within : k ≤ last_part share v) where
    number : Number (base share v + k) v k
    number = record { inside = inside; within = within; at = refl }

    code_is : slice_get (transformed_of plan).nodes (base share v + k)
        ≡ Some (new_code share (graph_of plan).nodes v k)
    code_is =
        ap (λ (g : Graph). slice_get g.nodes (base share v + k)) (graph_is plan is)
        ∙ code_there share (graph_of plan).nodes is.planned.unfissioned (base share v + k) v k
        number

    pub old_is : old_node plan.split.origins (base share v + k) ≡ v
    old_is =
        ap (λ (l : List Origin). old_node l (base share v + k)) (origins_are plan is)
        ∙ origin_is share (graph_of plan).nodes is.planned.unfissioned (base share v + k) v k
        number

    first_is : (origin_at plan.split.origins (base share v + k)).first ≡ first_of (share v) k
    first_is =
        ap (λ (l : List Origin). (origin_at l (base share v + k)).first) (origins_are plan is)
        ∙ ap (λ (o : Origin). o.first)
        (part_value share (origin_of share) size v k (record { node = 0; first = 0 }) inside within)

  -- a node that isn't split
  whole_firing : (u firing : ℕ) → u < size → is_dealt (share u) ≡ false
      → old_firing plan (base share u + 0) firing ≡ firing
  whole_firing u firing inside e =
      let origin = origin_at plan.split.origins (base share u + 0) in
      let startup = count_at plan.startup_counts origin.node in
      let each = count_at plan.round_counts origin.node in
      ap (λ (c : Option NodeCode). firing_by c startup each origin.first firing)
      (code_is u 0 inside (omega arith)
      ∙ ap Some (whole_code share (graph_of plan).nodes is.planned.unfissioned (base share u + 0) u
      0 (number u 0 inside (omega arith)) e))
      ∙ plain_firing (code_at (graph_of plan).nodes u) startup each origin.first firing
      (old_plain share (graph_of plan).nodes is.planned.unfissioned (base share u + 0) u 0
      (number u 0 inside (omega arith)))

  -- a copy
  module _ (v copy round in_round : ℕ) (dealt : is_dealt (share v) ≡ true)
      (copy_less : copy < (share v).ways) (in_less : in_round < (share v).firings) where
    inside : v < size
    inside = split_inside (graph_of plan) plan.schedule plan.round_counts is.transformation.ways
        is.planned (λ node. 0) v dealt

    within : suc copy ≤ last_part share v
    within = let last = last_dealt (share v) dealt in omega (arith, last, copy_less)

    copy_code : new_code share (graph_of plan).nodes v (suc copy)
        ≡ Copy (copied (code_at (graph_of plan).nodes v)) (share v)
    copy_code =
        dealt_code share (graph_of plan).nodes is.planned.unfissioned (base share v + suc copy) v
        (suc copy) (number v (suc copy) inside within) dealt
        ∙ ap (λ (t : Bool). cond t (Copy (copied (code_at (graph_of plan).nodes v)) (share v))
        (Gather (share v))) (lt-ltb copy (share v).ways copy_less)

    first_firing : first_of (share v) (suc copy) ≡ copy * (share v).firings
    first_firing = ap (λ (t : Bool). cond t (copy * (share v).firings) 0)
        (lt-ltb copy (share v).ways copy_less)

    whole_round : (round * (share v).firings + in_round) / (share v).firings ≡ round
    whole_round = div-mul-add round (share v).firings in_round in_less

    rest : (round * (share v).firings + in_round) % (share v).firings ≡ in_round
    rest = mul-add-mod_self_right round (share v).firings in_round ∙ mod-eq_of_lt in_less

    startup_is : count_at plan.startup_counts v ≡ firing_count (startup_order plan.schedule) v
    startup_is =
        ap (λ (l : List ℕ). count_at l v) (sym is.startup_is)
        ∙ sym (is.planned.schedule.startup_order.all v)

    each_is : count_at plan.round_counts v ≡ (share v).ways * (share v).firings
    each_is = sym (all_dealt (graph_of plan) plan.round_counts is.transformation.ways v dealt)

    copy_firing : old_firing plan (base share v + suc copy)
        (round * (share v).firings + in_round)
        ≡ firing_count (startup_order plan.schedule) v
        + round * ((share v).ways * (share v).firings)
        + (copy * (share v).firings + in_round)
    copy_firing =
        let n : ℕ = round * (share v).firings + in_round in
        let origin = origin_at plan.split.origins (base share v + suc copy) in
        let startup = count_at plan.startup_counts origin.node in
        let each = count_at plan.round_counts origin.node in
        let by_code = ap (λ (c : Option NodeCode). firing_by c startup each origin.first n)
        (code_is v (suc copy) inside within ∙ ap Some copy_code) in
        let node_is : origin.node ≡ v = old_is v (suc copy) inside within in
        let startups = ap (count_at plan.startup_counts) node_is ∙ startup_is in
        let eachs = ap (count_at plan.round_counts) node_is ∙ each_is in
        let firsts = first_is v (suc copy) inside within ∙ first_firing in
        let rounds : n / (share v).firings * each
        ≡ round * ((share v).ways * (share v).firings) =
        ap (λ (q : ℕ). q * each) whole_round ∙ ap (λ (r : ℕ). round * r) eachs in
        omega (arith, by_code, startups, firsts, rounds, rest)

  -- ---- a fault

  pub fault_is_old : (stop other : Stop Cause) → IsOldStop parts stop other → stop.node < size
      → stop.firing < 2 ^ 64 → IsOldFault plan stop other
  fault_is_old stop other (inl same) inside less =
      let whole : is_dealt (share stop.node) ≡ false = same.not_split in
      record {
        node = sym (ap (old_node plan.split.origins) same.node
            ∙ old_is stop.node 0 inside (omega arith));
        firing = sym (ap (λ (n : ℕ). old_firing plan n other.firing) same.node
            ∙ whole_firing stop.node other.firing inside whole
            ∙ same.firing);
        cause = sym same.cause;
        numbered = less;
      }
  fault_is_old stop other (inr copied_stop) inside less =
      let dealt : is_dealt (share stop.node) ≡ true = copied_stop.split in
      let within : suc copied_stop.copy ≤ last_part share stop.node =
      let last = last_dealt (share stop.node) dealt in
      omega (arith, last, copied_stop.copy_less) in
      record {
        node = sym (ap (old_node plan.split.origins) copied_stop.node
            ∙ old_is stop.node (suc copied_stop.copy) inside within);
        firing = copied_stop.old_firing
            ∙ sym (copy_firing stop.node copied_stop.copy copied_stop.round copied_stop.in_round
            dealt copied_stop.copy_less copied_stop.in_round_less)
            ∙ ap (old_firing plan (base share stop.node + suc copied_stop.copy))
            (sym copied_stop.firing)
            ∙ ap (λ (n : ℕ). old_firing plan n other.firing) (sym copied_stop.node);
        cause = sym copied_stop.cause;
        numbered = less;
      }

  -- ---- words

  pub words_are_old : (words others : ℕ → List Word) → AreSameWords parts words others
      → HaveSameTapes plan words others
  words_are_old words others same =
      ap (λ (g : Graph). map others (tape_nodes g.nodes)) (graph_is plan is)
      ∙ tapes_same (graph_of plan) plan.schedule plan.round_counts is.transformation.ways
      is.planned others words (λ v inside whole. same.kept v whole)

  pub tapes_are_old : map (old_node plan.split.origins) (tape_nodes (transformed_of plan).nodes)
      ≡ tape_nodes (graph_of plan).nodes
  tapes_are_old =
      ap (λ (g : Graph). map (old_node plan.split.origins) (tape_nodes g.nodes)) (graph_is plan is)
      ∙ tapes_same (graph_of plan) plan.schedule plan.round_counts is.transformation.ways
      is.planned (old_node plan.split.origins) (λ v. v)
      (λ v inside whole. old_is v 0 inside (omega arith))
      ∙ map_own (tape_nodes (graph_of plan).nodes)
    where
      map_own : (numbers : List ℕ) → map (λ (v : ℕ). v) numbers ≡ numbers
      map_own [] = refl
      map_own (n ∷ numbers) = ap (λ l. n ∷ l) (map_own numbers)

  -- ---- an outcome

  pub named_so : (old new : Outcome Cause Word) → IsSameOutcome parts old new
      → ((q : ℕ) (stop : Stop Cause) (words : ℕ → List Word) → old ≡ RoundFault q stop words
      → (stop.node < size) × (stop.firing < 2 ^ 64))
      → IsNamedSo plan old new
  named_so (Done words) (Done others) same bounded = words_are_old words others same
  named_so (Done words) (StartupFault stop) same bounded = absurd same
  named_so (Done words) (RoundFault q stop others) same bounded = absurd same
  named_so (StartupFault stop) new same bounded = absurd same
  named_so (RoundFault q stop words) (Done others) same bounded = absurd same
  named_so (RoundFault q stop words) (StartupFault other) same bounded = absurd same
  named_so (RoundFault q stop words) (RoundFault r other others) same bounded =
      let bounds = bounded q stop words refl in
      (same.0, fault_is_old stop other same.1 bounds.0 bounds.1, words_are_old words others same.2)
