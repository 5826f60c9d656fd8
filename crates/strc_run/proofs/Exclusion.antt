-- No text is both accepted and refused, or accepted with two streams.
use Rattle.std.proofs.Common.{◌≡◌, ℕ, List, length, map, Option, Result, Ok, Err, ap, ◌∙◌, sym}
use Rattle.std.proofs.Common.{subst, arith, inl, inr}
use Rattle.strc_parse_tree.specs.Tree.{Declaration}
use Rattle.strc_parse.specs.Texts.{Spells, SpellsOneProgram, SpelledTextsAreReadable}
use Rattle.strc_elab.specs.Elaboration.{elaborated}
use Rattle.strc_elab_stream.specs.Flattening.{nodes_of, outer_loops, IsFlat}
use Rattle.strc_elab_stream.specs.Instances.{Stream}
use Rattle.strc_elab_stream.specs.OneGraph.{HasOneGraph}
use Rattle.strc_elab_graph.specs.Graphs.{Channel, Graph, NodeCode}
use Rattle.strc_balance.specs.Balance.{count_at}
use Rattle.strc_balance.specs.Rates.{equation_of}
use Rattle.strc_balance.specs.Verdicts.{judged}
use Rattle.strc_balance.specs.declared.error.BalanceError.{BalanceError}
use Rattle.strc_balance.specs.declared.error.BalanceError.TheVariants as unbalanced
use Rattle.strc_startup.specs.Rates.{first_count, first_counts, rates_of, rates_of_channel}
use Rattle.strc_startup.specs.Startup.{IsLeast}
use Rattle.strc_sched_orders.specs.Schedules.{ScheduleParts, IsSchedule}
use Rattle.strc_elab_statements.specs.declared.error.ElabError.{ElabError}
use Rattle.strc_fiss.specs.Fissions.{IsTransformed}
use Rattle.strc_fiss.specs.Ways.{fission_of}
use Rattle.strc_stage_plan.specs.Refusals.{PassesNoLimit, TransformedOrRefused}
use Rattle.strc_stage_plan.specs.Laws.{OneStartup, ScheduledOrRefused}
use Rattle.strc_stage_plan.specs.Plans.{HasSchedule, HasStartup, PlanParts, graph_of}
use Rattle.strc_run_refusal.specs.declared.refusal.Refusal.{Refusal}
use Rattle.strc_run_refusal.specs.declared.refusal.Refusal.TheVariants as refusal
use Rattle.strc_run.specs.Accepts.{Accepts, CanRun, round_counts}
use Rattle.strc_run.specs.Choices.{Choice}
use Rattle.strc_run.specs.Laws.{AcceptedOrRefused, OneStream}
use Rattle.strc_run.specs.Rates.{rates_checked}
use Rattle.strc_run.specs.Refuses.{Breaks, CannotBalance, CannotFuse, CannotRun, CannotSchedule}
use Rattle.strc_run.specs.Refuses.{CannotSplit, CannotStart, IsUnreadable}

one_result : (result : Result Stream ElabError) (stream : Stream) (broken : ElabError)
    → result ≡ Ok stream → result ≡ Err broken → ⊥
one_result result stream broken one other =
    let both : ◌≡◌ {A = Result Stream ElabError} (Ok stream) (Err broken) = sym one ∙ other in
    absurd (cc)

same_stream : (result : Result Stream ElabError) (stream other : Stream) → result ≡ Ok stream
    → result ≡ Ok other → stream ≡ other
same_stream result stream other first second =
    let both : ◌≡◌ {A = Result Stream ElabError} (Ok stream) (Ok other) = sym first ∙ second in cc

-- a stream whose flat graph can be run isn't one whose flat graph can't
pub runs_or_not : (stream : Stream) (refused : Refusal) → CanRun stream
    → CannotRun stream refused → ⊥
runs_or_not stream refusal.NodeLimit runs cannot = let few = runs.few in omega arith
runs_or_not stream refusal.TwoInputs runs cannot = let one = runs.one_input in let more =
    cannot.1 in
    omega arith
runs_or_not stream (refusal.TapeTwice node) runs cannot = runs.apart node cannot.2.repeats
runs_or_not stream refusal.Disconnected runs cannot = cannot.3 runs.connected
runs_or_not stream refused runs cannot = cannot

-- graphs with the same nodes and channels have the same counts of a round
same_round : (one other : Graph) → one.nodes ≡ other.nodes → one.channels ≡ other.channels
    → round_counts one ≡ round_counts other
same_round one other nodes channels =
    ap (λ l. judged (length one.nodes) (map (equation_of one.nodes) l)) channels
    ∙ ap (λ l. judged (length l) (map (equation_of l) other.channels)) nodes

-- a graph has counts of a round, or it has none
balances_or_not : (counts : List ℕ) (one other : Graph) (refused : Refusal)
    → one.nodes ≡ other.nodes → one.channels ≡ other.channels → round_counts one ≡ Ok counts
    → CannotBalance other refused → ⊥
balances_or_not counts one other refused nodes channels balances cannot =
    by_refusal refused cannot (sym (same_round one other nodes channels) ∙ balances)
  where
    by_refusal : (refused : Refusal) → CannotBalance other refused → round_counts other ≡ Ok counts
        → ⊥
    by_refusal refusal.CountsTooLarge cannot balances =
        let both : ◌≡◌ {A = Result (List ℕ) BalanceError} (Ok counts)
        (Err unbalanced.CountsTooLarge) = sym balances ∙ cannot in absurd (cc)
    by_refusal (refusal.Inconsistent channel) cannot balances =
        let both : ◌≡◌ {A = Result (List ℕ) BalanceError} (Ok counts)
        (Err (unbalanced.Inconsistent channel)) = sym balances ∙ cannot in absurd (cc)
    by_refusal refused cannot balances = cannot

-- the rates of graphs with the same nodes and channels
same_rates : (one other : Graph) → one.nodes ≡ other.nodes → one.channels ≡ other.channels
    → rates_of one ≡ rates_of other
same_rates one other nodes channels =
    ap (λ l. map (rates_of_channel l) one.channels) nodes
    ∙ ap (λ l. map (rates_of_channel other.nodes) l) channels

-- start-up counts of one are those of the other
same_startup : (one other : Graph) (counts : List ℕ) → one.nodes ≡ other.nodes
    → one.channels ≡ other.channels → HasStartup one counts → HasStartup other counts
same_startup one other counts nodes channels has = record {
  least = subst (λ first. IsLeast first (rates_of other) counts) (ap (map first_count) nodes)
      (subst (λ rates. IsLeast (first_counts one) rates counts)
      (same_rates one other nodes channels) has.least);
  within = has.within;
}

-- a schedule of one, for the same counts, is one of the other
same_schedule : (one other : Graph) (startup begun round rounds : List ℕ) (schedule : ScheduleParts)
    → rates_of one ≡ rates_of other → count_at startup ≡ count_at begun → round ≡ rounds
    → HasSchedule one startup round schedule → HasSchedule other begun rounds schedule
same_schedule one other startup begun round rounds schedule rates first later has = record {
  is = subst (λ l. IsSchedule l (count_at begun) (count_at rounds) schedule) rates
      (subst (λ k. IsSchedule (rates_of one) k (count_at rounds) schedule) first
      (subst (λ l. IsSchedule (rates_of one) (count_at startup) (count_at l) schedule) later
      has.is));
  within = has.within;
}

-- graphs with the same nodes and channels have one list of counts of a round
one_round : (one other : Graph) (counts others : List ℕ) → one.nodes ≡ other.nodes
    → one.channels ≡ other.channels → round_counts one ≡ Ok counts → round_counts other ≡ Ok others
    → counts ≡ others
one_round one other counts others nodes channels balances balanced =
    let both : ◌≡◌ {A = Result (List ℕ) BalanceError} (Ok counts) (Ok others) =
    sym balances ∙ same_round one other nodes channels ∙ balanced in cc

-- a graph has start-up counts, or it has none
starts_or_not : (graph : Graph) (counts : List ℕ) (refused : Refusal) → HasStartup graph counts
    → CannotStart graph refused → ⊥
starts_or_not graph counts refusal.StartupUnbounded has cannot =
    cannot counts has.least.primed has.within
starts_or_not graph counts refused has cannot = cannot

-- a graph has a schedule, or it has none
schedules_or_not : ScheduledOrRefused → (graph : Graph) (startup round : List ℕ)
    (schedule : ScheduleParts) (refused : Refusal) → HasSchedule graph startup round schedule
    → CannotSchedule graph startup round refused → ⊥
schedules_or_not law graph startup round schedule (refusal.Deadlock in_startup) has cannot =
    (law graph startup round schedule has).0 in_startup cannot
schedules_or_not law graph startup round schedule (refusal.BufferLimit channel) has past =
    (law graph startup round schedule has).1 channel past
schedules_or_not law graph startup round schedule refused has cannot = cannot

-- a schedule that passes no limit can be split
split_or_not : (graph : Graph) (round : List ℕ) (schedule : ScheduleParts) (ways threshold : ℕ)
    (refused : Refusal) → PassesNoLimit graph round ways threshold schedule
    → CannotSplit graph round schedule ways refused → ⊥
split_or_not graph round schedule ways threshold refusal.NodeLimit none cannot = none.nodes cannot
split_or_not graph round schedule ways threshold (refusal.BufferLimit channel) none cannot =
    none.split channel cannot
split_or_not graph round schedule ways threshold refused none cannot = cannot

-- and then fused
fused_or_not : (graph : Graph) (round : List ℕ) (schedule : ScheduleParts) (ways threshold : ℕ)
    (refused : Refusal) → PassesNoLimit graph round ways threshold schedule
    → CannotFuse graph round schedule ways threshold refused → ⊥
fused_or_not graph round schedule ways threshold (refusal.BufferLimit channel) none cannot =
    none.fused channel cannot.split cannot.fission cannot.passes
fused_or_not graph round schedule ways threshold refused none cannot = cannot

-- graphs with the same nodes, channels and outermost loops are equal
same_graph : (one other : Graph) → one.nodes ≡ other.nodes → one.channels ≡ other.channels
    → one.outer_loops ≡ other.outer_loops → one ≡ other
same_graph one other nodes channels loops =
    ap (λ (l : List NodeCode). record one { nodes = l }) nodes
    ∙ ap (λ (l : List Channel). record one { nodes = other.nodes; channels = l }) channels
    ∙ ap (λ (l : List (Option ℕ)). record other { outer_loops = l }) loops

-- a text with a program can be read
readable : SpelledTextsAreReadable → (text : List ℕ) (program : List Declaration)
    (refused : Refusal) → Spells text program → IsUnreadable text refused → ⊥
readable law text program refusal.TextTooLong spells long = (law text program spells).short long
readable law text program (refusal.Lex at) spells stops = (law text program spells).lexes at stops
readable law text program (refusal.Parse token) spells none =
    (law text program spells).parses token none
readable law text program refusal.Nesting spells none = (law text program spells).nests none
readable law text program refused spells never = never

module _ (one_program : SpellsOneProgram) where
  -- the elaboration of the one program of a text is the only one
  pub only_stream : OneStream
  only_stream text choice plan other accepted again =
      let same = one_program text accepted.program again.program accepted.spells again.spells in
      same_stream (elaborated again.program choice.main) accepted.stream again.stream
      (subst (λ (program : List Declaration). elaborated program choice.main ≡ Ok accepted.stream)
      same accepted.elaborates) again.elaborates

  module _ (spelled : SpelledTextsAreReadable) (one_graph : HasOneGraph)
      (one_startup : OneStartup) (scheduled : ScheduledOrRefused)
      (transformed : TransformedOrRefused) where
    module _ (text : List ℕ) (choice : Choice) (plan : PlanParts)
        (accepted : Accepts text choice plan) (refused : Refusal) where
      -- what is the plan's is that of an equal graph
      planned_in : (program : List Declaration) (other : Stream) (graph : Graph)
          (counts startup : List ℕ) → elaborated program choice.main ≡ Ok accepted.stream
          → elaborated program choice.main ≡ Ok other → IsFlat other graph
          → round_counts graph ≡ Ok counts → HasStartup graph startup
          → graph.outer_loops ≡ outer_loops 0 other
          → HasSchedule graph startup counts plan.schedule
          × IsTransformed (fission_of graph counts choice.ways) graph plan.schedule choice.fuse
          plan.split
      planned_in program other graph counts startup elaborates is flat balances starts loops =
          let same = same_stream (elaborated program choice.main) accepted.stream other elaborates
          is in
          let one = one_graph accepted.stream (graph_of plan) graph accepted.flat
          (subst (λ (s : Stream). IsFlat s graph) (sym same) flat) in
          let first = one_startup graph plan.startup_counts startup
          (same_startup (graph_of plan) graph plan.startup_counts one.0 one.1 accepted.startup)
          starts in
          let round = one_round (graph_of plan) graph plan.round_counts counts one.0 one.1
          accepted.round balances in
          let whole = same_graph (graph_of plan) graph one.0 one.1
          (accepted.loops ∙ ap (λ (s : Stream). outer_loops 0 s) same ∙ sym loops) in (
            same_schedule (graph_of plan) graph plan.startup_counts startup plan.round_counts counts
                plan.schedule (same_rates (graph_of plan) graph one.0 one.1) first round
                accepted.schedule,
            subst (λ (g : Graph). IsTransformed (fission_of g counts choice.ways) g plan.schedule
                choice.fuse plan.split) whole
                (subst (λ (l : List ℕ). IsTransformed (fission_of (graph_of plan) l choice.ways)
                (graph_of plan) plan.schedule choice.fuse plan.split) round accepted.transformed),
          )

      -- so no greedy schedule of it passes a limit
      passes_none : (program : List Declaration) (other : Stream) (graph : Graph)
          (counts startup : List ℕ) (schedule : ScheduleParts)
          → elaborated program choice.main ≡ Ok accepted.stream
          → elaborated program choice.main ≡ Ok other → IsFlat other graph
          → round_counts graph ≡ Ok counts → HasStartup graph startup
          → HasSchedule graph startup counts schedule → graph.outer_loops ≡ outer_loops 0 other
          → PassesNoLimit graph counts choice.ways choice.fuse schedule
      passes_none program other graph counts startup schedule elaborates is flat balances starts has
          loops =
          let here = planned_in program other graph counts startup elaborates is flat balances
          starts loops in
          transformed graph (count_at startup) (count_at counts) counts choice.ways choice.fuse
          plan.schedule schedule plan.split here.0.is has.is here.1

      -- a program that means the accepted stream breaks no rule
      breaks_none : (program : List Declaration)
          → elaborated program choice.main ≡ Ok accepted.stream → Breaks program choice refused
          → ⊥
      breaks_none program elaborates (Breaks.InElaboration broken is reported) =
          one_result (elaborated program choice.main) accepted.stream broken elaborates is
      breaks_none program elaborates (Breaks.InGraph other is cannot) =
          let same = same_stream (elaborated program choice.main) accepted.stream other elaborates
          is in
          runs_or_not other refused (subst CanRun same accepted.runs) cannot
      breaks_none program elaborates (Breaks.InRates other is runs broken) =
          let same = same_stream (elaborated program choice.main) accepted.stream other elaborates
          is in
          let both : ◌≡◌ {A = Result (Unit {0}) Refusal} (Ok tt) (Err refused) =
          sym accepted.rates ∙ ap (λ (s : Stream). rates_checked 0 (nodes_of s)) same ∙ broken in
          absurd (cc)
      breaks_none program elaborates (Breaks.InBalance other graph is runs rates flat cannot) =
          let same = same_stream (elaborated program choice.main) accepted.stream other elaborates
          is in
          let one = one_graph accepted.stream (graph_of plan) graph accepted.flat
          (subst (λ (s : Stream). IsFlat s graph) (sym same) flat) in
          balances_or_not plan.round_counts (graph_of plan) graph refused one.0 one.1 accepted.round
          cannot
      breaks_none program elaborates
          (Breaks.InStartup other graph counts is runs rates flat balances cannot) =
          let same = same_stream (elaborated program choice.main) accepted.stream other elaborates
          is in
          let one = one_graph accepted.stream (graph_of plan) graph accepted.flat
          (subst (λ (s : Stream). IsFlat s graph) (sym same) flat) in
          starts_or_not graph plan.startup_counts refused
          (same_startup (graph_of plan) graph plan.startup_counts one.0 one.1 accepted.startup)
          cannot
      breaks_none program elaborates
          (Breaks.InSchedule other graph counts startup is runs rates flat balances starts cannot) =
          let same = same_stream (elaborated program choice.main) accepted.stream other elaborates
          is in
          let one = one_graph accepted.stream (graph_of plan) graph accepted.flat
          (subst (λ (s : Stream). IsFlat s graph) (sym same) flat) in
          let first = one_startup graph plan.startup_counts startup
          (same_startup (graph_of plan) graph plan.startup_counts one.0 one.1 accepted.startup)
          starts in
          let round = one_round (graph_of plan) graph plan.round_counts counts one.0 one.1
          accepted.round balances in
          schedules_or_not scheduled graph startup counts plan.schedule refused
          (same_schedule (graph_of plan) graph plan.startup_counts startup plan.round_counts counts
          plan.schedule (same_rates (graph_of plan) graph one.0 one.1) first round
          accepted.schedule)
          cannot
      breaks_none program elaborates
          (Breaks.InFission other graph counts startup schedule is runs rates flat balances starts
          has loops cannot) =
          split_or_not graph counts schedule choice.ways choice.fuse refused
          (passes_none program other graph counts startup schedule elaborates is flat balances
          starts has loops) cannot
      breaks_none program elaborates
          (Breaks.InFusion other graph counts startup schedule is runs rates flat balances starts
          has loops cannot) =
          fused_or_not graph counts schedule choice.ways choice.fuse refused
          (passes_none program other graph counts startup schedule elaborates is flat balances
          starts has loops) cannot

    pub excluded : AcceptedOrRefused
    excluded text choice plan refused accepted (inl unreadable) =
        readable spelled text accepted.program refused accepted.spells unreadable
    excluded text choice plan refused accepted (inr broken) =
        let same = one_program text accepted.program broken.0 accepted.spells broken.1 in
        breaks_none text choice plan accepted refused broken.0
        (subst (λ (program : List Declaration). elaborated program choice.main ≡ Ok accepted.stream)
        same
        accepted.elaborates) broken.2
