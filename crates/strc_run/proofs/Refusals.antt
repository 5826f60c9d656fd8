-- What is answered for a text holds by the definitions.
use Rattle.std.proofs.Common.{◌≡◌, refl, sym, ap, ◌∙◌, subst, List, [], ◌∷◌, ℕ, ◌+◌, Result}
use Rattle.std.proofs.Common.{Ok, Err, inl, inr}
use Rattle.std.specs.Prelude.{Bool, true, false}
use Rattle.std.specs.Result.{IsErrAnd}
use Rattle.strc_parse_tree.specs.Tree.{Declaration}
use Rattle.strc_parse.specs.Texts.{Spells}
use Rattle.strc_elab_statements.specs.Answers as elaboration
use Rattle.strc_elab.specs.Elaboration.{elaborated}
use Rattle.strc_elab_stream.specs.Flattening.{nodes_of, codes_of, meaning_of, outer_loops, IsFlat}
use Rattle.strc_elab_stream.specs.Connections.{IsConnected}
use Rattle.strc_elab_flattening.specs.Verdicts.{IsRefused}
use Rattle.strc_elab_stream.specs.Instances.{Stream}
use Rattle.strc_elab_graph.specs.Graphs.{Graph, NodeCode, Filter}
use Rattle.strc_rate.specs.Rates.{FilterRates, checked}
use Rattle.strc_rate.specs.declared.rates.RateError.{RateError}
use Rattle.strc_rate.specs.declared.rates.RateError.TheVariants as rate
use Rattle.strc_balance.specs.Balance.{Balances}
use Rattle.strc_balance.specs.Rates.{equations_of, size_of}
use Rattle.strc_balance.specs.Verdicts as balancing
use Rattle.strc_balance.specs.declared.error.BalanceError.{BalanceError}
use Rattle.strc_balance.specs.declared.error.BalanceError.TheVariants as unbalanced
use Rattle.strc_sched_orders.specs.declared.error.ScheduleError.{ScheduleError}
use Rattle.strc_sched_orders.specs.declared.error.ScheduleError.TheVariants as unscheduled
use Rattle.strc_startup.specs.declared.error.StartupError.{StartupError}
use Rattle.strc_startup.specs.declared.error.StartupError.TheVariants as unprimed
use Rattle.strc_elab_statements.specs.declared.error.ElabError.{ElabError}
use Rattle.strc_elab_statements.specs.declared.error.ElabErrorKind.TheVariants as error
use Rattle.strc_sched_orders.specs.Schedules.{ScheduleParts}
use Rattle.strc_stage_plan.specs.Plans.{HasSchedule, HasStartup, IsDeadlocked, IsUnbounded}
use Rattle.strc_stage_plan.specs.Plans.{Overflows}
use Rattle.strc_stage_plan.specs.Plans.{PlanParts}
use Rattle.strc_run_refusal.specs.declared.placed_refusal.PlacedRefusal.{PlacedRefusal}
use Rattle.strc_run_refusal.specs.declared.refusal.Refusal.{Refusal}
use Rattle.strc_run_refusal.specs.declared.refusal.Refusal.TheVariants as refusal
use Rattle.strc_run.specs.Accepts.{CanRun, round_counts}
use Rattle.strc_run.specs.Choices.{Choice}
use Rattle.strc_run.specs.Compiled.{HasCompiled}
use Rattle.strc_run.specs.declared.compile.Compiled.{Compiled}
use Rattle.strc_run.specs.Plans.{HasPlan, IsPlanOf}
use Rattle.strc_run.specs.Refuses.{Breaks, HasNoBalance, IsTrueOf, IsReadRefusal}
use Rattle.strc_run.specs.Refuses.{IsUntransformed}
use Rattle.strc_run.specs.Rates.{rates_checked, node_checked, filter_checked, then_check}
use Rattle.strc_run.specs.Rates.{rate_refusal_of}
use Rattle.strc_run_refusal.specs.Reports.{refusal_of, balance_refusal_of, startup_refusal_of}
use Rattle.strc_run_refusal.specs.Reports.{schedule_refusal_of}
use Rattle.strc_run.specs.Verdicts.{IsRefusal}

-- a test of rates doesn't speak of the balance
not_of_rate : (node channel : ℕ) (broken : RateError)
    → rate_refusal_of node broken ≡ refusal.Inconsistent channel → ⊥
not_of_rate node channel rate.RateLimit e = absurd (cc)
not_of_rate node channel rate.RateUnknown e = absurd (cc)
not_of_rate node channel (rate.RateMismatch declared counted) e = absurd (cc)
not_of_rate node channel rate.PeekOutside e = absurd (cc)
not_of_rate node channel rate.NoMemory e = absurd (cc)

not_of_filter : (node channel : ℕ) (one : Result FilterRates RateError)
    → filter_checked node one ≡ Err (refusal.Inconsistent channel) → ⊥
not_of_filter node channel (Ok rates) e = absurd (cc)
not_of_filter node channel (Err broken) e =
    let same : rate_refusal_of node broken ≡ refusal.Inconsistent channel = cc in
    not_of_rate node channel broken same

not_of_node : (node channel : ℕ) (code : NodeCode)
    → node_checked node code ≡ Err (refusal.Inconsistent channel) → ⊥
not_of_node node channel (Filter name filter) e = not_of_filter node channel (checked filter) e
not_of_node node channel code e = absurd (cc)

one_of_two : (one next : Result (Unit {0}) Refusal) (refused : Refusal)
    → (one ≡ Err refused → ⊥) → (next ≡ Err refused → ⊥) → then_check one next ≡ Err refused → ⊥
one_of_two (Ok done) next refused first later e = later e
one_of_two (Err broken) next refused first later e = first e

not_of_rates : (node channel : ℕ) (codes : List NodeCode)
    → rates_checked node codes ≡ Err (refusal.Inconsistent channel) → ⊥
not_of_rates node channel [] e = absurd (cc)
not_of_rates node channel (code ∷ codes) e =
    one_of_two (node_checked node code) (rates_checked (node + 1) codes)
    (refusal.Inconsistent channel) (not_of_node node channel code)
    (not_of_rates (node + 1) channel codes) e

module _ (text : List ℕ) (choice : Choice) (program : List Declaration)
    (spells : Spells text program) where
  -- the elaboration's refusal
  pub elaboration_refused : (broken : ElabError)
      → elaboration.IsRefusal (elaborated program choice.main) broken
      → IsTrueOf text choice (refusal_of broken)
  elaboration_refused error.NoMemory e = tt
  elaboration_refused broken e = inr (program, spells, Breaks.InElaboration broken e refl)

  module _ (stream : Stream) (elaborates : elaborated program choice.main ≡ Ok stream) where
    -- the flat graph's
    pub graph_refused : (broken : ElabError)
        → IsRefused (codes_of stream) (IsConnected (meaning_of stream)) broken
        → IsTrueOf text choice (refusal_of broken)
    graph_refused error.NodeLimit e =
        inr (program, spells, Breaks.InGraph stream elaborates e)
    graph_refused error.TwoInputs e =
        inr (program, spells, Breaks.InGraph stream elaborates e)
    graph_refused (error.TapeTwice node) e =
        inr (program, spells, Breaks.InGraph stream elaborates e)
    graph_refused error.Disconnected e =
        inr (program, spells, Breaks.InGraph stream elaborates e)
    graph_refused error.NoMemory e = tt
    graph_refused broken e = absurd e

    -- the rates'
    pub rates_refused : (refused : Refusal) → CanRun stream
        → IsRefusal (rates_checked 0 (nodes_of stream)) refused → IsTrueOf text choice refused
    rates_refused refusal.NoMemory runs e = tt
    rates_refused (refusal.Inconsistent channel) runs e =
        absurd (not_of_rates 0 channel (nodes_of stream) e)
    rates_refused refused runs e =
        inr (program, spells, Breaks.InRates stream elaborates runs e)

    module _ (graph : Graph) (runs : CanRun stream)
        (rates : rates_checked 0 (nodes_of stream) ≡ Ok tt) (flat : IsFlat stream graph) where
      -- the balance's
      pub balance_refused : (broken : BalanceError)
          → balancing.IsRefusal (round_counts graph) broken
          → ((channel : ℕ) → broken ≡ unbalanced.Inconsistent channel → (counts : List ℕ)
          → ¬ Balances (size_of graph) (equations_of graph) counts)
          → IsTrueOf text choice (balance_refusal_of broken)
      balance_refused unbalanced.CountsTooLarge e none =
          inr (program, spells, Breaks.InBalance stream graph elaborates runs rates flat e)
      balance_refused (unbalanced.Inconsistent channel) e none = (
        inr (program, spells, Breaks.InBalance stream graph elaborates runs rates flat e),
        record {
          program = program;
          spells = spells;
          stream = stream;
          elaborates = elaborates;
          graph = graph;
          flat = flat;
          none = none channel refl;
        },
      )
      balance_refused unbalanced.NoMemory e none = tt

      module _ (counts : List ℕ) (balances : round_counts graph ≡ Ok counts) where
        -- the start-up's
        pub startup_refused : (broken : StartupError)
            → (broken ≡ unprimed.Unbounded → IsUnbounded graph)
            → IsTrueOf text choice (startup_refusal_of broken)
        startup_refused unprimed.Unbounded unbounded = inr (
          program,
          spells,
          Breaks.InStartup stream graph counts elaborates runs rates flat balances
              (unbounded refl),
        )
        startup_refused unprimed.NoMemory unbounded = tt

        -- the schedule's
        pub schedule_refused : (startup : List ℕ) (broken : ScheduleError)
            → HasStartup graph startup
            → ((in_startup : Bool) → broken ≡ unscheduled.Deadlock in_startup
            → IsDeadlocked graph startup counts in_startup)
            → ((channel : ℕ) → broken ≡ unscheduled.BufferLimit channel
            → Overflows graph startup counts channel)
            → IsTrueOf text choice (schedule_refusal_of broken)
        schedule_refused startup (unscheduled.Deadlock in_startup) starts deadlocked past =
            inr (
              program,
              spells,
              Breaks.InSchedule stream graph counts startup elaborates runs
                  rates flat balances starts (deadlocked in_startup refl),
            )
        schedule_refused startup (unscheduled.BufferLimit channel) starts deadlocked past =
            inr (
              program,
              spells,
              Breaks.InSchedule stream graph counts startup elaborates runs
                  rates flat balances starts (past channel refl),
            )
        schedule_refused startup unscheduled.NoMemory starts deadlocked past = tt

        -- fission's and fusion's
        pub transformation_refused : (startup : List ℕ) (schedule : ScheduleParts)
            (refused : Refusal) → HasStartup graph startup
            → HasSchedule graph startup counts schedule
            → graph.outer_loops ≡ outer_loops 0 stream
            → IsUntransformed graph counts schedule choice.ways choice.fuse refused
            → IsTrueOf text choice refused
        transformation_refused startup schedule refusal.NoMemory starts has loops cannot = tt
        transformation_refused startup schedule (refusal.Inconsistent channel) starts has loops
            (inl cannot) = absurd cannot
        transformation_refused startup schedule (refusal.Inconsistent channel) starts has loops
            (inr cannot) = absurd cannot
        transformation_refused startup schedule refused starts has loops (inl cannot) =
            inr (
              program,
              spells,
              Breaks.InFission stream graph counts startup schedule elaborates runs rates flat
                  balances starts has loops cannot,
            )
        transformation_refused startup schedule refused starts has loops (inr cannot) =
            inr (
              program,
              spells,
              Breaks.InFusion stream graph counts startup schedule elaborates runs rates flat
                  balances starts has loops cannot,
            )

-- a deadlock is one of start-up, or one of a round
pub which_deadlock : (graph : Graph) (startup round : List ℕ) (broken : ScheduleError)
    → (broken ≡ unscheduled.Deadlock true → IsDeadlocked graph startup round true)
    → (broken ≡ unscheduled.Deadlock false → IsDeadlocked graph startup round false)
    → (in_startup : Bool) → broken ≡ unscheduled.Deadlock in_startup
    → IsDeadlocked graph startup round in_startup
which_deadlock graph startup round broken first later true is = first is
which_deadlock graph startup round broken first later false is = later is

-- a refusal that is passed on
pub refusal_passed : (text : List ℕ) (choice : Choice) (result : Result Compiled PlacedRefusal)
    (placed : PlacedRefusal) (refused : Refusal) → IsErrAnd result (λ found. found ≡ placed)
    → placed.refusal ≡ refused → IsTrueOf text choice refused → HasCompiled text choice result
refusal_passed text choice (Ok compiled) placed refused passed same is = absurd passed
refusal_passed text choice (Err found) placed refused passed same is =
    subst (IsTrueOf text choice)
    (sym (ap (λ (p : PlacedRefusal). p.refusal) passed ∙ same)) is

-- a refusal that is told with its place
pub refusal_told : (text : List ℕ) (choice : Choice) (found refused : Refusal) → found ≡ refused
    → IsTrueOf text choice refused → HasPlan text choice (Err found)
refusal_told text choice found refused same is = subst (IsTrueOf text choice) (sym same) is

-- the plan that is given
pub plan_reported : (text : List ℕ) (choice : Choice) (plan parts : PlanParts) → plan ≡ parts
    → IsPlanOf text choice parts → IsPlanOf text choice plan
plan_reported text choice plan parts same is = subst (IsPlanOf text choice) (sym same) is

-- before there is a program
pub read_refused : (text : List ℕ) (choice : Choice) (refused : Refusal)
    → IsReadRefusal text refused → IsTrueOf text choice refused
read_refused text choice refusal.NoMemory e = tt
read_refused text choice (refusal.Inconsistent channel) e = absurd e
read_refused text choice refused e = inl e

-- an inconsistent graph has no rounds
pub none_balance : (text : List ℕ) (choice : Choice) (result : Result PlanParts Refusal)
    (channel : ℕ) → HasPlan text choice result → result ≡ Err (refusal.Inconsistent channel)
    → HasNoBalance text choice
none_balance text choice result channel has is = (subst (HasPlan text choice) is has).1
