use Rattle.std.proofs.Common.{refl, List, map, sym, ap, ◌∙◌, subst, Err, arith}
use Rattle.std.specs.Option.{option_map}
use Rattle.strc_run_refusal.specs.Placing.{unplaced}
use Rattle.strc_run_refusal.specs.declared.refusal.Refusal.TheVariants.{NoMemory}
use Rattle.strc_run_refusal.specs.declared.refusal.Refusal.{Refusal}
use Rattle.std.specs.List.{AllByRecursion}
use Rattle.strc_elab_graph.specs.Graphs.{NodeCode}
use Rattle.strc_elab_stream.specs.View.{stream_view}
use Rattle.strc_elab_graph.specs.NodeView.{node_view, graph_view}
use Rattle.strc_run.specs.Located.{IsKnownOf}
use Rattle.strc_run.specs.Rates.{rates_checked}
use Rattle.strc_run.proofs.Located.{in_flattening, in_graph, passed_on, same_refusal}
use Rattle.strc_run_refusal.specs.Reports.{refusal_of, balance_refusal_of, startup_refusal_of}
use Rattle.strc_run_refusal.specs.Reports.{schedule_refusal_of}
use Rattle.strc_run.specs.Verdicts.{IsRefusal}
use Rattle.strc_run.proofs.Refusals.{elaboration_refused, graph_refused, rates_refused}
use Rattle.strc_run.proofs.Refusals.{balance_refused, startup_refused, schedule_refused}
use Rattle.strc_run.proofs.Refusals.{plan_reported, refusal_passed, transformation_refused}
use Rattle.strc_run.proofs.Refusals.{refusal_told, which_deadlock}
use Rattle.strc_run.proofs.RatedGraphs.{IsChecked, flat_is_rated, stream_checked}
use Rattle.strc_balance.specs.Balance.{count_at}
use Rattle.strc_run.proofs.PlannedGraphs.{graph_has_plan}
use Rattle.strc_run.proofs.compile.compile_program.Goals as goal

pub returns-in_err-stream-clause-compiled : goal.returns-in_err-stream-clause-compiled
returns-in_err-stream-clause-compiled c = λ text spells.
    let broken = c.in_err-stream.ensures.verdict in
    refusal_passed _ _ c.from_residual.result c.in_err-stream.field-0.0 (refusal_of broken.0)
    c.from_residual.ensures.1 broken.2 (elaboration_refused _ _ _ spells broken.0 broken.1)

pub returns-in_err-stream-clause-known : goal.returns-in_err-stream-clause-known
returns-in_err-stream-clause-known c = passed_on
    (IsKnownOf c.args.program.now (option_map (λ n. n.now) c.args.main))
    c.from_residual.result c.in_err-stream.field-0.0 c.from_residual.ensures.1
    c.in_err-stream.ensures.known

pub returns-in-Err-clause-compiled : goal.returns-in-Err-clause-compiled
returns-in-Err-clause-compiled c = λ text spells.
    let elaborates = c.in_ok-stream.ensures.verdict in
    let sound = c.in_ok-stream.ensures.sound in
    refusal_told _ _ _
    (refusal_of c.in-Err.error) (same_refusal c.of_stream.ensures)
    (graph_refused _ _ _ spells _ elaborates c.in-Err.error
    (c.in-Err.ensures.verdict sound.closed.typed))

pub returns-in-Err-check_rates-clause-compiled : goal.returns-in-Err-check_rates-clause-compiled
returns-in-Err-check_rates-clause-compiled c = λ text spells.
    let elaborates = c.in_ok-stream.ensures.verdict in
    let sound = c.in_ok-stream.ensures.sound in
    let same = ap (map node_view) c.nodes.ensures ∙ c.in-Ok.ensures.nodes in
    refusal_told _ _ _ c.in-Err-check_rates.refusal
    (same_refusal c.of_graph.ensures)
    (rates_refused _ _ _ spells (stream_view c.in_ok-stream.stream) elaborates
    c.in-Err-check_rates.refusal
    (c.in-Ok.ensures.verdict sound.closed.typed)
    (subst (λ (l : List NodeCode). IsRefusal (rates_checked 0 l) c.in-Err-check_rates.refusal)
    same c.in-Err-check_rates.ensures))

pub balance-requires-clause-rates : goal.balance-requires-clause-rates
balance-requires-clause-rates c =
    flat_is_rated c.nodes_deal.ensures
    (stream_view c.in_ok-stream.stream) (graph_view c.in-Ok.graph)
    c.in_ok-stream.ensures.sound c.in-Ok.ensures.graph c.in-Ok.ensures.nodes
    (ap (rates_checked 0) (sym (ap (map node_view) c.nodes.ensures))
    ∙ c.in_default.ensures)

pub balance-requires-clause-connected : goal.balance-requires-clause-connected
balance-requires-clause-connected c =
    let sound = c.in_ok-stream.ensures.sound in
    c.in-Ok.ensures.connected sound.closed.typed

pub returns-in-Err-balance-clause-compiled : goal.returns-in-Err-balance-clause-compiled
returns-in-Err-balance-clause-compiled c = λ text spells.
    let elaborates = c.in_ok-stream.ensures.verdict in
    let sound = c.in_ok-stream.ensures.sound in
    let rates = ap (rates_checked 0) (sym
    (ap (map node_view) c.nodes.ensures ∙ c.in-Ok.ensures.nodes))
    ∙ c.in_default.ensures in
    refusal_told _ _ _
    (balance_refusal_of c.in-Err-balance.error)
    (same_refusal c.of_graph-in-Err-balance.ensures ∙ c.from.ensures)
    (balance_refused _ _ _ spells (stream_view c.in_ok-stream.stream) elaborates
    (graph_view c.in-Ok.graph)
    (c.in-Ok.ensures.verdict sound.closed.typed) rates
    (c.in-Ok.ensures.graph sound.closed.typed) c.in-Err-balance.error
    c.in-Err-balance.ensures.verdict
    (λ channel is. c.in-Err-balance.ensures.inconsistent channel (ap Err is)))

pub startup-requires : goal.startup-requires
startup-requires c =
    flat_is_rated c.nodes_deal.ensures
    (stream_view c.in_ok-stream.stream) (graph_view c.in-Ok.graph)
    c.in_ok-stream.ensures.sound c.in-Ok.ensures.graph c.in-Ok.ensures.nodes
    (ap (rates_checked 0) (sym (ap (map node_view) c.nodes.ensures))
    ∙ c.in_default.ensures)

pub returns-in-Err-startup-clause-compiled : goal.returns-in-Err-startup-clause-compiled
returns-in-Err-startup-clause-compiled c = λ text spells.
    let elaborates = c.in_ok-stream.ensures.verdict in
    let sound = c.in_ok-stream.ensures.sound in
    let rates = ap (rates_checked 0) (sym
    (ap (map node_view) c.nodes.ensures ∙ c.in-Ok.ensures.nodes))
    ∙ c.in_default.ensures in
    refusal_told _ _ _
    (startup_refusal_of c.in-Err-startup.error)
    (same_refusal c.of_graph-in-Err-startup.ensures ∙ c.from-in-Err-startup.ensures)
    (startup_refused _ _ _ spells (stream_view c.in_ok-stream.stream) elaborates
    (graph_view c.in-Ok.graph)
    (c.in-Ok.ensures.verdict sound.closed.typed) rates
    (c.in-Ok.ensures.graph sound.closed.typed) c.in-Ok-balance.counts
    c.in-Ok-balance.ensures.verdict c.in-Err-startup.error
    (λ is. c.in-Err-startup.ensures.unbounded (ap Err is)))

pub schedule-requires-clause-rated : goal.schedule-requires-clause-rated
schedule-requires-clause-rated c =
    flat_is_rated c.nodes_deal.ensures
    (stream_view c.in_ok-stream.stream) (graph_view c.in-Ok.graph)
    c.in_ok-stream.ensures.sound c.in-Ok.ensures.graph c.in-Ok.ensures.nodes
    (ap (rates_checked 0) (sym (ap (map node_view) c.nodes.ensures))
    ∙ c.in_default.ensures)

pub schedule-requires-clause-connected : goal.schedule-requires-clause-connected
schedule-requires-clause-connected c =
    let sound = c.in_ok-stream.ensures.sound in
    c.in-Ok.ensures.connected sound.closed.typed

pub returns-in-Err-schedule-clause-compiled : goal.returns-in-Err-schedule-clause-compiled
returns-in-Err-schedule-clause-compiled c = λ text spells.
    let elaborates = c.in_ok-stream.ensures.verdict in
    let sound = c.in_ok-stream.ensures.sound in
    let rates = ap (rates_checked 0) (sym
    (ap (map node_view) c.nodes.ensures ∙ c.in-Ok.ensures.nodes))
    ∙ c.in_default.ensures in
    let graph = graph_view c.in-Ok.graph in
    let counts = c.in-Ok-balance.counts in
    let startup = c.in-Ok-startup.counts in
    let broken = c.in-Err-schedule.error in
    let reported = c.in-Err-schedule.ensures in
    refusal_told _ _ _ (schedule_refusal_of broken)
    (same_refusal c.of_graph-in-Err-schedule.ensures ∙ c.from-in-Err-schedule.ensures)
    (schedule_refused _ _ _ spells (stream_view c.in_ok-stream.stream) elaborates graph
    (c.in-Ok.ensures.verdict sound.closed.typed) rates
    (c.in-Ok.ensures.graph sound.closed.typed) counts
    c.in-Ok-balance.ensures.verdict startup broken
    (record {
      least = c.in-Ok-startup.ensures.least;
      within = c.in-Ok-startup.ensures.within;
    })
    (which_deadlock graph startup counts broken (λ is. reported.startup (ap Err is))
    (λ is. (reported.before (ap Err is), reported.round (ap Err is))))
    (λ channel is. reported.limit channel (ap Err is)))

pub transformed-requires-clause-fusible : goal.transformed-requires-clause-fusible
transformed-requires-clause-fusible c =
    let counts = c.in-Ok-balance.ensures in
    c.schedules_can_be_fused.ensures (graph_view c.in-Ok.graph)
    (count_at c.in-Ok-startup.counts) c.in-Ok-balance.counts
    c.in-Ok-schedule.schedule c.in-Ok-schedule.ensures.schedule
    (omega (arith, counts.least.balances.each))

pub transformed-requires-clause-whole : goal.transformed-requires-clause-whole
transformed-requires-clause-whole c =
    let sound = c.in_ok-stream.ensures.sound in
    c.greedy_rounds_deal_all.ensures (graph_view c.in-Ok.graph) (stream_view c.in_ok-stream.stream)
    (count_at c.in-Ok-startup.counts) c.in-Ok-balance.counts c.in-Ok-schedule.schedule
    c.args.ways sound.closed.typed (c.in-Ok.ensures.program sound.closed) c.in-Ok.ensures.loops
    c.in-Ok-schedule.ensures.schedule

pub returns-in-Err-transformed-clause-compiled : goal.returns-in-Err-transformed-clause-compiled
returns-in-Err-transformed-clause-compiled c = λ text spells.
    let elaborates = c.in_ok-stream.ensures.verdict in
    let sound = c.in_ok-stream.ensures.sound in
    let rates = ap (rates_checked 0) (sym
    (ap (map node_view) c.nodes.ensures ∙ c.in-Ok.ensures.nodes))
    ∙ c.in_default.ensures in
    let broken = c.in-Err-transformed.refusal in
    refusal_told _ _ _ broken
    (same_refusal c.of_graph-in-Err-transformed.ensures)
    (transformation_refused _ _ _ spells (stream_view c.in_ok-stream.stream) elaborates
    (graph_view c.in-Ok.graph)
    (c.in-Ok.ensures.verdict sound.closed.typed) rates
    (c.in-Ok.ensures.graph sound.closed.typed) c.in-Ok-balance.counts
    c.in-Ok-balance.ensures.verdict c.in-Ok-startup.counts
    c.in-Ok-schedule.schedule broken
    (record {
      least = c.in-Ok-startup.ensures.least;
      within = c.in-Ok-startup.ensures.within;
    })
    (record {
      is = c.in-Ok-schedule.ensures.schedule;
      within = c.in-Ok-schedule.ensures.within;
    })
    c.in-Ok.ensures.loops c.in-Err-transformed.ensures.refused)

pub new-requires : goal.new-requires
new-requires c =
    let sound = c.in_ok-stream.ensures.sound in
    let graph = graph_view c.in-Ok.graph in
    let nodes = c.in-Ok.ensures.nodes in
    let checks = ap (rates_checked 0) (sym (ap (map node_view) c.nodes.ensures))
    ∙ c.in_default.ensures in
    graph_has_plan c.in-Ok.graph
    (subst (AllByRecursion IsChecked) (sym nodes)
    (stream_checked c.nodes_deal.ensures (stream_view c.in_ok-stream.stream) sound
    (ap (rates_checked 0) (sym nodes) ∙ checks)))
    c.in-Ok-schedule.schedule c.in-Ok-transformed.split
    c.in-Ok-startup.counts c.in-Ok-balance.counts
    (flat_is_rated c.nodes_deal.ensures (stream_view c.in_ok-stream.stream) graph sound
    c.in-Ok.ensures.graph nodes checks)
    (record {
      least = c.in-Ok-startup.ensures.least;
      within = c.in-Ok-startup.ensures.within;
    })
    (record {
      least = c.in-Ok-balance.ensures.least;
      within = c.in-Ok-balance.ensures.within;
    })
    (record {
      is = c.in-Ok-schedule.ensures.schedule;
      within = c.in-Ok-schedule.ensures.within;
    })
    (record {
      stream = stream_view c.in_ok-stream.stream;
      closed = sound.closed;
      program = c.in-Ok.ensures.program sound.closed;
      connected = c.in-Ok.ensures.connected sound.closed.typed;
      loops = c.in-Ok.ensures.loops;
    })
    (record {
      ways = c.args.ways;
      threshold = c.args.fuse;
      transformed = c.in-Ok-transformed.ensures.transformed;
    })

pub returns-clause-compiled : goal.returns-clause-compiled
returns-clause-compiled c = λ text spells.
    let sound = c.in_ok-stream.ensures.sound in
    let nodes = c.in-Ok.ensures.nodes in
    let checks = ap (rates_checked 0) (sym (ap (map node_view) c.nodes.ensures))
    ∙ c.in_default.ensures in (
      plan_reported text _ c.in_ok-plan.plan _ c.in_ok-plan.ensures (record {
        accepted = record {
          program = _;
          spells = spells;
          stream = stream_view c.in_ok-stream.stream;
          elaborates = c.in_ok-stream.ensures.verdict;
          runs = c.in-Ok.ensures.verdict sound.closed.typed;
          rates = ap (rates_checked 0) (sym nodes) ∙ checks;
          flat = c.in-Ok.ensures.graph sound.closed.typed;
          round = c.in-Ok-balance.ensures.verdict;
          startup = record {
            least = c.in-Ok-startup.ensures.least;
            within = c.in-Ok-startup.ensures.within;
          };
          schedule = record {
            is = c.in-Ok-schedule.ensures.schedule;
            within = c.in-Ok-schedule.ensures.within;
          };
          transformed = c.in-Ok-transformed.ensures.transformed;
          loops = c.in-Ok.ensures.loops;
        };
        whole = c.in-Ok.ensures.program sound.closed;
        nodes = nodes;
      }),
      record { program = _; spells = spells; elaborates = c.in_ok-stream.ensures.verdict },
    )

pub returns-in-Err-clause-known : goal.returns-in-Err-clause-known
returns-in-Err-clause-known c =
    let stream = c.in_ok-stream.stream in
    in_flattening _ _ c.of_stream.result stream c.in_ok-stream.ensures.verdict c.in-Err.error
    c.of_stream.result.site c.of_stream.ensures
    (c.in-Err.ensures.verdict c.in_ok-stream.ensures.sound.closed.typed)

pub returns-in-Err-check_rates-clause-known : goal.returns-in-Err-check_rates-clause-known
returns-in-Err-check_rates-clause-known c = λ some.
    in_graph _ _ c.of_graph.result c.in_ok-stream.stream
    c.in_ok-stream.ensures.verdict c.in-Err-check_rates.refusal c.in-Ok.graph
    c.of_graph.ensures
    (c.in-Ok.ensures.graph c.in_ok-stream.ensures.sound.closed.typed)

pub returns-in-Err-balance-clause-known : goal.returns-in-Err-balance-clause-known
returns-in-Err-balance-clause-known c = λ some.
    in_graph _ _ c.of_graph-in-Err-balance.result c.in_ok-stream.stream
    c.in_ok-stream.ensures.verdict c.from.result c.in-Ok.graph
    c.of_graph-in-Err-balance.ensures
    (c.in-Ok.ensures.graph c.in_ok-stream.ensures.sound.closed.typed)

pub returns-in-Err-startup-clause-known : goal.returns-in-Err-startup-clause-known
returns-in-Err-startup-clause-known c = λ some.
    in_graph _ _ c.of_graph-in-Err-startup.result c.in_ok-stream.stream
    c.in_ok-stream.ensures.verdict c.from-in-Err-startup.result c.in-Ok.graph
    c.of_graph-in-Err-startup.ensures
    (c.in-Ok.ensures.graph c.in_ok-stream.ensures.sound.closed.typed)

pub returns-in-Err-schedule-clause-known : goal.returns-in-Err-schedule-clause-known
returns-in-Err-schedule-clause-known c = λ some.
    in_graph _ _ c.of_graph-in-Err-schedule.result c.in_ok-stream.stream
    c.in_ok-stream.ensures.verdict c.from-in-Err-schedule.result c.in-Ok.graph
    c.of_graph-in-Err-schedule.ensures
    (c.in-Ok.ensures.graph c.in_ok-stream.ensures.sound.closed.typed)

pub returns-in-Err-transformed-clause-known : goal.returns-in-Err-transformed-clause-known
returns-in-Err-transformed-clause-known c = λ some.
    in_graph _ _ c.of_graph-in-Err-transformed.result c.in_ok-stream.stream
    c.in_ok-stream.ensures.verdict c.in-Err-transformed.refusal c.in-Ok.graph
    c.of_graph-in-Err-transformed.ensures
    (c.in-Ok.ensures.graph c.in_ok-stream.ensures.sound.closed.typed)

pub returns-in_err-plan-clause-compiled : goal.returns-in_err-plan-clause-compiled
returns-in_err-plan-clause-compiled c = λ text spells.
    refusal_passed _ _ c.from_residual-in_err-plan.result (unplaced NoMemory) NoMemory
    c.from_residual-in_err-plan.ensures.1 refl tt

pub returns-in_err-plan-clause-known : goal.returns-in_err-plan-clause-known
returns-in_err-plan-clause-known c = passed_on
    (IsKnownOf c.args.program.now (option_map (λ n. n.now) c.args.main))
    c.from_residual-in_err-plan.result (unplaced NoMemory) c.from_residual-in_err-plan.ensures.1
    (λ some. absurd (some refl))

pub returns-in_err-paths-clause-compiled : goal.returns-in_err-paths-clause-compiled
returns-in_err-paths-clause-compiled c = λ text spells.
    refusal_passed _ _ c.from_residual-in_err-paths.result (unplaced NoMemory) NoMemory
    c.from_residual-in_err-paths.ensures.1 refl tt

pub returns-in_err-paths-clause-known : goal.returns-in_err-paths-clause-known
returns-in_err-paths-clause-known c = passed_on
    (IsKnownOf c.args.program.now (option_map (λ n. n.now) c.args.main))
    c.from_residual-in_err-paths.result (unplaced NoMemory) c.from_residual-in_err-paths.ensures.1
    (λ some. absurd (some refl))
