use Rattle.std.proofs.Common.{◌≡◌, ◌∙◌, ap, subst, sym, ℕ, List, IfOk}
use Rattle.std.proofs.lemmas.List.{length-map}
use mathlib.Core.Path.{fun_ext}
use Rattle.strc_elab_graph.specs.NodeView.{graph_view, channel_view}
use Rattle.strc_elab_graph.specs.declared.graph.Fission.{Fission}
use Rattle.strc_sched_orders.specs.declared.unit as units
use Rattle.strc_fuse.specs.Units.{round_units}
use Rattle.strc_fiss.specs.Fissions.{IsFission, SplitPasses}
use Rattle.strc_fiss.specs.NewRounds.{DealsRound, KeepsRound}
use Rattle.strc_fiss.specs.Numbers.{share_at}
use Rattle.strc_fiss.specs.OwnUnits.{dealt_counts, round_fission}
use Rattle.strc_fiss.specs.Ways.{fission_of}
use Rattle.strc_fiss.proofs.NewRounds.{keeps_round, deals_round}
use Rattle.strc_fiss.proofs.Outcomes.{if_ok}
use Rattle.strc_fiss.proofs.fission.fission.Goals as goal

pub returns-clause-split : goal.returns-clause-split
returns-clause-split c =
    let graph = graph_view c.args.graph.now in
    let loops = c.args.graph.now.outer_loops in
    let counts = c.args.round_counts.now in
    let round = c.args.schedule.now.round in
    let e : share_at c.deref-2.result.now
    ≡ round_fission graph (round_units round) counts c.args.ways =
    fun_ext (λ (node : ℕ). ap (λ (l : List Fission). share_at l node) c.deref-2.ensures.value
    ∙ c.in_ok-shares.ensures.shares node
    ∙ ap (λ (l : List ℕ). fission_of graph l c.args.ways node)
    (c.in_ok-dealt.ensures
    ∙ ap (λ (l : List units.Unit.Unit). dealt_counts loops (round_units l) counts)
    c.round.ensures)) in
    subst (λ (share : ℕ → Fission). IfOk c.split_by.result
    (IsFission share graph c.args.schedule.now)) e
    c.split_by.ensures.split

pub returns-clause-order : goal.returns-clause-order
returns-clause-order c =
    let graph = graph_view c.args.graph.now in
    let schedule = c.args.schedule.now in
    let counts = c.args.round_counts.now in
    let many = length-map c.args.graph.now.channels channel_view in
    if_ok c.split_by.result
    (IsFission (round_fission graph (round_units schedule.round) counts c.args.ways) graph schedule)
    (KeepsRound graph schedule)
    (λ split is. keeps_round graph schedule counts c.args.ways c.joins_ports.ensures
    (c.requires.greatest ∙ sym many) (c.requires.last ∙ sym many) split is)
    (returns-clause-split c)

pub returns-clause-counts : goal.returns-clause-counts
returns-clause-counts c =
    let graph = graph_view c.args.graph.now in
    let schedule = c.args.schedule.now in
    let counts = c.args.round_counts.now in
    let many = length-map c.args.graph.now.channels channel_view in
    if_ok c.split_by.result
    (IsFission (round_fission graph (round_units schedule.round) counts c.args.ways) graph schedule)
    (DealsRound (round_fission graph (round_units schedule.round) counts c.args.ways) schedule)
    (λ split is. deals_round graph schedule counts c.args.ways c.joins_ports.ensures
    (c.requires.greatest ∙ sym many) (c.requires.last ∙ sym many) split is)
    (returns-clause-split c)

pub returns-clause-limit : goal.returns-clause-limit
returns-clause-limit c channel is =
    let graph = graph_view c.args.graph.now in
    let loops = c.args.graph.now.outer_loops in
    let counts = c.args.round_counts.now in
    let round = c.args.schedule.now.round in
    let e : share_at c.deref-2.result.now
    ≡ round_fission graph (round_units round) counts c.args.ways =
    fun_ext (λ (node : ℕ). ap (λ (l : List Fission). share_at l node) c.deref-2.ensures.value
    ∙ c.in_ok-shares.ensures.shares node
    ∙ ap (λ (l : List ℕ). fission_of graph l c.args.ways node)
    (c.in_ok-dealt.ensures
    ∙ ap (λ (l : List units.Unit.Unit). dealt_counts loops (round_units l) counts)
    c.round.ensures)) in
    subst (λ (share : ℕ → Fission). SplitPasses share graph c.args.schedule.now channel) e
    (c.split_by.ensures.limit channel is)
