use Rattle.std.proofs.Common.{◌≡◌, ◌∙◌, ap, sym, ◌+◌, ◌*◌, ℕ, map}
use Rattle.strc_elab_graph.specs.NodeView.{node_view}
use Rattle.strc_sched_orders.specs.Greedy.{firings_of}
use Rattle.strc_sched_orders.specs.Order.{firing_count}
use Rattle.strc_sched_laws.specs.Laws.{counts_at}
use Rattle.strc_sched_laws.specs.Planned.{items_read}
use Rattle.strc_sched.specs.Reading.{count_of}
use Rattle.strc_sched.specs.Serving.{reads_by_round}
use Rattle.strc_sched.proofs.Counting.{counts_are}
use Rattle.strc_sched.proofs.ServedRounds.{same_served, nothing_read}
use Rattle.strc_sched.proofs.served_rounds.rounds_served.Goals as goal

pub returns-in-Some : goal.returns-in-Some
returns-in-Some c =
    let nodes = c.args.graph.now.nodes in
    let schedule = c.args.schedule.now in
    let node = c.in-Some.node in
    let before = c.firings_of-before.result in
    let each = c.firings_of.result in
    let need : ℕ → ℕ = λ rounds. items_read (map node_view nodes) (counts_at schedule rounds) in
    let same : (rounds : ℕ) → need rounds ≡ reads_by_round before each rounds = λ rounds.
    let counts = counts_at schedule rounds in
    ap (λ found. items_read (map node_view found) counts) (sym c.nodes.ensures)
    ∙ c.reader_of.ensures counts
    ∙ ap (λ found. count_of found counts) c.in-Some.is
    ∙ counts_are schedule rounds node
    ∙ ap (λ n. n + rounds * firing_count (firings_of schedule.round) node)
    (sym (c.firings_of-before.ensures.firings
    ∙ ap (λ l. firing_count (firings_of l) node) c.startup.ensures))
    ∙ ap (λ n. before + rounds * n)
    (sym (c.firings_of.ensures.firings
    ∙ ap (λ l. firing_count (firings_of l) node) c.round.ensures)) in
    same_served need (reads_by_round before each) c.args.got c.served.result same c.served.ensures

pub returns-in-None : goal.returns-in-None
returns-in-None c =
    let nodes = c.args.graph.now.nodes in
    let schedule = c.args.schedule.now in
    let need : ℕ → ℕ = λ rounds. items_read (map node_view nodes) (counts_at schedule rounds) in
    nothing_read need c.args.got (λ rounds.
    let counts = counts_at schedule rounds in
    ap (λ found. items_read (map node_view found) counts) (sym c.nodes.ensures)
    ∙ c.reader_of.ensures counts
    ∙ ap (λ found. count_of found counts) c.in-None.is)
