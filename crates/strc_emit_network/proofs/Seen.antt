-- A firing sees its windows, at the fronts of its node's queues.
use Rattle.std.proofs.Common.{◌≡◌, ℕ, ◌<◌, ◌≤◌, ℤ, pos, Bool, true, false, cond, ltb, List}
use Rattle.std.proofs.Common.{[], length, take, get_or, sym, ap, ◌∙◌, arith}
use Rattle.std.proofs.Common.{length-take, get_or-take, lt-ltb, leb-true}
use Rattle.std.proofs.lemmas.List.{length-take-le}
use Rattle.strc_elab_dataflow.specs.Flat as flat
use Rattle.strc_elab_graph.specs.Graphs.{NodeCode}
use Rattle.strc_emit_runs.specs.Orders.{Queues}
use Rattle.strc_emit_runs.specs.Firings.{seen_at}
use Rattle.strc_elab_dataflow.specs.Queues.{holds, fronts}
use Rattle.strc_elab_dataflow.proofs.Runs.{each_below}
use Rattle.strc_elab_graph.specs.Meaning.{ports_in}
use Rattle.strc_elab_graph.specs.Rates.{window_at}
use Rattle.std.specs.Prelude.{nat_le}
use Rattle.strc_emit_network.specs.Seen.{FrontsAreSeen, WindowsAreSeen}

pub fronts_are_seen : FrontsAreSeen
unfolding fronts
fronts_are_seen graph now node port =
    by (ltb port (ports_in (graph.code node)))
  where
    window : ℕ
    window = window_at (graph.code node) (now.runs node).fired port

    queue : List ℤ
    queue = now.queues node port

    by : (inside : Bool)
        → (length (cond inside (take window queue) []) ≤ length queue)
        × ((k : ℕ) → k < length (cond inside (take window queue) [])
        → get_or queue k (pos 0) ≡ get_or (cond inside (take window queue) []) k (pos 0))
    by true = (
      omega (arith, length-take window queue),
      λ k lt. sym (get_or-take window queue k (pos 0) (omega (
        arith,
        lt,
        length-take window queue,
      ))),
    )
    by false = (omega arith, λ k lt. absurd (omega (arith, lt)))

pub windows_are_seen : WindowsAreSeen
unfolding holds fronts
windows_are_seen graph now node held port less =
    let window : ℕ = window_at (graph.code node) (now.runs node).fired port in
    let queue : List ℤ = now.queues node port in
    ap (λ (inside : Bool). length (cond inside (take window queue) []))
    (lt-ltb port (ports_in (graph.code node)) less)
    ∙ length-take-le window queue (leb-true window (length queue)
    (each_below (ports_in (graph.code node))
    (λ port. nat_le (window_at (graph.code node) (now.runs node).fired port)
    (length (now.queues node port))) held port less))

-- what is seen at a port
pub front_is : (graph : flat.Graph NodeCode) (now : Queues) (node port : ℕ)
    → port < ports_in (graph.code node)
    → seen_at graph now node port
    ≡ take (window_at (graph.code node) (now.runs node).fired port) (now.queues node port)
unfolding fronts
front_is graph now node port less =
    ap (λ (inside : Bool). cond inside
    (take (window_at (graph.code node) (now.runs node).fired port) (now.queues node port)) [])
    (lt-ltb port (ports_in (graph.code node)) less)
