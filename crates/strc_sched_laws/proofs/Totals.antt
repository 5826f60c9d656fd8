-- How many items a node has taken and given after so many firings, where each firing after the
-- first one has the same rates.
use Rattle.std.proofs.Common.{◌≡◌, refl, ap, ℕ, zero, suc, ◌+◌, ◌*◌, false}
use Rattle.std.proofs.Common.{List, Option, Some, slice_get, arith}
use Rattle.std.specs.Option.{option_map_or}
use Rattle.strc_elab_dataflow.specs.Node.{total}
use Rattle.strc_elab_graph.specs.Graphs.{NodeCode, Channel}
use Rattle.strc_elab_graph.specs.Rates.{fires_by_rounds, window_at, pops_at, pushes_at}
use Rattle.strc_elab_graph.proofs.Firings.{windows_settle, pops_settle, pushes_settle}
use Rattle.strc_startup.specs.Rates.{rates_of_channel}
use Rattle.strc_startup.specs.Startup.{pushed, popped}
use Rattle.strc_sched_orders.specs.Firings.{reach}

-- a rate that no later firing changes, added up
total_settled : (rate : ℕ → ℕ → ℕ) (port : ℕ) → ((n : ℕ) → rate (suc n) port ≡ rate 1 port)
    → (n : ℕ) → total rate (suc n) port ≡ rate 0 port + rate 1 port * n
unfolding total
total_settled rate port same zero = omega arith
total_settled rate port same (suc n) =
    let later = total_settled rate port same n in
    omega (arith, later, same n)

-- a port at which no firing takes or gives an item
pub total_idle : (rate : ℕ → ℕ → ℕ) (port : ℕ) → ((n : ℕ) → rate n port ≡ 0) → (n : ℕ)
    → total rate n port ≡ 0
unfolding total
total_idle rate port none zero = refl
total_idle rate port none (suc n) = omega (arith, total_idle rate port none n, none n)

module _ (nodes : List NodeCode) (channel : Channel) (code : NodeCode) where
  -- what a channel's source has given
  pub pushed_is : slice_get nodes channel.source.node ≡ Some code → (n : ℕ)
      → total (pushes_at code) n channel.source.port ≡ pushed (rates_of_channel nodes channel) n
  unfolding total
  pushed_is there zero = refl
  pushed_is there (suc n) =
      let port = channel.source.port in
      let rate = λ (firing : ℕ) (found : Option NodeCode).
      option_map_or (λ node. pushes_at node firing port) found 0 in
      let first = ap (rate 0) there in
      let later = ap (λ (found : Option NodeCode). rate 1 found * n) there in
      omega (
        arith,
        total_settled (pushes_at code) port (λ k. pushes_settle code k port) n,
        first,
        later,
      )

  module _ (each : fires_by_rounds code ≡ false)
      (there : slice_get nodes channel.target.node ≡ Some code) where
    -- what its target has taken
    pub popped_is : (n : ℕ)
        → total (pops_at code) n channel.target.port ≡ popped (rates_of_channel nodes channel) n
    unfolding total
    popped_is zero = refl
    popped_is (suc n) =
        let port = channel.target.port in
        let rate = λ (firing : ℕ) (found : Option NodeCode).
        option_map_or (λ node. pops_at node firing port) found 0 in
        let first = ap (rate 0) there in
        let later = ap (λ (found : Option NodeCode). rate 1 found * n) there in
        omega (
          arith,
          total_settled (pops_at code) port (λ k. pops_settle code each k port) n,
          first,
          later,
        )

    -- and how far its next firing sees
    pub reach_is : (n : ℕ) → total (pops_at code) n channel.target.port
        + window_at code n channel.target.port ≡ reach (rates_of_channel nodes channel) n
    unfolding total
    reach_is zero =
        let port = channel.target.port in
        let first = ap (λ (found : Option NodeCode).
        option_map_or (λ node. window_at node 0 port) found 0) there in
        omega (arith, first)
    reach_is (suc n) =
        let port = channel.target.port in
        let later = ap (λ (found : Option NodeCode).
        option_map_or (λ node. window_at node 1 port) found 0) there in
        omega (arith, popped_is (suc n), windows_settle code n port, later)
