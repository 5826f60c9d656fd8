-- Rounds go as over queues, since each firing does, and so does start-up.
use Rattle.std.specs.Prelude.{slice_index}
use Rattle.strc_emit_moves.specs.declared.places.Phase.TheVariants as phase
use Rattle.strc_emit_runs.proofs.Orders.{runs_go}
use Rattle.strc_emit_runs.proofs.Rounds.{rounds_go, startup_goes}
use Rattle.strc_emit_network.specs.Runs.{NetworkRuns, NetworkStarts}
use Rattle.strc_emit_network.proofs.Firings.{network_firings}

pub network_runs : NetworkRuns
network_runs graph program calls order input is are all =
    runs_go graph program calls order input
    (rounds_go graph program (slice_index program.network.round.now) calls order
    (network_firings graph program phase.Round is) are all)

pub network_starts : NetworkStarts
network_starts graph program calls order now running is are all finds shows =
    startup_goes graph program (slice_index program.network.startup.now) calls order now running
    (network_firings graph program phase.Startup is) are all finds shows
