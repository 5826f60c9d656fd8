use denote.Exit.{no}
use denote.Param.Send.{param_send, arg_send}
use Rattle.strc_stage_cut.specs.Launches.{start_of}
use Rattle.strc_run_workers.proofs.Rings.{left_state}
use Rattle.strc_run_workers.proofs.StageCrosses.{stage_send}
use Rattle.strc_run_workers.proofs.stage_rounds.collected.Goals as goal

pub run_ring-requires-send-S : goal.run_ring-requires-send-S
run_ring-requires-send-S g c κs within = param_send 0 _ (arg_send _ no _ stage_send)

pub driven-requires : goal.driven-requires
driven-requires g c = (
  start_of c.args.ring,
  left_state c.args.ring c.requires.start c.in_ok-parts.parts c.in_ok-parts.ensures,
)

pub returns : goal.returns
returns g c =
    c.in_ok-driven.ensures (start_of c.args.ring)
    (left_state c.args.ring c.requires.start c.in_ok-parts.parts c.in_ok-parts.ensures)
