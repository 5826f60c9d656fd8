use Rattle.std.proofs.Common.{◌≡◌, drop}
use Rattle.strc_sched_laws.specs.Machine.{CircuitView}
use Rattle.strc_stage_core.specs.Parcels.{parcel}
use Rattle.strc_sched_machine.specs.Running.{IsMachine, machine_view, with_words}
use Rattle.strc_stage_steps.specs.Steps.{load_worded, words_left}
use Rattle.strc_stage_steps.proofs.stage_words.hand_words.Given as goal

abbrev pub invariant-loop-own : goal.invariant-loop-own
invariant-loop-own l =
    ((circuit : CircuitView) → IsMachine circuit l.fn.machine → IsMachine circuit l.machine)
    × (with_words (words_left (drop l.own-index l.tapes) (machine_view l.machine).words)
    (machine_view l.machine)
    ≡ with_words (words_left l.tapes (machine_view l.fn.machine).words)
    (machine_view l.fn.machine))
    × (parcel (load_worded (drop l.own-index l.tapes) (machine_view l.machine).words
    l.parcel.load) l.parcel.stop l.parcel.last
    ≡ parcel (load_worded l.tapes (machine_view l.fn.machine).words l.fn.parcel.load)
    l.fn.parcel.stop l.fn.parcel.last)
