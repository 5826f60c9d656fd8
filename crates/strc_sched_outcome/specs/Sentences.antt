-- What a person reads where there is no run.
use Rattle.std.specs.Prelude.{ℕ, List, codes, decimal, ◌++◌}
use Rattle.strc_sched_outcome.specs.declared.run_refusal.RunRefusal.{RunRefusal}
use Rattle.strc_sched_outcome.specs.declared.run_refusal.RunRefusal.TheVariants.{InputShort}
use Rattle.strc_sched_outcome.specs.declared.run_refusal.RunRefusal.TheVariants.{BadWorkers}
use Rattle.strc_sched_outcome.specs.declared.run_refusal.RunRefusal.TheVariants.{NoMemory, NoWorker}
use Rattle.strc_sched_outcome.specs.declared.run_refusal.RunRefusal.TheVariants.{RoundsNeeded}

abbrev pub refusal_sentence : RunRefusal → List ℕ
refusal_sentence (InputShort need got) =
    codes "the input has fewer items than the rounds read, " ++ decimal need
refusal_sentence BadWorkers = codes "the number of workers must be from 1 to 64"
refusal_sentence NoMemory = codes "out of memory"
refusal_sentence NoWorker = codes "a thread was refused"
refusal_sentence RoundsNeeded = codes "a number of rounds is needed where no input is read"
