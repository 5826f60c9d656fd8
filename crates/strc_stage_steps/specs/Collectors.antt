-- Collectors as the definitions see them.
use Rattle.std.specs.Prelude.{◌≡◌, ◌≤◌, ℕ, Option, None, nat_eq, List, map}
use Rattle.std.specs.Global.{Vec}
use Rattle.std.specs.Vec.{vec_items}
use Rattle.strc_work_meaning.specs.declared.word.Word.{Word}
use Rattle.strc_stage_core.specs.Actors as actors
use Rattle.strc_sched_outcome.specs.declared.stop.Stop.{Stop}
use Rattle.strc_stage_steps.specs.Steps.{Gathered}
use Rattle.strc_stage_steps.specs.declared.collector.CollectorParts.{CollectorParts}

abbrev pub total_of : CollectorParts → Gathered
total_of parts = record { words = map vec_items parts.words.items; rounds = parts.gathered }

abbrev pub sees : CollectorParts → actors.Collector Gathered Stop
sees parts = record {
  total = total_of parts;
  rounds = parts.rounds;
  taken = parts.taken;
  stop = parts.stop;
  finished = parts.finished;
}

-- It gathered no more parcels than it took.
abbrev pub IsCollector : CollectorParts → Type 0
IsCollector parts = parts.gathered ≤ parts.taken

-- Before its first parcel, with the words of start-up; where there are no rounds, it has finished.
abbrev pub begun : Vec (Vec Word) → (rounds : ℕ) → CollectorParts
begun words rounds = record {
  words = words;
  gathered = 0;
  rounds = rounds;
  taken = 0;
  stop = None;
  finished = nat_eq rounds 0;
}
