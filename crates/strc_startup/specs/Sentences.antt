-- What a person reads where a graph has no start-up counts.
use Rattle.std.specs.Prelude.{ℕ, List, codes}
use Rattle.strc_startup.specs.declared.error.StartupError.{StartupError}
use Rattle.strc_startup.specs.declared.error.StartupError.TheVariants.{Unbounded, NoMemory}

abbrev pub startup_sentence : StartupError → List ℕ
startup_sentence Unbounded = codes "a node would fire too often before the first round"
startup_sentence NoMemory = codes "out of memory"
