-- What a person reads where nodes aren't split.
use Rattle.std.specs.Prelude.{ℕ, List, codes, decimal, ◌++◌}
use Rattle.strc_fiss.specs.declared.error.FissError.{FissError}
use Rattle.strc_fiss.specs.declared.error.FissError.TheVariants.{NodeLimit, BufferLimit, NoMemory}

abbrev pub fiss_sentence : FissError → List ℕ
fiss_sentence NodeLimit = codes "too many nodes"
fiss_sentence (BufferLimit channel) =
    codes "too many items on channel " ++ decimal channel
fiss_sentence NoMemory = codes "out of memory"
