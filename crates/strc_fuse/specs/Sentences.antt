-- What a person reads where units aren't fused.
use Rattle.std.specs.Prelude.{ℕ, List, codes, decimal, ◌++◌}
use Rattle.strc_fuse.specs.declared.error.FuseError.{FuseError}
use Rattle.strc_fuse.specs.declared.error.FuseError.TheVariants.{BufferLimit, NoMemory}

abbrev pub fuse_sentence : FuseError → List ℕ
fuse_sentence (BufferLimit channel) =
    codes "too many items on channel " ++ decimal channel
fuse_sentence NoMemory = codes "out of memory"
