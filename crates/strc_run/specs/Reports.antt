-- How the errors of fission and of fusion are told as a text's refusal.
use Rattle.strc_fuse.specs.declared.error.FuseError.{FuseError}
use Rattle.strc_fuse.specs.declared.error.FuseError.TheVariants as unfused
use Rattle.strc_fiss.specs.declared.error.FissError.{FissError}
use Rattle.strc_fiss.specs.declared.error.FissError.TheVariants as unsplit
use Rattle.strc_run_refusal.specs.declared.refusal.Refusal.{Refusal}
use Rattle.strc_run_refusal.specs.declared.refusal.Refusal.TheVariants as refusal

abbrev pub fission_refusal_of : FissError → Refusal
fission_refusal_of unsplit.NodeLimit = refusal.NodeLimit
fission_refusal_of (unsplit.BufferLimit channel) = refusal.BufferLimit channel
fission_refusal_of unsplit.NoMemory = refusal.NoMemory

abbrev pub fusion_refusal_of : FuseError → Refusal
fusion_refusal_of (unfused.BufferLimit channel) = refusal.BufferLimit channel
fusion_refusal_of unfused.NoMemory = refusal.NoMemory
