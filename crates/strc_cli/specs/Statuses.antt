-- The exit status that belongs to how a call went.
use Rattle.std.specs.Prelude.{ℕ}
use Rattle.strc_cli.specs.declared.execute.Status.{Status}
use Rattle.strc_cli.specs.declared.execute.Status.TheVariants as status

-- 0: done; 2: refused; 3: a firing faulted; 4: out of memory
abbrev pub status_number : Status → ℕ
status_number status.Done = 0
status_number status.Refused = 2
status_number status.Fault = 3
status_number status.NoMemory = 4
