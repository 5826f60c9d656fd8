-- The threads of the workers.
use Rattle.std.specs.Prelude.{List, map}
use Rattle.core.specs.declared.thread.PromisedHandle.{PromisedHandle}
use Rattle.strc_run_links.specs.declared.worker_end.Worked.{Worked}
use Rattle.strc_run_links.specs.declared.begun.Begun.{Begun}
use Rattle.strc_run_links.specs.declared.shapes.Seat.{Seat}

-- The seats that they began with.
abbrev pub begun_of : {S : Type 0} → List (PromisedHandle (Worked S) (Begun S)) → List (Seat S)
begun_of children = map (λ child. child.promise.0.value) children
