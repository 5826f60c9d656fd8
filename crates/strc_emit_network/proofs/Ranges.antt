-- Lowered code faults as its text does, and so stays in range where that does.
use Rattle.std.proofs.Common.{◌≡◌, subst, List, length, Result, Ok, Err}
use Rattle.std.proofs.lemmas.Result.{IfOk-weaker}
use Rattle.strc_work_meaning.specs.declared.fault.Cause.{Cause}
use Rattle.strc_work_meaning.specs.declared.fault.Cause.TheVariants.{DivZero, Index, PeekRange}
use Rattle.strc_work_meaning.specs.declared.fault.Cause.TheVariants.{Turns, Calls}
use Rattle.strc_work_meaning.specs.Firing.{fired, setting_of, no_traffic}
use Rattle.strc_work_code.specs.Lowering.{body_nodes}
use Rattle.strc_work_code.specs.Nodes.{nodes_done}
use Rattle.strc_work.proofs.Related.{Related}
use Rattle.strc_work.proofs.FilterRuns.{HasFired, body_runs}
use Rattle.strc_rate.specs.Kept.{run_of}
use Rattle.strc_rate.specs.Rates.{checked}
use Rattle.strc_rate.specs.Ranges.{IsInRange, StaysInRange}
use Rattle.strc_rate.proofs.Reaching.{in_plain}
use Rattle.strc_rate.proofs.Firings.{firings_stay}
use Rattle.strc_emit_network.specs.Ranges.{CodesStayInRange}

-- whatever a run would have given
same_fault : (A B : Type 0) (why : Cause) → IsInRange {A = A} (Err why)
    → IsInRange {A = B} (Err why)
same_fault A B DivZero here = tt
same_fault A B Index here = tt
same_fault A B PeekRange here = here
same_fault A B Turns here = tt
same_fault A B Calls here = tt

-- a run that tells the same stays in range too
pub related_stays : {A B : Type 0} (P : A → B → Type 0) (x : Result A Cause) (y : Result B Cause)
    → Related P x y → IsInRange x → IsInRange y
related_stays P (Ok a) (Ok b) same here = tt
related_stays P (Ok a) (Err why) same here = absurd same
related_stays P (Err why) (Ok b) same here = tt
related_stays {A} {B} P (Err why) (Err other) same here =
    subst (λ cause. IsInRange {A = B} (Err cause)) same (same_fault A B why here)

pub codes_stay : CodesStayInRange
codes_stay filter closed =
    IfOk-weaker (checked filter) (StaysInRange filter) _
    (λ rates stays body fields slots window count held room whole all_closed.
    related_stays (HasFired filter (length slots)) (fired filter body fields window)
    (nodes_done (setting_of filter body window) (body_nodes body filter)
    (record { slots = slots; traffic = no_traffic }))
    (body_runs filter body fields slots window closed count held room)
    (in_plain (run_of filter body fields window) _ (stays body fields window whole all_closed)
    (λ store. tt)))
    (firings_stay filter closed)
