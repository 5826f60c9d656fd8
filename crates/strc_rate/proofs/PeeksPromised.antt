-- The laws about all runs of a text.
use Rattle.std.proofs.Common.{◌≡◌, subst, ap, ℕ, ◌≤◌, [], length, Option, Some, None}
use Rattle.std.proofs.Common.{◌∙◌, arith}
use Rattle.std.specs.Option.{IfSome}
use Rattle.std.specs.Result.{IfOk}
use Rattle.std.proofs.lemmas.List.{length-map}
use Rattle.std.proofs.lemmas.Result.{IfOk-weaker}
use Rattle.strc_parse_tree.specs.Tree as tree
use Rattle.strc_work_meaning.specs.Firing.{Setting, Store, no_traffic, stmts_done}
use Rattle.strc_rate.specs.Counts.{Counts, saturated, stmts_counts}
use Rattle.strc_rate.specs.Peeks.{none_popped, sight_of, stmts_sites}
use Rattle.strc_rate.specs.Promises.{CountedItemsAreMoved, EachPeekHasAnEntry}
use Rattle.strc_rate.specs.Promises.{ClosedPeeksFindItems}
use Rattle.strc_rate.proofs.CountedMoves.{Moves, Counted}
use Rattle.strc_rate.proofs.StatementCounts.{stmts_counted}
use Rattle.strc_rate.proofs.Readiness.{Ready}
use Rattle.strc_rate.proofs.Unwritten.{scope_length}
use Rattle.strc_rate.proofs.EachEntry.{stmts_entries, stand_whole}
use Rattle.strc_rate.proofs.SafePeeks.{stmts_safe}

moved_by : (setting : Setting) (block : tree.Stmts) (store : Store) (counts : Option Counts)
    → store.traffic ≡ no_traffic
    → IfOk (stmts_done setting block store) (λ after. Counted counts store.traffic after.traffic)
    → IfSome counts (λ c. IfOk (stmts_done setting block store) (λ after.
    (saturated after.traffic.popped ≡ c.pops)
    × (saturated (length after.traffic.pushes) ≡ c.pushes)))
moved_by setting block store None none h = tt
moved_by setting block store (Some c) none h =
    IfOk-weaker (stmts_done setting block store) (λ after. Moves no_traffic after.traffic c) _
    (λ after moves.
    let popped = moves.popped in
    let pushed = moves.pushed in
    let pops = moves.saturated_pops in
    let pushes = moves.saturated_pushes in
    (omega arith, omega arith))
    (subst (λ traffic. IfOk (stmts_done setting block store)
    (λ after. Moves traffic after.traffic c)) none h)

pub counted_items : CountedItemsAreMoved
counted_items setting block names store closed plain room none =
    moved_by setting block store (stmts_counts [] block) none
    (stmts_counted setting block [] names store (closed, plain)
    (omega (arith, room, scope_length store.variables)))

pub each_entry : EachPeekHasAnEntry
each_entry window block = length-map (stmts_sites [] none_popped block) (sight_of window)
    ∙ stmts_entries block [] none_popped

none_ready : (fields : ℕ) (store : Store) → fields ≤ length store.variables
    → store.traffic ≡ no_traffic → Ready fields [] none_popped store
none_ready fields store room none =
    let popped : store.traffic.popped ≡ 0 = ap (λ t. t.popped) none in
    record {
      seen = omega (arith, room, scope_length store.variables);
      holds = λ name. tt;
      within = omega arith;
    }

pub closed_peeks : ClosedPeeksFindItems
closed_peeks window setting block names store small ahead closed plain counted room none =
    stmts_safe window setting (record { small = small; ahead = ahead }) _ block names []
    none_popped 0 store (closed, plain) counted (λ name e. absurd (cc))
    (none_ready setting.fields store room none)
    (stand_whole window (stmts_sites [] none_popped block))
