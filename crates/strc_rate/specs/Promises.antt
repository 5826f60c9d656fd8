-- What is known of a text, as laws about all its runs.
use Rattle.std.specs.Prelude.{◌≡◌, ℕ, ◌<◌, ◌≤◌, true, false, [], length, map, IfOk, IfSome, is_some}
use Rattle.strc_parse_tree.specs.Tree as tree
use Rattle.strc_work_meaning.specs.Scoping.{Scope}
use Rattle.strc_work_meaning.specs.Closed.{AreClosed}
use Rattle.strc_work_meaning.specs.Returns.{stmts_return}
use Rattle.strc_work_meaning.specs.Firing.{Setting, Store, no_traffic, stmts_done}
use Rattle.strc_rate.specs.Counts.{saturated, stmts_counts}
use Rattle.strc_rate.specs.declared.counts.TheConstants.{COUNT_LIMIT}
use Rattle.strc_rate.specs.Entries.{peeks_of}
use Rattle.strc_rate.specs.Peeks.{is_closed, body_sights}
use Rattle.strc_rate.specs.PeeksSafe.{StmtsAreSafe}

-- a run of statements of known names, none of them a `return`, without a fault, in a store that has
-- the fields, pops and pushes the counted items, each number saturated as counts are
abbrev pub CountedItemsAreMoved : Type 0
CountedItemsAreMoved = (setting : Setting) (block : tree.Stmts) (names : Scope) (store : Store)
    → AreClosed names block → stmts_return block ≡ false
    → setting.fields ≤ length store.variables → store.traffic ≡ no_traffic
    → IfSome (stmts_counts [] block)
    (λ counts. IfOk (stmts_done setting block store) (λ after.
    (saturated after.traffic.popped ≡ counts.pops)
    × (saturated (length after.traffic.pushes) ≡ counts.pushes)))

-- one entry is reported of each peek of a text
abbrev pub EachPeekHasAnEntry : Type 0
EachPeekHasAnEntry = (window : ℕ) (block : tree.Stmts)
    → length (body_sights window block) ≡ length (peeks_of block)

-- before a whole window each run of statements of known names, none of them a `return`, whose items
-- are counted, finds the item of each peek whose entry is closed, where the store has the fields
abbrev pub ClosedPeeksFindItems : Type 0
ClosedPeeksFindItems = (window : ℕ) (setting : Setting) (block : tree.Stmts) (names : Scope)
    (store : Store) → window < COUNT_LIMIT → window ≤ length setting.port.ahead
    → AreClosed names block → stmts_return block ≡ false
    → is_some (stmts_counts [] block) ≡ true → setting.fields ≤ length store.variables
    → store.traffic ≡ no_traffic
    → StmtsAreSafe setting (map is_closed (body_sights window block)) 0 block store
