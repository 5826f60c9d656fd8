-- What a firing may call, of which none is running.
use Rattle.std.proofs.Common.{◌≡◌, ℕ, ◌+◌, ◌-◌, ◌*◌, ◌≤◌, Bool, true, false, cond}
use Rattle.std.proofs.Common.{List, sym, ap, ◌∙◌, arith}
use Rattle.std.specs.Prelude.{nat_lt}
use Rattle.strc_parse_tree.specs.declared.tree.FilterTree.{FilterTree}
use Rattle.strc_work_meaning.specs.Filters.{filter_of, sized_fields}
use Rattle.strc_work_meaning.specs.Scoping.{total}
use Rattle.strc_work_meaning.specs.Firing.{Port, setting_at, call_limit}
use Rattle.strc_work_meaning.proofs.Turns.{call_limit-is}
use Rattle.strc_work_code.specs.Lowering.{field_scope, slot_count, helpers_room}
use Rattle.strc_work_code.specs.declared.helper.HelperCode.{HelperCode}
use Rattle.strc_work_code.specs.Helpers.{AreHelpers, saved_count}
use Rattle.strc_work_code.specs.Links.{helper_names, AreLinkedCodes}
use Rattle.strc_work_meaning.specs.Closed.{IsClosedFilter}
use Rattle.strc_work_code.proofs.HelperRooms.{codes_room-is}
use Rattle.strc_work.specs.Settings.{level_setting}
use Rattle.strc_work.specs.Calls.{Callable, IsCallable, filter_in, save_room, setting_in}

-- what may be called of a filter, by its code
pub callable_of : (tree : FilterTree) (helpers : List HelperCode) (fields room levels : ℕ)
    → AreHelpers (field_scope (filter_of tree)) (filter_of tree).members helpers
    → AreLinkedCodes (helper_names (filter_of tree).members) helpers
    → fields ≡ total (sized_fields (filter_of tree).members)
    → room ≡ helpers_room (field_scope (filter_of tree)) (filter_of tree).members
    → IsClosedFilter (filter_of tree)
    → IsCallable (record {
      tree = tree;
      helpers = helpers;
      fields = fields;
      room = room;
      levels = levels;
    })
callable_of tree helpers fields room levels are linked fields_are room_is closed = record {
  helpers_are = are;
  fields_are = fields_are;
  room_is = room_is ∙ sym (codes_room-is (field_scope (filter_of tree)) (filter_of tree).members
      helpers are);
  linked = linked;
  closed = closed;
}

-- they stand in the filter's setting
pub top_setting : (calls : Callable) (tree : FilterTree) (port : Port) → calls.tree ≡ tree
    → calls.levels ≡ call_limit → setting_in calls port ≡ setting_at (filter_of tree).members port
top_setting calls tree port tree_is levels_are =
    ap (λ t. level_setting (filter_of t).members calls.levels port) tree_is
    ∙ ap (λ n. level_setting (filter_of tree).members n port) levels_are

room_as : (calls : Callable) → IsCallable calls
    → calls.room ≡ helpers_room (field_scope (filter_in calls)) (filter_in calls).members
room_as calls is =
    is.room_is ∙ codes_room-is (field_scope (filter_in calls)) (filter_in calls).members
    calls.helpers is.helpers_are

-- a filter's slots are enough for each call
pub callable_runs : (calls : Callable) (tree : FilterTree) → IsCallable calls → calls.tree ≡ tree
    → calls.room ≤ slot_count (filter_of tree)
callable_runs calls tree is tree_is =
    omega (arith, room_as calls is, ap (λ t. slot_count (filter_of t)) tree_is)

saves_by : (t : Bool) (room fields slots levels : ℕ) → room ≤ slots → levels ≡ 64
    → cond t ((room - fields) + levels * (room - fields)) 0
    ≤ cond t ((slots - fields) + 64 * (room - fields)) 0
saves_by true room fields slots levels le limit =
    omega (arith, le, ap (λ n. n * (room - fields)) limit)
saves_by false room fields slots levels le limit = omega arith

-- and so are the places for what is saved
pub callable_saves : (calls : Callable) (tree : FilterTree) → IsCallable calls
    → calls.tree ≡ tree → calls.levels ≡ call_limit → save_room calls ≤ saved_count (filter_of tree)
callable_saves calls tree is tree_is levels_are =
    let filter = filter_in calls in
    let rooms = room_as calls is in
    let less = saves_by (nat_lt 0 calls.room) calls.room calls.fields (slot_count filter)
    calls.levels (omega (arith, rooms)) (levels_are ∙ call_limit-is) in
    let same : cond (nat_lt 0 calls.room)
    ((slot_count filter - calls.fields) + 64 * (calls.room - calls.fields)) 0
    ≡ saved_count (filter_of tree) =
    ap (λ n. cond (nat_lt 0 n) ((slot_count filter - calls.fields) + 64 * (n - calls.fields)) 0)
    rooms
    ∙ ap (λ k. cond (nat_lt 0 (helpers_room (field_scope filter) filter.members))
    ((slot_count filter - k) + 64 * (helpers_room (field_scope filter) filter.members - k)) 0)
    is.fields_are
    ∙ ap (λ t. saved_count (filter_of t)) tree_is in
    omega (arith, less, same)
