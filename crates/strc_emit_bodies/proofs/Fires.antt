-- A firing of the functions that are written for a filter does what the filter's text means.
use Rattle.std.proofs.Common.{◌≡◌, ◌≢◌, ℕ, suc, ◌<◌, max, ℤ, false, not, List, [], Result, Ok, Err}
use Rattle.std.specs.Result.{IfOk}
use Rattle.std.proofs.Common.{◌∷◌, length, codes, Option, Some, None, refl, sym, ap, ap₂}
use Rattle.std.proofs.Common.{subst, arith}
use Rattle.std.specs.Prelude.{unwrap_or}
use Rattle.std.specs.Option.{option_map}
use Rattle.strc_parse_tree.specs.Tree as tree
use Rattle.strc_parse_tree.specs.declared.tree.FilterTree.{FilterTree}
use Rattle.strc_work_meaning.specs.declared.body.Body.{Body}
use Rattle.strc_work_meaning.specs.declared.body.Body.TheVariants as body
use Rattle.strc_work_meaning.specs.declared.fault.Cause.TheVariants as cause
use Rattle.strc_work_meaning.specs.declared.fault.TheConstants.{CALL_LIMIT}
use Rattle.strc_work_meaning.specs.Filters.{filter_of, body_rates}
use Rattle.strc_work_meaning.specs.Scoping.{Scope}
use Rattle.strc_work_meaning.specs.Firing.{fired, turn_limit, call_limit}
use Rattle.strc_work_code.specs.declared.code.Routine.{Routine}
use Rattle.strc_work_code.specs.declared.limits.FiringLimits.{FiringLimits}
use Rattle.strc_work_code.specs.declared.helper.HelperCode.{HelperCode}
use Rattle.strc_work_code.specs.Code.{code_of}
use Rattle.strc_work_code.specs.Helpers.{AreHelpers, codes_room}
use Rattle.strc_work_code.specs.Links.{helper_names, AreLinkedCodes}
use Rattle.strc_work_code.specs.Lowered.{limits_of}
use Rattle.strc_work_code.specs.Lowering.{body_nodes, field_scope, helpers_room}
use Rattle.strc_emit_c.specs.declared.function.Function.{Function}
use Rattle.strc_emit_c.specs.Meaning.{Memory, Standing}
use Rattle.strc_emit_code.specs.Emitted.{emitted}
use Rattle.strc_emit_meaning.specs.Refinement.{Refines}
use Rattle.strc_work.specs.Calls.{Callable, IsCallable}
use Rattle.strc_emit_filter.specs.Filters.{helper_function, body_function, names_of, has_helpers}
use Rattle.strc_emit_filter.specs.Filters.{IsFilterText, IsPreworkOf}
use Rattle.strc_emit_firings.specs.Functions.{Unset, helper_functions, helpers_done, firing_done}
use Rattle.strc_emit_firings.specs.Functions.{without_items}
use Rattle.strc_emit_firings.specs.Firings.{Fires, FiringShows, WritesHelpers}
use Rattle.strc_emit_firings.proofs.Firing.{firings_do_same}
use Rattle.strc_rate.specs.Rates.{FilterRates, checked}
use Rattle.strc_rate.specs.declared.rates.RateError.{RateError}
use Rattle.strc_rate.specs.Kept.{run_of}
use Rattle.strc_rate.specs.Ranges.{IsInRange, StaysInRange}
use Rattle.strc_rate.proofs.Reaching.{in_plain}
use Rattle.strc_rate.proofs.Firings.{firings_stay}
use Rattle.strc_emit_bodies.specs.Spelling.{BodyFunction, routine_function}
use Rattle.strc_emit_bodies.specs.Bodies.{written_functions, IsFunctionOf, IsKnownFilter, FiresIn}
use Rattle.strc_emit_bodies.specs.Bodies.{FilterTextsFire}

-- what holds of a result that is known
known_ok : (result : Result FilterRates RateError) (rates : FilterRates)
    (P : FilterRates → Type 0) → result ≡ Ok rates → IfOk result P → P rates
known_ok result rates P is h = rw is at h

names_are : (fields : Scope) (members : List tree.Member) (codes : List HelperCode)
    → AreHelpers fields members codes → names_of codes ≡ helper_names members
names_are fields [] codes are = ap names_of are
names_are fields (tree.Fields kind variables ∷ rest) codes are = names_are fields rest codes are
names_are fields (tree.Init block ∷ rest) codes are = names_are fields rest codes are
names_are fields (tree.Prework rates block ∷ rest) codes are = names_are fields rest codes are
names_are fields (tree.Work rates block ∷ rest) codes are = names_are fields rest codes are
names_are fields (tree.Helper kind own parameters block ∷ rest) [] are = absurd are
names_are fields (tree.Helper kind own parameters block ∷ rest) (first ∷ others) are =
    ap₂ (λ n l. n ∷ l) are.0.name_is (names_are fields rest others are.1)

rooms_are : (fields : Scope) (members : List tree.Member) (codes : List HelperCode)
    → AreHelpers fields members codes → codes_room codes ≡ helpers_room fields members
rooms_are fields [] codes are = ap codes_room are
rooms_are fields (tree.Fields kind variables ∷ rest) codes are = rooms_are fields rest codes are
rooms_are fields (tree.Init block ∷ rest) codes are = rooms_are fields rest codes are
rooms_are fields (tree.Prework rates block ∷ rest) codes are = rooms_are fields rest codes are
rooms_are fields (tree.Work rates block ∷ rest) codes are = rooms_are fields rest codes are
rooms_are fields (tree.Helper kind own parameters block ∷ rest) [] are = absurd are
rooms_are fields (tree.Helper kind own parameters block ∷ rest) (first ∷ others) are =
    ap₂ max are.0.slots_are (rooms_are fields rest others are.1)

module _ (node : ℕ) (filter : FilterTree) (values : List ℤ) (text : List ℕ)
    (written : IsFilterText node filter values text)
    (linked : AreLinkedCodes (helper_names (filter_of filter).members) written.helpers)
    (known : IsKnownFilter filter values) where
  abbrev calls : Callable
  calls = record {
    tree = filter;
    helpers = written.helpers;
    fields = length values;
    room = codes_room written.helpers;
    levels = call_limit;
  }

  abbrev helper : Function
  helper = helper_function node (length values) written.arrays (names_of written.helpers)

  callable : IsCallable calls
  callable = record {
    helpers_are = written.helpers_are;
    fields_are = known.count;
    room_is = refl;
    linked = linked;
    closed = known.closed;
  }

  -- the routine of a body
  record IsBody (which : Body) (routine : Routine) : Type 0 where
    code_is : code_of routine.code ≡ body_nodes which (filter_of filter)
    limits_are : routine.limits ≡ limits_of (body_rates which (filter_of filter).members)

  work_is : IsBody body.Work written.work
  work_is = record { code_is = written.work_is; limits_are = written.limits_are }

  prework_is : (routine : Routine) → written.prework ≡ Some routine → IsBody body.Prework routine
  prework_is routine e =
      let is = subst (IsPreworkOf filter) e written.prework_is in
      record { code_is = is.1; limits_are = is.2 }

  module _ (which : Body) (name : List ℕ) (routine : Routine) (is : IsBody which routine)
      (stand : Standing) (unset : Unset) (fields window : List ℤ) (memory : Memory) (fuel : ℕ)
      (fires : FiresIn filter
      (routine_function helper written.tests name (not (has_helpers filter)) routine) stand fields
      window memory) (enough : turn_limit < fuel) where
    abbrev function : Function
    function = body_function helper written.tests routine.limits

    writes : WritesHelpers calls helper stand
    writes = record {
      names = names_are (field_scope (filter_of filter)) (filter_of filter).members
          written.helpers written.helpers_are;
      fields = fires.same;
      tests = refl;
      pops = refl;
      peek = refl;
      pushes = refl;
      small = omega (
        arith,
        known.small,
        rooms_are (field_scope (filter_of filter))
            (filter_of filter).members written.helpers written.helpers_are,
      );
      apart = fires.apart;
    }

    stands : Fires calls which function helper stand fields window memory
    stands = record {
      names = writes.names;
      pops = ap (λ (l : FiringLimits). l.pops) is.limits_are;
      peek = ap (λ (l : FiringLimits). l.peek) is.limits_are;
      pushes = ap (λ (l : FiringLimits). l.pushes) is.limits_are;
      helpers = writes;
      small = known.small;
      few_read = fires.few_read;
      few_written = fires.few_written;
      reads = fires.reads;
      writes = fires.writes;
      count = fires.count;
      held = fires.held;
      whole = fires.whole;
      ahead = fires.ahead;
    }

    -- a firing without tests comes to none of what these test
    safe : written.tests ≡ false
        → fired (filter_of filter) which fields window ≢ Err cause.PeekRange
    safe none =
        let closed = written.untested none in
        let range = known_ok (checked (filter_of filter)) closed.0 (StaysInRange (filter_of filter))
        closed.1 (firings_stay (filter_of filter) known.closed) in
        let here = in_plain (run_of (filter_of filter) which fields window) _
        (range which fields window (omega (arith, stands.peek, fires.whole)) (closed.2 which))
        (λ store. tt) in
        λ is. subst IsInRange is here

    routine_fires : Refines (FiringShows stand routine.limits.pushes memory)
        (fired (filter_of filter) which fields window)
        (firing_done fuel (helpers_done fuel (without_items stand) unset
        (helper_functions helper written.helpers) (suc CALL_LIMIT)) stand unset
        (emitted function (code_of routine.code)) memory)
    routine_fires =
        subst (λ nodes. Refines (FiringShows stand routine.limits.pushes memory)
        (fired (filter_of filter) which fields window)
        (firing_done fuel (helpers_done fuel (without_items stand) unset
        (helper_functions helper written.helpers) (suc CALL_LIMIT)) stand unset
        (emitted function nodes) memory)) (sym is.code_is)
        (firings_do_same calls which function helper stand unset fields window memory fuel callable
        known.calls refl stands enough safe)

  -- the function of a body is that of its routine
  abbrev Does : Body → BodyFunction → Type 0
  Does which function =
      (stand : Standing) (unset : Unset) (fields window : List ℤ) (memory : Memory) (fuel : ℕ)
      → FiresIn filter function stand fields window memory → turn_limit < fuel
      → Refines (FiringShows stand function.function.pushes memory)
      (fired (filter_of filter) which fields window)
      (firing_done fuel (helpers_done fuel (without_items stand) unset
      (helper_functions helper written.helpers) (suc CALL_LIMIT)) stand unset
      function.statements memory)

  none_body : (function : BodyFunction) → None ≡ Some function → ⊥
  none_body function e = cc

  same_body : (a b : BodyFunction) → Some a ≡ Some b → a ≡ b
  same_body a b e = ap (λ o. unwrap_or o a) e

  abbrev prework_function : Routine → BodyFunction
  prework_function =
      routine_function helper written.tests (codes "prework") (not (has_helpers filter))

  prework_does : (function : BodyFunction) (prework : Option Routine) → written.prework ≡ prework
      → option_map prework_function prework ≡ Some function → Does body.Prework function
  prework_does function None at e = absurd (none_body function e)
  prework_does function (Some routine) at e =
      subst (Does body.Prework)
      (same_body (prework_function routine) function e)
      (routine_fires body.Prework (codes "prework") routine (prework_is routine at))

  body_does : (which : Body) (own : BodyFunction)
      → IsFunctionOf which (written_functions written) own → Does which own
  body_does body.Prework own e = prework_does own written.prework refl e
  body_does body.Work own e =
      subst (Does body.Work) e (routine_fires body.Work (codes "work") written.work work_is)

pub texts_fire : FilterTextsFire
texts_fire node filter values text written linked known which function is stand unset fields window
    memory fuel fires enough =
    body_does node filter values text written linked known which function is stand unset fields
    window memory fuel fires enough
