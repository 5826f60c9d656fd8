-- The parts of a filter's code find their arrays.
use Rattle.std.proofs.Common.{◌≡◌, ℕ, ◌+◌, ◌^◌, ◌<◌, ◌≤◌, max, List, [], ◌∷◌, length, sym, subst}
use Rattle.std.proofs.Common.{arith, Vec, Global, Result, Ok, Err}
use Rattle.std.specs.Prelude.{IfOk, Option}
use Rattle.std.specs.List.{All}
use Rattle.std.proofs.lemmas.List.Elements.{All-cons, All-head, All-nil, All-same, All-tail}
use Rattle.strc_parse_tree.specs.Tree as tree
use Rattle.strc_parse_tree.specs.declared.tree.FilterTree.{FilterTree}
use Rattle.strc_work_meaning.specs.declared.body.Body.TheVariants as body
use Rattle.strc_work_meaning.specs.Filters.{filter_of, sized_fields}
use Rattle.strc_work_meaning.specs.Scoping.{Scope, total}
use Rattle.strc_work_code.specs.declared.code.Routine.{Routine}
use Rattle.strc_work_code.specs.declared.helper.HelperCode.{HelperCode}
use Rattle.strc_work_code.specs.Code.{code_of}
use Rattle.strc_work_code.specs.Helpers.{AreHelpers, block_nodes}
use Rattle.strc_work_code.specs.Lowering.{body_nodes, field_scope, helpers_room, slot_count}
use Rattle.strc_work_code.specs.Lowering.{start_nodes}
use Rattle.strc_work_code.specs.Nodes.{Nodes, nodes_room}
use Rattle.strc_emit_filter.specs.Arrays.{AreJoined, AreOneArray, PartsFindArrays, OfCode, Reaches}
use Rattle.strc_emit_filter.specs.Filters.{ArePartsOf, IsPreworkOf}
use Rattle.strc_emit_filter.proofs.Codes.{of_code_weaker, of_code_within}

-- what follows from what holds of an array within so many slots
abbrev Gives : (slots : ℕ) → (Is Also : (base count : ℕ) → Type 0) → Type 0
Gives slots Is Also =
    (base count : ℕ) → (base + count ≤ slots) × Is base count → Also base count

-- the same code
same_code : (Is Also : (base count : ℕ) → Type 0) (slots : ℕ) → Gives slots Is Also
    → (nodes code other : Nodes) → code ≡ nodes → other ≡ nodes → nodes_room nodes ≤ slots
    → OfCode Is code → OfCode Also other
same_code Is Also slots so nodes code other one two fits is =
    subst (OfCode Also) (sym two)
    (of_code_weaker (λ base count. (base + count ≤ slots) × Is base count) Also so nodes
    (of_code_within Is slots nodes fits (subst (OfCode Is) one is)))

abbrev InHelpers : (Is : (base count : ℕ) → Type 0) → List HelperCode → Type 0
InHelpers Is = All (λ (helper : HelperCode). OfCode Is (code_of helper.code))

-- the code of the same helper functions
same_helpers : (Is Also : (base count : ℕ) → Type 0) (slots : ℕ) → Gives slots Is Also
    → (fields : Scope) (members : List tree.Member) (codes others : List HelperCode)
    → AreHelpers fields members codes → AreHelpers fields members others
    → helpers_room fields members ≤ slots → InHelpers Is codes → InHelpers Also others
same_helpers Is Also slots so fields [] codes others one two fits is =
    All-same (λ (helper : HelperCode). OfCode Also (code_of helper.code)) others [] two
    (All-nil (λ (helper : HelperCode). OfCode Also (code_of helper.code)))
same_helpers Is Also slots so fields (tree.Fields kind variables ∷ rest) codes others one two
    fits is = same_helpers Is Also slots so fields rest codes others one two fits is
same_helpers Is Also slots so fields (tree.Init block ∷ rest) codes others one two
    fits is = same_helpers Is Also slots so fields rest codes others one two fits is
same_helpers Is Also slots so fields (tree.Prework rates block ∷ rest) codes others one two
    fits is = same_helpers Is Also slots so fields rest codes others one two fits is
same_helpers Is Also slots so fields (tree.Work rates block ∷ rest) codes others one two
    fits is = same_helpers Is Also slots so fields rest codes others one two fits is
same_helpers Is Also slots so fields (tree.Helper kind name parameters block ∷ rest) [] others one
    two fits is = absurd one
same_helpers Is Also slots so fields (tree.Helper kind name parameters block ∷ rest)
    (code ∷ codes) [] one two fits is = absurd two
same_helpers Is Also slots so fields (tree.Helper kind name parameters block ∷ rest)
    (code ∷ codes) (other ∷ others) one two fits is =
    All-cons (λ (helper : HelperCode). OfCode Also (code_of helper.code)) other others
    (same_code Is Also slots so (block_nodes fields parameters block) (code_of code.code)
    (code_of other.code) one.0.block_is two.0.block_is (omega arith)
    (All-head (λ (helper : HelperCode). OfCode Is (code_of helper.code)) code codes is))
    (same_helpers Is Also slots so fields rest codes others one.1 two.1 (omega arith)
    (All-tail (λ (helper : HelperCode). OfCode Is (code_of helper.code)) code codes is))

-- the code of a prework, of a work and of helper functions is within all slots
within : (fields start prework work helpers slots : ℕ)
    → slots ≡ max fields (max start (max prework (max work helpers)))
    → (prework ≤ slots) × (work ≤ slots) × (helpers ≤ slots)
within fields start prework work helpers slots same = (omega arith, omega arith, omega arith)

-- arrays that are joined at the ends of those that code works on are found by it
pub parts_find : (filter : FilterTree) (ends : List ℕ) (arrays : List (Option ℕ))
    → AreJoined ends arrays → length ends ≡ slot_count (filter_of filter) → length ends < 2 ^ 32
    → (codes : List HelperCode) (first later : Nodes)
    → AreHelpers (field_scope (filter_of filter)) (filter_of filter).members codes
    → first ≡ body_nodes body.Prework (filter_of filter)
    → later ≡ body_nodes body.Work (filter_of filter)
    → All (λ (helper : HelperCode). OfCode (Reaches ends) (code_of helper.code)) codes
    → OfCode (Reaches ends) first → OfCode (Reaches ends) later
    → (helpers : List HelperCode) (prework : Option Routine) (work : Routine)
    → ArePartsOf filter helpers prework work → PartsFindArrays arrays helpers prework work
parts_find filter ends arrays joined count small codes first later codes_are first_is later_is
    in_codes in_first in_later helpers prework work parts =
    let it = filter_of filter in
    let Finds : (base count : ℕ) → Type 0 =
    λ base count. 1 ≤ count → AreOneArray arrays base count in
    let so : Gives (length ends) (Reaches ends) Finds = λ base count is one.
    joined base count one is.0 (is.1 one is.0 (let fits = is.0 in omega arith)) in
    let room = within (total (sized_fields it.members)) (nodes_room (start_nodes it))
    (nodes_room (body_nodes body.Prework it)) (nodes_room (body_nodes body.Work it))
    (helpers_room (field_scope it) it.members) (length ends) count in
    record {
      in_helpers = same_helpers (Reaches ends) Finds (length ends) so (field_scope it) it.members
          codes helpers codes_are parts.helpers_are room.2 in_codes;
      in_prework = λ routine is. same_code (Reaches ends) Finds (length ends) so
          (body_nodes body.Prework it) first (code_of routine.code) first_is
          (subst (IsPreworkOf filter) is parts.prework_is).1 room.0 in_first;
      in_work = same_code (Reaches ends) Finds (length ends) so (body_nodes body.Work it) later
          (code_of work.code) later_is parts.work_is room.1 in_later;
    }

-- so do those that come of the sweep, where it has memory
pub all_find : {E : Type 0} (result : Result (Vec (Option ℕ) Global) E) (filter : FilterTree)
    (ends seen : List ℕ) → seen ≡ ends → IfOk result (λ arrays. AreJoined seen arrays.items)
    → length ends ≡ slot_count (filter_of filter) → length ends < 2 ^ 32
    → (codes : List HelperCode) (first later : Nodes)
    → AreHelpers (field_scope (filter_of filter)) (filter_of filter).members codes
    → first ≡ body_nodes body.Prework (filter_of filter)
    → later ≡ body_nodes body.Work (filter_of filter)
    → All (λ (helper : HelperCode). OfCode (Reaches ends) (code_of helper.code)) codes
    → OfCode (Reaches ends) first → OfCode (Reaches ends) later
    → IfOk result (λ arrays. (helpers : List HelperCode) (prework : Option Routine)
    (work : Routine) → ArePartsOf filter helpers prework work
    → PartsFindArrays arrays.items helpers prework work)
all_find (Ok arrays) filter ends seen same joined = parts_find filter ends arrays.items
    (subst (λ them. AreJoined them arrays.items) same joined)
all_find (Err why) filter ends seen same joined = λ count small codes first later codes_are first_is
    later_is in_codes in_first in_later. tt
