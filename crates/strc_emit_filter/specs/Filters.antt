-- The text of a filter.
use Rattle.std.specs.Prelude.{◌≡◌, ℕ, ℤ, Bool, true, false, List, [], ◌∷◌, ◌++◌, codes, decimal}
use Rattle.std.specs.Prelude.{length, map, not, Option, Some, None, is_some, Ok}
use Rattle.strc_parse_tree.specs.Tree as tree
use Rattle.strc_parse_tree.specs.declared.tree.FilterTree.{FilterTree}
use Rattle.strc_parse_tree.specs.declared.tree.ItemType.{ItemType}
use Rattle.strc_parse_tree.specs.declared.tree.ItemType.TheVariants as item
use Rattle.strc_work_meaning.specs.declared.body.Body.{Body}
use Rattle.strc_work_meaning.specs.declared.body.Body.TheVariants as body
use Rattle.strc_rate.specs.Rates.{FilterRates, checked}
use Rattle.strc_rate.specs.Safe.{rates_of}
use Rattle.strc_rate.specs.Ranges.{AllAreClosed}
use Rattle.strc_work_meaning.specs.Filters.{filter_of, prework_block, body_rates, item_count}
use Rattle.strc_work_meaning.specs.Filters.{pop_rate, push_rate, window_size}
use Rattle.strc_work_code.specs.declared.code.Routine.{Routine}
use Rattle.strc_work_code.specs.declared.helper.HelperCode.{HelperCode}
use Rattle.strc_work_code.specs.declared.limits.FiringLimits.{FiringLimits}
use Rattle.strc_work_code.specs.declared.node.Node.{Node}
use Rattle.strc_work_code.specs.Code.{code_of}
use Rattle.strc_work_code.specs.Helpers.{AreHelpers}
use Rattle.strc_work_code.specs.Lowered.{limits_of}
use Rattle.strc_work_code.specs.Lowering.{body_nodes, field_scope}
use Rattle.strc_work_code.specs.Nodes.{nodes_room}
use Rattle.std.specs.Prelude.{Vec}
use Rattle.std.specs.Global.{Global}
use Rattle.strc_emit_c.specs.declared.function.Function.{Function}
use Rattle.strc_emit_code.specs.Texts.{node_text}
use Rattle.strc_emit_text.specs.Texts.{texts_below}
use Rattle.strc_emit_filter.specs.Arrays.{PartsFindArrays}
use Rattle.strc_emit_filter.specs.Variables.{field_text, local_text}
use Rattle.strc_emit_filter.specs.Helpers.{helpers_text}

-- the function that a filter's helper functions are written in
abbrev pub helper_function : (node fields : ℕ) → Vec (Option ℕ) Global → List (List ℕ) → Function
helper_function node fields arrays helpers = record {
  node = node;
  fields = fields;
  arrays = arrays;
  in_helper = true;
  tests = true;
  pops = 0;
  peek = 0;
  pushes = 0;
  tape = node;
  helpers = helpers;
}

-- the one that a body of these limits is written in, with tests or without
abbrev pub body_function : Function → (tests : Bool) → FiringLimits → Function
body_function function tests limits = record function {
  in_helper = false;
  tests = tests;
  pops = limits.pops;
  peek = limits.peek;
  pushes = limits.pushes;
}

-- the names of helper functions
abbrev pub names_of : List HelperCode → List (List ℕ)
names_of helpers = map (λ (helper : HelperCode). helper.name) helpers

-- `static int work3(const int32_t *in, int32_t *out) {`, and what a firing counts
abbrev pub body_head : (node : ℕ) → (name : List ℕ) → List ℕ
body_head node name =
    codes "static int " ++ name ++ decimal node
    ++ codes "(const int32_t *in, int32_t *out) {\n"
    ++ codes "    int32_t popped = 0, pushed = 0;\n"

-- turns are its own where it calls no helper function
abbrev pub counter_text : (counts_alone : Bool) → List ℕ
counter_text true = codes "    int32_t turns = 0;\n"
counter_text false = []

abbrev pub body_text : Function → (name : List ℕ) → (counts_alone : Bool) → Node → List ℕ
body_text function name counts_alone code =
    body_head function.node name ++ counter_text counts_alone
    ++ texts_below (local_text function) (nodes_room (code_of code))
    ++ node_text function 1 code ++ codes "    return NO_FAULT;\n}\n"

abbrev pub prework_text : Function → (tests counts_alone : Bool) → Option Routine → List ℕ
prework_text function tests counts_alone None = []
prework_text function tests counts_alone (Some routine) =
    body_text (body_function function tests routine.limits) (codes "prework") counts_alone
    routine.code

-- the fields, the helper functions and the bodies
abbrev pub filter_text : Function → (tests alone : Bool) → List ℤ → List HelperCode
    → Option Routine → Routine → List ℕ
filter_text function tests alone values helpers prework work =
    texts_below (field_text function values) (length values) ++ helpers_text function helpers
    ++ prework_text function tests alone prework
    ++ body_text (body_function function tests work.limits) (codes "work") alone work.code

-- a routine is that of a prework, where there is one
abbrev pub IsPreworkOf : FilterTree → Option Routine → Type 0
IsPreworkOf filter None = is_some (prework_block (filter_of filter).members) ≡ false
IsPreworkOf filter (Some routine) = (is_some (prework_block (filter_of filter).members) ≡ true)
    × (code_of routine.code ≡ body_nodes body.Prework (filter_of filter))
    × (routine.limits ≡ limits_of (body_rates body.Prework (filter_of filter).members))

-- whether a filter has helper functions
abbrev pub among_members : List tree.Member → Bool
among_members [] = false
among_members (tree.Fields kind variables ∷ rest) = among_members rest
among_members (tree.Init block ∷ rest) = among_members rest
among_members (tree.Prework rates block ∷ rest) = among_members rest
among_members (tree.Work rates block ∷ rest) = among_members rest
among_members (tree.Helper kind name parameters block ∷ rest) = true

abbrev pub has_helpers : FilterTree → Bool
has_helpers filter = among_members (filter_of filter).members

-- the rates of a filter are accepted, and each peek of its bodies is closed
abbrev pub HasClosedPeeks : FilterTree → Type 0
HasClosedPeeks filter =
    (rates : FilterRates) × (checked (filter_of filter) ≡ Ok rates)
    × ((which : Body) → AllAreClosed (rates_of rates which).closed)

-- what the code of a filter is: that of its helper functions, of its prework, where it has one, and
-- of its work
pub record ArePartsOf (filter : FilterTree) (helpers : List HelperCode) (prework : Option Routine)
    (work : Routine) : Type 0 where
  pub helpers_are : AreHelpers (field_scope (filter_of filter)) (filter_of filter).members helpers
  pub prework_is : IsPreworkOf filter prework
  pub work_is : code_of work.code ≡ body_nodes body.Work (filter_of filter)

-- a text is that of a filter: of its lowered code, for arrays among its slots in which the code
-- finds those that it works on; its bodies have no tests of their windows and rates only where each
-- peek is closed
pub record IsFilterText (node : ℕ) (filter : FilterTree) (values : List ℤ) (text : List ℕ) : Type 0
  where
    pub arrays : Vec (Option ℕ) Global
    pub tests : Bool
    pub untested : tests ≡ false → HasClosedPeeks filter
    pub helpers : List HelperCode
    pub prework : Option Routine
    pub work : Routine
    pub helpers_are : AreHelpers (field_scope (filter_of filter)) (filter_of filter).members helpers
    pub prework_is : IsPreworkOf filter prework
    pub work_is : code_of work.code ≡ body_nodes body.Work (filter_of filter)
    pub limits_are : work.limits ≡ limits_of (body_rates body.Work (filter_of filter).members)
    pub found : PartsFindArrays arrays.items helpers prework work
    pub text_is : text ≡ filter_text (helper_function node (length values) arrays
        (names_of helpers)) tests (not (has_helpers filter)) values helpers prework work

-- a comment: the rates of its work
abbrev pub taken_by : ItemType → FilterTree → List ℕ
taken_by item.Void filter = []
taken_by item.Int filter =
    let rates = body_rates body.Work (filter_of filter).members in
    codes " pop " ++ decimal (item_count (pop_rate rates)) ++ codes " peek "
    ++ decimal (window_size rates)

abbrev pub given_by : ItemType → FilterTree → List ℕ
given_by item.Void filter = []
given_by item.Int filter =
    codes " push " ++ decimal (item_count (push_rate (body_rates body.Work
    (filter_of filter).members)))

abbrev pub taken_text : FilterTree → List ℕ
taken_text filter = taken_by filter.input filter

abbrev pub given_text : FilterTree → List ℕ
given_text filter = given_by filter.output filter

abbrev pub rates_text : FilterTree → List ℕ
rates_text filter = taken_text filter ++ given_text filter
