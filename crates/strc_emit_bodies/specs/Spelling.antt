-- The C functions of a filter, and their text.
use Rattle.std.specs.Prelude.{ℕ, ◌+◌, ℤ, Bool, not, List, [], ◌∷◌, ◌++◌, codes, length, Option}
use Rattle.std.specs.Prelude.{Some, None, Vec}
use Rattle.std.specs.Global.{Global}
use Rattle.std.specs.Option.{option_map}
use Rattle.strc_parse_tree.specs.declared.tree.FilterTree.{FilterTree}
use Rattle.strc_work_code.specs.declared.code.Routine.{Routine}
use Rattle.strc_work_code.specs.declared.helper.HelperCode.{HelperCode}
use Rattle.strc_work_code.specs.Code.{code_of}
use Rattle.strc_work_code.specs.Nodes.{nodes_room}
use Rattle.strc_emit_c.specs.declared.function.Function.{Function}
use Rattle.strc_emit_c.specs.C.{Statements}
use Rattle.strc_emit_c.specs.Spelling.{statements_text}
use Rattle.strc_emit_code.specs.Emitted.{emitted}
use Rattle.strc_emit_text.specs.Texts.{texts_below}
use Rattle.strc_emit_filter.specs.Variables.{field_text, local_text}
use Rattle.strc_emit_filter.specs.Helpers.{head_text, entry_text, argument_text, value_text}
use Rattle.strc_emit_filter.specs.Filters.{helper_function, body_function, names_of, body_head}
use Rattle.strc_emit_filter.specs.Filters.{counter_text, has_helpers}
use Rattle.strc_emit_firings.specs.Functions.{HelperFunction, helper_functions}

-- a body's function: what it is written in, its name, whether it counts turns alone, how many slots
-- it needs with its fields, and its statements
pub record BodyFunction : Type 0 where
  pub function : Function
  pub name : List ℕ
  pub counts_alone : Bool
  pub slots : ℕ
  pub statements : Statements

abbrev pub body_spelled : BodyFunction → List ℕ
body_spelled body =
    body_head body.function.node body.name ++ counter_text body.counts_alone
    ++ texts_below (local_text body.function) body.slots
    ++ statements_text body.function 1 body.statements ++ codes "    return NO_FAULT;\n}\n"

-- helper functions: all are declared before the first one is defined
abbrev pub declared_from : Function → (number : ℕ) → List HelperFunction → List ℕ
declared_from function number [] = []
declared_from function number (first ∷ rest) =
    head_text function.node number first.parameters ++ codes ";\n"
    ++ declared_from function (number + 1) rest

abbrev pub helper_spelled : Function → (number : ℕ) → HelperFunction → List ℕ
helper_spelled function number helper =
    head_text function.node number helper.parameters ++ entry_text
    ++ texts_below (local_text function) helper.slots
    ++ texts_below (argument_text function) helper.parameters
    ++ statements_text function 1 helper.body ++ value_text function

abbrev pub defined_from : Function → (number : ℕ) → List HelperFunction → List ℕ
defined_from function number [] = []
defined_from function number (first ∷ rest) =
    helper_spelled function number first ++ defined_from function (number + 1) rest

-- the functions of a filter: what its helper functions are written in, these, that of the prework,
-- where there is one, and that of the work
pub record FilterFunctions : Type 0 where
  pub function : Function
  pub helpers : List HelperFunction
  pub prework : Option BodyFunction
  pub work : BodyFunction

abbrev pub prework_spelled : Option BodyFunction → List ℕ
prework_spelled None = []
prework_spelled (Some body) = body_spelled body

-- and their text, after the fields with the values that they begin with
abbrev pub functions_spelled : List ℤ → FilterFunctions → List ℕ
functions_spelled values functions =
    texts_below (field_text functions.function values) (length values)
    ++ (declared_from functions.function 0 functions.helpers
    ++ defined_from functions.function 0 functions.helpers)
    ++ prework_spelled functions.prework ++ body_spelled functions.work

-- the function of a body's routine
abbrev pub routine_function : Function → (tests : Bool) → (name : List ℕ) → (counts_alone : Bool)
    → Routine → BodyFunction
routine_function function tests name counts_alone routine = record {
  function = body_function function tests routine.limits;
  name = name;
  counts_alone = counts_alone;
  slots = nodes_room (code_of routine.code);
  statements = emitted (body_function function tests routine.limits) (code_of routine.code);
}

-- the functions of a filter with these codes, whose bodies have tests or not
abbrev pub functions_of : (node : ℕ) → FilterTree → List ℤ → Vec (Option ℕ) Global
    → (tests : Bool) → List HelperCode → Option Routine → Routine → FilterFunctions
functions_of node filter values arrays tests helpers prework work =
    let function = helper_function node (length values) arrays (names_of helpers) in
    let alone = not (has_helpers filter) in
    record {
      function = function;
      helpers = helper_functions function helpers;
      prework = option_map (routine_function function tests (codes "prework") alone) prework;
      work = routine_function function tests (codes "work") alone work;
    }
