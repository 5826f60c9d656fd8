-- The text that is written for a filter is the spelling of its functions.
use Rattle.std.proofs.Common.{◌≡◌, ℕ, ◌+◌, ℤ, Bool, not, List, [], ◌∷◌, ◌++◌, length, codes}
use Rattle.std.proofs.Common.{Option, Some, None, refl, ap, ◌∙◌}
use Rattle.std.specs.Option.{option_map}
use Rattle.strc_parse_tree.specs.declared.tree.FilterTree.{FilterTree}
use Rattle.strc_work_code.specs.declared.code.Routine.{Routine}
use Rattle.strc_work_code.specs.declared.helper.HelperCode.{HelperCode}
use Rattle.strc_emit_c.specs.declared.function.Function.{Function}
use Rattle.strc_emit_code.specs.Texts.{node_text}
use Rattle.strc_emit_text.specs.Texts.{texts_below}
use Rattle.strc_emit_filter.specs.Helpers.{head_text, declarations_from, definitions_from}
use Rattle.strc_emit_filter.specs.Helpers.{definition_text}
use Rattle.strc_emit_filter.specs.Variables.{field_text}
use Rattle.strc_emit_filter.specs.Filters.{helper_function, body_function, names_of, body_text}
use Rattle.strc_emit_filter.specs.Filters.{prework_text, filter_text, has_helpers, IsFilterText}
use Rattle.strc_emit_firings.specs.Functions.{helper_functions}
use Rattle.strc_emit_bodies.specs.Spelling.{body_spelled, declared_from, defined_from}
use Rattle.strc_emit_bodies.specs.Spelling.{prework_spelled, routine_function}
use Rattle.strc_emit_bodies.specs.Spelling.{functions_spelled}
use Rattle.strc_emit_bodies.specs.Bodies.{FilterTextsAreSpelled, written_functions}

body_is : (function : Function) (tests : Bool) (name : List ℕ) (alone : Bool) (routine : Routine)
    → body_text (body_function function tests routine.limits) name alone routine.code
    ≡ body_spelled (routine_function function tests name alone routine)
unfolding node_text
body_is function tests name alone routine = refl

declared_are : (function : Function) (number : ℕ) (codes : List HelperCode)
    → declarations_from function number codes
    ≡ declared_from function number (helper_functions function codes)
declared_are function number [] = refl
declared_are function number (first ∷ rest) =
    ap (λ l. head_text function.node number first.parameters ++ codes ";\n" ++ l)
    (declared_are function (number + 1) rest)

defined_are : (function : Function) (number : ℕ) (codes : List HelperCode)
    → definitions_from function number codes
    ≡ defined_from function number (helper_functions function codes)
unfolding node_text
defined_are function number [] = refl
defined_are function number (first ∷ rest) =
    ap (λ l. definition_text function number first ++ l)
    (defined_are function (number + 1) rest)

prework_is : (function : Function) (tests alone : Bool) (prework : Option Routine)
    → prework_text function tests alone prework
    ≡ prework_spelled (option_map (routine_function function tests (codes "prework") alone) prework)
prework_is function tests alone None = refl
prework_is function tests alone (Some routine) =
    body_is function tests (codes "prework") alone routine

filter_is : (node : ℕ) (filter : FilterTree) (values : List ℤ) (text : List ℕ)
    (written : IsFilterText node filter values text)
    → filter_text (helper_function node (length values) written.arrays (names_of written.helpers))
    written.tests (not (has_helpers filter)) values written.helpers written.prework written.work
    ≡ functions_spelled values (written_functions written)
filter_is node filter values text written =
    let function : Function =
    helper_function node (length values) written.arrays (names_of written.helpers) in
    let alone : Bool = not (has_helpers filter) in
    let fields : List ℕ = texts_below (field_text function values) (length values) in
    let work = body_text (body_function function written.tests written.work.limits)
    (codes "work") alone written.work.code in
    let prework = prework_text function written.tests alone written.prework in
    let defined = definitions_from function 0 written.helpers in
    ap (λ l. fields ++ (l ++ defined) ++ prework ++ work) (declared_are function 0 written.helpers)
    ∙ ap (λ l. fields ++ (declared_from function 0 (helper_functions function written.helpers) ++ l)
    ++ prework ++ work) (defined_are function 0 written.helpers)
    ∙ ap (λ l. fields ++ (declared_from function 0 (helper_functions function written.helpers)
    ++ defined_from function 0 (helper_functions function written.helpers)) ++ l ++ work)
    (prework_is function written.tests alone written.prework)
    ∙ ap (λ l. fields ++ (declared_from function 0 (helper_functions function written.helpers)
    ++ defined_from function 0 (helper_functions function written.helpers))
    ++ prework_spelled (option_map (routine_function function written.tests (codes "prework") alone)
    written.prework) ++ l) (body_is function written.tests (codes "work") alone written.work)

pub texts_are_spelled : FilterTextsAreSpelled
texts_are_spelled node filter values text written =
    written.text_is ∙ filter_is node filter values text written
