use Rattle.std.proofs.Common.{◌≡◌, ◌∙◌, ◌++◌, List, Option, ap, not, length, option_map, refl}
use Rattle.std.proofs.lemmas.Result.{on_ok_weaker}
use Rattle.strc_work_code.specs.declared.code.Routine.{Routine}
use Rattle.strc_work_code.specs.declared.helper.HelperCode.{HelperCode}
use Rattle.strc_emit_c.specs.declared.function.Function.{Function}
use Rattle.strc_emit_filter.specs.Filters.{filter_text, has_helpers, helper_function, names_of}
use Rattle.strc_emit_filter.proofs.filters.push_filter.Goals as goal

pub returns : goal.returns
returns c =
    let begun = c.args.text.now.items in
    let filter = c.args.code.now in
    let values = c.args.values.now in
    let arrays = c.in_ok-arrays.arrays in
    let helpers : List HelperCode = c.helpers-helpers.result.now in
    let prework : Option Routine = option_map (λ routine. routine.now) c.prework_of.result in
    let work : Routine = c.routine.result.now in
    let written = c.helper_function-function.result in
    let function : Function = helper_function c.args.node (length values) arrays
    (names_of helpers) in
    let same : written ≡ function = c.helper_function-function.ensures
    ∙ ap (λ fields. helper_function c.args.node fields arrays c.in_ok-names.names)
    c.in_ok-fields.ensures
    ∙ ap (helper_function c.args.node (length values) arrays) c.in_ok-names.ensures in
    on_ok_weaker c.push_parts.result (λ is. (
      filter_text function c.in_ok-tests.tests (not (has_helpers filter)) values helpers prework
          work,
      record {
        arrays = arrays;
        tests = c.in_ok-tests.tests;
        untested = c.in_ok-tests.ensures;
        helpers = helpers;
        prework = prework;
        work = work;
        helpers_are = c.helpers-helpers.ensures.are;
        prework_is = c.prework_of.ensures;
        work_is = c.routine.ensures.code;
        limits_are = c.routine.ensures.limits;
        found = c.in_ok-arrays.ensures helpers prework work (record {
          helpers_are = c.helpers-helpers.ensures.are;
          prework_is = c.prework_of.ensures;
          work_is = c.routine.ensures.code;
        });
        text_is = refl;
      },
      is
          ∙ ap (λ (other : Function). begun ++ filter_text other c.in_ok-tests.tests
          (not c.has_helpers.result) values helpers prework work) same
          ∙ ap (λ b. begun ++ filter_text function c.in_ok-tests.tests (not b) values helpers
          prework work) c.has_helpers.ensures,
    )) c.push_parts.ensures
