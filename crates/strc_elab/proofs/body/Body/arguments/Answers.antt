use Rattle.std.proofs.Common.{rules, arith, ◌≡◌, ◌∙◌, ◌<◌, ◌∷◌, Ok, length}
use Rattle.strc_work_meaning.specs.declared.types.ValueType.TheVariants as kind
use Rattle.strc_parse_tree.specs.View.{expr_view}
use Rattle.strc_elab_statements.specs.Saying.{store_of}
use Rattle.strc_elab_statements.specs.Statements.{eval_checked}
use Rattle.strc_elab.specs.Tasks.{setting_of, place_of}
use Rattle.strc_elab.proofs.Values.{one_argument_more}
use Rattle.strc_elab.proofs.body.Body.arguments.Goals as goal

pub loop-number-preserved : goal.loop-number-preserved
loop-number-preserved g c =
    let names = c.args.store.now.variables.names in
    let before = store_of c.loop-number.store in
    let after = store_of c.eval_checked.new.store in
    let value = c.in_ok-value.value in
    let parameters = c.args.parameters.now in
    let arguments = c.args.arguments.now in
    let evaluated : eval_checked (place_of c.args.self.now.task) names kind.Int
    (expr_view c.index-arguments-number.result) before ≡ Ok (value, after) = search rules in
    let added : c.push.new.self ≡ (c.index-parameters-number.result, value) ∷ c.loop-number.bound =
    search rules in
    let within : c.loop-number.number < length parameters = c.loop-number-test.true in
    let inside : c.loop-number.number < length arguments =
    omega (arith, c.loop-number-test.true, c.requires) in
    record {
      left = one_argument_more (setting_of c.args.self.now.task) names before after value
          parameters arguments c.loop-number.number c.index-parameters-number.result
          c.index-arguments-number.result within c.index-parameters-number.is inside
          c.index-arguments-number.is evaluated c.loop-number.bound c.push.new.self
          added _ c.loop-number.invariant.left;
      names = c.eval_checked.ensures.names ∙ c.loop-number.invariant.names;
    }
