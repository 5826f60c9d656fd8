use Rattle.std.proofs.Common.{rules, ◌≡◌, ◌∙◌, ◌++◌, ◌∷◌, [], Ok}
use Rattle.strc_work_meaning.specs.declared.types.ValueType.TheVariants as kind
use Rattle.strc_parse_tree.specs.View.{expr_view}
use Rattle.strc_elab_statements.specs.Saying.{store_of}
use Rattle.strc_elab_statements.specs.Statements.{eval_checked}
use Rattle.strc_elab.specs.Tasks.{setting_of, place_of}
use Rattle.strc_elab.proofs.Values.{one_value_more}
use Rattle.strc_elab.proofs.body.Body.values.Goals as goal

pub loop-weight-preserved : goal.loop-weight-preserved
loop-weight-preserved g c =
    let names = c.args.store.now.variables.names in
    let before = store_of c.loop-weight.store in
    let after = store_of c.eval_checked.new.store in
    let value = c.in_ok-value.value in
    let evaluated : eval_checked (place_of c.args.self.now.task) names kind.Int
    (expr_view c.weight-item.result) before ≡ Ok (value, after) = search rules in
    let added : c.push.new.self.items ≡ c.loop-weight.values.items ++ value ∷ [] = search rules in
    record {
      left = one_value_more (setting_of c.args.self.now.task) names before after value
          c.args.weights.now c.loop-weight.weight-index c.weight-item.result
          c.loop-weight-test.true c.weight-item.is evaluated c.loop-weight.values.items
          c.push.new.self.items added _ c.loop-weight.invariant.left;
      names = c.eval_checked.ensures.names ∙ c.loop-weight.invariant.names;
    }
