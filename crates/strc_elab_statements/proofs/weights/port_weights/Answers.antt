use Rattle.std.proofs.Common.{◌<◌, length, get_or, pos, sym, ap, ◌∙◌, arith, rules}
use Rattle.std.specs.Int.RustNames.{FitsSigned}
use Rattle.std.proofs.lemmas.Int.{to_z-of_z}
use mir.Syntax.{w32}
use Rattle.strc_parse_tree.specs.declared.tree.ItemType.TheVariants as item
use Rattle.strc_elab_statements.specs.Weights.{weighted}
use Rattle.strc_elab_statements.proofs.Dealing.{port_weights-wrong, dealt_more, dealt_refused}
use Rattle.strc_elab_statements.proofs.weights.port_weights.Goals as goal

pub returns-then-weights-sides : goal.returns-then-weights-sides
returns-then-weights-sides c =
    rw c.bad_weights.ensures (ap (weighted c.args.declaration)
    (port_weights-wrong c.args.weights.now c.args.sides.now c.if-weights-sides.true))

pub returns-in-None : goal.returns-in-None
returns-in-None c =
    let below : c.loop-port.port < length c.args.weights.now = omega arith in
    let fits : FitsSigned w32 (get_or c.args.weights.now c.loop-port.port (pos 0)) =
    search rules in
    rw c.bad_weights-in-None.ensures (ap (weighted c.args.declaration) (sym c.loop-port.invariant
    ∙ dealt_refused c.args.weights.now c.args.sides.now c.loop-port.port (pos 0) item.Int
    c.loop-port.dealt.items below c.loop-port-test.true (simp to_z-of_z at c.in-None.ensures)))

pub loop-port-preserved : goal.loop-port-preserved
loop-port-preserved c =
    let below : c.loop-port.port < length c.args.weights.now = omega arith in
    let fits : FitsSigned w32 (get_or c.args.weights.now c.loop-port.port (pos 0)) =
    search rules in
    dealt_more c.args.weights.now c.args.sides.now c.loop-port.port (pos 0) item.Int
    c.loop-port.dealt.items c.push.new.self.items c.in-Some.weight below c.loop-port-test.true
    (simp to_z-of_z at c.in-Some.ensures) c.in_ok-push-in-Some.ensures.items
    ∙ c.loop-port.invariant
