use Rattle.std.proofs.Common.{ap, ◌∙◌, sym, subst, All}
use Rattle.std.specs.Option.{option_map}
use Rattle.strc_cli_places.specs.Streams.{LeadsTo, Further}
use Rattle.strc_cli_places.proofs.Recurring.{adds_listed, reached_more}
use Rattle.strc_cli_places.proofs.recursion.reach.Goals as goal
use Rattle.strc_cli_places.proofs.recursion.reach.Goals.{then-not-any+in_ok-push, else-not-any}

pub loop-addition-preserved : goal.loop-addition-preserved
loop-addition-preserved c = record {
  listed = c.loop-addition.invariant.listed;
  leads = λ name is leads before.
      let program = option_map (λ p. p.now) c.args.known.program in
      let kept = c.loop-addition.invariant.leads name is leads before in
      elim c.if-not-any.branch [
        | then-not-any+in_ok-push w ↦ reached_more program name c.loop-addition.reached.items
            c.if-not-any.reached.items _
            (ap (λ v. v.items) w.reached-is ∙ w.in_ok-push.ensures.items) kept
            (Further leads (adds_listed program c.args.declaration.now
            c.deref-addition-items.result.now c.loop-addition.addition-index _ is
            c.loop-addition.invariant.listed c.loop-addition-test.true))
        | else-not-any w ↦ subst (λ v. All (λ next. LeadsTo program name next.now) v.items)
            (sym w.reached-is) kept
      ];
}
