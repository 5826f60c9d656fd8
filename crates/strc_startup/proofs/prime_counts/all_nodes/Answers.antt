use Rattle.std.proofs.Common.{◌∙◌, ap, inl, inr, arith}
use Rattle.std.proofs.lemmas.Bool.{cases_eq}
use Rattle.strc_balance.specs.NumberSets.{has_number}
use Rattle.strc_balance.proofs.Membership.{with_own, with_old, with_cases}
use Rattle.strc_startup.proofs.prime_counts.all_nodes.Goals as goal

pub loop-node-preserved : goal.loop-node-preserved
loop-node-preserved c =
    let before = c.loop-node.nodes in
    let after = c.add.new.self in
    let own = c.loop-node.node in
    record {
      all = λ node less.
          elim (cases_eq node own) [
            | inl same ↦ ap (has_number after) same ∙ with_own own before after c.in_ok-add.ensures
            | inr apart ↦ with_old own before after c.in_ok-add.ensures node
                (c.loop-node.invariant.all node (omega (arith, less, apart)))
          ];
      numbers = λ node has.
          elim (with_cases own before after c.in_ok-add.ensures node has) [
            | inl same ↦ omega (arith, same)
            | inr earlier ↦ omega (arith, c.loop-node.invariant.numbers node earlier)
          ];
    }
