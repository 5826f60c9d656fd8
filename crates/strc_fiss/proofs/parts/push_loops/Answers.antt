use Rattle.std.proofs.Common.{◌∙◌, ℕ, refl}
use Rattle.strc_fiss.proofs.Sequences.{pushed_plain}
use Rattle.strc_fiss.proofs.parts.push_loops.Goals as goal

pub loop-part-preserved : goal.loop-part-preserved
loop-part-preserved c =
    c.in_ok-push.ensures.items
    ∙ pushed_plain (λ (part : ℕ). c.args.outer) c.args.loops.now.items c.loop-part.loops.items
    c.loop-part.part c.args.outer c.loop-part.invariant refl
