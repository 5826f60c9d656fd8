use Rattle.std.proofs.Common.{◌∙◌, ap, ℕ, ◌≡◌, suc, ◌++◌, arith}
use Rattle.strc_fiss.specs.Numbers.{first_of, last_of, up_to}
use Rattle.strc_fiss.specs.declared.split.Origin.{Origin}
use Rattle.strc_fiss.proofs.Sequences.{pushed_plain}
use Rattle.strc_fiss.proofs.parts.push_origins.Goals as goal

origin : (node first : ℕ) → Origin
origin node first = record { node = node; first = first }

pub loop-part-preserved : goal.loop-part-preserved
unfolding origin
loop-part-preserved c =
    c.in_ok-push.ensures.items
    ∙ pushed_plain (λ (part : ℕ). origin c.args.node (first_of c.args.share part))
    c.args.origins.now.items c.loop-part.origins.items c.loop-part.part
    (origin c.args.node c.first_firing.result) c.loop-part.invariant
    (ap (origin c.args.node) c.first_firing.ensures)

pub returns : goal.returns
unfolding origin
returns c =
    let e : c.loop-part.part ≡ suc (last_of c.args.share) = omega (
      arith,
      c.loop-part-test.false,
      c.loop-part.auto.part-end,
      c.part_count-part-end.ensures.parts,
    ) in
    c.loop-part.invariant
    ∙ ap (λ (n : ℕ). c.args.origins.now.items
    ++ up_to (λ (part : ℕ). origin c.args.node (first_of c.args.share part)) n) e
