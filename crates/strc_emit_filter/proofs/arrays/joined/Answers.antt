use Rattle.std.proofs.Common.{◌≡◌, ◌+◌, ◌∙◌, length, refl, sym, subst, arith}
use Rattle.strc_emit_filter.proofs.Joined.{AreSwept, swept_joined, swept_more, swept_none}
use Rattle.strc_emit_filter.proofs.arrays.joined.Goals as goal

pub loop-end-init : goal.loop-end-init
loop-end-init c = record {
  counted = refl;
  swept = subst (AreSwept c.args.ends.now 0 0 0) (sym c.in_ok-arrays.ensures.items)
      (swept_none c.args.ends.now 0);
}

pub loop-end-preserved : goal.loop-end-preserved
loop-end-preserved c =
    let ends = c.args.ends.now in
    let done = c.loop-end.end-index in
    let was = c.loop-end.invariant in
    let start = c.start_at-start.result in
    let reach = c.max-reach.result in
    record {
      counted = omega (arith, was.counted, c.saturating_add-slot.ensures, c.requires);
      swept = subst (AreSwept ends (done + 1) start reach) (sym c.in_ok-push.ensures.items)
          (swept_more ends done c.loop-end.start c.loop-end.reach c.loop-end.arrays.items start
          reach c.array_at-array.result was.swept
          (λ inside. c.start_at-start.ensures.on (omega (arith, was.counted)))
          (λ past. c.start_at-start.ensures.anew (omega (arith, was.counted)) ∙ was.counted)
          c.max-reach.ensures
          (λ inside. c.array_at-array.ensures.inside (omega (arith, was.counted))));
    }

pub returns : goal.returns
returns c =
    let ends = c.args.ends.now in
    let at = c.loop-end in
    let all : at.end-index ≡ length ends = omega arith in
    swept_joined ends at.start at.reach at.arrays.items
    (subst (λ done. AreSwept ends done at.start at.reach at.arrays.items) all at.invariant.swept)
