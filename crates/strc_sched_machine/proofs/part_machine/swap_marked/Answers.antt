use Rattle.std.proofs.Common.{◌∙◌, sym, ap, get_or, set}
use Rattle.strc_sched_machine.proofs.PartLists.{chosen_next, chosen_old, chosen_skip}
use Rattle.strc_sched_machine.proofs.part_machine.swap_marked.Goals as goal
use Rattle.strc_sched_machine.proofs.part_machine.swap_marked.Goals.{then-marks-place}
use Rattle.strc_sched_machine.proofs.part_machine.swap_marked.Goals.{else-marks-place}

pub loop-place-preserved : goal.loop-place-preserved
loop-place-preserved g c =
    let marks = c.args.marks.now in
    let one = c.args.one.now in
    let other = c.args.other.now in
    let place = c.loop-place.place in
    let seen = c.loop-place.one in
    let beside = c.loop-place.other in
    let so_far = c.loop-place.invariant in
    elim c.if-marks-place.branch [
      | then-marks-place w ↦
          let mine = w.index-one-place.result in
          let theirs = w.index-other-place.result in
          record {
            one = w.one-is ∙ ap (set seen place) w.swap.ensures.x_after
                ∙ ap (λ l. set seen place (get_or l place theirs)) so_far.other
                ∙ ap (set seen place) (chosen_old marks one other place theirs)
                ∙ ap (λ l. set l place (get_or other place theirs)) so_far.one
                ∙ sym (chosen_next marks other one place theirs c.loop-place-test.true
                c.requires.other c.requires.one w.if-marks-place.true);
            other = w.other-is ∙ ap (set beside place) w.swap.ensures.y_after
                ∙ ap (λ l. set beside place (get_or l place mine)) so_far.one
                ∙ ap (set beside place) (chosen_old marks other one place mine)
                ∙ ap (λ l. set l place (get_or one place mine)) so_far.other
                ∙ sym (chosen_next marks one other place mine c.loop-place-test.true
                c.requires.one c.requires.other w.if-marks-place.true);
          }
      | else-marks-place w ↦
          record {
            one = w.one-is ∙ so_far.one
                ∙ sym (chosen_skip marks other one place w.if-marks-place.false);
            other = w.other-is ∙ so_far.other
                ∙ sym (chosen_skip marks one other place w.if-marks-place.false);
          }
    ]
