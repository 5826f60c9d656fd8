use Rattle.std.proofs.Common.{◌∙◌, ap, ℤ, List, ◌++◌, take, length}
use Rattle.strc_sched_rings.proofs.Fronts.{pieces_taken}
use Rattle.strc_sched_rings.proofs.ring.copy_front.Goals as goal

pub returns : goal.returns
returns c =
    let front : List ℤ = c.window_at.result.front.now in
    let back : List ℤ = c.window_at.result.back.now in
    let count = length c.args.items.now in
    let head = c.first_of-head.result.now in
    ap (λ (l : List ℤ). l ++ c.copy_from_slice-2.new.self)
    (c.copy_from_slice.ensures.after ∙ c.first_of-head.ensures)
    ∙ ap (λ (l : List ℤ). take count front ++ l)
    (c.copy_from_slice-2.ensures.after ∙ c.first_of-tail.ensures)
    ∙ pieces_taken front back head count c.first_of-head.ensures
    ∙ ap (take count) c.window_at.ensures
