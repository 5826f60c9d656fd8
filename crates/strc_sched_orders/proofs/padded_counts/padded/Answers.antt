use Rattle.std.proofs.Common.{◌≡◌, ◌∙◌, ◌-◌, ◌++◌, ap, length, replicate, take, rules}
use Rattle.std.proofs.lemmas.List.{take_all}
use Rattle.strc_balance.specs.Balance.{count_at}
use Rattle.strc_sched_orders.proofs.Lengthening.{padded_counts}
use Rattle.strc_sched_orders.proofs.padded_counts.padded.Goals as goal

pub returns-clause-counts : goal.returns-clause-counts
returns-clause-counts c =
    let size = c.args.size in
    let counts = c.args.counts.now in
    let copied = c.extend_from_slice.new.self.items in
    let copy : copied ≡ counts = search rules in
    let resized : c.resize.new.self.items ≡ take size copied ++ replicate (size - length copied) 0 =
    search rules in
    ap count_at (resized ∙ ap (λ l. take size l ++ replicate (size - length l) 0) copy
    ∙ ap (λ l. l ++ replicate (size - length counts) 0) (take_all size counts c.requires))
    ∙ padded_counts counts (size - length counts)
