use Rattle.std.proofs.Common.{◌<◌, ◌≤◌, Contains, length, get_or}
use Rattle.std.proofs.Common.{take}
use Rattle.std.proofs.Common.{slice_get, sym, subst, ap, ◌∙◌, inl, inr, arith}
use Rattle.std.proofs.lemmas.List.{take_more, take_all}
use Rattle.std.proofs.lemmas.List.Elements.{Contains-push_cases}
use Rattle.strc_startup.proofs.Raising.{raises_then}
use Rattle.strc_startup.proofs.prime_counts.raise_sources.Goals as goal

pub loop-number-preserved : goal.loop-number-preserved
loop-number-preserved c =
    let channels = c.args.channels.now in
    let numbers = c.args.numbers.now in
    let i = c.loop-number.number-index in
    let short : i < length numbers = omega arith in
    let next = c.in_ok-raise_source.ensures in
    let before = c.loop-number.invariant in
    record {
      raises = raises_then channels c.args.counts.now c.args.waiting.now c.loop-number.counts
          c.loop-number.waiting c.raise_source.new.counts c.raise_source.new.waiting before.raises
          next.raises;
      served = λ channel rates there is.
          elim (Contains-push_cases (take i numbers) (get_or numbers i 0) channel
          (subst (λ l. Contains l channel) (take_more numbers i 0 short) there)) [
            | inl earlier ↦ next.raises.kept rates (before.served channel rates earlier is)
            | inr same ↦ next.served rates (ap (slice_get channels) same ∙ is)
          ];
    }

pub returns-clause-served : goal.returns-clause-served
returns-clause-served c channel rates there is =
    let numbers = c.args.numbers.now in
    let i = c.loop-number.number-index in
    let all : length numbers ≤ i = omega arith in
    c.loop-number.invariant.served channel rates
    (subst (λ l. Contains l channel) (sym (take_all i numbers all)) there) is
