use Rattle.std.proofs.Common.{◌≡◌, ℕ, ◌<◌, false, length, IfSome, Some}
use Rattle.std.proofs.Common.{sym, ap, subst, ◌∙◌, refl, arith}
use Rattle.std.specs.List.{list_any}
use Rattle.strc_balance.specs.declared.fraction.Fraction.{Fraction}
use Rattle.strc_balance.specs.Balance as spec
use Rattle.strc_balance.specs.Frontiers.{IsLargeOrMemory, Covers, CoversApart, found_passes, Adds}
use Rattle.strc_balance.specs.NumberSets.{AllNumbers}
use Rattle.strc_balance.proofs.Spreading.{first_given-within}
use Rattle.strc_balance.proofs.Turns.{IsSpreading, spreading_start, spreading_next, spreading_done}
use Rattle.strc_balance.proofs.Turns.{spreading_large}
use Rattle.strc_balance.proofs.propagation.spread.Goals as goal

pub loop-turn-init : goal.loop-turn-init
loop-turn-init c =
    let frontier = c.add_all.new.frontier in
    let lists = c.in_ok-incidence.incidence in
    let moved = subst (λ l. Adds l c.in_ok-frontier.frontier frontier) c.at.ensures
    c.in_ok-add_all.ensures in
    let s = spreading_start c.args.size c.args.equations.now c.in_ok-fractions.fractions.items lists
    c.in_ok-frontier.frontier frontier c.in_ok-fractions.ensures c.in_ok-incidence.ensures.listed
    c.in_ok-incidence.ensures.numbers c.in_ok-frontier.ensures moved in
    record {
      size = s.size_is;
      same = s.same;
      lowest = s.lowest;
      within = s.within;
      covers =
          s.covers;
      numbers = s.numbers;
    }

pub next_given-requires-clause-positive : goal.next_given-requires-clause-positive
next_given-requires-clause-positive c node fraction is =
    let h = c.loop-turn.invariant.lowest node fraction
    (ap (λ l. spec.fraction_at l node) (sym c.deref.ensures.value) ∙ is) in
    (h.top, h.bottom)

pub returns-in-Err-clause-passes : goal.returns-in-Err-clause-passes
returns-in-Err-clause-passes c =
    let large = c.in-Err.ensures.passes in
    let i = c.loop-turn.invariant in
    let before : IsSpreading c.args.size c.loop-turn._turn c.args.equations.now
    c.loop-turn.fractions.items c.loop-turn.frontier =
    record {
      size_is = i.size;
      same = i.same;
      lowest = i.lowest;
      within = i.within;
      covers =
          i.covers;
      numbers = i.numbers;
    } in
    let passes = ap (λ l. found_passes (spec.first_given l c.args.equations.now))
    (sym c.deref.ensures.value) ∙ large.passes in
    subst (λ r. IsLargeOrMemory (list_any spec.fraction_passes
    (spec.spread c.args.size c.args.equations.now)) r) (sym large.is) (record {
      is = refl;
      passes = spreading_large c.args.size c.loop-turn._turn c.args.equations.now
          c.loop-turn.fractions.items c.loop-turn.frontier (omega arith) c.requires.rates before
          passes;
    })

pub returns-in-Ok-None-clause-found : goal.returns-in-Ok-None-clause-found
returns-in-Ok-None-clause-found c =
    let i = c.loop-turn.invariant in
    let before : IsSpreading c.args.size c.loop-turn._turn c.args.equations.now
    c.loop-turn.fractions.items c.loop-turn.frontier =
    record {
      size_is = i.size;
      same = i.same;
      lowest = i.lowest;
      within = i.within;
      covers =
          i.covers;
      numbers = i.numbers;
    } in
    spreading_done c.args.size c.loop-turn._turn c.args.equations.now c.loop-turn.fractions.items
    c.loop-turn.frontier before
    (ap (λ l. spec.first_given l c.args.equations.now) (sym c.deref.ensures.value)
    ∙ sym c.in-Ok-None.ensures.found ∙ c.in-Ok-None.field-0-is)

pub index_mut-requires-in-Ok-Some : goal.index_mut-requires-in-Ok-Some
index_mut-requires-in-Ok-Some c =
    let first = sym (ap (λ l. spec.first_given l c.args.equations.now) (sym c.deref.ensures.value)
    ∙ sym c.in-Ok-Some.ensures.found ∙ c.in-Ok-Some.field-0-is) in
    let within : c.in-Ok-Some.node < c.args.size =
    first_given-within c.args.size c.loop-turn.fractions.items c.args.equations.now
    c.requires.rates (c.in-Ok-Some.node, c.in-Ok-Some.fraction) (sym first) in
    let size = c.loop-turn.invariant.size in
    let len = c.loop-turn.fractions.ok.0 in
    omega arith

pub at-requires-in-Ok-Some : goal.at-requires-in-Ok-Some
at-requires-in-Ok-Some c =
    let first = sym (ap (λ l. spec.first_given l c.args.equations.now) (sym c.deref.ensures.value)
    ∙ sym c.in-Ok-Some.ensures.found ∙ c.in-Ok-Some.field-0-is) in
    let within : c.in-Ok-Some.node < c.args.size =
    first_given-within c.args.size c.loop-turn.fractions.items c.args.equations.now
    c.requires.rates (c.in-Ok-Some.node, c.in-Ok-Some.fraction) (sym first) in
    let size = c.in_ok-incidence.ensures.size in
    omega arith

pub loop-turn-preserved : goal.loop-turn-preserved
loop-turn-preserved c =
    let equations = c.args.equations.now in
    let fractions = c.loop-turn.fractions.items in
    let node = c.in-Ok-Some.node in
    let fraction = c.in-Ok-Some.fraction in
    let found : ℕ × Fraction = (node, fraction) in
    let lists = c.in_ok-incidence.incidence in
    let middle = c.next_given.new.frontier in
    let frontier = c.add_all-in-Ok-Some.new.frontier in
    let i = c.loop-turn.invariant in
    let before : IsSpreading c.args.size c.loop-turn._turn equations fractions c.loop-turn.frontier
    =
    record {
      size_is = i.size;
      same = i.same;
      lowest = i.lowest;
      within = i.within;
      covers =
          i.covers;
      numbers = i.numbers;
    } in
    let value = c.deref.ensures.value in
    let first : spec.first_given fractions equations ≡ Some found =
    ap (λ l. spec.first_given l equations) (sym value) ∙ sym c.in-Ok-Some.ensures.found
    ∙ c.in-Ok-Some.field-0-is in
    let within : found_passes (Some found) ≡ false = ap found_passes (sym c.in-Ok-Some.field-0-is)
    ∙ c.in-Ok-Some.ensures.within in
    let covers : CoversApart node middle fractions equations =
    subst (λ l. CoversApart node middle l equations) value
    (subst (λ o. IfSome o (λ (q : ℕ × Fraction). CoversApart q.0 middle c.deref.result.now
    equations)) c.in-Ok-Some.field-0-is c.in-Ok-Some.ensures.covers) in
    let numbers : AllNumbers (λ k. k < length equations) middle =
    subst (λ o. IfSome o (λ (q : ℕ × Fraction). AllNumbers (λ k. k < length equations) middle))
    c.in-Ok-Some.field-0-is c.in-Ok-Some.ensures.numbers in
    let moved = subst (λ l. Adds l middle frontier) c.at-in-Ok-Some.ensures
    c.in_ok-add_all-in-Ok-Some.ensures in
    let s = spreading_next c.args.size c.loop-turn._turn equations fractions lists
    c.loop-turn.frontier middle frontier found (omega arith) c.requires.rates
    c.in_ok-incidence.ensures.listed c.in_ok-incidence.ensures.numbers before first within
    covers numbers moved in
    record {
      size = s.size_is;
      same = s.same;
      lowest = s.lowest;
      within = s.within;
      covers =
          s.covers;
      numbers = s.numbers;
    }

pub next_given-requires-clause-covers : goal.next_given-requires-clause-covers
next_given-requires-clause-covers c =
    subst (λ l. Covers c.loop-turn.frontier l c.args.equations.now) (sym c.deref.ensures.value)
    c.loop-turn.invariant.covers
