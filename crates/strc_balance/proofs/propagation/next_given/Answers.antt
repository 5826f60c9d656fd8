use Rattle.std.proofs.Common.{◌<◌, length, slice_index_or, sym, ◌∙◌, arith, rules}
use Rattle.strc_balance.proofs.Membership.{size_without}
use Rattle.std.proofs.lemmas.Option.{slice_get-get_or}
use Rattle.strc_balance.specs.declared.equation.Equation.{Equation}
use Rattle.strc_balance.proofs.Frontiers.{first_given-empty, first_given-taken, first_given-passes}
use Rattle.strc_balance.proofs.Frontiers.{Covers-skipped, CoversApart-taken, All-taken}
use Rattle.strc_balance.proofs.propagation.next_given.Goals as goal

abbrev nothing : Equation
nothing = record { source = 0; push = 0; target = 0; pop = 0 }

pub bounds-equations-channel : goal.bounds-equations-channel
bounds-equations-channel c =
    (All-taken (length c.args.equations.now) c.loop-channel.frontier c.take_lowest.new.self
    c.in-Some.channel c.in-Some.ensures.there c.in-Some.ensures.others
    c.loop-channel.invariant.numbers).0

pub offset_bounds-equations-channel : goal.offset_bounds-equations-channel
offset_bounds-equations-channel c =
    let within : c.in-Some.channel < length c.args.equations.now =
    (All-taken (length c.args.equations.now) c.loop-channel.frontier c.take_lowest.new.self
    c.in-Some.channel c.in-Some.ensures.there c.in-Some.ensures.others
    c.loop-channel.invariant.numbers).0 in
    search rules

pub given-requires-clause-rates : goal.given-requires-clause-rates
given-requires-clause-rates c =
    c.requires.rates c.in-Some.channel nothing
    (All-taken (length c.args.equations.now) c.loop-channel.frontier c.take_lowest.new.self
    c.in-Some.channel c.in-Some.ensures.there c.in-Some.ensures.others
    c.loop-channel.invariant.numbers).0

pub loop-channel-smaller : goal.loop-channel-smaller
loop-channel-smaller c =
    let equations = c.args.equations.now in
    let after = All-taken (length equations) c.loop-channel.frontier c.take_lowest.new.self
    c.in-Some.channel c.in-Some.ensures.there c.in-Some.ensures.others
    c.loop-channel.invariant.numbers in
    omega (
      arith,
      size_without c.in-Some.channel c.loop-channel.frontier c.take_lowest.new.self
          c.in-Some.ensures.others c.in-Some.ensures.there (length equations) after.0,
    )

pub loop-channel-preserved : goal.loop-channel-preserved
loop-channel-preserved c =
    let equations = c.args.equations.now in
    let channel = c.in-Some.channel in
    let after = All-taken (length equations) c.loop-channel.frontier c.take_lowest.new.self channel
    c.in-Some.ensures.there c.in-Some.ensures.others c.loop-channel.invariant.numbers in
    record {
      covers = Covers-skipped c.args.fractions.now equations c.loop-channel.frontier
          c.take_lowest.new.self channel (slice_index_or equations channel nothing)
          c.loop-channel.invariant.covers c.in-Some.ensures.others
          (slice_get-get_or equations channel nothing after.0)
          (sym c.in-Ok-None.ensures.found ∙ c.in-Ok-None.field-0-is);
      numbers = after.1;
    }

pub returns-in-Ok-Some-clause-found : goal.returns-in-Ok-Some-clause-found
returns-in-Ok-Some-clause-found c =
    let equations = c.args.equations.now in
    let channel = c.in-Some.channel in
    let after = All-taken (length equations) c.loop-channel.frontier c.take_lowest.new.self channel
    c.in-Some.ensures.there c.in-Some.ensures.others c.loop-channel.invariant.numbers in
    sym (first_given-taken c.args.fractions.now equations c.loop-channel.frontier
    channel (slice_index_or equations channel nothing) c.in-Ok-Some.found
    c.loop-channel.invariant.covers c.in-Some.ensures.lowest
    (slice_get-get_or equations channel nothing after.0)
    (sym c.in-Ok-Some.ensures.found ∙ c.in-Ok-Some.field-0-is))

pub returns-in-Ok-Some-clause-covers : goal.returns-in-Ok-Some-clause-covers
returns-in-Ok-Some-clause-covers c =
    let equations = c.args.equations.now in
    let channel = c.in-Some.channel in
    let after = All-taken (length equations) c.loop-channel.frontier c.take_lowest.new.self channel
    c.in-Some.ensures.there c.in-Some.ensures.others c.loop-channel.invariant.numbers in
    CoversApart-taken c.args.fractions.now equations c.loop-channel.frontier c.take_lowest.new.self
    channel (slice_index_or equations channel nothing) c.in-Ok-Some.found
    c.loop-channel.invariant.covers c.in-Some.ensures.others
    (slice_get-get_or equations channel nothing after.0)
    (sym c.in-Ok-Some.ensures.found ∙ c.in-Ok-Some.field-0-is)

pub returns-in-Ok-Some-clause-numbers : goal.returns-in-Ok-Some-clause-numbers
returns-in-Ok-Some-clause-numbers c =
    (All-taken (length c.args.equations.now) c.loop-channel.frontier c.take_lowest.new.self
    c.in-Some.channel c.in-Some.ensures.there c.in-Some.ensures.others
    c.loop-channel.invariant.numbers).1

pub returns-in-Err-clause-passes : goal.returns-in-Err-clause-passes
returns-in-Err-clause-passes c =
    let equations = c.args.equations.now in
    let channel = c.in-Some.channel in
    let after = All-taken (length equations) c.loop-channel.frontier c.take_lowest.new.self channel
    c.in-Some.ensures.there c.in-Some.ensures.others c.loop-channel.invariant.numbers in
    first_given-passes c.args.fractions.now equations c.loop-channel.frontier
    channel (slice_index_or equations channel nothing) c.loop-channel.invariant.covers
    c.in-Some.ensures.lowest
    (slice_get-get_or equations channel nothing after.0) c.in-Err.refusal
    c.in-Err.ensures.passes

pub returns-clause-found : goal.returns-clause-found
returns-clause-found c =
    sym (first_given-empty c.args.fractions.now c.args.equations.now c.loop-channel.frontier
    c.loop-channel.invariant.covers c.in_default.ensures.none)
