use Rattle.std.proofs.Common.{◌≡◌, ℕ, ◌<◌, ◌+◌, ◌∷◌, All, ◌++◌, [], length, slice_index_or, ap, sym}
use Rattle.std.proofs.Common.{subst, ◌∙◌, arith}
use Rattle.std.proofs.lemmas.List.{length-set}
use Rattle.std.proofs.lemmas.Option.{slice_get_within}
use Rattle.strc_balance.specs.declared.equation.Equation.{Equation}
use Rattle.strc_balance.specs.Frontiers.{channels_at}
use Rattle.strc_balance.proofs.Incidences.{AreListed, AreListed-more, with_channel, added-numbers}
use Rattle.strc_balance.proofs.incidence.incidence_of.Goals as goal

pub loop-channel-preserved : goal.loop-channel-preserved
loop-channel-preserved c =
    let nothing : Equation = record { source = 0; push = 0; target = 0; pop = 0 } in
    let equations = c.args.equations.now in
    let channel = c.loop-channel.channel in
    let lists = c.loop-channel.incidence in
    let e = slice_index_or equations channel nothing in
    let before = c.loop-channel.invariant in
    let rates = c.requires channel nothing (omega arith) in
    let source_in : e.source < length lists = let h = rates.source in let s = before.size in
    omega arith in
    let target_in : e.target < length lists = let h = rates.target in let s = before.size in
    omega arith in
    let middle = with_channel lists e.source channel in
    let middle_length = length-set lists e.source (channels_at lists e.source ++ channel ∷ []) in
    let target_middle : e.target < length middle = omega arith in
    let after = with_channel middle e.target channel in
    let after_length = length-set middle e.target (channels_at middle e.target ++ channel ∷ []) in
    let is : after ≡ c.add-in-loop-channel.new.self =
    sym (c.in_ok-add-2.ensures ∙ ap (λ l. with_channel l e.target channel) c.in_ok-add.ensures)
    in
    subst (λ l. record {
      size : length l ≡ c.args.size;
      listed : AreListed l equations (channel + 1);
      numbers : (node : ℕ)
          → All (λ k. k < length equations) (channels_at l node);
    }) is (record {
      size = after_length ∙ middle_length ∙ before.size;
      listed = AreListed-more lists equations channel nothing (omega arith) source_in target_in
          before.listed;
      numbers = added-numbers middle e.target channel (length equations) target_middle (omega arith)
          (added-numbers lists e.source channel (length equations) source_in (omega arith)
          before.numbers);
    })

pub returns-clause-listed : goal.returns-clause-listed
returns-clause-listed c channel equation is =
    let within = slice_get_within c.args.equations.now channel equation is in
    let reached : channel < c.loop-channel.channel = omega arith in (
      c.loop-channel.invariant.listed.source channel equation reached is,
      c.loop-channel.invariant.listed.target channel equation reached is,
    )
