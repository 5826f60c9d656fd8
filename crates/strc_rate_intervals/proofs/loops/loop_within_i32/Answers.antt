use Rattle.std.proofs.Common.{◌≡◌, ◌-◌, pos, ◌+ℤ◌, ◌*ℤ◌, ℤ, FitsSigned, w32, true, ◌&&◌, Some, None}
use Rattle.std.proofs.Common.{cond, sym, ap, ◌∙◌, rules}
use Rattle.std.specs.Int.{int_min, int_max}
use Rattle.std.proofs.lemmas.Int.{to_z-of_z}
use Rattle.strc_rate_intervals.specs.Loops.{Loop, within_32_bits}
use Rattle.strc_rate_intervals.specs.Intervals.{Interval}
use Rattle.strc_rate_intervals.proofs.LoopValues.{last_within}
use Rattle.strc_rate_intervals.proofs.Narrowing.{within_fits, given_true, given_value}
use Rattle.strc_rate_intervals.proofs.loops.loop_within_i32.Goals as goal

-- the numbers between two
abbrev span : ℤ → ℤ → Interval
span first second = record { low = int_min first second; high = int_max first second }

pub returns-in-None-clause-counted : goal.returns-in-None-clause-counted
returns-in-None-clause-counted c =
    let start = c.args.start in
    let step = c.args.step in
    let turns = c.args.turns in
    let fits = c.ranges.start in
    let wide = c.ranges.step in
    let advance : c.value_within-end.result
    ≡ cond (within_32_bits (start +ℤ pos turns *ℤ step))
    (Some (start +ℤ pos turns *ℤ step)) None = simp to_z-of_z at c.value_within-end.ensures in
    let kept = given_true _ _ _ advance c.if-is_none.ensures in
    let within : within_32_bits (start +ℤ pos (turns - 1) *ℤ step) ≡ true =
    last_within start step turns fits kept in
    let none : None ≡ cond (within_32_bits (start +ℤ pos c.saturating_sub.result *ℤ step))
    (Some (start +ℤ pos c.saturating_sub.result *ℤ step)) None =
    simp to_z-of_z at c.in-None.ensures in
    let other : None ≡ Some (start +ℤ pos c.saturating_sub.result *ℤ step) =
    none ∙ ap (λ n. cond (within_32_bits (start +ℤ pos n *ℤ step))
    (Some (start +ℤ pos c.saturating_sub.result *ℤ step)) None) c.saturating_sub.ensures
    ∙ ap (λ t. cond t (Some (start +ℤ pos c.saturating_sub.result *ℤ step)) None) within in
    cc

pub returns-in-Some-clause-counted : goal.returns-in-Some-clause-counted
returns-in-Some-clause-counted c =
    let start = c.args.start in
    let step = c.args.step in
    let turns = c.args.turns in
    let fits = c.ranges.start in
    let wide = c.ranges.step in
    let advance : c.value_within-end.result
    ≡ cond (within_32_bits (start +ℤ pos turns *ℤ step))
    (Some (start +ℤ pos turns *ℤ step)) None = simp to_z-of_z at c.value_within-end.ensures in
    let kept = given_true _ _ _ advance c.if-is_none.ensures in
    let found : Loop = record {
      name = c.args.name.now;
      start = start;
      move = step;
      turns =
          turns;
    } in
    let sequence : within_32_bits start && within_32_bits (start +ℤ pos turns *ℤ step) ≡ true =
    ap (λ t. t && within_32_bits (start +ℤ pos turns *ℤ step)) (within_fits start fits)
    ∙ kept in
    simp to_z-of_z (sym (ap (λ t. cond t (Some found) None) sequence))

pub returns-in-Some-clause-interval : goal.returns-in-Some-clause-interval
returns-in-Some-clause-interval c =
    let start = c.args.start in
    let step = c.args.step in
    let fits = c.ranges.start in
    let wide = c.ranges.step in
    let given : Some c.in-Some.last ≡ cond
    (within_32_bits (start +ℤ pos c.saturating_sub.result *ℤ step))
    (Some (start +ℤ pos c.saturating_sub.result *ℤ step)) None =
    simp to_z-of_z at c.in-Some.ensures in
    let last : c.in-Some.last ≡ start +ℤ pos (c.args.turns - 1) *ℤ step =
    given_value _ _ _ given ∙ ap (λ n. start +ℤ pos n *ℤ step) c.saturating_sub.ensures in
    let narrow : FitsSigned w32 c.in-Some.last = search rules in
    let interval : c.between.result ≡ span start c.in-Some.last =
    simp to_z-of_z at c.between.ensures in
    simp to_z-of_z (interval ∙ ap (span start) last)
