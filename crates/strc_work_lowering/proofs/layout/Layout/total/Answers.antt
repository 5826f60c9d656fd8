use Rattle.std.proofs.Common.{◌≡◌, ◌-◌, suc, length, sym, ap, ◌∙◌, arith}
use Rattle.std.specs.Prelude.{slice_get}
use Rattle.strc_work_meaning.specs.Scoping.{total}
use Rattle.strc_work_lowering.proofs.Layouts.{last_ends, none_total}
use Rattle.strc_work_lowering.proofs.layout.Layout.total.Goals as goal

pub returns-then-count-eq0 : goal.returns-then-count-eq0
returns-then-count-eq0 c =
    let variables = c.self.inside.variables in
    let none : length variables ≡ 0 = omega arith in
    none_total variables none ∙ ap total c.self.view_is

pub overflow_add-result : goal.overflow_add-result
overflow_add-result c =
    let variables = c.self.inside.variables in
    let last : length variables - suc (c.len-count.result - 1) ≡ 0 = omega arith in
    let at = ap (slice_get variables) (sym last) ∙ c.at.ensures in
    record { fits = (last_ends variables c.at.result.0.now c.at.result.1 c.self.invariant at).few }

pub returns : goal.returns
returns c =
    let variables = c.self.inside.variables in
    let last : length variables - suc (c.len-count.result - 1) ≡ 0 = omega arith in
    let at = ap (slice_get variables) (sym last) ∙ c.at.ensures in
    (last_ends variables c.at.result.0.now c.at.result.1 c.self.invariant at).ends
    ∙ ap total c.self.view_is
