use Rattle.std.proofs.Common.{sym, ap, ◌∙◌, Option, ℕ}
use Rattle.std.specs.Prelude.{unwrap_or}
use Rattle.strc_work_meaning.specs.Scoping.{size_of}
use Rattle.strc_work_lowering.proofs.Layouts.{place_found, no_place}
use Rattle.strc_work_lowering.proofs.layout.Layout.size_of.Goals as goal

pub returns-in-Some : goal.returns-in-Some
returns-in-Some c =
    let variables = c.self.inside.variables in
    let at = place_found variables c.args.name.now c.in-Some.place c.self.invariant
    (sym c.in-Some.ensures) in
    ap (λ (o : Option ℕ). unwrap_or o 0) (sym at.cells)
    ∙ ap (λ l. size_of l c.args.name.now) c.self.view_is

pub returns-in-None : goal.returns-in-None
returns-in-None c =
    let none = no_place c.self.inside.variables c.args.name.now (sym c.in-None.ensures) in
    ap (λ (o : Option ℕ). unwrap_or o 0) (sym none.1)
    ∙ ap (λ l. size_of l c.args.name.now) c.self.view_is
