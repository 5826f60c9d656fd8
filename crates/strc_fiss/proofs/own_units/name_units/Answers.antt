use Rattle.std.proofs.Common.{◌≡◌, ◌∙◌, sym, ap, ◌+◌, List, [], drop, get_or, arith}
use Rattle.std.proofs.lemmas.List.{drop_all, length-map}
use Rattle.strc_elab_dataflow.specs.FusedUnits.{RoundUnit}
use Rattle.strc_fuse.specs.Units.{round_unit, round_units}
use Rattle.strc_fuse.proofs.Marks.{next_more}
use Rattle.strc_fiss.specs.Namings.{together, named_by, naming_of}
use Rattle.strc_fiss.specs.declared.own_units.Naming.{Naming}
use Rattle.strc_fiss.specs.declared.own_units.Naming.TheVariants.{Never}
use Rattle.strc_fiss.proofs.Namings.{in_turn, never_later}
use Rattle.strc_fiss.proofs.own_units.name_units.Goals as goal

pub loop-unit-preserved : goal.loop-unit-preserved
loop-unit-preserved c =
    let units = c.args.round.now in
    let place = c.loop-unit.unit-index in
    let unit = c.unit-item.result in
    let later = drop (place + 1) (round_units units) in
    let left = next_more units place unit c.loop-unit-test.true c.unit-item.is in (
      c.name_nodes.ensures.size ∙ c.loop-unit.invariant.0,
      λ node less.
          ap (λ (n : Naming). together n (naming_of node later))
          (c.name_nodes.ensures.namings node (omega (arith, less, c.loop-unit.invariant.0)))
          ∙ in_turn (get_or c.loop-unit.namings node Never) (named_by node (round_unit unit))
          (naming_of node later)
          ∙ ap (λ (l : List RoundUnit). together (get_or c.loop-unit.namings node Never)
          (naming_of node l)) (sym left)
          ∙ c.loop-unit.invariant.1 node less,
    )

pub returns-clause-namings : goal.returns-clause-namings
returns-clause-namings c node less =
    let units = round_units c.args.round.now in
    let place = c.loop-unit.unit-index in
    let all : drop place units ≡ [] = drop_all place units (omega (
      arith,
      c.loop-unit-test.false,
      length-map c.args.round.now round_unit,
    )) in
    sym (never_later (get_or c.loop-unit.namings node Never))
    ∙ ap (λ (l : List RoundUnit). together (get_or c.loop-unit.namings node Never)
    (naming_of node l)) (sym all)
    ∙ c.loop-unit.invariant.1 node less
