use Rattle.std.proofs.Common.{◌≡◌, ◌++◌, map, List}
use Rattle.std.specs.List.{flat_map}
use Rattle.strc_fiss.specs.Splitting as spec
use Rattle.strc_fiss.specs.WireView.{wire_view, group_view}
use Rattle.strc_fiss.proofs.channels.joined.Given as goal

abbrev pub invariant-loop-group : goal.invariant-loop-group
invariant-loop-group l =
    map wire_view l.wires.items
    ++ flat_map (λ (group : List spec.Wire). group) (map group_view l.group-iterator.rest.items)
    ≡ flat_map (λ (group : List spec.Wire). group) (map group_view l.fn.groups.items)
