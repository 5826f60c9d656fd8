use Rattle.std.proofs.Common.{◌≡◌, drop, map}
use Rattle.strc_parse_tree.specs.View.{member_view}
use Rattle.strc_rate_intervals.specs.Intervals.{names_of}
use Rattle.strc_rate_estimate.specs.Filters as spec
use Rattle.strc_rate_estimate.specs.Tables.{helper_view}
use Rattle.strc_rate_estimate.proofs.filters.work_estimate.Given as goal

abbrev pub invariant-loop-member : goal.invariant-loop-member
invariant-loop-member l =
    spec.work_estimate (names_of l.fn.names) (map helper_view l.fn.helpers)
    (map member_view (drop l.member-index l.members))
    ≡ spec.work_estimate (names_of l.fn.names) (map helper_view l.fn.helpers)
    (map member_view l.members)
