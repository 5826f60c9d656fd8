use Rattle.std.proofs.Common.{◌≡◌, ◌++◌, drop, List}
use Rattle.strc_work_meaning.specs.Filters.{members_of}
use Rattle.strc_work_code.specs.declared.helper.HelperCode.{HelperCode}
use Rattle.strc_work_code.specs.Helpers.{AreHelpers}
use Rattle.strc_work_code.specs.Links.{AreLinkedCodes}
use Rattle.strc_work_lowering.proofs.helper_code.emit_helpers.Given as goal

abbrev pub invariant-loop-member : goal.invariant-loop-member
invariant-loop-member l = record {
  codes : (later : List HelperCode)
      → AreHelpers l.initial.names (members_of (drop l.member-index l.members)) later
      → AreHelpers l.initial.names (members_of l.members) (l.codes.items ++ later);
  names : l.names ≡ l.initial.names;
  linked : AreLinkedCodes l.links l.codes.items;
}
