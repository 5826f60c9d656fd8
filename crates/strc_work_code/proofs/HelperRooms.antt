-- How many slots calls need, by the codes of helper functions.
use Rattle.std.proofs.Common.{◌≡◌, max, List, [], ◌∷◌, ap, ◌∙◌}
use Rattle.strc_parse_tree.specs.Tree as tree
use Rattle.strc_work_meaning.specs.Scoping.{Scope}
use Rattle.strc_work_code.specs.declared.helper.HelperCode.{HelperCode}
use Rattle.strc_work_code.specs.Helpers.{AreHelpers, codes_room}
use Rattle.strc_work_code.specs.Lowering.{helper_room, helpers_room}

pub codes_room-is : (fields : Scope) (ms : List tree.Member) (codes : List HelperCode)
    → AreHelpers fields ms codes → codes_room codes ≡ helpers_room fields ms
codes_room-is fields [] codes are = ap codes_room are
codes_room-is fields (tree.Fields kind variables ∷ rest) codes are =
    codes_room-is fields rest codes are
codes_room-is fields (tree.Init block ∷ rest) codes are = codes_room-is fields rest codes are
codes_room-is fields (tree.Prework rates block ∷ rest) codes are =
    codes_room-is fields rest codes are
codes_room-is fields (tree.Work rates block ∷ rest) codes are = codes_room-is fields rest codes are
codes_room-is fields (tree.Helper kind name parameters block ∷ rest) [] are = absurd are
codes_room-is fields (tree.Helper kind name parameters block ∷ rest) (first ∷ others) are =
    ap (λ n. max n (codes_room others)) are.0.slots_are
    ∙ ap (max (helper_room fields parameters block)) (codes_room-is fields rest others are.1)
