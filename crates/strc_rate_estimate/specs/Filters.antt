-- Estimates of filters.
use Rattle.std.specs.Prelude.{ℕ, List, [], ◌∷◌, Option, Some, None}
use Rattle.strc_parse_tree.specs.Tree as tree
use Rattle.strc_work_writes.specs.LocalWrites.{Locals}
use Rattle.strc_rate_estimate.specs.Estimates.{Helpers, block_estimate}

-- a helper function, in whose body calls aren't looked into
abbrev pub member_helper : Locals → tree.Member → Option (List ℕ × ℕ)
member_helper locals (tree.Helper kind name parameters block) =
    Some (name, block_estimate locals [] block)
member_helper locals _ = None

abbrev pub with_helper : Option (List ℕ × ℕ) → Helpers → Helpers
with_helper None helpers = helpers
with_helper (Some helper) helpers = helper ∷ helpers

abbrev pub helper_estimates : Locals → List tree.Member → Helpers
helper_estimates locals [] = []
helper_estimates locals (member ∷ others) =
    with_helper (member_helper locals member) (helper_estimates locals others)

-- the body of `work`
abbrev pub member_work : Locals → Helpers → tree.Member → Option ℕ
member_work locals helpers (tree.Work rates block) = Some (block_estimate locals helpers block)
member_work locals helpers _ = None

abbrev pub first_work : Option ℕ → (others : ℕ) → ℕ
first_work (Some estimate) others = estimate
first_work None others = others

abbrev pub work_estimate : Locals → Helpers → List tree.Member → ℕ
work_estimate locals helpers [] = 0
work_estimate locals helpers (member ∷ others) =
    first_work (member_work locals helpers member) (work_estimate locals helpers others)

-- of a firing of `work`
abbrev pub firing_estimate : List tree.Member → ℕ
firing_estimate members = work_estimate [] (helper_estimates [] members) members
