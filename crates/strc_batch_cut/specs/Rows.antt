-- Worked rows: groups that stages share by weight.
use Rattle.std.specs.Prelude.{◌≡◌, ℕ, List, [], ◌∷◌, get_or, map}
use Rattle.strc_stage_plan.specs.Bounds.{first_group}
use Rattle.strc_batch_cut.specs.Weighed.{weighed_group, weight_between}
use Rattle.strc_batch_cut.specs.Work.{group_weights}

-- The groups that three stages begin with, and the number of groups.
abbrev pub three_stages : (weights : List ℕ) → (groups : ℕ) → List ℕ
three_stages weights groups = map (weighed_group weights groups 3) (0 ∷ 1 ∷ 2 ∷ 3 ∷ [])

-- Five groups with a heavy one in the middle: by weight it is a stage of its own, of 8 beside 2 and
-- 2; evenly shared, a stage would have 9. A heavy first or last group leaves each other stage a
-- group, and where no group weighs anything the last stage has those that no other has to have.
pub record WeighedRow : Type 0 where
  pub middle : three_stages (1 ∷ 1 ∷ 8 ∷ 1 ∷ 1 ∷ []) 5 ≡ 0 ∷ 2 ∷ 3 ∷ 5 ∷ []
  pub weights : weight_between (1 ∷ 1 ∷ 8 ∷ 1 ∷ 1 ∷ []) 0 2
      ∷ weight_between (1 ∷ 1 ∷ 8 ∷ 1 ∷ 1 ∷ []) 2 3
      ∷ weight_between (1 ∷ 1 ∷ 8 ∷ 1 ∷ 1 ∷ []) 3 5 ∷ [] ≡ 2 ∷ 8 ∷ 2 ∷ []
  pub evenly : map (first_group 5 3) (0 ∷ 1 ∷ 2 ∷ 3 ∷ []) ≡ 0 ∷ 1 ∷ 3 ∷ 5 ∷ []
  pub first : three_stages (9 ∷ 1 ∷ 1 ∷ []) 3 ≡ 0 ∷ 1 ∷ 2 ∷ 3 ∷ []
  pub last : three_stages (1 ∷ 1 ∷ 9 ∷ []) 3 ≡ 0 ∷ 1 ∷ 2 ∷ 3 ∷ []
  pub equal : three_stages (2 ∷ 2 ∷ 2 ∷ 2 ∷ 2 ∷ 2 ∷ []) 6 ≡ 0 ∷ 2 ∷ 4 ∷ 6 ∷ []
  pub nothing : three_stages (0 ∷ 0 ∷ 0 ∷ 0 ∷ []) 4 ≡ 0 ∷ 2 ∷ 3 ∷ 4 ∷ []

-- Four nodes with their work, of which the second and third are a group.
abbrev pub WorkRow : Type 0
WorkRow =
    group_weights (λ node. get_or (3 ∷ 1 ∷ 2 ∷ 5 ∷ []) node 0)
    (λ group. get_or (0 ∷ 1 ∷ 3 ∷ 4 ∷ []) group 0) 3 ≡ 3 ∷ 3 ∷ 5 ∷ []
