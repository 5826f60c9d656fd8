-- The C of a plan.
use Rattle.std.specs.Prelude.{◌≡◌, ℕ, ◌<◌, ◌≤◌, ◌-◌, ◌^◌, min, List, Vec, Result, Ok, Err}
use Rattle.std.specs.Global.{Global}
use Rattle.strc_stage_plan.specs.Plans.{PlanParts}
use Rattle.strc_emit_moves.specs.declared.places.Network.{Network}
use Rattle.strc_emit_program.specs.Programs.{IsProgramText}
use Rattle.strc_emit.specs.Networks.{IsNetworkOf}
use Rattle.strc_emit.specs.Slots.{total_items}
use Rattle.strc_emit.specs.declared.emit.EmitError.{EmitError}
use Rattle.strc_emit.specs.declared.emit.EmitError.TheVariants as error
use Rattle.strc_emit.specs.declared.emit.TheConstants.{ITEM_LIMIT}

-- the network is that of a plan
abbrev pub IsPlanNetwork : PlanParts → Network → Type 0
IsPlanNetwork plan network =
    IsNetworkOf plan.graph plan.startup_counts plan.round_counts plan.schedule network

-- a plan has no more items, in its arrays and in the slots of its filters, than there may be, and
-- the text is its program
pub record IsProgramOf (plan : PlanParts) (text : List ℕ) : Type 0 where
  pub network : Network
  pub is : IsPlanNetwork plan network
  pub within : total_items network ≤ ITEM_LIMIT
  pub written : IsProgramText network plan.schedule text

-- a plan would have so many items, or more than 2^64 - 1 in place of these, more than there may be
pub record PassesItemLimit (plan : PlanParts) (items : ℕ) : Type 0 where
  pub network : Network
  pub is : IsPlanNetwork plan network
  pub counted : items ≡ min (total_items network) (2 ^ 64 - 1)
  pub passes : ITEM_LIMIT < total_items network

-- a plan has a program, or too many items; or memory runs out
abbrev pub IsEmitted : PlanParts → Result (Vec ℕ Global) EmitError → Type 0
IsEmitted plan (Ok text) = IsProgramOf plan text.items
IsEmitted plan (Err (error.ArrayLimit items)) = PassesItemLimit plan items
IsEmitted plan (Err error.NoMemory) = Unit {0}
