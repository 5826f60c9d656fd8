-- What a ring is that its workers have left.
use Rattle.std.specs.Prelude.{◌≡◌, ◌++◌, List, [], ◌∷◌, map, Option, option_to_list}
use Rattle.strc_stage_core.specs.Moves.{queues}
use Rattle.strc_stage_core.specs.Parcels.{ParcelView}
use Rattle.strc_stage_core.specs.States.{Runs}
use Rattle.strc_stage_core.specs.declared.ring.Parts.{Parts}
use Rattle.strc_stage_core.specs.declared.ring.Start.{Start}

-- A stage, what is left on the link before it, and what it holds.
pub record Part (S : Type 0) : Type 0 where
  pub stage : S
  pub queue : List ParcelView
  pub held : Option ParcelView

-- These are the stages of some parts, the links before them, and what they hold.
pub record AreParts {S : Type 0} (parts : List (Part S)) (stages : List S)
    (links : List (List ParcelView)) (hands : List (Option ParcelView)) : Type 0 where
  pub stages_are : stages ≡ map (λ part. part.stage) parts
  pub links_are : links ≡ map (λ part. part.queue) parts
  pub hands_are : hands ≡ map (λ part. part.held) parts

-- The first one behind all others.
abbrev pub turned : {A : Type 0} → List A → List A
turned [] = []
turned (x ∷ xs) = xs ++ (x ∷ [])

module _ {S : Type 0} (Does : S → ParcelView → S → ParcelView → Type 0) where
  -- From the stages to their parts: what was sent to the first is what it took and what is left on
  -- its link; what it gave, and then what it holds, are its steps over what it took. What the last
  -- one gave is `out`.
  abbrev pub Chain : List S → List (Part S) → (sent out : List ParcelView) → Type 0
  Chain (s ∷ ss) (p ∷ ps) sent out =
      (taken : List ParcelView) × (given : List ParcelView)
      × (sent ≡ taken ++ p.queue)
      × Runs Does s taken (given ++ option_to_list p.held) p.stage
      × Chain ss ps given out
  Chain [] [] sent out = out ≡ sent
  Chain _ _ sent out = ⊥

  -- The free parcels, and then what the collector gave, were sent to the first stage. Each link
  -- stands with the actor before it: the one before the first stage with the collector.
  pub record IsRing {C : Type 0} (Collects : C → ParcelView → C → ParcelView → Type 0)
      (start : Start S C) (parts : Parts S C) : Type 0 where
    pub chain : List (Part S)
    pub queue : List ParcelView
    pub hand : Option ParcelView
    pub stages_are : parts.stages.items ≡ map (λ part. part.stage) chain
    pub links_are : queues parts.links.items
        ≡ turned (map (λ part. part.queue) chain ++ queue ∷ [])
    pub hands_are : parts.held.items ≡ map (λ part. part.held) chain ++ hand ∷ []
    pub taken : List ParcelView
    pub given : List ParcelView
    pub chained : Chain start.stages.items chain (start.free.items ++ given) (taken ++ queue)
    pub gathers : Runs Collects start.collector taken (given ++ option_to_list hand)
        parts.collector
