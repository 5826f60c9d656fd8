-- A state from its parts, as threads hand them back: for each actor what it received, sent and
-- holds, and for each link what is left on it.
use Rattle.std.specs.Prelude.{◌≡◌, List, [], ◌∷◌, ◌++◌, map, Option, option_to_list}
use Rattle.strc_stage_core.specs.Actors.{Plain, Stage, Collector, Work, Step, Collects}
use Rattle.strc_stage_core.specs.States.{Runs, Start, Core, IsStart}

-- An actor and the link after it.
pub record Part (Actor Parcel : Type 0) : Type 0 where
  pub actor : Actor
  pub received : List Parcel
  pub sent : List Parcel
  pub held : Option Parcel
  pub left : List Parcel

module _ {Actor Parcel : Type 0} where
  -- What the first of these received, or, where there is none, the actor past them.
  abbrev pub received_by : List (Part Actor Parcel) → List Parcel → List Parcel
  received_by [] last = last
  received_by (part ∷ parts) last = part.received

  -- What is sent on a link is what was received from it and what is left.
  abbrev pub AreLinked : List (Part Actor Parcel) → List Parcel → Type 0
  AreLinked [] last = Unit {0}
  AreLinked (part ∷ parts) last =
      (part.sent ≡ received_by parts last ++ part.left) × AreLinked parts last

module _ {State Load Stop Total : Type 0} where
  -- The core that the parts of the stages and that of the collector are.
  unfoldable pub core_of : List (Part (Stage State Stop) (Plain Load Stop))
      → Part (Collector Total Stop) (Plain Load Stop) → Core State Load Stop Total
  core_of parts end = record {
    stages = map (λ part. part.actor) parts;
    links = map (λ part. part.left) parts ++ (end.left ∷ []);
    hands = map (λ part. part.held) parts ++ (end.held ∷ []);
    collector = end.actor;
  }

module _ {State Load Stop Total : Type 0} (work : Work State Load Stop Total) where
  -- Each stage did its steps, from its start on.
  abbrev pub AreSteps : List (Stage State Stop) → List (Part (Stage State Stop) (Plain Load Stop))
      → Type 0
  AreSteps [] [] = Unit {0}
  AreSteps (stage₀ ∷ stages₀) (part ∷ parts) =
      Runs (Step work) stage₀ part.received (part.sent ++ option_to_list part.held) part.actor
      × AreSteps stages₀ parts
  AreSteps _ _ = ⊥

  pub record AreJoined (start : Start State Load Stop Total)
      (parts : List (Part (Stage State Stop) (Plain Load Stop)))
      (end : Part (Collector Total Stop) (Plain Load Stop)) : Type 0 where
    pub begun : IsStart start
    pub steps : AreSteps start.stages parts
    pub collects : Runs (Collects work) start.collector end.received
        (end.sent ++ option_to_list end.held) end.actor
    pub links : AreLinked parts end.received
    -- the free parcels were sent on the last link before all others
    pub last_link : start.free ++ end.sent ≡ received_by parts end.received ++ end.left
