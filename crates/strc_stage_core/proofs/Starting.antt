-- The first core is a state.
use Rattle.std.proofs.Common.{refl, List, [], ◌∷◌, ◌++◌, map, None, append-nil}
use Rattle.strc_stage_core.specs.Actors.{Plain, Stage, Collector, Work}
use Rattle.strc_stage_core.specs.States.{Start, Chained, IsStart, IsState, first_core}

module _ {State Load Stop Total : Type 0} (work : Work State Load Stop Total) where
  chained_first : (first : Collector Total Stop) (free : List (Plain Load Stop))
      (stages : List (Stage State Stop))
      → Chained work first free stages stages (map (λ stage. []) stages ++ (free ∷ []))
      (map (λ stage. None) stages ++ (None ∷ [])) first [] []
  chained_first first free [] = ([], refl, append-nil free)
  chained_first first free (stage ∷ stages) =
      ([], [], refl, refl, chained_first first free stages)

  pub first_state : (start : Start State Load Stop Total) → IsStart start
      → IsState work start (first_core start)
  unfolding first_core
  first_state start begun = record {
    begun = begun;
    taken = [];
    chain = chained_first start.collector start.free start.stages;
  }
