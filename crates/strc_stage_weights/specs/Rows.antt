-- Worked rows: the work of some nodes, and stages by it.
use Rattle.std.specs.Prelude.{◌≡◌, ℕ, List, [], ◌∷◌, map, get_or, true, false, None}
use Rattle.strc_elab_graph.specs.Graphs as graphs
use Rattle.strc_elab_graph.specs.Graphs.{OfFilter, OfIdentity}
use Rattle.strc_elab_graph.specs.Graphs.{Duplicate, Roundrobin}
use Rattle.strc_elab_graph.specs.declared.graph.Fission.{Fission}
use Rattle.strc_parse_tree.specs.Tree as tree
use Rattle.strc_parse_tree.specs.declared.tree.ItemType.TheVariants as item
use Rattle.strc_work_meaning.specs.Filters.{Filter}
use Rattle.strc_batch_cut.specs.Work.{group_weights}
use Rattle.strc_stage_plan.specs.Bounds.{first_group}
use Rattle.strc_stage_weights.specs.FiringWork.{firing_work}
use Rattle.strc_stage_weights.specs.RoundWork.{round_works, work_in_round}
use Rattle.strc_stage_weights.specs.StageBounds.{bounds_by_weight}
use Rattle.strc_stage_weights.specs.StepRounds.{rounds_for_step}

-- `work push 1 pop 1 { push(pop()); }`: a push and a pop
abbrev pub passing : Filter
passing = record {
  input = item.Int;
  output = item.Int;
  members = tree.Work [] (tree.Then (tree.Push tree.Pop) tree.Done) ∷ [];
}

-- two copies that fire four times a round each, and look at an item more than they pop
abbrev pub halves : Fission
halves = record { ways = 2; firings = 4; pop = 2; window = 3; push = 1 }

-- Of three ports, and of five that carry items; of 8 and 9 items; each copy's 9 items, of which
-- it has one with the next copy's firings; and 8 items of both.
pub record FiringRow : Type 0 where
  pub filter : firing_work (graphs.Filter None passing) ≡ 2
  pub copy : firing_work (graphs.Copy (OfFilter None passing) halves) ≡ 2
  pub identity : firing_work graphs.Identity ≡ 1
  pub identity_copy : firing_work (graphs.Copy OfIdentity halves) ≡ 1
  pub duplicate : firing_work (graphs.Splitter (Duplicate (true ∷ true ∷ false ∷ true ∷ []))) ≡ 1
  pub wider : firing_work
      (graphs.Splitter (Duplicate (true ∷ true ∷ true ∷ true ∷ true ∷ []))) ≡ 2
  pub roundrobin : firing_work (graphs.Splitter (Roundrobin (3 ∷ 5 ∷ []))) ≡ 2
  pub joiner : firing_work (graphs.Joiner (4 ∷ 4 ∷ 1 ∷ [])) ≡ 3
  pub scatter : firing_work (graphs.Scatter halves) ≡ 5
  pub gather : firing_work (graphs.Gather halves) ≡ 2

-- A source, four equal filters and a printer, each in a group of its own: what their firings are
-- estimated at, and what they have in a round in which each fires once; the bounds of four stages.
abbrev pub firings : List ℕ
firings = 1 ∷ 9 ∷ 9 ∷ 9 ∷ 9 ∷ 1 ∷ []

abbrev pub order : List ℕ
order = 0 ∷ 1 ∷ 2 ∷ 3 ∷ 4 ∷ 5 ∷ []

abbrev pub starts : List ℕ
starts = 0 ∷ 1 ∷ 2 ∷ 3 ∷ 4 ∷ 5 ∷ 6 ∷ []

abbrev pub weights : List ℕ
weights = group_weights (λ node. get_or (round_works firings order) node 0)
    (λ group. get_or starts group 0) 6

-- By weight the source is with the first filter and the printer with the last one, and each filter
-- is a stage; evenly shared, the second stage has two of them. A second round's firings come to
-- twice the work, which is counted up to a limit. Four workers' steps are worth their parcels after
-- 431 such rounds; others after no more than 1,024, and after one that is heavy.
pub record WeighedRow : Type 0 where
  pub weighs : weights ≡ 1 ∷ 9 ∷ 9 ∷ 9 ∷ 9 ∷ 1 ∷ []
  pub bounds : bounds_by_weight starts (1 ∷ 9 ∷ 9 ∷ 9 ∷ 9 ∷ 1 ∷ []) 4
      ≡ 0 ∷ 2 ∷ 3 ∷ 4 ∷ 6 ∷ []
  pub evenly : map (first_group 6 4) (0 ∷ 1 ∷ 2 ∷ 3 ∷ 4 ∷ []) ≡ 0 ∷ 1 ∷ 3 ∷ 4 ∷ 6 ∷ []
  pub one_group_each : bounds_by_weight starts (1 ∷ 9 ∷ 9 ∷ 9 ∷ 9 ∷ 1 ∷ []) 6 ≡ starts
  pub for_steps : rounds_for_step 38 4 ≡ 431
  pub for_no_more : rounds_for_step 1 64 ≡ 1024
  pub for_heavy : rounds_for_step 1000000 4 ≡ 1
  pub twice : work_in_round 2 9 ≡ 18
  pub saturated : work_in_round 1000001 1000000000 ≡ 1000000000000000
