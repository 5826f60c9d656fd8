-- A state that is dealt out to the parts of nodes.
use Rattle.std.proofs.Common.{◌≡◌, refl, sym, ap, ◌∙◌, subst, ℕ, suc, ◌+◌, ◌<◌, arith}
use Rattle.std.proofs.Common.{Bool, true, false, cond, List, [], length, None, ℤ}
use Rattle.strc_elab_dataflow.specs.Flat.{Graph}
use Rattle.strc_elab_dataflow.specs.Histories.{Run, initial_run}
use Rattle.strc_elab_dataflow.specs.Node.{Meaning}
use Rattle.strc_elab_dataflow.specs.Queues.{Fifo}
use Rattle.strc_work_meaning.specs.declared.fault.Cause.{Cause}
use Rattle.strc_work_meaning.specs.declared.word.Word.{Word}
use Rattle.strc_elab_graph.specs.Meaning.{node_meaning, ports_in}
use Rattle.strc_sched_laws.specs.Fits.{Queues}
use Rattle.strc_elab_dataflow.specs.Split.{Parts}
use Rattle.strc_elab_dataflow.specs.Starting.{run_dealt, state_dealt}
use Rattle.strc_fiss.specs.Numbers.{is_dealt, base}
use Rattle.strc_stage_plan.proofs.Numbers.{each_number}
use Rattle.strc_stage_plan.specs.Owners.{owner}
use Rattle.strc_stage_plan.proofs.OwnRounds.{OwnRound, share, before, after, dealt, split}

module _ {Code State Cause Word : Type 0} (parts : Parts) (meaning : Meaning Code State Cause Word)
    (graph : Graph Code) (old : Fifo State Cause Word) (node_of part_of : ℕ → ℕ) where
  pub faultless_dealt : ((node : ℕ) → (old.runs node).fault ≡ None) → (number : ℕ)
      → ((state_dealt parts meaning graph old node_of part_of).runs number).fault ≡ None
  unfolding state_dealt run_dealt initial_run
  faultless_dealt faultless number = by_test (parts.is_split (node_of number))
    where
      by_test : (t : Bool)
          → (cond t (initial_run meaning (graph.code (node_of number)))
          (old.runs (node_of number))).fault ≡ None
      by_test true = refl
      by_test false = faultless (node_of number)

  pub fired_dealt : (counts : ℕ → ℕ) → ((node : ℕ) → (old.runs node).fired ≡ counts node)
      → (number : ℕ)
      → ((state_dealt parts meaning graph old node_of part_of).runs number).fired
      ≡ cond (parts.is_split (node_of number)) 0 (counts (node_of number))
  unfolding state_dealt run_dealt initial_run
  fired_dealt counts fired number = by_test (parts.is_split (node_of number))
    where
      by_test : (t : Bool)
          → (cond t (initial_run meaning (graph.code (node_of number)))
          (old.runs (node_of number))).fired ≡ cond t 0 (counts (node_of number))
      by_test true = refl
      by_test false = fired (node_of number)

module _ (run : OwnRound) (started : Queues) where
  abbrev of_number : ℕ → ℕ
  of_number number = (owner (share run) number).node

  abbrev run_by : (t : Bool) → (number : ℕ) → Run (List ℤ) Cause Word
  run_by t number = cond t (initial_run node_meaning ((after run).code number))
      (started.runs (of_number number))

  pub faultless_from : ((node : ℕ) → (started.runs node).fault ≡ None) → (number : ℕ)
      → ((dealt run started).runs number).fault ≡ None
  unfolding initial_run
  faultless_from faultless number = by_test (is_dealt (share run (of_number number)))
    where
      by_test : (t : Bool) → (run_by t number).fault ≡ None
      by_test true = refl
      by_test false = faultless (of_number number)

  pub fired_from : (counts : ℕ → ℕ) → ((node : ℕ) → (started.runs node).fired ≡ counts node)
      → (number : ℕ)
      → ((dealt run started).runs number).fired
      ≡ cond (is_dealt (share run (of_number number))) 0 (counts (of_number number))
  unfolding initial_run
  fired_from counts fired number = by_test (is_dealt (share run (of_number number)))
    where
      by_test : (t : Bool) → (run_by t number).fired ≡ cond t 0 (counts (of_number number))
      by_test true = refl
      by_test false = fired (of_number number)

module _ (run : OwnRound) where
  -- what waits at a node waits at its first part, and nothing at later ones
  pub record QueuesAgree (old now : Queues) : Type 0 where
    pub first : (u port : ℕ) → port < ports_in ((before run).code u)
        → now.queues (base (share run) u + 0) port ≡ old.queues u port
    pub copies : (v i : ℕ) → is_dealt (share run v) ≡ true → i < (share run v).ways
        → now.queues (base (share run) v + suc i) 0 ≡ []
    pub gathers : (v i : ℕ) → is_dealt (share run v) ≡ true → i < (share run v).ways
        → now.queues (base (share run) v + suc (share run v).ways) i ≡ []

  -- a node's first part has its ports
  pub first_ports : (u : ℕ) → ports_in ((after run).code (base (share run) u + 0))
      ≡ ports_in ((before run).code u)
  first_ports u = by_test (is_dealt (share run u)) refl
    where
      by_test : (t : Bool) → is_dealt (share run u) ≡ t
          → ports_in ((after run).code (base (share run) u + 0)) ≡ ports_in ((before run).code u)
      by_test false e = ap ports_in ((split run).kept u e)
      by_test true e =
          ((split run).split u e).scatter.one_port ∙ sym ((split run).split u e).filter.one_port

  module _ (old now other_old other_now : Queues) (agree : QueuesAgree old now)
      (others_agree : QueuesAgree other_old other_now) (R : (number port : ℕ) → Type 0)
      (alike : (u port : ℕ) → port < ports_in ((before run).code u)
      → R (base (share run) u + 0) port
      → length (old.queues u port) ≡ length (other_old.queues u port)) where
    abbrev Alike : (number : ℕ) → Type 0
    Alike number = (port : ℕ) → port < ports_in ((after run).code number) → R number port
        → length (now.queues number port) ≡ length (other_now.queues number port)

    first_alike : (u : ℕ) → Alike (base (share run) u + 0)
    first_alike u port less holds =
        let there : port < ports_in ((before run).code u) = omega (arith, less, first_ports u) in
        ap length (agree.first u port there)
        ∙ alike u port there holds
        ∙ sym (ap length (others_agree.first u port there))

    copy_alike : (v i : ℕ) → is_dealt (share run v) ≡ true → i < (share run v).ways
        → Alike (base (share run) v + suc i)
    copy_alike v i dealt lower port less holds =
        let at : 0 ≡ port = omega (arith, less, (((split run).split v dealt).copy i lower).one_port)
        in
        subst (λ (p : ℕ). length (now.queues (base (share run) v + suc i) p)
        ≡ length (other_now.queues (base (share run) v + suc i) p)) at
        (ap length (agree.copies v i dealt lower)
        ∙ sym (ap length (others_agree.copies v i dealt lower)))

    gather_alike : (v : ℕ) → is_dealt (share run v) ≡ true
        → Alike (base (share run) v + suc (share run v).ways)
    gather_alike v dealt port less holds =
        let lower : port < (share run v).ways =
        omega (arith, less, ((split run).split v dealt).gather.ports) in
        ap length (agree.gathers v port dealt lower)
        ∙ sym (ap length (others_agree.gathers v port dealt lower))

    pub lengths_alike : (number port : ℕ) → port < ports_in ((after run).code number)
        → R number port → length (now.queues number port) ≡ length (other_now.queues number port)
    lengths_alike = each_number (share run) Alike (λ u whole. first_alike u)
        (λ v dealt. first_alike v) copy_alike gather_alike
