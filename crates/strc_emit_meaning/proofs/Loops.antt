-- Loops of C, which have no limit of their own, turn as those of lowered code do.
use Rattle.std.proofs.Common.{◌≡◌, ℕ, zero, suc, ◌+◌, ◌<◌, ◌≤◌, ◌^◌, pos, Bool, true, false, cond}
use Rattle.std.proofs.Common.{not, List, [], ◌∷◌, Result, Ok, Err, refl, sym, ap, ◌∙◌, subst, arith}
use Rattle.std.proofs.Common.{◌⊎◌, inl, inr, nat_lt}
use Rattle.std.proofs.lemmas.Bool.{cases_lt, lt-ltb, le-ltb}
use Rattle.strc_lex_names.specs.Results.{result_and_then}
use Rattle.strc_work_meaning.specs.Arithmetic.{is_true}
use Rattle.strc_work_meaning.specs.declared.fault.Cause.{Cause}
use Rattle.strc_work_meaning.specs.declared.fault.Cause.TheVariants as cause
use Rattle.strc_work_meaning.specs.declared.fault.TheConstants.{TURN_LIMIT}
use Rattle.strc_work_meaning.specs.Firing.{Port, Traffic, turn_limit}
use Rattle.strc_work_code.specs.Machine.{Machine, slot_value}
use Rattle.strc_work_code.specs.Nodes.{turned_on, cycled}
use Rattle.strc_emit_c.specs.C as c
use Rattle.strc_emit_c.specs.Meaning.{Counted, Memory, written, Stop, Faults, Standing, slot_cell}
use Rattle.strc_emit_c.specs.Meaning.{Calls, holds, loop_done}
use Rattle.strc_emit_code.specs.Emitted.{turn_lines}
use Rattle.strc_emit_meaning.specs.Refinement.{Refines, lines_done}
use Rattle.strc_emit_meaning.specs.Showing.{Shows}
use Rattle.strc_emit_meaning.proofs.Outcomes.{refines_as, refines_then, refines_less, then_assoc}
use Rattle.strc_emit_meaning.proofs.Outcomes.{leaves, goes_on}
use Rattle.strc_emit_meaning.proofs.Changes as changes
use Rattle.strc_emit_meaning.proofs.Changes.{shows_lower}
use Rattle.strc_emit_meaning.proofs.Lines.{increased, reaches}

pub limit_is : turn_limit ≡ TURN_LIMIT
unfolding turn_limit
limit_is = refl

small_limit : TURN_LIMIT + 1 < 2 ^ 31
small_limit = omega arith

module _ (stand : Standing) (port : Port) (start : Memory) (size : ℕ) (calls : Calls) where
  abbrev Shown : ℕ → Machine → Memory → Type 0
  Shown lower machine memory = Shows stand port start size lower machine memory

  -- one more turn
  pub turn_does : (lower : ℕ) (machine : Machine) (memory : Memory) → Shown lower machine memory
      → Refines (Shown (lower + 1)) (turned_on machine)
      (lines_done calls stand turn_lines memory)
  turn_does lower machine memory shows = by (cases_lt n turn_limit)
    where
      n : ℕ
      n = machine.traffic.turns

      test : c.Test
      test = c.Reaches c.Turns TURN_LIMIT

      lines : List c.Statement
      lines = c.Increase c.Turns ∷ []

      after : Traffic
      after = record machine.traffic { turns = n + 1 }

      done : Bool → Result Machine Cause
      done b = result_and_then (cond b (Ok after) (Err cause.Turns))
          (λ traffic. Ok (record machine { traffic = traffic }))

      tested : (b : Bool) → nat_lt n TURN_LIMIT ≡ b → holds stand test memory ≡ Ok (not b)
      tested b e =
          reaches calls stand c.Turns TURN_LIMIT n memory shows.turns (omega (arith, small_limit))
          ∙ ap (λ t. Ok (not t)) e

      by : (n < turn_limit) ⊎ (turn_limit ≤ n)
          → Refines (Shown (lower + 1)) (turned_on machine)
          (lines_done calls stand turn_lines memory)
      by (inr le) =
          refines_as (Shown (lower + 1)) (turned_on machine)
          (lines_done calls stand turn_lines memory) (Err (Faults cause.Turns))
          (leaves calls stand test cause.Turns lines memory
          (tested false (le-ltb n TURN_LIMIT (omega (arith, limit_is)))))
          (subst (λ r. Refines (Shown (lower + 1)) r (Err (Faults cause.Turns)))
          (sym (ap done (le-ltb n turn_limit le))) refl)
      by (inl lt) =
          let last : Memory = written (Counted c.Turns) (pos (n + 1)) memory in
          refines_as (Shown (lower + 1)) (turned_on machine)
          (lines_done calls stand turn_lines memory) (Ok last)
          (goes_on calls stand test cause.Turns lines memory
          (tested true (lt-ltb n TURN_LIMIT (omega (arith, limit_is))))
          ∙ increased calls stand c.Turns [] memory n shows.turns
          (omega (arith, small_limit, limit_is)))
          (subst (λ r. Refines (Shown (lower + 1)) r (Ok last))
          (sym (ap done (lt-ltb n turn_limit lt)))
          (changes.turned_on stand port start size lower machine memory lt shows))

  module _ (condition body : Machine → Result Machine Cause)
      (first inner turning : Memory → Result Memory Stop) (slot : ℕ) (slot_lt : slot < size)
      (condition_does : (lower : ℕ) (machine : Machine) (memory : Memory)
      → Shown lower machine memory → Refines (Shown lower) (condition machine) (first memory))
      (body_does : (lower : ℕ) (machine : Machine) (memory : Memory)
      → Shown lower machine memory → Refines (Shown lower) (body machine) (inner memory))
      (turning_is : (memory : Memory) → turning memory
      ≡ result_and_then (lines_done calls stand turn_lines memory) inner) where
    abbrev Loops : (count fuel lower : ℕ) → Machine → Memory → Type 0
    Loops count fuel lower machine memory =
        Refines (Shown lower) (cycled count condition slot body machine)
        (loop_done fuel first (slot_cell stand slot) turning memory)

    -- a turn, and the loop again
    turns : (count fuel lower : ℕ) (machine : Machine) (memory : Memory)
        → ((m : Machine) (c : Memory) → Shown (lower + 1) m c → Loops count fuel (lower + 1) m c)
        → Shown lower machine memory
        → Refines (Shown lower)
        (result_and_then (turned_on machine)
        (λ turned. result_and_then (body turned) (cycled count condition slot body)))
        (result_and_then (turning memory) (loop_done fuel first (slot_cell stand slot) turning))
    turns count fuel lower machine memory again shows =
        let loop : Memory → Result Memory Stop =
        loop_done fuel first (slot_cell stand slot) turning in
        let cycle : Machine → Result Machine Cause = cycled count condition slot body in
        let lines : Result Memory Stop = lines_done calls stand turn_lines memory in
        refines_as (Shown lower)
        (result_and_then (turned_on machine) (λ turned. result_and_then (body turned) cycle))
        (result_and_then (turning memory) loop)
        (result_and_then lines (λ after. result_and_then (inner after) loop))
        (ap (λ r. result_and_then r loop) (turning_is memory) ∙ then_assoc lines inner loop)
        (refines_then (Shown (lower + 1)) (Shown lower) (turned_on machine) lines
        (λ turned. result_and_then (body turned) cycle)
        (λ after. result_and_then (inner after) loop) (turn_does lower machine memory shows)
        (λ turned after shown. refines_then (Shown (lower + 1)) (Shown lower) (body turned)
        (inner after) cycle loop (body_does (lower + 1) turned after shown)
        (λ m c s. refines_less (Shown (lower + 1)) (Shown lower) (cycle m) (loop c) (again m c s)
        (λ m' c' s'. shows_lower stand port start size (lower + 1) lower m' c' (omega arith) s'))))

    -- what is done once the condition was tested
    tested : (count fuel lower : ℕ) (machine : Machine) (memory : Memory)
        → ((m : Machine) (c : Memory) → Shown (lower + 1) m c → Loops count fuel (lower + 1) m c)
        → Shown lower machine memory → (b : Bool)
        → Refines (Shown lower)
        (cond b (result_and_then (turned_on machine)
        (λ turned. result_and_then (body turned) (cycled count condition slot body)))
        (Ok machine))
        (cond b (result_and_then (turning memory)
        (loop_done fuel first (slot_cell stand slot) turning)) (Ok memory))
    tested count fuel lower machine memory again shows true =
        turns count fuel lower machine memory again shows
    tested count fuel lower machine memory again shows false = shows

    pub loop_does : (count fuel lower : ℕ) (machine : Machine) (memory : Memory)
        → turn_limit < lower + count → turn_limit < lower + fuel → Shown lower machine memory
        → Loops count fuel lower machine memory
    loop_does zero fuel lower machine memory more more' shows =
        absurd (omega (arith, shows.above, shows.within))
    loop_does (suc count) zero lower machine memory more more' shows =
        absurd (omega (arith, shows.above, shows.within))
    loop_does (suc count) (suc fuel) lower machine memory more more' shows =
        let cell = slot_cell stand slot in
        refines_then (Shown lower) (Shown lower) (condition machine) (first memory)
        (λ m. cond (is_true (slot_value m slot)) (result_and_then (turned_on m)
        (λ turned. result_and_then (body turned) (cycled count condition slot body))) (Ok m))
        (λ c. cond (is_true (c.cells (slot_cell stand slot))) (result_and_then (turning c)
        (loop_done fuel first (slot_cell stand slot) turning)) (Ok c))
        (condition_does lower machine memory shows)
        (λ m c s. subst (λ v. Refines (Shown lower)
        (cond (is_true (slot_value m slot)) (result_and_then (turned_on m)
        (λ turned. result_and_then (body turned) (cycled count condition slot body))) (Ok m))
        (cond (is_true v) (result_and_then (turning c)
        (loop_done fuel first (slot_cell stand slot) turning)) (Ok c)))
        (sym (s.slots slot slot_lt))
        (tested count fuel lower m c
        (λ m' c' s'. loop_does count fuel (lower + 1) m' c' (omega arith) (omega arith) s') s
        (is_true (slot_value m slot))))
