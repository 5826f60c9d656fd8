-- Numbers of parts in a row, and the state dealt out by them.
use Rattle.std.proofs.Common.{◌≡◌, ap, ◌∙◌, subst, ℕ, zero, suc, ◌+◌, ◌<◌, ◌≤◌}
use Rattle.std.proofs.Common.{Bool, true, false, cond, [], arith}
use mathlib.Core.Logic.{inl, inr}
use Rattle.std.proofs.lemmas.Bool.{cases_lt, cases_order}
use Rattle.strc_elab_dataflow.specs.Node.{ByPort, Meaning}
use Rattle.strc_elab_dataflow.specs.Histories.{Run, initial_run}
use Rattle.strc_elab_dataflow.specs.Flat.{Graph}
use Rattle.strc_elab_dataflow.specs.Queues.{Fifo}
use Rattle.strc_elab_dataflow.specs.Split.{Parts, outlet, Agree}
use Rattle.strc_elab_dataflow.specs.Starting.{AreNumbered, IsOwner, run_dealt, queues_dealt}
use Rattle.strc_elab_dataflow.specs.Starting.{state_dealt}
use Rattle.strc_elab_dataflow.proofs.RoundsParts.{outlet_split}

module _ (parts : Parts) (base : ℕ → ℕ) (are : AreNumbered parts base) where
  below : (u v : ℕ) → u < v → base u + suc (outlet parts u) ≤ base v
  below u zero less = absurd (omega arith)
  below u (suc v) less = elim (cases_lt u v) [
    | inl lower ↦ omega (arith, below u v lower, are.next v)
    | inr other ↦
        let e : u ≡ v = omega (arith, less, other) in
        subst (λ (x : ℕ). base u + suc (outlet parts u) ≤ base (suc x)) e
        (omega (arith, are.next u))
  ]

  pub numbers_apart : (u k v l : ℕ) → k ≤ outlet parts u → l ≤ outlet parts v
      → parts.name u k ≡ parts.name v l → (u ≡ v) × (k ≡ l)
  numbers_apart u k v l k_less l_less e = elim (cases_order u v) [
    | inl same ↦ (
      same,
      omega (arith, e, are.names u k, are.names v l, ap base same),
    )
    | inr apart ↦ elim apart [
      | inl lower ↦ absurd (omega (
        arith,
        e,
        are.names u k,
        are.names v l,
        below u v lower,
        k_less,
      ))
      | inr above ↦ absurd (omega (
        arith,
        e,
        are.names u k,
        are.names v l,
        below v u above,
        l_less,
      ))
    ]
  ]

  pub owner : (number : ℕ) → (node : ℕ) × (part : ℕ) × IsOwner parts number node part
  owner zero = (
    0,
    0,
    record { within = omega arith; is = omega (arith, are.names 0 0, are.first) },
  )
  owner (suc number) = after (owner number)
    where
      after : ((node : ℕ) × (part : ℕ) × IsOwner parts number node part)
          → (node : ℕ) × (part : ℕ) × IsOwner parts (suc number) node part
      after (node, part, is) = elim (cases_lt part (outlet parts node)) [
        | inl inner ↦ (
          node,
          suc part,
          record {
            within = omega (arith, inner);
            is = omega (arith, is.is, are.names node part, are.names node (suc part));
          },
        )
        | inr last ↦ (
          suc node,
          0,
          record {
            within = omega arith;
            is = omega (
              arith,
              is.is,
              is.within,
              last,
              are.names node part,
              are.names (suc node) 0,
              are.next node,
            );
          },
        )
      ]

module _ {Code State Cause Word : Type 0} (meaning : Meaning Code State Cause Word)
    (graph : Graph Code) (parts : Parts) (node_of part_of : ℕ → ℕ) (old : Fifo State Cause Word)
    (owners : (v k : ℕ) → k ≤ outlet parts v
    → (node_of (parts.name v k) ≡ v) × (part_of (parts.name v k) ≡ k))
    (begun : (v : ℕ) → parts.is_split v ≡ true → ((old.runs v).fired ≡ parts.first v)
    × ((old.runs v).state ≡ meaning.start (graph.code v)) × ((old.runs v).words ≡ [])) where
  dealt : Fifo State Cause Word
  dealt = state_dealt parts meaning graph old node_of part_of

  run_of : (v k : ℕ) → k ≤ outlet parts v
      → dealt.runs (parts.name v k) ≡ run_dealt parts meaning graph old v
  unfolding dealt state_dealt
  run_of v k less = ap (run_dealt parts meaning graph old) (owners v k less).0

  queues_of : (v k : ℕ) → k ≤ outlet parts v
      → dealt.queues (parts.name v k) ≡ queues_dealt parts meaning graph old v k
  unfolding dealt state_dealt
  queues_of v k less =
      ap (λ (u : ℕ). queues_dealt parts meaning graph old u (part_of (parts.name v k)))
      (owners v k less).0
      ∙ ap (queues_dealt parts meaning graph old v) (owners v k less).1

  fresh : (v : ℕ) → parts.is_split v ≡ true
      → run_dealt parts meaning graph old v ≡ initial_run meaning (graph.code v)
  unfolding run_dealt
  fresh v split = ap (λ (t : Bool). cond t (initial_run meaning (graph.code v)) (old.runs v)) split

  goes_on : (v : ℕ) → parts.is_split v ≡ false
      → run_dealt parts meaning graph old v ≡ old.runs v
  unfolding run_dealt
  goes_on v kept = ap (λ (t : Bool). cond t (initial_run meaning (graph.code v)) (old.runs v)) kept

  dealt_agree : Agree parts meaning graph (λ v. 0) old dealt
  unfolding queues_dealt initial_run
  dealt_agree = record {
    queues = λ u port less. ap (λ (q : ByPort). q port) (queues_of u 0 (omega arith));
    kept = λ u kept. run_of u 0 (omega arith) ∙ goes_on u kept;
    idle = λ v split.
        let last : outlet parts v ≡ suc (parts.share v).ways = outlet_split parts v split in
        record {
          fired = omega (arith, (begun v split).0);
          state = (begun v split).1;
          silent = (begun v split).2;
          scatter_silent = ap (λ (r : Run State Cause Word). r.words)
              (run_of v 0 (omega arith) ∙ fresh v split);
          gather_silent = ap (λ (r : Run State Cause Word). r.words)
              (run_of v (suc (parts.share v).ways) (omega (arith, last)) ∙ fresh v split);
          copy = λ i less.
              let run = run_of v (suc i) (omega (arith, last, less)) ∙ fresh v split in
              record {
                fired = omega (arith, ap (λ (r : Run State Cause Word). r.fired) run);
                state = ap (λ (r : Run State Cause Word). r.state) run;
                silent = ap (λ (r : Run State Cause Word). r.words) run;
                empty = ap (λ (q : ByPort). q 0) (queues_of v (suc i) (omega (arith, last, less)));
                passed_on = ap (λ (q : ByPort). q i)
                    (queues_of v (suc (parts.share v).ways) (omega (arith, last)));
              };
        };
  }

  pub starts_agree : Agree parts meaning graph (λ v. 0) old
      (state_dealt parts meaning graph old node_of part_of)
  unfolding dealt
  starts_agree = dealt_agree
