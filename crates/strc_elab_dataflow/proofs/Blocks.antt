-- The example blocks keep their rates.
use Rattle.std.proofs.Common.{◌≡◌, refl, sym, ap, ◌∙◌, subst, ℕ, zero, suc, ◌<◌, Bool, true, false}
use Rattle.std.proofs.Common.{cond, eqb, List, [], ◌∷◌, length, get_or, take, drop, sum, ℤ, pos}
use Rattle.std.proofs.Common.{negsuc, arith, length-take, length-drop, zero-add}
use lib.Dec.{eqb-suc-zero}
use Rattle.strc_elab_dataflow.specs.Node.{ByPort, Fired, Fired.Fires, Fired.Faults, at_port_0}
use Rattle.strc_elab_dataflow.specs.Histories.{KeepsRates}
use Rattle.strc_elab_dataflow.specs.RoundRobin.{span_start, one_cycle, IsRoundRobinSplitter}
use Rattle.strc_elab_dataflow.specs.RoundRobin.{IsDuplicateSplitter, IsRoundRobinJoiner}
use Rattle.strc_elab_dataflow.specs.Examples.{Block, Block.Counter, Block.Identity, Block.Adder}
use Rattle.strc_elab_dataflow.specs.Examples.{Block.Negation, Block.Quotient, Block.Printer}
use Rattle.strc_elab_dataflow.specs.Examples.{Block.RoundRobinSplitter, Block.DuplicateSplitter}
use Rattle.strc_elab_dataflow.specs.Examples.{Block.RoundRobinJoiner, Cause, Word, inputs, takes}
use Rattle.strc_elab_dataflow.specs.Examples.{looks_at, gives, quotient, fires, example}
use Rattle.strc_elab_dataflow.proofs.RoundRobin.{cycle_length, span_within}
use Rattle.strc_elab_dataflow.proofs.Rates.{keeps_rates}

-- One list at port 0.
at_0 : (items : List ℤ) (n : ℕ) → length items ≡ n → (port : ℕ)
    → length (at_port_0 items port) ≡ cond (eqb port 0) n 0
unfolding at_port_0
at_0 items n e zero = e
at_0 items n e (suc port) = ap (λ (t : Bool). cond t n 0) (sym (eqb-suc-zero port))

-- What a firing pushes, where it doesn't fault.
abbrev Pushes : Block → Fired ℤ Cause Word → Type 0
Pushes block (Fires next pushes words) = (port : ℕ) → length (pushes port) ≡ gives block port
Pushes block (Faults cause) = Unit {0}

quotient_pushes : (n k x d : ℤ) → Pushes (Quotient n k) (quotient n d x)
unfolding quotient gives
quotient_pushes n k x (pos zero) = tt
quotient_pushes n k x (pos (suc d)) = at_0 _ 1 refl
quotient_pushes n k x (negsuc d) = at_0 _ 1 refl

copied : (test : Bool) (items : List ℤ) → length items ≡ 1
    → length (cond test [] items) ≡ cond test 0 1
copied true items e = refl
copied false items e = e

block_pushes : (block : Block) (x : ℤ) (seen : ByPort)
    → ((port : ℕ) → port < inputs block → length (seen port) ≡ looks_at block port)
    → Pushes block (fires block x seen)
unfolding inputs looks_at takes gives fires
block_pushes Counter x seen h = at_0 (x ∷ []) 1 refl
block_pushes Identity x seen h = at_0 (seen 0) 1 (h 0 (omega arith))
block_pushes Adder x seen h = at_0 _ 1 refl
block_pushes Negation x seen h = at_0 _ 1 refl
block_pushes (Quotient n k) x seen h = quotient_pushes n k x _
block_pushes Printer x seen h = λ port. refl
block_pushes (RoundRobinSplitter weights) x seen h =
    λ port. omega (
      arith,
      length-take (get_or weights port 0)
          (drop (span_start weights port) (seen 0)),
      length-drop (span_start weights port) (seen 0),
      h 0 (omega arith),
      span_within weights port,
    )
block_pushes (DuplicateSplitter weights) x seen h =
    λ port. copied (eqb (get_or weights port 0) 0) (seen 0) (h 0 (omega arith))
block_pushes (RoundRobinJoiner weights) x seen h =
    at_0 (one_cycle weights 0 seen) (sum weights)
    (cycle_length weights 0 seen (λ i less. ap (λ (n : ℕ). length (seen n)) (zero-add i)
    ∙ h i less))

pushes_at : (block : Block) (outcome : Fired ℤ Cause Word) → Pushes block outcome
    → (next : ℤ) (pushes : ByPort) (words : List Word) → outcome ≡ Fires next pushes words
    → (port : ℕ) → length (pushes port) ≡ gives block port
pushes_at block outcome h next pushes words e = subst (Pushes block) e h

-- Each example block keeps its rates.
pub block_keeps : (block : Block) → KeepsRates example block
unfolding example
block_keeps block =
    keeps_rates example block (λ state. Unit {0})
    (record {
      fine_at_start = tt;
      kept = λ firing state next seen pushes words fine h e. (
        tt,
        pushes_at block (fires block state seen)
            (block_pushes block state seen h) next pushes words e,
      );
    })

-- The example's splitters and joiners are round-robin and duplicating ones.
pub splitter_block : (weights : List ℕ) → 0 < sum weights
    → IsRoundRobinSplitter example (RoundRobinSplitter weights) weights
unfolding example inputs looks_at takes fires
splitter_block weights positive = record {
  positive = positive;
  ports = refl;
  window = λ firing. refl;
  popped = λ firing. refl;
  deals = λ firing state seen. (
    state,
    λ port. take (get_or weights port 0)
        (drop (span_start weights port) (seen 0)),
    [],
    refl,
    λ port. refl,
  );
}

pub duplicate_block : (weights : List ℕ) → IsDuplicateSplitter example
    (DuplicateSplitter weights) weights
unfolding example inputs looks_at takes fires
duplicate_block weights = record {
  ports = refl;
  window = λ firing. refl;
  popped = λ firing. refl;
  copies = λ firing state seen. (
    state,
    λ port. cond (eqb (get_or weights port 0) 0) [] (seen 0),
    [],
    refl,
    λ port. refl,
  );
}

pub joiner_block : (weights : List ℕ) → IsRoundRobinJoiner example
    (RoundRobinJoiner weights) weights
unfolding example inputs looks_at takes fires at_port_0
joiner_block weights = record {
  ports = refl;
  window = λ firing port. refl;
  popped = λ firing port. refl;
  joins = λ firing state seen. (state, at_port_0 (one_cycle weights 0 seen), [], refl, refl);
}
