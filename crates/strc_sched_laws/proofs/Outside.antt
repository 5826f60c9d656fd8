-- Sources that the nodes of a part don't give, and those that they do.
use Rattle.std.proofs.Common.{◌≡◌, sym, subst, ℕ, zero, suc, ◌+◌, ◌-◌, ◌<◌, ◌≤◌, List}
use Rattle.std.proofs.Common.{◌++◌, length, get_or, ◌⊎◌, inl, inr, arith}
use Rattle.std.proofs.Math.ListN.{get_or-append}
use Rattle.std.proofs.Math.Seq.{get_or-append_right}
use Rattle.std.proofs.lemmas.Bool.{cases_lt}
use Rattle.strc_elab_dataflow.specs.Flat.{Origin.Port, Source}
use Rattle.strc_elab_dataflow.specs.Streams.{nothing, source_at_0}
use Rattle.strc_elab_dataflow.specs.Streams.{prepend}

-- a source that so many nodes from one on don't give
abbrev pub IsOutside : (first count : ℕ) → Source → Type 0
IsOutside first count source =
    (node port : ℕ) → source.origin ≡ Port node port → (node < first) ⊎ (first + count ≤ node)

pub nothing_outside : (first count : ℕ) → IsOutside first count nothing
nothing_outside first count node port e = absurd (cc)

-- of fewer nodes
pub outside_front : (first count more : ℕ) (source : Source) → IsOutside first (count + more) source
    → IsOutside first count source
outside_front first count more source outside node port e = elim (outside node port e) [
  | inl less ↦ inl less
  | inr past ↦ inr (omega (arith, past))
]

pub outside_back : (first count more : ℕ) (source : Source) → IsOutside first (count + more) source
    → IsOutside (first + count) more source
outside_back first count more source outside node port e = elim (outside node port e) [
  | inl less ↦ inl (omega (arith, less))
  | inr past ↦ inr (omega (arith, past))
]

-- a source that is one of these nodes'
abbrev pub IsWithin : (first count : ℕ) → Source → Type 0
IsWithin first count source =
    (node port : ℕ) → source.origin ≡ Port node port → (first ≤ node) × (node < first + count)

pub before_outside : (first count more : ℕ) (source : Source) → IsWithin first count source
    → IsOutside (first + count) more source
before_outside first count more source within node port e = inl ((within node port e).1)

pub after_outside : (first count more : ℕ) (source : Source) → IsWithin (first + count) more source
    → IsOutside first count source
after_outside first count more source within node port e = inr ((within node port e).0)

pub at_0_all : (P : Source → Type 0) (source : Source) → P source → P nothing → (port : ℕ)
    → P (source_at_0 source port)
unfolding source_at_0
at_0_all P source here none zero = here
at_0_all P source here none (suc port) = none

pub first_all : (P : Source → Type 0) (source : Source) (others : ℕ → Source) → P source
    → ((port : ℕ) → P (others port)) → (port : ℕ) → P (prepend source others port)
unfolding prepend
first_all P source others here all zero = here
first_all P source others here all (suc port) = all port

abbrev pub none : ℕ → Source
none port = nothing

pub either_part : (P : (ℕ → Source) → Type 0) (xs ys : List (ℕ → Source)) (place : ℕ)
    → (place < length xs → P (get_or xs place none))
    → (length xs ≤ place → P (get_or ys (place - length xs) none))
    → P (get_or (xs ++ ys) place none)
either_part P xs ys place front back = elim (cases_lt place (length xs)) [
  | inl less ↦ subst P (sym (get_or-append xs ys none place less)) (front less)
  | inr past ↦ subst P (sym (get_or-append_right xs ys place none past)) (back past)
]
