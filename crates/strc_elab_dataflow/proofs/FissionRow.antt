-- The row of a filter split in two ways.
use Rattle.std.proofs.Common.{◌≡◌, refl, sym, ap, ◌∙◌, subst, ℕ, zero, suc, ◌+◌, ◌*◌, ◌<◌}
use Rattle.std.proofs.Common.{Bool, false, cond, ℤ, List, [], ◌∷◌, length, take, drop}
use Rattle.std.proofs.Common.{arith, eqb-true}
use Rattle.std.proofs.lemmas.Bool.{ne_eqb}
use Rattle.strc_elab_dataflow.specs.Node.{ByPort, Fired, Fired.Fires, at_port_0}
use Rattle.strc_elab_dataflow.specs.Flat.{Origin.Port}
use Rattle.strc_elab_dataflow.specs.Split.{Share, IsStateless, IsScatter, IsCopy, IsGather, outlet}
use Rattle.strc_elab_dataflow.specs.Split.{renamed, AreParts, IsSplitGraph}
use Rattle.strc_elab_dataflow.specs.Starting.{AreNumbered}
use Rattle.strc_elab_dataflow.specs.RoundRows.{Code.Ahead, Code.Scatter, Code.Copy, Code.Gather}
use Rattle.strc_elab_dataflow.specs.RoundRows.{second_of, ports_of, looks_at, takes_of, fires_as}
use Rattle.strc_elab_dataflow.specs.RoundRows.{meaning}
use Rattle.strc_elab_dataflow.specs.RoundRows.{from, graph, split_source, split_graph, base}
use Rattle.strc_elab_dataflow.specs.RoundRows.{two_ways}
use Rattle.strc_elab_dataflow.proofs.Numbers.{numbers_apart}

abbrev two : Share
two = record { ways = 2; firings = 1; pop = 1; window = 2; push = 1 }

outlet_later : (n : ℕ) → outlet two_ways (suc (suc n)) ≡ 0
unfolding two_ways
outlet_later n = ap (λ (t : Bool). cond t 3 0)
    (ne_eqb (suc (suc n)) 1 (λ e. absurd (omega (arith, e))))

numbered : AreNumbered two_ways base
unfolding two_ways base
numbered = record { first = refl; next = next_by; names = λ v k. refl }
  where
    next_by : (v : ℕ) → base (suc v) ≡ base v + suc (outlet two_ways v)
    next_by zero = refl
    next_by (suc zero) = refl
    next_by (suc (suc n)) = omega (arith, outlet_later n)

later_name : (n : ℕ) → two_ways.name (suc (suc n)) 0 ≡ suc (suc (suc (suc (suc n))))
unfolding two_ways base
later_name n = omega arith

second_one : (items : List ℤ) → length items ≡ 2 → length (second_of items) ≡ 1
unfolding second_of
second_one [] e = absurd (omega arith)
second_one (x ∷ []) e = absurd (omega arith)
second_one (x ∷ y ∷ rest) e = refl

stateless : IsStateless meaning two Ahead
unfolding meaning ports_of looks_at takes_of fires_as at_port_0
stateless = record {
  one_port = refl;
  windows = λ n. refl;
  pops = λ n. refl;
  same = λ n m inputs. refl;
  stays = stays_by;
}
  where
    stays_by : (n : ℕ) (inputs : ByPort) (next : ℕ) (pushes : ByPort) (words : List ℤ)
        → length (inputs 0) ≡ 2
        → ◌≡◌ {A = Fired ℕ ℕ ℤ} (Fires 0 (at_port_0 (second_of (inputs 0))) [])
        (Fires next pushes words)
        → (next ≡ 0) × (words ≡ []) × (length (pushes 0) ≡ 1) × (pushes ≡ at_port_0 (pushes 0))
    stays_by n inputs next pushes words long e =
        let same : at_port_0 (second_of (inputs 0)) ≡ pushes = cc in (
          cc,
          cc,
          ap (λ (p : ByPort). length (p 0)) (sym same) ∙ second_one (inputs 0) long,
          subst (λ (p : ByPort). p ≡ at_port_0 (p 0)) same refl,
        )

scatter : IsScatter meaning two Scatter
unfolding meaning ports_of looks_at takes_of fires_as
scatter = record {
  one_port = refl;
  windows = λ n. refl;
  pops = λ n. refl;
  deals = λ n state inputs. (
    state,
    λ i. take 2 (drop i (inputs 0)),
    refl,
    λ i less. ap (λ (k : ℕ). take 2 (drop k (inputs 0)))
        (let e : i ≡ i * 1 * 1 = omega arith in e),
  );
}

copy : IsCopy meaning two Ahead Copy
unfolding meaning ports_of looks_at takes_of fires_as
copy = record {
  one_port = refl;
  windows = λ n. refl;
  pops = λ k j less. absurd (omega arith);
  last_pops = λ k j e. refl;
  same = λ n inputs. refl;
}

gather : IsGather meaning two Gather
unfolding meaning ports_of looks_at takes_of fires_as
gather = record {
  ports = refl;
  windows = λ n i less. refl;
  pops = λ n i less. refl;
  joins = λ n state inputs. (state, refl);
}

copy_at : (i : ℕ) → i < 2 → IsCopy meaning two Ahead (split_graph.code (two_ways.name 1 (suc i)))
unfolding split_graph two_ways base
copy_at zero less = copy
copy_at (suc zero) less = copy
copy_at (suc (suc i)) less = absurd (omega arith)

to_copy_at : (i : ℕ) → i < 2
    → (split_graph.source (two_ways.name 1 (suc i)) 0).origin ≡ Port (two_ways.name 1 0) i
unfolding split_graph two_ways base from split_source
to_copy_at zero less = refl
to_copy_at (suc zero) less = refl
to_copy_at (suc (suc i)) less = absurd (omega arith)

from_copy_at : (i : ℕ) → i < 2
    → (split_graph.source (two_ways.name 1 3) i).origin ≡ Port (two_ways.name 1 (suc i)) 0
unfolding split_graph two_ways base from split_source
from_copy_at zero less = refl
from_copy_at (suc zero) less = refl
from_copy_at (suc (suc i)) less = absurd (omega arith)

other_source : (port : ℕ) → Port 0 0 ≡ Port 1 port → ⊥
other_source port e = grind arith

parts_are : AreParts two_ways meaning graph split_graph 1 two
unfolding graph split_graph two_ways base from
parts_are = record {
  filter = stateless;
  scatter = scatter;
  copy = copy_at;
  gather = gather;
  to_copy = to_copy_at;
  from_copy = from_copy_at;
  no_loop = other_source;
  some_ways = omega arith;
  some_firings = omega arith;
  narrow = omega arith;
}

kept_at : (u : ℕ) → two_ways.is_split u ≡ false
    → split_graph.code (two_ways.name u 0) ≡ graph.code u
unfolding graph split_graph two_ways base
kept_at zero kept = refl
kept_at (suc zero) kept = absurd (grind arith)
kept_at (suc (suc zero)) kept = refl
kept_at (suc (suc (suc n))) kept = ap split_graph.code (later_name (suc n))

inputs_at : (u port : ℕ) → port < meaning.ports (graph.code u)
    → (split_graph.source (two_ways.name u 0) port).origin
    ≡ renamed two_ways (graph.source u port).origin
unfolding graph split_graph two_ways base from split_source renamed meaning ports_of
inputs_at zero port less = absurd (omega arith)
inputs_at (suc zero) port less = refl
inputs_at (suc (suc zero)) port less = refl
inputs_at (suc (suc (suc n))) port less = absurd (omega arith)

pub is_split_graph : IsSplitGraph two_ways meaning graph split_graph
unfolding two_ways
is_split_graph = record {
  apart = numbers_apart two_ways base numbered;
  kept = kept_at;
  inputs = inputs_at;
  split = λ v split. subst (λ (x : ℕ). AreParts two_ways meaning graph split_graph x two)
      (sym (eqb-true v 1 split)) parts_are;
}
