-- How many rounds an input serves, by the counts of the reader.
use Rattle.std.proofs.Common.{◌≡◌, ℕ, suc, ◌+◌, Bool, true, false, cond, List, [], ◌∷◌}
use Rattle.std.proofs.Common.{Option, Some, None, refl, arith, inl, inr}
use Rattle.std.specs.Prelude.{is_some, ◌||◌}
use Rattle.std.specs.List.{list_any}
use Rattle.strc_elab_graph.specs.Graphs.{NodeCode, reads_input}
use Rattle.strc_sched_laws.specs.Planned.{items_read, read_from}
use Rattle.strc_sched.specs.Reading.{count_of}
use Rattle.strc_sched.specs.Serving.{IsServed, round_limit}

-- the same numbers of items serve the same rounds
pub same_served : (need other : ℕ → ℕ) (got : ℕ) (found : Option ℕ)
    → ((rounds : ℕ) → need rounds ≡ other rounds) → IsServed other got found
    → IsServed need got found
same_served need other got None same short = omega (arith, same 0, short)
same_served need other got (Some rounds) same served = record {
  start = omega (arith, same 0, served.start);
  enough = omega (arith, same rounds, served.enough);
  within = served.within;
  most = elim served.most [
    | inl all ↦ inl all
    | inr short ↦ inr (omega (arith, same (rounds + 1), short))
  ];
}

-- whoever reads nothing is served for good
pub nothing_read : (need : ℕ → ℕ) (got : ℕ) → ((rounds : ℕ) → need rounds ≡ 0)
    → IsServed need got (Some round_limit)
nothing_read need got none = record {
  start = omega (arith, none 0);
  enough = omega (arith, none round_limit);
  within = omega arith;
  most = inl refl;
}

-- one reader at most is counted
any_reads : (first rest : Bool) (n : ℕ) → n ≡ cond rest 1 0
    → cond first 1 n ≡ cond (first || rest) 1 0
any_reads true rest n is = refl
any_reads false rest n is = is

-- how many readers there are, if no more than one is counted
abbrev readers : Bool → ℕ
readers found = cond found 1 0

read_once : (number : ℕ) (nodes : List NodeCode)
    → read_from number nodes (λ node. 1) ≡ readers (list_any reads_input nodes)
read_once number [] = refl
read_once number (code ∷ codes) =
    any_reads (reads_input code) (list_any reads_input codes)
    (read_from (suc number) codes (λ node. 1)) (read_once (suc number) codes)

one_is : (n : ℕ) (found : Bool) → n ≡ readers found → n ≡ 1 → true ≡ found
one_is n true is one = refl
one_is n false is one = absurd (omega (arith, is, one))

none_is : (n : ℕ) (found : Bool) → n ≡ readers found → n ≡ 0 → false ≡ found
none_is n true is none = absurd (omega (arith, is, none))
none_is n false is none = refl

-- there is a reader where one is found
pub reader_is : (found : Option ℕ) (nodes : List NodeCode)
    → ((counts : ℕ → ℕ) → items_read nodes counts ≡ count_of found counts)
    → is_some found ≡ list_any reads_input nodes
reader_is None nodes is =
    let one : ℕ → ℕ = λ node. 1 in
    none_is (items_read nodes one) (list_any reads_input nodes) (read_once 0 nodes) (is one)
reader_is (Some node) nodes is =
    let one : ℕ → ℕ = λ node. 1 in
    one_is (items_read nodes one) (list_any reads_input nodes) (read_once 0 nodes) (is one)
