-- A program's input has one reader.
use Rattle.std.proofs.Common.{◌≡◌, refl, ap, ℕ, zero, suc, ◌+◌, ◌<◌, ◌≤◌, Bool, cond}
use Rattle.std.proofs.Common.{List, [], ◌∷◌, Some, slice_get, arith}
use Rattle.std.specs.Prelude.{count_by}
use Rattle.std.proofs.lemmas.List.Sums.{sum_by-cons}
use Rattle.strc_elab_graph.specs.Graphs.{NodeCode, FileReader, reads_input}
use Rattle.strc_live_laws.specs.Windows.{IsReader}

abbrev one_if : Bool → ℕ
one_if reads = cond reads 1 0

one_more : (code : NodeCode) (nodes : List NodeCode) → count_by reads_input (code ∷ nodes)
    ≡ one_if (reads_input code) + count_by reads_input nodes
one_more code nodes = sum_by-cons (λ own. cond (reads_input own) 1 0) code nodes

some_read : (nodes : List NodeCode) (node : ℕ) (text : List ℕ)
    → slice_get nodes node ≡ Some (FileReader text) → 0 < count_by reads_input nodes
some_read [] node text there = absurd (cc)
some_read (code ∷ nodes) zero text there =
    let is : code ≡ FileReader text = cc in
    let reads = ap (λ own. one_if (reads_input own)) is in
    omega (arith, one_more code nodes, reads)
some_read (code ∷ nodes) (suc node) text there =
    omega (arith, one_more code nodes, some_read nodes node text there)

same_reader : (nodes : List NodeCode) → count_by reads_input nodes ≤ 1
    → (a b : ℕ) (text other : List ℕ) → slice_get nodes a ≡ Some (FileReader text)
    → slice_get nodes b ≡ Some (FileReader other) → a ≡ b
same_reader [] one a b text other first second = absurd (cc)
same_reader (code ∷ nodes) one zero zero text other first second = refl
same_reader (code ∷ nodes) one zero (suc b) text other first second =
    let is : code ≡ FileReader text = cc in
    let reads = ap (λ own. one_if (reads_input own)) is in
    absurd (omega (arith, one, one_more code nodes, reads, some_read nodes b other second))
same_reader (code ∷ nodes) one (suc a) zero text other first second =
    let is : code ≡ FileReader other = cc in
    let reads = ap (λ own. one_if (reads_input own)) is in
    absurd (omega (arith, one, one_more code nodes, reads, some_read nodes a text first))
same_reader (code ∷ nodes) one (suc a) (suc b) text other first second =
    ap suc (same_reader nodes (omega (arith, one, one_more code nodes)) a b text other first second)

pub one_reader : (nodes : List NodeCode) → count_by reads_input nodes ≤ 1
    → (reader : ℕ) (text : List ℕ) → slice_get nodes reader ≡ Some (FileReader text)
    → IsReader nodes reader
one_reader nodes one reader text there = record {
  text = text;
  there = there;
  only = λ node other second. same_reader nodes one node reader other text second there;
}
