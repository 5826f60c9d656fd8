-- The items of the program's input that have been read are the firings of its reader.
use Rattle.std.proofs.Common.{◌≡◌, refl, ap, ◌∙◌, ℕ, zero, suc, ◌+◌, ◌<◌, ◌≤◌, Bool, true, false}
use Rattle.std.proofs.Common.{cond, List, [], ◌∷◌, Some, slice_get, arith}
use Rattle.std.specs.Prelude.{count_by}
use Rattle.std.proofs.lemmas.List.Sums.{sum_by-cons}
use Rattle.strc_elab_graph.specs.Graphs.{NodeCode, FileReader, reads_input}
use Rattle.strc_sched_laws.specs.Planned.{read_from, items_read}

abbrev one_if : Bool → ℕ
one_if reads = cond reads 1 0

one_more : (code : NodeCode) (codes : List NodeCode) → count_by reads_input (code ∷ codes)
    ≡ one_if (reads_input code) + count_by reads_input codes
one_more code codes = sum_by-cons (λ own. cond (reads_input own) 1 0) code codes

some_read : (codes : List NodeCode) (node : ℕ) (text : List ℕ)
    → slice_get codes node ≡ Some (FileReader text)
    → 0 < count_by reads_input codes
some_read [] node text there = absurd (cc)
some_read (code ∷ codes) zero text there =
    let is : code ≡ FileReader text = cc in
    let reads = ap (λ own. one_if (reads_input own)) is in
    omega (arith, one_more code codes, reads)
some_read (code ∷ codes) (suc node) text there =
    omega (arith, one_more code codes, some_read codes node text there)

reads_from : (codes : List NodeCode) (first node : ℕ) (counts : ℕ → ℕ) (text : List ℕ)
    → count_by reads_input codes ≤ 1 → slice_get codes node ≡ Some (FileReader text)
    → read_from first codes counts ≡ counts (first + node)
reads_from [] first node counts text one there = absurd (cc)
reads_from (code ∷ codes) first zero counts text one there =
    let is : code ≡ FileReader text = cc in
    let same : first ≡ first + 0 = omega arith in
    ap (λ own. cond (reads_input own) (counts first) (read_from (suc first) codes counts)) is
    ∙ ap counts same
reads_from (code ∷ codes) first (suc node) counts text one there =
    by_test (reads_input code) refl (reads_from codes (suc first) node counts text)
  where
    by_test : (reads : Bool) → reads_input code ≡ reads
        → (count_by reads_input codes ≤ 1 → slice_get codes node ≡ Some (FileReader text)
        → read_from (suc first) codes counts ≡ counts (suc first + node))
        → cond (reads_input code) (counts first) (read_from (suc first) codes counts)
        ≡ counts (first + suc node)
    by_test true e rest =
        let reads = ap one_if e in
        absurd (omega (arith, one_more code codes, reads, some_read codes node text there, one))
    by_test false e rest =
        let reads = ap one_if e in
        let same : suc first + node ≡ first + suc node = omega arith in
        ap (λ test. cond test (counts first) (read_from (suc first) codes counts)) e
        ∙ rest (omega (arith, one_more code codes, reads, one)) there
        ∙ ap counts same

-- a reader's firings
pub reader_reads : (codes : List NodeCode) (node : ℕ) (counts : ℕ → ℕ) (text : List ℕ)
    → count_by reads_input codes ≤ 1 → slice_get codes node ≡ Some (FileReader text)
    → items_read codes counts ≡ counts node
reader_reads codes node counts text one there =
    let same : 0 + node ≡ node = omega arith in
    reads_from codes 0 node counts text one there ∙ ap counts same
