-- The worked row, computed from the definitions.
use Rattle.std.proofs.Common.{◌≡◌, refl, subst, ℕ, zero, suc, pos, List, [], ◌∷◌}
use Rattle.std.proofs.Common.{Some, slice_get, arith}
use Rattle.std.specs.Int.{int_wrap}
use mathlib.Core.Path.{fun_ext}
use Rattle.strc_work_meaning.specs.declared.word.Word.{Word}
use Rattle.strc_elab_graph.specs.Graphs.{FileReader}
use Rattle.strc_sched_laws.specs.Machine.{words_at}
use Rattle.strc_live_laws.specs.Windows.{IsReader}
use Rattle.strc_live_laws.specs.Live.{IsLive, more_past}
use Rattle.strc_live_laws.specs.Rows.{circuit, order, first, left_by, after_rounds}
use Rattle.strc_live_laws.specs.Rows.{written_live, sums, LiveRow}
use Rattle.strc_live_laws.proofs.Live.{begins_law, goes_on_law}

reader_is : IsReader circuit.codes 0
reader_is = record { text = []; there = refl; only = only }
  where
    only : (node : ℕ) (other : List ℕ) → slice_get circuit.codes node ≡ Some (FileReader other)
        → node ≡ 0
    only zero other there = refl
    only (suc zero) other there = absurd (cc)
    only (suc (suc zero)) other there = absurd (cc)
    only (suc (suc (suc node))) other there = absurd (cc)

is_live : IsLive circuit order 0 first 3
    (pos 1 ∷ pos 2 ∷ pos 3 ∷ pos 4 ∷ pos 5 ∷ pos 6 ∷ []) sums (after_rounds 3)
unfolding int_wrap
is_live =
    let start = begins_law circuit order 0 first [] (omega arith) refl in
    let one = goes_on_law circuit order 0 first 0 [] (pos 1 ∷ pos 2 ∷ []) (words_at first.words)
    first (left_by 1 (pos 3)) reader_is
    (omega arith) refl start refl in
    let two = goes_on_law circuit order 0 first 1 (pos 1 ∷ pos 2 ∷ []) (pos 3 ∷ pos 4 ∷ [])
    (more_past (words_at first.words) (left_by 1 (pos 3))) (after_rounds 1) (left_by 2 (pos 7))
    reader_is (omega arith) refl one refl in
    let three = goes_on_law circuit order 0 first 2 (pos 1 ∷ pos 2 ∷ pos 3 ∷ pos 4 ∷ [])
    (pos 5 ∷ pos 6 ∷ [])
    (more_past (more_past (words_at first.words) (left_by 1 (pos 3))) (left_by 2 (pos 7)))
    (after_rounds 2) (left_by 3 (pos 11)) reader_is (omega arith) refl two refl in
    subst (λ (past : ℕ → List Word). IsLive circuit order 0 first 3
    (pos 1 ∷ pos 2 ∷ pos 3 ∷ pos 4 ∷ pos 5 ∷ pos 6 ∷ []) past (after_rounds 3))
    (fun_ext at) three
  where
    at : (node : ℕ) → more_past (more_past (more_past (words_at first.words) (left_by 1 (pos 3)))
        (left_by 2 (pos 7))) (left_by 3 (pos 11)) node ≡ sums node
    at zero = refl
    at (suc zero) = refl
    at (suc (suc zero)) = refl
    at (suc (suc (suc node))) = refl

pub live_row : LiveRow
unfolding written_live int_wrap
live_row = record { live = refl; next = refl; whole = refl; is_live = is_live }
