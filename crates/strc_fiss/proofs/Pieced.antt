-- The units of a round as pieces.
use Rattle.std.proofs.Common.{◌≡◌, refl, sym, ap, ap₂, ◌∙◌, ℕ, zero, suc, ◌+◌, ◌*◌, arith, List, []}
use Rattle.std.proofs.Common.{◌∷◌, ◌++◌, map, Bool, true, false, cond, append_assoc, inl, inr}
use Rattle.std.proofs.Common.{eqb}
use Rattle.std.proofs.lemmas.Bool.{true≢false}
use borrow.Author.Tests.{eqb-true}
use Rattle.strc_elab_graph.specs.declared.graph.Fission.{Fission}
use Rattle.strc_elab_dataflow.specs.FusedUnits.{RoundUnit}
use Rattle.strc_elab_dataflow.specs.Pieces as pieces
use Rattle.strc_elab_dataflow.specs.Pieces.{Piece, Piece.Plain, Piece.Whole, ArePieces, AreKept}
use Rattle.strc_elab_dataflow.specs.Pieces.{unit_of}
use Rattle.strc_elab_dataflow.specs.Pieces.{units_before, units_after, copy_units}
use Rattle.strc_fiss.specs.Laws.{piece_of, pieces_of, IsOwn, AreOwn}
use Rattle.strc_fiss.specs.Numbers.{up_to, is_dealt, base, parts_after}
use Rattle.strc_fiss.specs.Units.{units_of_parts, is_whole, renamed_unit, split_list}
use Rattle.strc_fiss.specs.Units.{split_unit, split_units}
use Rattle.strc_fiss.proofs.Joining.{both_true}

up_shift : {A : Type 0} (value : ℕ → A) (n : ℕ)
    → up_to value (suc n) ≡ value 0 ∷ up_to (λ k. value (suc k)) n
up_shift value zero = refl
up_shift value (suc n) = ap (λ l. l ++ value (suc n) ∷ []) (up_shift value n)

up_same : {A : Type 0} (one other : ℕ → A) (n : ℕ) → ((k : ℕ) → one k ≡ other k)
    → up_to one n ≡ up_to other n
up_same one other zero same = refl
up_same one other (suc n) same = ap₂ (λ l x. l ++ x ∷ []) (up_same one other n same) (same n)

module _ (share : ℕ → Fission) (fired : ℕ → ℕ) where
  copies_from : (v i left : ℕ) (later : List RoundUnit)
      → copy_units (parts_after share fired) v i left later
      ≡ up_to (λ k. unit_of (share v).firings (base share v + suc (i + k))) left ++ later
  copies_from v i zero later = refl
  copies_from v i (suc left) later =
      let at : ℕ → RoundUnit = λ n. unit_of (share v).firings (base share v + suc n) in
      let next : (k : ℕ) → at (suc i + k) ≡ at (i + suc k) = λ k.
      let e : suc i + k ≡ i + suc k = omega arith in ap at e in
      let first : i ≡ i + 0 = omega arith in
      ap (λ l. at i ∷ l) (copies_from v (suc i) left later)
      ∙ ap (λ l. at i ∷ (l ++ later)) (up_same (λ k. at (suc i + k))
      (λ k. at (i + suc k)) left next)
      ∙ ap (λ n. at n ∷ (up_to (λ k. at (i + suc k)) left ++ later)) first
      ∙ ap (λ l. l ++ later) (sym (up_shift (λ k. at (i + k)) left))

  all_copies : (v left : ℕ) (later : List RoundUnit)
      → copy_units (parts_after share fired) v 0 left later
      ≡ up_to (λ k. unit_of (share v).firings (base share v + suc k)) left ++ later
  all_copies v left later =
      let at : ℕ → RoundUnit = λ n. unit_of (share v).firings (base share v + suc n) in
      let same : (k : ℕ) → at (0 + k) ≡ at k = λ k. let e : 0 + k ≡ k = omega arith in ap at e in
      copies_from v 0 left later
      ∙ ap (λ l. l ++ later) (up_same (λ k. at (0 + k)) at left same)

  map_same : (nodes : List ℕ) → map (λ (u : ℕ). base share u + 0) nodes ≡ map (base share) nodes
  map_same [] = refl
  map_same (node ∷ nodes) =
      let e : base share node + 0 ≡ base share node = omega arith in
      ap₂ (λ n l. n ∷ l) e (map_same nodes)

  renamed_same : (turns : ℕ) (nodes : List ℕ)
      → pieces.renamed_unit (parts_after share fired) (record { turns = turns; nodes = nodes })
      ≡ renamed_unit share (record { turns = turns; nodes = nodes })
  renamed_same turns nodes =
      let with : List ℕ → RoundUnit = λ l. record { turns = turns; nodes = l } in
      ap with (map_same nodes)

  -- one piece before others
  piece_before : (turns : ℕ) (nodes : List ℕ) (rest : List Piece)
      → units_before (parts_after share fired) (piece_of share turns nodes ∷ rest)
      ≡ record { turns = turns; nodes = nodes } ∷ units_before (parts_after share fired) rest
  piece_before turns [] rest = refl
  piece_before turns (node ∷ []) rest = by_test (is_whole share turns node) refl
    where
      by_test : (t : Bool) → is_whole share turns node ≡ t
          → units_before (parts_after share fired) (cond t (Whole node)
          (Plain (record { turns = turns; nodes = node ∷ [] })) ∷ rest)
          ≡ record { turns = turns; nodes = node ∷ [] }
          ∷ units_before (parts_after share fired) rest
      by_test false e = refl
      by_test true e =
          let all = eqb-true turns ((share node).ways * (share node).firings)
          (both_true (is_dealt (share node))
          (eqb turns ((share node).ways * (share node).firings))
          e).1 in
          ap (λ n. unit_of n node ∷ units_before (parts_after share fired) rest) (sym all)
  piece_before turns (first ∷ (second ∷ more)) rest = refl

  piece_after : (turns : ℕ) (nodes : List ℕ) (rest : List Piece)
      → units_after (parts_after share fired) (piece_of share turns nodes ∷ rest)
      ≡ split_list share turns nodes ++ units_after (parts_after share fired) rest
  piece_after turns [] rest =
      ap (λ u. u ∷ units_after (parts_after share fired) rest) (renamed_same turns [])
  piece_after turns (node ∷ []) rest = by_test (is_whole share turns node)
    where
      later : List RoundUnit
      later = units_after (parts_after share fired) rest

      by_test : (t : Bool)
          → units_after (parts_after share fired) (cond t (Whole node)
          (Plain (record { turns = turns; nodes = node ∷ [] })) ∷ rest)
          ≡ cond t (units_of_parts share node)
          (renamed_unit share (record { turns = turns; nodes = node ∷ [] }) ∷ [])
          ++ units_after (parts_after share fired) rest
      by_test false =
          ap (λ u. u ∷ units_after (parts_after share fired) rest) (renamed_same turns (node ∷ []))
      by_test true =
          let number = base share node in
          let copies = up_to (λ k. unit_of (share node).firings (number + suc k)) (share node).ways
          in
          let last = unit_of 1 (number + suc (share node).ways) in
          let first : number + 0 ≡ number = omega arith in
          ap (λ n. unit_of 1 n ∷ copy_units (parts_after share fired) node 0 (share node).ways
          (last ∷ units_after (parts_after share fired) rest)) first
          ∙ ap (λ l. unit_of 1 number ∷ l)
          (all_copies node (share node).ways (last ∷ units_after (parts_after share fired) rest)
          ∙ sym (append_assoc copies (last ∷ []) (units_after (parts_after share fired) rest)))
  piece_after turns (first ∷ (second ∷ more)) rest =
      ap (λ u. u ∷ units_after (parts_after share fired) rest)
      (renamed_same turns (first ∷ second ∷ more))

  pub pieces_before : (units : List RoundUnit)
      → units_before (parts_after share fired) (pieces_of share units) ≡ units
  pieces_before [] = refl
  pieces_before (unit ∷ rest) =
      piece_before unit.turns unit.nodes (pieces_of share rest)
      ∙ ap (λ l. unit ∷ l) (pieces_before rest)

  pub pieces_after : (units : List RoundUnit)
      → units_after (parts_after share fired) (pieces_of share units) ≡ split_units share units
  pieces_after [] = refl
  pieces_after (unit ∷ rest) =
      piece_after unit.turns unit.nodes (pieces_of share rest)
      ∙ ap (λ l. split_unit share unit ++ l) (pieces_after rest)

  -- whether a node is split doesn't depend on how often it had fired
  kept_alike : (nodes : List ℕ) → AreKept (parts_after share (λ v. 0)) nodes
      → AreKept (parts_after share fired) nodes
  kept_alike [] kept = tt
  kept_alike (node ∷ nodes) kept = (kept.0, kept_alike nodes kept.1)

  piece_own : (turns : ℕ) (nodes : List ℕ) (rest : List Piece) → IsOwn share turns nodes
      → ArePieces (parts_after share fired) rest
      → ArePieces (parts_after share fired) (piece_of share turns nodes ∷ rest)
  piece_own turns [] rest own are = (tt, are)
  piece_own turns (node ∷ []) rest own are = by_test (is_whole share turns node) refl
    where
      by_test : (t : Bool) → is_whole share turns node ≡ t
          → ArePieces (parts_after share fired) (cond t (Whole node)
          (Plain (record { turns = turns; nodes = node ∷ [] })) ∷ rest)
      by_test true e = (
        (both_true (is_dealt (share node))
            (eqb turns ((share node).ways * (share node).firings)) e).0,
        are,
      )
      by_test false e = elim own [
        | inl whole ↦ absurd (true≢false (sym whole ∙ e))
        | inr kept ↦ (kept_alike (node ∷ []) kept, are)
      ]
  piece_own turns (first ∷ (second ∷ more)) rest own are =
      (kept_alike (first ∷ second ∷ more) own, are)

  pub pieces_own : (units : List RoundUnit) → AreOwn share units
      → ArePieces (parts_after share fired) (pieces_of share units)
  pieces_own [] own = tt
  pieces_own (unit ∷ rest) own =
      piece_own unit.turns unit.nodes (pieces_of share rest) own.0 (pieces_own rest own.1)
