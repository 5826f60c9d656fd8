-- Fusion after fission is fission after fusion.
use Rattle.std.proofs.Common.{◌≡◌, refl, sym, ap, ◌∙◌, subst, ℕ, zero, suc, ◌+◌, ◌≤◌}
use Rattle.std.proofs.Common.{Bool, true, false, List, [], ◌∷◌, ◌++◌, length, map, arith}
use mathlib.Core.Logic.{inl, inr}
use Rattle.std.proofs.lemmas.List.{map-append, length-map}
use Rattle.strc_elab_dataflow.specs.Fused.{repeated}
use Rattle.strc_elab_dataflow.specs.FusedUnits.{RoundUnit, joined_unit, AreFree, Joins, IsFused}
use Rattle.strc_elab_dataflow.specs.FusedUnits.{AreFused}
use Rattle.strc_elab_dataflow.specs.Split.{Parts, all_firings, outlet}
use Rattle.strc_elab_dataflow.specs.Pieces.{Piece, Piece.Plain, Piece.Whole, unit_of, units_before}
use Rattle.strc_elab_dataflow.specs.Pieces.{renamed_unit, copy_units, units_after, AreKept}
use Rattle.strc_elab_dataflow.specs.Pieces.{ArePieces}
use Rattle.strc_elab_dataflow.specs.Pieces.{IsFissionOfFused}
use Rattle.strc_elab_dataflow.proofs.RoundsParts.{outlet_split}

pub map_repeated : (f : ℕ → ℕ) (n : ℕ) (xs : List ℕ)
    → map f (repeated n xs) ≡ repeated n (map f xs)
map_repeated f zero xs = refl
map_repeated f (suc n) xs = map-append f xs (repeated n xs)
    ∙ ap (λ (l : List ℕ). map f xs ++ l) (map_repeated f n xs)

-- A unit that may not be fused stays as it is.
pub stays : (free : ℕ → Bool) (limit : ℕ) (unit : RoundUnit) (rest fused : List RoundUnit)
    → (AreFree free unit.nodes → ⊥) → IsFused free limit unit rest fused
    → (later : List RoundUnit) × (fused ≡ unit ∷ later) × AreFused free limit rest later
stays free limit unit [] fused fixed is = ([], is, refl)
stays free limit unit (next ∷ rest) fused fixed (inl (h, m, n, joins, is)) =
    absurd (fixed joins.first_free)
stays free limit unit (next ∷ rest) fused fixed (inr (apart, (later, same, is))) =
    (later, same, is)

module _ (parts : Parts) (free new_free : ℕ → Bool) (limit : ℕ)
    (same_free : (w : ℕ) → parts.is_split w ≡ false → new_free (parts.name w 0) ≡ free w)
    (split_fixed : (v : ℕ) → parts.is_split v ≡ true → free v ≡ false)
    (parts_fixed : (v k : ℕ) → parts.is_split v ≡ true → k ≤ outlet parts v
    → new_free (parts.name v k) ≡ false) where
  abbrev rename : ℕ → ℕ
  rename u = parts.name u 0

  to_new : (nodes : List ℕ) → AreKept parts nodes → AreFree free nodes
      → AreFree new_free (map rename nodes)
  to_new [] kept is = tt
  to_new (node ∷ nodes) kept is =
      (same_free node kept.0 ∙ is.0, to_new nodes kept.1 is.1)

  to_old : (nodes : List ℕ) → AreKept parts nodes → AreFree new_free (map rename nodes)
      → AreFree free nodes
  to_old [] kept is = tt
  to_old (node ∷ nodes) kept is =
      (sym (same_free node kept.0) ∙ is.0, to_old nodes kept.1 is.1)

  -- The joined list under the new numbers.
  renamed_nodes : (m n : ℕ) (unit next : RoundUnit)
      → map rename (repeated m unit.nodes ++ repeated n next.nodes)
      ≡ repeated m (map rename unit.nodes) ++ repeated n (map rename next.nodes)
  renamed_nodes m n unit next =
      map-append rename (repeated m unit.nodes) (repeated n next.nodes)
      ∙ ap (λ (l : List ℕ). l ++ map rename (repeated n next.nodes))
      (map_repeated rename m unit.nodes)
      ∙ ap (λ (l : List ℕ). repeated m (map rename unit.nodes) ++ l)
      (map_repeated rename n next.nodes)

  renamed_length : (m n : ℕ) (unit next : RoundUnit)
      → length (repeated m (map rename unit.nodes) ++ repeated n (map rename next.nodes))
      ≡ length (repeated m unit.nodes ++ repeated n next.nodes)
  renamed_length m n unit next = ap length (sym (renamed_nodes m n unit next))
      ∙ length-map (repeated m unit.nodes ++ repeated n next.nodes) rename

  joins_old : (unit next : RoundUnit) (h m n : ℕ) → AreKept parts unit.nodes
      → AreKept parts next.nodes
      → Joins new_free limit (renamed_unit parts unit) (renamed_unit parts next) h m n
      → Joins free limit unit next h m n
  joins_old unit next h m n unit_kept next_kept joins = record {
    divides = joins.divides;
    first_turns = joins.first_turns;
    second_turns = joins.second_turns;
    first_free = to_old unit.nodes unit_kept joins.first_free;
    second_free = to_old next.nodes next_kept joins.second_free;
    short = omega (arith, joins.short, renamed_length m n unit next);
  }

  joins_new : (unit next : RoundUnit) (h m n : ℕ) → AreKept parts unit.nodes
      → AreKept parts next.nodes → Joins free limit unit next h m n
      → Joins new_free limit (renamed_unit parts unit) (renamed_unit parts next) h m n
  joins_new unit next h m n unit_kept next_kept joins = record {
    divides = joins.divides;
    first_turns = joins.first_turns;
    second_turns = joins.second_turns;
    first_free = to_new unit.nodes unit_kept joins.first_free;
    second_free = to_new next.nodes next_kept joins.second_free;
    short = omega (arith, joins.short, renamed_length m n unit next);
  }

  kept_append : (xs ys : List ℕ) → AreKept parts xs → AreKept parts ys → AreKept parts (xs ++ ys)
  kept_append [] ys x y = y
  kept_append (node ∷ xs) ys x y = (x.0, kept_append xs ys x.1 y)

  kept_repeated : (n : ℕ) (xs : List ℕ) → AreKept parts xs → AreKept parts (repeated n xs)
  kept_repeated zero xs kept = tt
  kept_repeated (suc n) xs kept =
      kept_append xs (repeated n xs) kept (kept_repeated n xs kept)

  not_free : (v k turns : ℕ) → parts.is_split v ≡ true → k ≤ outlet parts v
      → AreFree new_free (unit_of turns (parts.name v k)).nodes → ⊥
  not_free v k turns split less are =
      let e : true ≡ false = sym are.0 ∙ parts_fixed v k split less in grind arith

  -- The copies stay as they are.
  copies_stay : (v : ℕ) → parts.is_split v ≡ true → (left i : ℕ) (later fused : List RoundUnit)
      → i + left ≡ (parts.share v).ways
      → AreFused new_free limit (copy_units parts v i left later) fused
      → (rest : List RoundUnit) × (fused ≡ copy_units parts v i left rest)
      × AreFused new_free limit later rest
  copies_stay v split zero i later fused sum is = (fused, refl, is)
  copies_stay v split (suc left) i later fused sum is =
      let one = stays new_free limit (unit_of (parts.share v).firings (parts.name v (suc i)))
      (copy_units parts v (suc i) left later) fused
      (not_free v (suc i) (parts.share v).firings split
      (omega (arith, outlet_split parts v split, sum))) is in
      let others = copies_stay v split left (suc i) later one.0 (omega (arith, sum)) one.2 in (
        others.0,
        one.1 ∙ ap (λ (l : List RoundUnit).
            unit_of (parts.share v).firings (parts.name v (suc i)) ∷ l) others.1,
        others.2,
      )

  -- What fusion makes of units that come from these pieces, and of a unit before them.
  abbrev Kept : (old fused : List RoundUnit) → Type 0
  Kept = IsFissionOfFused parts free limit

  record AreBoth (pieces : List Piece) : Type 0 where
    alone : (fused : List RoundUnit) → AreFused new_free limit (units_after parts pieces) fused
        → Kept (units_before parts pieces) fused
    after : (unit : RoundUnit) → AreKept parts unit.nodes → (fused : List RoundUnit)
        → IsFused new_free limit (renamed_unit parts unit) (units_after parts pieces) fused
        → Kept (unit ∷ units_before parts pieces) fused

  -- A unit that doesn't join the next.
  before_others : (unit next : RoundUnit) (rest fused later : List RoundUnit)
      → AreKept parts unit.nodes → ((h m n : ℕ) → ¬ Joins free limit unit next h m n)
      → fused ≡ renamed_unit parts unit ∷ later → Kept (next ∷ rest) later
      → Kept (unit ∷ next ∷ rest) fused
  before_others unit next rest fused later kept apart same others = record {
    pieces = Plain unit ∷ others.pieces;
    are = (kept, others.are);
    after = same ∙ ap (λ (l : List RoundUnit). renamed_unit parts unit ∷ l) others.after;
    before = inr (apart, (units_before parts others.pieces, refl, others.before));
  }

  joined_same : (h m n : ℕ) (unit next : RoundUnit)
      → joined_unit h m n (renamed_unit parts unit) (renamed_unit parts next)
      ≡ renamed_unit parts (joined_unit h m n unit next)
  joined_same h m n unit next = ap {A = List ℕ} {B = RoundUnit}
      (λ l. record { turns = h; nodes = l }) (sym (renamed_nodes m n unit next))

  plain_after : (unit next : RoundUnit) (rest : List Piece) → AreKept parts unit.nodes
      → AreKept parts next.nodes → AreBoth rest → (fused : List RoundUnit)
      → IsFused new_free limit (renamed_unit parts unit)
      (renamed_unit parts next ∷ units_after parts rest) fused
      → Kept (unit ∷ next ∷ units_before parts rest) fused
  plain_after unit next rest kept next_kept ih fused (inl (h, m, n, joins, is)) =
      let goes_on = ih.after (joined_unit h m n unit next)
      (kept_append (repeated m unit.nodes) (repeated n next.nodes)
      (kept_repeated m unit.nodes kept) (kept_repeated n next.nodes next_kept)) fused
      (subst (λ (u : RoundUnit). IsFused new_free limit u (units_after parts rest) fused)
      (joined_same h m n unit next) is) in
      record {
        pieces = goes_on.pieces;
        are = goes_on.are;
        after = goes_on.after;
        before = inl (h, m, n, joins_old unit next h m n kept next_kept joins, goes_on.before);
      }
  plain_after unit next rest kept next_kept ih fused (inr (apart, (later, same, is))) =
      before_others unit next (units_before parts rest) fused later kept
      (λ h m n joins. apart h m n (joins_new unit next h m n kept next_kept joins)) same
      (ih.after next next_kept later is)

  -- A node that is split.
  module _ (v : ℕ) (split : parts.is_split v ≡ true) where
    abbrev ways : ℕ
    ways = (parts.share v).ways

    abbrev whole : RoundUnit
    whole = unit_of (all_firings (parts.share v)) v

    whole_fixed : AreFree free whole.nodes → ⊥
    whole_fixed are =
        let e : true ≡ false = sym are.0 ∙ split_fixed v split in grind arith

    whole_before : (rest fused : List RoundUnit) → AreFused free limit rest fused
        → IsFused free limit whole rest (whole ∷ fused)
    whole_before [] fused is = ap (λ (l : List RoundUnit). whole ∷ l) is
    whole_before (next ∷ rest) fused is =
        inr (λ h m n joins. whole_fixed joins.first_free, (fused, refl, is))

    whole_alone : (rest : List Piece) → AreBoth rest → (fused : List RoundUnit)
        → AreFused new_free limit (units_after parts (Whole v ∷ rest)) fused
        → Kept (whole ∷ units_before parts rest) fused
    whole_alone rest ih fused is =
        let last = outlet_split parts v split in
        let gather = unit_of 1 (parts.name v (suc ways)) in
        let scatter = stays new_free limit (unit_of 1 (parts.name v 0))
        (copy_units parts v 0 ways (gather ∷ units_after parts rest)) fused
        (not_free v 0 1 split (omega arith)) is in
        let copies = copies_stay v split ways 0 (gather ∷ units_after parts rest) scatter.0
        (omega arith) scatter.2 in
        let gathers = stays new_free limit gather (units_after parts rest) copies.0
        (not_free v (suc ways) 1 split (omega (arith, last))) copies.2 in
        let others = ih.alone gathers.0 gathers.2 in
        record {
          pieces = Whole v ∷ others.pieces;
          are = (split, others.are);
          after = scatter.1
              ∙ ap (λ (l : List RoundUnit). unit_of 1 (parts.name v 0) ∷ l)
              (copies.1 ∙ ap (copy_units parts v 0 ways)
              (gathers.1 ∙ ap (λ (l : List RoundUnit). gather ∷ l) others.after));
          before = whole_before (units_before parts rest) (units_before parts others.pieces)
              others.before;
        }

    whole_after : (unit : RoundUnit) (rest : List Piece) → AreKept parts unit.nodes
        → AreBoth rest → (fused : List RoundUnit)
        → IsFused new_free limit (renamed_unit parts unit) (units_after parts
        (Whole v ∷ rest)) fused
        → Kept (unit ∷ whole ∷ units_before parts rest) fused
    whole_after unit rest kept ih fused (inl (h, m, n, joins, is)) =
        absurd (not_free v 0 1 split (omega arith) joins.second_free)
    whole_after unit rest kept ih fused (inr (apart, (later, same, is))) =
        before_others unit whole (units_before parts rest) fused later kept
        (λ h m n joins. whole_fixed joins.second_free) same (whole_alone rest ih later is)

  both : (pieces : List Piece) → ArePieces parts pieces → AreBoth pieces
  both [] are = record {
    alone = λ fused is. record { pieces = []; are = tt; after = is; before = refl };
    after = λ unit kept fused is.
        record { pieces = Plain unit ∷ []; are = (kept, tt); after = is; before = refl };
  }
  both (Plain next ∷ rest) are =
      let ih = both rest are.1 in record {
        alone = λ fused is. ih.after next are.0 fused is;
        after = λ unit kept fused is. plain_after unit next rest kept are.0 ih fused is;
      }
  both (Whole v ∷ rest) are =
      let ih = both rest are.1 in record {
        alone = λ fused is. whole_alone v are.0 rest ih fused is;
        after = λ unit kept fused is. whole_after v are.0 unit rest kept ih fused is;
      }

  pub pieces_kept : (pieces : List Piece) (fused : List RoundUnit) → ArePieces parts pieces
      → AreFused new_free limit (units_after parts pieces) fused
      → IsFissionOfFused parts free limit (units_before parts pieces) fused
  pieces_kept pieces fused are is = (both pieces are).alone fused is
