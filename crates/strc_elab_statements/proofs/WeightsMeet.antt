-- Weights that are dealt meet what the streams at the ports have.
use Rattle.std.proofs.Common.{◌≡◌, ℕ, zero, suc, ℤ, pos, negsuc, Bool, true, false, cond, nat_lt}
use Rattle.std.proofs.Common.{List, [], ◌∷◌, map, Option, Some, None, option_map, Ok, Result}
use Rattle.std.proofs.Common.{refl, sym, ap, ◌∙◌, subst, ◌<◌, arith}
use Rattle.std.proofs.lemmas.Bool.{lt-ltb}
use Rattle.std.specs.Int.RustNames.{int_lt}
use Rattle.std.specs.List.{list_any}
use Rattle.strc_parse_tree.specs.declared.tree.ItemType.{ItemType}
use Rattle.strc_parse_tree.specs.declared.tree.ItemType.TheVariants as item
use Rattle.strc_elab_statements.specs.declared.weights.TheConstants.{WEIGHT_LIMIT}
use Rattle.strc_elab_graph.specs.Graphs.{SplitterCode, Duplicate, Roundrobin}
use Rattle.strc_elab_statements.specs.declared.error.ElabError.{ElabError}
use Rattle.strc_elab_statements.specs.Weights.{Split, ToEach, InTurn, port_weight, put_before}
use Rattle.strc_elab_statements.specs.Weights.{port_weights}
use Rattle.strc_elab_statements.specs.Weights.{written_out, weights_for, weighted, splitter_for}
use Rattle.strc_elab_statements.specs.Weights.{where_some}
use Rattle.strc_elab_statements.specs.Weights.{split_dealt, join_dealt, outer_side, loop_weights}
use Rattle.strc_elab_statements.specs.Weights.{loop_splitter}
use Rattle.strc_elab_statements.specs.Sides.{any_side}
use Rattle.strc_elab_stream.specs.Types.{is_int, side, side_at, splitter_carried, joiner_carried}
use Rattle.strc_elab_stream.specs.Types.{IsSplit, IsJoined, ComesBack}

some_same : {A : Type 0} (x y : A) → Some x ≡ Some y → x ≡ y
some_same x y e = cc

-- a weight above 0 is where there are items
port_meets : (weight : ℤ) (side : ItemType) (found : ℕ) → port_weight weight side ≡ Some found
    → nat_lt 0 found ≡ is_int side
port_meets (pos zero) item.Int found e = absurd (cc)
port_meets (pos zero) item.Void found e = ap (nat_lt 0) (sym (some_same 0 found e))
port_meets (pos (suc weight)) item.Int found e = by_limit (int_lt WEIGHT_LIMIT (pos (suc weight))) e
  where
    by_limit : (over : Bool) → cond over None (Some (suc weight)) ≡ Some found
        → nat_lt 0 found ≡ true
    by_limit true e = absurd (cc)
    by_limit false e =
        let some : 0 < suc weight = omega arith in
        ap (nat_lt 0) (sym (some_same (suc weight) found e)) ∙ lt-ltb 0 (suc weight) some
port_meets (pos (suc weight)) item.Void found e = absurd (cc)
port_meets (negsuc weight) item.Int found e = absurd (cc)
port_meets (negsuc weight) item.Void found e = absurd (cc)

both_put : (first : Option ℕ) (rest : Option (List ℕ)) (all : List ℕ)
    → put_before first rest ≡ Some all
    → (x : ℕ) × (xs : List ℕ) × (first ≡ Some x) × (rest ≡ Some xs) × (all ≡ x ∷ xs)
both_put (Some x) (Some xs) all e = (x, xs, refl, refl, sym (some_same (x ∷ xs) all e))
both_put (Some x) None all e = absurd (cc)
both_put None rest all e = absurd (cc)

pub ports_meet : (weights : List ℤ) (sides : List ItemType) (dealt : List ℕ)
    → port_weights weights sides ≡ Some dealt → map (nat_lt 0) dealt ≡ map is_int sides
ports_meet [] [] dealt e = ap (map (nat_lt 0)) (sym (some_same [] dealt e))
ports_meet [] (side ∷ sides) dealt e = absurd (cc)
ports_meet (weight ∷ weights) [] dealt e = absurd (cc)
ports_meet (weight ∷ weights) (side ∷ sides) dealt e =
    let put = both_put (port_weight weight side) (port_weights weights sides) dealt e in
    ap (map (nat_lt 0)) put.4
    ∙ ap (λ (l : List Bool). nat_lt 0 put.0 ∷ l) (ports_meet weights sides put.1 put.3)
    ∙ ap (λ (b : Bool). b ∷ map is_int sides) (port_meets weight side put.0 put.2)

pub weights_meet : (weights : List ℤ) (sides : List ItemType) (dealt : List ℕ)
    → weights_for weights sides ≡ Some dealt → joiner_carried dealt ≡ map is_int sides
weights_meet weights sides dealt e = ports_meet (written_out weights sides) sides dealt e

splitter_meets : (split : Split) (sides : List ItemType) (splitter : SplitterCode)
    → splitter_for split sides ≡ Some splitter → splitter_carried splitter ≡ map is_int sides
splitter_meets ToEach sides splitter e =
    ap splitter_carried (sym (some_same (Duplicate (map is_int sides)) splitter e))
splitter_meets (InTurn weights) sides splitter e = by_weights (weights_for weights sides) refl e
  where
    by_weights : (dealt : Option (List ℕ)) → weights_for weights sides ≡ dealt
        → option_map Roundrobin dealt ≡ Some splitter → splitter_carried splitter ≡ map is_int sides
    by_weights None is e = absurd (cc)
    by_weights (Some ws) is e =
        ap splitter_carried (sym (some_same (Roundrobin ws) splitter e))
        ∙ weights_meet weights sides ws is

ok_same : {A : Type 0} (x y : A) → ◌≡◌ {A = Result A ElabError} (Ok x) (Ok y) → x ≡ y
ok_same x y e = cc

-- what is weighted is there
pub weighted_is : {A : Type 0} (declaration : ℕ) (dealt : Option A) (found : A)
    → weighted declaration dealt ≡ Ok found → dealt ≡ Some found
weighted_is declaration None found e = absurd (cc)
weighted_is declaration (Some x) found e = ap (λ y. Some y) (ok_same x found e)

-- what is dealt in a split-join is there where one of the streams has items
abbrev pub DealtWhere : {A : Type 0} → List ItemType → Option A → Option A → Type 0
DealtWhere sides dealt None = list_any is_int sides ≡ false
DealtWhere sides dealt (Some found) = (list_any is_int sides ≡ true) × (dealt ≡ Some found)

where_some_is : {A : Type 0} (declaration : ℕ) (sides : List ItemType) (dealt answer : Option A)
    → where_some declaration sides dealt ≡ Ok answer → DealtWhere sides dealt answer
where_some_is {A} declaration sides dealt answer e = by_some (list_any is_int sides) refl e
  where
    by_dealt : (d a : Option A) → dealt ≡ d → list_any is_int sides ≡ true
        → weighted declaration (option_map (λ x. Some x) d) ≡ Ok a → DealtWhere sides dealt a
    by_dealt None a same some e = absurd (cc)
    by_dealt (Some x) a same some e =
        subst (DealtWhere sides dealt) (ok_same (Some x) a e) (some, same)

    by_some : (b : Bool) → list_any is_int sides ≡ b
        → cond b (weighted declaration (option_map (λ x. Some x) dealt)) (Ok None) ≡ Ok answer
        → DealtWhere sides dealt answer
    by_some true some e = by_dealt dealt answer refl some e
    by_some false none e = subst (DealtWhere sides dealt) (ok_same None answer e) none

-- the splitter of a split-join
pub split_is : (declaration : ℕ) (split : Split) (sides : List ItemType)
    (answer : Option SplitterCode) → split_dealt declaration split sides ≡ Ok answer
    → IsSplit answer sides × (side_at answer ≡ any_side sides)
split_is declaration split sides answer e =
    by_answer answer (where_some_is declaration sides (splitter_for split sides) answer e)
  where
    by_answer : (a : Option SplitterCode) → DealtWhere sides (splitter_for split sides) a
        → IsSplit a sides × (side_at a ≡ any_side sides)
    by_answer None none = (none, ap side (sym none))
    by_answer (Some found) h = (
      record { meets = splitter_meets split sides found h.1; some = h.0 },
      ap side (sym h.0),
    )

-- the joiner of a split-join
pub join_is : (declaration : ℕ) (weights : List ℤ) (sides : List ItemType)
    (answer : Option (List ℕ)) → join_dealt declaration weights sides ≡ Ok answer
    → IsJoined answer sides × (side_at answer ≡ any_side sides)
join_is declaration weights sides answer e =
    by_answer answer (where_some_is declaration sides (weights_for weights sides) answer e)
  where
    by_answer : (a : Option (List ℕ)) → DealtWhere sides (weights_for weights sides) a
        → IsJoined a sides × (side_at a ≡ any_side sides)
    by_answer None none = (none, ap side (sym none))
    by_answer (Some found) h = (
      record { meets = weights_meet weights sides found h.1; some = h.0 },
      ap side (sym h.0),
    )

-- the joiner of a feedback loop takes items from the loop
pub loop_joins : (written : ItemType) (weights : List ℤ) (dealt : List ℕ)
    → loop_weights written weights ≡ Some dealt → ComesBack (joiner_carried dealt)
loop_joins written weights dealt e = record {
  outer = is_int (outer_side written weights);
  ports = weights_meet weights (outer_side written weights ∷ item.Int ∷ []) dealt e;
}

-- its splitter gives items to the loop
pub loop_splits : (written : ItemType) (split : Split) (splitter : SplitterCode)
    → loop_splitter written split ≡ Some splitter → ComesBack (splitter_carried splitter)
loop_splits written ToEach splitter e = record {
  outer = is_int written;
  ports = ap splitter_carried (sym (some_same
      (Duplicate (is_int written ∷ true ∷ [])) splitter e));
}
loop_splits written (InTurn weights) splitter e = by_weights (loop_weights written weights) refl e
  where
    by_weights : (dealt : Option (List ℕ)) → loop_weights written weights ≡ dealt
        → option_map Roundrobin dealt ≡ Some splitter → ComesBack (splitter_carried splitter)
    by_weights None is e = absurd (cc)
    by_weights (Some ws) is e =
        subst (λ (s : SplitterCode). ComesBack (splitter_carried s))
        (some_same (Roundrobin ws) splitter e) (loop_joins written weights ws is)
