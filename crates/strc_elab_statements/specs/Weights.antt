-- Weights of splitters and joiners (StreamIt specification 2.1, "Split-joins", "Feedback loops"):
-- as they are written, and which they are for what the streams at the ports take or give.
use Rattle.std.specs.Prelude.{ℕ, zero, suc, ℤ, pos, true}
use Rattle.std.specs.Prelude.{List, []}
use Rattle.std.specs.Prelude.{◌∷◌, map, Option, Some, None, Result, Ok, Err, if◌then◌else◌}
use Rattle.std.specs.Int.RustNames.{int_lt}
use Rattle.std.specs.List.{list_any}
use Rattle.std.specs.Option.{option_map}
use Rattle.strc_parse_tree.specs.declared.tree.ItemType.{ItemType}
use Rattle.strc_parse_tree.specs.declared.tree.ItemType.TheVariants as item
use Rattle.strc_parse_tree.specs.declared.tree.StreamType.{StreamType}
use Rattle.strc_elab_statements.specs.declared.weights.TheConstants.{WEIGHT_LIMIT}
use Rattle.strc_elab_graph.specs.Graphs.{SplitterCode, Duplicate, Roundrobin}
use Rattle.strc_elab_statements.specs.declared.error.ElabError.{ElabError}
use Rattle.strc_elab_statements.specs.declared.error.ElabErrorKind.TheVariants as refused
use Rattle.strc_elab_stream.specs.Types.{is_int}

-- a `split` whose weights are evaluated; no weights are written as an empty list
pub data Split : Type 0 where
  ToEach : Split
  InTurn : (weights : List ℤ) → Split

-- the weight of a port at which a stream has items: at least 1, and within the limit; of one at
-- which it has none: 0
abbrev pub port_weight : ℤ → ItemType → Option ℕ
port_weight (pos (suc weight)) item.Int =
    if int_lt WEIGHT_LIMIT (pos (suc weight)) then None else Some (suc weight)
port_weight (pos zero) item.Void = Some 0
port_weight weight side = None

abbrev pub put_before : Option ℕ → Option (List ℕ) → Option (List ℕ)
put_before (Some first) (Some rest) = Some (first ∷ rest)
put_before first rest = None

-- one for each port
abbrev pub port_weights : List ℤ → List ItemType → Option (List ℕ)
port_weights [] [] = Some []
port_weights (weight ∷ weights) (side ∷ sides) =
    put_before (port_weight weight side) (port_weights weights sides)
port_weights weights sides = None

-- this weight for each port at which a stream has items
abbrev pub for_each : ℤ → List ItemType → List ℤ
for_each weight sides = map (λ side. if is_int side then weight else pos 0) sides

-- what is written says of each port: without weights 1, one weight for all, or each by itself
abbrev pub written_out : List ℤ → List ItemType → List ℤ
written_out [] sides = for_each (pos 1) sides
written_out (weight ∷ []) sides = for_each weight sides
written_out weights sides = weights

-- the weights of ports for what the streams at them have
abbrev pub weights_for : List ℤ → List ItemType → Option (List ℕ)
weights_for weights sides = port_weights (written_out weights sides) sides

-- or the refusal, reported of the declaration that holds them
abbrev pub weighted : {A : Type 0} → (declaration : ℕ) → Option A → Result A ElabError
weighted declaration None = Err (refused.BadWeights declaration)
weighted declaration (Some weights) = Ok weights

-- the splitter of a split-join whose children take this; without items it isn't there, and its
-- weights aren't looked at
abbrev pub splitter_for : Split → List ItemType → Option SplitterCode
splitter_for ToEach sides = Some (Duplicate (map is_int sides))
splitter_for (InTurn weights) sides = option_map Roundrobin (weights_for weights sides)

abbrev pub where_some : {A : Type 0} → (declaration : ℕ) → List ItemType → Option A
    → Result (Option A) ElabError
where_some declaration sides dealt =
    if list_any is_int sides
    then weighted declaration (option_map (λ code. Some code) dealt) else Ok None

abbrev pub split_dealt : (declaration : ℕ) → Split → List ItemType
    → Result (Option SplitterCode) ElabError
split_dealt declaration split sides = where_some declaration sides (splitter_for split sides)

-- the joiner of a split-join whose children give this
abbrev pub join_dealt : (declaration : ℕ) → List ℤ → List ItemType
    → Result (Option (List ℕ)) ElabError
join_dealt declaration weights sides = where_some declaration sides (weights_for weights sides)

-- feedback loops

-- what a loop's type is written to have on a side; one without a type is taken to have items
abbrev pub input_written : Option StreamType → ItemType
input_written None = item.Int
input_written (Some written) = written.input

abbrev pub output_written : Option StreamType → ItemType
output_written None = item.Int
output_written (Some written) = written.output

-- what comes to the outer port: where both weights are listed the first one tells, else what is
-- written
abbrev pub outer_side : ItemType → List ℤ → ItemType
outer_side written (pos zero ∷ second ∷ []) = item.Void
outer_side written (first ∷ second ∷ []) = item.Int
outer_side written weights = written

-- the weights of the outer port and of the port to the loop
abbrev pub loop_weights : ItemType → List ℤ → Option (List ℕ)
loop_weights written weights = weights_for weights (outer_side written weights ∷ item.Int ∷ [])

abbrev pub loop_splitter : ItemType → Split → Option SplitterCode
loop_splitter written ToEach = Some (Duplicate (is_int written ∷ true ∷ []))
loop_splitter written (InTurn weights) = option_map Roundrobin (loop_weights written weights)
