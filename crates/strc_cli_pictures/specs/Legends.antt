-- What the styles of a picture mean.
use Rattle.std.specs.Prelude.{ℕ, Bool, true, false, ◌||◌, if◌then◌else◌, List, [], ◌++◌}
use Rattle.std.specs.Prelude.{codes}

-- the lines around what is told
abbrev pub legend_open : List ℕ
legend_open = codes "  subgraph cluster_legend {\n  label=\"legend\";\n"
    ++ codes "  legend [shape=plaintext, label=\""

abbrev pub legend_close : List ℕ
legend_close = codes "\"];\n  }\n"

-- what is told of a picture in stages
abbrev pub stage_legend : List ℕ
stage_legend =
    legend_open ++ codes "bold arrow: goes from one stage to another\\l"
    ++ codes "trapezium: deals items to the copies of a filter\\l"
    ++ codes "box in 3D: one of these copies\\l"
    ++ codes "trapezium upside down: takes up what they give\\l"
    ++ codes "box in a stage: fires in turn, so many times a round\\l" ++ legend_close

abbrev pub folded_words : (is_folded : Bool) → List ℕ
folded_words false = []
folded_words true = codes "box with two tabs: a composite stream, its nodes not drawn\\l"

abbrev pub share_words : (has_shares : Bool) → List ℕ
share_words false = []
share_words true = codes "red: the more of the time, the deeper\\l"

-- of one with folded composite streams or with shares of the time
abbrev pub meanings : (is_folded has_shares : Bool) → List ℕ
meanings is_folded has_shares =
    legend_open ++ folded_words is_folded ++ share_words has_shares ++ legend_close

-- of one that may have neither
abbrev pub legend : (is_folded has_shares : Bool) → List ℕ
legend is_folded has_shares =
    if is_folded || has_shares then meanings is_folded has_shares else []
