-- The text of a program.
use Rattle.std.specs.Prelude.{◌≡◌, ℕ, zero, suc, ◌==◌, ℤ, List, [], ◌∷◌, ◌++◌, length, codes}
use Rattle.std.specs.Prelude.{decimal}
use Rattle.std.specs.Prelude.{slice_get, slice_index, Option, Some, None, IfSome, Ok}
use Rattle.std.specs.Prelude.{if◌then◌else◌}
use Rattle.strc_parse_tree.specs.declared.tree.FilterTree.{FilterTree}
use Rattle.strc_work_meaning.specs.Filters.{filter_of}
use Rattle.strc_work_meaning.specs.Firing.{started}
use Rattle.strc_elab_graph.specs.declared.graph.Node.{Node}
use Rattle.strc_elab_graph.specs.declared.graph.Node.TheVariants as node
use Rattle.strc_elab_graph.specs.Graphs.{gives_words, reads_input, node_name}
use Rattle.strc_elab_graph.specs.NodeView.{node_view}
use Rattle.strc_sched_orders.specs.Schedules.{ScheduleParts}
use Rattle.strc_emit_text.specs.Texts.{texts_below}
use Rattle.strc_emit_filter.specs.Filters.{IsFilterText, rates_text}
use Rattle.strc_emit_moves.specs.declared.places.Network.{Network}
use Rattle.strc_emit_moves.specs.declared.places.Phase.TheVariants as phase
use Rattle.strc_emit_moves.specs.Rooms.{array_text}
use Rattle.strc_emit_operators.specs.Spelling.{operators_text}
use Rattle.strc_emit_program.specs.Fires.{fires_text}
use Rattle.strc_emit_program.specs.Orders.{order_text}
use Rattle.strc_emit_program.specs.declared.fixed.TheConstants as fixed

-- a text is of the texts of the numbers below one, one after another, each of which is as it should
-- be
abbrev pub AreTexts : (IsText : ℕ → List ℕ → Type 0) → (count : ℕ) → List ℕ → Type 0
AreTexts IsText zero text = text ≡ []
AreTexts IsText (suc count) text = (before : List ℕ) × (last : List ℕ)
    × AreTexts IsText count before × IsText count last × (text ≡ before ++ last)

-- the functions of a filter's bodies, and its fields as they are after its start
abbrev pub IsStartedText : (number : ℕ) → FilterTree → List ℕ → Type 0
IsStartedText number filter text = (values : List ℤ) × (started (filter_of filter) ≡ Ok values)
    × IsFilterText number filter values text

-- a filter's rates end the line, and then come its bodies
abbrev pub IsBodiesText : (number : ℕ) → Node → List ℕ → Type 0
IsBodiesText number (node.Filter instance) text = (bodies : List ℕ)
    × IsStartedText number instance.code bodies
    × (text ≡ codes ":" ++ rates_text instance.code ++ codes "\n" ++ bodies)
IsBodiesText number _ text = text ≡ codes "\n"

-- the function of a node's firings before the first round, where there are some
abbrev pub startup_text : Network → (number : ℕ) → Node → List ℕ
startup_text network number code = if slice_index network.startup.now number == 0 then []
    else fires_text network phase.Startup number code

-- a node's functions, after its number, its name and its rates
abbrev pub IsNodeText : Network → (number : ℕ) → (name : List ℕ) → Node → List ℕ → Type 0
IsNodeText network number name code text = (bodies : List ℕ) × IsBodiesText number code bodies
    × (text ≡ codes "\n// Node " ++ decimal number ++ codes ", " ++ name ++ bodies
    ++ startup_text network number code ++ fires_text network phase.Round number code)

-- those of the node of a number
abbrev pub IsNumbered : Network → (number : ℕ) → List ℕ → Type 0
IsNumbered network number text = IfSome (slice_get network.nodes.now number)
    (λ code. IsNodeText network number (node_name (node_view code)) code text)

-- the first node that takes the program's input, where the first of these nodes has this number
abbrev pub reader_from : (number : ℕ) → List Node → Option ℕ
reader_from number [] = None
reader_from number (code ∷ rest) =
    if reads_input (node_view code) then Some number else reader_from (suc number) rest

-- whether a program reads, and how many items before the first round and in each
abbrev pub reads_text : (reads before each : ℕ) → List ℕ
reads_text reads before each =
    codes "enum { READS = " ++ decimal reads ++ codes ", READS_BEFORE = " ++ decimal before
    ++ codes ", READS_A_ROUND = " ++ decimal each ++ codes " };\n"

abbrev pub reader_text : Network → Option ℕ → List ℕ
reader_text network None = reads_text 0 0 0
reader_text network (Some reader) = reads_text 1 (slice_index network.startup.now reader)
    (slice_index network.round.now reader)

-- the numbers of a program: of its nodes, and of the items that it reads
abbrev pub numbers_text : Network → List ℕ
numbers_text network =
    codes "enum { NODES = " ++ decimal (length network.nodes.now) ++ codes " };\n"
    ++ reader_text network (reader_from 0 network.nodes.now)

-- `{3, "P"},`
abbrev pub tape_line : (number : ℕ) → (name : List ℕ) → List ℕ
tape_line number name =
    codes "    {" ++ decimal number ++ codes ", \"" ++ name ++ codes "\"},\n"

-- a line for a node that gives words
abbrev pub tape_text : (number : ℕ) → Node → List ℕ
tape_text number code = if gives_words (node_view code)
    then tape_line number (node_name (node_view code)) else []

abbrev pub tape_of : (number : ℕ) → Option Node → List ℕ
tape_of number None = []
tape_of number (Some code) = tape_text number code

abbrev pub tape_at : List Node → (number : ℕ) → List ℕ
tape_at nodes number = tape_of number (slice_get nodes number)

-- the nodes of tapes, with their names
abbrev pub tapes_text : List Node → List ℕ
tapes_text nodes =
    codes "static const struct {\n    uint32_t node;\n    const char *name;\n"
    ++ codes "} tape_nodes[] = {\n" ++ texts_below (tape_at nodes) (length nodes)
    ++ codes "    {0, \"\"},\n};\n"
    ++ codes "enum { TAPES = sizeof tape_nodes / sizeof *tape_nodes - 1 };\n"

-- what each program begins with, what the functions of nodes call, and what each ends with
abbrev pub head_text : List ℕ
head_text = fixed.HEAD.now

abbrev pub helpers_text : List ℕ
helpers_text =
    fixed.STATE.now
    ++ (operators_text ++ (fixed.MOVES.now
    ++ (fixed.WORDS.now ++ codes "\n// The items of channels.\n")))

-- start-up and so many rounds: the words before a round stay where it faults
abbrev pub run_text : List ℕ
run_text =
    codes "// Start-up, and so many rounds.\nstatic APART void run(uint32_t rounds) {\n"
    ++ codes "    start_up();\n    in_round = 1;\n"
    ++ codes "    for (round_number = 0; round_number < rounds; round_number++) {\n"
    ++ codes "        keep_words();\n        one_round();\n    }\n}\n"

abbrev pub main_text : List ℕ
main_text = fixed.INPUT.now ++ fixed.SERVED.now ++ run_text ++ fixed.MAIN.now

-- what is before the functions of nodes
abbrev pub start_text : Network → List ℕ
start_text network =
    head_text ++ numbers_text network ++ tapes_text network.nodes.now ++ helpers_text
    ++ texts_below (array_text network) (length network.channels.now)

-- what is after them: the orders, and what calls them
abbrev pub end_text : Network → ScheduleParts → List ℕ
end_text network schedule =
    let nodes = length network.nodes.now in
    order_text network phase.Startup nodes schedule.startup
    ++ order_text network phase.Round nodes schedule.round ++ main_text

-- a program has the functions of all nodes between these
abbrev pub IsProgramText : Network → ScheduleParts → List ℕ → Type 0
IsProgramText network schedule text = (functions : List ℕ)
    × AreTexts (IsNumbered network) (length network.nodes.now) functions
    × (text ≡ start_text network ++ functions ++ end_text network schedule)
