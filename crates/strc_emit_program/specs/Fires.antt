-- The text of the functions by which a node fires.
use Rattle.std.specs.Prelude.{ℕ, Bool, true, false, List, [], ◌++◌, length, codes, decimal, Option}
use Rattle.std.specs.Prelude.{Some, None, is_some, slice_index, if◌then◌else◌}
use Rattle.strc_parse_tree.specs.declared.tree.FilterTree.{FilterTree}
use Rattle.strc_work_meaning.specs.Filters.{filter_of, prework_block}
use Rattle.strc_elab_graph.specs.declared.graph.Node.{Node}
use Rattle.strc_elab_graph.specs.declared.graph.Node.TheVariants as node
use Rattle.strc_elab_graph.specs.NodeView.{splitter_view}
use Rattle.strc_emit_text.specs.Texts.{texts_below}
use Rattle.strc_emit_filter.specs.Filters.{has_helpers}
use Rattle.strc_emit_moves.specs.declared.places.Network.{Network}
use Rattle.strc_emit_moves.specs.declared.places.Items.{Items}
use Rattle.strc_emit_moves.specs.declared.places.Phase.{Phase}
use Rattle.strc_emit_moves.specs.declared.places.Phase.TheVariants as phase
use Rattle.strc_emit_moves.specs.Places.{taken_at, given_at, pointer_text, enqueued_items}
use Rattle.strc_emit_moves.specs.Moves.{identity_text, reader_text, writer_text, splitter_text}
use Rattle.strc_emit_moves.specs.Moves.{joined_text}

-- their name: `start3` before the first round, `fire3` in a round
abbrev pub fire_name : Phase → List ℕ
fire_name phase.Startup = codes "start"
fire_name phase.Round = codes "fire"

-- the number of firing i of a node in its life
abbrev pub number_text : Network → Phase → (number : ℕ) → List ℕ
number_text network phase.Startup number = codes "firing_of(i, 0, 0)"
number_text network phase.Round number =
    codes "firing_of(i, " ++ decimal (slice_index network.startup.now number) ++ codes ", "
    ++ decimal (slice_index network.round.now number) ++ codes ")"

-- a firing begins that may call helper functions
abbrev pub first_enter : (number : ℕ) → List ℕ
first_enter number = codes "        enter(" ++ decimal number ++ codes ", 0);\n"

abbrev pub first_entry_text : (number : ℕ) → FilterTree → List ℕ
first_entry_text number tree = if has_helpers tree then first_enter number else []

abbrev pub enter_text : Network → Phase → (number : ℕ) → List ℕ
enter_text network when number =
    codes "        enter(" ++ decimal number ++ codes ", " ++ number_text network when number
    ++ codes ");\n"

abbrev pub entry_text : Network → Phase → (number : ℕ) → FilterTree → List ℕ
entry_text network when number tree =
    if has_helpers tree then enter_text network when number else []

-- a prework takes the items at the front, and gives its own after those that are enqueued
abbrev pub source_text : Option Items → List ℕ
source_text None = codes "nothing"
source_text (Some items) = codes "c" ++ decimal items.channel

abbrev pub target_text : Network → Option Items → List ℕ
target_text network None = codes "nothing"
target_text network (Some items) =
    codes "c" ++ decimal items.channel ++ codes " + "
    ++ decimal (length (enqueued_items network.channels.now items.channel))

abbrev pub prework_call : Network → (number : ℕ) → FilterTree → List ℕ
prework_call network number tree =
    codes "    if (from == 0) {\n" ++ first_entry_text number tree
    ++ codes "        int cause = prework" ++ decimal number ++ codes "("
    ++ source_text (taken_at network phase.Startup number 0) ++ codes ", "
    ++ target_text network (given_at network phase.Startup number 0)
    ++ codes ");\n        if (cause != NO_FAULT) fault(cause, " ++ decimal number
    ++ codes ", 0);\n        from = 1;\n    }\n"

abbrev pub prework_text : Network → (number : ℕ) → FilterTree → List ℕ
prework_text network number tree = if is_some (prework_block (filter_of tree).members)
    then prework_call network number tree else []

abbrev pub first_text : Network → Phase → (number : ℕ) → Node → List ℕ
first_text network phase.Startup number (node.Filter instance) =
    prework_text network number instance.code
first_text network _ number _ = []

-- a firing of a work
abbrev pub work_text : Network → Phase → (number : ℕ) → FilterTree → List ℕ
work_text network when number tree =
    entry_text network when number tree ++ codes "        int cause = work" ++ decimal number
    ++ codes "(" ++ pointer_text (taken_at network when number 0) ++ codes ", "
    ++ pointer_text (given_at network when number 0)
    ++ codes ");\n        if (cause != NO_FAULT) fault(cause, " ++ decimal number ++ codes ", "
    ++ number_text network when number ++ codes ");\n"

-- what a node does in a firing
abbrev pub firing_text : Network → Phase → (number : ℕ) → Node → List ℕ
firing_text network when number (node.Filter instance) =
    work_text network when number instance.code
firing_text network when number node.Identity = identity_text network when number
firing_text network when number (node.FileReader text) = reader_text network when number
firing_text network when number (node.FileWriter text) = writer_text network when number
firing_text network when number (node.Splitter splitter) =
    splitter_text network when number (splitter_view splitter)
firing_text network when number (node.Joiner weights) =
    texts_below (joined_text network when number weights.items) (length weights.items)
firing_text network when number _ = []

-- the function of a node's firings
abbrev pub fires_text : Network → Phase → (number : ℕ) → Node → List ℕ
fires_text network when number code =
    codes "static void " ++ fire_name when ++ decimal number
    ++ codes "(int32_t from, int32_t to) {\n" ++ first_text network when number code
    ++ codes "    for (int32_t i = from; i < to; i++) {\n"
    ++ firing_text network when number code ++ codes "    }\n}\n"
