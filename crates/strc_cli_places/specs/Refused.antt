-- Which rates of a filter break a rule, and what is marked for one that does; which refusals are
-- about a statement, and what is marked for a fault before the program runs.
use Rattle.std.specs.Prelude.{◌≡◌, ◌⊎◌, ℕ, zero, suc, ◌+◌, ℤ, pos, Bool, true, false, not, ◌&&◌}
use Rattle.std.specs.Prelude.{◌||◌, List, [], position}
use Rattle.std.specs.Prelude.{Option, Some, None, IfSome, unwrap_or, slice_get, ◌==◌, ◌^◌, ◌-◌}
use Rattle.std.specs.Prelude.{if◌then◌else◌}
use Rattle.std.specs.Option.{option_map, option_and_then, option_or}
use Rattle.std.specs.Ordering.{int_eq}
use Rattle.strc_lex_names.specs.declared.place.Span.{Span}
use Rattle.strc_lex.specs.declared.token.Token.{Token}
use Rattle.strc_lex.specs.declared.token.TokenKind.{TokenKind}
use Rattle.strc_lex.specs.declared.token.TokenKind.TheVariants as kinds
use Rattle.strc_lex.specs.declared.token.Keyword.TheVariants as keywords
use Rattle.strc_lex.specs.KeywordTexts.{keyword_text}
use Rattle.strc_parse_tree.specs.declared.tree.FilterTree.{FilterTree}
use Rattle.strc_parse_tree.specs.declared.tree.Member.{Member}
use Rattle.strc_parse_tree.specs.declared.tree.Program.{Program}
use Rattle.strc_parse_tree.specs.declared.tree.ItemType.{ItemType}
use Rattle.strc_parse_tree.specs.declared.tree.ItemType.TheVariants as item
use Rattle.strc_parse_tree.specs.declared.tree.RateKind.{RateKind}
use Rattle.strc_parse_tree.specs.declared.tree.RateKind.TheVariants as rate
use Rattle.strc_work_meaning.specs.declared.body.Body.{Body}
use Rattle.strc_work_meaning.specs.declared.body.Body.TheVariants as body
use Rattle.strc_work_meaning.specs.Filters.{Filter, filter_of, body_rates, body_block}
use Rattle.strc_work_meaning.specs.Filters.{push_rate, pop_rate, peek_rate}
use Rattle.strc_rate.specs.declared.counts.Counts.{Counts}
use Rattle.strc_rate.specs.Counts.{stmts_counts}
use Rattle.strc_rate.specs.Rates.{within_limit, has_items}
use Rattle.strc_elab_graph.specs.declared.graph.Node.{Node}
use Rattle.strc_elab_graph.specs.declared.graph.Node.TheVariants as node
use Rattle.strc_elab_graph.specs.NodeView.{GraphParts}
use Rattle.strc_work_meaning.specs.declared.fault.Cause.{Cause}
use Rattle.strc_work_meaning.specs.declared.fault.Cause.TheVariants as causes
use Rattle.strc_cli_source.specs.Headings.{heading}
use Rattle.strc_cli_places.specs.declared.rate_places.Moved.{Moved}
use Rattle.strc_cli_places.specs.Keywords.{declared_keyword}
use Rattle.strc_cli_places.specs.Nodes.{MarksName}
use Rattle.strc_cli_source.specs.Operators.{can_fault, faulting_part, operator_at}
use Rattle.strc_cli_source.specs.Spelling.{MarksFrom}
use Rattle.strc_cli_source.specs.Tokens.{is_keyword}
use Rattle.strc_cli_places.specs.Streams.{IsRecursive}
use Rattle.strc_cli_statements.specs.Statements.{fault_place, start_fault_place, uncounted_place}
use Rattle.strc_cli_statements.specs.Statements.{outside_place}

-- the declared rate of a kind: a missing one is 0, and a missing peek rate is the pop rate
abbrev pub declared_rate : RateKind → Body → Filter → ℤ
declared_rate rate.Push body filter = push_rate (body_rates body filter.members)
declared_rate rate.Pop body filter = pop_rate (body_rates body filter.members)
declared_rate rate.Peek body filter = peek_rate (body_rates body filter.members)

-- the items of the side that a rate moves; a peek moves none
abbrev pub side_items : RateKind → Filter → ItemType
side_items rate.Push filter = filter.output
side_items rate.Pop filter = filter.input
side_items rate.Peek filter = item.Void

abbrev pub is_work : Body → Bool
is_work body.Prework = false
is_work body.Work = true

-- a rate isn't allowed: it is below 0 or too great, or 0 in `work` on a side with items
abbrev pub is_refused : ℤ → ItemType → Body → Bool
is_refused declared items body = not (within_limit declared)
    || (int_eq declared (pos 0) && (is_work body && has_items items))

abbrev pub is_beyond : Filter → RateKind → Body → Bool
is_beyond filter side body =
    is_refused (declared_rate side body filter) (side_items side filter) body

-- a declared rate isn't the counted one
abbrev pub is_miscounted : ℤ → RateKind → Option Counts → Bool
is_miscounted declared rate.Push (Some counts) = not (int_eq declared (pos counts.pushes))
is_miscounted declared rate.Pop (Some counts) = not (int_eq declared (pos counts.pops))
is_miscounted declared _ _ = false

abbrev pub is_wrong : Filter → RateKind → Body → Bool
is_wrong filter side body = is_miscounted (declared_rate side body filter) side
    (stmts_counts [] (body_block body filter.members))

-- a rate that breaks a rule, or none where no rate does
abbrev pub Finds : (RateKind → Body → Bool) → Option Moved → Type 0
Finds breaks None = (side : RateKind) (body : Body) → breaks side body ≡ false
Finds breaks (Some moved) = breaks moved.side moved.body ≡ true

-- the same in one body
abbrev pub FindsIn : (RateKind → Body → Bool) → Body → Option Moved → Type 0
FindsIn breaks body None = (side : RateKind) → breaks side body ≡ false
FindsIn breaks body (Some moved) = breaks moved.side moved.body ≡ true

-- what is marked begins as a rate that breaks a rule is written, or as its body is; unless no rate
-- breaks it
pub data MarksRate (text : List ℕ) (tokens : List Token) (filter : Filter)
    (breaks : RateKind → Body → Bool) (place : Option Span) : Type 0 where
  Marked : (side : RateKind) (body : Body) (broken : breaks side body ≡ true)
      (marks : MarksFrom text tokens (keyword_text (declared_keyword side body filter.members))
      place) → MarksRate text tokens filter breaks place
  Unbroken : (kept : (side : RateKind) (body : Body) → breaks side body ≡ false)
      → MarksRate text tokens filter breaks place

-- the filter of a node, where it is one
abbrev pub node_filter : Option Node → Option Filter
node_filter (Some (node.Filter instance)) = Some (filter_of instance.code)
node_filter _ = None

-- and its tree, with the places of its statements
abbrev pub node_tree : Option Node → Option FilterTree
node_tree (Some (node.Filter instance)) = Some instance.code
node_tree _ = None

abbrev pub tree_at : Option GraphParts → ℕ → Option FilterTree
tree_at None number = None
tree_at (Some graph) number = node_tree (slice_get graph.nodes number)

abbrev pub filter_at : Option GraphParts → ℕ → Option Filter
filter_at None number = None
filter_at (Some graph) number = node_filter (slice_get graph.nodes number)

-- the statement of a node's filter that can't be counted
abbrev pub uncounted_at : Option GraphParts → ℕ → Option Span
uncounted_at graph number = option_and_then uncounted_place (tree_at graph number)

-- the first one with a peek outside of its window
abbrev pub outside_at : Option GraphParts → ℕ → Option Span
outside_at graph number = option_and_then outside_place (tree_at graph number)

-- the same of the filter of a node
abbrev pub MarksRateOf : List ℕ → List Token → Option GraphParts → ℕ
    → (Filter → RateKind → Body → Bool) → Option Span → Type 0
MarksRateOf text tokens graph number breaks place = IfSome (filter_at graph number)
    (λ filter. MarksRate text tokens filter (breaks filter) place)

-- the part of a statement that faults is marked, or without one a name
abbrev pub MarksPart : List ℕ → List Token → Cause → Option (List ℕ) → (statement : Option Span)
    → Option Span → Type 0
MarksPart text tokens cause name None place = MarksName text tokens name place
MarksPart text tokens cause name (Some at) place =
    place ≡ Some (faulting_part tokens cause at)

-- what is marked of a fault of a filter's start: the part of the only statement that can fault so
abbrev pub start_part : List Token → Cause → Option (List Member) → Option Span
start_part tokens cause members = option_map (faulting_part tokens cause)
    (option_and_then (start_fault_place cause) members)

-- what is marked where a stream adds too many nodes or levels, at a site with this place: the
-- heading of a statement that adds a stream that leads to the one it stands in, or of what is there
abbrev pub MarksLevels : List Token → Option Program → (at : Span) → Option Span → Type 0
MarksLevels tokens program at place = ((statement : Span) × IsRecursive program statement
    × (place ≡ Some (heading statement tokens))) ⊎ (place ≡ Some (heading at tokens))

-- what is marked of a fault before the program runs, at a site with this place: that of the filter
-- that starts there, or else the part of what is there
abbrev pub fault_part : List Token → Cause → Option (List Member) → (at : Span) → Span
fault_part tokens cause members at =
    unwrap_or (start_part tokens cause members) (faulting_part tokens cause at)

-- the name by which the filter of a node is declared
abbrev pub filter_name : Option Node → Option (List ℕ)
filter_name (Some (node.Filter instance)) = instance.name
filter_name _ = None

-- the operator at a token, where it can fault so
abbrev pub faulting_operator : List Token → Cause → (number : ℕ) → Option Token → Option Span
faulting_operator tokens cause number None = None
faulting_operator tokens cause number (Some found) =
    if can_fault cause found.kind then operator_at tokens (Some number) else None

abbrev pub operator_there : List Token → Cause → (number : ℕ) → Option Span
operator_there tokens cause number =
    faulting_operator tokens cause number (slice_get tokens number)

-- a token that a loop begins with, or the name of what is called
abbrev pub is_name : TokenKind → Bool
is_name (kinds.Name name) = true
is_name _ = false

abbrev pub is_loop : TokenKind → Bool
is_loop kind = is_keyword keywords.While kind || is_keyword keywords.For kind

-- of what a turn, or a call, can be one too many
abbrev pub can_turn : Cause → TokenKind → Bool
can_turn causes.Turns kind = is_loop kind
can_turn causes.Calls kind = is_name kind
can_turn _ _ = false

-- what is marked of it: the heading of a loop, and what is called
abbrev pub turning_span : Token → Span
turning_span found = if is_loop found.kind
    then (record { start = found.span.start; end = 2 ^ 64 - 1 }) else found.span

-- the loop or the call at a token, where a turn or a call can be one too many there
abbrev pub turning_part : List Token → Cause → Option Token → Option Span
turning_part tokens cause None = None
turning_part tokens cause (Some found) =
    if can_turn cause found.kind then Some (heading (turning_span found) tokens) else None

-- what can end so at a token: the operator there, or behind the array's name that is there, or else
-- the loop or the call
abbrev pub part_there : List Token → Cause → (number : Option ℕ) → Option Span
part_there tokens cause None = None
part_there tokens cause (Some number) = option_or
    (option_or (operator_there tokens cause number) (operator_there tokens cause (number + 1)))
    (turning_part tokens cause (slice_get tokens number))

-- the number of the byte where something begins, by its mark, which is one more, and 0 where
-- nothing is known
abbrev pub byte_of : (mark : ℕ) → Option ℕ
byte_of zero = None
byte_of (suc byte) = Some byte

-- what trapped, where it is known at which byte that begins
abbrev pub trapped_part : List Token → Cause → (byte : Option ℕ) → Option Span
trapped_part tokens cause None = None
trapped_part tokens cause (Some byte) =
    part_there tokens cause (position (λ found. found.span.start == byte) tokens)

-- what is marked of a fault: what trapped, or where nothing that trapped is known something else
abbrev pub MarksElse : (trapped : Option Span) → (Option Span → Type 0) → Option Span → Type 0
MarksElse None Marks place = Marks place
MarksElse (Some part) Marks place = place ≡ Some part

-- what is marked of a fault in a firing of a node, of this body: what trapped, at the byte that the
-- machine tells of, if any; or the part of the only statement that can fault so, or else the name
-- of its filter
abbrev pub MarksFaultOf : List ℕ → List Token → Cause → Body → Option Node → Option Span → Type 0
MarksFaultOf text tokens cause body faulting place = (byte : Option ℕ)
    × MarksElse (trapped_part tokens cause byte) (MarksPart text tokens cause (filter_name faulting)
    (option_and_then (fault_place cause body) (node_tree faulting))) place

-- the body of a firing with so many before it: the first is the prework, or where there is none the
-- work
abbrev pub body_fired : ℕ → Body
body_fired before = if before == 0 then body.Prework else body.Work
