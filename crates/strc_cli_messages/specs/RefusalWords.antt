-- The sentences of refusals: by the words of its own rule each is known from the others.
use Rattle.std.specs.Prelude.{◌≡◌, ◌≤◌, ◌⊎◌, ℕ, ◌==◌, if◌then◌else◌, List, [], ◌++◌, codes, decimal}
use Rattle.std.specs.Prelude.{Bool, true, false, slice_get, Option, Some, None, ℤ, int_lt, pos}
use Rattle.std.specs.Ordering.{int_eq}
use Rattle.std.specs.Fmt.{signed_decimal}
use Rattle.strc_lex_names.specs.declared.place.Span.{Span}
use Rattle.strc_lex.specs.KeywordTexts.{keyword_text}
use Rattle.strc_lex.specs.declared.token.Token.{Token}
use Rattle.strc_parse_tree.specs.declared.tree.Decl.{Decl}
use Rattle.strc_parse_tree.specs.declared.tree.Program.{Program}
use Rattle.strc_elab_graph.specs.NodeView.{GraphParts}
use Rattle.strc_work_meaning.specs.declared.fault.Cause.{Cause}
use Rattle.strc_work_meaning.specs.declared.fault.Cause.TheVariants as cause
use Rattle.strc_work_meaning.specs.declared.fault.Trapped.{Trapped}
use Rattle.strc_work_rules.specs.declared.site.Mismatch.{Mismatch}
use Rattle.strc_work_rules.specs.declared.site.Mismatch.TheVariants as mismatch
use Rattle.strc_work_rules.specs.declared.site.Site.{Site}
use Rattle.strc_run_refusal.specs.declared.refusal.Refusal.{Refusal}
use Rattle.strc_run_refusal.specs.declared.refusal.Refusal.TheVariants as refusal
use Rattle.strc_cli_diagnostics.specs.declared.place.Place.{Place}
use Rattle.strc_cli_source.specs.NodeWords.{BeginsWith, channel_words, node_words, nodes_in}
use Rattle.strc_cli_source.specs.NodeWords.{quoted, seen_words}
use Rattle.strc_cli_source.specs.declared.preorder.Preorder.{Preorder}
use Rattle.strc_cli_source.specs.Spelling.{between}
use Rattle.strc_cli_syntax.specs.Words.{place_words, syntax_words}
use Rattle.strc_cli_places.specs.Keywords.{rate_keyword}
use Rattle.strc_cli_places.specs.Streams.{declared_as}
use Rattle.strc_cli_places.specs.declared.rate_places.Moved.{Moved}
use Rattle.strc_cli_messages.specs.RuleWords.{AreRuleWords}

-- some words, and then others
abbrev pub AreInTwo : (First Second : List ℕ → Type 0) → (words : List ℕ) → Type 0
AreInTwo First Second words = (first : List ℕ) × First first
    × (second : List ℕ) × Second second × (words ≡ first ++ second)

-- these words alone
abbrev pub AreThese : (these : List ℕ) → (words : List ℕ) → Type 0
AreThese these words = words ≡ these

-- a fault while the streams are put together
abbrev pub start_words : Cause → List ℕ
start_words cause.DivZero = codes "a number is divided by zero while the streams are put together"
start_words cause.Index =
    codes "an index or a length is out of bounds while the streams are put together"
start_words cause.PeekRange = codes "an item is looked at while the streams are put together"
start_words cause.Turns =
    codes "loops turn more than 1,000,000 times while the streams are put together"
start_words cause.Calls = codes "more than 64 calls run at once while the streams are put together"

-- and of an index which one it is, where there is a number of elements
abbrev pub found_start_words : Trapped → List ℕ
found_start_words trapped = codes "index " ++ signed_decimal trapped.index
    ++ codes " of an array of " ++ decimal trapped.count
    ++ codes " is used while the streams are put together"

abbrev pub start_index_words : Trapped → List ℕ
start_index_words trapped =
    if trapped.count == 0 then start_words cause.Index else found_start_words trapped

abbrev pub trapped_words : Cause → Trapped → List ℕ
trapped_words cause.Index trapped = start_index_words trapped
trapped_words faulted trapped = start_words faulted

-- why no token begins at a byte; what is told of a byte that isn't named here is the last
pub data AreLexicalWords (byte : Option ℕ) : (words : List ℕ) → Type 0 where
  OpenString : (is : byte ≡ Some 34) → AreLexicalWords byte
      (codes "this string isn't closed on its line, or has a backslash in it")
  OpenComment : (is : byte ≡ Some 47) → AreLexicalWords byte (codes "this comment is never closed")
  NamedPart : (is : byte ≡ Some 46) → AreLexicalWords byte
      (codes "nothing has parts that are named by a `.`")
  DecimalPoint : (is : byte ≡ Some 46) → AreLexicalWords byte
      (codes "numbers have no decimal point: items are integers")
  Number : (digit : ℕ) (is : byte ≡ Some digit) (from : 48 ≤ digit) (to : digit ≤ 57)
      → AreLexicalWords byte
      (codes "this isn't a number from 0 to 2147483648 without needless zeros")
  Preprocessor : (is : byte ≡ Some 35) → AreLexicalWords byte
      (codes "there is no preprocessor, and no token begins with `#`")
  Character : (is : byte ≡ Some 39) → AreLexicalWords byte
      (codes "a character is written as its number")
  OrderMark : (is : byte ≡ Some 239) → AreLexicalWords byte
      (codes "a byte order mark is no part of a program: keep the text as UTF-8 without one")
  OtherLetter : (letter : ℕ) (is : byte ≡ Some letter) (from : 128 ≤ letter)
      → AreLexicalWords byte
      (codes "names are made of the letters a to z, A to Z, digits and `_`")
  OtherByte : AreLexicalWords byte (codes "no token begins like this")

-- what is wrong with the whole program
abbrev pub program_words : Refusal → List ℕ
program_words refusal.TextTooLong = codes "the text is longer than 1,048,576 bytes"
program_words refusal.Nesting = codes "a statement or an expression is nested deeper than 256"
program_words refusal.ManyMains =
    codes "several streams are declared void->void without parameters"
program_words refusal.DepthLimit = codes "streams are added in one another more than 64 deep"
program_words refusal.NodeLimit = codes "the program has more than 4,096 nodes"
program_words refusal.TwoInputs = codes "more than one FileReader takes the input"
program_words (refusal.TapeTwice node) = codes "two FileWriters write to the same file"
program_words refusal.Disconnected = codes "the nodes aren't all connected by channels"
program_words refusal.CountsTooLarge =
    codes "a node would fire more than 1,000,000 times in a round"
program_words refusal.StartupUnbounded =
    codes "no firings before the first round give each node what it looks at"
program_words (refusal.Deadlock true) =
    codes "the firings before the first round get stuck: each node waits for items"
program_words (refusal.Deadlock false) =
    codes "the firings of a round get stuck: each node waits for items"
program_words refused = codes "out of memory"

-- what is said of a refusal; of one that names a node or a channel, what follows their names
abbrev pub ArePlainWords : (text : List ℕ) → Refusal → (words : List ℕ) → Type 0
ArePlainWords text (refusal.Lex at) words = AreLexicalWords (slice_get text at) words
ArePlainWords text (refusal.ConstFault faulted) words = words ≡ start_words faulted
ArePlainWords text (refusal.TypeMismatch stream) words =
    words ≡ codes "a type, a kind or a part isn't the one that must be there"
ArePlainWords text (refusal.BadArguments stream) words =
    words ≡ codes "another number of arguments is given here than there are parameters"
ArePlainWords text (refusal.BadWeights stream) words =
    words ≡ codes "the weights in this statement don't fit its children"
ArePlainWords text (refusal.RateUnknown node) words =
    words ≡ codes " pushes or pops a number of items that can't be counted"
ArePlainWords text (refusal.PeekOutside node) words =
    words ≡ codes " looks at an item that is never in its window"
ArePlainWords text (refusal.Inconsistent channel) words = words ≡ codes " can't be balanced"
ArePlainWords text (refusal.BufferLimit channel) words =
    words ≡ codes " would hold more than 16,777,216 items"
ArePlainWords text refused words = words ≡ program_words refused

-- why there is no main stream
abbrev pub asked_words : Option Decl → List ℕ
asked_words None = codes "no stream is declared with the name that --main gives"
asked_words (Some found) =
    codes "the stream that --main names isn't void->void without parameters"

abbrev pub mainless_words : (asked : Option (List ℕ)) → Option Program → List ℕ
mainless_words None program = codes "no stream is declared void->void without parameters"
mainless_words (Some name) program = asked_words (declared_as name program)

-- a node of a graph, by some path
abbrev pub AreNodeWords : Option GraphParts → (node : ℕ) → (words : List ℕ) → Type 0
AreNodeWords graph node words =
    (path : Option (List ℕ)) × (words ≡ node_words (nodes_in graph) path node)

-- which rate is meant, where that is known
abbrev pub side_words : Option Moved → List ℕ
side_words None = []
side_words (Some moved) = quoted (keyword_text (rate_keyword moved.side)) ++ codes " "

-- the rate that a filter declares, and what its statements come to
abbrev pub rate_words : Option Moved → (declared counted : ℕ) → List ℕ
rate_words moved declared counted = codes " declares a " ++ side_words moved
    ++ codes "rate of " ++ decimal declared ++ codes ", and its statements come to "
    ++ decimal counted

abbrev pub AreRateWords : (declared counted : ℕ) → (words : List ℕ) → Type 0
AreRateWords declared counted words =
    (moved : Option Moved) × (words ≡ rate_words moved declared counted)

-- what is wrong with a rate
abbrev pub limit_words : (declared : ℤ) → List ℕ
limit_words declared = if int_lt declared (pos 0) then codes " rate below 0"
    else if int_eq declared (pos 0) then codes " rate of 0 or none, and moves items on this side"
    else codes " rate above 65,536"

abbrev pub beyond_limit_words : Option Moved → List ℕ
beyond_limit_words None = codes " has a rate that isn't allowed"
beyond_limit_words (Some moved) = codes " has a " ++ quoted (keyword_text (rate_keyword moved.side))
    ++ limit_words moved.declared

abbrev pub AreLimitWords : (words : List ℕ) → Type 0
AreLimitWords words = (moved : Option Moved) × (words ≡ beyond_limit_words moved)

-- a channel that can't be balanced, and how many items come to its ends, where that is known
abbrev pub AreUnbalancedWords : (channel : ℕ) → (words : List ℕ) → Type 0
AreUnbalancedWords channel words =
    AreInTwo (BeginsWith (channel_words channel)) (BeginsWith (codes " can't be balanced")) words

-- counts that are too large: of a node, or by a channel
abbrev pub AreCountWords : (words : List ℕ) → Type 0
AreCountWords words = (words ≡ program_words refusal.CountsTooLarge)
    ⊎ ((channel : ℕ) × AreInTwo (BeginsWith (channel_words channel))
    (AreThese (codes " makes a node fire more than 1,000,000 times in a round")) words)

-- a rule on types, kinds and parts, where it is known which
abbrev pub AreMismatchWords : (text : List ℕ) → (place : Option Span) → Refusal → Option Mismatch
    → (words : List ℕ) → Type 0
AreMismatchWords text place refused None words = ArePlainWords text refused words
AreMismatchWords text place refused (Some broken) words = AreRuleWords text place broken words

-- the words of a refusal at a site, where a message marks this place
abbrev pub AreWordsOf : (text : List ℕ) → List Token → (asked : Option (List ℕ)) → Option Program
    → Option GraphParts → Site → (place : Option Span) → Refusal → (words : List ℕ) → Type 0
AreWordsOf text tokens asked program graph site place (refusal.Parse token) words =
    BeginsWith (syntax_words text tokens token) words
AreWordsOf text tokens asked program graph site place refusal.NoMain words =
    words ≡ mainless_words asked program
AreWordsOf text tokens asked program graph site place (refusal.UnknownName name) words =
    words ≡ quoted name ++ codes " isn't declared here"
AreWordsOf text tokens asked program graph site place (refusal.TypeMismatch stream) words =
    AreMismatchWords text place (refusal.TypeMismatch stream) site.mismatch words
AreWordsOf text tokens asked program graph site place
    (refusal.RateMismatch node declared counted) words =
    AreInTwo (AreNodeWords graph node) (AreRateWords declared counted) words
AreWordsOf text tokens asked program graph site place (refusal.RateLimit node) words =
    AreInTwo (AreNodeWords graph node) AreLimitWords words
AreWordsOf text tokens asked program graph site place (refusal.RateUnknown node) words =
    AreInTwo (AreNodeWords graph node) (ArePlainWords text (refusal.RateUnknown node)) words
AreWordsOf text tokens asked program graph site place (refusal.PeekOutside node) words =
    AreInTwo (AreNodeWords graph node) (ArePlainWords text (refusal.PeekOutside node)) words
AreWordsOf text tokens asked program graph site place (refusal.ConstFault faulted) words =
    words ≡ trapped_words faulted site.trapped
AreWordsOf text tokens asked program graph site place (refusal.Inconsistent channel) words =
    AreUnbalancedWords channel words
AreWordsOf text tokens asked program graph site place (refusal.BufferLimit channel) words =
    AreInTwo (BeginsWith (channel_words channel))
    (ArePlainWords text (refusal.BufferLimit channel)) words
AreWordsOf text tokens asked program graph site place refusal.CountsTooLarge words =
    AreCountWords words
AreWordsOf text tokens asked program graph site place (refusal.Deadlock in_startup) words =
    BeginsWith (program_words (refusal.Deadlock in_startup)) words
AreWordsOf text tokens asked program graph site place refused words =
    ArePlainWords text refused words

-- a rule of elaboration that one instance of a stream may break and another one keep
abbrev pub can_be_missing : Option Mismatch → Bool
can_be_missing (Some (mismatch.Missing kind part)) = true
can_be_missing broken = false

abbrev pub can_depend_on_arguments : Refusal → Site → Bool
can_depend_on_arguments (refusal.ConstFault faulted) site = true
can_depend_on_arguments (refusal.BadWeights stream) site = true
can_depend_on_arguments refusal.DepthLimit site = true
can_depend_on_arguments refusal.NodeLimit site = true
can_depend_on_arguments (refusal.TypeMismatch stream) site = can_be_missing site.mismatch
can_depend_on_arguments refused site = false

-- in which instance it is broken, where that may be told, and where it has parameters
abbrev pub AreInstanceWords : (words : List ℕ) → Type 0
AreInstanceWords words =
    (words ≡ []) ⊎ ((name : List ℕ) × (words ≡ codes ", in " ++ quoted name))

abbrev pub AreWithinWords : (depends : Bool) → (words : List ℕ) → Type 0
AreWithinWords false words = words ≡ []
AreWithinWords true words = AreInstanceWords words

-- the sentence on one part: the words of the refusal, and the instance
abbrev pub AreAloneWords : (text : List ℕ) → List Token → (asked : Option (List ℕ))
    → Option Program → Option GraphParts → Site → (place : Option Span) → Refusal
    → (words : List ℕ) → Type 0
AreAloneWords text tokens asked program graph site place refused words =
    AreInTwo (AreWordsOf text tokens asked program graph site place refused)
    (AreWithinWords (can_depend_on_arguments refused site)) words

-- where another part of the text is, if that is known
abbrev pub ArePlaceWords : (words : List ℕ) → Type 0
ArePlaceWords words = (words ≡ []) ⊎ ((place : Place) × (words ≡ place_words place))

-- the second of two streams that could be the main one, and the first
abbrev pub AreMainPairWords : (second : Decl) → (words : List ℕ) → Type 0
AreMainPairWords second words = (first : List ℕ) × AreInTwo
    (AreThese (quoted second.name ++ codes " could be the main stream, and so could "
    ++ quoted first)) ArePlaceWords words

-- a stream that is declared again, at this place
abbrev pub AreTwiceWords : (text : List ℕ) → (second : Span) → (words : List ℕ) → Type 0
AreTwiceWords text second words = AreInTwo
    (AreThese (quoted (between text second) ++ codes " is declared twice: here, and before it"))
    ArePlaceWords words

-- how two nodes don't go together
abbrev pub joining_words : Refusal → List ℕ
joining_words refusal.TwoInputs = codes " takes the input, and so does "
joining_words (refusal.TapeTwice node) = codes " writes to the same file as "
joining_words refused = codes " isn't connected with "

-- the second of two nodes, what it does, and the first, by some paths
abbrev pub AreNodePairWords : Preorder → Refusal → (pair : ℕ × ℕ) → (words : List ℕ) → Type 0
AreNodePairWords order refused pair words =
    (first : Option (List ℕ)) × (second : Option (List ℕ)) × AreInTwo
    (AreThese (seen_words order second pair.1 ++ joining_words refused
    ++ seen_words order first pair.0)) ArePlaceWords words
