-- What a message tells of a refusal or a fault: the part of the text that it is about.
use Rattle.std.specs.Prelude.{◌≡◌, ◌⊎◌, ⊤, ℕ, ◌+◌, Bool, List, [], drop, find, position, slice_get}
use Rattle.std.specs.Prelude.{Option, Some, None, IfSome}
use Rattle.std.specs.Option.{option_and_then}
use Rattle.strc_lex_names.specs.declared.place.Span.{Span}
use Rattle.strc_lex.specs.declared.token.Token.{Token}
use Rattle.strc_parse_tree.specs.Tree.{Declaration}
use Rattle.strc_parse_tree.specs.View.{declaration_view, program_view}
use Rattle.strc_parse_tree.specs.declared.tree.Decl.{Decl}
use Rattle.strc_parse_tree.specs.declared.tree.Program.{Program}
use Rattle.strc_parse_grammar.specs.Grammar.{Parses, kinds}
use Rattle.strc_parse.specs.Placed.{IsProgramPlaced}
use Rattle.strc_parse.specs.Texts.{HasTokens}
use Rattle.strc_elab_graph.specs.NodeView.{GraphParts}
use Rattle.strc_elab_graph.specs.declared.graph.Node.{Node}
use Rattle.strc_work_rules.specs.declared.site.Site.{Site}
use Rattle.strc_work_rules.specs.declared.site.Mismatch.{Mismatch}
use Rattle.strc_work_rules.specs.declared.site.Mismatch.TheVariants as mismatch
use Rattle.strc_elab_statements.specs.MainStreams.{can_be_main}
use Rattle.strc_elab_stream.specs.declared.stream.Stream.{Stream}
use Rattle.strc_run_refusal.specs.declared.placed_refusal.PlacedRefusal.{PlacedRefusal}
use Rattle.strc_run_refusal.specs.declared.refusal.Refusal.{Refusal}
use Rattle.strc_run_refusal.specs.declared.refusal.Refusal.TheVariants as refusal
use Rattle.strc_cli_diagnostics.specs.declared.message.MessageKind.{MessageKind}
use Rattle.strc_cli_diagnostics.specs.declared.message.MessageKind.TheVariants as kind
use Rattle.strc_cli_source.specs.declared.preorder.Preorder.{Preorder}
use Rattle.strc_cli_source.specs.Headings.{heading}
use Rattle.strc_cli_diagnostics.specs.Messages.{MessageView}
use Rattle.strc_cli_source.specs.Preorders.{IsPreorderOf}
use Rattle.strc_cli_source.specs.Spelling.{Marks}
use Rattle.strc_cli_places.specs.Marked.{MarksRefusal}
use Rattle.strc_cli_places.specs.Nodes.{heading_of, node_statement}
use Rattle.strc_cli_places.specs.Pairs.{AreApart, first_readers, first_writer}
use Rattle.strc_cli_places.specs.Parts.{declarations_of}
use Rattle.strc_cli_places.specs.Refused.{MarksFaultOf, body_fired}
use Rattle.strc_cli_messages.specs.RefusalWords.{AreAloneWords, AreMainPairWords}
use Rattle.strc_cli_messages.specs.RefusalWords.{AreNodePairWords, AreTwiceWords}
use Rattle.strc_cli_messages.specs.Sentences.{IsFaultSentence}
use Rattle.strc_cli_messages.specs.Sites.{site_of}
use Rattle.strc_sched_outcome.specs.declared.outcome.Round.{Round}
use Rattle.strc_work_meaning.specs.declared.fault.Cause.{Cause}

-- a declaration could be the main stream
abbrev pub could_be_main : Decl → Bool
could_be_main declaration = can_be_main (declaration_view declaration)

-- two nodes that don't go together, as far as they are known
abbrev pub IsPair : Refusal → Preorder → Option (ℕ × ℕ) → Type 0
IsPair refusal.TwoInputs order pair = pair ≡ first_readers order.nodes.items
IsPair (refusal.TapeTwice node) order pair = pair ≡ first_writer order.nodes.items node
IsPair refusal.Disconnected order pair = AreApart order pair
IsPair refused order pair = ⊤

-- of two nodes the statement that adds the second is marked, or where they aren't known the site
abbrev pub MarksSecond : List Token → (asked : Option (List ℕ)) → Option Program → Preorder → Site
    → Option (ℕ × ℕ) → Option Span → Type 0
MarksSecond tokens asked program order site None place = place ≡ heading_of tokens site.place
MarksSecond tokens asked program order site (Some pair) place =
    place ≡ heading_of tokens (node_statement asked program (Some order) pair.1)

abbrev pub MarksPair : List Token → (asked : Option (List ℕ)) → Option Program → Option Preorder
    → Site → Refusal → Option Span → Type 0
MarksPair tokens asked program None site refused place = place ≡ heading_of tokens site.place
MarksPair tokens asked program (Some order) site refused place = (pair : Option (ℕ × ℕ))
    × IsPair refused order pair × MarksSecond tokens asked program order site pair place

-- the second of the declarations that could be the main stream
abbrev pub second_main : List Decl → Option Decl
second_main declarations = option_and_then
    (λ first. find could_be_main (drop (first + 1) declarations))
    (position could_be_main declarations)

-- its name is marked, or where there is none the site
abbrev pub MarksMainAgain : (text : List ℕ) → List Token → Site → Option Decl → Option Span
    → Type 0
MarksMainAgain text tokens site None place = place ≡ heading_of tokens site.place
MarksMainAgain text tokens site (Some second) place = Marks text tokens second.name place

-- what is marked of a refusal at a site
abbrev pub MarksSite : List ℕ → List Token → (asked : Option (List ℕ)) → Option Program
    → Option Preorder → Option GraphParts → Site → Refusal → Option Span → Type 0
MarksSite text tokens asked program order graph site refusal.ManyMains place =
    MarksMainAgain text tokens site (second_main (declarations_of program)) place
MarksSite text tokens asked program order graph site refusal.TwoInputs place =
    MarksPair tokens asked program order site refusal.TwoInputs place
MarksSite text tokens asked program order graph site (refusal.TapeTwice node) place =
    MarksPair tokens asked program order site (refusal.TapeTwice node) place
MarksSite text tokens asked program order graph site refusal.Disconnected place =
    MarksPair tokens asked program order site refusal.Disconnected place
MarksSite text tokens asked program order graph site refused place =
    MarksRefusal text tokens asked program order graph site refused place

-- the sentence on two nodes, or where they aren't known that on the site
abbrev pub AreSecondWords : (Alone : List ℕ → Type 0) → Preorder → Refusal → Option (ℕ × ℕ)
    → (words : List ℕ) → Type 0
AreSecondWords Alone order refused None words = Alone words
AreSecondWords Alone order refused (Some pair) words = AreNodePairWords order refused pair words

abbrev pub ArePairWords : (Alone : List ℕ → Type 0) → Option Preorder → Refusal
    → (words : List ℕ) → Type 0
ArePairWords Alone None refused words = Alone words
ArePairWords Alone (Some order) refused words = (pair : Option (ℕ × ℕ))
    × IsPair refused order pair × AreSecondWords Alone order refused pair words

-- the same of two streams that could be the main one
abbrev pub AreMainWords : (Alone : List ℕ → Type 0) → Option Decl → (words : List ℕ) → Type 0
AreMainWords Alone None words = Alone words
AreMainWords Alone (Some second) words = AreMainPairWords second words

-- and of a stream that is declared again
abbrev pub AreStreamWords : (Alone : List ℕ → Type 0) → (text : List ℕ) → Option Mismatch
    → (place : Option Span) → (words : List ℕ) → Type 0
AreStreamWords Alone text (Some (mismatch.StreamTwice first)) (Some second) words =
    AreTwiceWords text second words
AreStreamWords Alone text broken place words = Alone words

-- what the sentence says of a refusal: of two parts, or else of one; `Alone` says it of one
abbrev pub IsSentence : (Alone : List ℕ → Type 0) → (text : List ℕ) → Option Program
    → Option Preorder → Site → Refusal → (sentence : List ℕ) → Type 0
IsSentence Alone text program order site refusal.ManyMains sentence =
    AreMainWords Alone (second_main (declarations_of program)) sentence
IsSentence Alone text program order site refusal.TwoInputs sentence =
    ArePairWords Alone order refusal.TwoInputs sentence
IsSentence Alone text program order site (refusal.TapeTwice node) sentence =
    ArePairWords Alone order (refusal.TapeTwice node) sentence
IsSentence Alone text program order site refusal.Disconnected sentence =
    ArePairWords Alone order refusal.Disconnected sentence
IsSentence Alone text program order site (refusal.TypeMismatch stream) sentence =
    AreStreamWords Alone text site.mismatch site.place sentence
IsSentence Alone text program order site refused sentence = Alone sentence

-- the sentence of a refusal at a site, by a message that marks this place
abbrev pub IsSentenceOf : (text : List ℕ) → List Token → (asked : Option (List ℕ))
    → Option Program → Option Preorder → Option GraphParts → Site → Refusal
    → (place : Option Span) → (sentence : List ℕ) → Type 0
IsSentenceOf text tokens asked program order graph site refused place sentence =
    IsSentence (AreAloneWords text tokens asked program graph site place refused) text program
    order site refused sentence

-- a message whose sentence stays
abbrev pub KeepsSentence : (old new : MessageView) → Type 0
KeepsSentence old new = new.sentence ≡ old.sentence

-- a message of this kind that is about no part of a text
abbrev pub TellsOfKind : MessageKind → MessageView → Type 0
TellsOfKind kind message = (message.kind ≡ kind) × (message.place ≡ None)

-- a message about what is wrong with the program
abbrev pub IsPlain : MessageView → Type 0
IsPlain message = message.kind ≡ kind.Plain

-- a message about the second of two nodes, of a program whose nodes are known
pub record TellsSecond (tokens : List Token) (asked : Option (List ℕ)) (program : Option Program)
    (order : Preorder) (refused : Refusal) (message : MessageView) : Type 0 where
  pub pair : ℕ × ℕ
  pub is_pair : IsPair refused order (Some pair)
  pub place : message.place ≡ heading_of tokens (node_statement asked program (Some order) pair.1)
  pub says : AreNodePairWords order refused pair message.sentence
  pub plain : IsPlain message

-- such a message, where the two are known
abbrev pub TellsNodes : List Token → (asked : Option (List ℕ)) → Option Program → Option Preorder
    → Refusal → Option MessageView → Type 0
TellsNodes tokens asked program None refused None = ⊤
TellsNodes tokens asked program None refused (Some message) = ⊥
TellsNodes tokens asked program (Some order) refused None = IsPair refused order None
TellsNodes tokens asked program (Some order) refused (Some message) =
    TellsSecond tokens asked program order refused message

-- a message about a stream's name that is declared again, at the site
pub record TellsAgain (text : List ℕ) (tokens : List Token) (site : Site) (message : MessageView)
    : Type 0 where
  pub first : Option Span
  pub second : Span
  pub twice : site.mismatch ≡ Some (mismatch.StreamTwice first)
  pub again : site.place ≡ Some second
  pub place : message.place ≡ Some (heading second tokens)
  pub says : AreTwiceWords text second message.sentence
  pub plain : IsPlain message

-- such a message, where one is
abbrev pub IsNotAgain : Option Mismatch → (place : Option Span) → Type 0
IsNotAgain (Some (mismatch.StreamTwice first)) (Some second) = ⊥
IsNotAgain broken place = ⊤

abbrev pub TellsIfAgain : (text : List ℕ) → List Token → Site → Option MessageView → Type 0
TellsIfAgain text tokens site None = IsNotAgain site.mismatch site.place
TellsIfAgain text tokens site (Some message) = TellsAgain text tokens site message

-- a message about the part that is marked, with the words of the rule that it breaks
pub record TellsSite (text : List ℕ) (tokens : List Token) (asked : Option (List ℕ))
    (program : Option Program) (order : Option Preorder) (graph : Option GraphParts) (site : Site)
    (refused : Refusal) (message : MessageView) : Type 0 where
  pub marks : MarksSite text tokens asked program order graph site refused message.place
  pub says : IsSentenceOf text tokens asked program order graph site refused message.place
      message.sentence
  pub plain : IsPlain message

-- a message about one part alone
pub record TellsAlone (text : List ℕ) (tokens : List Token) (asked : Option (List ℕ))
    (program : Option Program) (order : Option Preorder) (graph : Option GraphParts) (site : Site)
    (refused : Refusal) (message : MessageView) : Type 0 where
  pub marks : MarksRefusal text tokens asked program order graph site refused message.place
  pub says : AreAloneWords text tokens asked program graph site message.place refused
      message.sentence
  pub plain : IsPlain message

-- a message about the second stream that could be the main one, where there is one
abbrev pub TellsMains : (text : List ℕ) → List Token → Option Decl → Option MessageView → Type 0
TellsMains text tokens None None = ⊤
TellsMains text tokens (Some second) (Some message) =
    Marks text tokens second.name message.place × AreMainPairWords second message.sentence
    × IsPlain message
TellsMains text tokens second found = ⊥

-- a message about two parts that don't go together, where they are known: two streams of a name,
-- two that could be the main one, or two nodes
abbrev pub TellsTwo : (text : List ℕ) → List Token → (asked : Option (List ℕ)) → Option Program
    → Option Preorder → Option GraphParts → Site → Refusal → Option MessageView → Type 0
TellsTwo text tokens asked program order graph site refusal.ManyMains found =
    TellsMains text tokens (second_main (declarations_of program)) found
TellsTwo text tokens asked program order graph site refusal.TwoInputs found =
    TellsNodes tokens asked program order refusal.TwoInputs found
TellsTwo text tokens asked program order graph site (refusal.TapeTwice node) found =
    TellsNodes tokens asked program order (refusal.TapeTwice node) found
TellsTwo text tokens asked program order graph site refusal.Disconnected found =
    TellsNodes tokens asked program order refusal.Disconnected found
TellsTwo text tokens asked program order graph site (refusal.TypeMismatch stream) found =
    TellsIfAgain text tokens site found
TellsTwo text tokens asked program order graph site refused found =
    IfSome found (TellsSite text tokens asked program order graph site refused)

-- the tokens of a text; none where it has none
abbrev pub IsTokensOf : (text : List ℕ) → List Token → Type 0
IsTokensOf text tokens = HasTokens text tokens
    ⊎ ((tokens ≡ []) × ((other : List Token) → HasTokens text other → ⊥))

-- the tree of a row of tokens; none where they are no program's
abbrev pub IsTreeOf : List Token → Option Program → Type 0
IsTreeOf tokens None = (program : List Declaration) → Parses (kinds tokens) program → ⊥
IsTreeOf tokens (Some program) =
    Parses (kinds tokens) (program_view program) × IsProgramPlaced tokens program

-- the nodes of a stream, where there is one
abbrev pub AreNodesOf : Option Stream → Option Preorder → Type 0
AreNodesOf None order = order ≡ None
AreNodesOf (Some stream) None = ⊥
AreNodesOf (Some stream) (Some order) = IsPreorderOf stream order

-- a message about a refusal of a text: about the part of it that breaks the rule, and with that
-- rule's words, by the text's tokens and its tree, the nodes of the stream that is refused, and its
-- graph
pub record TellsOfText (text : List ℕ) (asked : Option (List ℕ)) (placed : PlacedRefusal)
    (message : MessageView) : Type 0 where
  pub tokens : List Token
  pub is_tokens : IsTokensOf text tokens
  pub program : Option Program
  pub is_tree : IsTreeOf tokens program
  pub order : Option Preorder
  pub are_nodes : AreNodesOf placed.stream order
  pub tells : TellsSite text tokens asked program order placed.graph
      (site_of text tokens program placed) placed.refusal message

-- a message about a fault in a firing of one of these nodes, which may have a path: about the part
-- of its body that faults, and with the words for that node, firing and round
pub record TellsFault (text : List ℕ) (tokens : List Token) (nodes : List Node)
    (path : Option (List ℕ)) (node firing : ℕ) (round : Round) (cause : Cause)
    (message : MessageView) : Type 0 where
  pub marks : MarksFaultOf text tokens cause (body_fired firing) (slice_get nodes node)
      message.place
  pub says : IsFaultSentence nodes path node firing round cause message.sentence
  pub plain : IsPlain message

-- the same by the text's own tokens, and by some path
pub record TellsFaultOfText (text : List ℕ) (nodes : List Node) (node firing : ℕ) (round : Round)
    (cause : Cause) (message : MessageView) : Type 0 where
  pub tokens : List Token
  pub is_tokens : IsTokensOf text tokens
  pub path : Option (List ℕ)
  pub tells : TellsFault text tokens nodes path node firing round cause message
