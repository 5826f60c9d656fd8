-- What is marked of a refusal, by its kind.
use Rattle.std.specs.Prelude.{◌≡◌, ◌⊎◌, ⊤, ℕ, List, Option, Some, None, IfSome}
use Rattle.strc_lex_names.specs.declared.place.Span.{Span}
use Rattle.strc_lex.specs.declared.token.Keyword.TheVariants as keyword
use Rattle.strc_lex.specs.declared.token.Token.{Token}
use Rattle.strc_lex.specs.KeywordTexts.{keyword_text}
use Rattle.strc_parse_tree.specs.declared.tree.Program.{Program}
use Rattle.strc_elab_graph.specs.NodeView.{GraphParts}
use Rattle.strc_work_rules.specs.declared.site.Site.{Site}
use Rattle.strc_work_meaning.specs.declared.fault.Cause.{Cause}
use Rattle.strc_work_rules.specs.declared.site.Mismatch.{Mismatch}
use Rattle.strc_work_rules.specs.declared.site.Mismatch.TheVariants as mismatch
use Rattle.strc_run_refusal.specs.declared.refusal.Refusal.{Refusal}
use Rattle.strc_run_refusal.specs.declared.refusal.Refusal.TheVariants as refusal
use Rattle.strc_cli_source.specs.declared.preorder.Preorder.{Preorder}
use Rattle.strc_cli_source.specs.Headings.{heading}
use Rattle.strc_cli_source.specs.Spelling.{Marks, MarksFrom, Spells}
use Rattle.strc_cli_places.specs.Keywords.{kind_keyword}
use Rattle.strc_cli_places.specs.Large.{MarksLarge}
use Rattle.strc_cli_places.specs.Nodes.{MarksChannel, MarksStatement, declared_name, heading_of}
use Rattle.strc_cli_places.specs.Nodes.{node_statement}
use Rattle.strc_cli_places.specs.Parts.{IsUndeclared, MarksDeclaration, declaration_at, ends_of}
use Rattle.strc_cli_places.specs.Refused.{MarksElse, MarksLevels, MarksRateOf, byte_of}
use Rattle.strc_cli_places.specs.Refused.{fault_part, trapped_part}
use Rattle.strc_cli_places.specs.Refused.{is_beyond, is_wrong}
use Rattle.strc_cli_places.specs.Refused.{outside_at, uncounted_at}
use Rattle.strc_cli_places.specs.Streams.{main_of, members_at}

module _ (text : List ℕ) (tokens : List Token) (asked : Option (List ℕ)) (program : Option Program)
    (order : Option Preorder) (graph : Option GraphParts) (site : Site) where
  -- the name of the main stream
  abbrev pub MarksMain : Option Span → Type 0
  MarksMain place = MarksDeclaration text tokens (main_of asked program) place

  -- of a stream that lacks a part its kind, as the text writes it; of what breaks another rule the
  -- heading of the statement there
  abbrev pub MarksBroken : Option Mismatch → (at : Span) → Option Span → Type 0
  MarksBroken (Some (mismatch.Missing kind part)) at place =
      MarksFrom text tokens (keyword_text (kind_keyword kind)) place
  MarksBroken _ at place = place ≡ Some (heading at tokens)

  -- a statement of a declared stream; where none is known the stream's name
  abbrev pub MarksStream : (stream : ℕ) → (at : Option Span) → Option Span → Type 0
  MarksStream stream None place =
      MarksDeclaration text tokens (declaration_at program stream) place
  MarksStream stream (Some at) place = MarksBroken site.mismatch at place

  -- where there are more nodes or levels than may be, a statement that adds a stream again, or the
  -- one there
  abbrev pub MarksDeep : (at : Option Span) → Option Span → Type 0
  MarksDeep None place = MarksMain place
  MarksDeep (Some at) place = MarksLevels tokens program at place

  -- a statement that faults before the program runs; where none is known the main stream's name
  abbrev pub MarksFaultAt : Cause → (at : Option Span) → Option Span → Type 0
  MarksFaultAt cause None place = MarksMain place
  MarksFaultAt cause (Some at) place =
      place ≡ Some (fault_part tokens cause (members_at text program at) at)

  -- what faults before the program runs: what trapped, where the site knows it
  abbrev pub MarksFault : Cause → Option Span → Type 0
  MarksFault cause place = MarksElse (trapped_part tokens cause (byte_of site.trapped.mark))
      (MarksFaultAt cause site.place) place

  -- a statement of a node's filter; where none is found the filter's name, or the statement that
  -- the node comes from
  abbrev pub MarksFound : (found : Option Span) → (node : ℕ) → Option Span → Type 0
  MarksFound found node place = MarksStatement text tokens found (declared_name order node)
      (node_statement asked program order node) place

  -- a feedback loop
  abbrev pub MarksLoop : Option Span → Type 0
  MarksLoop place = Marks text tokens (keyword_text keyword.Feedbackloop) place

  -- by the refusal's kind
  abbrev pub MarksRefusal : Refusal → Option Span → Type 0
  -- a name that isn't declared, where it is written: at the site, if that spells it
  MarksRefusal (refusal.UnknownName name) place = Marks text tokens name place
      × IfSome (heading_of tokens site.place) (λ at. Spells text at name
      → place ≡ heading_of tokens site.place)
  -- the statement that breaks a rule on types, kinds, parts, arguments or weights
  MarksRefusal (refusal.TypeMismatch stream) place = MarksStream stream site.place place
  MarksRefusal (refusal.BadArguments stream) place = MarksStream stream site.place place
  MarksRefusal (refusal.BadWeights stream) place = MarksStream stream site.place place
  MarksRefusal refusal.NodeLimit place = MarksDeep site.place place
  MarksRefusal refusal.DepthLimit place = MarksDeep site.place place
  MarksRefusal (refusal.ConstFault cause) place = MarksFault cause place
  -- a main stream that is asked for, where its name is written
  MarksRefusal refusal.NoMain place = IfSome asked (λ name. Marks text tokens name place
      ⊎ IsUndeclared program name)
  -- a rate that breaks a rule, as it is written
  MarksRefusal (refusal.RateMismatch node declared counted) place =
      MarksRateOf text tokens graph node is_wrong place
  MarksRefusal (refusal.RateLimit node) place =
      MarksRateOf text tokens graph node is_beyond place
  -- the innermost statement that can't be counted, the first with a peek outside of its window
  MarksRefusal (refusal.RateUnknown node) place = MarksFound (uncounted_at graph node) node place
  MarksRefusal (refusal.PeekOutside node) place = MarksFound (outside_at graph node) node place
  -- a node at an end of the channel
  MarksRefusal (refusal.Inconsistent channel) place =
      MarksChannel text tokens asked program order (ends_of graph channel) place
  MarksRefusal (refusal.BufferLimit channel) place =
      MarksChannel text tokens asked program order (ends_of graph channel) place
  MarksRefusal refusal.CountsTooLarge place =
      MarksLarge text tokens asked program order graph place
  -- nodes wait for one another, or fire without end before the first round
  MarksRefusal refusal.StartupUnbounded place = MarksLoop place
  MarksRefusal (refusal.Deadlock in_startup) place = MarksLoop place
  -- which token is nested too deep isn't said
  MarksRefusal refusal.Nesting place = ⊤
  MarksRefusal _ place = place ≡ heading_of tokens site.place
