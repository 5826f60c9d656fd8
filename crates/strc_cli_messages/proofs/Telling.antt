-- Messages about two parts of a program are about the second.
use Rattle.std.proofs.Common.{◌≡◌, ◌∙◌, ap, refl, sym, subst, ℕ, List, Option, Some, None}
use Rattle.std.proofs.Common.{Bool, IfOk, Result, Ok, Err}
use Rattle.strc_lex_names.specs.declared.memory.NoMemory.{NoMemory}
use Rattle.strc_lex_names.specs.declared.place.Span.{Span}
use Rattle.strc_lex.specs.declared.token.Token.{Token}
use Rattle.strc_parse_tree.specs.declared.tree.Decl.{Decl}
use Rattle.strc_parse_tree.specs.declared.tree.Program.{Program}
use Rattle.strc_elab_graph.specs.NodeView.{GraphParts}
use Rattle.strc_work_rules.specs.declared.site.Site.{Site}
use Rattle.strc_work_rules.specs.declared.site.Mismatch.{Mismatch}
use Rattle.strc_work_rules.specs.declared.site.Mismatch.TheVariants as mismatch
use Rattle.strc_run_refusal.specs.declared.refusal.Refusal.{Refusal}
use Rattle.strc_run_refusal.specs.declared.refusal.Refusal.TheVariants as refusal
use Rattle.strc_cli_source.specs.declared.preorder.Preorder.{Preorder}
use Rattle.strc_cli_source.specs.Headings.{heading}
use Rattle.strc_cli_source.specs.NodeWords.{Adds}
use Rattle.strc_cli_diagnostics.specs.Messages.{MessageView, about, new_message}
use Rattle.strc_cli_diagnostics.specs.declared.message.MessageKind.TheVariants as kind
use Rattle.strc_cli_places.specs.Marked.{MarksBroken, MarksRefusal, MarksStream}
use Rattle.strc_cli_places.specs.Nodes.{heading_of}
use Rattle.strc_cli_places.specs.Parts.{declarations_of}
use Rattle.strc_cli_places.specs.Pairs.{AreApart, first_readers, first_writer}
use Rattle.strc_cli_messages.proofs.Wording.{adds_in_two, said}
use Rattle.strc_cli_messages.specs.RefusalWords.{AreAloneWords, AreWithinWords, AreWordsOf}
use Rattle.strc_cli_messages.specs.RefusalWords.{can_depend_on_arguments}
use Rattle.strc_cli_messages.specs.Told.{AreMainWords, ArePairWords, AreStreamWords, IsNotAgain}
use Rattle.strc_cli_messages.specs.Told.{IsPair, IsPlain, IsSentence, KeepsSentence}
use Rattle.strc_cli_messages.specs.Told.{MarksMainAgain, MarksPair, MarksSite, second_main}
use Rattle.strc_cli_messages.specs.Told.{TellsAgain, TellsAlone, TellsMains, TellsNodes}
use Rattle.strc_cli_messages.specs.Told.{TellsSite, TellsTwo}

-- two nodes, by the rule that they break
pub pair_is : (refused : Refusal) (order : Preorder) (result : Result (Option (ℕ × ℕ)) NoMemory)
    → (refused ≡ refusal.TwoInputs
    → IfOk result (λ pair. pair ≡ first_readers order.nodes.items))
    → ((node : ℕ) → refused ≡ refusal.TapeTwice node
    → IfOk result (λ pair. pair ≡ first_writer order.nodes.items node))
    → (refused ≡ refusal.Disconnected → IfOk result (AreApart order))
    → IfOk result (IsPair refused order)
pair_is refused order (Err out) readers writers apart = tt
pair_is refusal.TwoInputs order (Ok pair) readers writers apart = readers refl
pair_is (refusal.TapeTwice node) order (Ok pair) readers writers apart = writers node refl
pair_is refusal.Disconnected order (Ok pair) readers writers apart = apart refl
pair_is refused order (Ok pair) readers writers apart = tt

module _ (text : List ℕ) (tokens : List Token) (asked : Option (List ℕ))
    (program : Option Program) (graph : Option GraphParts) (site : Site) where
  -- a name that is declared again is marked where the rule is broken
  told_again : (order : Option Preorder) (stream : ℕ) (message : MessageView)
      → TellsAgain text tokens site message
      → TellsSite text tokens asked program order graph site (refusal.TypeMismatch stream) message
  told_again order stream message is =
      let marked = Some (heading is.second tokens) in
      let Alone = AreAloneWords text tokens asked program graph site message.place
      (refusal.TypeMismatch stream) in
      record {
        marks = subst (λ (place : Option Span).
            MarksStream text tokens asked program order graph site stream site.place place)
            (sym is.place)
            (subst (λ (at : Option Span).
            MarksStream text tokens asked program order graph site stream at marked)
            (sym is.again)
            (subst (λ (broken : Option Mismatch).
            MarksBroken text tokens asked program order graph site broken is.second marked)
            (sym is.twice) refl));
        says = subst (λ (broken : Option Mismatch).
            AreStreamWords Alone text broken site.place message.sentence) (sym is.twice)
            (subst (λ (at : Option Span). AreStreamWords Alone text
            (Some (mismatch.StreamTwice is.first)) at message.sentence) (sym is.again) is.says);
        plain = is.plain;
      }

  -- of two nodes the second is marked
  nodes_told : (Alone : List ℕ → Type 0) (order : Option Preorder) (refused : Refusal)
      (message : MessageView) → TellsNodes tokens asked program order refused (Some message)
      → MarksPair tokens asked program order site refused message.place
      × ArePairWords Alone order refused message.sentence × IsPlain message
  nodes_told Alone None refused message never = absurd never
  nodes_told Alone (Some order) refused message is = (
    (Some is.pair, is.is_pair, is.place),
    (Some is.pair, is.is_pair, is.says),
    is.plain,
  )

  -- of two streams that could be the main one
  mains_told : (Alone : List ℕ → Type 0) (second : Option Decl) (message : MessageView)
      → TellsMains text tokens second (Some message)
      → MarksMainAgain text tokens site second message.place
      × AreMainWords Alone second message.sentence × IsPlain message
  mains_told Alone None message never = absurd never
  mains_told Alone (Some second) message is = is

  pub two_told : (order : Option Preorder) (refused : Refusal) (message : MessageView)
      → TellsTwo text tokens asked program order graph site refused (Some message)
      → TellsSite text tokens asked program order graph site refused message
  two_told order refusal.ManyMains message is =
      let told = mains_told (AreAloneWords text tokens asked program graph site message.place
      refusal.ManyMains) (second_main (declarations_of program)) message is in
      record { marks = told.0; says = told.1; plain = told.2 }
  two_told order refusal.TwoInputs message is =
      let told = nodes_told (AreAloneWords text tokens asked program graph site message.place
      refusal.TwoInputs) order refusal.TwoInputs message is in
      record { marks = told.0; says = told.1; plain = told.2 }
  two_told order (refusal.TapeTwice node) message is =
      let told = nodes_told (AreAloneWords text tokens asked program graph site message.place
      (refusal.TapeTwice node)) order (refusal.TapeTwice node) message is in
      record { marks = told.0; says = told.1; plain = told.2 }
  two_told order refusal.Disconnected message is =
      let told = nodes_told (AreAloneWords text tokens asked program graph site message.place
      refusal.Disconnected) order refusal.Disconnected message is in
      record { marks = told.0; says = told.1; plain = told.2 }
  two_told order (refusal.TypeMismatch stream) message is = told_again order stream message is
  two_told order refused message is = is

  -- where the two aren't known, what is at the site
  nodes_alone : (order : Option Preorder) (refused : Refusal) (place : Option Span)
      → TellsNodes tokens asked program order refused None
      → place ≡ heading_of tokens site.place
      → MarksPair tokens asked program order site refused place
  nodes_alone None refused place is marks = marks
  nodes_alone (Some order) refused place is marks = (None, is, marks)

  mains_alone : (second : Option Decl) (place : Option Span)
      → TellsMains text tokens second None → place ≡ heading_of tokens site.place
      → MarksMainAgain text tokens site second place
  mains_alone None place is marks = marks
  mains_alone (Some second) place never marks = absurd never

  told_alone : (order : Option Preorder) (refused : Refusal) (place : Option Span)
      → TellsTwo text tokens asked program order graph site refused None
      → MarksRefusal text tokens asked program order graph site refused place
      → MarksSite text tokens asked program order graph site refused place
  told_alone order refusal.ManyMains place is marks =
      mains_alone (second_main (declarations_of program)) place is marks
  told_alone order refusal.TwoInputs place is marks =
      nodes_alone order refusal.TwoInputs place is marks
  told_alone order (refusal.TapeTwice node) place is marks =
      nodes_alone order (refusal.TapeTwice node) place is marks
  told_alone order refusal.Disconnected place is marks =
      nodes_alone order refusal.Disconnected place is marks
  told_alone order refused place is marks = marks

  -- and what is said of it
  pair_said : (Alone : List ℕ → Type 0) (order : Option Preorder) (refused : Refusal)
      (sentence : List ℕ) → TellsNodes tokens asked program order refused None → Alone sentence
      → ArePairWords Alone order refused sentence
  pair_said Alone None refused sentence is alone = alone
  pair_said Alone (Some order) refused sentence is alone = (None, is, alone)

  main_said : (Alone : List ℕ → Type 0) (second : Option Decl) (sentence : List ℕ)
      → TellsMains text tokens second None → Alone sentence → AreMainWords Alone second sentence
  main_said Alone None sentence is alone = alone
  main_said Alone (Some second) sentence never alone = absurd never

  stream_said : (Alone : List ℕ → Type 0) (broken : Option Mismatch) (place : Option Span)
      (sentence : List ℕ) → IsNotAgain broken place → Alone sentence
      → AreStreamWords Alone text broken place sentence
  stream_said Alone (Some (mismatch.StreamTwice first)) (Some second) sentence never alone =
      absurd never
  stream_said Alone broken place sentence is alone = alone

  sentence_alone : (Alone : List ℕ → Type 0) (order : Option Preorder) (refused : Refusal)
      (sentence : List ℕ) → TellsTwo text tokens asked program order graph site refused None
      → Alone sentence → IsSentence Alone text program order site refused sentence
  sentence_alone Alone order refusal.ManyMains sentence is alone =
      main_said Alone (second_main (declarations_of program)) sentence is alone
  sentence_alone Alone order refusal.TwoInputs sentence is alone =
      pair_said Alone order refusal.TwoInputs sentence is alone
  sentence_alone Alone order (refusal.TapeTwice node) sentence is alone =
      pair_said Alone order (refusal.TapeTwice node) sentence is alone
  sentence_alone Alone order refusal.Disconnected sentence is alone =
      pair_said Alone order refusal.Disconnected sentence is alone
  sentence_alone Alone order (refusal.TypeMismatch stream) sentence is alone =
      stream_said Alone site.mismatch site.place sentence is alone
  sentence_alone Alone order refused sentence is alone = alone

  pub site_told : (order : Option Preorder) (refused : Refusal) (message : MessageView)
      → TellsTwo text tokens asked program order graph site refused None
      → TellsAlone text tokens asked program order graph site refused message
      → TellsSite text tokens asked program order graph site refused message
  site_told order refused message is alone = record {
    marks = told_alone order refused message.place is alone.marks;
    says = sentence_alone (AreAloneWords text tokens asked program graph site message.place
        refused) order refused message.sentence is alone.says;
    plain = alone.plain;
  }

  -- the message about one part: its sentence, in which instance it is, and a hint
  pub alone_told : (order : Option Preorder) (refused : Refusal) (place : Option Span)
      (depends : Bool) (old one two three new : MessageView)
      → MarksRefusal text tokens asked program order graph site refused place
      → old ≡ new_message
      → Adds (AreWordsOf text tokens asked program graph site place refused) old one
      → depends ≡ can_depend_on_arguments refused site → Adds (AreWithinWords depends) one two
      → KeepsSentence two three → new ≡ about kind.Plain place three
      → TellsAlone text tokens asked program order graph site refused new
  alone_told order refused place depends old one two three new marks empty words same within keeps
      end =
      let marked : new.place ≡ place = ap (λ (m : MessageView). m.place) end in
      let AreSo = AreAloneWords text tokens asked program graph site place refused in
      let added : Adds AreSo old two =
      adds_in_two (AreWordsOf text tokens asked program graph site place refused)
      (AreWithinWords (can_depend_on_arguments refused site)) old one two words
      (subst (λ (d : Bool). Adds (AreWithinWords d) one two) same within) in
      record {
        marks = subst (λ (p : Option Span).
            MarksRefusal text tokens asked program order graph site refused p) (sym marked) marks;
        says = subst (λ (p : Option Span).
            AreAloneWords text tokens asked program graph site p refused new.sentence)
            (sym marked)
            (said AreSo old two new empty added
            (ap (λ (m : MessageView). m.sentence) end ∙ keeps));
        plain = ap (λ (m : MessageView). m.kind) end;
      }
