-- The sentences of refusals that name a token, a name, a node or a channel.
use Rattle.std.proofs.Common.{◌≡◌, ◌∙◌, ap, refl, subst, sym, ℕ, List, [], ◌++◌, Option, Bool}
use Rattle.std.proofs.Common.{◌⊎◌, inl, inr}
use Rattle.std.specs.Prelude.{codes}
use Rattle.strc_lex_names.specs.declared.place.Span.{Span}
use Rattle.strc_lex.specs.declared.token.Token.{Token}
use Rattle.strc_parse_tree.specs.declared.tree.Program.{Program}
use Rattle.strc_elab_graph.specs.NodeView.{GraphParts}
use Rattle.strc_work_rules.specs.declared.site.Site.{Site}
use Rattle.strc_run_refusal.specs.declared.refusal.Refusal.{Refusal}
use Rattle.strc_run_refusal.specs.declared.refusal.Refusal.TheVariants as refusal
use Rattle.strc_cli_diagnostics.specs.Messages.{MessageView, with_more}
use Rattle.strc_cli_source.specs.NodeWords.{Adds, BeginsWith, channel_words, quoted}
use Rattle.strc_cli_syntax.specs.Words.{GoesOn, syntax_words}
use Rattle.strc_cli_messages.proofs.Saying.{in_two}
use Rattle.strc_cli_messages.proofs.Wording.{adds_in_two, adds_so, begins_on, begins_so}
use Rattle.strc_cli_messages.specs.RefusalWords.{AreInTwo, AreLimitWords, AreNodeWords}
use Rattle.strc_cli_messages.specs.RefusalWords.{ArePlainWords, AreRateWords, AreWordsOf}
use Rattle.strc_cli_messages.specs.RefusalWords.{program_words}

module _ (text : List ℕ) (tokens : List Token) (asked : Option (List ℕ))
    (program : Option Program) (graph : Option GraphParts) (site : Site) (place : Option Span) where
  -- a sentence of a refusal, by what its words are
  adds_for : (AreSo : List ℕ → Type 0) (refused other : Refusal) (old new : MessageView)
      → refused ≡ other
      → ((words : List ℕ) → AreSo words
      → AreWordsOf text tokens asked program graph site place other words)
      → Adds AreSo old new
      → Adds (AreWordsOf text tokens asked program graph site place refused) old new
  adds_for AreSo refused other old new is so added =
      subst (λ (r : Refusal).
      Adds (AreWordsOf text tokens asked program graph site place r) old new) (sym is) (record {
        words = added.words;
        are_so = so added.words added.are_so;
        goes_on = added.goes_on;
      })

  -- a token that can't stand where it is
  pub token_said : (refused : Refusal) (token : ℕ) (old new : MessageView)
      → refused ≡ refusal.Parse token → GoesOn (with_more old (syntax_words text tokens token)) new
      → Adds (AreWordsOf text tokens asked program graph site place refused) old new
  token_said refused token old new is more =
      adds_for (BeginsWith (syntax_words text tokens token)) refused (refusal.Parse token) old new
      is (λ words so. so) (begins_on (syntax_words text tokens token) old new more)

  -- a name that isn't declared
  pub name_said : (refused : Refusal) (name bytes : List ℕ) (old one new : MessageView)
      → refused ≡ refusal.UnknownName name → bytes ≡ name → one ≡ with_more old (quoted bytes)
      → new ≡ with_more one (codes " isn't declared here")
      → Adds (AreWordsOf text tokens asked program graph site place refused) old new
  name_said refused name bytes old one new is same first second =
      let these = quoted name ++ codes " isn't declared here" in
      adds_for (λ words. words ≡ these) refused (refusal.UnknownName name) old new is
      (λ words so. so)
      (adds_so (λ words. words ≡ these) these old new refl
      (in_two old one new (quoted name) (codes " isn't declared here")
      (first ∙ ap (λ (b : List ℕ). with_more old (quoted b)) same) second))

  -- a node's rates
  pub rates_of : (refused : Refusal) (node declared counted : ℕ) (old one new : MessageView)
      → refused ≡ refusal.RateMismatch node declared counted
      → Adds (AreNodeWords graph node) old one → Adds (AreRateWords declared counted) one new
      → Adds (AreWordsOf text tokens asked program graph site place refused) old new
  rates_of refused node declared counted old one new is first second =
      adds_for (AreInTwo (AreNodeWords graph node) (AreRateWords declared counted)) refused
      (refusal.RateMismatch node declared counted) old new is (λ words so. so)
      (adds_in_two (AreNodeWords graph node) (AreRateWords declared counted) old one new first
      second)

  pub limit_of : (refused : Refusal) (node : ℕ) (old one new : MessageView)
      → refused ≡ refusal.RateLimit node → Adds (AreNodeWords graph node) old one
      → Adds AreLimitWords one new
      → Adds (AreWordsOf text tokens asked program graph site place refused) old new
  limit_of refused node old one new is first second =
      adds_for (AreInTwo (AreNodeWords graph node) AreLimitWords) refused (refusal.RateLimit node)
      old new is (λ words so. so)
      (adds_in_two (AreNodeWords graph node) AreLimitWords old one new first second)

  -- what else is wrong with a node, and with a channel
  plain_of : (First : List ℕ → Type 0) (refused other : Refusal) (said : List ℕ)
      (old one new : MessageView) → refused ≡ other
      → ((words : List ℕ) → AreInTwo First (ArePlainWords text other) words
      → AreWordsOf text tokens asked program graph site place other words)
      → Adds First old one → ArePlainWords text refused said → new ≡ with_more one said
      → Adds (AreWordsOf text tokens asked program graph site place refused) old new
  plain_of First refused other said old one new is so first plain second =
      adds_for (AreInTwo First (ArePlainWords text other)) refused other old new is so
      (adds_in_two First (ArePlainWords text other) old one new first
      (adds_so (ArePlainWords text other) said one new
      (subst (λ (r : Refusal). ArePlainWords text r said) is plain) second))

  pub node_said : (refused : Refusal) (node : ℕ) (said : List ℕ) (old one new : MessageView)
      → (refused ≡ refusal.RateUnknown node) ⊎ (refused ≡ refusal.PeekOutside node)
      → Adds (AreNodeWords graph node) old one → ArePlainWords text refused said
      → new ≡ with_more one said
      → Adds (AreWordsOf text tokens asked program graph site place refused) old new
  node_said refused node said old one new (inl is) first plain second =
      plain_of (AreNodeWords graph node) refused (refusal.RateUnknown node) said old one new is
      (λ words so. so) first plain second
  node_said refused node said old one new (inr is) first plain second =
      plain_of (AreNodeWords graph node) refused (refusal.PeekOutside node) said old one new is
      (λ words so. so) first plain second

  pub channel_said : (refused : Refusal) (channel : ℕ) (said : List ℕ) (old one new : MessageView)
      → refused ≡ refusal.BufferLimit channel
      → Adds (BeginsWith (channel_words channel)) old one → ArePlainWords text refused said
      → new ≡ with_more one said
      → Adds (AreWordsOf text tokens asked program graph site place refused) old new
  channel_said refused channel said old one new is first plain second =
      plain_of (BeginsWith (channel_words channel)) refused (refusal.BufferLimit channel) said old
      one new is (λ words so. so) first plain second

  -- firings that get stuck
  pub stuck_said : (refused : Refusal) (in_startup : Bool) (said : List ℕ)
      (old one new : MessageView) → refused ≡ refusal.Deadlock in_startup
      → ArePlainWords text refused said → one ≡ with_more old said
      → Adds (BeginsWith []) one new
      → Adds (AreWordsOf text tokens asked program graph site place refused) old new
  stuck_said refused in_startup said old one new is plain first second =
      let these = program_words (refusal.Deadlock in_startup) in
      let same : said ≡ these =
      subst (λ (r : Refusal). ArePlainWords text r said) is plain in
      adds_for (BeginsWith these) refused (refusal.Deadlock in_startup) old new is
      (λ words so. so)
      (begins_so these old one new (first ∙ ap (with_more old) same) second)
