-- What is added to a message, of which something holds.
use Rattle.std.proofs.Common.{◌≡◌, ◌∙◌, ap, refl, sym, subst, ℕ, List, [], ◌++◌, Option, Some, None}
use Rattle.std.proofs.Common.{inl, inr, Bool, true, false, ℤ}
use Rattle.std.proofs.Common.{Result, Ok, Err}
use Rattle.std.specs.Prelude.{OnOk, codes, decimal, if◌then◌else◌}
use Rattle.std.specs.Fmt.{signed_decimal}
use Rattle.strc_lex.specs.KeywordTexts.{keyword_text}
use Rattle.strc_parse_tree.specs.declared.tree.CompositeKind.{CompositeKind}
use Rattle.strc_elab_graph.specs.NodeView.{GraphParts}
use Rattle.strc_elab_graph.specs.declared.graph.Node.{Node}
use Rattle.strc_work_meaning.specs.declared.fault.Cause.TheVariants as cause
use Rattle.strc_work_meaning.specs.declared.fault.Trapped.{Trapped}
use Rattle.strc_work_rules.specs.declared.site.Part.{Part}
use Rattle.strc_work_rules.specs.declared.site.Part.TheVariants as part
use Rattle.strc_lex_names.specs.declared.place.Span.{Span}
use Rattle.strc_cli_diagnostics.proofs.Messages.{more_in_two, more_twice, no_more}
use Rattle.strc_cli_diagnostics.specs.Messages.{MessageView, hinting, new_message, with_more}
use Rattle.strc_cli_source.specs.NodeWords.{Adds, BeginsWith, channel_words, node_words, nodes_in}
use Rattle.strc_cli_source.specs.NodeWords.{quoted}
use Rattle.strc_cli_syntax.specs.Words.{GoesOn, GoesOnAt, GoesOnWithHint, place_words}
use Rattle.strc_cli_places.specs.Keywords.{kind_keyword, rate_keyword}
use Rattle.strc_cli_places.specs.declared.rate_places.Moved.{Moved}
use Rattle.strc_cli_messages.proofs.Saying.{counted, in_five, in_three, in_two}
use Rattle.strc_cli_messages.specs.RefusalWords.{AreCountWords, AreInTwo, AreLimitWords}
use Rattle.strc_cli_messages.specs.RefusalWords.{AreNodeWords, ArePlaceWords, AreRateWords}
use Rattle.strc_cli_messages.specs.RefusalWords.{AreThese, AreUnbalancedWords, AreWithinWords}
use Rattle.strc_cli_messages.specs.RefusalWords.{beyond_limit_words, found_start_words, limit_words}
use Rattle.strc_cli_messages.specs.RefusalWords.{rate_words, side_words, start_index_words}
use Rattle.strc_cli_messages.specs.RefusalWords.{start_words}
use Rattle.strc_cli_messages.specs.RuleWords.{AreMissingWords, unrun_words}
use Rattle.strc_cli_messages.specs.Told.{KeepsSentence}

-- words of which something holds
pub adds_so : (AreSo : List ℕ → Type 0) (words : List ℕ) (old new : MessageView) → AreSo words
    → new ≡ with_more old words → Adds AreSo old new
adds_so AreSo words old new are is = record { words = words; are_so = are; goes_on = is }

-- these words alone
pub adds_these : (words : List ℕ) (old new : MessageView) → new ≡ with_more old words
    → Adds (λ added. added ≡ words) old new
adds_these words old new is = record { words = words; are_so = refl; goes_on = is }

-- nothing
pub adds_no_words : (AreSo : List ℕ → Type 0) (old : MessageView) → AreSo [] → Adds AreSo old old
adds_no_words AreSo old are =
    record { words = []; are_so = are; goes_on = sym (no_more old) }

-- some words, and then others
pub adds_in_two : (First Second : List ℕ → Type 0) (old one new : MessageView)
    → Adds First old one → Adds Second one new → Adds (AreInTwo First Second) old new
adds_in_two First Second old one new first second = record {
  words = first.words ++ second.words;
  are_so = (first.words, first.are_so, second.words, second.are_so, refl);
  goes_on = more_in_two old one new first.words second.words first.goes_on second.goes_on;
}

-- these words, and then some more
pub begins_so : (words : List ℕ) (old one new : MessageView) → one ≡ with_more old words
    → Adds (BeginsWith []) one new → Adds (BeginsWith words) old new
begins_so words old one new first second = record {
  words = words ++ second.words;
  are_so = (second.words, refl);
  goes_on = more_in_two old one new words second.words first second.goes_on;
}

pub begins_alone : (words : List ℕ) (old new : MessageView) → new ≡ with_more old words
    → Adds (BeginsWith words) old new
begins_alone words old new is =
    begins_so words old new new is (adds_no_words (BeginsWith []) new ([], refl))

pub begins_on : (words : List ℕ) (old new : MessageView) → GoesOn (with_more old words) new
    → Adds (BeginsWith words) old new
begins_on words old new (more, is) = record {
  words = words ++ more;
  are_so = (more, refl);
  goes_on = is ∙ more_twice old words more;
}

-- where another part is
pub adds_place : (text : List ℕ) (part : Option Span) (old new : MessageView)
    → GoesOnAt text part old new → Adds ArePlaceWords old new
adds_place text None old new same =
    record { words = []; are_so = inl refl; goes_on = same ∙ sym (no_more old) }
adds_place text (Some part) old new (place, is_place, at) =
    record { words = place_words place; are_so = inr (place, refl); goes_on = at }

-- a hint leaves the sentence as it is
pub hint_keeps : (old new : MessageView) → GoesOnWithHint old new → KeepsSentence old new
hint_keeps old new (None, is) = ap (λ (m : MessageView). m.sentence) is
hint_keeps old new (Some words, is) = ap (λ (m : MessageView). m.sentence) is

pub hinted_keeps : (old hinted new : MessageView) → hinted ≡ hinting old → GoesOn hinted new
    → KeepsSentence old new
hinted_keeps old hinted new first (more, is) = ap (λ (m : MessageView). m.sentence)
    (is ∙ ap (λ (m : MessageView). with_more m more) first)

-- the sentence of a message that said nothing before
pub said : (AreSo : List ℕ → Type 0) (old one new : MessageView) → old ≡ new_message
    → Adds AreSo old one → KeepsSentence one new → AreSo new.sentence
said AreSo old one new empty added keeps =
    let whole : one ≡ with_more new_message added.words =
    added.goes_on ∙ ap (λ (m : MessageView). with_more m added.words) empty in
    subst AreSo (sym (keeps ∙ ap (λ (m : MessageView). m.sentence) whole)) added.are_so

-- a node of a graph
pub node_known : (graph : Option GraphParts) (nodes : List Node) (path : Option (List ℕ)) (node : ℕ)
    (old new : MessageView) → nodes ≡ nodes_in graph
    → new ≡ with_more old (node_words nodes path node) → Adds (AreNodeWords graph node) old new
node_known graph nodes path node old new same is = record {
  words = node_words nodes path node;
  are_so = (path, ap (λ (n : List Node). node_words n path node) same);
  goes_on = is;
}

-- an `add` that hasn't run
pub unrun_said : (kind : CompositeKind) (missing : Part) (keyword : List ℕ)
    (old one two new : MessageView) → missing ≡ part.Add
    → keyword ≡ keyword_text (kind_keyword kind)
    → one ≡ with_more old (codes "no `add` of this ") → two ≡ with_more one keyword
    → new ≡ with_more two (codes " has run") → Adds (AreMissingWords kind missing) old new
unrun_said kind missing keyword old one two new is same first second third =
    subst (λ (which : Part). Adds (AreMissingWords kind which) old new) (sym is)
    (adds_so (AreMissingWords kind part.Add) (unrun_words kind) old new (inr refl)
    (in_three old one two new (codes "no `add` of this ") (keyword_text (kind_keyword kind))
    (codes " has run") first (second ∙ ap (with_more one) same) third))

-- which index was used while the streams are put together
pub start_index_said : (trapped : Trapped) (index : ℤ) (count : ℕ)
    (old one two three four new : MessageView) → (trapped.count ≡ 0 → ⊥)
    → index ≡ trapped.index → count ≡ trapped.count → one ≡ with_more old (codes "index ")
    → two ≡ with_more one (signed_decimal index)
    → three ≡ with_more two (codes " of an array of ") → four ≡ with_more three (decimal count)
    → new ≡ with_more four (codes " is used while the streams are put together")
    → new ≡ with_more old (start_index_words trapped)
start_index_said trapped index count old one two three four new some this same first second third
    fourth fifth =
    in_five old one two three four new (codes "index ") (signed_decimal trapped.index)
    (codes " of an array of ") (decimal trapped.count)
    (codes " is used while the streams are put together") first
    (second ∙ ap (λ (z : ℤ). with_more one (signed_decimal z)) this) third
    (fourth ∙ ap (λ (n : ℕ). with_more three (decimal n)) same) fifth
    ∙ ap (λ (none : Bool). with_more old (if none then start_words cause.Index
    else found_start_words trapped)) (sym (counted trapped.count some))

-- the rate that a filter declares, and what its statements come to
pub rates_said : (moved : Option Moved) (declared counted wide also : ℕ)
    (old one two three four five new : MessageView) → wide ≡ declared → also ≡ counted
    → one ≡ with_more old (codes " declares a ") → two ≡ with_more one (side_words moved)
    → three ≡ with_more two (codes "rate of ") → four ≡ with_more three (decimal wide)
    → five ≡ with_more four (codes ", and its statements come to ")
    → new ≡ with_more five (decimal also) → Adds (AreRateWords declared counted) old new
rates_said moved declared counted wide also old one two three four five new same alike first second
    third fourth fifth sixth = record {
      words = rate_words moved declared counted;
      are_so = (moved, refl);
      goes_on = more_in_two old five new (codes " declares a " ++ side_words moved
          ++ codes "rate of " ++ decimal declared ++ codes ", and its statements come to ")
          (decimal counted)
          (in_five old one two three four five (codes " declares a ") (side_words moved)
          (codes "rate of ") (decimal declared) (codes ", and its statements come to ") first
          second third (fourth ∙ ap (λ (n : ℕ). with_more three (decimal n)) same) fifth)
          (sixth ∙ ap (λ (n : ℕ). with_more five (decimal n)) alike);
    }

-- a rate that isn't allowed
pub limit_said : (moved : Moved) (keyword limit : List ℕ) (old one two new : MessageView)
    → keyword ≡ keyword_text (rate_keyword moved.side) → limit ≡ limit_words moved.declared
    → one ≡ with_more old (codes " has a ") → two ≡ with_more one (quoted keyword)
    → new ≡ with_more two limit → Adds AreLimitWords old new
limit_said moved keyword limit old one two new same alike first second third = record {
  words = beyond_limit_words (Some moved);
  are_so = (Some moved, refl);
  goes_on = in_three old one two new (codes " has a ")
      (quoted (keyword_text (rate_keyword moved.side))) (limit_words moved.declared) first
      (second ∙ ap (λ (k : List ℕ). with_more one (quoted k)) same)
      (third ∙ ap (with_more two) alike);
}

pub limit_unknown : (old new : MessageView)
    → new ≡ with_more old (codes " has a rate that isn't allowed") → Adds AreLimitWords old new
limit_unknown old new is = adds_so AreLimitWords (beyond_limit_words None) old new (None, refl) is

-- the instance that breaks a rule, where that may be told
pub within_said : (depends : Bool) (name : List ℕ) (old one new : MessageView) → depends ≡ true
    → one ≡ with_more old (codes ", in ") → new ≡ with_more one (quoted name)
    → Adds (AreWithinWords depends) old new
within_said depends name old one new is first second =
    subst (λ (d : Bool). Adds (AreWithinWords d) old new) (sym is)
    (adds_so (AreWithinWords true) (codes ", in " ++ quoted name) old new (inr (name, refl))
    (in_two old one new (codes ", in ") (quoted name) first second))

pub within_nothing : (depends : Bool) (old : MessageView) → Adds (AreWithinWords depends) old old
within_nothing false old = adds_no_words (AreWithinWords false) old refl
within_nothing true old = adds_no_words (AreWithinWords true) old (inl refl)

-- a channel that can't be balanced
pub unbalanced_said : (channel : ℕ) (old one two new : MessageView)
    → Adds (BeginsWith (channel_words channel)) old one
    → two ≡ with_more one (codes " can't be balanced") → Adds (BeginsWith []) two new
    → Adds (AreUnbalancedWords channel) old new
unbalanced_said channel old one two new first second third =
    adds_in_two (BeginsWith (channel_words channel)) (BeginsWith (codes " can't be balanced")) old
    one new first (begins_so (codes " can't be balanced") one two new second third)

-- counts that are too large
pub large_said : (channel : ℕ) (old one new : MessageView)
    → Adds (BeginsWith (channel_words channel)) old one
    → new ≡ with_more one (codes " makes a node fire more than 1,000,000 times in a round")
    → Adds AreCountWords old new
large_said channel old one new first second =
    let words = codes " makes a node fire more than 1,000,000 times in a round" in
    let two = adds_in_two (BeginsWith (channel_words channel)) (AreThese words) old one new first
    (adds_these words one new second) in
    record { words = two.words; are_so = inr (channel, two.are_so); goes_on = two.goes_on }

pub large_unknown : (old new : MessageView)
    → new ≡ with_more old (codes "a node would fire more than 1,000,000 times in a round")
    → Adds AreCountWords old new
large_unknown old new is =
    adds_so AreCountWords (codes "a node would fire more than 1,000,000 times in a round") old new
    (inl refl) is

-- what a call ensures holds also where it ends a function
pub on_ok : {E A B : Type 0} (result : Result (Unit {0}) E) → (A → B) → OnOk result A
    → OnOk result B
on_ok (Ok done) follows is = follows is
on_ok (Err error) follows is = tt
