-- What is said of a broken rule on types, kinds and parts: each rule has words of its own.
use Rattle.std.specs.Prelude.{◌≡◌, ◌⊎◌, ℕ, List, ◌++◌, codes, Option, Some, None}
use Rattle.strc_lex_names.specs.declared.place.Span.{Span}
use Rattle.strc_lex.specs.KeywordTexts.{keyword_text}
use Rattle.strc_parse_tree.specs.declared.tree.CompositeKind.{CompositeKind}
use Rattle.strc_work_meaning.specs.declared.types.ValueType.{ValueType}
use Rattle.strc_work_meaning.specs.declared.types.ValueType.TheVariants as value
use Rattle.strc_work_rules.specs.declared.site.Mismatch.{Mismatch}
use Rattle.strc_work_rules.specs.declared.site.Mismatch.TheVariants as mismatch
use Rattle.strc_work_rules.specs.declared.site.Part.{Part}
use Rattle.strc_work_rules.specs.declared.site.Part.TheVariants as part
use Rattle.strc_cli_source.specs.NodeWords.{quoted}
use Rattle.strc_cli_source.specs.Spelling.{between}
use Rattle.strc_cli_places.specs.Keywords.{kind_keyword, part_keyword}

-- a rule of which nothing else is told
abbrev pub plain_rule_words : Mismatch → List ℕ
plain_rule_words mismatch.NoWork = codes "this filter has no `work`"
plain_rule_words mismatch.SecondWork = codes "this filter has a second `work`"
plain_rule_words mismatch.SecondPrework = codes "this filter has a second `prework`"
plain_rule_words mismatch.SecondInit = codes "this filter has a second `init`"
plain_rule_words mismatch.ConstantWritten = codes "a constant is changed here"
plain_rule_words mismatch.VariableInConstant =
    codes "a rate or the length of an array uses a variable here"
plain_rule_words mismatch.NoArray = codes "an element is taken here of what is no array"
plain_rule_words mismatch.WholeArray = codes "an array is used here without an index"
plain_rule_words mismatch.NoInput =
    codes "no items come in here, so that none can be popped or peeked at"
plain_rule_words mismatch.NoOutput = codes "no items go out here, so that none can be pushed"
plain_rule_words mismatch.NoPrinting = codes "nothing can be printed here"
plain_rule_words mismatch.RateWithoutItems =
    codes "a rate is above 0 on a side that has no items"
plain_rule_words mismatch.NoCalls = codes "no helper function can be called here"
plain_rule_words mismatch.NothingGiven =
    codes "a value is wanted here, and this helper function gives none"
plain_rule_words mismatch.FlowInHelper =
    codes "a helper function doesn't pop, peek, push or print"
plain_rule_words mismatch.NoHelper = codes "only a helper function returns"
plain_rule_words mismatch.ValueMissing =
    codes "this helper function gives a value, and none is returned here"
plain_rule_words mismatch.ValueUnwanted =
    codes "this helper function gives no value, and one is returned here"
plain_rule_words mismatch.StreamStatement =
    codes "a filter has no statements that put streams together"
plain_rule_words mismatch.FilterStatement = codes "only a filter pushes or prints"
plain_rule_words mismatch.Follows =
    codes "this child doesn't take what the child before it gives"
plain_rule_words mismatch.First =
    codes "the pipeline begins with this child, which doesn't take what the pipeline is to take"
plain_rule_words mismatch.Last =
    codes "the pipeline ends with this child, which doesn't give what the pipeline is to give"
plain_rule_words mismatch.Sides =
    codes "the children of this splitjoin don't take and give what it is to take and give"
plain_rule_words mismatch.LoopSides =
    codes "the weights of this feedbackloop don't go with what it is to take and give"
plain_rule_words mismatch.LoopChild =
    codes "the body and the loop of a feedbackloop take and give items, and this one doesn't"
plain_rule_words broken = codes "a type, a kind or a part isn't the one that must be there"

-- a name that is declared twice is the one that is marked
abbrev pub marked_words : (text : List ℕ) → (place : Option Span) → List ℕ
marked_words text None = codes "a name"
marked_words text (Some place) = quoted (between text place)

abbrev pub again_words : (text : List ℕ) → (place : Option Span) → List ℕ
again_words text place = marked_words text place ++ codes " is declared a second time here"

-- a kind of composite stream, and one of its parts
abbrev pub part_words : (before : List ℕ) → CompositeKind → (middle : List ℕ) → Part → List ℕ
part_words before kind middle part =
    before ++ keyword_text (kind_keyword kind) ++ middle
    ++ quoted (keyword_text (part_keyword part))

-- an `add` that is written, and hasn't run
abbrev pub unrun_words : CompositeKind → List ℕ
unrun_words kind =
    codes "no `add` of this " ++ keyword_text (kind_keyword kind) ++ codes " has run"

-- a part that is missing: it isn't written, or it is an `add` that hasn't run
abbrev pub AreMissingWords : CompositeKind → Part → (words : List ℕ) → Type 0
AreMissingWords kind part.Add words =
    (words ≡ part_words (codes "this ") kind (codes " has no ") part.Add)
    ⊎ (words ≡ unrun_words kind)
AreMissingWords kind part words = words ≡ part_words (codes "this ") kind (codes " has no ") part

-- what is wanted, and what is found
abbrev pub wanted_words : ValueType → List ℕ
wanted_words value.Int = codes "a number"
wanted_words value.Boolean = codes "a truth value"
wanted_words value.Array = codes "an array"

abbrev pub found_words : ValueType → List ℕ
found_words value.Int = codes "a number"
found_words value.Boolean = codes "a truth value"
found_words value.Array = codes "an array without an index"

abbrev pub value_words : (wanted found : ValueType) → List ℕ
value_words wanted found =
    wanted_words wanted ++ codes " is wanted here, and this is " ++ found_words found

-- the words of a broken rule, where a message marks this place
abbrev pub AreRuleWords : (text : List ℕ) → (place : Option Span) → Mismatch → (words : List ℕ)
    → Type 0
AreRuleWords text place mismatch.DeclaredTwice words = words ≡ again_words text place
AreRuleWords text place (mismatch.Foreign kind part) words =
    words ≡ part_words (codes "a ") kind (codes " has no statements with ") part
AreRuleWords text place (mismatch.Second kind part) words =
    words ≡ part_words (codes "this ") kind (codes " has a second ") part
AreRuleWords text place (mismatch.Missing kind part) words = AreMissingWords kind part words
AreRuleWords text place (mismatch.Value wanted found) words = words ≡ value_words wanted found
AreRuleWords text place broken words = words ≡ plain_rule_words broken
