-- What a rule returned, seen without where it lies in memory.
use Rattle.std.specs.Prelude.{ℕ, List, Option, map}
use Rattle.std.specs.Option.{option_map}
use Rattle.std.specs.Borrow.{Bor}
use Rattle.std.specs.Global.{Vec}
use Rattle.strc_lex.specs.declared.token.Token.{Token}
use Rattle.strc_lex.specs.declared.token.TokenKind.{TokenKind}
use Rattle.strc_parse_tree.specs.declared.tree.Variables.{Variables}
use Rattle.strc_parse_tree.specs.Tree as tree
use Rattle.strc_parse_tree.specs.declared.tree.Expr.{Expr}
use Rattle.strc_parse_tree.specs.View.{expr_view, type_view, variable_view}
use Rattle.strc_parse_grammar.specs.Grammar.{kinds}
use Rattle.strc_parse_grammar.specs.declared.rule_result.Parsed.{Parsed}

-- a value and the tokens after it
abbrev pub seen : {A : Type 0} → A × Bor (List Token) → A × List TokenKind
seen x = (x.0, kinds x.1.now)

-- what was parsed, by its view: a tree, its height and the tokens after it
abbrev pub parsed : {A B : Type 0} → (A → B) → Parsed A → B × ℕ × List TokenKind
parsed view x = (view x.value, x.height, kinds x.rest.now)

-- several trees, the height of the highest and the tokens after them
abbrev pub parsed_all : {A B : Type 0} → (A → B) → Parsed (Vec A) → (List B × ℕ) × List TokenKind
parsed_all view x = ((map view x.value.items, x.height), kinds x.rest.now)

-- arguments in a list
abbrev pub listed_view : Vec Expr → List tree.Expr
listed_view arguments = map expr_view arguments.items

-- a type and the variables of it
abbrev pub declared_view : Variables → tree.VariableType × List tree.Variable
declared_view v = (type_view v.kind, map variable_view v.variables.items)

-- parameters in their brackets
abbrev pub seen_names : Vec (List ℕ) × Bor (List Token) → List (List ℕ) × List TokenKind
seen_names x = (x.0.items, kinds x.1.now)

-- parameters with their brackets, or nothing
abbrev pub seen_parameters : Option (Vec (List ℕ)) × Bor (List Token)
    → Option (List (List ℕ)) × List TokenKind
seen_parameters x = (option_map (λ names. names.items) x.0, kinds x.1.now)
