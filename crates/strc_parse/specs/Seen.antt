-- What a rule returned, seen without where it lies in memory.
use Rattle.std.specs.Prelude.{ℕ, Bool, List, Option, map}
use Rattle.std.specs.Option.{option_map}
use Rattle.std.specs.List.{list_any}
use Rattle.std.specs.Borrow.{Bor}
use Rattle.std.specs.Global.{Vec}
use Rattle.strc_lex.specs.declared.token.Token.{Token}
use Rattle.strc_lex.specs.declared.token.TokenKind.{TokenKind}
use Rattle.strc_parse_tree.specs.declared.tree.Expr.{Expr}
use Rattle.strc_parse_tree.specs.declared.tree.Stmt.{Stmt}
use denote.Enum.Bare.{sameb}
use Rattle.strc_parse_tree.specs.declared.tree.RateKind.{RateKind}
use Rattle.strc_parse_tree.specs.contracts.tree.RateKind.{the_type as rate_type}
use Rattle.strc_parse_tree.specs.declared.tree.RateTree.{RateTree}
use Rattle.strc_parse_tree.specs.declared.tree.Decl.{Decl}
use Rattle.strc_parse_tree.specs.Tree as tree
use Rattle.strc_parse_tree.specs.Tree.{row}
use Rattle.strc_parse_tree.specs.View.{expr_view, stmt_view, rate_view, declaration_view}
use Rattle.strc_parse_grammar.specs.Grammar.{kinds}

-- what is between the brackets of a `for`
abbrev pub heading_view : Stmt × (Option Expr × Stmt)
    → tree.Stmt × Option tree.Expr × tree.Stmt
heading_view h = (stmt_view h.0, option_map expr_view h.1.0, stmt_view h.1.1)

-- a block with its braces
abbrev pub block_view : Vec Stmt → tree.Stmts
block_view block = row (map stmt_view block.items)

-- the condition and the step of a `for`
abbrev pub after_first_view : Option Expr × Stmt → Option tree.Expr × tree.Stmt
after_first_view x = (option_map expr_view x.0, stmt_view x.1)

-- whether a rate of this kind is among these
abbrev pub seen_rate : RateKind → List RateTree → Bool
seen_rate kind rates = list_any (λ r. sameb rate_type r.kind kind) rates

-- rates and a block
abbrev pub phase_view : Vec RateTree × Vec Stmt → List tree.Rate × tree.Stmts
phase_view x = (map rate_view x.0.items, block_view x.1)

-- the name and the parameters of a stream
abbrev pub seen_stream_heading : List ℕ × Option (Vec (List ℕ)) × Bor (List Token)
    → (List ℕ × Option (List (List ℕ))) × List TokenKind
seen_stream_heading x = ((x.0, option_map (λ names. names.items) x.1), kinds x.2.now)

abbrev pub seen_declaration : Decl × Bor (List Token) → tree.Declaration × List TokenKind
seen_declaration x = (declaration_view x.0, kinds x.1.now)
