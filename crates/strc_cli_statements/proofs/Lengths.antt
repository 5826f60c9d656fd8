-- There are as many places as occurrences.
use Rattle.std.proofs.Common.{◌≡◌, List, [], ◌∷◌, length, map, Option, Some, None, refl, arith}
use Rattle.std.proofs.Common.{length-append}
use Rattle.std.proofs.lemmas.List.{length-replicate}
use Rattle.strc_lex_names.specs.declared.place.Span.{Span}
use Rattle.strc_parse_tree.specs.declared.tree.Stmt.{Stmt, Row_of-Stmt, end_of-Stmt, more_of-Stmt}
use Rattle.strc_parse_tree.specs.declared.tree.Stmt.TheVariants as stmt
use Rattle.strc_parse_tree.specs.declared.tree.Member.{Member}
use Rattle.strc_parse_tree.specs.declared.tree.Member.TheVariants as member
use Rattle.strc_parse_tree.specs.View.{stmt_view, row_view, block_view, member_view}
use Rattle.strc_cli_statements.specs.Occurrences.{stmt_count, row_count, member_count, start_count}
use Rattle.strc_cli_statements.specs.Occurrences.{helper_count, helpers_count}
use Rattle.strc_cli_statements.specs.OccurrencePlaces.{stmt_places, row_places, block_places}
use Rattle.strc_cli_statements.specs.OccurrencePlaces.{member_places, start_places}
use Rattle.strc_cli_statements.specs.OccurrencePlaces.{helper_places, helpers_places}
use Rattle.strc_cli_statements.specs.declared.occurrences.Sought.{Sought}

mutual
  pub length-stmt_places : (looked : Sought) (here : Option Span) (s : Stmt)
      → length (stmt_places looked here s) ≡ stmt_count looked (stmt_view s)
  length-stmt_places looked here (stmt.Placed' place at inner) =
      length-stmt_places looked (Some place) inner
  length-stmt_places looked here (stmt.Block' shape body) = length-row_places looked here body
  length-stmt_places looked here (stmt.If' condition at chosen) =
      let c = length-stmt_places looked here chosen in
      simp (length-append, length-replicate) (omega arith)
  length-stmt_places looked here (stmt.IfElse' condition at chosen at' other) =
      let c = length-stmt_places looked here chosen in
      let o = length-stmt_places looked here other in
      simp (length-append, length-replicate) (omega arith)
  length-stmt_places looked here (stmt.While' condition at body) =
      let b = length-stmt_places looked here body in
      simp (length-append, length-replicate) (omega arith)
  length-stmt_places looked here (stmt.For' at first condition at' step at'' body) =
      let f = length-stmt_places looked here first in
      let s = length-stmt_places looked here step in
      let b = length-stmt_places looked here body in
      simp (length-append, length-replicate) (omega arith)
  length-stmt_places looked here stmt.Empty = refl
  length-stmt_places looked here (stmt.Declare declared) = length-replicate _ here
  length-stmt_places looked here (stmt.Evaluate value) = length-replicate _ here
  length-stmt_places looked here (stmt.Assign name operator value) = length-replicate _ here
  length-stmt_places looked here (stmt.AssignElement name index operator value) =
      length-replicate _ here
  length-stmt_places looked here (stmt.Push value) = length-replicate _ here
  length-stmt_places looked here (stmt.Print value) = length-replicate _ here
  length-stmt_places looked here (stmt.Println value) = length-replicate _ here
  length-stmt_places looked here (stmt.Return value) = length-replicate _ here
  length-stmt_places looked here (stmt.Compose statement) = refl

  pub length-row_places : (looked : Sought) (here : Option Span) {m : _} (row : Row_of-Stmt m)
      → length (row_places looked here row) ≡ row_count looked (row_view row)
  length-row_places looked here end_of-Stmt = refl
  length-row_places looked here (more_of-Stmt first rest) =
      let f = length-stmt_places looked here first in
      let r = length-row_places looked here rest in
      simp length-append (omega arith)

pub length-block_places : (looked : Sought) (here : Option Span) (block : List Stmt)
    → length (block_places looked here block) ≡ row_count looked (block_view block)
length-block_places looked here [] = refl
length-block_places looked here (first ∷ rest) =
    let f = length-stmt_places looked here first in
    let r = length-block_places looked here rest in
    simp length-append (omega arith)

length-member_places : (looked : Sought) (m : Member)
    → length (member_places looked m) ≡ member_count looked (member_view m)
length-member_places looked (member.Fields fields) = length-replicate _ (Some fields.place)
length-member_places looked (member.Init' shape block) = length-row_places looked None block
length-member_places looked (member.Prework' rates shape block) = refl
length-member_places looked (member.Work' rates shape block) = refl
length-member_places looked (member.Helper' kind name parameters shape block) =
    length-row_places looked None block

pub length-start_places : (looked : Sought) (members : List Member)
    → length (start_places looked members) ≡ start_count looked (map member_view members)
length-start_places looked [] = refl
length-start_places looked (first ∷ rest) =
    let f = length-member_places looked first in
    let r = length-start_places looked rest in
    simp length-append (omega arith)

length-helper_places : (looked : Sought) (m : Member)
    → length (helper_places looked m) ≡ helper_count looked (member_view m)
length-helper_places looked (member.Fields fields) = refl
length-helper_places looked (member.Init' shape block) = refl
length-helper_places looked (member.Prework' rates shape block) = refl
length-helper_places looked (member.Work' rates shape block) = refl
length-helper_places looked (member.Helper' kind name parameters shape block) =
    length-row_places looked None block

pub length-helpers_places : (looked : Sought) (members : List Member)
    → length (helpers_places looked members) ≡ helpers_count looked (map member_view members)
length-helpers_places looked [] = refl
length-helpers_places looked (first ∷ rest) =
    let f = length-helper_places looked first in
    let r = length-helpers_places looked rest in
    simp length-append (omega arith)
