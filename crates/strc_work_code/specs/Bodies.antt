-- The statements of a filter's bodies as they are declared, each with its place.
use Rattle.std.specs.Prelude.{List, [], ◌∷◌, Option, Some, None, unwrap_or}
use Rattle.strc_parse_tree.specs.declared.tree.Stmt.{Stmt, items-the_row-Stmt}
use Rattle.strc_parse_tree.specs.declared.tree.Member.{Member}
use Rattle.strc_parse_tree.specs.declared.tree.Member.TheVariants as member
use Rattle.strc_work_meaning.specs.declared.body.Body.{Body}
use Rattle.strc_work_meaning.specs.declared.body.Body.TheVariants as body

-- those of the first work
abbrev pub work_statements : List Member → List Stmt
work_statements [] = []
work_statements (member.Fields fields ∷ rest) = work_statements rest
work_statements (member.Init' shape block ∷ rest) = work_statements rest
work_statements (member.Prework' rates shape block ∷ rest) = work_statements rest
work_statements (member.Work' rates shape block ∷ rest) = items-the_row-Stmt _ block
work_statements (member.Helper' kind name parameters shape block ∷ rest) = work_statements rest

-- those of the first prework, where there is one
abbrev pub prework_statements : List Member → Option (List Stmt)
prework_statements [] = None
prework_statements (member.Fields fields ∷ rest) = prework_statements rest
prework_statements (member.Init' shape block ∷ rest) = prework_statements rest
prework_statements (member.Prework' rates shape block ∷ rest) = Some (items-the_row-Stmt _ block)
prework_statements (member.Work' rates shape block ∷ rest) = prework_statements rest
prework_statements (member.Helper' kind name parameters shape block ∷ rest) =
    prework_statements rest

-- without a prework each body is the work
abbrev pub body_statements : Body → List Member → List Stmt
body_statements body.Prework members =
    unwrap_or (prework_statements members) (work_statements members)
body_statements body.Work members = work_statements members
