-- The statements of a body, by the list of its member.
use Rattle.std.proofs.Common.{◌≡◌, List, ◌∷◌, Vec, Global, Some, ap}
use Rattle.strc_parse_tree.specs.declared.tree.RateTree.{RateTree}
use Rattle.strc_parse_tree.specs.declared.tree.Member.{Member, Prework, Work}
use Rattle.strc_parse_tree.specs.declared.tree.Stmt.{Stmt, items_hidden-the_row-Stmt-1}
use Rattle.strc_work_code.specs.Bodies.{work_statements, prework_statements}

pub work_statements-Work : (rates : Vec RateTree Global) (block : Vec Stmt Global)
    (rest : List Member) → work_statements (Work rates block ∷ rest) ≡ block.items
work_statements-Work rates block rest = items_hidden-the_row-Stmt-1 block

pub prework_statements-Prework : (rates : Vec RateTree Global) (block : Vec Stmt Global)
    (rest : List Member) → prework_statements (Prework rates block ∷ rest) ≡ Some block.items
prework_statements-Prework rates block rest = ap Some (items_hidden-the_row-Stmt-1 block)
