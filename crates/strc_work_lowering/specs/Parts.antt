-- The parts of a filter's code.
use Rattle.std.specs.Prelude.{◌≡◌, ℕ, false, List, reverse, Option}
use Rattle.strc_parse_tree.specs.Tree as tree
use Rattle.strc_work_meaning.specs.declared.body.Body.{Body}
use Rattle.strc_work_meaning.specs.declared.body.Body.TheVariants as bodied
use Rattle.strc_work_meaning.specs.Filters.{sized_fields, body_block, body_rates}
use Rattle.strc_work_meaning.specs.Scoping.{Scope, total}
use Rattle.strc_work_code.specs.declared.code.Routine.{Routine}
use Rattle.strc_work_code.specs.Nodes.{before}
use Rattle.strc_work_code.specs.Code.{code_of}
use Rattle.strc_work_code.specs.Flat.{IsFlat}
use Rattle.strc_work_code.specs.Links.{helper_names, IsLinked, AreLinkedCodes}
use Rattle.strc_work_code.specs.Lowering.{stmts_nodes, initials_nodes, inits_nodes}
use Rattle.strc_work_code.specs.Lowered.{limits_of, first_routine}
use Rattle.strc_work_code.specs.declared.helper.HelperCode.{HelperCode}
use Rattle.strc_work_code.specs.Helpers.{AreHelpers}

-- a routine is that of a body, where these names can be seen
pub record IsRoutine (names : Scope) (members : List tree.Member) (body : Body)
    (routine : Routine) : Type 0 where
  pub code : code_of routine.code ≡ stmts_nodes names false (body_block body members)
  pub flat : IsFlat routine.flat (code_of routine.code)
  pub linked : IsLinked (helper_names members) routine.flat
  pub limits : routine.limits ≡ limits_of (body_rates body members)

-- with any work of the members, the first firing has the routine of their prework
abbrev pub IsPrework : Scope → List tree.Member → Option Routine → Type 0
IsPrework names members prework = (work : Routine) → IsRoutine names members bodied.Work work
    → IsRoutine names members bodied.Prework (first_routine prework work)

-- the routines of the first firing and of the others, where these names can be seen
pub record AreBodies (names : Scope) (members : List tree.Member) (prework : Option Routine)
    (work : Routine) : Type 0 where
  pub first : IsRoutine names members bodied.Prework (first_routine prework work)
  pub later : IsRoutine names members bodied.Work work

-- how many slots the fields take, the routines of the start and of the bodies, and the code of the
-- helper functions
pub record AreParts (members : List tree.Member) (fields : ℕ) (start : Routine)
    (prework : Option Routine) (work : Routine) (helpers : List HelperCode) : Type 0 where
  pub count : fields ≡ total (sized_fields members)
  pub initial : code_of start.code
      ≡ before (initials_nodes (reverse (sized_fields members)) members)
      (inits_nodes (reverse (sized_fields members)) members)
  pub flat : IsFlat start.flat (code_of start.code)
  pub linked : IsLinked (helper_names members) start.flat
  pub bodies : AreBodies (reverse (sized_fields members)) members prework work
  pub helpers_are : AreHelpers (reverse (sized_fields members)) members helpers
  pub helpers_linked : AreLinkedCodes (helper_names members) helpers
