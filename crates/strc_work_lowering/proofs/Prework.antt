-- The parts of a filter's code, with a prework or without one.
use Rattle.std.proofs.Common.{◌≡◌, ℕ, false, List, [], ◌∷◌, reverse, Option, Some, None, refl, sym}
use Rattle.std.proofs.Common.{ap, ◌∙◌, subst}
use Rattle.std.specs.Prelude.{is_some, unwrap_or}
use Rattle.strc_parse_tree.specs.Tree as tree
use Rattle.strc_work_meaning.specs.declared.body.Body.TheVariants as body
use Rattle.strc_work_meaning.specs.Filters.{work_block, work_rates, prework_block, prework_rates}
use Rattle.strc_work_meaning.specs.Filters.{body_block, body_rates, sized_fields}
use Rattle.strc_work_meaning.specs.Scoping.{Scope, total}
use Rattle.strc_work_code.specs.declared.code.Routine.{Routine}
use Rattle.strc_work_code.specs.Nodes.{before}
use Rattle.strc_work_code.specs.Code.{code_of}
use Rattle.strc_work_code.specs.Flat.{IsFlat}
use Rattle.strc_work_code.specs.Links.{helper_names, IsLinked, AreLinkedCodes}
use Rattle.strc_work_code.specs.declared.helper.HelperCode.{HelperCode}
use Rattle.strc_work_code.specs.Helpers.{AreHelpers}
use Rattle.strc_work_code.specs.Lowering.{stmts_nodes, initials_nodes, inits_nodes}
use Rattle.strc_work_code.specs.Lowered.{limits_of}
use Rattle.strc_work_code.proofs.Totals.{total-reverse}
use Rattle.strc_work_lowering.specs.Parts.{IsRoutine, IsPrework, AreBodies, AreParts}

none_or : {X : Type 0} (o : Option X) (other : X) → is_some o ≡ false → unwrap_or o other ≡ other
none_or (Some x) other e = absurd (cc)
none_or None other e = refl

-- a prework has rates where it has a block
rates_with_block : (members : List tree.Member)
    → is_some (prework_rates members) ≡ is_some (prework_block members)
rates_with_block [] = refl
rates_with_block (tree.Fields kind variables ∷ rest) = rates_with_block rest
rates_with_block (tree.Init block ∷ rest) = rates_with_block rest
rates_with_block (tree.Prework rates block ∷ rest) = refl
rates_with_block (tree.Work rates block ∷ rest) = rates_with_block rest
rates_with_block (tree.Helper kind name parameters block ∷ rest) = rates_with_block rest

no_prework_block : (members : List tree.Member) → is_some (prework_block members) ≡ false
    → body_block body.Prework members ≡ body_block body.Work members
no_prework_block members e = none_or (prework_block members) (work_block members) e

no_prework_rates : (members : List tree.Member) → is_some (prework_block members) ≡ false
    → body_rates body.Prework members ≡ body_rates body.Work members
no_prework_rates members e = none_or (prework_rates members) (work_rates members)
    (rates_with_block members ∙ e)

-- without a prework the work is the first body too
pub work_first : (names : Scope) (members : List tree.Member)
    → is_some (prework_block members) ≡ false → (work : Routine)
    → IsRoutine names members body.Work work → IsRoutine names members body.Prework work
work_first names members none work w = record {
  code = w.code ∙ ap (stmts_nodes names false) (sym (no_prework_block members none));
  flat = w.flat;
  linked = w.linked;
  limits = w.limits ∙ ap limits_of (sym (no_prework_rates members none));
}

-- the bodies, each where these names can be seen
pub bodies_of : (members : List tree.Member) (names one : Scope) (prework : Option Routine)
    (work : Routine) → one ≡ names → IsRoutine names members body.Work work
    → IsPrework one members prework → AreBodies names members prework work
bodies_of members names one prework work same w p = record {
  first = subst (λ n. IsPrework n members prework) same p work w;
  later = w;
}

-- the parts, each where these names can be seen
pub parts_of : (members : List tree.Member) (names one : Scope) (fields : ℕ) (start : Routine)
    (prework : Option Routine) (work : Routine) (helpers : List HelperCode)
    → names ≡ reverse (sized_fields members) → AreHelpers names members helpers
    → one ≡ names → fields ≡ total names
    → code_of start.code ≡ before (initials_nodes names members) (inits_nodes names members)
    → IsFlat start.flat (code_of start.code) → AreBodies one members prework work
    → IsLinked (helper_names members) start.flat → AreLinkedCodes (helper_names members) helpers
    → AreParts members fields start prework work helpers
parts_of members names one fields start prework work helpers is are same count code flat bodies
    linked all_linked = record {
      count = count ∙ ap total is ∙ total-reverse (sized_fields members);
      initial = code ∙ ap (λ n. before (initials_nodes n members) (inits_nodes n members)) is;
      flat = flat;
      linked = linked;
      bodies = subst (λ n. AreBodies n members prework work) (same ∙ is) bodies;
      helpers_linked = all_linked;
      helpers_are = subst (λ n. AreHelpers n members helpers) is are;
    }
