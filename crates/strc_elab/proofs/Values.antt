-- Values that are evaluated one after another.
use Rattle.std.proofs.Common.{◌≡◌, ◌∙◌, sym, ap, ℕ, ℤ, ◌+◌, ◌<◌, List, [], ◌∷◌, ◌++◌, length, drop}
use Rattle.std.proofs.Common.{map, get_or, Result, Ok}
use Rattle.std.proofs.lemmas.List.{drop_more}
use Rattle.strc_lex_names.proofs.Lists.{map-drop}
use Rattle.strc_lex_names.specs.Results.{result_and_then}
use Rattle.strc_parse_tree.specs.View.{expr_view}
use Rattle.strc_parse_tree.specs.declared.tree.Expr.{Expr}
use Rattle.strc_work_meaning.specs.Firing.{Store}
use Rattle.strc_work_meaning.specs.Typing.{TypedNames}
use Rattle.strc_work_meaning.specs.declared.types.ValueType.TheVariants as kind
use Rattle.strc_elab_statements.specs.Statements.{eval_checked}
use Rattle.strc_elab_statements.specs.Texts.{Constants}
use Rattle.strc_elab_statements.specs.declared.error.ElabError.{ElabError}
use Rattle.strc_elab.specs.Elaboration.{Setting, values_evaluated, arguments_given}

module _ (setting : Setting) (names : TypedNames) (before after : Store) (value : ℤ) where
  -- one more weight is evaluated, and those after it are left
  pub one_value_more : (weights : List Expr) (i : ℕ) (weight : Expr) → i < length weights
      → weight ≡ get_or weights i weight
      → eval_checked setting.place names kind.Int (expr_view weight) before ≡ Ok (value, after)
      → (values more : List ℤ) → more ≡ values ++ value ∷ []
      → (whole : Result (List ℤ × Store) ElabError)
      → values_evaluated setting names (map expr_view (drop i weights)) values before ≡ whole
      → values_evaluated setting names (map expr_view (drop (i + 1) weights)) more after ≡ whole
  one_value_more weights i weight within at evaluated values more added whole left =
      let rest = map expr_view (drop (i + 1) weights) in
      ap (λ l. values_evaluated setting names rest l after) added
      ∙ sym (ap (λ r. result_and_then r (λ v. values_evaluated setting names rest
      (values ++ v.0 ∷ []) v.1)) evaluated)
      ∙ sym (ap (λ l. values_evaluated setting names l values before)
      (map-drop expr_view weights i weight within at)) ∙ left

  -- one more argument is evaluated and bound, and those after it are left
  pub one_argument_more : (parameters : List (List ℕ)) (arguments : List Expr) (i : ℕ)
      (parameter : List ℕ) (argument : Expr) → i < length parameters
      → parameter ≡ get_or parameters i parameter → i < length arguments
      → argument ≡ get_or arguments i argument
      → eval_checked setting.place names kind.Int (expr_view argument) before ≡ Ok (value, after)
      → (bound more : Constants) → more ≡ (parameter, value) ∷ bound
      → (whole : Result (Constants × Store) ElabError)
      → arguments_given setting names (drop i parameters) (map expr_view (drop i arguments)) bound
      before ≡ whole
      → arguments_given setting names (drop (i + 1) parameters)
      (map expr_view (drop (i + 1) arguments)) more after ≡ whole
  one_argument_more parameters arguments i parameter argument within at inside here evaluated bound
      more added whole left =
      let names_left = drop (i + 1) parameters in
      let rest = map expr_view (drop (i + 1) arguments) in
      let own : drop i parameters ≡ parameter ∷ names_left =
      drop_more parameters i parameter within ∙ ap (λ p. p ∷ names_left) (sym at) in
      ap (λ b. arguments_given setting names names_left rest b after) added
      ∙ sym (ap (λ r. result_and_then r (λ v. arguments_given setting names names_left rest
      ((parameter, v.0) ∷ bound) v.1)) evaluated)
      ∙ sym (ap (λ l. arguments_given setting names l (map expr_view (drop i arguments)) bound
      before) own ∙ ap (λ l. arguments_given setting names (parameter ∷ names_left) l bound before)
      (map-drop expr_view arguments i argument inside here)) ∙ left
