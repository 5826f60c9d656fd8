-- The expressions that the judgement accepts write no helper function's answer.
use Rattle.std.proofs.Common.{◌≡◌, ℕ, false, ◌||◌, List, [], ◌∷◌, Option, Some, None}
use Rattle.std.proofs.Common.{Result, Ok, Err, refl, sym, ap, ◌∙◌}
use Rattle.std.specs.Prelude.{bytes_eq}
use Rattle.std.proofs.lemmas.Bool.{false≢true}
use Rattle.strc_parse_tree.specs.Tree as tree
use Rattle.strc_lex_names.specs.Names.{plain_names, has_name, value_named}
use Rattle.strc_lex_names.proofs.Scopes.{bytes_eq_other}
use Rattle.strc_work_rules.specs.declared.error.LowerError.{LowerError}
use Rattle.strc_work_meaning.specs.declared.types.ValueType.{ValueType}
use Rattle.strc_work_meaning.specs.Scoping.{Scope, is_declared, answer_name}
use Rattle.strc_work_meaning.specs.Returns.{expr_answers, arguments_answer, option_answers}
use Rattle.strc_work_meaning.specs.Typing.{TypedNames}
use Rattle.strc_work_meaning.specs.Closed.{IsNamed, IsClosed, AreClosedArguments, IsClosedInitial}
use Rattle.strc_work_rules.specs.Resolution.{Context, write_resolved, array_resolved, expr_as}
use Rattle.strc_work_rules.specs.Resolution.{initial_resolved, evaluated}
use Rattle.strc_work_rules.proofs.ResolvingExpressions.{Gives, SeesNames, NoneAnswers, Sees}
use Rattle.strc_work_rules.proofs.ResolvingExpressions.{neither}
use Rattle.strc_work_rules.proofs.ResolvingExpressions.{named_in, declared_by_name, write_gives}
use Rattle.strc_work_rules.proofs.ResolvingExpressions.{array_gives, expr_as_gives, initial_gives}
use Rattle.strc_work_rules.proofs.ResolvingExpressions.{evaluated_gives}

pub both_give : {A : Type 0} (P Q : A → Type 0) (r : Result A LowerError) → Gives P r → Gives Q r
    → Gives (λ (a : A). P a × Q a) r
both_give P Q (Ok a) p q = (p, q)
both_give P Q (Err e) p q = tt

pub gives_more : {A : Type 0} (P Q : A → Type 0) (r : Result A LowerError)
    → ((a : A) → P a → Q a) → Gives P r → Gives Q r
gives_more P Q (Ok a) more h = more a h
gives_more P Q (Err e) more h = tt

-- ---- closed where the answer isn't declared

named_other : (scope : Scope) (name : List ℕ) → is_declared scope answer_name ≡ false
    → IsNamed scope name → bytes_eq answer_name name ≡ false
named_other scope name none named = bytes_eq_other answer_name name
    (λ e. false≢true (sym none ∙ ap (is_declared scope) e ∙ named))

mutual
  closed_spares : (scope : Scope) (e : tree.Expr) → is_declared scope answer_name ≡ false
      → IsClosed scope e → expr_answers e ≡ false
  closed_spares scope (tree.Number value) none h = refl
  closed_spares scope (tree.Truth value) none h = refl
  closed_spares scope (tree.Read name) none h = refl
  closed_spares scope (tree.Element name index) none h = closed_spares scope index none h.1
  closed_spares scope tree.Pop none h = refl
  closed_spares scope (tree.Peek index) none h = closed_spares scope index none h
  closed_spares scope (tree.Call name arguments) none h = arguments_spare scope arguments none h
  closed_spares scope (tree.Group inner) none h = closed_spares scope inner none h
  closed_spares scope (tree.Unary operator operand) none h = closed_spares scope operand none h
  closed_spares scope (tree.Step operator name) none h = named_other scope name none h
  closed_spares scope (tree.StepElement operator name index) none h =
      neither (bytes_eq answer_name name) (expr_answers index) (named_other scope name none h.0)
      (closed_spares scope index none h.1)
  closed_spares scope (tree.Binary operator left right) none h =
      neither (expr_answers left) (expr_answers right) (closed_spares scope left none h.0)
      (closed_spares scope right none h.1)
  closed_spares scope (tree.Conditional condition chosen other) none h =
      neither (expr_answers condition) (expr_answers chosen || expr_answers other)
      (closed_spares scope condition none h.0)
      (neither (expr_answers chosen) (expr_answers other) (closed_spares scope chosen none h.1)
      (closed_spares scope other none h.2))

  arguments_spare : (scope : Scope) (arguments : tree.Arguments)
      → is_declared scope answer_name ≡ false → AreClosedArguments scope arguments
      → arguments_answer arguments ≡ false
  arguments_spare scope tree.NoArgument none h = refl
  arguments_spare scope (tree.Argument first rest) none h =
      neither (expr_answers first) (arguments_answer rest) (closed_spares scope first none h.0)
      (arguments_spare scope rest none h.1)

initial_spares : (scope : Scope) (initial : Option tree.Expr)
    → is_declared scope answer_name ≡ false → IsClosedInitial scope initial
    → option_answers initial ≡ false
initial_spares scope None none h = refl
initial_spares scope (Some value) none h = closed_spares scope value none h

-- ---- a scope of the names alone

abbrev bare : TypedNames → Scope
bare [] = []
bare (first ∷ rest) = record { 0 = first.0; 1 = 1 } ∷ bare rest

plain_bare : (names : TypedNames) → plain_names (bare names) ≡ plain_names names
plain_bare [] = refl
plain_bare (first ∷ rest) = ap (λ l. first.0 ∷ l) (plain_bare rest)

-- what is closed in each scope of the names is so where the answer isn't declared
in_bare : {A : Type 0} (P : Scope → A → Type 0) (Q : A → Type 0) (scope : Scope)
    (names : TypedNames) (r : Result A LowerError) → SeesNames scope names → NoneAnswers names
    → ((scope' : Scope) → SeesNames scope' names → Gives (P scope') r)
    → ((scope' : Scope) → is_declared scope' answer_name ≡ false → (a : A) → P scope' a → Q a)
    → Gives (λ (a : A). P scope a × Q a) r
in_bare P Q scope names r sees none gives spares =
    let seen : SeesNames (bare names) names =
    λ name there. named_in (bare names) (plain_names names) name (plain_bare names) there in
    let other = declared_by_name (bare names) answer_name
    ∙ ap (λ l. has_name l answer_name) (plain_bare names) ∙ none in
    both_give (P scope) Q r (gives scope sees)
    (gives_more (P (bare names)) Q r (spares (bare names) other) (gives (bare names) seen))

-- ---- what the judgement gives

-- a closed expression that doesn't write the answer
abbrev pub IsSparing : Scope → tree.Expr → Type 0
IsSparing scope e = IsClosed scope e × (expr_answers e ≡ false)

abbrev pub IsSparingInitial : Scope → Option tree.Expr → Type 0
IsSparingInitial scope initial =
    IsClosedInitial scope initial × (option_answers initial ≡ false)

-- a name of a variable that isn't the answer
abbrev pub IsOther : Scope → List ℕ → Type 0
IsOther scope name = IsNamed scope name × (bytes_eq answer_name name ≡ false)

pub written_other : (context : Context) (scope : Scope) (names : TypedNames) (name : List ℕ)
    → Sees context scope names
    → Gives (λ (kind : ValueType). IsOther scope name) (write_resolved context names name)
written_other context scope names name sees =
    in_bare (λ scope' (kind : ValueType). IsNamed scope' name)
    (λ (kind : ValueType). bytes_eq answer_name name ≡ false) scope names
    (write_resolved context names name) sees.0 sees.2
    (λ scope' seen. write_gives context scope' names name (value_named names name) seen refl)
    (λ scope' none kind h. named_other scope' name none h)

pub array_other : (context : Context) (scope : Scope) (names : TypedNames) (name : List ℕ)
    → Sees context scope names → Gives (IsOther scope) (array_resolved context names name)
array_other context scope names name sees =
    in_bare IsNamed (λ n. bytes_eq answer_name n ≡ false) scope names
    (array_resolved context names name) sees.0 sees.2
    (λ scope' seen. array_gives context scope' names name seen)
    (λ scope' none n h. named_other scope' n none h)

pub as_spares : (context : Context) (scope : Scope) (names : TypedNames) (kind : ValueType)
    (e : tree.Expr) → Sees context scope names
    → Gives (IsSparing scope) (expr_as context names kind e)
as_spares context scope names kind e sees =
    in_bare IsClosed (λ e'. expr_answers e' ≡ false) scope names
    (expr_as context names kind e) sees.0 sees.2
    (λ scope' seen. expr_as_gives context scope' names kind e seen)
    (λ scope' none e' h. closed_spares scope' e' none h)

pub initial_given : (context : Context) (scope : Scope) (names : TypedNames) (kind : ValueType)
    (initial : Option tree.Expr) → Sees context scope names
    → Gives (IsSparingInitial scope) (initial_resolved context names kind initial)
initial_given context scope names kind initial sees =
    in_bare IsClosedInitial (λ i. option_answers i ≡ false) scope names
    (initial_resolved context names kind initial) sees.0 sees.2
    (λ scope' seen. initial_gives context scope' names kind initial seen)
    (λ scope' none i h. initial_spares scope' i none h)

pub evaluated_spares : (context : Context) (scope : Scope) (names : TypedNames) (e : tree.Expr)
    → Sees context scope names → Gives (IsSparing scope) (evaluated context names e)
evaluated_spares context scope names e sees =
    in_bare IsClosed (λ e'. expr_answers e' ≡ false) scope names
    (evaluated context names e) sees.0 sees.2
    (λ scope' seen. evaluated_gives context scope' names e seen)
    (λ scope' none e' h. closed_spares scope' e' none h)
