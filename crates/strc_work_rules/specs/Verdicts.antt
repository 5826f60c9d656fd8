-- How code answers a judgement: with what it gives, or with its refusal, or because memory ran out.
use Rattle.std.specs.Prelude.{◌≡◌, map, Result, Ok, Err, Vec}
use Rattle.std.specs.Option.{option_map}
use Rattle.std.specs.declared.alloc.Global.{Global}
use Rattle.strc_parse_tree.specs.View.{expr_view, type_view, rate_view, block_view}
use Rattle.strc_lex_names.specs.declared.name.Name.{Name}
use Rattle.strc_parse_tree.specs.declared.tree.Expr.{Expr}
use Rattle.strc_parse_tree.specs.declared.tree.Stmt.{Stmt}
use Rattle.strc_parse_tree.specs.declared.tree.Variable.{Variable}
use Rattle.strc_parse_tree.specs.declared.tree.RateTree.{RateTree}
use Rattle.strc_work_rules.specs.declared.error.LowerError.{LowerError}
use Rattle.strc_work_rules.specs.declared.error.LowerErrorKind.TheVariants as refused
use Rattle.strc_work_rules.specs.declared.resolution.ResolvedWork.{ResolvedWork}
use Rattle.strc_work_rules.specs.declared.context.Context.{Context}
use Rattle.strc_work_rules.specs.declared.type_rules.ResolvedType.{ResolvedType}
use Rattle.strc_work_rules.specs.declared.typed_expression.Typed.{Typed}
use Rattle.strc_work_rules.specs.declared.typed_expression.Called.{Called}
use Rattle.strc_work_rules.specs.Resolution as judged

-- the judgement's refusal, if it isn't out of memory
abbrev pub IsRefusal : {A : Type 0} → Result A LowerError → LowerError → Type 0
IsRefusal expected (refused.UnknownName name) = expected ≡ Err (refused.UnknownName name)
IsRefusal expected refused.TypeMismatch = expected ≡ Err refused.TypeMismatch
IsRefusal expected (refused.ConstFault cause) = expected ≡ Err (refused.ConstFault cause)
IsRefusal expected refused.BadArguments = expected ≡ Err refused.BadArguments
IsRefusal expected refused.NoMemory = Unit {0}

-- the answer x is the judgement's, seen by a view
abbrev pub IsVerdict : {X A : Type 0} → (X → A) → Result A LowerError → Result X LowerError → Type 0
IsVerdict view expected (Ok x) = expected ≡ Ok (view x)
IsVerdict view expected (Err refusal) = IsRefusal expected refusal

-- a site as the judgement sees it
abbrev pub context_of : Context → judged.Context
context_of context = record {
  constants = context.constants.now;
  pops = context.pops;
  pushes = context.pushes;
  prints = context.prints;
  constants_only = context.constants_only;
  helpers = option_map (λ helpers. helpers.now) context.helpers;
  returns = context.returns;
}

-- a typed expression as the judgement sees it
abbrev pub typed_view : Typed → judged.Typed
typed_view typed = record { kind = typed.kind; value = expr_view typed.value }

-- a call as the judgement sees it
abbrev pub called_view : Called → judged.Called
called_view called = record { kind = called.kind; call = expr_view called.call }

-- a declared type as the judgement sees it
abbrev pub declared_view : ResolvedType → judged.ResolvedType
declared_view resolved = record { kind = resolved.kind; written = type_view resolved.written }

-- a body with its rates as the judgement sees it
abbrev pub work_view : ResolvedWork → judged.Work
work_view work = record {
  rates = map rate_view work.rates.items;
  block =
      block_view work.block.items;
}

-- a list of statements, of variables, and of rates
abbrev pub Statements : Type 0
Statements = Vec Stmt Global

abbrev pub VariableList : Type 0
VariableList = Vec Variable Global

abbrev pub RateList : Type 0
RateList = Vec RateTree Global

-- a list of arguments, and of parameters' names
abbrev pub ExprList : Type 0
ExprList = Vec Expr Global

abbrev pub NameList : Type 0
NameList = Vec Name Global
