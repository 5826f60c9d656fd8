-- Anonymous children, as their texts.
use Rattle.std.proofs.Common.{◌≡◌, ℕ, false, not, List, [], ◌∷◌, length, map, Vec, Option, Some}
use Rattle.std.proofs.Common.{None, Result, Err, refl, sym, ap, ◌∙◌, eq-eqb}
use Rattle.std.specs.declared.alloc.Global.{Global}
use Rattle.strc_parse_tree.specs.Tree as tree
use Rattle.strc_parse_tree.specs.Tree.{chain}
use Rattle.strc_parse_tree.specs.View.{member_view, child_view, block_view}
use Rattle.strc_parse_tree.specs.declared.tree.StreamType.{StreamType}
use Rattle.strc_parse_tree.specs.declared.tree.CompositeKind.{CompositeKind}
use Rattle.strc_parse_tree.specs.declared.tree.Role.{Role}
use Rattle.strc_parse_tree.specs.declared.tree.Member.{Member}
use Rattle.strc_parse_tree.specs.declared.tree.Stmt.{Stmt}
use Rattle.strc_parse_tree.specs.declared.tree.Child.{Filter, Composite}
use Rattle.strc_parse_tree.proofs.Views.{child_view_filter, child_view_composite, row_of_views}
use Rattle.strc_work_meaning.specs.Filters.{filter_parts}
use Rattle.strc_elab.specs.Elaboration.{Setting, Progress, Elaborated, Found, child_run, found_run}
use Rattle.strc_elab.specs.Elaboration.{unnamed_found, named_found, child_added, arguments_given}
use Rattle.strc_elab.specs.Elaboration.{where_kept, child_found}
use Rattle.strc_work_meaning.specs.Typing.{TypedNames}
use Rattle.strc_elab_statements.specs.Texts.{Constants, FilterText, CompositeText, listed}
use Rattle.strc_elab_statements.specs.Texts.{parameters_of}
use Rattle.strc_elab_statements.specs.Texts.{is_doubled, text_of}
use Rattle.strc_elab_statements.specs.declared.error.ElabError.{ElabError}
use Rattle.strc_elab_statements.specs.declared.error.ElabErrorKind.TheVariants as refused
use Rattle.strc_lex_names.specs.Results.{result_and_then}
use Rattle.strc_work_meaning.specs.Firing as firing
use Rattle.strc_parse_tree.specs.declared.tree.Role.TheVariants as roles
use Rattle.std.specs.Prelude.{Ok}

listed_chain : (members : List tree.Member) → listed (chain members) ≡ members
listed_chain [] = refl
listed_chain (first ∷ rest) = ap (λ (l : List tree.Member). first ∷ l) (listed_chain rest)

-- an anonymous filter's text is that of its members
pub filter_found : (setting : Setting) (names : TypedNames) (types : StreamType)
    (members : Vec Member Global) (store : firing.Store)
    → child_found setting names (child_view (Filter types members)) store
    ≡ Ok (unnamed_found setting names
    (FilterText None (filter_parts types.input types.output members.items)) store)
filter_found setting names types members store =
    ap (λ child. child_found setting names child store) (child_view_filter types members)
    ∙ ap (λ (l : List tree.Member). Ok (unnamed_found setting names (FilterText None
    (record { input = types.input; output = types.output; members = l })) store))
    (listed_chain (map member_view members.items))

pub filter_child : (setting : Setting) (names : TypedNames) (role : Role) (types : StreamType)
    (members : Vec Member Global) (progress : Progress)
    → child_run setting names role (child_view (Filter types members)) progress
    ≡ found_run setting role (Ok (unnamed_found setting names
    (FilterText None (filter_parts types.input types.output members.items)) progress.store))
    progress
filter_child setting names role types members progress =
    ap (λ found. found_run setting role found progress)
    (filter_found setting names types members progress.store)

-- an anonymous composite stream's text is that of its block
pub composite_found : (setting : Setting) (names : TypedNames) (written : Option StreamType)
    (kind : CompositeKind) (block : Vec Stmt Global) (store : firing.Store)
    → child_found setting names (child_view (Composite written kind block)) store
    ≡ Ok (unnamed_found setting names (CompositeText written kind (block_view block.items)) store)
composite_found setting names written kind block store =
    ap (λ child. child_found setting names child store) (child_view_composite written kind block)
    ∙ ap (λ body. Ok (unnamed_found setting names (CompositeText written kind body) store))
    (sym (row_of_views block.items))

pub composite_child : (setting : Setting) (names : TypedNames) (role : Role)
    (written : Option StreamType) (kind : CompositeKind) (block : Vec Stmt Global)
    (progress : Progress)
    → child_run setting names role (child_view (Composite written kind block)) progress
    ≡ found_run setting role (Ok (unnamed_found setting names
    (CompositeText written kind (block_view block.items)) progress.store)) progress
composite_child setting names role written kind block progress =
    ap (λ found. found_run setting role found progress)
    (composite_found setting names written kind block progress.store)

-- a child is added to a body whose store is given anew
added_anew : (setting : Setting) (role : Role) (progress : Progress) (before after : firing.Store)
    (elaborated : Elaborated)
    → child_added setting role (record progress { store = before }) after elaborated
    ≡ child_added setting role progress after elaborated
added_anew setting roles.Add progress before after elaborated = refl
added_anew setting roles.Body progress before after elaborated = refl
added_anew setting roles.Loop progress before after elaborated = refl

pub found_anew : (setting : Setting) (role : Role) (found : Found) (progress : Progress)
    (before : firing.Store) → found_run setting role (Ok found) (record progress { store = before })
    ≡ found_run setting role (Ok found) progress
found_anew setting role found progress before =
    by_elaborated (setting.elaborate found.place found.text
    (record { turns = found.store.traffic.turns; filters = progress.filters }))
  where
    by_elaborated : (r : Result Elaborated ElabError)
        → result_and_then r (λ elaborated. child_added setting role
        (record progress { store = before }) found.store elaborated)
        ≡ result_and_then r (λ elaborated. child_added setting role progress found.store elaborated)
    by_elaborated (Ok elaborated) = added_anew setting role progress before found.store elaborated
    by_elaborated (Err refusal) = refl

-- a child by its name, with as many arguments as it has parameters
pub called_found : (setting : Setting) (names : TypedNames) (name : List ℕ) (number : ℕ)
    (declaration : tree.Declaration) (arguments : List tree.Expr) (store after : firing.Store)
    (bound : Constants) → (length arguments ≡ length (parameters_of declaration))
    → arguments_given setting names (parameters_of declaration) arguments [] store
    ≡ Ok (bound, after)
    → is_doubled (parameters_of declaration) ≡ false
    → named_found setting names name (Some (number, declaration)) arguments store
    ≡ Ok (record {
      place = record { declaration = number; constants = bound };
      text = text_of declaration.name declaration.stream;
      store = after;
    })
called_found setting names name number declaration arguments store after bound same given plain =
    let found : Found = record {
      place = record { declaration = number; constants = bound };
      text = text_of declaration.name declaration.stream;
      store = after;
    } in
    let rest : Constants × firing.Store → Result Found ElabError = λ b.
    where_kept (not (is_doubled (parameters_of declaration))) (refused.TypeMismatch number)
    (Ok (record {
      place = record { declaration = number; constants = b.0 };
      text = text_of declaration.name declaration.stream;
      store = b.1;
    })) in
    ap (λ t. where_kept t (refused.BadArguments setting.place.declaration)
    (result_and_then (arguments_given setting names (parameters_of declaration) arguments [] store)
    rest)) (eq-eqb (length arguments) (length (parameters_of declaration)) same)
    ∙ ap (λ r. result_and_then r rest) given
    ∙ ap (λ t. where_kept (not t) (refused.TypeMismatch number) (Ok found)) plain
