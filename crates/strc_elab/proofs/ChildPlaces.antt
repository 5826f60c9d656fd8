-- Where children are refused.
use Rattle.std.proofs.Common.{◌≡◌, Option, None, Ok, Vec, Global, ap, ◌∙◌}
use Rattle.strc_parse_tree.specs.View.{block_view}
use Rattle.strc_parse_tree.specs.declared.tree.StreamType.{StreamType}
use Rattle.strc_parse_tree.specs.declared.tree.CompositeKind.{CompositeKind}
use Rattle.strc_parse_tree.specs.declared.tree.Member.{Member}
use Rattle.strc_parse_tree.specs.declared.tree.Role.{Role}
use Rattle.strc_parse_tree.specs.declared.tree.Stmt.{Stmt}
use Rattle.strc_parse_tree.specs.declared.tree.Child.{Filter, Composite}
use Rattle.strc_work_meaning.specs.Filters.{filter_parts}
use Rattle.strc_work_meaning.specs.Typing.{TypedNames}
use Rattle.strc_elab_statements.specs.Texts.{FilterText, CompositeText}
use Rattle.strc_elab.specs.Elaboration.{Progress, unnamed_found}
use Rattle.strc_elab.specs.Places.{Tracing, child_trace, found_trace}
use Rattle.strc_elab.specs.declared.trace.Trace.{Trace}
use Rattle.strc_elab.specs.Sources.{FilterSource, CompositeSource, child_source}
use Rattle.strc_elab.proofs.BodyPlaces.{child_source-Filter, child_source-Composite}
use Rattle.strc_elab.proofs.Children.{filter_found, composite_found}

-- an anonymous filter is traced as its text is
pub filter_child_trace : (tracing : Tracing) (names : TypedNames) (types : StreamType)
    (role : Role) (members : Vec Member Global) (progress : Progress) (trace : Trace)
    → child_trace tracing names role (Filter types members) progress trace
    ≡ found_trace tracing role (Ok (unnamed_found tracing.setting names
    (FilterText None (filter_parts types.input types.output members.items)) progress.store))
    (FilterSource types members.items) progress trace
filter_child_trace tracing names types role members progress trace =
    ap (λ found. found_trace tracing role found
    (child_source tracing.declarations (Filter types members)) progress trace)
    (filter_found tracing.setting names types members progress.store)
    ∙ ap (λ source. found_trace tracing role (Ok (unnamed_found tracing.setting names
    (FilterText None (filter_parts types.input types.output members.items)) progress.store)) source
    progress trace) (child_source-Filter tracing.declarations types members)

-- and so is an anonymous composite stream
pub composite_child_trace : (tracing : Tracing) (names : TypedNames) (written : Option StreamType)
    (kind : CompositeKind) (block : Vec Stmt Global) (role : Role) (progress : Progress)
    (trace : Trace)
    → child_trace tracing names role (Composite written kind block) progress trace
    ≡ found_trace tracing role (Ok (unnamed_found tracing.setting names
    (CompositeText written kind (block_view block.items)) progress.store))
    (CompositeSource written kind block.items) progress trace
composite_child_trace tracing names written kind block role progress trace =
    ap (λ found. found_trace tracing role found
    (child_source tracing.declarations (Composite written kind block)) progress trace)
    (composite_found tracing.setting names written kind block progress.store)
    ∙ ap (λ source. found_trace tracing role (Ok (unnamed_found tracing.setting names
    (CompositeText written kind (block_view block.items)) progress.store)) source progress trace)
    (child_source-Composite tracing.declarations written kind block)
