-- How rates, the bodies of filters, kinds of composite streams and their parts are written.
use Rattle.std.specs.Prelude.{List, is_some, if◌then◌else◌}
use Rattle.strc_lex.specs.declared.token.Keyword.{Keyword}
use Rattle.strc_lex.specs.declared.token.Keyword.TheVariants as keyword
use Rattle.strc_parse_tree.specs.declared.tree.RateKind.{RateKind}
use Rattle.strc_parse_tree.specs.declared.tree.RateKind.TheVariants as rate
use Rattle.strc_parse_tree.specs.declared.tree.CompositeKind.{CompositeKind}
use Rattle.strc_parse_tree.specs.declared.tree.CompositeKind.TheVariants as composite
use Rattle.strc_parse_tree.specs.Tree as tree
use Rattle.strc_work_meaning.specs.declared.body.Body.{Body}
use Rattle.strc_work_meaning.specs.declared.body.Body.TheVariants as body
use Rattle.strc_work_meaning.specs.Filters.{prework_block, body_rates, has_rate}
use Rattle.strc_work_rules.specs.declared.site.Part.{Part}
use Rattle.strc_work_rules.specs.declared.site.Part.TheVariants as part

abbrev pub rate_keyword : RateKind → Keyword
rate_keyword rate.Push = keyword.Push
rate_keyword rate.Pop = keyword.Pop
rate_keyword rate.Peek = keyword.Peek

abbrev pub body_keyword : Body → Keyword
body_keyword body.Prework = keyword.Prework
body_keyword body.Work = keyword.Work

-- the body in the text that is run as this one: without a prework each is the work
abbrev pub written_body : Body → List tree.Member → Body
written_body body.Prework members = if is_some (prework_block members) then body.Prework
    else body.Work
written_body body.Work members = body.Work

-- what a rate of a body is known by: its own keyword where it is written, else that of the body
abbrev pub declared_keyword : RateKind → Body → List tree.Member → Keyword
declared_keyword side body members = if has_rate side (body_rates body members)
    then rate_keyword side else body_keyword (written_body body members)

abbrev pub kind_keyword : CompositeKind → Keyword
kind_keyword composite.Pipeline = keyword.Pipeline
kind_keyword composite.Splitjoin = keyword.Splitjoin
kind_keyword composite.Feedbackloop = keyword.Feedbackloop

abbrev pub part_keyword : Part → Keyword
part_keyword part.Add = keyword.Add
part_keyword part.Body = keyword.Body
part_keyword part.Loop = keyword.Loop
part_keyword part.Split = keyword.Split
part_keyword part.Join = keyword.Join
part_keyword part.Enqueue = keyword.Enqueue
