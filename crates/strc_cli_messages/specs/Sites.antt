-- Where a refusal's rule is broken: at the statement that is refused, or at a name or a token.
use Rattle.std.specs.Prelude.{ℕ, nat_le, Bool, false, ◌||◌, ◌&&◌, if◌then◌else◌, bytes_eq, is_some}
use Rattle.std.specs.Prelude.{List, length, ◌-◌, slice_get, Option, Some, None}
use Rattle.std.specs.List.{list_any}
use Rattle.std.specs.Option.{option_or}
use Rattle.strc_lex_names.specs.declared.place.Span.{Span}
use Rattle.strc_lex.specs.declared.token.Token.{Token}
use Rattle.strc_parse_tree.specs.declared.tree.Decl.{Decl}
use Rattle.strc_parse_tree.specs.declared.tree.Program.{Program}
use Rattle.strc_parse_tree.specs.View.{declaration_view}
use Rattle.strc_work_rules.specs.declared.site.Site.{Site}
use Rattle.strc_elab_statements.specs.Texts.{parameters_of}
use Rattle.strc_run_refusal.specs.declared.placed_refusal.PlacedRefusal.{PlacedRefusal}
use Rattle.strc_run_refusal.specs.declared.refusal.Refusal.{Refusal}
use Rattle.strc_run_refusal.specs.declared.refusal.Refusal.TheVariants as refusal
use Rattle.strc_cli_source.specs.Spelling.{between}
use Rattle.strc_cli_places.specs.Parts.{declaration_at}
use Rattle.strc_cli_places.specs.Streams.{declared_as}

-- a place is within another
abbrev pub is_within : (inner outer : Span) → Bool
is_within inner outer = nat_le outer.start inner.start && nat_le inner.end outer.end

-- these bytes are the name of a parameter of a declaration
abbrev pub is_parameter : List ℕ → Decl → Bool
is_parameter bytes declaration =
    list_any (λ name. bytes_eq name bytes) (parameters_of (declaration_view declaration))

-- or its own name
abbrev pub is_declared_name : List ℕ → Decl → Bool
is_declared_name bytes declaration =
    bytes_eq declaration.name bytes || is_parameter bytes declaration

abbrev pub is_in_head : List ℕ → Option Decl → Bool
is_in_head bytes None = false
is_in_head bytes (Some declaration) = is_declared_name bytes declaration

-- a rule can be broken by a name: by one within the statement, or by one in the head of the
-- declaration whose own text breaks it
abbrev pub is_name : (text : List ℕ) → Option Program → Refusal → (statement place : Span) → Bool
is_name text program (refusal.UnknownName name) statement place = is_within place statement
is_name text program (refusal.TypeMismatch stream) statement place = is_within place statement
    || is_in_head (between text place) (declaration_at program stream)
is_name text program (refusal.BadWeights stream) statement place =
    is_in_head (between text place) (declaration_at program stream)
is_name text program (refusal.ConstFault cause) statement place =
    is_some (declared_as (between text place) program)
is_name text program refused statement place = false

-- the part of the text that breaks a rule: the statement, or where it is known the name
abbrev pub part_of : (text : List ℕ) → Option Program → Refusal → (statement : Span)
    → (name : Option Span) → Span
part_of text program refused statement None = statement
part_of text program refused statement (Some name) =
    if is_name text program refused statement name then name else statement

-- the place before a byte
abbrev pub before : ℕ → Span
before byte = record { start = byte; end = byte }

-- where a row of tokens ends
abbrev pub end_of : Option Token → ℕ
end_of None = 0
end_of (Some last) = last.span.end

-- the place of a token, by its number; where the text ends too soon it is after the last one
abbrev pub place_or_end : Option Token → (last : Option Token) → Span
place_or_end (Some found) last = found.span
place_or_end None last = before (end_of last)

abbrev pub token_place : List Token → (token : ℕ) → Span
token_place tokens token =
    place_or_end (slice_get tokens token) (slice_get tokens (length tokens - 1))

-- where a text can't be read: the byte at which no token begins, or the token that can't follow
abbrev pub unread_at : List Token → Refusal → Option Span
unread_at tokens (refusal.Lex at) = Some (before at)
unread_at tokens (refusal.Parse token) = Some (token_place tokens token)
unread_at tokens refused = None

-- where a rule is broken that no statement breaks: where a text can't be read, or at the own place
-- of the refusal
abbrev pub place_of : (text : List ℕ) → List Token → Option Program → Refusal
    → (statement name : Option Span) → Option Span
place_of text tokens program refused None name = option_or (unread_at tokens refused) name
place_of text tokens program refused (Some statement) name =
    Some (part_of text program refused statement name)

-- where a refusal's rule is broken, and which rule of types, kinds and parts it is
abbrev pub site_of : (text : List ℕ) → List Token → Option Program → PlacedRefusal → Site
site_of text tokens program placed =
    record {
      place =
          place_of text tokens program placed.refusal placed.statement placed.site.place;
      mismatch = placed.site.mismatch;
      trapped = placed.site.trapped;
    }
