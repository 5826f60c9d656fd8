-- A text has one token list, and where the lexer stops none goes on.
use Rattle.std.proofs.Common.{◌≡◌, ℕ, ◌+◌, ◌-◌, ◌<◌, ◌≤◌, List, [], ◌∷◌, ◌++◌, length, take, drop}
use Rattle.std.proofs.Common.{refl, ap, arith, ◌∙◌, sym, subst, Option, Some, None, inl, inr}
use Rattle.std.proofs.Common.{IfSome, IfNone, length-drop}
use Rattle.std.proofs.lemmas.Bool.{both_ways}
use Rattle.strc_lex.specs.Characters.{is_white}
use Rattle.strc_lex.specs.Trivia.{IsComment, IsBlank, IsTrivia, IsTriviaRun}
use Rattle.strc_lex.specs.Text.{IsToken, IsAt, LexesBetween, IsStuck}
use Rattle.strc_lex.specs.Scanning.{token_at}
use Rattle.strc_lex.specs.declared.token.TokenKind.{TokenKind}
use Rattle.strc_lex.specs.declared.token.Token.{Token}
use Rattle.strc_lex.proofs.Finding.{some_same, none_is_not_some}
use Rattle.strc_lex.proofs.Lexemes.{lexeme_begins, begins_black}
use Rattle.strc_lex.proofs.TriviaRuns.{trivia_end, bare_end}
use Rattle.strc_lex.proofs.Only.{token_only}
use Rattle.strc_lex.proofs.Tokens.{token_meets}

-- a token is within the text
pub within_text : (text : List ℕ) (item : Token) → IsAt text item
    → item.span.end ≤ length text
within_text text item is_at = let within = is_at.token.within in let rest =
    length-drop
    item.span.start text in
    let ordered =
    is_at.ordered in
    omega arith

-- where there is white space or a comment, no token begins

token_not_blank : (text : List ℕ) (kind : TokenKind) (len size : ℕ) → IsToken text kind len
    → IsBlank text size → ⊥
token_not_blank [] kind len size token blank = absurd blank
token_not_blank (b ∷ rest) kind len size token blank =
    both_ways (is_white b) (begins_black kind b (lexeme_begins kind b rest len token.lexeme).1)
    blank.0

opened : (a b : ℕ) (text : List ℕ) → take 2 text ≡ a ∷ b ∷ [] → text ≡ a ∷ b ∷ drop 2 text
opened a b [] e = absurd (cc)
opened a b (x ∷ []) e = absurd (cc)
opened a b (x ∷ y ∷ rest) e = cc

-- the scanner finds nothing where a comment begins
token_at_comment : (text : List ℕ) (len : ℕ) → IsComment text len → token_at text ≡ None
token_at_comment text len (inl line) = subst (λ bytes. token_at bytes ≡ None)
    (sym (opened 47 47 text line.opens)) refl
token_at_comment text len (inr block) = subst (λ bytes. token_at bytes ≡ None)
    (sym (opened 47 42 text block.opens)) refl

token_bare : (text : List ℕ) (kind : TokenKind) (len size : ℕ) → IsToken text kind len
    → IsTrivia text size → ⊥
token_bare text kind len size token (inl blank) = token_not_blank text kind len size token blank
token_bare text kind len size token (inr comment) =
    none_is_not_some (kind, len) (sym (token_at_comment text size comment)
    ∙ token_only text kind len token)

pub bare_at_end : (text : List ℕ) (item : Token) → IsAt text item → (size : ℕ)
    → IsTrivia (drop item.span.start text) size → ⊥
bare_at_end text item is_at size trivia =
    token_bare (drop item.span.start text) item.kind
    (item.span.end - item.span.start) size is_at.token trivia

-- one more token, and the trivia_run after it
pub lexes_push : (text : List ℕ) (from : ℕ) (tokens : List Token) (item : Token) (to : ℕ)
    → LexesBetween text from tokens item.span.start → IsAt text item
    → IsTriviaRun text item.span.end to → LexesBetween text from (tokens ++ item ∷ []) to
lexes_push text from [] item to front is_at trivia_run = (front, is_at, trivia_run)
lexes_push text from (first ∷ tokens) item to front is_at trivia_run =
    (front.0, front.1, lexes_push text first.span.end tokens item to front.2 is_at trivia_run)

abbrev token_of : TokenKind → ℕ → ℕ → Token
token_of kind start end = record { kind = kind; span = record { start = start; end = end } }

token_same : (t u : Token) → t.kind ≡ u.kind → t.span.start ≡ u.span.start → t.span.end ≡ u.span.end
    → t ≡ u
token_same t u kind start end = ap (λ k. token_of k t.span.start t.span.end) kind
    ∙ ap (λ s. token_of u.kind s t.span.end) start ∙ ap (λ e. token_of u.kind u.span.start e) end

-- two tokens after one place are one
same_token : (text : List ℕ) (from : ℕ) (t u : Token) → IsTriviaRun text from t.span.start
    → IsAt text t → IsTriviaRun text from u.span.start → IsAt text u → t ≡ u
same_token text from t u trivia_run_t at_t trivia_run_u at_u =
    let start = trivia_end text from t.span.start u.span.start trivia_run_t trivia_run_u
    (bare_at_end text t at_t) (bare_at_end text u at_u) in
    let here = token_only (drop t.span.start text) t.kind
    (t.span.end - t.span.start) at_t.token in
    let there = token_only (drop u.span.start text) u.kind
    (u.span.end - u.span.start) at_u.token in
    let pair : ◌≡◌ {A = TokenKind × ℕ} (t.kind, t.span.end - t.span.start)
    (u.kind, u.span.end - u.span.start) =
    some_same (sym here ∙ ap (λ s. token_at (drop s text)) start ∙ there) in
    let size : t.span.end - t.span.start ≡ u.span.end - u.span.start =
    ap (λ (p : TokenKind × ℕ). p.1) pair in
    let order_t = at_t.ordered in
    let order_u = at_u.ordered in
    token_same t u (ap (λ (p : TokenKind × ℕ). p.0) pair) start (omega arith)

-- a run of trivia to the end leaves no room for a token
no_token_in_trivia_run : (text : List ℕ) (from : ℕ) (u : Token)
    → IsTriviaRun text from (length text) → IsTriviaRun text from u.span.start → IsAt text u → ⊥
no_token_in_trivia_run text from u trivia_run trivia_run_u is_at =
    let ends = within_text text u is_at in
    let ordered = is_at.ordered in
    let start = trivia_end text from (length text) u.span.start trivia_run trivia_run_u
    (λ len trivia. bare_end text (length text) len (omega arith) trivia)
    (bare_at_end text u is_at) in
    omega arith

-- one text has one token list
pub lexes_only : (text : List ℕ) (from : ℕ) (ts us : List Token)
    → LexesBetween text from ts (length text) → LexesBetween text from us (length text) → ts ≡ us
lexes_only text from [] [] h g = refl
lexes_only text from [] (u ∷ us) h g = absurd (no_token_in_trivia_run text from u h g.0 g.1)
lexes_only text from (t ∷ ts) [] h g = absurd (no_token_in_trivia_run text from t g h.0 h.1)
lexes_only text from (t ∷ ts) (u ∷ us) h g =
    let same = same_token text from t u h.0 h.1 g.0 g.1 in
    let rest = lexes_only text t.span.end ts us h.2
    (subst (λ v. LexesBetween text v.span.end us (length text)) (sym same) g.2) in
    ap (λ v. v ∷ ts) same ∙ ap (λ vs. u ∷ vs) rest

-- a text where the lexer stops has no token list
pub stuck_lexes : (text : List ℕ) (from at : ℕ) (ts us : List Token) → LexesBetween text from ts at
    → IsStuck text at → LexesBetween text from us (length text) → ⊥
stuck_lexes text from at [] [] h stuck g =
    let within = stuck.within in
    let end = trivia_end text from at (length text) h g stuck.bare
    (λ len trivia. bare_end text (length text) len (omega arith) trivia) in
    absurd (omega arith)
stuck_lexes text from at [] (u ∷ us) h stuck g =
    let start = trivia_end text from at u.span.start h g.0 stuck.bare (bare_at_end text u g.1) in
    stuck.none u.kind (u.span.end - u.span.start)
    (subst (λ s. IsToken (drop s text) u.kind (u.span.end - u.span.start))
    (sym start) g.1.token)
stuck_lexes text from at (t ∷ ts) [] h stuck g = no_token_in_trivia_run text from t g h.0 h.1
stuck_lexes text from at (t ∷ ts) (u ∷ us) h stuck g =
    let same = same_token text from t u h.0 h.1 g.0 g.1 in
    stuck_lexes text t.span.end at ts us h.2 stuck
    (subst (λ v. LexesBetween text v.span.end us (length text)) (sym same) g.2)

-- what the scanner answers at a place, as the token there
pub found_token : (text : List ℕ) (at : ℕ) (found : Option (TokenKind × ℕ)) → at ≤ length text
    → found ≡ token_at (drop at text) → IfSome found
    (λ t. IsToken (drop at text) t.0 t.1 × (0 < t.1) × (at + t.1 ≤ length text))
found_token text at None within e = tt
found_token text at (Some t) within e =
    let here = token_meets (drop at text) t.0 t.1 (sym e) in
    let inside = here.0.within in
    let rest = length-drop at text in
    (here.0, here.1, omega arith)

pub found_none : (text : List ℕ) (found : Option (TokenKind × ℕ)) → found ≡ token_at text
    → IfNone found ((kind : TokenKind) (len : ℕ) → IsToken text kind len → ⊥)
found_none text None e = λ kind len t. none_is_not_some (kind, len) (e ∙ token_only text kind len t)
found_none text (Some t) e = tt

-- a token found at a place is there
pub is_at_start : (text : List ℕ) (at len : ℕ) (kind : TokenKind) → IsToken (drop at text) kind len
    → 0 < len → IsAt text (record { kind = kind; span = record { start = at; end = at + len } })
is_at_start text at len kind t positive =
    let size : len ≡ at + len - at = omega arith in
    record { ordered = omega arith; token = subst (IsToken (drop at text) kind) size t }
