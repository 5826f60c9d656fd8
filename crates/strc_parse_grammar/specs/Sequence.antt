-- What the steps past kept parts give.
use Rattle.std.specs.Prelude.{◌≡◌, ◌⊎◌, ℕ, max, List, [], ◌∷◌, ◌++◌, Result, Ok, Err}
use Rattle.std.specs.Global.{Vec}
use Rattle.std.specs.Borrow.{Bor}
use Rattle.std.specs.declared.alloc.AllocError.{AllocError}
use Rattle.strc_lex.specs.declared.token.Token.{Token}
use Rattle.strc_lex.specs.declared.token.Punctuation.{Punctuation}
use Rattle.strc_parse_grammar.specs.declared.error.ReadError.{ReadError}
use Rattle.strc_parse_grammar.specs.declared.error.ReadError.TheVariants as errors
use Rattle.strc_parse_grammar.specs.Grammar.{kinds}
use Rattle.strc_parse_grammar.specs.Reading.{Fails, expect, raised}
use Rattle.strc_parse_grammar.specs.declared.rule_result.Parsed.{Parsed}

-- the part with this height and what was read next, with the height of the higher
abbrev pub IsBoth : {A B : Type 0} → A → ℕ → Result (Parsed B) ReadError
    → Result (Parsed (A × B)) ReadError → Type 0
IsBoth first height second (Ok x) = (other : ℕ) × (x.value.0 ≡ first)
    × (x.height ≡ max height other)
    × (second ≡ Ok record { value = x.value.1; height = other; rest = x.rest })
IsBoth first height second (Err e) = second ≡ Err e

-- what was read, with the height of the node that it becomes part of
abbrev pub IsNested : {T : Type 0} → ℕ → Result (Parsed T) ReadError
    → Result (Parsed T) ReadError → Type 0
IsNested depth part (Ok x) = (height : ℕ) × (raised depth height ≡ Ok x.height)
    × (part ≡ Ok record { value = x.value; height = height; rest = x.rest })
IsNested {T = T} depth part (Err e) = (part ≡ Err e)
    ⊎ ((read : Parsed T) × (part ≡ Ok read) × Fails e (raised depth read.height))

-- what was read, up to what follows it
abbrev pub IsFollowed : {T : Type 0} → Punctuation → Result (Parsed T) ReadError
    → Result (Parsed T) ReadError → Type 0
IsFollowed wanted part (Ok x) = (rest : Bor (List Token))
    × (expect wanted (kinds rest.now) ≡ Ok (kinds x.rest.now))
    × (part ≡ Ok record { value = x.value; height = x.height; rest = rest })
IsFollowed {T = T} wanted part (Err e) = (part ≡ Err e)
    ⊎ ((read : Parsed T) × (part ≡ Ok read) × Fails e (expect wanted (kinds read.rest.now)))

-- the node that was made of the part, with the part's height
abbrev pub IsNodeOf : {A T : Type 0} → (A → T → Type 0) → Result (Parsed A) ReadError
    → Result (Parsed T) ReadError → Type 0
IsNodeOf {A = A} makes part (Ok x) = (value : A) × makes value x.value
    × (part ≡ Ok record { value = value; height = x.height; rest = x.rest })
IsNodeOf makes part (Err e) = part ≡ Err e

-- the leaf that was made of what was read
abbrev pub IsLeafOf : {A T : Type 0} → (A → T → Type 0)
    → Result (A × Bor (List Token)) ReadError → Result (Parsed T) ReadError → Type 0
IsLeafOf {A = A} makes read (Ok x) = (value : A) × makes value x.value × (x.height ≡ 0)
    × (read ≡ Ok (value, x.rest))
IsLeafOf makes read (Err e) = read ≡ Err e

-- the node of this height that was made, unless its height or memory stopped it
abbrev pub IsNode : {T : Type 0} → (Result T AllocError → Type 0) → (depth height : ℕ)
    → Bor (List Token) → Result (Parsed T) ReadError → Type 0
IsNode makes depth height rest (Ok x) =
    makes (Ok x.value) × (raised depth height ≡ Ok x.height) × (x.rest ≡ rest)
IsNode makes depth height rest (Err e) = Fails e (raised depth height)
    ⊎ ((e ≡ errors.Memory) × ((failed : AllocError) × makes (Err failed)))

-- what comes of the last part, if that was read
abbrev pub IsAfter : {A T : Type 0} → (Parsed A → Result (Parsed T) ReadError → Type 0)
    → Result (Parsed A) ReadError → Result (Parsed T) ReadError → Type 0
IsAfter then (Ok last) result = then last result
IsAfter then (Err e) result = result ≡ Err e

abbrev pub IsNodeOfTwo : {A B T : Type 0} → (A → B → Result T AllocError → Type 0) → ℕ
    → Parsed A → Result (Parsed B) ReadError → Result (Parsed T) ReadError → Type 0
IsNodeOfTwo makes depth first second result = IsAfter (λ second result.
    IsNode (makes first.value second.value) depth (max first.height second.height) second.rest
    result) second result

abbrev pub IsNodeOfThree : {A B C T : Type 0} → (A → B → C → Result T AllocError → Type 0) → ℕ
    → Parsed A → Parsed B → Result (Parsed C) ReadError → Result (Parsed T) ReadError → Type 0
IsNodeOfThree makes depth first second third result = IsAfter (λ third result.
    IsNode (makes first.value second.value third.value) depth
    (max (max first.height second.height) third.height) third.rest result) third result

-- the items with the next one, and the height of the highest, unless memory ran out
abbrev pub IsGrown : {T : Type 0} → Parsed (Vec T) → Result (Parsed T) ReadError
    → Result (Parsed (Vec T)) ReadError → Type 0
IsGrown {T = T} so_far next (Ok x) = (item : Parsed T) × (next ≡ Ok item)
    × (x.value.items ≡ so_far.value.items ++ item.value ∷ [])
    × (x.height ≡ max so_far.height item.height) × (x.rest ≡ item.rest)
IsGrown {T = T} so_far next (Err e) = (next ≡ Err e)
    ⊎ ((e ≡ errors.Memory) × ((item : Parsed T) × (next ≡ Ok item)))
