-- The text of fields and locals: one is declared at each slot where a variable begins.
use Rattle.std.specs.Prelude.{ℕ, suc, ◌+◌, min, ℤ, pos, Bool, false, List, [], ◌∷◌}
use Rattle.std.specs.Prelude.{◌++◌, codes, decimal, nat_eq, nat_lt, nat_le, drop, length}
use Rattle.std.specs.Prelude.{slice_index_or, slice_range, Option, Some, None, if◌then◌else◌}
use Rattle.std.specs.Fmt.{signed_decimal}
use Rattle.strc_emit_c.specs.declared.function.Function.{Function}
use Rattle.strc_emit_c.specs.Spelling.{array_in, name_text}
use Rattle.strc_emit_filter.specs.declared.locals.TheConstants.{STACK_ARRAY}
use Rattle.strc_emit_text.specs.Numbers.{numbers_text}

-- whether a slot is in the array that begins at one
abbrev pub is_at : Option ℕ → (from : ℕ) → Bool
is_at None from = false
is_at (Some start) from = nat_eq start from

-- how many of the first slots are in the array that begins at one
abbrev pub run_of : (from : ℕ) → List (Option ℕ) → ℕ
run_of from [] = 0
run_of from (array ∷ rest) = if is_at array from then suc (run_of from rest) else 0

-- how many slots an array has that begins at one
abbrev pub array_length : List (Option ℕ) → (from : ℕ) → ℕ
array_length arrays from = run_of from (drop from arrays)

-- fields
abbrev pub initial_text : ℤ → List ℕ
initial_text value = codes " = " ++ signed_decimal value ++ codes ";\n"

abbrev pub plain_field : Function → (slot : ℕ) → ℤ → List ℕ
plain_field function slot value =
    codes "static int32_t " ++ name_text function slot ++ initial_text value

abbrev pub declared_array : Function → (slot count : ℕ) → List ℤ → List ℕ
declared_array function slot count values =
    codes "static int32_t " ++ name_text function slot ++ codes "[" ++ decimal count ++ codes "]"
    ++ numbers_text values ++ codes ";\n"

abbrev pub array_field : Function → (slot : ℕ) → List ℤ → List ℕ
array_field function slot values =
    let count = array_length function.arrays.items slot in
    declared_array function slot count
    (slice_range values slot (min (length values) (slot + count)))

-- the variable at a slot, by where the array begins that the slot is in
abbrev pub field_by : Function → List ℤ → (slot : ℕ) → Option ℕ → List ℕ
field_by function values slot None =
    plain_field function slot (slice_index_or values slot (pos 0))
field_by function values slot (Some from) =
    if nat_eq from slot then array_field function slot values else []

abbrev pub field_text : Function → List ℤ → (slot : ℕ) → List ℕ
field_text function values slot =
    field_by function values slot (array_in function.arrays.items slot)

-- locals
abbrev pub plain_local : Function → (slot : ℕ) → List ℕ
plain_local function slot = codes "    int32_t " ++ name_text function slot ++ codes " = 0;\n"

abbrev pub small_array : Function → (slot length : ℕ) → List ℕ
small_array function slot length =
    codes "    int32_t " ++ name_text function slot ++ codes "[" ++ decimal length
    ++ codes "] = {0};\n"

abbrev pub static_array : Function → (slot length : ℕ) → List ℕ
static_array function slot length =
    codes "    static int32_t " ++ name_text function slot ++ codes "[" ++ decimal length
    ++ codes "];\n"

abbrev pub rows_text : Function → (slot length : ℕ) → List ℕ
rows_text function slot length =
    codes "    static int32_t " ++ name_text function slot ++ codes "_each[CALL_LIMIT]["
    ++ decimal length ++ codes "];\n"

-- one for each depth of calls, and that of this call
abbrev pub each_array : Function → (slot length : ℕ) → List ℕ
each_array function slot length =
    rows_text function slot length ++ codes "    int32_t *" ++ name_text function slot
    ++ codes " = " ++ name_text function slot ++ codes "_each[depth - 1];\n"

-- a large array isn't on the stack, and running calls have one each
abbrev pub array_local : Function → (slot length : ℕ) → List ℕ
array_local function slot length =
    if nat_le length STACK_ARRAY then small_array function slot length
    else if function.in_helper then each_array function slot length
    else static_array function slot length

abbrev pub local_by : Function → (slot : ℕ) → Option ℕ → List ℕ
local_by function slot None = plain_local function slot
local_by function slot (Some from) = if nat_eq from slot
    then array_local function slot (array_length function.arrays.items slot) else []

abbrev pub local_text : Function → (slot : ℕ) → List ℕ
local_text function slot = if nat_lt slot function.fields then []
    else local_by function slot (array_in function.arrays.items slot)
