-- The words of a parser to which subcommands are added.
use Rattle.std.proofs.Common.{◌≡◌, ◌∙◌, sym, ap, Bool, true, false, not, ◌&&◌, List, [], ◌∷◌, ◌++◌}
use Rattle.std.proofs.Common.{Result, Ok, Err, IfOk, IsOkAnd, map, refl}
use Rattle.clap.specs.Words.{AddsInTurn, AddsSubcommand, App, app_of, shape_of, with_subcommand}
use Rattle.clap.specs.declared.builder.command.Command.TheViews.{out-Command as fields_of}
use Rattle.clap.specs.declared.builder.command.Command.{Command}

-- ---- a list with one more item

map_last : {X Y : Type 0} (f : X → Y) (xs : List X) (x : X)
    → map f (xs ++ x ∷ []) ≡ map f xs ++ f x ∷ []
map_last f [] x = refl
map_last f (y ∷ ys) x = ap (λ (all : List _). f y ∷ all) (map_last f ys x)

-- what is known of each item is known of them all
pub one_more : {X Y V E : Type 0} (items_of : V → List X) (f : X → Y) (items : Result V E)
    (last : Result X E) (result : Result V E) (known : List Y) (new : Y)
    → IfOk result (λ longer. IsOkAnd items (λ before. IsOkAnd last (λ item.
    items_of longer ≡ items_of before ++ item ∷ [])))
    → IfOk items (λ before. map f (items_of before) ≡ known) → IfOk last (λ item. f item ≡ new)
    → IfOk result (λ longer. map f (items_of longer) ≡ known ++ new ∷ [])
one_more items_of f (Ok before) (Ok item) (Ok longer) known new added was is =
    ap (map f) added ∙ map_last f (items_of before) item
    ∙ ap (λ (all : List _). all ++ f item ∷ []) was ∙ ap (λ (y : _). known ++ y ∷ []) is
one_more items_of f (Ok before) (Err none) (Ok longer) known new added was is = absurd added
one_more items_of f (Err none) last (Ok longer) known new added was is = absurd added
one_more items_of f items last (Err none) known new added was is = tt

-- ---- subcommands in turn

third_not : (one other third rest : Bool) → (one && (other && (not third && rest))) ≡ true
    → third ≡ false
third_not true true false rest is = refl
third_not true true true rest is = cc
third_not true false third rest is = cc
third_not false other third rest is = cc

-- a command of plain words has no argument that is known below it
local : (command : Command) → (app_of command).top.is_plain ≡ true
    → (fields_of command).has_globals ≡ false
local command plain = third_not _ _ (fields_of command).has_globals _ plain

-- words with these subcommands, in turn
abbrev pub with_subcommands : App → List App → App
with_subcommands app [] = app
with_subcommands app (sub ∷ subs) = with_subcommands (with_subcommand app sub.top) subs

abbrev pub ArePlain : List App → Type 0
ArePlain [] = Unit {0}
ArePlain (sub ∷ subs) = (sub.top.is_plain ≡ true) × ArePlain subs

pub in_turn : (old new : Command) (commands : List Command) (before : App) (subs : List App)
    → AddsInTurn AddsSubcommand old commands new → map app_of commands ≡ subs → ArePlain subs
    → app_of old ≡ before → app_of new ≡ with_subcommands before subs
in_turn old new [] before [] adds are plain was = sym (ap app_of adds) ∙ was
in_turn old new [] before (sub ∷ subs) adds are plain was = cc
in_turn old new (command ∷ commands) before [] adds are plain was = cc
in_turn old new (command ∷ commands) before (sub ∷ subs) adds are plain was =
    let is : app_of command ≡ sub = cc in
    let rest : map app_of commands ≡ subs = cc in
    let one : app_of adds.0 ≡ with_subcommand before sub.top =
    adds.1.shape (local command (ap (λ (app : App). app.top.is_plain) is ∙ plain.0))
    ∙ ap (λ (app : App). with_subcommand app (shape_of command)) was
    ∙ ap (λ (app : App). with_subcommand before app.top) is in
    in_turn adds.0 new commands (with_subcommand before sub.top) subs adds.2 rest plain.1 one

pub all_added : {E : Type 0} (old : Command) (result : Result Command E) (commands : List Command)
    (before : App) (subs : List App)
    → IfOk result (λ new. AddsInTurn AddsSubcommand old commands new)
    → map app_of commands ≡ subs → ArePlain subs → app_of old ≡ before
    → IfOk result (λ new. app_of new ≡ with_subcommands before subs)
all_added old (Ok new) commands before subs adds are plain was =
    in_turn old new commands before subs adds are plain was
all_added old (Err none) commands before subs adds are plain was = tt
