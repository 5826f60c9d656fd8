use Rattle.std.proofs.Common.{◌≡◌, ◌≤◌, rules, Some}
use Rattle.strc_cli_messages.specs.RefusalWords.{Character, DecimalPoint, NamedPart, Number}
use Rattle.strc_cli_messages.specs.RefusalWords.{OpenComment, OpenString, OrderMark, OtherByte}
use Rattle.strc_cli_messages.specs.RefusalWords.{OtherLetter, Preprocessor}
use Rattle.strc_cli_messages.proofs.sentences.byte_sentence.Goals as goal

pub returns-in-Some-eq34 : goal.returns-in-Some-eq34
returns-in-Some-eq34 c =
    let is : c.args.byte ≡ Some 34 = search rules in
    OpenString is

pub returns-in-Some-eq47 : goal.returns-in-Some-eq47
returns-in-Some-eq47 c =
    let is : c.args.byte ≡ Some 47 = search rules in
    OpenComment is

pub returns-in-Some-eq46 : goal.returns-in-Some-eq46
returns-in-Some-eq46 c =
    let is : c.args.byte ≡ Some 46 = search rules in
    NamedPart is

pub returns-in-Some-eq46-2 : goal.returns-in-Some-eq46-2
returns-in-Some-eq46-2 c =
    let is : c.args.byte ≡ Some 46 = search rules in
    DecimalPoint is

pub returns-in-Some-eq35 : goal.returns-in-Some-eq35
returns-in-Some-eq35 c =
    let is : c.args.byte ≡ Some 35 = search rules in
    Preprocessor is

pub returns-in-Some-eq39 : goal.returns-in-Some-eq39
returns-in-Some-eq39 c =
    let is : c.args.byte ≡ Some 39 = search rules in
    Character is

pub returns-in-Some-eq239 : goal.returns-in-Some-eq239
returns-in-Some-eq239 c =
    let is : c.args.byte ≡ Some 239 = search rules in
    OrderMark is

pub returns-in-Some-48-to-57 : goal.returns-in-Some-48-to-57
returns-in-Some-48-to-57 c =
    let low : 48 ≤ c.in-Some-48-to-57.field-0 = search rules in
    let high : c.in-Some-48-to-57.field-0 ≤ 57 = search rules in
    Number c.in-Some-48-to-57.field-0 c.in-Some-48-to-57.is low high

pub returns-in-Some-128-to-255 : goal.returns-in-Some-128-to-255
returns-in-Some-128-to-255 c =
    let low : 128 ≤ c.in-Some-128-to-255.field-0 = search rules in
    OtherLetter c.in-Some-128-to-255.field-0 c.in-Some-128-to-255.is low

pub returns-in_default : goal.returns-in_default
returns-in_default c = OtherByte
