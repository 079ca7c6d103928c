use Rattle.std.proofs.Common.{◌≡◌, ◌≤◌, length, true, Ok, arith, rules}
use Rattle.std.specs.Char.{is_ascii_digit}
use Rattle.std.specs.List.{list_all}
use Rattle.std.specs.Str.Parse.{digits_value}
use Rattle.std.proofs.lemmas.Grind.{common_steps}
use Rattle.uvl_words.proofs.CommandLine.Budgets.{parse_short}
use Rattle.uvl_words.proofs.command_line.read_budget.Goals as goal

pub returns-in-Ok : goal.returns-in-Ok
returns-in-Ok c =
    let digits : list_all is_ascii_digit c.args.value.now ≡ true = search rules in
    let some : 1 ≤ length c.args.value.now = grind (arith, common_steps) in
    let read : c.parse.result ≡ Ok (digits_value 10 c.args.value.now) = parse_short c.args.value.now c.parse.result c.parse.ensures.value.0 digits some (omega arith) in
    let budget : c.in-Ok.budget ≡ digits_value 10 c.args.value.now = cc in
    grind (arith, common_steps, budget, digits, some)

pub returns-in_default-2 : goal.returns-in_default-2
returns-in_default-2 c =
    let digits : list_all is_ascii_digit c.args.value.now ≡ true = search rules in
    let some : 1 ≤ length c.args.value.now = grind (arith, common_steps) in
    let read : c.parse.result ≡ Ok (digits_value 10 c.args.value.now) = parse_short c.args.value.now c.parse.result c.parse.ensures.value.0 digits some (omega arith) in
    cc
