-- What `parse` reads of one to eight digits.
use Rattle.std.proofs.Common.{◌≡◌, ◌<◌, ◌≤◌, ◌^◌, ℕ, List, length, true, Ok, Result, arith, rules}
use Rattle.std.specs.Char.{is_ascii_digit}
use Rattle.std.specs.List.{list_all}
use Rattle.std.specs.Str.Parse.{ParsesUnsigned, digits_value}
use Rattle.std.proofs.lemmas.Str.Parse.{IsNumeralModel, numerals_by_value, parse_gives, digits_value_short}

own : IsNumeralModel (λ ds. list_all is_ascii_digit ds ≡ true) (digits_value 10)
own = numerals_by_value _ (search rules)

-- their number is below 10^8, so that it is read
pub parse_short : {E : Type 0} (ds : List ℕ) (r : Result ℕ E) → ParsesUnsigned 32 10 ds r
    → list_all is_ascii_digit ds ≡ true → 1 ≤ length ds → length ds ≤ 8 → r ≡ Ok (digits_value 10 ds)
parse_short ds r h digits some few =
    let small : digits_value 10 ds < 10 ^ 8 = digits_value_short own ds 8 digits few in
    parse_gives own 32 ds r h digits (omega arith) (omega (arith, small))
