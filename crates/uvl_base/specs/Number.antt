-- How a number is written, and which number that is.
use Rattle.std.specs.Prelude.{ℕ, ◌+◌, ◌-◌, ◌*◌, ◌^◌, ℤ, pos, Bool, not, false, ◌&&◌, ◌||◌, ◌==◌, nat_lt, if◌then◌else◌, List, [], ◌∷◌, length, ◌<ℤ◌, ◌-ℤ◌}
use Rattle.std.specs.List.{list_all, list_any, before_first, after_first}
use Rattle.std.specs.Char.{is_ascii_digit}
use Rattle.std.specs.Str.Parse.{digits_value}
use Rattle.uvl_base.specs.Limits.{most_whole_digits, most_decimals}

-- a number is negative where `-` stands in front
abbrev pub is_negative : List ℕ → Bool
is_negative [] = false
is_negative (c ∷ cs) = c == 45

-- the number without its sign
abbrev pub unsigned : List ℕ → List ℕ
unsigned [] = []
unsigned (c ∷ cs) = if c == 45 then cs else c ∷ cs

-- the point between the whole digits and the decimals
abbrev pub is_point : ℕ → Bool
is_point c = c == 46

-- the digits in front of the point, or all where there is no point
abbrev pub whole_digits : List ℕ → List ℕ
whole_digits cs = before_first is_point (unsigned cs)

-- the digits behind the point
abbrev pub decimals : List ℕ → List ℕ
decimals cs = after_first is_point (unsigned cs)

-- digits, or digits that may be missing, a point and digits
abbrev pub is_unsigned_number : Bool → List ℕ → List ℕ → Bool
is_unsigned_number has_point whole behind =
    list_all is_ascii_digit whole && list_all is_ascii_digit behind
    && not (length (if has_point then behind else whole) == 0)

-- a number is written `-`? digits, or `-`? digits? `.` digits
abbrev pub is_number : List ℕ → Bool
is_number cs = is_unsigned_number (list_any is_point (unsigned cs)) (whole_digits cs) (decimals cs)

-- more digits than a number of this project has, in front of the point or behind it
abbrev pub is_too_wide : List ℕ → Bool
is_too_wide cs = nat_lt most_whole_digits (length (whole_digits cs)) || nat_lt most_decimals (length (decimals cs))

-- the millionths that whole digits and decimals write
abbrev pub millionths_of_digits : List ℕ → List ℕ → ℕ
millionths_of_digits whole behind =
    digits_value 10 whole * 1000000 + digits_value 10 behind * 10 ^ (most_decimals - length behind)

-- the number of millionths that is written
abbrev pub millionths_of : List ℕ → ℤ
millionths_of cs =
    let size = pos (millionths_of_digits (whole_digits cs) (decimals cs)) in
    if is_negative cs then pos 0 -ℤ size else size

-- a number is below 10^18 millionths in size
abbrev pub InRange : ℤ → Type 0
InRange n = ((pos 0 -ℤ pos (10 ^ 18)) <ℤ n) × (n <ℤ pos (10 ^ 18))
