-- What the words of the command line ask for.
--
--     uvl [--budget N] MODEL
--
-- The option stands in front of the model or behind it. Its value is the next word, or stands behind
-- `=`. A word `--` ends the options. This is the project's own rule, in the usual way of such words.
use Rattle.std.specs.Prelude.{ℕ, Bool, false, ◌==◌, ◌&&◌, nat_eq, nat_le, List, [], ◌∷◌, map, length, drop, if◌then◌else◌, Option, Some, None, option_map, codes}
use Rattle.std.specs.Char.{is_ascii_digit}
use Rattle.std.specs.List.{list_all, starts_with}
use Rattle.std.specs.Str.{bytes_eq}
use Rattle.std.specs.Str.Parse.{digits_value}
use Rattle.uvl_words.specs.Budgets.{default_budget, least_budget, most_budget, most_budget_digits}

-- What the words ask for: a model, by its path, and how many nodes the table of its diagram may hold. What another form
-- of the words asks for, as `--demo N`, which is refused today, is one constructor more.
pub data Request : Type 0 where
  for_model : List ℕ → ℕ → Request

-- ---- the budget

-- one to eight decimal digits, whose number is a budget that the table may have
abbrev pub is_budget : List ℕ → Bool
is_budget value = list_all is_ascii_digit value
    && (nat_le 1 (length value) && nat_le (length value) most_budget_digits)
    && (nat_le least_budget (digits_value 10 value) && nat_le (digits_value 10 value) most_budget)

-- the budget that a value of the option writes
abbrev pub budget_of : List ℕ → Option ℕ
budget_of value = if is_budget value then Some (digits_value 10 value) else None

-- ---- what the words stand for

-- the option with its value, a model, or nothing that is taken
pub data Argument : Type 0 where
  budget : List ℕ → Argument
  model : List ℕ → Argument
  refused : Argument

abbrev pub begins_with_hyphen : List ℕ → Bool
begins_with_hyphen [] = false
begins_with_hyphen (b ∷ bs) = b == 45

-- a word in front of `--` that stands for itself: `--budget=N` is the option, and no other word that
-- begins with `-` is taken
abbrev pub argument_of : List ℕ → Argument
argument_of word =
    if starts_with nat_eq word (codes "--budget=") then budget (drop 9 word)
    else (if begins_with_hyphen word then refused else model word)

-- What the words stand for, in their order: `--budget` takes the next word as its value, and behind
-- the first `--` that is no value each word is a model.
abbrev pub arguments_of : List (List ℕ) → List Argument
arguments_of [] = []
arguments_of (word ∷ []) = if bytes_eq word (codes "--") then [] else argument_of word ∷ []
arguments_of (word ∷ next ∷ rest) =
    if bytes_eq word (codes "--") then map model (next ∷ rest)
    else (if bytes_eq word (codes "--budget") then budget next ∷ arguments_of rest
    else argument_of word ∷ arguments_of (next ∷ rest))

-- ---- what they ask for

-- a path that isn't empty, and a budget, if it is one
abbrev pub request_for : List ℕ → Option ℕ → Option Request
request_for [] n = None
request_for (b ∷ bs) n = option_map (for_model (b ∷ bs)) n

-- a path and a value of the option, where they are given
abbrev pub request_with : Option (List ℕ) → Option (List ℕ) → Option Request
request_with None value = None
request_with (Some path) None = request_for path (Some default_budget)
request_with (Some path) (Some value) = request_for path (budget_of value)

-- one model, and the option at most once, in front of it or behind it
abbrev pub request_by : List Argument → Option Request
request_by (model path ∷ []) = request_with (Some path) None
request_by (budget value ∷ model path ∷ []) = request_with (Some path) (Some value)
request_by (model path ∷ budget value ∷ []) = request_with (Some path) (Some value)
request_by _ = None

-- what the words ask for, or none where they are refused
unfoldable pub request_of : List (List ℕ) → Option Request
request_of words = request_by (arguments_of words)

-- what is written where the words are refused
unfoldable pub usage_line : List ℕ
usage_line = codes "usage: uvl [--budget N] MODEL | uvl [--budget N] --demo N\n"
