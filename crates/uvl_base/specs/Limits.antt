-- The limits of what is read: files, models, rules, numbers and scripts. They are this project's own.
use Rattle.std.specs.Prelude.{ℕ}

-- the most bytes of one file
abbrev pub most_file_bytes : ℕ
most_file_bytes = 8388608

-- the most bytes of all files of a model
abbrev pub most_set_bytes : ℕ
most_set_bytes = 16777216

-- the most files of a model
abbrev pub most_files : ℕ
most_files = 256

-- how deep imports nest at most; the main file is at 0
abbrev pub most_import_depth : ℕ
most_import_depth = 16

-- the most features of a model
abbrev pub most_features : ℕ
most_features = 2048

-- how deep features nest at most; the root is at 1
abbrev pub most_depth : ℕ
most_depth = 64

-- how deep brackets and `!` nest at most in a line
abbrev pub most_nesting : ℕ
most_nesting = 128

-- the most nodes of one rule: its literals, references, sums and operators
abbrev pub most_rule_nodes : ℕ
most_rule_nodes = 8192

-- the most rules of a model
abbrev pub most_rules : ℕ
most_rules = 65536

-- the most nodes of all rules of a model
abbrev pub most_nodes : ℕ
most_nodes = 4194304

-- In how many right operands of `&`, `|`, `=>` and `<=>` a node of a rule stands at most: of one of each outside, and in
-- each of `most_nesting` brackets and `!`.
abbrev pub most_right_operands : ℕ
most_right_operands = 516

-- the most digits of a number in front of its point, and behind it
abbrev pub most_whole_digits : ℕ
most_whole_digits = 12

abbrev pub most_decimals : ℕ
most_decimals = 6

-- the most bytes of a line of a script, without its line end
abbrev pub most_line_bytes : ℕ
most_line_bytes = 65536

-- the most bytes of a script
abbrev pub most_script_bytes : ℕ
most_script_bytes = 67108864
