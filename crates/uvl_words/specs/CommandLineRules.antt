-- The rules by which `clap` reads the words of the command line, and what is asked of the words before.
use Rattle.std.specs.Prelude.{⊤, ℕ, Bool, true, false, if◌then◌else◌, List, [], ◌∷◌, Some, codes}
use Rattle.std.specs.Bool.{OnFalse}
use Rattle.std.specs.Str.{bytes_eq, IsUtf8}
use Rattle.clap.specs.Simple.{on_top}
use Rattle.clap.specs.Words.{App, Rule, new_app, new_rule, with_rule}
use Rattle.clap.specs.declared.builder.action.ArgAction.TheVariants.{Set}

-- the option `--budget`, with one value
abbrev pub budget_rule : Rule
budget_rule = record (new_rule (codes "budget")) { long = Some (codes "budget"); action = Some Set }

-- a word for the model
abbrev pub model_rule : Rule
model_rule = record (new_rule (codes "model")) { action = Some Set }

-- no word stands for the program's name, and no option asks for help or a version
abbrev pub bare_command : App
bare_command = on_top (λ top. record top {
  no_binary_name = true;
  disable_help_flag = true;
  disable_version_flag = true;
}) (new_app (codes "uvl"))

abbrev pub words_command : App
words_command = with_rule (with_rule bare_command budget_rule) model_rule

-- a lone `-` stands in front of the first `--`
abbrev pub has_lone_hyphen : List (List ℕ) → Bool
has_lone_hyphen [] = false
has_lone_hyphen (word ∷ rest) =
    if bytes_eq word (codes "--") then false
    else (if bytes_eq word (codes "-") then true else has_lone_hyphen rest)

-- the words in front of the first `--` are text
abbrev pub AreTexts : List (List ℕ) → Type 0
AreTexts [] = ⊤
AreTexts (word ∷ rest) = OnFalse (bytes_eq word (codes "--")) (IsUtf8 word × AreTexts rest)
