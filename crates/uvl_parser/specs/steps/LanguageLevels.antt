-- Reading language levels, the lines of `include`, whose texts are built as their tokens are read.
use Rattle.std.specs.Prelude.{◌≡◌, ℕ, Bool, true, false, List, [], ◌++◌, Ok, Option, Some, None, String, string_bytes, chars}
use Rattle.uvl_grammar.specs.steps.Tests.{is_newline}
use Rattle.uvl_grammar.specs.Sections.{joined}
use Rattle.uvl_grammar.specs.steps.Reading.{Read, Reader, ◌>>=◌, done, bind, one, many}
use Rattle.uvl_grammar.specs.steps.Sections.{is_level_part, level_token}

-- the characters of a text that is being built
abbrev pub characters_of : {A : Type 0} → String A → List ℕ
characters_of text = chars (string_bytes text)

-- a text behind another
abbrev pub text_onto : List ℕ → Read (List ℕ) → Read (List ℕ)
text_onto front read = read >>= λ r. Ok (front ++ r.0, r.1)

-- texts behind another
abbrev pub texts_onto : List ℕ → Read (List (List ℕ)) → Read (List ℕ)
texts_onto front read = read >>= λ r. Ok (front ++ joined r.0, r.1)

-- the text of a line, read token by token
unfoldable pub line_text : Reader (List ℕ)
line_text ts = text_onto [] (level_token ts) >>= λ r. texts_onto r.0 (many is_level_part level_token r.1)

-- a line with its end
unfoldable pub level_text : Reader (List ℕ)
level_text = bind line_text (λ text. bind (one is_newline) (λ newline. done text))

-- the spelling of a token is put behind a text, where the token belongs to a level
abbrev pub Pushes : Option (List ℕ) → Bool → List ℕ → List ℕ → Type 0
Pushes (Some part) pushed old new = (pushed ≡ true) × (new ≡ old ++ part)
Pushes None pushed old new = pushed ≡ false
