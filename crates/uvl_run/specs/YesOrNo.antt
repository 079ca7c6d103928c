-- The reply to a question.
use Rattle.std.specs.Prelude.{ℕ, Bool, List, [], ◌∷◌, if◌then◌else◌, codes}
use Rattle.uvl_lines.specs.Replies.{reply_of}

-- the word for an answer
abbrev pub word_for : Bool → List ℕ
word_for answer = if answer then codes "yes" else codes "no"

-- a reply of this one line
abbrev pub yes_or_no : Bool → List ℕ
yes_or_no answer = reply_of (word_for answer ∷ [])
