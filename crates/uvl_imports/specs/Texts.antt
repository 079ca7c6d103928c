-- Texts in a list, each as its bytes.
use Rattle.std.specs.Prelude.{ℕ, ⊤, Bool, List, [], ◌∷◌, Option, position, IsFalse}
use Rattle.std.specs.List.{list_any}
use Rattle.std.specs.Str.{bytes_eq}

-- the list has the text
abbrev pub has : List (List ℕ) → List ℕ → Bool
has texts text = list_any (bytes_eq text) texts

-- the place of the first such text
abbrev pub place_of : List ℕ → List (List ℕ) → Option ℕ
place_of text texts = position (bytes_eq text) texts

-- no text of the list stands twice
abbrev pub AreDistinct : List (List ℕ) → Type 0
AreDistinct [] = ⊤
AreDistinct (text ∷ texts) = IsFalse (has texts text) × AreDistinct texts
