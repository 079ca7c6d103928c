-- The words that UVL keeps for itself: without quotes none of them is a name.
use Rattle.std.specs.Prelude.{ℕ, Bool, List, [], ◌∷◌, codes, Option}
use Rattle.std.specs.List.{find}
use Rattle.std.specs.Option.{is_some}
use Rattle.std.specs.Str.{bytes_eq}
use Rattle.uvl_base.specs.declared.word.Word.{Word}
use Rattle.uvl_base.specs.declared.word.Word.TheVariants as word

-- the reserved words of UVL, in this project's profile of it
abbrev pub reserved_words : List Word
reserved_words =
    word.Namespace ∷ word.Include ∷ word.Imports ∷ word.As ∷ word.Features ∷ word.Constraints ∷ word.Constraint
    ∷ word.Mandatory ∷ word.Optional ∷ word.Alternative ∷ word.Or ∷ word.Cardinality ∷ word.Sum ∷ word.Avg ∷ word.Len
    ∷ word.Floor ∷ word.Ceil ∷ word.True ∷ word.False ∷ word.Boolean ∷ word.String ∷ word.Integer ∷ word.Real ∷ []

-- the characters of a reserved word
abbrev pub characters_of_word : Word → List ℕ
characters_of_word word.Namespace = codes "namespace"
characters_of_word word.Include = codes "include"
characters_of_word word.Imports = codes "imports"
characters_of_word word.As = codes "as"
characters_of_word word.Features = codes "features"
characters_of_word word.Constraints = codes "constraints"
characters_of_word word.Constraint = codes "constraint"
characters_of_word word.Mandatory = codes "mandatory"
characters_of_word word.Optional = codes "optional"
characters_of_word word.Alternative = codes "alternative"
characters_of_word word.Or = codes "or"
characters_of_word word.Cardinality = codes "cardinality"
characters_of_word word.Sum = codes "sum"
characters_of_word word.Avg = codes "avg"
characters_of_word word.Len = codes "len"
characters_of_word word.Floor = codes "floor"
characters_of_word word.Ceil = codes "ceil"
characters_of_word word.True = codes "true"
characters_of_word word.False = codes "false"
characters_of_word word.Boolean = codes "Boolean"
characters_of_word word.String = codes "String"
characters_of_word word.Integer = codes "Integer"
characters_of_word word.Real = codes "Real"

-- the reserved word that a text is, if it is one
abbrev pub word_of : List ℕ → Option Word
word_of text = find (λ word. bytes_eq text (characters_of_word word)) reserved_words

-- whether a text is one of them
abbrev pub is_reserved : List ℕ → Bool
is_reserved text = is_some (word_of text)
