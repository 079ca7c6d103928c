-- The forms that the words of the command line may have.
--
--     [--budget N] MODEL [--]        MODEL [--budget N] [--]        [--budget N] -- MODEL
use Rattle.std.specs.Prelude.{◌≡◌, ℕ, false, List, [], ◌∷◌, ◌++◌, Some, codes}
use Rattle.uvl_words.specs.Budgets.{default_budget}
use Rattle.uvl_words.specs.CommandLine.{Request, begins_with_hyphen, budget_of, for_model, request_of}

-- the words of the option, as two or as one, or none of them, and the budget
pub data Gives : List (List ℕ) → ℕ → Type 0 where
  default : Gives [] default_budget
  apart : (value : List ℕ) (n : ℕ) → budget_of value ≡ Some n → Gives (codes "--budget" ∷ value ∷ []) n
  joined : (value : List ℕ) (n : ℕ) → budget_of value ≡ Some n → Gives ((codes "--budget=" ++ value) ∷ []) n

-- nothing, or a `--` that nothing follows
pub data IsEnd : List (List ℕ) → Type 0 where
  bare : IsEnd []
  dashes : IsEnd (codes "--" ∷ [])

-- words of one of the forms, and what they ask for; a model is a word of one byte or more
pub data Asks : List (List ℕ) → Request → Type 0 where
  behind_option : (option : List (List ℕ)) (n b : ℕ) (bs : List ℕ) (end : List (List ℕ))
      → Gives option n → begins_with_hyphen (b ∷ bs) ≡ false → IsEnd end
      → Asks (option ++ (b ∷ bs) ∷ end) (for_model (b ∷ bs) n)
  before_option : (option : List (List ℕ)) (n b : ℕ) (bs : List ℕ) (end : List (List ℕ))
      → Gives option n → begins_with_hyphen (b ∷ bs) ≡ false → IsEnd end
      → Asks ((b ∷ bs) ∷ option ++ end) (for_model (b ∷ bs) n)
  behind_dashes : (option : List (List ℕ)) (n b : ℕ) (bs : List ℕ)
      → Gives option n → Asks (option ++ codes "--" ∷ (b ∷ bs) ∷ []) (for_model (b ∷ bs) n)

-- words of the forms ask for what they say
abbrev pub FormsAreTaken : Type 0
FormsAreTaken = (words : List (List ℕ)) (asked : Request) → Asks words asked → request_of words ≡ Some asked

-- and all other words are refused
abbrev pub OnlyFormsAreTaken : Type 0
OnlyFormsAreTaken = (words : List (List ℕ)) (asked : Request) → request_of words ≡ Some asked → Asks words asked
