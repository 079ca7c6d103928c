-- How lines are answered one after another, over a state that goes from line to line. This project's own.
use Rattle.std.specs.Prelude.{◌≡◌, ℕ, List, [], ◌∷◌, ◌++◌, flat_map, Some, Ok}
use Rattle.uvl_script.specs.declared.command.Command.{Command}
use Rattle.uvl_script.specs.Lines.{reading_of}
use Rattle.uvl_lines.specs.Answers.{Replies, Fetching}
use Rattle.uvl_lines.specs.Replies.{Line}

-- texts one behind the other
abbrev pub flat : List (List ℕ) → List ℕ
flat texts = flat_map (λ text. text) texts

-- the first bytes of a text, none or all perhaps
abbrev pub IsFrontOf : List ℕ → List ℕ → Type 0
IsFrontOf front text = (rest : List ℕ) × (front ++ rest ≡ text)

-- The lines are answered from the first state on, each with its text, and the other state is the one behind them.
abbrev pub Goes : {A : Type 0} → Replies A → A → List (List ℕ) → List (List ℕ) → A → Type 0
Goes R s [] [] t = t ≡ s
Goes R s [] (text ∷ texts) t = ⊥
Goes R s (line ∷ lines) [] t = ⊥
Goes R s (line ∷ lines) (text ∷ texts) t = (m : _) × Line R s line text m × Goes R m lines texts t

-- Of the replies to the lines this much is said: whole replies, and perhaps a front of the next. A line that isn't
-- answered may be any line.
pub data Stops {A : Type 0} (R : Replies A) : A → List (List ℕ) → List ℕ → Type 0 where
  here : (s : A) (lines : List (List ℕ)) → Stops R s lines []
  inside : (s t : A) (line text said : List ℕ) (lines : List (List ℕ)) → Line R s line text t → IsFrontOf said text
      → Stops R s (line ∷ lines) said
  behind : (s t : A) (line text said : List ℕ) (lines : List (List ℕ)) → Line R s line text t → Stops R t lines said
      → Stops R s (line ∷ lines) (text ++ said)

-- the line is a command that fetches a file in this state
abbrev pub FetchesAt : {A : Type 0} → Fetching A → A → List ℕ → Type 0
FetchesAt F s line = (command : Command) × (reading_of line ≡ Ok (Some command)) × F s command

-- The lines in front of one that fetches a file have their replies, and nothing is said behind them.
pub record Breaks {A : Type 0} (R : Replies A) (F : Fetching A) (s : A) (lines : List (List ℕ)) (said : List ℕ) :
    Type 0 where
  pub answered : List (List ℕ)
  pub line : List ℕ
  pub others : List (List ℕ)
  pub texts : List (List ℕ)
  pub state : A
  pub are : lines ≡ answered ++ line ∷ others
  pub goes : Goes R s answered texts state
  pub all : said ≡ flat texts
  pub fetches : FetchesAt F state line
