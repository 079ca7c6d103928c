-- What came of answering some lines of a script.
use Rattle.std.specs.Prelude.{ℕ, List, Option, Result, Ok, Err}
use Rattle.std.specs.Io.KnownBytes.{Appends}
use Rattle.uvl_lines.specs.declared.ending.Ending.{Ending}
use Rattle.uvl_lines.specs.declared.ending.Ending.TheVariants.{Done, TooMuch, InputFailed, FetchFailed, WriteFailed, NoMemory}
use Rattle.uvl_lines.specs.Answers.{Replies, Fetching}
use Rattle.uvl_lines.specs.Runs.{Goes, Stops, Breaks, flat}

-- each of the lines is answered from one state to the other, and the replies were written
pub record Replied {A : Type 0} (R : Replies A) (s t : A) (before now : Option (List ℕ)) (lines : List (List ℕ)) :
    Type 0 where
  pub texts : List (List ℕ)
  pub goes : Goes R s lines texts t
  pub wrote : Appends before now (flat texts)

-- what was said of lines of which not all are answered, by the ending that this is for the run
abbrev pub Halts : {A : Type 0} → Replies A → Fetching A → A → List (List ℕ) → List ℕ → Ending → Type 0
Halts R F s lines said Done = ⊥
Halts R F s lines said TooMuch = ⊥
Halts R F s lines said InputFailed = ⊥
Halts R F s lines said FetchFailed = Breaks R F s lines said
Halts R F s lines said WriteFailed = Stops R s lines said
Halts R F s lines said NoMemory = Stops R s lines said

-- not all of the lines are answered, and what was said was written
pub record Halted {A : Type 0} (R : Replies A) (F : Fetching A) (s : A) (before now : Option (List ℕ))
    (lines : List (List ℕ)) (ending : Ending) : Type 0 where
  pub said : List ℕ
  pub wrote : Appends before now said
  pub halts : Halts R F s lines said ending

-- the lines were answered, or the run ends with one of them
abbrev pub Answering : {A T : Type 0} → Replies A → Fetching A → A → A → Option (List ℕ) → Option (List ℕ)
    → List (List ℕ)
    → Result T Ending → Type 0
Answering R F s t before now lines (Ok _) = Replied R s t before now lines
Answering R F s t before now lines (Err ending) = Halted R F s before now lines ending

-- how a run ends that goes to its end, or ends before
abbrev pub ending_of : {T : Type 0} → Result T Ending → Ending
ending_of (Ok _) = Done
ending_of (Err ending) = ending
