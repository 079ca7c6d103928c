-- What `clap` makes of the words, turn by turn: where its walk may stand, and what comes of it.
use Rattle.std.proofs.Common.{◌≡◌, ◌∙◌, refl, ap, ℕ, Bool, true, false, List, [], ◌∷◌, ◌++◌, map, Option, Some, None, codes}
use Rattle.std.specs.Prelude.{fold, nat_eq, slice_get, if◌then◌else◌}
use Rattle.std.specs.Option.{option_map_or}
use Rattle.std.specs.Str.{bytes_eq, chars}
use Rattle.clap.specs.Words.{Kinds, Row, Shape, Text, built, first_of}
use Rattle.clap.specs.Lexer.{long_of, short_of}
use Rattle.clap.specs.Walk.{Held, Waiting, Walk, idle, walked, finished, settled, subcommand_met, word_met}
use Rattle.clap.specs.Kinds.{or_else}
use Rattle.clap.specs.Faults.{bundle_fault, flag_word_fault, flags_fault, other_fault, step_fault, walk_fault, turn_fault, settle_fault, defaults_fault, check_fault}
use Rattle.clap.specs.declared.builder.value_parser.Reading.TheVariants.{AsWritten}
use Rattle.clap.specs.declared.error.kind.ErrorKind.TheVariants as kind
use Rattle.clap.specs.declared.parser.matches.ValueSource.TheVariants.{CommandLine}
use Rattle.clap.proofs.OnLiterals.{clap_on_literals}
use Rattle.uvl_words.specs.CommandLineRules.{words_command}
use Rattle.uvl_words.specs.CommandLine.{Argument, Request, budget, model, request_by, request_with}

-- the command as it is built
abbrev pub shape : Shape
shape = (built words_command).top

-- what is found of the option, and of the model
abbrev pub budget_row : Text → Row
budget_row value = record { id = codes "budget"; values = value ∷ []; count = None; source = Some CommandLine; reading = AsWritten }

abbrev pub model_row : Text → Row
model_row path = record { id = codes "model"; values = path ∷ []; count = None; source = Some CommandLine; reading = AsWritten }

-- The answer to the words so far. A value stands in the rows, or is still pending.
pub data Standing : Type 0 where
  nothing : Standing
  value_found : Text → Standing
  value_held : Text → Standing
  path_held : Text → Standing
  value_then_path : Text → Text → Standing
  path_then_value_found : Text → Text → Standing
  path_then_value_held : Text → Text → Standing

abbrev pub held_at : Standing → Held
held_at nothing = record { rows = []; pending = None; skip = 0 }
held_at (value_found v) = record { rows = budget_row v ∷ []; pending = None; skip = 0 }
held_at (value_held v) = record { rows = []; pending = Some (codes "budget", v ∷ []); skip = 0 }
held_at (path_held p) = record { rows = []; pending = Some (codes "model", p ∷ []); skip = 0 }
held_at (value_then_path v p) = record { rows = budget_row v ∷ []; pending = Some (codes "model", p ∷ []); skip = 0 }
held_at (path_then_value_found p v) = record { rows = model_row p ∷ budget_row v ∷ []; pending = None; skip = 0 }
held_at (path_then_value_held p v) = record { rows = model_row p ∷ []; pending = Some (codes "budget", v ∷ []); skip = 0 }

-- the place of the next word that is no flag
abbrev pub place_at : Standing → ℕ
place_at nothing = 1
place_at (value_found v) = 1
place_at (value_held v) = 1
place_at _ = 2

abbrev pub arguments_at : Standing → List Argument
arguments_at nothing = []
arguments_at (value_found v) = budget v ∷ []
arguments_at (value_held v) = budget v ∷ []
arguments_at (path_held p) = model p ∷ []
arguments_at (value_then_path v p) = budget v ∷ model p ∷ []
arguments_at (path_then_value_found p v) = model p ∷ budget v ∷ []
arguments_at (path_then_value_held p v) = model p ∷ budget v ∷ []

abbrev pub walk_at : Held → ℕ → Bool → Waiting → Walk
walk_at h place trailing waiting =
    record { held = h; waiting = waiting; position = place; is_trailing = trailing; stopped = None }

-- ---- what comes of a walk

abbrev pub end_fault : Held → Kinds
end_fault h = or_else (settle_fault shape.rules false h)
    (or_else (defaults_fault (settled shape.rules h).rows shape.rules) (check_fault shape (finished shape.rules h) false))

abbrev pub answer : Kinds → List Row → Option Request
answer [] rows = request_with (first_of (codes "model") rows) (first_of (codes "budget") rows)
answer (k ∷ ks) rows = None

abbrev pub end_of : Walk → List Text → Held
end_of w words = (fold (walked shape.rules []) w words).held

abbrev pub fault_of_walk : Walk → List Text → Kinds
fault_of_walk w words = or_else (walk_fault shape [] w words) (end_fault (end_of w words))

abbrev pub outcome : Walk → List Text → Option Request
outcome w words = answer (fault_of_walk w words) (finished shape.rules (end_of w words))

-- a turn with no fault leads to another walk
pub goes_on : (w v : Walk) (word : Text) (rest : List Text) → turn_fault shape [] w word ≡ []
    → walked shape.rules [] w word ≡ v → outcome w (word ∷ rest) ≡ outcome v rest
unfolding walk_fault
goes_on w v word rest none to =
    let after = walked shape.rules [] w word in
    ap (λ (first : Kinds). answer (or_else (or_else first (walk_fault shape [] after rest)) (end_fault (end_of after rest))) (finished shape.rules (end_of after rest))) none
    ∙ ap (λ (x : Walk). outcome x rest) to

-- a turn with a fault ends it
pub stops : (w : Walk) (word : Text) (rest : List Text) (k : _) (ks : Kinds) → turn_fault shape [] w word ≡ k ∷ ks
    → outcome w (word ∷ rest) ≡ None
unfolding walk_fault
stops w word rest k ks some = rw some refl

-- ---- a word such as `-b`

-- no option of the command has one letter
bundle_stops : (rows : List Row) (pending : Option (Text × List Text)) (b : ℕ) (bs : Text) (c : ℕ)
    → slice_get (chars (b ∷ bs)) 0 ≡ Some c
    → bundle_fault shape.rules false (b ∷ bs) (record { rows = rows; pending = pending; skip = 0 }) ≡ kind.UnknownArgument ∷ []
unfolding flags_fault
bundle_stops rows pending b bs c first = rw first refl

pub short_stops : (rows : List Row) (pending : Option (Text × List Text)) (place : ℕ) (w : Waiting) (b : ℕ) (bs : Text) (rest : List Text)
    → nat_eq b 45 ≡ false → (c : ℕ) → slice_get (chars (b ∷ bs)) 0 ≡ Some c → subcommand_met [] w (45 ∷ b ∷ bs) ≡ None
    → outcome (walk_at (record { rows = rows; pending = pending; skip = 0 }) place false w) ((45 ∷ b ∷ bs) ∷ rest) ≡ None
short_stops rows pending place w b bs rest e c first alone =
    let h : Held = record { rows = rows; pending = pending; skip = 0 } in
    let word : Text = 45 ∷ b ∷ bs in
    let no_dashes : bytes_eq word (codes "--") ≡ false = rw e refl in
    let no_long : long_of word ≡ None = rw e refl in
    let letters : short_of word ≡ Some (b ∷ bs) = rw e refl in
    let met = word_met shape.rules [] false w place word h in
    let step : Kinds = step_fault shape place met.0 met.1 in
    let flag : flag_word_fault shape.rules false (long_of word) word h ≡ kind.UnknownArgument ∷ [] =
    ap (λ (l : Option (Text × Option Text)). flag_word_fault shape.rules false l word h) no_long
    ∙ (ap (λ (o : Option Text). option_map_or (λ flags. bundle_fault shape.rules false flags h) o []) letters
    ∙ bundle_stops rows pending b bs c first) in
    let turn : turn_fault shape [] (walk_at h place false w) word ≡ kind.UnknownArgument ∷ [] =
    ap (λ (o : Option Text). or_else (other_fault shape o word h) step) alone
    ∙ (ap (λ (d : Bool). or_else (if d then [] else flag_word_fault shape.rules false (long_of word) word h) step) no_dashes
    ∙ ap (λ (k : Kinds). or_else k step) flag) in
    stops (walk_at h place false w) word rest kind.UnknownArgument [] turn

-- ---- behind `--`

pub behind : (s : Standing) (words : List Text)
    → outcome (walk_at (held_at s) (place_at s) true idle) words ≡ request_by (arguments_at s ++ map model words)
unfolding clap_on_literals
behind nothing [] = refl
behind (value_found v) [] = refl
behind (value_held v) [] = refl
behind (path_held p) [] = refl
behind (value_then_path v p) [] = refl
behind (path_then_value_found p v) [] = refl
behind (path_then_value_held p v) [] = refl
behind nothing (w ∷ ws) = goes_on (walk_at (held_at nothing) 1 true idle) (walk_at (held_at (path_held w)) 2 true idle) w ws refl refl ∙ behind (path_held w) ws
behind (value_found v) (w ∷ ws) = goes_on (walk_at (held_at (value_found v)) 1 true idle) (walk_at (held_at (value_then_path v w)) 2 true idle) w ws refl refl ∙ behind (value_then_path v w) ws
behind (value_held v) (w ∷ ws) = goes_on (walk_at (held_at (value_held v)) 1 true idle) (walk_at (held_at (value_then_path v w)) 2 true idle) w ws refl refl ∙ behind (value_then_path v w) ws
behind (path_held p) (w ∷ ws) = refl
behind (value_then_path v p) (w ∷ ws) = refl
behind (path_then_value_found p v) (w ∷ ws) = refl
behind (path_then_value_held p v) (w ∷ ws) = refl
