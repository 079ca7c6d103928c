-- What `clap` takes of the words is what they ask for.
use Rattle.std.proofs.Common.{◌≡◌, ◌∙◌, refl, sym, ap, ℕ, true, false, List, [], ◌∷◌, ◌++◌, Some, None, codes}
use Rattle.std.specs.Prelude.{◌==◌, nat_eq, slice_get}
use Rattle.std.specs.List.{before_first}
use Rattle.std.specs.Str.{bytes_eq, chars}
use Rattle.clap.specs.Words.{Text}
use Rattle.clap.specs.Walk.{Held, Waiting, Walk, idle}
use Rattle.clap.specs.Walk.{option as waits_for}
use Rattle.clap.proofs.OnLiterals.{clap_on_literals}
use Rattle.uvl_words.specs.CommandLine.{Argument, budget, model, refused, arguments_of, budget_of, request_by, request_for}
use Rattle.uvl_words.proofs.CommandLine.Walks.{Standing, nothing, value_found, value_held, path_held, value_then_path, path_then_value_found, path_then_value_held, held_at, place_at, arguments_at, walk_at, outcome, goes_on, behind, short_stops, budget_row, model_row}
use Rattle.uvl_words.proofs.CommandLine.Refusals.{no_budget}
use Rattle.uvl_words.proofs.CommandLine.Fronts.{Front, ended, dashes, flag, joined, unknown, short, empty, plain, arguments-dashes, arguments-joined, arguments-unknown, arguments-short, arguments-empty, arguments-plain}

-- ---- the option without a value, and the option twice

-- the option waits for its value, behind these rows
abbrev pub waiting_at : Held → ℕ → Walk
waiting_at h place = walk_at h place false (waits_for (codes "budget"))

abbrev no_value : Held
no_value = record { rows = []; pending = Some (codes "budget", []); skip = 0 }

abbrev path_no_value : Text → Held
path_no_value p = record { rows = model_row p ∷ []; pending = Some (codes "budget", []); skip = 0 }

-- The option is given again: its first value is found, and its second one is held, if it is there.
pub data Again : Type 0 where
  value : Text → Again
  value_and_path : Text → Text → Again
  path_and_value : Text → Text → Again

abbrev pub again_at : Again → List Text → Held
again_at (value v) vs = record { rows = budget_row v ∷ []; pending = Some (codes "budget", vs); skip = 0 }
again_at (value_and_path v p) vs = record { rows = budget_row v ∷ model_row p ∷ []; pending = Some (codes "budget", vs); skip = 0 }
again_at (path_and_value p v) vs = record { rows = model_row p ∷ budget_row v ∷ []; pending = Some (codes "budget", vs); skip = 0 }

abbrev pub again_place : Again → ℕ
again_place (value v) = 1
again_place _ = 2

-- behind `--` neither is taken
bare_behind : (words : List Text) (w : Waiting) → outcome (walk_at no_value 1 true w) words ≡ None
unfolding clap_on_literals
bare_behind [] w = refl
bare_behind (x ∷ xs) w = refl

path_bare_behind : (p : Text) (words : List Text) (w : Waiting) → outcome (walk_at (path_no_value p) 2 true w) words ≡ None
unfolding clap_on_literals
path_bare_behind p [] w = refl
path_bare_behind p (x ∷ xs) w = refl

again_behind : (a : Again) (words : List Text) (w : Waiting) → outcome (walk_at (again_at a []) (again_place a) true w) words ≡ None
unfolding clap_on_literals
again_behind (value v) [] w = refl
again_behind (value_and_path v p) [] w = refl
again_behind (path_and_value p v) [] w = refl
again_behind (value v) (x ∷ xs) w = refl
again_behind (value_and_path v p) (x ∷ xs) w = refl
again_behind (path_and_value p v) (x ∷ xs) w = refl

again_value_behind : (a : Again) (x : Text) (words : List Text) (w : Waiting) → outcome (walk_at (again_at a (x ∷ [])) (again_place a) true w) words ≡ None
unfolding clap_on_literals
again_value_behind (value v) x [] w = refl
again_value_behind (value_and_path v p) x [] w = refl
again_value_behind (path_and_value p v) x [] w = refl
again_value_behind (value v) x (y ∷ ys) w = refl
again_value_behind (value_and_path v p) x (y ∷ ys) w = refl
again_value_behind (path_and_value p v) x (y ∷ ys) w = refl

-- a second value is refused
again_value : (a : Again) (x : Text) (words : List Text) → Front words → outcome (walk_at (again_at a (x ∷ [])) (again_place a) false idle) words ≡ None
unfolding clap_on_literals
again_value (value v) x _ ended = refl
again_value (value_and_path v p) x _ ended = refl
again_value (path_and_value p v) x _ ended = refl
again_value a x _ (dashes rest) =
    goes_on (walk_at (again_at a (x ∷ [])) (again_place a) false idle) (walk_at (again_at a (x ∷ [])) (again_place a) true idle) (codes "--") rest refl refl
    ∙ again_value_behind a x rest idle
again_value (value v) x _ (flag rest f) = refl
again_value (value_and_path v p) x _ (flag rest f) = refl
again_value (path_and_value p v) x _ (flag rest f) = refl
again_value (value v) x _ (joined y rest f) = refl
again_value (value_and_path v p) x _ (joined y rest f) = refl
again_value (path_and_value p v) x _ (joined y rest f) = refl
again_value a x _ (unknown b bs rest e g h f) = rw e refl
again_value (value v) x _ (short b bs rest e g c first f) = short_stops _ _ _ idle b bs rest e c first refl
again_value (value_and_path v p) x _ (short b bs rest e g c first f) = short_stops _ _ _ idle b bs rest e c first refl
again_value (path_and_value p v) x _ (short b bs rest e g c first f) = short_stops _ _ _ idle b bs rest e c first refl
again_value (value v) x _ (empty rest f) = refl
again_value (value_and_path v p) x _ (empty rest f) = refl
again_value (path_and_value p v) x _ (empty rest f) = refl
again_value (value v) x _ (plain b bs rest e g f) = rw (e, e) refl
again_value (value_and_path v p) x _ (plain b bs rest e g f) = rw (e, e) refl
again_value (path_and_value p v) x _ (plain b bs rest e g f) = rw (e, e) refl

again_waits : (a : Again) (words : List Text) → Front words → outcome (waiting_at (again_at a []) (again_place a)) words ≡ None
unfolding clap_on_literals
again_waits (value v) _ ended = refl
again_waits (value_and_path v p) _ ended = refl
again_waits (path_and_value p v) _ ended = refl
again_waits a _ (dashes rest) =
    goes_on (waiting_at (again_at a []) (again_place a)) (walk_at (again_at a []) (again_place a) true (waits_for (codes "budget"))) (codes "--") rest refl refl
    ∙ again_behind a rest (waits_for (codes "budget"))
again_waits (value v) _ (flag rest f) = refl
again_waits (value_and_path v p) _ (flag rest f) = refl
again_waits (path_and_value p v) _ (flag rest f) = refl
again_waits (value v) _ (joined y rest f) = refl
again_waits (value_and_path v p) _ (joined y rest f) = refl
again_waits (path_and_value p v) _ (joined y rest f) = refl
again_waits a _ (unknown b bs rest e g h f) = rw e refl
again_waits (value v) _ (short b bs rest e g c first f) = short_stops _ _ _ (waits_for (codes "budget")) b bs rest e c first refl
again_waits (value_and_path v p) _ (short b bs rest e g c first f) = short_stops _ _ _ (waits_for (codes "budget")) b bs rest e c first refl
again_waits (path_and_value p v) _ (short b bs rest e g c first f) = short_stops _ _ _ (waits_for (codes "budget")) b bs rest e c first refl
again_waits (value v) _ (empty rest f) =
    goes_on (waiting_at (again_at (value v) []) 1) (walk_at (again_at (value v) ([] ∷ [])) 1 false idle) [] rest refl refl ∙ again_value (value v) [] rest f
again_waits (value_and_path v p) _ (empty rest f) =
    goes_on (waiting_at (again_at (value_and_path v p) []) 2) (walk_at (again_at (value_and_path v p) ([] ∷ [])) 2 false idle) [] rest refl refl ∙ again_value (value_and_path v p) [] rest f
again_waits (path_and_value p v) _ (empty rest f) =
    goes_on (waiting_at (again_at (path_and_value p v) []) 2) (walk_at (again_at (path_and_value p v) ([] ∷ [])) 2 false idle) [] rest refl refl ∙ again_value (path_and_value p v) [] rest f
again_waits (value v) _ (plain b bs rest e g f) =
    goes_on (waiting_at (again_at (value v) []) 1) (walk_at (again_at (value v) ((b ∷ bs) ∷ [])) 1 false idle) (b ∷ bs) rest (rw (e, e) refl) (rw (e, e) refl) ∙ again_value (value v) (b ∷ bs) rest f
again_waits (value_and_path v p) _ (plain b bs rest e g f) =
    goes_on (waiting_at (again_at (value_and_path v p) []) 2) (walk_at (again_at (value_and_path v p) ((b ∷ bs) ∷ [])) 2 false idle) (b ∷ bs) rest (rw (e, e) refl) (rw (e, e) refl) ∙ again_value (value_and_path v p) (b ∷ bs) rest f
again_waits (path_and_value p v) _ (plain b bs rest e g f) =
    goes_on (waiting_at (again_at (path_and_value p v) []) 2) (walk_at (again_at (path_and_value p v) ((b ∷ bs) ∷ [])) 2 false idle) (b ∷ bs) rest (rw (e, e) refl) (rw (e, e) refl) ∙ again_value (path_and_value p v) (b ∷ bs) rest f

-- ---- what refuses the words

refused_next : (s : Standing) (others : List Argument) → request_by (arguments_at s ++ refused ∷ others) ≡ None
refused_next nothing others = refl
refused_next (value_found v) others = refl
refused_next (value_held v) others = refl
refused_next (path_held p) others = refl
refused_next (value_then_path v p) others = refl
refused_next (path_then_value_found p v) others = refl
refused_next (path_then_value_held p v) others = refl

-- a value that writes no budget
bad_value : (v : Text) (others : List Argument) → budget_of v ≡ None → request_by (budget v ∷ others) ≡ None
bad_value v [] e = refl
bad_value v (budget x ∷ others) e = refl
bad_value v (refused ∷ others) e = refl
bad_value v (model p ∷ []) e = ap (request_for p) e ∙ no_budget p
bad_value v (model p ∷ other ∷ others) e = refl

bad_value_behind : (p v : Text) (others : List Argument) → budget_of v ≡ None → request_by (model p ∷ budget v ∷ others) ≡ None
bad_value_behind p v [] e = ap (request_for p) e ∙ no_budget p
bad_value_behind p v (other ∷ others) e = refl

-- ---- the walk in front of `--`

record Claims (words : List Text) : Type 0 where
  front : (s : Standing) → outcome (walk_at (held_at s) (place_at s) false idle) words ≡ request_by (arguments_at s ++ arguments_of words)
  -- the option waits for its value
  value_next : outcome (waiting_at no_value 1) words ≡ request_by (arguments_of (codes "--budget" ∷ words))
  value_next_behind : (p : Text) → outcome (waiting_at (path_no_value p) 2) words ≡ request_by (model p ∷ arguments_of (codes "--budget" ∷ words))

abbrev at : Standing → Walk
at s = walk_at (held_at s) (place_at s) false idle

front_dashes : (s : Standing) (rest : List Text)
    → outcome (walk_at (held_at s) (place_at s) false idle) (codes "--" ∷ rest) ≡ request_by (arguments_at s ++ arguments_of (codes "--" ∷ rest))
unfolding clap_on_literals
front_dashes s rest =
    goes_on (walk_at (held_at s) (place_at s) false idle) (walk_at (held_at s) (place_at s) true idle) (codes "--") rest refl refl
    ∙ (behind s rest ∙ ap (λ (l : List Argument). request_by (arguments_at s ++ l)) (sym (arguments-dashes rest)))

-- a second option, behind one that has its value
front_again : (a : Again) (s : Standing) (rest : List Text) → Front rest
    → outcome (at s) (codes "--budget" ∷ rest) ≡ outcome (waiting_at (again_at a []) (again_place a)) rest
    → ((value : Text) (others : List Argument) → request_by (arguments_at s ++ budget value ∷ others) ≡ None)
    → outcome (at s) (codes "--budget" ∷ rest) ≡ request_by (arguments_at s ++ arguments_of (codes "--budget" ∷ rest))
front_again a s [] f to more = to ∙ (again_waits a [] f ∙ sym (refused_next s []))
front_again a s (next ∷ rest) f to more = to ∙ (again_waits a (next ∷ rest) f ∙ sym (more next (arguments_of rest)))

front_flag : (s : Standing) (rest : List Text) → Front rest → Claims rest
    → outcome (at s) (codes "--budget" ∷ rest) ≡ request_by (arguments_at s ++ arguments_of (codes "--budget" ∷ rest))
unfolding clap_on_literals
front_flag nothing rest f c = goes_on (at nothing) (waiting_at no_value 1) (codes "--budget") rest refl refl ∙ c.value_next
front_flag (path_held p) rest f c = goes_on (at (path_held p)) (waiting_at (path_no_value p) 2) (codes "--budget") rest refl refl ∙ c.value_next_behind p
front_flag (value_found v) rest f c = front_again (value v) (value_found v) rest f
    (goes_on (at (value_found v)) (waiting_at (again_at (value v) []) 1) (codes "--budget") rest refl refl) (λ x o. refl)
front_flag (value_held v) rest f c = front_again (value v) (value_held v) rest f
    (goes_on (at (value_held v)) (waiting_at (again_at (value v) []) 1) (codes "--budget") rest refl refl) (λ x o. refl)
front_flag (value_then_path v p) rest f c = front_again (value_and_path v p) (value_then_path v p) rest f
    (goes_on (at (value_then_path v p)) (waiting_at (again_at (value_and_path v p) []) 2) (codes "--budget") rest refl refl) (λ x o. refl)
front_flag (path_then_value_found p v) rest f c = front_again (path_and_value p v) (path_then_value_found p v) rest f
    (goes_on (at (path_then_value_found p v)) (waiting_at (again_at (path_and_value p v) []) 2) (codes "--budget") rest refl refl) (λ x o. refl)
front_flag (path_then_value_held p v) rest f c = front_again (path_and_value p v) (path_then_value_held p v) rest f
    (goes_on (at (path_then_value_held p v)) (waiting_at (again_at (path_and_value p v) []) 2) (codes "--budget") rest refl refl) (λ x o. refl)

front_joined : (s : Standing) (value : Text) (rest : List Text) → Claims rest
    → outcome (at s) ((codes "--budget=" ++ value) ∷ rest) ≡ request_by (arguments_at s ++ budget value ∷ arguments_of rest)
unfolding clap_on_literals
front_joined nothing x rest c = goes_on (at nothing) (at (value_found x)) (codes "--budget=" ++ x) rest refl refl ∙ c.front (value_found x)
front_joined (path_held p) x rest c = goes_on (at (path_held p)) (at (path_then_value_found p x)) (codes "--budget=" ++ x) rest refl refl ∙ c.front (path_then_value_found p x)
front_joined (value_found v) x rest c = refl
front_joined (value_held v) x rest c = refl
front_joined (value_then_path v p) x rest c = refl
front_joined (path_then_value_found p v) x rest c = refl
front_joined (path_then_value_held p v) x rest c = refl

front_unknown : (s : Standing) (b : ℕ) (bs : Text) (rest : List Text) → bytes_eq (codes "budget") (before_first (λ x. x == 61) (b ∷ bs)) ≡ false
    → outcome (at s) ((45 ∷ 45 ∷ b ∷ bs) ∷ rest) ≡ None
unfolding clap_on_literals
front_unknown s b bs rest e = rw e refl

front_short : (s : Standing) (b : ℕ) (bs : Text) (rest : List Text) → nat_eq b 45 ≡ false → (c : ℕ) → slice_get (chars (b ∷ bs)) 0 ≡ Some c
    → outcome (at s) ((45 ∷ b ∷ bs) ∷ rest) ≡ None
front_short nothing b bs rest e c first = short_stops _ _ _ idle b bs rest e c first refl
front_short (value_found v) b bs rest e c first = short_stops _ _ _ idle b bs rest e c first refl
front_short (value_held v) b bs rest e c first = short_stops _ _ _ idle b bs rest e c first refl
front_short (path_held p) b bs rest e c first = short_stops _ _ _ idle b bs rest e c first refl
front_short (value_then_path v p) b bs rest e c first = short_stops _ _ _ idle b bs rest e c first refl
front_short (path_then_value_found p v) b bs rest e c first = short_stops _ _ _ idle b bs rest e c first refl
front_short (path_then_value_held p v) b bs rest e c first = short_stops _ _ _ idle b bs rest e c first refl

front_empty : (s : Standing) (rest : List Text) → Claims rest
    → outcome (at s) ([] ∷ rest) ≡ request_by (arguments_at s ++ model [] ∷ arguments_of rest)
unfolding clap_on_literals
front_empty nothing rest c = goes_on (at nothing) (at (path_held [])) [] rest refl refl ∙ c.front (path_held [])
front_empty (value_found v) rest c = goes_on (at (value_found v)) (at (value_then_path v [])) [] rest refl refl ∙ c.front (value_then_path v [])
front_empty (value_held v) rest c = goes_on (at (value_held v)) (at (value_then_path v [])) [] rest refl refl ∙ c.front (value_then_path v [])
front_empty (path_held p) rest c = refl
front_empty (value_then_path v p) rest c = refl
front_empty (path_then_value_found p v) rest c = refl
front_empty (path_then_value_held p v) rest c = refl

front_plain : (s : Standing) (b : ℕ) (bs : Text) (rest : List Text) → nat_eq b 45 ≡ false → Claims rest
    → outcome (at s) ((b ∷ bs) ∷ rest) ≡ request_by (arguments_at s ++ model (b ∷ bs) ∷ arguments_of rest)
unfolding clap_on_literals
front_plain nothing b bs rest e c =
    goes_on (at nothing) (at (path_held (b ∷ bs))) (b ∷ bs) rest (rw (e, e) refl) (rw (e, e) refl) ∙ c.front (path_held (b ∷ bs))
front_plain (value_found v) b bs rest e c =
    goes_on (at (value_found v)) (at (value_then_path v (b ∷ bs))) (b ∷ bs) rest (rw (e, e) refl) (rw (e, e) refl) ∙ c.front (value_then_path v (b ∷ bs))
front_plain (value_held v) b bs rest e c =
    goes_on (at (value_held v)) (at (value_then_path v (b ∷ bs))) (b ∷ bs) rest (rw (e, e) refl) (rw (e, e) refl) ∙ c.front (value_then_path v (b ∷ bs))
front_plain (path_held p) b bs rest e c = rw (e, e) refl
front_plain (value_then_path v p) b bs rest e c = rw (e, e) refl
front_plain (path_then_value_found p v) b bs rest e c = rw (e, e) refl
front_plain (path_then_value_held p v) b bs rest e c = rw (e, e) refl

-- what is known of the walk over the words behind the first
abbrev Rest : List Text → Type 0
Rest [] = Unit {0}
Rest (word ∷ rest) = Claims rest

-- the value that is waited for, where nothing stands in front of its option
first_dashes : (rest : List Text) → outcome (waiting_at no_value 1) (codes "--" ∷ rest) ≡ request_by (arguments_of (codes "--budget" ∷ codes "--" ∷ rest))
unfolding clap_on_literals
first_dashes rest =
    goes_on (waiting_at no_value 1) (walk_at no_value 1 true (waits_for (codes "budget"))) (codes "--") rest refl refl
    ∙ (bare_behind rest (waits_for (codes "budget")) ∙ sym (bad_value (codes "--") (arguments_of rest) refl))

first_value : (words : List Text) → Front words → Rest words → outcome (waiting_at no_value 1) words ≡ request_by (arguments_of (codes "--budget" ∷ words))
unfolding clap_on_literals
first_value _ ended c = refl
first_value _ (dashes rest) c = first_dashes rest
first_value _ (flag rest f) c = sym (bad_value (codes "--budget") (arguments_of rest) refl)
first_value _ (joined v rest f) c = sym (bad_value (codes "--budget=" ++ v) (arguments_of rest) refl)
first_value _ (unknown b bs rest e g h f) c =
    let none : outcome (waiting_at no_value 1) ((45 ∷ 45 ∷ b ∷ bs) ∷ rest) ≡ None = rw e refl in
    none ∙ sym (bad_value (45 ∷ 45 ∷ b ∷ bs) (arguments_of rest) refl)
first_value _ (short b bs rest e g x first f) c =
    short_stops _ _ _ (waits_for (codes "budget")) b bs rest e x first refl ∙ sym (bad_value (45 ∷ b ∷ bs) (arguments_of rest) refl)
first_value _ (empty rest f) c = goes_on (waiting_at no_value 1) (at (value_held [])) [] rest refl refl ∙ c.front (value_held [])
first_value _ (plain b bs rest e g f) c =
    goes_on (waiting_at no_value 1) (at (value_held (b ∷ bs))) (b ∷ bs) rest (rw (e, e) refl) (rw (e, e) refl) ∙ c.front (value_held (b ∷ bs))

-- and where a model does
later_dashes : (p : Text) (rest : List Text) → outcome (waiting_at (path_no_value p) 2) (codes "--" ∷ rest) ≡ request_by (model p ∷ arguments_of (codes "--budget" ∷ codes "--" ∷ rest))
unfolding clap_on_literals
later_dashes p rest =
    goes_on (waiting_at (path_no_value p) 2) (walk_at (path_no_value p) 2 true (waits_for (codes "budget"))) (codes "--") rest refl refl
    ∙ (path_bare_behind p rest (waits_for (codes "budget")) ∙ sym (bad_value_behind p (codes "--") (arguments_of rest) refl))

later_value : (p : Text) (words : List Text) → Front words → Rest words → outcome (waiting_at (path_no_value p) 2) words ≡ request_by (model p ∷ arguments_of (codes "--budget" ∷ words))
unfolding clap_on_literals
later_value p _ ended c = refl
later_value p _ (dashes rest) c = later_dashes p rest
later_value p _ (flag rest f) c = sym (bad_value_behind p (codes "--budget") (arguments_of rest) refl)
later_value p _ (joined v rest f) c = sym (bad_value_behind p (codes "--budget=" ++ v) (arguments_of rest) refl)
later_value p _ (unknown b bs rest e g h f) c =
    let none : outcome (waiting_at (path_no_value p) 2) ((45 ∷ 45 ∷ b ∷ bs) ∷ rest) ≡ None = rw e refl in
    none ∙ sym (bad_value_behind p (45 ∷ 45 ∷ b ∷ bs) (arguments_of rest) refl)
later_value p _ (short b bs rest e g x first f) c =
    short_stops _ _ _ (waits_for (codes "budget")) b bs rest e x first refl ∙ sym (bad_value_behind p (45 ∷ b ∷ bs) (arguments_of rest) refl)
later_value p _ (empty rest f) c = goes_on (waiting_at (path_no_value p) 2) (at (path_then_value_held p [])) [] rest refl refl ∙ c.front (path_then_value_held p [])
later_value p _ (plain b bs rest e g f) c =
    goes_on (waiting_at (path_no_value p) 2) (at (path_then_value_held p (b ∷ bs))) (b ∷ bs) rest (rw (e, e) refl) (rw (e, e) refl) ∙ c.front (path_then_value_held p (b ∷ bs))

first_word : (s : Standing) (words : List Text) → Front words → Rest words
    → outcome (at s) words ≡ request_by (arguments_at s ++ arguments_of words)
unfolding clap_on_literals
first_word nothing _ ended c = refl
first_word (value_found v) _ ended c = refl
first_word (value_held v) _ ended c = refl
first_word (path_held p) _ ended c = refl
first_word (value_then_path v p) _ ended c = refl
first_word (path_then_value_found p v) _ ended c = refl
first_word (path_then_value_held p v) _ ended c = refl
first_word s _ (dashes rest) c = front_dashes s rest
first_word s _ (flag rest f) c = front_flag s rest f c
first_word s _ (joined v rest f) c =
    front_joined s v rest c ∙ ap (λ (l : List Argument). request_by (arguments_at s ++ l)) (sym (arguments-joined v rest))
first_word s _ (unknown b bs rest e g h f) c =
    front_unknown s b bs rest e ∙ (sym (refused_next s (arguments_of rest))
    ∙ ap (λ (l : List Argument). request_by (arguments_at s ++ l)) (sym (arguments-unknown b bs rest g h)))
first_word s _ (short b bs rest e g x first f) c =
    front_short s b bs rest e x first ∙ (sym (refused_next s (arguments_of rest))
    ∙ ap (λ (l : List Argument). request_by (arguments_at s ++ l)) (sym (arguments-short b bs rest e g)))
first_word s _ (empty rest f) c =
    front_empty s rest c ∙ ap (λ (l : List Argument). request_by (arguments_at s ++ l)) (sym (arguments-empty rest))
first_word s _ (plain b bs rest e g f) c =
    front_plain s b bs rest e c ∙ ap (λ (l : List Argument). request_by (arguments_at s ++ l)) (sym (arguments-plain b bs rest e g))

one_more : (words : List Text) → Front words → Rest words → Claims words
one_more words f c = record {
  front = λ s. first_word s words f c;
  value_next = first_value words f c;
  value_next_behind = λ p. later_value p words f c;
}

claims : (words : List Text) → Front words → Claims words
claims _ ended = one_more [] ended tt
claims _ (dashes rest) = record {
  front = λ s. front_dashes s rest;
  value_next = first_dashes rest;
  value_next_behind = λ p. later_dashes p rest;
}
claims _ (flag rest f) = one_more (codes "--budget" ∷ rest) (flag rest f) (claims rest f)
claims _ (joined v rest f) = one_more ((codes "--budget=" ++ v) ∷ rest) (joined v rest f) (claims rest f)
claims _ (unknown b bs rest e g h f) = one_more ((45 ∷ 45 ∷ b ∷ bs) ∷ rest) (unknown b bs rest e g h f) (claims rest f)
claims _ (short b bs rest e g x first f) = one_more ((45 ∷ b ∷ bs) ∷ rest) (short b bs rest e g x first f) (claims rest f)
claims _ (empty rest f) = one_more ([] ∷ rest) (empty rest f) (claims rest f)
claims _ (plain b bs rest e g f) = one_more ((b ∷ bs) ∷ rest) (plain b bs rest e g f) (claims rest f)

-- what comes of the whole walk
pub matches : (words : List Text) → Front words → outcome (at nothing) words ≡ request_by (arguments_of words)
matches words f = (claims words f).front nothing
