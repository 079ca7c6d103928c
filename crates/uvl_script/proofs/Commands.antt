-- The command that a line is answered with.
use Rattle.std.proofs.Common.{◌≡◌, ◌⊎◌, ℕ, false, List, [], ◌∷◌, Option, Some, None, Result, Ok, Err, IfSome, IsSome, IfOk, IfErr, IsErrAnd, rules, refl, sym, ap, ◌∙◌, inl, inr, subst, length, ◌≤◌, nat_lt, arith}
use Rattle.std.specs.Prelude.{encode_utf8_all}
use Rattle.std.proofs.lemmas.Bool.{cond-false}
use Rattle.std.proofs.lemmas.Bool.Decides.{nat_tests}
use Rattle.uvl_base.specs.Limits.{most_line_bytes}
use Rattle.uvl_script.specs.Commands.{command_of, command_named, command_or_fault, command_with, without_words}
use Rattle.uvl_script.specs.steps.Answers.{IsAnsweredBy}
use Rattle.uvl_script.specs.Lines.{without_cr, words_of_line, some_command, reading_of_words, reading_of}
use Rattle.uvl_script.specs.steps.Answers.{IsAnswered}
use Rattle.uvl_script.specs.Words.{onto}
use Rattle.uvl_script.specs.declared.command.Command.{Command}
use Rattle.uvl_script.specs.declared.command.CommandName.{CommandName}
use Rattle.uvl_script.specs.declared.fault.LineFault.{LineFault}
use Rattle.uvl_script.specs.declared.fault.LineFault.TheVariants.{UnknownCommand, WrongArity, OutOfMemory}
use Rattle.uvl_script.specs.declared.fault.WordFault.{WordFault}
use Rattle.uvl_script.proofs.Reading.{IsSome-None}

-- ---- the command of a name

-- an error that came by `?`
pub error_is : {T : Type 0} (result : Result T LineFault) (fault : LineFault) → IsErrAnd result (λ e. e ≡ fault) → result ≡ Err fault
error_is (Ok value) fault e = absurd e
error_is (Err error) fault e = ap Err e

-- the words behind a name are answered, where there are words
abbrev pub Answered : List ℕ → Option (List (List ℕ)) → Result Command LineFault → Type 0
Answered name words result = IfSome words (λ some. IsAnsweredBy (command_of name some) result)

-- a command is looked up by the bytes of its name
pub of_name : (name bytes : List ℕ) (found : Option CommandName) (words : Option (List (List ℕ))) (result : Result Command LineFault) → encode_utf8_all name ≡ bytes
    → found ≡ command_named bytes → IfSome words (λ some. IsAnsweredBy (command_or_fault found some) result) → Answered name words result
of_name name bytes found words result same looked_up answered =
    let P : Option CommandName → Type 0 = λ f. IfSome words (λ some. IsAnsweredBy (command_or_fault f some) result) in
    subst P (looked_up ∙ ap command_named (sym same)) answered

pub not_found : (words : Option (List (List ℕ))) → IfSome words (λ some. IsAnsweredBy (command_or_fault None some) (Err UnknownCommand))
not_found None = tt
not_found (Some some) = refl

-- ---- the words behind a name

-- what a command answers to its words is what is answered where its name was found
pub of_called : (name found : CommandName) (words : Option (List (List ℕ))) (result : Result Command LineFault) → name ≡ found
    → IfSome words (λ some. IsAnsweredBy (command_with found some) result) → IfSome words (λ some. IsAnsweredBy (command_with name some) result)
of_called name found words result e answered =
    let P : CommandName → Type 0 = λ n. IfSome words (λ some. IsAnsweredBy (command_with n some) result) in
    subst P (sym e) answered

-- memory is wanting for the names of a command
pub no_room : (make : List (List ℕ) → Command) (words : Option (List (List ℕ))) (result : Result Command LineFault) (fault : LineFault)
    → IsErrAnd result (λ e. e ≡ fault) → fault ≡ OutOfMemory → IfSome words (λ some. IsAnsweredBy (Ok (make some)) result)
no_room make None result fault is memory = tt
no_room make (Some some) result fault is memory = inr (error_is result fault is ∙ ap Err memory)

-- ---- a text without words

-- behind a first word there are words
onto-some : (word : List ℕ) (more : Option (List (List ℕ))) → onto word more ≡ Some [] → ⊥
onto-some word None e = cc
onto-some word (Some more) e = cc

pub not_blank : (words more : Option (List (List ℕ))) (word : List ℕ) → words ≡ onto word more → words ≡ Some [] → ⊥
not_blank words more word e none = onto-some word more (sym e ∙ none)

-- a command that takes no words is given none
pub none_taken : (command : Command) (words : Option (List (List ℕ))) → words ≡ Some [] → IfSome words (λ some. IsAnsweredBy (without_words command some) (Ok command))
none_taken command words e =
    subst (λ (w : Option (List (List ℕ))). IfSome w (λ some. IsAnsweredBy (without_words command some) (Ok command))) (sym e) (inl refl)

-- it is given some
pub too_many : (command : Command) (words : Option (List (List ℕ))) → (words ≡ Some [] → ⊥) → IfSome words (λ some. IsAnsweredBy (without_words command some) (Err WrongArity))
too_many command None some = tt
too_many command (Some []) some = absurd (some refl)
too_many command (Some (word ∷ words)) some = refl

-- ---- the answer to a line

lifted : (reading reply : Result Command LineFault) → IsAnsweredBy reading reply → IsAnswered (some_command reading) (some_command reply)
lifted (Ok command) reply (inl e) = inl (ap some_command e)
lifted (Ok command) reply (inr e) = inr (ap some_command e)
lifted (Err fault) reply e = ap some_command e

-- what stands behind a word of a text of words is made of words
pub IsSome-behind : (whole more : Option (List (List ℕ))) (word : List ℕ) → whole ≡ onto word more → IsSome whole → IsSome more
IsSome-behind whole None word e some = subst (λ (words : Option (List (List ℕ))). IsSome words) e some
IsSome-behind whole (Some more) word e some = search rules

-- a line of words, of which the first is a name, is answered as its command is
pub answered_line : (line name : List ℕ) (whole more : Option (List (List ℕ))) (reply : Result Command LineFault) → whole ≡ onto name more → IsSome whole
    → IfSome whole (λ words. words_of_line line ≡ Ok words) → Answered name more reply → IsAnswered (reading_of_words (words_of_line line)) (some_command reply)
answered_line line name whole None reply e some of_line answered = absurd (IsSome-None (subst (λ (words : Option (List (List ℕ))). IsSome words) e some))
answered_line line name whole (Some more) reply e some of_line answered =
    let words : words_of_line line ≡ Ok (name ∷ more) = subst (λ (w : Option (List (List ℕ))). IfSome w (λ words. words_of_line line ≡ Ok words)) e of_line in
    subst (λ (r : Result (List (List ℕ)) WordFault). IsAnswered (reading_of_words r) (some_command reply)) (sym words) (lifted (command_of name more) reply answered)

-- ---- what the clauses say of an answer

abbrev pub IsAnswer : Result (Option Command) LineFault → Result (Option Command) LineFault → Type 0
IsAnswer reading result = IfOk result (λ answer. reading ≡ Ok answer)

abbrev pub HasCause : Result (Option Command) LineFault → Result (Option Command) LineFault → Type 0
HasCause reading result = IfErr result (λ fault. (reading ≡ Err fault) ⊎ (fault ≡ OutOfMemory))

abbrev pub IsRefused : Result (Option Command) LineFault → Result (Option Command) LineFault → Type 0
IsRefused reading result = IfErr reading (λ fault. result ≡ Err fault)

pub answer_is : (reading result : Result (Option Command) LineFault) → IsAnswered reading result → IsAnswer reading result
answer_is (Ok (Some command)) result (inl e) = subst (IsAnswer (Ok (Some command))) (sym e) refl
answer_is (Ok (Some command)) result (inr e) = subst (IsAnswer (Ok (Some command))) (sym e) tt
answer_is (Ok None) result e = subst (IsAnswer (Ok None)) (sym e) refl
answer_is (Err fault) result e = subst (IsAnswer (Err fault)) (sym e) tt

pub cause_is : (reading result : Result (Option Command) LineFault) → IsAnswered reading result → HasCause reading result
cause_is (Ok (Some command)) result (inl e) = subst (HasCause (Ok (Some command))) (sym e) tt
cause_is (Ok (Some command)) result (inr e) = subst (HasCause (Ok (Some command))) (sym e) (inr refl)
cause_is (Ok None) result e = subst (HasCause (Ok None)) (sym e) tt
cause_is (Err fault) result e = subst (HasCause (Err fault)) (sym e) (inl refl)

pub refusal_is : (reading result : Result (Option Command) LineFault) → IsAnswered reading result → IsRefused reading result
refusal_is (Ok answer) result e = tt
refusal_is (Err fault) result e = e

-- a line that isn't too long is read by its words
pub reading_is : (line content : List ℕ) → content ≡ without_cr line → length content ≤ most_line_bytes → reading_of line ≡ reading_of_words (words_of_line content)
reading_is line content e fits =
    subst (λ (xs : List ℕ). reading_of line ≡ reading_of_words (words_of_line xs)) (sym e)
    (cond-false (nat_lt most_line_bytes (length (without_cr line))) _ _ (not_above (length (without_cr line)) (subst (λ (xs : List ℕ). length xs ≤ most_line_bytes) e fits)))
  where
    not_above : (n : ℕ) → n ≤ most_line_bytes → nat_lt most_line_bytes n ≡ false
    not_above n fits = grind (arith, nat_tests)

-- a line of words has no fault of its words
pub no_fault : (P : WordFault → Type 0) (line : List ℕ) (whole : Option (List (List ℕ))) → IsSome whole → IfSome whole (λ words. words_of_line line ≡ Ok words) → IfErr (words_of_line line) P
no_fault P line None some words = absurd (IsSome-None some)
no_fault P line (Some whole) some words = subst (λ (r : Result (List (List ℕ)) WordFault). IfErr r P) (sym words) tt
