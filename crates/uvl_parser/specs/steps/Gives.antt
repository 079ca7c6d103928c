-- What a function of the parser answers, against what reading gives.
use Rattle.std.specs.Prelude.{◌≡◌, List, Result, Ok, Err}
use Rattle.std.proofs.Common.{Bor}
use Rattle.uvl_lexer.specs.declared.token.Token.{Token}
use Rattle.uvl_grammar.specs.steps.Reading.{Read, Reader}
use Rattle.uvl_parser.specs.declared.reading.Stop.{Stop}
use Rattle.uvl_parser.specs.declared.reading.Stop.TheVariants.{Stuck, OutOfMemory}

-- a function gave what reading gives, unless memory ran out
abbrev pub Fails : {Y : Type 0} → Stop → Read Y → Type 0
Fails (Stuck left) read = read ≡ Err left
Fails OutOfMemory read = Unit {0}

abbrev pub Gives : {X Y : Type 0} → (X → Y × List Token) → Result X Stop → Read Y → Type 0
Gives view (Ok x) read = read ≡ Ok (view x)
Gives view (Err stop) read = Fails stop read

-- whatever a function that is passed in answers, is what a reader gives
abbrev pub IsReader : {A T : Type 0} → (A → Bor (List Token) → Result (T × Bor (List Token)) Stop → Type 0) → Reader T
    → Type 0
IsReader {A} {T} answers p = (alloc : A) (ts : Bor (List Token)) (r : Result (T × Bor (List Token)) Stop)
    → answers alloc ts r → Gives (λ x. (x.0, x.1.now)) r (p ts.now)

-- what is answered is what the whole gives, for each reader that the function passed in answers by
abbrev pub GivesWith : {A T X Y : Type 0} → (A → Bor (List Token) → Result (T × Bor (List Token)) Stop → Type 0)
    → (X → Y × List Token)
    → Result X Stop → (Reader T → Read Y) → Type 0
GivesWith {A} {T} answers view result whole = (p : Reader T) → IsReader answers p → Gives view result (whole p)
