-- What the answers of `take` say of the bytes that a source has left. This project's own.
use Rattle.std.specs.Prelude.{◌≡◌, ◌↔◌, ℕ, List, [], take, Option, IfSome, Result, Ok, Err}
use Rattle.std.specs.Io.KnownBytes.{Consumes, Keeps}

-- the buffer's first `count` bytes were the front of what was left, and are none exactly at the end
pub record TakesFront (before now : Option (List ℕ)) (into : List ℕ) (count : ℕ) : Type 0 where
  pub front : Consumes before now (take count into)
  pub none_at_end : IfSome before (λ left. (count ≡ 0) ↔ (left ≡ []))

-- what an answer of `take` says of what was left before the call and of what is left now
abbrev pub Takes : {E : Type 0} → Option (List ℕ) → Option (List ℕ) → List ℕ → Result ℕ E → Type 0
Takes before now into (Ok count) = TakesFront before now into count
Takes before now into (Err _) = Keeps before now
