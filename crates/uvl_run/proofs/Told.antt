-- How the bytes that a source has left and those that a sink was given go on.
use Rattle.std.proofs.Common.{ℕ, zero, suc, List, [], ◌∷◌, ◌++◌, take, Option, Some, None, refl, sym, ap, append-nil}
use Rattle.std.proofs.Math.Seq.{take-nil}
use Rattle.std.specs.Io.KnownBytes.{Consumes, Appends}
use Rattle.uvl_lines.specs.Runs.{IsFrontOf}

-- nothing is written behind what was written
pub appends_nothing : (written : Option (List ℕ)) → Appends written written []
appends_nothing None = tt
appends_nothing (Some bytes) = sym (append-nil bytes)

-- nothing is taken from what is left
pub consumes_nothing : (left : Option (List ℕ)) → Consumes left left []
consumes_nothing None = tt
consumes_nothing (Some bytes) = refl

-- the first so many bytes are a front
pub take-IsFrontOf : (count : ℕ) (text : List ℕ) → IsFrontOf (take count text) text
take-IsFrontOf count [] = ([], ap (λ (t : List ℕ). t ++ []) (take-nil count))
take-IsFrontOf zero (x ∷ xs) = (x ∷ xs, refl)
take-IsFrontOf (suc count) (x ∷ xs) = let front = take-IsFrontOf count xs in (front.0, ap (λ (t : List ℕ). x ∷ t) front.1)
