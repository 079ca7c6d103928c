-- How the bytes that a source has left and those that a sink was given go on from call to call.
use Rattle.std.proofs.Common.{◌≡◌, ◌↔◌, ℕ, zero, suc, IfSome, List, [], ◌∷◌, ◌++◌, length, take, Option, Some, None, refl, sym, ap, ◌∙◌, subst, append_assoc, append-nil}
use Rattle.std.proofs.Math.Seq.{take-nil}
use Rattle.std.specs.Io.KnownBytes.{Keeps, Consumes, Appends, IsAtEnd}
use Rattle.uvl_outside.specs.Source.{TakesFront}
use Rattle.uvl_lines.specs.Endings.{TakesAll}
use Rattle.uvl_lines.specs.Runs.{IsFrontOf}

-- nothing is written behind what was written
pub appends_nothing : (written : Option (List ℕ)) → Appends written written []
appends_nothing None = tt
appends_nothing (Some bytes) = sym (append-nil bytes)

-- what is written in two calls is written one behind the other
pub appends_both : (a b c : Option (List ℕ)) (xs ys : List ℕ) → Appends a b xs → Appends b c ys → Appends a c (xs ++ ys)
appends_both None b c xs ys first second = tt
appends_both (Some xs₀) None c xs ys first second = absurd first
appends_both (Some xs₀) (Some ys₀) None xs ys first second = absurd second
appends_both (Some xs₀) (Some ys₀) (Some zs₀) xs ys first second =
    second ∙ ap (λ (t : List ℕ). t ++ ys) first ∙ append_assoc xs₀ xs ys

-- nothing is taken from what is left
pub consumes_nothing : (left : Option (List ℕ)) → Consumes left left []
consumes_nothing None = tt
consumes_nothing (Some bytes) = refl

-- what is taken in two calls stood one behind the other
pub consumes_both : (a b c : Option (List ℕ)) (xs ys : List ℕ) → Consumes a b xs → Consumes b c ys → Consumes a c (xs ++ ys)
consumes_both None b c xs ys first second = tt
consumes_both (Some xs₀) None c xs ys first second = absurd first
consumes_both (Some xs₀) (Some ys₀) None xs ys first second = absurd second
consumes_both (Some xs₀) (Some ys₀) (Some zs₀) xs ys first second =
    first ∙ ap (λ (t : List ℕ). xs ++ t) second ∙ sym (append_assoc xs ys zs₀)

-- what was taken stays so where nothing more is
pub consumes_kept : (a b c : Option (List ℕ)) (xs : List ℕ) → Consumes a b xs → Keeps b c → Consumes a c xs
consumes_kept None b c xs moved kept = tt
consumes_kept (Some as₀) None c xs moved kept = absurd moved
consumes_kept (Some as₀) (Some bs₀) None xs moved kept = absurd kept
consumes_kept (Some as₀) (Some bs₀) (Some cs₀) xs moved kept = moved ∙ ap (λ (t : List ℕ). xs ++ t) (sym kept)

-- all was taken where nothing is left
pub took_all : (input left : Option (List ℕ)) (taken : List ℕ) → Consumes input left taken → IsAtEnd left → TakesAll input taken
took_all None left taken moved ended = tt
took_all (Some bytes) None taken moved ended = absurd moved
took_all (Some bytes) (Some rest) taken moved ended = moved ∙ ap (λ (t : List ℕ). taken ++ t) ended ∙ append-nil taken

-- a take of nothing says that nothing was left
pub nothing_left : (before now : Option (List ℕ)) (into : List ℕ) (count : ℕ) → count ≡ 0 → TakesFront before now into count → IsAtEnd before × Consumes before now []
nothing_left before now into count none took = (ended before took.none_at_end, took_none)
  where
    ended : (left : Option (List ℕ)) → IfSome left (λ bytes. (count ≡ 0) ↔ (bytes ≡ [])) → IsAtEnd left
    ended None exact = tt
    ended (Some bytes) exact = exact.0 none

    took_none : Consumes before now []
    took_none =
        let P : ℕ → Type 0 = λ n. Consumes before now (take n into) in
        subst P none took.front

-- the first so many bytes are a front
pub take-IsFrontOf : (count : ℕ) (text : List ℕ) → IsFrontOf (take count text) text
take-IsFrontOf count [] = ([], ap (λ (t : List ℕ). t ++ []) (take-nil count))
take-IsFrontOf zero (x ∷ xs) = (x ∷ xs, refl)
take-IsFrontOf (suc count) (x ∷ xs) = let front = take-IsFrontOf count xs in (front.0, ap (λ (t : List ℕ). x ∷ t) front.1)

-- the front of two parts that is as long as the first is the first
pub take_length : (xs ys : List ℕ) → take (length xs) (xs ++ ys) ≡ xs
take_length [] ys = refl
take_length (x ∷ xs) ys = ap (λ (t : List ℕ). x ∷ t) (take_length xs ys)
