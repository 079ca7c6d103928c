-- What several reads or writes of known bytes do, one after another.
use Rattle.std.proofs.Common.{◌≡◌, ℕ, ◌+◌, ◌≤◌, List, [], ◌++◌, length, take, drop, Option, None, Some, IfSome, sym, ap, ◌∙◌, subst, append-nil, length-append}
use Rattle.std.proofs.Math.Seq.{take-add}
use Rattle.std.proofs.KnownBytes.{Consumes-trans, Appends-trans}
use Rattle.std.specs.Io.KnownBytes.{Consumes, Appends}
use Rattle.uvl_outside.specs.Source.{TakesFront}
use Rattle.uvl_outside.specs.Reading.{ConsumesAtMost}

-- where the next call took nothing, all was taken before
pub all_from_none : (a b c : Option (List ℕ)) (all into : List ℕ) (count : ℕ)
    → Consumes a b all → TakesFront b c into count → count ≡ 0 → IfSome a (λ bytes. all ≡ bytes)
all_from_none None b c all into count first taken none = tt
all_from_none (Some x) None c all into count first taken none = absurd first
all_from_none (Some x) (Some y) c all into count first taken none =
    let done : y ≡ [] = taken.none_at_end.0 none in
    sym (first ∙ ap (λ rest. all ++ rest) done ∙ append-nil all)

-- two pieces, of which the second was taken behind the first
pub at_most_both : (a b c : Option (List ℕ)) (xs ys : List ℕ) (most : ℕ)
    → Consumes a b xs → Consumes b c ys → length xs + length ys ≤ most → ConsumesAtMost a c most
at_most_both a b c xs ys most first second fits =
    (xs ++ ys, rw length-append fits, Consumes-trans a b c xs ys first second)

-- a piece, of which one more front was written behind the front so far
pub appends_further : (a b c : Option (List ℕ)) (piece rest : List ℕ) (done count : ℕ)
    → rest ≡ drop done piece → Appends a b (take done piece) → Appends b c (take count rest)
    → Appends a c (take (done + count) piece)
appends_further a b c piece rest done count e first second =
    let joined = take-add done count piece ∙ ap (λ l. take done piece ++ take count l) (sym e) in
    subst (Appends a c) (sym joined) (Appends-trans a b c _ _ first second)
