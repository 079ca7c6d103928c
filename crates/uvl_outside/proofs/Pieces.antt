-- A piece that was copied from the front of a list is what a source owes.
use Rattle.std.proofs.Common.{◌≡◌, ℕ, ◌+◌, ◌<◌, List, ◌++◌, length, take, drop, min, Some, arith}
use Rattle.std.proofs.lemmas.Grind.{common_steps}
use Rattle.std.proofs.lemmas.List.{drop-drop}
use Rattle.uvl_outside.specs.Source.{TakesFront}

-- the bytes that fit, but at most `most`, stand in the buffer, and the others are left
pub takes_front : (rest into now : List ℕ) (most count : ℕ)
    → 0 < length into → 0 < most → count ≡ min (min most (length into)) (length rest)
    → now ≡ take count rest ++ drop count into
    → TakesFront (Some rest) (Some (drop count rest)) now count
takes_front rest into now most count room some fits copied = record {
  front = grind (arith, common_steps);
  none_at_end = (λ z. grind (arith, common_steps), λ z. grind (arith, common_steps));
}

-- the same where what is left stands behind the bytes that were taken before
pub takes_further : (bytes left into now : List ℕ) (taken most count : ℕ)
    → drop taken bytes ≡ left → 0 < length into → 0 < most
    → count ≡ min (min most (length into)) (length left)
    → now ≡ take count left ++ drop count into
    → TakesFront (Some left) (Some (drop (taken + count) bytes)) now count
takes_further bytes left into now taken most count behind room some fits copied =
    rw (← drop-drop count taken bytes, behind)
    (takes_front left into now most count room some fits copied)
