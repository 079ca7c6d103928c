-- Where a budget is too small.
use Rattle.std.proofs.Common.{◌≡◌, ◌+◌, ◌*◌, ◌^◌, List, [], ◌∷◌, ◌++◌, length, ap, inl, inr, arith, length-append}
use Rattle.dd_store.specs.declared.row.Var.{Var}
use Rattle.dd_store.specs.Short.{literals, ShortStays, ShortIsBounded}
use Rattle.dd_store.proofs.SizeLemmas.{in_from, contains_from, in_parts, in_left, in_right, more-size}
use Rattle.dd_store.proofs.FreeLemmas.{size-bounded}

pub short-stays : ShortStays
short-stays order budget less held more few many below functions groups (k, group, inside, at, over) =
    let there = groups group (k, inside, at) in
    let larger = more-size order (held ++ (literals order ++ group)) (more ++ (literals order ++ group))
    (λ f is. contains_from f (more ++ (literals order ++ group)) (elim (in_parts f held (literals order ++ group) (in_from f (held ++ (literals order ++ group)) is)) [
      | inl front ↦ in_left f more (literals order ++ group) (in_from f more (functions f (contains_from f held front)))
      | inr back ↦ in_right f more (literals order ++ group) back
    ])) in
    (there.0, group, there.1, there.2, omega arith)

literal-count : (order : List Var) → length (literals order) ≡ 2 * length order
literal-count [] = omega arith
literal-count (v ∷ vs) = let rest = literal-count vs in omega arith

pub short-bounded : ShortIsBounded
short-bounded order budget held groups (k, group, inside, at, over) =
    let most = size-bounded order (held ++ (literals order ++ group)) in
    let count = literal-count order in
    let one = length-append held (literals order ++ group) in
    let two = length-append (literals order) group in
    let all : length (held ++ (literals order ++ group)) ≡ length held + (2 * length order + length group) = omega arith in
    let bound = ap (λ m. m * 2 ^ length order) all in
    (k, group, inside, at, omega arith)
