-- What numbers make down their left operands.
use Rattle.std.proofs.Common.{◌≡◌, ℕ, ◌+◌, ◌-◌, List, [], ◌∷◌, ◌++◌, Option, Some, length, take, refl, sym, ap, ◌∙◌, arith}
use Rattle.std.specs.Prelude.{position}
use Rattle.std.specs.Option.{option_map}
use Rattle.std.specs.Str.{bytes_eq}
use Rattle.std.proofs.lemmas.List.{length-append}
use Rattle.uvl_base.specs.declared.place.Place.{Place}
use Rattle.uvl_ast.specs.declared.expression.BinOp.{BinOp}
use Rattle.uvl_ast.specs.declared.expression.Expr.{Expr}
use Rattle.uvl_ast.specs.declared.expression.Expr.TheVariants as expr
use Rattle.uvl_model.specs.declared.rule.Number.{Number}
use Rattle.uvl_model.specs.declared.rule.Number.TheVariants as number
use Rattle.uvl_model.specs.Spelling.{numbered}
use Rattle.uvl_placing.specs.Names.{dotted, front_of, last_of}
use Rattle.uvl_resolve.specs.declared.number.PendingNumber.{PendingNumber}
use Rattle.uvl_resolve.specs.steps.Rules.{IsMade, attribute_called, number_of, reckoned, reckoned_by, within_numbers}
use Rattle.uvl_resolve.proofs.Made.{left_there, number_binary, right_operand}

-- the innermost of what is made is made
pub inner_made : (outer : List PendingNumber) (inner : Option Number) → IsMade (within_numbers outer inner) → IsMade inner
inner_made [] inner made = made
inner_made (first ∷ others) inner made = inner_made others inner (left_there (reckoned_by first.operator) (within_numbers others inner) (Some first.right) made)

-- the innermost operator
within_last : (outer : List PendingNumber) (last : PendingNumber) (inner : Option Number)
    → within_numbers (outer ++ last ∷ []) inner ≡ within_numbers outer (reckoned last.operator inner (Some last.right))
within_last [] last inner = refl
within_last (first ∷ others) last inner = ap (λ (o : Option Number). reckoned first.operator o (Some first.right)) (within_last others last inner)

-- one operator less
pub one_less : (all front : List PendingNumber) (last : PendingNumber) (inner made : Number) → all ≡ front ++ last ∷ []
    → reckoned_by last.operator inner last.right ≡ Some made → within_numbers front (Some made) ≡ within_numbers all (Some inner)
one_less all front last inner made split is =
    sym (ap (λ (ps : List PendingNumber). within_numbers ps (Some inner)) split ∙ within_last front last (Some inner) ∙ ap (within_numbers front) is)

pub last_made : (all front : List PendingNumber) (last : PendingNumber) (inner : Number) → all ≡ front ++ last ∷ []
    → IsMade (within_numbers all (Some inner)) → IsMade (reckoned_by last.operator inner last.right)
last_made all front last inner split made =
    inner_made front (reckoned_by last.operator inner last.right)
    (made.0, sym (ap (λ (ps : List PendingNumber). within_numbers ps (Some inner)) split ∙ within_last front last (Some inner)) ∙ made.1)

-- one operator more
pub one_more : (names : List (List ℕ)) (offset : ℕ) (whole : Option Number) (outer new : List PendingNumber) (current : Expr) (o : BinOp) (left right : Expr) (p : Place)
    (made : Number) → current ≡ expr.Binary o left right p → whole ≡ within_numbers outer (number_of names offset current)
    → number_of names offset right ≡ Some made → new ≡ outer ++ record { operator = o; right = made } ∷ [] → whole ≡ within_numbers new (number_of names offset left)
one_more names offset whole outer new current o left right p made is so_far is_made pushed =
    so_far ∙ ap (λ (e : Expr). within_numbers outer (number_of names offset e)) is
    ∙ ap (within_numbers outer) (number_binary names offset o left right p ∙ ap (λ (r : Option Number). reckoned o (number_of names offset left) r) is_made)
    ∙ sym (ap (λ (ps : List PendingNumber). within_numbers ps (number_of names offset left)) pushed ∙ within_last outer (record { operator = o; right = made }) (number_of names offset left))

-- the right operand there is made
pub right_there : (names : List (List ℕ)) (offset : ℕ) (whole : Option Number) (outer : List PendingNumber) (current : Expr) (o : BinOp) (left right : Expr) (p : Place)
    → current ≡ expr.Binary o left right p → whole ≡ within_numbers outer (number_of names offset current) → IsMade whole → IsMade (number_of names offset right)
right_there names offset whole outer current o left right p is so_far made =
    let here = inner_made outer (number_of names offset current) (made.0, sym so_far ∙ made.1) in
    right_operand (reckoned_by o) (number_of names offset left) (number_of names offset right)
    (here.0, sym (ap (number_of names offset) is ∙ number_binary names offset o left right p) ∙ here.1)

-- all names but the last, and the last
take_front : (front rest : List (List ℕ)) → take (length front) (front ++ rest) ≡ front
take_front [] rest = refl
take_front (x ∷ front) rest = ap (λ (xs : List (List ℕ)). x ∷ xs) (take_front front rest)

front_is : (front : List (List ℕ)) (last : List ℕ) → front_of (front ++ last ∷ []) ≡ front
front_is front last =
    let e : length (front ++ last ∷ []) - 1 ≡ length front = omega (arith, length-append front (last ∷ [])) in
    ap (λ (n : ℕ). take n (front ++ last ∷ [])) e ∙ take_front front (last ∷ [])

last_is : (front : List (List ℕ)) (last : List ℕ) → last_of (front ++ last ∷ []) ≡ last
last_is [] last = refl
last_is (x ∷ []) last = refl
last_is (x ∷ y ∷ front) last = last_is (y ∷ front) last

-- the parts of a reference to an attribute: those of the feature, and the key
pub parts_called : (names : List (List ℕ)) (offset : ℕ) (parts front : List (List ℕ)) (key : List ℕ) → parts ≡ front ++ key ∷ []
    → IsMade (attribute_called names offset parts)
    → attribute_called names offset parts ≡ option_map (λ k. number.Attr (numbered (offset + k)) key) (position (bytes_eq (dotted front)) names)
parts_called names offset parts front key is made =
    ap (attribute_called names offset) is ∙ by front (made.0, ap (attribute_called names offset) (sym is) ∙ made.1)
  where
    at : List (List ℕ) → List ℕ → Option Number
    at parts last = option_map (λ k. number.Attr (numbered (offset + k)) last) (position (bytes_eq (dotted parts)) names)

    whole : (first : List ℕ) (rest : List (List ℕ))
        → attribute_called names offset (first ∷ rest ++ key ∷ []) ≡ at (front_of (first ∷ rest ++ key ∷ [])) (last_of (first ∷ rest ++ key ∷ []))
    whole first [] = refl
    whole first (next ∷ rest) = refl

    by : (front : List (List ℕ)) → IsMade (attribute_called names offset (front ++ key ∷ []))
        → attribute_called names offset (front ++ key ∷ []) ≡ at front key
    by [] made = absurd cc
    by (first ∷ rest) made =
        whole first rest
        ∙ ap (λ (f : List (List ℕ)). at f (last_of (first ∷ rest ++ key ∷ []))) (front_is (first ∷ rest) key)
        ∙ ap (at (first ∷ rest)) (last_is (first ∷ rest) key)
