-- Induction over lines and groups, by their parts.
use Rattle.std.proofs.Common.{List, [], ◌∷◌, ◌++◌, map, subst}
use Rattle.std.specs.List.{AllByRecursion, flat_map}
use Rattle.uvl_ast.specs.declared.feature.Feature.{Feature, roll-Feature}
use Rattle.uvl_ast.specs.declared.feature.Group.{Group, roll-Group}
use Rattle.uvl_ast.specs.declared.feature.Feature.TheOpen.{Feature-F, Group-F}
use Rattle.uvl_ast.specs.declared.feature.Feature.TheFolds.{ind-Feature}

-- what is told beside each of some values
each_of : {A : Type 0} (P : A → Type 0) (ys : List ((a : A) × P a)) → AllByRecursion P (map (λ e. e.0) ys)
each_of P [] = tt
each_of P (y ∷ ys) = (y.1, each_of P ys)

-- what holds of a line where it holds of its groups, and of a group where it holds of its members
pub by_parts : (P : Feature → Type 0) (Q : Group → Type 0)
    → ((x : Feature-F Feature Group) → AllByRecursion Q x.groups → P (roll-Feature x))
    → ((x : Group-F Feature Group) → AllByRecursion P x.members → Q (roll-Group x)) → (line : Feature) → P line
by_parts P Q f g =
    ind-Feature P Q (λ x y is. f x (subst (λ (z : Feature-F Feature Group). AllByRecursion Q z.groups) is (each_of Q y.groups)))
    (λ x y is. g x (subst (λ (z : Group-F Feature Group). AllByRecursion P z.members) is (each_of P y.members)))

-- of two lists behind one another
pub front_all : {A : Type 0} (P : A → Type 0) (xs ys : List A) → AllByRecursion P (xs ++ ys) → AllByRecursion P xs
front_all P [] ys h = tt
front_all P (x ∷ xs) ys h = (h.0, front_all P xs ys h.1)

pub rest_all : {A : Type 0} (P : A → Type 0) (xs ys : List A) → AllByRecursion P (xs ++ ys) → AllByRecursion P ys
rest_all P [] ys h = h
rest_all P (x ∷ xs) ys h = rest_all P xs ys h.1

pub both_all : {A : Type 0} (P : A → Type 0) (xs ys : List A) → AllByRecursion P xs → AllByRecursion P ys → AllByRecursion P (xs ++ ys)
both_all P [] ys h k = k
both_all P (x ∷ xs) ys h k = (h.0, both_all P xs ys h.1 k)

-- and of the lists of some items
pub parts_all : {A B : Type 0} (P : B → Type 0) (f : A → List B) (items : List A) → AllByRecursion P (flat_map (λ parts. parts) (map f items))
    → AllByRecursion (λ item. AllByRecursion P (f item)) items
parts_all P f [] h = tt
parts_all P f (item ∷ items) h = (front_all P (f item) _ h, parts_all P f items (rest_all P (f item) _ h))

pub all_parts : {A B : Type 0} (P : B → Type 0) (f : A → List B) (items : List A) → AllByRecursion (λ item. AllByRecursion P (f item)) items
    → AllByRecursion P (flat_map (λ parts. parts) (map f items))
all_parts P f [] h = tt
all_parts P f (item ∷ items) h = both_all P (f item) _ h.0 (all_parts P f items h.1)
