-- Values that may not be there.
use Rattle.std.proofs.Common.{◌≡◌, Option, Some, None, refl}
use Rattle.std.specs.Option.{option_map, option_and_then}
use Rattle.uvl_placing.specs.Options.{of_both, known}

-- both are there
pub both_there : {A B C : Type 0} (make : A → B → C) (first : Option A) (second : Option B) (whole : C) → of_both make first second ≡ Some whole
    → (a : A) × (b : B) × (first ≡ Some a) × (second ≡ Some b) × (whole ≡ make a b)
both_there make None second whole is = absurd cc
both_there make (Some a) None whole is = absurd cc
both_there make (Some a) (Some b) whole is = (a, b, refl, refl, cc)

-- what is made of a value that is there
pub made_there : {A B : Type 0} (make : A → B) (value : Option A) (whole : B) → option_map make value ≡ Some whole
    → (a : A) × (value ≡ Some a) × (whole ≡ make a)
made_there make None whole is = absurd cc
made_there make (Some a) whole is = (a, refl, cc)

-- what is found in two steps
pub then_there : {A B : Type 0} (f : A → Option B) (o : Option A) (y : B) → option_and_then f o ≡ Some y → (x : A) × (o ≡ Some x) × (f x ≡ Some y)
then_there f None y h = absurd cc
then_there f (Some x) y h = (x, refl, h)

pub known_there : {A : Type 0} (o : Option (Option A)) (y : A) → known o ≡ Some y → o ≡ Some (Some y)
known_there {A} None y h = absurd cc
known_there {A} (Some x) y h = cc
