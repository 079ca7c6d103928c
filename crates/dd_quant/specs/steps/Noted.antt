-- What a walk notes of the values that lead to yes: those that an edge tests, and how far edges pass over levels.
use Rattle.std.specs.Prelude.{◌≡◌, ◌⊎◌, ℕ, ◌<◌, ◌≤◌, Bool, true, List, length, slice_index, Option, Some}
use Rattle.dd_store.specs.Table.{Table, value_of, top_of, level_of, IsVariable}
use Rattle.dd_quant.specs.declared.offer.Offer.{Offer}
use Rattle.dd_quant.specs.Offers.{has_value, offer_for}
use Rattle.dd_quant.specs.steps.Given.{Allows, Meets}
use Rattle.dd_quant.specs.steps.Marked.{found_of}

-- the value of the variable is noted
abbrev pub HasNote : List Offer → ℕ → Bool → Type 0
HasNote offers v b = has_value (offer_for offers v) b ≡ true

-- an edge that comes to a level from above leads past it: `far` has for each level how far such an edge leads that begins
-- right above it
abbrev pub IsPassed : List ℕ → ℕ → Type 0
IsPassed far level = (j : ℕ) × (j ≤ level) × (level < slice_index far j)

-- the value is noted, or its variable is passed over
abbrev pub IsOpen : Table → List Offer → List ℕ → ℕ → Bool → Type 0
IsOpen t offers far v b = HasNote offers v b ⊎ IsPassed far (level_of t v)

-- of each assignment that makes the node true all values from its level down are open
abbrev pub IsNotedFrom : Table → List (Option Bool) → List Offer → List ℕ → ℕ → Type 0
IsNotedFrom t values offers far n =
    (a : ℕ → Bool) → Meets values a → value_of t n a ≡ true →
    (v : ℕ) → IsVariable t v → top_of t n ≤ level_of t v → IsOpen t offers far v (a v)

-- so it is for each node that is marked
abbrev pub AreNoted : Table → List (Option Bool) → List (Option Bool) → List Offer → List ℕ → Type 0
AreNoted t values marks offers far = (n : ℕ) (b : Bool) → found_of marks n ≡ Some b → IsNotedFrom t values offers far n

-- some assignment with this value makes the node true
abbrev pub CanHave : Table → List (Option Bool) → ℕ → ℕ → Bool → Type 0
CanHave t values n v b = (a : ℕ → Bool) × Meets values a × (value_of t n a ≡ true) × (a v ≡ b)

-- What is open before is so after, and what comes to be open are values that the node can have, from its level down.
pub record NotesMore (t : Table) (values : List (Option Bool)) (n : ℕ)
    (offers offers' : List Offer) (far far' : List ℕ) : Type 0 where
  pub noted : (v : ℕ) (b : Bool) → HasNote offers v b → HasNote offers' v b
  pub passed : (l : ℕ) → IsPassed far l → IsPassed far' l
  pub new_noted : (v : ℕ) (b : Bool) → HasNote offers' v b →
      HasNote offers v b ⊎ ((top_of t n ≤ level_of t v) × CanHave t values n v b)
  pub new_passed : (v : ℕ) (b : Bool) → IsVariable t v → Allows values v b → IsPassed far' (level_of t v) →
      IsPassed far (level_of t v) ⊎ ((top_of t n ≤ level_of t v) × CanHave t values n v b)
  pub offers_number : length offers' ≡ length offers
  pub far_number : length far' ≡ length far

-- an edge that tests the variable for the value, from its level to that of its end, is noted where it is one to be noted
pub record NotesEdge (is_noted : Bool) (v : ℕ) (b : Bool) (level below : ℕ)
    (offers offers' : List Offer) (far far' : List ℕ) : Type 0 where
  pub noted : (w : ℕ) (c : Bool) → HasNote offers w c → HasNote offers' w c
  pub passed : (l : ℕ) → IsPassed far l → IsPassed far' l
  pub here : is_noted ≡ true → HasNote offers' v b
  pub past : is_noted ≡ true → (l : ℕ) → level < l → l < below → IsPassed far' l
  pub new_noted : (w : ℕ) (c : Bool) → HasNote offers' w c →
      HasNote offers w c ⊎ ((is_noted ≡ true) × (w ≡ v) × (c ≡ b))
  pub new_passed : (l : ℕ) → IsPassed far' l → IsPassed far l ⊎ ((is_noted ≡ true) × (level < l) × (l < below))
  pub offers_number : length offers' ≡ length offers
  pub far_number : length far' ≡ length far
