-- What the commands on the products of the main model are answered: `valid`, `void`, `dead`, `core` and `falseopt`.
use Rattle.std.specs.Prelude.{◌≡◌, ℕ, Bool, List, if◌then◌else◌, Option, Some, None, codes}
use Rattle.std.specs.List.{list_all}
use Rattle.uvl_analyses.specs.Analyses.{dead_of, core_of}
use Rattle.uvl_analyses.specs.Members.{false_optional_of}
use Rattle.uvl_lines.specs.Replies.{refused}
use Rattle.uvl_model.specs.Products.{Products}
use Rattle.uvl_semantics.specs.Family.{Family, is_void}
use Rattle.uvl_semantics.specs.Product.{has}
use Rattle.uvl_run.specs.NameList.{name_list}
use Rattle.uvl_run.specs.State.{State}
use Rattle.uvl_run.specs.YesOrNo.{yes_or_no}

-- whether the named features are a product; there is no answer where a name is that of no feature
abbrev pub product_answer : Family → List (List ℕ) → Option Bool
product_answer family names = if list_all (has family.names) names then Some (family.contains names) else None

-- what `valid` is answered where there is an answer, and where there is none
abbrev pub valid_text : Option Bool → List ℕ
valid_text None = refused (codes "unknown-feature")
valid_text (Some answer) = yes_or_no answer

-- `valid F..`: whether these features are a product. It changes nothing.
abbrev pub RepliesToValid : State → List (List ℕ) → List ℕ → State → Type 0
RepliesToValid s names text t = (text ≡ valid_text (product_answer (Products s.main) names)) × (t ≡ s)

-- `void`: whether there is no product (Benavides, Segura and Ruiz-Cortés 2010). It changes nothing.
abbrev pub RepliesToVoid : State → List ℕ → State → Type 0
RepliesToVoid s text t = (text ≡ yes_or_no (is_void (Products s.main))) × (t ≡ s)

-- What asks for features is answered: their names, or a refusal where there is no product.
abbrev pub found_text : Family → List (List ℕ) → List ℕ
found_text family names = if is_void family then refused (codes "void") else name_list names

-- `dead`: the features that no product has, in document order. It changes nothing.
abbrev pub RepliesToDead : State → List ℕ → State → Type 0
RepliesToDead s text t = (text ≡ found_text (Products s.main) (dead_of (Products s.main))) × (t ≡ s)

-- `core`: the features that every product has, in document order. It changes nothing.
abbrev pub RepliesToCore : State → List ℕ → State → Type 0
RepliesToCore s text t = (text ≡ found_text (Products s.main) (core_of (Products s.main))) × (t ≡ s)

-- `falseopt`: the features that seem optional and come with their parent in every product, in document order. It
-- changes nothing.
abbrev pub RepliesToFalseOpt : State → List ℕ → State → Type 0
RepliesToFalseOpt s text t = (text ≡ found_text (Products s.main) (false_optional_of s.main)) × (t ≡ s)
