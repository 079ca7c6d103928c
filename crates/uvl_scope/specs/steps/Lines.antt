-- The faults of a line, where it is known whether it declares a feature or is to place a file.
use Rattle.std.specs.Prelude.{ℕ, ◌+◌, List, [], ◌∷◌, length, Option, Some, None, nat_lt}
use Rattle.std.specs.Option.{option_map, option_or}
use Rattle.uvl_base.specs.declared.fault.FaultKind.TheVariants.{UnknownFeature, PlacedTwice, BodyOnPlacedImport, TooDeep, DuplicateFeature, DuplicateAttribute, TooManyFeatures, TooManyRules}
use Rattle.uvl_base.specs.declared.fault.FaultKind.{FaultKind}
use Rattle.uvl_base.specs.declared.place.Place.{Place}
use Rattle.uvl_base.specs.Limits.{most_features, most_depth}
use Rattle.uvl_semantics.specs.Product.{has}
use Rattle.uvl_placing.specs.Names.{dotted, front_of}
use Rattle.uvl_scope.specs.declared.scope.Scope.{Scope}
use Rattle.uvl_scope.specs.Brought.{Brought, Placing, placed}
use Rattle.uvl_scope.specs.Firsts.{when, first_of}
use Rattle.uvl_scope.specs.Keys.{repeated_key}
use Rattle.uvl_scope.specs.LineFaults.{Finding, finding, has_more, is_too_deep, has_known_name, is_too_large, are_too_many}
use Rattle.uvl_scope.specs.Lines.{FeatureLine}

-- that of a line that declares a feature
abbrev pub fault_of_declared : Brought → List ℕ → FeatureLine → Option Finding
fault_of_declared before name line = first_of (
    when (nat_lt most_depth line.depth) (finding TooDeep line.reference.place)
    ∷ when (has before.names name) (finding DuplicateFeature line.reference.place)
    ∷ option_map (finding DuplicateAttribute) (repeated_key line.attributes)
    ∷ when (nat_lt most_features (length before.names + 1)) (finding TooManyFeatures line.reference.place)
    ∷ []
    )

-- the names that a line brings, and how much it brings
abbrev pub fault_of_names : Brought → Brought → Place → Option Finding
fault_of_names before brought place = first_of (
    when (has_known_name before brought) (finding DuplicateFeature place)
    ∷ when (is_too_large before brought) (finding TooManyFeatures place)
    ∷ when (are_too_many (before.rules + brought.rules) (before.nodes + brought.nodes)) (finding TooManyRules place)
    ∷ []
    )

-- what there would be too many of with a scope
abbrev pub overflow : Brought → Scope → Option FaultKind
overflow before scope = first_of (
    when (nat_lt most_features (length before.names + length scope.names)) TooManyFeatures
    ∷ when (are_too_many (before.rules + scope.rules) (before.nodes + scope.nodes)) TooManyRules
    ∷ []
    )

-- that of a line that places a scope, with what that brings
abbrev pub fault_of_body : Brought → List ℕ → Brought → FeatureLine → Option Finding
fault_of_body before qualifier brought line =
    option_or (when (has before.placed qualifier) (finding PlacedTwice line.reference.place))
    (option_or (when (has_more line) (finding BodyOnPlacedImport line.reference.place))
    (option_or (when (is_too_deep brought line) (finding TooDeep line.reference.place))
    (fault_of_names before brought line.reference.place)))

abbrev pub fault_of_placed : Brought → List ℕ → Scope → FeatureLine → Option Finding
fault_of_placed before qualifier scope line =
    fault_of_body before qualifier (placed line.depth qualifier (Some scope)) line

-- that of a line that is to place a scope, where one is found or none
abbrev pub fault_of_found : Brought → List ℕ → Option Scope → FeatureLine → Option Finding
fault_of_found before qualifier None line = Some (finding UnknownFeature line.reference.place)
fault_of_found before qualifier (Some scope) line = fault_of_placed before qualifier scope line

abbrev pub fault_of_placing : Placing → Brought → FeatureLine → Option Finding
fault_of_placing placing before line =
    fault_of_found before (dotted (front_of line.reference.parts)) (placing line.reference.parts) line
