-- What is wrong with a line of a features section, by what the lines in front of it bring. This project's own.
use Rattle.std.specs.Prelude.{ℕ, ◌+◌, Bool, false, not, ◌&&◌, ◌||◌, nat_lt, ◌==◌, List, [], ◌∷◌, length, Option, Some, None}
use Rattle.std.specs.List.{list_any}
use Rattle.std.specs.Option.{is_none, option_map}
use Rattle.uvl_base.specs.declared.fault.FaultKind.{FaultKind}
use Rattle.uvl_base.specs.declared.fault.FaultKind.TheVariants.{BadRange, UnknownFeature, PlacedTwice, BodyOnPlacedImport, TooDeep, DuplicateFeature, DuplicateAttribute, TooManyFeatures, TooManyRules}
use Rattle.uvl_base.specs.declared.place.Place.{Place}
use Rattle.uvl_base.specs.Limits.{most_features, most_depth}
use Rattle.uvl_ast.specs.declared.feature.GroupKind.{GroupKind}
use Rattle.uvl_ast.specs.declared.feature.GroupKind.TheVariants.{Mandatory, Optional, Alternative, Or, Range}
use Rattle.uvl_semantics.specs.Product.{has}
use Rattle.uvl_placing.specs.Names.{dotted, front_of}
pub use Rattle.uvl_scope.specs.declared.fault.Finding.{Finding}
use Rattle.uvl_scope.specs.Brought.{Brought, Placing, is_placing, brought_by, brought_by_lines}
use Rattle.uvl_scope.specs.Firsts.{when, first_of}
use Rattle.uvl_scope.specs.Keys.{repeated_key}
use Rattle.uvl_scope.specs.Limits.{most_rules, most_nodes}
use Rattle.uvl_scope.specs.Lines.{FeatureLine, GroupLine, Line, of_feature, of_group}

-- a fault of this kind at a place
abbrev pub finding : FaultKind → Place → Finding
finding kind place = record { place = place; kind = kind }

-- a range is written with its lower bound above its upper one
abbrev pub is_bad_range : GroupKind → Bool
is_bad_range Mandatory = false
is_bad_range Optional = false
is_bad_range Alternative = false
is_bad_range Or = false
is_bad_range (Range lo None) = false
is_bad_range (Range lo (Some hi)) = nat_lt hi lo

-- the fault of a group line
abbrev pub fault_of_group : GroupLine → Option Finding
fault_of_group line = when (is_bad_range line.kind) (finding BadRange line.place)

-- a line that is to place a file places none: its reference names no import line, or not the root of that line's file
abbrev pub places_nothing : Placing → FeatureLine → Bool
places_nothing placing line = is_placing line.reference.parts && is_none (placing line.reference.parts)

-- a line in front places the same import line
abbrev pub is_placed_again : Brought → FeatureLine → Bool
is_placed_again before line =
    is_placing line.reference.parts && has before.placed (dotted (front_of line.reference.parts))

-- an attribute or a rule stands in the braces of a line, or groups stand below it
abbrev pub has_more : FeatureLine → Bool
has_more line = not (length line.attributes == 0) || not (length line.rules == 0) || not (line.groups == 0)

-- so it is at a placing line
abbrev pub has_body : FeatureLine → Bool
has_body line = is_placing line.reference.parts && has_more line

-- the line stands too deep, or a feature that it brings does
abbrev pub is_too_deep : Brought → FeatureLine → Bool
is_too_deep brought line = nat_lt most_depth line.depth || nat_lt most_depth brought.depth

-- a name that the line brings is brought by a line in front
abbrev pub has_known_name : Brought → Brought → Bool
has_known_name before brought = list_any (has before.names) brought.names

-- with the line there are more features than a model may have
abbrev pub is_too_large : Brought → Brought → Bool
is_too_large before brought = nat_lt most_features (length before.names + length brought.names)

-- so many rules, or so many nodes of rules, are too many
abbrev pub are_too_many : (rules nodes : ℕ) → Bool
are_too_many rules nodes = nat_lt most_rules rules || nat_lt most_nodes nodes

-- with the line there are too many rules of placed files
abbrev pub has_too_many_rules : Brought → Brought → FeatureLine → Bool
has_too_many_rules before brought line =
    is_placing line.reference.parts && are_too_many (before.rules + brought.rules) (before.nodes + brought.nodes)

-- The fault of a feature line: the first of these, in this order, with what the lines in front bring, and what it
-- brings itself.
abbrev pub fault_of_feature : Placing → Brought → Brought → FeatureLine → Option Finding
fault_of_feature placing before brought line = first_of (
    when (places_nothing placing line) (finding UnknownFeature line.reference.place)
    ∷ when (is_placed_again before line) (finding PlacedTwice line.reference.place)
    ∷ when (has_body line) (finding BodyOnPlacedImport line.reference.place)
    ∷ when (is_too_deep brought line) (finding TooDeep line.reference.place)
    ∷ when (has_known_name before brought) (finding DuplicateFeature line.reference.place)
    ∷ option_map (finding DuplicateAttribute) (repeated_key line.attributes)
    ∷ when (is_too_large before brought) (finding TooManyFeatures line.reference.place)
    ∷ when (has_too_many_rules before brought line) (finding TooManyRules line.reference.place)
    ∷ []
    )

-- the fault of a line, with what the lines in front of it bring
abbrev pub fault_behind : Placing → Brought → Line → Option Finding
fault_behind placing before (of_feature line) =
    fault_of_feature placing before (brought_by placing (of_feature line)) line
fault_behind placing before (of_group line) = fault_of_group line

-- the fault of a line, with the lines in front of it
abbrev pub fault_of_line : Placing → List Line → Line → Option Finding
fault_of_line placing front line = fault_behind placing (brought_by_lines placing front) line
