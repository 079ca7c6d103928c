-- The text of a generated model of so many features, by its features and rules. This project's own.
use Rattle.std.specs.Prelude.{ℕ, zero, suc, ◌+◌, ◌-◌, ◌*◌, ◌/◌, ◌%◌, nat_le, min, List, [], ◌++◌, ◌∷◌, replicate, get_or, codes, decimal, if◌then◌else◌}
use Rattle.std.specs.List.{flat_map, range_with_len}

-- the features are F1, F2 and so on
abbrev pub name_of : ℕ → List ℕ
name_of number = codes "F" ++ decimal number

-- F1 is the root. The parent of every other feature: four features, one after the other, have one parent.
abbrev pub parent_of : ℕ → ℕ
parent_of number = (number + 2) / 4

-- so the children of a feature among the first n, in document order
abbrev pub children_of : (n number : ℕ) → List ℕ
children_of n number = range_with_len (4 * number - 2) (min n (4 * number + 1) + 1 - (4 * number - 2))

-- they stand in one group, and four features after each other have groups of the four kinds
abbrev pub kinds : List (List ℕ)
kinds = codes "mandatory" ∷ codes "or" ∷ codes "alternative" ∷ codes "optional" ∷ []

-- the kind of a feature's group
abbrev pub kind_of : ℕ → List ℕ
kind_of number = get_or kinds (number % 4) []

-- each of the first features has a cost, which is its number
abbrev pub last_with_cost : ℕ
last_with_cost = 8

-- what stands behind the name of a feature
abbrev pub attributes_of : ℕ → List ℕ
attributes_of number = if nat_le number last_with_cost then codes " {cost " ++ decimal number ++ codes "}" else []

-- a line, so many tabs (9) from the left
abbrev pub line : ℕ → List ℕ → List ℕ
line tabs words = replicate tabs 9 ++ words ++ codes "\n"

-- the line in front of the children of a feature, where it has children
abbrev pub group_line : ℕ → ℕ → List ℕ → List ℕ
group_line tabs number [] = []
group_line tabs number (child ∷ children) = line tabs (kind_of number)

-- The lines of a feature and of all below it, of a model of n features. It isn't more than so many levels deep: the
-- number of a child is above that of its parent, so that n levels are enough for any feature.
abbrev pub feature_lines : (levels n tabs number : ℕ) → List ℕ
feature_lines zero n tabs number = []
feature_lines (suc levels) n tabs number =
    line tabs (name_of number ++ attributes_of number)
    ++ group_line (tabs + 1) number (children_of n number)
    ++ flat_map (feature_lines levels n (tabs + 2)) (children_of n number)

-- those of a feature of a model of n features
abbrev pub lines_of_feature : (n tabs number : ℕ) → List ℕ
lines_of_feature n tabs number = feature_lines n n tabs number

-- the rule of a feature: it needs the one in front of it
abbrev pub rule_line : ℕ → List ℕ
rule_line number = line 1 (name_of number ++ codes " => " ++ name_of (number - 1))

-- every tenth feature has such a rule
abbrev pub rule_lines : ℕ → List ℕ
rule_lines n = flat_map (λ tens. rule_line (10 * tens)) (range_with_len 1 (n / 10))

-- the line of the last rule: the costs of what is selected add up to so much at most
abbrev pub cost_line : List ℕ
cost_line = line 1 (codes "sum(cost) <= 25")

-- the text of the model: its features, and its rules
unfoldable pub generated : ℕ → List ℕ
generated n =
    line 0 (codes "features") ++ lines_of_feature n 1 1
    ++ line 0 (codes "constraints") ++ rule_lines n ++ cost_line
