-- The lines of a feature and of what is below it.
use Rattle.std.proofs.Common.{◌≡◌, ℕ, zero, suc, ◌+◌, ◌-◌, ◌*◌, ◌≤◌, ◌<◌, min, List, [], ◌++◌, replicate, codes, sym, ap, ◌∙◌, refl, arith, append_assoc, append-nil}
use Rattle.std.proofs.Math.Nat.{min-le_left, min-le_right, le-min}
use Rattle.std.specs.List.{flat_map, range_with_len, Contains}
use Rattle.uvl_gen.specs.Generated.{name_of, attributes_of, parent_of, kind_of, line, children_of, group_line, feature_lines, lines_of_feature}
use Rattle.uvl_gen.proofs.Numbers.{within, among}

-- ---- children

-- how many children a feature has among the first n
abbrev pub many_of : ℕ → ℕ → ℕ
many_of n parent = min n (4 * parent + 1) + 1 - (4 * parent - 2)

-- they are features
pub child_there : (n parent number : ℕ) → number < 4 * parent - 2 + many_of n parent → 4 * parent - 2 ≤ number → number ≤ n
child_there n parent number high low = let most = min-le_left n (4 * parent + 1) in omega arith

pub has_parent : (n parent number : ℕ) → 1 ≤ parent → Contains (children_of n parent) number → (2 ≤ number) × (number ≤ n) × (parent_of number ≡ parent)
has_parent n parent number some there =
    let bounds = within (4 * parent - 2) (many_of n parent) number there in
    let low : 4 * parent - 2 ≤ number = bounds.0 in
    let high : number < 4 * parent - 2 + many_of n parent = bounds.1 in
    let first = min-le_left n (4 * parent + 1) in
    let late = min-le_right n (4 * parent + 1) in
    (omega arith, omega arith, omega arith)

pub is_child : (n parent number : ℕ) → 1 ≤ parent → (2 ≤ number) × (number ≤ n) × (parent_of number ≡ parent) → Contains (children_of n parent) number
is_child n parent number some (low, there, of) =
    let late : number ≤ 4 * parent + 1 = omega (arith, of) in
    let last : number ≤ min n (4 * parent + 1) = grind (arith, there, late, le-min) in
    among (4 * parent - 2) (many_of n parent) number (omega (arith, of)) (omega (arith, of, last))

-- ---- levels

-- lines that are the same for each number
each : (first_lines second_lines : ℕ → List ℕ) (from many : ℕ) → ((number : ℕ) → from ≤ number → number < from + many → first_lines number ≡ second_lines number)
    → flat_map first_lines (range_with_len from many) ≡ flat_map second_lines (range_with_len from many)
each first_lines second_lines from zero same = refl
each first_lines second_lines from (suc many) same =
    let at : first_lines from ≡ second_lines from = same from (omega arith) (omega arith) in
    let rest = each first_lines second_lines (from + 1) many (λ number low high. same number (omega arith) (omega arith)) in
    ap (λ bytes. bytes ++ flat_map first_lines (range_with_len (from + 1) many)) at ∙ ap (λ bytes. second_lines from ++ bytes) rest

-- where there are levels enough their number makes no difference
pub enough : (levels more n tabs number : ℕ) → 1 ≤ number → number ≤ n → n < number + levels → n < number + more
    → feature_lines levels n tabs number ≡ feature_lines more n tabs number
enough zero more n tabs number some there few many = absurd (omega arith)
enough (suc levels) zero n tabs number some there few many = absurd (omega arith)
enough (suc levels) (suc more) n tabs number some there few many =
    ap (λ bytes. line tabs (name_of number ++ attributes_of number) ++ group_line (tabs + 1) number (children_of n number) ++ bytes)
    (each (feature_lines levels n (tabs + 2)) (feature_lines more n (tabs + 2)) (4 * number - 2) (many_of n number)
    (λ child low high. enough levels more n (tabs + 2) child (omega arith) (child_there n number child high low) (omega arith) (omega arith)))

-- a feature stands above its children
above : (levels n tabs number : ℕ) → 1 ≤ number → number ≤ n → n ≡ suc levels
    → feature_lines (suc levels) n tabs number
    ≡ line tabs (name_of number ++ attributes_of number) ++ group_line (tabs + 1) number (children_of n number) ++ flat_map (lines_of_feature n (tabs + 2)) (children_of n number)
above levels n tabs number some there size =
    ap (λ bytes. line tabs (name_of number ++ attributes_of number) ++ group_line (tabs + 1) number (children_of n number) ++ bytes)
    (each (feature_lines levels n (tabs + 2)) (lines_of_feature n (tabs + 2)) (4 * number - 2) (many_of n number)
    (λ child low high. enough levels n n (tabs + 2) child (omega arith) (child_there n number child high low) (omega (arith, size)) (omega arith)))

pub stands_above : (n tabs number : ℕ) → 1 ≤ number → number ≤ n
    → lines_of_feature n tabs number
    ≡ line tabs (name_of number ++ attributes_of number) ++ group_line (tabs + 1) number (children_of n number) ++ flat_map (lines_of_feature n (tabs + 2)) (children_of n number)
stands_above n tabs number some there =
    let size : n ≡ suc (n - 1) = omega arith in
    ap (λ levels. feature_lines levels n tabs number) size ∙ above (n - 1) n tabs number some there size

-- ---- the lines as they are written

-- there are children
group_there : (tabs number first many : ℕ) → 0 < many → group_line tabs number (range_with_len first many) ≡ line tabs (kind_of number)
group_there tabs number first zero some = absurd (omega arith)
group_there tabs number first (suc many) some = refl

-- the pieces one after the other
pieces : (text tabs words more_tabs kind below end : List ℕ)
    → ((((text ++ tabs) ++ (words ++ end)) ++ more_tabs) ++ (kind ++ end)) ++ below ≡ text ++ ((((tabs ++ words) ++ end) ++ ((more_tabs ++ kind) ++ end)) ++ below)
pieces text tabs words more_tabs kind below end = simp append_assoc

-- a feature with children is written
pub written : (levels n tabs number last child : ℕ) (start indented declared again grouped text : List ℕ) → 4 * number - 2 ≤ n → 1 ≤ number
    → indented ≡ start ++ replicate tabs 9 → declared ≡ indented ++ ((name_of number ++ attributes_of number) ++ codes "\n")
    → again ≡ declared ++ replicate (tabs + 1) 9 → grouped ≡ again ++ (kind_of number ++ codes "\n") → last ≡ min n (4 * number + 1) → child ≡ last + 1
    → text ≡ grouped ++ flat_map (feature_lines levels n (tabs + 2)) (range_with_len (4 * number - 2) (child - (4 * number - 2)))
    → text ≡ start ++ feature_lines (suc levels) n tabs number
written levels n tabs number last child start indented declared again grouped text have some i d a g l e t =
    let within_n : 4 * number - 2 ≤ min n (4 * number + 1) = (let late : 4 * number - 2 ≤ 4 * number + 1 = omega arith in grind (arith, have, late, le-min)) in
    let kinds = group_there (tabs + 1) number (4 * number - 2) (many_of n number) (omega (arith, within_n)) in
    let below = flat_map (feature_lines levels n (tabs + 2)) (children_of n number) in
    let words = name_of number ++ attributes_of number in
    t
    ∙ ap (λ c. grouped ++ flat_map (feature_lines levels n (tabs + 2)) (range_with_len (4 * number - 2) (c - (4 * number - 2)))) (e ∙ ap (λ m. m + 1) l)
    ∙ ap (λ bytes. bytes ++ below)
    (g ∙ ap (λ bytes. bytes ++ (kind_of number ++ codes "\n")) (a ∙ ap (λ bytes. bytes ++ replicate (tabs + 1) 9) (d ∙ ap (λ bytes. bytes ++ (words ++ codes "\n")) i)))
    ∙ pieces start (replicate tabs 9) words (replicate (tabs + 1) 9) (kind_of number) below (codes "\n")
    ∙ ap (λ bytes. start ++ ((line tabs words ++ bytes) ++ below)) (sym kinds)

-- a feature without children is written
pub written_alone : (levels n tabs number : ℕ) (start indented declared : List ℕ) → n < 4 * number - 2 → 1 ≤ number
    → indented ≡ start ++ replicate tabs 9 → declared ≡ indented ++ ((name_of number ++ attributes_of number) ++ codes "\n")
    → declared ≡ start ++ feature_lines (suc levels) n tabs number
written_alone levels n tabs number start indented declared have some i d =
    let words = name_of number ++ attributes_of number in
    let none : many_of n number ≡ 0 = (let most = min-le_left n (4 * number + 1) in omega arith) in
    d ∙ ap (λ bytes. bytes ++ (words ++ codes "\n")) i ∙ alone start (replicate tabs 9) words (codes "\n")
    ∙ ap (λ many. start ++ ((line tabs words ++ group_line (tabs + 1) number (range_with_len (4 * number - 2) many)) ++ flat_map (feature_lines levels n (tabs + 2)) (range_with_len (4 * number - 2) many))) (sym none)
  where
    alone : (start tabs words end : List ℕ) → (start ++ tabs) ++ (words ++ end) ≡ start ++ ((((tabs ++ words) ++ end) ++ []) ++ [])
    alone start tabs words end = simp (append_assoc, append-nil)

-- a feature has one level at least
pub one_level : (P : ℕ → Type 0) (n number levels : ℕ) → number ≤ n → n < number + levels → ((below : ℕ) → n ≤ number + below → P (suc below)) → P levels
one_level P n number zero there few one = absurd (omega arith)
one_level P n number (suc below) there few one = one below (omega arith)
