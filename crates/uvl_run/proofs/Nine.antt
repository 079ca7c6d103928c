-- What is enough for up to nine features is below the budget where none is given.
use Rattle.std.proofs.Common.{◌≡◌, ◌<◌, ◌≤◌, ℕ, ◌+◌, ◌*◌, ◌^◌, length, ap, sym, ◌∙◌, arith, lit<, lit≤, le_trans, le_refl, lt_of_lt_of_le, add-le-add, mul-le-mul, mul-le-mul_left}
use Rattle.std.proofs.Math.Nat.{pow-le-pow_right}
use Rattle.std.proofs.lemmas.List.{length-map}
use Rattle.std.proofs.lemmas.Option.{same_Some}
use Rattle.uvl_functions.specs.Enough.{enough}
use Rattle.uvl_model.specs.Products.{Products}
use Rattle.uvl_resolve.specs.Laws.{FlatKeepsProducts}
use Rattle.uvl_semantics.specs.Family.{Family}
use Rattle.uvl_words.specs.Budgets.{default_budget}
use Rattle.uvl_run.specs.Laws.{NineFeaturesAreNeverTooMany}
use Rattle.uvl_run.proofs.Runs.{products_are}

-- as what is enough grows with the number of features
up_to_nine : (n : ℕ) → n ≤ 9 → enough n ≤ default_budget
up_to_nine n small =
    let two : 0 < 2 = lit< tt in
    let more : n + 1 ≤ 10 = omega arith in
    let first : 2 ^ n ≤ 2 ^ 9 = pow-le-pow_right {n = 2} two small in
    let second : 2 ^ (n + 1) ≤ 2 ^ 10 = pow-le-pow_right {n = 2} two more in
    let sum : 2 ^ (n + 1) + 8 * n + 600 ≤ 2 ^ 10 + 8 * 9 + 600 = add-le-add (add-le-add second (mul-le-mul_left 8 small)) (le_refl 600) in
    let whole : enough n ≤ 2 ^ 9 * (2 ^ 10 + 8 * 9 + 600) = mul-le-mul first sum in
    let bound : 2 ^ 9 * (2 ^ 10 + 8 * 9 + 600) ≤ default_budget = lit≤ tt in
    le_trans whole bound

pub never_too_many : FlatKeepsProducts → NineFeaturesAreNeverTooMany
never_too_many keeps files family budget products few ample short =
    let same : Products short.rows ≡ family = same_Some _ _ (sym (products_are keeps files short.rows short.flat) ∙ products) in
    let size : length short.rows.features ≡ length family.names = sym (length-map short.rows.features (λ row. row.name)) ∙ ap (λ (f : Family). length f.names) same in
    let bound : enough (length short.rows.features) ≤ default_budget = up_to_nine (length short.rows.features) (omega arith) in
    let below : budget < default_budget = lt_of_lt_of_le short.of_rows.few bound in
    absurd (omega (arith, below, ample))
