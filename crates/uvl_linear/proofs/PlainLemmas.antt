-- So many times a number of a rule, term by term.
use Rattle.std.proofs.Common.{◌≡◌, ℕ, ◌+◌, ◌*◌, ◌^◌, ◌<◌, ◌≤◌, Bool, true, false, List, [], ◌∷◌, drop, get_or, length, map, unwrap_or, Some, None, refl, sym, ap, ◌∙◌, subst, arith, lit<, lit≤}
use Rattle.std.specs.Option.{option_map}
use Rattle.std.specs.Prelude.{Option, ℤ, pos, ◌+ℤ◌, ◌-ℤ◌, ◌*ℤ◌, unsigned_abs}
use Rattle.std.specs.List.{All}
use Rattle.std.proofs.lemmas.List.Elements.{All-head}
use Rattle.std.proofs.Math.IntN.{*ℤ-zero}
use Rattle.std.proofs.Math.Nat.{mul-le-mul_left, mul-le-mul_right}
use Rattle.std.proofs.lemmas.Int.{fits_signed_from_abs, ints, to_z-of_z, unsigned_abs-mul}
use Rattle.std.proofs.lemmas.List.{drop_all, drop_more, length-drop, length-map}
use mir.Syntax.{w64, w128}
use mir.Val.{of_z, to_z}
use Rattle.std.proofs.lemmas.Option.{slice_get-get_or}
use Rattle.uvl_semantics.specs.Attributes.{number_of_key}
use Rattle.uvl_base.specs.Number.{InRange}
use Rattle.uvl_linear.specs.declared.form.LinearForm.{LinearForm}
use Rattle.uvl_linear.specs.Forms.{Adds, HasRoom, largest_form, largest_term}
use Rattle.uvl_model.specs.declared.rows.FeatureNo.{FeatureNo}
use Rattle.uvl_model.specs.declared.rows.FeatureRow.{FeatureRow}
use Rattle.uvl_model.specs.declared.rule.Number.{Number}
use Rattle.uvl_model.specs.declared.rule.Number.TheFolds.{fold-roll-Number}
use Rattle.uvl_model.specs.declared.rule.Number.TheOpen.{Number-F}
use Rattle.uvl_model.specs.declared.rule.Number.TheVariants as number
use Rattle.uvl_model.specs.Amounts.{amount_of, counted, marked_total, number_at, number_of_row, rows_below}
use Rattle.uvl_model.specs.Check.{is_marked}
use Rattle.uvl_model.specs.Rows.{Rows}
use Rattle.uvl_model.specs.Heads.{head_of_row, heads_below_rows}
use Rattle.uvl_model.specs.Names.{feature_names, name_of}
use Rattle.uvl_model.specs.Rules.{IsNumber, IsRead, Read, number_nodes_of, reads_node, reads_of, terms_of}
use Rattle.uvl_model.specs.Spelling.{numbered}
use Rattle.uvl_model.proofs.Bounds.{range_within}
use Rattle.uvl_model.proofs.NumberNodes as nodes
use Rattle.uvl_model.proofs.NumberSteps.{minus_operands, minus_sizes, plus_operands, plus_sizes}
use Rattle.uvl_linear.proofs.FormLemmas.{fits, opposite_size, size_most, unmarked}
use Rattle.uvl_linear.proofs.Products.{opposite_times, times_difference, times_sum}
use Rattle.uvl_linear.proofs.Remaining.{Remains, begins, ends, ends_here, goes_on, room_left}

-- a number as it is written, with a factor, is no larger than the largest term
pub term_size : (factor z : ℤ) → unsigned_abs factor ≤ 10 ^ 12 → unsigned_abs z ≤ 10 ^ 18 → unsigned_abs (factor *ℤ z) ≤ largest_term
term_size factor z h k =
    subst (λ (n : ℕ). n ≤ largest_term) (sym (unsigned_abs-mul factor z)) (both_at_most (unsigned_abs factor) (unsigned_abs z) (10 ^ 12) (10 ^ 18) h k)
  where
    both_at_most : (a b m n : ℕ) → a ≤ m → b ≤ n → a * b ≤ m * n
    both_at_most a b m n h k = let one = mul-le-mul_left a k in let two = mul-le-mul_right n h in omega arith

pub range_size : (z : ℤ) → InRange z → unsigned_abs z ≤ 10 ^ 18
range_size z h = let within = range_within z h in size_most z (10 ^ 18) (record { from = within.low; upto = within.high })

-- the product that the code computes is exact
pub product_is : (factor z : ℤ) → unsigned_abs factor ≤ 10 ^ 12 → InRange z
    → to_z w128 (of_z w128 (to_z w128 (of_z w128 factor) *ℤ to_z w128 (of_z w128 (to_z w64 (of_z w64 z))))) ≡ factor *ℤ z
product_is factor z h k =
    let size = range_size z k in
    let narrow = to_z-of_z w64 z (fits_signed_from_abs w64 z (less (unsigned_abs z) (10 ^ 18) (2 ^ 63) size (lit< tt))) in
    let wide = to_z-of_z w128 z (fits z (within (unsigned_abs z) (10 ^ 18) largest_form size (lit≤ tt))) in
    let first = to_z-of_z w128 factor (fits factor (within (unsigned_abs factor) (10 ^ 12) largest_form h (lit≤ tt))) in
    ap (λ (x : ℤ). to_z w128 (of_z w128 (x *ℤ to_z w128 (of_z w128 (to_z w64 (of_z w64 z)))))) first
    ∙ ap (λ (x : ℤ). to_z w128 (of_z w128 (factor *ℤ to_z w128 (of_z w128 x)))) narrow
    ∙ ap (λ (x : ℤ). to_z w128 (of_z w128 (factor *ℤ x))) wide
    ∙ to_z-of_z w128 (factor *ℤ z) (fits (factor *ℤ z) (within (unsigned_abs (factor *ℤ z)) largest_term largest_form (term_size factor z h size) (lit≤ tt)))
  where
    less : (x y z : ℕ) → x ≤ y → y < z → x < z
    less x y z p q = omega arith

    within : (x y z : ℕ) → x ≤ y → y ≤ z → x ≤ z
    within x y z p q = omega arith

-- so is the opposite of a factor
pub opposite_exact : (factor : ℤ) → unsigned_abs factor ≤ 10 ^ 12 → to_z w128 (of_z w128 (pos 0 -ℤ to_z w128 (of_z w128 factor))) ≡ pos 0 -ℤ factor
opposite_exact factor h =
    let small = within (unsigned_abs (pos 0 -ℤ factor)) (unsigned_abs factor) (10 ^ 12) (opposite_size factor) h in
    let first = to_z-of_z w128 factor (fits factor (within (unsigned_abs factor) (10 ^ 12) largest_form h (lit≤ tt))) in
    ap (λ (x : ℤ). to_z w128 (of_z w128 (pos 0 -ℤ x))) first
    ∙ to_z-of_z w128 (pos 0 -ℤ factor) (fits (pos 0 -ℤ factor) (within (unsigned_abs (pos 0 -ℤ factor)) (10 ^ 12) largest_form small (lit≤ tt)))
  where
    within : (x y z : ℕ) → x ≤ y → y ≤ z → x ≤ z
    within x y z p q = omega arith

pub product_small : (factor z : ℤ) → unsigned_abs factor ≤ 10 ^ 12 → InRange z
    → unsigned_abs (to_z w128 (of_z w128 (to_z w128 (of_z w128 factor) *ℤ to_z w128 (of_z w128 (to_z w64 (of_z w64 z)))))) ≤ largest_term
product_small factor z h k = subst (λ (x : ℤ). unsigned_abs x ≤ largest_term) (sym (product_is factor z h k)) (term_size factor z h (range_size z k))

-- a mark may stand inside or outside a product
pub counted_times : (b : Bool) (factor z : ℤ) → counted b (factor *ℤ z) ≡ factor *ℤ counted b z
counted_times true factor z = refl
counted_times false factor z = sym (*ℤ-zero factor)

-- ---- one row

-- the number that a row has, as it was found
pub row_found : (row : FeatureRow) (key : List ℕ) (found : Option ℤ) (z : ℤ) → found ≡ number_of_key key row.attributes → found ≡ Some z → number_of_row key row ≡ z
row_found row key found z is some = ap (λ (o : Option ℤ). unwrap_or o (pos 0)) (sym is ∙ some)

pub row_lacks : (row : FeatureRow) (key : List ℕ) (found : Option ℤ) → found ≡ number_of_key key row.attributes → found ≡ None → number_of_row key row ≡ pos 0
row_lacks row key found is none = ap (λ (o : Option ℤ). unwrap_or o (pos 0)) (sym is ∙ none)

pub nothing_counts : (b : Bool) (factor z : ℤ) → z ≡ pos 0 → factor *ℤ counted b z ≡ pos 0
nothing_counts b factor z none = ap (λ (x : ℤ). factor *ℤ counted b x) none ∙ ap (λ (x : ℤ). factor *ℤ x) (unmarked b) ∙ *ℤ-zero factor

-- the row at a feature's place
pub row_at : (rows : List FeatureRow) (f : FeatureNo) (key : List ℕ) (row : FeatureRow) → f.0 < length rows → row ≡ get_or rows f.0 row → number_of_row key row ≡ number_at rows f key
row_at rows f key row inside is =
    sym (ap (λ (o : Option FeatureRow). unwrap_or (option_map (number_of_row key) o) (pos 0)) (slice_get-get_or rows f.0 row inside ∙ ap Some (sym is)))

-- ---- the rows of a sum

pub record Totals (old new : LinearForm) (rows : List FeatureRow) (first : ℕ) (key : List ℕ) (factor : ℤ) (index : ℕ) : Type 0 where
  pub remains : Remains old new (length rows) (length (drop index rows)) (λ marks. factor *ℤ marked_total key marks first rows)
      (λ marks. factor *ℤ marked_total key marks (first + index) (drop index rows))

module _ (rows : List FeatureRow) (first : ℕ) (key : List ℕ) (factor : ℤ) where
  pub totals_begin : (form : LinearForm) → Totals form form rows first key factor 0
  totals_begin form =
      let here : first ≡ first + 0 = omega arith in
      record {
        remains = subst (λ (n : ℕ). Remains form form (length rows) (length rows) (λ marks. factor *ℤ marked_total key marks first rows)
            (λ marks. factor *ℤ marked_total key marks n rows)) here (begins form (length rows) (λ marks. factor *ℤ marked_total key marks first rows));
      }

  pub totals_go_on : (old mid new : LinearForm) (index : ℕ) (row : FeatureRow) → index < length rows → row ≡ get_or rows index row
      → Adds mid new 1 (λ marks. factor *ℤ counted (is_marked marks (numbered (first + index))) (number_of_row key row))
      → Totals old mid rows first key factor index → Totals old new rows first key factor (index + 1)
  totals_go_on old mid new index row inside is adds so_far =
      let here : drop index rows ≡ row ∷ drop (index + 1) rows = drop_more rows index row inside ∙ ap (λ (r : FeatureRow). r ∷ drop (index + 1) rows) (sym is) in
      let later : first + index + 1 ≡ first + (index + 1) = omega arith in
      let fewer : length (drop (index + 1) rows) + 1 ≤ length (drop index rows) = omega (arith, ap length here) in
      record {
        remains = goes_on old mid (length rows) (length (drop index rows)) (λ marks. factor *ℤ marked_total key marks first rows)
            (λ marks. factor *ℤ marked_total key marks (first + index) (drop index rows)) so_far.remains new 1 (length (drop (index + 1) rows))
            (λ marks. factor *ℤ counted (is_marked marks (numbered (first + index))) (number_of_row key row))
            (λ marks. factor *ℤ marked_total key marks (first + (index + 1)) (drop (index + 1) rows)) adds fewer
            (λ marks.
            ap (λ (rs : List FeatureRow). factor *ℤ marked_total key marks (first + index) rs) here
            ∙ times_sum factor (counted (is_marked marks (numbered (first + index))) (number_of_row key row)) (marked_total key marks (first + index + 1) (drop (index + 1) rows))
            ∙ ap (λ (n : ℕ). factor *ℤ counted (is_marked marks (numbered (first + index))) (number_of_row key row) +ℤ factor *ℤ marked_total key marks n (drop (index + 1) rows)) later);
      }

  pub totals_end : (old new : LinearForm) (index : ℕ) → length rows ≤ index → Totals old new rows first key factor index
      → Adds old new (length rows) (λ marks. factor *ℤ marked_total key marks first rows)
  totals_end old new index past so_far =
      ends_here old new (length rows) (length (drop index rows)) (λ marks. factor *ℤ marked_total key marks first rows)
      (λ marks. factor *ℤ marked_total key marks (first + index) (drop index rows)) so_far.remains
      (λ marks. ap (λ (rs : List FeatureRow). factor *ℤ marked_total key marks (first + index) rs) (drop_all index rows past) ∙ *ℤ-zero factor)

  pub totals_room : (old mid : LinearForm) (index : ℕ) → index < length rows → HasRoom old (length rows) → Totals old mid rows first key factor index → HasRoom mid 1
  totals_room old mid index inside room so_far =
      let some : 1 ≤ length (drop index rows) = omega (arith, length-drop index rows) in
      room_left old mid (length rows) (length (drop index rows)) (λ marks. factor *ℤ marked_total key marks first rows)
      (λ marks. factor *ℤ marked_total key marks (first + index) (drop index rows)) so_far.remains 1 some room

-- ---- the walk down a number

-- so many times a number
abbrev pub times : Rows → ℤ → Number → List Bool → ℤ
times rows factor n marks = factor *ℤ (amount_of rows.features marks n).plain

pub record Walks (rows : Rows) (factor : ℤ) (old new : LinearForm) (whole part : Number) : Type 0 where
  pub remains : Remains old new (terms_of rows whole) (terms_of rows part) (times rows factor whole) (times rows factor part)
  pub number : IsNumber rows part
  pub smaller : number_nodes_of part ≤ number_nodes_of whole

module _ (rows : Rows) (factor : ℤ) where
  pub walks_begin : (form : LinearForm) (whole : Number) → IsNumber rows whole → Walks rows factor form form whole whole
  walks_begin form whole is = record { remains = begins form (terms_of rows whole) (times rows factor whole); number = is; smaller = omega arith }

  swapped : (p x l r : ℤ) → p ≡ l +ℤ r → x ≡ r → p ≡ x +ℤ l
  swapped p x l r e f = omega (arith, ints, e, f)

  pub walks_plus : (old mid new : LinearForm) (whole part l r right : Number) → part ≡ number.Plus l r → right ≡ r → Walks rows factor old mid whole part
      → Adds mid new (terms_of rows right) (times rows factor right) → Walks rows factor old new whole l
  walks_plus old mid new whole part l r right e same walks adds =
      let sizes = plus_sizes rows [] part l r e in
      record {
        remains = goes_on old mid (terms_of rows whole) (terms_of rows part) (times rows factor whole) (times rows factor part) walks.remains
            new (terms_of rows right) (terms_of rows l) (times rows factor right) (times rows factor l) adds (omega (arith, sizes.0, ap (terms_of rows) same))
            (λ marks. swapped (times rows factor part marks) (times rows factor right marks) (times rows factor l marks) (times rows factor r marks)
            ((λ i. factor *ℤ ((ap (amount_of rows.features marks) e ∙ nodes.amount-Plus rows.features marks l r) i).plain)
            ∙ times_sum factor (amount_of rows.features marks l).plain (amount_of rows.features marks r).plain)
            (ap (λ (n : Number). times rows factor n marks) same));
        number = (plus_operands rows [] part l r e walks.number).0;
        smaller = omega (arith, walks.smaller, sizes.1);
      }

  subtracted_is : (p x l r y : ℤ) → p ≡ l -ℤ r → y ≡ pos 0 -ℤ r → x ≡ y → p ≡ x +ℤ l
  subtracted_is p x l r y e f g = omega (arith, ints, e, f, g)

  pub walks_minus : (old mid new : LinearForm) (whole part l r right : Number) (negative : ℤ) → part ≡ number.Minus l r → right ≡ r → negative ≡ pos 0 -ℤ factor
      → Walks rows factor old mid whole part → Adds mid new (terms_of rows right) (times rows negative right) → Walks rows factor old new whole l
  walks_minus old mid new whole part l r right negative e same opposite walks adds =
      let sizes = minus_sizes rows [] part l r e in
      record {
        remains = goes_on old mid (terms_of rows whole) (terms_of rows part) (times rows factor whole) (times rows factor part) walks.remains
            new (terms_of rows right) (terms_of rows l) (times rows negative right) (times rows factor l) adds (omega (arith, sizes.0, ap (terms_of rows) same))
            (λ marks. subtracted_is (times rows factor part marks) (times rows negative right marks) (times rows factor l marks) (times rows factor r marks) (times rows (pos 0 -ℤ factor) r marks)
            ((λ i. factor *ℤ ((ap (amount_of rows.features marks) e ∙ nodes.amount-Minus rows.features marks l r) i).plain)
            ∙ times_difference factor (amount_of rows.features marks l).plain (amount_of rows.features marks r).plain)
            (opposite_times factor (amount_of rows.features marks r).plain)
            (ap (λ (n : Number). times rows negative n marks) same ∙ ap (λ (z : ℤ). times rows z r marks) opposite));
        number = (minus_operands rows [] part l r e walks.number).0;
        smaller = omega (arith, walks.smaller, sizes.1);
      }

  -- a part without operands
  pub walks_end : (old mid new : LinearForm) (whole part : Number) (used : ℕ) (more : List Bool → ℤ) → Walks rows factor old mid whole part
      → Adds mid new used more → used ≤ terms_of rows part → ((marks : List Bool) → times rows factor part marks ≡ more marks) → Adds old new (terms_of rows whole) (times rows factor whole)
  walks_end old mid new whole part used more walks adds few same =
      ends old mid (terms_of rows whole) (terms_of rows part) (times rows factor whole) (times rows factor part) walks.remains new used more adds few same

  pub walks_room : (old mid : LinearForm) (whole part : Number) (used : ℕ) → used ≤ terms_of rows part → HasRoom old (terms_of rows whole) → Walks rows factor old mid whole part → HasRoom mid used
  walks_room old mid whole part used few room walks =
      room_left old mid (terms_of rows whole) (terms_of rows part) (times rows factor whole) (times rows factor part) walks.remains used few room

  pub literal_is : (part : Number) (m : ℤ) → part ≡ number.Literal m → ((marks : List Bool) → times rows factor part marks ≡ factor *ℤ m) × (1 ≤ terms_of rows part)
  literal_is part m e = (
    λ marks. λ i. factor *ℤ ((ap (amount_of rows.features marks) e ∙ nodes.amount-Literal rows.features marks m) i).plain,
    omega (arith, ap (terms_of rows) e, nodes.terms-Literal rows m),
  )

  pub attribute_is : (part : Number) (f : FeatureNo) (key : List ℕ) → part ≡ number.Attr f key
      → ((marks : List Bool) → times rows factor part marks ≡ factor *ℤ counted (is_marked marks f) (number_at rows.features f key)) × (1 ≤ terms_of rows part)
  attribute_is part f key e = (
    λ marks. λ i. factor *ℤ ((ap (amount_of rows.features marks) e ∙ nodes.amount-Attr rows.features marks f key) i).plain,
    omega (arith, ap (terms_of rows) e, nodes.terms-Attr rows f key),
  )

  pub sum_is : (part : Number) (top : FeatureNo) (key : List ℕ) (run : List FeatureRow) → part ≡ number.Sum top key → run ≡ rows_below rows.features top
      → map head_of_row run ≡ heads_below_rows rows (name_of (feature_names rows) top)
      → ((marks : List Bool) → times rows factor part marks ≡ factor *ℤ marked_total key marks top.0 run) × (length run ≤ terms_of rows part)
  sum_is part top key run e is heads = (
    λ marks. (λ i. factor *ℤ ((ap (amount_of rows.features marks) e ∙ nodes.amount-Sum rows.features marks top key) i).plain)
        ∙ ap (λ (rs : List FeatureRow). factor *ℤ marked_total key marks top.0 rs) (sym is),
    omega (arith, ap (terms_of rows) e, nodes.terms-Sum rows top key, sym (length-map run head_of_row) ∙ ap length heads),
  )

  pub product_counts_none : (old mid : LinearForm) (whole part l r : Number) → part ≡ number.Times l r → Walks rows factor old mid whole part → Adds old mid (terms_of rows whole) (times rows factor whole)
  product_counts_none old mid whole part l r e walks =
      ends_here old mid (terms_of rows whole) (terms_of rows part) (times rows factor whole) (times rows factor part) walks.remains
      (λ marks. (λ i. factor *ℤ ((ap (amount_of rows.features marks) e ∙ nodes.amount-Times rows.features marks l r) i).plain) ∙ *ℤ-zero factor)

-- the feature of a reference is there
pub attribute_is_there : (rows : Rows) (part : Number) (f : FeatureNo) (key : List ℕ) → part ≡ number.Attr f key → IsNumber rows part → f.0 < length rows.features
attribute_is_there rows part f key e is =
    let same : reads_of part ≡ record { feature = f; key = key } ∷ [] = ap reads_of (e ∙ sym (number.rolls-Attr f key)) ∙ fold-roll-Number (List Read) reads_node (Number-F.Attr f key) in
    (All-head (IsRead rows) (record { feature = f; key = key }) [] (subst (λ (rs : List Read). All (IsRead rows) rs) same is.reads)).feature
