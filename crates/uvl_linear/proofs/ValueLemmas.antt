-- A number with its products, term by term.
use Rattle.std.proofs.Common.{◌≡◌, ℕ, ◌^◌, ◌≤◌, Bool, false, not, ◌||◌, ◌⊎◌, List, [], sym, ap, ◌∙◌, subst, inl, inr, arith, lit≤}
use Rattle.uvl_base.specs.Number.{InRange}
use Rattle.std.specs.Prelude.{ℤ, pos, negsuc, ◌+ℤ◌, ◌-ℤ◌, ◌*ℤ◌, unsigned_abs}
use Rattle.std.proofs.Math.IntN.{*ℤ_comm, suc_ℤ-*ℤ, zero-*ℤ}
use Rattle.std.proofs.Math.Nat.{mul-le-mul_right}
use Rattle.std.proofs.lemmas.Int.{ints, to_z-of_z, unsigned_abs-mul}
use mir.Syntax.{w64, w128}
use mir.Val.{of_z, to_z}
use Rattle.uvl_linear.specs.declared.form.LinearForm.{LinearForm}
use Rattle.uvl_linear.specs.Forms.{Adds, HasRoom, is_small_literal, largest_form}
use Rattle.uvl_model.specs.declared.rows.FeatureNo.{FeatureNo}
use Rattle.uvl_model.specs.declared.rule.Number.{Number}
use Rattle.uvl_model.specs.declared.rule.Number.TheVariants as number
use Rattle.uvl_model.specs.Amounts.{amount_of}
use Rattle.uvl_model.specs.Rows.{Rows}
use Rattle.uvl_model.specs.Rules.{Factor, IsNumber, number_nodes_of, terms_of}
use Rattle.std.proofs.lemmas.Bool.{and_parts, or_cases, true≢false}
use Rattle.uvl_model.proofs.NumberNodes as nodes
use Rattle.uvl_model.proofs.NumberNodes.{factor_of}
use Rattle.uvl_model.proofs.NumberSteps.{minus_operands, minus_sizes, plus_operands, plus_sizes}
use Rattle.uvl_linear.proofs.FormLemmas.{fits, opposite_size}
use Rattle.uvl_linear.proofs.PlainLemmas.{opposite_exact, product_is, times}
use Rattle.uvl_linear.proofs.Products.{opposite_times, times_difference, times_sum, times_times}
use Rattle.uvl_linear.proofs.Remaining.{Remains, begins, ends, goes_on, room_left}

-- a number, by its sign
abbrev pub signed : Rows → ℤ → Number → List Bool → ℤ
signed rows sign n marks = sign *ℤ (amount_of rows.features marks n).value

pub record Goes (rows : Rows) (sign : ℤ) (old new : LinearForm) (whole part : Number) : Type 0 where
  pub remains : Remains old new (terms_of rows whole) (terms_of rows part) (signed rows sign whole) (signed rows sign part)
  pub number : IsNumber rows part
  pub smaller : number_nodes_of part ≤ number_nodes_of whole

module _ (rows : Rows) (sign : ℤ) where
  pub goes_begin : (form : LinearForm) (whole : Number) → IsNumber rows whole → Goes rows sign form form whole whole
  goes_begin form whole is = record { remains = begins form (terms_of rows whole) (signed rows sign whole); number = is; smaller = omega arith }

  swapped : (p x l r : ℤ) → p ≡ l +ℤ r → x ≡ r → p ≡ x +ℤ l
  swapped p x l r e f = omega (arith, ints, e, f)

  pub goes_plus : (old mid new : LinearForm) (whole part l r right : Number) → part ≡ number.Plus l r → right ≡ r → Goes rows sign old mid whole part
      → Adds mid new (terms_of rows right) (signed rows sign right) → Goes rows sign old new whole l
  goes_plus old mid new whole part l r right e same goes adds =
      let sizes = plus_sizes rows [] part l r e in
      record {
        remains = goes_on old mid (terms_of rows whole) (terms_of rows part) (signed rows sign whole) (signed rows sign part) goes.remains
            new (terms_of rows right) (terms_of rows l) (signed rows sign right) (signed rows sign l) adds (omega (arith, sizes.0, ap (terms_of rows) same))
            (λ marks. swapped (signed rows sign part marks) (signed rows sign right marks) (signed rows sign l marks) (signed rows sign r marks)
            ((λ i. sign *ℤ ((ap (amount_of rows.features marks) e ∙ nodes.amount-Plus rows.features marks l r) i).value)
            ∙ times_sum sign (amount_of rows.features marks l).value (amount_of rows.features marks r).value)
            (ap (λ (n : Number). signed rows sign n marks) same));
        number = (plus_operands rows [] part l r e goes.number).0;
        smaller = omega (arith, goes.smaller, sizes.1);
      }

  subtracted_is : (p x l r y : ℤ) → p ≡ l -ℤ r → y ≡ pos 0 -ℤ r → x ≡ y → p ≡ x +ℤ l
  subtracted_is p x l r y e f g = omega (arith, ints, e, f, g)

  pub goes_minus : (old mid new : LinearForm) (whole part l r right : Number) (negative : ℤ) → part ≡ number.Minus l r → right ≡ r → negative ≡ pos 0 -ℤ sign
      → Goes rows sign old mid whole part → Adds mid new (terms_of rows right) (signed rows negative right) → Goes rows sign old new whole l
  goes_minus old mid new whole part l r right negative e same opposite goes adds =
      let sizes = minus_sizes rows [] part l r e in
      record {
        remains = goes_on old mid (terms_of rows whole) (terms_of rows part) (signed rows sign whole) (signed rows sign part) goes.remains
            new (terms_of rows right) (terms_of rows l) (signed rows negative right) (signed rows sign l) adds (omega (arith, sizes.0, ap (terms_of rows) same))
            (λ marks. subtracted_is (signed rows sign part marks) (signed rows negative right marks) (signed rows sign l marks) (signed rows sign r marks) (signed rows (pos 0 -ℤ sign) r marks)
            ((λ i. sign *ℤ ((ap (amount_of rows.features marks) e ∙ nodes.amount-Minus rows.features marks l r) i).value)
            ∙ times_difference sign (amount_of rows.features marks l).value (amount_of rows.features marks r).value)
            (opposite_times sign (amount_of rows.features marks r).value)
            (ap (λ (n : Number). signed rows negative n marks) same ∙ ap (λ (z : ℤ). signed rows z r marks) opposite));
        number = (minus_operands rows [] part l r e goes.number).0;
        smaller = omega (arith, goes.smaller, sizes.1);
      }

  pub goes_end : (old mid new : LinearForm) (whole part : Number) (used : ℕ) (more : List Bool → ℤ) → Goes rows sign old mid whole part
      → Adds mid new used more → used ≤ terms_of rows part → ((marks : List Bool) → signed rows sign part marks ≡ more marks) → Adds old new (terms_of rows whole) (signed rows sign whole)
  goes_end old mid new whole part used more goes adds few same =
      ends old mid (terms_of rows whole) (terms_of rows part) (signed rows sign whole) (signed rows sign part) goes.remains new used more adds few same

  pub goes_room : (old mid : LinearForm) (whole part : Number) (used : ℕ) → used ≤ terms_of rows part → HasRoom old (terms_of rows whole) → Goes rows sign old mid whole part → HasRoom mid used
  goes_room old mid whole part used few room goes =
      room_left old mid (terms_of rows whole) (terms_of rows part) (signed rows sign whole) (signed rows sign part) goes.remains used few room

  -- a part without operators, in millionths
  thousands : (v z : ℤ) → v ≡ z *ℤ pos 1000000 → sign *ℤ v ≡ (sign *ℤ pos 1000000) *ℤ z
  thousands v z e = ap (λ (x : ℤ). sign *ℤ x) (e ∙ *ℤ_comm z (pos 1000000)) ∙ sym (times_times sign (pos 1000000) z)

  pub simple_literal : (part : Number) (m : ℤ) → part ≡ number.Literal m → (marks : List Bool) → signed rows sign part marks ≡ times rows (sign *ℤ pos 1000000) part marks
  simple_literal part m e marks =
      let is = ap (amount_of rows.features marks) e ∙ nodes.amount-Literal rows.features marks m in
      thousands (amount_of rows.features marks part).value (amount_of rows.features marks part).plain
      ((λ i. (is i).value) ∙ (λ i. ((sym is) i).plain *ℤ pos 1000000))

  pub simple_attribute : (part : Number) (f : FeatureNo) (key : List ℕ) → part ≡ number.Attr f key → (marks : List Bool) → signed rows sign part marks ≡ times rows (sign *ℤ pos 1000000) part marks
  simple_attribute part f key e marks =
      let is = ap (amount_of rows.features marks) e ∙ nodes.amount-Attr rows.features marks f key in
      thousands (amount_of rows.features marks part).value (amount_of rows.features marks part).plain
      ((λ i. (is i).value) ∙ (λ i. ((sym is) i).plain *ℤ pos 1000000))

  pub simple_sum : (part : Number) (top : FeatureNo) (key : List ℕ) → part ≡ number.Sum top key → (marks : List Bool) → signed rows sign part marks ≡ times rows (sign *ℤ pos 1000000) part marks
  simple_sum part top key e marks =
      let is = ap (amount_of rows.features marks) e ∙ nodes.amount-Sum rows.features marks top key in
      thousands (amount_of rows.features marks part).value (amount_of rows.features marks part).plain
      ((λ i. (is i).value) ∙ (λ i. ((sym is) i).plain *ℤ pos 1000000))

  pub simple : (part : Number)
      → ((m : ℤ) × (part ≡ number.Literal m)) ⊎ (((f : FeatureNo) × (key : List ℕ) × (part ≡ number.Attr f key)) ⊎ ((top : FeatureNo) × (key : List ℕ) × (part ≡ number.Sum top key)))
      → (marks : List Bool) → signed rows sign part marks ≡ times rows (sign *ℤ pos 1000000) part marks
  simple part (inl (m, e)) marks = simple_literal part m e marks
  simple part (inr (inl (f, key, e))) marks = simple_attribute part f key e marks
  simple part (inr (inr (top, key, e))) marks = simple_sum part top key e marks

  -- a product
  pub product_of : (part l r : Number) → part ≡ number.Times l r → (marks : List Bool)
      → signed rows sign part marks ≡ sign *ℤ ((amount_of rows.features marks l).plain *ℤ (amount_of rows.features marks r).plain)
  product_of part l r e marks = λ i. sign *ℤ ((ap (amount_of rows.features marks) e ∙ nodes.amount-Times rows.features marks l r) i).value

-- ---- the product of a literal

module _ (rows : Rows) (sign factor m made : ℤ) (l r : Number) (exact : made ≡ sign *ℤ m) (same : m ≡ factor) where
  plain_literal : (n : Number) → n ≡ number.Literal factor → (marks : List Bool) → (amount_of rows.features marks n).plain ≡ factor
  plain_literal n e marks = λ i. ((ap (amount_of rows.features marks) e ∙ nodes.amount-Literal rows.features marks factor) i).plain

  pub literal_first : l ≡ number.Literal factor → (marks : List Bool)
      → times rows made r marks ≡ sign *ℤ ((amount_of rows.features marks l).plain *ℤ (amount_of rows.features marks r).plain)
  literal_first e marks =
      ap (λ (z : ℤ). z *ℤ (amount_of rows.features marks r).plain) (exact ∙ ap (λ (z : ℤ). sign *ℤ z) (same ∙ sym (plain_literal l e marks)))
      ∙ times_times sign (amount_of rows.features marks l).plain (amount_of rows.features marks r).plain

  pub literal_second : r ≡ number.Literal factor → (marks : List Bool)
      → times rows made l marks ≡ sign *ℤ ((amount_of rows.features marks l).plain *ℤ (amount_of rows.features marks r).plain)
  literal_second e marks =
      ap (λ (z : ℤ). z *ℤ (amount_of rows.features marks l).plain) (exact ∙ ap (λ (z : ℤ). sign *ℤ z) (same ∙ sym (plain_literal r e marks)))
      ∙ times_times sign (amount_of rows.features marks r).plain (amount_of rows.features marks l).plain
      ∙ ap (λ (z : ℤ). sign *ℤ z) (*ℤ_comm (amount_of rows.features marks r).plain (amount_of rows.features marks l).plain)

-- a product has a literal
pub has_literal : (rows : Rows) (l r : Number) → IsNumber rows (number.Times l r) → is_small_literal l ≡ false → is_small_literal r ≡ false → ⊥
has_literal rows l r is first second =
    let both = and_parts (not ((factor_of l).has_product || (factor_of r).has_product)) ((factor_of l).is_small_literal || (factor_of r).is_small_literal)
    (ap (λ (g : Factor). g.is_linear) (sym (nodes.factor-Times l r)) ∙ is.linear) in
    elim (or_cases (factor_of l).is_small_literal (factor_of r).is_small_literal both.1) [
      | inl small ↦ true≢false (sym small ∙ first)
      | inr small ↦ true≢false (sym small ∙ second)
    ]

-- ---- signs and factors as the code computes them

within : (x y z : ℕ) → x ≤ y → y ≤ z → x ≤ z
within x y z p q = omega arith

sign_fits : (sign : ℤ) → unsigned_abs sign ≤ 1 → to_z w128 (of_z w128 sign) ≡ sign
sign_fits sign h = to_z-of_z w128 sign (fits sign (within (unsigned_abs sign) 1 largest_form h (lit≤ tt)))

pub opposite_sign : (sign : ℤ) → unsigned_abs sign ≤ 1 → to_z w128 (of_z w128 (pos 0 -ℤ to_z w128 (of_z w128 sign))) ≡ pos 0 -ℤ sign
opposite_sign sign h = opposite_exact sign (within (unsigned_abs sign) 1 (10 ^ 12) h (lit≤ tt))

pub opposite_sign_small : (sign : ℤ) → unsigned_abs sign ≤ 1 → unsigned_abs (to_z w128 (of_z w128 (pos 0 -ℤ to_z w128 (of_z w128 sign)))) ≤ 1
opposite_sign_small sign h =
    subst (λ (z : ℤ). unsigned_abs z ≤ 1) (sym (opposite_sign sign h)) (within (unsigned_abs (pos 0 -ℤ sign)) (unsigned_abs sign) 1 (opposite_size sign) h)

-- a factor of a sign is no larger than the other one
signed_size : (sign z : ℤ) (n : ℕ) → unsigned_abs sign ≤ 1 → unsigned_abs z ≤ n → unsigned_abs (sign *ℤ z) ≤ n
signed_size sign z n h k =
    let more = mul-le-mul_right (unsigned_abs z) h in
    subst (λ (x : ℕ). x ≤ n) (sym (unsigned_abs-mul sign z)) (omega arith)

pub thousands_exact : (sign : ℤ) → unsigned_abs sign ≤ 1 → to_z w128 (of_z w128 (to_z w128 (of_z w128 sign) *ℤ pos 1000000)) ≡ sign *ℤ pos 1000000
thousands_exact sign h =
    ap (λ (x : ℤ). to_z w128 (of_z w128 (x *ℤ pos 1000000))) (sign_fits sign h)
    ∙ to_z-of_z w128 (sign *ℤ pos 1000000)
    (fits (sign *ℤ pos 1000000) (within (unsigned_abs (sign *ℤ pos 1000000)) (10 ^ 6) largest_form (signed_size sign (pos 1000000) (10 ^ 6) h (lit≤ tt)) (lit≤ tt)))

pub thousands_small : (sign : ℤ) → unsigned_abs sign ≤ 1 → unsigned_abs (to_z w128 (of_z w128 (to_z w128 (of_z w128 sign) *ℤ pos 1000000))) ≤ 10 ^ 12
thousands_small sign h =
    subst (λ (z : ℤ). unsigned_abs z ≤ 10 ^ 12) (sym (thousands_exact sign h))
    (within (unsigned_abs (sign *ℤ pos 1000000)) (10 ^ 6) (10 ^ 12) (signed_size sign (pos 1000000) (10 ^ 6) h (lit≤ tt)) (lit≤ tt))

pub factor_exact : (sign z : ℤ) → unsigned_abs sign ≤ 1 → InRange z
    → to_z w128 (of_z w128 (to_z w128 (of_z w128 sign) *ℤ to_z w128 (of_z w128 (to_z w64 (of_z w64 z))))) ≡ sign *ℤ z
factor_exact sign z h k = product_is sign z (within (unsigned_abs sign) 1 (10 ^ 12) h (lit≤ tt)) k

pub factor_small : (sign z : ℤ) → unsigned_abs sign ≤ 1 → InRange z → unsigned_abs z ≤ 10 ^ 12
    → unsigned_abs (to_z w128 (of_z w128 (to_z w128 (of_z w128 sign) *ℤ to_z w128 (of_z w128 (to_z w64 (of_z w64 z)))))) ≤ 10 ^ 12
factor_small sign z h k small = subst (λ (x : ℤ). unsigned_abs x ≤ 10 ^ 12) (sym (factor_exact sign z h k)) (signed_size sign z (10 ^ 12) h small)

-- ---- the difference of two

one_times : (z : ℤ) → pos 1 *ℤ z ≡ z
one_times z =
    let is : pos 1 *ℤ z ≡ pos 0 *ℤ z +ℤ z = suc_ℤ-*ℤ (pos 0) z in
    nothing_more (pos 1 *ℤ z) (pos 0 *ℤ z) z is (zero-*ℤ z)
  where
    nothing_more : (x y z : ℤ) → x ≡ y +ℤ z → y ≡ pos 0 → x ≡ z
    nothing_more x y z e f = omega (arith, ints, e, f)

pub both_added : (nothing one two a b : ℤ) → nothing ≡ pos 0 → one ≡ nothing +ℤ pos 1 *ℤ a → two ≡ one +ℤ negsuc 0 *ℤ b → two ≡ a -ℤ b
both_added nothing one two a b e f g =
    let first : pos 1 *ℤ a ≡ a = one_times a in
    let second : negsuc 0 *ℤ b ≡ pos 0 -ℤ pos 1 *ℤ b = opposite_times (pos 1) b in
    let third : pos 1 *ℤ b ≡ b = one_times b in
    sums nothing one two (pos 1 *ℤ a) (negsuc 0 *ℤ b) (pos 1 *ℤ b) e f g first second third
  where
    sums : (o x y p q r : ℤ) → o ≡ pos 0 → x ≡ o +ℤ p → y ≡ x +ℤ q → p ≡ a → q ≡ pos 0 -ℤ r → r ≡ b → y ≡ a -ℤ b
    sums o x y p q r e f g h i j = omega (arith, ints, e, f, g, h, i, j)
