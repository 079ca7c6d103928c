-- The walk down a number: what stands to the right is added up, and what is left is smaller.
use Rattle.std.proofs.Common.{◌≡◌, ℕ, ◌+◌, ◌*◌, ◌^◌, ◌≤◌, Bool, true, false, ltb, not, ◌||◌, List, [], ◌++◌, length, inl, inr, sym, ap, ◌∙◌, subst, arith, lit≤}
use Rattle.std.specs.Prelude.{ℤ, pos, negsuc, ◌+ℤ◌, ◌-ℤ◌, ◌*ℤ◌, int_lt}
use Rattle.std.specs.List.{All}
use Rattle.std.proofs.lemmas.Bool.{and_from, and_parts, false≢true, ltb-true, not-true, or_cases, or_parts}
use Rattle.std.proofs.lemmas.Int.{ints}
use Rattle.std.proofs.lemmas.List.Elements.{All-head}
use Rattle.uvl_model.specs.declared.numbers.Amount.{Amount}
use Rattle.uvl_model.specs.declared.rows.FeatureNo.{FeatureNo}
use Rattle.uvl_model.specs.declared.rule.Number.{Number}
use Rattle.uvl_model.specs.declared.rule.Number.TheFolds.{fold-roll-Number, ind-Number, map-Number}
use Rattle.uvl_model.specs.declared.rule.Number.TheOpen.{Number-F}
use Rattle.uvl_model.specs.declared.rule.Number.TheVariants as number
use Rattle.uvl_model.specs.declared.rule.Number.TheViews.{roll-Number}
use Rattle.uvl_model.specs.Amounts.{IsMadeOf, IsWithin, added, amount_node, amount_of, counted, marked_total, most_terms, multiplied, number_at, rows_below, simple_amount, subtracted}
use Rattle.uvl_model.specs.Check.{is_marked}
use Rattle.uvl_model.specs.Heads.{heads_below_rows}
use Rattle.uvl_model.specs.Names.{feature_names, name_of}
use Rattle.uvl_model.specs.Rows.{Rows}
use Rattle.uvl_model.specs.Rules.{Factor, IsNumber, IsRead, IsThere, Read, factor_node, is_linear, is_small, number_nodes_of, reads_of, terms_of, tops_of}
use Rattle.uvl_model.proofs.Bounds.{made_added, made_more, made_multiplied, made_of_nothing, made_simple, made_subtracted, product_left, product_right, scaled, within_abs, within_more}
use Rattle.uvl_model.proofs.Everywhere.{all_front, all_rest}
use Rattle.uvl_model.proofs.NumberNodes as nodes
use Rattle.uvl_model.proofs.NumberNodes.{factor_of}

-- ---- products

-- a number without a product is linear
abbrev PlainIsLinear : Number → Type 0
PlainIsLinear n = (factor_of n).has_product ≡ false → is_linear n ≡ true

factor : (x : Number-F Number) → factor_of (roll-Number x) ≡ factor_node (map-Number Number Factor factor_of x)
factor = fold-roll-Number Factor factor_node

abbrev PlainNumber : Type 0
PlainNumber = (n : Number) × PlainIsLinear n

-- what a node says of a factor, read from its fold
has_product_is : (x : Number-F Number) (f : Factor) → factor_of (roll-Number x) ≡ f → (factor_of (roll-Number x)).has_product ≡ false → f.has_product ≡ false
has_product_is x f e h = ap (λ (g : Factor). g.has_product) (sym e) ∙ h

plain_node : (y : Number-F PlainNumber) → PlainIsLinear (roll-Number (map-Number PlainNumber Number (λ e. e.0) y))
plain_node (Number-F.Literal m) none = ap (λ (g : Factor). g.is_linear) (factor (Number-F.Literal m))
plain_node (Number-F.Attr f key) none = ap (λ (g : Factor). g.is_linear) (factor (Number-F.Attr f key))
plain_node (Number-F.Sum top key) none = ap (λ (g : Factor). g.is_linear) (factor (Number-F.Sum top key))
plain_node (Number-F.Plus l r) none =
    let x = Number-F.Plus l.0 r.0 in
    let parts = or_parts (factor_of l.0).has_product (factor_of r.0).has_product (has_product_is x _ (factor x) none) in
    ap (λ (g : Factor). g.is_linear) (factor x) ∙ and_from (is_linear l.0) (is_linear r.0) (l.1 parts.0) (r.1 parts.1)
plain_node (Number-F.Minus l r) none =
    let x = Number-F.Minus l.0 r.0 in
    let parts = or_parts (factor_of l.0).has_product (factor_of r.0).has_product (has_product_is x _ (factor x) none) in
    ap (λ (g : Factor). g.is_linear) (factor x) ∙ and_from (is_linear l.0) (is_linear r.0) (l.1 parts.0) (r.1 parts.1)
plain_node (Number-F.Times l r) none = absurd (false≢true (sym (has_product_is (Number-F.Times l.0 r.0) _ (factor (Number-F.Times l.0 r.0)) none)))

plain_is_linear : (n : Number) → PlainIsLinear n
plain_is_linear = ind-Number PlainIsLinear (λ x y is. subst (λ (z : Number-F Number). PlainIsLinear (roll-Number z)) is (plain_node y))

-- fewer than 1,000,000, told in millionths
small_within : (m : ℤ) → is_small m ≡ true → IsWithin (10 ^ 12) m
small_within (pos n) h =
    let less : ltb n 1000000000000 ≡ true = (and_parts (int_lt (pos 0 -ℤ pos 1000000000000) (pos n)) (int_lt (pos n) (pos 1000000000000)) h).1 in
    within_abs (10 ^ 12) (pos n) (omega (arith, ltb-true n 1000000000000 less))
small_within (negsuc n) h =
    let less : ltb n 999999999999 ≡ true = (and_parts (int_lt (pos 0 -ℤ pos 1000000000000) (negsuc n)) (int_lt (negsuc n) (pos 1000000000000)) h).0 in
    within_abs (10 ^ 12) (negsuc n) (omega (arith, ltb-true n 999999999999 less))

module _ (rows : Rows) (marks : List Bool) where
  -- what a number is
  abbrev amount_is : Number → Amount
  amount_is n = amount_of rows.features marks n

  abbrev terms : Number → ℕ
  terms n = terms_of rows n

  -- a small literal is small
  abbrev SmallIsWithin : Number → Type 0
  SmallIsWithin n = (factor_of n).is_small_literal ≡ true → IsWithin (10 ^ 12) (amount_is n).plain

  small_node : (y : Number-F Number) → SmallIsWithin (roll-Number y)
  small_node (Number-F.Literal m) small =
      let here : is_small m ≡ true = ap (λ (g : Factor). g.is_small_literal) (sym (factor (Number-F.Literal m))) ∙ small in
      subst (λ (z : ℤ). IsWithin (10 ^ 12) z) (sym (ap (λ (a : Amount). a.plain) (fold-roll-Number Amount (amount_node rows.features marks) (Number-F.Literal m)))) (small_within m here)
  small_node (Number-F.Attr f key) small = absurd (false≢true (ap (λ (g : Factor). g.is_small_literal) (sym (factor (Number-F.Attr f key))) ∙ small))
  small_node (Number-F.Sum top key) small = absurd (false≢true (ap (λ (g : Factor). g.is_small_literal) (sym (factor (Number-F.Sum top key))) ∙ small))
  small_node (Number-F.Plus l r) small = absurd (false≢true (ap (λ (g : Factor). g.is_small_literal) (sym (factor (Number-F.Plus l r))) ∙ small))
  small_node (Number-F.Minus l r) small = absurd (false≢true (ap (λ (g : Factor). g.is_small_literal) (sym (factor (Number-F.Minus l r))) ∙ small))
  small_node (Number-F.Times l r) small = absurd (false≢true (ap (λ (g : Factor). g.is_small_literal) (sym (factor (Number-F.Times l r))) ∙ small))

  small_is_within : (n : Number) → SmallIsWithin n
  small_is_within = ind-Number SmallIsWithin (λ x y is. small_node x)

  -- ---- the walk

  -- the whole is what was added up and the part that is left
  pub record Going (whole part : Number) (rest : Amount) : Type 0 where
    pub plain : (amount_is whole).plain ≡ rest.plain +ℤ (amount_is part).plain
    pub value : (amount_is whole).value ≡ rest.value +ℤ (amount_is part).value
    pub number : IsNumber rows part
    pub used : ℕ
    pub made : IsMadeOf used rest
    pub few : used + terms part ≤ terms whole
    pub smaller : number_nodes_of part ≤ number_nodes_of whole

  zero_first : (z : ℤ) → z ≡ pos 0 +ℤ z
  zero_first z = omega (arith, ints)

  pub going_begins : (whole : Number) (rest : Amount) → rest.plain ≡ pos 0 → rest.value ≡ pos 0 → IsNumber rows whole → Going whole whole rest
  going_begins whole rest e f is = record {
    plain = subst (λ (z : ℤ). (amount_is whole).plain ≡ z +ℤ (amount_is whole).plain) (sym e) (zero_first (amount_is whole).plain);
    value = subst (λ (z : ℤ). (amount_is whole).value ≡ z +ℤ (amount_is whole).value) (sym f) (zero_first (amount_is whole).value);
    number = is;
    used = 0;
    made = made_of_nothing rest e f;
    few = omega arith;
    smaller = omega arith;
  }

  -- the operands of an operator are numbers that a model may have
  operand_parts : (n l r : Number) → tops_of n ≡ tops_of l ++ tops_of r → reads_of n ≡ reads_of l ++ reads_of r → is_linear l ≡ true → is_linear r ≡ true
      → IsNumber rows n → IsNumber rows l × IsNumber rows r
  operand_parts n l r t d p q is =
      let ts = subst (λ (fs : List FeatureNo). All (IsThere rows) fs) t is.tops in
      let ds = subst (λ (rs : List Read). All (IsRead rows) rs) d is.reads in (
        record { tops = all_front (IsThere rows) (tops_of l) (tops_of r) ts; reads = all_front (IsRead rows) (reads_of l) (reads_of r) ds; linear = p },
        record { tops = all_rest (IsThere rows) (tops_of l) (tops_of r) ts; reads = all_rest (IsRead rows) (reads_of l) (reads_of r) ds; linear = q },
      )

  linear_operands : (n l r : Number) → factor_of n ≡ factor_node (Number-F.Plus (factor_of l) (factor_of r)) → IsNumber rows n → (is_linear l ≡ true) × (is_linear r ≡ true)
  linear_operands n l r e is = and_parts (is_linear l) (is_linear r) (ap (λ (g : Factor). g.is_linear) (sym e) ∙ is.linear)

  pub plus_operands : (part l r : Number) → part ≡ number.Plus l r → IsNumber rows part → IsNumber rows l × IsNumber rows r
  plus_operands part l r e is =
      let linear = linear_operands part l r (ap factor_of e ∙ nodes.factor-Plus l r) is in
      operand_parts part l r (ap tops_of e ∙ nodes.tops-Plus l r) (ap reads_of e ∙ nodes.reads-Plus l r) linear.0 linear.1 is

  pub minus_operands : (part l r : Number) → part ≡ number.Minus l r → IsNumber rows part → IsNumber rows l × IsNumber rows r
  minus_operands part l r e is =
      let linear = linear_operands part l r (ap factor_of e ∙ nodes.factor-Minus l r) is in
      operand_parts part l r (ap tops_of e ∙ nodes.tops-Minus l r) (ap reads_of e ∙ nodes.reads-Minus l r) linear.0 linear.1 is

  -- what holds of the operands of a product that a model may have
  product_factors : (part l r : Number) → part ≡ number.Times l r → IsNumber rows part
      → (((factor_of l).has_product || (factor_of r).has_product) ≡ false) × (((factor_of l).is_small_literal || (factor_of r).is_small_literal) ≡ true)
  product_factors part l r e is =
      let both = and_parts (not ((factor_of l).has_product || (factor_of r).has_product)) ((factor_of l).is_small_literal || (factor_of r).is_small_literal)
      (ap (λ (g : Factor). g.is_linear) (sym (ap factor_of e ∙ nodes.factor-Times l r)) ∙ is.linear) in
      (not-true ((factor_of l).has_product || (factor_of r).has_product) both.0, both.1)

  pub times_operands : (part l r : Number) → part ≡ number.Times l r → IsNumber rows part → IsNumber rows l × IsNumber rows r
  times_operands part l r e is =
      let none = or_parts (factor_of l).has_product (factor_of r).has_product (product_factors part l r e is).0 in
      operand_parts part l r (ap tops_of e ∙ nodes.tops-Times l r) (ap reads_of e ∙ nodes.reads-Times l r) (plain_is_linear l none.0) (plain_is_linear r none.1) is

  -- how many terms and nodes operands have
  pub plus_sizes : (part l r : Number) → part ≡ number.Plus l r → (terms part ≡ terms l + terms r) × (number_nodes_of part ≡ 1 + number_nodes_of l + number_nodes_of r)
  plus_sizes part l r e = (ap terms e ∙ nodes.terms-Plus rows l r, ap number_nodes_of e ∙ nodes.nodes-Plus l r)

  pub minus_sizes : (part l r : Number) → part ≡ number.Minus l r → (terms part ≡ terms l + terms r) × (number_nodes_of part ≡ 1 + number_nodes_of l + number_nodes_of r)
  minus_sizes part l r e = (ap terms e ∙ nodes.terms-Minus rows l r, ap number_nodes_of e ∙ nodes.nodes-Minus l r)

  pub times_sizes : (part l r : Number) → part ≡ number.Times l r → (terms part ≡ terms l + terms r) × (number_nodes_of part ≡ 1 + number_nodes_of l + number_nodes_of r)
  times_sizes part l r e = (ap terms e ∙ nodes.terms-Times rows l r, ap number_nodes_of e ∙ nodes.nodes-Times l r)

  -- ---- a right operand is added or subtracted

  shifted_sum : (whole rest part l r right : ℤ) → whole ≡ rest +ℤ part → part ≡ l +ℤ r → right ≡ r → whole ≡ (rest +ℤ right) +ℤ l
  shifted_sum whole rest part l r right e f g = omega (arith, ints, e, f, g)

  shifted_difference : (whole rest part l r right : ℤ) → whole ≡ rest +ℤ part → part ≡ l -ℤ r → right ≡ r → whole ≡ (rest -ℤ right) +ℤ l
  shifted_difference whole rest part l r right e f g = omega (arith, ints, e, f, g)

  pub plus_step : (whole part l r : Number) (rest right : Amount) → part ≡ number.Plus l r → right ≡ amount_is r → IsMadeOf (terms r) right
      → Going whole part rest → Going whole l (added rest right)
  plus_step whole part l r rest right e f made going =
      let sizes = plus_sizes part l r e in
      let is = ap amount_is e ∙ nodes.amount-Plus rows.features marks l r in
      record {
        plain = shifted_sum (amount_is whole).plain rest.plain (amount_is part).plain (amount_is l).plain (amount_is r).plain right.plain going.plain
            (ap (λ (a : Amount). a.plain) is) (ap (λ (a : Amount). a.plain) f);
        value = shifted_sum (amount_is whole).value rest.value (amount_is part).value (amount_is l).value (amount_is r).value right.value going.value
            (ap (λ (a : Amount). a.value) is) (ap (λ (a : Amount). a.value) f);
        number = (plus_operands part l r e going.number).0;
        used = going.used + terms r;
        made = made_added going.used (terms r) rest right going.made made;
        few = omega (arith, going.few, sizes.0);
        smaller = omega (arith, going.smaller, sizes.1);
      }

  pub minus_step : (whole part l r : Number) (rest right : Amount) → part ≡ number.Minus l r → right ≡ amount_is r → IsMadeOf (terms r) right
      → Going whole part rest → Going whole l (subtracted rest right)
  minus_step whole part l r rest right e f made going =
      let sizes = minus_sizes part l r e in
      let is = ap amount_is e ∙ nodes.amount-Minus rows.features marks l r in
      record {
        plain = shifted_difference (amount_is whole).plain rest.plain (amount_is part).plain (amount_is l).plain (amount_is r).plain right.plain going.plain
            (ap (λ (a : Amount). a.plain) is) (ap (λ (a : Amount). a.plain) f);
        value = shifted_difference (amount_is whole).value rest.value (amount_is part).value (amount_is l).value (amount_is r).value right.value going.value
            (ap (λ (a : Amount). a.value) is) (ap (λ (a : Amount). a.value) f);
        number = (minus_operands part l r e going.number).0;
        used = going.used + terms r;
        made = made_subtracted going.used (terms r) rest right going.made made;
        few = omega (arith, going.few, sizes.0);
        smaller = omega (arith, going.smaller, sizes.1);
      }

  pub plus_fits : (whole part l r : Number) (rest right : Amount) → part ≡ number.Plus l r → IsMadeOf (terms r) right → Going whole part rest
      → terms whole ≤ most_terms → IsMadeOf most_terms (added rest right)
  plus_fits whole part l r rest right e made going few =
      made_more (going.used + terms r) most_terms (added rest right) (omega (arith, going.few, (plus_sizes part l r e).0, few))
      (made_added going.used (terms r) rest right going.made made)

  pub minus_fits : (whole part l r : Number) (rest right : Amount) → part ≡ number.Minus l r → IsMadeOf (terms r) right → Going whole part rest
      → terms whole ≤ most_terms → IsMadeOf most_terms (subtracted rest right)
  minus_fits whole part l r rest right e made going few =
      made_more (going.used + terms r) most_terms (subtracted rest right) (omega (arith, going.few, (minus_sizes part l r e).0, few))
      (made_subtracted going.used (terms r) rest right going.made made)

  -- ---- the last part

  -- what is left is this, made of its terms
  pub record IsLast (part : Number) (last : Amount) : Type 0 where
    pub amount : amount_is part ≡ last
    pub made : IsMadeOf (terms part) last

  pub last_fits : (whole part : Number) (rest last : Amount) → IsLast part last → Going whole part rest → terms whole ≤ most_terms → IsMadeOf most_terms (added rest last)
  last_fits whole part rest last is going few =
      made_more (going.used + terms part) most_terms (added rest last) (omega (arith, going.few, few)) (made_added going.used (terms part) rest last going.made is.made)

  pub last_amount : (whole part : Number) (rest last result : Amount) → IsLast part last → Going whole part rest → result ≡ added rest last → result ≡ amount_is whole
  last_amount whole part rest last result is going e =
      let plain : (amount_is whole).plain ≡ rest.plain +ℤ last.plain = going.plain ∙ ap (λ (a : Amount). rest.plain +ℤ a.plain) is.amount in
      let value : (amount_is whole).value ≡ rest.value +ℤ last.value = going.value ∙ ap (λ (a : Amount). rest.value +ℤ a.value) is.amount in
      let same : amount_is whole ≡ added rest last = λ i. record { plain = plain i; value = value i } in
      e ∙ sym same

  pub last_made : (whole part : Number) (rest last result : Amount) → IsLast part last → Going whole part rest → result ≡ added rest last → IsMadeOf (terms whole) result
  last_made whole part rest last result is going e =
      subst (λ (a : Amount). IsMadeOf (terms whole) a) (sym e)
      (made_more (going.used + terms part) (terms whole) (added rest last) (omega (arith, going.few)) (made_added going.used (terms part) rest last going.made is.made))

  pub same_last : (part : Number) (a b : Amount) → a ≡ b → IsLast part b → IsLast part a
  same_last part a b e is = record { amount = is.amount ∙ sym e; made = subst (λ (x : Amount). IsMadeOf (terms part) x) (sym e) is.made }

  -- one term
  one_term : (part : Number) (z : ℤ) → amount_is part ≡ simple_amount z → terms part ≡ 1 → IsWithin (10 ^ 18) z → IsLast part (simple_amount z)
  one_term part z e f is = record {
    amount = e;
    made = subst (λ (n : ℕ). IsMadeOf n (simple_amount z)) (sym f) (made_simple 1 z (within_more (10 ^ 18) (1 * 10 ^ 18) z (lit≤ tt) is));
  }

  pub literal_is_last : (part : Number) (m : ℤ) → part ≡ number.Literal m → IsWithin (10 ^ 18) m → IsLast part (simple_amount m)
  literal_is_last part m e is = one_term part m (ap amount_is e ∙ nodes.amount-Literal rows.features marks m) (ap terms e ∙ nodes.terms-Literal rows m) is

  pub attribute_is_last : (part : Number) (f : FeatureNo) (key : List ℕ) (z : ℤ) → part ≡ number.Attr f key
      → z ≡ counted (is_marked marks f) (number_at rows.features f key) → IsWithin (10 ^ 18) z → IsLast part (simple_amount z)
  attribute_is_last part f key z e told is =
      one_term part z (ap amount_is e ∙ nodes.amount-Attr rows.features marks f key ∙ ap simple_amount (sym told)) (ap terms e ∙ nodes.terms-Attr rows f key) is

  pub sum_is_last : (part : Number) (top : FeatureNo) (key : List ℕ) (z : ℤ) → part ≡ number.Sum top key
      → z ≡ marked_total key marks top.0 (rows_below rows.features top) → IsWithin (length (heads_below_rows rows (name_of (feature_names rows) top)) * 10 ^ 18) z
      → IsLast part (simple_amount z)
  sum_is_last part top key z e told is = record {
    amount = ap amount_is e ∙ nodes.amount-Sum rows.features marks top key ∙ ap simple_amount (sym told);
    made = subst (λ (n : ℕ). IsMadeOf n (simple_amount z)) (sym (ap terms e ∙ nodes.terms-Sum rows top key))
        (made_simple (length (heads_below_rows rows (name_of (feature_names rows) top))) z is);
  }

  -- so its terms fit
  pub sum_fits : (whole part : Number) (rest : Amount) (top : FeatureNo) (key : List ℕ) (z : ℤ) → part ≡ number.Sum top key → Going whole part rest → terms whole ≤ most_terms
      → IsWithin (length (heads_below_rows rows (name_of (feature_names rows) top)) * 10 ^ 18) z → IsWithin (most_terms * 10 ^ 18) z
  sum_fits whole part rest top key z e going few is =
      scaled (10 ^ 18) (length (heads_below_rows rows (name_of (feature_names rows) top))) most_terms z
      (omega (arith, going.few, few, ap terms e ∙ nodes.terms-Sum rows top key)) is

  pub top_is_there : (part : Number) (top : FeatureNo) (key : List ℕ) → part ≡ number.Sum top key → IsNumber rows part → IsThere rows top
  top_is_there part top key e is = All-head (IsThere rows) top [] (subst (λ (fs : List FeatureNo). All (IsThere rows) fs) (ap tops_of e ∙ nodes.tops-Sum top key) is.tops)

  -- the product of a small literal and a number without products
  product_within : (part l r : Number) → part ≡ number.Times l r → IsNumber rows part → IsMadeOf (terms l) (amount_is l) → IsMadeOf (terms r) (amount_is r)
      → IsWithin (terms part * 10 ^ 30) ((amount_is l).plain *ℤ (amount_is r).plain)
  product_within part l r e is left right =
      let sizes = (times_sizes part l r e).0 in
      elim (or_cases (factor_of l).is_small_literal (factor_of r).is_small_literal (product_factors part l r e is).1) [
        | inl small ↦ scaled (10 ^ 30) (terms r) (terms part) ((amount_is l).plain *ℤ (amount_is r).plain) (omega (arith, sizes))
            (product_left (terms r) (amount_is l).plain (amount_is r).plain (small_is_within l small) right.plain)
        | inr small ↦ scaled (10 ^ 30) (terms l) (terms part) ((amount_is l).plain *ℤ (amount_is r).plain) (omega (arith, sizes))
            (product_right (terms l) (amount_is l).plain (amount_is r).plain left.plain (small_is_within r small))
      ]

  -- the same of two amounts
  factors_within : (part l r : Number) (x y : Amount) → part ≡ number.Times l r → IsNumber rows part → x ≡ amount_is l → IsMadeOf (terms l) x → y ≡ amount_is r → IsMadeOf (terms r) y
      → IsWithin (terms part * 10 ^ 30) (x.plain *ℤ y.plain)
  factors_within part l r x y e is f left g right =
      let product = product_within part l r e is (subst (λ (a : Amount). IsMadeOf (terms l) a) f left) (subst (λ (a : Amount). IsMadeOf (terms r) a) g right) in
      subst (λ (z : ℤ). IsWithin (terms part * 10 ^ 30) z) (ap (λ (a : Amount). a.plain *ℤ (amount_is r).plain) (sym f) ∙ ap (λ (a : Amount). x.plain *ℤ a.plain) (sym g)) product

  pub factors_fit : (whole part l r : Number) (rest x y : Amount) → part ≡ number.Times l r → Going whole part rest → terms whole ≤ most_terms
      → x ≡ amount_is l → IsMadeOf (terms l) x → y ≡ amount_is r → IsMadeOf (terms r) y → IsWithin (most_terms * 10 ^ 30) (x.plain *ℤ y.plain)
  factors_fit whole part l r rest x y e going few f left g right =
      scaled (10 ^ 30) (terms part) most_terms (x.plain *ℤ y.plain) (omega (arith, going.few, few)) (factors_within part l r x y e going.number f left g right)

  pub product_is_last : (part l r : Number) (x y last : Amount) → part ≡ number.Times l r → IsNumber rows part → x ≡ amount_is l → IsMadeOf (terms l) x → y ≡ amount_is r
      → IsMadeOf (terms r) y → last ≡ multiplied x y → IsLast part last
  product_is_last part l r x y last e is f left g right h = record {
    amount = ap amount_is e ∙ nodes.amount-Times rows.features marks l r
        ∙ ap (λ (a : Amount). multiplied a (amount_is r)) (sym f) ∙ ap (λ (a : Amount). multiplied x a) (sym g) ∙ sym h;
    made = subst (λ (a : Amount). IsMadeOf (terms part) a) (sym h) (made_multiplied (terms part) x y (factors_within part l r x y e is f left g right));
  }
