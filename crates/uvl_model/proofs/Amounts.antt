-- What numbers of rules are under marks is what they are in the set that the marks agree with, and so rules hold alike.
use Rattle.std.proofs.Common.{◌≡◌, ℕ, zero, suc, ◌+◌, ◌<◌, unwrap_or, Bool, List, [], ◌∷◌, ◌++◌, length, take, drop, map, slice_get, refl, sym, ap, ◌∙◌, subst, if◌then◌else◌, arith}
use Rattle.std.specs.Prelude.{ℤ, pos, ◌+ℤ◌, ◌*ℤ◌}
use Rattle.std.specs.List.{All, list_all, position_or_len}
use Rattle.std.proofs.lemmas.List.{length-map}
use Rattle.std.proofs.lemmas.List.Elements.{All-head, All-tail}
use Rattle.uvl_model.specs.declared.numbers.Amount.{Amount}
use Rattle.uvl_model.specs.declared.rows.FeatureNo.{FeatureNo}
use Rattle.uvl_model.specs.declared.rows.FeatureRow.{FeatureRow}
use Rattle.uvl_model.specs.declared.rule.Number.{Number}
use Rattle.uvl_model.specs.declared.rule.Number.TheOpen.{Number-F}
use Rattle.uvl_model.specs.declared.rule.Number.TheFolds.{fold-roll-Number, ind-Number, map-Number}
use Rattle.uvl_model.specs.declared.rule.Number.TheViews.{roll-Number}
use Rattle.uvl_model.specs.declared.rule.Rule.{Rule}
use Rattle.uvl_model.specs.declared.rule.Rule.TheOpen.{Rule-F}
use Rattle.uvl_model.specs.declared.rule.Rule.TheFolds.{fold-roll-Rule, ind-Rule, map-Rule}
use Rattle.uvl_model.specs.declared.rule.Rule.TheViews.{roll-Rule}
use Rattle.uvl_model.specs.Amounts.{amount_node, amount_of, counted, is_outside, marked_total, met_node, number_at, number_of_row, rows_below, rule_is_met, run_from}
use Rattle.uvl_model.specs.Check.{is_marked}
use Rattle.uvl_model.specs.Constraints.{comparison_of, constraint_node, constraint_of, quantity_node, quantity_of}
use Rattle.uvl_model.specs.Heads.{head_of_row, heads_below_rows, heads_of_rows}
use Rattle.uvl_model.specs.Names.{feature_names, name_of}
use Rattle.uvl_model.specs.Products.{rules_hold}
use Rattle.uvl_model.specs.Rows.{Rows}
use Rattle.uvl_model.specs.Rules.{IsNumber, IsRead, IsRule, IsThere, Read, features_node, features_of, numbers_node, numbers_of, reads_node, reads_of, tops_node, tops_of}
use Rattle.uvl_model.specs.Sound.{AreDistinct, IsSound}
use Rattle.uvl_model.specs.Spelling.{numbered}
use Rattle.uvl_semantics.specs.Attributes.{attributes_of, number_among, number_of_key}
use Rattle.uvl_semantics.specs.Constraint.{Constraint, Quantity}
use Rattle.uvl_semantics.specs.Holding.{compares, holds_by}
use Rattle.uvl_semantics.specs.Product.{has}
use Rattle.uvl_semantics.specs.Values.{plain_by, total_of, value_by}
use Rattle.uvl_semantics.proofs.Membership.{bytes_eq-same}
use Rattle.uvl_model.proofs.Everywhere.{all_front, all_rest}
use Rattle.uvl_model.proofs.Marks.{AgreeFrom}
use Rattle.uvl_model.proofs.NamesSpelled.{spelled_names}
use Rattle.uvl_model.proofs.Runs.{differs_at, run_is_below}
use Rattle.uvl_model.proofs.Truths.{feature_told}

-- the names of rows
abbrev names_in : List FeatureRow → List (List ℕ)
names_in rows = map (λ row. row.name) rows

-- ---- marks of a part of the rows

agree_drop : (marks : List Bool) (set : List (List ℕ)) (rows : List FeatureRow) (n t : ℕ) → AgreeFrom marks set n (names_in rows)
    → AgreeFrom marks set (n + t) (names_in (drop t rows))
agree_drop marks set rows n zero h =
    let here : n ≡ n + 0 = omega arith in
    subst (λ (m : ℕ). AgreeFrom marks set m (names_in rows)) here h
agree_drop marks set [] n (suc t) h = tt
agree_drop marks set (row ∷ rows) n (suc t) h =
    let later : n + 1 + t ≡ n + suc t = omega arith in
    subst (λ (m : ℕ). AgreeFrom marks set m (names_in (drop t rows))) later (agree_drop marks set rows (n + 1) t h.1)

agree_take : (marks : List Bool) (set : List (List ℕ)) (rows : List FeatureRow) (n m : ℕ) → AgreeFrom marks set n (names_in rows)
    → AgreeFrom marks set n (names_in (take m rows))
agree_take marks set rows n zero h = tt
agree_take marks set [] n (suc m) h = tt
agree_take marks set (row ∷ rows) n (suc m) h = (h.0, agree_take marks set rows (n + 1) m h.1)

agree_run : (marks : List Bool) (set : List (List ℕ)) (top : FeatureNo) (rows : List FeatureRow) (n : ℕ) → AgreeFrom marks set n (names_in rows)
    → AgreeFrom marks set n (names_in (run_from top rows))
agree_run marks set top [] n h = tt
agree_run marks set top (row ∷ rows) n h = (h.0, agree_take marks set rows (n + 1) (position_or_len (is_outside top) rows) h.1)

-- ---- attributes and totals

-- the number that the feature with a number has, found by its name
number_found : (key : List ℕ) (rows : List FeatureRow) (n : ℕ) → n < length rows → AreDistinct (names_in rows)
    → unwrap_or (number_among (map head_of_row rows) (unwrap_or (slice_get (names_in rows) n) []) key) (pos 0) ≡ number_at rows (numbered n) key
number_found key [] n inside d = absurd (omega arith)
number_found key (row ∷ rows) zero inside d =
    ap (λ (b : Bool). unwrap_or (number_of_key key (if b then row.attributes else attributes_of row.name (map head_of_row rows))) (pos 0)) (bytes_eq-same row.name)
number_found key (row ∷ rows) (suc n) inside d =
    let name = unwrap_or (slice_get (names_in rows) n) [] in
    ap (λ (b : Bool). unwrap_or (number_of_key key (if b then row.attributes else attributes_of name (map head_of_row rows))) (pos 0))
    (differs_at (names_in rows) row.name n d.0 (rw (length-map rows (λ row. row.name)) (omega arith)))
    ∙ number_found key rows n (omega arith) d.1

-- the total of marked rows is that of the selected features
total_told : (key : List ℕ) (marks : List Bool) (set : List (List ℕ)) (rows : List FeatureRow) (n : ℕ) → AgreeFrom marks set n (names_in rows)
    → marked_total key marks n rows ≡ total_of key (map head_of_row rows) set
total_told key marks set [] n h = refl
total_told key marks set (row ∷ rows) n h =
    ap (λ (b : Bool). counted b (number_of_row key row) +ℤ marked_total key marks (n + 1) rows) (sym h.0)
    ∙ ap (λ (z : ℤ). counted (has set row.name) (number_of_row key row) +ℤ z) (total_told key marks set rows (n + 1) h.1)

module _ (rows : Rows) (sound : IsSound rows) (marks : List Bool) (set : List (List ℕ)) (agree : AgreeFrom marks set 0 (feature_names rows)) where
  sum_told : (top : FeatureNo) (key : List ℕ) → IsThere rows top
      → marked_total key marks top.0 (rows_below rows.features top) ≡ total_of key (heads_below_rows rows (name_of (feature_names rows) top)) set
  sum_told top key there =
      let here : 0 + top.0 ≡ top.0 = omega arith in
      let from = subst (λ (m : ℕ). AgreeFrom marks set m (names_in (drop top.0 rows.features))) here (agree_drop marks set rows.features 0 top.0 agree) in
      total_told key marks set (rows_below rows.features top) top.0 (agree_run marks set top (drop top.0 rows.features) top.0 from)
      ∙ ap (λ heads. total_of key heads set) (run_is_below rows sound top there)

  attribute_told : (f : FeatureNo) (key : List ℕ) → IsThere rows f
      → counted (is_marked marks f) (number_at rows.features f key)
      ≡ (if has set (name_of (feature_names rows) f) then unwrap_or (number_among (heads_of_rows rows).all (name_of (feature_names rows) f) key) (pos 0) else pos 0)
  attribute_told f key there =
      let name = name_of (feature_names rows) f in
      let distinct = subst AreDistinct (sym (spelled_names sound.tree rows sound.spelled)) sound.within.distinct in
      ap (λ (b : Bool). counted b (number_at rows.features f key)) (feature_told rows marks set agree f there)
      ∙ ap (λ (z : ℤ). counted (has set name) z) (sym (number_found key rows.features f.0 there distinct))

  -- ---- numbers

  -- an amount is that of a quantity
  record IsTold (amount : Amount) (quantity : Quantity) : Type 0 where
    plain : amount.plain ≡ plain_by (heads_of_rows rows) quantity set
    value : amount.value ≡ value_by (heads_of_rows rows) quantity set

  carried : (a b : Amount) (p q : Quantity) → a ≡ b → p ≡ q → IsTold b q → IsTold a p
  carried a b p q e f h = record {
    plain = ap (λ (x : Amount). x.plain) e ∙ h.plain ∙ sym (ap (λ (x : Quantity). plain_by (heads_of_rows rows) x set) f);
    value = ap (λ (x : Amount). x.value) e ∙ h.value ∙ sym (ap (λ (x : Quantity). value_by (heads_of_rows rows) x set) f);
  }

  abbrev amount_is : Number → Amount
  amount_is number = amount_of rows.features marks number

  abbrev quantity_is : Number → Quantity
  quantity_is number = quantity_of (feature_names rows) number

  -- a number whose features are there is told
  abbrev NumberTold : Number → Type 0
  NumberTold number = All (IsThere rows) (tops_of number) → All (IsRead rows) (reads_of number) → IsTold (amount_is number) (quantity_is number)

  abbrev ToldNumber : Type 0
  ToldNumber = (number : Number) × NumberTold number

  amount : (x : Number-F Number) → amount_is (roll-Number x) ≡ amount_node rows.features marks (map-Number Number Amount amount_is x)
  amount = fold-roll-Number Amount (amount_node rows.features marks)

  quantity : (x : Number-F Number) → quantity_is (roll-Number x) ≡ quantity_node (feature_names rows) (map-Number Number Quantity quantity_is x)
  quantity = fold-roll-Number Quantity (quantity_node (feature_names rows))

  tops : (x : Number-F Number) → tops_of (roll-Number x) ≡ tops_node (map-Number Number (List FeatureNo) tops_of x)
  tops = fold-roll-Number (List FeatureNo) tops_node

  reads : (x : Number-F Number) → reads_of (roll-Number x) ≡ reads_node (map-Number Number (List Read) reads_of x)
  reads = fold-roll-Number (List Read) reads_node

  operands : (x : Number-F Number) (l r : ToldNumber) → tops_of (roll-Number x) ≡ tops_of l.0 ++ tops_of r.0 → reads_of (roll-Number x) ≡ reads_of l.0 ++ reads_of r.0
      → All (IsThere rows) (tops_of (roll-Number x)) → All (IsRead rows) (reads_of (roll-Number x))
      → IsTold (amount_is l.0) (quantity_is l.0) × IsTold (amount_is r.0) (quantity_is r.0)
  operands x l r t d there read =
      let ts = subst (λ (fs : List FeatureNo). All (IsThere rows) fs) t there in
      let ds = subst (λ (rs : List Read). All (IsRead rows) rs) d read in (
        l.1 (all_front (IsThere rows) (tops_of l.0) (tops_of r.0) ts) (all_front (IsRead rows) (reads_of l.0) (reads_of r.0) ds),
        r.1 (all_rest (IsThere rows) (tops_of l.0) (tops_of r.0) ts) (all_rest (IsRead rows) (reads_of l.0) (reads_of r.0) ds),
      )

  number_node : (y : Number-F ToldNumber) → NumberTold (roll-Number (map-Number ToldNumber Number (λ e. e.0) y))
  number_node (Number-F.Literal m) there read =
      let x = Number-F.Literal m in
      carried (amount_is (roll-Number x)) _ (quantity_is (roll-Number x)) _ (amount x) (quantity x) (record { plain = refl; value = refl })
  number_node (Number-F.Attr f key) there read =
      let x = Number-F.Attr f key in
      let one = subst (λ (rs : List Read). All (IsRead rows) rs) (reads x) read in
      let told = attribute_told f key (All-head (IsRead rows) (record { feature = f; key = key }) [] one).feature in
      carried (amount_is (roll-Number x)) _ (quantity_is (roll-Number x)) _ (amount x) (quantity x)
      (record { plain = told; value = ap (λ (z : ℤ). z *ℤ pos 1000000) told })
  number_node (Number-F.Sum top key) there read =
      let x = Number-F.Sum top key in
      let one = subst (λ (fs : List FeatureNo). All (IsThere rows) fs) (tops x) there in
      let told = sum_told top key (All-head (IsThere rows) top [] one) in
      carried (amount_is (roll-Number x)) _ (quantity_is (roll-Number x)) _ (amount x) (quantity x)
      (record { plain = told; value = ap (λ (z : ℤ). z *ℤ pos 1000000) told })
  number_node (Number-F.Plus l r) there read =
      let x = Number-F.Plus l.0 r.0 in
      let parts = operands x l r (tops x) (reads x) there read in
      carried (amount_is (roll-Number x)) _ (quantity_is (roll-Number x)) _ (amount x) (quantity x)
      (record { plain = rw (parts.0.plain, parts.1.plain) refl; value = rw (parts.0.value, parts.1.value) refl })
  number_node (Number-F.Minus l r) there read =
      let x = Number-F.Minus l.0 r.0 in
      let parts = operands x l r (tops x) (reads x) there read in
      carried (amount_is (roll-Number x)) _ (quantity_is (roll-Number x)) _ (amount x) (quantity x)
      (record { plain = rw (parts.0.plain, parts.1.plain) refl; value = rw (parts.0.value, parts.1.value) refl })
  number_node (Number-F.Times l r) there read =
      let x = Number-F.Times l.0 r.0 in
      let parts = operands x l r (tops x) (reads x) there read in
      carried (amount_is (roll-Number x)) _ (quantity_is (roll-Number x)) _ (amount x) (quantity x)
      (record { plain = refl; value = rw (parts.0.plain, parts.1.plain) refl })

  number_told : (number : Number) → NumberTold number
  number_told = ind-Number NumberTold (λ x y is. subst (λ (z : Number-F Number). NumberTold (roll-Number z)) is (number_node y))

  value_told : (number : Number) → IsNumber rows number → (amount_is number).value ≡ value_by (heads_of_rows rows) (quantity_is number) set
  value_told number is = (number_told number is.tops is.reads).value

  -- ---- rules

  abbrev met : Rule → Bool
  met = rule_is_met rows.features marks

  -- a rule whose features are there, with numbers as a model may have them, is told
  abbrev RuleTold : Rule → Type 0
  RuleTold rule = All (IsThere rows) (features_of rule) → All (IsNumber rows) (numbers_of rule)
      → met rule ≡ holds_by (heads_of_rows rows) (constraint_of (feature_names rows) rule) set

  abbrev ToldRule : Type 0
  ToldRule = (rule : Rule) × RuleTold rule

  features : (x : Rule-F Rule) → features_of (roll-Rule x) ≡ features_node (map-Rule Rule (List FeatureNo) features_of x)
  features = fold-roll-Rule (List FeatureNo) features_node

  numbers : (x : Rule-F Rule) → numbers_of (roll-Rule x) ≡ numbers_node (map-Rule Rule (List Number) numbers_of x)
  numbers = fold-roll-Rule (List Number) numbers_node

  truth : (x : Rule-F Rule) → met (roll-Rule x) ≡ met_node rows.features marks (map-Rule Rule Bool met x)
  truth = fold-roll-Rule Bool (met_node rows.features marks)

  constraint : (x : Rule-F Rule)
      → constraint_of (feature_names rows) (roll-Rule x) ≡ constraint_node (feature_names rows) (map-Rule Rule Constraint (constraint_of (feature_names rows)) x)
  constraint = fold-roll-Rule Constraint (constraint_node (feature_names rows))

  both : (x : Rule-F Rule) (l r : ToldRule) → features_of (roll-Rule x) ≡ features_of l.0 ++ features_of r.0 → numbers_of (roll-Rule x) ≡ numbers_of l.0 ++ numbers_of r.0
      → All (IsThere rows) (features_of (roll-Rule x)) → All (IsNumber rows) (numbers_of (roll-Rule x))
      → (met l.0 ≡ holds_by (heads_of_rows rows) (constraint_of (feature_names rows) l.0) set)
      × (met r.0 ≡ holds_by (heads_of_rows rows) (constraint_of (feature_names rows) r.0) set)
  both x l r f n there number =
      let fs = subst (λ (fs : List FeatureNo). All (IsThere rows) fs) f there in
      let ns = subst (λ (ns : List Number). All (IsNumber rows) ns) n number in (
        l.1 (all_front (IsThere rows) (features_of l.0) (features_of r.0) fs) (all_front (IsNumber rows) (numbers_of l.0) (numbers_of r.0) ns),
        r.1 (all_rest (IsThere rows) (features_of l.0) (features_of r.0) fs) (all_rest (IsNumber rows) (numbers_of l.0) (numbers_of r.0) ns),
      )

  rule_node : (y : Rule-F ToldRule) → RuleTold (roll-Rule (map-Rule ToldRule Rule (λ e. e.0) y))
  rule_node (Rule-F.Feature f) there number =
      let x = Rule-F.Feature f in
      let one = subst (λ (fs : List FeatureNo). All (IsThere rows) fs) (features x) there in
      rw (truth x, constraint x) (feature_told rows marks set agree f (All-head (IsThere rows) f [] one))
  rule_node (Rule-F.Not operand) there number =
      let x = Rule-F.Not operand.0 in
      let fs = subst (λ (fs : List FeatureNo). All (IsThere rows) fs) (features x) there in
      let ns = subst (λ (ns : List Number). All (IsNumber rows) ns) (numbers x) number in
      rw (truth x, constraint x, operand.1 fs ns) refl
  rule_node (Rule-F.And l r) there number =
      let x = Rule-F.And l.0 r.0 in
      let parts = both x l r (features x) (numbers x) there number in
      rw (truth x, constraint x, parts.0, parts.1) refl
  rule_node (Rule-F.Or l r) there number =
      let x = Rule-F.Or l.0 r.0 in
      let parts = both x l r (features x) (numbers x) there number in
      rw (truth x, constraint x, parts.0, parts.1) refl
  rule_node (Rule-F.Implies l r) there number =
      let x = Rule-F.Implies l.0 r.0 in
      let parts = both x l r (features x) (numbers x) there number in
      rw (truth x, constraint x, parts.0, parts.1) refl
  rule_node (Rule-F.Iff l r) there number =
      let x = Rule-F.Iff l.0 r.0 in
      let parts = both x l r (features x) (numbers x) there number in
      rw (truth x, constraint x, parts.0, parts.1) refl
  rule_node (Rule-F.Compare how l r) there number =
      let x = Rule-F.Compare how l r in
      let two = subst (λ (ns : List Number). All (IsNumber rows) ns) (numbers x) number in
      let first = value_told l (All-head (IsNumber rows) l (r ∷ []) two) in
      let second = value_told r (All-head (IsNumber rows) r [] (All-tail (IsNumber rows) l (r ∷ []) two)) in
      rw (truth x, constraint x) (
      ap (λ (z : ℤ). compares (comparison_of how) z (amount_is r).value) first
      ∙ ap (λ (z : ℤ). compares (comparison_of how) (value_by (heads_of_rows rows) (quantity_is l) set) z) second
      )

  rule_told : (rule : Rule) → RuleTold rule
  rule_told = ind-Rule RuleTold (λ x y is. subst (λ (z : Rule-F Rule). RuleTold (roll-Rule z)) is (rule_node y))

  all_met : (rules : List Rule) → All (IsRule rows) rules
      → list_all met rules ≡ list_all (λ constraint. holds_by (heads_of_rows rows) constraint set) (map (constraint_of (feature_names rows)) rules)
  all_met [] is = refl
  all_met (rule ∷ rules) is =
      let first = All-head (IsRule rows) rule rules is in
      rw (rule_told rule first.features first.numbers, all_met rules (All-tail (IsRule rows) rule rules is)) refl

  -- every rule
  pub rules_met : list_all (rule_is_met rows.features marks) rows.rules ≡ rules_hold rows set
  rules_met = all_met rows.rules sound.rules
