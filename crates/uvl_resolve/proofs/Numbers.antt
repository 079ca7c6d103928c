-- What a made number says, and that a model may have it.
use Rattle.std.proofs.Common.{◌≡◌, ℕ, ◌+◌, ◌*◌, ◌≤◌, List, [], ◌∷◌, ◌++◌, length, Option, Some, None, Bool, true, false, not, ◌&&◌, ◌||◌, refl, sym, ap, ◌∙◌, subst, arith}
use Rattle.std.specs.Prelude.{ℤ, slice_get}
use Rattle.std.specs.List.{All}
use Rattle.std.specs.Option.{is_none, option_map, option_or}
use Rattle.std.proofs.lemmas.Bool.{not-false, or_parts}
use Rattle.std.proofs.lemmas.List.Elements.{All-nil, All-cons, All-append}
use Rattle.uvl_ast.specs.declared.expression.BinOp.{BinOp}
use Rattle.uvl_ast.specs.declared.expression.BinOp.TheVariants as op
use Rattle.uvl_ast.specs.declared.expression.Expr.{Expr, roll-Expr}
use Rattle.uvl_ast.specs.declared.expression.Expr.TheOpen.{Expr-F}
use Rattle.uvl_ast.specs.declared.expression.Expr.TheFolds.{fold-roll-Expr, map-Expr}
use Rattle.uvl_ast.specs.declared.feature.Attribute.{Attribute}
use Rattle.uvl_ast.specs.declared.names.Ref.{Ref}
use Rattle.uvl_ast.specs.Nodes.{node_count, nodes_of}
use Rattle.uvl_base.specs.Limits.{most_features}
use Rattle.uvl_base.specs.declared.fault.FaultKind.TheVariants.{FactorTooLarge, NotLinear}
use Rattle.uvl_base.specs.declared.place.Place.{Place}
use Rattle.uvl_model.specs.declared.rows.FeatureNo.{FeatureNo}
use Rattle.uvl_model.specs.declared.rule.Number.{Number}
use Rattle.uvl_model.specs.declared.rule.Number.TheVariants as number
use Rattle.uvl_model.specs.Constraints.{quantity_of}
use Rattle.uvl_model.specs.Names.{feature_names, name_of}
use Rattle.uvl_model.specs.Rows.{Rows}
use Rattle.uvl_model.specs.Rules.{IsNumber, IsRead, IsThere, Read, reads_of, terms_of, tops_of}
use Rattle.uvl_model.specs.Rules as rules
use Rattle.uvl_model.specs.Spelling.{numbered}
use Rattle.uvl_model.proofs.NumberNodes as numbers
use Rattle.uvl_placing.specs.Meaning.{Meaning, meaning_of, meaning_with, of_operator}
use Rattle.uvl_placing.specs.Names.{dotted, front_of, last_of}
use Rattle.uvl_placing.specs.Options.{of_both}
use Rattle.uvl_resolve.specs.Under.{head_under, quantity_under}
use Rattle.uvl_resolve.specs.steps.Rules.{IsAmong, Made, StandAt, attributes_of_heads, both_of, made_with, names_of_heads, number_of, reckoned, reckoned_by, root_of, sum_of}
use Rattle.uvl_resolve.proofs.Among.{IsReadAt, attribute_found, few_below, first_there, name_at, read_there, there}
use Rattle.uvl_resolve.proofs.Keys.{neither_there, never_when}
use Rattle.uvl_resolve.proofs.RuleNodes as nodes
use Rattle.uvl_scope.specs.Firsts.{when}
use Rattle.uvl_scope.specs.LineFaults.{finding}
use Rattle.uvl_scope.specs.NumberFaults.{Part, fault_at, fault_of_number, fault_of_operator, fault_of_product, fault_within, is_not_linear, is_small, is_times, part_at, part_of}
use Rattle.uvl_scope.specs.Rules.{joins_truths}
use Rattle.uvl_semantics.specs.Constraint.{Quantity, literal, attribute, total, plus, minus, times}
use Rattle.uvl_semantics.specs.Tree.{Head}

some_same : {A : Type 0} {a b : A} → Some a ≡ Some b → a ≡ b
some_same {A} {a} {b} h = cc

-- a made number as products see it, against its expression
pub record IsAlike (made : rules.Factor) (product : Bool) (literal : Option ℤ) : Type 0 where
  pub linear : made.is_linear ≡ true
  pub has_product : made.has_product ≡ product
  pub small : made.is_small_literal ≡ is_small literal

abbrev IsAlikeTo : rules.Factor → Part → Type 0
IsAlikeTo made part = IsAlike made part.factor.product part.factor.literal

-- a model of these rows may have a made number of an expression with so many nodes
pub record MayBe (rows : Rows) (nodes : ℕ) (made : Number) : Type 0 where
  pub tops : All (IsThere rows) (tops_of made)
  pub reads : All (IsRead rows) (reads_of made)
  pub light : terms_of rows made ≤ most_features * nodes

module _ (heads : List Head) (offset : ℕ) (some : 1 ≤ length heads) where
  abbrev names : List (List ℕ)
  names = names_of_heads heads

  abbrev attributes : List (List Attribute)
  attributes = attributes_of_heads heads

  abbrev root : List ℕ
  root = root_of heads

  -- what a number that is made of an expression says
  pub record ReadsNumber (e : Expr) : Type 0 where
    pub made : Number
    pub is : number_of names offset e ≡ Some made
    pub said : Quantity
    pub says : (meaning_of root e).number ≡ Some said
    pub read : (all : List Head) (text : List ℕ) → StandAt all offset text heads → quantity_of (names_of_heads all) made ≡ quantity_under text said
    pub may_be : (rows : Rows) (text : List ℕ) → IsAmong rows offset text heads → MayBe rows (nodes_of e) made
    pub alike : IsAlikeTo (nodes.factor_of made) (part_of names attributes e)

  -- of an expression with which nothing is wrong where a number is needed
  abbrev pub NumberIsRead : Expr → Type 0
  NumberIsRead e = fault_within names attributes e false ≡ None → ReadsNumber e

  both_at : (x : Expr-F Expr) → both_of names offset (roll-Expr x) ≡ made_with names offset (map-Expr Expr Made (both_of names offset) x)
  both_at = fold-roll-Expr Made (made_with names offset)

  number_at : (x : Expr-F Expr) → number_of names offset (roll-Expr x) ≡ (made_with names offset (map-Expr Expr Made (both_of names offset) x)).number
  number_at x = ap (λ (m : Made). m.number) (both_at x)

  quantity_at : (x : Expr-F Expr) → (meaning_of root (roll-Expr x)).number ≡ (meaning_with root (map-Expr Expr Meaning (meaning_of root) x)).number
  quantity_at x = ap (λ (m : Meaning). m.number) (fold-roll-Expr Meaning (meaning_with root) x)

  pub nodes_at : (x : Expr-F Expr) → nodes_of (roll-Expr x) ≡ node_count (map-Expr Expr ℕ nodes_of x)
  nodes_at = fold-roll-Expr ℕ node_count

  part_here : (x : Expr-F Expr) → part_of names attributes (roll-Expr x) ≡ part_at names attributes (map-Expr Expr Part (part_of names attributes) x)
  part_here x = fold-roll-Expr Part (part_at names attributes) x

  pub fault_here : (x : Expr-F Expr) (boolean : Bool)
      → fault_within names attributes (roll-Expr x) boolean ≡ fault_at names attributes (map-Expr Expr Part (part_of names attributes) x) boolean
  fault_here x boolean = ap (λ (p : Part). p.fault boolean) (part_here x)

  product_here : (x : Expr-F Expr)
      → (part_of names attributes (roll-Expr x)).factor.product ≡ (part_at names attributes (map-Expr Expr Part (part_of names attributes) x)).factor.product
  product_here x = ap (λ (p : Part). p.factor.product) (part_here x)

  literal_here : (x : Expr-F Expr)
      → (part_of names attributes (roll-Expr x)).factor.literal ≡ (part_at names attributes (map-Expr Expr Part (part_of names attributes) x)).factor.literal
  literal_here x = ap (λ (p : Part). p.factor.literal) (part_here x)

  -- the same number may be there
  may_of : (rows : Rows) (n : ℕ) (made : Number) (tops : List FeatureNo) (reads : List Read) (terms : ℕ) → tops_of made ≡ tops → reads_of made ≡ reads → terms_of rows made ≡ terms
      → All (IsThere rows) tops → All (IsRead rows) reads → terms ≤ most_features * n → MayBe rows n made
  may_of rows n made tops reads terms t r c have_tops have_reads few = record {
    tops = subst (All (IsThere rows)) (sym t) have_tops;
    reads = subst (All (IsRead rows)) (sym r) have_reads;
    light = omega (arith, c, few);
  }

  -- a literal
  literal_read : (value : ℤ) (place : Place) → NumberIsRead (roll-Expr (Expr-F.Number value place))
  literal_read value place none =
      let x : Expr-F Expr = Expr-F.Number value place in
      record {
        made = number.Literal value;
        is = number_at x;
        said = literal value;
        says = quantity_at x;
        read = λ all text stands. nodes.quantity-Literal (names_of_heads all) value;
        may_be = λ rows text among.
            may_of rows (nodes_of (roll-Expr x)) (number.Literal value) [] [] 1 (nodes.tops-Literal value) (nodes.reads-Literal value) (numbers.terms-Literal rows value)
            (All-nil (IsThere rows)) (All-nil (IsRead rows)) (omega (arith, nodes_at x));
        alike = record {
          linear = ap (λ (f : rules.Factor). f.is_linear) (nodes.factor-Literal value);
          has_product = ap (λ (f : rules.Factor). f.has_product) (nodes.factor-Literal value) ∙ sym (product_here x);
          small = ap (λ (f : rules.Factor). f.is_small_literal) (nodes.factor-Literal value) ∙ sym (ap is_small (literal_here x));
        };
      }

  -- an attribute of a feature
  attribute_read : (x : Expr-F Expr) (name next : List ℕ) (parts : List (List ℕ)) (place : Place) → x ≡ Expr-F.Name (record { parts = name ∷ next ∷ parts; place = place })
      → IsReadAt (dotted (front_of (name ∷ next ∷ parts))) (last_of (next ∷ parts)) heads → ReadsNumber (roll-Expr x)
  attribute_read x name next parts place is h =
      let whole : List (List ℕ) = name ∷ next ∷ parts in
      let key = last_of (next ∷ parts) in
      let k = h.found.number in
      let own : Expr-F Expr = Expr-F.Name (record { parts = whole; place = place }) in
      let made : Number = number.Attr (numbered (offset + k)) key in
      let reads : ReadsNumber (roll-Expr own) = record {
        made = made;
        is = number_at own ∙ ap (option_map (λ (n : ℕ). number.Attr (numbered (offset + n)) key)) h.found.first;
        said = attribute (dotted (front_of whole)) key;
        says = quantity_at own;
        read = λ all text stands.
            nodes.quantity-Attr (names_of_heads all) (numbered (offset + k)) key
            ∙ ap (λ (n : List ℕ). attribute n key)
            (name_at all (offset + k) (head_under text h.found.head) (stands k h.found.head h.found.at) ∙ ap (λ (n : List ℕ). text ++ n) h.found.named);
        may_be = λ rows text among.
            may_of rows (nodes_of (roll-Expr own)) made [] (record { feature = numbered (offset + k); key = key } ∷ []) 1
            (nodes.tops-Attr (numbered (offset + k)) key) (nodes.reads-Attr (numbered (offset + k)) key) (numbers.terms-Attr rows (numbered (offset + k)) key)
            (All-nil (IsThere rows))
            (All-cons (IsRead rows) (record { feature = numbered (offset + k); key = key }) [] (read_there rows offset text heads among (dotted (front_of whole)) key h) (All-nil (IsRead rows)))
            (omega (arith, nodes_at own));
        alike = record {
          linear = ap (λ (f : rules.Factor). f.is_linear) (nodes.factor-Attr (numbered (offset + k)) key);
          has_product = ap (λ (f : rules.Factor). f.has_product) (nodes.factor-Attr (numbered (offset + k)) key) ∙ sym (product_here own);
          small = ap (λ (f : rules.Factor). f.is_small_literal) (nodes.factor-Attr (numbered (offset + k)) key) ∙ sym (ap is_small (literal_here own));
        };
      } in
      subst (λ (y : Expr-F Expr). ReadsNumber (roll-Expr y)) (sym is) reads

  reference_read : (reference : Ref) (parts : List (List ℕ)) (place : Place) → reference ≡ record { parts = parts; place = place }
      → fault_of_number names attributes parts place ≡ None → ReadsNumber (roll-Expr (Expr-F.Name reference))
  reference_read reference [] place is none = absurd cc
  reference_read reference (name ∷ []) place is none = absurd cc
  reference_read reference (name ∷ next ∷ parts) place is none =
      attribute_read (Expr-F.Name reference) name next parts place (ap (λ (r : Ref). Expr-F.Name r) is)
      (attribute_found (dotted (front_of (name ∷ next ∷ parts))) (last_of (next ∷ parts)) place heads none)

  name_read : (reference : Ref) → NumberIsRead (roll-Expr (Expr-F.Name reference))
  name_read reference none =
      reference_read reference reference.parts reference.place refl (sym (fault_here (Expr-F.Name reference) false) ∙ none)

  -- the sum over the file's features
  sum_made : (hs : List Head) (key : List ℕ) → 1 ≤ length hs → sum_of (names_of_heads hs) offset key ≡ Some (number.Sum (numbered offset) key)
  sum_made [] key one = absurd (omega (arith, one))
  sum_made (head ∷ hs) key one = refl

  sum_read : (key : List ℕ) (place : Place) → NumberIsRead (roll-Expr (Expr-F.Sum key place))
  sum_read key place none =
      let x : Expr-F Expr = Expr-F.Sum key place in
      let top = first_there heads some in
      let made : Number = number.Sum (numbered offset) key in
      let here : offset + 0 ≡ offset = omega arith in
      record {
        made = made;
        is = number_at x ∙ sum_made heads key some;
        said = total root key;
        says = quantity_at x;
        read = λ all text stands.
            nodes.quantity-Sum (names_of_heads all) (numbered offset) key
            ∙ ap (λ (n : List ℕ). total n key)
            (name_at all offset (head_under text top.0) (ap (slice_get all) (sym here) ∙ stands 0 top.0 top.1) ∙ ap (λ (n : List ℕ). text ++ n) (sym top.2));
        may_be = λ rows text among.
            may_of rows (nodes_of (roll-Expr x)) made (numbered offset ∷ []) [] (terms_of rows made) (numbers.tops-Sum (numbered offset) key) (nodes.reads-Sum (numbered offset) key) refl
            (All-cons (IsThere rows) (numbered offset) [] (subst (λ (n : ℕ). IsThere rows (numbered n)) here (there rows offset text heads among 0 top.0 top.1)) (All-nil (IsThere rows)))
            (All-nil (IsRead rows))
            (omega (arith, nodes_at x, numbers.terms-Sum rows (numbered offset) key, few_below rows offset text heads among (name_of (feature_names rows) (numbered offset))));
        alike = record {
          linear = ap (λ (f : rules.Factor). f.is_linear) (nodes.factor-Sum (numbered offset) key);
          has_product = ap (λ (f : rules.Factor). f.has_product) (nodes.factor-Sum (numbered offset) key) ∙ sym (product_here x);
          small = ap (λ (f : rules.Factor). f.is_small_literal) (nodes.factor-Sum (numbered offset) key) ∙ sym (ap is_small (literal_here x));
        };
      }

  -- what an operator makes of two numbers, and what it says
  record Reckons (o : BinOp) (make : Number → Number → Number) (say : Quantity → Quantity → Quantity) : Type 0 where
    makes : (left right : Number) → reckoned_by o left right ≡ Some (make left right)
    says : (left right : Meaning) → (of_operator o left right).number ≡ of_both say left.number right.number
    reads : (all : List (List ℕ)) (left right : Number) → quantity_of all (make left right) ≡ say (quantity_of all left) (quantity_of all right)
    under : (text : List ℕ) (left right : Quantity) → quantity_under text (say left right) ≡ say (quantity_under text left) (quantity_under text right)
    tops : (left right : Number) → tops_of (make left right) ≡ tops_of left ++ tops_of right
    attributes_read : (left right : Number) → reads_of (make left right) ≡ reads_of left ++ reads_of right
    terms : (rows : Rows) (left right : Number) → terms_of rows (make left right) ≡ terms_of rows left + terms_of rows right
    joins : joins_truths o ≡ false
    factors : (left right : Number) (l r : Part) (place : Place) → IsAlikeTo (nodes.factor_of left) l → IsAlikeTo (nodes.factor_of right) r
        → fault_of_operator o l.factor r.factor place false ≡ None
        → IsAlike (nodes.factor_of (make left right)) (is_times o || r.factor.product || l.factor.product) None

  -- an operator that makes a number
  reckoned_read : (o : BinOp) (make : Number → Number → Number) (say : Quantity → Quantity → Quantity) → Reckons o make say
      → (left right : (e : Expr) × NumberIsRead e) (place : Place) → NumberIsRead (roll-Expr (Expr-F.Binary o left.0 right.0 place))
  reckoned_read o make say by left right place none =
      let x : Expr-F Expr = Expr-F.Binary o left.0 right.0 place in
      let lp = part_of names attributes left.0 in
      let rp = part_of names attributes right.0 in
      let parts = neither_there (lp.fault (joins_truths o)) (option_or (fault_of_operator o lp.factor rp.factor place false) (rp.fault (joins_truths o))) (sym (fault_here x false) ∙ none) in
      let behind = neither_there (fault_of_operator o lp.factor rp.factor place false) (rp.fault (joins_truths o)) parts.1 in
      let l = left.1 (ap lp.fault (sym by.joins) ∙ parts.0) in
      let r = right.1 (ap rp.fault (sym by.joins) ∙ behind.1) in
      record {
        made = make l.made r.made;
        is = number_at x ∙ ap (λ (n : Option Number). reckoned o n (number_of names offset right.0)) l.is ∙ ap (reckoned o (Some l.made)) r.is ∙ by.makes l.made r.made;
        said = say l.said r.said;
        says = quantity_at x ∙ by.says (meaning_of root left.0) (meaning_of root right.0)
            ∙ ap (λ (q : Option Quantity). of_both say q (meaning_of root right.0).number) l.says ∙ ap (of_both say (Some l.said)) r.says;
        read = λ all text stands.
            by.reads (names_of_heads all) l.made r.made
            ∙ ap (λ (q : Quantity). say q (quantity_of (names_of_heads all) r.made)) (l.read all text stands)
            ∙ ap (say (quantity_under text l.said)) (r.read all text stands)
            ∙ sym (by.under text l.said r.said);
        may_be = λ rows text among.
            let lm = l.may_be rows text among in
            let rm = r.may_be rows text among in
            may_of rows (nodes_of (roll-Expr x)) (make l.made r.made) (tops_of l.made ++ tops_of r.made) (reads_of l.made ++ reads_of r.made) (terms_of rows l.made + terms_of rows r.made)
            (by.tops l.made r.made) (by.attributes_read l.made r.made) (by.terms rows l.made r.made)
            (All-append (IsThere rows) (tops_of l.made) (tops_of r.made) lm.tops rm.tops)
            (All-append (IsRead rows) (reads_of l.made) (reads_of r.made) lm.reads rm.reads) (omega (arith, lm.light, rm.light, nodes_at x));
        alike = subst (λ (p : Part). IsAlikeTo (nodes.factor_of (make l.made r.made)) p) (sym (part_here x))
            (by.factors l.made r.made lp rp place l.alike r.alike behind.0);
      }

  or_swap : (a b : Bool) → (a || b) ≡ (b || a)
  or_swap true true = refl
  or_swap true false = refl
  or_swap false true = refl
  or_swap false false = refl

  -- a sum and a difference
  plain_factors : (made : rules.Factor) (left right : rules.Factor) (l r : Part) → made ≡ rules.joined_factors left right → IsAlikeTo left l → IsAlikeTo right r
      → IsAlike made (r.factor.product || l.factor.product) None
  plain_factors made left right l r is a b = record {
    linear = ap (λ (f : rules.Factor). f.is_linear) is ∙ ap (λ (t : Bool). t && right.is_linear) a.linear ∙ b.linear;
    has_product = ap (λ (f : rules.Factor). f.has_product) is ∙ or_swap left.has_product right.has_product
        ∙ ap (λ (t : Bool). t || left.has_product) b.has_product ∙ ap (λ (t : Bool). r.factor.product || t) a.has_product;
    small = ap (λ (f : rules.Factor). f.is_small_literal) is;
  }

  -- a product with which nothing is wrong has no product in it, and a small literal
  product_parts : (l r : Part) (place : Place) → fault_of_product l.factor r.factor place ≡ None
      → (l.factor.product ≡ false) × (r.factor.product ≡ false) × ((is_small l.factor.literal || is_small r.factor.literal) ≡ true)
  product_parts l r place none =
      let parts = neither_there (when (is_not_linear l.factor r.factor) (finding NotLinear place)) _ none in
      let small = neither_there (when (not (is_small l.factor.literal || is_small r.factor.literal)) (finding FactorTooLarge place)) None parts.1 in
      let outer = or_parts (l.factor.product || r.factor.product) (is_none l.factor.literal && is_none r.factor.literal) (never_when (is_not_linear l.factor r.factor) (finding NotLinear place) parts.0) in
      let inner = or_parts l.factor.product r.factor.product outer.0 in (
        inner.0,
        inner.1,
        not-false (is_small l.factor.literal || is_small r.factor.literal)
            (never_when (not (is_small l.factor.literal || is_small r.factor.literal)) (finding FactorTooLarge place) small.0),
      )

  times_factors : (left right : Number) (l r : Part) (place : Place) → IsAlikeTo (nodes.factor_of left) l → IsAlikeTo (nodes.factor_of right) r
      → fault_of_product l.factor r.factor place ≡ None → IsAlike (nodes.factor_of (number.Times left right)) true None
  times_factors left right l r place a b none =
      let parts = product_parts l r place none in
      let is = numbers.factor-Times left right in
      let lf = nodes.factor_of left in
      let rf = nodes.factor_of right in
      record {
        linear = ap (λ (f : rules.Factor). f.is_linear) is
            ∙ ap (λ (t : Bool). not (t || rf.has_product) && (lf.is_small_literal || rf.is_small_literal)) (a.has_product ∙ parts.0)
            ∙ ap (λ (t : Bool). not t && (lf.is_small_literal || rf.is_small_literal)) (b.has_product ∙ parts.1)
            ∙ ap (λ (t : Bool). t || rf.is_small_literal) a.small ∙ ap (λ (t : Bool). is_small l.factor.literal || t) b.small ∙ parts.2;
        has_product = ap (λ (f : rules.Factor). f.has_product) is;
        small = ap (λ (f : rules.Factor). f.is_small_literal) is;
      }

  -- another operator makes no number
  none_reckoned : (o : BinOp) (left right : Expr) (place : Place) → ((l r : Part) (p : Place) → fault_of_operator o l.factor r.factor p false ≡ None → ⊥)
      → NumberIsRead (roll-Expr (Expr-F.Binary o left right place))
  none_reckoned o left right place wrong none =
      let x : Expr-F Expr = Expr-F.Binary o left right place in
      let lp = part_of names attributes left in
      let rp = part_of names attributes right in
      let parts = neither_there (lp.fault (joins_truths o)) (option_or (fault_of_operator o lp.factor rp.factor place false) (rp.fault (joins_truths o))) (sym (fault_here x false) ∙ none) in
      absurd (wrong lp rp place (neither_there (fault_of_operator o lp.factor rp.factor place false) (rp.fault (joins_truths o)) parts.1).0)

  binary_read : (o : BinOp) (left right : (e : Expr) × NumberIsRead e) (place : Place) → NumberIsRead (roll-Expr (Expr-F.Binary o left.0 right.0 place))
  binary_read op.Plus left right place = reckoned_read op.Plus number.Plus plus (record {
    makes = λ l r. refl;
    says = λ l r. refl;
    reads = nodes.quantity-Plus;
    under = λ t l r. refl;
    tops = numbers.tops-Plus;
    attributes_read = numbers.reads-Plus;
    terms = numbers.terms-Plus;
    joins = refl;
    factors = λ left right l r place a b none.
        plain_factors (nodes.factor_of (number.Plus left right)) (nodes.factor_of left) (nodes.factor_of right) l r (numbers.factor-Plus left right) a b;
  }) left right place
  binary_read op.Minus left right place = reckoned_read op.Minus number.Minus minus (record {
    makes = λ l r. refl;
    says = λ l r. refl;
    reads = nodes.quantity-Minus;
    under = λ t l r. refl;
    tops = numbers.tops-Minus;
    attributes_read = numbers.reads-Minus;
    terms = numbers.terms-Minus;
    joins = refl;
    factors = λ left right l r place a b none.
        plain_factors (nodes.factor_of (number.Minus left right)) (nodes.factor_of left) (nodes.factor_of right) l r (numbers.factor-Minus left right) a b;
  }) left right place
  binary_read op.Times left right place = reckoned_read op.Times number.Times times (record {
    makes = λ l r. refl;
    says = λ l r. refl;
    reads = nodes.quantity-Times;
    under = λ t l r. refl;
    tops = numbers.tops-Times;
    attributes_read = numbers.reads-Times;
    terms = numbers.terms-Times;
    joins = refl;
    factors = λ left right l r place a b none.
        times_factors left right l r place a b (neither_there (fault_of_product l.factor r.factor place) None none).0;
  }) left right place
  binary_read op.And left right place = none_reckoned op.And left.0 right.0 place (λ l r p h. (cc h))
  binary_read op.Or left right place = none_reckoned op.Or left.0 right.0 place (λ l r p h. (cc h))
  binary_read op.Implies left right place = none_reckoned op.Implies left.0 right.0 place (λ l r p h. (cc h))
  binary_read op.Iff left right place = none_reckoned op.Iff left.0 right.0 place (λ l r p h. (cc h))
  binary_read op.Equal left right place = none_reckoned op.Equal left.0 right.0 place (λ l r p h. (cc h))
  binary_read op.Differs left right place = none_reckoned op.Differs left.0 right.0 place (λ l r p h. (cc h))
  binary_read op.Less left right place = none_reckoned op.Less left.0 right.0 place (λ l r p h. (cc h))
  binary_read op.AtMost left right place = none_reckoned op.AtMost left.0 right.0 place (λ l r p h. (cc h))
  binary_read op.Greater left right place = none_reckoned op.Greater left.0 right.0 place (λ l r p h. (cc h))
  binary_read op.AtLeast left right place = none_reckoned op.AtLeast left.0 right.0 place (λ l r p h. (cc h))

  -- a node, where the numbers of its operands are read
  pub number_node : (y : Expr-F ((e : Expr) × NumberIsRead e)) → NumberIsRead (roll-Expr (map-Expr ((e : Expr) × NumberIsRead e) Expr (λ e. e.0) y))
  number_node (Expr-F.Number value place) none = literal_read value place none
  number_node (Expr-F.Name reference) none = name_read reference none
  number_node (Expr-F.Sum key place) none = sum_read key place none
  number_node (Expr-F.Not operand place) none =
      let found = sym (fault_here (Expr-F.Not operand.0 place) false) ∙ none in absurd cc
  number_node (Expr-F.Binary operator left right place) none = binary_read operator left right place none

  -- a number that is read may be in a model
  pub is_number : (rows : Rows) (e : Expr) (h : ReadsNumber e) (text : List ℕ) → IsAmong rows offset text heads → IsNumber rows h.made
  is_number rows e h text among = record {
    tops = (h.may_be rows text among).tops;
    reads = (h.may_be rows text among).reads;
    linear = h.alike.linear;
  }
