-- What a number of a rule reads is among the rows of a model in which the features of its file stand.
use Rattle.std.proofs.Common.{◌≡◌, ℕ, zero, suc, ◌+◌, ◌≤◌, List, [], ◌∷◌, length, map, Option, Some, None, ◌++◌, ◌||◌, Bool, true, false, cond, refl, sym, ap, ◌∙◌, subst, arith}
use Rattle.std.specs.Prelude.{slice_get, position, unwrap_or, IsSome}
use Rattle.std.specs.Option.{option_map}
use Rattle.std.specs.Str.{bytes_eq}
use Rattle.std.proofs.lemmas.Bool.{false≢true, or_parts}
use Rattle.std.proofs.lemmas.List.{length-map}
use Rattle.std.proofs.lemmas.Option.{slice_get-map, slice_get_within}
use Rattle.std.proofs.lemmas.Slice.Eq.{bytes_eq-Decides}
use Rattle.uvl_ast.specs.declared.feature.Attribute.{Attribute}
use Rattle.uvl_ast.specs.declared.feature.AttrValue.{AttrValue, roll-AttrValue}
use Rattle.uvl_ast.specs.declared.feature.AttrValue.TheOpen.{AttrValue-F}
use Rattle.uvl_ast.specs.declared.feature.AttrValue.TheFolds.{ind-AttrValue}
use Rattle.uvl_base.specs.Limits.{most_features}
use Rattle.uvl_base.specs.declared.fault.FaultKind.TheVariants.{WrongSort}
use Rattle.uvl_base.specs.declared.place.Place.{Place}
use Rattle.uvl_imports.specs.Texts.{AreDistinct, has}
use Rattle.uvl_model.specs.declared.rows.FeatureRow.{FeatureRow}
use Rattle.uvl_model.specs.Heads.{head_of_row, heads_below_rows, marks_below}
use Rattle.uvl_model.specs.Names.{feature_names, name_of}
use Rattle.uvl_model.specs.Rows.{Rows}
use Rattle.uvl_model.specs.Rules.{IsRead, IsThere}
use Rattle.uvl_model.specs.Spelling.{numbered}
use Rattle.uvl_resolve.specs.Under.{head_under}
use Rattle.uvl_resolve.specs.steps.Rules.{IsAmong, attributes_of_heads, names_of_heads, root_of}
use Rattle.uvl_resolve.proofs.Targets.{position_next}
use Rattle.uvl_scope.specs.Firsts.{beside}
use Rattle.uvl_scope.specs.LineFaults.{finding}
use Rattle.uvl_scope.specs.NumberFaults.{fault_of_attribute, fault_of_value}
use Rattle.uvl_semantics.specs.Attributes.{attributes_of, number_among, number_of_key, number_of_value, value_of_key}
use Rattle.uvl_semantics.specs.Family.{marked}
use Rattle.uvl_semantics.specs.Tree.{Head}

-- ---- a name among names

-- a name that is there has a place, at which it stands
pub record IsFound (name : List ℕ) (heads : List Head) : Type 0 where
  pub number : ℕ
  pub head : Head
  pub at : slice_get heads number ≡ Some head
  pub named : head.name ≡ name
  pub first : position (bytes_eq name) (names_of_heads heads) ≡ Some number

found_first : (name : List ℕ) (head : Head) (heads : List Head) → bytes_eq name head.name ≡ true → IsFound name (head ∷ heads)
found_first name head heads e = record {
  number = 0;
  head = head;
  at = refl;
  named = sym ((bytes_eq-Decides name head.name).0 e);
  first = position_next (bytes_eq name) head.name (names_of_heads heads)
      ∙ ap (λ (t : Bool). cond t (Some 0) (option_map suc (position (bytes_eq name) (names_of_heads heads)))) e;
}

found_later : (name : List ℕ) (head : Head) (heads : List Head) → bytes_eq name head.name ≡ false → IsFound name heads → IsFound name (head ∷ heads)
found_later name head heads e h = record {
  number = suc h.number;
  head = h.head;
  at = h.at;
  named = h.named;
  first = position_next (bytes_eq name) head.name (names_of_heads heads)
      ∙ ap (λ (t : Bool). cond t (Some 0) (option_map suc (position (bytes_eq name) (names_of_heads heads)))) e
      ∙ ap (option_map suc) h.first;
}

pub name_found : (name : List ℕ) (heads : List Head) → has (names_of_heads heads) name ≡ true → IsFound name heads
name_found name [] h = absurd (false≢true h)
name_found name (head ∷ heads) h = by (name_found name heads) (bytes_eq name head.name) refl
  where
    by : (has (names_of_heads heads) name ≡ true → IsFound name heads) → (b : Bool) → bytes_eq name head.name ≡ b → IsFound name (head ∷ heads)
    by behind true e = found_first name head heads e
    by behind false e = found_later name head heads e (behind (sym (ap (λ (t : Bool). t || has (names_of_heads heads) name) e) ∙ h))

-- a number stands where one is needed and nothing is wrong
abbrev IsNumberWhereClean : AttrValue → Type 0
IsNumberWhereClean v = (place : Place) → fault_of_value (Some v) place ≡ None → IsSome (number_of_value (Some v))

-- another value is no number
no_number : {A : Type 0} (place : Place) → Some (finding WrongSort place) ≡ None → A
no_number place h = absurd cc

value_there : (x : AttrValue-F AttrValue Attribute) → IsNumberWhereClean (roll-AttrValue x)
unfolding roll-AttrValue denote.Hole.Carrier.roll
value_there (AttrValue-F.Number n) place h = refl
value_there AttrValue-F.Yes place h = no_number place h
value_there AttrValue-F.No place h = no_number place h
value_there (AttrValue-F.Words text) place h = no_number place h
value_there (AttrValue-F.List attributes) place h = no_number place h
value_there (AttrValue-F.Vector values) place h = no_number place h

every_value : (v : AttrValue) → IsNumberWhereClean v
every_value = ind-AttrValue IsNumberWhereClean (λ a. Unit {0}) (λ x y is. value_there x) (λ x y is. tt)

number_there : (v : Option AttrValue) (place : Place) → fault_of_value v place ≡ None → IsSome (number_of_value v)
number_there None place h = absurd cc
number_there (Some v) place h = every_value v place h

-- a feature that has a number under a key
pub record IsReadAt (name key : List ℕ) (heads : List Head) : Type 0 where
  pub found : IsFound name heads
  pub number : IsSome (number_of_key key found.head.attributes)

pub attribute_found : (name key : List ℕ) (place : Place) (heads : List Head)
    → fault_of_attribute (beside name (names_of_heads heads) (attributes_of_heads heads)) key place ≡ None → IsReadAt name key heads
unfolding found_later found_first
attribute_found name key place [] h = absurd cc
attribute_found name key place (head ∷ heads) h = by (attribute_found name key place heads) (bytes_eq name head.name) refl
  where
    rest : Option (List Attribute)
    rest = beside name (names_of_heads heads) (attributes_of_heads heads)

    by : (fault_of_attribute rest key place ≡ None → IsReadAt name key heads) → (b : Bool) → bytes_eq name head.name ≡ b → IsReadAt name key (head ∷ heads)
    by behind true e =
        let here : fault_of_value (value_of_key key head.attributes) place ≡ None =
        sym (ap (λ (t : Bool). fault_of_attribute (cond t (Some head.attributes) rest) key place) e) ∙ h in
        record { found = found_first name head heads e; number = number_there (value_of_key key head.attributes) place here }
    by behind false e =
        let later = behind
        (sym (ap (λ (t : Bool). fault_of_attribute (cond t (Some head.attributes) rest) key place) e) ∙ h) in
        record { found = found_later name head heads e later.found; number = later.number }

-- ---- among the rows of a model

-- the attributes of the one feature with a name
attributes_at : (all : List Head) (k : ℕ) (head : Head) → AreDistinct (names_of_heads all) → slice_get all k ≡ Some head → attributes_of head.name all ≡ head.attributes
attributes_at [] k head distinct h = absurd cc
attributes_at (first ∷ all) zero head distinct h =
    let same : first ≡ head = cc in
    ap (λ (t : Bool). cond t first.attributes (attributes_of head.name all)) ((bytes_eq-Decides first.name head.name).1 (ap (λ (x : Head). x.name) same))
    ∙ ap (λ (x : Head). x.attributes) same
attributes_at (first ∷ all) (suc k) head distinct h =
    ap (λ (t : Bool). cond t first.attributes (attributes_of head.name all)) (differs all k distinct.0 h) ∙ attributes_at all k head distinct.1 h
  where
    differs : (all : List Head) (k : ℕ) → has (names_of_heads all) first.name ≡ false → slice_get all k ≡ Some head → bytes_eq first.name head.name ≡ false
    differs [] k none h = absurd cc
    differs (x ∷ all) zero none h =
        let same : x ≡ head = cc in
        subst (λ (y : Head). bytes_eq first.name y.name ≡ false) same (or_parts (bytes_eq first.name x.name) (has (names_of_heads all) first.name) none).0
    differs (x ∷ all) (suc k) none h = differs all k (or_parts (bytes_eq first.name x.name) (has (names_of_heads all) first.name) none).1 h

-- the names of rows are those of their features
names_same : (rows : List FeatureRow) → map (λ (row : FeatureRow). row.name) rows ≡ names_of_heads (map head_of_row rows)
names_same [] = refl
names_same (row ∷ rows) = ap (λ (ns : List (List ℕ)). row.name ∷ ns) (names_same rows)

-- the name of a feature that is there
pub name_at : (all : List Head) (n : ℕ) (head : Head) → slice_get all n ≡ Some head → name_of (names_of_heads all) (numbered n) ≡ head.name
name_at all n head h =
    ap (λ (o : Option (List ℕ)). unwrap_or o []) (slice_get-map (λ (x : Head). x.name) all n ∙ ap (option_map (λ (x : Head). x.name)) h)

module _ (rows : Rows) (offset : ℕ) (text : List ℕ) (heads : List Head) (among : IsAmong rows offset text heads) where
  pub there : (k : ℕ) (head : Head) → slice_get heads k ≡ Some head → IsThere rows (numbered (offset + k))
  there k head h =
      omega (arith, slice_get_within (map head_of_row rows.features) (offset + k) (head_under text head) (among.stand k head h), length-map rows.features head_of_row)

  pub read_there : (name key : List ℕ) (h : IsReadAt name key heads) → IsRead rows (record { feature = numbered (offset + h.found.number); key = key })
  read_there name key h =
      let all : List Head = map head_of_row rows.features in
      let k = h.found.number in
      let head = h.found.head in
      let stands = among.stand k head h.found.at in
      let named : name_of (feature_names rows) (numbered (offset + k)) ≡ text ++ head.name =
      ap (λ (ns : List (List ℕ)). name_of ns (numbered (offset + k))) (names_same rows.features) ∙ name_at all (offset + k) (head_under text head) stands in
      let own : number_among all (name_of (feature_names rows) (numbered (offset + k))) key ≡ number_of_key key head.attributes =
      ap (λ (n : List ℕ). number_among all n key) named ∙ ap (number_of_key key) (attributes_at all (offset + k) (head_under text head) among.distinct stands) in
      record {
        feature = there k head h.found.at;
        number = subst (λ (o : Option _). IsSome o) (sym own) h.number;
      }

  -- no more features stand below one than are there
  pub few_below : (top : List ℕ) → length (heads_below_rows rows top) ≤ most_features
  few_below top =
      omega (arith, fewer (map head_of_row rows.features) (marks_below top [] rows.features), length-map rows.features head_of_row, among.few)
    where
      fewer : (items : List Head) (marks : List Bool) → length (marked items marks) ≤ length items
      fewer [] marks = omega arith
      fewer (item ∷ items) [] = omega arith
      fewer (item ∷ items) (true ∷ marks) = omega (arith, fewer items marks)
      fewer (item ∷ items) (false ∷ marks) = omega (arith, fewer items marks)

-- the first feature is the root
pub first_there : (heads : List Head) → 1 ≤ length heads → (head : Head) × (slice_get heads 0 ≡ Some head) × (root_of heads ≡ head.name)
first_there [] some = absurd (omega (arith, some))
first_there (head ∷ heads) some = (head, refl, refl)
