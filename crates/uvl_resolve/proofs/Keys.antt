-- Attributes in which no key stands twice have lists of distinct keys.
use Rattle.std.proofs.Common.{◌≡◌, ℕ, ◌≤◌, ◌-◌, List, [], ◌∷◌, ◌++◌, map, Option, Some, None, Bool, true, false, refl, sym, ap, ◌∙◌, subst}
use Rattle.std.specs.List.{AllByRecursion, flat_map}
use Rattle.std.specs.Option.{option_or}
use Rattle.std.proofs.lemmas.List.{append_assoc, map-append}
use Rattle.std.proofs.lemmas.List.Elements.{All-from_recursion}
use Rattle.uvl_ast.specs.declared.feature.Attribute.{Attribute, out-Attribute, roll-Attribute}
use Rattle.uvl_ast.specs.declared.feature.AttrValue.{AttrValue, roll-AttrValue}
use Rattle.uvl_ast.specs.declared.feature.AttrValue.TheOpen.{AttrValue-F, Attribute-F}
use Rattle.uvl_ast.specs.declared.feature.AttrValue.TheFolds.{fold-AttrValue, fold-Attribute, fold-roll-AttrValue, fold-roll-Attribute, fold_out-Attribute, ind-AttrValue, map-AttrValue}
use Rattle.uvl_ast.specs.Keys as ast
use Rattle.uvl_ast.specs.Nesting.{nesting_of_attribute}
use Rattle.uvl_ast.specs.Texts.{AreQuotable, texts_of}
use Rattle.uvl_base.specs.declared.place.Place.{Place}
use Rattle.uvl_base.specs.Limits.{most_nesting}
use Rattle.uvl_imports.specs.Texts.{AreDistinct}
use Rattle.uvl_model.specs.Sound as sound
use Rattle.uvl_resolve.proofs.Distinct.{distinct-push, none_contained}
use Rattle.uvl_resolve.proofs.Parts.{all_parts, both_all}
use Rattle.uvl_scope.specs.Firsts.{first_along, first_of, when}
use Rattle.uvl_scope.specs.Keys.{Keyed, keyed, keyed_by, repeated_among, repeated_at, repeated_in, repeated_in_value, repeated_key}
use Rattle.uvl_semantics.specs.Product.{has}

-- none of two
pub neither_there : {A : Type 0} (a b : Option A) → option_or a b ≡ None → (a ≡ None) × (b ≡ None)
neither_there None b h = (refl, h)
neither_there (Some x) b h = absurd cc

pub never_when : {A : Type 0} (b : Bool) (x : A) → when b x ≡ None → b ≡ false
never_when false x h = refl
never_when true x h = absurd cc

abbrev key_of : Keyed → List ℕ
key_of k = k.key

abbrev HasNone : Keyed → Type 0
HasNone k = k.inside ≡ None

-- no key stands twice among those in front and these
keys_along : (front ks : List Keyed) → first_along repeated_at front ks ≡ None → AreDistinct (map key_of front)
    → AreDistinct (map key_of (front ++ ks)) × AllByRecursion HasNone ks
keys_along front [] none distinct = (subst (λ (xs : List Keyed). AreDistinct (map key_of xs)) (sym (append_nil front)) distinct, tt)
  where
    append_nil : (xs : List Keyed) → xs ++ [] ≡ xs
    append_nil [] = refl
    append_nil (x ∷ xs) = ap (λ (ys : List Keyed). x ∷ ys) (append_nil xs)
keys_along front (k ∷ ks) none distinct =
    let here = neither_there (repeated_at front k) (first_along repeated_at (front ++ k ∷ []) ks) none in
    let parts = neither_there (when (has (map key_of front) k.key) k.place) (option_or k.inside None) here.0 in
    let inside = neither_there k.inside None parts.1 in
    let new = never_when (has (map key_of front) k.key) k.place parts.0 in
    let longer : AreDistinct (map key_of (front ++ k ∷ [])) =
    subst AreDistinct (sym (map-append key_of front (k ∷ []))) (distinct-push (map key_of front) k.key distinct new) in
    let rest = keys_along (front ++ k ∷ []) ks here.1 longer in
    (subst (λ (xs : List Keyed). AreDistinct (map key_of xs)) (append_assoc front (k ∷ []) ks) rest.0, (inside.0, rest.1))

pub distinct_keys : (ks : List Keyed) → repeated_among ks ≡ None → AreDistinct (map key_of ks) × AllByRecursion HasNone ks
distinct_keys ks none = keys_along [] ks none tt

-- the lists of keys in a value
abbrev value_lists : AttrValue → List (List (List ℕ))
value_lists = fold-AttrValue (List (List (List ℕ))) ast.Keyed ast.value_keys ast.attribute_keys

abbrev ast_keyed : Attribute → ast.Keyed
ast_keyed = fold-Attribute (List (List (List ℕ))) ast.Keyed ast.value_keys ast.attribute_keys

abbrev ListsAreDistinct : List (List (List ℕ)) → Type 0
ListsAreDistinct lists = AllByRecursion sound.AreDistinct lists

abbrev CleanValue : AttrValue → Type 0
CleanValue value = repeated_in value ≡ None → ListsAreDistinct (value_lists value)

abbrev CleanAttribute : Attribute → Type 0
CleanAttribute attribute = (keyed attribute).inside ≡ None → ListsAreDistinct (ast.nested_keys attribute)

-- the key of an attribute
scope_key : (attribute : Attribute) → (keyed attribute).key ≡ (out-Attribute attribute).key
scope_key attribute = ap (λ (k : Keyed). k.key) (fold_out-Attribute (Option Place) Keyed repeated_in_value keyed_by attribute)

ast_key : (attribute : Attribute) → (ast_keyed attribute).key ≡ (out-Attribute attribute).key
ast_key attribute = ap (λ (k : ast.Keyed). k.key) (fold_out-Attribute (List (List (List ℕ))) ast.Keyed ast.value_keys ast.attribute_keys attribute)

-- keys of attributes are the same either way
same_keys : (attributes : List Attribute) → map key_of (map keyed attributes) ≡ map (λ (k : ast.Keyed). k.key) (map ast_keyed attributes)
same_keys [] = refl
same_keys (a ∷ attributes) =
    ap (λ (k : List ℕ). k ∷ map key_of (map keyed attributes)) (scope_key a ∙ sym (ast_key a))
    ∙ ap (λ (ks : List (List ℕ)). (ast_keyed a).key ∷ ks) (same_keys attributes)

out_keys : (attributes : List Attribute) → map key_of (map keyed attributes) ≡ map (λ (a : Attribute). (out-Attribute a).key) attributes
out_keys [] = refl
out_keys (a ∷ attributes) =
    ap (λ (k : List ℕ). k ∷ map key_of (map keyed attributes)) (scope_key a)
    ∙ ap (λ (ks : List (List ℕ)). (out-Attribute a).key ∷ ks) (out_keys attributes)

-- the lists in the values of attributes
within_lists : (attributes : List Attribute) → AllByRecursion CleanAttribute attributes → AllByRecursion HasNone (map keyed attributes)
    → ListsAreDistinct (flat_map (λ (k : ast.Keyed). k.within) (map ast_keyed attributes))
within_lists [] h none = tt
within_lists (a ∷ attributes) h none =
    both_all sound.AreDistinct (ast.nested_keys a) (flat_map (λ (k : ast.Keyed). k.within) (map ast_keyed attributes)) (h.0 none.0) (within_lists attributes h.1 none.1)

list_clean : (attributes : List Attribute) → AllByRecursion CleanAttribute attributes → repeated_among (map keyed attributes) ≡ None
    → ListsAreDistinct (map (λ (k : ast.Keyed). k.key) (map ast_keyed attributes) ∷ flat_map (λ (k : ast.Keyed). k.within) (map ast_keyed attributes))
list_clean attributes h none =
    let keys = distinct_keys (map keyed attributes) none in
    (subst sound.AreDistinct (same_keys attributes) (none_contained (map key_of (map keyed attributes)) keys.0), within_lists attributes h keys.1)

vector_clean : (values : List AttrValue) → AllByRecursion CleanValue values → first_of (map repeated_in values) ≡ None
    → AllByRecursion (λ value. ListsAreDistinct (value_lists value)) values
vector_clean [] h none = tt
vector_clean (v ∷ values) h none =
    let parts = neither_there (repeated_in v) (first_of (map repeated_in values)) none in
    (h.0 parts.0, vector_clean values h.1 parts.1)

module _ where
  abbrev CleanV : Type 0
  CleanV = (value : AttrValue) × CleanValue value

  abbrev CleanA : Type 0
  CleanA = (attribute : Attribute) × CleanAttribute attribute

  each_attribute : (ys : List CleanA) → AllByRecursion CleanAttribute (map (λ e. e.0) ys)
  each_attribute [] = tt
  each_attribute (y ∷ ys) = (y.1, each_attribute ys)

  each_value : (ys : List CleanV) → AllByRecursion CleanValue (map (λ e. e.0) ys)
  each_value [] = tt
  each_value (y ∷ ys) = (y.1, each_value ys)

  found_at : (x : AttrValue-F AttrValue Attribute) → repeated_in (roll-AttrValue x) ≡ repeated_in_value (map-AttrValue AttrValue Attribute (Option Place) Keyed repeated_in keyed x)
  found_at = fold-roll-AttrValue (Option Place) Keyed repeated_in_value keyed_by

  lists_at : (x : AttrValue-F AttrValue Attribute) → value_lists (roll-AttrValue x) ≡ ast.value_keys (map-AttrValue AttrValue Attribute (List (List (List ℕ))) ast.Keyed value_lists ast_keyed x)
  lists_at = fold-roll-AttrValue (List (List (List ℕ))) ast.Keyed ast.value_keys ast.attribute_keys

  value_node : (y : AttrValue-F CleanV CleanA) → CleanValue (roll-AttrValue (map-AttrValue CleanV CleanA AttrValue Attribute (λ e. e.0) (λ e. e.0) y))
  value_node AttrValue-F.Yes none = subst ListsAreDistinct (sym (lists_at AttrValue-F.Yes)) tt
  value_node AttrValue-F.No none = subst ListsAreDistinct (sym (lists_at AttrValue-F.No)) tt
  value_node (AttrValue-F.Number n) none = subst ListsAreDistinct (sym (lists_at (AttrValue-F.Number n))) tt
  value_node (AttrValue-F.Words t) none = subst ListsAreDistinct (sym (lists_at (AttrValue-F.Words t))) tt
  value_node (AttrValue-F.List ys) none =
      let attributes = map (λ (e : CleanA). e.0) ys in
      subst ListsAreDistinct (sym (lists_at (AttrValue-F.List attributes))) (list_clean attributes (each_attribute ys) (sym (found_at (AttrValue-F.List attributes)) ∙ none))
  value_node (AttrValue-F.Vector ys) none =
      let values = map (λ (e : CleanV). e.0) ys in
      subst ListsAreDistinct (sym (lists_at (AttrValue-F.Vector values)))
      (all_parts sound.AreDistinct value_lists values (vector_clean values (each_value ys) (sym (found_at (AttrValue-F.Vector values)) ∙ none)))

  attribute_node : (x : Attribute-F AttrValue Attribute) (value : CleanV) → value.0 ≡ x.value → CleanAttribute (roll-Attribute x)
  attribute_node x value is none =
      let inside : repeated_in x.value ≡ None = sym (ap (λ (k : Keyed). k.inside) (fold-roll-Attribute (Option Place) Keyed repeated_in_value keyed_by x)) ∙ none in
      subst ListsAreDistinct
      (ap value_lists is ∙ sym (ap (λ (k : ast.Keyed). k.within) (fold-roll-Attribute (List (List (List ℕ))) ast.Keyed ast.value_keys ast.attribute_keys x)))
      (value.1 (ap repeated_in is ∙ inside))

  clean_value : (value : AttrValue) → CleanValue value
  clean_value = ind-AttrValue CleanValue CleanAttribute
      (λ x y is. subst (λ (z : AttrValue-F AttrValue Attribute). CleanValue (roll-AttrValue z)) is (value_node y))
      (λ x y is. attribute_node x y.value (ap (λ (z : Attribute-F AttrValue Attribute). z.value) is))

  clean_attribute : (attribute : Attribute) → CleanAttribute attribute
  clean_attribute attribute none =
      let value = (out-Attribute attribute).value in
      let inside : repeated_in value ≡ None = sym (ap (λ (k : Keyed). k.inside) (fold_out-Attribute (Option Place) Keyed repeated_in_value keyed_by attribute)) ∙ none in
      subst ListsAreDistinct (sym (ap (λ (k : ast.Keyed). k.within) (fold_out-Attribute (List (List (List ℕ))) ast.Keyed ast.value_keys ast.attribute_keys attribute)))
      (clean_value value inside)

-- an attribute whose texts can be quoted and whose values nest no deeper than the limit
abbrev pub IsTidy : Attribute → Type 0
IsTidy attribute = AreQuotable (texts_of attribute) × (nesting_of_attribute attribute ≤ most_nesting - 1)

pub tidied : (attributes : List Attribute) → repeated_key attributes ≡ None → AllByRecursion IsTidy attributes → sound.AreAttributes attributes
tidied attributes none tidy =
    let keys = distinct_keys (map keyed attributes) none in
    record {
      keys = All-from_recursion sound.AreDistinct (ast.key_lists attributes)
          (subst sound.AreDistinct (out_keys attributes) (none_contained (map key_of (map keyed attributes)) keys.0), nested attributes keys.1);
      texts = All-from_recursion (λ (a : Attribute). AreQuotable (texts_of a)) attributes (first_of_each attributes tidy);
      nested = All-from_recursion (λ (a : Attribute). nesting_of_attribute a ≤ most_nesting - 1) attributes (second_of_each attributes tidy);
    }
  where
    nested : (attributes : List Attribute) → AllByRecursion HasNone (map keyed attributes) → ListsAreDistinct (flat_map ast.nested_keys attributes)
    nested [] none = tt
    nested (a ∷ attributes) none = both_all sound.AreDistinct (ast.nested_keys a) (flat_map ast.nested_keys attributes) (clean_attribute a none.0) (nested attributes none.1)

    first_of_each : (attributes : List Attribute) → AllByRecursion IsTidy attributes → AllByRecursion (λ (a : Attribute). AreQuotable (texts_of a)) attributes
    first_of_each [] h = tt
    first_of_each (a ∷ attributes) h = (h.0.0, first_of_each attributes h.1)

    second_of_each : (attributes : List Attribute) → AllByRecursion IsTidy attributes → AllByRecursion (λ (a : Attribute). nesting_of_attribute a ≤ most_nesting - 1) attributes
    second_of_each [] h = tt
    second_of_each (a ∷ attributes) h = (h.0.1, second_of_each attributes h.1)
