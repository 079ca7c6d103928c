-- The texts of a spelled tree of features are those of its tokens, and these can stand in single quotes.
use Rattle.std.specs.Prelude.{◌≡◌, ℕ, zero, suc, List, [], ◌∷◌, ◌++◌, map, Option, Some, IfSome, IsTrue, ℤ, neg_ℤ}
use Rattle.std.specs.List.{All, flat_map}
use Rattle.std.proofs.Common.{sym, ap, ◌∙◌, subst}
use Rattle.std.proofs.lemmas.List.Elements.{All-nil, All-cons, All-head, All-tail, All-append}
use Rattle.std.proofs.lemmas.Option.{same_Some, none-some}
use Rattle.uvl_lexer.specs.declared.token.Token.{Token}
use Rattle.uvl_lexer.specs.declared.token.TokenKind.{TokenKind}
use Rattle.uvl_lexer.specs.declared.token.TokenKind.TheVariants as token
use Rattle.uvl_lexer.specs.TokenList.{IsInner, AreInner, IsTokenList}
use Rattle.uvl_ast.specs.declared.feature.Attribute.{Attribute, roll-Attribute}
use Rattle.uvl_ast.specs.declared.feature.AttrValue.{AttrValue, roll-AttrValue}
use Rattle.uvl_ast.specs.declared.feature.AttrValue.TheVariants as value
use Rattle.uvl_ast.specs.declared.feature.AttrValue.TheOpen.{AttrValue-F, Attribute-F}
use Rattle.uvl_ast.specs.declared.feature.AttrValue.TheFolds.{fold-roll-AttrValue, fold-roll-Attribute}
use Rattle.uvl_ast.specs.declared.feature.Feature.{Feature, roll-Feature}
use Rattle.uvl_ast.specs.declared.feature.Feature.TheOpen.{Feature-F, Group-F}
use Rattle.uvl_ast.specs.declared.feature.Feature.TheFolds.{fold-roll-Feature, fold-roll-Group}
use Rattle.uvl_ast.specs.declared.feature.Group.{Group, roll-Group}
use Rattle.uvl_ast.specs.declared.file.File.{File}
use Rattle.uvl_ast.specs.Nesting.{feature_attributes, group_attributes, all_attributes, all_attributes_of_group}
use Rattle.uvl_ast.specs.Texts.{value_texts, attribute_texts, texts_of_value, texts_of, is_quotable, AreQuotable, EachTextIsQuotable}
use Rattle.uvl_grammar.specs.declared.entry.Entry.{Entry}
use Rattle.uvl_grammar.specs.declared.entry.Entry.TheVariants.{Plain, Rule, Rules}
use Rattle.uvl_grammar.specs.Braces.{attributes_of, rules_of, SpellsEntry, Attribute_entry, Constraint, Constraints, SpellsBraces, No_braces, Entries}
use Rattle.uvl_grammar.specs.Features.{SpellsGroup, Members, SpellsFeature, Line, FeatureWithin}
use Rattle.uvl_grammar.specs.File.{Spells, A_file}
use Rattle.uvl_grammar.specs.Sections.{SpellsFeatures, No_features, Root}
use Rattle.uvl_grammar.specs.Shapes.{Spelling, Repeated, None_more, One_more, OneOrMore, First, BehindComma, Comma, Separated, Nothing, Parts, Body, No_body, Indented}
use Rattle.uvl_grammar.specs.Tokens.{text_of}
use Rattle.uvl_grammar.specs.Values.{SpellsAttribute, Bare, Valued, Yes, No, Number, Negative, Words, Attributes, Vector, ValueWithin}

-- ---- tokens

-- the text that a token is, if it is one, can stand in single quotes
abbrev IsQuoted : Token → Type 0
IsQuoted t = (text : List ℕ) → text_of t.kind ≡ Some text → IsTrue (is_quotable text)

kind_quoted : (kind : TokenKind) → IsInner kind → (text : List ℕ) → text_of kind ≡ Some text → IsTrue (is_quotable text)
kind_quoted (token.Text words) inner text e = subst (λ (ws : List ℕ). IsTrue (is_quotable ws)) (same_Some words text e) inner
kind_quoted (token.Name name quoted) inner text e = absurd (none-some text e)
kind_quoted (token.Word w) inner text e = absurd (none-some text e)
kind_quoted (token.Number number whole) inner text e = absurd (none-some text e)
kind_quoted (token.Symbol s) inner text e = absurd (none-some text e)
kind_quoted token.Indent inner text e = absurd (none-some text e)
kind_quoted token.Dedent inner text e = absurd (none-some text e)
kind_quoted token.Newline inner text e = absurd (none-some text e)
kind_quoted token.Finish inner text e = absurd (none-some text e)

front_quoted : (ts : List Token) → AreInner ts → All IsQuoted ts
front_quoted [] inner = All-nil IsQuoted
front_quoted (t ∷ ts) inner = All-cons IsQuoted t ts (kind_quoted t.kind inner.0) (front_quoted ts inner.1)

-- so it is with each token of a list that ends the text
tokens_quoted : (tokens : List Token) → IsTokenList tokens → All IsQuoted tokens
tokens_quoted tokens list =
    let finish : IsQuoted list.end = λ text e. absurd (none-some text (sym (ap text_of list.finish) ∙ e)) in
    subst (λ (ts : List Token). All IsQuoted ts) (sym list.joined)
    (All-append IsQuoted list.front (list.end ∷ []) (front_quoted list.front list.inner) (All-cons IsQuoted list.end [] finish (All-nil IsQuoted)))

-- the front and the rest of a list
module _ {X : Type 0} (P : X → Type 0) where
  all_front : (xs ys : List X) → All P (xs ++ ys) → All P xs
  all_front [] ys h = All-nil P
  all_front (x ∷ xs) ys h = All-cons P x xs (All-head P x (xs ++ ys) h) (all_front xs ys (All-tail P x (xs ++ ys) h))

  all_rest : (xs ys : List X) → All P (xs ++ ys) → All P ys
  all_rest [] ys h = h
  all_rest (x ∷ xs) ys h = all_rest xs ys (All-tail P x (xs ++ ys) h)

-- ---- repeated parts

module _ {A : Type 0} (R : Spelling A) (P : A → Type 0) (each : (ts : List Token) (a : A) → All IsQuoted ts → R ts a → P a) where
  repeated_quoted : (ts : List Token) (items : List A) → All IsQuoted ts → Repeated R ts items → All P items
  repeated_quoted ts items h None_more = All-nil P
  repeated_quoted ts items h (One_more {xs} {ys} {a} {items = rest} r rs) =
      All-cons P a rest (each xs a (all_front IsQuoted xs ys h) r) (repeated_quoted ys rest (all_rest IsQuoted xs ys h) rs)

  one_or_more_quoted : (ts : List Token) (items : List A) → All IsQuoted ts → OneOrMore R ts items → All P items
  one_or_more_quoted ts items h (First {xs} {ys} {a} {items = rest} r rs) =
      All-cons P a rest (each xs a (all_front IsQuoted xs ys h) r) (repeated_quoted ys rest (all_rest IsQuoted xs ys h) rs)

  body_quoted : (ts : List Token) (items : List A) → All IsQuoted ts → Body R ts items → All P items
  body_quoted ts items h No_body = All-nil P
  body_quoted ts items h (Indented indent dedent {xs} opens parts closes) =
      one_or_more_quoted xs items (all_front IsQuoted xs (dedent ∷ []) (All-tail IsQuoted indent (xs ++ dedent ∷ []) h)) parts

comma_quoted : {A : Type 0} (R : Spelling A) (P : A → Type 0) (each : (ts : List Token) (a : A) → All IsQuoted ts → R ts a → P a)
    (ts : List Token) (a : A) → All IsQuoted ts → BehindComma R ts a → P a
comma_quoted R P each ts a h (Comma comma {xs} is r) = each xs a (All-tail IsQuoted comma xs h) r

separated_quoted : {A : Type 0} (R : Spelling A) (P : A → Type 0) (each : (ts : List Token) (a : A) → All IsQuoted ts → R ts a → P a)
    (ts : List Token) (items : List A) → All IsQuoted ts → Separated R ts items → All P items
separated_quoted R P each ts items h Nothing = All-nil P
separated_quoted R P each ts items h (Parts {xs} {ys} {a} {items = rest} r rs) =
    All-cons P a rest (each xs a (all_front IsQuoted xs ys h) r)
    (repeated_quoted (BehindComma R) P (comma_quoted R P each) ys rest (all_rest IsQuoted xs ys h) rs)

-- what stands between two tokens
between : (left right : Token) (xs : List Token) → All IsQuoted (left ∷ xs ++ right ∷ []) → All IsQuoted xs
between left right xs h = all_front IsQuoted xs (right ∷ []) (All-tail IsQuoted left (xs ++ right ∷ []) h)

-- what holds of all parts of each holds of the parts of all
flat_all : {A B : Type 0} (P : B → Type 0) (f : A → List B) (items : List A) → All (λ a. All P (f a)) items → All P (flat_map (λ parts. parts) (map f items))
flat_all P f [] each = All-nil P
flat_all P f (a ∷ items) each =
    All-append P (f a) (flat_map (λ parts. parts) (map f items)) (All-head (λ a. All P (f a)) a items each)
    (flat_all P f items (All-tail (λ a. All P (f a)) a items each))

-- ---- values

abbrev IsQuotable : List ℕ → Type 0
IsQuotable text = IsTrue (is_quotable text)

abbrev ValueQuotable : AttrValue → Type 0
ValueQuotable v = AreQuotable (texts_of_value v)

abbrev AttributeQuotable : Attribute → Type 0
AttributeQuotable a = AreQuotable (texts_of a)

abbrev Texts : Type 0
Texts = List (List ℕ)

-- a value made of a node has the texts of the node
of_node : (x : AttrValue-F AttrValue Attribute) (v : AttrValue) → roll-AttrValue x ≡ v → (texts : Texts) → texts_of_value (roll-AttrValue x) ≡ texts
    → AreQuotable texts → ValueQuotable v
of_node x v rolls texts e h = subst ValueQuotable rolls (subst (λ (ts : Texts). AreQuotable ts) (sym e) h)

yes_quoted : ValueQuotable value.Yes
yes_quoted =
    of_node AttrValue-F.Yes value.Yes value.rolls-Yes [] (fold-roll-AttrValue Texts Texts value_texts attribute_texts AttrValue-F.Yes) (All-nil IsQuotable)

no_quoted : ValueQuotable value.No
no_quoted =
    of_node AttrValue-F.No value.No value.rolls-No [] (fold-roll-AttrValue Texts Texts value_texts attribute_texts AttrValue-F.No) (All-nil IsQuotable)

number_quoted : (number : ℤ) → ValueQuotable (value.Number number)
number_quoted number =
    let x = AttrValue-F.Number number in
    of_node x (value.Number number) (value.rolls-Number number) [] (fold-roll-AttrValue Texts Texts value_texts attribute_texts x) (All-nil IsQuotable)

words_quoted : (text : List ℕ) → IsQuotable text → ValueQuotable (value.Words text)
words_quoted text h =
    let x = AttrValue-F.Words text in
    of_node x (value.Words text) (value.rolls-Words text) (text ∷ []) (fold-roll-AttrValue Texts Texts value_texts attribute_texts x)
    (All-cons IsQuotable text [] h (All-nil IsQuotable))

list_quoted : (attributes : List Attribute) → All AttributeQuotable attributes → ValueQuotable (value.List attributes)
list_quoted attributes h =
    let x = AttrValue-F.List attributes in
    of_node x (value.List attributes) (value.rolls-List attributes) (flat_map (λ texts. texts) (map texts_of attributes))
    (fold-roll-AttrValue Texts Texts value_texts attribute_texts x) (flat_all IsQuotable texts_of attributes h)

vector_quoted : (values : List AttrValue) → All ValueQuotable values → ValueQuotable (value.Vector values)
vector_quoted values h =
    let x = AttrValue-F.Vector values in
    of_node x (value.Vector values) (value.rolls-Vector values) (flat_map (λ texts. texts) (map texts_of_value values))
    (fold-roll-AttrValue Texts Texts value_texts attribute_texts x) (flat_all IsQuotable texts_of_value values h)

-- an attribute has the texts of its value
keyed_quoted : (r : Attribute-F AttrValue Attribute) → ValueQuotable r.value → AttributeQuotable (roll-Attribute r)
keyed_quoted r h = subst (λ (texts : Texts). AreQuotable texts) (sym (fold-roll-Attribute Texts Texts value_texts attribute_texts r)) h

attribute_quoted : (Value : Spelling AttrValue) → ((ts : List Token) (v : AttrValue) → All IsQuoted ts → Value ts v → ValueQuotable v)
    → (ts : List Token) (a : Attribute) → All IsQuoted ts → SpellsAttribute Value ts a → AttributeQuotable a
attribute_quoted Value each ts a h (Bare t {name} named) = keyed_quoted (record { key = name; value = value.Yes; place = t.place }) yes_quoted
attribute_quoted Value each ts a h (Valued t {name} {xs} {v} named r) =
    keyed_quoted (record { key = name; value = v; place = t.place }) (each xs v (All-tail IsQuoted t xs h) r)

value_quoted : (d : ℕ) (ts : List Token) (v : AttrValue) → All IsQuoted ts → ValueWithin d ts v → ValueQuotable v
value_quoted zero ts v h r = absurd r
value_quoted (suc d) ts v h (Yes t is) = yes_quoted
value_quoted (suc d) ts v h (No t is) = no_quoted
value_quoted (suc d) ts v h (Number t {number} is) = number_quoted number
value_quoted (suc d) ts v h (Negative minus t {number} is numbered) = number_quoted (neg_ℤ number)
value_quoted (suc d) ts v h (Words t {text} is) = words_quoted text (All-head IsQuoted t [] h text is)
value_quoted (suc d) ts v h (Attributes left right {xs} {attributes} opens r closes) =
    list_quoted attributes
    (separated_quoted (SpellsAttribute (ValueWithin d)) AttributeQuotable (attribute_quoted (ValueWithin d) (value_quoted d)) xs attributes (between left right xs h) r)
value_quoted (suc d) ts v h (Vector left right {xs} {vs} opens r closes) =
    vector_quoted vs (separated_quoted (ValueWithin d) ValueQuotable (value_quoted d) xs vs (between left right xs h) r)

-- ---- braces

abbrev EntryQuotable : Entry → Type 0
EntryQuotable (Plain a) = AttributeQuotable a
EntryQuotable (Rule e) = Unit {0}
EntryQuotable (Rules es) = Unit {0}

entry_quoted : (ts : List Token) (entry : Entry) → All IsQuoted ts → SpellsEntry ts entry → EntryQuotable entry
entry_quoted ts entry h (Attribute_entry {a} r) = attribute_quoted (ValueWithin r.0) (value_quoted r.0) ts a h r.1
entry_quoted ts entry h (Constraint t is r) = tt
entry_quoted ts entry h (Constraints t left right is opens r closes) = tt

attributes_quoted : (entries : List Entry) → All EntryQuotable entries → All AttributeQuotable (attributes_of entries)
attributes_quoted [] each = All-nil AttributeQuotable
attributes_quoted (Plain a ∷ entries) each =
    All-cons AttributeQuotable a (attributes_of entries) (All-head EntryQuotable (Plain a) entries each)
    (attributes_quoted entries (All-tail EntryQuotable (Plain a) entries each))
attributes_quoted (Rule e ∷ entries) each = attributes_quoted entries (All-tail EntryQuotable (Rule e) entries each)
attributes_quoted (Rules es ∷ entries) each = attributes_quoted entries (All-tail EntryQuotable (Rules es) entries each)

braces_quoted : (ts : List Token) (entries : List Entry) → All IsQuoted ts → SpellsBraces ts entries → All AttributeQuotable (attributes_of entries)
braces_quoted ts entries h No_braces = All-nil AttributeQuotable
braces_quoted ts entries h (Entries left right {xs} opens r closes) =
    attributes_quoted entries (separated_quoted SpellsEntry EntryQuotable entry_quoted xs entries (between left right xs h) r)

-- ---- trees

all_attributes_at : (r : Feature-F Feature Group) → all_attributes (roll-Feature r) ≡ r.attributes ++ flat_map (λ attributes. attributes) (map all_attributes_of_group r.groups)
all_attributes_at r = fold-roll-Feature (List Attribute) (List Attribute) feature_attributes group_attributes r

all_attributes_in : (r : Group-F Feature Group) → all_attributes_of_group (roll-Group r) ≡ flat_map (λ attributes. attributes) (map all_attributes r.members)
all_attributes_in r = fold-roll-Group (List Attribute) (List Attribute) feature_attributes group_attributes r

abbrev GroupQuotable : Group → Type 0
GroupQuotable g = All AttributeQuotable (all_attributes_of_group g)

module _ (Member : Spelling Feature) (each : (ts : List Token) (f : Feature) → All IsQuoted ts → Member ts f → EachTextIsQuotable f) where
  group_quoted : (ts : List Token) (g : Group) → All IsQuoted ts → SpellsGroup Member ts g → GroupQuotable g
  group_quoted ts g h (Members {xs} {ys} newline indent dedent {front} {members} kind ends opens parts closes) =
      let opened = all_front IsQuoted (xs ++ newline ∷ indent ∷ ys) (dedent ∷ []) h in
      let behind = All-tail IsQuoted newline (indent ∷ ys) (all_rest IsQuoted xs (newline ∷ indent ∷ ys) opened) in
      let inner = one_or_more_quoted Member EachTextIsQuotable each ys members (All-tail IsQuoted indent ys behind) parts in
      let r : Group-F Feature Group = record { kind = front.0; members = members; place = front.1 } in
      subst (λ (attributes : List Attribute). All AttributeQuotable attributes) (sym (all_attributes_in r)) (flat_all AttributeQuotable all_attributes members inner)

  feature_quoted : (ts : List Token) (f : Feature) → All IsQuoted ts → SpellsFeature Member ts f → EachTextIsQuotable f
  feature_quoted ts f h (Line {bs} {xs} {ys} {zs} newline {r = name} {entries} {groups} said named braced ends below) =
      let line = all_front IsQuoted (bs ++ xs ++ ys) (newline ∷ zs) h in
      let braces = all_rest IsQuoted (bs ++ xs) ys line in
      let behind = All-tail IsQuoted newline zs (all_rest IsQuoted (bs ++ xs ++ ys) (newline ∷ zs) h) in
      let own = braces_quoted ys entries braces braced in
      let others = body_quoted (SpellsGroup Member) GroupQuotable group_quoted zs groups behind below in
      let r : Feature-F Feature Group = record { name = name; attributes = attributes_of entries; rules = rules_of entries; groups = groups } in
      subst (λ (attributes : List Attribute). All AttributeQuotable attributes) (sym (all_attributes_at r))
      (All-append AttributeQuotable (attributes_of entries) _ own (flat_all AttributeQuotable all_attributes_of_group groups others))

tree_quoted : (d : ℕ) (ts : List Token) (f : Feature) → All IsQuoted ts → FeatureWithin d ts f → EachTextIsQuotable f
tree_quoted zero ts f h r = absurd r
tree_quoted (suc d) ts f h r = feature_quoted (FeatureWithin d) (tree_quoted d) ts f h r

root_quoted : (ts : List Token) (root : Option Feature) → All IsQuoted ts → SpellsFeatures ts root → IfSome root EachTextIsQuotable
root_quoted ts root h No_features = tt
root_quoted ts root h (Root t newline indent dedent {xs} {root = tree} is ends opens spelled closes) =
    let behind = All-tail IsQuoted newline (indent ∷ xs ++ dedent ∷ []) (All-tail IsQuoted t (newline ∷ indent ∷ xs ++ dedent ∷ []) h) in
    tree_quoted spelled.0 xs tree (between indent dedent xs behind) spelled.1

-- each text of a spelled file can stand in single quotes
pub file_quoted : (tokens : List Token) (file : File) → IsTokenList tokens → Spells tokens file → IfSome file.root EachTextIsQuotable
file_quoted tokens file list (A_file {ns} {ls} {ms} {fs} {rs} finish {root} named included imported tree ruled is) =
    let all = tokens_quoted tokens list in
    let front = all_front IsQuoted (ns ++ ls ++ ms ++ fs ++ rs) (finish ∷ []) all in
    let sections = all_front IsQuoted (ns ++ ls ++ ms ++ fs) rs front in
    root_quoted fs root (all_rest IsQuoted (ns ++ ls ++ ms) fs sections) tree
