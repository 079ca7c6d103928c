-- Values nest as deep as brackets stand in them.
use Rattle.std.specs.Prelude.{◌≡◌, ℕ, zero, suc, ◌+◌, ◌≤◌, List, ◌∷◌, map, ℤ, neg_ℤ}
use Rattle.std.specs.List.{All}
use Rattle.std.proofs.Common.{refl, sym, ap, ◌∙◌, arith}
use Rattle.uvl_base.specs.declared.word.Word.TheVariants as word
use Rattle.uvl_lexer.specs.declared.token.Symbol.TheVariants as symbol
use Rattle.uvl_ast.specs.declared.feature.Attribute.{Attribute, roll-Attribute}
use Rattle.uvl_ast.specs.declared.feature.AttrValue.{AttrValue}
use Rattle.uvl_ast.specs.declared.feature.AttrValue.TheVariants as value
use Rattle.uvl_ast.specs.declared.feature.AttrValue.TheOpen.{AttrValue-F, Attribute-F}
use Rattle.uvl_ast.specs.declared.feature.AttrValue.TheFolds.{fold-roll-AttrValue, fold-roll-Attribute}
use Rattle.uvl_ast.specs.Depth.{greatest}
use Rattle.uvl_ast.specs.Nesting.{value_nesting, attribute_nesting, nesting_of, nesting_of_attribute}
use Rattle.uvl_grammar.specs.Shapes.{Spelling}
use Rattle.uvl_grammar.specs.Values.{SpellsAttribute, Bare, Valued, Yes, No, Number, Negative, Words, Attributes, Vector, ValueWithin, SpellsPlain}
use Rattle.uvl_profile.specs.steps.Depth.{depth_around}
use Rattle.uvl_faults.proofs.Nesting.Tokens.{Inside, plain_name, plain_number, plain_text, behind_plain, behind_symbol, behind_word}
use Rattle.uvl_faults.proofs.Nesting.Shapes.{Leads, separated_leads, bracketed, greatest_within}

-- ---- one step of the nesting

yes_nesting : nesting_of value.Yes ≡ 0
yes_nesting = ap nesting_of (sym value.rolls-Yes) ∙ fold-roll-AttrValue ℕ ℕ value_nesting attribute_nesting AttrValue-F.Yes

no_nesting : nesting_of value.No ≡ 0
no_nesting = ap nesting_of (sym value.rolls-No) ∙ fold-roll-AttrValue ℕ ℕ value_nesting attribute_nesting AttrValue-F.No

number_nesting : (number : ℤ) → nesting_of (value.Number number) ≡ 0
number_nesting number = ap nesting_of (sym (value.rolls-Number number)) ∙ fold-roll-AttrValue ℕ ℕ value_nesting attribute_nesting (AttrValue-F.Number number)

words_nesting : (text : List ℕ) → nesting_of (value.Words text) ≡ 0
words_nesting text = ap nesting_of (sym (value.rolls-Words text)) ∙ fold-roll-AttrValue ℕ ℕ value_nesting attribute_nesting (AttrValue-F.Words text)

list_nesting : (attributes : List Attribute) → nesting_of (value.List attributes) ≡ 1 + greatest (map nesting_of_attribute attributes)
list_nesting attributes =
    ap nesting_of (sym (value.rolls-List attributes)) ∙ fold-roll-AttrValue ℕ ℕ value_nesting attribute_nesting (AttrValue-F.List attributes)

vector_nesting : (values : List AttrValue) → nesting_of (value.Vector values) ≡ 1 + greatest (map nesting_of values)
vector_nesting values =
    ap nesting_of (sym (value.rolls-Vector values)) ∙ fold-roll-AttrValue ℕ ℕ value_nesting attribute_nesting (AttrValue-F.Vector values)

attribute_nests : (r : Attribute-F AttrValue Attribute) → nesting_of_attribute (roll-Attribute r) ≡ nesting_of r.value
attribute_nests r = fold-roll-Attribute ℕ ℕ value_nesting attribute_nesting r

-- ---- attributes and values

-- it nests at most so deep
abbrev ValueNests : ℕ → AttrValue → Type 0
ValueNests k v = nesting_of v ≤ k

abbrev pub AttributeNests : ℕ → Attribute → Type 0
AttributeNests k a = nesting_of_attribute a ≤ k

attribute_leads : (Value : Spelling AttrValue) (k : ℕ) (bs : List ℕ) → Leads (Inside 0 bs) (Inside 0 bs) Value (ValueNests k)
    → Leads (Inside 0 bs) (Inside 0 bs) (SpellsAttribute Value) (AttributeNests k)
attribute_leads Value k bs step before ts a here clear (Bare t {name} named) =
    let is = attribute_nests (record { key = name; value = value.Yes; place = t.place }) in
    (omega (arith, is, yes_nesting), behind_plain before t here (plain_name t.kind name named))
attribute_leads Value k bs step before ts a here clear (Valued t {name} {xs} {v} named r) =
    let found = step (t ∷ before) xs v (behind_plain before t here (plain_name t.kind name named)) clear.1 r in
    let is = attribute_nests (record { key = name; value = v; place = t.place }) in
    (omega (arith, is, found.0), found.1)

value_leads : (d m : ℕ) (bs : List ℕ) → 128 ≤ depth_around bs + m → Leads (Inside 0 bs) (Inside 0 bs) (ValueWithin d) (ValueNests m)
value_leads zero m bs room before ts v here clear r = absurd r
value_leads (suc d) m bs room before ts v here clear (Yes t is) = (omega (arith, yes_nesting), behind_word before t here word.True is)
value_leads (suc d) m bs room before ts v here clear (No t is) = (omega (arith, no_nesting), behind_word before t here word.False is)
value_leads (suc d) m bs room before ts v here clear (Number t {number} is) =
    (omega (arith, number_nesting number), behind_plain before t here (plain_number t.kind number is))
value_leads (suc d) m bs room before ts v here clear (Negative minus t {number} is numbered) =
    let behind = behind_symbol before minus here symbol.Minus (λ b bs. refl) is in
    (omega (arith, number_nesting (neg_ℤ number)), behind_plain (minus ∷ before) t behind (plain_number t.kind number numbered))
value_leads (suc d) m bs room before ts v here clear (Words t {text} is) =
    (omega (arith, words_nesting text), behind_plain before t here (plain_text t.kind text is))
value_leads (suc d) m bs room before ts v here clear (Attributes left right {xs} {attributes} opens r closes) =
    let inner = λ (b k : ℕ) (more : 128 ≤ depth_around (b ∷ bs) + k).
    separated_leads (b ∷ bs) (SpellsAttribute (ValueWithin d)) (AttributeNests k) (attribute_leads (ValueWithin d) k (b ∷ bs) (value_leads d k (b ∷ bs) more)) in
    let found = bracketed _ (λ k items. All (AttributeNests k) items) 0 m bs (omega arith) inner symbol.LeftBrace symbol.RightBrace (λ b bs. refl) (λ c b bs. refl)
    before xs left right attributes here clear opens r closes in
    let within = greatest_within nesting_of_attribute found.0.0 attributes found.0.2 in
    (omega (arith, list_nesting attributes, within, found.0.1), found.1)
value_leads (suc d) m bs room before ts v here clear (Vector left right {xs} {vs} opens r closes) =
    let inner = λ (b k : ℕ) (more : 128 ≤ depth_around (b ∷ bs) + k).
    separated_leads (b ∷ bs) (ValueWithin d) (ValueNests k) (value_leads d k (b ∷ bs) more) in
    let found = bracketed _ (λ k items. All (ValueNests k) items) 0 m bs (omega arith) inner symbol.LeftBracket symbol.RightBracket (λ b bs. refl) (λ c b bs. refl)
    before xs left right vs here clear opens r closes in
    let within = greatest_within nesting_of found.0.0 vs found.0.2 in
    (omega (arith, vector_nesting vs, within, found.0.1), found.1)

-- an attribute in brackets, where m more make 128
pub plain_leads : (m : ℕ) (bs : List ℕ) → 128 ≤ depth_around bs + m → Leads (Inside 0 bs) (Inside 0 bs) SpellsPlain (AttributeNests m)
plain_leads m bs room before ts a here clear r =
    attribute_leads (ValueWithin r.0) m bs (value_leads r.0 m bs room) before ts a here clear r.1
