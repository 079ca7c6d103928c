-- A spelled file has its Finish token last and once: no part of the grammar has one.
use Rattle.std.specs.Prelude.{◌≡◌, ℕ, zero, suc, List, [], ◌∷◌, ◌++◌, Some, None}
use Rattle.std.proofs.Common.{refl, sym, ap, ◌∙◌}
use Rattle.uvl_lexer.specs.declared.token.Token.{Token}
use Rattle.uvl_lexer.specs.declared.token.TokenKind.TheVariants as token
use Rattle.uvl_base.specs.declared.word.Word.{Word}
use Rattle.uvl_lexer.specs.declared.token.Symbol.{Symbol}
use Rattle.uvl_ast.specs.declared.file.File.{File}
use Rattle.uvl_ast.specs.declared.expression.Expr.{Expr}
use Rattle.uvl_ast.specs.declared.feature.AttrValue.{AttrValue}
use Rattle.uvl_ast.specs.declared.feature.Feature.{Feature}
use Rattle.uvl_grammar.specs.Tokens.{IsWord, IsSymbol, IsNewline, IsIndent, IsDedent, name_of, number_of, whole_of, text_of}
use Rattle.uvl_grammar.specs.Shapes.{Spelling, Repeated, None_more, One_more, OneOrMore, First, BehindComma, Comma, Separated, Nothing, Parts, Body, No_body, Indented}
use Rattle.uvl_grammar.specs.Refs as refs
use Rattle.uvl_grammar.specs.Refs.{SpellsDotName, SpellsRef}
use Rattle.uvl_grammar.specs.Expressions as exprs
use Rattle.uvl_grammar.specs.Expressions.{Operators, Grouped, SpellsPrimary, SpellsComparison, SpellsOperand, OperandWithin, SpellsExpr, iff_operator, implies_operator, or_operator, and_operator, comparison_operator, sum_operator, product_operator}
use Rattle.uvl_grammar.specs.Values as values
use Rattle.uvl_grammar.specs.Values.{SpellsAttribute, SpellsValue, ValueWithin, SpellsPlain}
use Rattle.uvl_grammar.specs.Braces as braces
use Rattle.uvl_grammar.specs.Braces.{SpellsEntry, SpellsBraces}
use Rattle.uvl_grammar.specs.Groups as groups
use Rattle.uvl_grammar.specs.Groups.{SpellsKind}
use Rattle.uvl_grammar.specs.Features as features
use Rattle.uvl_grammar.specs.Features.{SpellsBoolean, SpellsGroup, SpellsFeature, FeatureWithin, SpellsTree}
use Rattle.uvl_grammar.specs.Sections as sections
use Rattle.uvl_grammar.specs.Sections.{SpellsSection, SpellsNamespace, SpellsLevelPart, SpellsLevel, SpellsAlias, SpellsImport, SpellsFeatures, SpellsRule, level_part}
use Rattle.uvl_grammar.specs.File.{Spells, A_file}

-- ---- lists without a Finish token

abbrev pub NoFinish : List Token → Type 0
NoFinish [] = Unit {0}
NoFinish (t ∷ ts) = (t.kind ≡ token.Finish → ⊥) × NoFinish ts

both : (xs ys : List Token) → NoFinish xs → NoFinish ys → NoFinish (xs ++ ys)
both [] ys h k = k
both (t ∷ xs) ys h k = (h.0, both xs ys h.1 k)

-- what a part is spelled by has none
abbrev Unfinished : {A : Type 0} → Spelling A → Type 0
Unfinished {A} R = (xs : List Token) (v : A) → R xs v → NoFinish xs

-- what a token is says that it is no Finish
symbol_goes_on : (s : Symbol) (t : Token) → IsSymbol s t → t.kind ≡ token.Finish → ⊥
symbol_goes_on s t is e = cc

word_goes_on : (w : Word) (t : Token) → IsWord w t → t.kind ≡ token.Finish → ⊥
word_goes_on w t is e = cc

newline_goes_on : (t : Token) → IsNewline t → t.kind ≡ token.Finish → ⊥
newline_goes_on t is e = cc

indent_goes_on : (t : Token) → IsIndent t → t.kind ≡ token.Finish → ⊥
indent_goes_on t is e = cc

dedent_goes_on : (t : Token) → IsDedent t → t.kind ≡ token.Finish → ⊥
dedent_goes_on t is e = cc

name_goes_on : (t : Token) (v : List ℕ) → name_of t.kind ≡ Some v → t.kind ≡ token.Finish → ⊥
name_goes_on t v is e = let none = sym (ap name_of e) ∙ is in cc

number_goes_on : (t : Token) (v : _) → number_of t.kind ≡ Some v → t.kind ≡ token.Finish → ⊥
number_goes_on t v is e = let none = sym (ap number_of e) ∙ is in cc

whole_goes_on : (t : Token) (v : ℕ) → whole_of t.kind ≡ Some v → t.kind ≡ token.Finish → ⊥
whole_goes_on t v is e = let none = sym (ap whole_of e) ∙ is in cc

text_goes_on : (t : Token) (v : List ℕ) → text_of t.kind ≡ Some v → t.kind ≡ token.Finish → ⊥
text_goes_on t v is e = let none = sym (ap text_of e) ∙ is in cc

-- ---- shapes

repeated : {A : Type 0} (R : Spelling A) → Unfinished R → Unfinished (Repeated R)
repeated R h xs v None_more = tt
repeated R h xs v (One_more {xs = us} {ys = vs} {a} {items} r rs) = both us vs (h us a r) (repeated R h vs items rs)

one_or_more : {A : Type 0} (R : Spelling A) → Unfinished R → Unfinished (OneOrMore R)
one_or_more R h xs v (First {xs = us} {ys = vs} {a} {items} r rs) = both us vs (h us a r) (repeated R h vs items rs)

behind_comma : {A : Type 0} (R : Spelling A) → Unfinished R → Unfinished (BehindComma R)
behind_comma R h xs v (Comma comma {xs = us} is r) = (symbol_goes_on _ comma is, h us v r)

separated : {A : Type 0} (R : Spelling A) → Unfinished R → Unfinished (Separated R)
separated R h xs v Nothing = tt
separated R h xs v (Parts {xs = us} {ys = vs} {a} {items} r rs) =
    both us vs (h us a r) (repeated (BehindComma R) (behind_comma R h) vs items rs)

body : {A : Type 0} (R : Spelling A) → Unfinished R → Unfinished (Body R)
body R h xs v No_body = tt
body R h xs v (Indented indent dedent {xs = us} opens rs closes) =
    (indent_goes_on indent opens, both us (dedent ∷ []) (one_or_more R h us v rs) (dedent_goes_on dedent closes, tt))

-- ---- references and expressions

dot_name : Unfinished SpellsDotName
dot_name xs v (refs.Dot_name dot t is named) = (symbol_goes_on _ dot is, (name_goes_on t _ named, tt))

reference : Unfinished SpellsRef
reference xs v (refs.Reference t {xs = us} {names} is rs) = (name_goes_on t _ is, repeated SpellsDotName dot_name us names rs)

primary : (Inner : Spelling Expr) → Unfinished Inner → Unfinished (SpellsPrimary Inner)
primary Inner h xs v (exprs.Parentheses left right {xs = us} opens r closes) =
    (symbol_goes_on _ left opens, both us (right ∷ []) (h us v r) (symbol_goes_on _ right closes, tt))
primary Inner h xs v (exprs.Literal t is) = (number_goes_on t _ is, tt)
primary Inner h xs v (exprs.Negative minus t is number) = (symbol_goes_on _ minus is, (number_goes_on t _ number, tt))
primary Inner h xs v (exprs.Sum t left key right is opens named closes) =
    (word_goes_on _ t is, (symbol_goes_on _ left opens, (name_goes_on key _ named, (symbol_goes_on _ right closes, tt))))
primary Inner h xs v (exprs.Reference {r} s) = reference xs r s

-- no operator is a Finish
abbrev Operates : Operators → Type 0
Operates operators = operators token.Finish ≡ None

grouped : (operators : Operators) → Operates operators → (Part : Spelling Expr) → Unfinished Part → Unfinished (Grouped operators Part)
grouped operators none Part h xs v (exprs.Alone r) = h xs v r
grouped operators none Part h xs v (exprs.Joined {xs = us} {ys = vs} t {left} {right} g is r) =
    both us (t ∷ vs) (grouped operators none Part h us left g) ((λ e. let some = sym none ∙ sym (ap operators e) ∙ is in cc), h vs right r)

connected : (Part : Spelling Expr) → Unfinished Part → Unfinished (exprs.Connected Part)
connected Part h =
    grouped iff_operator refl _ (grouped implies_operator refl _ (grouped or_operator refl _ (grouped and_operator refl Part h)))

sum : (Inner : Spelling Expr) → Unfinished Inner → Unfinished (exprs.SpellsSum Inner)
sum Inner h = grouped sum_operator refl _ (grouped product_operator refl _ (primary Inner h))

comparison : (Inner : Spelling Expr) → Unfinished Inner → Unfinished (SpellsComparison Inner)
comparison Inner h xs v (exprs.Compared {xs = us} {ys = vs} t {left} {right} l is r) =
    both us (t ∷ vs) (sum Inner h us left l) ((λ e. let some = sym (ap comparison_operator e) ∙ is in cc), sum Inner h vs right r)
comparison Inner h xs v (exprs.Not_compared s) = sum Inner h xs v s

operand : (Deeper : Spelling Expr) → Unfinished Deeper → Unfinished (SpellsOperand Deeper)
operand Deeper h xs v (exprs.Opposite bang {xs = us} {e} is r) = (symbol_goes_on _ bang is, h us e r)
operand Deeper h xs v (exprs.Comparison r) = comparison (exprs.Connected Deeper) (connected Deeper h) xs v r

operand_within : (depth : ℕ) → Unfinished (OperandWithin depth)
operand_within zero xs v r = absurd r
operand_within (suc depth) xs v r = operand (OperandWithin depth) (operand_within depth) xs v r

expression : Unfinished SpellsExpr
expression xs v r = connected (OperandWithin r.0) (operand_within r.0) xs v r.1

-- ---- attributes and values

attribute : (Value : Spelling AttrValue) → Unfinished Value → Unfinished (SpellsAttribute Value)
attribute Value h xs v (values.Bare t is) = (name_goes_on t _ is, tt)
attribute Value h xs v (values.Valued t {xs = us} {v = value} is r) = (name_goes_on t _ is, h us value r)

value : (Value : Spelling AttrValue) → Unfinished Value → Unfinished (SpellsValue Value)
value Value h xs v (values.Yes t is) = (word_goes_on _ t is, tt)
value Value h xs v (values.No t is) = (word_goes_on _ t is, tt)
value Value h xs v (values.Number t is) = (number_goes_on t _ is, tt)
value Value h xs v (values.Negative minus t is number) = (symbol_goes_on _ minus is, (number_goes_on t _ number, tt))
value Value h xs v (values.Words t is) = (text_goes_on t _ is, tt)
value Value h xs v (values.Attributes left right {xs = us} {attributes} opens r closes) =
    (symbol_goes_on _ left opens, both us (right ∷ []) (separated (SpellsAttribute Value) (attribute Value h) us attributes r) (symbol_goes_on _ right closes, tt))
value Value h xs v (values.Vector left right {xs = us} {vs} opens r closes) =
    (symbol_goes_on _ left opens, both us (right ∷ []) (separated Value h us vs r) (symbol_goes_on _ right closes, tt))

value_within : (depth : ℕ) → Unfinished (ValueWithin depth)
value_within zero xs v r = absurd r
value_within (suc depth) xs v r = value (ValueWithin depth) (value_within depth) xs v r

plain : Unfinished SpellsPlain
plain xs v r = attribute (ValueWithin r.0) (value_within r.0) xs v r.1

-- ---- braces

entry : Unfinished SpellsEntry
entry xs v (braces.Attribute_entry {a} r) = plain xs a r
entry xs v (braces.Constraint t {xs = us} {e} is r) = (word_goes_on _ t is, expression us e r)
entry xs v (braces.Constraints t left right {xs = us} {es} is opens r closes) =
    (word_goes_on _ t is, (symbol_goes_on _ left opens, both us (right ∷ []) (separated SpellsExpr expression us es r) (symbol_goes_on _ right closes, tt)))

entries : Unfinished SpellsBraces
entries xs v braces.No_braces = tt
entries xs v (braces.Entries left right {xs = us} opens r closes) =
    (symbol_goes_on _ left opens, both us (right ∷ []) (separated SpellsEntry entry us v r) (symbol_goes_on _ right closes, tt))

-- ---- features

kind : Unfinished SpellsKind
kind xs v (groups.Mandatory t is) = (word_goes_on _ t is, tt)
kind xs v (groups.Optional t is) = (word_goes_on _ t is, tt)
kind xs v (groups.Alternative t is) = (word_goes_on _ t is, tt)
kind xs v (groups.Or t is) = (word_goes_on _ t is, tt)
kind xs v (groups.Exactly left t right opens is closes) =
    (symbol_goes_on _ left opens, (whole_goes_on t _ is, (symbol_goes_on _ right closes, tt)))
kind xs v (groups.Between left low dots high right opens lo is hi closes) =
    (symbol_goes_on _ left opens, (whole_goes_on low _ lo, (symbol_goes_on _ dots is, (whole_goes_on high _ hi, (symbol_goes_on _ right closes, tt)))))
kind xs v (groups.From left low dots star right opens lo is any closes) =
    (symbol_goes_on _ left opens, (whole_goes_on low _ lo, (symbol_goes_on _ dots is, (symbol_goes_on _ star any, (symbol_goes_on _ right closes, tt)))))

boolean : (xs : List Token) → SpellsBoolean xs → NoFinish xs
boolean xs features.Not_said = tt
boolean xs (features.Said t is) = (word_goes_on _ t is, tt)

group : (Member : Spelling Feature) → Unfinished Member → Unfinished (SpellsGroup Member)
group Member h xs v (features.Members {xs = us} {ys = vs} newline indent dedent {front} {members} k ends opens r closes) =
    both (us ++ newline ∷ indent ∷ vs) (dedent ∷ [])
    (both us (newline ∷ indent ∷ vs) (kind us front k)
    (newline_goes_on newline ends, (indent_goes_on indent opens, one_or_more Member h vs members r)))
    (dedent_goes_on dedent closes, tt)

feature : (Member : Spelling Feature) → Unfinished Member → Unfinished (SpellsFeature Member)
feature Member h xs v (features.Line {bs} {xs = us} {ys = vs} {zs = ws} newline {r} {entries = es} {groups = gs} said named braced ends below) =
    both (bs ++ us ++ vs) (newline ∷ ws) (both (bs ++ us) vs (both bs us (boolean bs said) (reference us r named)) (entries vs es braced))
    (newline_goes_on newline ends, body (SpellsGroup Member) (group Member h) ws gs below)

feature_within : (depth : ℕ) → Unfinished (FeatureWithin depth)
feature_within zero xs v r = absurd r
feature_within (suc depth) xs v r = feature (FeatureWithin depth) (feature_within depth) xs v r

tree : Unfinished SpellsTree
tree xs v r = feature_within r.0 xs v r.1

-- ---- sections

section : {A : Type 0} (w : Word) (Line : Spelling A) → Unfinished Line → Unfinished (SpellsSection w Line)
section w Line h xs v sections.No_section = tt
section w Line h xs v (sections.Lines t newline {xs = us} is ends r) = (word_goes_on w t is, (newline_goes_on newline ends, body Line h us v r))

namespace : Unfinished SpellsNamespace
namespace xs v sections.No_namespace = tt
namespace xs v (sections.Namespace t newline {xs = us} {r} is named ends) =
    (word_goes_on _ t is, both us (newline ∷ []) (reference us r named) (newline_goes_on newline ends, tt))

level : Unfinished SpellsLevel
level xs v (sections.Level {xs = us} newline {parts} r ends) =
    both us (newline ∷ []) (one_or_more SpellsLevelPart part us parts r) (newline_goes_on newline ends, tt)
  where
    part : Unfinished SpellsLevelPart
    part xs v (sections.Part t is) = ((λ e. let some = sym (ap level_part e) ∙ is in cc), tt)

alias : Unfinished SpellsAlias
alias xs v sections.No_alias = tt
alias xs v (sections.As t {xs = us} {r} is named) = (word_goes_on _ t is, reference us r named)

imported : Unfinished SpellsImport
imported xs v (sections.Import_line {xs = us} {ys = vs} newline {path} {alias = a} named other ends) =
    both (us ++ vs) (newline ∷ []) (both us vs (reference us path named) (alias vs a other)) (newline_goes_on newline ends, tt)

root : Unfinished SpellsFeatures
root xs v sections.No_features = tt
root xs v (sections.Root t newline indent dedent {xs = us} {root = r} is ends opens below closes) =
    (word_goes_on _ t is, (newline_goes_on newline ends, (indent_goes_on indent opens, both us (dedent ∷ []) (tree us r below) (dedent_goes_on dedent closes, tt))))

rule : Unfinished SpellsRule
rule xs v (sections.Rule {xs = us} newline r ends) = both us (newline ∷ []) (expression us v r) (newline_goes_on newline ends, tt)

-- ---- files

-- behind tokens without a Finish and one more there is nothing behind a Finish
pub only_last : (front : List Token) → NoFinish front → (last : Token) (xs : List Token) (t : Token) (more : List Token)
    → front ++ last ∷ [] ≡ xs ++ t ∷ more → t.kind ≡ token.Finish → more ≡ []
only_last [] h last [] t more e is = sym (ap rest_of e)
  where
    rest_of : List Token → List Token
    rest_of [] = []
    rest_of (u ∷ us) = us
only_last [] h last (x ∷ []) t more e is = absurd (cc)
only_last [] h last (x ∷ y ∷ xs) t more e is = absurd (cc)
only_last (u ∷ front) h last [] t more e is = let same : u ≡ t = cc in absurd (h.0 (ap (λ (z : Token). z.kind) same ∙ is))
only_last (u ∷ front) h last (x ∷ xs) t more e is = let same : front ++ last ∷ [] ≡ xs ++ t ∷ more = cc in only_last front h.1 last xs t more same is

-- what a file is but for its Finish
record Front (tokens : List Token) : Type 0 where
  front : List Token
  last : Token
  splits : tokens ≡ front ++ last ∷ []
  unfinished : NoFinish front

file_front : (tokens : List Token) (f : File) → Spells tokens f → Front tokens
file_front tokens f (A_file {ns} {ls} {ms} {fs} {rs} finish {namespace = n} {levels} {imports} {root = r} {rules} named included imported_so below ruled is) = record {
  front = ns ++ ls ++ ms ++ fs ++ rs;
  last = finish;
  splits = refl;
  unfinished =
      both (ns ++ ls ++ ms ++ fs) rs
      (both (ns ++ ls ++ ms) fs
      (both (ns ++ ls) ms (both ns ls (namespace ns n named) (section _ SpellsLevel level ls levels included)) (section _ SpellsImport imported ms imports imported_so))
      (root fs r below))
      (section _ SpellsRule rule rs rules ruled);
}

-- A spelled file has nothing behind a Finish.
pub finish_last : (xs : List Token) (t : Token) (more : List Token) (f : File) → Spells (xs ++ t ∷ more) f → t.kind ≡ token.Finish → more ≡ []
finish_last xs t more f spelled is =
    let front = file_front (xs ++ t ∷ more) f spelled in
    only_last front.front front.unfinished front.last xs t more (sym front.splits) is
