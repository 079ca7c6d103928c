-- What a scan keeps is what the tokens in front of a place say.
use Rattle.std.specs.Prelude.{◌≡◌, ℕ, suc, ◌+◌, ◌-◌, ◌≤◌, Bool, true, false, ◌&&◌, ◌==◌, nat_lt, cond, List, [], ◌∷◌, length, reverse, Option, Some, None}
use Rattle.std.proofs.Common.{refl, sym, ap, ◌∙◌, arith}
use Rattle.std.proofs.lemmas.Bool.Decides.{nat_tests}
use Rattle.std.proofs.lemmas.List.{length-reverse}
use Rattle.uvl_lexer.specs.declared.token.Token.{Token}
use Rattle.uvl_lexer.specs.declared.token.TokenKind.{TokenKind}
use Rattle.uvl_lexer.specs.declared.token.TokenKind.TheVariants as token
use Rattle.uvl_profile.specs.declared.nesting.Nesting.{Nesting}
use Rattle.uvl_profile.specs.declared.section.Section.{Section}
use Rattle.uvl_profile.specs.declared.section.SectionPart.{SectionPart}
use Rattle.uvl_profile.specs.declared.section.SectionPart.TheVariants.{Outside, Heading, Headed, Body}
use Rattle.uvl_lexer.specs.Kinds.{is_newline, is_indent, is_dedent}
use Rattle.uvl_profile.specs.Lines.{is_layout, begins_line, line_of}
use Rattle.uvl_profile.specs.Sections.{section_named, in_heading, behind_outside, part_behind, part_of}
use Rattle.uvl_profile.specs.Nesting.{deepens, open_brackets, nesting}
use Rattle.uvl_profile.specs.steps.Depth.{depth_around, depth_of}
use Rattle.uvl_profile.specs.Rules.{rule_behind, ends_rule, with_node, is_node, rule_nodes}
use Rattle.uvl_profile.specs.Met.{is_nested_too_deep}
use Rattle.uvl_profile.specs.steps.Scan.{scopes_behind, scopes_of, scopes_kept, indentations_in, nodes_in}
use Rattle.uvl_profile.proofs.Sorts.{sort_of}
use Rattle.uvl_profile.proofs.Scopes.{nesting_is, brackets_are, some_scope, deepens_scopes, depth_behind}

-- ---- no more than one for each token

either : {A : Type 0} (f : A → ℕ) (b : Bool) (x y : A) (n : ℕ) → f x ≤ n → f y ≤ n → f (cond b x y) ≤ n
either f true x y n l r = l
either f false x y n l r = r

heading_low : (o : Option Section) → indentations_in (in_heading o) ≡ 0
heading_low (Some s) = refl
heading_low None = refl

outside_low : (first : Bool) (kind : TokenKind) → indentations_in (behind_outside first kind) ≡ 0
outside_low true kind = heading_low (section_named kind)
outside_low false kind = refl

indentations_grow : (part : SectionPart) (first : Bool) (kind : TokenKind) → indentations_in (part_behind part first kind) ≤ indentations_in part + 1
indentations_grow Outside first kind = omega (arith, outside_low first kind)
indentations_grow (Heading s) first kind = either indentations_in (is_newline kind) (Headed s) (Heading s) 1 (omega arith) (omega arith)
indentations_grow (Headed s) first kind =
    either indentations_in (is_indent kind) (Body s 1) (behind_outside first kind) 1 (omega arith) (omega (arith, outside_low first kind))
indentations_grow (Body s indentations) first kind =
    either indentations_in (is_indent kind) (Body s (indentations + 1)) _ (indentations + 1) (omega arith)
    (either indentations_in (is_dedent kind) _ (Body s indentations) (indentations + 1)
    (either indentations_in (nat_lt indentations 2) Outside (Body s (indentations - 1)) (indentations + 1) (omega arith) (omega arith)) (omega arith))

pub indentations_few : (before : List Token) → indentations_in (part_of before) ≤ length before
indentations_few [] = omega arith
indentations_few (t ∷ before) = omega (arith, indentations_few before, indentations_grow (part_of before) (begins_line before) t.kind)

node_more : (node : Bool) (nodes : Option ℕ) → nodes_in (with_node node nodes) ≤ nodes_in nodes + 1
node_more node None = omega arith
node_more true (Some nodes) = omega arith
node_more false (Some nodes) = omega arith

pub nodes_few : (before : List Token) → nodes_in (rule_nodes before) ≤ length before
nodes_few [] = omega arith
nodes_few (t ∷ before) =
    let more = node_more (is_node before t.kind) (rule_nodes before) in
    let few = nodes_few before in
    either nodes_in (rule_behind before t) (Some 0) _ (suc (length before)) (omega arith)
    (either nodes_in (ends_rule t.kind) None _ (suc (length before)) (omega arith) (omega (arith, more, few)))

pub depth_small : (before : List Token) → depth_of (scopes_of before) ≤ length before
depth_small [] = omega arith
depth_small (t ∷ before) =
    either depth_of (is_layout t.kind) (0 ∷ []) (scopes_behind (scopes_of before) t.kind) (suc (length before)) (omega arith)
    (omega (arith, depth_small before, depth_behind (scopes_of before) t.kind (sort_of t.kind) (some_scope before)))

-- the nesting that is kept
pub depth_few : (n : Nesting) (before : List Token) → scopes_kept n ≡ scopes_of before → n.depth ≡ n.inside + depth_around (reverse n.around.items)
    → n.depth ≤ length before
depth_few n before scopes counted = omega (arith, depth_small before, ap depth_of scopes, counted)

-- ---- what is kept answers

deepens_no_mark : (kind : TokenKind) → deepens kind ≡ true → is_layout kind ≡ false
deepens_no_mark token.Newline d = cc
deepens_no_mark token.Indent d = cc
deepens_no_mark token.Dedent d = cc
deepens_no_mark _ d = refl

-- behind a bracket or `!` the nesting is one more
pub deepened : (before : List Token) (t : Token) → deepens t.kind ≡ true → depth_of (scopes_of (t ∷ before)) ≡ depth_of (scopes_of before) + 1
deepened before t d =
    ap (λ m. depth_of (cond m (0 ∷ []) (scopes_behind (scopes_of before) t.kind))) (deepens_no_mark t.kind d)
    ∙ deepens_scopes (scopes_of before) t.kind (sort_of t.kind) (some_scope before) d

pub nested_there : (n : Nesting) (before : List Token) (t : Token) → scopes_kept n ≡ scopes_of before
    → n.depth ≡ n.inside + depth_around (reverse n.around.items) → deepens t.kind ≡ true → (n.depth == 128) ≡ is_nested_too_deep before t
nested_there n before t scopes counted d =
    let now : n.depth ≡ depth_of (scopes_of before) = counted ∙ ap depth_of scopes in
    same_test n.depth (nesting (line_of (t ∷ before))) (sym (nesting_is (t ∷ before)) ∙ deepened before t d ∙ ap (λ k. k + 1) (sym now))
    ∙ ap (λ b. b && nesting (line_of (t ∷ before)) == 129) (sym d)
  where
    same_test : (m k : ℕ) → k ≡ m + 1 → (m == 128) ≡ (k == 129)
    same_test m k e = grind (arith, nat_tests)

pub outside_there : (n : Nesting) (before : List Token) → scopes_kept n ≡ scopes_of before
    → (length n.around.items == 0) ≡ (open_brackets (line_of before) == 0)
outside_there n before scopes =
    let same : length n.around.items ≡ open_brackets (line_of before) =
    omega (arith, ap length scopes, brackets_are before, length-reverse n.around.items) in
    ap (λ k. k == 0) same
