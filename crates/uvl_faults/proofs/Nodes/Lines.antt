-- The lines of `constraints` have at most 8,192 nodes each where no node is one too many.
use Rattle.std.specs.Prelude.{◌≡◌, ◌≤◌, true, List, [], ◌∷◌}
use Rattle.std.specs.List.{All}
use Rattle.std.proofs.Common.{refl, ap}
use Rattle.std.proofs.lemmas.List.Elements.{All-nil, All-cons}
use Rattle.uvl_lexer.specs.declared.token.Token.{Token}
use Rattle.uvl_base.specs.declared.word.Word.TheVariants as word
use Rattle.uvl_ast.specs.declared.expression.Expr.{Expr}
use Rattle.uvl_ast.specs.Nodes.{nodes_of}
use Rattle.uvl_profile.specs.declared.section.Section.TheVariants.{Constraints}
use Rattle.uvl_grammar.specs.Shapes.{Repeated, None_more, One_more, OneOrMore, First, No_body, Indented}
use Rattle.uvl_grammar.specs.Sections.{SpellsSection, No_section, Lines, SpellsRule, Rule}
use Rattle.uvl_profile.specs.Sections.{belongs}
use Rattle.uvl_profile.specs.Rules.{rule_behind}
use Rattle.uvl_faults.proofs.Walking.{Clear, clear_front, LineBegins, Passes, one_or_more_passes}
use Rattle.uvl_faults.proofs.Sectioned.{Between, body_begins, nothing_met, rule_kept}
use Rattle.uvl_faults.proofs.Nodes.Rules.{begins_by_line}
use Rattle.uvl_faults.proofs.Nodes.Limits.{too_many, rule_within_limit}

-- a rule within the limit
abbrev pub HasFewNodes : Expr → Type 0
HasFewNodes e = nodes_of e ≤ 8192

-- the same of a part, whatever it is spelled by
abbrev pub Few : List Token → Expr → Type 0
Few xs e = HasFewNodes e

-- parts that each are within the limit
pub each_few : {ys : List Token} {items : List Expr} → Repeated Few ys items → All HasFewNodes items
each_few None_more = All-nil HasFewNodes
each_few (One_more {a} {items} r rs) = All-cons HasFewNodes a items r (each_few rs)

-- a rule begins where a line of constraints does
pub line_behind : (before : List Token) (t : Token) → LineBegins Constraints 1 (t ∷ before) → rule_behind before t ≡ true
line_behind before t here = begins_by_line before t here.begins (ap (belongs Constraints) here.part)

rule_few : Passes too_many (LineBegins Constraints 1) SpellsRule Few
rule_few [] ts e here clear r = let outside = here.part in cc
rule_few (t ∷ before) ts e here clear (Rule {xs} newline spelled ends) = (
  rule_within_limit before t xs e (line_behind before t here) spelled (clear_front too_many (t ∷ before) xs (newline ∷ []) clear),
  (rule_kept Constraints (t ∷ before) ts e here (nothing_met (t ∷ before) ts) (Rule newline spelled ends)).1,
)

some_few : (xs : List Token) (rules : List Expr) → OneOrMore Few xs rules → All HasFewNodes rules
some_few xs rules (First {a} {items} r rs) = All-cons HasFewNodes a items r (each_few rs)

pub constraints_few : (before rs : List Token) (rules : List Expr) → Between before → Clear too_many before rs
    → SpellsSection word.Constraints SpellsRule rs rules → All HasFewNodes rules
constraints_few before rs rules between clear No_section = All-nil HasFewNodes
constraints_few before rs rules between clear (Lines t newline is ends No_body) = All-nil HasFewNodes
constraints_few before rs rules between clear (Lines t newline is ends (Indented indent dedent {xs} opens lines closes)) =
    let front = indent ∷ newline ∷ t ∷ before in
    let inner = body_begins before t word.Constraints Constraints is refl between newline indent ends opens in
    let clear_lines = (clear_front too_many before (t ∷ newline ∷ indent ∷ xs) (dedent ∷ []) clear).1.1.1 in
    some_few xs rules (one_or_more_passes too_many (LineBegins Constraints 1) SpellsRule Few rule_few front xs rules inner clear_lines lines).0
