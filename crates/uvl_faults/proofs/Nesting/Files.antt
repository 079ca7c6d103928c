-- In a file without named faults values nest at most 127 deep, and the nodes of rules stand in at most 516
-- right operands of operators that join truths.
use Rattle.std.specs.Prelude.{ℕ, List, [], ◌∷◌, ◌++◌, Option, Some, None, IfSome}
use Rattle.std.specs.List.{All}
use Rattle.std.proofs.Common.{sym, subst, arith}
use Rattle.std.proofs.lemmas.List.Elements.{All-nil, All-append}
use Rattle.uvl_lexer.specs.declared.token.Token.{Token}
use Rattle.uvl_base.specs.declared.word.Word.{Word}
use Rattle.uvl_base.specs.declared.word.Word.TheVariants as word
use Rattle.uvl_ast.specs.declared.expression.Expr.{Expr}
use Rattle.uvl_ast.specs.declared.feature.Feature.{Feature}
use Rattle.uvl_ast.specs.declared.file.File.{File}
use Rattle.uvl_ast.specs.Nesting.{EachValueNests}
use Rattle.uvl_ast.specs.Rules.{all_rules_of_root, EachRule}
use Rattle.uvl_grammar.specs.Sections.{SpellsSection, No_section, Lines, SpellsFeatures, No_features, Root, SpellsRule, Rule}
use Rattle.uvl_grammar.specs.File.{Spells, A_file}
use Rattle.uvl_faults.specs.Named.{NoneNamed}
use Rattle.uvl_faults.proofs.Walking.{walk, walk_append, Clear, clear_front, clear_back}
use Rattle.uvl_faults.proofs.Nesting.Limit.{over, never_over}
use Rattle.uvl_faults.proofs.Nesting.Shapes.{Leads}
use Rattle.uvl_faults.proofs.Nesting.Rules.{StandsWithin, expr_leads}
use Rattle.uvl_faults.proofs.Nesting.Trees.{TreeNests, AtLine, at_newline, at_indent, body_leads, tree_leads}

-- what holds of a root, if there is one
abbrev RootNests : Option Feature → Type 0
RootNests None = Unit {0}
RootNests (Some root) = TreeNests root

root_nests : (before fs : List Token) (root : Option Feature) → Clear over before fs → SpellsFeatures fs root → RootNests root
root_nests before fs root clear No_features = tt
root_nests before fs root clear (Root t newline indent dedent {xs} {root = tree} is ends opens spelled closes) =
    let front = indent ∷ newline ∷ t ∷ before in
    (tree_leads spelled.0 front xs tree (at_indent (newline ∷ t ∷ before) indent opens) (clear_front over front xs (dedent ∷ []) clear.1.1.1) spelled.1).0

-- a line of rules
rule_leads : Leads AtLine AtLine SpellsRule (StandsWithin 516)
rule_leads before ts e here clear (Rule {xs} newline r ends) =
    let found = expr_leads 128 [] (omega arith) before xs e (0, here, omega arith) (clear_front over before xs (newline ∷ []) clear) r in
    (omega (arith, found.0), subst AtLine (sym (walk_append before xs (newline ∷ []))) (at_newline (walk before xs) newline ends))

rules_stand : (w : Word) (before rs : List Token) (rules : List Expr) → Clear over before rs → SpellsSection w SpellsRule rs rules → All (StandsWithin 516) rules
rules_stand w before rs rules clear No_section = All-nil (StandsWithin 516)
rules_stand w before rs rules clear (Lines t newline {xs} is ends body) =
    (body_leads SpellsRule (StandsWithin 516) rule_leads (newline ∷ t ∷ before) xs rules (at_newline (t ∷ before) newline ends) clear.1.1 body).0

-- ---- files

rules_in_braces : (root : Option Feature) → RootNests root → All (StandsWithin 516) (all_rules_of_root root)
rules_in_braces None nests = All-nil (StandsWithin 516)
rules_in_braces (Some root) nests = nests.1

values_in_braces : (root : Option Feature) → RootNests root → IfSome root (EachValueNests 127)
values_in_braces None nests = tt
values_in_braces (Some root) nests = nests.0

pub file_nested : (tokens : List Token) (file : File) → Spells tokens file → ((k : ℕ) → NoneNamed tokens k) → IfSome file.root (EachValueNests 127)
file_nested tokens file (A_file {ns} {ls} {ms} {fs} {rs} finish {root} named included imported tree ruled is) none =
    let front = ns ++ ls ++ ms in
    let clear = clear_front over [] (front ++ fs) rs (clear_front over [] (front ++ fs ++ rs) (finish ∷ []) (never_over tokens none)) in
    values_in_braces root (root_nests (walk [] front) fs root (clear_back over [] front fs clear) tree)

pub file_grouped : (tokens : List Token) (file : File) → Spells tokens file → ((k : ℕ) → NoneNamed tokens k) → EachRule (StandsWithin 516) file
file_grouped tokens file (A_file {ns} {ls} {ms} {fs} {rs} finish {root} {rules} named included imported tree ruled is) none =
    let front = ns ++ ls ++ ms in
    let all = clear_front over [] (front ++ fs ++ rs) (finish ∷ []) (never_over tokens none) in
    let clear = clear_front over [] (front ++ fs) rs all in
    let braced = rules_in_braces root (root_nests (walk [] front) fs root (clear_back over [] front fs clear) tree) in
    let lines = rules_stand word.Constraints (walk [] (front ++ fs)) rs rules (clear_back over [] (front ++ fs) rs all) ruled in
    All-append (StandsWithin 516) (all_rules_of_root root) rules braced lines
