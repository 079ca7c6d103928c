-- Each rule is made, and says what it does.
use Rattle.std.proofs.Common.{◌∷◌, ◌+◌, [], List, ℕ, drop, sym, ap, ◌∙◌, subst}
use Rattle.std.proofs.lemmas.List.{drop_all}
use Rattle.std.proofs.lemmas.List.Elements.{All-head}
use Rattle.uvl_ast.specs.declared.expression.Expr.{Expr}
use Rattle.uvl_resolve.specs.steps.Rules.{IsPlain, heads_in, made_of}
use Rattle.uvl_resolve.proofs.Heads.{names_with}
use Rattle.uvl_resolve.proofs.Reading.{rule_read}
use Rattle.uvl_resolve.proofs.Saying.{RulesGoOn, one_said, rules_begin, rules_end, rules_step}
use Rattle.uvl_resolve.proofs.Texts.{next_item}
use Rattle.uvl_resolve.proofs.rules.RuleBuilder.add_rules.Goals as goal

pub rule_of-requires-clause-made : goal.rule_of-requires-clause-made
rule_of-requires-clause-made c =
    let all = c.args.rules.now in
    let i = c.loop-rule.rule-index in
    let item = c.rule-item.result in
    let go = subst (λ (rest : List Expr). RulesGoOn (heads_in c.args.scope.now) c.args.offset c.args.self.now.rules c.loop-rule.self.rules all rest)
    (next_item all i item c.loop-rule-test.true c.rule-item.is) c.loop-rule.invariant in
    let heads = heads_in c.args.scope.now in
    let plain = All-head (IsPlain heads) item (drop (i + 1) all) go.plain in
    let reads = rule_read heads c.args.offset plain.some item plain.no_fault in
    (reads.made, ap (λ (ns : List (List ℕ)). made_of ns c.args.offset item) (sym (names_with c.args.scope.now.names c.args.scope.now.attributes)) ∙ reads.is)

pub loop-rule-init : goal.loop-rule-init
loop-rule-init c = rules_begin (heads_in c.args.scope.now) c.args.offset c.args.self.now.rules c.args.rules.now c.requires.plain

pub loop-rule-preserved : goal.loop-rule-preserved
loop-rule-preserved c =
    let all = c.args.rules.now in
    let i = c.loop-rule.rule-index in
    let item = c.rule-item.result in
    let names = (heads_in c.args.scope.now) in
    let go = subst (λ (rest : List Expr). RulesGoOn names c.args.offset c.args.self.now.rules c.loop-rule.self.rules all rest)
    (next_item all i item c.loop-rule-test.true c.rule-item.is) c.loop-rule.invariant in
    rules_step names c.args.offset c.args.self.now.rules c.loop-rule.self.rules c.push.new.self all (item ∷ []) (drop (i + 1) all) go
    (one_said names c.args.offset item c.in_ok-made.made c.loop-rule.self.rules c.push.new.self (All-head (IsPlain names) item (drop (i + 1) all) go.plain)
    (ap (λ (ns : List (List ℕ)). made_of ns c.args.offset item) (names_with c.args.scope.now.names c.args.scope.now.attributes) ∙ c.in_ok-made.ensures) c.in_ok-push.ensures.ok)

pub returns : goal.returns
returns c =
    let all = c.args.rules.now in
    rules_end (heads_in c.args.scope.now) c.args.offset c.args.self.now.rules c.loop-rule.self.rules all
    (subst (λ (rest : List Expr). RulesGoOn (heads_in c.args.scope.now) c.args.offset c.args.self.now.rules c.loop-rule.self.rules all rest)
    (drop_all c.loop-rule.rule-index all c.loop-rule-test.false) c.loop-rule.invariant)
