-- By what is found behind the qualifier.
use Rattle.std.proofs.Common.{List, ℕ, ◌++◌, ap, sym, ◌∙◌, lit<}
use Rattle.std.proofs.lemmas.Str.Pattern.{strip_prefix_char}
use Rattle.uvl_scope.proofs.BehindText.{not_behind, behind_some, behind_none}
use Rattle.uvl_scope.proofs.names.behind.Goals as goal

pub returns-in-Some-clause-some : goal.returns-in-Some-clause-some
returns-in-Some-clause-some c =
    let cut = c.in-Some.ensures.cases in
    behind_some c.args.qualifier.now c.args.name.now c.utf8.qualifier c.utf8.name c.in-Some.rest.now
    (cut.1.1 ∙ ap (λ (t : List ℕ). c.args.qualifier.now ++ t) (sym cut.2))
    c.strip_prefix-in-Some.result (strip_prefix_char 46 c.in-Some.rest.now c.strip_prefix-in-Some.result c.strip_prefix-in-Some.ensures.cases (lit< tt))

pub returns-in-Some-clause-none : goal.returns-in-Some-clause-none
returns-in-Some-clause-none c =
    let cut = c.in-Some.ensures.cases in
    behind_none c.args.qualifier.now c.args.name.now c.utf8.qualifier c.utf8.name c.in-Some.rest.now
    (cut.1.1 ∙ ap (λ (t : List ℕ). c.args.qualifier.now ++ t) (sym cut.2))
    c.strip_prefix-in-Some.result (strip_prefix_char 46 c.in-Some.rest.now c.strip_prefix-in-Some.result c.strip_prefix-in-Some.ensures.cases (lit< tt))

pub returns-in-None-clause-none : goal.returns-in-None-clause-none
returns-in-None-clause-none c = not_behind c.args.qualifier.now c.args.name.now c.utf8.qualifier c.utf8.name c.in-None.ensures.cases
