-- The first name, and then the others behind dots.
use Rattle.std.proofs.Common.{ℕ, List, ◌++◌, sym, ap, ◌∙◌, string_bytes}
use Rattle.std.specs.Prelude.{chars}
use Rattle.std.proofs.lemmas.List.{append_assoc}
use Rattle.uvl_placing.specs.Names.{dotted, behind_dots}
use Rattle.uvl_scope.proofs.Dotting.{on_ok, pushed}
use Rattle.uvl_scope.proofs.Standing.{behind_stands, name_stands}
use Rattle.uvl_scope.proofs.spelling.push_dotted.Goals as goal

pub returns-clause-pushed : goal.returns-clause-pushed
returns-clause-pushed c =
    let old = chars (string_bytes c.args.text.now) in
    let first = c.in-Some.first.now in
    let others = c.in-Some.others.now in
    on_ok c.push_behind_dots.result _ _
    (λ h. h ∙ ap (λ (cs : List ℕ). cs ++ behind_dots others) (pushed c.args.text.now c.push_str.new.self c.text.result.now first c.in_ok-push_str.ensures.bytes c.text.ensures.characters)
    ∙ append_assoc old first (behind_dots others)
    ∙ ap (λ (names : List (List ℕ)). old ++ dotted names) (sym c.in-Some.ensures.cases.0))
    c.push_behind_dots.ensures.pushed

pub returns-clause-name : goal.returns-clause-name
returns-clause-name c =
    on_ok c.push_behind_dots.result _ _
    (λ h. λ old.
    h (behind_stands c.args.text.now c.push_str.new.self c.text.result.now c.in-Some.first.now c.in_ok-push_str.ensures.bytes c.text.ensures.characters (name_stands c.in-Some.first.now c.text.ensures.name) old))
    c.push_behind_dots.ensures.name
