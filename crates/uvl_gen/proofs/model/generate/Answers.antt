-- The pieces of the text stand one behind the other.
use Rattle.std.proofs.Common.{◌≡◌, ℕ, ◌++◌, List, [], codes, string_bytes, arith, ap, ◌∙◌}
use Rattle.uvl_gen.specs.Generated.{generated, lines_of_feature, rule_lines}
use Rattle.uvl_gen.proofs.model.generate.Goals as goal

pieces : (none head features rules_head rules last : List ℕ) → none ≡ []
    → (((none ++ head) ++ features) ++ rules_head) ++ rules ++ last ≡ head ++ features ++ rules_head ++ rules ++ last
pieces none head features rules_head rules last e = ap (λ bytes. (((bytes ++ head) ++ features) ++ rules_head) ++ rules ++ last) e

pub returns : goal.returns
unfolding generated
returns c =
    (let whole : c.into_bytes.result.items ≡ string_bytes c.push_str-3.new.self = ap (λ bytes. bytes.items) c.into_bytes.ensures.value in whole) ∙ c.in_ok-push_str-3.ensures.bytes
    ∙ ap (λ bytes. bytes ++ codes "\tsum(cost) <= 25\n")
    (c.in_ok-put_rules.ensures
    ∙ ap (λ bytes. bytes ++ rule_lines c.args.n)
    (c.in_ok-push_str-2.ensures.bytes
    ∙ ap (λ bytes. bytes ++ codes "constraints\n")
    (c.in_ok-put_feature.ensures c.args.n (omega arith) ∙ ap (λ bytes. bytes ++ lines_of_feature c.args.n 1 1) (c.in_ok-push_str.ensures.bytes ∙ ap (λ bytes. bytes ++ codes "features\n") c.new-text.ensures.bytes))))
