-- A feature, its group and its children stand one behind the other.
use Rattle.std.proofs.Common.{◌≡◌, ℕ, ◌+◌, ◌++◌, string_bytes, arith}
use Rattle.uvl_gen.specs.Generated.{feature_lines}
use Rattle.uvl_gen.proofs.Features.{written, written_alone, one_level}
use Rattle.uvl_gen.proofs.Numbers.{one_more}
use Rattle.uvl_gen.proofs.model.+put_feature.Goals as goal

pub loop-child-preserved : goal.loop-child-preserved
loop-child-preserved t c = (
  omega arith,
  λ levels enough.
      one_more (feature_lines levels c.args.n (c.args.tabs + 2)) _ c.loop-child.child _ _ _ c.loop-child.invariant.0 (c.loop-child.invariant.1 levels enough)
      (c.in_ok-put_feature.ensures levels (omega arith)),
)

pub returns-after-loop-child : goal.returns-after-loop-child
returns-after-loop-child t c = λ levels enough.
    one_level (λ (n : ℕ). string_bytes c.loop-child.text ≡ string_bytes c.args.text.now ++ feature_lines n c.args.n c.args.tabs c.args.number) c.args.n c.args.number levels c.requires.there enough
    (λ below few.
    written below c.args.n c.args.tabs c.args.number c.min-child-end.result c.loop-child.child _ _ _ _ _ _ (omega arith) c.requires.first c.in_ok-put_tabs.ensures c.in_ok-put_declaration.ensures
    c.in_ok-put_tabs-2.ensures c.in_ok-put_kind.ensures c.min-child-end.ensures (omega arith) (c.loop-child.invariant.1 below few))

pub returns-else-first-n : goal.returns-else-first-n
returns-else-first-n t c = λ levels enough.
    one_level (λ (n : ℕ). string_bytes c.put_declaration.new.text ≡ string_bytes c.args.text.now ++ feature_lines n c.args.n c.args.tabs c.args.number) c.args.n c.args.number levels c.requires.there enough
    (λ below few. written_alone below c.args.n c.args.tabs c.args.number _ _ _ (omega arith) c.requires.first c.in_ok-put_tabs.ensures c.in_ok-put_declaration.ensures)
