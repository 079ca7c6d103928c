-- One more name behind a dot.
use Rattle.std.proofs.Common.{◌∷◌, [], refl, ◌∙◌}
use Rattle.uvl_scope.proofs.Dotting.{behind_dot, dot-is}
use Rattle.uvl_scope.proofs.Standing.{behind_stands, name_stands}
use Rattle.uvl_scope.proofs.spelling.push_behind_dots.Goals as goal

pub loop-name-preserved : goal.loop-name-preserved
loop-name-preserved c =
    let name = c.name-item.result in
    record {
      text = behind_dot c.loop-name.text c.push_str.new.self c.push_str-in-loop-name.new.self c.text.result.now name c.args.names.now
          c.loop-name.name-index c.in_ok-push_str.ensures.bytes c.in_ok-push_str-2.ensures.bytes c.text.ensures.characters c.loop-name-test.true
          c.name-item.is
          ∙ c.loop-name.invariant.text;
      name = λ old.
          behind_stands c.push_str.new.self c.push_str-in-loop-name.new.self c.text.result.now name c.in_ok-push_str-2.ensures.bytes c.text.ensures.characters (name_stands name c.text.ensures.name)
          (behind_stands c.loop-name.text c.push_str.new.self (46 ∷ []) (46 ∷ []) c.in_ok-push_str.ensures.bytes dot-is refl (c.loop-name.invariant.name old));
    }
