-- The file that is begun was not met yet.
use Rattle.std.proofs.Common.{refl, string_bytes}
use Rattle.uvl_imports.proofs.Growing.{begun_sound}
use Rattle.uvl_imports.proofs.set_builder.SetBuilder.begin.Goals as goal

pub returns-clause-sound : goal.returns-clause-sound
returns-clause-sound c =
    begun_sound c.args.self.now (string_bytes c.args.path) c.push.new.self c.args.count _ c.requires.sound c.requires.room c.requires.light c.requires.apart c.requires.new c.in_ok-push.ensures.pushed refl
