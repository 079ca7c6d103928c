-- `all` over the characters of a text.
use Rattle.std.proofs.Common.{rules, tests}
use Rattle.std.proofs.lemmas.Iterator.{YieldsList-from_chars}
use Rattle.std.proofs.lemmas.Iterator.Search.{all_from_yields_List}
use Rattle.uvl_base.specs.Name.{may_stand_in_name}
use Rattle.uvl_base.proofs.name.all_may_stand.Goals as goal

pub returns : goal.returns
returns c =
    all_from_yields_List may_stand_in_name _ _ _ c.all.ensures.ran (YieldsList-from_chars c.args.text.now c.utf8.text cc) (λ x b q k. search (rules, tests))
