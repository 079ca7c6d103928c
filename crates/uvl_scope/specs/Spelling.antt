-- Texts that stand in front of names.
use Rattle.std.specs.Prelude.{ℕ, List, IsTrue}
use Rattle.std.specs.List.{list_all}
use Rattle.uvl_base.specs.Name.{may_stand_in_name}

-- each character of the text may stand in a name
abbrev pub MayStandInName : List ℕ → Type 0
MayStandInName text = IsTrue (list_all may_stand_in_name text)
