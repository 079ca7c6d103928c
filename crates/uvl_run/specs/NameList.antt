-- The reply that is a list of features, one name a line.
use Rattle.std.specs.Prelude.{ℕ, List, map, encode_utf8_all}
use Rattle.uvl_base.specs.Name.{written_name}
use Rattle.uvl_lines.specs.Replies.{reply_of}

-- the line of a name: its text, in double quotes where UVL needs them
abbrev pub name_line : List ℕ → List ℕ
name_line name = encode_utf8_all (written_name name)

-- a reply of these names, in their order
abbrev pub name_list : List (List ℕ) → List ℕ
name_list names = reply_of (map name_line names)
