-- A set that is loaded is a set that the main file imports: down the order of reading.
use Rattle.std.proofs.Common.{◌≡◌, ◌⊎◌, inl, inr, ℕ, zero, suc, ◌+◌, ◌-◌, ◌<◌, ◌≤◌, Bool, true, false, ltb, List, [], ◌∷◌, ◌++◌, append_assoc, append-nil, length, length-append, map, Option, Some, None, Ok, Err, slice_get, refl, sym, ap, ◌∙◌, subst, arith, not, if◌then◌else◌, chars}
use Rattle.std.specs.Prelude.{⊤}
use Rattle.std.specs.List.{list_any}
use Rattle.std.specs.Str.{IsUtf8}
use Rattle.std.proofs.lemmas.Bool.{or_parts}
use Rattle.std.proofs.lemmas.List.{map-append}
use Rattle.std.proofs.lemmas.Option.{none-some}
use Rattle.std.proofs.lemmas.Str.{encodes-chars}
use Rattle.uvl_outside.specs.Files.{Contents}
use Rattle.uvl_base.specs.declared.place.Place.{Place}
use Rattle.uvl_lexer.specs.TokenList.{TokensAreAList}
use Rattle.uvl_ast.specs.declared.file.File.{File}
use Rattle.uvl_ast.specs.declared.file.Import.{Import}
use Rattle.uvl_imports.specs.declared.file_set.Loaded.{Loaded}
use Rattle.uvl_imports.specs.declared.set_builder.SetBuilder.{SetBuilder}
use Rattle.uvl_imports.specs.ImportSets.{path_at, AreTargets, IsMember, AreMembers, IsImported, IsImportSet, StandAtTexts, EachLoadedSetIsAnImportSet}
use Rattle.uvl_imports.specs.Limits.{most_files, most_import_depth}
use Rattle.uvl_imports.specs.Loading.{from_main}
use Rattle.uvl_imports.specs.Order.{Unfolds}
use Rattle.uvl_imports.specs.Paths.{target_of, qualifier_of, has_bad_name, is_bad_part}
use Rattle.uvl_imports.specs.Reading.{Reading, says, wrong, Reads, ReadsEach, IsFileOf}
use Rattle.uvl_imports.specs.Sets.{IsWholeFile}
use Rattle.uvl_imports.specs.Texts.{has, place_of, AreDistinct}
use Rattle.uvl_imports.specs.Walking.{Met, Outcome, ReadsFile, after, at_depth, begun, bytes_left, deeper, ended, find_or_read, loaded_file, nothing, path_of, paths_of, read_content, read_line, read_lines, read_text}
use Rattle.uvl_imports.specs.steps.Growing.{IsSound}
use Rattle.uvl_imports.proofs.Distinct.{AreDistinct-push}
use Rattle.uvl_imports.proofs.Growing.{begun_sound, ended_sound, not_loaded, get-push, paths-push}
use Rattle.uvl_imports.proofs.Places.{less, at_most, below_or_from, get-front, get-last, place-there, place-none, path-inside, path-last, targets-front, targets-push, targets-count, targets-inside, imported-front}
use Rattle.uvl_imports.proofs.Unfolded.{HasUnfolded, Ends, ends-nothing, ends-known, ends-more, ends-file, unfolded-file}

-- the set that grows, with an index that has the paths of its files
abbrev set_of : Met → SetBuilder
set_of met = record { index = paths_of met.loaded; files = met.loaded; way = met.way; bytes = met.bytes }

-- what holds of what is met, at each step
pub record IsGood (contents : Contents) (met : Met) : Type 0 where
  pub sound : IsSound (set_of met)
  pub members : AreMembers contents met.loaded
  pub unfolded : (n : ℕ) → n < length met.loaded → HasUnfolded met.loaded n

-- a file may be begun
pub record IsReady (contents : Contents) (path : List ℕ) (met : Met) : Type 0 where
  pub good : IsGood contents met
  pub room : length met.loaded + length met.way < most_files
  pub apart : has met.way path ≡ false
  pub new : has (paths_of met.loaded) path ≡ false

-- a file has been read from the one met to the other
pub record IsFileRead (contents : Contents) (path : List ℕ) (before met : Met) (position : ℕ) : Type 0 where
  pub good : IsGood contents met
  pub way : met.way ≡ before.way
  pub more : List Loaded
  pub grown : met.loaded ≡ before.loaded ++ more
  pub at : path_at met.loaded position ≡ Some path
  pub last : position + 1 ≡ length met.loaded
  pub imported : (n : ℕ) → length before.loaded ≤ n → n < position → IsImported met.loaded n
  pub ends : Ends before.loaded met.loaded (position ∷ [])

-- a line has
pub record IsLineRead (contents : Contents) (target : List ℕ) (before met : Met) (position : ℕ) : Type 0 where
  pub good : IsGood contents met
  pub way : met.way ≡ before.way
  pub more : List Loaded
  pub grown : met.loaded ≡ before.loaded ++ more
  pub at : path_at met.loaded position ≡ Some target
  pub imported : (n : ℕ) → length before.loaded ≤ n → n < length met.loaded → IsImported met.loaded n ⊎ (n ≡ position)
  pub ends : Ends before.loaded met.loaded (position ∷ [])

-- so have the first lines of a file, with these qualifiers and targets
pub record AreLinesRead (contents : Contents) (old : List Loaded) (way : List (List ℕ)) (path : List ℕ) (lines : List Import) (qualifiers : List (List ℕ)) (met : Met) (targets : List ℕ) : Type 0 where
  pub good : IsGood contents met
  pub way_is : met.way ≡ way
  pub more : List Loaded
  pub grown : met.loaded ≡ old ++ more
  pub named : qualifiers ≡ map qualifier_of lines
  pub distinct : AreDistinct qualifiers
  pub are : AreTargets met.loaded path lines targets
  pub imported : (n : ℕ) → length old ≤ n → n < length met.loaded → IsImported met.loaded n ⊎ ((line : ℕ) × (slice_get targets line ≡ Some n))
  pub ends : Ends old met.loaded targets

-- of outcomes
abbrev FileOk : Contents → List ℕ → Met → Outcome ℕ → Type 0
FileOk contents path before (Ok pair) = IsFileRead contents path before pair.0 pair.1
FileOk contents path before (Err fault) = ⊤

abbrev TargetOk : Contents → List ℕ → Met → Outcome ℕ → Type 0
TargetOk contents target before (Ok pair) = IsLineRead contents target before pair.0 pair.1
TargetOk contents target before (Err fault) = ⊤

abbrev LineOk : Contents → List ℕ → List (List ℕ) → Import → Met → Outcome ℕ → Type 0
LineOk contents path earlier line before (Ok pair) = (has earlier (qualifier_of line) ≡ false) × IsLineRead contents (target_of path line) before pair.0 pair.1
LineOk contents path earlier line before (Err fault) = ⊤

abbrev LinesOk : Contents → List Loaded → List (List ℕ) → List ℕ → List Import → Outcome (List ℕ) → Type 0
LinesOk contents old way path all (Ok pair) = AreLinesRead contents old way path all (map qualifier_of all) pair.0 pair.1
LinesOk contents old way path all (Err fault) = ⊤

abbrev Keeps : Contents → Option ReadsFile → Type 0
Keeps contents None = ⊤
Keeps contents (Some go) = (path : List ℕ) (met : Met) → IsReady contents path met → FileOk contents path met (go path met)

module _ (contents : Contents) where
  -- a target that is loaded, or is read
  found : (target : List ℕ) (met : Met) (position : ℕ) → IsGood contents met → place_of target (paths_of met.loaded) ≡ Some position → IsLineRead contents target met met position
  found target met position good e = record {
    good = good;
    way = refl;
    more = [];
    grown = sym (append-nil met.loaded);
    at = place-there (paths_of met.loaded) target position e;
    imported = λ n from inside. absurd (omega (arith, from, inside));
    ends = ends-known met.loaded position (good.unfolded position (path-inside met.loaded target position (place-there (paths_of met.loaded) target position e)));
  }

  last_or_front : (n position count : ℕ) → position + 1 ≡ count → n < count → (n < position) ⊎ (n ≡ position)
  last_or_front n position count e inside = elim (below_or_from n position) [ inl below ↦ inl below | inr from ↦ inr (omega (arith, e, inside, from)) ]

  read_as_target : (target : List ℕ) (before : Met) (o : Outcome ℕ) → FileOk contents target before o → TargetOk contents target before o
  read_as_target target before (Err fault) is = tt
  read_as_target target before (Ok pair) is = record {
    good = is.good;
    way = is.way;
    more = is.more;
    grown = is.grown;
    at = is.at;
    imported = λ n from inside. elim (last_or_front n pair.1 (length pair.0.loaded) is.last inside) [ inl below ↦ inl (is.imported n from below) | inr same ↦ inr same ];
    ends = is.ends;
  }

  module _ (go : ReadsFile) (keeps : Keeps contents (Some go)) (path : List ℕ) (place : Place) (target : List ℕ) (met : Met) (good : IsGood contents met) (apart : has met.way target ≡ false) where
    by_room : (b : Bool) (fault : Outcome ℕ) → TargetOk contents target met fault → ltb (length met.loaded + length met.way) most_files ≡ b → place_of target (paths_of met.loaded) ≡ None → TargetOk contents target met (if b then go target met else fault)
    by_room true fault is e none =
        read_as_target target met (go target met)
        (keeps target met (record { good = good; room = less (length met.loaded + length met.way) most_files e; apart = apart; new = place-none (paths_of met.loaded) target none }))
    by_room false fault is e none = is

    by_place : (o : Option ℕ) → place_of target (paths_of met.loaded) ≡ o → TargetOk contents target met (find_or_read go path place target met o)
    by_place (Some position) e = found target met position good e
    by_place None e = by_room (ltb (length met.loaded + length met.way) most_files) _ tt refl e

  by_depth : (below : Option ReadsFile) → Keeps contents below → (path : List ℕ) (place : Place) (target : List ℕ) (met : Met) → IsGood contents met → has met.way target ≡ false
      → TargetOk contents target met (at_depth below path place target met)
  by_depth None keeps path place target met good apart = tt
  by_depth (Some go) keeps path place target met good apart = by_place go keeps path place target met good apart (place_of target (paths_of met.loaded)) refl

  -- a line
  named_line : (path : List ℕ) (earlier : List (List ℕ)) (line : Import) (met : Met) (o : Outcome ℕ) → has earlier (qualifier_of line) ≡ false → TargetOk contents (target_of path line) met o → LineOk contents path earlier line met o
  named_line path earlier line met (Ok pair) new is = (new, is)
  named_line path earlier line met (Err fault) new is = tt

  module _ (below : Option ReadsFile) (keeps : Keeps contents below) (path : List ℕ) (earlier : List (List ℕ)) (line : Import) (met : Met) (good : IsGood contents met) where
    abbrev Ok_here : Outcome ℕ → Type 0
    Ok_here o = LineOk contents path earlier line met o

    by_way : (b : Bool) (fault : Outcome ℕ) → Ok_here fault → has met.way (target_of path line) ≡ b → has earlier (qualifier_of line) ≡ false
        → Ok_here (if b then fault else at_depth below path line.place (target_of path line) met)
    by_way true fault is e new = is
    by_way false fault is e new = named_line path earlier line met _ new (by_depth below keeps path line.place (target_of path line) met good e)

    by_name : (b : Bool) (fault cycle : Outcome ℕ) → Ok_here fault → Ok_here cycle → has_bad_name earlier line ≡ b
        → Ok_here (if b then fault else (if has met.way (target_of path line) then cycle else at_depth below path line.place (target_of path line) met))
    by_name true fault cycle is other e = is
    by_name false fault cycle is other e = by_way (has met.way (target_of path line)) cycle other refl (or_parts (list_any is_bad_part line.path.parts) (has earlier (qualifier_of line)) e).1

    line_read : Ok_here (read_line below path earlier line met)
    line_read = by_name (has_bad_name earlier line) _ _ tt tt refl

  -- lines
  module _ (old : List Loaded) (way : List (List ℕ)) (path : List ℕ) where
    module _ (done : List Import) (earlier : List (List ℕ)) (met : Met) (targets : List ℕ) (far : AreLinesRead contents old way path done earlier met targets) (line : Import) (then_met : Met) (target : ℕ) (is : IsLineRead contents (target_of path line) met then_met target) where
      moved : (n : ℕ) → IsImported met.loaded n → IsImported then_met.loaded n
      moved n imported = let P : List Loaded → Type 0 = λ l. IsImported l n in subst P (sym is.grown) (imported-front met.loaded is.more n imported)

      one_more : has earlier (qualifier_of line) ≡ false → AreLinesRead contents old way path (done ++ line ∷ []) (earlier ++ qualifier_of line ∷ []) then_met (targets ++ target ∷ [])
      one_more new =
          let P : List Loaded → Type 0 = λ l. AreTargets l path done targets in
          let Q : List Loaded → Type 0 = λ l. Ends old l (targets ++ target ∷ []) in
          let R : List Loaded → Type 0 = λ l. Ends met.loaded l (target ∷ []) in
          record {
            good = is.good;
            way_is = is.way ∙ far.way_is;
            more = far.more ++ is.more;
            grown = is.grown ∙ ap (λ (l : List Loaded). l ++ is.more) far.grown ∙ append_assoc old far.more is.more;
            named = ap (λ (qs : List (List ℕ)). qs ++ qualifier_of line ∷ []) far.named ∙ sym (map-append qualifier_of done (line ∷ []));
            distinct = AreDistinct-push earlier (qualifier_of line) far.distinct new;
            are = targets-push then_met.loaded path done targets line target (subst P (sym is.grown) (targets-front met.loaded is.more path done targets far.are)) is.at;
            imported = λ n from inside. elim (below_or_from n (length met.loaded)) [
              | inl below ↦ elim (far.imported n from below) [ inl imported ↦ inl (moved n imported) | inr there ↦ inr (there.0, get-front targets (target ∷ []) n there.0 there.1) ]
              | inr behind ↦ elim (is.imported n behind inside) [ inl imported ↦ inl imported | inr same ↦ inr (length targets, get-last targets target ∙ ap (λ (m : ℕ). Some m) (sym same)) ]
            ];
            ends = subst Q (sym is.grown) (ends-more old met.loaded is.more targets (target ∷ []) far.ends (subst R is.grown is.ends));
          }

    module _ (below : Option ReadsFile) (keeps : Keeps contents below) (all : List Import) where
      after_line : (earlier : List (List ℕ)) (line : Import) (met : Met) (o : Outcome ℕ) (next : Met → ℕ → Outcome (List ℕ)) → LineOk contents path earlier line met o
          → ((then_met : Met) (target : ℕ) → has earlier (qualifier_of line) ≡ false → IsLineRead contents (target_of path line) met then_met target → LinesOk contents old way path all (next then_met target))
          → LinesOk contents old way path all (after o next)
      after_line earlier line met (Ok pair) next is goes = goes pair.0 pair.1 is.0 is.1
      after_line earlier line met (Err fault) next is goes = tt

      lines_read : (done lines : List Import) (earlier : List (List ℕ)) (targets : List ℕ) (met : Met) → done ++ lines ≡ all → AreLinesRead contents old way path done earlier met targets
          → LinesOk contents old way path all (read_lines below path earlier lines targets met)
      lines_read done [] earlier targets met e far =
          let P : List (List ℕ) → Type 0 = λ qs. AreLinesRead contents old way path done qs met targets in
          let Q : List Import → Type 0 = λ ls. AreLinesRead contents old way path ls (map qualifier_of ls) met targets in
          subst Q (sym (append-nil done) ∙ e) (subst P far.named far)
      lines_read done (line ∷ lines) earlier targets met e far =
          after_line earlier line met (read_line below path earlier line met)
          (λ then_met target. read_lines below path (earlier ++ qualifier_of line ∷ []) lines (targets ++ target ∷ []) then_met)
          (line_read below keeps path earlier line met far.good)
          (λ then_met target new is. lines_read (done ++ line ∷ []) lines (earlier ++ qualifier_of line ∷ []) (targets ++ target ∷ []) then_met
          (append_assoc done (line ∷ []) lines ∙ e) (one_more done earlier met targets far line then_met target is new))

  -- a file
  module _ (lists : TokensAreAList) (path : List ℕ) (before : Met) (ready : IsReady contents path before) (bytes : List ℕ) (there : contents path ≡ Some bytes) (utf8 : IsUtf8 path) where
    abbrev inner : List (List ℕ)
    inner = before.way ++ path ∷ []

    start : length bytes ≤ bytes_left before → AreLinesRead contents before.loaded inner path [] [] (begun path (length bytes) before) []
    start light = record {
      good = record {
        sound = begun_sound (set_of before) path inner (length bytes) (before.bytes + length bytes) ready.good.sound ready.room light ready.apart ready.new refl refl;
        members = ready.good.members;
        unfolded = ready.good.unfolded;
      };
      way_is = refl;
      more = [];
      grown = sym (append-nil before.loaded);
      named = refl;
      distinct = tt;
      are = tt;
      imported = λ n from inside. absurd (omega (arith, from, inside));
      ends = ends-nothing before.loaded;
    }

    module _ (file : File) (is : IsFileOf bytes file) (met : Met) (targets : List ℕ) (far : AreLinesRead contents before.loaded inner path file.imports (map qualifier_of file.imports) met targets) where
      abbrev last_file : Loaded
      last_file = loaded_file path file targets

      abbrev files_then : List Loaded
      files_then = met.loaded ++ last_file ∷ []

      whole : IsWholeFile (length met.loaded) last_file
      whole = record {
        written = record { tokens = is.tokens; list = lists (chars bytes) is.tokens is.read.read; parsed = is.parsed };
        targets = targets-count met.loaded path file.imports targets far.are;
        in_front = targets-inside met.loaded path file.imports targets far.are;
        qualifiers = far.distinct;
      }

      sound_then : IsSound (record { index = paths_of files_then; files = files_then; way = before.way; bytes = met.bytes })
      sound_then =
          let new = not_loaded (set_of met) path utf8 file targets before.way far.good.sound far.way_is in
          ended_sound (set_of met) path utf8 file targets before.way far.good.sound far.way_is (paths_of files_then) true (ap not (sym new)) (paths-push met.loaded path file targets utf8) whole

      member_front : (loaded : Loaded) → IsMember contents met.loaded loaded → IsMember contents files_then loaded
      member_front loaded member = record {
        bytes = member.bytes;
        there = member.there;
        says = member.says;
        targets = targets-front met.loaded (last_file ∷ []) (path_of loaded) loaded.file.imports loaded.targets member.targets;
      }

      member_last : IsMember contents files_then last_file
      member_last =
          let same : path ≡ path_of last_file = sym (encodes-chars path utf8) in
          let P : List ℕ → Type 0 = λ p. contents p ≡ Some bytes in
          let Q : List ℕ → Type 0 = λ p. AreTargets files_then p file.imports targets in
          record {
            bytes = bytes;
            there = subst P same there;
            says = is;
            targets = subst Q same (targets-front met.loaded (last_file ∷ []) path file.imports targets far.are);
          }

      members_then : AreMembers contents files_then
      members_then n loaded at =
          let P : Loaded → Type 0 = λ l. IsMember contents files_then l in
          elim (get-push met.loaded last_file loaded n at) [
            | inl old ↦ member_front loaded (far.good.members n loaded old)
            | inr last ↦ subst P (sym last.1) member_last
          ]

      file_ended : FileOk contents path before (ended before.way path file met targets)
      file_ended = record {
        good = record { sound = sound_then; members = members_then; unfolded = unfolded-file before.loaded met.loaded last_file far.ends far.good.unfolded };
        way = refl;
        more = far.more ++ last_file ∷ [];
        grown = ap (λ (l : List Loaded). l ++ last_file ∷ []) far.grown ∙ append_assoc before.loaded far.more (last_file ∷ []);
        at = path-last met.loaded path file targets utf8;
        last = omega (arith, length-append met.loaded (last_file ∷ []));
        imported = λ n from inside. elim (far.imported n from inside) [
          | inl imported ↦ imported-front met.loaded (last_file ∷ []) n imported
          | inr target ↦ record { importer = length met.loaded; behind = inside; loaded = last_file; at = get-last met.loaded last_file; line = target.0; imports = target.1 }
        ];
        ends = ends-file before.loaded met.loaded last_file far.ends;
      }

    after_lines : (file : File) (o : Outcome (List ℕ)) → LinesOk contents before.loaded inner path file.imports o → IsFileOf bytes file → FileOk contents path before (after o (ended before.way path file))
    after_lines file (Ok pair) far is = file_ended file is pair.0 pair.1 far
    after_lines file (Err fault) far is = tt

    module _ (below : Option ReadsFile) (keeps : Keeps contents below) (light : length bytes ≤ bytes_left before) where
      text_read : (reading : Reading) → Reads bytes reading → FileOk contents path before (read_text below path (length bytes) before reading)
      text_read (wrong place kind) is = tt
      text_read (says file) is =
          after_lines file (read_lines below path [] file.imports [] (begun path (length bytes) before))
          (lines_read before.loaded inner path below keeps file.imports [] file.imports [] [] (begun path (length bytes) before) refl (start light)) is

  module _ (texts : StandAtTexts contents) (lists : TokensAreAList) (read : List ℕ → Reading) (each : ReadsEach read) where
    module _ (below : Option ReadsFile) (keeps : Keeps contents below) (path : List ℕ) (before : Met) (ready : IsReady contents path before) where
      by_length : (bytes : List ℕ) → contents path ≡ Some bytes → (b : Bool) (fault : Outcome ℕ) → FileOk contents path before fault → ltb (bytes_left before) (length bytes) ≡ b
          → FileOk contents path before (if b then fault else read_text below path (length bytes) before (read bytes))
      by_length bytes there true fault is e = is
      by_length bytes there false fault is e =
          text_read lists path before ready bytes there (texts path bytes there) below keeps (at_most (bytes_left before) (length bytes) e) (read bytes) (each bytes)

      content_read : (content : Option (List ℕ)) → contents path ≡ content → FileOk contents path before (read_content read below path before content)
      content_read None there = tt
      content_read (Some bytes) there = by_length bytes there (ltb (bytes_left before) (length bytes)) _ tt refl

    keeps_deeper : (depth : ℕ) → Keeps contents (deeper contents read depth)
    unfolding deeper
    keeps_deeper zero = tt
    keeps_deeper (suc depth) = λ path met ready. content_read (deeper contents read depth) (keeps_deeper depth) path met ready (contents path) refl

    none_there : {A : Type 0} (n : ℕ) (x : A) → slice_get [] n ≡ Some x → ⊥
    none_there n x at = none-some x at

    nothing_good : IsGood contents nothing
    nothing_good = record {
      sound = record {
        indexed = refl;
        few = omega arith;
        light = omega arith;
        apart = λ path there. refl;
        way_distinct = tt;
        files_distinct = tt;
        whole = λ n loaded at. absurd (none_there n loaded at);
      };
      members = λ n loaded at. absurd (none_there n loaded at);
      unfolded = λ n inside. absurd (omega (arith, inside));
    }

    main_read : (main : List ℕ) → FileOk contents main nothing (from_main contents read main)
    main_read main =
        content_read (deeper contents read most_import_depth) (keeps_deeper most_import_depth) main nothing
        (record { good = nothing_good; room = omega arith; apart = refl; new = refl }) (contents main) refl

  set_read : (main : List ℕ) (met : Met) (position : ℕ) → IsFileRead contents main nothing met position → IsImportSet contents main met.loaded
  set_read main met position is =
      let P : ℕ → Type 0 = λ n. path_at met.loaded n ≡ Some main in
      let last : position ≡ length met.loaded - 1 = omega (arith, is.last) in
      let Q : ℕ → Type 0 = λ n. Unfolds met.loaded (n ∷ []) is.ends.list in
      record {
        whole = record {
          some = omega (arith, is.last);
          few = omega (arith, is.good.sound.few);
          distinct = is.good.sound.files_distinct;
          each = is.good.sound.whole;
        };
        members = is.good.members;
        last = subst P last is.at;
        imported = λ n inside. is.imported n (omega arith) (omega (arith, inside, is.last));
        order = record { unfolded = is.ends.list; unfolds = subst Q last is.ends.unfolds; counts_up = is.ends.counts };
      }

pub each_loaded_set : TokensAreAList → EachLoadedSetIsAnImportSet
each_loaded_set lists contents main files texts loads =
    let Ok_here : Outcome ℕ → Type 0 = λ o. FileOk contents main nothing o in
    let P : List Loaded → Type 0 = λ l. IsImportSet contents main l in
    subst P (sym loads.loaded) (set_read contents main loads.met loads.position (subst Ok_here loads.ends (main_read contents texts lists loads.read loads.reads main)))
