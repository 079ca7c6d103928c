-- Names that are written one a line.
use Rattle.std.proofs.Common.{◌≡◌, ◌<◌, ◌≤◌, ◌+◌, ℕ, List, [], ◌∷◌, ◌++◌, length, map, take, get_or, Option, refl, sym, ap, ◌∙◌}
use Rattle.std.specs.Prelude.{unwrap_or, codes}
use Rattle.std.specs.Option.{option_map}
use Rattle.std.proofs.lemmas.List.{append_assoc, map-append, take_all, take_more}
use Rattle.std.proofs.lemmas.Option.{slice_get-map, slice_get-get_or}
use Rattle.uvl_lines.specs.Lines.{joined}
use Rattle.uvl_model.specs.declared.rows.FeatureNo.{FeatureNo}
use Rattle.uvl_model.specs.declared.rows.FeatureRow.{FeatureRow}
use Rattle.uvl_model.specs.Names.{name_of}
use Rattle.uvl_run.specs.NameList.{name_line, name_list}

-- what stands behind lines
pub joined-end : (lines : List (List ℕ)) (end : List ℕ) → joined lines end ≡ joined lines [] ++ end
joined-end [] end = refl
joined-end (line ∷ lines) end = ap (λ (rest : List ℕ). line ++ 10 ∷ rest) (joined-end lines end) ∙ sym (append_assoc line (10 ∷ joined lines []) end)

-- a line more
pub joined-more : (lines : List (List ℕ)) (last : List ℕ) → joined (lines ++ last ∷ []) [] ≡ joined lines [] ++ last ++ 10 ∷ []
joined-more lines last = joined-more' lines ∙ sym (append_assoc (joined lines []) last (10 ∷ []))
  where
    joined-more' : (lines : List (List ℕ)) → joined (lines ++ last ∷ []) [] ≡ joined lines [] ++ (last ++ 10 ∷ [])
    joined-more' [] = refl
    joined-more' (line ∷ lines) =
        ap (λ (rest : List ℕ). line ++ 10 ∷ rest) (joined-more' lines) ∙ sym (append_assoc line (10 ∷ joined lines []) (last ++ 10 ∷ []))

-- the names of rows
abbrev names_of_rows : List FeatureRow → List (List ℕ)
names_of_rows rows = map (λ row. row.name) rows

-- the lines of features
abbrev lines_of : List FeatureRow → List FeatureNo → List (List ℕ)
lines_of rows features = map name_line (map (name_of (names_of_rows rows)) features)

-- a feature that is there has the name of its row
name_at : (rows : List FeatureRow) (k : ℕ) (blank : FeatureRow) → k < length rows → name_of (names_of_rows rows) (record { 0 = k }) ≡ (get_or rows k blank).name
name_at rows k blank within =
    ap (λ (o : Option (List ℕ)). unwrap_or o []) (slice_get-map (λ row. row.name) rows k ∙ ap (option_map (λ row. row.name)) (slice_get-get_or rows k blank within))

-- the line of a feature more
pub one_more : (rows : List FeatureRow) (features : List FeatureNo) (i : ℕ) (d : FeatureNo) (blank : FeatureRow) (before after : List ℕ)
    → i < length features → (get_or features i d).0 < length rows → before ≡ joined (lines_of rows (take i features)) []
    → after ≡ before ++ name_line (get_or rows (get_or features i d).0 blank).name ++ 10 ∷ [] → after ≡ joined (lines_of rows (take (i + 1) features)) []
one_more rows features i d blank before after within there is written =
    let feature : FeatureNo = get_or features i d in
    let front : List (List ℕ) = lines_of rows (take i features) in
    let last : List ℕ = name_line (name_of (names_of_rows rows) feature) in
    let longer : lines_of rows (take (i + 1) features) ≡ front ++ last ∷ [] =
    ap (lines_of rows) (take_more features i d within)
    ∙ ap (map name_line) (map-append (name_of (names_of_rows rows)) (take i features) (feature ∷ []))
    ∙ map-append name_line (map (name_of (names_of_rows rows)) (take i features)) (name_of (names_of_rows rows) feature ∷ []) in
    written ∙ ap (λ (bytes : List ℕ). bytes ++ name_line (get_or rows feature.0 blank).name ++ 10 ∷ []) is
    ∙ ap (λ (name : List ℕ). joined front [] ++ name_line name ++ 10 ∷ []) (sym (name_at rows feature.0 blank there))
    ∙ sym (joined-more front last) ∙ ap (λ (lines : List (List ℕ)). joined lines []) (sym longer)

-- behind the last one the reply ends
pub ended : (rows : List FeatureRow) (features : List FeatureNo) (i : ℕ) (bytes : List ℕ) → length features ≤ i → bytes ≡ joined (lines_of rows (take i features)) []
    → bytes ++ codes ".\n" ≡ name_list (map (name_of (names_of_rows rows)) features)
ended rows features i bytes past is =
    ap (λ (front : List ℕ). front ++ codes ".\n") is
    ∙ ap (λ (fs : List FeatureNo). joined (lines_of rows fs) [] ++ codes ".\n") (take_all i features past)
    ∙ sym (joined-end (lines_of rows features) (codes ".\n"))
