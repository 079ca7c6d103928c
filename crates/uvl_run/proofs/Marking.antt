-- A mark for each named feature stands for the list of the names.
use Rattle.std.proofs.Common.{◌≡◌, ◌↔◌, ◌<◌, ◌+◌, ℕ, ◌||◌, Bool, true, false, List, [], ◌∷◌, ◌++◌, length, take, get_or, set, replicate, Some, refl, sym, ap, ◌∙◌, subst, inl, inr, arith}
use Rattle.std.specs.List.{All, slice_get}
use Rattle.std.specs.Str.{bytes_eq}
use Rattle.std.proofs.lemmas.Bool.{and_from, or_from, or_left, or_right, cases_eq, cases_lt, false_from_ne_true}
use Rattle.std.proofs.lemmas.List.{length-map, length-replicate, take_more, get_or-replicate, get_or-set_same, get_or-set_other, get_or_past}
use Rattle.std.proofs.lemmas.List.Folds.{list_any-append, list_all-append}
use Rattle.std.proofs.lemmas.List.Elements.{All-get_or}
use Rattle.std.proofs.lemmas.Option.{same_Some, slice_get-get_or, unwrap_or-slice_get}
use Rattle.std.proofs.lemmas.Slice.Eq.{bytes_eq-Decides}
use Rattle.dd_store.specs.declared.row.Var.{Var}
use Rattle.dd_store.specs.Follow.{assignment_of}
use Rattle.dd_store.specs.Order.{IsDistinct}
use Rattle.uvl_functions.specs.Variables.{marks_under}
use Rattle.uvl_model.specs.declared.rows.FeatureNo.{FeatureNo}
use Rattle.uvl_model.specs.Check.{is_marked}
use Rattle.uvl_model.specs.Marks.{StandFor}
use Rattle.uvl_semantics.specs.Product.{has}
use Rattle.uvl_model.specs.Spelling.{numbered}
use Rattle.uvl_run.proofs.Variables.{marks_under-set}

-- no variable is set
blank : (n v : ℕ) → assignment_of (replicate n false) v ≡ false
blank n v = elim (cases_lt v n) [
  | inl within ↦ get_or-replicate n v false false within
  | inr past ↦ get_or_past (replicate n false) v false (rw (length-replicate n false) past)
]

-- so no feature is marked
blank_marks : (n : ℕ) (vars : List Var) → marks_under vars (assignment_of (replicate n false)) ≡ replicate (length vars) false
blank_marks n [] = refl
blank_marks n (v ∷ vs) = ap (λ (b : Bool). b ∷ marks_under vs (assignment_of (replicate n false))) (blank n v.0) ∙ ap (λ (bs : List Bool). false ∷ bs) (blank_marks n vs)

none_marked : (n k : ℕ) → is_marked (replicate n false) (numbered k) ≡ false
none_marked n k =
    unwrap_or-slice_get (replicate n false) k false ∙ blank n k

-- no marks stand for no names
pub stand-none : (names : List (List ℕ)) (vars : List Var) (n : ℕ) → StandFor names (marks_under vars (assignment_of (replicate n false))) []
stand-none names vars n =
    let P : List Bool → Type 0 = λ marks. StandFor names marks [] in
    subst P (sym (blank_marks n vars)) (record { named = refl; marked = λ k name at. none_marked (length vars) k })

module _ (marks : List Bool) (k : ℕ) where
  -- the feature that is marked
  marked_here : k < length marks → is_marked (set marks k true) (numbered k) ≡ true
  marked_here within = unwrap_or-slice_get (set marks k true) k false ∙ get_or-set_same marks k true false within

  -- each other keeps its mark
  marked_elsewhere : (n : ℕ) → (n ≡ k → ⊥) → is_marked (set marks k true) (numbered n) ≡ is_marked marks (numbered n)
  marked_elsewhere n other =
      unwrap_or-slice_get (set marks k true) n false ∙ get_or-set_other marks k n true false other ∙ sym (unwrap_or-slice_get marks n false)

has-last : (front : List (List ℕ)) (word name : List ℕ) → has (front ++ word ∷ []) name ≡ (has front name || (bytes_eq name word || false))
has-last front word name = list_any-append (bytes_eq name) front (word ∷ [])

-- one mark more is one name more
pub stand-more : (names : List (List ℕ)) (marks : List Bool) (front : List (List ℕ)) (word : List ℕ) (f : FeatureNo) → f.0 < length marks → has names word ≡ true
    → ((n : ℕ) → (Some f ≡ Some (numbered n)) ↔ (slice_get names n ≡ Some word)) → StandFor names marks front → StandFor names (set marks f.0 true) (front ++ word ∷ [])
stand-more names marks front word f within known place stand = record {
  named = list_all-append (has names) front (word ∷ []) ∙ and_from _ _ stand.named (and_from _ _ known refl);
  marked = λ n name at. elim (cases_eq n f.0) [
    | inl here ↦ first n name at here
    | inr other ↦
        let out : bytes_eq name word ≡ false =
        false_from_ne_true _ (λ e. other (sym (place_is n (at ∙ ap Some ((bytes_eq-Decides name word).0 e))))) in
        marked_elsewhere marks f.0 n other ∙ stand.marked n name at ∙ sym (has-last front word name ∙ without (has front name) (bytes_eq name word) out)
  ];
}
  where
    place_is : (n : ℕ) → slice_get names n ≡ Some word → f.0 ≡ n
    place_is n at = ap (λ (g : FeatureNo). g.0) (same_Some _ _ ((place n).1 at))

    without : (x y : Bool) → y ≡ false → (x || (y || false)) ≡ x
    without true y e = refl
    without false y e = or_from y false e refl

    first : (n : ℕ) (name : List ℕ) → slice_get names n ≡ Some name → n ≡ f.0 → is_marked (set marks f.0 true) (numbered n) ≡ has (front ++ word ∷ []) name
    first n name at here =
        let same : name ≡ word = same_Some _ _ (sym (ap (slice_get names) (sym here) ∙ at) ∙ (place f.0).0 refl) in
        ap (λ (m : ℕ). is_marked (set marks f.0 true) (numbered m)) here
        ∙ marked_here marks f.0 within
        ∙ sym (has-last front word name ∙ or_right (has front name) _ (or_left _ _ ((bytes_eq-Decides name word).1 same)))

-- where the variable of the next of some words is set too, the marks stand for the words up to it
pub stand-next : (names : List (List ℕ)) (vars : List Var) (marks : List Bool) (words : List (List ℕ)) (i : ℕ) (word : List ℕ) (f : FeatureNo) (room : ℕ) → i < length words → word ≡ get_or words i word
    → f.0 < length vars → length marks ≡ room → IsDistinct vars → All (λ v. v.0 < room) vars → true ≡ has names word → ((n : ℕ) → (Some f ≡ Some (numbered n)) ↔ (slice_get names n ≡ Some word))
    → StandFor names (marks_under vars (assignment_of marks)) (take i words)
    → StandFor names (marks_under vars (assignment_of (set marks (get_or vars f.0 (record { 0 = 0 })).0 true))) (take (i + 1) words)
stand-next names vars marks words i word f room inside here within size distinct there known place stand =
    let v = get_or vars f.0 (record { 0 = 0 }) in
    let at : slice_get vars f.0 ≡ Some v = slice_get-get_or vars f.0 (record { 0 = 0 }) within in
    let in_room : v.0 < room = All-get_or (λ (w : Var). w.0 < room) vars f.0 (record { 0 = 0 }) within there in
    let next : take i words ++ word ∷ [] ≡ take (i + 1) words = ap (λ (w : List ℕ). take i words ++ w ∷ []) here ∙ sym (take_more words i word inside) in
    let marked : f.0 < length (marks_under vars (assignment_of marks)) = rw (length-map vars (λ w. assignment_of marks w.0)) within in
    let P : List (List ℕ) → Type 0 = λ set'. StandFor names (set (marks_under vars (assignment_of marks)) f.0 true) set' in
    let Q : List Bool → Type 0 = λ bs. StandFor names bs (take (i + 1) words) in
    subst Q (sym (marks_under-set vars marks f.0 v distinct at (omega (arith, in_room, size))))
    (subst P next (stand-more names (marks_under vars (assignment_of marks)) (take i words) word f marked (sym known) place stand))
