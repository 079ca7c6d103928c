-- What a diagram leaves open is what the products of its model have.
use Rattle.std.proofs.Common.{◌≡◌, ◌↔◌, ◌+◌, ◌<◌, ℕ, Bool, true, false, not, ◌&&◌, List, [], ◌∷◌, length, None, Some, inl, inr, refl, sym, ap, ◌∙◌, subst, arith}
use Rattle.std.specs.Prelude.{IsTrue}
use Rattle.std.proofs.lemmas.Bool.{and_from, and_parts, cases_Bool, false_from_ne_true, false≢true}
use Rattle.std.proofs.lemmas.List.{length-map}
use Rattle.std.proofs.lemmas.List.Elements.{All-nil, All-cons, All-head, All-tail, All-get_or}
use Rattle.dd_store.specs.declared.row.Var.{Var}
use Rattle.dd_store.specs.Exhausted.{value_at}
use Rattle.dd_store.specs.Table.{Table, IsVariable, value_of}
use Rattle.dd_quant.specs.declared.literal.Literal.{Literal}
use Rattle.dd_quant.specs.declared.offer.Offer.{Offer}
use Rattle.dd_quant.specs.Offers.{AreOffers, has_value, offer_for}
use Rattle.dd_quant.specs.Possible.{Agrees, IsPossible, literal_of}
use Rattle.uvl_functions.specs.Variables.{marks_under}
use Rattle.uvl_model.specs.Check.{is_marked}
use Rattle.uvl_model.specs.Laws.{ProductsAreSets}
use Rattle.uvl_model.specs.Names.{feature_names, chosen_names}
use Rattle.uvl_model.specs.Products.{Products}
use Rattle.uvl_model.specs.Rows.{Rows}
use Rattle.uvl_model.specs.Sound.{IsSound, AreDistinct}
use Rattle.uvl_model.specs.Spelling.{numbered}
use Rattle.uvl_model.proofs.Families.{spelled_names}
use Rattle.uvl_model.proofs.Marks.{marks_agree, agree_at}
use Rattle.uvl_semantics.specs.Family.{IsTestOfSets, marked, some_set, is_void}
use Rattle.uvl_semantics.specs.Product.{has}
use Rattle.uvl_semantics.proofs.NoProduct.{some_set-exactly, some_set-none}
use Rattle.uvl_analyses.specs.Compiled.{IsCompiled}
use Rattle.uvl_analyses.specs.Analyses.{comes_with}
use Rattle.uvl_analyses.specs.Listed.{var_of, stays}
use Rattle.uvl_analyses.specs.Members.{name_in, is_dead_in, is_never}
use Rattle.uvl_analyses.proofs.Variables.{assignment_by, marked-assignment_by, mark_at}

module _ (rows : Rows) (t : Table) (vars : List Var) (products : ℕ) (compiled : IsCompiled rows t vars products) (sets : ProductsAreSets) where
  -- the set that an assignment chooses
  abbrev pub chosen : (ℕ → Bool) → List (List ℕ)
  chosen a = chosen_names rows (marks_under vars a)

  -- an assignment for marks
  chosen_by : (marks : List Bool) → chosen (assignment_by vars marks) ≡ marked (feature_names rows) marks
  chosen_by marks =
      marked-assignment_by (feature_names rows) vars marks (compiled.variables.count ∙ sym (length-map rows.features (λ row. row.name))) compiled.variables.distinct

  -- a test of products is answered by the assignments that make the value true
  pub answered : (test : List (List ℕ) → Bool) (answer : Bool) → IsTestOfSets test
      → (answer ≡ true → (a : ℕ → Bool) × (value_of t products a ≡ true) × (test (chosen a) ≡ true))
      → ((a : ℕ → Bool) → value_of t products a ≡ true → test (chosen a) ≡ true → answer ≡ true)
      → some_set (Products rows) test ≡ answer
  answered test answer alike some any = by answer some any
    where
      by : (b : Bool) → (b ≡ true → (a : ℕ → Bool) × (value_of t products a ≡ true) × (test (chosen a) ≡ true))
          → ((a : ℕ → Bool) → value_of t products a ≡ true → test (chosen a) ≡ true → b ≡ true) → some_set (Products rows) test ≡ b
      by true some' any' =
          elim (cases_Bool (some_set (Products rows) test)) [
            | inl found ↦ found
            | inr none ↦
                let w = some' refl in
                let out = (some_set-exactly (Products rows) test (sets rows) alike).0 none (chosen w.0) in
                absurd (false≢true (sym out ∙ and_from _ _ (sym (compiled.value w.0) ∙ w.1) w.2))
          ]
      by false some' any' =
          some_set-none (Products rows) test (λ marks. false_from_ne_true _ (λ both.
          let parts = and_parts ((Products rows).contains (marked (feature_names rows) marks)) (test (marked (feature_names rows) marks)) both in
          let a = assignment_by vars marks in
          let is : value_of t products a ≡ true = compiled.value a ∙ ap (Products rows).contains (chosen_by marks) ∙ parts.0 in
          false≢true (any' a is (ap test (chosen_by marks) ∙ parts.1))))

  -- a diagram with a constant value
  pub void-constant : (value : Bool) → ((a : ℕ → Bool) → value_of t products a ≡ value) → not value ≡ is_void (Products rows)
  void-constant value each =
      ap not (sym (answered (λ set. true) value (λ first second same. refl) (λ holds. ((λ v. false), each (λ v. false) ∙ holds, refl)) (λ a is told. sym (each a) ∙ is)))

  -- one without
  pub not_void-none : ((b : Bool) → ((a : ℕ → Bool) → value_of t products a ≡ b) → None ≡ Some b) → false ≡ is_void (Products rows)
  not_void-none exact =
      elim (cases_Bool (some_set (Products rows) (λ set. true))) [
        | inl found ↦ ap not (sym found)
        | inr none ↦
            let nowhere : (a : ℕ → Bool) → value_of t products a ≡ false = λ a. false_from_ne_true _ (λ is.
            let out = (some_set-exactly (Products rows) (λ set. true) (sets rows) (λ first second same. refl)).0 none (chosen a) in
            false≢true (sym out ∙ and_from _ _ (sym (compiled.value a) ∙ is) refl)) in
            let never : None ≡ Some false = exact false nowhere in
            absurd (cc)
      ]

  -- where there is a test of products that literals tell, an offer with these answers it
  pub possible : (test : List (List ℕ) → Bool) (literals : List Literal) (answer : Bool) → IsTestOfSets test → (IsTrue answer ↔ IsPossible (value_at t products) literals)
      → ((a : ℕ → Bool) → Agrees literals a → test (chosen a) ≡ true) → ((a : ℕ → Bool) → test (chosen a) ≡ true → Agrees literals a)
      → some_set (Products rows) test ≡ answer
  possible test literals answer alike tells passes agrees =
      answered test answer alike (λ holds. let w = tells.0 holds in (w.0, w.2, passes w.0 w.1)) (λ a is told. tells.1 (a, agrees a told, is))

  module _ (sound : IsSound rows) where
    -- whether a feature is chosen
    pub has_chosen : (a : ℕ → Bool) (k : ℕ) → k < length vars → has (chosen a) (name_in rows (numbered k)) ≡ a (var_of vars (numbered k))
    has_chosen a k within =
        let distinct = subst AreDistinct (sym (spelled_names sound.tree rows sound.spelled)) sound.within.distinct in
        let size : length (feature_names rows) ≡ length rows.features = length-map rows.features (λ row. row.name) in
        let inside : k < length (feature_names rows) = (let count = compiled.variables.count in omega (arith, size, count)) in
        let at = agree_at (marks_under vars a) (chosen a) (feature_names rows) 0 (marks_agree (feature_names rows) (marks_under vars a) distinct) k inside in
        let first : 0 + k ≡ k = omega arith in
        sym (subst (λ (m : ℕ). is_marked' a m ≡ has (chosen a) (name_in rows (numbered k))) first at) ∙ mark_at vars a k within
      where
        is_marked' : (ℕ → Bool) → ℕ → Bool
        is_marked' a m = is_marked (marks_under vars a) (numbered m)

    -- its variable is there
    pub variable_there : (k : ℕ) → k < length vars → var_of vars (numbered k) < length t.order
    variable_there k within =
        compiled.sound.numbered (var_of vars (numbered k)) (All-get_or (λ (v : Var). IsVariable t v.0) vars k (record { 0 = 0 }) within compiled.variables.there)

    -- a feature without an offer is never there, or never absent
    pub never_is : (offers : List Offer) (k : ℕ) (value : Bool) → AreOffers t.order (value_at t products) [] offers → k < length vars
        → not (has_value (offer_for offers (var_of vars (numbered k))) value) ≡ is_never rows value (numbered k)
    never_is offers k true are within =
        let v = var_of vars (numbered k) in
        let one : List Literal = literal_of v true ∷ [] in
        ap not (sym (possible (λ set. has set (name_in rows (numbered k))) one (has_value (offer_for offers v) true) (λ first second same. same (name_in rows (numbered k)))
        (are.each v true (variable_there k within))
        (λ a agree. has_chosen a k within ∙ All-head (λ (l : Literal). a l.var.0 ≡ l.value) (literal_of v true) [] agree)
        (λ a told. All-cons (λ (l : Literal). a l.var.0 ≡ l.value) (literal_of v true) [] (sym (has_chosen a k within) ∙ told) (All-nil (λ (l : Literal). a l.var.0 ≡ l.value)))))
    never_is offers k false are within =
        let v = var_of vars (numbered k) in
        let one : List Literal = literal_of v false ∷ [] in
        ap not (sym (possible (λ set. not (has set (name_in rows (numbered k)))) one (has_value (offer_for offers v) false) (λ first second same. ap not (same (name_in rows (numbered k))))
        (are.each v false (variable_there k within))
        (λ a agree. ap not (has_chosen a k within ∙ All-head (λ (l : Literal). a l.var.0 ≡ l.value) (literal_of v false) [] agree))
        (λ a told. All-cons (λ (l : Literal). a l.var.0 ≡ l.value) (literal_of v false) [] (sym (has_chosen a k within) ∙ from_not _ told) (All-nil (λ (l : Literal). a l.var.0 ≡ l.value)))))
      where
        from_not : (b : Bool) → not b ≡ true → b ≡ false
        from_not true e = sym e
        from_not false e = refl

    -- a child without a second offer comes with its parent
    pub comes_is : (offers : List Offer) (p k : ℕ) (parent : Literal) → parent ≡ literal_of (var_of vars (numbered p)) true → AreOffers t.order (value_at t products) (parent ∷ []) offers
        → p < length vars → k < length vars
        → not (has_value (offer_for offers (var_of vars (numbered k))) false) ≡ comes_with (Products rows) (name_in rows (numbered p)) (name_in rows (numbered k))
    comes_is offers p k parent is are above within =
        let v = var_of vars (numbered k) in
        let w = var_of vars (numbered p) in
        let first : List ℕ = name_in rows (numbered p) in
        let second : List ℕ = name_in rows (numbered k) in
        let rest : List Literal = literal_of w true ∷ [] in
        let both : List Literal = literal_of v false ∷ rest in
        let there : AreOffers t.order (value_at t products) rest offers = subst (λ (l : Literal). AreOffers t.order (value_at t products) (l ∷ []) offers) is are in
        ap not (sym (possible (λ set. has set first && not (has set second)) both (has_value (offer_for offers v) false)
        (λ one other same. ap (λ b. b && not (has one second)) (same first) ∙ ap (λ b. has other first && not b) (same second))
        (there.each v false (variable_there k within))
        (λ a agree. and_from _ _ (has_chosen a p above ∙ All-head (λ (l : Literal). a l.var.0 ≡ l.value) (literal_of w true) [] (All-tail (λ (l : Literal). a l.var.0 ≡ l.value) (literal_of v false) rest agree))
        (ap not (has_chosen a k within ∙ All-head (λ (l : Literal). a l.var.0 ≡ l.value) (literal_of v false) rest agree)))
        (λ a told.
        let parts = and_parts (has (chosen a) first) (not (has (chosen a) second)) told in
        All-cons (λ (l : Literal). a l.var.0 ≡ l.value) (literal_of v false) rest (sym (has_chosen a k within) ∙ without _ parts.1)
        (All-cons (λ (l : Literal). a l.var.0 ≡ l.value) (literal_of w true) [] (sym (has_chosen a p above) ∙ parts.0) (All-nil (λ (l : Literal). a l.var.0 ≡ l.value))))))
      where
        without : (b : Bool) → not b ≡ true → b ≡ false
        without true e = sym e
        without false e = refl

    -- a member stays where it isn't dead and comes with its parent
    pub stays_is : (first second : List Offer) (p k : ℕ) (parent : Literal) (named : Bool) → parent ≡ literal_of (var_of vars (numbered p)) true
        → AreOffers t.order (value_at t products) [] first → AreOffers t.order (value_at t products) (parent ∷ []) second → p < length vars → k < length vars
        → (named && stays vars first second (numbered k))
        ≡ (not (is_dead_in rows (numbered k)) && (true && named && comes_with (Products rows) (name_in rows (numbered p)) (name_in rows (numbered k))))
    stays_is first second p k parent named is open_to are above within =
        by named (has_value (offer_for first (var_of vars (numbered k))) true) _ _ _ (never_is first k true open_to within) (comes_is second p k parent is are above within)
      where
        by : (n offer dead stay comes : Bool) → not offer ≡ dead → stay ≡ comes → (n && (offer && stay)) ≡ (not dead && (true && n && comes))
        by true true dead stay comes e f = ap (λ b. b) f ∙ ap (λ d. not d && comes) e
        by true false dead stay comes e f = ap (λ d. not d && comes) e
        by false offer dead stay comes e f = nothing (not dead)
          where
            nothing : (b : Bool) → false ≡ (b && false)
            nothing true = refl
            nothing false = refl
