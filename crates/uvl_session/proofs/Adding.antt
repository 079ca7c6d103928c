-- A session more at the end of a list.
use Rattle.std.proofs.Common.{◌≡◌, ◌+◌, ◌&&◌, ◌<◌, ℕ, zero, suc, Bool, true, false, List, [], ◌∷◌, ◌++◌, length, map, nat_le, Some, None, option_map, refl, sym, ap, ◌∙◌, subst, arith}
use Rattle.std.specs.Prelude.{if◌then◌else◌, string_bytes}
use Rattle.std.specs.List.{All, Contains}
use Rattle.std.proofs.lemmas.Bool.{false_from_ne_true, false≢true}
use Rattle.std.proofs.lemmas.Bool.Decides.{nat_tests}
use Rattle.std.proofs.lemmas.List.{map_push}
use Rattle.std.proofs.lemmas.List.Elements.{All-nil, All-push, All-weaker}
use Rattle.std.proofs.lemmas.Slice.Eq.{bytes_eq-Decides}
use Rattle.dd_store.specs.declared.row.Var.{Var}
use Rattle.dd_store.specs.Changes.{Keeps}
use Rattle.dd_store.specs.Handles.{GainsHandle, KeepsHandles, count_on, one_on}
use Rattle.dd_store.specs.Table.{Table, IsLive}
use Rattle.dd_store.proofs.CountLemmas.{count_on-push, live_gained}
use Rattle.dd_store.proofs.StayLemmas.{value-kept}
use Rattle.uvl_model.specs.Products.{Products}
use Rattle.uvl_model.specs.Laws.{ProductsAreSets}
use Rattle.uvl_model.specs.Rows.{Rows}
use Rattle.uvl_model.proofs.Places.{AreDistinct-push}
use Rattle.uvl_semantics.specs.Family.{is_void}
use Rattle.uvl_decisions.specs.Laws.{SessionsKeepASet}
use Rattle.uvl_decisions.specs.Opening.{most_sessions}
use Rattle.uvl_decisions.specs.Session.{fresh}
use Rattle.uvl_analyses.specs.Compiled.{IsCompiled}
use Rattle.uvl_compile.proofs.HandleLemmas.{has-still}
use Rattle.uvl_session.specs.declared.decision.Decision.{Decision}
use Rattle.uvl_session.specs.declared.sessions.OpenSession.{OpenSession}
use Rattle.uvl_session.specs.Desk.{AreDecided, IsSession, IsKept}
use Rattle.uvl_session.specs.Numbered.{Numbered, all_of, session_of}
use Rattle.uvl_session.specs.Sessions.{AddsSession, OthersStay, find_session, is_named, session_at}
use Rattle.uvl_session.proofs.Changes.{named_otherwise}

some-none : (it : OpenSession) → Some it ≡ None → ⊥
some-none it e = absurd (cc)

-- where no session has a name, the first one hasn't
not-first : (it : OpenSession) (rest : List OpenSession) (name : List ℕ) → find_session (it ∷ rest) name ≡ None → is_named name it ≡ false
not-first it rest name none =
    false_from_ne_true _ (λ here. some-none it (sym (ap (λ b. if b then Some it else find_session rest name) here) ∙ none))

not-later : (it : OpenSession) (rest : List OpenSession) (name : List ℕ) → find_session (it ∷ rest) name ≡ None → find_session rest name ≡ None
not-later it rest name none = sym (ap (λ b. if b then Some it else find_session rest name) (not-first it rest name none)) ∙ none

-- the new one has its name
found_pushed : (list : List OpenSession) (name : List ℕ) (it : OpenSession) → find_session list name ≡ None → is_named name it ≡ true → find_session (list ++ it ∷ []) name ≡ Some it
found_pushed [] name it none here = ap (λ b. if b then Some it else None) here
found_pushed (x ∷ rest) name it none here =
    ap (λ b. if b then Some x else find_session (rest ++ it ∷ []) name) (not-first x rest name none) ∙ found_pushed rest name it (not-later x rest name none) here

-- under other names all is as before
others_pushed : (list : List OpenSession) (other : List ℕ) (it : OpenSession) → is_named other it ≡ false → find_session (list ++ it ∷ []) other ≡ find_session list other
others_pushed [] other it out = ap (λ b. if b then Some it else None) out
others_pushed (x ∷ rest) other it out = ap (λ o. if is_named other x then Some x else o) (others_pushed rest other it out)

-- a name that no session has is none of theirs
absent : (list : List OpenSession) (name : List ℕ) → find_session list name ≡ None → Contains (map (λ it. string_bytes it.name) list) name → ⊥
absent [] name none (k, within, at) = absurd (omega (arith, within))
absent (it ∷ rest) name none (zero, within, at) =
    false≢true (sym (not-first it rest name none) ∙ (bytes_eq-Decides (string_bytes it.name) name).1 at)
absent (it ∷ rest) name none (suc k, within, at) = absent rest name (not-later it rest name none) (k, omega (arith, within), at)

length-more : (list : List OpenSession) (it : OpenSession) → length (list ++ it ∷ []) ≡ length list + 1
length-more [] it = refl
length-more (x ∷ rest) it = let more = length-more rest it in omega arith

below : (m n : ℕ) → nat_le m n ≡ false → n < m
below m n not = grind (arith, nat_tests)

-- what is compiled and decided stays so where its handle stays live
pub compiled-still : (rows : Rows) (t u : Table) (vars : List Var) (products : ℕ) → Keeps t u → IsLive u products → IsCompiled rows t vars products → IsCompiled rows u vars products
compiled-still rows t u vars products keeps live is = record {
  sound = keeps.sound;
  variables = has-still t u rows vars keeps is.variables;
  live = live;
  value = λ a. keeps.values products a is.live live ∙ is.value a;
}

pub decided-still : (rows : Rows) (t u : Table) (vars : List Var) (decisions : List Decision) (h : ℕ) → Keeps t u → IsLive u h → AreDecided rows t vars decisions h
    → AreDecided rows u vars decisions h
decided-still rows t u vars decisions h keeps live is = record {
  features = is.features;
  apart = is.apart;
  live = live;
  value = value-kept t u keeps h is.live live ∙ is.value;
  some = is.some;
}

pub each-still : (rows : Rows) (t u : Table) (vars : List Var) (list : List OpenSession) → Keeps t u → ((n : ℕ) → IsLive t n → IsLive u n)
    → All (IsSession rows t vars) list → All (IsSession rows u vars) list
each-still rows t u vars list keeps still each =
    All-weaker (IsSession rows t vars) (IsSession rows u vars)
    (λ it is. decided-still rows t u vars (all_of it.stages) it.agreeing keeps (still it.agreeing is.live) is) list each

-- where the same handles are live all stays
pub kept_same : (rows : Rows) (t u : Table) (vars : List Var) (products : ℕ) (list : List OpenSession) → Keeps t u → KeepsHandles t u → IsKept rows t vars products list
    → IsKept rows u vars products list
kept_same rows t u vars products list keeps same kept =
    let still : (n : ℕ) → IsLive t n → IsLive u n = λ n live. let each = same.each n in omega arith in
    record {
      main = compiled-still rows t u vars products keeps (still products kept.main.live) kept.main;
      sessions = record {
        each = each-still rows t u vars list keeps still kept.sessions.each;
        apart = kept.sessions.apart;
        few = kept.sessions.few;
      };
      handles = λ n. same.each n ∙ kept.handles n;
    }

and-true : (b : Bool) → b ≡ (b && true)
and-true true = refl
and-true false = refl

-- without a decision each product agrees
none-decided : (rows : Rows) (t : Table) (vars : List Var) (products : ℕ) → ProductsAreSets → SessionsKeepASet → is_void (Products rows) ≡ false → IsCompiled rows t vars products
    → AreDecided rows t vars [] products
none-decided rows t vars products sets law some main = record {
  features = All-nil _;
  apart = tt;
  live = main.live;
  value = λ i a. (main.value a ∙ and-true _) i;
  some = law.opening (Products rows) false 0 fresh (sets rows) (rw some refl);
}

-- the new session
added-is : (it : OpenSession) (name : List ℕ) → string_bytes it.name ≡ name → is_named name it ≡ true
added-is it name same = (bytes_eq-Decides (string_bytes it.name) name).1 same

module _ (rows : Rows) (list : List OpenSession) (name : List ℕ) (none : find_session list name ≡ None) where
  pub added_opened : (list' : List OpenSession) (h : ℕ) → AddsSession list list' name h → session_at rows list' name ≡ Some fresh
  added_opened list' h adds =
      ap (λ (xs : List OpenSession). session_at rows xs name) adds.list
      ∙ ap (option_map (λ it. session_of rows it.stages)) (found_pushed list name adds.it none (added-is adds.it name adds.name_is))
      ∙ ap (λ (st : Numbered). Some (session_of rows st)) adds.stages_is

  pub added_others : (list' : List OpenSession) (h : ℕ) → AddsSession list list' name h → OthersStay rows list list' name
  added_others list' h adds other differ =
      ap (λ (xs : List OpenSession). session_at rows xs other) adds.list
      ∙ ap (option_map (λ it. session_of rows it.stages))
      (others_pushed list other adds.it (named_otherwise adds.it name other (added-is adds.it name adds.name_is) differ))

  pub added_kept : (t u : Table) (vars : List Var) (products : ℕ) (list' : List OpenSession) → AddsSession list list' name products
      → ProductsAreSets → SessionsKeepASet → is_void (Products rows) ≡ false → nat_le most_sessions (length list) ≡ false → Keeps t u → GainsHandle t u products
      → IsKept rows t vars products list → IsKept rows u vars products list'
  added_kept t u vars products list' adds sets law some room keeps gain kept =
      let it = adds.it in
      let still : (n : ℕ) → IsLive t n → IsLive u n = live_gained gain in
      let main = compiled-still rows t u vars products keeps (still products kept.main.live) kept.main in
      let new : AreDecided rows u vars (all_of it.stages) it.agreeing =
      subst (λ (h : ℕ). AreDecided rows u vars (all_of it.stages) h) (sym adds.agreeing_is)
      (subst (λ (st : Numbered). AreDecided rows u vars (all_of st) products) (sym adds.stages_is) (none-decided rows u vars products sets law some main)) in
      subst (λ (xs : List OpenSession). IsKept rows u vars products xs) (sym adds.list) (record {
        main = main;
        sessions = record {
          each = All-push (IsSession rows u vars) list it (each-still rows t u vars list keeps still kept.sessions.each) new;
          apart = rw (map_push (λ (s : OpenSession). string_bytes s.name) list it, adds.name_is)
              (AreDistinct-push (map (λ (s : OpenSession). string_bytes s.name) list) name kept.sessions.apart (absent list name none));
          few = let more = length-more list it in let less = below most_sessions (length list) room in omega arith;
        };
        handles = λ n.
            let one = gain.each n in
            let before = kept.handles n in
            let names = ap (λ (hs : List ℕ). count_on hs n) (map_push (λ (s : OpenSession). s.agreeing) list it) in
            let more = count_on-push (map (λ (s : OpenSession). s.agreeing) list) it.agreeing n in
            let same = ap (λ (h : ℕ). one_on h n) adds.agreeing_is in
            omega arith;
      })
