-- A session with one decision more.
use Rattle.std.proofs.Common.{◌≡◌, ◌+◌, ◌<◌, ◌||◌, ◌&&◌, ℕ, zero, suc, Bool, true, false, not, List, [], ◌∷◌, ◌++◌, length, get_or, set, map, Result, Ok, Err, IfErr, Option, Some, None, refl, sym, ap, ◌∙◌, subst, arith}
use Rattle.std.specs.Prelude.{if◌then◌else◌, slice_get, string_bytes}
use Rattle.std.specs.List.{All}
use Rattle.std.specs.Bool.{beq}
use Rattle.std.proofs.lemmas.List.{map_push}
use Rattle.std.proofs.lemmas.List.Elements.{All-append, All-from_get_or, All-get_or, All-push, All-set}
use Rattle.std.proofs.lemmas.List.Folds.{list_all-append, list_any-append}
use Rattle.dd_store.specs.declared.refusal.Refusal.{Refusal}
use Rattle.dd_store.specs.declared.refusal.Refusal.TheVariants.{OverBudget as over_budget, OutOfMemory as out_of_memory}
use Rattle.dd_store.specs.declared.row.Var.{Var}
use Rattle.dd_store.specs.Changes.{Keeps}
use Rattle.dd_store.specs.Exhausted.{value_at}
use Rattle.dd_store.specs.Handles.{GainsHandle, LosesHandle, count_on, one_on}
use Rattle.dd_store.specs.Short.{literal}
use Rattle.dd_store.specs.Size.{Function}
use Rattle.dd_store.specs.Table.{Table, IsLive, handles_on}
use Rattle.dd_store.proofs.ChangeLemmas.{keeps_then}
use Rattle.dd_store.proofs.CountLemmas.{live_gained, one_on-itself}
use Rattle.uvl_analyses.specs.Compiled.{IsCompiled}
use Rattle.uvl_compile.specs.Conditions.{both}
use Rattle.uvl_compile.proofs.Trades.{gained-live}
use Rattle.uvl_decisions.specs.Deciding.{Decided, unknown_feature, is_closed, is_decided, decided, decide_answer, unless_forced}
use Rattle.uvl_decisions.specs.Decisions.{Decision as Named, agreeing, agrees, agrees_with}
use Rattle.uvl_decisions.specs.Explanation.{explanation}
use Rattle.uvl_decisions.specs.Laws.{SessionsKeepASet}
use Rattle.uvl_decisions.specs.Session.{Session, decides, decisions_of}
use Rattle.uvl_functions.specs.Cause.{IsShortFor}
use Rattle.uvl_functions.specs.Variables.{marks_under}
use Rattle.uvl_model.specs.Laws.{ProductsAreSets}
use Rattle.uvl_model.specs.Names.{feature_names, chosen_names}
use Rattle.uvl_model.specs.Products.{Products}
use Rattle.uvl_model.specs.Rows.{Rows}
use Rattle.uvl_model.specs.Sound.{AreDistinct, IsSound}
use Rattle.uvl_model.proofs.Everywhere.{all_front, all_rest}
use Rattle.uvl_model.proofs.Places.{AreDistinct-push}
use Rattle.uvl_semantics.specs.Family.{is_void}
use Rattle.uvl_semantics.specs.Product.{has}
use Rattle.uvl_session.specs.declared.decision.Decision.{Decision}
use Rattle.uvl_session.specs.declared.refusal.DeskRefusal.{DeskRefusal}
use Rattle.uvl_session.specs.declared.sessions.OpenSession.{OpenSession}
use Rattle.uvl_session.specs.Answers.{refusal_of}
use Rattle.uvl_session.specs.Deciding.{IsTablesFor, told_deciding, decided_session, with_one_more}
use Rattle.uvl_session.specs.Desk.{IsSession, IsKept}
use Rattle.uvl_session.specs.Numbered.{agreeing_function, all_of, decision_of, decisions_in, session_of}
use Rattle.uvl_session.proofs.Adding.{compiled-still, decided-still, each-still, kept_same}
use Rattle.uvl_session.proofs.Allowed.{nowhere-decided}
use Rattle.uvl_session.proofs.Changes.{same_parts, same_length}
use Rattle.uvl_session.proofs.Offered.{agrees-variable, variable}
use Rattle.uvl_session.proofs.Removing.{counted}

-- What is allowed: the feature has no decision, and the answer is the session with one more.
pub record IsAllowed (rows : Rows) (session : Session) (asked : Named) : Type 0 where
  pub closed : decides session.closed asked.feature ≡ false
  pub standing : decides session.standing asked.feature ≡ false
  pub answer : decide_answer (Products rows) session asked ≡ decided (record { closed = session.closed; standing = session.standing ++ asked ∷ [] })

pub allowed : (rows : Rows) (session : Session) (asked : Named) → told_deciding (decide_answer (Products rows) session asked) ≡ Ok tt → IsAllowed rows session asked
allowed rows session asked told =
    let all = by (has (feature_names rows) asked.feature) (decides session.closed asked.feature) (decides session.standing asked.feature)
    (explanation (Products rows) (decisions_of session) (opposite_of asked)) told in
    record { closed = all.0; standing = all.1; answer = all.2 }
  where
    opposite_of : Named → Named
    opposite_of one = record { feature = one.feature; value = not one.value }

    case : Bool → Bool → Bool → Option (List Named) → Decided
    case k c s o = if not k then unknown_feature else if c then is_closed else if s then is_decided else unless_forced session asked o

    by : (k c s : Bool) (o : Option (List Named)) → told_deciding (case k c s o) ≡ Ok tt
        → (c ≡ false) × (s ≡ false) × (case k c s o ≡ decided (record { closed = session.closed; standing = session.standing ++ asked ∷ [] }))
    by true false false None e = (refl, refl, refl)
    by true false false (Some because) e = absurd (cc)
    by true false true o e = absurd (cc)
    by true true s o e = absurd (cc)
    by false c s o e = absurd (cc)

or-false : (a b : Bool) → a ≡ false → b ≡ false → (a || b) ≡ false
or-false a b e f = rw (e, f) refl

append-assoc : {A : Type 0} (xs ys zs : List A) → xs ++ (ys ++ zs) ≡ (xs ++ ys) ++ zs
append-assoc [] ys zs = refl
append-assoc (x ∷ xs) ys zs = ap (λ rest. x ∷ rest) (append-assoc xs ys zs)

map-both : (rows : Rows) (xs ys : List Decision) → decisions_in rows (xs ++ ys) ≡ decisions_in rows xs ++ decisions_in rows ys
map-both rows [] ys = refl
map-both rows (x ∷ xs) ys = ap (λ rest. decision_of rows x ∷ rest) (map-both rows xs ys)

and-last : (p q r : Bool) → (p && (q && (r && true))) ≡ ((p && q) && r)
and-last true true true = refl
and-last true true false = refl
and-last true false r = refl
and-last false q r = refl

changed_count : (list : List OpenSession) (i : ℕ) (d it' : OpenSession) (n : ℕ) → i < length list
    → count_on (map (λ (s : OpenSession). s.agreeing) (set list i it')) n + one_on (get_or list i d).agreeing n
    ≡ count_on (map (λ (s : OpenSession). s.agreeing) list) n + one_on it'.agreeing n
changed_count [] i d it' n less = absurd (omega arith)
changed_count (it ∷ rest) zero d it' n less = omega arith
changed_count (it ∷ rest) (suc i) d it' n less = let more = changed_count rest i d it' n (omega arith) in omega arith

-- One decision more on a session whose handle is `it.agreeing` in t.
module _ (rows : Rows) (t : Table) (vars : List Var) (products : ℕ) (it : OpenSession) (decision : Decision) (main : IsCompiled rows t vars products) (sets : ProductsAreSets) (model : IsSound rows)
    (is : IsSession rows t vars it) (inside : decision.feature.0 < length rows.features) where
  abbrev session : Session
  session = session_of rows it.stages

  abbrev asked : Named
  asked = decision_of rows decision

  within : decision.feature.0 < length vars
  within = let count = main.variables.count in omega (arith, count, inside)

  -- by number and by name they are the same
  told_all : decisions_of session ≡ decisions_in rows (all_of it.stages)
  told_all = sym (map-both rows it.stages.closed it.stages.standing)

  told_more : decisions_in rows (it.stages.closed ++ (it.stages.standing ++ decision ∷ [])) ≡ decisions_in rows (all_of it.stages) ++ asked ∷ []
  told_more =
      ap (decisions_in rows) (append-assoc it.stages.closed it.stages.standing (decision ∷ []))
      ∙ map-both rows (all_of it.stages) (decision ∷ [])

  -- what agrees is what agreed and has the value
  pub more_is : (v : Var) → slice_get vars decision.feature.0 ≡ Some v → both (value_at t it.agreeing) (literal v.0 decision.value) ≡ with_one_more vars rows session asked
  more_is v at = λ i a. by a i
    where
      chosen : (ℕ → Bool) → List (List ℕ)
      chosen a = chosen_names rows (marks_under vars a)

      one : (a : ℕ → Bool) → agrees_with (chosen a) asked ≡ literal v.0 decision.value a
      one a =
          agrees-variable rows t vars (decisions_in rows (all_of it.stages)) it.agreeing main.variables sets is.value products main model a decision within
          ∙ ap (λ (w : ℕ). beq (a w) decision.value) (sym (ap (λ (w : Var). w.0) (variable vars decision.feature.0 v within at)))

      by : (a : ℕ → Bool) → both (value_at t it.agreeing) (literal v.0 decision.value) a ≡ with_one_more vars rows session asked a
      by a =
          ap (λ (f : Function). f a && literal v.0 decision.value a) is.value
          ∙ ap (λ (b : Bool). ((Products rows).contains (chosen a) && agrees (chosen a) (decisions_in rows (all_of it.stages))) && b) (sym (one a))
          ∙ sym (and-last ((Products rows).contains (chosen a)) (agrees (chosen a) (decisions_in rows (all_of it.stages))) (agrees_with (chosen a) asked))
          ∙ ap (λ (b : Bool). (Products rows).contains (chosen a) && b)
          (sym (list_all-append (agrees_with (chosen a)) (decisions_in rows (all_of it.stages)) (asked ∷ [])))
          ∙ ap (λ (ds : List Named). agreeing_function vars rows (ds ++ asked ∷ []) a) (sym told_all)

  module _ (law : SessionsKeepASet) (may : IsAllowed rows session asked) where
    apart : AreDistinct (map (λ (d : Named). d.feature) (decisions_in rows (it.stages.closed ++ (it.stages.standing ++ decision ∷ []))))
    apart =
        subst (λ (ds : List Named). AreDistinct (map (λ (d : Named). d.feature) ds)) (sym told_more)
        (subst AreDistinct (sym (map_push (λ (d : Named). d.feature) (decisions_in rows (all_of it.stages)) asked))
        (AreDistinct-push (map (λ (d : Named). d.feature) (decisions_in rows (all_of it.stages))) asked.feature is.apart
        (nowhere-decided (decisions_in rows (all_of it.stages)) asked.feature
        (ap (λ (ds : List Named). decides ds asked.feature) (sym told_all)
        ∙ list_any-append _ session.closed session.standing
        ∙ or-false _ _ may.closed may.standing))))

    abbrev there : Decision → Type 0
    there one = one.feature.0 < length rows.features

    -- so the session with it is one in a table that has gained its handle
    pub more_decided : (u : Table) (h : ℕ) → GainsHandle t u h → value_at u h ≡ with_one_more vars rows session asked
        → IsSession rows u vars (decided_session it decision h)
    more_decided u h gain value = record {
      features = All-append there it.stages.closed (it.stages.standing ++ decision ∷ []) (all_front there it.stages.closed it.stages.standing is.features)
          (All-push there it.stages.standing decision (all_rest there it.stages.closed it.stages.standing is.features) inside);
      apart = apart;
      live = gained-live t u h gain;
      value = value ∙ ap (λ (ds : List Named). agreeing_function vars rows ds) (ap (λ (ds : List Named). ds ++ asked ∷ []) told_all ∙ sym told_more);
      some = ap (λ (ds : List Named). is_void (agreeing (Products rows) ds)) (told_more ∙ ap (λ (ds : List Named). ds ++ asked ∷ []) (sym told_all)
          ∙ sym (append-assoc session.closed session.standing (asked ∷ [])))
          ∙ law.deciding (Products rows) session (record { closed = session.closed; standing = session.standing ++ asked ∷ [] }) asked (sets rows)
          (ap (λ (ds : List Named). is_void (agreeing (Products rows) ds)) told_all ∙ is.some) may.answer;
    }

-- A session of a list is changed, its new handle is gained from t to u, and the old one given back from u to w.
pub changed_kept : (rows : Rows) (t u w : Table) (vars : List Var) (products : ℕ) (list : List OpenSession) (i : ℕ) (d it' : OpenSession) → i < length list
    → string_bytes it'.name ≡ string_bytes (get_or list i d).name → Keeps t u → GainsHandle t u it'.agreeing → Keeps u w → LosesHandle u w (get_or list i d).agreeing
    → IsSession rows u vars it' → IsKept rows t vars products list → IsKept rows w vars products (set list i it')
changed_kept rows t u w vars products list i d it' within name first gain second lost new kept =
    let now = set list i it' in
    let handles : (n : ℕ) → handles_on w n ≡ one_on products n + count_on (map (λ (s : OpenSession). s.agreeing) now) n =
    (λ n. let more = gain.each n in let less = lost.each n in let before = kept.handles n in let parts = changed_count list i d it' n within in omega arith) in
    let main-live : IsLive w products = (let here = handles products in let own = one_on-itself products in omega arith) in
    let mid-main = compiled-still rows t u vars products first (live_gained gain products kept.main.live) kept.main in
    let mid : All (IsSession rows u vars) now =
    All-set (IsSession rows u vars) list i it' new (each-still rows t u vars list first (live_gained gain) kept.sessions.each) in
    record {
      main = compiled-still rows u w vars products second main-live mid-main;
      sessions = record {
        each = All-from_get_or (IsSession rows w vars) now d (λ k inside.
            let s = get_or now k d in
            let one = All-get_or (λ (it : OpenSession). 0 < count_on (map (λ (x : OpenSession). x.agreeing) now) it.agreeing) now k d inside (counted now) in
            let live : IsLive w s.agreeing = (let here = handles s.agreeing in omega arith) in
            decided-still rows u w vars (all_of s.stages) s.agreeing second live (All-get_or (IsSession rows u vars) now k d inside mid));
        apart = rw (same_parts (λ (s : OpenSession). string_bytes s.name) list i d it' within name) kept.sessions.apart;
        few = let same = same_length list i it' in let before = kept.sessions.few in omega arith;
      };
      handles = handles;
    }

-- a kernel's refusal as one of the desk
pub told_tables : (t : Table) (groups : List (List Function)) (result : Result (Unit {0}) DeskRefusal) (r : Refusal) (e : DeskRefusal) → result ≡ Err e → e ≡ refusal_of r
    → IsShortFor t groups r → IfErr result (IsTablesFor t groups)
told_tables t groups result r e is same cause =
    subst (λ (x : Result (Unit {0}) DeskRefusal). IfErr x (IsTablesFor t groups)) (sym (is ∙ ap (λ (x : DeskRefusal). Err x) same)) (by r cause)
  where
    by : (r : Refusal) → IsShortFor t groups r → IsTablesFor t groups (refusal_of r)
    by (over_budget nodes roots) cause = cause
    by out_of_memory cause = tt

-- a handle that is gained and given back
pub back_kept : (rows : Rows) (t u w : Table) (vars : List Var) (products h : ℕ) (list : List OpenSession) → Keeps t u → GainsHandle t u h → Keeps u w → LosesHandle u w h
    → IsKept rows t vars products list → IsKept rows w vars products list
back_kept rows t u w vars products h list first gain second lost kept =
    kept_same rows t w vars products list (keeps_then first second (λ n before after. live_gained gain n before))
    (record {
      each = λ n. let more = gain.each n in let less = lost.each n in omega arith;
      total = let more = gain.total in let less = lost.total in omega arith;
    }) kept
