-- What a scan answers at a token are the named faults that are met there.
use Rattle.std.specs.Prelude.{◌≡◌, ℕ, ◌≤◌, ◌<◌, ◌⊎◌, Bool, true, false, cond, List, length, slice_get, get_or, Result, Ok, Err, IfOk, Option, Some, None, MatchOption}
use Rattle.std.proofs.Common.{refl, ap, subst, inl, inr, arith}
use Rattle.std.proofs.lemmas.Bool.{both_ways}
use Rattle.std.proofs.lemmas.Option.{slice_get_within, slice_get_cases}
use Rattle.uvl_base.specs.declared.fault.FaultKind.{FaultKind}
use Rattle.uvl_base.specs.declared.fault.FaultKind.TheVariants.{TypedFeature, FeatureCardinality, Average, UnsupportedOperation, ExpressionTooLarge, TooDeep}
use Rattle.uvl_base.specs.Fault.{number_of}
use Rattle.uvl_lexer.specs.declared.token.Token.{Token}
use Rattle.uvl_profile.specs.declared.candidate.Met.{Met}
use Rattle.uvl_grammar.specs.Dead.{Dead}
use Rattle.uvl_faults.specs.Named.{IsMet, Typed, Cardinal, Averaged, Unsupported, Nested, IsMetAlive, Large, Deep, Named, By_tokens, Where_alive, NoneNamed, LowestNamed, IsFirstNamed}
use Rattle.uvl_profile.specs.declared.candidate.Candidate.{Candidate}
use Rattle.uvl_profile.specs.First.{in_front, NothingMet, IsFirstMet}
use Rattle.uvl_profile.specs.Met.{is_typed_feature, is_feature_cardinality, is_average, is_unsupported, is_nested_too_deep, is_feature_too_deep, is_node_too_many}
use Rattle.uvl_profile.specs.Met.{met_by_word, if_nested, met_limit, met_either, met_of}

-- ---- the first of some tests

data WordCase (a b c d : Bool) : FaultKind → Type 0 where
  First : a ≡ true → WordCase a b c d TypedFeature
  Second : a ≡ false → b ≡ true → WordCase a b c d FeatureCardinality
  Third : a ≡ false → b ≡ false → c ≡ true → WordCase a b c d Average
  Fourth : a ≡ false → b ≡ false → c ≡ false → d ≡ true → WordCase a b c d UnsupportedOperation

abbrev words : Bool → Bool → Bool → Bool → Option FaultKind
words a b c d =
    cond a (Some TypedFeature) (cond b (Some FeatureCardinality) (cond c (Some Average) (cond d (Some UnsupportedOperation) None)))

record NoWord (a b c d : Bool) : Type 0 where
  typed : a ≡ false
  cardinal : b ≡ false
  averaged : c ≡ false
  unsupported : d ≡ false

no_word : (a b c d : Bool) → words a b c d ≡ None → NoWord a b c d
no_word true b c d e = cc
no_word false true c d e = cc
no_word false false true d e = cc
no_word false false false true e = cc
no_word false false false false e = record { typed = refl; cardinal = refl; averaged = refl; unsupported = refl }

some_word : (a b c d : Bool) (k : FaultKind) → words a b c d ≡ Some k → WordCase a b c d k
some_word true b c d k e = let same : TypedFeature ≡ k = cc in subst (λ k. WordCase true b c d k) same (First refl)
some_word false true c d k e = let same : FeatureCardinality ≡ k = cc in subst (λ k. WordCase false true c d k) same (Second refl refl)
some_word false false true d k e = let same : Average ≡ k = cc in subst (λ k. WordCase false false true d k) same (Third refl refl refl)
some_word false false false true k e =
    let same : UnsupportedOperation ≡ k = cc in subst (λ k. WordCase false false false true k) same (Fourth refl refl refl refl)
some_word false false false false k e = cc

data LimitCase (node nested feature : Bool) : Met → Type 0 where
  Node : node ≡ true → LimitCase node nested feature (record { alive = ExpressionTooLarge; dead = if_nested nested })
  Bracket : node ≡ false → nested ≡ true → LimitCase node nested feature (record { alive = TooDeep; dead = Some TooDeep })
  Feature : node ≡ false → nested ≡ false → feature ≡ true → LimitCase node nested feature (record { alive = TooDeep; dead = None })

abbrev limits : Bool → Bool → Bool → Option Met
limits node nested feature =
    cond node (Some (record { alive = ExpressionTooLarge; dead = if_nested nested }))
    (cond nested (Some (record { alive = TooDeep; dead = Some TooDeep })) (cond feature (Some (record { alive = TooDeep; dead = None })) None))

record NoLimit (node nested feature : Bool) : Type 0 where
  large : node ≡ false
  deep : nested ≡ false
  tall : feature ≡ false

no_limit : (node nested feature : Bool) → limits node nested feature ≡ None → NoLimit node nested feature
no_limit true nested feature e = cc
no_limit false true feature e = cc
no_limit false false true e = cc
no_limit false false false e = record { large = refl; deep = refl; tall = refl }

some_limit : (node nested feature : Bool) (m : Met) → limits node nested feature ≡ Some m → LimitCase node nested feature m
some_limit true nested feature m e =
    let made : Met = record { alive = ExpressionTooLarge; dead = if_nested nested } in
    let same : made ≡ m = cc in subst (λ m. LimitCase true nested feature m) same (Node refl)
some_limit false true feature m e =
    let made : Met = record { alive = TooDeep; dead = Some TooDeep } in
    let same : made ≡ m = cc in subst (λ m. LimitCase false true feature m) same (Bracket refl refl)
some_limit false false true m e =
    let made : Met = record { alive = TooDeep; dead = None } in
    let same : made ≡ m = cc in subst (λ m. LimitCase false false true m) same (Feature refl refl refl)
some_limit false false false m e = cc

-- ---- what is met at a token

module _ (before : List Token) (t : Token) where
  abbrev typed : Bool
  typed = is_typed_feature before t.kind

  abbrev cardinal : Bool
  cardinal = is_feature_cardinality before t.kind

  abbrev averaged : Bool
  averaged = is_average before t.kind

  abbrev unsupported : Bool
  unsupported = is_unsupported before t.kind

  abbrev nested : Bool
  nested = is_nested_too_deep before t

  abbrev large : Bool
  large = is_node_too_many before t.kind

  abbrev tall : Bool
  tall = is_feature_too_deep before t.kind

  -- a fault that is met, of either sort
  abbrev pub Met_there : FaultKind → Type 0
  Met_there kind = IsMet before t kind ⊎ IsMetAlive before t kind

  pub record Judged (alive : FaultKind) (dead : Option FaultKind) : Type 0 where
    pub there : Met_there alive
    pub lowest : (other : FaultKind) → Met_there other → number_of alive ≤ number_of other
    pub if_dead : MatchOption dead ((kind : FaultKind) → IsMet before t kind → ⊥)
        (λ kind. IsMet before t kind × ((other : FaultKind) → IsMet before t other → number_of kind ≤ number_of other))

  word_met : (k : FaultKind) → WordCase typed cardinal averaged unsupported k → IsMet before t k
  word_met k (First p) = Typed p
  word_met k (Second q p) = Cardinal p
  word_met k (Third q r p) = Averaged p
  word_met k (Fourth q r s p) = Unsupported p

  word_lowest : (k other : FaultKind) → WordCase typed cardinal averaged unsupported k → IsMet before t other → number_of k ≤ number_of other
  word_lowest k other (First p) (Typed m) = omega arith
  word_lowest k other (First p) (Cardinal m) = omega arith
  word_lowest k other (First p) (Averaged m) = omega arith
  word_lowest k other (First p) (Unsupported m) = omega arith
  word_lowest k other (First p) (Nested m) = omega arith
  word_lowest k other (Second q p) (Typed m) = absurd (both_ways typed q m)
  word_lowest k other (Second q p) (Cardinal m) = omega arith
  word_lowest k other (Second q p) (Averaged m) = omega arith
  word_lowest k other (Second q p) (Unsupported m) = omega arith
  word_lowest k other (Second q p) (Nested m) = omega arith
  word_lowest k other (Third q r p) (Typed m) = absurd (both_ways typed q m)
  word_lowest k other (Third q r p) (Cardinal m) = absurd (both_ways cardinal r m)
  word_lowest k other (Third q r p) (Averaged m) = omega arith
  word_lowest k other (Third q r p) (Unsupported m) = omega arith
  word_lowest k other (Third q r p) (Nested m) = omega arith
  word_lowest k other (Fourth q r s p) (Typed m) = absurd (both_ways typed q m)
  word_lowest k other (Fourth q r s p) (Cardinal m) = absurd (both_ways cardinal r m)
  word_lowest k other (Fourth q r s p) (Averaged m) = absurd (both_ways averaged s m)
  word_lowest k other (Fourth q r s p) (Unsupported m) = omega arith
  word_lowest k other (Fourth q r s p) (Nested m) = omega arith

  word_low : (k : FaultKind) → WordCase typed cardinal averaged unsupported k → number_of k ≤ 12
  word_low k (First p) = omega arith
  word_low k (Second q p) = omega arith
  word_low k (Third q r p) = omega arith
  word_low k (Fourth q r s p) = omega arith

  alive_high : (other : FaultKind) → IsMetAlive before t other → 17 ≤ number_of other
  alive_high other (Large m) = omega arith
  alive_high other (Deep m) = omega arith

  word_lowest_of_all : (k other : FaultKind) → WordCase typed cardinal averaged unsupported k → Met_there other → number_of k ≤ number_of other
  word_lowest_of_all k other w (inl m) = word_lowest k other w m
  word_lowest_of_all k other w (inr m) = omega (arith, word_low k w, alive_high other m)

  judged_word : (k : FaultKind) → WordCase typed cardinal averaged unsupported k → Judged k (Some k)
  judged_word k w = record {
    there = inl (word_met k w);
    lowest = λ other m. word_lowest_of_all k other w m;
    if_dead = (word_met k w, λ other m. word_lowest k other w m);
  }

  -- where no word is met, only brackets are
  no_word_met : NoWord typed cardinal averaged unsupported → (other : FaultKind) → IsMet before t other → (other ≡ TooDeep) × (nested ≡ true)
  no_word_met none other (Typed m) = absurd (both_ways typed none.typed m)
  no_word_met none other (Cardinal m) = absurd (both_ways cardinal none.cardinal m)
  no_word_met none other (Averaged m) = absurd (both_ways averaged none.averaged m)
  no_word_met none other (Unsupported m) = absurd (both_ways unsupported none.unsupported m)
  no_word_met none other (Nested m) = (refl, m)

  too_deep : (other : FaultKind) → other ≡ TooDeep → number_of other ≡ 24
  too_deep other is = ap number_of is

  limit_lowest : NoWord typed cardinal averaged unsupported → (low : FaultKind) → number_of low ≤ 24
      → ((other : FaultKind) → IsMetAlive before t other → number_of low ≤ number_of other)
      → (other : FaultKind) → Met_there other → number_of low ≤ number_of other
  limit_lowest none low fits alive other (inl m) = omega (arith, fits, too_deep other (no_word_met none other m).0)
  limit_lowest none low fits alive other (inr m) = alive other m

  no_node : large ≡ false → (other : FaultKind) → IsMetAlive before t other → 24 ≤ number_of other
  no_node none other (Large m) = absurd (both_ways large none m)
  no_node none other (Deep m) = omega arith

  nested_if_dead : NoWord typed cardinal averaged unsupported → (b : Bool) → nested ≡ b
      → MatchOption (if_nested b) ((kind : FaultKind) → IsMet before t kind → ⊥)
      (λ kind. IsMet before t kind × ((other : FaultKind) → IsMet before t other → number_of kind ≤ number_of other))
  nested_if_dead none true is = (Nested is, λ other m. omega (arith, too_deep other (no_word_met none other m).0))
  nested_if_dead none false is = λ kind m. both_ways nested is (no_word_met none kind m).1

  judged_limit : NoWord typed cardinal averaged unsupported → (m : Met) → LimitCase large nested tall m → Judged m.alive m.dead
  judged_limit none m (Node p) = record {
    there = inr (Large p);
    lowest = limit_lowest none ExpressionTooLarge (omega arith) (λ other q. alive_high other q);
    if_dead = nested_if_dead none nested refl;
  }
  judged_limit none m (Bracket q p) = record {
    there = inl (Nested p);
    lowest = limit_lowest none TooDeep (omega arith) (λ other r. no_node q other r);
    if_dead = nested_if_dead none true p;
  }
  judged_limit none m (Feature q r p) = record {
    there = inr (Deep p);
    lowest = limit_lowest none TooDeep (omega arith) (λ other s. no_node q other s);
    if_dead = nested_if_dead none false r;
  }

  -- the answer, by whether a word is met
  answered : (word : Option FaultKind) (m : Met) → met_by_word before t.kind ≡ word → met_either word (met_limit before t) ≡ Some m
      → Judged m.alive m.dead
  answered (Some k) m is e =
      let made : Met = record { alive = k; dead = Some k } in
      let same : made ≡ m = cc in
      subst (λ (m : Met). Judged m.alive m.dead) same (judged_word k (some_word typed cardinal averaged unsupported k is))
  answered None m is e = judged_limit (no_word typed cardinal averaged unsupported is) m (some_limit large nested tall m e)

  pub judged : (m : Met) → met_of before t ≡ Some m → Judged m.alive m.dead
  judged m e = answered (met_by_word before t.kind) m refl e

  alive_none : NoLimit large nested tall → (other : FaultKind) → IsMetAlive before t other → ⊥
  alive_none none other (Large m) = both_ways large none.large m
  alive_none none other (Deep m) = both_ways tall none.tall m

  nothing : (word : Option FaultKind) → met_by_word before t.kind ≡ word → met_either word (met_limit before t) ≡ None
      → (other : FaultKind) → Met_there other → ⊥
  nothing (Some k) is e other m = cc
  nothing None is e other (inl m) =
      both_ways nested (no_limit large nested tall e).deep (no_word_met (no_word typed cardinal averaged unsupported is) other m).1
  nothing None is e other (inr m) = alive_none (no_limit large nested tall e) other m

  pub nothing_met : met_of before t ≡ None → (other : FaultKind) → Met_there other → ⊥
  nothing_met e other m = nothing (met_by_word before t.kind) refl e other m

-- ---- at the k-th token

module _ (tokens : List Token) (k : ℕ) (t : Token) (here : slice_get tokens k ≡ Some t) where
  same_token : (u : Token) → slice_get tokens k ≡ Some u → u ≡ t
  same_token u is = cc

  met_at : (kind : FaultKind) → Named tokens k kind → Met_there (in_front k tokens) t kind
  met_at kind (By_tokens u is m) = inl (subst (λ u. IsMet (in_front k tokens) u kind) (same_token u is) m)
  met_at kind (Where_alive u is m alive) = inr (subst (λ u. IsMetAlive (in_front k tokens) u kind) (same_token u is) m)

  pub none_named : met_of (in_front k tokens) t ≡ None → NoneNamed tokens k
  none_named e kind named = nothing_met (in_front k tokens) t e kind (met_at kind named)

  named_alive : (kind : FaultKind) → (Dead tokens k → ⊥) → Met_there (in_front k tokens) t kind → Named tokens k kind
  named_alive kind alive (inl m) = By_tokens t here m
  named_alive kind alive (inr m) = Where_alive t here m alive

  met_dead : Dead tokens k → (kind : FaultKind) → Named tokens k kind → IsMet (in_front k tokens) t kind
  met_dead dead kind (By_tokens u is m) = subst (λ u. IsMet (in_front k tokens) u kind) (same_token u is) m
  met_dead dead kind (Where_alive u is m alive) = absurd (alive dead)

  named_dead : (d : Option FaultKind)
      → MatchOption d ((kind : FaultKind) → IsMet (in_front k tokens) t kind → ⊥)
      (λ kind. IsMet (in_front k tokens) t kind × ((other : FaultKind) → IsMet (in_front k tokens) t other → number_of kind ≤ number_of other))
      → Dead tokens k → MatchOption d (NoneNamed tokens k) (LowestNamed tokens k)
  named_dead None none dead = λ kind named. none kind (met_dead dead kind named)
  named_dead (Some kind) there dead = record {
    named = By_tokens t here there.0;
    lowest = λ other named. there.1 other (met_dead dead other named);
  }

  pub named_first : (m : Met) → met_of (in_front k tokens) t ≡ Some m → k < length tokens → ((j : ℕ) → j < k → NoneNamed tokens j)
      → IsFirstNamed tokens (record { index = k; met = m })
  named_first m e within before =
      let j = judged (in_front k tokens) t m e in
      record {
        within = within;
        none_before = before;
        alive = λ alive. record {
          named = named_alive m.alive alive j.there;
          lowest = λ other named. j.lowest other (met_at other named);
        };
        dead = λ dead. named_dead m.dead j.if_dead dead;
      }

-- a named fault is met at a token of the list
pub named_within : (tokens : List Token) (k : ℕ) (kind : FaultKind) → Named tokens k kind → k < length tokens
named_within tokens k kind (By_tokens t is m) = slice_get_within tokens k t is
named_within tokens k kind (Where_alive t is m alive) = slice_get_within tokens k t is

-- ---- in a list

module _ (tokens : List Token) where
  -- where nothing is met at a token, no named fault is
  pub nothing_named : (k : ℕ) → NothingMet tokens k → NoneNamed tokens k
  nothing_named k nothing kind (By_tokens t is m) = none_named tokens k t is (nothing t is) kind (By_tokens t is m)
  nothing_named k nothing kind (Where_alive t is m alive) = none_named tokens k t is (nothing t is) kind (Where_alive t is m alive)

  first_with : (c : Candidate) → IsFirstMet tokens c → (t : Token) → slice_get tokens c.index ≡ Some t → IsFirstNamed tokens c
  first_with c first t here =
      named_first tokens c.index t here c.met (first.met t here) first.within
      (λ k before. nothing_named k (first.none_before k before))

  -- the first token at which something is met is the first that is named
  pub first_is_named : (c : Candidate) → IsFirstMet tokens c → IsFirstNamed tokens c
  first_is_named c first = with_token (slice_get_cases tokens c.index).1
    where
      with_token : ((x : Token) × (c.index < length tokens) × (slice_get tokens c.index ≡ Some x) × (get_or tokens c.index x ≡ x))
          ⊎ ((length tokens ≤ c.index) × (slice_get tokens c.index ≡ None)) → IsFirstNamed tokens c
      with_token (inl found) = first_with c first found.0 found.2
      with_token (inr past) = absurd (omega (arith, past.0, first.within))

  -- of the answer of a search
  pub searched_named : {E : Type 0} (result : Result (Option Candidate) E)
      → IfOk result (λ found. MatchOption found ((k : ℕ) → NothingMet tokens k) (IsFirstMet tokens))
      → IfOk result (λ found. MatchOption found ((k : ℕ) → NoneNamed tokens k) (IsFirstNamed tokens))
  searched_named (Ok None) met = λ k. nothing_named k (met k)
  searched_named (Ok (Some c)) met = first_is_named c met
  searched_named (Err e) met = tt
