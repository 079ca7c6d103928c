-- A list of tokens is parsed as one file, or refused at one place for one kind of fault, and never both.
use Rattle.std.specs.Prelude.{◌≡◌, ◌⊎◌, ℕ, zero, suc, ◌+◌, ◌-◌, ◌≤◌, ◌<◌, ◌==◌, cond, List, length, take, slice_get, get_or, Ok, Err, Option, Some, None}
use Rattle.std.specs.Option.{unwrap_or}
use Rattle.std.proofs.Common.{refl, sym, ap, subst, ◌∙◌, inl, inr, arith, below_more}
use Rattle.std.proofs.lemmas.Bool.{cases_order}
use Rattle.std.proofs.lemmas.Option.{slice_get_cases}
use Rattle.uvl_base.specs.declared.place.Place.{Place}
use Rattle.uvl_base.specs.declared.fault.FaultKind.{FaultKind}
use Rattle.uvl_base.specs.declared.fault.FaultKind.TheVariants.{Syntax, TypedFeature, FeatureCardinality, Average, UnsupportedOperation, ExpressionTooLarge, TooDeep}
use Rattle.uvl_base.specs.Fault.{number_of}
use Rattle.uvl_lexer.specs.declared.token.Token.{Token}
use Rattle.uvl_lexer.specs.TokenList.{IsTokenList}
use Rattle.uvl_ast.specs.declared.file.File.{File}
use Rattle.uvl_profile.specs.declared.candidate.Candidate.{Candidate}
use Rattle.uvl_profile.specs.declared.candidate.Met.{Met}
use Rattle.uvl_faults.specs.Named.{Typed, Cardinal, Averaged, Unsupported, Nested, Large, Deep, Named, By_tokens, Where_alive, NoneNamed, LowestNamed, IsFirstNamed}
use Rattle.uvl_profile.specs.First.{in_front}
use Rattle.uvl_profile.specs.Met.{met_of}
use Rattle.uvl_parser.specs.Parsing.{IsParsedAs, IsSyntax, IsFaultAt, IsRefusedAt, IsParsedOnce}
use Rattle.uvl_grammar.specs.steps.Reading.{Read}
use Rattle.uvl_grammar.specs.steps.File.{file}
use Rattle.uvl_faults.proofs.Naming.{none_named, named_first, named_within}
use Rattle.uvl_faults.proofs.Shallow.{spelled_alive}
use Rattle.uvl_grammar.proofs.WholeFiles.{one_file}
use Rattle.uvl_parser.proofs.Parsed.{refused_there, all_read, all_stuck, front_read, all_taken, last_stuck, front_stuck}

-- ---- one fault

-- the named fault of a number
kind_of : ℕ → FaultKind
kind_of n =
    cond (n == 9) TypedFeature (cond (n == 10) FeatureCardinality (cond (n == 11) Average
    (cond (n == 12) UnsupportedOperation (cond (n == 17) ExpressionTooLarge TooDeep))))

kind_again : (tokens : List Token) (k : ℕ) (kind : FaultKind) → Named tokens k kind → kind_of (number_of kind) ≡ kind
unfolding kind_of
kind_again tokens k kind (By_tokens t is (Typed m)) = refl
kind_again tokens k kind (By_tokens t is (Cardinal m)) = refl
kind_again tokens k kind (By_tokens t is (Averaged m)) = refl
kind_again tokens k kind (By_tokens t is (Unsupported m)) = refl
kind_again tokens k kind (By_tokens t is (Nested m)) = refl
kind_again tokens k kind (Where_alive t is (Large m) alive) = refl
kind_again tokens k kind (Where_alive t is (Deep m) alive) = refl

same_lowest : (tokens : List Token) (k : ℕ) (a b : FaultKind) → LowestNamed tokens k a → LowestNamed tokens k b → b ≡ a
same_lowest tokens k a b l m =
    let below = l.lowest b m.named in
    let above = m.lowest a l.named in
    let numbers : number_of b ≡ number_of a = omega (arith, below, above) in
    sym (kind_again tokens k b m.named) ∙ ap kind_of numbers ∙ kind_again tokens k a l.named

module _ (tokens : List Token) where
  none_earlier : (k j : ℕ) (a b : FaultKind) → IsFaultAt tokens k a → IsFaultAt tokens j b → k < j → ⊥
  none_earlier k j a b first second before = by_cause first.cause
    where
      by_cause : LowestNamed tokens k a ⊎ IsSyntax tokens k a → ⊥
      by_cause (inl named) = second.unnamed_before k before a named.named
      by_cause (inr syntax) = second.alive_before k before syntax.dead

  same_token : (k j : ℕ) (a b : FaultKind) → IsFaultAt tokens k a → IsFaultAt tokens j b → j ≡ k
  same_token k j a b first second = by_order (cases_order k j)
    where
      by_order : (k ≡ j) ⊎ ((k < j) ⊎ (j < k)) → j ≡ k
      by_order (inl same) = sym same
      by_order (inr (inl before)) = absurd (none_earlier k j a b first second before)
      by_order (inr (inr behind)) = absurd (none_earlier j k b a second first behind)

  same_kind : (k : ℕ) (a b : FaultKind) → IsFaultAt tokens k a → IsFaultAt tokens k b → b ≡ a
  same_kind k a b first second = by_causes first.cause second.cause
    where
      by_causes : LowestNamed tokens k a ⊎ IsSyntax tokens k a → LowestNamed tokens k b ⊎ IsSyntax tokens k b → b ≡ a
      by_causes (inl l) (inl m) = same_lowest tokens k a b l m
      by_causes (inl l) (inr s) = absurd (s.unnamed a l.named)
      by_causes (inr s) (inl m) = absurd (s.unnamed b m.named)
      by_causes (inr s) (inr r) = r.syntax ∙ sym s.syntax

  -- a list that is parsed as a file is refused nowhere
  pub never_both : (f : File) → IsParsedAs tokens f → (place : Place) (kind : FaultKind) → IsRefusedAt tokens place kind → ⊥
  never_both f parsed place kind refused = by_cause refused.fault.cause
    where
      by_cause : LowestNamed tokens refused.k kind ⊎ IsSyntax tokens refused.k kind → ⊥
      by_cause (inl named) = parsed.unnamed refused.k kind named.named
      by_cause (inr syntax) = spelled_alive tokens f refused.k parsed.spelled syntax.dead

  has_file : (f : File) → IsParsedAs tokens f → IsParsedOnce tokens
  has_file f parsed = inl (record {
    file = f;
    parsed = parsed;
    one = λ other also. one_file tokens f other parsed.spelled also.spelled;
    never_refused = never_both f parsed;
  })

  refused_once : (k : ℕ) (kind : FaultKind) (t : Token) → slice_get tokens k ≡ Some t → IsFaultAt tokens k kind → IsParsedOnce tokens
  refused_once k kind t here fault =
      let refused = refused_there tokens k kind t here fault in
      inr (record {
        place = t.place;
        kind = kind;
        refused = refused;
        one_place = λ other why also.
            let same = same_token k also.k kind why fault also.fault in
            let token : Some also.token ≡ Some t = sym also.at ∙ ap (slice_get tokens) same ∙ here in
            let is : also.token ≡ t = cc in
            also.stands ∙ ap (λ (u : Token). u.place) is;
        one_kind = λ other why also.
            let same = same_token k also.k kind why fault also.fault in
            same_kind k kind why fault (subst (λ n. IsFaultAt tokens n why) same also.fault);
        no_file = λ f parsed. never_both f parsed t.place kind refused;
      })

  has_refusal : (k : ℕ) (kind : FaultKind) → IsFaultAt tokens k kind → IsParsedOnce tokens
  has_refusal k kind fault = with_token (slice_get_cases tokens k).1
    where
      with_token : ((x : Token) × (k < length tokens) × (slice_get tokens k ≡ Some x) × (get_or tokens k x ≡ x)) ⊎ ((length tokens ≤ k) × (slice_get tokens k ≡ None))
          → IsParsedOnce tokens
      with_token (inl found) = refused_once k kind found.0 found.2 fault
      with_token (inr past) = absurd (omega (arith, past.0, fault.within))

  -- ---- the first named fault, or none

  Searched : ℕ → Type 0
  Searched n = ((k : ℕ) → k < n → NoneNamed tokens k) ⊎ ((c : Candidate) × IsFirstNamed tokens c)

  at_one : (n : ℕ) (t : Token) → n < length tokens → slice_get tokens n ≡ Some t → ((k : ℕ) → k < n → NoneNamed tokens k)
      → (m : Option Met) → met_of (in_front n tokens) t ≡ m → Searched (n + 1)
  unfolding Searched
  at_one n t within here none None is = inl (below_more (λ j. NoneNamed tokens j) n none (none_named tokens n t here is))
  at_one n t within here none (Some m) is = inr (_, named_first tokens n t here m is within none)

  one_more : (n : ℕ) → n < length tokens → Searched n → Searched (n + 1)
  unfolding Searched
  one_more n within (inr found) = inr found
  one_more n within (inl none) = with_token (slice_get_cases tokens n).1
    where
      with_token : ((x : Token) × (n < length tokens) × (slice_get tokens n ≡ Some x) × (get_or tokens n x ≡ x)) ⊎ ((length tokens ≤ n) × (slice_get tokens n ≡ None))
          → Searched (n + 1)
      with_token (inl found) = at_one n found.0 within found.2 none (met_of (in_front n tokens) found.0) refl
      with_token (inr past) = absurd (omega (arith, past.0))

  searched : (n : ℕ) → n ≤ length tokens → Searched n
  unfolding Searched
  searched zero within = inl (λ k before. absurd (omega arith))
  searched (suc n) within =
      let next : n + 1 ≡ suc n = omega arith in
      subst Searched next (one_more n (omega arith) (searched n (omega arith)))

  -- ---- the answer

  module _ (list : IsTokenList tokens) where
    whole : ((k : ℕ) → NoneNamed tokens k) → (r : Read File) → file tokens ≡ r → IsParsedOnce tokens
    whole unnamed (Ok r) is = has_file r.0 (all_read tokens list unnamed r.0 r.1 is)
    whole unnamed (Err left) is = has_refusal (length tokens - left) Syntax (all_stuck tokens list unnamed left is).2

    up_to : (c : Candidate) → IsFirstNamed tokens c → (r : Read File) → file (take (c.index + 1) tokens) ≡ r → IsParsedOnce tokens
    up_to c first (Ok r) is = has_refusal c.index c.met.alive (front_read tokens list c first r.0 r.1 is)
    up_to c first (Err zero) is = has_refusal c.index c.met.alive (all_taken tokens list c first is)
    up_to c first (Err (suc zero)) is = has_refusal c.index (unwrap_or c.met.dead Syntax) (last_stuck tokens list c first is)
    up_to c first (Err (suc (suc n))) is =
        let some : 2 ≤ suc (suc n) = omega arith in
        has_refusal (c.index + 1 - suc (suc n)) Syntax (front_stuck tokens list c first (suc (suc n)) some is).1

    by_search : Searched (length tokens) → IsParsedOnce tokens
    unfolding Searched
    by_search (inl none) =
        whole (λ k kind named. none k (named_within tokens k kind named) kind named) (file tokens) refl
    by_search (inr found) = up_to found.0 found.1 (file (take (found.0.index + 1) tokens)) refl

    pub parsed_once : IsParsedOnce tokens
    parsed_once = by_search (searched (length tokens) (omega arith))
