-- The fronts of groups are read exactly.
use Rattle.std.specs.Prelude.{◌≡◌, ℕ, false, List, [], ◌∷◌, ◌++◌, Some, None}
use Rattle.std.proofs.Common.{refl, sym, ap, subst, ◌∙◌, inl, inr}
use Rattle.uvl_lexer.specs.declared.token.Token.{Token}
use Rattle.uvl_lexer.specs.declared.token.TokenKind.{TokenKind}
use Rattle.uvl_lexer.specs.declared.token.TokenKind.TheVariants as token
use Rattle.uvl_base.specs.declared.word.Word.TheVariants as word
use Rattle.uvl_lexer.specs.declared.token.Symbol.TheVariants as symbol
use Rattle.uvl_ast.specs.declared.feature.GroupKind.{GroupKind}
use Rattle.uvl_ast.specs.declared.feature.GroupKind.TheVariants as group
use Rattle.uvl_grammar.specs.Tokens.{whole_of}
use Rattle.uvl_grammar.specs.steps.Tests.{is_symbol, stays}
use Rattle.uvl_grammar.specs.Shapes.{Spelling}
use Rattle.uvl_grammar.specs.Groups.{GroupFront, SpellsKind, Mandatory, Optional, Alternative, Or, Exactly, Between, From}
use Rattle.uvl_grammar.specs.steps.Groups.{kind_of, upper, range_from, range, group_front}
use Rattle.uvl_grammar.proofs.TokenKinds.{symbol_kind, kind_symbol}
use Rattle.uvl_grammar.proofs.Readers.{Good, Then, IsOne, IsAccepted, IsDone, Either, then_good, spelled_so, done_good, choose_good, good_accept, opened, taken, respell}
use Rattle.uvl_grammar.proofs.Completing.{Complete, Anything, Begins, Avoids, PartsBegin, one_complete, accept_complete, next_complete, then_complete, last_complete, done_complete, spelled_complete, stops_complete, choose_complete, one_then, accept_then, part_then, done_now}
use Rattle.uvl_grammar.proofs.Firsts.{symbol_avoids}
use Rattle.uvl_grammar.proofs.Parts.Samples.{sample, symbol_good, whole_good}

abbrev UpperParts : ℕ → Spelling GroupKind
UpperParts lo = Either (Then (IsOne (is_symbol symbol.Star)) (λ star. IsDone (group.Range lo None)))
    (Then (IsAccepted whole_of) (λ hi. IsDone (group.Range lo (Some hi.0))))

abbrev RangeFromParts : ℕ → Spelling GroupKind
RangeFromParts lo = Either (Then (IsOne (is_symbol symbol.Dots)) (λ dots. UpperParts lo)) (IsDone (group.Range lo (Some lo)))

abbrev RangeParts : Spelling GroupFront
RangeParts = Then (IsOne (is_symbol symbol.LeftBracket)) (λ place. Then (IsAccepted whole_of) (λ lo. Then (RangeFromParts lo.0) (λ kind.
    Then (IsOne (is_symbol symbol.RightBracket)) (λ right. IsDone (kind, place)))))

upper_good : (lo : ℕ) {d n : ℕ} → Good (λ m. upper lo) (UpperParts lo) d n
unfolding upper
upper_good lo = choose_good (is_symbol symbol.Star) (then_good (symbol_good symbol.Star) (λ star. done_good)) (then_good whole_good (λ hi. done_good))

range_from_good : (lo : ℕ) {d n : ℕ} → Good (λ m. range_from lo) (RangeFromParts lo) d n
unfolding range_from
range_from_good lo = choose_good (is_symbol symbol.Dots) (then_good (symbol_good symbol.Dots) (λ dots. upper_good lo)) done_good

range_good : {d n : ℕ} → Good (λ m. range) RangeParts d n
unfolding range
range_good = then_good (symbol_good symbol.LeftBracket) (λ place. then_good whole_good (λ lo. then_good (range_from_good lo.0) (λ kind.
    then_good (symbol_good symbol.RightBracket) (λ right. done_good))))

-- ---- what is read is spelled

-- the front that is behind dots
upper_of : (left low dots : Token) (lo : ℕ) → left.kind ≡ token.Symbol symbol.LeftBracket → whole_of low.kind ≡ Some lo
    → dots.kind ≡ token.Symbol symbol.Dots → (zs : List Token) (kind : GroupKind) → UpperParts lo zs kind
    → (right : Token) → right.kind ≡ token.Symbol symbol.RightBracket
    → SpellsKind (left ∷ low ∷ dots ∷ zs ++ right ∷ []) (kind, left.place)
upper_of left low dots lo opens whole are zs kind (inl t) right closes =
    let star = opened t in
    respell SpellsKind (From left low dots star.token right opens whole are (symbol_kind symbol.Star star.token.kind star.passes) closes)
    (ap (λ z. left ∷ low ∷ dots ∷ z ++ right ∷ []) (star.joins ∙ ap (λ z. star.token ∷ z) star.second.nothing))
    (ap (λ z. (z, left.place)) star.second.gives)
upper_of left low dots lo opens whole are zs kind (inr t) right closes =
    let high = taken t in
    respell SpellsKind (Between left low dots high.token right opens whole are high.gives closes)
    (ap (λ z. left ∷ low ∷ dots ∷ z ++ right ∷ []) (high.joins ∙ ap (λ z. high.token ∷ z) high.second.nothing))
    (ap (λ z. (z, left.place)) high.second.gives)

-- the front that a lower bound, what is behind it, and brackets make
range_from_of : (left low : Token) (lo : ℕ) → left.kind ≡ token.Symbol symbol.LeftBracket → whole_of low.kind ≡ Some lo
    → (ys : List Token) (kind : GroupKind) → RangeFromParts lo ys kind → (right : Token) → right.kind ≡ token.Symbol symbol.RightBracket
    → SpellsKind (left ∷ low ∷ ys ++ right ∷ []) (kind, left.place)
range_from_of left low lo opens whole ys kind (inl t) right closes =
    let dots = opened t in
    respell SpellsKind (upper_of left low dots.token lo opens whole (symbol_kind symbol.Dots dots.token.kind dots.passes) dots.back kind dots.second right closes)
    (ap (λ z. left ∷ low ∷ z ++ right ∷ []) dots.joins) refl
range_from_of left low lo opens whole ys kind (inr t) right closes =
    respell SpellsKind (Exactly left low right opens whole closes) (ap (λ z. left ∷ low ∷ z ++ right ∷ []) t.nothing)
    (ap (λ z. (z, left.place)) t.gives)

range_of : (xs : List Token) (front : GroupFront) → RangeParts xs front → SpellsKind xs front
range_of xs front t =
    let left = opened t in
    let low = taken left.second in
    let right = opened low.second.second in
    respell SpellsKind
    (range_from_of left.token low.token low.value (symbol_kind symbol.LeftBracket left.token.kind left.passes) low.gives
    low.second.front low.second.middle low.second.first right.token (symbol_kind symbol.RightBracket right.token.kind right.passes))
    (left.joins ∙ ap (λ z. left.token ∷ z) (low.joins ∙ ap (λ z. low.token ∷ z) (low.second.joins
    ∙ ap (λ z. low.second.front ++ z) (right.joins ∙ ap (λ z. right.token ∷ z) right.second.nothing))))
    right.second.gives

-- the front that a word is
word_front : (t : Token) (kind : TokenKind) → t.kind ≡ kind → (k : GroupKind) → kind_of kind ≡ Some k → SpellsKind (t ∷ []) (k, t.place)
word_front t (token.Word word.Mandatory) is k e = respell SpellsKind (Mandatory t is) refl (cc)
word_front t (token.Word word.Optional) is k e = respell SpellsKind (Optional t is) refl (cc)
word_front t (token.Word word.Alternative) is k e = respell SpellsKind (Alternative t is) refl (cc)
word_front t (token.Word word.Or) is k e = respell SpellsKind (Or t is) refl (cc)
word_front t (token.Word w) is k e = cc
word_front t (token.Symbol s) is k e = cc
word_front t (token.Name name quoted) is k e = cc
word_front t (token.Number value whole) is k e = cc
word_front t (token.Text text) is k e = cc
word_front t token.Indent is k e = cc
word_front t token.Dedent is k e = cc
word_front t token.Newline is k e = cc
word_front t token.Finish is k e = cc

abbrev FrontParts : Spelling GroupFront
FrontParts = Either RangeParts (IsAccepted kind_of)

front_of : (xs : List Token) (front : GroupFront) → FrontParts xs front → SpellsKind xs front
front_of xs front (inl t) = range_of xs front t
front_of xs front (inr t) =
    respell SpellsKind (word_front t.token t.token.kind refl front.0 t.gives) t.alone (ap (λ z. (front.0, z)) t.stands)

pub front_good : {d n : ℕ} → Good (λ m. group_front) SpellsKind d n
unfolding group_front
front_good {d} {n} = spelled_so front_of (choose_good (is_symbol symbol.LeftBracket) range_good
    (good_accept kind_of (sample (token.Word word.Mandatory)) group.Mandatory refl d n))

-- ---- what is spelled is read

upper_complete : (lo : ℕ) {d : ℕ} → Complete (λ m. upper lo) (UpperParts lo) Anything d
unfolding upper
upper_complete lo = choose_complete (is_symbol symbol.Star) (next_complete one_complete (λ star. done_complete Anything)) (last_complete accept_complete)
    (λ xs kind rest t any. let star = opened t in subst (λ (z : List Token). Begins (is_symbol symbol.Star) (z ++ rest)) (sym star.joins) star.passes)
    (λ xs kind rest t any. let high = taken t in subst (λ (z : List Token). Avoids (is_symbol symbol.Star) (z ++ rest)) (sym high.joins) (no_symbol high.token.kind high.value high.gives))
  where
    no_symbol : (kind : TokenKind) (n : ℕ) → whole_of kind ≡ Some n → is_symbol symbol.Star kind ≡ false
    no_symbol (token.Number value whole) n e = refl
    no_symbol (token.Symbol s) n e = cc
    no_symbol (token.Word w) n e = refl
    no_symbol (token.Name name quoted) n e = refl
    no_symbol (token.Text text) n e = refl
    no_symbol token.Indent n e = refl
    no_symbol token.Dedent n e = refl
    no_symbol token.Newline n e = refl
    no_symbol token.Finish n e = refl

range_from_complete : (lo : ℕ) {d : ℕ} → Complete (λ m. range_from lo) (RangeFromParts lo) (Avoids (is_symbol symbol.Dots)) d
unfolding range_from
range_from_complete lo = choose_complete (is_symbol symbol.Dots) (next_complete one_complete (λ dots. stops_complete (λ rest avoids. tt) (upper_complete lo)))
    (done_complete (Avoids (is_symbol symbol.Dots)))
    (λ xs kind rest t avoids. let dots = opened t in subst (λ (z : List Token). Begins (is_symbol symbol.Dots) (z ++ rest)) (sym dots.joins) dots.passes)
    (λ xs kind rest t avoids. subst (λ (z : List Token). Avoids (is_symbol symbol.Dots) (z ++ rest)) (sym t.nothing) avoids)

range_complete : {d : ℕ} → Complete (λ m. range) RangeParts Anything d
unfolding range
range_complete = next_complete one_complete (λ place. next_complete accept_complete (λ lo. then_complete (range_from_complete lo.0)
    (λ kind. next_complete one_complete (λ right. done_complete Anything))
    (λ kind ys w rest t any. let right = opened t in
    subst (λ (z : List Token). Avoids (is_symbol symbol.Dots) (z ++ rest)) (sym right.joins)
    (symbol_avoids symbol.RightBracket (is_symbol symbol.Dots) refl (right.token ∷ right.back ++ rest) right.passes))))

range_made : (left low right : Token) (lo : ℕ) (kind : GroupKind) (ys : List Token) → left.kind ≡ token.Symbol symbol.LeftBracket
    → whole_of low.kind ≡ Some lo → RangeFromParts lo ys kind → right.kind ≡ token.Symbol symbol.RightBracket
    → FrontParts (left ∷ low ∷ ys ++ right ∷ []) (kind, left.place)
range_made left low right lo kind ys opens whole r closes =
    inl (one_then left (kind_symbol symbol.LeftBracket left.kind opens) (accept_then low whole (part_then _ _ _ r
    (one_then right (kind_symbol symbol.RightBracket right.kind closes) done_now))))

word_made : (t : Token) (k : GroupKind) → kind_of t.kind ≡ Some k → FrontParts (t ∷ []) (k, t.place)
word_made t k e = inr (record { token = t; alone = refl; gives = e; stands = refl })

front_parts : (xs : List Token) (front : GroupFront) → SpellsKind xs front → FrontParts xs front
front_parts xs front (Mandatory t is) = word_made t group.Mandatory (ap kind_of is)
front_parts xs front (Optional t is) = word_made t group.Optional (ap kind_of is)
front_parts xs front (Alternative t is) = word_made t group.Alternative (ap kind_of is)
front_parts xs front (Or t is) = word_made t group.Or (ap kind_of is)
front_parts xs front (Exactly left t right opens whole closes) = range_made left t right _ _ [] opens whole (inr done_now) closes
front_parts xs front (Between left low dots high right opens whole are last closes) =
    range_made left low right _ _ (dots ∷ high ∷ []) opens whole (inl (one_then dots (kind_symbol symbol.Dots dots.kind are) (inr (accept_then high last done_now)))) closes
front_parts xs front (From left low dots star right opens whole are is closes) =
    range_made left low right _ _ (dots ∷ star ∷ []) opens whole (inl (one_then dots (kind_symbol symbol.Dots dots.kind are) (inl (one_then star (kind_symbol symbol.Star star.kind is) done_now)))) closes

pub front_complete : {d : ℕ} → Complete (λ m. group_front) SpellsKind Anything d
unfolding group_front
front_complete = spelled_complete front_parts (choose_complete (is_symbol symbol.LeftBracket) range_complete accept_complete
    (λ xs front rest t any. let left = opened t in subst (λ (z : List Token). Begins (is_symbol symbol.LeftBracket) (z ++ rest)) (sym left.joins) left.passes)
    (λ xs front rest t any. subst (λ (z : List Token). Avoids (is_symbol symbol.LeftBracket) (z ++ rest)) (sym t.alone) (no_symbol t.token.kind front.0 t.gives)))
  where
    no_symbol : (kind : TokenKind) (k : GroupKind) → kind_of kind ≡ Some k → is_symbol symbol.LeftBracket kind ≡ false
    no_symbol (token.Symbol s) k e = cc
    no_symbol (token.Number value whole) k e = refl
    no_symbol (token.Word w) k e = refl
    no_symbol (token.Name name quoted) k e = refl
    no_symbol (token.Text text) k e = refl
    no_symbol token.Indent k e = refl
    no_symbol token.Dedent k e = refl
    no_symbol token.Newline k e = refl
    no_symbol token.Finish k e = refl

pub fronts_stay : PartsBegin stays SpellsKind
fronts_stay xs front (Mandatory t is) = ap stays is
fronts_stay xs front (Optional t is) = ap stays is
fronts_stay xs front (Alternative t is) = ap stays is
fronts_stay xs front (Or t is) = ap stays is
fronts_stay xs front (Exactly left t right opens whole closes) = ap stays opens
fronts_stay xs front (Between left low dots high right opens whole are last closes) = ap stays opens
fronts_stay xs front (From left low dots star right opens whole are is closes) = ap stays opens
