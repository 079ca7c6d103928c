-- What reading a list of tokens tells of it: the file that it spells, or its first dead token.
use Rattle.std.specs.Prelude.{◌≡◌, ℕ, suc, ◌+◌, ◌≤◌, ◌<◌, List, [], ◌∷◌, ◌++◌, length, take, drop, Ok, Err}
use Rattle.std.proofs.Common.{refl, sym, ap, subst, ◌∙◌, arith, append_assoc, append-nil}
use Rattle.std.proofs.lemmas.List.{take-append-drop, take-append-le, length-take}
use Rattle.std.proofs.Math.Seq.{take-append-add}
use Rattle.uvl_lexer.specs.declared.token.Token.{Token}
use Rattle.uvl_lexer.specs.declared.token.TokenKind.TheVariants as token
use Rattle.uvl_lexer.specs.TokenList.{IsTokenList, AreInner, IsInner}
use Rattle.uvl_ast.specs.declared.file.File.{File}
use Rattle.uvl_grammar.specs.File.{Spells, A_file}
use Rattle.uvl_grammar.specs.Dead.{Dead}
use Rattle.uvl_grammar.specs.steps.Reading.{Read}
use Rattle.uvl_grammar.specs.steps.File.{file}
use Rattle.uvl_grammar.proofs.Readers.{Good, Outcome, ReadsOn, StopsAt, SameHead}
use Rattle.uvl_grammar.proofs.Completing.{Complete, Anything}
use Rattle.uvl_grammar.proofs.Parts.File.{file_good, file_complete}
use Rattle.uvl_grammar.proofs.Parts.Endings.{NoFinish, only_last, finish_last}

-- ---- what is spelled is read, and what is read is spelled

pub reads : (xs : List Token) (f : File) (rest : List Token) → Spells xs f → file (xs ++ rest) ≡ Ok (f, rest)
reads xs f rest spelled =
    let complete : Complete (λ m. file) Spells Anything 0 = file_complete in
    complete.reads 0 (omega arith) xs f rest spelled tt

pub reads_all : (xs : List Token) (f : File) → Spells xs f → file xs ≡ Ok (f, [])
reads_all xs f spelled = ap file (sym (append-nil xs)) ∙ reads xs f [] spelled

abbrev pub Stops : List Token → ℕ → Type 0
Stops ts left = StopsAt (λ m. file) Spells 0 ts left

abbrev pub Reads : List Token → File → List Token → Type 0
Reads ts f rest = ReadsOn (λ m. file) Spells 0 ts f rest

pub outcome : (ts : List Token) (r : Read File) → file ts ≡ r → Outcome (λ m. file) Spells 0 ts r
outcome ts r is =
    let good : Good (λ m. file) Spells 0 (suc (length ts)) = file_good in
    subst (λ r. Outcome (λ m. file) Spells 0 ts r) is (good.at ts (omega arith))

-- ---- one file

-- the file that was read
abbrev file_of : Read File → File → File
file_of (Ok r) f = r.0
file_of (Err left) f = f

pub one_file : (tokens : List Token) (f other : File) → Spells tokens f → Spells tokens other → other ≡ f
one_file tokens f other spelled also =
    ap (λ r. file_of r f) (sym (reads_all tokens other also) ∙ reads_all tokens f spelled)

-- ---- where reading stops

-- the token at which reading stops is dead
pub stopped_dead : (ts : List Token) (left : ℕ) (o : Stops ts left) (t : Token) (behind : List Token) → o.rest ≡ t ∷ behind → Dead ts (length o.front)
stopped_dead ts left o t behind rest others f spelled =
    let front : take (length o.front + 1) ts ≡ o.front ++ t ∷ [] =
    ap (take (length o.front + 1)) (o.splits ∙ ap (λ z. o.front ++ z) rest) ∙ take-append-add o.front (t ∷ behind) 1 in
    let joins : take (length o.front + 1) ts ++ others ≡ o.front ++ t ∷ others = ap (λ z. z ++ others) front ∙ append_assoc o.front (t ∷ []) others in
    let read = reads_all (o.front ++ t ∷ others) f (subst (λ z. Spells z f) joins spelled) in
    let same : SameHead o.rest (t ∷ others) = subst (λ z. SameHead z (t ∷ others)) (sym rest) refl in
    let stops = o.again 0 (omega arith) (t ∷ others) same in
    cc

-- none in front of it is
pub stopped_alive : (ts : List Token) (left : ℕ) (o : Stops ts left) (j : ℕ) → j < length o.front → Dead ts j → ⊥
stopped_alive ts left o j before dead =
    let within : j + 1 ≤ length o.front = omega arith in
    let joins : o.front ++ o.more ≡ take (j + 1) ts ++ (drop (j + 1) o.front ++ o.more) =
    ap (λ z. z ++ o.more) (sym (take-append-drop (j + 1) o.front))
    ∙ append_assoc (take (j + 1) o.front) (drop (j + 1) o.front) o.more
    ∙ ap (λ z. z ++ (drop (j + 1) o.front ++ o.more)) (sym (ap (take (j + 1)) o.splits ∙ take-append-le (j + 1) o.front o.rest within)) in
    dead (drop (j + 1) o.front ++ o.more) o.value (subst (λ z. Spells z o.value) joins o.completed)

-- ---- a list of tokens ends with its Finish

no_finish : (ts : List Token) → AreInner ts → NoFinish ts
no_finish [] inner = tt
no_finish (t ∷ ts) inner = ((λ is. subst IsInner is inner.0), no_finish ts inner.1)

-- a file ends with its Finish
record EndsFile (tokens : List Token) : Type 0 where
  front : List Token
  finish : Token
  joins : tokens ≡ front ++ finish ∷ []
  is : finish.kind ≡ token.Finish

ends_file : (tokens : List Token) (f : File) → Spells tokens f → EndsFile tokens
ends_file tokens f (A_file {ns} {ls} {ms} {fs} {rs} finish named included imported tree ruled is) =
    record { front = ns ++ ls ++ ms ++ fs ++ rs; finish = finish; joins = refl; is = is }

-- so nothing is behind a file in it
pub nothing_behind : (ts : List Token) → IsTokenList ts → (xs rest : List Token) (f : File) → ts ≡ xs ++ rest → Spells xs f → rest ≡ []
nothing_behind ts list xs rest f splits spelled =
    let ends = ends_file xs f spelled in
    let joins : list.front ++ list.end ∷ [] ≡ ends.front ++ ends.finish ∷ rest =
    sym list.joined ∙ splits ∙ ap (λ z. z ++ rest) ends.joins ∙ append_assoc ends.front (ends.finish ∷ []) rest in
    only_last list.front (no_finish list.front list.inner) list.end ends.front ends.finish rest joins ends.is

-- and reading it never runs out of tokens
pub never_out : (ts : List Token) → IsTokenList ts → (left : ℕ) → file ts ≡ Err left → (o : Stops ts left) → o.rest ≡ [] → ⊥
never_out ts list left stuck o rest =
    let whole : ts ≡ o.front = o.splits ∙ ap (λ z. o.front ++ z) rest ∙ append-nil o.front in
    let joins : o.front ++ o.more ≡ list.front ++ list.end ∷ o.more =
    ap (λ z. z ++ o.more) (sym whole ∙ list.joined) ∙ append_assoc list.front (list.end ∷ []) o.more in
    let none = finish_last list.front list.end o.more o.value (subst (λ z. Spells z o.value) joins o.completed) list.finish in
    let spelled : Spells ts o.value =
    subst (λ z. Spells z o.value) (ap (λ z. o.front ++ z) none ∙ append-nil o.front ∙ sym whole) o.completed in
    let read = reads_all ts o.value spelled in
    cc

-- ---- the front of a list

-- the tokens up to and with it say as much of those in front of it as all tokens do
pub same_front : (ts : List Token) (n j : ℕ) → j < n → n ≤ length ts → take (j + 1) (take n ts) ≡ take (j + 1) ts
same_front ts n j before within =
    let joins : ts ≡ take n ts ++ drop n ts = sym (take-append-drop n ts) in
    let some : j + 1 ≤ length (take n ts) = omega (arith, length-take n ts) in
    sym (ap (take (j + 1)) joins ∙ take-append-le (j + 1) (take n ts) (drop n ts) some)

pub same_dead : (ts : List Token) (n j : ℕ) → j < n → n ≤ length ts → Dead ts j → Dead (take n ts) j
same_dead ts n j before within dead others f spelled =
    dead others f (subst (λ z. Spells (z ++ others) f) (same_front ts n j before within) spelled)

pub dead_same : (ts : List Token) (n j : ℕ) → j < n → n ≤ length ts → Dead (take n ts) j → Dead ts j
dead_same ts n j before within dead others f spelled =
    dead others f (subst (λ z. Spells (z ++ others) f) (sym (same_front ts n j before within)) spelled)
