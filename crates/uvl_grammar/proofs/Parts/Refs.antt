-- References are read exactly.
use Rattle.std.specs.Prelude.{ℕ, List, ◌∷◌, ◌++◌}
use Rattle.std.proofs.Common.{ap, ◌∙◌, arith, append-nil}
use Rattle.uvl_lexer.specs.declared.token.Token.{Token}
use Rattle.uvl_lexer.specs.declared.token.Symbol.TheVariants as symbol
use Rattle.uvl_ast.specs.declared.names.Ref.{Ref}
use Rattle.uvl_grammar.specs.Tokens.{name_of}
use Rattle.uvl_grammar.specs.steps.Tests.{is_symbol}
use Rattle.uvl_grammar.specs.Shapes.{Spelling, Repeated}
use Rattle.uvl_grammar.specs.Refs.{SpellsDotName, Dot_name, SpellsRef, Reference}
use Rattle.uvl_grammar.specs.steps.Refs.{dot_name, reference}
use Rattle.uvl_grammar.proofs.TokenKinds.{symbol_kind, kind_symbol}
use Rattle.uvl_grammar.proofs.Readers.{Good, Then, IsOne, IsAccepted, IsDone, HasToken, then_good, spelled_so, done_good, many_good, opened, taken, respell}
use Rattle.uvl_grammar.proofs.Completing.{Complete, Anything, Avoids, PartsBegin, one_complete, accept_complete, next_complete, last_complete, spelled_complete, stops_complete, many_complete, one_then, accept_then, part_last, done_now}
use Rattle.uvl_grammar.proofs.Parts.Samples.{symbol_good, name_good}

-- ---- what is read is spelled

abbrev DotName : Spelling (List ℕ)
DotName = Then (IsOne (is_symbol symbol.Dot)) (λ dot. Then (IsAccepted name_of) (λ name. IsDone name.0))

dot_name_of : (xs : List Token) (v : List ℕ) → DotName xs v → SpellsDotName xs v
dot_name_of xs v t =
    let dot = opened t in
    let name = taken dot.second in
    respell SpellsDotName (Dot_name dot.token name.token (symbol_kind symbol.Dot dot.token.kind dot.passes) name.gives) (cc) (cc)

pub dot_name_good : {d n : ℕ} → Good (λ m. dot_name) SpellsDotName d n
unfolding dot_name
dot_name_good = spelled_so dot_name_of (then_good (symbol_good symbol.Dot) (λ dot. then_good name_good (λ name. done_good)))

dot_names_begin : HasToken SpellsDotName
dot_names_begin xs v (Dot_name dot t is named) = omega arith

abbrev Reference_parts : Spelling Ref
Reference_parts = Then (IsAccepted name_of) (λ first. Then (Repeated SpellsDotName) (λ names.
    IsDone (record { parts = first.0 ∷ names; place = first.1 })))

reference_of : (xs : List Token) (v : Ref) → Reference_parts xs v → SpellsRef xs v
reference_of xs v t =
    let first = taken t in
    respell SpellsRef (Reference first.token first.gives first.second.first)
    (first.joins ∙ ap (λ z. first.token ∷ z) (first.second.joins ∙ ap (λ z. first.second.front ++ z) first.second.second.nothing ∙ append-nil first.second.front)) first.second.second.gives

pub reference_good : {d n : ℕ} → Good (λ m. reference) SpellsRef d n
unfolding reference
reference_good = spelled_so reference_of (then_good name_good (λ first. then_good (many_good (is_symbol symbol.Dot) dot_name_good dot_names_begin) (λ names. done_good)))

-- ---- what is spelled is read

dot_name_parts : (xs : List Token) (v : List ℕ) → SpellsDotName xs v → DotName xs v
dot_name_parts xs v (Dot_name dot t is named) = one_then dot (kind_symbol symbol.Dot dot.kind is) (accept_then t named done_now)

pub dot_name_complete : {d : ℕ} → Complete (λ m. dot_name) SpellsDotName Anything d
unfolding dot_name
dot_name_complete = spelled_complete dot_name_parts (next_complete one_complete (λ dot. last_complete accept_complete))

dot_names_open : PartsBegin (is_symbol symbol.Dot) SpellsDotName
dot_names_open xs v (Dot_name dot t is named) = kind_symbol symbol.Dot dot.kind is

reference_parts : (xs : List Token) (v : Ref) → SpellsRef xs v → Reference_parts xs v
reference_parts xs v (Reference t named names) = accept_then t named (part_last _ names)

-- a reference stops where no dot follows
pub reference_complete : {d : ℕ} → Complete (λ m. reference) SpellsRef (Avoids (is_symbol symbol.Dot)) d
unfolding reference
reference_complete = spelled_complete reference_parts (next_complete accept_complete (λ first. last_complete
    (stops_complete (λ rest avoids. (tt, avoids)) (many_complete (is_symbol symbol.Dot) dot_name_complete dot_names_open (λ rest begins. tt)))))
