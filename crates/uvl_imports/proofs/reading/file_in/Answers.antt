-- Where the parser refuses the tokens of the bytes, they have that fault.
use Rattle.std.proofs.Common.{List, subst}
use Rattle.std.proofs.lemmas.Result.{err_from_is_err_and}
use Rattle.uvl_lexer.specs.declared.token.Token.{Token}
use Rattle.uvl_parser.specs.Parsing.{OnFault, IsRefusedAt}
use Rattle.uvl_imports.proofs.Causes.{tokens_of, cause_of_parser}
use Rattle.uvl_imports.proofs.reading.file_in.Goals as goal

pub returns-in_err-parse-clause-fault : goal.returns-in_err-parse-clause-fault
returns-in_err-parse-clause-fault c =
    let p = err_from_is_err_and c.from_residual-in_err-parse.result c.from_residual-in_err-parse.ensures.1 in
    let read = tokens_of c.args.bytes.now c.in-Ok.text.now c.in_ok-tokens.tokens.items c.in-Ok.ensures.cases.0 c.in-Ok.ensures.cases.1 c.in_ok-tokens.ensures.tokens in
    let P : List Token → Type 0 = λ tokens. OnFault c.in_err-parse.field-0.0 (λ place kind. IsRefusedAt tokens place kind) in
    rw (p.1, p.2) (cause_of_parser c.args.bytes.now c.in_ok-tokens.tokens.items read c.in_err-parse.field-0.0 (subst P c.deref.ensures.value c.in_err-parse.ensures.fault))
