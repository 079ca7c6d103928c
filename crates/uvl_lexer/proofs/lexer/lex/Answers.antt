-- What is read one token after another is the layout by lines.
use Rattle.std.proofs.Common.{◌≡◌, ℕ, List, Result, Ok, Err, refl, sym, ◌∙◌, subst, rules}
use Rattle.std.specs.Prelude.{chars, IfOk, IfErr, IsErr}
use Rattle.uvl_base.specs.declared.place.Place.{Place}
use Rattle.uvl_base.specs.declared.fault.FaultKind.{FaultKind}
use Rattle.uvl_lexer.specs.declared.fault.LexFault.{LexFault}
use Rattle.uvl_lexer.specs.declared.fault.LexFault.TheVariants.{At, OutOfMemory}
use Rattle.uvl_lexer.specs.declared.token.Token.{Token}
use Rattle.uvl_lexer.specs.Layout.{Lexed}
use Rattle.uvl_lexer.specs.Reading.{OnFault}
use Rattle.uvl_lexer.specs.TokenList.{IsTokenList}
use Rattle.uvl_lexer.specs.steps.Turns.{read_through}
use Rattle.uvl_lexer.proofs.Laying.{lexed-reads}
use Rattle.uvl_lexer.proofs.TokenLists.{tokens_are_a_list}
use Rattle.uvl_lexer.proofs.lexer.lex.Goals as goal

pub returns-clause-tokens : goal.returns-clause-tokens
returns-clause-tokens c =
    subst (λ (l : Lexed). IfOk c.read_text.result (λ tokens. l ≡ Ok tokens.items)) (sym (lexed-reads (chars c.args.text.now))) c.read_text.ensures.tokens

pub returns-clause-stops : goal.returns-clause-stops
returns-clause-stops c =
    subst (λ (l : Lexed). IfErr c.read_text.result (λ fault. OnFault fault (λ place kind. l ≡ Err (place, kind)))) (sym (lexed-reads (chars c.args.text.now))) c.read_text.ensures.stops

-- a text that has tokens is refused for want of memory alone
refused_for_memory : {A : Type 0} (r : Result A LexFault) (l : Lexed) (tokens : List Token) → l ≡ Ok tokens → IfErr r (λ f. OnFault f (λ place kind. l ≡ Err (place, kind))) → IfErr r (λ f. f ≡ OutOfMemory)
refused_for_memory (Ok made) l tokens has stops = stops
refused_for_memory (Err (At place kind)) l tokens has stops = let clash : ◌≡◌ {A = Lexed} (Err (place, kind)) (Ok tokens) = sym stops ∙ has in cc
refused_for_memory (Err OutOfMemory) l tokens has stops = refl

-- a text that stops is refused
stops_refused : {A : Type 0} (r : Result A LexFault) (items : A → List Token) (l : Lexed) (place : Place) (kind : FaultKind) → l ≡ Err (place, kind) → IfOk r (λ made. l ≡ Ok (items made)) → IsErr r
stops_refused (Ok made) items l place kind stop has = absurd (let clash : ◌≡◌ {A = Lexed} (Err (place, kind)) (Ok (items made)) = sym stop ∙ has in cc)
stops_refused (Err fault) items l place kind stop has = search rules

pub returns-clause-never_refused : goal.returns-clause-never_refused
returns-clause-never_refused c =
    let text = chars c.args.text.now in
    λ tokens has. refused_for_memory c.read_text.result (read_through text) tokens (sym (lexed-reads text) ∙ has) c.read_text.ensures.stops

pub returns-clause-never_read : goal.returns-clause-never_read
returns-clause-never_read c =
    let text = chars c.args.text.now in
    λ place kind stop. stops_refused c.read_text.result (λ made. made.items) (read_through text) place kind (sym (lexed-reads text) ∙ stop) c.read_text.ensures.tokens

-- tokens that are answered are a list of tokens
tokens_list : {A : Type 0} (r : Result A LexFault) (items : A → List Token) (text : List ℕ) → IfOk r (λ made. read_through text ≡ Ok (items made))
    → IfOk r (λ made. IsTokenList (items made))
tokens_list (Ok made) items text has = tokens_are_a_list text (items made) (lexed-reads text ∙ has)
tokens_list (Err fault) items text has = search rules

pub returns-clause-list : goal.returns-clause-list
returns-clause-list c = tokens_list c.read_text.result (λ made. made.items) (chars c.args.text.now) c.read_text.ensures.tokens
