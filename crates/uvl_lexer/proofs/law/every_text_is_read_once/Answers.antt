-- What a text is read as is a function of it.
use Rattle.std.proofs.Common.{◌≡◌, ℕ, List, Ok, Err, refl, ap, inl, inr}
use Rattle.uvl_base.specs.declared.place.Place.{Place}
use Rattle.uvl_base.specs.declared.fault.FaultKind.{FaultKind}
use Rattle.uvl_lexer.specs.declared.token.Token.{Token}
use Rattle.uvl_lexer.specs.Law.{IsReadOnce}
use Rattle.uvl_lexer.specs.Layout.{Lexed, lexed}
use Rattle.uvl_lexer.proofs.law.every_text_is_read_once.Goals as goal

ok_is : (xs ys : List Token) → {E : Lexed} → E ≡ Ok xs → E ≡ Ok ys → ys ≡ xs
ok_is xs ys p q = cc

clash : (xs : List Token) (f : Place × FaultKind) → {E : Lexed} → E ≡ Ok xs → E ≡ Err f → ⊥
clash xs f p q = cc

same_fault : (f g : Place × FaultKind) → {E : Lexed} → E ≡ Err f → E ≡ Err g → g ≡ f
same_fault f g p q = cc

read_once : (text : List ℕ) (l : Lexed) → lexed text ≡ l → IsReadOnce text
read_once text (Ok tokens) is =
    inl (record {
      tokens = tokens;
      has = is;
      one = λ others other. ok_is tokens others is other;
      never_stops = λ place kind stop. clash tokens (place, kind) is stop;
    })
read_once text (Err fault) is =
    inr (record {
      place = fault.0;
      kind = fault.1;
      stops = is;
      one_place = λ place kind stop. ap (λ (f : Place × FaultKind). f.0) (same_fault fault (place, kind) is stop);
      one_kind = λ place kind stop. ap (λ (f : Place × FaultKind). f.1) (same_fault fault (place, kind) is stop);
      no_tokens = λ tokens has. clash tokens fault has is;
    })

pub returns : goal.returns
returns c = λ text. read_once text (lexed text) refl
