-- All bytes are read in one way.
use Rattle.std.proofs.Common.{◌≡◌, inl, inr, ℕ, Bool, true, false, List, refl, sym, ap, ◌∙◌, subst}
use Rattle.std.specs.Prelude.{chars}
use Rattle.std.specs.Str.{IsUtf8, is_utf8}
use Rattle.std.proofs.lemmas.Bool.{false≢true}
use Rattle.std.proofs.lemmas.Str.{IsUtf8-from_is_utf8, is_utf8-from_IsUtf8}
use Rattle.uvl_base.specs.declared.fault.FaultKind.{FaultKind}
use Rattle.uvl_base.specs.declared.fault.FaultKind.TheVariants.{NotUtf8}
use Rattle.uvl_base.specs.declared.place.Place.{Place}
use Rattle.uvl_lexer.specs.declared.token.Token.{Token}
use Rattle.uvl_lexer.specs.Law.{EachTextIsReadOnce, HasTokens, HasStop}
use Rattle.uvl_lexer.specs.TokenList.{TokensAreAList}
use Rattle.uvl_parser.specs.Parsing.{IsParsedAs, IsRefusedAt, EachTokenListIsParsedOnce, HasFile, HasRefusal}
use Rattle.uvl_imports.specs.Law.{IsReadOnce, AllBytesAreReadOnce}
use Rattle.uvl_imports.specs.Reading.{AreTokensOf, HasFaultIn, no_text, no_tokens, no_file, Reading, says, wrong, Reads, first_place}

same_wrong : {p q : Place} {j k : FaultKind} → p ≡ q → j ≡ k → wrong p j ≡ wrong q k
same_wrong {p} {q} {j} {k} e f = ap (λ (x : Place). wrong x j) e ∙ ap (λ (x : FaultKind). wrong q x) f

-- bytes that are no UTF-8
module _ (bytes : List ℕ) (none : IsUtf8 bytes → ⊥) where
  one_fault : (place : Place) (kind : FaultKind) → HasFaultIn bytes place kind → wrong place kind ≡ wrong first_place NotUtf8
  one_fault place kind (no_text out p k) = same_wrong p k
  one_fault place kind (no_tokens utf8 stops) = absurd (none utf8)
  one_fault place kind (no_file tokens read refused) = absurd (none read.utf8)

  one_without_text : (other : Reading) → Reads bytes other → other ≡ wrong first_place NotUtf8
  one_without_text (says file) reads = absurd (none reads.read.utf8)
  one_without_text (wrong place kind) reads = one_fault place kind reads

  read_without_text : IsReadOnce bytes
  read_without_text = record { reading = wrong first_place NotUtf8; reads = no_text none refl refl; one = one_without_text }

-- bytes of a text that stops
module _ (bytes : List ℕ) (utf8 : IsUtf8 bytes) (stop : HasStop (chars bytes)) where
  one_stop : (place : Place) (kind : FaultKind) → HasFaultIn bytes place kind → wrong place kind ≡ wrong stop.place stop.kind
  one_stop place kind (no_text out p k) = absurd (out utf8)
  one_stop place kind (no_tokens u stops) = same_wrong (stop.one_place place kind stops) (stop.one_kind place kind stops)
  one_stop place kind (no_file tokens read refused) = absurd (stop.no_tokens tokens read.read)

  one_of_stop : (other : Reading) → Reads bytes other → other ≡ wrong stop.place stop.kind
  one_of_stop (says file) reads = absurd (stop.no_tokens reads.tokens reads.read.read)
  one_of_stop (wrong place kind) reads = one_stop place kind reads

  read_stop : IsReadOnce bytes
  read_stop = record { reading = wrong stop.place stop.kind; reads = no_tokens utf8 stop.stops; one = one_of_stop }

-- bytes of a text with tokens
module _ (bytes : List ℕ) (utf8 : IsUtf8 bytes) (has : HasTokens (chars bytes)) where
  read_tokens : AreTokensOf bytes has.tokens
  read_tokens = record { utf8 = utf8; read = has.has }

  module _ (refusal : HasRefusal has.tokens) where
    one_refusal : (place : Place) (kind : FaultKind) → HasFaultIn bytes place kind → wrong place kind ≡ wrong refusal.place refusal.kind
    one_refusal place kind (no_text out p k) = absurd (out utf8)
    one_refusal place kind (no_tokens u stops) = absurd (has.never_stops place kind stops)
    one_refusal place kind (no_file tokens read refused) =
        let P : List Token → Type 0 = λ ts. IsRefusedAt ts place kind in
        let here = subst P (has.one tokens read.read) refused in
        same_wrong (refusal.one_place place kind here) (refusal.one_kind place kind here)

    one_of_refusal : (other : Reading) → Reads bytes other → other ≡ wrong refusal.place refusal.kind
    one_of_refusal (says file) reads =
        let P : List Token → Type 0 = λ ts. IsParsedAs ts file in
        absurd (refusal.no_file file (subst P (has.one reads.tokens reads.read.read) reads.parsed))
    one_of_refusal (wrong place kind) reads = one_refusal place kind reads

    read_refusal : IsReadOnce bytes
    read_refusal = record { reading = wrong refusal.place refusal.kind; reads = no_file has.tokens read_tokens refusal.refused; one = one_of_refusal }

  module _ (written : HasFile has.tokens) where
    no_other : (place : Place) (kind : FaultKind) → HasFaultIn bytes place kind → ⊥
    no_other place kind (no_text out p k) = out utf8
    no_other place kind (no_tokens u stops) = has.never_stops place kind stops
    no_other place kind (no_file tokens read refused) =
        let P : List Token → Type 0 = λ ts. IsRefusedAt ts place kind in
        written.never_refused place kind (subst P (has.one tokens read.read) refused)

    one_of_file : (other : Reading) → Reads bytes other → other ≡ says written.file
    one_of_file (says file) reads =
        let P : List Token → Type 0 = λ ts. IsParsedAs ts file in
        ap says (written.one file (subst P (has.one reads.tokens reads.read.read) reads.parsed))
    one_of_file (wrong place kind) reads = absurd (no_other place kind reads)

    read_file : IsReadOnce bytes
    read_file = record { reading = says written.file; reads = record { tokens = has.tokens; read = read_tokens; parsed = written.parsed }; one = one_of_file }

module _ (texts : EachTextIsReadOnce) (lists : TokensAreAList) (parses : EachTokenListIsParsedOnce) where
  read_text : (bytes : List ℕ) → IsUtf8 bytes → IsReadOnce bytes
  read_text bytes utf8 =
      elim (texts (chars bytes)) [
        | inl has ↦ elim (parses has.tokens (lists (chars bytes) has.tokens has.has)) [ inl written ↦ read_file bytes utf8 has written | inr refusal ↦ read_refusal bytes utf8 has refusal ]
        | inr stop ↦ read_stop bytes utf8 stop
      ]

  by_text : (bytes : List ℕ) (b : Bool) → is_utf8 bytes ≡ b → IsReadOnce bytes
  by_text bytes true e = read_text bytes (IsUtf8-from_is_utf8 bytes e)
  by_text bytes false e = read_without_text bytes (λ utf8. false≢true (sym e ∙ is_utf8-from_IsUtf8 bytes utf8))

  pub all_bytes : AllBytesAreReadOnce
  all_bytes bytes = by_text bytes (is_utf8 bytes) refl

-- what bytes are read as is what they are found to be
pub reads_as : AllBytesAreReadOnce → (read : List ℕ → Reading) → ((bytes : List ℕ) → Reads bytes (read bytes)) → (bytes : List ℕ) (reading : Reading) → Reads bytes reading → read bytes ≡ reading
reads_as law read each bytes reading reads = (law bytes).one (read bytes) (each bytes) ∙ sym ((law bytes).one reading reads)
