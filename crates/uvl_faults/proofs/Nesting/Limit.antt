-- In a list of tokens without named faults brackets and `!` nest at most 128 deep.
use Rattle.std.specs.Prelude.{◌≡◌, ℕ, ◌+◌, ◌≤◌, nat_lt, Bool, true, false, ◌&&◌, ◌==◌, cond, List, [], ◌∷◌, ◌++◌, length, reverse, take, slice_get, Some}
use Rattle.std.proofs.Common.{refl, sym, ap, subst, ◌∙◌, append_assoc, arith}
use Rattle.std.proofs.lemmas.Bool.{le-ltb, ltb-false}
use Rattle.std.proofs.lemmas.Bool.Decides.{nat_tests}
use Rattle.std.proofs.lemmas.List.{reverse-append}
use Rattle.std.proofs.Math.Seq.{take-append_seam}
use Rattle.uvl_base.specs.declared.fault.FaultKind.TheVariants.{TooDeep}
use Rattle.uvl_lexer.specs.declared.token.Token.{Token}
use Rattle.uvl_lexer.specs.declared.token.TokenKind.{TokenKind}
use Rattle.uvl_profile.specs.Lines.{is_layout, line_of}
use Rattle.uvl_profile.specs.Nesting.{deepens, nesting}
use Rattle.uvl_profile.specs.steps.Depth.{depth_of}
use Rattle.uvl_profile.specs.steps.Scan.{outer_scopes, scopes_behind, scopes_of}
use Rattle.uvl_profile.specs.Met.{is_nested_too_deep}
use Rattle.uvl_faults.specs.Named.{in_front, By_tokens, Nested, NoneNamed}
use Rattle.uvl_profile.proofs.Sorts.{Sort, Opening, Closing, Ending, Negating, Plain, sort_of}
use Rattle.uvl_profile.proofs.Scopes.{closed_scopes, ended_scopes, not_ended, nesting_is, Some_scope, some_scope}
use Rattle.uvl_profile.proofs.Scanned.{deepened}
use Rattle.uvl_faults.proofs.Walking.{Clear}
use Rattle.uvl_faults.proofs.Shallow.{token_behind}

-- with a token the nesting is more than 128
abbrev pub over : List Token → Token → Bool
over before t = nat_lt 128 (depth_of (scopes_of (t ∷ before)))

-- where it is not, it is at most 128
pub not_over : (before : List Token) (t : Token) → over before t ≡ false → depth_of (scopes_of (t ∷ before)) ≤ 128
not_over before t = ltb-false 128 (depth_of (scopes_of (t ∷ before)))

-- ---- one token

-- other tokens make it no deeper
no_deeper : (ls : List ℕ) (kind : TokenKind) → Sort kind → Some_scope ls → deepens kind ≡ false → depth_of (scopes_behind ls kind) ≤ depth_of ls
no_deeper [] kind sort there d = absurd there
no_deeper (b ∷ bs) kind (Opening o c e g) there d = cc
no_deeper (b ∷ bs) kind (Closing o c e g) there d = outer bs (ap depth_of (closed_scopes kind b bs o c))
  where
    outer : (cs : List ℕ) → depth_of (scopes_behind (b ∷ bs) kind) ≡ depth_of (outer_scopes cs) → depth_of (scopes_behind (b ∷ bs) kind) ≤ depth_of (b ∷ cs)
    outer [] is = omega (arith, is)
    outer (d ∷ cs) is = omega (arith, is)
no_deeper (b ∷ bs) kind (Ending o c e g) there d = let is = ap depth_of (ended_scopes kind b bs o c e) in omega (arith, is)
no_deeper (b ∷ bs) kind (Negating o c e g) there d = cc
no_deeper (b ∷ bs) kind (Plain o c e g) there d =
    let is = ap depth_of (not_ended kind b bs o c e ∙ ap (λ x. cond x ((b + 1) ∷ bs) (b ∷ bs)) g) in omega (arith, is)

-- a nesting of 128 has no other behind it than 129
not_129 : (n m : ℕ) → n ≡ m + 1 → m ≤ 128 → (n == 129) ≡ false → n ≤ 128
not_129 n m more low other = grind (arith, nat_tests)

module _ (before : List Token) (t : Token) (low : depth_of (scopes_of before) ≤ 128) (unnamed : is_nested_too_deep before t ≡ false) where
  by_mark : (mark : Bool) → deepens t.kind ≡ false → depth_of (cond mark (0 ∷ []) (scopes_behind (scopes_of before) t.kind)) ≤ 128
  by_mark true d = omega arith
  by_mark false d =
      let less = no_deeper (scopes_of before) t.kind (sort_of t.kind) (some_scope before) d in omega (arith, less, low)

  by_kind : (d : Bool) → deepens t.kind ≡ d → depth_of (scopes_of (t ∷ before)) ≤ 128
  by_kind true d =
      let same = nesting_is (t ∷ before) in
      let other : (nesting (line_of (t ∷ before)) == 129) ≡ false = ap (λ b. b && nesting (line_of (t ∷ before)) == 129) (sym d) ∙ unnamed in
      let within = not_129 (nesting (line_of (t ∷ before))) (depth_of (scopes_of before)) (sym same ∙ deepened before t d) low other in
      omega (arith, same, within)
  by_kind false d = by_mark (is_layout t.kind) d

  still_within : depth_of (scopes_of (t ∷ before)) ≤ 128
  still_within = by_kind (deepens t.kind) refl

-- ---- all tokens

module _ (tokens : List Token) (none : (k : ℕ) → NoneNamed tokens k) where
  not_nested : (front : List Token) (t : Token) (rest : List Token) → tokens ≡ front ++ t ∷ rest → (b : Bool) → is_nested_too_deep (reverse front) t ≡ b → b ≡ false
  not_nested front t rest joins false is = refl
  not_nested front t rest joins true is =
      let k = length front in
      let here : slice_get tokens k ≡ Some t = ap (λ ts. slice_get ts k) joins ∙ token_behind front t rest in
      let before : in_front k tokens ≡ reverse front = ap reverse (ap (take k) joins ∙ take-append_seam front (t ∷ rest)) in
      let met = ap (λ b. is_nested_too_deep b t) before ∙ is in
      absurd (none k TooDeep (By_tokens t here (Nested met)))

  within_from : (front rest : List Token) → tokens ≡ front ++ rest → depth_of (scopes_of (reverse front)) ≤ 128 → Clear over (reverse front) rest
  within_from front [] joins low = tt
  within_from front (t ∷ rest) joins low =
      let unnamed = not_nested front t rest joins (is_nested_too_deep (reverse front) t) refl in
      let next = still_within (reverse front) t low unnamed in
      let turned : reverse (front ++ t ∷ []) ≡ t ∷ reverse front = reverse-append front (t ∷ []) in
      let more : tokens ≡ (front ++ t ∷ []) ++ rest = joins ∙ sym (append_assoc front (t ∷ []) rest) in
      let rest_within = within_from (front ++ t ∷ []) rest more (subst (λ b. depth_of (scopes_of b) ≤ 128) (sym turned) next) in
      (le-ltb 128 (depth_of (scopes_of (t ∷ reverse front))) next, subst (λ b. Clear over b rest) turned rest_within)

  pub never_over : Clear over [] tokens
  never_over = within_from [] tokens refl (omega arith)
