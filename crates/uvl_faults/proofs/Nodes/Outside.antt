-- Outside rules no node is counted, and so none is one too many.
use Rattle.std.specs.Prelude.{◌≡◌, ℕ, ◌⊎◌, Bool, true, false, not, ◌&&◌, ◌||◌, cond, List, [], ◌∷◌, Option, None}
use Rattle.std.proofs.Common.{refl, ap, ◌∙◌, inl, inr}
use Rattle.std.proofs.lemmas.Bool.{and_left, and_right, or_left, or_from, or_parts}
use Rattle.uvl_lexer.specs.declared.token.Token.{Token}
use Rattle.uvl_lexer.specs.declared.token.TokenKind.{TokenKind}
use Rattle.uvl_lexer.specs.declared.token.TokenKind.TheVariants as token
use Rattle.uvl_base.specs.declared.word.Word.{Word}
use Rattle.uvl_base.specs.declared.word.Word.TheVariants as word
use Rattle.uvl_lexer.specs.declared.token.Symbol.{Symbol}
use Rattle.uvl_lexer.specs.declared.token.Symbol.TheVariants as symbol
use Rattle.uvl_profile.specs.declared.section.Section.{Section}
use Rattle.uvl_profile.specs.declared.section.Section.TheVariants.{Features, Constraints}
use Rattle.uvl_profile.specs.declared.section.SectionPart.TheVariants.{Outside, Headed, Body}
use Rattle.uvl_grammar.specs.steps.Tests.{Test, is_word, is_symbol, begins}
use Rattle.uvl_grammar.specs.Tokens.{IsSymbol}
use Rattle.uvl_profile.specs.Lines.{is_layout}
use Rattle.uvl_profile.specs.Sections.{same_section, belongs, part_of, is_in}
use Rattle.uvl_profile.specs.Rules.{is_node, in_list, opens_list, rule_behind, ends_rule, with_node, rule_nodes}
use Rattle.uvl_profile.specs.Met.{is_full}
use Rattle.uvl_faults.proofs.Walking.{NonePasses, Clear, InLine, in_line_of_body, LineBegins}
use Rattle.uvl_faults.proofs.Inline.{is_rule_word, IsRare}
use Rattle.uvl_faults.proofs.Sectioned.{Between}
use Rattle.uvl_faults.proofs.Clearing.{ClearUntil, Spares, in_line_clear}
use Rattle.uvl_faults.proofs.ClearFiles.{SparesMarks, SparesHeadings}
use Rattle.uvl_faults.proofs.Nodes.Rules.{by_word, begins_not, no_opening, count_goes_on}
use Rattle.uvl_faults.proofs.Nodes.Limits.{too_many}

-- ---- one token

module _ (before : List Token) (t : Token) where
  -- no node stands there
  pub no_node : is_node before t.kind ≡ false → too_many before t ≡ false
  no_node is = and_left (is_node before t.kind) (is_full (rule_nodes before)) is

  -- none is counted there
  pub none_counted : rule_nodes before ≡ None → too_many before t ≡ false
  none_counted none = and_right (is_node before t.kind) (is_full (rule_nodes before)) (ap is_full none)

mark_no_node : (before : List Token) (kind : TokenKind) → is_layout kind ≡ true → is_node before kind ≡ false
mark_no_node before (token.Name name quoted) e = cc
mark_no_node before (token.Number value whole) e = cc
mark_no_node before (token.Word w) e = cc
mark_no_node before (token.Symbol s) e = cc
mark_no_node before _ e = refl

pub marks_spared : SparesMarks too_many
marks_spared before t is = no_node before t (mark_no_node before t.kind is)

mark_no_word : (w : Word) (kind : TokenKind) → is_layout kind ≡ true → is_word w kind ≡ false
mark_no_word w (token.Word v) e = cc
mark_no_word w _ e = refl

mark_no_symbol : (s : Symbol) (kind : TokenKind) → is_layout kind ≡ true → is_symbol s kind ≡ false
mark_no_symbol s (token.Symbol v) e = cc
mark_no_symbol s _ e = refl

mark_ends : (kind : TokenKind) → is_layout kind ≡ true → ends_rule kind ≡ true
mark_ends kind mark =
    let comma = is_symbol symbol.Comma kind in
    let closes = is_symbol symbol.RightBracket kind in
    or_left (is_layout kind || comma || closes) (is_symbol symbol.RightBrace kind)
    (or_left (is_layout kind || comma) closes (or_left (is_layout kind) comma mark))

-- ---- outside rules

-- what follows stands in no list of rules
abbrev pub NoList : List Token → Type 0
NoList before = in_list before ≡ false

-- What follows stands in no rule, and in no list of rules.
pub record Idle (before : List Token) : Type 0 where
  pub none : rule_nodes before ≡ None
  pub no_list : NoList before

either_way : (b : Bool) (nodes : Option ℕ) → cond b nodes nodes ≡ nodes
either_way true nodes = refl
either_way false nodes = refl

module _ (before : List Token) (t : Token) where
  none_behind_end : rule_behind before t ≡ false → ends_rule t.kind ≡ true → rule_nodes (t ∷ before) ≡ None
  none_behind_end no_rule ends =
      count_goes_on before t no_rule
      ∙ ap (λ b. cond b None (with_node (is_node before t.kind) (rule_nodes before))) ends

  pub no_list_behind : NoList before → opens_list before t.kind ≡ false → NoList (t ∷ before)
  no_list_behind no_list opens =
      let unclosed = not (is_symbol symbol.RightBracket t.kind) in
      let goes_on = in_list before && unclosed in
      or_from (opens_list before t.kind) (goes_on && not (is_layout t.kind)) opens
      (and_left goes_on (not (is_layout t.kind)) (and_left (in_list before) unclosed no_list))

  -- where no rule begins by a word, and no list of rules
  idle_behind : Idle before → is_layout t.kind ≡ false → by_word before t ≡ false → opens_list before t.kind ≡ false
      → Idle (t ∷ before)
  idle_behind idle mark word opens =
      let line = and_left (is_layout t.kind) (is_in Constraints (t ∷ before)) mark in
      let no_rule = begins_not before t line word opens
      (and_right (is_symbol symbol.Comma t.kind) (in_list before) idle.no_list) in
      record {
        none = count_goes_on before t no_rule
            ∙ ap (λ nodes. cond (ends_rule t.kind) None (with_node (is_node before t.kind) nodes)) idle.none
            ∙ either_way (ends_rule t.kind) None;
        no_list = no_list_behind idle.no_list opens;
      }

  -- at a mark between lines outside the constraints section
  idle_at_mark : is_layout t.kind ≡ true → is_in Constraints (t ∷ before) ≡ false → Idle (t ∷ before)
  idle_at_mark mark outside =
      let goes_on = in_list before && not (is_symbol symbol.RightBracket t.kind) in
      let opens = no_opening before t (mark_no_symbol symbol.LeftBracket t.kind mark) in
      let no_rule = begins_not before t (and_right (is_layout t.kind) (is_in Constraints (t ∷ before)) outside)
      (and_left (is_word word.Constraint t.kind) (is_in Features before) (mark_no_word word.Constraint t.kind mark)) opens
      (and_left (is_symbol symbol.Comma t.kind) (in_list before) (mark_no_symbol symbol.Comma t.kind mark)) in
      record {
        none = none_behind_end no_rule (mark_ends t.kind mark);
        no_list = or_from (opens_list before t.kind) (goes_on && not (is_layout t.kind)) opens
            (and_right goes_on (not (is_layout t.kind)) (ap not mark));
      }

-- ---- where a line begins

-- a line of any section but constraints
pub line_idle : (s : Section) (n : ℕ) → same_section Constraints s ≡ false → (before : List Token) → LineBegins s n before
    → Idle before
line_idle s n other [] here = let outside = here.part in cc
line_idle s n other (t ∷ before) here = idle_at_mark before t here.begins (ap (belongs Constraints) here.part ∙ other)

-- a section, or what follows the last one
pub between_idle : (before : List Token) → Between before → Idle before
between_idle [] between = record { none = refl; no_list = refl }
between_idle (t ∷ before) between = idle_at_mark before t between.begins (outside between.part)
  where
    outside : (part_of (t ∷ before) ≡ Outside) ⊎ ((s : Section) × (part_of (t ∷ before) ≡ Headed s))
        → is_in Constraints (t ∷ before) ≡ false
    outside (inl out) = ap (belongs Constraints) out
    outside (inr headed) = ap (belongs Constraints) headed.1

pub headings_spared : SparesHeadings too_many
headings_spared before t w between is = none_counted before t (between_idle before between).none

-- ---- in lines

-- what follows stands in a body of a section, and in no rule
abbrev IdleIn : Section → ℕ → List Token → Type 0
IdleIn s n before = (part_of before ≡ Body s n) × Idle before

-- what stands in a line of a section without rules
pub plain_line_clear : (s : Section) (n : ℕ) → same_section Features s ≡ false → (before xs : List Token)
    → part_of before ≡ Body s n → Idle before → InLine xs → Clear too_many before xs
plain_line_clear s n other before xs part idle inline =
    (in_line_clear too_many (IdleIn s n) step before xs (part, idle) inline).0
  where
    step : Spares too_many (IdleIn s n) (IdleIn s n) (λ t. is_layout t.kind ≡ false)
    step front t here mark =
        let outside : is_in Features front ≡ false = ap (belongs Features) here.0 ∙ other in
        let no_word = and_right (is_word word.Constraint t.kind) (is_in Features front) outside in
        let bracket = is_symbol symbol.LeftBracket t.kind && begins (is_word word.Constraints) front in (
          none_counted front t here.1.none,
          (
            in_line_of_body s n front (t ∷ []) here.0 (mark, tt),
            idle_behind front t here.1 mark no_word (and_right bracket (is_in Features front) outside),
          ),
        )

-- What follows stands in no rule, and no list of rules begins there.
pub record Quiet (before : List Token) : Type 0 where
  pub idle : Idle before
  pub no_word : begins (is_word word.Constraints) before ≡ false

pub line_quiet : (n : ℕ) (before : List Token) → LineBegins Features n before → Quiet before
line_quiet n [] here = let outside = here.part in cc
line_quiet n (t ∷ before) here =
    let named = mark_no_word word.Constraints t.kind here.begins in
    record { idle = line_idle Features n refl (t ∷ before) here; no_word = named }

-- a mark between lines, or a word in front of rules
abbrev pub is_mark_or_word : Test
is_mark_or_word kind = is_layout kind || is_rule_word kind

pub marks_and_words : IsRare is_mark_or_word
marks_and_words = record {
  name = λ name quoted. refl;
  number = λ value whole. refl;
  text = λ text. refl;
  symbol = λ s. refl;
  word = λ w other. other;
}

-- where there are none, no rule begins
pub quiet_clear : (before xs : List Token) → Quiet before → NonePasses is_mark_or_word xs
    → ClearUntil too_many Quiet before xs
quiet_clear before [] quiet none = (tt, quiet)
quiet_clear before (t ∷ ts) quiet none =
    let both = or_parts (is_layout t.kind) (is_rule_word t.kind) none.0 in
    let words = or_parts (is_word word.Constraint t.kind) (is_word word.Constraints t.kind) both.1 in
    let bracket = is_symbol symbol.LeftBracket t.kind in
    let named = begins (is_word word.Constraints) before in
    let opens = and_left (bracket && named) (is_in Features before) (and_right bracket named quiet.no_word) in
    let no_rule = and_left (is_word word.Constraint t.kind) (is_in Features before) words.0 in
    let next = idle_behind before t quiet.idle both.0 no_rule opens in
    let rest = quiet_clear (t ∷ before) ts (record { idle = next; no_word = words.1 }) none.1 in
    ((none_counted before t quiet.idle.none, rest.0), rest.1)

-- behind a comma outside lists
pub comma_quiet : (before : List Token) (comma : Token) → NoList before → IsSymbol symbol.Comma comma
    → Quiet (comma ∷ before)
comma_quiet before comma no_list is =
    let opens = no_opening before comma (ap (is_symbol symbol.LeftBracket) is) in
    let line = and_left (is_layout comma.kind) (is_in Constraints (comma ∷ before)) (ap is_layout is) in
    let no_word = and_left (is_word word.Constraint comma.kind) (is_in Features before)
    (ap (is_word word.Constraint) is) in
    let no_rule = begins_not before comma line no_word opens
    (and_right (is_symbol symbol.Comma comma.kind) (in_list before) no_list) in
    record {
      idle = record {
        none = none_behind_end before comma no_rule (ap ends_rule is);
        no_list = no_list_behind before comma no_list opens;
      };
      no_word = ap (is_word word.Constraints) is;
    }
