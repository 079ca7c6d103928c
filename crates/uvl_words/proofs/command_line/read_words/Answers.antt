-- The answer is that of the definition: in front of `--` there is no lone hyphen, and then `clap` takes
-- and finds what the words ask for, or refuses what asks for nothing.
use Rattle.std.proofs.Common.{◌≡◌, ◌∙◌, sym, ap, ap₂, map, List, ℕ, [], codes, option_map, inl, inr}
use Rattle.clap.specs.Words.{App, Kinds, Row, fault_of, first_of, found_of, is_simple, is_simple_and_free, matches_of, rows_of}
use Rattle.clap.proofs.WalkLemmas.{first_value-rows}
use Rattle.uvl_words.specs.CommandLineRules.{words_command}
use Rattle.uvl_words.specs.CommandLine.{request_with}
use Rattle.uvl_words.proofs.CommandLine.Walks.{answer}
use Rattle.uvl_words.proofs.CommandLine.Fronts.{Front, front_of}
use Rattle.uvl_words.proofs.CommandLine.Reading.{among_refuses, reads, simple, simple_and_free}
use Rattle.uvl_words.proofs.CommandLine.Refusals.{lone_refused}
use Rattle.uvl_words.proofs.command_line.read_words.Goals as goal

pub returns-then-has_lone_hyphen-clause-request : goal.returns-then-has_lone_hyphen-clause-request
returns-then-has_lone_hyphen-clause-request c =
    sym (lone_refused (map (λ word. word.now) c.args.words.now) (sym c.has_lone_hyphen.ensures.lone ∙ c.if-has_lone_hyphen.true))

pub returns-in-Ok-clause-request : goal.returns-in-Ok-clause-request
returns-in-Ok-clause-request c =
    let words : List (List ℕ) = map (λ word. word.now) c.args.words.now in
    let front : Front words = front_of words (c.has_lone_hyphen.ensures.texts c.if-has_lone_hyphen.false) (sym c.has_lone_hyphen.ensures.lone ∙ c.if-has_lone_hyphen.false) in
    let app = c.in_ok-command.ensures in
    let found : List Row = matches_of words_command words in
    let rows : rows_of (found_of c.in-Ok.matches) ≡ found =
    (c.in-Ok.ensures.matches (ap is_simple app ∙ simple)).0 ∙ ap (λ (a : App). matches_of a words) app in
    let none : [] ≡ fault_of words_command words =
    sym (c.in-Ok.ensures.kinds (ap is_simple_and_free app ∙ simple_and_free)) ∙ ap (λ (a : App). fault_of a words) app in
    let path : option_map (λ s. s.now) c.get_str.result ≡ first_of (codes "model") found =
    c.get_str.ensures ∙ (first_value-rows (found_of c.in-Ok.matches) (codes "model") ∙ ap (first_of (codes "model")) rows) in
    let value : option_map (λ s. s.now) c.get_str-in-Ok.result ≡ first_of (codes "budget") found =
    c.get_str-in-Ok.ensures ∙ (first_value-rows (found_of c.in-Ok.matches) (codes "budget") ∙ ap (first_of (codes "budget")) rows) in
    c.request_with.ensures.request ∙ (ap₂ request_with path value ∙ (ap (λ (k : Kinds). answer k found) none ∙ reads words front))

pub returns : goal.returns
returns c =
    let words : List (List ℕ) = map (λ word. word.now) c.args.words.now in
    let front : Front words = front_of words (c.has_lone_hyphen.ensures.texts c.if-has_lone_hyphen.false) (sym c.has_lone_hyphen.ensures.lone ∙ c.if-has_lone_hyphen.false) in
    let app = c.in_ok-command.ensures in
    let found : List Row = matches_of words_command words in
    record {
      request = elim (c.in-Err.ensures.kinds (ap is_simple_and_free app ∙ simple_and_free)) [
        | inl memory ↦ absurd (c.in_default.not-OutOfMemory (c.kind.ensures ∙ memory))
        | inr among ↦ sym (among_refuses _ _ found among) ∙ (ap (λ (a : App). answer (fault_of a words) found) app ∙ reads words front)
      ];
      in_range = tt;
    }
