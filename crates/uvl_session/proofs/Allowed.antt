-- What is told of a decision by the numbers of features.
use Rattle.std.proofs.Common.{◌≡◌, ◌==◌, ◌||◌, ◌<◌, ℕ, zero, suc, Bool, true, false, not, List, [], ◌∷◌, length, map, Result, Ok, Err, Option, Some, None, is_some, refl, sym, ap, ◌∙◌, subst, arith}
use Rattle.std.specs.Prelude.{if◌then◌else◌, slice_get}
use Rattle.std.specs.List.{All, Contains, list_any}
use Rattle.std.specs.Str.{bytes_eq}
use Rattle.std.proofs.lemmas.Bool.{eq-eqb, eqb-true, false≢true}
use Rattle.std.proofs.lemmas.List.{length-map}
use Rattle.std.proofs.lemmas.List.Elements.{All-head, All-tail}
use Rattle.std.proofs.lemmas.Option.{none-some, slice_get_within, get_or_from_slice_get, slice_get-get_or, unwrap_or-slice_get}
use Rattle.std.proofs.lemmas.Slice.Eq.{bytes_eq-Decides}
use Rattle.uvl_model.specs.declared.rows.FeatureNo.{FeatureNo}
use Rattle.uvl_model.specs.Names.{feature_names, name_of}
use Rattle.uvl_model.specs.Products.{Products}
use Rattle.uvl_model.specs.Laws.{ProductsAreSets}
use Rattle.uvl_model.specs.Rows.{Rows}
use Rattle.uvl_model.specs.Sound.{AreDistinct, IsSound}
use Rattle.uvl_model.proofs.Families.{spelled_names}
use Rattle.uvl_semantics.specs.Product.{has}
use Rattle.uvl_semantics.proofs.Membership.{has-from_Contains}
use Rattle.uvl_decisions.specs.Deciding.{Decided, decide_answer, unless_forced}
use Rattle.uvl_decisions.specs.Decisions.{Decision as Named, is_offered, opposite}
use Rattle.uvl_decisions.specs.Explanation.{explanation}
use Rattle.uvl_decisions.specs.Laws.{ForcedIsNotOfferedOtherwise, NoneIsForWhatIsNotForced}
use Rattle.uvl_decisions.specs.Session.{Session, decides, decisions_of}
use Rattle.uvl_session.specs.declared.decision.Decision.{Decision}
use Rattle.uvl_session.specs.declared.refusal.DeskRefusal.{DeskRefusal}
use Rattle.uvl_session.specs.declared.refusal.DeskRefusal.TheVariants.{Closed, Decided as decided_now, Conflict}
use Rattle.uvl_session.specs.Deciding.{told_deciding}
use Rattle.uvl_session.specs.Numbered.{decisions_in}

Contains-at : (names : List (List ℕ)) (n : ℕ) (x : List ℕ) → slice_get names n ≡ Some x → Contains names x
Contains-at names n x e = (n, slice_get_within names n x e, get_or_from_slice_get names n x x e)

-- each name stands at one place
only_place : (names : List (List ℕ)) → AreDistinct names → (x : List ℕ) (m n : ℕ) → slice_get names m ≡ Some x → slice_get names n ≡ Some x → m ≡ n
only_place [] d x m n a b = absurd (none-some x a)
only_place (y ∷ ys) d x zero zero a b = refl
only_place (y ∷ ys) d x zero (suc n) a b = absurd (d.0 (Contains-at ys n y (b ∙ sym a)))
only_place (y ∷ ys) d x (suc m) zero a b = absurd (d.0 (Contains-at ys m y (a ∙ sym b)))
only_place (y ∷ ys) d x (suc m) (suc n) a b = ap suc (only_place ys d.1 x m n a b)

name_at : (names : List (List ℕ)) (k : ℕ) → k < length names → slice_get names k ≡ Some (name_of names (record { 0 = k }))
name_at names k within = slice_get-get_or names k [] within ∙ ap Some (sym (unwrap_or-slice_get names k []))

pub names_apart : (rows : Rows) → IsSound rows → AreDistinct (feature_names rows)
names_apart rows sound = subst AreDistinct (sym (spelled_names sound.tree rows sound.spelled)) sound.within.distinct

same-answer : (a b : Bool) → (a ≡ true → b ≡ true) → (b ≡ true → a ≡ true) → a ≡ b
same-answer true b one other = sym (one refl)
same-answer false true one other = other refl
same-answer false false one other = refl

module _ (rows : Rows) (sound : IsSound rows) where
  within-names : (k : ℕ) → k < length rows.features → k < length (feature_names rows)
  within-names k within = let size = length-map rows.features (λ row. row.name) in omega (arith, size)

  -- features have one name where they have one number
  name-number : (a b : FeatureNo) → a.0 < length rows.features → b.0 < length rows.features
      → (a.0 == b.0) ≡ bytes_eq (name_of (feature_names rows) a) (name_of (feature_names rows) b)
  name-number a b inside inside' =
      same-answer _ _
      (λ same. (bytes_eq-Decides _ _).1 (ap (λ (n : ℕ). name_of (feature_names rows) (record { 0 = n })) (eqb-true a.0 b.0 same)))
      (λ same. eq-eqb a.0 b.0 (only_place (feature_names rows) (names_apart rows sound) (name_of (feature_names rows) a) a.0 b.0
      (name_at (feature_names rows) a.0 (within-names a.0 inside))
      (name_at (feature_names rows) b.0 (within-names b.0 inside') ∙ ap Some (sym ((bytes_eq-Decides _ _).0 same)))))

  -- so some decision is on the feature by the name where one is by the number
  pub decides-number : (decisions : List Decision) (feature : FeatureNo) → All (λ one. one.feature.0 < length rows.features) decisions → feature.0 < length rows.features
      → list_any (λ one. one.feature.0 == feature.0) decisions ≡ decides (decisions_in rows decisions) (name_of (feature_names rows) feature)
  decides-number [] feature there within = refl
  decides-number (one ∷ more) feature there within =
      ap (λ (b : Bool). b || list_any (λ (x : Decision). x.feature.0 == feature.0) more)
      (name-number one.feature feature (All-head (λ (x : Decision). x.feature.0 < length rows.features) one more there) within)
      ∙ ap (λ (b : Bool). bytes_eq (name_of (feature_names rows) one.feature) (name_of (feature_names rows) feature) || b)
      (decides-number more feature (All-tail (λ (x : Decision). x.feature.0 < length rows.features) one more there) within)

  -- its name is one of the model's
  pub known : (feature : FeatureNo) → feature.0 < length rows.features → has (feature_names rows) (name_of (feature_names rows) feature) ≡ true
  known feature within =
      has-from_Contains (feature_names rows) _ (Contains-at (feature_names rows) feature.0 _ (name_at (feature_names rows) feature.0 (within-names feature.0 within)))

-- no decision is on a feature whose name stands nowhere
pub nowhere-decided : (decisions : List Named) (name : List ℕ) → decides decisions name ≡ false → Contains (map (λ decision. decision.feature) decisions) name → ⊥
nowhere-decided [] name none (k, within, at) = absurd (omega (arith, within))
nowhere-decided (one ∷ more) name none (zero, within, at) =
    false≢true (sym none ∙ ap (λ b. b || decides more name) ((bytes_eq-Decides one.feature name).1 at))
nowhere-decided (one ∷ more) name none (suc k, within, at) =
    nowhere-decided more name (later _ _ none) (k, omega (arith, within), at)
  where
    later : (a b : Bool) → (a || b) ≡ false → b ≡ false
    later true b e = absurd (false≢true (sym e))
    later false b e = e

twice : (asked : Named) → opposite (opposite asked) ≡ asked
twice asked = ap (λ (b : Bool). with_value b) (again asked.value)
  where
    with_value : Bool → Named
    with_value b = record { feature = asked.feature; value = b }

    again : (b : Bool) → not (not b) ≡ b
    again true = refl
    again false = refl

-- the answer by what is known of each case
module _ (rows : Rows) (sets : ProductsAreSets) (session : Session) (asked : Named) where
  abbrev answer : Decided
  answer = decide_answer (Products rows) session asked

  pub told-closed : has (feature_names rows) asked.feature ≡ true → decides session.closed asked.feature ≡ true → told_deciding answer ≡ Err Closed
  told-closed is here = rw (is, here) refl

  pub told-decided : has (feature_names rows) asked.feature ≡ true → decides session.closed asked.feature ≡ false → decides session.standing asked.feature ≡ true
      → told_deciding answer ≡ Err decided_now
  told-decided is none here = rw (is, none, here) refl

  module _ (opposites : ForcedIsNotOfferedOtherwise) (there : NoneIsForWhatIsNotForced) where
    -- an explanation is there exactly where the value isn't offered
    explained : is_some (explanation (Products rows) (decisions_of session) (opposite asked)) ≡ not (is_offered (Products rows) (decisions_of session) asked)
    explained =
        there (Products rows) (decisions_of session) (opposite asked) (sets rows)
        ∙ opposites (Products rows) (decisions_of session) (opposite asked)
        ∙ ap (λ (d : Named). not (is_offered (Products rows) (decisions_of session) d)) (twice asked)

    by-explained : (o : Option (List Named)) (offered : Bool) → is_some o ≡ not offered
        → told_deciding (unless_forced session asked o) ≡ (if offered then Ok tt else Err Conflict)
    by-explained None true e = refl
    by-explained (Some because) false e = refl
    by-explained None false e = absurd (false≢true e)
    by-explained (Some because) true e = absurd (false≢true (sym e))

    pub told-last : has (feature_names rows) asked.feature ≡ true → decides session.closed asked.feature ≡ false → decides session.standing asked.feature ≡ false
        → told_deciding answer ≡ (if is_offered (Products rows) (decisions_of session) asked then Ok tt else Err Conflict)
    told-last is none none' = rw (is, none, none')
        (by-explained (explanation (Products rows) (decisions_of session) (opposite asked)) (is_offered (Products rows) (decisions_of session) asked) explained)

  pub told-offered : (offered : Bool) → is_offered (Products rows) (decisions_of session) asked ≡ offered
      → told_deciding answer ≡ (if is_offered (Products rows) (decisions_of session) asked then Ok tt else Err Conflict)
      → told_deciding answer ≡ (if offered then Ok tt else Err Conflict)
  told-offered offered is told = told ∙ ap (λ (b : Bool). answer_if b) is
    where
      answer_if : Bool → Result (Unit {0}) DeskRefusal
      answer_if b = if b then Ok tt else Err Conflict
