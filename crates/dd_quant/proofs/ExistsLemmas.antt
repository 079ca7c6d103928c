-- A function without some of its variables, and what becomes of the live handles on the way.
use Rattle.std.proofs.Common.{◌≡◌, ◌≢◌, ◌⊎◌, ◌↔◌, ◌==◌, ◌||◌, ℕ, zero, suc, ◌+◌, ◌<◌, Bool, true, false, if◌then◌else◌, List, [], ◌∷◌, ◌++◌, length, take, get_or, Result, Ok, Err, IfOk, IfErr, refl, ap, sym, ◌∙◌, subst, inl, inr, arith}
use Rattle.std.specs.List.{Contains}
use Rattle.std.proofs.lemmas.Bool.{cases_eq, eqb-true, eq-eqb, ne_eqb, true≢false}
use Rattle.std.proofs.lemmas.List.{take_more}
use Rattle.dd_store.specs.declared.row.Var.{Var}
use Rattle.dd_store.specs.declared.refusal.Refusal.{Refusal}
use Rattle.dd_store.specs.Changes.{Keeps, Grows}
use Rattle.dd_store.specs.Exhausted.{value_at}
use Rattle.dd_store.specs.Follow.{with_value}
use Rattle.dd_store.specs.Handles.{GainsHandle, one_on}
use Rattle.dd_store.specs.Order.{level_in, IsIn}
use Rattle.dd_store.specs.Size.{Function, fixed}
use Rattle.dd_store.specs.Table.{Table, IsLive, handles_on, value_of}
use Rattle.dd_store.proofs.ChangeLemmas.{keeps_then}
use Rattle.dd_store.proofs.CountLemmas.{live_gained, one_on-itself}
use Rattle.dd_store.proofs.SizeLemmas.{In, in_from, contains_from}
use Rattle.dd_store.proofs.StayLemmas.{value-kept}
use Rattle.dd_apply.specs.declared.operation.Operation.TheVariants.{Or}
use Rattle.dd_apply.specs.Cause.{IsCause}
use Rattle.dd_apply.specs.Held.{HasBoth}
use Rattle.dd_apply.specs.Truth.{applied}
use Rattle.dd_apply.proofs.RightLemmas.{same-values}
use Rattle.dd_quant.specs.Cause.{IsShortFor}
use Rattle.dd_quant.specs.Exists.{without, exists_over, AgreeOutside, IsTrueFor, without_group, exists_groups}
use Rattle.dd_quant.specs.steps.Replaced.{Replaces}
use Rattle.dd_quant.proofs.ShortLemmas.{short-call, short-behind, short-among}
use Rattle.dd_quant.proofs.WalkLemmas.{with-itself, with-other}

-- a variable that isn't in a list isn't its first one, nor in the rest
outside-front : (v : Var) (vs : List Var) (w : ℕ) → ¬ IsIn (v ∷ vs) w → (v.0 ≢ w) × ¬ IsIn vs w
outside-front v vs w out = ((λ same. out (in-first (v.0 == w) (eq-eqb v.0 w same))), (λ inside. out (in-rest (v.0 == w) inside)))
  where
    in-first : (b : Bool) → b ≡ true → (if b then 0 else suc (level_in vs w)) < suc (length vs)
    in-first true is = omega arith
    in-first false is = absurd (true≢false (sym is))

    in-rest : (b : Bool) → IsIn vs w → (if b then 0 else suc (level_in vs w)) < suc (length vs)
    in-rest true inside = omega arith
    in-rest false inside = omega arith

outside-both : (v : Var) (vs : List Var) (w : ℕ) → v.0 ≢ w → ¬ IsIn vs w → ¬ IsIn (v ∷ vs) w
outside-both v vs w other out = by (v.0 == w) (ne_eqb v.0 w other)
  where
    by : (b : Bool) → b ≡ false → ¬ ((if b then 0 else suc (level_in vs w)) < suc (length vs))
    by true is less = absurd (true≢false is)
    by false is less = out (omega arith)

-- what is true without a variable is so for one of its values
one-value : (b c : Bool) → (b || c) ≡ true → (b ≡ true) ⊎ (c ≡ true)
one-value true c is = inl refl
one-value false c is = inr is

either-value : (v : ℕ) (f : Function) (a : ℕ → Bool) (c : Bool) → fixed f v c a ≡ true → without v f a ≡ true
either-value v f a true is = by (fixed f v false a) is
  where
    by : (b : Bool) → fixed f v true a ≡ true → (b || fixed f v true a) ≡ true
    by true so = refl
    by false so = so
either-value v f a false is = ap (λ (b : Bool). b || fixed f v true a) is

-- one variable more that may have any value
module _ (v : Var) (vs : List Var) (f : Function) (a : ℕ → Bool) where
  true-forth : IsTrueFor vs (without v.0 f) a → IsTrueFor (v ∷ vs) f a
  true-forth (b, agree, is) = elim (one-value (fixed f v.0 false b) (fixed f v.0 true b) is) [
    | inl low ↦ with-one false low
    | inr high ↦ with-one true high
  ]
    where
      with-one : (c : Bool) → fixed f v.0 c b ≡ true → IsTrueFor (v ∷ vs) f a
      with-one c so = (
        with_value b v.0 c,
        (λ w out. let parts = outside-front v vs w out in with-other b v.0 c w (λ same. parts.0 (sym same)) ∙ agree w parts.1),
        so,
      )

  true-back : IsTrueFor (v ∷ vs) f a → IsTrueFor vs (without v.0 f) a
  true-back (b, agree, is) = (with_value b v.0 (a v.0), agree', either-value v.0 f (with_value b v.0 (a v.0)) (b v.0) (ap f (λ j w. again w (w == v.0) refl j) ∙ is))
    where
      agree' : AgreeOutside vs a (with_value b v.0 (a v.0))
      agree' w out = elim (cases_eq w v.0) [
        | inl same ↦ ap (with_value b v.0 (a v.0)) same ∙ with-itself b v.0 (a v.0) ∙ sym (ap a same)
        | inr other ↦ with-other b v.0 (a v.0) w other ∙ agree w (outside-both v vs w (λ same. other (sym same)) out)
      ]

      again : (w : ℕ) (x : Bool) → (w == v.0) ≡ x → (if x then b v.0 else (if x then a v.0 else b w)) ≡ b w
      again w true same = ap b (sym (eqb-true w v.0 same))
      again w false same = refl

-- the function without the variables is true where some other values of theirs make it so
pub exists-exact : (vs : List Var) (f : Function) (a : ℕ → Bool) → (exists_over vs f a ≡ true) ↔ IsTrueFor vs f a
exists-exact [] f a = (
  (λ is. (a, (λ w out. refl), is)),
  (λ (b, agree, is). ap f (λ j w. sym (agree w (λ inside. omega arith)) j) ∙ is),
)
exists-exact (v ∷ vs) f a =
    let rest = exists-exact vs (without v.0 f) a in
    ((λ so. true-forth v vs f a (rest.0 so)), (λ is. rest.1 (true-back v vs f a is)))

-- so it is for a handle with its value
pub exists-told : (u : Table) (h : ℕ) (us vs : List Var) (f : Function) → us ≡ vs → value_at u h ≡ exists_over us f → (a : ℕ → Bool) → (value_of u h a ≡ true) ↔ IsTrueFor vs f a
exists-told u h us vs f all value a = subst (λ (g : Function). (g a ≡ true) ↔ IsTrueFor vs f a) (sym (value ∙ ap (λ (ws : List Var). exists_over ws f) all)) (exists-exact vs f a)

-- one variable more
exists-push : (vs : List Var) (v : Var) (f : Function) → exists_over (vs ++ v ∷ []) f ≡ without v.0 (exists_over vs f)
exists-push [] v f = refl
exists-push (w ∷ ws) v f = exists-push ws v (without w.0 f)

pub exists-more : (vs : List Var) (i : ℕ) (v : Var) (f : Function) → i < length vs → v ≡ get_or vs i v → exists_over (take (i + 1) vs) f ≡ without v.0 (exists_over (take i vs) f)
exists-more vs i v f inside is =
    ap (λ (ws : List Var). exists_over ws f) (take_more vs i v inside ∙ ap (λ (u : Var). take i vs ++ u ∷ []) (sym is)) ∙ exists-push (take i vs) v f

-- what is wanted for it is one of the groups
pub group-among : (vs : List Var) (i : ℕ) (v : Var) (f : Function) → i < length vs → v ≡ get_or vs i v
    → In (without_group v.0 (exists_over (take i vs) f)) (exists_groups vs f)
group-among [] i v f inside is = absurd (omega arith)
group-among (w ∷ ws) zero v f inside is = inl (ap (λ (u : Var). without_group u.0 f) (sym is))
group-among (w ∷ ws) (suc i) v f inside is = inr (group-among ws i v (without w.0 f) (omega arith) is)

-- the value of a new handle stays behind the release of another
pub value-told : (u w : Table) (f : Function) (result : Result ℕ Refusal) → Grows u w 0 → IfOk result (λ h. value_at u h ≡ f) → IfOk result (λ h. value_at w h ≡ f)
value-told u w f (Ok h) grows value = same-values u w (grows.none refl) (sym grows.keeps.order) h ∙ value
value-told u w f (Err r) grows value = tt

-- a handle took the place of one that was gained
pub gained-next : (t u w : Table) (g h : ℕ) → GainsHandle t u g → Replaces u w g h → GainsHandle t w h
gained-next t u w g h gain next =
    let each : (n : ℕ) → handles_on w n ≡ handles_on t n + one_on h n = (λ n. let one = gain.each n in let two = next.each n in omega arith) in
    record {
      gained = (let here = each h in let own = one_on-itself h in omega arith);
      each = each;
      total = (let one = gain.total in let two = next.total in omega arith);
    }

-- behind the first variables a call is refused for the next one
pub short-next : (t u : Table) (h : ℕ) (vs : List Var) (i : ℕ) (v : Var) (f : Function) (r : Refusal) → i < length vs → v ≡ get_or vs i v → Keeps t u → GainsHandle t u h
    → value_at u h ≡ exists_over (take i vs) f → IsShortFor u (without_group v.0 (value_at u h) ∷ []) r → IsShortFor t (exists_groups vs f) r
short-next t u h vs i v f r inside is keeps gain value cause =
    let group = without_group v.0 (value_at u h) in
    let among : In group (exists_groups vs f) = subst (λ (g : Function). In (without_group v.0 g) (exists_groups vs f)) (sym value) (group-among vs i v f inside is) in
    short-among t group (exists_groups vs f) r (contains_from group (exists_groups vs f) among)
    (short-behind t u h group r keeps gain (inl refl) cause)

-- The function without one variable, by the two cofactors.
module _ (t u w : Table) (f v low : ℕ) (live : IsLive t f) (keeps : Keeps t u) (gain : GainsHandle t u low) where
  pub second-asked : value_at u f ≡ value_at t f
  second-asked = value-kept t u keeps f live (live_gained gain f live)

  module _ (is_low : value_at u low ≡ fixed (value_at t f) v false) where
    abbrev pub wanted : List Function
    wanted = without_group v (value_at t f)

    low-among : In (value_at u low) wanted
    low-among = inr (inl (sym is_low))

    -- the second one is refused
    pub short-second : (r : Refusal) → IsCause u w (fixed (value_at u f) v true) r → IsShortFor t (wanted ∷ []) r
    short-second r cause =
        short-behind t u low wanted r keeps gain low-among
        (short-call u w (fixed (value_at u f) v true) wanted r (inr (inr (inl (sym (ap (λ (g : Function). fixed g v true) second-asked))))) cause)

    -- both are there
    module _ (high : ℕ) (keeps' : Keeps u w) (gain' : GainsHandle u w high) (is_high : value_at w high ≡ fixed (value_at u f) v true) where
      pub both-live : HasBoth w low high
      both-live n = let one = gain.each n in let two = gain'.each n in omega arith

      low-kept : value_at w low ≡ fixed (value_at t f) v false
      low-kept = let at : IsLive u low = (let one = gain.gained in omega arith) in value-kept u w keeps' low at (live_gained gain' low at) ∙ is_low

      high-is : value_at w high ≡ fixed (value_at t f) v true
      high-is = is_high ∙ ap (λ (g : Function). fixed g v true) second-asked

      either-is : applied Or (value_at w low) (value_at w high) ≡ without v (value_at t f)
      either-is = ap (λ (g : Function). applied Or g (value_at w high)) low-kept ∙ ap (λ (g : Function). applied Or (fixed (value_at t f) v false) g) high-is

      pub without-told : (x : Table) (result : Result ℕ Refusal) → IfOk result (λ h. value_at x h ≡ applied Or (value_at w low) (value_at w high))
          → IfOk result (λ h. value_at x h ≡ without v (value_at t f))
      without-told x (Ok h) is = is ∙ either-is
      without-told x (Err r) is = tt

      pub without-keeps : (x : Table) → Keeps w x → Keeps t x
      without-keeps x last =
          keeps_then (keeps_then keeps keeps' (λ n first end. live_gained gain n first)) last (λ n first end. live_gained gain' n (live_gained gain n first))

      -- the union of both is refused
      pub without-short : (result : Result ℕ Refusal)
          → IfErr result (λ r. (group : List Function) → Contains group (applied Or (value_at w low) (value_at w high)) → IsShortFor w (group ∷ []) r)
          → IfErr result (IsShortFor t (wanted ∷ []))
      without-short (Ok h) cause = tt
      without-short (Err r) cause =
          short-behind t u low wanted r keeps gain low-among
          (short-behind u w high wanted r keeps' gain' (inr (inr (inl (sym high-is))))
          (cause wanted (contains_from (applied Or (value_at w low) (value_at w high)) wanted (inr (inr (inr (inl (sym either-is))))))))

-- the union is refused
pub union-short : (t u : Table) (low high : ℕ) (result : Result ℕ Refusal) → IfErr result (IsCause t u (applied Or (value_at t low) (value_at t high)))
    → IfErr result (λ r. (group : List Function) → Contains group (applied Or (value_at t low) (value_at t high)) → IsShortFor t (group ∷ []) r)
union-short t u low high (Ok h) cause = tt
union-short t u low high (Err r) cause =
    λ group among. short-call t u (applied Or (value_at t low) (value_at t high)) group r (in_from (applied Or (value_at t low) (value_at t high)) group among) cause
