-- In each sense: the model's game, bisimulations and stages are the theory's at the second weight of the sense, 0 for each token or 1; what a verdict says of its stage.
use mathlib.Core.Bool.{Bool, true, false, not}
use mathlib.Core.Logic.{◌↔◌, ◌⊎◌, inl, inr, Lift}
use mathlib.Core.Path.{◌≡◌, refl, sym, ◌∙◌, fun_ext}
use Prim.Native.Nat.{ℕ, zero, suc, ◌+◌, ◌≤◌, ◌<◌, max}
use native.Mathlib.Decide.{dec_lt}
use native.Mathlib.Omega.{arith}
use lib.Dec.{T, leb, leb→le, le→leb}
use Rattle.model.specs.Finite.{least_from}
use Rattle.model.specs.Field.{Field, weigh}
use Rattle.model.specs.Card.{Card, On, reached_count, reached_lines}
use Rattle.theory.specs.Terms.{OnReached, OfKinds}
use Rattle.theory.specs.Expansion.{Bisimulation, Bisimilar, FinerBisimilar, BisimilarIn}
use Rattle.model.specs.Sense.{Sense, plain, finer}
use Rattle.theory.specs.Stages.{Start, StagesIn}
use Rattle.model.specs.Stage.{equal_norm, equal_norm_and_total, equal_in, stage_in}
use Rattle.model.specs.Base.{first_settled, parting_stage, rounds_at}
use Rattle.theory.specs.Game.{Holds}
use Rattle.theory.specs.FinerGame.{FinerHolds, HoldsIn, AlwaysIn}
use Rattle.model.specs.Answer.{Verdict, same, different, verdict_in}
use Rattle.theory.proofs.Moves.{expands_map, expands_mono}
use Rattle.theory.proofs.Normed.{Normed, Tidy}
use Rattle.theory.proofs.Stages.{Alike, Stage, stage_cong, stage_one, stage_next}
use Rattle.theory.proofs.Game.{FineHolds, Fine, rounds, parted, bisimilar_stage}
use Rattle.theory.proofs.Settle.{Settled, AtStage, settled_bisimulation}
use Rattle.theory.proofs.Consequences.{Parts, always_iff, settled_stays}
use Rattle.theory.proofs.Exec.{Tells, tells_and, tells_eq, tells_map, tells_stage}
use Rattle.theory.proofs.Lists.{least_cases}
use Rattle.theory.proofs.Reach.{fire_kinds, all_expands, expands_reached}
use Rattle.theory.proofs.Certified.{Found, live, normed}
use Rattle.theory.proofs.Rows.{Least, settled_least, tells_not}

-- What a token weighs besides: related fields share the sum.
abbrev pub weight_of : Sense → ℕ → ℕ
weight_of plain = λ _. 0
weight_of finer = λ _. 1

-- A card with certified norms, in a sense.
abbrev pub normed_in : (m : Sense) (c : Card) (w : ℕ → ℕ) → Found c w → Normed
normed_in m c w F = normed c w (weight_of m) F

pub weigh_zero : (n : ℕ) (a : Field) → weigh n (λ _. 0) a ≡ 0
unfolding weigh
weigh_zero zero a = refl
weigh_zero (suc n) a = omega (arith, weigh_zero n a)

-- In the plain sense every two fields share it.
flat : (n : ℕ) (a b : Field) → weigh n (λ _. 0) a ≡ weigh n (λ _. 0) b
flat n a b = weigh_zero n a ∙ sym (weigh_zero n b)

-- Of fields of reached kinds, which use the lines of reached kinds alone, the model's game is the theory's.
plain_to : (c : Card) (w : ℕ → ℕ) (F : Found c w) (r : ℕ) (a b : Field) → OfKinds c a → OfKinds c b → Holds c r a b → FineHolds (normed_in plain c w F) r a b
unfolding Holds FineHolds
plain_to c w F zero a b u v h = flat c.kinds a b
plain_to c w F (suc r) a b u v h = (
  flat c.kinds a b,
  expands_map (OnReached c) (Holds c r) (FineHolds (normed_in plain c w F) r) a b (λ l k o _ p _. plain_to c w F r _ _ (fire_kinds c l a o u) (fire_kinds c k b p v))
      (expands_reached c (Holds c r) a b u v h),
)

plain_from : (c : Card) (w : ℕ → ℕ) (F : Found c w) (r : ℕ) (a b : Field) → OfKinds c a → OfKinds c b → FineHolds (normed_in plain c w F) r a b → Holds c r a b
unfolding Holds FineHolds
plain_from c w F zero a b u v h = tt
plain_from c w F (suc r) a b u v h =
    all_expands c (Holds c r) a b u v
    (expands_map (OnReached c) (FineHolds (normed_in plain c w F) r) (Holds c r) a b (λ l k o _ p _. plain_from c w F r _ _ (fire_kinds c l a o u) (fire_kinds c k b p v)) h.1)

finer_to : (c : Card) (w : ℕ → ℕ) (F : Found c w) (r : ℕ) (a b : Field) → OfKinds c a → OfKinds c b → FinerHolds c r a b → FineHolds (normed_in finer c w F) r a b
unfolding FinerHolds FineHolds
finer_to c w F zero a b u v h = h
finer_to c w F (suc r) a b u v h = (
  h.0,
  expands_map (OnReached c) (FinerHolds c r) (FineHolds (normed_in finer c w F) r) a b (λ l k o _ p _. finer_to c w F r _ _ (fire_kinds c l a o u) (fire_kinds c k b p v))
      (expands_reached c (FinerHolds c r) a b u v h.1),
)

finer_from : (c : Card) (w : ℕ → ℕ) (F : Found c w) (r : ℕ) (a b : Field) → OfKinds c a → OfKinds c b → FineHolds (normed_in finer c w F) r a b → FinerHolds c r a b
unfolding FinerHolds FineHolds
finer_from c w F zero a b u v h = h
finer_from c w F (suc r) a b u v h = (
  h.0,
  all_expands c (FinerHolds c r) a b u v
      (expands_map (OnReached c) (FineHolds (normed_in finer c w F) r) (FinerHolds c r) a b (λ l k o _ p _. finer_from c w F r _ _ (fire_kinds c l a o u) (fire_kinds c k b p v)) h.1),
)

pub to_fine : (m : Sense) (c : Card) (w : ℕ → ℕ) (F : Found c w) (r : ℕ) (a b : Field) → OfKinds c a → OfKinds c b → HoldsIn m c r a b → FineHolds (normed_in m c w F) r a b
to_fine plain = plain_to
to_fine finer = finer_to

pub from_fine : (m : Sense) (c : Card) (w : ℕ → ℕ) (F : Found c w) (r : ℕ) (a b : Field) → OfKinds c a → OfKinds c b → FineHolds (normed_in m c w F) r a b → HoldsIn m c r a b
from_fine plain = plain_from
from_fine finer = finer_from

-- The model's test of stage 0 decides it.
pub tells_start : (m : Sense) (c : Card) (w : ℕ → ℕ) (F : Found c w) (a b : Field) → Tells (equal_in m c w a b) (Alike (normed_in m c w F) a b)
unfolding equal_norm equal_norm_and_total
tells_start plain c w F a b = tells_map (λ e. (e, flat c.kinds a b)) (λ t. t.0) (tells_eq _ _)
tells_start finer c w F a b = tells_and _ _ (tells_eq _ _) (tells_eq _ _)

pub zeroth : (m : Sense) (c : Card) (w : ℕ → ℕ) (F : Found c w) (a b : Field) → Stage (normed_in m c w F) 0 a b ↔ Start m c w a b
unfolding Stage
zeroth plain c w F a b = ((λ p. p.0), (λ e. (e, flat c.kinds a b)))
zeroth finer c w F a b = ((λ p. p), (λ p. p))

-- What relates the fields that are alike in a sense: a bisimulation whose pairs share the second weight.
abbrev Sharing {ℓ} : Sense → Card → (Field → Field → Type ℓ) → Type ℓ
Sharing m c R = Bisimulation (On c) R × ((u v : Field) → R u v → weigh c.kinds (weight_of m) u ≡ weigh c.kinds (weight_of m) v)

to_bisimulation {ℓ} : (m : Sense) (c : Card) (a b : Field) → BisimilarIn {ℓ} m c a b → (R : Field → Field → Type ℓ) × Sharing m c R × R a b
unfolding Bisimilar FinerBisimilar
to_bisimulation plain c a b x = (x.0, (x.1, (λ u v _. flat c.kinds u v)), x.2)
to_bisimulation finer c a b x = (x.0, (x.1, x.2), x.3)

from_bisimulation {ℓ} : (m : Sense) (c : Card) (R : Field → Field → Type ℓ) → Sharing m c R → (a b : Field) → R a b → BisimilarIn {ℓ} m c a b
unfolding Bisimilar FinerBisimilar
from_bisimulation plain c R B a b p = (R, B.0, p)
from_bisimulation finer c R B a b p = (R, B.0, B.1, p)

module _ (m : Sense) (c : Card) (w : ℕ → ℕ) (F : Found c w) where
  abbrev N : Normed
  N = normed_in m c w F

  pub tidy : (a : Field) → OfKinds c a → Tidy N a
  tidy a f k h = live c w F k (f k h)

  pub of_tidy : (a : Field) → Tidy N a → OfKinds c a
  of_tidy a t k h = F.out k (t k h).1

  -- The model's test of a stage decides it.
  pub tells_in : (s : ℕ) (a b : Field) → Tells (stage_in m c w s a b) (Stage N s a b)
  unfolding stage_in
  tells_in s a b = tells_stage N (reached_lines c) (λ l o. (F.reach.lines_iff l).1 o) (λ l o. (F.reach.lines_iff l).0 o) (equal_in m c w) (tells_start m c w F) s a b

  -- The stages are those of the paper.
  pub stages : StagesIn m c w (λ s a b. T (stage_in m c w s a b))
  stages = record {
    start = λ a b u v. ((λ t. (zeroth m c w F a b).0 ((tells_in 0 a b).fact t)), (λ e. (tells_in 0 a b).test ((zeroth m c w F a b).1 e)));
    one = λ a b u v. (
      (λ t. let x = (stage_one N a b).0 ((tells_in 1 a b).fact t) in (
        (tells_in 0 a b).test x.0,
        expands_mono _ (Stage N 1) (Test 1) (test 1) a b x.1,
      )),
      (λ t. (tells_in 1 a b).test ((stage_one N a b).1 ((tells_in 0 a b).fact t.0, expands_mono _ (Test 1) (Stage N 1) (fact 1) a b t.1))),
    );
    next = λ s a b u v. (
      (λ t. let x = (stage_next N s a b).0 ((tells_in (suc (suc s)) a b).fact t) in (
        (tells_in (suc s) a b).test x.0,
        all_expands c (Test (suc s)) a b u v (expands_mono (OnReached c) (Stage N (suc s)) (Test (suc s)) (test (suc s)) a b x.1),
        expands_mono _ (Stage N (suc (suc s))) (Test (suc (suc s))) (test (suc (suc s))) a b x.2,
      )),
      (λ t. (tells_in (suc (suc s)) a b).test ((stage_next N s a b).1 (
        (tells_in (suc s) a b).fact t.0,
        expands_mono (OnReached c) (Test (suc s)) (Stage N (suc s)) (fact (suc s)) a b (expands_reached c (Test (suc s)) a b u v t.1),
        expands_mono _ (Test (suc (suc s))) (Stage N (suc (suc s))) (fact (suc (suc s))) a b t.2,
      ))),
    );
  }
    where
      Test : ℕ → Field → Field → Type 0
      Test s a b = T (stage_in m c w s a b)

      test : (s : ℕ) (a b : Field) → Stage N s a b → Test s a b
      test s a b = (tells_in s a b).test

      fact : (s : ℕ) (a b : Field) → Test s a b → Stage N s a b
      fact s a b = (tells_in s a b).fact

  -- The settled stage that the model finds.
  pub settled : Least c w (weight_of m) F (equal_in m c w) (tells_start m c w F) (first_settled c w (stage_in m c w))
  unfolding stage_in
  settled = settled_least c w (weight_of m) F (equal_in m c w) (tells_start m c w F)

  -- Where no kind is reached there is one field, the empty one.
  no_kinds : reached_count c ≡ 0 → (s : ℕ) (a b : Field) → Tidy N a → Tidy N b → Stage N s a b
  no_kinds z s a b p q = let e : a ≡ b = fun_ext (λ k. omega (arith, empty a p k, empty b q k)) in rw e ((stage_cong N s).rfl b)
    where
      empty : (x : Field) → Tidy N x → (k : ℕ) → x k ≡ 0
      empty x f k = go (dec_lt 0 (x k))
        where
          go : Dec (0 < x k) → x k ≡ 0
          go (yes h) = absurd (F.reach.none_iff.0 z k (of_tidy x f k h))
          go (no h) = omega arith

  module _ (t : ℕ) (most : t ≤ max 1 (reached_count c)) (S : Settled N t) (a b : Field) (p : Tidy N a) (q : Tidy N b) where
    -- The settled stage relates what some bisimulation relates.
    pub settled_bisimilar {ℓ} : Stage N t a b ↔ BisimilarIn {ℓ} m c a b
    unfolding Fine
    settled_bisimilar = (
      (λ h. from_bisimulation m c (λ u v. Lift {0, ℓ} (AtStage N t u v)) lifted a b (record { lower = (p, q, h) })),
      (λ x. let y = to_bisimulation m c a b x in bisimilar_stage N (Within y.0) (within y.0 y.1) t a b (y.2, of_tidy a p, of_tidy b q)),
    )
      where
        lifted : Sharing m c (λ u v. Lift {0, ℓ} (AtStage N t u v))
        lifted = (
          (λ u v x.
              all_expands c (λ y z. Lift {0, ℓ} (AtStage N t y z)) u v (of_tidy u x.lower.0) (of_tidy v x.lower.1)
              (expands_mono (OnReached c) (AtStage N t) (λ y z. Lift {0, ℓ} (AtStage N t y z)) (λ y z r. record { lower = r }) u v
              ((settled_bisimulation N t S).1 u v x.lower))),
          (λ u v x. (settled_bisimulation N t S).0 u v x.lower),
        )

        -- The pairs of a relation that are of reached kinds.
        Within : (Field → Field → Type ℓ) → Field → Field → Type ℓ
        Within R u v = R u v × OfKinds c u × OfKinds c v

        within : (R : Field → Field → Type ℓ) → Sharing m c R → Fine N (Within R)
        within R B = (
          (λ u v y. B.1 u v y.0),
          (λ u v y.
              expands_map (OnReached c) R (Within R) u v (λ l k o _ i _ r. (r, fire_kinds c l u o y.1, fire_kinds c k v i y.2))
              (expands_reached c R u v y.1 y.2 (B.0 u v y.0))),
        )

    pub settled_always : Stage N t a b ↔ AlwaysIn m c a b
    settled_always =
        let i = always_iff N t S a b p q in
        ((λ h r. from_fine m c w F r a b (of_tidy a p) (of_tidy b q) (i.1 h r)), (λ h. i.0 (λ r. to_fine m c w F r a b (of_tidy a p) (of_tidy b q) (h r))))

    abbrev pub Differs : ℕ → Type 0
    Differs d = (d ≤ reached_count c) × (verdict_in m c w a b ≡ different d (rounds_at c w d a b)) × Parts N d a b

    -- A verdict is same where the settled stage relates the pair, and otherwise gives the least stage that does not.
    pub verdict_cases : ((verdict_in m c w a b ≡ same) × Stage N t a b) ⊎ ((d : ℕ) × Differs d)
    unfolding verdict_in parting_stage
    verdict_cases = go (least_from test 0 (suc (reached_count c))) refl (least_cases test 0 (suc (reached_count c)))
      where
        test : ℕ → Bool
        test s = not (stage_in m c w s a b)

        tells : (s : ℕ) → Tells (test s) (¬ Stage N s a b)
        tells s = tells_not (stage_in m c w s a b) (Stage N s a b) (tells_in s a b)

        relates : (s : ℕ) → ¬ T (test s) → Stage N s a b
        relates s n = pick (stage_in m c w s a b) (tells_in s a b) n
          where
            pick : (x : Bool) → Tells x (Stage N s a b) → ¬ T (not x) → Stage N s a b
            pick true f m = f.fact tt
            pick false f m = absurd (m tt)

        all_of : Dec (reached_count c < t) → (t ≤ reached_count c → Stage N t a b) → Stage N t a b
        all_of (yes h) g = no_kinds (omega arith) t a b p q
        all_of (no h) g = g (omega arith)

        Made : ℕ → Verdict
        Made d = elim (leb d (reached_count c)) [ true ↦ different d (rounds_at c w d a b) | false ↦ same ]

        no_stage : (d : ℕ) → (x : Bool) → leb d (reached_count c) ≡ x → reached_count c < d → (elim x as (λ _. Verdict) [ true ↦ different d (rounds_at c w d a b) | false ↦ same ]) ≡ same
        no_stage d true e h = absurd (omega (arith, leb→le d (reached_count c) (rw e tt)))
        no_stage d false e h = refl

        some_stage : (d : ℕ) → (x : Bool) → leb d (reached_count c) ≡ x → d ≤ reached_count c
            → (elim x as (λ _. Verdict) [ true ↦ different d (rounds_at c w d a b) | false ↦ same ]) ≡ different d (rounds_at c w d a b)
        some_stage d true e h = refl
        some_stage d false e h = absurd (rw e at (le→leb d (reached_count c) h))

        go : (d : ℕ) → least_from test 0 (suc (reached_count c)) ≡ d
            → ((d ≡ 0 + suc (reached_count c)) ⊎ ((d < 0 + suc (reached_count c)) × T (test d))) × (0 ≤ d) × ((k : ℕ) → 0 ≤ k → k < d → ¬ T (test k))
            → ((Made (least_from test 0 (suc (reached_count c))) ≡ same) × Stage N t a b)
            ⊎ ((d : ℕ) × ((d ≤ reached_count c) × (Made (least_from test 0 (suc (reached_count c))) ≡ different d (rounds_at c w d a b)) × Parts N d a b))
        go d e (inl z, i, f) = inl (rw e (no_stage d (leb d (reached_count c)) refl (omega arith)), all_of (dec_lt (reached_count c) t) (λ i. relates t (f t (omega arith) (omega arith))))
        go d e (inr z, i, f) =
            inr (d, (omega (arith, z.0), rw e (some_stage d (leb d (reached_count c)) refl (omega (arith, z.0))), ((tells d).fact z.1, λ k h. relates k (f k (omega arith) h))))

    never : (d r : ℕ) → ◌≡◌ {A = Verdict} same (different d r) → ⊥
    never d r e = let z : ◌≡◌ {A = ℕ} 0 1 = cc in omega arith

    differs_not : (d : ℕ) → Differs d → ¬ Stage N t a b
    differs_not d x h = x.2.0 (settled_stays N t S d a b p q h)

    pub same_iff : (verdict_in m c w a b ≡ same) ↔ Stage N t a b
    same_iff = go verdict_cases
      where
        go : ((verdict_in m c w a b ≡ same) × Stage N t a b) ⊎ ((d : ℕ) × Differs d) → (verdict_in m c w a b ≡ same) ↔ Stage N t a b
        go (inl x) = ((λ _. x.1), (λ _. x.0))
        go (inr x) = ((λ e. absurd (never x.0 (rounds_at c w x.0 a b) (sym e ∙ x.1.1))), (λ h. absurd (differs_not x.0 x.1 h)))

    pub different_iff : ((d : ℕ) × (r : ℕ) × (verdict_in m c w a b ≡ different d r)) ↔ (¬ Stage N t a b)
    different_iff = go verdict_cases
      where
        go : ((verdict_in m c w a b ≡ same) × Stage N t a b) ⊎ ((d : ℕ) × Differs d)
            → ((d : ℕ) × (r : ℕ) × (verdict_in m c w a b ≡ different d r)) ↔ (¬ Stage N t a b)
        go (inl x) = ((λ y. absurd (never y.0 y.1 (sym x.0 ∙ y.2))), (λ n. absurd (n x.1)))
        go (inr x) = ((λ y. differs_not x.0 x.1), (λ n. (x.0, rounds_at c w x.0 a b, x.1.1)))

    -- What is called different does not hold at the rounds reported.
    pub different_parts : (d r : ℕ) → verdict_in m c w a b ≡ different d r → (d ≤ reached_count c) × (r ≡ rounds_at c w d a b) × (¬ HoldsIn m c r a b) × Parts N d a b
    unfolding rounds_at rounds
    different_parts d r e = go verdict_cases
      where
        go : ((verdict_in m c w a b ≡ same) × Stage N t a b) ⊎ ((d : ℕ) × Differs d) → (d ≤ reached_count c) × (r ≡ rounds_at c w d a b) × (¬ HoldsIn m c r a b) × Parts N d a b
        go (inl x) = absurd (never d r (sym x.0 ∙ e))
        go (inr x) =
            let i : x.0 ≡ d = cc x.1.1 in
            let j : r ≡ rounds_at c w x.0 a b = cc x.1.1 in
            (rw i at x.1.0, rw i at j, λ h. parted N x.0 a b x.1.2.0 (to_fine m c w F (rounds N x.0 a b) a b (of_tidy a p) (of_tidy b q) (rw j at h)), rw i at x.1.2)

    -- The least stage that does not relate the pair is the one reported.
    pub parts_verdict : (d : ℕ) → Parts N d a b → verdict_in m c w a b ≡ different d (rounds_at c w d a b)
    parts_verdict d x = go verdict_cases
      where
        one : (i : ℕ) → Parts N i a b → Dec (i < d) → Dec (d < i) → i ≡ d
        one i y (yes l) e = absurd (y.0 (x.1 i l))
        one i y (no l) (yes e) = absurd (x.0 (y.1 d e))
        one i y (no l) (no e) = omega arith

        go : ((verdict_in m c w a b ≡ same) × Stage N t a b) ⊎ ((d : ℕ) × Differs d) → verdict_in m c w a b ≡ different d (rounds_at c w d a b)
        go (inl y) = absurd (x.0 (settled_stays N t S d a b p q y.1))
        go (inr y) = rw (one y.0 y.1.2 (dec_lt y.0 d) (dec_lt d y.0)) at y.1.1
