-- The norms found are the fewest reads, of every kind that can be cleared and of no other.
use mathlib.Core.Bool.{Bool, true, false}
use mathlib.Core.List.{Memᴰ}
use mathlib.Core.Path.{◌≡◌, refl, ◌∙◌}
use Prim.Native.Nat.{ℕ, zero, suc, ◌≤◌, ◌<◌}
use native.Mathlib.Decide.{dec_lt}
use native.Mathlib.Omega.{arith}
use Rattle.model.specs.Field.{Field, unit, weigh}
use Rattle.model.specs.Card.{Line, Card, On, reached, leads, Reached, fire}
use Rattle.model.specs.Norm.{Clears, IsNorm, card_norm, kind_norm, norm, gain_of}
use Rattle.theory.specs.Meanings.{Reaches, Norms}
use Rattle.theory.proofs.Field.{unit_same, weigh_none, weigh_front, weigh_unit, weigh_weights}
use Rattle.theory.proofs.Moves.{weigh_fire}
use Rattle.theory.proofs.Norms.{closed_clears}
use Rattle.theory.proofs.Normed.{Normed}
use Rattle.theory.proofs.Base.{unit_some}
use Rattle.theory.proofs.Consequences.{norm_clears}
use Rattle.theory.proofs.Certified.{Found, gain_most}
use Rattle.theory.proofs.Exec.{Tells}
use Rattle.theory.proofs.Reach.{tells_reached, reaches_all}
use Rattle.theory.proofs.Sweeps.{Ready, norm_settled, norm_attained}
use Rattle.theory.specs.Terms.{OnReached, OfKinds}

-- The lines and the fields speak of the card's kinds alone.
pub record Tame (c : Card) : Type 0 where
  pub kinds : (l : Line) → On c l → l.kind < c.kinds
  pub counts : (l : Line) → On c l → (k : ℕ) → 0 < l.left k → k < c.kinds
  pub entered : (a : Field) → Memᴰ a c.fields → (k : ℕ) → 0 < a k → k < c.kinds

pub clears_map : (L M : Line → Type 0) → ((l : Line) → L l → M l) → (r : ℕ) (a : Field) → Clears L r a → Clears M r a
unfolding Clears
clears_map L M f zero a h = h
clears_map L M f (suc r) a (l, o, h, p) = (l, f l o, h, clears_map L M f r (fire l a) p)

module _ (c : Card) (S : Tame c) where
  -- The norm by all of the card's norms, of kinds that are out too.
  abbrev pub all_norm : Field → ℕ
  all_norm a = weigh c.kinds (card_norm c) a

  -- What can be cleared has norms, and takes as many reads at least.
  pub clears_reached : (r : ℕ) (a : Field) → Clears (On c) r a → (k : ℕ) → 0 < a k → 0 < card_norm c k
  clears_reached r a p =
      closed_clears (On c) (λ k. 0 < card_norm c k) (λ l o f. (norm_settled c l o (S.kinds l o) (λ j _ q. f j q)).0) r a p

  pub clears_fewest : (r : ℕ) (a : Field) → Clears (On c) r a → all_norm a ≤ r
  unfolding Clears
  clears_fewest zero a e = rw e (omega (arith, weigh_none c.kinds (card_norm c)))
  clears_fewest (suc r) a (l, o, h, p) =
      let f = clears_reached r (fire l a) p in
      omega (
        arith,
        clears_fewest r (fire l a) p,
        weigh_fire c.kinds (card_norm c) l a (S.kinds l o) h,
        (norm_settled c l o (S.kinds l o) (λ j _ q. f j (omega arith))).1,
      )

  -- The card's lines whose kinds all have norms.
  abbrev Normal : Line → Type 0
  Normal l = On c l × (0 < card_norm c l.kind) × Ready c.kinds (card_norm c) l.left

  normal_part : Normed
  normal_part = record {
    n = c.kinds;
    w = card_norm c;
    e = λ _. 0;
    on = Normal;
    g = gain_of c.kinds (card_norm c) c.lines;
    live = λ l o. (S.kinds l o.0, o.1);
    slow = λ l o. (norm_settled c l o.0 (S.kinds l o.0) o.2).1;
    gain = λ l o. gain_most c.kinds (card_norm c) l o.0;
    fast = λ k h q. let t = norm_attained c k q in (t.0, (t.1, rw t.2 q, t.4), t.2, t.3);
    tidy = λ l o k h. (S.counts l o.0 k h, o.2 k (S.counts l o.0 k h) h);
  }

  pub reads : (a : Field) → ((k : ℕ) → 0 < a k → (k < c.kinds) × (0 < card_norm c k)) → Clears (On c) (all_norm a) a
  unfolding normal_part
  reads a t = clears_map Normal (On c) (λ l o. o.0) (all_norm a) a (norm_clears normal_part (all_norm a) a refl t)

  -- A reached kind has the card's norm, a kind that is out none.
  pub reach : Reaches c
  reach = reaches_all c S.entered S.counts

  reached_tells : (k : ℕ) → Tells (reached c k) (Reached c k)
  reached_tells k = tells_reached c S.entered S.counts k

  pub reached_norm : (k : ℕ) → Reached c k → kind_norm c k ≡ card_norm c k
  unfolding kind_norm
  reached_norm k v = go (reached c k) (reached_tells k)
    where
      go : (b : Bool) → Tells b (Reached c k) → (elim b as (λ _. ℕ) [ true ↦ card_norm c k | false ↦ 0 ]) ≡ card_norm c k
      go true t = refl
      go false t = absurd (t.test v)

  pub norm_reached : (k : ℕ) → 0 < kind_norm c k → Reached c k
  unfolding kind_norm
  norm_reached k h = go (reached c k) (reached_tells k) h
    where
      go : (b : Bool) → Tells b (Reached c k) → 0 < (elim b as (λ _. ℕ) [ true ↦ card_norm c k | false ↦ 0 ]) → Reached c k
      go true t q = t.fact tt
      go false t q = absurd (omega arith)

  pub out_norm : (k : ℕ) → ¬ Reached c k → kind_norm c k ≡ 0
  out_norm k n = go (dec_lt 0 (kind_norm c k))
    where
      go : Dec (0 < kind_norm c k) → kind_norm c k ≡ 0
      go (yes h) = absurd (n (norm_reached k h))
      go (no h) = omega arith

  norm_same : (a : Field) → OfKinds c a → norm c a ≡ all_norm a
  norm_same a f = weigh_weights c.kinds (kind_norm c) (card_norm c) a (λ k _ q. reached_norm k (f k q))

  pub norms : Norms c
  unfolding IsNorm
  norms = record {
    kinds = λ k q.
        let v = norm_reached k q in
        let i = reached_norm k v in
        let e = weigh_unit c.kinds (card_norm c) k (reach.under k v) in (
          v,
          (
            rw i (rw e at (reads (unit k) (λ j x. rw (unit_some k j x) (reach.under k v, rw i at q)))),
            (λ r p. omega (arith, clears_fewest r (unit k) p)),
          ),
        );
    missing = λ k v z r p. omega (arith, reached_norm k v, clears_reached r (unit k) p k (omega (arith, unit_same k)));
    fields = λ a t.
        let f : OfKinds c a = λ k h. norm_reached k (t k h).1 in
        rw (norm_same a f) (reads a (λ k h. ((t k h).0, rw (reached_norm k (f k h)) at (t k h).1)), (λ r p. clears_fewest r a p));
    first_rest = λ a. weigh_front c.kinds (kind_norm c) a;
  }

  -- Where every reached kind has one, the norms are certified.
  pub found : ((k : ℕ) → Reached c k → 0 < kind_norm c k) → Found c (kind_norm c)
  found f = record {
    reach = reach;
    kinds = S.kinds;
    positive = f;
    out = norm_reached;
    settled = λ l o.
        omega (arith, reached_norm l.kind o.1, norm_same l.left (λ k h. left l o k h), (norm_settled c l o.0 (S.kinds l o.0) (λ k _ h. pos k (left l o k h))).1);
    attained = λ k v. let t = norm_attained c k (pos k v) in (t.0, (t.1, rw t.2 v), t.2, reached_norm k v ∙ t.3 ∙ line t.0 (t.1, rw t.2 v));
  }
    where
      pos : (k : ℕ) → Reached c k → 0 < card_norm c k
      pos k v = rw (reached_norm k v) at (f k v)

      left : (l : Line) → OnReached c l → (k : ℕ) → 0 < l.left k → Reached c k
      left l o k h = leads l o.0 o.1 h

      line : (l : Line) → OnReached c l → suc (all_norm l.left) ≡ suc (norm c l.left)
      line l o = omega (arith, norm_same l.left (λ k h. left l o k h))
