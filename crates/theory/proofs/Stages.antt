-- Congruences, the stages, and what a stage has by its definition.
use mathlib.Core.Path.{◌≡◌, refl, sym, ◌∙◌}
use mathlib.Core.Logic.{◌↔◌}
use Prim.Native.Nat.{ℕ, zero, suc, ◌≤◌}
use native.Mathlib.Omega.{arith}
use Rattle.model.specs.Field.{Field, ◌⊕◌}
use Rattle.model.specs.Card.{fire}
use Rattle.theory.specs.Expansion.{Expands}
use Rattle.theory.proofs.Field.{weigh_plus}
use Rattle.theory.proofs.Moves.{expands_map, expands_mono, expands_sym, expands_refl, expands_trans, expands_plus}
use Rattle.theory.proofs.Normed.{Normed, norm, extra, Low, fire_low}

module _ (N : Normed) where
  -- A congruence that keeps the norm and the second weight.
  pub record Cong (R : Field → Field → Type 0) : Type 0 where
    pub rfl : (a : Field) → R a a
    pub sm : (a b : Field) → R a b → R b a
    pub tr : (a b c : Field) → R a b → R b c → R a c
    pub plus : (a b c d : Field) → R a b → R c d → R (a ⊕ c) (b ⊕ d)
    pub norms : (a b : Field) → R a b → norm N a ≡ norm N b
    pub extras : (a b : Field) → R a b → extra N a ≡ extra N b

  abbrev pub Alike : Field → Field → Type 0
  Alike a b = (norm N a ≡ norm N b) × (extra N a ≡ extra N b)

  -- The pair and its reads, related.
  abbrev pub Next : (Field → Field → Type 0) → Field → Field → Type 0
  Next R a b = R a b × Expands N.on R a b

  -- In P, with norm-reducing expansion as deep as the fuel goes.
  unfoldable pub down : (Field → Field → Type 0) → ℕ → Field → Field → Type 0
  down P zero a b = P a b
  down P (suc f) a b = P a b × Expands (Low N) (down P f) a b

  -- The norm is fuel enough.
  abbrev pub Down : (Field → Field → Type 0) → Field → Field → Type 0
  Down P a b = down P (norm N a) a b

  -- level s is stage s + 1.
  unfoldable pub level : ℕ → Field → Field → Type 0
  level zero = Down Alike
  level (suc s) = Down (Next (level s))

  unfoldable pub Stage : ℕ → Field → Field → Type 0
  Stage zero = Alike
  Stage (suc s) = level s

  pub alike_cong : Cong Alike
  alike_cong = record {
    rfl = λ a. (refl, refl);
    sm = λ a b p. (sym p.0, sym p.1);
    tr = λ a b c p q. (p.0 ∙ q.0, p.1 ∙ q.1);
    plus = λ a b c d p q. (
      omega (arith, weigh_plus N.n N.w a c, weigh_plus N.n N.w b d),
      omega (arith, weigh_plus N.n N.e a c, weigh_plus N.n N.e b d),
    );
    norms = λ a b p. p.0;
    extras = λ a b p. p.1;
  }

  -- Expansion in a congruence is a congruence within it.
  pub next_cong : (R : Field → Field → Type 0) → Cong R → Cong (Next R)
  next_cong R C = record {
    rfl = λ a. (C.rfl a, expands_refl N.on R C.rfl a);
    sm = λ a b p. (C.sm a b p.0, expands_sym N.on R R C.sm a b p.1);
    tr = λ a b c p q. (C.tr a b c p.0 q.0, expands_trans N.on R R R C.tr a b c p.1 q.1);
    plus = λ a b c d p q. (
      C.plus a b c d p.0 q.0,
      expands_plus N.on R R R a b c d (λ x y u. C.plus x y c d u q.0) (λ x y. C.plus a b x y p.0) p.1 q.1,
    );
    norms = λ a b p. C.norms a b p.0;
    extras = λ a b p. C.extras a b p.0;
  }

  module _ (P : Field → Field → Type 0) (C : Cong P) where
    pub down_in : (f : ℕ) (a b : Field) → down P f a b → P a b
    unfolding down
    down_in zero a b p = p
    down_in (suc f) a b p = p.0

    -- Any fuel will do, once the norm is reached.
    pub refuel : (f t : ℕ) (a b : Field) → norm N a ≤ f → down P f a b → down P t a b
    unfolding down
    refuel f zero a b h p = down_in f a b p
    refuel zero (suc t) a b h p =
        (p, ((λ l o q. absurd (omega (arith, fire_low N l a o q))), (λ l o q. absurd (omega (arith, fire_low N l b o q, C.norms a b p)))))
    refuel (suc f) (suc t) a b h p =
        (p.0, expands_map (Low N) (down P f) (down P t) a b (λ l m o q _ _. refuel f t _ _ (omega (arith, fire_low N l a o q))) p.1)

    down_refl : (f : ℕ) (a : Field) → down P f a a
    unfolding down
    down_refl zero a = C.rfl a
    down_refl (suc f) a = (C.rfl a, expands_refl (Low N) (down P f) (down_refl f) a)

    down_sym : (f : ℕ) (a b : Field) → down P f a b → down P f b a
    unfolding down
    down_sym zero a b p = C.sm a b p
    down_sym (suc f) a b p = (C.sm a b p.0, expands_sym (Low N) (down P f) (down P f) (down_sym f) a b p.1)

    down_trans : (f : ℕ) (a b c : Field) → down P f a b → down P f b c → down P f a c
    unfolding down
    down_trans zero a b c p q = C.tr a b c p q
    down_trans (suc f) a b c p q =
        (C.tr a b c p.0 q.0, expands_trans (Low N) (down P f) (down P f) (down P f) (down_trans f) a b c p.1 q.1)

    down_less : (f : ℕ) (a b : Field) → down P (suc f) a b → down P f a b
    unfolding down
    down_less zero a b p = p.0
    down_less (suc f) a b p = (p.0, expands_mono (Low N) (down P (suc f)) (down P f) (down_less f) a b p.1)

    down_plus : (f : ℕ) (a b c d : Field) → down P f a b → down P f c d → down P f (a ⊕ c) (b ⊕ d)
    unfolding down
    down_plus zero a b c d p q = C.plus a b c d p q
    down_plus (suc f) a b c d p q = (
      C.plus a b c d p.0 q.0,
      expands_plus (Low N) (down P f) (down P f) (down P f) a b c d
          (λ x y u. down_plus f x y c d u (down_less f c d q)) (λ x y. down_plus f a b x y (down_less f a b p)) p.1 q.1,
    )

    -- What Down relates, it relates at every fuel.
    pub at_fuel : (t : ℕ) (a b : Field) → Down P a b → down P t a b
    at_fuel t a b p = refuel (norm N a) t a b (omega arith) p

    pub Down_in : (a b : Field) → Down P a b → P a b
    Down_in a b p = down_in (norm N a) a b p

    pub down_cong : Cong (Down P)
    down_cong = record {
      rfl = λ a. down_refl (norm N a) a;
      sm = λ a b p. down_sym (norm N b) a b (at_fuel (norm N b) a b p);
      tr = λ a b c p q. down_trans (norm N a) a b c p (at_fuel (norm N a) b c q);
      plus = λ a b c d p q. down_plus (norm N (a ⊕ c)) a b c d (at_fuel (norm N (a ⊕ c)) a b p) (at_fuel (norm N (a ⊕ c)) c d q);
      norms = λ a b p. C.norms a b (Down_in a b p);
      extras = λ a b p. C.extras a b (Down_in a b p);
    }

    -- The clauses of the paper: Down P is P and norm-reducing expansion in Down P.
    pub Down_out : (a b : Field) → Down P a b → Expands (Low N) (Down P) a b
    unfolding down
    Down_out a b p =
        let q : down P (suc (norm N a)) a b = at_fuel (suc (norm N a)) a b p in
        expands_map (Low N) (down P (norm N a)) (Down P) a b
        (λ l m o u _ _. refuel (norm N a) (norm N (fire l a)) _ _ (omega (arith, fire_low N l a o u))) q.1

    pub Down_make : (a b : Field) → P a b → Expands (Low N) (Down P) a b → Down P a b
    unfolding down
    Down_make a b p x = down_less (norm N a) a b (p, expands_mono (Low N) (Down P) (down P (norm N a)) (at_fuel (norm N a)) a b x)

  pub level_cong : (s : ℕ) → Cong (level s)
  unfolding level
  level_cong zero = down_cong Alike alike_cong
  level_cong (suc s) = down_cong (Next (level s)) (next_cong (level s) (level_cong s))

  pub stage_cong : (s : ℕ) → Cong (Stage s)
  unfolding Stage
  stage_cong zero = alike_cong
  stage_cong (suc s) = level_cong s

  -- The stages' definition, as the paper words it.
  pub stage_one : (a b : Field) → Stage 1 a b ↔ (Stage 0 a b × Expands (Low N) (Stage 1) a b)
  unfolding Stage level
  stage_one a b =
      ((λ p. (Down_in Alike alike_cong a b p, Down_out Alike alike_cong a b p)), (λ p. Down_make Alike alike_cong a b p.0 p.1))

  pub stage_next : (s : ℕ) (a b : Field)
      → Stage (suc (suc s)) a b ↔ (Stage (suc s) a b × Expands N.on (Stage (suc s)) a b × Expands (Low N) (Stage (suc (suc s))) a b)
  unfolding Stage level
  stage_next s a b =
      let C = next_cong (level s) (level_cong s) in (
        (λ p. let q = Down_in (Next (level s)) C a b p in (q.0, q.1, Down_out (Next (level s)) C a b p)),
        (λ p. Down_make (Next (level s)) C a b (p.0, p.1) p.2),
      )

  pub stage_less : (s : ℕ) (a b : Field) → Stage (suc s) a b → Stage s a b
  unfolding Stage level
  stage_less zero a b p = Down_in Alike alike_cong a b p
  stage_less (suc s) a b p = (Down_in (Next (level s)) (next_cong (level s) (level_cong s)) a b p).0
