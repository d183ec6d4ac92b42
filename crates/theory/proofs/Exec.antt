-- The model's tests decide what they are named for.
use mathlib.Core.Path.{◌≡◌, refl}
use mathlib.Core.Bool.{Bool, true, false}
use mathlib.Core.List.{List, [], ◌∷◌, Memᴰ}
use Prim.Native.Nat.{ℕ, zero, suc, ◌<◌}
use lib.Dec.{T, ltb, eqb, ltb→lt, lt→ltb, eqb→eq, eqb_refl}
use Rattle.model.specs.Finite.{both, implies, any, all, keep}
use Rattle.model.specs.Field.{Field}
use Rattle.model.specs.Card.{Line, fire}
use Rattle.model.specs.Expansion.{simulates, expands}
use Rattle.theory.specs.Expansion.{Reply, Simulates, Expands, flip}
use Rattle.model.specs.Stage.{lowering, falling, refined, stage_from}
use Rattle.theory.proofs.Normed.{Normed, norm, Low}
use Rattle.theory.proofs.Stages.{Alike, Next, down, level, Stage}

-- A test that decides a type. (A declared record, so that the test is found from the proof.)
pub record Tells (b : Bool) (A : Type 0) : Type 0 where
  pub fact : T b → A
  pub test : A → T b

pub tells_and : (b c : Bool) {A B : Type 0} → Tells b A → Tells c B → Tells (both b c) (A × B)
tells_and true c f g = record { fact = λ t. (f.fact tt, g.fact t); test = λ t. g.test t.1 }
tells_and false c f g = record { fact = λ t. absurd t; test = λ t. f.test t.0 }

pub tells_implies : (b c : Bool) {A B : Type 0} → Tells b A → Tells c B → Tells (implies b c) (A → B)
tells_implies true c f g = record { fact = λ t _. g.fact t; test = λ h. g.test (h (f.fact tt)) }
tells_implies false c f g = record { fact = λ t a. absurd (f.test a); test = λ h. tt }

pub tells_map : {b : Bool} {A B : Type 0} → (A → B) → (B → A) → Tells b A → Tells b B
tells_map g h f = record { fact = λ t. g (f.fact t); test = λ x. f.test (h x) }

pub tells_lt : (m n : ℕ) → Tells (ltb m n) (m < n)
tells_lt m n = record { fact = ltb→lt m n; test = lt→ltb m n }

pub tells_eq : (m n : ℕ) → Tells (eqb m n) (m ≡ n)
tells_eq m n = record { fact = eqb→eq m n; test = λ e. rw e (eqb_refl n) }

module _ {A : Type 0} (p : A → Bool) (P : A → Type 0) (f : (l : A) → Tells (p l) (P l)) where
  pub tells_any : (xs : List A) → Tells (any p xs) ((l : A) × Memᴰ l xs × P l)
  unfolding any
  tells_any [] = record { fact = λ t. absurd t; test = λ t. elim t.1 [ ] }
  tells_any (x ∷ xs) = go (p x) (f x) (tells_any xs)
    where
      go : (b : Bool) → Tells b (P x) → Tells (any p xs) ((l : A) × Memᴰ l xs × P l)
          → Tells (elim b as (λ _. Bool) [ true ↦ true | false ↦ any p xs ]) ((l : A) × Memᴰ l (x ∷ xs) × P l)
      go true g r = record { fact = λ _. (x, Memᴰ.head refl, g.fact tt); test = λ _. tt }
      go false g r = record {
        fact = λ t. let u = r.fact t in (u.0, Memᴰ.tail u.1, u.2);
        test = λ t. r.test (rest t.0 t.1 t.2);
      }
        where
          rest : (l : A) → Memᴰ l (x ∷ xs) → P l → (l : A) × Memᴰ l xs × P l
          rest l (Memᴰ.head e) q = absurd (g.test (rw e at q))
          rest l (Memᴰ.tail m) q = (l, m, q)

  pub tells_all : (xs : List A) → Tells (all p xs) ((l : A) → Memᴰ l xs → P l)
  unfolding all
  tells_all [] = record { fact = λ t l m. elim m [ ]; test = λ t. tt }
  tells_all (x ∷ xs) = go (p x) (f x) (tells_all xs)
    where
      go : (b : Bool) → Tells b (P x) → Tells (all p xs) ((l : A) → Memᴰ l xs → P l)
          → Tells (elim b as (λ _. Bool) [ true ↦ all p xs | false ↦ false ]) ((l : A) → Memᴰ l (x ∷ xs) → P l)
      go true g r = record { fact = λ t l m. each t l m; test = λ h. r.test (λ l m. h l (Memᴰ.tail m)) }
        where
          each : T (all p xs) → (l : A) → Memᴰ l (x ∷ xs) → P l
          each t l (Memᴰ.head e) = rw e (g.fact tt)
          each t l (Memᴰ.tail m) = r.fact t l m
      go false g r = record { fact = λ t. absurd t; test = λ h. g.test (h x (Memᴰ.head refl)) }

  -- The lines kept are those that pass.
  pub keep_on : (xs : List A) (l : A) → Memᴰ l (keep p xs) → Memᴰ l xs × P l
  unfolding keep
  keep_on [] l m = elim m [ ]
  keep_on (x ∷ xs) l m = go (p x) (f x) (keep_on xs l) m
    where
      go : (b : Bool) → Tells b (P x) → (Memᴰ l (keep p xs) → Memᴰ l xs × P l)
          → Memᴰ l (elim b as (λ _. List A) [ true ↦ x ∷ keep p xs | false ↦ keep p xs ]) → Memᴰ l (x ∷ xs) × P l
      go true g r (Memᴰ.head e) = (Memᴰ.head e, rw e (g.fact tt))
      go true g r (Memᴰ.tail m) = let u = r m in (Memᴰ.tail u.0, u.1)
      go false g r m = let u = r m in (Memᴰ.tail u.0, u.1)

  pub on_keep : (xs : List A) (l : A) → Memᴰ l xs → P l → Memᴰ l (keep p xs)
  unfolding keep
  on_keep xs l m q = at m
    where
      at : {ys : List A} → Memᴰ l ys → Memᴰ l (keep p ys)
      at (Memᴰ.head {x = x} {xs = zs} e) = here (p x) (f x)
        where
          here : (b : Bool) → Tells b (P x) → Memᴰ l (elim b as (λ _. List A) [ true ↦ x ∷ keep p zs | false ↦ keep p zs ])
          here true g = Memᴰ.head e
          here false g = absurd (g.test (rw e at q))
      at (Memᴰ.tail {x = x} {xs = zs} r) = there (p x) (at r)
        where
          there : (b : Bool) → Memᴰ l (keep p zs) → Memᴰ l (elim b as (λ _. List A) [ true ↦ x ∷ keep p zs | false ↦ keep p zs ])
          there true u = Memᴰ.tail u
          there false u = u

module _ (L : Line → Type 0) (xs : List Line) (to : (l : Line) → L l → Memᴰ l xs) (from : (l : Line) → Memᴰ l xs → L l) where
  pub tells_sim : (r : Field → Field → Bool) (R : Field → Field → Type 0) → ((x y : Field) → Tells (r x y) (R x y))
      → (a b : Field) → Tells (simulates xs r a b) (Simulates L R a b)
  unfolding simulates
  tells_sim r R f a b =
      tells_map (λ g l o. g l (to l o)) (λ g l m. g l (from l m))
      (tells_all _ (λ l. 0 < a l.kind → Reply L R l.code (fire l a) b)
      (λ l. tells_implies _ _ (tells_lt 0 (a l.kind))
      (tells_map
      (λ t. record { line = t.0; on = from t.0 t.1; can = t.2.0.0; same = t.2.0.1; rel = t.2.1 })
      (λ q. (q.line, to q.line q.on, ((q.can, q.same), q.rel)))
      (tells_any _ (λ m. ((0 < b m.kind) × (m.code ≡ l.code)) × R (fire l a) (fire m b))
      (λ m. tells_and _ _ (tells_and _ _ (tells_lt 0 (b m.kind)) (tells_eq m.code l.code)) (f (fire l a) (fire m b)))
      xs)))
      xs)

  pub tells_expands : (r : Field → Field → Bool) (R : Field → Field → Type 0) → ((x y : Field) → Tells (r x y) (R x y))
      → (a b : Field) → Tells (expands xs r a b) (Expands L R a b)
  unfolding expands
  tells_expands r R f a b = tells_and _ _ (tells_sim r R f a b) (tells_sim (λ x y. r y x) (flip R) (λ x y. f y x) b a)

-- The stages over any test of stage 0 that decides it.
module _ (N : Normed) (xs : List Line) (to : (l : Line) → N.on l → Memᴰ l xs) (from : (l : Line) → Memᴰ l xs → N.on l) where
  pub tells_next : (r : Field → Field → Bool) (R : Field → Field → Type 0) → ((x y : Field) → Tells (r x y) (R x y))
      → (a b : Field) → Tells (refined N.n xs N.w r a b) (Next N R a b)
  unfolding refined
  tells_next r R f a b = tells_and _ _ (f a b) (tells_expands N.on xs to from r R f a b)

  low_test : (l : Line) → Tells (ltb (norm N l.left) (N.w l.kind)) (norm N l.left < N.w l.kind)
  low_test l = tells_lt (norm N l.left) (N.w l.kind)

  pub tells_down : (p : Field → Field → Bool) (P : Field → Field → Type 0) → ((x y : Field) → Tells (p x y) (P x y))
      → (f : ℕ) (a b : Field) → Tells (falling N.n xs N.w p f a b) (down N P f a b)
  unfolding falling down lowering
  tells_down p P g zero a b = g a b
  tells_down p P g (suc f) a b =
      tells_and _ _ (g a b)
      (tells_expands (Low N) (lowering N.n xs N.w)
      (λ l o. on_keep _ (λ l. norm N l.left < N.w l.kind) low_test xs l (to l o.0) o.1)
      (λ l m. let u = keep_on _ (λ l. norm N l.left < N.w l.kind) low_test xs l m in (from l u.0, u.1))
      (falling N.n xs N.w p f) (down N P f) (tells_down p P g f) a b)

  module _ (r : Field → Field → Bool) (tells_alike : (x y : Field) → Tells (r x y) (Alike N x y)) where
    pub tells_stage : (s : ℕ) (a b : Field) → Tells (stage_from N.n xs N.w r s a b) (Stage N s a b)
    unfolding stage_from Stage level
    tells_stage zero a b = tells_alike a b
    tells_stage (suc zero) a b = tells_down r (Alike N) tells_alike (norm N a) a b
    tells_stage (suc (suc s)) a b =
        tells_down _ (Next N (level N s)) (tells_next (stage_from N.n xs N.w r (suc s)) (level N s) (tells_stage (suc s))) (norm N a) a b
