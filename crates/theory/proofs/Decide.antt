-- A card of finitely many lines: every relation of the theory is decided.
use mathlib.Core.Path.{◌≡◌, refl}
use mathlib.Core.List.{List, [], ◌∷◌, Memᴰ}
use Prim.Native.Nat.{ℕ, zero, suc, ◌<◌}
use native.Mathlib.Decide.{dec_lt, ℕ_discrete, map_dec}
use Rattle.model.specs.Field.{Field}
use Rattle.model.specs.Card.{Line, fire}
use Rattle.theory.specs.Expansion.{Reply, Simulates, Expands, flip}
use Rattle.theory.proofs.Search.{dec_and, dec_not, dec_implies}
use Rattle.theory.proofs.Normed.{Normed, norm, extra, Low}
use Rattle.theory.proofs.Stages.{Alike, Next, down, level, Stage}
use Rattle.theory.proofs.Game.{FineHolds}

-- The lines of L can be searched.
abbrev pub Finite : (Line → Type 0) → Type 1
Finite L = (P : Line → Type 0) → ((l : Line) → Dec (P l)) → Dec ((l : Line) × L l × P l)

pub list_finite : (card : List Line) → Finite (λ l. Memᴰ l card)
list_finite [] P d = no (λ t. elim t.1 [ ])
list_finite (x ∷ xs) P d = go (d x) (list_finite xs P d)
  where
    go : Dec (P x) → Dec ((l : Line) × Memᴰ l xs × P l) → Dec ((l : Line) × Memᴰ l (x ∷ xs) × P l)
    go (yes p) r = yes (x, Memᴰ.head refl, p)
    go (no n) (yes t) = yes (t.0, Memᴰ.tail t.1, t.2)
    go (no n) (no r) = no (λ t. miss t.0 t.1 t.2)
      where
        miss : (l : Line) → Memᴰ l (x ∷ xs) → P l → ⊥
        miss l (Memᴰ.head e) p = n (rw e at p)
        miss l (Memᴰ.tail m) p = r (l, m, p)

pub finite_and : (L M : Line → Type 0) → Finite L → ((l : Line) → Dec (M l)) → Finite (λ l. L l × M l)
finite_and L M F d P e =
    map_dec (λ t. (t.0, (t.1, t.2.0), t.2.1)) (λ t. (t.0, t.1.0, (t.1.1, t.2))) (F (λ l. M l × P l) (λ l. dec_and (d l) (e l)))

-- All lines of L, or one that fails.
pub finite_all : (L : Line → Type 0) → Finite L → (P : Line → Type 0) → ((l : Line) → Dec (P l)) → Dec ((l : Line) → L l → P l)
finite_all L F P d = go (F (λ l. ¬ P l) (λ l. dec_not (d l)))
  where
    stable : (l : Line) → Dec (P l) → ¬ (¬ P l) → P l
    stable l (yes p) n = p
    stable l (no p) n = absurd (n p)

    go : Dec ((l : Line) × L l × (¬ P l)) → Dec ((l : Line) → L l → P l)
    go (yes t) = no (λ f. t.2 (f t.0 t.1))
    go (no n) = yes (λ l o. stable l (d l) (λ p. n (l, o, p)))

module _ (L : Line → Type 0) (F : Finite L) (R : Field → Field → Type 0) (d : (x y : Field) → Dec (R x y)) where
  pub dec_reply : (c : ℕ) (x b : Field) → Dec (Reply L R c x b)
  dec_reply c x b =
      map_dec (λ t. record { line = t.0; on = t.1; can = t.2.0.0; same = t.2.0.1; rel = t.2.1 })
      (λ r. (r.line, r.on, ((r.can, r.same), r.rel)))
      (F (λ m. ((0 < b m.kind) × (m.code ≡ c)) × R x (fire m b))
      (λ m. dec_and (dec_and (dec_lt 0 (b m.kind)) (ℕ_discrete m.code c)) (d x (fire m b))))

  pub dec_sim : (a b : Field) → Dec (Simulates L R a b)
  dec_sim a b =
      finite_all L F (λ l. 0 < a l.kind → Reply L R l.code (fire l a) b)
      (λ l. dec_implies (dec_lt 0 (a l.kind)) (dec_reply l.code (fire l a) b))

pub dec_expands : (L : Line → Type 0) → Finite L → (R : Field → Field → Type 0) → ((x y : Field) → Dec (R x y)) → (a b : Field) → Dec (Expands L R a b)
dec_expands L F R d a b = dec_and (dec_sim L F R d a b) (dec_sim L F (flip R) (λ x y. d y x) b a)

module _ (N : Normed) (F : Finite N.on) where
  pub low_finite : Finite (Low N)
  low_finite = finite_and N.on (λ l. norm N l.left < N.w l.kind) F (λ l. dec_lt (norm N l.left) (N.w l.kind))

  pub dec_down : (P : Field → Field → Type 0) → ((x y : Field) → Dec (P x y)) → (f : ℕ) (a b : Field) → Dec (down N P f a b)
  unfolding down
  dec_down P d zero a b = d a b
  dec_down P d (suc f) a b = dec_and (d a b) (dec_expands (Low N) low_finite (down N P f) (dec_down P d f) a b)

  pub dec_alike : (a b : Field) → Dec (Alike N a b)
  dec_alike a b = dec_and (ℕ_discrete (norm N a) (norm N b)) (ℕ_discrete (extra N a) (extra N b))

  pub dec_next : (R : Field → Field → Type 0) → ((x y : Field) → Dec (R x y)) → (a b : Field) → Dec (Next N R a b)
  dec_next R d a b = dec_and (d a b) (dec_expands N.on F R d a b)

  pub dec_level : (s : ℕ) (a b : Field) → Dec (level N s a b)
  unfolding level
  dec_level zero a b = dec_down (Alike N) dec_alike (norm N a) a b
  dec_level (suc s) a b = dec_down (Next N (level N s)) (dec_next (level N s) (dec_level s)) (norm N a) a b

  pub dec_stage : (s : ℕ) (a b : Field) → Dec (Stage N s a b)
  unfolding Stage
  dec_stage zero a b = dec_alike a b
  dec_stage (suc s) a b = dec_level s a b

  pub dec_holds_is : (r : ℕ) (a b : Field) → Dec (FineHolds N r a b)
  unfolding FineHolds
  dec_holds_is zero a b = ℕ_discrete (extra N a) (extra N b)
  dec_holds_is (suc r) a b = dec_and (ℕ_discrete (extra N a) (extra N b)) (dec_expands N.on F (FineHolds N r) (dec_holds_is r) a b)
