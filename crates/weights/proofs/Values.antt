-- The values of reads, and the lesser of two.
use mathlib.Core.Bool.{Bool, true, false}
use mathlib.Core.List.{List, ◌∷◌}
use mathlib.Core.Path.{◌≡◌, refl, sym, ◌∙◌, ap}
use Prim.Native.Nat.{ℕ, suc, ◌<◌, min}
use native.Mathlib.Decide.{ℕ_discrete}
use native.Mathlib.Omega.{arith}
use borrow.Author.Tests.{eq-eqb, ne_eqb}
use lib.Dec.{eqb}
use Rattle.model.specs.Finite.{both}
use Rattle.model.specs.Field.{Field, weigh}
use Rattle.model.specs.Card.{Line}
use Rattle.model.specs.Norm.{ready, sooner, best}
use Rattle.weights.specs.Value.{read_value, lesser_of}

-- The value of a read.
pub read_missing : (n : ℕ) (w : ℕ → ℕ) (a : Field) → ready n w a ≡ false → read_value n w a ≡ 0
unfolding read_value
read_missing n w a e = rw (e, read_value)

pub read_ready : (n : ℕ) (w : ℕ → ℕ) (a : Field) → ready n w a ≡ true → read_value n w a ≡ suc (weigh n w a)
unfolding read_value
read_ready n w a e = rw (e, read_value)

-- The lesser of two values.
pub lesser_right : (x y : ℕ) → x ≡ 0 → lesser_of x y ≡ y
unfolding lesser_of
lesser_right x y e = rw (eq-eqb x 0 e, lesser_of)

pub lesser_sooner : (x y : ℕ) → 0 < x → lesser_of x y ≡ sooner x y
unfolding lesser_of
lesser_sooner x y h = rw (ne_eqb x 0 (λ e. omega arith), lesser_of)

pub lesser_left : (x y : ℕ) → ¬ (x ≡ 0) → y ≡ 0 → lesser_of x y ≡ x
unfolding lesser_of
lesser_left x y n e = rw (ne_eqb x 0 n, lesser_of, eq-eqb y 0 e, sooner)

pub lesser_both : (x y : ℕ) → ¬ (x ≡ 0) → ¬ (y ≡ 0) → lesser_of x y ≡ min x y
unfolding lesser_of
lesser_both x y n m = rw (ne_eqb x 0 n, lesser_of, ne_eqb y 0 m, sooner)

-- The value that a line gives kind k: that of a read by it, if it is a line of k.
unfoldable pub line_value : ℕ → (ℕ → ℕ) → ℕ → Line → ℕ
line_value n w k l = elim (eqb l.kind k) [ true ↦ read_value n w l.left | false ↦ 0 ]

pub line_other : (n : ℕ) (w : ℕ → ℕ) (k : ℕ) (l : Line) → ¬ (l.kind ≡ k) → line_value n w k l ≡ 0
unfolding line_value
line_other n w k l h = rw (ne_eqb l.kind k h, line_value)

pub line_own : (n : ℕ) (w : ℕ → ℕ) (k : ℕ) (l : Line) → l.kind ≡ k → line_value n w k l ≡ read_value n w l.left
unfolding line_value
line_own n w k l h = rw (eq-eqb l.kind k h, line_value)

-- The best value over the lines is the lesser of the first line's and the best of the rest.
pub best_first : (n : ℕ) (w : ℕ → ℕ) (k : ℕ) (l : Line) (ls : List Line) → best n w k (l ∷ ls) ≡ lesser_of (line_value n w k l) (best n w k ls)
unfolding best line_value read_value
best_first n w k l ls = go (eqb l.kind k) (ready n w l.left)
  where
    rest : ℕ
    rest = best n w k ls

    go : (b d : Bool)
        → (elim (both b d) as (λ _. ℕ) [ true ↦ sooner (suc (weigh n w l.left)) rest | false ↦ rest ])
        ≡ lesser_of (elim b as (λ _. ℕ) [ true ↦ (elim d as (λ _. ℕ) [ true ↦ suc (weigh n w l.left) | false ↦ 0 ]) | false ↦ 0 ]) rest
    go true true = sym (lesser_sooner (suc (weigh n w l.left)) rest (omega arith))
    go true false = sym (lesser_right 0 rest refl)
    go false d = sym (lesser_right 0 rest refl)

min_cut : (x y z : ℕ) → min (min x y) z ≡ min (min x z) (min y z)
min_cut x y z = omega arith

-- Cutting at a limit comes to the same before and after.
pub lesser_cut : (limit x y : ℕ) → min (lesser_of x y) (suc limit) ≡ lesser_of (min x (suc limit)) (min y (suc limit))
lesser_cut limit x y = go (ℕ_discrete x 0) (ℕ_discrete y 0)
  where
    go : Dec (x ≡ 0) → Dec (y ≡ 0) → min (lesser_of x y) (suc limit) ≡ lesser_of (min x (suc limit)) (min y (suc limit))
    go (yes p) d = omega (arith, lesser_right x y p, lesser_right (min x (suc limit)) (min y (suc limit)) (omega arith))
    go (no p) (yes q) = omega (arith, lesser_left x y p q, lesser_left (min x (suc limit)) (min y (suc limit)) (λ z. omega arith) (omega arith))
    go (no p) (no q) =
        ap (λ z. min z (suc limit)) (lesser_both x y p q) ∙ min_cut x y (suc limit)
        ∙ sym (lesser_both (min x (suc limit)) (min y (suc limit)) (λ z. omega arith) (λ z. omega arith))
