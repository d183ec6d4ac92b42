-- In the finer sense a row is one token: each kind is an atom, or is one token of an earlier atom.
use mathlib.Core.Path.{◌≡◌, sym, ◌∙◌, ap, fun_ext}
use Prim.Native.Nat.{ℕ, suc, ◌-◌, ◌<◌}
use native.Mathlib.Decide.{dec_lt}
use native.Mathlib.Omega.{arith}
use Rattle.model.specs.Field.{Field, ◌⊕◌, unit, weigh}
use Rattle.model.specs.Card.{Card, Reached}
use Rattle.model.specs.Norm.{kind_norm}
use Rattle.model.specs.Sense.{finer, total}
use Rattle.model.specs.Base.{stage_row_in}
use Rattle.theory.proofs.Field.{unit_same, unit_le, weigh_plus, weigh_unit, weigh_part, weigh_some}
use Rattle.theory.proofs.Stages.{level_cong}
use Rattle.theory.proofs.Count.{past_whole, level_base}
use Rattle.theory.proofs.Certified.{Found, under}
use Rattle.theory.proofs.Settling.{N, fin, row_of, row_kinds}

-- A field of kinds below n of one token is a unit.
one_token : (n : ℕ) (a : Field) → ((k : ℕ) → 0 < a k → k < n) → weigh n (λ _. 1) a ≡ 1 → (j : ℕ) × (j < n) × (a ≡ unit j)
one_token n a f e = (j, t.1, fun_ext (λ k. none k (dec_lt 0 (rest k))))
  where
    t : (k : ℕ) × (k < n) × (0 < a k) × (0 < 1)
    t = weigh_some n (λ _. 1) a (omega (arith, e))

    j : ℕ
    j = t.0

    rest : Field
    rest k = a k - unit j k

    split : unit j ⊕ rest ≡ a
    split = fun_ext (λ k. omega (arith, unit_le a j k t.2))

    empty : weigh n (λ _. 1) rest ≡ 0
    empty = omega (arith, weigh_plus n (λ _. 1) (unit j) rest, ap (weigh n (λ _. 1)) split, weigh_unit n (λ _. 1) j t.1)

    none : (k : ℕ) → Dec (0 < rest k) → a k ≡ unit j k
    none k (yes p) = absurd (omega (arith, weigh_part n (λ _. 1) rest k (f k (omega arith)), empty))
    none k (no p) = omega (arith, unit_le a j k t.2)

module _ (c : Card) (F : Found c (kind_norm c)) (q k : ℕ) (v : Reached c k) where
  h : k < c.kinds
  h = under c (kind_norm c) F k v

  row_total : total c (stage_row_in finer c (suc q) k) ≡ 1
  row_total =
      let M = N finer c F in
      let D = level_base M (fin finer c F) q in
      ap (total c) (row_of finer c F q k v)
      ∙ sym ((level_cong M q).extras (unit k) (D.row k) (D.rel k h (F.positive k v) (past_whole M (fin finer c F) k h)))
      ∙ weigh_unit c.kinds (λ _. 1) k h

  pub finer_row : (j : ℕ) × Reached c j × (stage_row_in finer c (suc q) k ≡ unit j)
  finer_row = go (one_token c.kinds (stage_row_in finer c (suc q) k) (λ j i. under c (kind_norm c) F j (row_kinds finer c F q k v j i)) row_total)
    where
      go : (j : ℕ) × (j < c.kinds) × (stage_row_in finer c (suc q) k ≡ unit j) → (j : ℕ) × Reached c j × (stage_row_in finer c (suc q) k ≡ unit j)
      go (j, l, e) = (j, row_kinds finer c F q k v j (omega (arith, ap (λ (f : Field). f j) e, unit_same j)), e)
