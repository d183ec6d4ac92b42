-- What a reply comes to: refused, refused for want of room, or given.
use mathlib.Core.Bool.{Bool, true, false}
use mathlib.Core.List.{List}
use mathlib.Core.Path.{◌≡◌, refl, sym, ap}
use Prim.Native.Nat.{ℕ, ◌≤◌, ◌<◌}
use native.Mathlib.Omega.{arith}
use lib.Dec.{ltb}
use lib.ListN.{length}
use Rattle.model.specs.Answer.{Answer, refused, given, written}
use Rattle.theory.proofs.Exec.{Tells, tells_lt}
use Rattle.arrays.specs.Reply.{Reply, refusing, reply_of}

-- The parts of a call that comes to y.
module _ {B : Type 0} {x y : Reply B} (e : x ≡ y) where
  pub code_is : y.code ≡ x.code
  code_is = ap (λ (z : Reply B). z.code) (sym e)

  pub lent_is : y.lent ≡ x.lent
  lent_is = ap (λ (z : Reply B). z.lent) (sym e)

  pub values_are : y.values ≡ x.values
  values_are = ap (λ (z : Reply B). z.values) (sym e)

module _ {B : Type 0} (before after : B) (array : List ℕ) where
  pub reply_refuses : (x : Answer (List ℕ)) (k p : ℕ) → x ≡ refused k p → reply_of x before after array ≡ refusing k p before array
  unfolding reply_of
  reply_refuses x k p e = rw e refl

  module _ (xs : List ℕ) where
    abbrev ByRoom : Bool → Reply B
    ByRoom b = elim b as (λ _. Reply B) [ true ↦ refusing 12 0 before array | false ↦ record { code = 0; lent = after; values = written xs array } ]

    pub reply_short : (x : Answer (List ℕ)) → x ≡ given xs → length array < length xs → reply_of x before after array ≡ refusing 12 0 before array
    unfolding reply_of
    reply_short x e h = rw e (go (ltb (length array) (length xs)) (tells_lt (length array) (length xs)))
      where
        go : (b : Bool) → Tells b (length array < length xs) → ByRoom b ≡ refusing 12 0 before array
        go true t = refl
        go false t = absurd (t.test h)

    pub reply_gives : (x : Answer (List ℕ)) → x ≡ given xs → length xs ≤ length array → reply_of x before after array ≡ record { code = 0; lent = after; values = written xs array }
    unfolding reply_of
    reply_gives x e h = rw e (go (ltb (length array) (length xs)) (tells_lt (length array) (length xs)))
      where
        go : (b : Bool) → Tells b (length array < length xs) → ByRoom b ≡ record { code = 0; lent = after; values = written xs array }
        go true t = absurd (omega (arith, t.fact tt))
        go false t = refl
