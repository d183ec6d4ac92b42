-- Laws of the tokens of a field, added up kind by kind.
use mathlib.Core.List.{List}
use mathlib.Core.Path.{◌≡◌, refl, ap}
use Prim.Native.Nat.{ℕ, ◌+◌}
use native.Mathlib.Omega.{arith}
use Rattle.model.specs.Field.{Field, weigh, tokens}
use Rattle.model.specs.Sense.{total}
use Rattle.model.specs.Sheet.{kind_count, card_of}
use Rattle.theory.proofs.Field.{weigh_next}

-- No kind, and one kind more.
pub tokens_none : (a : Field) → 0 ≡ tokens 0 a
unfolding weigh
tokens_none a = refl

pub tokens_next : (a : Field) (k : ℕ) {sum : ℕ} → sum ≡ tokens k a → sum + a k ≡ tokens (k + 1) a
tokens_next a k e = omega (arith, e, weigh_next k (λ _. 1) a)

-- All kinds of a sheet.
pub tokens_all : (s : List ℕ) (a : Field) {k : ℕ} → k ≡ kind_count s → tokens k a ≡ total (card_of s) a
unfolding card_of
tokens_all s a e = ap (λ (n : ℕ). tokens n a) e
