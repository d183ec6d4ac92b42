-- Laws of fields as lists of counts: one token less, counts added, and how far the counts grow.
use mathlib.Core.List.{List}
use mathlib.Core.Path.{◌≡◌, ap, fun_ext, ◌∙◌}
use Prim.Native.Nat.{ℕ, ◌+◌, ◌-◌, ◌^◌, ◌≤◌, ◌<◌}
use native.Mathlib.Decide.{ℕ_discrete}
use native.Mathlib.Omega.{arith}
use lib.ListN.{length, set}
use lib.Seq.{get_or-set_same, get_or-set_other}
use Rattle.model.specs.Field.{Field, unit, ◌⊕◌, at}
use Rattle.model.specs.Card.{Line, fire}
use Rattle.model.specs.Limits.{most_rounds}
use Rattle.theory.proofs.Field.{unit_same, unit_other}
use Rattle.sheet.specs.Reader.{Reads, field_counts}
use Rattle.sheet.specs.declared.reader.Card.{Card}
use Rattle.sheet.proofs.Laws.{Bytes, field_under, field_counts_at, field_counts_length}
use Rattle.moves.specs.Lines.{Bounded}

-- A field without a token of kind k has none to lose.
pub less_none : (a : List ℕ) (k : ℕ) → at a k ≡ 0 → at a ≡ (λ j. at a j - unit k j)
less_none a k e = fun_ext (λ j. go j (ℕ_discrete j k))
  where
    go : (j : ℕ) → Dec (j ≡ k) → at a j ≡ at a j - unit k j
    go j (yes d) = omega (arith, ap (at a) d)
    go j (no d) = omega (arith, unit_other k j d)

pub less_set : (a : List ℕ) (k : ℕ) → k < length a → at (set a k (at a k - 1)) ≡ (λ j. at a j - unit k j)
less_set a k h = fun_ext (λ j. go j (ℕ_discrete j k))
  where
    go : (j : ℕ) → Dec (j ≡ k) → at (set a k (at a k - 1)) j ≡ at a j - unit k j
    go j (yes d) = rw d (omega (arith, get_or-set_same a k (at a k - 1) 0 h, unit_same k))
    go j (no d) = omega (arith, get_or-set_other a k j (at a k - 1) 0 d, unit_other k j d)

-- The counts do not grow where a token goes.
pub less_bounded : (r k : ℕ) (a rest : List ℕ) → at rest ≡ (λ j. at a j - unit k j) → length rest ≡ length a → Bounded r a → Bounded r rest
less_bounded r k a rest e kept h = record { long = kept ∙ h.long; most = λ j. omega (arith, ap (λ (f : Field). f j) e, h.most j) }

-- A line's counts are bytes, so that the sums stay small.
pub addable : (l : Line) (rest counts : List ℕ) → at counts ≡ l.left → ((k : ℕ) → l.left k < 256) → Bounded 1 rest → (k : ℕ) → at rest k + at counts k < 2 ^ 32
addable l rest counts e b h k = omega (arith, ap (λ (f : Field). f k) e, b k, h.most k)

-- The two steps of a line's use.
pub fired : (l : Line) (kind : ℕ) (a rest counts sum : List ℕ) → kind ≡ l.kind → at rest ≡ (λ j. at a j - unit kind j) → at counts ≡ l.left
    → at sum ≡ at rest ⊕ at counts → at sum ≡ fire l (at a)
fired l kind a rest counts sum e d f g =
    g
    ∙ fun_ext (λ j. omega (arith, ap (λ (f : Field). f j) d, ap (λ (k : ℕ). unit k j) e, ap (λ (f : Field). f j) f))

-- One round fewer is left, and a line's counts are bytes.
pub fire_bounded : (r : ℕ) (l : Line) (a sum : List ℕ) → r < most_rounds → ((k : ℕ) → l.left k < 256) → at sum ≡ fire l (at a) → length sum ≡ length a → Bounded (r + 1) a → Bounded r sum
fire_bounded r l a sum p q e kept h = record { long = kept ∙ h.long; most = λ j. omega (arith, ap (λ (f : Field). f j) e, h.most j, q j) }

-- With more rounds left the counts are smaller.
pub bounded_less : (r q : ℕ) (a : List ℕ) → q ≤ r → Bounded r a → Bounded q a
bounded_less r q a p h = record { long = h.long; most = λ j. omega (arith, h.most j) }

-- A field of the sheet is of counts of two bytes.
pub field_bounded : {s : List ℕ} {card : Card} (read : Reads s card) (i : ℕ) (a : List ℕ) → a ≡ field_counts s i → Bytes s → Bounded most_rounds a
field_bounded {s} read i a e b =
    record {
      long = ap length e ∙ field_counts_length s i;
      most = λ k. omega (arith, ap (λ (f : Field). f k) (ap at e ∙ field_counts_at read i), field_under s i b k);
    }
