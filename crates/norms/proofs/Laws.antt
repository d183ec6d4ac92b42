-- What holds of a sheet that was read, and of its norms.
use mathlib.Core.Bool.{Bool}
use mathlib.Core.List.{List}
use mathlib.Core.Path.{◌≡◌, refl, sym, ◌∙◌, ap, ap₂}
use Prim.Native.Nat.{ℕ, ◌^◌, ◌≤◌, ◌<◌}
use native.Mathlib.Decide.{dec_lt}
use native.Mathlib.Omega.{arith}
use lib.ListN.{length}
use Rattle.model.specs.Field.{Field, weigh, at}
use Rattle.model.specs.Card.{Line, Reached, reached}
use Rattle.model.specs.Norm.{kind_norm, norm}
use Rattle.model.specs.Sheet.{byte, kind_count, line_of, card_of}
use Rattle.model.specs.Limits.{most_kinds, norm_limit}
use Rattle.theory.proofs.Sheets.{norm_tells, under_kinds}
use Rattle.theory.proofs.Gain.{sheet_norms}
use Rattle.theory.proofs.Limits.{limit_of}
use Rattle.sheet.specs.Reader.{Reads, line_counts}
use Rattle.sheet.specs.declared.reader.Card.{Card}
use Rattle.sheet.proofs.Laws.{kinds_are, kinds_most, card_kinds, kind_under, left_under, line_counts_length, line_counts_at}
use Rattle.norms.specs.Norms.{Accepts, norms_of}
use Rattle.weights.proofs.Bounds.{counts_fit}
use Rattle.norms.proofs.Arrays.{array_at}

-- Whether a line is of a reached kind.
abbrev pub in_reach : List ℕ → Line → Bool
in_reach s l = reached (card_of s) l.kind

-- What is made of the part that holds a line's counts is made of what the line leaves.
module _ {s : List ℕ} {c : Card} (R : Reads s c) (j : ℕ) (xs : List ℕ) (part : xs ≡ line_counts s j) where
  pub part_long : length xs ≡ c.kinds
  part_long = ap length part ∙ line_counts_length s j ∙ sym (kinds_are R)

  pub part_short : length xs ≤ most_kinds
  part_short = omega (arith, part_long, kinds_most R)

  pub part_left : {A : Type 0} (f : ℕ → Field → A) → f (length xs) (at xs) ≡ f c.kinds (line_of s j).left
  part_left f = ap₂ f part_long (ap at part ∙ line_counts_at s j)

-- The kind of a line is one of the most there are.
pub kind_most : {s : List ℕ} {c : Card} (R : Reads s c) (j : ℕ) → j < c.lines → (line_of s j).kind < most_kinds
kind_most R j h = omega (arith, kind_under R j h, kinds_most R)

-- No kind past the card's has a norm.
pub kind_norm_past : {s : List ℕ} {c : Card} (R : Reads s c) (k : ℕ) → c.kinds ≤ k → kind_norm (card_of s) k ≡ 0
kind_norm_past {s} {c} R k h = go (dec_lt 0 (kind_norm (card_of s) k))
  where
    go : Dec (0 < kind_norm (card_of s) k) → kind_norm (card_of s) k ≡ 0
    go (yes p) = absurd (omega (arith, under_kinds s k ((sheet_norms s R.passed).kinds k p).0, kinds_are R))
    go (no p) = omega arith

-- Of an accepted sheet, its card and its norms.
module _ {s : List ℕ} {c : Card} {norms : List ℕ} (A : Accepts s c norms) where
  -- The array's numbers are the norms of the kinds.
  pub norms_at : at norms ≡ kind_norm (card_of s)
  unfolding norms_of
  norms_at = ap at A.norms_are ∙ array_at most_kinds (kind_norm (card_of s)) (λ k h. kind_norm_past A.reads k (omega (arith, kinds_most A.reads)))

  pub norm_at : (k : ℕ) → at norms k ≡ kind_norm (card_of s) k
  norm_at k = ap (λ (f : Field). f k) norms_at

  -- A kind has a norm in the array just when it is reached.
  pub norm_positive : (k : ℕ) → Reached (card_of s) k → 0 < at norms k
  norm_positive k h = omega (arith, norm_at k, (norm_tells s A.accepted k).1 h)

  pub norm_reached : (k : ℕ) → 0 < at norms k → Reached (card_of s) k
  norm_reached k h = (norm_tells s A.accepted k).0 (omega (arith, norm_at k))

  pub norm_most : (k : ℕ) → at norms k ≤ norm_limit
  norm_most k = go (dec_lt k (kind_count s))
    where
      go : Dec (k < kind_count s) → at norms k ≤ norm_limit
      go (yes h) = omega (arith, norm_at k, limit_of s A.accepted k h)
      go (no h) = omega (arith, norm_at k, kind_norm_past A.reads k (omega (arith, kinds_are A.reads)))

  -- The sum by the array's numbers is the norm.
  pub norm_is : (a : Field) → weigh c.kinds (at norms) a ≡ norm (card_of s) a
  norm_is a = rw (norms_at, ← card_kinds A.reads) refl

  -- The norm of a field of two-byte counts fits 64 bits.
  pub norm_fits : (a : Field) → ((k : ℕ) → a k ≤ 65535) → weigh c.kinds (at norms) a < 2 ^ 64
  norm_fits a h = counts_fit c.kinds (at norms) a (kinds_most A.reads) (λ k. omega (arith, norm_most k)) h

  -- The norm of a line's part of the sheet's bytes fits 64 bits, and is the norm of what the line leaves.
  module _ (j : ℕ) (xs : List ℕ) (part : xs ≡ line_counts s j) where
    pub part_fits : ((k : ℕ) → byte s k < 256) → weigh (length xs) (at norms) (at xs) < 2 ^ 64
    part_fits bytes =
        rw (part_left A.reads j xs part (λ n a. weigh n (at norms) a))
        (norm_fits (line_of s j).left (λ k. omega (arith, left_under s j bytes k)))

    pub part_norm : weigh (length xs) (at norms) (at xs) ≡ norm (card_of s) (line_of s j).left
    part_norm = part_left A.reads j xs part (λ n a. weigh n (at norms) a) ∙ norm_is (line_of s j).left
