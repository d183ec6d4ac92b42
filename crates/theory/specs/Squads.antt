-- What is claimed of squads, of a whole and a squad on an accepted sheet. In quotes stand sentences of document 02 (its request 5).
use Rattle.std.specs.Prelude.{List, ◌↔◌, ◌≡◌, ℕ, ◌+◌, ◌*◌, ◌≤◌, ◌<◌}
use Rattle.model.specs.Field.{Field, ◌⊕◌, times, at, tokens}
use Rattle.model.specs.Card.{Card, On}
use Rattle.model.specs.Norm.{norm}
use Rattle.model.specs.Base.{settled_form}
use Rattle.model.specs.Sheet.{kind_count, card_of, field_of}
use Rattle.model.specs.Answer.{prime_form, squad_count, remainder_form}
use Rattle.theory.specs.Expansion.{Bisimilar}
use Rattle.theory.specs.Terms.{OfKinds, Prime}

-- "the whole is the same as q squads joined with" this field.
abbrev pub Joined {ℓ} : Card → Field → Field → ℕ → Field → Type (ℓ + 1)
Joined c whole squad q x = Bisimilar {ℓ} (On c) whole (times q squad ⊕ x)

-- "the largest q such that the whole is the same as q squads joined with some remainder": there is a remainder that goes with q squads, and none, whatever field it is, that goes with more.
pub record IsLargest {ℓ} (c : Card) (whole squad : Field) (q : ℕ) : Type (ℓ + 1) where
  pub some_remainder : (x : Field) × Joined {ℓ} c whole squad q x
  pub no_larger : (m : ℕ) (x : Field) → Joined {ℓ} c whole squad m x → m ≤ q

-- Of the fields i and j of an accepted sheet, the whole and the squad.
pub record Squads {ℓ} (s : List ℕ) (i j : ℕ) : Type (ℓ + 1) where
  -- The number answered is the largest q, and no other number is.
  pub largest : 0 < tokens (kind_count s) (field_of s j) → (q : ℕ) → (squad_count s i j ≡ q) ↔ IsLargest {ℓ} (card_of s) (field_of s i) (field_of s j) q
  -- The whole is bisimilar to so many squads joined with what is written.
  pub joined : Joined {ℓ} (card_of s) (field_of s i) (field_of s j) (squad_count s i j) (at (remainder_form s i j))
  -- "that remainder's prime form": it holds prime kinds only, and is the prime form of every remainder that goes with so many squads.
  pub primes : (k : ℕ) → 0 < at (remainder_form s i j) k → Prime {ℓ} (card_of s) k
  pub form : (x : Field) → OfKinds (card_of s) x → Joined {ℓ} (card_of s) (field_of s i) (field_of s j) (squad_count s i j) x
      → settled_form (card_of s) x ≡ at (remainder_form s i j)
  -- "The remainder is exact: q squads and it give the whole's prime form",
  pub exact : (k : ℕ) → squad_count s i j * at (prime_form s j) k + at (remainder_form s i j) k ≡ at (prime_form s i) k
  -- "and no other prime form does so with that q": no other field adds up to it, and no other of prime kinds is a remainder of so many squads.
  pub no_other : (x : Field) → ((k : ℕ) → squad_count s i j * at (prime_form s j) k + x k ≡ at (prime_form s i) k) → x ≡ at (remainder_form s i j)
  pub no_other_joined : (x : Field) → ((k : ℕ) → 0 < x k → Prime {ℓ} (card_of s) k) → Joined {ℓ} (card_of s) (field_of s i) (field_of s j) (squad_count s i j) x
      → x ≡ at (remainder_form s i j)
  -- "17 a squad that is empty": it would go in any number of times, so that no number is the largest.
  pub empty : tokens (kind_count s) (field_of s j) ≡ 0 → (q : ℕ) → ¬ IsLargest {ℓ} (card_of s) (field_of s i) (field_of s j) q
  -- The number is at most the whole's norm, and no count is over that of the whole's prime form: 64 bits hold them (`Widths.field_norm`, `written_count`).
  pub small : (squad_count s i j ≤ norm (card_of s) (field_of s i)) × ((k : ℕ) → at (remainder_form s i j) k ≤ at (prime_form s i) k)
