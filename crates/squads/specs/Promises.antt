-- What the answers mean: demand 1 and the sentences of document 02 on squads (request 5), said of what the call returns and of what it leaves in the lent buffer.
use Rattle.std.specs.Prelude.{List, Result, Ok, ◌↔◌, ◌≡◌, ℕ, ◌+◌, ◌*◌, ◌≤◌, ◌<◌, length, take}
use Rattle.model.specs.Field.{Field, at, tokens}
use Rattle.model.specs.Base.{settled_form}
use Rattle.model.specs.Limits.{Limits}
use Rattle.model.specs.Sheet.{kind_count, field_count, card_of, field_of}
use Rattle.model.specs.Refusal.{refusal, first_of, squads_checks}
use Rattle.model.specs.Answer.{form_of, squads_of}
use Rattle.theory.specs.Terms.{OfKinds, Prime}
use Rattle.theory.specs.Squads.{Joined, IsLargest}
use Rattle.refusals.specs.declared.Refusal.{Refusal}
use Rattle.refusals.specs.Refusals.{finding_of, answer_of}

-- Squads, of the bytes s, the whole i, the squad j and a lent buffer: its answer, and the buffer afterwards.
pub record SquadsAnswers (s : List ℕ) (i j : ℕ) (buffer : List ℕ) (answer : Result ℕ Refusal) (after : List ℕ) : Type 0 where
  -- Demand 1: answered just when the sheet is within the written limits and has both fields, the squad is not empty and the buffer has room for n counts.
  pub answered : ((q : ℕ) × (answer ≡ Ok q))
      ↔ (Limits s × (i < field_count s) × (j < field_count s) × (0 < tokens (kind_count s) (field_of s j)) × (kind_count s ≤ length buffer))
  -- Demand 1: every other input gets the first number that applies in the table, and nothing lent changes.
  pub refused : (k p : ℕ) → (finding_of answer ≡ refusal k p) ↔ (first_of (squads_checks s i j (length buffer)) ≡ refusal k p)
  pub unchanged : (k p : ℕ) → finding_of answer ≡ refusal k p → after ≡ buffer
  -- "Bytes of a lent buffer past those named keep their values."
  pub past : (e : ℕ) → kind_count s ≤ e → at after e ≡ at buffer e
  pub long : length after ≡ length buffer

-- Of a call that answered q, and the n counts that the buffer then begins with, with bisimulations of every universe.
pub record SquadsMeans {ℓ} (s : List ℕ) (i j q : ℕ) (after : List ℕ) : Type (ℓ + 1) where
  -- "the largest q such that the whole is the same as q squads joined with some remainder"
  pub largest : IsLargest {ℓ} (card_of s) (field_of s i) (field_of s j) q
  -- The whole is bisimilar to q squads joined with what is written.
  pub joined : Joined {ℓ} (card_of s) (field_of s i) (field_of s j) q (at (take (kind_count s) after))
  -- "that remainder's prime form": it holds prime kinds only, and is the prime form of every remainder that goes with q squads.
  pub primes : (k : ℕ) → 0 < at (take (kind_count s) after) k → Prime {ℓ} (card_of s) k
  pub form : (x : Field) → OfKinds (card_of s) x → Joined {ℓ} (card_of s) (field_of s i) (field_of s j) q x → settled_form (card_of s) x ≡ at (take (kind_count s) after)
  -- "no other prime form does so with that q"
  pub no_other : (x : Field) → ((k : ℕ) → 0 < x k → Prime {ℓ} (card_of s) k) → Joined {ℓ} (card_of s) (field_of s i) (field_of s j) q x → x ≡ at (take (kind_count s) after)

-- The promises. Each takes the equations of a call's contract, and says what they mean.
pub record Promises {ℓ} : Type (ℓ + 1) where
  pub squads_answers : (s : List ℕ) (i j : ℕ) (buffer : List ℕ) (answer : Result ℕ Refusal) (after : List ℕ)
      → answer_of (λ q. q) answer ≡ (squads_of s i j buffer).answer → after ≡ (squads_of s i j buffer).lent → SquadsAnswers s i j buffer answer after
  pub squads_means : (s : List ℕ) (i j : ℕ) (buffer : List ℕ) (answer : Result ℕ Refusal) (after : List ℕ) (q : ℕ)
      → answer_of (λ q. q) answer ≡ (squads_of s i j buffer).answer → after ≡ (squads_of s i j buffer).lent → answer ≡ Ok q → SquadsMeans {ℓ} s i j q after
  -- "The remainder is exact: q squads and it give the whole's prime form, and no other prime form does so with that q": of what Prime form wrote for the whole and for the squad.
  pub squads_exact : (s : List ℕ) (i j : ℕ) (buffer whole squad : List ℕ) (answer : Result ℕ Refusal) (after after_whole after_squad : List ℕ) (q : ℕ)
      → answer_of (λ q. q) answer ≡ (squads_of s i j buffer).answer → after ≡ (squads_of s i j buffer).lent → answer ≡ Ok q
      → after_whole ≡ (form_of s i whole).lent → after_squad ≡ (form_of s j squad).lent → kind_count s ≤ length whole → kind_count s ≤ length squad
      → ((k : ℕ) → q * at (take (kind_count s) after_squad) k + at (take (kind_count s) after) k ≡ at (take (kind_count s) after_whole) k)
      × ((x : Field) → ((k : ℕ) → q * at (take (kind_count s) after_squad) k + x k ≡ at (take (kind_count s) after_whole) k) → x ≡ at (take (kind_count s) after))
