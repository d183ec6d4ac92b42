-- What the answers mean: demand 1 and the sentences of document 02 on how common each answer is (request 8), said of what the call returns and of what it leaves in the lent buffer.
use mathlib.Core.List.{List, Memᴰ}
use Rattle.std.specs.Prelude.{Result, Ok, ◌↔◌, ◌≡◌, ℕ, suc, ◌+◌, ◌≤◌, ◌<◌, length, get_or, take}
use Rattle.model.specs.Sense.{plain}
use Rattle.model.specs.Finite.{sum}
use Rattle.model.specs.Field.{Field, none, at, tokens}
use Rattle.model.specs.Card.{On, reached_count}
use Rattle.model.specs.Limits.{most_tokens, most_listed, Limits}
use Rattle.model.specs.Shelf.{entry}
use Rattle.model.specs.Sheet.{kind_count, field_count, card_of, field_of}
use Rattle.model.specs.Refusal.{refusal, first_of, frequencies_checks}
use Rattle.model.specs.Answer.{given, Verdict, compare_of, verdict_place, frequencies_of}
use Rattle.theory.specs.Expansion.{Bisimilar}
use Rattle.theory.specs.Terms.{StageIn}
use Rattle.theory.specs.Frequencies.{OfSize}
use Rattle.refusals.specs.declared.Refusal.{Refusal}
use Rattle.refusals.specs.Refusals.{finding_of, answer_of}

-- "how many": n is the length of a list, without repeats, of the fields that have a property and of no others.
pub record HowMany {ℓ} (P : Field → Type ℓ) (n : ℕ) : Type ℓ where
  pub fields : List Field
  pub has : (b : Field) → Memᴰ b fields ↔ P b
  pub once : (x y : ℕ) → x < y → y < length fields → ¬ (get_or fields x none ≡ get_or fields y none)
  pub many : length fields ≡ n

-- Frequencies, of the bytes s, a field i, a size t and a lent buffer: its answer, and the buffer afterwards.
pub record FrequenciesAnswers (s : List ℕ) (i t : ℕ) (buffer : List ℕ) (answer : Result (Unit {0}) Refusal) (after : List ℕ) : Type 0 where
  -- Demand 1: written just when the sheet is within the written limits and has the field, the size is at most 16, its entry at most 65,536 and the buffer has room for n + 2 counts.
  pub answered : (answer ≡ Ok tt)
      ↔ (Limits s × (i < field_count s) × (t ≤ most_tokens) × (entry (reached_count (card_of s)) t ≤ most_listed) × (kind_count s + 2 ≤ length buffer))
  -- Demand 1: every other input gets the first number that applies in the table, and nothing lent changes.
  pub refused : (k p : ℕ) → (finding_of answer ≡ refusal k p) ↔ (first_of (frequencies_checks s i t (length buffer)) ≡ refusal k p)
  pub unchanged : (k p : ℕ) → finding_of answer ≡ refusal k p → after ≡ buffer
  -- "Bytes of a lent buffer past those named keep their values."
  pub past : (e : ℕ) → kind_count s + 2 ≤ e → at after e ≡ at buffer e
  pub long : length after ≡ length buffer

-- Of a call that has written, the n + 2 counts that the buffer then begins with, with bisimulations of every universe.
pub record FrequenciesMean {ℓ} (s : List ℕ) (i t : ℕ) (after : List ℕ) : Type (ℓ + 1) where
  -- "how many of the fields of t tokens are the same as it", "same first": the fields of t tokens of the reached kinds that are bisimilar to field i.
  pub same : HowMany (λ b. OfSize (card_of s) t b × Bisimilar {ℓ} (On (card_of s)) (field_of s i) b) (at after 0)
  -- "how many part from it at each stage from 0 to n": those that this stage does not relate to field i, and every stage before it does.
  pub parted : (q : ℕ) → q ≤ kind_count s
      → HowMany (λ b. OfSize (card_of s) t b × (¬ StageIn plain (card_of s) q (field_of s i) b) × ((r : ℕ) → r < q → StageIn plain (card_of s) r (field_of s i) b)) (at after (suc q))
  -- "so the counts add to the table's entry for the reached kinds and t."
  pub adds : sum (take (kind_count s + 2) after) ≡ entry (reached_count (card_of s)) t

-- The promises. Each takes the equations of a call's contract, and says what they mean.
pub record Promises {ℓ} : Type (ℓ + 1) where
  pub frequencies_answers : (s : List ℕ) (i t : ℕ) (buffer : List ℕ) (answer : Result (Unit {0}) Refusal) (after : List ℕ)
      → answer_of (λ x. tt) answer ≡ (frequencies_of s i t buffer).answer → after ≡ (frequencies_of s i t buffer).lent → FrequenciesAnswers s i t buffer answer after
  pub frequencies_mean : (s : List ℕ) (i t : ℕ) (buffer : List ℕ) (answer : Result (Unit {0}) Refusal) (after : List ℕ)
      → answer_of (λ x. tt) answer ≡ (frequencies_of s i t buffer).answer → after ≡ (frequencies_of s i t buffer).lent → answer ≡ Ok tt → FrequenciesMean {ℓ} s i t after
  -- Of what Compare answers for the field and a field j of t tokens of the same sheet: field j counts at the place of that answer.
  pub compared : (s : List ℕ) (i j t : ℕ) (buffer : List ℕ) (answer : Result (Unit {0}) Refusal) (after : List ℕ) (v : Verdict)
      → answer_of (λ x. tt) answer ≡ (frequencies_of s i t buffer).answer → after ≡ (frequencies_of s i t buffer).lent → answer ≡ Ok tt
      → compare_of s i j ≡ given v → tokens (kind_count s) (field_of s j) ≡ t → 0 < at after (verdict_place v)
