-- What the answers mean: demand 1 and the sentences of document 02 on shelf numbers (requests 2 and 6), said of what the calls return and of what Shelf field leaves in the lent buffer.
use Rattle.std.specs.Prelude.{List, Result, Ok, ◌↔◌, ◌≡◌, ℕ, ◌≤◌, ◌<◌, length, take}
use Rattle.model.specs.Field.{Field, at, tokens}
use Rattle.model.specs.Card.{Reached, reached_count}
use Rattle.model.specs.Limits.{most_tokens, Limits}
use Rattle.model.specs.Shelf.{entry, last_first}
use Rattle.model.specs.Sheet.{kind_count, field_count, card_of, field_of}
use Rattle.model.specs.Refusal.{Accepted, refusal, first_of, shelf_number_checks, shelf_field_checks}
use Rattle.model.specs.Answer.{shelf_number_of, shelf_field_of}
use Rattle.theory.specs.Terms.{OfKinds}
use Rattle.theory.specs.Shelves.{Precedes}
use Rattle.refusals.specs.declared.Refusal.{Refusal}
use Rattle.refusals.specs.Refusals.{finding_of, answer_of}
use Rattle.numbering.specs.Answers.{numbered, shelved}
use Rattle.numbering.specs.declared.answers.ShelfNumber.{ShelfNumber}

-- Shelf number, of the bytes s and a field number: its answer.
pub record NumberAnswers (s : List ℕ) (i : ℕ) (answer : Result ShelfNumber Refusal) : Type 0 where
  -- Demand 1: answered just when the sheet is within the written limits and the field is one of its fields, of at most 16 tokens.
  pub answered : ((t : ℕ) × (x : ℕ) × (answer ≡ Ok (numbered t x))) ↔ (Limits s × (i < field_count s) × (tokens (kind_count s) (field_of s i) ≤ most_tokens))
  -- Demand 1: every other input gets the first number that applies in the table.
  pub refused : (k p : ℕ) → (finding_of answer ≡ refusal k p) ↔ (first_of (shelf_number_checks s i) ≡ refusal k p)
  -- The size is the field's tokens, and the number is under the entry for it.
  pub size : (t x : ℕ) → answer ≡ Ok (numbered t x) → (t ≡ tokens (kind_count s) (field_of s i)) × (x < entry (reached_count (card_of s)) t)

-- Shelf field, of the bytes s, a size, a number and a lent buffer: its answer, and the buffer afterwards.
pub record FieldAnswers (s : List ℕ) (t x : ℕ) (buffer : List ℕ) (answer : Result (Unit {0}) Refusal) (after : List ℕ) : Type 0 where
  -- Demand 1: written just when the sheet is within the written limits, the size is at most 16, the number is under its entry and the buffer has room for n counts.
  pub answered : (answer ≡ Ok tt) ↔ (Limits s × (t ≤ most_tokens) × (x < entry (reached_count (card_of s)) t) × (kind_count s ≤ length buffer))
  -- Demand 1: every other input gets the first number that applies in the table, and nothing lent changes.
  pub refused : (k p : ℕ) → (finding_of answer ≡ refusal k p) ↔ (first_of (shelf_field_checks s t x (length buffer)) ≡ refusal k p)
  pub unchanged : (k p : ℕ) → finding_of answer ≡ refusal k p → after ≡ buffer
  -- "every number under the entry is used": the n counts that the buffer then begins with are a field of t tokens of the reached kinds.
  pub used : answer ≡ Ok tt → OfKinds (card_of s) (at (take (kind_count s) after)) × (tokens (kind_count s) (at (take (kind_count s) after)) ≡ t)
  -- "with k their number and every other count 0": the field has no token of a kind that is out.
  pub others : answer ≡ Ok tt → (k : ℕ) → ¬ Reached (card_of s) k → at (take (kind_count s) after) k ≡ 0
  -- "Bytes of a lent buffer past those named keep their values."
  pub past : (e : ℕ) → kind_count s ≤ e → at after e ≡ at buffer e
  pub long : length after ≡ length buffer

-- The promises. Each takes the equations of a call's contract, and says what they mean.
pub record Promises : Type 0 where
  pub number_answers : (s : List ℕ) (i : ℕ) (answer : Result ShelfNumber Refusal) → answer_of shelved answer ≡ shelf_number_of s i → NumberAnswers s i answer
  pub field_answers : (s : List ℕ) (t x : ℕ) (buffer : List ℕ) (answer : Result (Unit {0}) Refusal) (after : List ℕ)
      → answer_of (λ x. tt) answer ≡ (shelf_field_of s t x buffer).answer → after ≡ (shelf_field_of s t x buffer).lent → FieldAnswers s t x buffer answer after
  -- "At each size, field to number and number to field are each other's inverse": the size and the number that a field was given find that field.
  pub number_field : (s : List ℕ) (i t x : ℕ) (number : Result ShelfNumber Refusal) (buffer : List ℕ) (field : Result (Unit {0}) Refusal) (after : List ℕ)
      → answer_of shelved number ≡ shelf_number_of s i → answer_of (λ x. tt) field ≡ (shelf_field_of s t x buffer).answer → after ≡ (shelf_field_of s t x buffer).lent
      → number ≡ Ok (numbered t x) → kind_count s ≤ length buffer → (field ≡ Ok tt) × (at (take (kind_count s) after) ≡ field_of s i)
  -- "each other's inverse": the field found by a size and a number, wherever it stands on the sheet, is given that size and that number.
  pub field_number : (s : List ℕ) (i t x : ℕ) (number : Result ShelfNumber Refusal) (buffer : List ℕ) (field : Result (Unit {0}) Refusal) (after : List ℕ)
      → answer_of shelved number ≡ shelf_number_of s i → answer_of (λ x. tt) field ≡ (shelf_field_of s t x buffer).answer → after ≡ (shelf_field_of s t x buffer).lent
      → field ≡ Ok tt → i < field_count s → at (take (kind_count s) after) ≡ field_of s i → number ≡ Ok (numbered t x)
  -- "listed with the smaller count of the last kind first, then of the one before it, and so on, from number 0": of two numbers of a size, and of two fields of a size.
  pub field_order : (s : List ℕ) (t x y : ℕ) (first second : List ℕ) (before after : Result (Unit {0}) Refusal) (first_after second_after : List ℕ)
      → answer_of (λ x. tt) before ≡ (shelf_field_of s t x first).answer → first_after ≡ (shelf_field_of s t x first).lent → before ≡ Ok tt
      → answer_of (λ x. tt) after ≡ (shelf_field_of s t y second).answer → second_after ≡ (shelf_field_of s t y second).lent → after ≡ Ok tt
      → x < y → Precedes (last_first (card_of s)) (at (take (kind_count s) first_after)) (at (take (kind_count s) second_after))
  pub number_order : (s : List ℕ) (i j t x y : ℕ) (first second : Result ShelfNumber Refusal) → answer_of shelved first ≡ shelf_number_of s i → answer_of shelved second ≡ shelf_number_of s j
      → first ≡ Ok (numbered t x) → second ≡ Ok (numbered t y) → (x < y) ↔ Precedes (last_first (card_of s)) (field_of s i) (field_of s j)
  -- "how many fields there are": every field of t tokens of the reached kinds is found by a number under the entry.
  pub every_field : (s : List ℕ) → Accepted s → (t : ℕ) → t ≤ most_tokens → (a : Field) → OfKinds (card_of s) a → tokens (kind_count s) a ≡ t
      → (x : ℕ) × (x < entry (reached_count (card_of s)) t)
      × ((buffer after : List ℕ) → after ≡ (shelf_field_of s t x buffer).lent → kind_count s ≤ length buffer → at (take (kind_count s) after) ≡ a)
