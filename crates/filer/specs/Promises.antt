-- What the answers mean: the three demands, said of what the calls return and of what they leave in the lent buffers. Of Compare and Prime form they are said in each sense: document
-- 01's, and that of the finer services (request 7 of document 02).
use Rattle.std.specs.Prelude.{List, Result, Ok, [], ◌↔◌, ◌⊎◌, ◌≡◌, ℕ, ◌+◌, ◌-◌, ◌*◌, ◌≤◌, ◌<◌, min, max, length, take, drop}
use Rattle.model.specs.Field.{Field, none, unit, at}
use Rattle.model.specs.Card.{On, Reached, reached_count}
use Rattle.model.specs.Norm.{IsNorm}
use Rattle.model.specs.Sense.{Sense, plain, finer}
use Rattle.theory.specs.Expansion.{Expands, BisimilarIn}
use Rattle.model.specs.Base.{settled_stage}
use Rattle.theory.specs.Game.{Strategy, Challenge}
use Rattle.theory.specs.FinerGame.{HoldsIn, AlwaysIn, PartingIn, PartedIn, AnsweredIn}
use Rattle.model.specs.Sheet.{kind_count, field_count, card_of, field_of}
use Rattle.model.specs.Limits.{most_kinds, Limits}
use Rattle.model.specs.Refusal.{Accepted, refusal, first_of, settle_checks, settle_since_checks, compare_checks, form_checks, row_checks}
use Rattle.theory.specs.Terms.{IsGain, Stage, StageIn, BaseOf, Prime, PrimeIn, Settled as IsSettled}
use Rattle.model.specs.Answer.{settle_of, settle_since_of, compare_in, forming_in, row_of, row_check_of, table_of, marks_of, prime_form_in, written}
use Rattle.refusals.specs.declared.Refusal.{Refusal}
use Rattle.refusals.specs.Refusals.{finding_of, answer_of}
use Rattle.filer.specs.Answers.{verdict_of}
use Rattle.filer.specs.declared.answers.Verdict.{Verdict}
use Rattle.filer.specs.declared.answers.Verdict.TheVariants.{Same, Different, Refused as NotCalled}

-- Settle, of the bytes s and a lent table: its answer, and the table afterwards.
pub record SettleAnswers (s table : List ℕ) (answer : Result ℕ Refusal) (after : List ℕ) : Type 0 where
  -- Demand 1: "Every sheet within the written limits is settled".
  pub settled : Limits s → kind_count s * kind_count s ≤ length table → (answer ≡ Ok (settled_stage (card_of s))) × (after ≡ written (table_of s) table)
  -- Demand 1: "Every other sheet .. or short buffer gets the first number that applies in the table, and nothing lent changes."
  pub refused : (k p : ℕ) → (finding_of answer ≡ refusal k p) ↔ (first_of (settle_checks s (length table)) ≡ refusal k p)
  pub unchanged : (k p : ℕ) → finding_of answer ≡ refusal k p → after ≡ table
  -- "n × n of them"; "Bytes of a lent buffer past those named keep their values."
  pub size : length (table_of s) ≡ kind_count s * kind_count s
  pub past : (e : ℕ) → kind_count s * kind_count s ≤ e → at after e ≡ at table e
  pub long : length after ≡ length table

-- What Settle gives of an accepted sheet, in a table that is large enough.
pub record SettleMeans {ℓ} (s table : List ℕ) (answer : Result ℕ Refusal) (after : List ℕ) : Type (ℓ + 1) where
  -- "The settled stage is the least s from 1 up in which every related pair satisfies expansion; it is at most n", the number of reached kinds, or 1 where none is: "A sheet that reaches no
  -- kind settles at stage 1."
  pub stage : (t : ℕ) → answer ≡ Ok t → (1 ≤ t) × (t ≤ max 1 (reached_count (card_of s))) × IsSettled (card_of s) t × ((q : ℕ) → 1 ≤ q → q < t → ¬ IsSettled (card_of s) q)
  -- The rows that Row hands out of the table are "the final base", the base at that stage.
  pub base : (t : ℕ) → answer ≡ Ok t → BaseOf (card_of s) (Stage (card_of s) t) (λ k. at (row_of (kind_count s) k after))
  -- "Other kinds get a row of zeros."
  pub out : (k : ℕ) → k < kind_count s → ¬ Reached (card_of s) k → at (row_of (kind_count s) k after) ≡ none
  -- "A prime kind's row is itself once."
  pub prime : (k : ℕ) → k < kind_count s → (at (row_of (kind_count s) k after) ≡ unit k) ↔ Prime {ℓ} (card_of s) k

-- Settle with the marks (request 9 of document 02), of the bytes s, a lent table and a lent buffer for the marks: its answer, and the two afterwards.
pub record SinceAnswers (s table marks : List ℕ) (answer : Result ℕ Refusal) (after marked : List ℕ) : Type 0 where
  -- Demand 1: "Every sheet within the written limits is settled". The table and the buffer have room.
  pub given : Limits s → kind_count s * kind_count s ≤ length table → kind_count s ≤ length marks
      → (answer ≡ Ok (settled_stage (card_of s))) × (after ≡ written (table_of s) table) × (marked ≡ written (marks_of s) marks)
  -- Demand 1: "Every other sheet .. or short buffer gets the first number that applies in the table, and nothing lent changes."
  pub refused : (k p : ℕ) → (finding_of answer ≡ refusal k p) ↔ (first_of (settle_since_checks s (length table) (length marks)) ≡ refusal k p)
  pub unchanged : (k p : ℕ) → finding_of answer ≡ refusal k p → (after ≡ table) × (marked ≡ marks)
  -- "n × n of them", and a mark for each kind; "Bytes of a lent buffer past those named keep their values."
  pub size : (length (table_of s) ≡ kind_count s * kind_count s) × (length (marks_of s) ≡ kind_count s)
  pub past : (e : ℕ) → (kind_count s * kind_count s ≤ e → at after e ≡ at table e) × (kind_count s ≤ e → at marked e ≡ at marks e)
  pub long : (length after ≡ length table) × (length marked ≡ length marks)

-- What Settle with the marks gives of an accepted sheet, in a table and a buffer that are large enough. In quotes stand document 02's own words.
pub record SinceMeans {ℓ} (s table : List ℕ) (answer : Result ℕ Refusal) (after marked : List ℕ) : Type (ℓ + 1) where
  -- The answer and the table are those of Settle.
  pub settle : (answer_of (λ t. t) answer ≡ (settle_of s table).answer) × (after ≡ (settle_of s table).lent)
  -- The mark of a reached kind is a stage "from 1 up", and no later than the settled stage.
  pub from : (k : ℕ) → Reached (card_of s) k → 1 ≤ at marked k
  pub most : (t : ℕ) → answer ≡ Ok t → (k : ℕ) → Reached (card_of s) k → at marked k ≤ t
  -- "the first stage .. at which its row became the one finally settled": at that stage and at every later one the base gives the kind the row that Row hands out of the table; at no stage before,
  -- from 1 up, does it.
  pub stays : (k : ℕ) → Reached (card_of s) k → (q : ℕ) → at marked k ≤ q → (rows : ℕ → Field) → BaseOf (card_of s) (Stage (card_of s) q) rows → rows k ≡ at (row_of (kind_count s) k after)
  pub first : (k : ℕ) → Reached (card_of s) k → (q : ℕ) → 1 ≤ q → q < at marked k → (rows : ℕ → Field) → BaseOf (card_of s) (Stage (card_of s) q) rows
      → ¬ (rows k ≡ at (row_of (kind_count s) k after))
  -- "When did a kind become prime?" A prime kind is an atom of the base at a stage from 1 up just when that stage is its mark or a later one.
  pub prime : (k : ℕ) → Prime {ℓ} (card_of s) k → (q : ℕ) → 1 ≤ q → (rows : ℕ → Field) → BaseOf (card_of s) (Stage (card_of s) q) rows → (rows k ≡ unit k) ↔ (at marked k ≤ q)
  -- "A kind that is out has no such mark."
  pub out : (k : ℕ) → k < kind_count s → ¬ Reached (card_of s) k → at marked k ≡ 0

-- Row, of a lent table, n and a kind: what its check answers, and the part handed out.
pub record RowAnswers (n k : ℕ) (table : List ℕ) (answer : Result (Unit {0}) Refusal) (part : List ℕ) : Type 0 where
  -- "Row checks 2, 11, 12 only. A table is too short .. when it has fewer than n × n entries."
  pub taken : (answer ≡ Ok tt) ↔ ((1 ≤ n) × (n ≤ most_kinds) × (k < n) × (n * n ≤ length table))
  pub refused : (q p : ℕ) → (finding_of answer ≡ refusal q p) ↔ (first_of (row_checks n k (length table)) ≡ refusal q p)
  -- "The row of a kind is handed out as that part of the lent table": the n entries from k × n on.
  pub handed : answer ≡ Ok tt → part ≡ take n (drop (k * n) table)
  -- "the part is empty just when that check refuses"
  pub empty : (part ≡ []) ↔ ((q : ℕ) × (p : ℕ) × (finding_of answer ≡ refusal q p))

-- Compare, of the bytes s and two field numbers: its answer.
pub record CompareAnswers (s : List ℕ) (i j : ℕ) (answer : Verdict) : Type 0 where
  -- Demand 1: "any two of its fields are called same or different".
  pub called : Limits s → i < field_count s → j < field_count s → (answer ≡ Same) ⊎ ((t : ℕ) × (r : ℕ) × (answer ≡ Different t r))
  -- Demand 1: "Every other sheet, field number .. gets the first number that applies in the table".
  pub refused : (k p : ℕ) → (answer ≡ NotCalled k p) ↔ (first_of (compare_checks s i j) ≡ refusal k p)

-- Demand 2 of Compare, of fields i and j of an accepted sheet, with bisimulations of every universe.
pub record CompareMeans {ℓ} (sense : Sense) (s : List ℕ) (i j : ℕ) (answer : Verdict) : Type (ℓ + 1) where
  -- "Same means that some bisimulation of Hirshfeld, Jerrum and Moller relates them, and different that none does."
  pub same_means : (answer ≡ Same) ↔ BisimilarIn {ℓ} sense (card_of s) (field_of s i) (field_of s j)
  pub different_means : ((t : ℕ) × (r : ℕ) × (answer ≡ Different t r)) ↔ (¬ BisimilarIn {ℓ} sense (card_of s) (field_of s i) (field_of s j))

-- Demand 3 of Compare, one claim about whole games, of fields i and j of an accepted sheet.
pub record CompareGames (sense : Sense) (s : List ℕ) (i j : ℕ) (answer : Verdict) : Type 0 where
  -- "The two are called same exactly when, whatever list of challenges is given, however long and on whichever side each falls, every
  -- challenge can be answered, by replies that need not know what is still to come." The pair left after every such list holds at every r.
  pub same_plays : answer ≡ Same
      → (f : Strategy (card_of s)) × ((hs : List (Challenge (card_of s))) → AnsweredIn sense (card_of s) f (AlwaysIn sense (card_of s)) [] hs (field_of s i) (field_of s j))
  pub plays_same : (f : Strategy (card_of s))
      → ((hs : List (Challenge (card_of s))) → AnsweredIn sense (card_of s) f (λ _ _. Unit {0}) [] hs (field_of s i) (field_of s j)) → answer ≡ Same
  -- "Fields called same hold at every r. Each challenge to them has a reply that leaves a pair which again holds at every r".
  pub same_holds : answer ≡ Same → AlwaysIn sense (card_of s) (field_of s i) (field_of s j)
  pub same_again : answer ≡ Same → Expands (On (card_of s)) (AlwaysIn sense (card_of s)) (field_of s i) (field_of s j)
  -- "They are called different exactly when some choice of challenges, each made in view of the replies so far, parts them whatever the replies,
  -- and then within the number of rounds reported, which is N + 1 + (s - 1)(g + 1), or N + 1 if s is 0: N the smaller of the two norms, s the
  -- stage reported, never above the number of kinds, g the most that one read adds to a norm." The kinds are those that are reached.
  pub parted_different : PartingIn sense (card_of s) (field_of s i) (field_of s j) → (t : ℕ) × (r : ℕ) × (answer ≡ Different t r)
  pub different_parted : (t r : ℕ) → answer ≡ Different t r → PartingIn sense (card_of s) (field_of s i) (field_of s j) × PartedIn sense (card_of s) r (field_of s i) (field_of s j)
      × (¬ HoldsIn sense (card_of s) r (field_of s i) (field_of s j)) × (t ≤ reached_count (card_of s))
      × ((x : ℕ) × (y : ℕ) × (g : ℕ) × IsNorm (card_of s) (field_of s i) x × IsNorm (card_of s) (field_of s j) y × IsGain (card_of s) g
      × (t ≡ 0 → r ≡ min x y + 1) × (0 < t → r ≡ min x y + 1 + (t - 1) * (g + 1)))
  -- "The stage is the least that does not relate the pair."
  pub different_stage : (t r : ℕ) → answer ≡ Different t r
      → (¬ StageIn sense (card_of s) t (field_of s i) (field_of s j)) × ((q : ℕ) → q < t → StageIn sense (card_of s) q (field_of s i) (field_of s j))

-- Prime form, of the bytes s, a field number and a lent buffer: its answer, and the buffer afterwards.
pub record FormAnswers (sense : Sense) (s : List ℕ) (i : ℕ) (buffer : List ℕ) (answer : Result (Unit {0}) Refusal) (after : List ℕ) : Type 0 where
  -- Demand 1: "every prime form is written".
  pub formed : Limits s → i < field_count s → kind_count s ≤ length buffer → (answer ≡ Ok tt) × (after ≡ written (prime_form_in sense s i) buffer)
  -- Demand 1: "Every other sheet, field number .. or short buffer gets the first number that applies in the table, and nothing lent changes."
  pub refused : (k p : ℕ) → (finding_of answer ≡ refusal k p) ↔ (first_of (form_checks s i (length buffer)) ≡ refusal k p)
  pub unchanged : (k p : ℕ) → finding_of answer ≡ refusal k p → after ≡ buffer
  -- "n counts"; "Bytes of a lent buffer past those named keep their values."
  pub size : length (prime_form_in sense s i) ≡ kind_count s
  pub past : (e : ℕ) → kind_count s ≤ e → at after e ≡ at buffer e
  pub long : length after ≡ length buffer

-- Demand 2 of Prime form, of field i of an accepted sheet and a buffer that is large enough: the n counts that it then begins with.
pub record FormMeans {ℓ} (sense : Sense) (s : List ℕ) (i : ℕ) (after : List ℕ) : Type (ℓ + 1) where
  -- "A prime form holds prime kinds only, is bisimilar to its field".
  pub primes : (k : ℕ) → 0 < at (take (kind_count s) after) k → PrimeIn {ℓ} sense (card_of s) k
  pub bisimilar : BisimilarIn {ℓ} sense (card_of s) (field_of s i) (at (take (kind_count s) after))

-- The promises. Each takes the equations of a call's contract, and says what they mean.
pub record Promises {ℓ} : Type (ℓ + 1) where
  pub settle_answers : (s table : List ℕ) (answer : Result ℕ Refusal) (after : List ℕ)
      → answer_of (λ t. t) answer ≡ (settle_of s table).answer → after ≡ (settle_of s table).lent → SettleAnswers s table answer after
  pub settle_means : (s table : List ℕ) (answer : Result ℕ Refusal) (after : List ℕ)
      → answer_of (λ t. t) answer ≡ (settle_of s table).answer → after ≡ (settle_of s table).lent
      → Accepted s → kind_count s * kind_count s ≤ length table → SettleMeans {ℓ} s table answer after
  pub since_answers : (s table marks : List ℕ) (answer : Result ℕ Refusal) (after marked : List ℕ)
      → answer_of (λ t. t) answer ≡ (settle_since_of s table marks).answer → after ≡ (settle_since_of s table marks).table → marked ≡ (settle_since_of s table marks).marks
      → SinceAnswers s table marks answer after marked
  pub since_means : (s table marks : List ℕ) (answer : Result ℕ Refusal) (after marked : List ℕ)
      → answer_of (λ t. t) answer ≡ (settle_since_of s table marks).answer → after ≡ (settle_since_of s table marks).table → marked ≡ (settle_since_of s table marks).marks
      → Accepted s → kind_count s * kind_count s ≤ length table → kind_count s ≤ length marks → SinceMeans {ℓ} s table answer after marked
  pub row_answers : (n k : ℕ) (table : List ℕ) (answer : Result (Unit {0}) Refusal) (part : List ℕ)
      → finding_of answer ≡ row_check_of n k table → part ≡ row_of n k table → RowAnswers n k table answer part
  pub compare_answers : (sense : Sense) (s : List ℕ) (i j : ℕ) (answer : Verdict) → verdict_of answer ≡ compare_in sense s i j → CompareAnswers s i j answer
  pub compare_means : (sense : Sense) (s : List ℕ) (i j : ℕ) (answer : Verdict) → verdict_of answer ≡ compare_in sense s i j
      → Accepted s → i < field_count s → j < field_count s → CompareMeans {ℓ} sense s i j answer
  pub compare_games : (sense : Sense) (s : List ℕ) (i j : ℕ) (answer : Verdict) → verdict_of answer ≡ compare_in sense s i j
      → Accepted s → i < field_count s → j < field_count s → CompareGames sense s i j answer
  -- "finer same always implies same"
  pub finer_same : (s : List ℕ) (i j : ℕ) (answer finer_answer : Verdict) → verdict_of answer ≡ compare_in plain s i j → verdict_of finer_answer ≡ compare_in finer s i j
      → finer_answer ≡ Same → answer ≡ Same
  pub form_answers : (sense : Sense) (s : List ℕ) (i : ℕ) (buffer : List ℕ) (answer : Result (Unit {0}) Refusal) (after : List ℕ)
      → answer_of (λ x. tt) answer ≡ (forming_in sense s i buffer).answer → after ≡ (forming_in sense s i buffer).lent → FormAnswers sense s i buffer answer after
  pub form_means : (sense : Sense) (s : List ℕ) (i : ℕ) (buffer after : List ℕ) → after ≡ (forming_in sense s i buffer).lent
      → Accepted s → i < field_count s → kind_count s ≤ length buffer → FormMeans {ℓ} sense s i after
  -- Demand 2: a prime form "is equal for two fields just when they are the same".
  pub form_equal : (sense : Sense) (s : List ℕ) (i j : ℕ) (first second after_first after_second : List ℕ) (answer : Verdict)
      → after_first ≡ (forming_in sense s i first).lent → after_second ≡ (forming_in sense s j second).lent → verdict_of answer ≡ compare_in sense s i j
      → Accepted s → i < field_count s → j < field_count s → kind_count s ≤ length first → kind_count s ≤ length second
      → (take (kind_count s) after_first ≡ take (kind_count s) after_second) ↔ (answer ≡ Same)
