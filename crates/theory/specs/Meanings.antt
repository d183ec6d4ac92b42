-- What the terms that compute mean, in the words of document 01: each record is proved of every sheet that it speaks of.
use Rattle.std.specs.Prelude.{true, ◌↔◌, ◌≡◌, ℕ, suc, ◌+◌, ◌*◌, ◌/◌, ◌%◌, ◌≤◌, ◌<◌, max, T, length, take}
use mathlib.Core.List.{List, [], ◌∷◌, ◌++◌, Memᴰ}
use Rattle.model.specs.Finite.{below}
use Rattle.model.specs.Field.{Field, none, unit, weigh_from, at}
use Rattle.model.specs.Card.{Line, Card, Reached, reached, reached_kinds, reached_count, reached_lines, On, fire}
use Rattle.model.specs.Norm.{Clears, IsNorm, card_norm, kind_norm, norm}
use Rattle.theory.specs.Expansion.{Bisimulation, StepBisimulation}
use Rattle.theory.specs.Stages.{Lowers, StagesIn}
use Rattle.model.specs.Sense.{Sense}
use Rattle.model.specs.Base.{stage_row_in, stage_since_in, settled_stage_in, settled_row, settled_row_in, settled_form_in, since_in, since, gain}
use Rattle.theory.specs.Game.{Challenge, side_of, Holds, Strategy}
use Rattle.theory.specs.FinerGame.{HoldsIn, PartedIn, AnsweredIn}
use Rattle.model.specs.Walk.{apart, together}
use Rattle.model.specs.Sheet.{lines_offset, kind_count, code_count, line_count, field_count, line_of, card_of, field_of}
use Rattle.model.specs.Limits.{most_kinds, most_lines, most_fields, norm_limit, most_input}
use Rattle.model.specs.Refusal.{Check, check, clear, refusal, first_of, header_checks, sheet_checks, accept_checks, Accepted}
use Rattle.model.specs.Answer.{verdict_in, table_of, row_of, Session, full_walk}
use Rattle.model.specs.Days.{WalkCall}
use Rattle.model.specs.Plain.{header_bytes}
use Rattle.theory.specs.Widths.{Bytes, Widths}
use Rattle.model.specs.Page.{bytes, number, newline, counts_of, itself, kind_line, refused_line, page_of, printed}
use Rattle.theory.specs.Shelves.{Shelves, EntriesFit}
use Rattle.theory.specs.Squads.{Squads}
use Rattle.theory.specs.Frequencies.{Frequencies}
use Rattle.theory.specs.Since.{Sinces}
use Rattle.theory.specs.Finer.{Totals, Finer}
use Rattle.theory.specs.Days.{Day}
use Rattle.theory.specs.Terms.{IsGain, StageIn, BaseOf, Prime, PrimeIn, SettledIn, OnReached, OfKinds}

-- "the first that applies is given with its place"
pub record Firsts (xs : List Check) : Type 0 where
  pub given_iff : (k p : ℕ) → (first_of xs ≡ refusal k p)
      ↔ ((before : List Check) × (after : List Check) × (xs ≡ before ++ (check k p true ∷ after)) × ((x : Check) → Memᴰ x before → ¬ T x.applies))
  pub clear_iff : (first_of xs ≡ clear) ↔ ((x : Check) → Memᴰ x xs → ¬ T x.applies)

-- Where each line's and each kind's refusal is found, of a sheet that passes what is checked before.
pub record Places (s : List ℕ) : Type 0 where
  -- "lines, in order": 7 at a line whose kind is not under n, where all lines before it pass both checks.
  pub kind_place : first_of (header_checks s) ≡ clear → (j : ℕ) → (first_of (sheet_checks s) ≡ refusal 7 j)
      ↔ ((j < line_count s) × (¬ ((line_of s j).kind < kind_count s)) × ((i : ℕ) → i < j → ((line_of s i).kind < kind_count s) × ((line_of s i).code < code_count s)))
  -- "same line, next": 8 at a line whose kind passes and whose code does not.
  pub code_place : first_of (header_checks s) ≡ clear → (j : ℕ) → (first_of (sheet_checks s) ≡ refusal 8 j)
      ↔ ((j < line_count s) × (((line_of s j).kind < kind_count s) × (¬ ((line_of s j).code < code_count s)))
      × ((i : ℕ) → i < j → ((line_of s i).kind < kind_count s) × ((line_of s i).code < code_count s)))
  -- "a kind has no norm", at the "lowest such" of those that are reached.
  pub missing_place : first_of (sheet_checks s) ≡ clear → (k : ℕ) → (first_of (accept_checks s) ≡ refusal 9 k)
      ↔ (Reached (card_of s) k × ((r : ℕ) → ¬ Clears (On (card_of s)) r (unit k)) × ((j : ℕ) → j < k → Reached (card_of s) j → (v : ℕ) × IsNorm (card_of s) (unit j) v))
  -- "a norm over" the greatest taken, at the "lowest such" of those that are reached: each of these has a norm, and those of lower ones are within the limit.
  pub over_place : first_of (sheet_checks s) ≡ clear → (k : ℕ) → (first_of (accept_checks s) ≡ refusal 10 k)
      ↔ (Reached (card_of s) k × ((v : ℕ) × (norm_limit < v) × IsNorm (card_of s) (unit k) v) × ((j : ℕ) → Reached (card_of s) j → (v : ℕ) × IsNorm (card_of s) (unit j) v)
      × ((j : ℕ) → j < k → Reached (card_of s) j → (v : ℕ) × (v ≤ norm_limit) × IsNorm (card_of s) (unit j) v))

-- Of every sheet: the search finds the reached kinds, which are the kinds spoken of, and their lines.
pub record Reaches (c : Card) : Type 0 where
  pub test_iff : (k : ℕ) → T (reached c k) ↔ Reached c k
  pub under : (k : ℕ) → Reached c k → k < c.kinds
  pub kinds_iff : (k : ℕ) → Memᴰ k (reached_kinds c) ↔ Reached c k
  pub lines_iff : (l : Line) → Memᴰ l (reached_lines c) ↔ OnReached c l
  pub none_iff : (reached_count c ≡ 0) ↔ ((k : ℕ) → ¬ Reached c k)
  pub count_most : reached_count c ≤ c.kinds

-- Of a sheet that passes 1 to 8 and reaches every kind: no kind and no line is left out, so every answer is what it was before kinds could be out.
pub record Used (c : Card) : Type 0 where
  pub kinds : reached_kinds c ≡ below c.kinds
  pub count : reached_count c ≡ c.kinds
  pub lines : reached_lines c ≡ c.lines
  pub norms : kind_norm c ≡ card_norm c

-- The reached part of a card: its lines are those of the reached kinds.
abbrev pub part : Card → Card
part c = record { kinds = c.kinds; lines = reached_lines c; fields = c.fields }

-- Of a sheet that passes 1 to 8: the answers, in each sense, are those of its reached part.
pub record Parts (c : Card) : Type 0 where
  pub reached_iff : (k : ℕ) → Reached (part c) k ↔ Reached c k
  pub norms : kind_norm (part c) ≡ kind_norm c
  pub stage : (m : Sense) → settled_stage_in m (part c) ≡ settled_stage_in m c
  pub stage_rows : (m : Sense) (s : ℕ) → stage_row_in m (part c) s ≡ stage_row_in m c s
  pub rows : (m : Sense) → settled_row_in m (part c) ≡ settled_row_in m c
  pub stage_sinces : (m : Sense) (s : ℕ) → stage_since_in m (part c) s ≡ stage_since_in m c s
  pub sinces : (m : Sense) → since_in m (part c) ≡ since_in m c
  pub forms : (m : Sense) → settled_form_in m (part c) ≡ settled_form_in m c
  pub verdicts : (m : Sense) (a b : Field) → verdict_in m (part c) (kind_norm (part c)) a b ≡ verdict_in m c (kind_norm c) a b

-- Of a sheet that passes 1 to 8. "A kind has a norm if it can be cleared." A kind that is out is given none.
pub record Norms (c : Card) : Type 0 where
  pub kinds : (k : ℕ) → 0 < kind_norm c k → Reached c k × IsNorm c (unit k) (kind_norm c k)
  pub missing : (k : ℕ) → Reached c k → kind_norm c k ≡ 0 → (r : ℕ) → ¬ Clears (On c) r (unit k)
  pub fields : (a : Field) → ((k : ℕ) → 0 < a k → (k < c.kinds) × (0 < kind_norm c k)) → IsNorm c a (norm c a)
  -- "the norm of its first kind's tokens plus the norm of the rest"
  pub first_rest : (a : Field) → norm c a ≡ weigh_from 0 c.kinds (kind_norm c) a

-- Of every card, in a sense.
pub record Games (m : Sense) (c : Card) : Type 1 where
  -- "A line that its side has no token for is neither, and in a list of challenges it is passed over."
  pub passed_over : (f : Strategy c) (K : Field → Field → Type 0) (past hs : List (Challenge c)) (h : Challenge c) (a b : Field)
      → ¬ (0 < side_of h.side a b h.line.kind) → AnsweredIn m c f K past (h ∷ hs) a b ↔ AnsweredIn m c f K (h ∷ past) hs a b
  -- "A pair is parted within r rounds when it does not hold at r."
  pub parted_iff : (r : ℕ) (a b : Field) → PartedIn m c r a b ↔ (¬ HoldsIn m c r a b)

-- Of every sheet: what the walk answers, the allowance aside.
pub record Walks (s : List ℕ) (i j limit : ℕ) : Type 0 where
  pub apart_iff : (r : ℕ) → ((full_walk s i j limit).found ≡ apart r)
      ↔ ((r ≤ limit) × (¬ Holds (card_of s) r (field_of s i) (field_of s j)) × ((q : ℕ) → q < r → Holds (card_of s) q (field_of s i) (field_of s j)))
  pub together_iff : ((full_walk s i j limit).found ≡ together) ↔ Holds (card_of s) limit (field_of s i) (field_of s j)

module _ (m : Sense) (c : Card) where
  -- Of the card of an accepted sheet, in a sense.
  pub record Settles : Type 1 where
    -- The stages are those of the paper, and no others are.
    pub stages : StagesIn m c (kind_norm c) (StageIn m c)
    pub stages_only : (S : ℕ → Field → Field → Type 0) → StagesIn m c (kind_norm c) S → (s : ℕ) (a b : Field) → OfKinds c a → OfKinds c b → S s a b ↔ StageIn m c s a b
    -- From stage 1 up the rows are the base, the only one.
    pub base : (s : ℕ) → BaseOf c (StageIn m c (suc s)) (stage_row_in m c (suc s))
    pub only : (s : ℕ) (rows : ℕ → Field) → BaseOf c (StageIn m c (suc s)) rows → (k : ℕ) → Reached c k → rows k ≡ stage_row_in m c (suc s) k
    -- "Other kinds get a row of zeros."
    pub out_row : (s k : ℕ) → ¬ Reached c k → stage_row_in m c s k ≡ none
    -- "the final base"
    pub final : BaseOf c (StageIn m c (settled_stage_in m c)) (settled_row_in m c)
    -- "The settled stage is the least s from 1 up in which every related pair satisfies expansion; it is at most n." "A sheet that reaches no kind
    -- settles at stage 1."
    pub from : 1 ≤ settled_stage_in m c
    pub most : settled_stage_in m c ≤ max 1 (reached_count c)
    pub nothing : ((k : ℕ) → ¬ Reached c k) → settled_stage_in m c ≡ 1
    pub settled : SettledIn m c (settled_stage_in m c)
    pub least : (s : ℕ) → 1 ≤ s → s < settled_stage_in m c → ¬ SettledIn m c s
    -- "reads that lower the norm": those by a line that leaves less than its kind's norm, whatever field uses it.
    pub lowers_iff : (l : Line) (a : Field) → On c l → 0 < a l.kind → (norm c (fire l a) < norm c a) ↔ Lowers c (kind_norm c) l
    -- g, "the most that one read adds to a norm".
    pub is_gain : IsGain c (gain c)
    pub gain_most : (l : Line) (a : Field) → OnReached c l → 0 < a l.kind → norm c (fire l a) ≤ norm c a + gain c

  -- Of the same card: "A prime kind's row is itself once."
  pub record Primes {ℓ} : Type (ℓ + 1) where
    pub own_row : (k : ℕ) → Reached c k → (settled_row_in m c k ≡ unit k) ↔ PrimeIn {ℓ} m c k

-- A number of the page stands in decimal: a digit, or the number without its last digit and then that digit.
pub record Decimal (x : ℕ) : Type 0 where
  pub one_digit : x < 10 → number x ≡ (48 + x) ∷ []
  pub more_digits : 10 ≤ x → number x ≡ number (x / 10) ++ ((48 + x % 10) ∷ [])

-- The printed page, of any input.
pub record Pages {ℓ} (s : List ℕ) : Type (ℓ + 1) where
  -- That the program reads no more than "12,821 bytes" changes no page.
  pub whole : printed s ≡ page_of s
  -- "12,821 bytes" are one more than the longest sheet has; longer input is refused, by the header's checks.
  pub longest : most_input ≡ lines_offset + most_lines * (2 + most_kinds) + 2 * most_kinds * most_fields + 1
  pub too_long : most_input ≤ length s → (k : ℕ) × (p : ℕ) × (first_of (header_checks s) ≡ refusal k p) × (printed s ≡ refused_line k p)
  -- "Other kinds .. the page prints `kind I out`."
  pub out_line : (k : ℕ) → ¬ Reached (card_of s) k → kind_line s (table_of s) (kind_norm (card_of s)) k ≡ bytes "kind " ++ number k ++ bytes " out" ++ newline
  -- "The page adds `since S` to each kind line, before the word prime or the equals sign" (request 9 of document 02): the line of a prime kind, and that of any other reached kind.
  pub prime_line : Accepted s → (k : ℕ) → Prime {ℓ} (card_of s) k → kind_line s (table_of s) (kind_norm (card_of s)) k
      ≡ bytes "kind " ++ number k ++ (bytes " norm " ++ number (kind_norm (card_of s) k) ++ bytes " since " ++ number (since (card_of s) k) ++ bytes " " ++ bytes "prime") ++ newline
  pub made_line : Accepted s → (k : ℕ) → Reached (card_of s) k → ¬ Prime {ℓ} (card_of s) k → kind_line s (table_of s) (kind_norm (card_of s)) k
      ≡ bytes "kind " ++ number k
      ++ (bytes " norm " ++ number (kind_norm (card_of s) k) ++ bytes " since " ++ number (since (card_of s) k) ++ bytes " " ++ counts_of (row_of (kind_count s) k (table_of s))) ++ newline
  -- The row that the page shows, and its word prime, which is given to the prime kinds alone.
  pub row_shown : Accepted s → (k j : ℕ) → k < kind_count s → j < kind_count s → at (row_of (kind_count s) k (table_of s)) j ≡ settled_row (card_of s) k j
  pub prime_word : Accepted s → (k : ℕ) → k < kind_count s → T (itself k (row_of (kind_count s) k (table_of s))) ↔ Prime {ℓ} (card_of s) k

-- What the terms mean, of every sheet that they speak of, with bisimulations of every universe.
pub record Meanings {ℓ} : Type (ℓ + 1) where
  pub firsts : (xs : List Check) → Firsts xs
  -- The header of a sheet of bytes that passes 1 to 6 is that of the table "The sheet", byte by byte.
  pub headers : (s : List ℕ) → Bytes s → first_of (header_checks s) ≡ clear
      → take lines_offset s ≡ header_bytes (kind_count s) (code_count s) (line_count s) (field_count s)
  pub places : (s : List ℕ) → Places s
  pub reaches : (s : List ℕ) → Reaches (card_of s)
  pub used : (s : List ℕ) → first_of (sheet_checks s) ≡ clear → ((k : ℕ) → k < kind_count s → Reached (card_of s) k) → Used (card_of s)
  pub parts : (s : List ℕ) → first_of (sheet_checks s) ≡ clear → Parts (card_of s)
  pub norms : (s : List ℕ) → first_of (sheet_checks s) ≡ clear → Norms (card_of s)
  pub steps : (L : Line → Type 0) (R : Field → Field → Type ℓ) → Bisimulation L R ↔ StepBisimulation L R
  pub games : (m : Sense) (c : Card) → Games m c
  pub walks : (s : List ℕ) (i j limit : ℕ) → Walks s i j limit
  pub settles : (m : Sense) (s : List ℕ) → Accepted s → Settles m (card_of s)
  pub primes : (m : Sense) (s : List ℕ) → Accepted s → Primes {ℓ} m (card_of s)
  pub decimals : (x : ℕ) → Decimal x
  pub pages : (s : List ℕ) → Pages {ℓ} s
  pub widths : (s : List ℕ) → Bytes s → Accepted s → Widths s
  -- The desks of a session, of every list of walks.
  pub days : (calls : List WalkCall) (v : Session) (d : ℕ) → Day calls v d
  pub shelves : (s : List ℕ) (t : ℕ) → Shelves (card_of s) t
  pub entries_fit : EntriesFit
  pub squads : (s : List ℕ) → Accepted s → (i j : ℕ) → Squads {ℓ} s i j
  pub frequencies : (s : List ℕ) → Accepted s → (i t : ℕ) → Frequencies {ℓ} s i t
  -- The marks of the base, in each sense.
  pub sinces : (m : Sense) (s : List ℕ) → Accepted s → Sinces {ℓ} m (card_of s)
  -- The finer sense.
  pub totals : (c : Card) → Totals c
  pub finer : (s : List ℕ) → Finer s
