-- The three demands, as types over the answers. Compare and Prime form are spoken of in each sense m, document 01's and the finer one of request 7 of document 02: "Demands 2 and 3, with
-- primes, sameness and game taken in this sense, must hold for the finer services too".
use Rattle.std.specs.Prelude.{List, [], ◌↔◌, ◌⊎◌, ◌≡◌, ℕ, ◌+◌, ◌-◌, ◌*◌, ◌≤◌, ◌<◌, min, length, take, drop}
use Rattle.model.specs.Field.{Field, at, tokens}
use Rattle.model.specs.Card.{On, reached_count}
use Rattle.model.specs.Norm.{IsNorm}
use Rattle.model.specs.Sense.{Sense}
use Rattle.theory.specs.Expansion.{Expands, BisimilarIn}
use Rattle.model.specs.Base.{settled_stage, settled_row, since}
use Rattle.theory.specs.Game.{Strategy, Challenge}
use Rattle.theory.specs.FinerGame.{HoldsIn, AlwaysIn, PartingIn, PartedIn, AnsweredIn}
use Rattle.model.specs.Shelf.{entry, shelf_number, shelf_field}
use Rattle.model.specs.Walk.{spent}
use Rattle.model.specs.Sheet.{kind_count, field_count, card_of, field_of}
use Rattle.model.specs.Limits.{most_kinds, most_rounds, most_tokens, most_listed, last_desk, Limits}
use Rattle.model.specs.Refusal.{Accepted, clear, refusal, first_of, sheet_checks, settle_checks, settle_since_checks, compare_checks, form_checks, walk_checks, shelf_number_checks, shelf_field_checks, squads_checks, frequencies_checks}
use Rattle.theory.specs.Terms.{OfKinds, IsGain, StageIn, PrimeIn}
use Rattle.model.specs.Answer.{refused, given, Session, same, different, settle_of, settle_since_of, compare_in, forming_in, walk_of, row_of, row_check_of, table_of, marks_of, prime_form_in, written, full_walk, shelf_number_of, shelf_counts, shelf_field_of, squad_count, remainder_form, squads_of, frequencies, frequencies_of}

-- Demand 1.
pub record Demand1 (s : List ℕ) : Type 0 where
  -- "A sheet is accepted when none of 1 to 10 applies to it": just when it lies within the written limits.
  pub accepted : Accepted s ↔ Limits s
  -- Settle is not refused just when the sheet is within the limits and the table has room for n × n counts; Compare, when it has both fields; Prime form, when it has the field and the buffer
  -- has room for n counts.
  pub settle_taken : (size : ℕ) → (first_of (settle_checks s size) ≡ clear) ↔ (Limits s × (kind_count s * kind_count s ≤ size))
  pub compare_taken : (i j : ℕ) → (first_of (compare_checks s i j) ≡ clear) ↔ (Limits s × (i < field_count s) × (j < field_count s))
  pub form_taken : (i size : ℕ) → (first_of (form_checks s i size) ≡ clear) ↔ (Limits s × (i < field_count s) × (kind_count s ≤ size))
  -- "Every sheet within the written limits is settled, any two of its fields are called same or different, and every prime form is written."
  pub settled : Limits s → (table : List ℕ) → kind_count s * kind_count s ≤ length table
      → settle_of s table ≡ record { answer = given (settled_stage (card_of s)); lent = written (table_of s) table }
  -- "row by row in kind number, n × n of them"
  pub table_row : (k j : ℕ) → k < kind_count s → j < kind_count s
      → at (table_of s) (k * kind_count s + j) ≡ settled_row (card_of s) k j
  pub table_size : length (table_of s) ≡ kind_count s * kind_count s
  -- "n counts"
  pub form_size : (m : Sense) (i : ℕ) → length (prime_form_in m s i) ≡ kind_count s
  -- A lent buffer keeps its length, whatever the answer.
  pub settle_length : (table : List ℕ) → length (settle_of s table).lent ≡ length table
  pub form_length : (m : Sense) (i : ℕ) (buffer : List ℕ) → length (forming_in m s i buffer).lent ≡ length buffer
  -- "Bytes of a lent buffer past those named keep their values."
  pub settle_past : (table : List ℕ) (e : ℕ) → kind_count s * kind_count s ≤ e → at (settle_of s table).lent e ≡ at table e
  pub form_past : (m : Sense) (i : ℕ) (buffer : List ℕ) (e : ℕ) → kind_count s ≤ e → at (forming_in m s i buffer).lent e ≡ at buffer e
  pub called : Limits s → (m : Sense) (i j : ℕ) → i < field_count s → j < field_count s
      → (compare_in m s i j ≡ given same) ⊎ ((t : ℕ) × (r : ℕ) × (compare_in m s i j ≡ given (different t r)))
  pub formed : Limits s → (m : Sense) (i : ℕ) (buffer : List ℕ) → i < field_count s → kind_count s ≤ length buffer
      → forming_in m s i buffer ≡ record { answer = given tt; lent = written (prime_form_in m s i) buffer }
  -- "Every other sheet, field number, round limit or short buffer gets the first number that applies in the table, and nothing lent changes."
  pub settle_refused : (table : List ℕ) (k p : ℕ) → first_of (settle_checks s (length table)) ≡ refusal k p
      → settle_of s table ≡ record { answer = refused k p; lent = table }
  pub compare_refused : (m : Sense) (i j k p : ℕ) → first_of (compare_checks s i j) ≡ refusal k p → compare_in m s i j ≡ refused k p
  pub form_refused : (m : Sense) (i : ℕ) (buffer : List ℕ) (k p : ℕ) → first_of (form_checks s i (length buffer)) ≡ refusal k p
      → forming_in m s i buffer ≡ record { answer = refused k p; lent = buffer }
  -- Walk: every sheet, field number, round limit and (request 4 of document 02) desk that is refused gets the first number that applies, and nothing changes. "16 a desk over 7, place 0, before the header is looked at": whatever the bytes, the fields and the limit are.
  pub walk_refused : (i j limit d : ℕ) (v : Session) (k p : ℕ) → first_of (walk_checks s i j limit d) ≡ refusal k p
      → walk_of s i j limit d v ≡ record { answer = refused k p; drawn = 0; after = v }
  pub walk_desk : (i j limit d : ℕ) → last_desk < d → first_of (walk_checks s i j limit d) ≡ refusal 16 0
  -- "two fields, a round limit 0 to 8 .. It takes cards without norms", and "a walk names its desk": it is not refused just when the desk is one of the eight, the sheet passes 1 to 8 and
  -- the three other numbers are such.
  pub walk_taken : (i j limit d : ℕ) → (first_of (walk_checks s i j limit d) ≡ clear)
      ↔ ((d ≤ last_desk) × (first_of (sheet_checks s) ≡ clear) × (i < field_count s) × (j < field_count s) × (limit ≤ most_rounds))
  -- "The walker's spent is given when its counted pairs pass the allowance, and not otherwise": "The walk's count and its spent rule read the named desk's allowance."
  pub walk_spent : (i j limit d : ℕ) (v : Session) → first_of (walk_checks s i j limit d) ≡ clear
      → ((walk_of s i j limit d v).answer ≡ given spent) ↔ (at v.left d < (full_walk s i j limit).count)
  pub walk_found : (i j limit d : ℕ) (v : Session) → first_of (walk_checks s i j limit d) ≡ clear → ¬ (at v.left d < (full_walk s i j limit).count)
      → (walk_of s i j limit d v).answer ≡ given (full_walk s i j limit).found
  pub walk_draws : (i j limit d : ℕ) (v : Session) → first_of (walk_checks s i j limit d) ≡ clear
      → (walk_of s i j limit d v).drawn ≡ min (full_walk s i j limit).count (at v.left d)
  -- What is drawn is what the desk loses, refused or not. No other desk loses anything, and there are as many desks as before.
  pub walk_loses : (i j limit d : ℕ) (v : Session) → at (walk_of s i j limit d v).after.left d + (walk_of s i j limit d v).drawn ≡ at v.left d
  pub walk_others : (i j limit d : ℕ) (v : Session) (e : ℕ) → ¬ (e ≡ d) → at (walk_of s i j limit d v).after.left e ≡ at v.left e
  pub walk_desks : (i j limit d : ℕ) (v : Session) → length (walk_of s i j limit d v).after.left ≡ length v.left
  -- Row, of which the sheet is no part: "that part of the lent table" that begins at k × n, and "the part is empty just when that check refuses".
  -- It is not refused just when n is 1 to 32, the kind is under n, and the table has n × n entries.
  pub row_taken : (n k : ℕ) (table : List ℕ) → (row_check_of n k table ≡ clear) ↔ ((1 ≤ n) × (n ≤ most_kinds) × (k < n) × (n * n ≤ length table))
  pub row_part_is : (n k : ℕ) (table : List ℕ) → row_check_of n k table ≡ clear → row_of n k table ≡ take n (drop (k * n) table)
  pub row_refused : (n k : ℕ) (table : List ℕ) → (row_of n k table ≡ []) ↔ ((q : ℕ) × (p : ℕ) × (row_check_of n k table ≡ refusal q p))
  -- Shelf numbers (document 02, request 2): "demand 1 speaks of the inputs they refuse too". Field to number is not refused just when the sheet is within the limits, the field is one of
  -- its fields and has at most 16 tokens; then it answers the field's size and number.
  pub number_taken : (i : ℕ) → (first_of (shelf_number_checks s i) ≡ clear) ↔ (Limits s × (i < field_count s) × (tokens (kind_count s) (field_of s i) ≤ most_tokens))
  pub numbered : (i : ℕ) → first_of (shelf_number_checks s i) ≡ clear
      → shelf_number_of s i ≡ given (record { size = tokens (kind_count s) (field_of s i); number = shelf_number (card_of s) (field_of s i) })
  pub number_refused : (i k p : ℕ) → first_of (shelf_number_checks s i) ≡ refusal k p → shelf_number_of s i ≡ refused k p
  -- Number to field is not refused just when the sheet is within the limits, the size is at most 16, the number is under its entry and the buffer has room for n counts; then these are written.
  pub shelf_taken : (t x size : ℕ) → (first_of (shelf_field_checks s t x size) ≡ clear)
      ↔ (Limits s × (t ≤ most_tokens) × (x < entry (reached_count (card_of s)) t) × (kind_count s ≤ size))
  pub shelved : (t x : ℕ) (buffer : List ℕ) → first_of (shelf_field_checks s t x (length buffer)) ≡ clear
      → shelf_field_of s t x buffer ≡ record { answer = given tt; lent = written (shelf_counts s t x) buffer }
  pub shelf_refused : (t x : ℕ) (buffer : List ℕ) (k p : ℕ) → first_of (shelf_field_checks s t x (length buffer)) ≡ refusal k p
      → shelf_field_of s t x buffer ≡ record { answer = refused k p; lent = buffer }
  -- "n counts": count k is that of kind k. "Bytes of a lent buffer past those named keep their values", and it keeps its length.
  pub shelf_counts_is : (t x k : ℕ) → k < kind_count s → at (shelf_counts s t x) k ≡ shelf_field (card_of s) t x k
  pub shelf_size : (t x : ℕ) → length (shelf_counts s t x) ≡ kind_count s
  pub shelf_length : (t x : ℕ) (buffer : List ℕ) → length (shelf_field_of s t x buffer).lent ≡ length buffer
  pub shelf_past : (t x : ℕ) (buffer : List ℕ) (e : ℕ) → kind_count s ≤ e → at (shelf_field_of s t x buffer).lent e ≡ at buffer e
  -- Squads (request 5 of document 02), of a whole i and a squad j: not refused just when the sheet is within the limits, has both fields, the squad is not empty and the buffer has room for
  -- n counts; then the number is answered and the remainder written.
  pub squads_taken : (i j size : ℕ) → (first_of (squads_checks s i j size) ≡ clear)
      ↔ (Limits s × (i < field_count s) × (j < field_count s) × (0 < tokens (kind_count s) (field_of s j)) × (kind_count s ≤ size))
  pub squads_given : (i j : ℕ) (buffer : List ℕ) → first_of (squads_checks s i j (length buffer)) ≡ clear
      → squads_of s i j buffer ≡ record { answer = given (squad_count s i j); lent = written (remainder_form s i j) buffer }
  pub squads_refused : (i j : ℕ) (buffer : List ℕ) (k p : ℕ) → first_of (squads_checks s i j (length buffer)) ≡ refusal k p
      → squads_of s i j buffer ≡ record { answer = refused k p; lent = buffer }
  -- "n counts"; "Bytes of a lent buffer past those named keep their values", and it keeps its length.
  pub remainder_size : (i j : ℕ) → length (remainder_form s i j) ≡ kind_count s
  pub squads_length : (i j : ℕ) (buffer : List ℕ) → length (squads_of s i j buffer).lent ≡ length buffer
  pub squads_past : (i j : ℕ) (buffer : List ℕ) (e : ℕ) → kind_count s ≤ e → at (squads_of s i j buffer).lent e ≡ at buffer e
  -- Frequencies (request 8 of document 02), of a field i and a size t: not refused just when the sheet is within the limits and has the field, the size is at most 16, its entry at most 65,536,
  -- and the buffer has room for n + 2 counts; then these are written.
  pub frequencies_taken : (i t size : ℕ) → (first_of (frequencies_checks s i t size) ≡ clear)
      ↔ (Limits s × (i < field_count s) × (t ≤ most_tokens) × (entry (reached_count (card_of s)) t ≤ most_listed) × (kind_count s + 2 ≤ size))
  pub frequencies_given : (i t : ℕ) (buffer : List ℕ) → first_of (frequencies_checks s i t (length buffer)) ≡ clear
      → frequencies_of s i t buffer ≡ record { answer = given tt; lent = written (frequencies s i t) buffer }
  pub frequencies_refused : (i t : ℕ) (buffer : List ℕ) (k p : ℕ) → first_of (frequencies_checks s i t (length buffer)) ≡ refusal k p
      → frequencies_of s i t buffer ≡ record { answer = refused k p; lent = buffer }
  -- "n + 2 counts"; "Bytes of a lent buffer past those named keep their values", and it keeps its length.
  pub frequencies_size : (i t : ℕ) → length (frequencies s i t) ≡ kind_count s + 2
  pub frequencies_length : (i t : ℕ) (buffer : List ℕ) → length (frequencies_of s i t buffer).lent ≡ length buffer
  pub frequencies_past : (i t : ℕ) (buffer : List ℕ) (e : ℕ) → kind_count s + 2 ≤ e → at (frequencies_of s i t buffer).lent e ≡ at buffer e
  -- Settle with the marks (request 9 of document 02): not refused just when the sheet is within the limits, the table has room for n × n counts and the buffer for n marks; then it writes and
  -- reports what Settle does, and the marks are written.
  pub since_taken : (size marks : ℕ) → (first_of (settle_since_checks s size marks) ≡ clear) ↔ (Limits s × (kind_count s * kind_count s ≤ size) × (kind_count s ≤ marks))
  pub since_given : (table marks : List ℕ) → first_of (settle_since_checks s (length table) (length marks)) ≡ clear
      → settle_since_of s table marks ≡ record { answer = given (settled_stage (card_of s)); table = written (table_of s) table; marks = written (marks_of s) marks }
  pub since_refused : (table marks : List ℕ) (k p : ℕ) → first_of (settle_since_checks s (length table) (length marks)) ≡ refusal k p
      → settle_since_of s table marks ≡ record { answer = refused k p; table = table; marks = marks }
  -- Mark k is that of kind k, and there are n. "Bytes of a lent buffer past those named keep their values", and it keeps its length.
  pub since_marks : (k : ℕ) → k < kind_count s → at (marks_of s) k ≡ since (card_of s) k
  pub marks_size : length (marks_of s) ≡ kind_count s
  pub since_lengths : (table marks : List ℕ) → (length (settle_since_of s table marks).table ≡ length table) × (length (settle_since_of s table marks).marks ≡ length marks)
  pub since_past : (table marks : List ℕ) (e : ℕ) → (kind_count s * kind_count s ≤ e → at (settle_since_of s table marks).table e ≡ at table e)
      × (kind_count s ≤ e → at (settle_since_of s table marks).marks e ≡ at marks e)

-- Demand 2, of fields i and j of an accepted sheet, with bisimulations of every universe.
pub record Demand2 {ℓ} (m : Sense) (s : List ℕ) (i j : ℕ) : Type (ℓ + 1) where
  -- "Same means that some bisimulation of Hirshfeld, Jerrum and Moller relates them, and different that none does."
  pub same_means : (compare_in m s i j ≡ given same) ↔ BisimilarIn {ℓ} m (card_of s) (field_of s i) (field_of s j)
  pub different_means : ((t : ℕ) × (r : ℕ) × (compare_in m s i j ≡ given (different t r))) ↔ (¬ BisimilarIn {ℓ} m (card_of s) (field_of s i) (field_of s j))
  -- "A prime form holds prime kinds only, is bisimilar to its field, and is equal for two fields just when they are the same."
  pub form_primes : (k : ℕ) → 0 < at (prime_form_in m s i) k → PrimeIn {ℓ} m (card_of s) k
  pub form_bisimilar : BisimilarIn {ℓ} m (card_of s) (field_of s i) (at (prime_form_in m s i))
  pub form_equal : (prime_form_in m s i ≡ prime_form_in m s j) ↔ (compare_in m s i j ≡ given same)

-- Demand 3, one claim about whole games, of fields i and j of an accepted sheet.
pub record Demand3 (m : Sense) (s : List ℕ) (i j : ℕ) : Type 0 where
  -- "The two are called same exactly when, whatever list of challenges is given, however long and on whichever side each falls, every
  -- challenge can be answered, by replies that need not know what is still to come." The pair left after every such list holds at every r.
  pub same_plays : compare_in m s i j ≡ given same
      → (f : Strategy (card_of s)) × ((hs : List (Challenge (card_of s))) → AnsweredIn m (card_of s) f (AlwaysIn m (card_of s)) [] hs (field_of s i) (field_of s j))
  pub plays_same : (f : Strategy (card_of s))
      → ((hs : List (Challenge (card_of s))) → AnsweredIn m (card_of s) f (λ _ _. Unit {0}) [] hs (field_of s i) (field_of s j)) → compare_in m s i j ≡ given same
  -- "They are called different exactly when some choice of challenges, each made in view of the replies so far, parts them whatever the replies,
  -- and then within the number of rounds reported, which is N + 1 + (s - 1)(g + 1), or N + 1 if s is 0: N the smaller of the two norms, s the
  -- stage reported, never above the number of [reached] kinds, g the most that one read adds to a norm."
  pub parted_different : PartingIn m (card_of s) (field_of s i) (field_of s j) → (t : ℕ) × (q : ℕ) × (compare_in m s i j ≡ given (different t q))
  pub different_parted : (t r : ℕ) → compare_in m s i j ≡ given (different t r) → PartingIn m (card_of s) (field_of s i) (field_of s j) × PartedIn m (card_of s) r (field_of s i) (field_of s j)
      × (¬ HoldsIn m (card_of s) r (field_of s i) (field_of s j)) × (t ≤ reached_count (card_of s))
      × ((x : ℕ) × (y : ℕ) × (g : ℕ) × IsNorm (card_of s) (field_of s i) x × IsNorm (card_of s) (field_of s j) y × IsGain (card_of s) g
      × (t ≡ 0 → r ≡ min x y + 1) × (0 < t → r ≡ min x y + 1 + (t - 1) * (g + 1)))
  -- "The stage is the least that does not relate the pair."
  pub different_stage : (t r : ℕ) → compare_in m s i j ≡ given (different t r)
      → (¬ StageIn m (card_of s) t (field_of s i) (field_of s j)) × ((q : ℕ) → q < t → StageIn m (card_of s) q (field_of s i) (field_of s j))
  -- "Each challenge to them has a reply that leaves a pair which again holds at every r, and this stays so after every list of rounds so answered."
  pub always_again : (a b : Field) → OfKinds (card_of s) a → OfKinds (card_of s) b → AlwaysIn m (card_of s) a b → Expands (On (card_of s)) (AlwaysIn m (card_of s)) a b

-- The whole: of every sheet, and of every two fields of an accepted sheet, in each sense.
pub record Demands {ℓ} : Type (ℓ + 1) where
  pub demand1 : (s : List ℕ) → Demand1 s
  pub demand2 : (m : Sense) (s : List ℕ) → Accepted s → (i j : ℕ) → i < field_count s → j < field_count s → Demand2 {ℓ} m s i j
  pub demand3 : (m : Sense) (s : List ℕ) → Accepted s → (i j : ℕ) → i < field_count s → j < field_count s → Demand3 m s i j
