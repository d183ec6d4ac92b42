-- What definitions that compute come to, said in plain arithmetic and of every input: the bytes, what is written to a buffer, sizes, rounds.
use Rattle.std.specs.Prelude.{List, [], ◌∷◌, ◌++◌, ◌≡◌, ℕ, ◌+◌, ◌-◌, ◌*◌, ◌/◌, ◌%◌, ◌≤◌, ◌<◌, length}
use Rattle.model.specs.Field.{at}
use Rattle.model.specs.Base.{rounds_for}
use Rattle.model.specs.Sheet.{byte, u32_at, kind_count, code_count, line_count, field_count, counts}
use Rattle.model.specs.Sense.{Sense}
use Rattle.model.specs.Answer.{written, table_of, marks_of, prime_form_in, shelf_counts, remainder_form, frequencies}

-- "unsigned, low byte first": a number written as two bytes, and as four, the low half first.
abbrev pub two_bytes : ℕ → List ℕ
two_bytes x = (x % 256) ∷ (x / 256) ∷ []

abbrev pub four_bytes : ℕ → List ℕ
four_bytes x = two_bytes (x % 65536) ++ two_bytes (x / 65536)

-- The table "The sheet", row by row: the header of n kinds, so many codes, m lines and f fields.
abbrev pub header_bytes : ℕ → ℕ → ℕ → ℕ → List ℕ
header_bytes n codes m f =
    two_bytes n ++ two_bytes codes ++ two_bytes m ++ two_bytes f
    ++ four_bytes 20 ++ four_bytes (20 + m * (2 + n)) ++ four_bytes (20 + m * (2 + n) + 2 * n * f)

-- What is read of a sheet that begins with that header, whatever follows it.
pub record HeaderRead (n codes m f : ℕ) (s : List ℕ) : Type 0 where
  pub kind_count_is : kind_count s ≡ n
  pub code_count_is : code_count s ≡ codes
  pub line_count_lem : line_count s ≡ m
  pub field_count_is : field_count s ≡ f
  pub lines_offset_is : u32_at s 8 ≡ 20
  pub fields_offset_is : u32_at s 12 ≡ 20 + m * (2 + n)
  pub total : u32_at s 16 ≡ 20 + m * (2 + n) + 2 * n * f

-- What is written to a lent buffer: below the length of what is written it, from that length on what the buffer held, and as long as the buffer.
pub record WrittenTo (xs buffer : List ℕ) : Type 0 where
  pub below : (i : ℕ) → i < length xs → at (written xs buffer) i ≡ at xs i
  pub past : (i : ℕ) → length xs ≤ i → at (written xs buffer) i ≡ at buffer i
  pub long : length xs ≤ length buffer → length (written xs buffer) ≡ length buffer

pub record Plain : Type 0 where
  -- A number of four bytes, by the weight of each.
  pub four_bytes : (s : List ℕ) (i : ℕ) → u32_at s i ≡ byte s i + 256 * byte s (i + 1) + 65536 * byte s (i + 2) + 16777216 * byte s (i + 3)
  pub header : (n codes m f : ℕ) (rest : List ℕ) → HeaderRead n codes m f (header_bytes n codes m f ++ rest)
  -- A line and a field have n counts, and none past them.
  pub counts_below : (n : ℕ) (f : ℕ → ℕ) (k : ℕ) → k < n → counts n f k ≡ f k
  pub counts_past : (n : ℕ) (f : ℕ → ℕ) (k : ℕ) → n ≤ k → counts n f k ≡ 0
  -- "Bytes of a lent buffer past those named keep their values."
  pub written_to : (xs buffer : List ℕ) → WrittenTo xs buffer
  -- "n × n of them", a mark for each kind, and "n counts".
  pub table_size : (s : List ℕ) → length (table_of s) ≡ kind_count s * kind_count s
  pub marks_size : (s : List ℕ) → length (marks_of s) ≡ kind_count s
  pub form_size : (m : Sense) (s : List ℕ) (i : ℕ) → length (prime_form_in m s i) ≡ kind_count s
  pub shelf_size : (s : List ℕ) (t x : ℕ) → length (shelf_counts s t x) ≡ kind_count s
  pub remainder_size : (s : List ℕ) (i j : ℕ) → length (remainder_form s i j) ≡ kind_count s
  pub frequencies_size : (s : List ℕ) (i t : ℕ) → length (frequencies s i t) ≡ kind_count s + 2
  -- "N + 1 + (s - 1)(g + 1), or N + 1 if s is 0"
  pub rounds_none : (N g : ℕ) → rounds_for N g 0 ≡ N + 1
  pub rounds_some : (N g s : ℕ) → 0 < s → rounds_for N g s ≡ N + 1 + (s - 1) * (g + 1)
