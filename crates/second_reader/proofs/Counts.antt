-- Laws of counts read from a sheet, and of fields filled count by count.
use mathlib.Core.List.{List}
use mathlib.Core.Path.{◌≡◌, refl, sym, ap, fun_ext, ◌∙◌}
use Prim.Native.Nat.{ℕ, ◌+◌, ◌-◌, ◌*◌, ◌≤◌, ◌<◌}
use native.Mathlib.Decide.{dec_lt}
use native.Mathlib.Nat.{mul-le-mul}
use native.Mathlib.Omega.{arith}
use lib.ListN.{length, replicate, length-replicate, get_or-replicate, get_or-eq_default}
use Rattle.model.specs.Field.{Field, unit, at}
use Rattle.model.specs.Card.{fire}
use Rattle.model.specs.Sheet.{byte, u16_at, kind_count, line_count, fields_offset, lines_offset, line_of, field_of}
use Rattle.model.proofs.Plain.{counts_below, counts_past}
use Rattle.theory.proofs.Field.{unit_same, unit_other}
use Rattle.second_reader.specs.Fields.{Fits, After}

-- What stands where, on a sheet.
module _ (s : List ℕ) where
  pub kind_at : (j start : ℕ) → start ≡ lines_offset + j * (2 + kind_count s) → byte s start ≡ (line_of s j).kind
  unfolding line_of
  kind_at j start e = ap (byte s) e

  pub code_at : (j start : ℕ) → start ≡ lines_offset + j * (2 + kind_count s) → byte s (start + 1) ≡ (line_of s j).code
  unfolding line_of
  code_at j start e = ap (λ (p : ℕ). byte s (p + 1)) e

  pub left_at : (j k start : ℕ) → start ≡ lines_offset + j * (2 + kind_count s) → k < kind_count s → byte s (start + 2 + k) ≡ (line_of s j).left k
  unfolding line_of
  left_at j k start e h = ap (λ (p : ℕ). byte s (p + 2 + k)) e ∙ sym (counts_below (kind_count s) (λ q. byte s (lines_offset + j * (2 + kind_count s) + 2 + q)) k h)

  pub left_past : (j k : ℕ) → kind_count s ≤ k → (line_of s j).left k ≡ 0
  unfolding line_of
  left_past j k h = counts_past (kind_count s) (λ q. byte s (lines_offset + j * (2 + kind_count s) + 2 + q)) k h

  pub field_at : (i k m n start : ℕ) → m ≡ line_count s → n ≡ kind_count s → start ≡ lines_offset + m * (2 + kind_count s) → k < kind_count s
      → u16_at s (start + 2 * n * i + 2 * k) ≡ field_of s i k
  unfolding field_of fields_offset
  field_at i k m n start d e f h =
      ap (λ (p : ℕ). u16_at s p) (rw (f, d, e) refl)
      ∙ sym (counts_below (kind_count s) (λ q. u16_at s (fields_offset s + 2 * kind_count s * i + 2 * q)) k h)

  pub field_past : (i k : ℕ) → kind_count s ≤ k → field_of s i k ≡ 0
  unfolding field_of
  field_past i k h = counts_past (kind_count s) (λ q. u16_at s (fields_offset s + 2 * kind_count s * i + 2 * q)) k h

-- A product is no greater than that of the greatest factors.
pub product_most : (a b m n : ℕ) → a ≤ m → b ≤ n → a * b ≤ m * n
product_most a b m n h l = mul-le-mul h l

-- A list of zeros has no tokens.
pub zeros_at : (m k : ℕ) → at (replicate m 0) k ≡ 0
zeros_at m k = go (dec_lt k m)
  where
    go : Dec (k < m) → at (replicate m 0) k ≡ 0
    go (yes h) = get_or-replicate m k 0 0 h
    go (no h) = get_or-eq_default (replicate m 0) 0 {n = k} (omega (arith, length-replicate {A = ℕ} m 0))

-- The list b is a, but that its counts below i are those of f; none is above g.
pub record Filled (f g : ℕ → ℕ) (a b : List ℕ) (i : ℕ) : Type 0 where
  pub done : (k : ℕ) → k < i → at b k ≡ f k
  pub rest : (k : ℕ) → i ≤ k → at b k ≡ at a k
  pub most : (k : ℕ) → at b k ≤ g k
  pub same : length b ≡ length a

module _ (f g : ℕ → ℕ) (a : List ℕ) where
  pub filled_none : ((k : ℕ) → at a k ≤ g k) → Filled f g a a 0
  filled_none h = record { done = λ k l. absurd (omega arith); rest = λ k l. refl; most = h; same = refl }

  pub filled_all : {b : List ℕ} {i : ℕ} → Filled f g a b i → ((k : ℕ) → i ≤ k → f k ≡ at a k) → at b ≡ f
  filled_all {b} {i} p h = fun_ext (λ k. go k (dec_lt k i))
    where
      go : (k : ℕ) → Dec (k < i) → at b k ≡ f k
      go k (yes l) = p.done k l
      go k (no l) = p.rest k (omega arith) ∙ sym (h k (omega arith))

-- A field that was read has room for 200 rounds.
pub read_fits : (s : List ℕ) (i : ℕ) (a : List ℕ) → at a ≡ field_of s i → ((k : ℕ) → at a k ≤ 65535) → length a ≡ 32 → Fits s 200 a
read_fits s i a e h z = record {
  size = z;
  over = λ k l. ap (λ (f : Field). f k) e ∙ field_past s i k l;
  room = λ k. omega (arith, h k);
}

-- Fewer rounds need less room.
pub fits_fewer : {s : List ℕ} {r : ℕ} {a : List ℕ} (q : ℕ) → q ≤ r → Fits s r a → Fits s q a
fits_fewer q h p = record { size = p.size; over = p.over; room = λ k. omega (arith, p.room k) }

-- Past the card's kinds the use of a line changes nothing.
pub fire_past : (s : List ℕ) (r j k : ℕ) (a : List ℕ) → Fits s r a → kind_count s ≤ k → fire (line_of s j) (at a) k ≡ at a k
fire_past s r j k a p h = omega (arith, p.over k h, left_past s j k h)

-- A field that used a line has room for one round fewer.
pub after_fits : {s : List ℕ} {r j : ℕ} {a b : List ℕ} → After s j a b → Fits s (r + 1) a → Fits s r b
after_fits {s} {r} {j} {a} {b} p q = record {
  size = p.size ∙ q.size;
  over = λ k l. ap (λ (f : Field). f k) p.field ∙ fire_past s (r + 1) j k a q l ∙ q.over k l;
  room = λ k. omega (arith, p.grown k, q.room k);
}

-- What line j makes of the tokens of kind k.
module _ (s : List ℕ) (j k tokens left kind : ℕ) (e : left ≡ (line_of s j).left k) (d : kind ≡ (line_of s j).kind) where
  pub other_kind : (k ≡ kind → ⊥) → tokens + left ≡ (tokens - unit (line_of s j).kind k) + (line_of s j).left k
  other_kind n = omega (arith, unit_other (line_of s j).kind k (λ q. n (q ∙ sym d)), e)

  pub none_there : tokens ≡ 0 → left ≡ (tokens - unit (line_of s j).kind k) + (line_of s j).left k
  none_there z = omega (arith, e)

  pub one_goes : k ≡ kind → 0 < tokens → tokens - 1 + left ≡ (tokens - unit (line_of s j).kind k) + (line_of s j).left k
  one_goes q h = omega (arith, e, ap (λ (x : ℕ). unit (line_of s j).kind x) (q ∙ d) ∙ unit_same (line_of s j).kind)
