-- Lines as they stand in a buffer, and the lines of reached kinds taken one by one.
use mathlib.Core.Bool.{Bool, true, false}
use mathlib.Core.List.{List, [], ◌∷◌, ◌++◌, append-nil}
use mathlib.Core.Path.{◌≡◌, refl, sym, ◌∙◌, ap, ap₂, fun_ext}
use Prim.Native.Nat.{ℕ, ◌+◌, ◌*◌, ◌≤◌, ◌<◌}
use native.Mathlib.Decide.{dec_lt}
use native.Mathlib.Nat.{mul-le-mul_right}
use native.Mathlib.Omega.{arith}
use lib.Dec.{T}
use lib.ListN.{length}
use Rattle.model.specs.Finite.{keep, list_from}
use Rattle.model.specs.Field.{Field, at}
use Rattle.model.specs.Card.{Line, reached, reached_lines}
use Rattle.model.specs.Sheet.{lines_offset, byte, kind_count, line_count, counts, line_of, card_of}
use Rattle.theory.proofs.Lists.{from_append, from_same, is_true}
use Rattle.theory.proofs.Sheets.{sheet_reaches}
use Rattle.theory.proofs.Shelves.{keep_yes, keep_no, keep_append}
use Rattle.sheet.specs.Reader.{Reads}
use Rattle.sheet.specs.declared.reader.Card.{Card}
use Rattle.sheet.proofs.Counts.{counts_below, counts_past}
use Rattle.sheet.proofs.Laws.{kinds_are, part_within, line_inside}
use Rattle.norms.specs.Norms.{Accepts}
use Rattle.norms.proofs.Laws.{in_reach, norm_positive, norm_reached}
use Rattle.part_sheet.specs.Bytes.{Copied}
use Rattle.part_sheet.specs.Part.{line_in, LinesTaken}

-- A list with one member more.
module _ {A : Type 0} where
  from_last : (f : ℕ → A) (m : ℕ) → list_from f 0 (m + 1) ≡ list_from f 0 m ++ (f m ∷ [])
  unfolding list_from
  from_last f m = from_append f 0 m 1 ∙ ap (λ k. list_from f 0 m ++ (f k ∷ [])) (z m)
    where
      z : (m : ℕ) → 0 + m ≡ m
      z m = omega arith

-- The counts that agree below n are the same field.
pub counts_same : (n : ℕ) (f g : ℕ → ℕ) → ((k : ℕ) → k < n → f k ≡ g k) → counts n f ≡ counts n g
counts_same n f g h = fun_ext (λ k. go k (dec_lt k n))
  where
    go : (k : ℕ) → Dec (k < n) → counts n f k ≡ counts n g k
    go k (yes l) = counts_below n f k l ∙ h k l ∙ sym (counts_below n g k l)
    go k (no l) = counts_past n f k (omega arith) ∙ sym (counts_past n g k (omega arith))

-- Where the bytes of two lines agree, the lines are the same.
pub line_same : (n : ℕ) (p q : List ℕ) (i j : ℕ) → ((x : ℕ) → x < 2 + n → byte q (lines_offset + i * (2 + n) + x) ≡ byte p (lines_offset + j * (2 + n) + x))
    → line_in n q i ≡ line_in n p j
unfolding line_in
line_same n p q i j h = lines kind (h 1 (omega arith)) left
  where
    P : ℕ
    P = lines_offset + j * (2 + n)

    Q : ℕ
    Q = lines_offset + i * (2 + n)

    lines : {k c k' c' : ℕ} {f g : Field} → k ≡ k' → c ≡ c' → f ≡ g → ◌≡◌ {A = Line} (record { kind = k; code = c; left = f }) (record { kind = k'; code = c'; left = g })
    lines e d a = rw (e, d, a) refl

    kind : byte q Q ≡ byte p P
    kind = let y : Q + 0 ≡ Q = omega arith in let z : P + 0 ≡ P = omega arith in sym (ap (byte q) y) ∙ h 0 (omega arith) ∙ ap (byte p) z

    left : counts n (λ k. byte q (Q + 2 + k)) ≡ counts n (λ k. byte p (P + 2 + k))
    left = counts_same n _ _ (λ k l.
        let y : Q + (2 + k) ≡ Q + 2 + k = omega arith in
        let z : P + (2 + k) ≡ P + 2 + k = omega arith in
        sym (ap (byte q) y) ∙ h (2 + k) (omega arith) ∙ ap (byte p) z)

-- The first m lines stay where no byte of them changes.
pub lines_same : (n : ℕ) (p q : List ℕ) (m : ℕ) → ((x : ℕ) → lines_offset ≤ x → x < lines_offset + m * (2 + n) → byte q x ≡ byte p x)
    → list_from (line_in n q) 0 m ≡ list_from (line_in n p) 0 m
lines_same n p q m h = from_same _ _ 0 m (λ i _ l. line_same n p q i i (λ x y. h _ (omega arith) (omega (arith, part_within (2 + n) i m (omega arith)))))

-- The lines of a sheet are those that stand in its bytes.
pub line_in_lem : (s : List ℕ) (j : ℕ) → line_of s j ≡ line_in (kind_count s) s j
unfolding line_of line_in
line_in_lem s j = refl

-- A line fits where a line of the sheet that is as late or later does.
pub line_room : {s : List ℕ} {c : Card} (R : Reads s c) (i j : ℕ) → i ≤ j → j < c.lines → lines_offset + i * (2 + c.kinds) + (2 + c.kinds) ≤ length s
line_room {s} {c} R i j h l = omega (arith, line_inside R j l, mul-le-mul_right (2 + c.kinds) h)

-- A kind has a norm in the array just when it is reached.
module _ {s : List ℕ} {c : Card} {norms : List ℕ} (A : Accepts s c norms) (k : ℕ) where
  pub reached_yes : 0 < at norms k → reached (card_of s) k ≡ true
  reached_yes h = is_true (reached (card_of s) k) (((sheet_reaches s).test_iff k).1 (norm_reached A k h))

  pub reached_no : at norms k ≤ 0 → reached (card_of s) k ≡ false
  reached_no h = go (reached (card_of s) k) (λ t. omega (arith, norm_positive A k (((sheet_reaches s).test_iff k).0 t)))
    where
      go : (b : Bool) → ¬ T b → b ≡ false
      go true h = absurd (h _)
      go false h = refl

-- Of the first j lines of the sheet those of reached kinds, m of them, stand in q.
pub record Taken (s p : List ℕ) (j m : ℕ) (q : List ℕ) : Type 0 where
  pub long : length q ≡ length p
  pub few : m ≤ j
  pub lines : list_from (line_in (kind_count s) q) 0 m ≡ keep (in_reach s) (list_from (line_of s) 0 j)

module _ (s p : List ℕ) where
  pub taken_none : Taken s p 0 0 p
  unfolding list_from keep
  taken_none = record { long = refl; few = omega arith; lines = refl }

  keep_last : (j : ℕ) → keep (in_reach s) (list_from (line_of s) 0 (j + 1)) ≡ keep (in_reach s) (list_from (line_of s) 0 j) ++ keep (in_reach s) (line_of s j ∷ [])
  keep_last j = ap (keep (in_reach s)) (from_last (line_of s) j) ∙ keep_append (in_reach s) (list_from (line_of s) 0 j) (line_of s j ∷ [])

  -- Line j alone: it is kept where its kind is reached.
  keep_one : (j : ℕ) → reached (card_of s) (line_of s j).kind ≡ true → keep (in_reach s) (line_of s j ∷ []) ≡ line_of s j ∷ []
  unfolding keep
  keep_one j e = keep_yes (in_reach s) (line_of s j) [] e

  keep_none : (j : ℕ) → reached (card_of s) (line_of s j).kind ≡ false → keep (in_reach s) (line_of s j ∷ []) ≡ []
  unfolding keep
  keep_none j e = keep_no (in_reach s) (line_of s j) [] e

  module _ {j m : ℕ} {q : List ℕ} (T : Taken s p j m q) where
    pub taken_out : reached (card_of s) (line_of s j).kind ≡ false → Taken s p (j + 1) m q
    taken_out e = record { long = T.long; few = omega (arith, T.few); lines = T.lines ∙ sym (append-nil _) ∙ ap (λ (ls : List Line). keep (in_reach s) (list_from (line_of s) 0 j) ++ ls) (sym (keep_none j e)) ∙ sym (keep_last j) }

    taken_in : {r : List ℕ} → reached (card_of s) (line_of s j).kind ≡ true
        → Copied s (lines_offset + j * (2 + kind_count s)) q (lines_offset + m * (2 + kind_count s)) (2 + kind_count s) r → Taken s p (j + 1) (m + 1) r
    taken_in {r} e C = record { long = C.long ∙ T.long; few = omega (arith, T.few); lines = lines }
      where
        n : ℕ
        n = kind_count s

        stay : list_from (line_in n r) 0 m ≡ list_from (line_in n q) 0 m
        stay = lines_same n q r m (λ x _ l. C.before x l)

        new : line_in n r m ≡ line_of s j
        new = line_same n s r m j C.here ∙ sym (line_in_lem s j)

        lines : list_from (line_in n r) 0 (m + 1) ≡ keep (in_reach s) (list_from (line_of s) 0 (j + 1))
        lines = from_last (line_in n r) m ∙ ap₂ (λ (xs : List Line) (l : Line). xs ++ (l ∷ [])) (stay ∙ T.lines) new
            ∙ ap (λ (ls : List Line). keep (in_reach s) (list_from (line_of s) 0 j) ++ ls) (sym (keep_one j e)) ∙ sym (keep_last j)

  -- The same, of a sheet that was read.
  pub taken_copied : {c : Card} (R : Reads s c) {j m from to : ℕ} {q r : List ℕ} → Taken s p j m q → reached (card_of s) (line_of s j).kind ≡ true
      → from ≡ lines_offset + j * (2 + c.kinds) → to ≡ lines_offset + m * (2 + c.kinds) → Copied s from q to (2 + c.kinds) r → Taken s p (j + 1) (m + 1) r
  taken_copied R T e a b C = taken_in T e (rw (a, b, kinds_are R) at C)

  -- All lines were passed.
  pub taken_all : {j m : ℕ} {q : List ℕ} → Taken s p j m q → j ≡ line_count s → LinesTaken s p m q
  unfolding reached_lines card_of
  taken_all T e = record { long = T.long; few = omega (arith, T.few); lines = T.lines ∙ ap (λ k. keep (in_reach s) (list_from (line_of s) 0 k)) e }
