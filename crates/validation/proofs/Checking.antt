-- What a check of the table comes to, by the comparison that it makes, the checks of a line, and what the answer tells of the sheet.
use mathlib.Core.Bool.{Bool, true, false, not}
use mathlib.Core.List.{List, [], ◌∷◌}
use mathlib.Core.Path.{◌≡◌, refl, ◌∙◌}
use Prim.Native.Nat.{ℕ, ◌+◌, ◌≤◌, ◌<◌}
use native.Mathlib.Omega.{arith}
use lib.Dec.{T, ltb, lt→ltb, eqb}
use Rattle.model.specs.Sheet.{kind_count, code_count, line_count, line_of}
use Rattle.model.specs.Refusal.{Check, check, Finding, clear, refusal, first_of, differ, header_checks, line_checks, sheet_checks}
use Rattle.theory.proofs.Exec.{Tells, tells_lt, tells_eq}
use Rattle.theory.proofs.Sheets.{not_small, not_less, clear_nil}
use Rattle.theory.proofs.Checks.{not_differ, all_clear, first_left, first_right, first_here, first_later, first_of_all}
use Rattle.sheet.specs.declared.reader.Card.{Card}
use Rattle.model.specs.Answer.{refused, given}
use Rattle.sheet.specs.Reader.{header_of, Reads, number_checks, layout_checks}
use Rattle.validation.specs.Outcome.{outcome, checked_of}

-- The enum for what was found.
pub refuses : (d : Card) (f : Finding) (k p : ℕ) → f ≡ refusal k p → refused k p ≡ outcome d f
unfolding outcome
refuses d f k p e = rw e refl

pub passes : (c d : Card) (f : Finding) → c ≡ d → f ≡ clear → given c ≡ outcome d f
unfolding outcome
passes c d f e h = rw (e, h) refl

pub refused_found : (d : Card) (f : Finding) (k p : ℕ) → outcome d f ≡ refused k p → f ≡ refusal k p
unfolding outcome
refused_found d clear k p e = let z : ◌≡◌ {A = ℕ} 0 1 = cc in absurd (omega arith)
refused_found d (refusal i q) k p e = cc

pub passed_found : (d : Card) (f : Finding) (c : Card) → outcome d f ≡ given c → (c ≡ d) × (f ≡ clear)
unfolding outcome
passed_found d clear c e = (cc, refl)
passed_found d (refusal i q) c e = let z : ◌≡◌ {A = ℕ} 0 1 = cc in absurd (omega arith)

-- A check that applies gives its number and place; one that does not leaves the checks after it.
module _ (k p : ℕ) (xs : List Check) where
  pub test_stops : (b : Bool) → b ≡ true → first_of (check k p b ∷ xs) ≡ refusal k p
  test_stops b e = first_here (check k p b) xs (rw e tt)

  pub test_passes : (b : Bool) → b ≡ false → first_of (check k p b ∷ xs) ≡ first_of xs
  test_passes b e = first_later (check k p b) xs (rw e (λ t. t))

  pub less_stops : (x y : ℕ) → x < y → first_of (check k p (ltb x y) ∷ xs) ≡ refusal k p
  less_stops x y h = first_here (check k p (ltb x y)) xs (lt→ltb x y h)

  pub less_passes : (x y : ℕ) → y ≤ x → first_of (check k p (ltb x y) ∷ xs) ≡ first_of xs
  less_passes x y h = first_later (check k p (ltb x y)) xs (not_less x y h)

  pub past_stops : (x n : ℕ) → n ≤ x → first_of (check k p (not (ltb x n)) ∷ xs) ≡ refusal k p
  past_stops x n h = first_here (check k p (not (ltb x n))) xs (go (ltb x n) (tells_lt x n))
    where
      go : (b : Bool) → Tells b (x < n) → T (not b)
      go true t = let l : x < n = t.fact tt in absurd (omega arith)
      go false t = tt

  pub past_passes : (x n : ℕ) → x < n → first_of (check k p (not (ltb x n)) ∷ xs) ≡ first_of xs
  past_passes x n h = first_later (check k p (not (ltb x n))) xs (not_small x n h)

  pub differ_stops : (x y : ℕ) → (x ≡ y → ⊥) → first_of (check k p (differ x y) ∷ xs) ≡ refusal k p
  differ_stops x y n = first_here (check k p (differ x y)) xs (go (eqb x y) (tells_eq x y))
    where
      go : (b : Bool) → Tells b (x ≡ y) → T (not b)
      go true t = absurd (n (t.fact tt))
      go false t = tt

  pub differ_passes : (x y : ℕ) → x ≡ y → first_of (check k p (differ x y) ∷ xs) ≡ first_of xs
  differ_passes x y e = first_later (check k p (differ x y)) xs (not_differ x y e)

-- The checks of line j: 7, and "same line, next": 8.
abbrev pub of_line : List ℕ → ℕ → List Check
of_line s j = check 7 j (not (ltb (line_of s j).kind (kind_count s))) ∷ check 8 j (not (ltb (line_of s j).code (code_count s))) ∷ []

module _ (s : List ℕ) (j : ℕ) where
  pub kind_stops : kind_count s ≤ (line_of s j).kind → first_of (of_line s j) ≡ refusal 7 j
  kind_stops h = past_stops 7 j _ (line_of s j).kind (kind_count s) h

  pub code_stops : (line_of s j).kind < kind_count s → code_count s ≤ (line_of s j).code → first_of (of_line s j) ≡ refusal 8 j
  code_stops h l = past_passes 7 j _ (line_of s j).kind (kind_count s) h ∙ past_stops 8 j _ (line_of s j).code (code_count s) l

  pub line_passes : (line_of s j).kind < kind_count s → (line_of s j).code < code_count s → first_of (of_line s j) ≡ clear
  line_passes h l = past_passes 7 j _ (line_of s j).kind (kind_count s) h ∙ past_passes 8 j _ (line_of s j).code (code_count s) l ∙ clear_nil

  -- The first line with a check that applies, none before it having one.
  pub lines_stop : (k p : ℕ) → j < line_count s → ((q : ℕ) → q < j → first_of (of_line s q) ≡ clear) → first_of (of_line s j) ≡ refusal k p → first_of (line_checks s) ≡ refusal k p
  unfolding line_checks
  lines_stop k p h n e =
      let z : 0 + j ≡ j = omega arith in
      first_of_all (of_line s) 0 (line_count s) j k p h (λ q l. let y : 0 + q ≡ q = omega arith in rw y (n q l)) (rw z e)

-- No line has one.
pub lines_pass : (s : List ℕ) → ((q : ℕ) → q < line_count s → first_of (of_line s q) ≡ clear) → first_of (line_checks s) ≡ clear
unfolding line_checks
lines_pass s n = all_clear (of_line s) 0 (line_count s) (λ q l. let y : 0 + q ≡ q = omega arith in rw y (n q l))

-- 1 to 8 from their three parts: the numbers, the layout, the lines.
module _ (s : List ℕ) where
  pub numbers_refuse : (k p : ℕ) → first_of (number_checks s) ≡ refusal k p → refused k p ≡ checked_of s
  unfolding checked_of sheet_checks header_checks
  numbers_refuse k p e =
      refuses _ _ k p
      (first_left (header_checks s) (line_checks s) k p (first_left (number_checks s) (layout_checks s) k p e))

  module _ (n : first_of (number_checks s) ≡ clear) where
    pub layout_refuse : (k p : ℕ) → first_of (layout_checks s) ≡ refusal k p → refused k p ≡ checked_of s
    unfolding checked_of sheet_checks header_checks
    layout_refuse k p e =
        refuses _ _ k p
        (first_left (header_checks s) (line_checks s) k p (first_right (number_checks s) (layout_checks s) n ∙ e))

    pub header_passes : first_of (layout_checks s) ≡ clear → first_of (header_checks s) ≡ clear
    unfolding header_checks
    header_passes e = first_right (number_checks s) (layout_checks s) n ∙ e

    module _ (l : first_of (layout_checks s) ≡ clear) where
      pub lines_refuse : (k p : ℕ) → first_of (line_checks s) ≡ refusal k p → refused k p ≡ checked_of s
      unfolding checked_of sheet_checks
      lines_refuse k p e = refuses _ _ k p (first_right (header_checks s) (line_checks s) (header_passes l) ∙ e)

      pub lines_decide : (c : Card) → c ≡ header_of s → first_of (line_checks s) ≡ clear → given c ≡ checked_of s
      unfolding checked_of sheet_checks
      lines_decide c h e = passes _ _ _ h (first_right (header_checks s) (line_checks s) (header_passes l) ∙ e)

-- What the answer of the check of a sheet's bytes tells: the card was read, or a refusal comes first.
pub checked_reads : (s : List ℕ) (c : Card) → checked_of s ≡ given c → Reads s c
unfolding checked_of
checked_reads s c e = let t = passed_found (header_of s) (first_of (sheet_checks s)) c e in record { header = t.0; passed = t.1 }

pub checked_refused : (s : List ℕ) (k p : ℕ) → checked_of s ≡ refused k p → first_of (sheet_checks s) ≡ refusal k p
unfolding checked_of
checked_refused s k p e = refused_found (header_of s) (first_of (sheet_checks s)) k p e
