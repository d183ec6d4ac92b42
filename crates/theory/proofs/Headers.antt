-- The bytes of a header that passes 1 to 6.
use mathlib.Core.List.{List, [], ◌∷◌, ◌++◌}
use mathlib.Core.Path.{◌≡◌, refl, ◌∙◌, ap}
use Prim.Native.Nat.{ℕ, zero, suc, ◌+◌, ◌*◌, ◌/◌, ◌%◌, ◌≤◌}
use native.Mathlib.Omega.{arith}
use lib.ListN.{length, take, drop}
use lib.Seq.{drop-cons}
use Rattle.model.specs.Finite.{list_from}
use Rattle.model.specs.Sheet.{lines_offset, byte, u16_at, u32_at, kind_count, code_count, line_count, field_count, fields_offset, total_of}
use Rattle.model.specs.Refusal.{clear, first_of, header_checks}
use Rattle.model.specs.Plain.{two_bytes, four_bytes, header_bytes}
use Rattle.theory.specs.Widths.{Bytes}
use Rattle.theory.proofs.Checks.{from_less, from_differ, cons_none}

-- A part of a sheet, byte by byte.
part : (s : List ℕ) (i m : ℕ) → i + m ≤ length s → take m (drop i s) ≡ list_from (byte s) i m
unfolding list_from
part s i zero h = refl
part s i (suc m) h = rw (drop-cons s i 0 (omega arith)) (ap (λ xs. byte s i ∷ xs) (part s (suc i) m (omega arith)))

joined : {a b c d : List ℕ} → a ≡ b → c ≡ d → a ++ c ≡ b ++ d
joined e f = cc

module _ (s : List ℕ) (bytes : Bytes s) where
  two_written : (i : ℕ) → byte s i ∷ byte s (i + 1) ∷ [] ≡ two_bytes (u16_at s i)
  two_written i =
      let low : byte s i ≡ u16_at s i % 256 = omega (arith, bytes i) in
      let high : byte s (i + 1) ≡ u16_at s i / 256 = omega (arith, bytes i) in
      cc

  four_written : (i : ℕ) → (byte s i ∷ byte s (i + 1) ∷ []) ++ (byte s (i + 2) ∷ byte s (i + 2 + 1) ∷ []) ≡ four_bytes (u32_at s i)
  four_written i =
      let low : u16_at s i ≡ u32_at s i % 65536 = omega (arith, bytes i, bytes (i + 1)) in
      let high : u16_at s (i + 2) ≡ u32_at s i / 65536 = omega (arith, bytes i, bytes (i + 1)) in
      joined (two_written i ∙ ap two_bytes low) (two_written (i + 2) ∙ ap two_bytes high)

  pub headers : first_of (header_checks s) ≡ clear → take lines_offset s ≡ header_bytes (kind_count s) (code_count s) (line_count s) (field_count s)
  unfolding header_checks fields_offset total_of list_from
  headers e =
      let c1 = cons_none 1 0 _ _ e in
      let c2 = cons_none 2 0 _ _ c1.1 in
      let c3 = cons_none 3 0 _ _ c2.1 in
      let c4 = cons_none 4 0 _ _ c3.1 in
      let c5 = cons_none 5 0 _ _ c4.1 in
      let d0 = cons_none 6 0 _ _ c5.1 in
      let d1 = cons_none 6 1 _ _ d0.1 in
      let d2 = cons_none 6 2 _ _ d1.1 in
      let lines : u32_at s 8 ≡ 20 = from_differ (u32_at s 8) 20 d0.0 in
      let fields : u32_at s 12 ≡ 20 + line_count s * (2 + kind_count s) = from_differ _ _ d1.0 in
      let total : u32_at s 16 ≡ 20 + line_count s * (2 + kind_count s) + 2 * kind_count s * field_count s = from_differ _ _ d2.0 in
      part s 0 20 (from_less (length s) 20 c1.0)
      ∙ joined (two_written 0) (joined (two_written 2) (joined (two_written 4) (joined (two_written 6)
      (joined (four_written 8 ∙ ap four_bytes lines) (joined (four_written 12 ∙ ap four_bytes fields) (four_written 16 ∙ ap four_bytes total))))))
