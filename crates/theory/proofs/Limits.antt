-- A sheet is accepted just when it lies within the written limits.
use mathlib.Core.Bool.{Bool}
use mathlib.Core.List.{List}
use mathlib.Core.Path.{◌≡◌, sym, ◌∙◌}
use Prim.Native.Nat.{ℕ, ◌+◌, ◌≤◌, ◌<◌}
use native.Mathlib.Decide.{dec_lt}
use native.Mathlib.Omega.{arith}
use lib.Dec.{T, ltb, eqb}
use lib.ListN.{length}
use Rattle.model.specs.Finite.{both, list_from}
use Rattle.model.specs.Field.{unit}
use Rattle.model.specs.Card.{Reached, reached}
use Rattle.model.specs.Norm.{IsNorm, kind_norm}
use Rattle.theory.specs.Meanings.{Norms}
use Rattle.model.specs.Sheet.{lines_offset, u32_at, kind_count, code_count, line_count, field_count, fields_offset, total_of, line_of, card_of}
use Rattle.model.specs.Limits.{most_kinds, most_codes, most_lines, most_fields, norm_limit, Limits}
use Rattle.model.specs.Refusal.{check, clear, first_of, header_checks, line_checks, norm_checks, sheet_checks, Accepted}
use Rattle.theory.proofs.Exec.{Tells, tells_and, tells_lt, tells_eq}
use Rattle.theory.proofs.Sheets.{first_append, then_clear, clear_cons, clear_nil, small, not_small, not_less, tame, sheet_clear, sheet_reaches, under_kinds, tells_reached, positive, certified}
use Rattle.theory.proofs.Checks.{not_outside, not_differ, both_then, all_clear, each_clear, from_outside, from_less, from_differ, all_none, cons_none, each_none}
use Rattle.theory.proofs.Fewest.{norms}

-- What the checks 1 to 8 ask of a sheet, in plain words.
pub record WellFormed (s : List ℕ) : Type 0 where
  pub bytes : lines_offset ≤ length s
  pub kinds : (1 ≤ kind_count s) × (kind_count s ≤ most_kinds)
  pub codes : (1 ≤ code_count s) × (code_count s ≤ most_codes)
  pub lines : line_count s ≤ most_lines
  pub fields : field_count s ≤ most_fields
  pub layout : (u32_at s 8 ≡ lines_offset) × (u32_at s 12 ≡ fields_offset s) × (u32_at s 16 ≡ total_of s) × (length s ≡ total_of s)
  pub line : (j : ℕ) → j < line_count s → ((line_of s j).kind < kind_count s) × ((line_of s j).code < code_count s)

module _ (s : List ℕ) (W : WellFormed s) where
  header : first_of (header_checks s) ≡ clear
  unfolding header_checks
  header =
      clear_cons 1 0 _ _ (not_less _ _ W.bytes) (clear_cons 2 0 _ _ (not_outside 1 most_kinds (kind_count s) W.kinds.0 W.kinds.1)
      (clear_cons 3 0 _ _ (not_outside 1 most_codes (code_count s) W.codes.0 W.codes.1) (clear_cons 4 0 _ _ (not_less most_lines (line_count s) W.lines)
      (clear_cons 5 0 _ _ (not_less most_fields (field_count s) W.fields) (clear_cons 6 0 _ _ (not_differ (u32_at s 8) 20 W.layout.0)
      (clear_cons 6 1 _ _ (not_differ (u32_at s 12) (fields_offset s) W.layout.1) (clear_cons 6 2 _ _ (not_differ (u32_at s 16) (total_of s) W.layout.2)
      (clear_cons 6 3 _ _ (not_differ (length s) (total_of s) W.layout.3) clear_nil))))))))

  of_lines : first_of (line_checks s) ≡ clear
  unfolding line_checks
  of_lines = all_clear _ 0 (line_count s) (λ j h.
      let u = W.line (0 + j) (omega (arith, h)) in
      clear_cons 7 _ _ _ (not_small (line_of s (0 + j)).kind (kind_count s) u.0) (clear_cons 8 _ _ _ (not_small (line_of s (0 + j)).code (code_count s) u.1) clear_nil))

  pub formed_clear : first_of (sheet_checks s) ≡ clear
  unfolding sheet_checks
  formed_clear = first_append (header_checks s) (line_checks s) ∙ both_then (first_of (header_checks s)) (first_of (line_checks s)) header of_lines

pub clear_formed : (s : List ℕ) → first_of (sheet_checks s) ≡ clear → WellFormed s
unfolding sheet_checks header_checks line_checks
clear_formed s ok =
    let a = then_clear (first_of (header_checks s)) (first_of (line_checks s)) (sym (first_append (header_checks s) (line_checks s)) ∙ ok) in
    let c1 = cons_none 1 0 _ _ a.0 in
    let c2 = cons_none 2 0 _ _ c1.1 in
    let c3 = cons_none 3 0 _ _ c2.1 in
    let c4 = cons_none 4 0 _ _ c3.1 in
    let c5 = cons_none 5 0 _ _ c4.1 in
    let d0 = cons_none 6 0 _ _ c5.1 in
    let d1 = cons_none 6 1 _ _ d0.1 in
    let d2 = cons_none 6 2 _ _ d1.1 in
    let d3 = cons_none 6 3 _ _ d2.1 in
    record {
      bytes = from_less (length s) 20 c1.0;
      kinds = from_outside 1 most_kinds (kind_count s) c2.0;
      codes = from_outside 1 most_codes (code_count s) c3.0;
      lines = from_less most_lines (line_count s) c4.0;
      fields = from_less most_fields (field_count s) c5.0;
      layout = (from_differ (u32_at s 8) 20 d0.0, from_differ (u32_at s 12) (fields_offset s) d1.0, from_differ (u32_at s 16) (total_of s) d2.0, from_differ (length s) (total_of s) d3.0);
      line = λ j h.
          let z : 0 + j ≡ j = omega arith in
          let f = all_none _ 0 (line_count s) a.1 j h in
          let x = cons_none 7 _ _ _ f in
          let y = cons_none 8 _ _ _ x.1 in
          let u : ((line_of s (0 + j)).kind < kind_count s) × ((line_of s (0 + j)).code < code_count s) = (small _ _ x.0, small _ _ y.0) in
          rw z at u;
    }

module _ (s : List ℕ) (L : Limits s) where
  of_sheet : first_of (sheet_checks s) ≡ clear
  of_sheet = formed_clear s
      (record { bytes = L.bytes; kinds = L.kinds; codes = L.codes; lines = L.lines; fields = L.fields; layout = L.layout; line = L.line })

  N : Norms (card_of s)
  N = norms (card_of s) (tame s of_sheet)

  found : (k : ℕ) → Reached (card_of s) k → (0 < kind_norm (card_of s) k) × (kind_norm (card_of s) k ≤ norm_limit)
  unfolding IsNorm
  found k h = go (dec_lt 0 (kind_norm (card_of s) k)) (L.norm k h)
    where
      go : Dec (0 < kind_norm (card_of s) k) → (v : ℕ) × (v ≤ norm_limit) × IsNorm (card_of s) (unit k) v → (0 < kind_norm (card_of s) k) × (kind_norm (card_of s) k ≤ norm_limit)
      go (yes p) (v, l, e) = (p, omega (arith, l, (N.kinds k p).1.1 v e.0))
      go (no p) (v, l, e) = absurd (N.missing k h (omega arith) v e.0)

  of_norms : first_of (norm_checks s) ≡ clear
  unfolding norm_checks
  of_norms =
      first_append (list_from (λ k. check 9 k (both (r k) (eqb (v k) 0))) 0 (kind_count s)) (list_from (λ k. check 10 k (both (r k) (ltb norm_limit (v k)))) 0 (kind_count s))
      ∙ both_then _ _
      (each_clear 9 (λ k. both (r k) (eqb (v k) 0)) 0 (kind_count s) (λ k _ t. let u = (tells_and _ _ (is_reached (0 + k)) (tells_eq (v (0 + k)) 0)).fact t in omega (arith, (at_v (0 + k) u.0).0, u.1)))
      (each_clear 10 (λ k. both (r k) (ltb norm_limit (v k))) 0 (kind_count s) (λ k _ t. let u = (tells_and _ _ (is_reached (0 + k)) (tells_lt norm_limit (v (0 + k)))).fact t in omega (arith, (at_v (0 + k) u.0).1, u.1)))
    where
      v : ℕ → ℕ
      v = kind_norm (card_of s)

      r : ℕ → Bool
      r = reached (card_of s)

      is_reached : (k : ℕ) → Tells (r k) (Reached (card_of s) k)
      is_reached k = record { fact = ((sheet_reaches s).test_iff k).0; test = ((sheet_reaches s).test_iff k).1 }

      at_v : (k : ℕ) → Reached (card_of s) k → (0 < v k) × (v k ≤ norm_limit)
      at_v k h = found k h

  -- "Every sheet within the written limits" is accepted.
  pub limits_accepted : Accepted s
  unfolding Accepted
  limits_accepted = first_append (sheet_checks s) (norm_checks s) ∙ both_then (first_of (sheet_checks s)) (first_of (norm_checks s)) of_sheet of_norms

module _ (s : List ℕ) (ok : Accepted s) where
  norms_clear : first_of (norm_checks s) ≡ clear
  unfolding Accepted
  norms_clear = (then_clear (first_of (sheet_checks s)) (first_of (norm_checks s)) (sym (first_append (sheet_checks s) (norm_checks s)) ∙ ok)).1

  pub limit_of : (k : ℕ) → k < kind_count s → kind_norm (card_of s) k ≤ norm_limit
  unfolding norm_checks
  limit_of k h = go (dec_lt norm_limit (v k))
    where
      v : ℕ → ℕ
      v = kind_norm (card_of s)

      r : ℕ → Bool
      r = reached (card_of s)

      zero_left : 0 + k ≡ k
      zero_left = omega arith

      tens : first_of (list_from (λ k. check 10 k (both (r k) (ltb norm_limit (v k)))) 0 (kind_count s)) ≡ clear
      tens =
          (then_clear (first_of (list_from (λ k. check 9 k (both (r k) (eqb (v k) 0))) 0 (kind_count s))) _
          (sym (first_append (list_from (λ k. check 9 k (both (r k) (eqb (v k) 0))) 0 (kind_count s)) (list_from (λ k. check 10 k (both (r k) (ltb norm_limit (v k)))) 0 (kind_count s))) ∙ norms_clear)).1

      not_over : ¬ T (both (r k) (ltb norm_limit (v k)))
      not_over = rw zero_left at (each_none 10 (λ k. both (r k) (ltb norm_limit (v k))) 0 (kind_count s) tens k h)

      go : Dec (norm_limit < v k) → v k ≤ norm_limit
      go (yes q) = absurd (not_over ((tells_and _ _ (tells_reached s ok k) (tells_lt norm_limit (v k))).test ((certified s ok).out k (omega arith), q)))
      go (no q) = omega arith

  pub accepted_limits : Limits s
  accepted_limits =
      let W = clear_formed s (sheet_clear s ok) in
      record {
        bytes = W.bytes;
        kinds = W.kinds;
        codes = W.codes;
        lines = W.lines;
        fields = W.fields;
        layout = W.layout;
        line = W.line;
        norm = λ k v. (kind_norm (card_of s) k, limit_of k (under_kinds s k v), ((norms (card_of s) (tame s (sheet_clear s ok))).kinds k (positive s ok k v)).1);
      }
