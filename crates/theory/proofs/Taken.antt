-- What each call takes: when its checks find nothing.
use mathlib.Core.List.{List, [], ◌++◌}
use mathlib.Core.Logic.{◌↔◌}
use mathlib.Core.Path.{◌≡◌, sym, ◌∙◌}
use Prim.Native.Nat.{ℕ, ◌+◌, ◌*◌, ◌≤◌, ◌<◌}
use lib.Dec.{ltb}
use lib.ListN.{length}
use Rattle.model.specs.Field.{tokens}
use Rattle.model.specs.Card.{reached_count}
use Rattle.model.specs.Shelf.{entry}
use Rattle.model.specs.Sheet.{kind_count, field_count, card_of, field_of}
use Rattle.model.specs.Limits.{most_kinds, most_rounds, most_tokens, most_listed, last_desk, Limits}
use Rattle.model.specs.Refusal.{Check, check, clear, refusal, first_of, sheet_checks, accept_checks, Accepted, settle_checks, settle_since_checks, compare_checks, form_checks, walk_checks, row_checks, shelf_number_checks, shelf_field_checks, squads_checks, frequencies_checks}
use Rattle.model.specs.Answer.{row_check_of}
use Rattle.theory.proofs.Exec.{tells_lt}
use Rattle.theory.proofs.Sheets.{first_append, then_clear, clear_cons, clear_nil, small, not_small, not_less, call_checks}
use Rattle.theory.proofs.Checks.{cons_none, not_outside, from_outside, from_less, from_some, not_none, first_right, first_here}
use Rattle.theory.proofs.Limits.{limits_accepted, accepted_limits}

-- A row is taken of a table of at most 32 kinds that has it.
pub row_taken : (n k : ℕ) (table : List ℕ) → (row_check_of n k table ≡ clear) ↔ ((1 ≤ n) × (n ≤ most_kinds) × (k < n) × (n * n ≤ length table))
unfolding row_check_of row_checks
row_taken n k table = (
  (λ e.
      let x = cons_none 2 0 _ _ e in
      let y = cons_none 11 0 _ _ x.1 in
      let z = cons_none 12 0 _ _ y.1 in
      let w = from_outside 1 most_kinds n x.0 in
      (w.0, w.1, small k n y.0, from_less (length table) (n * n) z.0)),
  (λ p. clear_cons 2 0 _ _ (not_outside 1 most_kinds n p.0 p.1)
      (clear_cons 11 0 _ _ (not_small k n p.2) (clear_cons 12 0 _ [] (not_less (length table) (n * n) p.3) clear_nil))),
)

module _ (s : List ℕ) where
  -- Walk takes a desk, a sheet that passes 1 to 8, two of its fields and a round limit.
  pub walk_taken : (i j limit d : ℕ) → (first_of (walk_checks s i j limit d) ≡ clear)
      ↔ ((d ≤ last_desk) × (first_of (sheet_checks s) ≡ clear) × (i < field_count s) × (j < field_count s) × (limit ≤ most_rounds))
  unfolding walk_checks
  walk_taken i j limit d = (
    (λ e.
        let w = cons_none 16 0 _ _ e in
        let p = then_clear (first_of (sheet_checks s)) _ (sym (first_append (sheet_checks s) _) ∙ w.1) in
        let x = cons_none 11 0 _ _ p.1 in
        let y = cons_none 11 1 _ _ x.1 in
        let z = cons_none 13 0 _ _ y.1 in
        (from_less last_desk d w.0, p.0, small i (field_count s) x.0, small j (field_count s) y.0, from_less most_rounds limit z.0)),
    (λ p. clear_cons 16 0 _ _ (not_less last_desk d p.0)
        (first_right (sheet_checks s) _ p.1
        ∙ clear_cons 11 0 _ _ (not_small i (field_count s) p.2)
        (clear_cons 11 1 _ _ (not_small j (field_count s) p.3) (clear_cons 13 0 _ [] (not_less most_rounds limit p.4) clear_nil)))),
  )

  -- Walk refuses a desk past the last before all else.
  pub walk_desk : (i j limit d : ℕ) → last_desk < d → first_of (walk_checks s i j limit d) ≡ refusal 16 0
  unfolding walk_checks
  walk_desk i j limit d h = first_here (check 16 0 (ltb last_desk d)) _ ((tells_lt last_desk d).test h)

  -- The checks of a call after those of the sheet.
  sheet_then : (xs : List Check) → first_of (accept_checks s ++ xs) ≡ clear → Limits s × (first_of xs ≡ clear)
  unfolding Accepted
  sheet_then xs e =
      let p = then_clear (first_of (accept_checks s)) (first_of xs) (sym (first_append (accept_checks s) xs) ∙ e) in
      (accepted_limits s p.0, p.1)

  -- Settle takes a sheet within the limits and a table with room.
  pub settle_taken : (size : ℕ) → (first_of (settle_checks s size) ≡ clear) ↔ (Limits s × (kind_count s * kind_count s ≤ size))
  unfolding settle_checks
  settle_taken size = (
    (λ e.
        let p = sheet_then _ e in
        let a = cons_none 12 0 _ _ p.1 in
        (p.0, from_less size (kind_count s * kind_count s) a.0)),
    (λ p. call_checks s (limits_accepted s p.0) _ ∙ clear_cons 12 0 _ [] (not_less size (kind_count s * kind_count s) p.1) clear_nil),
  )

  -- Settle with the marks takes a sheet within the limits, a table with room and a buffer with room for the marks.
  pub since_taken : (size marks : ℕ) → (first_of (settle_since_checks s size marks) ≡ clear) ↔ (Limits s × (kind_count s * kind_count s ≤ size) × (kind_count s ≤ marks))
  unfolding settle_since_checks
  since_taken size marks = (
    (λ e.
        let p = sheet_then _ e in
        let a = cons_none 12 0 _ _ p.1 in
        let b = cons_none 12 0 _ _ a.1 in
        (p.0, from_less size (kind_count s * kind_count s) a.0, from_less marks (kind_count s) b.0)),
    (λ p. call_checks s (limits_accepted s p.0) _
        ∙ clear_cons 12 0 _ _ (not_less size (kind_count s * kind_count s) p.1) (clear_cons 12 0 _ [] (not_less marks (kind_count s) p.2) clear_nil)),
  )

  -- Compare takes a sheet within the limits and two of its fields.
  pub compare_taken : (i j : ℕ) → (first_of (compare_checks s i j) ≡ clear) ↔ (Limits s × (i < field_count s) × (j < field_count s))
  unfolding compare_checks
  compare_taken i j = (
    (λ e.
        let p = sheet_then _ e in
        let a = cons_none 11 0 _ _ p.1 in
        let b = cons_none 11 1 _ _ a.1 in
        (p.0, small i (field_count s) a.0, small j (field_count s) b.0)),
    (λ p. call_checks s (limits_accepted s p.0) _
        ∙ clear_cons 11 0 _ _ (not_small i (field_count s) p.1) (clear_cons 11 1 _ [] (not_small j (field_count s) p.2) clear_nil)),
  )

  -- Prime form takes a sheet within the limits, one of its fields and a buffer with room.
  pub form_taken : (i size : ℕ) → (first_of (form_checks s i size) ≡ clear) ↔ (Limits s × (i < field_count s) × (kind_count s ≤ size))
  unfolding form_checks
  form_taken i size = (
    (λ e.
        let p = sheet_then _ e in
        let a = cons_none 11 0 _ _ p.1 in
        let b = cons_none 12 0 _ _ a.1 in
        (p.0, small i (field_count s) a.0, from_less size (kind_count s) b.0)),
    (λ p. call_checks s (limits_accepted s p.0) _
        ∙ clear_cons 11 0 _ _ (not_small i (field_count s) p.1) (clear_cons 12 0 _ [] (not_less size (kind_count s) p.2) clear_nil)),
  )

  -- Shelf number takes a sheet within the limits and one of its fields, of few tokens.
  pub number_taken : (i : ℕ) → (first_of (shelf_number_checks s i) ≡ clear) ↔ (Limits s × (i < field_count s) × (tokens (kind_count s) (field_of s i) ≤ most_tokens))
  unfolding shelf_number_checks
  number_taken i = (
    (λ e.
        let p = sheet_then _ e in
        let x = cons_none 11 0 _ _ p.1 in
        let y = cons_none 14 0 _ _ x.1 in
        (p.0, small i (field_count s) x.0, from_less most_tokens (tokens (kind_count s) (field_of s i)) y.0)),
    (λ p. call_checks s (limits_accepted s p.0) _
        ∙ clear_cons 11 0 _ _ (not_small i (field_count s) p.1) (clear_cons 14 0 _ [] (not_less most_tokens (tokens (kind_count s) (field_of s i)) p.2) clear_nil)),
  )

  -- Shelf field takes a sheet within the limits, a size of few tokens, a number under its entry and a buffer with room.
  pub shelf_taken : (t x size : ℕ) → (first_of (shelf_field_checks s t x size) ≡ clear)
      ↔ (Limits s × (t ≤ most_tokens) × (x < entry (reached_count (card_of s)) t) × (kind_count s ≤ size))
  unfolding shelf_field_checks
  shelf_taken t x size = (
    (λ e.
        let p = sheet_then _ e in
        let a = cons_none 14 0 _ _ p.1 in
        let b = cons_none 15 0 _ _ a.1 in
        let c = cons_none 12 0 _ _ b.1 in
        (p.0, from_less most_tokens t a.0, small x (entry (reached_count (card_of s)) t) b.0, from_less size (kind_count s) c.0)),
    (λ p. call_checks s (limits_accepted s p.0) _
        ∙ clear_cons 14 0 _ _ (not_less most_tokens t p.1)
        (clear_cons 15 0 _ _ (not_small x (entry (reached_count (card_of s)) t) p.2) (clear_cons 12 0 _ [] (not_less size (kind_count s) p.3) clear_nil))),
  )

  -- Squads takes a sheet within the limits, two of its fields, of which the second is not empty, and a buffer with room.
  pub squads_taken : (i j size : ℕ) → (first_of (squads_checks s i j size) ≡ clear)
      ↔ (Limits s × (i < field_count s) × (j < field_count s) × (0 < tokens (kind_count s) (field_of s j)) × (kind_count s ≤ size))
  unfolding squads_checks
  squads_taken i j size = (
    (λ e.
        let p = sheet_then _ e in
        let a = cons_none 11 0 _ _ p.1 in
        let b = cons_none 11 1 _ _ a.1 in
        let c = cons_none 17 1 _ _ b.1 in
        let d = cons_none 12 0 _ _ c.1 in
        (p.0, small i (field_count s) a.0, small j (field_count s) b.0, from_some (tokens (kind_count s) (field_of s j)) c.0, from_less size (kind_count s) d.0)),
    (λ p. call_checks s (limits_accepted s p.0) _
        ∙ clear_cons 11 0 _ _ (not_small i (field_count s) p.1)
        (clear_cons 11 1 _ _ (not_small j (field_count s) p.2)
        (clear_cons 17 1 _ _ (not_none (tokens (kind_count s) (field_of s j)) p.3) (clear_cons 12 0 _ [] (not_less size (kind_count s) p.4) clear_nil)))),
  )

  -- Frequencies takes a sheet within the limits, one of its fields, a size of few tokens whose entry is not too large and a buffer with room.
  pub frequencies_taken : (i t size : ℕ) → (first_of (frequencies_checks s i t size) ≡ clear)
      ↔ (Limits s × (i < field_count s) × (t ≤ most_tokens) × (entry (reached_count (card_of s)) t ≤ most_listed) × (kind_count s + 2 ≤ size))
  unfolding frequencies_checks
  frequencies_taken i t size = (
    (λ e.
        let p = sheet_then _ e in
        let a = cons_none 11 0 _ _ p.1 in
        let b = cons_none 14 0 _ _ a.1 in
        let c = cons_none 18 0 _ _ b.1 in
        let d = cons_none 12 0 _ _ c.1 in
        (p.0, small i (field_count s) a.0, from_less most_tokens t b.0, from_less most_listed (entry (reached_count (card_of s)) t) c.0, from_less size (kind_count s + 2) d.0)),
    (λ p. call_checks s (limits_accepted s p.0) _
        ∙ clear_cons 11 0 _ _ (not_small i (field_count s) p.1)
        (clear_cons 14 0 _ _ (not_less most_tokens t p.2)
        (clear_cons 18 0 _ _ (not_less most_listed (entry (reached_count (card_of s)) t) p.3) (clear_cons 12 0 _ [] (not_less size (kind_count s + 2) p.4) clear_nil)))),
  )
