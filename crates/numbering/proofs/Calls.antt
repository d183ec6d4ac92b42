-- What the calls come to: where the sheet's checks refuse, where the call's own do, and what an accepted sheet gives.
use mathlib.Core.List.{List, [], ◌++◌, reverse, Memᴰ}
use mathlib.Core.Path.{◌≡◌, refl, ◌∙◌, ap}
use Prim.Native.Nat.{ℕ, ◌≤◌, ◌<◌}
use lib.ListN.{length, take, drop}
use Rattle.model.specs.Finite.{list_from}
use Rattle.model.specs.Field.{Field, at, tokens}
use Rattle.model.specs.Card.{reached_kinds, reached_count}
use Rattle.model.specs.Limits.{most_tokens, Limits}
use Rattle.model.specs.Shelf.{entry, listed, last_first, number_in, field_in, shelf_number, shelf_field}
use Rattle.model.specs.Sheet.{kind_count, field_count, card_of, field_of}
use Rattle.model.specs.Refusal.{refusal, first_of, accept_checks, Accepted, shelf_number_checks, shelf_field_checks}
use Rattle.model.specs.Answer.{refused, given, written, shelf_number_of, shelf_counts, shelf_field_of}
use Rattle.theory.proofs.Checks.{first_left, first_right}
use Rattle.theory.proofs.Sheets.{field_kinds, sheet_clear}
use Rattle.theory.proofs.Answers.{demand1}
use Rattle.theory.proofs.Shelves.{shelves}
use Rattle.theory.proofs.Writing.{first_counts}
use Rattle.validation.proofs.Checking.{less_stops, less_passes, past_stops, past_passes}

module _ (s : List ℕ) where
  -- The sheet's own checks refuse.
  module _ (k p : ℕ) (e : first_of (accept_checks s) ≡ refusal k p) where
    pub number_refused : (i : ℕ) → shelf_number_of s i ≡ refused k p
    unfolding shelf_number_checks
    number_refused i = (demand1 s).number_refused i k p (first_left (accept_checks s) _ k p e)

    pub field_refused : (t x : ℕ) (buffer : List ℕ) → shelf_field_of s t x buffer ≡ record { answer = refused k p; lent = buffer }
    unfolding shelf_field_checks
    field_refused t x buffer = (demand1 s).shelf_refused t x buffer k p (first_left (accept_checks s) _ k p e)

  module _ (ok : Accepted s) where
    limits : Limits s
    limits = (demand1 s).accepted.0 ok

    -- Field to number: 11 and 14, and the number.
    module _ (i : ℕ) where
      pub number_no_field : field_count s ≤ i → shelf_number_of s i ≡ refused 11 0
      unfolding Accepted shelf_number_checks
      number_no_field h = (demand1 s).number_refused i 11 0 (first_right (accept_checks s) _ ok ∙ past_stops 11 0 _ i (field_count s) h)

      module _ (h : i < field_count s) where
        pub number_over : most_tokens < tokens (kind_count s) (field_of s i) → shelf_number_of s i ≡ refused 14 0
        unfolding Accepted shelf_number_checks
        number_over l =
            (demand1 s).number_refused i 14 0
            (first_right (accept_checks s) _ ok ∙ past_passes 11 0 _ i (field_count s) h ∙ less_stops 14 0 [] most_tokens (tokens (kind_count s) (field_of s i)) l)

        number_given : tokens (kind_count s) (field_of s i) ≤ most_tokens
            → shelf_number_of s i ≡ given (record { size = tokens (kind_count s) (field_of s i); number = number_in (last_first (card_of s)) (tokens (kind_count s) (field_of s i)) (field_of s i) })
        unfolding shelf_number card_of
        number_given l = (demand1 s).numbered i (((demand1 s).number_taken i).1 (limits, h, l))

    -- Number to field: 14, 15 and 12, and the field.
    module _ (t x : ℕ) (buffer : List ℕ) where
      pub field_over : most_tokens < t → shelf_field_of s t x buffer ≡ record { answer = refused 14 0; lent = buffer }
      unfolding Accepted shelf_field_checks
      field_over h = (demand1 s).shelf_refused t x buffer 14 0 (first_right (accept_checks s) _ ok ∙ less_stops 14 0 _ most_tokens t h)

      module _ (h : t ≤ most_tokens) where
        pub field_past : entry (reached_count (card_of s)) t ≤ x → shelf_field_of s t x buffer ≡ record { answer = refused 15 0; lent = buffer }
        unfolding Accepted shelf_field_checks
        field_past l =
            (demand1 s).shelf_refused t x buffer 15 0
            (first_right (accept_checks s) _ ok ∙ less_passes 14 0 _ most_tokens t h ∙ past_stops 15 0 _ x (entry (reached_count (card_of s)) t) l)

        module _ (l : x < entry (reached_count (card_of s)) t) where
          pub field_short : length buffer < kind_count s → shelf_field_of s t x buffer ≡ record { answer = refused 12 0; lent = buffer }
          unfolding Accepted shelf_field_checks
          field_short m =
              (demand1 s).shelf_refused t x buffer 12 0
              (first_right (accept_checks s) _ ok ∙ less_passes 14 0 _ most_tokens t h ∙ past_passes 15 0 _ x (entry (reached_count (card_of s)) t) l ∙ less_stops 12 0 [] (length buffer) (kind_count s) m)

          pub field_given : kind_count s ≤ length buffer
              → shelf_field_of s t x buffer ≡ record { answer = given tt; lent = written (list_from (field_in (last_first (card_of s)) t x) 0 (kind_count s)) buffer }
          unfolding shelf_counts shelf_field
          field_given m = (demand1 s).shelved t x buffer (((demand1 s).shelf_taken t x (length buffer)).1 (limits, h, l, m))

-- Field to number, by the list of kinds, the counts and the size that were found.
module _ (s : List ℕ) (ok : Accepted s) (i : ℕ) {kinds : List ℕ} {a : Field} {t : ℕ}
    (all : kinds ≡ reached_kinds (card_of s)) (counts : a ≡ field_of s i) (size : t ≡ tokens (kind_count s) (field_of s i)) where
  -- The field is one of those that are listed.
  pub listed_by : Memᴰ a (listed (reverse kinds) t)
  unfolding card_of
  listed_by = rw (all, counts, size) (((shelves s (tokens (kind_count s) (field_of s i))).fields (field_of s i)).1 (field_kinds s (sheet_clear s ok) i, refl))

  pub number_by : i < field_count s → t ≤ most_tokens → {x : ℕ} → x ≡ number_in (reverse kinds) t a → shelf_number_of s i ≡ given (record { size = t; number = x })
  number_by h l e = number_given s ok i h (rw size at l) ∙ ap given (rw (e, all, counts, size) refl)

-- Number to field, by the counts that were found: the first n of these are stored.
pub counts_by : (n t x : ℕ) (kinds counts : List ℕ) → n ≤ length counts → at counts ≡ field_in (reverse kinds) t x → take n counts ≡ list_from (field_in (reverse kinds) t x) 0 n
counts_by n t x kinds counts long e = first_counts counts n long ∙ ap (λ (f : Field). list_from f 0 n) e

-- What a copy leaves in a lent buffer.
pub copied : (xs buffer after : List ℕ) → after ≡ xs ++ drop (length xs) buffer → after ≡ written xs buffer
unfolding written
copied xs buffer after e = e
