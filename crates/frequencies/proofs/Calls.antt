-- What the call comes to: where the sheet's checks refuse, where its own do, and what an accepted sheet gives.
use mathlib.Core.List.{List, []}
use mathlib.Core.Path.{◌≡◌, ◌∙◌}
use Prim.Native.Nat.{ℕ, ◌+◌, ◌≤◌, ◌<◌}
use lib.ListN.{length}
use Rattle.model.specs.Card.{reached_count}
use Rattle.model.specs.Limits.{most_tokens, most_listed}
use Rattle.model.specs.Shelf.{entry}
use Rattle.model.specs.Sheet.{kind_count, field_count, card_of}
use Rattle.model.specs.Refusal.{refusal, first_of, accept_checks, Accepted, frequencies_checks}
use Rattle.model.specs.Answer.{refused, given, written, frequencies, frequencies_of}
use Rattle.theory.proofs.Checks.{first_left, first_right}
use Rattle.theory.proofs.Answers.{demand1}
use Rattle.theory.proofs.Told.{gives}
use Rattle.validation.proofs.Checking.{less_stops, less_passes, past_stops, past_passes}

module _ (s : List ℕ) (i t : ℕ) (buffer : List ℕ) where
  -- What a refusal comes to, as a contract asks for it.
  abbrev pub Refuses : ℕ → ℕ → Type 0
  Refuses k p = (refused k p ≡ (frequencies_of s i t buffer).answer) × (buffer ≡ (frequencies_of s i t buffer).lent)

  refuses : (k p : ℕ) → first_of (frequencies_checks s i t (length buffer)) ≡ refusal k p → Refuses k p
  refuses k p e = gives ((demand1 s).frequencies_refused i t buffer k p e)

  -- The sheet's own checks refuse.
  pub sheet_refuses : (k p : ℕ) → first_of (accept_checks s) ≡ refusal k p → Refuses k p
  unfolding frequencies_checks
  sheet_refuses k p e = refuses k p (first_left (accept_checks s) _ k p e)

  -- The call's own: 11, 14, 18 and 12.
  module _ (ok : Accepted s) where
    abbrev many : ℕ
    many = entry (reached_count (card_of s)) t

    pub no_field : field_count s ≤ i → Refuses 11 0
    unfolding Accepted frequencies_checks
    no_field h = refuses 11 0 (first_right (accept_checks s) _ ok ∙ past_stops 11 0 _ i (field_count s) h)

    module _ (h : i < field_count s) where
      pub size_over : most_tokens < t → Refuses 14 0
      unfolding Accepted frequencies_checks
      size_over l = refuses 14 0 (first_right (accept_checks s) _ ok ∙ past_passes 11 0 _ i (field_count s) h ∙ less_stops 14 0 _ most_tokens t l)

      module _ (l : t ≤ most_tokens) where
        pub too_many : most_listed < many → Refuses 18 0
        unfolding Accepted frequencies_checks
        too_many m =
            refuses 18 0
            (first_right (accept_checks s) _ ok ∙ past_passes 11 0 _ i (field_count s) h ∙ less_passes 14 0 _ most_tokens t l ∙ less_stops 18 0 _ most_listed many m)

        module _ (m : many ≤ most_listed) where
          pub buffer_short : length buffer < kind_count s + 2 → Refuses 12 0
          unfolding Accepted frequencies_checks
          buffer_short q =
              refuses 12 0
              (first_right (accept_checks s) _ ok ∙ past_passes 11 0 _ i (field_count s) h ∙ less_passes 14 0 _ most_tokens t l ∙ less_passes 18 0 _ most_listed many m
              ∙ less_stops 12 0 [] (length buffer) (kind_count s + 2) q)

          -- The counts are written.
          pub counts_written : (after : List ℕ) → kind_count s + 2 ≤ length buffer → after ≡ written (frequencies s i t) buffer
              → (given tt ≡ (frequencies_of s i t buffer).answer) × (after ≡ (frequencies_of s i t buffer).lent)
          counts_written after q d =
              let g = gives ((demand1 s).frequencies_given i t buffer (((demand1 s).frequencies_taken i t (length buffer)).1 ((demand1 s).accepted.0 ok, h, l, m, q))) in
              (g.0, d ∙ g.1)
