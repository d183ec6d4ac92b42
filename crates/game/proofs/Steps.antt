-- Laws of the steps of challenge and reply, in the words of the contracts: what each call comes to, by what the calls before it came to.
use mathlib.Core.Bool.{Bool, true, false}
use mathlib.Core.List.{List}
use mathlib.Core.Path.{◌≡◌, refl, sym, ap, ◌∙◌}
use Prim.Native.Nat.{ℕ, ◌+◌, ◌-◌, ◌*◌, ◌≤◌, ◌<◌}
use native.Mathlib.Omega.{arith}
use Rattle.model.specs.Finite.{list_from}
use Rattle.model.specs.Field.{Field}
use Rattle.model.specs.Card.{Line, fire}
use Rattle.model.specs.Sheet.{line_of, card_of}
use Rattle.model.specs.Walk.{Seen, examine}
use Rattle.theory.specs.Counted.{Counted, holds, fails, spent, cut}
use Rattle.theory.proofs.Lists.{least_within}
use Rattle.theory.proofs.Counted.{follow, followed, pair_spent, pair_zero, pair_next}
use Rattle.theory.proofs.Runs.{run_none, run_next, run_halves, replies}
use Rattle.sheet.specs.Reader.{Reads}
use Rattle.sheet.specs.declared.reader.Card.{Card}
use Rattle.sheet.proofs.Laws.{lines_are, card_lines}
use Rattle.moves.specs.Lines.{between, next_of}
use Rattle.game.specs.Challenges.{challenge_of, first_line, second_line, may_challenge, may_reply, replied, challenged}
use Rattle.game.proofs.Sides.{numbered, both_sides_is, left_pair}

-- What is found before the end lies within.
pub found_within : {A : Type 0} (p : A → Bool) (f : ℕ → A) (from to : ℕ) → from ≤ to → (found : ℕ) → found ≡ next_of p f from to → ¬ (found ≡ to) → (from ≤ found) × (found < to)
found_within p f from to fits found e n = let w = least_within (λ k. p (f k)) from to fits in (omega (arith, w.0, e), omega (arith, w.1, e))

module _ {s : List ℕ} {card : Card} (read : Reads s card) where
  -- All lines are the card's.
  all_lines : between (line_of s) 0 card.lines ≡ (card_of s).lines
  all_lines = let z : card.lines - 0 ≡ card.lines = omega arith in ap (list_from (line_of s) 0) z ∙ sym (card_lines read)

  module _ (r : ℕ) (a b : Field) where
    -- What the challenges of some numbers come to, and the replies by some lines to one of them, where the pairs left have r rounds.
    abbrev pub Challenged : ℕ → ℕ → Seen
    Challenged from to = challenged a b (card_of s).lines r (between (challenge_of s) from to)

    abbrev pub Replied : ℕ → ℕ → ℕ → Seen
    Replied number from to = replied a b (card_of s).lines r (challenge_of s number) (between (line_of s) from to)

  -- A pair that is counted holds where all challenges to it do.
  pub pair_challenged : (r v : ℕ) (a b : Field) → ¬ (v ≡ 0) → ¬ (r ≡ 0) → cut (v - 1) (Challenged (r - 1) a b 0 (2 * card.lines)) ≡ cut v (examine (card_of s).lines r a b)
  pair_challenged r v a b n k =
      ap (λ (m : ℕ). cut (v - 1) (Challenged (r - 1) a b 0 (2 * m))) (lines_are read)
      ∙ both_sides_is s a b (card_of s).lines (r - 1) (v - 1) (card_lines read ∙ ap (list_from (line_of s) 0) (lines_are read))
      ∙ sym (pair_next (card_of s).lines a b v r n k)

  module _ (r : ℕ) (a b : Field) (from to v : ℕ) (fits : from ≤ to) where
    module _ (number : ℕ) (e : number ≡ next_of (may_challenge a b) (challenge_of s) from to) where
      pub challenge_none : number ≡ to → holds v ≡ cut v (Challenged r a b from to)
      challenge_none d = run_none (numbered a b (card_of s).lines r) (challenge_of s) from to v fits number e d

      pub challenge_next : ¬ (number ≡ to) → (known : Counted) → known ≡ cut v (Replied r a b number 0 card.lines)
          → follow true known (Challenged r a b (number + 1) to) ≡ cut v (Challenged r a b from to)
      challenge_next n known d =
          followed true (Challenged r a b (number + 1) to) (run_next (numbered a b (card_of s).lines r) (challenge_of s) from to v fits number e n)
          (d ∙ ap (λ (ls : List Line). cut v (replied a b (card_of s).lines r (challenge_of s number) ls)) all_lines)

    module _ (middle : ℕ) (p : from ≤ middle) (q : middle ≤ to) (known : Counted) where
      pub challenge_half : known ≡ cut v (Challenged r a b from middle) → follow true known (Challenged r a b middle to) ≡ cut v (Challenged r a b from to)
      challenge_half d = followed true (Challenged r a b middle to) (run_halves (numbered a b (card_of s).lines r) (challenge_of s) from to v middle p q) d

      pub reply_half : (number : ℕ) → known ≡ cut v (Replied r a b number from middle) → follow false known (Replied r a b number middle to) ≡ cut v (Replied r a b number from to)
      reply_half number d = followed false (Replied r a b number middle to) (run_halves (replies _ _ _ _) (line_of s) from to v middle p q) d

    module _ (number answer : ℕ) (e : answer ≡ next_of (may_reply a b (challenge_of s number)) (line_of s) from to) where
      pub reply_none : answer ≡ to → fails v ≡ cut v (Replied r a b number from to)
      reply_none d = run_none (replies _ _ _ _) (line_of s) from to v fits answer e d

      module _ (n : ¬ (answer ≡ to)) where
        -- The first side's field in the pair left, and the second's.
        abbrev First : Field
        First = fire (line_of s (first_line card.lines number answer)) a

        abbrev Second : Field
        Second = fire (line_of s (second_line card.lines number answer)) b

        -- The first reply and then the others, by what is known of the pair that it leaves.
        reply_known : (known : Counted) → known ≡ cut v (examine (card_of s).lines r First Second)
            → follow false known (Replied r a b number (answer + 1) to) ≡ cut v (Replied r a b number from to)
        reply_known known d =
            followed false (Replied r a b number (answer + 1) to) (run_next (replies _ _ _ _) (line_of s) from to v fits answer e n)
            (d ∙ ap (cut v) (rw (lines_are read) (sym (left_pair s a b (card_of s).lines r number answer))))

        pub reply_spent : v ≡ 0 → spent ≡ cut v (Replied r a b number from to)
        reply_spent z = reply_known spent (pair_spent (card_of s).lines First Second v r z)

        pub reply_last : ¬ (v ≡ 0) → r ≡ 0 → holds (v - 1) ≡ cut v (Replied r a b number from to)
        reply_last k z = reply_known (holds (v - 1)) (pair_zero (card_of s).lines First Second v r k z)

        pub reply_next : ¬ (v ≡ 0) → ¬ (r ≡ 0) → (x y : Field) → x ≡ First → y ≡ Second → (known : Counted)
            → known ≡ cut (v - 1) (Challenged (r - 1) x y 0 (2 * card.lines))
            → follow false known (Replied r a b number (answer + 1) to) ≡ cut v (Replied r a b number from to)
        reply_next k m x y g h known d = reply_known known (d ∙ pair_challenged r v x y k m ∙ rw (g, h) refl)
