-- Laws of the challenges to a pair by number, and of the pair that a challenge and its reply leave.
use mathlib.Core.Bool.{true, false}
use mathlib.Core.List.{List}
use mathlib.Core.Path.{◌≡◌, refl, sym, ap, ◌∙◌}
use Prim.Native.Nat.{ℕ, zero, suc, ◌+◌, ◌-◌, ◌*◌, ◌≤◌, ◌<◌}
use native.Mathlib.Decide.{dec_lt}
use native.Mathlib.Omega.{arith}
use borrow.Author.Tests.{lt-ltb, le-ltb}
use Rattle.model.specs.Finite.{list_from}
use Rattle.model.specs.Field.{Field}
use Rattle.model.specs.Card.{Line, fire}
use Rattle.model.specs.Sheet.{line_count, line_of}
use Rattle.model.specs.Walk.{Seen, more, try_challenges, examine}
use Rattle.theory.specs.Game.{first, second, side_of}
use Rattle.theory.specs.Counted.{cut, leaves}
use Rattle.theory.proofs.Counted.{follow, then_holds}
use Rattle.theory.proofs.Runs.{Runs, run_halves}
use Rattle.moves.specs.Lines.{between}
use Rattle.game.specs.Challenges.{Challenge, challenge_of, first_line, second_line, may_challenge, replied, challenged}

-- The challenges by number are a run.
pub numbered : (a b : Field) (xs : List Line) (r : ℕ) → Runs (may_challenge a b) true (λ h. replied a b xs r h xs) (challenged a b xs r)
unfolding challenged
numbered a b xs r = record {
  none = refl;
  pass = λ h hs e. rw (e, challenged) refl;
  step = λ v h hs e. ap (cut v) (rw (e, challenged) refl) ∙ then_holds v (challenged a b xs r hs) (replied a b xs r h xs);
}

-- The lines that the two sides use in a round, by who challenges.
module _ (lines number answer : ℕ) where
  pub first_challenges : number < lines → (number ≡ first_line lines number answer) × (answer ≡ second_line lines number answer)
  unfolding first_line second_line
  first_challenges h = (sym (rw (lt-ltb number lines h, first_line) refl), sym (rw (lt-ltb number lines h, second_line) refl))

  pub second_challenges : lines ≤ number → (answer ≡ first_line lines number answer) × (number - lines ≡ second_line lines number answer)
  unfolding first_line second_line
  second_challenges h = (sym (rw (le-ltb number lines h, first_line) refl), sym (rw (le-ltb number lines h, second_line) refl))

  -- Both are the card's.
  pub first_line_under : answer < lines → first_line lines number answer < lines
  first_line_under h = go (dec_lt number lines)
    where
      go : Dec (number < lines) → first_line lines number answer < lines
      go (yes l) = omega (arith, first_challenges l)
      go (no l) = omega (arith, second_challenges (omega arith))

  pub second_line_under : number < 2 * lines → answer < lines → second_line lines number answer < lines
  second_line_under u h = go (dec_lt number lines)
    where
      go : Dec (number < lines) → second_line lines number answer < lines
      go (yes l) = omega (arith, first_challenges l)
      go (no l) = omega (arith, second_challenges (omega arith))

-- The challenge of a number: the first side's up to the number of lines, and then the second's.
module _ (s : List ℕ) where
  pub by_first : (i : ℕ) → i < line_count s → challenge_of s i ≡ record { side = first; line = line_of s i }
  unfolding challenge_of
  by_first i h = rw (lt-ltb i (line_count s) h, challenge_of) refl

  pub by_second : (i : ℕ) → line_count s ≤ i → challenge_of s i ≡ record { side = second; line = line_of s (i - line_count s) }
  unfolding challenge_of
  by_second i h = rw (le-ltb i (line_count s) h, challenge_of) refl

  module _ (a b : Field) (xs : List Line) (r : ℕ) where
    -- A challenge and then the others, where these come to w.
    next : Challenge → Seen → Seen
    next h w =
        elim (may_challenge a b h) as (λ _. Seen) [
          | true ↦ elim (replied a b xs r h xs).holds as (λ _. Seen) [ true ↦ more (replied a b xs r h xs).count w | false ↦ replied a b xs r h xs ]
          | false ↦ w
        ]

    -- "lines of the first side in line order, then of the second"
    first_side_is : (i m : ℕ) → i + m ≤ line_count s → challenged a b xs r (list_from (challenge_of s) i m) ≡ try_challenges (leaves first xs r) xs a b (list_from (line_of s) i m)
    unfolding list_from challenged try_challenges next
    first_side_is i zero h = refl
    first_side_is i (suc m) h =
        ap (λ (x : Challenge). next x (challenged a b xs r (list_from (challenge_of s) (suc i) m))) (by_first i (omega arith))
        ∙ ap (next (record { side = first; line = line_of s i })) (first_side_is (suc i) m (omega arith))

    second_side_is : (i m : ℕ) → line_count s ≤ i → challenged a b xs r (list_from (challenge_of s) i m) ≡ try_challenges (leaves second xs r) xs b a (list_from (line_of s) (i - line_count s) m)
    unfolding list_from challenged try_challenges next
    second_side_is i zero h = refl
    second_side_is i (suc m) h =
        let e : suc i - line_count s ≡ suc (i - line_count s) = omega arith in
        ap (λ (x : Challenge). next x (challenged a b xs r (list_from (challenge_of s) (suc i) m))) (by_second i h)
        ∙ ap (next (record { side = second; line = line_of s (i - line_count s) }))
        (second_side_is (suc i) m (omega arith) ∙ ap (λ (k : ℕ). try_challenges (leaves second xs r) xs b a (list_from (line_of s) k m)) e)

    -- All of them: the first side's, and then the second's.
    pub both_sides_is : (v : ℕ) → xs ≡ list_from (line_of s) 0 (line_count s)
        → cut v (challenged a b xs r (between (challenge_of s) 0 (2 * line_count s))) ≡ follow true (cut v (try_challenges (leaves first xs r) xs a b xs)) (try_challenges (leaves second xs r) xs b a xs)
    both_sides_is v e =
        let m : line_count s - 0 ≡ line_count s = omega arith in
        let n : 2 * line_count s - line_count s ≡ line_count s = omega arith in
        let z : line_count s - line_count s ≡ 0 = omega arith in
        let p : challenged a b xs r (between (challenge_of s) 0 (line_count s)) ≡ try_challenges (leaves first xs r) xs a b xs =
        ap (λ (k : ℕ). challenged a b xs r (list_from (challenge_of s) 0 k)) m ∙ first_side_is 0 (line_count s) (omega arith) ∙ ap (try_challenges (leaves first xs r) xs a b) (sym e)
        in
        let q : challenged a b xs r (between (challenge_of s) (line_count s) (2 * line_count s)) ≡ try_challenges (leaves second xs r) xs b a xs =
        ap (λ (k : ℕ). challenged a b xs r (list_from (challenge_of s) (line_count s) k)) n ∙ second_side_is (line_count s) (line_count s) (omega arith)
        ∙ ap (λ (k : ℕ). try_challenges (leaves second xs r) xs b a (list_from (line_of s) k (line_count s))) z ∙ ap (try_challenges (leaves second xs r) xs b a) (sym e)
        in
        run_halves (numbered a b xs r) (challenge_of s) 0 (2 * line_count s) v (line_count s) (omega arith) (omega arith)
        ∙ ap (λ (w : Seen). follow true (cut v w) (challenged a b xs r (between (challenge_of s) (line_count s) (2 * line_count s)))) p
        ∙ ap (λ (w : Seen). follow true (cut v (try_challenges (leaves first xs r) xs a b xs)) w) q

    -- "The first side stays first in every later pair, whoever challenged": the pair that a challenge and its reply leave.
    pub left_pair : (number answer : ℕ)
        → leaves (challenge_of s number).side xs r (fire (challenge_of s number).line (side_of (challenge_of s number).side a b)) (fire (line_of s answer) (side_of (challenge_of s number).side b a))
        ≡ examine xs r (fire (line_of s (first_line (line_count s) number answer)) a) (fire (line_of s (second_line (line_count s) number answer)) b)
    unfolding leaves
    left_pair number answer = go (dec_lt number (line_count s))
      where
        go : Dec (number < line_count s)
            → leaves (challenge_of s number).side xs r (fire (challenge_of s number).line (side_of (challenge_of s number).side a b)) (fire (line_of s answer) (side_of (challenge_of s number).side b a))
            ≡ examine xs r (fire (line_of s (first_line (line_count s) number answer)) a) (fire (line_of s (second_line (line_count s) number answer)) b)
        go (yes h) = let c = first_challenges (line_count s) number answer h in rw (by_first number h, ← c.0, ← c.1) refl
        go (no h) =
            let l : line_count s ≤ number = omega arith in
            let c = second_challenges (line_count s) number answer l in
            rw (by_second number l, ← c.0, ← c.1) refl
