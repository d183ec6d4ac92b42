-- The cycle of challenge and reply: what is to be shown of the two functions. The returns hand over what the calls ensure to the laws of Steps.
use native.Mathlib.Omega.{arith}
use mathlib.Core.Bool.{true, false}
use mathlib.Core.List.{List}
use mathlib.Core.Path.{◌≡◌, ◌∙◌}
use Prim.Native.Nat.{ℕ, ◌+◌, ◌-◌, ◌*◌, ◌/◌, ◌≤◌, ◌<◌}
use Rattle.model.specs.Field.{Field, at}
use Rattle.model.specs.Card.{fire}
use Rattle.model.specs.Sheet.{line_of}
use Rattle.theory.specs.Counted.{Counted, holds, fails, spent, cut}
use Rattle.theory.specs.Widths.{Bytes}
use Rattle.theory.proofs.Counted.{follow}
use Rattle.sheet.specs.Reader.{Reads}
use Rattle.sheet.specs.declared.reader.Card.{Card}
use Rattle.sheet.proofs.Laws.{lines_most, left_under}
use Rattle.moves.specs.Lines.{Bounded, next_of}
use Rattle.moves.proofs.Fields.{fire_bounded}
use Rattle.game.specs.Rounds.{counted_of}
use Rattle.game.specs.Challenges.{challenge_of, first_line, second_line, may_challenge, may_reply}
use Rattle.game.specs.declared.challenges.Part.{Part}
use Rattle.game.proofs.Sides.{first_line_under, second_line_under}
use Rattle.game.proofs.Steps.{Challenged, Replied, found_within, challenge_none, challenge_next, challenge_half, reply_none, reply_spent, reply_last, reply_next, reply_half}
use Rattle.game.proofs.rounds.+challenge_reply.Goals as goal

-- The middle of the numbers after one.
abbrev middle : ℕ → ℕ → ℕ
middle number to = number + 1 + (to - (number + 1)) / 2

module _ {s : List ℕ} {card : Card} (read : Reads s card) (a b : Field) (part : Part) (fits : part.from ≤ part.to) where
  -- The challenges of a part, from the first that can be made.
  module _ (number : ℕ) (e : number ≡ next_of (may_challenge a b) (challenge_of s) part.from part.to) (n : ¬ (number ≡ part.to)) where
    -- It is one of those given.
    number_within : (part.from ≤ number) × (number < part.to)
    number_within = found_within (may_challenge a b) (challenge_of s) part.from part.to fits number e n

    -- What the challenges after the chosen one come to, by what is known of the replies to that one, which is examined in the part `one`.
    challenge_after : (one : Part) (known : Counted) → one ≡ record { rounds = part.rounds - 1; from = 0; to = card.lines; allowance = part.allowance }
        → known ≡ cut one.allowance (Replied read one.rounds a b number one.from one.to)
        → follow true known (Challenged read (part.rounds - 1) a b (number + 1) part.to) ≡ cut part.allowance (Challenged read (part.rounds - 1) a b part.from part.to)
    challenge_after one known is d = challenge_next read (part.rounds - 1) a b part.from part.to part.allowance fits number e n known (rw is at d)

    -- What the second half of the challenges after the chosen one comes to, by what is known of the first half, which is examined in the part `half`.
    challenge_middle : (left : ℕ) (half : Part) (known : Counted) → half ≡ record { rounds = part.rounds; from = number + 1; to = middle number part.to; allowance = left }
        → known ≡ cut half.allowance (Challenged read (half.rounds - 1) a b half.from half.to)
        → follow true known (Challenged read (part.rounds - 1) a b (middle number part.to) part.to) ≡ cut left (Challenged read (part.rounds - 1) a b (number + 1) part.to)
    challenge_middle left half known is d =
        let w = number_within in
        challenge_half read (part.rounds - 1) a b (number + 1) part.to left (omega arith) (middle number part.to) (omega arith) (omega arith) known (rw is at d)

  -- The replies of a part to the challenge of a number, from the first line that replies.
  module _ (number answer : ℕ) (e : answer ≡ next_of (may_reply a b (challenge_of s number)) (line_of s) part.from part.to) (n : ¬ (answer ≡ part.to)) where
    -- It is one of the lines given.
    answer_within : (part.from ≤ answer) × (answer < part.to)
    answer_within = found_within (may_reply a b (challenge_of s number)) (line_of s) part.from part.to fits answer e n

    -- What the replies after the first come to, by what is known of the challenges to the pair that the first leaves, which are examined in the part `pair`.
    reply_after : ¬ (part.allowance ≡ 0) → ¬ (part.rounds ≡ 0) → (one other : ℕ) → one ≡ first_line card.lines number answer → other ≡ second_line card.lines number answer
        → (x y : Field) → x ≡ fire (line_of s one) a → y ≡ fire (line_of s other) b
        → (pair : Part) (known : Counted) → pair ≡ record { rounds = part.rounds; from = 0; to = 2 * card.lines; allowance = part.allowance - 1 }
        → known ≡ cut pair.allowance (Challenged read (pair.rounds - 1) x y pair.from pair.to)
        → follow false known (Replied read part.rounds a b number (answer + 1) part.to) ≡ cut part.allowance (Replied read part.rounds a b number part.from part.to)
    reply_after k m one other f g x y p q pair known is d =
        reply_next read part.rounds a b part.from part.to part.allowance fits number answer e n k m x y (rw (← f) p) (rw (← g) q) known (rw is at d)

    -- What the second half of the replies after the first comes to, by what is known of the first half, which is examined in the part `half`.
    reply_middle : (left : ℕ) (half : Part) (known : Counted) → half ≡ record { rounds = part.rounds; from = answer + 1; to = middle answer part.to; allowance = left }
        → known ≡ cut half.allowance (Replied read half.rounds a b number half.from half.to)
        → follow false known (Replied read part.rounds a b number (middle answer part.to) part.to) ≡ cut left (Replied read part.rounds a b number (answer + 1) part.to)
    reply_middle left half known is d =
        let w = answer_within in
        reply_half read part.rounds a b (answer + 1) part.to left (omega arith) (middle answer part.to) (omega arith) (omega arith) known number (rw is at d)

pub challenge-returns-then-number-to : goal.challenge-returns-then-number-to
challenge-returns-then-number-to t c =
    let a = c.args in
    challenge_none c.requires.reads.0 (a.part.rounds - 1) (at a.first.now) (at a.second.now) a.part.from a.part.to a.part.allowance c.requires.rounds_nonzero.2 c.next_challenge-number.result c.next_challenge-number.ensures c.if-number-to.true

pub challenge-overflow_add-next : goal.challenge-overflow_add-next
challenge-overflow_add-next t c =
    let a = c.args in
    omega (arith, number_within c.requires.reads.0 (at a.first.now) (at a.second.now) a.part c.requires.rounds_nonzero.2 c.next_challenge-number.result c.next_challenge-number.ensures c.if-number-to.false)

pub challenge-overflow_sub-middle : goal.challenge-overflow_sub-middle
challenge-overflow_sub-middle t c =
    let a = c.args in
    omega (arith, number_within c.requires.reads.0 (at a.first.now) (at a.second.now) a.part c.requires.rounds_nonzero.2 c.next_challenge-number.result c.next_challenge-number.ensures c.if-number-to.false)

pub challenge-overflow_add-middle : goal.challenge-overflow_add-middle
challenge-overflow_add-middle t c =
    let a = c.args in
    omega (arith, number_within c.requires.reads.0 (at a.first.now) (at a.second.now) a.part c.requires.rounds_nonzero.2 c.next_challenge-number.result c.next_challenge-number.ensures c.if-number-to.false)

pub challenge-reply-requires : goal.challenge-reply-requires
challenge-reply-requires t c =
    let a = c.args in
    let p = c.requires in
    let z : a.part.rounds - 1 + 1 ≡ a.part.rounds = omega (arith, p.rounds_nonzero.0) in
    let w = number_within p.reads.0 (at a.first.now) (at a.second.now) a.part p.rounds_nonzero.2 c.next_challenge-number.result c.next_challenge-number.ensures c.if-number-to.false in
    let m = lines_most p.reads.0 in
    rw c.new-later.ensures (omega (arith, c.decreases, p.rounds_nonzero, m), (p.reads, (omega (arith, p.rounds_nonzero, w), (rw z p.bounded.0, rw z p.bounded.1))))

pub challenge-challenge-requires : goal.challenge-challenge-requires
challenge-challenge-requires t c =
    let a = c.args in
    let p = c.requires in
    let w = number_within p.reads.0 (at a.first.now) (at a.second.now) a.part p.rounds_nonzero.2 c.next_challenge-number.result c.next_challenge-number.ensures c.if-number-to.false in
    rw c.new-later-in-Holds.ensures (omega (arith, c.decreases, p.rounds_nonzero, w), (p.reads, (omega (arith, p.rounds_nonzero, w), p.bounded)))

pub challenge-challenge-requires-in-Holds-challenge : goal.challenge-challenge-requires-in-Holds-challenge
challenge-challenge-requires-in-Holds-challenge t c =
    let a = c.args in
    let p = c.requires in
    let w = number_within p.reads.0 (at a.first.now) (at a.second.now) a.part p.rounds_nonzero.2 c.next_challenge-number.result c.next_challenge-number.ensures c.if-number-to.false in
    rw c.new-later-in-Holds-challenge.ensures (omega (arith, c.decreases, p.rounds_nonzero, w), (p.reads, (omega (arith, p.rounds_nonzero, w), p.bounded)))

pub challenge-returns-in-Holds-challenge : goal.challenge-returns-in-Holds-challenge
challenge-returns-in-Holds-challenge t c =
    let a = c.args in
    let p = c.requires in
    let x = at a.first.now in
    let y = at a.second.now in
    let number = c.next_challenge-number in
    -- What the call for the second half of the challenges comes to.
    let challenge_last : counted_of c.challenge-in-Holds-challenge.result ≡ follow true (holds c.in-Holds-challenge.rest) (Challenged p.reads.0 (a.part.rounds - 1) x y (middle number.result a.part.to) a.part.to) =
    rw c.new-later-in-Holds-challenge.ensures at c.challenge-in-Holds-challenge.ensures
    in
    challenge_last
    ∙ challenge_middle p.reads.0 x y a.part p.rounds_nonzero.2 number.result number.ensures c.if-number-to.false c.in-Holds.left c.new-later-in-Holds.result (holds c.in-Holds-challenge.rest) c.new-later-in-Holds.ensures c.in-Holds-challenge.ensures
    ∙ challenge_after p.reads.0 x y a.part p.rounds_nonzero.2 number.result number.ensures c.if-number-to.false c.new-later.result (holds c.in-Holds.left) c.new-later.ensures c.in-Holds.ensures

pub challenge-returns-in-Fails-challenge : goal.challenge-returns-in-Fails-challenge
challenge-returns-in-Fails-challenge t c =
    let a = c.args in
    let p = c.requires in
    let x = at a.first.now in
    let y = at a.second.now in
    let number = c.next_challenge-number in
    challenge_middle p.reads.0 x y a.part p.rounds_nonzero.2 number.result number.ensures c.if-number-to.false c.in-Holds.left c.new-later-in-Holds.result (fails c.in-Fails-challenge.rest) c.new-later-in-Holds.ensures c.in-Fails-challenge.ensures
    ∙ challenge_after p.reads.0 x y a.part p.rounds_nonzero.2 number.result number.ensures c.if-number-to.false c.new-later.result (holds c.in-Holds.left) c.new-later.ensures c.in-Holds.ensures

pub challenge-returns-in-Spent-challenge : goal.challenge-returns-in-Spent-challenge
challenge-returns-in-Spent-challenge t c =
    let a = c.args in
    let p = c.requires in
    let x = at a.first.now in
    let y = at a.second.now in
    let number = c.next_challenge-number in
    challenge_middle p.reads.0 x y a.part p.rounds_nonzero.2 number.result number.ensures c.if-number-to.false c.in-Holds.left c.new-later-in-Holds.result spent c.new-later-in-Holds.ensures c.in-Spent-challenge.ensures
    ∙ challenge_after p.reads.0 x y a.part p.rounds_nonzero.2 number.result number.ensures c.if-number-to.false c.new-later.result (holds c.in-Holds.left) c.new-later.ensures c.in-Holds.ensures

pub challenge-returns-in-Fails : goal.challenge-returns-in-Fails
challenge-returns-in-Fails t c =
    let a = c.args in
    challenge_after c.requires.reads.0 (at a.first.now) (at a.second.now) a.part c.requires.rounds_nonzero.2 c.next_challenge-number.result c.next_challenge-number.ensures c.if-number-to.false c.new-later.result (fails c.in-Fails.left) c.new-later.ensures c.in-Fails.ensures

pub challenge-returns-in-Spent : goal.challenge-returns-in-Spent
challenge-returns-in-Spent t c =
    let a = c.args in
    challenge_after c.requires.reads.0 (at a.first.now) (at a.second.now) a.part c.requires.rounds_nonzero.2 c.next_challenge-number.result c.next_challenge-number.ensures c.if-number-to.false c.new-later.result spent c.new-later.ensures c.in-Spent.ensures

pub reply-returns-then-answer-to : goal.reply-returns-then-answer-to
reply-returns-then-answer-to t c =
    let a = c.args in
    reply_none c.requires.reads.0 a.part.rounds (at a.first.now) (at a.second.now) a.part.from a.part.to a.part.allowance c.requires.rounds_lt_most_rounds.2 a.number c.next_answer-answer.result c.next_answer-answer.ensures c.if-answer-to.true

pub reply-returns-then-allowance-eq0 : goal.reply-returns-then-allowance-eq0
reply-returns-then-allowance-eq0 t c =
    let a = c.args in
    reply_spent c.requires.reads.0 a.part.rounds (at a.first.now) (at a.second.now) a.part.from a.part.to a.part.allowance c.requires.rounds_lt_most_rounds.2 a.number c.next_answer-answer.result c.next_answer-answer.ensures c.if-answer-to.false c.if-allowance-eq0.true

pub reply-returns-then-rounds-eq0 : goal.reply-returns-then-rounds-eq0
reply-returns-then-rounds-eq0 t c =
    let a = c.args in
    reply_last c.requires.reads.0 a.part.rounds (at a.first.now) (at a.second.now) a.part.from a.part.to a.part.allowance c.requires.rounds_lt_most_rounds.2 a.number c.next_answer-answer.result c.next_answer-answer.ensures c.if-answer-to.false c.if-allowance-eq0.false c.if-rounds-eq0.true

pub reply-use_line-requires-clause-line_lt_lines : goal.reply-use_line-requires-clause-line_lt_lines
reply-use_line-requires-clause-line_lt_lines t c =
    let a = c.args in
    let p = c.requires in
    let w = answer_within p.reads.0 (at a.first.now) (at a.second.now) a.part p.rounds_lt_most_rounds.2 a.number c.next_answer-answer.result c.next_answer-answer.ensures c.if-answer-to.false in
    rw c.first_line.ensures (first_line_under a.card.lines a.number c.next_answer-answer.result (omega (arith, p.rounds_lt_most_rounds, w)))

pub reply-use_line-requires-2-clause-line_lt_lines : goal.reply-use_line-requires-2-clause-line_lt_lines
reply-use_line-requires-2-clause-line_lt_lines t c =
    let a = c.args in
    let p = c.requires in
    let w = answer_within p.reads.0 (at a.first.now) (at a.second.now) a.part p.rounds_lt_most_rounds.2 a.number c.next_answer-answer.result c.next_answer-answer.ensures c.if-answer-to.false in
    rw c.second_line.ensures (second_line_under a.card.lines a.number c.next_answer-answer.result p.rounds_lt_most_rounds.1 (omega (arith, p.rounds_lt_most_rounds, w)))

pub reply-overflow_add-next : goal.reply-overflow_add-next
reply-overflow_add-next t c =
    let a = c.args in
    let p = c.requires in
    let w = answer_within p.reads.0 (at a.first.now) (at a.second.now) a.part p.rounds_lt_most_rounds.2 a.number c.next_answer-answer.result c.next_answer-answer.ensures c.if-answer-to.false in
    omega (arith, w, p.rounds_lt_most_rounds, lines_most p.reads.0)

pub reply-overflow_sub-middle : goal.reply-overflow_sub-middle
reply-overflow_sub-middle t c =
    let a = c.args in
    let p = c.requires in
    omega (arith, answer_within p.reads.0 (at a.first.now) (at a.second.now) a.part p.rounds_lt_most_rounds.2 a.number c.next_answer-answer.result c.next_answer-answer.ensures c.if-answer-to.false)

pub reply-overflow_add-middle : goal.reply-overflow_add-middle
reply-overflow_add-middle t c =
    let a = c.args in
    let p = c.requires in
    let w = answer_within p.reads.0 (at a.first.now) (at a.second.now) a.part p.rounds_lt_most_rounds.2 a.number c.next_answer-answer.result c.next_answer-answer.ensures c.if-answer-to.false in
    omega (arith, w, p.rounds_lt_most_rounds, lines_most p.reads.0)

pub reply-challenge-requires : goal.reply-challenge-requires
reply-challenge-requires t c =
    let a = c.args in
    let p = c.requires in
    let n = c.if-rounds-eq0.false in
    let m = lines_most p.reads.0 in
    -- The sheet is of bytes.
    let bytes : Bytes a.sheet.now = λ k. omega (arith, c.type_inv.sheet k) in
    -- The counts of the field that is left of the first side have room for the rounds.
    let first_bounded : Bounded a.part.rounds c.use_line.new.field =
    fire_bounded a.part.rounds (line_of a.sheet.now c.first_line.result) a.first.now _ p.rounds_lt_most_rounds.0 (left_under a.sheet.now c.first_line.result bytes) c.use_line.ensures c.use_line.auto.field p.bounded.0
    in
    -- The counts of the field that is left of the second side have room for the rounds.
    let second_bounded : Bounded a.part.rounds c.use_line-2.new.field =
    fire_bounded a.part.rounds (line_of a.sheet.now c.second_line.result) a.second.now _ p.rounds_lt_most_rounds.0 (left_under a.sheet.now c.second_line.result bytes) c.use_line-2.ensures c.use_line-2.auto.field p.bounded.1
    in
    rw c.new-later.ensures (omega (arith, c.decreases, p.rounds_lt_most_rounds, m), (p.reads, (omega (arith, p.rounds_lt_most_rounds), (first_bounded, second_bounded))))

pub reply-reply-requires : goal.reply-reply-requires
reply-reply-requires t c =
    let a = c.args in
    let p = c.requires in
    let w = answer_within p.reads.0 (at a.first.now) (at a.second.now) a.part p.rounds_lt_most_rounds.2 a.number c.next_answer-answer.result c.next_answer-answer.ensures c.if-answer-to.false in
    rw c.new-later-in-Fails.ensures (omega (arith, c.decreases, p.rounds_lt_most_rounds, w), (p.reads, (omega (arith, p.rounds_lt_most_rounds, w), p.bounded)))

pub reply-reply-requires-in-Fails-reply : goal.reply-reply-requires-in-Fails-reply
reply-reply-requires-in-Fails-reply t c =
    let a = c.args in
    let p = c.requires in
    let w = answer_within p.reads.0 (at a.first.now) (at a.second.now) a.part p.rounds_lt_most_rounds.2 a.number c.next_answer-answer.result c.next_answer-answer.ensures c.if-answer-to.false in
    rw c.new-later-in-Fails-reply.ensures (omega (arith, c.decreases, p.rounds_lt_most_rounds, w), (p.reads, (omega (arith, p.rounds_lt_most_rounds, w), p.bounded)))

pub reply-returns-in-Holds : goal.reply-returns-in-Holds
reply-returns-in-Holds t c =
    let a = c.args in
    let p = c.requires in
    let x = at a.first.now in
    let y = at a.second.now in
    let answer = c.next_answer-answer in
    reply_after p.reads.0 x y a.part p.rounds_lt_most_rounds.2 a.number answer.result answer.ensures c.if-answer-to.false c.if-allowance-eq0.false c.if-rounds-eq0.false c.first_line.result c.second_line.result c.first_line.ensures c.second_line.ensures
    (at c.use_line.new.field) (at c.use_line-2.new.field) c.use_line.ensures c.use_line-2.ensures c.new-later.result (holds c.in-Holds.left) c.new-later.ensures c.in-Holds.ensures

pub reply-returns-in-Holds-reply : goal.reply-returns-in-Holds-reply
reply-returns-in-Holds-reply t c =
    let a = c.args in
    let p = c.requires in
    let x = at a.first.now in
    let y = at a.second.now in
    let answer = c.next_answer-answer in
    reply_middle p.reads.0 x y a.part p.rounds_lt_most_rounds.2 a.number answer.result answer.ensures c.if-answer-to.false c.in-Fails.left c.new-later-in-Fails.result (holds c.in-Holds-reply.rest) c.new-later-in-Fails.ensures c.in-Holds-reply.ensures
    ∙ reply_after p.reads.0 x y a.part p.rounds_lt_most_rounds.2 a.number answer.result answer.ensures c.if-answer-to.false c.if-allowance-eq0.false c.if-rounds-eq0.false c.first_line.result c.second_line.result c.first_line.ensures c.second_line.ensures
    (at c.use_line.new.field) (at c.use_line-2.new.field) c.use_line.ensures c.use_line-2.ensures c.new-later.result (fails c.in-Fails.left) c.new-later.ensures c.in-Fails.ensures

pub reply-returns-in-Fails-reply : goal.reply-returns-in-Fails-reply
reply-returns-in-Fails-reply t c =
    let a = c.args in
    let p = c.requires in
    let x = at a.first.now in
    let y = at a.second.now in
    let answer = c.next_answer-answer in
    -- What the call for the second half of the replies comes to.
    let reply_last_half : counted_of c.reply-in-Fails-reply.result ≡ follow false (fails c.in-Fails-reply.rest) (Replied p.reads.0 a.part.rounds x y a.number (middle answer.result a.part.to) a.part.to) =
    rw c.new-later-in-Fails-reply.ensures at c.reply-in-Fails-reply.ensures
    in
    reply_last_half
    ∙ reply_middle p.reads.0 x y a.part p.rounds_lt_most_rounds.2 a.number answer.result answer.ensures c.if-answer-to.false c.in-Fails.left c.new-later-in-Fails.result (fails c.in-Fails-reply.rest) c.new-later-in-Fails.ensures c.in-Fails-reply.ensures
    ∙ reply_after p.reads.0 x y a.part p.rounds_lt_most_rounds.2 a.number answer.result answer.ensures c.if-answer-to.false c.if-allowance-eq0.false c.if-rounds-eq0.false c.first_line.result c.second_line.result c.first_line.ensures c.second_line.ensures
    (at c.use_line.new.field) (at c.use_line-2.new.field) c.use_line.ensures c.use_line-2.ensures c.new-later.result (fails c.in-Fails.left) c.new-later.ensures c.in-Fails.ensures

pub reply-returns-in-Spent-reply : goal.reply-returns-in-Spent-reply
reply-returns-in-Spent-reply t c =
    let a = c.args in
    let p = c.requires in
    let x = at a.first.now in
    let y = at a.second.now in
    let answer = c.next_answer-answer in
    reply_middle p.reads.0 x y a.part p.rounds_lt_most_rounds.2 a.number answer.result answer.ensures c.if-answer-to.false c.in-Fails.left c.new-later-in-Fails.result spent c.new-later-in-Fails.ensures c.in-Spent-reply.ensures
    ∙ reply_after p.reads.0 x y a.part p.rounds_lt_most_rounds.2 a.number answer.result answer.ensures c.if-answer-to.false c.if-allowance-eq0.false c.if-rounds-eq0.false c.first_line.result c.second_line.result c.first_line.ensures c.second_line.ensures
    (at c.use_line.new.field) (at c.use_line-2.new.field) c.use_line.ensures c.use_line-2.ensures c.new-later.result (fails c.in-Fails.left) c.new-later.ensures c.in-Fails.ensures

pub reply-returns-in-Spent : goal.reply-returns-in-Spent
reply-returns-in-Spent t c =
    let a = c.args in
    let p = c.requires in
    let x = at a.first.now in
    let y = at a.second.now in
    let answer = c.next_answer-answer in
    reply_after p.reads.0 x y a.part p.rounds_lt_most_rounds.2 a.number answer.result answer.ensures c.if-answer-to.false c.if-allowance-eq0.false c.if-rounds-eq0.false c.first_line.result c.second_line.result c.first_line.ensures c.second_line.ensures
    (at c.use_line.new.field) (at c.use_line-2.new.field) c.use_line.ensures c.use_line-2.ensures c.new-later.result spent c.new-later.ensures c.in-Spent.ensures
