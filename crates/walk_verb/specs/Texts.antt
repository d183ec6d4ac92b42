-- The text of a walk's answer.
use Rattle.std.specs.Prelude.{List, ◌++◌, ℕ, suc, replicate, set}
use Rattle.model.specs.Limits.{last_desk}
use Rattle.model.specs.Answer.{Answer, walk_of}
use Rattle.walk_text.specs.Line.{drawn_text, found_text}
use Rattle.replies.specs.Texts.{worded}

-- A session in which one desk has an allowance and the others have none.
unfoldable pub given_to : ℕ → ℕ → List ℕ
given_to desk allowance = set (replicate (suc last_desk) 0) desk allowance

-- walk I J LIMIT ALLOWANCE DESK: `apart R drawn D`, `together drawn D` or `spent drawn D`.
unfoldable pub walk_text : List ℕ → ℕ → ℕ → ℕ → ℕ → ℕ → Answer (List ℕ)
walk_text s i j limit allowance desk =
    let w = walk_of s i j limit desk (record { left = given_to desk allowance }) in worded (λ found. found_text found ++ drawn_text w.drawn) w.answer
