-- The texts that are appended one after another are the lines of specs/Line.
use mathlib.Core.List.{◌++◌, append_assoc}
use mathlib.Core.Path.{◌≡◌, refl}
use Prim.Native.Nat.{ℕ}
use Rattle.model.specs.Page.{bytes, number, newline, refused_line}
use Rattle.model.specs.Walk.{apart, together, spent}
use Rattle.model.specs.Answer.{given, refused}
use Rattle.walk_text.specs.Line.{drawn_text, found_text, answer_line}

pub drawn_is : (drawn : ℕ) → bytes " drawn " ++ number drawn ++ bytes "\n" ≡ drawn_text drawn
unfolding drawn_text newline
drawn_is drawn = simp append_assoc

pub apart_is : (rounds drawn : ℕ) → bytes "apart " ++ number rounds ++ drawn_text drawn ≡ answer_line (given (apart rounds)) drawn
unfolding answer_line found_text
apart_is rounds drawn = refl

pub together_is : (drawn : ℕ) → bytes "together" ++ drawn_text drawn ≡ answer_line (given together) drawn
unfolding answer_line found_text
together_is drawn = refl

pub spent_is : (drawn : ℕ) → bytes "spent" ++ drawn_text drawn ≡ answer_line (given spent) drawn
unfolding answer_line found_text
spent_is drawn = refl

pub refused_is : (number place drawn : ℕ) → refused_line number place ≡ answer_line (refused number place) drawn
unfolding answer_line
refused_is number place drawn = refl
