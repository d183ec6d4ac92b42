-- Laws of challenges and replies by the lines of a sheet, and of the pairs that they are made in.
use mathlib.Core.Bool.{Bool, true, false}
use mathlib.Core.List.{List, [], ◌∷◌}
use mathlib.Core.Path.{◌≡◌, refl, sym, ap, ◌∙◌}
use Prim.Native.Nat.{ℕ, ◌+◌, ◌-◌, ◌≤◌, ◌<◌}
use native.Mathlib.Omega.{arith}
use lib.Dec.{ltb, eqb}
use Rattle.model.specs.Finite.{both, list_from}
use Rattle.model.specs.Field.{Field}
use Rattle.model.specs.Card.{Line, Card, fire}
use Rattle.model.specs.Sense.{Sense}
use Rattle.model.specs.Sheet.{line_count, line_of, card_of}
use Rattle.model.specs.Walk.{Seen, try_replies, try_challenges}
use Rattle.theory.specs.Counted.{Counted, holds, fails, outcome, cut}
use Rattle.theory.proofs.Counted.{follow, followed}
use Rattle.theory.proofs.Runs.{Runs, run_end, run_first, one_passed, one_played, challenges, replies}
use Rattle.test_player.specs.Played.{challenger, shares_total, examine_in, leaves_in}
use Rattle.test_player.proofs.Pairs.{pair_next}

-- The lines of a sheet from number j on.
abbrev pub lines_from : List ℕ → ℕ → List Line
lines_from s j = list_from (line_of s) j (line_count s - j)

-- What a run through the lines of a sheet comes to with a budget is what it comes to from line j on with what is left of it.
abbrev pub Remains : (List Line → Seen) → List ℕ → ℕ → ℕ → ℕ → Type 0
Remains run s budget left j = cut left (run (lines_from s j)) ≡ cut budget (run (card_of s).lines)

-- A run through the lines of a sheet; what all of them come to is `whole`.
module _ {p : Line → Bool} {h : Bool} {one : Line → Seen} {run : List Line → Seen} (runs : Runs p h one run) (s : List ℕ) where
  pub runs_start : (v : ℕ) → cut v (run (lines_from s 0)) ≡ cut v (run (card_of s).lines)
  unfolding card_of
  runs_start v = let z : line_count s - 0 ≡ line_count s = omega arith in rw z refl

  module _ (j v : ℕ) {whole : Counted} (from : cut v (run (lines_from s j)) ≡ whole) where
    pub runs_next : {found known : Counted} → j < line_count s → found ≡ cut v (run (line_of s j ∷ [])) → found ≡ known → follow h known (run (lines_from s (j + 1))) ≡ whole
    runs_next l d k = followed h (run (lines_from s (j + 1))) (sym from ∙ run_first runs (line_of s) j (line_count s) v l) (sym k ∙ d)

    pub runs_end : line_count s ≤ j → outcome h v ≡ whole
    runs_end l = run_end runs (line_of s) j (line_count s) v l ∙ from

-- What a line comes to as the only challenge, or as the only reply, by the test that was made.
module _ (see : Field → Field → Seen) (v : ℕ) (b : Field) {u : Bool} where
  module _ (xs : List Line) (a : Field) (l : Line) (e : u ≡ ltb 0 (a l.kind)) where
    pub challenge_played : u ≡ true → {found : Counted} {x : Field} → x ≡ fire l a → found ≡ cut v (try_replies see l x b xs) → found ≡ cut v (try_challenges see xs a b (l ∷ []))
    challenge_played t d f = f ∙ ap (λ (y : Field). cut v (try_replies see l y b xs)) d ∙ one_played (challenges see xs a b) v l (sym e ∙ t)

    pub challenge_passed : u ≡ false → holds v ≡ cut v (try_challenges see xs a b (l ∷ []))
    challenge_passed t = one_passed (challenges see xs a b) v l (sym e ∙ t)

  module _ (l : Line) (x : Field) (m : Line) (e : u ≡ both (ltb 0 (b m.kind)) (eqb m.code l.code)) where
    pub reply_played : u ≡ true → {found : Counted} → found ≡ cut v (see x (fire m b)) → found ≡ cut v (try_replies see l x b (m ∷ []))
    reply_played t f = f ∙ one_played (replies see l x b) v m (sym e ∙ t)

    pub reply_passed : u ≡ false → fails v ≡ cut v (try_replies see l x b (m ∷ []))
    reply_passed t = one_passed (replies see l x b) v m (sym e ∙ t)

-- A pair by what is known of the first side's challenges.
pub pair_sides : (m : Sense) (c : Card) (a b : Field) (v r : ℕ) → ¬ (v ≡ 0) → {h : Bool} → h ≡ shares_total m c a b → h ≡ true → ¬ (r ≡ 0) → {found known : Counted}
    → found ≡ cut (v - 1) (try_challenges (leaves_in m (challenger false) c (r - 1)) c.lines a b c.lines) → found ≡ known
    → follow true known (try_challenges (leaves_in m (challenger true) c (r - 1)) c.lines b a c.lines) ≡ cut v (examine_in m c r a b)
pair_sides m c a b v r n l t z d k = followed true (try_challenges (leaves_in m (challenger true) c (r - 1)) c.lines b a c.lines) (pair_next m c a b v r n l t z) (sym k ∙ d)

-- The pair that is left, whoever challenged.
module _ (m : Sense) (c : Card) (r v : ℕ) {second : Bool} {x y : Field} {found : Counted} {p q : Field} (e : p ≡ x) (d : q ≡ y) where
  pub left_first : second ≡ false → found ≡ cut v (examine_in m c r p q) → found ≡ cut v (leaves_in m (challenger second) c r x y)
  unfolding leaves_in
  left_first b f = f ∙ rw (b, e, d) refl

  pub left_second : second ≡ true → found ≡ cut v (examine_in m c r q p) → found ≡ cut v (leaves_in m (challenger second) c r x y)
  unfolding leaves_in
  left_second b f = f ∙ rw (b, e, d) refl
