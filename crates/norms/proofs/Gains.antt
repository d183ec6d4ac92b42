-- g, from the last line back.
use mathlib.Core.Bool.{Bool, true, false}
use mathlib.Core.List.{List, ◌∷◌}
use mathlib.Core.Path.{◌≡◌, refl, sym, ◌∙◌, ap}
use Prim.Native.Nat.{ℕ, ◌-◌, ◌≤◌, ◌<◌, max}
use native.Mathlib.Omega.{arith}
use Rattle.model.specs.Finite.{keep, list_from}
use Rattle.model.specs.Card.{Line, Reached, reached, reached_lines}
use Rattle.model.specs.Norm.{kind_norm, norm, gain_of}
use Rattle.model.specs.Base.{gain}
use Rattle.model.specs.Sheet.{line_of, card_of}
use Rattle.theory.proofs.Exec.{Tells}
use Rattle.theory.proofs.Sheets.{norm_tells, tells_reached}
use Rattle.sheet.specs.Reader.{Reads}
use Rattle.sheet.specs.declared.reader.Card.{Card}
use Rattle.sheet.proofs.Laws.{card_lines}
use Rattle.norms.specs.Norms.{Accepts, line_gain}
use Rattle.norms.proofs.Arrays.{list_back}
use Rattle.norms.proofs.Laws.{in_reach}

-- The gain of a line, by the norm of its kind: a kind that is out has none.
module _ {s : List ℕ} {c : Card} {norms : List ℕ} (A : Accepts s c norms) (j : ℕ) where
  abbrev kind : ℕ
  kind = (line_of s j).kind

  pub gain_out : kind_norm (card_of s) kind ≡ 0 → 0 ≡ line_gain s j
  unfolding line_gain
  gain_out z = go (reached (card_of s) kind) (tells_reached s A.accepted kind)
    where
      go : (b : Bool) → Tells b (Reached (card_of s) kind)
          → ◌≡◌ {A = ℕ} 0 (elim b as (λ _. ℕ) [ true ↦ norm (card_of s) (line_of s j).left - kind_norm (card_of s) kind | false ↦ 0 ])
      go true t = absurd (omega (arith, (norm_tells s A.accepted kind).1 (t.fact tt)))
      go false t = refl

  pub gain_in : ¬ (kind_norm (card_of s) kind ≡ 0) → norm (card_of s) (line_of s j).left - kind_norm (card_of s) kind ≡ line_gain s j
  unfolding line_gain
  gain_in n = go (reached (card_of s) kind) (tells_reached s A.accepted kind)
    where
      go : (b : Bool) → Tells b (Reached (card_of s) kind)
          → norm (card_of s) (line_of s j).left - kind_norm (card_of s) kind
          ≡ (elim b as (λ _. ℕ) [ true ↦ norm (card_of s) (line_of s j).left - kind_norm (card_of s) kind | false ↦ 0 ])
      go true t = refl
      go false t = absurd (t.test ((norm_tells s A.accepted kind).0 (omega arith)))

-- The greatest gain of the lines of reached kinds from j on, of m lines.
abbrev pub gain_from : List ℕ → ℕ → ℕ → ℕ
gain_from s m j = gain_of (card_of s).kinds (kind_norm (card_of s)) (keep (in_reach s) (list_from (line_of s) j (m - j)))

-- No line at first, one line more at each turn, all of them at the end.
module _ (s : List ℕ) (m : ℕ) where
  pub gain_start : 0 ≡ gain_from s m m
  unfolding gain_of keep list_from
  gain_start = let z : m - m ≡ 0 = omega arith in rw z refl

  pub gain_more : (j most value next : ℕ) → 0 < j → j ≤ m → most ≡ gain_from s m j → value ≡ line_gain s (j - 1) → next ≡ max value most
      → next ≡ gain_from s m (j - 1)
  unfolding gain_of line_gain keep
  gain_more j most value next h i e d f = f ∙ rw (d, e, list_back (line_of s) j m h i) (go (in_reach s (line_of s (j - 1))))
    where
      left : List Line
      left = keep (in_reach s) (list_from (line_of s) j (m - j))

      own : ℕ
      own = norm (card_of s) (line_of s (j - 1)).left - kind_norm (card_of s) (line_of s (j - 1)).kind

      of : List Line → ℕ
      of xs = gain_of (card_of s).kinds (kind_norm (card_of s)) xs

      go : (b : Bool) → max (elim b as (λ _. ℕ) [ true ↦ own | false ↦ 0 ]) (of left) ≡ of (elim b as (λ _. List Line) [ true ↦ line_of s (j - 1) ∷ left | false ↦ left ])
      go true = refl
      go false = omega arith

pub gain_end : {s : List ℕ} {c : Card} (R : Reads s c) (j most : ℕ) → j ≡ 0 → most ≡ gain_from s c.lines j → most ≡ gain (card_of s)
unfolding reached_lines
gain_end {s} {c} R j most z e =
    let y : c.lines - 0 ≡ c.lines = omega arith in
    (rw (z, y) at e) ∙ ap (λ (xs : List Line). gain_of (card_of s).kinds (kind_norm (card_of s)) (keep (in_reach s) xs)) (sym (card_lines R))
