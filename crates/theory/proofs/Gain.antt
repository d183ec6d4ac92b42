-- The norms of a sheet's card, and g from them.
use mathlib.Core.List.{List, [], ◌∷◌, Memᴰ}
use mathlib.Core.Logic.{◌⊎◌, inl, inr}
use mathlib.Core.Path.{◌≡◌, refl}
use Prim.Native.Nat.{ℕ, ◌+◌, ◌-◌, ◌≤◌, ◌<◌, max}
use native.Mathlib.Decide.{dec_lt}
use native.Mathlib.Omega.{arith}
use Rattle.model.specs.Field.{Field, unit, weigh}
use Rattle.model.specs.Card.{Line, Card, reached_lines}
use Rattle.model.specs.Norm.{IsNorm, kind_norm, norm, gain_of}
use Rattle.model.specs.Base.{gain}
use Rattle.theory.specs.Terms.{IsGain, OnReached}
use Rattle.theory.specs.Meanings.{Norms}
use Rattle.model.specs.Sheet.{card_of}
use Rattle.model.specs.Refusal.{clear, first_of, sheet_checks, Accepted}
use Rattle.theory.proofs.Certified.{Found, gain_most, live, left_reached}
use Rattle.theory.proofs.Fewest.{norms}
use Rattle.theory.proofs.Sheets.{tame, sheet_clear, certified}

-- Of a sheet that passes 1 to 8, norms or none.
pub sheet_norms : (s : List ℕ) → first_of (sheet_checks s) ≡ clear → Norms (card_of s)
sheet_norms s e = norms (card_of s) (tame s e)

-- The greatest gain over a list of lines is 0 or one of them.
gain_reached : (n : ℕ) (w : ℕ → ℕ) (ls : List Line)
    → (gain_of n w ls ≡ 0) ⊎ ((l : Line) × Memᴰ l ls × (weigh n w l.left ≡ w l.kind + gain_of n w ls))
unfolding gain_of
gain_reached n w [] = inl refl
gain_reached n w (l ∷ ls) = go (gain_reached n w ls) (dec_lt (gain_of n w ls) (weigh n w l.left - w l.kind))
  where
    Goal : Type 0
    Goal =
        (max (weigh n w l.left - w l.kind) (gain_of n w ls) ≡ 0)
        ⊎ ((m : Line) × Memᴰ m (l ∷ ls) × (weigh n w m.left ≡ w m.kind + max (weigh n w l.left - w l.kind) (gain_of n w ls)))

    go : (gain_of n w ls ≡ 0) ⊎ ((m : Line) × Memᴰ m ls × (weigh n w m.left ≡ w m.kind + gain_of n w ls))
        → Dec (gain_of n w ls < weigh n w l.left - w l.kind) → Goal
    go r (yes h) = inr (l, Memᴰ.head refl, omega arith)
    go (inl e) (no h) = inl (omega arith)
    go (inr m) (no h) = inr (m.0, Memᴰ.tail m.1, omega (arith, m.2))

-- A field has one norm.
norm_one : (c : Card) (a : Field) (x y : ℕ) → IsNorm c a x → IsNorm c a y → x ≡ y
unfolding IsNorm
norm_one c a x y p q = omega (arith, p.1 y q.0, q.1 x p.0)

-- A card has one g.
gain_less : (c : Card) (g h : ℕ) → IsGain c g → IsGain c h → g ≤ h
gain_less c g h G H = go G.reached
  where
    go : (g ≡ 0) ⊎ ((l : Line) × OnReached c l × (x : ℕ) × (y : ℕ) × IsNorm c l.left x × IsNorm c (unit l.kind) y × (x ≡ y + g)) → g ≤ h
    go (inl e) = omega arith
    go (inr x) = omega (arith, x.6, H.most x.0 x.1 x.2 x.3 x.4 x.5)

pub gain_one : (c : Card) (g h : ℕ) → IsGain c g → IsGain c h → g ≡ h
gain_one c g h G H = omega (arith, gain_less c g h G H, gain_less c h g H G)

module _ (s : List ℕ) (ok : Accepted s) where
  abbrev c : Card
  c = card_of s

  abbrev F : Found c (kind_norm c)
  F = certified s ok

  left_norm : (l : Line) → OnReached c l → IsNorm c l.left (norm c l.left)
  left_norm l o = (sheet_norms s (sheet_clear s ok)).fields l.left (λ k h. live c (kind_norm c) F k (left_reached c (kind_norm c) F l o k h))

  own_norm : (l : Line) → OnReached c l → IsNorm c (unit l.kind) (kind_norm c l.kind)
  own_norm l o = ((sheet_norms s (sheet_clear s ok)).kinds l.kind (F.positive l.kind o.1)).1

  by_line : (gain c ≡ 0) ⊎ ((l : Line) × Memᴰ l (reached_lines c) × (norm c l.left ≡ kind_norm c l.kind + gain c))
      → (gain c ≡ 0) ⊎ ((l : Line) × OnReached c l × (x : ℕ) × (y : ℕ) × IsNorm c l.left x × IsNorm c (unit l.kind) y × (x ≡ y + gain c))
  by_line (inl e) = inl e
  by_line (inr x) = let o = (F.reach.lines_iff x.0).0 x.1 in inr (x.0, o, _, _, left_norm x.0 o, own_norm x.0 o, x.2)

  pub is_gain : IsGain c (gain c)
  is_gain = record {
    most = λ l o x y p q.
        omega (
          arith,
          norm_one c l.left x _ p (left_norm l o),
          norm_one c (unit l.kind) y _ q (own_norm l o),
          gain_most c.kinds (kind_norm c) l ((F.reach.lines_iff l).1 o),
        );
    reached = by_line (gain_reached c.kinds (kind_norm c) (reached_lines c));
  }
