-- The lines of a sheet, by number; matches between lines are those between their numbers.
use mathlib.Core.List.{List}
use mathlib.Core.Logic.{◌↔◌}
use mathlib.Core.Path.{◌≡◌, sym, ap, subst}
use Prim.Native.Nat.{ℕ, ◌+◌, ◌<◌}
use native.Mathlib.Omega.{arith}
use Rattle.model.specs.Field.{Field}
use Rattle.model.specs.Card.{Line, On}
use Rattle.model.specs.Norm.{kind_norm, norm}
use Rattle.theory.specs.Stages.{Lowers}
use Rattle.model.specs.Sheet.{kind_count, line_count, line_of, card_of}
use Rattle.tables.specs.Match.{Usable, EachMatched, AllMatched}
use Rattle.rows.specs.Stage.{line_kind, LowersAt}
use Rattle.model.specs.Refusal.{Accepted}
use Rattle.theory.proofs.Lists.{from_mem}
use Rattle.theory.proofs.Sheets.{norm_tells}
use Rattle.sheet.proofs.Laws.{on_line}

module _ (s : List ℕ) where
  -- Every numbered line is the card's. (That the card has no others is `on_line` of crate sheet.)
  pub line_on : (j : ℕ) → j < line_count s → On (card_of s) (line_of s j)
  unfolding card_of
  line_on j h = let e : 0 + j ≡ j = omega arith in rw (ap (line_of s) e) at (from_mem (line_of s) 0 (line_count s) j h)

  -- Every numbered line that lowers the norm is a lowering line of the card, and the card has no others.
  pub line_lowers : Accepted s → (j : ℕ) → LowersAt s j → Lowers (card_of s) (kind_norm (card_of s)) (line_of s j)
  line_lowers ok j h = ((line_on j h.0, (norm_tells s ok (line_of s j).kind).0 (omega (arith, h.1))), h.1)

  pub lowering_line : (l : Line) → Lowers (card_of s) (kind_norm (card_of s)) l → (j : ℕ) × LowersAt s j × (l ≡ line_of s j)
  lowering_line l o =
      let t = on_line s l o.0.0 in
      (t.0, (t.1, subst (λ (m : Line). norm (card_of s) m.left < kind_norm (card_of s) m.kind) t.2 o.1), t.2)

  -- The card's kinds are those that the header counts.
  pub kind_of : (k : ℕ) → k < kind_count s → k < (card_of s).kinds
  unfolding card_of
  kind_of k h = h

-- Lines that satisfy P are those whose numbers satisfy Q: then fields' usable lines have matches just when the numbers do.
module _ (s : List ℕ) {P : Line → Type 0} {Q : ℕ → Type 0} (every : (j : ℕ) → Q j → P (line_of s j)) (some : (l : Line) → P l → (j : ℕ) × Q j × (l ≡ line_of s j))
    (M : Line → Line → Type 0) where
  there : (a b : Field) → EachMatched M (Usable P (λ l. l.kind) a) (Usable P (λ l. l.kind) b)
      → EachMatched (λ i j. M (line_of s i) (line_of s j)) (Usable Q (line_kind s) a) (Usable Q (line_kind s) b)
  there a b f i p =
      let w = f (line_of s i) (every i p.0, p.1) in
      let t = some w.0 w.1.0 in
      let u = subst (λ (m : Line). (0 < b m.kind) × M (line_of s i) m) t.2 (w.1.1, w.2) in
      (t.0, (t.1, u.0), u.1)

  back : (a b : Field) → EachMatched (λ i j. M (line_of s i) (line_of s j)) (Usable Q (line_kind s) a) (Usable Q (line_kind s) b)
      → EachMatched M (Usable P (λ l. l.kind) a) (Usable P (λ l. l.kind) b)
  back a b f l p =
      let t = some l p.0 in
      let w = f t.0 (t.1, subst (λ (m : Line). 0 < a m.kind) t.2 p.1) in
      (line_of s w.0, (every w.0 w.1.0, w.1.1), subst (λ (m : Line). M m (line_of s w.0)) (sym t.2) w.2)

  pub numbers_matched : (a b : Field) → AllMatched M (Usable P (λ l. l.kind) a) (Usable P (λ l. l.kind) b)
      ↔ AllMatched (λ i j. M (line_of s i) (line_of s j)) (Usable Q (line_kind s) a) (Usable Q (line_kind s) b)
  numbers_matched a b = (λ w. (there a b w.0, there b a w.1), λ w. (back a b w.0, back b a w.1))
