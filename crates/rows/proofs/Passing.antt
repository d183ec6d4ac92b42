-- The tests of a candidate as the code makes them: from matches of lines, and from the classes of the stage before.
use mathlib.Core.List.{List}
use mathlib.Core.Logic.{◌↔◌}
use mathlib.Core.Path.{◌≡◌, refl, sym, ◌∙◌}
use Prim.Native.Nat.{ℕ, suc, ◌<◌}
use Rattle.model.specs.Sense.{Sense}
use Rattle.model.specs.Field.{Field, unit, at}
use Rattle.model.specs.Card.{Reached}
use Rattle.model.specs.Norm.{kind_norm}
use Rattle.theory.specs.Stages.{Start}
use Rattle.model.specs.Base.{stage_row_in, stage_form_in}
use Rattle.model.specs.Sheet.{line_count, line_of, card_of}
use Rattle.model.specs.Refusal.{Accepted}
use Rattle.theory.proofs.Sheets.{sheet_reaches, certified}
use Rattle.tables.specs.Match.{AllMatched}
use Rattle.rows.specs.Stage.{ToldAt, MatchBy, UsableAt, Classes, AlikeAt}
use Rattle.rows.proofs.Forms.{form_unit}
use Rattle.rows.proofs.Lines.{line_on}
use Rattle.rows.proofs.Candidates.{Product, row_one, row_next, told_kept}
use Rattle.rows.proofs.Expanding.{classes_expand, lines_lowering}

-- Every challenge that lowers the norm, by kind k or by its row, has a reply by the other, by the forms of stage q + 1.
abbrev pub AnsweredAt : Sense → List ℕ → ℕ → (ℕ → Field) → ℕ → Type 0
AnsweredAt sense s q row k = AllMatched (λ i j. MatchBy sense (card_of s) q row (line_of s i) (line_of s j)) (UsableAt s (unit k)) (UsableAt s (row k))

module _ (sense : Sense) (s : List ℕ) (ok : Accepted s) (k : ℕ) (h : Reached (card_of s) k) where
  -- Of rows in which the kind's is a product of atoms, and those of its atoms are the kinds themselves.
  module _ (row : ℕ → Field) (atoms : (j : ℕ) → 0 < row k j → row j ≡ unit j) where
    -- At stage 1 the product is the row just when stage 0 relates it and the kind, and norm-reducing expansion holds.
    pub passes_one : Product sense (card_of s) 0 k (row k)
        → (Start sense (card_of s) (kind_norm (card_of s)) (unit k) (row k) × AnsweredAt sense s 0 row k) ↔ (stage_row_in sense (card_of s) 1 k ≡ row k)
    passes_one P =
        let x = row_one sense (card_of s) (certified s ok) k h (row k) P in
        let y = lines_lowering sense s ok 0 k (row k) P row refl atoms in
        ((λ z. x.0 (z.0, y.1 z.1)), (λ z. let u = x.1 z in (u.0, y.0 u.1)))

    -- At a later stage it must also have the kind's row for its form at the stage before, and use lines of the same classes.
    pub passes_next : (q : ℕ) → Product sense (card_of s) (suc q) k (row k) → (classes : List ℕ) → Classes sense s q classes
        → ((stage_row_in sense (card_of s) (suc q) k ≡ stage_form_in sense (card_of s) (suc q) (row k)) × AlikeAt s classes (unit k) (row k) × AnsweredAt sense s (suc q) row k)
        ↔ (stage_row_in sense (card_of s) (suc (suc q)) k ≡ row k)
    passes_next q P classes K =
        let x = row_next sense (card_of s) (certified s ok) k h q (row k) P in
        let y = lines_lowering sense s ok (suc q) k (row k) P row refl atoms in
        let e = form_unit sense (card_of s) (certified s ok) q k ((sheet_reaches s).under k h) in (
          (λ z. x.0 (e ∙ z.0, (classes_expand sense s ok q (unit k) (row k) (e ∙ z.0) classes K).1 z.1, y.1 z.2)),
          (λ z. let u = x.1 z in (sym e ∙ u.0, (classes_expand sense s ok q (unit k) (row k) u.0 classes K).0 u.1, y.0 u.2)),
        )

  -- A product that is the row at a later stage has the row of the stage before for its form there.
  pub row_kept : (q : ℕ) (b : Field) → Product sense (card_of s) (suc q) k b → stage_row_in sense (card_of s) (suc (suc q)) k ≡ b → stage_row_in sense (card_of s) (suc q) k ≡ stage_form_in sense (card_of s) (suc q) b
  row_kept q b P e = sym (form_unit sense (card_of s) (certified s ok) q k ((sheet_reaches s).under k h)) ∙ ((row_next sense (card_of s) (certified s ok) k h q b P).1 e).0

  -- What lines i and j tell has the kind's row for its form at the stage before just when the two lines have one class there.
  pub told_class : (q : ℕ) (classes : List ℕ) → Classes sense s q classes → (i j : ℕ) → i < line_count s → j < line_count s → (line_of s i).kind ≡ k → (line_of s j).code ≡ (line_of s i).code
      → (b : Field) → ToldAt sense (card_of s) (suc q) (line_of s i) (line_of s j) b
      → (stage_row_in sense (card_of s) (suc q) k ≡ stage_form_in sense (card_of s) (suc q) b) ↔ (at classes j ≡ at classes i)
  told_class q classes K i j hi hj e d b t =
      let x = told_kept sense (card_of s) (certified s ok) q k (line_of s i) (line_of s j) (line_on s i hi) (line_on s j hj) e d b t in
      ((λ y. sym ((K i j hi hj).1 (x.0 y))), (λ y. x.1 ((K i j hi hj).0 (sym y))))
