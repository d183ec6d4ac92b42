-- Bounds of the classes of the lines, from stage to stage.
use mathlib.Core.List.{List}
use mathlib.Core.Path.{◌≡◌, sym, ◌∙◌, ap}
use Prim.Native.Nat.{ℕ, suc}
use native.Mathlib.Omega.{arith}
use lib.ListN.{replicate}
use Rattle.model.specs.Sense.{Sense}
use Rattle.model.specs.Field.{Field, ◌⊕◌, unit}
use Rattle.model.specs.Card.{Line, Card, On}
use Rattle.model.specs.Norm.{kind_norm}
use Rattle.model.specs.Base.{stage_row_in, stage_form_in}
use Rattle.model.specs.Sheet.{line_of, card_of}
use Rattle.model.specs.Refusal.{Accepted}
use Rattle.theory.proofs.Certified.{Found}
use Rattle.theory.proofs.Program.{Equal}
use Rattle.theory.proofs.Sheets.{certified}
use Rattle.rows.specs.Stage.{MatchAt, BoundsAt}
use Rattle.tables.proofs.Tables.{zero_counts}
use Rattle.rows.proofs.Forms.{form_plus, form_unit, equal_before}
use Rattle.rows.proofs.Lines.{line_on}

-- What line l leaves, with a token of m's kind, and its form.
module _ (sense : Sense) (c : Card) (F : Found c (kind_norm c)) (l m : Line) (p : On c m) where
  with_form : (q : ℕ) → stage_form_in sense c (suc q) (l.left ⊕ unit m.kind) ≡ stage_form_in sense c (suc q) l.left ⊕ stage_row_in sense c (suc q) m.kind
  with_form q =
      form_plus sense c F q l.left (unit m.kind) ∙ ap (λ (x : Field). stage_form_in sense c (suc q) l.left ⊕ x) (form_unit sense c F q m.kind (F.kinds m p))

-- Lines that match at a stage match at the stage before: to match is that two fields have equal forms, and a stage relates no pair that an earlier one does not.
module _ (sense : Sense) (c : Card) (F : Found c (kind_norm c)) (l m : Line) (o : On c l) (p : On c m) where
  pub match_before : (q : ℕ) → MatchAt sense c (suc q) l m → MatchAt sense c q l m
  match_before q x =
      let e : Equal sense c (kind_norm c) F (suc q) (l.left ⊕ unit m.kind) (m.left ⊕ unit l.kind) = with_form sense c F l m p (suc q) ∙ x.1 ∙ sym (with_form sense c F m l o (suc q)) in
      (x.0, sym (with_form sense c F l m p q) ∙ equal_before sense c F q (l.left ⊕ unit m.kind) (m.left ⊕ unit l.kind) e ∙ with_form sense c F m l o q)

-- Bounds of the classes at a stage are bounds at the next. Line 0 is a bound for every line at every stage.
pub bounds_next : (sense : Sense) (s : List ℕ) → Accepted s → (q : ℕ) (bounds : List ℕ) → BoundsAt sense s q bounds → BoundsAt sense s (suc q) bounds
bounds_next sense s ok q bounds f j h =
    let b = f j h in
    record {
      within = b.within;
      none = λ i l m. b.none i l (match_before sense (card_of s) (certified s ok) (line_of s i) (line_of s j) (line_on s i (omega (arith, b.within))) (line_on s j h) q m);
    }

pub bounds_first : (sense : Sense) (s : List ℕ) (q n : ℕ) → BoundsAt sense s q (replicate n 0)
bounds_first sense s q n j h = record { within = omega (arith, zero_counts n j); none = λ i l. absurd (omega (arith, zero_counts n j)) }
