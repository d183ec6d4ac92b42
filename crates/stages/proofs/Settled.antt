-- When a stage is settled, and the stage at which the loop over the stages ends.
use mathlib.Core.List.{List}
use mathlib.Core.Logic.{◌↔◌}
use mathlib.Core.Path.{◌≡◌}
use Prim.Native.Nat.{ℕ, zero, suc, ◌≤◌, ◌<◌}
use native.Mathlib.Decide.{dec_lt}
use native.Mathlib.Omega.{arith}
use lib.Dec.{T}
use Rattle.model.specs.Sense.{Sense}
use Rattle.model.specs.Field.{Field, unit}
use Rattle.model.specs.Card.{Card, On, Reached}
use Rattle.model.specs.Norm.{kind_norm}
use Rattle.theory.specs.Expansion.{Expands}
use Rattle.model.specs.Stage.{equal_in, stage_in}
use Rattle.model.specs.Base.{stage_row_in, settled_stage_in}
use Rattle.theory.specs.Terms.{OnReached, SettledIn}
use Rattle.model.specs.Sheet.{kind_count, card_of}
use Rattle.model.specs.Refusal.{Accepted}
use Rattle.theory.proofs.Moves.{expands_mono}
use Rattle.theory.proofs.Normed.{Normed}
use Rattle.theory.proofs.Stages.{Stage, level}
use Rattle.theory.proofs.Decide.{Finite}
use Rattle.theory.proofs.Count.{level_base, passes_settled}
use Rattle.theory.proofs.Certified.{Found}
use Rattle.theory.proofs.Exec.{Tells}
use Rattle.theory.proofs.Rows.{finite}
use Rattle.theory.proofs.Senses.{weight_of, normed_in, tells_start, tells_in}
use Rattle.theory.proofs.Settling.{base, row_of, settled_to, sheet_settles, settled_only}
use Rattle.theory.proofs.Program.{Equal, expands_forms}
use Rattle.theory.proofs.Reach.{expands_reached}
use Rattle.theory.proofs.Sheets.{sheet_reaches, certified}
use Rattle.theory.proofs.Limits.{accepted_limits}
use Rattle.rows.specs.Stage.{Classes, AlikeAt}
use Rattle.rows.proofs.Forms.{unit_kinds, row_kinds, row_equal}
use Rattle.rows.proofs.Expanding.{classes_expand}

module _ (sense : Sense) (c : Card) (F : Found c (kind_norm c)) (q : ℕ) where
  abbrev w : ℕ → ℕ
  w = kind_norm c

  abbrev N : Normed
  N = normed_in sense c w F

  abbrev fin : Finite N.on
  fin = finite c w (weight_of sense) F (equal_in sense c w) (tells_start sense c w F)

  abbrev Related : Field → Field → Type 0
  Related a b = T (stage_in sense c w (suc q) a b)

  tells_level : (a b : Field) → Tells (stage_in sense c w (suc q) a b) (level N q a b)
  unfolding Stage
  tells_level a b = tells_in sense c w F (suc q) a b

  -- A stage is settled just when every reached kind and its row satisfy expansion in equal forms: "every row must".
  pub settled_rows : SettledIn sense c (suc q) ↔ ((k : ℕ) → Reached c k → Expands (On c) (Equal sense c w F q) (unit k) (stage_row_in sense c (suc q) k))
  settled_rows = (
    (λ f k h. (forms k h).0 (f (unit k) (stage_row_in sense c (suc q) k) (unit_kinds c F k h) (row_kinds sense c F q k) ((base sense c F q).related k h))),
    (λ f. settled_to sense c F (suc q) (passes_settled N fin q (λ k _ p. passes k (F.out k p) (f k (F.out k p))))),
  )
    where
      forms : (k : ℕ) → Reached c k → Expands (On c) Related (unit k) (stage_row_in sense c (suc q) k) ↔ Expands (On c) (Equal sense c w F q) (unit k) (stage_row_in sense c (suc q) k)
      forms k h = expands_forms sense c w F (On c) (λ l o. o) q (unit k) (stage_row_in sense c (suc q) k) (unit_kinds c F k h) (row_kinds sense c F q k)

      passes : (k : ℕ) (h : Reached c k) → Expands (On c) (Equal sense c w F q) (unit k) (stage_row_in sense c (suc q) k) → Expands (OnReached c) (level N q) (unit k) ((level_base N fin q).row k)
      passes k h e =
          rw (row_of sense c F q k h)
          at (expands_reached c (level N q) (unit k) (stage_row_in sense c (suc q) k) (unit_kinds c F k h) (row_kinds sense c F q k)
          (expands_mono (On c) Related (level N q) (λ x y. (tells_level x y).fact) (unit k) (stage_row_in sense c (suc q) k) ((forms k h).1 e)))

-- Of an accepted sheet.
module _ (sense : Sense) (s : List ℕ) (ok : Accepted s) where
  -- By classes: every reached kind's lines have the classes of the lines that its row may use.
  pub settled_classes : (q : ℕ) (classes : List ℕ) → Classes sense s q classes
      → SettledIn sense (card_of s) (suc q) ↔ ((k : ℕ) → Reached (card_of s) k → AlikeAt s classes (unit k) (stage_row_in sense (card_of s) (suc q) k))
  settled_classes q classes K = (
    (λ x k h. (uses k h).0 ((settled_rows sense (card_of s) (certified s ok) q).0 x k h)),
    (λ f. (settled_rows sense (card_of s) (certified s ok) q).1 (λ k h. (uses k h).1 (f k h))),
  )
    where
      uses : (k : ℕ) → Reached (card_of s) k
          → Expands (On (card_of s)) (Equal sense (card_of s) (kind_norm (card_of s)) (certified s ok) q) (unit k) (stage_row_in sense (card_of s) (suc q) k)
          ↔ AlikeAt s classes (unit k) (stage_row_in sense (card_of s) (suc q) k)
      uses k h = classes_expand sense s ok q (unit k) (stage_row_in sense (card_of s) (suc q) k) (row_equal sense (card_of s) (certified s ok) q k ((sheet_reaches s).under k h)) classes K

  -- While no stage from 1 to q is settled, stage q + 1 is at most the settled stage, and so at most n.
  pub settled_after : (q : ℕ) → ((p : ℕ) → p < q → ¬ SettledIn sense (card_of s) (suc p)) → suc q ≤ settled_stage_in sense (card_of s)
  settled_after q f = go (settled_stage_in sense (card_of s)) (sheet_settles sense s ok).from (sheet_settles sense s ok).settled
    where
      go : (t : ℕ) → 1 ≤ t → SettledIn sense (card_of s) t → suc q ≤ t
      go zero h x = absurd (omega arith)
      go (suc p) h x = side (dec_lt p q)
        where
          side : Dec (p < q) → suc q ≤ suc p
          side (yes i) = absurd (f p i x)
          side (no i) = omega arith

  pub settled_most : settled_stage_in sense (card_of s) ≤ kind_count s
  unfolding card_of
  settled_most = omega (arith, (sheet_settles sense s ok).most, (sheet_reaches s).count_most, (accepted_limits s ok).kinds.0)

  -- The first stage that is settled is the settled stage.
  pub settled_first : (q : ℕ) → SettledIn sense (card_of s) (suc q) → ((p : ℕ) → p < q → ¬ SettledIn sense (card_of s) (suc p)) → suc q ≡ settled_stage_in sense (card_of s)
  settled_first q x f = settled_only sense s ok (suc q) (omega arith) x earlier
    where
      earlier : (t : ℕ) → 1 ≤ t → t < suc q → ¬ SettledIn sense (card_of s) t
      earlier zero h i = absurd (omega arith)
      earlier (suc p) h i = f p (omega arith)
