-- The candidates for a kind's row, and which of them is the row.
use mathlib.Core.List.{List}
use mathlib.Core.Logic.{◌↔◌, ◌⊎◌, inl, inr}
use mathlib.Core.Path.{◌≡◌, refl, sym, ◌∙◌, ap, subst, fun_ext}
use Prim.Native.Nat.{ℕ, suc, ◌+◌, ◌≤◌, ◌<◌}
use native.Mathlib.Decide.{dec_lt}
use native.Mathlib.Omega.{arith}
use Rattle.model.specs.Sense.{Sense, plain, finer}
use Rattle.model.specs.Limits.{most_kinds}
use Rattle.model.specs.Field.{Field, unit}
use Rattle.model.specs.Card.{Line, Card, On, Reached}
use Rattle.model.specs.Norm.{kind_norm, norm}
use Rattle.theory.specs.Expansion.{Expands}
use Rattle.theory.specs.Stages.{Lowers, Start}
use Rattle.model.specs.Base.{stage_row_in, stage_form_in}
use Rattle.theory.specs.Terms.{OfKinds, Earlier, Before}
use Rattle.model.specs.Sheet.{line_of, card_of}
use Rattle.model.specs.Refusal.{Accepted}
use Rattle.theory.proofs.Field.{unit_same, weigh_plus, weigh_unit, weigh_past}
use Rattle.theory.proofs.Base.{unit_some}
use Rattle.theory.proofs.Certified.{Found}
use Rattle.theory.proofs.Program.{Equal, Candidate, row_candidate, test_one, test_next}
use Rattle.theory.proofs.FinerRows.{finer_row}
use Rattle.theory.proofs.Sheets.{certified}
use Rattle.tables.specs.Senses.{SharesTotal}
use Rattle.rows.proofs.Forms.{earlier_iff, earlier_not, lowers_before, lowers_norm_is, left_kinds, unit_kinds, count_most, form_unit, form_self, form_before_is, form_atoms, form_norm, form_next, form_plus, row_sort}
use Rattle.rows.specs.Stage.{LowersAt, ToldAt, MatchAt}
use Rattle.rows.proofs.Lines.{line_lowers, lowering_line}

-- A product of atoms of stage q + 1 earlier than kind k, of k's norm. It is its own form, and none of its counts passes the norm.
pub record Product (sense : Sense) (c : Card) (q k : ℕ) (b : Field) : Type 0 where
  pub before : Before c k b
  pub kinds : OfKinds c b
  pub atoms : (j : ℕ) → 0 < b j → stage_row_in sense c (suc q) j ≡ unit j
  pub norms : norm c b ≡ kind_norm c k
  pub small : (j : ℕ) → b j ≤ kind_norm c k
  pub own_form : stage_form_in sense c (suc q) b ≡ b

module _ (sense : Sense) (c : Card) (F : Found c (kind_norm c)) (q k : ℕ) (h : Reached c k) where
  -- What is told by a line of the kind and a line of an earlier atom, both lowering the norm, is such a product.
  pub told_product : (l m : Line) → Lowers c (kind_norm c) l → Lowers c (kind_norm c) m → l.kind ≡ k → Earlier c m.kind k
      → stage_row_in sense c (suc q) m.kind ≡ unit m.kind → (b : Field) → ToldAt sense c q l m b → Product sense c q k b
  told_product l m o p e i own b t = record {
    before = λ j r. ((each j r).0, (each j r).1);
    kinds = kinds;
    atoms = λ j r. (each j r).2;
    norms = norms;
    small = λ j. omega (arith, count_most c F b kinds j, norms);
    own_form = form_self sense c F q b kinds (λ j r. (each j r).2);
  }
    where
      left_before : Before c k l.left
      left_before = rw e at (lowers_before c F l o)

      each : (j : ℕ) → 0 < b j → Reached c j × Earlier c j k × (stage_row_in sense c (suc q) j ≡ unit j)
      each j r = go (dec_lt 0 (unit m.kind j))
        where
          go : Dec (0 < unit m.kind j) → Reached c j × Earlier c j k × (stage_row_in sense c (suc q) j ≡ unit j)
          go (yes u) = rw (unit_some m.kind j u) (p.0.1, i, own)
          go (no u) =
              let v : 0 < stage_form_in sense c (suc q) l.left j = omega (arith, ap (λ (x : Field). x j) t) in
              let f = form_before_is sense c F q k h l.left left_before j v in
              (f.0, f.1, (form_atoms sense c F q l.left (left_kinds c F l o) j v).1)

      kinds : OfKinds c b
      kinds j r = (each j r).0

      norms : norm c b ≡ kind_norm c k
      norms =
          let n = c.kinds in
          let w = kind_norm c in
          omega (
            arith,
            ap (norm c) t,
            weigh_plus n w b (stage_form_in sense c (suc q) m.left),
            weigh_plus n w (unit m.kind) (stage_form_in sense c (suc q) l.left),
            weigh_unit n w m.kind (F.kinds m p.0.0),
            form_norm sense c F q m.left (left_kinds c F m p),
            form_norm sense c F q l.left (left_kinds c F l o),
            lowers_norm_is c F l o,
            lowers_norm_is c F m p,
            ap w e,
          )

  -- A product of earlier atoms has the kind's form just when it is the kind's row.
  pub equal_row : (b : Field) → Product sense c q k b → Equal sense c (kind_norm c) F q (unit k) b ↔ (stage_row_in sense c (suc q) k ≡ b)
  equal_row b P =
      let u = form_unit sense c F q k (F.reach.under k h) in
      ((λ e. sym u ∙ e ∙ P.own_form), (λ e. u ∙ e ∙ sym P.own_form))

  -- No line tells the row: then the kind is an atom.
  pub none_told : (l : Line) → Lowers c (kind_norm c) l → l.kind ≡ k
      → ((m : Line) → Lowers c (kind_norm c) m → m.code ≡ l.code → Earlier c m.kind k → stage_row_in sense c (suc q) m.kind ≡ unit m.kind → (b : Field) → ToldAt sense c q l m b
      → ¬ (stage_row_in sense c (suc q) k ≡ b))
      → stage_row_in sense c (suc q) k ≡ unit k
  none_told l o e f = go (row_sort sense c F q k h)
    where
      go : {A : Type 0} → (stage_row_in sense c (suc q) k ≡ unit k) ⊎ (Before c k (stage_row_in sense c (suc q) k) × A) → stage_row_in sense c (suc q) k ≡ unit k
      go (inl p) = p
      go (inr p) =
          let n : ¬ (stage_row_in sense c (suc q) k ≡ unit k) = λ r. earlier_not c F k (p.0 k (rw r (omega (arith, unit_same k)))).1 in
          let t : Candidate sense c (kind_norm c) F q k l = row_candidate sense c (kind_norm c) F q k h n l o e in
          let m = t.line in
          absurd (f m t.lowers t.code ((earlier_iff c F k m.kind (F.reach.under k h) (F.kinds m t.lowers.0.0)).0 t.before) t.own (stage_row_in sense c (suc q) k) t.row_told refl)

module _ (sense : Sense) (c : Card) (F : Found c (kind_norm c)) (k : ℕ) (h : Reached c k) where
  -- The test of a candidate at stage 1.
  pub row_one : (b : Field) → Product sense c 0 k b
      → (Start sense c (kind_norm c) (unit k) b × Expands (Lowers c (kind_norm c)) (Equal sense c (kind_norm c) F 0) (unit k) b) ↔ (stage_row_in sense c 1 k ≡ b)
  row_one b P =
      let t = test_one sense c (kind_norm c) F (unit k) b (unit_kinds c F k h) P.kinds in
      let r = equal_row sense c F 0 k h b P in
      ((λ x. r.0 (t.1 x)), (λ x. t.0 (r.1 x)))

  -- The test of a candidate at a later stage, from the stage before.
  pub row_next : (q : ℕ) (b : Field) → Product sense c (suc q) k b
      → (Equal sense c (kind_norm c) F q (unit k) b × Expands (On c) (Equal sense c (kind_norm c) F q) (unit k) b × Expands (Lowers c (kind_norm c)) (Equal sense c (kind_norm c) F (suc q)) (unit k) b)
      ↔ (stage_row_in sense c (suc (suc q)) k ≡ b)
  row_next q b P =
      let t = test_next sense c (kind_norm c) F (unit k) b (unit_kinds c F k h) P.kinds q in
      let r = equal_row sense c F (suc q) k h b P in
      ((λ x. r.0 (t.1 x)), (λ x. t.0 (r.1 x)))

-- What a product shares with the kind, beside the norm that it has, makes stage 0 relate the two; and a row shares it.
module _ (c : Card) (F : Found c (kind_norm c)) (few : c.kinds ≤ most_kinds) (q k : ℕ) (h : Reached c k) (b : Field) where
  under : k < c.kinds
  under = F.reach.under k h

  pub shares_start : (sense : Sense) → Product sense c q k b → SharesTotal sense b → Start sense c (kind_norm c) (unit k) b
  shares_start plain P shared = weigh_unit c.kinds (kind_norm c) k under ∙ sym P.norms
  shares_start finer P shared = (
    weigh_unit c.kinds (kind_norm c) k under ∙ sym P.norms,
    weigh_unit c.kinds (λ _. 1) k under ∙ sym shared ∙ weigh_past most_kinds c.kinds (λ _. 1) b few (λ j i. past j i (dec_lt 0 (b j))),
  )
    where
      past : (j : ℕ) → c.kinds ≤ j → Dec (0 < b j) → b j ≡ 0
      past j i (yes p) = absurd (omega (arith, F.reach.under j (P.kinds j p)))
      past j i (no n) = omega arith

  pub row_shares : (sense : Sense) → stage_row_in sense c (suc q) k ≡ b → SharesTotal sense b
  row_shares plain e = tt
  row_shares finer e =
      let r = finer_row c F q k h in
      rw (sym e ∙ r.2) (weigh_unit most_kinds (λ _. 1) r.0 (omega (arith, F.reach.under r.0 r.1)))

-- What lines l and m tell at stage q + 2 has the row of l's kind for its form at stage q + 1 just when the two lines match there.
module _ (sense : Sense) (c : Card) (F : Found c (kind_norm c)) (q k : ℕ) (l m : Line) (o : On c l) (p : On c m) (e : l.kind ≡ k) (d : m.code ≡ l.code)
    (b : Field) (t : ToldAt sense c (suc q) l m b) where
  -- Both sides of what tells it, by the rows of stage q + 1.
  told_before : (j : ℕ) → stage_form_in sense c (suc q) b j + stage_form_in sense c (suc q) m.left j ≡ stage_row_in sense c (suc q) m.kind j + stage_form_in sense c (suc q) l.left j
  told_before j =
      let s = stage_form_in sense c (suc q) in
      omega (
        arith,
        ap (λ (f : Field). s f j) t,
        ap (λ (f : Field). f j) (form_plus sense c F q b (stage_form_in sense c (suc (suc q)) m.left)),
        ap (λ (f : Field). f j) (form_plus sense c F q (unit m.kind) (stage_form_in sense c (suc (suc q)) l.left)),
        ap (λ (f : Field). f j) (form_unit sense c F q m.kind (F.kinds m p)),
        ap (λ (f : Field). f j) (form_next sense c F q m.left),
        ap (λ (f : Field). f j) (form_next sense c F q l.left),
      )

  pub told_kept : (stage_row_in sense c (suc q) k ≡ stage_form_in sense c (suc q) b) ↔ MatchAt sense c q l m
  told_kept = (
    (λ x. (d, fun_ext (λ j. omega (arith, told_before j, ap (λ (f : Field). f j) x, ap (λ i. stage_row_in sense c (suc q) i j) e)))),
    (λ x. fun_ext (λ j. omega (arith, told_before j, ap (λ (f : Field). f j) x.1, ap (λ i. stage_row_in sense c (suc q) i j) e))),
  )

-- Line j, with line i of kind k, tells no candidate that is k's row.
abbrev pub TellsNone : Sense → List ℕ → ℕ → ℕ → ℕ → ℕ → Type 0
TellsNone sense s q k i j =
    LowersAt s j → (line_of s j).code ≡ (line_of s i).code → Earlier (card_of s) (line_of s j).kind k → stage_row_in sense (card_of s) (suc q) (line_of s j).kind ≡ unit (line_of s j).kind
    → (b : Field) → ToldAt sense (card_of s) q (line_of s i) (line_of s j) b → ¬ (stage_row_in sense (card_of s) (suc q) k ≡ b)

-- What lines tell of an accepted sheet, with its lines by number.
module _ (sense : Sense) (s : List ℕ) (ok : Accepted s) (q k : ℕ) (h : Reached (card_of s) k) where
  pub lines_product : (i j : ℕ) → LowersAt s i → LowersAt s j → (line_of s i).kind ≡ k → Earlier (card_of s) (line_of s j).kind k
      → stage_row_in sense (card_of s) (suc q) (line_of s j).kind ≡ unit (line_of s j).kind → (b : Field) → ToldAt sense (card_of s) q (line_of s i) (line_of s j) b → Product sense (card_of s) q k b
  lines_product i j o p = told_product sense (card_of s) (certified s ok) q k h (line_of s i) (line_of s j) (line_lowers s ok i o) (line_lowers s ok j p)

  pub no_line_tells : (i : ℕ) → LowersAt s i → (line_of s i).kind ≡ k → ((j : ℕ) → TellsNone sense s q k i j) → stage_row_in sense (card_of s) (suc q) k ≡ unit k
  no_line_tells i o e f =
      none_told sense (card_of s) (certified s ok) q k h (line_of s i) (line_lowers s ok i o) e (λ m p. let t = lowering_line s m p in subst
      (λ (x : Line). x.code ≡ (line_of s i).code → Earlier (card_of s) x.kind k → stage_row_in sense (card_of s) (suc q) x.kind ≡ unit x.kind → (b : Field)
      → ToldAt sense (card_of s) q (line_of s i) x b → ¬ (stage_row_in sense (card_of s) (suc q) k ≡ b))
      (sym t.2) (f t.0 t.1))
