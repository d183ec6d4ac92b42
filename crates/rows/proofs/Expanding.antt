-- Expansion of two fields as matches between the lines that they may use: by all lines, at a stage that relates the two, and by those that lower the norm, for a kind and a product of atoms.
use mathlib.Core.List.{List}
use mathlib.Core.Logic.{◌↔◌}
use mathlib.Core.Path.{◌≡◌, sym, ap, fun_ext}
use Prim.Native.Nat.{ℕ, suc, ◌<◌}
use native.Mathlib.Omega.{arith}
use Rattle.model.specs.Sense.{Sense}
use Rattle.model.specs.Field.{Field, unit}
use Rattle.model.specs.Card.{Line, Card, On, fire}
use Rattle.model.specs.Norm.{kind_norm}
use Rattle.theory.specs.Expansion.{Expands}
use Rattle.theory.specs.Stages.{Lowers}
use Rattle.model.specs.Base.{stage_row_in}
use Rattle.model.specs.Sheet.{line_count, line_of, card_of}
use Rattle.model.specs.Refusal.{Accepted}
use Rattle.theory.proofs.Base.{unit_some}
use Rattle.theory.proofs.Certified.{Found}
use Rattle.theory.proofs.Program.{Equal, effects, form_fire}
use Rattle.theory.proofs.Sheets.{certified}
use Rattle.sheet.proofs.Laws.{on_line}
use Rattle.tables.specs.Match.{Usable, AllMatched}
use Rattle.tables.proofs.Matching.{Equivalence, match_equivalence, matched_alike}
use Rattle.rows.specs.Stage.{left_form, MatchBy, MatchAt, line_kind, LowersAt, UsableAt, LinesMatch, Classes, AlikeAt}
use Rattle.rows.proofs.Lines.{line_on, line_lowers, lowering_line, numbers_matched}
use Rattle.rows.proofs.Candidates.{Product}

-- Where two lines of one code leave related fields just when they match by M, expansion is that each usable line has a match.
module _ (L : Line → Type 0) (R : Field → Field → Type 0) (M : Line → Line → Type 0) (E : Equivalence M) (code : (l m : Line) → M l m → m.code ≡ l.code) (a b : Field)
    (results : (l m : Line) → Usable L (λ x. x.kind) a l → Usable L (λ x. x.kind) b m → m.code ≡ l.code → R (fire l a) (fire m b) ↔ M l m) where
  pub expands_matched : Expands L R a b ↔ AllMatched M (Usable L (λ l. l.kind) a) (Usable L (λ l. l.kind) b)
  expands_matched = (
    (λ x. (
      (λ l p. let r = x.0 l p.0 p.1 in (r.line, (r.on, r.can), (results l r.line p (r.on, r.can) r.same).0 r.rel)),
      (λ m p. let r = x.1 m p.0 p.1 in (r.line, (r.on, r.can), E.back ((results r.line m (r.on, r.can) p (sym r.same)).0 r.rel))),
    )),
    (λ x. (
      (λ l o h.
          let t = x.0 l (o, h) in
          let e = code l t.0 t.2 in
          record { line = t.0; on = t.1.0; can = t.1.1; same = e; rel = (results l t.0 (o, h) t.1 e).1 t.2 }),
      (λ m o h.
          let t = x.1 m (o, h) in
          let e = code m t.0 t.2 in
          record { line = t.0; on = t.1.0; can = t.1.1; same = e; rel = (results t.0 m t.1 (o, h) (sym e)).1 (E.back t.2) }),
    )),
  )

-- By all lines of an accepted sheet, two fields of equal forms.
module _ (sense : Sense) (s : List ℕ) (ok : Accepted s) (q : ℕ) (a b : Field) (e : Equal sense (card_of s) (kind_norm (card_of s)) (certified s ok) q a b) where
  abbrev c : Card
  c = card_of s

  lines_match : Expands (On c) (Equal sense c (kind_norm c) (certified s ok) q) a b ↔ AllMatched (LinesMatch sense s q) (Usable (λ j. j < line_count s) (line_kind s) a) (Usable (λ j. j < line_count s) (line_kind s) b)
  lines_match =
      let x = expands_matched (On c) (Equal sense c (kind_norm c) (certified s ok) q) (MatchAt sense c q) (match_equivalence (λ l. l.kind) (λ l. l.code) (stage_row_in sense c (suc q)) (left_form sense c q)) (λ l m w. w.0) a b
      (λ l m o p d. let t = effects sense c (kind_norm c) (certified s ok) q l m a b o.0 p.0 o.1 p.1 e in (λ r. (d, t.0 r), λ w. t.1 w.1)) in
      let y = numbers_matched s {P = On c} {Q = λ j. j < line_count s} (line_on s) (on_line s) (MatchAt sense c q) a b in
      (λ z. y.0 (x.0 z), λ z. x.1 (y.1 z))

  -- With numbers that tell which lines match, expansion is a comparison of two sets of numbers.
  pub classes_expand : (classes : List ℕ) → Classes sense s q classes → Expands (On c) (Equal sense c (kind_norm c) (certified s ok) q) a b ↔ AlikeAt s classes a b
  classes_expand classes K =
      let t = matched_alike (line_kind s) classes K a b in
      (λ y. t.0 (lines_match.0 y), λ f. lines_match.1 (t.1 f))

-- By the lines that lower the norm, a kind and a product of atoms. The rows are any in which the kind's is the product, and those of its atoms are the kinds themselves.
module _ (sense : Sense) (c : Card) (F : Found c (kind_norm c)) (q k : ℕ) (b : Field) (P : Product sense c q k b) (row : ℕ → Field) (own : row k ≡ b) (atoms : (j : ℕ) → 0 < b j → row j ≡ unit j) where
  -- The two lines leave equal forms just when they match.
  leave_equal : (l m : Line) → Usable (Lowers c (kind_norm c)) (λ x. x.kind) (unit k) l → Usable (Lowers c (kind_norm c)) (λ x. x.kind) b m → m.code ≡ l.code
      → Equal sense c (kind_norm c) F q (fire l (unit k)) (fire m b) ↔ MatchBy sense c q row l m
  leave_equal l m o p d =
      let e = unit_some k l.kind o.1 in
      let left : fire l (unit k) ≡ l.left = fun_ext (λ j. omega (arith, ap (λ x. unit x j) e)) in
      let fired = form_fire sense c (kind_norm c) F q m b p.0.0.0 p.1 in
      let kind : row l.kind ≡ b = rw e own in
      let its = P.atoms m.kind p.1 in
      let atom = atoms m.kind p.1 in (
        (λ x. (d, fun_ext (λ j. omega (arith, fired j, here its j, here P.own_form j, here kind j, here atom j, here (rw left at x) j)))),
        (λ x. rw left (fun_ext (λ j. omega (arith, fired j, here its j, here P.own_form j, here kind j, here atom j, here x.1 j)))),
      )
    where
      here : {f g : Field} → f ≡ g → (j : ℕ) → f j ≡ g j
      here e j = ap (λ (x : Field). x j) e

  pub lowering_matched : Expands (Lowers c (kind_norm c)) (Equal sense c (kind_norm c) F q) (unit k) b
      ↔ AllMatched (MatchBy sense c q row) (Usable (Lowers c (kind_norm c)) (λ l. l.kind) (unit k)) (Usable (Lowers c (kind_norm c)) (λ l. l.kind) b)
  lowering_matched =
      expands_matched (Lowers c (kind_norm c)) (Equal sense c (kind_norm c) F q) (MatchBy sense c q row) (match_equivalence (λ l. l.kind) (λ l. l.code) row (left_form sense c q)) (λ l m w. w.0) (unit k) b leave_equal

-- Norm-reducing expansion of a kind and a product, as matches of lines, of an accepted sheet with its lines by number.
module _ (sense : Sense) (s : List ℕ) (ok : Accepted s) (q k : ℕ) (b : Field) (P : Product sense (card_of s) q k b) (row : ℕ → Field) (own : row k ≡ b) (atoms : (j : ℕ) → 0 < b j → row j ≡ unit j) where
  pub lines_lowering : Expands (Lowers (card_of s) (kind_norm (card_of s))) (Equal sense (card_of s) (kind_norm (card_of s)) (certified s ok) q) (unit k) b
      ↔ AllMatched (λ i j. MatchBy sense (card_of s) q row (line_of s i) (line_of s j)) (UsableAt s (unit k)) (UsableAt s b)
  lines_lowering =
      let x = lowering_matched sense (card_of s) (certified s ok) q k b P row own atoms in
      let y = numbers_matched s {P = Lowers (card_of s) (kind_norm (card_of s))} {Q = LowersAt s} (line_lowers s ok) (lowering_line s) (MatchBy sense (card_of s) q row) (unit k) b in
      (λ z. y.0 (x.0 z), λ z. x.1 (y.1 z))
