-- What lines tell of the row of a kind k, from tables that hold the rows and the forms known so far, and the tests of a row that is set in the table.
use mathlib.Core.List.{List}
use mathlib.Core.Logic.{◌↔◌}
use mathlib.Core.Path.{◌≡◌, refl, sym, ap, ◌∙◌, subst}
use Prim.Native.Nat.{ℕ, zero, suc, ◌^◌, ◌≤◌, ◌<◌}
use native.Mathlib.Omega.{arith}
use Rattle.model.specs.Sense.{Sense}
use Rattle.model.specs.Field.{Field, unit, at}
use Rattle.model.specs.Base.{stage_row_in, stage_form_in}
use Rattle.model.specs.Card.{Reached}
use Rattle.model.specs.Norm.{kind_norm, norm}
use Rattle.model.specs.Limits.{most_kinds}
use Rattle.model.specs.Refusal.{Accepted}
use Rattle.model.specs.Sheet.{kind_count, line_count, line_of, card_of}
use Rattle.theory.specs.Terms.{Earlier}
use Rattle.theory.proofs.Field.{weigh_some, unit_same}
use Rattle.theory.proofs.Base.{unit_some}
use Rattle.theory.proofs.Sheets.{under_kinds, certified}
use Rattle.sheet.proofs.Laws.{on_line, kind_under, kinds_most}
use Rattle.tables.specs.Table.{row_in}
use Rattle.tables.specs.Lines.{lines_in, kind_in, code_in}
use Rattle.tables.specs.Match.{UsableIn, MatchIn, Answered}
use Rattle.tables.specs.Senses.{SharesTotal}
use Rattle.tables.specs.Class.{AlikeIn, Passes}
use Rattle.rows.specs.Stage.{left_form, MatchBy, ToldAt, line_kind, LowersAt, LinesAre}
use Rattle.rows.specs.Row.{LowersKind, Suits, ToldIn}
use Rattle.rows.specs.StageRows.{StageGiven, RowSought}
use Rattle.tables.proofs.Matching.{match_equivalence, match_agrees, all_agrees}
use Rattle.rows.proofs.Forms.{row_own}
use Rattle.rows.proofs.Candidates.{Product, TellsNone, lines_product, shares_start, row_shares}
use Rattle.rows.proofs.Passing.{AnsweredAt, passes_one, passes_next, row_kept, told_class}
use Rattle.rows.proofs.Sizes.{product_limit}
use Rattle.rows.proofs.StageRows.{lowers_at, usable_at, alike_at}

module _ {sense : Sense} {s : List ℕ} {t : ℕ} {lines classes : List ℕ} (G : StageGiven sense s t lines classes) where
  L : LinesAre s lines
  L = G.lines_are

  ok : Accepted s
  ok = G.accepted

  -- Every reached kind has a line that lowers the norm.
  pub has_line : (k : ℕ) → Reached (card_of s) k → (l : ℕ) × LowersKind lines k l
  has_line k h =
      let a = (certified s ok).attained k h in
      let w = on_line s a.0 a.1.0 in
      let kind : (line_of s w.0).kind ≡ k = ap (λ x. x.kind) (sym w.2) ∙ a.2 in
      let less : norm (card_of s) (line_of s w.0).left < kind_norm (card_of s) (line_of s w.0).kind =
      omega (arith, a.3, ap (λ x. norm (card_of s) x.left) w.2, ap (kind_norm (card_of s)) kind) in
      (w.0, ((lowers_at L w.0).1 (w.1, less), L.kind_is w.0 w.1 ∙ kind))

  line_kind_is : (m : ℕ) → m < line_count s → (line_of s m).kind < kind_count s
  line_kind_is m h = kind_under G.reads m h

  -- Of kind k, where the rows and the forms of earlier kinds and the forms of its own lines are known.
  module _ {k : ℕ} {rows forms : List ℕ} (K : RowSought sense s t k rows forms) where
    kind : Reached (card_of s) k
    kind = K.earlier_set.is_reached

    -- A line of the table that is of an atom by the rows is of an earlier atom of the stage, and the other way round.
    atom_earlier : (m : ℕ) → m < line_count s → row_in rows (kind_in lines m) (kind_in lines m) ≡ 1 → Earlier (card_of s) (line_kind s m) k
    atom_earlier m h one = K.earlier_set.atoms_earlier (line_kind s m) (line_kind_is m h) (rw (L.kind_is m h) at one)

    atom_told : (m : ℕ) → m < line_count s → Earlier (card_of s) (line_kind s m) k
        → (row_in rows (kind_in lines m) (kind_in lines m) ≡ 1) ↔ (stage_row_in sense (card_of s) (suc t) (line_kind s m) ≡ unit (line_kind s m))
    atom_told m h e =
        rw (L.kind_is m h, K.earlier_set.rows_known (line_kind s m) (line_kind_is m h) e)
        (row_own sense (card_of s) (certified s ok) t (line_kind s m))

    -- Candidates for k's row, by its line l.
    module _ {l : ℕ} (lw : LowersKind lines k l) where
      pub ll : LowersAt s l
      ll = (lowers_at L l).0 lw.0

      pub lk : line_kind s l ≡ k
      lk = sym (L.kind_is l ll.0) ∙ lw.1

      pub told_is : (m : ℕ) → LowersAt s m → Earlier (card_of s) (line_kind s m) k → (b : Field) → ToldIn lines forms l m b ↔ ToldAt sense (card_of s) t (line_of s l) (line_of s m) b
      told_is m w e b = rw (K.earlier_set.forms_known m w e, K.own_forms l ll lk, L.kind_is m w.0) ((λ h. h), (λ h. h))

      code_told : (m : ℕ) → LowersAt s m → code_in lines m ≡ code_in lines l → (line_of s m).code ≡ (line_of s l).code
      code_told m w e = sym (L.code_is m w.0) ∙ e ∙ L.code_is l ll.0

      -- A line that suits lowers the norm, and is of an earlier atom; what it tells is a product of earlier atoms.
      module _ {m : ℕ} (hm : m < lines_in lines) (S : Suits lines classes rows l m) where
        lm : LowersAt s m
        lm = (lowers_at L m).0 (hm, S.lowering)

        before : Earlier (card_of s) (line_kind s m) k
        before = atom_earlier m lm.0 S.own

        pub suits_product : (b : Field) → ToldIn lines forms l m b → Product sense (card_of s) t k b
        suits_product b e = lines_product sense s ok t k kind l m ll lm lk before ((atom_told m lm.0 before).0 S.own) b ((told_is m lm before b).0 e)

        -- It has the row of kind k for its form at the stage before.
        pub suits_form : (b : Field) → ToldIn lines forms l m b → (p : ℕ) → t ≡ suc p → stage_row_in sense (card_of s) (suc p) k ≡ stage_form_in sense (card_of s) (suc p) b
        suits_form b e p z =
            (told_class sense s ok k kind p classes (G.follows p z) l m ll.0 lm.0 lk (code_told m lm S.code) b
            (subst (λ (u : ℕ). ToldAt sense (card_of s) u (line_of s l) (line_of s m) b) z ((told_is m lm before b).0 e))).1 S.class

      -- A line that does not suit tells no candidate that is the row: if it told the row, the two lines would have one class.
      row_class : (m : ℕ) → LowersAt s m → (line_of s m).code ≡ (line_of s l).code → (b : Field) → ToldAt sense (card_of s) t (line_of s l) (line_of s m) b → Product sense (card_of s) t k b
          → stage_row_in sense (card_of s) (suc t) k ≡ b → at classes m ≡ at classes l
      row_class m w d b q P r = go t refl q P r
        where
          go : (u : ℕ) → u ≡ t → ToldAt sense (card_of s) u (line_of s l) (line_of s m) b → Product sense (card_of s) u k b → stage_row_in sense (card_of s) (suc u) k ≡ b → at classes m ≡ at classes l
          go zero z q P r = G.one_class (sym z) m ∙ sym (G.one_class (sym z) l)
          go (suc p) z q P r = (told_class sense s ok k kind p classes (G.follows p (sym z)) l m ll.0 w.0 lk d b q).0 (row_kept sense s ok k kind p b P r)

      pub none_suited : {m : ℕ} → (Suits lines classes rows l m → ⊥) → TellsNone sense s t k l m
      none_suited {m} n w d i own b q r =
          n (record {
            class = row_class m w d b q (lines_product sense s ok t k kind l m ll w lk i own b q) r;
            lowering = ((lowers_at L m).1 w).1;
            code = L.code_is m w.0 ∙ d ∙ sym (L.code_is l ll.0);
            own = (atom_told m w.0 i).1 own;
          })

      pub product_narrow : (b : Field) → Product sense (card_of s) t k b → (j : ℕ) → b j < 2 ^ 32
      product_narrow b P j = omega (arith, product_limit sense s ok t k (under_kinds s k kind) b P j)

  -- A product of atoms is not empty, and so has a line: where all lines have one class, the kind and the product may use lines of it.
  one_class : {k : ℕ} (b : Field) → Reached (card_of s) k → Product sense (card_of s) t k b → t ≡ 0 → AlikeIn lines classes (unit k) b
  unfolding card_of
  one_class {k} b h P z x = (
    (λ u. let w = has_line some.0 some.1 in (w.0, w.1.0.0, rw w.1.1 some.2, G.one_class z w.0 ∙ sym (G.one_class z u.0) ∙ u.3)),
    (λ u. let w = has_line k h in (w.0, w.1.0.0, rw w.1.1 (omega (arith, unit_same k)), G.one_class z w.0 ∙ sym (G.one_class z u.0) ∙ u.3)),
  )
    where
      some : (j : ℕ) × Reached (card_of s) j × (0 < b j)
      some =
          let w = weigh_some (card_of s).kinds (kind_norm (card_of s)) b (omega (arith, P.norms, (certified s ok).positive k h)) in
          (w.0, P.kinds w.0 w.2, w.2)

  -- The row that is set in the table, a product of earlier atoms that has the kind's row for its form at the stage before, is the stage's row just when it passes.
  module _ {k : ℕ} {rows forms : List ℕ} (K : RowSought sense s t k rows forms) (P : Product sense (card_of s) t k (row_in rows k))
      (f : (p : ℕ) → t ≡ suc p → stage_row_in sense (card_of s) (suc p) k ≡ stage_form_in sense (card_of s) (suc p) (row_in rows k)) where
    b : Field
    b = row_in rows k

    atoms : (j : ℕ) → 0 < row_in rows k j → row_in rows j ≡ unit j
    atoms j p = let e = P.before j p in K.earlier_set.rows_known j (under_kinds s j (P.kinds j p)) e.1 ∙ P.atoms j p

    -- The tests over the tables are those over the sheet.
    answered_is : Answered lines rows forms k ↔ AnsweredAt sense s t (row_in rows) k
    answered_is =
        all_agrees (match_equivalence (kind_in lines) (code_in lines) (row_in rows) (row_in forms)) (match_equivalence (line_kind s) (λ x. (line_of s x).code) (row_in rows) (λ x. left_form sense (card_of s) t (line_of s x)))
        (usable_at L (unit k)) (usable_at L (row_in rows k)) match
      where
        match : (i j : ℕ) → UsableIn lines (unit k) i → UsableIn lines (row_in rows k) j → MatchIn lines rows forms i j ↔ MatchBy sense (card_of s) t (row_in rows) (line_of s i) (line_of s j)
        match i j u v =
            let o = (usable_at L (unit k) i).0 u in
            let p = (usable_at L (row_in rows k) j).0 v in
            match_agrees (kind_in lines) (code_in lines) (row_in rows) (row_in forms) (line_kind s) (λ x. (line_of s x).code) (row_in rows) (λ x. left_form sense (card_of s) t (line_of s x))
            (record { codes = L.code_is i o.0.0; rows = ap (row_in rows) (L.kind_is i o.0.0); forms = K.own_forms i o.0 (unit_kind i o.1) })
            (record { codes = L.code_is j p.0.0; rows = ap (row_in rows) (L.kind_is j p.0.0); forms = K.earlier_set.forms_known j p.0 (P.before (line_kind s j) p.1).1 })
          where
            unit_kind : (x : ℕ) → 0 < unit k (line_kind s x) → line_kind s x ≡ k
            unit_kind x h = unit_some k (line_kind s x) h

    few : (card_of s).kinds ≤ most_kinds
    unfolding card_of
    few = kinds_most G.reads

    shared : (u : ℕ) → stage_row_in sense (card_of s) (suc u) k ≡ row_in rows k → SharesTotal sense (row_in rows k)
    shared u e = row_shares (card_of s) (certified s ok) few u k K.earlier_set.is_reached (row_in rows k) sense e

    pub passes_iff : Passes sense lines rows forms classes k ↔ (stage_row_in sense (card_of s) (suc t) k ≡ row_in rows k)
    passes_iff = go t refl P answered_is f
      where
        go : (u : ℕ) → t ≡ u → Product sense (card_of s) u k (row_in rows k) → Answered lines rows forms k ↔ AnsweredAt sense s u (row_in rows) k
            → ((p : ℕ) → u ≡ suc p → stage_row_in sense (card_of s) (suc p) k ≡ stage_form_in sense (card_of s) (suc p) (row_in rows k)) → Passes sense lines rows forms classes k ↔ (stage_row_in sense (card_of s) (suc u) k ≡ row_in rows k)
        go zero z Q a g =
            let x = passes_one sense s ok k K.earlier_set.is_reached (row_in rows) atoms Q in (
              (λ w. x.0 (shares_start (card_of s) (certified s ok) few 0 k K.earlier_set.is_reached (row_in rows k) sense Q w.shares, a.0 w.answered)),
              (λ e. record { shares = shared 0 e; uses = one_class (row_in rows k) K.earlier_set.is_reached P z; answered = a.1 (x.1 e).1 }),
            )
        go (suc p) z Q a g =
            let u = alike_at L classes (unit k) (row_in rows k) in
            let x = passes_next sense s ok k K.earlier_set.is_reached (row_in rows) atoms p Q classes (G.follows p z) in (
              (λ w. x.0 (g p refl, u.0 w.uses, a.0 w.answered)),
              (λ r. let y = x.1 r in record { shares = shared (suc p) r; uses = u.1 y.1; answered = a.1 y.2 }),
            )
