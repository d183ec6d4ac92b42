-- The loops that mark the classes of the lines of each kind, that add such marks, and that compare them.
-- Assumes nothing.
use mathlib.Core.Bool.{Bool, true, false}
use mathlib.Core.List.{List}
use mathlib.Core.Logic.{◌↔◌, ◌⊎◌, inl, ⊎_elim}
use mathlib.Core.Path.{◌≡◌, refl, sym, subst, ap, ◌∙◌}
use Prim.Native.Nat.{ℕ, ◌+◌, ◌*◌, ◌≤◌, ◌<◌}
use native.Mathlib.Decide.{ℕ_discrete, dec_lt}
use native.Mathlib.Omega.{arith}
use lib.ListN.{length, get_or, set, drop, replicate, length-set, length-take, length-drop, length-replicate, get_or-eq_default}
use lib.Seq.{get_or-set_same, get_or-set_other, get_or-take, get_or-drop, length-take-le, ext_get_or}
use Rattle.model.specs.Field.{Field, unit, at}
use Rattle.model.specs.Limits.{most_kinds, most_lines}
use Rattle.theory.proofs.Base.{unit_some}
use Rattle.theory.proofs.Done.{none_done}
use Rattle.tables.specs.Table.{Under}
use Rattle.tables.specs.Lines.{lines_in, kind_in}
use Rattle.tables.specs.Class.{MayUse, AlikeIn, MarksTell, marks_part, KindMarks}
use Rattle.tables.proofs.Tables.{past, unit_here}
use Rattle.tables.proofs.Answers.{not_both}

-- No mark stands past the end of a list, and none in a list that has none.
past_mark : (marks : List Bool) (x : ℕ) → length marks ≤ x → get_or marks x false ≡ true → ⊥
past_mark marks x l e = not_both (get_or-eq_default marks false l) e

pub no_mark : (n x : ℕ) → get_or (replicate n false) x false ≡ true → ⊥
no_mark n x e = not_both (none_done n x) e

-- A mark of a row is one of the table's.
marks_at : (marks : List Bool) (k x : ℕ) → x < most_lines → get_or (marks_part marks k) x false ≡ get_or marks (k * most_lines + x) false
marks_at marks k x h = get_or-take most_lines (drop (k * most_lines) marks) x false h ∙ get_or-drop (k * most_lines) marks x false

marks_past : (marks : List Bool) (k x : ℕ) → most_lines ≤ x → get_or (marks_part marks k) x false ≡ true → ⊥
marks_past marks k x h = past_mark (marks_part marks k) x (omega (arith, length-take most_lines (drop (k * most_lines) marks)))

-- A row has 256 marks.
pub marks_long : {xs : List Bool} (marks : List Bool) (k : ℕ) → k * most_lines + most_lines ≤ length marks → xs ≡ marks_part marks k → length xs ≡ most_lines
marks_long marks k l e = rw e (length-take-le most_lines (drop (k * most_lines) marks) (omega (arith, length-drop (k * most_lines) marks)))

-- The classes of the lines below i are marked, each for the line's kind.
pub record KindsMarked (lines classes : List ℕ) (i : ℕ) (marks : List Bool) : Type 0 where
  pub within : i ≤ lines_in lines
  pub long : length marks ≡ 8192
  pub tells : (k : ℕ) → k < most_kinds → MarksTell (kind_in lines) (at classes) (unit k) i (marks_part marks k)

no_row_mark : (n : ℕ) (marks : List Bool) → marks ≡ replicate n false → (k x : ℕ) → get_or (marks_part marks k) x false ≡ true → ⊥
no_row_mark n marks e k x m = go (dec_lt x most_lines)
  where
    go : Dec (x < most_lines) → ⊥
    go (yes l) = no_mark n (k * most_lines + x) (ap (λ (xs : List Bool). get_or xs (k * most_lines + x) false) (sym e) ∙ sym (marks_at marks k x l) ∙ m)
    go (no l) = marks_past marks k x (omega arith) m

pub kinds_marked_none : {lines classes : List ℕ} {marks : List Bool} → marks ≡ replicate 8192 false → KindsMarked lines classes 0 marks
kinds_marked_none {marks = marks} e =
    record {
      within = omega arith;
      long = ap length e ∙ length-replicate 8192 false;
      tells = λ k _ x. (λ m. absurd (no_row_mark 8192 marks e k x m), λ u. absurd (omega (arith, u.1)));
    }

module _ {lines classes : List ℕ} {i : ℕ} {marks : List Bool} (h : KindsMarked lines classes i marks) where
  -- A line among the first i is one among the first i + 1, and the other way round but for line i.
  more_lines : (f : Field) (x : ℕ) → MayUse (kind_in lines) (at classes) f i x → MayUse (kind_in lines) (at classes) f (i + 1) x
  more_lines f x u = (u.0, omega (arith, u.1), u.2, u.3)

  fewer_lines : (f : Field) (x : ℕ) (u : MayUse (kind_in lines) (at classes) f (i + 1) x) → ¬ (u.0 ≡ i) → MayUse (kind_in lines) (at classes) f i x
  fewer_lines f x u d = (u.0, omega (arith, u.1), u.2, u.3)

  pub kinds_marked_more : i < lines_in lines → kind_in lines i < most_kinds → Under most_lines classes
      → KindsMarked lines classes (i + 1) (set marks (kind_in lines i * most_lines + at classes i) true)
  kinds_marked_more l a b =
      record { within = omega arith; long = length-set marks (kind_in lines i * most_lines + at classes i) true ∙ h.long; tells = λ k q x. go k q x (dec_lt x most_lines) }
    where
      room : kind_in lines i * most_lines + at classes i < length marks
      room = omega (arith, h.long, b i)

      inside : (k : ℕ) → k < most_kinds → (x : ℕ) → x < most_lines → Dec (k * most_lines + x ≡ kind_in lines i * most_lines + at classes i)
          → (get_or (set marks (kind_in lines i * most_lines + at classes i) true) (k * most_lines + x) false ≡ true) ↔ MayUse (kind_in lines) (at classes) (unit k) (i + 1) x
      inside k q x r (yes e) =
          let own : kind_in lines i ≡ k = omega (arith, b i) in
          let class : at classes i ≡ x = omega (arith, b i) in (
            λ _. (i, omega arith, omega (arith, unit_here k (kind_in lines i) own), class),
            λ _. rw e (get_or-set_same marks (kind_in lines i * most_lines + at classes i) true false room),
          )
      inside k q x r (no d) =
          let same = get_or-set_other marks (kind_in lines i * most_lines + at classes i) (k * most_lines + x) true false d in (
            λ e. more_lines (unit k) x ((h.tells k q x).0 (marks_at marks k x r ∙ sym same ∙ e)),
            λ u. same ∙ sym (marks_at marks k x r) ∙ (h.tells k q x).1 (fewer_lines (unit k) x u (λ z. d (omega (arith, unit_some k (kind_in lines u.0) u.2, u.3, ap (kind_in lines) z, ap (at classes) z)))),
          )

      go : (k : ℕ) → k < most_kinds → (x : ℕ) → Dec (x < most_lines)
          → (get_or (marks_part (set marks (kind_in lines i * most_lines + at classes i) true) k) x false ≡ true) ↔ MayUse (kind_in lines) (at classes) (unit k) (i + 1) x
      go k q x (yes r) =
          let e = marks_at (set marks (kind_in lines i * most_lines + at classes i) true) k x r in
          let t = inside k q x r (ℕ_discrete (k * most_lines + x) (kind_in lines i * most_lines + at classes i)) in
          (λ m. t.0 (sym e ∙ m), λ u. e ∙ t.1 u)
      go k q x (no r) = (
        λ m. absurd (marks_past (set marks (kind_in lines i * most_lines + at classes i) true) k x (omega arith) m),
        λ u. absurd (omega (arith, u.3, b u.0)),
      )

  pub kinds_marked_all : lines_in lines ≤ i → KindMarks lines classes marks
  kinds_marked_all l =
      let e : i ≡ lines_in lines = omega (arith, h.within) in
      record { long = h.long; tells = subst (λ (m : ℕ). (k : ℕ) → k < most_kinds → MarksTell (kind_in lines) (at classes) (unit k) m (marks_part marks k)) e h.tells }

-- The marks below i are added to the others.
pub record MarksAdded (old more : List Bool) (i : ℕ) (sum : List Bool) : Type 0 where
  pub within : i ≤ length more
  pub room : length more ≤ length old
  pub kept : length sum ≡ length old
  pub tells : (x : ℕ) → (get_or sum x false ≡ true) ↔ ((get_or old x false ≡ true) ⊎ ((x < i) × (get_or more x false ≡ true)))

pub marks_added_none : {old more : List Bool} → length more ≤ length old → MarksAdded old more 0 old
marks_added_none r =
    record { within = omega arith; room = r; kept = refl; tells = λ x. (λ e. inl e, λ w. ⊎_elim (λ e. e) (λ u. absurd (omega (arith, u.0))) w) }

-- Class x is marked for one of the first k kinds, of which the field has some.
abbrev pub MarkedFor : List Bool → Field → ℕ → ℕ → Type 0
MarkedFor marks f k x = (j : ℕ) × (j < k) × (0 < f j) × (get_or (marks_part marks j) x false ≡ true)

-- The marks of the field's kinds below k are added.
pub record FieldMarked (marks : List Bool) (field : List ℕ) (k : ℕ) (sum : List Bool) : Type 0 where
  pub few : length field ≤ most_kinds
  pub within : k ≤ length field
  pub size : length sum ≡ most_lines
  pub tells : (x : ℕ) → (get_or sum x false ≡ true) ↔ MarkedFor marks (at field) k x

pub field_marked_none : {marks : List Bool} {field : List ℕ} → length field ≤ most_kinds → FieldMarked marks field 0 (replicate most_lines false)
field_marked_none f =
    record { few = f; within = omega arith; size = refl; tells = λ x. (λ e. absurd (no_mark most_lines x e), λ w. absurd (omega (arith, w.1))) }

module _ {marks : List Bool} {field : List ℕ} {k : ℕ} {sum : List Bool} (h : FieldMarked marks field k sum) where
  pub field_marked_all : length field ≤ k → (lines classes : List ℕ) → KindMarks lines classes marks → MarksTell (kind_in lines) (at classes) (at field) (lines_in lines) sum
  field_marked_all l lines classes K x = (λ e. there ((h.tells x).0 e), λ u. (h.tells x).1 (back u))
    where
      there : MarkedFor marks (at field) k x → MayUse (kind_in lines) (at classes) (at field) (lines_in lines) x
      there w =
          let u = (K.tells w.0 (omega (arith, w.1, h.within, h.few)) x).0 w.3 in
          (u.0, u.1, omega (arith, w.2, ap (at field) (unit_some w.0 (kind_in lines u.0) u.2)), u.3)

      back : MayUse (kind_in lines) (at classes) (at field) (lines_in lines) x → MarkedFor marks (at field) k x
      back u = go (dec_lt (kind_in lines u.0) k)
        where
          go : Dec (kind_in lines u.0 < k) → MarkedFor marks (at field) k x
          go (yes p) =
              (kind_in lines u.0, p, u.2, (K.tells (kind_in lines u.0) (omega (arith, h.within, h.few)) x).1 (u.0, u.1, omega (arith, unit_here (kind_in lines u.0) (kind_in lines u.0) refl), u.3))
          go (no p) = absurd (omega (arith, u.2, past field (kind_in lines u.0) (omega arith)))

-- Marks of two fields are the same just when the fields may use lines of the same classes.
marks_tell : {a b : List Bool} {P Q : ℕ → Type 0} → length a ≡ length b → ((x : ℕ) → (get_or a x false ≡ true) ↔ P x) → ((x : ℕ) → (get_or b x false ≡ true) ↔ Q x)
    → (a ≡ b) ↔ ((x : ℕ) → P x ↔ Q x)
marks_tell {a} {b} {P} {Q} l p q = (λ e x. there e x, λ f. ext_get_or false a b l (λ x _. both_true (get_or a x false) (get_or b x false) (here f x)))
  where
    there : a ≡ b → (x : ℕ) → P x ↔ Q x
    there e x =
        let t : get_or a x false ≡ get_or b x false = ap (λ (l : List Bool). get_or l x false) e in
        (λ u. (q x).0 (sym t ∙ (p x).1 u), λ u. (p x).0 (t ∙ (q x).1 u))

    here : ((x : ℕ) → P x ↔ Q x) → (x : ℕ) → (get_or a x false ≡ true) ↔ (get_or b x false ≡ true)
    here f x = (λ e. (q x).1 ((f x).0 ((p x).0 e)), λ e. (p x).1 ((f x).1 ((q x).0 e)))

    both_true : (s t : Bool) → (s ≡ true) ↔ (t ≡ true) → s ≡ t
    both_true true t r = sym (r.0 refl)
    both_true false true r = r.1 refl
    both_true false false r = refl

-- The marks of kind k and of a field are the same just when the two may use lines of the same classes.
pub uses_tell : {r : Bool} {own other marks : List Bool} {lines classes : List ℕ} (f : Field) (k : ℕ) → k < most_kinds → KindMarks lines classes marks → own ≡ marks_part marks k
    → length other ≡ most_lines → MarksTell (kind_in lines) (at classes) f (lines_in lines) other → (r ≡ true) ↔ (own ≡ other) → (r ≡ true) ↔ AlikeIn lines classes (unit k) f
uses_tell {own = own} {other = other} {marks = marks} {lines = lines} {classes = classes} f k q K e long p t = (λ h. m.0 (t.0 h), λ h. t.1 (m.1 h))
  where
    own_tell : MarksTell (kind_in lines) (at classes) (unit k) (lines_in lines) own
    own_tell = rw e (K.tells k q)

    m : (own ≡ other) ↔ AlikeIn lines classes (unit k) f
    m = marks_tell (marks_long marks k (omega (arith, K.long)) e ∙ sym long) own_tell p
