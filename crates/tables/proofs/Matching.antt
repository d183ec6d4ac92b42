-- Lines that match: matching is an equivalence, so the least line that a line matches is a number for its class. Matching by readings that agree is the same.
-- Assumes nothing.
use mathlib.Core.Bool.{Bool, true}
use mathlib.Core.List.{List}
use mathlib.Core.Logic.{◌↔◌}
use mathlib.Core.Path.{◌≡◌, refl, sym, subst, ◌∙◌, fun_ext}
use Prim.Native.Nat.{ℕ, ◌+◌, ◌^◌, ◌≤◌, ◌<◌}
use native.Mathlib.Decide.{ℕ_discrete, dec_lt}
use native.Mathlib.Omega.{arith}
use lib.ListN.{length, set, replicate, length-set}
use lib.Seq.{get_or-set_same, get_or-set_other}
use Rattle.model.specs.Field.{Field, ◌⊕◌, at}
use Rattle.model.specs.Limits.{most_lines}
use Rattle.tables.specs.Table.{Under, row_part, row_in}
use Rattle.tables.specs.Lines.{lines_in, kind_in, code_in}
use Rattle.tables.specs.Match.{Match, Usable, EachMatched, AllMatched, NoneBefore, Bounds, LeastMatch, TellsMatch, MatchTables, MatchIn}
use Rattle.tables.specs.Class.{MayUse, MayUseAlike}
use Rattle.tables.proofs.Tables.{at_kind, lent_row, lent_length, lent_under}

-- Matching is an equivalence: effects are compared by sums, so that what both sides have cancels.
pub record Equivalence {A : Type 0} (M : A → A → Type 0) : Type 0 where
  pub itself : (i : A) → M i i
  pub back : {i j : A} → M i j → M j i
  pub on : {i j k : A} → M i j → M j k → M i k

pub match_equivalence : {A : Type 0} (kind code : A → ℕ) (row : ℕ → Field) (form : A → Field) → Equivalence (Match kind code row form)
match_equivalence kind code row form =
    record {
      itself = λ i. (refl, refl);
      back = λ p. (sym p.0, sym p.1);
      on = λ p q. (q.0 ∙ p.0, fun_ext (λ x. omega (arith, at_kind p.1 x, at_kind q.1 x)));
    }

-- Two readings of a line agree: its code, the row of its kind, and the form of what it leaves. By readings that agree on two lines, these match or do not match alike.
module _ (kind code : ℕ → ℕ) (row form : ℕ → Field) (itsKind itsCode : ℕ → ℕ) (itsRow itsForm : ℕ → Field) where
  pub record ReadsAlike (i : ℕ) : Type 0 where
    pub codes : code i ≡ itsCode i
    pub rows : row (kind i) ≡ itsRow (itsKind i)
    pub forms : form i ≡ itsForm i

  pub match_agrees : {i j : ℕ} → ReadsAlike i → ReadsAlike j → Match kind code row form i j ↔ Match itsKind itsCode itsRow itsForm i j
  match_agrees {i} {j} a b = rw (a.codes, b.codes, a.rows, b.rows, a.forms, b.forms) ((λ m. m), (λ m. m))

-- What holds by one relation of n lines holds by another that agrees with it on those lines.
module _ {M N : ℕ → ℕ → Type 0} {n : ℕ} (same : (i j : ℕ) → i < n → j < n → M i j ↔ N i j) where
  pub tells_agrees : (numbers : List ℕ) → TellsMatch M n numbers → TellsMatch N n numbers
  tells_agrees numbers t i j a b = (λ e. (same i j a b).0 ((t i j a b).0 e), λ m. (t i j a b).1 ((same i j a b).1 m))

  pub bounds_agrees : (bounds : List ℕ) → Bounds M n bounds → Bounds N n bounds
  bounds_agrees bounds f j h = record { within = (f j h).within; none = λ x l m. (f j h).none x l ((same x j (omega (arith, (f j h).within)) h).1 m) }

module _ {A : Type 0} {M N : A → A → Type 0} {P P' Q Q' : A → Type 0} where
  each_agrees : ((i : A) → P i ↔ P' i) → ((j : A) → Q j ↔ Q' j) → ((i j : A) → P i → Q j → M i j → N i j) → EachMatched M P Q → EachMatched N P' Q'
  each_agrees p q m f i h = let w = f i ((p i).1 h) in (w.0, (q w.0).0 w.1, m i w.0 ((p i).1 h) w.1 w.2)

-- Lines of two sets that have matches among each other by one relation have them by another that agrees with it on those lines.
module _ {A : Type 0} {M N : A → A → Type 0} {P P' Q Q' : A → Type 0} (E : Equivalence M) (F : Equivalence N) (p : (i : A) → P i ↔ P' i) (q : (j : A) → Q j ↔ Q' j)
    (m : (i j : A) → P i → Q j → M i j ↔ N i j) where
  there : AllMatched M P Q → AllMatched N P' Q'
  there w = (each_agrees p q (λ i j a b. (m i j a b).0) w.0, each_agrees q p (λ j i b a x. F.back ((m i j a b).0 (E.back x))) w.1)

  back_again : AllMatched N P' Q' → AllMatched M P Q
  back_again w = (
    each_agrees (λ i. turn (p i)) (λ j. turn (q j)) (λ i j a b. (m i j ((p i).1 a) ((q j).1 b)).1) w.0,
    each_agrees (λ j. turn (q j)) (λ i. turn (p i)) (λ j i b a x. E.back ((m i j ((p i).1 a) ((q j).1 b)).1 (F.back x))) w.1,
  )
    where
      turn : {X Y : Type 0} → X ↔ Y → Y ↔ X
      turn t = (t.1, t.0)

  pub all_agrees : AllMatched M P Q ↔ AllMatched N P' Q'
  all_agrees = (there, back_again)

-- With numbers that tell which of n lines match: the lines that two fields may use have matches among each other just when the fields may use lines of the same numbers.
pub matched_alike : {M : ℕ → ℕ → Type 0} {n : ℕ} (kind : ℕ → ℕ) (numbers : List ℕ) → TellsMatch M n numbers → (a b : Field)
    → AllMatched M (Usable (λ i. i < n) kind a) (Usable (λ i. i < n) kind b) ↔ MayUseAlike kind (at numbers) n a b
matched_alike {M} {n} kind numbers K a b = (λ y x. (there a b y.0 x, there b a y.1 x), λ f. (back a b (λ x. (f x).0), back b a (λ x. (f x).1)))
  where
    there : (f g : Field) → EachMatched M (Usable (λ i. i < n) kind f) (Usable (λ i. i < n) kind g) → (x : ℕ) → MayUse kind (at numbers) f n x → MayUse kind (at numbers) g n x
    there f g y x u = let t = y u.0 (u.1, u.2) in (t.0, t.1.0, t.1.1, sym ((K u.0 t.0 u.1 t.1.0).1 t.2) ∙ u.3)

    back : (f g : Field) → ((x : ℕ) → MayUse kind (at numbers) f n x → MayUse kind (at numbers) g n x) → EachMatched M (Usable (λ i. i < n) kind f) (Usable (λ i. i < n) kind g)
    back f g y i p = let t = y (at numbers i) (i, p.0, p.1, refl) in (t.0, (t.1, t.2), (K i t.0 p.0 t.1).0 (sym t.3))

-- Of whole tables: what the comparison of two effects asks of the parts, and what it tells.
module _ {lines rows forms : List ℕ} (t : MatchTables lines rows forms) (i j : ℕ) (p : i < lines_in lines) (q : j < lines_in lines) where
  pub parts_fit : {l y m x : List ℕ} → l ≡ row_part forms i → y ≡ row_part rows (kind_in lines j) → m ≡ row_part forms j → x ≡ row_part rows (kind_in lines i)
      → ((length y ≡ length l) × (length m ≡ length l) × (length x ≡ length l)) × (Under (2 ^ 63) l × Under (2 ^ 63) m)
  parts_fit a b c d =
      let w = t.whole in
      let e = lent_length forms i (omega (arith, t.forms_long, w.few)) a in (
        (
          lent_length rows (kind_in lines j) (omega (arith, w.kinds_under j q, t.rows_long)) b ∙ sym e,
          lent_length forms j (omega (arith, t.forms_long, w.few)) c ∙ sym e,
          lent_length rows (kind_in lines i) (omega (arith, w.kinds_under i p, t.rows_long)) d ∙ sym e,
        ),
        (lent_under forms i a t.small, lent_under forms j c t.small),
      )

  pub parts_tell : {b : Bool} {l y m x : List ℕ} → code_in lines i ≡ code_in lines j → l ≡ row_part forms i → y ≡ row_part rows (kind_in lines j) → m ≡ row_part forms j → x ≡ row_part rows (kind_in lines i)
      → (b ≡ true) ↔ (at l ⊕ at y ≡ at m ⊕ at x) → (b ≡ true) ↔ MatchIn lines rows forms i j
  parts_tell {b} {l} {y} {m} {x} e a f c d r = (λ u. (sym e, sym here ∙ r.0 u ∙ there), λ u. r.1 (here ∙ u.1 ∙ sym there))
    where
      here : at l ⊕ at y ≡ row_in forms i ⊕ row_in rows (kind_in lines j)
      here = rw (lent_row forms i a, lent_row rows (kind_in lines j) f)

      there : at m ⊕ at x ≡ row_in forms j ⊕ row_in rows (kind_in lines i)
      there = rw (lent_row forms j c, lent_row rows (kind_in lines i) d)

module _ {M : ℕ → ℕ → Type 0} where
  -- The search for the least line that matches.
  pub none_more : {j i : ℕ} → NoneBefore M j i → i < j → (M i j → ⊥) → NoneBefore M j (i + 1)
  none_more {j} {i} h l d = record { within = omega arith; none = λ x b. go x b (ℕ_discrete x i) }
    where
      go : (x : ℕ) → x < i + 1 → Dec (x ≡ i) → M x j → ⊥
      go x b (yes e) = subst (λ (y : ℕ). M y j → ⊥) (sym e) d
      go x b (no n) = h.none x (omega arith)

module _ {M : ℕ → ℕ → Type 0} (E : Equivalence M) where
  -- Two lines have one class just when they match.
  pub least_tells : {i j r s : ℕ} → LeastMatch M i r → LeastMatch M j s → (r ≡ s) ↔ M i j
  least_tells {i} {j} {r} {s} p q = (there, λ m. go m (dec_lt r s) (dec_lt s r))
    where
      there : r ≡ s → M i j
      there e = E.on (E.back p.matches) (subst (λ (x : ℕ). M x j) (sym e) q.matches)

      go : M i j → Dec (r < s) → Dec (s < r) → r ≡ s
      go m (yes l) _ = absurd (q.least r l (E.on p.matches m))
      go m (no l) (yes g) = absurd (p.least s g (E.on q.matches (E.back m)))
      go m (no l) (no g) = omega arith

-- Of n lines, those below j have their numbers.
pub record Numbered (M : ℕ → ℕ → Type 0) (n j : ℕ) (numbers : List ℕ) : Type 0 where
  pub within : j ≤ n
  pub few : n ≤ most_lines
  pub size : length numbers ≡ most_lines
  pub classes : (i : ℕ) → i < j → LeastMatch M i (at numbers i)

pub numbered_none : {M : ℕ → ℕ → Type 0} {n : ℕ} → n ≤ most_lines → Numbered M n 0 (replicate most_lines 0)
numbered_none f = record { within = omega arith; few = f; size = refl; classes = λ i l. absurd (omega arith) }

module _ {M : ℕ → ℕ → Type 0} {n j : ℕ} {numbers : List ℕ} (h : Numbered M n j numbers) where
  pub numbered_more : j < n → {r : ℕ} → LeastMatch M j r → Numbered M n (j + 1) (set numbers j r)
  numbered_more l {r} m = record { within = omega arith; few = h.few; size = length-set numbers j r ∙ h.size; classes = λ i b. go i b (ℕ_discrete i j) }
    where
      go : (i : ℕ) → i < j + 1 → Dec (i ≡ j) → LeastMatch M i (at (set numbers j r) i)
      go i b (yes e) = rw (e, get_or-set_same numbers j r 0 (omega (arith, h.size, h.few))) m
      go i b (no d) = rw (get_or-set_other numbers j i r 0 d) (h.classes i (omega arith))

  pub numbered_tells : Equivalence M → n ≤ j → TellsMatch M n numbers
  numbered_tells E l i k a b = least_tells E (h.classes i (omega arith)) (h.classes k (omega arith))
