-- Laws over plain lists of counts, of any length, read as fields. The record of a loop is its invariant after i turns; its laws are the loop's begin, one turn, and end.
-- Assumes nothing.
use mathlib.Core.Bool.{Bool, true, false, beq}
use mathlib.Core.List.{List}
use mathlib.Core.Logic.{◌↔◌}
use mathlib.Core.Path.{◌≡◌, refl, sym, ap, ◌∙◌, fun_ext}
use Prim.Native.Nat.{ℕ, zero, suc, ◌+◌, ◌*◌, ◌-◌, ◌≤◌, ◌<◌}
use native.Mathlib.Decide.{ℕ_discrete, dec_lt}
use native.Mathlib.Nat.{mul-zero, add-sub_cancel_left}
use native.Mathlib.Numerals.{add-one}
use native.Mathlib.Omega.{arith}
use lib.Dec.{eqb}
use lib.Pointwise.{pointwise}
use Rattle.std.specs.Cmp.{booleans_Decides}
use Rattle.std.proofs.lemmas.Bool.Decides.{Decides-eqb}
use Rattle.std.proofs.lemmas.Slice.Eq.{slice_eq-Decides}
use lib.ListN.{length, set, take, drop, replicate, get_or-eq_default, length-take, length-drop, length-set, length-replicate, get_or-replicate}
use lib.Seq.{get_or-set_same, get_or-set_other, get_or-take, get_or-drop, length-take-le, take_all, ext_get_or}
use Rattle.model.specs.Field.{Field, none, ◌⊕◌, times, unit, at, weigh}
use Rattle.model.specs.Limits.{most_kinds}
use Rattle.theory.proofs.Field.{unit_same, unit_other, weigh_next, weigh_weights}
use Rattle.tables.specs.Table.{Under, row_part, row_in, Atoms, form_in}

-- Equal fields have equal counts.
pub at_kind : {a b : Field} → a ≡ b → (j : ℕ) → a j ≡ b j
at_kind e j = ap (λ (f : Field). f j) e

-- The first i counts of a list: none from i on.
pub first_below : (xs : List ℕ) (i j : ℕ) → j < i → at (take i xs) j ≡ at xs j
first_below xs i j h = get_or-take i xs j 0 h

pub first_past : (xs : List ℕ) (i j : ℕ) → i ≤ j → at (take i xs) j ≡ 0
first_past xs i j h = get_or-eq_default (take i xs) 0 (omega (arith, length-take i xs))

-- One count more changes no other.
pub first_next : (xs : List ℕ) (i j : ℕ) → ¬ (j ≡ i) → at (take (i + 1) xs) j ≡ at (take i xs) j
first_next xs i j h = go (dec_lt j i)
  where
    go : Dec (j < i) → at (take (i + 1) xs) j ≡ at (take i xs) j
    go (yes l) = first_below xs (i + 1) j (omega arith) ∙ sym (first_below xs i j l)
    go (no l) = first_past xs (i + 1) j (omega arith) ∙ sym (first_past xs i j (omega arith))

-- Past its end a list has no counts.
pub past : (xs : List ℕ) (j : ℕ) → length xs ≤ j → at xs j ≡ 0
past xs j l = get_or-eq_default xs 0 l

-- No count is set.
pub zero_counts : (n j : ℕ) → at (replicate n 0) j ≡ 0
zero_counts n j = go (dec_lt j n)
  where
    go : Dec (j < n) → at (replicate n 0) j ≡ 0
    go (yes l) = get_or-replicate n j 0 0 l
    go (no l) = past (replicate n 0) j (omega (arith, length-replicate {A = ℕ} n 0))

-- Count times the first i counts of a row are added to the sum.
pub record Added (count : ℕ) (old sum row : List ℕ) (i : ℕ) : Type 0 where
  pub fits : length row ≤ length old
  pub within : i ≤ length row
  pub kept : length sum ≡ length old
  pub total : at sum ≡ at old ⊕ times count (at (take i row))

pub added_none : {count : ℕ} {sum row : List ℕ} → length row ≤ length sum → Added count sum sum row 0
added_none {count} {sum} {row} h =
    record { fits = h; within = omega arith; kept = refl; total = fun_ext (λ j. omega (arith, mul-zero count)) }

module _ {count : ℕ} {old sum row : List ℕ} {i : ℕ} (h : Added count old sum row i) where
  pub added_here : at sum i ≡ at old i
  added_here = at_kind h.total i ∙ rw (first_past row i i (omega arith)) (omega (arith, mul-zero count))

  pub added_more : (x : ℕ) → x ≡ at row i → i < length row → Added count old (set sum i (at sum i + count * x)) row (i + 1)
  added_more x e l =
      record { fits = h.fits; within = omega arith; kept = length-set sum i _ ∙ h.kept; total = fun_ext (λ j. go j (ℕ_discrete j i)) }
    where
      room : i < length sum
      room = omega (arith, h.fits, h.kept)

      go : (j : ℕ) → Dec (j ≡ i) → at (set sum i (at sum i + count * x)) j ≡ at old j + count * at (take (i + 1) row) j
      go j (yes p) = rw (p, get_or-set_same sum i (at sum i + count * x) 0 room, first_below row (i + 1) i (omega arith), e, added_here)
      go j (no p) = rw (get_or-set_other sum i j (at sum i + count * x) 0 p, first_next row i j p) (at_kind h.total j)

  pub added_all : length row ≤ i → at sum ≡ at old ⊕ times count (at row)
  added_all l = rw (take_all i row l) at h.total

  -- No sum on the way passes the bound.
  pub added_bound : {bound : ℕ} → ((j : ℕ) → at old j + count * at row j < bound) → (x : ℕ) → x ≡ at row i → at sum i + count * x < bound
  added_bound f x e = rw (added_here, e) (f i)

-- Count tokens of a kind are added.
pub added_tokens : (count : ℕ) (sum : List ℕ) (k : ℕ) → k < length sum → at (set sum k (at sum k + count)) ≡ at sum ⊕ times count (unit k)
added_tokens count sum k l = fun_ext (λ j. go j (ℕ_discrete j k))
  where
    go : (j : ℕ) → Dec (j ≡ k) → at (set sum k (at sum k + count)) j ≡ at sum j + count * unit k j
    go j (yes p) = rw (p, get_or-set_same sum k (at sum k + count) 0 l, unit_same k) (omega arith)
    go j (no p) = rw (get_or-set_other sum k j (at sum k + count) 0 p, unit_other k j p) (omega arith)

-- A count of a row is one of the table's.
pub row_at : (t : List ℕ) (k j : ℕ) → j < most_kinds → row_in t k j ≡ at t (k * most_kinds + j)
unfolding row_in
row_at t k j h = get_or-take most_kinds (drop (k * most_kinds) t) j 0 h ∙ get_or-drop (k * most_kinds) t j 0

pub row_past : (t : List ℕ) (k j : ℕ) → most_kinds ≤ j → row_in t k j ≡ 0
unfolding row_in
row_past t k j h = first_past (drop (k * most_kinds) t) most_kinds j h

-- Rows are equal when the table's counts are.
pub row_same : {a : Field} (t : List ℕ) (k : ℕ) → ((j : ℕ) → j < most_kinds → at t (k * most_kinds + j) ≡ a j) → ((j : ℕ) → most_kinds ≤ j → a j ≡ 0) → row_in t k ≡ a
row_same {a} t k f g = fun_ext (λ j. go j (dec_lt j most_kinds))
  where
    go : (j : ℕ) → Dec (j < most_kinds) → row_in t k j ≡ a j
    go j (yes l) = row_at t k j l ∙ f j l
    go j (no l) = row_past t k j (omega arith) ∙ sym (g j (omega arith))

-- The part of a table from row k to the next is the row.
abbrev pub part_of : List ℕ → ℕ → List ℕ
part_of t k = take (k * most_kinds + most_kinds - k * most_kinds) (drop (k * most_kinds) t)

pub part_is : (t : List ℕ) (k : ℕ) → part_of t k ≡ row_part t k
part_is t k = rw (add-sub_cancel_left (k * most_kinds) most_kinds)

-- A list that is row k: as a field it is the row, it is 32 counts long, and its counts are the table's.
pub lent_row : {xs : List ℕ} (t : List ℕ) (k : ℕ) → xs ≡ row_part t k → at xs ≡ row_in t k
unfolding row_in
lent_row t k e = rw e

pub lent_length : {xs : List ℕ} (t : List ℕ) (k : ℕ) → k * most_kinds + most_kinds ≤ length t → xs ≡ row_part t k → length xs ≡ most_kinds
lent_length t k l e = rw e (length-take-le most_kinds (drop (k * most_kinds) t) (omega (arith, length-drop (k * most_kinds) t)))

pub lent_under : {xs : List ℕ} {bound : ℕ} (t : List ℕ) (k : ℕ) → xs ≡ row_part t k → Under bound t → Under bound xs
lent_under {xs} {bound} t k e f j = go (dec_lt j most_kinds)
  where
    go : Dec (j < most_kinds) → at xs j < bound
    go (yes l) = rw (at_kind (lent_row t k e) j, row_at t k j l) (f (k * most_kinds + j))
    go (no l) = rw (at_kind (lent_row t k e) j, row_past t k j (omega arith)) (omega (arith, f 0))

-- Count times row k are added, where the row is the kind itself, and by the row as a list.
module _ (count : ℕ) (sum rows : List ℕ) (k : ℕ) (one : row_in rows k k ≡ 1) where
  pub row_added_atom : (row_in rows k k ≡ 1 → row_in rows k ≡ unit k) → k < length sum → at (set sum k (at sum k + count)) ≡ at sum ⊕ times count (row_in rows k)
  row_added_atom atom room = rw (atom one) (added_tokens count sum k room)

pub row_bound : {row : List ℕ} {bound : ℕ} (count : ℕ) (sum rows : List ℕ) (k : ℕ) → row ≡ row_part rows k → ((j : ℕ) → at sum j + count * row_in rows k j < bound) → (j : ℕ) → at sum j + count * at row j < bound
row_bound count sum rows k r f j = rw (at_kind (lent_row rows k r) j) (f j)

pub row_added : {row : List ℕ} (count : ℕ) (sum new rows : List ℕ) (k : ℕ) → row ≡ row_part rows k → at new ≡ at sum ⊕ times count (at row) → at new ≡ at sum ⊕ times count (row_in rows k)
row_added count sum new rows k r e = rw (← lent_row rows k r) e

-- Two lists of one length with the same counts are the same.
pub same_list : (xs ys : List ℕ) → length ys ≡ length xs → at xs ≡ at ys → xs ≡ ys
same_list xs ys l e = ext_get_or 0 xs ys (sym l) (λ j _. at_kind e j)

-- What `==` answers of two slices of counts of one length, as fields; and of two slices of marks.
pub counts_equal : (xs ys : List ℕ) (r : Bool) → length ys ≡ length xs → r ≡ pointwise eqb xs ys → (r ≡ true) ↔ (at xs ≡ at ys)
counts_equal xs ys r l e = let t = slice_eq-Decides Decides-eqb xs ys r e in (λ y. ap at (t.0 y), λ s. t.1 (same_list xs ys l s))

pub marks_equal : (xs ys : List Bool) (r : Bool) → r ≡ pointwise beq xs ys → (r ≡ true) ↔ (xs ≡ ys)
marks_equal xs ys r e = slice_eq-Decides booleans_Decides xs ys r e

-- A sum over fewer kinds is at most the sum over all.
pub weigh_fewer : (k n : ℕ) (w : ℕ → ℕ) (a : Field) → k ≤ n → weigh k w a ≤ weigh n w a
weigh_fewer k zero w a h = let e : k ≡ 0 = omega arith in rw e (omega arith)
weigh_fewer k (suc n) w a h = go (ℕ_discrete k (suc n)) (weigh_fewer k n w a)
  where
    go : Dec (k ≡ suc n) → (k ≤ n → weigh k w a ≤ weigh n w a) → weigh k w a ≤ weigh (suc n) w a
    go (yes e) f = rw e (omega arith)
    go (no d) f = omega (arith, f (omega arith), rw (add-one n) at (weigh_next n w a))

-- The decomposition of the first k counts stands in out.
pub record Formed (counts rows old out : List ℕ) (k : ℕ) : Type 0 where
  pub fits : length counts * most_kinds ≤ length rows
  pub room : most_kinds ≤ length old
  pub within : k ≤ length counts
  pub kept : length out ≡ length old
  pub total : at out ≡ form_in k rows (at counts)

pub formed_none : (n : ℕ) {counts rows out : List ℕ} → length counts * most_kinds ≤ length rows → most_kinds ≤ length out → out ≡ replicate n 0 → Formed counts rows out out 0
unfolding form_in weigh
formed_none n f r e = record { fits = f; room = r; within = omega arith; kept = refl; total = fun_ext (λ j. rw e (zero_counts n j)) }

module _ {counts rows old out : List ℕ} {k : ℕ} (h : Formed counts rows old out k) where
  pub formed_fits : k < length counts → k * most_kinds + most_kinds ≤ length rows
  formed_fits l = omega (arith, h.fits)

  pub formed_next : {row : List ℕ} → row ≡ row_part rows k → (x : ℕ) → x ≡ at counts k → (j : ℕ) → at out j + x * at row j ≡ form_in (k + 1) rows (at counts) j
  unfolding form_in
  formed_next r x e j = rw (at_kind h.total j, at_kind (lent_row rows k r) j, weigh_next, e)

  -- What add_times asks: the row is no longer than out, and no sum on the way passes the bound.
  pub formed_room : {row : List ℕ} → row ≡ row_part rows k → k < length counts → length row ≤ length out
  formed_room r l = omega (arith, lent_length rows k (formed_fits l) r, h.room, h.kept)

  pub formed_bound : {row : List ℕ} {bound : ℕ} → ((j : ℕ) → form_in (length counts) rows (at counts) j < bound) → row ≡ row_part rows k → k < length counts → (x : ℕ) → x ≡ at counts k
      → (j : ℕ) → at out j + x * at row j < bound
  unfolding form_in
  formed_bound f r l x e j =
      omega (arith, formed_next r x e j, f j, weigh_fewer (k + 1) (length counts) (λ k. row_in rows k j) (at counts) (omega arith))

  pub formed_more : {row new : List ℕ} → row ≡ row_part rows k → (x : ℕ) → x ≡ at counts k → k < length counts → length new ≡ length out → at new ≡ at out ⊕ times x (at row)
      → Formed counts rows old new (k + 1)
  formed_more r x e l s t =
      record { fits = h.fits; room = h.room; within = omega arith; kept = s ∙ h.kept; total = t ∙ fun_ext (formed_next r x e) }

-- Two fields agree on the kinds below i.
pub record Agree (a b : Field) (i : ℕ) : Type 0 where
  pub same : (j : ℕ) → j < i → a j ≡ b j

pub agree_none : {a b : Field} → Agree a b 0
agree_none = record { same = λ j l. absurd (omega arith) }

pub agree_more : {a b : Field} {i : ℕ} → Agree a b i → a i ≡ b i → Agree a b (i + 1)
agree_more {a} {b} {i} h e = record { same = λ j l. go j l (ℕ_discrete j i) }
  where
    go : (j : ℕ) → j < i + 1 → Dec (j ≡ i) → a j ≡ b j
    go j l (yes p) = rw p e
    go j l (no p) = h.same j (omega arith)

pub agree_all : {a b : Field} {i : ℕ} → Agree a b i → ((j : ℕ) → i ≤ j → a j ≡ b j) → a ≡ b
agree_all {a} {b} {i} h past = fun_ext (λ j. go j (dec_lt j i))
  where
    go : (j : ℕ) → Dec (j < i) → a j ≡ b j
    go j (yes p) = h.same j p
    go j (no p) = past j (omega arith)

-- A comparison of fields that finds no difference answers true, and one that finds a difference at some kind false.
pub tells_same : {A : Type 0} → A → (true ≡ true) ↔ A
tells_same a = (λ _. a, λ _. refl)

pub tells_other : {A : Type 0} → (A → ⊥) → (false ≡ true) ↔ A
tells_other h = (λ e. let z : ◌≡◌ {A = ℕ} 0 1 = cc in absurd (omega arith), λ a. absurd (h a))

-- What a comparison that answers false says.
pub told_not : {A : Type 0} {b : Bool} → (b ≡ true) ↔ A → b ≡ false → A → ⊥
told_not t e a = let u = t.1 a in let z : ◌≡◌ {A = ℕ} 0 1 = cc in omega arith

-- A test of P, where what P is asked under holds.
pub given_some : {A P : Type 0} {b : Bool} → A → (b ≡ true) ↔ P → (b ≡ true) ↔ (A → P)
given_some a t = ((λ e _. t.0 e), λ f. t.1 (f a))

pub differ : {a b : Field} (i : ℕ) → (a i ≡ b i → ⊥) → (false ≡ true) ↔ (a ≡ b)
differ i h = tells_other (λ e. h (at_kind e i))

-- One token of a kind has one of that kind.
pub unit_here : (k j : ℕ) → j ≡ k → unit k j ≡ 1
unit_here k j e = rw e (unit_same k)

pub zero_under : {bound : ℕ} (n : ℕ) → 0 < bound → Under bound (replicate n 0)
zero_under n p j = rw (zero_counts n j) p

-- A table of zeros has no counts.
pub zero_row : (n k : ℕ) → row_in (replicate n 0) k ≡ none
zero_row n k = row_same _ k (λ j _. zero_counts n (k * most_kinds + j)) (λ j _. refl)

-- By a table of zeros no kind is an atom.
pub zero_atoms : (n m : ℕ) → Atoms (replicate n 0) m
zero_atoms n m k _ one = absurd (omega (arith, at_kind (zero_row n k) k, one))

-- A decomposition needs the rows of the kinds that the field holds.
pub form_is : (n : ℕ) (t : List ℕ) (rows : ℕ → Field) (a : Field) → ((k : ℕ) → k < n → 0 < a k → row_in t k ≡ rows k) → form_in n t a ≡ (λ j. weigh n (λ k. rows k j) a)
unfolding form_in
form_is n t rows a f = fun_ext (λ j. weigh_weights n (λ k. row_in t k j) (λ k. rows k j) a (λ k l p. at_kind (f k l p) j))
