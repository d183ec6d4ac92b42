-- Classes of lines, by the list of the first lines of the classes in order. The record of a loop is its invariant; its laws are the loop's begin and one turn.
-- Assumes nothing.
use mathlib.Core.Bool.{Bool, true, false}
use mathlib.Core.List.{List}
use mathlib.Core.Logic.{◌↔◌, ◌⊎◌, inl, inr}
use mathlib.Core.Path.{◌≡◌, refl, sym, ap, ◌∙◌}
use Prim.Native.Nat.{ℕ, ◌+◌, ◌-◌, ◌≤◌, ◌<◌}
use native.Mathlib.Decide.{ℕ_discrete, dec_lt}
use native.Mathlib.Omega.{arith}
use lib.ListN.{length, take}
use lib.Seq.{get_or-take, length-take-le}
use Rattle.model.specs.Field.{at}
use Rattle.model.specs.Limits.{most_lines}
use Rattle.tables.specs.Match.{LeastMatch, Among}
use Rattle.tables.proofs.Tables.{told_not}
use Rattle.tables.proofs.Matching.{Numbered}
use Rattle.ranks.specs.Insertion.{Place, Inserted}
use Rattle.ranks.specs.Firsts.{Firsts}
use Rattle.ranks.proofs.Laws.{LineOrder}
use Rattle.ranks.proofs.Sorting.{inserted_in_order}

module _ {M B : ℕ → ℕ → Type 0} (order : LineOrder M B) {xs : List ℕ} {line place : ℕ} (firsts : Firsts M B xs line) (at_place : Place B xs line place) where
  -- An entry that the line matches is its class.
  pub class_entry : {told : Bool} (x : ℕ) → x < length xs → (told ≡ true) ↔ M (at xs x) line → told ≡ true → LeastMatch M line (at xs x)
  class_entry x l tells e =
      let here : Among xs (at xs x) = (x, l, refl) in
      let matched : M (at xs x) line = tells.0 e in
      record {
        within = omega (arith, firsts.before (at xs x) here);
        matches = matched;
        least = λ i h m. (firsts.least (at xs x) here).least i h (order.same.on m (order.same.back matched));
      }

  -- Where no entry before the place matches the line, no entry does, and the line is its own class.
  class_alone : ((x : ℕ) → x < place → M (at xs x) line → ⊥) → LeastMatch M line line
  class_alone none = record { within = omega arith; matches = order.same.itself line; least = λ i l m. alone i l m (firsts.each i l) }
    where
      go : (x : ℕ) → x < length xs → M (at xs x) line → Dec (x < place) → ⊥
      go x l m (yes h) = none x h m
      go x l m (no h) = order.apart (at_place.all_after x (omega arith) l) (order.same.back m)

      alone : (i : ℕ) → i < line → M i line → (j : ℕ) × Among xs j × M i j → ⊥
      alone i l m w = let a = w.1 in go a.0 a.1 (order.same.on (rw a.2 (order.same.back w.2)) m) (dec_lt a.0 place)

  -- A line that comes before all entries is its own class.
  pub class_first : place ≡ 0 → LeastMatch M line line
  class_first e = class_alone (λ x l. absurd (omega arith))

  -- A line that does not match the entry before its place is its own class: that entry comes before the line, and so before every entry that the line matches; none of these stands earlier.
  pub class_between : {told : Bool} → 0 < place → (told ≡ true) ↔ M (at xs (place - 1)) line → told ≡ false → LeastMatch M line line
  class_between some tells e = class_alone (λ x l m. go x l m (ℕ_discrete x (place - 1)) (order.total (at xs (place - 1)) line))
    where
      last : place - 1 < length xs
      last = omega (arith, at_place.within)

      go : (x : ℕ) → x < place → M (at xs x) line → Dec (x ≡ place - 1) → B (at xs (place - 1)) line ⊎ (M (at xs (place - 1)) line ⊎ B line (at xs (place - 1))) → ⊥
      go x l m (yes same) _ = told_not tells e (rw same at m)
      go x l m (no d) (inl b) = firsts.in_order x (place - 1) (omega arith) last (order.right b (order.same.back m))
      go x l m (no d) (inr (inl n)) = told_not tells e n
      go x l m (no d) (inr (inr b)) = at_place.none_before (place - 1) (omega arith) b

-- The entries of a list of the first lines of the classes before a line are below all that the line is below.
pub firsts_lines : {M B : ℕ → ℕ → Type 0} {xs : List ℕ} {line n : ℕ} → Firsts M B xs line → line < n → (x : ℕ) → Among xs x → x < n
firsts_lines firsts l x a = omega (arith, firsts.before x a)

-- A line that has a class already leaves the list as it is.
pub firsts_same : {M B : ℕ → ℕ → Type 0} (order : LineOrder M B) {xs : List ℕ} {line class : ℕ} → Firsts M B xs line → LeastMatch M line class → class < line → Firsts M B xs (line + 1)
firsts_same {M} {B} order {xs} {line} {class} firsts m l =
    record {
      in_order = firsts.in_order;
      before = λ x a. omega (arith, firsts.before x a);
      least = firsts.least;
      each = λ i h. go i h (ℕ_discrete i line);
    }
  where
    go : (i : ℕ) → i < line + 1 → Dec (i ≡ line) → (j : ℕ) × Among xs j × M i j
    go i h (yes e) = let w = firsts.each class l in (w.0, w.1, rw e (order.same.on (order.same.back m.matches) w.2))
    go i h (no d) = firsts.each i (omega arith)

-- The first entries of a list after a line is put to a place among them: those that were there, and the line.
module _ {old new : List ℕ} {count place line : ℕ} (within : place ≤ count) (room : count < length old) (p : Inserted old new count place line) where
  longer : length (take (count + 1) new) ≡ count + 1
  longer = length-take-le (count + 1) new (omega (arith, p.kept))

  long : length (take count old) ≡ count
  long = length-take-le count old (omega arith)

  inserted_itself : Among (take (count + 1) new) line
  inserted_itself = (place, omega (arith, longer), get_or-take (count + 1) new place 0 (omega arith) ∙ p.here)

  inserted_kept : {i : ℕ} → Among (take count old) i → Among (take (count + 1) new) i
  inserted_kept {i} a = go (dec_lt a.0 place)
    where
      inside : a.0 < count
      inside = omega (arith, a.1, long)

      was : at old a.0 ≡ i
      was = sym (get_or-take count old a.0 0 inside) ∙ a.2

      go : Dec (a.0 < place) → Among (take (count + 1) new) i
      go (yes l) = (a.0, omega (arith, longer, inside), get_or-take (count + 1) new a.0 0 (omega (arith, inside)) ∙ p.before a.0 l ∙ was)
      go (no l) = (a.0 + 1, omega (arith, longer, inside), get_or-take (count + 1) new (a.0 + 1) 0 (omega (arith, inside)) ∙ p.moved a.0 (omega arith) inside ∙ was)

  inserted_from : {i : ℕ} → Among (take (count + 1) new) i → (i ≡ line) ⊎ Among (take count old) i
  inserted_from {i} a = go (dec_lt a.0 place) (ℕ_discrete a.0 place)
    where
      inside : a.0 < count + 1
      inside = omega (arith, a.1, longer)

      is : at new a.0 ≡ i
      is = sym (get_or-take (count + 1) new a.0 0 inside) ∙ a.2

      go : Dec (a.0 < place) → Dec (a.0 ≡ place) → (i ≡ line) ⊎ Among (take count old) i
      go (yes l) _ = inr (a.0, omega (arith, long), get_or-take count old a.0 0 (omega arith) ∙ sym (p.before a.0 l) ∙ is)
      go (no l) (yes e) = inl (sym is ∙ ap (at new) e ∙ p.here)
      go (no l) (no d) =
          let e : a.0 - 1 + 1 ≡ a.0 = omega arith in
          let lower : a.0 - 1 < count = omega (arith, inside) in
          inr (a.0 - 1, omega (arith, long), get_or-take count old (a.0 - 1) 0 lower ∙ sym (p.moved (a.0 - 1) (omega arith) lower) ∙ ap (at new) e ∙ is)

-- A line whose class is no earlier line is its own class.
pub own_class : (M : ℕ → ℕ → Type 0) {line class : ℕ} → LeastMatch M line class → line ≤ class → LeastMatch M line line
own_class M {line} {class} m l = let e : class ≡ line = omega (arith, m.within) in rw e at m

-- A line that is its own class is put to its place in the list.
module _ {M B : ℕ → ℕ → Type 0} (order : LineOrder M B) {old new : List ℕ} {count place line : ℕ} (room : count < length old) (firsts : Firsts M B (take count old) line)
    (at_place : Place B (take count old) line place) (p : Inserted old new count place line) (m : LeastMatch M line line) where
  within : place ≤ count
  within = omega (arith, at_place.within, length-take-le count old (omega arith))

  pub firsts_more : Firsts M B (take (count + 1) new) (line + 1)
  firsts_more =
      record {
        in_order = inserted_in_order order old count room firsts.in_order at_place p;
        before = λ x a. earlier x (inserted_from within room p a);
        least = λ x a. itself x (inserted_from within room p a);
        each = λ i h. go i h (ℕ_discrete i line);
      }
    where
      earlier : (x : ℕ) → (x ≡ line) ⊎ Among (take count old) x → x < line + 1
      earlier x (inl e) = omega arith
      earlier x (inr a) = omega (arith, firsts.before x a)

      itself : (x : ℕ) → (x ≡ line) ⊎ Among (take count old) x → LeastMatch M x x
      itself x (inl e) = rw e m
      itself x (inr a) = firsts.least x a

      go : (i : ℕ) → i < line + 1 → Dec (i ≡ line) → (j : ℕ) × Among (take (count + 1) new) j × M i j
      go i h (yes e) = (line, inserted_itself within room p, rw e (order.same.itself line))
      go i h (no d) = let w = firsts.each i (omega arith) in (w.0, inserted_kept within room p w.1, w.2)

-- Of n lines those before line j have their numbers, and a list begins with the first lines of their classes.
pub record Classed (M B : ℕ → ℕ → Type 0) (n j : ℕ) (numbers list : List ℕ) (found : ℕ) : Type 0 where
  pub numbered : Numbered M n j numbers
  pub long : length list ≡ most_lines
  pub few : found ≤ j
  pub firsts : Firsts M B (take found list) j
