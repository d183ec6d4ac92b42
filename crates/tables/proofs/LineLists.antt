-- Lists of the numbers that satisfy P, number by number; what matches between such lists come to.
-- Assumes nothing.
use mathlib.Core.Bool.{Bool, true}
use mathlib.Core.List.{List, [], ◌∷◌, ◌++◌}
use mathlib.Core.Logic.{◌↔◌}
use mathlib.Core.Path.{◌≡◌, refl, sym, ◌∙◌}
use Prim.Native.Nat.{ℕ, ◌+◌, ◌≤◌, ◌<◌}
use native.Mathlib.Decide.{ℕ_discrete, dec_lt}
use native.Mathlib.Numerals.{add-one}
use native.Mathlib.Omega.{arith}
use lib.ListN.{length, set, take, get_or-append, length-append, length-set}
use lib.Seq.{get_or-append_seam, take-suc-set}
use Rattle.model.specs.Field.{Field, unit, at}
use Rattle.tables.specs.Table.{row_in}
use Rattle.tables.specs.Lines.{kind_in, code_in}
use Rattle.tables.specs.Match.{AllMatched, Among, Lists, MatchIn, UsableIn, Answered}
use Rattle.tables.proofs.Matching.{match_equivalence, all_agrees}

-- An entry of a list is one of the list with a number more, and the other way round but for that number.
module _ (xs : List ℕ) (n : ℕ) where
  among_more : {i : ℕ} → Among xs i → Among (xs ++ n ∷ []) i
  among_more a = (a.0, omega (arith, length-append xs (n ∷ []), a.1), get_or-append xs (n ∷ []) 0 a.0 a.1 ∙ a.2)

  among_last : Among (xs ++ n ∷ []) n
  among_last = (length xs, omega (arith, length-append xs (n ∷ [])), get_or-append_seam xs n [] 0)

  among_less : {i : ℕ} → Among (xs ++ n ∷ []) i → ¬ (i ≡ n) → Among xs i
  among_less {i} a d = go (dec_lt a.0 (length xs))
    where
      go : Dec (a.0 < length xs) → Among xs i
      go (yes l) = (a.0, l, sym (get_or-append xs (n ∷ []) 0 a.0 l) ∙ a.2)
      go (no l) =
          let e : a.0 ≡ length xs = omega (arith, length-append xs (n ∷ []), a.1) in
          absurd (d (sym a.2 ∙ rw e (get_or-append_seam xs n [] 0)))

module _ {P : ℕ → Type 0} where
  -- Of the numbers below n + 1 that satisfy P, where n does not: those below n.
  lists_skip : {n : ℕ} {xs : List ℕ} → Lists (λ i. (i < n) × P i) xs → (P n → ⊥) → Lists (λ i. (i < n + 1) × P i) xs
  lists_skip {n} {xs} h not =
      record { entries = λ i. (λ a. let p = (h.entries i).0 a in (omega (arith, p.0), p.1), λ p. (h.entries i).1 (less i p.0 p.1 (ℕ_discrete i n), p.1)) }
    where
      less : (i : ℕ) → i < n + 1 → P i → Dec (i ≡ n) → i < n
      less i l p (yes e) = absurd (not (rw e at p))
      less i l p (no d) = omega arith

  -- Where n does: those below n, and n.
  lists_more : {n : ℕ} {xs : List ℕ} → Lists (λ i. (i < n) × P i) xs → P n → Lists (λ i. (i < n + 1) × P i) (xs ++ n ∷ [])
  lists_more {n} {xs} h p = record { entries = λ i. (λ a. there i a (ℕ_discrete i n), λ q. back i q.0 q.1 (ℕ_discrete i n)) }
    where
      there : (i : ℕ) → Among (xs ++ n ∷ []) i → Dec (i ≡ n) → (i < n + 1) × P i
      there i a (yes e) = (omega arith, rw e p)
      there i a (no d) = let q = (h.entries i).0 (among_less xs n a d) in (omega (arith, q.0), q.1)

      back : (i : ℕ) → i < n + 1 → P i → Dec (i ≡ n) → Among (xs ++ n ∷ []) i
      back i l q (yes e) = rw e (among_last xs n)
      back i l q (no d) = among_more xs n ((h.entries i).1 (omega arith, q))

-- The numbers below i that satisfy P are the first `count` entries.
pub record Listed (P : ℕ → Type 0) (old out : List ℕ) (count i : ℕ) : Type 0 where
  pub kept : length out ≡ length old
  pub within : count ≤ i
  pub lists : Lists (λ j. (j < i) × P j) (take count out)

pub listed_none : {P : ℕ → Type 0} {out : List ℕ} → Listed P out out 0 0
listed_none = record { kept = refl; within = omega arith; lists = record { entries = λ i. (λ a. absurd (omega (arith, a.1)), λ p. absurd (omega (arith, p.0))) } }

module _ {P : ℕ → Type 0} {old out : List ℕ} {count i : ℕ} (h : Listed P old out count i) where
  pub listed_skip : (P i → ⊥) → Listed P old out count (i + 1)
  listed_skip not = record { kept = h.kept; within = omega (arith, h.within); lists = lists_skip h.lists not }

  pub listed_more : i < length old → P i → Listed P old (set out count i) (count + 1) (i + 1)
  listed_more l p =
      record {
        kept = length-set out count i ∙ h.kept;
        within = omega (arith, h.within);
        lists = rw (add-one count, take-suc-set out count i (omega (arith, h.kept, h.within))) (lists_more h.lists p);
      }

  pub listed_all : {n : ℕ} → n ≤ i → i ≤ n → Lists (λ j. (j < n) × P j) (take count out)
  listed_all {n} a b = let e : n ≡ i = omega arith in rw e h.lists

-- A search through the entries of a list: it finds one that satisfies P, or all are tried. A test of every entry.
module _ (P : ℕ → Type 0) (xs : List ℕ) where
  pub among_found : (x : ℕ) → x < length xs → P (at xs x) → (j : ℕ) × Among xs j × P j
  among_found x l p = (at xs x, (x, l, refl), p)

  pub among_none : {i : ℕ} → length xs ≤ i → ((x : ℕ) → x < i → P (at xs x) → ⊥) → (j : ℕ) × Among xs j × P j → ⊥
  among_none {i} h f w = f w.1.0 (omega (arith, w.1.1)) (rw w.1.2 w.2)

  pub among_all : {i : ℕ} → length xs ≤ i → ((x : ℕ) → x < i → P (at xs x)) → (j : ℕ) → Among xs j → P j
  among_all {i} h f j a = rw a.2 at (f a.0 (omega (arith, a.1)))

-- Each line of either of two lists has a match in the other just when so do the usable lines that they list.
pub lists_matched : {r : Bool} {own its : List ℕ} {row : Field} (lines rows forms : List ℕ) (k : ℕ) → row ≡ row_in rows k
    → Lists (UsableIn lines (unit k)) own → Lists (UsableIn lines row) its
    → (r ≡ true) ↔ AllMatched (MatchIn lines rows forms) (Among own) (Among its) → (r ≡ true) ↔ Answered lines rows forms k
lists_matched {own = own} {its = its} lines rows forms k d p q t =
    let same = match_equivalence (kind_in lines) (code_in lines) (row_in rows) (row_in forms) in
    let w : AllMatched (MatchIn lines rows forms) (Among own) (Among its) ↔ Answered lines rows forms k = all_agrees same same p.entries (rw d at q.entries) (λ i j _ _. ((λ m. m), (λ m. m))) in
    (λ h. w.0 (t.0 h), λ h. t.1 (w.1 h))
