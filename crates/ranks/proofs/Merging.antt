-- The pass over two lists that are in order, which tells whether each entry of the first has a match in the second.
-- Assumes nothing.
use mathlib.Core.Bool.{Bool, true, false}
use mathlib.Core.List.{List}
use mathlib.Core.Logic.{◌↔◌, ⊎_elim}
use mathlib.Core.Path.{◌≡◌, refl}
use borrow.Author.Count.{below_more}
use Prim.Native.Nat.{ℕ, ◌+◌, ◌≤◌, ◌<◌}
use native.Mathlib.Decide.{ℕ_discrete, dec_lt}
use native.Mathlib.Omega.{arith}
use lib.ListN.{length}
use Rattle.model.specs.Field.{at}
use Rattle.tables.specs.Lines.{lines_in}
use Rattle.tables.specs.Match.{EachMatched, AllMatched, Among}
use Rattle.tables.proofs.Matching.{Equivalence, all_agrees}
use Rattle.tables.proofs.Tables.{told_not}
use Rattle.tables.proofs.LineLists.{among_found, among_all}
use Rattle.ranks.specs.Order.{InOrder, LinesOf}
use Rattle.ranks.specs.Insertion.{Rearranged}
use Rattle.ranks.specs.Skip.{FirstNotBefore}
use Rattle.ranks.proofs.Laws.{LineOrder}

-- The entry at a place of a list of lines is a line of the table.
pub line_at : (lines xs : List ℕ) → LinesOf lines xs → (x : ℕ) → x < length xs → at xs x < lines_in lines
line_at lines xs all x within = all (at xs x) (x, within, refl)

-- The search of a list for the first entry that does not come before i has come from place start to place: the entries between come before i.
pub record Skipping (B : ℕ → ℕ → Type 0) (xs : List ℕ) (start i place : ℕ) : Type 0 where
  pub onward : start ≤ place
  pub within : place ≤ length xs
  pub before : (x : ℕ) → start ≤ x → x < place → B (at xs x) i

-- The pass over the lists xs and ys has come to a place of xs, and has reached a place of ys: the entries of xs before its place have matches in ys, and the entries of ys before the place reached come
-- before the entries of xs that are left.
pub record Passing (M B : ℕ → ℕ → Type 0) (xs ys : List ℕ) (reached place : ℕ) : Type 0 where
  pub reached_within : reached ≤ length ys
  pub within : place ≤ length xs
  pub matched : (x : ℕ) → x < place → (j : ℕ) × Among ys j × M (at xs x) j
  pub passed : (x y : ℕ) → place ≤ x → x < length xs → y < reached → B (at ys y) (at xs x)

module _ {M B : ℕ → ℕ → Type 0} {xs ys : List ℕ} where
  -- The pass has come to the end of xs: each entry has a match.
  pub passing_all : {reached place : ℕ} → Passing M B xs ys reached place → length xs ≤ place → EachMatched M (Among xs) (Among ys)
  passing_all so_far end = among_all (λ i. (j : ℕ) × Among ys j × M i j) xs end so_far.matched

-- The pass is at an entry of xs, and next is the first place of ys, from the place reached on, whose entry does not come before it.
module _ {M B : ℕ → ℕ → Type 0} (order : LineOrder M B) {xs ys : List ℕ} {reached place next : ℕ} (so_far : Passing M B xs ys reached place) (here : place < length xs)
    (skipped : FirstNotBefore B ys reached (at xs place) next) where
  -- Every entry of ys before place next comes before the entry of xs.
  all_before : (y : ℕ) → y < next → B (at ys y) (at xs place)
  all_before y early = go (dec_lt y reached)
    where
      go : Dec (y < reached) → B (at ys y) (at xs place)
      go (yes passed) = so_far.passed place y (omega arith) here passed
      go (no not_passed) = skipped.before y (omega arith) early

  -- The test at place next of ys says that the entry there is a match: the pass goes on to the entry of xs that follows. What comes before an entry of xs comes before the later ones.
  pub passing_more : InOrder B xs → {answer : Bool} → (answer ≡ true) ↔ ((next < length ys) × M (at xs place) (at ys next)) → answer ≡ true → Passing M B xs ys next (place + 1)
  passing_more sorted test says_true =
      let found = test.0 says_true in
      record {
        reached_within = skipped.within;
        within = omega arith;
        matched = below_more _ _ so_far.matched (among_found (λ j. M (at xs place) j) ys next found.0 found.1);
        passed = λ x y later within early. before_later x later within (all_before y early);
      }
    where
      before_later : (x : ℕ) → place + 1 ≤ x → x < length xs → {i : ℕ} → B i (at xs place) → B i (at xs x)
      before_later x later within before =
          ⊎_elim (λ less. order.on before less) (⊎_elim (λ same. order.right before same) (λ more. absurd (sorted place x (omega arith) within more))) (order.total (at xs place) (at xs x))

  -- The test at place next of ys says that there is no match: the entry of xs has none anywhere. The entries of ys before that place come before it, and those from there on come after it.
  pub passing_fails : InOrder B ys → {answer : Bool} → (answer ≡ true) ↔ ((next < length ys) × M (at xs place) (at ys next)) → answer ≡ false → EachMatched M (Among xs) (Among ys) → ⊥
  passing_fails sorted test says_false all_matched =
      let match = all_matched (at xs place) (place, here, refl) in
      go match.1.0 match.1.1 (rw match.1.2 match.2) (dec_lt match.1.0 next)
    where
      not_there : (next < length ys) × M (at xs place) (at ys next) → ⊥
      not_there = told_not test says_false

      there_after : next < length ys → B (at xs place) (at ys next)
      there_after within =
          ⊎_elim (λ less. less) (⊎_elim (λ same. absurd (not_there (within, same))) (λ more. absurd (skipped.first within more))) (order.total (at xs place) (at ys next))

      later : (y : ℕ) → y < length ys → next ≤ y → M (at xs place) (at ys y) → Dec (y ≡ next) → ⊥
      later y within from matches (yes same) = not_there (omega arith, rw same at matches)
      later y within from matches (no other) = sorted next y (omega arith) within (order.left (order.same.back matches) (there_after (omega arith)))

      go : (y : ℕ) → y < length ys → M (at xs place) (at ys y) → Dec (y < next) → ⊥
      go y within matches (yes early) = order.apart (all_before y early) (order.same.back matches)
      go y within matches (no not_early) = later y within (omega arith) matches (ℕ_discrete y next)

-- Lists that are put in order have matches among each other just when the lists as they stood do.
pub sorted_tells : {r : Bool} {M : ℕ → ℕ → Type 0} {xs ys newXs newYs : List ℕ} → Equivalence M → Rearranged xs newXs → Rearranged ys newYs
    → (r ≡ true) ↔ AllMatched M (Among newXs) (Among newYs) → (r ≡ true) ↔ AllMatched M (Among xs) (Among ys)
sorted_tells same first second tells =
    let w = all_agrees same same first.entries second.entries (λ i j _ _. ((λ m. m), (λ m. m))) in
    (λ e. w.1 (tells.0 e), λ a. tells.1 (w.0 a))
