-- Laws of the table of the lines that follow: how its rows are set, from the end of the lines down, and the search for a reply through it.
use mathlib.Core.Bool.{Bool, true, false}
use mathlib.Core.List.{List}
use mathlib.Core.Path.{◌≡◌, refl, sym, ap, ◌∙◌}
use Prim.Native.Nat.{ℕ, ◌+◌, ◌*◌, ◌-◌, ◌≤◌, ◌<◌}
use native.Mathlib.Decide.{ℕ_discrete, dec_lt}
use native.Mathlib.Omega.{arith}
use borrow.Author.Tests.{eq-eqb, ne_eqb}
use lib.Dec.{T, eqb}
use lib.ListN.{length, set, length-set}
use lib.Seq.{get_or-set_same, get_or-set_other}
use Rattle.model.specs.Field.{Field, at}
use Rattle.model.specs.Card.{Line}
use Rattle.model.specs.Limits.{most_codes, most_lines}
use Rattle.model.specs.Sheet.{line_count, line_of}
use Rattle.theory.proofs.Lists.{least_cases, least_within, least_test}
use Rattle.moves.specs.Lines.{usable, answers, next_of}
use Rattle.moves.specs.Following.{has_code, Long, RowSet, FollowsFrom, Follows}
use Rattle.moves.proofs.Searches.{least_next, least_here, least_last, least_over}

-- At the end of the lines no line follows.
pub follows_end : {s : List ℕ} {lines : ℕ} {before after : List ℕ} → lines ≡ line_count s → Long after → RowSet lines (λ c. lines) before after → FollowsFrom s lines after
follows_end {s} {lines} {before} {after} e long r =
    record {
      long = long;
      entry = λ i c a b l.
          let z : i ≡ lines = omega arith in
          rw z (r.holds c l ∙ sym (least_last (λ j. has_code c (line_of s j)) lines (line_count s) (omega arith)));
    }

-- A line's row is that of the next position, but for the line's own code.
pub follows_line : {s : List ℕ} {line code : ℕ} {before after : List ℕ} → FollowsFrom s (line + 1) before → line < line_count s → line < most_lines → code ≡ (line_of s line).code → code < most_codes
    → length after ≡ length before → RowSet line (λ c. at before ((line + 1) * most_codes + c)) before after → FollowsFrom s line (set after (line * most_codes + code) line)
follows_line {s} {line} {code} {before} {after} f h small e l kept r =
    record {
      long = length-set after (line * most_codes + code) line ∙ kept ∙ f.long;
      entry = λ i c a b m. go i c a b m (dec_lt line i);
    }
  where
    same : (c : ℕ) → c < most_codes → Dec (c ≡ code) → at (set after (line * most_codes + code) line) (line * most_codes + c) ≡ next_of (has_code c) (line_of s) line (line_count s)
    same c m (yes q) =
        rw q (get_or-set_same after (line * most_codes + code) line 0 (omega (arith, kept, f.long))
        ∙ sym (least_here (λ j. has_code code (line_of s j)) line (line_count s) h (eq-eqb _ _ (sym e))))
    same c m (no q) =
        get_or-set_other after (line * most_codes + code) (line * most_codes + c) line 0 (λ z. q (omega arith))
        ∙ r.holds c m
        ∙ f.entry (line + 1) c (omega arith) (omega arith) m
        ∙ sym (least_next (λ j. has_code c (line_of s j)) line (line_count s) h (ne_eqb _ _ (λ z. q (sym z ∙ sym e))))

    go : (i c : ℕ) → line ≤ i → i ≤ line_count s → c < most_codes → Dec (line < i) → at (set after (line * most_codes + code) line) (i * most_codes + c) ≡ next_of (has_code c) (line_of s) i (line_count s)
    go i c a b m (yes q) =
        get_or-set_other after (line * most_codes + code) (i * most_codes + c) line 0 (λ z. omega arith)
        ∙ r.kept (i * most_codes + c) (omega arith)
        ∙ f.entry i c (omega arith) b m
    go i c a b m (no q) = let z : i ≡ line = omega arith in rw z (same c m (ℕ_discrete c code))

-- The line that follows a position is none before it.
pub follows_later : {s t : List ℕ} → Follows s t → (i c : ℕ) → i ≤ line_count s → c < most_codes → i ≤ at t (i * most_codes + c)
follows_later {s} {t} table i c h l = rw (table.entry i c (omega arith) h l) (least_within (λ k. has_code c (line_of s k)) i (line_count s) h).0

-- Whether a reply may be used decides where it has the code.
answers_usable : (l : Line) (b : Field) (m : Line) (can : Bool) → eqb m.code l.code ≡ true → usable b m ≡ can → answers l b m ≡ can
answers_usable l b m true e u = rw (u, e) refl
answers_usable l b m false e u = rw u refl

answers_coded : (l : Line) (b : Field) (m : Line) → eqb m.code l.code ≡ false → answers l b m ≡ false
answers_coded l b m e = go (usable b m) refl
  where
    go : (can : Bool) → usable b m ≡ can → answers l b m ≡ false
    go true u = rw (u, e) refl
    go false u = rw u refl

is_false : (t : Bool) → ¬ T t → t ≡ false
is_false true h = absurd (h tt)
is_false false h = refl

-- A reply of b to the challenge l is sought from line to line of its code: no line passed is a reply, and the line, where there is one, has the code.
pub record Seeking (s : List ℕ) (l : Line) (b : Field) (from line : ℕ) : Type 0 where
  pub later : from ≤ line
  pub within : line ≤ line_count s
  pub coded : line < line_count s → eqb (line_of s line).code l.code ≡ true
  pub passed : (j : ℕ) → from ≤ j → j < line → answers l b (line_of s j) ≡ false

module _ {s : List ℕ} {l : Line} {b : Field} {from : ℕ} where
  module _ {t : List ℕ} (table : Follows s t) (code line : ℕ) (e : code ≡ l.code) (small : code < most_codes) where
    -- From a position up to which no line is a reply the table leads to the next line to be tried.
    seeking_from : (i : ℕ) → from ≤ i → i ≤ line_count s → ((j : ℕ) → from ≤ j → j < i → answers l b (line_of s j) ≡ false) → line ≡ at t (i * most_codes + code) → Seeking s l b from line
    seeking_from i a fits f d =
        let n : line ≡ next_of (has_code code) (line_of s) i (line_count s) = d ∙ table.entry i code (omega arith) fits small in
        let w = least_within (λ k. has_code code (line_of s k)) i (line_count s) fits in
        record {
          later = omega (arith, n, w.0);
          within = omega (arith, n, w.1);
          coded = λ h.
              ap (λ (k : ℕ). eqb (line_of s k).code l.code) n
              ∙ ap (λ (x : ℕ). eqb (line_of s (next_of (has_code code) (line_of s) i (line_count s))).code x) (sym e)
              ∙ least_test (λ k. has_code code (line_of s k)) i (line_count s) fits (omega (arith, n));
          passed = λ j u v. go n j u v (dec_lt j i);
        }
      where
        go : line ≡ next_of (has_code code) (line_of s) i (line_count s) → (j : ℕ) → from ≤ j → j < line → Dec (j < i) → answers l b (line_of s j) ≡ false
        go n j u v (yes q) = f j u q
        go n j u v (no q) = answers_coded l b (line_of s j) (rw e at (is_false (has_code code (line_of s j)) ((least_cases (λ k. has_code code (line_of s k)) i (line_count s - i)).2 j (omega arith) (rw n at v))))

    pub seeking_starts : from ≤ line_count s → line ≡ at t (from * most_codes + code) → Seeking s l b from line
    seeking_starts h d = seeking_from from (omega arith) h (λ j u v. absurd (omega arith)) d

    pub seeking_on : (old : ℕ) → Seeking s l b from old → old < line_count s → usable b (line_of s old) ≡ false → line ≡ at t ((old + 1) * most_codes + code) → Seeking s l b from line
    seeking_on old k h u d = seeking_from (old + 1) (omega (arith, k.later)) (omega arith) (λ j x y. go j x y (ℕ_discrete j old)) d
      where
        go : (j : ℕ) → from ≤ j → j < old + 1 → Dec (j ≡ old) → answers l b (line_of s j) ≡ false
        go j x y (yes q) = rw q (answers_usable l b (line_of s old) false (k.coded h) u)
        go j x y (no q) = k.passed j x (omega arith)

  module _ {line : ℕ} (k : Seeking s l b from line) (to : ℕ) (fits : to ≤ line_count s) where
    pub seeking_found : line < to → usable b (line_of s line) ≡ true → line ≡ next_of (answers l b) (line_of s) from to
    seeking_found h u =
        sym (least_over (λ j. answers l b (line_of s j)) to from line k.later (omega arith) k.passed
        ∙ least_here (λ j. answers l b (line_of s j)) line to h (answers_usable l b (line_of s line) true (k.coded (omega arith)) u))

    pub seeking_ends : from ≤ to → to ≤ line → to ≡ next_of (answers l b) (line_of s) from to
    seeking_ends a h =
        sym (least_over (λ j. answers l b (line_of s j)) to from to a (omega arith) (λ j u v. k.passed j u (omega arith))
        ∙ least_last (λ j. answers l b (line_of s j)) to to (omega arith))
