-- The array of values after each sweep over the lines of reached kinds, and after the last.
use mathlib.Core.Bool.{Bool, true, false}
use mathlib.Core.List.{List, ◌∷◌}
use mathlib.Core.Path.{◌≡◌, refl, sym, ◌∙◌, ap, fun_ext}
use Prim.Native.Nat.{ℕ, zero, suc, ◌+◌, ◌-◌, ◌≤◌, ◌<◌, min}
use native.Mathlib.Decide.{dec_lt}
use native.Mathlib.Numerals.{add-one}
use native.Mathlib.Omega.{arith}
use lib.ListN.{set, replicate}
use Rattle.model.specs.Finite.{keep, list_from}
use Rattle.model.specs.Field.{Field, at}
use Rattle.model.specs.Card.{Line, reached_lines}
use Rattle.model.specs.Norm.{best, sweeps}
use Rattle.model.specs.Sheet.{kind_count, counts, line_of, card_of}
use Rattle.model.specs.Limits.{most_kinds, norm_limit}
use Rattle.theory.proofs.Cut.{cut_sweeps, cut_sweeps_is, cut_norm}
use Rattle.theory.proofs.Sweeps.{value_kind}
use Rattle.theory.proofs.Part.{part_norms}
use Rattle.theory.specs.Meanings.{part}
use Rattle.sheet.specs.Reader.{Reads}
use Rattle.sheet.specs.declared.reader.Card.{Card}
use Rattle.sheet.proofs.Counts.{counts_below, counts_past, at_counts, from_set, counts_none}
use Rattle.sheet.proofs.Laws.{kinds_are, kinds_most, card_kinds, card_lines}
use Rattle.norms.specs.Norms.{array_of, cut_norms}
use Rattle.norms.specs.Sweep.{sweep_of}
use Rattle.weights.specs.Value.{AtMost, read_value, lesser_of}
use Rattle.norms.proofs.Arrays.{array_at, list_at, keep_in, keep_out}
use Rattle.norms.proofs.Laws.{in_reach}
use Rattle.weights.proofs.Values.{line_value, line_other, line_own, lesser_right, best_first, lesser_cut}

-- Each kind's best value over lines, cut.
abbrev best_cut : ℕ → (ℕ → ℕ) → List Line → ℕ → ℕ
best_cut n w ls k = min (best n w k ls) (suc norm_limit)

-- One line more before others: the best value of all is the lesser of that line's and the best of the others, all three cut.
best_more : (n : ℕ) (w : ℕ → ℕ) (k : ℕ) (l : Line) (ls : List Line) (found value next : ℕ) → found ≡ best_cut n w ls k
    → value ≡ min (line_value n w k l) (suc norm_limit) → next ≡ lesser_of value found → next ≡ best_cut n w (l ∷ ls) k
best_more n w k l ls found value next e d f =
    f ∙ rw (d, e) (sym (lesser_cut norm_limit (line_value n w k l) (best n w k ls))) ∙ ap (λ x. min x (suc norm_limit)) (sym (best_first n w k l ls))

-- What a sweep has found of n kinds by some lines.
abbrev found_by : ℕ → (ℕ → ℕ) → List Line → Field
found_by n w ls = counts n (best_cut n w ls)

-- What a sweep has found of n kinds once the lines from j up, of m, were taken: those of them that pass a test.
abbrev pub found_from : ℕ → (ℕ → ℕ) → (Line → Bool) → (ℕ → Line) → ℕ → ℕ → Field
found_from n w test line m j = found_by n w (keep test (list_from line j (m - j)))

-- A sweep, from the last line back: nothing is found at first, each line more that passes can better the value of its own kind alone, and one that does not changes nothing.
module _ (n : ℕ) (w : ℕ → ℕ) (test : Line → Bool) (line : ℕ → Line) (m : ℕ) where
  found_none : (k : ℕ) → found_from n w test line m m k ≡ 0
  unfolding best keep list_from
  found_none k = go (dec_lt k n)
    where
      f : ℕ → ℕ
      f = best_cut n w (keep test (list_from line m (m - m)))

      nothing : f k ≡ 0
      nothing = let z : m - m ≡ 0 = omega arith in rw z (omega arith)

      go : Dec (k < n) → counts n f k ≡ 0
      go (yes h) = counts_below n f k h ∙ nothing
      go (no h) = counts_past n f k (omega arith)

  pub found_start : replicate most_kinds 0 ≡ array_of (found_from n w test line m m)
  found_start =
      let f : ℕ → ℕ = best_cut n w (keep test (list_from line m (m - m))) in
      counts_none f most_kinds ∙ ap array_of (fun_ext (λ k. counts_past 0 f k (omega arith) ∙ sym (found_none k)))

  module _ (j : ℕ) (some : 0 < j) (within : j ≤ m) (xs : List ℕ) (e : xs ≡ array_of (found_from n w test line m j)) where
    abbrev l : Line
    l = line (j - 1)

    abbrev ls : List Line
    ls = keep test (list_from line j (m - j))

    pub found_skip : test (line (j - 1)) ≡ false → xs ≡ array_of (found_from n w test line m (j - 1))
    found_skip out = e ∙ ap (λ (rest : List Line). array_of (found_by n w rest)) (sym (keep_out test line j m some within out))

    found_other : (k : ℕ) → ¬ (k ≡ l.kind) → found_by n w ls k ≡ found_by n w (l ∷ ls) k
    found_other k d = go (dec_lt k n)
      where
        before : ℕ → ℕ
        before = best_cut n w ls

        after : ℕ → ℕ
        after = best_cut n w (l ∷ ls)

        same : before k ≡ after k
        same = best_more n w k l ls (before k) 0 (before k) refl (omega (arith, line_other n w k l (λ z. d (sym z)))) (sym (lesser_right 0 (before k) refl))

        go : Dec (k < n) → counts n before k ≡ counts n after k
        go (yes h) = counts_below n before k h ∙ same ∙ sym (counts_below n after k h)
        go (no h) = counts_past n before k (omega arith) ∙ sym (counts_past n after k (omega arith))

    pub found_more : (k value next : ℕ) → n ≤ most_kinds → (line (j - 1)).kind < n → test (line (j - 1)) ≡ true → k ≡ (line (j - 1)).kind
        → value ≡ min (read_value n w (line (j - 1)).left) (suc norm_limit) → next ≡ lesser_of value (at xs k)
        → set xs k next ≡ array_of (found_from n w test line m (j - 1))
    found_more k value next few own passes kind d f =
        let h : k < n = omega arith in
        let held : at xs k ≡ best_cut n w ls k = ap (λ (x : List ℕ). at x k) e ∙ ap (λ (g : Field). g k) (at_counts n most_kinds (best_cut n w ls) few) ∙ counts_below n (best_cut n w ls) k h in
        let given : value ≡ min (line_value n w k l) (suc norm_limit) = d ∙ ap (λ x. min x (suc norm_limit)) (sym (line_own n w k l (sym kind))) in
        let better : next ≡ found_by n w (l ∷ ls) k = best_more n w k l ls (at xs k) value next held given f ∙ sym (counts_below n (best_cut n w (l ∷ ls)) k h) in
        rw e (from_set (found_by n w ls) (found_by n w (l ∷ ls)) most_kinds k next (omega arith) better (λ i q. found_other i (λ z. q (z ∙ sym kind))))
        ∙ ap (λ (rest : List Line). array_of (found_by n w rest)) (sym (keep_in test line j m some within passes))

pub found_end : {s : List ℕ} {c : Card} (R : Reads s c) (w : ℕ → ℕ) (j : ℕ) (xs : List ℕ) → j ≡ 0
    → xs ≡ array_of (found_from c.kinds w (in_reach s) (line_of s) c.lines j) → xs ≡ sweep_of s w
unfolding sweep_of reached_lines
found_end {s} {c} R w j xs z e =
    let y : c.lines - 0 ≡ c.lines = omega arith in
    rw (z, y, ← card_lines R, kinds_are R) at e

-- The values of the sheet's kinds after d sweeps over the lines of reached kinds, cut.
abbrev pub swept : List ℕ → ℕ → Field
swept s d = at (cut_sweeps norm_limit (part (card_of s)) d)

-- One sweep more, of any values.
abbrev sweep_more : List ℕ → Field → Field
sweep_more s v = at (list_from (best_cut (card_of s).kinds v (reached_lines (card_of s))) 0 (card_of s).kinds)

swept_more : (s : List ℕ) (d : ℕ) → swept s (suc d) ≡ sweep_more s (swept s d)
unfolding cut_sweeps
swept_more s d = refl

-- Where a sweep changes nothing, no further sweep does.
swept_stays : (s : List ℕ) (d e : ℕ) → swept s (suc d) ≡ swept s d → swept s (e + d) ≡ swept s d
swept_stays s d zero h = let z : 0 + d ≡ d = omega arith in ap (swept s) z
swept_stays s d (suc e) h =
    let z : suc e + d ≡ suc (e + d) = omega arith in
    ap (swept s) z ∙ swept_more s (e + d) ∙ ap (sweep_more s) (swept_stays s d e h) ∙ sym (swept_more s d) ∙ h

module _ {s : List ℕ} {c : Card} (R : Reads s c) where
  swept_cut : (d k : ℕ) → swept s d k ≡ min (at (sweeps (part (card_of s)) d) k) (suc norm_limit)
  swept_cut d k = cut_sweeps_is norm_limit (part (card_of s)) d k

  swept_past : (d k : ℕ) → c.kinds ≤ k → swept s d k ≡ 0
  swept_past d k h = go (dec_lt 0 (at (sweeps (part (card_of s)) d) k))
    where
      go : Dec (0 < at (sweeps (part (card_of s)) d) k) → swept s d k ≡ 0
      go (yes p) = absurd (omega (arith, value_kind (part (card_of s)) d k p, card_kinds R))
      go (no p) = omega (arith, swept_cut d k)

  -- The array of them is they.
  pub swept_array : (d : ℕ) → at (array_of (swept s d)) ≡ swept s d
  swept_array d = array_at most_kinds (swept s d) (λ k h. swept_past d k (omega (arith, kinds_most R)))

  pub swept_most : (d : ℕ) → AtMost (suc norm_limit) (array_of (swept s d))
  swept_most d k = omega (arith, ap (λ (f : Field). f k) (swept_array d), swept_cut d k)

  -- No values at first, a sweep more at each turn, and the norms of the reached kinds at the end.
  pub swept_start : replicate most_kinds 0 ≡ array_of (swept s 0)
  unfolding cut_sweeps list_from
  swept_start = refl

  pub swept_next : (d : ℕ) → sweep_of s (at (array_of (swept s d))) ≡ array_of (swept s (d + 1))
  unfolding sweep_of cut_sweeps card_of
  swept_next d = rw (swept_array d, add-one d) (ap array_of (sym (list_at (kind_count s) (best_cut (kind_count s) (swept s d) (reached_lines (card_of s))))))

  pub swept_end : (d : ℕ) → d ≡ c.kinds → array_of (swept s d) ≡ cut_norms s
  unfolding cut_norms
  swept_end d e =
      let z : d ≡ (card_of s).kinds = e ∙ sym (card_kinds R) in
      rw z (ap array_of (fun_ext (λ k. cut_norm norm_limit (part (card_of s)) k ∙ ap (λ (v : ℕ → ℕ). min (v k) (suc norm_limit)) (part_norms s R.passed))))

  -- The norms at once, where one more sweep gives each kind the value that it has.
  pub swept_settled : (d : ℕ) (xs ys : List ℕ) → d ≤ c.kinds → xs ≡ array_of (swept s d) → ys ≡ sweep_of s (at xs) → ys ≡ xs → xs ≡ cut_norms s
  swept_settled d xs ys h e f same =
      e ∙ ap array_of (sym (swept_stays s d (c.kinds - d) (fun_ext unchanged))) ∙ swept_end (c.kinds - d + d) (omega arith)
    where
      more : ys ≡ array_of (swept s (d + 1))
      more = f ∙ ap (λ (l : List ℕ). sweep_of s (at l)) e ∙ swept_next d

      held : (l : List ℕ) (i : ℕ) → l ≡ array_of (swept s i) → (k : ℕ) → at l k ≡ swept s i k
      held l i q k = ap (λ (x : List ℕ). at x k) q ∙ ap (λ (v : Field). v k) (swept_array i)

      unchanged : (k : ℕ) → swept s (suc d) k ≡ swept s d k
      unchanged k = rw (← add-one d) (sym (held ys (d + 1) more k) ∙ ap (λ (l : List ℕ). at l k) same ∙ held xs d e k)
