-- How large the numbers of an accepted sheet grow, in each sense.
use mathlib.Core.Bool.{Bool, true, false}
use mathlib.Core.List.{List, [], ◌∷◌, Memᴰ}
use mathlib.Core.Path.{◌≡◌, refl, sym, ◌∙◌, ap}
use Prim.Native.Nat.{ℕ, zero, suc, ◌+◌, ◌-◌, ◌*◌, ◌≤◌, ◌<◌, min}
use native.Mathlib.Bridge.{le_by_compare, IsLe}
use native.Mathlib.Decide.{dec_lt}
use native.Mathlib.Nat.{mul-le-mul, mul-le-mul_right, mul-le-mul_left}
use native.Mathlib.Omega.{arith}
use lib.Dec.{ltb}
use lib.ListN.{get_or}
use Rattle.model.specs.Finite.{list_from}
use Rattle.model.specs.Field.{Field, unit, weigh, at}
use Rattle.model.specs.Card.{Line, Card, On, Reached, reached_lines}
use Rattle.model.specs.Norm.{IsNorm, kind_norm, norm, gain_of}
use Rattle.model.specs.Sense.{Sense, total}
use Rattle.model.specs.Base.{stage_row_in, stage_form_in, settled_form_in, gain}
use Rattle.model.specs.Sheet.{byte, u16_at, kind_count, line_count, field_count, fields_offset, counts, line_of, card_of, field_of}
use Rattle.model.specs.Limits.{most_kinds, norm_limit}
use Rattle.model.specs.Refusal.{Accepted}
use Rattle.model.specs.Answer.{given, different, compare_in, prime_form_in}
use Rattle.theory.specs.Terms.{OfKinds}
use Rattle.theory.specs.Widths.{Bytes, most_left_norm, most_field_norm, most_reported, Widths}
use Rattle.theory.proofs.Field.{weigh_part, weigh_unit}
use Rattle.theory.proofs.Stages.{level, level_cong}
use Rattle.theory.proofs.Rank.{Within}
use Rattle.theory.proofs.Base.{form, form_within, form_rel}
use Rattle.theory.proofs.Settle.{tidy_within}
use Rattle.theory.proofs.Decide.{Finite}
use Rattle.theory.proofs.Count.{past, past_whole, level_low, level_base}
use Rattle.theory.proofs.Certified.{Found}
use Rattle.theory.proofs.Senses.{tidy}
use Rattle.theory.proofs.Lists.{mem_from, get_d_from, get_d_past}
use Rattle.theory.proofs.Sheets.{sheet_clear, sheet_reaches, tells_reached, certified}
use Rattle.theory.proofs.Reach.{dec_tells}
use Rattle.theory.proofs.Limits.{accepted_limits, limit_of}
use Rattle.theory.proofs.Gain.{sheet_norms, gain_one, is_gain}
use Rattle.theory.proofs.Verdicts.{N, L, fin, field_tidy, demand3}
use Rattle.theory.proofs.Settling.{row_of, out_row, sheet_settles, row_kinds}
use Rattle.theory.proofs.Program.{theirs, kept, kept_kinds, kept_norm, kept_form}

-- A sum of n parts, none of them over x.
weigh_most : (n : ℕ) (w : ℕ → ℕ) (a : Field) (x : ℕ) → ((k : ℕ) → k < n → a k * w k ≤ x) → weigh n w a ≤ n * x
unfolding weigh
weigh_most zero w a x h = omega arith
weigh_most (suc n) w a x h = omega (arith, weigh_most n w a x (λ k i. h k (omega arith)), h n (omega arith))

counts_most : (n : ℕ) (f : ℕ → ℕ) (x k : ℕ) → ((k : ℕ) → f k ≤ x) → counts n f k ≤ x
unfolding counts
counts_most n f x k h = go (ltb k n)
  where
    go : (b : Bool) → (elim b as (λ _. ℕ) [ true ↦ f k | false ↦ 0 ]) ≤ x
    go true = h k
    go false = omega arith

gain_bound : (n : ℕ) (w : ℕ → ℕ) (x : ℕ) (ls : List Line) → ((l : Line) → Memᴰ l ls → weigh n w l.left ≤ x) → gain_of n w ls ≤ x
unfolding gain_of
gain_bound n w x [] h = omega arith
gain_bound n w x (l ∷ ls) h = omega (arith, h l (Memᴰ.head refl), gain_bound n w x ls (λ m i. h m (Memᴰ.tail i)))

-- A count of a kind that weighs something is no more than the whole weighs.
count_weight : (n : ℕ) (w : ℕ → ℕ) (a : Field) (k : ℕ) → k < n → 0 < w k → a k ≤ weigh n w a
count_weight n w a k h p =
    let z : 1 ≤ w k = p in
    let y : a k * 1 ≤ a k * w k = mul-le-mul_left (a k) z in
    omega (arith, weigh_part n w a k h)

rounds_most : (r x g t X G K : ℕ) → (t ≡ 0 → r ≡ x + 1) → (0 < t → r ≡ x + 1 + (t - 1) * (g + 1)) → x ≤ X → g ≤ G → t ≤ suc K → r ≤ X + 1 + K * (G + 1)
rounds_most r x g zero X G K none some h i j = omega (arith, none refl)
rounds_most r x g (suc t) X G K none some h i j =
    let u : g + 1 ≤ G + 1 = omega arith in
    let v : suc t - 1 ≤ K = omega arith in
    let z : (suc t - 1) * (g + 1) ≤ K * (G + 1) = mul-le-mul v u in
    omega (arith, some (omega arith))

byte_most : (s : List ℕ) → Bytes s → (i : ℕ) → byte s i ≤ 255
byte_most s h i = omega (arith, h i)

u16_most : (s : List ℕ) → Bytes s → (i : ℕ) → u16_at s i ≤ 65535
u16_most s h i = omega (arith, h i, h (i + 1))

line_count_lem : (s : List ℕ) → Bytes s → (j k : ℕ) → (line_of s j).left k ≤ 255
unfolding line_of
line_count_lem s h j k = counts_most (kind_count s) (λ k. byte s (20 + j * (2 + kind_count s) + 2 + k)) 255 k (λ i. byte_most s h _)

module _ (s : List ℕ) (bytes : Bytes s) where
  left_count : (l : Line) → On (card_of s) l → (k : ℕ) → l.left k ≤ 255
  unfolding card_of
  left_count l o k = let t = mem_from (line_of s) 0 (line_count s) l o in rw t.2 (line_count_lem s bytes (0 + t.0) k)

  field_count_is : (i k : ℕ) → field_of s i k ≤ 65535
  unfolding field_of
  field_count_is i k = counts_most (kind_count s) (λ k. u16_at s (fields_offset s + 2 * kind_count s * i + 2 * k)) 65535 k (λ j. u16_most s bytes _)

  module _ (ok : Accepted s) where
    kinds_is : (card_of s).kinds ≡ kind_count s
    unfolding card_of
    kinds_is = refl

    most_kinds_is : (card_of s).kinds ≤ most_kinds
    most_kinds_is = omega (arith, kinds_is, (accepted_limits s ok).kinds.1)

    positive : (k : ℕ) → Reached (card_of s) k → 0 < kind_norm (card_of s) k
    positive = (certified s ok).positive

    num : (k : ℕ) → Reached (card_of s) k → k < (card_of s).kinds
    num k v = (sheet_reaches s).under k v

    kind_norm_is : (k : ℕ) → k < (card_of s).kinds → kind_norm (card_of s) k ≤ norm_limit
    kind_norm_is k h = limit_of s ok k (omega (arith, kinds_is))

    -- The norm of a field none of whose counts passes m.
    norm_most : (a : Field) (m : ℕ) → ((k : ℕ) → a k ≤ m) → norm (card_of s) a ≤ most_kinds * (m * norm_limit)
    norm_most a m h =
        let x : norm (card_of s) a ≤ (card_of s).kinds * (m * norm_limit) = weigh_most (card_of s).kinds (kind_norm (card_of s)) a (m * norm_limit) (λ k i. mul-le-mul (h k) (kind_norm_is k i)) in
        let y : (card_of s).kinds * (m * norm_limit) ≤ most_kinds * (m * norm_limit) = mul-le-mul_right (m * norm_limit) most_kinds_is in
        omega arith

    left_norm : (l : Line) → On (card_of s) l → norm (card_of s) l.left ≤ most_left_norm
    left_norm l o = norm_most l.left 255 (left_count l o)

    field_total : (i : ℕ) → total (card_of s) (field_of s i) ≤ most_kinds * 65535
    field_total i =
        let m : (card_of s).kinds * 65535 ≤ most_kinds * 65535 = mul-le-mul_right 65535 most_kinds_is in
        omega (arith, weigh_most (card_of s).kinds (λ _. 1) (field_of s i) 65535 (λ k _. omega (arith, field_count_is i k)))

    field_norm : (i : ℕ) → norm (card_of s) (field_of s i) ≤ most_field_norm
    field_norm i = norm_most (field_of s i) 65535 (field_count_is i)

    gain_most : gain (card_of s) ≤ most_left_norm
    gain_most = gain_bound (card_of s).kinds (kind_norm (card_of s)) most_left_norm (reached_lines (card_of s)) (λ l m. left_norm l (((sheet_reaches s).lines_iff l).0 m).0)

    -- At stage q + 1 a row has its kind's norm, and holds kinds of the card alone.
    module _ (m : Sense) (q : ℕ) where
      abbrev c : Card
      c = card_of s

      abbrev F : Found c (kind_norm c)
      F = certified s ok

      abbrev all : Finite (N m s ok).on
      all = fin m s ok

      row_norm : (k : ℕ) → Reached c k → norm c (stage_row_in m c (suc q) k) ≡ kind_norm c k
      row_norm k v =
          let h = num k v in
          ap (norm c) (row_of m c F q k v)
          ∙ sym ((level_cong (N m s ok) q).norms (unit k) ((level_base (N m s ok) all q).row k) ((level_base (N m s ok) all q).rel k h (positive k v) (past_whole (N m s ok) all k h)))
          ∙ weigh_unit c.kinds (kind_norm c) k h

      row_count : (k j : ℕ) → k < c.kinds → stage_row_in m c (suc q) k j ≤ norm_limit
      row_count k j h = go (dec_lt 0 (stage_row_in m c (suc q) k j)) (dec_tells _ (tells_reached s ok k))
        where
          go : Dec (0 < stage_row_in m c (suc q) k j) → Dec (Reached c k) → stage_row_in m c (suc q) k j ≤ norm_limit
          go (yes p) (yes v) =
              let i = row_kinds m c F q k v j p in
              omega (arith, count_weight c.kinds (kind_norm c) (stage_row_in m c (suc q) k) j (num j i) (positive j i), row_norm k v, kind_norm_is k h)
          go (yes p) (no n) = omega (arith, ap (λ (f : Field). f j) (out_row m c F (suc q) k n))
          go (no p) d = omega arith

      formed : Field → Field
      formed a = form (N m s ok) (level (N m s ok) q) (past (N m s ok) all) (level_base (N m s ok) all q) a

      reached_count_is : (a : Field) → OfKinds c a → (j : ℕ) → stage_form_in m c (suc q) a j ≤ norm c a
      unfolding formed
      reached_count_is a u j = rw (ap (λ (f : Field). f j) (theirs m c (kind_norm c) F q a u)) (go (dec_lt 0 (formed a j)))
        where
          within : Within (N m s ok) (past (N m s ok) all) a
          within = tidy_within (N m s ok) (past (N m s ok) all) (past_whole (N m s ok) all) a (tidy m c (kind_norm c) F a u)

          go : Dec (0 < formed a j) → formed a j ≤ norm c a
          go (yes p) =
              let i = (form_within (N m s ok) (level (N m s ok) q) (past (N m s ok) all) (level_base (N m s ok) all q) (past (N m s ok) all) a (omega arith) within).0 j p in
              let r = form_rel (N m s ok) (level (N m s ok) q) (past (N m s ok) all) (level_base (N m s ok) all q) (level_cong (N m s ok) q) (level_low (N m s ok) all q) a within in
              omega (arith, count_weight c.kinds (kind_norm c) (formed a) j i.0 i.1, (level_cong (N m s ok) q).norms a (formed a) r)
          go (no p) = omega arith

      form_count : (a : Field) (j : ℕ) → stage_form_in m c (suc q) a j ≤ norm c a
      form_count a j =
          omega (
            arith,
            reached_count_is (kept m c (kind_norm c) F a) (kept_kinds m c (kind_norm c) F a) j,
            ap (λ (f : Field). f j) (kept_form m c (kind_norm c) F q a),
            kept_norm m c (kind_norm c) F a,
          )

    written_count : (m : Sense) (i k : ℕ) → at (prime_form_in m s i) k ≤ norm (card_of s) (field_of s i)
    unfolding prime_form_in
    written_count m i k = go (dec_lt k (kind_count s))
      where
        f : Field
        f = settled_form_in m (card_of s) (field_of s i)

        each : (j : ℕ) → f j ≤ norm (card_of s) (field_of s i)
        each j = rw (L m s ok).is (form_count m (L m s ok).before (field_of s i) j)

        go : Dec (k < kind_count s) → get_or (list_from f 0 (kind_count s)) k 0 ≤ norm (card_of s) (field_of s i)
        go (yes h) = rw (get_d_from f 0 (kind_count s) k 0 h) (each (0 + k))
        go (no h) = rw (get_d_past f 0 (kind_count s) k 0 (omega arith)) (omega arith)

    verdict_most : (m : Sense) (i j t r : ℕ) → i < field_count s → j < field_count s → compare_in m s i j ≡ given (different t r) → (t ≤ most_kinds) × (r ≤ most_reported)
    unfolding IsNorm
    verdict_most m i j t r h k e =
        let d = (demand3 m s ok i j h k).different_parted t r e in
        let n = (sheet_norms s (sheet_clear s ok)).fields (field_of s i) (field_tidy m s ok i) in
        let z = d.4 in
        let x : z.0 ≤ most_field_norm = omega (arith, z.3.1 (norm (card_of s) (field_of s i)) n.0, field_norm i) in
        let g : z.2 ≤ most_left_norm = omega (arith, gain_one (card_of s) z.2 (gain (card_of s)) z.5 (is_gain s ok), gain_most) in
        let few : t ≤ most_kinds = omega (arith, d.3, (sheet_reaches s).count_most, most_kinds_is) in
        (few, rounds_most r (min z.0 z.1) z.2 t most_field_norm most_left_norm (most_kinds - 1) z.6 z.7 (omega arith) g few)

    pub widths : Widths s
    unfolding IsLe
    widths = record {
      left_count = left_count;
      field_count_is = field_count_is;
      field_total = field_total;
      fire_count = λ l o a m k h. omega (arith, left_count l o k);
      kind_norm_is = λ k h. kind_norm_is k (omega (arith, kinds_is));
      left_norm = left_norm;
      field_norm = field_norm;
      gain_most = gain_most;
      row_count = λ m q k j h. row_count m q k j (omega (arith, kinds_is));
      form_count = form_count;
      settled_count = λ m k j h. rw (L m s ok).is (row_count m (L m s ok).before k j (omega (arith, kinds_is)));
      written_count = written_count;
      stage_most = λ m. omega (arith, (sheet_settles m s ok).most, (sheet_reaches s).count_most, most_kinds_is);
      verdict_most = verdict_most;
      narrow = (le_by_compare _ _ tt, le_by_compare _ _ tt);
    }
