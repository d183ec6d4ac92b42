-- The page: what lies past the bytes that are read changes nothing; the lines of the kinds, and the rows and the word prime that they show.
use mathlib.Core.Bool.{Bool, true, false, not}
use mathlib.Core.List.{List, [], ◌∷◌, ◌++◌}
use mathlib.Core.Logic.{◌↔◌, ◌⊎◌, inl, inr}
use mathlib.Core.Path.{◌≡◌, refl, sym, ◌∙◌, ap}
use Prim.Native.Nat.{ℕ, ◌+◌, ◌*◌, ◌≤◌, ◌<◌}
use native.Mathlib.Decide.{dec_lt}
use native.Mathlib.Nat.{mul-le-mul}
use native.Mathlib.Omega.{arith}
use lib.Dec.{T, ltb, eqb}
use lib.ListN.{length, take, drop, get_or, length-take}
use lib.Seq.{take_all, get_or-take, get_or-drop}
use Rattle.model.specs.Field.{Field, unit, at}
use Rattle.model.specs.Card.{Reached, reached}
use Rattle.model.specs.Norm.{kind_norm}
use Rattle.model.specs.Base.{settled_stage, settled_row, since}
use Rattle.model.specs.Sheet.{byte, u32_at, kind_count, code_count, line_count, field_count, fields_offset, total_of, card_of}
use Rattle.model.specs.Limits.{most_kinds, most_codes, most_lines, most_fields, most_input}
use Rattle.model.specs.Refusal.{Check, check, Finding, clear, refusal, first_of, outside, differ, header_checks, line_checks, norm_checks, sheet_checks, Accepted}
use Rattle.model.specs.Answer.{table_of, row_of, row_check_of}
use Rattle.model.specs.Page.{bytes, number, newline, counts_of, itself, words_of, kind_line, refused_line, page_of, printed}
use Rattle.theory.specs.Terms.{Earlier, Before, Prime}
use Rattle.theory.specs.Meanings.{Pages}
use Rattle.model.specs.Sense.{plain}
use Rattle.theory.proofs.Field.{unit_same}
use Rattle.theory.proofs.Exec.{Tells, tells_eq}
use Rattle.theory.proofs.Lists.{is_true, is_false}
use Rattle.theory.proofs.Sheets.{then, first_append, not_less, sheet_reaches, under_kinds, tells_reached}
use Rattle.theory.proofs.Reach.{dec_tells}
use Rattle.theory.proofs.Checks.{from_outside, from_less, cons_none}
use Rattle.theory.proofs.Limits.{accepted_limits}
use Rattle.theory.proofs.Answers.{demand1}
use Rattle.theory.proofs.Settling.{sheet_settles, sheet_primes}

-- The header's checks but the last.
early : List ℕ → List Check
early s =
    check 1 0 (ltb (length s) 20)
    ∷ check 2 0 (outside 1 most_kinds (kind_count s))
    ∷ check 3 0 (outside 1 most_codes (code_count s))
    ∷ check 4 0 (ltb most_lines (line_count s))
    ∷ check 5 0 (ltb most_fields (field_count s))
    ∷ check 6 0 (differ (u32_at s 8) 20)
    ∷ check 6 1 (differ (u32_at s 12) (fields_offset s))
    ∷ check 6 2 (differ (u32_at s 16) (total_of s))
    ∷ []

header_is : (s : List ℕ) → header_checks s ≡ early s ++ (check 6 3 (differ (length s) (total_of s)) ∷ [])
unfolding header_checks early
header_is s = refl

-- A last check that applies if it is reached may as well apply.
last_applies : (xs : List Check) (k p : ℕ) (b : Bool) → (first_of xs ≡ clear → T b)
    → first_of (xs ++ (check k p b ∷ [])) ≡ then (first_of xs) (refusal k p)
unfolding then first_of
last_applies xs k p b h = first_append xs (check k p b ∷ []) ∙ go (first_of xs) b h
  where
    go : (f : Finding) (b : Bool) → (f ≡ clear → T b) → then f (first_of (check k p b ∷ [])) ≡ then f (refusal k p)
    go clear true h = refl
    go clear false h = absurd (h refl)
    go (refusal _ _) b h = refl

some_refusal : (f : Finding) (k p : ℕ) → (j : ℕ) × (q : ℕ) × (then f (refusal k p) ≡ refusal j q)
unfolding then
some_refusal clear k p = (k, p, refl)
some_refusal (refusal j q) k p = (j, q, refl)

apart_differ : (x y : ℕ) → y < x → T (differ x y)
apart_differ x y h = go (eqb x y) (tells_eq x y)
  where
    go : (b : Bool) → Tells b (x ≡ y) → T (not b)
    go true t = absurd (omega (arith, t.fact tt))
    go false t = tt

-- No sheet within the header's limits is longer than 12,820 bytes.
total_most : (s : List ℕ) → kind_count s ≤ most_kinds → line_count s ≤ most_lines → field_count s ≤ most_fields → total_of s < most_input
unfolding total_of fields_offset
total_most s h i j =
    let a : 2 + kind_count s ≤ 34 = omega arith in
    let b : 2 * kind_count s ≤ 64 = omega arith in
    let x : line_count s * (2 + kind_count s) ≤ 256 * 34 = mul-le-mul i a in
    let y : 2 * kind_count s * field_count s ≤ 64 * 64 = mul-le-mul b j in
    omega arith

early_total : (s : List ℕ) → first_of (early s) ≡ clear → total_of s < most_input
unfolding early
early_total s e =
    let c1 = cons_none 1 0 _ _ e in
    let c2 = cons_none 2 0 _ _ c1.1 in
    let c3 = cons_none 3 0 _ _ c2.1 in
    let c4 = cons_none 4 0 _ _ c3.1 in
    let c5 = cons_none 5 0 _ _ c4.1 in
    total_most s (from_outside 1 most_kinds (kind_count s) c2.0).1 (from_less most_lines (line_count s) c4.0) (from_less most_fields (field_count s) c5.0)

-- Input longer than any sheet is refused, at the latest by 6 at place 3.
long_header : (s : List ℕ) → most_input ≤ length s → first_of (header_checks s) ≡ then (first_of (early s)) (refusal 6 3)
long_header s h = ap first_of (header_is s) ∙ last_applies (early s) 6 3 (differ (length s) (total_of s)) (λ e. apart_differ (length s) (total_of s) (omega (arith, early_total s e)))

module _ (s : List ℕ) (h : most_input ≤ length s) where
  abbrev cut : List ℕ
  cut = take most_input s

  same : (i : ℕ) → i < most_input → byte cut i ≡ byte s i
  same i k = get_or-take most_input s i 0 k

  long_enough : (n : ℕ) → 20 ≤ n → ltb n 20 ≡ false
  long_enough n k = is_false (ltb n 20) (not_less n 20 k)

  early_same : early cut ≡ early s
  unfolding early total_of fields_offset
  early_same =
      let l : length cut ≡ most_input = length-take most_input s ∙ omega arith in
      let a : ltb (length cut) 20 ≡ ltb (length s) 20 = long_enough (length cut) (omega arith) ∙ sym (long_enough (length s) (omega arith)) in
      let n : kind_count cut ≡ kind_count s = omega (arith, same 0 (omega arith), same 1 (omega arith)) in
      let c : code_count cut ≡ code_count s = omega (arith, same 2 (omega arith), same 3 (omega arith)) in
      let m : line_count cut ≡ line_count s = omega (arith, same 4 (omega arith), same 5 (omega arith)) in
      let f : field_count cut ≡ field_count s = omega (arith, same 6 (omega arith), same 7 (omega arith)) in
      let x : u32_at cut 8 ≡ u32_at s 8 = omega (arith, same 8 (omega arith), same 9 (omega arith), same 10 (omega arith), same 11 (omega arith)) in
      let y : u32_at cut 12 ≡ u32_at s 12 = omega (arith, same 12 (omega arith), same 13 (omega arith), same 14 (omega arith), same 15 (omega arith)) in
      let z : u32_at cut 16 ≡ u32_at s 16 = omega (arith, same 16 (omega arith), same 17 (omega arith), same 18 (omega arith), same 19 (omega arith)) in
      cc

page_refused : (s : List ℕ) (k p : ℕ) → first_of (header_checks s) ≡ refusal k p → page_of s ≡ refused_line k p
unfolding page_of sheet_checks then
page_refused s k p e =
    let f : first_of (header_checks s ++ line_checks s ++ norm_checks s) ≡ refusal k p =
    first_append (header_checks s ++ line_checks s) (norm_checks s) ∙ rw (first_append (header_checks s) (line_checks s), e) refl in
    rw (f, page_of) refl

module _ (s : List ℕ) where
  long_refused : most_input ≤ length s
      → (k : ℕ) × (p : ℕ) × (first_of (header_checks s) ≡ refusal k p) × (printed s ≡ refused_line k p)
  unfolding printed
  long_refused h =
      let l : length (take most_input s) ≡ most_input = length-take most_input s ∙ omega arith in
      let r = some_refusal (first_of (early s)) 6 3 in
      let e = long_header s h ∙ r.2 in
      let f = long_header (take most_input s) (omega arith) ∙ ap (λ (x : List Check). then (first_of x) (refusal 6 3)) (early_same s h) ∙ r.2 in
      (r.0, r.1, e, page_refused (take most_input s) r.0 r.1 f)

  whole : printed s ≡ page_of s
  unfolding printed
  whole = go (dec_lt (length s) most_input)
    where
      go : Dec (length s < most_input) → page_of (take most_input s) ≡ page_of s
      go (yes h) = ap page_of (take_all most_input s (omega arith))
      go (no h) = let x = long_refused (omega arith) in x.3 ∙ sym (page_refused s x.0 x.1 x.2)

  module _ (ok : Accepted s) where
    abbrev n : ℕ
    n = kind_count s

    row_clear : (k : ℕ) → k < n → row_check_of n k (table_of s) ≡ clear
    row_clear k h =
        let L = (accepted_limits s ok).kinds in
        ((demand1 s).row_taken n k (table_of s)).1 (L.0, L.1, h, omega (arith, (demand1 s).table_size))

    row_shown : (k j : ℕ) → k < n → j < n → at (row_of n k (table_of s)) j ≡ settled_row (card_of s) k j
    row_shown k j h i =
        ap (λ (r : List ℕ). get_or r j 0) ((demand1 s).row_part_is n k (table_of s) (row_clear k h)) ∙ get_or-take n (drop (k * n) (table_of s)) j 0 i
        ∙ get_or-drop (k * n) (table_of s) j 0 ∙ (demand1 s).table_row k j h i

    own : (k : ℕ) → Reached (card_of s) k → (settled_row (card_of s) k k ≡ 1) ↔ (settled_row (card_of s) k ≡ unit k)
    own k v = ((λ e. go e ((sheet_settles plain s ok).final.counts k v)), (λ e. ap (λ (f : Field). f k) e ∙ unit_same k))
      where
        not_earlier : ¬ Earlier (card_of s) k k
        not_earlier (inl p) = omega arith
        not_earlier (inr p) = omega (arith, p.1)

        go : {A B : Type 0} → settled_row (card_of s) k k ≡ 1 → ((settled_row (card_of s) k ≡ unit k) × A) ⊎ (Before (card_of s) k (settled_row (card_of s) k) × B) → settled_row (card_of s) k ≡ unit k
        go e (inl p) = p.0
        go e (inr p) = absurd (not_earlier (p.0 k (omega arith)).1)

    prime_word {ℓ} : (k : ℕ) → k < n → T (itself k (row_of n k (table_of s))) ↔ Prime {ℓ} (card_of s) k
    unfolding itself
    prime_word k h = go (dec_tells _ (tells_reached s ok k))
      where
        r : ℕ
        r = at (row_of n k (table_of s)) k

        e : r ≡ settled_row (card_of s) k k
        e = row_shown k k h h

        go : Dec (Reached (card_of s) k) → T (eqb r 1) ↔ Prime {ℓ} (card_of s) k
        go (yes v) =
            let p = (sheet_primes plain s ok).own_row k v in (
              (λ t. p.0 ((own k v).0 (sym e ∙ (tells_eq r 1).fact t))),
              (λ x. (tells_eq r 1).test (e ∙ (own k v).1 (p.1 x))),
            )
        go (no n) = (
          (λ t. absurd (omega (arith, e, (tells_eq r 1).fact t, ap (λ (f : Field). f k) ((sheet_settles plain s ok).out_row (settled_stage (card_of s)) k n)))),
          (λ x. absurd (n x.0)),
        )

  -- The line of a kind, reached or out.
  abbrev Words : Bool → ℕ → List ℕ
  Words b k = bytes "kind " ++ number k ++ elim b as (λ _. List ℕ) [ true ↦ words_of s (table_of s) (kind_norm (card_of s)) k | false ↦ bytes " out" ] ++ newline

  line_is : (k : ℕ) → kind_line s (table_of s) (kind_norm (card_of s)) k ≡ Words (reached (card_of s) k) k
  unfolding kind_line
  line_is k = refl

  out_line : (k : ℕ) → ¬ Reached (card_of s) k → kind_line s (table_of s) (kind_norm (card_of s)) k ≡ bytes "kind " ++ number k ++ bytes " out" ++ newline
  out_line k n = line_is k ∙ ap (λ (b : Bool). Words b k) (is_false (reached (card_of s) k) (λ t. n (((sheet_reaches s).test_iff k).0 t)))

  -- Of a reached kind, by whether its row is shown as the kind itself.
  module _ (k : ℕ) (v : Reached (card_of s) k) where
    abbrev shown : List ℕ
    shown = row_of (kind_count s) k (table_of s)

    abbrev Line : Bool → List ℕ
    Line b =
        bytes "kind " ++ number k
        ++ (bytes " norm " ++ number (kind_norm (card_of s) k) ++ bytes " since " ++ number (since (card_of s) k) ++ bytes " " ++ elim b as (λ _. List ℕ) [ true ↦ bytes "prime" | false ↦ counts_of shown ])
        ++ newline

    reached_line : kind_line s (table_of s) (kind_norm (card_of s)) k ≡ Line (itself k shown)
    unfolding words_of
    reached_line = line_is k ∙ ap (λ (b : Bool). Words b k) (is_true (reached (card_of s) k) (((sheet_reaches s).test_iff k).1 v))

    prime_line : T (itself k shown) → kind_line s (table_of s) (kind_norm (card_of s)) k ≡ Line true
    prime_line t = reached_line ∙ ap Line (is_true (itself k shown) t)

    made_line : ¬ T (itself k shown) → kind_line s (table_of s) (kind_norm (card_of s)) k ≡ Line false
    made_line n = reached_line ∙ ap Line (is_false (itself k shown) n)

pub pages {ℓ} : (s : List ℕ) → Pages {ℓ} s
pages s = record {
  whole = whole s;
  longest = refl;
  too_long = long_refused s;
  out_line = out_line s;
  prime_line = λ ok k x. prime_line s k x.0 ((prime_word s ok k (under_kinds s k x.0)).1 x);
  made_line = λ ok k v n. made_line s k v (λ t. n ((prime_word s ok k (under_kinds s k v)).0 t));
  row_shown = row_shown s;
  prime_word = λ ok. prime_word s ok;
}
