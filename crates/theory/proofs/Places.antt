-- The places of 7, 8, 9 and 10.
use mathlib.Core.Bool.{Bool, not}
use mathlib.Core.List.{List, [], ◌∷◌}
use mathlib.Core.Logic.{◌↔◌}
use mathlib.Core.Path.{◌≡◌, refl, sym, ◌∙◌}
use Prim.Native.Nat.{ℕ, ◌+◌, ◌≤◌, ◌<◌}
use native.Mathlib.Decide.{dec_lt}
use native.Mathlib.Omega.{arith}
use lib.Dec.{T, ltb, eqb}
use Rattle.model.specs.Finite.{both, list_from}
use Rattle.model.specs.Field.{unit}
use Rattle.model.specs.Card.{On, Reached, reached}
use Rattle.model.specs.Norm.{Clears, IsNorm, kind_norm}
use Rattle.model.specs.Sheet.{kind_count, code_count, line_count, line_of, card_of}
use Rattle.model.specs.Limits.{norm_limit}
use Rattle.model.specs.Refusal.{Check, check, Finding, clear, refusal, first_of, header_checks, line_checks, norm_checks, sheet_checks, accept_checks}
use Rattle.theory.specs.Meanings.{Norms, Places}
use Rattle.theory.proofs.Exec.{Tells, tells_and, tells_lt, tells_eq}
use Rattle.theory.proofs.Sheets.{first_append, then, sheet_reaches, under_kinds}
use Rattle.theory.proofs.Checks.{each_clear, each_none, first_right}
use Rattle.theory.proofs.Gain.{sheet_norms}
use Rattle.theory.proofs.Refusals.{first_place, singles, single_clear, single_refused, refused_single, line_clear, line_kind_is, line_code, line_place}

module _ (s : List ℕ) where
  abbrev KindIn : ℕ → Type 0
  KindIn j = (line_of s j).kind < kind_count s

  abbrev CodeIn : ℕ → Type 0
  CodeIn j = (line_of s j).code < code_count s

  -- "lines, in order"
  abbrev checks_of : ℕ → List Check
  checks_of j = check 7 j (not (ltb (line_of s j).kind (kind_count s))) ∷ check 8 j (not (ltb (line_of s j).code (code_count s))) ∷ []

  kind_tells : (j : ℕ) → Tells (ltb (line_of s j).kind (kind_count s)) (KindIn j)
  kind_tells j = tells_lt (line_of s j).kind (kind_count s)

  code_tells : (j : ℕ) → Tells (ltb (line_of s j).code (code_count s)) (CodeIn j)
  code_tells j = tells_lt (line_of s j).code (code_count s)

  in_lines : first_of (header_checks s) ≡ clear → (x j : ℕ) → (first_of (sheet_checks s) ≡ refusal x j)
      ↔ ((j < line_count s) × (first_of (checks_of j) ≡ refusal x j) × ((i : ℕ) → i < j → first_of (checks_of i) ≡ clear))
  unfolding sheet_checks line_checks
  in_lines e x j =
      let r = first_right (header_checks s) (line_checks s) e in
      let p = first_place checks_of (λ i y k. line_place i _ _ (kind_tells i) (code_tells i) y k) (line_count s) x j in
      ((λ h. p.0 (sym r ∙ h)), λ h. r ∙ p.1 h)

  kind_place : first_of (header_checks s) ≡ clear → (j : ℕ) → (first_of (sheet_checks s) ≡ refusal 7 j)
      ↔ ((j < line_count s) × (¬ KindIn j) × ((i : ℕ) → i < j → KindIn i × CodeIn i))
  kind_place e j =
      let p = in_lines e 7 j in (
        (λ h. let w = p.0 h in (w.0, (line_kind_is j _ _ (kind_tells j) (code_tells j)).0 w.1, λ i l. (line_clear i _ _ (kind_tells i) (code_tells i)).0 (w.2 i l))),
        (λ w. p.1 (w.0, (line_kind_is j _ _ (kind_tells j) (code_tells j)).1 w.1, λ i l. (line_clear i _ _ (kind_tells i) (code_tells i)).1 (w.2 i l))),
      )

  code_place : first_of (header_checks s) ≡ clear → (j : ℕ) → (first_of (sheet_checks s) ≡ refusal 8 j)
      ↔ ((j < line_count s) × (KindIn j × (¬ CodeIn j)) × ((i : ℕ) → i < j → KindIn i × CodeIn i))
  code_place e j =
      let p = in_lines e 8 j in (
        (λ h. let w = p.0 h in (w.0, (line_code j _ _ (kind_tells j) (code_tells j)).0 w.1, λ i l. (line_clear i _ _ (kind_tells i) (code_tells i)).0 (w.2 i l))),
        (λ w. p.1 (w.0, (line_code j _ _ (kind_tells j) (code_tells j)).1 w.1, λ i l. (line_clear i _ _ (kind_tells i) (code_tells i)).1 (w.2 i l))),
      )

  -- The norms of the reached kinds, of a sheet that passes 1 to 8.
  module _ (e : first_of (sheet_checks s) ≡ clear) where
    n : ℕ
    n = kind_count s

    v : ℕ → ℕ
    v = kind_norm (card_of s)

    r : ℕ → Bool
    r = reached (card_of s)

    abbrev In : ℕ → Type 0
    In k = Reached (card_of s) k

    abbrev Norm : ℕ → Type 0
    Norm k = (w : ℕ) × IsNorm (card_of s) (unit k) w

    in_tells : (k : ℕ) → Tells (r k) (In k)
    unfolding r
    in_tells k = record { fact = ((sheet_reaches s).test_iff k).0; test = ((sheet_reaches s).test_iff k).1 }

    -- 9 and 10 apply to a kind.
    gone_tells : (k : ℕ) → Tells (both (r k) (eqb (v k) 0)) (In k × (v k ≡ 0))
    gone_tells k = tells_and _ _ (in_tells k) (tells_eq (v k) 0)

    large_tells : (k : ℕ) → Tells (both (r k) (ltb norm_limit (v k))) (In k × (norm_limit < v k))
    large_tells k = tells_and _ _ (in_tells k) (tells_lt norm_limit (v k))

    abbrev missing : List Check
    missing = list_from (λ k. check 9 k (both (r k) (eqb (v k) 0))) 0 n

    abbrev over : List Check
    over = list_from (λ k. check 10 k (both (r k) (ltb norm_limit (v k)))) 0 n

    norms_found : first_of (accept_checks s) ≡ then (first_of missing) (first_of over)
    unfolding norm_checks n v r
    norms_found = first_right (sheet_checks s) (norm_checks s) e ∙ first_append missing over

    in_missing : (x k : ℕ) → (first_of missing ≡ refusal x k)
        ↔ ((k < n) × (first_of (check 9 k (both (r k) (eqb (v k) 0)) ∷ []) ≡ refusal x k) × ((q : ℕ) → q < k → first_of (check 9 q (both (r q) (eqb (v q) 0)) ∷ []) ≡ clear))
    in_missing x k =
        rw (singles (λ k. check 9 k (both (r k) (eqb (v k) 0))) 0 n)
        at (first_place (λ k. check 9 k (both (r k) (eqb (v k) 0)) ∷ []) (λ j y q h. (single_refused 9 j _ (gone_tells j) y q h).1) n x k)

    in_over : (x k : ℕ) → (first_of over ≡ refusal x k)
        ↔ ((k < n) × (first_of (check 10 k (both (r k) (ltb norm_limit (v k))) ∷ []) ≡ refusal x k) × ((q : ℕ) → q < k → first_of (check 10 q (both (r q) (ltb norm_limit (v q))) ∷ []) ≡ clear))
    in_over x k =
        rw (singles (λ k. check 10 k (both (r k) (ltb norm_limit (v k)))) 0 n)
        at (first_place (λ k. check 10 k (both (r k) (ltb norm_limit (v k))) ∷ []) (λ j y q h. (single_refused 10 j _ (large_tells j) y q h).1) n x k)

    N : Norms (card_of s)
    N = sheet_norms s e

    in_card : (k : ℕ) → In k → k < n
    unfolding n
    in_card k h = under_kinds s k h

    value : (k : ℕ) → ¬ (v k ≡ 0) → IsNorm (card_of s) (unit k) (v k)
    unfolding v
    value k p = (N.kinds k (omega arith)).1

    no_value : (k : ℕ) → In k → v k ≡ 0 → (r : ℕ) → ¬ Clears (On (card_of s)) r (unit k)
    unfolding v
    no_value k h = N.missing k h

    some_value : (k : ℕ) → In k → Norm k → ¬ (v k ≡ 0)
    unfolding IsNorm
    some_value k h w z = no_value k h z w.0 w.1.0

    -- The fewest reads are one number.
    norm_one : (k w : ℕ) → In k → IsNorm (card_of s) (unit k) w → w ≡ v k
    unfolding IsNorm
    norm_one k w h p =
        let u = value k (some_value k h (w, p)) in
        omega (arith, u.1 w p.0, p.1 (v k) u.0)

    missing_clear : ((j : ℕ) → In j → Norm j) → first_of missing ≡ clear
    missing_clear f = each_clear 9 (λ k. both (r k) (eqb (v k) 0)) 0 n (λ j h t. let u = (gone_tells (0 + j)).fact t in some_value (0 + j) u.0 (f (0 + j) u.0) u.1)

    missing_place : (k : ℕ) → (first_of (accept_checks s) ≡ refusal 9 k)
        ↔ (In k × ((r : ℕ) → ¬ Clears (On (card_of s)) r (unit k)) × ((j : ℕ) → j < k → In j → Norm j))
    unfolding then IsNorm
    missing_place k = (
      (λ h. forth (first_of missing) refl (sym norms_found ∙ h)),
      (λ w.
          norms_found
          ∙ rw ((in_missing 9 k).1
          (in_card k w.0, refused_single 9 k _ (gone_tells k) (w.0, none w), λ q l. (single_clear 9 q _ (gone_tells q)).1 (λ u. some_value q u.0 (w.2 q l u.0) u.1))) refl),
    )
      where
        none : In k × ((r : ℕ) → ¬ Clears (On (card_of s)) r (unit k)) × ((j : ℕ) → j < k → In j → Norm j) → v k ≡ 0
        none w = go (dec_lt 0 (v k))
          where
            go : Dec (0 < v k) → v k ≡ 0
            go (yes p) = absurd (w.1 (v k) (value k (λ z. omega arith)).0)
            go (no p) = omega arith

        forth : (g : Finding) → first_of missing ≡ g → then g (first_of over) ≡ refusal 9 k
            → In k × ((r : ℕ) → ¬ Clears (On (card_of s)) r (unit k)) × ((j : ℕ) → j < k → In j → Norm j)
        forth clear d h = let p = (in_over 9 k).0 h in absurd (omega (arith, (single_refused 10 k _ (large_tells k) 9 k p.1).0))
        forth (refusal y l) d h =
            let p = (in_missing 9 k).0 (d ∙ h) in
            let u = (single_refused 9 k _ (gone_tells k) 9 k p.1).2 in (
              u.0,
              no_value k u.0 u.1,
              (λ j i x. (v j, value j (λ z. (single_clear 9 j _ (gone_tells j)).0 (p.2 j i) (x, z)))),
            )

    over_place : (k : ℕ) → (first_of (accept_checks s) ≡ refusal 10 k)
        ↔ (In k × ((w : ℕ) × (norm_limit < w) × IsNorm (card_of s) (unit k) w) × ((j : ℕ) → In j → Norm j)
        × ((j : ℕ) → j < k → In j → (w : ℕ) × (w ≤ norm_limit) × IsNorm (card_of s) (unit j) w))
    unfolding then
    over_place k = (
      (λ h. forth (first_of missing) refl (sym norms_found ∙ h)),
      (λ w.
          norms_found
          ∙ rw (missing_clear w.2)
          ((in_over 10 k).1 (
            in_card k w.0,
            refused_single 10 k _ (large_tells k) (w.0, omega (arith, w.1.1, norm_one k w.1.0 w.0 w.1.2)),
            (λ q l. (single_clear 10 q _ (large_tells q)).1 (λ z. let u = w.3 q l z.0 in omega (arith, z.1, u.1, norm_one q u.0 z.0 u.2))),
          ))),
    )
      where
        forth : (g : Finding) → first_of missing ≡ g → then g (first_of over) ≡ refusal 10 k
            → In k × ((w : ℕ) × (norm_limit < w) × IsNorm (card_of s) (unit k) w) × ((j : ℕ) → In j → Norm j)
            × ((j : ℕ) → j < k → In j → (w : ℕ) × (w ≤ norm_limit) × IsNorm (card_of s) (unit j) w)
        forth (refusal y l) d h =
            let p = (in_missing 10 k).0 (d ∙ h) in absurd (omega (arith, (single_refused 9 k _ (gone_tells k) 10 k p.1).0))
        forth clear d h =
            let p = (in_over 10 k).0 h in
            let u = (single_refused 10 k _ (large_tells k) 10 k p.1).2 in
            let all : (j : ℕ) → In j → IsNorm (card_of s) (unit j) (v j) = λ j x. value j (λ z. each_none 9 (λ k. both (r k) (eqb (v k) 0)) 0 n d j (in_card j x) (here j ((gone_tells j).test (x, z)))) in (
              u.0,
              (v k, u.1, all k u.0),
              (λ j x. (v j, all j x)),
              (λ j i x. (v j, below_limit (v j) (λ z. (single_clear 10 j _ (large_tells j)).0 (p.2 j i) (x, z)), all j x)),
            )
          where
            here : (j : ℕ) → T (both (r j) (eqb (v j) 0)) → T (both (r (0 + j)) (eqb (v (0 + j)) 0))
            here j t = let z : 0 + j ≡ j = omega arith in rw z t

            below_limit : (x : ℕ) → ¬ (norm_limit < x) → x ≤ norm_limit
            below_limit x h = omega arith

  pub sheet_places : Places s
  unfolding n v
  sheet_places = record { kind_place = kind_place; code_place = code_place; missing_place = missing_place; over_place = over_place }
