-- A refusal's number and place are small, so that the number returned for it has 32 bits.
use mathlib.Core.Bool.{Bool, true, false, not}
use mathlib.Core.List.{List, [], ◌∷◌, ◌++◌}
use mathlib.Core.Path.{◌≡◌, refl}
use Prim.Native.Nat.{ℕ, zero, suc, ◌+◌, ◌^◌, ◌≤◌, ◌<◌}
use native.Mathlib.Omega.{arith}
use lib.Dec.{eqb, ltb}
use lib.ListN.{length}
use Rattle.model.specs.Sense.{Sense}
use Rattle.model.specs.Finite.{both, concat, list_from}
use Rattle.model.specs.Card.{reached}
use Rattle.model.specs.Norm.{kind_norm}
use Rattle.model.specs.Limits.{norm_limit}
use Rattle.model.specs.Sheet.{u16_at, kind_count, line_count, line_of, code_count, card_of}
use Rattle.theory.specs.Widths.{Bytes}
use Rattle.model.specs.Refusal.{Check, check, Finding, clear, refusal, first_of, header_checks, line_checks, norm_checks, sheet_checks, accept_checks, settle_checks, settle_since_checks, compare_checks, form_checks, walk_checks, row_checks, shelf_number_checks, shelf_field_checks, squads_checks, frequencies_checks}
use Rattle.model.specs.Answer.{Answer, refused, given, Lent, LentMarks, Session, Walked, row_check_of, settle_of, settle_since_of, compare_in, forming_in, walk_of, shelf_number_of, shelf_field_of, squads_of, frequencies_of}
use Rattle.theory.proofs.Sheets.{then, first_append}
use Rattle.arrays.specs.Reply.{code_of}

abbrev pub Small : Finding → Type 0
Small clear = Unit {0}
Small (refusal k p) = (k ≤ 255) × (p ≤ 65535)

-- Of a check before others, of two lists of checks, and of a list for each number.
small_nil : Small (first_of [])
unfolding first_of
small_nil = tt

small_cons : (k p : ℕ) (b : Bool) (xs : List Check) → k ≤ 255 → p ≤ 65535 → Small (first_of xs) → Small (first_of (check k p b ∷ xs))
unfolding first_of
small_cons k p true xs h l r = (h, l)
small_cons k p false xs h l r = r

small_append : (xs ys : List Check) → Small (first_of xs) → Small (first_of ys) → Small (first_of (xs ++ ys))
unfolding then
small_append xs ys h l = rw first_append (go (first_of xs) h)
  where
    go : (f : Finding) → Small f → Small (then f (first_of ys))
    go clear h = l
    go (refusal k p) h = h

small_all : (f : ℕ → List Check) (i m : ℕ) → ((j : ℕ) → j < i + m → Small (first_of (f j))) → Small (first_of (concat (list_from f i m)))
unfolding concat list_from
small_all f i zero h = small_nil
small_all f i (suc m) h = small_append (f i) (concat (list_from f (suc i) m)) (h i (omega arith)) (small_all f (suc i) m (λ j l. h j (omega arith)))

small_each : (k : ℕ) (b : ℕ → Bool) (i m : ℕ) → k ≤ 255 → i + m ≤ 65536 → Small (first_of (list_from (λ j. check k j (b j)) i m))
unfolding list_from
small_each k b i zero h l = small_nil
small_each k b i (suc m) h l = small_cons k i (b i) (list_from (λ j. check k j (b j)) (suc i) m) h (omega arith) (small_each k b (suc i) m h (omega arith))

small_last : (k p : ℕ) (b : Bool) → k ≤ 255 → p ≤ 65535 → Small (first_of (check k p b ∷ []))
small_last k p b h l = small_cons k p b [] h l small_nil

pub row_small : (n k size : ℕ) → Small (first_of (row_checks n k size))
unfolding row_checks
row_small n k size =
    small_cons 2 0 _ _ (omega arith) (omega arith) (small_cons 11 0 _ _ (omega arith) (omega arith) (small_last 12 0 _ (omega arith) (omega arith)))

-- Of the checks of a sheet of bytes: its lines and kinds are numbers of two bytes.
module _ (s : List ℕ) (bytes : Bytes s) where
  u16_most : (i : ℕ) → u16_at s i ≤ 65535
  u16_most i = omega (arith, bytes i, bytes (i + 1))

  lines_most : line_count s ≤ 65535
  lines_most = u16_most 4

  kinds_most : kind_count s ≤ 65535
  kinds_most = u16_most 0

  header_small : Small (first_of (header_checks s))
  unfolding header_checks
  header_small =
      small_cons 1 0 _ _ (omega arith) (omega arith)
      (small_cons 2 0 _ _ (omega arith) (omega arith)
      (small_cons 3 0 _ _ (omega arith) (omega arith)
      (small_cons 4 0 _ _ (omega arith) (omega arith)
      (small_cons 5 0 _ _ (omega arith) (omega arith)
      (small_cons 6 0 _ _ (omega arith) (omega arith)
      (small_cons 6 1 _ _ (omega arith) (omega arith) (small_cons 6 2 _ _ (omega arith) (omega arith) (small_last 6 3 _ (omega arith) (omega arith)))))))))

  line_small : (j : ℕ) → j < 0 + line_count s
      → Small (first_of (check 7 j (not (ltb (line_of s j).kind (kind_count s))) ∷ check 8 j (not (ltb (line_of s j).code (code_count s))) ∷ []))
  line_small j h = let l : j ≤ 65535 = omega (arith, lines_most) in small_cons 7 j _ _ (omega arith) l (small_last 8 j _ (omega arith) l)

  lines_small : Small (first_of (line_checks s))
  unfolding line_checks
  lines_small = small_all _ 0 (line_count s) line_small

  pub sheet_small : Small (first_of (sheet_checks s))
  unfolding sheet_checks
  sheet_small = small_append (header_checks s) (line_checks s) header_small lines_small

  norms_small : Small (first_of (norm_checks s))
  unfolding norm_checks
  norms_small =
      let m : 0 + kind_count s ≤ 65536 = omega (arith, kinds_most) in
      small_append _ _ (small_each 9 (λ k. both (reached (card_of s) k) (eqb (kind_norm (card_of s) k) 0)) 0 (kind_count s) (omega arith) m) (small_each 10 (λ k. both (reached (card_of s) k) (ltb norm_limit (kind_norm (card_of s) k))) 0 (kind_count s) (omega arith) m)

  pub accept_small : Small (first_of (accept_checks s))
  accept_small = small_append (sheet_checks s) (norm_checks s) sheet_small norms_small

  settle_small : (size : ℕ) → Small (first_of (settle_checks s size))
  unfolding settle_checks
  settle_small size = small_append (accept_checks s) _ accept_small (small_last 12 0 _ (omega arith) (omega arith))

  since_small : (size marks : ℕ) → Small (first_of (settle_since_checks s size marks))
  unfolding settle_since_checks
  since_small size marks = small_append (accept_checks s) _ accept_small (small_cons 12 0 _ _ (omega arith) (omega arith) (small_last 12 0 _ (omega arith) (omega arith)))

  compare_small : (i j : ℕ) → Small (first_of (compare_checks s i j))
  unfolding compare_checks
  compare_small i j = small_append (accept_checks s) _ accept_small (small_cons 11 0 _ _ (omega arith) (omega arith) (small_last 11 1 _ (omega arith) (omega arith)))

  form_small : (i size : ℕ) → Small (first_of (form_checks s i size))
  unfolding form_checks
  form_small i size = small_append (accept_checks s) _ accept_small (small_cons 11 0 _ _ (omega arith) (omega arith) (small_last 12 0 _ (omega arith) (omega arith)))

  pub walk_small : (i j limit d : ℕ) → Small (first_of (walk_checks s i j limit d))
  unfolding walk_checks
  walk_small i j limit d =
      small_cons 16 0 _ _ (omega arith) (omega arith)
      (small_append (sheet_checks s) _ sheet_small
      (small_cons 11 0 _ _ (omega arith) (omega arith) (small_cons 11 1 _ _ (omega arith) (omega arith) (small_last 13 0 _ (omega arith) (omega arith)))))

  shelf_number_small : (i : ℕ) → Small (first_of (shelf_number_checks s i))
  unfolding shelf_number_checks
  shelf_number_small i = small_append (accept_checks s) _ accept_small (small_cons 11 0 _ _ (omega arith) (omega arith) (small_last 14 0 _ (omega arith) (omega arith)))

  shelf_field_small : (t x size : ℕ) → Small (first_of (shelf_field_checks s t x size))
  unfolding shelf_field_checks
  shelf_field_small t x size =
      small_append (accept_checks s) _ accept_small
      (small_cons 14 0 _ _ (omega arith) (omega arith) (small_cons 15 0 _ _ (omega arith) (omega arith) (small_last 12 0 _ (omega arith) (omega arith))))

  squads_small : (i j size : ℕ) → Small (first_of (squads_checks s i j size))
  unfolding squads_checks
  squads_small i j size =
      small_append (accept_checks s) _ accept_small
      (small_cons 11 0 _ _ (omega arith) (omega arith)
      (small_cons 11 1 _ _ (omega arith) (omega arith) (small_cons 17 1 _ _ (omega arith) (omega arith) (small_last 12 0 _ (omega arith) (omega arith)))))

  frequencies_small : (i t size : ℕ) → Small (first_of (frequencies_checks s i t size))
  unfolding frequencies_checks
  frequencies_small i t size =
      small_append (accept_checks s) _ accept_small
      (small_cons 11 0 _ _ (omega arith) (omega arith)
      (small_cons 14 0 _ _ (omega arith) (omega arith) (small_cons 18 0 _ _ (omega arith) (omega arith) (small_last 12 0 _ (omega arith) (omega arith)))))

-- What is refused is what the checks found.
pub found_fits : (f : Finding) → Small f → (k p : ℕ) → f ≡ refusal k p → code_of k p < 2 ^ 32
found_fits clear h k p e = let z : ◌≡◌ {A = ℕ} 0 1 = cc in absurd (omega arith)
found_fits (refusal j q) h k p e = let a : j ≡ k = cc in let b : q ≡ p = cc in omega (arith, h.0, h.1)

pub row_fits : (n k : ℕ) (table : List ℕ) (q p : ℕ) → row_check_of n k table ≡ refusal q p → code_of q p < 2 ^ 32
unfolding row_check_of
row_fits n k table q p e = found_fits (first_of (row_checks n k (length table))) (row_small n k (length table)) q p e

module _ {X A : Type 0} (answer : X → Answer A) (x : X) (r : ℕ → ℕ → X) (a : A) (gives : answer x ≡ given a) (refuses : (k p : ℕ) → answer (r k p) ≡ refused k p) where
  refused_fits : (f : Finding) → Small f → (k p : ℕ) → answer (elim f as (λ _. X) [ clear ↦ x | refusal k p ↦ r k p ]) ≡ refused k p → code_of k p < 2 ^ 32
  refused_fits clear h k p e = let z : ◌≡◌ {A = ℕ} 0 1 = cc in absurd (omega arith)
  refused_fits (refusal j q) h k p e =
      let d = refuses j q in
      let a : j ≡ k = cc in
      let b : q ≡ p = cc in
      omega (arith, h.0, h.1)

module _ (s : List ℕ) (bytes : Bytes s) (k p : ℕ) where
  pub settle_fits : (table : List ℕ) → (settle_of s table).answer ≡ refused k p → code_of k p < 2 ^ 32
  unfolding settle_of
  settle_fits table = refused_fits (λ (x : Lent ℕ). x.answer) _ _ _ refl (λ k p. refl) (first_of (settle_checks s (length table))) (settle_small s bytes (length table)) k p

  pub since_fits : (table marks : List ℕ) → (settle_since_of s table marks).answer ≡ refused k p → code_of k p < 2 ^ 32
  unfolding settle_since_of
  since_fits table marks =
      refused_fits (λ (x : LentMarks ℕ). x.answer) _ _ _ refl (λ k p. refl) (first_of (settle_since_checks s (length table) (length marks))) (since_small s bytes (length table) (length marks)) k p

  pub compare_fits : (sense : Sense) (i j : ℕ) → compare_in sense s i j ≡ refused k p → code_of k p < 2 ^ 32
  unfolding compare_in
  compare_fits sense i j = refused_fits (λ x. x) _ refused _ refl (λ k p. refl) (first_of (compare_checks s i j)) (compare_small s bytes i j) k p

  pub form_fits : (sense : Sense) (i : ℕ) (buffer : List ℕ) → (forming_in sense s i buffer).answer ≡ refused k p → code_of k p < 2 ^ 32
  unfolding forming_in
  form_fits sense i buffer = refused_fits (λ (x : Lent (Unit {0})). x.answer) _ _ tt refl (λ k p. refl) (first_of (form_checks s i (length buffer))) (form_small s bytes i (length buffer)) k p

  pub shelf_number_fits : (i : ℕ) → shelf_number_of s i ≡ refused k p → code_of k p < 2 ^ 32
  unfolding shelf_number_of
  shelf_number_fits i = refused_fits (λ x. x) _ refused _ refl (λ k p. refl) (first_of (shelf_number_checks s i)) (shelf_number_small s bytes i) k p

  pub shelf_field_fits : (t x : ℕ) (buffer : List ℕ) → (shelf_field_of s t x buffer).answer ≡ refused k p → code_of k p < 2 ^ 32
  unfolding shelf_field_of
  shelf_field_fits t x buffer =
      refused_fits (λ (y : Lent (Unit {0})). y.answer) _ _ tt refl (λ k p. refl) (first_of (shelf_field_checks s t x (length buffer))) (shelf_field_small s bytes t x (length buffer)) k p

  pub squads_fits : (i j : ℕ) (buffer : List ℕ) → (squads_of s i j buffer).answer ≡ refused k p → code_of k p < 2 ^ 32
  unfolding squads_of
  squads_fits i j buffer = refused_fits (λ (x : Lent ℕ). x.answer) _ _ _ refl (λ k p. refl) (first_of (squads_checks s i j (length buffer))) (squads_small s bytes i j (length buffer)) k p

  pub frequencies_fits : (i t : ℕ) (buffer : List ℕ) → (frequencies_of s i t buffer).answer ≡ refused k p → code_of k p < 2 ^ 32
  unfolding frequencies_of
  frequencies_fits i t buffer =
      refused_fits (λ (x : Lent (Unit {0})). x.answer) _ _ tt refl (λ k p. refl) (first_of (frequencies_checks s i t (length buffer))) (frequencies_small s bytes i t (length buffer)) k p

  pub walk_fits : (i j limit d : ℕ) (v : Session) → (walk_of s i j limit d v).answer ≡ refused k p → code_of k p < 2 ^ 32
  unfolding walk_of
  walk_fits i j limit d v = refused_fits (λ (x : Walked). x.answer) _ _ _ refl (λ k p. refl) (first_of (walk_checks s i j limit d)) (walk_small s bytes i j limit d) k p
