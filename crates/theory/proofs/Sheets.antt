-- What an accepted sheet has, and what the checks come to.
use mathlib.Core.Bool.{Bool, true, false, not}
use mathlib.Core.List.Memᴰ
use mathlib.Core.List.{List, [], ◌∷◌, ◌++◌, Memᴰ}
use mathlib.Core.Logic.{◌↔◌}
use mathlib.Core.Path.{◌≡◌, refl, sym, ◌∙◌, ap}
use Prim.Native.Nat.{ℕ, ◌+◌, ◌*◌, ◌≤◌, ◌<◌}
use native.Mathlib.Decide.{dec_lt}
use native.Mathlib.Nat.{mul-le-mul_left}
use native.Mathlib.Omega.{arith}
use lib.Dec.{T, eqb, ltb, ltb→lt, lt→ltb, T_not}
use lib.ListN.{length, get_or-eq_default}
use Rattle.model.specs.Finite.{both, either, list_from}
use Rattle.model.specs.Field.{Field}
use Rattle.model.specs.Card.{Line, On, Reached, held, reached}
use Rattle.model.specs.Norm.{kind_norm}
use Rattle.theory.specs.Terms.{OfKinds}
use Rattle.theory.specs.Meanings.{Firsts, Reaches}
use Rattle.model.specs.Sheet.{byte, kind_count, code_count, line_count, field_count, fields_offset, total_of, counts, line_of, card_of, field_of}
use Rattle.model.specs.Limits.{most_kinds, norm_limit}
use Rattle.model.specs.Refusal.{Check, check, Finding, clear, refusal, first_of, outside, differ, header_checks, line_checks, norm_checks, sheet_checks, Accepted}
use Rattle.theory.proofs.Exec.{Tells, tells_and, tells_lt, tells_eq}
use Rattle.theory.proofs.Lists.{mem_from, from_mem, is_true}
use Rattle.theory.proofs.Reach.{reaches_all, reached_only}
use Rattle.theory.proofs.Enumerate.{concat_mem}
use Rattle.theory.proofs.Certified.{Found}
use Rattle.theory.proofs.Fewest.{Tame, norm_reached, found}

-- A refusal hides what comes after it.
unfoldable pub then : Finding → Finding → Finding
then clear g = g
then (refusal k p) g = refusal k p

pub first_append : (xs ys : List Check) → first_of (xs ++ ys) ≡ then (first_of xs) (first_of ys)
unfolding first_of then
first_append [] ys = refl
first_append (x ∷ xs) ys = go x.applies (first_append xs ys)
  where
    go : (b : Bool) → first_of (xs ++ ys) ≡ then (first_of xs) (first_of ys)
        → (elim b as (λ _. Finding) [ true ↦ refusal x.number x.place | false ↦ first_of (xs ++ ys) ])
        ≡ then (elim b as (λ _. Finding) [ true ↦ refusal x.number x.place | false ↦ first_of xs ]) (first_of ys)
    go true e = refl
    go false e = e

-- What is clear is no refusal.
pub never : {A : Type 0} (k p : ℕ) → ◌≡◌ {A = Finding} clear (refusal k p) → A
never k p e = let z : ◌≡◌ {A = ℕ} 0 1 = cc in absurd (omega arith)

pub then_clear : (f g : Finding) → then f g ≡ clear → (f ≡ clear) × (g ≡ clear)
unfolding then
then_clear clear g e = (refl, e)
then_clear (refusal k p) g e = never k p (sym e)

-- Nothing applies where the checks come out clear, and the other way round.
pub clear_none : {x : Check} {xs : List Check} → Memᴰ x xs → first_of xs ≡ clear → ¬ T x.applies
unfolding first_of
clear_none {x} (Memᴰ.head {x = y} {xs = xs} e) h t = go y.applies refl h
  where
    go : (b : Bool) → y.applies ≡ b → (elim b as (λ _. Finding) [ true ↦ refusal y.number y.place | false ↦ first_of xs ]) ≡ clear → ⊥
    go true q r = never _ _ (sym r)
    go false q r = rw (ap (λ (z : Check). z.applies) e ∙ q) at t
clear_none {x} (Memᴰ.tail {x = y} {xs = xs} m) h t = go y.applies h (clear_none m)
  where
    go : (b : Bool) → (elim b as (λ _. Finding) [ true ↦ refusal y.number y.place | false ↦ first_of xs ]) ≡ clear → (first_of xs ≡ clear → ¬ T x.applies) → ⊥
    go true r f = never _ _ (sym r)
    go false r f = f r t

none_clear : (xs : List Check) → ((x : Check) → Memᴰ x xs → ¬ T x.applies) → first_of xs ≡ clear
unfolding first_of
none_clear [] f = refl
none_clear (x ∷ xs) f = go x.applies refl (none_clear xs (λ y m. f y (Memᴰ.tail m)))
  where
    go : (b : Bool) → x.applies ≡ b → first_of xs ≡ clear → (elim b as (λ _. Finding) [ true ↦ refusal x.number x.place | false ↦ first_of xs ]) ≡ clear
    go true e r = absurd (f x (Memᴰ.head refl) (rw e tt))
    go false e r = r

-- The first check that applies, with those before it that do not.
abbrev First : List Check → ℕ → ℕ → Type 0
First xs k p = (before : List Check) × (after : List Check) × (xs ≡ before ++ (check k p true ∷ after)) × ((x : Check) → Memᴰ x before → ¬ T x.applies)

to_first : (xs : List Check) (k p : ℕ) → first_of xs ≡ refusal k p → First xs k p
unfolding first_of
to_first [] k p e = let z : ◌≡◌ {A = ℕ} 0 1 = cc in absurd (omega arith)
to_first (x ∷ xs) k p e = go x.applies refl e (to_first xs k p)
  where
    same_check : (b : Bool) → x.applies ≡ b → x ≡ check x.number x.place b
    same_check b d = ap (check x.number x.place) d

    go : (b : Bool) → x.applies ≡ b → (elim b as (λ _. Finding) [ true ↦ refusal x.number x.place | false ↦ first_of xs ]) ≡ refusal k p
        → (first_of xs ≡ refusal k p → First xs k p) → First (x ∷ xs) k p
    go true d r f =
        let i : x.number ≡ k = cc in
        let j : x.place ≡ p = cc in
        ([], xs, rw (← i, ← j) (ap (λ (y : Check). y ∷ xs) (same_check true d)), λ y m. elim m [ ])
    go false d r f = let u = f r in (x ∷ u.0, u.1, ap (λ (l : List Check). x ∷ l) u.2, λ y m t. each y m t u.3)
      where
        each : (y : Check) {before : List Check} → Memᴰ y (x ∷ before) → T y.applies → ((z : Check) → Memᴰ z before → ¬ T z.applies) → ⊥
        each y (Memᴰ.head q) t g = rw (ap (λ (z : Check). z.applies) q ∙ d) at t
        each y (Memᴰ.tail m) t g = g y m t

from_first : (xs : List Check) (k p : ℕ) → First xs k p → first_of xs ≡ refusal k p
unfolding then first_of
from_first xs k p (before, after, e, f) = rw (e, first_append before (check k p true ∷ after), none_clear before f) refl

pub firsts : (xs : List Check) → Firsts xs
firsts xs = record {
  given_iff = λ k p. (to_first xs k p, from_first xs k p);
  clear_iff = ((λ e x m. clear_none m e), none_clear xs);
}

pub clear_cons : (k p : ℕ) (b : Bool) (xs : List Check) → ¬ T b → first_of xs ≡ clear → first_of (check k p b ∷ xs) ≡ clear
unfolding first_of
clear_cons k p true xs n e = absurd (n tt)
clear_cons k p false xs n e = e

pub clear_nil : first_of [] ≡ clear
unfolding first_of
clear_nil = refl

pub small : (i n : ℕ) → ¬ T (not (ltb i n)) → i < n
small i n h = ltb→lt i n (go (ltb i n) h)
  where
    go : (b : Bool) → ¬ T (not b) → T b
    go true m = tt
    go false m = m tt

pub not_small : (i n : ℕ) → i < n → ¬ T (not (ltb i n))
not_small i n h t = T_not (ltb i n) t (lt→ltb i n h)

pub not_less : (i n : ℕ) → n ≤ i → ¬ T (ltb i n)
not_less i n h t = omega (arith, ltb→lt i n t)

counts_kind : (n : ℕ) (f : ℕ → ℕ) (k : ℕ) → 0 < counts n f k → k < n
unfolding counts
counts_kind n f k h = go (ltb k n) (tells_lt k n) h
  where
    go : (b : Bool) → Tells b (k < n) → 0 < (elim b as (λ _. ℕ) [ true ↦ f k | false ↦ 0 ]) → k < n
    go true t q = t.fact tt
    go false t q = absurd (omega arith)

counts_none : (n : ℕ) (f : ℕ → ℕ) (k : ℕ) → f k ≡ 0 → counts n f k ≡ 0
unfolding counts
counts_none n f k e = go (ltb k n)
  where
    go : (b : Bool) → ◌≡◌ {A = ℕ} (elim b as (λ _. ℕ) [ true ↦ f k | false ↦ 0 ]) 0
    go true = e
    go false = refl

field_kind : (s : List ℕ) (i k : ℕ) → 0 < field_of s i k → k < kind_count s
unfolding field_of
field_kind s i k h = counts_kind (kind_count s) _ k h

-- A field past the sheet's is empty: there are no bytes.
field_past : (s : List ℕ) → length s ≡ total_of s → (i : ℕ) → field_count s ≤ i → (k : ℕ) → field_of s i k ≡ 0
unfolding field_of total_of
field_past s e i h k = counts_none (kind_count s) _ k (past (fields_offset s + 2 * kind_count s * i + 2 * k) (omega (arith, mul-le-mul_left (2 * kind_count s) h)))
  where
    past : (p : ℕ) → length s ≤ p → byte s p + 256 * byte s (p + 1) ≡ 0
    past p q =
        let q1 : length s ≤ p + 1 = omega arith in
        let a : byte s p ≡ 0 = get_or-eq_default s 0 q in
        let b : byte s (p + 1) ≡ 0 = get_or-eq_default s 0 q1 in
        omega arith

in_layout : (s : List ℕ) → Memᴰ (check 6 3 (differ (length s) (total_of s))) (header_checks s)
unfolding header_checks
in_layout s =
    Memᴰ.tail (Memᴰ.tail (Memᴰ.tail (Memᴰ.tail (Memᴰ.tail (Memᴰ.tail (Memᴰ.tail (Memᴰ.tail (Memᴰ.head refl))))))))

whole_length : (s : List ℕ) → first_of (sheet_checks s) ≡ clear → length s ≡ total_of s
unfolding sheet_checks
whole_length s e = go (eqb (length s) (total_of s)) (tells_eq (length s) (total_of s)) (clear_none (Memᴰ.append_left (line_checks s) (in_layout s)) e)
  where
    go : (b : Bool) → Tells b (length s ≡ total_of s) → ¬ T (not b) → length s ≡ total_of s
    go true t n = t.fact tt
    go false t n = absurd (n tt)

-- A field of the sheet is of reached kinds.
pub field_kinds : (s : List ℕ) → first_of (sheet_checks s) ≡ clear → (i : ℕ) → OfKinds (card_of s) (field_of s i)
unfolding card_of
field_kinds s e i k h = go (dec_lt i (field_count s))
  where
    go : Dec (i < field_count s) → Reached (card_of s) k
    go (yes q) = let z : 0 + i ≡ i = omega arith in held (field_of s i) (rw z at (from_mem (field_of s) 0 (field_count s) i q)) h
    go (no q) = absurd (omega (arith, field_past s (whole_length s e) i (omega arith) k))

left_kind : (s : List ℕ) (j k : ℕ) → 0 < (line_of s j).left k → k < kind_count s
unfolding line_of
left_kind s j k h = counts_kind (kind_count s) _ k h

in_header : (s : List ℕ) → Memᴰ (check 2 0 (outside 1 most_kinds (kind_count s))) (header_checks s)
unfolding header_checks
in_header s = Memᴰ.tail (Memᴰ.head refl)

in_lines : (s : List ℕ) (j : ℕ) → j < line_count s → Memᴰ (check 7 j (not (ltb (line_of s j).kind (kind_count s)))) (line_checks s)
unfolding line_checks
in_lines s j h =
    let e : 0 + j ≡ j = omega arith in
    let f : ℕ → List Check = λ j. check 7 j (not (ltb (line_of s j).kind (kind_count s))) ∷ check 8 j (not (ltb (line_of s j).code (code_count s))) ∷ [] in
    concat_mem (f j) _ (rw (ap f e) at (from_mem f 0 (line_count s) j h)) (Memᴰ.head refl)

line_left : (s : List ℕ) (l : Line) → On (card_of s) l → (k : ℕ) → 0 < l.left k → k < kind_count s
unfolding card_of
line_left s l m k h =
    let t = mem_from (line_of s) 0 (line_count s) l m in
    left_kind s (0 + t.0) k (rw (ap (λ (x : Line). x.left k) t.2) at h)

entered : (s : List ℕ) (a : Field) → Memᴰ a (card_of s).fields → (k : ℕ) → 0 < a k → k < kind_count s
unfolding card_of
entered s a m k h =
    let t = mem_from (field_of s) 0 (field_count s) a m in
    field_kind s (0 + t.0) k (rw (ap (λ (x : Field). x k) t.2) at h)

-- Of any sheet: the kinds that are reached.
pub sheet_reaches : (s : List ℕ) → Reaches (card_of s)
unfolding card_of
sheet_reaches s = reaches_all (card_of s) (entered s) (line_left s)

-- By the numbers of fields and lines: any test that holds of the kinds that fields hold, goes on along the lines and holds of reached kinds alone is the search's.
pub sheet_reached_only : (s : List ℕ) (p : ℕ → Bool) → ((i : ℕ) → i < field_count s → (k : ℕ) → 0 < field_of s i k → p k ≡ true)
    → ((j : ℕ) → j < line_count s → p (line_of s j).kind ≡ true → (k : ℕ) → 0 < (line_of s j).left k → p k ≡ true) → ((k : ℕ) → p k ≡ true → Reached (card_of s) k)
    → (k : ℕ) → p k ≡ reached (card_of s) k
unfolding card_of
sheet_reached_only s p start next sound = reached_only (card_of s) (entered s) (line_left s) p holds leaves (λ k t. sound k (is_true (p k) t))
  where
    holds : (a : Field) → Memᴰ a (card_of s).fields → (k : ℕ) → 0 < a k → T (p k)
    holds a m k h =
        let t = mem_from (field_of s) 0 (field_count s) a m in
        let e = start (0 + t.0) (omega (arith, t.1)) k (rw (ap (λ (x : Field). x k) t.2) at h) in
        rw e tt

    leaves : (l : Line) → On (card_of s) l → T (p l.kind) → (k : ℕ) → 0 < l.left k → T (p k)
    leaves l m u k h =
        let t = mem_from (line_of s) 0 (line_count s) l m in
        let v = is_true _ (rw (ap (λ (x : Line). x.kind) t.2) at u) in
        let e = next (0 + t.0) (omega (arith, t.1)) v k (rw (ap (λ (x : Line). x.left k) t.2) at h) in
        rw e tt

pub under_kinds : (s : List ℕ) (k : ℕ) → Reached (card_of s) k → k < kind_count s
unfolding card_of
under_kinds s k v = (sheet_reaches s).under k v

-- A sheet that passes 1 to 8 has lines of its kinds alone.
pub tame : (s : List ℕ) → first_of (sheet_checks s) ≡ clear → Tame (card_of s)
unfolding card_of sheet_checks
tame s e = record { kinds = kind; counts = line_left s; entered = entered s }
  where
    lines : first_of (line_checks s) ≡ clear
    lines = (then_clear (first_of (header_checks s)) (first_of (line_checks s)) (sym (first_append (header_checks s) (line_checks s)) ∙ e)).1

    line : (l : Line) → Memᴰ l (list_from (line_of s) 0 (line_count s)) → (j : ℕ) × (j < line_count s) × (l ≡ line_of s (0 + j))
    line l m = mem_from (line_of s) 0 (line_count s) l m

    kind_of : (j : ℕ) → j < line_count s → (line_of s j).kind < kind_count s
    kind_of j h = small _ _ (clear_none (in_lines s j h) lines)

    kind : (l : Line) → Memᴰ l (list_from (line_of s) 0 (line_count s)) → l.kind < kind_count s
    kind l m = let t = line l m in rw t.2 (kind_of (0 + t.0) (omega (arith, t.1)))

module _ (s : List ℕ) (ok : Accepted s) where
  both_clear : (first_of (sheet_checks s) ≡ clear) × (first_of (norm_checks s) ≡ clear)
  unfolding Accepted
  both_clear = then_clear (first_of (sheet_checks s)) (first_of (norm_checks s)) (sym (first_append (sheet_checks s) (norm_checks s)) ∙ ok)

  pub sheet_clear : first_of (sheet_checks s) ≡ clear
  sheet_clear = both_clear.0

  -- An accepted sheet's checks leave the call's own.
  pub call_checks : (xs : List Check) → first_of (sheet_checks s ++ norm_checks s ++ xs) ≡ first_of xs
  unfolding then Accepted
  call_checks xs = first_append (sheet_checks s ++ norm_checks s) xs ∙ rw ok refl

  pub some_kind : 0 < kind_count s
  unfolding sheet_checks
  some_kind = go (ltb (kind_count s) 1) (tells_lt (kind_count s) 1) out
    where
      out : ¬ T (outside 1 most_kinds (kind_count s))
      out = clear_none (Memᴰ.append_left (line_checks s) (in_header s)) both_clear.0

      go : (b : Bool) → Tells b (kind_count s < 1) → ¬ T (either b (ltb most_kinds (kind_count s))) → 0 < kind_count s
      go true t n = absurd (n tt)
      go false t n = pos (dec_lt 0 (kind_count s))
        where
          pos : Dec (0 < kind_count s) → 0 < kind_count s
          pos (yes h) = h
          pos (no h) = absurd (t.test (omega arith))

  pub tells_reached : (k : ℕ) → Tells (reached (card_of s) k) (Reached (card_of s) k)
  tells_reached k = record { fact = ((sheet_reaches s).test_iff k).0; test = ((sheet_reaches s).test_iff k).1 }

  pub positive : (k : ℕ) → Reached (card_of s) k → 0 < kind_norm (card_of s) k
  unfolding norm_checks
  positive k h = pos (dec_lt 0 (v k))
    where
      v : ℕ → ℕ
      v = kind_norm (card_of s)

      r : ℕ → Bool
      r = reached (card_of s)

      zero_left : (k : ℕ) → 0 + k ≡ k
      zero_left k = omega arith

      missing : ¬ T (both (r k) (eqb (v k) 0))
      missing =
          clear_none
          (Memᴰ.append_left (list_from (λ k. check 10 k (both (r k) (ltb norm_limit (v k)))) 0 (kind_count s))
          (rw (ap (λ j. check 9 j (both (r j) (eqb (v j) 0))) (zero_left k)) at (from_mem (λ k. check 9 k (both (r k) (eqb (v k) 0))) 0 (kind_count s) k (under_kinds s k h))))
          both_clear.1

      pos : Dec (0 < v k) → 0 < v k
      pos (yes q) = q
      pos (no q) = absurd (missing ((tells_and _ _ (tells_reached k) (tells_eq (v k) 0)).test (h, omega arith)))

  -- On an accepted sheet the norm tells: it is 0 just for a kind that is out.
  pub norm_tells : (k : ℕ) → (0 < kind_norm (card_of s) k) ↔ Reached (card_of s) k
  norm_tells k = (norm_reached (card_of s) (tame s sheet_clear) k, positive k)

  pub certified : Found (card_of s) (kind_norm (card_of s))
  certified = found (card_of s) (tame s sheet_clear) positive
